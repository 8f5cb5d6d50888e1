-- A rack over whole runs.
use Rattle.std.proofs.Common.{◌≡◌, ℕ, zero, suc, ◌+◌, ◌≤◌, ◌<◌, ◌==◌, ◌∙◌, Bool, true, false, is_some, if◌then◌else◌, Option, Some, None, List, [], ◌∷◌, map, slice_get, refl, ap, sym, subst, arith}
use Rattle.std.proofs.lemmas.Option.{none-some, same_Some}
use Rattle.std.proofs.lemmas.Bool.{eqb-true, eqb-false, eq-eqb}
use Rattle.grpc_base.specs.declared.event.Conn.{Conn}
use Rattle.lb_policy.specs.declared.seen.SubSeen.{SubSeen}
use Rattle.lb_policy.specs.Table.{PolicySeen}
use Rattle.lb_policy.specs.Steps.{emptied, given, noted, turned}
use Rattle.policy_rack.specs.declared.live.Live.{Live}
use Rattle.policy_rack.specs.Steps.{RackSeen, new_rack, changed, changed_of, renewed, begun, noted_by_live, may_take_over, taken_over, asked, all_retired, is_at}
use Rattle.policy_rack.specs.Runs.{RackCall, Adopt, Note, TakeOver, Ask, RetireAll, after_call, after_calls, GenerationsAreLive, SparesAreEmpty, IsKept, RackKeeps}

-- the policies after one of them changed
other-place : (f : PolicySeen → PolicySeen) (ps : List PolicySeen) (j i : ℕ) → (j ≡ i → ⊥) → slice_get (changed f ps j) i ≡ slice_get ps i
other-place f [] j i h = refl
other-place f (p ∷ ps) zero zero h = absurd (h refl)
other-place f (p ∷ ps) zero (suc i) h = refl
other-place f (p ∷ ps) (suc j) zero h = refl
other-place f (p ∷ ps) (suc j) (suc i) h = other-place f ps j i (λ e. h (ap suc e))

same-place : (ps : List PolicySeen) (i : ℕ) (q : PolicySeen) → slice_get (changed emptied ps i) i ≡ Some q → (q.view ≡ []) × (q.failed ≡ []) × (q.turns ≡ 0)
same-place [] i q e = absurd (none-some q e)
same-place (p ∷ ps) zero q e = let s : emptied p ≡ q = same_Some _ _ e in (sym (ap (λ (x : PolicySeen). x.view) s), sym (ap (λ (x : PolicySeen). x.failed) s), sym (ap (λ (x : PolicySeen). x.turns) s))
same-place (p ∷ ps) (suc i) q e = same-place ps i q e

-- a policy that is in use may change
kept-at : (f : PolicySeen → PolicySeen) (ps : List PolicySeen) (c n : Option Live) (j : ℕ) → ((i : ℕ) → is_at i c ≡ false → is_at i n ≡ false → j ≡ i → ⊥) → SparesAreEmpty ps c n → SparesAreEmpty (changed f ps j) c n
kept-at f ps c n j away spare i p e hc hn = spare i p (sym (other-place f ps j i (away i hc hn)) ∙ e) hc hn

kept-current : (f : PolicySeen → PolicySeen) (ps : List PolicySeen) (c n : Option Live) → SparesAreEmpty ps c n → SparesAreEmpty (changed_of f c ps) c n
kept-current f ps None n spare = spare
kept-current f ps (Some l) n spare = kept-at f ps (Some l) n l.place (λ i hc hn. eqb-false l.place i hc) spare

kept-pending : (f : PolicySeen → PolicySeen) (ps : List PolicySeen) (c n : Option Live) → SparesAreEmpty ps c n → SparesAreEmpty (changed_of f n ps) c n
kept-pending f ps c None spare = spare
kept-pending f ps c (Some l) spare = kept-at f ps c (Some l) l.place (λ i hc hn. eqb-false l.place i hn) spare

-- one that is reset is spare
reset-at : (ps : List PolicySeen) (c : Option Live) (l : Live) → SparesAreEmpty ps c (Some l) → (i : ℕ) (p : PolicySeen) (b : Bool) → (l.place == i) ≡ b → slice_get (changed emptied ps l.place) i ≡ Some p → is_at i c ≡ false → (p.view ≡ []) × (p.failed ≡ []) × (p.turns ≡ 0)
reset-at ps c l spare i p true h e hc = same-place ps i p (subst (λ (j : ℕ). slice_get (changed emptied ps j) i ≡ Some p) (eqb-true l.place i h) e)
reset-at ps c l spare i p false h e hc = spare i p (sym (other-place emptied ps l.place i (eqb-false l.place i h)) ∙ e) hc h

dropped : (ps : List PolicySeen) (c n : Option Live) → SparesAreEmpty ps c n → SparesAreEmpty (changed_of emptied n ps) c None
dropped ps c None spare = spare
dropped ps c (Some l) spare = λ i p e hc hn. reset-at ps c l spare i p (l.place == i) refl e hc

swapped : (ps : List PolicySeen) (c n : Option Live) → SparesAreEmpty ps c n → SparesAreEmpty ps n c
swapped ps c n spare = λ i p e hn hc. spare i p e hc hn

-- each call
live-alone : (c n : Option Live) (made : ℕ) → GenerationsAreLive c n made → GenerationsAreLive c None made
live-alone None None made h = tt
live-alone None (Some b) made h = tt
live-alone (Some a) None made h = h
live-alone (Some a) (Some b) made h = let later : a.generation < b.generation = h.1 in let within : b.generation ≤ made = h.2 in omega arith

live-moved : (c n : Option Live) (made : ℕ) → GenerationsAreLive c n made → GenerationsAreLive n None made
live-moved None None made h = tt
live-moved None (Some b) made h = absurd h
live-moved (Some a) None made h = tt
live-moved (Some a) (Some b) made h = h.2

keeps-note : (sub : ℕ) (state : Conn) (r : RackSeen) → IsKept r → IsKept (noted_by_live sub state r)
keeps-note sub state r k = record {
  live = k.live;
  spare = kept-pending (noted sub state) _ r.current r.pending (kept-current (noted sub state) r.policies r.current r.pending k.spare);
}

keeps-ask : (r : RackSeen) → IsKept r → IsKept (asked r)
keeps-ask r k = record { live = k.live; spare = kept-current turned r.policies r.current r.pending k.spare }

keeps-take : (r : RackSeen) (b : Bool) → IsKept r → IsKept (if b then taken_over r else r)
keeps-take r true k = record {
  live = live-moved r.current r.pending r.made k.live;
  spare = dropped r.policies r.pending r.current (swapped r.policies r.current r.pending k.spare);
}
keeps-take r false k = k

keeps-retire : (r : RackSeen) → IsKept r → IsKept (all_retired r)
keeps-retire r k = record {
  live = tt;
  spare = dropped _ None r.pending (swapped _ r.pending None (dropped r.policies r.pending r.current (swapped r.policies r.current r.pending k.spare)));
}

-- a result: of the current, the pending or another policy
is-place : (place : ℕ) (l : Live) (i : ℕ) → (l.place == place) ≡ true → (l.place == i) ≡ false → place ≡ i → ⊥
is-place place l i at out same = eqb-false l.place i out (eqb-true l.place place at ∙ same)

at-current : (subs : List SubSeen) (place : ℕ) (ps : List PolicySeen) (c n : Option Live) → is_at place c ≡ true → SparesAreEmpty ps c n → SparesAreEmpty (changed (given subs) ps place) c n
at-current subs place ps None n at spare = let g : ⊥ = (cc) in absurd g
at-current subs place ps (Some l) n at spare = kept-at (given subs) ps (Some l) n place (λ i hc hn. is-place place l i at hc) spare

at-pending : (subs : List SubSeen) (place : ℕ) (ps : List PolicySeen) (c n : Option Live) → is_at place n ≡ true → SparesAreEmpty ps c n → SparesAreEmpty (changed (given subs) ps place) c n
at-pending subs place ps c n at spare = swapped _ n c (at-current subs place ps n c at (swapped ps c n spare))

-- a new generation
more-live : (ps : List PolicySeen) (c n : Option Live) → SparesAreEmpty ps c None → SparesAreEmpty ps c n
more-live ps c n spare = λ i p e hc hn. spare i p e hc refl

self-at : (place made : ℕ) → is_at place (Some (record { generation = made; place = place })) ≡ true
self-at place made = eq-eqb place place refl

begun-live : (place : ℕ) (c n : Option Live) (made : ℕ) → is_at place c ≡ false → GenerationsAreLive c n made → GenerationsAreLive (if is_some c then c else Some (record { generation = made + 1; place = place })) (if is_some c then Some (record { generation = made + 1; place = place }) else None) (made + 1)
begun-live place None None made out h = omega arith
begun-live place None (Some b) made out h = omega arith
begun-live place (Some a) None made out h = let within : a.generation ≤ made = h in (eqb-false a.place place out, omega arith, omega arith)
begun-live place (Some a) (Some b) made out h = let later : a.generation < b.generation = h.1 in let within : b.generation ≤ made = h.2 in (eqb-false a.place place out, omega arith, omega arith)

begun-spare : (subs : List SubSeen) (place : ℕ) (ps : List PolicySeen) (c : Option Live) (made : ℕ) → SparesAreEmpty ps c None → SparesAreEmpty (changed (given subs) ps place) (if is_some c then c else Some (record { generation = made + 1; place = place })) (if is_some c then Some (record { generation = made + 1; place = place }) else None)
begun-spare subs place ps None made spare = at-current subs place ps (Some (record { generation = made + 1; place = place })) None (self-at place (made + 1)) (λ i p e hc hn. spare i p e refl refl)
begun-spare subs place ps (Some a) made spare = at-pending subs place ps (Some a) (Some (record { generation = made + 1; place = place })) (self-at place (made + 1)) (more-live ps (Some a) (Some (record { generation = made + 1; place = place })) spare)

keeps-adopt : (subs : List SubSeen) (place : ℕ) (r : RackSeen) (b d : Bool) → is_at place r.current ≡ b → is_at place r.pending ≡ d → IsKept r → IsKept (if b then renewed subs place r else (if d then record r { policies = changed (given subs) r.policies place } else begun subs place r))
keeps-adopt subs place r true d at atp k = record {
  live = live-alone r.current r.pending r.made k.live;
  spare = at-current subs place _ r.current None at (dropped r.policies r.current r.pending k.spare);
}
keeps-adopt subs place r false true at atp k = record { live = k.live; spare = at-pending subs place r.policies r.current r.pending atp k.spare }
keeps-adopt subs place r false false at atp k = record {
  live = begun-live place r.current r.pending r.made at k.live;
  spare = begun-spare subs place _ r.current r.made (dropped r.policies r.current r.pending k.spare);
}

keeps-call : (call : RackCall) (r : RackSeen) → IsKept r → IsKept (after_call call r)
keeps-call (Adopt place subs) r k = keeps-adopt subs place r (is_at place r.current) (is_at place r.pending) refl refl k
keeps-call (Note sub state) r k = keeps-note sub state r k
keeps-call TakeOver r k = keeps-take r (may_take_over r) k
keeps-call Ask r k = keeps-ask r k
keeps-call RetireAll r k = keeps-retire r k

keeps-calls : (calls : List RackCall) (r : RackSeen) → IsKept r → IsKept (after_calls calls r)
keeps-calls [] r k = k
keeps-calls (call ∷ calls) r k = keeps-calls calls (after_call call r) (keeps-call call r k)

new-spare : (ps : List PolicySeen) (i : ℕ) (q : PolicySeen) → slice_get (map emptied ps) i ≡ Some q → (q.view ≡ []) × (q.failed ≡ []) × (q.turns ≡ 0)
new-spare [] i q e = absurd (none-some q e)
new-spare (p ∷ ps) zero q e = let s : emptied p ≡ q = same_Some _ _ e in (sym (ap (λ (x : PolicySeen). x.view) s), sym (ap (λ (x : PolicySeen). x.failed) s), sym (ap (λ (x : PolicySeen). x.turns) s))
new-spare (p ∷ ps) (suc i) q e = new-spare ps i q e

pub rack-keeps : RackKeeps
rack-keeps calls policies = keeps-calls calls (new_rack policies) (record { live = tt; spare = λ i p e hc hn. new-spare policies i p e })
