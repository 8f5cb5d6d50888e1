-- The turns of the current generation are the pick requests that it answered.
use Rattle.std.proofs.Common.{◌≡◌, ◌≤◌, ◌<◌, ◌+◌, ◌==◌, ◌&&◌, ℕ, zero, suc, Bool, true, false, is_some, nat_lt, if◌then◌else◌, Option, Some, None, List, [], ◌∷◌, ◌++◌, map, slice_get, option_to_list, refl, ap, sym, subst, ◌∙◌, arith, append_assoc, append-nil}
use Rattle.std.specs.Option.{option_map, option_and_then}
use Rattle.std.proofs.lemmas.Option.{same_Some, none-some}
use Rattle.std.proofs.lemmas.Bool.{eqb-true, eqb-false, eq-eqb}
use Rattle.std.proofs.lemmas.Bool.Decides.{nat_tests}
use Rattle.grpc_base.specs.declared.event.Conn.{Conn}
use Rattle.grpc_base.specs.declared.kind.Kind.{Kind}
use Rattle.lb_policy.specs.declared.seen.SubSeen.{SubSeen}
use Rattle.lb_policy.specs.Table.{PolicySeen, pick_of}
use Rattle.lb_policy.specs.Steps.{emptied, given, noted, turned}
use Rattle.policy_rack.specs.declared.live.Live.{Live}
use Rattle.policy_rack.specs.Steps.{RackSeen, new_rack, changed, changed_of, renewed, begun, noted_by_live, may_take_over, taken_over, asked, is_at, live_of, policy_of}
use Rattle.policy_rack.specs.Runs as rack
use Rattle.policy_rack.specs.Runs.{RackCall, GenerationsAreLive, SparesAreEmpty, IsKept}
use Rattle.channel_net.specs.declared.replies.Asked.{Asked}
use Rattle.channel_net.specs.Askers.{AskerSeen, may_ask, answer_of}
use Rattle.channel_net.specs.Steps.{NetSeen, new_net}
use Rattle.channel_net.specs.Runs.{NetCall, Resolved, Dial, Up, DialFailed, Ready, Down, Clock, Settle, Ask, Shut, after_call, after_calls, net_of, answered_by, answered, times}
use Rattle.channel_net.specs.Laws as laws
use Rattle.channel_net.proofs.MoveLaws.{NoAsk, Orderly, Moves, orderly-new}
use Rattle.channel_net.proofs.RunLaws.{IsQuiet, quiet-moves, Follows, call-follows}

-- how often a generation answered
times-append : (g : ℕ) (xs ys : List ℕ) → times g (xs ++ ys) ≡ times g xs + times g ys
times-append g [] ys = omega arith
times-append g (x ∷ xs) ys = let next : times g (xs ++ ys) ≡ times g xs + times g ys = times-append g xs ys in omega arith

times-same : (g : ℕ) (xs : List ℕ) → times g (xs ++ g ∷ []) ≡ times g xs + 1
times-same g xs =
    let one : (if g == g then 1 else 0) ≡ 1 = ap (λ (b : Bool). if b then 1 else 0) (eq-eqb g g refl) in
    let more : times g (xs ++ g ∷ []) ≡ times g xs + ((if g == g then 1 else 0) + 0) = times-append g xs (g ∷ []) in
    more ∙ ap (λ (k : ℕ). times g xs + (k + 0)) one ∙ ap (λ (k : ℕ). times g xs + k) refl

other-by : (b : Bool) (g h : ℕ) → (h == g) ≡ b → (h ≡ g → ⊥) → ◌≡◌ {A = ℕ} (if h == g then 1 else 0) 0
other-by true g h e away = absurd (away (eqb-true h g e))
other-by false g h e away = ap (λ (b : Bool). if b then 1 else 0) e

plus-none : (a b c : ℕ) → a ≡ 0 → c ≡ b + (a + 0) → b ≡ 0 → c ≡ 0
plus-none a b c one e none = omega arith

times-other : (g h : ℕ) (xs : List ℕ) → (h ≡ g → ⊥) → times g xs ≡ 0 → times g (xs ++ h ∷ []) ≡ 0
times-other g h xs away none =
    plus-none (if h == g then 1 else 0) (times g xs) (times g (xs ++ h ∷ [])) (other-by (h == g) g h refl away) (times-append g xs (h ∷ [])) none

-- policies after one of them changed
abbrev SameTurns : (PolicySeen → PolicySeen) → Type 0
SameTurns f = (p : PolicySeen) → (f p).turns ≡ p.turns

get-same : (f : PolicySeen → PolicySeen) → SameTurns f → (ps : List PolicySeen) (i j : ℕ) (q : PolicySeen) → slice_get (changed f ps i) j ≡ Some q → (p : PolicySeen) × ((slice_get ps j ≡ Some p) × (q.turns ≡ p.turns))
get-same f same [] i j q e = absurd (none-some q e)
get-same f same (p ∷ ps) zero zero q e =
    (p, (refl, ap (λ (x : PolicySeen). x.turns) (sym (same_Some (f p) q e)) ∙ same p))
get-same f same (p ∷ ps) zero (suc j) q e = (q, (e, refl))
get-same f same (p ∷ ps) (suc i) zero q e = (q, (e, refl))
get-same f same (p ∷ ps) (suc i) (suc j) q e = get-same f same ps i j q e

pub get-other : (f : PolicySeen → PolicySeen) (ps : List PolicySeen) (i j : ℕ) → (i ≡ j → ⊥) → slice_get (changed f ps i) j ≡ slice_get ps j
get-other f [] i j away = refl
get-other f (p ∷ ps) zero zero away = absurd (away refl)
get-other f (p ∷ ps) zero (suc j) away = refl
get-other f (p ∷ ps) (suc i) zero away = refl
get-other f (p ∷ ps) (suc i) (suc j) away = get-other f ps i j (λ e. away (ap suc e))

get-turned : (ps : List PolicySeen) (i : ℕ) (q : PolicySeen) → slice_get (changed turned ps i) i ≡ Some q → (p : PolicySeen) × ((slice_get ps i ≡ Some p) × (q.turns ≡ p.turns + 1))
get-turned [] i q e = absurd (none-some q e)
get-turned (p ∷ ps) zero q e = (p, (refl, ap (λ (x : PolicySeen). x.turns) (sym (same_Some (turned p) q e))))
get-turned (p ∷ ps) (suc i) q e = get-turned ps i q e

-- what is counted of a rack
abbrev pub TurnsAre : List ℕ → List PolicySeen → Option Live → Type 0
TurnsAre done ps None = Unit {0}
TurnsAre done ps (Some live) = (p : PolicySeen) → slice_get ps live.place ≡ Some p → p.turns ≡ times live.generation done

abbrev pub NeverAsked : List ℕ → List PolicySeen → Option Live → Type 0
NeverAsked done ps None = Unit {0}
NeverAsked done ps (Some live) = ((p : PolicySeen) → slice_get ps live.place ≡ Some p → p.turns ≡ 0) × (times live.generation done ≡ 0)

abbrev pub AreFresh : List ℕ → ℕ → Type 0
AreFresh done made = (g : ℕ) → made < g → times g done ≡ 0

pub record Counted (done : List ℕ) (r : RackSeen) : Type 0 where
  pub current : TurnsAre done r.policies r.current
  pub pending : NeverAsked done r.policies r.pending
  pub fresh : AreFresh done r.made

turns-along : (f : PolicySeen → PolicySeen) → SameTurns f → (done : List ℕ) (ps : List PolicySeen) (c : Option Live) (i : ℕ) → TurnsAre done ps c → TurnsAre done (changed f ps i) c
turns-along f same done ps None i t = tt
turns-along f same done ps (Some live) i t = λ q e. (let p = get-same f same ps i live.place q e in p.1.1 ∙ t p.0 p.1.0)

never-along : (f : PolicySeen → PolicySeen) → SameTurns f → (done : List ℕ) (ps : List PolicySeen) (c : Option Live) (i : ℕ) → NeverAsked done ps c → NeverAsked done (changed f ps i) c
never-along f same done ps None i t = tt
never-along f same done ps (Some live) i t = ((λ q e. (let p = get-same f same ps i live.place q e in p.1.1 ∙ t.0 p.0 p.1.0)), t.1)

turns-of : (f : PolicySeen → PolicySeen) → SameTurns f → (done : List ℕ) (ps : List PolicySeen) (c at : Option Live) → TurnsAre done ps c → TurnsAre done (changed_of f at ps) c
turns-of f same done ps c None t = t
turns-of f same done ps c (Some live) t = turns-along f same done ps c live.place t

never-of : (f : PolicySeen → PolicySeen) → SameTurns f → (done : List ℕ) (ps : List PolicySeen) (c at : Option Live) → NeverAsked done ps c → NeverAsked done (changed_of f at ps) c
never-of f same done ps c None t = t
never-of f same done ps c (Some live) t = never-along f same done ps c live.place t

-- the other live policy
turns-apart : (f : PolicySeen → PolicySeen) (done : List ℕ) (ps : List PolicySeen) (live : Live) (i : ℕ) → (i ≡ live.place → ⊥) → TurnsAre done ps (Some live) → TurnsAre done (changed f ps i) (Some live)
turns-apart f done ps live i away t = λ q e. t q (sym (get-other f ps i live.place away) ∙ e)

without-pending : (done : List ℕ) (ps : List PolicySeen) (c n : Option Live) (made : ℕ) → GenerationsAreLive c n made → TurnsAre done ps c → TurnsAre done (changed_of emptied n ps) c
without-pending done ps None n made h t = tt
without-pending done ps (Some live) None made h t = t
without-pending done ps (Some live) (Some later) made h t = turns-apart emptied done ps live later.place (λ e. h.0 (sym e)) t

moved-on : (done : List ℕ) (ps : List PolicySeen) (c n : Option Live) (made : ℕ) → GenerationsAreLive c n made → NeverAsked done ps n → TurnsAre done (changed_of emptied c ps) n
moved-on done ps None None made h t = tt
moved-on done ps None (Some later) made h t = absurd h
moved-on done ps (Some live) None made h t = tt
moved-on done ps (Some live) (Some later) made h t = λ q e. t.0 q (sym (get-other emptied ps live.place later.place h.0) ∙ e) ∙ sym t.1

-- each call of a rack but a pick request
counted-note : (done : List ℕ) (sub : ℕ) (state : Conn) (r : RackSeen) → Counted done r → Counted done (noted_by_live sub state r)
counted-note done sub state r c =
    let ps : List PolicySeen = changed_of (noted sub state) r.current r.policies in
    record {
      current = turns-of (noted sub state) (λ p. refl) done ps r.current r.pending (turns-of (noted sub state) (λ p. refl) done r.policies r.current r.current c.current);
      pending = never-of (noted sub state) (λ p. refl) done ps r.pending r.pending (never-of (noted sub state) (λ p. refl) done r.policies r.pending r.current c.pending);
      fresh = c.fresh;
    }

counted-over : (b : Bool) (done : List ℕ) (r : RackSeen) → IsKept r → Counted done r → Counted done (if b then taken_over r else r)
counted-over true done r k c = record {
  current = moved-on done r.policies r.current r.pending r.made k.live c.pending;
  pending = tt;
  fresh = c.fresh;
}
counted-over false done r k c = c

-- the policy of a new generation has no turn
spare-at : (done : List ℕ) (ps : List PolicySeen) (c n : Option Live) (place : ℕ) (q : PolicySeen) → SparesAreEmpty ps c n → is_at place c ≡ false → is_at place n ≡ false → slice_get (changed_of emptied n ps) place ≡ Some q → q.turns ≡ 0
spare-at done ps c None place q spare atc atn e = (spare place q e atc atn).2
spare-at done ps c (Some later) place q spare atc atn e =
    (spare place q (sym (get-other emptied ps later.place place (eqb-false later.place place atn)) ∙ e) atc atn).2

new-turns : (done : List ℕ) (subs : List SubSeen) (ps : List PolicySeen) (c n : Option Live) (place : ℕ) (q : PolicySeen) → SparesAreEmpty ps c n → is_at place c ≡ false → is_at place n ≡ false → slice_get (changed (given subs) (changed_of emptied n ps) place) place ≡ Some q → q.turns ≡ 0
new-turns done subs ps c n place q spare atc atn e =
    let p = get-same (given subs) (λ (x : PolicySeen). refl) (changed_of emptied n ps) place place q e in
    p.1.1 ∙ spare-at done ps c n place p.0 spare atc atn p.1.0

begun-counted : (done : List ℕ) (subs : List SubSeen) (place : ℕ) (r : RackSeen) (c : Option Live) → r.current ≡ c → IsKept r → is_at place r.current ≡ false → is_at place r.pending ≡ false → Counted done r → Counted done (record { policies = changed (given subs) (changed_of emptied r.pending r.policies) place; current = if is_some c then c else Some (record { generation = r.made + 1; place = place }); pending = if is_some c then Some (record { generation = r.made + 1; place = place }) else None; made = r.made + 1 })
begun-counted done subs place r None e k atc atn t =
    let none : times (r.made + 1) done ≡ 0 = t.fresh (r.made + 1) (omega arith) in
    record {
      current = λ q at. new-turns done subs r.policies r.current r.pending place q k.spare atc atn at ∙ sym none;
      pending = tt;
      fresh = λ g h. t.fresh g (omega arith);
    }
begun-counted done subs place r (Some live) e k atc atn t =
    let none : times (r.made + 1) done ≡ 0 = t.fresh (r.made + 1) (omega arith) in
    let dropped : TurnsAre done (changed_of emptied r.pending r.policies) r.current = without-pending done r.policies r.current r.pending r.made k.live t.current in
    let current : TurnsAre done (changed (given subs) (changed_of emptied r.pending r.policies) place) r.current =
    turns-along (given subs) (λ p. refl) done (changed_of emptied r.pending r.policies) r.current place dropped in
    record {
      current = subst (TurnsAre done (changed (given subs) (changed_of emptied r.pending r.policies) place)) e current;
      pending = ((λ q at. new-turns done subs r.policies r.current r.pending place q k.spare atc atn at), none);
      fresh = λ g h. t.fresh g (omega arith);
    }

counted-adopt : (b d : Bool) (done : List ℕ) (subs : List SubSeen) (place : ℕ) (r : RackSeen) → is_at place r.current ≡ b → is_at place r.pending ≡ d → IsKept r → Counted done r → Counted done (if b then renewed subs place r else (if d then record r { policies = changed (given subs) r.policies place } else begun subs place r))
counted-adopt true d done subs place r atc atn k t = record {
  current = turns-along (given subs) (λ p. refl) done (changed_of emptied r.pending r.policies) r.current place (without-pending done r.policies r.current r.pending r.made k.live t.current);
  pending = tt;
  fresh = t.fresh;
}
counted-adopt false true done subs place r atc atn k t = record {
  current = turns-along (given subs) (λ p. refl) done r.policies r.current place t.current;
  pending = never-along (given subs) (λ p. refl) done r.policies r.pending place t.pending;
  fresh = t.fresh;
}
counted-adopt false false done subs place r atc atn k t = begun-counted done subs place r r.current refl k atc atn t

abbrev Quiet : RackCall → Type 0
Quiet rack.Ask = ⊥
Quiet _ = Unit {0}

counted-call : (call : RackCall) (done : List ℕ) (r : RackSeen) → Quiet call → IsKept r → Counted done r → Counted done (rack.after_call call r)
counted-call (rack.Adopt place subs) done r q k t = counted-adopt (is_at place r.current) (is_at place r.pending) done subs place r refl refl k t
counted-call (rack.Note sub state) done r q k t = counted-note done sub state r t
counted-call rack.TakeOver done r q k t = counted-over (may_take_over r) done r k t
counted-call rack.Ask done r q k t = absurd q
counted-call rack.RetireAll done r q k t = record { current = tt; pending = tt; fresh = t.fresh }

quiet-head : (call : RackCall) (calls : List RackCall) → NoAsk (call ∷ calls) → Quiet call × NoAsk calls
quiet-head (rack.Adopt place subs) calls q = (tt, q)
quiet-head (rack.Note sub state) calls q = (tt, q)
quiet-head rack.TakeOver calls q = (tt, q)
quiet-head rack.Ask calls q = absurd q
quiet-head rack.RetireAll calls q = (tt, q)

rack-append : (xs : List RackCall) (x : RackCall) (r : RackSeen) → rack.after_calls (xs ++ x ∷ []) r ≡ rack.after_call x (rack.after_calls xs r)
rack-append [] x r = refl
rack-append (y ∷ xs) x r = rack-append xs x (rack.after_call y r)

-- a rack that some calls made of a new one, with what is counted of it
pub record Reached (policies : List PolicySeen) (done : List ℕ) (r : RackSeen) : Type 0 where
  pub calls : List RackCall
  pub are : r ≡ rack.after_calls calls (new_rack policies)
  pub counted : Counted done r

is-kept : rack.RackKeeps → (policies : List PolicySeen) (done : List ℕ) (r : RackSeen) → Reached policies done r → IsKept r
is-kept keeps policies done r x = subst IsKept (sym x.are) (keeps x.calls policies)

reached-call : rack.RackKeeps → (policies : List PolicySeen) (done : List ℕ) (call : RackCall) (r : RackSeen) → Quiet call → Reached policies done r → Reached policies done (rack.after_call call r)
reached-call keeps policies done call r q x = record {
  calls = x.calls ++ call ∷ [];
  are = ap (rack.after_call call) x.are ∙ sym (rack-append x.calls call (new_rack policies));
  counted = counted-call call done r q (is-kept keeps policies done r x) x.counted;
}

reached-calls : rack.RackKeeps → (policies : List PolicySeen) (done : List ℕ) (calls : List RackCall) (r : RackSeen) → NoAsk calls → Reached policies done r → Reached policies done (rack.after_calls calls r)
reached-calls keeps policies done [] r q x = x
reached-calls keeps policies done (call ∷ calls) r q x =
    let both : Quiet call × NoAsk calls = quiet-head call calls q in
    reached-calls keeps policies done calls (rack.after_call call r) both.1 (reached-call keeps policies done call r both.0 x)

-- a pick request
asked-never : (done : List ℕ) (ps : List PolicySeen) (live : Live) (n : Option Live) (made : ℕ) → GenerationsAreLive (Some live) n made → NeverAsked done ps n → NeverAsked (done ++ live.generation ∷ []) (changed turned ps live.place) n
asked-never done ps live None made h t = tt
asked-never done ps live (Some later) made h t =
    let less : live.generation < later.generation = h.1 in
    ((λ q e. t.0 q (sym (get-other turned ps live.place later.place h.0) ∙ e)), times-other later.generation live.generation done (λ e. (let absurdity : ⊥ = absurd (omega arith) in absurdity)) t.1)

live-within : (live : Live) (n : Option Live) (made : ℕ) → GenerationsAreLive (Some live) n made → live.generation ≤ made
live-within live None made h = h
live-within live (Some later) made h =
    let less : live.generation < later.generation = h.1 in let most : later.generation ≤ made = h.2 in omega arith

pub asked-counted : (done : List ℕ) (r : RackSeen) (live : Live) → r.current ≡ Some live → IsKept r → Counted done r → Counted (done ++ live.generation ∷ []) (asked r)
asked-counted done r live e k t =
    let alive : GenerationsAreLive (Some live) r.pending r.made = subst (λ (c : Option Live). GenerationsAreLive c r.pending r.made) e k.live in
    let turns : TurnsAre done r.policies (Some live) = subst (TurnsAre done r.policies) e t.current in
    let same : changed turned r.policies live.place ≡ (asked r).policies = ap (λ (c : Option Live). changed_of turned c r.policies) (sym e) in
    let current : TurnsAre (done ++ live.generation ∷ []) (changed turned r.policies live.place) (Some live) =
    λ q at. (let p = get-turned r.policies live.place q at in p.1.1 ∙ ap (λ (m : ℕ). m + 1) (turns p.0 p.1.0) ∙ sym (times-same live.generation done)) in
    let pending : NeverAsked (done ++ live.generation ∷ []) (changed turned r.policies live.place) r.pending = asked-never done r.policies live r.pending r.made alive t.pending in
    let within : live.generation ≤ r.made = live-within live r.pending r.made alive in
    record {
      current = subst (λ (ps : List PolicySeen). TurnsAre (done ++ live.generation ∷ []) ps r.current) same (subst (TurnsAre (done ++ live.generation ∷ []) (changed turned r.policies live.place)) (sym e) current);
      pending = subst (λ (ps : List PolicySeen). NeverAsked (done ++ live.generation ∷ []) ps r.pending) same pending;
      fresh = λ g h. times-other g live.generation done (λ s. (let absurdity : ⊥ = absurd (omega arith) in absurdity)) (t.fresh g h);
    }

place-by : (ps : List PolicySeen) (live : Live) (o : Option PolicySeen) → slice_get ps live.place ≡ o → is_some {T = ℕ × Kind} (option_map (λ (p : PolicySeen). (live.generation, p.kind)) o) ≡ true → (l : Live) × ((p : PolicySeen) × ((Some live ≡ Some l) × (slice_get ps l.place ≡ Some p)))
place-by ps live None at e = let absurdity : ⊥ = (cc) in absurd absurdity
place-by ps live (Some p) at e = (live, (p, (refl, at)))

current-by : (ps : List PolicySeen) (c : Option Live) → is_some (live_of ps c) ≡ true → (live : Live) × ((p : PolicySeen) × ((c ≡ Some live) × (slice_get ps live.place ≡ Some p)))
current-by ps None e = let absurdity : ⊥ = (cc) in absurd absurdity
current-by ps (Some live) e = place-by ps live (slice_get ps live.place) refl e

answer-by : (r : RackSeen) (live : Live) (p : PolicySeen) → r.current ≡ Some live → slice_get r.policies live.place ≡ Some p → answer_of r ≡ Some (record { generation = live.generation; pick = pick_of p })
answer-by r live p e at =
    let made : Live → PolicySeen → Asked = λ l q. record { generation = l.generation; pick = pick_of q } in
    ap (λ (c : Option Live). option_and_then (λ (l : Live). option_map (made l) (policy_of r.policies c)) c) e ∙ ap (λ (o : Option PolicySeen). option_map (made live) o) at

both-true : (a b : Bool) → (a && b) ≡ true → a ≡ true
both-true true b e = refl
both-true false b e = e

asked-if : rack.RackKeeps → (policies : List PolicySeen) (done : List ℕ) (a : AskerSeen) (b : Bool) → may_ask a ≡ b → Reached policies done a.rack → Reached policies (done ++ map (λ (x : Asked). x.generation) (option_to_list (if b then answer_of a.rack else None))) (if b then record { rack = asked a.rack; asks = a.asks + 1 } else a).rack
asked-if keeps policies done a false e x =
    subst (λ (d : List ℕ). Reached policies d a.rack) (sym (append-nil done)) x
asked-if keeps policies done a true e x =
    let some : is_some (live_of a.rack.policies a.rack.current) ≡ true = both-true (is_some (live_of a.rack.policies a.rack.current)) (nat_lt a.asks 18446744073709551615) e in
    let c = current-by a.rack.policies a.rack.current some in
    let live : Live = c.0 in
    let answer : answer_of a.rack ≡ Some (record { generation = live.generation; pick = pick_of c.1.0 }) = answer-by a.rack live c.1.0 c.1.1.0 c.1.1.1 in
    let one : Reached policies (done ++ live.generation ∷ []) (asked a.rack) = record {
      calls = x.calls ++ rack.Ask ∷ [];
      are = ap asked x.are ∙ sym (rack-append x.calls rack.Ask (new_rack policies));
      counted = asked-counted done a.rack live c.1.1.0 (is-kept keeps policies done a.rack x) x.counted;
    } in
    subst (λ (o : Option Asked). Reached policies (done ++ map (λ (y : Asked). y.generation) (option_to_list o)) (asked a.rack)) (sym answer) one

silent : (call : NetCall) (n : NetSeen) → IsQuiet call → answered_by call n ≡ []
silent (Resolved kind addresses) n q = refl
silent (Dial moment word) n q = refl
silent (Up sub link) n q = refl
silent (DialFailed sub) n q = refl
silent (Ready sub link) n q = refl
silent (Down sub link) n q = refl
silent (Clock moment) n q = refl
silent Settle n q = refl
silent Ask n q = absurd q
silent Shut n q = refl

quiet-reached : rack.RackKeeps → (policies : List PolicySeen) (done : List ℕ) (call : NetCall) (n : NetSeen) → IsQuiet call → Orderly n → Reached policies done n.asker.rack → Reached policies (done ++ answered_by call n) (after_call call n).asker.rack
quiet-reached keeps policies done call n q o x =
    let m : Moves n (after_call call n) = quiet-moves call n q o in
    let none : done ++ answered_by call n ≡ done = ap (λ (d : List ℕ). done ++ d) (silent call n q) ∙ append-nil done in
    subst (λ (d : List ℕ). Reached policies d (after_call call n).asker.rack) (sym none) (subst (Reached policies done) (sym m.rack.are) (reached-calls keeps policies done m.rack.calls n.asker.rack m.rack.quiet x))

net-reached : rack.RackKeeps → (policies : List PolicySeen) (done : List ℕ) (call : NetCall) (n : NetSeen) → Orderly n → Reached policies done n.asker.rack → Reached policies (done ++ answered_by call n) (after_call call n).asker.rack
net-reached keeps policies done (Resolved kind addresses) n o x = quiet-reached keeps policies done (Resolved kind addresses) n tt o x
net-reached keeps policies done (Dial moment word) n o x = quiet-reached keeps policies done (Dial moment word) n tt o x
net-reached keeps policies done (Up sub link) n o x = quiet-reached keeps policies done (Up sub link) n tt o x
net-reached keeps policies done (DialFailed sub) n o x = quiet-reached keeps policies done (DialFailed sub) n tt o x
net-reached keeps policies done (Ready sub link) n o x = quiet-reached keeps policies done (Ready sub link) n tt o x
net-reached keeps policies done (Down sub link) n o x = quiet-reached keeps policies done (Down sub link) n tt o x
net-reached keeps policies done (Clock moment) n o x = quiet-reached keeps policies done (Clock moment) n tt o x
net-reached keeps policies done Settle n o x = quiet-reached keeps policies done Settle n tt o x
net-reached keeps policies done Ask n o x = asked-if keeps policies done n.asker (may_ask n.asker) refl x
net-reached keeps policies done Shut n o x = quiet-reached keeps policies done Shut n tt o x

run-reached : rack.RackKeeps → (policies : List PolicySeen) (done : List ℕ) (calls : List NetCall) (n : NetSeen) → Orderly n → Reached policies done n.asker.rack → Reached policies (done ++ answered calls n) (after_calls calls n).asker.rack
run-reached keeps policies done [] n o x =
    subst (λ (d : List ℕ). Reached policies d n.asker.rack) (sym (append-nil done)) x
run-reached keeps policies done (call ∷ calls) n o x =
    let f : Follows n (after_call call n) = call-follows call n o in
    let next : Reached policies ((done ++ answered_by call n) ++ answered calls (after_call call n)) (after_calls calls (after_call call n)).asker.rack =
    run-reached keeps policies (done ++ answered_by call n) calls (after_call call n) f.orderly (net-reached keeps policies done call n o x) in
    subst (λ (d : List ℕ). Reached policies d (after_calls calls (after_call call n)).asker.rack) (append_assoc done (answered_by call n) (answered calls (after_call call n))) next

turns-at : (done : List ℕ) (ps : List PolicySeen) (c : Option Live) (live : Live) (p : PolicySeen) → TurnsAre done ps c → c ≡ Some live → slice_get ps live.place ≡ Some p → p.turns ≡ times live.generation done
turns-at done ps c live p t e at = (subst (TurnsAre done ps) e t) p at

pub turns-are-asks : rack.RackKeeps → laws.TurnsAreAsks
turns-are-asks keeps calls policies live p e at =
    let start : Reached policies [] (new_rack policies) = record { calls = []; are = refl; counted = record { current = tt; pending = tt; fresh = λ g h. refl } } in
    let x : Reached policies (answered calls (new_net policies)) (net_of calls policies).asker.rack = run-reached keeps policies [] calls (new_net policies) (orderly-new policies) start in
    turns-at (answered calls (new_net policies)) (net_of calls policies).asker.rack.policies (net_of calls policies).asker.rack.current live p x.counted.current e at

-- a pick request changes the current policy alone
other-policies : (ps : List PolicySeen) (c : Option Live) (place : ℕ) → is_at place c ≡ false → slice_get (changed_of turned c ps) place ≡ slice_get ps place
other-policies ps None place out = refl
other-policies ps (Some live) place out = get-other turned ps live.place place (eqb-false live.place place out)

asks-by : (b : Bool) (a : AskerSeen) (place : ℕ) → is_at place a.rack.current ≡ false → slice_get (if b then record { rack = asked a.rack; asks = a.asks + 1 } else a).rack.policies place ≡ slice_get a.rack.policies place
asks-by true a place out = other-policies a.rack.policies a.rack.current place out
asks-by false a place out = refl

pub asks-reach : laws.AsksReachTheCurrent
asks-reach n place out = asks-by (may_ask n.asker) n.asker place out

less : (n m : ℕ) → n < m → nat_lt n m ≡ true
less n m h = grind (arith, nat_tests)

some-live : (ps : List PolicySeen) (c : Option Live) (live : Live) (p : PolicySeen) → c ≡ Some live → slice_get ps live.place ≡ Some p → is_some (live_of ps c) ≡ true
some-live ps c live p e at =
    ap (λ (o : Option Live). is_some (live_of ps o)) e ∙ ap (λ (o : Option PolicySeen). is_some {T = ℕ × Kind} (option_map (λ (q : PolicySeen). (live.generation, q.kind)) o)) at

pub answers-are : laws.AnswersAreOfTheTable
answers-are n live p e at few =
    let some : is_some (live_of n.asker.rack.policies n.asker.rack.current) ≡ true = some-live n.asker.rack.policies n.asker.rack.current live p e at in
    let may : may_ask n.asker ≡ true = ap (λ (b : Bool). b && nat_lt n.asker.asks 18446744073709551615) some ∙ less n.asker.asks 18446744073709551615 few in
    ap (λ (b : Bool). if b then answer_of n.asker.rack else None) may ∙ answer-by n.asker.rack live p e at
