-- A piece does on a link what its parts do, one after the other.
use Rattle.std.proofs.Common.{◌≡◌, ◌≢◌, ℕ, zero, suc, ◌<◌, ◌≤◌, ◌+◌, ◌-◌, Bool, true, false, List, [], ◌∷◌, ◌++◌, length, drop, refl, sym, ◌∙◌, ap, ap₂, subst, Some, None, arith, inl, inr, length-append, append-nil}
use Rattle.std.specs.Prelude.{Option, is_some, ◌==◌, ◌||◌, if◌then◌else◌}
use Rattle.std.proofs.Math.Seq.{drop-append-add}
use Rattle.std.proofs.lemmas.List.{drop-append-le, drop_all}
use Rattle.h2_server.specs.Received.{handled, received_with, received_after, prefix_of}
use Rattle.h2_server.specs.Wire.{Seen, Report}
use Rattle.h2_server.proofs.Cuts.{received_stays, received_goes_on}
use Rattle.h2_server.proofs.Prefixes.{within}
use Rattle.loop_server.specs.Steps.{Arrives, Arriving, Reading, after_steps, is_done, stepped, reported_of}

-- the first step first
shift : (n : ℕ) (a : Arriving) → after_steps (suc n) a ≡ after_steps n (stepped a)
shift zero a = refl
shift (suc n) a = ap stepped (shift n a)

done_stays : (a : Arriving) → is_done a ≡ true → stepped a ≡ a
done_stays a d = rw d refl

done_steps : (n : ℕ) (a : Arriving) → is_done a ≡ true → after_steps n a ≡ a
done_steps zero a d = refl
done_steps (suc n) a d = ap stepped (done_steps n a d) ∙ done_stays a d

open_step : (a : Arriving) → is_done a ≡ false → stepped a ≡ record { state = reported_of a.state (handled a.state.session.link a.rest); rest = drop (handled a.state.session.link a.rest).taken a.rest }
open_step a d = rw d refl

-- a link that is not broken, with bytes that are left
pub record IsOpen (a : Arriving) : Type 0 where
  pub whole : is_some a.state.session.link.wire.broken ≡ false
  pub some : 0 < length a.rest

open_by : (b c : Bool) → (b || c) ≡ false → (b ≡ false) × (c ≡ false)
open_by true c e = absurd (cc)
open_by false c e = (refl, e)

is_open : (a : Arriving) → is_done a ≡ false → IsOpen a
is_open a d =
    let parts = open_by (is_some a.state.session.link.wire.broken) (length a.rest == 0) d in
    let zero_not : (length a.rest == 0) ≡ false = parts.1 in
    record { whole = parts.0; some = grind arith }

pub not_done : (a : Arriving) → IsOpen a → is_done a ≡ false
not_done a o =
    let some = o.some in
    let zero_not : (length a.rest == 0) ≡ false = grind arith in
    rw o.whole zero_not

-- after more bytes
abbrev more : Arriving → List ℕ → Arriving
more a q = record { state = a.state; rest = a.rest ++ q }

open_more : (a : Arriving) (q : List ℕ) → is_done a ≡ false → is_done (more a q) ≡ false
open_more a q d =
    let o = is_open a d in
    not_done (more a q) (record { whole = o.whole; some = omega (arith, o.some, length-append a.rest q) })

-- what a link shows of some bytes, it takes of them
taken_within : (l : Seen) (p : List ℕ) (v : ℕ × Report) → prefix_of l.prefaced l.wire (l.rest ++ p) ≡ Some v → (handled l p).taken ≤ length p
taken_within l p v e =
    let taken : (handled l p).taken ≡ v.0 - length l.rest = ap (λ (o : Option (ℕ × Report)). (received_with l p o).taken) e in
    let le = within l.prefaced l.wire (l.rest ++ p) v e in
    omega (arith, taken, le, length-append l.rest p)

shown_more : (a : Arriving) (q : List ℕ) (v : ℕ × Report) → is_done a ≡ false → prefix_of a.state.session.link.prefaced a.state.session.link.wire (a.state.session.link.rest ++ a.rest) ≡ Some v → stepped (more a q) ≡ more (stepped a) q
shown_more a q v d e =
    let l = a.state.session.link in
    let some : prefix_of l.prefaced l.wire (l.rest ++ a.rest) ≢ None = λ n. absurd (cc) in
    let stays : handled l (a.rest ++ q) ≡ handled l a.rest = received_stays l a.rest q some in
    let rest : drop (handled l a.rest).taken (a.rest ++ q) ≡ drop (handled l a.rest).taken a.rest ++ q = drop-append-le (handled l a.rest).taken a.rest q (taken_within l a.rest v e) in
    open_step (more a q) (open_more a q d)
    ∙ (ap (λ h. record { state = reported_of a.state h; rest = drop h.taken (a.rest ++ q) }) stays
    ∙ (ap (λ (t : List ℕ). record { state = reported_of a.state (handled l a.rest); rest = t }) rest
    ∙ sym (ap (λ (b : Arriving). more b q) (open_step a d))))

-- what it does not show yet, it keeps
abbrev kept : Arriving → Arriving
kept a = record {
  state = record a.state { session = record a.state.session { link = record a.state.session.link { rest = a.state.session.link.rest ++ a.rest } } };
  rest = [];
}

hidden_is : (a : Arriving) → is_done a ≡ false → prefix_of a.state.session.link.prefaced a.state.session.link.wire (a.state.session.link.rest ++ a.rest) ≡ None → stepped a ≡ kept a
hidden_is a d e =
    let l = a.state.session.link in
    let h : handled l a.rest ≡ received_with l a.rest None = ap (received_with l a.rest) e in
    open_step a d
    ∙ (ap (λ v. record { state = reported_of a.state v; rest = drop v.taken a.rest }) h
    ∙ ap (λ (t : List ℕ). record (kept a) { rest = t }) (drop_all (length a.rest) a.rest (omega arith)))

hidden_more : (a : Arriving) (q : List ℕ) → is_done a ≡ false → 0 < length q → prefix_of a.state.session.link.prefaced a.state.session.link.wire (a.state.session.link.rest ++ a.rest) ≡ None → stepped (more a q) ≡ stepped (record (kept a) { rest = q })
hidden_more a q d some e =
    let l = a.state.session.link in
    let k : Arriving = record (kept a) { rest = q } in
    let h = handled k.state.session.link q in
    let link : (handled l a.rest).link ≡ k.state.session.link = ap (λ (o : Option (ℕ × Report)). (received_with l a.rest o).link) e in
    let goes : handled l (a.rest ++ q) ≡ received_after (length a.rest) h = received_goes_on l a.rest q e ∙ ap (λ (v : Seen). received_after (length a.rest) (handled v q)) link in
    let o = is_open a d in
    let kd : is_done k ≡ false = not_done k (record { whole = o.whole; some = some }) in
    open_step (more a q) (open_more a q d)
    ∙ (ap (λ v. record { state = reported_of a.state v; rest = drop v.taken (a.rest ++ q) }) goes
    ∙ (ap (λ (t : List ℕ). record { state = reported_of k.state h; rest = t }) (drop-append-add a.rest q h.taken)
    ∙ sym (open_step k kd)))

-- steps over some bytes and then over more are steps over both
pub record Joined (a : Arriving) (z : Reading) : Type 0 where
  pub count : ℕ
  pub state : (after_steps count a).state ≡ z
  pub done : is_done (after_steps count a) ≡ true

first_by : (a b : Arriving) (z : Reading) → stepped a ≡ stepped b → is_done b ≡ false → (n : ℕ) → (after_steps n b).state ≡ z → is_done (after_steps n b) ≡ true → Joined a z
first_by a b z e d zero s k = absurd (cc)
first_by a b z e d (suc n) s k =
    let same : after_steps (suc n) a ≡ after_steps (suc n) b = shift n a ∙ (ap (after_steps n) e ∙ sym (shift n b)) in
    record { count = suc n; state = ap (λ (v : Arriving). v.state) same ∙ s; done = ap is_done same ∙ k }

first_again : (a b : Arriving) (z : Reading) → stepped a ≡ stepped b → is_done b ≡ false → Joined b z → Joined a z
first_again a b z e d j = first_by a b z e d j.count j.state j.done

nothing_left : (p : List ℕ) → length p ≡ 0 → p ≡ []
nothing_left [] e = refl
nothing_left (b ∷ p) e = absurd (omega (arith, e))

-- one step before
one_before : (a : Arriving) (z : Reading) → Joined (stepped a) z → Joined a z
one_before a z j = record {
  count = suc j.count;
  state = ap (λ (v : Arriving). v.state) (shift j.count a) ∙ j.state;
  done = ap is_done (shift j.count a) ∙ j.done;
}

-- a link that is broken does nothing
broken_does : (x z : Reading) (p q : List ℕ) → is_some x.session.link.wire.broken ≡ true → Joined (record { state = x; rest = p }) z → Joined (record { state = x; rest = q }) z
broken_does x z p q b j =
    let P : List ℕ → Arriving = λ t. record { state = x; rest = t } in
    let done : (t : List ℕ) → is_done (P t) ≡ true = λ t. rw b refl in
    record {
      count = 0;
      state = sym (ap (λ (v : Arriving). v.state) (done_steps j.count (P p) (done p))) ∙ j.state;
      done = done q;
    }

join_done : (a : Arriving) (z : Reading) (q : List ℕ) (b c : Bool) → is_some a.state.session.link.wire.broken ≡ b → (length a.rest == 0) ≡ c → (b || c) ≡ true → Joined (record { state = a.state; rest = q }) z → Joined (more a q) z
join_done a z q true c e f d j = broken_does a.state z q (a.rest ++ q) e j
join_done a z q false true e f d j =
    let none : length a.rest ≡ 0 = grind arith in
    let nil : a.rest ≡ [] = nothing_left a.rest none in
    subst (λ (t : List ℕ). Joined (record { state = a.state; rest = t ++ q }) z) (sym nil) j
join_done a z q false false e f d j = absurd (cc)

join_prefix : (a : Arriving) (z : Reading) (q : List ℕ) (o : Option (ℕ × Report)) → prefix_of a.state.session.link.prefaced a.state.session.link.wire (a.state.session.link.rest ++ a.rest) ≡ o → is_done a ≡ false → Joined (more (stepped a) q) z → Joined (more a q) z
join_prefix a z q (Some v) e d j = one_before (more a q) z (subst (λ (b : Arriving). Joined b z) (sym (shown_more a q v d e)) j)
join_prefix a z [] None e d j =
    let nil : more a [] ≡ a = ap (λ (t : List ℕ). record { state = a.state; rest = t }) (append-nil a.rest) in
    let back : more (stepped a) [] ≡ stepped a = ap (λ (t : List ℕ). record { state = (stepped a).state; rest = t }) (append-nil (stepped a).rest) in
    subst (λ (b : Arriving). Joined b z) (sym nil) (one_before a z (subst (λ (b : Arriving). Joined b z) back j))
join_prefix a z (c ∷ q) None e d j =
    let k : Arriving = record (kept a) { rest = c ∷ q } in
    let there : more (stepped a) (c ∷ q) ≡ k = ap (λ (b : Arriving). more b (c ∷ q)) (hidden_is a d e) in
    let o = is_open a d in
    let kd : is_done k ≡ false = not_done k (record { whole = o.whole; some = omega arith }) in
    first_again (more a (c ∷ q)) k z (hidden_more a (c ∷ q) d (omega arith) e) kd (subst (λ (b : Arriving). Joined b z) there j)

join_by : (n : ℕ) (a : Arriving) (y z : Reading) (q : List ℕ) (b : Bool) → is_done a ≡ b → (after_steps n a).state ≡ y → is_done (after_steps n a) ≡ true → Joined (record { state = y; rest = q }) z → Joined (more a q) z
join_by n a y z q true d s k j =
    let same : a.state ≡ y = sym (ap (λ (v : Arriving). v.state) (done_steps n a d)) ∙ s in
    join_done a z q (is_some a.state.session.link.wire.broken) (length a.rest == 0) refl refl d (subst (λ (x : Reading). Joined (record { state = x; rest = q }) z) (sym same) j)
join_by zero a y z q false d s k j = absurd (cc)
join_by (suc n) a y z q false d s k j =
    let first = shift n a in
    let rest = join_by n (stepped a) y z q (is_done (stepped a)) refl (sym (ap (λ (v : Arriving). v.state) first) ∙ s) (sym (ap is_done first) ∙ k) j in
    join_prefix a z q (prefix_of a.state.session.link.prefaced a.state.session.link.wire (a.state.session.link.rest ++ a.rest)) refl d rest

pub pieces_join : (x y z : Reading) (p q : List ℕ) → Arrives x p y → Arrives y q z → Arrives x (p ++ q) z
pieces_join x y z p q a b =
    let j = join_by a.count (record { state = x; rest = p }) y z q (is_done (record { state = x; rest = p })) refl a.state a.done (record { count = b.count; state = b.state; done = b.done }) in
    record { count = j.count; state = j.state; done = j.done }
