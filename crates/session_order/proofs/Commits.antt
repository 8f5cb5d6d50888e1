-- A call that is committed to an attempt stirs the lines of the cuts and of its own end. (Not of a transparent retry that takes a commitment over; and
-- the line of final ends is left out.)
use Rattle.std.proofs.Common.{◌≡◌, ◌∷◌, ◌||◌, ◌&&◌, ◌==◌, not, ap, refl, sym, ◌∙◌, Bool, true, false, List, [], Option, None, Some, ℕ, zero, suc, if◌then◌else◌, is_none, is_some, nat_lt, slice_get}
use Rattle.std.proofs.lemmas.Bool.{and_from, and_left, and_right, eq-eqb, eqb-true, or_left}
use Rattle.std.specs.Option.{option_or}
use Rattle.std.specs.Prelude.{slice_set}
use Rattle.attempt_ledger.specs.TransparentRows.{is_by_peer, is_unsent}
use Rattle.attempt_ledger.specs.declared.ledger.Ask.{Ask}
use Rattle.attempt_ledger.specs.declared.row.RowCause.{RowCause}
use Rattle.attempt_ledger.specs.declared.row.RowEnd.{RowEnd}
use Rattle.grpc_base.specs.declared.kind.Pick.{Pick}
use Rattle.session_actions.specs.AttemptEnds.{outcome_of}
use Rattle.session_actions.specs.Attempts.{commitment, is_commitment, is_followed, is_later_of, is_of, is_outstanding, is_over, is_over_in, is_to_follow, wants_follower, wants_follower_by, was_refused, was_retried_so}
use Rattle.session_actions.specs.CallEnds.{has_long_response}
use Rattle.session_actions.specs.Calls.{is_open_call}
use Rattle.session_actions.specs.Commitments.{call_committed, has_head_in, is_free_call, is_headed, is_inherited, is_inherited_by, is_inherited_in, with_commitment}
use Rattle.session_actions.specs.Entries.{entry}
use Rattle.session_actions.specs.Policies.{is_unfollowed}
use Rattle.session_actions.specs.Responses.{response}
use Rattle.session_actions.specs.Words.{changed, changed_if, find_last, holds, last_of, numbered}
use Rattle.session_actions.specs.Writing.{accepted_bytes}
use Rattle.session_actions.specs.declared.action.CommitCause.{CommitCause}
use Rattle.session_actions.specs.declared.attempt.Attempt.{Attempt}
use Rattle.session_actions.specs.declared.call.Call.{Call}
use Rattle.session_actions.specs.declared.entry.OpenEntry.{OpenEntry}
use Rattle.session_actions.specs.declared.seen.Seen.{Seen}
use Rattle.session_order.proofs.Aside.{aside_request}
use Rattle.session_order.proofs.Boards.{goes_on}
use Rattle.session_order.proofs.Changed.{any_changed, lookup, none_changed, none_from, passes_not}
use Rattle.session_order.proofs.Ended.{stronger, none_less}
use Rattle.session_order.proofs.Lists.{any_same, holds_same, or_none}
use Rattle.session_order.proofs.Placings.{current_if, marked_if, not_final}
use Rattle.session_order.specs.Quiescent.{IsStill, can_follow, has_outstanding, is_overflowing, is_to_end, is_to_follow_pick, is_to_reset, is_unplaced}
use Rattle.session_order.specs.Laws.{StirsButFinal}
use Rattle.session_order.specs.Stirs.{IsCommittable, stirs}
use Rattle.session_order.specs.declared.line.Line.{Line}
use Rattle.session_actions.specs.declared.action.Action.TheVariants as action
use Rattle.session_order.specs.declared.line.Line.TheVariants as line
use Rattle.session_actions.specs.declared.call.MarkKind.TheVariants as mark
use Rattle.grpc_base.specs.declared.kind.Pick.TheVariants as pick

-- the last that passes, where the one that changed did not pass before; nor after, or does now
unseen_first : {X : Type 0} (T : X → Bool) (f : X → X) (xs : List X) (x y : X) → x ≡ y → T x ≡ false → T (f x) ≡ false
    → find_last T (f x ∷ xs) ≡ find_last T (y ∷ xs)
unseen_first T f xs x y e old now =
    ap (λ (b : Bool). option_or (find_last T xs) (if b then Some (f x) else None)) now
    ∙ sym (ap (λ (b : Bool). option_or (find_last T xs) (if b then Some y else None)) (ap T (sym e) ∙ old))

unseen_set : {X : Type 0} (T : X → Bool) (f : X → X) (xs : List X) (i : ℕ) (x : X) → slice_get xs i ≡ Some x → T x ≡ false → T (f x) ≡ false
    → find_last T (slice_set xs i (f x)) ≡ find_last T xs
unseen_set T f [] i x e old now = refl
unseen_set T f (y ∷ xs) zero x e old now = unseen_first T f xs x y (cc) old now
unseen_set T f (y ∷ xs) (suc i) x e old now =
    ap (λ (o : Option _). option_or o (if T y then Some y else None)) (unseen_set T f xs i x e old now)

last_unseen : {X : Type 0} (T : X → Bool) (f : X → X) (n : ℕ) (xs : List X) (x : X) → numbered xs n ≡ Some x → T x ≡ false → T (f x) ≡ false
    → find_last T (changed f n xs) ≡ find_last T xs
last_unseen T f zero xs x e old now = refl
last_unseen T f (suc i) xs x e old now = ap (λ (o : Option _). find_last T (changed_if f (suc i) xs o)) e ∙ unseen_set T f xs i x e old now

new_set : {X : Type 0} (T : X → Bool) (f : X → X) (xs : List X) (i : ℕ) (x : X) → slice_get xs i ≡ Some x → find_last T xs ≡ None → T (f x) ≡ true
    → find_last T (slice_set xs i (f x)) ≡ Some (f x)
new_set T f [] i x e none now = absurd (cc)
new_set T f (y ∷ xs) zero x e none now =
    ap (λ (o : Option _). option_or o (if T (f x) then Some (f x) else None)) (or_none (find_last T xs) (if T y then Some y else None) none).0
    ∙ ap (λ (b : Bool). if b then Some (f x) else None) now
new_set T f (y ∷ xs) (suc i) x e none now =
    ap (λ (o : Option _). option_or o (if T y then Some y else None))
    (new_set T f xs i x e (or_none (find_last T xs) (if T y then Some y else None) none).0 now)

last_new : {X : Type 0} (T : X → Bool) (f : X → X) (n : ℕ) (xs : List X) (x : X) → numbered xs n ≡ Some x → find_last T xs ≡ None → T (f x) ≡ true
    → find_last T (changed f n xs) ≡ Some (f x)
last_new T f zero xs x e none now = absurd (cc)
last_new T f (suc i) xs x e none now = ap (λ (o : Option _). find_last T (changed_if f (suc i) xs o)) e ∙ new_set T f xs i x e none now

-- tests that ask for less
holds_less : {X : Type 0} (P Q : X → Bool) → ((x : X) → P x ≡ false → Q x ≡ false) → (o : Option X) → holds P o ≡ false → holds Q o ≡ false
holds_less P Q turn None h = refl
holds_less P Q turn (Some x) h = turn x h

left_less : (x z y : Bool) → (x ≡ false → z ≡ false) → (x && y) ≡ false → (z && y) ≡ false
left_less true true y turn h = h
left_less true false y turn h = refl
left_less false true y turn h = (let bad : true ≡ false = turn refl in absurd (cc))
left_less false false y turn h = refl

follow_less_by : (u x n m r : Bool) → (n ≡ false → m ≡ false) → (u || (x && n && r)) ≡ false → (u || (x && m && r)) ≡ false
follow_less_by true x n m r turn h = absurd (cc)
follow_less_by false false n m r turn h = refl
follow_less_by false true n m r turn h = left_less n m r turn h

less_to_end : (x p q z : Bool) → (p ≡ true → q ≡ true) → ((x && not p) && z) ≡ false → ((x && not q) && z) ≡ false
less_to_end false p q z turn h = refl
less_to_end true true true z turn h = refl
less_to_end true true false z turn h = (let bad : false ≡ true = turn refl in absurd (cc))
less_to_end true false true z turn h = refl
less_to_end true false false z turn h = h

or_false : (x : Bool) → (x || false) ≡ true → x ≡ true
or_false true h = refl
or_false false h = absurd (cc)

flipped : (n m : ℕ) → (n == m) ≡ true → (m == n) ≡ true
flipped n m e = eq-eqb m n (sym (eqb-true n m e))

later_less : (n m : ℕ) (x b l : Bool) → x ≡ true → (n == m) ≡ b → (x && (m == n) && l) ≡ false → ((n == m) && l) ≡ false
later_less n m x false l e f h = and_left (n == m) l f
later_less n m x true l e f h =
    and_right (n == m) l (ap (λ (y : Bool). y && l) (sym (and_from x (m == n) e (flipped n m f))) ∙ h)

module _ (s : Seen) (n e : ℕ) (fits : IsCommittable n s) where
  abbrev put : Attempt → Attempt
  put a = with_commitment e a

  abbrev rows : List Attempt
  rows = changed put n s.attempts

  abbrev t : Seen
  t = record s { attempts = rows }

  other : (c : Call) → is_of c fits.attempt ≡ false → commitment c t ≡ commitment c s
  other c f =
      last_unseen (is_commitment c) put n s.attempts fits.attempt fits.here (and_left (is_of c fits.attempt) (is_some fits.attempt.row.committed) f)
      (and_left (is_of c fits.attempt) true f)

  own : (c : Call) → is_of c fits.attempt ≡ true → commitment c t ≡ Some (put fits.attempt)
  own c f = last_new (is_commitment c) put n s.attempts fits.attempt fits.here (fits.free c f) (and_from (is_of c fits.attempt) true f refl)

  none_by : (c : Call) (b : Bool) → is_of c fits.attempt ≡ b → is_none (commitment c s) ≡ false → is_none (commitment c t) ≡ false
  none_by c true f h = ap (λ (o : Option Attempt). is_none o) (own c f)
  none_by c false f h = ap (λ (o : Option Attempt). is_none o) (other c f) ∙ h

  free_less : (c : Call) → is_free_call s c ≡ false → is_free_call t c ≡ false
  free_less c = stronger (is_none c.end) (is_none (commitment c s)) (is_none (commitment c t)) (none_by c (is_of c fits.attempt) refl)

  followed_same : (a : Attempt) → is_followed a t ≡ is_followed a s
  followed_same a = any_changed (is_later_of a) put (λ q. refl) n s.attempts

  retried_same : (c : Call) → was_retried_so c t ≡ was_retried_so c s
  retried_same c =
      any_changed (λ (q : Attempt). is_of c q && was_refused q && is_followed q t) put (λ q. refl) n s.attempts
      ∙ any_same (λ (q : Attempt). is_of c q && was_refused q && is_followed q t) (λ (q : Attempt). is_of c q && was_refused q && is_followed q s)
      (λ q. ap (λ (b : Bool). is_of c q && was_refused q && b) (followed_same q)) s.attempts

  follow_less : (c : Call) (why : RowCause) (unseen : Bool) → is_to_follow c why unseen s ≡ false → is_to_follow c why unseen t ≡ false
  follow_less c why unseen h =
      ap (λ (b : Bool). is_unsent why || (unseen && is_by_peer why && is_none (commitment c t) && not b)) (retried_same c)
      ∙ follow_less_by (is_unsent why) (unseen && is_by_peer why) (is_none (commitment c s)) (is_none (commitment c t)) (not (was_retried_so c s))
      (none_by c (is_of c fits.attempt) refl) h

  wants_less : (a : Attempt) (d : RowEnd) → wants_follower_by a s d ≡ false → wants_follower_by a t d ≡ false
  wants_less a d h =
      ap (λ (b : Bool). not b && holds (λ (c : Call). is_to_follow c d.cause d.unseen t) (numbered s.calls a.row.call)) (followed_same a)
      ∙ stronger (not (is_followed a s)) (holds (λ (c : Call). is_to_follow c d.cause d.unseen s) (numbered s.calls a.row.call))
      (holds (λ (c : Call). is_to_follow c d.cause d.unseen t) (numbered s.calls a.row.call))
      (holds_less (λ (c : Call). is_to_follow c d.cause d.unseen s) (λ (c : Call). is_to_follow c d.cause d.unseen t) (λ c. follow_less c d.cause d.unseen)
      (numbered s.calls a.row.call)) h

  -- none follows the one to which it is committed
  own_heir : (i : ℕ) (a : Attempt) (c : Call) → numbered s.attempts i ≡ Some a → numbered s.calls a.row.call ≡ Some c → is_of c fits.attempt ≡ true
      → is_inherited_by a (put fits.attempt) ≡ false
  own_heir i a c here is f =
      let same : (a.row.call == fits.attempt.row.call) ≡ true
      = eq-eqb a.row.call fits.attempt.row.call (sym (fits.numbers a.row.call c is) ∙ sym (eqb-true fits.attempt.row.call c.number f)) in
      later_less fits.attempt.row.number a.row.number (a.row.call == fits.attempt.row.call) (fits.attempt.row.number == a.row.number)
      (nat_lt fits.attempt.place a.place) same refl (passes_not (is_later_of fits.attempt) s.attempts i a fits.follows here)

  heir_by : (i : ℕ) (a : Attempt) (c : Call) (b : Bool) → is_of c fits.attempt ≡ b → numbered s.attempts i ≡ Some a → numbered s.calls a.row.call ≡ Some c
      → is_inherited_in a s c ≡ false → is_inherited_in a t c ≡ false
  heir_by i a c true f here is h =
      and_right (is_none c.end) (holds (is_inherited_by a) (commitment c t)) (ap (holds (is_inherited_by a)) (own c f) ∙ own_heir i a c here is f)
  heir_by i a c false f here is h = ap (λ (o : Option Attempt). is_none c.end && holds (is_inherited_by a) o) (other c f) ∙ h

  heir_of : (i : ℕ) (a : Attempt) → numbered s.attempts i ≡ Some a → (o : Option Call) → numbered s.calls a.row.call ≡ o
      → holds (is_inherited_in a s) o ≡ false → holds (is_inherited_in a t) o ≡ false
  heir_of i a here None is h = refl
  heir_of i a here (Some c) is h = heir_by i a c (is_of c fits.attempt) refl here is h

  heir_one : (i : ℕ) (a : Attempt) → numbered s.attempts i ≡ Some a → is_inherited s a ≡ false → is_inherited t a ≡ false
  heir_one i a here =
      stronger (is_none a.row.committed) (holds (is_inherited_in a s) (numbered s.calls a.row.call)) (holds (is_inherited_in a t) (numbered s.calls a.row.call))
      (heir_of i a here (numbered s.calls a.row.call) refl)

  overflow_one : (c : Call) → is_overflowing s c ≡ false → is_overflowing t c ≡ false
  overflow_one c h =
      ap (λ (b : Bool). (is_free_call t c && nat_lt 262144 (accepted_bytes c)) && b)
      (any_changed (λ (a : Attempt). is_of c a && is_outstanding a) put (λ a. refl) n s.attempts)
      ∙ left_less (is_free_call s c && nat_lt 262144 (accepted_bytes c)) (is_free_call t c && nat_lt 262144 (accepted_bytes c)) (has_outstanding c s)
      (left_less (is_free_call s c) (is_free_call t c) (nat_lt 262144 (accepted_bytes c)) (free_less c)) h

  head_one : (a : Attempt) → is_headed s a ≡ false → is_headed t a ≡ false
  head_one a =
      stronger (is_outstanding a) (holds (has_head_in a s) (numbered s.calls a.row.call)) (holds (has_head_in a t) (numbered s.calls a.row.call))
      (holds_less (has_head_in a s) (has_head_in a t)
      (λ c. left_less (is_free_call s c) (is_free_call t c) (is_some (response a s).head) (free_less c)) (numbered s.calls a.row.call))

  long_by : (c : Call) (b : Bool) → is_of c fits.attempt ≡ b → has_long_response s c ≡ false → has_long_response t c ≡ false
  long_by c true f h =
      and_right (is_open_call c) (holds (λ (k : Attempt). is_outstanding k && (response k s).large) (commitment c t))
      (ap (holds (λ (k : Attempt). is_outstanding k && (response k s).large)) (own c f) ∙ fits.small)
  long_by c false f h =
      ap (λ (o : Option Attempt). is_open_call c && holds (λ (k : Attempt). is_outstanding k && (response k s).large) o) (other c f) ∙ h

  can_same : (p : Pick) → can_follow t p ≡ can_follow s p
  can_same (pick.Place sub) = refl
  can_same pick.Fail = refl
  can_same pick.Wait = refl

  pick_one : (ask : Ask) → is_to_follow_pick t ask ≡ is_to_follow_pick s ask
  pick_one ask =
      ap (λ (b : Bool). is_unplaced t ask.row && (ask.entry == entry s) && b) (can_same ask.answer)
      ∙ ap (λ (b : Bool). b && (ask.entry == entry s) && can_follow s ask.answer) (lookup (holds is_unfollowed) put (λ a. refl) n s.attempts ask.row)

  -- more are over
  over_by : (c : Call) (a : Attempt) (b : Bool) → is_of c fits.attempt ≡ b → is_over_in c a s ≡ true → is_over_in c a t ≡ true
  over_by c a true f h =
      or_left (is_some c.end) (holds (λ (k : Attempt). not (k.row.number == a.row.number)) (commitment c t))
      (or_false (is_some c.end)
      (sym (ap (λ (o : Option Attempt). is_some c.end || holds (λ (k : Attempt). not (k.row.number == a.row.number)) o) (fits.free c f)) ∙ h))
  over_by c a false f h =
      ap (λ (o : Option Attempt). is_some c.end || holds (λ (k : Attempt). not (k.row.number == a.row.number)) o) (other c f) ∙ h

  over_more : (a : Attempt) (o : Option Call) → holds (λ (c : Call). is_over_in c a s) o ≡ true → holds (λ (c : Call). is_over_in c a t) o ≡ true
  over_more a None h = h
  over_more a (Some c) h = over_by c a (is_of c fits.attempt) refl h

  end_one : (a : Attempt) → is_to_end s a ≡ false → is_to_end t a ≡ false
  end_one a =
      less_to_end (is_outstanding a) (is_over a s) (is_over a t) (is_some (outcome_of a s)) (over_more a (numbered s.calls a.row.call))

  pub committed_still : (why : CommitCause) (l : Line) (o : OpenEntry) → stirs (action.HedgeWithheld n) l ≡ false
      → stirs (action.CallCommitted n why) l ≡ false → IsStill l o s → IsStill l o t
  committed_still why line.Cut o d f h = absurd (cc)
  committed_still why line.Transparent o d f h = any_changed (λ (a : Attempt). wants_follower a t) put (λ a. refl) n s.attempts
      ∙ none_less (λ (a : Attempt). wants_follower a t) (λ (a : Attempt). wants_follower a s)
      (λ a. holds_less (wants_follower_by a s) (wants_follower_by a t) (wants_less a) a.row.ended) s.attempts h
  committed_still why line.Inherited o d f h = none_changed (is_inherited t) put n s.attempts (λ a is. refl)
      (none_from (is_inherited t) s.attempts (λ i a here. heir_one i a here (passes_not (is_inherited s) s.attempts i a h here)))
  committed_still why line.Row o d f h = absurd (cc)
  committed_still why line.Final o d f h = absurd (cc)
  committed_still why line.Cancelled o d f h = h
  committed_still why line.Request o d f h = aside_request o s t ∙ h
  committed_still why line.Overflow o d f h = none_less (is_overflowing t) (is_overflowing s) overflow_one s.calls h
  committed_still why line.Head o d f h = any_changed (is_headed t) put (λ a. refl) n s.attempts ∙ none_less (is_headed t) (is_headed s) head_one s.attempts h
  committed_still why line.Response o d f h = none_less (has_long_response t) (has_long_response s) (λ c. long_by c (is_of c fits.attempt) refl) s.calls h
  committed_still why line.Pick o d f h = holds_same (is_to_follow_pick t) (is_to_follow_pick s) pick_one (last_of s.asks) ∙ h
  committed_still why line.Link o d f h = h
  committed_still why line.WireEnd o d f h = any_changed (is_to_end t) put (λ a. refl) n s.attempts ∙ none_less (is_to_end t) (is_to_end s) end_one s.attempts h
  committed_still why line.Reset o d f h = any_changed (is_to_reset s) put (λ a. refl) n s.attempts ∙ h
  committed_still why line.Shut o d f h = h
  committed_still why line.Retire o d f h = h
  committed_still why line.Begin o d f h = h
  committed_still why line.Give o d f h = h
  committed_still why line.Drop o d f h = h
  committed_still why line.Add o d f h = h

pub committed_leaves : (row : ℕ) (why : CommitCause) → StirsButFinal (action.CallCommitted row why)
committed_leaves row why o s e fits l p is final not_stirred h =
    let u : Seen = record s { attempts = changed (with_commitment (entry s)) row s.attempts } in
    goes_on o (call_committed row s) (current_if u mark.Committed (numbered u.attempts row) ∙ e) l
    (marked_if u mark.Committed row (numbered u.attempts row) l o (not_final l row final)
    (committed_still s row (entry s) fits why l o (not_final l row final) not_stirred h)) p is
