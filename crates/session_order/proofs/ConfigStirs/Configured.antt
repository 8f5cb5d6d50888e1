-- A call without an attempt gets its config: the other calls and all attempts are as before.
use Rattle.std.proofs.Common.{◌≡◌, ◌∷◌, ◌++◌, ◌||◌, ◌&&◌, ◌==◌, not, ap, refl, subst, sym, ◌∙◌, Bool, true, false, List, [], Option, None, Some, ℕ, zero, suc, if◌then◌else◌, is_none, is_some, slice_get}
use Rattle.std.proofs.lemmas.Bool.{eqb-false}
use Rattle.std.specs.List.{list_any}
use Rattle.std.specs.Option.{option_map_or, option_or}
use Rattle.attempt_ledger.specs.Ends.{is_cut}
use Rattle.attempt_ledger.specs.declared.row.RowEnd.{RowEnd}
use Rattle.session_order.specs.ConfigStirs.Laws.{ConfigsStir}
use Rattle.grpc_base.specs.Limits.{message_limit}
use Rattle.session_actions.specs.AttemptEnds.{code_at_end, code_for_stream, code_to_reset, lost_end, outcome_of, outcome_on, reset_code_of}
use Rattle.session_actions.specs.Attempts.{commitment, counts_by, is_commitment, is_counted, is_followed, is_of, is_outstanding, is_over, is_over_in, is_queued, is_to_follow, wants_follower, wants_follower_by}
use Rattle.session_actions.specs.CallEnds.{has_long_response, is_cancelled, is_over_by_row, is_shut_down}
use Rattle.session_actions.specs.Calls.{is_open_call}
use Rattle.session_actions.specs.Commitments.{has_head_in, is_final_end, is_final_in, is_free_call, is_headed, is_inherited, is_inherited_in}
use Rattle.session_actions.specs.Configs.{call_configured, chosen_of}
use Rattle.session_actions.specs.DueAttempts.{has_going}
use Rattle.session_actions.specs.Entries.{entry, now}
use Rattle.session_actions.specs.Links.{link_of}
use Rattle.session_actions.specs.Responses.{limit_of_attempt, no_response, response, response_by, response_in, response_on, traffic_of}
use Rattle.session_actions.specs.Words.{changed, find_last, holds, numbered}
use Rattle.session_actions.specs.declared.attempt.Attempt.{Attempt}
use Rattle.session_actions.specs.declared.call.Call.{Call}
use Rattle.session_actions.specs.declared.call.Mark.{Mark}
use Rattle.session_actions.specs.declared.call.MarkKind.TheVariants as mark
use Rattle.session_actions.specs.declared.entry.OpenEntry.{OpenEntry}
use Rattle.session_actions.specs.declared.link.Link.{Link}
use Rattle.session_actions.specs.declared.response.Outcome.{Outcome}
use Rattle.session_actions.specs.declared.response.Response.{Response}
use Rattle.session_actions.specs.declared.seen.Seen.{Seen}
use Rattle.session_order.proofs.Boards.{goes_on}
use Rattle.session_order.proofs.Changed.{changed_away, changed_twice, none_each_changed, passes_not}
use Rattle.session_order.proofs.Finals.{final_same}
use Rattle.session_order.proofs.Limits.{code_with, then_same}
use Rattle.session_order.proofs.Lists.{holds_same}
use Rattle.session_order.specs.Quiescent.{IsStill, is_overflowing, is_to_cut, is_to_end, is_to_reset}
use Rattle.session_order.specs.Stirs.{CallsHaveTheirNumbers, stirs}
use Rattle.session_order.specs.declared.line.Line.{Line}
use Rattle.session_order.specs.declared.line.Line.TheVariants as line
use Rattle.session_actions.specs.declared.action.Action.TheVariants as action

-- lists by their elements
any_at : {X : Type 0} (p q : X → Bool) (xs : List X) → ((i : ℕ) (x : X) → slice_get xs i ≡ Some x → p x ≡ q x) → list_any p xs ≡ list_any q xs
any_at p q [] same = refl
any_at p q (x ∷ xs) same =
    ap (λ (b : Bool). b || list_any p xs) (same zero x refl) ∙ ap (λ (b : Bool). q x || b) (any_at p q xs (λ i y e. same (suc i) y e))

any_in : {X : Type 0} (p q : X → Bool) (xs : List X) → ((k : ℕ) (x : X) → numbered xs k ≡ Some x → p x ≡ q x) → list_any p xs ≡ list_any q xs
any_in p q xs same = any_at p q xs (λ i x e. same (suc i) x e)

or_map : {X Y : Type 0} (g h : X → Y) (d : Y) → ((x : X) → g x ≡ h x) → (o : Option X) → option_map_or g o d ≡ option_map_or h o d
or_map g h d same None = refl
or_map g h d same (Some x) = same x

-- the last one that passes a test is one of the list, and passes it
record IsOne {X : Type 0} (test : X → Bool) (xs : List X) (x : X) : Type 0 where
  number : ℕ
  there : numbered xs number ≡ Some x
  passes : test x ≡ true

one_more : {X : Type 0} (test : X → Bool) (y : X) (xs : List X) (x : X) → IsOne test xs x → IsOne test (y ∷ xs) x
one_more test y xs x one = record { number = suc one.number; there = more_by one.number one.there; passes = one.passes }
  where
    more_by : (n : ℕ) → numbered xs n ≡ Some x → numbered (y ∷ xs) (suc n) ≡ Some x
    more_by zero e = absurd (cc)
    more_by (suc i) e = e

last_by : {X : Type 0} (test : X → Bool) (y : X) (xs : List X) (x : X) (o : Option X) (b : Bool) → find_last test xs ≡ o → test y ≡ b
    → ((z : X) → find_last test xs ≡ Some z → IsOne test xs z) → option_or o (if b then Some y else None) ≡ Some x → IsOne test (y ∷ xs) x
last_by test y xs x (Some z) b e f more is =
    let same : z ≡ x = (cc) in one_more test y xs x (more x (e ∙ ap (λ (w : _). Some w) same))
last_by test y xs x None true e f more is =
    let same : y ≡ x = (cc) in record { number = 1; there = ap (λ (w : _). Some w) same; passes = ap test (sym same) ∙ f }
last_by test y xs x None false e f more is = absurd (cc)

last_is_one : {X : Type 0} (test : X → Bool) (xs : List X) (x : X) → find_last test xs ≡ Some x → IsOne test xs x
last_is_one test [] x e = absurd (cc)
last_is_one test (y ∷ xs) x e = last_by test y xs x (find_last test xs) (test y) refl refl (λ z f. last_is_one test xs z f) e

first_of_two : (a b : Bool) → (a && b) ≡ true → a ≡ true
first_of_two true b e = refl
first_of_two false b e = absurd (cc)

and_off : (b : Bool) → (b && false) ≡ false
and_off true = refl
and_off false = refl

module _ (s : Seen) (n : ℕ) (config at : ℕ) (numbers : CallsHaveTheirNumbers s) (none : list_any (λ (a : Attempt). a.row.call == n) s.attempts ≡ false) where
  abbrev now_one : Call → Call
  now_one c = record c { marks = c.marks ++ record { what = mark.Configured; moment = now s } ∷ []; config = Some config; configured = Some at }

  abbrev cs : List Call
  cs = changed now_one n s.calls

  abbrev t : Seen
  t = record s { calls = cs }

  -- of an attempt that is there the call is as before
  other : (i : ℕ) (a : Attempt) → numbered s.attempts i ≡ Some a → (a.row.call == n) ≡ false
  other i a there = passes_not (λ (q : Attempt). q.row.call == n) s.attempts i a none there

  call_same : (i : ℕ) (a : Attempt) → numbered s.attempts i ≡ Some a → numbered cs a.row.call ≡ numbered s.calls a.row.call
  call_same i a there = changed_away now_one n a.row.call s.calls (eqb-false a.row.call n (other i a there))

  still_by : (p q : Attempt → Bool) → ((i : ℕ) (a : Attempt) → numbered s.attempts i ≡ Some a → p a ≡ q a) → list_any q s.attempts ≡ false → list_any p s.attempts ≡ false
  still_by p q same h = any_in p q s.attempts same ∙ h

  over_same : (i : ℕ) (a : Attempt) → numbered s.attempts i ≡ Some a → is_over a t ≡ is_over a s
  over_same i a there = ap (holds (λ (c : Call). is_over_in c a s)) (call_same i a there)

  wants_same : (i : ℕ) (a : Attempt) → numbered s.attempts i ≡ Some a → (e : RowEnd) → wants_follower_by a t e ≡ wants_follower_by a s e
  wants_same i a there e =
      ap (λ (o : Option Call). not (is_followed a s) && holds (λ (c : Call). is_to_follow c e.cause e.unseen s) o) (call_same i a there)

  counts_same : (i : ℕ) (a : Attempt) → numbered s.attempts i ≡ Some a → (e : RowEnd) → counts_by a t e ≡ counts_by a s e
  counts_same i a there e = ap (λ (x : Bool). (not (is_cut e.cause) && not (is_followed a s)) && not x) (wants_same i a there e)

  counted_same : (i : ℕ) (a : Attempt) → numbered s.attempts i ≡ Some a → is_counted a t ≡ is_counted a s
  counted_same i a there = holds_same (counts_by a t) (counts_by a s) (counts_same i a there) a.row.ended

  -- its response
  limit_same : (i : ℕ) (a : Attempt) → numbered s.attempts i ≡ Some a → limit_of_attempt a t ≡ limit_of_attempt a s
  limit_same i a there = ap (λ (o : Option Call). option_map_or (λ (c : Call). (chosen_of c s).response) o message_limit) (call_same i a there)

  response_one : (a : Attempt) → limit_of_attempt a t ≡ limit_of_attempt a s → (o : Option ℕ) → response_by a t o ≡ response_by a s o
  response_one a limit None = refl
  response_one a limit (Some stream) =
      or_map (response_on a stream t) (response_on a stream s) no_response (λ l. ap (λ (k : ℕ). response_in k stream (traffic_of a l.traffic)) limit) (link_of a s)

  response_same : (i : ℕ) (a : Attempt) → numbered s.attempts i ≡ Some a → response a t ≡ response a s
  response_same i a there = response_one a (limit_same i a there) a.row.stream

  outcome_one : (a : Attempt) → response a t ≡ response a s → (o : Option ℕ) (l : Link) → outcome_on a t o l ≡ outcome_on a s o l
  outcome_one a same None l = refl
  outcome_one a same (Some stream) l = ap (λ (r : Response). option_or r.end (if is_some l.over then Some lost_end else None)) same

  outcome_same : (i : ℕ) (a : Attempt) → numbered s.attempts i ≡ Some a → outcome_of a t ≡ outcome_of a s
  outcome_same i a there =
      then_same (outcome_on a t a.row.stream) (outcome_on a s a.row.stream) (outcome_one a (response_same i a there) a.row.stream) (link_of a s)

  code_same : (a : Attempt) → response a t ≡ response a s → (e : RowEnd) (stream : ℕ) (l : Link) → code_to_reset a e stream t l ≡ code_to_reset a e stream s l
  unfolding code_with
  code_same a same e stream l = ap (code_with a e stream l) same

  reset_same : (i : ℕ) (a : Attempt) → numbered s.attempts i ≡ Some a → reset_code_of t a ≡ reset_code_of s a
  reset_same i a there =
      then_same (code_at_end a t) (code_at_end a s)
      (λ e. then_same (code_for_stream a e t) (code_for_stream a e s)
      (λ stream. ap (λ (x : Option ℕ). if (e.entry == entry s) && not a.reset then x else None)
      (then_same (code_to_reset a e stream t) (code_to_reset a e stream s) (code_same a (response_same i a there) e stream) (link_of a s))) a.row.stream) a.row.ended

  -- the attempt to which a call is committed
  own_not : (c : Call) (k : Attempt) (i : ℕ) → numbered s.attempts i ≡ Some k → c.number ≡ n → is_commitment c k ≡ true → ⊥
  own_not c k i there own is =
      let mine : (k.row.call == n) ≡ true = ap (λ (m : ℕ). k.row.call == m) (sym own) ∙ first_of_two (is_of c k) (is_some k.row.committed) is in
      absurd (let bad : false ≡ true = sym (other i k there) ∙ mine in (cc))

  own_by : (c : Call) (o : Option Attempt) → commitment c s ≡ o → c.number ≡ n → o ≡ None
  own_by c None e own = refl
  own_by c (Some k) e own =
      let one = last_is_one (is_commitment c) s.attempts k e in
      absurd (own_not c k one.number one.there own one.passes)

  in_commitment : (p q : Attempt → Bool) → ((i : ℕ) (a : Attempt) → numbered s.attempts i ≡ Some a → p a ≡ q a) → (c : Call) (o : Option Attempt) → commitment c s ≡ o
      → holds p o ≡ holds q o
  in_commitment p q same c None e = refl
  in_commitment p q same c (Some k) e = let one = last_is_one (is_commitment c) s.attempts k e in same one.number k one.there

  none_committed : (c : Call) → numbered s.calls n ≡ Some c → commitment c s ≡ None
  none_committed c there = own_by c (commitment c s) refl (numbers n c there)

  going_one : (c : Call) (i : ℕ) (a : Attempt) → numbered s.attempts i ≡ Some a
      → (is_of c a && (is_outstanding a || is_queued a t)) ≡ (is_of c a && (is_outstanding a || is_queued a s))
  going_one c i a there =
      ap (λ (x : Bool). is_of c a && (is_outstanding a || ((is_none a.row.placed && is_none a.row.ended) && not x))) (over_same i a there)

  going_same : (c : Call) → has_going c t ≡ has_going c s
  going_same c =
      any_in (λ (a : Attempt). is_of c a && (is_outstanding a || is_queued a t)) (λ (a : Attempt). is_of c a && (is_outstanding a || is_queued a s)) s.attempts (going_one c)

  final_one : (i : ℕ) (a : Attempt) → numbered s.attempts i ≡ Some a → is_final_end t a ≡ is_final_end s a
  final_one i a there =
      ap (holds (λ (c : Call). is_final_in a t c)) (call_same i a there)
      ∙ holds_same (λ (c : Call). is_final_in a t c) (λ (c : Call). is_final_in a s c)
      (λ c. final_same s s cs (λ (x : Call). x.messages) (λ (x : Call). x.finished) (λ (x : Call). x.taken) (λ (x : Call). x.end_taken) counts_same c (going_same c) i a there)
      (numbered s.calls a.row.call)

  head_one : (i : ℕ) (a : Attempt) → numbered s.attempts i ≡ Some a → is_headed t a ≡ is_headed s a
  head_one i a there =
      ap (λ (o : Option Call). is_outstanding a && holds (has_head_in a t) o) (call_same i a there)
      ∙ ap (λ (b : Bool). is_outstanding a && b)
      (holds_same (has_head_in a t) (has_head_in a s) (λ c. ap (λ (r : Response). is_free_call s c && is_some r.head) (response_same i a there)) (numbered s.calls a.row.call))

  row_here : (c : Call) → numbered s.calls n ≡ Some c → is_over_by_row t (now_one c) ≡ false
  row_here c there = ap (λ (o : Option Attempt). is_open_call c && holds (λ (k : Attempt). is_counted k t) o) (none_committed c there) ∙ and_off (is_open_call c)

  response_here : (c : Call) → numbered s.calls n ≡ Some c → has_long_response t (now_one c) ≡ false
  response_here c there =
      ap (λ (o : Option Attempt). is_open_call c && holds (λ (k : Attempt). is_outstanding k && (response k t).large) o) (none_committed c there) ∙ and_off (is_open_call c)

  pub configured_still : (l : Line) (o : OpenEntry) → stirs (action.CallConfigured n config) l ≡ false → IsStill l o s → IsStill l o t
  configured_still line.Cut o e h = still_by (is_to_cut t) (is_to_cut s) (λ i a there. ap (λ (x : Bool). is_outstanding a && x) (over_same i a there)) h
  configured_still line.Transparent o e h =
      still_by (λ (a : Attempt). wants_follower a t) (λ (a : Attempt). wants_follower a s)
      (λ i a there. holds_same (wants_follower_by a t) (wants_follower_by a s) (wants_same i a there) a.row.ended) h
  configured_still line.Inherited o e h =
      still_by (is_inherited t) (is_inherited s) (λ i a there. ap (λ (q : Option Call). is_none a.row.committed && holds (is_inherited_in a s) q) (call_same i a there)) h
  configured_still line.Row o e h =
      none_each_changed (is_over_by_row t) now_one n s.calls row_here
      (λ k c away there. ap (λ (x : Bool). is_open_call c && x) (in_commitment (λ (q : Attempt). is_counted q t) (λ (q : Attempt). is_counted q s) counted_same c (commitment c s) refl)
      ∙ passes_not (is_over_by_row s) s.calls k c h there)
  configured_still line.Final o e h = still_by (is_final_end t) (is_final_end s) final_one h
  configured_still line.Cancelled o e h =
      none_each_changed (is_cancelled o) now_one n s.calls (λ c there. passes_not (is_cancelled o) s.calls n c h there) (λ k c away there. passes_not (is_cancelled o) s.calls k c h there)
  configured_still line.Request o e h = absurd (cc)
  configured_still line.Overflow o e h =
      none_each_changed (is_overflowing t) now_one n s.calls (λ c there. passes_not (is_overflowing s) s.calls n c h there) (λ k c away there. passes_not (is_overflowing s) s.calls k c h there)
  configured_still line.Head o e h = still_by (is_headed t) (is_headed s) head_one h
  configured_still line.Response o e h =
      none_each_changed (has_long_response t) now_one n s.calls response_here
      (λ k c away there. ap (λ (x : Bool). is_open_call c && x)
      (in_commitment (λ (q : Attempt). is_outstanding q && (response q t).large) (λ (q : Attempt). is_outstanding q && (response q s).large)
      (λ i a here. ap (λ (r : Response). is_outstanding a && r.large) (response_same i a here)) c (commitment c s) refl)
      ∙ passes_not (has_long_response s) s.calls k c h there)
  configured_still line.Pick o e h = h
  configured_still line.Link o e h = h
  configured_still line.WireEnd o e h =
      still_by (is_to_end t) (is_to_end s)
      (λ i a there. ap (λ (x : Bool). (is_outstanding a && not x) && is_some (outcome_of a t)) (over_same i a there)
      ∙ ap (λ (x : Option Outcome). (is_outstanding a && not (is_over a s)) && is_some x) (outcome_same i a there)) h
  configured_still line.Reset o e h = still_by (is_to_reset t) (is_to_reset s) (λ i a there. ap (λ (x : Option ℕ). is_some x) (reset_same i a there)) h
  configured_still line.Shut o e h =
      none_each_changed (is_shut_down t) now_one n s.calls (λ c there. passes_not (is_shut_down s) s.calls n c h there) (λ k c away there. passes_not (is_shut_down s) s.calls k c h there)
  configured_still line.Retire o e h = h
  configured_still line.Begin o e h = h
  configured_still line.Give o e h = h
  configured_still line.Drop o e h = h
  configured_still line.Add o e h = h

pub configured_leaves : ConfigsStir
configured_leaves call config o s e numbers none l p is not_stirred h =
    let mark_now : Mark = record { what = mark.Configured; moment = now s } in
    let twice : changed (λ (c : Call). record c { config = Some config; configured = Some (entry s) }) call (changed (λ (c : Call). record c { marks = c.marks ++ mark_now ∷ [] }) call s.calls)
    ≡ changed (λ (c : Call). record c { marks = c.marks ++ mark_now ∷ []; config = Some config; configured = Some (entry s) }) call s.calls
    = changed_twice (λ (c : Call). record c { marks = c.marks ++ mark_now ∷ [] }) (λ (c : Call). record c { config = Some config; configured = Some (entry s) }) call s.calls in
    goes_on o (call_configured call config s) e l
    (subst (λ (x : List Call). IsStill l o (record s { calls = x })) (sym twice) (configured_still s call config (entry s) numbers none l o not_stirred h)) p is
