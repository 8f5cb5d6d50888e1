-- A call that begins stirs no line: it has no attempt yet.
use Rattle.std.proofs.Common.{◌≡◌, ◌+◌, ◌<◌, ◌≤◌, ◌∷◌, ◌++◌, ◌||◌, ◌&&◌, ◌==◌, not, ap, arith, refl, subst, sym, ◌∙◌, Bool, true, false, List, [], Option, None, Some, ℕ, zero, suc, if◌then◌else◌, is_none, is_some, length, slice_get}
use Rattle.std.proofs.lemmas.Bool.{and_left, and_right, eqb-true, or_parts}
use Rattle.std.specs.List.{list_any}
use Rattle.std.specs.Option.{option_map_or, option_or}
use Rattle.attempt_ledger.specs.Ends.{is_cut}
use Rattle.attempt_ledger.specs.declared.row.RowEnd.{RowEnd}
use Rattle.grpc_base.specs.Limits.{message_limit}
use Rattle.grpc_base.specs.Requests.{RequestSeen}
use Rattle.grpc_base.specs.declared.event.Event.{Event}
use Rattle.session_actions.specs.AttemptEnds.{outcome_of}
use Rattle.session_actions.specs.Attempts.{commitment, counts_by, is_commitment, is_counted, is_followed, is_of, is_outstanding, is_over, is_over_in, is_queued, is_to_follow, wants_follower, wants_follower_by}
use Rattle.session_actions.specs.CallEnds.{cancels, has_long_request, has_long_response, is_after_event, is_cancelled, is_over_by_row, is_shut_down, sends_too_long}
use Rattle.session_actions.specs.Calls.{is_open_call}
use Rattle.session_actions.specs.Commitments.{has_head_in, is_final_end, is_final_in, is_free_call, is_headed, is_inherited, is_inherited_in}
use Rattle.session_actions.specs.Configs.{chosen_of}
use Rattle.session_actions.specs.Deliveries.{begun_call, call_begun_by}
use Rattle.session_actions.specs.DueAttempts.{has_going}
use Rattle.session_actions.specs.Entries.{entry, now}
use Rattle.session_actions.specs.Responses.{limit_of_attempt, response}
use Rattle.session_actions.specs.Words.{find_last, holds, numbered}
use Rattle.session_actions.specs.declared.attempt.Attempt.{Attempt}
use Rattle.session_actions.specs.declared.call.Call.{Call}
use Rattle.session_actions.specs.declared.entry.OpenEntry.{OpenEntry}
use Rattle.session_actions.specs.declared.response.Outcome.{Outcome}
use Rattle.session_actions.specs.declared.seen.Seen.{Seen}
use Rattle.session_order.proofs.Aside.{long_as}
use Rattle.session_order.proofs.Changed.{none_from, none_more}
use Rattle.session_order.proofs.Finals.{final_same, holds_in}
use Rattle.session_order.proofs.Limits.{headed_in, limits_reset, long_response, outcome_same}
use Rattle.session_order.proofs.Lists.{any_in, any_same, holds_same}
use Rattle.session_order.proofs.Posts.{IsPlain, plain_answered}
use Rattle.session_order.specs.Quiescent.{IsStill, has_outstanding, is_overflowing, is_to_cut, is_to_end}
use Rattle.session_order.specs.Laws.{StirsOnly}
use Rattle.session_order.specs.Stirs.{HaveCalls}
use Rattle.session_order.specs.declared.line.Line.{Line}
use Rattle.session_actions.specs.declared.action.Action.TheVariants as action
use Rattle.grpc_base.specs.declared.event.Event.TheVariants as event
use Rattle.session_order.specs.declared.line.Line.TheVariants as line
use Rattle.grpc_base.specs.declared.event.Reply.TheVariants as reply

-- one more at the end of a list
get_more : {X : Type 0} (xs : List X) (x : X) (i : ℕ) → i < length xs → slice_get (xs ++ x ∷ []) i ≡ slice_get xs i
get_more [] x i less = absurd (omega arith)
get_more (y ∷ xs) x zero less = refl
get_more (y ∷ xs) x (suc i) less = get_more xs x i (omega arith)

pub numbered_more : {X : Type 0} (xs : List X) (x : X) (k : ℕ) → k ≤ length xs → numbered (xs ++ x ∷ []) k ≡ numbered xs k
numbered_more xs x zero less = refl
numbered_more xs x (suc i) less = get_more xs x i less

read_more_at : {X Y : Type 0} (h : Option X → Y) (xs : List X) (x : X) → h (Some x) ≡ h None → (i : ℕ) → h (slice_get (xs ++ x ∷ []) i) ≡ h (slice_get xs i)
read_more_at h [] x same zero = same
read_more_at h [] x same (suc i) = refl
read_more_at h (y ∷ xs) x same zero = refl
read_more_at h (y ∷ xs) x same (suc i) = read_more_at h xs x same i

read_more : {X Y : Type 0} (h : Option X → Y) (xs : List X) (x : X) → h (Some x) ≡ h None → (k : ℕ) → h (numbered (xs ++ x ∷ []) k) ≡ h (numbered xs k)
read_more h xs x same zero = refl
read_more h xs x same (suc i) = read_more_at h xs x same i

-- the last one that passes is one of the list; and there is none where none passes
last_by : {X : Type 0} (x y : X) (xs : List X) (b : Bool) (o : Option X) → ((z : X) → o ≡ Some z → (i : ℕ) × (slice_get xs i ≡ Some z))
    → option_or o (if b then Some x else None) ≡ Some y → (i : ℕ) × (slice_get (x ∷ xs) i ≡ Some y)
last_by x y xs true None rest e = (zero, e)
last_by x y xs false None rest e = absurd (cc)
last_by x y xs b (Some z) rest e = (let there : (i : ℕ) × (slice_get xs i ≡ Some y) = rest y e in (suc there.0, there.1))

pub last_in : {X : Type 0} (test : X → Bool) (xs : List X) (y : X) → find_last test xs ≡ Some y → (i : ℕ) × (slice_get xs i ≡ Some y)
last_in test [] y e = absurd (cc)
last_in test (x ∷ xs) y e = last_by x y xs (test x) (find_last test xs) (last_in test xs) e

last_none : {X : Type 0} (test : X → Bool) (xs : List X) → list_any test xs ≡ false → find_last test xs ≡ None
last_none test [] e = refl
last_none test (x ∷ xs) e =
    let parts : (test x ≡ false) × (list_any test xs ≡ false) = or_parts (test x) (list_any test xs) e in
    ap (λ (o : Option _). option_or o (if test x then Some x else None)) (last_none test xs parts.1)
    ∙ ap (λ (b : Bool). if b then Some x else None) parts.0

unequal : (n m : ℕ) (b : Bool) → (n == m + 1) ≡ b → n ≤ m → (n == m + 1) ≡ false
unequal n m true e less = (let same : n ≡ m + 1 = eqb-true n (m + 1) e in absurd (omega (arith, same, less)))
unequal n m false e less = e

middle : (x y : Bool) → (x && false && y) ≡ false
middle true y = refl
middle false y = refl

module _ (s : Seen) (request : RequestSeen) (have : HaveCalls s) where
  abbrev x : Call
  x = begun_call (length s.calls + 1) (entry s) (now s) request

  abbrev cs : List Call
  cs = s.calls ++ x ∷ []

  abbrev t : Seen
  t = record s { calls = cs }

  same_call : (k : ℕ) (a : Attempt) → numbered s.attempts k ≡ Some a → numbered cs a.row.call ≡ numbered s.calls a.row.call
  same_call k a here = numbered_more s.calls x a.row.call (have k a here)

  over_same : (k : ℕ) (a : Attempt) → numbered s.attempts k ≡ Some a → is_over a t ≡ is_over a s
  over_same k a here = ap (holds (λ (c : Call). is_over_in c a s)) (same_call k a here)

  wants_same : (k : ℕ) (a : Attempt) → numbered s.attempts k ≡ Some a → (e : RowEnd) → wants_follower_by a t e ≡ wants_follower_by a s e
  wants_same k a here e =
      ap (λ (o : Option Call). not (is_followed a s) && holds (λ (c : Call). is_to_follow c e.cause e.unseen s) o) (same_call k a here)

  counts_same : (k : ℕ) (a : Attempt) → numbered s.attempts k ≡ Some a → (e : RowEnd) → counts_by a t e ≡ counts_by a s e
  counts_same k a here e = ap (λ (b : Bool). (not (is_cut e.cause) && not (is_followed a s)) && not b) (wants_same k a here e)

  counted_same : (k : ℕ) (a : Attempt) → numbered s.attempts k ≡ Some a → is_counted a t ≡ is_counted a s
  counted_same k a here = holds_same (counts_by a t) (counts_by a s) (counts_same k a here) a.row.ended

  limit_same : (a : Attempt) → limit_of_attempt a t ≡ limit_of_attempt a s
  limit_same a = read_more (λ (o : Option Call). option_map_or (λ (c : Call). (chosen_of c s).response) o message_limit) s.calls x refl a.row.call

  -- the new call has no attempt
  uncommitted : commitment x s ≡ None
  uncommitted =
      last_none (is_commitment x) s.attempts
      (none_from (is_commitment x) s.attempts
      (λ k a here. and_left (is_of x a) (is_some a.row.committed) (unequal a.row.call (length s.calls) (a.row.call == length s.calls + 1) refl (have k a here))))

  row_one : (c : Call) → is_over_by_row t c ≡ is_over_by_row s c
  row_one c =
      ap (λ (b : Bool). is_open_call c && b)
      (holds_in (λ (k : Attempt). is_counted k t) (λ (k : Attempt). is_counted k s) (commitment c s)
      (λ a e. (let there : (i : ℕ) × (slice_get s.attempts i ≡ Some a) = last_in (is_commitment c) s.attempts a e in counted_same (suc there.0) a there.1)))

  going_same : (c : Call) → has_going c t ≡ has_going c s
  going_same c =
      any_in (λ (a : Attempt). is_of c a && (is_outstanding a || is_queued a t)) (λ (a : Attempt). is_of c a && (is_outstanding a || is_queued a s)) s.attempts
      (λ k a here. ap (λ (b : Bool). is_of c a && (is_outstanding a || ((is_none a.row.placed && is_none a.row.ended) && not b))) (over_same k a here))

  final_one : (k : ℕ) (a : Attempt) → numbered s.attempts k ≡ Some a → is_final_end t a ≡ is_final_end s a
  final_one k a here =
      ap (holds (is_final_in a t)) (same_call k a here)
      ∙ holds_same (is_final_in a t) (is_final_in a s)
      (λ c. final_same s s cs (λ (y : Call). y.messages) (λ (y : Call). y.finished) (λ (y : Call). y.taken) (λ (y : Call). y.end_taken) counts_same c (going_same c) k a here)
      (numbered s.calls a.row.call)

  head_one : (k : ℕ) (a : Attempt) → numbered s.attempts k ≡ Some a → is_headed t a ≡ is_headed s a
  head_one k a here =
      ap (λ (o : Option Call). is_outstanding a && holds (has_head_in a t) o) (same_call k a here)
      ∙ ap (λ (b : Bool). is_outstanding a && b) (holds_same (has_head_in a t) (has_head_in a s) (headed_in s cs limit_same a) (numbered s.calls a.row.call))

  end_one : (k : ℕ) (a : Attempt) → numbered s.attempts k ≡ Some a → is_to_end t a ≡ is_to_end s a
  end_one k a here =
      ap (λ (b : Bool). (is_outstanding a && not b) && is_some (outcome_of a t)) (over_same k a here)
      ∙ ap (λ (o : Option Outcome). (is_outstanding a && not (is_over a s)) && is_some o) (outcome_same s cs limit_same a)

  new_request : (o : OpenEntry) → IsPlain o.event → has_long_request o t x ≡ false
  new_request o plain = and_right (is_after_event o) (sends_too_long o.event x t) (plain.sends x t)

  new_overflow : is_overflowing t x ≡ false
  new_overflow = middle (is_free_call t x) (has_outstanding x t)

  pub begun_still : (l : Line) (o : OpenEntry) → IsPlain o.event → s.shut ≡ false → IsStill l o s → IsStill l o t
  begun_still line.Cut o plain shut h = any_in (is_to_cut t) (is_to_cut s) s.attempts (λ k a here. ap (λ (b : Bool). is_outstanding a && b) (over_same k a here)) ∙ h
  begun_still line.Transparent o plain shut h = any_in (λ (a : Attempt). wants_follower a t) (λ (a : Attempt). wants_follower a s) s.attempts
      (λ k a here. holds_same (wants_follower_by a t) (wants_follower_by a s) (wants_same k a here) a.row.ended) ∙ h
  begun_still line.Inherited o plain shut h = any_in (is_inherited t) (is_inherited s) s.attempts
      (λ k a here. ap (λ (c : Option Call). is_none a.row.committed && holds (is_inherited_in a s) c) (same_call k a here)) ∙ h
  begun_still line.Row o plain shut h = none_more (is_over_by_row t) s.calls x (any_same (is_over_by_row t) (is_over_by_row s) row_one s.calls ∙ h)
      (ap (holds (λ (k : Attempt). is_counted k t)) uncommitted)
  begun_still line.Final o plain shut h = any_in (is_final_end t) (is_final_end s) s.attempts final_one ∙ h
  begun_still line.Cancelled o plain shut h = none_more (is_cancelled o) s.calls x h (and_right (is_after_event o) (cancels o.event x.number) (plain.cancels x.number))
  begun_still line.Request o plain shut h = none_more (has_long_request o t) s.calls x
      (any_same (has_long_request o t) (has_long_request o s) (λ c. long_as o c c t s refl refl refl (λ m. refl)) s.calls ∙ h) (new_request o plain)
  begun_still line.Overflow o plain shut h = none_more (is_overflowing t) s.calls x h new_overflow
  begun_still line.Head o plain shut h = any_in (is_headed t) (is_headed s) s.attempts head_one ∙ h
  begun_still line.Response o plain shut h = none_more (has_long_response t) s.calls x (any_same (has_long_response t) (has_long_response s) (long_response s cs limit_same) s.calls ∙ h)
      (ap (holds (λ (k : Attempt). is_outstanding k && (response k t).large)) uncommitted)
  begun_still line.Pick o plain shut h = h
  begun_still line.Link o plain shut h = h
  begun_still line.WireEnd o plain shut h = any_in (is_to_end t) (is_to_end s) s.attempts end_one ∙ h
  begun_still line.Reset o plain shut h = limits_reset s cs limit_same ∙ h
  begun_still line.Shut o plain shut h = none_more (is_shut_down t) s.calls x h shut
  begun_still line.Retire o plain shut h = h
  begun_still line.Begin o plain shut h = h
  begun_still line.Give o plain shut h = h
  begun_still line.Drop o plain shut h = h
  begun_still line.Add o plain shut h = h

plain_begin : (request : RequestSeen) → IsPlain (event.Begin request)
plain_begin request = record { cancels = λ call. refl; sends = λ c s. refl; addresses = refl }

begun_by : (e : Event) (request : RequestSeen) → e ≡ event.Begin request → (o : OpenEntry) (s : Seen) → s.current ≡ Some o → IsPlain o.event → s.shut ≡ false
    → HaveCalls s → (l : Line) → IsStill l o s → (p : OpenEntry) → (call_begun_by e s).current ≡ Some p → IsStill l p (call_begun_by e s)
begun_by e request is o s now_open plain shut have l h p f =
    subst (λ (d : Event). (call_begun_by d s).current ≡ Some p → IsStill l p (call_begun_by d s)) (sym is)
    (λ g. plain_answered (reply.Call (length s.calls + 1)) o (record s { calls = s.calls ++ begun_call (length s.calls + 1) (entry s) (now s) request ∷ [] })
    now_open plain l (begun_still s request have l o plain shut h) p g) f

pub begun_leaves : StirsOnly action.CallBegins
begun_leaves o s e fits l p is not_stirred h =
    let plain : IsPlain o.event = subst (λ (d : Event). IsPlain d) (sym fits.1) (plain_begin fits.0) in
    begun_by o.event fits.0 fits.1 o s e plain fits.2 fits.3 l h p is
