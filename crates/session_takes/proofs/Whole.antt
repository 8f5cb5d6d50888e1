-- What was taken of a call whose attempt ended by itself, in all; and that no item is taken after an end.
-- a response has no end among its items
use Rattle.attempt_ledger.specs.declared.ledger.CallEnd.{CallEnd}
use Rattle.attempt_ledger.specs.declared.row.RowEnd.{RowEnd}
use Rattle.call_actions.specs.TakeActions.Serves.{came}
use Rattle.grpc_base.specs.declared.event.Reply.{Reply}
use Rattle.grpc_base.specs.declared.fields.Field.{Field}
use Rattle.session_actions.specs.Attempts.{commitment}
use Rattle.session_actions.specs.Deliveries.{available, end_by_channel, end_by_row, end_item, is_end, response_items}
use Rattle.session_actions.specs.Responses.{response}
use Rattle.session_actions.specs.Sessions.{Does, new_session}
use Rattle.session_actions.specs.Words.{numbered}
use Rattle.session_actions.specs.declared.action.Action.{Action}
use Rattle.session_actions.specs.declared.attempt.Attempt.{Attempt}
use Rattle.session_actions.specs.declared.call.Call.{Call}
use Rattle.session_actions.specs.declared.seen.Seen.{Seen}
use Rattle.session_actions.specs.declared.seen.Setup.{Setup}
use Rattle.session_order.proofs.Changed.{passes_not}
use Rattle.session_order.proofs.SessionLaws.Lists.{past}
use Rattle.session_takes.proofs.Prefixes.{IsPrefix, prefix_at, prefix_length, prefix_more, prefix_taken, prefix_whole, inside}
use Rattle.session_takes.proofs.Taken.{AllTaken, all_taken, only_calls_are_taken}
use Rattle.session_takes.specs.Takes.{EndsAreLast, EndsByAttempt, TakesAreWhole, taken_in, whole_response}
use Rattle.std.proofs.Common.{Bool, List, None, Option, Some, [], ap, append-nil, arith, false, if◌then◌else◌, inl, inr, length, length-append, map, refl, slice_get, subst, suc, sym, take, true, ℕ, ◌++◌, ◌+◌, ◌||◌, ◌∙◌, ◌∷◌, ◌≡◌, ◌≤◌}
use Rattle.std.specs.List.{list_any}
use Rattle.std.specs.Option.{option_map, option_map_or}
use Rattle.std.specs.Prelude.{option_and_then, option_to_list}
use Rattle.grpc_base.specs.declared.event.Reply.TheVariants as reply

no_messages : (ms : List (List ℕ)) → list_any is_end (map (λ (m : List ℕ). reply.Message m) ms) ≡ false
no_messages [] = refl
no_messages (m ∷ ms) = no_messages ms

no_ends_by : (head : Option (List Field)) (ms : List (List ℕ))
    → list_any is_end (option_to_list (option_map (λ (meta : List Field). reply.Head meta) head) ++ map (λ (m : List ℕ). reply.Message m) ms) ≡ false
no_ends_by None ms = no_messages ms
no_ends_by (Some meta) ms = no_messages ms

no_ends : (s : Seen) (o : Option Attempt) → list_any is_end (option_map_or (λ (k : Attempt). response_items (response k s)) o []) ≡ false
no_ends s None = refl
no_ends s (Some k) = no_ends_by (response k s).head (response k s).messages

-- so an end stands after all that came
end_at : (c : Call) (s : Seen) (i : ℕ) (x : Reply) → slice_get (came c s) i ≡ Some x → is_end x ≡ true → ⊥
end_at c s i x got e =
    let bad : false ≡ true = sym (passes_not is_end (came c s) (suc i) x (no_ends s (commitment c s)) got) ∙ e in (cc)

last_at : (xs : List Reply) (e x : Reply) (i : ℕ) → (slice_get xs i ≡ Some x → ⊥) → slice_get (xs ++ e ∷ []) i ≡ Some x → suc i ≡ length (xs ++ e ∷ [])
last_at xs e x i never got =
    elim (past xs e x i got) [
      | inl old ↦ absurd (never old)
      | inr here ↦ (let at : i ≡ length xs = here.0 in let all : length (xs ++ e ∷ []) ≡ length xs + 1 = length-append xs (e ∷ []) in omega (arith, at, all))
    ]

-- the end of a call is the last of what it has
last_by : (c : Call) (s : Seen) (o : Option CallEnd) → c.end ≡ o → (i : ℕ) (x : Reply) → slice_get (available c s) i ≡ Some x → is_end x ≡ true → suc i ≡ length (available c s)
last_by c s None e i x got is =
    let all : available c s ≡ came c s
    = ap (λ (o : Option CallEnd). came c s ++ option_to_list (option_map (λ (z : CallEnd). end_item c s z.cause) o)) e ∙ append-nil (came c s) in
    absurd (end_at c s i x (ap (λ (l : List Reply). slice_get l i) (sym all) ∙ got) is)
last_by c s (Some y) e i x got is =
    let all : available c s ≡ came c s ++ end_item c s y.cause ∷ []
    = ap (λ (o : Option CallEnd). came c s ++ option_to_list (option_map (λ (z : CallEnd). end_item c s z.cause) o)) e in
    last_at (came c s) (end_item c s y.cause) x i (λ old. end_at c s i x old is) (ap (λ (l : List Reply). slice_get l i) (sym all) ∙ got)
    ∙ ap (λ (l : List Reply). length l) (sym all)

same_length : (i n m : ℕ) → suc i ≡ m → suc i ≤ n → n ≤ m → suc i ≡ n
same_length i n m e f g = omega (arith, e, f, g)

ends_by : (setup : Setup) (actions : List Action) (s : Seen) → Does actions (new_session setup) s → (k i : ℕ) (item : Reply) → slice_get (taken_in k actions) i ≡ Some item
    → is_end item ≡ true → (o : Option Call) → numbered s.calls k ≡ o → suc i ≡ length (taken_in k actions)
ends_by setup actions s does k i item got is None none =
    absurd (let bad : ◌≡◌ {A = Option Reply} None (Some item) = ap (λ (l : List Reply). slice_get l i) (sym (only_calls_are_taken setup actions s does k none)) ∙ got in (cc))
ends_by setup actions s does k i item got is (Some c) there =
    let h : AllTaken k actions s c = all_taken setup actions s does k c there in
    let at : slice_get (available c s) i ≡ Some item = prefix_at (taken_in k actions) (available c s) i item h.prefix got in
    same_length i (length (taken_in k actions)) (length (available c s)) (last_by c s c.end refl i item at is) (inside (taken_in k actions) i item got)
    (prefix_length (taken_in k actions) (available c s) h.prefix)

pub ends_are_last : EndsAreLast
ends_are_last setup actions s does k i item got is = ends_by setup actions s does k i item got is (numbered s.calls k) refl

-- a call that ended so has the whole response
pub ended_whole : (s : Seen) (c : Call) (b : EndsByAttempt s c) (y : CallEnd) → c.end ≡ Some y → available c s ≡ whole_response b.attempt b.end s
ended_whole s c b y e =
    let came_is : came c s ≡ response_items (response b.attempt s) = ap (λ (o : Option Attempt). option_map_or (λ (k : Attempt). response_items (response k s)) o []) b.committed in
    let end_is : end_item c s y.cause ≡ end_by_row b.end
    = ap (λ (x : Bool). if x then option_map_or end_by_row (option_and_then (λ (k : Attempt). k.row.ended) (commitment c s)) (end_by_channel y.cause) else end_by_channel y.cause) (b.alone y e)
    ∙ ap (λ (o : Option Attempt). option_map_or end_by_row (option_and_then (λ (k : Attempt). k.row.ended) o) (end_by_channel y.cause)) b.committed
    ∙ ap (λ (o : Option RowEnd). option_map_or end_by_row o (end_by_channel y.cause)) b.ended in
    ap (λ (o : Option CallEnd). came c s ++ option_to_list (option_map (λ (z : CallEnd). end_item c s z.cause) o)) e
    ∙ ap (λ (l : List Reply). l ++ end_item c s y.cause ∷ []) came_is ∙ ap (λ (r : Reply). response_items (response b.attempt s) ++ r ∷ []) end_is

-- the whole response of the attempt to which it is committed
whole_by : (s : Seen) (c : Call) (b : EndsByAttempt s c) (o : Option CallEnd) → c.end ≡ o → (xs : List Reply) → IsPrefix xs (available c s) → IsPrefix xs (whole_response b.attempt b.end s)
whole_by s c b None e xs f =
    let came_is : came c s ≡ response_items (response b.attempt s) = ap (λ (o : Option Attempt). option_map_or (λ (k : Attempt). response_items (response k s)) o []) b.committed in
    let all : available c s ≡ response_items (response b.attempt s)
    = ap (λ (o : Option CallEnd). came c s ++ option_to_list (option_map (λ (z : CallEnd). end_item c s z.cause) o)) e ∙ append-nil (came c s) ∙ came_is in
    prefix_more xs (response_items (response b.attempt s)) (end_by_row b.end ∷ []) (subst (λ (l : List Reply). IsPrefix xs l) all f)
whole_by s c b (Some y) e xs f = subst (λ (l : List Reply). IsPrefix xs l) (ended_whole s c b y e) f

-- one that passes
abbrev HasOne : (Reply → Bool) → List Reply → Type 0
HasOne test xs = (i : ℕ) × ((x : Reply) × (slice_get xs i ≡ Some x) × (test x ≡ true))

any_by : (test : Reply → Bool) (x : Reply) (xs : List Reply) (b : Bool) → test x ≡ b → (b || list_any test xs) ≡ true → (list_any test xs ≡ true → HasOne test xs) → HasOne test (x ∷ xs)
any_by test x xs true is e rest = (0, (x, refl, is))
any_by test x xs false is e rest = let r : HasOne test xs = rest e in (suc r.0, r.1)

any_at : (test : Reply → Bool) (xs : List Reply) → list_any test xs ≡ true → HasOne test xs
any_at test [] e = absurd (cc)
any_at test (x ∷ xs) e = any_by test x xs (test x) refl e (any_at test xs)

all_of_it : (s : Seen) (c : Call) (b : EndsByAttempt s c) (xs : List Reply) → IsPrefix xs (whole_response b.attempt b.end s) → list_any is_end xs ≡ true → xs ≡ whole_response b.attempt b.end s
all_of_it s c b xs f e =
    let r : HasOne is_end xs = any_at is_end xs e in
    let items : List Reply = response_items (response b.attempt s) in
    let at : slice_get (whole_response b.attempt b.end s) r.0 ≡ Some r.1.0 = prefix_at xs (whole_response b.attempt b.end s) r.0 r.1.0 f r.1.1 in
    let last : suc r.0 ≡ length (whole_response b.attempt b.end s)
    = last_at items (end_by_row b.end) r.1.0 r.0
    (λ old.
    (let bad : false ≡ true
    = sym (passes_not is_end items (suc r.0) r.1.0 (no_ends_by (response b.attempt s).head (response b.attempt s).messages) old) ∙ r.1.2 in (cc))) at in
    let most : suc r.0 ≤ length xs = inside xs r.0 r.1.0 r.1.1 in
    prefix_whole xs (whole_response b.attempt b.end s) f (omega (arith, last, most))

pub takes_are_whole : TakesAreWhole
takes_are_whole setup actions s does k c there b =
    let h : AllTaken k actions s c = all_taken setup actions s does k c there in
    let f : IsPrefix (taken_in k actions) (whole_response b.attempt b.end s) = whole_by s c b c.end refl (taken_in k actions) h.prefix in (
      prefix_taken (taken_in k actions) (whole_response b.attempt b.end s) f ∙ ap (λ (n : ℕ). take n (whole_response b.attempt b.end s)) (sym h.count),
      λ e. all_of_it s c b (taken_in k actions) f e,
    )
