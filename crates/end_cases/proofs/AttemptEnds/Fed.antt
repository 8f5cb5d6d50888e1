-- An attempt ends of a call that goes on and is not committed: what the channel holds of its messages is what the session has.
use Rattle.std.proofs.Common.{◌≡◌, ◌==◌, ◌∷◌, ap, refl, subst, sym, ◌∙◌, Bool, true, false, List, [], Option, None, ℕ, cond, filter, if◌then◌else◌, is_some, map}
use Rattle.std.proofs.lemmas.Bool.{and_right, eqb-true}
use Rattle.std.specs.List.{AllByRecursion}
use Rattle.std.specs.Option.{option_map_or}
use Rattle.attempt_buffer.specs.Buffers.{Buffered, taken_by, text_of}
use Rattle.attempt_ledger.specs.declared.row.RowEnd.{RowEnd}
use Rattle.call_actions.specs.TakeActions.Serves.{AttemptsAreFed, Holds, IsAt, IsFed, Serves, drained_so_far, passed}
use Rattle.channel_actions.specs.Calls.{lent_to}
use Rattle.end_cases.proofs.AttemptEnds.After.{attempts_are, d, end, free_then, put, put_call, u}
use Rattle.end_cases.proofs.AttemptEnds.Base.{c, has, slot, x1}
use Rattle.end_cases.proofs.AttemptEnds.Buffers.{taken_gone, taken_kept, without}
use Rattle.end_cases.specs.AttemptEnds.Ends.{EndNext}
use Rattle.channel_core.specs.States.{StateSeen}
use Rattle.channel_core.specs.declared.state.slots.CallSlot.{CallSlot}
use Rattle.grpc_frame.specs.Messages.{framed_all}
use Rattle.session_actions.specs.AttemptEnds.{with_end}
use Rattle.session_actions.specs.Attempts.{commitment, is_of, is_outstanding}
use Rattle.session_actions.specs.Writing.{drained}
use Rattle.session_actions.specs.declared.attempt.Attempt.{Attempt}
use Rattle.session_actions.specs.declared.call.Call.{Call}
use Rattle.session_actions.specs.declared.entry.OpenEntry.{OpenEntry}
use Rattle.session_actions.specs.declared.response.Outcome.{Outcome}
use Rattle.session_actions.specs.declared.seen.Seen.{Seen}
use Rattle.session_order.specs.declared.line.Line.{Line}

-- a filter and a map that leaves its test
filter_by : (p : Attempt → Bool) (f : Attempt → Attempt) (P Q : Attempt → Type 0) (q : Attempt) (xs : List Attempt) (b : Bool) → p q ≡ b → p (f q) ≡ b → (P q → Q (f q))
    → AllByRecursion P (cond b (q ∷ filter p xs) (filter p xs)) → (AllByRecursion P (filter p xs) → AllByRecursion Q (filter p (map f xs)))
    → AllByRecursion Q (cond b (f q ∷ filter p (map f xs)) (filter p (map f xs)))
filter_by p f P Q q xs true e g turn all rest = (turn all.0, rest all.1)
filter_by p f P Q q xs false e g turn all rest = rest all

filter_mapped : (p : Attempt → Bool) (f : Attempt → Attempt) (P Q : Attempt → Type 0) → ((q : Attempt) → p (f q) ≡ p q) → ((q : Attempt) → P q → Q (f q)) → (xs : List Attempt)
    → AllByRecursion P (filter p xs) → AllByRecursion Q (filter p (map f xs))
filter_mapped p f P Q same turn [] all = tt
filter_mapped p f P Q same turn (q ∷ xs) all =
    subst (λ (b : Bool). AllByRecursion Q (cond b (f q ∷ filter p (map f xs)) (filter p (map f xs)))) (sym (same q))
    (filter_by p f P Q q xs (p q) refl (same q) (turn q) all (filter_mapped p f P Q same turn xs))

module _ (later : List (ℕ × RowEnd)) (waits : Line → Bool) (also : List ℕ) (a : Attempt) (out : Outcome) (x : StateSeen) (o : OpenEntry) (s : Seen) (is : EndNext later waits also a out x o s)
    (open_now : (c later waits also a out x o s is).end ≡ None) (free : commitment (c later waits also a out x o s is) s ≡ None) where
  abbrev call : Call
  call = c later waits also a out x o s is

  abbrev then_ : Seen
  then_ = u later waits also a out x o s is

  abbrev called : Call
  called = d later waits also a out x o s is

  abbrev was_slot : CallSlot
  was_slot = slot later waits also a out x o s is

  abbrev served : Serves s call (lent_to (x1 later waits also a out x o s is) s was_slot)
  served = (has later waits also a out x o s is).sees.serves

  abbrev ended : RowEnd
  ended = end later waits also a out x o s is

  abbrev put_ : Attempt → Attempt
  put_ q = put later waits also a out x o s is q

  free_now : commitment called then_ ≡ None
  free_now = free_then later waits also a out x o s is open_now free

  abbrev was_buffer : Buffered
  was_buffer = was_slot.call.buffer

  was_held : Holds s call was_buffer
  was_held = served.holds open_now

  pub free_buffer : is_some was_buffer.committed ≡ false
  free_buffer = was_held.committed ∙ ap (λ (q : Option Attempt). is_some q) free

  abbrev pub buffer_then : Buffered
  buffer_then = without was_buffer a.place free_buffer

  abbrev all : List ℕ
  all = framed_all call.messages

  fed_one : (q : Attempt) (b : Bool) → (q.place == a.place) ≡ b
      → IsFed (taken_by q.place was_buffer) (text_of was_buffer) (is_outstanding q) (drained q s) all
      → IsFed (taken_by (if b then with_end ended q else q).place buffer_then) (text_of buffer_then) (is_outstanding (if b then with_end ended q else q))
      (drained (if b then with_end ended q else q) then_) all
  fed_one q true e k =
      let none : taken_by q.place buffer_then ≡ None
      = ap (λ (n : ℕ). taken_by n buffer_then) (eqb-true q.place a.place e) ∙ taken_gone was_buffer a.place free_buffer in
      let off : is_outstanding (with_end ended q) ≡ false = and_right (is_some q.row.placed) false refl in
      subst (λ (z : Option ℕ). IsFed z (text_of buffer_then) (is_outstanding (with_end ended q)) (drained (with_end ended q) then_) all) (sym none)
      (subst (λ (b : Bool). IsFed None (text_of buffer_then) b (drained (with_end ended q) then_) all) (sym off) tt)
  fed_one q false e k =
      subst (λ (z : Option ℕ). IsFed z (text_of buffer_then) (is_outstanding q) (drained q then_) all) (sym (taken_kept was_buffer a.place free_buffer q.place e)) k

  fed_then : AttemptsAreFed then_ called buffer_then (filter (is_of called) then_.attempts)
  fed_then =
      subst (λ (xs : List Attempt). AttemptsAreFed then_ called buffer_then (filter (is_of called) xs)) (sym (attempts_are later waits also a out x o s is))
      (filter_mapped (is_of call) put_ (λ (q : Attempt). IsFed (taken_by q.place was_buffer) (text_of was_buffer) (is_outstanding q) (drained q s) all)
      (λ (q : Attempt). IsFed (taken_by q.place buffer_then) (text_of buffer_then) (is_outstanding q) (drained q then_) all)
      (λ q. ap (λ (n : ℕ). n == call.number) (put_call later waits also a out x o s is q)) (λ q k. fed_one q (q.place == a.place) refl k) s.attempts was_held.fed)

  drained_same : drained_so_far called then_ ≡ drained_so_far call s
  drained_same =
      ap (λ (q : Option Attempt). option_map_or (λ (k : Attempt). drained k then_) q 0) free_now
      ∙ sym (ap (λ (q : Option Attempt). option_map_or (λ (k : Attempt). drained k s) q 0) free)

  pub holds_then : Holds then_ called buffer_then
  holds_then = record {
    fed = fed_then;
    held = subst (λ (n : ℕ). IsAt (passed was_buffer) (text_of was_buffer) n all) (sym drained_same) was_held.held;
    committed = was_held.committed ∙ ap (λ (q : Option Attempt). is_some q) free ∙ sym (ap (λ (q : Option Attempt). is_some q) free_now);
  }
