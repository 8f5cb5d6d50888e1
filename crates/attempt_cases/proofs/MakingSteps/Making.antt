-- What the line of due attempts says of an attempt that it makes; and the step of the channel that makes it.
use Rattle.std.proofs.Common.{◌≡◌, ◌∙◌, ◌&&◌, ◌+◌, ◌-◌, ◌∷◌, Bool, true, false, not, List, [], Option, None, Some, ℕ, ap, refl, subst, sym, if◌then◌else◌, is_none, nat_le, nat_lt, slice_set}
use Rattle.std.specs.BTreeSet.{insert_key}
use Rattle.std.specs.Prelude.{option_and_then}
use Rattle.attempt_ledger.specs.Hedging.{is_hedge}
use Rattle.attempt_ledger.specs.declared.row.RowKind.{RowKind}
use Rattle.call_actions.specs.CallsApart.Laws.{LinesAreFair, TokensStay}
use Rattle.call_actions.specs.CallsInTurn.Laws.{MakingKeeps}
use Rattle.call_actions.specs.Laws.{AttemptsAreDue}
use Rattle.call_core.specs.Parts.{is_above, is_tested}
use Rattle.call_core.specs.Steps as steps
use Rattle.call_core.specs.Steps.{Stepped, call_plan, lent, made, made_due, made_if, next_place, refused_due, waits}
use Rattle.call_core.specs.declared.act.CallAct.TheVariants as act
use Rattle.channel_actions.proofs.Settles.{is_with_open, with_open}
use Rattle.channel_actions.proofs.Links.Settings.Slots.{asked_is, changed_slot_is, set_twice}
use Rattle.channel_actions.proofs.Stamps.{counted_at}
use Rattle.channel_actions.specs.Agrees.{Agrees}
use Rattle.channel_actions.specs.Calls.{HasSlot, SeesCall}
use Rattle.attempt_cases.proofs.MakingSteps.Made.{agrees_after}
use Rattle.call_cases.specs.ConfiguredCalls.Laws.{Frames}
use Rattle.call_cases.specs.ConfiguredCalls.Steps.{timed}
use Rattle.attempt_cases.specs.MakingSteps.Laws.{AttemptsGetRows, MakeNext}
use Rattle.attempt_cases.specs.MakingSteps.Made.{made_slot, made_step, with_attempt}
use Rattle.channel_core.proofs.Places.{put_there}
use Rattle.channel_core.specs.Books.{BookActs, deadline_of, due_at, slot_at, waits_at}
use Rattle.channel_core.specs.States.{StateSeen}
use Rattle.channel_core.specs.Steps.{call_asked, followed, links_sealed, made_one, queued, resets_taken, sealed, timers_moved, timers_moved_to, with_book}
use Rattle.channel_core.specs.Tables.{acted_as, changed_slot, tokens_in, with_timers}
use Rattle.channel_core.specs.Books.{placed_in_book}
use Rattle.channel_core.specs.declared.state.slots.CallSlot.{CallSlot}
use Rattle.picker_gate.specs.Pairs.{pair_cmp}
use Rattle.session_actions.specs.Actions.{following}
use Rattle.session_actions.specs.DueAttempts.{attempts_made, kind_of_next, next_due}
use Rattle.session_actions.specs.Entries.{now}
use Rattle.session_actions.specs.Making.{attempt_made, due_action, due_attempt, due_if_past, next_transparent}
use Rattle.session_actions.specs.Tokens.{has_tokens}
use Rattle.session_actions.specs.Words.{numbered}
use Rattle.session_actions.specs.declared.action.Action.{Action}
use Rattle.session_actions.specs.declared.action.Action.TheVariants as action
use Rattle.session_actions.specs.declared.call.Call.{Call}
use Rattle.session_actions.specs.declared.entry.OpenEntry.{OpenEntry}
use Rattle.session_actions.specs.declared.seen.Seen.{Seen}

-- the line gives the making of this attempt
pub record IsDueNow (s : Seen) (c : Call) (nth : ℕ) (why : RowKind) (due : ℕ) : Type 0 where
  pub is_open : c.end ≡ None
  pub next : next_due c s ≡ Some due
  pub nth_is : nth ≡ attempts_made c s + 1
  pub why_is : why ≡ kind_of_next c s
  pub passed : nat_le due (now s) ≡ true
  pub untested : (is_hedge (kind_of_next c s) && not (has_tokens c s)) ≡ false

none_of : {X : Type 0} (o : Option X) → is_none o ≡ true → o ≡ None
none_of None e = refl
none_of (Some x) e = absurd (let bad : false ≡ true = e in (cc))

made_parts : (n m k j d e : ℕ) (w v : RowKind) → Some (action.AttemptMade n m w d) ≡ Some (action.AttemptMade k j v e) → (j ≡ m) × (v ≡ w) × (d ≡ e)
made_parts n m k j d e w v same =
    let number : j ≡ m = (cc) in let kind : v ≡ w = (cc) in let moment : d ≡ e = (cc) in (number, kind, moment)

due_hedge : (s : Seen) (c : Call) (number nth : ℕ) (why : RowKind) (due d : ℕ) (b p : Bool) → (is_hedge (kind_of_next c s) && not (has_tokens c s)) ≡ b → is_none c.end ≡ true
    → next_due c s ≡ Some d → nat_le d (now s) ≡ true
    → Some (if b then action.HedgeWithheld c.number else action.AttemptMade c.number (attempts_made c s + 1) (kind_of_next c s) d) ≡ Some (action.AttemptMade number nth why due)
    → IsDueNow s c nth why due
due_hedge s c number nth why due d true p test is_open next passed e = absurd (let bad : Some (action.HedgeWithheld c.number) ≡ Some (action.AttemptMade number nth why due) = e in (cc))
due_hedge s c number nth why due d false p test is_open next passed e =
    let parts = made_parts c.number (attempts_made c s + 1) number nth d due (kind_of_next c s) why e in
    record {
      is_open = none_of c.end is_open;
      next = next ∙ ap (λ (m : ℕ). Some m) parts.2;
      nth_is = parts.0;
      why_is = parts.1;
      passed = ap (λ (m : ℕ). nat_le m (now s)) (sym parts.2) ∙ passed;
      untested = test;
    }

due_past : (s : Seen) (c : Call) (number nth : ℕ) (why : RowKind) (due d : ℕ) (b : Bool) → nat_le d (now s) ≡ b → is_none c.end ≡ true → next_due c s ≡ Some d
    → (if b then Some (due_attempt c s d) else None) ≡ Some (action.AttemptMade number nth why due) → IsDueNow s c nth why due
due_past s c number nth why due d true past is_open next e =
    due_hedge s c number nth why due d (is_hedge (kind_of_next c s) && not (has_tokens c s)) true refl is_open next past e
due_past s c number nth why due d false past is_open next e = absurd (let bad : None ≡ Some (action.AttemptMade number nth why due) = e in (cc))

due_by : (s : Seen) (c : Call) (number nth : ℕ) (why : RowKind) (due : ℕ) (q : Option ℕ) → next_due c s ≡ q → is_none c.end ≡ true
    → option_and_then (due_if_past c s) q ≡ Some (action.AttemptMade number nth why due) → IsDueNow s c nth why due
due_by s c number nth why due None next is_open e = absurd (let bad : None ≡ Some (action.AttemptMade number nth why due) = e in (cc))
due_by s c number nth why due (Some d) next is_open e = due_past s c number nth why due d (nat_le d (now s)) refl is_open next e

due_open : (s : Seen) (c : Call) (number nth : ℕ) (why : RowKind) (due : ℕ) (b : Bool) → is_none c.end ≡ b
    → (if b then option_and_then (due_if_past c s) (next_due c s) else None) ≡ Some (action.AttemptMade number nth why due) → IsDueNow s c nth why due
due_open s c number nth why due true is_open e = due_by s c number nth why due (next_due c s) refl is_open e
due_open s c number nth why due false is_open e = absurd (let bad : None ≡ Some (action.AttemptMade number nth why due) = e in (cc))

pub due_now : (s : Seen) (c : Call) (number nth : ℕ) (why : RowKind) (due : ℕ) → due_action s c ≡ Some (action.AttemptMade number nth why due) → IsDueNow s c nth why due
due_now s c number nth why due e = due_open s c number nth why due (is_none c.end) refl e

-- with the number of the call
module _ (frames : Frames) (tokens_stay : TokensStay) (fair : LinesAreFair) (turns : MakingKeeps) (dues : AttemptsAreDue) where
  pub by_number : (x : StateSeen) (o : OpenEntry) (s : Seen) (number : ℕ) (k : MakeNext number x o s) (own : HasSlot x s k.call number) → k.call.number ≡ number
      → IsDueNow s k.call k.nth k.why k.due → Agrees (with_attempt k.due number own.slot x) (attempt_made number k.nth k.why k.due s)
  by_number x o s number k own is now_due =
      let c : Call = k.call in
      let P : Seen → Type 0 = λ u. Agrees x u → numbered u.calls c.number ≡ Some c → next_due c u ≡ Some k.due
      → due_action u c ≡ Some (action.AttemptMade c.number (attempts_made c u + 1) (kind_of_next c u) k.due)
      → following u ≡ Some (action.AttemptMade c.number (attempts_made c u + 1) (kind_of_next c u) k.due) → SeesCall x u c own.slot → next_transparent u ≡ None
      → Agrees (with_attempt k.due c.number own.slot x) (attempt_made c.number (attempts_made c u + 1) (kind_of_next c u) k.due u) in
      let Q : ℕ → ℕ → RowKind → Type 0 = λ n m w. Agrees (with_attempt k.due n own.slot x) (attempt_made n m w k.due s) in
      let here : slot_at x.book c.number ≡ Some own.slot = ap (slot_at x.book) is ∙ own.there in
      let whole : P (with_open o s) = λ h there next gives follows sees quiescent. agrees_after frames tokens_stay fair turns dues x o s h c there now_due.is_open k.due next gives follows
      own.slot here sees (k.sound.calls.slots c.number own.slot here) quiescent in
      let act : (n m : ℕ) (w : RowKind) → Option Action = λ n m w. Some (action.AttemptMade n m w k.due) in
      let given : act number k.nth k.why ≡ act c.number (attempts_made c s + 1) (kind_of_next c s)
      = ap (λ (n : ℕ). act n k.nth k.why) (sym is) ∙ ap (λ (m : ℕ). act c.number m k.why) now_due.nth_is ∙ ap (act c.number (attempts_made c s + 1)) now_due.why_is in
      let result : Q c.number (attempts_made c s + 1) (kind_of_next c s)
      = subst P (sym (is_with_open o s k.current)) whole k.agrees (ap (numbered s.calls) is ∙ k.there) now_due.next (k.gives ∙ given) (k.next ∙ given) own.sees k.quiescent in
      subst (λ (n : ℕ). Q n k.nth k.why) is
      (subst (λ (m : ℕ). Q c.number m k.why) (sym now_due.nth_is) (subst (Q c.number (attempts_made c s + 1)) (sym now_due.why_is) result))

pub rows_are_made : TokensStay → LinesAreFair → MakingKeeps → AttemptsAreDue → AttemptsGetRows
rows_are_made tokens_stay fair turns dues frames number x o s k own =
    by_number frames tokens_stay fair turns dues x o s number k own (counted_at (λ (d : Call). d.number) s.calls number k.call k.agrees.kept.calls k.there)
    (due_now s k.call number k.nth k.why k.due k.gives)

-- the channel's step
module _ (n due : ℕ) (slot : CallSlot) (x : StateSeen) (there : slot_at x.book n ≡ Some slot) (next : steps.next_due slot.call ≡ Some due)
    (passed : nat_lt x.book.moment due ≡ false)
    (untested : (is_tested (call_plan slot.call) slot.call.attempts && not (is_above (tokens_in x.book.buckets slot.bucket))) ≡ false) (unsealed : x.resets ≡ []) where
  abbrev z : Stepped
  z = lent slot.call x.book.ledger (tokens_in x.book.buckets slot.bucket) []

  step_is : made_due x.book.moment z ≡ made due z
  step_is =
      ap (λ (q : Option ℕ). made_if q x.book.moment z) next ∙ ap (λ (b : Bool). if b then z else steps.due_at x.book.moment due z) passed
      ∙ ap (λ (b : Bool). if b then refused_due x.book.moment z else made due z) untested

  abbrev slot1 : CallSlot
  slot1 = made_slot due slot x

  abbrev calls1 : List CallSlot
  calls1 = slice_set x.book.calls (n - 1) slot1

  abbrev booked : StateSeen
  booked = record x { book = record x.book { calls = calls1; ledger = (made_step due slot x).ledger } }

  there1 : slot_at booked.book n ≡ Some slot1
  there1 = put_there x.book.calls n slot slot1 there

  asked : call_asked (made_due x.book.moment) n x ≡ followed n (act.Queue (next_place x.book.ledger) ∷ []) booked
  asked =
      ap (λ (b : BookActs). with_book b n x)
      (asked_is (made_due x.book.moment) n x.book slot there ∙ ap (λ (st : Stepped). placed_in_book (acted_as x.book.calls (n - 1) slot st) x.book) step_is)

  abbrev in_queue : StateSeen
  in_queue = record booked {
    queue = if waits slot.call then x.queue else insert_key pair_cmp x.queue (n, next_place x.book.ledger);
    ready_waiters = if waits slot.call then insert_key pair_cmp x.ready_waiters (n, next_place x.book.ledger) else x.ready_waiters;
  }

  queued_is : queued n (next_place x.book.ledger) booked ≡ in_queue
  queued_is =
      ap (λ (q : Option CallSlot). record booked {
        ready_waiters = if waits_at q then insert_key pair_cmp x.ready_waiters (n, next_place x.book.ledger) else x.ready_waiters;
        queue = if waits_at q then x.queue else insert_key pair_cmp x.queue (n, next_place x.book.ledger);
      }) there1

  calls_are : changed_slot (with_timers (due_at (Some slot1)) (deadline_of (Some slot1))) calls1 n ≡ slice_set x.book.calls (n - 1) (timed slot1)
  calls_are =
      changed_slot_is (with_timers (due_at (Some slot1)) (deadline_of (Some slot1))) calls1 n slot1 there1 ∙ set_twice x.book.calls (n - 1) slot1 (timed slot1)

  timers_are : timers_moved n in_queue ≡ with_attempt due n slot x
  timers_are =
      ap (λ (q : Option CallSlot). timers_moved_to n q in_queue) there1
      ∙ ap (λ (l : List CallSlot). record (with_attempt due n slot x) { book = record (with_attempt due n slot x).book { calls = l } }) calls_are

  followed_is : followed n (act.Queue (next_place x.book.ledger) ∷ []) booked ≡ with_attempt due n slot x
  followed_is = ap (timers_moved n) queued_is ∙ timers_are

  sealed_is : sealed (with_attempt due n slot x) ≡ with_attempt due n slot x
  sealed_is =
      ap (λ (l : List ℕ). links_sealed l (resets_taken (with_attempt due n slot x))) unsealed ∙ ap (λ (l : List ℕ). record (with_attempt due n slot x) { resets = l }) (sym unsealed)

  pub made_is : made_one n x ≡ with_attempt due n slot x
  made_is = ap sealed (asked ∙ followed_is) ∙ sealed_is
