-- What GOAWAY makes of the attempts on a link: those that wait for a stream and those whose streams it leaves out are to end; of all others, and of all responses but for
-- these ends, nothing is new.
use Rattle.std.proofs.Common.{◌≡◌, ◌&&◌, ◌||◌, Bool, true, false, None, Some, ℕ, if◌then◌else◌, is_none, is_some}
use Rattle.attempt_ledger.specs.declared.row.Placed.{Placed}
use Rattle.attempt_ledger.specs.declared.row.RowEnd.{RowEnd}
use Rattle.call_actions.specs.TakeActions.Serves.{came}
use Rattle.grpc_base.specs.ErrorCodes.{cancel}
use Rattle.link_actions.specs.ResponseActions.Laws.{left_out_end}
use Rattle.link_actions.specs.StreamActions.Laws.{is_left_out}
use Rattle.session_actions.specs.AttemptEnds.{is_framing, is_reset, outcome_of, reset_code_of, unsent_end, with_end}
use Rattle.session_actions.specs.Entries.{entry}
use Rattle.session_actions.specs.Links.{has_settings, is_retiring, read_bytes}
use Rattle.session_actions.specs.Reading.{is_outstanding_on}
use Rattle.session_actions.specs.Responses.{response}
use Rattle.session_actions.specs.Words.{numbered}
use Rattle.session_actions.specs.declared.attempt.Attempt.{Attempt}
use Rattle.session_actions.specs.declared.call.Call.{Call}
use Rattle.session_actions.specs.declared.link.Link.{Link}
use Rattle.session_actions.specs.declared.response.Outcome.{Outcome}
use Rattle.session_actions.specs.declared.seen.Seen.{Seen}
use Rattle.session_order.specs.Quiescent.{is_to_end}

abbrev pub is_left : Link → ℕ → Attempt → Bool
is_left l last a = is_outstanding_on l a && (is_none a.row.stream || is_left_out last a)

abbrev pub out_for : Attempt → Outcome
out_for a = if is_some a.row.stream then left_out_end else unsent_end

-- an end of this entry that saw so many bytes of its link, and is neither by RST_STREAM nor by a broken rule of its stream: its stream is reset with CANCEL
pub record IsPlainEnd (at seen : ℕ) (e : RowEnd) : Type 0 where
  pub entry_is : e.entry ≡ at
  pub seen_is : e.seen ≡ seen
  pub unreset : is_reset e.cause ≡ false
  pub unbroken : is_framing e.cause ≡ false

-- after the frame
pub record AfterGoaway (l m : Link) (s t : Seen) (last : ℕ) : Type 0 where
  pub retiring : is_retiring m ≡ true
  pub settings : has_settings m ≡ has_settings l
  pub heads : (i : ℕ) (a : Attempt) → numbered s.attempts i ≡ Some a → is_some (response a t).head ≡ is_some (response a s).head
  pub larges : (i : ℕ) (a : Attempt) → numbered s.attempts i ≡ Some a → (response a t).large ≡ (response a s).large
  pub came_same : (c : Call) → came c t ≡ came c s
  pub left : (i : ℕ) (a : Attempt) → numbered s.attempts i ≡ Some a → is_left l last a ≡ true → outcome_of a t ≡ Some (out_for a)
  pub others : (i : ℕ) (a : Attempt) → numbered s.attempts i ≡ Some a → is_left l last a ≡ false → is_to_end t a ≡ false
  pub codes : (i : ℕ) (a : Attempt) (e : RowEnd) → numbered s.attempts i ≡ Some a → is_left l last a ≡ true → IsPlainEnd (entry t) (read_bytes m) e
      → reset_code_of t (with_end e a) ≡ (if is_some a.row.stream then Some cancel else None)

-- an attempt on the link that GOAWAY ends: it goes on until its end comes, or it has ended, with such an end
pub record IsGoawayRow (link n : ℕ) (s : Seen) (row : ℕ) : Type 0 where
  pub attempt : Attempt
  pub there : numbered s.attempts row ≡ Some attempt
  pub at : Placed
  pub placed : attempt.row.placed ≡ Some at
  pub here : at.link ≡ link
  pub goes : attempt.row.ended ≡ None → outcome_of attempt s ≡ Some (out_for attempt)
  pub over : (e : RowEnd) → attempt.row.ended ≡ Some e → IsPlainEnd (entry s) n e
