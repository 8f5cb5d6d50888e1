-- What the line of an action says of it, as far as what a call has leans on it.
-- (an attempt that is made is a transparent retry, or the next one of its call: as `transparent_retries` of `channel_actions` says it)
-- an attempt that ends now, as the session says it. One that is placed, which was on no link
use Rattle.attempt_ledger.specs.declared.row.RowEnd.{RowEnd}
use Rattle.channel_actions.proofs.TransparentRetries.Fits.{IsNew, IsWanted}
use Rattle.grpc_base.specs.declared.event.EndCause.{EndCause}
use Rattle.session_actions.specs.AttemptEnds.{end_of}
use Rattle.session_actions.specs.Attempts.{commitment, is_counted, is_followed}
use Rattle.session_actions.specs.Commitments.{is_inherited_by}
use Rattle.session_actions.specs.Deliveries.{is_by_row}
use Rattle.session_actions.specs.Words.{holds, numbered}
use Rattle.session_actions.specs.declared.action.Action.{Action}
use Rattle.session_actions.specs.declared.attempt.Attempt.{Attempt}
use Rattle.session_actions.specs.declared.call.Call.{Call}
use Rattle.session_actions.specs.declared.response.Outcome.{Outcome}
use Rattle.session_actions.specs.declared.seen.Seen.{Seen}
use Rattle.std.proofs.Common.{None, Some, false, true, ℕ, ◌≡◌, ◌⊎◌}
use Rattle.session_actions.specs.declared.action.Action.TheVariants as action

pub record IsEnding (row : ℕ) (e : RowEnd) (s : Seen) : Type 0 where
  pub here : Attempt
  pub there : numbered s.attempts row ≡ Some here
  pub goes_on : here.row.ended ≡ None
  pub outcome : Outcome
  pub is : e ≡ end_of here outcome s

pub record IsPlacing (row : ℕ) (s : Seen) : Type 0 where
  pub here : Attempt
  pub there : numbered s.attempts row ≡ Some here
  pub waits : here.row.placed ≡ None

-- an attempt to which its open call is committed: the first one, which goes on or has no follower; or a follower of the one to which it is committed
pub record IsFirst (a : Attempt) (c : Call) (s : Seen) : Type 0 where
  pub free : commitment c s ≡ None
  pub last : (a.row.ended ≡ None) ⊎ (is_followed a s ≡ false)

pub record IsHeir (a : Attempt) (c : Call) (s : Seen) : Type 0 where
  pub before : Attempt
  pub committed : commitment c s ≡ Some before
  pub follows : is_inherited_by a before ≡ true

pub record IsJoined (row : ℕ) (s : Seen) : Type 0 where
  pub here : Attempt
  pub there : numbered s.attempts row ≡ Some here
  pub call : Call
  pub its : numbered s.calls here.row.call ≡ Some call
  pub goes_on : call.end ≡ None
  pub joins : IsFirst here call s ⊎ IsHeir here call s

-- a call that ends, which was open; by its attempt where that has an end that counts
pub record IsClosing (number : ℕ) (why : EndCause) (s : Seen) : Type 0 where
  pub here : Call
  pub there : numbered s.calls number ≡ Some here
  pub goes_on : here.end ≡ None
  pub by_row : is_by_row why ≡ true → holds (λ k. is_counted k s) (commitment here s) ≡ true

-- a call that gets its config, which is open and has none
pub record IsConfiguring (number : ℕ) (s : Seen) : Type 0 where
  pub here : Call
  pub there : numbered s.calls number ≡ Some here
  pub goes_on : here.end ≡ None
  pub none : here.config ≡ None

abbrev pub IsMeant : Action → Seen → Type 0
IsMeant (action.AttemptMade call number k due) s = IsWanted call number s ⊎ IsNew call number s
IsMeant (action.AttemptEnds row e) s = IsEnding row e s
IsMeant (action.AttemptPlaced row at) s = IsPlacing row s
IsMeant (action.CallCommitted row why) s = IsJoined row s
IsMeant (action.CallEnds call why) s = IsClosing call why s
IsMeant (action.CallConfigured call config) s = IsConfiguring call s
IsMeant _ s = Unit {0}
