-- What the line of an action says of it, as far as transparent retries lean on it.
use Rattle.attempt_ledger.specs.TransparentRows.{is_unsent}
use Rattle.attempt_ledger.specs.declared.ledger.Ask.{Ask}
use Rattle.attempt_ledger.specs.declared.row.Placed.{Placed}
use Rattle.channel_actions.proofs.KeptSessions.Sound.{is_placing, is_placing_ask}
use Rattle.grpc_base.specs.declared.kind.Pick.TheVariants as pick
use Rattle.grpc_base.specs.declared.kind.Pick.{Pick}
use Rattle.link_actions.proofs.ReaderActions.Placed.{pick}
use Rattle.session_actions.specs.Attempts.{wants_follower}
use Rattle.session_actions.specs.DueAttempts.{attempts_made}
use Rattle.session_actions.specs.Policies.{is_unfollowed}
use Rattle.session_actions.specs.Subchannels.{is_going_down}
use Rattle.session_actions.specs.Words.{holds, last_of, numbered}
use Rattle.session_actions.specs.declared.action.Action.TheVariants as action
use Rattle.session_actions.specs.declared.action.Action.{Action}
use Rattle.session_actions.specs.declared.attempt.Attempt.{Attempt}
use Rattle.session_actions.specs.declared.call.Call.{Call}
use Rattle.session_actions.specs.declared.link.Link.{Link}
use Rattle.session_actions.specs.declared.seen.Seen.{Seen}
use Rattle.session_actions.specs.declared.subchannel.Subchannel.{Subchannel}
use Rattle.std.specs.Prelude.{Bool, List, None, Option, Some, false, not, slice_get, true, ℕ, ◌+◌, ◌≡◌, ◌⊎◌}

-- a link takes no further stream, or still does
abbrev pub is_closed : List Link → ℕ → Bool
is_closed links k = holds is_going_down (numbered links k)

abbrev pub is_taking : List Link → ℕ → Bool
is_taking links k = holds (λ l. not (is_going_down l)) (numbered links k)

-- a transparent retry is of an attempt that wants one
pub record IsWanted (its_call its_number : ℕ) (s : Seen) : Type 0 where
  pub index : ℕ
  pub here : Attempt
  pub there : slice_get s.attempts index ≡ Some here
  pub call : here.row.call ≡ its_call
  pub number : here.row.number ≡ its_number
  pub wants : wants_follower here s ≡ true

-- and any other attempt has the next number of its call
pub record IsNew (its_call its_number : ℕ) (s : Seen) : Type 0 where
  pub index : ℕ
  pub here : Call
  pub there : slice_get s.calls index ≡ Some here
  pub is : here.number ≡ its_call
  pub number : its_number ≡ attempts_made here s + 1

-- one that never left the client has no stream, and is on a link that takes no further one
abbrev pub IsUnsentOn : List Link → Option ℕ → Option Placed → Type 0
IsUnsentOn links stream placed = (stream ≡ None) × (holds (λ at. is_closed links at.link) placed ≡ true)

-- an answer names a subchannel whose link takes streams, if it names one
abbrev pub names_taking : List Link → List Subchannel → Pick → Bool
names_taking links subs (pick.Place sub) = holds (λ b. holds (is_taking links) b.link) (numbered subs sub)
names_taking links subs _ = true

-- so does the answer that is still to be acted on
abbrev pub AreTaking : Seen → Type 0
AreTaking s = (ask : Ask) → last_of s.asks ≡ Some ask → is_placing_ask s ask ≡ true → names_taking s.links s.subs ask.answer ≡ true

-- (an action of which nothing else is said here comes only where no answer is to be acted on with a subchannel)
abbrev pub FitsRetried : Action → Seen → Type 0
FitsRetried (action.EntryOpens posted word e) s = Unit {0}
FitsRetried (action.AttemptMade call number k due) s = IsWanted call number s ⊎ IsNew call number s
FitsRetried (action.AttemptEnds row e) s = (a : Attempt) → numbered s.attempts row ≡ Some a → is_unsent e.cause ≡ true → IsUnsentOn s.links a.row.stream a.row.placed
FitsRetried (action.AttemptPlaced row at) s = (is_taking s.links at.link ≡ true) × ((a : Attempt) → numbered s.attempts row ≡ Some a → is_unfollowed a ≡ true)
FitsRetried (action.CallEnds call why) s = Unit {0}
FitsRetried (action.CallCommitted row why) s = Unit {0}
FitsRetried _ s = is_placing s ≡ false
