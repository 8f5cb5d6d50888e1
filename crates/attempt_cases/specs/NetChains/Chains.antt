-- A chain of actions of policies and subchannels, in a session in which nothing follows of calls and links.
-- Example: generation 2 took over, and generation 1 alone listed subchannel 1. SubchannelShut 1 is next, and then nothing: calls and links are as they were.
use Rattle.std.specs.Prelude.{List, Some, [], false, length, ℕ, ◌≡◌, ◌≤◌}
use Rattle.attempt_ledger.specs.declared.ledger.Ask.{Ask}
use Rattle.grpc_base.specs.declared.kind.Pick.TheVariants as pick
use Rattle.channel_actions.specs.BoardActions.Boards.{ActionsAreOfBoard}
use Rattle.session_actions.specs.Laws.{posted_in}
use Rattle.session_actions.specs.Sessions.{Does}
use Rattle.session_actions.specs.Words.{last_of}
use Rattle.session_actions.specs.declared.action.Action.{Action}
use Rattle.session_actions.specs.declared.entry.OpenEntry.{OpenEntry}
use Rattle.session_actions.specs.declared.seen.Seen.{Seen}
use Rattle.session_order.specs.Quiescent.{IsQuiescent, IsStill}
use Rattle.session_order.specs.Lines.{is_of_policies}
use Rattle.session_order.specs.declared.line.Line.{Line}

-- no line gives anything but those of policies and their subchannels
abbrev pub IsApartQuiescent : OpenEntry → Seen → Type 0
IsApartQuiescent o s = (l : Line) → is_of_policies l ≡ false → IsStill l o s

-- the last pick request was answered with a subchannel that was made, if with one
abbrev pub IsPickThere : Seen → Type 0
IsPickThere s = (ask : Ask) (sub : ℕ) → last_of s.asks ≡ Some ask → ask.answer ≡ pick.Place sub → sub ≤ length s.subs

-- the session does these actions, of subchannels and policies alone, in the entry that is open; and then nothing follows at once
pub record IsChained (actions : List Action) (o : OpenEntry) (s t : Seen) : Type 0 where
  pub does : Does actions s t
  pub board : ActionsAreOfBoard actions
  pub posts : posted_in actions ≡ []
  pub current : t.current ≡ Some o
  pub quiescent : IsQuiescent o t
