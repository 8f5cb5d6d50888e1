-- What a session keeps of its links while something follows at once from what has happened: all that passed on them, that they are over or not, the streams of attempts,
-- and the limits of their responses. So the response on a stream is what it was.
-- Example: a link is lost, and attempt 1 on it ends. A retry is made for its call, attempt 2 of another call is cut off, and its stream on link 2 is reset: RST_STREAM
-- is queued on link 2, and nothing was read or written on any link. The response of attempt 3, on link 2 too, is as before.
use Rattle.std.specs.Prelude.{Bool, Option, Some, [], false, is_some, map, option_map, true, ℕ, ◌≡◌}
use Rattle.grpc_base.specs.Requests.{RequestSeen}
use Rattle.session_actions.specs.Words.{numbered}
use Rattle.session_actions.specs.declared.action.Action.{Action}
use Rattle.session_actions.specs.declared.action.Action.TheVariants as action
use Rattle.session_actions.specs.declared.attempt.Attempt.{Attempt}
use Rattle.session_actions.specs.declared.call.Call.{Call}
use Rattle.session_actions.specs.declared.link.Link.{Link}
use Rattle.session_actions.specs.declared.seen.Seen.{Seen}

-- the actions that may follow at once
abbrev pub is_at_once : Action → Bool
is_at_once (action.CallEnds call why) = true
is_at_once (action.AttemptMade call number k due) = true
is_at_once (action.AttemptPlaced row at) = true
is_at_once (action.AttemptEnds row end) = true
is_at_once (action.CallCommitted row why) = true
is_at_once (action.StreamReset row number) = true
is_at_once (action.PolicyBegins k) = true
is_at_once (action.AddressesGiven generation) = true
is_at_once (action.PolicyRetired generation) = true
is_at_once (action.SubchannelAdded address) = true
is_at_once (action.SubchannelShut sub) = true
is_at_once (action.SettingsArrive sub) = true
is_at_once (action.LinkDown sub) = true
is_at_once _ = false

-- of a link all but what is queued on it; of a call what its limits hang on
abbrev pub unqueued : Link → Link
unqueued l = record l { owed = [] }

pub record Served : Type 0 where
  pub config : Option ℕ
  pub request : RequestSeen

abbrev pub served : Call → Served
served c = record { config = c.config; request = c.request }

-- an attempt that was there is there still, of the same call, with the same stream; and it has ended if it had
pub record HasStream (a : Attempt) (o : Option Attempt) : Type 0 where
  pub now : Attempt
  pub there : o ≡ Some now
  pub call : now.row.call ≡ a.row.call
  pub stream : now.row.stream ≡ a.row.stream
  pub over : is_some a.row.ended ≡ true → is_some now.row.ended ≡ true

pub record IsPassedStill (s t : Seen) : Type 0 where
  pub links : map unqueued t.links ≡ map unqueued s.links
  pub attempts : (row : ℕ) (a : Attempt) → numbered s.attempts row ≡ Some a → HasStream a (numbered t.attempts row)
  pub calls : (k : ℕ) → option_map served (numbered t.calls k) ≡ option_map served (numbered s.calls k)
  pub configs : t.configs ≡ s.configs
