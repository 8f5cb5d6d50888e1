-- The frame of links for what is cut off by one action: all links of the channel agree with the session again, once the attempts have ended and their streams
-- are reset. It is stated of any attempts, so of the end of a call and of a commitment alike (gRPC, "Core concepts": Cancelling an RPC; gRFC A6, "When Retries
-- are Valid"; RFC 9113, section 6.4).
-- Example: call 1 is cancelled, with attempts on the links 1 and 2. After the resets of their streams the links 1 and 2 agree with the session, each with
-- RST_STREAM queued after all that it owed; and link 3 does as before.
use Rattle.std.specs.List.{list_any}
use Rattle.std.specs.Prelude.{List, false, is_some, true, ℕ, ◌≡◌}
use Rattle.channel_actions.specs.Links.{SeesLinks}
use Rattle.channel_core.specs.States.{StateSeen}
use Rattle.grpc_base.specs.declared.event.EndCause.{EndCause}
use Rattle.channel_actions.specs.KeptSessions.Kept.{IsKept}
use Rattle.call_cases.specs.EndsFollow.Cuts.{AttemptsAreCutOff, StreamsAreReset, NoStreamIsToReset}
use Rattle.call_cases.specs.LinkEnds.Cuts.{links_closed, links_cut}
use Rattle.session_actions.specs.AttemptEnds.{reset_code_of}
use Rattle.session_actions.specs.CallEnds.{call_ended}
use Rattle.session_actions.specs.declared.action.Action.{Action}
use Rattle.session_actions.specs.declared.attempt.Attempt.{Attempt}
use Rattle.session_actions.specs.declared.seen.Seen.{Seen}

-- the end of a call alone leaves all links in agreement
abbrev pub CallsEndOffLinks : Type 0
CallsEndOffLinks =
    (x : StateSeen) (s : Seen) (number : ℕ) (why : EndCause) → IsKept s → SeesLinks x s → SeesLinks x (call_ended number why s)

-- the channel's links after attempts were cut off
abbrev pub with_cuts : List Attempt → StateSeen → StateSeen
with_cuts cuts x = record x { links = links_closed cuts (links_cut cuts x.links) }

-- no stream is to be reset; attempts are cut off; and then resets follow, until none is left. (That no stream was reset of an attempt that goes on is asked of
-- the session: StreamReset is given of attempts alone that ended.)
pub record StreamsAreResetToo (x : StateSeen) (t : Seen) : Type 0 where
  pub actions : List Action
  pub seen : Seen
  pub resets : StreamsAreReset actions t seen
  pub unreset : NoStreamIsToReset seen
  pub links : SeesLinks x seen

abbrev pub CutsAreReset : Type 0
CutsAreReset =
    (x : StateSeen) (s t : Seen) (cuts : List Attempt) → is_some s.current ≡ true → IsKept s → SeesLinks x s
    → NoStreamIsToReset s → list_any (λ a. is_some (reset_code_of s a)) s.attempts ≡ false → AttemptsAreCutOff cuts s t → StreamsAreResetToo (with_cuts cuts x) t
