-- How workers ended, and what that says of what they posted.
use Rattle.std.specs.Prelude.{◌≡◌, ◌⊎◌, List, [], ◌∷◌, ◌++◌, Option, Some}
use Rattle.grpc_base.specs.declared.event.Conn.TheVariants as conn
use Rattle.grpc_base.specs.declared.event.Entry.{Entry}
use Rattle.grpc_base.specs.declared.event.Refusal.{Refusal}
use Rattle.grpc_base.specs.declared.event.Reply.TheVariants as reply
use Rattle.grpc_base.specs.declared.post.Look.{Look}
use Rattle.grpc_base.specs.declared.post.Look.TheVariants as looks
use Rattle.grpc_base.specs.declared.post.PostError.{PostError}
use Rattle.grpc_base.specs.declared.post.PostError.TheVariants as failed
use Rattle.grpc_base.specs.declared.post.View.{View}
use Rattle.grpc_base.specs.declared.script.CallLine.{CallLine}
use Rattle.live_pump.specs.Calls.{LinesPrefix, MakesLines}
use Rattle.live_pump.specs.Pumps.{HandleSeen}
use Rattle.live_pump.specs.Workers.{Ends, IsCauseOf}
use Rattle.live_pump.specs.declared.pumped.Pumped.{Pumped}
use Rattle.live_pump.specs.declared.pumped.Pumped.TheVariants as pumped
use Rattle.live_run.specs.declared.outcome.Outcome.{Outcome}
use Rattle.live_run.specs.declared.outcome.Outcome.TheVariants as outcome

-- how a worker ended that was given an error
abbrev pub outcome_of : PostError → Outcome
outcome_of (failed.NoMemory spent) = outcome.NoMemory
outcome_of (failed.SessionFull entries octets) = outcome.Full

-- both at once: out of memory stands before a full session
abbrev pub graver : Outcome → Outcome → Outcome
graver outcome.NoMemory other = outcome.NoMemory
graver outcome.Full outcome.NoMemory = outcome.NoMemory
graver outcome.Full other = outcome.Full
graver outcome.Whole other = other

abbrev pub gravest : List Outcome → Outcome
gravest [] = outcome.Whole
gravest (o ∷ outcomes) = graver o (gravest outcomes)

-- what a worker's answer says of how it ended
abbrev pub ended_with : Pumped → Outcome
ended_with (pumped.Failed e) = outcome_of e
ended_with _ = outcome.Whole

-- a worker that keeps links open ended: the channel was shut down when it was last looked at, or an error came, with its cause
abbrev pub KeepsLinks : HandleSeen → HandleSeen → Option Look → Outcome → Type 0
KeepsLinks before after look o = (end : Pumped) × Ends before after look end × (o ≡ ended_with end)

-- a worker that makes calls made all its lines, or a prefix of them, and then an error came, with its cause
abbrev pub MakesCalls : List CallLine → HandleSeen → HandleSeen → Outcome → Type 0
MakesCalls lines before after outcome.Whole = MakesLines lines before.made after.made × (after.errors ≡ before.errors)
MakesCalls lines before after o = LinesPrefix lines before.made after.made × ((e : PostError) × (outcome_of e ≡ o) × IsCauseOf e before after)

-- the look showed a channel that is shut down
abbrev pub ShowsShutdown : Option Look → Type 0
ShowsShutdown look = (view : View) × (look ≡ Some (looks.Glance view)) × (view.state ≡ conn.Shutdown)

-- entries were added after these, and the last one was refused
abbrev pub EndsRefused : List Entry → List Entry → Type 0
EndsRefused before after = (added : List Entry) × (last : Entry) × (r : Refusal) × (after ≡ before ++ added ++ last ∷ []) × (last.reply ≡ reply.Refused r)

-- the worker that looks a name up ended: no post of it failed, and the channel was shut down when it was last looked at, or refused the
-- worker's last entry; or an error came, with its cause
abbrev pub EndsLookups : HandleSeen → HandleSeen → Option Look → Outcome → Type 0
EndsLookups before after look outcome.Whole = (after.errors ≡ before.errors) × (ShowsShutdown look ⊎ EndsRefused before.made after.made)
EndsLookups before after look o = (e : PostError) × (outcome_of e ≡ o) × IsCauseOf e before after
