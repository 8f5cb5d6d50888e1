-- What the workers promise: how they end, and what a link's turn does.
use Rattle.std.specs.Prelude.{◌≡◌, ◌≤◌, ◌⊎◌, ℕ, Bool, true, false, min, Option, Some, None}
use Rattle.grpc_base.specs.Counts.{Rises}
use Rattle.grpc_base.specs.declared.event.Event.TheVariants as event
use Rattle.grpc_base.specs.declared.event.Conn.TheVariants as conn
use Rattle.grpc_base.specs.declared.post.Look.{Look}
use Rattle.grpc_base.specs.declared.post.Look.TheVariants as looks
use Rattle.grpc_base.specs.declared.post.PostError.{PostError}
use Rattle.grpc_base.specs.declared.post.PostError.TheVariants as failed
use Rattle.grpc_base.specs.declared.post.View.{View}
use Rattle.grpc_base.specs.declared.tender.Tend.{Tend}
use Rattle.grpc_base.specs.declared.tender.Tend.TheVariants as tend
use Rattle.live_pump.specs.Pumps.{HandleSeen, PostsNothing, PostsTo}
use Rattle.live_pump.specs.declared.pumped.Pumped.{Pumped}
use Rattle.live_pump.specs.declared.pumped.Pumped.TheVariants as pumped

-- a count did not fall; at the top of a u64 it stands still
abbrev pub HasNotFallen : ℕ → ℕ → Type 0
HasNotFallen before after = min before 18446744073709551615 ≤ after

-- a post of this call failed with this error, or the call found no memory itself
abbrev pub IsCauseOf : PostError → HandleSeen → HandleSeen → Type 0
IsCauseOf e before after = (Rises before.errors after.errors × (after.last ≡ Some e)) ⊎ (e ≡ failed.NoMemory false)

-- an error is answered with its cause, and without one no post failed
abbrev pub ReportsThat : HandleSeen → HandleSeen → Pumped → Type 0
ReportsThat before after (pumped.Failed e) = IsCauseOf e before after
ReportsThat before after _ = after.errors ≡ before.errors

-- what a tender says of a link is done: a Ping or LinkLost is posted, or nothing
abbrev pub TendsTo : ℕ → Tend → HandleSeen → HandleSeen → Pumped → Type 0
TendsTo link tend.Nothing before after result = PostsNothing before after × (result ≡ pumped.Going)
TendsTo link (tend.Ping word) before after result = PostsTo (event.Ping link word) pumped.Going before after result
TendsTo link tend.Lost before after result = PostsTo (event.LinkLost link) pumped.Lost before after result

-- an answer without a failed post
abbrev pub is_quiet : Pumped → Bool
is_quiet (pumped.Failed e) = false
is_quiet _ = true

abbrev pub is_going : Pumped → Bool
is_going pumped.Going = true
is_going _ = false

-- a part of a round: where it ends the worker, that is an error with its cause; else no post failed
abbrev pub Parts : HandleSeen → HandleSeen → Option PostError → Type 0
Parts before after (Some e) = IsCauseOf e before after
Parts before after None = after.errors ≡ before.errors

-- a round: it ends the worker where the channel was shut down when it was looked at, or with an error and its cause;
-- else no post failed
abbrev pub Rounds : HandleSeen → HandleSeen → Option Look → Option Pumped → Type 0
Rounds before after look None = after.errors ≡ before.errors
Rounds before after look (Some pumped.Shut) = (view : View) × (look ≡ Some (looks.Glance view)) × (view.state ≡ conn.Shutdown)
Rounds before after look (Some (pumped.Failed e)) = IsCauseOf e before after
Rounds before after look (Some _) = ⊥

-- how a worker ends: the channel was shut down when it was last looked at, or an error came, with its cause
abbrev pub Ends : HandleSeen → HandleSeen → Option Look → Pumped → Type 0
Ends before after look pumped.Shut = (view : View) × (look ≡ Some (looks.Glance view)) × (view.state ≡ conn.Shutdown)
Ends before after look (pumped.Failed e) = IsCauseOf e before after
Ends before after look _ = ⊥
