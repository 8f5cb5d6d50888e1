-- When a Tick is posted.
use Rattle.std.specs.Prelude.{◌≡◌, ℕ, Bool, true, false, nat_le, Option, Some, None, Result, Ok, Err}
use Rattle.grpc_base.specs.declared.event.Event.TheVariants as event
use Rattle.grpc_base.specs.declared.event.Reply.{Reply}
use Rattle.grpc_base.specs.declared.post.PostError.{PostError}
use Rattle.live_pump.specs.Pumps.{HandleSeen, PostsNothing, PostsOne}

-- something is due at or before a moment
abbrev pub is_due : Option ℕ → ℕ → Bool
is_due (Some due) moment = nat_le due moment
is_due None moment = false

-- one Tick is posted where something is due, and the answer says whether it was
abbrev pub TicksIfDue : Option ℕ → ℕ → HandleSeen → HandleSeen → Result Bool PostError → Type 0
TicksIfDue next moment before after (Ok true) = (is_due next moment ≡ true) × (r : Reply) × PostsOne event.Tick before after (Ok r)
TicksIfDue next moment before after (Ok false) = (is_due next moment ≡ false) × PostsNothing before after
TicksIfDue next moment before after (Err e) = (is_due next moment ≡ true) × PostsOne event.Tick before after (Err e)
