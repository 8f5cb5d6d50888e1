-- A Drain and what is done about what it gave.
use Rattle.std.proofs.Common.{◌≡◌, ℕ, true, Result, Ok, Err, List, refl, subst}
use Rattle.grpc_base.specs.declared.event.Event.TheVariants as event
use Rattle.grpc_base.specs.declared.event.Reply.{Reply}
use Rattle.grpc_base.specs.declared.post.PostError.{PostError}
use Rattle.live_pump.specs.Pumps.{AfterDrain, HandleSeen, IsLeft, OutSeen, PostsNothing, PostsOne, PumpsOut, WritesOut, drained_of}
use Rattle.live_pump.specs.declared.pumped.Pumped.{Pumped}

pub pumps_out_written : (link : ℕ) (piece slice : List ℕ) (o o_after : OutSeen) (before drained after : HandleSeen) (came : Result Reply PostError) (result : Pumped) → PostsOne (event.Drain link 65536) before drained came → Ok piece ≡ drained_of came → slice ≡ piece → WritesOut link slice o o_after drained after result → PumpsOut link true o o_after before after result
pumps_out_written link piece slice o o_after before drained after came result posted gave same written =
    (drained, came, posted, subst (λ d. AfterDrain link d o o_after drained after result) gave (subst (λ (p : List ℕ). WritesOut link p o o_after drained after result) same written))

pub pumps_out_nothing : (link : ℕ) (answer : Pumped) (o : OutSeen) (before drained : HandleSeen) (came : Result Reply PostError) → PostsOne (event.Drain link 65536) before drained came → Err answer ≡ drained_of came → IsLeft o o → PostsNothing drained drained → PumpsOut link true o o before drained answer
pumps_out_nothing link answer o before drained came posted gave left nothing =
    (drained, came, posted, subst (λ d. AfterDrain link d o o drained drained answer) gave (left, nothing, refl))
