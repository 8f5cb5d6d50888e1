-- A TakeDial and what is done about what it gave.
use Rattle.std.proofs.Common.{◌≡◌, ℕ, true, Some, None, Result, subst}
use Rattle.grpc_base.specs.declared.event.Event.TheVariants as event
use Rattle.grpc_base.specs.declared.event.Reply.{Reply}
use Rattle.grpc_base.specs.declared.post.PostError.{PostError}
use Rattle.live_pump.specs.Dials.{AfterTakeDial, DialerSeen, Dials, DialsIf, IsIdle, TurnSeen, idle_answer, sub_of}
use Rattle.live_pump.specs.Pumps.{HandleSeen, PostsNothing, PostsOne}

pub dials_taken : (sub : ℕ) (d d_after : DialerSeen) (before taken after : HandleSeen) (came : Result Reply PostError) (answer : TurnSeen) → PostsOne event.TakeDial before taken came → Some sub ≡ sub_of came → Dials sub d d_after taken after answer → DialsIf true d d_after before after answer
dials_taken sub d d_after before taken after came answer posted gave dials =
    (taken, came, posted, subst (λ s. AfterTakeDial s came d d_after taken after answer) gave dials)

pub dials_nothing : (d : DialerSeen) (before taken : HandleSeen) (came : Result Reply PostError) (answer : TurnSeen) → PostsOne event.TakeDial before taken came → None ≡ sub_of came → IsIdle d d → PostsNothing taken taken → answer ≡ idle_answer came → DialsIf true d d before taken answer
dials_nothing d before taken came answer posted gave idle nothing is =
    (taken, came, posted, subst (λ s. AfterTakeDial s came d d taken taken answer) gave (idle, nothing, is))
