-- A whole step, by its parts.
use Rattle.std.proofs.Common.{◌≡◌, ◌∙◌, ℕ, ap, subst}
use Rattle.grpc_base.specs.declared.event.Event.{Event}
use Rattle.grpc_base.specs.declared.event.Reply.{Reply}
use Rattle.channel_core.specs.Applying.{Answers, Stepped, begun_at}
use Rattle.channel_core.specs.Settling.{settled}
use Rattle.channel_core.specs.States.{StateSeen}
use Rattle.channel_core.specs.Steps.{overdue_ended}

pub stepped_by : (entry moment word : ℕ) (e : Event) (old begun due answered new : StateSeen) (r : Reply)
    → begun ≡ begun_at entry moment word old → due ≡ overdue_ended begun → Answers e due answered r → new ≡ settled answered
    → Stepped entry moment word e old new r
stepped_by entry moment word e old begun due answered new r begins ends answers settles =
    let P : StateSeen → Type 0 = λ s. Answers e s answered r in
    record {
      answered = answered;
      answers = subst P (ends ∙ ap overdue_ended begins) answers;
      settles = settles;
    }
