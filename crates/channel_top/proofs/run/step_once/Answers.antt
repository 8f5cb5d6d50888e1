use Rattle.std.proofs.Common.{◌≡◌, ◌∙◌, ap}
use Rattle.std.specs.Prelude.{Err}
use Rattle.channel_core.specs.declared.channel.CoreError.{CoreError}
use Rattle.channel_core.specs.declared.channel.CoreError.TheVariants as failed
use Rattle.journal_room.proofs.RoomLaws.{step_room}
use Rattle.load_session.proofs.Ran.{lacks_room}
use Rattle.channel_top.proofs.run.step_once.Goals as goal

pub returns-in-Ok : goal.returns-in-Ok
returns-in-Ok g c = (
  step_room c.args.core.now c.args.stamped.event c.step.result _ c.in-Ok.is c.in-Ok.ensures.ok.before c.step.ensures.full,
  c.keeps_its_types.ensures,
  _,
  c.in-Ok.ensures.ok,
)

pub returns-in-SessionFull : goal.returns-in-SessionFull
returns-in-SessionFull g c =
    let reported : c.step.result ≡ Err (failed.SessionFull c.in-SessionFull.entries c.in-SessionFull.octets) =
    c.in-Err.is ∙ ap (λ (e : CoreError). Err e) c.in-SessionFull.is in (
      lacks_room c.args.core.now c.args.stamped.event c.in-SessionFull.entries c.in-SessionFull.octets
          ((c.step.ensures.full c.in-SessionFull.entries c.in-SessionFull.octets).0 reported),
      c.step.ensures.refused c.in-SessionFull.entries c.in-SessionFull.octets reported,
    )
