use Rattle.std.proofs.Common.{◌≡◌, ◌∙◌, ap}
use Rattle.std.specs.Prelude.{Err}
use Rattle.channel_core.specs.declared.channel.CoreError.{CoreError}
use Rattle.channel_core.specs.declared.channel.CoreError.TheVariants as failed
use Rattle.journal_room.proofs.RoomLaws.{step_room}
use Rattle.load_session.proofs.Ran.{lacks_room, not_memory, not_ok}
use Rattle.load_session.proofs.sides.post.Goals as goal

pub returns-in-Ok-clause-ok : goal.returns-in-Ok-clause-ok
returns-in-Ok-clause-ok g c = record {
  steps = c.in-Ok.ensures.ok;
  posted = c.keeps_its_types.ensures;
  room = step_room c.args.core.now c.args.event c.step.result _ c.in-Ok.is c.in-Ok.ensures.ok.before c.step.ensures.full;
}

pub returns-in-Ok-clause-full : goal.returns-in-Ok-clause-full
returns-in-Ok-clause-full g c = not_ok _

pub returns-in-SessionFull-clause-full : goal.returns-in-SessionFull-clause-full
returns-in-SessionFull-clause-full g c = λ _.
    (let reported : c.step.result ≡ Err (failed.SessionFull c.in-SessionFull.entries c.in-SessionFull.octets) =
    c.in-Err.is ∙ ap (λ (e : CoreError). Err e) c.in-SessionFull.is in
    lacks_room c.args.core.now c.args.event c.in-SessionFull.entries c.in-SessionFull.octets
    ((c.step.ensures.full c.in-SessionFull.entries c.in-SessionFull.octets).0 reported))

pub returns-in-NoMemory-clause-full : goal.returns-in-NoMemory-clause-full
returns-in-NoMemory-clause-full g c = not_memory
