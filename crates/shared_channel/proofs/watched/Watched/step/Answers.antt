use Rattle.std.proofs.Common.{◌∙◌, [], ap, append-nil, length, subst, sym}
use Rattle.grpc_base.specs.Posts.{HasNoRoom}
use Rattle.channel_core.specs.Core.{CoreSeen, Steps}
use Rattle.channel_core.specs.Sizes.{counted, journal_bytes}
use Rattle.turn_lock.specs.History.{StartsWith}
use Rattle.shared_channel.specs.Errors.{error_of}
use Rattle.shared_channel.proofs.FullLaws.{full_either, full_found, full_more}
use Rattle.journal_room.proofs.RoomLaws.{step_room}
use Rattle.shared_channel.proofs.RunningLaws.{fails_run, steps_run}
use Rattle.shared_channel.proofs.StateLaws.{error_as, fails_of, fails_same, had_room, has_one_more, ok_of, watched_now, watched_same}
use Rattle.shared_channel.proofs.watched.Watched.step.Goals as goal

pub invariant_of-self : goal.invariant_of-self
invariant_of-self g c =
    let did = ok_of (Steps c.self.inside.core c.step.new.self c.args.stamped) c.step.result c.in-Ok.reply c.in-Ok.is c.step.ensures.ok in
    let kept = watched_now _ _ _ _ _ _ c.either-self-inside.ensures did.journal c.is_shutdown-shuts.ensures (c.self.invariant.0, c.self.invariant.1)
    (has_one_more _ _ _ (had_room c.self.inside.core c.args.stamped.event c.step.result c.in-Ok.reply c.in-Ok.is did.before c.step.ensures.full)) in
    let room = step_room c.self.inside.core c.args.stamped.event c.step.result c.in-Ok.reply c.in-Ok.is did.before c.step.ensures.full in (
      kept.0,
      kept.1,
      steps_run _ c.self.inside.core c.step.new.self c.args.stamped c.in-Ok.reply did c.keeps_its_types.ensures room c.self.invariant.2,
      λ so. full_more _ _ (_, did.journal) (c.self.invariant.3 so),
    )

pub returns-in-Ok-clause-room : goal.returns-in-Ok-clause-room
returns-in-Ok-clause-room g c =
    let did = ok_of (Steps c.self.inside.core c.step.new.self c.args.stamped) c.step.result c.in-Ok.reply c.in-Ok.is c.step.ensures.ok in
    let P : CoreSeen → Type 0 = λ s. HasNoRoom (length s.journal.entries) (counted (journal_bytes s.journal.entries)) c.args.stamped.event → ⊥ in
    subst P (ap (λ w. w.core) c.self.view_is) (had_room c.self.inside.core c.args.stamped.event c.step.result c.in-Ok.reply c.in-Ok.is did.before c.step.ensures.full)

pub returns-in-Err-clause-gives : goal.returns-in-Err-clause-gives
returns-in-Err-clause-gives g c =
    error_as c.args.stamped.event c.self.inside.core _ c.step.new.self _ _ (ap (λ w. w.core) c.self.view_is) c.post_error.ensures
    (fails_of c.self.inside.core c.step.new.self c.args.stamped.event c.step.result c.in-Err.error c.in-Err.is c.step.ensures.full c.step.ensures.refused c.step.ensures.unspent c.step.ensures.spent)

pub invariant_of-self-in-Err : goal.invariant_of-self-in-Err
invariant_of-self-in-Err g c =
    let fails = fails_of c.self.inside.core c.step.new.self c.args.stamped.event c.step.result c.in-Err.error c.in-Err.is c.step.ensures.full c.step.ensures.refused c.step.ensures.unspent c.step.ensures.spent in
    let same = fails_same c.args.stamped.event c.self.inside.core c.step.new.self _ fails in
    let kept = watched_same _ _ _ same (c.self.invariant.0, c.self.invariant.1) in (
      kept.0,
      kept.1,
      fails_run _ c.args.stamped.event c.self.inside.core c.step.new.self (error_of c.in-Err.error) fails c.self.invariant.2,
      full_either _ _ _ _ _ c.either-self-inside-in-Err.ensures ([], same ∙ sym (append-nil _)) c.self.invariant.3
          (λ finds. full_found c.self.inside.core c.args.stamped.event c.step.result c.in-Err.error c.in-Err.is c.step.ensures.full (c.finds_nearly_full.ensures finds)),
    )

pub returns-in-Ok-clause-appends : goal.returns-in-Ok-clause-appends
returns-in-Ok-clause-appends g c =
    let did = ok_of (Steps c.self.inside.core c.step.new.self c.args.stamped) c.step.result c.in-Ok.reply c.in-Ok.is c.step.ensures.ok in
    let P : CoreSeen → Type 0 = λ s. StartsWith c.step.new.self.journal.entries s.journal.entries in
    subst P (ap (λ w. w.core) c.self.view_is) (_, did.journal)
