use Rattle.channel_actions.proofs.Calls.Going.Arms.{CallLaws, kept_same}
use Rattle.channel_actions.proofs.Calls.Sound.Keeping.{answers_keep, deadlines_keep, new_calls, settlings_keep, steps_keep}
use Rattle.channel_actions.proofs.sound_calls.calls_stay_sound.Goals as goal

pub returns : goal.returns
returns c =
    let kept = c.calls_are_kept.ensures in
    let going = c.calls_go_on.ensures in
    let leaves = c.takes_leave_rows.ensures in
    let laws : CallLaws = record {
      begun = λ number request moment. record { kept = kept.begun number request moment; going = going.begun number request moment };
      configured = λ chosen moment s most g. record { kept = kept.configured chosen moment s g.kept; going = going.configured chosen moment s most g.kept g.going };
      sent = λ message moment s g. record { kept = kept.sent message moment s g.kept; going = going.sent message moment s g.kept g.going };
      closed = λ why moment s by g. record { kept = kept.closed why moment s g.kept; going = going.closed why moment s by g.kept g.going };
      timed_out = λ moment s g. record { kept = kept.timed_out moment s g.kept; going = going.timed_out moment s g.kept g.going };
      placed = λ row at s e g. record { kept = kept.placed row at s g.kept; going = going.placed row at s e g.kept g.going };
      failed = λ row moment word s g. record { kept = kept.failed row moment word s g.kept; going = going.failed row moment word s g.kept g.going };
      handled = λ row reported moment word s g. record { kept = kept.handled row reported moment word s g.kept; going = going.handled row reported moment word s g.kept g.going };
      made = λ moment s g. record { kept = kept.made moment s g.kept; going = going.made moment s g.kept g.going };
      same = λ old new is g. record { kept = kept_same old new is g.kept; going = leaves.going old new is g.going };
      fed = leaves.fed;
      finished = leaves.finished;
      taken = leaves.taken;
    } in
    record {
      begins = new_calls laws;
      steps = steps_keep laws;
      deadlines = deadlines_keep laws;
      answers = answers_keep laws;
      settlings = settlings_keep laws;
    }
