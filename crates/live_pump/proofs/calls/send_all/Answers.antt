use Rattle.std.proofs.Common.{[], ◌∷◌, ◌++◌, refl, ◌∙◌}
use Rattle.live_pump.proofs.CallLaws.{parts_more, sends_more}
use Rattle.live_pump.proofs.calls.send_all.Goals as goal

pub loop-message-init : goal.loop-message-init
loop-message-init g c = record { errors = refl; share = refl; done = []; parts = refl; so_far = refl }

pub loop-message-preserved : goal.loop-message-preserved
loop-message-preserved g c =
    let on = c.loop-message.invariant in
    let sent = c.in_ok-send.ensures.sent in
    record {
      errors = sent.1 ∙ on.errors;
      share = c.send.ensures.share ∙ on.share;
      done = on.done ++ c.in-Some.message.now ∷ [];
      parts = parts_more _ on.done _ _ c.in-Some.message.now on.parts c.in-Some.ensures;
      so_far = sends_more _ on.done _ _ _ _ _ on.so_far sent.0;
    }
