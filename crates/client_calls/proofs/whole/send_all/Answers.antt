use Rattle.std.proofs.Common.{[], ◌∷◌, ◌++◌, refl, ◌∙◌}
use Rattle.client_calls.proofs.ExchangeLaws.{parts_more, sends_more}
use Rattle.client_calls.proofs.whole.send_all.Goals as goal

pub loop-message-init : goal.loop-message-init
loop-message-init g c = record { errors = refl; share = refl; others = refl; done = []; parts = refl; so_far = refl }

pub loop-message-preserved : goal.loop-message-preserved
loop-message-preserved g c =
    let on = c.loop-message.invariant in
    let sent = c.in_ok-send_one.ensures.sent in
    record {
      errors = c.in_ok-send_one.ensures.failed ∙ on.errors;
      share = c.send_one.ensures.share ∙ on.share;
      others = c.send_one.ensures.others ∙ on.others;
      done = on.done ++ c.in-Some.message.now ∷ [];
      parts = parts_more _ on.done _ _ c.in-Some.message.now on.parts c.in-Some.ensures;
      so_far = sends_more _ on.done _ _ _ _ sent.0 on.so_far sent.1;
    }
