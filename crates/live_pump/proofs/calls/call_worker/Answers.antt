use Rattle.std.proofs.Common.{[], ◌∷◌, ◌++◌, refl, ◌∙◌}
use Rattle.live_pump.proofs.CallLaws.{lines_more, parts_more}
use Rattle.live_pump.proofs.calls.call_worker.Goals as goal

pub loop-line-init : goal.loop-line-init
loop-line-init g c = record { errors = refl; share = refl; done = []; parts = refl; so_far = refl }

pub loop-line-preserved : goal.loop-line-preserved
loop-line-preserved g c =
    let on = c.loop-line.invariant in
    let made = c.in_ok-make_line.ensures.made in
    record {
      errors = made.1 ∙ on.errors;
      share = c.make_line.ensures.share ∙ on.share;
      done = on.done ++ c.in-Some.line.now ∷ [];
      parts = parts_more _ on.done _ _ c.in-Some.line.now on.parts c.in-Some.ensures;
      so_far = lines_more on.done _ _ _ _ on.so_far made.0;
    }
