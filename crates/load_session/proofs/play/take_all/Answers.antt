use Rattle.std.proofs.Common.{◌∙◌, [], arith, inl, refl, sym}
use Rattle.grpc_base.specs.declared.event.Event.TheVariants as event
use Rattle.load_session.proofs.Acts.{IsTaking-done, IsTaking-more}
use Rattle.load_session.proofs.Ran.{exit_full, exit_ok, not_ok, one_longer}
use Rattle.load_session.proofs.play.take_all.Goals as goal

pub loop-taken-init : goal.loop-taken-init
loop-taken-init g c = record { taking = ([], refl); counted = omega arith }

pub loop-taken-preserved : goal.loop-taken-preserved
loop-taken-preserved g c = record {
  taking =
      IsTaking-more c.args.moment c.args.call c.args.core.now c.loop-taken.core c.take_once.new.core c.in_ok-more.ensures.ok.reply c.loop-taken.invariant.taking
      c.in_ok-more.ensures.ok.posts (sym c.in_ok-more.ensures.ok.more_is ∙ c.if-not-more.false);
  counted =
      omega (arith, c.loop-taken.invariant.counted, one_longer c.args.moment (event.Take c.args.call) c.loop-taken.core c.take_once.new.core c.in_ok-more.ensures.ok.reply c.in_ok-more.ensures.ok.posts);
}

pub returns-then-not-more-clause-ok : goal.returns-then-not-more-clause-ok
returns-then-not-more-clause-ok g c =
    IsTaking-done c.args.moment c.args.call c.args.core.now c.loop-taken.core c.take_once.new.core c.in_ok-more.ensures.ok.reply c.loop-taken.invariant.taking
    c.in_ok-more.ensures.ok.posts (sym c.in_ok-more.ensures.ok.more_is ∙ c.if-not-more.true)

pub returns-then-not-more-clause-full : goal.returns-then-not-more-clause-full
returns-then-not-more-clause-full g c = not_ok _

pub returns-clause-full : goal.returns-clause-full
returns-clause-full g c = λ _. record {
  more = c.loop-taken.invariant.taking.0;
  before = c.loop-taken.core;
  take_more = c.loop-taken.invariant.taking.1;
  full = inl (omega (arith, c.loop-taken.invariant.counted));
}

pub returns-in_err-more-clause-ok : goal.returns-in_err-more-clause-ok
returns-in_err-more-clause-ok g c = exit_ok _ c.from_residual.result _ c.from_residual.ensures.1

pub returns-in_err-more-clause-full : goal.returns-in_err-more-clause-full
returns-in_err-more-clause-full g c =
    exit_full c.from_residual.result c.in_err-more.field-0.0 c.from_residual.ensures.1 (λ same. record {
      more = c.loop-taken.invariant.taking.0;
      before = c.loop-taken.core;
      take_more = c.loop-taken.invariant.taking.1;
      full = c.in_err-more.ensures.full same;
    })
