use Rattle.h2_frame.proofs.PayloadLaws.{settings_written}
use Rattle.std.proofs.Common.{arith}
use Rattle.h2_frame.proofs.sent.write_settings.Goals as goal

pub returns-clause-ok : goal.returns-clause-ok
returns-clause-ok c =
    settings_written c.loop-setting.out.items c.args.out.now.items c.args.settings.now c.loop-setting.setting-index (omega (arith, c.loop-setting-test.false)) c.loop-setting.invariant.0
