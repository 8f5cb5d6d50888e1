use Rattle.std.proofs.Common.{◌≡◌, ◌++◌, List, ℕ, subst}
use Rattle.std.specs.Result.{OnOk}
use Rattle.h2_frame.specs.Frames.{written}
use Rattle.h2_frame.proofs.PayloadLaws.{word_bytes}
use Rattle.h2_frame.proofs.sent.write_ping.Goals as goal

pub returns-clause-ok : goal.returns-clause-ok
returns-clause-ok c =
    let Written : List ℕ → Type 0 = λ bytes. OnOk c.write_frame.result (c.write_frame.new.out.items ≡ c.args.out.now.items ++ written (record { kind = 6; flags = 0; stream = 0; payload = bytes })) in
    subst Written (word_bytes c.args.word c.to_be_bytes.result c.ranges.word.fits c.to_be_bytes.ensures) c.write_frame.ensures.ok
