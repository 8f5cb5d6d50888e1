use Rattle.std.proofs.Common.{map, rules, string_bytes}
use Rattle.session_text.proofs.WrittenLaws.{prefix_as, some_as}
use Rattle.channel_top.proofs.WrittenLaws.{output_of}
use Rattle.channel_top.proofs.top.run_words.Goals as goal

pub returns-in-Run-clause-writing : goal.returns-in-Run-clause-writing
returns-in-Run-clause-writing g c = λ five. (
  (c.run_mode.ensures.writing five).0,
  prefix_as _ _ _ _ (output_of _ _ c.in-Run.mode (map string_bytes c.args.words.now) _ _ (search rules)) (c.run_mode.ensures.writing five).1,
)

pub returns-in-Run-clause-memory : goal.returns-in-Run-clause-memory
returns-in-Run-clause-memory g c = λ six.
    some_as _ _ _ _ (output_of _ _ c.in-Run.mode (map string_bytes c.args.words.now) _ _ (search rules)) (c.run_mode.ensures.memory six)
