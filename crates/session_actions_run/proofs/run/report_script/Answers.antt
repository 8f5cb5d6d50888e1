use Rattle.std.proofs.Common.{inr}
use Rattle.session_text.proofs.WrittenLaws.{prefix_as, some_as}
use Rattle.session_actions_run.proofs.run.report_script.Goals as goal

pub returns-then-len-gt-MOST_EVENTS-clause-writing : goal.returns-then-len-gt-MOST_EVENTS-clause-writing
returns-then-len-gt-MOST_EVENTS-clause-writing g c = λ five.
    ((c.report_first.ensures.writing five).0, prefix_as _ _ _ _ (λ text is. inr is) (c.report_first.ensures.writing five).1)

pub returns-then-len-gt-MOST_EVENTS-clause-memory : goal.returns-then-len-gt-MOST_EVENTS-clause-memory
returns-then-len-gt-MOST_EVENTS-clause-memory g c = λ six. some_as _ _ _ _ (λ text is. inr is) (c.report_first.ensures.memory six)
