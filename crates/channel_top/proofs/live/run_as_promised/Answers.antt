use Rattle.session_text.proofs.WrittenLaws.{all_as, prefix_as, some_as}
use Rattle.channel_top.proofs.LiveLaws.{full_promised, lived_promised, text_promised}
use Rattle.channel_top.proofs.live.run_as_promised.Goals as goal

pub returns-clause-done : goal.returns-clause-done
returns-clause-done g c = λ zero. all_as _ _ _ _ (lived_promised c.sessions_keep_the_promise.ensures _ _ _ _) (c.run_live.ensures.done zero)

pub returns-clause-writing : goal.returns-clause-writing
returns-clause-writing g c = λ five. (
  (c.run_live.ensures.writing five).0,
  prefix_as _ _ _ _ (text_promised c.sessions_keep_the_promise.ensures _ _ _ _) (c.run_live.ensures.writing five).1,
)

pub returns-clause-memory : goal.returns-clause-memory
returns-clause-memory g c = λ six. some_as _ _ _ _ (text_promised c.sessions_keep_the_promise.ensures _ _ _ _) (c.run_live.ensures.memory six)

pub returns-clause-full : goal.returns-clause-full
returns-clause-full g c = λ seven. all_as _ _ _ _ (full_promised c.sessions_keep_the_promise.ensures _ _ _ _) (c.run_live.ensures.full seven)
