use Rattle.session_text.proofs.WrittenLaws.{all_as, prefix_as, some_as}
use Rattle.channel_top.proofs.RelayLaws.{relay_full_promised, relay_text_promised, relayed_promised}
use Rattle.channel_top.proofs.relay.relay_as_promised.Goals as goal

pub returns-clause-done : goal.returns-clause-done
returns-clause-done g c = λ zero. all_as _ _ _ _ (relayed_promised c.sessions_keep_the_promise.ensures _ _ _ _ _) (c.run_relay.ensures.done zero)

pub returns-clause-writing : goal.returns-clause-writing
returns-clause-writing g c = λ five. (
  (c.run_relay.ensures.writing five).0,
  prefix_as _ _ _ _ (relay_text_promised c.sessions_keep_the_promise.ensures _ _ _ _ _) (c.run_relay.ensures.writing five).1,
)

pub returns-clause-memory : goal.returns-clause-memory
returns-clause-memory g c = λ six. some_as _ _ _ _ (relay_text_promised c.sessions_keep_the_promise.ensures _ _ _ _ _) (c.run_relay.ensures.memory six)

pub returns-clause-full : goal.returns-clause-full
returns-clause-full g c = λ seven. all_as _ _ _ _ (relay_full_promised c.sessions_keep_the_promise.ensures _ _ _ _ _) (c.run_relay.ensures.full seven)
