use Rattle.std.proofs.Common.{map, refl}
use Rattle.session_text.proofs.WrittenLaws.{all_as, prefix_as, some_as}
use Rattle.channel_top.proofs.WrittenLaws.{live_done, live_full, live_output, load_done, load_full, load_output, load_refused, migrate_output, relay_done, relay_full, relay_output, replay_done, replay_full, replay_output}
use Rattle.channel_top.proofs.top.run_mode.Goals as goal

pub returns-in-Replay-clause-done : goal.returns-in-Replay-clause-done
returns-in-Replay-clause-done g c = λ zero. all_as _ _ _ _ (replay_done _ _ c.args.mode _ _ c.in-Replay.is) (c.run_replay.ensures.done zero)

pub returns-in-Replay-clause-full : goal.returns-in-Replay-clause-full
returns-in-Replay-clause-full g c = λ seven. all_as _ _ _ _ (replay_full _ _ c.args.mode _ _ c.in-Replay.is) (c.run_replay.ensures.full seven)

pub returns-in-Replay-clause-writing : goal.returns-in-Replay-clause-writing
returns-in-Replay-clause-writing g c = λ five. (
  (c.run_replay.ensures.writing five).0,
  prefix_as _ _ _ _ (replay_output _ _ c.args.mode _ _ c.in-Replay.is) (c.run_replay.ensures.writing five).1,
)

pub returns-in-Replay-clause-memory : goal.returns-in-Replay-clause-memory
returns-in-Replay-clause-memory g c = λ six.
    some_as _ _ _ _ (replay_output _ _ c.args.mode _ _ c.in-Replay.is) (c.run_replay.ensures.memory six)

pub returns-in-Migrate-clause-memory : goal.returns-in-Migrate-clause-memory
returns-in-Migrate-clause-memory g c = λ six.
    some_as _ _ _ _ (migrate_output _ _ c.args.mode _ _ c.in-Migrate.is) (c.run_migrate.ensures.memory six)

pub returns-in-Load-clause-done : goal.returns-in-Load-clause-done
returns-in-Load-clause-done g c = λ zero. all_as _ _ _ _ (load_done _ _ c.args.mode c.in-Load.load _ _ c.in-Load.is refl) (c.run_load.ensures.done zero)

pub returns-in-Load-clause-words : goal.returns-in-Load-clause-words
returns-in-Load-clause-words g c = λ two. all_as _ _ _ _ (load_refused (map g.P.Balancer.seen c.args.policies.items) c.args.mode c.in-Load.load (g.S.Source.left c.args.script.now) (g.S.Source.left c.args.script.now) c.in-Load.is refl) (c.run_load.ensures.refused two)

pub returns-in-Load-clause-writing : goal.returns-in-Load-clause-writing
returns-in-Load-clause-writing g c = λ five. (
  (c.run_load.ensures.writing five).0,
  prefix_as _ _ _ _ (load_output _ _ c.args.mode c.in-Load.load _ _ c.in-Load.is refl) (c.run_load.ensures.writing five).1,
)

pub returns-in-Load-clause-memory : goal.returns-in-Load-clause-memory
returns-in-Load-clause-memory g c = λ six.
    some_as _ _ _ _ (load_output _ _ c.args.mode c.in-Load.load _ _ c.in-Load.is refl) (c.run_load.ensures.memory six)

pub returns-in-Load-clause-full : goal.returns-in-Load-clause-full
returns-in-Load-clause-full g c = λ seven. all_as _ _ _ _ (load_full _ _ c.args.mode c.in-Load.load _ _ c.in-Load.is refl) (c.run_load.ensures.full seven)

pub returns-in-Live-clause-done : goal.returns-in-Live-clause-done
returns-in-Live-clause-done g c = λ zero. all_as _ _ _ _ (live_done _ _ c.args.mode c.in-Live.settings _ _ c.in-Live.is) (c.run_as_promised.ensures.done zero)

pub returns-in-Live-clause-full : goal.returns-in-Live-clause-full
returns-in-Live-clause-full g c = λ seven. all_as _ _ _ _ (live_full _ _ c.args.mode c.in-Live.settings _ _ c.in-Live.is) (c.run_as_promised.ensures.full seven)

pub returns-in-Live-clause-writing : goal.returns-in-Live-clause-writing
returns-in-Live-clause-writing g c = λ five. (
  (c.run_as_promised.ensures.writing five).0,
  prefix_as _ _ _ _ (live_output _ _ c.args.mode c.in-Live.settings _ _ c.in-Live.is) (c.run_as_promised.ensures.writing five).1,
)

pub returns-in-Live-clause-memory : goal.returns-in-Live-clause-memory
returns-in-Live-clause-memory g c = λ six.
    some_as _ _ _ _ (live_output _ _ c.args.mode c.in-Live.settings _ _ c.in-Live.is) (c.run_as_promised.ensures.memory six)

pub returns-in-Relay-clause-done : goal.returns-in-Relay-clause-done
returns-in-Relay-clause-done g c = λ zero. all_as _ _ _ _ (relay_done _ _ c.args.mode c.in-Relay.settings _ _ c.in-Relay.is) (c.relay_as_promised.ensures.done zero)

pub returns-in-Relay-clause-full : goal.returns-in-Relay-clause-full
returns-in-Relay-clause-full g c = λ seven. all_as _ _ _ _ (relay_full _ _ c.args.mode c.in-Relay.settings _ _ c.in-Relay.is) (c.relay_as_promised.ensures.full seven)

pub returns-in-Relay-clause-writing : goal.returns-in-Relay-clause-writing
returns-in-Relay-clause-writing g c = λ five. (
  (c.relay_as_promised.ensures.writing five).0,
  prefix_as _ _ _ _ (relay_output _ _ c.args.mode c.in-Relay.settings _ _ c.in-Relay.is) (c.relay_as_promised.ensures.writing five).1,
)

pub returns-in-Relay-clause-memory : goal.returns-in-Relay-clause-memory
returns-in-Relay-clause-memory g c = λ six.
    some_as _ _ _ _ (relay_output _ _ c.args.mode c.in-Relay.settings _ _ c.in-Relay.is) (c.relay_as_promised.ensures.memory six)
