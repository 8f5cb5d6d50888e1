use Rattle.std.proofs.Common.{rules, ◌∙◌, ap, refl, subst}
use Rattle.shared_channel.specs.Running.{IsRunning}
use Rattle.shared_channel.specs.Turns.{Looks}
use Rattle.shared_channel.proofs.PostLaws.{looks_at, root_of}
use Rattle.shared_channel.proofs.channel.SharedChannel.inspect.Goals as goal

pub returns : goal.returns
returns g c =
    let turn = c.turn.ensures.turn in
    let root = root_of (λ s. s.watched.core) _ _ _ _ c.args.seat.now _ _ refl turn ∙ ap (λ l. l.origin) c.requires.lock in
    let looks : Looks (λ core. IsRunning c.args.self.now.origin core × g.R.Reading.reads c.args.reading.now core c.turn.result c.turn.new.job.reading.now) c.args.seat.now c.turn.new.seat =
    looks_at (λ s. s.watched.core) _ _ _ _ _ _ _ _ refl c.turn.ensures.found turn
    (ap (λ s. s.watched.core) turn.ran.0, (subst (λ a. IsRunning a turn.start.watched.core) root turn.ran.1, turn.ran.2)) in
    record {
      read = record {
        core = looks.core;
        reported = search rules;
        sees = looks.sees;
        seen = looks.seen;
        own = looks.own;
        lock = looks.lock;
        parts = looks.parts;
        found = looks.found;
      };
    }
