use Rattle.std.proofs.Common.{◌∙◌, ap, sym}
use Rattle.grpc_base.specs.declared.event.Entry.{Entry}
use Rattle.turn_lock.specs.History.{SeatSeen}
use Rattle.live_channel.proofs.SeatLaws.{fresh_at, map_length}
use Rattle.live_channel.proofs.ShareLaws.{left_sees}
use Rattle.live_mode.proofs.LiveLaws.{left_calls, seats_length}
use Rattle.live_mode.proofs.start.run_calls.Goals as goal

pub run_sides-requires-clause-calls : goal.run_sides-requires-clause-calls
run_sides-requires-clause-calls g c κs within = fresh_at _ _ _ (ap (λ (s : SeatSeen Entry). s.lock) c.handle.ensures.seat ∙ c.in_ok-jobs.ensures.splits.lock) c.in_ok-jobs.ensures.splits.fresh

pub run_sides-requires-clause-links : goal.run_sides-requires-clause-links
run_sides-requires-clause-links g c κs within = fresh_at _ _ _ (ap (λ (s : SeatSeen Entry). s.lock) c.handle.ensures.seat ∙ c.in_ok-jobs.ensures.splits.lock ∙ c.requires.started.lock_is) c.requires.started.fresh

pub returns-clause-left : goal.returns-clause-left
returns-clause-left g c = λ held reported given. left_calls (λ h. h.seat) g.N.Dialer.coming _ held reported _ _ _ _ _ _ c.args.seat c.call_jobs.new.seat _ c.requires.started given c.in_ok-jobs.ensures.splits c.handle.ensures.seat c.in_ok-jobs.ensures.lines
    (sym (map_length (λ j. j.post.seat) c.in_ok-jobs.jobs.items)) (seats_length c.args.links.items (λ h. h.seat)) c.in_ok-left.ensures

pub returns-clause-sees : goal.returns-clause-sees
returns-clause-sees g c =
    left_sees _ _ _ c.args.seat c.call_jobs.new.seat c.handle.result.seat _ _ c.in_ok-jobs.ensures.splits c.handle.ensures.seat c.in_ok-left.ensures.leaves
