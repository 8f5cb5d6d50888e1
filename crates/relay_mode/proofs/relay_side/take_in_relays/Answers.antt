use Rattle.std.proofs.Common.{refl, rules}
use Rattle.live_channel.proofs.OwnLaws.{popped_lock, popped_taken, taken_all}
use Rattle.relay_mode.proofs.relay_side.take_in_relays.Goals as goal

pub take_in-requires-clause-lock : goal.take_in-requires-clause-lock
take_in-requires-clause-lock g c κs within =
    popped_lock (λ h. h.seat) (λ j. j.post) c.loop-job.closer.seat.lock c.loop-job.jobs.items c.pop.new.self.items c.pop.result c.in-Some.job c.in-Some.job.post c.into_seat.result
    c.pop.ensures.items c.in-Some.is refl c.into_seat.ensures c.loop-job.invariant.ones

pub loop-job-preserved : goal.loop-job-preserved
loop-job-preserved g c =
    let both = popped_taken (λ h. h.seat) (λ j. j.post) c.args.closer.now.seat c.loop-job.closer.seat c.take_in.new.self.seat c.args.jobs.now.items c.loop-job.jobs.items c.pop.new.self.items c.pop.result c.in-Some.job c.in-Some.job.post c.into_seat.result
    c.pop.ensures.items c.in-Some.is refl c.into_seat.ensures c.take_in.ensures.joined c.take_in.ensures.sees c.take_in.ensures.other c.loop-job.invariant.ones c.loop-job.invariant.takes in
    record { ones = both.0; takes = both.1 }

pub returns : goal.returns
returns g c = taken_all (λ h. h.seat) (λ j. j.post) c.args.closer.now.seat c.loop-job.closer.seat c.args.jobs.now.items c.loop-job.jobs.items (search rules) c.loop-job.invariant.takes
