use Rattle.std.proofs.Common.{inl, inr}
use Rattle.channel_top.proofs.OneLaws.{done_or_bad, done_or_full, full_or_bad}
use Rattle.channel_top.proofs.apart.replays_end_apart.Goals as goal

pub returns-clause-full : goal.returns-clause-full
returns-clause-full c = done_or_full c.sessions_keep_the_promise.ensures

pub returns-clause-bad : goal.returns-clause-bad
returns-clause-bad c policies input left left' text other (inl done) bad = done_or_bad policies input left left' text other done bad
returns-clause-bad c policies input left left' text other (inr full) bad = full_or_bad policies input left left' text other full bad
