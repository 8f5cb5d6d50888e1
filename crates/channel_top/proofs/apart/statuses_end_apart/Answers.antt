use Rattle.std.proofs.Common.{inl, inr}
use Rattle.channel_top.proofs.StatusLaws.{done_or_full, done_or_refused, done_or_reported, full_or_refused, full_or_reported, reported_or_refused}
use Rattle.channel_top.proofs.apart.statuses_end_apart.Goals as goal

pub returns-clause-done : goal.returns-clause-done
returns-clause-done c policies others held also m left left' more more' text done (inl reported) = done_or_reported policies others held m left left' more more' text done reported
returns-clause-done c policies others held also m left left' more more' text done (inr (inl refused)) = done_or_refused policies others held m left left' more more' text done refused
returns-clause-done c policies others held also m left left' more more' text done (inr (inr full)) = done_or_full policies others held also m left left' more more' text done full

pub returns-clause-full : goal.returns-clause-full
returns-clause-full c policies others held m left left' more more' text full (inl reported) = full_or_reported policies others held m left left' more more' text full reported
returns-clause-full c policies others held m left left' more more' text full (inr refused) = full_or_refused policies others held m left left' more more' text full refused

pub returns-clause-reported : goal.returns-clause-reported
returns-clause-reported c = reported_or_refused
