use Rattle.live_channel.proofs.KeepLaws.{kept}
use Rattle.live_channel.proofs.linkers.keep_links.Goals as goal

pub returns-clause-kept : goal.returns-clause-kept
returns-clause-kept g c = λ lock fresh. kept (λ h. h.seat) (λ h. h.tally.errors) (λ h. h.tally.last_error) (λ h. h.tally.last_look) _ lock _ _ c.work_links_of.ensures.count c.work_links_of.ensures.each fresh
