-- A result of the resolver after which a config is held is answered alike by channel and session: the config is read, the policy of its kind gets the addresses,
-- and subchannels go and come. Attempts go on, and on no link does anything change.
-- Example: pick_first is current, with subchannel 1, and a result names round_robin, with the addresses of the subchannels 1 and 2. ConfigRead, PolicyBegins,
-- AddressesGiven, and SubchannelAdded. The channel does the same at once, and both have generation 2 pending.
use Rattle.channel_actions.specs.Stages.{EventsAnswered}
use Rattle.event_cases.specs.HeldResults.Cases.{IsHeldResult}
use Rattle.event_cases.specs.LeftLinks.Laws.{LeftLinksAreStamped}

-- (where the ledger stamps links of subchannels that are shut as the session does)
abbrev pub HeldResultsAreAnswered : Type 0
HeldResultsAreAnswered = LeftLinksAreStamped → EventsAnswered IsHeldResult
