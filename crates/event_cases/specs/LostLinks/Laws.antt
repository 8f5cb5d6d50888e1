-- A link that the environment loses: its subchannel goes down, each attempt on it ends by the loss, the lowest place first, each with what follows from its end and
-- the resets that this brings, before the next one ends (RFC 9113, section 5.4.1; gRPC over HTTP/2, "Connection failure"; "gRPC Connectivity Semantics and API").
-- Example: link 1 is lost, with attempt 1 of call 1, which has stream 1, and attempt 3 of call 2, which waits for a stream. Call 1 is hedged; its attempt 2 is on
-- stream 1 of link 2. LinkLost 1; LinkDown of its subchannel; AttemptEnds 1, with UNAVAILABLE, which hedgingPolicy does not name: CallCommitted 1, AttemptEnds 2, cut,
-- CallEnds 1, and StreamReset 2. Then AttemptEnds 3, which was never sent, and its transparent retry is made.
-- The laws, in the order of this file: the attempts end one after the other; so the event is answered.
use Rattle.std.specs.Prelude.{length, ◌<◌}
use Rattle.channel_actions.specs.Stages.{EventsAnswered}
use Rattle.end_cases.specs.AttemptEnds.Laws.{OneAttemptEnds}
use Rattle.event_cases.specs.LostLinks.Losses.{HasLost, IsLostLink, LossGoesOn}
use Rattle.channel_core.specs.States.{StateSeen}
use Rattle.session_actions.specs.declared.entry.OpenEntry.{OpenEntry}
use Rattle.session_actions.specs.declared.link.Link.{Link}
use Rattle.session_actions.specs.declared.seen.Seen.{Seen}

abbrev pub LossesEndInTurn : Type 0
LossesEndInTurn =
    OneAttemptEnds
    → (l : Link) (x : StateSeen) (o : OpenEntry) (s : Seen) → LossGoesOn l x o s → length s.attempts < 18446744073709551615 → HasLost l.number x o s

abbrev pub LostLinksAreAnswered : Type 0
LostLinksAreAnswered = OneAttemptEnds → EventsAnswered IsLostLink
