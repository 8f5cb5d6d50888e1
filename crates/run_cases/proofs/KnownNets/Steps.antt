-- Take-overs and wishes, of a session that began new: its links are joined to subchannels and attempts, and are their subchannels' own.
use Rattle.channel_actions.proofs.Links.Prefaced.Along.{prefaced_along, prefaced_begins, links_are_joined}
use Rattle.channel_actions.proofs.Calls.Kept.Along.{early_begins}
use Rattle.channel_actions.proofs.KeptSessions.Along.{kept_begins}
use Rattle.channel_actions.specs.FewCalls.Reached.{IsReached}
use Rattle.channel_actions.specs.PrefacedLinks.Joined.{PrefacedLinksAreJoined}
use Rattle.channel_actions.specs.OwnLinks.Laws.{OwnAlong, OwnBegins}
use Rattle.channel_actions.specs.TheirLinks.Laws.{TheirsAlong, TheirsBegin}
use Rattle.channel_actions.specs.TheirLinks.Theirs.{LinksAreTheirs}
use Rattle.run_cases.specs.KnownStages.Laws.{PicksAreThere}
use Rattle.event_cases.specs.LeftLinks.Laws.{LeftLinksAreStamped}
use Rattle.call_cases.specs.SettlingActions.Steps.{NetSteps}
use Rattle.event_cases.specs.TakeOvers.Laws.{NetsAreSettled}
use Rattle.session_actions.specs.Sessions.{new_session}
use Rattle.session_actions.specs.declared.seen.Seen.{Seen}

joined : OwnBegins → OwnAlong → (s : Seen) → IsReached s → PrefacedLinksAreJoined s
joined begins along s r =
    links_are_joined s (along r.actions (new_session r.setup) s (kept_begins r.setup) (begins r.setup) r.does)
    (prefaced_along r.actions (new_session r.setup) s (kept_begins r.setup) (prefaced_begins r.setup) r.does)

theirs : TheirsBegin → TheirsAlong → (s : Seen) → IsReached s → LinksAreTheirs s
theirs begins along s r =
    along r.actions (new_session r.setup) s (kept_begins r.setup) (early_begins r.setup) (prefaced_begins r.setup) (begins r.setup) r.does

pub net_steps : OwnBegins → OwnAlong → TheirsBegin → TheirsAlong → PicksAreThere → LeftLinksAreStamped → NetsAreSettled → NetSteps
net_steps own own_along their their_along picks left settles x o s h sound at point =
    let r = sound.reached in
    let l = settles left x o s h (joined own own_along s r) (theirs their their_along s r) (picks r.setup r.actions s r.does) at (record { turn = point.turn; clock = point.clock }) in
    record { reaches = l.reaches; reply = l.reply; point = record { turn = l.point.turn; clock = l.point.clock; take_over = l.point.take_over; connected = l.point.connected } }
