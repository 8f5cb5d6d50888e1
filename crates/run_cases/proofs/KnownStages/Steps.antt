-- Clock and wishes, of a session that began new: its links are joined to subchannels and attempts.
use Rattle.channel_actions.proofs.Links.Prefaced.Along.{prefaced_along, prefaced_begins, links_are_joined}
use Rattle.channel_actions.proofs.KeptSessions.Along.{kept_begins}
use Rattle.channel_actions.specs.FewCalls.Reached.{IsReached}
use Rattle.channel_actions.specs.PrefacedLinks.Joined.{PrefacedLinksAreJoined}
use Rattle.channel_actions.specs.OwnLinks.Laws.{OwnAlong, OwnBegins}
use Rattle.run_cases.specs.KnownStages.Laws.{WishSteps}
use Rattle.attempt_cases.specs.NetSettlings.Laws.{ClocksAreParts, WishesAreParts}
use Rattle.call_cases.specs.SettlingActions.Steps.{ClockSteps}
use Rattle.session_actions.specs.Sessions.{new_session}
use Rattle.session_actions.specs.declared.seen.Seen.{Seen}

joined : OwnBegins → OwnAlong → (s : Seen) → IsReached s → PrefacedLinksAreJoined s
joined begins along s r =
    links_are_joined s (along r.actions (new_session r.setup) s (kept_begins r.setup) (begins r.setup) r.does)
    (prefaced_along r.actions (new_session r.setup) s (kept_begins r.setup) (prefaced_begins r.setup) r.does)

pub clock_steps : OwnBegins → OwnAlong → ClocksAreParts → ClockSteps
clock_steps begins along clocks x o s h sound at point =
    let l = clocks x o s h (joined begins along s sound.reached) at (record { turn = point.turn }) in
    record { reaches = l.reaches; reply = l.reply; point = record { turn = l.point.turn; clock = l.point.clock } }

pub wish_steps : OwnBegins → OwnAlong → WishesAreParts → WishSteps
wish_steps begins along wishes x o s h sound at point =
    let l = wishes x o s h (joined begins along s sound.reached) at point in
    record { reaches = l.reaches; reply = l.reply; point = record { turn = l.point.turn; clock = l.point.clock; take_over = l.point.take_over; connected = l.point.connected } }
