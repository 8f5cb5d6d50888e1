-- A drain is answered where channel and session keep what they do keep: that its event is answered changes nothing of it.
use Rattle.attempt_cases.proofs.DrainEvents.Drains.{answered_by}
use Rattle.event_cases.proofs.DrainedCalls.Calls.{calls_agree_by}
use Rattle.channel_actions.proofs.Links.Prefaced.Along.{prefaced_stays}
use Rattle.event_cases.proofs.HeldCalls.Held.{known_calls_are_held}
use Rattle.channel_actions.proofs.Streams.Own.Along.{streams_stay}
use Rattle.event_cases.specs.HeldCalls.Laws.{KnownDrainsAreAnswered}
use Rattle.channel_core.specs.Applying.{AnswersBy}
use Rattle.channel_core.specs.Draining.{DrainLeaves, drained_limit}
use Rattle.grpc_base.specs.declared.event.Event.{Event}
use Rattle.grpc_base.specs.declared.event.Refusal.{Refusal}
use Rattle.grpc_base.specs.declared.event.Reply.TheVariants as reply
use Rattle.session_actions.specs.Actions.{after}
use Rattle.session_actions.specs.declared.action.Action.TheVariants as action
use Rattle.session_actions.specs.declared.action.Action.{Action}
use Rattle.std.proofs.Common.{None, Option, [], min, subst}

pub known_drains_are_answered : KnownDrainsAreAnswered
known_drains_are_answered x y r o s h at fresh timely case answers =
    let drain = case.drain in
    let given : DrainLeaves drain.link (min drain.room drained_limit) x r y
    = subst (λ (e : Event). AnswersBy None e x y r) drain.event_is (subst (λ (z : Option Refusal). AnswersBy z o.event x y r) drain.kept answers) in
    let act : Action = action.EventAnswered (reply.Octets []) in
    answered_by x y r o s h at fresh timely drain.link drain.room drain.event_is drain.kept drain.near given
    (λ slot there. drain.few y r slot (subst (λ (z : Option Refusal). AnswersBy z o.event x y r) drain.kept answers) there)
    (λ t agrees next run over columns.
    calls_agree_by x y (after act s) t drain.link (min drain.room drained_limit) r agrees given run
    (known_calls_are_held x y (after act s) t drain.link (min drain.room drained_limit) r agrees case.known.buffers (prefaced_stays s act h.kept case.known.prefaced next)
    (streams_stay s act h.kept case.known.prefaced case.known.streams next) given run over)
    columns)
