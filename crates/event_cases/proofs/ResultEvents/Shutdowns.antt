-- A channel that was shut down is shut down.
use Rattle.std.proofs.Common.{◌≡◌, ◌∷◌, ap, refl, subst, sym, ◌∙◌, Bool, [], None, Option, ℕ, if◌then◌else◌}
use Rattle.channel_actions.proofs.Answering.{IsPlain, answered_plainly, plain_frame, plain_quiet, replied_entry}
use Rattle.channel_actions.proofs.Settles.{with_open}
use Rattle.channel_actions.specs.Stages.{IsAnswered}
use Rattle.channel_core.specs.Applying.{AnswersBy, refusal_of, shut_off}
use Rattle.channel_core.specs.States.{StateSeen}
use Rattle.grpc_base.specs.declared.event.Event.{Event}
use Rattle.grpc_base.specs.declared.event.Event.TheVariants as event
use Rattle.grpc_base.specs.declared.event.Reply.{Reply}
use Rattle.grpc_base.specs.declared.event.Reply.TheVariants as reply
use Rattle.event_cases.specs.ResultEvents.Laws.{SecondShutdownsAreAnswered}
use Rattle.session_actions.specs.Actions.{after_if}
use Rattle.session_actions.specs.Entries.{replied}
use Rattle.session_actions.specs.Events.{event_action}
use Rattle.session_actions.specs.declared.action.Action.TheVariants as action
use Rattle.session_actions.specs.declared.entry.OpenEntry.{OpenEntry}

is_plain : IsPlain event.Shutdown
is_plain = record { cancels_none = λ n. refl; sends_none = λ c z. refl; no_result = refl; no_frame = λ o s. refl }

pub second_shutdowns : SecondShutdownsAreAnswered
second_shutdowns x y r o s h at fresh timely case answers =
    let given : AnswersBy None event.Shutdown x y r = subst (λ (e : Event). AnswersBy (refusal_of e x) e x y r) case.event_is answers in
    let same : y ≡ x = given.0 ∙ ap (λ (b : Bool). if b then x else shut_off x) case.shut in
    let one : IsAnswered x reply.Done o s
    = answered_plainly x reply.Done o s h at fresh timely action.ChannelShuts (ap (λ (e : Event). event_action e s) case.event_is) (λ e. e) refl
    (ap (λ (c : Option OpenEntry). after_if c action.ChannelShuts s) at.current
    ∙ ap (λ (b : Bool). replied reply.Done (record s { shut = b })) (sym (h.configs.shut ∙ case.shut)))
    (plain_quiet reply.Done o event.Shutdown case.event_is is_plain)
    (plain_frame reply.Done o (with_open (replied_entry reply.Done o) s) event.Shutdown case.event_is is_plain) in
    subst (λ (z : StateSeen). IsAnswered z r o s) (sym same) (subst (λ (z : Reply). IsAnswered x z o s) (sym given.1) one)
