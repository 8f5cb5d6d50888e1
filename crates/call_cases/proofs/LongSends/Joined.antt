-- A message that is too long is answered, where calls end alike.
use Rattle.channel_actions.proofs.Does.{does_on}
use Rattle.channel_actions.specs.Agrees.{Agrees}
use Rattle.channel_actions.specs.Stages.{IsAnswered}
use Rattle.channel_core.specs.States.{StateSeen}
use Rattle.grpc_base.specs.declared.event.EndCause.{EndCause}
use Rattle.grpc_base.specs.declared.event.EndCause.TheVariants as ending
use Rattle.grpc_base.specs.declared.event.Reply.{Reply}
use Rattle.call_cases.proofs.LongSends.Leading.{long_sends_lead}
use Rattle.call_cases.specs.LongSends.Laws.{NoStreamIsReset, EndsAlike, LeadsToEnd, LongSendsAreAnswered}
use Rattle.session_actions.specs.declared.action.Action.TheVariants as action
use Rattle.session_actions.specs.declared.entry.OpenEntry.{OpenEntry}
use Rattle.session_actions.specs.declared.seen.Seen.{Seen}
use Rattle.std.proofs.Common.{[], subst, sym, ℕ, ◌∙◌, ◌∷◌}

module _ (number : ℕ) (why : EndCause) (x y : StateSeen) (r : Reply) (o : OpenEntry) (s : Seen) (h : LeadsToEnd number why x y r o s) (e : EndsAlike number why x h.entry h.seen) where
  pub joined : IsAnswered y r o s
  joined = record {
    reaches = record {
      actions = action.EventAnswered r ∷ (action.CallEnds number why ∷ e.actions);
      seen = e.seen;
      entry = h.entry;
      does = does_on (action.EventAnswered r ∷ []) (action.CallEnds number why ∷ e.actions) s h.seen e.seen h.does e.does;
      posts = e.posts;
      same = record { moment = h.same.moment; word = h.same.word; event = h.same.event; entries = e.entries ∙ h.same.entries; setup = e.setup ∙ h.same.setup };
      at = record { current = e.current; stage_is = h.stage_is; quiescent = e.quiescent };
      agrees = subst (λ (z : StateSeen). Agrees z e.seen) (sym h.ends) e.agrees;
    };
    reply = h.reply;
    fresh = h.fresh;
    none = h.frameless e.seen;
  }

pub long_sends_are_answered : LongSendsAreAnswered
long_sends_are_answered alike x y r o s h at fresh timely case answers =
    let led : LeadsToEnd case.send.call ending.Request x y r o s = long_sends_lead x y r o s h at fresh timely case.send answers in
    joined case.send.call ending.Request x y r o s led
    (alike case.send.call ending.Request x led.entry led.seen (subst NoStreamIsReset (sym led.only) case.unreset) led.led)
