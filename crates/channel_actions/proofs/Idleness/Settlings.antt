-- A settling in which nothing is due: the channel stays as it is, and the entry closes.
use Rattle.std.proofs.Common.{◌≡◌, ◌∷◌, ap, refl, subst, sym, ◌∙◌, [], Option, None, Some}
use Rattle.std.specs.Prelude.{option_and_then}
use Rattle.channel_actions.proofs.Idleness.Calls.{unconfigured_idle, rounds_idle}
use Rattle.channel_actions.proofs.Idleness.Nets.{clocked_idle, net_settled_idle}
use Rattle.channel_actions.proofs.Settles.{follows_by}
use Rattle.channel_actions.specs.Agrees.{Agrees}
use Rattle.channel_actions.specs.Quiescent.{IsAt}
use Rattle.channel_actions.specs.Cases.{IsIdle}
use Rattle.channel_actions.specs.Stages.{IsSettled, SettlingsOf}
use Rattle.channel_core.specs.Settling.{most, rounds, settled}
use Rattle.channel_core.specs.States.{StateSeen}
use Rattle.channel_core.specs.Steps.{unconfigured_served, net_settled}
use Rattle.net_actions.specs.Laws.{ClockChanges, StatesAreSame, TakeOversAreSame, WishesConnect}
use Rattle.session_actions.specs.Actions.{config_action, first_action, following, following_in, of_calls, of_links, of_policies, of_stage}
use Rattle.session_actions.specs.Making.{next_due_attempt}
use Rattle.session_actions.specs.Policies.{is_after, next_asked, next_of_pass, next_of_queue, next_take_over}
use Rattle.session_actions.specs.Subchannels.{next_connected, next_of_clock}
use Rattle.session_actions.specs.Words.{first_of}
use Rattle.session_actions.specs.declared.action.Action.{Action}
use Rattle.session_actions.specs.declared.action.Action.TheVariants as action
use Rattle.session_actions.specs.declared.entry.OpenEntry.{OpenEntry}
use Rattle.session_actions.specs.declared.entry.Stage.TheVariants as stage
use Rattle.session_actions.specs.declared.entry.Turn.{Turn}
use Rattle.session_actions.specs.declared.seen.Seen.{Seen}

last_by : (a b c d e f g : Option Action) (z : Action) → a ≡ None → b ≡ None → c ≡ None → d ≡ None → e ≡ None → f ≡ None → g ≡ None
    → first_action (a ∷ b ∷ c ∷ d ∷ e ∷ f ∷ g ∷ Some z ∷ []) ≡ Some z
last_by a b c d e f g z p q r s t u v =
    ap (λ (w : Option Action). first_action (w ∷ b ∷ c ∷ d ∷ e ∷ f ∷ g ∷ Some z ∷ [])) p
    ∙ ap (λ (w : Option Action). first_action (w ∷ c ∷ d ∷ e ∷ f ∷ g ∷ Some z ∷ [])) q
    ∙ ap (λ (w : Option Action). first_action (w ∷ d ∷ e ∷ f ∷ g ∷ Some z ∷ [])) r ∙ ap (λ (w : Option Action). first_action (w ∷ e ∷ f ∷ g ∷ Some z ∷ [])) s
    ∙ ap (λ (w : Option Action). first_action (w ∷ f ∷ g ∷ Some z ∷ [])) t ∙ ap (λ (w : Option Action). first_action (w ∷ g ∷ Some z ∷ [])) u
    ∙ ap (λ (w : Option Action). first_action (w ∷ Some z ∷ [])) v

module _ (clocks : ClockChanges) (overs : TakeOversAreSame) (wishes : WishesConnect) (states : StatesAreSame)
    (x : StateSeen) (o : OpenEntry) (s : Seen) (h : Agrees x s) (at : IsAt stage.Settling o s) (fresh : o.turn ≡ None) (idle : IsIdle x s) where
  no_pass : next_of_pass o s ≡ None
  no_pass = ap (option_and_then (λ (t : Turn). next_asked (is_after t) s)) fresh

  stage_gives : of_stage o s o.stage ≡ Some action.EntryCloses
  stage_gives =
      ap (of_stage o s) at.stage_is
      ∙ last_by (next_of_clock s) (next_take_over s) (next_connected s) (first_of (config_action s) s.calls) (next_of_pass o s) (next_due_attempt s) (next_of_queue s)
      action.EntryCloses idle.clock idle.take_over idle.connected idle.configs no_pass idle.due idle.queue

  closes : following s ≡ Some action.EntryCloses
  closes =
      ap (option_and_then (following_in s)) at.current
      ∙ follows_by (of_calls o s) (of_links o s) (of_policies o s) (of_stage o s o.stage) action.EntryCloses at.quiescent.calls at.quiescent.links at.quiescent.policies stage_gives

  stays : settled x ≡ x
  stays =
      ap (λ (z : StateSeen). rounds most (unconfigured_served (net_settled z))) (clocked_idle clocks overs wishes x s h idle)
      ∙ ap (λ (z : StateSeen). rounds most (unconfigured_served z)) (net_settled_idle clocks overs wishes x s h idle)
      ∙ ap (rounds most) (unconfigured_idle x s h idle) ∙ rounds_idle x s h idle states

  pub idle_settles : IsSettled x o s
  idle_settles = record {
    reaches = record {
      actions = [];
      seen = s;
      entry = o;
      does = refl;
      posts = refl;
      same = record { moment = refl; word = refl; event = refl; entries = refl; setup = refl };
      at = at;
      agrees = subst (λ (z : StateSeen). Agrees z s) (sym stays) h;
    };
    reply = refl;
    closes = closes;
  }

pub idle_settlings : ClockChanges → TakeOversAreSame → WishesConnect → StatesAreSame → SettlingsOf IsIdle
idle_settlings clocks overs wishes states x o s h at fresh idle = idle_settles clocks overs wishes states x o s h at fresh idle
