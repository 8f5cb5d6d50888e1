-- What is due of the net hangs on the net and the moment alone: where they are the same, so are the lines of clock, take-overs and wishes.
use Rattle.std.proofs.Common.{◌≡◌, ◌⊎◌, inl, inr, ap, refl, sym, ◌∙◌, Option, None, Some, ℕ, if◌then◌else◌}
use Rattle.std.specs.Option.{option_map}
use Rattle.channel_actions.specs.Agrees.{Agrees}
use Rattle.channel_core.specs.States.{StateSeen}
use Rattle.channel_net.specs.Steps.{NetSeen, first_wished}
use Rattle.net_actions.specs.Laws.{ClockChanges, ClockRests, EndsBackoff, NoneConnects, TakeOversAreSame, TimesOut, WishesConnect}
use Rattle.policy_rack.specs.Steps.{may_take_over}
use Rattle.policy_rack.specs.declared.live.Live.{Live}
use Rattle.session_actions.specs.Entries.{now}
use Rattle.session_actions.specs.Policies.{next_take_over}
use Rattle.session_actions.specs.Subchannels.{next_connected, next_of_clock}
use Rattle.session_actions.specs.declared.action.Action.{Action}
use Rattle.session_actions.specs.declared.action.Action.TheVariants as action
use Rattle.session_actions.specs.declared.seen.Seen.{Seen}
use Rattle.subchannel.specs.Boards.{first_number}
use Rattle.subchannel.specs.Records.{is_due}

some_not_none : {X : Type 0} (o : Option X) (x : X) → o ≡ Some x → o ≡ None → ⊥
some_not_none o x e f = absurd (cc)

module _ (clocks : ClockChanges) (rests : ClockRests) (overs : TakeOversAreSame) (wishes : WishesConnect) (nones : NoneConnects) where
  module _ (x : StateSeen) (s : Seen) (h : Agrees x s) where
    no_time : next_of_clock s ≡ None → (sub : ℕ) → TimesOut sub s x.net ⊎ EndsBackoff sub s x.net → ⊥
    no_time none sub (inl out) = some_not_none (next_of_clock s) (action.ConnectTimesOut sub) out.0 none
    no_time none sub (inr ends) = some_not_none (next_of_clock s) (action.BackoffEnds sub) ends.0 none

    none_due_by : next_of_clock s ≡ None → (o : Option ℕ) → first_number (is_due (now s)) x.net.board ≡ o → o ≡ None
    none_due_by none None e = refl
    none_due_by none (Some sub) e = absurd (no_time none sub (clocks sub s x.net h.net e))

    pub none_due : next_of_clock s ≡ None → first_number (is_due (now s)) x.net.board ≡ None
    none_due none = none_due_by none (first_number (is_due (now s)) x.net.board) refl

    none_wished_by : next_connected s ≡ None → (o : Option ℕ) → first_wished x.net ≡ o → o ≡ None
    none_wished_by none None e = refl
    none_wished_by none (Some sub) e =
        absurd (some_not_none (next_connected s) (action.SubchannelConnects sub) (wishes sub s x.net h.net e).0 none)

    pub none_wished : next_connected s ≡ None → first_wished x.net ≡ None
    none_wished none = none_wished_by none (first_wished x.net) refl

  module _ (x y : StateSeen) (s t : Seen) (h : Agrees x s) (k : Agrees y t) (net : y.net ≡ x.net) where
    pub clock_stays : y.book.moment ≡ x.book.moment → next_of_clock s ≡ None → next_of_clock t ≡ None
    clock_stays moment none =
        rests t y.net k.net
        (ap (λ (n : NetSeen). first_number (is_due (now t)) n.board) net
        ∙ ap (λ (m : ℕ). first_number (is_due m) x.net.board) (k.clock.moment ∙ moment ∙ sym h.clock.moment) ∙ none_due x s h none)

    abbrev over_by : NetSeen → Option Action
    over_by n = if may_take_over n.asker.rack then option_map (λ (l : Live). action.PolicyTakesOver l.generation) n.asker.rack.pending else None

    pub over_stays : next_take_over s ≡ None → next_take_over t ≡ None
    over_stays none = overs t y.net k.net ∙ ap over_by net ∙ sym (overs s x.net h.net) ∙ none

    pub wish_stays : next_connected s ≡ None → next_connected t ≡ None
    wish_stays none = nones t y.net k.net (ap first_wished net ∙ none_wished x s h none)
