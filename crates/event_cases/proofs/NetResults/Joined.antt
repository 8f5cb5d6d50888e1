-- Each step of the net is a chain of the session's next actions.
use Rattle.std.proofs.Common.{◌≡◌, ◌≤◌, ◌∷◌, ap, refl, subst, sym, ◌∙◌, false, List, [], None, Option, Some, ℕ, length}
use Rattle.std.specs.Option.{option_map_or}
use Rattle.std.specs.Prelude.{option_and_then}
use Rattle.channel_actions.proofs.BoardActions.Boards.{one_boarded}
use Rattle.channel_actions.proofs.BoardActions.Quiescent.{of_order}
use Rattle.channel_actions.specs.BoardActions.Boards.{IsBoarded}
use Rattle.channel_actions.proofs.Does.{none_on}
use Rattle.channel_actions.proofs.Settles.{follows_by}
use Rattle.channel_actions.specs.Quiescent as channel
use Rattle.channel_net.specs.Steps.{NetSeen, left, net_resolved, net_shut, net_taken_over}
use Rattle.net_actions.specs.Runs.{Becomes, IsOrderly, ShutsAll, TakesOver, TakesResult}
use Rattle.net_actions.specs.Sees.{Sees}
use Rattle.attempt_cases.specs.NetChains.Chains.{IsApartQuiescent, IsPickThere}
use Rattle.attempt_cases.specs.NetChains.Laws.{ChainsAreNext}
use Rattle.event_cases.specs.NetResults.Laws.{ResultsAreNext, ShutdownsAreNext, TakeOversAreNext}
use Rattle.event_cases.specs.NetResults.Next.{LeadsTo}
use Rattle.session_actions.specs.Actions.{after, after_if, config_action, first_action, following, following_in, of_calls, of_links, of_policies, of_stage}
use Rattle.session_actions.specs.Making.{next_due_attempt}
use Rattle.session_actions.specs.Policies.{current_policy, next_of_pass, next_of_queue, next_take_over, policy_retired, policy_took_over, result_of}
use Rattle.session_actions.specs.Sessions.{Does}
use Rattle.session_actions.specs.Subchannels.{next_connected, next_of_clock}
use Rattle.session_actions.specs.Words.{first_of, last_of}
use Rattle.session_actions.specs.declared.action.Action.{Action}
use Rattle.session_actions.specs.declared.action.Action.TheVariants as action
use Rattle.session_actions.specs.declared.entry.OpenEntry.{OpenEntry}
use Rattle.session_actions.specs.declared.entry.Stage.TheVariants as stage
use Rattle.session_actions.specs.declared.policy.PolicyUse.{PolicyUse}
use Rattle.session_actions.specs.declared.seen.Seen.{Seen}
use Rattle.session_actions.specs.declared.subchannel.Subchannel.{Subchannel}
use Rattle.session_order.specs.Quiescent.{IsQuiescent}
use Rattle.session_order.specs.Laws.{QuiescenceIsExact, PoliciesStirApart}

joined : ChainsAreNext → (o : OpenEntry) (s : Seen) (n : NetSeen) → Becomes o s n → s.current ≡ Some o → IsApartQuiescent o s → IsPickThere s → LeadsTo o s n
joined chains o s n b current quiescent picks = record {
  actions = b.runs.actions;
  seen = b.end;
  chained = chains b.runs.actions o s b.end b.runs.does current quiescent picks;
  sees = b.sees;
}

pub results_are_next : ChainsAreNext → TakesResult → ResultsAreNext
results_are_next chains takes o s n k addresses h calls shut wanted result list has current quiescent picks =
    joined chains o s (net_resolved k addresses n) (takes o s n k addresses h calls shut wanted result list has) current quiescent picks

pub shutdowns_are_next : ChainsAreNext → ShutsAll → ShutdownsAreNext
shutdowns_are_next chains shuts o s n h shut ended none current quiescent picks =
    joined chains o s (net_shut n).net (shuts o s n h shut ended none) current quiescent picks

-- a take-over itself
pub over_current : (g : ℕ) (s : Seen) (o : Option PolicyUse) → (option_map_or (λ (c : PolicyUse). policy_retired c.number s) o s).current ≡ s.current
over_current g s None = refl
over_current g s (Some c) = refl

pub over_subs : (g : ℕ) (s : Seen) (o : Option PolicyUse) → (option_map_or (λ (c : PolicyUse). policy_retired c.number s) o s).subs ≡ s.subs
over_subs g s None = refl
over_subs g s (Some c) = refl

module _ (exact : QuiescenceIsExact) (apart : PoliciesStirApart) (chains : ChainsAreNext) (takes : TakesOver) (o : OpenEntry) (s : Seen) (n : NetSeen) (number : ℕ) (gone : List ℕ) where
  abbrev a : Action
  a = action.PolicyTakesOver number

  abbrev u : Seen
  u = policy_took_over number s

  pub next : s.current ≡ Some o → o.stage ≡ stage.Settling → channel.IsQuiescent o s → next_of_clock s ≡ None → next_take_over s ≡ Some a → following s ≡ Some a
  next current at quiescent clock over =
      ap (option_and_then (following_in s)) current
      ∙ follows_by (of_calls o s) (of_links o s) (of_policies o s) (of_stage o s o.stage) a quiescent.calls quiescent.links quiescent.policies
      (ap (of_stage o s) at
      ∙ ap (λ (d : Option Action). first_action (d ∷ next_take_over s ∷ next_connected s ∷ first_of (config_action s) s.calls ∷ next_of_pass o s ∷ next_due_attempt s ∷ next_of_queue s ∷ Some action.EntryCloses ∷ [])) clock
      ∙ ap (λ (d : Option Action). first_action (d ∷ next_connected s ∷ first_of (config_action s) s.calls ∷ next_of_pass o s ∷ next_due_attempt s ∷ next_of_queue s ∷ Some action.EntryCloses ∷ [])) over)

  pub over_next : Sees s n → IsOrderly n → s.shut ≡ false → result_of o ≡ None → s.current ≡ Some o → o.stage ≡ stage.Settling → IsQuiescent o s → next_of_clock s ≡ None
      → next_take_over s ≡ Some a → IsPickThere s → LeadsTo o s (net_taken_over (left n gone)).net
  over_next h orderly shut none current at quiescent clock over picks =
      let does : after a s ≡ u = ap (λ (c : Option OpenEntry). after_if c a s) current in
      let on : u.current ≡ Some o = over_current number s (current_policy s) ∙ current in
      let boarded : IsBoarded s u = subst (IsBoarded s) does (one_boarded s a refl) in
      let same : last_of u.asks ≡ last_of s.asks = ap (λ (v : Seen). last_of v.asks) boarded in
      let subs : u.subs ≡ s.subs = over_subs number s (current_policy s) in
      let there : IsPickThere u
      = λ ask sub is answer. subst (λ (bs : List Subchannel). sub ≤ length bs) (sym subs) (picks ask sub (sym same ∙ is) answer) in
      let rest : LeadsTo o u (net_taken_over (left n gone)).net
      = joined chains o u (net_taken_over (left n gone)).net (takes o s n number gone h orderly shut none over) on (λ l e. apart.over number o s current l o on e (quiescent l)) there in
      record {
        actions = a ∷ rest.actions;
        seen = rest.seen;
        chained = record {
          does = (next current at (of_order exact o s quiescent) clock over, subst (λ (v : Seen). Does rest.actions v rest.seen) (sym does) rest.chained.does);
          board = (refl, rest.chained.board);
          posts = none_on (a ∷ []) rest.actions refl rest.chained.posts;
          current = rest.chained.current;
          quiescent = rest.chained.quiescent;
        };
        sees = rest.sees;
      }

pub take_overs_are_next : QuiescenceIsExact → PoliciesStirApart → ChainsAreNext → TakesOver → TakeOversAreNext
take_overs_are_next exact apart chains takes o s n number gone h orderly shut none current at quiescent clock over picks =
    over_next exact apart chains takes o s n number gone h orderly shut none current at quiescent clock over picks
