-- A pending policy takes over in a settling, and the subchannels that only the one before had are shut: where the session then is.
use Rattle.std.proofs.Common.{◌≡◌, ◌≤◌, ◌∷◌, ◌&&◌, ◌||◌, ap, refl, subst, sym, ◌∙◌, Bool, true, false, List, [], None, Option, Some, ℕ, if◌then◌else◌, is_none, is_some, length, map, not, suc}
use Rattle.std.specs.List.{list_any}
use Rattle.std.specs.Option.{option_map, option_map_or}
use Rattle.attempt_ledger.specs.declared.ledger.Ask.{Ask}
use Rattle.attempt_ledger.specs.declared.ledger.Generation.{Generation}
use Rattle.channel_actions.proofs.BoardActions.Boards.{boards_leave_rest, one_boarded}
use Rattle.channel_actions.proofs.Does.{none_on}
use Rattle.channel_actions.proofs.KeptSessions.Along.{kept_along}
use Rattle.channel_actions.specs.Agrees.{Agrees}
use Rattle.channel_actions.specs.BoardActions.Boards.{ActionsAreOfBoard, IsBoarded}
use Rattle.channel_actions.specs.Quiescent.{IsAt}
use Rattle.channel_actions.specs.KeptSessions.Kept.{IsKept}
use Rattle.call_cases.proofs.CallPosts.Answered.{to_order}
use Rattle.event_cases.proofs.FirstShutdowns.Answered.{links_along}
use Rattle.event_cases.proofs.GenerationStamps.Along.{gens, generations_along, none_dropped}
use Rattle.event_cases.proofs.GenerationStamps.Over.{pending_by, take_overs_stamp_alike}
use Rattle.event_cases.proofs.NetResults.Joined.{next, over_current, over_subs}
use Rattle.attempt_cases.proofs.NetSteps.Clocks.{entry_goes_on}
use Rattle.attempt_cases.proofs.NetSteps.Subbed.{current_stays}
use Rattle.event_cases.proofs.TakeOvers.Kept.{clock_along}
use Rattle.event_cases.specs.GenerationStamps.Stamps.{dropped, generations_after, is_dropped, is_live_stamp, is_pending_stamp}
use Rattle.attempt_cases.specs.NetChains.Chains.{IsApartQuiescent, IsChained, IsPickThere}
use Rattle.attempt_cases.specs.NetChains.Laws.{ChainsAreNext}
use Rattle.channel_core.specs.States.{StateSeen}
use Rattle.channel_net.specs.Steps.{NetSeen, left, net_taken_over, taken_over_stamps}
use Rattle.grpc_base.specs.declared.address.Address.{Address}
use Rattle.grpc_base.specs.declared.event.Reply.{Reply}
use Rattle.grpc_base.specs.declared.kind.Kind.{Kind}
use Rattle.net_actions.proofs.Followed.{over, over_is, over_uses, taken_over_now}
use Rattle.net_actions.proofs.Noting.{found_passes}
use Rattle.net_actions.proofs.Orders.{nets_are_orderly}
use Rattle.net_actions.proofs.Quiet.{with_uses}
use Rattle.net_actions.proofs.TakeOverWhole.{takes_over}
use Rattle.net_actions.proofs.Uses.{UseAt, use_at}
use Rattle.net_actions.specs.Runs.{Becomes, DoesAll}
use Rattle.net_actions.specs.Sees.{PoliciesAreNumbered, Sees}
use Rattle.session_actions.specs.Actions.{after, after_if, following}
use Rattle.session_actions.specs.CallEnds.{is_refusal, is_replied}
use Rattle.session_actions.specs.Configs.{held_config}
use Rattle.session_actions.specs.Entries.{entry}
use Rattle.session_actions.specs.Laws.{posted_in}
use Rattle.session_actions.specs.Policies.{activated_in, addresses_in, current_policy, is_live_policy, is_other_kind, is_pending, is_to_retire, next_take_over, pending_policy, policy_retired, policy_took_over, result_of, wanted_kind, with_policy}
use Rattle.session_actions.specs.Sessions.{Does}
use Rattle.session_actions.specs.Subchannels.{next_of_clock}
use Rattle.session_actions.specs.Words.{holds, last_of, numbered}
use Rattle.session_actions.specs.declared.action.Action.TheVariants as action
use Rattle.session_actions.specs.declared.action.Action.{Action}
use Rattle.session_actions.specs.declared.config.HeldConfig.{HeldConfig}
use Rattle.session_actions.specs.declared.entry.OpenEntry.{OpenEntry}
use Rattle.session_actions.specs.declared.entry.Stage.TheVariants as stage
use Rattle.session_actions.specs.declared.entry.Stage.{Stage}
use Rattle.session_actions.specs.declared.link.Link.{Link}
use Rattle.session_actions.specs.declared.policy.PolicyUse.{PolicyUse}
use Rattle.session_actions.specs.declared.seen.Seen.{Seen}
use Rattle.session_actions.specs.declared.subchannel.Subchannel.{Subchannel}
use Rattle.session_order.proofs.Changed.{passes_not}
use Rattle.session_order.specs.Laws.{QuiescenceIsExact, PoliciesStirApart}
use Rattle.session_order.specs.declared.line.Line.TheVariants as line
use Rattle.session_order.specs.declared.line.Line.{Line}

over_links : (s : Seen) (o : Option PolicyUse) → (option_map_or (λ (c : PolicyUse). policy_retired c.number s) o s).links ≡ s.links
over_links s None = refl
over_links s (Some c) = refl

over_clock : (s : Seen) (o : Option PolicyUse) (g : ℕ) → next_of_clock s ≡ None
    → next_of_clock (with_policy (activated_in (entry s)) g (option_map_or (λ (c : PolicyUse). policy_retired c.number s) o s)) ≡ None
over_clock s None g e = e
over_clock s (Some c) g e = e

-- none is dropped where no kind is wanted
dropped_off : (l p : Bool) → (l && (false || (p && false))) ≡ false
dropped_off true true = refl
dropped_off true false = refl
dropped_off false p = refl

none_wanted : (gs : List Generation) → list_any (is_dropped false None) gs ≡ false
none_wanted [] = refl
none_wanted (g ∷ gs) = ap (λ (b : Bool). b || list_any (is_dropped false None) gs) (dropped_off (is_live_stamp g) (is_pending_stamp g)) ∙ none_wanted gs

live_of : (l a : Bool) → (l && a) ≡ true → l ≡ true
live_of true a e = refl
live_of false a e = absurd (cc)

-- in a settling no result is at work
no_result : (o : OpenEntry) → o.stage ≡ stage.Settling → result_of o ≡ None
no_result o e = ap (λ (q : Stage). if is_replied q && holds (λ (r : Reply). not (is_refusal r)) o.reply then addresses_in o.event else None) e

-- where the session is then
pub record IsOver (x : StateSeen) (o : OpenEntry) (s : Seen) : Type 0 where
  pub actions : List Action
  pub seen : Seen
  pub chained : IsChained actions o s seen
  pub sees : Sees seen (net_taken_over (left x.net [])).net
  pub policy : is_some (current_policy seen) ≡ true
  pub ages : gens seen.policies ≡ taken_over_stamps x.book.ledger.entry x.net x.book.ledger.generations
  pub links : seen.links ≡ s.links
  pub clock : next_of_clock seen ≡ None

module _ (exact : QuiescenceIsExact) (apart : PoliciesStirApart) (chains : ChainsAreNext) (x : StateSeen) (o : OpenEntry) (s : Seen) (h : Agrees x s)
    (at : IsAt stage.Settling o s) (picks : IsPickThere s) (clock : next_of_clock s ≡ None) (number : ℕ) (takes : next_take_over s ≡ Some (action.PolicyTakesOver number)) where
  abbrev a : Action
  a = action.PolicyTakesOver number

  abbrev u : Seen
  u = policy_took_over number s

  it : (p : PolicyUse) × ((pending_policy s ≡ Some p) × (p.number ≡ number))
  it = pending_by s number (pending_policy s) refl takes

  none : result_of o ≡ None
  none = no_result o at.stage_is

  -- the channel is open
  live : is_live_policy it.0 ≡ true
  live = live_of (is_live_policy it.0) (is_none it.0.generation.activated) (found_passes is_pending s.policies it.0 it.1.0)

  open_by : (b : Bool) → s.shut ≡ b → b ≡ false
  open_by false e = refl
  open_by true e =
      let there : UseAt s.policies it.0 1 = use_at s.policies is_pending 1 it.0 h.net.uses_are.numbers it.1.0 in
      let retires : is_to_retire o s it.0 ≡ true
      = ap (λ (b : Bool). is_live_policy it.0 && (b || (is_pending it.0 && holds (λ (k : Kind). is_other_kind k it.0) (wanted_kind o s)))) e
      ∙ ap (λ (b : Bool). b && true) live in
      let never : is_to_retire o s it.0 ≡ false = passes_not (is_to_retire o s) s.policies (suc there.place) it.0 (to_order o s at.quiescent line.Retire) there.own in
      let bad : true ≡ false = sym retires ∙ never in absurd (cc)

  is_open : s.shut ≡ false
  is_open = open_by s.shut refl

  b : Becomes o u (net_taken_over (left x.net [])).net
  b = takes_over o s x.net number [] h.net (nets_are_orderly x.net h.orderly) is_open none takes

  does : after a s ≡ u
  does = ap (λ (c : Option OpenEntry). after_if c a s) at.current

  on : u.current ≡ Some o
  on = over_current number s (current_policy s) ∙ at.current

  boarded : IsBoarded s u
  boarded = subst (IsBoarded s) does (one_boarded s a refl)

  there : IsPickThere u
  there ask sub is answer =
      subst (λ (bs : List Subchannel). sub ≤ length bs) (sym (over_subs number s (current_policy s)))
      (picks ask sub (sym (ap (λ (v : Seen). last_of v.asks) boarded) ∙ is) answer)

  rest : IsChained b.runs.actions o u b.end
  rest = chains b.runs.actions o u b.end b.runs.does on (λ l e. apart.over number o s at.current l o on e (to_order o s at.quiescent l)) there

  follows : following s ≡ Some a
  follows = next exact apart chains takes_over o s x.net number [] at.current at.stage_is at.quiescent clock takes

  -- the stamps of policies
  uses : u ≡ with_uses (map (over (entry s)) s.policies) s
  uses = ap (λ (k : ℕ). policy_took_over k s) (sym it.1.1) ∙ taken_over_now s it.0 h.net.uses_are it.1.0

  numbers : PoliciesAreNumbered 1 u.policies
  numbers = subst (λ (v : Seen). PoliciesAreNumbered 1 v.policies) (sym uses) (over_uses (entry s) s.policies h.net.uses_are).numbers

  shut_is : u.shut ≡ false
  shut_is = ap (λ (v : Seen). v.shut) boarded ∙ is_open

  unwanted : wanted_kind o u ≡ None
  unwanted = ap (λ (r : Option (List Address)). if is_some r then option_map (λ (g : HeldConfig). g.config.kind) (held_config u) else None) none

  -- the chain leaves them, and one is current
  stays : gens b.end.policies ≡ gens u.policies
  stays =
      generations_along b.runs.actions o u b.end numbers (λ shut. none) b.runs.does
      ∙ ap (λ (c : Bool). generations_after c (wanted_kind o u) (entry u) (gens u.policies)) shut_is
      ∙ ap (λ (k : Option Kind). generations_after false k (entry u) (gens u.policies)) unwanted
      ∙ none_dropped false None (entry u) (gens u.policies) (none_wanted (gens u.policies))

  policy : is_some (current_policy b.end) ≡ true
  policy =
      current_stays u b.end stays ∙ ap (λ (v : Seen). is_some (current_policy v)) uses
      ∙ ap (λ (c : Option PolicyUse). is_some c) (over_is (entry s) s.policies it.0 it.1.0)

  ages : gens b.end.policies ≡ taken_over_stamps x.book.ledger.entry x.net x.book.ledger.generations
  ages =
      stays
      ∙ take_overs_stamp_alike s x.net number h.net takes
      ∙ ap (λ (e : ℕ). taken_over_stamps e x.net (gens s.policies)) h.clock.entry_is
      ∙ ap (taken_over_stamps x.book.ledger.entry x.net) h.columns.generations

  clock_over : next_of_clock u ≡ None
  clock_over = over_clock s (current_policy s) number clock

  pub is_over : IsOver x o s
  is_over = record {
    actions = a ∷ b.runs.actions;
    seen = b.end;
    chained = record {
      does = (follows, subst (λ (v : Seen). Does b.runs.actions v b.end) (sym does) rest.does);
      board = (refl, rest.board);
      posts = none_on (a ∷ []) b.runs.actions refl rest.posts;
      current = rest.current;
      quiescent = rest.quiescent;
    };
    sees = b.sees;
    policy = policy;
    ages = ages;
    links = links_along b.runs.actions o u b.end b.runs.does ∙ over_links s (current_policy s);
    clock = clock_along b.runs.actions o u b.end clock_over b.runs.does;
  }
