-- Where no policy may take over, a net settles by its wishes alone.
use Rattle.std.proofs.Common.{◌≡◌, ap, refl, subst, sym, ◌∙◌, Bool, true, false, List, [], None, Option, Some, ℕ, if◌then◌else◌, option_map}
use Rattle.attempt_ledger.specs.declared.ledger.Generation.{Generation}
use Rattle.channel_actions.specs.Agrees.{Agrees}
use Rattle.channel_actions.specs.Clock.{DrawsAlike}
use Rattle.channel_core.specs.States.{StateSeen}
use Rattle.channel_core.specs.Steps as channel
use Rattle.channel_core.specs.Steps.{links_left, with_generations}
use Rattle.channel_net.proofs.RoundLaws.{connect-ends}
use Rattle.channel_net.specs.Runs.{Settle}
use Rattle.channel_net.specs.Stamps.{activated_live, retired_live}
use Rattle.channel_net.specs.Steps as net
use Rattle.channel_net.specs.Steps.{NetLeft, NetSeen, connect_rounds, idle_count, left, left_of, settle_round, taken_over_stamps}
use Rattle.attempt_cases.proofs.DialEvents.Nets.{of_calls_is, one_call_more}
use Rattle.channel_actions.specs.KeptSessions.Laws.{KeptAlong}
use Rattle.channel_actions.specs.LinkFrames.Laws.{LinksStay}
use Rattle.net_actions.specs.Laws.{NoneConnects, TakeOversAreSame, WishesConnect}
use Rattle.net_actions.specs.Sees.{Sees}
use Rattle.attempt_cases.proofs.NetSettlings.Wishing.{IsDone, IsOn, connect_on, none_over}
use Rattle.attempt_cases.specs.NetSettlings.Laws.{WishesAreParts}
use Rattle.channel_actions.proofs.BoardActions.Boards.{boards_leave_rest}
use Rattle.channel_actions.proofs.BoardActions.Quiescent.{of_order, to_order}
use Rattle.attempt_cases.proofs.NetSteps.Clocks.{clock_goes_on}
use Rattle.attempt_cases.proofs.NetSteps.Stepped.{net_steps_keep}
use Rattle.attempt_cases.proofs.NetSteps.Subbed.{current_stays}
use Rattle.channel_actions.specs.BoardActions.Boards.{IsBoarded}
use Rattle.call_cases.specs.OtherCalls.Laws.{AllCallsStay, SetsStay}
use Rattle.policy_rack.specs.Steps.{live_of, may_follow, may_take_over, state_in}
use Rattle.policy_rack.specs.declared.live.Live.{Live}
use Rattle.session_actions.specs.Policies.{next_take_over}
use Rattle.session_actions.specs.declared.action.Action.TheVariants as action
use Rattle.session_actions.specs.declared.entry.OpenEntry.{OpenEntry}
use Rattle.session_actions.specs.declared.seen.Seen.{Seen}
use Rattle.session_order.specs.Laws.{BoardsStir, QuiescenceIsExact}

-- a policy takes over in neither, or in both
some_by : (p : Option Live) (may : Bool) (c : Option Live → Bool) → may ≡ c p → c None ≡ false
    → (if may then option_map (λ (l : Live). action.PolicyTakesOver l.generation) p else None) ≡ None → may ≡ false
some_by p false c e none h = refl
some_by None true c e none h = e ∙ none
some_by (Some l) true c e none h = absurd (cc)

pub may_not : TakeOversAreSame → (s : Seen) (n : NetSeen) → Sees s n → next_take_over s ≡ None → may_take_over n.asker.rack ≡ false
may_not overs s n h none =
    some_by n.asker.rack.pending (may_take_over n.asker.rack) (λ (p : Option Live). may_follow (state_in n.asker.rack n.asker.rack.current) (state_in n.asker.rack p)) refl refl
    (sym (overs s n h) ∙ none)

-- what the net becomes
module _ (n : NetSeen) (may : may_take_over n.asker.rack ≡ false) (later : may_take_over (connect_rounds (idle_count n.board) n).asker.rack ≡ false) where
  abbrev m : NetSeen
  m = connect_rounds (idle_count n.board) n

  abbrev settled_by : Bool → NetLeft
  settled_by b =
      let l : NetLeft = if b then record { net = net.net_kept (net.moved_over n); gone = net.kept_shut (net.moved_over n) } else left_of n in
      record { net = net.net_connected l.net; gone = l.gone }

  round_is : settle_round (left_of n) ≡ left m []
  round_is = ap settled_by may

  pub settled_is : net.net_settled n ≡ left m []
  settled_is = ap net.settled_further round_is ∙ ap (λ (b : Bool). if b then settle_round (left m []) else left m []) later

  stamps_by : (k : NetSeen) → may_take_over k.asker.rack ≡ false → (entry : ℕ) (g : List Generation) → taken_over_stamps entry k g ≡ g
  stamps_by k e entry g =
      ap (λ (b : Bool). if b then activated_live entry (live_of k.asker.rack.policies k.asker.rack.pending) (retired_live entry (live_of k.asker.rack.policies k.asker.rack.current) g) else g) e

  pub stamps_are : (entry : ℕ) (g : List Generation) → net.settled_stamps entry n g ≡ g
  stamps_are entry g =
      ap (λ (l : NetLeft). taken_over_stamps entry l.net (taken_over_stamps entry n g)) round_is ∙ stamps_by m later entry (taken_over_stamps entry n g)
      ∙ stamps_by n may entry g

net_settled_is : (x : StateSeen) (m : NetSeen) → net.net_settled x.net ≡ left m [] → net.settled_stamps x.book.ledger.entry x.net x.book.ledger.generations ≡ x.book.ledger.generations
    → channel.net_settled x ≡ record x { net = m }
unfolding channel.net_settled
net_settled_is x m e f =
    ap (λ (l : NetLeft). links_left l (with_generations (net.settled_stamps x.book.ledger.entry x.net x.book.ledger.generations) x)) e
    ∙ ap (λ (g : List Generation). links_left (left m []) (with_generations g x)) f

pub wishes_are_parts : QuiescenceIsExact → BoardsStir → TakeOversAreSame → WishesConnect → NoneConnects → AllCallsStay → SetsStay → KeptAlong → LinksStay → WishesAreParts
wishes_are_parts exact stir overs wishes none_connects calls_stay sets_stay kept_along links_stay x o s h joined at begun =
    let may : may_take_over x.net.asker.rack ≡ false = may_not overs s x.net h.net begun.take_over in
    let base : IsOn x o s x.book.ledger.generations x.book.ledger.links x.net s = record {
      actions = [];
      does = refl;
      board = tt;
      posts = refl;
      current = at.current;
      still = to_order exact o s at.quiescent;
      sees = h.net;
      ages = h.columns.generations;
      joined = joined;
      links = h.links;
      noted = h.columns.links;
      clock = begun.clock;
    } in
    let end : IsDone exact stir overs wishes kept_along links_stay x o s h at x.book.ledger.generations x.book.ledger.links (connect_rounds (idle_count x.net.board) x.net)
    = connect_on exact stir overs wishes kept_along links_stay x o s h at x.book.ledger.generations x.book.ledger.links (idle_count x.net.board) x.net s base may in
    let u : Seen = end.seen in
    let k : NetSeen = connect_rounds (idle_count x.net.board) x.net in
    let m : IsOn x o s x.book.ledger.generations x.book.ledger.links k u = end.on in
    let y : StateSeen = record x { net = k } in
    let settled : net.net_settled x.net ≡ left k [] = settled_is x.net may end.may in
    let same : channel.net_settled x ≡ y = net_settled_is x k settled (stamps_are x.net may end.may x.book.ledger.entry x.book.ledger.generations) in
    let boarded : IsBoarded s u = boards_leave_rest m.actions s u m.board m.does in
    let agrees : Agrees y u = net_steps_keep calls_stay sets_stay kept_along x y s u h (record {
      channel = refl;
      actions = m.actions;
      does = m.does;
      board = m.board;
      clock = clock_goes_on s u o o boarded at.current m.current x y h.clock refl refl refl refl refl (subst (λ (c : Option OpenEntry). DrawsAlike c x) at.current h.clock.draws).1;
      generations = m.ages;
      noted = m.noted;
      policy = λ held unshut. current_stays s u (m.ages ∙ sym h.columns.generations) ∙ h.configs.policy held unshut;
      links = record { count = m.links.count; each = λ n l e. let q = m.links.each n l e in record { slot = q.slot; there = q.there; sees = q.sees } };
      net = m.sees;
      orderly = of_calls_is k (net.net_settled x.net).net (sym (ap (λ (l : NetLeft). l.net) settled)) (one_call_more Settle x.net h.orderly);
    }) in
    record {
      reaches = record {
        actions = m.actions;
        seen = u;
        entry = o;
        does = m.does;
        posts = m.posts;
        same = record {
          moment = refl;
          word = refl;
          event = refl;
          entries = ap (λ (v : Seen). v.entries) boarded;
          setup = ap (λ (v : Seen). v.setup) boarded;
        };
        at = record { current = m.current; stage_is = at.stage_is; quiescent = of_order exact o u m.still };
        agrees = subst (λ (v : StateSeen). Agrees v u) (sym same) agrees;
      };
      reply = refl;
      point = record {
        turn = begun.turn;
        clock = m.clock;
        take_over = none_over exact stir overs wishes kept_along links_stay x o s h at x.book.ledger.generations x.book.ledger.links k u m.sees end.may;
        connected = none_connects u k m.sees (connect-ends (idle_count x.net.board) x.net refl);
      };
    }
