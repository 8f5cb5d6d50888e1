-- Subchannels and policies of a settling whose clock is done: a pending policy takes over where it may, and then wished subchannels connect.
use Rattle.std.proofs.Common.{◌≡◌, ◌++◌, ◌∷◌, ap, refl, subst, sym, ◌∙◌, Bool, true, false, List, [], None, Option, Some, ℕ, if◌then◌else◌, is_some, map}
use Rattle.std.specs.Option.{option_map}
use Rattle.std.specs.Prelude.{option_and_then}
use Rattle.attempt_ledger.specs.declared.ledger.Generation.{Generation}
use Rattle.attempt_ledger.specs.declared.ledger.LinkSeen.{LinkSeen}
use Rattle.channel_actions.proofs.BoardActions.Boards.{boards_leave_rest}
use Rattle.channel_actions.proofs.BoardActions.Quiescent.{of_order}
use Rattle.channel_actions.proofs.Does.{does_on, none_on}
use Rattle.channel_actions.proofs.Links.Own.Owned.{own_along}
use Rattle.channel_actions.specs.Agrees.{Agrees}
use Rattle.channel_actions.specs.BoardActions.Boards.{IsBoarded}
use Rattle.channel_actions.specs.Quiescent.{IsAt}
use Rattle.channel_actions.specs.Clock.{DrawsAlike}
use Rattle.channel_actions.specs.Columns.{links_noted}
use Rattle.channel_actions.specs.KeptSessions.Kept.{IsKept}
use Rattle.channel_actions.specs.KeptSessions.Laws.{KeptAlong}
use Rattle.channel_actions.specs.LinkFrames.Laws.{LinksStay}
use Rattle.call_cases.specs.OtherCalls.Laws.{AllCallsStay, SetsStay}
use Rattle.attempt_cases.proofs.DialEvents.Nets.{of_calls_is, one_call_more}
use Rattle.event_cases.proofs.FirstShutdowns.Answered.{stamps_form}
use Rattle.event_cases.proofs.GenerationStamps.Along.{gens}
use Rattle.event_cases.proofs.GenerationStamps.Over.{may_by, pending_by}
use Rattle.event_cases.proofs.HeldResults.LeftNets.{links_left_by, still_shut}
use Rattle.attempt_cases.proofs.NetSettlings.Wished.{wishes_are_parts}
use Rattle.attempt_cases.proofs.NetSettlings.Wishing.{IsDone, IsOn, connect_on, none_over}
use Rattle.attempt_cases.proofs.NetSteps.Alike.{links_without_difference_agree}
use Rattle.attempt_cases.proofs.NetSteps.Clocks.{clock_goes_on, entry_goes_on}
use Rattle.attempt_cases.proofs.NetSteps.Stepped.{net_steps_keep}
use Rattle.attempt_cases.proofs.NetSteps.Subbed.{current_stays}
use Rattle.event_cases.proofs.TakeOvers.Kept.{shut_rounds}
use Rattle.event_cases.proofs.TakeOvers.Over.{IsOver, is_over}
use Rattle.event_cases.proofs.TakeOvers.Stamped.{board_stamps, stamps_of_generations}
use Rattle.channel_actions.specs.TheirLinks.Theirs.{LinksAreTheirs}
use Rattle.event_cases.specs.LeftLinks.Laws.{LinksAreLeft, LeftLinksAreStamped}
use Rattle.attempt_cases.specs.NetChains.Chains.{IsPickThere}
use Rattle.attempt_cases.specs.NetChains.Laws.{ChainsAreNext}
use Rattle.channel_actions.specs.PrefacedLinks.Joined.{PrefacedLinksAreJoined}
use Rattle.attempt_cases.specs.NetSettlings.Points.{IsClocked, IsJoined, Leads}
use Rattle.attempt_cases.specs.NetSteps.Steps.{netted}
use Rattle.event_cases.specs.TakeOvers.Laws.{NetsAreSettled}
use Rattle.channel_core.specs.States.{StateSeen}
use Rattle.channel_core.specs.Steps as channel
use Rattle.channel_core.specs.Steps.{all_stamped_gone, links_left, with_generations}
use Rattle.channel_net.proofs.RoundLaws.{connect-ends}
use Rattle.channel_net.specs.Lists.{shut_links}
use Rattle.channel_net.specs.Runs.{Settle}
use Rattle.channel_net.specs.Stamps.{activated_live, retired_live}
use Rattle.channel_net.specs.Steps as net
use Rattle.channel_net.specs.Steps.{NetLeft, NetSeen, connect_rounds, idle_count, kept_shut, left, left_of, moved_over, net_kept, net_taken_over, settle_round, taken_over_stamps}
use Rattle.net_actions.proofs.TakingOver.{take_overs_are_same}
use Rattle.net_actions.specs.Laws.{NoneConnects, TakeOversAreSame, WishesConnect}
use Rattle.net_actions.specs.Runs.{IsOfCalls}
use Rattle.net_actions.specs.Sees.{Sees}
use Rattle.policy_rack.specs.Steps.{RackSeen, live_of, may_take_over, taken_over}
use Rattle.policy_rack.specs.declared.live.Live.{Live}
use Rattle.session_actions.specs.Entries.{entry}
use Rattle.session_actions.specs.Policies as policies
use Rattle.session_actions.specs.Policies.{current_policy, next_take_over, pending_policy}
use Rattle.session_actions.specs.Words.{numbered}
use Rattle.session_actions.specs.declared.action.Action.TheVariants as action
use Rattle.session_actions.specs.declared.action.Action.{Action}
use Rattle.session_actions.specs.declared.attempt.Attempt.{Attempt}
use Rattle.session_actions.specs.declared.entry.OpenEntry.{OpenEntry}
use Rattle.session_actions.specs.declared.entry.Stage.TheVariants as stage
use Rattle.session_actions.specs.declared.link.Link.{Link}
use Rattle.session_actions.specs.declared.policy.PolicyUse.{PolicyUse}
use Rattle.session_actions.specs.declared.seen.Seen.{Seen}
use Rattle.session_order.specs.Laws.{BoardsStir, QuiescenceIsExact, PoliciesStirApart}
use Rattle.subchannel.specs.Boards.{kept}
use Rattle.subchannel.specs.Records.{SubRecord}

-- an action that takes over
if_over : (b : Bool) (k : ℕ) (a : Action) → (if b then Some (action.PolicyTakesOver k) else None) ≡ Some a → a ≡ action.PolicyTakesOver k
if_over true k a e = (cc)
if_over false k a e = absurd (cc)

pub over_by : (s : Seen) (p : Option PolicyUse) (a : Action)
    → option_and_then (λ (g : PolicyUse). if policies.may_take_over s g then Some (action.PolicyTakesOver g.number) else None) p ≡ Some a
    → (number : ℕ) × (a ≡ action.PolicyTakesOver number)
over_by s None a e = absurd (cc)
over_by s (Some g) a e = (g.number, if_over (policies.may_take_over s g) g.number a e)

module _ (exact : QuiescenceIsExact) (stir : BoardsStir) (apart : PoliciesStirApart) (chains : ChainsAreNext) (wishes : WishesConnect) (none_connects : NoneConnects)
    (calls_stay : AllCallsStay) (sets_stay : SetsStay) (kept_along : KeptAlong) (links_stay : LinksStay) (left_stamped : LeftLinksAreStamped)
    (x : StateSeen) (o : OpenEntry) (s : Seen) (h : Agrees x s) (joined : PrefacedLinksAreJoined s) (theirs : LinksAreTheirs s) (picks : IsPickThere s) (at : IsAt stage.Settling o s)
    (begun : IsClocked o s) (number : ℕ) (takes : next_take_over s ≡ Some (action.PolicyTakesOver number)) where
  over : IsOver x o s
  over = is_over exact apart chains x o s h at picks begun.clock number takes

  abbrev t : Seen
  t = over.seen

  abbrev n1 : NetSeen
  n1 = (net_taken_over (left x.net [])).net

  abbrev gone : List ℕ
  gone = (net_taken_over (left x.net [])).gone

  boarded_t : IsBoarded s t
  boarded_t = boards_leave_rest over.actions s t over.chained.board over.chained.does

  kept_t : IsKept t
  kept_t = kept_along over.actions s t h.kept over.chained.does

  may : may_take_over x.net.asker.rack ≡ true
  may =
      may_by (may_take_over x.net.asker.rack) (option_map (λ (l : Live). action.PolicyTakesOver l.generation) x.net.asker.rack.pending) (action.PolicyTakesOver number)
      (sym (take_overs_are_same s x.net h.net) ∙ takes)

  -- what the net is then
  n1_is : n1 ≡ net_kept (record x.net { asker = record x.net.asker { rack = taken_over x.net.asker.rack }; current = x.net.pending; pending = [] })
  n1_is =
      ap (λ (b : Bool). (if b then record { net = net_kept (record x.net { asker = record x.net.asker { rack = (if b then taken_over x.net.asker.rack else x.net.asker.rack) }; current = x.net.pending; pending = [] }); gone = kept_shut (moved_over x.net) } else left x.net []).net) may

  may_no : may_take_over n1.asker.rack ≡ false
  may_no = ap (λ (n : NetSeen). may_take_over n.asker.rack) n1_is

  board_is : n1.board ≡ kept x.net.pending [] x.net.board
  board_is = ap (λ (n : NetSeen). n.board) n1_is

  gone_is : gone ≡ shut_links n1.board x.net.links
  gone_is =
      ap (λ (b : Bool). (if b then record { net = net_kept (moved_over x.net); gone = kept_shut (moved_over x.net) } else left x.net []).gone) may
      ∙ sym (ap (λ (l : List SubRecord). shut_links l x.net.links) board_is)

  -- the stamps of links that are left
  are_left : LinksAreLeft x s t n1 gone
  are_left = record {
    attempts = ap (λ (v : Seen). v.attempts) boarded_t;
    links = over.links;
    entry_is = entry_goes_on s t o o boarded_t at.current over.chained.current;
    kept = kept_t;
    sees = over.sees;
    shut = still_shut s t x.net n1 x.net.pending [] h.net over.sees board_is;
    left = λ sub link c there own before off. links_left_by s t x.net n1 x.net.pending [] h.net over.sees board_is gone gone_is sub link c there own off;
  }

  noted_t : links_noted t ≡ (links_left (left n1 gone) x).book.ledger.links
  noted_t = left_stamped x s t n1 gone h theirs are_left

  -- links are joined as before
  joined_t : PrefacedLinksAreJoined t
  joined_t = record {
    own = own_along kept_along over.actions s t h.kept joined.own over.chained.does;
    prefaced = λ row a placed l here there is.
        joined.prefaced row a placed l (ap (λ (v : Seen). numbered v.attempts row) (sym boarded_t) ∙ here) there (ap (λ (ls : List Link). numbered ls placed.link) (sym over.links) ∙ is);
  }

  abbrev ages : List Generation
  ages = taken_over_stamps x.book.ledger.entry x.net x.book.ledger.generations

  base : IsOn x o s ages (links_noted t) n1 t
  base = record {
    actions = over.actions;
    does = over.chained.does;
    board = over.chained.board;
    posts = over.chained.posts;
    current = over.chained.current;
    still = over.chained.quiescent;
    sees = over.sees;
    ages = over.ages;
    joined = joined_t;
    links = links_without_difference_agree links_stay x x s t h.kept kept_t boarded_t over.links refl h.links;
    noted = refl;
    clock = over.clock;
  }

  end : IsDone exact stir take_overs_are_same wishes kept_along links_stay x o s h at ages (links_noted t) (connect_rounds (idle_count n1.board) n1)
  end = connect_on exact stir take_overs_are_same wishes kept_along links_stay x o s h at ages (links_noted t) (idle_count n1.board) n1 t base may_no

  abbrev w : Seen
  w = end.seen

  abbrev m : NetSeen
  m = connect_rounds (idle_count n1.board) n1

  on : IsOn x o s ages (links_noted t) m w
  on = end.on

  -- the net
  net_is : net.net_settled x.net ≡ left m gone
  net_is = ap (λ (b : Bool). if b then settle_round (left m gone) else left m gone) end.may

  abbrev E : ℕ
  E = x.book.ledger.entry

  stamps_is : net.settled_stamps x.book.ledger.entry x.net x.book.ledger.generations ≡ ages
  stamps_is = ap (λ (b : Bool). if b then activated_live E (live_of m.asker.rack.policies m.asker.rack.pending) (retired_live E (live_of m.asker.rack.policies m.asker.rack.current) ages) else ages) end.may

  boarded : IsBoarded s w
  boarded = boards_leave_rest on.actions s w on.board on.does

  -- the channel
  abbrev L : List LinkSeen
  L = (links_left (left m gone) (with_generations ages x)).book.ledger.links

  abbrev y : StateSeen
  y = netted m x.drawn x.resolver x.links ages L x

  settled_is : channel.net_settled x ≡ y
  unfolding channel.net_settled
  settled_is =
      ap (λ (l : NetLeft). links_left l (with_generations (net.settled_stamps x.book.ledger.entry x.net x.book.ledger.generations) x)) net_is
      ∙ ap (λ (g : List Generation). links_left (left m gone) (with_generations g x)) stamps_is
      ∙ stamps_form gone (record (with_generations ages x) { net = m })

  noted : links_noted w ≡ L
  noted =
      on.noted ∙ noted_t ∙ board_stamps x n1 m (λ k. sym (shut_rounds (idle_count n1.board) n1 k)) gone
      ∙ sym (stamps_of_generations ages gone (record x { net = m }))

  agrees : Agrees y w
  agrees = net_steps_keep calls_stay sets_stay kept_along x y s w h (record {
    channel = refl;
    actions = on.actions;
    does = on.does;
    board = on.board;
    clock = clock_goes_on s w o o boarded at.current on.current x y h.clock refl refl refl refl refl (subst (λ (c : Option OpenEntry). DrawsAlike c x) at.current h.clock.draws).1;
    generations = on.ages;
    noted = noted;
    policy = λ held unshut. current_stays t w (on.ages ∙ sym over.ages) ∙ over.policy;
    links = record { count = on.links.count; each = λ k l e. let q = on.links.each k l e in record { slot = q.slot; there = q.there; sees = q.sees } };
    net = on.sees;
    orderly = of_calls_is m (net.net_settled x.net).net (sym (ap (λ (l : NetLeft). l.net) net_is)) (one_call_more Settle x.net h.orderly);
  })

  pub led : Leads (channel.net_settled x) o s IsJoined
  led = record {
    reaches = record {
      actions = on.actions;
      seen = w;
      entry = o;
      does = on.does;
      posts = on.posts;
      same = record {
        moment = refl;
        word = refl;
        event = refl;
        entries = ap (λ (v : Seen). v.entries) boarded;
        setup = ap (λ (v : Seen). v.setup) boarded;
      };
      at = record { current = on.current; stage_is = at.stage_is; quiescent = of_order exact o w on.still };
      agrees = subst (λ (v : StateSeen). Agrees v w) (sym settled_is) agrees;
    };
    reply = refl;
    point = record {
      turn = begun.turn;
      clock = on.clock;
      take_over = none_over exact stir take_overs_are_same wishes kept_along links_stay x o s h at ages (links_noted t) m w on.sees end.may;
      connected = none_connects w m on.sees (connect-ends (idle_count n1.board) n1 refl);
    };
  }

-- by whether one may take over
settled_by : (exact : QuiescenceIsExact) (stir : BoardsStir) (apart : PoliciesStirApart) (chains : ChainsAreNext) (wishes : WishesConnect) (none_connects : NoneConnects)
    (calls_stay : AllCallsStay) (sets_stay : SetsStay) (kept_along : KeptAlong) (links_stay : LinksStay) (left_stamped : LeftLinksAreStamped)
    (x : StateSeen) (o : OpenEntry) (s : Seen) (h : Agrees x s) (joined : PrefacedLinksAreJoined s) (theirs : LinksAreTheirs s) (picks : IsPickThere s) (at : IsAt stage.Settling o s)
    (begun : IsClocked o s) (a : Option Action) → next_take_over s ≡ a → Leads (channel.net_settled x) o s IsJoined
settled_by exact stir apart chains wishes none_connects calls_stay sets_stay kept_along links_stay left_stamped x o s h joined theirs picks at begun None none =
    wishes_are_parts exact stir take_overs_are_same wishes none_connects calls_stay sets_stay kept_along links_stay x o s h joined at
    (record { turn = begun.turn; clock = begun.clock; take_over = none })
settled_by exact stir apart chains wishes none_connects calls_stay sets_stay kept_along links_stay left_stamped x o s h joined theirs picks at begun (Some a) some =
    let it = over_by s (pending_policy s) a some in
    led exact stir apart chains wishes none_connects calls_stay sets_stay kept_along links_stay left_stamped x o s h joined theirs picks at begun it.0
    (some ∙ ap (λ (d : Action). Some d) it.1)

pub nets_are_settled : QuiescenceIsExact → BoardsStir → PoliciesStirApart → ChainsAreNext → WishesConnect → NoneConnects → AllCallsStay → SetsStay → KeptAlong → LinksStay → NetsAreSettled
nets_are_settled exact stir apart chains wishes none_connects calls_stay sets_stay kept_along links_stay left_stamped x o s h joined theirs picks at begun =
    settled_by exact stir apart chains wishes none_connects calls_stay sets_stay kept_along links_stay left_stamped x o s h joined theirs picks at begun (next_take_over s) refl
