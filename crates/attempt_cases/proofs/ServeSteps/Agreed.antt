-- An attempt asks for a pick: it gets the same answer in channel and session, and all agrees after it, since nothing changed but the requests themselves.
use Rattle.std.proofs.Common.{◌≡◌, ◌==◌, ◌++◌, ◌∷◌, ap, arith, refl, subst, sym, ◌∙◌, true, false, List, [], Option, None, Some, ℕ, zero, suc}
use Rattle.std.proofs.lemmas.Bool.Decides.{nat_tests}
use Rattle.std.specs.Option.{option_map}
use Rattle.attempt_ledger.specs.declared.ledger.Ask.{Ask}
use Rattle.channel_actions.proofs.Settles.{is_with_open, with_open}
use Rattle.channel_actions.specs.Agrees.{Agrees}
use Rattle.channel_actions.specs.Calls.{SeesCalls}
use Rattle.channel_actions.specs.Columns.{SeesColumns}
use Rattle.channel_actions.specs.KeptSessions.Kept.{IsKept}
use Rattle.channel_actions.specs.KeptSessions.Laws.{KeptAlong}
use Rattle.channel_actions.specs.LinkFrames.Alike.{SeesNoDifference}
use Rattle.channel_actions.specs.LinkFrames.Bears.{bears_on}
use Rattle.channel_actions.specs.LinkFrames.Laws.{ActionsMakeNoDifference, LinksStay}
use Rattle.channel_actions.specs.Links.{SeesLinks}
use Rattle.call_cases.specs.OtherCalls.Laws.{AllCallsStay, SetsApart, SetsStay}
use Rattle.call_cases.specs.OtherCalls.Others.{BooksApart, GoesApart, IsBooked}
use Rattle.channel_actions.specs.Sets.{SeesSets, is_in_dues}
use Rattle.attempt_cases.proofs.DialEvents.Nets.{one_call_more}
use Rattle.attempt_cases.specs.ServeSteps.Laws.{AskNext, AsksAgree, HasAsked, MayAsk, answer_for, asked_for}
use Rattle.channel_core.specs.States.{StateSeen}
use Rattle.channel_net.specs.Runs as net_calls
use Rattle.channel_net.specs.Steps.{net_answer, net_asked}
use Rattle.lb_policy.specs.Table.{PolicySeen}
use Rattle.net_actions.specs.Laws.{AsksAreAnswered, IsBeside}
use Rattle.net_actions.specs.Sees.{IsUse, Sees}
use Rattle.policy_rack.specs.declared.live.Live.{Live}
use Rattle.grpc_base.specs.declared.address.Address.{Address}
use Rattle.session_actions.specs.Entries.{entry}
use Rattle.session_actions.specs.Policies.{current_policy, pick_requested, policy_of}
use Rattle.session_actions.specs.Sessions.{Does}
use Rattle.session_actions.specs.declared.action.Action.{Action}
use Rattle.session_actions.specs.declared.action.Action.TheVariants as action
use Rattle.session_actions.specs.declared.call.Call.{Call}
use Rattle.session_actions.specs.declared.entry.OpenEntry.{OpenEntry}
use Rattle.session_actions.specs.declared.policy.PolicyUse.{PolicyUse}
use Rattle.session_actions.specs.declared.seen.Seen.{Seen}

no_zero : (n : ℕ) → (suc n == 0) ≡ false
no_zero n = grind (arith, nat_tests)

booked : (s : Seen) → IsKept s → IsBooked s
booked s k = record { book = k.book; owned = k.owned; reads = k.reads }

-- one that is current is so in the net
live_is : (g : PolicyUse) (o : Option PolicyUse) (p : Option PolicySeen) (live : Option Live) (addresses : List Address) (policies : List PolicySeen) → o ≡ Some g
    → IsUse o p live addresses policies → (c : Live) × (live ≡ Some c)
live_is g None p live addresses policies is u = absurd (let bad : None ≡ Some g = is in (cc))
live_is g (Some k) None live addresses policies is u = absurd u
live_is g (Some k) (Some p) None addresses policies is u = absurd u
live_is g (Some k) (Some p) (Some c) addresses policies is u = (c, refl)

module _ (calls_stay : AllCallsStay) (sets_stay : SetsStay) (links_stay : LinksStay) (no_difference : ActionsMakeNoDifference) (kept_along : KeptAlong) (answered : AsksAreAnswered)
    (p : ℕ × ℕ) (x : StateSeen) (o : OpenEntry) (s0 : Seen) where
  abbrev s : Seen
  s = with_open o s0

  module _ (h : Agrees x s) (may : MayAsk x) (k : AskNext p s) where
    abbrev g : PolicyUse
    g = k.policy

    abbrev does_it : Action
    does_it = action.PickRequested p.1 g.number (answer_for g s)

    abbrev t : Seen
    t = pick_requested p.1 g.number (answer_for g s) s

    abbrev y : StateSeen
    y = asked_for p.1 g s x

    does : Does (does_it ∷ []) s t
    does = (k.next, refl)

    kept : IsKept t
    kept = kept_along (does_it ∷ []) s t h.kept does

    beside : IsBeside x.net.asker.rack.current x.net.asker.rack.pending
    beside q e =
        live_is g (current_policy s) (option_map (λ (u : PolicyUse). policy_of u s) (current_policy s)) x.net.asker.rack.current x.net.current x.net.asker.rack.policies
        k.current h.net.current_is

    both : (net_answer x.net ≡ Some (record { generation = g.number; pick = answer_for g s })) × Sees t (net_asked x.net)
    both = answered s x.net g p.1 (answer_for g s) h.net beside may k.current

    columns : SeesColumns y.book.ledger t
    columns = record {
      rows = h.columns.rows;
      calls = h.columns.calls;
      asks =
          ap (λ (l : List Ask). l ++ record { entry = entry s; generation = g.number; row = p.1; answer = answer_for g s } ∷ []) h.columns.asks
          ∙ ap (λ (n : ℕ). x.book.ledger.asks ++ record { entry = n; generation = g.number; row = p.1; answer = answer_for g s } ∷ []) h.clock.entry_is;
      generations = h.columns.generations;
      links = h.columns.links;
    }

    goes : GoesApart 0 s t
    goes = record {
      actions = does_it ∷ [];
      does = does;
      apart = (record { acts = refl; passes = λ c at other. refl }, tt);
      earlier = booked s h.kept;
      later = booked t kept;
    }

    no_call : (P : Type 0) (c : Call) → None ≡ Some c → P
    no_call P c at = absurd (cc)

    sets : SetsApart 0 s t
    sets = sets_stay 0 x s t goes h.calls

    dues_same : (m n : ℕ) → is_in_dues t m n ≡ is_in_dues s m n
    dues_same m zero = refl
    dues_same m (suc n) = sets.dues m (suc n) (no_zero n)

    sets_now : SeesSets y t
    sets_now = record {
      queue = h.sets.queue;
      ready_waiters = h.sets.ready_waiters;
      dues = record { rising = h.sets.dues.rising; exact = λ m n. h.sets.dues.exact m n ∙ sym (dues_same m n) };
      deadlines = h.sets.deadlines;
      awaiting_config = h.sets.awaiting_config;
      fail_fast = h.sets.fail_fast;
      outstanding = h.sets.outstanding;
      resets = h.sets.resets;
    }

    books : BooksApart 0 x y t
    books = record {
      entry_is = h.clock.entry_is;
      columns = columns;
      buckets = record { runs = h.buckets.runs; throttle = h.buckets.throttle };
      slots = λ n off. refl;
    }

    calls : SeesCalls y t
    calls = calls_stay 0 x y s t goes books h.calls h.calls.count (λ c at. no_call _ c at)

    cannot : SeesNoDifference (bears_on does_it s) s t
    cannot = no_difference does_it s h.kept tt

    links : SeesLinks y t
    links = links_stay (bears_on does_it s) x y s t h.links h.kept kept (λ link e. refl) cannot h.links.count (λ link l e f. absurd (let bad : false ≡ true = e in (cc)))

    pub has_asked : HasAsked p g x s
    has_asked = record {
      answer = both.0;
      agrees = record {
        clock = record { entry_is = h.clock.entry_is; moment = h.clock.moment; draws = (h.clock.draws.0, h.clock.draws.1) };
        columns = columns;
        configs = record { authority = h.configs.authority; shut = h.configs.shut; held = h.configs.held; unconfigured = h.configs.unconfigured; policy = h.configs.policy };
        buckets = record { runs = h.buckets.runs; throttle = h.buckets.throttle };
        calls = calls;
        links = links;
        net = both.1;
        orderly = one_call_more net_calls.Ask x.net h.orderly;
        sets = sets_now;
        kept = kept;
      };
    }

pub asks_agree : AllCallsStay → SetsStay → LinksStay → ActionsMakeNoDifference → KeptAlong → AsksAreAnswered → AsksAgree
asks_agree calls_stay sets_stay links_stay no_difference kept_along answered p x o s h current may k =
    let P : Seen → Type 0 = λ u. Agrees x u → (k : AskNext p u) → HasAsked p k.policy x u in
    let whole : P (with_open o s) = λ agrees next. has_asked calls_stay sets_stay links_stay no_difference kept_along answered p x o s agrees may next in
    subst P (sym (is_with_open o s current)) whole h k
