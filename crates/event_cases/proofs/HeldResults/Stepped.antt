-- A step of the net after a config was read: all else agrees as before, and a policy of its kind is current or pending then.
use Rattle.std.proofs.Common.{◌≡◌, ◌==◌, ◌||◌, ◌∷◌, ap, arith, refl, subst, sym, ◌∙◌, true, false, List, [], Option, None, Some, ℕ, zero, suc, is_some, length}
use Rattle.std.proofs.lemmas.Bool.Decides.{nat_tests}
use Rattle.std.specs.Option.{option_map_or}
use Rattle.std.specs.Prelude.{map}
use Rattle.channel_actions.specs.Agrees.{Agrees}
use Rattle.channel_actions.specs.Calls.{SeesCalls}
use Rattle.channel_actions.specs.Clock.{DrawsAlike}
use Rattle.channel_actions.specs.Columns.{SeesColumns, links_noted}
use Rattle.channel_actions.specs.Configs.{SeesBuckets, SeesConfigs}
use Rattle.channel_actions.specs.Sets.{SeesSets, is_in_dues}
use Rattle.channel_core.specs.States.{StateSeen}
use Rattle.channel_actions.specs.KeptSessions.Kept.{IsKept}
use Rattle.channel_actions.specs.KeptSessions.Laws.{KeptAlong}
use Rattle.channel_actions.proofs.BoardActions.Boards.{boards_leave_rest, of_none}
use Rattle.event_cases.proofs.HeldResults.Mid.{IsMid}
use Rattle.attempt_cases.proofs.NetSteps.Passing.{passes_none}
use Rattle.channel_actions.specs.BoardActions.Boards.{ActionsAreOfBoard, IsBoarded, boarded, is_of_board}
use Rattle.attempt_cases.specs.NetSteps.Steps.{IsNetStep, netted}
use Rattle.call_cases.specs.OtherCalls.Laws.{AllCallsStay, SetsApart, SetsStay}
use Rattle.call_cases.specs.OtherCalls.Others.{ActionsAreOfCall, BooksApart, GoesApart, IsBooked, IsOfCall}
use Rattle.session_actions.specs.Actions.{after}
use Rattle.session_actions.specs.Policies.{current_policy}
use Rattle.session_actions.specs.Sessions.{Does}
use Rattle.session_actions.specs.declared.action.Action.{Action}
use Rattle.session_actions.specs.declared.call.Call.{Call}
use Rattle.session_actions.specs.declared.policy.PolicyUse.{PolicyUse}
use Rattle.session_actions.specs.declared.seen.Seen.{Seen}

no_zero : (n : ℕ) → (suc n == 0) ≡ false
no_zero n = grind (arith, nat_tests)

booked : (s : Seen) → IsKept s → IsBooked s
booked s k = record { book = k.book; owned = k.owned; reads = k.reads }

-- they are of no call, and pass nothing
of_call : (s : Seen) (a : Action) → IsKept s → is_of_board a ≡ true → IsOfCall 0 a s
of_call s a kept board = record {
  acts = ap (λ (o : Option ℕ). option_map_or (λ (k : ℕ). k == 0) o true) (of_none s a board);
  passes = λ c at other. passes_none s a c kept board;
}

all_of_call : KeptAlong → (actions : List Action) (s t : Seen) → IsKept s → ActionsAreOfBoard actions → Does actions s t → ActionsAreOfCall 0 actions s
all_of_call kept_along [] s t kept board does = tt
all_of_call kept_along (a ∷ actions) s t kept board does = (
  of_call s a kept board.0,
  all_of_call kept_along actions (after a s) t (kept_along (a ∷ []) s (after a s) kept (does.0, refl)) board.1 does.1,
)

module _ (calls_stay : AllCallsStay) (sets_stay : SetsStay) (kept_along : KeptAlong) (x : StateSeen) (s t : Seen) (h : IsMid x s) where
  module _ (y : StateSeen) (step : IsNetStep x y s t) where
    e : IsBoarded s t
    e = boards_leave_rest step.actions s t step.board step.does

    later : IsKept t
    later = kept_along step.actions s t h.kept step.does

    abbrev z : StateSeen
    z = netted y.net y.drawn y.resolver y.links y.book.ledger.generations y.book.ledger.links x

    columns_for : map (λ (g : PolicyUse). g.generation) (boarded s t).policies ≡ z.book.ledger.generations → links_noted (boarded s t) ≡ z.book.ledger.links
        → SeesColumns z.book.ledger (boarded s t)
    columns_for generations noted = record { rows = h.columns.rows; calls = h.columns.calls; asks = h.columns.asks; generations = generations; links = noted }

    columns : SeesColumns z.book.ledger t
    columns = subst (SeesColumns z.book.ledger) (sym e) (columns_for step.generations (ap links_noted (sym e) ∙ step.noted))

    configs_for : (is_some x.held ≡ true → s.shut ≡ false → is_some (current_policy (boarded s t)) ≡ true) → SeesConfigs z (boarded s t)
    configs_for policy = record { authority = h.authority; shut = h.shut; held = h.held; unconfigured = h.unconfigured; policy = policy }

    configs : SeesConfigs z t
    configs = subst (SeesConfigs z) (sym e) (configs_for step.policy)

    buckets_for : SeesBuckets x.book.buckets (boarded s t)
    buckets_for = record { runs = h.buckets.runs; throttle = h.buckets.throttle }

    buckets : SeesBuckets z.book.buckets t
    buckets = subst (SeesBuckets z.book.buckets) (sym e) buckets_for

    goes : GoesApart 0 s t
    goes = record {
      actions = step.actions;
      does = step.does;
      apart = all_of_call kept_along step.actions s t h.kept step.board step.does;
      earlier = booked s h.kept;
      later = booked t later;
    }

    long : length t.calls ≡ length z.book.calls
    long = ap (λ (v : Seen). length v.calls) e ∙ h.calls.count

    -- nothing of a call that is not there
    no_call : (P : Type 0) (c : Call) → None ≡ Some c → P
    no_call P c at = absurd (cc)

    sets : SetsApart 0 s (boarded s t)
    sets = subst (SetsApart 0 s) e (sets_stay 0 x s t goes h.calls)

    dues_same : (m n : ℕ) → is_in_dues (boarded s t) m n ≡ is_in_dues s m n
    dues_same m zero = refl
    dues_same m (suc n) = sets.dues m (suc n) (no_zero n)

    sets_for : SeesSets z (boarded s t)
    sets_for = record {
      queue = h.sets.queue;
      ready_waiters = h.sets.ready_waiters;
      dues = record { rising = h.sets.dues.rising; exact = λ m n. h.sets.dues.exact m n ∙ sym (dues_same m n) };
      deadlines = h.sets.deadlines;
      awaiting_config = h.sets.awaiting_config;
      fail_fast = h.sets.fail_fast;
      outstanding = h.sets.outstanding;
      resets = h.sets.resets;
    }

    books : BooksApart 0 x z t
    books = record {
      entry_is = step.clock.entry_is ∙ ap (λ (v : StateSeen). v.book.ledger.entry) step.channel;
      columns = columns;
      buckets = buckets;
      slots = λ k off. refl;
    }

    all_calls : SeesCalls z t
    all_calls = calls_stay 0 x z s t goes books h.calls long (λ c at. no_call _ c at)

    agrees_now : Agrees z t
    agrees_now = record {
      clock = record {
        entry_is = step.clock.entry_is ∙ ap (λ (v : StateSeen). v.book.ledger.entry) step.channel;
        moment = step.clock.moment ∙ ap (λ (v : StateSeen). v.book.moment) step.channel;
        draws = subst (DrawsAlike t.current) step.channel step.clock.draws;
      };
      columns = columns;
      configs = configs;
      buckets = buckets;
      calls = all_calls;
      links = record { count = step.links.count; each = λ n l at. let k = step.links.each n l at in record { slot = k.slot; there = k.there; sees = k.sees } };
      net = step.net;
      orderly = step.orderly;
      sets = subst (SeesSets z) (sym e) sets_for;
      kept = later;
    }

    pub agrees_after : Agrees y t
    agrees_after = subst (λ (v : StateSeen). Agrees v t) (sym step.channel) agrees_now

pub mid_steps_keep : AllCallsStay → SetsStay → KeptAlong → (x y : StateSeen) (s t : Seen) → IsMid x s → IsNetStep x y s t → Agrees y t
mid_steps_keep calls_stay sets_stay kept_along x y s t h step = agrees_after calls_stay sets_stay kept_along x s t h y step
