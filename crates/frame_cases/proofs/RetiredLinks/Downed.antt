-- Subchannels and policies go on, beside calls and links: channel and session agree as before but for links, however these stand.
use Rattle.std.proofs.Common.{◌≡◌, ◌==◌, ap, arith, refl, subst, sym, ◌∙◌, true, false, None, Option, Some, ℕ, zero, suc, is_some, length, map}
use Rattle.std.proofs.lemmas.Bool.Decides.{nat_tests}
use Rattle.call_cases.proofs.OtherCalls.Sets.{sets_stay}
use Rattle.call_cases.proofs.OtherCalls.Slots.{all_calls_stay}
use Rattle.call_cases.specs.OtherCalls.Laws.{SetsApart}
use Rattle.call_cases.specs.OtherCalls.Others.{BooksApart, GoesApart}
use Rattle.channel_actions.specs.BoardActions.Boards.{IsBoarded, boarded}
use Rattle.channel_actions.specs.Calls.{SeesCalls}
use Rattle.channel_actions.specs.Clock.{DrawsAlike, SeesClock}
use Rattle.channel_actions.specs.Columns.{SeesColumns, links_noted}
use Rattle.channel_actions.specs.Configs.{SeesBuckets, SeesConfigs}
use Rattle.channel_actions.specs.KeptSessions.Kept.{IsKept}
use Rattle.channel_actions.specs.Sets.{is_in_dues}
use Rattle.channel_core.specs.States.{StateSeen}
use Rattle.channel_net.specs.Steps.{NetSeen}
use Rattle.end_cases.specs.AttemptEnds.Ahead.{AgreesOffLinks, SetsAgree}
use Rattle.net_actions.specs.Runs.{IsOfCalls}
use Rattle.net_actions.specs.Sees.{Sees}
use Rattle.session_actions.specs.Policies.{current_policy}
use Rattle.session_actions.specs.declared.call.Call.{Call}
use Rattle.session_actions.specs.declared.entry.OpenEntry.{OpenEntry}
use Rattle.session_actions.specs.declared.policy.PolicyUse.{PolicyUse}
use Rattle.session_actions.specs.declared.seen.Seen.{Seen}

no_zero : (n : ℕ) → (suc n == 0) ≡ false
no_zero n = grind (arith, nat_tests)

-- the channel with another net
pub record IsDowned (n : NetSeen) (x : StateSeen) (s t : Seen) : Type 0 where
  pub boarded : IsBoarded s t
  pub goes : GoesApart 0 s t
  pub kept : IsKept t
  pub clock : SeesClock x t
  pub generations : map (λ (g : PolicyUse). g.generation) t.policies ≡ x.book.ledger.generations
  pub noted : links_noted t ≡ x.book.ledger.links
  pub policy : is_some x.held ≡ true → s.shut ≡ false → is_some (current_policy t) ≡ true
  pub net : Sees t n
  pub orderly : IsOfCalls n

module _ (n : NetSeen) (x : StateSeen) (s t : Seen) (h : AgreesOffLinks x s) (is : IsDowned n x s t) where
  abbrev y : StateSeen
  y = record x { net = n }

  e : IsBoarded s t
  e = is.boarded

  columns_for : map (λ (g : PolicyUse). g.generation) (boarded s t).policies ≡ x.book.ledger.generations → links_noted (boarded s t) ≡ x.book.ledger.links
      → SeesColumns x.book.ledger (boarded s t)
  columns_for generations noted = record { rows = h.columns.rows; calls = h.columns.calls; asks = h.columns.asks; generations = generations; links = noted }

  columns : SeesColumns x.book.ledger t
  columns =
      subst (SeesColumns x.book.ledger) (sym e)
      (columns_for (ap (λ (v : Seen). map (λ (g : PolicyUse). g.generation) v.policies) (sym e) ∙ is.generations) (ap links_noted (sym e) ∙ is.noted))

  configs_for : (is_some x.held ≡ true → s.shut ≡ false → is_some (current_policy (boarded s t)) ≡ true) → SeesConfigs y (boarded s t)
  configs_for policy = record { authority = h.configs.authority; shut = h.configs.shut; held = h.configs.held; unconfigured = h.configs.unconfigured; policy = policy }

  configs : SeesConfigs y t
  configs = subst (SeesConfigs y) (sym e) (configs_for (λ held unshut. ap (λ (v : Seen). is_some (current_policy v)) (sym e) ∙ is.policy held unshut))

  buckets_for : SeesBuckets x.book.buckets (boarded s t)
  buckets_for = record { runs = h.buckets.runs; throttle = h.buckets.throttle }

  buckets : SeesBuckets x.book.buckets t
  buckets = subst (SeesBuckets x.book.buckets) (sym e) buckets_for

  long : length t.calls ≡ length x.book.calls
  long = ap (λ (v : Seen). length v.calls) e ∙ h.calls.count

  no_call : (P : Type 0) (c : Call) → None ≡ Some c → P
  no_call P c at = absurd (cc)

  sets : SetsApart 0 s (boarded s t)
  sets = subst (SetsApart 0 s) e (sets_stay 0 x s t is.goes h.calls)

  dues_same : (m k : ℕ) → is_in_dues (boarded s t) m k ≡ is_in_dues s m k
  dues_same m zero = refl
  dues_same m (suc k) = sets.dues m (suc k) (no_zero k)

  sets_for : SetsAgree y (boarded s t)
  sets_for = record {
    queue = h.sets.queue;
    ready_waiters = h.sets.ready_waiters;
    dues = record { rising = h.sets.dues.rising; exact = λ m k. h.sets.dues.exact m k ∙ sym (dues_same m k) };
    deadlines = h.sets.deadlines;
    awaiting_config = h.sets.awaiting_config;
    fail_fast = h.sets.fail_fast;
    outstanding = h.sets.outstanding;
  }

  books : BooksApart 0 x y t
  books = record { entry_is = is.clock.entry_is; columns = columns; buckets = buckets; slots = λ k off. refl }

  all_calls : SeesCalls y t
  all_calls = all_calls_stay 0 x y s t is.goes books h.calls long (λ c at. no_call _ c at)

  pub downed_books : AgreesOffLinks y t
  downed_books = record {
    clock = record { entry_is = is.clock.entry_is; moment = is.clock.moment; draws = draws_for t.current is.clock.draws };
    columns = columns;
    configs = configs;
    buckets = buckets;
    calls = all_calls;
    net = is.net;
    orderly = is.orderly;
    sets = subst (SetsAgree y) (sym e) sets_for;
    kept = is.kept;
  }
    where
      draws_for : (c : Option OpenEntry) → DrawsAlike c x → DrawsAlike c y
      draws_for None d = tt
      draws_for (Some p) d = d
