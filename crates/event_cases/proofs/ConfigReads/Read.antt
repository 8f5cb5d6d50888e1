-- After a valid config is read channel and session agree, but that the policy of its kind may still be to come.
use Rattle.std.proofs.Common.{◌≡◌, ◌==◌, ◌∷◌, ◌++◌, ◌%◌, ◌^◌, ap, arith, refl, subst, sym, ◌∙◌, Bool, true, false, List, [], None, Ok, Option, Some, ℕ, zero, suc, length, map}
use Rattle.std.proofs.lemmas.Bool.Decides.{nat_tests}
use Rattle.std.specs.Option.{option_map}
use Rattle.call_actions.specs.CallsApart.Apart.{IsBook}
use Rattle.channel_actions.proofs.KeptSessions.Along.{kept_along}
use Rattle.channel_actions.proofs.Links.Frames.Frame.{links_stay}
use Rattle.channel_actions.proofs.Links.Frames.NoDifference.{actions_make_no_difference}
use Rattle.call_cases.proofs.OtherCalls.Along.{booked}
use Rattle.call_cases.proofs.OtherCalls.Sets.{sets_stay}
use Rattle.call_cases.proofs.OtherCalls.Slots.{all_calls_stay}
use Rattle.channel_actions.proofs.Settles.{with_open}
use Rattle.channel_actions.specs.Agrees.{Agrees}
use Rattle.channel_actions.specs.Clock.{DrawsAlike}
use Rattle.channel_actions.specs.Columns.{SeesColumns}
use Rattle.channel_actions.specs.Configs.{SeesBuckets}
use Rattle.channel_actions.specs.KeptSessions.Kept.{IsKept}
use Rattle.channel_actions.specs.LinkFrames.Alike.{SeesNoDifference}
use Rattle.channel_actions.specs.LinkFrames.Bears.{bears_on}
use Rattle.channel_actions.specs.Links.{SeesLinks}
use Rattle.call_cases.specs.OtherCalls.Laws.{SetsApart}
use Rattle.call_cases.specs.OtherCalls.Others.{BooksApart, GoesApart}
use Rattle.channel_actions.specs.Sets.{SeesSets, is_awaiting_config, is_in_deadlines, is_in_dues, is_in_fail_fast, is_in_ready_waiters, is_in_queue}
use Rattle.event_cases.proofs.ConfigReads.After.{last_more, longer}
use Rattle.event_cases.proofs.ConfigReads.Buckets.{held_sees}
use Rattle.event_cases.proofs.ConfigReads.Stirred.{IsLonger, held_by}
use Rattle.event_cases.proofs.HeldResults.Mid.{IsMid}
use Rattle.event_cases.specs.ConfigReads.Throttled.{BucketsFollowConfigs}
use Rattle.channel_core.specs.Applying.{answered_question}
use Rattle.channel_core.specs.States.{StateSeen}
use Rattle.channel_core.specs.Steps.{configured_by}
use Rattle.grpc_base.specs.declared.event.Reply.TheVariants as reply
use Rattle.net_actions.proofs.NetFrames.Left.{same_nets_agree}
use Rattle.service_config.specs.declared.config.Config.{Config}
use Rattle.session_actions.specs.Actions.{after, after_if, following}
use Rattle.session_actions.specs.Configs.{config_read, held_config, resolver_answered, with_held}
use Rattle.session_actions.specs.Entries.{entry, replied}
use Rattle.session_actions.specs.Sessions.{Does}
use Rattle.session_actions.specs.declared.action.Action.TheVariants as action
use Rattle.session_actions.specs.declared.action.Action.{Action}
use Rattle.session_actions.specs.declared.call.Call.{Call}
use Rattle.session_actions.specs.declared.config.HeldConfig.{HeldConfig}
use Rattle.session_actions.specs.declared.config.ThrottleRun.{ThrottleRun}
use Rattle.session_actions.specs.declared.entry.OpenEntry.{OpenEntry}
use Rattle.session_actions.specs.declared.link.Link.{Link}
use Rattle.session_actions.specs.declared.seen.Seen.{Seen}
use Rattle.session_order.proofs.Posts.{answered_with}

no_zero : (n : ℕ) → (suc n == 0) ≡ false
no_zero n = grind (arith, nat_tests)

module _ (x : StateSeen) (o : OpenEntry) (s : Seen) (h : Agrees x (with_open o s)) (throttled : BucketsFollowConfigs s) (config : Config)
    (follows : following (with_open o s) ≡ Some (action.ConfigRead (Ok config))) where
  abbrev v : Seen
  v = with_open o s

  abbrev p : OpenEntry
  p = answered_with reply.Done o

  abbrev a : Action
  a = action.ConfigRead (Ok config)

  abbrev u : Seen
  u = record s { current = Some p; answered = true; wants = false }

  pub read_by : IsLonger config u (with_held config config.throttle u)
  read_by = held_by config config.throttle u

  -- the session after it
  abbrev pub read_now : Seen
  read_now = longer read_by.held read_by.more u

  abbrev t : Seen
  t = read_now

  abbrev y : StateSeen
  y = configured_by config (answered_question x)

  pub read_is : after a v ≡ t
  read_is = read_by.is

  kept : IsKept t
  kept = kept_along (a ∷ []) v t h.kept (follows, sym read_is)

  apart : GoesApart 0 v t
  apart = record {
    actions = a ∷ [];
    does = (follows, sym read_is);
    apart = (record { acts = refl; passes = λ c at off. refl }, tt);
    earlier = booked v h.kept;
    later = booked t kept;
  }

  columns : SeesColumns y.book.ledger t
  columns = record { rows = h.columns.rows; calls = h.columns.calls; asks = h.columns.asks; generations = h.columns.generations; links = h.columns.links }

  throttled_now : BucketsFollowConfigs u
  throttled_now n g there = throttled n g there

  book_now : IsBook u
  book_now = record { calls = h.kept.book.calls; places = h.kept.book.places; configs = h.kept.book.configs; runs = h.kept.book.runs; counted = h.kept.book.counted }

  sees_now : SeesBuckets x.book.buckets u
  sees_now = record { runs = h.buckets.runs; throttle = h.buckets.throttle }

  buckets : SeesBuckets y.book.buckets t
  buckets = subst (SeesBuckets y.book.buckets) read_is (held_sees u x.book.buckets sees_now book_now throttled_now config)

  books : BooksApart 0 x y t
  books = record { entry_is = h.clock.entry_is; columns = columns; buckets = buckets; slots = λ n off. refl }

  no_call : (P : Type 0) (c : Call) → None ≡ Some c → P
  no_call P c at = absurd (cc)

  links : SeesLinks y t
  links =
      links_stay (bears_on a v) x y v t h.links h.kept kept (λ link e. refl) (subst (SeesNoDifference (bears_on a v) v) read_is (actions_make_no_difference a v h.kept tt)) h.links.count
      (λ link l e f. absurd (cc))

  sets : SetsApart 0 v t
  sets = sets_stay 0 x v t apart h.calls

  queue_same : (n row : ℕ) → is_in_queue t n row ≡ is_in_queue v n row
  queue_same zero row = refl
  queue_same (suc n) row = sets.queue (suc n) row (no_zero n)

  wait_for_ready_same : (n row : ℕ) → is_in_ready_waiters t n row ≡ is_in_ready_waiters v n row
  wait_for_ready_same zero row = refl
  wait_for_ready_same (suc n) row = sets.ready_waiters (suc n) row (no_zero n)

  dues_same : (m n : ℕ) → is_in_dues t m n ≡ is_in_dues v m n
  dues_same m zero = refl
  dues_same m (suc n) = sets.dues m (suc n) (no_zero n)

  deadlines_same : (m n : ℕ) → is_in_deadlines t m n ≡ is_in_deadlines v m n
  deadlines_same m zero = refl
  deadlines_same m (suc n) = sets.deadlines m (suc n) (no_zero n)

  fail_fast_same : (m n : ℕ) → is_in_fail_fast t m n ≡ is_in_fail_fast v m n
  fail_fast_same m zero = refl
  fail_fast_same m (suc n) = sets.fail_fast m (suc n) (no_zero n)

  sets_on : SeesSets y t
  sets_on = record {
    queue = record { rising = h.sets.queue.rising; exact = λ m n. h.sets.queue.exact m n ∙ sym (queue_same m n) };
    ready_waiters = record { rising = h.sets.ready_waiters.rising; exact = λ m n. h.sets.ready_waiters.exact m n ∙ sym (wait_for_ready_same m n) };
    dues = record { rising = h.sets.dues.rising; exact = λ m n. h.sets.dues.exact m n ∙ sym (dues_same m n) };
    deadlines = record { rising = h.sets.deadlines.rising; exact = λ m n. h.sets.deadlines.exact m n ∙ sym (deadlines_same m n) };
    awaiting_config = h.sets.awaiting_config;
    fail_fast = record { rising = h.sets.fail_fast.rising; exact = λ m n. h.sets.fail_fast.exact m n ∙ sym (fail_fast_same m n) };
    outstanding = h.sets.outstanding;
    resets = h.sets.resets;
  }

  held_is : option_map (λ (g : HeldConfig). g.config) (held_config t) ≡ Some config
  held_is = ap (option_map (λ (g : HeldConfig). g.config)) (last_more s.configs read_by.held) ∙ ap (λ (c : Config). Some c) read_by.config_is

  pub read_mid : IsMid y t
  read_mid = record {
    clock = record { entry_is = h.clock.entry_is; moment = h.clock.moment; draws = h.clock.draws };
    columns = columns;
    authority = h.configs.authority;
    shut = h.configs.shut;
    held = held_is;
    unconfigured = λ e. absurd (cc);
    buckets = buckets;
    calls = all_calls_stay 0 x y v t apart books h.calls h.calls.count (λ c at. no_call _ c at);
    links = links;
    net = h.net;
    orderly = h.orderly;
    sets = sets_on;
    kept = kept;
  }
