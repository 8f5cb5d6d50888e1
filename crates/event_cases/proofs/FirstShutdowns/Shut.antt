-- The channel is shut down: all that channel and session have is as before, and only calls and policies may follow.
use Rattle.std.proofs.Common.{◌≡◌, ◌==◌, ◌∷◌, arith, refl, sym, ◌∙◌, true, false, [], None, Some, ℕ, zero, suc}
use Rattle.std.proofs.lemmas.Bool.Decides.{nat_tests}
use Rattle.channel_actions.proofs.KeptSessions.Along.{kept_along}
use Rattle.channel_actions.proofs.Links.Frames.Frame.{links_stay}
use Rattle.channel_actions.proofs.Links.Frames.NoDifference.{actions_make_no_difference}
use Rattle.call_cases.proofs.OtherCalls.Along.{booked}
use Rattle.call_cases.proofs.OtherCalls.Sets.{sets_stay}
use Rattle.call_cases.proofs.OtherCalls.Slots.{all_calls_stay}
use Rattle.channel_actions.proofs.Answering.{replied_entry}
use Rattle.channel_actions.proofs.Settles.{with_open}
use Rattle.channel_actions.specs.Agrees.{Agrees}
use Rattle.channel_actions.specs.Columns.{SeesColumns}
use Rattle.channel_actions.specs.Configs.{SeesBuckets}
use Rattle.call_cases.specs.EndsFollow.Laws.{is_late}
use Rattle.channel_actions.specs.KeptSessions.Kept.{IsKept}
use Rattle.channel_actions.specs.LinkFrames.Bears.{bears_on}
use Rattle.channel_actions.specs.Links.{SeesLinks}
use Rattle.call_cases.specs.OtherCalls.Laws.{SetsApart}
use Rattle.call_cases.specs.OtherCalls.Others.{BooksApart, GoesApart}
use Rattle.channel_actions.specs.Sets.{SeesSets, is_in_dues}
use Rattle.channel_core.specs.States.{StateSeen}
use Rattle.grpc_base.specs.declared.event.Event.TheVariants as event
use Rattle.grpc_base.specs.declared.event.Reply.TheVariants as reply
use Rattle.net_actions.proofs.NetFrames.Left.{net_stays}
use Rattle.session_actions.specs.Actions.{following}
use Rattle.session_actions.specs.declared.action.Action.TheVariants as action
use Rattle.session_actions.specs.declared.call.Call.{Call}
use Rattle.session_actions.specs.declared.entry.OpenEntry.{OpenEntry}
use Rattle.session_actions.specs.declared.seen.Seen.{Seen}
use Rattle.session_order.proofs.Turns.{shut_leaves}
use Rattle.session_order.specs.Quiescent.{IsQuiescent, IsStill}
use Rattle.session_order.specs.Stirs.{stirs}
use Rattle.session_order.specs.declared.line.Line.{Line}
use Rattle.session_order.specs.declared.line.Line.TheVariants as line

no_zero : (n : ℕ) → (suc n == 0) ≡ false
no_zero n = grind (arith, nat_tests)

abbrev pub shut_too : StateSeen → StateSeen
shut_too x = record x { shut = true }

-- only late lines are stirred
unstirred : (l : Line) → is_late l ≡ false → stirs action.ChannelShuts l ≡ false
unstirred line.Shut e = absurd (cc)
unstirred line.Retire e = absurd (cc)
unstirred l e = refl

module _ (x : StateSeen) (o : OpenEntry) (s : Seen) (h : Agrees x (with_open o s)) (follows : following (with_open o s) ≡ Some action.ChannelShuts) where
  abbrev u : Seen
  u = with_open o s

  abbrev p : OpenEntry
  p = replied_entry reply.Done o

  abbrev pub shut_now : Seen
  shut_now = record s { shut = true; current = Some p }

  abbrev t : Seen
  t = shut_now

  abbrev y : StateSeen
  y = shut_too x

  kept : IsKept t
  kept = kept_along (action.ChannelShuts ∷ []) u t h.kept (follows, refl)

  apart : GoesApart 0 u t
  apart = record {
    actions = action.ChannelShuts ∷ [];
    does = (follows, refl);
    apart = (record { acts = refl; passes = λ c at off. refl }, tt);
    earlier = booked u h.kept;
    later = booked t kept;
  }

  columns : SeesColumns y.book.ledger t
  columns = record { rows = h.columns.rows; calls = h.columns.calls; asks = h.columns.asks; generations = h.columns.generations; links = h.columns.links }

  buckets : SeesBuckets y.book.buckets t
  buckets = record { runs = h.buckets.runs; throttle = h.buckets.throttle }

  books : BooksApart 0 x y t
  books = record { entry_is = h.clock.entry_is; columns = columns; buckets = buckets; slots = λ k off. refl }

  no_call : (P : Type 0) (c : Call) → None ≡ Some c → P
  no_call P c at = absurd (cc)

  links : SeesLinks y t
  links =
      links_stay (bears_on action.ChannelShuts u) x y u t h.links h.kept kept (λ link e. refl) (actions_make_no_difference action.ChannelShuts u h.kept tt) h.links.count
      (λ link l e f. absurd (cc))

  sets : SetsApart 0 u t
  sets = sets_stay 0 x u t apart h.calls

  dues_same : (m n : ℕ) → is_in_dues t m n ≡ is_in_dues u m n
  dues_same m zero = refl
  dues_same m (suc n) = sets.dues m (suc n) (no_zero n)

  sets_on : SeesSets y t
  sets_on = record {
    queue = h.sets.queue;
    ready_waiters = h.sets.ready_waiters;
    dues = record { rising = h.sets.dues.rising; exact = λ m n. h.sets.dues.exact m n ∙ sym (dues_same m n) };
    deadlines = h.sets.deadlines;
    awaiting_config = h.sets.awaiting_config;
    fail_fast = h.sets.fail_fast;
    outstanding = h.sets.outstanding;
    resets = h.sets.resets;
  }

  pub shut_agrees : Agrees y t
  shut_agrees = record {
    clock = record { entry_is = h.clock.entry_is; moment = h.clock.moment; draws = h.clock.draws };
    columns = columns;
    configs = record { authority = h.configs.authority; shut = refl; held = h.configs.held; unconfigured = h.configs.unconfigured; policy = λ held off. absurd (cc) };
    buckets = buckets;
    calls = all_calls_stay 0 x y u t apart books h.calls h.calls.count (λ c at. no_call _ c at);
    links = links;
    net = net_stays u action.ChannelShuts x.net refl h.net;
    orderly = h.orderly;
    sets = sets_on;
    kept = kept;
  }

  pub shut_still : o.event ≡ event.Shutdown → IsQuiescent o u → (l : Line) → is_late l ≡ false → IsStill l p t
  shut_still is quiescent l early = shut_leaves o u refl is l p refl (unstirred l early) (quiescent l)
