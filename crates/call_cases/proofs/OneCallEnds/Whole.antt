-- One call ends, and channel and session agree again.
use Rattle.std.proofs.Common.{◌≡◌, ap, subst, sym, ◌∙◌, Bool, true, List, Some, is_some, length, ℕ}
use Rattle.std.proofs.lemmas.List.{length-map}
use Rattle.attempt_ledger.specs.declared.ledger.CallSeen.{CallSeen}
use Rattle.call_cases.proofs.OtherCalls.Slots.{all_calls_stay}
use Rattle.channel_actions.proofs.Links.Settings.Slots.{set_length}
use Rattle.channel_actions.specs.ActsFollowed.Followed.{slot_closed}
use Rattle.call_cases.proofs.EndsFollow.Cuts.{IsDone}
use Rattle.channel_actions.specs.Agrees.{Agrees}
use Rattle.channel_actions.specs.Calls.{SeesCalls}
use Rattle.channel_actions.specs.Columns.{SeesColumns}
use Rattle.call_cases.specs.EndsFollow.Laws.{IsSameRest}
use Rattle.call_cases.specs.OtherCalls.Others.{BooksApart, GoesApart}
use Rattle.channel_actions.specs.Sets.{SeesSets}
use Rattle.call_cases.proofs.CallEnds.Alone.{buckets_on, goes_apart}
use Rattle.call_cases.proofs.CallEnds.Linked.{clock_on, configs_on, links_on, on, slot, timers_on, w, whole}
use Rattle.call_cases.proofs.CallEnds.On.{resets, to_end}
use Rattle.call_cases.proofs.CallEnds.Sets.{done}
use Rattle.call_cases.proofs.OneCallEnds.Gone as gone
use Rattle.call_cases.proofs.OneCallEnds.Own.{calls_are, columns_on, others_slots, own_slot}
use Rattle.call_cases.proofs.OneCallEnds.Rows.{outstanding_on, wait_for_ready_on, queue_on, same}
use Rattle.call_cases.specs.CallEnds.Ends.{EndsNext, HasEnded, IsToEnd}
use Rattle.call_cases.specs.CallEnds.Laws.{OneCallEnds, OneCallEndsAhead}
use Rattle.channel_core.proofs.Resting.{changed_length}
use Rattle.channel_core.specs.States.{StateSeen}
use Rattle.channel_core.specs.Steps.{closed}
use Rattle.grpc_base.specs.declared.event.EndCause.{EndCause}
use Rattle.session_actions.specs.Sessions.{call_seen}
use Rattle.session_actions.specs.Words.{numbered}
use Rattle.session_actions.specs.declared.call.Call.{Call}
use Rattle.session_actions.specs.declared.entry.OpenEntry.{OpenEntry}
use Rattle.session_actions.specs.declared.seen.Seen.{Seen}
use Rattle.session_order.specs.declared.line.Line.{Line}

-- and what else is so then: all else of the session is as before, but what is of this call, which is over
pub record WholeEnd (waits : Line → Bool) (number : ℕ) (why : EndCause) (x : StateSeen) (o : OpenEntry) (s : Seen) : Type 0 where
  pub ended : HasEnded waits number why x o s
  pub rest : IsSameRest s ended.seen
  pub apart : GoesApart number s ended.seen
  pub over : (d : Call) → numbered ended.seen.calls number ≡ Some d → is_some d.end ≡ true
  pub long : length ended.seen.calls ≡ length s.calls

over_by : {n : ℕ} {v : Seen} (k : IsDone n v) (d : Call) → numbered v.calls n ≡ Some d → is_some d.end ≡ true
over_by k d there =
    let both : Some k.call ≡ Some d = sym k.there ∙ there in
    let one : k.call ≡ d = (cc) in ap (λ (c : Call). is_some c.end) (sym one) ∙ k.ended

module _ (waits : Line → Bool) (n : ℕ) (why : EndCause) (x : StateSeen) (o : OpenEntry) (s : Seen) (is : IsToEnd waits n why x o s) where
  abbrev u : Seen
  u = (resets waits n why x o s is).seen

  abbrev now : StateSeen
  now = w waits n why x o s is

  g : GoesApart n s u
  g = goes_apart waits n why x o s is (on waits n why x o s is).kept

  columns : SeesColumns now.book.ledger u
  columns = columns_on waits n why x o s is g (gone.links_on waits n why x o s is)

  books : BooksApart n x now u
  books = record {
    entry_is = (clock_on waits n why x o s is).entry_is;
    columns = columns;
    buckets = buckets_on waits n why x o s is;
    slots = λ k e. others_slots waits n why x o s is k e;
  }

  count : length u.calls ≡ length now.book.calls
  count =
      sym (length-map u.calls (call_seen u)) ∙ ap (λ (l : List CallSeen). length l) (columns.calls ∙ calls_are waits n why x o s is)
      ∙ changed_length _ x.book.ledger.calls (slot waits n why x o s is).call.number ∙ sym (ap (λ (l : List CallSeen). length l) is.agrees.columns.calls)
      ∙ length-map s.calls (call_seen s) ∙ is.agrees.calls.count ∙ sym (set_length x.book.calls _ (slot_closed why x (slot waits n why x o s is)))

  calls : SeesCalls now u
  calls = all_calls_stay n x now s u g books is.agrees.calls count (own_slot waits n why x o s is)

  sets : SeesSets now u
  sets = record {
    queue = queue_on waits n why x o s is;
    ready_waiters = wait_for_ready_on waits n why x o s is;
    dues = (timers_on waits n why x o s is).dues;
    deadlines = (timers_on waits n why x o s is).deadlines;
    awaiting_config = (timers_on waits n why x o s is).awaiting_config;
    fail_fast = (timers_on waits n why x o s is).fail_fast;
    outstanding = outstanding_on waits n why x o s is;
    resets = is.agrees.sets.resets;
  }

  agrees : Agrees (closed why n x) u
  agrees = subst (λ (z : StateSeen). Agrees z u) (sym (whole waits n why x o s is)) (record {
    clock = clock_on waits n why x o s is;
    columns = columns;
    configs = configs_on waits n why x o s is;
    buckets = buckets_on waits n why x o s is;
    calls = calls;
    links = links_on waits n why x o s is;
    net = (on waits n why x o s is).net;
    orderly = is.agrees.orderly;
    sets = sets;
    kept = (on waits n why x o s is).kept;
  })

  pub has_ended : HasEnded waits n why x o s
  has_ended = record {
    actions = (on waits n why x o s is).actions;
    seen = u;
    does = (on waits n why x o s is).does;
    posts = (on waits n why x o s is).posts;
    entries = (on waits n why x o s is).rest.entries;
    setup = (on waits n why x o s is).rest.setup;
    current = (on waits n why x o s is).current;
    still = (on waits n why x o s is).still;
    unreset = (on waits n why x o s is).unreset;
    links = (same waits n why x o s is).links;
    agrees = agrees;
  }

  pub whole_end_ahead : WholeEnd waits n why x o s
  unfolding has_ended
  whole_end_ahead = record {
    ended = has_ended;
    rest = (on waits n why x o s is).rest;
    apart = g;
    over = λ d there. over_by (done waits n why x o s is) d there;
    long = count ∙ set_length x.book.calls _ (slot_closed why x (slot waits n why x o s is)) ∙ sym is.agrees.calls.count;
  }

pub one_call_ends_ahead : OneCallEndsAhead
one_call_ends_ahead waits n why x o s is = has_ended waits n why x o s is

pub whole_end : (waits : Line → Bool) (n : ℕ) (why : EndCause) (x : StateSeen) (o : OpenEntry) (s : Seen) → EndsNext waits n why x o s → WholeEnd waits n why x o s
whole_end waits n why x o s is = whole_end_ahead waits n why x o s (to_end waits n why x o s is)

pub one_call_ends : OneCallEnds
one_call_ends waits n why x o s is = has_ended waits n why x o s (to_end waits n why x o s is)
