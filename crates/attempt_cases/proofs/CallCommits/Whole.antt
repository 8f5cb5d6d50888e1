-- One call is committed, and channel and session agree again.
use Rattle.std.proofs.Common.{◌≡◌, ◌++◌, ap, subst, sym, ◌∙◌, Bool, List, length, map, ℕ}
use Rattle.std.proofs.lemmas.List.{length-map}
use Rattle.attempt_ledger.specs.declared.ledger.CallSeen.{CallSeen}
use Rattle.call_core.specs.declared.inbox.Inbox.{Inbox}
use Rattle.call_cases.proofs.OtherCalls.Slots.{all_calls_stay}
use Rattle.channel_actions.proofs.Links.Settings.Slots.{set_length}
use Rattle.channel_actions.specs.Agrees.{Agrees}
use Rattle.channel_actions.specs.Calls.{SeesCalls}
use Rattle.channel_actions.specs.Columns.{SeesColumns}
use Rattle.call_cases.specs.OtherCalls.Others.{BooksApart, GoesApart}
use Rattle.channel_actions.specs.Sets.{SeesSets}
use Rattle.attempt_cases.proofs.CallCommits.Alone.{buckets_on, goes_apart}
use Rattle.attempt_cases.proofs.CallCommits.Along.{same}
use Rattle.attempt_cases.proofs.CallCommits.Gone as gone
use Rattle.attempt_cases.proofs.CallCommits.Linked.{clock_on, configs_on, links_on, slot, w, whole}
use Rattle.attempt_cases.proofs.CallCommits.On as on_
use Rattle.attempt_cases.proofs.CallCommits.On.{kept_on, net_on, on, posts, resets, their}
use Rattle.attempt_cases.proofs.CallCommits.Own.{calls_are, columns_on, others_slots, own_slot, slot_now}
use Rattle.attempt_cases.proofs.CallCommits.Rows.{outstanding_on, wait_for_ready_on, queue_on}
use Rattle.attempt_cases.proofs.CallCommits.Timers.{timers_on}
use Rattle.attempt_cases.specs.CallCommits.Commits.{CommitsNext, HasCommitted, committed_state}
use Rattle.attempt_cases.specs.CallCommits.Laws.{OneCallCommits}
use Rattle.channel_core.specs.States.{StateSeen}
use Rattle.session_actions.specs.Sessions.{call_seen}
use Rattle.session_actions.specs.declared.action.CommitCause.{CommitCause}
use Rattle.session_actions.specs.declared.entry.OpenEntry.{OpenEntry}
use Rattle.session_actions.specs.declared.seen.Seen.{Seen}
use Rattle.session_order.specs.declared.line.Line.{Line}

module _ (waits : Line → Bool) (n : ℕ) (why : CommitCause) (inbox : Inbox) (x : StateSeen) (o : OpenEntry) (s : Seen) (is : CommitsNext waits n why inbox x o s) where
  abbrev u : Seen
  u = on_.u waits n why inbox x o s is

  abbrev now : StateSeen
  now = w waits n why inbox x o s is

  g : GoesApart n s u
  g = goes_apart waits n why inbox x o s is

  columns : SeesColumns now.book.ledger u
  columns = columns_on waits n why inbox x o s is g (gone.links_on waits n why inbox x o s is)

  books : BooksApart n x now u
  books = record {
    entry_is = (clock_on waits n why inbox x o s is).entry_is;
    columns = columns;
    buckets = buckets_on waits n why inbox x o s is;
    slots = λ k e. others_slots waits n why inbox x o s is k e;
  }

  count : length u.calls ≡ length now.book.calls
  count =
      sym (length-map u.calls (call_seen u)) ∙ ap (λ (l : List CallSeen). length l) (columns.calls ∙ calls_are waits n why inbox x o s is ∙ sym is.agrees.columns.calls)
      ∙ length-map s.calls (call_seen s) ∙ is.agrees.calls.count ∙ sym (set_length x.book.calls _ (slot_now waits n why inbox x o s is))

  calls : SeesCalls now u
  calls = all_calls_stay n x now s u g books is.agrees.calls count (own_slot waits n why inbox x o s is)

  sets : SeesSets now u
  sets = record {
    queue = queue_on waits n why inbox x o s is;
    ready_waiters = wait_for_ready_on waits n why inbox x o s is;
    dues = (timers_on waits n why inbox x o s is).dues;
    deadlines = (timers_on waits n why inbox x o s is).deadlines;
    awaiting_config = (timers_on waits n why inbox x o s is).awaiting_config;
    fail_fast = (timers_on waits n why inbox x o s is).fail_fast;
    outstanding = outstanding_on waits n why inbox x o s is;
    resets = is.agrees.sets.resets;
  }

  agrees : Agrees (committed_state n is.attempt.place inbox x) u
  agrees = subst (λ (z : StateSeen). Agrees z u) (sym (whole waits n why inbox x o s is)) (record {
    clock = clock_on waits n why inbox x o s is;
    columns = columns;
    configs = configs_on waits n why inbox x o s is;
    buckets = buckets_on waits n why inbox x o s is;
    calls = calls;
    links = links_on waits n why inbox x o s is;
    net = net_on waits n why inbox x o s is;
    orderly = is.agrees.orderly;
    sets = sets;
    kept = kept_on waits n why inbox x o s is;
  })

  pub has_committed : HasCommitted waits n is.attempt.place why inbox x o s
  has_committed = record {
    actions = their waits n why inbox x o s is ++ (resets waits n why inbox x o s is).actions;
    seen = u;
    does = (on waits n why inbox x o s is).does;
    posts = posts waits n why inbox x o s is;
    entries = (on waits n why inbox x o s is).rest.entries;
    setup = (on waits n why inbox x o s is).rest.setup;
    current = (on waits n why inbox x o s is).current;
    still = (on waits n why inbox x o s is).still;
    unreset = (resets waits n why inbox x o s is).unreset;
    links = (same waits n why inbox x o s is).links;
    agrees = agrees;
  }

pub one_call_commits : OneCallCommits
one_call_commits waits n why inbox x o s is = has_committed waits n why inbox x o s is
