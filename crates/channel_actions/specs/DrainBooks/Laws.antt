-- What a drain leaves as it was, beside links and buffers: the sets that a channel keeps in order, the tokens of its buckets, and its ledger but for the rows.
-- Example: HEADERS are written for attempt 1 of call 1. No attempt is queued, due or outstanding that was not before, no tokens are taken, and no link is gone by it.
use Rattle.std.specs.Prelude.{List, is_some, map, ℕ, ◌≡◌}
use Rattle.channel_actions.specs.Columns.{links_noted}
use Rattle.channel_actions.specs.Configs.{SeesBuckets}
use Rattle.channel_actions.specs.Sets.{SeesSets}
use Rattle.channel_core.specs.States.{StateSeen}
use Rattle.channel_core.specs.Tables.{BucketsSeen}
use Rattle.call_actions.specs.Order.{AttemptsAreNumbered}
use Rattle.channel_actions.specs.DrainCalls.Laws.{IsOnlyStreamed}
use Rattle.channel_actions.specs.DrainWrites.Laws.{with_all_sent}
use Rattle.session_actions.specs.Sessions.{call_seen}
use Rattle.session_actions.specs.Words.{changed}
use Rattle.session_actions.specs.declared.link.Sent.{Sent}
use Rattle.session_actions.specs.declared.seen.Seen.{Seen}

-- the sets of two channels are the same
pub record SetsAreSame (x y : StateSeen) : Type 0 where
  pub queue : y.queue ≡ x.queue
  pub ready_waiters : y.ready_waiters ≡ x.ready_waiters
  pub dues : y.dues ≡ x.dues
  pub deadlines : y.deadlines ≡ x.deadlines
  pub awaiting_config : y.awaiting_config ≡ x.awaiting_config
  pub fail_fast : y.fail_fast ≡ x.fail_fast
  pub outstanding : y.outstanding ≡ x.outstanding
  pub resets : y.resets ≡ x.resets

abbrev pub SetsStay : Type 0
SetsStay = (x y : StateSeen) (s t : Seen) → AttemptsAreNumbered 1 s.attempts → IsOnlyStreamed s t → SetsAreSame x y → SeesSets x s → SeesSets y t

abbrev pub BucketsStay : Type 0
BucketsStay = (b : BucketsSeen) (s t : Seen) → AttemptsAreNumbered 1 s.attempts → IsOnlyStreamed s t → SeesBuckets b s → SeesBuckets b t

-- of the ledger: the calls, and the links, also those that are gone
abbrev pub CallColumnsStay : Type 0
CallColumnsStay = (s t : Seen) → AttemptsAreNumbered 1 s.attempts → IsOnlyStreamed s t → map (call_seen t) t.calls ≡ map (call_seen s) s.calls

abbrev pub LinkColumnsStay : Type 0
LinkColumnsStay =
    (s t : Seen) (sent : List Sent) (link : ℕ) → AttemptsAreNumbered 1 s.attempts → IsOnlyStreamed s t → t.links ≡ changed (with_all_sent sent) link s.links
    → is_some t.current ≡ is_some s.current → links_noted t ≡ links_noted s
