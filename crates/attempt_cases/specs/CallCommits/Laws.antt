-- Calls that are committed: one, by a head or by overflow; and what `call_sends` asks of the Send that commits its call.
-- Example: call 1 has no room for a message but that of a committed call, and is sent one: CallCommitted of the attempt that was drained furthest is next. Its other
-- attempts are cut off, their streams are reset, and channel and session agree again.
use Rattle.std.specs.Prelude.{Bool, ℕ}
use Rattle.call_core.specs.declared.inbox.Inbox.{Inbox}
use Rattle.attempt_cases.specs.CallCommits.Commits.{CommitsNext, HasCommitted}
use Rattle.channel_actions.specs.Stages.{EventsAnswered}
use Rattle.call_cases.specs.CallSends.Laws.{CallsCommitAlike, IsSend}
use Rattle.channel_core.specs.States.{StateSeen}
use Rattle.session_actions.specs.declared.action.CommitCause.{CommitCause}
use Rattle.session_actions.specs.declared.entry.OpenEntry.{OpenEntry}
use Rattle.session_actions.specs.declared.seen.Seen.{Seen}
use Rattle.session_order.specs.declared.line.Line.{Line}

-- one call is committed, and channel and session agree again
abbrev pub OneCallCommits : Type 0
OneCallCommits =
    (waits : Line → Bool) (number : ℕ) (why : CommitCause) (inbox : Inbox) (x : StateSeen) (o : OpenEntry) (s : Seen) → (is : CommitsNext waits number why inbox x o s)
    → HasCommitted waits number is.attempt.place why inbox x o s

-- so a Send that commits its call does
abbrev pub SendsCommit : Type 0
SendsCommit = CallsCommitAlike

-- and every Send of a call that is there is answered: the application's message is accepted, or answered with what the call holds, or refused; or it ends or commits
-- the call
abbrev pub SendsAreAnswered : Type 0
SendsAreAnswered = EventsAnswered IsSend
