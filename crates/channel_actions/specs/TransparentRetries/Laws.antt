-- How often a call is retried transparently (gRFC A6, "Transparent Retries"), and so how many attempts and streams there may be. A session is any list of actions from a new
-- one, each of which is the one that follows; between two entries or not.
-- Example: attempt 1 of a call waits on link 1, which is lost. It never left the client, and row 2 follows it, of number 1 too. Row 2 is placed on link 2, and is refused: row
-- 3 follows it. Row 3 waits on link 3, which gets GOAWAY: row 4 follows it. Row 4 is refused, and no row follows. Links 1 and 3 take no further attempt, so each link
-- brings one such retry of this number at most.
use Rattle.attempt_ledger.specs.Numbering.{most_attempts}
use Rattle.attempt_ledger.specs.TransparentRows.{is_unsent}
use Rattle.attempt_ledger.specs.declared.row.Placed.{Placed}
use Rattle.session_actions.specs.Attempts.{is_followed, was_refused}
use Rattle.session_actions.specs.Configs.{plan_of}
use Rattle.session_actions.specs.Entries.{entry}
use Rattle.session_actions.specs.Reading.{opened_streams}
use Rattle.session_actions.specs.Sessions.{Does, new_session}
use Rattle.session_actions.specs.Words.{holds, numbered}
use Rattle.session_actions.specs.Writing.{waiting_on}
use Rattle.session_actions.specs.declared.action.Action.{Action}
use Rattle.session_actions.specs.declared.attempt.Attempt.{Attempt}
use Rattle.session_actions.specs.declared.call.Call.{Call}
use Rattle.session_actions.specs.declared.link.Link.{Link}
use Rattle.session_actions.specs.declared.seen.Seen.{Seen}
use Rattle.session_actions.specs.declared.seen.Setup.{Setup}
use Rattle.std.specs.Prelude.{Bool, List, Some, length, true, ℕ, ◌*◌, ◌+◌, ◌<◌, ◌^◌, ◌≡◌, ◌≤◌}

-- of a call one attempt at most is retried because the server did not process it
abbrev pub RefusedOnce : Type 0
RefusedOnce =
    (setup : Setup) (actions : List Action) (s : Seen) → Does actions (new_session setup) s → (i j : ℕ) (a b : Attempt) → numbered s.attempts i ≡ Some a
    → numbered s.attempts j ≡ Some b → a.row.call ≡ b.row.call → was_refused a ≡ true → is_followed a s ≡ true → was_refused b ≡ true → is_followed b s ≡ true → i ≡ j

-- of the attempts of one number of a call one at most never left the client on a link
abbrev pub was_unsent : Attempt → Bool
was_unsent a = holds (λ e. is_unsent e.cause) a.row.ended

abbrev pub UnsentOncePerLink : Type 0
UnsentOncePerLink =
    (setup : Setup) (actions : List Action) (s : Seen) → Does actions (new_session setup) s → (i j : ℕ) (a b : Attempt) (at to : Placed) → numbered s.attempts i ≡ Some a
    → numbered s.attempts j ≡ Some b → a.row.call ≡ b.row.call → a.row.number ≡ b.row.number → was_unsent a ≡ true → was_unsent b ≡ true → a.row.placed ≡ Some at
    → b.row.placed ≡ Some to → at.link ≡ to.link → i ≡ j

-- (a plan allows 5 attempts at most: gRFC A6, "Maximum Number of Retries")
abbrev pub PlansAreShort : Seen → Type 0
PlansAreShort s = (k : ℕ) (c : Call) → numbered s.calls k ≡ Some c → most_attempts (plan_of c s) ≤ 5

-- so a session within the limit of its journal, of 1,048,576 entries, has fewer than 7 * 2^40 attempts. There are 5 numbers of each of 1,048,576 calls, and of each number one
-- attempt for each of 1,048,576 links, one that was refused, and the last one
abbrev pub AttemptsAreBounded : Type 0
AttemptsAreBounded =
    (setup : Setup) (actions : List Action) (s : Seen) → Does actions (new_session setup) s → entry s ≤ 1048576 → PlansAreShort s → length s.attempts < 7 * 2 ^ 40

-- and opens fewer than 2^30 streams on a link, as many as it has for a client (RFC 9113, section 5.1.1): only the last attempt of a number, and one that was refused, have a
-- stream or may still get one
abbrev pub StreamsAreBounded : Type 0
StreamsAreBounded =
    (setup : Setup) (actions : List Action) (s : Seen) → Does actions (new_session setup) s → entry s ≤ 1048576 → PlansAreShort s → (link : ℕ) (l : Link)
    → numbered s.links link ≡ Some l → length (opened_streams l) + length (waiting_on l s) < 2 ^ 30
