-- Which ends a transparent retry follows (gRFC A6, "Transparent Retries").
use Rattle.std.specs.Prelude.{◌≡◌, ℕ, ◌+◌, Bool, not, ◌&&◌, ◌||◌, if◌then◌else◌, Some, None, is_some, [], ◌∷◌, ◌++◌, length}
use Rattle.attempt_ledger.specs.TransparentRows.{is_by_peer, is_unsent}
use Rattle.attempt_ledger.specs.declared.news.EndNews.{EndNews}
use Rattle.attempt_ledger.specs.declared.row.Row.{Row}
use Rattle.attempt_ledger.specs.declared.row.RowKind.TheVariants as kind
use Rattle.call_core.specs.declared.act.CallAct.TheVariants as act
use Rattle.call_core.specs.declared.attempts.Attempts.{Attempts}
use Rattle.call_core.specs.declared.live.LiveRow.{LiveRow}
use Rattle.call_core.specs.Parts.{names}
use Rattle.call_core.specs.Rows.{row_in}
use Rattle.call_core.specs.Steps.{Stepped}

-- an attempt that never left the client is always retried; one that the peer ended and the server can't have seen, once a call and
-- before the commitment
abbrev pub is_retried : EndNews → Attempts → Bool
is_retried reported a = is_unsent reported.cause || (is_by_peer reported.cause && reported.unseen && not (is_some a.committed) && not a.is_refusal_followed)

-- the retry stands after all other rows and joins the queue: it has the number of the attempt, is due at once, takes over its
-- commitment and costs no token
pub record IsRetried (live : LiveRow) (moment : ℕ) (s t : Stepped) : Type 0 where
  pub row : Row
  pub there : row_in t.ledger.rows (length s.ledger.rows + 1) ≡ Some row
  pub call : row.call ≡ s.call.number
  pub number : row.number ≡ live.number
  pub kind : row.kind ≡ kind.Transparent
  pub due : row.due ≡ moment
  pub committed : row.committed ≡ (if names live.place s.call.attempts.committed then Some s.ledger.entry else None)
  pub queued : t.acts ≡ s.acts ++ act.Queue (length s.ledger.rows + 1) ∷ []
  pub tokens : t.tokens ≡ s.tokens
