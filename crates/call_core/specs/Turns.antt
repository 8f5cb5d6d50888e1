-- Nobody has to believe these steps: what is left of a turn once a call took a step of it.
use Rattle.std.specs.Prelude.{ℕ, Option, List, []}
use Rattle.grpc_base.specs.declared.code.Code.{Code}
use Rattle.grpc_base.specs.declared.plan.Pushback.TheVariants as pushback
use Rattle.attempt_ledger.specs.declared.ledger.Ledger.{Ledger}
use Rattle.attempt_ledger.specs.declared.news.EndNews.{EndNews}
use Rattle.attempt_ledger.specs.declared.row.RowCause.{RowCause}
use Rattle.a6_numbers.specs.Throttling.{Bucket}
use Rattle.call_core.specs.declared.act.CallAct.{CallAct}
use Rattle.call_core.specs.declared.state.CallState.{CallState}
use Rattle.call_core.specs.declared.turn.Turn.{Turn}
use Rattle.call_core.specs.Parts.{is_unsent}
use Rattle.call_core.specs.Steps.{Stepped, lent}

-- a call, its ledger and its turn
pub record Left : Type 0 where
  pub call : CallState
  pub ledger : Ledger
  pub turn : Turn

abbrev pub left : CallState → Ledger → Turn → Left
left call ledger turn = record { call = call; ledger = ledger; turn = turn }

-- a call with what it is lent for a turn
abbrev pub lent_at : CallState → Ledger → Option Bucket → Turn → Stepped
lent_at call ledger tokens turn = lent call ledger tokens turn.acts

-- what a step leaves: of the turn its acts alone change
abbrev pub reported : List CallAct → Turn → Turn
reported acts turn = record turn { acts = acts }

abbrev pub goes : Stepped → Turn → Left
goes s turn = left s.call s.ledger (reported s.acts turn)

-- an end that the client makes itself
abbrev pub own_end : Code → RowCause → ℕ → EndNews
own_end code cause seen = record { code = code; text = []; meta = []; pushback = pushback.None; unseen = is_unsent cause; seen = seen; cause = cause }
