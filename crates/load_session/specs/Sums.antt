-- What a journal and its ledger come to.
use Rattle.std.specs.Prelude.{ℕ, Bool, true, false, not, ◌==◌, if◌then◌else◌, Option, Some, None, List, [], ◌∷◌, length, map}
use Rattle.std.specs.List.{count_by, range_with_len}
use Rattle.std.specs.Option.{is_none, option_or}
use Rattle.grpc_base.specs.Codes.{code_number}
use Rattle.grpc_base.specs.declared.event.Entry.{Entry}
use Rattle.grpc_base.specs.declared.event.Event.{Event}
use Rattle.grpc_base.specs.declared.event.Event.TheVariants as event
use Rattle.grpc_base.specs.declared.event.Reply.{Reply}
use Rattle.grpc_base.specs.declared.event.Reply.TheVariants as reply
use Rattle.attempt_ledger.specs.declared.journal.Journal.{Journal}
use Rattle.attempt_ledger.specs.declared.ledger.Ledger.{Ledger}
use Rattle.attempt_ledger.specs.declared.row.Row.{Row}
use Rattle.attempt_ledger.specs.declared.row.RowKind.{RowKind}
use Rattle.attempt_ledger.specs.declared.row.RowKind.TheVariants as kind
use Rattle.load_plan.specs.declared.load.Load.{Load}
use Rattle.load_plan.specs.declared.summary.LoadSummary.{LoadSummary}
use Rattle.load_session.specs.declared.ends.Outcome.{Outcome}
use Rattle.load_session.specs.declared.ends.Outcome.TheVariants as outcome

-- the call of which an event takes
abbrev pub call_taken : Event → Option ℕ
call_taken (event.Take call) = Some call
call_taken _ = None

-- the code of an end
abbrev pub end_code : Reply → Option ℕ
end_code (reply.End code text meta cause) = Some (code_number code)
end_code _ = None

-- the code of the end that an entry took of a call, if it did
abbrev pub end_by : ℕ → Option ℕ → Option ℕ → Option ℕ
end_by call None code = None
end_by call (Some c) code = if c == call then code else None

abbrev pub end_at : ℕ → Entry → Option ℕ
end_at call e = end_by call (call_taken e.event) (end_code e.reply)

-- the code of the first end that was taken of a call
abbrev pub first_end : List Entry → ℕ → Option ℕ
first_end [] call = None
first_end (e ∷ entries) call = option_or (end_at call e) (first_end entries call)

-- how a call came out: its end was taken and has code 0, was taken and has another code, or was not taken
abbrev pub is_zero : Option ℕ → Bool
is_zero None = false
is_zero (Some code) = code == 0

abbrev pub is_other : Option ℕ → Bool
is_other None = false
is_other (Some code) = not (code == 0)

abbrev pub has_outcome : Outcome → Option ℕ → Bool
has_outcome outcome.Well end = is_zero end
has_outcome outcome.Failed end = is_other end
has_outcome outcome.Open end = is_none end

-- how many calls of a load came out so; they have the numbers from 1
abbrev pub calls_with : Outcome → ℕ → List Entry → ℕ
calls_with o calls entries = count_by (has_outcome o) (map (first_end entries) (range_with_len 1 calls))

-- how many rows are of a kind
abbrev pub is_kind : RowKind → RowKind → Bool
is_kind kind.First kind.First = true
is_kind kind.Retry kind.Retry = true
is_kind kind.Hedge kind.Hedge = true
is_kind kind.Transparent kind.Transparent = true
is_kind _ _ = false

abbrev pub rows_with : RowKind → List Row → ℕ
rows_with k rows = count_by (λ row. is_kind k row.kind) rows

-- what journal and ledger of a load's session come to
abbrev pub summary_of : Load → Journal → Ledger → LoadSummary
summary_of load journal ledger = record {
  seed = load.seed;
  calls = load.calls;
  entries = length journal.entries;
  rows = length ledger.rows;
  ok = calls_with outcome.Well load.calls journal.entries;
  failed = calls_with outcome.Failed load.calls journal.entries;
  «open» = calls_with outcome.Open load.calls journal.entries;
  retries = rows_with kind.Retry ledger.rows;
  transparent = rows_with kind.Transparent ledger.rows;
}
