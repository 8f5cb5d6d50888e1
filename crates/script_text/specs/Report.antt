-- The report of a session, of version 2: the channel line, a line for each entry, a line for each row, and the end line.
use Rattle.std.specs.Prelude.{ℕ, Option, Some, None, List, [], ◌∷◌, ◌++◌, map, length, codes, decimal}
use Rattle.grpc_base.specs.declared.event.Entry.{Entry}
use Rattle.grpc_base.specs.declared.plan.Pushback.{Pushback}
use Rattle.grpc_base.specs.declared.plan.Pushback.TheVariants as pushback
use Rattle.grpc_base.specs.Codes.{code_number}
use Rattle.attempt_ledger.specs.Journals.{stamped_of}
use Rattle.attempt_ledger.specs.declared.journal.Journal.{Journal}
use Rattle.attempt_ledger.specs.declared.ledger.Ledger.{Ledger}
use Rattle.attempt_ledger.specs.declared.row.Row.{Row}
use Rattle.attempt_ledger.specs.declared.row.RowEnd.{RowEnd}
use Rattle.attempt_ledger.specs.declared.row.Placed.{Placed}
use Rattle.attempt_ledger.specs.declared.row.RowKind.{RowKind}
use Rattle.attempt_ledger.specs.declared.row.RowKind.TheVariants as kind
use Rattle.attempt_ledger.specs.declared.row.RowCause.{RowCause}
use Rattle.attempt_ledger.specs.declared.row.RowCause.TheVariants as cause
pub use Rattle.script_text.specs.Spelling.{channel_text, lines_text}
use Rattle.script_text.specs.Spelling.{dash, number_or_dash, reply_words, stamped_text, words}

-- an entry: a line of a script with the step's moment, and after ` = ` the reply
abbrev pub entry_text : Entry → List ℕ
entry_text e = stamped_text (stamped_of e) ++ codes " = " ++ words (reply_words e.reply)

-- why an attempt was made
abbrev pub kind_text : RowKind → List ℕ
kind_text kind.First = codes "first"
kind_text kind.Retry = codes "retry"
kind_text kind.Hedge = codes "hedge"
kind_text kind.Transparent = codes "transparent"

-- why an attempt ended
abbrev pub row_cause_text : RowCause → List ℕ
row_cause_text cause.Status = codes "status"
row_cause_text cause.Http = codes "http"
row_cause_text cause.Reset = codes "reset"
row_cause_text cause.Framing = codes "framing"
row_cause_text cause.Lost = codes "lost"
row_cause_text cause.Goaway = codes "goaway"
row_cause_text cause.Unsent = codes "unsent"
row_cause_text cause.Pick = codes "pick"
row_cause_text cause.Cut = codes "cut"

-- what a server asks of the next retry
abbrev pub pushback_text : Pushback → List ℕ
pushback_text pushback.None = dash
pushback_text (pushback.After ms) = decimal ms
pushback_text pushback.Stop = codes "stop"

-- where an attempt was placed: entry, generation, subchannel and link
abbrev pub placed_words : Option Placed → List (List ℕ)
placed_words None = dash ∷ dash ∷ dash ∷ dash ∷ []
placed_words (Some p) = decimal p.entry ∷ decimal p.generation ∷ decimal p.sub ∷ decimal p.link ∷ []

-- how it ended: entry, code, pushback, bytes seen and cause
abbrev pub ended_words : Option RowEnd → List (List ℕ)
ended_words None = dash ∷ dash ∷ dash ∷ dash ∷ dash ∷ []
ended_words (Some e) = decimal e.entry ∷ decimal (code_number e.code) ∷ pushback_text e.pushback ∷ decimal e.seen ∷ row_cause_text e.cause ∷ []

-- the tokens after its end, where its call has throttling, and the random word of the wait before its retry, where one was drawn
abbrev pub drawn_words : Option RowEnd → List (List ℕ)
drawn_words None = dash ∷ dash ∷ []
drawn_words (Some e) = number_or_dash e.tokens ∷ number_or_dash e.word ∷ []

-- a row
abbrev pub row_text : Row → List ℕ
row_text r =
    words (codes "row" ∷ decimal r.call ∷ decimal r.number ∷ kind_text r.kind ∷ decimal r.due
    ∷ placed_words r.placed ++ number_or_dash r.stream ∷ ended_words r.ended ++ number_or_dash r.committed ∷ drawn_words r.ended)

-- the end line: how many entries, calls, rows and links there are
abbrev pub end_text : Journal → Ledger → List ℕ
end_text journal ledger =
    words (codes "end" ∷ decimal (length journal.entries) ∷ decimal (length ledger.calls) ∷ decimal (length ledger.rows) ∷ decimal (length ledger.links) ∷ [])

-- the report of a target, a journal and a ledger
abbrev pub report_of : List ℕ → Journal → Ledger → List ℕ
report_of target journal ledger =
    lines_text (channel_text target ∷ map entry_text journal.entries ++ map row_text ledger.rows ++ end_text journal ledger ∷ [])
