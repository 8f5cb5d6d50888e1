-- The line that sums a load up.
use Rattle.std.specs.Prelude.{ℕ, List, ◌++◌, codes, decimal}
use Rattle.load_plan.specs.declared.summary.LoadSummary.{LoadSummary}

-- a word and a number
unfoldable pub counted : List ℕ → ℕ → List ℕ
counted word number = word ++ decimal number

-- `load <seed> calls <m> entries <e> rows <r> ok <a> failed <f> open <o> retries <t> transparent <x>`
abbrev pub summary_line : LoadSummary → List ℕ
summary_line s =
    counted (codes "load ") s.seed
    ++ counted (codes " calls ") s.calls
    ++ counted (codes " entries ") s.entries
    ++ counted (codes " rows ") s.rows
    ++ counted (codes " ok ") s.ok
    ++ counted (codes " failed ") s.failed
    ++ counted (codes " open ") s.open
    ++ counted (codes " retries ") s.retries
    ++ counted (codes " transparent ") s.transparent
