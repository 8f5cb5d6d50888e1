-- How the live rows of a call stand in the ledger.
use Rattle.std.specs.Prelude.{◌≡◌, ℕ, zero, suc, false, Option, Some, None, List, [], ◌∷◌, slice_get}
use Rattle.attempt_ledger.specs.declared.ledger.LinkSeen.{LinkSeen}
use Rattle.attempt_ledger.specs.declared.news.EndNews.{EndNews}
use Rattle.attempt_ledger.specs.declared.row.Placed.{Placed}
use Rattle.attempt_ledger.specs.declared.row.Row.{Row}
use Rattle.attempt_ledger.specs.declared.row.RowEnd.{RowEnd}
use Rattle.call_core.specs.declared.live.LiveRow.{LiveRow}
use Rattle.call_core.specs.Parts.{cut_end, names, read_of}
use Rattle.call_core.specs.Steps.{Stepped}

-- the row at a place, which counts from 1
abbrev pub row_in : List Row → ℕ → Option Row
row_in rows zero = None
row_in rows (suc index) = slice_get rows index

-- a row was placed exactly where it has a link, and on that link
abbrev pub IsOnLink : Option Placed → Option ℕ → Type 0
IsOnLink None None = Unit {0}
IsOnLink (Some placed) (Some link) = placed.link ≡ link
IsOnLink _ _ = ⊥

-- a live row stands in the ledger: there it is a row of this call, of this number, and hasn't ended
pub record IsStanding (owner : ℕ) (rows : List Row) (live : LiveRow) : Type 0 where
  pub row : Row
  pub there : row_in rows live.place ≡ Some row
  pub call : row.call ≡ owner
  pub number : row.number ≡ live.number
  pub ended : row.ended ≡ None
  pub placed : IsOnLink row.placed live.link

abbrev pub LiveRowsStand : ℕ → List Row → List LiveRow → Type 0
LiveRowsStand call rows [] = Unit {0}
LiveRowsStand call rows (row ∷ live) = IsStanding call rows row × LiveRowsStand call rows live

-- the law of live rows
abbrev pub IsTied : Stepped → Type 0
IsTied s = LiveRowsStand s.call.number s.ledger.rows s.call.live

-- the row at a place has the end that was reported of it, in this entry, at this moment
pub record HasReportedEnd (reported : EndNews) (at_entry at_moment : ℕ) (rows : List Row) (place : ℕ) : Type 0 where
  pub row : Row
  pub there : row_in rows place ≡ Some row
  pub end : RowEnd
  pub ended : row.ended ≡ Some end
  pub entry : end.entry ≡ at_entry
  pub moment : end.moment ≡ at_moment
  pub code : end.code ≡ reported.code
  pub text : end.text ≡ reported.text
  pub meta : end.meta ≡ reported.meta
  pub pushback : end.pushback ≡ reported.pushback
  pub unseen : end.unseen ≡ reported.unseen
  pub seen : end.seen ≡ reported.seen
  pub cause : end.cause ≡ reported.cause

-- no live row stands at this place; no two live rows stand at one place
abbrev pub IsOff : ℕ → List LiveRow → Type 0
IsOff place [] = Unit {0}
IsOff place (row ∷ live) = (place ≡ row.place → ⊥) × IsOff place live

abbrev pub LiveRowsAreApart : List LiveRow → Type 0
LiveRowsAreApart [] = Unit {0}
LiveRowsAreApart (row ∷ live) = IsOff row.place live × LiveRowsAreApart live

pub record IsApart (s : Stepped) : Type 0 where
  pub tied : IsTied s
  pub apart : LiveRowsAreApart s.call.live

-- the row at a place has this end
pub record HasEnd (rows : List Row) (place : ℕ) (end : RowEnd) : Type 0 where
  pub row : Row
  pub there : row_in rows place ≡ Some row
  pub ended : row.ended ≡ Some end

-- each of these rows that had a link, but for the one that is kept, was cut in this entry: its end has what was read of its link
abbrev pub RowsAreCut : Option ℕ → ℕ → ℕ → Option ℕ → List LinkSeen → List Row → List LiveRow → Type 0
RowsAreCut kept entry moment tokens links rows [] = Unit {0}
RowsAreCut kept entry moment tokens links rows (row ∷ live) =
    (names row.place kept ≡ false → (link : ℕ) → row.link ≡ Some link → HasEnd rows row.place (cut_end entry moment (read_of links link) tokens))
    × RowsAreCut kept entry moment tokens links rows live

-- what is done to other calls, and a stream that a row gets, leave of each row of a call what names it, its placing and its end
pub record IsKeptIn (rows : List Row) (place : ℕ) (old : Row) : Type 0 where
  pub row : Row
  pub there : row_in rows place ≡ Some row
  pub call : row.call ≡ old.call
  pub number : row.number ≡ old.number
  pub ended : row.ended ≡ old.ended
  pub placed : row.placed ≡ old.placed

abbrev pub KeepsRows : ℕ → List Row → List Row → Type 0
KeepsRows call rows after =
    (place : ℕ) (row : Row) → row_in rows place ≡ Some row → row.call ≡ call → IsKeptIn after place row
