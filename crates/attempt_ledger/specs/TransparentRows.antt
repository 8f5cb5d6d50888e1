-- The law of transparent retries (gRFC A6, "Transparent Retries").
use Rattle.std.specs.Prelude.{◌≡◌, ℕ, Bool, true, false, not, ◌&&◌, ◌||◌, ◌==◌, nat_lt, List, length}
use Rattle.std.specs.Bool.{OnTrue}
use Rattle.std.specs.List.{list_any}
use Rattle.std.specs.Option.{is_none, option_map_or}
use Rattle.attempt_ledger.specs.declared.row.Row.{Row}
use Rattle.attempt_ledger.specs.declared.row.RowCause.{RowCause}
use Rattle.attempt_ledger.specs.declared.row.RowCause.TheVariants as cause
use Rattle.attempt_ledger.specs.declared.row.RowEnd.{RowEnd}
use Rattle.attempt_ledger.specs.Ends.{some_row, ended_by, is_followed}
use Rattle.attempt_ledger.specs.Numbering.{is_transparent}

-- the request never left the client: such an attempt is retried whenever it happens
abbrev pub is_unsent : RowCause → Bool
is_unsent cause.Unsent = true
is_unsent _ = false

-- the peer ended the stream without a response; where the server can't have seen the request, it is retried once a call
abbrev pub is_by_peer : RowCause → Bool
is_by_peer cause.Reset = true
is_by_peer cause.Goaway = true
is_by_peer _ = false

abbrev pub is_refused : RowEnd → Bool
is_refused end = end.unseen && is_by_peer end.cause

-- an end comes before another: in an earlier entry, or in the same one by fewer bytes of its link, or by the places of
-- their rows where those are the same
abbrev pub comes_before : RowEnd → ℕ → RowEnd → ℕ → Bool
comes_before end place other other_place =
    nat_lt end.entry other.entry
    || ((end.entry == other.entry) && (nat_lt end.seen other.seen || ((end.seen == other.seen) && nat_lt place other_place)))

-- the call's one retry after an end by the peer was made before the end of the row at this place
abbrev pub is_taken_by : RowEnd → ℕ → ℕ → Row → List Row → Bool
is_taken_by end place other_place other after =
    ended_by (λ earlier. is_by_peer earlier.cause && comes_before earlier other_place end place && is_followed other after) other

abbrev pub is_retry_taken : List Row → RowEnd → ℕ → Bool
is_retry_taken rows end place = some_row (is_taken_by end place) rows

-- the call was committed in an earlier entry than this one; in this one
abbrev pub is_committed_before : ℕ → Row → Bool
is_committed_before entry row = option_map_or (λ committed. nat_lt committed entry) row.committed false

abbrev pub is_committed_at : ℕ → Row → Bool
is_committed_at entry row = option_map_or (λ committed. committed == entry) row.committed false

-- a refused attempt may be retried while the call isn't committed, and once a call
abbrev pub may_follow : List Row → RowEnd → ℕ → Bool
may_follow rows end place = not (is_retry_taken rows end place) && not (list_any (is_committed_before end.entry) rows)

-- and it has to be. In the entry of a commitment the rows don't show which came first, so both are allowed there
abbrev pub must_follow : List Row → RowEnd → ℕ → Bool
must_follow rows end place = may_follow rows end place && not (list_any (is_committed_at end.entry) rows)

-- an end that a transparent row may follow
abbrev pub allows_follower : List Row → ℕ → RowEnd → Bool
allows_follower rows place end = is_unsent end.cause || (is_refused end && may_follow rows end place)

-- an end that a transparent row has to follow
abbrev pub needs_follower : List Row → ℕ → RowEnd → Bool
needs_follower rows place end = is_unsent end.cause || (is_refused end && must_follow rows end place)

abbrev pub row_needs_follower : List Row → ℕ → Row → Bool
row_needs_follower rows place row = ended_by (needs_follower rows place) row

-- what follows a committed row is committed in the entry of its end
abbrev pub inherits : Row → Row → RowEnd → Bool
inherits follower row end = is_none row.committed || is_committed_at end.entry follower

-- a transparent row follows a row: its end allows that, and it is due at that end
abbrev pub follows_end : List Row → Row → ℕ → Row → Bool
follows_end rows follower place row =
    ended_by (λ end. allows_follower rows place end && (follower.due == end.moment) && inherits follower row end) row

abbrev pub has_number : ℕ → Row → Bool
has_number number row = row.number == number

-- it follows the last row of its number before it: the one with none of that number between them
abbrev pub follows : List Row → Row → ℕ → Row → List Row → Bool
follows rows follower place row between =
    has_number follower.number row
    && not (list_any (has_number follower.number) between)
    && follows_end rows follower place row

-- the law of transparent retries, of one row between others among all rows of its call
pub record KeepsTransparent (rows before : List Row) (row : Row) (after : List Row) : Type 0 where
  pub follows : OnTrue (is_transparent row.kind) (some_row (follows rows row) before ≡ true)
  pub followed : OnTrue (row_needs_follower rows (length before) row) (is_followed row after ≡ true)
