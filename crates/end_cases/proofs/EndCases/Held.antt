-- An attempt that ends leaves it so that what buffers hold for rows is for those that are there.
use Rattle.std.proofs.Common.{◌≡◌, ◌+◌, ◌≤◌, ◌∷◌, ◌++◌, ◌==◌, not, ap, arith, refl, subst, sym, Bool, true, false, List, [], Option, None, Some, ℕ, suc, if◌then◌else◌, is_some, length, nat_le, option_map, slice_get}
use Rattle.std.proofs.lemmas.Bool.Decides.{nat_tests}
use Rattle.std.proofs.lemmas.List.{length_push}
use Rattle.std.specs.List.{filter}
use Rattle.a6_numbers.specs.Throttling.{Bucket}
use Rattle.attempt_buffer.specs.Buffers.{Buffered, Committed, Cursor, closed, is_committed_row, shut}
use Rattle.attempt_ledger.specs.declared.ledger.Ledger.{Ledger}
use Rattle.attempt_ledger.specs.declared.news.EndNews.{EndNews}
use Rattle.attempt_ledger.specs.declared.news.News.TheVariants as news
use Rattle.attempt_ledger.specs.declared.row.Row.{Row}
use Rattle.attempt_ledger.specs.declared.row.RowEnd.{RowEnd}
use Rattle.attempt_ledger.specs.declared.row.RowKind.TheVariants as kind
use Rattle.call_core.specs.Parts.{count_of, find_live, is_followed, names, row_end}
use Rattle.call_core.specs.Steps as step
use Rattle.call_core.specs.Steps.{Stepped, ended_at, received_news, lent}
use Rattle.call_core.specs.declared.judge.Judged.{Judged}
use Rattle.call_core.specs.declared.live.LiveRow.{LiveRow}
use Rattle.call_core.specs.declared.state.CallState.{CallState}
use Rattle.channel_actions.proofs.ActsFollowed.Acts.{acts_form}
use Rattle.channel_actions.proofs.KeptSessions.Lists.{all_filter, all_wide}
use Rattle.end_cases.proofs.AttemptEnds.Report.{gone_form, off_book}
use Rattle.channel_actions.proofs.Calls.Sound.Steps.{counts}
use Rattle.channel_actions.proofs.SoundBuffers.Slots.{AllAre, all_acted, all_beside, all_numbered}
use Rattle.end_cases.specs.AttemptEnds.Ends.{AreHeld, IsHeld, ended_in, gone_with, taken_off}
use Rattle.end_cases.specs.AttemptEnds.Laws.{EndsStayHeld}
use Rattle.channel_core.proofs.Resting.{changed_length}
use Rattle.channel_core.specs.Books.{BookActs, book_acted, bucket_at, call_of, deadline_of, due_at, has_drawn, row_at, slot_at}
use Rattle.channel_core.specs.States.{StateSeen}
use Rattle.channel_core.specs.Steps.{acts_done, drawn_if, next_word, reported}
use Rattle.channel_core.specs.Tables.{Acted, acted, acted_at, acted_on, tokens_in, with_timers}
use Rattle.channel_core.specs.declared.state.book.Book.{Book}
use Rattle.channel_core.specs.declared.state.slots.CallSlot.{CallSlot}
use Rattle.grpc_base.specs.declared.event.EndCause.TheVariants as ends
use Rattle.ledger_stamps.specs.Steps.{ended_row, index_at}
use Rattle.attempt_ledger.specs.declared.row.Placed.{Placed}

-- a buffer
abbrev is_held : ℕ → Cursor → Bool
is_held n c = nat_le c.row n

le_on : (a n m : ℕ) → n ≤ m → nat_le a n ≡ true → nat_le a m ≡ true
le_on a n m e h = grind (arith, nat_tests)

more : (n m : ℕ) (b : Buffered) → n ≤ m → IsHeld n b → IsHeld m b
more n m b e h = record { rows_are = all_wide (is_held n) (is_held m) (λ (c : Cursor) (low : is_held n c ≡ true). le_on c.row n m e low) b.cursors h.rows_are; alone = h.alone }

was_shut : (o : Option Committed) (m : Committed) → option_map shut o ≡ Some m → is_some o ≡ true
was_shut None m e = absurd (let bad : None ≡ Some m = e in (cc))
was_shut (Some k) m e = refl

unshut : (o : Option Committed) (cursors : List Cursor) → ((m : Committed) → o ≡ Some m → cursors ≡ []) → is_some o ≡ true → cursors ≡ []
unshut None cursors alone e = absurd (let bad : false ≡ true = e in (cc))
unshut (Some m) cursors alone e = alone m refl

closed_by : (q : Bool) (row n : ℕ) (b : Buffered) → IsHeld n b
    → IsHeld n (if q then record b { committed = option_map shut b.committed } else record b { cursors = filter (λ (c : Cursor). not (c.row == row)) b.cursors })
closed_by true row n b h = record { rows_are = h.rows_are; alone = λ m e. unshut b.committed b.cursors h.alone (was_shut b.committed m e) }
closed_by false row n b h = record {
  rows_are = all_filter (is_held n) (λ (c : Cursor). not (c.row == row)) b.cursors h.rows_are;
  alone = λ m e. ap (λ (l : List Cursor). filter (λ (c : Cursor). not (c.row == row)) l) (h.alone m e);
}

closed_held : (row n : ℕ) (b : Buffered) → IsHeld n b → IsHeld n (closed row b)
closed_held row n b h = closed_by (is_committed_row row b.committed) row n b h

fresh_held : (n : ℕ) → IsHeld n step.fresh_buffer
fresh_held n = record { rows_are = refl; alone = λ m e. refl }

-- a call
abbrev Held : ℕ → CallState → Type 0
Held n call = IsHeld n call.buffer

closes_by : (q : Bool) (place moment n : ℕ) (s : Stepped) → Held n s.call → Held n (step.closed_if q place moment s).call
closes_by true place moment n s h = fresh_held n
closes_by false place moment n s h = h

module _ (n : ℕ) (row : LiveRow) (end : EndNews) (moment word : ℕ) (s : Stepped) (h : Held n s.call) where
  abbrev left : Stepped
  left = step.settled end (step.left_live row.place s)

  left_held : Held n left.call
  left_held = closed_held row.place n s.call.buffer h

  counted_by : (q : Bool)
      → Held n (if q then step.ended_as ends.Row moment (step.row_ended row.place (row_end end left.ledger.entry moment (count_of left.tokens)) left)
      else step.counted_free row (row_end end left.ledger.entry moment (count_of left.tokens)) moment word left).call
  counted_by true = fresh_held n
  counted_by false =
      let e : RowEnd = row_end end left.ledger.entry moment (count_of left.tokens) in
      let after : Judged = step.judged_of row e word left.call left.tokens in
      closes_by after.closes row.place moment n (step.with_judged row e after left) left_held

  live_by : (q : Bool) → Held n (if q then step.followed row end moment (step.left_live row.place s) else step.counted row end moment word left).call
  live_by true = left_held
  live_by false = counted_by (is_some s.call.attempts.committed)

ended_held : (n : ℕ) (o : Option LiveRow) (end : EndNews) (moment word : ℕ) (s : Stepped) → Held n s.call → Held n (step.ended_if_live o end moment word s).call
ended_held n None end moment word s h = h
ended_held n (Some row) end moment word s h = live_by n row end moment word s h (is_followed s.call.attempts end.cause end.unseen)

-- the rows do not become fewer
less_same : (n m : ℕ) → m ≡ n → n ≤ m
less_same n m e = omega (arith, e)

less_more : (n m k : ℕ) → m ≡ n → k ≡ m + 1 → n ≤ k
less_more n m k e f = omega (arith, e, f)

grown_by : (q : Bool) (row : LiveRow) (end : EndNews) (moment word : ℕ) (s : Stepped)
    → length s.ledger.rows ≤ length (if q then step.followed row end moment (step.left_live row.place s) else step.counted row end moment word (step.settled end (step.left_live row.place s))).ledger.rows
grown_by true row end moment word s =
    let e : RowEnd = row_end end s.ledger.entry moment (count_of s.tokens) in
    let t : Stepped = step.row_ended row.place e (step.left_live row.place s) in
    let new : Row = step.new_row s.call.number row.number kind.Transparent moment (step.stamp_if (names row.place s.call.attempts.committed) s.ledger.entry) in
    less_more (length s.ledger.rows) (length t.ledger.rows) (length (t.ledger.rows ++ new ∷ [])) (changed_length (ended_row e) s.ledger.rows row.place) (length_push t.ledger.rows new)
grown_by false row end moment word s =
    less_same (length s.ledger.rows) (length (step.counted row end moment word (step.settled end (step.left_live row.place s))).ledger.rows) (counts row end moment word s).rows

ended_grown : (o : Option LiveRow) (end : EndNews) (moment word : ℕ) (s : Stepped) → length s.ledger.rows ≤ length (step.ended_if_live o end moment word s).ledger.rows
ended_grown None end moment word s = less_same (length s.ledger.rows) (length s.ledger.rows) refl
ended_grown (Some row) end moment word s = grown_by (is_followed s.call.attempts end.cause end.unseen) row end moment word s

-- the calls of a table
raised : (n m : ℕ) (calls : List CallSlot) → n ≤ m → AllAre (Held n) calls → AllAre (Held m) calls
raised n m [] e all = tt
raised n m (slot ∷ calls) e all = (more n m slot.call.buffer e all.0, raised n m calls e all.1)

all_of : (n : ℕ) (calls : List CallSlot) → ((i : ℕ) (slot : CallSlot) → slice_get calls i ≡ Some slot → Held n slot.call) → AllAre (Held n) calls
all_of n [] each = tt
all_of n (slot ∷ calls) each = (each 0 slot refl, all_of n calls (λ i v e. each (suc i) v e))

module _ (f : Stepped → Stepped) (grows : (s : Stepped) → length s.ledger.rows ≤ length (f s).ledger.rows) where
  grown_at : (calls : List CallSlot) (i : ℕ) (ledger : Ledger) (tokens : Option Bucket) (o : Option CallSlot)
      → length ledger.rows ≤ length (acted_at f calls i ledger tokens o).ledger.rows
  grown_at calls i ledger tokens None = less_same (length ledger.rows) (length ledger.rows) refl
  grown_at calls i ledger tokens (Some slot) = grows (lent slot.call ledger tokens [])

  grown_on : (calls : List CallSlot) (ledger : Ledger) (tokens : Option Bucket) (o : Option ℕ) → length ledger.rows ≤ length (acted_on f calls ledger tokens o).ledger.rows
  grown_on calls ledger tokens None = less_same (length ledger.rows) (length ledger.rows) refl
  grown_on calls ledger tokens (Some i) = grown_at calls i ledger tokens (slice_get calls i)

-- a channel
abbrev AllHeld : StateSeen → Type 0
AllHeld x = AllAre (Held (length x.book.ledger.rows)) x.book.calls

from_held : (x : StateSeen) → AreHeld x → AllHeld x
from_held x h = all_of (length x.book.ledger.rows) x.book.calls (λ i slot e. h (suc i) slot e)

to_held : (x : StateSeen) → AllHeld x → AreHeld x
to_held x all number slot e = all_numbered (Held (length x.book.ledger.rows)) x.book.calls number slot all e

module _ (row : ℕ) (end : EndNews) (x : StateSeen) (all : AllHeld x) where
  abbrev n : ℕ
  n = call_of (row_at x.book row)

  abbrev f : Stepped → Stepped
  f s = received_news row (news.Ended row end) x.book.moment (next_word x) s

  abbrev tokens : Option Bucket
  tokens = tokens_in x.book.buckets (bucket_at (slot_at x.book n))

  abbrev a : Acted
  a = acted f x.book.calls n x.book.ledger tokens

  abbrev b : BookActs
  b = book_acted f n x.book

  abbrev m : ℕ
  m = length a.ledger.rows

  abbrev begun : StateSeen
  begun = record (drawn_if (has_drawn (row_at b.book row)) x) { book = b.book }

  abbrev y : StateSeen
  y = acts_done n b.acts begun

  rows_grow : length x.book.ledger.rows ≤ m
  rows_grow =
      grown_on f (λ s. ended_grown (find_live row s.call.live) end x.book.moment (next_word x) s) x.book.calls x.book.ledger tokens (index_at n (length x.book.calls))

  acted_all : AllAre (Held m) a.calls
  acted_all =
      all_acted (Held m) f x.book.ledger tokens
      (λ call h. ended_held m (find_live row call.live) end x.book.moment (next_word x) (lent call x.book.ledger tokens []) h) x.book.calls n
      (raised (length x.book.ledger.rows) m x.book.calls rows_grow all)

  y_all : AllHeld y
  y_all = subst AllHeld (sym (acts_form n b.acts begun)) acted_all

  reported_all : AllHeld (reported row (news.Ended row end) x)
  reported_all =
      all_beside (Held (length y.book.ledger.rows)) (with_timers (due_at (slot_at y.book n)) (deadline_of (slot_at y.book n))) (λ slot. refl) y.book.calls n y_all

gone_all : (p : Option Placed) (z : StateSeen) → AllHeld z → AllHeld (gone_with p z)
gone_all p z all = subst AllHeld (sym (gone_form p z)) all

pub ends_stay_held : EndsStayHeld
ends_stay_held a end x h =
    let off : StateSeen = taken_off a.row.call a.place a.row.placed x in
    let all : AllHeld off = subst (λ (b : Book). AllAre (Held (length b.ledger.rows)) b.calls) (sym (off_book a.row.call a.place a.row.placed x)) (from_held x h) in
    to_held (ended_in a end x) (gone_all a.row.placed (reported a.place (news.Ended a.place end) off) (reported_all a.place end off all))
