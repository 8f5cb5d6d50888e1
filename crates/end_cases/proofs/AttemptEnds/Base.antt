-- One attempt ends: the call, what it is lent, and what the channel takes off first.
use Rattle.std.proofs.Common.{◌≡◌, ap, refl, subst, sym, ◌∙◌, Bool, List, Option, None, Some, ℕ, option_map}
use Rattle.std.proofs.lemmas.Bool.{eqb-true}
use Rattle.std.specs.Set.{remove_key}
use Rattle.attempt_ledger.specs.declared.ledger.LinkSeen.{LinkSeen}
use Rattle.attempt_ledger.specs.declared.news.EndNews.{EndNews}
use Rattle.attempt_ledger.specs.declared.row.Placed.{Placed}
use Rattle.attempt_ledger.specs.declared.row.Row.{Row}
use Rattle.attempt_ledger.specs.declared.row.RowEnd.{RowEnd}
use Rattle.call_actions.specs.Laws.{news_of}
use Rattle.call_actions.specs.Sees.{Sees}
use Rattle.call_core.specs.Steps.{Stepped, ended_at}
use Rattle.channel_actions.proofs.Stamps.{numbered_map}
use Rattle.channel_actions.specs.Calls.{HasSlot, lent_to}
use Rattle.channel_actions.specs.Clock.{DrawsAlike}
use Rattle.end_cases.proofs.AttemptEnds.Report.{gone_form, lent_of, step_of}
use Rattle.attempt_cases.proofs.DialEvents.Words.{word_same}
use Rattle.end_cases.specs.AttemptEnds.Ahead.{AgreesOffLinks}
use Rattle.end_cases.specs.AttemptEnds.Ends.{EndNext, gone_with, taken_off}
use Rattle.channel_core.specs.Books.{row_at, slot_at}
use Rattle.channel_core.specs.States.{StateSeen}
use Rattle.channel_core.specs.Steps as channel
use Rattle.channel_core.specs.Steps.{with_ledger_links}
use Rattle.channel_core.specs.declared.state.slots.CallSlot.{CallSlot}
use Rattle.picker_gate.specs.Pairs.{is_same}
use Rattle.session_actions.specs.AttemptEnds.{attempt_ended, end_of}
use Rattle.session_actions.specs.Entries.{next_word, now}
use Rattle.session_actions.specs.Words.{numbered}
use Rattle.session_actions.specs.declared.attempt.Attempt.{Attempt}
use Rattle.session_actions.specs.declared.call.Call.{Call}
use Rattle.session_actions.specs.declared.entry.OpenEntry.{OpenEntry}
use Rattle.session_actions.specs.declared.response.Outcome.{Outcome}
use Rattle.session_actions.specs.declared.seen.Seen.{Seen}
use Rattle.session_order.specs.declared.line.Line.{Line}

-- what is taken off: a pair of one set
abbrev pub out_off : ℕ → Option Placed → List (ℕ × ℕ) → List (ℕ × ℕ)
out_off row None pairs = pairs
out_off row (Some at) pairs = remove_key (is_same (at.link, row)) pairs

abbrev pub queue_off : ℕ → ℕ → Option Placed → List (ℕ × ℕ) → List (ℕ × ℕ)
queue_off call row None pairs = remove_key (is_same (call, row)) pairs
queue_off call row (Some at) pairs = pairs

abbrev pub off_form : ℕ → ℕ → Option Placed → StateSeen → StateSeen
off_form call row p x = record x {
  outstanding = out_off row p x.outstanding;
  queue = queue_off call row p x.queue;
  ready_waiters = queue_off call row p x.ready_waiters;
}

pub off_is : (call row : ℕ) (p : Option Placed) (x : StateSeen) → taken_off call row p x ≡ off_form call row p x
off_is call row None x = refl
off_is call row (Some at) x = refl

-- a channel but for the stamps of its links
draws_of : (q : Option OpenEntry) (ls : List LinkSeen) (x : StateSeen) → DrawsAlike q (with_ledger_links ls x) → DrawsAlike q x
draws_of None ls x k = tt
draws_of (Some o) ls x k = (k.0, k.1)

module _ (later : List (ℕ × RowEnd)) (waits : Line → Bool) (also : List ℕ) (a : Attempt) (out : Outcome) (x : StateSeen) (o : OpenEntry) (s : Seen) (is : EndNext later waits also a out x o s) where
  abbrev pub c : Call
  c = is.call

  abbrev pub placed : Option Placed
  placed = a.row.placed

  abbrev stamps : List LinkSeen
  stamps = (gone_with placed x).book.ledger.links

  abbrev pub x1 : StateSeen
  x1 = with_ledger_links stamps x

  pub books : AgreesOffLinks x1 s
  books = subst (λ (v : StateSeen). AgreesOffLinks v s) (gone_form placed x) is.books

  pub call_is : a.row.call ≡ c.number
  call_is = eqb-true a.row.call c.number is.ending.own

  pub here : numbered s.calls c.number ≡ Some c
  here = ap (numbered s.calls) (sym call_is) ∙ is.there

  abbrev pub has : HasSlot x1 s c c.number
  has = books.calls.each c.number c here

  abbrev pub slot : CallSlot
  slot = has.slot

  pub slot_there : slot_at x.book c.number ≡ Some slot
  slot_there = has.there

  abbrev pub x2 : Stepped
  x2 = lent_of x slot

  abbrev was : Sees s c (lent_to x1 s slot)
  was = has.sees.serves.sees

  pub sees : Sees s c x2
  sees = record {
    own = was.own;
    number_is = was.number_is;
    request = was.request;
    begun = was.begun;
    chosen = was.chosen;
    finished = was.finished;
    longest_is = was.longest_is;
    ended = was.ended;
    attempts = was.attempts;
    live = was.live;
    tokens = was.tokens;
    entry_is = was.entry_is;
    rows = was.rows;
    call_is = was.call_is;
  }

  pub word_is : next_word s ≡ channel.next_word x
  word_is =
      word_same x s o is.current
      (draws_of (Some o) stamps x (subst (λ (q : Option OpenEntry). DrawsAlike q x1) is.current books.clock.draws))

  pub moment_is : now s ≡ x.book.moment
  moment_is = books.clock.moment

  abbrev pub news : EndNews
  news = news_of a out s

  abbrev pub e : RowEnd
  e = end_of a out s

  abbrev pub z : StateSeen
  z = off_form a.row.call a.place placed x

  -- what the channel makes of its call, and the session of its own
  abbrev pub r : Stepped
  r = step_of a.place news z slot

  pub step_is : ended_at a.place news (now s) (next_word s) x2 ≡ r
  step_is =
      ap (λ (m : ℕ). ended_at a.place news m (next_word s) x2) moment_is ∙ ap (λ (w : ℕ). ended_at a.place news x.book.moment w x2) word_is

  pub row_is : row_at z.book a.place ≡ Some a.row
  row_is =
      ap (λ (rows : List Row). numbered rows a.place) (sym books.columns.rows)
      ∙ numbered_map (λ (q : Attempt). q.row) s.attempts a.place ∙ ap (option_map (λ (q : Attempt). q.row)) is.ending.there

  abbrev pub t : Seen
  t = attempt_ended a.place e s
