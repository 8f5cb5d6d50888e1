-- Channel and session still agree where only the clock goes on: another entry is open, or none, or the same at another stage.
use Rattle.std.proofs.Common.{◌≡◌, ap, subst, sym, ◌∙◌, Bool, List, Option, None, Some, ℕ}
use Rattle.call_actions.specs.Order.{IsInOrder, IsInTurn}
use Rattle.call_actions.specs.Sees.{AttemptsAgree, DuesAgree, Sees}
use Rattle.call_core.specs.Steps.{Stepped}
use Rattle.channel_actions.proofs.Dues.{due_same, in_dues_same, state_same}
use Rattle.channel_actions.proofs.Lines.{streams_moved}
use Rattle.channel_actions.specs.Agrees.{Agrees}
use Rattle.channel_actions.specs.Calls.{HasSlot, lent_to}
use Rattle.channel_actions.specs.Clock.{SeesClock}
use Rattle.channel_actions.specs.Columns.{links_noted}
use Rattle.channel_actions.specs.Links.{HasLink}
use Rattle.channel_actions.specs.Readers.{IsReaderOf, attempt_on}
use Rattle.channel_core.specs.States.{StateSeen}
use Rattle.grpc_base.specs.declared.event.Entry.{Entry}
use Rattle.grpc_link.specs.Links.{reader_in}
use Rattle.grpc_link.specs.Readers.{ReaderSeen}
use Rattle.channel_actions.specs.KeptSessions.Kept.{IsKept}
use Rattle.session_actions.specs.Entries.{entry}
use Rattle.session_actions.specs.declared.attempt.Attempt.{Attempt}
use Rattle.session_actions.specs.declared.call.Call.{Call}
use Rattle.session_actions.specs.declared.due.DueState.{DueState}
use Rattle.session_actions.specs.declared.entry.OpenEntry.{OpenEntry}
use Rattle.session_actions.specs.declared.link.Link.{Link}
use Rattle.session_actions.specs.declared.seen.Seen.{Seen}
use Rattle.call_actions.specs.TakeActions.Serves.{Holds, Serves}

-- a channel at another entry, moment and word, and with another answer of the resolver
abbrev pub at_entry : ℕ → ℕ → ℕ → ℕ → Bool → Bool → StateSeen → StateSeen
at_entry number moment word drawn resolver unconfigured x = record x {
  word = word;
  drawn = drawn;
  resolver = resolver;
  unconfigured = unconfigured;
  book = record x.book { ledger = record x.book.ledger { entry = number }; moment = moment };
}

module _ (s : Seen) (entries : List Entry) (current : Option OpenEntry) (answered wants : Bool) where
  abbrev t : Seen
  t = record s { entries = entries; current = current; answered = answered; wants = wants }

  abbrev with_number : ℕ → Stepped → Stepped
  with_number number x = record x { ledger = record x.ledger { entry = number } }

  attempts_moved : (c : Call) (x : Stepped) → AttemptsAgree s c x.call.attempts → AttemptsAgree t c x.call.attempts
  attempts_moved c x a = record {
    sent = a.sent;
    due = subst (λ (z : DueState). DuesAgree z x.call.attempts) (sym (state_same s entries current answered wants s.links c)) a.due;
    unplaced = a.unplaced;
    delayed = a.delayed;
    last = a.last;
    refused = a.refused;
    committed = a.committed;
  }

  sees_moved : (c : Call) (x : Stepped) (number : ℕ) → entry t ≡ number → Sees s c x → Sees t c (with_number number x)
  sees_moved c x number e h = record {
    own = h.own;
    number_is = h.number_is;
    request = h.request;
    begun = h.begun;
    chosen = h.chosen;
    finished = h.finished;
    longest_is = h.longest_is;
    ended = h.ended;
    attempts = attempts_moved c x h.attempts;
    live = h.live;
    tokens = h.tokens;
    entry_is = e;
    rows = h.rows;
    call_is = h.call_is;
  }

  holds_moved : (c : Call) (x : Stepped) → Holds s c x.call.buffer → Holds t c x.call.buffer
  holds_moved c x h = record { fed = h.fed; held = h.held; committed = h.committed }

  serves_moved : (c : Call) (x : Stepped) (number : ℕ) → entry t ≡ number → Serves s c x → Serves t c (with_number number x)
  serves_moved c x number e h = record {
    sees = sees_moved c x number e h.sees;
    places = h.places;
    config = h.config;
    links = h.links;
    reads = h.reads;
    counted = h.counted;
    end_taken = h.end_taken;
    going = h.going;
    left = h.left;
    holds = λ unended. holds_moved c x (h.holds unended);
  }

  order_moved : (c : Call) → IsInOrder s c → IsInOrder t c
  order_moved c h = record {
    places = h.places;
    marks = h.marks;
    numbers = h.numbers;
    first = λ e. ap (λ (z : DueState). z.newest) (state_same s entries current answered wants s.links c) ∙ h.first e;
    stops = λ e. ap (λ (z : DueState). z.stopped) (state_same s entries current answered wants s.links c) ∙ h.stops e;
  }

  turn_moved : (c : Call) → IsInTurn s c → IsInTurn t c
  turn_moved c h = record { unfollowed = h.unfollowed; latest = h.latest; numbers = h.numbers; counted = h.counted }

  reader_moved : (o : Option Attempt) (r : Option ReaderSeen) → IsReaderOf s o r → IsReaderOf t o r
  reader_moved None None h = tt
  reader_moved (Some a) (Some r) h = record { opened = h.opened; head = h.head; over = h.over; limit = h.limit; rest = h.rest; whole = h.whole }
  reader_moved None (Some r) h = absurd h
  reader_moved (Some a) None h = absurd h

  module _ (x : StateSeen) (h : Agrees x s) (number moment word drawn : ℕ) (resolver unconfigured : Bool) (e : entry t ≡ number) where
    abbrev y : StateSeen
    y = at_entry number moment word drawn resolver unconfigured x

    call_moved : (n : ℕ) (c : Call) → HasSlot x s c n → HasSlot y t c n
    call_moved n c k = record {
      slot = k.slot;
      there = k.there;
      sees = record {
        bucket = k.sees.bucket;
        serves = serves_moved c (lent_to x s k.slot) number e k.sees.serves;
        order = order_moved c k.sees.order;
        turn = turn_moved c k.sees.turn;
        due = due_same s entries current answered wants s.links c ∙ k.sees.due;
        deadline_is = k.sees.deadline_is;
      };
    }

    link_moved : (n : ℕ) (l : Link) → HasLink x s l n → HasLink y t l n
    link_moved n l k = record {
      slot = k.slot;
      there = k.there;
      sees = record {
        over = k.sees.over;
        retiring = k.sees.retiring;
        going = λ goes. let g = k.sees.going goes in record {
          streams = streams_moved l s entries current answered wants k.slot.link.link.wire h.kept.attempts g.streams;
          readers = record { each = λ row. reader_moved (attempt_on l s row) (reader_in row k.slot.link.readers) (g.readers.each row); distinct = g.readers.distinct };
          rest = g.rest;
          closed = g.closed;
        };
      };
    }

    pub agrees_moved : SeesClock y t → (x.held ≡ None → answered ≡ unconfigured) → links_noted t ≡ x.book.ledger.links
        → IsKept t → Agrees y t
    agrees_moved clock config noted kept = record {
      clock = clock;
      columns = record { rows = h.columns.rows; calls = h.columns.calls; asks = h.columns.asks; generations = h.columns.generations; links = noted };
      configs = record { authority = h.configs.authority; shut = h.configs.shut; held = h.configs.held; unconfigured = config; policy = h.configs.policy };
      buckets = record { runs = h.buckets.runs; throttle = h.buckets.throttle };
      calls = record { count = h.calls.count; each = λ n c at. call_moved n c (h.calls.each n c at) };
      links = record { count = h.links.count; each = λ n l at. link_moved n l (h.links.each n l at) };
      net = h.net;
      orderly = h.orderly;
      sets = record {
        queue = h.sets.queue;
        ready_waiters = h.sets.ready_waiters;
        dues = record { rising = h.sets.dues.rising; exact = λ m n. h.sets.dues.exact m n ∙ sym (in_dues_same s entries current answered wants s.links m n) };
        deadlines = h.sets.deadlines;
        awaiting_config = h.sets.awaiting_config;
        fail_fast = h.sets.fail_fast;
        outstanding = h.sets.outstanding;
        resets = h.sets.resets;
      };
      kept = kept;
    }
