-- What a session keeps in order hangs on its lists and on the number of the entry alone: it stays where only the clock goes on, and where links are stamped or
-- something is queued on them.
use Rattle.attempt_ledger.specs.declared.ledger.Ask.{Ask}
use Rattle.attempt_ledger.specs.declared.row.Placed.{Placed}
use Rattle.attempt_ledger.specs.declared.row.RowEnd.{RowEnd}
use Rattle.call_actions.specs.CallsApart.Apart.{IsBook}
use Rattle.grpc_base.specs.declared.event.Entry.{Entry}
use Rattle.grpc_base.specs.declared.event.Event.{Event}
use Rattle.channel_actions.proofs.KeptSessions.Along.{all_of, kept_from, places_of}
use Rattle.channel_actions.proofs.KeptSessions.Lists.{Grows, all_wide}
use Rattle.channel_actions.proofs.KeptSessions.Steps.{opens_now}
use Rattle.channel_actions.proofs.KeptSessions.Whole.{ask_ok, subs_later}
use Rattle.channel_actions.specs.KeptSessions.Kept.{NumbersCountUp, IsKept, came_up, is_on_link}
use Rattle.session_actions.specs.Entries.{entry, opened, opened_entry}
use Rattle.session_actions.specs.Links.{read_bytes}
use Rattle.session_actions.specs.Responses.{is_read_by}
use Rattle.session_actions.specs.Words.{last_of, numbered}
use Rattle.session_actions.specs.Writing.{is_control}
use Rattle.session_actions.specs.declared.attempt.Attempt.{Attempt}
use Rattle.session_actions.specs.declared.entry.OpenEntry.{OpenEntry}
use Rattle.session_actions.specs.declared.link.Link.{Link}
use Rattle.session_actions.specs.declared.seen.Seen.{Seen}
use Rattle.session_order.specs.Order.{IsInPlace}
use Rattle.std.proofs.Common.{Bool, List, None, Option, Some, is_some, map, nat_le, refl, subst, sym, true, ℕ, ◌≡◌}
use Rattle.std.specs.List.{list_all}
use Rattle.std.specs.Option.{option_map_or}

module _ (s : Seen) (entries : List Entry) (current : Option OpenEntry) (answered wants : Bool) where
  abbrev moved : Seen
  moved = record s { entries = entries; current = current; answered = answered; wants = wants }

  book_moved : IsBook s → IsBook moved
  book_moved b = record { calls = b.calls; places = b.places; configs = b.configs; runs = b.runs; counted = b.counted }

  -- the entry has the same number
  pub kept_moved : entry moved ≡ entry s → IsKept s → IsKept moved
  kept_moved same h = record {
    calls = h.calls;
    attempts = h.attempts;
    links = h.links;
    subs = h.subs;
    policies = h.policies;
    owned = h.owned;
    dialled = h.dialled;
    ends = subst (λ (n : ℕ). list_all (λ (a : Attempt). option_map_or (λ (e : RowEnd). nat_le e.entry n) a.row.ended true) s.attempts ≡ true) (sym same) h.ends;
    asks = subst (λ (n : ℕ). list_all (λ (k : Ask). nat_le k.entry n) s.asks ≡ true) (sym same) h.asks;
    book = book_moved h.book;
    reads = h.reads;
    placed = h.placed;
    streams = h.streams;
    boards = h.boards;
    picked = subst (λ (n : ℕ). option_map_or (ask_ok s.attempts s.subs n) (last_of s.asks) true ≡ true) (sym same) h.picked;
    queued = h.queued;
  }

-- an entry opens
pub kept_opened : (posted word : ℕ) (e : Event) (s : Seen) → s.current ≡ None → IsKept s → IsKept (opened posted word e s)
kept_opened posted word e s at h =
    let o : OpenEntry = opened_entry posted word e s in
    let places : IsInPlace s = places_of s h in
    kept_from (opened posted word e s)
    (record { calls = places.calls; attempts = places.attempts; policies = places.policies; subs = places.subs; links = places.links })
    (book_moved s s.entries (Some o) s.answered s.wants h.book) h.reads (opens_now o s at (all_of s h))

-- links: of each number there is one as before
on_more : (s : Seen) (ls : List Link) → Grows s.links ls → (o : Option Placed) → option_map_or (λ (at : Placed). came_up s at.link) o true ≡ true
    → option_map_or (λ (at : Placed). is_some (numbered ls at.link)) o true ≡ true
on_more s ls more None e = refl
on_more s ls more (Some at) e = more at.link e

pub kept_linked : (s : Seen) (ls : List Link) → Grows s.links ls → NumbersCountUp 1 (map (λ (l : Link). l.number) ls)
    → list_all (λ (l : Link). is_some (numbered s.subs l.sub)) ls ≡ true → list_all (λ (l : Link). list_all (is_read_by (read_bytes l)) l.traffic) ls ≡ true
    → list_all (λ (l : Link). list_all is_control l.owed) ls ≡ true → IsKept s → IsKept (record s { links = ls })
kept_linked s ls more counted dialled reads queued h = record {
  calls = h.calls;
  attempts = h.attempts;
  links = counted;
  subs = h.subs;
  policies = h.policies;
  owned = h.owned;
  dialled = dialled;
  ends = h.ends;
  asks = h.asks;
  book = record { calls = h.book.calls; places = h.book.places; configs = h.book.configs; runs = h.book.runs; counted = h.book.counted };
  reads = reads;
  placed = all_wide (is_on_link s) (is_on_link (record s { links = ls })) (λ a ok. on_more s ls more a.row.placed ok) s.attempts h.placed;
  streams = h.streams;
  boards = subs_later s.links ls more s.subs h.boards;
  picked = h.picked;
  queued = queued;
}
