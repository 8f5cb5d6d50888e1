-- What a session keeps in order holds of a new one, and after each action that is next.
use Rattle.call_actions.proofs.CallsApart.Books.{books_begin, books_stay}
use Rattle.call_actions.proofs.CallsApart.Fair.{lines_are_fair}
use Rattle.call_actions.specs.CallsApart.Apart.{IsBook, IsFair}
use Rattle.channel_actions.proofs.KeptSessions.Lines.{next_sound}
use Rattle.channel_actions.proofs.KeptSessions.Lists.{all_each, all_get, all_wide, counted_places, places_counted}
use Rattle.channel_actions.proofs.KeptSessions.Sound.{IsSound}
use Rattle.channel_actions.proofs.KeptSessions.Steps.{whole_after}
use Rattle.channel_actions.proofs.KeptSessions.Whole.{IsRow, Whole, line_ok, row_from, row_ok, row_parts}
use Rattle.channel_actions.specs.KeptSessions.Kept.{IsKept, is_on_link}
use Rattle.channel_actions.specs.KeptSessions.Laws.{KeptAlong, KeptBegins, KeptStays}
use Rattle.call_actions.proofs.ReadsInOrder.Order.{reads_stay}
use Rattle.call_actions.specs.ReadsInOrder.Laws.{LinksAreReadInOrder, ReadsOn}
use Rattle.session_actions.specs.Actions.{after}
use Rattle.session_actions.specs.Attempts.{call_of}
use Rattle.session_actions.specs.Entries.{entry}
use Rattle.session_actions.specs.Sessions.{IsNext}
use Rattle.session_actions.specs.Words.{is_number, numbered}
use Rattle.session_actions.specs.Writing.{is_control}
use Rattle.session_actions.specs.declared.action.Action.TheVariants as action
use Rattle.session_actions.specs.declared.action.Action.{Action}
use Rattle.session_actions.specs.declared.attempt.Attempt.{Attempt}
use Rattle.session_actions.specs.declared.call.Call.{Call}
use Rattle.session_actions.specs.declared.link.Link.{Link}
use Rattle.session_actions.specs.declared.policy.PolicyUse.{PolicyUse}
use Rattle.session_actions.specs.declared.seen.Seen.{Seen}
use Rattle.session_actions.specs.declared.subchannel.Subchannel.{Subchannel}
use Rattle.session_order.proofs.Places.{actions_keep_places}
use Rattle.session_order.specs.Order.{IsInPlace}
use Rattle.std.proofs.Common.{[], is_some, nat_le, not, refl, subst, sym, true, ◌∷◌, ◌≡◌}
use Rattle.std.proofs.lemmas.Bool.{and_from, and_parts}
use Rattle.std.specs.List.{list_all}
use Rattle.std.specs.Option.{option_map_or}

pub all_of : (s : Seen) → IsKept s → Whole s
all_of s h = record {
  rows = all_each (row_ok s.calls s.links (entry s)) s.attempts
      (λ i a got.
      row_from s.calls s.links (entry s) a
      (record {
        owned = all_get (λ (q : Attempt). is_some (call_of q s)) s.attempts i a h.owned got;
        ends = all_get (λ (q : Attempt). option_map_or (λ e. nat_le e.entry (entry s)) q.row.ended true) s.attempts i a h.ends got;
        placed = all_get (is_on_link s) s.attempts i a h.placed got;
        streams = all_get (λ (q : Attempt). not (is_number 0 q.row.stream)) s.attempts i a h.streams got;
      }));
  lines = all_each (line_ok s.subs) s.links
      (λ i l got.
      and_from (is_some (numbered s.subs l.sub)) (list_all is_control l.owed) (all_get (λ (k : Link). is_some (numbered s.subs k.sub)) s.links i l h.dialled got)
      (all_get (λ (k : Link). list_all is_control k.owed) s.links i l h.queued got));
  boards = h.boards;
  stamps = h.asks;
  picked = h.picked;
}

pub places_of : (s : Seen) → IsKept s → IsInPlace s
places_of s h = record {
  calls = counted_places (λ (c : Call). c.number) s.calls h.calls;
  attempts = counted_places (λ (a : Attempt). a.place) s.attempts h.attempts;
  policies = counted_places (λ (g : PolicyUse). g.number) s.policies h.policies;
  subs = counted_places (λ (b : Subchannel). b.number) s.subs h.subs;
  links = counted_places (λ (l : Link). l.number) s.links h.links;
}

row_of : (s : Seen) → Whole s → (a : Attempt) → row_ok s.calls s.links (entry s) a ≡ true → IsRow s.calls s.links (entry s) a
row_of s h a ok = row_parts s.calls s.links (entry s) a ok

-- put together
pub kept_from : (s : Seen) → IsInPlace s → IsBook s → LinksAreReadInOrder s → Whole s → IsKept s
kept_from s places book reads h = record {
  calls = places_counted (λ (c : Call). c.number) s.calls places.calls;
  attempts = places_counted (λ (a : Attempt). a.place) s.attempts places.attempts;
  links = places_counted (λ (l : Link). l.number) s.links places.links;
  subs = places_counted (λ (b : Subchannel). b.number) s.subs places.subs;
  policies = places_counted (λ (g : PolicyUse). g.number) s.policies places.policies;
  owned = all_wide (row_ok s.calls s.links (entry s)) (λ (a : Attempt). is_some (call_of a s)) (λ a ok. (row_of s h a ok).owned) s.attempts h.rows;
  dialled = all_wide (line_ok s.subs) (λ (l : Link). is_some (numbered s.subs l.sub))
      (λ l ok. (and_parts (is_some (numbered s.subs l.sub)) (list_all is_control l.owed) ok).0) s.links h.lines;
  ends = all_wide (row_ok s.calls s.links (entry s)) (λ (a : Attempt). option_map_or (λ e. nat_le e.entry (entry s)) a.row.ended true) (λ a ok. (row_of s h a ok).ends) s.attempts h.rows;
  asks = h.stamps;
  book = book;
  reads = reads;
  placed = all_wide (row_ok s.calls s.links (entry s)) (is_on_link s) (λ a ok. (row_of s h a ok).placed) s.attempts h.rows;
  streams = all_wide (row_ok s.calls s.links (entry s)) (λ (a : Attempt). not (is_number 0 a.row.stream)) (λ a ok. (row_of s h a ok).streams) s.attempts h.rows;
  boards = h.boards;
  picked = h.picked;
  queued = all_wide (line_ok s.subs) (λ (l : Link). list_all is_control l.owed)
      (λ l ok. (and_parts (is_some (numbered s.subs l.sub)) (list_all is_control l.owed) ok).1) s.links h.lines;
}

pub kept_begins : KeptBegins
kept_begins setup = record {
  calls = tt;
  attempts = tt;
  links = tt;
  subs = tt;
  policies = tt;
  owned = refl;
  dialled = refl;
  ends = refl;
  asks = refl;
  book = books_begin setup;
  reads = refl;
  placed = refl;
  streams = refl;
  boards = refl;
  picked = refl;
  queued = refl;
}

-- what the line of an action says of it, for what is kept of calls and of what was read
fair : (s : Seen) (a : Action) → IsBook s → IsNext a s → IsFair a s
fair s (action.AttemptEnds row end) book next = lines_are_fair s (action.AttemptEnds row end) book next
fair s (action.CallConfigured call config) book next = lines_are_fair s (action.CallConfigured call config) book next
fair s _ book next = tt

reads_on : (s : Seen) (a : Action) → IsSound a s → ReadsOn a s
reads_on s (action.FrameRead link r) sound = sound
reads_on s _ sound = tt

pub kept_stays : KeptStays
kept_stays s a h next =
    let sound : IsSound a s = next_sound s a h next in
    kept_from (after a s) (actions_keep_places a s (places_of s h)) (books_stay s a h.book (fair s a h.book next)) (reads_stay s a h.reads (reads_on s a sound))
    (whole_after s a sound (all_of s h))

pub kept_along : KeptAlong
kept_along [] s t h does = subst IsKept (sym does) h
kept_along (a ∷ actions) s t h does = kept_along actions (after a s) t (kept_stays s a h does.0) does.1
