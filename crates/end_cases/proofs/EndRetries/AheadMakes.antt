-- The making of an attempt leaves each link as far ahead as it was: the attempt is on none.
use Rattle.std.proofs.Common.{◌≡◌, ◌&&◌, ◌==◌, ◌+◌, ◌++◌, ◌∷◌, ap, refl, subst, sym, ◌∙◌, Bool, false, List, [], Option, None, Some, ℕ, zero, suc, filter, if◌then◌else◌, is_some, length, map, slice_get}
use Rattle.std.proofs.lemmas.List.{append-nil}
use Rattle.std.proofs.lemmas.List.Elements.{filter-append}
use Rattle.std.specs.Prelude.{option_and_then, unwrap_or}
use Rattle.attempt_ledger.specs.declared.row.RowKind.TheVariants as kind
use Rattle.call_cases.proofs.EndsFollow.Codes.{response_by_limit}
use Rattle.call_cases.proofs.LinkEnds.After.{of_readers, readers_of}
use Rattle.call_cases.proofs.LinkEnds.Cutting.{filter_same}
use Rattle.call_cases.proofs.LinkEnds.Resets.{relined}
use Rattle.channel_actions.proofs.Stamps.{map_same}
use Rattle.channel_actions.specs.Links.{lines_in}
use Rattle.end_cases.proofs.AttemptEnds.AheadStays.{codes_with, limit_noted}
use Rattle.end_cases.specs.AttemptEnds.Ahead.{HasLinkAhead, IsAhead, LinksAhead, is_owed_on, owed_reset, resets_owed}
use Rattle.channel_core.specs.States.{StateSeen}
use Rattle.channel_core.specs.declared.state.links.LinkSlot.{LinkSlot}
use Rattle.link_actions.proofs.ResponseActions.Taken.{readers_are_left}
use Rattle.link_actions.proofs.SteadyLinks.Calls.{attempts_leave_links}
use Rattle.link_actions.specs.ResetActions.Ahead.{SeesAhead}
use Rattle.link_actions.specs.ResponseActions.Laws.{IsSameResponse, ReadsAlike}
use Rattle.link_actions.specs.ResponseActions.Readers.{attempt_on}
use Rattle.link_actions.specs.Sees.{by_stream}
use Rattle.session_actions.specs.AttemptEnds.{reset_code_of}
use Rattle.session_actions.specs.Entries.{entry, now}
use Rattle.session_actions.specs.Links.{link_number, stream_number}
use Rattle.session_actions.specs.Making.{new_row}
use Rattle.session_actions.specs.Reading.{is_outstanding_on}
use Rattle.session_actions.specs.Responses.{limit_of_attempt, response}
use Rattle.session_actions.specs.Words.{changed, numbered}
use Rattle.session_actions.specs.declared.attempt.Attempt.{Attempt}
use Rattle.session_actions.specs.declared.call.Call.{Call}
use Rattle.session_actions.specs.declared.call.MarkKind.TheVariants as mark
use Rattle.session_actions.specs.declared.link.Link.{Link}
use Rattle.session_actions.specs.declared.response.Response.{Response}
use Rattle.session_actions.specs.declared.seen.Seen.{Seen}

-- one that passes a test, where the last one does not
found_more : (test : Attempt → Bool) (xs : List Attempt) (x : Attempt) (i : ℕ) → test x ≡ false
    → option_and_then (λ (b : Attempt). if test b then Some b else None) (slice_get (xs ++ x ∷ []) i) ≡ option_and_then (λ (b : Attempt). if test b then Some b else None) (slice_get xs i)
found_more test [] x zero e = ap (λ (b : Bool). if b then Some x else None) e
found_more test [] x (suc i) e = refl
found_more test (y ∷ xs) x zero e = refl
found_more test (y ∷ xs) x (suc i) e = found_more test xs x i e

found_at : (test : Attempt → Bool) (xs : List Attempt) (x : Attempt) (m : ℕ) → test x ≡ false
    → option_and_then (λ (b : Attempt). if test b then Some b else None) (numbered (xs ++ x ∷ []) m) ≡ option_and_then (λ (b : Attempt). if test b then Some b else None) (numbered xs m)
found_at test xs x zero e = refl
found_at test xs x (suc i) e = found_more test xs x i e

module _ (u : Seen) (call number : ℕ) (due : ℕ) where
  abbrev new : Attempt
  new = record { place = length u.attempts + 1; row = new_row call number kind.Transparent due; made = entry u; reset = false }

  abbrev m : Seen
  m = record u { attempts = u.attempts ++ new ∷ [] }

  abbrev noted : Call → Call
  noted c = record c { marks = c.marks ++ record { what = mark.Made (length u.attempts + 1); moment = now u } ∷ [] }

  abbrev pub v : Seen
  v = record u { attempts = u.attempts ++ new ∷ []; calls = changed noted call u.calls }

  limit_same : (a : Attempt) → limit_of_attempt a v ≡ limit_of_attempt a u
  limit_same a = limit_noted m noted call (λ c. refl) a

  response_same : (a : Attempt) → response a v ≡ response a u
  response_same a = response_by_limit u v a a.row.stream refl (limit_same a)

  code_same : (a : Attempt) → reset_code_of v a ≡ reset_code_of u a
  code_same a = ap (codes_with a u) (response_same a)

  pub owed_same : (l : Link) → resets_owed l v ≡ resets_owed l u
  owed_same l =
      ap (λ (xs : List Attempt). map (owed_reset v) (by_stream xs)) (filter-append (is_owed_on l v) u.attempts (new ∷ []) ∙ append-nil (filter (is_owed_on l v) u.attempts))
      ∙ ap (λ (xs : List Attempt). map (owed_reset v) (by_stream xs))
      (filter_same (is_owed_on l v) (is_owed_on l u) (λ a. ap (λ (q : Option ℕ). is_some q && (link_number a == l.number)) (code_same a)) u.attempts)
      ∙ map_same (owed_reset v) (owed_reset u) (λ a. ap (λ (q : Option ℕ). (stream_number a, unwrap_or q 0)) (code_same a)) (by_stream (filter (is_owed_on l u) u.attempts))

  -- readers
  same_one : (a : Attempt) → IsSameResponse u v a a
  same_one a = record { stream = refl; head = ap (λ (p : Response). is_some p.head) (response_same a); rest = ap (λ (p : Response). p.rest) (response_same a); limit = limit_same a }

  alike_by : (q : Option Attempt) → ReadsAlike u v q q
  alike_by None = tt
  alike_by (Some a) = same_one a

  alike : (l : Link) (row : ℕ) → ReadsAlike u v (attempt_on l u row) (attempt_on l v row)
  alike l row = subst (ReadsAlike u v (attempt_on l u row)) (sym (found_at (is_outstanding_on l) u.attempts new row refl)) (alike_by (attempt_on l u row))

  going_on : (l : Link) (slot : LinkSlot) → IsAhead l u slot → IsAhead l v slot
  going_on l slot is = record {
    streams = subst (λ (resets : List (ℕ × ℕ)). SeesAhead resets l v slot.link.link.wire (lines_in l v)) (sym (owed_same l))
        (record {
          wire = is.streams.wire;
          sees = relined l v (lines_in l u) is.streams.wire ((attempts_leave_links u call number kind.Transparent due).streams l is.streams.wire (lines_in l u) is.streams.sees);
          same = is.streams.same;
          queue = is.streams.queue;
        });
    readers = of_readers l v slot.link.readers (readers_are_left l l u v slot.link.readers (readers_of l u slot.link.readers is.readers) (alike l));
    rest = is.rest;
    fresh = is.fresh ∙ sym (ap (λ (resets : List (ℕ × ℕ)). length resets) (owed_same l));
  }

  one_on : (x : StateSeen) (n : ℕ) (l : Link) → HasLinkAhead x u l n → HasLinkAhead x v l n
  one_on x n l is = record {
    slot = is.slot;
    there = is.there;
    sees = record { over = is.sees.over; retiring = is.sees.retiring; going = λ goes. going_on l is.slot (is.sees.going goes) };
  }

  pub makes_ahead : (also : List ℕ) (x : StateSeen) → LinksAhead also x u → LinksAhead also x v
  makes_ahead also x is = record {
    count = is.count;
    each = λ n l at. one_on x n l (is.each n l at);
    closing = λ n l at off. owed_same l ∙ is.closing n l at off;
  }
