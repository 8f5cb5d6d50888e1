-- A commitment leaves each link as far ahead as it was.
use Rattle.std.proofs.Common.{◌≡◌, ◌&&◌, ◌==◌, ◌++◌, ◌∷◌, ap, refl, subst, sym, ◌∙◌, Bool, true, false, List, [], Option, None, Some, ℕ, filter, if◌then◌else◌, is_some, length, map, option_map}
use Rattle.std.specs.Option.{option_map_or}
use Rattle.std.specs.Prelude.{nat_lt, option_and_then, unwrap_or}
use Rattle.call_actions.proofs.Lists.{changed_here}
use Rattle.call_actions.proofs.PlacedFrames.{none_bad}
use Rattle.call_actions.proofs.Ranks.{filter_mapped, map_through, numbered_map}
use Rattle.call_cases.proofs.EndsFollow.Codes.{response_by_limit}
use Rattle.call_cases.proofs.LinkEnds.After.{of_readers, readers_of}
use Rattle.call_cases.proofs.LinkEnds.Resets.{relined}
use Rattle.channel_actions.specs.Links.{lines_in}
use Rattle.end_cases.proofs.AttemptEnds.AheadStays.{codes_with, limit_noted}
use Rattle.end_cases.specs.AttemptEnds.Ahead.{HasLinkAhead, IsAhead, LinksAhead, is_owed_on, owed_reset, resets_owed}
use Rattle.channel_core.specs.States.{StateSeen}
use Rattle.channel_core.specs.declared.state.links.LinkSlot.{LinkSlot}
use Rattle.link_actions.proofs.ResponseActions.Taken.{readers_are_left}
use Rattle.link_actions.proofs.SteadyLinks.Calls.{commitments_leave_links}
use Rattle.link_actions.proofs.Without.{at_place, changed_at}
use Rattle.link_actions.specs.ResetActions.Ahead.{SeesAhead}
use Rattle.link_actions.specs.ResponseActions.Laws.{IsSameResponse, ReadsAlike}
use Rattle.link_actions.specs.StreamActions.Sees.{SeesStreams}
use Rattle.link_actions.specs.ResponseActions.Readers.{attempt_on}
use Rattle.link_actions.specs.Sees.{AttemptsStandInPlace, by_stream, put_by_stream}
use Rattle.session_actions.specs.AttemptEnds.{reset_code_of}
use Rattle.session_actions.specs.Attempts.{with_attempt}
use Rattle.session_actions.specs.Calls.{marked}
use Rattle.session_actions.specs.Commitments.{call_committed, with_commitment}
use Rattle.session_actions.specs.Entries.{entry, now}
use Rattle.session_actions.specs.Links.{link_number, stream_number}
use Rattle.session_actions.specs.Reading.{is_outstanding_on}
use Rattle.session_actions.specs.Responses.{limit_of_attempt, response}
use Rattle.session_actions.specs.Words.{numbered}
use Rattle.session_actions.specs.declared.attempt.Attempt.{Attempt}
use Rattle.session_actions.specs.declared.call.Call.{Call}
use Rattle.session_actions.specs.declared.call.MarkKind.TheVariants as mark
use Rattle.session_actions.specs.declared.link.Link.{Link}
use Rattle.session_actions.specs.declared.response.Response.{Response}
use Rattle.session_actions.specs.declared.seen.Seen.{Seen}

-- attempts in the order of their streams, mapped by what leaves the streams
module _ (f : Attempt → Attempt) (same : (q : Attempt) → stream_number (f q) ≡ stream_number q) where
  put_if : (a b : Attempt) (bs : List Attempt) (c : Bool) → map f (put_by_stream a bs) ≡ put_by_stream (f a) (map f bs)
      → map f (if c then b ∷ put_by_stream a bs else a ∷ b ∷ bs) ≡ (if c then f b ∷ put_by_stream (f a) (map f bs) else f a ∷ f b ∷ map f bs)
  put_if a b bs true rest = ap (λ (l : List Attempt). f b ∷ l) rest
  put_if a b bs false rest = refl

  put_map : (a : Attempt) (bs : List Attempt) → map f (put_by_stream a bs) ≡ put_by_stream (f a) (map f bs)
  put_map a [] = refl
  put_map a (b ∷ bs) =
      put_if a b bs (nat_lt (stream_number b) (stream_number a)) (put_map a bs)
      ∙ ap (λ (n : ℕ). if nat_lt n (stream_number a) then f b ∷ put_by_stream (f a) (map f bs) else f a ∷ f b ∷ map f bs) (sym (same b))
      ∙ ap (λ (n : ℕ). if nat_lt (stream_number (f b)) n then f b ∷ put_by_stream (f a) (map f bs) else f a ∷ f b ∷ map f bs) (sym (same a))

  pub by_stream_map : (xs : List Attempt) → by_stream (map f xs) ≡ map f (by_stream xs)
  by_stream_map [] = refl
  by_stream_map (a ∷ xs) = ap (put_by_stream (f a)) (by_stream_map xs) ∙ sym (put_map a (by_stream xs))

module _ (u : Seen) (place : ℕ) (pa : Attempt) (there : numbered u.attempts place ≡ Some pa) (places : AttemptsStandInPlace 1 u.attempts) where
  abbrev f : Attempt → Attempt
  f q = at_place (with_commitment (entry u)) place q

  abbrev m : Seen
  m = with_attempt (with_commitment (entry u)) place u

  abbrev pub v : Seen
  v = marked mark.Committed pa.row.call m

  pub commit_is : call_committed place u ≡ v
  commit_is = ap (λ (q : Option Attempt). option_map_or (λ (b : Attempt). marked mark.Committed b.row.call m) q m) (changed_here (with_commitment (entry u)) place u.attempts pa there)

  pub attempts_are : v.attempts ≡ map f u.attempts
  attempts_are = changed_at (with_commitment (entry u)) place u.attempts pa places there

  -- what an attempt is then
  limit_same : (a : Attempt) → limit_of_attempt a v ≡ limit_of_attempt a u
  limit_same a = limit_noted m (λ (c : Call). record c { marks = c.marks ++ record { what = mark.Committed; moment = now u } ∷ [] }) pa.row.call (λ c. refl) a

  response_same : (a : Attempt) → response a v ≡ response a u
  response_same a = response_by_limit u v a a.row.stream refl (limit_same a)

  code_by : (a : Attempt) (b : Bool) → reset_code_of v (if b then with_commitment (entry u) a else a) ≡ reset_code_of u a
  code_by a true = ap (codes_with a u) (response_same a)
  code_by a false = ap (codes_with a u) (response_same a)

  code_same : (a : Attempt) → reset_code_of v (f a) ≡ reset_code_of u a
  code_same a = code_by a (a.place == place)

  stream_by : (a : Attempt) (b : Bool) → stream_number (if b then with_commitment (entry u) a else a) ≡ stream_number a
  stream_by a true = refl
  stream_by a false = refl

  link_by : (a : Attempt) (b : Bool) → link_number (if b then with_commitment (entry u) a else a) ≡ link_number a
  link_by a true = refl
  link_by a false = refl

  pub owed_same : (l : Link) → resets_owed l v ≡ resets_owed l u
  owed_same l =
      ap (λ (xs : List Attempt). map (owed_reset v) (by_stream (filter (is_owed_on l v) xs))) attempts_are
      ∙ ap (λ (xs : List Attempt). map (owed_reset v) (by_stream xs))
      (filter_mapped (is_owed_on l v) (is_owed_on l u) (λ (q : Attempt). false) f
      (λ q good. ap (λ (r : Option ℕ). is_some r && (link_number (f q) == l.number)) (code_same q) ∙ ap (λ (n : ℕ). is_some (reset_code_of u q) && (n == l.number)) (link_by q (q.place == place)))
      u.attempts (none_bad u.attempts))
      ∙ ap (map (owed_reset v)) (by_stream_map f (λ q. stream_by q (q.place == place)) (filter (is_owed_on l u) u.attempts))
      ∙ map_through (owed_reset v) f (owed_reset u)
      (λ q. ap (λ (n : ℕ). (n, unwrap_or (reset_code_of v (f q)) 0)) (stream_by q (q.place == place)) ∙ ap (λ (r : Option ℕ). (stream_number q, unwrap_or r 0)) (code_same q))
      (by_stream (filter (is_owed_on l u) u.attempts))

  -- readers
  same_by : (a : Attempt) (b : Bool) → IsSameResponse u v a (if b then with_commitment (entry u) a else a)
  same_by a true = record { stream = refl; head = ap (λ (p : Response). is_some p.head) (response_same a); rest = ap (λ (p : Response). p.rest) (response_same a); limit = limit_same a }
  same_by a false = record { stream = refl; head = ap (λ (p : Response). is_some p.head) (response_same a); rest = ap (λ (p : Response). p.rest) (response_same a); limit = limit_same a }

  out_by : (l : Link) (a : Attempt) (b : Bool) → is_outstanding_on l (if b then with_commitment (entry u) a else a) ≡ is_outstanding_on l a
  out_by l a true = refl
  out_by l a false = refl

  alike_if : (l : Link) (a : Attempt) (c : Bool) → ReadsAlike u v (if c then Some a else None) (if c then Some (f a) else None)
  alike_if l a true = same_by a (a.place == place)
  alike_if l a false = tt

  alike_by : (l : Link) (q : Option Attempt)
      → ReadsAlike u v (option_and_then (λ (b : Attempt). if is_outstanding_on l b then Some b else None) q)
      (option_and_then (λ (b : Attempt). if is_outstanding_on l b then Some b else None) (option_map f q))
  alike_by l None = tt
  alike_by l (Some a) =
      subst (λ (c : Bool). ReadsAlike u v (if is_outstanding_on l a then Some a else None) (if c then Some (f a) else None)) (sym (out_by l a (a.place == place)))
      (alike_if l a (is_outstanding_on l a))

  alike : (l : Link) (row : ℕ) → ReadsAlike u v (attempt_on l u row) (attempt_on l v row)
  alike l row =
      subst (λ (q : Option Attempt). ReadsAlike u v (attempt_on l u row) (option_and_then (λ (b : Attempt). if is_outstanding_on l b then Some b else None) q))
      (sym (ap (λ (xs : List Attempt). numbered xs row) attempts_are ∙ numbered_map f u.attempts row)) (alike_by l (numbered u.attempts row))

  going_on : (l : Link) (slot : LinkSlot) → IsAhead l u slot → IsAhead l v slot
  going_on l slot is = record {
    streams = subst (λ (resets : List (ℕ × ℕ)). SeesAhead resets l v slot.link.link.wire (lines_in l v)) (sym (owed_same l))
        (record {
          wire = is.streams.wire;
          sees = relined l v (lines_in l u) is.streams.wire
              (subst (λ (q : Seen). SeesStreams l q is.streams.wire (lines_in l u)) commit_is
              ((commitments_leave_links u place pa there).streams l is.streams.wire (lines_in l u) is.streams.sees));
          same = is.streams.same;
          queue = is.streams.queue;
        });
    readers = of_readers l v slot.link.readers (readers_are_left l l u v slot.link.readers (readers_of l u slot.link.readers is.readers) (alike l));
    rest = is.rest;
    fresh = is.fresh ∙ sym (ap (λ (resets : List (ℕ × ℕ)). length resets) (owed_same l));
  }

  one_on : (x : StateSeen) (n : ℕ) (l : Link) → HasLinkAhead x u l n → HasLinkAhead x v l n
  one_on x n l is = record {
    slot = is.slot;
    there = is.there;
    sees = record { over = is.sees.over; retiring = is.sees.retiring; going = λ goes. going_on l is.slot (is.sees.going goes) };
  }

  pub commits_ahead : (also : List ℕ) (x : StateSeen) → LinksAhead also x u → LinksAhead also x v
  commits_ahead also x is = record {
    count = is.count;
    each = λ n l at. one_on x n l (is.each n l at);
    closing = λ n l at off. owed_same l ∙ is.closing n l at off;
  }
