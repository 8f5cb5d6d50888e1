-- Links cannot distinguish two sessions whose attempts are the same, but for tokens and words at ends, and for how an end came that brings the same reset.
use Rattle.std.proofs.Common.{Bool, List, Option, Some, [], ap, cond, false, filter, is_none, is_some, length, map, refl, subst, sym, true, unwrap_or, ℕ, ◌&&◌, ◌==◌, ◌≤◌, ◌∙◌, ◌∷◌, ◌≡◌}
use Rattle.std.specs.List.{list_all}
use Rattle.std.specs.Option.{option_map_or}
use Rattle.attempt_ledger.specs.declared.row.Placed.{Placed}
use Rattle.channel_actions.proofs.Lines.{all_at_places}
use Rattle.channel_actions.proofs.Links.Frames.Readers.{readers_still}
use Rattle.channel_actions.proofs.Links.Frames.Streams.{streams_still}
use Rattle.channel_actions.proofs.Stamps.{counted_at}
use Rattle.channel_actions.specs.KeptSessions.Kept.{NumbersCountUp}
use Rattle.channel_actions.specs.LinkFrames.Alike.{AttemptsAreAlike, IsAlike, is_on}
use Rattle.channel_actions.specs.Links.{lines_in}
use Rattle.channel_core.specs.States.{StateSeen}
use Rattle.channel_core.specs.declared.state.links.LinkSlot.{LinkSlot}
use Rattle.end_cases.proofs.CutEnds.Pairs.{owed_sorted, put_pair, sorted}
use Rattle.end_cases.specs.AttemptEnds.Ahead.{HasLinkAhead, IsAhead, LinksAhead, is_owed_on, owed_reset, resets_owed}
use Rattle.link_actions.specs.ResetActions.Ahead.{SeesAhead}
use Rattle.link_actions.specs.Sees.{AttemptsStandInPlace}
use Rattle.session_actions.specs.AttemptEnds.{reset_code_of}
use Rattle.session_actions.specs.Attempts.{call_of}
use Rattle.session_actions.specs.Configs.{chosen_of}
use Rattle.session_actions.specs.Links.{link_number, stream_number}
use Rattle.session_actions.specs.Words.{holds, numbered}
use Rattle.session_actions.specs.Writing.{accepted_bytes}
use Rattle.session_actions.specs.declared.attempt.Attempt.{Attempt}
use Rattle.session_actions.specs.declared.call.Call.{Call}
use Rattle.session_actions.specs.declared.link.Link.{Link}
use Rattle.session_actions.specs.declared.seen.Seen.{Seen}

-- two sessions whose links cannot distinguish one from the other: the attempts are the same, but for tokens and words at ends, and for how an end came that brings the same
-- reset. Of calls the same was accepted, with the same limits
pub record IsSameRow (s t : Seen) (a b : Attempt) : Type 0 where
  pub place : b.place ≡ a.place
  pub call : b.row.call ≡ a.row.call
  pub placed : b.row.placed ≡ a.row.placed
  pub stream : b.row.stream ≡ a.row.stream
  pub goes : is_none b.row.ended ≡ is_none a.row.ended
  pub code : reset_code_of t b ≡ reset_code_of s a

abbrev pub AreSameRows : Seen → Seen → List Attempt → List Attempt → Type 0
AreSameRows s t [] [] = Unit {0}
AreSameRows s t (a ∷ as_) (b ∷ bs) = IsSameRow s t a b × AreSameRows s t as_ bs
AreSameRows s t _ _ = ⊥

pub record IsSameCall (s t : Seen) (n : ℕ) (c : Call) : Type 0 where
  pub call : Call
  pub there : numbered t.calls n ≡ Some call
  pub limit : (chosen_of call t).response ≡ (chosen_of c s).response
  pub more : accepted_bytes c ≤ accepted_bytes call

pub record IsAsFar (s t : Seen) : Type 0 where
  pub links : t.links ≡ s.links
  pub calls : (n : ℕ) (c : Call) → numbered s.calls n ≡ Some c → IsSameCall s t n c
  pub rows : AreSameRows s t s.attempts t.attempts
  pub owned : list_all (λ (a : Attempt). is_some (call_of a s)) s.attempts ≡ true
  pub numbers : NumbersCountUp 1 (map (λ (l : Link). l.number) s.links)
  pub counted : NumbersCountUp 1 (map (λ (a : Attempt). a.place) t.attempts)
  pub places : AttemptsStandInPlace 1 t.attempts

abbrev none_touched : ℕ → Bool
none_touched n = false

module _ (s t : Seen) (is : IsAsFar s t) where
  on_same : (link : ℕ) (a b : Attempt) → IsSameRow s t a b → is_on link b ≡ is_on link a
  on_same link a b k =
      ap (λ (p : Option Placed). (is_some p && is_none b.row.ended) && holds (λ (at : Placed). at.link == link) p) k.placed
      ∙ ap (λ (g : Bool). (is_some a.row.placed && g) && holds (λ (at : Placed). at.link == link) a.row.placed) k.goes

  one_alike : (a b : Attempt) → IsSameRow s t a b → IsAlike none_touched s t a b
  one_alike a b k = record {
    place = k.place;
    on = λ link off. on_same link a b k;
    still = λ link off on. record {
      stream = k.stream;
      calls = λ c at.
          (let d : IsSameCall s t a.row.call c = is.calls a.row.call c at in
          record { call = d.call; is = ap (numbered t.calls) k.call ∙ d.there; limit = d.limit; more = d.more });
    };
  }

  all_alike : (xs ys : List Attempt) → AreSameRows s t xs ys → AttemptsAreAlike none_touched s t xs ys
  all_alike [] [] k = tt
  all_alike (x ∷ xs) (y ∷ ys) k = (one_alike x y k.0, all_alike xs ys k.1)
  all_alike [] (y ∷ ys) k = absurd k
  all_alike (x ∷ xs) [] k = absurd k

  alike : AttemptsAreAlike none_touched s t s.attempts t.attempts
  alike = all_alike s.attempts t.attempts is.rows

  -- what is owed
  test_same : (l : Link) (a b : Attempt) → IsSameRow s t a b → is_owed_on l t b ≡ is_owed_on l s a
  test_same l a b k =
      ap (λ (o : Option ℕ). is_some o && (link_number b == l.number)) k.code
      ∙ ap (λ (p : Option Placed). is_some (reset_code_of s a) && (option_map_or (λ (at : Placed). at.link) p 0 == l.number)) k.placed

  reset_same : (a b : Attempt) → IsSameRow s t a b → owed_reset t b ≡ owed_reset s a
  reset_same a b k = ap (λ (o : Option ℕ). (stream_number b, unwrap_or o 0)) k.code ∙ ap (λ (o : Option ℕ). (unwrap_or o 0, unwrap_or (reset_code_of s a) 0)) k.stream

  sorted_one : (l : Link) (x y : Attempt) (xs ys : List Attempt) (b : Bool) → IsSameRow s t x y
      → sorted (owed_reset t) (filter (is_owed_on l t) ys) ≡ sorted (owed_reset s) (filter (is_owed_on l s) xs)
      → sorted (owed_reset t) (cond b (y ∷ filter (is_owed_on l t) ys) (filter (is_owed_on l t) ys))
      ≡ sorted (owed_reset s) (cond b (x ∷ filter (is_owed_on l s) xs) (filter (is_owed_on l s) xs))
  sorted_one l x y xs ys true k rest =
      ap (λ (p : ℕ × ℕ). put_pair p (sorted (owed_reset t) (filter (is_owed_on l t) ys))) (reset_same x y k) ∙ ap (put_pair (owed_reset s x)) rest
  sorted_one l x y xs ys false k rest = rest

  sorted_rows : (l : Link) (xs ys : List Attempt) → AreSameRows s t xs ys → sorted (owed_reset t) (filter (is_owed_on l t) ys) ≡ sorted (owed_reset s) (filter (is_owed_on l s) xs)
  sorted_rows l [] [] k = refl
  sorted_rows l (x ∷ xs) (y ∷ ys) k =
      ap (λ (b : Bool). sorted (owed_reset t) (cond b (y ∷ filter (is_owed_on l t) ys) (filter (is_owed_on l t) ys))) (test_same l x y k.0)
      ∙ sorted_one l x y xs ys (is_owed_on l s x) k.0 (sorted_rows l xs ys k.1)
  sorted_rows l [] (y ∷ ys) k = absurd k
  sorted_rows l (x ∷ xs) [] k = absurd k

  pub owed_same : (l : Link) → resets_owed l t ≡ resets_owed l s
  owed_same l =
      owed_sorted t (filter (is_owed_on l t) t.attempts) ∙ sorted_rows l s.attempts t.attempts is.rows ∙ sym (owed_sorted s (filter (is_owed_on l s) s.attempts))

  -- each link
  pub one_on : (m : Link) (slot : LinkSlot) → numbered s.links m.number ≡ Some m → IsAhead m s slot → IsAhead m t slot
  one_on m slot at k =
      let at_t : numbered t.links m.number ≡ Some m = ap (λ (ls : List Link). numbered ls m.number) is.links ∙ at in
      record {
        streams = subst (λ (rs : List (ℕ × ℕ)). SeesAhead rs m t slot.link.link.wire (lines_in m t)) (sym (owed_same m))
            (record {
              wire = k.streams.wire;
              sees = streams_still m m s t none_touched refl is.owned (all_at_places t.attempts is.counted) alike k.streams.wire (lines_in m s)
                  (record { number = refl; traffic_ = refl; owed = refl }) k.streams.sees at_t is.places;
              same = k.streams.same;
              queue = k.streams.queue;
            });
        readers = readers_still none_touched m m s t refl refl at at_t refl slot.link.readers is.owned alike k.readers;
        rest = k.rest;
        fresh = k.fresh ∙ sym (ap (λ (rs : List (ℕ × ℕ)). length rs) (owed_same m));
      }

  pub as_far : (also : List ℕ) (x : StateSeen) → LinksAhead also x s → LinksAhead also x t
  as_far also x h = record {
    count = ap (λ (ls : List Link). length ls) is.links ∙ h.count;
    each = λ n m at.
        (let at_s : numbered s.links n ≡ Some m = ap (λ (ls : List Link). numbered ls n) (sym is.links) ∙ at in
        let k : HasLinkAhead x s m n = h.each n m at_s in
        let own : m.number ≡ n = counted_at (λ (q : Link). q.number) s.links n m is.numbers at_s in
        record {
          slot = k.slot;
          there = k.there;
          sees = record { over = k.sees.over; retiring = k.sees.retiring; going = λ goes. one_on m k.slot (ap (numbered s.links) own ∙ at_s) (k.sees.going goes) };
        });
    closing = λ n m at off. owed_same m ∙ h.closing n m (ap (λ (ls : List Link). numbered ls n) (sym is.links) ∙ at) off;
  }
