-- What a link is fed with goes on with the clock: each attempt on it stands at its place, so its line is that of its call at the moment that is.
use Rattle.std.proofs.Common.{◌≡◌, ◌+◌, ◌∷◌, ap, arith, refl, subst, sym, ◌∙◌, Bool, true, false, List, [], Option, Some, ℕ, zero, suc, cond, filter, slice_get}
use Rattle.std.specs.List.{AllByRecursion}
use Rattle.std.specs.Option.{option_map_or}
use Rattle.std.specs.Prelude.{map}
use Rattle.channel_actions.specs.KeptSessions.Kept.{NumbersCountUp}
use Rattle.channel_actions.specs.Links.{line_of, lines_in, no_line}
use Rattle.grpc_base.specs.declared.event.Entry.{Entry}
use Rattle.h2_link.specs.Feeds.{Line}
use Rattle.h2_link.specs.Wire.{Wire}
use Rattle.h2_link.specs.declared.live.LiveStream.{LiveStream}
use Rattle.link_actions.proofs.Opened.{put_all}
use Rattle.link_actions.specs.Sees.{StreamsAreFed, StreamsAreLive, IsFed, SeesLink, WaitFed, by_stream}
use Rattle.session_actions.specs.Attempts.{call_of}
use Rattle.session_actions.specs.Words.{numbered}
use Rattle.session_actions.specs.Writing.{streaming_on, waiting_on}
use Rattle.session_actions.specs.declared.attempt.Attempt.{Attempt}
use Rattle.session_actions.specs.declared.call.Call.{Call}
use Rattle.session_actions.specs.declared.entry.OpenEntry.{OpenEntry}
use Rattle.session_actions.specs.declared.link.Link.{Link}
use Rattle.session_actions.specs.declared.seen.Seen.{Seen}
use Rattle.link_actions.specs.StreamActions.Sees.{ResponsesAreReceived, SeesStreams}

-- each attempt stands at its place
abbrev pub AtPlace : List Attempt → Attempt → Type 0
AtPlace all a = numbered all a.place ≡ Some a

pub at_places : (all xs : List Attempt) (n : ℕ) → ((i : ℕ) → slice_get xs i ≡ slice_get all (n + i)) → NumbersCountUp (suc n) (map (λ (a : Attempt). a.place) xs)
    → AllByRecursion (AtPlace all) xs
at_places all [] n h p = tt
at_places all (a ∷ xs) n h p =
    let start : n ≡ n + 0 = omega arith in
    let on : (i : ℕ) → slice_get xs i ≡ slice_get all (suc n + i) = λ i. h (suc i) ∙ ap (slice_get all) (let e : n + suc i ≡ suc n + i = omega arith in e) in
    (ap (numbered all) p.0 ∙ ap (slice_get all) start ∙ sym (h zero), at_places all xs (suc n) on p.1)

pub all_at_places : (all : List Attempt) → NumbersCountUp 1 (map (λ (a : Attempt). a.place) all) → AllByRecursion (AtPlace all) all
all_at_places all p = at_places all all 0 (λ i. ap (slice_get all) (let e : i ≡ 0 + i = omega arith in e)) p

all_filter_by : (P : Attempt → Type 0) (p : Attempt → Bool) (a : Attempt) (xs : List Attempt) (b : Bool) → P a → AllByRecursion P (filter p xs)
    → AllByRecursion P (cond b (a ∷ filter p xs) (filter p xs))
all_filter_by P p a xs true h rest = (h, rest)
all_filter_by P p a xs false h rest = rest

pub all_filter : (P : Attempt → Type 0) (p : Attempt → Bool) (xs : List Attempt) → AllByRecursion P xs → AllByRecursion P (filter p xs)
all_filter P p [] h = tt
all_filter P p (a ∷ xs) h = all_filter_by P p a xs (p a) h.0 (all_filter P p xs h.1)

pub all_sorted : (P : Attempt → Type 0) (xs : List Attempt) → AllByRecursion P xs → AllByRecursion P (by_stream xs)
all_sorted P [] h = tt
all_sorted P (a ∷ xs) h = put_all P a (by_stream xs) h.0 (all_sorted P xs h.1)

-- of a session with another entry, in which all else is the same
module _ (l : Link) (s : Seen) (entries : List Entry) (current : Option OpenEntry) (answered wants : Bool) where
  abbrev t : Seen
  t = record s { entries = entries; current = current; answered = answered; wants = wants }

  line_at : (a : Attempt) (c : Call) (row : ℕ) → row ≡ a.place → AtPlace s.attempts a → call_of a s ≡ Some c → lines_in l t row ≡ line_of l t a c
  line_at a c row e at of =
      ap (λ (o : Option Attempt). option_map_or (λ (q : Attempt). option_map_or (line_of l t q) (call_of q t) no_line) o no_line) (ap (numbered s.attempts) e ∙ at)
      ∙ ap (λ (o : Option Call). option_map_or (line_of l t a) o no_line) of

  fed_one : (a : Attempt) (row : ℕ) (line : Line) → row ≡ a.place → AtPlace s.attempts a → IsFed l s a line → IsFed l t a (lines_in l t row)
  fed_one a row line e at h =
      let own : IsFed l t a (line_of l t a h.call)
      = record { call = h.call; call_is = h.call_is; fields = refl; written = h.written; left = refl; finished = refl } in
      subst (IsFed l t a) (sym (line_at a h.call row e at h.call_is)) own

  fed_all : (g : ℕ → Line) (xs : List LiveStream) (as_ : List Attempt) → StreamsAreLive l xs as_ → AllByRecursion (AtPlace s.attempts) as_ → StreamsAreFed l s g xs as_
      → StreamsAreFed l t (lines_in l t) xs as_
  fed_all g [] [] live at fed = tt
  fed_all g (x ∷ xs) (a ∷ as_) live at fed = (fed_one a x.tag (g x.tag) live.0.tag at.0 fed.0, fed_all g xs as_ live.1 at.1 fed.1)
  fed_all g [] (a ∷ as_) live at fed = absurd fed
  fed_all g (x ∷ xs) [] live at fed = absurd fed

  wait_all : (g : ℕ → Line) (as_ : List Attempt) → AllByRecursion (AtPlace s.attempts) as_ → WaitFed l s g as_ → WaitFed l t (lines_in l t) as_
  wait_all g [] at fed = tt
  wait_all g (a ∷ as_) at fed = (fed_one a a.place (g a.place) refl at.0 fed.0, wait_all g as_ at.1 fed.1)

  received_all : (xs : List LiveStream) (as_ : List Attempt) → ResponsesAreReceived l s xs as_ → ResponsesAreReceived l t xs as_
  received_all [] [] h = tt
  received_all (x ∷ xs) (a ∷ as_) h = (record { head = h.0.head; goes = h.0.goes; small = h.0.small }, received_all xs as_ h.1)
  received_all [] (a ∷ as_) h = absurd h
  received_all (x ∷ xs) [] h = absurd h

  pub streams_moved : (w : Wire) → NumbersCountUp 1 (map (λ (a : Attempt). a.place) s.attempts) → SeesStreams l s w (lines_in l s) → SeesStreams l t w (lines_in l t)
  streams_moved w counted h =
      let k = h.sees in
      let at : AllByRecursion (AtPlace s.attempts) s.attempts = all_at_places s.attempts counted in
      let streaming : AllByRecursion (AtPlace s.attempts) (by_stream (streaming_on l s)) = all_sorted (AtPlace s.attempts) (streaming_on l s) (all_filter (AtPlace s.attempts) _ _ (all_filter (AtPlace s.attempts) _ s.attempts at)) in
      let waiting : AllByRecursion (AtPlace s.attempts) (waiting_on l s) = all_filter (AtPlace s.attempts) _ _ (all_filter (AtPlace s.attempts) _ s.attempts at) in
      let moved : SeesLink l t w (lines_in l t) = record {
        at = k.at;
        sees = record { reads = k.sees.reads; live = k.sees.live };
        owes = k.owes;
        waits = k.waits;
        fed = fed_all (lines_in l s) w.live (by_stream (streaming_on l s)) k.sees.live streaming k.fed;
        wait_fed = wait_all (lines_in l s) (waiting_on l s) waiting k.wait_fed;
        opened = k.opened;
        fresh = k.fresh;
        tags = k.tags;
        places = k.places;
      } in
      record { sees = moved; handled = received_all w.live (by_stream (streaming_on l s)) h.handled; unreceived = h.unreceived; begun = h.begun }
