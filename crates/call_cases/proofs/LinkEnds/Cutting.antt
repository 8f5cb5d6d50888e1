-- One link while attempts are cut off, on it or elsewhere: it is ahead of the session by the resets of those that had a stream, in the order of their streams.
use Rattle.std.proofs.Common.{◌≡◌, ◌+◌, ◌∷◌, ◌||◌, ◌&&◌, ◌==◌, not, ap, arith, refl, subst, sym, ◌∙◌, Bool, true, false, List, [], Option, None, Some, ℕ, zero, suc, cond, filter, if◌then◌else◌, is_none, is_some, map, slice_get, slice_set, unwrap_or}
use Rattle.std.proofs.lemmas.Bool.{both_ways, eqb-true}
use Rattle.std.proofs.lemmas.Bool.Decides.{nat_tests}
use Rattle.std.specs.List.{AllByRecursion, list_all}
use Rattle.std.specs.Option.{option_and_then}
use Rattle.attempt_ledger.specs.declared.row.RowEnd.{RowEnd}
use Rattle.channel_actions.proofs.Lines.{AtPlace, all_at_places, all_sorted}
use Rattle.grpc_base.specs.ErrorCodes.{cancel}
use Rattle.grpc_link.specs.Links.{reader_in, without}
use Rattle.grpc_link.specs.Readers.{ReaderSeen}
use Rattle.grpc_link.specs.declared.readers.TagReader.{TagReader}
use Rattle.h2_link.specs.Feeds.{Line}
use Rattle.h2_link.specs.Steps.{cut}
use Rattle.h2_link.specs.Wire.{Wire}
use Rattle.h2_link.specs.declared.live.LiveStream.{LiveStream}
use Rattle.channel_actions.specs.KeptSessions.Kept.{NumbersCountUp}
use Rattle.lb_policy.specs.Table.{is_one_of}
use Rattle.link_actions.proofs.Ended.{is_ended}
use Rattle.link_actions.proofs.Without.{is_other, is_other_stream}
use Rattle.link_actions.specs.Laws.{without_tag}
use Rattle.link_actions.specs.Sees.{StreamsAreLive, AttemptsStandInPlace, by_stream}
use Rattle.call_cases.proofs.EndsFollow.Codes.{cut_waiting, ended_code, going_code}
use Rattle.call_cases.proofs.LinkEnds.Codes.{cut_code, put_code, with_code}
use Rattle.call_cases.proofs.EndsFollow.Streams.{gains, put, sorted_by, stays_out}
use Rattle.call_cases.specs.EndsFollow.Cuts.{IsOut, cut_off}
use Rattle.link_actions.proofs.ResetActions.Cuts.{cuts_go_ahead}
use Rattle.link_actions.proofs.ResetActions.Waits.{waits_are_cut}
use Rattle.link_actions.specs.ResetActions.Ahead.{put_reset}
use Rattle.link_actions.specs.ResetActions.Laws.{IsCut}
use Rattle.link_actions.proofs.ResponseActions.Ended.{ends_keep_readers}
use Rattle.link_actions.proofs.ResponseActions.Taken.{cuts_take_readers}
use Rattle.link_actions.specs.ResponseActions.Readers.{IsReaderOf, SeesReaders, attempt_on}
use Rattle.session_actions.specs.AttemptEnds.{cut_end, end_of, reset_code_of, with_end}
use Rattle.session_actions.specs.Links.{link_number, read_bytes, stream_number}
use Rattle.session_actions.specs.Reading.{is_outstanding_on, outstanding_on}
use Rattle.session_actions.specs.Responses.{is_read_by}
use Rattle.session_actions.specs.Words.{changed, changed_if, numbered}
use Rattle.session_actions.specs.Writing.{streaming_on, waiting_on}
use Rattle.session_actions.specs.declared.attempt.Attempt.{Attempt}
use Rattle.session_actions.specs.declared.link.Link.{Link}
use Rattle.session_actions.specs.declared.seen.Seen.{Seen}
use Rattle.link_actions.proofs.StreamActions.StreamEnds.{ends_received}
use Rattle.link_actions.proofs.StreamActions.Unreceived.{but_all}
use Rattle.link_actions.specs.StreamActions.Laws.{IsOn}
use Rattle.link_actions.specs.StreamActions.Sees.{SeesBut, SeesStreams}

-- the streams of a link that are still to be reset, in their order
abbrev pub is_owed_on : ℕ → Seen → Attempt → Bool
is_owed_on link s a = is_some (reset_code_of s a) && (link_number a == link)

abbrev pub owed_on : ℕ → Seen → List ℕ
owed_on link s = sorted_by stream_number (filter (is_owed_on link s) s.attempts)

pub filter_same : {X : Type 0} (p q : X → Bool) → ((x : X) → p x ≡ q x) → (xs : List X) → filter p xs ≡ filter q xs
filter_same p q same [] = refl
filter_same p q same (x ∷ xs) =
    ap (λ (b : Bool). cond b (x ∷ filter p xs) (filter p xs)) (same x) ∙ ap (λ (l : List _). cond (q x) (x ∷ l) l) (filter_same p q same xs)

-- where a thing of a number stands
pub record IsPut {X : Type 0} (f : X → X) (k : ℕ) (xs : List X) (x : X) : Type 0 where
  pub index : ℕ
  pub there : slice_get xs index ≡ Some x
  pub put_in : changed f k xs ≡ slice_set xs index (f x)

pub is_put : {X : Type 0} (f : X → X) (k : ℕ) (xs : List X) (x : X) → numbered xs k ≡ Some x → IsPut f k xs x
is_put f zero xs x e = absurd (cc)
is_put f (suc i) xs x e = record { index = i; there = e; put_in = ap (changed_if f (suc i) xs) e }

-- each attempt stands at its place
pub counted_places : (n : ℕ) (xs : List Attempt) → AttemptsStandInPlace n xs → NumbersCountUp n (map (λ (a : Attempt). a.place) xs)
counted_places n [] p = tt
counted_places n (a ∷ xs) p =
    (p.0, subst (λ (k : ℕ). NumbersCountUp k (map (λ (x : Attempt). x.place) xs)) (let e : n + 1 ≡ suc n = omega arith in e) (counted_places (n + 1) xs p.1))

-- what passes a filter
filter_all_by : {X : Type 0} (P Q : X → Type 0) (p : X → Bool) (x : X) (xs : List X) (b : Bool) → p x ≡ b → (P x → p x ≡ true → Q x) → P x
    → AllByRecursion Q (filter p xs) → AllByRecursion Q (cond b (x ∷ filter p xs) (filter p xs))
filter_all_by P Q p x xs true e turn h rest = (turn h e, rest)
filter_all_by P Q p x xs false e turn h rest = rest

pub filter_all : {X : Type 0} (P Q : X → Type 0) (p : X → Bool) → ((x : X) → P x → p x ≡ true → Q x) → (xs : List X) → AllByRecursion P xs → AllByRecursion Q (filter p xs)
filter_all P Q p turn [] h = tt
filter_all P Q p turn (x ∷ xs) h = filter_all_by P Q p x xs (p x) refl (turn x) h.0 (filter_all P Q p turn xs h.1)

-- of which none has a tag
none_tagged : (l : Link) (t : ℕ) (xs : List LiveStream) (as_ : List Attempt) → StreamsAreLive l xs as_ → AllByRecursion (λ (b : Attempt). (b.place == t) ≡ false) as_
    → filter (is_other_stream t) xs ≡ xs
none_tagged l t [] [] live off = refl
none_tagged l t (x ∷ xs) (b ∷ as_) live off =
    ap (λ (k : ℕ). cond (not (k == t)) (x ∷ filter (is_other_stream t) xs) (filter (is_other_stream t) xs)) live.0.tag
    ∙ ap (λ (c : Bool). cond (not c) (x ∷ filter (is_other_stream t) xs) (filter (is_other_stream t) xs)) off.0
    ∙ ap (λ (l : List LiveStream). x ∷ l) (none_tagged l t xs as_ live.1 off.1)
none_tagged l t [] (b ∷ as_) live off = absurd live
none_tagged l t (x ∷ xs) [] live off = absurd live

none_waits : (t : ℕ) (as_ : List Attempt) → AllByRecursion (λ (b : Attempt). (b.place == t) ≡ false) as_
    → filter (is_other t) (map (λ (b : Attempt). b.place) as_) ≡ map (λ (b : Attempt). b.place) as_
none_waits t [] off = refl
none_waits t (b ∷ as_) off =
    let ns : List ℕ = map (λ (b : Attempt). b.place) as_ in
    ap (λ (c : Bool). cond (not c) (b.place ∷ filter (is_other t) ns) (filter (is_other t) ns)) off.0 ∙ ap (λ (l : List ℕ). b.place ∷ l) (none_waits t as_ off.1)

-- one of a list that passes a filter
pub record IsHere {X : Type 0} (xs : List X) (x : X) : Type 0 where
  pub index : ℕ
  pub there : slice_get xs index ≡ Some x

here_by : {X : Type 0} (y : X) (ys : List X) (x : X) (b : Bool) → IsHere ys x → IsHere (cond b (y ∷ ys) ys) x
here_by y ys x true h = record { index = suc h.index; there = h.there }
here_by y ys x false h = h

pub here_filtered : {X : Type 0} (p : X → Bool) (xs : List X) (i : ℕ) (x : X) → slice_get xs i ≡ Some x → p x ≡ true → IsHere (filter p xs) x
here_filtered p [] i x e pass = absurd (cc)
here_filtered p (y ∷ ys) zero x e pass =
    let same : y ≡ x = (cc) in
    subst (λ (b : Bool). IsHere (cond b (y ∷ filter p ys) (filter p ys)) x) (sym (ap p same ∙ pass)) (record { index = 0; there = e })
here_filtered p (y ∷ ys) (suc i) x e pass = here_by y (filter p ys) x (p y) (here_filtered p ys i x e pass)

same_place : (m n : ℕ) → m ≡ n → (m == n) ≡ true
same_place m n e = grind (arith, nat_tests, e)

or_true : (b : Bool) → (b || true) ≡ true
or_true true = refl
or_true false = refl

pub one_of_places : (xs : List Attempt) (i : ℕ) (a : Attempt) → slice_get xs i ≡ Some a → is_one_of (map (λ (b : Attempt). b.place) xs) a.place ≡ true
one_of_places [] i a e = absurd (cc)
one_of_places (x ∷ xs) zero a e =
    let same : x ≡ a = (cc) in
    ap (λ (c : Bool). c || is_one_of (map (λ (b : Attempt). b.place) xs) a.place) (same_place x.place a.place (ap (λ (b : Attempt). b.place) same))
one_of_places (x ∷ xs) (suc i) a e = ap (λ (c : Bool). (x.place == a.place) || c) (one_of_places xs i a e) ∙ or_true (x.place == a.place)

pub end_outstanding : {X Y : Type 0} (o : Option X) (p : Option Y) → (is_some o && is_none p) ≡ true → p ≡ None
end_outstanding None p e = absurd (cc)
end_outstanding (Some x) None e = refl
end_outstanding (Some x) (Some y) e = absurd (cc)

-- a link on which an attempt is not: the others are there
module _ (s : Seen) (a : Attempt) (there : numbered s.attempts a.place ≡ Some a) (places : AttemptsStandInPlace 1 s.attempts) (l : Link) (off : is_outstanding_on l a ≡ false) where
  abbrev IsOther : Attempt → Type 0
  IsOther b = (b.place == a.place) ≡ false

  apart_by : (b : Attempt) (c : Bool) → (b.place == a.place) ≡ c → AtPlace s.attempts b → is_outstanding_on l b ≡ true → IsOther b
  apart_by b false e at on = e
  apart_by b true e at on =
      let same : b.place ≡ a.place = eqb-true b.place a.place e in
      let two : Some b ≡ Some a = sym at ∙ ap (numbered s.attempts) same ∙ there in
      let one : b ≡ a = (cc) in
      absurd (both_ways (is_outstanding_on l a) off (sym (ap (is_outstanding_on l) one) ∙ on))

  none_here : AllByRecursion IsOther (outstanding_on l s)
  none_here =
      filter_all (AtPlace s.attempts) IsOther (is_outstanding_on l) (λ b at on. apart_by b (b.place == a.place) refl at on)
      s.attempts (all_at_places s.attempts (counted_places 1 s.attempts places))

  pub none_streaming : AllByRecursion IsOther (by_stream (streaming_on l s))
  none_streaming =
      all_sorted IsOther (streaming_on l s) (filter_all IsOther IsOther (λ (b : Attempt). is_some b.row.stream) (λ b e on. e) (outstanding_on l s) none_here)

  pub none_waiting : AllByRecursion IsOther (waiting_on l s)
  none_waiting = filter_all IsOther IsOther (λ (b : Attempt). is_none b.row.stream) (λ b e on. e) (outstanding_on l s) none_here

-- an attempt is cut off
module _ (s : Seen) (a : Attempt) (out : IsOut s a) (places : AttemptsStandInPlace 1 s.attempts) where
  abbrev pub end : RowEnd
  end = end_of a cut_end s

  abbrev pub z : Attempt
  z = with_end end a

  abbrev pub u : Seen
  u = cut_off a s

  pub on_it : IsPut (with_end end) a.place s.attempts a
  on_it = is_put (with_end end) a.place s.attempts a out.there

  pub attempts_are : u.attempts ≡ slice_set s.attempts on_it.index z
  attempts_are = ap (λ (v : Seen). v.attempts) (is_ended s a.place end a places out.there) ∙ on_it.put_in

  pub links_are : u.links ≡ s.links
  links_are = ap (λ (v : Seen). v.links) (is_ended s a.place end a places out.there)

  codes : (b : Attempt) → reset_code_of u b ≡ reset_code_of s b
  codes b = ended_code s a.place a end places out.there b

  went_on : reset_code_of s a ≡ None
  went_on = going_code s a (end_outstanding a.row.placed a.row.ended out.outstanding)

  was_off : (link : ℕ) → is_owed_on link u a ≡ false
  was_off link = ap (λ (o : Option ℕ). is_some o && (link_number a == link)) (codes a ∙ went_on)

  owed_same : (link : ℕ) (b : Attempt) → is_owed_on link u b ≡ is_owed_on link s b
  owed_same link b = ap (λ (o : Option ℕ). is_some o && (link_number b == link)) (codes b)

  all_same : (link : ℕ) → sorted_by stream_number (filter (is_owed_on link u) s.attempts) ≡ owed_on link s
  all_same link = ap (sorted_by stream_number) (filter_same (is_owed_on link u) (is_owed_on link s) (owed_same link) s.attempts)

  -- one stream more is owed on its link, or none
  pub owes_more : (link : ℕ) → is_owed_on link u z ≡ true → owed_on link u ≡ put (stream_number a) (owed_on link s)
  owes_more link on =
      ap (λ (l : List Attempt). sorted_by stream_number (filter (is_owed_on link u) l)) attempts_are
      ∙ gains stream_number (is_owed_on link u) s.attempts on_it.index a z on_it.there (was_off link) on
      ∙ ap (put (stream_number a)) (all_same link)

  pub owes_same : (link : ℕ) → is_owed_on link u z ≡ false → owed_on link u ≡ owed_on link s
  owes_same link off =
      ap (λ (l : List Attempt). sorted_by stream_number (filter (is_owed_on link u) l)) attempts_are
      ∙ stays_out stream_number (is_owed_on link u) s.attempts on_it.index a z on_it.there (was_off link) off
      ∙ all_same link

  -- a link on which it is not
  module _ (l : Link) (off : is_outstanding_on l a ≡ false) where
    pub cut_elsewhere : (resets : List (ℕ × ℕ)) (w : Wire) (g : ℕ → Line) → IsCut resets l s w g → IsCut resets l u w g
    cut_elsewhere resets w g is =
        let v : Wire = is.ahead.wire in
        let t : ℕ = a.place in
        let but : SeesBut t l s v g
        = record { sees = is.ahead.sees.sees; handled = but_all t l s v.live (by_stream (streaming_on l s)) is.ahead.sees.handled; unreceived = is.ahead.sees.unreceived; begun = is.ahead.sees.begun } in
        let left : SeesStreams l u (without_tag t v) g = ends_received l s v g t a end but out.there in
        let live : filter (is_other_stream t) v.live ≡ v.live
        = none_tagged l t v.live (by_stream (streaming_on l s)) is.ahead.sees.sees.sees.live (none_streaming s a out.there places l off) in
        let waits : filter (is_other t) v.waiting ≡ v.waiting
        = ap (filter (is_other t)) is.ahead.sees.sees.waits ∙ none_waits t (waiting_on l s) (none_waiting s a out.there places l off) ∙ sym is.ahead.sees.sees.waits in
        let same : without_tag t v ≡ v
        = ap (λ (xs : List LiveStream). record v { live = xs; waiting = filter (is_other t) v.waiting }) live ∙ ap (λ (ns : List ℕ). record v { waiting = ns }) waits in
        record {
          ahead = record { wire = v; sees = subst (λ (x : Wire). SeesStreams l u x g) same left; same = is.ahead.same; queue = is.ahead.queue };
          fresh = is.fresh;
        }

    none_on : attempt_on l s a.place ≡ None
    none_on =
        ap (λ (o : Option Attempt). option_and_then (λ (b : Attempt). if is_outstanding_on l b then Some b else None) o) out.there
        ∙ ap (λ (c : Bool). if c then Some a else None) off

    unread_by : (o : Option ReaderSeen) → IsReaderOf s None o → o ≡ None
    unread_by None is = refl
    unread_by (Some r) is = absurd is

    pub readers_elsewhere : (readers : List TagReader) → SeesReaders l s readers → SeesReaders l u readers
    readers_elsewhere readers is =
        let own : reader_in a.place readers ≡ None
        = unread_by (reader_in a.place readers) (subst (λ (o : Option Attempt). IsReaderOf s o (reader_in a.place readers)) none_on (is.each a.place)) in
        ends_keep_readers l s a.place a end readers (record { each = λ row other. is.each row; own = own; distinct = is.distinct }) out.there places

  -- the link on which it is
  module _ (l : Link) (w : Wire) (g : ℕ → Line) (on : is_outstanding_on l a ≡ true) (goes : l.over ≡ None) (unreset : a.reset ≡ false)
      (reads : list_all (is_read_by (read_bytes l)) l.traffic ≡ true) (here : (link_number a == l.number) ≡ true) where
    abbrev now_owed : Seen → List (ℕ × ℕ)
    now_owed v = with_code cancel (owed_on l.number v)

    with_stream : (n : ℕ) → a.row.stream ≡ Some n → IsCut (now_owed s) l s w g → IsCut (now_owed u) l u (cut w a.place cancel) g
    with_stream n stream is =
        let is_on : IsOn l s n a = record { there = out.there; out = on; stream = stream } in
        let code : reset_code_of u z ≡ Some cancel = cut_code l s is.ahead.wire g n a is.ahead.sees is_on goes places unreset reads in
        let owed : is_owed_on l.number u z ≡ true = ap (λ (o : Option ℕ). is_some o && (link_number a == l.number)) code ∙ here in
        let streams : put_reset n cancel (now_owed s) ≡ now_owed u
        = put_code n cancel (owed_on l.number s) ∙ ap (λ (o : Option ℕ). with_code cancel (put (unwrap_or o 0) (owed_on l.number s))) (sym stream)
        ∙ ap (with_code cancel) (sym (owes_more l.number owed)) in
        subst (λ (resets : List (ℕ × ℕ)). IsCut resets l u (cut w a.place cancel) g) streams (cuts_go_ahead (now_owed s) l s w g n cancel a end is is_on)

    waiting_here : a.row.stream ≡ None → is_one_of (map (λ (b : Attempt). b.place) (waiting_on l s)) a.place ≡ true
    waiting_here none =
        let one : IsHere (outstanding_on l s) a = here_filtered (is_outstanding_on l) s.attempts on_it.index a on_it.there on in
        let two : IsHere (waiting_on l s) a
        = here_filtered (λ (b : Attempt). is_none b.row.stream) (outstanding_on l s) one.index a one.there (ap (λ (o : Option ℕ). is_none o) none) in
        one_of_places (waiting_on l s) two.index a two.there

    without_stream : a.row.stream ≡ None → IsCut (now_owed s) l s w g → IsCut (now_owed u) l u (cut w a.place cancel) g
    without_stream none is =
        let owed : is_owed_on l.number u z ≡ false = ap (λ (o : Option ℕ). is_some o && (link_number a == l.number)) (cut_waiting s a u none) in
        let waits : is_one_of w.waiting a.place ≡ true
        = ap (λ (x : Wire). is_one_of x.waiting a.place) is.ahead.same ∙ ap (λ (ns : List ℕ). is_one_of ns a.place) is.ahead.sees.sees.waits ∙ waiting_here none in
        subst (λ (ns : List ℕ). IsCut (with_code cancel ns) l u (cut w a.place cancel) g) (sym (owes_same l.number owed))
        (waits_are_cut (now_owed s) l s w g cancel a end is out.there waits)

    cut_by : (o : Option ℕ) → a.row.stream ≡ o → IsCut (now_owed s) l s w g → IsCut (now_owed u) l u (cut w a.place cancel) g
    cut_by None e is = without_stream e is
    cut_by (Some n) e is = with_stream n e is

    pub cut_here : IsCut (now_owed s) l s w g → IsCut (now_owed u) l u (cut w a.place cancel) g
    cut_here is = cut_by a.row.stream refl is

  pub readers_here : (l : Link) (readers : List TagReader) → SeesReaders l s readers → SeesReaders l u (without a.place readers)
  readers_here l readers is = ends_keep_readers l s a.place a end (without a.place readers) (cuts_take_readers l s a.place readers is) out.there places
