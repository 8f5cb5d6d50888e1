-- A frame leaves the responses on other streams, and on those that are still to be opened.
use Rattle.std.proofs.Common.{◌≡◌, ◌<◌, ◌≤◌, ◌∷◌, ◌||◌, ◌&&◌, ◌==◌, not, ap, arith, refl, subst, sym, ◌∙◌, Bool, true, false, List, [], Option, None, Some, ℕ, ◌+◌, ◌*◌, zero, suc, nat_lt, slice_get, slice_set}
use Rattle.std.specs.Option.{unwrap_or}
use Rattle.std.proofs.lemmas.Bool.{eqb-true}
use Rattle.std.proofs.lemmas.Bool.Decides.{nat_tests}
use Rattle.h2_frame.specs.Frames.{FrameSeen, has_flag}
use Rattle.h2_frame.specs.Numbers.{continuation_type, data_type, end_stream_flag, goaway_type, headers_type, rst_stream_type, window_update_type}
use Rattle.h2_frame.specs.Payloads.{content_of, increment, last_stream, reset_code}
use Rattle.h2_link.specs.LinkErrors as link
use Rattle.h2_link.specs.LinkErrors.{was_opened}
use Rattle.h2_link.specs.Wire.{Block, Wire}
use Rattle.h2_link.specs.declared.live.LiveStream.{LiveStream}
use Rattle.link_actions.proofs.StreamActions.Found.{number_from}
use Rattle.link_actions.proofs.History.{retiring_more}
use Rattle.link_actions.proofs.Lists.{if_false, none_of, on_if}
use Rattle.link_actions.proofs.QuietKept.{below_opened}
use Rattle.link_actions.proofs.StreamActions.Responses.{IsLike, goes_on, received_like, like_itself, like_other, response_read}
use Rattle.link_actions.proofs.StreamActions.StreamRead.{stream_low}
use Rattle.link_actions.specs.Sees.{StreamsAreOpened, IsBlock}
use Rattle.link_actions.specs.StreamActions.Sees.{ResponsesAreReceived, ResponsesAreReceivedBut, NewStreamsAreUnreceived, IsBegun, IsReceived, IsUnreceived}
use Rattle.session_actions.specs.Links.{is_retiring, is_settings, with_link}
use Rattle.session_actions.specs.Reading.{block_after, block_with, frame_read_by, is_last_of_block, is_of_block, is_of_opened, no_block, open_block, part_read, plain_read}
use Rattle.session_actions.specs.Responses.{initial_after, limit_of_attempt, response_in, with_data, with_own_frame, with_read, with_reset, with_stream_frame, with_update}
use Rattle.session_actions.specs.Writing.{with_frame_read}
use Rattle.session_actions.specs.declared.attempt.Attempt.{Attempt}
use Rattle.session_actions.specs.declared.link.Block.{Block as Whole}
use Rattle.session_actions.specs.declared.link.Link.{Link}
use Rattle.session_actions.specs.declared.link.NextRead.TheVariants as nextread
use Rattle.session_actions.specs.declared.link.OpenBlock.{OpenBlock}
use Rattle.session_actions.specs.declared.link.ReadFrame.{ReadFrame}
use Rattle.session_actions.specs.declared.link.Traffic.TheVariants as traffic
use Rattle.session_actions.specs.declared.response.Response.{Response}
use Rattle.session_actions.specs.declared.seen.Seen.{Seen}

both_ways : (b : Bool) → b ≡ true → b ≡ false → ⊥
both_ways true e h = (cc)
both_ways false e h = (cc)

-- the other streams
pub received_other : (l : Link) (s : Seen) (r : ReadFrame) (frames : List FrameSeen) (h : Link → Link) (x : LiveStream) (a : Attempt) → (r.frame.kind == goaway_type) ≡ false
    → (r.frame.stream == x.number) ≡ false → IsReceived l s x a → IsReceived (with_frame_read r frames l) (with_link h l.number s) x a
received_other l s r frames h x a no_goaway other is =
    received_like l (with_frame_read r frames l) s (with_link h l.number s) x x a refl
    (like_other (limit_of_attempt a s) x.number l r frames is.goes is.small no_goaway other) is

low_apart : (m n : ℕ) → m < n → (n == m) ≡ false
low_apart m n h = grind (arith, nat_tests, h)

high_apart : (m n : ℕ) → n < m → (n == m) ≡ false
high_apart m n h = grind (arith, nat_tests, h)

pub received_above : (l : Link) (s : Seen) (r : ReadFrame) (frames : List FrameSeen) (h : Link → Link) (first bound : ℕ) (xs : List LiveStream) (others : List Attempt)
    → (r.frame.kind == goaway_type) ≡ false → r.frame.stream < first → StreamsAreOpened first bound xs → ResponsesAreReceived l s xs others
    → ResponsesAreReceived (with_frame_read r frames l) (with_link h l.number s) xs others
received_above l s r frames h first bound [] [] no_goaway low opened are = tt
received_above l s r frames h first bound (x ∷ xs) (a ∷ others) no_goaway low opened are =
    let from_ : first ≤ x.number = opened.0 in
    let high : r.frame.stream < x.number = omega (arith, low, from_) in
    let next : r.frame.stream < x.number + 1 = omega (arith, high) in (
      received_other l s r frames h x a no_goaway (high_apart x.number r.frame.stream high) are.0,
      received_above l s r frames h (x.number + 1) bound xs others no_goaway next opened.2 are.1,
    )
received_above l s r frames h first bound [] (a ∷ others) no_goaway low opened are = absurd are
received_above l s r frames h first bound (x ∷ xs) [] no_goaway low opened are = absurd are

-- and the stream itself, as it is afterwards
pub received_set : (l : Link) (s : Seen) (r : ReadFrame) (frames : List FrameSeen) (h : Link → Link) (first bound i : ℕ) (xs : List LiveStream) (others : List Attempt) (y v : LiveStream)
    → (r.frame.kind == goaway_type) ≡ false → r.frame.stream ≡ y.number → StreamsAreOpened first bound xs → slice_get xs i ≡ Some y → ResponsesAreReceived l s xs others
    → ((a : Attempt) → slice_get others i ≡ Some a → IsReceived (with_frame_read r frames l) (with_link h l.number s) v a)
    → ResponsesAreReceived (with_frame_read r frames l) (with_link h l.number s) (slice_set xs i v) others
received_set l s r frames h first bound i [] [] y v no_goaway at opened e are own = absurd (cc)
received_set l s r frames h first bound zero (x ∷ xs) (a ∷ others) y v no_goaway at opened e are own =
    let same : x ≡ y = (cc) in
    let number : x.number ≡ y.number = ap (λ (z : LiveStream). z.number) same in
    let next : r.frame.stream < x.number + 1 = omega (arith, at, number) in
    (own a refl, received_above l s r frames h (x.number + 1) bound xs others no_goaway next opened.2 are.1)
received_set l s r frames h first bound (suc i) (x ∷ xs) (a ∷ others) y v no_goaway at opened e are own =
    let next : x.number + 1 ≤ y.number = number_from (x.number + 1) bound i xs y opened.2 e in
    let low : x.number < r.frame.stream = omega (arith, next, at) in (
      received_other l s r frames h x a no_goaway (low_apart x.number r.frame.stream low) are.0,
      received_set l s r frames h (x.number + 1) bound i xs others y v no_goaway at opened.2 e are.1 own,
    )
received_set l s r frames h first bound i [] (a ∷ others) y v no_goaway at opened e are own = absurd are
received_set l s r frames h first bound i (x ∷ xs) [] y v no_goaway at opened e are own = absurd are

-- of all but this one
pub but_all : (t : ℕ) (m : Link) (u : Seen) (xs : List LiveStream) (others : List Attempt) → ResponsesAreReceived m u xs others → ResponsesAreReceivedBut t m u xs others
but_all t m u [] [] are = tt
but_all t m u (x ∷ xs) (a ∷ others) are = (λ off. are.0, but_all t m u xs others are.1)
but_all t m u [] (a ∷ others) are = absurd are
but_all t m u (x ∷ xs) [] are = absurd are

itself : (m n : ℕ) → m ≡ n → (m == n) ≡ true
itself m n e = grind (arith, nat_tests, e)

pub received_but : (l : Link) (s : Seen) (r : ReadFrame) (frames : List FrameSeen) (h : Link → Link) (first bound i t : ℕ) (xs : List LiveStream) (others : List Attempt) (y v : LiveStream)
    → (r.frame.kind == goaway_type) ≡ false → r.frame.stream ≡ y.number → StreamsAreOpened first bound xs → slice_get xs i ≡ Some y → v.tag ≡ t → ResponsesAreReceived l s xs others
    → ResponsesAreReceivedBut t (with_frame_read r frames l) (with_link h l.number s) (slice_set xs i v) others
received_but l s r frames h first bound i t [] [] y v no_goaway at opened e tag are = absurd (cc)
received_but l s r frames h first bound zero t (x ∷ xs) (a ∷ others) y v no_goaway at opened e tag are =
    let same : x ≡ y = (cc) in
    let number : x.number ≡ y.number = ap (λ (z : LiveStream). z.number) same in
    let next : r.frame.stream < x.number + 1 = omega (arith, at, number) in (
      λ off. absurd (both_ways (v.tag == t) (itself v.tag t tag) off),
      but_all t (with_frame_read r frames l) (with_link h l.number s) xs others
          (received_above l s r frames h (x.number + 1) bound xs others no_goaway next opened.2 are.1),
    )
received_but l s r frames h first bound (suc i) t (x ∷ xs) (a ∷ others) y v no_goaway at opened e tag are =
    let next : x.number + 1 ≤ y.number = number_from (x.number + 1) bound i xs y opened.2 e in
    let low : x.number < r.frame.stream = omega (arith, next, at) in (
      λ off. received_other l s r frames h x a no_goaway (low_apart x.number r.frame.stream low) are.0,
      received_but l s r frames h (x.number + 1) bound i t xs others y v no_goaway at opened.2 e tag are.1,
    )
received_but l s r frames h first bound i t [] (a ∷ others) y v no_goaway at opened e tag are = absurd are
received_but l s r frames h first bound i t (x ∷ xs) [] y v no_goaway at opened e tag are = absurd are

-- a frame that begins or ends no header block has no header list
plain_by : (f : FrameSeen) (end : ℕ) (r : ReadFrame) → plain_read f end ≡ nextread.Frame r → r.block ≡ None
plain_by f end r e =
    let plain : ReadFrame = record { frame = f; end = end; block = None } in
    let same : plain ≡ r = (cc) in ap (λ (x : ReadFrame). x.block) (sym same)

pub no_list : (l : Link) (r : ReadFrame) → is_of_block r.frame ≡ false → frame_read_by None l r.frame r.end ≡ nextread.Frame r → r.block ≡ None
no_list l r off next =
    plain_by r.frame r.end r
    (sym (if_false (is_of_block r.frame) (part_read l r.frame r.end (block_with (open_block l) r.frame)) (plain_read r.frame r.end) off) ∙ next)

-- of a stream that was not opened no frame says anything
of_kind : (kind n : ℕ) (b : Bool) → (kind == n) ≡ b → is_of_opened n ≡ true → is_of_opened kind ≡ false → b ≡ false
of_kind kind n true e of off = absurd (let on : is_of_opened kind ≡ true = ap is_of_opened (eqb-true kind n e) ∙ of in let never : true ≡ false = sym on ∙ off in (let no : ⊥ = (cc) in no))
of_kind kind n false e of off = refl

pub record IsIdle (f : FrameSeen) : Type 0 where
  pub no_data : (f.kind == data_type) ≡ false
  pub no_headers : (f.kind == headers_type) ≡ false
  pub no_reset : (f.kind == rst_stream_type) ≡ false
  pub no_update : (f.kind == window_update_type) ≡ false

idle : (f : FrameSeen) → is_of_opened f.kind ≡ false → IsIdle f
idle f off = record {
  no_data = of_kind f.kind data_type (f.kind == data_type) refl refl off;
  no_headers = of_kind f.kind headers_type (f.kind == headers_type) refl refl off;
  no_reset = of_kind f.kind rst_stream_type (f.kind == rst_stream_type) refl refl off;
  no_update = of_kind f.kind window_update_type (f.kind == window_update_type) refl refl off;
}

idle_own : (limit : ℕ) (p : Response) (f : FrameSeen) → IsIdle f → with_own_frame limit p f ≡ p
idle_own limit p f is =
    if_false (f.kind == data_type) (with_data limit p f) _ is.no_data
    ∙ if_false (f.kind == rst_stream_type) (with_reset p (reset_code f.payload)) _ is.no_reset
    ∙ if_false (f.kind == window_update_type) (with_update p (increment f.payload)) p is.no_update

read_idle : (limit k : ℕ) (p : Response) (r : ReadFrame) → (r.frame.kind == goaway_type) ≡ false → IsIdle r.frame → r.block ≡ None → IsLike p (with_read limit k p r)
read_idle limit k p r no_goaway is none =
    let f : FrameSeen = r.frame in
    on_if (IsLike p) (is_settings f) (record p { initial = initial_after p.initial f }) _ (λ e. record { head = refl; end = refl; large = refl })
    (λ e.
    on_if (IsLike p) ((f.kind == goaway_type) && nat_lt (last_stream f.payload) k) _ _
    (λ h. absurd (both_ways ((f.kind == goaway_type) && nat_lt (last_stream f.payload) k) h (ap (λ (b : Bool). b && nat_lt (last_stream f.payload) k) no_goaway)))
    (λ h.
    on_if (IsLike p) (f.stream == k) (with_stream_frame limit p f r.block) p
    (λ i. subst (IsLike p) (sym (ap (λ (o : Option Whole). with_stream_frame limit p f o) none ∙ idle_own limit p f is)) (like_itself p))
    (λ i. like_itself p)))

-- the header block that is begun
abbrev IsBegunIn : Option OpenBlock → ℕ → Type 0
IsBegunIn None opened = Unit {0}
IsBegunIn (Some b) opened = b.stream ≤ 2 * opened

begun_in : (k : Option Block) (o : Option OpenBlock) (opened : ℕ) → IsBlock k o → IsBegun k opened → IsBegunIn o opened
begun_in None None opened is begun = tt
begun_in (Some b) (Some o) opened is begun = subst (λ (n : ℕ). n ≤ 2 * opened) is.0 begun
begun_in None (Some o) opened is begun = absurd is
begun_in (Some b) None opened is begun = absurd is

begun_out : (k : Option Block) (o : Option OpenBlock) (opened : ℕ) → IsBlock k o → IsBegunIn o opened → IsBegun k opened
begun_out None None opened is begun = tt
begun_out (Some b) (Some o) opened is begun = subst (λ (n : ℕ). n ≤ 2 * opened) (sym is.0) begun
begun_out None (Some o) opened is begun = absurd is
begun_out (Some b) None opened is begun = absurd is

goes_in : (open_ : Option OpenBlock) (opened : ℕ) → IsBegunIn open_ opened → (unwrap_or open_ no_block).stream ≤ 2 * opened
goes_in None opened begun = omega arith
goes_in (Some b) opened begun = begun

block_in : (open_ : Option OpenBlock) (f : FrameSeen) (opened : ℕ) → link.is_unopened opened f ≡ false → IsBegunIn open_ opened → (block_with open_ f).stream ≤ 2 * opened
block_in open_ f opened none begun =
    let fresh_ : OpenBlock = record { stream = f.stream; ends = has_flag f.flags end_stream_flag; bytes = content_of f } in
    on_if (λ (b : OpenBlock). b.stream ≤ 2 * opened) (f.kind == headers_type) fresh_ _
    (λ e. stream_low f opened (ap is_of_opened (eqb-true f.kind headers_type e)) none)
    (λ e. goes_in open_ opened begun)

after_in : (open_ : Option OpenBlock) (f : FrameSeen) (opened : ℕ) → link.is_unopened opened f ≡ false → IsBegunIn open_ opened → IsBegunIn (block_after open_ f) opened
after_in open_ f opened none begun =
    let B : Option OpenBlock → Type 0 = λ o. IsBegunIn o opened in
    on_if B (not (is_of_block f)) open_ _ (λ e. begun)
    (λ e. on_if B (is_last_of_block f) None (Some (block_with open_ f)) (λ h. tt) (λ h. block_in open_ f opened none begun))

pub begun_after : (l : Link) (w : Wire) (k : Option Block) (f : FrameSeen) → link.is_unopened w.opened f ≡ false → IsBlock w.block (open_block l) → IsBegun w.block w.opened
    → IsBlock k (block_after (open_block l) f) → IsBegun k w.opened
begun_after l w k f none block begun after =
    begun_out k (block_after (open_block l) f) w.opened after (after_in (open_block l) f w.opened none (begun_in w.block (open_block l) w.opened block begun))

-- streams that are still to be opened
misplaced_by : (a b : Bool) → a ≡ true → not (a && b) ≡ false → b ≡ true
misplaced_by true true e h = refl
misplaced_by true false e h = absurd (cc)
misplaced_by false b e h = absurd (cc)

no_continuation : (k : Option Block) (f : FrameSeen) (n opened : ℕ) (c : Bool) → (f.kind == continuation_type) ≡ c → link.is_misplaced k f ≡ false → IsBegun k opened → f.stream ≡ n
    → 2 * opened < n → c ≡ false
no_continuation None f n opened true e placed begun at above = absurd (both_ways (f.kind == continuation_type) e placed)
no_continuation (Some b) f n opened true e placed begun at above =
    let same : f.stream ≡ b.number = eqb-true f.stream b.number (misplaced_by (f.kind == continuation_type) (f.stream == b.number) e placed) in
    let low : b.number ≤ 2 * opened = begun in
    absurd (let never : ⊥ = omega (arith, same, low, at, above) in never)
no_continuation k f n opened false e placed begun at above = refl

unopened_by : (a b c : Bool) → (a && not b && not c) ≡ false → b ≡ false → c ≡ false → a ≡ false
unopened_by false b c e is was = refl
unopened_by true false false e is was = absurd (cc)
unopened_by true true c e is was = absurd (cc)
unopened_by true false true e is was = absurd (cc)

not_opened : (opened k : ℕ) (b : Bool) → was_opened opened k ≡ b → 2 * opened < k → b ≡ false
not_opened opened k true e above = absurd (both_ways (k == k) (let same : (k == k) ≡ true = grind (arith, nat_tests) in same) (below_opened opened k k e above))
not_opened opened k false e above = refl

no_zero : (k : ℕ) → 0 < k → (k == 0) ≡ false
no_zero k h = grind (arith, nat_tests, h)

of_none : (f : FrameSeen) (k opened : ℕ) → f.stream ≡ k → 2 * opened < k → link.is_unopened opened f ≡ false → is_of_opened f.kind ≡ false
of_none f k opened at above none =
    let some : 0 < f.stream = omega (arith, at, above) in
    let high : 2 * opened < f.stream = omega (arith, at, above) in
    unopened_by (is_of_opened f.kind) (f.stream == 0) (was_opened opened f.stream) none (no_zero f.stream some)
    (not_opened opened f.stream (was_opened opened f.stream) refl high)

like_unopened : (limit k : ℕ) (l : Link) (w : Wire) (r : ReadFrame) (frames : List FrameSeen) (own : Bool) → (r.frame.stream == k) ≡ own → 2 * w.opened < k
    → IsUnreceived (response_in limit k l.traffic) → (r.frame.kind == goaway_type) ≡ false → link.is_unopened w.opened r.frame ≡ false → link.is_misplaced w.block r.frame ≡ false
    → IsBegun w.block w.opened → frame_read_by None l r.frame r.end ≡ nextread.Frame r
    → IsLike (response_in limit k l.traffic) (response_in limit k (with_frame_read r frames l).traffic)
like_unopened limit k l w r frames false is above un no_goaway none placed begun next = like_other limit k l r frames un.goes un.small no_goaway is
like_unopened limit k l w r frames true is above un no_goaway none placed begun next =
    let p : Response = response_in limit k l.traffic in
    let f : FrameSeen = r.frame in
    let at : f.stream ≡ k = eqb-true f.stream k is in
    let i : IsIdle f = idle f (of_none f k w.opened at above none) in
    let off : is_of_block f ≡ false
    = ap (λ (b : Bool). b || (f.kind == continuation_type)) i.no_headers ∙ no_continuation w.block f k w.opened (f.kind == continuation_type) refl placed begun at above in
    subst (IsLike p) (sym (response_read limit k l r frames ∙ goes_on limit k p (traffic.Read r) un.goes un.small)) (read_idle limit k p r no_goaway i (no_list l r off next))

pub unreceived_read : (l : Link) (w : Wire) (r : ReadFrame) (frames : List FrameSeen) → NewStreamsAreUnreceived l w.opened → link.is_unopened w.opened r.frame ≡ false
    → link.is_misplaced w.block r.frame ≡ false → IsBegun w.block w.opened → frame_read_by None l r.frame r.end ≡ nextread.Frame r
    → NewStreamsAreUnreceived (with_frame_read r frames l) w.opened
unreceived_read l w r frames un none placed begun next limit k above going_ =
    let parts = none_of (is_retiring l) (r.frame.kind == goaway_type) (sym (retiring_more l r frames) ∙ going_) in
    let was : IsUnreceived (response_in limit k l.traffic) = un limit k above parts.0 in
    let like : IsLike (response_in limit k l.traffic) (response_in limit k (with_frame_read r frames l).traffic)
    = like_unopened limit k l w r frames (r.frame.stream == k) refl above was parts.1 none placed begun next in
    record { head = like.head ∙ was.head; goes = like.end ∙ was.goes; small = like.large ∙ was.small }
