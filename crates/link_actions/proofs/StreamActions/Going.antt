-- Whether the response on the stream of a frame goes on, and has a head: the link knows what the session says.
use Rattle.std.proofs.Common.{◌≡◌, ◌∷◌, ◌||◌, ◌&&◌, ◌==◌, ap, refl, sym, ◌∙◌, Bool, true, false, List, [], Option, None, Some, ℕ, ◌*◌, ◌+◌, cond, filter, is_none, is_some, option_and_then, slice_get}
use Rattle.std.specs.List.{list_any}
use Rattle.std.specs.Option.{option_map_or}
use Rattle.std.proofs.lemmas.Bool.{eqb-true}
use Rattle.attempt_ledger.specs.declared.row.Placed.{Placed}
use Rattle.attempt_ledger.specs.declared.row.RowEnd.{RowEnd}
use Rattle.h2_link.specs.Feeds.{Line}
use Rattle.h2_link.specs.Wire.{Wire}
use Rattle.h2_link.specs.declared.live.LiveStream.{LiveStream}
use Rattle.link_actions.proofs.StreamActions.Found.{only_head}
use Rattle.link_actions.proofs.Lists.{any_kept}
use Rattle.link_actions.proofs.Streams.{any_by_stream}
use Rattle.link_actions.specs.Sees.{StreamsAreLive, by_stream}
use Rattle.link_actions.specs.StreamActions.Sees.{ResponsesAreReceived, IsReceived, SeesStreams, response_of}
use Rattle.session_actions.specs.Reading.{is_outstanding_on, outstanding_on}
use Rattle.session_actions.specs.Responses.{limit_of_attempt, no_response, response, response_by, response_in, response_on, traffic_by}
use Rattle.session_actions.specs.Words.{holds, is_number, numbered}
use Rattle.session_actions.specs.Writing.{is_going_on, streaming_on}
use Rattle.session_actions.specs.declared.attempt.Attempt.{Attempt}
use Rattle.session_actions.specs.declared.link.Link.{Link}
use Rattle.session_actions.specs.declared.response.Response.{Response}
use Rattle.session_actions.specs.declared.seen.Seen.{Seen}

-- the response of an attempt that is outstanding on a link
link_is : (l : Link) (s : Seen) (o : Option Placed) → numbered s.links l.number ≡ Some l → holds (λ (at : Placed). at.link == l.number) o ≡ true
    → option_and_then (λ (at : Placed). numbered s.links at.link) o ≡ Some l
link_is l s None here e = absurd (cc)
link_is l s (Some at) here e = ap (numbered s.links) (eqb-true at.link l.number e) ∙ here

last_two : (a b c : Bool) → ((a && b) && c) ≡ true → (b ≡ true) × (c ≡ true)
last_two true true true e = (refl, refl)
last_two true true false e = absurd (cc)
last_two true false c e = absurd (cc)
last_two false b c e = absurd (cc)

none_of_it : (o : Option RowEnd) → is_none o ≡ true → o ≡ None
none_of_it None e = refl
none_of_it (Some x) e = absurd (cc)

pub response_is : (l : Link) (s : Seen) (n : ℕ) (a : Attempt) → numbered s.links l.number ≡ Some l → is_outstanding_on l a ≡ true → a.row.stream ≡ Some n
    → response a s ≡ response_of l s n a
response_is l s n a here out stream =
    let parts : (is_none a.row.ended ≡ true) × (holds (λ (at : Placed). at.link == l.number) a.row.placed ≡ true)
    = last_two (is_some a.row.placed) (is_none a.row.ended) (holds (λ (at : Placed). at.link == l.number) a.row.placed) out in
    ap (response_by a s) stream
    ∙ ap (λ (o : Option Link). option_map_or (response_on a n s) o no_response) (link_is l s a.row.placed here parts.1)
    ∙ ap (λ (o : Option RowEnd). response_in (limit_of_attempt a s) n (option_map_or (λ e. traffic_by e.seen l.traffic) o l.traffic)) (none_of_it a.row.ended parts.0)

-- an attempt that has the stream, and a head
abbrev has_head : Link → Seen → ℕ → Attempt → Bool
has_head l s n a = is_number n a.row.stream && is_some (response_of l s n a).head

number_by : (l : Link) (s : Seen) (n m : ℕ) (a : Attempt) (b : Bool) → (m == n) ≡ b → numbered s.links l.number ≡ Some l → is_outstanding_on l a ≡ true
    → a.row.stream ≡ Some m → is_going_on n s a ≡ has_head l s n a
number_by l s n m a true is here out e =
    let same : m ≡ n = eqb-true m n is in
    ap (λ (p : Response). is_number n a.row.stream && is_some p.head) (response_is l s n a here out (e ∙ ap (λ (k : ℕ). Some k) same))
number_by l s n m a false is here out e =
    let off : (x : Bool) → (is_number n a.row.stream && x) ≡ false = λ x. ap (λ (o : Option ℕ). is_number n o && x) e ∙ ap (λ (b : Bool). b && x) is in
    off (is_some (response a s).head) ∙ sym (off (is_some (response_of l s n a).head))

stream_by : (l : Link) (s : Seen) (n : ℕ) (a : Attempt) (o : Option ℕ) → a.row.stream ≡ o → numbered s.links l.number ≡ Some l → is_outstanding_on l a ≡ true
    → is_going_on n s a ≡ has_head l s n a
stream_by l s n a None e here out =
    let off : (x : Bool) → (is_number n a.row.stream && x) ≡ false = λ x. ap (λ (o : Option ℕ). is_number n o && x) e in
    off (is_some (response a s).head) ∙ sym (off (is_some (response_of l s n a).head))
stream_by l s n a (Some m) e here out = number_by l s n m a (m == n) refl here out e

kept_by : (p q : Attempt → Bool) (x : Attempt) (ys : List Attempt) (b : Bool) → (b ≡ true → p x ≡ q x) → list_any p ys ≡ list_any q ys
    → list_any p (cond b (x ∷ ys) ys) ≡ list_any q (cond b (x ∷ ys) ys)
kept_by p q x ys true same e = ap (λ (c : Bool). c || list_any p ys) (same refl) ∙ ap (λ (c : Bool). q x || c) e
kept_by p q x ys false same e = e

agree_kept : (p q keep : Attempt → Bool) → ((x : Attempt) → keep x ≡ true → p x ≡ q x) → (xs : List Attempt) → list_any p (filter keep xs) ≡ list_any q (filter keep xs)
agree_kept p q keep same [] = refl
agree_kept p q keep same (x ∷ xs) = kept_by p q x (filter keep xs) (keep x) (same x) (agree_kept p q keep same xs)

no_number : (n : ℕ) (o : Option ℕ) → is_some o ≡ false → is_number n o ≡ false
no_number n None e = refl
no_number n (Some m) e = absurd (cc)

-- as the link knows it
one_zipped : (l : Link) (s : Seen) (n : ℕ) (x : LiveStream) (a : Attempt) (b : Bool) → (x.number == n) ≡ b → IsReceived l s x a
    → ((x.number == n) && is_some (response_of l s n a).head) ≡ ((x.number == n) && x.head)
one_zipped l s n x a true is handled =
    let same : x.number ≡ n = eqb-true x.number n is in
    ap (λ (c : Bool). (x.number == n) && c) (ap (λ (k : ℕ). is_some (response_of l s k a).head) (sym same) ∙ sym handled.head)
one_zipped l s n x a false is handled =
    ap (λ (c : Bool). c && is_some (response_of l s n a).head) is ∙ sym (ap (λ (c : Bool). c && x.head) is)

any_zipped : (l : Link) (s : Seen) (n : ℕ) (xs : List LiveStream) (others : List Attempt) → StreamsAreLive l xs others → ResponsesAreReceived l s xs others
    → list_any (has_head l s n) others ≡ list_any (λ (x : LiveStream). (x.number == n) && x.head) xs
any_zipped l s n [] [] are handled = refl
any_zipped l s n (x ∷ xs) (a ∷ others) are handled =
    ap (λ (o : Option ℕ). (is_number n o && is_some (response_of l s n a).head) || list_any (has_head l s n) others) are.0.stream
    ∙ ap (λ (c : Bool). c || list_any (has_head l s n) others) (one_zipped l s n x a (x.number == n) refl handled.0)
    ∙ ap (λ (c : Bool). ((x.number == n) && x.head) || c) (any_zipped l s n xs others are.1 handled.1)
any_zipped l s n [] (a ∷ others) are handled = absurd are
any_zipped l s n (x ∷ xs) [] are handled = absurd are

pub going : (l : Link) (s : Seen) (w : Wire) (g : ℕ → Line) (n i : ℕ) (y : LiveStream) → SeesStreams l s w g → slice_get w.live i ≡ Some y → y.number ≡ n
    → list_any (is_going_on n s) (outstanding_on l s) ≡ y.head
going l s w g n i y is there number =
    agree_kept (is_going_on n s) (has_head l s n) (is_outstanding_on l) (λ a out. stream_by l s n a a.row.stream refl is.sees.at out) s.attempts
    ∙ any_kept (has_head l s n) (λ (a : Attempt). is_some a.row.stream)
    (λ (a : Attempt) e. ap (λ (b : Bool). b && is_some (response_of l s n a).head) (no_number n a.row.stream e)) (outstanding_on l s)
    ∙ sym (any_by_stream (has_head l s n) (streaming_on l s))
    ∙ any_zipped l s n w.live (by_stream (streaming_on l s)) is.sees.sees.live is.handled
    ∙ only_head n 1 (2 * w.opened + 1) i w.live y is.sees.opened there number
