-- The readers of a link that sees no difference have what came of the responses on it, as before.
use Rattle.std.proofs.Common.{◌≡◌, ◌∷◌, ◌&&◌, ◌==◌, ap, refl, subst, sym, ◌∙◌, Bool, true, false, List, [], Option, None, Some, ℕ, zero, suc, if◌then◌else◌, is_none, is_some, slice_get}
use Rattle.std.specs.List.{AllByRecursion, list_all}
use Rattle.std.specs.Option.{option_map_or}
use Rattle.std.specs.Prelude.{option_and_then}
use Rattle.attempt_ledger.specs.declared.row.Placed.{Placed}
use Rattle.attempt_ledger.specs.declared.row.RowEnd.{RowEnd}
use Rattle.channel_actions.specs.Readers.{IsReader, IsReaderOf, SeesReaders}
use Rattle.grpc_link.specs.Links.{reader_in}
use Rattle.grpc_link.specs.Readers.{ReaderSeen}
use Rattle.grpc_link.specs.declared.readers.TagReader.{TagReader}
use Rattle.channel_actions.proofs.Links.Frames.Pairs.{both_true, limit_still}
use Rattle.channel_actions.specs.LinkFrames.Alike.{AttemptsAreAlike, IsAlike, IsElsewhere, Numbers, is_on}
use Rattle.link_actions.proofs.LossActions.Losses.{link_is}
use Rattle.session_actions.specs.Attempts.{call_of}
use Rattle.session_actions.specs.Links.{link_of}
use Rattle.session_actions.specs.Responses.{limit_of_attempt, no_response, response, response_by, response_in, response_on, traffic_by}
use Rattle.session_actions.specs.Words.{holds, numbered}
use Rattle.session_actions.specs.declared.attempt.Attempt.{Attempt}
use Rattle.session_actions.specs.declared.link.Link.{Link}
use Rattle.session_actions.specs.declared.link.Traffic.{Traffic}
use Rattle.session_actions.specs.declared.response.Response.{Response}
use Rattle.session_actions.specs.declared.seen.Seen.{Seen}

-- the response to an attempt that goes on is by all that passed on its link
ended_by : (p q : Bool) (o : Option RowEnd) → ((p && is_none o) && q) ≡ true → o ≡ None
ended_by p q None e = refl
ended_by true q (Some z) e = absurd (cc)
ended_by false q (Some z) e = absurd (cc)

abbrev handled : Link → ℕ → Option ℕ → Response
handled l limit stream = option_map_or (λ (n : ℕ). response_in limit n l.traffic) stream no_response

received_by : (l : Link) (s : Seen) (a : Attempt) → link_of a s ≡ Some l → a.row.ended ≡ None → (stream : Option ℕ) → response_by a s stream ≡ handled l (limit_of_attempt a s) stream
received_by l s a there goes None = refl
received_by l s a there goes (Some n) =
    ap (λ (q : Option Link). option_map_or (response_on a n s) q no_response) there
    ∙ ap (λ (e : Option RowEnd). response_in (limit_of_attempt a s) n (option_map_or (λ (z : RowEnd). traffic_by z.seen l.traffic) e l.traffic)) goes

received_on : (l : Link) (s : Seen) (a : Attempt) → numbered s.links l.number ≡ Some l → is_on l.number a ≡ true → response a s ≡ handled l (limit_of_attempt a s) a.row.stream
received_on l s a at out =
    received_by l s a (link_is l s a at out) (ended_by (is_some a.row.placed) (holds (λ (p : Placed). p.link == l.number) a.row.placed) a.row.ended out) a.row.stream

-- two attempts that stand at one place
abbrev AlikeAt : Numbers → Seen → Seen → Option Attempt → Option Attempt → Type 0
AlikeAt touched s t None None = Unit {0}
AlikeAt touched s t None (Some b) = IsElsewhere touched b
AlikeAt touched s t (Some a) (Some b) = IsAlike touched s t a b × (is_some (call_of a s) ≡ true)
AlikeAt touched s t (Some a) None = ⊥

elsewhere_at : (touched : Numbers) (s t : Seen) (bs : List Attempt) (i : ℕ) → AllByRecursion (IsElsewhere touched) bs → AlikeAt touched s t None (slice_get bs i)
elsewhere_at touched s t [] i all = tt
elsewhere_at touched s t (b ∷ bs) zero all = all.0
elsewhere_at touched s t (b ∷ bs) (suc i) all = elsewhere_at touched s t bs i all.1

alike_in : (touched : Numbers) (s t : Seen) (as_ bs : List Attempt) (i : ℕ) → list_all (λ (a : Attempt). is_some (call_of a s)) as_ ≡ true → AttemptsAreAlike touched s t as_ bs
    → AlikeAt touched s t (slice_get as_ i) (slice_get bs i)
alike_in touched s t [] bs i owned are = elsewhere_at touched s t bs i are
alike_in touched s t (a ∷ as_) (b ∷ bs) zero owned are =
    (are.0, (both_true (is_some (call_of a s)) (list_all (λ (x : Attempt). is_some (call_of x s)) as_) owned).0)
alike_in touched s t (a ∷ as_) (b ∷ bs) (suc i) owned are =
    alike_in touched s t as_ bs i (both_true (is_some (call_of a s)) (list_all (λ (x : Attempt). is_some (call_of x s)) as_) owned).1 are.1
alike_in touched s t (a ∷ as_) [] i owned are = absurd are

alike_at : (touched : Numbers) (s t : Seen) (row : ℕ) → list_all (λ (a : Attempt). is_some (call_of a s)) s.attempts ≡ true → AttemptsAreAlike touched s t s.attempts t.attempts
    → AlikeAt touched s t (numbered s.attempts row) (numbered t.attempts row)
alike_at touched s t zero owned are = tt
alike_at touched s t (suc i) owned are = alike_in touched s t s.attempts t.attempts i owned are

none_of : (s t : Seen) (o : Option ReaderSeen) → IsReaderOf s None o → IsReaderOf t None o
none_of s t None is = tt
none_of s t (Some r) is = absurd is

abbrev chosen : Bool → Attempt → Option Attempt
chosen c a = if c then Some a else None

-- the readers
module _ (touched : Numbers) (l m : Link) (s t : Seen) (number : m.number ≡ l.number) (passed : m.traffic ≡ l.traffic) (before : numbered s.links l.number ≡ Some l)
    (after : numbered t.links m.number ≡ Some m) (apart : touched l.number ≡ false) where
  reader_by : (a b : Attempt) (r : ReaderSeen) → IsAlike touched s t a b → is_some (call_of a s) ≡ true → is_on l.number a ≡ true → IsReader s a r → IsReader t b r
  reader_by a b r alike owned out is =
      let still = alike.still l.number apart out in
      let limit : limit_of_attempt b t ≡ limit_of_attempt a s = limit_still s t a b still owned in
      let out_b : is_on m.number b ≡ true = ap (λ (k : ℕ). is_on k b) number ∙ alike.on l.number apart ∙ out in
      let same : response b t ≡ response a s
      = received_on m t b after out_b ∙ ap (λ (k : ℕ). handled m k b.row.stream) limit ∙ ap (handled m (limit_of_attempt a s)) still.stream
      ∙ ap (λ (ts : List Traffic). option_map_or (λ (n : ℕ). response_in (limit_of_attempt a s) n ts) a.row.stream no_response) passed
      ∙ sym (received_on l s a before out) in
      record {
        opened = ap (λ (o : Option ℕ). is_some o) still.stream ∙ is.opened;
        head = ap (λ (p : Response). is_some p.head) same ∙ is.head;
        over = is.over;
        limit = limit ∙ is.limit;
        rest = ap (λ (p : Response). p.rest) same ∙ is.rest;
        whole = is.whole;
      }

  reader_of : (a b : Attempt) (o : Option ReaderSeen) → IsAlike touched s t a b → is_some (call_of a s) ≡ true → is_on l.number a ≡ true → IsReaderOf s (Some a) o → IsReaderOf t (Some b) o
  reader_of a b (Some r) alike owned out is = reader_by a b r alike owned out is
  reader_of a b None alike owned out is = absurd is

  reader_if : (a b : Attempt) (o : Option ReaderSeen) (c d : Bool) → is_on l.number a ≡ c → d ≡ c → IsAlike touched s t a b → is_some (call_of a s) ≡ true
      → IsReaderOf s (chosen c a) o → IsReaderOf t (chosen d b) o
  reader_if a b o true true out e alike owned is = reader_of a b o alike owned out is
  reader_if a b None false false out e alike owned is = tt
  reader_if a b (Some r) false false out e alike owned is = absurd is
  reader_if a b o true false out e alike owned is = absurd (cc)
  reader_if a b o false true out e alike owned is = absurd (cc)

  on_option : (x y : Option Attempt) (o : Option ReaderSeen) → AlikeAt touched s t x y → IsReaderOf s (option_and_then (λ (a : Attempt). chosen (is_on l.number a) a) x) o
      → IsReaderOf t (option_and_then (λ (b : Attempt). chosen (is_on m.number b) b) y) o
  on_option None None o alike is = none_of s t o is
  on_option None (Some b) o alike is =
      subst (λ (d : Bool). IsReaderOf t (chosen d b) o) (sym (ap (λ (k : ℕ). is_on k b) number ∙ alike l.number apart)) (none_of s t o is)
  on_option (Some a) (Some b) o alike is =
      reader_if a b o (is_on l.number a) (is_on m.number b) refl (ap (λ (k : ℕ). is_on k b) number ∙ alike.0.on l.number apart) alike.0 alike.1 is
  on_option (Some a) None o alike is = absurd alike

  pub readers_still : (readers : List TagReader) → list_all (λ (a : Attempt). is_some (call_of a s)) s.attempts ≡ true → AttemptsAreAlike touched s t s.attempts t.attempts
      → SeesReaders l s readers → SeesReaders m t readers
  readers_still readers owned alike is = record {
    each = λ row. on_option (numbered s.attempts row) (numbered t.attempts row) (reader_in row readers) (alike_at touched s t row owned alike) (is.each row);
    distinct = is.distinct;
  }
