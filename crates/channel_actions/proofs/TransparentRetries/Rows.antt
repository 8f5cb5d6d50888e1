-- What a session keeps of attempts that were retried transparently, said of the lists of attempts and links alone.
use Rattle.channel_actions.proofs.Streams.Own.Parts.{from_changed}
use Rattle.attempt_ledger.specs.TransparentRows.{is_refused, is_unsent}
use Rattle.attempt_ledger.specs.declared.row.Placed.{Placed}
use Rattle.attempt_ledger.specs.declared.row.RowEnd.{RowEnd}
use Rattle.channel_actions.proofs.KeptSessions.Lists.{get_more}
use Rattle.channel_actions.proofs.TransparentRetries.Fits.{IsUnsentOn, is_closed, is_taking}
use Rattle.channel_actions.specs.TransparentRetries.Laws.{was_unsent}
use Rattle.session_actions.specs.Attempts.{was_refused}
use Rattle.session_actions.specs.Subchannels.{is_going_down}
use Rattle.session_actions.specs.Words.{changed, holds, numbered}
use Rattle.session_actions.specs.declared.attempt.Attempt.{Attempt}
use Rattle.session_actions.specs.declared.link.Link.{Link}
use Rattle.session_actions.specs.declared.seen.Seen.{Seen}
use Rattle.session_order.proofs.Changed.{changed_away, changed_map}
use Rattle.session_order.proofs.SessionLaws.Lists.{past}
use Rattle.std.proofs.Common.{ap, arith, inl, inr, subst, sym, ◌∙◌}
use Rattle.std.proofs.lemmas.Bool.{eqb-false, eqb-true}
use Rattle.std.proofs.lemmas.Option.{slice_get_within}
use Rattle.std.specs.Prelude.{Bool, List, None, Option, Some, [], false, is_some, length, map, not, option_map, refl, slice_get, suc, true, zero, ℕ, ◌++◌, ◌<◌, ◌==◌, ◌||◌, ◌∷◌, ◌≡◌, ◌≤◌, ◌⊎◌}

-- two attempts of one number of a call; and an attempt with a later one of its number
abbrev pub SameNumber : Attempt → Attempt → Type 0
SameNumber a b = (a.row.call ≡ b.row.call) × (a.row.number ≡ b.row.number)

pub record HasLater (xs : List Attempt) (i : ℕ) (a : Attempt) : Type 0 where
  pub index : ℕ
  pub later : Attempt
  pub here : slice_get xs index ≡ Some later
  pub afterwards : i < index
  pub same : SameNumber a later

-- its end may be followed by one
abbrev pub is_again : RowEnd → Bool
is_again e = is_unsent e.cause || is_refused e

pub record RetriedOf (attempts : List Attempt) (links : List Link) : Type 0 where
  pub ended : (i : ℕ) (a : Attempt) → slice_get attempts i ≡ Some a → HasLater attempts i a → holds is_again a.row.ended ≡ true
  pub refused : (i j : ℕ) (a b : Attempt) → slice_get attempts i ≡ Some a → slice_get attempts j ≡ Some b → a.row.call ≡ b.row.call → HasLater attempts i a
      → HasLater attempts j b → was_refused a ≡ true → was_refused b ≡ true → i ≡ j
  pub unsent : (i : ℕ) (a : Attempt) → slice_get attempts i ≡ Some a → was_unsent a ≡ true → IsUnsentOn links a.row.stream a.row.placed
  pub apart : (i j : ℕ) (a b : Attempt) (at to : Placed) → slice_get attempts i ≡ Some a → slice_get attempts j ≡ Some b → i < j → SameNumber a b → was_unsent a ≡ true
      → a.row.placed ≡ Some at → b.row.placed ≡ Some to → at.link ≡ to.link → ⊥

abbrev pub Retried : Seen → Type 0
Retried s = RetriedOf s.attempts s.links

pub plain : (s t : Seen) → t.attempts ≡ s.attempts → t.links ≡ s.links → Retried s → Retried t
plain s t b d h =
    subst (λ (z : List Attempt). RetriedOf z t.links) (sym b) (subst (λ (z : List Link). RetriedOf s.attempts z) (sym d) h)

-- links: those that take no further stream stay so
abbrev pub Closes : List Link → List Link → Type 0
Closes links lines = (k : ℕ) → is_closed links k ≡ true → is_closed lines k ≡ true

closed_later : (links lines : List Link) → Closes links lines → (o : Option Placed) → holds (λ (at : Placed). is_closed links at.link) o ≡ true
    → holds (λ (at : Placed). is_closed lines at.link) o ≡ true
closed_later links lines more None e = absurd (cc)
closed_later links lines more (Some at) e = more at.link e

pub links_now : (s : Seen) (lines : List Link) → Closes s.links lines → Retried s → Retried (record s { links = lines })
links_now s lines more h = record {
  ended = h.ended;
  refused = h.refused;
  unsent = λ i a got e. (let was : IsUnsentOn s.links a.row.stream a.row.placed = h.unsent i a got e in (was.0, closed_later s.links lines more a.row.placed was.1));
  apart = h.apart;
}

abbrev pub GoesDown : (Link → Link) → Type 0
GoesDown f = (l : Link) → is_going_down l ≡ true → is_going_down (f l) ≡ true

one_later : (f : Link → Link) → GoesDown f → (o : Option Link) → holds is_going_down o ≡ true → holds is_going_down (option_map f o) ≡ true
one_later f keeps None e = absurd (cc)
one_later f keeps (Some l) e = keeps l e

changed_at : (f : Link → Link) → GoesDown f → (n k : ℕ) (links : List Link) (b : Bool) → (k == n) ≡ b → is_closed links k ≡ true → is_closed (changed f n links) k ≡ true
changed_at f keeps n k links true same e =
    let here : k ≡ n = eqb-true k n same in
    ap (is_closed (changed f n links)) here ∙ ap (holds is_going_down) (changed_map f n links)
    ∙ one_later f keeps (numbered links n) (sym (ap (is_closed links) here) ∙ e)
changed_at f keeps n k links false same e = ap (holds is_going_down) (changed_away f n k links (eqb-false k n same)) ∙ e

pub link_now : (f : Link → Link) (n : ℕ) (s : Seen) → GoesDown f → Retried s → Retried (record s { links = changed f n s.links })
link_now f n s keeps h = links_now s (changed f n s.links) (λ k e. changed_at f keeps n k s.links (k == n) refl e) h

more_at : (links ls : List Link) (k : ℕ) (o : Option Link) → numbered links k ≡ o → holds is_going_down o ≡ true → is_closed (links ++ ls) k ≡ true
more_at links ls k None got e = absurd (cc)
more_at links ls zero (Some l) got e = absurd (cc)
more_at links ls (suc i) (Some l) got e = ap (holds is_going_down) (get_more links ls i l got) ∙ e

pub links_more : (l : Link) (s : Seen) → Retried s → Retried (record s { links = s.links ++ l ∷ [] })
links_more l s h = links_now s (s.links ++ l ∷ []) (λ k e. more_at s.links (l ∷ []) k (numbered s.links k) refl e) h

map_at : (f : Link → Link) → GoesDown f → (links : List Link) (i : ℕ) → holds is_going_down (slice_get links i) ≡ true → holds is_going_down (slice_get (map f links) i) ≡ true
map_at f keeps [] i e = absurd (cc)
map_at f keeps (l ∷ links) zero e = keeps l e
map_at f keeps (l ∷ links) (suc i) e = map_at f keeps links i e

mapped_at : (f : Link → Link) → GoesDown f → (links : List Link) → Closes links (map f links)
mapped_at f keeps links zero e = absurd (cc)
mapped_at f keeps links (suc i) e = map_at f keeps links i e

pub links_mapped : (f : Link → Link) (s : Seen) → GoesDown f → Retried s → Retried (record s { links = map f s.links })
links_mapped f s keeps h = links_now s (map f s.links) (mapped_at f keeps s.links) h

-- a link does not both
closed_by : (o : Option Link) → holds is_going_down o ≡ true → holds (λ (l : Link). not (is_going_down l)) o ≡ true → ⊥
closed_by None e f = absurd (cc)
closed_by (Some l) e f = let no : false ≡ true = sym (ap not e) ∙ f in (cc)

pub never_both : (links : List Link) (k : ℕ) → is_closed links k ≡ true → is_taking links k ≡ true → ⊥
never_both links k e f = closed_by (numbered links k) e f

-- attempts: what becomes of one. It keeps its call and number, and, once it ended, its end, its link and its stream; one that never left the client is on a closed link; and it
-- is placed on a link that takes streams
pub record Moves (links : List Link) (a b : Attempt) : Type 0 where
  pub call : b.row.call ≡ a.row.call
  pub number : b.row.number ≡ a.row.number
  pub stays : is_some a.row.ended ≡ true → (b.row.ended ≡ a.row.ended) × (b.row.placed ≡ a.row.placed)
  pub unsent : was_unsent b ≡ true → IsUnsentOn links b.row.stream b.row.placed
  pub placed : (to : Placed) → b.row.placed ≡ Some to → (a.row.placed ≡ Some to) ⊎ (is_taking links to.link ≡ true)

abbrev pub AllMove : List Link → List Attempt → List Attempt → Type 0
AllMove links xs ys = (i : ℕ) (b : Attempt) → slice_get ys i ≡ Some b → (a : Attempt) × (slice_get xs i ≡ Some a) × Moves links a b

some_of : {X : Type 0} (p : X → Bool) (o : Option X) → holds p o ≡ true → is_some o ≡ true
some_of p None e = absurd (cc)
some_of p (Some x) e = refl

module _ (links : List Link) (xs ys : List Attempt) (moves : AllMove links xs ys) (h : RetriedOf xs links) where
  later_was : (i : ℕ) (a b : Attempt) → Moves links a b → HasLater ys i b → HasLater xs i a
  later_was i a b m l =
      let q : (z : Attempt) × (slice_get xs l.index ≡ Some z) × Moves links z l.later = moves l.index l.later l.here in
      record {
        index = l.index;
        later = q.0;
        here = q.1;
        afterwards = l.afterwards;
        same = (sym m.call ∙ l.same.0 ∙ q.2.call, sym m.number ∙ l.same.1 ∙ q.2.number);
      }

  same_end : (i : ℕ) (a b : Attempt) → slice_get xs i ≡ Some a → Moves links a b → HasLater xs i a → (b.row.ended ≡ a.row.ended) × (b.row.placed ≡ a.row.placed)
  same_end i a b got m l = m.stays (some_of is_again a.row.ended (h.ended i a got l))

  was_so : (test : RowEnd → Bool) (a b : Attempt) → b.row.ended ≡ a.row.ended → holds test b.row.ended ≡ true → holds test a.row.ended ≡ true
  was_so test a b e f = sym (ap (holds test) e) ∙ f

  apart_by : (i j : ℕ) (a b x y : Attempt) (at to : Placed) → slice_get xs i ≡ Some x → slice_get xs j ≡ Some y → Moves links x a → Moves links y b → i < j → SameNumber a b
      → was_unsent a ≡ true → a.row.placed ≡ Some at → b.row.placed ≡ Some to → at.link ≡ to.link → (y.row.placed ≡ Some to) ⊎ (is_taking links to.link ≡ true) → ⊥
  apart_by i j a b x y at to first second m n less same unsent on off link (inl was) =
      let number : SameNumber x y = (sym m.call ∙ same.0 ∙ n.call, sym m.number ∙ same.1 ∙ n.number) in
      let l : HasLater xs i x = record { index = j; later = y; here = second; afterwards = less; same = number } in
      let stays : (a.row.ended ≡ x.row.ended) × (a.row.placed ≡ x.row.placed) = same_end i x a first m l in
      h.apart i j x y at to first second less number (was_so (λ e. is_unsent e.cause) x a stays.0 unsent) (sym stays.1 ∙ on) was link
  apart_by i j a b x y at to first second m n less same unsent on off link (inr takes) =
      let number : SameNumber x y = (sym m.call ∙ same.0 ∙ n.call, sym m.number ∙ same.1 ∙ n.number) in
      let l : HasLater xs i x = record { index = j; later = y; here = second; afterwards = less; same = number } in
      let stays : (a.row.ended ≡ x.row.ended) × (a.row.placed ≡ x.row.placed) = same_end i x a first m l in
      let was : IsUnsentOn links x.row.stream x.row.placed = h.unsent i x first (was_so (λ e. is_unsent e.cause) x a stays.0 unsent) in
      let closed : is_closed links at.link ≡ true = sym (ap (holds (λ (p : Placed). is_closed links p.link)) (sym stays.1 ∙ on)) ∙ was.1 in
      never_both links to.link (sym (ap (is_closed links) link) ∙ closed) takes

  pub moved : RetriedOf ys links
  moved = record {
    ended = λ i b got l.
        (let was : (a : Attempt) × (slice_get xs i ≡ Some a) × Moves links a b = moves i b got in
        let before : HasLater xs i was.0 = later_was i was.0 b was.2 l in
        ap (holds is_again) (same_end i was.0 b was.1 was.2 before).0 ∙ h.ended i was.0 was.1 before);
    refused = λ i j b d first second call l m e f.
        (let x : (a : Attempt) × (slice_get xs i ≡ Some a) × Moves links a b = moves i b first in
        let y : (a : Attempt) × (slice_get xs j ≡ Some a) × Moves links a d = moves j d second in
        let p : HasLater xs i x.0 = later_was i x.0 b x.2 l in
        let q : HasLater xs j y.0 = later_was j y.0 d y.2 m in
        h.refused i j x.0 y.0 x.1 y.1 (sym x.2.call ∙ call ∙ y.2.call) p q (was_so is_refused x.0 b (same_end i x.0 b x.1 x.2 p).0 e)
        (was_so is_refused y.0 d (same_end j y.0 d y.1 y.2 q).0 f));
    unsent = λ i b got e. (moves i b got).2.unsent e;
    apart = λ i j a b at to first second less same unsent on off link.
        (let x : (z : Attempt) × (slice_get xs i ≡ Some z) × Moves links z a = moves i a first in
        let y : (z : Attempt) × (slice_get xs j ≡ Some z) × Moves links z b = moves j b second in
        apart_by i j a b x.0 y.0 at to x.1 y.1 x.2 y.2 less same unsent on off link (y.2.placed to off));
  }

-- one that stays as it was
stands : (links : List Link) (xs : List Attempt) (i : ℕ) (a : Attempt) → RetriedOf xs links → slice_get xs i ≡ Some a → Moves links a a
stands links xs i a h got =
    record { call = refl; number = refl; stays = λ e. (refl, refl); unsent = h.unsent i a got; placed = λ to e. inl e }

module _ (f : Attempt → Attempt) (place : ℕ) (s : Seen) (each : (a : Attempt) → numbered s.attempts place ≡ Some a → Moves s.links a (f a)) (h : Retried s) where
  moves_by : (i : ℕ) (b : Attempt) → (numbered s.attempts (suc i) ≡ Some b) ⊎ ((suc i ≡ place) × ((a : Attempt) × (numbered s.attempts (suc i) ≡ Some a) × (b ≡ f a)))
      → (a : Attempt) × (slice_get s.attempts i ≡ Some a) × Moves s.links a b
  moves_by i b (inl e) = (b, e, stands s.links s.attempts i b h e)
  moves_by i b (inr e) =
      let at : numbered s.attempts place ≡ Some e.1.0 = sym (ap (numbered s.attempts) e.0) ∙ e.1.1 in
      (e.1.0, e.1.1, subst (λ (z : Attempt). Moves s.links e.1.0 z) (sym e.1.2) (each e.1.0 at))

  pub attempt_now : Retried (record s { attempts = changed f place s.attempts })
  attempt_now =
      moved s.links s.attempts (changed f place s.attempts) (λ i b got. moves_by i b (from_changed f place s.attempts (suc i) b (suc i == place) refl got)) h

-- of one nothing changes that is looked at here
pub record IsLike (a b : Attempt) : Type 0 where
  pub call : b.row.call ≡ a.row.call
  pub number : b.row.number ≡ a.row.number
  pub ended : b.row.ended ≡ a.row.ended
  pub placed : b.row.placed ≡ a.row.placed
  pub stream : b.row.stream ≡ a.row.stream

like_unsent : (links : List Link) (a b : Attempt) → IsLike a b → IsUnsentOn links a.row.stream a.row.placed → IsUnsentOn links b.row.stream b.row.placed
like_unsent links a b k u = (k.stream ∙ u.0, ap (holds (λ (at : Placed). is_closed links at.link)) k.placed ∙ u.1)

pub changes_row : (f : Attempt → Attempt) (place : ℕ) (s : Seen) → ((a : Attempt) → IsLike a (f a)) → Retried s → Retried (record s { attempts = changed f place s.attempts })
changes_row f place s like h = attempt_now f place s (λ a got. by place a got (like a)) h
  where
    by : (n : ℕ) (a : Attempt) → numbered s.attempts n ≡ Some a → IsLike a (f a) → Moves s.links a (f a)
    by zero a got k = absurd (cc)
    by (suc i) a got k = record {
      call = k.call;
      number = k.number;
      stays = λ e. (k.ended, k.placed);
      unsent = λ e. like_unsent s.links a (f a) k (h.unsent i a got (sym (ap (holds (λ (e : RowEnd). is_unsent e.cause)) k.ended) ∙ e));
      placed = λ to e. inl (sym k.placed ∙ e);
    }

-- one more, which neither ended nor was placed. Where it has the number of another, that one may be retried; and of the call no two are that were refused
pub record IsNextRow (xs : List Attempt) (b : Attempt) : Type 0 where
  pub unended : b.row.ended ≡ None
  pub unplaced : b.row.placed ≡ None
  pub again : (i : ℕ) (a : Attempt) → slice_get xs i ≡ Some a → SameNumber a b → holds is_again a.row.ended ≡ true
  pub once : (i j : ℕ) (a c : Attempt) → slice_get xs i ≡ Some a → slice_get xs j ≡ Some c → a.row.call ≡ c.row.call → HasLater xs i a ⊎ SameNumber a b
      → HasLater xs j c ⊎ SameNumber c b → was_refused a ≡ true → was_refused c ≡ true → i ≡ j

module _ (links : List Link) (xs : List Attempt) (b : Attempt) (n : IsNextRow xs b) (h : RetriedOf xs links) where
  abbrev ys : List Attempt
  ys = xs ++ b ∷ []

  abbrev Old : ℕ → Attempt → Type 0
  Old i a = (slice_get xs i ≡ Some a) ⊎ ((i ≡ length xs) × (b ≡ a))

  never_ended : (test : RowEnd → Bool) (a : Attempt) → b ≡ a → holds test a.row.ended ≡ true → ⊥
  never_ended test a same e = let no : false ≡ true = sym (ap (holds test) n.unended) ∙ (ap (λ (z : Attempt). holds test z.row.ended) same ∙ e) in (cc)

  never_placed : (a : Attempt) (at : Placed) → b ≡ a → a.row.placed ≡ Some at → ⊥
  never_placed a at same e = let no : None ≡ Some at = sym n.unplaced ∙ (ap (λ (z : Attempt). z.row.placed) same ∙ e) in (cc)

  within : (i : ℕ) (a : Attempt) → Old i a → i ≤ length xs
  within i a (inl e) = let less : i < length xs = slice_get_within xs i a e in omega (arith, less)
  within i a (inr e) = let same : i ≡ length xs = e.0 in omega (arith, same)

  later_by : (i : ℕ) (a : Attempt) (l : HasLater ys i a) → Old l.index l.later → HasLater xs i a ⊎ SameNumber a b
  later_by i a l (inl e) = inl (record { index = l.index; later = l.later; here = e; afterwards = l.afterwards; same = l.same })
  later_by i a l (inr e) = inr (subst (λ (z : Attempt). SameNumber a z) (sym e.1) l.same)

  later_old : (i : ℕ) (a : Attempt) → HasLater ys i a → HasLater xs i a ⊎ SameNumber a b
  later_old i a l = later_by i a l (past xs b l.later l.index l.here)

  -- nothing comes after it
  is_last : (a : Attempt) → (i : ℕ) → i ≡ length xs → HasLater ys i a → ⊥
  is_last a i here l =
      let most : l.index ≤ length xs = within l.index l.later (past xs b l.later l.index l.here) in
      let less : i < l.index = l.afterwards in omega (arith, most, less, here)

  ended_by : (i : ℕ) (a : Attempt) → Old i a → HasLater ys i a → holds is_again a.row.ended ≡ true
  ended_by i a (inl e) l =
      elim (later_old i a l) [
        | inl was ↦ h.ended i a e was
        | inr same ↦ n.again i a e same
      ]
  ended_by i a (inr e) l = absurd (is_last a i e.0 l)

  refused_by : (i j : ℕ) (a c : Attempt) → Old i a → Old j c → a.row.call ≡ c.row.call → HasLater ys i a → HasLater ys j c → was_refused a ≡ true → was_refused c ≡ true → i ≡ j
  refused_by i j a c (inl e) (inl f) call l m first second = n.once i j a c e f call (later_old i a l) (later_old j c m) first second
  refused_by i j a c (inr e) g call l m first second = absurd (is_last a i e.0 l)
  refused_by i j a c (inl e) (inr f) call l m first second = absurd (is_last c j f.0 m)

  unsent_by : (i : ℕ) (a : Attempt) → Old i a → was_unsent a ≡ true → IsUnsentOn links a.row.stream a.row.placed
  unsent_by i a (inl e) unsent = h.unsent i a e unsent
  unsent_by i a (inr e) unsent = absurd (never_ended (λ z. is_unsent z.cause) a e.1 unsent)

  apart_new : (i j : ℕ) (a c : Attempt) (at to : Placed) → Old i a → Old j c → i < j → SameNumber a c → was_unsent a ≡ true → a.row.placed ≡ Some at → c.row.placed ≡ Some to
      → at.link ≡ to.link → ⊥
  apart_new i j a c at to (inl e) (inl f) less same unsent on off link = h.apart i j a c at to e f less same unsent on off link
  apart_new i j a c at to (inr e) g less same unsent on off link = never_placed a at e.1 on
  apart_new i j a c at to (inl e) (inr f) less same unsent on off link = never_placed c to f.1 off

  pub row_more : RetriedOf (xs ++ b ∷ []) links
  row_more = record {
    ended = λ i a got l. ended_by i a (past xs b a i got) l;
    refused = λ i j a c first second call l m e f. refused_by i j a c (past xs b a i first) (past xs b c j second) call l m e f;
    unsent = λ i a got e. unsent_by i a (past xs b a i got) e;
    apart = λ i j a c at to first second less same unsent on off link. apart_new i j a c at to (past xs b a i first) (past xs b c j second) less same unsent on off link;
  }
