-- What is kept of streams, said of attempts and links alone, so that each may change by itself.
use Rattle.attempt_ledger.specs.declared.row.Placed.{Placed}
use Rattle.channel_actions.proofs.KeptSessions.Lists.{all_at, all_changed, all_more, all_wide, get_more}
use Rattle.channel_actions.specs.OwnStreams.Own.{StreamsAreApart, is_below_next, is_opened}
use Rattle.session_actions.specs.Words.{changed, holds, numbered}
use Rattle.session_actions.specs.Writing.{next_stream, with_stream}
use Rattle.session_actions.specs.declared.attempt.Attempt.{Attempt}
use Rattle.session_actions.specs.declared.link.Link.{Link}
use Rattle.session_actions.specs.declared.seen.Seen.{Seen}
use Rattle.session_order.proofs.Changed.{changed_away, changed_here, changed_map}
use Rattle.std.proofs.Common.{Bool, List, None, Option, Some, [], ap, arith, eqb-true, false, inl, inr, map, option_map, refl, slice_get, subst, suc, sym, true, zero, ℕ, ◌++◌, ◌==◌, ◌∙◌, ◌∷◌, ◌≡◌, ◌⊎◌}
use Rattle.std.proofs.lemmas.Bool.Decides.{nat_tests}
use Rattle.std.proofs.lemmas.Bool.{and_from, eqb-false}
use Rattle.std.specs.List.{list_all}
use Rattle.std.specs.Option.{option_map_or}
use Rattle.std.specs.Prelude.{nat_lt}

pub record OwnOf (attempts : List Attempt) (links : List Link) : Type 0 where
  pub opened : list_all (is_opened links) attempts ≡ true
  pub apart : StreamsAreApart attempts

abbrev pub Own : Seen → Type 0
Own s = OwnOf s.attempts s.links

pub plain : (s t : Seen) → t.attempts ≡ s.attempts → t.links ≡ s.links → Own s → Own t
plain s t b c h = subst (λ (z : List Attempt). OwnOf z t.links) (sym b) (subst (λ (z : List Link). OwnOf s.attempts z) (sym c) h)

-- links: what was opened on them stays so
abbrev pub Opens : List Link → List Link → Type 0
Opens links lines = (n k : ℕ) → is_below_next links n k ≡ true → is_below_next lines n k ≡ true

at_later : (links lines : List Link) → Opens links lines → (n : ℕ) (p : Option Placed) → holds (λ (at : Placed). is_below_next links n at.link) p ≡ true
    → holds (λ (at : Placed). is_below_next lines n at.link) p ≡ true
at_later links lines more n None e = absurd (cc)
at_later links lines more n (Some at) e = more n at.link e

row_later : (links lines : List Link) → Opens links lines → (p : Option Placed) (q : Option ℕ)
    → option_map_or (λ (n : ℕ). holds (λ (at : Placed). is_below_next links n at.link) p) q true ≡ true
    → option_map_or (λ (n : ℕ). holds (λ (at : Placed). is_below_next lines n at.link) p) q true ≡ true
row_later links lines more p None e = refl
row_later links lines more p (Some n) e = at_later links lines more n p e

pub rows_later : (links lines : List Link) → Opens links lines → (attempts : List Attempt) → list_all (is_opened links) attempts ≡ true
    → list_all (is_opened lines) attempts ≡ true
rows_later links lines more attempts e = all_wide (is_opened links) (is_opened lines) (λ a ok. row_later links lines more a.row.placed a.row.stream ok) attempts e

pub links_now : (s : Seen) (lines : List Link) → Opens s.links lines → Own s → Own (record s { links = lines })
links_now s lines more h = record { opened = rows_later s.links lines more s.attempts h.opened; apart = h.apart }

abbrev pub OpensMore : (Link → Link) → Type 0
OpensMore f = (l : Link) (n : ℕ) → nat_lt n (next_stream l) ≡ true → nat_lt n (next_stream (f l)) ≡ true

one_later : (f : Link → Link) → OpensMore f → (n : ℕ) (o : Option Link) → holds (λ (l : Link). nat_lt n (next_stream l)) o ≡ true
    → holds (λ (l : Link). nat_lt n (next_stream l)) (option_map f o) ≡ true
one_later f keeps n None e = absurd (cc)
one_later f keeps n (Some l) e = keeps l n e

changed_at : (f : Link → Link) → OpensMore f → (n m k : ℕ) (links : List Link) (b : Bool) → (k == n) ≡ b → is_below_next links m k ≡ true
    → is_below_next (changed f n links) m k ≡ true
changed_at f keeps n m k links true same e =
    let here : k ≡ n = eqb-true k n same in
    ap (is_below_next (changed f n links) m) here ∙ ap (holds (λ (l : Link). nat_lt m (next_stream l))) (changed_map f n links)
    ∙ one_later f keeps m (numbered links n) (sym (ap (is_below_next links m) here) ∙ e)
changed_at f keeps n m k links false same e = ap (holds (λ (l : Link). nat_lt m (next_stream l))) (changed_away f n k links (eqb-false k n same)) ∙ e

pub changed_opens : (f : Link → Link) → OpensMore f → (n : ℕ) (links : List Link) → Opens links (changed f n links)
changed_opens f keeps n links m k e = changed_at f keeps n m k links (k == n) refl e

pub link_now : (f : Link → Link) (n : ℕ) (s : Seen) → OpensMore f → Own s → Own (record s { links = changed f n s.links })
link_now f n s keeps h = links_now s (changed f n s.links) (changed_opens f keeps n s.links) h

more_at : (links ls : List Link) (m k : ℕ) (o : Option Link) → numbered links k ≡ o → holds (λ (l : Link). nat_lt m (next_stream l)) o ≡ true
    → is_below_next (links ++ ls) m k ≡ true
more_at links ls m k None got e = absurd (cc)
more_at links ls m zero (Some l) got e = absurd (cc)
more_at links ls m (suc i) (Some l) got e = ap (holds (λ (l : Link). nat_lt m (next_stream l))) (get_more links ls i l got) ∙ e

pub links_more : (l : Link) (s : Seen) → Own s → Own (record s { links = s.links ++ l ∷ [] })
links_more l s h = links_now s (s.links ++ l ∷ []) (λ m k e. more_at s.links (l ∷ []) m k (numbered s.links k) refl e) h

map_at : (f : Link → Link) → OpensMore f → (links : List Link) (m i : ℕ) → holds (λ (l : Link). nat_lt m (next_stream l)) (slice_get links i) ≡ true
    → holds (λ (l : Link). nat_lt m (next_stream l)) (slice_get (map f links) i) ≡ true
map_at f keeps [] m i e = absurd (cc)
map_at f keeps (l ∷ links) m zero e = keeps l m e
map_at f keeps (l ∷ links) m (suc i) e = map_at f keeps links m i e

mapped_opens : (f : Link → Link) → OpensMore f → (links : List Link) → Opens links (map f links)
mapped_opens f keeps links m zero e = absurd (cc)
mapped_opens f keeps links m (suc i) e = map_at f keeps links m i e

pub links_mapped : (f : Link → Link) (s : Seen) → OpensMore f → Own s → Own (record s { links = map f s.links })
links_mapped f s keeps h = links_now s (map f s.links) (mapped_opens f keeps s.links) h

-- attempts: one changes, but not its link and its stream
pub record IsLike (a z : Attempt) : Type 0 where
  pub placed : z.row.placed ≡ a.row.placed
  pub stream : z.row.stream ≡ a.row.stream

one_of : {X : Type 0} (o : Option X) (x y : X) → o ≡ Some x → o ≡ Some y → x ≡ y
one_of None x y e f = absurd (cc)
one_of (Some z) x y e f = (cc)

module _ (f : Attempt → Attempt) (place : ℕ) (xs : List Attempt) where
  from_by : (i : ℕ) (z : Attempt) (o : Option Attempt) → i ≡ place → numbered xs place ≡ o → option_map f o ≡ Some z → (a : Attempt) × (numbered xs i ≡ Some a) × (z ≡ f a)
  from_by i z None here got e = absurd (cc)
  from_by i z (Some a) here got e = (a, ap (numbered xs) here ∙ got, (let one : f a ≡ z = (cc) in sym one))

  -- what is at a number was there, or is what was there, changed
  pub from_changed : (i : ℕ) (z : Attempt) (b : Bool) → (i == place) ≡ b → numbered (changed f place xs) i ≡ Some z
      → (numbered xs i ≡ Some z) ⊎ ((i ≡ place) × ((a : Attempt) × (numbered xs i ≡ Some a) × (z ≡ f a)))
  from_changed i z true same e =
      let here : i ≡ place = eqb-true i place same in
      inr (here, from_by i z (numbered xs place) here refl (sym (changed_map f place xs) ∙ (sym (ap (numbered (changed f place xs)) here) ∙ e)))
  from_changed i z false same e = inl (sym (changed_away f place i xs (eqb-false i place same)) ∙ e)

  module _ (placed : (a : Attempt) → (f a).row.placed ≡ a.row.placed) (stream : (a : Attempt) → (f a).row.stream ≡ a.row.stream) where
    like_by : (i : ℕ) (z : Attempt) → (numbered xs i ≡ Some z) ⊎ ((i ≡ place) × ((a : Attempt) × (numbered xs i ≡ Some a) × (z ≡ f a)))
        → (a : Attempt) × (numbered xs i ≡ Some a) × IsLike a z
    like_by i z (inl e) = (z, e, record { placed = refl; stream = refl })
    like_by i z (inr e) = (
      e.1.0,
      e.1.1,
      record {
        placed = ap (λ (y : Attempt). y.row.placed) e.1.2 ∙ placed e.1.0;
        stream = ap (λ (y : Attempt). y.row.stream) e.1.2 ∙ stream e.1.0;
      },
    )

    pub like_at : (i : ℕ) (z : Attempt) → numbered (changed f place xs) i ≡ Some z → (a : Attempt) × (numbered xs i ≡ Some a) × IsLike a z
    like_at i z e = like_by i z (from_changed i z (i == place) refl e)

pub changes_row : (s : Seen) (f : Attempt → Attempt) (place : ℕ) → ((a : Attempt) → (f a).row.placed ≡ a.row.placed) → ((a : Attempt) → (f a).row.stream ≡ a.row.stream)
    → Own s → Own (record s { attempts = changed f place s.attempts })
changes_row s f place placed stream h = record {
  opened = all_changed (is_opened s.links) f place s.attempts h.opened
      (λ a got e.
      ap (λ (p : Option Placed). option_map_or (λ (n : ℕ). holds (λ (at : Placed). is_below_next s.links n at.link) p) (f a).row.stream true) (placed a)
      ∙ ap (λ (q : Option ℕ). option_map_or (λ (n : ℕ). holds (λ (at : Placed). is_below_next s.links n at.link) a.row.placed) q true) (stream a) ∙ e);
  apart = λ i j n a b at to first second on off same one two.
      (let x : (q : Attempt) × (numbered s.attempts i ≡ Some q) × IsLike q a = like_at f place s.attempts placed stream i a first in
      let y : (q : Attempt) × (numbered s.attempts j ≡ Some q) × IsLike q b = like_at f place s.attempts placed stream j b second in
      h.apart i j n x.0 y.0 at to x.1 y.1 (sym x.2.placed ∙ on) (sym y.2.placed ∙ off) same (sym x.2.stream ∙ one) (sym y.2.stream ∙ two));
}

-- one more, without a stream
added_by : (xs : List Attempt) (a z : Attempt) (i : ℕ) → slice_get (xs ++ a ∷ []) i ≡ Some z → (slice_get xs i ≡ Some z) ⊎ (z ≡ a)
added_by [] a z zero e = inr (let one : a ≡ z = (cc) in sym one)
added_by [] a z (suc i) e = absurd (cc)
added_by (x ∷ xs) a z zero e = inl e
added_by (x ∷ xs) a z (suc i) e = added_by xs a z i e

streamed_by : (xs : List Attempt) (a z : Attempt) (i n : ℕ) → a.row.stream ≡ None → z.row.stream ≡ Some n → (numbered xs (suc i) ≡ Some z) ⊎ (z ≡ a) → numbered xs (suc i) ≡ Some z
streamed_by xs a z i n none one (inl e) = e
streamed_by xs a z i n none one (inr e) = absurd (let no : None ≡ Some n = sym none ∙ (ap (λ (y : Attempt). y.row.stream) (sym e) ∙ one) in (cc))

streamed_old : (xs : List Attempt) (a z : Attempt) (i n : ℕ) → a.row.stream ≡ None → z.row.stream ≡ Some n → numbered (xs ++ a ∷ []) i ≡ Some z → numbered xs i ≡ Some z
streamed_old xs a z zero n none one e = absurd (cc)
streamed_old xs a z (suc i) n none one e = streamed_by xs a z i n none one (added_by xs a z i e)

pub attempts_more : (a : Attempt) (s : Seen) → a.row.stream ≡ None → Own s → Own (record s { attempts = s.attempts ++ a ∷ [] })
attempts_more a s none h = record {
  opened = all_more (is_opened s.links) s.attempts (a ∷ []) h.opened
      (and_from (is_opened s.links a) true
      (ap (λ (q : Option ℕ). option_map_or (λ (n : ℕ). holds (λ (at : Placed). is_below_next s.links n at.link) a.row.placed) q true) none) refl);
  apart = λ i j n x y at to first second on off same one two.
      h.apart i j n x y at to (streamed_old s.attempts a x i n none one first) (streamed_old s.attempts a y j n none two second) on off same one two;
}

-- one that has no stream is placed
unstreamed : (links : List Link) (p : Option Placed) (q : Option ℕ) → p ≡ None → option_map_or (λ (n : ℕ). holds (λ (at : Placed). is_below_next links n at.link) p) q true ≡ true
    → q ≡ None
unstreamed links p None none e = refl
unstreamed links p (Some n) none e =
    absurd (let no : false ≡ true = sym (ap (holds (λ (at : Placed). is_below_next links n at.link)) none) ∙ e in (cc))

module _ (s : Seen) (f : Attempt → Attempt) (place : ℕ) (stream : (a : Attempt) → (f a).row.stream ≡ a.row.stream)
    (unplaced : (a : Attempt) → numbered s.attempts place ≡ Some a → a.row.placed ≡ None) (h : Own s) where
  none_at : (a : Attempt) → numbered s.attempts place ≡ Some a → (f a).row.stream ≡ None
  none_at a got = stream a ∙ unstreamed s.links a.row.placed a.row.stream (unplaced a got) (all_at (is_opened s.links) s.attempts place a h.opened got)

  still_by : (i n : ℕ) (z : Attempt) → z.row.stream ≡ Some n → (numbered s.attempts i ≡ Some z) ⊎ ((i ≡ place) × ((a : Attempt) × (numbered s.attempts i ≡ Some a) × (z ≡ f a)))
      → numbered s.attempts i ≡ Some z
  still_by i n z one (inl e) = e
  still_by i n z one (inr e) =
      absurd (let no : None ≡ Some n = sym (none_at e.1.0 (sym (ap (numbered s.attempts) e.0) ∙ e.1.1)) ∙ (ap (λ (y : Attempt). y.row.stream) (sym e.1.2) ∙ one) in (cc))

  still : (i n : ℕ) (z : Attempt) → z.row.stream ≡ Some n → numbered (changed f place s.attempts) i ≡ Some z → numbered s.attempts i ≡ Some z
  still i n z one e = still_by i n z one (from_changed f place s.attempts i z (i == place) refl e)

  pub placed_now : Own (record s { attempts = changed f place s.attempts })
  placed_now = record {
    opened = all_changed (is_opened s.links) f place s.attempts h.opened
        (λ a got e. ap (λ (q : Option ℕ). option_map_or (λ (n : ℕ). holds (λ (at : Placed). is_below_next s.links n at.link) (f a).row.placed) q true) (none_at a got));
    apart = λ i j n x y at to first second on off same one two.
        h.apart i j n x y at to (still i n x one first) (still j n y two second) on off same one two;
  }

-- one that waits gets the next stream of its link
less_not : (n : ℕ) → nat_lt n n ≡ true → ⊥
less_not n e = grind (arith, nat_tests, e)

module _ (s : Seen) (g : Link → Link) (l : Link) (a : Attempt) (at : Placed) (n : ℕ) (keeps : OpensMore g) (own : numbered s.attempts a.place ≡ Some a)
    (on : a.row.placed ≡ Some at) (here : at.link ≡ l.number) (line : numbered s.links l.number ≡ Some l) (next : n ≡ next_stream l)
    (opens : nat_lt n (next_stream (g l)) ≡ true) (h : Own s) where
  abbrev f : Attempt → Attempt
  f = with_stream n

  abbrev lines : List Link
  lines = changed g l.number s.links

  gone_up : is_below_next lines n at.link ≡ true
  gone_up =
      ap (is_below_next lines n) here ∙ ap (holds (λ (k : Link). nat_lt n (next_stream k))) (changed_here g l.number s.links l line) ∙ opens

  opened_at : (z : Attempt) → numbered s.attempts a.place ≡ Some z → is_opened lines (f z) ≡ true
  opened_at z got =
      let same : z ≡ a = one_of (numbered s.attempts a.place) z a got own in
      ap (λ (y : Attempt). holds (λ (p : Placed). is_below_next lines n p.link) y.row.placed) same
      ∙ ap (holds (λ (p : Placed). is_below_next lines n p.link)) on ∙ gone_up

  -- no other attempt of the link has it
  clash : (j m : ℕ) (b : Attempt) (to : Placed) → numbered s.attempts j ≡ Some b → b.row.placed ≡ Some to → to.link ≡ at.link → b.row.stream ≡ Some m → m ≡ n → ⊥
  clash j m b to got off same two is =
      let low : is_opened s.links b ≡ true = all_at (is_opened s.links) s.attempts j b h.opened got in
      let one : holds (λ (p : Placed). is_below_next s.links m p.link) b.row.placed ≡ true
      = sym (ap (λ (q : Option ℕ). option_map_or (λ (k : ℕ). holds (λ (p : Placed). is_below_next s.links k p.link) b.row.placed) q true) two) ∙ low in
      let under : is_below_next s.links m to.link ≡ true = sym (ap (holds (λ (p : Placed). is_below_next s.links m p.link)) off) ∙ one in
      let more : is_below_next s.links m l.number ≡ true = sym (ap (is_below_next s.links m) (same ∙ here)) ∙ under in
      let less : nat_lt m (next_stream l) ≡ true = sym (ap (holds (λ (k : Link). nat_lt m (next_stream k))) line) ∙ more in
      less_not (next_stream l) (sym (ap (λ (k : ℕ). nat_lt k (next_stream l)) (is ∙ next)) ∙ less)

  new_stream : (i m : ℕ) (z : Attempt) → z.row.stream ≡ Some m → (q : Attempt) → z ≡ f q → m ≡ n
  new_stream i m z one q is = let both : Some m ≡ Some n = sym one ∙ ap (λ (y : Attempt). y.row.stream) is in (cc)

  new_place : (z q : Attempt) (i : ℕ) (to : Placed) → i ≡ a.place → numbered s.attempts i ≡ Some q → z ≡ f q → z.row.placed ≡ Some to → to.link ≡ at.link
  new_place z q i to at_ got is off =
      let same : q ≡ a = one_of (numbered s.attempts a.place) q a (sym (ap (numbered s.attempts) at_) ∙ got) own in
      let both : Some to ≡ Some at = sym off ∙ (ap (λ (y : Attempt). y.row.placed) is ∙ (ap (λ (y : Attempt). y.row.placed) same ∙ on)) in
      let one : to ≡ at = (cc) in ap (λ (p : Placed). p.link) one

  abbrev From : ℕ → Attempt → Type 0
  From i z = (numbered s.attempts i ≡ Some z) ⊎ ((i ≡ a.place) × ((q : Attempt) × (numbered s.attempts i ≡ Some q) × (z ≡ f q)))

  apart_by : (i j m : ℕ) (x y : Attempt) (p q : Placed) → From i x → From j y → x.row.placed ≡ Some p → y.row.placed ≡ Some q → p.link ≡ q.link → x.row.stream ≡ Some m
      → y.row.stream ≡ Some m → i ≡ j
  apart_by i j m x y p q (inl first) (inl second) pon qon same one two = h.apart i j m x y p q first second pon qon same one two
  apart_by i j m x y p q (inr first) (inr second) pon qon same one two = first.0 ∙ sym second.0
  apart_by i j m x y p q (inl first) (inr second) pon qon same one two =
      absurd (clash i m x p first pon (same ∙ new_place y second.1.0 j q second.0 second.1.1 second.1.2 qon) one (new_stream j m y two second.1.0 second.1.2))
  apart_by i j m x y p q (inr first) (inl second) pon qon same one two =
      absurd (clash j m y q second qon (sym same ∙ new_place x first.1.0 i p first.0 first.1.1 first.1.2 pon) two (new_stream i m x one first.1.0 first.1.2))

  pub streamed_now : OwnOf (changed f a.place s.attempts) lines
  streamed_now = record {
    opened = all_changed (is_opened lines) f a.place s.attempts (rows_later s.links lines (changed_opens g keeps l.number s.links) s.attempts h.opened) (λ z got e. opened_at z got);
    apart = λ i j m x y p q first second pon qon same one two.
        apart_by i j m x y p q (from_changed f a.place s.attempts i x (i == a.place) refl first) (from_changed f a.place s.attempts j y (j == a.place) refl second) pon qon same one two;
  }
