-- The one link of a number among those that are kept open, and what is left of it.
use Rattle.std.proofs.Common.{◌≡◌, ℕ, Bool, true, false, ◌==◌, if◌then◌else◌, Option, Some, None, List, [], ◌∷◌, ◌++◌, refl, sym, ap, subst, ◌∙◌, append_assoc, append-nil, true≢false}
use Rattle.gate_io.specs.Outside.{Takes}
use Rattle.live_pump.specs.Prefixes.{IsPrefix, Many, Opened, Stray, LinkHistory, Unopened, came, opened}
use Rattle.live_pump.specs.declared.link_turn.OpenLink.{OpenLink}

-- none of these links has this number
abbrev pub NoneOf : {I O : Type 0} → ℕ → List (OpenLink I O) → Type 0
NoneOf n [] = Unit {0}
NoneOf n (k ∷ ks) = ((k.link == n) ≡ false) × NoneOf n ks

-- at most one of them has it, and then these bytes are left of it
abbrev OneBy : {I O : Type 0} → (I → Option (List ℕ)) → ℕ → List ℕ → OpenLink I O → List (OpenLink I O) → Type 0 → Bool → Type 0
OneBy left n rest k ks later true = (left k.input ≡ Some rest) × NoneOf n ks
OneBy left n rest k ks later false = later

abbrev pub OneOf : {I O : Type 0} → (I → Option (List ℕ)) → ℕ → List ℕ → List (OpenLink I O) → Type 0
OneOf left n rest [] = Unit {0}
OneOf left n rest (k ∷ ks) = OneBy left n rest k ks (OneOf left n rest ks) (k.link == n)

record IsOwn {I O : Type 0} (left : I → Option (List ℕ)) (n : ℕ) (rest : List ℕ) (k : OpenLink I O) (others : List (OpenLink I O)) : Type 0 where
  there : left k.input ≡ Some rest
  none : NoneOf n others

from_other : {I O : Type 0} (left : I → Option (List ℕ)) (n : ℕ) (rest : List ℕ) (k : OpenLink I O) (ks : List (OpenLink I O)) (later : Type 0) (b : Bool) → b ≡ false → OneBy left n rest k ks later b → later
from_other left n rest k ks later true is one = absurd (true≢false is)
from_other left n rest k ks later false is one = one

from_own : {I O : Type 0} (left : I → Option (List ℕ)) (n : ℕ) (rest : List ℕ) (k : OpenLink I O) (ks : List (OpenLink I O)) (later : Type 0) (b : Bool) → b ≡ true → OneBy left n rest k ks later b → IsOwn left n rest k ks
from_own left n rest k ks later true is one = record { there = one.0; none = one.1 }
from_own left n rest k ks later false is one = absurd (true≢false (sym is))

to_other : {I O : Type 0} (left : I → Option (List ℕ)) (n : ℕ) (rest : List ℕ) (k : OpenLink I O) (ks : List (OpenLink I O)) (later : Type 0) (b : Bool) → b ≡ false → later → OneBy left n rest k ks later b
to_other left n rest k ks later true is x = absurd (true≢false is)
to_other left n rest k ks later false is x = x

none_one : {I O : Type 0} (left : I → Option (List ℕ)) (n : ℕ) (rest : List ℕ) (ks : List (OpenLink I O)) → NoneOf n ks → OneOf left n rest ks
none_one left n rest [] clear = tt
none_one left n rest (k ∷ ks) clear = to_other left n rest k ks (OneOf left n rest ks) (k.link == n) clear.0 (none_one left n rest ks clear.1)

none_at : {I O : Type 0} (n : ℕ) (before : List (OpenLink I O)) (k : OpenLink I O) (after : List (OpenLink I O)) → NoneOf n (before ++ k ∷ after) → (k.link == n) ≡ false
none_at n [] k after clear = clear.0
none_at n (x ∷ before) k after clear = none_at n before k after clear.1

none_drop : {I O : Type 0} (n : ℕ) (before : List (OpenLink I O)) (k : OpenLink I O) (after : List (OpenLink I O)) → NoneOf n (before ++ k ∷ after) → NoneOf n (before ++ after)
none_drop n [] k after clear = clear.1
none_drop n (x ∷ before) k after clear = (clear.0, none_drop n before k after clear.1)

none_put : {I O : Type 0} (n : ℕ) (before : List (OpenLink I O)) (k : OpenLink I O) (after : List (OpenLink I O)) → NoneOf n (before ++ after) → (k.link == n) ≡ false → NoneOf n (before ++ k ∷ after)
none_put n [] k after clear is = (is, clear)
none_put n (x ∷ before) k after clear is = (clear.0, none_put n before k after clear.1 is)

own_after : {I O : Type 0} (left : I → Option (List ℕ)) (n : ℕ) (rest : List ℕ) (x : OpenLink I O) (before : List (OpenLink I O)) (k : OpenLink I O) (after : List (OpenLink I O)) → (k.link == n) ≡ true
    → (OneOf left n rest (before ++ k ∷ after) → IsOwn left n rest k (before ++ after)) → (b : Bool) → (x.link == n) ≡ b → OneBy left n rest x (before ++ k ∷ after) (OneOf left n rest (before ++ k ∷ after)) b → IsOwn left n rest k (x ∷ before ++ after)
own_after left n rest x before k after is later true here one = absurd (true≢false (sym is ∙ none_at n before k after one.1))
own_after left n rest x before k after is later false here one = let own = later one in record { there = own.there; none = (here, own.none) }

own : {I O : Type 0} (left : I → Option (List ℕ)) (n : ℕ) (rest : List ℕ) (before : List (OpenLink I O)) (k : OpenLink I O) (after : List (OpenLink I O)) → OneOf left n rest (before ++ k ∷ after) → (k.link == n) ≡ true → IsOwn left n rest k (before ++ after)
own left n rest [] k after one is = from_own left n rest k after (OneOf left n rest after) (k.link == n) is one
own left n rest (x ∷ before) k after one is = own_after left n rest x before k after is (λ later. own left n rest before k after later is) (x.link == n) refl one

other_after : {I O : Type 0} (left : I → Option (List ℕ)) (n : ℕ) (rest : List ℕ) (x : OpenLink I O) (before : List (OpenLink I O)) (k : OpenLink I O) (after : List (OpenLink I O))
    → (OneOf left n rest (before ++ k ∷ after) → OneOf left n rest (before ++ after)) → (b : Bool) → OneBy left n rest x (before ++ k ∷ after) (OneOf left n rest (before ++ k ∷ after)) b → OneBy left n rest x (before ++ after) (OneOf left n rest (before ++ after)) b
other_after left n rest x before k after later true one = (one.0, none_drop n before k after one.1)
other_after left n rest x before k after later false one = later one

other : {I O : Type 0} (left : I → Option (List ℕ)) (n : ℕ) (rest : List ℕ) (before : List (OpenLink I O)) (k : OpenLink I O) (after : List (OpenLink I O)) → OneOf left n rest (before ++ k ∷ after) → (k.link == n) ≡ false → OneOf left n rest (before ++ after)
other left n rest [] k after one is = from_other left n rest k after (OneOf left n rest after) (k.link == n) is one
other left n rest (x ∷ before) k after one is = other_after left n rest x before k after (λ later. other left n rest before k after later is) (x.link == n) one

put_after : {I O : Type 0} (left : I → Option (List ℕ)) (n : ℕ) (rest : List ℕ) (x : OpenLink I O) (before : List (OpenLink I O)) (k : OpenLink I O) (after : List (OpenLink I O)) → (k.link == n) ≡ false
    → (OneOf left n rest (before ++ after) → OneOf left n rest (before ++ k ∷ after)) → (b : Bool) → OneBy left n rest x (before ++ after) (OneOf left n rest (before ++ after)) b → OneBy left n rest x (before ++ k ∷ after) (OneOf left n rest (before ++ k ∷ after)) b
put_after left n rest x before k after is later true one = (one.0, none_put n before k after one.1 is)
put_after left n rest x before k after is later false one = later one

put_other : {I O : Type 0} (left : I → Option (List ℕ)) (n : ℕ) (rest : List ℕ) (before : List (OpenLink I O)) (k : OpenLink I O) (after : List (OpenLink I O)) → OneOf left n rest (before ++ after) → (k.link == n) ≡ false → OneOf left n rest (before ++ k ∷ after)
put_other left n rest [] k after one is = to_other left n rest k after (OneOf left n rest after) (k.link == n) is one
put_other left n rest (x ∷ before) k after one is = put_after left n rest x before k after is (λ later. put_other left n rest before k after later is) (x.link == n) one

put_own : {I O : Type 0} (left : I → Option (List ℕ)) (n : ℕ) (rest : List ℕ) (before : List (OpenLink I O)) (k : OpenLink I O) (after : List (OpenLink I O)) → NoneOf n (before ++ after) → left k.input ≡ Some rest → OneOf left n rest (before ++ k ∷ after)
put_own {I} {O} left n rest [] k after clear there = here (k.link == n)
  where
    here : (b : Bool) → OneBy left n rest k after (OneOf left n rest after) b
    here true = (there, clear)
    here false = none_one left n rest after clear
put_own left n rest (x ∷ before) k after clear there = to_other left n rest x (before ++ k ∷ after) (OneOf left n rest (before ++ k ∷ after)) (x.link == n) clear.0 (put_own left n rest before k after clear.1 there)

-- what the history of a number says of the links that are kept open
pub record IsReadTo {I O : Type 0} (left : I → Option (List ℕ)) (n : ℕ) (held before : List ℕ) (ks : List (OpenLink I O)) : Type 0 where
  pub rest : List ℕ
  pub parts : held ≡ before ++ rest
  pub one : OneOf left n rest ks

abbrev pub Fits : {I O : Type 0} → (I → Option (List ℕ)) → ℕ → List (OpenLink I O) → LinkHistory → Type 0
Fits left n ks Unopened = NoneOf n ks
Fits left n ks (Opened held before) = IsReadTo left n held before ks
Fits left n ks Many = Unit {0}
Fits left n ks Stray = ⊥

pub prefix : {I O : Type 0} (left : I → Option (List ℕ)) (n : ℕ) (ks : List (OpenLink I O)) (t : LinkHistory) → Fits left n ks t → IsPrefix t
prefix left n ks Unopened fits = tt
prefix left n ks (Opened held before) fits = (fits.rest, fits.parts)
prefix left n ks Many fits = tt
prefix left n ks Stray fits = absurd fits

same_number : {I O : Type 0} (n : ℕ) (k k2 : OpenLink I O) → k2.link ≡ k.link → (b : Bool) → (k.link == n) ≡ b → (k2.link == n) ≡ b
same_number n k k2 same b is = ap (λ (m : ℕ). m == n) same ∙ is

-- a link of which nothing was read
pub fits_kept : {I O : Type 0} (left : I → Option (List ℕ)) (n : ℕ) (before : List (OpenLink I O)) (k k2 : OpenLink I O) (after : List (OpenLink I O)) (t : LinkHistory) → k2.link ≡ k.link → left k2.input ≡ left k.input
    → Fits left n (before ++ k ∷ after) t → Fits left n (before ++ k2 ∷ after) t
fits_kept left n before k k2 after Unopened same still_left fits = none_put n before k2 after (none_drop n before k after fits) (same_number n k k2 same false (none_at n before k after fits))
fits_kept {I} {O} left n before k k2 after (Opened held got) same still_left fits = by_number (k.link == n) refl
  where
    by_number : (b : Bool) → (k.link == n) ≡ b → IsReadTo left n held got (before ++ k2 ∷ after)
    by_number true is = let mine = own left n fits.rest before k after fits.one is in record { rest = fits.rest; parts = fits.parts; one = put_own left n fits.rest before k2 after mine.none (still_left ∙ mine.there) }
    by_number false is = record { rest = fits.rest; parts = fits.parts; one = put_other left n fits.rest before k2 after (other left n fits.rest before k after fits.one is) (same_number n k k2 same false is) }
fits_kept left n before k k2 after Many same still_left fits = tt
fits_kept left n before k k2 after Stray same still_left fits = absurd fits

-- a link that is given up
pub fits_gone : {I O : Type 0} (left : I → Option (List ℕ)) (n : ℕ) (before : List (OpenLink I O)) (k : OpenLink I O) (after : List (OpenLink I O)) (t : LinkHistory) → Fits left n (before ++ k ∷ after) t → Fits left n (before ++ after) t
fits_gone left n before k after Unopened fits = none_drop n before k after fits
fits_gone {I} {O} left n before k after (Opened held got) fits = by_number (k.link == n) refl
  where
    by_number : (b : Bool) → (k.link == n) ≡ b → IsReadTo left n held got (before ++ after)
    by_number true is = record { rest = fits.rest; parts = fits.parts; one = none_one left n fits.rest (before ++ after) (own left n fits.rest before k after fits.one is).none }
    by_number false is = record { rest = fits.rest; parts = fits.parts; one = other left n fits.rest before k after fits.one is }
fits_gone left n before k after Many fits = tt
fits_gone left n before k after Stray fits = absurd fits

-- what a read leaves of what was left
record IsTaken (piece rest : List ℕ) (left : Option (List ℕ)) : Type 0 where
  more : List ℕ
  is : left ≡ Some more
  parts : rest ≡ piece ++ more

some_same : (a b : List ℕ) → Some a ≡ Some b → a ≡ b
some_same a b is = (cc)

taken : (before after : Option (List ℕ)) (piece rest : List ℕ) → Takes before after piece → before ≡ Some rest → IsTaken piece rest after
taken (Some x) (Some y) piece rest takes is = record { more = y; is = refl; parts = sym (some_same x rest is) ∙ takes }
taken (Some x) None piece rest takes is = absurd takes
taken None (Some y) piece rest takes is = absurd takes
taken None None piece rest takes is = absurd (let clear : ⊥ = (cc) in clear)

-- a link of which a piece was read
pub fits_read : {I O : Type 0} (left : I → Option (List ℕ)) (n : ℕ) (before : List (OpenLink I O)) (k k2 : OpenLink I O) (after : List (OpenLink I O)) (piece : List ℕ) (t : LinkHistory) → k2.link ≡ k.link → Takes (left k.input) (left k2.input) piece
    → Fits left n (before ++ k ∷ after) t → Fits left n (before ++ k2 ∷ after) (if k.link == n then came piece t else t)
fits_read {I} {O} left n before k k2 after piece Unopened same takes fits = by_number (k.link == n) (none_at n before k after fits)
  where
    by_number : (b : Bool) → b ≡ false → Fits left n (before ++ k2 ∷ after) (if b then came piece Unopened else Unopened)
    by_number true is = absurd (true≢false is)
    by_number false is = none_put n before k2 after (none_drop n before k after fits) (same_number n k k2 same false (none_at n before k after fits))
fits_read {I} {O} left n before k k2 after piece (Opened held got) same takes fits = by_number (k.link == n) refl
  where
    by_number : (b : Bool) → (k.link == n) ≡ b → Fits left n (before ++ k2 ∷ after) (if b then came piece (Opened held got) else Opened held got)
    by_number true is =
        let mine = own left n fits.rest before k after fits.one is in
        let got_more = taken (left k.input) (left k2.input) piece fits.rest takes mine.there in record {
          rest = got_more.more;
          parts = fits.parts ∙ ap (λ (x : List ℕ). got ++ x) got_more.parts ∙ sym (append_assoc got piece got_more.more);
          one = put_own left n got_more.more before k2 after mine.none got_more.is;
        }
    by_number false is = record { rest = fits.rest; parts = fits.parts; one = put_other left n fits.rest before k2 after (other left n fits.rest before k after fits.one is) (same_number n k k2 same false is) }
fits_read {I} {O} left n before k k2 after piece Many same takes fits = by_number (k.link == n)
  where
    by_number : (b : Bool) → Fits left n (before ++ k2 ∷ after) (if b then came piece Many else Many)
    by_number true = tt
    by_number false = tt
fits_read left n before k k2 after piece Stray same takes fits = absurd fits

-- a link that was opened
pub fits_opened : {I O : Type 0} (left : I → Option (List ℕ)) (n : ℕ) (ks : List (OpenLink I O)) (k : OpenLink I O) (held : List ℕ) (coming : List (List ℕ)) (t : LinkHistory) → left k.input ≡ Some held
    → Fits left n ks t → Fits left n (ks ++ k ∷ []) (if k.link == n then opened t (held ∷ coming) else t)
fits_opened {I} {O} left n ks k held coming Unopened there fits = by_number (k.link == n) refl
  where
    all : NoneOf n (ks ++ [])
    all = subst (λ (l : List (OpenLink I O)). NoneOf n l) (sym (append-nil ks)) fits

    by_number : (b : Bool) → (k.link == n) ≡ b → Fits left n (ks ++ k ∷ []) (if b then opened Unopened (held ∷ coming) else Unopened)
    by_number true is = record { rest = held; parts = refl; one = put_own left n held ks k [] all there }
    by_number false is = none_put n ks k [] all is
fits_opened {I} {O} left n ks k held coming (Opened first got) there fits = by_number (k.link == n) refl
  where
    by_number : (b : Bool) → (k.link == n) ≡ b → Fits left n (ks ++ k ∷ []) (if b then opened (Opened first got) (held ∷ coming) else Opened first got)
    by_number true is = tt
    by_number false is = record { rest = fits.rest; parts = fits.parts; one = put_other left n fits.rest ks k [] (subst (λ (l : List (OpenLink I O)). OneOf left n fits.rest l) (sym (append-nil ks)) fits.one) is }
fits_opened {I} {O} left n ks k held coming Many there fits = by_number (k.link == n)
  where
    by_number : (b : Bool) → Fits left n (ks ++ k ∷ []) (if b then opened Many (held ∷ coming) else Many)
    by_number true = tt
    by_number false = tt
fits_opened left n ks k held coming Stray there fits = absurd fits
