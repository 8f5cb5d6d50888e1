-- The numbers of the live ones stand for the list.
use Rattle.std.proofs.Common.{◌≡◌, ℕ, zero, suc, ◌+◌, ◌-◌, ◌≤◌, ◌<◌, Bool, true, false, ◌&&◌, ◌||◌, not, if◌then◌else◌, cond, Option, Some, None, List, [], ◌∷◌, ◌++◌, length, find, refl, ap, sym, subst, ◌∙◌, arith, slice_get, slice_set, get_or, is_some, append_assoc, nat_le, ◌==◌, length-append, ◌⊎◌, inl, inr, IfSome}
use Rattle.std.specs.List.{list_any, position_from}
use Rattle.std.specs.Option.{option_map_or}
use Rattle.grpc_base.specs.declared.address.Address.{Address}
use Rattle.grpc_base.specs.declared.event.Conn.{Conn}
use Rattle.grpc_base.specs.declared.event.Conn.TheVariants as conn
use Rattle.subchannel.specs.Records.{SubRecord, is_live, is_shut, is_failure, is_connecting, is_dialable, is_due, next_of, clocked}
use Rattle.std.proofs.lemmas.Option.{slice_get_read}
use Rattle.subchannel.specs.Boards.{HasNumber, changed_at, clocked_at, first_clocked, numbered, first_number, changed, sooner, next_of_all, is_live_at, has_live}
use Rattle.subchannel.specs.Insides.{live_numbers, next_of_one, next_of_numbers}
use Rattle.subchannel.specs.Boards.{passes, passes_test}

-- the element after a prefix
slice_get-afterwards : (prefix rest : List SubRecord) (s : SubRecord) → slice_get (prefix ++ s ∷ rest) (length prefix) ≡ Some s
slice_get-afterwards [] rest s = refl
slice_get-afterwards (x ∷ prefix) rest s = slice_get-afterwards prefix rest s

pub numbered-afterwards : (prefix rest : List SubRecord) (s : SubRecord) (n : ℕ) → n ≡ length prefix + 1 → numbered (prefix ++ s ∷ rest) n ≡ Some s
numbered-afterwards prefix rest s n e =
    let f : suc (length prefix) ≡ n = omega arith in
    subst (λ (k : ℕ). numbered (prefix ++ s ∷ rest) k ≡ Some s) f (slice_get-afterwards prefix rest s)

-- one element moved to the prefix
pub one-moved : (prefix rest : List SubRecord) (s : SubRecord) → (prefix ++ s ∷ []) ++ rest ≡ prefix ++ s ∷ rest
one-moved prefix rest s = append_assoc prefix (s ∷ []) rest

pub one-longer : (prefix : List SubRecord) (s : SubRecord) (n : ℕ) → n ≡ length prefix + 1 → n + 1 ≡ length (prefix ++ s ∷ []) + 1
one-longer prefix s n e = let l : length (prefix ++ s ∷ []) ≡ length prefix + length (s ∷ []) = length-append prefix (s ∷ []) in omega arith

-- the numbers where the first one is live, and where it is not
pub live_numbers-live : (s : SubRecord) (rest : List SubRecord) (n : ℕ) → is_live s ≡ true → live_numbers n (s ∷ rest) ≡ n ∷ live_numbers (n + 1) rest
live_numbers-live s rest n live =
    ap (λ (b : Bool). if b then n ∷ live_numbers (n + 1) rest else live_numbers (n + 1) rest) live

pub live_numbers-shut : (s : SubRecord) (rest : List SubRecord) (n : ℕ) → is_live s ≡ false → live_numbers n (s ∷ rest) ≡ live_numbers (n + 1) rest
live_numbers-shut s rest n shut =
    ap (λ (b : Bool). if b then n ∷ live_numbers (n + 1) rest else live_numbers (n + 1) rest) shut

-- what passes a test that only live ones pass
abbrev pub OnlyLive : (SubRecord → Bool) → Type 0
OnlyLive p = (s : SubRecord) → is_live s ≡ false → p s ≡ false

find-prefix : (p : ℕ → Bool) (all ns : List ℕ) (n : ℕ) (b : Bool) → all ≡ n ∷ ns → p n ≡ b → find p all ≡ cond b (Some n) (find p ns)
find-prefix p all ns n b e pass = ap (find p) e ∙ ap (λ (t : Bool). cond t (Some n) (find p ns)) pass

find-step : (p : SubRecord → Bool) (subs rest : List SubRecord) (s : SubRecord) (n : ℕ) (b : Bool) → OnlyLive p → is_live s ≡ b → numbered subs n ≡ Some s → find (passes p subs) (live_numbers (n + 1) rest) ≡ position_from p (n + 1) rest → find (passes p subs) (live_numbers n (s ∷ rest)) ≡ position_from p n (s ∷ rest)
find-step p subs rest s n true only live at next =
    find-prefix (passes p subs) (live_numbers n (s ∷ rest)) (live_numbers (n + 1) rest) n (p s) (live_numbers-live s rest n live) (ap (passes_test p) at) ∙ ap (λ (o : Option ℕ). cond (p s) (Some n) o) next
find-step p subs rest s n false only shut at next =
    ap (find (passes p subs)) (live_numbers-shut s rest n shut) ∙ next ∙ sym (ap (λ (t : Bool). cond t (Some n) (position_from p (n + 1) rest)) (only s shut))

find-afterwards : (p : SubRecord → Bool) (prefix rest : List SubRecord) (n : ℕ) → OnlyLive p → n ≡ length prefix + 1 → find (passes p (prefix ++ rest)) (live_numbers n rest) ≡ position_from p n rest
find-afterwards p prefix [] n only e = refl
find-afterwards p prefix (s ∷ rest) n only e =
    let next : find (passes p ((prefix ++ s ∷ []) ++ rest)) (live_numbers (n + 1) rest) ≡ position_from p (n + 1) rest =
    find-afterwards p (prefix ++ s ∷ []) rest (n + 1) only (one-longer prefix s n e) in
    let moved : find (passes p (prefix ++ s ∷ rest)) (live_numbers (n + 1) rest) ≡ position_from p (n + 1) rest =
    subst (λ (xs : List SubRecord). find (passes p xs) (live_numbers (n + 1) rest) ≡ position_from p (n + 1) rest) (one-moved prefix rest s) next in
    find-step p (prefix ++ s ∷ rest) rest s n (is_live s) only refl (numbered-afterwards prefix rest s n e) moved

-- the first live number that passes is the first number that passes
pub find-live : (p : SubRecord → Bool) (subs : List SubRecord) (live : List ℕ) → OnlyLive p → live ≡ live_numbers 1 subs → find (passes p subs) live ≡ first_number p subs
find-live p subs live only e = ap (find (passes p subs)) e ∙ find-afterwards p [] subs 1 only refl

-- what only live ones pass
next-shut : (c : Conn) (a u : Option ℕ) → not (is_shut c) ≡ false → (if is_failure c then a else (if is_connecting c then u else None)) ≡ None
next-shut conn.Idle a u e = refl
next-shut conn.Connecting a u e = (cc)
next-shut conn.Ready a u e = refl
next-shut conn.Failure a u e = (cc)
next-shut conn.Shutdown a u e = refl

connecting-shut : (c : Conn) → not (is_shut c) ≡ false → is_connecting c ≡ false
connecting-shut conn.Idle e = refl
connecting-shut conn.Connecting e = (cc)
connecting-shut conn.Ready e = refl
connecting-shut conn.Failure e = refl
connecting-shut conn.Shutdown e = refl

pub next_of-shut : (s : SubRecord) → is_live s ≡ false → next_of s ≡ None
next_of-shut s e = next-shut s.state s.again s.until e

pub only_live-due : (moment : ℕ) → OnlyLive (is_due moment)
only_live-due moment s e = ap (λ (o : Option ℕ). option_map_or (λ t. nat_le t moment) o false) (next_of-shut s e)

pub only_live-dialable : OnlyLive is_dialable
only_live-dialable s e = ap (λ (b : Bool). b && not (is_some s.until)) (connecting-shut s.state e)

pub only_live-at : (a : Address) → OnlyLive (is_live_at a)
only_live-at a s e = ap (λ (b : Bool). b && (s.address.ip == a.ip) && (s.address.port == a.port)) e

-- whether a live one is of an address
some_or : (b : Bool) (n : ℕ) (o : Option ℕ) (r : Bool) → is_some o ≡ r → is_some (cond b (Some n) o) ≡ (b || r)
some_or true n o r e = refl
some_or false n o r e = e

position-any : (p : SubRecord → Bool) (subs : List SubRecord) (n : ℕ) → is_some (position_from p n subs) ≡ list_any p subs
position-any p [] n = refl
position-any p (s ∷ subs) n = some_or (p s) n (position_from p (n + 1) subs) (list_any p subs) (position-any p subs (n + 1))

pub has_live-found : (subs : List SubRecord) (live : List ℕ) (a : Address) → live ≡ live_numbers 1 subs → is_some (find (passes (is_live_at a) subs) live) ≡ has_live subs a
has_live-found subs live a e =
    ap (λ (o : Option ℕ). is_some o) (find-live (is_live_at a) subs live (only_live-at a) e) ∙ position-any (is_live_at a) subs 1

-- the least moment
next-step : (subs rest : List SubRecord) (s : SubRecord) (n : ℕ) (b : Bool) → is_live s ≡ b → numbered subs n ≡ Some s → next_of_numbers subs (live_numbers (n + 1) rest) ≡ next_of_all rest → next_of_numbers subs (live_numbers n (s ∷ rest)) ≡ next_of_all (s ∷ rest)
next-step subs rest s n true live at next =
    ap (next_of_numbers subs) (live_numbers-live s rest n live) ∙ ap (λ (o : Option SubRecord). sooner (next_of_one o) (next_of_numbers subs (live_numbers (n + 1) rest))) at ∙ ap (sooner (next_of s)) next
next-step subs rest s n false shut at next =
    ap (next_of_numbers subs) (live_numbers-shut s rest n shut) ∙ next ∙ sym (ap (λ (o : Option ℕ). sooner o (next_of_all rest)) (next_of-shut s shut))

next-afterwards : (prefix rest : List SubRecord) (n : ℕ) → n ≡ length prefix + 1 → next_of_numbers (prefix ++ rest) (live_numbers n rest) ≡ next_of_all rest
next-afterwards prefix [] n e = refl
next-afterwards prefix (s ∷ rest) n e =
    let next : next_of_numbers ((prefix ++ s ∷ []) ++ rest) (live_numbers (n + 1) rest) ≡ next_of_all rest =
    next-afterwards (prefix ++ s ∷ []) rest (n + 1) (one-longer prefix s n e) in
    let moved : next_of_numbers (prefix ++ s ∷ rest) (live_numbers (n + 1) rest) ≡ next_of_all rest =
    subst (λ (xs : List SubRecord). next_of_numbers xs (live_numbers (n + 1) rest) ≡ next_of_all rest) (one-moved prefix rest s) next in
    next-step (prefix ++ s ∷ rest) rest s n (is_live s) refl (numbered-afterwards prefix rest s n e) moved

pub next-live : (subs : List SubRecord) (live : List ℕ) → live ≡ live_numbers 1 subs → next_of_numbers subs live ≡ next_of_all subs
next-live subs live e = ap (next_of_numbers subs) e ∙ next-afterwards [] subs 1 refl

-- a place of a list changed
pub set-changed : (f : SubRecord → SubRecord) (xs : List SubRecord) (i : ℕ) (x y : SubRecord) → i < length xs → x ≡ get_or xs i x → y ≡ f x → slice_set xs i y ≡ changed f xs i
set-changed f [] i x y h is new = absurd (omega arith)
set-changed f (s ∷ xs) zero x y h is new = ap (λ (z : SubRecord). z ∷ xs) (new ∙ ap f is)
set-changed f (s ∷ xs) (suc i) x y h is new = let g : i < length xs = omega arith in ap (λ (zs : List SubRecord). s ∷ zs) (set-changed f xs i x y g is new)

pub changed-past : (f : SubRecord → SubRecord) (xs : List SubRecord) (i : ℕ) → length xs ≤ i → changed f xs i ≡ xs
changed-past f [] i h = refl
changed-past f (s ∷ xs) zero h = absurd (omega arith)
changed-past f (s ∷ xs) (suc i) h = let g : length xs ≤ i = omega arith in ap (λ (zs : List SubRecord). s ∷ zs) (changed-past f xs i g)

pub length-changed : (f : SubRecord → SubRecord) (xs : List SubRecord) (i : ℕ) → length (changed f xs i) ≡ length xs
length-changed f [] i = refl
length-changed f (s ∷ xs) zero = refl
length-changed f (s ∷ xs) (suc i) = ap suc (length-changed f xs i)

-- a change at a number is one at the place before it
changed-number : (f : SubRecord → SubRecord) (xs : List SubRecord) (n : ℕ) → 1 ≤ n → changed f xs (n - 1) ≡ changed_at f xs n
changed-number f xs zero h = absurd (omega arith)
changed-number f xs (suc place) h = let e : suc place - 1 ≡ place = omega arith in ap (changed f xs) e

-- the subchannel of a number changed in its place
pub set-numbered : (f : SubRecord → SubRecord) (xs now : List SubRecord) (n : ℕ) (x y : SubRecord) → xs ≡ now → HasNumber now n → x ≡ get_or xs (n - 1) x → y ≡ f x → slice_set xs (n - 1) y ≡ changed_at f now n
set-numbered f xs now n x y same has is new =
    let a : 1 ≤ n = has.from_one in
    let b : n ≤ length now = has.within in
    let l : length xs ≡ length now = ap (λ (zs : List SubRecord). length zs) same in
    let inside : n - 1 < length xs = omega arith in
    set-changed f xs (n - 1) x y inside is new ∙ ap (λ (zs : List SubRecord). changed f zs (n - 1)) same ∙ changed-number f now n a

pub set-place : (f : SubRecord → SubRecord) (xs now : List SubRecord) (n : ℕ) (x y : SubRecord) → xs ≡ now → HasNumber now n → x ≡ get_or xs (n - 1) x → y ≡ f x → slice_set xs (n - 1) y ≡ changed f xs (n - 1)
set-place f xs now n x y same has is new =
    let a : 1 ≤ n = has.from_one in
    let b : n ≤ length now = has.within in
    let l : length xs ≡ length now = ap (λ (zs : List SubRecord). length zs) same in
    let inside : n - 1 < length xs = omega arith in
    set-changed f xs (n - 1) x y inside is new

-- the subchannel of a number read from its place
numbered-place : (xs : List SubRecord) (n place : ℕ) → n ≡ suc place → numbered xs n ≡ slice_get xs place
numbered-place xs n place e = ap (numbered xs) e

pub numbered-read : (xs now : List SubRecord) (n : ℕ) (x : SubRecord) → xs ≡ now → HasNumber now n → x ≡ get_or xs (n - 1) x → numbered now n ≡ Some x
numbered-read xs now n x same has is =
    let a : 1 ≤ n = has.from_one in
    let b : n ≤ length now = has.within in
    let l : length xs ≡ length now = ap (λ (zs : List SubRecord). length zs) same in
    let inside : n - 1 < length xs = omega arith in
    let e : n ≡ suc (n - 1) = omega arith in
    ap (λ (zs : List SubRecord). numbered zs n) (sym same) ∙ numbered-place xs n (n - 1) e ∙ slice_get_read xs (length xs) (n - 1) x refl inside is

-- a first number is one of the list
first_step : (b : Bool) (n k : ℕ) (o : Option ℕ) → cond b (Some n) o ≡ Some k → (n ≡ k) ⊎ (o ≡ Some k)
first_step true n k o e = inl (cc)
first_step false n k o e = inr e

position-within : (p : SubRecord → Bool) (subs : List SubRecord) (n k : ℕ) → position_from p n subs ≡ Some k → (n ≤ k) × (k + 1 ≤ n + length subs)
position-within p [] n k e = (cc)
position-within p (s ∷ subs) n k e =
    elim (first_step (p s) n k (position_from p (n + 1) subs) e) [ inl here ↦ (omega arith, omega arith) | inr later ↦ (let next : (n + 1 ≤ k) × (k + 1 ≤ n + 1 + length subs) = position-within p subs (n + 1) k later in (omega arith, omega arith)) ]

pub HasNumber-first : (p : SubRecord → Bool) (subs : List SubRecord) (k : ℕ) → first_number p subs ≡ Some k → HasNumber subs k
HasNumber-first p subs k e =
    let both : (1 ≤ k) × (k + 1 ≤ 1 + length subs) = position-within p subs 1 k e in
    record { from_one = both.0; within = omega arith }

-- the subchannel of a number after it changed
slice_get-set : (xs : List SubRecord) (i : ℕ) (y : SubRecord) → i < length xs → slice_get (slice_set xs i y) i ≡ Some y
slice_get-set [] i y h = absurd (omega arith)
slice_get-set (x ∷ xs) zero y h = refl
slice_get-set (x ∷ xs) (suc i) y h = let g : i < length xs = omega arith in slice_get-set xs i y g

pub numbered-set : (xs : List SubRecord) (n : ℕ) (y : SubRecord) → HasNumber xs n → numbered (slice_set xs (n - 1) y) n ≡ Some y
numbered-set xs n y has =
    let a : 1 ≤ n = has.from_one in
    let b : n ≤ length xs = has.within in
    let inside : n - 1 < length xs = omega arith in
    let e : n ≡ suc (n - 1) = omega arith in
    numbered-place (slice_set xs (n - 1) y) n (n - 1) e ∙ slice_get-set xs (n - 1) y inside

pub HasNumber-if : (p : SubRecord → Bool) (subs : List SubRecord) (o : Option ℕ) → o ≡ first_number p subs → IfSome o (λ n. HasNumber subs n)
HasNumber-if p subs None e = tt
HasNumber-if p subs (Some k) e = HasNumber-first p subs k (sym e)

-- a search through the live ones of a board
pub find-board : (p : SubRecord → Bool) (subs xs now : List SubRecord) (live ls : List ℕ) (found : Option ℕ) → OnlyLive p → ls ≡ live_numbers 1 xs → xs ≡ now → subs ≡ xs → live ≡ ls → found ≡ find (passes p subs) live → found ≡ first_number p now
find-board p subs xs now live ls found only numbers seen s l e =
    let all : live ≡ live_numbers 1 subs = l ∙ numbers ∙ ap (live_numbers 1) (sym s) in
    e ∙ find-live p subs live only all ∙ ap (first_number p) (s ∙ seen)

pub next-board : (subs xs now : List SubRecord) (live ls : List ℕ) (found : Option ℕ) → ls ≡ live_numbers 1 xs → xs ≡ now → subs ≡ xs → live ≡ ls → found ≡ next_of_numbers subs live → found ≡ next_of_all now
next-board subs xs now live ls found numbers seen s l e =
    let all : live ≡ live_numbers 1 subs = l ∙ numbers ∙ ap (live_numbers 1) (sym s) in
    e ∙ next-live subs live all ∙ ap (λ (zs : List SubRecord). next_of_all zs) (s ∙ seen)

-- the list after its first change
pub first_clocked-is : (moment : ℕ) (subs : List SubRecord) (n : ℕ) → Some n ≡ first_number (is_due moment) subs → first_clocked moment subs ≡ changed_at (clocked moment) subs n
first_clocked-is moment subs n e = ap (clocked_at moment subs) (sym e)
