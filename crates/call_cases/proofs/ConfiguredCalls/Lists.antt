-- Lists by their elements, and the buckets of configs.
use Rattle.std.proofs.Common.{◌≡◌, ◌∙◌, ◌&&◌, ◌==◌, ◌∷◌, Bool, true, false, List, [], Option, None, Some, ℕ, zero, suc, ap, arith, refl, sym, if◌then◌else◌, length, map, take, slice_get, slice_set}
use Rattle.std.proofs.lemmas.Bool.{and_parts}
use Rattle.std.proofs.lemmas.Bool.Decides.{nat_tests}
use Rattle.std.specs.List.{list_all}
use Rattle.channel_actions.specs.Clock.{DrawsAlike}
use Rattle.channel_actions.specs.Configs.{is_same_run, runs_after, runs_in_turn}
use Rattle.channel_core.specs.States.{StateSeen}
use Rattle.channel_core.specs.Tables as channel
use Rattle.session_actions.specs.Words.{changed, changed_if, last_of, numbered}
use Rattle.session_actions.specs.declared.config.HeldConfig.{HeldConfig}
use Rattle.session_actions.specs.declared.entry.OpenEntry.{OpenEntry}

-- in the words of channel and session
pub same_words : {X : Type 0} (xs : List X) (n : ℕ) → channel.numbered xs n ≡ numbered xs n
same_words xs zero = refl
same_words xs (suc n) = refl

-- two lists with the same elements are one
pub same_list : {X : Type 0} (xs ys : List X) → ((i : ℕ) → slice_get xs i ≡ slice_get ys i) → xs ≡ ys
same_list [] [] same = refl
same_list [] (y ∷ ys) same = absurd (let bad : None ≡ Some y = same zero in (cc))
same_list (x ∷ xs) [] same = absurd (let bad : Some x ≡ None = same zero in (cc))
same_list (x ∷ xs) (y ∷ ys) same =
    let one : Some x ≡ Some y = same zero in
    let head : x ≡ y = (cc) in
    ap (λ (z : _). z ∷ xs) head ∙ ap (λ (l : List _). y ∷ l) (same_list xs ys (λ i. same (suc i)))

pub same_numbered : {X : Type 0} (xs ys : List X) → ((n : ℕ) → numbered xs n ≡ numbered ys n) → xs ≡ ys
same_numbered xs ys same = same_list xs ys (λ i. same (suc i))

pub set_length : {X : Type 0} (xs : List X) (k : ℕ) (v : X) → length (slice_set xs k v) ≡ length xs
set_length [] k v = refl
set_length (x ∷ xs) zero v = refl
set_length (x ∷ xs) (suc k) v = ap suc (set_length xs k v)

length_by : {X : Type 0} (f : X → X) (n : ℕ) (xs : List X) (o : Option X) → length (changed_if f n xs o) ≡ length xs
length_by f n xs None = refl
length_by f n xs (Some x) = set_length xs _ (f x)

pub changed_length : {X : Type 0} (f : X → X) (n : ℕ) (xs : List X) → length (changed f n xs) ≡ length xs
changed_length f n xs = length_by f n xs (numbered xs n)

pub equal_numbers : (n m : ℕ) → (n == m) ≡ true → n ≡ m
equal_numbers n m e = grind (arith, nat_tests)

pub other_numbers : (n m : ℕ) → (n == m) ≡ false → n ≡ m → ⊥
other_numbers n m e f = grind (arith, nat_tests)

pub same_number : (n : ℕ) → (n == n) ≡ true
same_number n = grind (arith, nat_tests)

-- the words of an entry
pub draws_same : (c : Option OpenEntry) (x y : StateSeen) → y.word ≡ x.word → y.drawn ≡ x.drawn → DrawsAlike c x → DrawsAlike c y
draws_same None x y e f h = tt
draws_same (Some o) x y e f h = (h.0 ∙ sym e, f ∙ h.1)

-- the last bucket is that of the last config
run_same : (a b : Option ℕ) → is_same_run a b ≡ true → a ≡ b
run_same None None e = refl
run_same None (Some n) e = absurd (cc)
run_same (Some m) None e = absurd (cc)
run_same (Some m) (Some n) e = ap (λ (k : ℕ). Some k) (equal_numbers m n e)

abbrev pub last_run_from : Option ℕ → List HeldConfig → Option ℕ
last_run_from run [] = run
last_run_from run (h ∷ configs) = last_run_from h.run configs

module _ {Y : Type 0} (f : Option ℕ → Y) where
  last_by : (run : Option ℕ) (h : HeldConfig) (configs : List HeldConfig) (b : Bool) → is_same_run run h.run ≡ b
      → ((r : Option ℕ) → slice_get (map f (r ∷ runs_after r configs)) (length (runs_after r configs)) ≡ Some (f (last_run_from r configs)))
      → slice_get (map f (run ∷ (if b then runs_after run configs else h.run ∷ runs_after h.run configs))) (length (if b then runs_after run configs else h.run ∷ runs_after h.run configs))
      ≡ Some (f (last_run_from h.run configs))
  last_by run h configs true e more = more run ∙ ap (λ (r : Option ℕ). Some (f (last_run_from r configs))) (run_same run h.run e)
  last_by run h configs false e more = more h.run

  last_after : (configs : List HeldConfig) (run : Option ℕ) → slice_get (map f (run ∷ runs_after run configs)) (length (runs_after run configs)) ≡ Some (f (last_run_from run configs))
  last_after [] run = refl
  last_after (h ∷ configs) run = last_by run h configs (is_same_run run h.run) refl (last_after configs)

last_one : (h : HeldConfig) (configs : List HeldConfig) (g : HeldConfig) → slice_get (h ∷ configs) (length configs) ≡ Some g → last_run_from h.run configs ≡ g.run
last_one h [] g e = let one : h ≡ g = (cc) in ap (λ (k : HeldConfig). k.run) one
last_one h (k ∷ configs) g e = last_one k configs g e

-- of a list of buckets after that of calls without a config
pub last_bucket : {Y : Type 0} (f : Option ℕ → Y) (none : Y) (configs : List HeldConfig) (g : HeldConfig) → last_of configs ≡ Some g
    → slice_get (none ∷ map f (runs_in_turn configs)) (length (runs_in_turn configs)) ≡ Some (f g.run)
last_bucket f none [] g e = absurd (cc)
last_bucket f none (h ∷ configs) g e =
    last_after f configs h.run ∙ ap (λ (r : Option ℕ). Some (f r)) (last_one h configs g e)

pub take_all : {X : Type 0} (xs : List X) → take (length xs) xs ≡ xs
take_all [] = refl
take_all (x ∷ xs) = ap (λ (l : List _). x ∷ l) (take_all xs)

pub map_length : {X Y : Type 0} (f : X → Y) (xs : List X) → length (map f xs) ≡ length xs
map_length f [] = refl
map_length f (x ∷ xs) = ap suc (map_length f xs)

-- each of a list
all_weaker : {X : Type 0} (p q : X → Bool) → ((x : X) → p x ≡ true → q x ≡ true) → (xs : List X) → list_all p xs ≡ true → list_all q xs ≡ true
all_weaker p q weaker [] h = refl
all_weaker p q weaker (x ∷ xs) h =
    let both = and_parts (p x) (list_all p xs) h in
    ap (λ (b : Bool). b && list_all q xs) (weaker x both.0) ∙ all_weaker p q weaker xs both.1

pub all_also : {X : Type 0} (p q : X → Bool) → ((x : X) → p x ≡ true → q x ≡ true) → (xs : List X) → list_all p xs ≡ true → list_all q xs ≡ true
all_also p q weaker xs h = all_weaker p q weaker xs h
