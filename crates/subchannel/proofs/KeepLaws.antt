-- What keeping two lists of addresses does to the list and to the numbers of its live ones.
use Rattle.std.proofs.Common.{◌≡◌, ℕ, zero, suc, ◌+◌, ◌≤◌, Bool, true, false, ◌&&◌, ◌||◌, not, if◌then◌else◌, cond, List, [], ◌∷◌, ◌++◌, length, map, filter, Some, refl, ap, sym, subst, ◌∙◌, arith, length-append, append_assoc}
use Rattle.std.proofs.lemmas.List.{length-map}
use Rattle.grpc_base.specs.declared.address.Address.{Address}
use Rattle.grpc_base.specs.Addresses.{has_address}
use Rattle.subchannel.specs.Records.{SubRecord, is_live, new_sub, shut_down}
use Rattle.subchannel.specs.Boards.{numbered, changed, changed_at, kept_or_shut, kept, lacking}
use Rattle.subchannel.specs.Insides.{live_numbers, stays, numbers_from, kept_numbers, IsBoard, made_limit}
use Rattle.subchannel.specs.Boards.{passes, passes_test}
use Rattle.subchannel.proofs.NumberLaws.{numbered-afterwards, one-moved, one-longer, live_numbers-live, live_numbers-shut, length-changed}

-- which ones are live afterwards
live-kept : (s : SubRecord) (live wanted : Bool) → is_live s ≡ live → is_live (if live && not wanted then shut_down s else s) ≡ (live && wanted)
live-kept s true true e = e
live-kept s true false e = refl
live-kept s false wanted e = e

pub is_live-kept : (current pending : List Address) (s : SubRecord) → is_live (kept_or_shut current pending s) ≡ stays current pending s
is_live-kept current pending s =
    live-kept s (is_live s) (has_address current s.address || has_address pending s.address) refl

kept_or_shut-shut : (current pending : List Address) (s : SubRecord) → is_live s ≡ false → kept_or_shut current pending s ≡ s
kept_or_shut-shut current pending s e =
    ap (λ (b : Bool). if b && not (has_address current s.address || has_address pending s.address) then shut_down s else s) e

-- what a place after a prefix becomes
changed-afterwards : (f : SubRecord → SubRecord) (prefix rest : List SubRecord) (s : SubRecord) → changed f (prefix ++ s ∷ rest) (length prefix) ≡ prefix ++ f s ∷ rest
changed-afterwards f [] rest s = refl
changed-afterwards f (x ∷ prefix) rest s = ap (λ (zs : List SubRecord). x ∷ zs) (changed-afterwards f prefix rest s)

changed_at-afterwards : (f : SubRecord → SubRecord) (prefix rest : List SubRecord) (s : SubRecord) (n : ℕ) → n ≡ length prefix + 1 → changed_at f (prefix ++ s ∷ rest) n ≡ prefix ++ f s ∷ rest
changed_at-afterwards f prefix rest s n e =
    let number : n ≡ suc (length prefix) = omega arith in
    ap (changed_at f (prefix ++ s ∷ rest)) number ∙ changed-afterwards f prefix rest s

-- looking at the live ones is looking at all
module _ (current pending : List Address) where
  by_live : (prefix rest tail : List SubRecord) (s : SubRecord) (n : ℕ) (b : Bool) → is_live s ≡ b → n ≡ length prefix + 1 → kept_numbers current pending (live_numbers (n + 1) rest) (prefix ++ kept_or_shut current pending s ∷ (rest ++ tail)) ≡ prefix ++ kept_or_shut current pending s ∷ (map (kept_or_shut current pending) rest ++ tail) → kept_numbers current pending (live_numbers n (s ∷ rest)) (prefix ++ s ∷ (rest ++ tail)) ≡ prefix ++ kept_or_shut current pending s ∷ (map (kept_or_shut current pending) rest ++ tail)
  by_live prefix rest tail s n true live e moved =
      ap (λ (ns : List ℕ). kept_numbers current pending ns (prefix ++ s ∷ (rest ++ tail))) (live_numbers-live s rest n live) ∙ ap (kept_numbers current pending (live_numbers (n + 1) rest)) (changed_at-afterwards (kept_or_shut current pending) prefix (rest ++ tail) s n e) ∙ moved
  by_live prefix rest tail s n false shut e moved =
      ap (λ (ns : List ℕ). kept_numbers current pending ns (prefix ++ s ∷ (rest ++ tail))) (live_numbers-shut s rest n shut) ∙ ap (λ (t : SubRecord). kept_numbers current pending (live_numbers (n + 1) rest) (prefix ++ t ∷ (rest ++ tail))) (sym (kept_or_shut-shut current pending s shut)) ∙ moved

  numbers-afterwards : (prefix rest tail : List SubRecord) (n : ℕ) → n ≡ length prefix + 1 → kept_numbers current pending (live_numbers n rest) (prefix ++ (rest ++ tail)) ≡ prefix ++ (map (kept_or_shut current pending) rest ++ tail)
  numbers-afterwards prefix [] tail n e = refl
  numbers-afterwards prefix (s ∷ rest) tail n e =
      let f : SubRecord → SubRecord = kept_or_shut current pending in
      let next : kept_numbers current pending (live_numbers (n + 1) rest) ((prefix ++ f s ∷ []) ++ (rest ++ tail)) ≡ (prefix ++ f s ∷ []) ++ (map f rest ++ tail) =
      numbers-afterwards (prefix ++ f s ∷ []) rest tail (n + 1) (one-longer prefix (f s) n e) in
      let moved : kept_numbers current pending (live_numbers (n + 1) rest) (prefix ++ f s ∷ (rest ++ tail)) ≡ prefix ++ f s ∷ (map f rest ++ tail) =
      ap (kept_numbers current pending (live_numbers (n + 1) rest)) (sym (one-moved prefix (rest ++ tail) (f s))) ∙ next ∙ one-moved prefix (map f rest ++ tail) (f s) in
      by_live prefix rest tail s n (is_live s) refl e moved

  pub kept_numbers-live : (subs tail : List SubRecord) (live : List ℕ) → live ≡ live_numbers 1 subs → kept_numbers current pending live (subs ++ tail) ≡ map (kept_or_shut current pending) subs ++ tail
  kept_numbers-live subs tail live e = ap (λ (ns : List ℕ). kept_numbers current pending ns (subs ++ tail)) e ∙ numbers-afterwards [] subs tail 1 refl

-- the numbers that stay live
filter-prefix : (p : ℕ → Bool) (n : ℕ) (ns : List ℕ) (b : Bool) → p n ≡ b → filter p (n ∷ ns) ≡ cond b (n ∷ filter p ns) (filter p ns)
filter-prefix p n ns b e = ap (λ (t : Bool). cond t (n ∷ filter p ns) (filter p ns)) e

module _ (current pending : List Address) where
  staying-step : (subs rest : List SubRecord) (s : SubRecord) (n : ℕ) (b : Bool) → is_live s ≡ b → numbered subs n ≡ Some s → live_numbers (n + 1) (map (kept_or_shut current pending) rest) ≡ filter (passes (stays current pending) subs) (live_numbers (n + 1) rest) → live_numbers n (map (kept_or_shut current pending) (s ∷ rest)) ≡ filter (passes (stays current pending) subs) (live_numbers n (s ∷ rest))
  staying-step subs rest s n true live at next =
      let f : SubRecord → SubRecord = kept_or_shut current pending in
      let p : ℕ → Bool = passes (stays current pending) subs in
      ap (λ (t : Bool). if t then n ∷ live_numbers (n + 1) (map f rest) else live_numbers (n + 1) (map f rest)) (is_live-kept current pending s) ∙ ap (λ (ns : List ℕ). cond (stays current pending s) (n ∷ ns) ns) next ∙ sym (ap (filter p) (live_numbers-live s rest n live) ∙ filter-prefix p n (live_numbers (n + 1) rest) (stays current pending s) (ap (passes_test (stays current pending)) at))
  staying-step subs rest s n false shut at next =
      let f : SubRecord → SubRecord = kept_or_shut current pending in
      let same : is_live (f s) ≡ false = ap (λ (t : SubRecord). is_live t) (kept_or_shut-shut current pending s shut) ∙ shut in
      live_numbers-shut (f s) (map f rest) n same ∙ next ∙ sym (ap (filter (passes (stays current pending) subs)) (live_numbers-shut s rest n shut))

  staying-afterwards : (prefix rest : List SubRecord) (n : ℕ) → n ≡ length prefix + 1 → live_numbers n (map (kept_or_shut current pending) rest) ≡ filter (passes (stays current pending) (prefix ++ rest)) (live_numbers n rest)
  staying-afterwards prefix [] n e = refl
  staying-afterwards prefix (s ∷ rest) n e =
      let next : live_numbers (n + 1) (map (kept_or_shut current pending) rest) ≡ filter (passes (stays current pending) ((prefix ++ s ∷ []) ++ rest)) (live_numbers (n + 1) rest) =
      staying-afterwards (prefix ++ s ∷ []) rest (n + 1) (one-longer prefix s n e) in
      let moved : live_numbers (n + 1) (map (kept_or_shut current pending) rest) ≡ filter (passes (stays current pending) (prefix ++ s ∷ rest)) (live_numbers (n + 1) rest) =
      subst (λ (xs : List SubRecord). live_numbers (n + 1) (map (kept_or_shut current pending) rest) ≡ filter (passes (stays current pending) xs) (live_numbers (n + 1) rest)) (one-moved prefix rest s) next in
      staying-step (prefix ++ s ∷ rest) rest s n (is_live s) refl (numbered-afterwards prefix rest s n e) moved

  pub staying-live : (subs : List SubRecord) (live : List ℕ) → live ≡ live_numbers 1 subs → filter (passes (stays current pending) subs) live ≡ live_numbers 1 (map (kept_or_shut current pending) subs)
  staying-live subs live e = ap (filter (passes (stays current pending) subs)) e ∙ sym (staying-afterwards [] subs 1 refl)

-- the numbers of new ones after
new_numbers : (n : ℕ) (addresses : List Address) → live_numbers n (map new_sub addresses) ≡ numbers_from n (length addresses)
new_numbers n [] = refl
new_numbers n (a ∷ addresses) = ap (λ (ns : List ℕ). n ∷ ns) (new_numbers (n + 1) addresses)

if_append : (b : Bool) (n : ℕ) (xs ys : List ℕ) → (if b then n ∷ xs ++ ys else xs ++ ys) ≡ (if b then n ∷ xs else xs) ++ ys
if_append true n xs ys = refl
if_append false n xs ys = refl

numbers-append : (n : ℕ) (xs ys : List SubRecord) → live_numbers n (xs ++ ys) ≡ live_numbers n xs ++ live_numbers (n + length xs) ys
numbers-append n [] ys = let e : n ≡ n + 0 = omega arith in ap (λ (k : ℕ). live_numbers k ys) e
numbers-append n (s ∷ xs) ys =
    let e : n + 1 + length xs ≡ n + length (s ∷ xs) = omega arith in
    let next : live_numbers (n + 1) (xs ++ ys) ≡ live_numbers (n + 1) xs ++ live_numbers (n + length (s ∷ xs)) ys =
    numbers-append (n + 1) xs ys ∙ ap (λ (k : ℕ). live_numbers (n + 1) xs ++ live_numbers k ys) e in
    ap (λ (ns : List ℕ). if is_live s then n ∷ ns else ns) next ∙ if_append (is_live s) n (live_numbers (n + 1) xs) (live_numbers (n + length (s ∷ xs)) ys)

-- the numbers after two lists are kept
pub numbers-kept : (current pending : List Address) (subs : List SubRecord) (live : List ℕ) (added : List Address) → live ≡ live_numbers 1 subs → filter (passes (stays current pending) subs) live ++ numbers_from (length subs + 1) (length added) ≡ live_numbers 1 (map (kept_or_shut current pending) subs ++ map new_sub added)
numbers-kept current pending subs live added e =
    let f : SubRecord → SubRecord = kept_or_shut current pending in
    let same : length (map f subs) ≡ length subs = length-map subs f in
    let first : length subs + 1 ≡ 1 + length (map f subs) = omega arith in
    ap (λ (ns : List ℕ). ns ++ numbers_from (length subs + 1) (length added)) (staying-live current pending subs live e) ∙ ap (λ (ns : List ℕ). live_numbers 1 (map f subs) ++ ns) (ap (λ (k : ℕ). numbers_from k (length added)) first ∙ sym (new_numbers (1 + length (map f subs)) added)) ∙ sym (numbers-append 1 (map f subs) (map new_sub added))

-- so many numbers, one more
numbers_from-more : (n count : ℕ) → numbers_from n (count + 1) ≡ numbers_from n count ++ (n + count) ∷ []
numbers_from-more n zero = let e : n ≡ n + 0 = omega arith in ap (λ (k : ℕ). k ∷ []) e
numbers_from-more n (suc count) =
    let more : suc count + 1 ≡ suc (count + 1) = omega arith in
    let last : n + 1 + count ≡ n + suc count = omega arith in
    ap (numbers_from n) more ∙ ap (λ (ns : List ℕ). n ∷ ns) (numbers_from-more (n + 1) count ∙ ap (λ (k : ℕ). numbers_from (n + 1) count ++ k ∷ []) last)

pub numbers-pushed : (prefix numbers after : List ℕ) (n count next : ℕ) → numbers ≡ prefix ++ numbers_from n count → after ≡ numbers ++ next ∷ [] → next ≡ n + count → after ≡ prefix ++ numbers_from n (count + 1)
numbers-pushed prefix numbers after n count next e pushed same =
    pushed ∙ ap (λ (ns : List ℕ). ns ++ next ∷ []) e ∙ append_assoc prefix (numbers_from n count) (next ∷ []) ∙ ap (λ (ns : List ℕ). prefix ++ ns) (ap (λ (k : ℕ). numbers_from n count ++ k ∷ []) same ∙ sym (numbers_from-more n count))

-- what a board keeps after two lists were kept
pub IsBoard-kept : (current pending : List Address) (subs : List SubRecord) (live : List ℕ) → IsBoard live subs → (after : List ℕ) (made : List SubRecord) → made ≡ kept current pending subs → length made ≤ made_limit → after ≡ filter (passes (stays current pending) subs) live ++ numbers_from (length subs + 1) (length (lacking subs [] current ++ lacking subs current pending)) → IsBoard after made
IsBoard-kept current pending subs live board after made e within same = record {
  numbers = same ∙ numbers-kept current pending subs live (lacking subs [] current ++ lacking subs current pending) board.numbers ∙ ap (live_numbers 1) (sym e);
  within = within;
}

-- what a call keeps of each subchannel
abbrev pub KeepsLive : (SubRecord → SubRecord) → Type 0
KeepsLive f = (s : SubRecord) → is_live (f s) ≡ is_live s

numbers-changed : (f : SubRecord → SubRecord) (subs : List SubRecord) (n place : ℕ) → KeepsLive f → live_numbers n (changed f subs place) ≡ live_numbers n subs
numbers-changed f [] n place keeps = refl
numbers-changed f (s ∷ subs) n zero keeps =
    ap (λ (b : Bool). if b then n ∷ live_numbers (n + 1) subs else live_numbers (n + 1) subs) (keeps s)
numbers-changed f (s ∷ subs) n (suc place) keeps =
    ap (λ (ns : List ℕ). if is_live s then n ∷ ns else ns) (numbers-changed f subs (n + 1) place keeps)

pub IsBoard-changed : (f : SubRecord → SubRecord) (subs made : List SubRecord) (live : List ℕ) (place : ℕ) → KeepsLive f → IsBoard live subs → made ≡ changed f subs place → IsBoard live made
IsBoard-changed f subs made live place keeps board e =
    let same : length made ≡ length subs = ap (λ (xs : List SubRecord). length xs) e ∙ length-changed f subs place in
    let bound : length subs ≤ made_limit = board.within in
    record {
      numbers = board.numbers ∙ sym (numbers-changed f subs 1 place keeps) ∙ ap (live_numbers 1) (sym e);
      within = omega arith;
    }

-- the list that was made is the one that is kept
pub kept-made : (current pending : List Address) (subs seen : List SubRecord) (numbers live : List ℕ) (added grown made : List SubRecord) → live ≡ live_numbers 1 subs → seen ≡ subs → numbers ≡ live → added ≡ map new_sub (lacking seen [] current ++ lacking seen current pending) → grown ≡ subs ++ added → made ≡ kept_numbers current pending numbers grown → made ≡ kept current pending subs
kept-made current pending subs seen numbers live added grown made l s n a g m =
    m ∙ ap (kept_numbers current pending numbers) g ∙ kept_numbers-live current pending subs added numbers (n ∙ l) ∙ ap (λ (xs : List SubRecord). map (kept_or_shut current pending) subs ++ xs) (a ∙ ap (λ (xs : List SubRecord). map new_sub (lacking xs [] current ++ lacking xs current pending)) s)

-- how many there are then
pub length-kept : (current pending : List Address) (subs seen added made : List SubRecord) → made ≡ kept current pending subs → seen ≡ subs → added ≡ map new_sub (lacking seen [] current ++ lacking seen current pending) → length made ≡ length subs + length added
length-kept current pending subs seen added made e s a =
    let f : SubRecord → SubRecord = kept_or_shut current pending in
    let new : List SubRecord = map new_sub (lacking subs [] current ++ lacking subs current pending) in
    let same : added ≡ new = a ∙ ap (λ (xs : List SubRecord). map new_sub (lacking xs [] current ++ lacking xs current pending)) s in
    ap (λ (xs : List SubRecord). length xs) e ∙ length-append (map f subs) new ∙ ap (λ (k : ℕ). k + length new) (length-map subs f) ∙ ap (λ (xs : List SubRecord). length subs + length xs) (sym same)

-- the numbers that were made are those that are kept
pub numbers-after : (current pending : List Address) (subs seen looked : List SubRecord) (numbers live after : List ℕ) (added : List SubRecord) (count : ℕ) → seen ≡ subs → looked ≡ subs → numbers ≡ live → added ≡ map new_sub (lacking seen [] current ++ lacking seen current pending) → count ≡ length added → after ≡ filter (passes (stays current pending) looked) numbers ++ numbers_from (length looked + 1) count → after ≡ filter (passes (stays current pending) subs) live ++ numbers_from (length subs + 1) (length (lacking subs [] current ++ lacking subs current pending))
numbers-after current pending subs seen looked numbers live after added count s k n a c e =
    let lacks : List SubRecord → List Address = λ (xs : List SubRecord). lacking xs [] current ++ lacking xs current pending in
    let many : count ≡ length (lacks subs) =
    c ∙ ap (λ (xs : List SubRecord). length xs) a ∙ length-map (lacks seen) new_sub ∙ ap (λ (xs : List SubRecord). length (lacks xs)) s in
    e ∙ ap (λ (xs : List SubRecord). filter (passes (stays current pending) xs) numbers ++ numbers_from (length xs + 1) count) k ∙ ap (λ (ns : List ℕ). filter (passes (stays current pending) subs) ns ++ numbers_from (length subs + 1) count) n ∙ ap (λ (m : ℕ). filter (passes (stays current pending) subs) live ++ numbers_from (length subs + 1) m) many
