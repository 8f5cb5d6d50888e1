-- Names are distinguished by their keys.
use Rattle.std.proofs.Common.{◌≡◌, ℕ, List, [], ◌∷◌, ◌++◌, refl, ap, ap₂, sym, subst, ◌∙◌, arith, Bool, true, false, drop, get_or, Vec, Global}
use Rattle.std.specs.Prelude.{◌||◌, ◌&&◌, not, if◌then◌else◌, Ok, Err}
use Rattle.std.specs.List.{list_any}
use Rattle.std.specs.Str.{bytes_eq}
use Rattle.std.specs.Ordering.{nat_cmp, is_eq}
use Rattle.std.specs.declared.cmp.Ordering.{Ordering}
use Rattle.std.specs.declared.cmp.Ordering.TheVariants.{Less, Equal, Greater}
use Rattle.std.specs.Cmp.Lexicographic.{slice_cmp}
use Rattle.std.specs.BTreeSet.{BTreeSet, contains, insert_key}
use Rattle.std.proofs.lemmas.Map.Text.{is_eq-slice_cmp}
use Rattle.std.proofs.lemmas.Slice.Eq.{bytes_eq-Decides}
use Rattle.service_config.specs.declared.config.Method.{Method}
use Rattle.service_config.specs.declared.entry.Settings.{Settings}
use Rattle.service_config.specs.Entries.{NameSeen, key_from, has_name, method_of, added}
use Rattle.config_values.specs.declared.place.Fault.TheVariants as fault
use Rattle.service_config.specs.Keys.{HasKeys}

-- equal keys are keys of equal names
key_parts : (s m t n : List ℕ) → key_from s m ≡ key_from t n → (s ≡ t) × (m ≡ n)
key_parts [] m [] n e = (refl, ap (λ (k : List ℕ). drop 1 k) e)
key_parts [] m (b ∷ t) n e = absurd (omega (arith, ap (λ (k : List ℕ). get_or k 0 0) e))
key_parts (b ∷ s) m [] n e = absurd (omega (arith, ap (λ (k : List ℕ). get_or k 0 0) e))
key_parts (b ∷ s) m (c ∷ t) n e =
    let rest = key_parts s m t n (ap (λ (k : List ℕ). drop 2 k) e) in
    (ap₂ (λ (x : ℕ) (y : List ℕ). x ∷ y) (ap (λ (k : List ℕ). get_or k 1 0) e) rest.0, rest.1)

same_tests : (a b : Bool) → (a ≡ true → b ≡ true) → (b ≡ true → a ≡ true) → a ≡ b
same_tests true b f g = sym (f refl)
same_tests false true f g = g refl
same_tests false false f g = refl

both : (a b : Bool) → (a && b) ≡ true → (a ≡ true) × (b ≡ true)
both true true e = (refl, refl)
both true false e = absurd (cc)
both false b e = absurd (cc)

one : (a b : Bool) → a ≡ true → b ≡ true → (a && b) ≡ true
one a b e f = ap₂ (λ (x y : Bool). x && y) e f

key_test : (s m t n : List ℕ) → bytes_eq (key_from t n) (key_from s m) ≡ (bytes_eq s t && bytes_eq m n)
key_test s m t n = same_tests _ _ there back
  where
    there : bytes_eq (key_from t n) (key_from s m) ≡ true → (bytes_eq s t && bytes_eq m n) ≡ true
    there e =
        let parts = key_parts t n s m ((bytes_eq-Decides (key_from t n) (key_from s m)).0 e) in
        one (bytes_eq s t) (bytes_eq m n) ((bytes_eq-Decides s t).1 (sym parts.0)) ((bytes_eq-Decides m n).1 (sym parts.1))

    back : (bytes_eq s t && bytes_eq m n) ≡ true → bytes_eq (key_from t n) (key_from s m) ≡ true
    back e =
        let tests = both (bytes_eq s t) (bytes_eq m n) e in
        (bytes_eq-Decides (key_from t n) (key_from s m)).1
        (sym (ap₂ (λ (x y : List ℕ). key_from x y) ((bytes_eq-Decides s t).0 tests.0) ((bytes_eq-Decides m n).0 tests.1)))

abbrev Key : Type 0
Key = Vec ℕ Global

abbrev key_cmp : Key → Key → Ordering
key_cmp x y = slice_cmp nat_cmp x.items y.items

any_same : (p q : Key → Bool) (xs : List Key) → ((x : Key) → p x ≡ q x) → list_any p xs ≡ list_any q xs
any_same p q [] h = refl
any_same p q (x ∷ xs) h = ap₂ (λ (a b : Bool). a || b) (h x) (any_same p q xs h)

or_turned : (a b c : Bool) → (a || (b || c)) ≡ (b || (a || c))
or_turned true true c = refl
or_turned true false c = refl
or_turned false b c = refl

or_twice : (a b c : Bool) → a ≡ b → (b || c) ≡ (a || (b || c))
or_twice true true c e = refl
or_twice false b c e = refl
or_twice true false c e = absurd (cc)

-- a key more in a set
any_inserted : (p : Key → Bool) (key : Key) → ((x : Key) → key_cmp key x ≡ Equal → p key ≡ p x) → (xs : List Key)
    → list_any p (insert_key key_cmp xs key) ≡ (p key || list_any p xs)
any_inserted p key h [] = refl
any_inserted p key h (x ∷ xs) = by (key_cmp key x) refl (any_inserted p key h xs)
  where
    by : (r : Ordering) → key_cmp key x ≡ r → list_any p (insert_key key_cmp xs key) ≡ (p key || list_any p xs)
        → list_any p (insert_key key_cmp (x ∷ xs) key) ≡ (p key || (p x || list_any p xs))
    by Less e rest = rw e refl
    by Equal e rest = rw e (or_twice (p key) (p x) (list_any p xs) (h x e))
    by Greater e rest = rw e (ap (λ (b : Bool). p x || b) rest ∙ or_turned (p x) (p key) (list_any p xs))

-- the set has the key exactly where the name stands among the methods
pub is_known : (set : BTreeSet Key) (ms : List Method) (key : Key) (s m : List ℕ) → HasKeys set.keys ms → key.items ≡ key_from s m
    → contains key_cmp set key ≡ has_name (s, m) ms
is_known set ms key s m h e =
    any_same (λ k. is_eq (key_cmp key k)) (λ k. bytes_eq (key_from s m) k.items) set.keys
    (λ k. is_eq-slice_cmp key.items k.items ∙ ap (λ (t : List ℕ). bytes_eq t k.items) e) ∙ h s m

any_last : (p : Method → Bool) (ms : List Method) (m : Method) → list_any p (ms ++ m ∷ []) ≡ (p m || list_any p ms)
any_last p [] m = refl
any_last p (x ∷ ms) m = ap (λ (b : Bool). p x || b) (any_last p ms m) ∙ or_turned (p x) (p m) (list_any p ms)

pub knows_more : (old new : List Key) (ms : List Method) (key : Key) (n : NameSeen) (st : Settings) → HasKeys old ms
    → key.items ≡ key_from n.0 n.1 → new ≡ insert_key key_cmp old key → HasKeys new (ms ++ method_of n st ∷ [])
knows_more old new ms key n st h e f s m =
    ap (λ (ks : List Key). list_any test ks) f
    ∙ any_inserted test key same old
    ∙ ap₂ (λ (a b : Bool). a || b) (ap (λ (t : List ℕ). bytes_eq (key_from s m) t) e ∙ key_test n.0 n.1 s m) (h s m)
    ∙ sym (any_last (λ x. bytes_eq x.service s && bytes_eq x.method m) ms (method_of n st))
  where
    test : Key → Bool
    test k = bytes_eq (key_from s m) k.items

    same : (x : Key) → key_cmp key x ≡ Equal → test key ≡ test x
    same x g = ap (λ (t : List ℕ). bytes_eq (key_from s m) t) ((bytes_eq-Decides key.items x.items).0 (sym (is_eq-slice_cmp key.items x.items) ∙ ap is_eq g))

pub knows_after : (old : BTreeSet Key) (new : List Key) (ms pushed : List Method) (m : Method) (key : Key) (n : NameSeen) (st : Settings) → HasKeys old.keys ms
    → key.items ≡ key_from n.0 n.1 → new ≡ insert_key key_cmp old.keys key → m ≡ method_of n st → pushed ≡ ms ++ m ∷ [] → HasKeys new pushed
knows_after old new ms pushed m key n st h e f g p =
    subst (λ (x : List Method). HasKeys new x) (sym (p ∙ ap (λ (x : Method). ms ++ x ∷ []) g)) (knows_more old.keys new ms key n st h e f)

pub repeated : (set : BTreeSet Key) (ms : List Method) (key : Key) (n : NameSeen) (new : Bool) (i j : ℕ) (st : Settings) → HasKeys set.keys ms
    → key.items ≡ key_from n.0 n.1 → new ≡ not (contains key_cmp set key) → new ≡ false → added i j st ms n ≡ Err (fault.RepeatedName i j)
repeated set ms key n new i j st h e f g = by (has_name n ms) (f ∙ ap not (is_known set ms key n.0 n.1 h e))
  where
    by : (b : Bool) → new ≡ not b → (if b then Err (fault.RepeatedName i j) else Ok (ms ++ method_of n st ∷ [])) ≡ Err (fault.RepeatedName i j)
    by true k = refl
    by false k = absurd (cc)

pub fresh : (set : BTreeSet Key) (ms pushed : List Method) (m : Method) (key : Key) (n : NameSeen) (new : Bool) (i j : ℕ) (st : Settings) → HasKeys set.keys ms
    → key.items ≡ key_from n.0 n.1 → new ≡ not (contains key_cmp set key) → new ≡ true → m ≡ method_of n st → pushed ≡ ms ++ m ∷ []
    → added i j st ms n ≡ Ok pushed
fresh set ms pushed m key n new i j st h e f g k p = by (has_name n ms) (f ∙ ap not (is_known set ms key n.0 n.1 h e))
  where
    by : (b : Bool) → new ≡ not b → (if b then Err (fault.RepeatedName i j) else Ok (ms ++ method_of n st ∷ [])) ≡ Ok pushed
    by true q = absurd (cc)
    by false q = ap (λ (x : List Method). Ok x) (sym (p ∙ ap (λ (x : Method). ms ++ x ∷ []) k))
