-- A text is a path exactly if it has the two names of one.
use Rattle.std.proofs.Common.{◌≡◌, ℕ, ◌<◌, ◌≤◌, Bool, true, false, ◌&&◌, ◌==◌, nat_le, nat_lt, if◌then◌else◌, Option, Some, None, is_some, option_map, List, [], ◌∷◌, ◌++◌, length, All, refl, sym, ap, ◌∙◌, arith}
use Rattle.std.proofs.lemmas.Bool.Decides.{nat_tests}
use Rattle.std.proofs.lemmas.List.Splits.{join_with_byte-slice_split, length-slice_split}
use Rattle.std.proofs.lemmas.List.Sums.{AllPass-from_list_all, list_all-from_AllPass}
use Rattle.std.specs.List.{AllPass, join_with_byte, list_all}
use Rattle.grpc_base.specs.Limits.{path_limit}
use Rattle.grpc_base.specs.Pieces.{pieces}
use Rattle.grpc_base.specs.Requests.{IsName, IsNameByte, IsPath, is_name, is_name_byte, names_of_path, names_of_pieces}
use Rattle.grpc_base.proofs.PieceLaws.{pieces-parted, pieces-whole}

-- the two readings of a name are one
byte_passes : (b : ℕ) → IsNameByte b → is_name_byte b ≡ true
byte_passes b is =
    let low : 33 ≤ b = is.visible in
    let high : b ≤ 126 = is.ascii in
    let other : b ≡ 47 → ⊥ = is.no_slash in
    grind (arith, nat_tests)

byte_is : (b : ℕ) → is_name_byte b ≡ true → IsNameByte b
byte_is b t = record { visible = grind (arith, nat_tests); ascii = grind (arith, nat_tests); no_slash = λ e. grind (arith, nat_tests) }

some_length : (x : ℕ) (xs : List ℕ) → nat_lt 0 (length (x ∷ xs)) ≡ true
some_length x xs = grind (arith, nat_tests)

name_passes : (name : List ℕ) → IsName name → is_name name ≡ true
name_passes [] is = absurd (is.not_empty refl)
name_passes (x ∷ xs) is =
    ap (λ b. b && list_all is_name_byte (x ∷ xs)) (some_length x xs)
    ∙ list_all-from_AllPass is_name_byte (x ∷ xs) (λ k d h. byte_passes _ (is.visible k d h))

name_bytes : (p q : Bool) → (p && q) ≡ true → q ≡ true
name_bytes true q e = e
name_bytes false q e = absurd (cc)

name_is : (name : List ℕ) → is_name name ≡ true → IsName name
name_is [] t = absurd (cc)
name_is (x ∷ xs) t =
    let bytes : AllPass is_name_byte (x ∷ xs) = AllPass-from_list_all is_name_byte (x ∷ xs) (name_bytes (nat_lt 0 (length (x ∷ xs))) (list_all is_name_byte (x ∷ xs)) t) in
    record { not_empty = λ e. (cc); visible = λ k d h. byte_is _ (bytes k d h) }

-- the pieces of a path
no_slash : (name : List ℕ) → IsName name → All (λ b. b ≡ 47 → ⊥) name
no_slash name is = λ k d h. (is.visible k d h).no_slash

path_pieces : (service method : List ℕ) → IsName service → IsName method → pieces 47 (47 ∷ service ++ 47 ∷ method) ≡ [] ∷ service ∷ method ∷ []
path_pieces service method s m =
    pieces-parted 47 _ [] (service ++ 47 ∷ method) refl (λ k d h. absurd (omega arith))
    ∙ ap (λ (ps : List (List ℕ)). [] ∷ ps) (pieces-parted 47 _ service method refl (no_slash service s) ∙ ap (λ (ps : List (List ℕ)). service ∷ ps) (pieces-whole 47 method (no_slash method m)))

both_named : (service method : List ℕ) (p q : Bool) → p ≡ true → q ≡ true → is_some {T = List ℕ × List ℕ} (if true && p && q then Some (service, method) else None) ≡ true
both_named service method p q s m = rw (s, m) refl

within_passes : (n m : ℕ) → n ≤ m → nat_le n m ≡ true
within_passes n m h = grind (arith, nat_tests)

when : (b : Bool) (o : Option (List ℕ × List ℕ)) → b ≡ true → is_some o ≡ true → is_some (if b then o else None) ≡ true
when true o t some = some
when false o t some = absurd (cc)

path_has_names : (path : List ℕ) → IsPath path → is_some (names_of_path path) ≡ true
path_has_names path is =
    let parts : pieces 47 path ≡ [] ∷ is.service ∷ is.method ∷ [] = ap (pieces 47) is.joined ∙ path_pieces is.service is.method is.service_is is.method_is in
    let named : is_some (names_of_pieces (pieces 47 path)) ≡ true = ap (λ (ps : List (List ℕ)). is_some (names_of_pieces ps)) parts ∙ both_named is.service is.method _ _ (name_passes is.service is.service_is) (name_passes is.method is.method_is) in
    when (nat_le (length path) path_limit) (names_of_pieces (pieces 47 path)) (within_passes (length path) path_limit is.within) named

-- what has two names is a path
abbrev HasNames : List (List ℕ) → Type 0
HasNames ps = (service : List ℕ) × (method : List ℕ) × (ps ≡ [] ∷ service ∷ method ∷ []) × (is_name service ≡ true) × (is_name method ≡ true)

both_true : (service method : List ℕ) (p q : Bool) → is_some {T = List ℕ × List ℕ} (if true && p && q then Some (service, method) else None) ≡ true → (p ≡ true) × (q ≡ true)
both_true service method true true t = (refl, refl)
both_true service method true false t = absurd (cc)
both_true service method false q t = absurd (cc)

pieces_named : (ps : List (List ℕ)) → is_some (names_of_pieces ps) ≡ true → HasNames ps
pieces_named [] t = absurd (cc)
pieces_named (a ∷ []) t = absurd (cc)
pieces_named (a ∷ b ∷ []) t = absurd (cc)
pieces_named ([] ∷ b ∷ c ∷ []) t = let both : (is_name b ≡ true) × (is_name c ≡ true) = both_true b c (is_name b) (is_name c) t in (b, c, refl, both.0, both.1)
pieces_named ((x ∷ a) ∷ b ∷ c ∷ []) t = absurd (cc)
pieces_named (a ∷ b ∷ c ∷ d ∷ ps) t = absurd (cc)

when_within : (b : Bool) (o : Option (List ℕ × List ℕ)) → is_some (if b then o else None) ≡ true → (b ≡ true) × (is_some o ≡ true)
when_within true o t = (refl, t)
when_within false o t = absurd (cc)

passes_within : (n m : ℕ) → nat_le n m ≡ true → n ≤ m
passes_within n m t = grind (arith, nat_tests)

names_are_path : (path : List ℕ) → is_some (names_of_path path) ≡ true → IsPath path
names_are_path path t =
    let both : (nat_le (length path) path_limit ≡ true) × (is_some (names_of_pieces (pieces 47 path)) ≡ true) = when_within _ _ t in
    let names : HasNames (pieces 47 path) = pieces_named (pieces 47 path) both.1 in
    record {
      service = names.0;
      method = names.1;
      joined = sym (join_with_byte-slice_split 47 path) ∙ ap (join_with_byte 47) names.2;
      service_is = name_is names.0 names.3;
      method_is = name_is names.1 names.4;
      within = passes_within (length path) path_limit both.0;
    }

path_names : (path : List ℕ) → (is_some (names_of_path path) ≡ true → IsPath path) × (IsPath path → is_some (names_of_path path) ≡ true)
path_names path = (names_are_path path, path_has_names path)

some_mapped : {X Y : Type 0} (f : X → Y) (o : Option X) → is_some (option_map f o) ≡ is_some o
some_mapped f None = refl
some_mapped f (Some x) = refl

-- what says whether there are names says whether it is a path
pub path_reported : {X : Type 0} (f : X → List ℕ × List ℕ) (o : Option X) (path : List ℕ) (reported : Bool) → reported ≡ is_some o → option_map f o ≡ names_of_path path → (reported ≡ true → IsPath path) × (IsPath path → reported ≡ true)
path_reported f o path reported e named =
    let same : reported ≡ is_some (names_of_path path) = e ∙ sym (some_mapped f o) ∙ ap is_some named in
    ((λ t. (path_names path).0 (sym same ∙ t)), (λ p. same ∙ (path_names path).1 p))

-- a fourth piece is too many
pub more_pieces : (a b c : List ℕ) (ps : List (List ℕ)) → 0 < length ps → names_of_pieces (a ∷ b ∷ c ∷ ps) ≡ None
more_pieces a b c [] some = absurd (omega arith)
more_pieces a b c (d ∷ ps) some = refl

-- each text has a piece
pub pieces_some : (text : List ℕ) → 0 < length (pieces 47 text)
pieces_some text = omega (arith, length-slice_split (λ b. b == 47) text)
