-- Joined texts as what a writer appends: the first one, and each other after the byte.
use Rattle.std.proofs.Common.{◌≡◌, ℕ, ◌-◌, ◌≤◌, List, [], ◌∷◌, ◌++◌, length, get_or, take, drop, sym, ap, ◌∙◌, arith}
use Rattle.std.specs.Prelude.{map, flat_map}
use Rattle.std.specs.List.{join_with_byte}
use Rattle.std.proofs.lemmas.List.{append-nil, take_all}
use Rattle.grpc_base.specs.declared.address.Address.{Address}
use Rattle.grpc_base.specs.declared.fields.Field.{Field}
use Rattle.script_fields.specs.Spelling.{address_text, addresses_text, pair_text, meta_text}

-- texts made of the values of a list
pub joined-map : {X : Type 0} (byte : ℕ) (f : X → List ℕ) (x : X) (xs : List X) → join_with_byte byte (map f (x ∷ xs)) ≡ f x ++ flat_map (λ y. byte ∷ f y) xs
joined-map byte f x [] = sym (append-nil (f x))
joined-map byte f x (y ∷ ys) = ap (λ t. f x ++ byte ∷ t) (joined-map byte f y ys)

-- addresses and pairs by their first and the others
pub addresses_parts : (xs : List Address) (d : Address) → 1 ≤ length xs → addresses_text xs ≡ address_text (get_or xs 0 d) ++ flat_map (λ a. 44 ∷ address_text a) (take (length xs - 1) (drop 1 xs))
addresses_parts [] d some = absurd (omega arith)
addresses_parts (x ∷ rest) d some =
    joined-map 44 address_text x rest
    ∙ ap (λ (t : List Address). address_text x ++ flat_map (λ a. 44 ∷ address_text a) t) (sym (take_all (length (x ∷ rest) - 1) rest (omega arith)))

pub meta_parts : (xs : List Field) (d : Field) → 1 ≤ length xs → meta_text xs ≡ pair_text (get_or xs 0 d) ++ flat_map (λ f. 44 ∷ pair_text f) (take (length xs - 1) (drop 1 xs))
meta_parts [] d some = absurd (omega arith)
meta_parts (x ∷ rest) d some =
    joined-map 44 pair_text x rest
    ∙ ap (λ (t : List Field). pair_text x ++ flat_map (λ f. 44 ∷ pair_text f) t) (sym (take_all (length (x ∷ rest) - 1) rest (omega arith)))
