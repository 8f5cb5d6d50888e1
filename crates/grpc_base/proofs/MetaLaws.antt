-- Metadata of a request with one more pair.
use Rattle.std.proofs.Common.{◌≡◌, ℕ, ◌+◌, ◌<◌, ◌≤◌, List, [], ◌∷◌, ◌++◌, length, get_or, take, arith, subst, sym}
use Rattle.std.proofs.lemmas.List.Sums.{sum_by-append, sum_by_more_le}
use Rattle.std.proofs.lemmas.List.Elements.{All-append, All-from_recursion}
use Rattle.grpc_base.specs.declared.fields.Field.{Field}
use Rattle.grpc_base.specs.Metadata.{IsMetaName, IsMetaValue, IsPair, IsRequestMetadata, sent_length, meta_limit, meta_size, pair_size}

-- one more pair adds its size
pub meta_size-push : (old : List Field) (f : Field) → meta_size (old ++ f ∷ []) ≡ meta_size old + pair_size f
meta_size-push old f = let sums = sum_by-append pair_size old (f ∷ []) in omega (arith, sums)

-- one more pair keeps the rules where it keeps them itself and there is room for it
pub IsRequestMetadata-push : (old new : List Field) (name value : List ℕ) → new ≡ old ++ record { name = name; value = value } ∷ [] → IsMetaName name → IsMetaValue name value → meta_size old + (length name + sent_length name value + 32) ≤ meta_limit → IsRequestMetadata old → IsRequestMetadata new
IsRequestMetadata-push old new name value e named valued room kept =
    let f : Field = record { name = name; value = value } in
    let pair : IsPair f = record { name_is = named; value_is = valued } in
    subst IsRequestMetadata (sym e) (record {
      pairs_are = All-append IsPair old (f ∷ []) kept.pairs_are (All-from_recursion IsPair (f ∷ []) (pair, tt));
      within = omega (arith, meta_size-push old f);
    })

-- a pair that does not fit after those before it makes the whole too long
pub too_long : (pairs : List Field) (i room : ℕ) (f : Field) → i < length pairs → f ≡ get_or pairs i f → room + meta_size (take i pairs) ≡ meta_limit → room < pair_size f → meta_limit < meta_size pairs
too_long pairs i room f within is sum past =
    let more : meta_size (take i pairs) + pair_size f ≤ meta_size pairs =
    subst (λ (g : Field). meta_size (take i pairs) + pair_size g ≤ meta_size pairs) (sym is) (sum_by_more_le pair_size pairs i f within) in
    omega arith
