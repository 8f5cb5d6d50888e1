-- One representation less of a block.
use Rattle.std.proofs.Common.{◌≡◌, ℕ, zero, suc, ◌-◌, ◌≤◌, List, [], ◌∷◌, ◌++◌, length, take, drop, refl, sym, ◌∙◌, ap, arith, Ok, Err, Result}
use Rattle.std.specs.Prelude.{slice_index_or}
use Rattle.std.proofs.lemmas.List.{take_all}
use Rattle.grpc_base.specs.declared.fields.Field.{Field}
use Rattle.h2_hpack.specs.declared.fault.HpackFault.{HpackFault}
use Rattle.h2_hpack.specs.Blocks.{Reading, State, and_then, decoded, fields_from, fields_in, next_as, reading_from, state_after, table_in}
use Rattle.h2_hpack.specs.Kinds.{kind_of}

-- what is read from some place on, with a bound that is high enough
pub record ReadsTo (rest : List ℕ) (r : Reading) (whole : Result Reading HpackFault) : Type 0 where
  pub most : ℕ
  pub enough : length rest ≤ most
  pub same : reading_from rest most r ≡ whole

pub after_one : (bytes rest : List ℕ) (most : ℕ) (r next : Reading) (whole : Result Reading HpackFault) → 1 ≤ length bytes → length bytes ≤ most → reading_from bytes most r ≡ whole → next_as (kind_of (slice_index_or bytes 0 0)) r (slice_index_or bytes 0 0) (take (length bytes - 1) (drop 1 bytes)) ≡ Ok (next, rest) → length rest ≤ length (take (length bytes - 1) (drop 1 bytes)) → ReadsTo rest next whole
after_one [] rest most r next whole some enough same one shorter = absurd (omega (arith, some))
after_one (b ∷ bytes) rest zero r next whole some enough same one shorter = absurd (omega (arith, enough))
after_one (b ∷ bytes) rest (suc most) r next whole some enough same one shorter =
    let after : take (length (b ∷ bytes) - 1) bytes ≡ bytes = take_all (length (b ∷ bytes) - 1) bytes (omega arith) in
    let read : next_as (kind_of b) r b bytes ≡ Ok (next, rest) = rw after at one in
    let less : length rest ≤ length bytes = rw after at shorter in
    record { most = most; enough = omega (arith, less, enough); same = sym (ap (λ x. and_then x (λ y. reading_from y.1 most y.0)) read) ∙ same }

-- one block alone
alone : (d : Result Reading HpackFault) → and_then d (λ r. Ok (r.fields ∷ [])) ≡ and_then (fields_in d) (λ fields. Ok ([] ++ fields ∷ []))
alone (Ok r) = refl
alone (Err e) = refl

joined : (xs : Result (List (List Field)) HpackFault) (y : Result (List Field) HpackFault) (first : List Field) → and_then (and_then xs (λ lists. and_then y (λ fields. Ok (lists ++ fields ∷ [])))) (λ lists. Ok (first ∷ lists)) ≡ and_then (and_then xs (λ lists. Ok (first ∷ lists))) (λ lists. and_then y (λ fields. Ok (lists ++ fields ∷ [])))
joined (Err e) y first = refl
joined (Ok lists) (Err e) first = refl
joined (Ok lists) (Ok fields) first = refl

-- what is to be shown of the blocks after the first one
abbrev pub AddsOne : List (List ℕ) → List ℕ → State → Type 0
AddsOne blocks block state = fields_from state (blocks ++ block ∷ []) ≡ and_then (fields_from state blocks) (λ lists. and_then (fields_in (decoded (state_after state blocks) block)) (λ fields. Ok (lists ++ fields ∷ [])))

after_first : (blocks : List (List ℕ)) (block : List ℕ) → ((r : Reading) → AddsOne blocks block (Ok r.table)) → (d : Result Reading HpackFault) → and_then d (λ r. and_then (fields_from (Ok r.table) (blocks ++ block ∷ [])) (λ lists. Ok (r.fields ∷ lists))) ≡ and_then (and_then d (λ r. and_then (fields_from (Ok r.table) blocks) (λ lists. Ok (r.fields ∷ lists)))) (λ lists. and_then (fields_in (decoded (state_after (table_in d) blocks) block)) (λ fields. Ok (lists ++ fields ∷ [])))
after_first blocks block more (Err e) = refl
after_first blocks block more (Ok r) = ap (λ x. and_then x (λ lists. Ok (r.fields ∷ lists))) (more r) ∙ joined (fields_from (Ok r.table) blocks) (fields_in (decoded (state_after (Ok r.table) blocks) block)) r.fields

pub one_block_more : (blocks : List (List ℕ)) (block : List ℕ) (state : State) → AddsOne blocks block state
one_block_more [] block state = alone (decoded state block)
one_block_more (b ∷ blocks) block state = after_first blocks block (λ r. one_block_more blocks block (Ok r.table)) (decoded state b)
