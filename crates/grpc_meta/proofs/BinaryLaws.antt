-- Base64 written and read, and the texts of a value one after another.
use Rattle.std.proofs.Common.{◌≡◌, ◌==◌, ◌%◌, ◌/◌, ◌*◌, ◌+◌, ◌-◌, ◌++◌, ℕ, ◌≤◌, Bool, true, false, if◌then◌else◌, List, [], Some, None, Ok, Err, Result, inl, inr, rules, refl, sym, ◌∙◌, ap, subst, map, length, replicate, arith, eq-eqb, length-append}
use Rattle.std.proofs.lemmas.Bool.{eqb-true}
use Rattle.std.proofs.lemmas.Bool.Decides.{nat_tests}
use Rattle.std.proofs.lemmas.List.{length-map, length-replicate}
use Rattle.std.proofs.lemmas.List.Folds.{flat_map-map}
use Rattle.std.specs.List.{flat_map}
use Rattle.std.specs.Result.{result_ok}
use Rattle.base64.proofs.EngineFacts.{decode_of-encode_of, decode_of_strict}
use Rattle.base64.proofs.RoundTrip.{length-encode_symbols}
use Rattle.base64.specs.declared.decode.DecodeAllocError.{DecodeAllocError}
use Rattle.base64.specs.declared.decode.DecodeAllocError.TheVariants.{DecodeError as Failed, OutOfMemory}
use Rattle.base64.specs.declared.decode.DecodeError.{DecodeError}
use Rattle.base64.specs.declared.engine.general_purpose.GeneralPurpose.{GeneralPurpose}
use Rattle.base64.specs.GeneralPurpose.{decode_of, decoded_of, encode_of, IsBytes, IsConsistent, IsDecodeFailure, IsStrict}
use Rattle.base64.specs.Engines.{standard, standard_no_pad}
use Rattle.base64.specs.Rfc4648.{encode_symbols, padding_len}
use Rattle.grpc_meta.specs.Base64.{SpellsBytes, base64_of, bytes_of_base64, padded_base64_of, symbols}
use Rattle.grpc_base.specs.declared.fields.Field.{Field}
use Rattle.grpc_base.specs.Metadata.{is_binary_name}
use Rattle.grpc_meta.specs.RequestFields.{field, sent}
use Rattle.grpc_meta.specs.ResponseFields.{between_commas, binary_pairs, pair_if_read}

-- a text that an engine refuses has no bytes
pub decoded_of-refused : (e : GeneralPurpose) (s : List ℕ) (error : DecodeAllocError) (why : DecodeError) → IsDecodeFailure e s error → error ≡ Failed why → decoded_of e s ≡ None
unfolding decoded_of
decoded_of-refused e s (Failed d) why refused is = rw refused refl
decoded_of-refused e s OutOfMemory why refused is = cc

-- at most 64 texts are read
pub binary_pairs-few : (name value : List ℕ) → length (between_commas value) ≤ 64 → binary_pairs name value ≡ flat_map (λ text. pair_if_read name (bytes_of_base64 text)) (between_commas value)
binary_pairs-few name value few = grind (arith, nat_tests)

-- the texts as a list of their bytes
pub pairs_of_texts : {R : Type 0} (now : R → List ℕ) (name value : List ℕ) (texts : List R) → map now texts ≡ between_commas value → length texts ≤ 64 → flat_map (λ text. pair_if_read name (bytes_of_base64 (now text))) texts ≡ binary_pairs name value
pairs_of_texts now name value texts same few =
    let few_between : length (between_commas value) ≤ 64 = subst (λ (xs : List (List ℕ)). length xs ≤ 64) same (rw length-map few) in
    sym (flat_map-map (λ text. pair_if_read name (bytes_of_base64 text)) now texts)
    ∙ ap (flat_map (λ text. pair_if_read name (bytes_of_base64 text))) same
    ∙ sym (binary_pairs-few name value few_between)

result_ok_is : (r : Result (List ℕ) DecodeError) (bytes : List ℕ) → result_ok r ≡ Some bytes → r ≡ Ok bytes
result_ok_is (Ok b) bytes e = let same : b ≡ bytes = (cc) in ap Ok same
result_ok_is (Err x) bytes e = absurd (cc)

-- both engines take their own encoding and nothing else
strict_no_pad : IsStrict standard_no_pad
strict_no_pad = search rules

strict : IsStrict standard
strict = search rules

consistent_no_pad : IsConsistent standard_no_pad
consistent_no_pad = search rules

consistent : IsConsistent standard
consistent = search rules

-- the bytes of a text, by the engine that its length asks for
read_whole : (text bytes : List ℕ) (b : Bool) → (length text % 4 == 0) ≡ b → decode_of (if b then standard else standard_no_pad) text ≡ Ok bytes → bytes_of_base64 text ≡ Some bytes
unfolding bytes_of_base64 decoded_of
read_whole text bytes true e read = rw (e, read) refl
read_whole text bytes false e read = rw (e, read) refl

what_read : (text bytes : List ℕ) (b : Bool) → (length text % 4 == 0) ≡ b → bytes_of_base64 text ≡ Some bytes → decode_of (if b then standard else standard_no_pad) text ≡ Ok bytes
unfolding bytes_of_base64 decoded_of
what_read text bytes true e read = result_ok_is (decode_of standard text) bytes (rw e at read)
what_read text bytes false e read = result_ok_is (decode_of standard_no_pad text) bytes (rw e at read)

abbrev padding : ℕ → List ℕ
padding n = replicate n 61

-- the length of a base64 text
padded-length : (bytes : List ℕ) → (length (padded_base64_of bytes) % 4 == 0) ≡ true
padded-length bytes =
    let n : length (encode_symbols symbols bytes) ≡ (4 * length bytes + 2) / 3 = length-encode_symbols symbols bytes in
    let p : length (padding (padding_len (length bytes))) ≡ (3 - length bytes % 3) % 3 = length-replicate (padding_len (length bytes)) 61 in
    let a : length (padded_base64_of bytes) ≡ length (encode_symbols symbols bytes) + length (padding (padding_len (length bytes))) = length-append (encode_symbols symbols bytes) (padding (padding_len (length bytes))) in
    let z : length (padded_base64_of bytes) % 4 ≡ 0 = omega (arith, n, p, a) in
    eq-eqb _ 0 z

-- whole groups without padding want none
no-padding : (bytes : List ℕ) → (length (base64_of bytes) % 4 == 0) ≡ true → base64_of bytes ≡ padded_base64_of bytes
no-padding bytes whole =
    let n : length (encode_symbols symbols bytes) ≡ (4 * length bytes + 2) / 3 = length-encode_symbols symbols bytes in
    let a : length (base64_of bytes) ≡ length (encode_symbols symbols bytes) + 0 = length-append (encode_symbols symbols bytes) [] in
    let z : length (base64_of bytes) % 4 ≡ 0 = eqb-true _ 0 whole in
    let none : padding_len (length bytes) ≡ 0 = omega (arith, n, a, z) in
    ap (λ (k : ℕ). encode_symbols symbols bytes ++ padding k) (sym none)

read_padded : (bytes : List ℕ) → IsBytes bytes → bytes_of_base64 (padded_base64_of bytes) ≡ Some bytes
read_padded bytes ok = read_whole (padded_base64_of bytes) bytes true (padded-length bytes) (decode_of-encode_of standard bytes consistent ok)

read_plain : (bytes : List ℕ) (b : Bool) → IsBytes bytes → (length (base64_of bytes) % 4 == 0) ≡ b → bytes_of_base64 (base64_of bytes) ≡ Some bytes
read_plain bytes true ok e = ap bytes_of_base64 (no-padding bytes e) ∙ read_padded bytes ok
read_plain bytes false ok e = read_whole (base64_of bytes) bytes false e (decode_of-encode_of standard_no_pad bytes consistent_no_pad ok)

-- a text of whole groups, and any other
pub read-of_whole : (text : List ℕ) → length text % 4 ≡ 0 → decoded_of standard text ≡ bytes_of_base64 text
unfolding bytes_of_base64
read-of_whole text whole = let e : (length text % 4 == 0) ≡ true = eq-eqb _ 0 whole in rw e refl

pub read-of_other : (text : List ℕ) → (length text % 4 ≡ 0 → ⊥) → decoded_of standard_no_pad text ≡ bytes_of_base64 text
unfolding bytes_of_base64
read-of_other text other = let e : (length text % 4 == 0) ≡ false = grind (arith, nat_tests) in rw e refl

-- what spells bytes is read as them
pub spelled_is_read : (text : List ℕ) → (bytes : List ℕ) → IsBytes bytes → SpellsBytes text bytes → bytes_of_base64 text ≡ Some bytes
spelled_is_read text bytes ok spells = elim spells [
  | inl plain ↦ ap bytes_of_base64 plain ∙ read_plain bytes (length (base64_of bytes) % 4 == 0) ok refl
  | inr padded ↦ ap bytes_of_base64 padded ∙ read_padded bytes ok
]

spelled_by : (text bytes : List ℕ) (b : Bool) → IsBytes text → (length text % 4 == 0) ≡ b → bytes_of_base64 text ≡ Some bytes → SpellsBytes text bytes
spelled_by text bytes true ok e read = inr (decode_of_strict standard text bytes strict ok (what_read text bytes true e read))
spelled_by text bytes false ok e read = inl (decode_of_strict standard_no_pad text bytes strict_no_pad ok (what_read text bytes false e read))

-- and nothing else is read
pub read_is_spelled : (text : List ℕ) → (bytes : List ℕ) → IsBytes text → bytes_of_base64 text ≡ Some bytes → SpellsBytes text bytes
read_is_spelled text bytes ok read = spelled_by text bytes (length text % 4 == 0) ok refl read

-- the pair of a value of bytes as it is sent
pub sent-encoded : (f : Field) (name value : List ℕ) → is_binary_name f.name ≡ true → name ≡ f.name → value ≡ encode_of standard_no_pad f.value → field name value ≡ sent f
sent-encoded f name value binary same encoded =
    let plain : field name value ≡ field f.name (base64_of f.value) = rw (same, encoded) refl in
    plain ∙ ap (λ (b : Bool). if b then field f.name (base64_of f.value) else f) (sym binary)
