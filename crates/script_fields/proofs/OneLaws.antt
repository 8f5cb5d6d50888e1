-- No text spells two values.
use Rattle.std.proofs.Common.{◌≡◌, ◌≢◌, ℕ, ◌/◌, ◌%◌, ◌<◌, ◌≤◌, ◌^◌, Bool, true, false, Option, Some, None, List, [], ◌∷◌, ◌++◌, length, map, refl, ap, sym, subst, arith, append_assoc, ◌∙◌, w64}
use Rattle.std.specs.Int.{from_be_bytes}
use Rattle.std.specs.List.{AllByRecursion, join_with_byte}
use Rattle.std.specs.Prelude.{decimal}
use Rattle.std.proofs.lemmas.Bool.{true≢false}
use Rattle.std.proofs.lemmas.Fmt.{decimal_injective}
use Rattle.std.proofs.lemmas.List.Elements.{recursion_from_All, All-from_recursion}
use Rattle.std.proofs.lemmas.Nat.{from_be_bytes-to_be_bytes_8}
use Rattle.grpc_base.specs.declared.address.Address.{Address}
use Rattle.grpc_base.specs.declared.fields.Field.{Field}
use Rattle.script_fields.specs.Reading.{SpellsAddresses, SpellsConfig, SpellsMessage, SpellsMeta, SpellsNumber, SpellsNumberOrDash, SpellsPiece, SpellsWord}
use Rattle.script_fields.specs.Spelling.{address_text, addresses_text, dash, hex_digits, meta_text, pair_text, wait_text, word_bytes}
use Rattle.script_fields.specs.Values.{IsAddress, IsNoDigit}
use Rattle.script_fields.proofs.AddressLaws.{byte_a, byte_b, byte_c, byte_d, colon, dot, last_four, text_is_quad}
use Rattle.script_fields.proofs.Digits.{word_same}
use Rattle.script_fields.proofs.ListedLaws.{addresses_parted}
use Rattle.script_fields.proofs.MetaLaws.{all_good, meta_parted, pair_one}
use Rattle.script_fields.proofs.TextLaws.{bytes_from, dash_one, hex_one, no_cut, same_number}

pub message_one : (text v w : List ℕ) → SpellsMessage text v → SpellsMessage text w → v ≡ w
message_one text v w p q = dash_one v w p.0 q.0 (sym p.1 ∙ q.1)

pub piece_one : (text v w : List ℕ) → SpellsPiece text v → SpellsPiece text w → v ≡ w
piece_one text v w p q = hex_one v w (bytes_from v p.0) (bytes_from w q.0) (sym p.2 ∙ q.2)

-- a dash is no digits of bytes
pub dash_no_piece : (v : List ℕ) → SpellsPiece dash v → ⊥
dash_no_piece [] p = p.1 refl
dash_no_piece (x ∷ v) p = (let l : length dash ≡ length (hex_digits (x ∷ v)) = ap length p.2 in absurd (omega (arith, l)))

pub config_one : (text : List ℕ) (v w : Option (List ℕ)) → SpellsConfig text v → SpellsConfig text w → v ≡ w
config_one text None None p q = refl
config_one text None (Some w) p q = absurd (dash_no_piece w (subst (λ t. SpellsPiece t w) p q))
config_one text (Some v) None p q = absurd (dash_no_piece v (subst (λ t. SpellsPiece t v) q p))
config_one text (Some v) (Some w) p q = ap Some (piece_one text v w p q)

-- the eight bytes of a word are bytes, and decide it
word_fits : (w : ℕ) → AllByRecursion (λ b. b < 256) (word_bytes w)
word_fits w = (omega arith, (omega arith, (omega arith, (omega arith, (omega arith, (omega arith, (omega arith, (omega arith, tt))))))))

word_reported : (w : ℕ) → w < 2 ^ 64 → from_be_bytes w64 (word_bytes w) ≡ w
word_reported w small = ap (from_be_bytes w64) (sym (word_same w)) ∙ from_be_bytes-to_be_bytes_8 w small

pub word_one : (text : List ℕ) (v w : ℕ) → SpellsWord text v → SpellsWord text w → v ≡ w
word_one text v w p q =
    let bytes : word_bytes v ≡ word_bytes w = hex_one (word_bytes v) (word_bytes w) (word_fits v) (word_fits w) (sym p.1 ∙ q.1) in
    sym (word_reported v p.0) ∙ ap (from_be_bytes w64) bytes ∙ word_reported w q.0

-- a dash is no number
dash_no_number : (n : ℕ) → SpellsNumber dash n → ⊥
dash_no_number n p = true≢false (sym p.digits)

pub number_or_dash_one : (text : List ℕ) (v w : Option ℕ) → SpellsNumberOrDash text v → SpellsNumberOrDash text w → v ≡ w
number_or_dash_one text None None p q = refl
number_or_dash_one text None (Some n) p q = absurd (dash_no_number n (subst (λ t. SpellsNumber t n) p q))
number_or_dash_one text (Some n) None p q = absurd (dash_no_number n (subst (λ t. SpellsNumber t n) q p))
number_or_dash_one text (Some n) (Some k) p q = ap Some (sym p.value ∙ q.value)

pub wait_one : (v w : Option Bool) → wait_text v ≡ wait_text w → v ≡ w
wait_one None None e = refl
wait_one None (Some true) e = absurd ((cc))
wait_one None (Some false) e = absurd ((cc))
wait_one (Some true) None e = absurd ((cc))
wait_one (Some true) (Some true) e = refl
wait_one (Some true) (Some false) e = absurd ((cc))
wait_one (Some false) None e = absurd ((cc))
wait_one (Some false) (Some true) e = absurd ((cc))
wait_one (Some false) (Some false) e = refl

-- a dash has no other byte
dash_free : (b : ℕ) (s rest : List ℕ) → b ≢ 45 → dash ≡ s ++ b ∷ rest → ⊥
dash_free b s rest other e = no_cut b dash s rest (All-from_recursion (λ d. d ≢ b) dash ((λ f. other (sym f)), tt)) e

-- values with one spelling each are known by the list of their spellings
each_one : {X : Type 0} (f : X → List ℕ) (P : X → Type 0) → ((x y : X) → P x → P y → f x ≡ f y → x ≡ y) → (v w : List X) → AllByRecursion P v → AllByRecursion P w → map f v ≡ map f w → v ≡ w
each_one f P one [] [] p q e = refl
each_one f P one [] (y ∷ w) p q e = absurd ((cc))
each_one f P one (x ∷ v) [] p q e = absurd ((cc))
each_one f P one (x ∷ v) (y ∷ w) p q e =
    let head : f x ≡ f y = (cc) in
    let tail : map f v ≡ map f w = (cc) in
    let first : x ≡ y = one x y p.0 q.0 head in
    let rest : v ≡ w = each_one f P one v w p.1 q.1 tail in
    (cc)

-- a pair has a colon, and a dash has none
dash_no_meta : (f : Field) (v : List Field) → dash ≡ meta_text (f ∷ v) → ⊥
dash_no_meta f [] e = dash_free 58 f.name (hex_digits f.value) (λ b. omega (arith, b)) e
dash_no_meta f (g ∷ v) e =
    let rest : List ℕ = 44 ∷ join_with_byte 44 (map pair_text (g ∷ v)) in
    dash_free 58 f.name (hex_digits f.value ++ rest) (λ b. omega (arith, b)) (e ∙ append_assoc f.name (58 ∷ hex_digits f.value) rest)

pub meta_one : (text : List ℕ) (v w : List Field) → SpellsMeta text v → SpellsMeta text w → v ≡ w
meta_one text [] [] p q = refl
meta_one text [] (g ∷ w) p q = absurd (dash_no_meta g w (sym p.2 ∙ q.2))
meta_one text (f ∷ v) [] p q = absurd (dash_no_meta f v (sym q.2 ∙ p.2))
meta_one text (f ∷ v) (g ∷ w) p q =
    let other : text ≢ 45 ∷ [] = λ e. dash_no_meta f v (sym e ∙ p.2) in
    let parts : map pair_text (f ∷ v) ≡ map pair_text (g ∷ w) = sym (meta_parted text (f ∷ v) other p) ∙ meta_parted text (g ∷ w) other q in
    each_one pair_text _ pair_one (f ∷ v) (g ∷ w) (all_good (f ∷ v) p.0 p.1) (all_good (g ∷ w) q.0 q.1) parts

-- four numbers make an address
ip_one : (v w : ℕ) → v / 2 ^ 24 ≡ w / 2 ^ 24 → v / 2 ^ 16 % 256 ≡ w / 2 ^ 16 % 256 → v / 2 ^ 8 % 256 ≡ w / 2 ^ 8 % 256 → v % 256 ≡ w % 256 → v ≡ w
ip_one v w a b c d = omega (arith, a, b, c, d)

-- a number that is a byte, and what stands after it
byte_cut : (b n k : ℕ) (r s : List ℕ) → IsNoDigit b → n ≤ 255 → k ≤ 255 → decimal n ++ b ∷ r ≡ decimal k ++ b ∷ s → (n ≡ k) × (r ≡ s)
byte_cut b n k r s nd small small_k e = same_number b n k (decimal n ++ b ∷ r) r s nd (omega (arith, small)) (omega (arith, small_k)) refl e

-- no text is that of two addresses
address_one : (v w : Address) → IsAddress v → IsAddress w → address_text v ≡ address_text w → v ≡ w
address_one v w p q e =
    let a = byte_cut 46 (v.ip / 2 ^ 24) (w.ip / 2 ^ 24) _ _ dot (byte_a v p) (byte_a w q) (sym (text_is_quad v) ∙ e ∙ text_is_quad w) in
    let b = byte_cut 46 (v.ip / 2 ^ 16 % 256) (w.ip / 2 ^ 16 % 256) _ _ dot (byte_b v) (byte_b w) a.1 in
    let c = byte_cut 46 (v.ip / 2 ^ 8 % 256) (w.ip / 2 ^ 8 % 256) _ _ dot (byte_c v) (byte_c w) b.1 in
    let d = byte_cut 58 (v.ip % 256) (w.ip % 256) _ _ colon (byte_d v) (byte_d w) c.1 in
    let port : v.port ≡ w.port = decimal_injective v.port w.port (omega (arith, p.port_high)) (omega (arith, q.port_high)) d.1 in
    let ip : v.ip ≡ w.ip = ip_one v.ip w.ip a.0 b.0 c.0 d.0 in
    let same : record { ip = v.ip; port = v.port } ≡ record { ip = w.ip; port = w.port } = ap (λ (x : ℕ). record { ip = x; port = v.port }) ip ∙ ap (λ (x : ℕ). record { ip = w.ip; port = x }) port in
    same

-- an address has a dot, and a dash has none
dash_no_addresses : (x : Address) (v : List Address) → dash ≡ addresses_text (x ∷ v) → ⊥
dash_no_addresses x [] e = dash_free 46 (decimal (x.ip / 2 ^ 24)) _ (λ b. omega (arith, b)) (e ∙ text_is_quad x)
dash_no_addresses x (y ∷ v) e =
    let rest : List ℕ = 44 ∷ join_with_byte 44 (map address_text (y ∷ v)) in
    let afterwards : List ℕ = last_four (x.ip / 2 ^ 16 % 256) (x.ip / 2 ^ 8 % 256) (x.ip % 256) x.port in
    dash_free 46 (decimal (x.ip / 2 ^ 24)) (afterwards ++ rest) (λ b. omega (arith, b))
    (e ∙ ap (λ (t : List ℕ). t ++ rest) (text_is_quad x) ∙ append_assoc (decimal (x.ip / 2 ^ 24)) (46 ∷ afterwards) rest)

pub addresses_one : (text : List ℕ) (v w : List Address) → SpellsAddresses text v → SpellsAddresses text w → v ≡ w
addresses_one text [] [] p q = refl
addresses_one text [] (y ∷ w) p q = absurd (dash_no_addresses y w (sym p.1 ∙ q.1))
addresses_one text (x ∷ v) [] p q = absurd (dash_no_addresses x v (sym q.1 ∙ p.1))
addresses_one text (x ∷ v) (y ∷ w) p q =
    let other : text ≢ 45 ∷ [] = λ e. dash_no_addresses x v (sym e ∙ p.1) in
    let parts : map address_text (x ∷ v) ≡ map address_text (y ∷ w) = sym (addresses_parted text (x ∷ v) other p) ∙ addresses_parted text (y ∷ w) other q in
    each_one address_text IsAddress address_one (x ∷ v) (y ∷ w) (recursion_from_All IsAddress (x ∷ v) p.0) (recursion_from_All IsAddress (y ∷ w) q.0) parts
