-- A field is visible ASCII, and a list of addresses is spelled as itself.
use Rattle.std.proofs.Common.{◌≡◌, ℕ, ◌+◌, ◌/◌, ◌%◌, ◌^◌, ◌<◌, ◌≤◌, Bool, true, false, Option, Some, None, List, [], ◌∷◌, ◌++◌, length, map, All, sym, ap, subst, ◌∙◌, inl, inr, arith, append_assoc}
use Rattle.std.specs.List.{AllByRecursion, fold, join_with_byte}
use Rattle.std.specs.Prelude.{decimal, IfSome}
use Rattle.std.proofs.lemmas.Bool.{cond-false}
use Rattle.std.proofs.lemmas.Bool.Decides.{nat_tests}
use Rattle.std.proofs.lemmas.Fmt.{decimal_by_steps}
use Rattle.std.proofs.lemmas.List.{append-nil}
use Rattle.std.proofs.lemmas.List.Elements.{All-from_recursion, All-push, recursion_from_All}
use Rattle.grpc_base.specs.declared.address.Address.{Address}
use Rattle.grpc_base.specs.declared.fields.Field.{Field}
use Rattle.grpc_base.specs.Addresses.{has_address, with_address}
use Rattle.grpc_base.specs.Metadata.{IsPair, IsRequestMetadata, is_meta_name_byte}
use Rattle.grpc_base.specs.Requests.{IsName, IsPath}
use Rattle.script_fields.specs.Reading.{SpellsConfig, listed}
use Rattle.script_fields.specs.Spelling.{address_text, addresses_text, config_hex, dash, hex_digits, hex_or_dash, lower_digit, meta_text, number_or_dash, pair_text, wait_text, word_bytes}
use Rattle.script_fields.specs.Values.{IsAddress, IsBytes}
use Rattle.script_fields.proofs.AddressLaws.{byte_a, byte_b, byte_c, byte_d, text_is_quad}
use Rattle.script_fields.proofs.ListedLaws.{fold_length}
use Rattle.script_fields.proofs.MetaLaws.{append_free}
use Rattle.script_fields.proofs.TextLaws.{bool_cases, bytes_from, push_all}

-- visible ASCII
abbrev pub IsVisible : ℕ → Type 0
IsVisible b = (33 ≤ b) × (b ≤ 126)

pub visible_append : (s t : List ℕ) → AllByRecursion IsVisible s → AllByRecursion IsVisible t → AllByRecursion IsVisible (s ++ t)
visible_append s t p q = append_free IsVisible s t p q

dash_visible : AllByRecursion IsVisible dash
dash_visible = ((omega arith, omega arith), tt)

pub number_visible : (n : ℕ) → n < 2 ^ 64 → AllByRecursion IsVisible (decimal n)
number_visible = decimal_by_steps (λ n ds. AllByRecursion IsVisible ds)
    (λ n small. ((omega arith, omega arith), tt))
    (λ n ds large all. push_all IsVisible ds (48 + n % 10) all (omega arith, omega arith))

-- ---- hex

digit_visible : (d : ℕ) → d < 16 → IsVisible (lower_digit d)
digit_visible d small = (grind (arith, nat_tests, small), grind (arith, nat_tests, small))

digits_visible : (v : List ℕ) → AllByRecursion (λ b. b < 256) v → AllByRecursion IsVisible (hex_digits v)
digits_visible [] small = tt
digits_visible (b ∷ v) small = (digit_visible (b / 16) (omega (arith, small.0)), (digit_visible (b % 16) (omega arith), digits_visible v small.1))

pub hex_visible : (v : List ℕ) → IsBytes v → AllByRecursion IsVisible (hex_digits v)
hex_visible v bytes = digits_visible v (bytes_from v bytes)

pub hex_or_dash_visible : (v : List ℕ) → IsBytes v → AllByRecursion IsVisible (hex_or_dash v)
hex_or_dash_visible [] bytes = dash_visible
hex_or_dash_visible (b ∷ v) bytes = hex_visible (b ∷ v) bytes

pub config_visible : (text : List ℕ) (v : Option (List ℕ)) → SpellsConfig text v → AllByRecursion IsVisible (config_hex v)
config_visible text None spelled = dash_visible
config_visible text (Some config) spelled = hex_visible config spelled.0

pub word_visible : (w : ℕ) → AllByRecursion IsVisible (hex_digits (word_bytes w))
word_visible w = digits_visible (word_bytes w) (omega arith, (omega arith, (omega arith, (omega arith, (omega arith, (omega arith, (omega arith, (omega arith, tt))))))))

-- ---- what may be none

pub number_or_dash_visible : (n : Option ℕ) → IfSome n (λ k. k < 2 ^ 64) → AllByRecursion IsVisible (number_or_dash n)
number_or_dash_visible None small = dash_visible
number_or_dash_visible (Some n) small = number_visible n small

pub wait_visible : (wait : Option Bool) → AllByRecursion IsVisible (wait_text wait)
wait_visible None = dash_visible
wait_visible (Some true) = ((omega arith, omega arith), ((omega arith, omega arith), ((omega arith, omega arith), tt)))
wait_visible (Some false) = ((omega arith, omega arith), ((omega arith, omega arith), tt))

-- ---- lists of values

joined_visible : (b : ℕ) (ws : List (List ℕ)) → IsVisible b → AllByRecursion (λ (v : List ℕ). AllByRecursion IsVisible v) ws → AllByRecursion IsVisible (join_with_byte b ws)
joined_visible b [] between all = tt
joined_visible b (w ∷ []) between all = all.0
joined_visible b (w ∷ (v ∷ ws)) between all = visible_append w (b ∷ join_with_byte b (v ∷ ws)) all.0 (between, joined_visible b (v ∷ ws) between all.1)

comma_visible : IsVisible 44
comma_visible = (omega arith, omega arith)

name_byte_visible : (b : ℕ) → is_meta_name_byte b ≡ true → IsVisible b
name_byte_visible b h = (grind (arith, nat_tests, h), grind (arith, nat_tests, h))

name_visible : (name : List ℕ) → AllByRecursion (λ b. is_meta_name_byte b ≡ true) name → AllByRecursion IsVisible name
name_visible [] all = tt
name_visible (b ∷ name) all = (name_byte_visible b all.0, name_visible name all.1)

pair_visible : (f : Field) → IsPair f → IsBytes f.value → AllByRecursion IsVisible (pair_text f)
pair_visible f is bytes =
    visible_append f.name (58 ∷ hex_digits f.value) (name_visible f.name (recursion_from_All (λ b. is_meta_name_byte b ≡ true) f.name is.name_is.bytes)) ((omega arith, omega arith), hex_visible f.value bytes)

pairs_visible : (fs : List Field) → AllByRecursion IsPair fs → AllByRecursion (λ f. IsBytes f.value) fs → AllByRecursion (λ (v : List ℕ). AllByRecursion IsVisible v) (map pair_text fs)
pairs_visible [] are bytes = tt
pairs_visible (f ∷ fs) are bytes = (pair_visible f are.0 bytes.0, pairs_visible fs are.1 bytes.1)

pub meta_visible : (pairs : List Field) → IsRequestMetadata pairs → All (λ f. IsBytes f.value) pairs → AllByRecursion IsVisible (meta_text pairs)
meta_visible [] is bytes = dash_visible
meta_visible (f ∷ fs) is bytes =
    joined_visible 44 (map pair_text (f ∷ fs)) comma_visible (pairs_visible (f ∷ fs) (recursion_from_All IsPair (f ∷ fs) is.pairs_are) (recursion_from_All (λ f. IsBytes f.value) (f ∷ fs) bytes))

number_before : (n b : ℕ) (rest : List ℕ) → n < 2 ^ 64 → IsVisible b → AllByRecursion IsVisible rest → AllByRecursion IsVisible (decimal n ++ b ∷ rest)
number_before n b rest small one all = visible_append (decimal n) (b ∷ rest) (number_visible n small) (one, all)

address_visible : (a : Address) → IsAddress a → AllByRecursion IsVisible (address_text a)
address_visible a is =
    subst (AllByRecursion IsVisible) (sym (text_is_quad a))
    (number_before (a.ip / 2 ^ 24) 46 _ (omega (arith, byte_a a is)) (omega arith, omega arith)
    (number_before (a.ip / 2 ^ 16 % 256) 46 _ (omega (arith, byte_b a)) (omega arith, omega arith)
    (number_before (a.ip / 2 ^ 8 % 256) 46 _ (omega (arith, byte_c a)) (omega arith, omega arith)
    (number_before (a.ip % 256) 58 _ (omega (arith, byte_d a)) (omega arith, omega arith) (number_visible a.port (omega (arith, is.port_high)))))))

each_visible : (xs : List Address) → AllByRecursion IsAddress xs → AllByRecursion (λ (v : List ℕ). AllByRecursion IsVisible v) (map address_text xs)
each_visible [] good = tt
each_visible (x ∷ xs) good = (address_visible x good.0, each_visible xs good.1)

pub addresses_visible : (xs : List Address) → All IsAddress xs → AllByRecursion IsVisible (addresses_text xs)
addresses_visible [] good = dash_visible
addresses_visible (x ∷ xs) good = joined_visible 44 (map address_text (x ∷ xs)) comma_visible (each_visible (x ∷ xs) (recursion_from_All IsAddress (x ∷ xs) good))

-- ---- paths

part_visible : (name : List ℕ) → IsName name → AllByRecursion IsVisible name
part_visible name is = recursion_from_All IsVisible name (λ k h d. ((is.visible k h d).visible, (is.visible k h d).ascii))

pub path_visible : (path : List ℕ) → IsPath path → AllByRecursion IsVisible path
path_visible path is =
    let slash : IsVisible 47 = (omega arith, omega arith) in
    subst (AllByRecursion IsVisible) (sym is.joined)
    (slash, visible_append is.service (47 ∷ is.method) (part_visible is.service is.service_is) (slash, part_visible is.method is.method_is))

-- ---- lists of addresses

with_good : (l : List Address) (a : Address) → All IsAddress l → IsAddress a → All IsAddress (with_address l a)
with_good l a good is =
    elim (bool_cases (has_address l a)) [
      | inl there ↦ (rw there good)
      | inr new ↦ (rw new (All-push IsAddress l a good is))
    ]

fold_good : (acc xs : List Address) → All IsAddress acc → AllByRecursion IsAddress xs → All IsAddress (fold with_address acc xs)
fold_good acc [] good all = good
fold_good acc (x ∷ xs) good all = fold_good (with_address acc x) xs (with_good acc x good all.0) all.1

pub listed_addresses : (items : List Address) → All IsAddress items → All IsAddress (listed items)
listed_addresses items good = fold_good [] items (All-from_recursion IsAddress [] tt) (recursion_from_All IsAddress items good)

pub listed_short : (items : List Address) → length (listed items) ≤ length items
listed_short items = (let most = fold_length [] items in omega (arith, most))

-- no address is had by those before it
abbrev AreNew : List Address → List Address → Type 0
AreNew before [] = Unit {0}
AreNew before (a ∷ rest) = (has_address before a ≡ false) × AreNew (before ++ a ∷ []) rest

new_push : (before xs : List Address) (a : Address) → AreNew before xs → has_address (before ++ xs) a ≡ false → AreNew before (xs ++ a ∷ [])
new_push before [] a new none = (subst (λ (l : List Address). has_address l a ≡ false) (append-nil before) none, tt)
new_push before (x ∷ xs) a new none =
    (new.0, new_push (before ++ x ∷ []) xs a new.1 (subst (λ (l : List Address). has_address l a ≡ false) (sym (append_assoc before (x ∷ []) xs)) none))

with_new : (l : List Address) (a : Address) → AreNew [] l → AreNew [] (with_address l a)
with_new l a new =
    elim (bool_cases (has_address l a)) [
      | inl there ↦ (rw there new)
      | inr none ↦ (rw none (new_push [] l a new none))
    ]

all_new : (acc xs : List Address) → AreNew [] acc → AreNew [] (fold with_address acc xs)
all_new acc [] new = new
all_new acc (x ∷ xs) new = all_new (with_address acc x) xs (with_new acc x new)

-- such a list is that of its own addresses
fold_of_new : (before xs : List Address) → AreNew before xs → fold with_address before xs ≡ before ++ xs
fold_of_new before [] new = sym (append-nil before)
fold_of_new before (x ∷ xs) new =
    let one : with_address before x ≡ before ++ x ∷ [] = cond-false _ _ _ new.0 in
    ap (λ (l : List Address). fold with_address l xs) one ∙ fold_of_new (before ++ x ∷ []) xs new.1 ∙ append_assoc before (x ∷ []) xs

pub listed_again : (items : List Address) → listed (listed items) ≡ listed items
listed_again items = fold_of_new [] (listed items) (all_new [] items tt)
