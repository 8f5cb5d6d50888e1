-- Each authority of a target is one that a request may name.
use Rattle.std.proofs.Common.{◌≡◌, ◌≤◌, ◌<◌, ◌^◌, ◌/◌, ◌%◌, ◌+◌, ℕ, Bool, true, false, cond, ◌&&◌, ◌||◌, ◌==◌, List, [], ◌∷◌, ◌++◌, length, length-append, refl, sym, ◌∙◌, ap, arith, rules}
use Rattle.std.proofs.lemmas.Bool.Decides.{nat_tests}
use Rattle.std.specs.List.{list_all, onto_first, slice_split}
use Rattle.std.specs.Char.{is_ascii_digit}
use Rattle.std.specs.Str.Parse.{digits_value}
use Rattle.std.specs.Fmt.{decimal}
use Rattle.std.proofs.lemmas.List.Sums.{AllPass-from_list_all, list_all-from_AllPass}
use Rattle.std.proofs.lemmas.List.Folds.{list_all-append}
use Rattle.std.proofs.lemmas.Str.Parse.{IsNumeralModel, numerals_by_value}
use Rattle.std.proofs.lemmas.Fmt.{digits_decimal, length-decimal-le}
use Rattle.grpc_base.specs.declared.address.Address.{Address}
use Rattle.grpc_base.specs.Addresses.{address_text}
use Rattle.grpc_base.specs.Authorities.{IsAuthority, is_visible}
use Rattle.grpc_base.specs.Hosts.{IsHost, is_label_byte}
use Rattle.grpc_base.specs.Pieces.{pieces}

-- what passes one test passes another
weaker : (p q : ℕ → Bool) (xs : List ℕ) → ((x : ℕ) → p x ≡ true → q x ≡ true) → list_all p xs ≡ true → list_all q xs ≡ true
weaker p q xs more all = list_all-from_AllPass q xs (λ i d below. more _ (AllPass-from_list_all p xs all i d below))

own : IsNumeralModel (λ ds. list_all is_ascii_digit ds ≡ true) (digits_value 10)
own = numerals_by_value _ (search rules)

digit_visible : (b : ℕ) → is_ascii_digit b ≡ true → is_visible b ≡ true
digit_visible b digit = grind (arith, nat_tests)

digits_visible : (n : ℕ) → n < 2 ^ 64 → list_all is_visible (decimal n) ≡ true
digits_visible n small = weaker is_ascii_digit is_visible (decimal n) digit_visible (digits_decimal own n small)

-- the bytes of the parts of a text are its bytes but for the separators
all_onto : (q : ℕ → Bool) (x : ℕ) (parts : List (List ℕ)) → list_all (list_all q) (onto_first x parts) ≡ (q x && list_all (list_all q) parts)
all_onto q x [] = by_test (q x)
  where
    by_test : (b : Bool) → ((b && true) && true) ≡ (b && true)
    by_test true = refl
    by_test false = refl
all_onto q x (part ∷ parts) = by_test (q x)
  where
    by_test : (b : Bool) → ((b && list_all q part) && list_all (list_all q) parts) ≡ (b && (list_all q part && list_all (list_all q) parts))
    by_test true = refl
    by_test false = refl

all_parts : (p q : ℕ → Bool) (xs : List ℕ) → list_all (list_all q) (slice_split p xs) ≡ list_all (λ x. p x || q x) xs
all_parts p q [] = refl
all_parts p q (x ∷ xs) = by_test (p x) (all_parts p q xs)
  where
    by_test : (b : Bool) → list_all (list_all q) (slice_split p xs) ≡ list_all (λ y. p y || q y) xs → list_all (list_all q) (cond b ([] ∷ slice_split p xs) (onto_first x (slice_split p xs))) ≡ ((b || q x) && list_all (λ y. p y || q y) xs)
    by_test true rest = rest
    by_test false rest = all_onto q x (slice_split p xs) ∙ ap (λ (b : Bool). q x && b) rest

host_byte_visible : (b : ℕ) → ((b == 46) || is_label_byte b) ≡ true → is_visible b ≡ true
host_byte_visible b is = grind (arith, nat_tests)

host_visible : (host : List ℕ) → IsHost host → list_all is_visible host ≡ true
host_visible host h =
    let parts : list_all (list_all is_label_byte) (pieces 46 host) ≡ true =
    list_all-from_AllPass (list_all is_label_byte) (pieces 46 host) (λ i d below. list_all-from_AllPass is_label_byte _ (h.labels i d below).bytes) in
    weaker (λ b. (b == 46) || is_label_byte b) is_visible host host_byte_visible (sym (all_parts (λ b. b == 46) is_label_byte host) ∙ parts)

-- one text after another, with a byte between them
joined_visible : (a b : List ℕ) (separator : ℕ) → list_all is_visible a ≡ true → is_visible separator ≡ true → list_all is_visible b ≡ true → list_all is_visible (a ++ separator ∷ b) ≡ true
joined_visible a b separator first between second =
    list_all-append is_visible a (separator ∷ b) ∙ three (list_all is_visible a) (is_visible separator) (list_all is_visible b) first between second
  where
    three : (x y z : Bool) → x ≡ true → y ≡ true → z ≡ true → (x && (y && z)) ≡ true
    three x y z s t u = rw (s, t, u) refl

three : (n : ℕ) → n < 256 → length (decimal n) ≤ 3
three n small = length-decimal-le 3 n (omega arith) (omega arith) (omega arith)

five : (n : ℕ) → n < 65536 → length (decimal n) ≤ 5
five n small = length-decimal-le 5 n (omega arith) (omega arith) (omega arith)

-- a host and a port
pub name_authority : (host : List ℕ) (port : ℕ) → IsHost host → port < 2 ^ 16 → IsAuthority (host ++ 58 ∷ decimal port)
name_authority host port h small =
    let whole : length (host ++ 58 ∷ decimal port) ≡ length host + length (58 ∷ decimal port) = length-append host (58 ∷ decimal port) in
    let digits : length (decimal port) ≤ 5 = five port (omega arith) in
    let short : length host ≤ 253 = h.within in
    let visible : list_all is_visible (host ++ 58 ∷ decimal port) ≡ true =
    joined_visible host (decimal port) 58 (host_visible host h) refl (digits_visible port (omega arith)) in
    record {
      not_empty = omega arith;
      within = omega arith;
      visible = AllPass-from_list_all is_visible (host ++ 58 ∷ decimal port) visible;
    }

-- four numbers and a port
pub address_authority : (a : Address) → a.ip < 2 ^ 32 → a.port < 2 ^ 16 → IsAuthority (address_text a)
address_authority a ip port =
    let d1 = three (a.ip / 2 ^ 24) (omega arith) in
    let d2 = three (a.ip / 2 ^ 16 % 256) (omega arith) in
    let d3 = three (a.ip / 2 ^ 8 % 256) (omega arith) in
    let d4 = three (a.ip % 256) (omega arith) in
    let d5 = five a.port (omega arith) in
    let v1 = digits_visible (a.ip / 2 ^ 24) (omega arith) in
    let v2 = digits_visible (a.ip / 2 ^ 16 % 256) (omega arith) in
    let v3 = digits_visible (a.ip / 2 ^ 8 % 256) (omega arith) in
    let v4 = digits_visible (a.ip % 256) (omega arith) in
    let v5 = digits_visible a.port (omega arith) in
    let two : List ℕ = decimal (a.ip / 2 ^ 24) ++ 46 ∷ decimal (a.ip / 2 ^ 16 % 256) in
    let more : List ℕ = two ++ 46 ∷ decimal (a.ip / 2 ^ 8 % 256) in
    let four : List ℕ = more ++ 46 ∷ decimal (a.ip % 256) in
    let w2 : list_all is_visible two ≡ true = joined_visible (decimal (a.ip / 2 ^ 24)) (decimal (a.ip / 2 ^ 16 % 256)) 46 v1 refl v2 in
    let w3 : list_all is_visible more ≡ true = joined_visible two (decimal (a.ip / 2 ^ 8 % 256)) 46 w2 refl v3 in
    let w4 : list_all is_visible four ≡ true = joined_visible more (decimal (a.ip % 256)) 46 w3 refl v4 in
    record {
      not_empty = simp length-append (omega arith);
      within = simp length-append (omega (arith, d1, d2, d3, d4, d5));
      visible = AllPass-from_list_all is_visible (address_text a) (joined_visible four (decimal a.port) 58 w4 refl v5);
    }
