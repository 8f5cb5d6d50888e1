-- Lists of addresses that a text spells.
use Rattle.std.proofs.Common.{◌≡◌, ◌≢◌, ℕ, ◌+◌, ◌/◌, ◌%◌, ◌^◌, ◌<◌, ◌≤◌, List, [], ◌∷◌, ◌++◌, length, refl, ap, sym, subst, arith, All, Option, Some, None, ◌∙◌, map, append_assoc, inl, inr, ◌⊎◌, length-append}
use Rattle.std.specs.List.{AllByRecursion, fold}
use Rattle.std.specs.Prelude.{decimal}
use Rattle.std.proofs.lemmas.Bool.{cases_lt}
use Rattle.std.proofs.lemmas.List.{map-append}
use Rattle.std.proofs.lemmas.List.Sums.{fold-append}
use Rattle.std.proofs.lemmas.List.Elements.{recursion_from_All, All-from_recursion, All-push}
use Rattle.grpc_base.specs.declared.address.Address.{Address}
use Rattle.grpc_base.specs.Addresses.{address_limit, has_address, with_address}
use Rattle.grpc_base.specs.Pieces.{pieces, pieces_of_rest}
use Rattle.script_fields.specs.Spelling.{address_text, addresses_text}
use Rattle.script_fields.specs.Reading.{SpellsAddresses, listed}
use Rattle.script_fields.specs.Values.{IsAddress, IsNoDigit}
use Rattle.script_fields.proofs.AddressLaws.{byte_a, byte_b, byte_c, byte_d, text_is_quad}
use Rattle.script_fields.proofs.MetaLaws.{append_free}
use Rattle.script_fields.proofs.PartLaws.{all_read, one_spelled, pieces-joined}
use Rattle.script_fields.proofs.TextLaws.{bool_cases, free_of}

-- how many addresses were read, and the list of them where they are few
abbrev IsCounted : List Address → ℕ → List Address → Type 0
IsCounted items count list = ((length items ≤ 64) × (count ≡ length items) × (list ≡ listed items)) ⊎ ((64 < length items) × (count ≡ 65))

-- what has been read of a text, and what is left
pub record IsReadList (text : List ℕ) (list : List Address) (count : ℕ) (rest : Option (List ℕ)) : Type 0 where
  pub items : List Address
  pub good : All IsAddress items
  pub parts : pieces 44 text ≡ map address_text items ++ pieces_of_rest 44 rest
  pub counted : IsCounted items count list

-- an address has no comma
no_comma : IsNoDigit 44
no_comma = inl (omega arith)

no_dot : ◌≢◌ {A = ℕ} 46 44
no_dot e = omega (arith, e)

no_colon : ◌≢◌ {A = ℕ} 58 44
no_colon e = omega (arith, e)

before : (n b : ℕ) (rest : List ℕ) → n < 2 ^ 64 → b ≢ 44 → AllByRecursion (λ d. d ≢ 44) rest → AllByRecursion (λ d. d ≢ 44) (decimal n ++ b ∷ rest)
before n b rest small other free = append_free (λ d. d ≢ 44) (decimal n) (b ∷ rest) (free_of 44 n no_comma small) (other, free)

address_free : (a : Address) → IsAddress a → AllByRecursion (λ d. d ≢ 44) (address_text a)
address_free a is =
    subst (AllByRecursion (λ d. d ≢ 44)) (sym (text_is_quad a))
    (before (a.ip / 2 ^ 24) 46 _ (omega (arith, byte_a a is)) no_dot
    (before (a.ip / 2 ^ 16 % 256) 46 _ (omega (arith, byte_b a)) no_dot
    (before (a.ip / 2 ^ 8 % 256) 46 _ (omega (arith, byte_c a)) no_dot
    (before (a.ip % 256) 58 _ (omega (arith, byte_d a)) no_colon (free_of 44 a.port no_comma (omega (arith, is.port_high)))))))

addresses_free : (xs : List Address) → AllByRecursion IsAddress xs → AllByRecursion (λ (v : List ℕ). AllByRecursion (λ d. d ≢ 44) v) (map address_text xs)
addresses_free [] good = tt
addresses_free (x ∷ xs) good = (address_free x good.0, addresses_free xs good.1)

-- a text that is no dash has the spellings of its addresses as its parts
pub addresses_parted : (text : List ℕ) (xs : List Address) → text ≢ 45 ∷ [] → SpellsAddresses text xs → pieces 44 text ≡ map address_text xs
addresses_parted text [] other spelled = absurd (other spelled.1)
addresses_parted text (x ∷ xs) other spelled = ap (pieces 44) spelled.1 ∙ pieces-joined 44 (address_text x) (map address_text xs) (addresses_free (x ∷ xs) (recursion_from_All IsAddress (x ∷ xs) spelled.0))

-- a list is no longer than what it is made of
with_length : (xs : List Address) (a : Address) → length (with_address xs a) ≤ length xs + 1
with_length xs a =
    elim (bool_cases (has_address xs a)) [
      | inl there ↦ (rw there (omega arith))
      | inr new ↦ (rw new (omega (arith, length-append xs (a ∷ []))))
    ]

pub fold_length : (acc xs : List Address) → length (fold with_address acc xs) ≤ length acc + length xs
fold_length acc [] = omega arith
fold_length acc (x ∷ xs) = (let rest = fold_length (with_address acc x) xs in let one = with_length acc x in omega (arith, rest, one))

listed_more : (xs : List Address) (a : Address) → listed (xs ++ a ∷ []) ≡ with_address (listed xs) a
listed_more xs a = fold-append with_address [] xs (a ∷ [])

counted_next : (items : List Address) (a : Address) (count made : ℕ) (list new : List Address) → IsCounted items count list → (count < address_limit → length list ≤ count → (made ≡ count + 1) × (new ≡ with_address list a)) → (address_limit ≤ count → made ≡ address_limit + 1) → IsCounted (items ++ a ∷ []) made new
counted_next items a count made list new is few many =
    let size : length (items ++ a ∷ []) ≡ length items + 1 = length-append items (a ∷ []) in
    elim is [
      | inl some ↦ elim (cases_lt count 64) [
        | inl below ↦ (
            let short : length (listed items) ≤ 0 + length items = fold_length [] items in
            let same : length list ≡ length (listed items) = ap length some.2 in
            let got : (made ≡ count + 1) × (new ≡ with_address list a) = few below (omega (arith, short, same, some.1)) in
            inl (omega (arith, size, below, some.1), (omega (arith, size, got.0, some.1)), (got.1 ∙ ap (λ (l : List Address). with_address l a) some.2 ∙ sym (listed_more items a)))
            )
        | inr full ↦ inr (omega (arith, size, full, some.1), many full)
      ]
      | inr past ↦ inr (omega (arith, size, past.0), many (omega (arith, past.1)))
    ]

-- ---- the loop

pub list_refused : (text : List ℕ) (list : List Address) (count : ℕ) (items item : List ℕ) (afterwards : Option (List ℕ)) (xs : List Address) → text ≢ 45 ∷ [] → IsReadList text list count (Some items) → pieces 44 items ≡ item ∷ pieces_of_rest 44 afterwards → ((a : Address) → IsAddress a → item ≡ address_text a → ⊥) → SpellsAddresses text xs → ⊥
list_refused text list count items item afterwards xs other is first none spelled =
    let parts : map address_text xs ≡ map address_text is.items ++ item ∷ pieces_of_rest 44 afterwards =
    sym (addresses_parted text xs other spelled) ∙ is.parts ∙ ap (λ (t : List (List ℕ)). map address_text is.items ++ t) first in
    let one : (a : Address) × IsAddress a × (item ≡ address_text a) =
    one_spelled address_text IsAddress xs (map address_text is.items) item (pieces_of_rest 44 afterwards) (recursion_from_All IsAddress xs spelled.0) parts in
    none one.0 one.1 one.2

pub list_more : (text : List ℕ) (list new : List Address) (count made : ℕ) (items item : List ℕ) (afterwards : Option (List ℕ)) (a : Address) → IsReadList text list count (Some items) → pieces 44 items ≡ item ∷ pieces_of_rest 44 afterwards → IsAddress a → item ≡ address_text a → (count < address_limit → length list ≤ count → (made ≡ count + 1) × (new ≡ with_address list a)) → (address_limit ≤ count → made ≡ address_limit + 1) → IsReadList text new made afterwards
list_more text list new count made items item afterwards a is first good spelled few many =
    let whole : map address_text (is.items ++ a ∷ []) ≡ map address_text is.items ++ address_text a ∷ [] = map-append address_text is.items (a ∷ []) in
    let parts : pieces 44 text ≡ map address_text is.items ++ address_text a ∷ pieces_of_rest 44 afterwards =
    is.parts ∙ ap (λ (t : List (List ℕ)). map address_text is.items ++ t) (first ∙ ap (λ (v : List ℕ). v ∷ pieces_of_rest 44 afterwards) spelled) in
    record {
      items = is.items ++ a ∷ [];
      good = All-push IsAddress is.items a is.good good;
      parts = parts ∙ sym (append_assoc (map address_text is.items) (address_text a ∷ []) (pieces_of_rest 44 afterwards)) ∙ ap (λ (t : List (List ℕ)). t ++ pieces_of_rest 44 afterwards) (sym whole);
      counted = counted_next is.items a count made list new is.counted few many;
    }

-- all is read
whole_text : (text : List ℕ) (items : List Address) → pieces 44 text ≡ map address_text items ++ [] → text ≡ addresses_text items
whole_text text [] e = absurd ((all_read 44 text [] e).0 refl)
whole_text text (x ∷ items) e = (all_read 44 text (map address_text (x ∷ items)) e).1

pub list_few : (text : List ℕ) (list : List Address) (count : ℕ) → IsReadList text list count None → count ≤ 64 → (xs : List Address) × SpellsAddresses text xs × (length xs ≤ address_limit) × (list ≡ listed xs)
list_few text list count is few =
    elim is.counted [
      | inl some ↦ (is.items, (is.good, whole_text text is.items is.parts), some.0, some.2)
      | inr past ↦ absurd (omega (arith, past.1, few))
    ]

pub list_many : (text : List ℕ) (list : List Address) (count : ℕ) → IsReadList text list count None → 64 < count → (xs : List Address) × SpellsAddresses text xs × (address_limit < length xs)
list_many text list count is many =
    elim is.counted [
      | inl some ↦ absurd (omega (arith, some.0, some.1, many))
      | inr past ↦ (is.items, (is.good, whole_text text is.items is.parts), past.0)
    ]
