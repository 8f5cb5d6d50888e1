-- Targets read item by item.
use Rattle.std.proofs.Common.{◌≡◌, ℕ, suc, ◌+◌, ◌-◌, ◌<◌, Bool, true, false, List, [], ◌∷◌, length, Option, Some, None, Result, Ok, Err, refl, ap, sym, ◌∙◌, arith, nat_le, ◌||◌, if◌then◌else◌, nat_lt, inl, inr, ◌++◌, ◌≤◌, length-append}
use Rattle.std.proofs.lemmas.Bool.Decides.{nat_tests}
use Rattle.std.proofs.lemmas.Bool.{cases_lt}
use Rattle.grpc_base.specs.declared.address.Address.{Address}
use Rattle.grpc_base.specs.Addresses.{has_address, with_address}
use Rattle.resolver_core.specs.declared.target.TargetFault.{TargetFault}
use Rattle.resolver_core.specs.declared.target.TargetFault.TheVariants as fault
use Rattle.grpc_base.specs.Pieces.{pieces}
use Rattle.resolver_core.specs.Targets.{address_before, address_from, address_of, ip_from, ip_of, items_of, listed_of, with_addresses}
use Rattle.resolver_core.proofs.PieceLaws.{pieces-some}

-- the list that further items give, where this many more may come
abbrev pub listed_from : List Address → ℕ → Bool → Option (List Address) → Result (List Address) TargetFault
listed_from addresses left over None = Err fault.BadTarget
listed_from addresses left over (Some items) =
    if over || nat_lt left (length items) then Err fault.TooMany else Ok (with_addresses addresses items)

lt_both : (n left : ℕ) → 0 < left → nat_lt (left - 1) n ≡ nat_lt left (suc n)
lt_both n left some_left = elim (cases_lt (left - 1) n) [ inl over ↦ (let t : nat_lt (left - 1) n ≡ true = grind (arith, nat_tests) in let u : nat_lt left (suc n) ≡ true = grind (arith, nat_tests) in t ∙ sym u) | inr within ↦ (let t : nat_lt (left - 1) n ≡ false = grind (arith, nat_tests) in let u : nat_lt left (suc n) ≡ false = grind (arith, nat_tests) in t ∙ sym u) ]

-- one item within the most
pub listed_from-one : (addresses : List Address) (left : ℕ) (over : Bool) (a : Address) (items : Option (List Address)) → 0 < left → listed_from (with_address addresses a) (left - 1) over items ≡ listed_from addresses left over (address_before (Some a) items)
listed_from-one addresses left over a None some_left = refl
listed_from-one addresses left true a (Some items) some_left = refl
listed_from-one addresses left false a (Some items) some_left =
    let e : nat_lt (left - 1) (length items) ≡ nat_lt left (length (a ∷ items)) = lt_both (length items) left some_left in
    rw e refl

-- an address more
longer : (addresses : List Address) (a : Address) → length (with_address addresses a) ≤ length addresses + 1
longer addresses a = by_test (has_address addresses a)
  where
    by_test : (b : Bool) → length (if b then addresses else addresses ++ a ∷ []) ≤ length addresses + 1
    by_test true = omega arith
    by_test false = simp length-append (omega arith)

-- the next item is an address, and there is room for it
pub room_left : (addresses new : List Address) (left : ℕ) (a : Address) → 0 < left → length addresses + left ≤ 64 → new ≡ with_address addresses a → length new + (left - 1) ≤ 64
room_left addresses new left a some_left room is =
    let most : length (with_address addresses a) ≤ length addresses + 1 = longer addresses a in
    rw is (omega arith)

pub items_left : (addresses new : List Address) (left : ℕ) (over : Bool) (a : Address) (item text : List ℕ) (others : List (List ℕ)) → 0 < left → new ≡ with_address addresses a → pieces 44 text ≡ item ∷ others → Some a ≡ address_of item → listed_from new (left - 1) over (items_of others) ≡ listed_from addresses left over (items_of (pieces 44 text))
items_left addresses new left over a item text others some_left is parted reads =
    ap (λ (l : List Address). listed_from l (left - 1) over (items_of others)) is
    ∙ listed_from-one addresses left over a (items_of others) some_left
    ∙ ap (λ (o : Option Address). listed_from addresses left over (address_before o (items_of others))) reads
    ∙ ap (λ (ps : List (List ℕ)). listed_from addresses left over (items_of ps)) (sym parted)

-- five parts are no address
ip_from-five : (a b c d : List ℕ) (more : List (List ℕ)) → (more ≡ [] → ⊥) → ip_from (a ∷ b ∷ c ∷ d ∷ more) ≡ None
ip_from-five a b c d [] some = absurd (some refl)
ip_from-five a b c d (e ∷ more) some = refl

pub ip_of-five : (text one two three four a b c d : List ℕ) → pieces 46 text ≡ a ∷ pieces 46 one → pieces 46 one ≡ b ∷ pieces 46 two → pieces 46 two ≡ c ∷ pieces 46 three → pieces 46 three ≡ d ∷ pieces 46 four → ip_of text ≡ None
ip_of-five text one two three four a b c d e f g h =
    let all : pieces 46 text ≡ a ∷ b ∷ c ∷ d ∷ pieces 46 four = (cc) in
    ap ip_from all ∙ ip_from-five a b c d (pieces 46 four) (pieces-some 46 four)

-- three parts with colons are no address
address_from-three : (a b : List ℕ) (more : List (List ℕ)) → (more ≡ [] → ⊥) → address_from (a ∷ b ∷ more) ≡ None
address_from-three a b [] some = absurd (some refl)
address_from-three a b (c ∷ more) some = refl

pub address_of-three : (text one two a b : List ℕ) → pieces 58 text ≡ a ∷ pieces 58 one → pieces 58 one ≡ b ∷ pieces 58 two → address_of text ≡ None
address_of-three text one two a b e f =
    let all : pieces 58 text ≡ a ∷ b ∷ pieces 58 two = (cc) in
    ap address_from all ∙ address_from-three a b (pieces 58 two) (pieces-some 58 two)
