-- Addresses and their one spelling.
use Rattle.std.proofs.Common.{◌≡◌, ℕ, ◌+◌, ◌*◌, ◌/◌, ◌%◌, ◌^◌, ◌≤◌, List, ◌∷◌, ◌++◌, sym, arith, append_assoc, ◌∙◌, inl, inr}
use Rattle.std.specs.Prelude.{decimal}
use Rattle.grpc_base.specs.declared.address.Address.{Address}
use Rattle.script_fields.specs.Spelling.{address_text}
use Rattle.script_fields.specs.Values.{IsAddress}
use Rattle.script_fields.specs.Values.{IsNoDigit}
use Rattle.script_fields.proofs.TextLaws.{same_number}

-- four numbers and a port, one after the other
abbrev pub last_two : ℕ → ℕ → List ℕ
last_two d port = decimal d ++ (58 ∷ decimal port)

abbrev pub last_three : ℕ → ℕ → ℕ → List ℕ
last_three c d port = decimal c ++ (46 ∷ last_two d port)

abbrev pub last_four : ℕ → ℕ → ℕ → ℕ → List ℕ
last_four b c d port = decimal b ++ (46 ∷ last_three c d port)

abbrev pub quad : ℕ → ℕ → ℕ → ℕ → ℕ → List ℕ
quad a b c d port = decimal a ++ (46 ∷ last_four b c d port)

quad-left : (a b c d p : List ℕ) → (((a ++ (46 ∷ b)) ++ (46 ∷ c)) ++ (46 ∷ d)) ++ (58 ∷ p) ≡ a ++ (46 ∷ (b ++ (46 ∷ (c ++ (46 ∷ (d ++ (58 ∷ p)))))))
quad-left a b c d p =
    append_assoc ((a ++ (46 ∷ b)) ++ (46 ∷ c)) (46 ∷ d) (58 ∷ p) ∙ append_assoc (a ++ (46 ∷ b)) (46 ∷ c) (46 ∷ (d ++ (58 ∷ p))) ∙ append_assoc a (46 ∷ b) (46 ∷ (c ++ (46 ∷ (d ++ (58 ∷ p)))))

pub text_is_quad : (a : Address) → address_text a ≡ quad (a.ip / 2 ^ 24) (a.ip / 2 ^ 16 % 256) (a.ip / 2 ^ 8 % 256) (a.ip % 256) a.port
text_is_quad a = quad-left (decimal (a.ip / 2 ^ 24)) (decimal (a.ip / 2 ^ 16 % 256)) (decimal (a.ip / 2 ^ 8 % 256)) (decimal (a.ip % 256)) (decimal a.port)

quad_parts : (a b c d port a2 b2 c2 d2 port2 : ℕ) → a ≡ a2 → b ≡ b2 → c ≡ c2 → d ≡ d2 → port ≡ port2 → quad a b c d port ≡ quad a2 b2 c2 d2 port2
quad_parts a b c d port a2 b2 c2 d2 port2 e f g h i = (cc)

pub address_made : (a b c d port : ℕ) (text : List ℕ) → a ≤ 255 → b ≤ 255 → c ≤ 255 → d ≤ 255 → port ≤ 65535 → (port ≡ 0 → ⊥) → text ≡ quad a b c d port → (made : Address) → made.ip ≡ ((a * 256 + b) * 256 + c) * 256 + d → made.port ≡ port → IsAddress made × (text ≡ address_text made)
address_made a b c d port text p q r s t u e made ip is_port = (
  record { ip = omega (arith, ip); port_low = omega (arith, is_port, u); port_high = omega (arith, is_port) },
  e ∙ quad_parts _ _ _ _ _ _ _ _ _ _ (omega (arith, ip)) (omega (arith, ip)) (omega (arith, ip)) (omega (arith, ip)) (sym is_port) ∙ sym (text_is_quad made),
)

pub dot : IsNoDigit 46
dot = inl (omega arith)

pub colon : IsNoDigit 58
colon = inr (omega arith)

-- what stands after a small number is known
pub tail_of : (b n k : ℕ) (text r s : List ℕ) → IsNoDigit b → n ≤ 255 → k ≤ 255 → text ≡ decimal n ++ b ∷ r → text ≡ decimal k ++ b ∷ s → r ≡ s
tail_of b n k text r s nd small small_k e f = (same_number b n k text r s nd (omega (arith, small)) (omega (arith, small_k)) e f).1

-- the four numbers of an address are bytes
pub byte_a : (a : Address) → IsAddress a → a.ip / 2 ^ 24 ≤ 255
byte_a a is = omega (arith, is.ip)

pub byte_b : (a : Address) → a.ip / 2 ^ 16 % 256 ≤ 255
byte_b a = omega arith

pub byte_c : (a : Address) → a.ip / 2 ^ 8 % 256 ≤ 255
byte_c a = omega arith

pub byte_d : (a : Address) → a.ip % 256 ≤ 255
byte_d a = omega arith

-- what an address leaves after its first number, its second, its third and its fourth
pub after_the_first : (n : ℕ) (text r : List ℕ) (a : Address) → IsAddress a → text ≡ address_text a → n ≤ 255 → text ≡ decimal n ++ 46 ∷ r → r ≡ last_four (a.ip / 2 ^ 16 % 256) (a.ip / 2 ^ 8 % 256) (a.ip % 256) a.port
after_the_first n text r a is e small f = tail_of 46 n (a.ip / 2 ^ 24) text r _ dot small (byte_a a is) f (e ∙ text_is_quad a)

pub after_second : (n : ℕ) (text r : List ℕ) (a : Address) → text ≡ last_four (a.ip / 2 ^ 16 % 256) (a.ip / 2 ^ 8 % 256) (a.ip % 256) a.port → n ≤ 255 → text ≡ decimal n ++ 46 ∷ r → r ≡ last_three (a.ip / 2 ^ 8 % 256) (a.ip % 256) a.port
after_second n text r a e small f = tail_of 46 n (a.ip / 2 ^ 16 % 256) text r _ dot small (byte_b a) f e

pub after_third : (n : ℕ) (text r : List ℕ) (a : Address) → text ≡ last_three (a.ip / 2 ^ 8 % 256) (a.ip % 256) a.port → n ≤ 255 → text ≡ decimal n ++ 46 ∷ r → r ≡ last_two (a.ip % 256) a.port
after_third n text r a e small f = tail_of 46 n (a.ip / 2 ^ 8 % 256) text r _ dot small (byte_c a) f e

pub after_fourth : (n : ℕ) (text r : List ℕ) (a : Address) → text ≡ last_two (a.ip % 256) a.port → n ≤ 255 → text ≡ decimal n ++ 58 ∷ r → r ≡ decimal a.port
after_fourth n text r a e small f = tail_of 58 n (a.ip % 256) text r _ colon small (byte_d a) f e
