-- Strings are read exactly as they are spelled.
use Rattle.std.proofs.Common.{◌≡◌, ◌⊎◌, ℕ, zero, suc, ◌+◌, ◌-◌, ◌^◌, ◌<◌, ◌≤◌, Bool, true, false, nat_le, List, [], ◌∷◌, ◌++◌, length, take, drop, refl, sym, ◌∙◌, ap, subst, arith, append_assoc, length-append, Option, Some, None, Ok, inl, inr, lit≤}
use Rattle.std.specs.Prelude.{ok_or, option_and_then}
use Rattle.std.proofs.lemmas.Bool.{cases_lt, le-leb, lt-leb}
use Rattle.std.proofs.lemmas.List.{take-append-drop}
use Rattle.h2_hpack.specs.declared.fault.HpackFault.{HpackFault}
use Rattle.h2_hpack.specs.declared.fault.HpackFault.TheVariants.{BadInteger, BadHuffman}
use Rattle.h2_hpack.specs.Blocks.{RawString, and_then, raw_string, raw_string_at, text_of, text_at}
use Rattle.h2_hpack.specs.Huffman.{IsHuffman, symbols_of}
use Rattle.h2_hpack.specs.Integers.{integer_at}
use Rattle.h2_hpack.specs.Representations.{Begins, NoneBegins, IsInteger, IsTail, tail_value, huffman_flag, IsRawString, IsText, IsString, StartsWith, HuffmanFault}
use Rattle.h2_hpack.proofs.ExactIntegers.{Exact, exact_option, exact_then, exact_as, exact_ok, AreBytes, Prefix, integer_sound, integer_complete}
use Rattle.h2_hpack.proofs.HuffmanLaws.{symbols_of-sound, symbols_of-complete}

pub seven_bits : (huffman : Bool) → Prefix 7 (huffman_flag huffman)
seven_bits true = record { low = λ k h. let below : k < 128 = h in omega (arith, below); some = lit≤ tt; few = lit≤ tt }
seven_bits false = record { low = λ k h. let below : k < 128 = h in omega (arith, below); some = lit≤ tt; few = lit≤ tt }

length_taken : (n : ℕ) (xs : List ℕ) → n ≤ length xs → length (take n xs) ≡ n
length_taken zero xs h = refl
length_taken (suc n) [] h = absurd (omega (arith, h))
length_taken (suc n) (x ∷ xs) h = ap suc (length_taken n xs (omega (arith, h)))

take-leading : (xs ys : List ℕ) → take (length xs) (xs ++ ys) ≡ xs
take-leading [] ys = refl
take-leading (x ∷ xs) ys = ap (λ l. x ∷ l) (take-leading xs ys)

drop-leading : (xs ys : List ℕ) → drop (length xs) (xs ++ ys) ≡ ys
drop-leading [] ys = refl
drop-leading (x ∷ xs) ys = drop-leading xs ys

-- a raw string that stands at the start is cut off there
pub raw_reads : (huffman : Bool) (body rest : List ℕ) → raw_string huffman (length body, body ++ rest) ≡ Some (record { huffman = huffman; bytes = body; rest = rest })
raw_reads huffman body rest =
    rw (le-leb (length body) (length (body ++ rest)) (omega (arith, length-append body rest)), take-leading body rest, drop-leading body rest) refl

no_raw : (x : RawString) → None ≡ Some x → ⊥
no_raw x h = cc h

-- what a raw string that was read is
abbrev pub IsRawAt : List ℕ → RawString → Type 0
IsRawAt bytes raw = Begins IsRawString bytes (raw.huffman, raw.bytes) raw.rest

raw_on : (huffman : Bool) (bytes : List ℕ) (x : ℕ × List ℕ) (raw : RawString) → Begins (IsInteger 7 (huffman_flag huffman)) bytes x.0 x.1 → raw_string huffman x ≡ Some raw → IsRawAt bytes raw
raw_on huffman bytes x raw b h =
    elim (cases_lt (length x.1) x.0) [
      | inl short ↦ absurd (no_raw raw (rw (lt-leb x.0 (length x.1) short) at h))
      | inr fits ↦
          let found : Some (record { huffman = huffman; bytes = take x.0 x.1; rest = drop x.0 x.1 }) ≡ Some raw = rw (le-leb x.0 (length x.1) fits) at h in
          let same : record { huffman = huffman; bytes = take x.0 x.1; rest = drop x.0 x.1 } ≡ raw = cc found in
          let cut : x.1 ≡ take x.0 x.1 ++ drop x.0 x.1 = sym (take-append-drop x.0 x.1) in
          let many : x.0 ≡ length (take x.0 x.1) = sym (length_taken x.0 x.1 fits) in
          subst (IsRawAt bytes) same (
            b.0 ++ take x.0 x.1,
            b.1 ∙ ap (λ l. b.0 ++ l) cut ∙ sym (append_assoc b.0 (take x.0 x.1) (drop x.0 x.1)),
            record {
              head = b.0;
              bytes_are = refl;
              length_is = subst (IsInteger 7 (huffman_flag huffman) b.0) many b.2;
            },
          )
    ]

raw_from : (huffman : Bool) (first : ℕ) (bytes : List ℕ) (raw : RawString) (o : Option (ℕ × List ℕ)) → integer_at 7 first bytes ≡ o → AreBytes bytes → huffman_flag huffman ≤ first → first < huffman_flag huffman + 128 → option_and_then (raw_string huffman) o ≡ Some raw → IsRawAt (first ∷ bytes) raw
raw_from huffman first bytes raw None is are least most h = absurd (no_raw raw h)
raw_from huffman first bytes raw (Some x) is are least most h =
    raw_on huffman (first ∷ bytes) x raw (integer_sound 7 (huffman_flag huffman) first bytes x.0 x.1 (seven_bits huffman) least most are is) h

pub raw_sound : (bytes : List ℕ) (raw : RawString) → AreBytes bytes → raw_string_at bytes ≡ Some raw → IsRawAt bytes raw
raw_sound [] raw are h = absurd (no_raw raw h)
raw_sound (first ∷ bytes) raw are h =
    let below : first < 256 = are.0 in
    elim (cases_lt first 128) [
      | inl low ↦ raw_from false first bytes raw (integer_at 7 first bytes) refl are.1 (omega arith) (omega (arith, low)) (rw (lt-leb 128 first low) at h)
      | inr high ↦ raw_from true first bytes raw (integer_at 7 first bytes) refl are.1 (omega (arith, high)) (omega (arith, below)) (rw (le-leb 128 first high) at h)
    ]

-- the first byte of an integer
pub first_of_integer : (bits mark : ℕ) (bytes : List ℕ) (n : ℕ) → 1 ≤ 2 ^ bits → IsInteger bits mark bytes n → StartsWith bits mark bytes
first_of_integer bits mark bytes n some is = record {
  first = mark + is.prefix;
  rest = is.tail;
  bytes_are = is.bytes_are;
  least = omega arith;
  most = below is.value;
}
  where
    below : ((is.prefix < 2 ^ bits - 1) × (is.tail ≡ []) × (n ≡ is.prefix)) ⊎ ((is.prefix ≡ 2 ^ bits - 1) × IsTail is.tail × (length is.tail ≤ 5) × (n ≡ is.prefix + tail_value is.tail)) → mark + is.prefix < mark + 2 ^ bits
    below (inl p) = omega (arith, p.0)
    below (inr p) = omega (arith, p.0, some)

flag_reported : (huffman : Bool) (first : ℕ) → huffman_flag huffman ≤ first → first < huffman_flag huffman + 2 ^ 7 → nat_le 128 first ≡ huffman
flag_reported true first least most = le-leb 128 first least
flag_reported false first least most = lt-leb 128 first most

heads : (a b : ℕ) (xs ys : List ℕ) → a ∷ xs ≡ b ∷ ys → (a ≡ b) × (xs ≡ ys)
heads a b xs ys h = (cc h, cc h)

nothing_first : (b : ℕ) (ys : List ℕ) → [] ≡ b ∷ ys → ⊥
nothing_first b ys h = cc h

pub raw_complete : (bytes : List ℕ) (raw : RawString) → AreBytes bytes → IsRawAt bytes raw → raw_string_at bytes ≡ Some raw
raw_complete [] raw are b =
    let f = first_of_integer 7 (huffman_flag raw.huffman) b.2.head (length raw.bytes) (lit≤ tt) b.2.length_is in
    absurd (nothing_first f.first ((f.rest ++ raw.bytes) ++ raw.rest) (b.1 ∙ ap (λ l. l ++ raw.rest) (b.2.bytes_are ∙ ap (λ l. l ++ raw.bytes) f.bytes_are)))
raw_complete (first ∷ bytes) raw are b =
    let f = first_of_integer 7 (huffman_flag raw.huffman) b.2.head (length raw.bytes) (lit≤ tt) b.2.length_is in
    let same : first ≡ f.first = (heads first f.first bytes ((f.rest ++ raw.bytes) ++ raw.rest) (b.1 ∙ ap (λ l. l ++ raw.rest) (b.2.bytes_are ∙ ap (λ l. l ++ raw.bytes) f.bytes_are))).0 in
    let flag : nat_le 128 first ≡ raw.huffman = ap (λ x. nat_le 128 x) same ∙ flag_reported raw.huffman f.first f.least f.most in
    let whole : first ∷ bytes ≡ b.2.head ++ (raw.bytes ++ raw.rest) = b.1 ∙ ap (λ l. l ++ raw.rest) b.2.bytes_are ∙ append_assoc b.2.head raw.bytes raw.rest in
    let read : integer_at 7 first bytes ≡ Some (length raw.bytes, raw.bytes ++ raw.rest) = integer_complete 7 (huffman_flag raw.huffman) first bytes (length raw.bytes) (raw.bytes ++ raw.rest) (seven_bits raw.huffman) are.1 (b.2.head, whole, b.2.length_is) in
    rw (flag, read) (raw_reads raw.huffman raw.bytes raw.rest)

exact_raw : (bytes : List ℕ) → AreBytes bytes → Exact (ok_or (raw_string_at bytes) BadInteger) (IsRawAt bytes) (λ e. (e ≡ BadInteger) × ((raw : RawString) → IsRawAt bytes raw → ⊥))
exact_raw bytes are = exact_option (raw_string_at bytes) BadInteger (IsRawAt bytes) (λ raw h. raw_sound bytes raw are h) (λ raw h. raw_complete bytes raw are h)

pub exact_text : (huffman : Bool) (bytes : List ℕ) → Exact (ok_or (text_of huffman bytes) BadHuffman) (IsText huffman bytes) (λ e. (e ≡ BadHuffman) × ((text : List ℕ) → IsText huffman bytes text → ⊥))
exact_text true bytes = exact_option (symbols_of bytes) BadHuffman (IsHuffman bytes) (λ text h. symbols_of-sound bytes text h) (λ text h. symbols_of-complete bytes text h)
exact_text false bytes = exact_option (Some bytes) BadHuffman (λ text. text ≡ bytes) (λ text h. same text h) (λ text h. ap Some (sym h))
  where
    same : (text : List ℕ) → Some bytes ≡ Some text → text ≡ bytes
    same text h = cc h

-- why no string can be read
abbrev pub StringFault : List ℕ → HpackFault → Type 0
StringFault bytes e = ((e ≡ BadInteger) × NoneBegins IsRawString bytes) ⊎ ((e ≡ BadHuffman) × HuffmanFault bytes)

-- the same as it is read
abbrev pub TextFault : RawString → HpackFault → Type 0
TextFault raw e = ((e ≡ BadHuffman) × ((text : List ℕ) → IsText raw.huffman raw.bytes text → ⊥)) ⊎ ((text : List ℕ) × IsText raw.huffman raw.bytes text × ⊥)

abbrev pub TextAt : RawString → List ℕ × List ℕ → Type 0
TextAt raw x = (text : List ℕ) × IsText raw.huffman raw.bytes text × ((text, raw.rest) ≡ x)

abbrev pub RawFault : List ℕ → HpackFault → Type 0
RawFault bytes e = ((e ≡ BadInteger) × ((raw : RawString) → IsRawAt bytes raw → ⊥)) ⊎ ((raw : RawString) × IsRawAt bytes raw × TextFault raw e)

abbrev pub Texts : List ℕ → List ℕ × List ℕ → Type 0
Texts bytes x = (raw : RawString) × IsRawAt bytes raw × TextAt raw x

string_to : (bytes : List ℕ) (x : List ℕ × List ℕ) → Texts bytes x → Begins IsString bytes x.0 x.1
string_to bytes x p =
    subst (λ (y : List ℕ × List ℕ). Begins IsString bytes y.0 y.1) p.2.2
    (p.1.0, p.1.1, record { huffman = p.0.huffman; body = p.0.bytes; raw = p.1.2; says = p.2.1 })

string_back : (bytes : List ℕ) (x : List ℕ × List ℕ) → Begins IsString bytes x.0 x.1 → Texts bytes x
string_back bytes x b =
    (record { huffman = b.2.huffman; bytes = b.2.body; rest = x.1 }, (b.0, b.1, b.2.raw), (x.0, b.2.says, refl))

huffman_fault : (huffman : Bool) (bytes body rest : List ℕ) → Begins IsRawString bytes (huffman, body) rest → ((text : List ℕ) → IsText huffman body text → ⊥) → HuffmanFault bytes
huffman_fault true bytes body rest b none = (body, rest, b, none)
huffman_fault false bytes body rest b none = absurd (none body refl)

string_bad_to : (bytes : List ℕ) (e : HpackFault) → RawFault bytes e → StringFault bytes e
string_bad_to bytes e (inl p) = inl (p.0, λ x rest b. p.1 (record { huffman = x.0; bytes = x.1; rest = rest }) b)
string_bad_to bytes e (inr p) = on p.0 p.1 p.2
  where
    on : (raw : RawString) → IsRawAt bytes raw → TextFault raw e → StringFault bytes e
    on raw b (inl q) = inr (q.0, huffman_fault raw.huffman bytes raw.bytes raw.rest b q.1)
    on raw b (inr q) = absurd q.2

string_bad_back : (bytes : List ℕ) (e : HpackFault) → StringFault bytes e → RawFault bytes e
string_bad_back bytes e (inl p) = inl (p.0, λ raw b. p.1 (raw.huffman, raw.bytes) raw.rest b)
string_bad_back bytes e (inr p) = inr (record { huffman = true; bytes = p.1.0; rest = p.1.1 }, p.1.2, inl (p.0, p.1.3))

pub exact_string : (bytes : List ℕ) → AreBytes bytes → Exact (text_at bytes) (λ x. Begins IsString bytes x.0 x.1) (StringFault bytes)
exact_string bytes are =
    exact_as (text_at bytes) (Texts bytes) (λ x. Begins IsString bytes x.0 x.1) (RawFault bytes) (StringFault bytes)
    (exact_then (ok_or (raw_string_at bytes) BadInteger) (λ raw. and_then (ok_or (text_of raw.huffman raw.bytes) BadHuffman) (λ text. Ok (text, raw.rest))) (IsRawAt bytes) (λ e. (e ≡ BadInteger) × ((raw : RawString) → IsRawAt bytes raw → ⊥)) TextAt TextFault
    (exact_raw bytes are)
    (λ raw h. exact_then (ok_or (text_of raw.huffman raw.bytes) BadHuffman) (λ text. Ok (text, raw.rest)) (IsText raw.huffman raw.bytes) (λ e. (e ≡ BadHuffman) × ((text : List ℕ) → IsText raw.huffman raw.bytes text → ⊥)) (λ text x. (text, raw.rest) ≡ x) (λ text e. ⊥)
    (exact_text raw.huffman raw.bytes) (λ text says. exact_ok (text, raw.rest))))
    (string_to bytes) (string_back bytes) (string_bad_to bytes) (string_bad_back bytes)
