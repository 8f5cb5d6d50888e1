-- What has been read of a text is the prefix of one, byte by byte.
use Rattle.std.proofs.Common.{◌≡◌, ℕ, List, [], ◌∷◌, ◌++◌, true, false, refl, ap, sym, subst, ◌∙◌, inl, inr, append_assoc, Ok, Err, Result, length, arith}
use Rattle.std.specs.Prelude.{◌==◌, ◌⊎◌, nat_lt}
use Rattle.std.proofs.lemmas.Bool.Decides.{nat_tests}
use Rattle.grpc_base.specs.declared.event.JsonFault.{JsonFault}
use Rattle.grpc_base.specs.declared.event.JsonFault.TheVariants as fault
use Rattle.json_text.specs.Tree.{Tree, null, boolean, number, string, list, object, Items, no_items, item_after, Members, no_members, member_after, is_named}
use Rattle.json_text.specs.Numbers.{is_digit, number_byte}
use Rattle.json_text.specs.Strings.{quoted_next}
use Rattle.json_text.specs.Reading.{Parent, in_list, in_object, Stage, at_top, at_first_value, at_value, at_first_name, at_name, at_colon, after_item, after_member, in_word, in_number, in_string, in_name, at_end, State, most_levels, put, opened, go, value_byte, top_byte, first_value_byte, next_value_byte, first_name_byte, next_name_byte, colon_byte, item_byte, member_byte, end_byte, after_number, letters_left, word_byte, digit_byte, string_goes, named, name_goes, step_at, ended}
use Rattle.json_text.specs.Faults.{Awaits, RepeatsName, OpensTooDeep, ExponentAt}
use Rattle.json_text.specs.Grammar.{IsBlank, IsString, Named, IsValue, InList, BeforeItem, InObject, BeforeName, IsObject, IsText, is_blank}
use Rattle.json_text.specs.declared.number.Part.{Part}
use Rattle.json_text.specs.declared.number.NumberByte.{NumberByte}
use Rattle.json_text.specs.declared.number.NumberByte.TheVariants as digit
use Rattle.json_text.specs.declared.string.QuotedNext.{QuotedNext}
use Rattle.json_text.specs.declared.string.QuotedNext.TheVariants as next
use Rattle.json_text.proofs.Tools.{by_if, same, snoc2, snoc3, append_nil, blank_snoc, ended_blank, comma_blank}
use Rattle.json_text.proofs.Digits.{IsPart, PartGoes, part_goes}
use Rattle.json_text.proofs.Quotes.{InQuoted, QuotedGoes, quoted_goes, opened_is}

-- something is open
abbrev pub IsInside : List Parent → Type 0
IsInside [] = ⊥
IsInside (q ∷ ps) = Unit {0}

-- the prefix of a text up to where a value may begin
abbrev pub Await : List Parent → List ℕ → Type 0
Await [] p = IsBlank p
Await (in_list items ∷ ps) p = (outer inner : List ℕ) × (p ≡ outer ++ 91 ∷ inner) × Await ps outer × BeforeItem items inner × IsInside ps
Await (in_object members name ∷ ps) p =
    (outer inner : List ℕ) × (p ≡ outer ++ 123 ∷ inner) × Await ps outer × Named (λ f. BeforeName members f) name inner

-- a value that may stand there
abbrev pub MayStand : Tree → List Parent → Type 0
MayStand v [] = IsObject v
MayStand v (q ∷ ps) = Unit {0}

abbrev pub HasItem : Items → Type 0
HasItem no_items = ⊥
HasItem (item_after items v) = Unit {0}

abbrev pub HasMember : Members → Type 0
HasMember no_members = ⊥
HasMember (member_after ms k v) = Unit {0}

-- the prefix of a text up to a place
abbrev pub Holds : Stage → List Parent → List ℕ → Type 0
Holds at_top ps p = Await ps p
Holds at_first_value ps p = (outer inner : List ℕ) × (p ≡ outer ++ 91 ∷ inner) × Await ps outer × IsBlank inner × IsInside ps
Holds at_value ps p = Await ps p × IsInside ps
Holds at_first_name ps p = (outer inner : List ℕ) × (p ≡ outer ++ 123 ∷ inner) × Await ps outer × IsBlank inner
Holds (at_name ms) ps p = (outer inner : List ℕ) × (p ≡ outer ++ 123 ∷ inner) × Await ps outer × BeforeName ms inner
Holds at_colon [] p = ⊥
Holds at_colon (in_list items ∷ ps) p = ⊥
Holds at_colon (in_object ms name ∷ ps) p =
    (outer f s w : List ℕ) × (p ≡ outer ++ (123 ∷ (f ++ (s ++ w)))) × Await ps outer × BeforeName ms f × IsString name s × IsBlank w
Holds (after_item items) ps p =
    (outer inner : List ℕ) × (p ≡ outer ++ 91 ∷ inner) × Await ps outer × InList items inner × HasItem items × IsInside ps
Holds (after_member ms) ps p =
    (outer inner : List ℕ) × (p ≡ outer ++ 123 ∷ inner) × Await ps outer × InObject ms inner × HasMember ms
Holds (in_word c cs v) ps p =
    (outer prefix : List ℕ) × (p ≡ outer ++ prefix) × Await ps outer × IsValue v (prefix ++ c ∷ cs) × IsInside ps
Holds (in_number q start t) ps p = (outer : List ℕ) × (p ≡ outer ++ t) × Await ps outer × IsPart q t × IsInside ps × (start ≡ length outer)
Holds (in_string q) ps p =
    (outer t : List ℕ) × (p ≡ outer ++ 34 ∷ t) × Await ps outer × InQuoted q.spot q.read t × IsInside ps
Holds (in_name ms start q) ps p =
    (outer f t : List ℕ) × (p ≡ outer ++ (123 ∷ (f ++ 34 ∷ t))) × Await ps outer × BeforeName ms f × InQuoted q.spot q.read t
    × (start ≡ length (outer ++ 123 ∷ f))
Holds (at_end v) ps p = IsText v p

awaits : (ps : List Parent) (p : List ℕ) → Await ps p → Awaits (length ps) p
awaits [] p h = h
awaits (in_list items ∷ []) p h = absurd h.5
awaits (in_object ms name ∷ []) p h = (ms, name, h.0, h.1, h.2, h.3, h.4)
awaits (in_list items ∷ q ∷ ps) p h = inl (items, h.0, h.1, h.2, awaits (q ∷ ps) h.0 h.3, h.4)
awaits (in_object ms name ∷ q ∷ ps) p h = inr (ms, name, h.0, h.1, h.2, awaits (q ∷ ps) h.0 h.3, h.4)

-- what one byte more, at this place, makes of it
abbrev pub Kept : ℕ → List ℕ → Result State JsonFault → Type 0
Kept at p (Ok s) = Holds s.stage s.parents p
Kept at p (Err (fault.Syntax k)) = k ≡ at
Kept at p (Err (fault.RepeatedKey k)) = RepeatsName k p
Kept at p (Err (fault.TooDeep k)) = OpensTooDeep k p
Kept at p (Err (fault.Number k)) = ExponentAt k p
Kept at p (Err fault.TooLong) = ⊥
Kept at p (Err fault.NoMemory) = ⊥

before_item_blank : (items : Items) (p : List ℕ) (b : ℕ) → BeforeItem items p → is_blank b ≡ true → BeforeItem items (p ++ b ∷ [])
before_item_blank no_items p b h y = blank_snoc p b h y
before_item_blank (item_after items v) p b h y = comma_blank _ p b h y

in_list_blank : (items : Items) (p : List ℕ) (b : ℕ) → InList items p → is_blank b ≡ true → InList items (p ++ b ∷ [])
in_list_blank no_items p b h y = blank_snoc p b h y
in_list_blank (item_after items v) p b h y = ended_blank _ _ p b h y

before_name_blank : (ms : Members) (p : List ℕ) (b : ℕ) → BeforeName ms p → is_blank b ≡ true → BeforeName ms (p ++ b ∷ [])
before_name_blank no_members p b h y = blank_snoc p b h y
before_name_blank (member_after ms k v) p b h y = comma_blank _ p b h y

in_object_blank : (ms : Members) (p : List ℕ) (b : ℕ) → InObject ms p → is_blank b ≡ true → InObject ms (p ++ b ∷ [])
in_object_blank no_members p b h y = blank_snoc p b h y
in_object_blank (member_after ms k v) p b h y = ended_blank _ _ p b h y

named_blank : (F : List ℕ → Type 0) (name p : List ℕ) (b : ℕ) → Named F name p → is_blank b ≡ true → Named F name (p ++ b ∷ [])
named_blank F name p b h y = (
  h.0,
  h.1,
  h.2,
  h.3 ++ b ∷ [],
  snoc3 p h.0 h.1 (h.2 ++ 58 ∷ h.3) b h.4 ∙ ap (λ (x : List ℕ). h.0 ++ (h.1 ++ x)) (append_assoc h.2 (58 ∷ h.3) (b ∷ [])),
  h.5,
  h.6,
  h.7,
  blank_snoc h.3 b h.8 y,
)

await_blank : (ps : List Parent) (p : List ℕ) (b : ℕ) → Await ps p → is_blank b ≡ true → Await ps (p ++ b ∷ [])
await_blank [] p b h y = blank_snoc p b h y
await_blank (in_list items ∷ ps) p b h y =
    (h.0, h.1 ++ b ∷ [], snoc2 p h.0 (91 ∷ h.1) b h.2, h.3, before_item_blank items h.1 b h.4 y, h.5)
await_blank (in_object ms name ∷ ps) p b h y =
    (h.0, h.1 ++ b ∷ [], snoc2 p h.0 (123 ∷ h.1) b h.2, h.3, named_blank _ name h.1 b h.4 y)

-- a value is whole
pub joined : (p u outer inner : List ℕ) (c : ℕ) → p ≡ outer ++ c ∷ inner → p ++ u ≡ outer ++ c ∷ (inner ++ u)
joined p u outer inner c e = ap (λ (x : List ℕ). x ++ u) e ∙ append_assoc outer (c ∷ inner) u

pub put_holds : (v : Tree) (ps : List Parent) (p u : List ℕ) → Await ps p → IsValue v u → MayStand v ps
    → Holds (put v ps).stage (put v ps).parents (p ++ u)
put_holds v [] p u h is may = ((p, u, [], ap (λ (x : List ℕ). p ++ x) (append_nil u), h, is, tt), may)
put_holds v (in_list items ∷ ps) p u h is may =
    (h.0, h.1 ++ u, joined p u h.0 h.1 91 h.2, h.3, (h.1, u, [], ap (λ (x : List ℕ). h.1 ++ x) (append_nil u), h.4, is, tt), tt, h.5)
put_holds v (in_object ms name ∷ ps) p u h is may =
    (h.0, h.1 ++ u, joined p u h.0 h.1 123 h.2, h.3, (h.1, u, [], ap (λ (x : List ℕ). h.1 ++ x) (append_nil u), h.4, is, tt), tt)

pub put_kept : (at : ℕ) (v : Tree) (ps : List Parent) (p q u : List ℕ) → q ≡ p ++ u → Await ps p → IsValue v u → MayStand v ps → Kept at q (Ok (put v ps))
put_kept at v ps p q u e h is may = subst (λ (x : List ℕ). Holds (put v ps).stage (put v ps).parents x) (sym e) (put_holds v ps p u h is may)

pub inside_may : (v : Tree) (ps : List Parent) → IsInside ps → MayStand v ps
inside_may v [] h = absurd h
inside_may v (q ∷ ps) h = tt

pub object_may : (ms : Members) (ps : List Parent) → MayStand (object ms) ps
object_may ms [] = tt
object_may ms (q ∷ ps) = tt

opened_kept : (stage : Stage) (at : ℕ) (ps : List Parent) (p : List ℕ) (b : ℕ) → at ≡ length p → Await ps p → (b ≡ 91) ⊎ (b ≡ 123) → Holds stage ps (p ++ b ∷ [])
    → Kept at (p ++ b ∷ []) (opened stage at ps)
opened_kept stage at ps p b here await bracket h =
    by_if (Kept at (p ++ b ∷ [])) (nat_lt (length ps) most_levels) _ _ (λ y. h)
    (λ n. (length ps, p, b, refl, here, grind (arith, nat_tests), awaits ps p await, bracket))

-- the first byte of a value
letters_kept : (at c : ℕ) (cs : List ℕ) (v : Tree) (ps : List Parent) (p : List ℕ) (b : ℕ) → Await ps p → IsInside ps → IsValue v (b ∷ c ∷ cs)
    → Kept at (p ++ b ∷ []) (go (in_word c cs v) ps)
letters_kept at c cs v ps p b h i is = (p, b ∷ [], refl, h, is, i)

value_kept : (at : ℕ) (ps : List Parent) (p : List ℕ) (b : ℕ) → at ≡ length p → Await ps p → IsInside ps → Kept at (p ++ b ∷ []) (value_byte at ps b)
unfolding value_byte
value_kept at ps p b here h i =
    let K : Result State JsonFault → Type 0 = Kept at (p ++ b ∷ []) in
    by_if K (b == 34) _ _ (λ y. (p, [], ap (λ (x : ℕ). p ++ x ∷ []) (same b 34 y), h, opened_is, i)) (λ n₁.
    by_if K (b == 45) _ _ (λ y. (p, refl, h, ap (λ (x : ℕ). x ∷ []) (same b 45 y), i, here)) (λ n₂.
    by_if K (b == 48) _ _ (λ y. (p, refl, h, ([], ap (λ (x : ℕ). x ∷ []) (same b 48 y), tt), i, here)) (λ n₃.
    by_if K (is_digit b) _ _ (λ y. (p, refl, h, ([], b, [], refl, tt, n₃, y, tt), i, here)) (λ n₄.
    by_if K (b == 91) _ _ (λ y. opened_kept at_first_value at ps p b here h (inl (same b 91 y)) (p, [], ap (λ (x : ℕ). p ++ x ∷ []) (same b 91 y), h, tt, i)) (λ n₅.
    by_if K (b == 123) _ _ (λ y. opened_kept at_first_name at ps p b here h (inr (same b 123 y)) (p, [], ap (λ (x : ℕ). p ++ x ∷ []) (same b 123 y), h, tt)) (λ n₆.
    by_if K (b == 116) _ _ (λ y. letters_kept at 114 _ (boolean true) ps p b h i (ap (λ (x : ℕ). x ∷ 114 ∷ 117 ∷ 101 ∷ []) (same b 116 y))) (λ n₇.
    by_if K (b == 102) _ _ (λ y. letters_kept at 97 _ (boolean false) ps p b h i (ap (λ (x : ℕ). x ∷ 97 ∷ 108 ∷ 115 ∷ 101 ∷ []) (same b 102 y))) (λ n₈.
    by_if K (b == 110) _ _ (λ y. letters_kept at 117 _ null ps p b h i (ap (λ (x : ℕ). x ∷ 117 ∷ 108 ∷ 108 ∷ []) (same b 110 y))) (λ n₉. refl)))))))))

top_kept : (at : ℕ) (ps : List Parent) (p : List ℕ) (b : ℕ) → at ≡ length p → Holds at_top ps p → Kept at (p ++ b ∷ []) (top_byte at ps b)
unfolding top_byte
top_kept at ps p b here h =
    by_if (Kept at (p ++ b ∷ [])) (is_blank b) _ _ (λ y. await_blank ps p b h y) (λ n.
    by_if (Kept at (p ++ b ∷ [])) (b == 123) _ _ (λ y. opened_kept at_first_name at ps p b here h (inr (same b 123 y)) (p, [], ap (λ (x : ℕ). p ++ x ∷ []) (same b 123 y), h, tt)) (λ m. refl))

-- a list or an object is whole
close : (p outer inner : List ℕ) (c d b : ℕ) → p ≡ outer ++ c ∷ inner → b ≡ d → p ++ b ∷ [] ≡ outer ++ c ∷ (inner ++ d ∷ [])
close p outer inner c d b e f = snoc2 p outer (c ∷ inner) b e ∙ ap (λ (x : ℕ). outer ++ c ∷ (inner ++ x ∷ [])) f

first_value_kept : (at : ℕ) (ps : List Parent) (p : List ℕ) (b : ℕ) → at ≡ length p → Holds at_first_value ps p → Kept at (p ++ b ∷ []) (first_value_byte at ps b)
unfolding first_value_byte
first_value_kept at ps p b here h =
    by_if (Kept at (p ++ b ∷ [])) (is_blank b) _ _ (λ y. (h.0, h.1 ++ b ∷ [], snoc2 p h.0 (91 ∷ h.1) b h.2, h.3, blank_snoc h.1 b h.4 y, h.5)) (λ n.
    by_if (Kept at (p ++ b ∷ [])) (b == 93) _ _
    (λ y. put_kept at (list no_items) ps h.0 _ (91 ∷ (h.1 ++ 93 ∷ [])) (close p h.0 h.1 91 93 b h.2 (same b 93 y)) h.3 (h.1, refl, h.4) (inside_may (list no_items) ps h.5))
    (λ m. value_kept at (in_list no_items ∷ ps) p b here (h.0, h.1, h.2, h.3, h.4, h.5) tt))

next_value_kept : (at : ℕ) (ps : List Parent) (p : List ℕ) (b : ℕ) → at ≡ length p → Holds at_value ps p → Kept at (p ++ b ∷ []) (next_value_byte at ps b)
unfolding next_value_byte
next_value_kept at ps p b here h =
    by_if (Kept at (p ++ b ∷ [])) (is_blank b) _ _ (λ y. (await_blank ps p b h.0 y, h.1)) (λ n. value_kept at ps p b here h.0 h.1)

first_name_kept : (at : ℕ) (ps : List Parent) (p : List ℕ) (b : ℕ) → at ≡ length p → Holds at_first_name ps p → Kept at (p ++ b ∷ []) (first_name_byte at ps b)
unfolding first_name_byte
first_name_kept at ps p b here h =
    by_if (Kept at (p ++ b ∷ [])) (is_blank b) _ _ (λ y. (h.0, h.1 ++ b ∷ [], snoc2 p h.0 (123 ∷ h.1) b h.2, h.3, blank_snoc h.1 b h.4 y)) (λ n.
    by_if (Kept at (p ++ b ∷ [])) (b == 34) _ _ (λ y. (h.0, h.1, [], close p h.0 h.1 123 34 b h.2 (same b 34 y), h.3, h.4, opened_is, here ∙ ap length h.2)) (λ n₂.
    by_if (Kept at (p ++ b ∷ [])) (b == 125) _ _
    (λ y. put_kept at (object no_members) ps h.0 _ (123 ∷ (h.1 ++ 125 ∷ [])) (close p h.0 h.1 123 125 b h.2 (same b 125 y)) h.3 (h.1, refl, h.4) (object_may no_members ps))
    (λ m. refl)))

next_name_kept : (at : ℕ) (ms : Members) (ps : List Parent) (p : List ℕ) (b : ℕ) → at ≡ length p → Holds (at_name ms) ps p → Kept at (p ++ b ∷ []) (next_name_byte at ms ps b)
unfolding next_name_byte
next_name_kept at ms ps p b here h =
    by_if (Kept at (p ++ b ∷ [])) (is_blank b) _ _ (λ y. (h.0, h.1 ++ b ∷ [], snoc2 p h.0 (123 ∷ h.1) b h.2, h.3, before_name_blank ms h.1 b h.4 y)) (λ n.
    by_if (Kept at (p ++ b ∷ [])) (b == 34) _ _ (λ y. (h.0, h.1, [], close p h.0 h.1 123 34 b h.2 (same b 34 y), h.3, h.4, opened_is, here ∙ ap length h.2)) (λ m. refl))

colon_kept : (at : ℕ) (ps : List Parent) (p : List ℕ) (b : ℕ) → Holds at_colon ps p → Kept at (p ++ b ∷ []) (colon_byte at ps b)
unfolding colon_byte
colon_kept at [] p b h = absurd h
colon_kept at (in_list items ∷ ps) p b h = absurd h
colon_kept at (in_object ms name ∷ ps) p b h =
    let more : p ++ b ∷ [] ≡ h.0 ++ (123 ∷ (h.1 ++ (h.2 ++ (h.3 ++ b ∷ [])))) = snoc2 p h.0 (123 ∷ (h.1 ++ (h.2 ++ h.3))) b h.4 ∙ ap (λ (x : List ℕ). h.0 ++ 123 ∷ x) (snoc3 (h.1 ++ (h.2 ++ h.3)) h.1 h.2 h.3 b refl) in
    by_if (Kept at (p ++ b ∷ [])) (is_blank b) _ _ (λ y. (h.0, h.1, h.2, h.3 ++ b ∷ [], more, h.5, h.6, h.7, blank_snoc h.3 b h.8 y)) (λ n.
    by_if (Kept at (p ++ b ∷ [])) (b == 58) _ _
    (λ y. ((h.0, h.1 ++ (h.2 ++ (h.3 ++ 58 ∷ [])), more ∙ ap (λ (x : ℕ). h.0 ++ (123 ∷ (h.1 ++ (h.2 ++ (h.3 ++ x ∷ []))))) (same b 58 y), h.5, (h.1, h.2, h.3, [], refl, h.6, h.7, h.8, tt)), tt))
    (λ m. refl))

item_comma : (items : Items) (p : List ℕ) → HasItem items → InList items p → BeforeItem items (p ++ 44 ∷ [])
item_comma no_items p has h = absurd has
item_comma (item_after items v) p has h = (p, [], refl, h, tt)

member_comma : (ms : Members) (p : List ℕ) → HasMember ms → InObject ms p → BeforeName ms (p ++ 44 ∷ [])
member_comma no_members p has h = absurd has
member_comma (member_after ms k v) p has h = (p, [], refl, h, tt)

item_kept : (at : ℕ) (items : Items) (ps : List Parent) (p : List ℕ) (b : ℕ) → Holds (after_item items) ps p → Kept at (p ++ b ∷ []) (item_byte at items ps b)
unfolding item_byte
item_kept at items ps p b h =
    by_if (Kept at (p ++ b ∷ [])) (is_blank b) _ _ (λ y. (h.0, h.1 ++ b ∷ [], snoc2 p h.0 (91 ∷ h.1) b h.2, h.3, in_list_blank items h.1 b h.4 y, h.5, h.6)) (λ n.
    by_if (Kept at (p ++ b ∷ [])) (b == 44) _ _ (λ y. ((h.0, h.1 ++ 44 ∷ [], close p h.0 h.1 91 44 b h.2 (same b 44 y), h.3, item_comma items h.1 h.5 h.4, h.6), tt)) (λ n₂.
    by_if (Kept at (p ++ b ∷ [])) (b == 93) _ _
    (λ y. put_kept at (list items) ps h.0 _ (91 ∷ (h.1 ++ 93 ∷ [])) (close p h.0 h.1 91 93 b h.2 (same b 93 y)) h.3 (h.1, refl, h.4) (inside_may (list items) ps h.6))
    (λ m. refl)))

member_kept : (at : ℕ) (ms : Members) (ps : List Parent) (p : List ℕ) (b : ℕ) → Holds (after_member ms) ps p → Kept at (p ++ b ∷ []) (member_byte at ms ps b)
unfolding member_byte
member_kept at ms ps p b h =
    by_if (Kept at (p ++ b ∷ [])) (is_blank b) _ _ (λ y. (h.0, h.1 ++ b ∷ [], snoc2 p h.0 (123 ∷ h.1) b h.2, h.3, in_object_blank ms h.1 b h.4 y, h.5)) (λ n.
    by_if (Kept at (p ++ b ∷ [])) (b == 44) _ _ (λ y. (h.0, h.1 ++ 44 ∷ [], close p h.0 h.1 123 44 b h.2 (same b 44 y), h.3, member_comma ms h.1 h.5 h.4)) (λ n₂.
    by_if (Kept at (p ++ b ∷ [])) (b == 125) _ _
    (λ y. put_kept at (object ms) ps h.0 _ (123 ∷ (h.1 ++ 125 ∷ [])) (close p h.0 h.1 123 125 b h.2 (same b 125 y)) h.3 (h.1, refl, h.4) (object_may ms ps))
    (λ m. refl)))

end_kept : (at : ℕ) (v : Tree) (ps : List Parent) (p : List ℕ) (b : ℕ) → Holds (at_end v) ps p → Kept at (p ++ b ∷ []) (end_byte at v ps b)
unfolding end_byte
end_kept at v ps p b h =
    by_if (Kept at (p ++ b ∷ [])) (is_blank b) _ _ (λ y. (ended_blank IsBlank (IsValue v) p b h.0 y, h.1)) (λ n. refl)

after_kept : (at : ℕ) (v : Tree) (ps : List Parent) (p : List ℕ) (b : ℕ) → IsInside ps → Holds (put v ps).stage (put v ps).parents p → Kept at (p ++ b ∷ []) (after_number at v ps b)
unfolding after_number
after_kept at v [] p b i h = absurd i
after_kept at v (in_list items ∷ ps) p b i h = item_kept at (item_after items v) ps p b h
after_kept at v (in_object ms name ∷ ps) p b i h = member_kept at (member_after ms name v) ps p b h

letters_left_kept : (at : ℕ) (cs : List ℕ) (v : Tree) (ps : List Parent) (p outer prefix : List ℕ) → p ≡ outer ++ prefix → Await ps outer → IsValue v (prefix ++ cs) → IsInside ps
    → Kept at p (letters_left cs v ps)
letters_left_kept at [] v ps p outer prefix e h is i = put_kept at v ps outer p prefix e h (subst (IsValue v) (sym (append_nil prefix)) is) (inside_may v ps i)
letters_left_kept at (c ∷ cs) v ps p outer prefix e h is i = (outer, prefix, e, h, is, i)

word_kept : (at c : ℕ) (cs : List ℕ) (v : Tree) (ps : List Parent) (p : List ℕ) (b : ℕ) → Holds (in_word c cs v) ps p → Kept at (p ++ b ∷ []) (word_byte at c cs v ps b)
unfolding word_byte
word_kept at c cs v ps p b h =
    by_if (Kept at (p ++ b ∷ [])) (b == c) _ _
    (λ y. letters_left_kept at cs v ps _ h.0 (h.1 ++ c ∷ []) (snoc2 p h.0 h.1 b h.2 ∙ ap (λ (x : ℕ). h.0 ++ (h.1 ++ x ∷ [])) (same b c y)) h.3
    (subst (IsValue v) (sym (append_assoc h.1 (c ∷ []) cs)) h.4) h.5)
    (λ n. refl)

digit_kept : (at start : ℕ) (q : Part) (t : List ℕ) (ps : List Parent) (p : List ℕ) (b : ℕ) (n : NumberByte) → number_byte q b ≡ n → Holds (in_number q start t) ps p
    → Kept at (p ++ b ∷ []) (digit_byte at n start t ps b)
unfolding digit_byte
digit_kept at start q t ps p b (digit.Inside r) is h =
    (h.0, snoc2 p h.0 t b h.1, h.2, subst (PartGoes t b) is (part_goes q t b h.3), h.4, h.5)
digit_kept at start q t ps p b digit.After is h =
    after_kept at (number t) ps p b h.4
    (subst (λ (x : List ℕ). Holds (put (number t) ps).stage (put (number t) ps).parents x) (sym h.1)
    (put_holds (number t) ps h.0 t h.2 (refl, inl (subst (PartGoes t b) is (part_goes q t b h.3))) (inside_may (number t) ps h.4)))
digit_kept at start q t ps p b digit.Exponent is h =
    (length ps, h.0, t ++ b ∷ [], snoc2 p h.0 t b h.1, h.5, awaits ps h.0 h.2, subst (PartGoes t b) is (part_goes q t b h.3))
digit_kept at start q t ps p b digit.Wrong is h = refl

string_kept : (at : ℕ) (ps : List Parent) (p outer t : List ℕ) (b : ℕ) (n : QuotedNext) → QuotedGoes t b n → p ≡ outer ++ 34 ∷ t → Await ps outer → IsInside ps
    → Kept at (p ++ b ∷ []) (string_goes at n ps)
unfolding string_goes
string_kept at ps p outer t b (next.Continues q) is e h i = (outer, t ++ b ∷ [], snoc2 p outer (34 ∷ t) b e, h, is, i)
string_kept at ps p outer t b (next.Closed s) is e h i = put_kept at (string s) ps outer _ (34 ∷ (t ++ b ∷ [])) (snoc2 p outer (34 ∷ t) b e) h is (inside_may (string s) ps i)
string_kept at ps p outer t b next.Wrong is e h i = refl

name_kept : (at start : ℕ) (ms : Members) (ps : List Parent) (p outer f t : List ℕ) (b : ℕ) (n : QuotedNext) → QuotedGoes t b n → p ≡ outer ++ (123 ∷ (f ++ 34 ∷ t)) → Await ps outer → BeforeName ms f → start ≡ length (outer ++ 123 ∷ f)
    → Kept at (p ++ b ∷ []) (name_goes at ms start n ps)
unfolding name_goes named
name_kept at start ms ps p outer f t b (next.Continues q) is e h before begun = (outer, f, t ++ b ∷ [], snoc3 p outer (123 ∷ f) (34 ∷ t) b e, h, before, is, begun)
name_kept at start ms ps p outer f t b (next.Closed s) is e h before begun =
    by_if (Kept at (p ++ b ∷ [])) (is_named s ms) _ _
    (λ y. (length ps, ms, s, outer, f, 34 ∷ (t ++ b ∷ []), snoc3 p outer (123 ∷ f) (34 ∷ t) b e, begun, awaits ps outer h, before, is, y))
    (λ n. (outer, f, 34 ∷ (t ++ b ∷ []), [], snoc3 p outer (123 ∷ f) (34 ∷ t) b e ∙ ap (λ (x : List ℕ). outer ++ (123 ∷ (f ++ x))) (append_nil (34 ∷ (t ++ b ∷ []))), h, before, is, tt))
name_kept at start ms ps p outer f t b next.Wrong is e h before begun = refl

-- one byte more
pub step_kept : (at : ℕ) (stage : Stage) (ps : List Parent) (p : List ℕ) (b : ℕ) → at ≡ length p → Holds stage ps p → Kept at (p ++ b ∷ []) (step_at at stage ps b)
step_kept at at_top ps p b here h = top_kept at ps p b here h
step_kept at at_first_value ps p b here h = first_value_kept at ps p b here h
step_kept at at_value ps p b here h = next_value_kept at ps p b here h
step_kept at at_first_name ps p b here h = first_name_kept at ps p b here h
step_kept at (at_name ms) ps p b here h = next_name_kept at ms ps p b here h
step_kept at at_colon ps p b here h = colon_kept at ps p b h
step_kept at (after_item items) ps p b here h = item_kept at items ps p b h
step_kept at (after_member ms) ps p b here h = member_kept at ms ps p b h
step_kept at (in_word c cs v) ps p b here h = word_kept at c cs v ps p b h
step_kept at (in_number q start t) ps p b here h = digit_kept at start q t ps p b (number_byte q b) refl h
step_kept at (in_string q) ps p b here h = string_kept at ps p h.0 h.1 b (quoted_next q b) (quoted_goes q.spot q.read h.1 b h.4) h.2 h.3 h.5
step_kept at (in_name ms start q) ps p b here h = name_kept at start ms ps p h.0 h.1 h.2 b (quoted_next q b) (quoted_goes q.spot q.read h.2 b h.6) h.3 h.4 h.5 h.7
step_kept at (at_end v) ps p b here h = end_kept at v ps p b h

-- the end of the text
pub ended_is : (n : ℕ) (stage : Stage) (ps : List Parent) (bytes : List ℕ) (v : Tree) → Holds stage ps bytes → ended n stage ≡ Ok v → IsText v bytes
ended_is n (at_end w) ps bytes v h e = let f : w ≡ v = cc in subst (λ (x : Tree). IsText x bytes) f h
ended_is n stage ps bytes v h e = let f : ⊥ = cc in absurd f
