-- What has been read of a text without a fault is the prefix of a JSON text.
use Rattle.std.proofs.Common.{◌≡◌, ℕ, zero, suc, ◌+◌, ◌*◌, ◌%◌, List, [], ◌∷◌, ◌++◌, true, None, refl, ap, sym, subst, ◌∙◌, inl, inr, append_assoc}
use Rattle.json_text.specs.Tree.{Tree, number, string, list, object, Items, no_items, item_after, Members, no_members, member_after}
use Rattle.json_text.specs.Strings.{is_between, settled, with_unit, nothing_read}
use Rattle.json_text.specs.Reading.{Parent, in_list, in_object, Stage, at_top, at_first_value, at_value, at_first_name, at_name, at_colon, after_item, after_member, in_word, in_number, in_string, in_name, at_end}
use Rattle.json_text.specs.Grammar.{IsPlain, IsNumber, standing, unicode, spelling, Chars, no_chars, char_after, IsString, IsValue, InList, InObject, BeforeName, IsText, CanEnd}
use Rattle.json_text.specs.declared.number.Part.{Part}
use Rattle.json_text.specs.declared.number.Part.TheVariants as part
use Rattle.json_text.specs.declared.string.Read.{Read}
use Rattle.json_text.specs.declared.string.Spot.{Spot}
use Rattle.json_text.specs.declared.string.Spot.TheVariants as spot
use Rattle.json_text.proofs.Tools.{snoc2, snoc3, append_nil}
use Rattle.json_text.proofs.Digits.{IsPart}
use Rattle.json_text.proofs.Quotes.{InQuoted, Fits, HexFits, chars_as, letter}
use Rattle.json_text.proofs.Places.{IsInside, Await, MayStand, Holds, inside_may, object_may, joined}

-- where more bytes can end, fewer can
before : (p x q : List ℕ) → p ++ x ≡ q → CanEnd q → CanEnd p
before p x q e h = (x ++ h.0, h.1, subst (IsText h.1) (ap (λ (y : List ℕ). y ++ h.0) (sym e) ∙ append_assoc p x h.0) h.2)

-- a value that may stand where it stands: what is open round it can be closed
value_ends : (ps : List Parent) (v : Tree) (p u : List ℕ) → Await ps p → IsValue v u → MayStand v ps → CanEnd (p ++ u)
value_ends [] v p u h is may = ([], v, ((p, u, [], append_assoc p u [], h, is, tt), may))
value_ends (in_list items ∷ ps) v p u h is may =
    before (p ++ u) (93 ∷ []) (h.0 ++ 91 ∷ ((h.1 ++ u) ++ 93 ∷ [])) (snoc2 (p ++ u) h.0 (91 ∷ (h.1 ++ u)) 93 (joined p u h.0 h.1 91 h.2))
    (value_ends ps (list (item_after items v)) h.0 (91 ∷ ((h.1 ++ u) ++ 93 ∷ [])) h.3
    (h.1 ++ u, refl, (h.1, u, [], ap (λ (x : List ℕ). h.1 ++ x) (append_nil u), h.4, is, tt)) (inside_may (list (item_after items v)) ps h.5))
value_ends (in_object ms name ∷ ps) v p u h is may =
    before (p ++ u) (125 ∷ []) (h.0 ++ 123 ∷ ((h.1 ++ u) ++ 125 ∷ [])) (snoc2 (p ++ u) h.0 (123 ∷ (h.1 ++ u)) 125 (joined p u h.0 h.1 123 h.2))
    (value_ends ps (object (member_after ms name v)) h.0 (123 ∷ ((h.1 ++ u) ++ 125 ∷ [])) h.3
    (h.1 ++ u, refl, (h.1, u, [], ap (λ (x : List ℕ). h.1 ++ x) (append_nil u), h.4, is, tt)) (object_may (member_after ms name v) ps))

-- a number
abbrev Whole : List ℕ → Type 0
Whole t = (more : List ℕ) × IsNumber (t ++ more)

number_ends : (q : Part) (t : List ℕ) → IsPart q t → Whole t
number_ends part.Minus t h = (48 ∷ [], inl (inl (45 ∷ [], 48 ∷ [], ap (λ (x : List ℕ). x ++ 48 ∷ []) h, refl, inl (refl, refl))))
number_ends part.Zero t h = ([], inl (inl (h.0, 48 ∷ [], sym (append_nil t) ∙ h.1, h.2, inl (refl, refl))))
number_ends part.Whole t h = ([], inl (inl (h.0, h.1 ∷ h.2, sym (append_nil t) ∙ h.3, h.4, inr (h.5, h.6, h.7))))
number_ends part.Point t h = (48 ∷ [], inl (inr (h.0, 48 ∷ [], snoc2 t h.0 (46 ∷ []) 48 h.1, h.2, (refl, tt))))
number_ends part.Fraction t h = ([], inl (inr (h.0, h.1, sym (append_nil t) ∙ h.2, h.3, h.4)))
number_ends part.Mark t h = (48 ∷ [], inr (h.0, h.1, [], 48 ∷ [], snoc2 t h.0 (h.1 ∷ []) 48 h.2, h.3, h.4, tt, (refl, tt)))
number_ends part.Sign t h = (48 ∷ [], inr (h.0, h.1, h.2 ∷ [], 48 ∷ [], snoc2 t h.0 (h.1 ∷ h.2 ∷ []) 48 h.3, h.4, h.5, h.6, (refl, tt)))

-- a string
abbrev Closes : List ℕ → Type 0
Closes t = (more s : List ℕ) × IsString s (34 ∷ (t ++ more))

closes : (t : List ℕ) (r : Read) → Chars t r → Closes t
closes t r h = (34 ∷ [], settled r, (t, r, refl, refl, h))

closes_before : (t : List ℕ) (b : ℕ) → Closes (t ++ b ∷ []) → Closes t
closes_before t b h = (b ∷ h.0, h.1, subst (λ (x : List ℕ). IsString h.1 (34 ∷ x)) (append_assoc t (b ∷ []) h.0) h.2)

tail_ends : (more low high : ℕ) (t u part : List ℕ) (q : Read) → t ≡ u ++ part → Chars u q → is_between low high low ≡ true → Fits low high more part → Closes t
tail_ends zero low high t u part q e h first fits =
    closes_before t low (closes (t ++ low ∷ []) (record { text = settled q ++ (part ++ low ∷ []); high = None })
    (chars_as (t ++ low ∷ []) (u ++ (part ++ low ∷ [])) _ (record { text = settled q ++ (part ++ low ∷ []); high = None }) (snoc2 t u part low e) refl
    (char_after h (standing (part ++ low ∷ [])) _ (refl, fits low first))))
tail_ends (suc m) low high t u part q e h first fits =
    closes_before t low (tail_ends m 128 191 (t ++ low ∷ []) u (part ++ low ∷ []) q (snoc2 t u part low e) h refl (fits low first))

hex_ends : (left value : ℕ) (t u part : List ℕ) (r : Read) → t ≡ u ++ part → Chars u r → HexFits left value part → Closes t
hex_ends zero value t u part r e h fits =
    let last = fits 48 0 refl in
    closes_before t 48 (closes (t ++ 48 ∷ []) (with_unit r ((value * 16 + 0) % 65536))
    (chars_as (t ++ 48 ∷ []) (u ++ spelling (unicode last.0 last.1 last.2 48)) _ _ (snoc2 t u part 48 e ∙ ap (λ (x : List ℕ). u ++ x) last.3) refl
    (char_after h (unicode last.0 last.1 last.2 48) _ ((value * 16 + 0) % 65536, refl, last.4))))
hex_ends (suc m) value t u part r e h fits =
    closes_before t 48 (hex_ends m ((value * 16 + 0) % 65536) (t ++ 48 ∷ []) u (part ++ 48 ∷ []) r (snoc2 t u part 48 e) h (fits 48 0 refl))

quoted_ends : (s : Spot) (r : Read) (t : List ℕ) → InQuoted s r t → Closes t
quoted_ends spot.Between r t h = closes t r h
quoted_ends (spot.Tail low high more) r t h = tail_ends more low high t h.0 h.1 h.2 h.3 h.4 h.6 h.7
quoted_ends spot.Escape r t h = closes_before t 110 (closes (t ++ 110 ∷ []) (with_unit r 10) (letter r t h.0 110 10 h.1 h.2 refl))
quoted_ends (spot.Hex left value) r t h = hex_ends left value t h.0 h.1 r h.2 h.3 h.4

-- a place before a value
await_ends : (ps : List Parent) (p : List ℕ) → Await ps p → CanEnd p
await_ends ps p h = before p (123 ∷ 125 ∷ []) _ refl (value_ends ps (object no_members) p (123 ∷ 125 ∷ []) h ([], refl, tt) (object_may no_members ps))

-- a place before a colon
colon_ends : (ms : Members) (name : List ℕ) (ps : List Parent) (p : List ℕ) → Holds at_colon (in_object ms name ∷ ps) p → CanEnd p
colon_ends ms name ps p h =
    before p (58 ∷ []) (p ++ 58 ∷ []) refl (await_ends (in_object ms name ∷ ps) (p ++ 58 ∷ []) (
      h.0,
      h.1 ++ (h.2 ++ (h.3 ++ 58 ∷ [])),
      snoc2 p h.0 (123 ∷ (h.1 ++ (h.2 ++ h.3))) 58 h.4 ∙ ap (λ (x : List ℕ). h.0 ++ 123 ∷ x) (snoc3 (h.1 ++ (h.2 ++ h.3)) h.1 h.2 h.3 58 refl),
      h.5,
      (h.1, h.2, h.3, [], refl, h.6, h.7, h.8, tt),
    ))

name_ends : (ms : Members) (ps : List Parent) (p outer f t : List ℕ) → p ≡ outer ++ (123 ∷ (f ++ 34 ∷ t)) → Await ps outer → BeforeName ms f → Closes t → CanEnd p
name_ends ms ps p outer f t e h is c =
    let whole : List ℕ = outer ++ (123 ∷ (f ++ 34 ∷ (t ++ c.0))) in
    before p c.0 whole (ap (λ (x : List ℕ). x ++ c.0) e ∙ append_assoc outer (123 ∷ (f ++ 34 ∷ t)) c.0 ∙ ap (λ (x : List ℕ). outer ++ 123 ∷ x) (append_assoc f (34 ∷ t) c.0))
    (colon_ends ms c.1 ps whole (outer, f, 34 ∷ (t ++ c.0), [], ap (λ (x : List ℕ). outer ++ (123 ∷ (f ++ x))) (append_nil (34 ∷ (t ++ c.0))), h, is, c.2, tt))

closed_list : (items : Items) (ps : List Parent) (p outer inner : List ℕ) → p ≡ outer ++ 91 ∷ inner → Await ps outer → InList items inner → IsInside ps → CanEnd p
closed_list items ps p outer inner e h is i =
    before p (93 ∷ []) (outer ++ 91 ∷ (inner ++ 93 ∷ [])) (snoc2 p outer (91 ∷ inner) 93 e)
    (value_ends ps (list items) outer (91 ∷ (inner ++ 93 ∷ [])) h (inner, refl, is) (inside_may (list items) ps i))

closed_object : (ms : Members) (ps : List Parent) (p outer inner : List ℕ) → p ≡ outer ++ 123 ∷ inner → Await ps outer → InObject ms inner → CanEnd p
closed_object ms ps p outer inner e h is =
    before p (125 ∷ []) (outer ++ 123 ∷ (inner ++ 125 ∷ [])) (snoc2 p outer (123 ∷ inner) 125 e)
    (value_ends ps (object ms) outer (123 ∷ (inner ++ 125 ∷ [])) h (inner, refl, is) (object_may ms ps))

pub holds_ends : (stage : Stage) (ps : List Parent) (p : List ℕ) → Holds stage ps p → CanEnd p
holds_ends at_top ps p h = await_ends ps p h
holds_ends at_first_value ps p h = closed_list no_items ps p h.0 h.1 h.2 h.3 h.4 h.5
holds_ends at_value ps p h = await_ends ps p h.0
holds_ends at_first_name ps p h = closed_object no_members ps p h.0 h.1 h.2 h.3 h.4
holds_ends (at_name ms) ps p h =
    before p (34 ∷ []) (p ++ 34 ∷ []) refl
    (name_ends ms ps (p ++ 34 ∷ []) h.0 h.1 [] (snoc2 p h.0 (123 ∷ h.1) 34 h.2) h.3 h.4 (closes [] nothing_read no_chars))
holds_ends at_colon [] p h = absurd h
holds_ends at_colon (in_list items ∷ ps) p h = absurd h
holds_ends at_colon (in_object ms name ∷ ps) p h = colon_ends ms name ps p h
holds_ends (after_item items) ps p h = closed_list items ps p h.0 h.1 h.2 h.3 h.4 h.6
holds_ends (after_member ms) ps p h = closed_object ms ps p h.0 h.1 h.2 h.3 h.4
holds_ends (in_word c cs v) ps p h =
    before p (c ∷ cs) (h.0 ++ (h.1 ++ c ∷ cs)) (ap (λ (x : List ℕ). x ++ c ∷ cs) h.2 ∙ append_assoc h.0 h.1 (c ∷ cs))
    (value_ends ps v h.0 (h.1 ++ c ∷ cs) h.3 h.4 (inside_may v ps h.5))
holds_ends (in_number q start t) ps p h =
    let w = number_ends q t h.3 in
    before p w.0 (h.0 ++ (t ++ w.0)) (ap (λ (x : List ℕ). x ++ w.0) h.1 ∙ append_assoc h.0 t w.0)
    (value_ends ps (number (t ++ w.0)) h.0 (t ++ w.0) h.2 (refl, w.1) (inside_may (number (t ++ w.0)) ps h.4))
holds_ends (in_string q) ps p h =
    let c = quoted_ends q.spot q.read h.1 h.4 in
    before p c.0 (h.0 ++ 34 ∷ (h.1 ++ c.0)) (ap (λ (x : List ℕ). x ++ c.0) h.2 ∙ append_assoc h.0 (34 ∷ h.1) c.0)
    (value_ends ps (string c.1) h.0 (34 ∷ (h.1 ++ c.0)) h.3 c.2 (inside_may (string c.1) ps h.5))
holds_ends (in_name ms start q) ps p h = name_ends ms ps p h.0 h.1 h.2 h.3 h.4 h.5 (quoted_ends q.spot q.read h.2 h.6)
holds_ends (at_end v) ps p h = ([], v, subst (IsText v) (append_nil p) h)
