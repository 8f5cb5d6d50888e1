-- What stands before the first ` = `, found place by place.
use Rattle.std.proofs.Common.{◌≡◌, ◌∙◌, ◌<◌, ◌≤◌, ℕ, ◌+◌, ◌-◌, List, [], ◌∷◌, ◌++◌, Bool, true, false, ap, append_assoc, append-nil, arith, drop, get_or, length, length-drop, refl, subst, sym, take}
use Rattle.std.specs.Prelude.{codes, if◌then◌else◌}
use Rattle.std.proofs.lemmas.List.{at_drop_more, drop_all, take_all, take_more}
use Rattle.script_input.specs.Scripts.{before_sign, begins}

abbrev sign : List ℕ
sign = codes " = "

chosen : (c d : Bool) (xs ys : List ℕ) → c ≡ d → (if c then xs else ys) ≡ (if d then xs else ys)
chosen c d xs ys e = ap (λ (b : Bool). if b then xs else ys) e

sign_here : (text : List ℕ) → begins text sign ≡ true → before_sign text ≡ []
sign_here [] e = refl
sign_here (b ∷ text) e = chosen (begins (b ∷ text) sign) true [] (b ∷ before_sign text) e

sign_later : (b : ℕ) (text : List ℕ) → begins (b ∷ text) sign ≡ false → before_sign (b ∷ text) ≡ b ∷ before_sign text
sign_later b text e = chosen (begins (b ∷ text) sign) false [] (b ∷ before_sign text) e

drop_more : (i : ℕ) (xs : List ℕ) (d : ℕ) → i < length xs → drop i xs ≡ get_or xs i d ∷ drop (i + 1) xs
drop_more i xs d within = at_drop_more (λ (t : List ℕ). t) xs i d within

pub sign_passed : (text : List ℕ) (i d : ℕ) → i < length text → begins (drop i text) sign ≡ false → before_sign text ≡ take i text ++ before_sign (drop i text) → before_sign text ≡ take (i + 1) text ++ before_sign (drop (i + 1) text)
sign_passed text i d within other h =
    let more : drop i text ≡ get_or text i d ∷ drop (i + 1) text = drop_more i text d within in
    let later : before_sign (drop i text) ≡ get_or text i d ∷ before_sign (drop (i + 1) text) =
    ap before_sign more ∙ sign_later (get_or text i d) (drop (i + 1) text) (subst (λ (t : List ℕ). begins t sign ≡ false) more other) in
    h
    ∙ ap (λ (t : List ℕ). take i text ++ t) later
    ∙ sym (append_assoc (take i text) (get_or text i d ∷ []) (before_sign (drop (i + 1) text)))
    ∙ ap (λ (t : List ℕ). t ++ before_sign (drop (i + 1) text)) (sym (take_more text i d within))

pub sign_found : (text : List ℕ) (i : ℕ) → begins (drop i text) sign ≡ true → before_sign text ≡ take i text ++ before_sign (drop i text) → take i text ≡ before_sign text
sign_found text i here h = sym (h ∙ ap (λ (t : List ℕ). take i text ++ t) (sign_here (drop i text) here) ∙ append-nil (take i text))

pub sign_none : (text : List ℕ) (i : ℕ) → length text ≤ i → before_sign text ≡ take i text ++ before_sign (drop i text) → text ≡ before_sign text
sign_none text i past h =
    sym (
    h
    ∙ ap (λ (t : List ℕ). t ++ before_sign (drop i text)) (take_all i text past)
    ∙ ap (λ (t : List ℕ). text ++ before_sign t) (drop_all i text past)
    ∙ append-nil text
    )

-- the rest of a text is what a slice to its end gives
rest_is : (text : List ℕ) (i : ℕ) → take (length text - i) (drop i text) ≡ drop i text
rest_is text i = take_all (length text - i) (drop i text) (omega (arith, length-drop i text))

pub none_here : (text : List ℕ) (i : ℕ) → begins (take (length text - i) (drop i text)) sign ≡ false → begins (drop i text) sign ≡ false
none_here text i other = subst (λ (t : List ℕ). begins t sign ≡ false) (rest_is text i) other
