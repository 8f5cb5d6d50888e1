-- A JSON text is read to its end without a fault of syntax, unless another fault is reported first.
use Rattle.std.proofs.Common.{◌≡◌, ℕ, ◌+◌, List, [], ◌∷◌, ◌++◌, true, false, refl, ap, sym, subst, ◌∙◌, inl, inr, append_assoc, Ok, Result, arith}
use Rattle.std.specs.Prelude.{◌==◌}
use Rattle.std.proofs.lemmas.Bool.Decides.{nat_tests}
use Rattle.grpc_base.specs.declared.event.JsonFault.{JsonFault}
use Rattle.json_text.specs.Tree.{Tree, null, boolean, number, string, list, object, no_items}
use Rattle.json_text.specs.Strings.{settled, opened_quote}
use Rattle.json_text.specs.Reading.{Parent, in_list, at_first_value, at_value, in_string, State, put, step_at, run, ◌>>=◌, first_value_byte, next_value_byte, value_byte, word_byte, string_goes}
use Rattle.json_text.specs.Grammar.{IsMinus, IsWhole, IsInteger, IsPlain, IsNumber, IsString, IsValue, is_blank}
use Rattle.json_text.specs.declared.string.Spot.TheVariants as spot
use Rattle.json_text.specs.declared.string.Read.{Read}
use Rattle.json_text.specs.declared.string.QuotedNext.{QuotedNext}
use Rattle.json_text.proofs.Reach.{IsOther, at_stage, Reaches, join, along, one, else_is}
use Rattle.json_text.proofs.ReachQuotes.{GoesOn, quoted, chars_reach}

-- a string that is a value
string_goes_on : (ps : List Parent) → GoesOn in_string ps
unfolding string_goes
string_goes_on ps at b q r e = ap (λ (n : QuotedNext). string_goes at n ps) e

string_closes : (at : ℕ) (ps : List Parent) (r : Read) → step_at at (in_string (quoted spot.Between r)) ps 34 ≡ Ok (put (string (settled r)) ps)
unfolding string_goes
string_closes at ps r = refl

quote_opens : (at : ℕ) (ps : List Parent) → step_at at at_value ps 34 ≡ Ok (at_stage (in_string opened_quote) ps)
unfolding next_value_byte value_byte
quote_opens at ps = refl

pub string_reach : (Q : Type 0) → (s t : List ℕ) → IsString s t → (at : ℕ) (ps : List Parent) (bs : List ℕ) → Reaches Q at (at_stage at_value ps) (t ++ bs) (put (string s) ps) bs
string_reach Q s t h at ps bs =
    let text : t ++ bs ≡ 34 ∷ (h.0 ++ 34 ∷ bs) = ap (λ (x : List ℕ). x ++ bs) h.2 ∙ ap (λ (x : List ℕ). 34 ∷ x) (append_assoc h.0 (34 ∷ []) bs) in
    let ended : put (string (settled h.1)) ps ≡ put (string s) ps = ap (λ (x : List ℕ). put (string x) ps) (sym h.3) in
    along Q at (at_stage at_value ps) (put (string s) ps) (t ++ bs) (34 ∷ (h.0 ++ 34 ∷ bs)) bs text
    (join Q at (at_stage at_value ps) (at_stage (in_string opened_quote) ps) (put (string s) ps) (34 ∷ (h.0 ++ 34 ∷ bs)) (h.0 ++ 34 ∷ bs) bs
    (one Q at (at_stage at_value ps) (at_stage (in_string opened_quote) ps) 34 (h.0 ++ 34 ∷ bs) (quote_opens at ps))
    (λ at₂. join Q at₂ (at_stage (in_string opened_quote) ps) (at_stage (in_string (quoted spot.Between h.1)) ps) (put (string s) ps) (h.0 ++ 34 ∷ bs) (34 ∷ bs) bs
    (chars_reach Q in_string ps (string_goes_on ps) h.0 h.1 h.4 at₂ (34 ∷ bs))
    (λ at₃. one Q at₃ (at_stage (in_string (quoted spot.Between h.1)) ps) (put (string s) ps) 34 bs (string_closes at₃ ps h.1 ∙ ap (λ (x : State). let r : Result State JsonFault = Ok x in r) ended))))

-- words
pub null_reach : (Q : Type 0) → (at : ℕ) (ps : List Parent) (bs : List ℕ) → Reaches Q at (at_stage at_value ps) (110 ∷ 117 ∷ 108 ∷ 108 ∷ bs) (put null ps) bs
unfolding next_value_byte value_byte word_byte
null_reach Q at ps bs = inl (at + 1 + 1 + 1 + 1, refl)

pub true_reach : (Q : Type 0) → (at : ℕ) (ps : List Parent) (bs : List ℕ) → Reaches Q at (at_stage at_value ps) (116 ∷ 114 ∷ 117 ∷ 101 ∷ bs) (put (boolean true) ps) bs
unfolding next_value_byte value_byte word_byte
true_reach Q at ps bs = inl (at + 1 + 1 + 1 + 1, refl)

pub false_reach : (Q : Type 0) → (at : ℕ) (ps : List Parent) (bs : List ℕ) → Reaches Q at (at_stage at_value ps) (102 ∷ 97 ∷ 108 ∷ 115 ∷ 101 ∷ bs) (put (boolean false) ps) bs
unfolding next_value_byte value_byte word_byte
false_reach Q at ps bs = inl (at + 1 + 1 + 1 + 1 + 1, refl)

-- the first byte of a value is no blank and no closing bracket
abbrev pub Begins : List ℕ → Type 0
Begins [] = ⊥
Begins (b ∷ bs) = (is_blank b ≡ false) × ((b == 93) ≡ false)

begins_as : (t u : List ℕ) → t ≡ u → Begins u → Begins t
begins_as t u e h = subst Begins (sym e) h

pub begins_more : (t u : List ℕ) → Begins t → Begins (t ++ u)
begins_more [] u h = absurd h
begins_more (b ∷ t) u h = h

whole_begins : (t : List ℕ) → IsWhole t → Begins t
whole_begins [] h = absurd h
whole_begins (d ∷ ds) (inl h) = begins_as (d ∷ ds) (48 ∷ ds) (ap (λ (x : ℕ). x ∷ ds) h.0) (refl, refl)
whole_begins (d ∷ ds) (inr h) = let y = h.1 in (grind (arith, nat_tests), grind (arith, nat_tests))

integer_begins : (t : List ℕ) → IsInteger t → Begins t
integer_begins t h = begins_as t (h.0 ++ h.1) h.2 (signed h.0 h.3)
  where
    signed : (m : List ℕ) → IsMinus m → Begins (m ++ h.1)
    signed [] k = whole_begins h.1 h.4
    signed (c ∷ []) k = begins_as (c ∷ h.1) (45 ∷ h.1) (ap (λ (x : ℕ). x ∷ h.1) k) (refl, refl)
    signed (c ∷ d ∷ m) k = absurd k

plain_begins : (t : List ℕ) → IsPlain t → Begins t
plain_begins t (inl h) = integer_begins t h
plain_begins t (inr h) = begins_as t (h.0 ++ 46 ∷ h.1) h.2 (begins_more h.0 (46 ∷ h.1) (integer_begins h.0 h.3))

number_begins : (t : List ℕ) → IsNumber t → Begins t
number_begins t (inl h) = plain_begins t h
number_begins t (inr h) = begins_as t (h.0 ++ h.1 ∷ (h.2 ++ h.3)) h.4 (begins_more h.0 (h.1 ∷ (h.2 ++ h.3)) (plain_begins h.0 h.5))

pub value_begins : (v : Tree) (t : List ℕ) → IsValue v t → Begins t
value_begins null t h = begins_as t _ h (refl, refl)
value_begins (boolean true) t h = begins_as t _ h (refl, refl)
value_begins (boolean false) t h = begins_as t _ h (refl, refl)
value_begins (number n) t h = begins_as t n h.0 (number_begins n h.1)
value_begins (string s) t h = begins_as t (34 ∷ (h.0 ++ 34 ∷ [])) h.2 (refl, refl)
value_begins (list items) t h = begins_as t (91 ∷ (h.0 ++ 93 ∷ [])) h.1 (refl, refl)
value_begins (object ms) t h = begins_as t (123 ∷ (h.0 ++ 125 ∷ [])) h.1 (refl, refl)

-- the first value of a list is read as a further one
pub first_as_further : (Q : Type 0) → (at : ℕ) (ps : List Parent) (s : State) (t bs : List ℕ) → Begins t → Reaches Q at (at_stage at_value (in_list no_items ∷ ps)) t s bs
    → Reaches Q at (at_stage at_first_value ps) t s bs
unfolding first_value_byte next_value_byte
first_as_further Q at ps s [] bs b h = absurd b
first_as_further Q at ps s (c ∷ t) bs b h =
    let first : step_at at at_first_value ps c ≡ value_byte at (in_list no_items ∷ ps) c = else_is (is_blank c) _ _ b.0 ∙ else_is (c == 93) _ _ b.1 in
    let further : step_at at at_value (in_list no_items ∷ ps) c ≡ value_byte at (in_list no_items ∷ ps) c = else_is (is_blank c) _ _ b.0 in
    let same_run : run at (at_stage at_first_value ps) (c ∷ t) ≡ run at (at_stage at_value (in_list no_items ∷ ps)) (c ∷ t) = ap (λ (r : Result State JsonFault). r >>= λ u. run (at + 1) u t) (first ∙ sym further) in
    elim h as (λ _. Reaches Q at (at_stage at_first_value ps) (c ∷ t) s bs) [ inl k ↦ inl (k.0, same_run ∙ k.1) | inr o ↦ inr (subst (IsOther Q) (sym same_run) o) ]
