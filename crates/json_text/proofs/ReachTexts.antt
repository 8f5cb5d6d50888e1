-- A JSON text is read to its end without a fault of syntax, unless another fault is reported first.
use Rattle.std.proofs.Common.{◌≡◌, ℕ, List, [], ◌∷◌, ◌++◌, Bool, true, false, refl, ap, sym, subst, ◌∙◌, inl, inr, append_assoc, Ok, suc, length, arith}
use Rattle.std.specs.Prelude.{◌⊎◌, ◌==◌, ◌||◌}
use Rattle.grpc_base.specs.declared.event.JsonFault.TheVariants as fault
use Rattle.json_text.specs.Tree.{Tree, null, boolean, number, string, list, object, Items, no_items, item_after, Members, no_members, member_after, is_named}
use Rattle.json_text.specs.Strings.{settled, opened_quote}
use Rattle.json_text.specs.Reading.{Parent, in_list, in_object, at_top, at_first_value, at_value, at_first_name, at_name, at_colon, after_item, after_member, in_name, at_end, State, put, opened, step_at, run, at_start, top_byte, first_value_byte, next_value_byte, value_byte, first_name_byte, next_name_byte, colon_byte, item_byte, member_byte, name_goes, named}
use Rattle.json_text.specs.Readable.{IsReadable, AreReadable, HasReadable}
use Rattle.json_text.specs.Grammar.{IsBlank, Named, IsValue, InList, BeforeItem, InObject, BeforeName, IsObject, IsText, is_blank}
use Rattle.json_text.specs.declared.string.Spot.TheVariants as spot
use Rattle.json_text.specs.declared.string.Read.{Read}
use Rattle.json_text.specs.declared.string.QuotedNext.{QuotedNext}
use Rattle.json_text.proofs.Tools.{append_nil}
use Rattle.json_text.proofs.Places.{IsInside}
use Rattle.json_text.proofs.Reach.{IsOther, at_stage, Reaches, join, along, one, other, then_is, else_is, opens, blanks, top_waits, first_value_waits, value_waits, first_name_waits, name_waits, colon_waits, item_waits, member_waits, end_waits}
use Rattle.json_text.proofs.Exponents.{plain_no_exponent}
use Rattle.json_text.proofs.ReachDigits.{is_delim, IsAfter, number_reach}
use Rattle.json_text.proofs.ReachQuotes.{GoesOn, quoted, chars_reach}
use Rattle.json_text.proofs.ReachValues.{string_reach, null_reach, true_reach, false_reach, Begins, begins_more, value_begins, first_as_further}

true_not_false : (b : Bool) → b ≡ true → b ≡ false → ⊥
true_not_false b y n = cc

blank_delim : (b : ℕ) → is_blank b ≡ true → is_delim b ≡ true
blank_delim b h = ap (λ (x : Bool). x || (b == 44) || (b == 93) || (b == 125)) h

after_blanks : (w : List ℕ) (c : ℕ) (bs : List ℕ) → IsBlank w → is_delim c ≡ true → IsAfter (w ++ c ∷ bs)
after_blanks [] c bs h d = d
after_blanks (b ∷ w) c bs h d = blank_delim b h.0

list_opens : (at : ℕ) (ps : List Parent) → step_at at at_value ps 91 ≡ opened at_first_value at ps
unfolding next_value_byte value_byte
list_opens at ps = refl

object_opens : (at : ℕ) (ps : List Parent) → step_at at at_value ps 123 ≡ opened at_first_name at ps
unfolding next_value_byte value_byte
object_opens at ps = refl

top_opens : (at : ℕ) (ps : List Parent) → step_at at at_top ps 123 ≡ opened at_first_name at ps
unfolding top_byte
top_opens at ps = refl

empty_list : (at : ℕ) (ps : List Parent) → step_at at at_first_value ps 93 ≡ Ok (put (list no_items) ps)
unfolding first_value_byte
empty_list at ps = refl

list_closes : (at : ℕ) (items : Items) (ps : List Parent) → step_at at (after_item items) ps 93 ≡ Ok (put (list items) ps)
unfolding item_byte
list_closes at items ps = refl

list_goes : (at : ℕ) (items : Items) (ps : List Parent) → step_at at (after_item items) ps 44 ≡ Ok (at_stage at_value (in_list items ∷ ps))
unfolding item_byte
list_goes at items ps = refl

empty_object : (at : ℕ) (ps : List Parent) → step_at at at_first_name ps 125 ≡ Ok (put (object no_members) ps)
unfolding first_name_byte
empty_object at ps = refl

object_closes : (at : ℕ) (ms : Members) (ps : List Parent) → step_at at (after_member ms) ps 125 ≡ Ok (put (object ms) ps)
unfolding member_byte
object_closes at ms ps = refl

object_goes : (at : ℕ) (ms : Members) (ps : List Parent) → step_at at (after_member ms) ps 44 ≡ Ok (at_stage (at_name ms) ps)
unfolding member_byte
object_goes at ms ps = refl

first_name_opens : (at : ℕ) (ps : List Parent) → step_at at at_first_name ps 34 ≡ Ok (at_stage (in_name no_members at opened_quote) ps)
unfolding first_name_byte
first_name_opens at ps = refl

name_opens : (at : ℕ) (ms : Members) (ps : List Parent) → step_at at (at_name ms) ps 34 ≡ Ok (at_stage (in_name ms at opened_quote) ps)
unfolding next_name_byte
name_opens at ms ps = refl

colon_goes : (at : ℕ) (ps : List Parent) → step_at at at_colon ps 58 ≡ Ok (at_stage at_value ps)
unfolding colon_byte
colon_goes at ps = refl

name_goes_on : (ms : Members) (start : ℕ) (ps : List Parent) → GoesOn (in_name ms start) ps
unfolding name_goes
name_goes_on ms start ps at b q r e = ap (λ (n : QuotedNext). name_goes at ms start n ps) e

-- a name ends, or is reported as a repeated one
name_ends : (Q : Type 0) → (at start : ℕ) (ms : Members) (r : Read) (ps : List Parent) (bs : List ℕ) → (is_named (settled r) ms ≡ true → Q)
    → Reaches Q at (at_stage (in_name ms start (quoted spot.Between r)) ps) (34 ∷ bs) (at_stage at_colon (in_object ms (settled r) ∷ ps)) bs
unfolding name_goes named
name_ends Q at start ms r ps bs reported = chosen (is_named (settled r) ms) refl
  where
    chosen : (c : Bool) → is_named (settled r) ms ≡ c
        → Reaches Q at (at_stage (in_name ms start (quoted spot.Between r)) ps) (34 ∷ bs) (at_stage at_colon (in_object ms (settled r) ∷ ps)) bs
    chosen true y = other Q at (at_stage (in_name ms start (quoted spot.Between r)) ps) (at_stage at_colon (in_object ms (settled r) ∷ ps)) 34 bs bs (fault.RepeatedKey start) (then_is (is_named (settled r) ms) _ _ y) (reported y)
    chosen false n = one Q at (at_stage (in_name ms start (quoted spot.Between r)) ps) (at_stage at_colon (in_object ms (settled r) ∷ ps)) 34 bs (else_is (is_named (settled r) ms) _ _ n)

-- a name and its colon, after what stands before them
named_reach : (Q : Type 0) → (ms : Members) (Before : List ℕ → Type 0) (ps : List Parent) (name f : List ℕ) → Named Before name f → (is_named name ms ≡ true → Q)
    → ((g : List ℕ) → Before g → (at : ℕ) (u bs : List ℕ) (s : State)
    → ((later start : ℕ) → Reaches Q later (at_stage (in_name ms start opened_quote) ps) u s bs) → Reaches Q at (at_stage at_first_name ps) (g ++ 34 ∷ u) s bs)
    → (at : ℕ) (u bs : List ℕ) (s : State) → ((later : ℕ) → Reaches Q later (at_stage at_value (in_object ms name ∷ ps)) u s bs)
    → Reaches Q at (at_stage at_first_name ps) (f ++ u) s bs
named_reach Q ms Before ps name f h reported before at u bs s k =
    let g = h.0 in let w = h.2 in let x = h.3 in
    let inner = h.6.0 in let r = h.6.1 in
    let rest : List ℕ = w ++ 58 ∷ (x ++ u) in
    let tail : (w ++ 58 ∷ x) ++ u ≡ rest = append_assoc w (58 ∷ x) u in
    let text : f ++ u ≡ g ++ 34 ∷ (inner ++ 34 ∷ rest) =
    ap (λ (y : List ℕ). y ++ u) h.4 ∙ append_assoc g (h.1 ++ (w ++ 58 ∷ x)) u
    ∙ ap (λ (y : List ℕ). g ++ y) (append_assoc h.1 (w ++ 58 ∷ x) u ∙ ap (λ (y : List ℕ). h.1 ++ y) tail ∙ ap (λ (y : List ℕ). y ++ rest) h.6.2
    ∙ ap (λ (y : List ℕ). 34 ∷ y) (append_assoc inner (34 ∷ []) rest)) in
    let named_as : in_object ms (settled r) ≡ in_object ms name = ap (λ (y : List ℕ). in_object ms y) (sym h.6.3) in
    along Q at (at_stage at_first_name ps) s (f ++ u) (g ++ 34 ∷ (inner ++ 34 ∷ rest)) bs text
    (before g h.5 at (inner ++ 34 ∷ rest) bs s (λ at₂ start.
    join Q at₂ (at_stage (in_name ms start opened_quote) ps) (at_stage (in_name ms start (quoted spot.Between r)) ps) s (inner ++ 34 ∷ rest) (34 ∷ rest) bs
    (chars_reach Q (in_name ms start) ps (name_goes_on ms start ps) inner r h.6.4 at₂ (34 ∷ rest))
    (λ at₃. join Q at₃ (at_stage (in_name ms start (quoted spot.Between r)) ps) (at_stage at_colon (in_object ms (settled r) ∷ ps)) s (34 ∷ rest) rest bs
    (name_ends Q at₃ start ms r ps rest (λ y. reported (ap (λ (x : List ℕ). is_named x ms) h.6.3 ∙ y)))
    (λ at₄. join Q at₄ (at_stage at_colon (in_object ms (settled r) ∷ ps)) (at_stage at_colon (in_object ms (settled r) ∷ ps)) s rest (58 ∷ (x ++ u)) bs
    (blanks Q at_colon (in_object ms (settled r) ∷ ps) (colon_waits (in_object ms (settled r) ∷ ps)) w h.7 at₄ (58 ∷ (x ++ u)))
    (λ at₅. join Q at₅ (at_stage at_colon (in_object ms (settled r) ∷ ps)) (at_stage at_value (in_object ms (settled r) ∷ ps)) s (58 ∷ (x ++ u)) (x ++ u) bs
    (one Q at₅ (at_stage at_colon (in_object ms (settled r) ∷ ps)) (at_stage at_value (in_object ms (settled r) ∷ ps)) 58 (x ++ u) (colon_goes at₅ (in_object ms (settled r) ∷ ps)))
    (λ at₆. join Q at₆ (at_stage at_value (in_object ms (settled r) ∷ ps)) (at_stage at_value (in_object ms (settled r) ∷ ps)) s (x ++ u) u bs
    (blanks Q at_value (in_object ms (settled r) ∷ ps) (value_waits (in_object ms (settled r) ∷ ps)) x h.8 at₆ u)
    (λ at₇. subst (λ (y : Parent). Reaches Q at₇ (at_stage at_value (y ∷ ps)) u s bs) (sym named_as) (k at₇))))))))

ended_text : (t f u w x : List ℕ) → t ≡ f ++ (u ++ w) → t ++ x ≡ f ++ (u ++ (w ++ x))
ended_text t f u w x e = ap (λ (y : List ℕ). y ++ x) e ∙ append_assoc f (u ++ w) x ∙ ap (λ (y : List ℕ). f ++ y) (append_assoc u w x)

mutual
  pub value_reach : (Q : Type 0) → (v : Tree) (t : List ℕ) → IsValue v t → (at : ℕ) (ps : List Parent) (bs : List ℕ) → IsInside ps → IsAfter bs
      → ((IsReadable v (length ps) → ⊥) → Q) → Reaches Q at (at_stage at_value ps) (t ++ bs) (put v ps) bs
  value_reach Q null t h at ps bs i b reported = along Q at (at_stage at_value ps) (put null ps) (t ++ bs) _ bs (ap (λ (y : List ℕ). y ++ bs) h) (null_reach Q at ps bs)
  value_reach Q (boolean true) t h at ps bs i b reported = along Q at (at_stage at_value ps) (put (boolean true) ps) (t ++ bs) _ bs (ap (λ (y : List ℕ). y ++ bs) h) (true_reach Q at ps bs)
  value_reach Q (boolean false) t h at ps bs i b reported = along Q at (at_stage at_value ps) (put (boolean false) ps) (t ++ bs) _ bs (ap (λ (y : List ℕ). y ++ bs) h) (false_reach Q at ps bs)
  value_reach Q (number n) t h at ps bs i b reported =
      along Q at (at_stage at_value ps) (put (number n) ps) (t ++ bs) (n ++ bs) bs (ap (λ (y : List ℕ). y ++ bs) h.0) (number_reach Q n h.1 (λ e. reported (λ plain. plain_no_exponent n plain e)) at ps bs i b)
  value_reach Q (string s) t h at ps bs i b reported = string_reach Q s t h at ps bs
  value_reach Q (list items) t h at ps bs i b reported =
      along Q at (at_stage at_value ps) (put (list items) ps) (t ++ bs) (91 ∷ (h.0 ++ 93 ∷ bs)) bs
      (ap (λ (y : List ℕ). y ++ bs) h.1 ∙ ap (λ (y : List ℕ). 91 ∷ y) (append_assoc h.0 (93 ∷ []) bs))
      (join Q at (at_stage at_value ps) (at_stage at_first_value ps) (put (list items) ps) (91 ∷ (h.0 ++ 93 ∷ bs)) (h.0 ++ 93 ∷ bs) bs
      (opens Q at (at_stage at_value ps) at_first_value ps 91 (h.0 ++ 93 ∷ bs) (list_opens at ps) (λ deep. reported (λ r. let g : ⊥ = omega (arith, deep, r.0) in g)))
      (λ later. items_reach Q items h.0 h.2 later ps bs (λ r. reported (λ x. r x.1))))
  value_reach Q (object ms) t h at ps bs i b reported =
      along Q at (at_stage at_value ps) (put (object ms) ps) (t ++ bs) (123 ∷ (h.0 ++ 125 ∷ bs)) bs
      (ap (λ (y : List ℕ). y ++ bs) h.1 ∙ ap (λ (y : List ℕ). 123 ∷ y) (append_assoc h.0 (125 ∷ []) bs))
      (join Q at (at_stage at_value ps) (at_stage at_first_name ps) (put (object ms) ps) (123 ∷ (h.0 ++ 125 ∷ bs)) (h.0 ++ 125 ∷ bs) bs
      (opens Q at (at_stage at_value ps) at_first_name ps 123 (h.0 ++ 125 ∷ bs) (object_opens at ps) (λ deep. reported (λ r. let g : ⊥ = omega (arith, deep, r.0) in g)))
      (λ later. members_reach Q ms h.0 h.2 later ps bs (λ r. reported (λ x. r x.1))))

  items_reach : (Q : Type 0) → (items : Items) (t : List ℕ) → InList items t → (at : ℕ) (ps : List Parent) (bs : List ℕ)
      → ((AreReadable items (suc (length ps)) → ⊥) → Q)
      → Reaches Q at (at_stage at_first_value ps) (t ++ 93 ∷ bs) (put (list items) ps) bs
  items_reach Q no_items t h at ps bs reported =
      join Q at (at_stage at_first_value ps) (at_stage at_first_value ps) (put (list no_items) ps) (t ++ 93 ∷ bs) (93 ∷ bs) bs
      (blanks Q at_first_value ps (first_value_waits ps) t h at (93 ∷ bs))
      (λ later. one Q later (at_stage at_first_value ps) (put (list no_items) ps) 93 bs (empty_list later ps))
  items_reach Q (item_after items v) t h at ps bs reported =
      along Q at (at_stage at_first_value ps) (put (list (item_after items v)) ps) (t ++ 93 ∷ bs) (h.0 ++ (h.1 ++ (h.2 ++ 93 ∷ bs))) bs (ended_text t h.0 h.1 h.2 (93 ∷ bs) h.3)
      (before_item_reach Q items h.0 h.4 at ps (h.1 ++ (h.2 ++ 93 ∷ bs)) bs (put (list (item_after items v)) ps) (begins_more h.1 (h.2 ++ 93 ∷ bs) (value_begins v h.1 h.5)) (λ r. reported (λ x. r x.0)) (λ at₂.
      join Q at₂ (at_stage at_value (in_list items ∷ ps)) (at_stage (after_item (item_after items v)) ps) (put (list (item_after items v)) ps) (h.1 ++ (h.2 ++ 93 ∷ bs)) (h.2 ++ 93 ∷ bs) bs
      (value_reach Q v h.1 h.5 at₂ (in_list items ∷ ps) (h.2 ++ 93 ∷ bs) tt (after_blanks h.2 93 bs h.6 refl) (λ r. reported (λ x. r x.1)))
      (λ at₃. join Q at₃ (at_stage (after_item (item_after items v)) ps) (at_stage (after_item (item_after items v)) ps) (put (list (item_after items v)) ps) (h.2 ++ 93 ∷ bs) (93 ∷ bs) bs
      (blanks Q (after_item (item_after items v)) ps (item_waits (item_after items v) ps) h.2 h.6 at₃ (93 ∷ bs))
      (λ at₄. one Q at₄ (at_stage (after_item (item_after items v)) ps) (put (list (item_after items v)) ps) 93 bs (list_closes at₄ (item_after items v) ps)))))

  before_item_reach : (Q : Type 0) → (items : Items) (f : List ℕ) → BeforeItem items f → (at : ℕ) (ps : List Parent) (u bs : List ℕ) (s : State) → Begins u → ((AreReadable items (suc (length ps)) → ⊥) → Q)
      → ((later : ℕ) → Reaches Q later (at_stage at_value (in_list items ∷ ps)) u s bs) → Reaches Q at (at_stage at_first_value ps) (f ++ u) s bs
  before_item_reach Q no_items f h at ps u bs s b reported k =
      join Q at (at_stage at_first_value ps) (at_stage at_first_value ps) s (f ++ u) u bs
      (blanks Q at_first_value ps (first_value_waits ps) f h at u)
      (λ later. first_as_further Q later ps s u bs b (k later))
  before_item_reach Q (item_after items v) f h at ps u bs s b reported k =
      let e = h.3 in
      let rest : List ℕ = 44 ∷ (h.1 ++ u) in
      along Q at (at_stage at_first_value ps) s (f ++ u) (e.0 ++ (e.1 ++ (e.2 ++ rest))) bs
      (ap (λ (y : List ℕ). y ++ u) h.2 ∙ append_assoc h.0 (44 ∷ h.1) u ∙ ended_text h.0 e.0 e.1 e.2 rest e.3)
      (before_item_reach Q items e.0 e.4 at ps (e.1 ++ (e.2 ++ rest)) bs s (begins_more e.1 (e.2 ++ rest) (value_begins v e.1 e.5)) (λ r. reported (λ x. r x.0)) (λ at₂.
      join Q at₂ (at_stage at_value (in_list items ∷ ps)) (at_stage (after_item (item_after items v)) ps) s (e.1 ++ (e.2 ++ rest)) (e.2 ++ rest) bs
      (value_reach Q v e.1 e.5 at₂ (in_list items ∷ ps) (e.2 ++ rest) tt (after_blanks e.2 44 (h.1 ++ u) e.6 refl) (λ r. reported (λ x. r x.1)))
      (λ at₃. join Q at₃ (at_stage (after_item (item_after items v)) ps) (at_stage (after_item (item_after items v)) ps) s (e.2 ++ rest) rest bs
      (blanks Q (after_item (item_after items v)) ps (item_waits (item_after items v) ps) e.2 e.6 at₃ rest)
      (λ at₄. join Q at₄ (at_stage (after_item (item_after items v)) ps) (at_stage at_value (in_list (item_after items v) ∷ ps)) s rest (h.1 ++ u) bs
      (one Q at₄ (at_stage (after_item (item_after items v)) ps) (at_stage at_value (in_list (item_after items v) ∷ ps)) 44 (h.1 ++ u) (list_goes at₄ (item_after items v) ps))
      (λ at₅. join Q at₅ (at_stage at_value (in_list (item_after items v) ∷ ps)) (at_stage at_value (in_list (item_after items v) ∷ ps)) s (h.1 ++ u) u bs
      (blanks Q at_value (in_list (item_after items v) ∷ ps) (value_waits (in_list (item_after items v) ∷ ps)) h.1 h.4 at₅ u) k)))))

  members_reach : (Q : Type 0) → (ms : Members) (t : List ℕ) → InObject ms t → (at : ℕ) (ps : List Parent) (bs : List ℕ)
      → ((HasReadable ms (suc (length ps)) → ⊥) → Q)
      → Reaches Q at (at_stage at_first_name ps) (t ++ 125 ∷ bs) (put (object ms) ps) bs
  members_reach Q no_members t h at ps bs reported =
      join Q at (at_stage at_first_name ps) (at_stage at_first_name ps) (put (object no_members) ps) (t ++ 125 ∷ bs) (125 ∷ bs) bs
      (blanks Q at_first_name ps (first_name_waits ps) t h at (125 ∷ bs))
      (λ later. one Q later (at_stage at_first_name ps) (put (object no_members) ps) 125 bs (empty_object later ps))
  members_reach Q (member_after ms name v) t h at ps bs reported =
      let whole : Members = member_after ms name v in
      along Q at (at_stage at_first_name ps) (put (object whole) ps) (t ++ 125 ∷ bs) (h.0 ++ (h.1 ++ (h.2 ++ 125 ∷ bs))) bs (ended_text t h.0 h.1 h.2 (125 ∷ bs) h.3)
      (named_reach Q ms (λ g. BeforeName ms g) ps name h.0 h.4 (λ y. reported (λ x. true_not_false _ y x.1)) (λ g before later u cs s k. before_name_reach Q ms g before later ps u cs s (λ r. reported (λ x. r x.0)) k) at (h.1 ++ (h.2 ++ 125 ∷ bs)) bs (put (object whole) ps) (λ at₂.
      join Q at₂ (at_stage at_value (in_object ms name ∷ ps)) (at_stage (after_member whole) ps) (put (object whole) ps) (h.1 ++ (h.2 ++ 125 ∷ bs)) (h.2 ++ 125 ∷ bs) bs
      (value_reach Q v h.1 h.5 at₂ (in_object ms name ∷ ps) (h.2 ++ 125 ∷ bs) tt (after_blanks h.2 125 bs h.6 refl) (λ r. reported (λ x. r x.2)))
      (λ at₃. join Q at₃ (at_stage (after_member whole) ps) (at_stage (after_member whole) ps) (put (object whole) ps) (h.2 ++ 125 ∷ bs) (125 ∷ bs) bs
      (blanks Q (after_member whole) ps (member_waits whole ps) h.2 h.6 at₃ (125 ∷ bs))
      (λ at₄. one Q at₄ (at_stage (after_member whole) ps) (put (object whole) ps) 125 bs (object_closes at₄ whole ps)))))

  before_name_reach : (Q : Type 0) → (ms : Members) (f : List ℕ) → BeforeName ms f → (at : ℕ) (ps : List Parent) (u bs : List ℕ) (s : State)
      → ((HasReadable ms (suc (length ps)) → ⊥) → Q)
      → ((later start : ℕ) → Reaches Q later (at_stage (in_name ms start opened_quote) ps) u s bs) → Reaches Q at (at_stage at_first_name ps) (f ++ 34 ∷ u) s bs
  before_name_reach Q no_members f h at ps u bs s reported k =
      join Q at (at_stage at_first_name ps) (at_stage at_first_name ps) s (f ++ 34 ∷ u) (34 ∷ u) bs
      (blanks Q at_first_name ps (first_name_waits ps) f h at (34 ∷ u))
      (λ later. join Q later (at_stage at_first_name ps) (at_stage (in_name no_members later opened_quote) ps) s (34 ∷ u) u bs
      (one Q later (at_stage at_first_name ps) (at_stage (in_name no_members later opened_quote) ps) 34 u (first_name_opens later ps)) (λ end. k end later))
  before_name_reach Q (member_after ms name v) f h at ps u bs s reported k =
      let whole : Members = member_after ms name v in
      let e = h.3 in
      let rest : List ℕ = 44 ∷ (h.1 ++ 34 ∷ u) in
      along Q at (at_stage at_first_name ps) s (f ++ 34 ∷ u) (e.0 ++ (e.1 ++ (e.2 ++ rest))) bs
      (ap (λ (y : List ℕ). y ++ 34 ∷ u) h.2 ∙ append_assoc h.0 (44 ∷ h.1) (34 ∷ u) ∙ ended_text h.0 e.0 e.1 e.2 rest e.3)
      (named_reach Q ms (λ g. BeforeName ms g) ps name e.0 e.4 (λ y. reported (λ x. true_not_false _ y x.1)) (λ g before later y cs r l. before_name_reach Q ms g before later ps y cs r (λ m. reported (λ x. m x.0)) l) at (e.1 ++ (e.2 ++ rest)) bs s (λ at₂.
      join Q at₂ (at_stage at_value (in_object ms name ∷ ps)) (at_stage (after_member whole) ps) s (e.1 ++ (e.2 ++ rest)) (e.2 ++ rest) bs
      (value_reach Q v e.1 e.5 at₂ (in_object ms name ∷ ps) (e.2 ++ rest) tt (after_blanks e.2 44 (h.1 ++ 34 ∷ u) e.6 refl) (λ r. reported (λ x. r x.2)))
      (λ at₃. join Q at₃ (at_stage (after_member whole) ps) (at_stage (after_member whole) ps) s (e.2 ++ rest) rest bs
      (blanks Q (after_member whole) ps (member_waits whole ps) e.2 e.6 at₃ rest)
      (λ at₄. join Q at₄ (at_stage (after_member whole) ps) (at_stage (at_name whole) ps) s rest (h.1 ++ 34 ∷ u) bs
      (one Q at₄ (at_stage (after_member whole) ps) (at_stage (at_name whole) ps) 44 (h.1 ++ 34 ∷ u) (object_goes at₄ whole ps))
      (λ at₅. join Q at₅ (at_stage (at_name whole) ps) (at_stage (at_name whole) ps) s (h.1 ++ 34 ∷ u) (34 ∷ u) bs
      (blanks Q (at_name whole) ps (name_waits whole ps) h.1 h.4 at₅ (34 ∷ u))
      (λ at₆. join Q at₆ (at_stage (at_name whole) ps) (at_stage (in_name whole at₆ opened_quote) ps) s (34 ∷ u) u bs
      (one Q at₆ (at_stage (at_name whole) ps) (at_stage (in_name whole at₆ opened_quote) ps) 34 u (name_opens at₆ whole ps)) (λ end. k end at₆)))))))

-- the whole text
object_reach : (Q : Type 0) → (v : Tree) (f u w : List ℕ) → IsBlank f → IsValue v u → IsBlank w → IsObject v → ((IsReadable v 0 → ⊥) → Q) → Reaches Q 0 at_start (f ++ (u ++ w)) (at_stage (at_end v) []) []
object_reach Q null f u w bf h bw o reported = absurd o
object_reach Q (boolean b) f u w bf h bw o reported = absurd o
object_reach Q (number n) f u w bf h bw o reported = absurd o
object_reach Q (string s) f u w bf h bw o reported = absurd o
object_reach Q (list items) f u w bf h bw o reported = absurd o
object_reach Q (object ms) f u w bf h bw o reported =
    let all : State = at_stage (at_end (object ms)) [] in
    join Q 0 at_start at_start all (f ++ (u ++ w)) (u ++ w) []
    (blanks Q at_top [] (top_waits []) f bf 0 (u ++ w))
    (λ at₂. along Q at₂ at_start all (u ++ w) (123 ∷ (h.0 ++ 125 ∷ (w ++ []))) []
    (ap (λ (y : List ℕ). y ++ w) h.1 ∙ ap (λ (y : List ℕ). 123 ∷ y) (append_assoc h.0 (125 ∷ []) w) ∙ ap (λ (y : List ℕ). 123 ∷ (h.0 ++ 125 ∷ y)) (append_nil w))
    (join Q at₂ at_start (at_stage at_first_name []) all (123 ∷ (h.0 ++ 125 ∷ (w ++ []))) (h.0 ++ 125 ∷ (w ++ [])) []
    (opens Q at₂ at_start at_first_name [] 123 (h.0 ++ 125 ∷ (w ++ [])) (top_opens at₂ []) (λ deep. let g : ⊥ = omega (arith, deep) in absurd g))
    (λ at₃. join Q at₃ (at_stage at_first_name []) all all (h.0 ++ 125 ∷ (w ++ [])) (w ++ []) []
    (members_reach Q ms h.0 h.2 at₃ [] (w ++ []) (λ r. reported (λ x. r x.1)))
    (λ at₄. blanks Q (at_end (object ms)) [] (end_waits (object ms) []) w bw at₄ []))))

pub text_reach : (Q : Type 0) → (v : Tree) (t : List ℕ) → IsText v t → ((IsReadable v 0 → ⊥) → Q) → (run 0 at_start t ≡ Ok (at_stage (at_end v) [])) ⊎ IsOther Q (run 0 at_start t)
text_reach Q v t h reported =
    elim (along Q 0 at_start (at_stage (at_end v) []) t (h.0.0 ++ (h.0.1 ++ h.0.2)) [] h.0.3 (object_reach Q v h.0.0 h.0.1 h.0.2 h.0.4 h.0.5 h.0.6 h.1 reported))
    [ inl k ↦ inl k.1 | inr o ↦ inr o ]
