-- A JSON text is read to its end without a fault of syntax, unless another fault is reported first: the steps.
use Rattle.std.proofs.Common.{◌≡◌, ℕ, ◌+◌, List, [], ◌∷◌, ◌++◌, Bool, true, false, refl, ap, sym, subst, ◌∙◌, inl, inr, Ok, Err, Result, length, arith}
use Rattle.std.proofs.lemmas.Bool.Decides.{nat_tests}
use Rattle.std.specs.Prelude.{◌⊎◌, ◌≤◌, if◌then◌else◌, nat_lt}
use Rattle.grpc_base.specs.declared.event.JsonFault.{JsonFault}
use Rattle.grpc_base.specs.declared.event.JsonFault.TheVariants as fault
use Rattle.json_text.specs.Reading.{Parent, Stage, at_top, at_first_value, at_value, at_first_name, at_name, at_colon, after_item, after_member, at_end, State, most_levels, opened, ◌>>=◌, step_at, step, run, top_byte, first_value_byte, next_value_byte, first_name_byte, next_name_byte, colon_byte, item_byte, member_byte, end_byte}
use Rattle.json_text.specs.Tree.{Tree, Items, Members}
use Rattle.json_text.specs.Grammar.{IsBlank, is_blank}

-- a fault that is not one of syntax, which only this lets be reported
abbrev pub IsOther : Type 0 → {A : Type 0} → Result A JsonFault → Type 0
IsOther Q (Ok x) = ⊥
IsOther Q (Err (fault.Syntax k)) = ⊥
IsOther Q (Err (fault.RepeatedKey k)) = Q
IsOther Q (Err (fault.TooDeep k)) = Q
IsOther Q (Err (fault.Number k)) = Q
IsOther Q (Err fault.TooLong) = ⊥
IsOther Q (Err fault.NoMemory) = ⊥

abbrev pub at_stage : Stage → List Parent → State
at_stage stage parents = record { stage = stage; parents = parents }

-- from one place with these bytes to another with those, or to another fault, which only Q lets be reported
abbrev pub Reaches : Type 0 → ℕ → State → List ℕ → State → List ℕ → Type 0
Reaches Q at s bs t cs = ((later : ℕ) × (run at s bs ≡ run later t cs)) ⊎ IsOther Q (run at s bs)

pub here : (Q : Type 0) → (at : ℕ) (s : State) (bs : List ℕ) → Reaches Q at s bs s bs
here Q at s bs = inl (at, refl)

pub join : (Q : Type 0) → (at : ℕ) (s t r : State) (bs cs ds : List ℕ) → Reaches Q at s bs t cs → ((later : ℕ) → Reaches Q later t cs r ds) → Reaches Q at s bs r ds
join Q at s t r bs cs ds (inl h) f = elim (f h.0) [ inl k ↦ inl (k.0, h.1 ∙ k.1) | inr o ↦ inr (subst (IsOther Q) (sym h.1) o) ]
join Q at s t r bs cs ds (inr o) f = inr o

-- the same bytes, written otherwise
pub along : (Q : Type 0) → (at : ℕ) (s t : State) (bs cs ds : List ℕ) → bs ≡ cs → Reaches Q at s cs t ds → Reaches Q at s bs t ds
along Q at s t bs cs ds e h = subst (λ (x : List ℕ). Reaches Q at s x t ds) (sym e) h

-- one byte
pub one : (Q : Type 0) → (at : ℕ) (s t : State) (b : ℕ) (bs : List ℕ) → step at s b ≡ Ok t → Reaches Q at s (b ∷ bs) t bs
one Q at s t b bs e = inl (at + 1, ap (λ (r : Result State JsonFault). r >>= λ u. run (at + 1) u bs) e)

pub other : (Q : Type 0) → (at : ℕ) (s t : State) (b : ℕ) (bs cs : List ℕ) (f : JsonFault) → step at s b ≡ Err f → IsOther Q {A = State} (Err f) → Reaches Q at s (b ∷ bs) t cs
other Q at s t b bs cs f e o = inr (subst (IsOther Q) (sym (ap (λ (r : Result State JsonFault). r >>= λ u. run (at + 1) u bs) e)) o)

-- the arm that a test chooses
pub then_is : {A : Type 0} (c : Bool) (x y : A) → c ≡ true → (if c then x else y) ≡ x
then_is true x y e = refl
then_is false x y e = cc

pub else_is : {A : Type 0} (c : Bool) (x y : A) → c ≡ false → (if c then x else y) ≡ y
else_is true x y e = cc
else_is false x y e = refl

-- a bracket that opens a level
pub opens : (Q : Type 0) → (at : ℕ) (s : State) (stage : Stage) (ps : List Parent) (b : ℕ) (bs : List ℕ) → step at s b ≡ opened stage at ps → (most_levels ≤ length ps → Q) → Reaches Q at s (b ∷ bs) (at_stage stage ps) bs
opens Q at s stage ps b bs e q = chosen (nat_lt (length ps) most_levels) refl
  where
    chosen : (c : Bool) → nat_lt (length ps) most_levels ≡ c → Reaches Q at s (b ∷ bs) (at_stage stage ps) bs
    chosen true y = one Q at s (at_stage stage ps) b bs (e ∙ then_is (nat_lt (length ps) most_levels) _ _ y)
    chosen false n = other Q at s (at_stage stage ps) b bs bs (fault.TooDeep at) (e ∙ else_is (nat_lt (length ps) most_levels) _ _ n) (q (grind (arith, nat_tests)))

-- a place that blanks leave as it is
abbrev pub Waits : Stage → List Parent → Type 0
Waits stage ps = (at b : ℕ) → is_blank b ≡ true → step_at at stage ps b ≡ Ok (at_stage stage ps)

pub blanks : (Q : Type 0) → (stage : Stage) (ps : List Parent) → Waits stage ps → (w : List ℕ) → IsBlank w → (at : ℕ) (bs : List ℕ)
    → Reaches Q at (at_stage stage ps) (w ++ bs) (at_stage stage ps) bs
blanks Q stage ps waits [] h at bs = here Q at (at_stage stage ps) bs
blanks Q stage ps waits (b ∷ w) h at bs =
    join Q at (at_stage stage ps) (at_stage stage ps) (at_stage stage ps) (b ∷ (w ++ bs)) (w ++ bs) bs
    (one Q at (at_stage stage ps) (at_stage stage ps) b (w ++ bs) (waits at b h.0)) (λ later. blanks Q stage ps waits w h.1 later bs)

pub top_waits : (ps : List Parent) → Waits at_top ps
unfolding top_byte
top_waits ps at b h = then_is (is_blank b) _ _ h

pub first_value_waits : (ps : List Parent) → Waits at_first_value ps
unfolding first_value_byte
first_value_waits ps at b h = then_is (is_blank b) _ _ h

pub value_waits : (ps : List Parent) → Waits at_value ps
unfolding next_value_byte
value_waits ps at b h = then_is (is_blank b) _ _ h

pub first_name_waits : (ps : List Parent) → Waits at_first_name ps
unfolding first_name_byte
first_name_waits ps at b h = then_is (is_blank b) _ _ h

pub name_waits : (ms : Members) (ps : List Parent) → Waits (at_name ms) ps
unfolding next_name_byte
name_waits ms ps at b h = then_is (is_blank b) _ _ h

pub colon_waits : (ps : List Parent) → Waits at_colon ps
unfolding colon_byte
colon_waits ps at b h = then_is (is_blank b) _ _ h

pub item_waits : (items : Items) (ps : List Parent) → Waits (after_item items) ps
unfolding item_byte
item_waits items ps at b h = then_is (is_blank b) _ _ h

pub member_waits : (ms : Members) (ps : List Parent) → Waits (after_member ms) ps
unfolding member_byte
member_waits ms ps at b h = then_is (is_blank b) _ _ h

pub end_waits : (v : Tree) (ps : List Parent) → Waits (at_end v) ps
unfolding end_byte
end_waits v ps at b h = then_is (is_blank b) _ _ h
