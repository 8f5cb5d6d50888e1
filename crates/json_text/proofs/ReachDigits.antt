-- A number is read to its end, or its exponent is reported.
use Rattle.std.proofs.Common.{◌≡◌, ℕ, ◌+◌, List, [], ◌∷◌, ◌++◌, Bool, true, false, refl, ap, sym, subst, ◌∙◌, inl, inr, append_assoc, Ok, Result, arith}
use Rattle.std.specs.Prelude.{◌==◌, ◌||◌}
use Rattle.std.proofs.lemmas.Bool.Decides.{nat_tests}
use Rattle.grpc_base.specs.declared.event.JsonFault.{JsonFault}
use Rattle.grpc_base.specs.declared.event.JsonFault.TheVariants as fault
use Rattle.json_text.specs.Tree.{Tree, number}
use Rattle.json_text.specs.Numbers.{is_digit, is_e, is_sign, number_byte}
use Rattle.json_text.specs.Reading.{Parent, in_list, in_object, at_value, in_number, State, put, step_at, step, run, ◌>>=◌, next_value_byte, value_byte, digit_byte, after_number}
use Rattle.json_text.specs.Grammar.{AreDigits, IsDigits, IsMinus, IsWhole, IsInteger, IsPlain, IsPlusMinus, HasExponent, IsNumber, is_blank}
use Rattle.json_text.specs.declared.number.Part.{Part}
use Rattle.json_text.specs.declared.number.Part.TheVariants as part
use Rattle.json_text.specs.declared.number.NumberByte.{NumberByte}
use Rattle.json_text.specs.declared.number.NumberByte.TheVariants as byte
use Rattle.json_text.proofs.Tools.{append_nil}
use Rattle.json_text.proofs.Places.{IsInside}
use Rattle.json_text.proofs.Reach.{at_stage, Reaches, here, join, along, one, other, then_is, else_is}

-- what may follow a value
abbrev pub is_delim : ℕ → Bool
is_delim b = is_blank b || (b == 44) || (b == 93) || (b == 125)

abbrev pub IsAfter : List ℕ → Type 0
IsAfter [] = ⊥
IsAfter (b ∷ bs) = is_delim b ≡ true

abbrev pub digits_at : Part → ℕ → List ℕ → List Parent → State
digits_at q start t ps = at_stage (in_number q start t) ps

inside : (Q : Type 0) → (at : ℕ) (q r : Part) (start : ℕ) (t : List ℕ) (ps : List Parent) (b : ℕ) (bs : List ℕ) → number_byte q b ≡ byte.Inside r
    → Reaches Q at (digits_at q start t ps) (b ∷ bs) (digits_at r start (t ++ b ∷ []) ps) bs
unfolding digit_byte
inside Q at q r start t ps b bs e =
    one Q at (digits_at q start t ps) (digits_at r start (t ++ b ∷ []) ps) b bs (ap (λ (n : NumberByte). digit_byte at n start t ps b) e)

exponent : (Q : Type 0) → (at : ℕ) (q : Part) (start : ℕ) (t : List ℕ) (ps : List Parent) (b : ℕ) (bs cs : List ℕ) (s : State) → number_byte q b ≡ byte.Exponent → Q
    → Reaches Q at (digits_at q start t ps) (b ∷ bs) s cs
unfolding digit_byte
exponent Q at q start t ps b bs cs s e reported =
    other Q at (digits_at q start t ps) s b bs cs (fault.Number start) (ap (λ (n : NumberByte). digit_byte at n start t ps b) e) reported

put_step : (at : ℕ) (v : Tree) (ps : List Parent) (b : ℕ) → IsInside ps → after_number at v ps b ≡ step at (put v ps) b
unfolding after_number
put_step at v [] b i = absurd i
put_step at v (in_list items ∷ ps) b i = refl
put_step at v (in_object ms name ∷ ps) b i = refl

afterwards : (Q : Type 0) → (at : ℕ) (q : Part) (start : ℕ) (t : List ℕ) (ps : List Parent) (b : ℕ) (bs : List ℕ) → IsInside ps → number_byte q b ≡ byte.After
    → Reaches Q at (digits_at q start t ps) (b ∷ bs) (put (number t) ps) (b ∷ bs)
unfolding digit_byte
afterwards Q at q start t ps b bs i e =
    inl (at, ap (λ (r : Result State JsonFault). r >>= λ u. run (at + 1) u bs) (ap (λ (n : NumberByte). digit_byte at n start t ps b) e ∙ put_step at (number t) ps b i))

landing : (Q : Type 0) → (at : ℕ) (s : State) (bs : List ℕ) (q : Part) (start : ℕ) (t u : List ℕ) (ps : List Parent) (cs : List ℕ) → t ≡ u
    → Reaches Q at s bs (digits_at q start t ps) cs → Reaches Q at s bs (digits_at q start u ps) cs
landing Q at s bs q start t u ps cs e h = subst (λ (x : List ℕ). Reaches Q at s bs (digits_at q start x ps) cs) e h

digits_reach : (Q : Type 0) → (q : Part) → ((b : ℕ) → is_digit b ≡ true → number_byte q b ≡ byte.Inside q) → (ds : List ℕ) → AreDigits ds
    → (at start : ℕ) (t : List ℕ) (ps : List Parent) (bs : List ℕ) → Reaches Q at (digits_at q start t ps) (ds ++ bs) (digits_at q start (t ++ ds) ps) bs
digits_reach Q q goes [] h at start t ps bs = landing Q at _ bs q start t (t ++ []) ps bs (append_nil t) (here Q at (digits_at q start t ps) bs)
digits_reach Q q goes (d ∷ ds) h at start t ps bs =
    join Q at (digits_at q start t ps) (digits_at q start (t ++ d ∷ []) ps) (digits_at q start (t ++ d ∷ ds) ps) (d ∷ (ds ++ bs)) (ds ++ bs) bs
    (inside Q at q q start t ps d (ds ++ bs) (goes d h.0))
    (λ later. landing Q later _ (ds ++ bs) q start ((t ++ d ∷ []) ++ ds) (t ++ d ∷ ds) ps bs (append_assoc t (d ∷ []) ds)
    (digits_reach Q q goes ds h.1 later start (t ++ d ∷ []) ps bs))

whole_digit : (b : ℕ) → is_digit b ≡ true → number_byte part.Whole b ≡ byte.Inside part.Whole
whole_digit b h = then_is (is_digit b) _ _ h

fraction_digit : (b : ℕ) → is_digit b ≡ true → number_byte part.Fraction b ≡ byte.Inside part.Fraction
fraction_digit b h = then_is (is_digit b) _ _ h

-- where a number may end
abbrev CanStop : Part → Type 0
CanStop q = ((d : ℕ) → is_delim d ≡ true → number_byte q d ≡ byte.After) × ((e : ℕ) → is_e e ≡ true → number_byte q e ≡ byte.Inside part.Mark)

delim_digit : (d : ℕ) → is_delim d ≡ true → is_digit d ≡ false
delim_digit d h = grind (arith, nat_tests)

delim_point : (d : ℕ) → is_delim d ≡ true → (d == 46) ≡ false
delim_point d h = grind (arith, nat_tests)

delim_e : (d : ℕ) → is_delim d ≡ true → is_e d ≡ false
delim_e d h = grind (arith, nat_tests)

e_digit : (e : ℕ) → is_e e ≡ true → is_digit e ≡ false
e_digit e h = grind (arith, nat_tests)

e_point : (e : ℕ) → is_e e ≡ true → (e == 46) ≡ false
e_point e h = grind (arith, nat_tests)

zero_stops : CanStop part.Zero
zero_stops = (λ d h. else_is (d == 46) _ _ (delim_point d h) ∙ else_is (is_e d) _ _ (delim_e d h), λ e h. else_is (e == 46) _ _ (e_point e h) ∙ then_is (is_e e) _ _ h)

whole_stops : CanStop part.Whole
whole_stops = (λ d h. else_is (is_digit d) _ _ (delim_digit d h) ∙ zero_stops.0 d h, λ e h. else_is (is_digit e) _ _ (e_digit e h) ∙ zero_stops.1 e h)

fraction_stops : CanStop part.Fraction
fraction_stops = (λ d h. else_is (is_digit d) _ _ (delim_digit d h) ∙ else_is (is_e d) _ _ (delim_e d h), λ e h. else_is (is_digit e) _ _ (e_digit e h) ∙ then_is (is_e e) _ _ h)

-- the first digit of a number, and one after a minus
digit_first : (at : ℕ) (ps : List Parent) (d : ℕ) → (d == 48) ≡ false → is_digit d ≡ true → step_at at at_value ps d ≡ Ok (digits_at part.Whole at (d ∷ []) ps)
unfolding next_value_byte value_byte
digit_first at ps d n y =
    let blank : is_blank d ≡ false = grind (arith, nat_tests) in
    let quote : (d == 34) ≡ false = grind (arith, nat_tests) in
    let minus : (d == 45) ≡ false = grind (arith, nat_tests) in
    else_is (is_blank d) _ _ blank ∙ else_is (d == 34) _ _ quote ∙ else_is (d == 45) _ _ minus ∙ else_is (d == 48) _ _ n ∙ then_is (is_digit d) _ _ y

zero_first : (at : ℕ) (ps : List Parent) → step_at at at_value ps 48 ≡ Ok (digits_at part.Zero at (48 ∷ []) ps)
unfolding next_value_byte value_byte
zero_first at ps = refl

minus_first : (at : ℕ) (ps : List Parent) → step_at at at_value ps 45 ≡ Ok (digits_at part.Minus at (45 ∷ []) ps)
unfolding next_value_byte value_byte
minus_first at ps = refl

minus_digit : (d : ℕ) → (d == 48) ≡ false → is_digit d ≡ true → number_byte part.Minus d ≡ byte.Inside part.Whole
minus_digit d n y = else_is (d == 48) _ _ n ∙ then_is (is_digit d) _ _ y

-- what follows at a place inside a number
abbrev Continues : (Q : Type 0) → List ℕ → List Parent → List ℕ → State → List ℕ → Type 0
Continues Q t ps bs s cs = (later start : ℕ) (q : Part) → CanStop q → Reaches Q later (digits_at q start t ps) bs s cs

abbrev GoesWhole : (Q : Type 0) → List ℕ → List Parent → List ℕ → State → List ℕ → Type 0
GoesWhole Q t ps bs s cs =
    (later start : ℕ) (q : Part) → CanStop q → number_byte q 46 ≡ byte.Inside part.Point → Reaches Q later (digits_at q start t ps) bs s cs

whole_reach : (Q : Type 0) → (d : ℕ) (ds : List ℕ) → IsWhole (d ∷ ds) → (at : ℕ) (ps : List Parent) (bs : List ℕ) (s : State) (cs : List ℕ) → GoesWhole Q (d ∷ ds) ps bs s cs
    → Reaches Q at (at_stage at_value ps) (d ∷ (ds ++ bs)) s cs
whole_reach Q d ds (inl h) at ps bs s cs k =
    let text : d ∷ (ds ++ bs) ≡ 48 ∷ bs = (let a = h.0 in let b = h.1 in cc) in
    let seen : 48 ∷ [] ≡ d ∷ ds = (let a = h.0 in let b = h.1 in cc) in
    along Q at (at_stage at_value ps) s _ (48 ∷ bs) cs text
    (join Q at (at_stage at_value ps) (digits_at part.Zero at (48 ∷ []) ps) s (48 ∷ bs) bs cs
    (one Q at (at_stage at_value ps) (digits_at part.Zero at (48 ∷ []) ps) 48 bs (zero_first at ps))
    (λ later. subst (λ (x : List ℕ). Reaches Q later (digits_at part.Zero at x ps) bs s cs) (sym seen) (k later at part.Zero zero_stops refl)))
whole_reach Q d ds (inr h) at ps bs s cs k =
    join Q at (at_stage at_value ps) (digits_at part.Whole at (d ∷ []) ps) s (d ∷ (ds ++ bs)) (ds ++ bs) cs
    (one Q at (at_stage at_value ps) (digits_at part.Whole at (d ∷ []) ps) d (ds ++ bs) (digit_first at ps d h.0 h.1))
    (λ later. join Q later (digits_at part.Whole at (d ∷ []) ps) (digits_at part.Whole at (d ∷ ds) ps) s (ds ++ bs) bs cs
    (digits_reach Q part.Whole whole_digit ds h.2 later at (d ∷ []) ps bs)
    (λ end. k end at part.Whole whole_stops refl))

minus_reach : (Q : Type 0) → (d : ℕ) (ds : List ℕ) → IsWhole (d ∷ ds) → (at : ℕ) (ps : List Parent) (bs : List ℕ) (s : State) (cs : List ℕ) → GoesWhole Q (45 ∷ d ∷ ds) ps bs s cs
    → Reaches Q at (at_stage at_value ps) (45 ∷ d ∷ (ds ++ bs)) s cs
minus_reach Q d ds w at ps bs s cs k =
    join Q at (at_stage at_value ps) (digits_at part.Minus at (45 ∷ []) ps) s (45 ∷ d ∷ (ds ++ bs)) (d ∷ (ds ++ bs)) cs
    (one Q at (at_stage at_value ps) (digits_at part.Minus at (45 ∷ []) ps) 45 (d ∷ (ds ++ bs)) (minus_first at ps))
    (λ later. after_minus w later)
  where
    after_minus : IsWhole (d ∷ ds) → (later : ℕ) → Reaches Q later (digits_at part.Minus at (45 ∷ []) ps) (d ∷ (ds ++ bs)) s cs
    after_minus (inl h) later =
        let text : d ∷ (ds ++ bs) ≡ 48 ∷ bs = (let a = h.0 in let b = h.1 in cc) in
        let seen : 45 ∷ 48 ∷ [] ≡ 45 ∷ d ∷ ds = (let a = h.0 in let b = h.1 in cc) in
        along Q later (digits_at part.Minus at (45 ∷ []) ps) s _ (48 ∷ bs) cs text
        (join Q later (digits_at part.Minus at (45 ∷ []) ps) (digits_at part.Zero at (45 ∷ 48 ∷ []) ps) s (48 ∷ bs) bs cs
        (inside Q later part.Minus part.Zero at (45 ∷ []) ps 48 bs refl)
        (λ end. subst (λ (x : List ℕ). Reaches Q end (digits_at part.Zero at x ps) bs s cs) (sym seen) (k end at part.Zero zero_stops refl)))
    after_minus (inr h) later =
        join Q later (digits_at part.Minus at (45 ∷ []) ps) (digits_at part.Whole at (45 ∷ d ∷ []) ps) s (d ∷ (ds ++ bs)) (ds ++ bs) cs
        (inside Q later part.Minus part.Whole at (45 ∷ []) ps d (ds ++ bs) (minus_digit d h.0 h.1))
        (λ end. join Q end (digits_at part.Whole at (45 ∷ d ∷ []) ps) (digits_at part.Whole at (45 ∷ d ∷ ds) ps) s (ds ++ bs) bs cs
        (digits_reach Q part.Whole whole_digit ds h.2 end at (45 ∷ d ∷ []) ps bs)
        (λ last. k last at part.Whole whole_stops refl))

integer_parts : (Q : Type 0) → (minus whole : List ℕ) → IsMinus minus → IsWhole whole → (at : ℕ) (ps : List Parent) (bs : List ℕ) (s : State) (cs : List ℕ) → GoesWhole Q (minus ++ whole) ps bs s cs
    → Reaches Q at (at_stage at_value ps) ((minus ++ whole) ++ bs) s cs
integer_parts Q minus [] m w at ps bs s cs k = absurd w
integer_parts Q [] (d ∷ ds) m w at ps bs s cs k = whole_reach Q d ds w at ps bs s cs k
integer_parts Q (c ∷ []) (d ∷ ds) m w at ps bs s cs k =
    along Q at (at_stage at_value ps) s _ (45 ∷ d ∷ (ds ++ bs)) cs (ap (λ (x : ℕ). x ∷ d ∷ (ds ++ bs)) m)
    (minus_reach Q d ds w at ps bs s cs (λ later start q a b. subst (λ (x : ℕ). Reaches Q later (digits_at q start (x ∷ d ∷ ds) ps) bs s cs) m (k later start q a b)))
integer_parts Q (c ∷ e ∷ minus) (d ∷ ds) m w at ps bs s cs k = absurd m

integer_reach : (Q : Type 0) → (t : List ℕ) → IsInteger t → (at : ℕ) (ps : List Parent) (bs : List ℕ) (s : State) (cs : List ℕ) → GoesWhole Q t ps bs s cs
    → Reaches Q at (at_stage at_value ps) (t ++ bs) s cs
integer_reach Q t h at ps bs s cs k =
    along Q at (at_stage at_value ps) s (t ++ bs) ((h.0 ++ h.1) ++ bs) cs (ap (λ (x : List ℕ). x ++ bs) h.2)
    (integer_parts Q h.0 h.1 h.3 h.4 at ps bs s cs (λ later start q a b. subst (λ (x : List ℕ). Reaches Q later (digits_at q start x ps) bs s cs) h.2 (k later start q a b)))

plain_reach : (Q : Type 0) → (t : List ℕ) → IsPlain t → (at : ℕ) (ps : List Parent) (bs : List ℕ) (s : State) (cs : List ℕ) → Continues Q t ps bs s cs
    → Reaches Q at (at_stage at_value ps) (t ++ bs) s cs
plain_reach Q t (inl h) at ps bs s cs k = integer_reach Q t h at ps bs s cs (λ later start q a b. k later start q a)
plain_reach Q t (inr (prefix, [], e, int, ds)) at ps bs s cs k = absurd ds
plain_reach Q t (inr (prefix, (d ∷ digits), e, int, ds)) at ps bs s cs k =
    along Q at (at_stage at_value ps) s (t ++ bs) (prefix ++ (46 ∷ d ∷ (digits ++ bs))) cs
    (ap (λ (x : List ℕ). x ++ bs) e ∙ append_assoc prefix (46 ∷ d ∷ digits) bs)
    (integer_reach Q prefix int at ps (46 ∷ d ∷ (digits ++ bs)) s cs (λ later start q a b.
    join Q later (digits_at q start prefix ps) (digits_at part.Point start (prefix ++ 46 ∷ []) ps) s (46 ∷ d ∷ (digits ++ bs)) (d ∷ (digits ++ bs)) cs
    (inside Q later q part.Point start prefix ps 46 (d ∷ (digits ++ bs)) b)
    (λ at₂. join Q at₂ (digits_at part.Point start (prefix ++ 46 ∷ []) ps) (digits_at part.Fraction start ((prefix ++ 46 ∷ []) ++ d ∷ []) ps) s (d ∷ (digits ++ bs)) (digits ++ bs) cs
    (inside Q at₂ part.Point part.Fraction start (prefix ++ 46 ∷ []) ps d (digits ++ bs) (then_is (is_digit d) _ _ ds.0))
    (λ at₃. join Q at₃ (digits_at part.Fraction start ((prefix ++ 46 ∷ []) ++ d ∷ []) ps) (digits_at part.Fraction start (((prefix ++ 46 ∷ []) ++ d ∷ []) ++ digits) ps) s (digits ++ bs) bs cs
    (digits_reach Q part.Fraction fraction_digit digits ds.1 at₃ start ((prefix ++ 46 ∷ []) ++ d ∷ []) ps bs)
    (λ at₄. subst (λ (x : List ℕ). Reaches Q at₄ (digits_at part.Fraction start x ps) bs s cs)
    (e ∙ sym (append_assoc (prefix ++ 46 ∷ []) (d ∷ []) digits ∙ append_assoc prefix (46 ∷ []) (d ∷ digits)))
    (k at₄ start part.Fraction fraction_stops))))))

sign_digit : (d : ℕ) → is_digit d ≡ true → is_sign d ≡ false
sign_digit d h = grind (arith, nat_tests)

mark_reach : (Q : Type 0) → (sign digits : List ℕ) → IsPlusMinus sign → IsDigits digits → Q → (at start : ℕ) (t : List ℕ) (ps : List Parent) (bs : List ℕ) (s : State) (cs : List ℕ)
    → Reaches Q at (digits_at part.Mark start t ps) ((sign ++ digits) ++ bs) s cs
mark_reach Q sign [] m w reported at start t ps bs s cs = absurd w
mark_reach Q [] (d ∷ ds) m w reported at start t ps bs s cs =
    exponent Q at part.Mark start t ps d (ds ++ bs) cs s (else_is (is_sign d) _ _ (sign_digit d w.0) ∙ then_is (is_digit d) _ _ w.0) reported
mark_reach Q (c ∷ []) (d ∷ ds) m w reported at start t ps bs s cs =
    join Q at (digits_at part.Mark start t ps) (digits_at part.Sign start (t ++ c ∷ []) ps) s (c ∷ d ∷ (ds ++ bs)) (d ∷ (ds ++ bs)) cs
    (inside Q at part.Mark part.Sign start t ps c (d ∷ (ds ++ bs)) (then_is (is_sign c) _ _ m))
    (λ later. exponent Q later part.Sign start (t ++ c ∷ []) ps d (ds ++ bs) cs s (then_is (is_digit d) _ _ w.0) reported)
mark_reach Q (c ∷ e ∷ sign) (d ∷ ds) m w reported at start t ps bs s cs = absurd m

number_stops : (Q : Type 0) → (t : List ℕ) (ps : List Parent) (bs : List ℕ) → IsInside ps → IsAfter bs → Continues Q t ps bs (put (number t) ps) bs
number_stops Q t ps [] i h later start q stops = absurd h
number_stops Q t ps (b ∷ bs) i h later start q stops = afterwards Q later q start t ps b bs i (stops.0 b h)

pub number_reach : (Q : Type 0) → (t : List ℕ) → IsNumber t → (HasExponent t → Q) → (at : ℕ) (ps : List Parent) (bs : List ℕ) → IsInside ps → IsAfter bs
    → Reaches Q at (at_stage at_value ps) (t ++ bs) (put (number t) ps) bs
number_reach Q t (inl h) reported at ps bs i b = plain_reach Q t h at ps bs (put (number t) ps) bs (number_stops Q t ps bs i b)
number_reach Q t (inr h) reported at ps bs i b =
    along Q at (at_stage at_value ps) (put (number t) ps) (t ++ bs) (h.0 ++ (h.1 ∷ ((h.2 ++ h.3) ++ bs))) bs
    (ap (λ (x : List ℕ). x ++ bs) h.4 ∙ append_assoc h.0 (h.1 ∷ (h.2 ++ h.3)) bs)
    (plain_reach Q h.0 h.5 at ps (h.1 ∷ ((h.2 ++ h.3) ++ bs)) (put (number t) ps) bs (λ later start q stops.
    join Q later (digits_at q start h.0 ps) (digits_at part.Mark start (h.0 ++ h.1 ∷ []) ps) (put (number t) ps) (h.1 ∷ ((h.2 ++ h.3) ++ bs)) ((h.2 ++ h.3) ++ bs) bs
    (inside Q later q part.Mark start h.0 ps h.1 ((h.2 ++ h.3) ++ bs) (stops.1 h.1 h.6))
    (λ end. mark_reach Q h.2 h.3 h.7 h.8 (reported h) end start (h.0 ++ h.1 ∷ []) ps bs (put (number t) ps) bs)))
