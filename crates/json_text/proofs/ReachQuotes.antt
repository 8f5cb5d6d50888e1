-- A string is read to its closing quote.
use Rattle.std.proofs.Common.{◌≡◌, ℕ, ◌+◌, ◌*◌, ◌%◌, List, [], ◌∷◌, ◌++◌, true, false, Option, Some, None, refl, ap, sym, subst, ◌∙◌, inl, inr, append_assoc, Ok, arith}
use Rattle.std.specs.Prelude.{◌==◌, ◌||◌, nat_lt, option_map, option_and_then}
use Rattle.std.proofs.lemmas.Bool.Decides.{nat_tests}
use Rattle.json_text.specs.Strings.{is_between, hex_digit, hex_byte, string_byte, first_byte, lead_byte, escaped_byte, settled, with_byte, with_unit, nothing_read, quoted_next, next_by}
use Rattle.json_text.specs.Reading.{Parent, Stage, State, step_at}
use Rattle.json_text.specs.Grammar.{Char, standing, escape, unicode, escape_value, IsTail, IsStanding, hex_value, spelling, Reads, Chars, no_chars, char_after}
use Rattle.json_text.specs.declared.string.Spot.{Spot}
use Rattle.json_text.specs.declared.string.Spot.TheVariants as spot
use Rattle.json_text.specs.declared.string.StringByte.{StringByte}
use Rattle.json_text.specs.declared.string.StringByte.TheVariants as byte
use Rattle.json_text.specs.declared.string.Read.{Read}
use Rattle.json_text.specs.declared.string.Quoted.{Quoted}
use Rattle.json_text.specs.declared.string.QuotedNext.TheVariants as next
use Rattle.json_text.proofs.Quotes.{by_both, four}
use Rattle.json_text.proofs.Reach.{at_stage, Reaches, here, join, along, one, then_is, else_is}

-- a place that goes on with the string
abbrev pub GoesOn : (Quoted → Stage) → List Parent → Type 0
GoesOn W ps = (at b : ℕ) (q r : Quoted) → quoted_next q b ≡ next.Continues r → step_at at (W q) ps b ≡ Ok (at_stage (W r) ps)

abbrev pub quoted : Spot → Read → Quoted
quoted s r = record { spot = s; read = r }

module _ (Q : Type 0) (W : Quoted → Stage) (ps : List Parent) (goes : GoesOn W ps) where
  abbrev at_quoted : Spot → Read → State
  at_quoted s r = at_stage (W (quoted s r)) ps

  by_byte : (at : ℕ) (s u : Spot) (r v : Read) (b : ℕ) (bs : List ℕ) → next_by r b (string_byte s b) ≡ next.Continues (quoted u v)
      → Reaches Q at (at_quoted s r) (b ∷ bs) (at_quoted u v) bs
  by_byte at s u r v b bs e = one Q at (at_quoted s r) (at_quoted u v) b bs (goes at b (quoted s r) (quoted u v) e)

  plain : (at : ℕ) (s u : Spot) (r : Read) (b : ℕ) (bs : List ℕ) → string_byte s b ≡ byte.Plain u
      → Reaches Q at (at_quoted s r) (b ∷ bs) (at_quoted u (with_byte r b)) bs
  plain at s u r b bs e = by_byte at s u r (with_byte r b) b bs (ap (λ (x : StringByte). next_by r b x) e)

  silent : (at : ℕ) (s u : Spot) (r : Read) (b : ℕ) (bs : List ℕ) → string_byte s b ≡ byte.Inside u
      → Reaches Q at (at_quoted s r) (b ∷ bs) (at_quoted u r) bs
  silent at s u r b bs e = by_byte at s u r r b bs (ap (λ (x : StringByte). next_by r b x) e)

  unit_read : (at : ℕ) (s : Spot) (r : Read) (b unit : ℕ) (bs : List ℕ) → string_byte s b ≡ byte.Escaped unit
      → Reaches Q at (at_quoted s r) (b ∷ bs) (at_quoted spot.Between (with_unit r unit)) bs
  unit_read at s r b unit bs e = by_byte at s spot.Between r (with_unit r unit) b bs (ap (λ (x : StringByte). next_by r b x) e)

  read_as : (at : ℕ) (s : State) (bs cs : List ℕ) (r v : Read) → r ≡ v → Reaches Q at s bs (at_quoted spot.Between r) cs → Reaches Q at s bs (at_quoted spot.Between v) cs
  read_as at s bs cs r v e h = subst (λ (x : Read). Reaches Q at s bs (at_quoted spot.Between x) cs) e h

  -- the last byte of a character, and the two before it
  last_tail : (at low high : ℕ) (r : Read) (b : ℕ) (bs : List ℕ) → is_between low high b ≡ true
      → Reaches Q at (at_quoted (spot.Tail low high 0) r) (b ∷ bs) (at_quoted spot.Between (with_byte r b)) bs
  last_tail at low high r b bs h = plain at (spot.Tail low high 0) spot.Between r b bs (then_is (is_between low high b) _ _ h)

  two_tails : (at low high : ℕ) (r : Read) (b c : ℕ) (bs : List ℕ) → is_between low high b ≡ true → IsTail c
      → Reaches Q at (at_quoted (spot.Tail low high 1) r) (b ∷ c ∷ bs) (at_quoted spot.Between (with_byte (with_byte r b) c)) bs
  two_tails at low high r b c bs h k =
      join Q at (at_quoted (spot.Tail low high 1) r) (at_quoted (spot.Tail 128 191 0) (with_byte r b)) (at_quoted spot.Between (with_byte (with_byte r b) c)) (b ∷ c ∷ bs) (c ∷ bs) bs
      (plain at (spot.Tail low high 1) (spot.Tail 128 191 0) r b (c ∷ bs) (then_is (is_between low high b) _ _ h))
      (λ later. last_tail later 128 191 (with_byte r b) c bs k)

  three_tails : (at low high : ℕ) (r : Read) (b c d : ℕ) (bs : List ℕ) → is_between low high b ≡ true → IsTail c → IsTail d
      → Reaches Q at (at_quoted (spot.Tail low high 2) r) (b ∷ c ∷ d ∷ bs) (at_quoted spot.Between (with_byte (with_byte (with_byte r b) c) d)) bs
  three_tails at low high r b c d bs h k l =
      join Q at (at_quoted (spot.Tail low high 2) r) (at_quoted (spot.Tail 128 191 1) (with_byte r b)) (at_quoted spot.Between (with_byte (with_byte (with_byte r b) c) d)) (b ∷ c ∷ d ∷ bs) (c ∷ d ∷ bs) bs
      (plain at (spot.Tail low high 2) (spot.Tail 128 191 1) r b (c ∷ d ∷ bs) (then_is (is_between low high b) _ _ h))
      (λ later. two_tails later 128 191 (with_byte r b) c d bs k l)

  lead_two : (at low high : ℕ) (r : Read) (a b c : ℕ) (bs : List ℕ) → first_byte a ≡ byte.Plain (spot.Tail low high 1) → is_between low high b ≡ true → IsTail c
      → Reaches Q at (at_quoted spot.Between r) (a ∷ b ∷ c ∷ bs) (at_quoted spot.Between (with_byte (with_byte (with_byte r a) b) c)) bs
  lead_two at low high r a b c bs e h k =
      join Q at (at_quoted spot.Between r) (at_quoted (spot.Tail low high 1) (with_byte r a)) (at_quoted spot.Between (with_byte (with_byte (with_byte r a) b) c)) (a ∷ b ∷ c ∷ bs) (b ∷ c ∷ bs) bs
      (plain at spot.Between (spot.Tail low high 1) r a (b ∷ c ∷ bs) e)
      (λ later. two_tails later low high (with_byte r a) b c bs h k)

  lead_three : (at low high : ℕ) (r : Read) (a b c d : ℕ) (bs : List ℕ) → first_byte a ≡ byte.Plain (spot.Tail low high 2) → is_between low high b ≡ true → IsTail c → IsTail d
      → Reaches Q at (at_quoted spot.Between r) (a ∷ b ∷ c ∷ d ∷ bs) (at_quoted spot.Between (with_byte (with_byte (with_byte (with_byte r a) b) c) d)) bs
  lead_three at low high r a b c d bs e h k l =
      join Q at (at_quoted spot.Between r) (at_quoted (spot.Tail low high 2) (with_byte r a)) (at_quoted spot.Between (with_byte (with_byte (with_byte (with_byte r a) b) c) d)) (a ∷ b ∷ c ∷ d ∷ bs) (b ∷ c ∷ d ∷ bs) bs
      (plain at spot.Between (spot.Tail low high 2) r a (b ∷ c ∷ d ∷ bs) e)
      (λ later. three_tails later low high (with_byte r a) b c d bs h k l)

visible_first : (a : ℕ) → is_between 32 127 a ≡ true → (a == 34) ≡ false → (a == 92) ≡ false → first_byte a ≡ byte.Plain spot.Between
visible_first a h m n =
    let control : nat_lt a 32 ≡ false = grind (arith, nat_tests) in
    let single : nat_lt a 128 ≡ true = grind (arith, nat_tests) in
    else_is (a == 34) _ _ m ∙ else_is (a == 92) _ _ n ∙ else_is (nat_lt a 32) _ _ control ∙ then_is (nat_lt a 128) _ _ single

-- a byte from 128 on
lead_first : (a : ℕ) → nat_lt a 128 ≡ false → first_byte a ≡ lead_byte a
lead_first a h =
    let m : (a == 34) ≡ false = grind (arith, nat_tests) in
    let n : (a == 92) ≡ false = grind (arith, nat_tests) in
    let control : nat_lt a 32 ≡ false = grind (arith, nat_tests) in
    else_is (a == 34) _ _ m ∙ else_is (a == 92) _ _ n ∙ else_is (nat_lt a 32) _ _ control ∙ else_is (nat_lt a 128) _ _ h

lead_one : (a : ℕ) → is_between 194 223 a ≡ true → first_byte a ≡ byte.Plain (spot.Tail 128 191 0)
lead_one a h =
    let many : nat_lt a 128 ≡ false = grind (arith, nat_tests) in
    lead_first a many ∙ then_is (is_between 194 223 a) _ _ h

lead_middle : (a : ℕ) → is_between 225 239 a ≡ true → (a == 237) ≡ false → first_byte a ≡ byte.Plain (spot.Tail 128 191 1)
lead_middle a h n =
    let many : nat_lt a 128 ≡ false = grind (arith, nat_tests) in
    let p : is_between 194 223 a ≡ false = grind (arith, nat_tests) in
    let q : (a == 224) ≡ false = grind (arith, nat_tests) in
    lead_first a many ∙ else_is (is_between 194 223 a) _ _ p ∙ else_is (a == 224) _ _ q ∙ else_is (a == 237) _ _ n ∙ then_is (is_between 225 239 a) _ _ h

lead_high : (a : ℕ) → is_between 241 243 a ≡ true → first_byte a ≡ byte.Plain (spot.Tail 128 191 2)
lead_high a h =
    let many : nat_lt a 128 ≡ false = grind (arith, nat_tests) in
    let p : is_between 194 223 a ≡ false = grind (arith, nat_tests) in
    let q : (a == 224) ≡ false = grind (arith, nat_tests) in
    let r : (a == 237) ≡ false = grind (arith, nat_tests) in
    let s : is_between 225 239 a ≡ false = grind (arith, nat_tests) in
    let t : (a == 240) ≡ false = grind (arith, nat_tests) in
    lead_first a many ∙ else_is (is_between 194 223 a) _ _ p ∙ else_is (a == 224) _ _ q ∙ else_is (a == 237) _ _ r ∙ else_is (is_between 225 239 a) _ _ s
    ∙ else_is (a == 240) _ _ t ∙ then_is (is_between 241 243 a) _ _ h

lead_as : (a k low high more : ℕ) → a ≡ k → first_byte k ≡ byte.Plain (spot.Tail low high more) → first_byte a ≡ byte.Plain (spot.Tail low high more)
lead_as a k low high more e h = ap first_byte e ∙ h

escape_step : (b unit : ℕ) → escape_value b ≡ Some unit → escaped_byte b ≡ byte.Escaped unit
escape_step b unit =
    let P : StringByte → Option ℕ → Type 0 = λ s o. o ≡ Some unit → s ≡ byte.Escaped unit in
    by_both P ((b == 34) || (b == 92) || (b == 47)) _ _ _ _ (λ _ e. let f : b ≡ unit = cc in ap (λ (x : ℕ). byte.Escaped x) f) (λ _.
    by_both P (b == 98) _ _ _ _ (λ _ e. let f : 8 ≡ unit = cc in ap (λ (x : ℕ). byte.Escaped x) f) (λ _.
    by_both P (b == 102) _ _ _ _ (λ _ e. let f : 12 ≡ unit = cc in ap (λ (x : ℕ). byte.Escaped x) f) (λ _.
    by_both P (b == 110) _ _ _ _ (λ _ e. let f : 10 ≡ unit = cc in ap (λ (x : ℕ). byte.Escaped x) f) (λ _.
    by_both P (b == 114) _ _ _ _ (λ _ e. let f : 13 ≡ unit = cc in ap (λ (x : ℕ). byte.Escaped x) f) (λ _.
    by_both P (b == 116) _ _ _ _ (λ _ e. let f : 9 ≡ unit = cc in ap (λ (x : ℕ). byte.Escaped x) f) (λ _ e. cc))))))

-- four digits that have a value
four_parts : (o₁ o₂ o₃ o₄ : Option ℕ) (unit : ℕ)
    → option_and_then (λ x. option_and_then (λ y. option_and_then (λ z. option_map (λ d. z * 16 + d) o₄) (option_map (λ d. y * 16 + d) o₃)) (option_map (λ d. x * 16 + d) o₂)) (option_map (λ d. 0 * 16 + d) o₁) ≡ Some unit
    → (w x y z : ℕ) × (o₁ ≡ Some w) × (o₂ ≡ Some x) × (o₃ ≡ Some y) × (o₄ ≡ Some z)
four_parts (Some w) (Some x) (Some y) (Some z) unit e = (w, x, y, z, refl, refl, refl, refl)
four_parts (Some w) (Some x) (Some y) None unit e = let g : ⊥ = cc in absurd g
four_parts (Some w) (Some x) None o₄ unit e = let g : ⊥ = cc in absurd g
four_parts (Some w) None o₃ o₄ unit e = let g : ⊥ = cc in absurd g
four_parts None o₂ o₃ o₄ unit e = let g : ⊥ = cc in absurd g

module _ (Q : Type 0) (W : Quoted → Stage) (ps : List Parent) (goes : GoesOn W ps) where
  abbrev between : Read → State
  between r = at_stage (W (quoted spot.Between r)) ps

  bytes_two : (r : Read) (a b : ℕ) → with_byte (with_byte r a) b ≡ record { text = settled r ++ (a ∷ b ∷ []); high = None }
  bytes_two r a b = ap (λ (x : List ℕ). let v : Read = record { text = x; high = None } in v) (append_assoc (settled r) (a ∷ []) (b ∷ []))

  bytes_three : (r : Read) (a b c : ℕ) → with_byte (with_byte (with_byte r a) b) c ≡ record { text = settled r ++ (a ∷ b ∷ c ∷ []); high = None }
  bytes_three r a b c = ap (λ (x : Read). with_byte x c) (bytes_two r a b) ∙ ap (λ (x : List ℕ). let v : Read = record { text = x; high = None } in v) (append_assoc (settled r) (a ∷ b ∷ []) (c ∷ []))

  bytes_four : (r : Read) (a b c d : ℕ) → with_byte (with_byte (with_byte (with_byte r a) b) c) d ≡ record { text = settled r ++ (a ∷ b ∷ c ∷ d ∷ []); high = None }
  bytes_four r a b c d = ap (λ (x : Read). with_byte x d) (bytes_three r a b c) ∙ ap (λ (x : List ℕ). let v : Read = record { text = x; high = None } in v) (append_assoc (settled r) (a ∷ b ∷ c ∷ []) (d ∷ []))

  as_read : (at : ℕ) (r v s : Read) (bs cs : List ℕ) → v ≡ s → Reaches Q at (between r) bs (between v) cs → Reaches Q at (between r) bs (between s) cs
  as_read at r v s bs cs e h = read_as Q W ps goes at (between r) bs cs v s e h

  standing_reach : (c : List ℕ) → IsStanding c → (at : ℕ) (r : Read) (bs : List ℕ)
      → Reaches Q at (between r) (c ++ bs) (between (record { text = settled r ++ c; high = None })) bs
  standing_reach [] h at r bs = absurd h
  standing_reach (a ∷ []) h at r bs = plain Q W ps goes at spot.Between spot.Between r a bs (visible_first a h.0 h.1 h.2)
  standing_reach (a ∷ b ∷ []) h at r bs =
      as_read at r _ _ (a ∷ b ∷ bs) bs (bytes_two r a b)
      (join Q at (between r) (at_stage (W (quoted (spot.Tail 128 191 0) (with_byte r a))) ps) (between (with_byte (with_byte r a) b)) (a ∷ b ∷ bs) (b ∷ bs) bs
      (plain Q W ps goes at spot.Between (spot.Tail 128 191 0) r a (b ∷ bs) (lead_one a h.0))
      (λ later. last_tail Q W ps goes later 128 191 (with_byte r a) b bs h.1))
  standing_reach (a ∷ b ∷ c ∷ []) (inl h, k) at r bs =
      as_read at r _ _ (a ∷ b ∷ c ∷ bs) bs (bytes_three r a b c) (lead_two Q W ps goes at 160 191 r a b c bs (lead_as a 224 160 191 1 h.0 refl) h.1 k)
  standing_reach (a ∷ b ∷ c ∷ []) (inr (inl h), k) at r bs =
      as_read at r _ _ (a ∷ b ∷ c ∷ bs) bs (bytes_three r a b c) (lead_two Q W ps goes at 128 191 r a b c bs (lead_middle a h.0 h.1) h.2 k)
  standing_reach (a ∷ b ∷ c ∷ []) (inr (inr h), k) at r bs =
      as_read at r _ _ (a ∷ b ∷ c ∷ bs) bs (bytes_three r a b c) (lead_two Q W ps goes at 128 159 r a b c bs (lead_as a 237 128 159 1 h.0 refl) h.1 k)
  standing_reach (a ∷ b ∷ c ∷ d ∷ []) (inl h, k, l) at r bs =
      as_read at r _ _ (a ∷ b ∷ c ∷ d ∷ bs) bs (bytes_four r a b c d) (lead_three Q W ps goes at 144 191 r a b c d bs (lead_as a 240 144 191 2 h.0 refl) h.1 k l)
  standing_reach (a ∷ b ∷ c ∷ d ∷ []) (inr (inl h), k, l) at r bs =
      as_read at r _ _ (a ∷ b ∷ c ∷ d ∷ bs) bs (bytes_four r a b c d) (lead_three Q W ps goes at 128 191 r a b c d bs (lead_high a h.0) h.1 k l)
  standing_reach (a ∷ b ∷ c ∷ d ∷ []) (inr (inr h), k, l) at r bs =
      as_read at r _ _ (a ∷ b ∷ c ∷ d ∷ bs) bs (bytes_four r a b c d) (lead_three Q W ps goes at 128 143 r a b c d bs (lead_as a 244 128 143 2 h.0 refl) h.1 k l)
  standing_reach (a ∷ b ∷ c ∷ d ∷ e ∷ t) h at r bs = absurd h

  hex_step : (at left next value b d : ℕ) (r : Read) (bs : List ℕ) → hex_digit b ≡ Some d
      → hex_byte left value (Some d) ≡ byte.Inside (spot.Hex next ((value * 16 + d) % 65536))
      → Reaches Q at (at_stage (W (quoted (spot.Hex left value) r)) ps) (b ∷ bs) (at_stage (W (quoted (spot.Hex next ((value * 16 + d) % 65536)) r)) ps) bs
  hex_step at left next value b d r bs e f =
      silent Q W ps goes at (spot.Hex left value) (spot.Hex next ((value * 16 + d) % 65536)) r b bs (ap (hex_byte left value) e ∙ f)

  hex_reach : (at : ℕ) (a b c d w x y z : ℕ) (r : Read) (bs : List ℕ) → hex_digit a ≡ Some w → hex_digit b ≡ Some x → hex_digit c ≡ Some y → hex_digit d ≡ Some z
      → Reaches Q at (at_stage (W (quoted (spot.Hex 3 0) r)) ps) (a ∷ b ∷ c ∷ d ∷ bs)
      (between (with_unit r (((((((0 * 16 + w) % 65536) * 16 + x) % 65536) * 16 + y) % 65536 * 16 + z) % 65536))) bs
  hex_reach at a b c d w x y z r bs h₁ h₂ h₃ h₄ =
      let v₁ : ℕ = (0 * 16 + w) % 65536 in
      let v₂ : ℕ = (v₁ * 16 + x) % 65536 in
      let v₃ : ℕ = (v₂ * 16 + y) % 65536 in
      let goal_at : State = between (with_unit r ((v₃ * 16 + z) % 65536)) in
      join Q at (at_stage (W (quoted (spot.Hex 3 0) r)) ps) (at_stage (W (quoted (spot.Hex 2 v₁) r)) ps) goal_at (a ∷ b ∷ c ∷ d ∷ bs) (b ∷ c ∷ d ∷ bs) bs
      (hex_step at 3 2 0 a w r (b ∷ c ∷ d ∷ bs) h₁ refl)
      (λ at₂. join Q at₂ (at_stage (W (quoted (spot.Hex 2 v₁) r)) ps) (at_stage (W (quoted (spot.Hex 1 v₂) r)) ps) goal_at (b ∷ c ∷ d ∷ bs) (c ∷ d ∷ bs) bs
      (hex_step at₂ 2 1 v₁ b x r (c ∷ d ∷ bs) h₂ refl)
      (λ at₃. join Q at₃ (at_stage (W (quoted (spot.Hex 1 v₂) r)) ps) (at_stage (W (quoted (spot.Hex 0 v₃) r)) ps) goal_at (c ∷ d ∷ bs) (d ∷ bs) bs
      (hex_step at₃ 1 0 v₂ c y r (d ∷ bs) h₃ refl)
      (λ at₄. unit_read Q W ps goes at₄ (spot.Hex 0 v₃) r d ((v₃ * 16 + z) % 65536) bs (ap (hex_byte 0 v₃) h₄))))

  char_reach : (c : Char) (r s : Read) → Reads c r s → (at : ℕ) (bs : List ℕ) → Reaches Q at (between r) (spelling c ++ bs) (between s) bs
  char_reach (standing c) r s h at bs = as_read at r _ s (c ++ bs) bs (sym h.0) (standing_reach c h.1 at r bs)
  char_reach (escape b) r s h at bs =
      as_read at r (with_unit r h.0) s (92 ∷ b ∷ bs) bs (sym h.1)
      (join Q at (between r) (at_stage (W (quoted spot.Escape r)) ps) (between (with_unit r h.0)) (92 ∷ b ∷ bs) (b ∷ bs) bs
      (silent Q W ps goes at spot.Between spot.Escape r 92 (b ∷ bs) refl)
      (λ later. unit_read Q W ps goes later spot.Escape r b h.0 bs (escape_step b h.0 h.2)))
  char_reach (unicode a b c d) r s h at bs =
      let p = four_parts (hex_digit a) (hex_digit b) (hex_digit c) (hex_digit d) h.0 h.2 in
      let v : ℕ = ((((((0 * 16 + p.0) % 65536) * 16 + p.1) % 65536) * 16 + p.2) % 65536 * 16 + p.3) % 65536 in
      let computed : hex_value a b c d ≡ Some v = four a p.0 p.4 b p.1 p.5 c p.2 p.6 d p.3 p.7 in
      let same_unit : v ≡ h.0 = (let known = h.2 in cc) in
      as_read at r (with_unit r v) s (92 ∷ 117 ∷ a ∷ b ∷ c ∷ d ∷ bs) bs (ap (λ (x : ℕ). with_unit r x) same_unit ∙ sym h.1)
      (join Q at (between r) (at_stage (W (quoted spot.Escape r)) ps) (between (with_unit r v)) (92 ∷ 117 ∷ a ∷ b ∷ c ∷ d ∷ bs) (117 ∷ a ∷ b ∷ c ∷ d ∷ bs) bs
      (silent Q W ps goes at spot.Between spot.Escape r 92 (117 ∷ a ∷ b ∷ c ∷ d ∷ bs) refl)
      (λ at₂. join Q at₂ (at_stage (W (quoted spot.Escape r)) ps) (at_stage (W (quoted (spot.Hex 3 0) r)) ps) (between (with_unit r v)) (117 ∷ a ∷ b ∷ c ∷ d ∷ bs) (a ∷ b ∷ c ∷ d ∷ bs) bs
      (silent Q W ps goes at₂ spot.Escape (spot.Hex 3 0) r 117 (a ∷ b ∷ c ∷ d ∷ bs) refl)
      (λ at₃. hex_reach at₃ a b c d p.0 p.1 p.2 p.3 r bs p.4 p.5 p.6 p.7)))

  -- the characters after the opening quote
  pub chars_reach : (t : List ℕ) (r : Read) → Chars t r → (at : ℕ) (bs : List ℕ) → Reaches Q at (between nothing_read) (t ++ bs) (between r) bs
  chars_reach t r no_chars at bs = here Q at (between nothing_read) bs
  chars_reach t r (char_after {t = u} {r = q} h c s reads) at bs =
      along Q at (between nothing_read) (between r) (t ++ bs) (u ++ (spelling c ++ bs)) bs (append_assoc u (spelling c) bs)
      (join Q at (between nothing_read) (between q) (between s) (u ++ (spelling c ++ bs)) (spelling c ++ bs) bs
      (chars_reach u q h at (spelling c ++ bs)) (λ later. char_reach c q s reads later bs))
