-- What is read is a value of which the bytes are a text, and up to a fault the bytes are the prefix of one.
use Rattle.std.proofs.Common.{◌≡◌, ℕ, suc, ◌+◌, ◌<◌, ◌≤◌, List, [], ◌∷◌, ◌++◌, refl, ap, sym, subst, ◌∙◌, append_assoc, length-append, Ok, Err, Result, length, take, arith, add-one, inl, inr}
use Rattle.std.specs.Prelude.{◌⊎◌, nat_lt}
use Rattle.grpc_base.specs.declared.event.JsonFault.{JsonFault}
use Rattle.grpc_base.specs.declared.event.JsonFault.TheVariants as fault
use Rattle.json_text.specs.Tree.{Tree}
use Rattle.json_text.specs.Reading.{Stage, at_end, State, most_bytes, ◌>>=◌, step, run, at_start, ended, reading}
use Rattle.json_text.specs.Grammar.{IsText, CanEnd}
use Rattle.json_text.specs.Faults.{RepeatsName, OpensTooDeep, ExponentAt, After}
use Rattle.std.proofs.lemmas.List.{take_all}
use Rattle.std.proofs.lemmas.Bool.Decides.{nat_tests}
use Rattle.json_text.proofs.Tools.{by_if, append_nil}
use Rattle.json_text.proofs.Places.{Holds, Kept, step_kept, ended_is}
use Rattle.json_text.proofs.Ends.{holds_ends}
use Rattle.json_text.proofs.Reach.{IsOther, at_stage}
use Rattle.json_text.proofs.ReachTexts.{text_reach}

abbrev pub PrefixOf : ℕ → List ℕ → List ℕ → ℕ → Type 0
PrefixOf at p bs k = (n : ℕ) × (k ≡ at + n) × (n < length bs) × CanEnd (p ++ take n bs)

-- a fault that the byte after n of these reports
abbrev pub ReportedBy : (List ℕ → Type 0) → List ℕ → List ℕ → Type 0
ReportedBy P p bs = (n : ℕ) × (n < length bs) × P (p ++ take (suc n) bs)

-- what holds once all of these bytes are read
abbrev pub RunKept : ℕ → List ℕ → List ℕ → Result State JsonFault → Type 0
RunKept at p bs (Ok s) = Holds s.stage s.parents (p ++ bs)
RunKept at p bs (Err (fault.Syntax k)) = PrefixOf at p bs k
RunKept at p bs (Err (fault.RepeatedKey k)) = ReportedBy (λ q. RepeatsName k q) p bs
RunKept at p bs (Err (fault.TooDeep k)) = ReportedBy (λ q. OpensTooDeep k q) p bs
RunKept at p bs (Err (fault.Number k)) = ReportedBy (λ q. ExponentAt k q) p bs
RunKept at p bs (Err fault.TooLong) = ⊥
RunKept at p bs (Err fault.NoMemory) = ⊥

reported_further : (P : List ℕ → Type 0) (p bs : List ℕ) (b : ℕ) → ReportedBy P (p ++ b ∷ []) bs → ReportedBy P p (b ∷ bs)
reported_further P p bs b h = (suc h.0, omega (arith, h.1), subst P (append_assoc p (b ∷ []) (take (suc h.0) bs)) h.2)

-- one byte further on
further : (at : ℕ) (p bs : List ℕ) (b : ℕ) (r : Result State JsonFault) → RunKept (at + 1) (p ++ b ∷ []) bs r → RunKept at p (b ∷ bs) r
further at p bs b (Ok s) h = subst (λ (x : List ℕ). Holds s.stage s.parents x) (append_assoc p (b ∷ []) bs) h
further at p bs b (Err (fault.Syntax k)) h =
    (suc h.0, omega arith, omega arith, subst CanEnd (append_assoc p (b ∷ []) (take h.0 bs)) h.3)
further at p bs b (Err (fault.RepeatedKey k)) h = reported_further (λ q. RepeatsName k q) p bs b h
further at p bs b (Err (fault.TooDeep k)) h = reported_further (λ q. OpensTooDeep k q) p bs b h
further at p bs b (Err (fault.Number k)) h = reported_further (λ q. ExponentAt k q) p bs b h
further at p bs b (Err fault.TooLong) h = absurd h
further at p bs b (Err fault.NoMemory) h = absurd h

then_kept : (at : ℕ) (p bs : List ℕ) (b : ℕ) (r : Result State JsonFault) → CanEnd p → Kept at (p ++ b ∷ []) r
    → ((t : State) → Holds t.stage t.parents (p ++ b ∷ []) → RunKept (at + 1) (p ++ b ∷ []) bs (run (at + 1) t bs))
    → RunKept at p (b ∷ bs) (r >>= λ t. run (at + 1) t bs)
then_kept at p bs b (Ok t) c h f = further at p bs b (run (at + 1) t bs) (f t h)
then_kept at p bs b (Err (fault.Syntax k)) c h f = (0, omega arith, omega arith, subst CanEnd (append_nil p) c)
then_kept at p bs b (Err (fault.RepeatedKey k)) c h f = (0, omega arith, h)
then_kept at p bs b (Err (fault.TooDeep k)) c h f = (0, omega arith, h)
then_kept at p bs b (Err (fault.Number k)) c h f = (0, omega arith, h)
then_kept at p bs b (Err fault.TooLong) c h f = absurd h
then_kept at p bs b (Err fault.NoMemory) c h f = absurd h

pub next_place : (at : ℕ) (p : List ℕ) (b : ℕ) → at ≡ length p → at + 1 ≡ length (p ++ b ∷ [])
next_place at p b here = omega (arith, here, length-append p (b ∷ []))

pub run_kept : (at : ℕ) (s : State) (p bs : List ℕ) → at ≡ length p → Holds s.stage s.parents p → RunKept at p bs (run at s bs)
run_kept at s p [] here h = subst (λ (x : List ℕ). Holds s.stage s.parents x) (append_nil p) h
run_kept at s p (b ∷ bs) here h =
    then_kept at p bs b (step at s b) (holds_ends s.stage s.parents p h) (step_kept at s.stage s.parents p b here h)
    (λ t k. run_kept (at + 1) t (p ++ b ∷ []) bs (next_place at p b here) k)

end_is : (bytes : List ℕ) (v : Tree) (r : Result State JsonFault) → RunKept 0 [] bytes r → (r >>= λ s. ended (length bytes) s.stage) ≡ Ok v → IsText v bytes
end_is bytes v (Ok s) k e = ended_is (length bytes) s.stage s.parents bytes v k e
end_is bytes v (Err f) k e = let g : ⊥ = cc in absurd g

-- What is read is a value of which the bytes are a text.
pub read_is_text : (bytes : List ℕ) (v : Tree) → reading bytes ≡ Ok v → IsText v bytes
unfolding reading
read_is_text bytes v =
    by_if (λ (r : Result Tree JsonFault). r ≡ Ok v → IsText v bytes) (nat_lt most_bytes (length bytes)) _ _
    (λ y e. let g : ⊥ = cc in absurd g)
    (λ n e. end_is bytes v (run 0 at_start bytes) (run_kept 0 at_start [] bytes refl tt) e)

-- A fault of syntax is reported after the prefix of a JSON text.
cut_off : (n k : ℕ) (stage : Stage) → ended n stage ≡ Err (fault.Syntax k) → k ≡ n
cut_off n k (at_end w) e = let g : ⊥ = cc in absurd g
cut_off n k stage e = cc

run_relay_links : (bytes : List ℕ) (k : ℕ) (r : Result State JsonFault) → RunKept 0 [] bytes r → (r >>= λ s. ended (length bytes) s.stage) ≡ Err (fault.Syntax k)
    → (k ≤ length bytes) × CanEnd (take k bytes)
run_relay_links bytes k (Ok s) h e =
    let whole : k ≡ length bytes = cut_off (length bytes) k s.stage e in
    let all : bytes ≡ take k bytes = sym (take_all k bytes (omega arith)) in
    (omega arith, subst CanEnd all (holds_ends s.stage s.parents bytes h))
run_relay_links bytes k (Err (fault.Syntax j)) h e =
    let same : h.0 ≡ k = (let f : j ≡ k = cc in omega (arith, h.1)) in
    (omega (arith, h.2), subst (λ (n : ℕ). CanEnd (take n bytes)) same h.3)
run_relay_links bytes k (Err (fault.RepeatedKey j)) h e = let g : ⊥ = cc in absurd g
run_relay_links bytes k (Err (fault.TooDeep j)) h e = let g : ⊥ = cc in absurd g
run_relay_links bytes k (Err (fault.Number j)) h e = let g : ⊥ = cc in absurd g
run_relay_links bytes k (Err fault.TooLong) h e = let g : ⊥ = cc in absurd g
run_relay_links bytes k (Err fault.NoMemory) h e = let g : ⊥ = cc in absurd g

pub syntax_prefix : (bytes : List ℕ) (k : ℕ) → reading bytes ≡ Err (fault.Syntax k) → (k ≤ length bytes) × CanEnd (take k bytes)
unfolding reading
syntax_prefix bytes k =
    by_if (λ (r : Result Tree JsonFault). r ≡ Err (fault.Syntax k) → (k ≤ length bytes) × CanEnd (take k bytes)) (nat_lt most_bytes (length bytes)) _ _
    (λ y e. let g : ⊥ = cc in absurd g)
    (λ n e. run_relay_links bytes k (run 0 at_start bytes) (run_kept 0 at_start [] bytes refl tt) e)

-- A text is reported as too long exactly where it is.
run_short : (bytes : List ℕ) (r : Result State JsonFault) → RunKept 0 [] bytes r → (r >>= λ s. ended (length bytes) s.stage) ≡ Err fault.TooLong → ⊥
run_short bytes (Ok s) h e = stage_short (length bytes) s.stage e
  where
    stage_short : (n : ℕ) (stage : Stage) → ended n stage ≡ Err fault.TooLong → ⊥
    stage_short n (at_end w) e = cc
    stage_short n stage e = cc
run_short bytes (Err (fault.Syntax j)) h e = cc
run_short bytes (Err (fault.RepeatedKey j)) h e = cc
run_short bytes (Err (fault.TooDeep j)) h e = cc
run_short bytes (Err (fault.Number j)) h e = cc
run_short bytes (Err fault.TooLong) h e = h
run_short bytes (Err fault.NoMemory) h e = h

pub too_long_is : (bytes : List ℕ) → most_bytes < length bytes → reading bytes ≡ Err fault.TooLong
unfolding reading
too_long_is bytes h =
    by_if (λ (r : Result Tree JsonFault). r ≡ Err fault.TooLong) (nat_lt most_bytes (length bytes)) _ _
    (λ y. refl) (λ n. absurd (grind (arith, nat_tests)))

pub too_long_only : (bytes : List ℕ) → reading bytes ≡ Err fault.TooLong → most_bytes < length bytes
unfolding reading
too_long_only bytes =
    by_if (λ (r : Result Tree JsonFault). r ≡ Err fault.TooLong → most_bytes < length bytes) (nat_lt most_bytes (length bytes)) _ _
    (λ y e. grind (arith, nat_tests))
    (λ n e. absurd (run_short bytes (run 0 at_start bytes) (run_kept 0 at_start [] bytes refl tt) e))

-- A fault of syntax stays, whatever follows the byte at which it is reported.
abbrev DeadAt : ℕ → State → List ℕ → ℕ → Type 0
DeadAt at s bs k = (n : ℕ) × (k ≡ at + n) × ((more : List ℕ) → run at s (take (suc n) bs ++ more) ≡ Err (fault.Syntax k))

dead_here : (at : ℕ) (s : State) (p bs : List ℕ) (b k : ℕ) (r : Result State JsonFault) → step at s b ≡ r → Kept at (p ++ b ∷ []) r
    → ((t : State) → step at s b ≡ Ok t → Holds t.stage t.parents (p ++ b ∷ []) → run (at + 1) t bs ≡ Err (fault.Syntax k) → DeadAt (at + 1) t bs k)
    → (r >>= λ t. run (at + 1) t bs) ≡ Err (fault.Syntax k) → DeadAt at s (b ∷ bs) k
dead_here at s p bs b k (Ok t) is h f e =
    let d = f t is h e in
    (suc d.0, omega (arith, d.1), λ more. ap (λ (r : Result State JsonFault). r >>= λ u. run (at + 1) u (take (suc d.0) bs ++ more)) is ∙ d.2 more)
dead_here at s p bs b k (Err (fault.Syntax j)) is h f e =
    let same : j ≡ k = cc in
    (0, omega arith, λ more. ap (λ (r : Result State JsonFault). r >>= λ u. run (at + 1) u more) is ∙ ap (λ (x : ℕ). let r : Result State JsonFault = Err (fault.Syntax x) in r) same)
dead_here at s p bs b k (Err (fault.RepeatedKey j)) is h f e = let g : ⊥ = cc in absurd g
dead_here at s p bs b k (Err (fault.TooDeep j)) is h f e = let g : ⊥ = cc in absurd g
dead_here at s p bs b k (Err (fault.Number j)) is h f e = let g : ⊥ = cc in absurd g
dead_here at s p bs b k (Err fault.TooLong) is h f e = absurd h
dead_here at s p bs b k (Err fault.NoMemory) is h f e = absurd h

dead_at : (at : ℕ) (s : State) (p bs : List ℕ) (k : ℕ) → at ≡ length p → Holds s.stage s.parents p → run at s bs ≡ Err (fault.Syntax k) → DeadAt at s bs k
dead_at at s p [] k here h e = let g : ⊥ = cc in absurd g
dead_at at s p (b ∷ bs) k here h e =
    dead_here at s p bs b k (step at s b) refl (step_kept at s.stage s.parents p b here h)
    (λ t is kept f. dead_at (at + 1) t (p ++ b ∷ []) bs k (next_place at p b here) kept f) e

-- a text is not stopped by a fault of syntax
not_syntax : (v : Tree) (t : List ℕ) (k : ℕ) → IsText v t → run 0 at_start t ≡ Err (fault.Syntax k) → ⊥
not_syntax v t k h e =
    elim (text_reach (Unit {0}) v t h (λ _. tt)) [ inl o ↦ (let g : ⊥ = cc in g) | inr o ↦ subst (λ (r : Result State JsonFault). IsOther (Unit {0}) r) e o ]

run_first : (bytes : List ℕ) (k : ℕ) (r : Result State JsonFault) → run 0 at_start bytes ≡ r → (r >>= λ s. ended (length bytes) s.stage) ≡ Err (fault.Syntax k)
    → k < length bytes → CanEnd (take (suc k) bytes) → ⊥
run_first bytes k (Ok s) is e lt can = (let whole : k ≡ length bytes = cut_off (length bytes) k s.stage e in omega arith)
run_first bytes k (Err (fault.Syntax j)) is e lt can =
    let same : j ≡ k = cc in
    let d = dead_at 0 at_start [] bytes j refl tt is in
    let place : d.0 ≡ k = omega (arith, d.1) in
    let dead : run 0 at_start (take (suc k) bytes ++ can.0) ≡ Err (fault.Syntax j) = subst (λ (n : ℕ). run 0 at_start (take (suc n) bytes ++ can.0) ≡ Err (fault.Syntax j)) place (d.2 can.0) in
    not_syntax can.1 (take (suc k) bytes ++ can.0) j can.2 dead
run_first bytes k (Err (fault.RepeatedKey j)) is e lt can = cc
run_first bytes k (Err (fault.TooDeep j)) is e lt can = cc
run_first bytes k (Err (fault.Number j)) is e lt can = cc
run_first bytes k (Err fault.TooLong) is e lt can = cc
run_first bytes k (Err fault.NoMemory) is e lt can = cc

pub syntax_first : (bytes : List ℕ) (k : ℕ) → reading bytes ≡ Err (fault.Syntax k) → k < length bytes → CanEnd (take (k + 1) bytes) → ⊥
unfolding reading
syntax_first bytes k =
    by_if (λ (r : Result Tree JsonFault). r ≡ Err (fault.Syntax k) → k < length bytes → CanEnd (take (k + 1) bytes) → ⊥) (nat_lt most_bytes (length bytes)) _ _
    (λ y e lt can. cc)
    (λ n e lt can. run_first bytes k (run 0 at_start bytes) refl e lt (subst (λ (m : ℕ). CanEnd (take m bytes)) (add-one k) can))

-- A text is read as its one value, unless another fault than one of syntax is reported.
text_ends : (v w : Tree) (n : ℕ) (r : Result State JsonFault) → (r ≡ Ok (at_stage (at_end v) [])) ⊎ IsOther (Unit {0}) r → (r >>= λ s. ended n s.stage) ≡ Ok w → w ≡ v
text_ends v w n r (inl h) e = let f : (r >>= λ s. ended n s.stage) ≡ Ok v = ap (λ (x : Result State JsonFault). x >>= λ s. ended n s.stage) h in cc
text_ends v w n (Ok s) (inr o) e = absurd o
text_ends v w n (Err f) (inr o) e = let g : ⊥ = cc in absurd g

pub one_value : (bytes : List ℕ) (v w : Tree) → IsText v bytes → reading bytes ≡ Ok w → w ≡ v
unfolding reading
one_value bytes v w h =
    by_if (λ (r : Result Tree JsonFault). r ≡ Ok w → w ≡ v) (nat_lt most_bytes (length bytes)) _ _
    (λ y e. cc) (λ n e. text_ends v w (length bytes) (run 0 at_start bytes) (text_reach (Unit {0}) v bytes h (λ _. tt)) e)

text_wrong : (v : Tree) (n k : ℕ) (r : Result State JsonFault) → (r ≡ Ok (at_stage (at_end v) [])) ⊎ IsOther (Unit {0}) r → (r >>= λ s. ended n s.stage) ≡ Err (fault.Syntax k) → ⊥
text_wrong v n k r (inl h) e = let f : (r >>= λ s. ended n s.stage) ≡ Ok v = ap (λ (x : Result State JsonFault). x >>= λ s. ended n s.stage) h in cc
text_wrong v n k (Ok s) (inr o) e = o
text_wrong v n k (Err (fault.Syntax j)) (inr o) e = o
text_wrong v n k (Err (fault.RepeatedKey j)) (inr o) e = cc
text_wrong v n k (Err (fault.TooDeep j)) (inr o) e = cc
text_wrong v n k (Err (fault.Number j)) (inr o) e = cc
text_wrong v n k (Err fault.TooLong) (inr o) e = cc
text_wrong v n k (Err fault.NoMemory) (inr o) e = cc

pub text_is_right : (bytes : List ℕ) (v : Tree) (k : ℕ) → IsText v bytes → reading bytes ≡ Err (fault.Syntax k) → ⊥
unfolding reading
text_is_right bytes v k h =
    by_if (λ (r : Result Tree JsonFault). r ≡ Err (fault.Syntax k) → ⊥) (nat_lt most_bytes (length bytes)) _ _
    (λ y e. cc) (λ n e. text_wrong v (length bytes) k (run 0 at_start bytes) (text_reach (Unit {0}) v bytes h (λ _. tt)) e)

-- Each other fault stands where the grammar has it.
after_reported : (P : List ℕ → Type 0) (bytes : List ℕ) → ReportedBy P [] bytes → After P bytes
after_reported P bytes h = (suc h.0, omega (arith, h.1), h.2)

cut_off_only : (n : ℕ) (stage : Stage) (f : JsonFault) → ended n stage ≡ Err f → f ≡ fault.Syntax n
cut_off_only n (at_end w) f e = let g : ⊥ = cc in absurd g
cut_off_only n stage f e = cc

run_reports : (bytes : List ℕ) (f : JsonFault) (r : Result State JsonFault) → RunKept 0 [] bytes r → (r >>= λ s. ended (length bytes) s.stage) ≡ Err f
    → (f ≡ fault.Syntax (length bytes)) ⊎ RunKept 0 [] bytes (Err f)
run_reports bytes f (Ok s) h e = inl (cut_off_only (length bytes) s.stage f e)
run_reports bytes f (Err g) h e = let same : g ≡ f = cc in inr (subst (λ (x : JsonFault). RunKept 0 [] bytes (Err x)) same h)

reported : (bytes : List ℕ) (f : JsonFault) → reading bytes ≡ Err f → (f ≡ fault.TooLong) ⊎ ((f ≡ fault.Syntax (length bytes)) ⊎ RunKept 0 [] bytes (Err f))
unfolding reading
reported bytes f =
    by_if (λ (r : Result Tree JsonFault). r ≡ Err f → (f ≡ fault.TooLong) ⊎ ((f ≡ fault.Syntax (length bytes)) ⊎ RunKept 0 [] bytes (Err f))) (nat_lt most_bytes (length bytes)) _ _
    (λ y e. inl cc)
    (λ n e. inr (run_reports bytes f (run 0 at_start bytes) (run_kept 0 at_start [] bytes refl tt) e))

pub repeated_key_is : (bytes : List ℕ) (k : ℕ) → reading bytes ≡ Err (fault.RepeatedKey k) → After (λ q. RepeatsName k q) bytes
repeated_key_is bytes k e =
    elim (reported bytes (fault.RepeatedKey k) e) [ inl x ↦ (let g : ⊥ = cc in absurd g) | inr y ↦ elim y [ inl x ↦ (let g : ⊥ = cc in absurd g) | inr h ↦ after_reported (λ q. RepeatsName k q) bytes h ] ]

pub too_deep_is : (bytes : List ℕ) (k : ℕ) → reading bytes ≡ Err (fault.TooDeep k) → After (λ q. OpensTooDeep k q) bytes
too_deep_is bytes k e =
    elim (reported bytes (fault.TooDeep k) e) [ inl x ↦ (let g : ⊥ = cc in absurd g) | inr y ↦ elim y [ inl x ↦ (let g : ⊥ = cc in absurd g) | inr h ↦ after_reported (λ q. OpensTooDeep k q) bytes h ] ]

pub number_is : (bytes : List ℕ) (k : ℕ) → reading bytes ≡ Err (fault.Number k) → After (λ q. ExponentAt k q) bytes
number_is bytes k e =
    elim (reported bytes (fault.Number k) e) [ inl x ↦ (let g : ⊥ = cc in absurd g) | inr y ↦ elim y [ inl x ↦ (let g : ⊥ = cc in absurd g) | inr h ↦ after_reported (λ q. ExponentAt k q) bytes h ] ]
