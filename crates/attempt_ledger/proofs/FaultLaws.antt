-- Going through the rows of a call up to the first that breaks a law.
use Rattle.std.proofs.Common.{◌≡◌, ℕ, suc, ◌+◌, ◌-◌, ◌≤◌, ◌<◌, inl, inr, ◌∙◌, Bool, true, false, cond, not, List, [], ◌∷◌, ◌++◌, length, take, drop, get_or, refl, ap, sym, subst, arith, append_assoc, append-nil, length-append, take-suc, take-append-drop}
use Rattle.std.proofs.lemmas.List.{drop_at, get_or_at, length-take-le, take_at}
use Rattle.std.proofs.lemmas.List.Elements.{filter-append}
use Rattle.std.proofs.lemmas.Bool.{cases_lt}
use Rattle.std.specs.Bool.{OnFalse}
use Rattle.grpc_base.specs.declared.plan.CallPlan.{CallPlan}
use Rattle.grpc_base.specs.declared.plan.Chosen.{Chosen}
use Rattle.attempt_ledger.specs.declared.check.RowFault.{RowFault}
use Rattle.attempt_ledger.specs.declared.row.Row.{Row}
use Rattle.attempt_ledger.specs.Faults.{Breaks, BreaksAt, IsFault, IsLowestBroken}
use Rattle.attempt_ledger.specs.Numbering.{IsNextAttempt, KeepsNumbering, attempts_of, is_transparent}
use Rattle.attempt_ledger.proofs.RowLaws.{afterwards}

-- one row more is taken
take-more : (rows : List Row) (i : ℕ) (row : Row) → i < length rows → row ≡ get_or rows i row → take (i + 1) rows ≡ take i rows ++ row ∷ []
take-more rows i row inside is =
    let next : i + 1 ≡ suc i = omega arith in
    ap (λ (k : ℕ). take k rows) next ∙ take-suc rows i row inside ∙ ap (λ (r : Row). take i rows ++ r ∷ []) (sym is)

-- the list around a row
around : (rows : List Row) (i : ℕ) (row : Row) → i < length rows → row ≡ get_or rows i row → rows ≡ take i rows ++ row ∷ drop (i + 1) rows
around rows i row inside is =
    sym (take-append-drop (i + 1) rows) ∙ ap (λ (prefix : List Row). prefix ++ drop (i + 1) rows) (take-more rows i row inside is) ∙ append_assoc (take i rows) (row ∷ []) (drop (i + 1) rows)

-- a law that a row breaks between the others is broken at its place
broken-here : (chosen : Chosen) (law : ℕ) (rows : List Row) (i : ℕ) (row : Row) → i < length rows → row ≡ get_or rows i row → Breaks chosen rows law (take i rows) row (drop (i + 1) rows) → BreaksAt chosen law rows (i + 1)
broken-here chosen law rows i row inside is broken =
    record {
      before = take i rows;
      row = row;
      after = drop (i + 1) rows;
      together = around rows i row inside is;
      place_is = let e : length (take i rows) ≡ i = length-take-le i rows (omega arith) in omega arith;
      broken = broken;
    }

-- the rows after a row between others
rest-of : (before : List Row) (row : Row) (after : List Row) (i : ℕ) → length before ≡ i → drop (i + 1) (before ++ row ∷ after) ≡ after
rest-of before row after i at =
    ap (drop (i + 1)) (sym (append_assoc before (row ∷ []) after)) ∙ drop_at (before ++ row ∷ []) after (i + 1) (length-append before (row ∷ []) ∙ ap (λ (k : ℕ). k + 1) at)

-- and what is broken at its place, it breaks
what-is-broken : (chosen : Chosen) (law : ℕ) (rows : List Row) (i : ℕ) (row : Row) → row ≡ get_or rows i row → BreaksAt chosen law rows (i + 1) → Breaks chosen rows law (take i rows) row (drop (i + 1) rows)
what-is-broken chosen law rows i row is b =
    let at : length b.before ≡ i = let p = b.place_is in omega arith in
    let prefix : take i rows ≡ b.before = ap (take i) b.together ∙ take_at b.before (b.row ∷ b.after) i at in
    let back : drop (i + 1) rows ≡ b.after = ap (drop (i + 1)) b.together ∙ rest-of b.before b.row b.after i at in
    let same : row ≡ b.row = is ∙ ap (λ (rs : List Row). get_or rs i row) b.together ∙ get_or_at b.before b.row b.after row i at in
    subst (λ (rs : List Row). Breaks chosen rows law rs row (drop (i + 1) rows)) (sym prefix)
    (subst (λ (r : Row). Breaks chosen rows law b.before r (drop (i + 1) rows)) (sym same)
    (subst (Breaks chosen rows law b.before b.row) (sym back) b.broken))

-- places are within the list
inside-of : (chosen : Chosen) (law : ℕ) (rows : List Row) (place : ℕ) → BreaksAt chosen law rows place → place ≤ length rows
inside-of chosen law rows place b =
    let p = b.place_is in
    let all : length rows ≡ length b.before + length (b.row ∷ b.after) = ap length b.together ∙ length-append b.before (b.row ∷ b.after) in
    omega arith

-- what the checker knows of the rows that it passed
pub record ArePassed (chosen : Chosen) (rows : List Row) (count i : ℕ) : Type 0 where
  pub many : count ≡ length (attempts_of (take i rows))
  pub clear : (law place : ℕ) → BreaksAt chosen law rows place → i < place

length-snoc : (own : List Row) (row : Row) → length (own ++ row ∷ []) ≡ length own + 1
length-snoc own row = length-append own (row ∷ [])

-- how many attempts there are with one row more
attempts-more : (rows : List Row) (row : Row) (b : Bool) → is_transparent row.kind ≡ b → length (attempts_of (rows ++ row ∷ [])) ≡ cond b (length (attempts_of rows)) (length (attempts_of rows) + 1)
attempts-more rows row true e =
    ap length (filter-append (λ r. not (is_transparent r.kind)) rows (row ∷ []) ∙ ap (λ (b : Bool). attempts_of rows ++ cond (not b) (row ∷ []) []) e ∙ append-nil (attempts_of rows))
attempts-more rows row false e =
    ap length (filter-append (λ r. not (is_transparent r.kind)) rows (row ∷ []) ∙ ap (λ (b : Bool). attempts_of rows ++ cond (not b) (row ∷ []) []) e) ∙ length-snoc (attempts_of rows) row

count-with : (plan : CallPlan) (count number : ℕ) (row : Row) (b : Bool) → is_transparent row.kind ≡ b → KeepsNumbering plan count row → number ≡ cond b count row.number → number ≡ cond b count (count + 1)
count-with plan count number row true e keeps is = is
count-with plan count number row false e keeps is =
    let next : IsNextAttempt plan count row = subst (λ (b : Bool). OnFalse b (IsNextAttempt plan count row)) e keeps.attempt in
    is ∙ next.number

-- the rows after a place, as a slice gives them, keep what is said of them
pub of-slice : (rows : List Row) (k : ℕ) (P : List Row → Type 0) → P (take (length rows - k) (drop k rows)) → P (drop k rows)
of-slice rows k P said = subst P (afterwards rows k) said

-- one row more that breaks no law
pub passed-more : (chosen : Chosen) (rows : List Row) (count number i : ℕ) (row : Row) → i < length rows → row ≡ get_or rows i row → ArePassed chosen rows count i → KeepsNumbering chosen.plan count row → ((law : ℕ) → Breaks chosen rows law (take i rows) row (drop (i + 1) rows) → ⊥) → number ≡ cond (is_transparent row.kind) count row.number → ArePassed chosen rows number (i + 1)
passed-more chosen rows count number i row inside is passed numbered none next =
    let many : count ≡ length (attempts_of (take i rows)) = passed.many in
    record {
      many =
          count-with chosen.plan count number row (is_transparent row.kind) refl numbered next
          ∙ ap (λ (n : ℕ). cond (is_transparent row.kind) n (n + 1)) many
          ∙ sym (attempts-more (take i rows) row (is_transparent row.kind) refl)
          ∙ ap (λ (rs : List Row). length (attempts_of rs)) (sym (take-more rows i row inside is));
      clear = λ law place b.
          let low : i < place = passed.clear law place b in
          elim (cases_lt (i + 1) place) [
            | inl high ↦ high
            | inr high ↦
                let at : place ≡ i + 1 = omega arith in
                let b2 : BreaksAt chosen law rows (i + 1) = subst (BreaksAt chosen law rows) at b in
                absurd (none law (what-is-broken chosen law rows i row is b2))
          ];
    }

-- after all rows no law is broken
pub all-passed : (chosen : Chosen) (rows : List Row) (count i : ℕ) → length rows ≤ i → ArePassed chosen rows count i → (law : ℕ) → (place : ℕ) → BreaksAt chosen law rows place → ⊥
all-passed chosen rows count i end passed law place b =
    let low : i < place = passed.clear law place b in
    let high = inside-of chosen law rows place b in
    omega arith

pub fault-here : (chosen : Chosen) (rows : List Row) (count i law : ℕ) (row : Row) → i < length rows → row ≡ get_or rows i row → ArePassed chosen rows count i → IsLowestBroken chosen rows (take i rows) row (drop (i + 1) rows) law → IsFault chosen rows (record { row = i + 1; law = law })
fault-here chosen rows count i law row inside is passed lowest =
    record {
      broken = broken-here chosen law rows i row inside is lowest.broken;
      first = λ other place b. let low : i < place = passed.clear other place b in omega arith;
      lowest = λ other b. lowest.lowest other (what-is-broken chosen other rows i row is b);
    }

same-fault : (a b : RowFault) → a.row ≡ b.row → a.law ≡ b.law → a ≡ b
same-fault a b row law = ap (λ (r : ℕ). record { row = r; law = a.law }) row ∙ ap (λ (l : ℕ). record { row = b.row; law = l }) law

-- there is one fault to report
pub one-fault : (chosen : Chosen) (rows : List Row) (a b : RowFault) → IsFault chosen rows a → IsFault chosen rows b → a ≡ b
one-fault chosen rows a b f g =
    let low : a.row ≤ b.row = f.first b.law b.row g.broken in
    let high : b.row ≤ a.row = g.first a.law a.row f.broken in
    let row : a.row ≡ b.row = omega arith in
    let under : a.law ≤ b.law = f.lowest b.law (subst (BreaksAt chosen b.law rows) (sym row) g.broken) in
    let over : b.law ≤ a.law = g.lowest a.law (subst (BreaksAt chosen a.law rows) row f.broken) in
    same-fault a b row (omega arith)
