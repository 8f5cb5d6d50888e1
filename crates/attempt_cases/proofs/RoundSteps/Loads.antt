-- How much a settling may still do for calls: the attempts that wait, and twice those that may still be made. What is done to a call lowers it, or leaves it.
use Rattle.std.proofs.Common.{◌≡◌, ◌≤◌, ◌+◌, ◌*◌, ◌-◌, ◌∙◌, ◌∷◌, ◌++◌, ◌&&◌, ◌||◌, ◌==◌, ℕ, zero, suc, Bool, true, false, List, [], Option, None, Some, refl, ap, sym, subst, arith, inl, inr, length, min, nat_le, nat_lt, not, if◌then◌else◌, is_some, slice_get}
use Rattle.std.proofs.lemmas.Bool.{cases_Bool, ltb-false}
use Rattle.std.proofs.lemmas.Option.{slice_get_past}
use Rattle.std.specs.Option.{option_map_or}
use Rattle.attempt_ledger.specs.Numbering.{most_attempts}
use Rattle.attempt_ledger.specs.declared.row.Placed.{Placed}
use Rattle.attempt_ledger.specs.declared.row.Row.{Row}
use Rattle.attempt_ledger.specs.declared.row.RowEnd.{RowEnd}
use Rattle.call_core.specs.Parts as parts
use Rattle.call_core.specs.Parts.{count_of, find_live, has_none, is_above, pick_end}
use Rattle.call_core.specs.Rows.{row_in}
use Rattle.call_core.specs.Steps as step
use Rattle.call_core.specs.Steps.{Stepped, call_plan}
use Rattle.call_core.specs.declared.attempts.Attempts.{Attempts}
use Rattle.call_core.specs.declared.live.LiveRow.{LiveRow}
use Rattle.call_core.specs.declared.state.CallState.{CallState}
use Rattle.channel_actions.proofs.Calls.Sound.Spends.{next_less}
use Rattle.channel_actions.proofs.Calls.Sound.Steps.{Leaves, Sized, by_last, closed_if, ended_not, judged_sent, judged_stopped, leaves_ended, leaves_on, leaves_refused, leaves_same, one_if, placed_not, waiting, waits_in, with_attempts}
use Rattle.grpc_base.specs.declared.event.EndCause.TheVariants as ends
use Rattle.grpc_base.specs.declared.plan.CallPlan.{CallPlan}
use Rattle.grpc_base.specs.declared.plan.CallPlan.TheVariants as plans
use Rattle.hedge_core.specs.DueMoments as hedging
use Rattle.ledger_stamps.specs.Steps.{changed, changed_at, ended_row, placed_row}

-- the attempts that a call may still make
abbrev pub may : CallState → ℕ
may call = if call.attempts.stopped then 0 else 5 - call.attempts.sent

-- so much is done by a step
abbrev pub Lowers : ℕ → Stepped → Stepped → Type 0
Lowers k s t = waiting t.ledger.rows + 2 * may t.call + k ≤ waiting s.ledger.rows + 2 * may s.call

may_less : (b c : Bool) (m n : ℕ) → (c ≡ true → b ≡ true) → m ≡ n → (if b then 0 else 5 - m) ≤ (if c then 0 else 5 - n)
may_less true true m n stops e = omega arith
may_less true false m n stops e = omega arith
may_less false true m n stops e = absurd (let bad : false ≡ true = stops refl in (cc))
may_less false false m n stops e = omega (arith, e)

pub lowers_by : (s t : Stepped) → Leaves s t → Lowers 0 s t
lowers_by s t l =
    let rows : waiting t.ledger.rows ≤ waiting s.ledger.rows = l.waiting in
    let left : may t.call ≤ may s.call = may_less t.call.attempts.stopped s.call.attempts.stopped t.call.attempts.sent s.call.attempts.sent l.stopped l.sent in
    omega (arith, rows, left)

-- an attempt is due only where none is forbidden
on : (s b : Bool) (f : Option ℕ) (due : ℕ) → (if s || b then None else f) ≡ Some due → s ≡ false
on true b f due e = absurd (let bad : None ≡ Some due = e in (cc))
on false b f due e = refl

on_over : (s z b : Bool) (f : Option ℕ) (due : ℕ) → (if s || z || b then None else f) ≡ Some due → s ≡ false
on_over true z b f due e = absurd (let bad : None ≡ Some due = e in (cc))
on_over false z b f due e = refl

plan_open : (plan : CallPlan) (a : Attempts) (due : ℕ) → parts.next_of_plan plan a ≡ Some due → a.stopped ≡ false
plan_open plans.None a due e = on a.stopped (nat_le 1 a.sent) a.forced due e
plan_open (plans.Retry p) a due e = on a.stopped (nat_le p.max a.sent) a.forced due e
plan_open (plans.Hedge p) a due e = by_first (a.sent == 0) e
  where
    by_first : (b : Bool) → (if b then parts.next_forced p.max a else hedging.next_due p (parts.hedge_of a)) ≡ Some due → a.stopped ≡ false
    by_first true e = on a.stopped (nat_le p.max a.sent) a.forced due e
    by_first false e =
        on_over a.stopped (a.sent == 0) (nat_le p.max a.sent) (option_map_or (λ forced. Some forced) a.forced (hedging.delayed_due p (parts.hedge_of a))) due e

next_open : (call : CallState) (due : ℕ) → step.next_due call ≡ Some due → call.attempts.stopped ≡ false
next_open call due e = plan_open (call_plan call) call.attempts due e

-- it is made, or withheld
waiting_more : (rows : List Row) (r : Row) → waiting (rows ++ r ∷ []) ≡ waiting rows + one_if (waits_in r)
waiting_more [] r = let one : one_if (waits_in r) + 0 ≡ 0 + one_if (waits_in r) = omega arith in one
waiting_more (x ∷ rows) r =
    let more : waiting (rows ++ r ∷ []) ≡ waiting rows + one_if (waits_in r) = waiting_more rows r in
    let first : waiting (x ∷ (rows ++ r ∷ [])) ≡ one_if (waits_in x) + waiting (rows ++ r ∷ []) = refl in
    let second : waiting (x ∷ rows) ≡ one_if (waits_in x) + waiting rows = refl in
    let both : waiting (x ∷ (rows ++ r ∷ [])) ≡ waiting (x ∷ rows) + one_if (waits_in r) = omega (arith, more, first, second) in both

open_left : (call : CallState) → call.attempts.stopped ≡ false → may call ≡ 5 - call.attempts.sent
open_left call e = ap (λ (b : Bool). if b then 0 else 5 - call.attempts.sent) e

made_now : (due : ℕ) (s : Stepped) → s.call.attempts.stopped ≡ false → s.call.attempts.sent + 1 ≤ most_attempts (call_plan s.call) → Sized s.call
    → Lowers 1 s (step.made due s)
made_now due s goes less k =
    let t : Stepped = step.made due s in
    let range : most_attempts (call_plan s.call) ≤ 5 = k.range in
    let new : Row = step.new_row s.call.number (min (s.call.attempts.sent + 1) 4294967295) (parts.kind_of_next (call_plan s.call) s.call.attempts) due None in
    let rows : waiting t.ledger.rows ≡ waiting s.ledger.rows + 1 = waiting_more s.ledger.rows new in
    let before : may s.call ≡ 5 - s.call.attempts.sent = open_left s.call goes in
    let after : may t.call ≡ 5 - min (s.call.attempts.sent + 1) 4294967295 = open_left t.call goes in
    omega (arith, rows, before, after, less, range)

refused_now : (moment : ℕ) (s : Stepped) → s.call.attempts.stopped ≡ false → s.call.attempts.sent + 1 ≤ most_attempts (call_plan s.call) → Sized s.call
    → Lowers 1 s (step.refused_due moment s)
refused_now moment s goes less k =
    let t : Stepped = step.refused_due moment s in
    let u : Stepped = step.with_attempts (parts.stopped_attempts s.call.attempts) s in
    let range : most_attempts (call_plan s.call) ≤ 5 = k.range in
    let rows : waiting t.ledger.rows ≤ waiting s.ledger.rows = (leaves_refused moment s).waiting in
    let stopped : t.call.attempts.stopped ≡ true = (by_last s.call.attempts.last moment u).stopped refl in
    let before : may s.call ≡ 5 - s.call.attempts.sent = open_left s.call goes in
    let after : may t.call ≡ 0 = ap (λ (b : Bool). if b then 0 else 5 - t.call.attempts.sent) stopped in
    omega (arith, rows, before, after, less, range)

due_if : (b : Bool) (moment due : ℕ) (s : Stepped) → s.call.attempts.stopped ≡ false → s.call.attempts.sent + 1 ≤ most_attempts (call_plan s.call) → Sized s.call
    → Lowers 1 s (if b then step.refused_due moment s else step.made due s)
due_if true moment due s goes less k = refused_now moment s goes less k
due_if false moment due s goes less k = made_now due s goes less k

pub lowers_due : (moment due : ℕ) (s : Stepped) → step.next_due s.call ≡ Some due → nat_lt moment due ≡ false → Sized s.call → Lowers 1 s (step.made_due moment s)
lowers_due moment due s next past k =
    subst (λ (q : Option ℕ). Lowers 1 s (step.made_if q moment s)) (sym next)
    (subst (λ (b : Bool). Lowers 1 s (if b then s else step.due_at moment due s)) (sym past)
    (due_if (parts.is_tested (call_plan s.call) s.call.attempts && not (is_above s.tokens)) moment due s (next_open s.call due next) (next_less s.call due next) k))

weaker : (a b : ℕ) → a + 1 ≤ b → a + 0 ≤ b
weaker a b e = omega (arith, e)

made_by : (q : Option ℕ) (moment : ℕ) (s : Stepped) → step.next_due s.call ≡ q → Sized s.call → Lowers 0 s (step.made_if q moment s)
made_by None moment s e k = lowers_by s s (leaves_same s)
made_by (Some due) moment s e k = by_past (nat_lt moment due) refl
  where
    by_past : (b : Bool) → nat_lt moment due ≡ b → Lowers 0 s (if b then s else step.due_at moment due s)
    by_past true past = lowers_by s s (leaves_same s)
    by_past false past =
        let t : Stepped = step.due_at moment due s in
        weaker (waiting t.ledger.rows + 2 * may t.call) (waiting s.ledger.rows + 2 * may s.call)
        (due_if (parts.is_tested (call_plan s.call) s.call.attempts && not (is_above s.tokens)) moment due s (next_open s.call due e) (next_less s.call due e) k)

pub lowers_made : (moment : ℕ) (s : Stepped) → Sized s.call → Lowers 0 s (step.made_due moment s)
lowers_made moment s k = made_by (step.next_due s.call) moment s refl k

-- a row that waits is placed or ends
zero_if : (b : Bool) → (b ≡ true → ⊥) → one_if b ≡ 0
zero_if true never = absurd (never refl)
zero_if false never = refl

module _ (f : Row → Row) (gone : (r : Row) → waits_in (f r) ≡ true → ⊥) where
  strict_changed : (rows : List Row) (i : ℕ) (q : Row) → slice_get rows i ≡ Some q → waits_in q ≡ true → waiting (changed f rows i) + 1 ≤ waiting rows
  strict_changed [] i q e waits = absurd (let bad : None ≡ Some q = e in (cc))
  strict_changed (r ∷ rows) zero q e waits =
      let same : r ≡ q = (cc) in
      let one : one_if (waits_in r) ≡ 1 = ap (λ (z : Row). one_if (waits_in z)) same ∙ ap one_if waits in
      let none : one_if (waits_in (f r)) ≡ 0 = zero_if (waits_in (f r)) (gone r) in
      let first : waiting (f r ∷ rows) ≡ one_if (waits_in (f r)) + waiting rows = refl in
      let second : waiting (r ∷ rows) ≡ one_if (waits_in r) + waiting rows = refl in
      omega (arith, one, none, first, second)
  strict_changed (r ∷ rows) (suc i) q e waits =
      let more : waiting (changed f rows i) + 1 ≤ waiting rows = strict_changed rows i q e waits in
      let first : waiting (r ∷ changed f rows i) ≡ one_if (waits_in r) + waiting (changed f rows i) = refl in
      let second : waiting (r ∷ rows) ≡ one_if (waits_in r) + waiting rows = refl in
      omega (arith, more, first, second)

  strict_at : (rows : List Row) (place : ℕ) (q : Row) → row_in rows place ≡ Some q → waits_in q ≡ true → waiting (changed_at f rows place) + 1 ≤ waiting rows
  strict_at rows zero q e waits = absurd (let bad : None ≡ Some q = e in (cc))
  strict_at rows (suc k) q e waits =
      let D : Bool → ℕ = λ b. waiting (option_map_or (λ i. changed f rows i) (if b then Some k else None) rows) in
      elim (cases_Bool (nat_lt k (length rows))) [
        | inl inside ↦ subst (λ (n : ℕ). n + 1 ≤ waiting rows) (sym (ap D inside)) (strict_changed rows k q e waits)
        | inr out ↦ let bad : None ≡ Some q = sym (slice_get_past rows k (ltb-false k (length rows) out)) ∙ e in absurd (cc)
      ]

lower_on : (k : ℕ) (s t u : Stepped) → Lowers k s t → Leaves t u → Lowers k s u
lower_on k s t u a l =
    let first : waiting t.ledger.rows + 2 * may t.call + k ≤ waiting s.ledger.rows + 2 * may s.call = a in
    let second : waiting u.ledger.rows + 2 * may u.call + 0 ≤ waiting t.ledger.rows + 2 * may t.call = lowers_by t u l in
    omega (arith, first, second)

module _ (row : LiveRow) (s : Stepped) (q : Row) (there : row_in s.ledger.rows row.place ≡ Some q) (waits : waits_in q ≡ true) where
  -- by an end that counts
  module _ (u : Stepped) (rows : u.ledger.rows ≡ s.ledger.rows) (attempts : u.call.attempts ≡ s.call.attempts) where
    row_lower : (end : RowEnd) → Lowers 1 s (step.row_ended row.place end u)
    row_lower end =
        let t : Stepped = step.row_ended row.place end u in
        let strict : waiting (changed_at (ended_row end) s.ledger.rows row.place) + 1 ≤ waiting s.ledger.rows
        = strict_at (ended_row end) (ended_not end) s.ledger.rows row.place q there waits in
        let same : waiting t.ledger.rows ≡ waiting (changed_at (ended_row end) s.ledger.rows row.place)
        = ap (λ (l : List Row). waiting (changed_at (ended_row end) l row.place)) rows in
        let left : may t.call ≡ may s.call = ap (λ (a : Attempts). if a.stopped then 0 else 5 - a.sent) attempts in
        omega (arith, strict, same, left)

    free_lower : (end : RowEnd) (moment word : ℕ) → Lowers 1 s (step.counted_free row end moment word u)
    free_lower end moment word =
        let after = step.judged_of row end word u.call u.tokens in
        let t : Stepped = step.row_ended row.place (record end { word = after.word }) u in
        let v : Stepped = step.with_judged row end after u in
        let sent : after.attempts.sent ≡ u.call.attempts.sent
        = judged_sent (call_plan u.call) u.call.attempts row.number (has_none u.call.live) end (is_above u.tokens) word in
        let l : Leaves t (step.closed_if after.closes row.place moment v)
        = leaves_on t v (step.closed_if after.closes row.place moment v)
        (with_attempts (parts.lasted_attempts row.place after.attempts) t sent
        (judged_stopped (call_plan u.call) u.call.attempts row.number (has_none u.call.live) end (is_above u.tokens) word)) (closed_if after.closes row.place moment v) in
        lower_on 1 s t (step.closed_if after.closes row.place moment v) (row_lower (record end { word = after.word })) l

    ended_lower : (end : RowEnd) (moment : ℕ) → Lowers 1 s (step.ended_as ends.Row moment (step.row_ended row.place end u))
    ended_lower end moment =
        let t : Stepped = step.row_ended row.place end u in lower_on 1 s t (step.ended_as ends.Row moment t) (row_lower end) (leaves_ended ends.Row moment t)

    either : (b : Bool) (end : RowEnd) (moment word : ℕ)
        → Lowers 1 s (if b then step.ended_as ends.Row moment (step.row_ended row.place end u) else step.counted_free row end moment word u)
    either true end moment word = ended_lower end moment
    either false end moment word = free_lower end moment word

  fails : (moment word : ℕ) → Lowers 1 s (step.live_ended row pick_end moment word s)
  fails moment word =
      let u : Stepped = step.settled pick_end (step.left_live row.place s) in
      either u refl refl (is_some u.call.attempts.committed) (parts.row_end pick_end u.ledger.entry moment (count_of u.tokens)) moment word

  places : (at : Placed) → row.link ≡ None → Lowers 1 s (step.placed_live row at s)
  places at none =
      let t : Stepped = step.placed_row_live row at s in
      let strict : waiting t.ledger.rows + 1 ≤ waiting s.ledger.rows = strict_at (placed_row at) (placed_not at) s.ledger.rows row.place q there waits in
      let left : may t.call ≡ may s.call = refl in
      let lower : Lowers 1 s t = omega (arith, strict, left) in
      subst (λ (o : Option ℕ). Lowers 1 s (if is_some o then s else t)) (sym none) lower

pub lowers_failed : (row moment word : ℕ) (s : Stepped) (r : LiveRow) (q : Row) → find_live row s.call.live ≡ Some r → row_in s.ledger.rows r.place ≡ Some q → waits_in q ≡ true
    → Lowers 1 s (step.pick_failed row moment word s)
lowers_failed row moment word s r q found there waits =
    subst (λ (o : Option LiveRow). Lowers 1 s (step.ended_if_live o pick_end moment word s)) (sym found) (fails r s q there waits moment word)

pub lowers_placed : (row : ℕ) (at : Placed) (s : Stepped) (r : LiveRow) (q : Row) → find_live row s.call.live ≡ Some r → r.link ≡ None → row_in s.ledger.rows r.place ≡ Some q
    → waits_in q ≡ true → Lowers 1 s (step.placed_at row at s)
lowers_placed row at s r q found none there waits =
    subst (λ (o : Option LiveRow). Lowers 1 s (step.placed_if_live o at s)) (sym found) (places r s q there waits at none)
