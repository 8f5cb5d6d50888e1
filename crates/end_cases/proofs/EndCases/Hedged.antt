-- A last end after which other attempts of the call go on is one of a hedged call, by a code that its policy does not name.
use Rattle.std.proofs.Common.{◌≡◌, ◌&&◌, ◌||◌, ◌==◌, ◌∷◌, not, ap, refl, sym, ◌∙◌, Bool, true, false, List, [], ℕ, cond, eq-eqb, inl, inr, is_some, map}
use Rattle.std.specs.List.{list_any}
use Rattle.std.specs.Option.{option_and_then}
use Rattle.std.specs.Prelude.{filter}
use Rattle.attempt_ledger.specs.declared.row.RowEnd.{RowEnd}
use Rattle.call_actions.proofs.Again.{any_here}
use Rattle.call_actions.proofs.Dues.{plan_is}
use Rattle.call_actions.specs.Sees.{is_live, live_row}
use Rattle.call_core.specs.Going.{HasAtMostOne, IsAlone, hedges}
use Rattle.call_core.specs.declared.live.LiveRow.{LiveRow}
use Rattle.channel_actions.specs.GoingCalls.Going.{GoesOn}
use Rattle.end_cases.proofs.AttemptEnds.Base.{c, sees, slot, slot_there, x2}
use Rattle.channel_actions.proofs.SoundBuffers.Slots.{all_numbered}
use Rattle.end_cases.specs.AttemptEnds.Ends.{EndNext}
use Rattle.end_cases.specs.AttemptEnds.Laws.{IsLastEnd, IsLastOfSeveral, goes_on_after}
use Rattle.channel_core.specs.States.{StateSeen}
use Rattle.channel_core.specs.declared.state.slots.CallSlot.{CallSlot}
use Rattle.grpc_base.specs.Codes.{has_code}
use Rattle.grpc_base.specs.declared.plan.CallPlan.TheVariants as plan
use Rattle.grpc_base.specs.declared.plan.CallPlan.{CallPlan}
use Rattle.session_actions.specs.AttemptEnds.{attempt_ended, end_of}
use Rattle.session_actions.specs.Configs.{plan_of}
use Rattle.session_actions.specs.DueAttempts.{next_due}
use Rattle.session_actions.specs.Words.{numbered}
use Rattle.session_actions.specs.declared.attempt.Attempt.{Attempt}
use Rattle.session_actions.specs.declared.call.Call.{Call}
use Rattle.session_actions.specs.declared.entry.OpenEntry.{OpenEntry}
use Rattle.session_actions.specs.declared.response.Outcome.{Outcome}
use Rattle.session_actions.specs.declared.seen.Seen.{Seen}
use Rattle.session_order.specs.declared.line.Line.{Line}

-- attempts that pass a test, and the rows that are made of them
module _ (p : Attempt → Bool) (t : ℕ → Bool) where
  row_by : (q : Bool) (x : Attempt) (ys : List Attempt)
      → list_any (λ (r : LiveRow). t r.place) (map live_row (cond q (x ∷ ys) ys)) ≡ ((q && t x.place) || list_any (λ (r : LiveRow). t r.place) (map live_row ys))
  row_by true x ys = refl
  row_by false x ys = refl

  rows_any : (xs : List Attempt) → list_any (λ (r : LiveRow). t r.place) (map live_row (filter p xs)) ≡ list_any (λ (q : Attempt). p q && t q.place) xs
  rows_any [] = refl
  rows_any (x ∷ xs) = row_by (p x) x (filter p xs) ∙ ap (λ (b : Bool). (p x && t x.place) || b) (rows_any xs)

-- no two of them, where there is one at most
two_of : (row n : ℕ) (b : Bool) → (row == n) ≡ b → (b || false) ≡ true → (not b || false) ≡ true → ⊥
two_of row n true e f g = (let bad : false ≡ true = g in (cc))
two_of row n false e f g = (let bad : false ≡ true = f in (cc))

two_in : (n : ℕ) (live : List LiveRow) (row : LiveRow) → live ≡ row ∷ [] → list_any (λ (r : LiveRow). r.place == n) live ≡ true
    → list_any (λ (r : LiveRow). not (r.place == n)) live ≡ true → ⊥
two_in n live row one here other =
    two_of row.place n (row.place == n) refl (sym (ap (λ (l : List LiveRow). list_any (λ (r : LiveRow). r.place == n) l) one) ∙ here)
    (sym (ap (λ (l : List LiveRow). list_any (λ (r : LiveRow). not (r.place == n)) l) one) ∙ other)

none_in : (n : ℕ) (live : List LiveRow) → live ≡ [] → list_any (λ (r : LiveRow). not (r.place == n)) live ≡ true → ⊥
none_in n live none other =
    (let bad : false ≡ true = sym (ap (λ (l : List LiveRow). list_any (λ (r : LiveRow). not (r.place == n)) l) none) ∙ other in (cc))

unnamed_by : (code others due : Bool) → (code && (others || due)) ≡ false → others ≡ true → code ≡ false
unnamed_by true true due e f = e
unnamed_by true false due e f = absurd (let bad : false ≡ true = f in (cc))
unnamed_by false others due e f = refl

module _ (later : List (ℕ × RowEnd)) (waits : Line → Bool) (also : List ℕ) (a : Attempt) (out : Outcome) (x : StateSeen) (o : OpenEntry) (s : Seen) (is : EndNext later waits also a out x o s) where
  abbrev k : Call
  k = c later waits also a out x o s is

  abbrev held : CallSlot
  held = slot later waits also a out x o s is

  pub going_on : GoesOn held.call
  going_on = all_numbered (λ call. GoesOn call) x.book.calls k.number held is.going.calls (slot_there later waits also a out x o s is)

  module _ (last : IsLastEnd s k a out) (others : list_any (λ (q : Attempt). is_live s k q && not (q.place == a.place)) s.attempts ≡ true) where
    live_here : list_any (λ (r : LiveRow). r.place == a.place) held.call.live ≡ true
    live_here =
        sym (ap (λ (l : List LiveRow). list_any (λ (r : LiveRow). r.place == a.place) l) (sees later waits also a out x o s is).live)
        ∙ rows_any (is_live s k) (λ (n : ℕ). n == a.place) s.attempts
        ∙ any_here (λ (q : Attempt). is_live s k q && (q.place == a.place)) s.attempts a.place a is.ending.there
        (ap (λ (b : Bool). b && (a.place == a.place)) is.ending.lives ∙ eq-eqb a.place a.place refl)

    live_other : list_any (λ (r : LiveRow). not (r.place == a.place)) held.call.live ≡ true
    live_other =
        sym (ap (λ (l : List LiveRow). list_any (λ (r : LiveRow). not (r.place == a.place)) l) (sees later waits also a out x o s is).live)
        ∙ rows_any (is_live s k) (λ (n : ℕ). not (n == a.place)) s.attempts ∙ others

    not_one : HasAtMostOne held.call → ⊥
    not_one (inl none) = none_in a.place held.call.live none live_other
    not_one (inr one) = let alone : IsAlone held.call one.0 = one.1 in two_in a.place held.call.live one.0 alone.live live_here live_other

    unhedged : hedges (plan_of k s) ≡ false → ⊥
    unhedged off =
        not_one (going_on.going.alone (sym (ap hedges (plan_is s k (x2 later waits also a out x o s is) (sees later waits also a out x o s is))) ∙ off))

    by_plan : (p : CallPlan) → plan_of k s ≡ p → goes_on_after p s k a out ≡ false → IsLastOfSeveral s k a out
    by_plan plan.None e off = absurd (unhedged (ap hedges e))
    by_plan (plan.Retry p) e off = absurd (unhedged (ap hedges e))
    by_plan (plan.Hedge p) e off = record {
      last = last;
      policy = p;
      hedged = e;
      unnamed =
          unnamed_by (has_code p.codes out.code) (list_any (λ (q : Attempt). is_live s k q && not (q.place == a.place)) s.attempts)
          (is_some (option_and_then (λ (g : Call). next_due g (attempt_ended a.place (end_of a out s) s)) (numbered (attempt_ended a.place (end_of a out s) s).calls k.number))) off others;
      others = others;
    }

    pub several : IsLastOfSeveral s k a out
    several = by_plan (plan_of k s) refl last.last
