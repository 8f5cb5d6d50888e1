-- Of a call that is committed no attempt is due: what its marks say.
-- whether a call was committed since it got its config
use Rattle.attempt_ledger.specs.Numbering.{is_transparent, most_attempts}
use Rattle.attempt_ledger.specs.Throttling.{codes_of}
use Rattle.attempt_ledger.specs.declared.row.RowEnd.{RowEnd}
use Rattle.grpc_base.specs.Codes.{has_code}
use Rattle.session_actions.specs.Attempts.{commitment, counts_by}
use Rattle.session_actions.specs.Configs.{plan_of}
use Rattle.session_actions.specs.DueAttempts.{attempts_made, due_after_end, due_after_making, due_after_mark, due_by_plan, due_state, hedge_due, next_due, no_due}
use Rattle.session_actions.specs.Words.{is_number, numbered}
use Rattle.session_actions.specs.declared.attempt.Attempt.{Attempt}
use Rattle.session_actions.specs.declared.call.Call.{Call}
use Rattle.session_actions.specs.declared.call.Mark.{Mark}
use Rattle.session_actions.specs.declared.call.MarkKind.{MarkKind}
use Rattle.session_actions.specs.declared.due.DueState.{DueState}
use Rattle.session_actions.specs.declared.seen.Seen.{Seen}
use Rattle.session_takes.proofs.Pairs.{MovesIf}
use Rattle.std.proofs.Common.{Bool, List, None, Option, Some, [], false, if◌then◌else◌, is_some, nat_le, not, refl, sym, true, ℕ, ◌&&◌, ◌++◌, ◌||◌, ◌∙◌, ◌∷◌, ◌≡◌}
use Rattle.std.proofs.lemmas.List.Sums.{fold-append}
use Rattle.std.specs.Option.{option_map_or, option_or}
use Rattle.std.specs.Prelude.{fold}
use Rattle.session_actions.specs.declared.call.MarkKind.TheVariants as mark

abbrev pub settle : Bool → MarkKind → Bool
settle b mark.Configured = false
settle b mark.Committed = true
settle b _ = b

abbrev pub settled : List Mark → Bool
settled marks = fold (λ b m. settle b m.what) false marks

pub settled_more : (marks : List Mark) (m : Mark) → settled (marks ++ m ∷ []) ≡ settle (settled marks) m.what
settled_more marks m = fold-append (λ (b : Bool) (x : Mark). settle b x.what) false marks (m ∷ [])

-- a call that is committed was so since it got its config
abbrev pub Settles : Seen → Call → Type 0
Settles s c = is_some (commitment c s) ≡ true → settled c.marks ≡ true

moved_by : (closed : Bool) (s t : Seen) (o q : Option Attempt) → MovesIf closed s t o q → is_some q ≡ true → is_some o ≡ true
moved_by closed s t None None m e = e
moved_by closed s t (Some a) q m e = refl
moved_by closed s t None (Some b) m e = absurd m

pub settles_by : (closed : Bool) (s t : Seen) (c d : Call) → settled d.marks ≡ settled c.marks → MovesIf closed s t (commitment c s) (commitment d t) → Settles s c → Settles t d
settles_by closed s t c d same m h = λ e. same ∙ h (moved_by closed s t (commitment c s) (commitment d t) m e)

-- then no further attempt is due
stop_if : (st x y : Bool) (z d : DueState) → st ≡ true → d.stopped ≡ true → (if (not st && x) && y then z else d).stopped ≡ true
stop_if true x y z d e stops = stops
stop_if false x y z d e stops = absurd (cc)

ended_stops : (c : Call) (s : Seen) (d : DueState) (a : Attempt) → d.stopped ≡ true → (o : Option RowEnd) → (option_map_or (due_after_end c s d a) o d).stopped ≡ true
ended_stops c s d a stops None = stops
ended_stops c s d a stops (Some e) =
    stop_if d.stopped (counts_by a s e) (has_code (codes_of (plan_of c s)) e.code) (due_by_plan (plan_of c s) c a s d e) d stops stops

end_stops : (c : Call) (s : Seen) (d : DueState) → d.stopped ≡ true → (o : Option Attempt)
    → (option_map_or (λ (a : Attempt). option_map_or (due_after_end c s d a) a.row.ended d) o d).stopped ≡ true
end_stops c s d stops None = stops
end_stops c s d stops (Some a) = ended_stops c s d a stops a.row.ended

making_stops : (b : Bool) (d : DueState) (place : ℕ) → d.stopped ≡ true → (if b then d else record d { newest = Some place; placed = None; forced = None }).stopped ≡ true
making_stops true d place stops = stops
making_stops false d place stops = stops

made_stops : (d : DueState) → d.stopped ≡ true → (o : Option Attempt) → (option_map_or (due_after_making d) o d).stopped ≡ true
made_stops d stops None = stops
made_stops d stops (Some a) = making_stops (is_transparent a.row.kind) d a.place stops

placed_stops : (b : Bool) (d : DueState) (moment : ℕ) → d.stopped ≡ true → (if b then record d { placed = Some moment } else d).stopped ≡ true
placed_stops true d moment stops = stops
placed_stops false d moment stops = stops

mark_stops : (c : Call) (s : Seen) (b : Bool) (d : DueState) (what : MarkKind) (moment : ℕ) → (b ≡ true → d.stopped ≡ true) → settle b what ≡ true
    → (due_after_mark c s what moment d).stopped ≡ true
mark_stops c s b d mark.Configured moment stops e = absurd (cc)
mark_stops c s b d (mark.Made row) moment stops e = made_stops d (stops e) (numbered s.attempts row)
mark_stops c s b d (mark.Placed row) moment stops e = placed_stops (is_number row d.newest) d moment (stops e)
mark_stops c s b d (mark.Ended row) moment stops e = end_stops c s d (stops e) (numbered s.attempts row)
mark_stops c s b d mark.Withheld moment stops e = refl
mark_stops c s b d mark.Committed moment stops e = refl
mark_stops c s b d mark.Closed moment stops e = refl

marks_stop : (c : Call) (s : Seen) (ms : List Mark) (b : Bool) (d : DueState) → (b ≡ true → d.stopped ≡ true) → fold (λ (x : Bool) (m : Mark). settle x m.what) b ms ≡ true
    → (fold (λ (x : DueState) (m : Mark). due_after_mark c s m.what m.moment x) d ms).stopped ≡ true
marks_stop c s [] b d stops e = stops e
marks_stop c s (m ∷ ms) b d stops e =
    marks_stop c s ms (settle b m.what) (due_after_mark c s m.what m.moment d) (λ is. mark_stops c s b d m.what m.moment stops is) e

settled_stops : (c : Call) (s : Seen) → settled c.marks ≡ true → (due_state c s).stopped ≡ true
settled_stops c s e = marks_stop c s c.marks false no_due (λ is. refl) e

due_if : (stopped most : Bool) (x : Option ℕ) (due : ℕ) → (if stopped || most then None else x) ≡ Some due → stopped ≡ false
due_if true most x due e = absurd (let bad : ◌≡◌ {A = Option ℕ} None (Some due) = e in (cc))
due_if false most x due e = refl

pub never_due : (c : Call) (s : Seen) (due : ℕ) → settled c.marks ≡ true → next_due c s ≡ Some due → ⊥
never_due c s due e is =
    let goes : (due_state c s).stopped ≡ false
    = due_if (due_state c s).stopped (nat_le (most_attempts (plan_of c s)) (attempts_made c s)) (option_or (due_state c s).forced (hedge_due (plan_of c s) (due_state c s))) due is in
    let bad : true ≡ false = sym (settled_stops c s e) ∙ goes in (cc)
