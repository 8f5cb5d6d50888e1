-- An attempt of a call is placed, committed to, or ends: what is kept of the turn of the call's attempts is so still.
use Rattle.attempt_ledger.specs.Ends.{is_cut}
use Rattle.attempt_ledger.specs.TransparentRows.{is_refused}
use Rattle.attempt_ledger.specs.declared.row.Placed.{Placed}
use Rattle.attempt_ledger.specs.declared.row.RowEnd.{RowEnd}
use Rattle.call_actions.proofs.Ends.Tokens.{more_ends}
use Rattle.call_actions.proofs.Lists.{changed_here, changed_map, numbered_not}
use Rattle.call_actions.proofs.Places.{place_is}
use Rattle.call_actions.specs.Order.{IsInTurn, goes_on_followed}
use Rattle.call_actions.specs.CallsApart.Apart.{IsBook}
use Rattle.call_actions.proofs.CallsInTurn.Columns.{quiescent_now, ends_here, turn_now, waits_here, with_marks, column}
use Rattle.call_actions.specs.CallsInTurn.Laws.{CommittingKeeps, EndingKeeps, IsOwn, PlacingKeeps}
use Rattle.call_actions.specs.CallsInTurn.Turns.{StaysSteady, waits}
use Rattle.session_actions.specs.AttemptEnds.{attempt_ended, attempt_ended_as, with_end, with_end_in_run}
use Rattle.session_actions.specs.Attempts.{call_of, is_to_follow, marked_row, was_refused, with_attempt, is_followed}
use Rattle.session_actions.specs.Calls.{marked}
use Rattle.session_actions.specs.Commitments.{call_committed}
use Rattle.session_actions.specs.Configs.{config_of_call}
use Rattle.session_actions.specs.Entries.{drawn_if, entry, now}
use Rattle.session_actions.specs.Policies.{attempt_placed}
use Rattle.session_actions.specs.Words.{changed, holds, numbered}
use Rattle.session_actions.specs.declared.attempt.Attempt.{Attempt}
use Rattle.session_actions.specs.declared.call.Call.{Call}
use Rattle.session_actions.specs.declared.call.Mark.{Mark}
use Rattle.session_actions.specs.declared.call.MarkKind.TheVariants as mark
use Rattle.session_actions.specs.declared.call.MarkKind.{MarkKind}
use Rattle.session_actions.specs.declared.config.HeldConfig.{HeldConfig}
use Rattle.session_actions.specs.declared.config.ThrottleRun.{ThrottleRun}
use Rattle.session_actions.specs.declared.seen.Seen.{Seen}
use Rattle.std.proofs.Common.{Bool, List, None, Option, Some, [], ap, eqb-true, false, if◌then◌else◌, is_none, is_some, not, option_and_then, option_map, refl, subst, sym, true, ℕ, ◌&&◌, ◌++◌, ◌∙◌, ◌∷◌, ◌≡◌}
use Rattle.std.specs.List.{list_any}
use Rattle.std.specs.Option.{option_map_or}

-- a row is changed, and marked of its call
module _ (s : Seen) (c : Call) (place : ℕ) (a : Attempt) (what : MarkKind) (pl : Attempt → Option Placed) (en : Attempt → Option RowEnd) (co : Attempt → Option ℕ)
    (k : IsOwn s c place a) where
  abbrev z : Seen
  z = with_attempt (column pl en co) place s

  abbrev marks : List Mark
  marks = c.marks ++ record { what = what; moment = now s } ∷ []

  abbrev y : Seen
  y = marked what c.number z

  pub own_y : numbered y.calls c.number ≡ Some (with_marks marks c)
  own_y = changed_here (λ (d : Call). record d { marks = d.marks ++ record { what = what; moment = now s } ∷ [] }) c.number s.calls c k.own

  pub row_is : marked_row what place z ≡ y
  row_is =
      ap (λ (o : Option Attempt). option_map_or (λ (q : Attempt). marked what q.row.call z) o z) (changed_map (column pl en co) place s.attempts ∙ ap (option_map (column pl en co)) k.there)
      ∙ ap (λ (n : ℕ). marked what n z) (eqb-true a.row.call c.number k.mine)

and_no : (b : Bool) → (b && false) ≡ false
and_no true = refl
and_no false = refl

pub unfollowed_of : (s : Seen) (c : Call) (place : ℕ) (a : Attempt) → IsOwn s c place a → is_none a.row.ended ≡ true → list_any (goes_on_followed s c) s.attempts ≡ false → is_followed a s ≡ false
unfollowed_of s c place a k unended none =
    sym (ap (λ (b : Bool). (b && is_none a.row.ended) && is_followed a s) k.mine ∙ ap (λ (b : Bool). (true && b) && is_followed a s) unended)
    ∙ numbered_not (goes_on_followed s c) s.attempts place a none k.there

pub placing_keeps : PlacingKeeps
placing_keeps s c place a at book k steady =
    let pl : Attempt → Option Placed = λ (q : Attempt). Some at in
    let en : Attempt → Option RowEnd = λ (q : Attempt). q.row.ended in
    let co : Attempt → Option ℕ = λ (q : Attempt). q.row.committed in
    let t : Seen = y s c place a (mark.Placed place) pl en co k in
    let marks_then : List Mark = marks s c place a (mark.Placed place) pl en co k in
    let is : attempt_placed place at s ≡ t = row_is s c place a (mark.Placed place) pl en co k in
    let own : numbered t.calls c.number ≡ Some (with_marks marks_then c) = own_y s c place a (mark.Placed place) pl en co k in
    subst (λ (u : Seen). StaysSteady u c.number) (sym is)
    (record {
      call = with_marks marks_then c;
      own = own;
      steady = record {
        turn = turn_now s t c marks_then pl en co place a (subst IsBook is book) k.own own refl refl k.there k.mine (λ e. e) refl (λ e. e) steady;
        quiescent = quiescent_now s t c marks_then pl en co place a (subst IsBook is book) k.own own refl refl k.there k.mine (λ e. e) refl (λ e. e) steady
            (waits_here s t c marks_then pl en co place a (subst IsBook is book) k.own own refl refl k.there k.mine (λ e. e) refl (λ e. e) steady
            refl (numbered_not (waits s c) s.attempts place a steady.quiescent k.there));
      };
    })

pub committing_keeps : CommittingKeeps
committing_keeps s c place a book k steady =
    let pl : Attempt → Option Placed = λ (q : Attempt). q.row.placed in
    let en : Attempt → Option RowEnd = λ (q : Attempt). q.row.ended in
    let co : Attempt → Option ℕ = λ (q : Attempt). Some (entry s) in
    let t : Seen = y s c place a mark.Committed pl en co k in
    let marks_then : List Mark = marks s c place a mark.Committed pl en co k in
    let is : call_committed place s ≡ t = row_is s c place a mark.Committed pl en co k in
    let own : numbered t.calls c.number ≡ Some (with_marks marks_then c) = own_y s c place a mark.Committed pl en co k in
    subst (λ (u : Seen). StaysSteady u c.number) (sym is)
    (record {
      call = with_marks marks_then c;
      own = own;
      steady = record {
        turn = turn_now s t c marks_then pl en co place a (subst IsBook is book) k.own own refl refl k.there k.mine (λ e. e) refl (λ e. refl) steady;
        quiescent = quiescent_now s t c marks_then pl en co place a (subst IsBook is book) k.own own refl refl k.there k.mine (λ e. e) refl (λ e. refl) steady
            (waits_here s t c marks_then pl en co place a (subst IsBook is book) k.own own refl refl k.there k.mine (λ e. e) refl (λ e. refl) steady
            refl (numbered_not (waits s c) s.attempts place a steady.quiescent k.there));
      };
    })

-- an end: the run of the call's config may change with it
module _ (s : Seen) (c : Call) (place : ℕ) (a : Attempt) (e : RowEnd) (k : IsOwn s c place a) (book : IsBook s) where
  runs_if : (b : Bool) (o : Option ℕ)
      → (if b then option_map_or (λ (run : ℕ). record s { runs = changed (more_ends a.place) run s.runs }) o s else s)
      ≡ record s { runs = if b then option_map_or (λ (run : ℕ). changed (more_ends a.place) run s.runs) o s.runs else s.runs }
  runs_if false o = refl
  runs_if true None = refl
  runs_if true (Some run) = refl

  abbrev runs_of : Option Call → List ThrottleRun
  runs_of None = s.runs
  runs_of (Some d) =
      if not (is_cut e.cause) && not (is_to_follow d e.cause e.unseen s)
      then option_map_or (λ (run : ℕ). changed (more_ends a.place) run s.runs) (option_and_then (λ (h : HeldConfig). h.run) (config_of_call d s)) s.runs else s.runs

  run_by : (o : Option Call) → option_map_or (with_end_in_run a e s) o s ≡ record s { runs = runs_of o }
  run_by None = refl
  run_by (Some d) =
      runs_if (not (is_cut e.cause) && not (is_to_follow d e.cause e.unseen s)) (option_and_then (λ (h : HeldConfig). h.run) (config_of_call d s))

  its_place : a.place ≡ place
  its_place = place_is place s.attempts a book.places k.there

  abbrev pub end_marks : List Mark
  end_marks = c.marks ++ record { what = mark.Ended a.place; moment = now s } ∷ []

  abbrev pub then_ended : Seen
  then_ended = drawn_if (is_some e.word) (marked (mark.Ended a.place) c.number (with_attempt (with_end e) place (record s { runs = runs_of (call_of a s) })))

  pub end_is : attempt_ended place e s ≡ then_ended
  end_is =
      ap (λ (o : Option Attempt). option_map_or (attempt_ended_as e s) o s) k.there
      ∙ ap (λ (w : Seen). drawn_if (is_some e.word) (marked (mark.Ended a.place) a.row.call (with_attempt (with_end e) a.place w))) (run_by (call_of a s))
      ∙ ap (λ (n : ℕ). drawn_if (is_some e.word) (marked (mark.Ended a.place) n (with_attempt (with_end e) a.place (record s { runs = runs_of (call_of a s) })))) (eqb-true a.row.call c.number k.mine)
      ∙ ap (λ (n : ℕ). drawn_if (is_some e.word) (marked (mark.Ended a.place) c.number (with_attempt (with_end e) n (record s { runs = runs_of (call_of a s) })))) its_place

  pub own_ended : numbered then_ended.calls c.number ≡ Some (with_marks end_marks c)
  own_ended = changed_here (λ (d : Call). record d { marks = d.marks ++ record { what = mark.Ended a.place; moment = now s } ∷ [] }) c.number s.calls c k.own

pub ending_keeps : EndingKeeps
ending_keeps s c place a e book book_then k unended free steady =
    let pl : Attempt → Option Placed = λ (q : Attempt). q.row.placed in
    let en : Attempt → Option RowEnd = λ (q : Attempt). Some e in
    let co : Attempt → Option ℕ = λ (q : Attempt). q.row.committed in
    let t : Seen = then_ended s c place a e k book in
    let marks_then : List Mark = end_marks s c place a e k book in
    let is : attempt_ended place e s ≡ t = end_is s c place a e k book in
    let own : numbered t.calls c.number ≡ Some (with_marks marks_then c) = own_ended s c place a e k book in
    let turn : IsInTurn s c = steady.turn in
    let unfollowed : is_followed a s ≡ false = unfollowed_of s c place a k unended turn.unfollowed in
    let refused : (holds is_refused (en a) && is_followed a s) ≡ (was_refused a && is_followed a s)
    = ap (λ (b : Bool). is_refused e && b) unfollowed ∙ and_no (is_refused e) ∙ sym (ap (λ (b : Bool). was_refused a && b) unfollowed ∙ and_no (was_refused a)) in
    subst (λ (u : Seen). StaysSteady u c.number) (sym is)
    (record {
      call = with_marks marks_then c;
      own = own;
      steady = record {
        turn = turn_now s t c marks_then pl en co place a (subst IsBook is book_then) k.own own refl refl k.there k.mine (λ none. unended) refused (λ was. was) steady;
        quiescent = quiescent_now s t c marks_then pl en co place a (subst IsBook is book_then) k.own own refl refl k.there k.mine (λ none. unended) refused (λ was. was) steady
            (ends_here s t c marks_then pl en co place a (subst IsBook is book_then) k.own own refl refl k.there k.mine (λ none. unended) refused (λ was. was) steady e refl free);
      };
    })
