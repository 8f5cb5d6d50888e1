-- An attempt ends by its pick, or by the wire: no answer of a pick request is left that is to be acted on.
use Rattle.std.proofs.Common.{◌≡◌, ◌==◌, ◌&&◌, ap, refl, sym, ◌∙◌, Bool, true, false, List, Option, None, Some, ℕ, if◌then◌else◌, is_none, is_some, nat_lt, option_map}
use Rattle.std.proofs.lemmas.Bool.{and_parts, and_right, eqb-false}
use Rattle.std.specs.Prelude.{option_and_then}
use Rattle.attempt_ledger.specs.declared.ledger.Ask.{Ask}
use Rattle.attempt_ledger.specs.declared.row.RowEnd.{RowEnd}
use Rattle.end_cases.proofs.AttemptEnds.After.{attempt_at, end, entry_is, put, u}
use Rattle.end_cases.proofs.AttemptEnds.Agreeing.{early_by}
use Rattle.end_cases.specs.AttemptEnds.Ends.{EndNext, is_of_ends, may_wait}
use Rattle.channel_core.specs.States.{StateSeen}
use Rattle.grpc_base.specs.declared.kind.Pick.{Pick}
use Rattle.grpc_base.specs.declared.kind.Pick.TheVariants as pick
use Rattle.session_actions.specs.AttemptEnds.{end_of, pick_end, with_end}
use Rattle.session_actions.specs.Entries.{entry}
use Rattle.session_actions.specs.Policies.{follow_ask, follow_pick, is_unfollowed, next_of_pick, placed_on}
use Rattle.session_actions.specs.Words.{holds, last_of, numbered}
use Rattle.session_actions.specs.declared.action.Action.{Action}
use Rattle.session_actions.specs.declared.action.Action.TheVariants as action
use Rattle.session_actions.specs.declared.attempt.Attempt.{Attempt}
use Rattle.session_actions.specs.declared.entry.OpenEntry.{OpenEntry}
use Rattle.session_actions.specs.declared.response.Outcome.{Outcome}
use Rattle.session_actions.specs.declared.seen.Seen.{Seen}
use Rattle.session_actions.specs.declared.subchannel.Subchannel.{Subchannel}
use Rattle.session_actions.specs.Events.{is_loss}
use Rattle.session_order.proofs.Quiescence.{first_line_gives}
use Rattle.session_order.specs.Quiescent.{IsStill, can_follow, is_to_follow_pick}
use Rattle.session_order.specs.Lines.{rank}
use Rattle.session_order.specs.declared.line.Line.{Line}
use Rattle.session_order.specs.declared.line.Line.TheVariants as line

-- what comes before it: only what is still
before_pick : (loses : Bool) (m : Line) → nat_lt (rank loses m) (rank loses line.Pick) ≡ true → (is_of_ends m ≡ false) × (may_wait m ≡ false)
before_pick loses line.Cut e = (refl, refl)
before_pick loses line.Transparent e = (refl, refl)
before_pick loses line.Inherited e = (refl, refl)
before_pick loses line.Row e = (refl, refl)
before_pick loses line.Final e = (refl, refl)
before_pick loses line.Cancelled e = (refl, refl)
before_pick loses line.Request e = (refl, refl)
before_pick loses line.Overflow e = (refl, refl)
before_pick loses line.Head e = (refl, refl)
before_pick loses line.Response e = (refl, refl)
before_pick loses line.Pick e = absurd (cc)
before_pick loses line.Link e = absurd (cc)
before_pick true line.WireEnd e = absurd (cc)
before_pick false line.WireEnd e = absurd (cc)
before_pick loses line.Reset e = absurd (cc)
before_pick loses line.Shut e = absurd (cc)
before_pick loses line.Retire e = absurd (cc)
before_pick loses line.Begin e = absurd (cc)
before_pick loses line.Give e = absurd (cc)
before_pick loses line.Drop e = absurd (cc)
before_pick loses line.Add e = absurd (cc)

-- the attempt that an action ends
abbrev ends_row : Action → Option ℕ
ends_row (action.AttemptEnds row stamp) = Some row
ends_row _ = None

module _ (later : List (ℕ × RowEnd)) (waits : Line → Bool) (also : List ℕ) (a : Attempt) (out : Outcome) (x : StateSeen) (o : OpenEntry) (s : Seen) (is : EndNext later waits also a out x o s) where
  abbrev v : Seen
  v = u later waits also a out x o s is

  before : (m : Line) → nat_lt (rank (is_loss o.event) m) (rank (is_loss o.event) line.Pick) ≡ true → IsStill m o s
  before m e =
      let both = before_pick (is_loss o.event) m e in
      is.still m both.0 (early_by (waits m) (may_wait m) (is.late m) both.1)

  -- what the line gives is the end
  gives_end : (act : Action) → next_of_pick s ≡ Some act → ends_row act ≡ Some a.place
  gives_end act e =
      let two : Some act ≡ Some (action.AttemptEnds a.place (end_of a out s))
      = sym (first_line_gives line.Pick act o s is.current before e) ∙ is.next in
      let same : act ≡ action.AttemptEnds a.place (end_of a out s) = (cc) in
      ap ends_row same

  -- so it is of the attempt that ends
  of_pick : (ask : Ask) (q : Attempt) (answer : Pick) → ask.answer ≡ answer → last_of s.asks ≡ Some ask → numbered s.attempts ask.row ≡ Some q
      → (is_unfollowed q && (ask.entry == entry s)) ≡ true → can_follow s answer ≡ true → q.place ≡ a.place
  of_pick ask q (pick.Place sub) is_answer last there may can =
      placed_by (numbered s.subs sub) refl can
    where
      placed_by : (b : Option Subchannel) → numbered s.subs sub ≡ b → is_some b ≡ true → q.place ≡ a.place
      placed_by None sub_at can = absurd (cc)
      placed_by (Some b) sub_at can =
          let gives : next_of_pick s ≡ Some (action.AttemptPlaced q.place (placed_on ask s b))
          = ap (option_and_then (follow_ask s)) last
          ∙ ap (option_and_then (λ (r : Attempt). if is_unfollowed r && (ask.entry == entry s) then follow_pick ask s r ask.answer else None)) there
          ∙ ap (λ (c : Bool). if c then follow_pick ask s q ask.answer else None) may ∙ ap (follow_pick ask s q) is_answer
          ∙ ap (option_map (λ (g : Subchannel). action.AttemptPlaced q.place (placed_on ask s g))) sub_at in
          let row : None ≡ Some a.place = gives_end (action.AttemptPlaced q.place (placed_on ask s b)) gives in absurd (cc)
  of_pick ask q pick.Fail is_answer last there may can =
      let gives : next_of_pick s ≡ Some (action.AttemptEnds q.place (end_of q pick_end s))
      = ap (option_and_then (follow_ask s)) last
      ∙ ap (option_and_then (λ (r : Attempt). if is_unfollowed r && (ask.entry == entry s) then follow_pick ask s r ask.answer else None)) there
      ∙ ap (λ (c : Bool). if c then follow_pick ask s q ask.answer else None) may ∙ ap (follow_pick ask s q) is_answer in
      let row : Some q.place ≡ Some a.place = gives_end (action.AttemptEnds q.place (end_of q pick_end s)) gives in (cc)
  of_pick ask q pick.Wait is_answer last there may can = absurd (cc)

  none_by : (ask : Ask) (r : Option Attempt) (b : Bool) → last_of s.asks ≡ Some ask → numbered s.attempts ask.row ≡ r → is_to_follow_pick v ask ≡ b → b ≡ false
  none_by ask r false last there e = refl
  none_by ask None true last there e =
      let off : is_to_follow_pick v ask ≡ false
      = ap (λ (q : Option Attempt). (holds is_unfollowed q && (ask.entry == entry v)) && can_follow v ask.answer)
      (attempt_at later waits also a out x o s is ask.row ∙ ap (option_map (put later waits also a out x o s is)) there) in
      sym e ∙ off
  none_by ask (Some q) true last there e =
      let put_ : Attempt = put later waits also a out x o s is q in
      let whole : ((is_unfollowed put_ && (ask.entry == entry v)) && can_follow v ask.answer) ≡ true
      = sym (ap (λ (r : Option Attempt). (holds is_unfollowed r && (ask.entry == entry v)) && can_follow v ask.answer)
      (attempt_at later waits also a out x o s is ask.row ∙ ap (option_map (put later waits also a out x o s is)) there)) ∙ e in
      by_place (q.place == a.place) refl whole
    where
      by_place : (c : Bool) → (q.place == a.place) ≡ c
          → ((is_unfollowed (if c then with_end (end later waits also a out x o s is) q else q) && (ask.entry == entry v)) && can_follow v ask.answer) ≡ true → true ≡ false
      by_place true f whole =
          sym whole ∙ ap (λ (g : Bool). (g && (ask.entry == entry v)) && can_follow v ask.answer) (and_right (is_none q.row.placed) false refl)
      by_place false f whole =
          let both = and_parts (is_unfollowed q && (ask.entry == entry v)) (can_follow v ask.answer) whole in
          let may : (is_unfollowed q && (ask.entry == entry s)) ≡ true
          = ap (λ (m : ℕ). is_unfollowed q && (ask.entry == m)) (sym (entry_is later waits also a out x o s is)) ∙ both.0 in
          absurd (eqb-false q.place a.place f (of_pick ask q ask.answer refl last there may both.1))

  still_by : (r : Option Ask) → last_of s.asks ≡ r → holds (is_to_follow_pick v) r ≡ false
  still_by None e = refl
  still_by (Some ask) e = none_by ask (numbered s.attempts ask.row) (is_to_follow_pick v ask) e refl refl

  pub unpicked : (p : OpenEntry) → IsStill line.Pick p v
  unpicked p = still_by (last_of s.asks) refl
