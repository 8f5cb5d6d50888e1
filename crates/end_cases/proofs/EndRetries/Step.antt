-- What the channel does where a transparent retry follows the end of an attempt: the call makes it at once.
use Rattle.std.proofs.Common.{◌≡◌, ◌&&◌, ◌||◌, ◌+◌, ◌∷◌, not, ap, refl, sym, ◌∙◌, Bool, true, List, [], Option, None, Some, ℕ, if◌then◌else◌, is_none, is_some, length, option_map}
use Rattle.attempt_ledger.specs.declared.row.Row.{Row}
use Rattle.attempt_ledger.specs.declared.row.RowEnd.{RowEnd}
use Rattle.call_actions.proofs.Judging.{follow_is}
use Rattle.call_actions.proofs.Places.{found_live}
use Rattle.call_actions.specs.Sees.{Sees, is_live, live_row}
use Rattle.call_core.specs.Parts as parts
use Rattle.call_core.specs.Parts.{find_live}
use Rattle.call_core.specs.Steps.{Stepped, counted, ended_at, ended_if_live, followed, left_live, settled}
use Rattle.call_core.specs.declared.act.CallAct.TheVariants as act_of
use Rattle.call_core.specs.declared.live.LiveRow.{LiveRow}
use Rattle.end_cases.proofs.AttemptEnds.After.{attempts_are, put, u}
use Rattle.end_cases.proofs.AttemptEnds.Base.{books, c, has, news, r, sees, step_is, x2}
use Rattle.end_cases.specs.AttemptEnds.Ends.{EndNext}
use Rattle.channel_core.proofs.Resting.{changed_length}
use Rattle.channel_core.specs.States.{StateSeen}
use Rattle.session_actions.specs.Attempts.{commitment, is_to_follow, was_retried_so}
use Rattle.session_actions.specs.Entries.{next_word, now}
use Rattle.session_actions.specs.declared.attempt.Attempt.{Attempt}
use Rattle.session_actions.specs.declared.call.Call.{Call}
use Rattle.session_actions.specs.declared.entry.OpenEntry.{OpenEntry}
use Rattle.session_actions.specs.declared.response.Outcome.{Outcome}
use Rattle.session_actions.specs.declared.seen.Seen.{Seen}
use Rattle.session_order.specs.declared.line.Line.{Line}
use Rattle.std.proofs.lemmas.List.{length-map}

free_is : (o : Option Attempt) → is_none o ≡ not (is_some (option_map (λ (q : Attempt). q.place) o))
free_is None = refl
free_is (Some q) = refl

module _ (later : List (ℕ × RowEnd)) (waits : Line → Bool) (also : List ℕ) (a : Attempt) (out : Outcome) (x : StateSeen) (o : OpenEntry) (s : Seen) (is : EndNext later waits also a out x o s)
    (follows : is_to_follow (c later waits also a out x o s is) out.cause out.unseen s ≡ true) where
  abbrev k : Call
  k = c later waits also a out x o s is

  abbrev lent : Stepped
  lent = x2 later waits also a out x o s is

  abbrev seen : Sees s k lent
  seen = sees later waits also a out x o s is

  found : find_live a.place lent.call.live ≡ Some (live_row a)
  found = ap (find_live a.place) (sym seen.live) ∙ found_live (is_live s k) a.place a is.ending.lives s.attempts (has later waits also a out x o s is).sees.order.places is.ending.there

  followed_there : parts.is_followed lent.call.attempts out.cause out.unseen ≡ true
  followed_there =
      ap (λ (b : Bool). parts.is_unsent out.cause || (parts.is_refusal out.cause && out.unseen && not (is_some lent.call.attempts.committed) && not b)) (sym seen.attempts.refused)
      ∙ ap (λ (z : Option ℕ). parts.is_unsent out.cause || (parts.is_refusal out.cause && out.unseen && not (is_some z) && not (was_retried_so k s))) (sym seen.attempts.committed)
      ∙ ap (λ (b : Bool). parts.is_unsent out.cause || (parts.is_refusal out.cause && out.unseen && b && not (was_retried_so k s))) (sym (free_is (commitment k s)))
      ∙ sym (follow_is out.cause out.unseen (is_none (commitment k s)) (was_retried_so k s)) ∙ follows

  abbrev pub aft : Stepped
  aft = followed (live_row a) (news later waits also a out x o s is) (now s) (left_live a.place lent)

  pub step_form : ended_at a.place (news later waits also a out x o s is) (now s) (next_word s) lent ≡ aft
  step_form =
      ap (λ (q : Option LiveRow). ended_if_live q (news later waits also a out x o s is) (now s) (next_word s) lent) found
      ∙ ap (λ (b : Bool). if b then followed (live_row a) (news later waits also a out x o s is) (now s) (left_live a.place lent)
      else counted (live_row a) (news later waits also a out x o s is) (now s) (next_word s) (settled (news later waits also a out x o s is) (left_live a.place lent))) followed_there

  pub r_is : r later waits also a out x o s is ≡ aft
  r_is = sym (step_is later waits also a out x o s is) ∙ step_form

  -- the row of the retry
  rows_long : length x.book.ledger.rows ≡ length (u later waits also a out x o s is).attempts
  rows_long =
      ap (λ (l : List Row). length l) (sym (books later waits also a out x o s is).columns.rows) ∙ length-map s.attempts (λ (q : Attempt). q.row)
      ∙ sym (length-map s.attempts (put later waits also a out x o s is)) ∙ ap (λ (l : List Attempt). length l) (sym (attempts_are later waits also a out x o s is))

  pub acts_are : aft.acts ≡ act_of.Queue (length (u later waits also a out x o s is).attempts + 1) ∷ []
  acts_are = ap (λ (m : ℕ). act_of.Queue (m + 1) ∷ []) (changed_length _ x.book.ledger.rows a.place ∙ rows_long)

  pub rows_before : length x.book.ledger.rows ≡ length (u later waits also a out x o s is).attempts
  rows_before = rows_long
