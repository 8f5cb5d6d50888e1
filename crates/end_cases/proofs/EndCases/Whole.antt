-- The cases of the end of an attempt are all: a transparent retry follows, or the call is committed, or it goes on, or this was its last attempt.
use Rattle.std.proofs.Common.{◌≡◌, ◌&&◌, ◌==◌, not, ap, refl, sym, ◌∙◌, Bool, true, false, List, [], ◌∷◌, Option, None, Some, ℕ, zero, suc, cond, is_some, map, option_map, slice_get}
use Rattle.std.specs.List.{list_any}
use Rattle.std.specs.Prelude.{filter}
use Rattle.attempt_ledger.specs.declared.ledger.CallEnd.{CallEnd}
use Rattle.attempt_ledger.specs.declared.row.RowEnd.{RowEnd}
use Rattle.call_actions.specs.Laws.{IsCounting}
use Rattle.call_actions.specs.Sees.{is_live, live_row}
use Rattle.end_cases.proofs.AttemptEnds.Base.{c, sees, slot}
use Rattle.end_cases.proofs.AttemptEnds.Closed.{committed_ends_close}
use Rattle.end_cases.proofs.EndCases.Hedged.{going_on, several}
use Rattle.end_cases.proofs.AttemptEnds.Last.{lone_last_ends_close}
use Rattle.end_cases.proofs.EndRetries.Whole.{retries_follow_ends}
use Rattle.end_cases.proofs.AttemptEnds.Whole.{calls_go_on_after_ends}
use Rattle.end_cases.specs.AttemptEnds.Ends.{EndNext, HasEnded}
use Rattle.end_cases.specs.AttemptEnds.Laws.{CallsGoOnAfterEnds, CommittedEndsClose, EndsByCases, EndsByCuts, IsLastEnd, LastEndsClose, LastEndsCutOff, RetriesFollowEnds, goes_on_after}
use Rattle.channel_core.specs.States.{StateSeen}
use Rattle.channel_core.specs.declared.state.slots.CallSlot.{CallSlot}
use Rattle.session_actions.specs.Attempts.{commitment, is_to_follow}
use Rattle.session_actions.specs.Configs.{plan_of}
use Rattle.session_actions.specs.Words.{numbered}
use Rattle.session_actions.specs.declared.attempt.Attempt.{Attempt}
use Rattle.session_actions.specs.declared.call.Call.{Call}
use Rattle.session_actions.specs.declared.entry.OpenEntry.{OpenEntry}
use Rattle.session_actions.specs.declared.response.Outcome.{Outcome}
use Rattle.session_actions.specs.declared.seen.Seen.{Seen}
use Rattle.session_order.specs.declared.line.Line.{Line}

-- an attempt that goes on is among those that do
kept_in : (q : Bool) (a : Attempt) (ys : List Attempt) → q ≡ true → map live_row (cond q (a ∷ ys) ys) ≡ [] → ⊥
kept_in true a ys e none = (cc)
kept_in false a ys e none = (cc)

rest_none : (q : Bool) (a : Attempt) (ys : List Attempt) → map live_row (cond q (a ∷ ys) ys) ≡ [] → map live_row ys ≡ []
rest_none true a ys none = absurd (let bad : live_row a ∷ map live_row ys ≡ [] = none in (cc))
rest_none false a ys none = none

none_live : (p : Attempt → Bool) (xs : List Attempt) (i : ℕ) (a : Attempt) → slice_get xs i ≡ Some a → p a ≡ true → map live_row (filter p xs) ≡ [] → ⊥
none_live p [] i a at e none = (let bad : None ≡ Some a = at in (cc))
none_live p (x ∷ xs) zero a at e none =
    let same : x ≡ a = (cc) in kept_in (p x) x (filter p xs) (ap p same ∙ e) none
none_live p (x ∷ xs) (suc i) a at e none = none_live p xs i a at e (rest_none (p x) x (filter p xs) none)

none_at : (p : Attempt → Bool) (xs : List Attempt) (n : ℕ) (a : Attempt) → numbered xs n ≡ Some a → p a ≡ true → map live_row (filter p xs) ≡ [] → ⊥
none_at p xs zero a at e none = (let bad : None ≡ Some a = at in (cc))
none_at p xs (suc i) a at e none = none_live p xs i a at e none

module _ (goes : CallsGoOnAfterEnds) (retried : RetriesFollowEnds) (last : LastEndsClose) (closes : CommittedEndsClose)
    (later : List (ℕ × RowEnd)) (waits : Line → Bool) (also : List ℕ) (a : Attempt) (out : Outcome) (x : StateSeen) (o : OpenEntry) (s : Seen) (is : EndNext later waits also a out x o s) where
  abbrev k : Call
  k = c later waits also a out x o s is

  abbrev held : CallSlot
  held = slot later waits also a out x o s is

  abbrev Ended : Type 0
  Ended = HasEnded later waits also a out x o s

  -- a call that ended has no attempt that goes on
  ended_so : (e : Option CallEnd) → k.end ≡ e → k.end ≡ None
  ended_so None eq = eq
  ended_so (Some e) eq =
      let over : is_some held.call.ended ≡ true
      = sym (ap (λ o. is_some o) (sees later waits also a out x o s is).ended) ∙ ap (λ o. is_some (option_map (λ (w : CallEnd). w.cause) o)) eq in
      absurd (none_at (is_live s k) s.attempts a.place a is.ending.there is.ending.lives ((sees later waits also a out x o s is).live ∙ ((going_on later waits also a out x o s is).kept.ended over).live))

  going : k.end ≡ None
  going = ended_so k.end refl

  module _ (counting : IsCounting s k out) where
    goes_or : commitment k s ≡ None → (q : Bool) → goes_on_after (plan_of k s) s k a out ≡ q → Ended
    goes_or free true e = goes later waits also a out x o s is (record { counting = counting; free = free; goes = e })
    goes_or free false e = last later waits also a out x o s is (record { counting = counting; free = free; last = e })

    by_commitment : (w : Option Attempt) → commitment k s ≡ w → Ended
    by_commitment None e = goes_or e (goes_on_after (plan_of k s) s k a out) refl
    by_commitment (Some w) e =
        closes later waits also a out x o s is (record { counting = counting; committed = ap (λ (v : Option Attempt). is_some v) e })

  by_follow : (q : Bool) → is_to_follow k out.cause out.unseen s ≡ q → Ended
  by_follow true e = retried later waits also a out x o s is (record { going = going; follows = e })
  by_follow false e = by_commitment (record { goes_on = going; alone = e }) (commitment k s) refl

  has_ended : Ended
  has_ended = by_follow (is_to_follow k out.cause out.unseen s) refl

pub ends_by_cases : EndsByCases
ends_by_cases goes retried last closes later waits also a out x o s is case = has_ended goes retried last closes later waits also a out x o s is

-- a last end, by whether others go on
module _ (cuts : LastEndsCutOff) where
  last_by : (later : List (ℕ × RowEnd)) (waits : Line → Bool) (also : List ℕ) (a : Attempt) (out : Outcome) (x : StateSeen) (o : OpenEntry) (s : Seen) (is : EndNext later waits also a out x o s)
      → IsLastEnd s is.call a out → (q : Bool) → list_any (λ (w : Attempt). is_live s is.call w && not (w.place == a.place)) s.attempts ≡ q → HasEnded later waits also a out x o s
  last_by later waits also a out x o s is last true e = cuts later waits also a out x o s is (several later waits also a out x o s is last e)
  last_by later waits also a out x o s is last false e = lone_last_ends_close later waits also a out x o s is (record { last = last; alone = e })

  last_closes : LastEndsClose
  last_closes later waits also a out x o s is last =
      last_by later waits also a out x o s is last (list_any (λ (w : Attempt). is_live s is.call w && not (w.place == a.place)) s.attempts) refl

pub ends_by_cuts : EndsByCuts
ends_by_cuts cuts = ends_by_cases calls_go_on_after_ends retries_follow_ends (last_closes cuts) committed_ends_close
