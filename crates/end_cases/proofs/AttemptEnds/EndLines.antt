-- An attempt has ended, by an end that counts: which lines give nothing then, but those by which its call ends.
use Rattle.std.proofs.Common.{◌≡◌, ◌&&◌, ◌==◌, ap, refl, sym, ◌∙◌, Bool, true, false, List, Some, ℕ, slice_get, suc}
use Rattle.attempt_ledger.specs.declared.row.RowEnd.{RowEnd}
use Rattle.call_actions.proofs.Lists.{numbered_not}
use Rattle.call_actions.specs.CallsInTurn.Turns.{waits as waits_to_follow}
use Rattle.call_actions.specs.Laws.{IsCounting}
use Rattle.call_cases.specs.EndsFollow.Laws.{is_late}
use Rattle.channel_actions.specs.KeptSessions.Kept.{IsKept}
use Rattle.call_cases.specs.OtherCalls.Others.{GoesApart}
use Rattle.end_cases.proofs.AttemptEnds.Base.{books, c, x1}
use Rattle.end_cases.proofs.AttemptEnds.Closing as closing
use Rattle.end_cases.proofs.AttemptEnds.Closing.{is_of_closing}
use Rattle.end_cases.proofs.AttemptEnds.OneEnded as first
use Rattle.end_cases.proofs.AttemptEnds.Others.{none_at, wants_none}
use Rattle.end_cases.proofs.AttemptEnds.Picks.{unpicked}
use Rattle.end_cases.specs.AttemptEnds.Ends.{EndNext, is_of_ends, may_wait}
use Rattle.channel_core.specs.States.{StateSeen}
use Rattle.session_actions.specs.Attempts.{wants_follower}
use Rattle.session_actions.specs.declared.action.Action.{Action}
use Rattle.session_actions.specs.declared.attempt.Attempt.{Attempt}
use Rattle.session_actions.specs.declared.call.Call.{Call}
use Rattle.session_actions.specs.declared.entry.OpenEntry.{OpenEntry}
use Rattle.session_actions.specs.declared.response.Outcome.{Outcome}
use Rattle.session_actions.specs.declared.seen.Seen.{Seen}
use Rattle.session_order.specs.Quiescent.{IsStill}
use Rattle.session_order.specs.Stirs.{stirs}
use Rattle.session_order.specs.declared.line.Line.{Line}
use Rattle.session_order.specs.declared.line.Line.TheVariants as line

module _ (later : List (ℕ × RowEnd)) (waits : Line → Bool) (also : List ℕ) (a : Attempt) (out : Outcome) (x : StateSeen) (o : OpenEntry) (s : Seen) (is : EndNext later waits also a out x o s)
    (counting : IsCounting s (c later waits also a out x o s is) out) where
  abbrev call : Call
  call = c later waits also a out x o s is

  abbrev m : ℕ
  m = call.number

  abbrev v : Seen
  v = closing.v later waits also a out x o s is counting

  abbrev act : Action
  act = closing.act later waits also a out x o s is counting

  abbrev p : OpenEntry
  p = closing.entry_then later waits also a out x o s is counting

  abbrev kept : IsKept s
  kept = closing.kept later waits also a out x o s is counting

  abbrev kept_one : IsKept v
  kept_one = closing.kept_one later waits also a out x o s is counting

  abbrev pub was_still : (l : Line) → is_of_ends l ≡ false → may_wait l ≡ false → IsStill l o s
  was_still l ends may = first.was_still later waits also a out x o s is l ends may

  plain : (l : Line) → stirs act l ≡ false → IsStill l o s → IsStill l p v
  plain l off h = first.plain later waits also a out x o s is l off h

  abbrev pub apart_one : GoesApart m s v
  apart_one = first.apart_one later waits also a out x o s is

  -- no attempt waits for its follower
  mine_wants : (i : ℕ) (q : Attempt) → slice_get v.attempts i ≡ Some q → (q.row.call == m) ≡ true → wants_follower q v ≡ false
  mine_wants i q at own =
      ap (λ (b : Bool). b && wants_follower q v) (sym own)
      ∙ numbered_not (waits_to_follow v (closing.dk later waits also a out x o s is counting)) v.attempts (suc i) q (closing.quiescent_one later waits also a out x o s is counting) at

  wants_by : (i : ℕ) (q : Attempt) (b : Bool) → slice_get v.attempts i ≡ Some q → (q.row.call == m) ≡ b → wants_follower q v ≡ false
  wants_by i q true at own = mine_wants i q at own
  wants_by i q false at off =
      wants_none m (x1 later waits also a out x o s is) s v apart_one (books later waits also a out x o s is).calls kept kept_one i q at off (was_still line.Transparent refl refl)

  unfollowed : IsStill line.Transparent p v
  unfollowed = none_at (λ (q : Attempt). wants_follower q v) v.attempts (λ i q at. wants_by i q (q.row.call == m) at refl)

  gone_on : (l : Line) → stirs act l ≡ false → is_of_ends l ≡ false → may_wait l ≡ false → IsStill l p v
  gone_on l off ends may = plain l off (was_still l ends may)

  pub still_after : (l : Line) → is_of_closing l ≡ false → may_wait l ≡ false → IsStill l p v
  still_after line.Transparent off may = unfollowed
  still_after line.Pick off may = unpicked later waits also a out x o s is p
  still_after line.Inherited off may = gone_on line.Inherited refl refl refl
  still_after line.Cancelled off may = gone_on line.Cancelled refl refl refl
  still_after line.Request off may = gone_on line.Request refl refl refl
  still_after line.Response off may = gone_on line.Response refl refl refl
  still_after line.Overflow off may = gone_on line.Overflow refl refl refl
  still_after line.Head off may = gone_on line.Head refl refl refl
  still_after line.Link off may = gone_on line.Link refl refl refl
  still_after line.Cut off may = absurd (cc)
  still_after line.Row off may = absurd (cc)
  still_after line.Final off may = absurd (cc)
  still_after line.WireEnd off may = absurd (cc)
  still_after line.Reset off may = absurd (cc)
  still_after line.Shut off may = absurd (cc)
  still_after line.Retire off may = absurd (cc)
  still_after line.Begin off may = absurd (cc)
  still_after line.Give off may = absurd (cc)
  still_after line.Drop off may = absurd (cc)
  still_after line.Add off may = absurd (cc)

  pub uncut : IsStill line.Cut p v
  uncut = gone_on line.Cut refl refl refl

  pub late_after : (l : Line) → is_late l ≡ true → waits l ≡ false → IsStill l p v
  late_after line.Shut late off = plain line.Shut refl (is.still line.Shut refl off)
  late_after line.Retire late off = plain line.Retire refl (is.still line.Retire refl off)
  late_after line.Begin late off = plain line.Begin refl (is.still line.Begin refl off)
  late_after line.Give late off = plain line.Give refl (is.still line.Give refl off)
  late_after line.Drop late off = plain line.Drop refl (is.still line.Drop refl off)
  late_after line.Add late off = plain line.Add refl (is.still line.Add refl off)
  late_after line.Transparent late off = absurd (cc)
  late_after line.Row late off = absurd (cc)
  late_after line.Final late off = absurd (cc)
  late_after line.Pick late off = absurd (cc)
  late_after line.Cut late off = absurd (cc)
  late_after line.Inherited late off = absurd (cc)
  late_after line.Cancelled late off = absurd (cc)
  late_after line.Request late off = absurd (cc)
  late_after line.Response late off = absurd (cc)
  late_after line.Overflow late off = absurd (cc)
  late_after line.Head late off = absurd (cc)
  late_after line.Link late off = absurd (cc)
  late_after line.WireEnd late off = absurd (cc)
  late_after line.Reset late off = absurd (cc)
