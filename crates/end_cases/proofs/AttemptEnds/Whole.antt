-- An attempt ends, and its call goes on: put together.
use Rattle.std.proofs.Common.{◌≡◌, ◌==◌, ◌&&◌, not, refl, subst, sym, ◌∙◌, Bool, true, false, List, [], ℕ}
use Rattle.attempt_ledger.specs.declared.row.RowEnd.{RowEnd}
use Rattle.call_actions.proofs.CallsApart.Moves.{all_changed}
use Rattle.call_cases.specs.EndsFollow.Cuts.{NoStreamIsToReset, is_unreset}
use Rattle.call_cases.specs.EndsFollow.Laws.{is_late}
use Rattle.channel_actions.specs.Sets.{is_in_outstanding}
use Rattle.end_cases.proofs.AttemptEnds.After.{end, in_out}
use Rattle.end_cases.proofs.AttemptEnds.Agreeing.{books_then, current_then, does, ended_is, entry_then, kept_then, links_then, sets_now, y1}
use Rattle.end_cases.proofs.AttemptEnds.Base.{c, e, news}
use Rattle.end_cases.proofs.AttemptEnds.Finals.{unfinal}
use Rattle.end_cases.proofs.AttemptEnds.GoesOn.{then_}
use Rattle.end_cases.proofs.AttemptEnds.Lines.{plain, unended, unfollowed, was_still}
use Rattle.end_cases.proofs.AttemptEnds.Noted.{noted_then}
use Rattle.end_cases.proofs.AttemptEnds.Picks.{unpicked}
use Rattle.end_cases.specs.AttemptEnds.Ahead.{AgreesAhead}
use Rattle.end_cases.specs.AttemptEnds.Ends.{EndNext, HasEnded, ended_in, may_wait}
use Rattle.end_cases.specs.AttemptEnds.Laws.{CallsGoOnAfterEnds, GoesOnAfter}
use Rattle.channel_core.specs.States.{StateSeen}
use Rattle.session_actions.specs.AttemptEnds.{with_end}
use Rattle.session_actions.specs.declared.attempt.Attempt.{Attempt}
use Rattle.session_actions.specs.declared.entry.OpenEntry.{OpenEntry}
use Rattle.session_actions.specs.declared.response.Outcome.{Outcome}
use Rattle.session_actions.specs.declared.seen.Seen.{Seen}
use Rattle.session_order.specs.Quiescent.{IsStill}
use Rattle.session_order.specs.declared.line.Line.{Line}
use Rattle.session_order.specs.declared.line.Line.TheVariants as line

fewer_by : (p q : Bool) → (p && q) ≡ true → p ≡ true
fewer_by true q e = refl
fewer_by false q e = absurd (cc)

module _ (later : List (ℕ × RowEnd)) (waits : Line → Bool) (also : List ℕ) (a : Attempt) (out : Outcome) (x : StateSeen) (o : OpenEntry) (s : Seen) (is : EndNext later waits also a out x o s)
    (case : GoesOnAfter s (c later waits also a out x o s is) a out) where
  abbrev v : Seen
  v = then_ later waits also a out x o s is case

  abbrev p : OpenEntry
  p = entry_then later waits also a out x o s is case

  still_then : (l : Line) → may_wait l ≡ false → IsStill l p v
  still_then line.Transparent may = unfollowed later waits also a out x o s is case
  still_then line.Row may = unended later waits also a out x o s is case
  still_then line.Final may = unfinal later waits also a out x o s is case
  still_then line.Pick may = unpicked later waits also a out x o s is p
  still_then line.Cut may = plain later waits also a out x o s is case line.Cut refl (was_still later waits also a out x o s is case line.Cut refl refl)
  still_then line.Inherited may = plain later waits also a out x o s is case line.Inherited refl (was_still later waits also a out x o s is case line.Inherited refl refl)
  still_then line.Cancelled may = plain later waits also a out x o s is case line.Cancelled refl (was_still later waits also a out x o s is case line.Cancelled refl refl)
  still_then line.Request may = plain later waits also a out x o s is case line.Request refl (was_still later waits also a out x o s is case line.Request refl refl)
  still_then line.Response may = plain later waits also a out x o s is case line.Response refl (was_still later waits also a out x o s is case line.Response refl refl)
  still_then line.Overflow may = plain later waits also a out x o s is case line.Overflow refl (was_still later waits also a out x o s is case line.Overflow refl refl)
  still_then line.Head may = plain later waits also a out x o s is case line.Head refl (was_still later waits also a out x o s is case line.Head refl refl)
  still_then line.Link may = plain later waits also a out x o s is case line.Link refl (was_still later waits also a out x o s is case line.Link refl refl)
  still_then line.WireEnd may = absurd (cc)
  still_then line.Reset may = absurd (cc)
  still_then line.Shut may = absurd (cc)
  still_then line.Retire may = absurd (cc)
  still_then line.Begin may = absurd (cc)
  still_then line.Give may = absurd (cc)
  still_then line.Drop may = absurd (cc)
  still_then line.Add may = absurd (cc)

  late_then : (l : Line) → is_late l ≡ true → waits l ≡ false → IsStill l p v
  late_then line.Shut late off = plain later waits also a out x o s is case line.Shut refl (is.still line.Shut refl off)
  late_then line.Retire late off = plain later waits also a out x o s is case line.Retire refl (is.still line.Retire refl off)
  late_then line.Begin late off = plain later waits also a out x o s is case line.Begin refl (is.still line.Begin refl off)
  late_then line.Give late off = plain later waits also a out x o s is case line.Give refl (is.still line.Give refl off)
  late_then line.Drop late off = plain later waits also a out x o s is case line.Drop refl (is.still line.Drop refl off)
  late_then line.Add late off = plain later waits also a out x o s is case line.Add refl (is.still line.Add refl off)
  late_then line.Transparent late off = absurd (cc)
  late_then line.Row late off = absurd (cc)
  late_then line.Final late off = absurd (cc)
  late_then line.Pick late off = absurd (cc)
  late_then line.Cut late off = absurd (cc)
  late_then line.Inherited late off = absurd (cc)
  late_then line.Cancelled late off = absurd (cc)
  late_then line.Request late off = absurd (cc)
  late_then line.Response late off = absurd (cc)
  late_then line.Overflow late off = absurd (cc)
  late_then line.Head late off = absurd (cc)
  late_then line.Link late off = absurd (cc)
  late_then line.WireEnd late off = absurd (cc)
  late_then line.Reset late off = absurd (cc)

  unreset_then : NoStreamIsToReset v
  unreset_then = all_changed is_unreset (with_end (end later waits also a out x o s is)) (λ b e. refl) a.place s.attempts is.unreset

  agrees_then : AgreesAhead later also (ended_in a (news later waits also a out x o s is) x) v
  agrees_then =
      subst (λ (y : StateSeen). AgreesAhead later also y v) (sym (ended_is later waits also a out x o s is case))
      (record {
        books = books_then later waits also a out x o s is case
            (noted_then later waits also a out x o s is (y1 later waits also a out x o s is case) refl refl refl refl
            (sets_now later waits also a out x o s is case).outstanding (kept_then later waits also a out x o s is case));
        links = links_then later waits also a out x o s is case;
        unreset = unreset_then;
      })

  has_ended : HasEnded later waits also a out x o s
  has_ended = record {
    actions = [];
    seen = v;
    entry = p;
    does = does later waits also a out x o s is case;
    posts = refl;
    same = record { moment = refl; word = refl; event = refl; entries = refl; setup = refl };
    stage = refl;
    reply = refl;
    turn = refl;
    current = current_then later waits also a out x o s is case;
    still = still_then;
    late = late_then;
    wire = λ h. plain later waits also a out x o s is case line.WireEnd refl h;
    fewer = λ link row e. fewer_by (is_in_outstanding s link row) (not (row == a.place)) (sym (in_out later waits also a out x o s is link row) ∙ e);
    agrees = agrees_then;
  }

pub calls_go_on_after_ends : CallsGoOnAfterEnds
calls_go_on_after_ends later waits also a out x o s is case = has_ended later waits also a out x o s is case
