-- An attempt ends, and its call by it: the end of the call is the next action, and then nothing follows at once from it.
use Rattle.std.proofs.Common.{◌≡◌, ◌&&◌, ◌==◌, ◌++◌, ◌∷◌, ap, refl, subst, sym, ◌∙◌, Bool, true, false, List, [], Some, ℕ, zero, suc, find, nat_lt, option_map, slice_get}
use Rattle.std.proofs.lemmas.Bool.{eqb-true}
use Rattle.attempt_ledger.specs.declared.row.RowEnd.{RowEnd}
use Rattle.call_actions.specs.Laws.{IsCounting}
use Rattle.channel_actions.proofs.Does.{none_on}
use Rattle.call_cases.proofs.OtherCalls.Rows.{number_at}
use Rattle.call_cases.specs.EndsFollow.Laws.{is_late}
use Rattle.channel_actions.specs.KeptSessions.Kept.{IsKept}
use Rattle.call_cases.specs.OtherCalls.Laws.{SetsApart}
use Rattle.call_cases.specs.OtherCalls.Others.{GoesApart}
use Rattle.end_cases.proofs.AttemptEnds.Agreeing.{early_by}
use Rattle.end_cases.proofs.AttemptEnds.Base.{books, c, news, x1}
use Rattle.end_cases.proofs.AttemptEnds.ClosedAgree as agree
use Rattle.end_cases.proofs.AttemptEnds.Closing as closing
use Rattle.end_cases.proofs.AttemptEnds.Closing.{Between, Follows, Continues, Made, Parts, Steps}
use Rattle.end_cases.proofs.AttemptEnds.Lists.{find_one, next_apart}
use Rattle.end_cases.proofs.AttemptEnds.Others.{cut_none, final_none, none_at, row_none}
use Rattle.end_cases.specs.AttemptEnds.Ahead.{AgreesAhead}
use Rattle.end_cases.specs.AttemptEnds.Ends.{EndNext, HasEnded, ended_in, is_of_ends, may_wait}
use Rattle.channel_core.specs.States.{StateSeen}
use Rattle.grpc_base.specs.declared.event.EndCause.TheVariants as ending_cause
use Rattle.session_actions.specs.Actions.{following}
use Rattle.session_actions.specs.Attempts.{is_over}
use Rattle.session_actions.specs.CallEnds.{ending_call, is_over_by_row}
use Rattle.session_actions.specs.Commitments.{is_final_end, is_final_in}
use Rattle.session_actions.specs.Events.{is_loss}
use Rattle.session_actions.specs.Words.{holds, numbered}
use Rattle.session_actions.specs.declared.action.Action.{Action}
use Rattle.session_actions.specs.declared.attempt.Attempt.{Attempt}
use Rattle.session_actions.specs.declared.call.Call.{Call}
use Rattle.session_actions.specs.declared.entry.OpenEntry.{OpenEntry}
use Rattle.session_actions.specs.declared.response.Outcome.{Outcome}
use Rattle.session_actions.specs.declared.seen.Seen.{Seen}
use Rattle.session_order.proofs.Quiescence.{first_line_gives}
use Rattle.session_order.proofs.Ended.{ended_leaves}
use Rattle.session_order.specs.Quiescent.{IsStill, is_to_cut}
use Rattle.session_order.specs.Lines.{rank}
use Rattle.session_order.specs.Stirs.{stirs}
use Rattle.session_order.specs.declared.line.Line.{Line}
use Rattle.session_order.specs.declared.line.Line.TheVariants as line

-- what comes before the end of a call by its attempt
pub before_row : (loses : Bool) (m : Line) → nat_lt (rank loses m) (rank loses line.Row) ≡ true → (X : Line → Type 0) → X line.Cut → X line.Transparent → X line.Inherited → X m
before_row loses line.Cut e X a b c = a
before_row loses line.Transparent e X a b c = b
before_row loses line.Inherited e X a b c = c
before_row loses line.Row e X a b c = absurd (cc)
before_row loses line.Final e X a b c = absurd (cc)
before_row loses line.Cancelled e X a b c = absurd (cc)
before_row loses line.Request e X a b c = absurd (cc)
before_row loses line.Overflow e X a b c = absurd (cc)
before_row loses line.Head e X a b c = absurd (cc)
before_row loses line.Response e X a b c = absurd (cc)
before_row loses line.Pick e X a b c = absurd (cc)
before_row loses line.Link e X a b c = absurd (cc)
before_row true line.WireEnd e X a b c = absurd (cc)
before_row false line.WireEnd e X a b c = absurd (cc)
before_row loses line.Reset e X a b c = absurd (cc)
before_row loses line.Shut e X a b c = absurd (cc)
before_row loses line.Retire e X a b c = absurd (cc)
before_row loses line.Begin e X a b c = absurd (cc)
before_row loses line.Give e X a b c = absurd (cc)
before_row loses line.Drop e X a b c = absurd (cc)
before_row loses line.Add e X a b c = absurd (cc)

module _ (later : List (ℕ × RowEnd)) (waits : Line → Bool) (also : List ℕ) (a : Attempt) (out : Outcome) (x : StateSeen) (o : OpenEntry) (s : Seen) (is : EndNext later waits also a out x o s)
    (counting : IsCounting s (c later waits also a out x o s is) out) (b : Between later waits also a out x o s is counting) (goes : Continues later waits also a out x o s is counting b) where
  abbrev call : Call
  call = c later waits also a out x o s is

  abbrev m : ℕ
  m = call.number

  abbrev mid : Seen
  mid = closing.mid later waits also a out x o s is counting b

  abbrev then_ : Seen
  then_ = closing.closed later waits also a out x o s is counting b

  abbrev its : Call
  its = closing.its later waits also a out x o s is counting b

  abbrev ended : Call
  ended = closing.ended later waits also a out x o s is counting b

  abbrev two : Action
  two = agree.two later waits also a out x o s is counting b goes

  abbrev p : OpenEntry
  p = closing.entry_then later waits also a out x o s is counting

  abbrev now_open : mid.current ≡ Some p
  now_open = closing.current_one later waits also a out x o s is counting

  was_still : (l : Line) → is_of_ends l ≡ false → may_wait l ≡ false → IsStill l o s
  was_still l ends may = is.still l ends (early_by (waits l) (may_wait l) (is.late l) may)

  abbrev kept : IsKept s
  kept = closing.kept later waits also a out x o s is counting

  abbrev kept_mid : IsKept mid
  kept_mid = agree.kept_mid later waits also a out x o s is counting b goes

  abbrev apart_mid : GoesApart m s mid
  apart_mid = agree.apart_mid later waits also a out x o s is counting b goes

  -- no attempt is to be cut off
  cut_by : (i : ℕ) (q : Attempt) (g : Bool) → slice_get mid.attempts i ≡ Some q → (q.row.call == m) ≡ g → is_to_cut mid q ≡ false
  cut_by i q true at own = ap (λ (g : Bool). g && is_over q mid) (goes.none_out i q at own)
  cut_by i q false at off = cut_none m (x1 later waits also a out x o s is) s mid apart_mid (books later waits also a out x o s is).calls kept kept_mid i q at off (was_still line.Cut refl refl)

  uncut_mid : IsStill line.Cut p mid
  uncut_mid = none_at (is_to_cut mid) mid.attempts (λ i q at. cut_by i q (q.row.call == m) at refl)

  -- the end of the call is next
  row_else : (i : ℕ) (g : Call) → slice_get mid.calls i ≡ Some g → (suc i == m) ≡ false → is_over_by_row mid g ≡ false
  row_else i g at off =
      row_none m (x1 later waits also a out x o s is) s mid apart_mid (books later waits also a out x o s is).calls kept kept_mid (suc i) g off at (was_still line.Row refl refl)

  found_by : (j : ℕ) → m ≡ j → numbered mid.calls j ≡ Some its → find (is_over_by_row mid) mid.calls ≡ Some its
  found_by zero same at = absurd (cc)
  found_by (suc i) same at =
      find_one (is_over_by_row mid) mid.calls i its at goes.over
      (λ j g there off. row_else j g there (ap (λ (q : ℕ). suc j == q) same ∙ next_apart j i off))

  pub next_two : following mid ≡ Some two
  next_two =
      first_line_gives line.Row two p mid now_open
      (λ l e. before_row (is_loss p.event) l e (λ (q : Line). IsStill q p mid) uncut_mid (goes.still line.Transparent refl refl) (goes.still line.Inherited refl refl))
      (ap (option_map (ending_call ending_cause.Row)) (found_by m refl goes.here))

  -- and after it
  leaves : (l : Line) → stirs two l ≡ false → IsStill l p mid → IsStill l p then_
  leaves l off h = ended_leaves m ending_cause.Row p mid now_open (λ i g at. number_at mid.calls i g kept_mid.book.calls at) l p now_open off h

  abbrev apart_two : GoesApart m s then_
  apart_two = agree.apart later waits also a out x o s is counting b goes next_two

  abbrev kept_two : IsKept then_
  kept_two = agree.kept_then later waits also a out x o s is counting b goes next_two

  cut_then : (i : ℕ) (q : Attempt) (g : Bool) → slice_get then_.attempts i ≡ Some q → (q.row.call == m) ≡ g → is_to_cut then_ q ≡ false
  cut_then i q true at own = ap (λ (g : Bool). g && is_over q then_) (goes.none_out i q at own)
  cut_then i q false at off = cut_none m (x1 later waits also a out x o s is) s then_ apart_two (books later waits also a out x o s is).calls kept kept_two i q at off (was_still line.Cut refl refl)

  uncut : IsStill line.Cut p then_
  uncut = none_at (is_to_cut then_) then_.attempts (λ i q at. cut_then i q (q.row.call == m) at refl)

  -- no call ends by its attempt, and no end is final
  row_by : (i : ℕ) (g : Call) (q : Bool) → slice_get then_.calls i ≡ Some g → (suc i == m) ≡ q → is_over_by_row then_ g ≡ false
  row_by i g true at own =
      let here_ : numbered then_.calls m ≡ Some g = ap (numbered then_.calls) (sym (eqb-true (suc i) m own)) ∙ at in
      let two_calls : Some g ≡ Some ended = sym here_ ∙ closing.closed_here later waits also a out x o s is counting b goes in
      let same : g ≡ ended = (cc) in
      ap (is_over_by_row then_) same
  row_by i g false at off =
      row_none m (x1 later waits also a out x o s is) s then_ apart_two (books later waits also a out x o s is).calls kept kept_two (suc i) g off at (was_still line.Row refl refl)

  unrowed : IsStill line.Row p then_
  unrowed = none_at (is_over_by_row then_) then_.calls (λ i g at. row_by i g (suc i == m) at refl)

  final_by : (i : ℕ) (q : Attempt) (g : Bool) → slice_get then_.attempts i ≡ Some q → (q.row.call == m) ≡ g → is_final_end then_ q ≡ false
  final_by i q true at own =
      ap (holds (λ (g : Call). is_final_in q then_ g)) (ap (numbered then_.calls) (eqb-true q.row.call m own) ∙ closing.closed_here later waits also a out x o s is counting b goes)
  final_by i q false at off =
      final_none m (x1 later waits also a out x o s is) s then_ apart_two (books later waits also a out x o s is).calls kept kept_two i q at off (was_still line.Final refl refl)

  unfinal : IsStill line.Final p then_
  unfinal = none_at (is_final_end then_) then_.attempts (λ i q at. final_by i q (q.row.call == m) at refl)

  still_then : (l : Line) → may_wait l ≡ false → IsStill l p then_
  still_then line.Cut may = uncut
  still_then line.Row may = unrowed
  still_then line.Final may = unfinal
  still_then line.Transparent may = leaves line.Transparent refl (goes.still line.Transparent refl refl)
  still_then line.Pick may = leaves line.Pick refl (goes.still line.Pick refl refl)
  still_then line.Inherited may = leaves line.Inherited refl (goes.still line.Inherited refl refl)
  still_then line.Cancelled may = leaves line.Cancelled refl (goes.still line.Cancelled refl refl)
  still_then line.Request may = leaves line.Request refl (goes.still line.Request refl refl)
  still_then line.Response may = leaves line.Response refl (goes.still line.Response refl refl)
  still_then line.Overflow may = leaves line.Overflow refl (goes.still line.Overflow refl refl)
  still_then line.Head may = leaves line.Head refl (goes.still line.Head refl refl)
  still_then line.Link may = leaves line.Link refl (goes.still line.Link refl refl)
  still_then line.WireEnd may = absurd (cc)
  still_then line.Reset may = absurd (cc)
  still_then line.Shut may = absurd (cc)
  still_then line.Retire may = absurd (cc)
  still_then line.Begin may = absurd (cc)
  still_then line.Give may = absurd (cc)
  still_then line.Drop may = absurd (cc)
  still_then line.Add may = absurd (cc)

  late_then : (l : Line) → is_late l ≡ true → waits l ≡ false → IsStill l p then_
  late_then line.Shut late off = leaves line.Shut refl (goes.late line.Shut refl off)
  late_then line.Retire late off = leaves line.Retire refl (goes.late line.Retire refl off)
  late_then line.Begin late off = leaves line.Begin refl (goes.late line.Begin refl off)
  late_then line.Give late off = leaves line.Give refl (goes.late line.Give refl off)
  late_then line.Drop late off = leaves line.Drop refl (goes.late line.Drop refl off)
  late_then line.Add late off = leaves line.Add refl (goes.late line.Add refl off)
  late_then line.Transparent late off = absurd (cc)
  late_then line.Row late off = absurd (cc)
  late_then line.Final late off = absurd (cc)
  late_then line.Pick late off = absurd (cc)
  late_then line.Cut late off = absurd (cc)
  late_then line.Inherited late off = absurd (cc)
  late_then line.Cancelled late off = absurd (cc)
  late_then line.Request late off = absurd (cc)
  late_then line.Response late off = absurd (cc)
  late_then line.Overflow late off = absurd (cc)
  late_then line.Head late off = absurd (cc)
  late_then line.Link late off = absurd (cc)
  late_then line.WireEnd late off = absurd (cc)
  late_then line.Reset late off = absurd (cc)

  pub others : SetsApart m s then_
  others = agree.others later waits also a out x o s is counting b goes next_two

  module _ (made : Made later waits also a out x o s is counting) (steps : Steps later waits also a out x o s is counting b made) (parts : Parts later waits also a out x o s is counting)
      (follows : Follows later waits also a out x o s is counting b made parts) where
    agrees_then : AgreesAhead later also (ended_in a (news later waits also a out x o s is) x) then_
    agrees_then =
        subst (λ (q : StateSeen). AgreesAhead later also q then_) (sym (agree.ended_is later waits also a out x o s is counting b goes next_two made steps parts follows))
        (record {
          books = agree.books_then later waits also a out x o s is counting b goes next_two made steps parts follows;
          links = agree.links_then later waits also a out x o s is counting b goes next_two made steps parts follows;
          unreset = goes.unreset;
        })

    pub has_ended : HasEnded later waits also a out x o s
    has_ended = record {
      actions = b.actions ++ two ∷ [];
      seen = then_;
      entry = p;
      does = agree.does later waits also a out x o s is counting b goes next_two;
      posts = none_on b.actions (two ∷ []) goes.posts refl;
      same = record { moment = refl; word = refl; event = refl; entries = refl; setup = refl };
      stage = refl;
      reply = refl;
      turn = refl;
      current = now_open;
      still = still_then;
      late = late_then;
      wire = λ h. leaves line.WireEnd refl (goes.wire h);
      fewer = goes.fewer;
      agrees = agrees_then;
    }
