-- A call that accepted a message which is too long ends, where nothing else follows at once.
use Rattle.std.proofs.Common.{◌≡◌, ◌||◌, ◌++◌, ◌==◌, ◌∷◌, ap, eqb-true, refl, subst, sym, ◌∙◌, Bool, true, false, List, [], None, Some, ℕ, nat_lt}
use Rattle.std.proofs.lemmas.Bool.{both_ways}
use Rattle.std.specs.List.{list_any}
use Rattle.std.specs.Option.{option_map}
use Rattle.std.specs.Prelude.{find}
use Rattle.call_actions.proofs.Lists.{changed_twice}
use Rattle.channel_actions.proofs.Stamps.{counted_at}
use Rattle.channel_actions.specs.Agrees.{Agrees}
use Rattle.call_cases.specs.EndsFollow.Cuts.{NoStreamIsToReset}
use Rattle.call_cases.proofs.LongSends.Found.{found}
use Rattle.call_cases.proofs.OneCallEnds.Whole.{one_call_ends}
use Rattle.call_cases.specs.CallEnds.Ends.{EndsNext, HasEnded}
use Rattle.channel_core.specs.States.{StateSeen}
use Rattle.grpc_base.specs.declared.event.EndCause.TheVariants as ending
use Rattle.session_actions.specs.Actions.{following}
use Rattle.session_actions.specs.CallEnds.{call_ended, has_long_request}
use Rattle.session_actions.specs.Entries.{entry, now}
use Rattle.session_actions.specs.Events.{is_loss}
use Rattle.session_actions.specs.Words.{numbered}
use Rattle.session_actions.specs.declared.action.Action.TheVariants as action
use Rattle.session_actions.specs.declared.call.Call.{Call}
use Rattle.session_actions.specs.declared.call.MarkKind.TheVariants as mark
use Rattle.session_actions.specs.declared.entry.OpenEntry.{OpenEntry}
use Rattle.session_actions.specs.declared.seen.Seen.{Seen}
use Rattle.session_order.proofs.Aside.{long_as}
use Rattle.session_order.proofs.Quiescence.{first_line_gives}
use Rattle.session_order.proofs.Changed.{none_each_changed}
use Rattle.session_order.proofs.Ended.{ended_leaves}
use Rattle.session_order.specs.Quiescent.{IsStill}
use Rattle.session_order.specs.Lines.{is_before, is_line, rank}
use Rattle.session_order.specs.declared.line.Line.{Line}
use Rattle.session_order.specs.declared.line.Line.TheVariants as line

or_none : (b : Bool) → b ≡ false → (b || false) ≡ false
or_none b e = ap (λ (z : Bool). z || false) e

module _ (o : OpenEntry) (t : Seen) (n : ℕ) (c : Call) (mid : StateSeen) (h : Agrees mid t) (current : t.current ≡ Some o) (own : numbered t.calls n ≡ Some c) (goes : c.end ≡ None)
    (reason : has_long_request o t c ≡ true) (others : (k : ℕ) (d : Call) → (k == n) ≡ false → numbered t.calls k ≡ Some d → has_long_request o t d ≡ false)
    (still : (l : Line) → is_line l line.Request ≡ false → IsStill l o t) (unreset : NoStreamIsToReset t) where
  abbrev after : Seen
  after = call_ended n ending.Request t

  numbers : (k : ℕ) (d : Call) → numbered t.calls k ≡ Some d → d.number ≡ k
  numbers k d there = counted_at (λ (e : Call). e.number) t.calls k d h.kept.calls there

  only_by : (k : ℕ) (d : Call) (b : Bool) → (k == n) ≡ b → numbered t.calls k ≡ Some d → has_long_request o t d ≡ true → d.number ≡ n
  only_by k d true e there passes = numbers k d there ∙ eqb-true k n e
  only_by k d false e there passes = absurd (both_ways (has_long_request o t d) (others k d e there) passes)

  first : option_map (λ (d : Call). action.CallEnds d.number ending.Request) (find (has_long_request o t) t.calls) ≡ Some (action.CallEnds n ending.Request)
  first = found ending.Request n (has_long_request o t) n t.calls c own reason (λ k d there passes. only_by k d (k == n) refl there passes)

  earlier : (l : Line) → is_before o.event l line.Request ≡ true → IsStill l o t
  earlier line.Request e = absurd (self_before (is_loss o.event) e)
    where
      self_before : (b : Bool) → nat_lt (rank b line.Request) (rank b line.Request) ≡ true → ⊥
      self_before b e = absurd (cc)
  earlier l e = still l refl

  next : following t ≡ Some (action.CallEnds n ending.Request)
  next = first_line_gives line.Request (action.CallEnds n ending.Request) o t current earlier first

  -- once it has ended
  abbrev closes : Call → Call
  closes d = record d { marks = d.marks ++ record { what = mark.Closed; moment = now t } ∷ []; end = Some (record { entry = entry t; moment = now t; cause = ending.Request }) }

  unlike : (k : ℕ) (b : Bool) → (k == n) ≡ b → (k ≡ n → ⊥) → (k == n) ≡ false
  unlike k true e other = absurd (other (eqb-true k n e))
  unlike k false e other = e

  request_after : IsStill line.Request o after
  request_after =
      subst (λ (calls : List Call). list_any (has_long_request o after) calls ≡ false)
      (sym (changed_twice (λ (d : Call). record d { marks = d.marks ++ record { what = mark.Closed; moment = now t } ∷ [] })
      (λ (d : Call). record d { end = Some (record { entry = entry t; moment = now t; cause = ending.Request }) }) n t.calls))
      (none_each_changed (has_long_request o after) closes n t.calls (λ d e. refl)
      (λ k d other e. long_as o d d after t refl refl refl (λ m. refl) ∙ others k d (unlike k (k == n) refl other) e))

  still_by : (l : Line) → is_line l line.Cut ≡ false → is_line l line.Request ≡ false → IsStill l o after
  still_by l cut other = ended_leaves n ending.Request o t current numbers l o current (or_none (is_line l line.Cut) cut) (still l other)

  still_after : (l : Line) → is_line l line.Cut ≡ false → IsStill l o after
  still_after line.Request e = request_after
  still_after line.Cut e = absurd (cc)
  still_after l e = still_by l refl refl

  ends_next : EndsNext (λ (l : Line). false) n ending.Request mid o t
  ends_next = record {
    late = λ l never. absurd (cc);
    current = current;
    agrees = h;
    unreset = unreset;
    call = c;
    there = own;
    going = goes;
    next = next;
    uncut = still line.Cut refl;
    unfollowed = still line.Transparent refl;
    still = λ l e w. still_after l e;
  }

  pub long_ended : HasEnded (λ (l : Line). false) n ending.Request mid o t
  long_ended = one_call_ends (λ (l : Line). false) n ending.Request mid o t ends_next
