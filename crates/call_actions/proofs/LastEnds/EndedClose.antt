-- A call is committed to an attempt that has ended; its other attempts are cut off, one by one; and it ends by that attempt.
use Rattle.std.proofs.Common.{◌≡◌, ◌==◌, ◌∷◌, not, append-nil, ap, refl, subst, sym, ◌∙◌, Bool, true, false, List, [], Option, None, Some, ℕ, filter, if◌then◌else◌, is_some, map}
use Rattle.std.proofs.lemmas.Bool.{both_ways, eq-eqb, eqb-true, ne_eqb}
use Rattle.std.specs.List.{list_all}
use Rattle.std.specs.Option.{option_map, option_map_or}
use Rattle.attempt_ledger.specs.declared.ledger.CallEnd.{CallEnd}
use Rattle.call_actions.proofs.Closing.{quiet_calls_end}
use Rattle.call_actions.proofs.Lists.{changed_here}
use Rattle.call_actions.specs.Order.{IsInOrder, Keeps}
use Rattle.call_actions.specs.Sees.{Sees}
use Rattle.call_core.specs.Parts.{count_of}
use Rattle.call_core.specs.Steps as steps
use Rattle.call_core.specs.Steps.{Stepped}
use Rattle.call_core.specs.declared.attempts.Attempts.{Attempts}
use Rattle.grpc_base.specs.declared.event.EndCause.{EndCause}
use Rattle.grpc_base.specs.declared.event.EndCause.TheVariants as endcause
use Rattle.call_actions.proofs.LastEnds.EndedCut as ended
use Rattle.call_actions.proofs.LastEnds.EndedCut.{KnowsAlike, places_of}
use Rattle.call_actions.proofs.LastEnds.EndedLive.{half_commitment}
use Rattle.call_actions.proofs.LastEnds.Moments.{cuts_moment}
use Rattle.call_actions.specs.LastEnds.Laws.{CanClose}
use Rattle.session_actions.specs.Attempts.{is_commitment, with_attempt}
use Rattle.session_actions.specs.CallEnds.{call_ended}
use Rattle.session_actions.specs.Calls.{marked}
use Rattle.session_actions.specs.Commitments.{call_committed, with_commitment}
use Rattle.session_actions.specs.Entries.{entry, now}
use Rattle.session_actions.specs.Sessions.{link_seen}
use Rattle.session_actions.specs.Tokens.{run_of, tokens_in}
use Rattle.session_actions.specs.Words.{changed, find_last, holds}
use Rattle.session_actions.specs.declared.action.Action.{Action}
use Rattle.session_actions.specs.declared.attempt.Attempt.{Attempt}
use Rattle.session_actions.specs.declared.call.Call.{Call}
use Rattle.session_actions.specs.declared.call.Mark.{Mark}
use Rattle.session_actions.specs.declared.call.MarkKind.TheVariants as mark
use Rattle.session_actions.specs.declared.config.ThrottleRun.{ThrottleRun}
use Rattle.session_actions.specs.declared.entry.OpenEntry.{OpenEntry}
use Rattle.session_actions.specs.declared.seen.Seen.{Seen}
use Rattle.call_actions.proofs.TakeActions.Commits.{change_by}
use Rattle.call_actions.proofs.TakeActions.CutAttempts.{becomes, ended_mark, finally, gone_by, is_cut_off, stamp_of}
use Rattle.call_actions.proofs.TakeActions.CutOne.{changed_like, marked_also}
use Rattle.call_actions.proofs.TakeActions.CutSees.{tokens_are}
use Rattle.call_actions.proofs.TakeActions.CutWalk.{Walked, at_point, half_of, is_gone, number_of, walked}
use Rattle.call_actions.specs.TakeActions.Cuts.{AttemptsAreCut}
use Rattle.call_actions.specs.TakeActions.Serves.{AttemptsStandInPlace, is_ended_at}

pub record ClosesSo (s : Seen) (c : Call) (k : Attempt) (x : Stepped) : Type 0 where
  pub cuts : List Action
  pub seen : Seen
  pub cut : AttemptsAreCut c.number cuts (call_committed k.place s) seen
  pub closes : Keeps (call_ended c.number endcause.Row seen) c.number x

module _ (s : Seen) (c : Call) (x : Stepped) (k : Attempt) (known : Attempts) (h : Sees s c x) (alike : KnowsAlike x.call.attempts known) (o : IsInOrder s c) (can : CanClose s c k)
    (links : map link_seen s.links ≡ x.ledger.links)
    (counted : option_map_or (λ (run : ThrottleRun). list_all (is_ended_at s) run.ends) (run_of c s) true ≡ true) where
  places : AttemptsStandInPlace 1 s.attempts
  places = places_of 1 s.attempts o.places

  abbrev pub tokens_now : Option ℕ
  tokens_now = count_of x.tokens

  pub count_now : option_map (λ (run : ThrottleRun). tokens_in run s) (run_of c s) ≡ tokens_now
  count_now = tokens_are s (run_of c s) x.tokens h.tokens

  abbrev pub half_at : Attempt → Attempt
  half_at a = half_of (stamp_of (entry s) k) a

  abbrev pub first : Mark
  first = record { what = mark.Committed; moment = now s }

  -- which attempts are gone
  pub number_is : number_of (find_last (is_commitment c) (map half_at s.attempts)) ≡ Some k.row.number
  number_is = ap number_of (half_commitment s c k can places (entry s))

  pub gone_is : (a : Attempt) → is_gone c.end (number_of (find_last (is_commitment c) (map half_at s.attempts))) a ≡ gone_by k a
  gone_is a =
      ap (λ (o : Option CallEnd). is_gone o (number_of (find_last (is_commitment c) (map half_at s.attempts))) a) can.open_now
      ∙ ap (holds (λ (n : ℕ). not (n == a.row.number))) number_is

  pub gone_same : (a b : Attempt) → a.row.number ≡ b.row.number → gone_by k a ≡ gone_by k b
  gone_same a b e = ap (λ (n : ℕ). not (k.row.number == n)) e

  -- the commitment itself
  pub halves : changed (with_commitment (entry s)) k.place s.attempts ≡ map half_at s.attempts
  halves =
      change_by k (with_commitment (entry s)) half_at k.place s.attempts
      (ap (λ (b : Bool). record k { row = record k.row { committed = if b then Some (entry s) else k.row.committed } }) (eq-eqb k.place k.place refl))
      (λ a away. ap (λ (b : Bool). record a { row = record a.row { committed = if b then Some (entry s) else a.row.committed } }) (ne_eqb k.place a.place away))
      places refl can.at

  abbrev pub point : List Attempt → List Attempt → Option OpenEntry → Seen
  point prefix rest current =
      at_point s c h.own (stamp_of (entry s) k) (gone_by k) c.end first gone_is gone_same tokens_now count_now counted prefix rest current

  pub committed_is : call_committed k.place s ≡ point [] s.attempts s.current
  committed_is =
      ap (λ (o : Option Attempt). option_map_or (λ (a : Attempt). marked mark.Committed a.row.call (with_attempt (with_commitment (entry s)) k.place s)) o
      (with_attempt (with_commitment (entry s)) k.place s)) (changed_here (with_commitment (entry s)) k.place s.attempts k can.at)
      ∙ ap (λ (l : List Attempt). record s { attempts = l; calls = changed (marked_also first) k.row.call s.calls }) halves
      ∙ ap (λ (n : ℕ). record s { attempts = map half_at s.attempts; calls = changed (marked_also first) n s.calls }) (eqb-true k.row.call c.number can.mine)
      ∙ ap (λ (l : List Call). record s { attempts = map half_at s.attempts; calls = l })
      (changed_like (marked_also first) (becomes c.end (first ∷ [])) c.number s.calls c h.own refl)

  abbrev pub CutAll : Seen → Type 0
  CutAll u = Walked s c h.own (stamp_of (entry s) k) (gone_by k) c.end first gone_is gone_same tokens_now count_now counted u

  pub commit_walked : (o : OpenEntry) → s.current ≡ Some o → CutAll (call_committed k.place s)
  commit_walked o opened =
      walked s c h.own (stamp_of (entry s) k) (gone_by k) c.end first gone_is gone_same tokens_now count_now counted o (call_committed k.place s) opened places committed_is

  committed_moment : now (call_committed k.place s) ≡ now s
  committed_moment = ap now committed_is

  -- the walk ends where all are cut off
  abbrev put : Option OpenEntry → List Attempt → Seen
  put current attempts = record s {
    attempts = attempts;
    calls = changed (becomes c.end (first ∷ map (ended_mark (now s)) (filter (is_cut_off c.number (gone_by k)) s.attempts))) c.number s.calls;
    current = current;
  }

  open_now : x.call.ended ≡ None
  open_now = sym h.ended ∙ ap (option_map (λ (q : CallEnd). q.cause)) can.open_now

  module _ (current : Option OpenEntry) (still : is_some current ≡ is_some s.current) where
    abbrev last : Seen
    last = ended.cut_seen s c x k known h alike o can links counted current still

    abbrev z : Stepped
    z = steps.committed k.place (now s) (ended.with_known s c x k known h alike o can links counted current still)

    ends_there : Keeps (call_ended c.number endcause.Row last) c.number (steps.closed_by endcause.Row (now last) z)
    ends_there =
        quiet_calls_end last (ended.cut_call s c x k known h alike o can links counted current still) z endcause.Row
        (ended.sees_now s c x k known h alike o can links counted current still) (ended.order_now s c x k known h alike o can links counted current still) can.open_now
        (ended.none_left s c x k known h alike o can links counted current still)

    ends_so : now last ≡ now s → Keeps (call_ended c.number endcause.Row last) c.number (steps.ended_as endcause.Row (now s) z)
    ends_so moment =
        subst (λ (y : Stepped). Keeps (call_ended c.number endcause.Row last) c.number y)
        (ap (λ (m : ℕ). steps.closed_by endcause.Row m z) moment ∙ ap (λ (q : Option EndCause). steps.ended_if (not (is_some q)) endcause.Row (now s) z) open_now) ends_there

  closes_by : (q : Option OpenEntry) → s.current ≡ q → is_some s.current ≡ true
      → ClosesSo s c k (steps.ended_by_row k.place (now s) (record x { call = record x.call { attempts = known } }))
  closes_by None opened some = absurd (let none : is_some s.current ≡ false = ap (λ (z : Option OpenEntry). is_some z) opened in both_ways (is_some s.current) none some)
  closes_by (Some q) opened some =
      let w : CutAll (call_committed k.place s) = commit_walked q opened in
      let still : is_some (Some w.entry_now) ≡ is_some s.current = sym (ap (λ (z : Option OpenEntry). is_some z) opened) in
      let same : point s.attempts [] (Some w.entry_now) ≡ last (Some w.entry_now) still
      = ap (put (Some w.entry_now)) (append-nil (map (finally (entry s) (now s) tokens_now s c k) s.attempts)) in
      let cut : AttemptsAreCut c.number w.actions (call_committed k.place s) (last (Some w.entry_now) still) = subst (AttemptsAreCut c.number w.actions (call_committed k.place s)) same w.cuts in
      let moment : now (last (Some w.entry_now) still) ≡ now s = cuts_moment c.number w.actions (call_committed k.place s) (last (Some w.entry_now) still) cut ∙ committed_moment in
      record { cuts = w.actions; seen = last (Some w.entry_now) still; cut = cut; closes = ends_so (Some w.entry_now) still moment }

  pub closes_with_cuts : is_some s.current ≡ true → ClosesSo s c k (steps.ended_by_row k.place (now s) (record x { call = record x.call { attempts = known } }))
  closes_with_cuts some = closes_by s.current refl some
