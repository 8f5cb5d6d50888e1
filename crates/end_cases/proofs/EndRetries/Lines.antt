-- A transparent retry was made, and took over what there was to take over: nothing follows at once from it any more.
use Rattle.std.proofs.Common.{◌≡◌, ◌≤◌, ◌&&◌, ◌||◌, ◌==◌, ◌∷◌, not, ap, refl, subst, sym, ◌∙◌, Bool, true, false, List, [], Option, None, Some, ℕ, suc, is_none, is_some, length, nat_lt, slice_get}
use Rattle.std.proofs.lemmas.Bool.{and_right, eqb-true}
use Rattle.std.specs.List.{list_any}
use Rattle.std.specs.Option.{option_map_or}
use Rattle.attempt_ledger.specs.declared.ledger.Ask.{Ask}
use Rattle.attempt_ledger.specs.declared.row.RowEnd.{RowEnd}
use Rattle.call_actions.proofs.Lists.{numbered_not}
use Rattle.call_actions.specs.CallsInTurn.Turns.{waits as waits_to_follow}
use Rattle.channel_actions.proofs.KeptSessions.Along.{kept_along}
use Rattle.call_cases.specs.EndsFollow.Laws.{is_late}
use Rattle.channel_actions.specs.KeptSessions.Kept.{IsKept, has_link_for, is_sound_ask}
use Rattle.call_cases.specs.OtherCalls.Others.{GoesApart, IsBooked}
use Rattle.end_cases.proofs.AttemptEnds.Base.{books, c, x1}
use Rattle.end_cases.proofs.AttemptEnds.ClosedAgree.{of_call_on}
use Rattle.end_cases.proofs.AttemptEnds.Lists.{any_more, within}
use Rattle.end_cases.proofs.AttemptEnds.OneEnded as first
use Rattle.end_cases.proofs.AttemptEnds.Others.{final_none, none_at, row_none, wants_none}
use Rattle.end_cases.proofs.AttemptEnds.Picks.{unpicked}
use Rattle.end_cases.proofs.EndRetries.Next as retry
use Rattle.end_cases.proofs.EndRetries.Next.{Leads, Retry}
use Rattle.end_cases.specs.AttemptEnds.Ends.{EndNext, is_of_ends, may_wait}
use Rattle.channel_core.specs.States.{StateSeen}
use Rattle.grpc_base.specs.declared.kind.Pick.{Pick}
use Rattle.grpc_base.specs.declared.kind.Pick.TheVariants as pick
use Rattle.session_actions.specs.AttemptEnds.{outcome_of}
use Rattle.session_actions.specs.Attempts.{is_of, is_outstanding, is_to_follow, wants_follower}
use Rattle.session_actions.specs.CallEnds.{has_long_response, is_over_by_row}
use Rattle.session_actions.specs.Commitments.{has_head_in, is_final_end, is_final_in, is_free_call, is_headed}
use Rattle.session_actions.specs.Entries.{entry}
use Rattle.session_actions.specs.Policies.{is_unfollowed}
use Rattle.session_actions.specs.Responses.{response}
use Rattle.session_actions.specs.Sessions.{Does}
use Rattle.session_actions.specs.Words.{holds, last_of, numbered}
use Rattle.session_actions.specs.Writing.{accepted_bytes}
use Rattle.session_actions.specs.declared.action.Action.{Action}
use Rattle.session_actions.specs.declared.attempt.Attempt.{Attempt}
use Rattle.session_actions.specs.declared.call.Call.{Call}
use Rattle.session_actions.specs.declared.entry.OpenEntry.{OpenEntry}
use Rattle.session_actions.specs.declared.response.Outcome.{Outcome}
use Rattle.session_actions.specs.declared.seen.Seen.{Seen}
use Rattle.session_order.proofs.Aside.{aside_request}
use Rattle.session_order.proofs.Begun.{numbered_more}
use Rattle.session_order.proofs.Changed.{none_more}
use Rattle.session_order.proofs.Lists.{any_same, holds_same}
use Rattle.session_order.specs.Quiescent.{IsStill, can_follow, has_outstanding, is_overflowing, is_to_cut, is_to_end, is_to_follow_pick, is_unplaced}
use Rattle.session_order.specs.Stirs.{stirs}
use Rattle.session_order.specs.declared.line.Line.{Line}
use Rattle.session_order.specs.declared.line.Line.TheVariants as line

-- the last pick request is of an attempt that is there
asked : (s : Seen) → IsKept s → (ask : Ask) → last_of s.asks ≡ Some ask → ask.row ≤ length s.attempts
asked s kept ask at = below_by (numbered s.attempts ask.row) refl (sym (ap (λ (q : Option Ask). option_map_or (is_sound_ask s) q true) at) ∙ kept.picked)
  where
    below_by : (q : Option Attempt) → numbered s.attempts ask.row ≡ q → is_sound_ask s ask ≡ true → ask.row ≤ length s.attempts
    below_by None there e =
        let both : false ≡ true = sym (ap (holds (λ (g : Attempt). not (is_unfollowed g && (ask.entry == entry s)) || has_link_for s.subs ask.answer)) there) ∙ e in absurd (cc)
    below_by (Some g) there e = within s.attempts ask.row g there

module _ (later : List (ℕ × RowEnd)) (waits : Line → Bool) (also : List ℕ) (a : Attempt) (out : Outcome) (x : StateSeen) (o : OpenEntry) (s : Seen) (is : EndNext later waits also a out x o s)
    (going : (c later waits also a out x o s is).end ≡ None) (follows : is_to_follow (c later waits also a out x o s is) out.cause out.unseen s ≡ true)
    (r : Retry later waits also a out x o s is going follows) (leads : Leads later waits also a out x o s is going follows r) where
  abbrev n : ℕ
  n = retry.n later waits also a out x o s is going follows

  abbrev v : Seen
  v = retry.v later waits also a out x o s is going follows

  abbrev new : Attempt
  new = retry.fresh later waits also a out x o s is going follows r

  abbrev added : Seen
  added = retry.grown later waits also a out x o s is going follows r

  abbrev t : Seen
  t = retry.done later waits also a out x o s is going follows r

  abbrev dt : Call
  dt = retry.its later waits also a out x o s is going follows r

  abbrev p : OpenEntry
  p = retry.p later waits also a out x o s is going follows

  abbrev act : Action
  act = first.act later waits also a out x o s is

  abbrev kept : IsKept s
  kept = first.kept later waits also a out x o s is

  abbrev kept_one : IsKept v
  kept_one = first.kept_one later waits also a out x o s is

  -- the session goes there
  pub kept_two : IsKept t
  kept_two = kept_along r.actions v t kept_one leads.does

  booked : (q : Seen) → IsKept q → IsBooked q
  booked q h = record { book = h.book; owned = h.owned; reads = h.reads }

  pub does : Does (act ∷ r.actions) s t
  does = (is.next, subst (λ (q : Seen). Does r.actions q t) (sym (first.after_is later waits also a out x o s is)) leads.does)

  pub apart_two : GoesApart n s t
  apart_two = record {
    actions = act ∷ r.actions;
    does = does;
    apart = of_call_on n (act ∷ []) r.actions s v (first.does_one later waits also a out x o s is) (first.of_call_one later waits also a out x o s is) leads.of_call;
    earlier = booked s kept;
    later = booked t kept_two;
  }

  -- each line
  free_same : (g : Call) → is_free_call added g ≡ is_free_call v g
  free_same g = ap (λ (b : Bool). is_none g.end && b) (leads.free g)

  overflow_one : (g : Call) → is_overflowing added g ≡ is_overflowing v g
  overflow_one g =
      ap (λ (b : Bool). (b && nat_lt 262144 (accepted_bytes g)) && has_outstanding g added) (free_same g)
      ∙ ap (λ (b : Bool). (is_free_call v g && nat_lt 262144 (accepted_bytes g)) && b)
      (any_more (λ (q : Attempt). is_of g q && is_outstanding q) v.attempts new (and_right (is_of g new) false refl))

  head_one : (q : Attempt) → is_headed added q ≡ is_headed v q
  head_one q =
      ap (λ (b : Bool). is_outstanding q && b)
      (holds_same (has_head_in q added) (has_head_in q v) (λ g. ap (λ (b : Bool). b && is_some (response q v).head) (free_same g)) (numbered v.calls q.row.call))

  long_by : (i : ℕ) (g : Call) → slice_get v.calls i ≡ Some g → list_any (has_long_response v) v.calls ≡ false → has_long_response added g ≡ false
  long_by i g at none = leads.long g (numbered_not (has_long_response v) v.calls (suc i) g none at)

  can_same : (q : Pick) → can_follow added q ≡ can_follow v q
  can_same (pick.Place sub) = refl
  can_same pick.Fail = refl
  can_same pick.Wait = refl

  pick_by : (q : Option Ask) → last_of v.asks ≡ q → holds (is_to_follow_pick v) q ≡ false → holds (is_to_follow_pick added) q ≡ false
  pick_by None at h = refl
  pick_by (Some ask) at h =
      ap (λ (b : Bool). is_unplaced added ask.row && (ask.entry == entry v) && b) (can_same ask.answer)
      ∙ ap (λ (q : Option Attempt). holds is_unfollowed q && (ask.entry == entry v) && can_follow v ask.answer) (numbered_more v.attempts new ask.row (asked v kept_one ask at)) ∙ h

  gone_on : (l : Line) → stirs act l ≡ false → is_of_ends l ≡ false → may_wait l ≡ false → IsStill l p v
  gone_on l off ends may = first.plain later waits also a out x o s is l off (first.was_still later waits also a out x o s is l ends may)

  -- of other calls, and of this one
  wants_two : (i : ℕ) (q : Attempt) (g : Bool) → slice_get t.attempts i ≡ Some q → (q.row.call == n) ≡ g → wants_follower q t ≡ false
  wants_two i q true at mine = ap (λ (b : Bool). b && wants_follower q t) (sym mine) ∙ numbered_not (waits_to_follow t dt) t.attempts (suc i) q leads.quiescent at
  wants_two i q false at off =
      wants_none n (x1 later waits also a out x o s is) s t apart_two (books later waits also a out x o s is).calls kept kept_two i q at off
      (first.was_still later waits also a out x o s is line.Transparent refl refl)

  row_two : (i : ℕ) (g : Call) (q : Bool) → slice_get t.calls i ≡ Some g → (suc i == n) ≡ q → is_over_by_row t g ≡ false
  row_two i g true at own =
      let two : Some g ≡ Some dt = sym at ∙ ap (numbered t.calls) (eqb-true (suc i) n own) ∙ leads.here in
      let same : g ≡ dt = (cc) in
      ap (is_over_by_row t) same ∙ leads.row
  row_two i g false at off =
      row_none n (x1 later waits also a out x o s is) s t apart_two (books later waits also a out x o s is).calls kept kept_two (suc i) g off at (first.was_still later waits also a out x o s is line.Row refl refl)

  final_two : (i : ℕ) (q : Attempt) (g : Bool) → slice_get t.attempts i ≡ Some q → (q.row.call == n) ≡ g → is_final_end t q ≡ false
  final_two i q true at own = ap (holds (λ (g : Call). is_final_in q t g)) (ap (numbered t.calls) (eqb-true q.row.call n own) ∙ leads.here) ∙ leads.final i q at own
  final_two i q false at off =
      final_none n (x1 later waits also a out x o s is) s t apart_two (books later waits also a out x o s is).calls kept kept_two i q at off (first.was_still later waits also a out x o s is line.Final refl refl)

  pub still_two : (l : Line) → may_wait l ≡ false → IsStill l p t
  still_two line.Cut may =
      leads.reported line.Cut refl
      (none_more (is_to_cut added) v.attempts new
      (any_same (is_to_cut added) (is_to_cut v) (λ q. ap (λ (b : Bool). is_outstanding q && b) (leads.over q)) v.attempts ∙ gone_on line.Cut refl refl refl) refl)
  still_two line.Transparent may = none_at (λ (q : Attempt). wants_follower q t) t.attempts (λ i q at. wants_two i q (q.row.call == n) at refl)
  still_two line.Inherited may = leads.reported line.Inherited refl leads.inherited
  still_two line.Row may = none_at (is_over_by_row t) t.calls (λ i g at. row_two i g (suc i == n) at refl)
  still_two line.Final may = none_at (is_final_end t) t.attempts (λ i q at. final_two i q (q.row.call == n) at refl)
  still_two line.Pick may = leads.reported line.Pick refl (pick_by (last_of v.asks) refl (unpicked later waits also a out x o s is p))
  still_two line.Cancelled may = leads.reported line.Cancelled refl (gone_on line.Cancelled refl refl refl)
  still_two line.Request may = leads.reported line.Request refl (aside_request p v added ∙ gone_on line.Request refl refl refl)
  still_two line.Response may =
      leads.reported line.Response refl (none_at (has_long_response added) v.calls (λ i g at. long_by i g at (gone_on line.Response refl refl refl)))
  still_two line.Overflow may =
      leads.reported line.Overflow refl (any_same (is_overflowing added) (is_overflowing v) overflow_one v.calls ∙ gone_on line.Overflow refl refl refl)
  still_two line.Head may =
      leads.reported line.Head refl (none_more (is_headed added) v.attempts new (any_same (is_headed added) (is_headed v) head_one v.attempts ∙ gone_on line.Head refl refl refl) refl)
  still_two line.Link may = leads.reported line.Link refl (gone_on line.Link refl refl refl)
  still_two line.WireEnd may = absurd (cc)
  still_two line.Reset may = absurd (cc)
  still_two line.Shut may = absurd (cc)
  still_two line.Retire may = absurd (cc)
  still_two line.Begin may = absurd (cc)
  still_two line.Give may = absurd (cc)
  still_two line.Drop may = absurd (cc)
  still_two line.Add may = absurd (cc)

  pub wire_two : IsStill line.WireEnd o s → IsStill line.WireEnd p t
  wire_two h =
      leads.reported line.WireEnd refl
      (none_more (is_to_end added) v.attempts new
      (any_same (is_to_end added) (is_to_end v) (λ q. ap (λ (b : Bool). (is_outstanding q && not b) && is_some (outcome_of q v)) (leads.over q)) v.attempts
      ∙ first.plain later waits also a out x o s is line.WireEnd refl h) refl)

  late_one : (l : Line) → stirs act l ≡ false → is_of_ends l ≡ false → waits l ≡ false → IsStill l p v
  late_one l off ends wait = first.plain later waits also a out x o s is l off (is.still l ends wait)

  pub late_two : (l : Line) → is_late l ≡ true → waits l ≡ false → IsStill l p t
  late_two line.Shut late off = leads.reported line.Shut refl (late_one line.Shut refl refl off)
  late_two line.Retire late off = leads.reported line.Retire refl (late_one line.Retire refl refl off)
  late_two line.Begin late off = leads.reported line.Begin refl (late_one line.Begin refl refl off)
  late_two line.Give late off = leads.reported line.Give refl (late_one line.Give refl refl off)
  late_two line.Drop late off = leads.reported line.Drop refl (late_one line.Drop refl refl off)
  late_two line.Add late off = leads.reported line.Add refl (late_one line.Add refl refl off)
  late_two line.Transparent late off = absurd (cc)
  late_two line.Row late off = absurd (cc)
  late_two line.Final late off = absurd (cc)
  late_two line.Pick late off = absurd (cc)
  late_two line.Cut late off = absurd (cc)
  late_two line.Inherited late off = absurd (cc)
  late_two line.Cancelled late off = absurd (cc)
  late_two line.Request late off = absurd (cc)
  late_two line.Response late off = absurd (cc)
  late_two line.Overflow late off = absurd (cc)
  late_two line.Head late off = absurd (cc)
  late_two line.Link late off = absurd (cc)
  late_two line.WireEnd late off = absurd (cc)
  late_two line.Reset late off = absurd (cc)
