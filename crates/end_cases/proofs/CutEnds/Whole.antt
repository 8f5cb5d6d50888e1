-- A last end of a hedged call while other attempts of it go on: put together.
use Rattle.attempt_ledger.specs.declared.row.Placed.{Placed}
use Rattle.call_actions.specs.Laws.{IsCounting, is_last_end}
use Rattle.call_actions.specs.Sees.{is_live, live_row}
use Rattle.channel_actions.proofs.ActsFollowed.Acts.{IsDone, link_list, links_of}
use Rattle.call_cases.proofs.LinkEnds.Cutting.{IsPut, is_put}
use Rattle.channel_actions.specs.KeptSessions.Kept.{IsKept}
use Rattle.call_cases.specs.LinkEnds.Cuts.{links_cut}
use Rattle.end_cases.proofs.AttemptEnds.After.{placed_from}
use Rattle.end_cases.proofs.AttemptEnds.Base.{c, e}
use Rattle.end_cases.proofs.AttemptEnds.ClosedLines as lines
use Rattle.end_cases.proofs.AttemptEnds.Closing as closing
use Rattle.end_cases.proofs.AttemptEnds.Closing.{Follows}
use Rattle.end_cases.proofs.AttemptEnds.LastCommits as last_commits
use Rattle.end_cases.proofs.AttemptEnds.OneEnded as first_end
use Rattle.attempt_cases.proofs.CallCommits.Given.{IsPlain, given_same}
use Rattle.attempt_ledger.specs.declared.row.RowEnd.{RowEnd}
use Rattle.end_cases.proofs.CutEnds.Acts.{first, is_done, last, parts, then_, reported_is}
use Rattle.end_cases.proofs.CutEnds.Ahead.{IsReady, all_reset, apart_still, reset_links, reset_owed}
use Rattle.end_cases.proofs.CutEnds.Call.{b, done, given_rows, goes, goes_else, made, steps_so, w, whole}
use Rattle.end_cases.proofs.CutEnds.Ends.{mine_is, place_of, twin}
use Rattle.end_cases.proofs.CutEnds.Noted.{noted_on}
use Rattle.end_cases.proofs.CutEnds.Rows.{outstanding_on, wait_for_ready_on, queue_on}
use Rattle.end_cases.proofs.CutEnds.Walk.{Walked, f, kept_in, start}
use Rattle.end_cases.proofs.EndCases.Whole.{ends_by_cuts}
use Rattle.end_cases.proofs.OwedResets.First.{stays_out}
use Rattle.end_cases.specs.AttemptEnds.Ahead.{HasLinkAhead, LinksAhead}
use Rattle.end_cases.specs.AttemptEnds.Ends.{EndNext, HasEnded}
use Rattle.end_cases.specs.AttemptEnds.Laws.{LastEndsCutOff, OneAttemptEnds, goes_on_after}
use Rattle.call_cases.specs.CommitsFollow.Laws.{is_other_out}
use Rattle.channel_core.specs.States.{StateSeen}
use Rattle.channel_core.specs.declared.state.links.LinkSlot.{LinkSlot}
use Rattle.end_cases.proofs.AttemptEnds.LeftLinks.{calls_end_left}
use Rattle.end_cases.proofs.CutEnds.LeftCuts.{cuts_left}
use Rattle.end_cases.specs.AttemptEnds.Left.{all_left}
use Rattle.grpc_base.specs.declared.event.EndCause.TheVariants as ending_cause
use Rattle.grpc_base.specs.declared.plan.CallPlan.{CallPlan}
use Rattle.lb_policy.specs.Table.{is_one_of}
use Rattle.session_actions.specs.AttemptEnds.{with_end}
use Rattle.session_actions.specs.Attempts.{commitment, is_of, is_outstanding, is_over, is_queued}
use Rattle.session_actions.specs.Commitments.{with_commitment}
use Rattle.session_actions.specs.Configs.{plan_of}
use Rattle.session_actions.specs.Entries.{entry}
use Rattle.session_actions.specs.Links.{link_number}
use Rattle.session_actions.specs.Words.{changed, numbered}
use Rattle.session_actions.specs.declared.attempt.Attempt.{Attempt}
use Rattle.session_actions.specs.declared.call.Call.{Call}
use Rattle.session_actions.specs.declared.entry.OpenEntry.{OpenEntry}
use Rattle.session_actions.specs.declared.response.Outcome.{Outcome}
use Rattle.session_actions.specs.declared.seen.Seen.{Seen}
use Rattle.session_order.specs.declared.line.Line.{Line}
use Rattle.std.proofs.Common.{Bool, List, None, Option, Some, [], ap, cond, eq-eqb, eqb-true, false, filter, is_none, is_some, length, map, not, option_map, refl, slice_get, subst, suc, sym, true, zero, ℕ, ◌&&◌, ◌++◌, ◌==◌, ◌||◌, ◌∙◌, ◌∷◌, ◌≡◌}
use Rattle.std.proofs.lemmas.Bool.{and_parts, both_ways}
use Rattle.std.specs.List.{AllByRecursion}
use Rattle.std.specs.Option.{option_map_or}

module _ (p q : Attempt → Bool) where
  list_here : (r : Option Placed) → is_some r ≡ true → link_list (option_map (λ (at : Placed). at.link) r) ≡ option_map_or (λ (at : Placed). at.link) r 0 ∷ []
  list_here None e = absurd (cc)
  list_here (Some at) e = refl

  links_one : (a : Attempt) (xs : List Attempt) (b c : Bool) → p a ≡ b → q a ≡ c → IsPlain p q a → links_of (map live_row (filter p xs)) ≡ map link_number (filter q xs)
      → links_of (map live_row (cond b (a ∷ filter p xs) (filter p xs))) ≡ map link_number (cond c (a ∷ filter q xs) (filter q xs))
  links_one a xs true true l r is next =
      ap (λ (ls : List ℕ). ls ++ links_of (map live_row (filter p xs))) (list_here a.row.placed (is.placed r)) ∙ ap (λ (ls : List ℕ). link_number a ∷ ls) next
  links_one a xs true false l r is next =
      ap (λ (z : Option Placed). link_list (option_map (λ (at : Placed). at.link) z) ++ links_of (map live_row (filter p xs))) (is.waits l r) ∙ next
  links_one a xs false true l r is next = absurd (both_ways (p a) l (is.lives r))
  links_one a xs false false l r is next = next

  links_same : (xs : List Attempt) → AllByRecursion (IsPlain p q) xs → links_of (map live_row (filter p xs)) ≡ map link_number (filter q xs)
  links_same [] all = refl
  links_same (a ∷ xs) all = links_one a xs (p a) (q a) refl refl all.0 (links_same xs all.1)

all_from : (P : Attempt → Type 0) (xs : List Attempt) → ((i : ℕ) (q : Attempt) → slice_get xs i ≡ Some q → P q) → AllByRecursion P xs
all_from P [] each = tt
all_from P (q ∷ xs) each = (each zero q refl, all_from P xs (λ i r at. each (suc i) r at))

out_same : (p : Attempt → Bool) (f : Attempt → Attempt) (k : ℕ) (xs : List Attempt) (y : Attempt) → numbered xs k ≡ Some y → p y ≡ false → p (f y) ≡ false
    → filter p (changed f k xs) ≡ filter p xs
out_same p f k xs y at off then_off =
    let m : IsPut f k xs y = is_put f k xs y at in
    ap (filter p) m.put_in ∙ stays_out p xs m.index y (f y) m.there off then_off

-- links that are ahead hang of a channel on its links, and on what it is to close
ahead_alike : (also : List ℕ) (y z : StateSeen) (u : Seen) → y.links ≡ z.links → y.resets ≡ z.resets → LinksAhead also y u → LinksAhead also z u
ahead_alike also y z u links resets h = record {
  count = h.count ∙ ap (λ (ls : List LinkSlot). length ls) links;
  each = λ i l at.
      let k : HasLinkAhead y u l i = h.each i l at in
      record { slot = k.slot; there = ap (λ (ls : List LinkSlot). numbered ls i) (sym links) ∙ k.there; sees = k.sees };
  closing = λ i l at off. h.closing i l at (ap (λ (rs : List ℕ). is_one_of (also ++ rs) i) resets ∙ off);
}

not_so : (b : Bool) → not b ≡ true → b ≡ false
not_so false e = refl
not_so true e = absurd (cc)

none_passes : (p q r : Bool) → r ≡ true → (p && (q && not r)) ≡ false
none_passes true true true e = refl
none_passes true false true e = refl
none_passes false q true e = refl
none_passes p q false e = absurd (cc)

all_three : (p q r : Bool) → p ≡ true → q ≡ true → r ≡ false → (p && (q && not r)) ≡ true
all_three true true false e f g = refl
all_three false q r e f g = absurd (cc)
all_three true false r e f g = absurd (cc)
all_three true true true e f g = absurd (cc)

unplaced_by : (p : Option Placed) (e v : Bool) → ((is_some p && e) || ((is_none p && e) && v)) ≡ true → (is_some p && e) ≡ false → p ≡ None
unplaced_by None e v l f = refl
unplaced_by (Some at) true v l f = absurd (cc)
unplaced_by (Some at) false v l f = absurd (cc)

module _ (later : List (ℕ × RowEnd)) (waits : Line → Bool) (also : List ℕ) (a : Attempt) (out : Outcome) (x : StateSeen) (o : OpenEntry) (s : Seen) (is : EndNext later waits also a out x o s)
    (counting : IsCounting s (c later waits also a out x o s is) out) (free : commitment (c later waits also a out x o s is) s ≡ None)
    (final : goes_on_after (plan_of (c later waits also a out x o s is) s) s (c later waits also a out x o s is) a out ≡ false)
    (last_end : is_last_end (plan_of (c later waits also a out x o s is) s) (c later waits also a out x o s is) a out s ≡ true) where
  abbrev k : Call
  k = c later waits also a out x o s is

  abbrev n : ℕ
  n = k.number

  abbrev begun_at : Seen
  begun_at = f later waits also a out x o s is counting free final

  abbrev t : Seen
  t = (whole later waits also a out x o s is counting free final last_end).seen

  abbrev cuts : List Attempt
  cuts = (done later waits also a out x o s is counting free final last_end).those

  started : Walked later waits also a out x o s is counting free final begun_at
  started = start later waits also a out x o s is counting free final

  kept_f : IsKept begun_at
  kept_f = kept_in later waits also a out x o s is counting free final begun_at started

  ready : IsReady begun_at
  ready = record {
    places = placed_from 1 begun_at.attempts kept_f.book.places;
    unreset = started.unreset;
    apart = apart_still s.attempts begun_at.attempts started.keys is.apart;
    numbers = kept_f.links;
    reads = kept_f.reads;
  }

  ahead_t : LinksAhead also (all_reset cuts x) (all_left later t)
  ahead_t =
      cuts_left later cuts begun_at t also x (done later waits also a out x o s is counting free final last_end).off ready kept_f.owned (last_commits.ahead_two later waits also a out x o s is counting)

  ahead_closed : LinksAhead also (all_reset cuts x) (all_left later (w later waits also a out x o s is counting free final last_end))
  ahead_closed =
      calls_end_left later (closing.mid later waits also a out x o s is counting (b later waits also a out x o s is counting free final last_end)) n ending_cause.Row also (all_reset cuts x)
      (subst (λ (q : Seen). LinksAhead also (all_reset cuts x) (all_left later q)) (done later waits also a out x o s is counting free final last_end).walked.form ahead_t)

  -- which attempts are cut off, and which rows are given up
  abbrev given_up : Attempt → Bool
  given_up q = goes_else later waits also a out x o s is counting free final last_end q

  abbrev cut_out : Attempt → Bool
  cut_out q = is_other_out n a.row.number q

  own_number : (q : Attempt) → q.row.number ≡ a.row.number → cut_out q ≡ false
  own_number q same =
      none_passes (q.row.call == n) (is_outstanding q) (a.row.number == q.row.number) (eq-eqb a.row.number q.row.number (sym same))

  cuts_are : cuts ≡ filter cut_out s.attempts
  cuts_are =
      (done later waits also a out x o s is counting free final last_end).all
      ∙ out_same cut_out (with_commitment (entry (closing.v later waits also a out x o s is counting))) a.place (closing.v later waits also a out x o s is counting).attempts
      (with_end (e later waits also a out x o s is) a) (first_end.one_there later waits also a out x o s is) (own_number (with_end (e later waits also a out x o s is) a) refl)
      (own_number (with_commitment (entry (closing.v later waits also a out x o s is counting)) (with_end (e later waits also a out x o s is) a)) refl)
      ∙ out_same cut_out (with_end (e later waits also a out x o s is)) a.place s.attempts a is.ending.there (own_number a refl) (own_number (with_end (e later waits also a out x o s is) a) refl)

  waits_by : (i : ℕ) (q : Attempt) (r m : Bool) → slice_get s.attempts i ≡ Some q → given_up q ≡ true → cut_out q ≡ false → is_outstanding q ≡ r → (a.row.number == q.row.number) ≡ m
      → q.row.placed ≡ None
  waits_by i q false m at goes_ off on number =
      let lives : is_live s k q ≡ true = (and_parts (is_live s k q) (not (q.place == a.place)) goes_).0 in
      unplaced_by q.row.placed (is_none q.row.ended) (not (is_over q s)) (and_parts (is_of k q) (is_outstanding q || is_queued q s) lives).1 on
  waits_by i q true false at goes_ off on number =
      let lives : is_live s k q ≡ true = (and_parts (is_live s k q) (not (q.place == a.place)) goes_).0 in
      absurd (both_ways (cut_out q) off
      (all_three (q.row.call == n) (is_outstanding q) (a.row.number == q.row.number) (and_parts (is_of k q) (is_outstanding q || is_queued q s) lives).0 on number))
  waits_by i q true true at goes_ off on number =
      let those : (is_live s k q ≡ true) × (not (q.place == a.place) ≡ true) = and_parts (is_live s k q) (not (q.place == a.place)) goes_ in
      absurd (twin later waits also a out x o s is counting q i at those.0 (sym (eqb-true a.row.number q.row.number number)) (not_so (q.place == a.place) those.1))

  place_by : (i : ℕ) (q : Attempt) (m : Bool) → slice_get s.attempts i ≡ Some q → (q.place == a.place) ≡ m → not (a.row.number == q.row.number) ≡ true → m ≡ false
  place_by i q false at same other = refl
  place_by i q true at same other =
      let here : numbered s.attempts a.place ≡ Some q
      = ap (numbered s.attempts) (sym (eqb-true q.place a.place same) ∙ place_of later waits also a out x o s is counting q i at) ∙ at in
      let two : Some q ≡ Some a = sym here ∙ is.ending.there in
      let one_ : q ≡ a = (cc) in
      let on : (a.row.number == q.row.number) ≡ true = ap (λ (r : Attempt). a.row.number == r.row.number) one_ ∙ eq-eqb a.row.number a.row.number refl in
      absurd (both_ways (a.row.number == q.row.number) (not_so (a.row.number == q.row.number) other) on)

  plain_at : (i : ℕ) (q : Attempt) → slice_get s.attempts i ≡ Some q → IsPlain given_up cut_out q
  plain_at i q at = record {
    waits = λ goes_ off. waits_by i q (is_outstanding q) (a.row.number == q.row.number) at goes_ off refl refl;
    lives = λ on.
        let one_ : ((q.row.call == n) ≡ true) × ((is_outstanding q && not (a.row.number == q.row.number)) ≡ true)
        = and_parts (q.row.call == n) (is_outstanding q && not (a.row.number == q.row.number)) on in
        let two : (is_outstanding q ≡ true) × (not (a.row.number == q.row.number) ≡ true) = and_parts (is_outstanding q) (not (a.row.number == q.row.number)) one_.1 in
        ap (λ (g : Bool). g && not (q.place == a.place)) (mine_is later waits also a out x o s is counting q one_.0 two.0)
        ∙ ap not (place_by i q (q.place == a.place) at refl two.1);
    placed = λ on.
        let one_ : ((q.row.call == n) ≡ true) × ((is_outstanding q && not (a.row.number == q.row.number)) ≡ true)
        = and_parts (q.row.call == n) (is_outstanding q && not (a.row.number == q.row.number)) on in
        (and_parts (is_some q.row.placed) (is_none q.row.ended) (and_parts (is_outstanding q) (not (a.row.number == q.row.number)) one_.1).0).0;
  }

  plain : AllByRecursion (IsPlain given_up cut_out) s.attempts
  plain = all_from (IsPlain given_up cut_out) s.attempts plain_at

  abbrev then_now : StateSeen
  then_now = then_ later waits also a out x o s is counting free final last_end

  those_done : IsDone n (given_rows later waits also a out x o s is counting free final last_end) (first later waits also a out x o s is counting free final last_end)
      (last later waits also a out x o s is counting free final last_end)
  those_done = is_done later waits also a out x o s is counting free final last_end

  links_are : (all_reset cuts x).links ≡ then_now.links
  links_are =
      reset_links cuts x ∙ ap (λ (xs : List Attempt). links_cut xs x.links) cuts_are ∙ sym (given_same given_up cut_out s.attempts plain x.links) ∙ sym those_done.links

  resets_are : (all_reset cuts x).resets ≡ then_now.resets
  resets_are =
      reset_owed cuts x ∙ ap (λ (xs : List Attempt). x.resets ++ map link_number xs) cuts_are
      ∙ ap (λ (ls : List ℕ). x.resets ++ ls) (sym (links_same given_up cut_out s.attempts plain)) ∙ sym those_done.resets

  follows : Follows later waits also a out x o s is counting (b later waits also a out x o s is counting free final last_end) (made later waits also a out x o s is counting free final last_end)
      (parts later waits also a out x o s is counting free final last_end)
  follows = record {
    reported_is = reported_is later waits also a out x o s is counting free final last_end;
    outs = outstanding_on later waits also a out x o s is counting free final last_end;
    queue = queue_on later waits also a out x o s is counting free final last_end;
    ready_waiters = wait_for_ready_on later waits also a out x o s is counting free final last_end;
    noted = noted_on later waits also a out x o s is counting free final last_end;
    ahead = ahead_alike also (all_reset cuts x) then_now (all_left later (w later waits also a out x o s is counting free final last_end)) links_are resets_are ahead_closed;
  }

  pub has_ended : HasEnded later waits also a out x o s
  has_ended =
      lines.has_ended later waits also a out x o s is counting (b later waits also a out x o s is counting free final last_end) (goes later waits also a out x o s is counting free final last_end)
      (made later waits also a out x o s is counting free final last_end) (steps_so later waits also a out x o s is counting free final last_end)
      (parts later waits also a out x o s is counting free final last_end) follows

pub last_ends_cut_off : LastEndsCutOff
last_ends_cut_off later waits also a out x o s is case =
    has_ended later waits also a out x o s is case.last.counting case.last.free case.last.last
    (ap (λ (q : CallPlan). is_last_end q is.call a out s) case.hedged ∙ ap not case.unnamed)

pub one_attempt_ends : OneAttemptEnds
one_attempt_ends = ends_by_cuts last_ends_cut_off
