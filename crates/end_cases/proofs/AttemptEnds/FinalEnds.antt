-- An attempt has ended, of a call that is not committed: what makes its end final, and that the end of no other attempt is.
use Rattle.std.proofs.Common.{◌≡◌, ◌==◌, ◌&&◌, ◌||◌, ◌++◌, ◌∷◌, not, ap, arith, refl, sym, ◌∙◌, Bool, true, false, List, [], Option, None, Some, ℕ, suc, if◌then◌else◌, is_none, option_map, slice_get}
use Rattle.std.proofs.lemmas.Bool.{and_right, eqb-true}
use Rattle.std.proofs.lemmas.Bool.Decides.{nat_tests}
use Rattle.std.specs.List.{list_any}
use Rattle.attempt_ledger.specs.Ends.{is_above}
use Rattle.attempt_ledger.specs.declared.row.RowEnd.{RowEnd}
use Rattle.call_actions.proofs.Ends.Frames as ending_frames
use Rattle.call_actions.proofs.Ends.Frames.{with_end_at}
use Rattle.call_actions.proofs.Ends.Rows as rows
use Rattle.call_actions.proofs.Ends.Tokens.{throttle_now}
use Rattle.call_actions.proofs.Ending as ending
use Rattle.call_actions.proofs.Frames as frames
use Rattle.call_actions.proofs.Lists.{numbered_not}
use Rattle.call_actions.proofs.Ranks.{any_map_all}
use Rattle.call_actions.specs.Laws.{IsCounting}
use Rattle.call_actions.specs.Order.{IsInOrder, IsInTurn}
use Rattle.call_actions.specs.Sees.{Sees, is_live}
use Rattle.call_core.specs.Steps.{Stepped}
use Rattle.end_cases.proofs.AttemptEnds.After.{attempts_are, d_here, free_then, put, put_call, put_out, put_place, t_is, waits_one}
use Rattle.end_cases.proofs.AttemptEnds.Closing as closing
use Rattle.end_cases.proofs.AttemptEnds.Base.{books, c, e, here, sees, x1, x2}
use Rattle.end_cases.proofs.AttemptEnds.OneEnded.{apart_one}
use Rattle.end_cases.proofs.AttemptEnds.Lists.{IsFrom, from_map}
use Rattle.end_cases.proofs.AttemptEnds.Others.{final_none}
use Rattle.end_cases.specs.AttemptEnds.Ends.{EndNext}
use Rattle.channel_core.specs.States.{StateSeen}
use Rattle.grpc_base.specs.Codes.{has_code}
use Rattle.grpc_base.specs.declared.plan.CallPlan.{CallPlan}
use Rattle.grpc_base.specs.declared.plan.CallPlan.TheVariants as plan
use Rattle.grpc_base.specs.declared.plan.Throttle.{Throttle}
use Rattle.session_actions.specs.AttemptEnds.{with_end}
use Rattle.session_actions.specs.Attempts.{commitment, counts_by, is_counted, is_of, is_outstanding, is_queued}
use Rattle.session_actions.specs.Commitments.{is_final_end, is_final_in, is_free_call}
use Rattle.session_actions.specs.Configs.{plan_of}
use Rattle.session_actions.specs.DueAttempts.{has_going, is_final_by, is_licensed, is_licensed_by, last_counted, next_due}
use Rattle.session_actions.specs.Tokens.{run_of}
use Rattle.session_actions.specs.Words.{holds, is_number, numbered}
use Rattle.session_actions.specs.declared.attempt.Attempt.{Attempt}
use Rattle.session_actions.specs.declared.call.Call.{Call}
use Rattle.session_actions.specs.declared.config.ThrottleRun.{ThrottleRun}
use Rattle.session_actions.specs.declared.entry.OpenEntry.{OpenEntry}
use Rattle.session_actions.specs.declared.response.Outcome.{Outcome}
use Rattle.session_actions.specs.declared.seen.Seen.{Seen}
use Rattle.session_order.specs.declared.line.Line.{Line}

-- what is less is not more
less : (x p q : Bool) → (q ≡ true → p ≡ true) → (x && p) ≡ false → (x && q) ≡ false
less true p true turn e = absurd (let both : true ≡ false = sym (turn refl) ∙ e in (cc))
less true p false turn e = refl
less false p q turn e = refl

module _ (later : List (ℕ × RowEnd)) (waits : Line → Bool) (also : List ℕ) (a : Attempt) (out : Outcome) (x : StateSeen) (o : OpenEntry) (s : Seen) (is : EndNext later waits also a out x o s)
    (counting : IsCounting s (c later waits also a out x o s is) out) (free : commitment (c later waits also a out x o s is) s ≡ None) where
  abbrev v : Seen
  v = closing.v later waits also a out x o s is counting

  abbrev k : Call
  k = closing.k later waits also a out x o s is counting

  abbrev dk : Call
  dk = closing.dk later waits also a out x o s is counting

  abbrev end_ : RowEnd
  end_ = e later waits also a out x o s is

  abbrev put_ : Attempt → Attempt
  put_ q = put later waits also a out x o s is q

  -- in the words of calls
  abbrev lent : Stepped
  lent = x2 later waits also a out x o s is

  abbrev seen : Sees s k lent
  seen = sees later waits also a out x o s is

  abbrev order : IsInOrder s k
  order = closing.order later waits also a out x o s is counting

  abbrev turn : IsInTurn s k
  turn = closing.turn later waits also a out x o s is counting

  abbrev t2 : Seen
  t2 = ending.t s k lent a.place a out seen order turn is.ending counting

  same_then : v ≡ t2
  same_then =
      sym (t_is later waits also a out x o s is)
      ∙ ending.is_ended s k lent a.place a out seen order turn is.ending counting

  pub last_then : last_counted dk v ≡ Some a.place
  last_then =
      ap (λ (w : Seen). last_counted dk w) same_then
      ∙ ending.last_then s k lent a.place a out seen order turn is.ending counting

  -- the tokens allow it alike
  throttle_same : option_map (λ (g : ThrottleRun). g.throttle) (run_of dk v) ≡ option_map (λ (g : ThrottleRun). g.throttle) (run_of k s)
  throttle_same =
      ap (λ (w : List ThrottleRun). option_map (λ (g : ThrottleRun). g.throttle) (run_of k (record s { runs = w }))) (closing.runs_are later waits also a out x o s is counting) ∙ throttle_now a.place k s

  pub licensed_same : (number : ℕ) (z : RowEnd) → is_licensed dk number z.code z.pushback z.tokens v ≡ is_licensed k number z.code z.pushback z.tokens s
  licensed_same number z =
      ap (λ (q : Option Throttle). is_licensed_by (plan_of k s) number z.code z.pushback (is_above q z.tokens)) throttle_same

  -- an end that was there before counts as it did
  counts_before : (q : Attempt) (z : RowEnd) → (q.place == a.place) ≡ false → counts_by q v z ≡ counts_by q s z
  counts_before q z off =
      ap (λ (w : Seen). counts_by q w z) same_then
      ∙ frames.counts_same (ending.base s k lent a.place a out seen order turn is.ending counting) k.number
      (λ g. g.messages) (λ g. g.finished) (λ g. g.taken) (λ g. g.end_taken)
      (λ g. g.marks ++ rows.w s k lent a.place a end_ (ending.runs s k lent a.place a out seen order turn is.ending counting) seen
      order (ending.ends s k lent a.place a out seen order turn is.ending counting) is.ending.own ∷ [])
      (λ g. g.end)
      (rows.now_open s k lent a.place a end_ (ending.runs s k lent a.place a out seen order turn is.ending counting) seen
      order (ending.ends s k lent a.place a out seen order turn is.ending counting) is.ending.own)
      q z
      ∙ ap (λ (w : Attempt). counts_by w (ending.base s k lent a.place a out seen order turn is.ending counting) z)
      (sym (ap (λ (b : Bool). record q { row = record q.row { placed = q.row.placed; ended = (if b then Some end_ else q.row.ended) } }) off))
      ∙ ending_frames.counts_same s k a.place a end_ (ending.runs s k lent a.place a out seen order turn is.ending counting)
      (ending.ends s k lent a.place a out seen order turn is.ending counting) q z

  -- which attempts of the call go on
  going_one : (q : Attempt) (b : Bool) → (q.row.call == k.number) ≡ b
      → (is_of dk (put_ q) && (is_outstanding (put_ q) || is_queued (put_ q) v)) ≡ (is_live s k q && not (q.place == a.place))
  going_one q false off =
      ap (λ (m : ℕ). (m == k.number) && (is_outstanding (put_ q) || is_queued (put_ q) v)) (put_call later waits also a out x o s is q)
      ∙ ap (λ (b : Bool). b && (is_outstanding (put_ q) || is_queued (put_ q) v)) off
      ∙ sym (ap (λ (b : Bool). (b && (is_outstanding q || is_queued q s)) && not (q.place == a.place)) off)
  going_one q true own =
      let queued : is_queued (put_ q) v ≡ (is_queued q s && not (q.place == a.place))
      = ap (λ (b : Bool). b && is_queued (put_ q) v) (sym own) ∙ waits_one later waits also a out x o s is counting.goes_on free q true own
      ∙ ap (λ (b : Bool). (b && is_queued q s) && not (q.place == a.place)) own in
      ap (λ (m : ℕ). (m == k.number) && (is_outstanding (put_ q) || is_queued (put_ q) v)) (put_call later waits also a out x o s is q)
      ∙ ap (λ (b : Bool). (q.row.call == k.number) && (b || is_queued (put_ q) v)) (put_out later waits also a out x o s is q)
      ∙ ap (λ (b : Bool). (q.row.call == k.number) && ((is_outstanding q && not (q.place == a.place)) || b)) queued
      ∙ split (q.row.call == k.number) (is_outstanding q) (is_queued q s) (not (q.place == a.place))
    where
      split : (mine out_ queued off : Bool) → (mine && ((out_ && off) || (queued && off))) ≡ ((mine && (out_ || queued)) && off)
      split true true queued true = refl
      split true true queued false = and_right queued false refl
      split true false queued off = refl
      split false out_ queued off = refl

  pub going_then : has_going dk v ≡ list_any (λ (q : Attempt). is_live s k q && not (q.place == a.place)) s.attempts
  going_then =
      ap (list_any (λ (q : Attempt). is_of dk q && (is_outstanding q || is_queued q v))) (attempts_are later waits also a out x o s is)
      ∙ any_map_all (λ (q : Attempt). is_of dk q && (is_outstanding q || is_queued q v)) (λ (q : Attempt). is_live s k q && not (q.place == a.place)) put_
      (λ q. going_one q (q.row.call == k.number) refl) s.attempts

  -- one that was there before
  was_last : (p : CallPlan) (q : Attempt) (z : RowEnd) → (q.place == a.place) ≡ false → is_final_by p dk q v z ≡ true → is_final_by p k q s z ≡ true
  was_last plan.None q z off e = refl
  was_last (plan.Retry p) q z off e = ap not (sym (licensed_same q.row.number z)) ∙ e
  was_last (plan.Hedge p) q z off e =
      let none : is_number q.place (last_counted dk v) ≡ false = ap (is_number q.place) last_then ∙ turned q.place a.place off in
      let only : not (has_code p.codes z.code) ≡ true
      = or_off (not (has_code p.codes z.code)) (is_none (next_due dk v)) (not (has_going dk v))
      (ap (λ (b : Bool). not (has_code p.codes z.code) || (b && is_none (next_due dk v) && not (has_going dk v))) (sym none) ∙ e) in
      ap (λ (b : Bool). b || (is_number q.place (last_counted k s) && is_none (next_due k s) && not (has_going k s))) only
    where
      or_off : (p q r : Bool) → (p || (false && q && r)) ≡ true → p ≡ true
      or_off true q r e = refl
      or_off false q r e = absurd (cc)

      turned : (m n : ℕ) → (m == n) ≡ false → (n == m) ≡ false
      turned m n e = grind (arith, nat_tests, e)

  pub free_both : is_free_call v dk ≡ is_free_call s k
  free_both =
      ap (λ (q : Option Attempt). is_none k.end && is_none q) (free_then later waits also a out x o s is counting.goes_on free) ∙ sym (ap (λ (q : Option Attempt). is_none k.end && is_none q) free)

  pub ended_by : (q : Attempt) (r : Option RowEnd) → q.row.ended ≡ r → (q.place == a.place) ≡ false → is_final_in q s k ≡ false → is_final_in q v dk ≡ false
  ended_by q None e off was =
      ap (λ (r : Option RowEnd). (is_free_call v dk && is_counted q v) && holds (is_final_by (plan_of k s) dk q v) r) e ∙ and_right (is_free_call v dk && is_counted q v) false refl
  ended_by q (Some z) e off was =
      ap (λ (r : Option RowEnd). (is_free_call v dk && holds (counts_by q v) r) && holds (is_final_by (plan_of k s) dk q v) r) e
      ∙ ap (λ (b : Bool). (b && counts_by q v z) && is_final_by (plan_of k s) dk q v z) free_both
      ∙ ap (λ (b : Bool). (is_free_call s k && b) && is_final_by (plan_of k s) dk q v z) (counts_before q z off)
      ∙ less (is_free_call s k && counts_by q s z) (is_final_by (plan_of k s) k q s z) (is_final_by (plan_of k s) dk q v z) (was_last (plan_of k s) q z off)
      (sym (ap (λ (r : Option RowEnd). (is_free_call s k && holds (counts_by q s) r) && holds (is_final_by (plan_of k s) k q s) r) e) ∙ was)

  -- so no end of another attempt is final
  pub other_final : (i : ℕ) (q : Attempt) (g : Bool) → slice_get v.attempts i ≡ Some q → (q.row.call == k.number) ≡ g → (q.place == a.place) ≡ false → list_any (is_final_end s) s.attempts ≡ false
      → is_final_end v q ≡ false
  other_final i q true at own off none =
      let from : IsFrom put_ s.attempts i q = from_map put_ s.attempts i q (ap (λ (xs : List Attempt). slice_get xs i) (sym (attempts_are later waits also a out x o s is)) ∙ at) in
      let away : (from.one.place == a.place) ≡ false = ap (λ (j : ℕ). j == a.place) (sym (put_place later waits also a out x o s is from.one) ∙ ap (λ (b : Attempt). b.place) (sym from.is)) ∙ off in
      let same : q ≡ from.one = from.is ∙ ap (λ (g : Bool). if g then with_end end_ from.one else from.one) away in
      let was : is_final_in q s k ≡ false
      = sym (ap (holds (λ (g : Call). is_final_in q s g)) (ap (numbered s.calls) (eqb-true q.row.call k.number own) ∙ here later waits also a out x o s is))
      ∙ numbered_not (is_final_end s) s.attempts (suc i) q none (from.there ∙ ap (λ (b : Attempt). Some b) (sym same)) in
      ap (holds (λ (g : Call). is_final_in q v g)) (ap (numbered v.calls) (eqb-true q.row.call k.number own) ∙ d_here later waits also a out x o s is)
      ∙ ended_by q q.row.ended refl off was
  other_final i q false at own off none =
      final_none k.number (x1 later waits also a out x o s is) s v (apart_one later waits also a out x o s is) (books later waits also a out x o s is).calls
      (closing.kept later waits also a out x o s is counting) (closing.kept_one later waits also a out x o s is counting) i q at own none
