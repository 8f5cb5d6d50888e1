-- A transparent retry of a call that is not committed: the retry is made, and that is all.
use Rattle.std.proofs.Common.{◌≡◌, ◌≤◌, ◌&&◌, ◌||◌, ◌==◌, ◌+◌, ◌++◌, ◌∷◌, not, ap, arith, refl, sym, ◌∙◌, Bool, true, false, List, [], Option, None, Some, ℕ, suc, if◌then◌else◌, is_none, is_some, length, nat_lt, slice_get}
use Rattle.std.proofs.lemmas.Bool.{and_right, eq-eqb, eqb-true}
use Rattle.std.proofs.lemmas.Bool.Decides.{nat_tests}
use Rattle.std.proofs.lemmas.List.Folds.{list_any-append}
use Rattle.std.specs.Option.{option_map_or}
use Rattle.attempt_ledger.specs.Ends.{is_cut}
use Rattle.attempt_ledger.specs.declared.ledger.CallEnd.{CallEnd}
use Rattle.attempt_ledger.specs.declared.row.RowEnd.{RowEnd}
use Rattle.call_actions.proofs.Lists.{numbered_not}
use Rattle.call_actions.proofs.Ranks.{find_last_more}
use Rattle.call_actions.specs.CallsApart.Apart.{run_number}
use Rattle.end_cases.proofs.AttemptEnds.After.{free_then}
use Rattle.end_cases.proofs.AttemptEnds.Base.{c, call_is, e, here}
use Rattle.end_cases.proofs.AttemptEnds.Lists.{any_last, any_more, snoc_by, within}
use Rattle.end_cases.proofs.AttemptEnds.OneEnded as first
use Rattle.end_cases.proofs.EndRetries.Next as retry
use Rattle.end_cases.proofs.EndRetries.Next.{Leads, Retry}
use Rattle.call_cases.proofs.ConfiguredCalls.Lists.{changed_length}
use Rattle.end_cases.specs.AttemptEnds.Ends.{EndNext}
use Rattle.channel_core.specs.States.{StateSeen}
use Rattle.grpc_base.specs.Codes.{has_code}
use Rattle.grpc_base.specs.declared.plan.CallPlan.{CallPlan}
use Rattle.grpc_base.specs.declared.plan.CallPlan.TheVariants as plan
use Rattle.session_actions.specs.AttemptEnds.{with_end, with_end_in_run}
use Rattle.session_actions.specs.Attempts.{commitment, counts_by, is_commitment, is_counted, is_followed, is_later_of, is_of, is_outstanding, is_over, is_over_in, is_queued, is_to_follow, wants_follower, wants_follower_by}
use Rattle.session_actions.specs.CallEnds.{has_long_response, is_over_by_row}
use Rattle.session_actions.specs.Calls.{is_open_call}
use Rattle.session_actions.specs.Commitments.{is_final_end, is_final_in, is_free_call, is_inherited, is_inherited_by, is_inherited_in}
use Rattle.session_actions.specs.Configs.{plan_of}
use Rattle.session_actions.specs.DueAttempts.{has_going, is_final_by, is_licensed_by, last_counted, next_due}
use Rattle.session_actions.specs.Responses.{response}
use Rattle.session_actions.specs.Tokens.{allows_attempt}
use Rattle.session_actions.specs.Words.{changed, holds, is_number, numbered}
use Rattle.session_actions.specs.declared.attempt.Attempt.{Attempt}
use Rattle.session_actions.specs.declared.call.Call.{Call}
use Rattle.session_actions.specs.declared.call.MarkKind.TheVariants as mark
use Rattle.session_actions.specs.declared.config.ThrottleRun.{ThrottleRun}
use Rattle.session_actions.specs.declared.entry.OpenEntry.{OpenEntry}
use Rattle.session_actions.specs.declared.response.Outcome.{Outcome}
use Rattle.session_actions.specs.declared.seen.Seen.{Seen}
use Rattle.session_order.proofs.Lists.{any_same, holds_same}
use Rattle.session_order.proofs.Queues.{marked_still}
use Rattle.session_order.specs.declared.line.Line.{Line}
use Rattle.session_order.specs.declared.line.Line.TheVariants as line

less_final : (f c1 c2 l1 l2 : Bool) → (c1 ≡ true → c2 ≡ true) → (l1 ≡ true → l2 ≡ true) → (c2 && l2) ≡ false → ((f && c1) && l1) ≡ false
less_final f true c2 true l2 one two e =
    let both : true ≡ false = sym (ap (λ (b : Bool). b && l2) (one refl) ∙ two refl) ∙ e in absurd (cc)
less_final f true c2 false l2 one two e = and_right (f && true) false refl
less_final f false c2 l1 l2 one two e = ap (λ (b : Bool). b && l1) (and_right f false refl)

not_so : (b : Bool) → not b ≡ true → b ≡ false
not_so false e = refl
not_so true e = absurd (cc)

or_off : (a b : Bool) → (a || b) ≡ false → a ≡ false
or_off false b e = refl
or_off true b e = absurd (cc)

parts_of : (p q r : Bool) → ((p && q) && r) ≡ true → (p ≡ true) × (q ≡ true)
parts_of true true true e = (refl, refl)
parts_of true true false e = absurd (cc)
parts_of true false r e = absurd (cc)
parts_of false q r e = absurd (cc)

code_off : (n d g : Bool) → (n || (d && not g)) ≡ true → g ≡ true → n ≡ true
code_off true d g e f = refl
code_off false true true e f = absurd (cc)
code_off false true false e f = absurd (cc)
code_off false false g e f = absurd (cc)

pub just_before : (m k : ℕ) → m ≤ k → nat_lt m (k + 1) ≡ true
just_before m k e = grind (arith, nat_tests, e)

module _ (later : List (ℕ × RowEnd)) (waits : Line → Bool) (also : List ℕ) (a : Attempt) (out : Outcome) (x : StateSeen) (o : OpenEntry) (s : Seen) (is : EndNext later waits also a out x o s)
    (going : (c later waits also a out x o s is).end ≡ None) (follows : is_to_follow (c later waits also a out x o s is) out.cause out.unseen s ≡ true) where
  abbrev k : Call
  k = c later waits also a out x o s is

  abbrev n : ℕ
  n = k.number

  abbrev v : Seen
  v = retry.v later waits also a out x o s is going follows

  abbrev end_ : RowEnd
  end_ = e later waits also a out x o s is

  abbrev then_ : Attempt
  then_ = with_end end_ a

  -- the retry is a later one of the attempt
  pub after_it : nat_lt a.place (length v.attempts + 1) ≡ true
  after_it = just_before a.place (length v.attempts) (within v.attempts a.place then_ (first.one_there later waits also a out x o s is))

  pub comes_later : is_later_of then_ (retry.new later waits also a out x o s is going follows) ≡ true
  comes_later =
      ap (λ (b : Bool). (b && (a.row.number == a.row.number)) && nat_lt a.place (length v.attempts + 1)) (eqb-turned a.row.call n (call_is later waits also a out x o s is))
      ∙ ap (λ (b : Bool). b && nat_lt a.place (length v.attempts + 1)) (eq-eqb a.row.number a.row.number refl) ∙ after_it
    where
      eqb-turned : (m i : ℕ) → m ≡ i → (i == m) ≡ true
      eqb-turned m i e = eq-eqb i m (sym e)

  -- no end was counted
  pub runs_same : v.runs ≡ s.runs
  runs_same =
      ap (λ (q : Option Call). (option_map_or (with_end_in_run a end_ s) q s).runs) is.there
      ∙ ap (λ (b : Bool). (if b then option_map_or (λ (run : ℕ). record s { runs = changed (λ (u : ThrottleRun). record u { ends = u.ends ++ a.place ∷ [] }) run s.runs })
      (run_number k s) s else s).runs) (ap (λ (b : Bool). not (is_cut out.cause) && not b) follows ∙ and_right (not (is_cut out.cause)) false refl)

  module _ (free : commitment k s ≡ None) where
    abbrev pub r : Retry later waits also a out x o s is going follows
    r = record {
      actions = retry.makes later waits also a out x o s is going follows ∷ [];
      calls = changed (retry.noted later waits also a out x o s is going follows) n v.calls;
      marks = (retry.dt later waits also a out x o s is going follows).marks;
      stamp = None;
    }

    abbrev pub new : Attempt
    new = retry.fresh later waits also a out x o s is going follows r

    abbrev added : Seen
    added = retry.grown later waits also a out x o s is going follows r

    abbrev pub t : Seen
    t = retry.done later waits also a out x o s is going follows r

    abbrev pub dt : Call
    dt = retry.its later waits also a out x o s is going follows r

    commitment_same : (g : Call) → commitment g added ≡ commitment g v
    commitment_same g = find_last_more (is_commitment g) v.attempts new (and_right (is_of g new) false refl)

    pub free_now : commitment dt t ≡ None
    free_now = commitment_same k ∙ free_then later waits also a out x o s is going free

    over_same : (q : Attempt) → is_over q added ≡ is_over q v
    over_same q =
        holds_same (λ (g : Call). is_over_in g q added) (λ (g : Call). is_over_in g q v)
        (λ g. ap (λ (r : Option Attempt). is_some g.end || holds (λ (b : Attempt). not (b.row.number == q.row.number)) r) (commitment_same g)) (numbered v.calls q.row.call)

    long_same : (g : Call) → has_long_response added g ≡ has_long_response v g
    long_same g = ap (λ (r : Option Attempt). is_open_call g && holds (λ (q : Attempt). is_outstanding q && (response q v).large) r) (commitment_same g)

    inherited_same : (q : Attempt) → is_inherited added q ≡ is_inherited v q
    inherited_same q =
        ap (λ (b : Bool). is_none q.row.committed && b)
        (holds_same (is_inherited_in q added) (is_inherited_in q v) (λ g. ap (λ (r : Option Attempt). is_none g.end && holds (is_inherited_by q) r) (commitment_same g)) (numbered v.calls q.row.call))

    inherited_new : is_inherited added new ≡ false
    inherited_new =
        ap (holds (is_inherited_in new added)) (retry.dk_here later waits also a out x o s is going follows)
        ∙ ap (λ (r : Option Attempt). is_none k.end && holds (is_inherited_by new) r) free_now ∙ and_right (is_none k.end) false refl

    row_then : is_over_by_row t dt ≡ false
    row_then = ap (λ (r : Option Attempt). is_none k.end && holds (λ (q : Attempt). is_counted q t) r) free_now ∙ and_right (is_none k.end) false refl

    -- no end is final that was not
    going_new : (is_of dt new && (is_outstanding new || is_queued new t)) ≡ true
    going_new =
        ap (λ (b : Bool). b && (is_outstanding new || is_queued new t)) (eq-eqb n n refl)
        ∙ ap not (ap (holds (λ (g : Call). is_over_in g new t)) (retry.dt_here later waits also a out x o s is going follows)
        ∙ ap (λ (z : Option CallEnd). is_some z || holds (λ (b : Attempt). not (b.row.number == new.row.number)) (commitment dt t)) going
        ∙ ap (holds (λ (b : Attempt). not (b.row.number == new.row.number))) free_now)

    goes_on : has_going dt t ≡ true
    goes_on = any_last (λ (q : Attempt). is_of dt q && (is_outstanding q || is_queued q t)) v.attempts new going_new

    final_so : (p : CallPlan) (q : Attempt) (z : RowEnd) → is_final_by p dt q t z ≡ true → is_final_by p k q s z ≡ true
    final_so plan.None q z h = refl
    final_so (plan.Retry p) q z h =
        ap (λ (rs : List ThrottleRun). not (is_licensed_by (plan_of k s) q.row.number z.code z.pushback (allows_attempt k z.tokens (record s { runs = rs })))) (sym runs_same) ∙ h
    final_so (plan.Hedge p) q z h =
        ap (λ (b : Bool). b || (is_number q.place (last_counted k s) && is_none (next_due k s) && not (has_going k s)))
        (code_off (not (has_code p.codes z.code)) (is_number q.place (last_counted dt t) && is_none (next_due dt t)) (has_going dt t) h goes_on)

    counts_so : (i : ℕ) (q : Attempt) (z : RowEnd) → numbered s.attempts (suc i) ≡ Some q → q.row.ended ≡ Some z → counts_by q t z ≡ true → counts_by q s z ≡ true
    counts_so i q z there at h =
        let parts = parts_of (not (is_cut z.cause)) (not (is_followed q t)) (not (wants_follower_by q t z)) h in
        let none : is_followed q v ≡ false = or_off (is_followed q v) _ (sym (list_any-append (is_later_of q) v.attempts (new ∷ [])) ∙ not_so (is_followed q t) parts.1) in
        let wants : wants_follower_by q s z ≡ false
        = sym (ap (holds (wants_follower_by q s)) at)
        ∙ numbered_not (λ (b : Attempt). wants_follower b s) s.attempts (suc i) q (first.was_still later waits also a out x o s is line.Transparent refl refl) there in
        ap (λ (b : Bool). (b && not (is_followed q s)) && not (wants_follower_by q s z)) parts.0
        ∙ ap (λ (b : Bool). not b && not (wants_follower_by q s z)) (sym (retry.followed_same later waits also a out x o s is going follows q) ∙ none) ∙ ap not wants

    was_free : is_free_call s k ≡ true
    was_free = ap (λ (q : Option CallEnd). is_none q && is_none (commitment k s)) going ∙ ap (λ (q : Option Attempt). is_none q) free

    final_was : (i : ℕ) (q : Attempt) (z : RowEnd) → numbered s.attempts (suc i) ≡ Some q → (q.row.call == n) ≡ true → q.row.ended ≡ Some z
        → (counts_by q s z && is_final_by (plan_of k s) k q s z) ≡ false
    final_was i q z there own at =
        sym (ap (holds (λ (g : Call). is_final_in q s g)) (ap (numbered s.calls) (eqb-true q.row.call n own) ∙ here later waits also a out x o s is)
        ∙ ap (λ (b : Bool). (b && is_counted q s) && holds (is_final_by (plan_of k s) k q s) q.row.ended) was_free
        ∙ ap (λ (r : Option RowEnd). holds (counts_by q s) r && holds (is_final_by (plan_of k s) k q s) r) at)
        ∙ numbered_not (is_final_end s) s.attempts (suc i) q (first.was_still later waits also a out x o s is line.Final refl refl) there

    -- the attempt that ended is followed now
    not_counted : (z : RowEnd) → counts_by then_ t z ≡ false
    not_counted z =
        ap (λ (b : Bool). (not (is_cut z.cause) && not b) && not (wants_follower_by then_ t z)) (any_last (is_later_of then_) v.attempts new comes_later)
        ∙ ap (λ (b : Bool). b && not (wants_follower_by then_ t z)) (and_right (not (is_cut z.cause)) false refl)

    final_old : (i : ℕ) (q : Attempt) (z : RowEnd) (b : Bool) → slice_get v.attempts i ≡ Some q → (q.row.call == n) ≡ true → q.row.ended ≡ Some z → (q.place == a.place) ≡ b
        → ((is_free_call t dt && counts_by q t z) && is_final_by (plan_of k s) dt q t z) ≡ false
    final_old i q z true at own ended here_ =
        ap (λ (g : Attempt). (is_free_call t dt && counts_by g t z) && is_final_by (plan_of k s) dt g t z) (first.the_one later waits also a out x o s is i q at here_)
        ∙ ap (λ (b : Bool). (is_free_call t dt && b) && is_final_by (plan_of k s) dt then_ t z) (not_counted z)
        ∙ ap (λ (b : Bool). b && is_final_by (plan_of k s) dt then_ t z) (and_right (is_free_call t dt) false refl)
    final_old i q z false at own ended off =
        let there : numbered s.attempts (suc i) ≡ Some q = retry.was_there later waits also a out x o s is going follows i q at off in
        less_final (is_free_call t dt) (counts_by q t z) (counts_by q s z) (is_final_by (plan_of k s) dt q t z) (is_final_by (plan_of k s) k q s z)
        (counts_so i q z there ended) (final_so (plan_of k s) q z) (final_was i q z there own ended)

    final_by : (i : ℕ) (q : Attempt) (e : Option RowEnd) → q.row.ended ≡ e → slice_get (v.attempts ++ new ∷ []) i ≡ Some q → (q.row.call == n) ≡ true → is_final_in q t dt ≡ false
    final_by i q None ended at own =
        ap (λ (e : Option RowEnd). (is_free_call t dt && holds (counts_by q t) e) && holds (is_final_by (plan_of k s) dt q t) e) ended ∙ and_right (is_free_call t dt && false) false refl
    final_by i q (Some z) ended at own =
        ap (λ (e : Option RowEnd). (is_free_call t dt && holds (counts_by q t) e) && holds (is_final_by (plan_of k s) dt q t) e) ended
        ∙ snoc_by v.attempts new i q at (((is_free_call t dt && counts_by q t z) && is_final_by (plan_of k s) dt q t z) ≡ false)
        (λ old. final_old i q z (q.place == a.place) old own ended refl)
        (λ same. (let none : None ≡ Some z = ap (λ (g : Attempt). g.row.ended) same ∙ ended in absurd (cc)))

    pub leads : Leads later waits also a out x o s is going follows r
    leads = record {
      does = retry.does_two later waits also a out x o s is going follows;
      of_call = retry.of_call_two later waits also a out x o s is going follows;
      posts = refl;
      netless = refl;
      here = retry.dt_here later waits also a out x o s is going follows;
      count = changed_length (retry.noted later waits also a out x o s is going follows) n v.calls;
      reported = λ l off h. marked_still added n (λ (g : Call). g.marks ++ record { what = mark.Made (length v.attempts + 1); moment = retry.at later waits also a out x o s is going follows } ∷ [])
          l (retry.p later waits also a out x o s is going follows) off h;
      turn = retry.turn_two later waits also a out x o s is going follows;
      quiescent = retry.quiescent_two later waits also a out x o s is going follows;
      over = over_same;
      free = λ g. ap (λ (r : Option Attempt). is_none r) (commitment_same g);
      long = λ g h. long_same g ∙ h;
      inherited = any_more (is_inherited added) v.attempts new inherited_new ∙ any_same (is_inherited added) (is_inherited v) inherited_same v.attempts
          ∙ retry.uninherited later waits also a out x o s is going follows;
      row = row_then;
      final = λ i q at own. final_by i q q.row.ended refl at own;
      tokens = λ i there. retry.tokens_two later waits also a out x o s is going follows i there;
    }
