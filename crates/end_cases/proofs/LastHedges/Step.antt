-- A hedge is withheld where no attempt of its call goes on: in the session HedgeWithheld, CallCommitted of the attempt whose end counted last, and CallEnds. The states that come by
-- that, and what the call is in the end.
use Rattle.attempt_ledger.specs.Numbering.{most_attempts}
use Rattle.attempt_ledger.specs.declared.ledger.CallEnd.{CallEnd}
use Rattle.attempt_ledger.specs.declared.ledger.Ledger.{Ledger}
use Rattle.attempt_ledger.specs.declared.row.RowEnd.{RowEnd}
use Rattle.call_actions.proofs.CallsInTurn.Posts.{withheld_keep}
use Rattle.call_actions.proofs.CallsInTurn.Rows.{committing_keeps}
use Rattle.call_actions.proofs.Dues.{attempts_are_due, hedges_are_tested}
use Rattle.call_actions.proofs.LastEnds.LastWithheld.{withheld_hedges_end}
use Rattle.call_actions.proofs.Lists.{changed_here, filter_none}
use Rattle.call_actions.proofs.TakeActions.CutSees.{all_at}
use Rattle.call_actions.specs.CallsApart.Apart.{IsBook}
use Rattle.call_actions.specs.CallsInTurn.Turns.{IsSteady, StaysInOrder, StaysSteady}
use Rattle.call_actions.specs.LastEnds.Laws.{ClosesByLast}
use Rattle.call_actions.specs.Order.{IsInOrder, IsInTurn, Keeps, is_own_mark}
use Rattle.call_actions.specs.Sees.{Sees, is_live, live_row}
use Rattle.call_actions.specs.TakeActions.Serves.{came}
use Rattle.call_core.specs.Going.{IsGoing}
use Rattle.call_core.specs.Steps as steps
use Rattle.call_core.specs.Steps.{Stepped, lent}
use Rattle.call_cases.proofs.EndsFollow.Codes.{response_by_limit}
use Rattle.channel_actions.proofs.Settles.{with_open}
use Rattle.channel_actions.proofs.Calls.Sound.Keeping.{goes_on}
use Rattle.channel_actions.proofs.Stamps.{counted_at}
use Rattle.channel_actions.specs.Agrees.{Agrees}
use Rattle.channel_actions.specs.Calls.{HasSlot, ledger_lent, lent_to}
use Rattle.channel_actions.specs.GoingCalls.Going.{GoesOn}
use Rattle.end_cases.proofs.AttemptEnds.Agreeing.{none_of}
use Rattle.call_cases.proofs.CommitsFollow.Newest.{new_last}
use Rattle.end_cases.proofs.EndedHeads.Along.{ended_headless}
use Rattle.call_cases.proofs.FullSends.Headless.{no_items}
use Rattle.end_cases.proofs.LastHedges.Channel.{IsRefused, ended_last, made_last}
use Rattle.attempt_cases.proofs.MakingSteps.WithheldNow.{IsWithheldNow, MakesSome, either}
use Rattle.call_cases.specs.SettlingActions.Sound.{IsSound}
use Rattle.channel_core.specs.States.{StateSeen}
use Rattle.channel_core.specs.Tables.{tokens_in}
use Rattle.channel_core.specs.declared.state.slots.CallSlot.{CallSlot}
use Rattle.grpc_base.specs.Limits.{message_limit}
use Rattle.grpc_base.specs.declared.event.EndCause.TheVariants as ending_cause
use Rattle.grpc_base.specs.declared.plan.CallPlan.{CallPlan}
use Rattle.session_actions.specs.Actions.{following}
use Rattle.session_actions.specs.Attempts.{commitment, counts_by, is_commitment, is_counted, is_of, wants_follower, with_attempt}
use Rattle.session_actions.specs.CallEnds.{call_ended}
use Rattle.session_actions.specs.Calls.{marked}
use Rattle.session_actions.specs.Commitments.{call_committed, with_commitment}
use Rattle.session_actions.specs.Configs.{chosen_of, plan_of}
use Rattle.session_actions.specs.Deliveries.{response_items}
use Rattle.session_actions.specs.DueAttempts.{attempts_made, counted_row, due_state, has_going, hedge_due, last_counted}
use Rattle.session_actions.specs.Entries.{entry, now}
use Rattle.session_actions.specs.Making.{due_action}
use Rattle.session_actions.specs.Responses.{limit_of_attempt, response}
use Rattle.session_actions.specs.Words.{changed, holds, numbered}
use Rattle.session_actions.specs.declared.action.Action.TheVariants as action
use Rattle.session_actions.specs.declared.action.Action.{Action}
use Rattle.session_actions.specs.declared.action.CommitCause.TheVariants as commit
use Rattle.session_actions.specs.declared.attempt.Attempt.{Attempt}
use Rattle.session_actions.specs.declared.call.Call.{Call}
use Rattle.session_actions.specs.declared.call.Mark.{Mark}
use Rattle.session_actions.specs.declared.call.MarkKind.TheVariants as mark
use Rattle.session_actions.specs.declared.call.MarkKind.{MarkKind}
use Rattle.session_actions.specs.declared.due.DueState.{DueState}
use Rattle.session_actions.specs.declared.entry.OpenEntry.{OpenEntry}
use Rattle.session_actions.specs.declared.seen.Seen.{Seen}
use Rattle.session_order.specs.Quiescent.{IsStill}
use Rattle.session_order.specs.declared.line.Line.TheVariants as line
use Rattle.session_order.specs.declared.line.Line.{Line}
use Rattle.std.proofs.Common.{◌⊎◌, inl, inr, Bool, List, None, Option, Some, [], ap, arith, eqb-true, false, filter_map, if◌then◌else◌, is_some, length, map, nat_le, nat_lt, option_map, refl, subst, sym, true, ℕ, ◌&&◌, ◌++◌, ◌||◌, ◌∙◌, ◌∷◌, ◌≡◌}
use Rattle.std.proofs.lemmas.Bool.Decides.{nat_tests}
use Rattle.std.proofs.lemmas.Bool.{and_parts, or_right}
use Rattle.std.specs.List.{AllByRecursion, cons_option, list_all, list_any}
use Rattle.std.specs.Option.{option_map_or, option_or}

pub record LastHedge (x : StateSeen) (o : OpenEntry) (s : Seen) : Type 0 where
  pub agrees : Agrees x s
  pub sound : IsSound x s
  pub call : Call
  pub there : numbered s.calls call.number ≡ Some call
  pub none_goes : has_going call s ≡ false
  pub due_is : due_action s call ≡ Some (action.HedgeWithheld call.number)
  pub next : following s ≡ Some (action.HedgeWithheld call.number)
  pub quiescent : (l : Line) → IsStill l o s

-- the attempt whose end counted last
pub record Found (s : Seen) (c : Call) (place : ℕ) : Type 0 where
  pub a : Attempt
  pub there : numbered s.attempts place ≡ Some a
  pub mine : is_of c a ≡ true
  pub counts : is_counted a s ≡ true

found_by : (s : Seen) (c : Call) (row : ℕ) (o : Option Attempt) → numbered s.attempts row ≡ o → holds (λ (a : Attempt). is_of c a && is_some a.row.ended) o ≡ true
    → holds (λ (a : Attempt). is_counted a s) o ≡ true → Found s c row
found_by s c row None e own counts = absurd (cc)
found_by s c row (Some a) e own counts = record { a = a; there = e; mine = (and_parts (is_of c a) (is_some a.row.ended) own).0; counts = counts }

row_if : (row p : ℕ) (b : Bool) → (if b then Some row else None) ≡ Some p → (row ≡ p) × (b ≡ true)
row_if row p true e = ((cc), refl)
row_if row p false e = absurd (cc)

found_of : (s : Seen) (c : Call) (w : MarkKind) → is_own_mark s c w ≡ true → (p : ℕ) → counted_row s w ≡ Some p → Found s c p
found_of s c mark.Configured own p e = absurd (cc)
found_of s c (mark.Made row) own p e = absurd (cc)
found_of s c (mark.Placed row) own p e = absurd (cc)
found_of s c (mark.Ended row) own p e =
    let two : (row ≡ p) × (holds (λ (a : Attempt). is_counted a s) (numbered s.attempts row) ≡ true)
    = row_if row p (holds (λ (a : Attempt). is_counted a s) (numbered s.attempts row)) e in
    subst (Found s c) two.0 (found_by s c row (numbered s.attempts row) refl own two.1)
found_of s c mark.Withheld own p e = absurd (cc)
found_of s c mark.Committed own p e = absurd (cc)
found_of s c mark.Closed own p e = absurd (cc)

gives_one : (P : ℕ → Type 0) (o : Option ℕ) (l : List ℕ) → ((p : ℕ) → o ≡ Some p → P p) → AllByRecursion P l → AllByRecursion P (cons_option o l)
gives_one P None l each rest = rest
gives_one P (Some p) l each rest = (each p refl, rest)

gives_all : (P : ℕ → Type 0) (f : Mark → Option ℕ) (good : Mark → Bool) → ((m : Mark) → good m ≡ true → (p : ℕ) → f m ≡ Some p → P p) → (marks : List Mark)
    → list_all good marks ≡ true → AllByRecursion P (filter_map f marks)
gives_all P f good each [] e = tt
gives_all P f good each (m ∷ marks) e =
    let both : (good m ≡ true) × (list_all good marks ≡ true) = and_parts (good m) (list_all good marks) e in
    gives_one P (f m) (filter_map f marks) (each m both.0) (gives_all P f good each marks both.1)

found_last : (s : Seen) (c : Call) (place : ℕ) → IsInOrder s c → last_counted c s ≡ Some place → Found s c place
found_last s c place order e =
    all_at (Found s c) (filter_map (λ (m : Mark). counted_row s m.what) c.marks) (length (filter_map (λ (m : Mark). counted_row s m.what) c.marks)) place
    (gives_all (Found s c) (λ (m : Mark). counted_row s m.what) (λ (m : Mark). is_own_mark s c m.what) (λ m own p e. found_of s c m.what own p e) c.marks order.marks) e

-- what the line gives
withheld_by : (s : Seen) (c : Call) → ((action.HedgeWithheld c.number ≡ action.HedgeWithheld c.number) × IsWithheldNow s c c.number) ⊎ MakesSome c.number (action.HedgeWithheld c.number)
    → IsWithheldNow s c c.number
withheld_by s c (inl is) = is.1
withheld_by s c (inr m) = let bad : action.HedgeWithheld c.number ≡ action.AttemptMade c.number m.nth m.why m.due = m.is in absurd (cc)

not_ahead : (due moment : ℕ) → nat_le due moment ≡ true → nat_lt moment due ≡ false
not_ahead due moment e = grind (arith, nat_tests)

none_by : {X Y : Type 0} (f : X → Y) (o : Option X) (p : Option Y) → o ≡ None → option_map f o ≡ p → p ≡ None
none_by f o p e same = sym same ∙ ap (option_map f) e

off_by : {X : Type 0} (o : Option X) → is_some o ≡ false → o ≡ None
off_by None e = refl
off_by (Some x) e = absurd (cc)

some_or : (p q : Bool) → q ≡ true → (p || q) ≡ true
some_or p q e = or_right p q e

-- a call that may have more attempts is not committed
goes_by : (p : CallPlan) (made : ℕ) (d : DueState) (due : ℕ) (b : Bool) → d.stopped ≡ b → (if b || nat_le (most_attempts p) made then None else option_or d.forced (hedge_due p d)) ≡ Some due
    → b ≡ false
goes_by p made d due false e some = refl
goes_by p made d due true e some = absurd (cc)

module _ (x : StateSeen) (o : OpenEntry) (s0 : Seen) (k : LastHedge x o (with_open o s0)) where
  abbrev pub s : Seen
  s = with_open o s0

  abbrev pub c : Call
  c = k.call

  abbrev pub n : ℕ
  n = c.number

  abbrev pub own : HasSlot x s c n
  own = k.agrees.calls.each n c k.there

  abbrev pub slot : CallSlot
  slot = own.slot

  abbrev pub lent_now : Stepped
  lent_now = lent_to x s slot

  abbrev pub seen : Sees s c lent_now
  seen = own.sees.serves.sees

  abbrev pub order : IsInOrder s c
  order = own.sees.order

  -- no attempt of it goes on
  pub no_live : list_any (is_live s c) s.attempts ≡ false
  no_live = k.none_goes

  pub none_live : slot.call.live ≡ []
  none_live = sym seen.live ∙ ap (map live_row) (filter_none (is_live s c) (is_live s c) (λ q h. h) s.attempts no_live)

  going : IsGoing slot.call
  going = (all_at (λ (z : CallSlot). GoesOn z.call) x.book.calls n slot (goes_on x k.sound.calls).calls own.there).going

  pub now_is : IsWithheldNow s c n
  now_is = withheld_by s c (either s c (action.HedgeWithheld n) k.due_is)

  pub closes : ClosesByLast s c (steps.made_due (now s) lent_now)
  closes = withheld_hedges_end s c lent_now seen order going none_live k.due_is

  pub found : Found s c closes.place
  found = found_last s c closes.place order closes.last

  abbrev pub a : Attempt
  a = found.a

  place : a.place ≡ closes.place
  place = counted_at (λ (z : Attempt). z.place) s.attempts closes.place a k.agrees.kept.attempts found.there

  pub a_there : numbered s.attempts a.place ≡ Some a
  a_there = ap (numbered s.attempts) place ∙ found.there

  pub a_mine : is_of c a ≡ true
  a_mine = found.mine

  pub a_call : a.row.call ≡ n
  a_call = eqb-true a.row.call n a_mine

  pub a_counts : is_counted a s ≡ true
  a_counts = found.counts

  pub last_is : last_counted c s ≡ Some a.place
  last_is = closes.last ∙ ap (λ (m : ℕ). Some m) (sym place)

  -- its end
  pub record HasEnd : Type 0 where
    pub e : RowEnd
    pub is : a.row.ended ≡ Some e
    pub counts : counts_by a s e ≡ true

  end_by : (r : Option RowEnd) → a.row.ended ≡ r → holds (counts_by a s) r ≡ true → HasEnd
  end_by None is counts = absurd (cc)
  end_by (Some e) is counts = record { e = e; is = is; counts = counts }

  pub its_end : HasEnd
  its_end = end_by a.row.ended refl a_counts

  abbrev pub e : RowEnd
  e = its_end.e

  pub a_over : a.row.ended ≡ Some e
  a_over = its_end.is

  pub e_counts : counts_by a s e ≡ true
  e_counts = its_end.counts

  pub is_open : c.end ≡ None
  is_open = now_is.is_open

  -- it is not committed
  runs_on : (due_state c s).stopped ≡ false
  runs_on = goes_by (plan_of c s) (attempts_made c s) (due_state c s) now_is.due (due_state c s).stopped refl now_is.next

  free_by : (b : Bool) → is_some (commitment c s) ≡ b → b ≡ false
  free_by false e = refl
  free_by true e =
      let both : true ≡ false = sym (order.stops (ap (λ (b : Bool). is_some c.end || b) e ∙ some_or (is_some c.end) true refl)) ∙ runs_on in absurd (cc)

  pub free : commitment c s ≡ None
  free = off_by (commitment c s) (free_by (is_some (commitment c s)) refl)

  -- the states of the session
  abbrev pub p : OpenEntry
  p = record o { turn = None }

  abbrev pub noted : MarkKind → Call → Call
  noted what g = record g { marks = g.marks ++ record { what = what; moment = now s } ∷ [] }

  abbrev pub u1 : Seen
  u1 = record s { calls = changed (noted mark.Withheld) n s.calls; current = Some p }

  abbrev pub u2 : Seen
  u2 = record u1 { calls = changed (noted mark.Committed) n u1.calls; attempts = changed (with_commitment (entry s)) a.place s.attempts }

  abbrev pub call_end : CallEnd
  call_end = record { entry = entry s; moment = now s; cause = ending_cause.Row }

  abbrev pub closed_one : Call → Call
  closed_one g = record g { end = Some call_end }

  abbrev pub t : Seen
  t = record u2 { calls = changed closed_one n (changed (noted mark.Closed) n u2.calls) }

  abbrev m1 : Seen
  m1 = with_attempt (with_commitment (entry u1)) a.place u1

  pub commit_is : call_committed a.place u1 ≡ u2
  commit_is =
      ap (λ (q : Option Attempt). option_map_or (λ (b : Attempt). marked mark.Committed b.row.call m1) q m1) (changed_here (with_commitment (entry u1)) a.place u1.attempts a a_there)
      ∙ ap (λ (i : ℕ). marked mark.Committed i m1) a_call

  -- the call, and the attempt
  abbrev pub c1 : Call
  c1 = noted mark.Withheld c

  abbrev pub c2 : Call
  c2 = noted mark.Committed c1

  abbrev pub c3 : Call
  c3 = closed_one (noted mark.Closed c2)

  abbrev pub a2 : Attempt
  a2 = with_commitment (entry s) a

  pub here1 : numbered u1.calls n ≡ Some c1
  here1 = changed_here (noted mark.Withheld) n s.calls c k.there

  pub here2 : numbered u2.calls n ≡ Some c2
  here2 = changed_here (noted mark.Committed) n u1.calls c1 here1

  pub here3 : numbered t.calls n ≡ Some c3
  here3 = changed_here closed_one n (changed (noted mark.Closed) n u2.calls) (noted mark.Closed c2) (changed_here (noted mark.Closed) n u2.calls c2 here2)

  pub a2_there : numbered t.attempts a.place ≡ Some a2
  a2_there = changed_here (with_commitment (entry s)) a.place s.attempts a a_there

  -- the actions
  abbrev pub one : Action
  one = action.HedgeWithheld n

  abbrev pub two : Action
  two = action.CallCommitted a.place commit.Final

  abbrev pub three : Action
  three = action.CallEnds n ending_cause.Row

  -- what the channel's call does
  uncommitted : slot.call.attempts.committed ≡ None
  uncommitted = none_by (λ (q : Attempt). q.place) (commitment c s) slot.call.attempts.committed free seen.attempts.committed

  pub last_same : slot.call.attempts.last ≡ Some a.place
  last_same = sym (seen.attempts.last uncommitted) ∙ last_is

  pub refused : (ledger : Ledger) → IsRefused x.book.moment now_is.due (lent slot.call ledger (tokens_in x.book.buckets slot.bucket) [])
  refused ledger = record {
    next = sym (attempts_are_due s c lent_now seen) ∙ now_is.next;
    passed = not_ahead now_is.due x.book.moment (ap (nat_le now_is.due) (sym k.agrees.clock.moment) ∙ now_is.passed);
    tested = sym (hedges_are_tested s c lent_now seen) ∙ now_is.tested;
  }

  abbrev pub step : Stepped
  step = ended_last a.place x.book.moment lent_now

  form : steps.made_due (now s) lent_now ≡ step
  form =
      ap (λ (m : ℕ). steps.made_due m lent_now) k.agrees.clock.moment
      ∙ made_last a.place x.book.moment now_is.due lent_now (refused (ledger_lent x s)) last_same none_live

  keeps : Keeps t n step
  keeps =
      subst (Keeps t n) form
      (subst (λ (w : Seen). Keeps (call_ended n ending_cause.Row w) n (steps.made_due (now s) lent_now)) commit_is
      (subst (λ (m : ℕ). Keeps (call_ended n ending_cause.Row (call_committed m u1)) n (steps.made_due (now s) lent_now)) (sym place) closes.closes))

  same_call : keeps.call ≡ c3
  same_call =
      let both : Some keeps.call ≡ Some c3 = sym keeps.sees.own ∙ ap (numbered t.calls) keeps.number_is ∙ here3 in (cc)

  pub sees_then : Sees t c3 step
  sees_then = subst (λ (g : Call). Sees t g step) same_call keeps.sees

  pub order_then : IsInOrder t c3
  order_then = subst (λ (g : Call). IsInOrder t g) same_call keeps.order

  -- its attempts are in turn
  steady : IsSteady s c
  steady = record { turn = own.sees.turn; quiescent = none_of (is_of c) (λ (q : Attempt). wants_follower q s) s.attempts (k.quiescent line.Transparent) }

  module _ (book1 : IsBook u1) (book2 : IsBook u2) where
    first : StaysInOrder u1 n
    first = withheld_keep s c book1 k.there order steady

    same_first : first.call ≡ c1
    same_first = let both : Some first.call ≡ Some c1 = sym first.own ∙ here1 in (cc)

    second : StaysSteady u2 n
    second =
        subst (λ (w : Seen). StaysSteady w n) commit_is
        (committing_keeps u1 c1 a.place a (subst IsBook (sym commit_is) book2) (record { own = here1; there = a_there; mine = a_mine })
        (subst (IsSteady u1) same_first first.steady))

    same_second : second.call ≡ c2
    same_second = let both : Some second.call ≡ Some c2 = sym second.own ∙ here2 in (cc)

    turn_two : IsInTurn u2 c2
    turn_two = subst (λ (g : Call). IsInTurn u2 g) same_second second.steady.turn

    pub turn_then : IsInTurn t c3
    turn_then = record { unfollowed = turn_two.unfollowed; latest = turn_two.latest; numbers = turn_two.numbers; counted = turn_two.counted }

  -- nothing came of its response
  limit_same : limit_of_attempt a t ≡ limit_of_attempt a s
  limit_same =
      ap (λ (q : Option Call). option_map_or (λ (g : Call). (chosen_of g t).response) q message_limit) (ap (numbered t.calls) a_call ∙ here3)
      ∙ sym (ap (λ (q : Option Call). option_map_or (λ (g : Call). (chosen_of g s).response) q message_limit) (ap (numbered s.calls) a_call ∙ k.there))

  response_then : response a2 t ≡ response a s
  response_then = response_by_limit s t a a.row.stream refl limit_same

  nothing : response_items (response a s) ≡ []
  nothing = no_items a s (ended_headless s k.sound.reached c a.place a e k.there a_there a_mine a_over is_open free)

  has_it : commitment c3 t ≡ Some a2
  has_it = new_last (is_commitment c) (with_commitment (entry s)) a.place s.attempts a a_there free (ap (λ (b : Bool). b && true) a_mine)

  pub came_same : came c3 t ≡ came c s
  came_same =
      ap (λ (q : Option Attempt). option_map_or (λ (g : Attempt). response_items (response g t)) q []) has_it ∙ ap response_items response_then ∙ nothing
      ∙ sym (ap (λ (q : Option Attempt). option_map_or (λ (g : Attempt). response_items (response g s)) q []) free)
