-- A transparent retry of the attempt to which its call is committed: the retry is made, and takes the commitment over.
use Rattle.std.proofs.Common.{◌≡◌, ◌≤◌, ◌&&◌, ◌||◌, ◌==◌, ◌+◌, ◌++◌, ◌∷◌, not, ap, arith, refl, subst, sym, ◌∙◌, Bool, true, false, List, [], Option, None, Some, ℕ, suc, is_none, is_some, length, nat_lt, option_map, slice_get}
use Rattle.std.proofs.lemmas.Bool.{and_right, eq-eqb, eqb-true}
use Rattle.std.proofs.lemmas.Bool.Decides.{nat_tests}
use Rattle.std.specs.List.{list_any}
use Rattle.std.specs.Option.{option_map_or}
use Rattle.attempt_ledger.specs.declared.ledger.CallEnd.{CallEnd}
use Rattle.attempt_ledger.specs.declared.row.RowEnd.{RowEnd}
use Rattle.call_actions.proofs.CallsApart.Books.{tokens_stay}
use Rattle.call_actions.proofs.CallsInTurn.Rows.{committing_keeps}
use Rattle.call_actions.proofs.Lists.{changed_here, numbered_last, numbered_not}
use Rattle.call_actions.proofs.Places.{place_is}
use Rattle.call_actions.proofs.Ranks.{find_last_more}
use Rattle.call_actions.specs.CallsApart.Apart.{IsBook}
use Rattle.call_actions.specs.CallsApart.Laws.{tokens_in_run}
use Rattle.call_actions.specs.CallsInTurn.Turns.{StaysSteady, waits as waits_to_follow}
use Rattle.call_actions.specs.Order.{IsInTurn}
use Rattle.channel_actions.proofs.KeptSessions.Along.{kept_along}
use Rattle.channel_actions.specs.KeptSessions.Kept.{IsKept}
use Rattle.call_cases.specs.OtherCalls.Others.{ActionsAreOfCall}
use Rattle.end_cases.proofs.AttemptEnds.After.{commitment_is, placed_from, put}
use Rattle.end_cases.proofs.AttemptEnds.Base.{books, c, e, x1}
use Rattle.end_cases.proofs.AttemptEnds.LastCommits.{found_one}
use Rattle.end_cases.proofs.AttemptEnds.Lists.{any_more, changed_last, last_found, snoc_by, within}
use Rattle.end_cases.proofs.AttemptEnds.OneEnded as first
use Rattle.end_cases.proofs.AttemptEnds.Others.{none_at, wants_none}
use Rattle.end_cases.proofs.EndRetries.Free.{after_it}
use Rattle.end_cases.proofs.EndRetries.Next as retry
use Rattle.end_cases.proofs.EndRetries.Next.{Leads, Retry}
use Rattle.call_cases.proofs.ConfiguredCalls.Lists.{changed_length}
use Rattle.end_cases.specs.AttemptEnds.Ends.{EndNext}
use Rattle.channel_core.specs.States.{StateSeen}
use Rattle.link_actions.specs.Sees.{AttemptsStandInPlace}
use Rattle.session_actions.specs.Actions.{after as after_action, after_if, following}
use Rattle.session_actions.specs.AttemptEnds.{with_end}
use Rattle.session_actions.specs.Attempts.{commitment, is_commitment, is_counted, is_of, is_outstanding, is_over, is_over_in, is_to_follow, wants_follower}
use Rattle.session_actions.specs.CallEnds.{has_long_response, is_over_by_row}
use Rattle.session_actions.specs.Calls.{is_open_call, marked}
use Rattle.session_actions.specs.Commitments.{call_committed, committing, is_final_in, is_inherited, is_inherited_by, is_inherited_in, with_commitment}
use Rattle.session_actions.specs.DueAttempts.{is_final}
use Rattle.session_actions.specs.Entries.{entry, now}
use Rattle.session_actions.specs.Events.{is_loss}
use Rattle.session_actions.specs.Responses.{response}
use Rattle.session_actions.specs.Sessions.{Does}
use Rattle.session_actions.specs.Words.{changed, find_last, holds, numbered}
use Rattle.session_actions.specs.declared.action.Action.{Action}
use Rattle.session_actions.specs.declared.action.Action.TheVariants as action
use Rattle.session_actions.specs.declared.action.CommitCause.TheVariants as commit
use Rattle.session_actions.specs.declared.attempt.Attempt.{Attempt}
use Rattle.session_actions.specs.declared.call.Call.{Call}
use Rattle.session_actions.specs.declared.call.MarkKind.TheVariants as mark
use Rattle.session_actions.specs.declared.entry.OpenEntry.{OpenEntry}
use Rattle.session_actions.specs.declared.response.Outcome.{Outcome}
use Rattle.session_actions.specs.declared.seen.Seen.{Seen}
use Rattle.session_order.proofs.Quiescence.{first_line_gives}
use Rattle.session_order.proofs.Changed.{lookup, none_more}
use Rattle.session_order.proofs.Lists.{any_same, holds_same}
use Rattle.session_order.proofs.Queues.{marked_still}
use Rattle.session_order.specs.Quiescent.{IsStill, is_to_cut}
use Rattle.session_order.specs.Lines.{rank}
use Rattle.session_order.specs.declared.line.Line.{Line}
use Rattle.session_order.specs.declared.line.Line.TheVariants as line

-- what comes before a commitment that is taken over
before_taking : (loses : Bool) (m : Line) → nat_lt (rank loses m) (rank loses line.Inherited) ≡ true → (X : Line → Type 0) → X line.Cut → X line.Transparent → X m
before_taking loses line.Cut e X a b = a
before_taking loses line.Transparent e X a b = b
before_taking loses line.Inherited e X a b = absurd (cc)
before_taking loses line.Row e X a b = absurd (cc)
before_taking loses line.Final e X a b = absurd (cc)
before_taking loses line.Cancelled e X a b = absurd (cc)
before_taking loses line.Request e X a b = absurd (cc)
before_taking loses line.Overflow e X a b = absurd (cc)
before_taking loses line.Head e X a b = absurd (cc)
before_taking loses line.Response e X a b = absurd (cc)
before_taking loses line.Pick e X a b = absurd (cc)
before_taking loses line.Link e X a b = absurd (cc)
before_taking true line.WireEnd e X a b = absurd (cc)
before_taking false line.WireEnd e X a b = absurd (cc)
before_taking loses line.Reset e X a b = absurd (cc)
before_taking loses line.Shut e X a b = absurd (cc)
before_taking loses line.Retire e X a b = absurd (cc)
before_taking loses line.Begin e X a b = absurd (cc)
before_taking loses line.Give e X a b = absurd (cc)
before_taking loses line.Drop e X a b = absurd (cc)
before_taking loses line.Add e X a b = absurd (cc)

not_after : (m i : ℕ) → i ≤ m → nat_lt (m + 1) i ≡ false
not_after m i e = grind (arith, nat_tests, e)

module _ (later : List (ℕ × RowEnd)) (waits : Line → Bool) (also : List ℕ) (a : Attempt) (out : Outcome) (x : StateSeen) (o : OpenEntry) (s : Seen) (is : EndNext later waits also a out x o s)
    (going : (c later waits also a out x o s is).end ≡ None) (follows : is_to_follow (c later waits also a out x o s is) out.cause out.unseen s ≡ true)
    (held : commitment (c later waits also a out x o s is) s ≡ Some a) where
  abbrev k : Call
  k = c later waits also a out x o s is

  abbrev n : ℕ
  n = k.number

  abbrev v : Seen
  v = retry.v later waits also a out x o s is going follows

  abbrev end_ : RowEnd
  end_ = e later waits also a out x o s is

  abbrev then_ : Attempt
  then_ = with_end end_ a

  abbrev p : OpenEntry
  p = retry.p later waits also a out x o s is going follows

  abbrev now_open : v.current ≡ Some p
  now_open = retry.now_open later waits also a out x o s is going follows

  abbrev kept_one : IsKept v
  kept_one = first.kept_one later waits also a out x o s is

  -- the session once the retry is made
  abbrev place : ℕ
  place = retry.place later waits also a out x o s is going follows

  abbrev pub new : Attempt
  new = retry.new later waits also a out x o s is going follows

  abbrev pub t : Seen
  t = retry.t later waits also a out x o s is going follows

  abbrev pub dt : Call
  dt = retry.dt later waits also a out x o s is going follows

  abbrev noted : Call → Call
  noted g = retry.noted later waits also a out x o s is going follows g

  abbrev kept_two : IsKept t
  kept_two = retry.kept_two later waits also a out x o s is going follows

  pub new_there : numbered t.attempts place ≡ Some new
  new_there = numbered_last v.attempts new

  pub places : AttemptsStandInPlace 1 t.attempts
  places = placed_from 1 t.attempts kept_two.book.places

  held_one : commitment k v ≡ Some then_
  held_one = commitment_is later waits also a out x o s is k ∙ ap (option_map (put later waits also a out x o s is)) held ∙ ap (λ (q : Attempt). Some q) (first.put_is later waits also a out x o s is)

  commitment_same : (g : Call) → commitment g t ≡ commitment g v
  commitment_same g = find_last_more (is_commitment g) v.attempts new (and_right (is_of g new) false refl)

  -- it is the one that takes the commitment over
  takes_over : is_inherited t new ≡ true
  takes_over =
      ap (holds (is_inherited_in new t)) (retry.dt_here later waits also a out x o s is going follows)
      ∙ ap (λ (z : Option CallEnd). is_none z && holds (is_inherited_by new) (commitment dt t)) going
      ∙ ap (holds (is_inherited_by new)) (commitment_same k ∙ held_one)
      ∙ ap (λ (b : Bool). b && nat_lt a.place (length v.attempts + 1)) (eq-eqb a.row.number a.row.number refl) ∙ after_it later waits also a out x o s is going follows

  takes_same : (q : Attempt) → is_inherited t q ≡ is_inherited v q
  takes_same q =
      ap (λ (b : Bool). is_none q.row.committed && b)
      (holds_same (is_inherited_in q t) (is_inherited_in q v) (λ g. ap (λ (r : Option Attempt). is_none g.end && holds (is_inherited_by q) r) (commitment_same g)) (numbered t.calls q.row.call)
      ∙ lookup (holds (is_inherited_in q v)) noted (λ g. refl) n v.calls q.row.call)

  takes_else : (i : ℕ) (q : Attempt) → slice_get t.attempts i ≡ Some q → (suc i == place) ≡ false → is_inherited t q ≡ false
  takes_else i q at off =
      snoc_by v.attempts new i q at (is_inherited t q ≡ false)
      (λ old. takes_same q ∙ numbered_not (is_inherited v) v.attempts (suc i) q (retry.uninherited later waits also a out x o s is going follows) old)
      (λ same. (let here : (suc i == place) ≡ true
      = eq-eqb (suc i) place (sym (place_is (suc i) t.attempts q kept_two.book.places at) ∙ ap (λ (g : Attempt). g.place) (sym same)) in
      let both : true ≡ false = sym here ∙ off in absurd (cc)))

  -- nothing else is before it
  over_same : (q : Attempt) → is_over q t ≡ is_over q v
  over_same q =
      holds_same (λ (g : Call). is_over_in g q t) (λ (g : Call). is_over_in g q v)
      (λ g. ap (λ (r : Option Attempt). is_some g.end || holds (λ (b : Attempt). not (b.row.number == q.row.number)) r) (commitment_same g)) (numbered t.calls q.row.call)
      ∙ lookup (holds (λ (g : Call). is_over_in g q v)) noted (λ g. refl) n v.calls q.row.call

  uncut_two : IsStill line.Cut p t
  uncut_two =
      none_more (is_to_cut t) v.attempts new
      (any_same (is_to_cut t) (is_to_cut v) (λ q. ap (λ (b : Bool). is_outstanding q && b) (over_same q)) v.attempts ∙ retry.uncut later waits also a out x o s is going follows) refl

  wants_two : (i : ℕ) (q : Attempt) (g : Bool) → slice_get t.attempts i ≡ Some q → (q.row.call == n) ≡ g → wants_follower q t ≡ false
  wants_two i q true at mine =
      ap (λ (b : Bool). b && wants_follower q t) (sym mine)
      ∙ numbered_not (waits_to_follow t dt) t.attempts (suc i) q (retry.quiescent_two later waits also a out x o s is going follows) at
  wants_two i q false at off =
      wants_none n (x1 later waits also a out x o s is) s t (retry.apart_two later waits also a out x o s is going follows) (books later waits also a out x o s is).calls
      (first.kept later waits also a out x o s is) kept_two i q at off (first.was_still later waits also a out x o s is line.Transparent refl refl)

  unfollowed_two : IsStill line.Transparent p t
  unfollowed_two = none_at (λ (q : Attempt). wants_follower q t) t.attempts (λ i q at. wants_two i q (q.row.call == n) at refl)

  abbrev takes : Action
  takes = action.CallCommitted place commit.Inherited

  next_three : following t ≡ Some takes
  next_three =
      first_line_gives line.Inherited takes p t now_open (λ l less. before_taking (is_loss p.event) l less (λ (q : Line). IsStill q p t) uncut_two unfollowed_two)
      (ap (option_map (committing commit.Inherited)) (found_one (is_inherited t) place t.attempts new new_there takes_over takes_else))

  -- the session after it
  abbrev also_noted : Call → Call
  also_noted g = record g { marks = g.marks ++ record { what = mark.Committed; moment = now t } ∷ [] }

  abbrev pub r : Retry later waits also a out x o s is going follows
  r = record {
    actions = retry.makes later waits also a out x o s is going follows ∷ takes ∷ [];
    calls = changed also_noted n t.calls;
    marks = dt.marks ++ record { what = mark.Committed; moment = now t } ∷ [];
    stamp = Some (entry t);
  }

  abbrev pub taken : Attempt
  taken = retry.fresh later waits also a out x o s is going follows r

  abbrev added : Seen
  added = retry.grown later waits also a out x o s is going follows r

  abbrev pub w : Seen
  w = retry.done later waits also a out x o s is going follows r

  abbrev pub dw : Call
  dw = retry.its later waits also a out x o s is going follows r

  attempts_are : changed (with_commitment (entry t)) place t.attempts ≡ v.attempts ++ taken ∷ []
  attempts_are = changed_last (with_commitment (entry t)) v.attempts new

  pub committed_is : call_committed place t ≡ w
  committed_is =
      ap (λ (xs : List Attempt). option_map_or (λ (g : Attempt). marked mark.Committed g.row.call (record t { attempts = xs })) (numbered xs place) (record t { attempts = xs })) attempts_are
      ∙ ap (λ (q : Option Attempt). option_map_or (λ (g : Attempt). marked mark.Committed g.row.call (record t { attempts = v.attempts ++ taken ∷ [] })) q (record t { attempts = v.attempts ++ taken ∷ [] }))
      (numbered_last v.attempts taken)

  after_three : after_action takes t ≡ w
  after_three = ap (λ (q : Option OpenEntry). after_if q takes t) now_open ∙ committed_is

  does_three : Does (takes ∷ []) t w
  does_three = (next_three, sym after_three)

  kept_three : IsKept w
  kept_three = kept_along (takes ∷ []) t w kept_two does_three

  dw_here : numbered w.calls n ≡ Some dw
  dw_here = changed_here also_noted n t.calls dt (retry.dt_here later waits also a out x o s is going follows)

  -- the commitment
  own_commitment : (g : Call) → (n == g.number) ≡ true → commitment g added ≡ Some taken
  own_commitment g own = last_found (is_commitment g) v.attempts taken (ap (λ (b : Bool). b && true) own)

  its_commitment : (g : Call) → (n == g.number) ≡ true → commitment g v ≡ Some then_
  its_commitment g own =
      ap (λ (m : ℕ). find_last (λ (q : Attempt). (q.row.call == m) && is_some q.row.committed) v.attempts) (sym (eqb-true n g.number own)) ∙ held_one

  other_commitment : (g : Call) → (n == g.number) ≡ false → commitment g added ≡ commitment g v
  other_commitment g off = find_last_more (is_commitment g) v.attempts taken (ap (λ (b : Bool). b && true) off)

  over_in : (q : Attempt) (g : Call) (b : Bool) → (n == g.number) ≡ b → is_over_in g q added ≡ is_over_in g q v
  over_in q g true own =
      ap (λ (r : Option Attempt). is_some g.end || holds (λ (h : Attempt). not (h.row.number == q.row.number)) r) (own_commitment g own)
      ∙ sym (ap (λ (r : Option Attempt). is_some g.end || holds (λ (h : Attempt). not (h.row.number == q.row.number)) r) (its_commitment g own))
  over_in q g false off = ap (λ (r : Option Attempt). is_some g.end || holds (λ (h : Attempt). not (h.row.number == q.row.number)) r) (other_commitment g off)

  free_in : (g : Call) (b : Bool) → (n == g.number) ≡ b → is_none (commitment g added) ≡ is_none (commitment g v)
  free_in g true own = ap (λ (r : Option Attempt). is_none r) (own_commitment g own) ∙ sym (ap (λ (r : Option Attempt). is_none r) (its_commitment g own))
  free_in g false off = ap (λ (r : Option Attempt). is_none r) (other_commitment g off)

  long_in : (g : Call) (b : Bool) → (n == g.number) ≡ b → has_long_response v g ≡ false → has_long_response added g ≡ false
  long_in g true own h =
      ap (λ (r : Option Attempt). is_open_call g && holds (λ (q : Attempt). is_outstanding q && (response q added).large) r) (own_commitment g own) ∙ and_right (is_open_call g) false refl
  long_in g false off h = ap (λ (r : Option Attempt). is_open_call g && holds (λ (q : Attempt). is_outstanding q && (response q v).large) r) (other_commitment g off) ∙ h

  -- none takes it over once more
  heir_in : (i : ℕ) (q : Attempt) (g : Call) (b : Bool) → numbered v.attempts i ≡ Some q → (n == g.number) ≡ b → is_inherited_in q v g ≡ false → is_inherited_in q added g ≡ false
  heir_in i q g true at own h =
      let low : i ≤ length v.attempts = within v.attempts i q at in
      ap (λ (r : Option Attempt). is_none g.end && holds (is_inherited_by q) r) (own_commitment g own)
      ∙ ap (λ (m : ℕ). is_none g.end && ((a.row.number == q.row.number) && nat_lt (length v.attempts + 1) m)) (place_is i v.attempts q kept_one.book.places at)
      ∙ ap (λ (b : Bool). is_none g.end && ((a.row.number == q.row.number) && b)) (not_after (length v.attempts) i low)
      ∙ ap (λ (b : Bool). is_none g.end && b) (and_right (a.row.number == q.row.number) false refl) ∙ and_right (is_none g.end) false refl
  heir_in i q g false at off h = ap (λ (r : Option Attempt). is_none g.end && holds (is_inherited_by q) r) (other_commitment g off) ∙ h

  heir_by : (i : ℕ) (q : Attempt) (z : Option Call) → numbered v.attempts i ≡ Some q → holds (is_inherited_in q v) z ≡ false → holds (is_inherited_in q added) z ≡ false
  heir_by i q None at h = refl
  heir_by i q (Some g) at h = heir_in i q g (n == g.number) at refl h

  heir_of : (stamp : Option ℕ) (old now_ : Bool) → (is_none stamp && old) ≡ false → (old ≡ false → now_ ≡ false) → (is_none stamp && now_) ≡ false
  heir_of None old now_ e turn = turn e
  heir_of (Some m) old now_ e turn = refl

  inherited_old : (i : ℕ) (q : Attempt) → slice_get v.attempts i ≡ Some q → is_inherited added q ≡ false
  inherited_old i q at =
      heir_of q.row.committed (holds (is_inherited_in q v) (numbered v.calls q.row.call)) (holds (is_inherited_in q added) (numbered v.calls q.row.call))
      (numbered_not (is_inherited v) v.attempts (suc i) q (retry.uninherited later waits also a out x o s is going follows) at) (heir_by (suc i) q (numbered v.calls q.row.call) at)

  pub has_it : commitment dw w ≡ Some taken
  has_it = own_commitment k (eq-eqb n n refl)

  row_then : is_over_by_row w dw ≡ false
  row_then = ap (λ (r : Option Attempt). is_none k.end && holds (λ (q : Attempt). is_counted q w) r) (own_commitment k (eq-eqb n n refl)) ∙ and_right (is_none k.end) false refl

  final_then : (q : Attempt) → is_final_in q w dw ≡ false
  final_then q =
      ap (λ (r : Option Attempt). ((is_none k.end && is_none r) && is_counted q w) && is_final dw q w) (own_commitment k (eq-eqb n n refl))
      ∙ ap (λ (b : Bool). (b && is_counted q w) && is_final dw q w) (and_right (is_none k.end) false refl)

  -- in turn
  turned : StaysSteady w n
  turned =
      subst (λ (q : Seen). StaysSteady q n) committed_is
      (committing_keeps t dt place new (subst IsBook (sym committed_is) kept_three.book)
      (record { own = retry.dt_here later waits also a out x o s is going follows; there = new_there; mine = eq-eqb n n refl })
      (record { turn = retry.turn_two later waits also a out x o s is going follows; quiescent = retry.quiescent_two later waits also a out x o s is going follows }))

  same_turned : turned.call ≡ dw
  same_turned =
      let two : Some turned.call ≡ Some dw = sym turned.own ∙ dw_here in
      (cc)

  of_call_three : ActionsAreOfCall n (takes ∷ []) t
  of_call_three = (
    record {
      acts = ap (λ (q : Option Attempt). option_map_or (λ (i : ℕ). i == n) (option_map (λ (g : Attempt). g.row.call) q) true) new_there ∙ eq-eqb n n refl;
      passes = λ g at off. refl;
    },
    tt,
  )

  abbrev makes : Action
  makes = retry.makes later waits also a out x o s is going follows

  tokens_then : (i : ℕ) → is_some (numbered v.runs i) ≡ true → tokens_in_run w (Some i) ≡ tokens_in_run v (Some i)
  tokens_then i some =
      subst (λ (q : Seen). tokens_in_run q (Some i) ≡ tokens_in_run t (Some i)) after_three (tokens_stay t takes i kept_two.book tt some refl)
      ∙ retry.tokens_two later waits also a out x o s is going follows i some

  pub leads : Leads later waits also a out x o s is going follows r
  leads = record {
    does = (retry.next_two later waits also a out x o s is going follows, subst (λ (q : Seen). Does (takes ∷ []) q w) (sym (retry.after_two later waits also a out x o s is going follows)) does_three);
    of_call = ((retry.of_call_two later waits also a out x o s is going follows).0, subst (λ (q : Seen). ActionsAreOfCall n (takes ∷ []) q) (sym (retry.after_two later waits also a out x o s is going follows)) of_call_three);
    posts = refl;
    netless = refl;
    here = dw_here;
    count = changed_length also_noted n t.calls ∙ changed_length noted n v.calls;
    reported = λ l off h.
        marked_still (record added { calls = t.calls }) n (λ (g : Call). g.marks ++ record { what = mark.Committed; moment = now t } ∷ []) l p off
        (marked_still added n (λ (g : Call). g.marks ++ record { what = mark.Made place; moment = now v } ∷ []) l p off h);
    turn = subst (λ (g : Call). IsInTurn w g) same_turned turned.steady.turn;
    quiescent = subst (λ (g : Call). list_any (waits_to_follow w g) w.attempts ≡ false) same_turned turned.steady.quiescent;
    over = λ q. holds_same (λ (g : Call). is_over_in g q added) (λ (g : Call). is_over_in g q v) (λ g. over_in q g (n == g.number) refl) (numbered v.calls q.row.call);
    free = λ g. free_in g (n == g.number) refl;
    long = λ g h. long_in g (n == g.number) refl h;
    inherited = any_more (is_inherited added) v.attempts taken refl ∙ none_at (is_inherited added) v.attempts inherited_old;
    row = row_then;
    final = λ i q at own. final_then q;
    tokens = tokens_then;
  }
