-- An attempt has ended, no further attempt follows it, and its call is not committed: the commitment of the call to it is next.
use Rattle.std.proofs.Common.{◌≡◌, ◌&&◌, ◌||◌, ◌==◌, ◌++◌, ◌∷◌, not, ap, refl, subst, sym, ◌∙◌, Bool, true, false, List, [], Option, None, Some, ℕ, zero, suc, find, if◌then◌else◌, is_none, is_some, length, nat_lt, option_map, slice_get}
use Rattle.std.proofs.lemmas.Bool.{and_right, eq-eqb, eqb-true}
use Rattle.std.specs.List.{list_any}
use Rattle.std.specs.Option.{option_map_or}
use Rattle.std.specs.Prelude.{option_and_then}
use Rattle.attempt_ledger.specs.Ends.{is_cut}
use Rattle.attempt_ledger.specs.declared.ledger.CallEnd.{CallEnd}
use Rattle.attempt_ledger.specs.declared.row.Placed.{Placed}
use Rattle.attempt_ledger.specs.declared.row.RowEnd.{RowEnd}
use Rattle.call_actions.proofs.CallsApart.Books.{tokens_stay}
use Rattle.call_actions.proofs.CallsApart.Moves.{all_changed}
use Rattle.call_actions.proofs.CallsInTurn.Rows.{committing_keeps}
use Rattle.call_actions.proofs.Lists.{changed_here, numbered_not}
use Rattle.call_actions.proofs.Places.{place_is}
use Rattle.call_actions.specs.CallsApart.Apart.{IsBook}
use Rattle.call_actions.specs.CallsApart.Laws.{tokens_in_run}
use Rattle.call_actions.specs.CallsInTurn.Turns.{StaysSteady}
use Rattle.call_actions.specs.Laws.{IsCounting}
use Rattle.call_actions.specs.Order.{IsInTurn}
use Rattle.call_actions.specs.Sees.{is_live}
use Rattle.call_cases.proofs.EndsFollow.Steps.{call_number}
use Rattle.channel_actions.proofs.KeptSessions.Along.{kept_along}
use Rattle.channel_actions.proofs.Stamps.{map_same}
use Rattle.channel_actions.specs.Columns.{links_noted}
use Rattle.call_cases.specs.EndsFollow.Cuts.{NoStreamIsToReset, is_unreset}
use Rattle.call_cases.specs.EndsFollow.Laws.{is_late}
use Rattle.channel_actions.specs.KeptSessions.Kept.{IsKept}
use Rattle.call_cases.specs.OtherCalls.Others.{ActionsAreOfCall}
use Rattle.channel_actions.specs.Sets.{is_in_outstanding}
use Rattle.end_cases.proofs.AttemptEnds.After.{d, d_here, free_then, placed_from, t_is, u}
use Rattle.end_cases.proofs.AttemptEnds.AheadCommits as commits
use Rattle.end_cases.proofs.AttemptEnds.Base.{books, c, call_is, e, x1}
use Rattle.end_cases.proofs.AttemptEnds.Closing as closing
use Rattle.end_cases.proofs.AttemptEnds.Closing.{Between, Continues, is_of_closing}
use Rattle.end_cases.proofs.AttemptEnds.Committed.{counted_then}
use Rattle.end_cases.proofs.AttemptEnds.EndLines as ends
use Rattle.end_cases.proofs.AttemptEnds.OneEnded as first
use Rattle.end_cases.proofs.AttemptEnds.FinalEnds as final
use Rattle.end_cases.proofs.AttemptEnds.Lists.{IsFrom, find_one, from_map, next_apart}
use Rattle.end_cases.proofs.AttemptEnds.Others.{none_at, row_none}
use Rattle.call_cases.proofs.CommitsFollow.Newest.{new_last}
use Rattle.call_cases.proofs.ConfiguredCalls.Lists.{changed_length}
use Rattle.call_cases.proofs.FullSends.Headless.{no_items}
use Rattle.end_cases.specs.AttemptEnds.Ahead.{LinksAhead}
use Rattle.end_cases.specs.AttemptEnds.Ends.{EndNext, may_wait}
use Rattle.end_cases.specs.AttemptEnds.Laws.{goes_on_after}
use Rattle.channel_core.specs.States.{StateSeen}
use Rattle.end_cases.proofs.AttemptEnds.LeftLinks.{commits_left}
use Rattle.end_cases.specs.AttemptEnds.Left.{all_left}
use Rattle.grpc_base.specs.Codes.{has_code}
use Rattle.grpc_base.specs.declared.fields.Field.{Field}
use Rattle.grpc_base.specs.declared.plan.CallPlan.{CallPlan}
use Rattle.grpc_base.specs.declared.plan.CallPlan.TheVariants as plan
use Rattle.link_actions.proofs.Ended.{changed_one, noted_call}
use Rattle.link_actions.proofs.Without.{at_place}
use Rattle.link_actions.specs.Sees.{AttemptsStandInPlace as ArePlacedOn}
use Rattle.session_actions.specs.Actions.{after as after_action, after_if, following}
use Rattle.session_actions.specs.AttemptEnds.{attempt_ended, with_end}
use Rattle.session_actions.specs.Attempts.{commitment, is_commitment, is_counted, is_followed, is_later_of, is_of, is_outstanding, wants_follower, wants_follower_by}
use Rattle.session_actions.specs.CallEnds.{is_over_by_row}
use Rattle.session_actions.specs.Closing.{noted_gone}
use Rattle.session_actions.specs.Commitments.{call_committed, committing, has_head_in, is_final_end, is_final_in, is_free_call, is_headed, with_commitment}
use Rattle.session_actions.specs.Configs.{plan_of}
use Rattle.session_actions.specs.Deliveries.{response_items}
use Rattle.session_actions.specs.DueAttempts.{has_going, is_final_by, last_counted, next_due}
use Rattle.session_actions.specs.Entries.{entry, now}
use Rattle.session_actions.specs.Events.{is_loss}
use Rattle.session_actions.specs.Links.{is_retiring, link_number}
use Rattle.session_actions.specs.Reading.{is_outstanding_on}
use Rattle.session_actions.specs.Refusals.{is_shutdown_sub}
use Rattle.session_actions.specs.Responses.{no_response, response, response_by, response_on}
use Rattle.session_actions.specs.Sessions.{Does, link_seen}
use Rattle.session_actions.specs.Words.{find_last, holds, is_number, numbered}
use Rattle.session_actions.specs.declared.action.Action.{Action}
use Rattle.session_actions.specs.declared.action.Action.TheVariants as action
use Rattle.session_actions.specs.declared.action.CommitCause.TheVariants as commit
use Rattle.session_actions.specs.declared.attempt.Attempt.{Attempt}
use Rattle.session_actions.specs.declared.call.Call.{Call}
use Rattle.session_actions.specs.declared.call.MarkKind.TheVariants as mark
use Rattle.session_actions.specs.declared.entry.OpenEntry.{OpenEntry}
use Rattle.session_actions.specs.declared.link.Link.{Link}
use Rattle.session_actions.specs.declared.response.Outcome.{Outcome}
use Rattle.session_actions.specs.declared.seen.Seen.{Seen}
use Rattle.session_order.proofs.Quiescence.{first_line_gives}
use Rattle.session_order.proofs.Changed.{any_changed, lookup}
use Rattle.session_order.proofs.Commits.{committed_leaves}
use Rattle.session_order.specs.Quiescent.{IsStill}
use Rattle.session_order.specs.Lines.{is_line, rank}
use Rattle.session_order.specs.Stirs.{IsCommittable, stirs}
use Rattle.session_order.specs.declared.line.Line.{Line}
use Rattle.session_order.specs.declared.line.Line.TheVariants as line

-- what comes before the commitment to an end
pub before_final : (loses : Bool) (m : Line) → nat_lt (rank loses m) (rank loses line.Final) ≡ true → (X : Line → Type 0)
    → X line.Cut → X line.Transparent → X line.Inherited → X line.Row → X m
before_final loses line.Cut e X a b c r = a
before_final loses line.Transparent e X a b c r = b
before_final loses line.Inherited e X a b c r = c
before_final loses line.Row e X a b c r = r
before_final loses line.Final e X a b c r = absurd (cc)
before_final loses line.Cancelled e X a b c r = absurd (cc)
before_final loses line.Request e X a b c r = absurd (cc)
before_final loses line.Overflow e X a b c r = absurd (cc)
before_final loses line.Head e X a b c r = absurd (cc)
before_final loses line.Response e X a b c r = absurd (cc)
before_final loses line.Pick e X a b c r = absurd (cc)
before_final loses line.Link e X a b c r = absurd (cc)
before_final true line.WireEnd e X a b c r = absurd (cc)
before_final false line.WireEnd e X a b c r = absurd (cc)
before_final loses line.Reset e X a b c r = absurd (cc)
before_final loses line.Shut e X a b c r = absurd (cc)
before_final loses line.Retire e X a b c r = absurd (cc)
before_final loses line.Begin e X a b c r = absurd (cc)
before_final loses line.Give e X a b c r = absurd (cc)
before_final loses line.Drop e X a b c r = absurd (cc)
before_final loses line.Add e X a b c r = absurd (cc)

-- the one at a place is the first that passes, where no other does
pub found_one : (p : Attempt → Bool) (n : ℕ) (xs : List Attempt) (y : Attempt) → numbered xs n ≡ Some y → p y ≡ true → ((i : ℕ) (q : Attempt) → slice_get xs i ≡ Some q → (suc i == n) ≡ false → p q ≡ false)
    → find p xs ≡ Some y
found_one p zero xs y at pass others = absurd (cc)
found_one p (suc i) xs y at pass others = find_one p xs i y at pass (λ j q there off. others j q there (next_apart j i off))

module _ (later : List (ℕ × RowEnd)) (waits : Line → Bool) (also : List ℕ) (a : Attempt) (out : Outcome) (x : StateSeen) (o : OpenEntry) (s : Seen) (is : EndNext later waits also a out x o s)
    (counting : IsCounting s (c later waits also a out x o s is) out) where
  abbrev k : Call
  k = c later waits also a out x o s is

  abbrev n : ℕ
  n = k.number

  abbrev v : Seen
  v = u later waits also a out x o s is

  abbrev end_ : RowEnd
  end_ = e later waits also a out x o s is

  abbrev dk : Call
  dk = d later waits also a out x o s is

  abbrev then_ : Attempt
  then_ = with_end end_ a

  abbrev there : numbered v.attempts a.place ≡ Some then_
  there = first.one_there later waits also a out x o s is

  abbrev kept_one : IsKept v
  kept_one = closing.kept_one later waits also a out x o s is counting

  pub places : ArePlacedOn 1 v.attempts
  places = placed_from 1 v.attempts kept_one.book.places

  -- the session after the commitment
  abbrev f0 : Seen
  f0 = commits.v v a.place then_ there places

  pub f_is : call_committed a.place v ≡ f0
  f_is = commits.commit_is v a.place then_ there places

  abbrev pub then_commits : Action
  then_commits = action.CallCommitted a.place commit.Final

  abbrev pub b : Between later waits also a out x o s is counting
  b = record {
    actions = then_commits ∷ [];
    calls = f0.calls;
    attempts = f0.attempts;
    marks = dk.marks ++ record { what = mark.Committed; moment = now v } ∷ [];
    one = with_commitment (entry v) then_;
  }

  abbrev f : Seen
  f = closing.mid later waits also a out x o s is counting b

  abbrev fk : Call
  fk = closing.its later waits also a out x o s is counting b

  pub f_here : numbered f.calls n ≡ Some fk
  f_here =
      changed_one (noted_call mark.Committed (now v)) a.row.call n v.calls dk true (eq-eqb n a.row.call (sym (call_is later waits also a out x o s is))) (d_here later waits also a out x o s is)

  abbrev p : OpenEntry
  p = closing.entry_then later waits also a out x o s is counting

  abbrev now_open : v.current ≡ Some p
  now_open = closing.current_one later waits also a out x o s is counting

  after_two : after_action then_commits v ≡ f
  after_two = ap (λ (q : Option OpenEntry). after_if q then_commits v) now_open ∙ f_is

  pub one_there : numbered f.attempts a.place ≡ Some b.one
  one_there = changed_here (with_commitment (entry v)) a.place v.attempts then_ there

  -- what the end is
  parts : (not (is_followed then_ v) ≡ true) × (not (wants_follower_by then_ v end_) ≡ true)
  parts = counted_parts _ (is_followed then_ v) (wants_follower_by then_ v end_) (counted_then later waits also a out x o s is counting)
    where
      counted_parts : (p q r : Bool) → ((p && not q) && not r) ≡ true → (not q ≡ true) × (not r ≡ true)
      counted_parts true false false e = (refl, refl)
      counted_parts true false true e = absurd (cc)
      counted_parts true true r e = absurd (cc)
      counted_parts false q r e = absurd (cc)

  pub unfollowed : is_followed then_ v ≡ false
  unfollowed = not_so (is_followed then_ v) parts.0
    where
      not_so : (q : Bool) → not q ≡ true → q ≡ false
      not_so false e = refl
      not_so true e = absurd (cc)

  -- in turn then
  pub steady_two : IsBook f → StaysSteady f n
  steady_two book =
      subst (λ (q : Seen). StaysSteady q n) f_is
      (committing_keeps v dk a.place then_ (subst IsBook (sym f_is) book)
      (record { own = d_here later waits also a out x o s is; there = there; mine = is.ending.own })
      (record { turn = closing.turn_one later waits also a out x o s is counting; quiescent = closing.quiescent_one later waits also a out x o s is counting }))

  module _ (free : commitment k s ≡ None) (last : goes_on_after (plan_of k s) s k a out ≡ false) where
    free_one : commitment dk v ≡ None
    free_one = free_then later waits also a out x o s is counting.goes_on free

    free_by : (g : Call) → is_of g then_ ≡ true → commitment g v ≡ None
    free_by g mine =
        let same : g.number ≡ n = sym (eqb-true a.row.call g.number mine) ∙ call_is later waits also a out x o s is in
        ap (λ (m : ℕ). find_last (λ (q : Attempt). (q.row.call == m) && is_some q.row.committed) v.attempts) same ∙ free_one

    fits : IsCommittable a.place v
    fits = record {
      attempt = then_;
      here = there;
      free = free_by;
      follows = unfollowed;
      small = ap (λ (q : Bool). q && (response then_ v).large) (and_right (is_some a.row.placed) false refl);
      numbers = λ j g at. call_number j v.calls g kept_one.book.calls at;
    }

    -- the commitment is next: no call ends by its attempt
    row_by : (i : ℕ) (g : Call) (q : Bool) → slice_get v.calls i ≡ Some g → (suc i == n) ≡ q → is_over_by_row v g ≡ false
    row_by i g true at own =
        let two : Some g ≡ Some dk = sym at ∙ ap (numbered v.calls) (eqb-true (suc i) n own) ∙ d_here later waits also a out x o s is in
        let same : g ≡ dk = (cc) in
        ap (is_over_by_row v) same ∙ ap (λ (q : Option Attempt). is_none dk.end && holds (λ (h : Attempt). is_counted h v) q) free_one ∙ and_right (is_none dk.end) false refl
    row_by i g false at off =
        row_none n (x1 later waits also a out x o s is) s v (ends.apart_one later waits also a out x o s is counting) (books later waits also a out x o s is).calls
        (closing.kept later waits also a out x o s is counting) kept_one (suc i) g off at (ends.was_still later waits also a out x o s is counting line.Row refl refl)

    unrowed : IsStill line.Row p v
    unrowed = none_at (is_over_by_row v) v.calls (λ i g at. row_by i g (suc i == n) at refl)

    -- the end is final
    final_by : (p : CallPlan) → plan_of k s ≡ p → goes_on_after p s k a out ≡ false → is_final_by p dk then_ v end_ ≡ true
    final_by plan.None h off = refl
    final_by (plan.Retry q) h off = ap not (final.licensed_same later waits also a out x o s is counting free a.row.number end_ ∙ off)
    final_by (plan.Hedge q) h off = by_code (has_code q.codes out.code) _ _ off refl refl refl
      where
        none_of : (q : Option ℕ) → is_some q ≡ false → is_none q ≡ true
        none_of None e = refl
        none_of (Some m) e = absurd (cc)

        due_same : is_some (option_and_then (λ (g : Call). next_due g (attempt_ended a.place end_ s)) (numbered (attempt_ended a.place end_ s).calls n)) ≡ is_some (next_due dk v)
        due_same =
            ap (λ (w : Seen). is_some (option_and_then (λ (g : Call). next_due g w) (numbered w.calls n))) (t_is later waits also a out x o s is)
            ∙ ap (λ (q : Option Call). is_some (option_and_then (λ (g : Call). next_due g v) q)) (d_here later waits also a out x o s is)

        by_code : (says others due : Bool) → (says && (others || due)) ≡ false → has_code q.codes out.code ≡ says
            → list_any (λ (b : Attempt). is_live s k b && not (b.place == a.place)) s.attempts ≡ others
            → is_some (option_and_then (λ (g : Call). next_due g (attempt_ended a.place end_ s)) (numbered (attempt_ended a.place end_ s).calls n)) ≡ due
            → is_final_by (plan.Hedge q) dk then_ v end_ ≡ true
        by_code false others due off says other_is due_is =
            ap (λ (b : Bool). not b || (is_number a.place (last_counted dk v) && is_none (next_due dk v) && not (has_going dk v))) says
        by_code true true due off says other_is due_is = absurd (cc)
        by_code true false true off says other_is due_is = absurd (cc)
        by_code true false false off says other_is due_is =
            ap (λ (b : Bool). not b || (is_number a.place (last_counted dk v) && is_none (next_due dk v) && not (has_going dk v))) says
            ∙ ap (λ (r : Option ℕ). is_number a.place r && is_none (next_due dk v) && not (has_going dk v)) (final.last_then later waits also a out x o s is counting free)
            ∙ ap (λ (b : Bool). (b && is_none (next_due dk v)) && not (has_going dk v)) (eq-eqb a.place a.place refl)
            ∙ ap (λ (b : Bool). b && not (has_going dk v)) (none_of (next_due dk v) (sym due_same ∙ due_is))
            ∙ ap not (final.going_then later waits also a out x o s is counting free ∙ other_is)

    is_final_then : is_final_end v then_ ≡ true
    is_final_then =
        ap (holds (λ (g : Call). is_final_in then_ v g)) (ap (numbered v.calls) (call_is later waits also a out x o s is) ∙ d_here later waits also a out x o s is)
        ∙ ap (λ (b : Bool). (b && is_counted then_ v) && is_final_by (plan_of k s) dk then_ v end_) (final.free_both later waits also a out x o s is counting free ∙ was_free)
        ∙ ap (λ (b : Bool). b && is_final_by (plan_of k s) dk then_ v end_) (counted_then later waits also a out x o s is counting)
        ∙ final_by (plan_of k s) refl last
      where
        was_free : is_free_call s k ≡ true
        was_free = ap (λ (q : Option CallEnd). is_none q && is_none (commitment k s)) counting.goes_on ∙ ap (λ (q : Option Attempt). is_none q) free

    final_else : (i : ℕ) (q : Attempt) → slice_get v.attempts i ≡ Some q → (suc i == a.place) ≡ false → is_final_end v q ≡ false
    final_else i q at off =
        final.other_final later waits also a out x o s is counting free i q (q.row.call == n) at refl
        (ap (λ (m : ℕ). m == a.place) (place_is (suc i) v.attempts q kept_one.book.places at) ∙ off) (ends.was_still later waits also a out x o s is counting line.Final refl refl)

    next_commit : following v ≡ Some then_commits
    next_commit =
        first_line_gives line.Final then_commits p v now_open
        (λ l e. before_final (is_loss p.event) l e (λ (q : Line). IsStill q p v) (ends.uncut later waits also a out x o s is counting)
        (ends.still_after later waits also a out x o s is counting line.Transparent refl refl) (ends.still_after later waits also a out x o s is counting line.Inherited refl refl) unrowed)
        (ap (option_map (committing commit.Final)) (found_one (is_final_end v) a.place v.attempts then_ there is_final_then final_else))

    does_two : Does (then_commits ∷ []) v f
    does_two = (next_commit, sym after_two)

    pub kept_two : IsKept f
    kept_two = kept_along (then_commits ∷ []) v f kept_one does_two

    pub apart_two : ActionsAreOfCall n (then_commits ∷ []) v
    apart_two = (
      record {
        acts = ap (λ (q : Option Attempt). option_map_or (λ (i : ℕ). i == n) (option_map (λ (g : Attempt). g.row.call) q) true) there
            ∙ eq-eqb a.row.call n (call_is later waits also a out x o s is);
        passes = λ g at off. refl;
      },
      tt,
    )

    same_steady : (steady_two kept_two.book).call ≡ fk
    same_steady =
        let two : Some (steady_two kept_two.book).call ≡ Some fk = sym (steady_two kept_two.book).own ∙ f_here in
        (cc)

    pub turn_two : IsInTurn f fk
    turn_two = subst (λ (g : Call). IsInTurn f g) same_steady (steady_two kept_two.book).steady.turn

    pub turn_closed : IsInTurn (closing.closed later waits also a out x o s is counting b) (closing.ended later waits also a out x o s is counting b)
    turn_closed = record { unfollowed = turn_two.unfollowed; latest = turn_two.latest; numbers = turn_two.numbers; counted = turn_two.counted }

    -- the lines then
    moves : (l : Line) → is_line l line.Final ≡ false → stirs then_commits l ≡ false → IsStill l p v → IsStill l p f
    moves l off none h = subst (IsStill l p) f_is (committed_leaves a.place commit.Final p v now_open fits l p (ap (λ (q : Seen). q.current) f_is ∙ now_open) off none h)

    from_one : (l : Line) → is_of_closing l ≡ false → may_wait l ≡ false → is_line l line.Final ≡ false → stirs then_commits l ≡ false → IsStill l p f
    from_one l off may final_off none = moves l final_off none (ends.still_after later waits also a out x o s is counting l off may)

    pub still_two : (l : Line) → is_of_closing l ≡ false → may_wait l ≡ false → IsStill l p f
    still_two line.Transparent off may = from_one line.Transparent refl refl refl refl
    still_two line.Pick off may = from_one line.Pick refl refl refl refl
    still_two line.Inherited off may = from_one line.Inherited refl refl refl refl
    still_two line.Cancelled off may = from_one line.Cancelled refl refl refl refl
    still_two line.Request off may = from_one line.Request refl refl refl refl
    still_two line.Response off may = from_one line.Response refl refl refl refl
    still_two line.Overflow off may = from_one line.Overflow refl refl refl refl
    still_two line.Head off may = from_one line.Head refl refl refl refl
    still_two line.Link off may = from_one line.Link refl refl refl refl
    still_two line.Cut off may = absurd (cc)
    still_two line.Row off may = absurd (cc)
    still_two line.Final off may = absurd (cc)
    still_two line.WireEnd off may = absurd (cc)
    still_two line.Reset off may = absurd (cc)
    still_two line.Shut off may = absurd (cc)
    still_two line.Retire off may = absurd (cc)
    still_two line.Begin off may = absurd (cc)
    still_two line.Give off may = absurd (cc)
    still_two line.Drop off may = absurd (cc)
    still_two line.Add off may = absurd (cc)

    pub late_two : (l : Line) → is_late l ≡ true → waits l ≡ false → IsStill l p f
    late_two line.Shut late off = moves line.Shut refl refl (ends.late_after later waits also a out x o s is counting line.Shut refl off)
    late_two line.Retire late off = moves line.Retire refl refl (ends.late_after later waits also a out x o s is counting line.Retire refl off)
    late_two line.Begin late off = moves line.Begin refl refl (ends.late_after later waits also a out x o s is counting line.Begin refl off)
    late_two line.Give late off = moves line.Give refl refl (ends.late_after later waits also a out x o s is counting line.Give refl off)
    late_two line.Drop late off = moves line.Drop refl refl (ends.late_after later waits also a out x o s is counting line.Drop refl off)
    late_two line.Add late off = moves line.Add refl refl (ends.late_after later waits also a out x o s is counting line.Add refl off)
    late_two line.Transparent late off = absurd (cc)
    late_two line.Row late off = absurd (cc)
    late_two line.Final late off = absurd (cc)
    late_two line.Pick late off = absurd (cc)
    late_two line.Cut late off = absurd (cc)
    late_two line.Inherited late off = absurd (cc)
    late_two line.Cancelled late off = absurd (cc)
    late_two line.Request late off = absurd (cc)
    late_two line.Response late off = absurd (cc)
    late_two line.Overflow late off = absurd (cc)
    late_two line.Head late off = absurd (cc)
    late_two line.Link late off = absurd (cc)
    late_two line.WireEnd late off = absurd (cc)
    late_two line.Reset late off = absurd (cc)

    pub wire_two : IsStill line.WireEnd o s → IsStill line.WireEnd p f
    wire_two h = moves line.WireEnd refl refl (first.plain later waits also a out x o s is line.WireEnd refl h)

    -- it has the call
    pub has_it : commitment fk f ≡ Some b.one
    has_it =
        new_last (is_commitment k) (with_commitment (entry v)) a.place v.attempts then_ there free_one
        (ap (λ (g : Bool). g && true) is.ending.own)

    counted_two : is_counted b.one f ≡ true
    counted_two =
        ap (λ (g : Bool). (not (is_cut out.cause) && not (is_followed b.one f)) && not g)
        (numbered_not (λ (q : Attempt). wants_follower q f) f.attempts a.place b.one (still_two line.Transparent refl refl) one_there)
        ∙ ap (λ (g : Bool). (not (is_cut out.cause) && not g) && true) (any_changed (is_later_of then_) (with_commitment (entry v)) (λ q. refl) a.place v.attempts ∙ unfollowed)
        ∙ ap (λ (g : Bool). (not g && true) && true) is.ending.uncut

    pub over_two : is_over_by_row f fk ≡ true
    over_two =
        ap (λ (q : Option CallEnd). is_none q && holds (λ (g : Attempt). is_counted g f) (commitment fk f)) counting.goes_on
        ∙ ap (holds (λ (g : Attempt). is_counted g f)) has_it ∙ counted_two

    pub goes_two : Does (then_commits ∷ []) v f
    goes_two = does_two

  module _ (free : commitment k s ≡ None) where
    none_of_some : (q : Option (List Field)) → is_some q ≡ false → q ≡ None
    none_of_some None h = refl
    none_of_some (Some meta) h = absurd (cc)

    was_unheaded : is_headed s a ≡ false
    was_unheaded = numbered_not (is_headed s) s.attempts a.place a (ends.was_still later waits also a out x o s is counting line.Head refl refl) is.ending.there

    unheaded_by : (b : Bool) → is_outstanding a ≡ b → (response a s).head ≡ None
    unheaded_by true h =
        none_of_some (response a s).head
        (sym (ap (λ (b : Bool). b && holds (λ (g : Call). has_head_in a s g) (numbered s.calls a.row.call)) h
        ∙ ap (holds (λ (g : Call). has_head_in a s g)) is.there
        ∙ ap (λ (q : Option CallEnd). (is_none q && is_none (commitment k s)) && is_some (response a s).head) counting.goes_on
        ∙ ap (λ (q : Option Attempt). is_none q && is_some (response a s).head) free) ∙ was_unheaded)
    unheaded_by false h = off_link a.row.placed refl a.row.stream
      where
        off_link : (q : Option Placed) → a.row.placed ≡ q → (r : Option ℕ) → (response_by a s r).head ≡ None
        off_link q e None = refl
        off_link None e (Some stream) = ap (λ (p : Option Placed). (option_map_or (response_on a stream s) (option_and_then (λ (at : Placed). numbered s.links at.link) p) no_response).head) e
        off_link (Some at) e (Some stream) =
            let on : is_outstanding a ≡ true = ap (λ (p : Option Placed). is_some p && is_none a.row.ended) e ∙ ap (λ (q : Option RowEnd). is_none q) (closing.unended later waits also a out x o s is counting) in
            let both : true ≡ false = sym on ∙ h in absurd (cc)

    pub nothing_came : response_items (response a s) ≡ []
    nothing_came = no_items a s (unheaded_by (is_outstanding a) refl)

  -- the attempts are as they were, but for the commitment
  pub same_out : (link row : ℕ) → is_in_outstanding f link row ≡ is_in_outstanding v link row
  same_out link row =
      lookup (holds (λ (q : Attempt). is_outstanding q && (link_number q == link))) (with_commitment (entry v)) (λ q. refl) a.place v.attempts row

  pub same_noted : links_noted f ≡ links_noted v
  same_noted =
      map_same (λ (l : Link). link_seen (noted_gone f l)) (λ (l : Link). link_seen (noted_gone v l))
      (λ l. ap (λ (g : Bool). link_seen (if is_none l.gone && (is_some l.over || ((is_retiring l || is_shutdown_sub v l.sub) && not g)) then record l { gone = Some (entry v) } else l))
      (any_changed (is_outstanding_on l) (with_commitment (entry v)) (λ q. refl) a.place v.attempts)) v.links

  pub ahead_two : LinksAhead also x (all_left later f)
  ahead_two = commits_left later v a.place then_ there places also x (first.links_one later waits also a out x o s is)

  pub unreset_two : NoStreamIsToReset f
  unreset_two = all_changed is_unreset (with_commitment (entry v)) (λ q e. e) a.place v.attempts (first.unreset_one later waits also a out x o s is)

  pub tokens_two : (i : ℕ) → is_some (numbered v.runs i) ≡ true → tokens_in_run f (Some i) ≡ tokens_in_run v (Some i)
  tokens_two i there_ = subst (λ (q : Seen). tokens_in_run q (Some i) ≡ tokens_in_run v (Some i)) after_two (tokens_stay v then_commits i kept_one.book tt there_ refl)

  pub count_two : length f.calls ≡ length v.calls
  count_two = changed_length (noted_call mark.Committed (now v)) a.row.call v.calls

  pub none_out_two : ((i : ℕ) (q : Attempt) → slice_get v.attempts i ≡ Some q → (q.row.call == n) ≡ true → is_outstanding q ≡ false)
      → (i : ℕ) (q : Attempt) → slice_get f.attempts i ≡ Some q → (q.row.call == n) ≡ true → is_outstanding q ≡ false
  none_out_two none i q at own =
      let from : IsFrom (at_place (with_commitment (entry v)) a.place) v.attempts i q
      = from_map (at_place (with_commitment (entry v)) a.place) v.attempts i q (ap (λ (xs : List Attempt). slice_get xs i) (sym (commits.attempts_are v a.place then_ there places)) ∙ at) in
      ap is_outstanding from.is ∙ out_same from.one (from.one.place == a.place)
      ∙ none i from.one from.there (ap (λ (m : ℕ). m == n) (sym (call_same from.one (from.one.place == a.place)) ∙ ap (λ (g : Attempt). g.row.call) (sym from.is)) ∙ own)
    where
      out_same : (q : Attempt) (g : Bool) → is_outstanding (if g then with_commitment (entry v) q else q) ≡ is_outstanding q
      out_same q true = refl
      out_same q false = refl

      call_same : (q : Attempt) (g : Bool) → (if g then with_commitment (entry v) q else q).row.call ≡ q.row.call
      call_same q true = refl
      call_same q false = refl
