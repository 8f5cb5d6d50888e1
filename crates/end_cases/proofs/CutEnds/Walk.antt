-- A call has just been committed to an attempt that ended by a last end, while others of it go on. These are cut off, one after the other, each the next action, and
-- nothing follows at once then but the end of the call and what may wait.
use Rattle.attempt_ledger.specs.declared.row.Placed.{Placed}
use Rattle.attempt_ledger.specs.declared.row.RowEnd.{RowEnd}
use Rattle.call_actions.proofs.CallsApart.Books.{tokens_stay}
use Rattle.call_actions.proofs.CallsApart.Fair.{lines_are_fair}
use Rattle.call_actions.proofs.CallsApart.Moves.{all_changed}
use Rattle.call_actions.proofs.CallsInTurn.Rows.{ending_keeps}
use Rattle.call_actions.proofs.Lists.{numbered_not}
use Rattle.call_actions.proofs.Places.{place_is}
use Rattle.call_actions.proofs.TakeActions.CutAttempts.{ended_mark}
use Rattle.call_actions.proofs.TakeActions.CutOne.{marked_also}
use Rattle.call_actions.specs.CallsApart.Apart.{counts_in, run_counting}
use Rattle.call_actions.specs.CallsApart.Laws.{tokens_in_run}
use Rattle.call_actions.specs.CallsInTurn.Turns.{StaysSteady, waits as waits_for}
use Rattle.call_actions.specs.Laws.{IsCounting}
use Rattle.call_actions.specs.TakeActions.Cuts.{AttemptsAreCut, next_cut_of}
use Rattle.channel_actions.proofs.Does.{does_on, none_on}
use Rattle.call_cases.proofs.EndsFollow.Steps.{call_number}
use Rattle.channel_actions.proofs.KeptSessions.Along.{kept_along}
use Rattle.channel_actions.specs.Calls.{SeesCalls}
use Rattle.call_cases.specs.EndsFollow.Cuts.{AttemptsAreCutOff, NoStreamIsToReset, cut_off, is_unreset}
use Rattle.call_cases.specs.EndsFollow.Laws.{is_late}
use Rattle.channel_actions.specs.KeptSessions.Kept.{IsKept}
use Rattle.call_cases.specs.OtherCalls.Others.{ActionsAreOfCall, GoesApart, IsBooked}
use Rattle.end_cases.proofs.AttemptEnds.After.{attempts_are, numbers, put as end_put}
use Rattle.end_cases.proofs.AttemptEnds.Base.{books, c, e, x1}
use Rattle.end_cases.proofs.AttemptEnds.ClosedAgree.{of_call_on}
use Rattle.end_cases.proofs.AttemptEnds.Closing as closing
use Rattle.end_cases.proofs.AttemptEnds.Closing.{Between, is_of_closing}
use Rattle.end_cases.proofs.AttemptEnds.EndLines as ends
use Rattle.end_cases.proofs.AttemptEnds.LastCommits as last
use Rattle.end_cases.proofs.AttemptEnds.Lists.{IsFrom, from_map}
use Rattle.end_cases.proofs.AttemptEnds.OneEnded as first
use Rattle.end_cases.proofs.AttemptEnds.Others.{cut_none, none_at, wants_none}
use Rattle.call_cases.proofs.CallPosts.Report.{map_changed}
use Rattle.call_cases.proofs.CommitsFollow.Cuts.{IsOneCut, IsTaken, none_out, one_cut}
use Rattle.call_cases.proofs.CommitsFollow.Follow.{before_cut, first_own}
use Rattle.call_cases.proofs.CommitsFollow.Steps.{at_by, last_changed}
use Rattle.call_cases.proofs.ConfiguredCalls.Lists.{changed_length}
use Rattle.end_cases.proofs.CutEnds.Ahead.{key_of}
use Rattle.call_cases.proofs.OneCallEnds.Along.{owner}
use Rattle.end_cases.specs.AttemptEnds.Ends.{EndNext, is_of_ends, may_wait}
use Rattle.end_cases.specs.AttemptEnds.Laws.{goes_on_after}
use Rattle.call_cases.specs.CommitsFollow.Laws.{is_other_out}
use Rattle.channel_core.specs.States.{StateSeen}
use Rattle.net_actions.specs.NetFrames.Frames.{is_of_net}
use Rattle.session_actions.specs.Actions.{after, after_if, following}
use Rattle.session_actions.specs.AttemptEnds.{cut, cut_end, end_of, next_cut, with_end}
use Rattle.session_actions.specs.Attempts.{commitment, is_commitment, is_followed, is_later_of, is_outstanding, wants_follower}
use Rattle.session_actions.specs.Commitments.{with_commitment}
use Rattle.session_actions.specs.Configs.{plan_of}
use Rattle.session_actions.specs.Entries.{entry, now}
use Rattle.session_actions.specs.Events.{is_loss}
use Rattle.session_actions.specs.Laws.{posted_in}
use Rattle.session_actions.specs.Sessions.{Does}
use Rattle.session_actions.specs.Words.{changed, find_last, is_number, numbered}
use Rattle.session_actions.specs.declared.action.Action.TheVariants as action
use Rattle.session_actions.specs.declared.action.Action.{Action}
use Rattle.session_actions.specs.declared.attempt.Attempt.{Attempt}
use Rattle.session_actions.specs.declared.call.Call.{Call}
use Rattle.session_actions.specs.declared.entry.OpenEntry.{OpenEntry}
use Rattle.session_actions.specs.declared.response.Outcome.{Outcome}
use Rattle.session_actions.specs.declared.seen.Seen.{Seen}
use Rattle.session_order.proofs.AttemptDone.{attempt_leaves}
use Rattle.session_order.proofs.Quiescence.{first_line_gives}
use Rattle.session_order.proofs.Changed.{any_changed, changed_away, changed_here}
use Rattle.session_order.specs.Quiescent.{IsStill}
use Rattle.session_order.specs.Stirs.{stirs}
use Rattle.session_order.specs.declared.line.Line.TheVariants as line
use Rattle.session_order.specs.declared.line.Line.{Line}
use Rattle.std.proofs.Common.{Bool, List, None, Option, Some, [], ap, eq-eqb, eqb-true, false, filter, if◌then◌else◌, is_none, is_some, length, map, not, option_map, refl, slice_get, subst, suc, sym, true, ℕ, ◌&&◌, ◌++◌, ◌==◌, ◌||◌, ◌∙◌, ◌∷◌, ◌≡◌}
use Rattle.std.proofs.lemmas.Bool.{and_right, both_ways}
use Rattle.std.proofs.lemmas.List.Folds.{list_any-append}
use Rattle.std.specs.List.{list_all, list_any}
use Rattle.std.specs.Option.{option_map_or}
use Rattle.std.specs.Prelude.{option_and_then}

none_counts : (i : ℕ) (o : Option Call) → is_number i (option_and_then (λ (c : Call). None) o) ≡ false
none_counts i None = refl
none_counts i (Some c) = refl

ended_out : (b : Attempt) (e : RowEnd) → is_outstanding (with_end e b) ≡ false
ended_out b e = and_right (is_some b.row.placed) false refl

goes_not : (p q : Bool) → (p && q) ≡ true → q ≡ true
goes_not true q e = e
goes_not false q e = absurd (cc)

second : (c d : Bool) → c ≡ true → (c && d) ≡ false → d ≡ false
second true d e h = h
second false d e h = absurd (cc)

map_put : (f : Attempt → Attempt) → ((q : Attempt) → key_of (f q) ≡ key_of q) → (xs : List Attempt) → map key_of (map f xs) ≡ map key_of xs
map_put f same [] = refl
map_put f same (q ∷ xs) = ap (λ (k : Option Placed × Option ℕ). k ∷ map key_of (map f xs)) (same q) ∙ ap (λ (ks : List (Option Placed × Option ℕ)). key_of q ∷ ks) (map_put f same xs)

module _ (later : List (ℕ × RowEnd)) (waits : Line → Bool) (also : List ℕ) (a : Attempt) (out : Outcome) (x : StateSeen) (o : OpenEntry) (s : Seen) (is : EndNext later waits also a out x o s)
    (counting : IsCounting s (c later waits also a out x o s is) out) (free : commitment (c later waits also a out x o s is) s ≡ None)
    (final : goes_on_after (plan_of (c later waits also a out x o s is) s) s (c later waits also a out x o s is) a out ≡ false) where
  abbrev n : ℕ
  n = (c later waits also a out x o s is).number

  abbrev v : Seen
  v = closing.v later waits also a out x o s is counting

  abbrev dk : Call
  dk = closing.dk later waits also a out x o s is counting

  abbrev p : OpenEntry
  p = closing.entry_then later waits also a out x o s is counting

  abbrev b1 : Between later waits also a out x o s is counting
  b1 = last.b later waits also a out x o s is counting

  abbrev pub f : Seen
  f = closing.mid later waits also a out x o s is counting b1

  abbrev pub one : Attempt
  one = b1.one

  abbrev kept : IsKept s
  kept = closing.kept later waits also a out x o s is counting

  abbrev kept_one : IsKept v
  kept_one = closing.kept_one later waits also a out x o s is counting

  abbrev calls_s : SeesCalls (x1 later waits also a out x o s is) s
  calls_s = (books later waits also a out x o s is).calls

  was_still : (l : Line) → is_of_ends l ≡ false → may_wait l ≡ false → IsStill l o s
  was_still l ends_ may = ends.was_still later waits also a out x o s is counting l ends_ may

  booked : (q : Seen) → IsKept q → IsBooked q
  booked q h = record { book = h.book; owned = h.owned; reads = h.reads }

  -- from the begin
  abbrev first_act : Action
  first_act = closing.act later waits also a out x o s is counting

  pub does_from : (actions : List Action) (w : Seen) → Does actions v w → Does (first_act ∷ actions) s w
  does_from actions w does = (is.next, subst (λ (q : Seen). Does actions q w) (sym (closing.after_is later waits also a out x o s is counting)) does)

  pub apart_from : (actions : List Action) (w : Seen) → Does actions v w → ActionsAreOfCall n actions v → GoesApart n s w
  apart_from actions w does apart = record {
    actions = first_act ∷ actions;
    does = does_from actions w does;
    apart = ((first.of_call_one later waits also a out x o s is).0, subst (λ (q : Seen). ActionsAreOfCall n actions q) (sym (closing.after_is later waits also a out x o s is counting)) apart);
    earlier = booked s kept;
    later = booked w (kept_along actions v w kept_one does);
  }

  -- what is so between two cuts
  pub record Walked (w : Seen) : Type 0 where
    pub actions : List Action
    pub does : Does actions v w
    pub apart : ActionsAreOfCall n actions v
    pub posts : posted_in actions ≡ []
    pub netless : list_any is_of_net actions ≡ false
    pub form : w ≡ record v { calls = w.calls; attempts = w.attempts }
    pub taken : IsTaken n one w
    pub call_is : taken.call ≡ record dk { marks = taken.call.marks }
    pub one_there : numbered w.attempts a.place ≡ Some one
    pub count : length w.calls ≡ length v.calls
    pub steady : StaysSteady w n
    pub unreset : NoStreamIsToReset w
    -- what goes on went on before
    pub same : (i : ℕ) (q : Attempt) → slice_get w.attempts i ≡ Some q → is_outstanding q ≡ true → slice_get s.attempts i ≡ Some q
    pub unfollowed : is_followed one w ≡ false
    pub still : (l : Line) → is_of_closing l ≡ false → may_wait l ≡ false → IsStill l p w
    pub late : (l : Line) → is_late l ≡ true → waits l ≡ false → IsStill l p w
    pub wire : IsStill line.WireEnd o s → IsStill line.WireEnd p w
    pub tokens : (i : ℕ) → is_some (numbered v.runs i) ≡ true → tokens_in_run w (Some i) ≡ tokens_in_run v (Some i)
    pub keys : map key_of w.attempts ≡ map key_of s.attempts
    pub owners : map owner w.attempts ≡ map owner s.attempts

  pub kept_in : (w : Seen) → Walked w → IsKept w
  kept_in w h = kept_along h.actions v w kept_one h.does

  pub open_in : (w : Seen) → Walked w → w.current ≡ Some p
  open_in w h = ap (λ (z : Seen). z.current) h.form ∙ closing.current_one later waits also a out x o s is counting

  pub apart_in : (w : Seen) → Walked w → GoesApart n s w
  apart_in w h = apart_from h.actions w h.does h.apart

  -- one more is cut off
  module _ (w : Seen) (h : Walked w) (act : Action) (next : next_cut_of n w ≡ Some act) where
    kept_w : IsKept w
    kept_w = kept_in w h

    now_open : w.current ≡ Some p
    now_open = open_in w h

    pub one_cut_is : IsOneCut n one.row.number w act p
    one_cut_is = one_cut n one w act p h.taken kept_w.book.places now_open next

    abbrev cut_ : IsOneCut n one.row.number w act p
    cut_ = one_cut_is

    abbrev pub q : Attempt
    q = cut_.attempt

    abbrev pub w1 : Seen
    w1 = cut_off q w

    abbrev act1 : Action
    act1 = action.AttemptEnds q.place (end_of q cut_end w)

    abbrev put : Attempt → Attempt
    put r = with_end cut_.end r

    cut_line : next_cut w ≡ next_cut_of n w
    cut_line =
        first_own (cut w) (λ (r : Attempt). r.row.call == n) w.attempts
        (λ i r at off. ap (λ (g : Bool). if g then Some (action.AttemptEnds r.place (end_of r cut_end w)) else None)
        (cut_none n (x1 later waits also a out x o s is) s w (apart_in w h) calls_s kept kept_w i r at off (was_still line.Cut refl refl)))

    next_is : following w ≡ Some act1
    next_is =
        first_line_gives line.Cut act p w now_open (λ m before. absurd (before_cut (is_loss p.event) m before)) (cut_line ∙ next)
        ∙ ap (λ (z : Action). Some z) cut_.act_is

    after_one : after act1 w ≡ w1
    after_one = ap (λ (r : Option OpenEntry). after_if r act1 w) now_open

    does_one : Does (act1 ∷ []) w w1
    does_one = (next_is, sym after_one)

    does1 : Does (h.actions ++ act1 ∷ []) v w1
    does1 = does_on h.actions (act1 ∷ []) v w w1 h.does does_one

    kept1 : IsKept w1
    kept1 = kept_along (h.actions ++ act1 ∷ []) v w1 kept_one does1

    apart1 : ActionsAreOfCall n (h.actions ++ act1 ∷ []) v
    apart1 =
        of_call_on n h.actions (act1 ∷ []) v w h.does h.apart (
          record {
            acts = ap (λ (r : Option Attempt). option_map_or (λ (i : ℕ). i == n) (option_map (λ (b : Attempt). b.row.call) r) true) cut_.out.there ∙ cut_.own;
            passes = λ g at off. refl;
          },
          tt,
        )

    goes1 : GoesApart n s w1
    goes1 = apart_from (h.actions ++ act1 ∷ []) w1 does1 apart1

    attempts1 : w1.attempts ≡ changed put q.place w.attempts
    attempts1 = ap (λ (z : Seen). z.attempts) cut_.after_is

    abbrev mark_ : Call → Call
    mark_ g = marked_also (ended_mark (now w) q) g

    calls1 : w1.calls ≡ changed mark_ q.row.call w.calls
    calls1 = ap (λ (z : Seen). z.calls) cut_.after_is

    current1 : w1.current ≡ Some p
    current1 = ap (λ (z : Seen). z.current) cut_.after_is

    whole1 : w1 ≡ record v { calls = changed mark_ q.row.call w.calls; attempts = changed put q.place w.attempts }
    whole1 =
        cut_.after_is
        ∙ ap (λ (z : Seen). record z { attempts = changed put q.place w.attempts; calls = changed mark_ q.row.call w.calls; current = Some p }) h.form
        ∙ ap (λ (r : Option OpenEntry). record v { attempts = changed put q.place w.attempts; calls = changed mark_ q.row.call w.calls; current = r })
        (sym (closing.current_one later waits also a out x o s is counting))

    form1 : w1 ≡ record v { calls = w1.calls; attempts = w1.attempts }
    form1 =
        whole1 ∙ ap (λ (xs : List Attempt). record v { calls = changed mark_ q.row.call w.calls; attempts = xs }) (sym attempts1)
        ∙ ap (λ (gs : List Call). record v { calls = gs; attempts = w1.attempts }) (sym calls1)

    not_one : q ≡ one → ⊥
    not_one same =
        let on : not (one.row.number == one.row.number) ≡ true = sym (ap (λ (y : Attempt). not (one.row.number == y.row.number)) same) ∙ cut_.other in
        let off : not (one.row.number == one.row.number) ≡ false = ap not (eq-eqb one.row.number one.row.number refl) in
        both_ways (not (one.row.number == one.row.number)) off on

    taken1 : IsTaken n one w1
    taken1 = record {
      call = mark_ h.taken.call;
      there = ap (λ (gs : List Call). numbered gs n) (calls1 ∙ ap (λ (m : ℕ). changed mark_ m w.calls) (eqb-true q.row.call n cut_.own))
          ∙ changed_here mark_ n w.calls h.taken.call h.taken.there;
      going = h.taken.going;
      is = ap (find_last (is_commitment h.taken.call)) attempts1
          ∙ last_changed (is_commitment h.taken.call) one put q.place w.attempts q cut_.out.there not_one refl h.taken.is;
    }

    one_there1 : numbered w1.attempts a.place ≡ Some one
    one_there1 =
        ap (λ (xs : List Attempt). numbered xs a.place) attempts1
        ∙ changed_away put q.place a.place w.attempts
        (λ same.
        let two : Some q ≡ Some one = sym cut_.out.there ∙ ap (numbered w.attempts) (sym same) ∙ h.one_there in
        not_one (cc))
        ∙ h.one_there

    steady1 : StaysSteady w1 n
    steady1 =
        let k : Call = h.steady.call in
        let number : k.number ≡ n = call_number n w.calls k kept_w.book.calls h.steady.own in
        subst (StaysSteady w1) number
        (ending_keeps w k q.place q (end_of q cut_end w) kept_w.book kept1.book
        (record { own = ap (numbered w.calls) number ∙ h.steady.own; there = cut_.out.there; mine = ap (λ (m : ℕ). q.row.call == m) number ∙ cut_.own })
        (goes_not (is_some q.row.placed) (is_none q.row.ended) cut_.out.outstanding) refl h.steady.steady)

    unreset1 : NoStreamIsToReset w1
    unreset1 = subst (λ (xs : List Attempt). list_all is_unreset xs ≡ true) (sym attempts1) (all_changed is_unreset put (λ b e. refl) q.place w.attempts h.unreset)

    same_by : (i : ℕ) (r : Attempt) (b : Bool) → (suc i == q.place) ≡ b → numbered (changed put q.place w.attempts) (suc i) ≡ Some r → is_outstanding r ≡ true → slice_get s.attempts i ≡ Some r
    same_by i r true e at on =
        let same : r ≡ put q = (at_by put q.place (suc i) w.attempts q r true e cut_.out.there at).0 refl in
        absurd (both_ways (is_outstanding r) (ap is_outstanding same ∙ ended_out q cut_.end) on)
    same_by i r false e at on = h.same i r ((at_by put q.place (suc i) w.attempts q r false e cut_.out.there at).1 refl) on

    leaves : (l : Line) → stirs act1 l ≡ false → IsStill l p w → IsStill l p w1
    leaves l off still = attempt_leaves q.place (end_of q cut_end w) p w now_open tt l p current1 off still

    wants_by : (i : ℕ) (r : Attempt) (b : Bool) → slice_get w1.attempts i ≡ Some r → (r.row.call == n) ≡ b → wants_follower r w1 ≡ false
    wants_by i r true at own =
        let number : steady1.call.number ≡ n = call_number n w1.calls steady1.call kept1.book.calls steady1.own in
        second (r.row.call == steady1.call.number) (wants_follower r w1) (ap (λ (m : ℕ). r.row.call == m) number ∙ own)
        (numbered_not (waits_for w1 steady1.call) w1.attempts (suc i) r steady1.steady.quiescent at)
    wants_by i r false at off =
        wants_none n (x1 later waits also a out x o s is) s w1 goes1 calls_s kept kept1 i r at off (was_still line.Transparent refl refl)

    transparent1 : IsStill line.Transparent p w1
    transparent1 = none_at (λ (r : Attempt). wants_follower r w1) w1.attempts (λ i r at. wants_by i r (r.row.call == n) at refl)

    from_before : (l : Line) → stirs act1 l ≡ false → is_of_closing l ≡ false → may_wait l ≡ false → IsStill l p w1
    from_before l off closes may = leaves l off (h.still l closes may)

    still1 : (l : Line) → is_of_closing l ≡ false → may_wait l ≡ false → IsStill l p w1
    still1 line.Transparent off may = transparent1
    still1 line.Pick off may = from_before line.Pick refl refl refl
    still1 line.Inherited off may = from_before line.Inherited refl refl refl
    still1 line.Cancelled off may = from_before line.Cancelled refl refl refl
    still1 line.Request off may = from_before line.Request refl refl refl
    still1 line.Response off may = from_before line.Response refl refl refl
    still1 line.Overflow off may = from_before line.Overflow refl refl refl
    still1 line.Head off may = from_before line.Head refl refl refl
    still1 line.Link off may = from_before line.Link refl refl refl
    still1 line.Cut off may = absurd (cc)
    still1 line.Row off may = absurd (cc)
    still1 line.Final off may = absurd (cc)
    still1 line.WireEnd off may = absurd (cc)
    still1 line.Reset off may = absurd (cc)
    still1 line.Shut off may = absurd (cc)
    still1 line.Retire off may = absurd (cc)
    still1 line.Begin off may = absurd (cc)
    still1 line.Give off may = absurd (cc)
    still1 line.Drop off may = absurd (cc)
    still1 line.Add off may = absurd (cc)

    late1 : (l : Line) → is_late l ≡ true → waits l ≡ false → IsStill l p w1
    late1 line.Shut late off = leaves line.Shut refl (h.late line.Shut refl off)
    late1 line.Retire late off = leaves line.Retire refl (h.late line.Retire refl off)
    late1 line.Begin late off = leaves line.Begin refl (h.late line.Begin refl off)
    late1 line.Give late off = leaves line.Give refl (h.late line.Give refl off)
    late1 line.Drop late off = leaves line.Drop refl (h.late line.Drop refl off)
    late1 line.Add late off = leaves line.Add refl (h.late line.Add refl off)
    late1 line.Transparent late off = absurd (cc)
    late1 line.Row late off = absurd (cc)
    late1 line.Final late off = absurd (cc)
    late1 line.Pick late off = absurd (cc)
    late1 line.Cut late off = absurd (cc)
    late1 line.Inherited late off = absurd (cc)
    late1 line.Cancelled late off = absurd (cc)
    late1 line.Request late off = absurd (cc)
    late1 line.Response late off = absurd (cc)
    late1 line.Overflow late off = absurd (cc)
    late1 line.Head late off = absurd (cc)
    late1 line.Link late off = absurd (cc)
    late1 line.WireEnd late off = absurd (cc)
    late1 line.Reset late off = absurd (cc)

    uncounted : (i : ℕ) → is_number i (counts_in act1 w) ≡ false
    uncounted i =
        ap (λ (r : Option Attempt). is_number i (option_and_then (run_counting (end_of q cut_end w) w) r)) cut_.out.there
        ∙ none_counts i (numbered w.calls q.row.call)

    tokens1 : (i : ℕ) → is_some (numbered v.runs i) ≡ true → tokens_in_run w1 (Some i) ≡ tokens_in_run v (Some i)
    tokens1 i there =
        subst (λ (z : Seen). tokens_in_run z (Some i) ≡ tokens_in_run w (Some i)) after_one
        (tokens_stay w act1 i kept_w.book (lines_are_fair w act1 kept_w.book next_is) (ap (λ (z : Seen). is_some (numbered z.runs i)) h.form ∙ there) (uncounted i))
        ∙ h.tokens i there

    pub walked1 : Walked w1
    unfolding taken1
    walked1 = record {
      actions = h.actions ++ act1 ∷ [];
      does = does1;
      apart = apart1;
      posts = none_on h.actions (act1 ∷ []) h.posts refl;
      netless = list_any-append is_of_net h.actions (act1 ∷ []) ∙ ap (λ (b : Bool). b || false) h.netless;
      form = form1;
      taken = taken1;
      call_is = ap mark_ h.call_is;
      one_there = one_there1;
      count = ap (λ (gs : List Call). length gs) calls1 ∙ changed_length mark_ q.row.call w.calls ∙ h.count;
      steady = steady1;
      unreset = unreset1;
      same = λ i r at on. same_by i r (suc i == q.place) refl (ap (λ (xs : List Attempt). slice_get xs i) (sym attempts1) ∙ at) on;
      unfollowed = ap (λ (xs : List Attempt). list_any (is_later_of one) xs) attempts1 ∙ any_changed (is_later_of one) put (λ r. refl) q.place w.attempts ∙ h.unfollowed;
      still = still1;
      late = late1;
      wire = λ g. leaves line.WireEnd refl (h.wire g);
      tokens = tokens1;
      keys = ap (map key_of) attempts1 ∙ map_changed key_of put (λ r. refl) q.place w.attempts ∙ h.keys;
      owners = ap (map owner) attempts1 ∙ map_changed owner put (λ r. refl) q.place w.attempts ∙ h.owners;
    }

  -- all of them
  pub record Done (w t : Seen) : Type 0 where
    pub those : List Attempt
    pub all : those ≡ filter (is_other_out n one.row.number) w.attempts
    pub off : AttemptsAreCutOff those w t
    pub walked : Walked t
    pub none : next_cut_of n t ≡ None

  pub walk : (cuts : List Action) (w t : Seen) → Walked w → AttemptsAreCut n cuts w t → Done w t
  walk [] w t h are =
      subst (λ (z : Seen). Done w z) (sym are.1) (record { those = []; all = sym (none_out n one w h.taken w.attempts are.0); off = refl; walked = h; none = are.0 })
  walk (act ∷ cuts) w t h are =
      let cut_ : IsOneCut n one.row.number w act p = one_cut_is w h act are.0 in
      let rest : Done (w1 w h act are.0) t = walk cuts (w1 w h act are.0) t (walked1 w h act are.0) (subst (λ (z : Seen). AttemptsAreCut n cuts z t) cut_.does are.1) in
      record {
        those = cut_.attempt ∷ rest.those;
        all = ap (λ (xs : List Attempt). cut_.attempt ∷ xs) rest.all ∙ sym cut_.left;
        off = (cut_.out, rest.off);
        walked = rest.walked;
        none = rest.none;
      }

  -- it begins where the call has just been committed
  put_same : (q : Attempt) (b : Bool) → b ≡ false → (if b then with_end (e later waits also a out x o s is) q else q) ≡ q
  put_same q false off = refl
  put_same q true off = absurd (cc)

  v_same : (i : ℕ) (q : Attempt) → slice_get v.attempts i ≡ Some q → (suc i == a.place) ≡ false → slice_get s.attempts i ≡ Some q
  v_same i q at off =
      let from_ : IsFrom (λ (g : Attempt). end_put later waits also a out x o s is g) s.attempts i q
      = from_map (λ (g : Attempt). end_put later waits also a out x o s is g) s.attempts i q (ap (λ (xs : List Attempt). slice_get xs i) (sym (attempts_are later waits also a out x o s is)) ∙ at) in
      let place : from_.one.place ≡ suc i = place_is (suc i) s.attempts from_.one (numbers later waits also a out x o s is) from_.there in
      let same : q ≡ from_.one
      = from_.is ∙ put_same from_.one (from_.one.place == a.place) (ap (λ (m : ℕ). m == a.place) place ∙ off) in
      from_.there ∙ ap (λ (r : Attempt). Some r) (sym same)

  abbrev commits : Attempt → Attempt
  commits r = with_commitment (entry v) r

  abbrev its_end : Attempt
  its_end = with_end (e later waits also a out x o s is) a

  abbrev end_there : numbered v.attempts a.place ≡ Some its_end
  end_there = first.one_there later waits also a out x o s is

  f_same_by : (i : ℕ) (q : Attempt) (b : Bool) → (suc i == a.place) ≡ b → numbered (changed commits a.place v.attempts) (suc i) ≡ Some q → is_outstanding q ≡ true → slice_get s.attempts i ≡ Some q
  f_same_by i q true e at on =
      let same : q ≡ commits its_end = (at_by commits a.place (suc i) v.attempts its_end q true e end_there at).0 refl in
      absurd (both_ways (is_outstanding q) (ap is_outstanding same ∙ and_right (is_some a.row.placed) false refl) on)
  f_same_by i q false e at on = v_same i q ((at_by commits a.place (suc i) v.attempts its_end q false e end_there at).1 refl) e

  put_key : (q : Attempt) (b : Bool) → key_of (if b then with_end (e later waits also a out x o s is) q else q) ≡ key_of q
  put_key q true = refl
  put_key q false = refl

  pub start : Walked f
  start = record {
    actions = b1.actions;
    does = last.goes_two later waits also a out x o s is counting free final;
    apart = last.apart_two later waits also a out x o s is counting free final;
    posts = refl;
    netless = refl;
    form = refl;
    taken = record {
      call = closing.its later waits also a out x o s is counting b1;
      there = last.f_here later waits also a out x o s is counting;
      going = counting.goes_on;
      is = last.has_it later waits also a out x o s is counting free final;
    };
    call_is = refl;
    one_there = last.one_there later waits also a out x o s is counting;
    count = last.count_two later waits also a out x o s is counting;
    steady = last.steady_two later waits also a out x o s is counting (last.kept_two later waits also a out x o s is counting free final).book;
    unreset = last.unreset_two later waits also a out x o s is counting;
    same = λ i q at on. f_same_by i q (suc i == a.place) refl at on;
    unfollowed = any_changed (is_later_of its_end) commits (λ r. refl) a.place v.attempts ∙ last.unfollowed later waits also a out x o s is counting;
    still = last.still_two later waits also a out x o s is counting free final;
    late = last.late_two later waits also a out x o s is counting free final;
    wire = last.wire_two later waits also a out x o s is counting free final;
    tokens = last.tokens_two later waits also a out x o s is counting;
    keys = map_changed key_of commits (λ r. refl) a.place v.attempts ∙ ap (map key_of) (attempts_are later waits also a out x o s is)
        ∙ map_put (λ (g : Attempt). end_put later waits also a out x o s is g) (λ q. put_key q (q.place == a.place)) s.attempts;
    owners = map_changed owner commits (λ r. refl) a.place v.attempts ∙ map_changed owner (with_end (e later waits also a out x o s is)) (λ r. refl) a.place s.attempts;
  }
