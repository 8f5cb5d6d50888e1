-- An attempt of a call ends: no other end counts otherwise for that, and what the marks before it say of the next attempt is the same; but the moment of
-- a retry that was made since then.
use Rattle.std.proofs.Common.{◌≡◌, ◌-◌, ◌+◌, ◌∷◌, ◌||◌, ◌&&◌, ◌==◌, not, ap, refl, subst, sym, ◌∙◌, Bool, true, false, List, [], Option, None, Some, ℕ, cond, if◌then◌else◌, is_some, option_map}
use Rattle.std.proofs.lemmas.Bool.{and_parts, and_right, eq-eqb, or_from, or_parts}
use Rattle.std.specs.List.{list_all, list_any}
use Rattle.std.specs.Option.{option_map_or}
use Rattle.std.specs.Prelude.{filter_map, fold}
use Rattle.attempt_ledger.specs.Ends.{is_above}
use Rattle.attempt_ledger.specs.Numbering.{is_transparent}
use Rattle.attempt_ledger.specs.Throttling.{codes_of}
use Rattle.attempt_ledger.specs.TransparentRows.{is_refused}
use Rattle.attempt_ledger.specs.declared.row.Placed.{Placed}
use Rattle.attempt_ledger.specs.declared.row.RowEnd.{RowEnd}
use Rattle.call_actions.proofs.Columns as columns
use Rattle.call_actions.proofs.Columns.{Writes, written, written_seen}
use Rattle.call_actions.proofs.Frames.{holds_same}
use Rattle.call_actions.proofs.Lists.{numbered_not}
use Rattle.call_actions.proofs.Places.{only_here, place_is}
use Rattle.call_actions.proofs.Ranks.{filter_map_where, fold_map, numbered_map}
use Rattle.call_actions.specs.Order.{AttemptsAreNumbered, is_own_mark, is_retried}
use Rattle.grpc_base.specs.Codes.{has_code}
use Rattle.grpc_base.specs.declared.plan.CallPlan.{CallPlan}
use Rattle.grpc_base.specs.declared.plan.CallPlan.TheVariants as plan
use Rattle.grpc_base.specs.declared.plan.Pushback.{Pushback}
use Rattle.grpc_base.specs.declared.plan.Pushback.TheVariants as pushback
use Rattle.grpc_base.specs.declared.plan.Throttle.{Throttle}
use Rattle.session_actions.specs.Attempts.{counts_by, is_counted, is_followed, is_of, was_refused}
use Rattle.session_actions.specs.Configs.{plan_of}
use Rattle.session_actions.specs.DueAttempts.{attempts_made, counted_row, due_after_end, due_after_making, due_after_mark, due_by_plan, hedge_forced, is_licensed, is_licensed_by, last_delayed, retry_due}
use Rattle.session_actions.specs.Tokens.{allows_attempt, run_of}
use Rattle.session_actions.specs.Words.{holds, is_number, numbered}
use Rattle.session_actions.specs.declared.attempt.Attempt.{Attempt}
use Rattle.session_actions.specs.declared.call.Call.{Call}
use Rattle.session_actions.specs.declared.call.Mark.{Mark}
use Rattle.session_actions.specs.declared.call.MarkKind.{MarkKind}
use Rattle.session_actions.specs.declared.call.MarkKind.TheVariants as mark
use Rattle.session_actions.specs.declared.config.ThrottleRun.{ThrottleRun}
use Rattle.session_actions.specs.declared.due.DueState.{DueState}
use Rattle.session_actions.specs.declared.seen.Seen.{Seen}

-- the columns that an end leaves, and writes
abbrev pub placed_before : Attempt → Option Placed
placed_before q = q.row.placed

abbrev pub ended_by : ℕ → RowEnd → Attempt → Option RowEnd
ended_by place e q = if q.place == place then Some e else q.row.ended

abbrev pub with_end_at : ℕ → RowEnd → Attempt → Attempt
with_end_at place e q = written placed_before (ended_by place e) q

abbrev pub ended_seen : List ThrottleRun → ℕ → RowEnd → Seen → Seen
ended_seen runs place e s = record (written_seen placed_before (ended_by place e) s) { runs = runs }

-- the attempt of a call that ends, and what of its bucket stays
pub record Ends (s : Seen) (c : Call) (place : ℕ) (a : Attempt) (runs : List ThrottleRun) : Type 0 where
  pub places : AttemptsAreNumbered 1 s.attempts
  pub got : numbered s.attempts place ≡ Some a
  pub unended : a.row.ended ≡ None
  pub unfollowed : is_followed a s ≡ false
  pub throttle : option_map (λ (u : ThrottleRun). u.throttle) (run_of c (record s { runs = runs })) ≡ option_map (λ (u : ThrottleRun). u.throttle) (run_of c s)

-- of the next attempt the same is known, but for the moment of a retry
pub record AreLike (retried : Bool) (d z : DueState) : Type 0 where
  pub newest : d.newest ≡ z.newest
  pub placed : d.placed ≡ z.placed
  pub stopped : d.stopped ≡ z.stopped
  pub forced : retried ≡ false → d.forced ≡ z.forced

if_like : (retried b : Bool) (d z e y : DueState) → AreLike retried d z → AreLike retried e y → AreLike retried (if b then d else e) (if b then z else y)
if_like retried true d z e y one two = one
if_like retried false d z e y one two = two

hedge_like : (retried : Bool) (p : Pushback) (allowed : Bool) (e : RowEnd) (d z : DueState) → AreLike retried d z
    → AreLike retried (hedge_forced p allowed e d) (hedge_forced p allowed e z)
hedge_like retried pushback.Stop allowed e d z l = record { newest = l.newest; placed = l.placed; stopped = refl; forced = l.forced }
hedge_like retried (pushback.After millis) allowed e d z l = record { newest = l.newest; placed = l.placed; stopped = l.stopped; forced = λ n. refl }
hedge_like retried pushback.None allowed e d z l = record { newest = l.newest; placed = l.placed; stopped = refl; forced = λ n. refl }

module _ (s : Seen) (c : Call) (place : ℕ) (a : Attempt) (e : RowEnd) (runs : List ThrottleRun) (k : Ends s c place a runs) where
  abbrev h : Attempt → Attempt
  h q = with_end_at place e q

  abbrev t : Seen
  t = ended_seen runs place e s

  abbrev en : Attempt → Option RowEnd
  en q = ended_by place e q

  abbrev pub was_there : Attempt → Bool
  was_there q = (q.place == place) && (is_some q.row.ended || is_followed q s)

  pub none_was : list_any was_there s.attempts ≡ false
  none_was =
      only_here (λ (q : Attempt). is_some q.row.ended || is_followed q s) place a
      (or_from (is_some a.row.ended) (is_followed a s) (ap (λ (o : Option RowEnd). is_some o) k.unended) k.unfollowed) s.attempts k.places k.got

  refused_by : (b : Bool) (q : Attempt) → (b && (is_some q.row.ended || is_followed q s)) ≡ false
      → (holds is_refused (if b then Some e else q.row.ended) && is_followed q s) ≡ (was_refused q && is_followed q s)
  refused_by false q good = refl
  refused_by true q good =
      let parts : (is_some q.row.ended ≡ false) × (is_followed q s ≡ false) = or_parts (is_some q.row.ended) (is_followed q s) good in
      and_right (is_refused e) (is_followed q s) parts.1 ∙ sym (and_right (was_refused q) (is_followed q s) parts.1)

  pub writes : Writes s en was_there
  writes = record { none = none_was; refused = λ q good. refused_by (q.place == place) q good }

  kept_by : (b : Bool) (q : Attempt) → (b && (is_some q.row.ended || is_followed q s)) ≡ false → is_some q.row.ended ≡ true
      → (if b then Some e else q.row.ended) ≡ q.row.ended
  kept_by false q good some = refl
  kept_by true q good some =
      let parts : (is_some q.row.ended ≡ false) × (is_followed q s ≡ false) = or_parts (is_some q.row.ended) (is_followed q s) good in
      let both : true ≡ false = sym some ∙ parts.0 in absurd (cc)

  pub ended_kept : (q : Attempt) → was_there q ≡ false → is_some q.row.ended ≡ true → en q ≡ q.row.ended
  ended_kept q good some = kept_by (q.place == place) q good some

  -- the end itself
  its_place : a.place ≡ place
  its_place = place_is place s.attempts a k.places k.got

  pub end_here : en a ≡ Some e
  end_here = ap (λ (b : Bool). if b then Some e else a.row.ended) (eq-eqb a.place place its_place)

  pub counts_same : (q : Attempt) (z : RowEnd) → counts_by (h q) t z ≡ counts_by q s z
  counts_same q z = columns.counts_same s placed_before en was_there writes q z

  pub made_same : attempts_made c t ≡ attempts_made c s
  made_same =
      fold_map (λ (n : ℕ) (q : Attempt). n + cond (is_of c q && not (is_transparent q.row.kind)) 1 0)
      (λ (n : ℕ) (q : Attempt). n + cond (is_of c q && not (is_transparent q.row.kind)) 1 0) h (λ n q. refl) 0 s.attempts

  pub allows_same : (tokens : Option ℕ) → allows_attempt c tokens t ≡ allows_attempt c tokens s
  allows_same tokens = ap (λ (o : Option Throttle). is_above o tokens) k.throttle

  -- what the marks before say: the same, but for the moment of a retry where the delays are others
  abbrev pub AreDelaysSame : Bool → Type 0
  AreDelaysSame loose = loose ≡ false → is_retried (plan_of c s) ≡ true → (n : ℕ) → last_delayed c n t ≡ last_delayed c n s

  module _ (retried : Bool) (delays : AreDelaysSame retried) where
    plan_like : (p : CallPlan) → is_retried p ≡ is_retried (plan_of c s) → (q : Attempt) (z : RowEnd) (d y : DueState) → AreLike retried d y
        → AreLike retried (due_by_plan p c (h q) t d z) (due_by_plan p c q s y z)
    plan_like plan.None same q z d y l = l
    plan_like (plan.Retry p) same q z d y l = record {
      newest = l.newest;
      placed = l.placed;
      stopped = l.stopped;
      forced = λ n.
          ap (λ (b : Bool). if b then Some (retry_due p (q.row.number - last_delayed c q.row.number t) z) else None)
          (ap (λ (b : Bool). is_licensed_by (plan_of c s) q.row.number z.code z.pushback b) (allows_same z.tokens))
          ∙ ap (λ (k : ℕ). if is_licensed c q.row.number z.code z.pushback z.tokens s then Some (retry_due p (q.row.number - k) z) else None)
          (delays n (sym same) q.row.number);
    }
    plan_like (plan.Hedge p) same q z d y l =
        subst (λ (b : Bool). AreLike retried (hedge_forced z.pushback b z d) (hedge_forced z.pushback (allows_attempt c z.tokens s) z y)) (sym (allows_same z.tokens))
        (hedge_like retried z.pushback (allows_attempt c z.tokens s) z d y l)

    end_like : (q : Attempt) (z : RowEnd) (d y : DueState) → AreLike retried d y → AreLike retried (due_after_end c t d (h q) z) (due_after_end c s y q z)
    end_like q z d y l =
        let says : Bool = has_code (codes_of (plan_of c s)) z.code in
        let test : Bool = not y.stopped && counts_by q s z && says in
        let same : (not d.stopped && counts_by (h q) t z && says) ≡ test
        = ap (λ (b : Bool). not b && counts_by (h q) t z && says) l.stopped ∙ ap (λ (b : Bool). not y.stopped && b && says) (counts_same q z) in
        subst (λ (b : Bool). AreLike retried (if b then due_by_plan (plan_of c s) c (h q) t d z else d) (if test then due_by_plan (plan_of c s) c q s y z else y)) (sym same)
        (if_like retried test (due_by_plan (plan_of c s) c (h q) t d z) (due_by_plan (plan_of c s) c q s y z) d y (plan_like (plan_of c s) refl q z d y l) l)

    ends_like : (q : Attempt) (o : Option RowEnd) (d y : DueState) → AreLike retried d y
        → AreLike retried (option_map_or (due_after_end c t d (h q)) o d) (option_map_or (due_after_end c s y q) o y)
    ends_like q None d y l = l
    ends_like q (Some z) d y l = end_like q z d y l

    ended_like : (row : ℕ) (o : Option Attempt) → numbered s.attempts row ≡ o → holds (λ (q : Attempt). is_of c q && is_some q.row.ended) o ≡ true → (d y : DueState)
        → AreLike retried d y
        → AreLike retried (option_map_or (λ (q : Attempt). option_map_or (due_after_end c t d q) q.row.ended d) (option_map h o) d)
        (option_map_or (λ (q : Attempt). option_map_or (due_after_end c s y q) q.row.ended y) o y)
    ended_like row None there own d y l = absurd (cc)
    ended_like row (Some q) there own d y l =
        let parts : (is_of c q ≡ true) × (is_some q.row.ended ≡ true) = and_parts (is_of c q) (is_some q.row.ended) own in
        let kept : en q ≡ q.row.ended = ended_kept q (numbered_not was_there s.attempts row q none_was there) parts.1 in
        subst (λ (o : Option RowEnd). AreLike retried (option_map_or (due_after_end c t d (h q)) o d) (option_map_or (due_after_end c s y q) q.row.ended y)) (sym kept)
        (ends_like q q.row.ended d y l)

    made_like : (o : Option Attempt) (d y : DueState) → AreLike retried d y
        → AreLike retried (option_map_or (due_after_making d) (option_map h o) d) (option_map_or (due_after_making y) o y)
    made_like None d y l = l
    made_like (Some q) d y l =
        if_like retried (is_transparent q.row.kind) d y (record d { newest = Some q.place; placed = None; forced = None })
        (record y { newest = Some q.place; placed = None; forced = None }) l
        (record { newest = refl; placed = refl; stopped = l.stopped; forced = λ n. refl })

    placed_like : (b : Bool) (moment : ℕ) (d y : DueState) → AreLike retried d y
        → AreLike retried (if b then record d { placed = Some moment } else d) (if b then record y { placed = Some moment } else y)
    placed_like b moment d y l =
        if_like retried b (record d { placed = Some moment }) (record y { placed = Some moment }) d y
        (record { newest = l.newest; placed = refl; stopped = l.stopped; forced = l.forced }) l

    stopped_like : (d y : DueState) → AreLike retried d y → AreLike retried (record d { stopped = true }) (record y { stopped = true })
    stopped_like d y l = record { newest = l.newest; placed = l.placed; stopped = refl; forced = l.forced }

    mark_like : (w : MarkKind) (moment : ℕ) (d y : DueState) → is_own_mark s c w ≡ true → AreLike retried d y
        → AreLike retried (due_after_mark c t w moment d) (due_after_mark c s w moment y)
    mark_like mark.Configured moment d y own l = record { newest = l.newest; placed = l.placed; stopped = refl; forced = λ n. refl }
    mark_like (mark.Made row) moment d y own l =
        subst (λ (o : Option Attempt). AreLike retried (option_map_or (due_after_making d) o d) (option_map_or (due_after_making y) (numbered s.attempts row) y))
        (sym (numbered_map h s.attempts row)) (made_like (numbered s.attempts row) d y l)
    mark_like (mark.Placed row) moment d y own l =
        subst (λ (b : Bool). AreLike retried (if b then record d { placed = Some moment } else d) (if is_number row y.newest then record y { placed = Some moment } else y))
        (sym (ap (is_number row) l.newest)) (placed_like (is_number row y.newest) moment d y l)
    mark_like (mark.Ended row) moment d y own l =
        subst (λ (o : Option Attempt). AreLike retried (option_map_or (λ (q : Attempt). option_map_or (due_after_end c t d q) q.row.ended d) o d)
        (option_map_or (λ (q : Attempt). option_map_or (due_after_end c s y q) q.row.ended y) (numbered s.attempts row) y))
        (sym (numbered_map h s.attempts row)) (ended_like row (numbered s.attempts row) refl own d y l)
    mark_like mark.Withheld moment d y own l = stopped_like d y l
    mark_like mark.Committed moment d y own l = stopped_like d y l
    mark_like mark.Closed moment d y own l = stopped_like d y l

    pub due_like : (d y : DueState) (marks : List Mark) → list_all (λ (m : Mark). is_own_mark s c m.what) marks ≡ true → AreLike retried d y
        → AreLike retried (fold (λ (d : DueState) (m : Mark). due_after_mark c t m.what m.moment d) d marks) (fold (λ (d : DueState) (m : Mark). due_after_mark c s m.what m.moment d) y marks)
    due_like d y [] own l = l
    due_like d y (m ∷ marks) own l =
        let parts : (is_own_mark s c m.what ≡ true) × (list_all (λ (m : Mark). is_own_mark s c m.what) marks ≡ true)
        = and_parts (is_own_mark s c m.what) (list_all (λ (m : Mark). is_own_mark s c m.what) marks) own in
        due_like (due_after_mark c t m.what m.moment d) (due_after_mark c s m.what m.moment y) marks parts.1 (mark_like m.what m.moment d y parts.0 l)

  -- its marks are still its own
  own_by : (o : Option Attempt) → holds (is_of c) (option_map h o) ≡ holds (is_of c) o
  own_by None = refl
  own_by (Some q) = refl

  some_by : (b mine : Bool) (o : Option RowEnd) → (mine && is_some o) ≡ true → (mine && is_some (if b then Some e else o)) ≡ true
  some_by true true o e = refl
  some_by true false o e = absurd (cc)
  some_by false mine o e = e

  own_ended : (o : Option Attempt) → holds (λ (q : Attempt). is_of c q && is_some q.row.ended) o ≡ true
      → holds (λ (q : Attempt). is_of c q && is_some q.row.ended) (option_map h o) ≡ true
  own_ended None own = absurd (cc)
  own_ended (Some q) own = some_by (q.place == place) (is_of c q) q.row.ended own

  pub own_same : (w : MarkKind) → is_own_mark s c w ≡ true → is_own_mark t c w ≡ true
  own_same mark.Configured own = refl
  own_same (mark.Made row) own = ap (holds (is_of c)) (numbered_map h s.attempts row) ∙ own_by (numbered s.attempts row) ∙ own
  own_same (mark.Placed row) own = refl
  own_same (mark.Ended row) own =
      ap (holds (λ (q : Attempt). is_of c q && is_some q.row.ended)) (numbered_map h s.attempts row) ∙ own_ended (numbered s.attempts row) own
  own_same mark.Withheld own = refl
  own_same mark.Committed own = refl
  own_same mark.Closed own = refl

  -- which end counted last
  row_by : (row : ℕ) (o : Option Attempt) → numbered s.attempts row ≡ o → holds (λ (q : Attempt). is_of c q && is_some q.row.ended) o ≡ true
      → holds (λ (q : Attempt). is_counted q t) (option_map h o) ≡ holds (λ (q : Attempt). is_counted q s) o
  row_by row None there own = refl
  row_by row (Some q) there own =
      let parts : (is_of c q ≡ true) × (is_some q.row.ended ≡ true) = and_parts (is_of c q) (is_some q.row.ended) own in
      let kept : en q ≡ q.row.ended = ended_kept q (numbered_not was_there s.attempts row q none_was there) parts.1 in
      ap (holds (counts_by (h q) t)) kept ∙ holds_same (counts_by (h q) t) (counts_by q s) (counts_same q) q.row.ended

  row_same : (w : MarkKind) → is_own_mark s c w ≡ true → counted_row t w ≡ counted_row s w
  row_same mark.Configured own = refl
  row_same (mark.Made row) own = refl
  row_same (mark.Placed row) own = refl
  row_same (mark.Ended row) own =
      ap (λ (b : Bool). if b then Some row else None)
      (ap (holds (λ (q : Attempt). is_counted q t)) (numbered_map h s.attempts row) ∙ row_by row (numbered s.attempts row) refl own)
  row_same mark.Withheld own = refl
  row_same mark.Committed own = refl
  row_same mark.Closed own = refl

  pub counted_rows_same : (marks : List Mark) → list_all (λ (m : Mark). is_own_mark s c m.what) marks ≡ true
      → filter_map (λ (m : Mark). counted_row t m.what) marks ≡ filter_map (λ (m : Mark). counted_row s m.what) marks
  counted_rows_same marks own =
      filter_map_where (λ (m : Mark). counted_row t m.what) (λ (m : Mark). counted_row s m.what) (λ (m : Mark). is_own_mark s c m.what)
      (λ m good. row_same m.what good) marks own
