-- An attempt that is due is made.
use Rattle.std.proofs.Common.{◌≡◌, ◌<◌, ◌≤◌, ◌+◌, ◌∷◌, ◌++◌, ◌||◌, ◌&&◌, ◌==◌, not, nat_le, nat_lt, ap, arith, refl, subst, sym, ◌∙◌, Bool, true, false, List, [], Option, None, Some, ℕ, cond, filter, if◌then◌else◌, is_none, is_some, length, map, max, min, option_map}
use Rattle.std.proofs.Math.Nat.{min-eq_left}
use Rattle.std.proofs.lemmas.Bool.{and_left, and_right, eq-eqb, eqb-false, le-leb, le-ltb, leb-false, leb-true, lt-ltb, ltb-false, ne_eqb, or_from, or_parts, or_right}
use Rattle.std.proofs.lemmas.List.{append-nil, length-map, map-append}
use Rattle.std.proofs.lemmas.List.Elements.{filter-append, filter_map-append}
use Rattle.std.proofs.lemmas.List.Folds.{list_all-append, list_any-append}
use Rattle.std.proofs.lemmas.List.Sums.{fold-append}
use Rattle.std.specs.List.{list_all, list_any}
use Rattle.std.specs.Option.{option_map_or, option_or}
use Rattle.std.specs.Prelude.{filter_map, fold, option_and_then, unwrap_or}
use Rattle.attempt_ledger.specs.Ends.{delay_of}
use Rattle.attempt_ledger.specs.Hedging.{is_hedge}
use Rattle.attempt_ledger.specs.Numbering.{is_transparent, later_kind, most_attempts}
use Rattle.attempt_ledger.specs.declared.ledger.CallEnd.{CallEnd}
use Rattle.attempt_ledger.specs.declared.ledger.CallSeen.{CallSeen}
use Rattle.attempt_ledger.specs.declared.row.Row.{Row}
use Rattle.attempt_ledger.specs.declared.row.RowEnd.{RowEnd}
use Rattle.attempt_ledger.specs.declared.row.RowKind.{RowKind}
use Rattle.attempt_ledger.specs.declared.row.RowKind.TheVariants as kind
use Rattle.call_actions.proofs.Added.{Adds, Leaves, bucket_more, commitment_same, counted_rows_same, delayed_same, due_same, leaves, live_more, more_seen, own_same, retried_same}
use Rattle.call_actions.proofs.Unconfigured.{some_still}
use Rattle.call_actions.proofs.Dues.{attempts_are_due, hedges_are_tested, one_by, plan_is}
use Rattle.call_actions.proofs.Frames as frames
use Rattle.call_actions.proofs.Lists.{any_none, changed_here, numbered_last, stamped_here}
use Rattle.call_actions.proofs.Places.{numbered_snoc}
use Rattle.call_actions.proofs.Ranks.{all_so, filter_where}
use Rattle.call_actions.proofs.Report.{fold_last}
use Rattle.call_actions.specs.Laws.{AttemptsAreMade, HedgesAreRefused, NoneIsMade}
use Rattle.call_actions.specs.Order.{IsInOrder, Keeps, is_beyond, is_own_mark}
use Rattle.call_actions.specs.Sees.{AttemptsAgree, DuesAgree, Sees, is_live, live_rows}
use Rattle.call_core.specs.Parts as parts
use Rattle.call_core.specs.Parts.{is_above, is_tested, made_attempts}
use Rattle.call_core.specs.Steps as steps
use Rattle.call_core.specs.Steps.{Stepped, call_plan, due_at, made_if, next_place}
use Rattle.call_core.specs.declared.live.LiveRow.{LiveRow}
use Rattle.grpc_base.specs.declared.plan.CallPlan.{CallPlan}
use Rattle.grpc_base.specs.declared.plan.CallPlan.TheVariants as plan
use Rattle.ledger_stamps.specs.Steps as stamps
use Rattle.session_actions.specs.Attempts.{commitment, is_counted, is_later_of, is_of, is_over, is_over_in}
use Rattle.session_actions.specs.Configs.{plan_of}
use Rattle.session_actions.specs.DueAttempts.{attempts_made, counted_row, due_after_making, due_after_mark, due_state, hedge_due, kind_of_next, last_counted, last_delayed, next_due, no_due, was_delayed}
use Rattle.session_actions.specs.Entries.{entry, now}
use Rattle.session_actions.specs.Making.{attempt_made, due_attempt, due_if_past, new_row, with_row, without_turn_unless}
use Rattle.session_actions.specs.Calls.{marked}
use Rattle.session_actions.specs.Sessions.{call_seen}
use Rattle.session_actions.specs.Tokens.{has_tokens, run_of}
use Rattle.session_actions.specs.Words.{changed, holds, last_of, numbered}
use Rattle.session_actions.specs.declared.action.Action.{Action}
use Rattle.session_actions.specs.declared.action.Action.TheVariants as action
use Rattle.session_actions.specs.declared.attempt.Attempt.{Attempt}
use Rattle.session_actions.specs.declared.call.Call.{Call}
use Rattle.session_actions.specs.declared.call.Mark.{Mark}
use Rattle.session_actions.specs.declared.call.MarkKind.{MarkKind}
use Rattle.session_actions.specs.declared.call.MarkKind.TheVariants as mark
use Rattle.session_actions.specs.declared.due.DueState.{DueState}
use Rattle.session_actions.specs.declared.entry.OpenEntry.{OpenEntry}
use Rattle.session_actions.specs.declared.seen.Seen.{Seen}

abbrev seen_with : CallSeen → List ℕ → CallSeen
seen_with k made = record k { made = made }

-- an attempt that is due is no transparent retry
due_kind : (p : CallPlan) (b : Bool) → is_transparent (unwrap_or (if b then Some kind.First else later_kind p) kind.First) ≡ false
due_kind plan.None true = refl
due_kind plan.None false = refl
due_kind (plan.Retry p) true = refl
due_kind (plan.Retry p) false = refl
due_kind (plan.Hedge p) true = refl
due_kind (plan.Hedge p) false = refl

-- the channel gives it the same kind
kind_by : (p : CallPlan) (made : ℕ) (b : Bool) → (made == 0) ≡ b → nat_le (most_attempts p) made ≡ false
    → unwrap_or (if b then Some kind.First else later_kind p) kind.First ≡ (if b then kind.First else parts.later_kind p)
kind_by plan.None made true e few = refl
kind_by plan.None made false e few =
    let less : made < 1 = leb-false 1 made few in
    let none : made ≡ 0 = omega arith in absurd (eqb-false made 0 e none)
kind_by (plan.Retry p) made true e few = refl
kind_by (plan.Retry p) made false e few = refl
kind_by (plan.Hedge p) made true e few = refl
kind_by (plan.Hedge p) made false e few = refl

-- numbers of attempts
beyond_more : (b : Bool) (made n : ℕ) → (b && nat_lt made n) ≡ false → (b && nat_lt (made + 1) n) ≡ false
beyond_more false made n e = refl
beyond_more true made n e = let most : n ≤ made = ltb-false made n e in let more : n ≤ made + 1 = omega arith in le-ltb (made + 1) n more

within_both : (b : Bool) (made n j k : ℕ) → made ≤ j → made ≤ k → (b && nat_lt made n) ≡ false → (b && nat_le n j) ≡ (b && nat_le n k)
within_both false made n j k one two e = refl
within_both true made n j k one two e =
    let most : n ≤ made = ltb-false made n e in
    let first : n ≤ j = omega arith in
    let second : n ≤ k = omega arith in le-leb n j first ∙ sym (le-leb n k second)

pub delayed_within : (s : Seen) (c : Call) → list_any (is_beyond s c) s.attempts ≡ false → (j k : ℕ) → attempts_made c s ≤ j → attempts_made c s ≤ k
    → last_delayed c j s ≡ last_delayed c k s
delayed_within s c none j k one two =
    ap (fold (λ (n : ℕ) (a : Attempt). max n a.row.number) 0)
    (filter_where (was_delayed c j s) (was_delayed c k s) (is_beyond s c)
    (λ a good. ap (λ (b : Bool). (b && is_counted a s) && holds (λ (e : RowEnd). is_some (delay_of e.pushback)) a.row.ended)
    (within_both (is_of c a) (attempts_made c s) a.row.number j k one two good)) s.attempts none)

apart_by : (call made : ℕ) (a new : Attempt) (b : Bool) → new.row.call ≡ call → new.row.number ≡ made + 1 → (a.row.call == call) ≡ b → (b && nat_lt made a.row.number) ≡ false
    → ((new.row.call == a.row.call) && (new.row.number == a.row.number)) ≡ false
apart_by call made a new false own number e good =
    and_left (new.row.call == a.row.call) (new.row.number == a.row.number)
    (ne_eqb new.row.call a.row.call (λ same. eqb-false a.row.call call e (sym same ∙ own)))
apart_by call made a new true own number e good =
    let most : a.row.number ≤ made = ltb-false made a.row.number good in
    and_right (new.row.call == a.row.call) (new.row.number == a.row.number) (ne_eqb new.row.number a.row.number (λ same. omega arith))

-- while a moment is set for the next attempt
set_by : (b : Bool) (z : Option ℕ) (due : ℕ) → (if b then None else z) ≡ Some due → b ≡ false
set_by true z due e = absurd (cc)
set_by false z due e = refl

module _ (s : Seen) (c : Call) (x : Stepped) (due : ℕ) (h : Sees s c x) (o : IsInOrder s c) (is_open : c.end ≡ None) (next : next_due c s ≡ Some due)
    (few : attempts_made c s + 1 ≤ 4294967295) where
  abbrev made : ℕ
  made = attempts_made c s

  abbrev new : Attempt
  new = record { place = length s.attempts + 1; row = new_row c.number (made + 1) (kind_of_next c s) due; made = entry s; reset = false }

  going : ((due_state c s).stopped || nat_le (most_attempts (plan_of c s)) made) ≡ false
  going =
      set_by ((due_state c s).stopped || nat_le (most_attempts (plan_of c s)) made) (option_or (due_state c s).forced (hedge_due (plan_of c s) (due_state c s))) due next

  not_stopped : (due_state c s).stopped ≡ false
  not_stopped =
      let parts : ((due_state c s).stopped ≡ false) × (nat_le (most_attempts (plan_of c s)) made ≡ false)
      = or_parts (due_state c s).stopped (nat_le (most_attempts (plan_of c s)) made) going in parts.0

  not_most : nat_le (most_attempts (plan_of c s)) made ≡ false
  not_most =
      let parts : ((due_state c s).stopped ≡ false) × (nat_le (most_attempts (plan_of c s)) made ≡ false)
      = or_parts (due_state c s).stopped (nat_le (most_attempts (plan_of c s)) made) going in parts.1

  free_by : (k : Option Attempt) → commitment c s ≡ k → k ≡ None
  free_by None e = refl
  free_by (Some k) e =
      let stopped : (due_state c s).stopped ≡ true = o.stops (or_right (is_some c.end) (is_some (commitment c s)) (ap (λ (z : Option Attempt). is_some z) e)) in
      let both : true ≡ false = sym stopped ∙ not_stopped in absurd (cc)

  free : commitment c s ≡ None
  free = let none : commitment c s ≡ None = free_by (commitment c s) refl in none

  apart : (a : Attempt) → is_beyond s c a ≡ false → is_later_of a new ≡ false
  apart a good =
      and_left ((new.row.call == a.row.call) && (new.row.number == a.row.number)) (nat_lt a.place new.place)
      (apart_by c.number made a new (is_of c a) refl refl refl good)

  adds : Adds s new (is_beyond s c)
  adds = record { none = o.numbers; apart = apart; unended = refl; uncommitted = refl }

  left : Leaves s c new (is_beyond s c)
  left = leaves s c new (is_beyond s c) adds

  own_new : is_of c new ≡ true
  own_new = eq-eqb c.number c.number refl

  counted_new : (is_of c new && not (is_transparent new.row.kind)) ≡ true
  counted_new =
      ap (λ (b : Bool). b && not (is_transparent new.row.kind)) own_new ∙ ap (λ (b : Bool). not b) (due_kind (plan_of c s) (made + 1 == 1))

  not_over : is_over new s ≡ false
  not_over =
      ap (holds (λ (d : Call). is_over_in d new s)) h.own
      ∙ ap (λ (e : Option CallEnd). is_some e || holds (λ (k : Attempt). not (k.row.number == new.row.number)) (commitment c s)) is_open
      ∙ ap (holds (λ (k : Attempt). not (k.row.number == new.row.number))) free

  lives : is_live s c new ≡ true
  lives = ap (λ (b : Bool). b && not (is_over new s)) own_new ∙ ap (λ (b : Bool). not b) not_over

  -- what the session then is
  abbrev w : Mark
  w = record { what = mark.Made (length s.attempts + 1); moment = now s }

  abbrev d : Call
  d = record c { marks = c.marks ++ w ∷ [] }

  abbrev now_open : Option OpenEntry
  now_open = option_map (λ (q : OpenEntry). record q { turn = None }) s.current

  abbrev more : Seen
  more = more_seen s new

  abbrev t : Seen
  t = record more { calls = changed (λ (k : Call). record k { marks = k.marks ++ w ∷ [] }) c.number s.calls; current = now_open }

  made_now : attempts_made d t ≡ made + 1
  made_now =
      fold-append (λ (n : ℕ) (a : Attempt). n + cond (is_of c a && not (is_transparent a.row.kind)) 1 0) 0 s.attempts (new ∷ [])
      ∙ ap (λ (b : Bool). made + cond b 1 0) counted_new

  last_place : next_place x.ledger ≡ length s.attempts + 1
  last_place = ap (λ (l : List Row). length l + 1) (sym h.rows) ∙ ap (λ (n : ℕ). n + 1) (length-map s.attempts (λ (a : Attempt). a.row))

  abbrev sent_now : ℕ
  sent_now = min (x.call.attempts.sent + 1) 4294967295

  sent_same : sent_now ≡ made + 1
  sent_same =
      ap (λ (n : ℕ). min (n + 1) 4294967295) (sym h.attempts.sent) ∙ min-eq_left few

  due_now : due_state d t ≡ record (due_state c s) { newest = Some (length s.attempts + 1); placed = None; forced = None }
  due_now =
      fold_last (λ (z : DueState) (m : Mark). due_after_mark d t m.what m.moment z) no_due c.marks w
      ∙ ap (λ (z : DueState). due_after_mark d t w.what w.moment z)
      (frames.due_same more c.number (λ k. k.messages) (λ k. k.finished) (λ k. k.taken) (λ k. k.end_taken) (λ k. k.marks ++ w ∷ []) (λ k. k.end) now_open c no_due c.marks
      ∙ due_same s c new (is_beyond s c) left o.marks)
      ∙ ap (λ (a : Option Attempt). option_map_or (due_after_making (due_state c s)) a (due_state c s)) (numbered_last s.attempts new)
      ∙ ap (λ (b : Bool). if b then due_state c s else record (due_state c s) { newest = Some new.place; placed = None; forced = None }) (due_kind (plan_of c s) (made + 1 == 1))

  rows_now : last_counted d t ≡ last_counted c s
  rows_now =
      ap last_of
      (filter_map-append (λ (m : Mark). counted_row t m.what) c.marks (w ∷ []) ∙ append-nil (filter_map (λ (m : Mark). counted_row t m.what) c.marks)
      ∙ frames.counted_rows_same more c.number (λ k. k.messages) (λ k. k.finished) (λ k. k.taken) (λ k. k.end_taken) (λ k. k.marks ++ w ∷ []) (λ k. k.end) now_open c.marks
      ∙ counted_rows_same s c new (is_beyond s c) left o.marks)

  delayed_now : last_delayed d sent_now t ≡ last_delayed c x.call.attempts.sent s
  delayed_now =
      let one : attempts_made c s ≤ sent_now = (let same : sent_now ≡ attempts_made c s + 1 = sent_same in omega arith) in
      let two : attempts_made c s ≤ x.call.attempts.sent = (let same : attempts_made c s ≡ x.call.attempts.sent = h.attempts.sent in omega arith) in
      frames.delayed_same more c.number (λ k. k.messages) (λ k. k.finished) (λ k. k.taken) (λ k. k.end_taken) (λ k. k.marks ++ w ∷ []) (λ k. k.end) now_open c sent_now
      ∙ delayed_same s c new (is_beyond s c) left sent_now ∙ delayed_within s c o.numbers sent_now x.call.attempts.sent one two

  attempts_now : AttemptsAgree t d (made_attempts (next_place x.ledger) x.call.attempts)
  attempts_now =
      let a : AttemptsAgree s c x.call.attempts = h.attempts in
      let due_is : DuesAgree (record (due_state c s) { newest = Some (length s.attempts + 1); placed = None; forced = None }) (made_attempts (next_place x.ledger) x.call.attempts)
      = record { newest = ap (λ (n : ℕ). Some n) (sym last_place); placed = refl; stopped = a.due.stopped; forced = λ e. refl } in
      record {
        sent = made_now ∙ sym sent_same;
        due = subst (λ (z : DueState). DuesAgree z (made_attempts (next_place x.ledger) x.call.attempts)) (sym due_now) due_is;
        unplaced = λ e. refl;
        delayed = λ keeps free. delayed_now ∙ a.delayed keeps free;
        last = λ free. rows_now ∙ a.last free;
        refused = retried_same s new (is_beyond s c) adds c ∙ a.refused;
        committed = ap (option_map (λ (k : Attempt). k.place)) (commitment_same s new (is_beyond s c) adds c) ∙ a.committed;
      }

  abbrev live_at : ℕ → ℕ → LiveRow
  live_at place number = record { place = place; number = number; link = None }

  live_now : live_rows t d ≡ x.call.live ++ live_at (next_place x.ledger) sent_now ∷ []
  live_now =
      frames.live_same more c.number (λ k. k.messages) (λ k. k.finished) (λ k. k.taken) (λ k. k.end_taken) (λ k. k.marks ++ w ∷ []) now_open c
      ∙ live_more s c new (is_beyond s c) left lives ∙ ap (λ (l : List LiveRow). l ++ live_at (length s.attempts + 1) (made + 1) ∷ []) h.live
      ∙ ap (λ (n : ℕ). x.call.live ++ live_at n (made + 1) ∷ []) (sym last_place)
      ∙ ap (λ (n : ℕ). x.call.live ++ live_at (next_place x.ledger) n ∷ []) (sym sent_same)

  kind_same : kind_of_next c s ≡ parts.kind_of_next (call_plan x.call) x.call.attempts
  kind_same =
      let first : (made + 1 == 1) ≡ (made == 0) = one_by made (made + 1 == 1) (made == 0) refl refl in
      ap (λ (b : Bool). unwrap_or (if b then Some kind.First else later_kind (plan_of c s)) kind.First) first
      ∙ kind_by (plan_of c s) made (made == 0) refl not_most
      ∙ ap (λ (p : CallPlan). if made == 0 then kind.First else parts.later_kind p) (plan_is s c x h)
      ∙ ap (λ (n : ℕ). if n == 0 then kind.First else parts.later_kind (call_plan x.call)) h.attempts.sent

  row_now : new.row ≡ steps.new_row x.call.number sent_now (parts.kind_of_next (call_plan x.call) x.call.attempts) due None
  row_now =
      ap (λ (n : ℕ). new_row n (made + 1) (kind_of_next c s) due) h.number_is
      ∙ ap (λ (n : ℕ). new_row x.call.number n (kind_of_next c s) due) (sym sent_same)
      ∙ ap (λ (k : RowKind). new_row x.call.number sent_now k due) kind_same

  noted_now : (call_seen s c).made ++ x.ledger.entry ∷ [] ≡ map (λ (a : Attempt). a.made) (filter (is_of d) (s.attempts ++ new ∷ []))
  noted_now =
      sym (ap (map (λ (a : Attempt). a.made))
      (filter-append (is_of c) s.attempts (new ∷ []) ∙ ap (λ (b : Bool). filter (is_of c) s.attempts ++ cond b (new ∷ []) []) own_new)
      ∙ map-append (λ (a : Attempt). a.made) (filter (is_of c) s.attempts) (new ∷ [])
      ∙ ap (λ (e : ℕ). map (λ (a : Attempt). a.made) (filter (is_of c) s.attempts) ++ e ∷ []) h.entry_is)

  call_now : numbered (steps.made due x).ledger.calls c.number ≡ Some (call_seen t d)
  call_now =
      ap (λ (n : ℕ). numbered (stamps.changed_at (stamps.noted_call x.ledger.entry) x.ledger.calls n) c.number) (sym h.number_is)
      ∙ stamped_here (stamps.noted_call x.ledger.entry) c.number x.ledger.calls (call_seen s c) h.call_is
      ∙ ap (λ (l : List ℕ). Some (seen_with (call_seen s c) l)) noted_now

  sees_now : Sees t d (steps.made due x)
  sees_now = record {
    own = changed_here (λ (k : Call). record k { marks = k.marks ++ w ∷ [] }) c.number s.calls c h.own;
    number_is = h.number_is;
    request = h.request;
    begun = h.begun;
    chosen = h.chosen;
    finished = h.finished;
    longest_is = h.longest_is;
    ended = h.ended;
    attempts = attempts_now;
    live = live_now;
    tokens = frames.bucket_reported more c.number (λ k. k.messages) (λ k. k.finished) (λ k. k.taken) (λ k. k.end_taken) (λ k. k.marks ++ w ∷ []) (λ k. k.end) now_open (run_of c s)
        ∙ bucket_more s c new (is_beyond s c) left (run_of c s) ∙ h.tokens;
    entry_is = ap (λ (b : Bool). length s.entries + (if b then 1 else 0)) (some_still (λ (q : OpenEntry). record q { turn = None }) s.current) ∙ h.entry_is;
    rows = map-append (λ (a : Attempt). a.row) s.attempts (new ∷ []) ∙ ap (λ (l : List Row). l ++ new.row ∷ []) h.rows ∙ ap (λ (r : Row). x.ledger.rows ++ r ∷ []) row_now;
    call_is = call_now;
  }

  own_now : (k : MarkKind) → is_own_mark s c k ≡ true → is_own_mark t d k ≡ true
  own_now k own = own_same s c new (is_beyond s c) left k own

  marks_now : list_all (λ (m : Mark). is_own_mark t d m.what) (c.marks ++ w ∷ []) ≡ true
  marks_now =
      list_all-append (λ (m : Mark). is_own_mark t d m.what) c.marks (w ∷ [])
      ∙ ap (λ (b : Bool). b && (is_own_mark t d w.what && true))
      (all_so (λ (m : Mark). is_own_mark s c m.what) (λ (m : Mark). is_own_mark t d m.what) (λ m own. own_now m.what own) c.marks o.marks)
      ∙ ap (λ (b : Bool). b && true) (ap (holds (is_of c)) (numbered_last s.attempts new) ∙ own_new)

  abbrev above : Attempt → Bool
  above a = is_of c a && nat_lt (made + 1) a.row.number

  past_now : list_any above (s.attempts ++ new ∷ []) ≡ false
  past_now =
      let none : list_any above s.attempts ≡ false = any_none above (is_beyond s c) (λ a e. beyond_more (is_of c a) made a.row.number e) s.attempts o.numbers in
      let most : made + 1 ≤ made + 1 = omega arith in
      list_any-append above s.attempts (new ∷ []) ∙ ap (λ (b : Bool). b || (above new || false)) none
      ∙ ap (λ (b : Bool). b || false) (and_right (is_of c new) (nat_lt (made + 1) (made + 1)) (le-ltb (made + 1) (made + 1) most))

  order_now : IsInOrder t d
  order_now =
      let place : length s.attempts + 1 ≡ 1 + length s.attempts = omega arith in
      let free_now : is_some (commitment d t) ≡ false
      = ap (λ (z : Option Attempt). is_some z) (commitment_same s new (is_beyond s c) adds c ∙ free) in
      record {
        places = numbered_snoc 1 s.attempts new o.places place;
        marks = marks_now;
        numbers = ap (λ (n : ℕ). list_any (λ (a : Attempt). is_of c a && nat_lt n a.row.number) (s.attempts ++ new ∷ [])) made_now ∙ past_now;
        first = λ e. (let none : made + 1 ≡ 0 = sym made_now ∙ e in absurd (omega arith));
        stops = λ e.
            (let both : true ≡ false = sym e ∙ or_from (is_some c.end) (is_some (commitment d t)) (ap (λ (z : Option CallEnd). is_some z) is_open) free_now in absurd (cc));
      }

  is_made : attempt_made c.number (made + 1) (kind_of_next c s) due s ≡ t
  is_made =
      ap (λ (b : Bool). without_turn_unless b (marked (mark.Made (length s.attempts + 1)) c.number (with_row (new_row c.number (made + 1) (kind_of_next c s) due) s)))
      (due_kind (plan_of c s) (made + 1 == 1))

  pub made_here : (y : Stepped) → y ≡ steps.made due x → Keeps (attempt_made c.number (made + 1) (kind_of_next c s) due s) c.number y
  made_here y e =
      subst (λ (z : Seen). Keeps z c.number y) (sym is_made)
      (subst (λ (z : Stepped). Keeps t c.number z) (sym e) (record { call = d; number_is = refl; sees = sees_now; order = order_now }))

-- what the session's line says
record Fires (s : Seen) (c : Call) (due : ℕ) : Type 0 where
  is_open : c.end ≡ None
  next : next_due c s ≡ Some due
  past : nat_le due (now s) ≡ true

-- of an attempt that is made
record Makes (s : Seen) (c : Call) (number : ℕ) (why : RowKind) (due : ℕ) : Type 0 where
  fires : Fires s c due
  allowed : (is_hedge (kind_of_next c s) && not (has_tokens c s)) ≡ false
  number_is : number ≡ attempts_made c s + 1
  kind_is : why ≡ kind_of_next c s

open_is : (e : Option CallEnd) → is_none e ≡ true → e ≡ None
open_is None e = refl
open_is (Some end) e = absurd (cc)

module _ (s : Seen) (c : Call) where
  -- an attempt that is made
  makes_tested : (number : ℕ) (why : RowKind) (due at : ℕ) (b : Bool) → c.end ≡ None → next_due c s ≡ Some at → nat_le at (now s) ≡ true
      → (is_hedge (kind_of_next c s) && not (has_tokens c s)) ≡ b
      → ◌≡◌ {A = Option Action} (Some (if b then action.HedgeWithheld c.number else action.AttemptMade c.number (attempts_made c s + 1) (kind_of_next c s) at))
      (Some (action.AttemptMade c.number number why due))
      → Makes s c number why due
  makes_tested number why due at true is_open next past test e = absurd (cc)
  makes_tested number why due at false is_open next past test e =
      let one : at ≡ due = (cc) in
      let two : number ≡ attempts_made c s + 1 = (cc) in
      let three : why ≡ kind_of_next c s = (cc) in
      record {
        fires = record { is_open = is_open; next = next ∙ ap (λ (n : ℕ). Some n) one; past = ap (λ (n : ℕ). nat_le n (now s)) (sym one) ∙ past };
        allowed = test;
        number_is = two;
        kind_is = three;
      }

  makes_past : (number : ℕ) (why : RowKind) (due at : ℕ) (b : Bool) → c.end ≡ None → next_due c s ≡ Some at → nat_le at (now s) ≡ b
      → (if b then Some (due_attempt c s at) else None) ≡ Some (action.AttemptMade c.number number why due) → Makes s c number why due
  makes_past number why due at true is_open next past e = makes_tested number why due at (is_hedge (kind_of_next c s) && not (has_tokens c s)) is_open next past refl e
  makes_past number why due at false is_open next past e = absurd (cc)

  makes_due : (number : ℕ) (why : RowKind) (due : ℕ) (o : Option ℕ) → c.end ≡ None → next_due c s ≡ o
      → option_and_then (due_if_past c s) o ≡ Some (action.AttemptMade c.number number why due) → Makes s c number why due
  makes_due number why due None is_open next e = absurd (cc)
  makes_due number why due (Some at) is_open next e = makes_past number why due at (nat_le at (now s)) is_open next refl e

  makes_open : (number : ℕ) (why : RowKind) (due : ℕ) (b : Bool) → is_none c.end ≡ b
      → (if b then option_and_then (due_if_past c s) (next_due c s) else None) ≡ Some (action.AttemptMade c.number number why due) → Makes s c number why due
  makes_open number why due true is_open e = makes_due number why due (next_due c s) (open_is c.end is_open) refl e
  makes_open number why due false is_open e = absurd (cc)

-- what the channel makes of it
module _ (s : Seen) (c : Call) (x : Stepped) (h : Sees s c x) where
  due_is : (due : ℕ) → next_due c s ≡ Some due → nat_le due (now s) ≡ true → steps.made_due (now s) x ≡ due_at (now s) due x
  due_is due next past =
      ap (λ (o : Option ℕ). made_if o (now s) x) (sym (attempts_are_due s c x h) ∙ next)
      ∙ ap (λ (b : Bool). if b then x else due_at (now s) due x) (le-ltb (now s) due (leb-true due (now s) past))

  made_is : (due : ℕ) → next_due c s ≡ Some due → nat_le due (now s) ≡ true → (is_hedge (kind_of_next c s) && not (has_tokens c s)) ≡ false
      → steps.made_due (now s) x ≡ steps.made due x
  made_is due next past test =
      due_is due next past ∙ ap (λ (b : Bool). if b then steps.refused_due (now s) x else steps.made due x) (sym (hedges_are_tested s c x h) ∙ test)

pub attempts_are_made : AttemptsAreMade
attempts_are_made s c x number why due h o e few =
    let m : Makes s c number why due = makes_open s c number why due (is_none c.end) refl e in
    let small : attempts_made c s + 1 ≤ 4294967295 = (let same : number ≡ attempts_made c s + 1 = m.number_is in omega arith) in
    let same : steps.made_due (now s) x ≡ steps.made due x = made_is s c x h due m.fires.next m.fires.past m.allowed in
    subst (λ (n : ℕ). Keeps (attempt_made c.number n why due s) c.number (steps.made_due (now s) x)) (sym m.number_is)
    (subst (λ (k : RowKind). Keeps (attempt_made c.number (attempts_made c s + 1) k due s) c.number (steps.made_due (now s) x)) (sym m.kind_is)
    (made_here s c x due h o m.fires.is_open m.fires.next small (steps.made_due (now s) x) same))

-- where the line gives nothing
module _ (s : Seen) (c : Call) (x : Stepped) where
  none_past : (at : ℕ) (b : Bool) → nat_le at (now s) ≡ b → (if b then Some (due_attempt c s at) else None) ≡ None → made_if (Some at) (now s) x ≡ x
  none_past at true past e = absurd (cc)
  none_past at false past e = ap (λ (b : Bool). if b then x else due_at (now s) at x) (lt-ltb (now s) at (leb-false at (now s) past))

  none_due : (due : Option ℕ) → option_and_then (due_if_past c s) due ≡ None → made_if due (now s) x ≡ x
  none_due None e = refl
  none_due (Some at) e = none_past at (nat_le at (now s)) refl e

pub none_is_made : NoneIsMade
none_is_made s c x h e is_open =
    let open_now : option_and_then (due_if_past c s) (next_due c s) ≡ None
    = sym (ap (λ (z : Option CallEnd). if is_none z then option_and_then (due_if_past c s) (next_due c s) else None) is_open) ∙ e in
    ap (λ (z : Option ℕ). made_if z (now s) x) (sym (attempts_are_due s c x h)) ∙ none_due s c x (next_due c s) open_now

-- where it withholds a hedge
record Withholds (s : Seen) (c : Call) : Type 0 where
  due : ℕ
  next : next_due c s ≡ Some due
  past : nat_le due (now s) ≡ true
  forbidden : (is_hedge (kind_of_next c s) && not (has_tokens c s)) ≡ true

module _ (s : Seen) (c : Call) where
  held_tested : (at : ℕ) (b : Bool) → next_due c s ≡ Some at → nat_le at (now s) ≡ true → (is_hedge (kind_of_next c s) && not (has_tokens c s)) ≡ b
      → ◌≡◌ {A = Option Action} (Some (if b then action.HedgeWithheld c.number else action.AttemptMade c.number (attempts_made c s + 1) (kind_of_next c s) at))
      (Some (action.HedgeWithheld c.number))
      → Withholds s c
  held_tested at true next past test e = record { due = at; next = next; past = past; forbidden = test }
  held_tested at false next past test e = absurd (cc)

  held_past : (at : ℕ) (b : Bool) → next_due c s ≡ Some at → nat_le at (now s) ≡ b
      → (if b then Some (due_attempt c s at) else None) ≡ Some (action.HedgeWithheld c.number) → Withholds s c
  held_past at true next past e = held_tested at (is_hedge (kind_of_next c s) && not (has_tokens c s)) next past refl e
  held_past at false next past e = absurd (cc)

  held_due : (due : Option ℕ) → next_due c s ≡ due → option_and_then (due_if_past c s) due ≡ Some (action.HedgeWithheld c.number) → Withholds s c
  held_due None next e = absurd (cc)
  held_due (Some at) next e = held_past at (nat_le at (now s)) next refl e

  held_open : (b : Bool) → (if b then option_and_then (due_if_past c s) (next_due c s) else None) ≡ Some (action.HedgeWithheld c.number) → Withholds s c
  held_open true e = held_due (next_due c s) refl e
  held_open false e = absurd (cc)

pub hedges_are_refused : HedgesAreRefused
hedges_are_refused s c x h e =
    let m : Withholds s c = held_open s c (is_none c.end) e in
    due_is s c x h m.due m.next m.past
    ∙ ap (λ (b : Bool). if b then steps.refused_due (now s) x else steps.made m.due x) (sym (hedges_are_tested s c x h) ∙ m.forbidden)
