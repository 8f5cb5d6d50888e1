-- What an application posts to a call or takes of it, and what is marked of it, changes nothing that a session says of attempts and tokens.
use Rattle.std.proofs.Common.{◌≡◌, ◌-◌, ◌∷◌, ◌||◌, ◌&&◌, ◌==◌, not, nat_le, ap, refl, subst, sym, ◌∙◌, Bool, true, false, List, [], Option, None, Some, ℕ, cond, filter, if◌then◌else◌, is_none, is_some, map, max}
use Rattle.std.proofs.lemmas.Bool.{eqb-false, eqb-true}
use Rattle.std.specs.Option.{option_map, option_map_or}
use Rattle.std.specs.Prelude.{filter_map, fold}
use Rattle.attempt_ledger.specs.Ends.{delay_of, is_cut}
use Rattle.attempt_ledger.specs.Throttling.{codes_of}
use Rattle.attempt_ledger.specs.declared.ledger.CallEnd.{CallEnd}
use Rattle.attempt_ledger.specs.declared.row.RowEnd.{RowEnd}
use Rattle.call_actions.proofs.Lists.{changed_away, changed_here}
use Rattle.call_actions.specs.Sees.{bucket_of, is_live, live_row, live_rows}
use Rattle.grpc_base.specs.Codes.{has_code}
use Rattle.grpc_base.specs.declared.plan.CallPlan.{CallPlan}
use Rattle.grpc_base.specs.declared.plan.CallPlan.TheVariants as plan
use Rattle.session_actions.specs.Attempts.{commitment, counts_by, is_counted, is_followed, is_of, is_outstanding, is_over, is_over_in, is_to_follow, wants_follower_by}
use Rattle.session_actions.specs.Configs.{plan_of}
use Rattle.session_actions.specs.DueAttempts.{counted_row, due_after_end, due_after_mark, due_by_plan, is_licensed, last_delayed, retry_due, was_delayed}
use Rattle.session_actions.specs.Tokens.{tokens_after, tokens_by}
use Rattle.session_actions.specs.Words.{changed, changed_if, holds, numbered}
use Rattle.session_actions.specs.declared.attempt.Attempt.{Attempt}
use Rattle.session_actions.specs.declared.call.Call.{Call}
use Rattle.session_actions.specs.declared.call.Mark.{Mark}
use Rattle.session_actions.specs.declared.call.MarkKind.{MarkKind}
use Rattle.session_actions.specs.declared.config.ThrottleRun.{ThrottleRun}
use Rattle.session_actions.specs.declared.due.DueState.{DueState}
use Rattle.session_actions.specs.declared.entry.OpenEntry.{OpenEntry}
use Rattle.session_actions.specs.declared.seen.Seen.{Seen}
use Rattle.session_actions.specs.declared.call.MarkKind.TheVariants as mark
use Rattle.a6_numbers.specs.Throttling.{Bucket}

abbrev pub bucket_by : ThrottleRun → ℕ → Bucket
bucket_by run k = record { start = run.throttle.start; ratio = run.throttle.ratio; count = k }

-- tests and functions that agree
pub holds_same : {X : Type 0} (p q : X → Bool) → ((x : X) → p x ≡ q x) → (o : Option X) → holds p o ≡ holds q o
holds_same p q same None = refl
holds_same p q same (Some x) = same x

pub or_same : {X Y : Type 0} (g h : X → Y) (d : Y) → ((x : X) → g x ≡ h x) → (o : Option X) → option_map_or g o d ≡ option_map_or h o d
or_same g h d same None = refl
or_same g h d same (Some x) = same x

pub filter_same : (p q : Attempt → Bool) → ((x : Attempt) → p x ≡ q x) → (xs : List Attempt) → filter p xs ≡ filter q xs
filter_same p q same [] = refl
filter_same p q same (x ∷ xs) =
    ap (λ (b : Bool). cond b (x ∷ filter p xs) (filter p xs)) (same x) ∙ ap (λ (l : List Attempt). cond (q x) (x ∷ l) l) (filter_same p q same xs)

rows_by : (m : Mark) (g h : Mark → Option ℕ) (marks : List Mark) (o : Option ℕ) → g m ≡ o → h m ≡ o → filter_map g marks ≡ filter_map h marks
    → filter_map g (m ∷ marks) ≡ filter_map h (m ∷ marks)
rows_by m g h marks None e f rest = (cc)
rows_by m g h marks (Some row) e f rest = (cc)

pub rows_same : (g h : Mark → Option ℕ) → ((m : Mark) → g m ≡ h m) → (marks : List Mark) → filter_map g marks ≡ filter_map h marks
rows_same g h same [] = refl
rows_same g h same (m ∷ marks) = rows_by m g h marks (h m) (same m) refl (rows_same g h same marks)

-- a call after that
abbrev pub retold : (Call → List (List ℕ)) → (Call → Bool) → (Call → ℕ) → (Call → Bool) → (Call → List Mark) → (Call → Option CallEnd) → Call → Call
retold messages finished taken end_taken marks end c =
    record c { messages = messages c; finished = finished c; taken = taken c; end_taken = end_taken c; marks = marks c; end = end c }

changed_map_by : (f : Call → Call) (n : ℕ) (xs : List Call) (o : Option Call) → numbered xs n ≡ o → numbered (changed f n xs) n ≡ option_map f o
changed_map_by f n xs None e = ap (λ (o : Option Call). numbered (changed_if f n xs o) n) e ∙ e
changed_map_by f n xs (Some c) e = changed_here f n xs c e

module _ (s : Seen) (n : ℕ) (messages : Call → List (List ℕ)) (finished : Call → Bool) (taken : Call → ℕ) (end_taken : Call → Bool) (marks : Call → List Mark)
    (end : Call → Option CallEnd) (current : Option OpenEntry) where
  abbrev pub reported : Call → Call
  reported c = retold messages finished taken end_taken marks end c

  abbrev pub then_seen : Seen
  then_seen = record s { calls = changed reported n s.calls; current = current }

  holds_reported : (P : Call → Bool) → ((c : Call) → P (reported c) ≡ P c) → (o : Option Call) → holds P (option_map reported o) ≡ holds P o
  holds_reported P same None = refl
  holds_reported P same (Some c) = same c

  lookup_by : (P : Call → Bool) → ((c : Call) → P (reported c) ≡ P c) → (k : ℕ) (x : Bool) → (k == n) ≡ x
      → holds P (numbered (changed reported n s.calls) k) ≡ holds P (numbered s.calls k)
  lookup_by P same k true e =
      let here : holds P (numbered (changed reported n s.calls) n) ≡ holds P (numbered s.calls n)
      = ap (holds P) (changed_map_by reported n s.calls (numbered s.calls n) refl) ∙ holds_reported P same (numbered s.calls n) in
      subst (λ (j : ℕ). holds P (numbered (changed reported n s.calls) j) ≡ holds P (numbered s.calls j)) (sym (eqb-true k n e)) here
  lookup_by P same k false e = ap (holds P) (changed_away reported n k s.calls (eqb-false k n e))

  lookup : (P : Call → Bool) → ((c : Call) → P (reported c) ≡ P c) → (k : ℕ) → holds P (numbered (changed reported n s.calls) k) ≡ holds P (numbered s.calls k)
  lookup P same k = lookup_by P same k (k == n) refl

  plan_reported : (g : Call → CallPlan) → ((c : Call) → g (reported c) ≡ g c) → (o : Option Call) → option_map_or g (option_map reported o) plan.None ≡ option_map_or g o plan.None
  plan_reported g same None = refl
  plan_reported g same (Some c) = same c

  plan_by : (g : Call → CallPlan) → ((c : Call) → g (reported c) ≡ g c) → (k : ℕ) (x : Bool) → (k == n) ≡ x
      → option_map_or g (numbered (changed reported n s.calls) k) plan.None ≡ option_map_or g (numbered s.calls k) plan.None
  plan_by g same k true e =
      let here : option_map_or g (numbered (changed reported n s.calls) n) plan.None ≡ option_map_or g (numbered s.calls n) plan.None
      = ap (λ (o : Option Call). option_map_or g o plan.None) (changed_map_by reported n s.calls (numbered s.calls n) refl) ∙ plan_reported g same (numbered s.calls n) in
      subst (λ (j : ℕ). option_map_or g (numbered (changed reported n s.calls) j) plan.None ≡ option_map_or g (numbered s.calls j) plan.None) (sym (eqb-true k n e)) here
  plan_by g same k false e = ap (λ (o : Option Call). option_map_or g o plan.None) (changed_away reported n k s.calls (eqb-false k n e))

  -- which ends count
  pub wants_same : (a : Attempt) (e : RowEnd) → wants_follower_by a then_seen e ≡ wants_follower_by a s e
  wants_same a e =
      ap (λ (x : Bool). not (is_followed a s) && x) (lookup (λ (c : Call). is_to_follow c e.cause e.unseen s) (λ c. refl) a.row.call)

  pub counts_same : (a : Attempt) (e : RowEnd) → counts_by a then_seen e ≡ counts_by a s e
  counts_same a e = ap (λ (x : Bool). (not (is_cut e.cause) && not (is_followed a s)) && not x) (wants_same a e)

  counted_same : (a : Attempt) → is_counted a then_seen ≡ is_counted a s
  counted_same a = holds_same (counts_by a then_seen) (counts_by a s) (counts_same a) a.row.ended

  delayed_one : (c : Call) (k : ℕ) (a : Attempt) → was_delayed c k then_seen a ≡ was_delayed c k s a
  delayed_one c k a =
      ap (λ (x : Bool). ((is_of c a && nat_le a.row.number k) && x) && holds (λ (d : RowEnd). is_some (delay_of d.pushback)) a.row.ended) (counted_same a)

  pub delayed_same : (c : Call) (k : ℕ) → last_delayed c k then_seen ≡ last_delayed c k s
  delayed_same c k =
      ap (fold (λ (j : ℕ) (a : Attempt). max j a.row.number) 0) (filter_same (was_delayed c k then_seen) (was_delayed c k s) (delayed_one c k) s.attempts)

  -- which rows are live, where it does not end
  over_same : (open_still : (c : Call) → end c ≡ c.end) (a : Attempt) → is_over a then_seen ≡ is_over a s
  over_same open_still a =
      lookup (λ (c : Call). is_over_in c a s)
      (λ c. ap (λ (e : Option CallEnd). is_some e || holds (λ (k : Attempt). not (k.row.number == a.row.number)) (commitment c s)) (open_still c)) a.row.call

  live_one : (open_still : (c : Call) → end c ≡ c.end) (c : Call) (a : Attempt) → is_live then_seen c a ≡ is_live s c a
  live_one open_still c a =
      ap (λ (x : Bool). is_of c a && (is_outstanding a || ((is_none a.row.placed && is_none a.row.ended) && not x))) (over_same open_still a)

  pub live_same_by : (open_still : (c : Call) → end c ≡ c.end) (c : Call) → live_rows then_seen c ≡ live_rows s c
  live_same_by open_still c = ap (map live_row) (filter_same (is_live then_seen c) (is_live s c) (live_one open_still c) s.attempts)

  -- when the next attempt is due
  plan_same : (c : Call) (a : Attempt) (d : DueState) (e : RowEnd) (p : CallPlan) → due_by_plan p (reported c) a then_seen d e ≡ due_by_plan p c a s d e
  plan_same c a d e plan.None = refl
  plan_same c a d e (plan.Retry p) =
      ap (λ (k : ℕ). record d { forced = (if is_licensed c a.row.number e.code e.pushback e.tokens s then Some (retry_due p (a.row.number - k) e) else None) })
      (delayed_same c a.row.number)
  plan_same c a d e (plan.Hedge p) = refl

  pub end_same : (c : Call) (d : DueState) (a : Attempt) (e : RowEnd) → due_after_end (reported c) then_seen d a e ≡ due_after_end c s d a e
  end_same c d a e =
      ap (λ (x : Bool). if (not d.stopped && x) && has_code (codes_of (plan_of c s)) e.code then due_by_plan (plan_of c s) (reported c) a then_seen d e else d) (counts_same a e)
      ∙ ap (λ (y : DueState). if (not d.stopped && counts_by a s e) && has_code (codes_of (plan_of c s)) e.code then y else d) (plan_same c a d e (plan_of c s))

  mark_same : (c : Call) (w : MarkKind) (moment : ℕ) (d : DueState) → due_after_mark (reported c) then_seen w moment d ≡ due_after_mark c s w moment d
  mark_same c mark.Configured moment d = refl
  mark_same c (mark.Made row) moment d = refl
  mark_same c (mark.Placed row) moment d = refl
  mark_same c (mark.Ended row) moment d =
      or_same (λ (a : Attempt). option_map_or (due_after_end (reported c) then_seen d a) a.row.ended d) (λ (a : Attempt). option_map_or (due_after_end c s d a) a.row.ended d) d
      (λ a. or_same (due_after_end (reported c) then_seen d a) (due_after_end c s d a) d (end_same c d a) a.row.ended) (numbered s.attempts row)
  mark_same c mark.Withheld moment d = refl
  mark_same c mark.Committed moment d = refl
  mark_same c mark.Closed moment d = refl

  pub due_same : (c : Call) (d : DueState) (list : List Mark)
      → fold (λ (d : DueState) (m : Mark). due_after_mark (reported c) then_seen m.what m.moment d) d list ≡ fold (λ (d : DueState) (m : Mark). due_after_mark c s m.what m.moment d) d list
  due_same c d [] = refl
  due_same c d (m ∷ list) =
      ap (λ (z : DueState). fold (λ (d : DueState) (m : Mark). due_after_mark (reported c) then_seen m.what m.moment d) z list) (mark_same c m.what m.moment d)
      ∙ due_same c (due_after_mark c s m.what m.moment d) list

  row_same : (w : MarkKind) → counted_row then_seen w ≡ counted_row s w
  row_same mark.Configured = refl
  row_same (mark.Made row) = refl
  row_same (mark.Placed row) = refl
  row_same (mark.Ended row) =
      ap (λ (x : Bool). if x then Some row else None)
      (holds_same (λ (a : Attempt). is_counted a then_seen) (λ (a : Attempt). is_counted a s) counted_same (numbered s.attempts row))
  row_same mark.Withheld = refl
  row_same mark.Committed = refl
  row_same mark.Closed = refl

  pub counted_rows_same : (list : List Mark) → filter_map (λ (m : Mark). counted_row then_seen m.what) list ≡ filter_map (λ (m : Mark). counted_row s m.what) list
  counted_rows_same list = rows_same (λ (m : Mark). counted_row then_seen m.what) (λ (m : Mark). counted_row s m.what) (λ m. row_same m.what) list

  -- the tokens of a run
  tokens_one : (run : ThrottleRun) (count : ℕ) (o : Option Attempt) → tokens_by run then_seen count o ≡ tokens_by run s count o
  tokens_one run count None = refl
  tokens_one run count (Some a) =
      ap (λ (p : CallPlan). option_map_or (λ (e : RowEnd). tokens_after run.throttle p e.code e.pushback count) a.row.ended count)
      (plan_by (λ (c : Call). plan_of c s) (λ c. refl) a.row.call (a.row.call == n) refl)

  tokens_all : (run : ThrottleRun) (count : ℕ) (places : List ℕ)
      → fold (λ (k place : ℕ). tokens_by run then_seen k (numbered s.attempts place)) count places
      ≡ fold (λ (k place : ℕ). tokens_by run s k (numbered s.attempts place)) count places
  tokens_all run count [] = refl
  tokens_all run count (place ∷ places) =
      ap (λ (k : ℕ). fold (λ (j at : ℕ). tokens_by run then_seen j (numbered s.attempts at)) k places) (tokens_one run count (numbered s.attempts place))
      ∙ tokens_all run (tokens_by run s count (numbered s.attempts place)) places

  pub bucket_reported : (o : Option ThrottleRun) → option_map (bucket_of then_seen) o ≡ option_map (bucket_of s) o
  bucket_reported None = refl
  bucket_reported (Some run) =
      ap (λ (k : ℕ). Some (bucket_by run k)) (tokens_all run run.throttle.start run.ends)

-- which rows are live, where it does not end
pub live_same : (s : Seen) (n : ℕ) (messages : Call → List (List ℕ)) (finished : Call → Bool) (taken : Call → ℕ) (end_taken : Call → Bool) (marks : Call → List Mark)
    (current : Option OpenEntry) (c : Call) → live_rows (then_seen s n messages finished taken end_taken marks (λ (k : Call). k.end) current) c ≡ live_rows s c
live_same s n messages finished taken end_taken marks current c =
    live_same_by s n messages finished taken end_taken marks (λ (k : Call). k.end) current (λ k. refl) c
