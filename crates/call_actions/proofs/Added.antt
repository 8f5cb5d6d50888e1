-- One attempt more, of a number that no attempt of its call had: it changes nothing that a session says of the others.
use Rattle.std.proofs.Common.{◌≡◌, ◌⊎◌, inl, inr, ◌-◌, ◌∷◌, ◌++◌, ◌||◌, ◌&&◌, not, nat_le, ◌==◌, ap, refl, sym, ◌∙◌, Bool, true, false, List, [], Option, None, Some, ℕ, cond, filter, if◌then◌else◌, is_none, is_some, map, max, option_map}
use Rattle.std.proofs.lemmas.Bool.{and_left, and_parts, and_right}
use Rattle.std.proofs.lemmas.List.{append-nil, map-append}
use Rattle.std.proofs.lemmas.List.Elements.{filter-append}
use Rattle.std.proofs.lemmas.List.Folds.{list_any-append}
use Rattle.std.specs.List.{list_all, list_any}
use Rattle.std.specs.Option.{option_map_or}
use Rattle.std.specs.Prelude.{filter_map, fold}
use Rattle.attempt_ledger.specs.Ends.{delay_of, is_cut}
use Rattle.attempt_ledger.specs.Throttling.{codes_of}
use Rattle.attempt_ledger.specs.TransparentRows.{is_by_peer, is_refused, is_unsent}
use Rattle.attempt_ledger.specs.declared.row.RowCause.{RowCause}
use Rattle.attempt_ledger.specs.declared.row.RowEnd.{RowEnd}
use Rattle.call_actions.proofs.Frames.{bucket_by, filter_same, holds_same}
use Rattle.call_actions.proofs.Lists.{numbered_not}
use Rattle.call_actions.proofs.Ranks.{any_where, filter_map_where, filter_where, find_last_more, fold_where, numbered_more, numbered_none, or_no}
use Rattle.call_actions.specs.Order.{is_own_mark}
use Rattle.call_actions.specs.Sees.{bucket_of, is_live, live_row, live_rows}
use Rattle.grpc_base.specs.Codes.{has_code}
use Rattle.grpc_base.specs.declared.plan.CallPlan.{CallPlan}
use Rattle.grpc_base.specs.declared.plan.CallPlan.TheVariants as plan
use Rattle.session_actions.specs.Attempts.{call_of, commitment, counts_by, is_commitment, is_counted, is_followed, is_later_of, is_of, is_outstanding, is_over, is_over_in, is_to_follow, of_its_call, wants_follower_by, was_refused, was_retried_so}
use Rattle.session_actions.specs.Configs.{plan_of}
use Rattle.session_actions.specs.DueAttempts.{counted_row, due_after_end, due_after_making, due_after_mark, due_by_plan, due_state, is_licensed, last_delayed, no_due, retry_due, was_delayed}
use Rattle.session_actions.specs.Tokens.{tokens_by, tokens_with}
use Rattle.session_actions.specs.Words.{holds, numbered}
use Rattle.session_actions.specs.declared.attempt.Attempt.{Attempt}
use Rattle.session_actions.specs.declared.call.Call.{Call}
use Rattle.session_actions.specs.declared.call.Mark.{Mark}
use Rattle.session_actions.specs.declared.call.MarkKind.{MarkKind}
use Rattle.session_actions.specs.declared.call.MarkKind.TheVariants as mark
use Rattle.session_actions.specs.declared.config.ThrottleRun.{ThrottleRun}
use Rattle.session_actions.specs.declared.due.DueState.{DueState}
use Rattle.session_actions.specs.declared.seen.Seen.{Seen}

abbrev pub more_seen : Seen → Attempt → Seen
more_seen s new = record s { attempts = s.attempts ++ new ∷ [] }

-- none of the others is bad; and none of these is followed by the new one
pub record Adds (s : Seen) (new : Attempt) (bad : Attempt → Bool) : Type 0 where
  pub none : list_any bad s.attempts ≡ false
  pub apart : (a : Attempt) → bad a ≡ false → is_later_of a new ≡ false
  pub unended : new.row.ended ≡ None
  pub uncommitted : new.row.committed ≡ None

module _ (s : Seen) (new : Attempt) (bad : Attempt → Bool) (k : Adds s new bad) where
  pub followed_same : (a : Attempt) → bad a ≡ false → is_followed a (more_seen s new) ≡ is_followed a s
  followed_same a good =
      list_any-append (is_later_of a) s.attempts (new ∷ [])
      ∙ ap (λ (b : Bool). list_any (is_later_of a) s.attempts || (b || false)) (k.apart a good) ∙ or_no (list_any (is_later_of a) s.attempts)

  pub commitment_same : (c : Call) → commitment c (more_seen s new) ≡ commitment c s
  commitment_same c =
      find_last_more (is_commitment c) s.attempts new
      (and_right (is_of c new) (is_some new.row.committed) (ap (λ (o : Option ℕ). is_some o) k.uncommitted))

  -- which retries of refused attempts there were
  abbrev retried_by : Seen → Call → Attempt → Bool
  retried_by t c q = is_of c q && was_refused q && is_followed q t

  retried_new : (c : Call) → retried_by (more_seen s new) c new ≡ false
  retried_new c =
      and_left (is_of c new && was_refused new) (is_followed new (more_seen s new))
      (and_right (is_of c new) (was_refused new) (ap (λ (o : Option RowEnd). holds is_refused o) k.unended))

  pub retried_same : (c : Call) → was_retried_so c (more_seen s new) ≡ was_retried_so c s
  retried_same c =
      list_any-append (retried_by (more_seen s new) c) s.attempts (new ∷ [])
      ∙ ap (λ (b : Bool). list_any (retried_by (more_seen s new) c) s.attempts || (b || false)) (retried_new c)
      ∙ or_no (list_any (retried_by (more_seen s new) c) s.attempts)
      ∙ any_where (retried_by (more_seen s new) c) (retried_by s c) bad (λ q good. ap (λ (b : Bool). is_of c q && was_refused q && b) (followed_same q good)) s.attempts k.none

  follow_same : (why : RowCause) (unseen : Bool) (c : Call) → is_to_follow c why unseen (more_seen s new) ≡ is_to_follow c why unseen s
  follow_same why unseen c =
      ap (λ (o : Option Attempt). is_unsent why || (unseen && is_by_peer why && is_none o && not (was_retried_so c (more_seen s new)))) (commitment_same c)
      ∙ ap (λ (b : Bool). is_unsent why || (unseen && is_by_peer why && is_none (commitment c s) && not b)) (retried_same c)

  -- which ends count
  wants_same : (a : Attempt) (e : RowEnd) → bad a ≡ false → wants_follower_by a (more_seen s new) e ≡ wants_follower_by a s e
  wants_same a e good =
      ap (λ (b : Bool). not b && of_its_call (λ (c : Call). is_to_follow c e.cause e.unseen (more_seen s new)) a (more_seen s new)) (followed_same a good)
      ∙ ap (λ (b : Bool). not (is_followed a s) && b)
      (holds_same (λ (c : Call). is_to_follow c e.cause e.unseen (more_seen s new)) (λ (c : Call). is_to_follow c e.cause e.unseen s) (follow_same e.cause e.unseen) (call_of a s))

  pub counts_same : (a : Attempt) → bad a ≡ false → (e : RowEnd) → counts_by a (more_seen s new) e ≡ counts_by a s e
  counts_same a good e =
      ap (λ (b : Bool). not (is_cut e.cause) && not b && not (wants_follower_by a (more_seen s new) e)) (followed_same a good)
      ∙ ap (λ (b : Bool). not (is_cut e.cause) && not (is_followed a s) && not b) (wants_same a e good)

-- what is so of the attempts of one call, whichever way its new attempt is numbered: each end of it counts as before
pub record Leaves (s : Seen) (c : Call) (new : Attempt) (bad : Attempt → Bool) : Type 0 where
  pub none : list_any bad s.attempts ≡ false
  pub counts : (a : Attempt) → bad a ≡ false → is_of c a ≡ true → (e : RowEnd) → a.row.ended ≡ Some e → counts_by a (more_seen s new) e ≡ counts_by a s e
  pub unended : new.row.ended ≡ None
  pub uncommitted : new.row.committed ≡ None

pub leaves : (s : Seen) (c : Call) (new : Attempt) (bad : Attempt → Bool) → Adds s new bad → Leaves s c new bad
leaves s c new bad k =
    record { none = k.none; counts = λ a good own e ended. counts_same s new bad k a good e; unended = k.unended; uncommitted = k.uncommitted }

module _ (s : Seen) (c : Call) (new : Attempt) (bad : Attempt → Bool) (k : Leaves s c new bad) where
  counted_by : (a : Attempt) (o : Option RowEnd) → bad a ≡ false → is_of c a ≡ true → a.row.ended ≡ o → holds (counts_by a (more_seen s new)) o ≡ holds (counts_by a s) o
  counted_by a None good own ended = refl
  counted_by a (Some e) good own ended = k.counts a good own e ended

  counted_same : (a : Attempt) → bad a ≡ false → is_of c a ≡ true → is_counted a (more_seen s new) ≡ is_counted a s
  counted_same a good own = counted_by a a.row.ended good own refl

  delayed_by : (b x y u v : Bool) → (b ≡ true → x ≡ y) → (((b && u) && x) && v) ≡ (((b && u) && y) && v)
  delayed_by true x y u v same = ap (λ (z : Bool). (u && z) && v) (same refl)
  delayed_by false x y u v same = refl

  delayed_one : (n : ℕ) (a : Attempt) → bad a ≡ false → was_delayed c n (more_seen s new) a ≡ was_delayed c n s a
  delayed_one n a good =
      delayed_by (is_of c a) (is_counted a (more_seen s new)) (is_counted a s) (nat_le a.row.number n) (holds (λ (d : RowEnd). is_some (delay_of d.pushback)) a.row.ended)
      (λ own. counted_same a good own)

  delayed_new : (n : ℕ) → was_delayed c n (more_seen s new) new ≡ false
  delayed_new n =
      and_right ((is_of c new && nat_le new.row.number n) && is_counted new (more_seen s new)) (holds (λ (d : RowEnd). is_some (delay_of d.pushback)) new.row.ended)
      (ap (λ (o : Option RowEnd). holds (λ (d : RowEnd). is_some (delay_of d.pushback)) o) k.unended)

  delayed_rows : (n : ℕ) → filter (was_delayed c n (more_seen s new)) (s.attempts ++ new ∷ []) ≡ filter (was_delayed c n s) s.attempts
  delayed_rows n =
      filter-append (was_delayed c n (more_seen s new)) s.attempts (new ∷ [])
      ∙ ap (λ (b : Bool). filter (was_delayed c n (more_seen s new)) s.attempts ++ cond b (new ∷ []) []) (delayed_new n)
      ∙ append-nil (filter (was_delayed c n (more_seen s new)) s.attempts)
      ∙ filter_where (was_delayed c n (more_seen s new)) (was_delayed c n s) bad (delayed_one n) s.attempts k.none

  pub delayed_same : (n : ℕ) → last_delayed c n (more_seen s new) ≡ last_delayed c n s
  delayed_same n = ap (fold (λ (j : ℕ) (a : Attempt). max j a.row.number) 0) (delayed_rows n)

  -- when the next attempt is due
  plan_same : (a : Attempt) (d : DueState) (e : RowEnd) (p : CallPlan) → due_by_plan p c a (more_seen s new) d e ≡ due_by_plan p c a s d e
  plan_same a d e plan.None = refl
  plan_same a d e (plan.Retry p) =
      ap (λ (n : ℕ). record d { forced = (if is_licensed c a.row.number e.code e.pushback e.tokens s then Some (retry_due p (a.row.number - n) e) else None) })
      (delayed_same a.row.number)
  plan_same a d e (plan.Hedge p) = refl

  end_same : (d : DueState) (a : Attempt) (e : RowEnd) → counts_by a (more_seen s new) e ≡ counts_by a s e → due_after_end c (more_seen s new) d a e ≡ due_after_end c s d a e
  end_same d a e same =
      ap (λ (x : Bool). if (not d.stopped && x) && has_code (codes_of (plan_of c s)) e.code then due_by_plan (plan_of c s) c a (more_seen s new) d e else d) same
      ∙ ap (λ (y : DueState). if (not d.stopped && counts_by a s e) && has_code (codes_of (plan_of c s)) e.code then y else d) (plan_same a d e (plan_of c s))

  ends_same : (d : DueState) (a : Attempt) (o : Option RowEnd) → bad a ≡ false → is_of c a ≡ true → a.row.ended ≡ o
      → option_map_or (due_after_end c (more_seen s new) d a) o d ≡ option_map_or (due_after_end c s d a) o d
  ends_same d a None good own ended = refl
  ends_same d a (Some e) good own ended = end_same d a e (k.counts a good own e ended)

  made_by : (d : DueState) (row : ℕ) (o : Option Attempt) → numbered s.attempts row ≡ o → holds (is_of c) o ≡ true
      → option_map_or (due_after_making d) (numbered (s.attempts ++ new ∷ []) row) d ≡ option_map_or (due_after_making d) (numbered s.attempts row) d
  made_by d row None e own = absurd (cc)
  made_by d row (Some a) e own = ap (λ (o : Option Attempt). option_map_or (due_after_making d) o d) (numbered_more s.attempts new a row e ∙ sym e)

  ended_by : (d : DueState) (row : ℕ) (o : Option Attempt) → numbered s.attempts row ≡ o → holds (λ (a : Attempt). is_of c a && is_some a.row.ended) o ≡ true
      → option_map_or (λ (a : Attempt). option_map_or (due_after_end c (more_seen s new) d a) a.row.ended d) (numbered (s.attempts ++ new ∷ []) row) d
      ≡ option_map_or (λ (a : Attempt). option_map_or (due_after_end c s d a) a.row.ended d) (numbered s.attempts row) d
  ended_by d row None e own = absurd (cc)
  ended_by d row (Some a) e own =
      let parts : (is_of c a ≡ true) × (is_some a.row.ended ≡ true) = and_parts (is_of c a) (is_some a.row.ended) own in
      ap (λ (o : Option Attempt). option_map_or (λ (a : Attempt). option_map_or (due_after_end c (more_seen s new) d a) a.row.ended d) o d) (numbered_more s.attempts new a row e)
      ∙ ends_same d a a.row.ended (numbered_not bad s.attempts row a k.none e) parts.0 refl
      ∙ ap (λ (o : Option Attempt). option_map_or (λ (a : Attempt). option_map_or (due_after_end c s d a) a.row.ended d) o d) (sym e)

  mark_same : (w : MarkKind) (moment : ℕ) (d : DueState) → is_own_mark s c w ≡ true → due_after_mark c (more_seen s new) w moment d ≡ due_after_mark c s w moment d
  mark_same mark.Configured moment d own = refl
  mark_same (mark.Made row) moment d own = made_by d row (numbered s.attempts row) refl own
  mark_same (mark.Placed row) moment d own = refl
  mark_same (mark.Ended row) moment d own = ended_by d row (numbered s.attempts row) refl own
  mark_same mark.Withheld moment d own = refl
  mark_same mark.Committed moment d own = refl
  mark_same mark.Closed moment d own = refl

  pub due_same : list_all (λ (m : Mark). is_own_mark s c m.what) c.marks ≡ true → due_state c (more_seen s new) ≡ due_state c s
  due_same own =
      fold_where (λ (d : DueState) (m : Mark). due_after_mark c (more_seen s new) m.what m.moment d) (λ (d : DueState) (m : Mark). due_after_mark c s m.what m.moment d)
      (λ (m : Mark). is_own_mark s c m.what) (λ d m good. mark_same m.what m.moment d good) no_due c.marks own

  -- which end counted last
  row_by : (row : ℕ) (o : Option Attempt) → numbered s.attempts row ≡ o → holds (λ (a : Attempt). is_of c a && is_some a.row.ended) o ≡ true
      → holds (λ (a : Attempt). is_counted a (more_seen s new)) (numbered (s.attempts ++ new ∷ []) row) ≡ holds (λ (a : Attempt). is_counted a s) (numbered s.attempts row)
  row_by row None e own = absurd (cc)
  row_by row (Some a) e own =
      let parts : (is_of c a ≡ true) × (is_some a.row.ended ≡ true) = and_parts (is_of c a) (is_some a.row.ended) own in
      ap (holds (λ (a : Attempt). is_counted a (more_seen s new))) (numbered_more s.attempts new a row e)
      ∙ counted_same a (numbered_not bad s.attempts row a k.none e) parts.0 ∙ ap (holds (λ (a : Attempt). is_counted a s)) (sym e)

  row_same : (w : MarkKind) → is_own_mark s c w ≡ true → counted_row (more_seen s new) w ≡ counted_row s w
  row_same mark.Configured own = refl
  row_same (mark.Made row) own = refl
  row_same (mark.Placed row) own = refl
  row_same (mark.Ended row) own = ap (λ (x : Bool). if x then Some row else None) (row_by row (numbered s.attempts row) refl own)
  row_same mark.Withheld own = refl
  row_same mark.Committed own = refl
  row_same mark.Closed own = refl

  pub counted_rows_same : list_all (λ (m : Mark). is_own_mark s c m.what) c.marks ≡ true
      → filter_map (λ (m : Mark). counted_row (more_seen s new) m.what) c.marks ≡ filter_map (λ (m : Mark). counted_row s m.what) c.marks
  counted_rows_same own =
      filter_map_where (λ (m : Mark). counted_row (more_seen s new) m.what) (λ (m : Mark). counted_row s m.what) (λ (m : Mark). is_own_mark s c m.what)
      (λ m good. row_same m.what good) c.marks own

  -- its marks are still its own
  own_by : (test : Attempt → Bool) (row : ℕ) (o : Option Attempt) → numbered s.attempts row ≡ o → holds test o ≡ true → holds test (numbered (s.attempts ++ new ∷ []) row) ≡ true
  own_by test row None e own = absurd (cc)
  own_by test row (Some a) e own = ap (holds test) (numbered_more s.attempts new a row e) ∙ own

  pub own_same : (w : MarkKind) → is_own_mark s c w ≡ true → is_own_mark (more_seen s new) c w ≡ true
  own_same mark.Configured own = refl
  own_same (mark.Made row) own = own_by (is_of c) row (numbered s.attempts row) refl own
  own_same (mark.Placed row) own = refl
  own_same (mark.Ended row) own = own_by (λ (a : Attempt). is_of c a && is_some a.row.ended) row (numbered s.attempts row) refl own
  own_same mark.Withheld own = refl
  own_same mark.Committed own = refl
  own_same mark.Closed own = refl

  -- which attempts go on
  pub commitment_more : (c : Call) → commitment c (more_seen s new) ≡ commitment c s
  commitment_more c =
      find_last_more (is_commitment c) s.attempts new
      (and_right (is_of c new) (is_some new.row.committed) (ap (λ (o : Option ℕ). is_some o) k.uncommitted))

  pub over_same : (a : Attempt) → is_over a (more_seen s new) ≡ is_over a s
  over_same a =
      holds_same (λ (c : Call). is_over_in c a (more_seen s new)) (λ (c : Call). is_over_in c a s)
      (λ c. ap (λ (o : Option Attempt). is_some c.end || holds (λ (q : Attempt). not (q.row.number == a.row.number)) o) (commitment_more c)) (call_of a s)

  live_one : (a : Attempt) → is_live (more_seen s new) c a ≡ is_live s c a
  live_one a =
      ap (λ (x : Bool). is_of c a && (is_outstanding a || ((is_none a.row.placed && is_none a.row.ended) && not x))) (over_same a)

  pub live_more : is_live s c new ≡ true → live_rows (more_seen s new) c ≡ live_rows s c ++ live_row new ∷ []
  live_more lives =
      ap (map live_row)
      (filter-append (is_live (more_seen s new) c) s.attempts (new ∷ [])
      ∙ ap (λ (l : List Attempt). l ++ filter (is_live (more_seen s new) c) (new ∷ [])) (filter_same (is_live (more_seen s new) c) (is_live s c) live_one s.attempts)
      ∙ ap (λ (b : Bool). filter (is_live s c) s.attempts ++ cond b (new ∷ []) []) (live_one new ∙ lives))
      ∙ map-append live_row (filter (is_live s c) s.attempts) (new ∷ [])

  -- the tokens of a run
  none_by : (run : ThrottleRun) (count : ℕ) (o : Option Attempt) → (o ≡ None) ⊎ (o ≡ Some new) → tokens_by run (more_seen s new) count o ≡ count
  none_by run count o (inl e) = ap (tokens_by run (more_seen s new) count) e
  none_by run count o (inr e) =
      ap (tokens_by run (more_seen s new) count) e ∙ ap (λ (z : Option RowEnd). option_map_or (λ (d : RowEnd). tokens_with run (more_seen s new) count new d) z count) k.unended

  token_by : (run : ThrottleRun) (count place : ℕ) (o : Option Attempt) → numbered s.attempts place ≡ o
      → tokens_by run (more_seen s new) count (numbered (s.attempts ++ new ∷ []) place) ≡ tokens_by run s count (numbered s.attempts place)
  token_by run count place None e =
      none_by run count (numbered (s.attempts ++ new ∷ []) place) (numbered_none s.attempts new place e)
      ∙ ap (tokens_by run s count) (sym e)
  token_by run count place (Some a) e =
      ap (tokens_by run (more_seen s new) count) (numbered_more s.attempts new a place e) ∙ ap (tokens_by run s count) (sym e)

  tokens_same : (run : ThrottleRun) (count : ℕ) (places : List ℕ)
      → fold (λ (n place : ℕ). tokens_by run (more_seen s new) n (numbered (s.attempts ++ new ∷ []) place)) count places
      ≡ fold (λ (n place : ℕ). tokens_by run s n (numbered s.attempts place)) count places
  tokens_same run count [] = refl
  tokens_same run count (place ∷ places) =
      ap (λ (n : ℕ). fold (λ (j at : ℕ). tokens_by run (more_seen s new) j (numbered (s.attempts ++ new ∷ []) at)) n places)
      (token_by run count place (numbered s.attempts place) refl)
      ∙ tokens_same run (tokens_by run s count (numbered s.attempts place)) places

  pub bucket_more : (o : Option ThrottleRun) → option_map (bucket_of (more_seen s new)) o ≡ option_map (bucket_of s) o
  bucket_more None = refl
  bucket_more (Some run) =
      ap (λ (n : ℕ). Some (bucket_by run n)) (tokens_same run run.throttle.start run.ends)
