-- After which attempt the server last asked for a delay, once one more attempt ended.
use Rattle.std.proofs.Common.{◌≡◌, ◌≤◌, ◌∷◌, ◌||◌, ◌&&◌, ◌==◌, nat_le, nat_lt, ap, arith, refl, sym, ◌∙◌, Bool, true, false, List, [], Option, None, Some, ℕ, zero, suc, cond, filter, if◌then◌else◌, is_some, map, max, option_map, slice_get}
use Rattle.std.proofs.Math.Nat.{max-eq_left, max-eq_right}
use Rattle.std.proofs.lemmas.Bool.{and_left, and_right, le-ltb, ltb-false, or_parts}
use Rattle.std.specs.List.{list_any}
use Rattle.std.specs.Prelude.{fold}
use Rattle.attempt_ledger.specs.Ends.{delay_of}
use Rattle.attempt_ledger.specs.declared.row.RowEnd.{RowEnd}
use Rattle.call_actions.proofs.Ends.Frames.{Ends, counts_same, ended_by, ended_seen, none_was, was_there, with_end_at}
use Rattle.call_actions.proofs.Frames.{holds_same}
use Rattle.call_actions.proofs.Lists.{any_none}
use Rattle.call_actions.proofs.Places.{only_here}
use Rattle.call_actions.proofs.Ranks.{any_either, any_map_all, filter_mapped, fold_map, numbered_map}
use Rattle.call_actions.specs.Order.{is_beyond}
use Rattle.session_actions.specs.Attempts.{counts_by, is_followed, is_of}
use Rattle.session_actions.specs.DueAttempts.{attempts_made, last_delayed, was_delayed}
use Rattle.session_actions.specs.Words.{holds, numbered}
use Rattle.session_actions.specs.declared.attempt.Attempt.{Attempt}
use Rattle.session_actions.specs.declared.call.Call.{Call}
use Rattle.session_actions.specs.declared.config.ThrottleRun.{ThrottleRun}
use Rattle.session_actions.specs.declared.seen.Seen.{Seen}

abbrev highest : ℕ → Attempt → ℕ
highest n a = max n a.row.number

-- the highest number of those that pass a test
module _ (n : ℕ) (p : Attempt → Bool) where
  abbrev too_high : Attempt → Bool
  too_high q = p q && nat_lt n q.row.number

  keeps_by : (b : Bool) (x : Attempt) (xs : List Attempt) → (b && nat_lt n x.row.number) ≡ false → fold highest n xs ≡ n → fold highest n (cond b (x ∷ xs) xs) ≡ n
  keeps_by true x xs good rest =
      let low : x.row.number ≤ n = ltb-false n x.row.number good in
      ap (λ (k : ℕ). fold highest k xs) (max-eq_left low) ∙ rest
  keeps_by false x xs good rest = rest

  max_keeps : (xs : List Attempt) → list_any too_high xs ≡ false → fold highest n (filter p xs) ≡ n
  max_keeps [] e = refl
  max_keeps (x ∷ xs) e =
      let parts : (too_high x ≡ false) × (list_any too_high xs ≡ false) = or_parts (too_high x) (list_any too_high xs) e in
      keeps_by (p x) x (filter p xs) parts.0 (max_keeps xs parts.1)

  reaches_by : (b : Bool) (j : ℕ) (x : Attempt) (xs : List Attempt) → (b && nat_lt n x.row.number) ≡ false → j ≤ n
      → ((k : ℕ) → k ≤ n → fold highest k xs ≡ n) → fold highest j (cond b (x ∷ xs) xs) ≡ n
  reaches_by true j x xs good low rest =
      let number : x.row.number ≤ n = ltb-false n x.row.number good in
      let most : max j x.row.number ≤ n = omega arith in rest (max j x.row.number) most
  reaches_by false j x xs good low rest = rest j low

  max_reaches : (i j : ℕ) (xs : List Attempt) (a : Attempt) → list_any too_high xs ≡ false → slice_get xs i ≡ Some a → p a ≡ true → a.row.number ≡ n → j ≤ n
      → fold highest j (filter p xs) ≡ n
  max_reaches i j [] a e got passes number low = absurd (cc)
  max_reaches zero j (x ∷ xs) a e got passes number low =
      let parts : (too_high x ≡ false) × (list_any too_high xs ≡ false) = or_parts (too_high x) (list_any too_high xs) e in
      let one : x ≡ a = (cc) in
      let is_n : x.row.number ≡ n = ap (λ (q : Attempt). q.row.number) one ∙ number in
      ap (λ (b : Bool). fold highest j (cond b (x ∷ filter p xs) (filter p xs))) (ap p one ∙ passes)
      ∙ ap (λ (k : ℕ). fold highest (max j k) (filter p xs)) is_n ∙ ap (λ (k : ℕ). fold highest k (filter p xs)) (max-eq_right low) ∙ max_keeps xs parts.1
  max_reaches (suc i) j (x ∷ xs) a e got passes number low =
      let parts : (too_high x ≡ false) × (list_any too_high xs ≡ false) = or_parts (too_high x) (list_any too_high xs) e in
      reaches_by (p x) j x (filter p xs) parts.0 low (λ k small. max_reaches i k xs a parts.1 got passes number small)

  numbered_reaches : (m : ℕ) (xs : List Attempt) (a : Attempt) → list_any too_high xs ≡ false → numbered xs m ≡ Some a → p a ≡ true → a.row.number ≡ n
      → fold highest 0 (filter p xs) ≡ n
  numbered_reaches zero xs a e got passes number = absurd (cc)
  numbered_reaches (suc i) xs a e got passes number = let low : 0 ≤ n = omega arith in max_reaches i 0 xs a e got passes number low

none_of : (o : Option RowEnd) → is_some o ≡ false → o ≡ None
none_of None e = refl
none_of (Some z) e = absurd (cc)

module _ (s : Seen) (c : Call) (place : ℕ) (a : Attempt) (e : RowEnd) (runs : List ThrottleRun) (k : Ends s c place a runs) where
  abbrev h : Attempt → Attempt
  h q = with_end_at place e q

  abbrev t : Seen
  t = ended_seen runs place e s

  abbrev asks : RowEnd → Bool
  asks d = is_some (delay_of d.pushback)

  -- where the server asks for none
  delayed_by : (n : ℕ) (q : Attempt) (b : Bool) → delay_of e.pushback ≡ None → (b && (is_some q.row.ended || is_followed q s)) ≡ false
      → (((is_of c q && nat_le q.row.number n) && holds (counts_by (h q) t) (if b then Some e else q.row.ended)) && holds asks (if b then Some e else q.row.ended))
      ≡ was_delayed c n s q
  delayed_by n q false none good =
      ap (λ (x : Bool). ((is_of c q && nat_le q.row.number n) && x) && holds asks q.row.ended)
      (holds_same (counts_by (h q) t) (counts_by q s) (counts_same s c place a e runs k q) q.row.ended)
  delayed_by n q true none good =
      let parts : (is_some q.row.ended ≡ false) × (is_followed q s ≡ false) = or_parts (is_some q.row.ended) (is_followed q s) good in
      and_right ((is_of c q && nat_le q.row.number n) && counts_by (h q) t e) (asks e) (ap (λ (o : Option ℕ). is_some o) none)
      ∙ sym (and_right ((is_of c q && nat_le q.row.number n) && holds (counts_by q s) q.row.ended) (holds asks q.row.ended) (ap (holds asks) (none_of q.row.ended parts.0)))

  pub not_delayed : (n : ℕ) → delay_of e.pushback ≡ None → last_delayed c n t ≡ last_delayed c n s
  not_delayed n none =
      ap (fold highest 0)
      (filter_mapped (was_delayed c n t) (was_delayed c n s) (was_there s c place a e runs k) h (λ q good. delayed_by n q (q.place == place) none good) s.attempts
      (none_was s c place a e runs k))
      ∙ fold_map highest highest h (λ j q. refl) 0 (filter (was_delayed c n s) s.attempts)

  -- where the end does not count
  abbrev counts_here : Attempt → Bool
  counts_here q = (q.place == place) && counts_by (h q) t e

  uncounted_by : (n : ℕ) (q : Attempt) (b : Bool) → (b && (is_some q.row.ended || is_followed q s)) ≡ false → (b && counts_by (h q) t e) ≡ false
      → (((is_of c q && nat_le q.row.number n) && holds (counts_by (h q) t) (if b then Some e else q.row.ended)) && holds asks (if b then Some e else q.row.ended))
      ≡ was_delayed c n s q
  uncounted_by n q false good quiet =
      ap (λ (x : Bool). ((is_of c q && nat_le q.row.number n) && x) && holds asks q.row.ended)
      (holds_same (counts_by (h q) t) (counts_by q s) (counts_same s c place a e runs k q) q.row.ended)
  uncounted_by n q true good quiet =
      let parts : (is_some q.row.ended ≡ false) × (is_followed q s ≡ false) = or_parts (is_some q.row.ended) (is_followed q s) good in
      and_left ((is_of c q && nat_le q.row.number n) && counts_by (h q) t e) (asks e) (and_right (is_of c q && nat_le q.row.number n) (counts_by (h q) t e) quiet)
      ∙ sym (and_right ((is_of c q && nat_le q.row.number n) && holds (counts_by q s) q.row.ended) (holds asks q.row.ended) (ap (holds asks) (none_of q.row.ended parts.0)))

  pub not_counted : (n : ℕ) → counts_by (h a) t e ≡ false → last_delayed c n t ≡ last_delayed c n s
  not_counted n quiet =
      ap (fold highest 0)
      (filter_mapped (was_delayed c n t) (was_delayed c n s) (λ (q : Attempt). was_there s c place a e runs k q || counts_here q) h
      (λ q good.
      (let parts : (was_there s c place a e runs k q ≡ false) × (counts_here q ≡ false) = or_parts (was_there s c place a e runs k q) (counts_here q) good in
      uncounted_by n q (q.place == place) parts.0 parts.1)) s.attempts
      (any_either (was_there s c place a e runs k) counts_here s.attempts (none_was s c place a e runs k)
      (only_here (λ (q : Attempt). counts_by (h q) t e) place a quiet s.attempts k.places k.got)))
      ∙ fold_map highest highest h (λ j q. refl) 0 (filter (was_delayed c n s) s.attempts)

  -- where it does, and the server asks for a delay
  high_by : (b u v : Bool) (made n m : ℕ) → made ≤ n → (b && nat_lt made m) ≡ false → ((((b && nat_le m n) && u) && v) && nat_lt n m) ≡ false
  high_by false u v made n m most good = refl
  high_by true u v made n m most good =
      let low : m ≤ made = ltb-false made m good in
      let lower : m ≤ n = omega arith in
      and_right ((nat_le m n && u) && v) (nat_lt n m) (le-ltb n m lower)

  pub delayed_now : (n : ℕ) → list_any (is_beyond s c) s.attempts ≡ false → attempts_made c s ≤ n → a.row.number ≡ n → was_delayed c n t (h a) ≡ true
      → last_delayed c n t ≡ n
  delayed_now n none most number delayed =
      numbered_reaches n (was_delayed c n t) place (map h s.attempts) (h a)
      (any_map_all (λ (q : Attempt). was_delayed c n t q && nat_lt n q.row.number) (λ (q : Attempt). was_delayed c n t (h q) && nat_lt n q.row.number) h (λ q. refl) s.attempts
      ∙ any_none (λ (q : Attempt). was_delayed c n t (h q) && nat_lt n q.row.number) (is_beyond s c)
      (λ q good. high_by (is_of c q) (holds (counts_by (h q) t) (ended_by place e q)) (holds asks (ended_by place e q)) (attempts_made c s) n q.row.number most good)
      s.attempts none)
      (numbered_map h s.attempts place ∙ ap (option_map h) k.got) delayed number
