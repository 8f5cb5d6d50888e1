-- So attempts have keys of their own below a bound: their call, their number, and whether they are the last one of it, were refused, or never left the client on a link.
use Rattle.attempt_ledger.specs.Numbering.{most_attempts}
use Rattle.attempt_ledger.specs.TransparentRows.{is_refused, is_unsent}
use Rattle.attempt_ledger.specs.declared.row.Placed.{Placed}
use Rattle.attempt_ledger.specs.declared.row.RowEnd.{RowEnd}
use Rattle.call_actions.proofs.Places.{places_below}
use Rattle.channel_actions.proofs.Calls.Few.Streams.{streams_are_of_attempts}
use Rattle.channel_actions.proofs.Calls.Few.Tallies.{links_are_few}
use Rattle.channel_actions.proofs.Calls.Few.Walk.{calls_are_few}
use Rattle.channel_actions.proofs.KeptSessions.Lists.{all_get, counted_places}
use Rattle.channel_actions.proofs.TransparentRetries.Along.{are_retried, later_of}
use Rattle.channel_actions.proofs.TransparentRetries.Fits.{is_closed}
use Rattle.channel_actions.proofs.TransparentRetries.Makes.{Which, followed_by, numbers_below, which}
use Rattle.channel_actions.proofs.TransparentRetries.Rows.{HasLater, Retried, SameNumber, is_again}
use Rattle.channel_actions.specs.FewCalls.Laws.{is_streaming}
use Rattle.channel_actions.specs.KeptSessions.Kept.{IsKept, is_on_link}
use Rattle.channel_actions.specs.TransparentRetries.Laws.{AttemptsAreBounded, PlansAreShort, StreamsAreBounded, was_unsent}
use Rattle.session_actions.specs.Attempts.{call_of, is_followed, was_refused}
use Rattle.session_actions.specs.Configs.{plan_of}
use Rattle.session_actions.specs.Entries.{entry}
use Rattle.session_actions.specs.Links.{link_number}
use Rattle.session_actions.specs.Reading.{opened_streams}
use Rattle.session_actions.specs.Sessions.{Does, new_session}
use Rattle.session_actions.specs.Words.{holds, numbered}
use Rattle.session_actions.specs.Writing.{waiting_on}
use Rattle.session_actions.specs.declared.action.Action.{Action}
use Rattle.session_actions.specs.declared.attempt.Attempt.{Attempt}
use Rattle.session_actions.specs.declared.call.Call.{Call}
use Rattle.session_actions.specs.declared.link.Link.{Link}
use Rattle.session_actions.specs.declared.seen.Seen.{Seen}
use Rattle.session_actions.specs.declared.seen.Setup.{Setup}
use Rattle.session_order.proofs.SessionLaws.Caps.{attempts_are_capped}
use Rattle.session_order.proofs.SessionLaws.Numbers.{attempts_are_numbered}
use Rattle.session_order.specs.SessionLaws.Attempts.{IsCounted, RetriesRepeat, is_further_of}
use Rattle.std.proofs.Common.{ap, arith, eqb, inl, inr, subst, sym, ◌∙◌}
use Rattle.std.proofs.lemmas.Bool.{eqb-true, ne_eqb}
use Rattle.std.proofs.lemmas.List.Sums.{length-filter}
use Rattle.std.proofs.lemmas.List.{length-map}
use Rattle.std.proofs.lemmas.Map.Keys.{IsDistinct-cons}
use Rattle.std.proofs.lemmas.Map.Steps.{length-le_from_distinct_below}
use Rattle.std.specs.List.{AllByRecursion, IsDistinct, list_any}
use Rattle.std.specs.Option.{option_map_or}
use Rattle.std.specs.Prelude.{Bool, List, None, Option, Some, [], cond, count_by, false, filter, if◌then◌else◌, is_none, is_some, length, map, refl, slice_get, suc, true, zero, ℕ, ◌*◌, ◌+◌, ◌<◌, ◌||◌, ◌∷◌, ◌≡◌, ◌≤◌, ◌⊎◌}

less_two : (a b c d : ℕ) → a ≤ b → b ≤ c → c ≤ d → a ≤ d
less_two a b c d e f g = omega (arith, e, f, g)

same_less : (a b n : ℕ) → a ≤ n → a ≡ b → b ≤ n
same_less a b n e f = omega (arith, e, f)

-- things that have keys of their own below a bound are no more than that
module _ (key : Attempt → ℕ) (test : Attempt → Bool) where
  none_by : (k : ℕ) (x : Attempt) (xs : List Attempt) (b : Bool) → test x ≡ b → (b ≡ true → key x ≡ k → ⊥) → AllByRecursion (λ (y : ℕ). eqb k y ≡ false) (map key (filter test xs))
      → AllByRecursion (λ (y : ℕ). eqb k y ≡ false) (map key (cond b (x ∷ filter test xs) (filter test xs)))
  none_by k x xs true is never rest = (ne_eqb k (key x) (λ e. never refl (sym e)), rest)
  none_by k x xs false is never rest = rest

  none_has : (k : ℕ) (xs : List Attempt) → ((j : ℕ) (b : Attempt) → slice_get xs j ≡ Some b → test b ≡ true → key b ≡ k → ⊥)
      → AllByRecursion (λ (y : ℕ). eqb k y ≡ false) (map key (filter test xs))
  none_has k [] never = tt
  none_has k (x ∷ xs) never = none_by k x xs (test x) refl (λ is. never zero x refl is) (none_has k xs (λ j b got. never (suc j) b got))

  abbrev AreOwnKeys : List Attempt → Type 0
  AreOwnKeys xs = (i j : ℕ) (a b : Attempt) → slice_get xs i ≡ Some a → slice_get xs j ≡ Some b → i < j → test a ≡ true → test b ≡ true → key a ≡ key b → ⊥

  distinct_by : (x : Attempt) (xs : List Attempt) (b : Bool) → (b ≡ true → AllByRecursion (λ (y : ℕ). eqb (key x) y ≡ false) (map key (filter test xs)))
      → IsDistinct eqb (map key (filter test xs)) → IsDistinct eqb (map key (cond b (x ∷ filter test xs) (filter test xs)))
  distinct_by x xs true own rest = IsDistinct-cons eqb (key x) (map key (filter test xs)) (own refl) rest
  distinct_by x xs false own rest = rest

  shifted : (n m : ℕ) → n < m → suc n < suc m
  shifted n m e = omega (arith, e)

  distinct : (xs : List Attempt) → AreOwnKeys xs → IsDistinct eqb (map key (filter test xs))
  unfolding IsDistinct
  distinct [] own = tt
  distinct (x ∷ xs) own =
      distinct_by x xs (test x) (λ is. none_has (key x) xs (λ j b got too same. own zero (suc j) x b refl got (omega arith) is too (sym same)))
      (distinct xs (λ i j a b first second less. own (suc i) (suc j) a b first second (shifted i j less)))

  below_by : (n q : ℕ) (x : Attempt) (xs : List Attempt) (b : Bool) → (b ≡ true → key x < n) → (list_any (eqb q) (map key (filter test xs)) ≡ true → q < n)
      → list_any (eqb q) (map key (cond b (x ∷ filter test xs) (filter test xs))) ≡ true → q < n
  below_by n q x xs false here rest e = rest e
  below_by n q x xs true here rest e = or_by (eqb q (key x)) refl e
    where
      or_by : (c : Bool) → eqb q (key x) ≡ c → (c || list_any (eqb q) (map key (filter test xs))) ≡ true → q < n
      or_by true is f = subst (λ (k : ℕ). k < n) (sym (eqb-true q (key x) is)) (here refl)
      or_by false is f = rest f

  below : (n : ℕ) (xs : List Attempt) → ((i : ℕ) (a : Attempt) → slice_get xs i ≡ Some a → test a ≡ true → key a < n) → (q : ℕ)
      → list_any (eqb q) (map key (filter test xs)) ≡ true → q < n
  below n [] each q e = absurd (cc)
  below n (x ∷ xs) each q e = below_by n q x xs (test x) (λ is. each zero x refl is) (below n xs (λ i a got. each (suc i) a got) q) e

  pub counted : (n : ℕ) (xs : List Attempt) → AreOwnKeys xs → ((i : ℕ) (a : Attempt) → slice_get xs i ≡ Some a → test a ≡ true → key a < n) → length (filter test xs) ≤ n
  counted n xs own each =
      let less : length (map key (filter test xs)) ≤ n = length-le_from_distinct_below (map key (filter test xs)) n (distinct xs own) (below n xs each) in
      let same : length (map key (filter test xs)) ≡ length (filter test xs) = length-map (filter test xs) key in
      same_less (length (map key (filter test xs))) (length (filter test xs)) n less same

all_pass : (xs : List Attempt) → length (filter (λ (a : Attempt). true) xs) ≡ length xs
all_pass [] = refl
all_pass (x ∷ xs) = ap (λ (n : ℕ). suc n) (all_pass xs)

-- two numbers in one
link_parts : (u v x y : ℕ) → x ≤ 1048578 → y ≤ 1048578 → u * 1048579 + x ≡ v * 1048579 + y → (u ≡ v) × (x ≡ y)
link_parts u v x y e f same = by (which u v)
  where
    by : Which u v → (u ≡ v) × (x ≡ y)
    by (inl less) = absurd (omega (arith, e, f, same, less))
    by (inr (inl is)) = (is, omega (arith, same, is))
    by (inr (inr less)) = absurd (omega (arith, e, f, same, less))

six_parts : (c d n m : ℕ) → n ≤ 5 → m ≤ 5 → c * 6 + n ≡ d * 6 + m → (c ≡ d) × (n ≡ m)
six_parts c d n m e f same = by (which c d)
  where
    by : Which c d → (c ≡ d) × (n ≡ m)
    by (inl less) = absurd (omega (arith, e, f, same, less))
    by (inr (inl is)) = (is, omega (arith, same, is))
    by (inr (inr less)) = absurd (omega (arith, e, f, same, less))

two_parts : (u v x y : ℕ) → x ≤ 1 → y ≤ 1 → u * 2 + x ≡ v * 2 + y → (u ≡ v) × (x ≡ y)
two_parts u v x y e f same = by (which u v)
  where
    by : Which u v → (u ≡ v) × (x ≡ y)
    by (inl less) = absurd (omega (arith, e, f, same, less))
    by (inr (inl is)) = (is, omega (arith, same, is))
    by (inr (inr less)) = absurd (omega (arith, e, f, same, less))

-- what a key has beside call and number
abbrev slot_by : Bool → Bool → ℕ → ℕ
slot_by followed refused link = if followed then (if refused then 1 else link + 2) else 0

abbrev one_by : Bool → ℕ
one_by followed = if followed then 1 else 0

slot_most : (followed refused : Bool) (link : ℕ) → link ≤ 1048576 → slot_by followed refused link ≤ 1048578
slot_most true true link e = omega arith
slot_most true false link e = omega (arith, e)
slot_most false refused link e = omega arith

one_most : (followed : Bool) → one_by followed ≤ 1
one_most true = omega arith
one_most false = omega arith

-- where the first is followed, so is the second, and they are alike
slots_same : (f r q : Bool) (k l : ℕ) → slot_by true r k ≡ slot_by f q l → (f ≡ true) × (((r ≡ true) × (q ≡ true)) ⊎ ((r ≡ false) × (q ≡ false) × (k ≡ l)))
slots_same true true true k l e = (refl, inl (refl, refl))
slots_same true true false k l e = absurd (omega (arith, e))
slots_same true false true k l e = absurd (omega (arith, e))
slots_same true false false k l e = (refl, inr (refl, refl, omega (arith, e)))
slots_same false true q k l e = absurd (omega (arith, e))
slots_same false false q k l e = absurd (omega (arith, e))

ones_same : (f : Bool) → one_by true ≡ one_by f → f ≡ true
ones_same true e = refl
ones_same false e = absurd (omega (arith, e))

unsent_of : (e : Option RowEnd) → holds is_again e ≡ true → holds is_refused e ≡ false → holds (λ (z : RowEnd). is_unsent z.cause) e ≡ true
unsent_of None again e = absurd (cc)
unsent_of (Some z) again e = by (is_unsent z.cause) refl
  where
    by : (b : Bool) → is_unsent z.cause ≡ b → b ≡ true
    by true is = refl
    by false is = let no : false ≡ true = sym e ∙ (sym (ap (λ (b : Bool). b || is_refused z) is) ∙ again) in absurd (cc)

placed_of : (test : Placed → Bool) (o : Option Placed) → holds test o ≡ true → (at : Placed) × (o ≡ Some at)
placed_of test None e = absurd (cc)
placed_of test (Some at) e = (at, refl)

refused_of : (e : Option RowEnd) (b : Bool) → holds is_refused e ≡ b → holds is_again e ≡ true → (holds (λ (z : RowEnd). is_unsent z.cause) e ≡ true → ⊥) → b ≡ true
refused_of e true is again sent = refl
refused_of e false is again sent = absurd (sent (unsent_of e again is))

below_links : (links : List Link) (o : Option Placed) → option_map_or (λ (at : Placed). is_some (numbered links at.link)) o true ≡ true → option_map_or (λ (at : Placed). at.link) o 0 ≤ length links
below_links links None e = omega arith
below_links links (Some at) e = by at.link (numbered links at.link) refl e
  where
    by : (k : ℕ) (q : Option Link) → numbered links k ≡ q → is_some q ≡ true → k ≤ length links
    by k None got there = absurd (cc)
    by k (Some l) got there = places_below links k l got

module _ (setup : Setup) (actions : List Action) (s : Seen) (does : Does actions (new_session setup) s) (within : entry s ≤ 1048576) (short : PlansAreShort s) where
  both : IsKept s × Retried s
  both = are_retried setup actions s does

  -- call, number and link of an attempt are in their ranges
  call_of_some : (a : Attempt) (o : Option Call) → call_of a s ≡ o → is_some o ≡ true → (c : Call) × (numbered s.calls a.row.call ≡ Some c)
  call_of_some a None e there = absurd (cc)
  call_of_some a (Some c) e there = (c, e)

  its_call : (i : ℕ) (a : Attempt) → slice_get s.attempts i ≡ Some a → (c : Call) × (numbered s.calls a.row.call ≡ Some c)
  its_call i a got = call_of_some a (call_of a s) refl (all_get (λ (q : Attempt). is_some (call_of q s)) s.attempts i a both.0.owned got)

  calls_low : (i : ℕ) (a : Attempt) → slice_get s.attempts i ≡ Some a → a.row.call ≤ 1048576
  calls_low i a got =
      let c : (c : Call) × (numbered s.calls a.row.call ≡ Some c) = its_call i a got in
      let one : a.row.call ≤ length s.calls = places_below s.calls a.row.call c.0 c.1 in
      let two : length s.calls ≤ entry s = calls_are_few setup actions s does in less_two a.row.call (length s.calls) (entry s) 1048576 one two within

  numbers_low : (i : ℕ) (a : Attempt) → slice_get s.attempts i ≡ Some a → a.row.number ≤ 5
  numbers_low i a got =
      let c : (c : Call) × (numbered s.calls a.row.call ≡ Some c) = its_call i a got in
      let numbers : IsCounted s × RetriesRepeat s = attempts_are_numbered setup actions s does in
      let one : a.row.number ≤ count_by (is_further_of a.row.call) s.attempts = numbers_below s numbers.0 numbers.1 i a got in
      let own : c.0.number ≡ a.row.call = counted_places (λ (z : Call). z.number) s.calls both.0.calls a.row.call c.0 c.1 in
      let two : count_by (is_further_of c.0.number) s.attempts ≤ most_attempts (plan_of c.0 s) = attempts_are_capped setup actions s does a.row.call c.0 c.1 in
      let here : count_by (is_further_of a.row.call) s.attempts ≤ most_attempts (plan_of c.0 s)
      = subst (λ (n : ℕ). count_by (is_further_of n) s.attempts ≤ most_attempts (plan_of c.0 s)) own two in
      let three : most_attempts (plan_of c.0 s) ≤ 5 = short a.row.call c.0 c.1 in
      less_two a.row.number (count_by (is_further_of a.row.call) s.attempts) (most_attempts (plan_of c.0 s)) 5 one here three

  links_low : (i : ℕ) (a : Attempt) → slice_get s.attempts i ≡ Some a → link_number a ≤ 1048576
  links_low i a got =
      let one : link_number a ≤ length s.links = below_links s.links a.row.placed (all_get (is_on_link s) s.attempts i a both.0.placed got) in
      let two : length s.links ≤ entry s = links_are_few setup actions s does in less_two (link_number a) (length s.links) (entry s) 1048576 one two within

  -- one with a later one of its number
  again_of : (i j : ℕ) (a b : Attempt) → slice_get s.attempts i ≡ Some a → slice_get s.attempts j ≡ Some b → i < j → SameNumber a b → HasLater s.attempts i a
  again_of i j a b first second less same = record { index = j; later = b; here = second; afterwards = less; same = same }

  is_later : (i : ℕ) (a : Attempt) → slice_get s.attempts i ≡ Some a → HasLater s.attempts i a → is_followed a s ≡ true
  is_later i a got l = followed_by s both.0 i a got l

  unsent_both : (i j : ℕ) (a b : Attempt) → slice_get s.attempts i ≡ Some a → slice_get s.attempts j ≡ Some b → i < j → SameNumber a b → HasLater s.attempts i a → HasLater s.attempts j b
      → was_refused a ≡ false → was_refused b ≡ false → link_number a ≡ link_number b → ⊥
  unsent_both i j a b first second less same l m e f link =
      let x : was_unsent a ≡ true = unsent_of a.row.ended (both.1.ended i a first l) e in
      let y : was_unsent b ≡ true = unsent_of b.row.ended (both.1.ended j b second m) f in
      let p : (at : Placed) × (a.row.placed ≡ Some at) = placed_of (λ (at : Placed). is_closed s.links at.link) a.row.placed (both.1.unsent i a first x).1 in
      let q : (at : Placed) × (b.row.placed ≡ Some at) = placed_of (λ (at : Placed). is_closed s.links at.link) b.row.placed (both.1.unsent j b second y).1 in
      let one : link_number a ≡ p.0.link = ap (λ (o : Option Placed). option_map_or (λ (at : Placed). at.link) o 0) p.1 in
      let two : link_number b ≡ q.0.link = ap (λ (o : Option Placed). option_map_or (λ (at : Placed). at.link) o 0) q.1 in
      both.1.apart i j a b p.0 q.0 first second less same x p.1 q.1 (sym one ∙ link ∙ two)

  refused_both : (i j : ℕ) (a b : Attempt) → slice_get s.attempts i ≡ Some a → slice_get s.attempts j ≡ Some b → i < j → a.row.call ≡ b.row.call → HasLater s.attempts i a
      → HasLater s.attempts j b → was_refused a ≡ true → was_refused b ≡ true → ⊥
  refused_both i j a b first second less call l m e f = let same : i ≡ j = both.1.refused i j a b first second call l m e f in omega (arith, same, less)

  -- attempts
  abbrev slot_of : Attempt → ℕ
  slot_of a = slot_by (is_followed a s) (was_refused a) (link_number a)

  abbrev key_of : Attempt → ℕ
  key_of a = (a.row.call * 6 + a.row.number) * 1048579 + slot_of a

  slot_low : (i : ℕ) (a : Attempt) → slice_get s.attempts i ≡ Some a → slot_of a ≤ 1048578
  slot_low i a got = slot_most (is_followed a s) (was_refused a) (link_number a) (links_low i a got)

  own_keys : AreOwnKeys key_of (λ a. true) s.attempts
  own_keys i j a b first second less one two same =
      let u : (a.row.call * 6 + a.row.number ≡ b.row.call * 6 + b.row.number) × (slot_of a ≡ slot_of b)
      = link_parts (a.row.call * 6 + a.row.number) (b.row.call * 6 + b.row.number) (slot_of a) (slot_of b) (slot_low i a first) (slot_low j b second) same in
      let v : SameNumber a b = six_parts a.row.call b.row.call a.row.number b.row.number (numbers_low i a first) (numbers_low j b second) u.0 in
      let l : HasLater s.attempts i a = again_of i j a b first second less v in
      let slots : slot_by true (was_refused a) (link_number a) ≡ slot_of b
      = sym (ap (λ (f : Bool). slot_by f (was_refused a) (link_number a)) (is_later i a first l)) ∙ u.1 in
      by_slots l v (was_refused a) (was_refused b) refl refl slots
    where
      by_slots : HasLater s.attempts i a → SameNumber a b → (r q : Bool) → was_refused a ≡ r → was_refused b ≡ q → slot_by true r (link_number a) ≡ slot_by (is_followed b s) q (link_number b) → ⊥
      by_slots l v r q e f slots =
          let alike : (is_followed b s ≡ true) × (((r ≡ true) × (q ≡ true)) ⊎ ((r ≡ false) × (q ≡ false) × (link_number a ≡ link_number b)))
          = slots_same (is_followed b s) r q (link_number a) (link_number b) slots in
          let m : HasLater s.attempts j b = later_of s j b both.0 second alike.0 in
          elim alike.1 [
            | inl x ↦ refused_both i j a b first second less v.0 l m (e ∙ x.0) (f ∙ x.1)
            | inr x ↦ unsent_both i j a b first second less v l m (e ∙ x.0) (f ∙ x.1) x.2
          ]

  low_keys : (i : ℕ) (a : Attempt) → slice_get s.attempts i ≡ Some a → key_of a < 6597094932498
  low_keys i a got =
      let one : a.row.call ≤ 1048576 = calls_low i a got in
      let two : a.row.number ≤ 5 = numbers_low i a got in
      let three : slot_of a ≤ 1048578 = slot_low i a got in by a.row.call a.row.number (slot_of a) one two three
    where
      by : (c n x : ℕ) → c ≤ 1048576 → n ≤ 5 → x ≤ 1048578 → (c * 6 + n) * 1048579 + x < 6597094932498
      by c n x e f g = omega (arith, e, f, g)

  pub attempts_few : length s.attempts < 7696581394432
  attempts_few =
      let less : length (filter (λ (a : Attempt). true) s.attempts) ≤ 6597094932498 = counted key_of (λ a. true) 6597094932498 s.attempts own_keys (λ i a got is. low_keys i a got) in
      let same : length (filter (λ (a : Attempt). true) s.attempts) ≡ length s.attempts = all_pass s.attempts in
      below_by_most (length (filter (λ (a : Attempt). true) s.attempts)) (length s.attempts) less same
    where
      below_by_most : (a b : ℕ) → a ≤ 6597094932498 → a ≡ b → b < 7696581394432
      below_by_most a b e f = omega (arith, e, f)

  -- and those of them that have a stream, or may still get one
  abbrev stream_key : Attempt → ℕ
  stream_key a = (a.row.call * 6 + a.row.number) * 2 + one_by (is_followed a s)

  streamed_by : (stream : Option ℕ) (ended : Option RowEnd) → (is_some stream || is_none ended) ≡ true → is_some ended ≡ true → stream ≡ None → ⊥
  streamed_by None None e f none = absurd (cc)
  streamed_by None (Some x) e f none = absurd (cc)
  streamed_by (Some n) ended e f none = (cc)

  some_end : (o : Option RowEnd) → holds is_again o ≡ true → is_some o ≡ true
  some_end None e = absurd (cc)
  some_end (Some x) e = refl

  -- one that is followed and has a stream was refused
  refused_one : (i : ℕ) (a : Attempt) → slice_get s.attempts i ≡ Some a → HasLater s.attempts i a → is_streaming a ≡ true → was_refused a ≡ true
  refused_one i a got l streams =
      let again : holds is_again a.row.ended ≡ true = both.1.ended i a got l in
      refused_of a.row.ended (was_refused a) refl again
      (λ unsent. streamed_by a.row.stream a.row.ended streams (some_end a.row.ended again) (both.1.unsent i a got unsent).0)

  stream_keys : AreOwnKeys stream_key is_streaming s.attempts
  stream_keys i j a b first second less one two same =
      let u : (a.row.call * 6 + a.row.number ≡ b.row.call * 6 + b.row.number) × (one_by (is_followed a s) ≡ one_by (is_followed b s))
      = two_parts (a.row.call * 6 + a.row.number) (b.row.call * 6 + b.row.number) (one_by (is_followed a s)) (one_by (is_followed b s)) (one_most (is_followed a s)) (one_most (is_followed b s)) same in
      let v : SameNumber a b = six_parts a.row.call b.row.call a.row.number b.row.number (numbers_low i a first) (numbers_low j b second) u.0 in
      let l : HasLater s.attempts i a = again_of i j a b first second less v in
      let followed : is_followed b s ≡ true = ones_same (is_followed b s) (sym (ap one_by (is_later i a first l)) ∙ u.1) in
      let m : HasLater s.attempts j b = later_of s j b both.0 second followed in
      refused_both i j a b first second less v.0 l m (refused_one i a first l one) (refused_one j b second m two)

  low_streams : (i : ℕ) (a : Attempt) → slice_get s.attempts i ≡ Some a → stream_key a < 12582924
  low_streams i a got =
      let one : a.row.call ≤ 1048576 = calls_low i a got in
      let two : a.row.number ≤ 5 = numbers_low i a got in
      let three : one_by (is_followed a s) ≤ 1 = one_most (is_followed a s) in by a.row.call a.row.number (one_by (is_followed a s)) one two three
    where
      by : (c n x : ℕ) → c ≤ 1048576 → n ≤ 5 → x ≤ 1 → (c * 6 + n) * 2 + x < 12582924
      by c n x e f g = omega (arith, e, f, g)

  pub streams_few : (link : ℕ) (l : Link) → numbered s.links link ≡ Some l → length (opened_streams l) + length (waiting_on l s) < 1073741824
  streams_few link l there =
      let of_attempts : length (opened_streams l) + length (waiting_on l s) ≤ count_by is_streaming s.attempts = streams_are_of_attempts setup actions s does link l there in
      let same : length (filter is_streaming s.attempts) ≡ count_by is_streaming s.attempts = length-filter is_streaming s.attempts in
      let less : length (filter is_streaming s.attempts) ≤ 12582924 = counted stream_key is_streaming 12582924 s.attempts stream_keys (λ i a got is. low_streams i a got) in
      all_on (length (opened_streams l) + length (waiting_on l s)) (count_by is_streaming s.attempts) (length (filter is_streaming s.attempts)) of_attempts same less
    where
      all_on : (a b c : ℕ) → a ≤ b → c ≡ b → c ≤ 12582924 → a < 1073741824
      all_on a b c e f g = omega (arith, e, f, g)

pub attempts_are_bounded : AttemptsAreBounded
attempts_are_bounded setup actions s does within short = attempts_few setup actions s does within short

pub streams_are_bounded : StreamsAreBounded
streams_are_bounded setup actions s does within short link l there = streams_few setup actions s does within short link l there
