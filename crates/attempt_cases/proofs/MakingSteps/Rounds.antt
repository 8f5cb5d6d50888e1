-- The attempts of a round are those that are due, call by call.
use Rattle.std.proofs.Common.{◌≡◌, ◌≤◌, ◌∙◌, ◌==◌, ◌&&◌, ◌||◌, ◌-◌, ◌∷◌, ap, arith, refl, sym, subst, Bool, true, false, not, List, [], Option, None, Some, ℕ, zero, suc, if◌then◌else◌, length, nat_le, nat_lt, slice_get}
use Rattle.std.proofs.lemmas.Bool.{and_parts}
use Rattle.std.specs.Option.{option_map}
use Rattle.call_actions.proofs.Places.{places_below}
use Rattle.channel_actions.proofs.Calls.Going.Arms.{CallLaws}
use Rattle.channel_actions.proofs.Links.Settings.Slots.{changed_slot_is, put_away}
use Rattle.channel_actions.specs.Agrees.{Agrees}
use Rattle.channel_actions.specs.Quiescent.{IsAt}
use Rattle.channel_actions.specs.KeptCalls.Laws.{EarlyAlong}
use Rattle.channel_actions.specs.Sets.{PairsAreExactly, is_in_dues}
use Rattle.call_cases.proofs.ConfiguredCalls.Lists.{equal_numbers}
use Rattle.attempt_cases.proofs.MakingSteps.Keys.{ArePlain, is_key, key_of, later_has, later_rising, plain_ascending, plain_keys, self_equal, sorted_has, sorted_rising}
use Rattle.attempt_cases.proofs.MakingSteps.Strips.{with_dues}
use Rattle.attempt_cases.proofs.RoundSteps.Strict.{DuePair, due_from}
use Rattle.call_cases.proofs.SettlingActions.Composed.{leads_on}
use Rattle.attempt_cases.specs.MakingSteps.Laws.{IsDueDone, OneMakes, RoundsMake}
use Rattle.call_cases.specs.SettlingActions.Sound.{IsSound}
use Rattle.call_cases.specs.SettlingActions.Steps.{IsMade, IsTended, Leads, round_made_state}
use Rattle.channel_core.proofs.Places.{put_there}
use Rattle.channel_core.specs.States.{StateSeen}
use Rattle.channel_core.specs.Steps.{all_made, dues_forgotten, made_one}
use Rattle.channel_core.specs.Tables.{changed_slot, changed_slot_at, changed_slot_on, numbered, without_due}
use Rattle.channel_core.specs.Timing.{due_keys, later, number_of, sorted_into}
use Rattle.channel_core.specs.declared.state.slots.CallSlot.{CallSlot}
use Rattle.picker_gate.specs.Pairs.{has}
use Rattle.session_actions.specs.DueAttempts.{next_due}
use Rattle.session_actions.specs.declared.call.Call.{Call}
use Rattle.session_actions.specs.declared.entry.OpenEntry.{OpenEntry}
use Rattle.session_actions.specs.declared.entry.Stage.TheVariants as stage
use Rattle.session_actions.specs.declared.seen.Seen.{Seen}
use Rattle.attempt_cases.proofs.MakingSteps.DueNow.{IsDueBy, DueCall, due_call, stripped, not_of, not_back, Loop, loop_ends, lead, dues1, calls1, made_so, low, loop_on}

-- all of them
module _ (one : OneMakes) (laws : CallLaws) (along : EarlyAlong) where
  all_loop : (keys : List ℕ) (dues : List (ℕ × ℕ)) (calls : List CallSlot) (y : StateSeen) (o : OpenEntry) (s : Seen) → Loop keys dues calls y o s
      → Leads (all_made keys (with_dues dues calls y)) o s IsMade
  all_loop [] dues calls y o s l = loop_ends dues calls y o s l
  all_loop (n ∷ rest) dues calls y o s l =
      let first : Leads (made_one n y) o s (IsDueDone n) = lead one laws along n rest dues calls y o s l in
      let next : Loop rest (dues1 one laws along n rest dues calls y o s l) (calls1 one laws along n rest dues calls y o s l) (made_one n y) first.reaches.entry first.reaches.seen
      = loop_on one laws along n rest dues calls y o s l in
      let more = all_loop rest (dues1 one laws along n rest dues calls y o s l) (calls1 one laws along n rest dues calls y o s l) (made_one n y) first.reaches.entry first.reaches.seen next in
      let same : all_made (n ∷ rest) (with_dues dues calls y)
      ≡ all_made rest (with_dues (dues1 one laws along n rest dues calls y o s l) (calls1 one laws along n rest dues calls y o s l) (made_one n y))
      = ap (λ (m : ℕ). all_made rest (made_one m (with_dues dues calls y))) (low one laws along n rest dues calls y o s l)
      ∙ ap (all_made rest) (made_so one laws along n rest dues calls y o s l) in
      subst (λ (z : StateSeen). Leads z o s IsMade) (sym same)
      (leads_on (made_one n y) (all_made rest (with_dues (dues1 one laws along n rest dues calls y o s l) (calls1 one laws along n rest dues calls y o s l) (made_one n y))) o s (IsDueDone n) IsMade
      first more)

-- the timers are taken out
abbrev pub forgot : List ℕ → List CallSlot → List CallSlot
forgot [] calls = calls
forgot (key ∷ keys) calls = forgot keys (changed_slot without_due calls (number_of key))

forgot_is : (keys : List ℕ) (dues : List (ℕ × ℕ)) (calls : List CallSlot) (x : StateSeen) → dues_forgotten keys (with_dues dues calls x) ≡ with_dues dues (forgot keys calls) x
forgot_is [] dues calls x = refl
forgot_is (key ∷ keys) dues calls x = forgot_is keys dues (changed_slot without_due calls (number_of key)) x

gone_once : (a b : Bool) (q : Option CallSlot) → option_map (stripped b) (option_map (stripped a) q) ≡ option_map (stripped (a || b)) q
gone_once true true None = refl
gone_once true true (Some slot) = refl
gone_once true false None = refl
gone_once true false (Some slot) = refl
gone_once false b None = refl
gone_once false true (Some slot) = refl
gone_once false false (Some slot) = refl

none_index : (calls : List CallSlot) (i : ℕ) (o : Option CallSlot) → slice_get calls i ≡ o → o ≡ None → changed_slot_at without_due calls i o ≡ calls
none_index calls i None e off = refl
none_index calls i (Some slot) e off = absurd (let bad : Some slot ≡ None = off in (cc))

none_if : (calls : List CallSlot) (i : ℕ) (b : Bool) → slice_get calls i ≡ None → changed_slot_on without_due calls (if b then Some i else None) ≡ calls
none_if calls i true e = none_index calls i (slice_get calls i) refl e
none_if calls i false e = refl

none_changed : (calls : List CallSlot) (n : ℕ) → numbered calls n ≡ None → changed_slot without_due calls n ≡ calls
none_changed calls zero e = refl
none_changed calls (suc i) e = none_if calls i (nat_lt i (length calls)) e

plain_slot : (q : Option CallSlot) → q ≡ option_map (stripped false) q
plain_slot None = refl
plain_slot (Some slot) = refl

or_true : (z : Bool) → (z || true) ≡ true
or_true true = refl
or_true false = refl

slot_changed : (calls : List CallSlot) (n k : ℕ) (o : Option CallSlot) → numbered calls n ≡ o → (b : Bool) → (n == k) ≡ b
    → numbered (changed_slot without_due calls n) k ≡ option_map (stripped b) (numbered calls k)
slot_changed calls n k None e b at = ap (λ (l : List CallSlot). numbered l k) (none_changed calls n e) ∙ by_same b at
  where
    by_same : (b : Bool) → (n == k) ≡ b → numbered calls k ≡ option_map (stripped b) (numbered calls k)
    by_same true at =
        let none : numbered calls k ≡ None = ap (numbered calls) (sym (equal_numbers n k at)) ∙ e in none ∙ sym (ap (option_map (stripped true)) none)
    by_same false at = plain_slot (numbered calls k)
slot_changed calls n k (Some slot) e true at =
    subst (λ (j : ℕ). numbered (changed_slot without_due calls n) j ≡ option_map (stripped true) (numbered calls j)) (equal_numbers n k at)
    (ap (λ (l : List CallSlot). numbered l n) (changed_slot_is without_due calls n slot e) ∙ put_there calls n slot (without_due slot) e
    ∙ sym (ap (option_map (stripped true)) e))
slot_changed calls n k (Some slot) e false at =
    ap (λ (l : List CallSlot). numbered l k) (changed_slot_is without_due calls n slot e) ∙ put_away calls n k slot (without_due slot) e (not_back k n at)
    ∙ plain_slot (numbered calls k)

forgot_slots : (keys : List ℕ) (calls : List CallSlot) (k : ℕ) → ((j : ℕ) → is_key keys j ≡ true → number_of j ≡ j)
    → numbered (forgot keys calls) k ≡ option_map (stripped (is_key keys k)) (numbered calls k)
forgot_slots [] calls k small = plain_slot (numbered calls k)
forgot_slots (key ∷ keys) calls k small =
    let own : number_of key ≡ key = small key (ap (λ (b : Bool). b || is_key keys key) (self_equal key)) in
    let rest : (j : ℕ) → is_key keys j ≡ true → number_of j ≡ j = λ j e. small j (ap (λ (b : Bool). (key == j) || b) e ∙ or_true (key == j)) in
    forgot_slots keys (changed_slot without_due calls (number_of key)) k rest
    ∙ ap (λ (n : ℕ). option_map (stripped (is_key keys k)) (numbered (changed_slot without_due calls n) k)) own
    ∙ ap (option_map (stripped (is_key keys k))) (slot_changed calls key k (numbered calls key) refl (key == k) refl)
    ∙ gone_once (key == k) (is_key keys k) (numbered calls k)

-- the whole
module _ (one : OneMakes) (laws : CallLaws) (along : EarlyAlong) (x : StateSeen) (o : OpenEntry) (s : Seen) (h : Agrees x s) (sound : IsSound x s) (at : IsAt stage.Settling o s)
    (tended : IsTended o s) where
  abbrev ks : List ℕ
  ks = due_keys x.book.moment x.dues

  abbrev sorted : List (ℕ × ℕ)
  sorted = sorted_into [] ks

  abbrev all_keys : List ℕ
  all_keys = due_keys 0 sorted

  abbrev rest_dues : List (ℕ × ℕ)
  rest_dues = later x.book.moment x.dues

  zero_of : (a : ℕ) (b : Bool) → ((a == 0) && b) ≡ true → a ≡ 0
  zero_of a b e = equal_numbers a 0 (and_parts (a == 0) b e).0

  plain : ArePlain sorted
  plain p e = zero_of p.0 (is_key ks p.1) (sym (sorted_has [] ks p) ∙ e)

  same_keys : (k : ℕ) → is_key all_keys k ≡ is_key ks k
  same_keys k = plain_keys sorted plain k ∙ sorted_has [] ks (0, k)

  due_pair : (k : ℕ) → is_key ks k ≡ true → IsDueBy s x.book.moment k
  due_pair k e =
      let d : DuePair x.book.moment x.dues k = due_from x.book.moment x.dues k e in
      record { at = d.at; in_dues = sym (h.sets.dues.exact d.at k) ∙ d.there; past = d.past }

  small : (k : ℕ) → is_key ks k ≡ true → number_of k ≡ k
  small k e =
      let b : IsDueBy s x.book.moment k = due_pair k e in
      let c : DueCall s b.at k = due_call s b.at k b.in_dues in
      let below : k ≤ length s.calls = places_below s.calls k c.call c.there in
      let few : length s.calls ≤ 1048576 = sound.few in
      omega (arith, below, few)

  -- a call is due at one moment
  one_moment : (m j k : ℕ) → is_in_dues s m k ≡ true → is_in_dues s j k ≡ true → m ≡ j
  one_moment m j k e f =
      let c : DueCall s m k = due_call s m k e in
      let d : DueCall s j k = due_call s j k f in
      let both : Some c.call ≡ Some d.call = sym c.there ∙ d.there in
      let same : c.call ≡ d.call = (cc) in
      let moments : Some m ≡ Some j = sym c.next ∙ ap (λ (z : Call). next_due z s) same ∙ d.next in
      (cc)

  rest_by : (m k : ℕ) (a b : Bool) → is_in_dues s m k ≡ a → is_key ks k ≡ b → (a && not (nat_le m x.book.moment)) ≡ (a && not b)
  rest_by m k false b e f = refl
  rest_by m k true true e f =
      let d : IsDueBy s x.book.moment k = due_pair k f in
      ap not (ap (λ (z : ℕ). nat_le z x.book.moment) (one_moment m d.at k e d.in_dues) ∙ d.past)
  rest_by m k true false e f = ap not (by_past (nat_le m x.book.moment) refl)
    where
      by_past : (z : Bool) → nat_le m x.book.moment ≡ z → z ≡ false
      by_past true past =
          absurd (let bad : true ≡ false = sym (key_of x.book.moment x.dues (m, k) h.sets.dues.rising (h.sets.dues.exact m k ∙ e) past) ∙ f in (cc))
      by_past false past = refl

  rest_timers : PairsAreExactly rest_dues (λ m k. is_in_dues s m k && not (is_key all_keys k))
  rest_timers = record {
    rising = later_rising x.book.moment x.dues h.sets.dues.rising;
    exact =
        λ m k. later_has x.book.moment x.dues (m, k) h.sets.dues.rising ∙ ap (λ (z : Bool). z && not (nat_le m x.book.moment)) (h.sets.dues.exact m k)
        ∙ rest_by m k (is_in_dues s m k) (is_key ks k) refl refl ∙ ap (λ (z : Bool). is_in_dues s m k && not z) (sym (same_keys k));
  }

  rest_late : (m k : ℕ) → has rest_dues (m, k) ≡ true → nat_le m x.book.moment ≡ false
  rest_late m k e =
      not_of (nat_le m x.book.moment)
      (and_parts (has x.dues (m, k)) (not (nat_le m x.book.moment)) (sym (later_has x.book.moment x.dues (m, k) h.sets.dues.rising) ∙ e)).1

  loop_first : Loop all_keys rest_dues (forgot ks x.book.calls) x o s
  loop_first = record {
    agrees = h;
    sound = sound;
    at = at;
    tended = tended;
    ascending = plain_ascending sorted plain (sorted_rising [] ks tt);
    slots = λ k. forgot_slots ks x.book.calls k small ∙ ap (λ (z : Bool). option_map (stripped z) (numbered x.book.calls k)) (sym (same_keys k));
    timers = rest_timers;
    late = rest_late;
    due = λ k e. due_pair k (sym (same_keys k) ∙ e);
  }

  pub round_makes : Leads (round_made_state x) o s IsMade
  round_makes =
      subst (λ (z : StateSeen). Leads (all_made all_keys z) o s IsMade) (sym (forgot_is ks rest_dues x.book.calls x))
      (all_loop one laws along all_keys rest_dues (forgot ks x.book.calls) x o s loop_first)

pub rounds_make : CallLaws → EarlyAlong → RoundsMake
rounds_make laws along one x o s h sound at tended = round_makes one laws along x o s h sound at tended
