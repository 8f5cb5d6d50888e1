-- No more is held than before, and less where what was held whole is so no longer: of a buffer, of the calls of a channel, and of the channel.
use Rattle.std.proofs.Common.{◌≡◌, ◌<◌, ◌≤◌, ◌+◌, ◌-◌, ◌&&◌, ◌==◌, ◌++◌, ◌∷◌, not, ap, arith, refl, subst, sym, ◌∙◌, Bool, true, false, List, [], Option, None, Some, ℕ, zero, suc, filter, if◌then◌else◌, length, option_map, slice_get, slice_set}
use Rattle.std.proofs.Math.Nat.{le_refl, le_trans}
use Rattle.std.proofs.lemmas.Bool.Decides.{nat_tests}
use Rattle.std.specs.List.{concat}
use Rattle.std.specs.Option.{option_map_or}
use Rattle.a6_numbers.specs.Throttling.{Bucket}
use Rattle.attempt_buffer.specs.Buffers.{Buffered, Cursor, after_taking, can_open, closed, committed_at, committed_to, is_committed_row, is_open, moved, opened, shut, taken_by, taken_to, text_of, unpassed}
use Rattle.attempt_ledger.specs.declared.ledger.Ledger.{Ledger}
use Rattle.call_core.specs.Parts.{begun_row, can_feed, committed_buffer, fed_buffer, opened_row}
use Rattle.call_core.specs.Steps.{Stepped, lent}
use Rattle.call_core.specs.declared.state.CallState.{CallState}
use Rattle.channel_actions.proofs.SoundBuffers.Buffers.{shorter}
use Rattle.channel_core.specs.Tables.{acted, acted_at, acted_on, changed_call, changed_call_at, changed_call_on, changed_slot, changed_slot_at, changed_slot_on}
use Rattle.channel_core.specs.declared.state.slots.CallSlot.{CallSlot}
use Rattle.ledger_stamps.specs.Steps.{index_at}

-- of a buffer
pub record IsTrim (a b : Buffered) : Type 0 where
  pub most : length (text_of b) ≤ length (text_of a)
  pub less : a.is_whole ≡ true → b.is_whole ≡ false → length (text_of b) < length (text_of a)

whole_not : (b : Bool) (P : Type 0) → b ≡ true → b ≡ false → P
whole_not true P e f = absurd (let bad : true ≡ false = f in (cc))
whole_not false P e f = absurd (let bad : false ≡ true = e in (cc))

pub trim_same : (a b : Buffered) → text_of b ≡ text_of a → b.is_whole ≡ a.is_whole → IsTrim a b
trim_same a b text whole = record {
  most = subst (λ (l : List ℕ). length l ≤ length (text_of a)) (sym text) (le_refl (length (text_of a)));
  less = λ e f. whole_not a.is_whole (length (text_of b) < length (text_of a)) e (sym whole ∙ f);
}

pub trim_self : (a : Buffered) → IsTrim a a
trim_self a = trim_same a a refl refl

less_then : (m n k : ℕ) → m ≤ n → n < k → m < k
less_then m n k e f = omega (arith, e, f)

then_less : (m n k : ℕ) → m < n → n ≤ k → m < k
then_less m n k e f = omega (arith, e, f)

less_by : (a b c : Buffered) (q : Bool) → b.is_whole ≡ q → IsTrim a b → IsTrim b c → a.is_whole ≡ true → c.is_whole ≡ false → length (text_of c) < length (text_of a)
less_by a b c true is f g e k = then_less (length (text_of c)) (length (text_of b)) (length (text_of a)) (g.less is k) f.most
less_by a b c false is f g e k = less_then (length (text_of c)) (length (text_of b)) (length (text_of a)) g.most (f.less e is)

pub trim_on : (a b c : Buffered) → IsTrim a b → IsTrim b c → IsTrim a c
trim_on a b c f g = record { most = le_trans g.most f.most; less = λ e k. less_by a b c b.is_whole refl f g e k }

-- a commitment gives up the messages that its row has passed
lost : (n m : ℕ) → m ≤ n → ((n - m) == 0) ≡ false → m < n
lost n m low off = grind (arith, nat_tests)

and_second : (a b : Bool) → a ≡ true → (a && b) ≡ false → b ≡ false
and_second true b e f = f
and_second false b e f = absurd (let bad : false ≡ true = e in (cc))

pub trim_at : (row n : ℕ) (b : Buffered) → IsTrim b (committed_at row n b)
trim_at row n b =
    let rest : ℕ = length (concat (unpassed n b.messages)) in
    let low : rest ≤ length (text_of b) = shorter n b.messages in
    record { most = low; less = λ e f. lost (length (text_of b)) rest low (and_second b.is_whole ((length (text_of b) - rest) == 0) e f) }

to_by : (row : ℕ) (b : Buffered) (o : Option ℕ) → IsTrim b (option_map_or (λ (taken : ℕ). committed_at row taken b) o b)
to_by row b None = trim_self b
to_by row b (Some taken) = trim_at row taken b

pub trim_to : (row : ℕ) (b : Buffered) → IsTrim b (committed_to row b)
trim_to row b = to_by row b (taken_by row b)

trim_if : (q : Bool) (a b c : Buffered) → IsTrim a b → IsTrim a c → IsTrim a (if q then b else c)
trim_if true a b c f g = f
trim_if false a b c f g = g

pub trim_committed : (row : ℕ) (b : Buffered) → IsTrim b (committed_buffer row b)
trim_committed row b = trim_if (is_open row b) b (committed_to row b) b (trim_to row b) (trim_self b)

opens : (row : ℕ) (b : Buffered) → IsTrim b (opened_row row b)
opens row b = trim_if (can_open row b) b (opened row b) b (trim_same b (opened row b) refl refl) (trim_self b)

pub trim_begun : (row : ℕ) (is_committed : Bool) (b : Buffered) → IsTrim b (begun_row row is_committed b)
trim_begun row true b = trim_on b (opened_row row b) (committed_buffer row (opened_row row b)) (opens row b) (trim_committed row (opened_row row b))
trim_begun row false b = opens row b

pub trim_closed : (row : ℕ) (b : Buffered) → IsTrim b (closed row b)
trim_closed row b =
    trim_if (is_committed_row row b.committed) b (record b { committed = option_map shut b.committed }) (record b { cursors = filter (λ (c : Cursor). not (c.row == row)) b.cursors })
    (trim_same b (record b { committed = option_map shut b.committed }) refl refl)
    (trim_same b (record b { cursors = filter (λ (c : Cursor). not (c.row == row)) b.cursors }) refl refl)

takes : (row n : ℕ) (b : Buffered) → IsTrim b (taken_to row n b)
takes row n b =
    trim_if (is_committed_row row b.committed) b (committed_at row n b) (record b { cursors = moved row n b.cursors }) (trim_at row n b)
    (trim_same b (record b { cursors = moved row n b.cursors }) refl refl)

taken_so : (row len : ℕ) (b : Buffered) (o : Option ℕ) → IsTrim b (option_map_or (λ (taken : ℕ). taken_to row (taken + len) b) o b)
taken_so row len b None = trim_self b
taken_so row len b (Some taken) = takes row (taken + len) b

pub trim_fed : (row len : ℕ) (b : Buffered) → IsTrim b (fed_buffer row len b)
trim_fed row len b = trim_if (can_feed row len b) b (after_taking row len b) b (taken_so row len b (taken_by row b)) (trim_self b)

-- of a call that goes on: it went on before
pub record IsTrimmed (old new : CallState) : Type 0 where
  pub ended : old.ended ≡ None
  pub text : IsTrim old.buffer new.buffer

pub record IsBlank (call : CallState) : Type 0 where
  pub most : length (text_of call.buffer) ≤ 0
  pub whole : call.buffer.is_whole ≡ true

-- by what stood at its number
abbrev pub TrimmedOf : Option CallSlot → CallState → Type 0
TrimmedOf None new = IsBlank new
TrimmedOf (Some old) new = IsTrimmed old.call new

trimmed_self : (call : CallState) → call.ended ≡ None → IsTrimmed call call
trimmed_self call goes = record { ended = goes; text = trim_self call.buffer }

none_below : (m n : ℕ) (P : Type 0) → m < n → n ≤ 0 → P
none_below m n P e f = absurd (let bad : ⊥ = omega (arith, e, f) in bad)

blank_whole : (mid new : CallState) → IsBlank mid → IsTrimmed mid new → (q : Bool) → new.buffer.is_whole ≡ q → q ≡ true
blank_whole mid new blank trim true e = refl
blank_whole mid new blank trim false e =
    none_below (length (text_of new.buffer)) (length (text_of mid.buffer)) (false ≡ true) (trim.text.less blank.whole e) blank.most

trimmed_then : (o : Option CallSlot) (mid new : CallState) → TrimmedOf o mid → IsTrimmed mid new → TrimmedOf o new
trimmed_then None mid new blank trim = record {
  most = le_trans trim.text.most blank.most;
  whole = blank_whole mid new blank trim new.buffer.is_whole refl;
}
trimmed_then (Some old) mid new first trim = record { ended = first.ended; text = trim_on old.call.buffer mid.buffer new.buffer first.text trim.text }

-- of all calls: none is taken away
pub record AreTrimmed (xs ys : List CallSlot) : Type 0 where
  pub stay : (i : ℕ) → slice_get ys i ≡ None → slice_get xs i ≡ None
  pub each : (i : ℕ) (new : CallSlot) → slice_get ys i ≡ Some new → new.call.ended ≡ None → TrimmedOf (slice_get xs i) new.call

self_by : (o : Option CallSlot) (new : CallSlot) → o ≡ Some new → new.call.ended ≡ None → TrimmedOf o new.call
self_by None new e goes = absurd (let bad : None ≡ Some new = e in (cc))
self_by (Some old) new e goes = (let one : old ≡ new = (cc) in subst (λ (z : CallSlot). IsTrimmed z.call new.call) (sym one) (trimmed_self new.call goes))

pub trimmed_same : (xs : List CallSlot) → AreTrimmed xs xs
trimmed_same xs = record { stay = λ i e. e; each = λ i new e goes. self_by (slice_get xs i) new e goes }

joined_by : (xs ys : List CallSlot) (i : ℕ) (new : CallSlot) (o : Option CallSlot) → slice_get ys i ≡ o → AreTrimmed xs ys → TrimmedOf o new.call → TrimmedOf (slice_get xs i) new.call
joined_by xs ys i new None e first blank = subst (λ (q : Option CallSlot). TrimmedOf q new.call) (sym (first.stay i e)) blank
joined_by xs ys i new (Some mid) e first trim = trimmed_then (slice_get xs i) mid.call new.call (first.each i mid e trim.ended) trim

pub trimmed_on : (xs ys zs : List CallSlot) → AreTrimmed xs ys → AreTrimmed ys zs → AreTrimmed xs zs
trimmed_on xs ys zs first second = record {
  stay = λ i e. first.stay i (second.stay i e);
  each = λ i new e goes. joined_by xs ys i new (slice_get ys i) refl first (second.each i new e goes);
}

-- one is put at a place
abbrev Put : CallSlot → CallSlot → Type 0
Put old new = new.call.ended ≡ None → IsTrimmed old.call new.call

put_stay : (xs : List CallSlot) (k : ℕ) (v : CallSlot) (i : ℕ) → slice_get (slice_set xs k v) i ≡ None → slice_get xs i ≡ None
put_stay [] k v i e = refl
put_stay (x ∷ xs) zero v zero e = absurd (let bad : Some v ≡ None = e in (cc))
put_stay (x ∷ xs) zero v (suc i) e = e
put_stay (x ∷ xs) (suc k) v zero e = e
put_stay (x ∷ xs) (suc k) v (suc i) e = put_stay xs k v i e

put_each : (xs : List CallSlot) (k : ℕ) (slot v : CallSlot) → slice_get xs k ≡ Some slot → Put slot v → (i : ℕ) (new : CallSlot) → slice_get (slice_set xs k v) i ≡ Some new
    → new.call.ended ≡ None → TrimmedOf (slice_get xs i) new.call
put_each [] k slot v at ok i new e goes = absurd (let bad : None ≡ Some slot = at in (cc))
put_each (x ∷ xs) zero slot v at ok zero new e goes =
    let one : x ≡ slot = (cc) in
    let two : v ≡ new = (cc) in
    subst (λ (z : CallSlot). IsTrimmed z.call new.call) (sym one) (subst (λ (z : CallSlot). IsTrimmed slot.call z.call) two (ok (ap (λ (z : CallSlot). z.call.ended) two ∙ goes)))
put_each (x ∷ xs) zero slot v at ok (suc i) new e goes = self_by (slice_get xs i) new e goes
put_each (x ∷ xs) (suc k) slot v at ok zero new e goes =
    let one : x ≡ new = (cc) in subst (λ (z : CallSlot). IsTrimmed z.call new.call) (sym one) (trimmed_self new.call goes)
put_each (x ∷ xs) (suc k) slot v at ok (suc i) new e goes = put_each xs k slot v at ok i new e goes

pub put_trimmed : (xs : List CallSlot) (k : ℕ) (slot v : CallSlot) → slice_get xs k ≡ Some slot → (v.call.ended ≡ None → IsTrimmed slot.call v.call) → AreTrimmed xs (slice_set xs k v)
put_trimmed xs k slot v at ok = record { stay = λ i e. put_stay xs k v i e; each = λ i new e goes. put_each xs k slot v at ok i new e goes }

-- one begins
more_stay : (xs : List CallSlot) (v : CallSlot) (i : ℕ) → slice_get (xs ++ v ∷ []) i ≡ None → slice_get xs i ≡ None
more_stay [] v i e = refl
more_stay (x ∷ xs) v zero e = e
more_stay (x ∷ xs) v (suc i) e = more_stay xs v i e

more_each : (xs : List CallSlot) (v : CallSlot) → IsBlank v.call → (i : ℕ) (new : CallSlot) → slice_get (xs ++ v ∷ []) i ≡ Some new → new.call.ended ≡ None → TrimmedOf (slice_get xs i) new.call
more_each [] v blank zero new e goes = (let one : v ≡ new = (cc) in subst (λ (z : CallSlot). IsBlank z.call) one blank)
more_each [] v blank (suc i) new e goes = absurd (let bad : None ≡ Some new = e in (cc))
more_each (x ∷ xs) v blank zero new e goes = (let one : x ≡ new = (cc) in subst (λ (z : CallSlot). IsTrimmed z.call new.call) (sym one) (trimmed_self new.call goes))
more_each (x ∷ xs) v blank (suc i) new e goes = more_each xs v blank i new e goes

pub more_trimmed : (xs : List CallSlot) (v : CallSlot) → IsBlank v.call → AreTrimmed xs (xs ++ v ∷ [])
more_trimmed xs v blank = record { stay = λ i e. more_stay xs v i e; each = λ i new e goes. more_each xs v blank i new e goes }

-- a call does something
module _ (f : Stepped → Stepped) (ledger : Ledger) (tokens : Option Bucket) (does : (z : Stepped) → (f z).call.ended ≡ None → IsTrimmed z.call (f z).call) where
  at_place : (calls : List CallSlot) (i : ℕ) (o : Option CallSlot) → slice_get calls i ≡ o → AreTrimmed calls (acted_at f calls i ledger tokens o).calls
  at_place calls i None e = trimmed_same calls
  at_place calls i (Some slot) e = put_trimmed calls i slot _ e (does (lent slot.call ledger tokens []))

  on_place : (calls : List CallSlot) (o : Option ℕ) → AreTrimmed calls (acted_on f calls ledger tokens o).calls
  on_place calls None = trimmed_same calls
  on_place calls (Some i) = at_place calls i (slice_get calls i) refl

  pub acted_trimmed : (calls : List CallSlot) (number : ℕ) → AreTrimmed calls (acted f calls number ledger tokens).calls
  acted_trimmed calls number = on_place calls (index_at number (length calls))

-- a call is changed beside what it does
module _ (f : CallState → CallState) (does : (call : CallState) → (f call).ended ≡ None → IsTrimmed call (f call)) where
  changed_place : (calls : List CallSlot) (i : ℕ) (o : Option CallSlot) → slice_get calls i ≡ o → AreTrimmed calls (changed_call_at f calls i o)
  changed_place calls i None e = trimmed_same calls
  changed_place calls i (Some slot) e = put_trimmed calls i slot _ e (does slot.call)

  changed_on : (calls : List CallSlot) (o : Option ℕ) → AreTrimmed calls (changed_call_on f calls o)
  changed_on calls None = trimmed_same calls
  changed_on calls (Some i) = changed_place calls i (slice_get calls i) refl

  pub changed_trimmed : (calls : List CallSlot) (number : ℕ) → AreTrimmed calls (changed_call f calls number)
  changed_trimmed calls number = changed_on calls (index_at number (length calls))

-- what stands beside a call is changed
module _ (f : CallSlot → CallSlot) (same : (slot : CallSlot) → (f slot).call ≡ slot.call) where
  beside_self : (slot : CallSlot) → (f slot).call.ended ≡ None → IsTrimmed slot.call (f slot).call
  beside_self slot goes = subst (IsTrimmed slot.call) (sym (same slot)) (trimmed_self slot.call (sym (ap (λ (z : CallState). z.ended) (same slot)) ∙ goes))

  slot_place : (calls : List CallSlot) (i : ℕ) (o : Option CallSlot) → slice_get calls i ≡ o → AreTrimmed calls (changed_slot_at f calls i o)
  slot_place calls i None e = trimmed_same calls
  slot_place calls i (Some slot) e = put_trimmed calls i slot (f slot) e (beside_self slot)

  slot_on : (calls : List CallSlot) (o : Option ℕ) → AreTrimmed calls (changed_slot_on f calls o)
  slot_on calls None = trimmed_same calls
  slot_on calls (Some i) = slot_place calls i (slice_get calls i) refl

  pub beside_trimmed : (calls : List CallSlot) (number : ℕ) → AreTrimmed calls (changed_slot f calls number)
  beside_trimmed calls number = slot_on calls (index_at number (length calls))
