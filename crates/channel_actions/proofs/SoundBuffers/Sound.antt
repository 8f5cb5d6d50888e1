-- The buffer of a call that holds its messages soundly is sound beside any session that it agrees with.
use Rattle.std.proofs.Common.{◌≡◌, ◌&&◌, ◌==◌, ap, refl, subst, sym, ◌∙◌, Bool, true, false, List, [], ◌∷◌, Option, None, Some, ℕ, zero, suc, cond, filter, if◌then◌else◌, is_some, slice_get}
use Rattle.std.proofs.lemmas.Bool.{and_parts, both_ways, eq-eqb}
use Rattle.std.specs.List.{AllByRecursion}
use Rattle.std.specs.Option.{option_map, option_or}
use Rattle.attempt_buffer.specs.Buffers.{Buffered, Committed, Cursor, taken_by, taken_from, text_of}
use Rattle.call_actions.specs.TakeActions.Serves.{Holds, IsFed}
use Rattle.channel_actions.specs.Calls.{HasSlot}
use Rattle.channel_actions.proofs.SoundBuffers.Carried.{each_holds_soundly}
use Rattle.channel_actions.specs.SoundBuffers.Held.{HoldsSoundly}
use Rattle.channel_actions.specs.SoundBuffers.Laws.{BuffersAreSoundIn}
use Rattle.channel_core.specs.declared.state.slots.CallSlot.{CallSlot}
use Rattle.grpc_frame.specs.Messages.{framed_all}
use Rattle.session_actions.specs.Attempts.{commitment, is_commitment, is_of, is_outstanding}
use Rattle.session_actions.specs.Words.{find_last}
use Rattle.session_actions.specs.Writing.{drained}
use Rattle.session_actions.specs.declared.attempt.Attempt.{Attempt}
use Rattle.session_actions.specs.declared.call.Call.{Call}
use Rattle.session_actions.specs.declared.seen.Seen.{Seen}

-- the last that passes is one of the list, and passes
pub record IsOne (T : Attempt → Bool) (xs : List Attempt) (x : Attempt) : Type 0 where
  pub index : ℕ
  pub here : slice_get xs index ≡ Some x
  pub passes : T x ≡ true

one_by : (T : Attempt → Bool) (y x : Attempt) (xs : List Attempt) (b : Bool) (o : Option Attempt) → T y ≡ b → option_or o (if b then Some y else None) ≡ Some x
    → (o ≡ Some x → IsOne T xs x) → IsOne T (y ∷ xs) x
one_by T y x xs true None is e rest = let one : y ≡ x = (cc) in record { index = 0; here = e; passes = ap T (sym one) ∙ is }
one_by T y x xs false None is e rest = absurd (cc)
one_by T y x xs b (Some z) is e rest = let one : IsOne T xs x = rest e in record { index = suc one.index; here = one.here; passes = one.passes }

last_in : (T : Attempt → Bool) (xs : List Attempt) (x : Attempt) → find_last T xs ≡ Some x → IsOne T xs x
last_in T [] x e = absurd (cc)
last_in T (y ∷ xs) x e = one_by T y x xs (T y) (find_last T xs) refl e (λ f. last_in T xs x f)

-- what the session says of one attempt of the call
module _ (P : Attempt → Type 0) (p : Attempt → Bool) where
  in_by : (a x : Attempt) (xs : List Attempt) (b : Bool) → p x ≡ b → x ≡ a → p a ≡ true → AllByRecursion P (cond b (x ∷ filter p xs) (filter p xs)) → P a
  in_by a x xs true e same passes all = subst P same all.0
  in_by a x xs false e same passes all = absurd (both_ways (p a) (sym (ap p same) ∙ e) passes)

  skip_by : (x : Attempt) (xs : List Attempt) (b : Bool) → AllByRecursion P (cond b (x ∷ filter p xs) (filter p xs)) → AllByRecursion P (filter p xs)
  skip_by x xs true all = all.1
  skip_by x xs false all = all

  pub all_in : (xs : List Attempt) (i : ℕ) (a : Attempt) → slice_get xs i ≡ Some a → p a ≡ true → AllByRecursion P (filter p xs) → P a
  all_in [] i a at passes all = absurd (cc)
  all_in (x ∷ xs) zero a at passes all = in_by a x xs (p x) refl (let same : x ≡ a = (cc) in same) passes all
  all_in (x ∷ xs) (suc i) a at passes all = all_in xs i a at passes (skip_by x xs (p x) all)

pub fed_some : (o : Option ℕ) (text : List ℕ) (out : Bool) (n : ℕ) (all : List ℕ) → IsFed o text out n all → out ≡ is_some o
fed_some None text false n all h = refl
fed_some None text true n all h = absurd h
fed_some (Some t) text false n all h = absurd h
fed_some (Some t) text true n all h = refl

module _ (s : Seen) (c : Call) (committed : Option ℕ) (b : Buffered) (holds : Holds s c b)
    (alone : (m : Committed) → b.committed ≡ Some m → b.cursors ≡ []) (row : (m : Committed) → b.committed ≡ Some m → m.is_open ≡ true → committed ≡ Some m.row)
    (places : option_map (λ (k : Attempt). k.place) (commitment c s) ≡ committed) where
  pub same_row : (m : Committed) (k : Attempt) → commitment c s ≡ Some k → b.committed ≡ Some m → m.is_open ≡ true → m.row ≡ k.place
  same_row m k free is goes =
      let two : Some m.row ≡ Some k.place = sym (row m is goes) ∙ sym places ∙ ap (option_map (λ (z : Attempt). z.place)) free in (cc)

  -- whether it goes on is whether its row is open
  out_is : (k : Attempt) → commitment c s ≡ Some k → is_outstanding k ≡ is_some (taken_by k.place b)
  out_is k free =
      let one : IsOne (λ (a : Attempt). is_commitment c a) s.attempts k = last_in (λ (a : Attempt). is_commitment c a) s.attempts k free in
      let mine : is_of c k ≡ true = (and_parts (is_of c k) (is_some k.row.committed) one.passes).0 in
      fed_some (taken_by k.place b) (text_of b) (is_outstanding k) (drained k s) (framed_all c.messages)
      (all_in (λ (a : Attempt). IsFed (taken_by a.place b) (text_of b) (is_outstanding a) (drained a s) (framed_all c.messages)) (is_of c) s.attempts one.index k one.here mine holds.fed)

  open_is : (m : Committed) (k : Attempt) (q : Bool) → m.is_open ≡ q → commitment c s ≡ Some k → b.committed ≡ Some m → is_some (taken_by k.place b) ≡ q
  open_is m k true e free is =
      ap (λ (o : Option Committed). is_some (taken_from k.place b.cursors o)) is
      ∙ ap (λ (z : Bool). is_some (if z && (m.row == k.place) then Some m.taken else taken_from k.place b.cursors None)) e
      ∙ ap (λ (z : Bool). is_some (if z then Some m.taken else taken_from k.place b.cursors None)) (eq-eqb m.row k.place (same_row m k free is e))
  open_is m k false e free is =
      ap (λ (o : Option Committed). is_some (taken_from k.place b.cursors o)) is
      ∙ ap (λ (z : Bool). is_some (if z && (m.row == k.place) then Some m.taken else taken_from k.place b.cursors None)) e
      ∙ ap (λ (cs : List Cursor). is_some (taken_from k.place cs None)) (alone m is)

  pub goes_on : (m : Committed) (k : Attempt) → commitment c s ≡ Some k → b.committed ≡ Some m → is_outstanding k ≡ m.is_open
  goes_on m k free is = out_is k free ∙ open_is m k m.is_open refl free is

same_slot : (a z : CallSlot) → Some a ≡ Some z → a ≡ z
same_slot a z e = (cc)

pub buffers_are_sound_in : BuffersAreSoundIn
buffers_are_sound_in x s number c slot h sound there at goes =
    let has : HasSlot x s c number = h.calls.each number c there in
    let one : has.slot ≡ slot = same_slot has.slot slot (sym has.there ∙ at) in
    let own : HoldsSoundly slot.call = each_holds_soundly x number slot sound at in
    let held : Holds s c slot.call.buffer = subst (λ (z : CallSlot). Holds s c z.call.buffer) one (has.sees.serves.holds goes) in
    let places : option_map (λ (k : Attempt). k.place) (commitment c s) ≡ slot.call.attempts.committed
    = has.sees.serves.sees.attempts.committed ∙ ap (λ (z : CallSlot). z.call.attempts.committed) one in
    record {
      within = own.within;
      alone = own.alone;
      rows = same_row s c slot.call.attempts.committed slot.call.buffer held own.alone own.row places;
      goes = goes_on s c slot.call.attempts.committed slot.call.buffer held own.alone own.row places;
    }
