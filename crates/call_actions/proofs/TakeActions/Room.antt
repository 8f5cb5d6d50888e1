-- Whether a call has room for a message, and what it holds after it: the same in session and channel.
use Rattle.std.proofs.Common.{◌≡◌, ◌≤◌, ◌<◌, ◌+◌, ◌-◌, ◌∷◌, ◌++◌, ◌||◌, append-nil, ap, arith, length-append, length-drop, not, refl, subst, sym, ◌∙◌, Bool, true, false, List, [], Option, None, Some, Result, Ok, Err, ℕ, suc, filter, if◌then◌else◌, is_some, length, nat_le, nat_lt}
use Rattle.std.proofs.Math.Dec.{eqb-suc-zero}
use Rattle.std.proofs.lemmas.Bool.{le-leb, lt-leb, ltb-false, ltb-true}
use Rattle.std.proofs.lemmas.List.{drop-append-le}
use Rattle.std.proofs.lemmas.List.Concat.{flat_map-append}
use Rattle.std.proofs.lemmas.List.Folds.{concat-append}
use Rattle.std.specs.List.{AllByRecursion, concat}
use Rattle.std.specs.Option.{option_map, option_map_or}
use Rattle.attempt_buffer.specs.Buffers.{Buffered, Committed, appended, committed_to, held, is_open, push_answer, taken_by, text_of}
use Rattle.attempt_buffer.specs.declared.buffer.Pushed.{Pushed}
use Rattle.attempt_buffer.specs.declared.buffer.Pushed.TheVariants as pushed
use Rattle.attempt_buffer.specs.declared.buffer.PushFault.{PushFault}
use Rattle.attempt_buffer.specs.declared.buffer.PushFault.TheVariants as fault
use Rattle.call_core.specs.Parts as parts
use Rattle.call_core.specs.Parts.{committed_buffer, has_room, is_over, pushed_buffer, pushed_by, pushed_over}
use Rattle.call_core.specs.Steps.{Stepped}
use Rattle.grpc_frame.specs.Messages.{framed, framed_all}
use Rattle.session_actions.specs.Attempts.{commitment, is_of, is_outstanding}
use Rattle.session_actions.specs.Commitments.{furthest}
use Rattle.session_actions.specs.Deliveries.{held_bytes, is_accepted}
use Rattle.session_actions.specs.Writing.{drained}
use Rattle.session_actions.specs.declared.attempt.Attempt.{Attempt}
use Rattle.session_actions.specs.declared.call.Call.{Call}
use Rattle.session_actions.specs.declared.seen.Seen.{Seen}
use Rattle.call_actions.proofs.TakeActions.Furthest.{furthest_is}
use Rattle.call_actions.proofs.TakeActions.Maps.{all_by}
use Rattle.call_actions.specs.TakeActions.Serves.{Holds, IsAt, IsFed, Serves, drained_so_far, passed}

-- the prefix of a message has five bytes
pub framed_length : (m : List ℕ) → length (framed m) ≡ length m + 5
framed_length m = let long : suc (suc (suc (suc (suc (length m))))) ≡ length m + 5 = omega arith in long

-- what is held
pub held_by : (text : List ℕ) (o : Option Committed) → option_map_or (λ (k : Committed). length text - k.taken) o (length text) ≡ length text - option_map_or (λ (k : Committed). k.taken) o 0
held_by text None = omega arith
held_by text (Some k) = refl

pub held_is : (s : Seen) (c : Call) (b : Buffered) → Holds s c b → held b ≡ held_bytes c s
held_is s c b h =
    held_by (text_of b) b.committed ∙ sym (length-drop (passed b) (text_of b)) ∙ ap length h.held.left ∙ length-drop (drained_so_far c s) (framed_all c.messages)

-- the same test of room
pub or_turned : (x y : Bool) → (x || y) ≡ (y || x)
or_turned true true = refl
or_turned true false = refl
or_turned false true = refl
or_turned false false = refl

pub some_by : (o : Option Attempt) → is_some (option_map (λ (a : Attempt). a.place) o) ≡ is_some o
some_by None = refl
some_by (Some a) = refl

module _ (s : Seen) (c : Call) (x : Stepped) (h : Serves s c x) (k : Holds s c x.call.buffer) where
  abbrev pub row_now : Option ℕ
  row_now = parts.furthest x.call.buffer x.call.live

  pub committed_is : is_some x.call.attempts.committed ≡ is_some (commitment c s)
  committed_is =
      ap (λ (o : Option ℕ). is_some o) (sym h.sees.attempts.committed) ∙ some_by (commitment c s)

  pub row_is : row_now ≡ option_map (λ (a : Attempt). a.place) (furthest c s)
  row_is = ap (parts.furthest x.call.buffer) (sym h.sees.live) ∙ furthest_is s c x.call.buffer k.fed

  pub outstanding_is : is_some row_now ≡ is_some (furthest c s)
  outstanding_is = ap (λ (o : Option ℕ). is_some o) row_is ∙ some_by (furthest c s)

  pub fits_is : (m : List ℕ) (any : Bool) → (any || nat_le (length m + 5 + held_bytes c s) 262144) ≡ (nat_le (held_bytes c s + length (framed m)) 262144 || any)
  fits_is m any =
      let long : length (framed m) ≡ length m + 5 = framed_length m in
      let same : length m + 5 + held_bytes c s ≡ held_bytes c s + length (framed m) = omega (arith, long) in
      ap (λ (n : ℕ). any || nat_le n 262144) same ∙ or_turned any (nat_le (held_bytes c s + length (framed m)) 262144)

  pub room_is : (m : List ℕ) → has_room (is_some x.call.attempts.committed) (is_some row_now) (held x.call.buffer) (length m) ≡ is_accepted c m s
  room_is m =
      ap (λ (t : Bool). has_room t (is_some row_now) (held x.call.buffer) (length m)) committed_is
      ∙ ap (λ (t : Bool). has_room (is_some (commitment c s)) t (held x.call.buffer) (length m)) outstanding_is
      ∙ ap (λ (n : ℕ). has_room (is_some (commitment c s)) (is_some (furthest c s)) n (length m)) (held_is s c x.call.buffer k)
      ∙ ap (λ (t : Bool). if is_some (commitment c s) then nat_lt (held_bytes c s) 65536 else t) (fits_is m (is_some (furthest c s)))

-- a message that was accepted, and that does not commit the call, is kept after all others
pub low_by : (n : ℕ) (t : Bool) → nat_lt n 65536 ≡ t → nat_le 65536 n ≡ not (nat_lt n 65536)
low_by n true e =
    let low : n < 65536 = ltb-true n 65536 e in lt-leb 65536 n low ∙ sym (ap not e)
low_by n false e =
    let high : 65536 ≤ n = ltb-false n 65536 e in le-leb 65536 n high ∙ sym (ap not e)

pub not_low : (n : ℕ) → nat_le 65536 n ≡ not (nat_lt n 65536)
not_low n = low_by n (nat_lt n 65536) refl

pub kept_by : (k low fits any : Bool) (full : PushFault) → (if k then low else (any || fits)) ≡ true
    → is_over (if k then (if not low then Err full else Ok pushed.Kept) else if fits then Ok pushed.Kept else if any then Ok pushed.Overflow else Err full) ≡ false
    → (if k then (if not low then Err full else Ok pushed.Kept) else if fits then Ok pushed.Kept else if any then Ok pushed.Overflow else Err full) ≡ Ok pushed.Kept
kept_by true true fits any full room over = refl
kept_by true false fits any full room over = absurd (cc)
kept_by false low true any full room over = refl
kept_by false low false true full room over = absurd (cc)
kept_by false low false false full room over = absurd (cc)

module _ (b : Buffered) (m : List ℕ) (row : Option ℕ) where
  abbrev pub fits_now : Bool
  fits_now = nat_le (held b + length (framed m)) 262144

  -- the answer, by the tests of room
  pub answer_is : push_answer b (length (framed m)) row
      ≡ (if is_some b.committed then (if not (nat_lt (held b) 65536) then Err (fault.Full (held b)) else Ok pushed.Kept)
      else if fits_now then Ok pushed.Kept else if is_some row then Ok pushed.Overflow else Err (fault.Full (held b)))
  answer_is =
      ap (λ (t : Bool). if is_some b.committed then (if t then Err (fault.Full (held b)) else Ok pushed.Kept)
      else if fits_now then Ok pushed.Kept else if is_some row then Ok pushed.Overflow else Err (fault.Full (held b))) (not_low (held b))

  pub room_by : (if is_some b.committed then nat_lt (held b) 65536 else (is_some row || fits_now)) ≡ has_room (is_some b.committed) (is_some row) (held b) (length m)
  room_by =
      let long : length (framed m) ≡ length m + 5 = framed_length m in
      let same : held b + length (framed m) ≡ length m + 5 + held b = omega (arith, long) in
      ap (λ (n : ℕ). if is_some b.committed then nat_lt (held b) 65536 else (is_some row || nat_le n 262144)) same

  pub answer_kept : has_room (is_some b.committed) (is_some row) (held b) (length m) ≡ true → pushed_over b (framed m) row ≡ false
      → push_answer b (length (framed m)) row ≡ Ok pushed.Kept
  answer_kept room over =
      answer_is
      ∙ kept_by (is_some b.committed) (nat_lt (held b) 65536) fits_now (is_some row) (fault.Full (held b)) (room_by ∙ room) (sym (ap is_over answer_is) ∙ over)

  pub more_is : appended (framed m) b ≡ record b { messages = b.messages ++ framed m ∷ [] }
  more_is = ap (λ (t : Bool). if t then b else record b { messages = b.messages ++ framed m ∷ [] }) (eqb-suc-zero (suc (suc (suc (suc (length m))))))

  pub pushed_is : has_room (is_some b.committed) (is_some row) (held b) (length m) ≡ true → pushed_over b (framed m) row ≡ false
      → pushed_buffer b (framed m) row ≡ record b { messages = b.messages ++ framed m ∷ [] }
  pushed_is room over = ap (pushed_by b (framed m) row) (answer_kept room over) ∙ more_is

-- one that commits the call did not fit
pub over_by : (k low fits any : Bool) (full : PushFault)
    → is_over (if k then (if not low then Err full else Ok pushed.Kept) else if fits then Ok pushed.Kept else if any then Ok pushed.Overflow else Err full) ≡ true
    → fits ≡ false
over_by true true fits any full over = absurd (cc)
over_by true false fits any full over = absurd (cc)
over_by false low true any full over = absurd (cc)
over_by false low false any full over = refl

pub over_only : (r : Result Pushed PushFault) → is_over r ≡ true → r ≡ Ok pushed.Overflow
over_only (Ok pushed.Overflow) e = refl
over_only (Ok pushed.Kept) e = absurd (cc)
over_only (Err full) e = absurd (cc)

module _ (b : Buffered) (m : List ℕ) (row : ℕ) (over : pushed_over b (framed m) (Some row) ≡ true) where
  pub no_fit : nat_le (held b + length (framed m)) 262144 ≡ false
  no_fit =
      over_by (is_some b.committed) (nat_lt (held b) 65536) (nat_le (held b + length (framed m)) 262144) true (fault.Full (held b))
      (sym (ap is_over (answer_is b m (Some row))) ∙ over)

  pub over_is : is_open row b ≡ true → pushed_buffer b (framed m) (Some row) ≡ committed_buffer row (record b { messages = b.messages ++ framed m ∷ [] })
  over_is open_now =
      let longer : Buffered = record b { messages = b.messages ++ framed m ∷ [] } in
      ap (pushed_by b (framed m) (Some row)) (over_only (push_answer b (length (framed m)) (Some row)) over)
      ∙ ap (committed_to row) (more_is b m (Some row))
      ∙ sym (ap (λ (t : Bool). if t then committed_to row longer else longer) open_now)

-- both have the same bytes more after the same place
pub at_more : (t : ℕ) (text : List ℕ) (d : ℕ) (all more : List ℕ) → IsAt t text d all → IsAt t (text ++ more) d (all ++ more)
at_more t text d all more h =
    let within : t ≤ length text = h.within in
    let within_all : d ≤ length all = h.within_all in
    let long : length (text ++ more) ≡ length text + length more = length-append text more in
    let long_all : length (all ++ more) ≡ length all + length more = length-append all more in
    record {
      left = drop-append-le t text more within ∙ ap (λ (l : List ℕ). l ++ more) h.left ∙ sym (drop-append-le d all more within_all);
      within = omega (arith, within, long);
      within_all = omega (arith, within_all, long_all);
    }

pub fed_more : (o : Option ℕ) (text : List ℕ) (t : Bool) (d : ℕ) (all more : List ℕ) → IsFed o text t d all → IsFed o (text ++ more) t d (all ++ more)
fed_more None text false d all more h = tt
fed_more None text true d all more h = absurd h
fed_more (Some taken) text false d all more h = absurd h
fed_more (Some taken) text true d all more h = at_more taken text d all more h

pub text_more : (messages : List (List ℕ)) (more : List ℕ) → concat (messages ++ more ∷ []) ≡ concat messages ++ more
text_more messages more = concat-append messages (more ∷ []) ∙ ap (λ (l : List ℕ). concat messages ++ l) (append-nil more)

pub framed_more : (messages : List (List ℕ)) (m : List ℕ) → framed_all (messages ++ m ∷ []) ≡ framed_all messages ++ framed m
framed_more messages m =
    flat_map-append framed messages (m ∷ []) ∙ ap (λ (l : List ℕ). framed_all messages ++ l) (append-nil (framed m))

module _ (s : Seen) (c : Call) (b : Buffered) (m : List ℕ) (h : Holds s c b) where
  abbrev pub longer_buffer : Buffered
  longer_buffer = record b { messages = b.messages ++ framed m ∷ [] }

  abbrev pub FedAll : List ℕ → List ℕ → Type 0
  FedAll text all = AllByRecursion (λ (a : Attempt). IsFed (taken_by a.place b) text (is_outstanding a) (drained a s) all) (filter (is_of c) s.attempts)

  pub fed_longer : FedAll (text_of longer_buffer) (framed_all (c.messages ++ m ∷ []))
  fed_longer =
      let more : FedAll (text_of b ++ framed m) (framed_all c.messages ++ framed m)
      = all_by (λ (a : Attempt). IsFed (taken_by a.place b) (text_of b) (is_outstanding a) (drained a s) (framed_all c.messages))
      (λ (a : Attempt). IsFed (taken_by a.place b) (text_of b ++ framed m) (is_outstanding a) (drained a s) (framed_all c.messages ++ framed m))
      (λ a f. fed_more (taken_by a.place b) (text_of b) (is_outstanding a) (drained a s) (framed_all c.messages) (framed m) f) (filter (is_of c) s.attempts) h.fed in
      subst (λ (text : List ℕ). FedAll text (framed_all (c.messages ++ m ∷ []))) (sym (text_more b.messages (framed m)))
      (subst (FedAll (text_of b ++ framed m)) (sym (framed_more c.messages m)) more)

  pub held_longer : IsAt (passed b) (text_of longer_buffer) (drained_so_far c s) (framed_all (c.messages ++ m ∷ []))
  held_longer =
      subst (λ (text : List ℕ). IsAt (passed b) text (drained_so_far c s) (framed_all (c.messages ++ m ∷ []))) (sym (text_more b.messages (framed m)))
      (subst (IsAt (passed b) (text_of b ++ framed m) (drained_so_far c s)) (sym (framed_more c.messages m))
      (at_more (passed b) (text_of b) (drained_so_far c s) (framed_all c.messages) (framed m) h.held))
