-- The attempt for which most was written is the row that has least left to send.
use Rattle.std.proofs.Common.{◌≡◌, ◌≤◌, ◌<◌, ◌-◌, ◌==◌, ◌∷◌, ◌&&◌, ◌||◌, ap, arith, length-drop, refl, subst, sym, ◌∙◌, Bool, true, false, List, [], Option, None, Some, ℕ, cond, drop, filter, if◌then◌else◌, is_some, length, map, nat_lt}
use Rattle.std.proofs.lemmas.Bool.{eq-eqb, eqb-false, eqb-true, le-ltb, lt-ltb, ltb-false, ltb-true, ne_eqb}
use Rattle.std.proofs.lemmas.Bool.Decides.{nat_tests}
use Rattle.std.specs.Option.{option_map, option_map_or}
use Rattle.attempt_buffer.specs.Buffers.{Buffered, is_open, taken_by, text_of}
use Rattle.call_actions.specs.Sees.{is_live, live_row, live_rows}
use Rattle.call_core.specs.Parts as parts
use Rattle.call_core.specs.Parts.{furthest_from, further_than, ready_of}
use Rattle.call_core.specs.declared.live.LiveRow.{LiveRow}
use Rattle.grpc_frame.specs.Messages.{framed_all}
use Rattle.session_actions.specs.Attempts.{is_of, is_outstanding, is_queued}
use Rattle.session_actions.specs.Commitments.{furthest, is_further}
use Rattle.session_actions.specs.Words.{earlier, foremost}
use Rattle.session_actions.specs.Writing.{drained}
use Rattle.session_actions.specs.declared.attempt.Attempt.{Attempt}
use Rattle.session_actions.specs.declared.call.Call.{Call}
use Rattle.session_actions.specs.declared.seen.Seen.{Seen}
use Rattle.call_actions.specs.TakeActions.Serves.{AttemptsAreFed, IsFed}

-- who comes first among three: the more was written, and the lower the number of equals
abbrev pub before : ℕ → ℕ → ℕ → ℕ → Bool
before x m y n = nat_lt y x || ((x == y) && nat_lt m n)

pub before_all : (x m y n z k : ℕ) → before z k x m ≡ true → before x m y n ≡ true → before z k y n ≡ true
before_all x m y n z k one two = grind (arith, nat_tests, one, two)

pub before_none : (x m y n z k : ℕ) → before z k x m ≡ false → before x m y n ≡ false → before z k y n ≡ false
before_none x m y n z k one two = grind (arith, nat_tests, one, two)

-- less is left where more was written
pub less_by : (n x y : ℕ) → x ≤ n → y ≤ n → (b : Bool) → nat_lt y x ≡ b → nat_lt (n - x) (n - y) ≡ b
less_by n x y p q true e = let less : y < x = ltb-true y x e in lt-ltb (n - x) (n - y) (omega (arith, p, q, less))
less_by n x y p q false e = let less : x ≤ y = ltb-false y x e in le-ltb (n - x) (n - y) (omega (arith, p, q, less))

pub same_by : (n x y : ℕ) → x ≤ n → y ≤ n → (b : Bool) → (x == y) ≡ b → (n - x == n - y) ≡ b
same_by n x y p q true e = let same : x ≡ y = eqb-true x y e in eq-eqb (n - x) (n - y) (omega (arith, p, q, same))
same_by n x y p q false e = ne_eqb (n - x) (n - y) (λ same. eqb-false x y e (omega (arith, p, q, same)))

-- the best so far, and then the others
abbrev pub best_of : Seen → Option Attempt → List Attempt → Option Attempt
best_of s o [] = o
best_of s None (x ∷ xs) = best_of s (Some x) xs
best_of s (Some y) (x ∷ xs) = best_of s (Some (if is_further s x y then x else y)) xs

module _ (s : Seen) where
  pub pick_by : (x y z : Attempt) (p q : Bool) → is_further s x y ≡ p → is_further s z x ≡ q
      → (if is_further s z (if p then x else y) then z else (if p then x else y)) ≡ (if is_further s (if q then z else x) y then (if q then z else x) else y)
  pick_by x y z true true ep eq =
      let er : is_further s z y ≡ true
      = before_all (drained x s) x.row.number (drained y s) y.row.number (drained z s) z.row.number eq ep in
      ap (λ (b : Bool). if b then z else x) eq ∙ sym (ap (λ (b : Bool). if b then z else y) er)
  pick_by x y z true false ep eq = ap (λ (b : Bool). if b then z else x) eq ∙ sym (ap (λ (b : Bool). if b then x else y) ep)
  pick_by x y z false true ep eq = refl
  pick_by x y z false false ep eq =
      let er : is_further s z y ≡ false
      = before_none (drained x s) x.row.number (drained y s) y.row.number (drained z s) z.row.number eq ep in
      ap (λ (b : Bool). if b then z else y) er ∙ sym (ap (λ (b : Bool). if b then x else y) ep)

  pub pick : (y x : Attempt) (o : Option Attempt) → earlier (is_further s) (if is_further s x y then x else y) o ≡ earlier (is_further s) y (Some (earlier (is_further s) x o))
  pick y x None = refl
  pick y x (Some z) = pick_by x y z (is_further s x y) (is_further s z x) refl refl

  pub best_some : (y : Attempt) (xs : List Attempt) → best_of s (Some y) xs ≡ Some (earlier (is_further s) y (foremost (is_further s) xs))
  best_some y [] = refl
  best_some y (x ∷ xs) =
      best_some (if is_further s x y then x else y) xs ∙ ap (λ (a : Attempt). Some a) (pick y x (foremost (is_further s) xs))

  pub best_none : (xs : List Attempt) → best_of s None xs ≡ foremost (is_further s) xs
  best_none [] = refl
  best_none (x ∷ xs) = best_some x xs

-- an attempt that is outstanding, as the channel has it
pub record IsFine (s : Seen) (c : Call) (b : Buffered) (a : Attempt) : Type 0 where
  pub open_now : is_open a.place b ≡ true
  pub ready : ready_of a.place b ≡ length (framed_all c.messages) - drained a s
  pub within : drained a s ≤ length (framed_all c.messages)

abbrev pub IfFine : Seen → Call → Buffered → Option Attempt → Type 0
IfFine s c b None = Unit {0}
IfFine s c b (Some a) = IsFine s c b a

module _ (s : Seen) (c : Call) (b : Buffered) where
  abbrev pub Fed : Attempt → Option ℕ → Bool → Type 0
  Fed a o t = IsFed o (text_of b) t (drained a s) (framed_all c.messages)

  pub fine_by : (a : Attempt) (o : Option ℕ) → taken_by a.place b ≡ o → Fed a o true → IsFine s c b a
  fine_by a None e fed = absurd fed
  fine_by a (Some taken) e fed = record {
    open_now = ap is_some e;
    ready = ap (λ (o : Option ℕ). length (option_map_or (λ (t : ℕ). drop t (text_of b)) o [])) e ∙ ap length fed.left ∙ length-drop (drained a s) (framed_all c.messages);
    within = fed.within_all;
  }

  pub fine : (a : Attempt) → is_outstanding a ≡ true → Fed a (taken_by a.place b) (is_outstanding a) → IsFine s c b a
  fine a out fed = fine_by a (taken_by a.place b) refl (subst (Fed a (taken_by a.place b)) out fed)

  pub shut_by : (a : Attempt) (o : Option ℕ) → taken_by a.place b ≡ o → Fed a o false → is_open a.place b ≡ false
  shut_by a None e fed = ap is_some e
  shut_by a (Some taken) e fed = absurd fed

  pub shut : (a : Attempt) → is_outstanding a ≡ false → Fed a (taken_by a.place b) (is_outstanding a) → is_open a.place b ≡ false
  shut a out fed = shut_by a (taken_by a.place b) refl (subst (Fed a (taken_by a.place b)) out fed)

  pub same_further : (a k : Attempt) → IsFine s c b a → IsFine s c b k → parts.is_further b (live_row a) (live_row k) ≡ is_further s a k
  same_further a k fa fk =
      let n : ℕ = length (framed_all c.messages) in
      let x : ℕ = drained a s in
      let y : ℕ = drained k s in
      let lower : Bool = nat_lt a.row.number k.row.number in
      ap (λ (r : ℕ). nat_lt r (ready_of k.place b) || ((r == ready_of k.place b) && lower)) fa.ready
      ∙ ap (λ (r : ℕ). nat_lt (n - x) r || ((n - x == r) && lower)) fk.ready
      ∙ ap (λ (t : Bool). t || ((n - x == n - y) && lower)) (less_by n x y fa.within fk.within (nat_lt y x) refl)
      ∙ ap (λ (t : Bool). nat_lt y x || (t && lower)) (same_by n x y fa.within fk.within (x == y) refl)

  pub row_if : (x y : Attempt) (t : Bool) → ◌≡◌ {A = Option LiveRow} (if t then Some (live_row x) else Some (live_row y)) (Some (live_row (if t then x else y)))
  row_if x y true = refl
  row_if x y false = refl

  pub fine_if : (x y : Attempt) (t : Bool) → IsFine s c b x → IsFine s c b y → IsFine s c b (if t then x else y)
  fine_if x y true fx fy = fx
  fine_if x y false fx fy = fy

  abbrev pub Chains : List Attempt → Type 0
  Chains xs =
      AttemptsAreFed s c b (filter (is_of c) xs) → (o : Option Attempt) → IfFine s c b o
      → furthest_from b (option_map live_row o) (map live_row (filter (is_live s c) xs))
      ≡ option_map live_row (best_of s o (filter (λ (a : Attempt). is_of c a && is_outstanding a) xs))

  pub chain_open : (x : Attempt) (xs : List Attempt) → Chains xs → IsFine s c b x → AttemptsAreFed s c b (filter (is_of c) xs) → (o : Option Attempt) → IfFine s c b o
      → furthest_from b (option_map live_row o) (live_row x ∷ map live_row (filter (is_live s c) xs))
      ≡ option_map live_row (best_of s o (x ∷ filter (λ (a : Attempt). is_of c a && is_outstanding a) xs))
  chain_open x xs rest fx fed None fo =
      let rows : List LiveRow = map live_row (filter (is_live s c) xs) in
      ap (λ (t : Bool). furthest_from b (if t then further_than b None (live_row x) else None) rows) fx.open_now ∙ rest fed (Some x) fx
  chain_open x xs rest fx fed (Some y) fy =
      let rows : List LiveRow = map live_row (filter (is_live s c) xs) in
      ap (λ (t : Bool). furthest_from b (if t then further_than b (Some (live_row y)) (live_row x) else Some (live_row y)) rows) fx.open_now
      ∙ ap (λ (t : Bool). furthest_from b (if t then Some (live_row x) else Some (live_row y)) rows) (same_further x y fx fy)
      ∙ ap (λ (o : Option LiveRow). furthest_from b o rows) (row_if x y (is_further s x y))
      ∙ rest fed (Some (if is_further s x y then x else y)) (fine_if x y (is_further s x y) fx fy)

  pub chain_by : (x : Attempt) (xs : List Attempt) → Chains xs → (p q r : Bool) → is_outstanding x ≡ q
      → AttemptsAreFed s c b (cond p (x ∷ filter (is_of c) xs) (filter (is_of c) xs)) → (o : Option Attempt) → IfFine s c b o
      → furthest_from b (option_map live_row o) (map live_row (cond (p && (q || r)) (x ∷ filter (is_live s c) xs) (filter (is_live s c) xs)))
      ≡ option_map live_row (best_of s o (cond (p && q) (x ∷ filter (λ (a : Attempt). is_of c a && is_outstanding a) xs) (filter (λ (a : Attempt). is_of c a && is_outstanding a) xs)))
  chain_by x xs rest false q r out fed o fo = rest fed o fo
  chain_by x xs rest true true r out fed o fo = chain_open x xs rest (fine x out fed.0) fed.1 o fo
  chain_by x xs rest true false true out fed o fo =
      let rows : List LiveRow = map live_row (filter (is_live s c) xs) in
      ap (λ (t : Bool). furthest_from b (if t then further_than b (option_map live_row o) (live_row x) else option_map live_row o) rows) (shut x out fed.0)
      ∙ rest fed.1 o fo
  chain_by x xs rest true false false out fed o fo = rest fed.1 o fo

  pub chain : (xs : List Attempt) → Chains xs
  chain [] fed o fo = refl
  chain (x ∷ xs) fed o fo = chain_by x xs (chain xs) (is_of c x) (is_outstanding x) (is_queued x s) refl fed o fo

  pub place_of : (o : Option Attempt) → option_map (λ (row : LiveRow). row.place) (option_map live_row o) ≡ option_map (λ (a : Attempt). a.place) o
  place_of None = refl
  place_of (Some a) = refl

  pub furthest_is : AttemptsAreFed s c b (filter (is_of c) s.attempts) → parts.furthest b (live_rows s c) ≡ option_map (λ (a : Attempt). a.place) (furthest c s)
  furthest_is fed =
      let outstanding : List Attempt = filter (λ (a : Attempt). is_of c a && is_outstanding a) s.attempts in
      ap (option_map (λ (row : LiveRow). row.place)) (chain s.attempts fed None tt)
      ∙ place_of (best_of s None outstanding) ∙ ap (option_map (λ (a : Attempt). a.place)) (best_none s outstanding)
