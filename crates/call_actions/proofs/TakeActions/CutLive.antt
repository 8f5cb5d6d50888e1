-- The committed attempt is the only one of its call that is left; and the tokens are as before.
use Rattle.std.proofs.Common.{◌≡◌, ◌<◌, ◌+◌, ◌==◌, ◌∷◌, ◌&&◌, ◌||◌, not, ap, arith, refl, sym, ◌∙◌, Bool, true, false, List, [], Option, None, Some, ℕ, zero, suc, cond, filter, if◌then◌else◌, is_none, is_some, map, slice_get}
use Rattle.std.proofs.lemmas.Bool.{and_right, eq-eqb, eqb-false, eqb-true, ne_eqb, or_parts}
use Rattle.std.specs.List.{AllByRecursion, list_any}
use Rattle.std.specs.Option.{option_map, option_or}
use Rattle.attempt_ledger.specs.declared.ledger.CallEnd.{CallEnd}
use Rattle.call_actions.proofs.Lists.{changed_here}
use Rattle.call_actions.specs.Sees.{is_live, live_row, live_rows}
use Rattle.call_core.specs.Parts.{kept_alone}
use Rattle.call_core.specs.declared.live.LiveRow.{LiveRow}
use Rattle.session_actions.specs.Attempts.{commitment, is_commitment, is_of, is_outstanding, is_over, is_over_in, is_queued}
use Rattle.session_actions.specs.Words.{changed, find_last, holds, numbered}
use Rattle.session_actions.specs.declared.attempt.Attempt.{Attempt}
use Rattle.session_actions.specs.declared.call.Call.{Call}
use Rattle.session_actions.specs.declared.call.Mark.{Mark}
use Rattle.session_actions.specs.declared.entry.OpenEntry.{OpenEntry}
use Rattle.session_actions.specs.declared.seen.Seen.{Seen}
use Rattle.call_actions.proofs.TakeActions.CutAttempts.{becomes, end_by_cut, finally, gone_by, half, is_cut_off, stamp_of}
use Rattle.call_actions.proofs.TakeActions.Maps.{all_both, all_by, kept_map}
use Rattle.call_actions.specs.TakeActions.Cuts.{CanCommit, is_twin}
use Rattle.call_actions.specs.TakeActions.Serves.{AttemptsStandInPlace}

-- the one of a place
module _ (k : Attempt) where
  pub past : (m : ℕ) (xs : List Attempt) → AttemptsStandInPlace m xs → k.place < m → AllByRecursion (λ (a : Attempt). (k.place == a.place) ≡ true → a ≡ k) xs
  past m [] p l = tt
  past m (x ∷ xs) p l =
      let at : x.place ≡ m = p.0 in
      let next : k.place < suc m = omega (arith, l) in
      ((λ e. absurd (let same : k.place ≡ x.place = eqb-true k.place x.place e in let no : ⊥ = omega (arith, same, at, l) in no)), past (suc m) xs p.1 next)

  pub only_from : (n i : ℕ) (xs : List Attempt) → AttemptsStandInPlace n xs → k.place ≡ n + i → slice_get xs i ≡ Some k
      → AllByRecursion (λ (a : Attempt). (k.place == a.place) ≡ true → a ≡ k) xs
  only_from n i [] p e got = tt
  only_from n zero (x ∷ xs) p e got =
      let one : x ≡ k = (cc) in
      let next : k.place < suc n = omega (arith, e) in
      ((λ f. one), past (suc n) xs p.1 next)
  only_from n (suc i) (x ∷ xs) p e got =
      let at : x.place ≡ n = p.0 in
      let next : k.place ≡ suc n + i = omega (arith, e) in (
        (λ f. absurd (let same : k.place ≡ x.place = eqb-true k.place x.place f in let no : ⊥ = omega (arith, same, at, e) in no)),
        only_from (suc n) i xs p.1 next got,
      )

  pub only_by : (m : ℕ) (xs : List Attempt) → AttemptsStandInPlace 1 xs → k.place ≡ m → numbered xs m ≡ Some k
      → AllByRecursion (λ (a : Attempt). (k.place == a.place) ≡ true → a ≡ k) xs
  only_by zero xs p e got = absurd (cc)
  only_by (suc i) xs p e got = let at : k.place ≡ 1 + i = omega (arith, e) in only_from 1 i xs p at got

  pub only_it : (xs : List Attempt) → AttemptsStandInPlace 1 xs → numbered xs k.place ≡ Some k → AllByRecursion (λ (a : Attempt). (k.place == a.place) ≡ true → a ≡ k) xs
  only_it xs p got = only_by k.place xs p refl got

  -- the last one of a test that this one alone passes
  pub none_past : (old : Attempt → Bool) (m : ℕ) (xs : List Attempt) → ((a : Attempt) → (k.place == a.place) ≡ false → old a ≡ false) → AttemptsStandInPlace m xs → k.place < m
      → find_last old xs ≡ None
  none_past old m [] off p l = refl
  none_past old m (x ∷ xs) off p l =
      let at : x.place ≡ m = p.0 in
      let next : k.place < suc m = omega (arith, l) in
      let away : k.place ≡ x.place → ⊥ = λ same. omega (arith, same, at, l) in
      ap (λ (o : Option Attempt). option_or o (if old x then Some x else None)) (none_past old (suc m) xs off p.1 next)
      ∙ ap (λ (b : Bool). if b then Some x else None) (off x (ne_eqb k.place x.place away))

  pub last_from : (old : Attempt → Bool) (n i : ℕ) (xs : List Attempt) → ((a : Attempt) → (k.place == a.place) ≡ false → old a ≡ false) → old k ≡ true
      → AttemptsStandInPlace n xs → k.place ≡ n + i → slice_get xs i ≡ Some k → find_last old xs ≡ Some k
  last_from old n i [] off here p e got = absurd (cc)
  last_from old n zero (x ∷ xs) off here p e got =
      let one : x ≡ k = (cc) in
      let next : k.place < suc n = omega (arith, e) in
      ap (λ (o : Option Attempt). option_or o (if old x then Some x else None)) (none_past old (suc n) xs off p.1 next)
      ∙ ap (λ (z : Attempt). if old z then Some z else None) one ∙ ap (λ (b : Bool). if b then Some k else None) here
  last_from old n (suc i) (x ∷ xs) off here p e got =
      let next : k.place ≡ suc n + i = omega (arith, e) in
      ap (λ (o : Option Attempt). option_or o (if old x then Some x else None)) (last_from old (suc n) i xs off here p.1 next got)

  pub last_by : (old : Attempt → Bool) (m : ℕ) (xs : List Attempt) → ((a : Attempt) → (k.place == a.place) ≡ false → old a ≡ false) → old k ≡ true
      → AttemptsStandInPlace 1 xs → k.place ≡ m → numbered xs m ≡ Some k → find_last old xs ≡ Some k
  last_by old zero xs off here p e got = absurd (cc)
  last_by old (suc i) xs off here p e got = let at : k.place ≡ 1 + i = omega (arith, e) in last_from old 1 i xs off here p at got

  pub last_it : (old : Attempt → Bool) (xs : List Attempt) → ((a : Attempt) → (k.place == a.place) ≡ false → old a ≡ false) → old k ≡ true
      → AttemptsStandInPlace 1 xs → numbered xs k.place ≡ Some k → find_last old xs ≡ Some k
  last_it old xs off here p got = last_by old k.place xs off here p refl got

-- none passes, where there is no last one
pub fails_if : {X : Type 0} (b : Bool) (x : X) → (if b then Some x else None) ≡ None → b ≡ false
fails_if true x e = absurd (cc)
fails_if false x e = refl

pub all_fail_by : {X : Type 0} (test : X → Bool) (x : X) (xs : List X) (o : Option X) → find_last test xs ≡ o → option_or o (if test x then Some x else None) ≡ None
    → (find_last test xs ≡ None) × (test x ≡ false)
all_fail_by test x xs None f e = (f, fails_if (test x) x e)
all_fail_by test x xs (Some y) f e = absurd (cc)

pub all_fail : {X : Type 0} (test : X → Bool) (xs : List X) → find_last test xs ≡ None → AllByRecursion (λ (x : X). test x ≡ false) xs
all_fail test [] e = tt
all_fail test (x ∷ xs) e =
    let both : (find_last test xs ≡ None) × (test x ≡ false) = all_fail_by test x xs (find_last test xs) refl e in (both.1, all_fail test xs both.0)

pub last_if : {X Y : Type 0} (f : X → Y) (x : X) (o : Option X) (b : Bool) → option_or (option_map f o) (if b then Some (f x) else None) ≡ option_map f (option_or o (if b then Some x else None))
last_if f x None true = refl
last_if f x None false = refl
last_if f x (Some y) b = refl

pub last_map : {X Y : Type 0} (test : Y → Bool) (old : X → Bool) (f : X → Y) (xs : List X) → AllByRecursion (λ (x : X). test (f x) ≡ old x) xs
    → find_last test (map f xs) ≡ option_map f (find_last old xs)
last_map test old f [] same = refl
last_map test old f (x ∷ xs) same =
    ap (λ (o : Option _). option_or o (if test (f x) then Some (f x) else None)) (last_map test old f xs same.1)
    ∙ ap (λ (b : Bool). option_or (option_map f (find_last old xs)) (if b then Some (f x) else None)) same.0
    ∙ last_if f x (find_last old xs) (old x)

pub none_any : {X : Type 0} (test : X → Bool) (xs : List X) → list_any test xs ≡ false → AllByRecursion (λ (x : X). test x ≡ false) xs
none_any test [] e = tt
none_any test (x ∷ xs) e =
    let both : (test x ≡ false) × (list_any test xs ≡ false) = or_parts (test x) (list_any test xs) e in (both.0, none_any test xs both.1)

-- tests: whether an attempt is placed, has not ended, has the number, has the place
pub cut_bools : (ps en nu pl : Bool) → (pl ≡ true → nu ≡ true) → (pl ≡ true → (ps && en) ≡ true)
    → (((ps && en) || ((not ps && en) && true)) && nu && not pl) ≡ false
    → ((ps && en) && not nu) ≡ (((ps && en) || ((not ps && en) && true)) && (not pl && ps))
cut_bools true true true true one two three = refl
cut_bools true true true false one two three = absurd (cc)
cut_bools true true false true one two three = absurd (let no : false ≡ true = one refl in cc)
cut_bools true true false false one two three = refl
cut_bools true false nu pl one two three = refl
cut_bools false true nu true one two three = absurd (let no : false ≡ true = two refl in cc)
cut_bools false true true false one two three = absurd (cc)
cut_bools false true false false one two three = refl
cut_bools false false nu pl one two three = refl

pub live_bools : (ps en nu pl : Bool) → (pl ≡ true → nu ≡ true) → (pl ≡ true → (ps && en) ≡ true)
    → (((ps && en) || ((not ps && en) && true)) && nu && not pl) ≡ false
    → ((ps && (if (ps && en) && not nu then false else en)) || ((not ps && (if (ps && en) && not nu then false else en)) && not (not nu)))
    ≡ (((ps && en) || ((not ps && en) && true)) && pl)
live_bools true true true true one two three = refl
live_bools true true true false one two three = absurd (cc)
live_bools true true false true one two three = absurd (let no : false ≡ true = one refl in cc)
live_bools true true false false one two three = refl
live_bools true false nu pl one two three = refl
live_bools false true nu true one two three = absurd (let no : false ≡ true = two refl in cc)
live_bools false true true false one two three = absurd (cc)
live_bools false true false false one two three = refl
live_bools false false nu pl one two three = refl

pub going_bools : (ps en nu pl : Bool) → (pl ≡ true → nu ≡ true) → (pl ≡ true → (ps && en) ≡ true)
    → (((ps && en) || ((not ps && en) && true)) && nu && not pl) ≡ false
    → (ps && (if (ps && en) && not nu then false else en)) ≡ ((ps && en) && pl)
going_bools true true true true one two three = refl
going_bools true true true false one two three = absurd (cc)
going_bools true true false true one two three = absurd (let no : false ≡ true = one refl in cc)
going_bools true true false false one two three = refl
going_bools true false nu pl one two three = refl
going_bools false en nu pl one two three = refl

pub none_if : {X : Type 0} (b : Bool) (x : X) (o : Option X) → is_none (if b then Some x else o) ≡ (if b then false else is_none o)
none_if true x o = refl
none_if false x o = refl

pub holds_of : {X : Type 0} (test : X → Bool) (o : Option X) (x : X) → o ≡ Some x → holds test o ≡ test x
holds_of test o x e = ap (holds test) e

-- the call is committed to this attempt, whatever else became of its attempts
pub committed_if : (mine here : Bool) (entry : ℕ) (o : Option ℕ) → (mine && is_some o) ≡ false → (mine && is_some (if here then Some entry else o)) ≡ (mine && here)
committed_if true true entry o e = refl
committed_if true false entry o e = e
committed_if false here entry o e = refl

module _ (s : Seen) (c : Call) (k : Attempt) (h : CanCommit s c k) (places : AttemptsStandInPlace 1 s.attempts) (entry : ℕ) where
  pub committed_last : (f : Attempt → Attempt) → ((a : Attempt) → (f a).row.call ≡ a.row.call) → ((a : Attempt) → (f a).row.committed ≡ stamp_of entry k a)
      → find_last (is_commitment c) (map f s.attempts) ≡ Some (f k)
  committed_last f call stamp =
      let old : Attempt → Bool = λ (a : Attempt). is_of c a && (k.place == a.place) in
      let each : (a : Attempt) → is_commitment c a ≡ false → is_commitment c (f a) ≡ old a
      = λ a e. ap (λ (n : ℕ). (n == c.number) && is_some (f a).row.committed) (call a) ∙ ap (λ (o : Option ℕ). is_of c a && is_some o) (stamp a)
      ∙ committed_if (is_of c a) (k.place == a.place) entry a.row.committed e in
      last_map (is_commitment c) old f s.attempts
      (all_by (λ (a : Attempt). is_commitment c a ≡ false) (λ (a : Attempt). is_commitment c (f a) ≡ old a) each s.attempts (all_fail (is_commitment c) s.attempts h.free))
      ∙ ap (option_map f)
      (last_it k old s.attempts (λ a e. ap (λ (b : Bool). is_of c a && b) e ∙ and_right (is_of c a) false refl)
      (ap (λ (b : Bool). b && (k.place == k.place)) h.mine ∙ eq-eqb k.place k.place refl) places h.at)

  pub half_commitment : find_last (is_commitment c) (map (λ (a : Attempt). record a { row = half (stamp_of entry k) a }) s.attempts) ≡ Some (record k { row = half (stamp_of entry k) k })
  half_commitment = committed_last (λ (a : Attempt). record a { row = half (stamp_of entry k) a }) (λ a. refl) (λ a. refl)

module _ (s : Seen) (c : Call) (k : Attempt) (h : CanCommit s c k) (own : numbered s.calls c.number ≡ Some c) (places : AttemptsStandInPlace 1 s.attempts)
    (entry moment : ℕ) (tokens : Option ℕ) (marks : List Mark) (current : Option OpenEntry) where
  abbrev pub made_final : Attempt → Attempt
  made_final a = finally entry moment tokens s c k a

  abbrev pub then_cut : Seen
  then_cut = record s { attempts = map made_final s.attempts; calls = changed (becomes c.end marks) c.number s.calls; current = current }

  abbrev pub cut_call : Call
  cut_call = becomes c.end marks c

  pub own_now : numbered then_cut.calls c.number ≡ Some cut_call
  own_now = changed_here (becomes c.end marks) c.number s.calls c own

  -- it is committed to this attempt
  pub commitment_is : commitment cut_call then_cut ≡ Some (made_final k)
  commitment_is = committed_last s c k h places entry made_final (λ a. refl) (λ a. refl)

  -- which attempts are over
  pub over_before : (a : Attempt) → is_of c a ≡ true → is_over a s ≡ false
  over_before a e =
      let call : a.row.call ≡ c.number = eqb-true a.row.call c.number e in
      ap (λ (n : ℕ). holds (λ (d : Call). is_over_in d a s) (numbered s.calls n)) call ∙ holds_of (λ (d : Call). is_over_in d a s) (numbered s.calls c.number) c own
      ∙ ap (λ (o : Option CallEnd). is_some o || holds (λ (q : Attempt). not (q.row.number == a.row.number)) (commitment c s)) h.open_now
      ∙ ap (λ (o : Option Attempt). holds (λ (q : Attempt). not (q.row.number == a.row.number)) o) h.free

  pub over_after : (a : Attempt) → is_of c a ≡ true → is_over (made_final a) then_cut ≡ not (k.row.number == a.row.number)
  over_after a e =
      let call : a.row.call ≡ c.number = eqb-true a.row.call c.number e in
      ap (λ (n : ℕ). holds (λ (d : Call). is_over_in d (made_final a) then_cut) (numbered then_cut.calls n)) call
      ∙ holds_of (λ (d : Call). is_over_in d (made_final a) then_cut) (numbered then_cut.calls c.number) cut_call own_now
      ∙ ap (λ (o : Option CallEnd). is_some o || holds (λ (q : Attempt). not (q.row.number == a.row.number)) (commitment cut_call then_cut)) h.open_now
      ∙ ap (λ (o : Option Attempt). holds (λ (q : Attempt). not (q.row.number == a.row.number)) o) commitment_is

  -- what is known of each attempt
  pub record Known (a : Attempt) : Type 0 where
    pub one : is_of c a ≡ true → (k.place == a.place) ≡ true → (k.row.number == a.row.number) ≡ true
    pub two : is_of c a ≡ true → (k.place == a.place) ≡ true → is_outstanding a ≡ true
    pub three : is_twin s c k a ≡ false

  pub known : AllByRecursion Known s.attempts
  known =
      all_both (λ (a : Attempt). (k.place == a.place) ≡ true → a ≡ k) (λ (a : Attempt). is_twin s c k a ≡ false) Known
      (λ a f t. record {
        one = λ mine e. eq-eqb k.row.number a.row.number (ap (λ (z : Attempt). z.row.number) (sym (f e)));
        two = λ mine e. ap is_outstanding (f e) ∙ h.outstanding;
        three = t;
      }) s.attempts (only_it k s.attempts places h.at) (none_any (is_twin s c k) s.attempts h.alone)

  -- the tests of one attempt of the call
  pub live_before : (a : Attempt) → is_of c a ≡ true
      → is_live s c a ≡ ((is_some a.row.placed && is_none a.row.ended) || ((not (is_some a.row.placed) && is_none a.row.ended) && true))
  live_before a e =
      ap (λ (b : Bool). b && (is_outstanding a || is_queued a s)) e
      ∙ ap (λ (b : Bool). is_outstanding a || ((is_none a.row.placed && is_none a.row.ended) && not b)) (over_before a e)

  pub twin_of : (a : Attempt) → is_of c a ≡ true → Known a
      → (((is_some a.row.placed && is_none a.row.ended) || ((not (is_some a.row.placed) && is_none a.row.ended) && true)) && (k.row.number == a.row.number) && not (k.place == a.place)) ≡ false
  twin_of a e t = ap (λ (b : Bool). b && (k.row.number == a.row.number) && not (k.place == a.place)) (sym (live_before a e)) ∙ t.three

  pub live_mine : (a : Attempt) → Known a → is_of c a ≡ true → is_live then_cut cut_call (made_final a) ≡ (is_live s c a && (k.place == a.place))
  live_mine a t e =
      let ps : Bool = is_some a.row.placed in
      let en : Bool = is_none a.row.ended in
      let nu : Bool = k.row.number == a.row.number in
      let pl : Bool = k.place == a.place in
      let ended : is_none (made_final a).row.ended ≡ (if (ps && en) && not nu then false else en)
      = none_if (is_cut_off c.number (gone_by k) a) (end_by_cut entry moment tokens s a) a.row.ended
      ∙ ap (λ (b : Bool). if b && ((ps && en) && not nu) then false else en) e in
      ap (λ (b : Bool). b && (is_outstanding (made_final a) || is_queued (made_final a) then_cut)) e
      ∙ ap (λ (b : Bool). is_outstanding (made_final a) || ((is_none a.row.placed && is_none (made_final a).row.ended) && not b)) (over_after a e)
      ∙ ap (λ (b : Bool). (ps && b) || ((not ps && b) && not (not nu))) ended
      ∙ live_bools ps en nu pl (t.one e) (t.two e) (twin_of a e t) ∙ ap (λ (b : Bool). b && pl) (sym (live_before a e))

  pub going_mine : (a : Attempt) → Known a → is_of c a ≡ true → is_outstanding (made_final a) ≡ (is_outstanding a && (k.place == a.place))
  going_mine a t e =
      let ps : Bool = is_some a.row.placed in
      let en : Bool = is_none a.row.ended in
      let nu : Bool = k.row.number == a.row.number in
      let ended : is_none (made_final a).row.ended ≡ (if (ps && en) && not nu then false else en)
      = none_if (is_cut_off c.number (gone_by k) a) (end_by_cut entry moment tokens s a) a.row.ended
      ∙ ap (λ (b : Bool). if b && ((ps && en) && not nu) then false else en) e in
      ap (λ (b : Bool). ps && b) ended ∙ going_bools ps en nu (k.place == a.place) (t.one e) (t.two e) (twin_of a e t)

  pub going_cut : AllByRecursion (λ (a : Attempt). is_of c a ≡ true → is_outstanding (made_final a) ≡ (is_outstanding a && (k.place == a.place))) s.attempts
  going_cut =
      all_by Known (λ (a : Attempt). is_of c a ≡ true → is_outstanding (made_final a) ≡ (is_outstanding a && (k.place == a.place)))
      (λ a t. going_mine a t) s.attempts known

  pub live_other : (a : Attempt) → is_of c a ≡ false → is_live then_cut cut_call (made_final a) ≡ (is_live s c a && (k.place == a.place))
  live_other a e =
      ap (λ (b : Bool). b && (is_outstanding (made_final a) || is_queued (made_final a) then_cut)) e
      ∙ sym (ap (λ (b : Bool). (b && (is_outstanding a || is_queued a s)) && (k.place == a.place)) e)

  pub live_one : (a : Attempt) → Known a → (b : Bool) → is_of c a ≡ b → is_live then_cut cut_call (made_final a) ≡ (is_live s c a && (k.place == a.place))
  live_one a t true e = live_mine a t e
  live_one a t false e = live_other a e

  pub cut_mine : (a : Attempt) → Known a → is_of c a ≡ true → is_cut_off c.number (gone_by k) a ≡ (is_live s c a && (not (k.place == a.place) && is_some a.row.placed))
  cut_mine a t e =
      let ps : Bool = is_some a.row.placed in
      let en : Bool = is_none a.row.ended in
      ap (λ (b : Bool). b && ((ps && en) && not (k.row.number == a.row.number))) e
      ∙ cut_bools ps en (k.row.number == a.row.number) (k.place == a.place) (t.one e) (t.two e) (twin_of a e t)
      ∙ ap (λ (b : Bool). b && (not (k.place == a.place) && ps)) (sym (live_before a e))

  pub cut_one : (a : Attempt) → Known a → (b : Bool) → is_of c a ≡ b → is_cut_off c.number (gone_by k) a ≡ (is_live s c a && (not (k.place == a.place) && is_some a.row.placed))
  cut_one a t true e = cut_mine a t e
  cut_one a t false e =
      ap (λ (b : Bool). b && (is_outstanding a && not (k.row.number == a.row.number))) e
      ∙ sym (ap (λ (b : Bool). (b && (is_outstanding a || is_queued a s)) && (not (k.place == a.place) && is_some a.row.placed)) e)

  pub cuts_are : AllByRecursion (λ (a : Attempt). is_cut_off c.number (gone_by k) a ≡ (is_live s c a && (not (k.place == a.place) && is_some a.row.placed))) s.attempts
  cuts_are =
      all_by Known (λ (a : Attempt). is_cut_off c.number (gone_by k) a ≡ (is_live s c a && (not (k.place == a.place) && is_some a.row.placed)))
      (λ a t. cut_one a t (is_of c a) refl) s.attempts known

  -- the live rows
  pub turned : (m n : ℕ) (b : Bool) → (m == n) ≡ b → (n == m) ≡ b
  turned m n true e = eq-eqb n m (sym (eqb-true m n e))
  turned m n false e = ne_eqb n m (λ same. eqb-false m n e (sym same))

  pub alone_by : (a : Attempt) (xs : List Attempt) (b t : Bool) → (k.place == a.place) ≡ t
      → kept_alone k.place (map live_row (filter (is_live s c) xs)) ≡ map live_row (filter (λ (q : Attempt). is_live s c q && (k.place == q.place)) xs)
      → kept_alone k.place (map live_row (cond b (a ∷ filter (is_live s c) xs) (filter (is_live s c) xs)))
      ≡ map live_row (cond (b && t) (a ∷ filter (λ (q : Attempt). is_live s c q && (k.place == q.place)) xs) (filter (λ (q : Attempt). is_live s c q && (k.place == q.place)) xs))
  alone_by a xs true true e rest =
      let rows : List LiveRow = map live_row (filter (is_live s c) xs) in
      ap (λ (z : Bool). cond z (live_row a ∷ kept_alone k.place rows) (kept_alone k.place rows)) (turned k.place a.place true e) ∙ ap (λ (l : List LiveRow). live_row a ∷ l) rest
  alone_by a xs true false e rest =
      let rows : List LiveRow = map live_row (filter (is_live s c) xs) in
      ap (λ (z : Bool). cond z (live_row a ∷ kept_alone k.place rows) (kept_alone k.place rows)) (turned k.place a.place false e) ∙ rest
  alone_by a xs false t e rest = rest

  pub alone_is : (xs : List Attempt) → kept_alone k.place (map live_row (filter (is_live s c) xs)) ≡ map live_row (filter (λ (q : Attempt). is_live s c q && (k.place == q.place)) xs)
  alone_is [] = refl
  alone_is (a ∷ xs) =
      alone_by a xs (is_live s c a) (k.place == a.place) refl (alone_is xs)

  pub live_cut : live_rows then_cut cut_call ≡ kept_alone k.place (live_rows s c)
  live_cut =
      kept_map (is_live then_cut cut_call) (λ (q : Attempt). is_live s c q && (k.place == q.place)) made_final live_row s.attempts
      (all_by Known (λ (a : Attempt). is_live then_cut cut_call (made_final a) ≡ (is_live s c a && (k.place == a.place))) (λ a t. live_one a t (is_of c a) refl) s.attempts known)
      ∙ sym (alone_is s.attempts)
