-- A call is committed to an attempt that has ended: none of its attempts is left.
use Rattle.std.proofs.Common.{◌≡◌, ◌==◌, ◌∷◌, ◌&&◌, ◌||◌, not, ap, refl, sym, ◌∙◌, Bool, true, false, List, [], Option, Some, ℕ, cond, filter, if◌then◌else◌, is_none, is_some, map}
use Rattle.std.proofs.lemmas.Bool.{and_right, eq-eqb, eqb-false, eqb-true, ne_eqb}
use Rattle.std.specs.List.{AllByRecursion}
use Rattle.std.specs.Option.{option_map}
use Rattle.attempt_ledger.specs.declared.ledger.CallEnd.{CallEnd}
use Rattle.call_actions.proofs.Lists.{changed_here}
use Rattle.call_actions.specs.Sees.{is_live, live_row, live_rows}
use Rattle.call_core.specs.Parts.{kept_alone}
use Rattle.call_core.specs.declared.live.LiveRow.{LiveRow}
use Rattle.call_actions.specs.LastEnds.Laws.{CanClose}
use Rattle.session_actions.specs.Attempts.{commitment, is_commitment, is_of, is_outstanding, is_over, is_over_in, is_queued}
use Rattle.session_actions.specs.Words.{changed, find_last, holds, numbered}
use Rattle.session_actions.specs.declared.attempt.Attempt.{Attempt}
use Rattle.session_actions.specs.declared.call.Call.{Call}
use Rattle.session_actions.specs.declared.call.Mark.{Mark}
use Rattle.session_actions.specs.declared.entry.OpenEntry.{OpenEntry}
use Rattle.session_actions.specs.declared.seen.Seen.{Seen}
use Rattle.call_actions.proofs.TakeActions.CutAttempts.{becomes, end_by_cut, finally, gone_by, half, is_cut_off, stamp_of}
use Rattle.call_actions.proofs.TakeActions.CutLive.{all_fail, committed_if, holds_of, last_it, last_map, none_any, none_if, only_it}
use Rattle.call_actions.proofs.TakeActions.Maps.{all_both, all_by, kept_map}
use Rattle.call_actions.specs.TakeActions.Cuts.{is_twin}
use Rattle.call_actions.specs.TakeActions.Serves.{AttemptsStandInPlace}

-- tests: whether an attempt is placed, has not ended, has the number, has the place
cut_bools : (ps en nu pl : Bool) → (pl ≡ true → nu ≡ true) → (((ps && en) || ((not ps && en) && true)) && nu && not pl) ≡ false
    → ((ps && en) && not nu) ≡ (((ps && en) || ((not ps && en) && true)) && (not pl && ps))
cut_bools true true true true one three = refl
cut_bools true true true false one three = absurd (cc)
cut_bools true true false true one three = absurd (let no : false ≡ true = one refl in cc)
cut_bools true true false false one three = refl
cut_bools true false nu pl one three = refl
cut_bools false true nu true one three = refl
cut_bools false true true false one three = absurd (cc)
cut_bools false true false false one three = refl
cut_bools false false nu pl one three = refl

live_bools : (ps en nu pl : Bool) → (pl ≡ true → en ≡ false) → (((ps && en) || ((not ps && en) && true)) && nu && not pl) ≡ false
    → ((ps && (if (ps && en) && not nu then false else en)) || ((not ps && (if (ps && en) && not nu then false else en)) && not (not nu)))
    ≡ (((ps && en) || ((not ps && en) && true)) && pl)
live_bools ps true nu true two three = absurd (let no : true ≡ false = two refl in cc)
live_bools true true true false two three = absurd (cc)
live_bools true true false false two three = refl
live_bools true false true pl two three = refl
live_bools true false false pl two three = refl
live_bools false true true false two three = absurd (cc)
live_bools false true false false two three = refl
live_bools false false nu pl two three = refl

-- tests: whether it is of the call, placed, has not ended, is not over, has the place
gone_bools : (mine ps en z pl : Bool) → (pl ≡ true → en ≡ false) → ((mine && ((ps && en) || ((not ps && en) && z))) && pl) ≡ false
gone_bools false ps en z pl two = refl
gone_bools true ps true z true two = absurd (let no : true ≡ false = two refl in cc)
gone_bools true true true z false two = refl
gone_bools true false true true false two = refl
gone_bools true false true false false two = refl
gone_bools true true false z pl two = refl
gone_bools true false false z pl two = refl

turned : (m n : ℕ) (b : Bool) → (m == n) ≡ b → (n == m) ≡ b
turned m n true e = eq-eqb n m (sym (eqb-true m n e))
turned m n false e = ne_eqb n m (λ same. eqb-false m n e (sym same))

none_if_all : (p : Attempt → Bool) (xs : List Attempt) → AllByRecursion (λ (a : Attempt). p a ≡ false) xs → filter p xs ≡ []
none_if_all p [] all = refl
none_if_all p (a ∷ xs) all = ap (λ (b : Bool). cond b (a ∷ filter p xs) (filter p xs)) all.0 ∙ none_if_all p xs all.1

module _ (s : Seen) (c : Call) (k : Attempt) (h : CanClose s c k) (places : AttemptsStandInPlace 1 s.attempts) (entry : ℕ) where
  pub committed_last : (f : Attempt → Attempt) → ((a : Attempt) → (f a).row.call ≡ a.row.call) → ((a : Attempt) → (f a).row.committed ≡ stamp_of entry k a)
      → find_last (is_commitment c) (map f s.attempts) ≡ Some (f k)
  committed_last f call stamp =
      let old : Attempt → Bool = λ (a : Attempt). is_of c a && (k.place == a.place) in
      let each : (a : Attempt) → is_commitment c a ≡ false → is_commitment c (f a) ≡ old a
      = λ a e. ap (λ (n : ℕ). (n == c.number) && is_some (f a).row.committed) (call a) ∙ ap (λ (o : Option ℕ). is_of c a && is_some o) (stamp a)
      ∙ committed_if (is_of c a) (k.place == a.place) entry a.row.committed e in
      last_map (is_commitment c) old f s.attempts
      (all_by (λ (a : Attempt). is_commitment c a ≡ false) (λ (a : Attempt). is_commitment c (f a) ≡ old a) each s.attempts (all_fail (is_commitment c) s.attempts h.free))
      ∙ ap (option_map f)
      (last_it k old s.attempts (λ a e. ap (λ (b : Bool). is_of c a && b) e ∙ and_right (is_of c a) false refl)
      (ap (λ (b : Bool). b && (k.place == k.place)) h.mine ∙ eq-eqb k.place k.place refl) places h.at)

  pub half_commitment : find_last (is_commitment c) (map (λ (a : Attempt). record a { row = half (stamp_of entry k) a }) s.attempts) ≡ Some (record k { row = half (stamp_of entry k) k })
  half_commitment = committed_last (λ (a : Attempt). record a { row = half (stamp_of entry k) a }) (λ a. refl) (λ a. refl)

module _ (s : Seen) (c : Call) (k : Attempt) (h : CanClose s c k) (own : numbered s.calls c.number ≡ Some c) (places : AttemptsStandInPlace 1 s.attempts)
    (entry moment : ℕ) (tokens : Option ℕ) (marks : List Mark) (current : Option OpenEntry) where
  abbrev pub made_final : Attempt → Attempt
  made_final a = finally entry moment tokens s c k a

  abbrev pub then_cut : Seen
  then_cut = record s { attempts = map made_final s.attempts; calls = changed (becomes c.end marks) c.number s.calls; current = current }

  abbrev pub cut_call : Call
  cut_call = becomes c.end marks c

  pub own_now : numbered then_cut.calls c.number ≡ Some cut_call
  own_now = changed_here (becomes c.end marks) c.number s.calls c own

  -- it is committed to this attempt
  pub commitment_is : commitment cut_call then_cut ≡ Some (made_final k)
  commitment_is = committed_last s c k h places entry made_final (λ a. refl) (λ a. refl)

  -- which attempts are over
  pub over_before : (a : Attempt) → is_of c a ≡ true → is_over a s ≡ false
  over_before a e =
      let call : a.row.call ≡ c.number = eqb-true a.row.call c.number e in
      ap (λ (n : ℕ). holds (λ (d : Call). is_over_in d a s) (numbered s.calls n)) call ∙ holds_of (λ (d : Call). is_over_in d a s) (numbered s.calls c.number) c own
      ∙ ap (λ (o : Option CallEnd). is_some o || holds (λ (q : Attempt). not (q.row.number == a.row.number)) (commitment c s)) h.open_now
      ∙ ap (λ (o : Option Attempt). holds (λ (q : Attempt). not (q.row.number == a.row.number)) o) h.free

  pub over_after : (a : Attempt) → is_of c a ≡ true → is_over (made_final a) then_cut ≡ not (k.row.number == a.row.number)
  over_after a e =
      let call : a.row.call ≡ c.number = eqb-true a.row.call c.number e in
      ap (λ (n : ℕ). holds (λ (d : Call). is_over_in d (made_final a) then_cut) (numbered then_cut.calls n)) call
      ∙ holds_of (λ (d : Call). is_over_in d (made_final a) then_cut) (numbered then_cut.calls c.number) cut_call own_now
      ∙ ap (λ (o : Option CallEnd). is_some o || holds (λ (q : Attempt). not (q.row.number == a.row.number)) (commitment cut_call then_cut)) h.open_now
      ∙ ap (λ (o : Option Attempt). holds (λ (q : Attempt). not (q.row.number == a.row.number)) o) commitment_is

  -- what is known of each attempt
  pub record Known (a : Attempt) : Type 0 where
    pub one : is_of c a ≡ true → (k.place == a.place) ≡ true → (k.row.number == a.row.number) ≡ true
    pub two : (k.place == a.place) ≡ true → is_none a.row.ended ≡ false
    pub three : is_twin s c k a ≡ false

  pub known : AllByRecursion Known s.attempts
  known =
      all_both (λ (a : Attempt). (k.place == a.place) ≡ true → a ≡ k) (λ (a : Attempt). is_twin s c k a ≡ false) Known
      (λ a f t. record {
        one = λ mine e. eq-eqb k.row.number a.row.number (ap (λ (z : Attempt). z.row.number) (sym (f e)));
        two = λ e. ap (λ (z : Attempt). is_none z.row.ended) (f e) ∙ h.over;
        three = t;
      }) s.attempts (only_it k s.attempts places h.at) (none_any (is_twin s c k) s.attempts h.alone)

  -- the tests of one attempt of the call
  pub live_before : (a : Attempt) → is_of c a ≡ true
      → is_live s c a ≡ ((is_some a.row.placed && is_none a.row.ended) || ((not (is_some a.row.placed) && is_none a.row.ended) && true))
  live_before a e =
      ap (λ (b : Bool). b && (is_outstanding a || is_queued a s)) e
      ∙ ap (λ (b : Bool). is_outstanding a || ((is_none a.row.placed && is_none a.row.ended) && not b)) (over_before a e)

  pub twin_of : (a : Attempt) → is_of c a ≡ true → Known a
      → (((is_some a.row.placed && is_none a.row.ended) || ((not (is_some a.row.placed) && is_none a.row.ended) && true)) && (k.row.number == a.row.number) && not (k.place == a.place)) ≡ false
  twin_of a e t = ap (λ (b : Bool). b && (k.row.number == a.row.number) && not (k.place == a.place)) (sym (live_before a e)) ∙ t.three

  pub live_mine : (a : Attempt) → Known a → is_of c a ≡ true → is_live then_cut cut_call (made_final a) ≡ (is_live s c a && (k.place == a.place))
  live_mine a t e =
      let ps : Bool = is_some a.row.placed in
      let en : Bool = is_none a.row.ended in
      let nu : Bool = k.row.number == a.row.number in
      let pl : Bool = k.place == a.place in
      let ended : is_none (made_final a).row.ended ≡ (if (ps && en) && not nu then false else en)
      = none_if (is_cut_off c.number (gone_by k) a) (end_by_cut entry moment tokens s a) a.row.ended
      ∙ ap (λ (b : Bool). if b && ((ps && en) && not nu) then false else en) e in
      ap (λ (b : Bool). b && (is_outstanding (made_final a) || is_queued (made_final a) then_cut)) e
      ∙ ap (λ (b : Bool). is_outstanding (made_final a) || ((is_none a.row.placed && is_none (made_final a).row.ended) && not b)) (over_after a e)
      ∙ ap (λ (b : Bool). (ps && b) || ((not ps && b) && not (not nu))) ended
      ∙ live_bools ps en nu pl t.two (twin_of a e t) ∙ ap (λ (b : Bool). b && pl) (sym (live_before a e))

  pub live_other : (a : Attempt) → is_of c a ≡ false → is_live then_cut cut_call (made_final a) ≡ (is_live s c a && (k.place == a.place))
  live_other a e =
      ap (λ (b : Bool). b && (is_outstanding (made_final a) || is_queued (made_final a) then_cut)) e
      ∙ sym (ap (λ (b : Bool). (b && (is_outstanding a || is_queued a s)) && (k.place == a.place)) e)

  pub live_one : (a : Attempt) → Known a → (b : Bool) → is_of c a ≡ b → is_live then_cut cut_call (made_final a) ≡ (is_live s c a && (k.place == a.place))
  live_one a t true e = live_mine a t e
  live_one a t false e = live_other a e

  pub cut_mine : (a : Attempt) → Known a → is_of c a ≡ true → is_cut_off c.number (gone_by k) a ≡ (is_live s c a && (not (k.place == a.place) && is_some a.row.placed))
  cut_mine a t e =
      let ps : Bool = is_some a.row.placed in
      let en : Bool = is_none a.row.ended in
      ap (λ (b : Bool). b && ((ps && en) && not (k.row.number == a.row.number))) e
      ∙ cut_bools ps en (k.row.number == a.row.number) (k.place == a.place) (t.one e) (twin_of a e t)
      ∙ ap (λ (b : Bool). b && (not (k.place == a.place) && ps)) (sym (live_before a e))

  pub cut_one : (a : Attempt) → Known a → (b : Bool) → is_of c a ≡ b → is_cut_off c.number (gone_by k) a ≡ (is_live s c a && (not (k.place == a.place) && is_some a.row.placed))
  cut_one a t true e = cut_mine a t e
  cut_one a t false e =
      ap (λ (b : Bool). b && (is_outstanding a && not (k.row.number == a.row.number))) e
      ∙ sym (ap (λ (b : Bool). (b && (is_outstanding a || is_queued a s)) && (not (k.place == a.place) && is_some a.row.placed)) e)

  pub cuts_are : AllByRecursion (λ (a : Attempt). is_cut_off c.number (gone_by k) a ≡ (is_live s c a && (not (k.place == a.place) && is_some a.row.placed))) s.attempts
  cuts_are =
      all_by Known (λ (a : Attempt). is_cut_off c.number (gone_by k) a ≡ (is_live s c a && (not (k.place == a.place) && is_some a.row.placed)))
      (λ a t. cut_one a t (is_of c a) refl) s.attempts known

  -- the live rows
  pub alone_by : (a : Attempt) (xs : List Attempt) (b t : Bool) → (k.place == a.place) ≡ t
      → kept_alone k.place (map live_row (filter (is_live s c) xs)) ≡ map live_row (filter (λ (q : Attempt). is_live s c q && (k.place == q.place)) xs)
      → kept_alone k.place (map live_row (cond b (a ∷ filter (is_live s c) xs) (filter (is_live s c) xs)))
      ≡ map live_row (cond (b && t) (a ∷ filter (λ (q : Attempt). is_live s c q && (k.place == q.place)) xs) (filter (λ (q : Attempt). is_live s c q && (k.place == q.place)) xs))
  alone_by a xs true true e rest =
      let rows : List LiveRow = map live_row (filter (is_live s c) xs) in
      ap (λ (z : Bool). cond z (live_row a ∷ kept_alone k.place rows) (kept_alone k.place rows)) (turned k.place a.place true e) ∙ ap (λ (l : List LiveRow). live_row a ∷ l) rest
  alone_by a xs true false e rest =
      let rows : List LiveRow = map live_row (filter (is_live s c) xs) in
      ap (λ (z : Bool). cond z (live_row a ∷ kept_alone k.place rows) (kept_alone k.place rows)) (turned k.place a.place false e) ∙ rest
  alone_by a xs false t e rest = rest

  pub alone_is : (xs : List Attempt) → kept_alone k.place (map live_row (filter (is_live s c) xs)) ≡ map live_row (filter (λ (q : Attempt). is_live s c q && (k.place == q.place)) xs)
  alone_is [] = refl
  alone_is (a ∷ xs) =
      alone_by a xs (is_live s c a) (k.place == a.place) refl (alone_is xs)

  pub live_cut : live_rows then_cut cut_call ≡ kept_alone k.place (live_rows s c)
  live_cut =
      kept_map (is_live then_cut cut_call) (λ (q : Attempt). is_live s c q && (k.place == q.place)) made_final live_row s.attempts
      (all_by Known (λ (a : Attempt). is_live then_cut cut_call (made_final a) ≡ (is_live s c a && (k.place == a.place))) (λ a t. live_one a t (is_of c a) refl) s.attempts known)
      ∙ sym (alone_is s.attempts)

  pub none_alone : kept_alone k.place (live_rows s c) ≡ []
  none_alone =
      alone_is s.attempts
      ∙ ap (map live_row) (none_if_all (λ (q : Attempt). is_live s c q && (k.place == q.place)) s.attempts
      (all_by Known (λ (a : Attempt). (is_live s c a && (k.place == a.place)) ≡ false)
      (λ a t. gone_bools (is_of c a) (is_some a.row.placed) (is_none a.row.ended) (not (is_over a s)) (k.place == a.place) t.two) s.attempts known))
