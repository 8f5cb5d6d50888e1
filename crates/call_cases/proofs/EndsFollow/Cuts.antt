-- The next cut of a call that has ended is the first of its attempts that is outstanding; and after it the others are left.
use Rattle.std.proofs.Common.{◌≡◌, ◌||◌, ◌&&◌, ◌==◌, ◌∷◌, not, ap, arith, refl, sym, ◌∙◌, Bool, true, false, List, [], Option, None, Some, ℕ, ◌+◌, zero, suc, cond, filter, if◌then◌else◌, is_some, slice_get, slice_set}
use Rattle.std.proofs.lemmas.Bool.{eqb-true}
use Rattle.std.specs.Option.{option_map, option_or}
use Rattle.attempt_ledger.specs.declared.row.RowEnd.{RowEnd}
use Rattle.call_actions.specs.Order.{AttemptsAreNumbered}
use Rattle.call_cases.specs.EndsFollow.Cuts.{IsOut, cut_off}
use Rattle.call_cases.specs.EndsFollow.Laws.{is_out_of}
use Rattle.session_actions.specs.Actions.{after, after_if}
use Rattle.session_actions.specs.AttemptEnds.{cut, cut_end, end_of, with_end}
use Rattle.session_actions.specs.Attempts.{call_of, commitment, is_outstanding, is_over, is_over_in}
use Rattle.session_actions.specs.Entries.{entry, now}
use Rattle.session_actions.specs.Tokens.{run_of, tokens_in}
use Rattle.session_actions.specs.Words.{changed, changed_if, first_of, holds, numbered}
use Rattle.session_actions.specs.declared.action.Action.{Action}
use Rattle.session_actions.specs.declared.action.Action.TheVariants as action
use Rattle.session_actions.specs.declared.attempt.Attempt.{Attempt}
use Rattle.session_actions.specs.declared.call.Call.{Call}
use Rattle.session_actions.specs.declared.config.ThrottleRun.{ThrottleRun}
use Rattle.session_actions.specs.declared.entry.OpenEntry.{OpenEntry}
use Rattle.session_actions.specs.declared.seen.Seen.{Seen}
use Rattle.call_actions.proofs.TakeActions.CutAttempts.{end_by_cut, ended_mark}
use Rattle.call_actions.proofs.TakeActions.CutOne.{cut_end_is, marked_also, one_is_cut, undrawn}
use Rattle.call_actions.specs.TakeActions.Cuts.{next_cut_of}

-- the call of a number has ended
pub record IsDone (number : ℕ) (v : Seen) : Type 0 where
  pub call : Call
  pub there : numbered v.calls number ≡ Some call
  pub ended : is_some call.end ≡ true

-- the first that gives something
pub record IsFirst (number : ℕ) (v : Seen) (xs : List Attempt) (act : Action) : Type 0 where
  pub attempt : Attempt
  pub index : ℕ
  pub there : slice_get xs index ≡ Some attempt
  pub own : (attempt.row.call == number) ≡ true
  pub outstanding : is_outstanding attempt ≡ true
  pub act_is : act ≡ action.AttemptEnds attempt.place (end_of attempt cut_end v)
  pub left : (e : RowEnd) → filter (is_out_of number) xs ≡ attempt ∷ filter (is_out_of number) (slice_set xs index (with_end e attempt))

module _ (number : ℕ) (v : Seen) (done : IsDone number v) where
  abbrev is_own : Attempt → Bool
  is_own a = a.row.call == number

  pub is_gone : (a : Attempt) → is_own a ≡ true → is_over a v ≡ true
  is_gone a own =
      ap (λ (n : ℕ). holds (λ (c : Call). is_over_in c a v) (numbered v.calls n)) (eqb-true a.row.call number own)
      ∙ ap (holds (λ (c : Call). is_over_in c a v)) done.there
      ∙ ap (λ (b : Bool). b || holds (λ (k : Attempt). not (k.row.number == a.row.number)) (commitment done.call v)) done.ended

  cut_is : (a : Attempt) → is_own a ≡ true → cut v a ≡ (if is_outstanding a then Some (action.AttemptEnds a.place (end_of a cut_end v)) else None)
  cut_is a own = ap (λ (b : Bool). if is_outstanding a && b then Some (action.AttemptEnds a.place (end_of a cut_end v)) else None) (is_gone a own) ∙ and_true (is_outstanding a)
    where
      and_true : (b : Bool) → (if b && true then Some (action.AttemptEnds a.place (end_of a cut_end v)) else None) ≡ (if b then Some (action.AttemptEnds a.place (end_of a cut_end v)) else None)
      and_true true = refl
      and_true false = refl

  ended_is_not : (a : Attempt) (e : RowEnd) → is_out_of number (with_end e a) ≡ false
  ended_is_not a e = never (is_own a) (is_some a.row.placed)
    where
      never : (b c : Bool) → (b && (c && false)) ≡ false
      never true true = refl
      never true false = refl
      never false c = refl

  -- an attempt before that is not cut
  skip : (x : Attempt) (xs : List Attempt) (act : Action) → is_out_of number x ≡ false → IsFirst number v xs act → IsFirst number v (x ∷ xs) act
  skip x xs act out f = record {
    attempt = f.attempt;
    index = suc f.index;
    there = f.there;
    own = f.own;
    outstanding = f.outstanding;
    act_is = f.act_is;
    left = λ e.
        ap (λ (b : Bool). cond b (x ∷ filter (is_out_of number) xs) (filter (is_out_of number) xs)) out ∙ f.left e
        ∙ sym (ap (λ (b : Bool). f.attempt ∷ cond b (x ∷ filter (is_out_of number) (slice_set xs f.index (with_end e f.attempt))) (filter (is_out_of number) (slice_set xs f.index (with_end e f.attempt)))) out);
  }

  found : (x : Attempt) (xs : List Attempt) (act : Action) → is_own x ≡ true → is_outstanding x ≡ true → Some (action.AttemptEnds x.place (end_of x cut_end v)) ≡ Some act
      → IsFirst number v (x ∷ xs) act
  found x xs act own out is = record {
    attempt = x;
    index = 0;
    there = refl;
    own = own;
    outstanding = out;
    act_is = (let same : act ≡ action.AttemptEnds x.place (end_of x cut_end v) = (cc) in same);
    left = λ e.
        ap (λ (b : Bool). cond b (x ∷ filter (is_out_of number) xs) (filter (is_out_of number) xs)) (ap (λ (b : Bool). b && is_outstanding x) own ∙ out)
        ∙ sym (ap (λ (b : Bool). x ∷ cond b (with_end e x ∷ filter (is_out_of number) xs) (filter (is_out_of number) xs)) (ended_is_not x e));
  }

  own_by : (x : Attempt) (xs : List Attempt) (act : Action) (c : Bool) → is_own x ≡ true → is_outstanding x ≡ c
      → (first_of (cut v) (filter is_own xs) ≡ Some act → IsFirst number v xs act)
      → option_or (if c then Some (action.AttemptEnds x.place (end_of x cut_end v)) else None) (first_of (cut v) (filter is_own xs)) ≡ Some act → IsFirst number v (x ∷ xs) act
  own_by x xs act true own out rest is = found x xs act own out is
  own_by x xs act false own out rest is = skip x xs act (ap (λ (b : Bool). is_own x && b) out ∙ and_no (is_own x)) (rest is)
    where
      and_no : (b : Bool) → (b && false) ≡ false
      and_no true = refl
      and_no false = refl

  first_by : (x : Attempt) (xs : List Attempt) (act : Action) (b : Bool) → is_own x ≡ b
      → (first_of (cut v) (filter is_own xs) ≡ Some act → IsFirst number v xs act)
      → first_of (cut v) (cond b (x ∷ filter is_own xs) (filter is_own xs)) ≡ Some act → IsFirst number v (x ∷ xs) act
  first_by x xs act true own rest is =
      own_by x xs act (is_outstanding x) own refl rest (ap (λ (o : Option Action). option_or o (first_of (cut v) (filter is_own xs))) (sym (cut_is x own)) ∙ is)
  first_by x xs act false own rest is = skip x xs act (ap (λ (b : Bool). b && is_outstanding x) own) (rest is)

  pub is_first : (xs : List Attempt) (act : Action) → first_of (cut v) (filter is_own xs) ≡ Some act → IsFirst number v xs act
  is_first [] act is = absurd (cc)
  is_first (x ∷ xs) act is = first_by x xs act (is_own x) refl (is_first xs act) is

  -- where none gives anything, none is outstanding
  none_own : (x : Attempt) (xs : List Attempt) (c : Bool) → is_own x ≡ true → is_outstanding x ≡ c
      → (first_of (cut v) (filter is_own xs) ≡ None → filter (is_out_of number) xs ≡ [])
      → option_or (if c then Some (action.AttemptEnds x.place (end_of x cut_end v)) else None) (first_of (cut v) (filter is_own xs)) ≡ None
      → filter (is_out_of number) (x ∷ xs) ≡ []
  none_own x xs true own out rest is = absurd (cc)
  none_own x xs false own out rest is =
      ap (λ (b : Bool). cond (b && is_outstanding x) (x ∷ filter (is_out_of number) xs) (filter (is_out_of number) xs)) own
      ∙ ap (λ (b : Bool). cond b (x ∷ filter (is_out_of number) xs) (filter (is_out_of number) xs)) out ∙ rest is

  none_by : (x : Attempt) (xs : List Attempt) (b : Bool) → is_own x ≡ b
      → (first_of (cut v) (filter is_own xs) ≡ None → filter (is_out_of number) xs ≡ [])
      → first_of (cut v) (cond b (x ∷ filter is_own xs) (filter is_own xs)) ≡ None → filter (is_out_of number) (x ∷ xs) ≡ []
  none_by x xs true own rest is =
      none_own x xs (is_outstanding x) own refl rest (ap (λ (o : Option Action). option_or o (first_of (cut v) (filter is_own xs))) (sym (cut_is x own)) ∙ is)
  none_by x xs false own rest is =
      ap (λ (b : Bool). cond (b && is_outstanding x) (x ∷ filter (is_out_of number) xs) (filter (is_out_of number) xs)) own ∙ rest is

  pub none_out : (xs : List Attempt) → first_of (cut v) (filter is_own xs) ≡ None → filter (is_out_of number) xs ≡ []
  none_out [] is = refl
  none_out (x ∷ xs) is = none_by x xs (is_own x) refl (none_out xs) is

-- what one cut changes
pub record IsOneCut (number : ℕ) (v : Seen) (act : Action) (o : OpenEntry) : Type 0 where
  pub attempt : Attempt
  pub out : IsOut v attempt
  pub own : (attempt.row.call == number) ≡ true
  pub act_is : act ≡ action.AttemptEnds attempt.place (end_of attempt cut_end v)
  pub end : RowEnd
  pub after_is : cut_off attempt v ≡ record v {
    attempts = changed (with_end end) attempt.place v.attempts;
    calls = changed (marked_also (ended_mark (now v) attempt)) attempt.row.call v.calls;
    current = Some o;
  }
  pub does : after act v ≡ cut_off attempt v
  pub end_is : end ≡ end_of attempt cut_end v
  pub left : filter (is_out_of number) v.attempts ≡ attempt ∷ filter (is_out_of number) (cut_off attempt v).attempts

pub place_of : (n i : ℕ) (xs : List Attempt) (a : Attempt) → AttemptsAreNumbered n xs → slice_get xs i ≡ Some a → a.place ≡ n + i
place_of n i [] a p e = absurd (cc)
place_of n zero (x ∷ xs) a p e = let same : a ≡ x = (cc) in ap (λ (y : Attempt). y.place) same ∙ p.0 ∙ (let up : n ≡ n + 0 = omega arith in up)
place_of n (suc i) (x ∷ xs) a p e = place_of (suc n) i xs a p.1 e ∙ (let up : suc n + i ≡ n + suc i = omega arith in up)

pub place_suc : (i : ℕ) (xs : List Attempt) (a : Attempt) → AttemptsAreNumbered 1 xs → slice_get xs i ≡ Some a → a.place ≡ suc i
place_suc i xs a p e = place_of 1 i xs a p e ∙ (let up : 1 + i ≡ suc i = omega arith in up)

undrawn_is : (o : OpenEntry) → undrawn o ≡ o
undrawn_is o = ap (λ (k : ℕ). record o { drawn = k }) (let e : o.drawn + 0 ≡ o.drawn = omega arith in e)

pub one_cut : (number : ℕ) (v : Seen) (act : Action) (o : OpenEntry) → IsDone number v → AttemptsAreNumbered 1 v.attempts → v.current ≡ Some o → next_cut_of number v ≡ Some act
    → IsOneCut number v act o
one_cut number v act o done places current next =
    let f : IsFirst number v v.attempts act = is_first number v done v.attempts act next in
    let a : Attempt = f.attempt in
    let place : a.place ≡ suc f.index = place_suc f.index v.attempts a places f.there in
    let there : numbered v.attempts a.place ≡ Some a = ap (numbered v.attempts) place ∙ f.there in
    let call : call_of a v ≡ Some done.call = ap (numbered v.calls) (eqb-true a.row.call number f.own) ∙ done.there in
    let tokens : Option ℕ = option_map (λ (run : ThrottleRun). tokens_in run v) (run_of done.call v) in
    let e : RowEnd = end_by_cut (entry v) (now v) tokens v a in
    let one : cut_off a v ≡ record v {
      attempts = changed (with_end e) a.place v.attempts;
      calls = changed (marked_also (ended_mark (now v) a)) a.row.call v.calls;
      current = option_map undrawn v.current;
    } = one_is_cut v a done.call tokens there call refl in
    let open_ : option_map undrawn v.current ≡ Some o = ap (option_map undrawn) current ∙ ap (λ (p : OpenEntry). Some p) (undrawn_is o) in
    let put : changed (with_end e) a.place v.attempts ≡ slice_set v.attempts f.index (with_end e a)
    = ap (λ (k : ℕ). changed (with_end e) k v.attempts) place ∙ ap (changed_if (with_end e) (suc f.index) v.attempts) f.there in
    record {
      attempt = a;
      out = record { there = there; outstanding = f.outstanding };
      own = f.own;
      act_is = f.act_is;
      end = e;
      after_is = one ∙ ap (λ (c : Option OpenEntry). record v {
        attempts = changed (with_end e) a.place v.attempts;
        calls = changed (marked_also (ended_mark (now v) a)) a.row.call v.calls;
        current = c;
      }) open_;
      does = ap (λ (c : Option OpenEntry). after_if c act v) current ∙ ap (λ (z : Action). after_if (Some o) z v) f.act_is;
      end_is = sym (cut_end_is v a done.call tokens there call refl);
      left = f.left e ∙ ap (λ (xs : List Attempt). a ∷ filter (is_out_of number) xs) (sym (ap (λ (z : Seen). z.attempts) one ∙ put));
    }
