-- The next cut of a call that is committed is the first of its attempts that is outstanding and has another number; and after it the others are left.
use Rattle.std.proofs.Common.{◌≡◌, ◌||◌, ◌&&◌, ◌==◌, ◌∷◌, not, ap, arith, refl, sym, ◌∙◌, Bool, true, false, List, [], Option, None, Some, ℕ, ◌+◌, zero, suc, cond, filter, if◌then◌else◌, is_some, slice_get, slice_set}
use Rattle.std.proofs.lemmas.Bool.{and_parts, eqb-true}
use Rattle.std.specs.Option.{option_map, option_or}
use Rattle.attempt_ledger.specs.declared.ledger.CallEnd.{CallEnd}
use Rattle.attempt_ledger.specs.declared.row.RowEnd.{RowEnd}
use Rattle.call_actions.proofs.TakeActions.CutAttempts.{end_by_cut, ended_mark}
use Rattle.call_actions.proofs.TakeActions.CutOne.{cut_end_is, marked_also, one_is_cut, undrawn}
use Rattle.call_actions.specs.Order.{AttemptsAreNumbered}
use Rattle.call_actions.specs.TakeActions.Cuts.{next_cut_of}
use Rattle.call_cases.proofs.EndsFollow.Cuts.{place_suc}
use Rattle.call_cases.specs.EndsFollow.Cuts.{IsOut, cut_off}
use Rattle.call_cases.specs.CommitsFollow.Laws.{is_other_out}
use Rattle.session_actions.specs.Actions.{after, after_if}
use Rattle.session_actions.specs.AttemptEnds.{cut, cut_end, end_of, with_end}
use Rattle.session_actions.specs.Attempts.{call_of, commitment, is_outstanding, is_over, is_over_in}
use Rattle.session_actions.specs.Entries.{entry, now}
use Rattle.session_actions.specs.Tokens.{run_of, tokens_in}
use Rattle.session_actions.specs.Words.{changed, changed_if, first_of, holds, numbered}
use Rattle.session_actions.specs.declared.action.Action.{Action}
use Rattle.session_actions.specs.declared.action.Action.TheVariants as action
use Rattle.session_actions.specs.declared.attempt.Attempt.{Attempt}
use Rattle.session_actions.specs.declared.call.Call.{Call}
use Rattle.session_actions.specs.declared.config.ThrottleRun.{ThrottleRun}
use Rattle.session_actions.specs.declared.entry.OpenEntry.{OpenEntry}
use Rattle.session_actions.specs.declared.seen.Seen.{Seen}

-- the call of a number is open, and is committed to this attempt
pub record IsTaken (number : ℕ) (k : Attempt) (v : Seen) : Type 0 where
  pub call : Call
  pub there : numbered v.calls number ≡ Some call
  pub going : call.end ≡ None
  pub is : commitment call v ≡ Some k

-- an attempt of the call that goes on, and has another number
abbrev pub goes_else : ℕ → Attempt → Bool
goes_else own a = is_outstanding a && not (own == a.row.number)

-- the first that gives something
pub record IsFirst (number own_number : ℕ) (v : Seen) (xs : List Attempt) (act : Action) : Type 0 where
  pub attempt : Attempt
  pub index : ℕ
  pub there : slice_get xs index ≡ Some attempt
  pub own : (attempt.row.call == number) ≡ true
  pub goes : goes_else own_number attempt ≡ true
  pub act_is : act ≡ action.AttemptEnds attempt.place (end_of attempt cut_end v)
  pub left : (e : RowEnd) → filter (is_other_out number own_number) xs ≡ attempt ∷ filter (is_other_out number own_number) (slice_set xs index (with_end e attempt))

module _ (number : ℕ) (k : Attempt) (v : Seen) (done : IsTaken number k v) where
  abbrev is_own : Attempt → Bool
  is_own a = a.row.call == number

  abbrev j : ℕ
  j = k.row.number

  abbrev test : Attempt → Bool
  test a = is_other_out number j a

  abbrev ends : Attempt → Option Action
  ends a = Some (action.AttemptEnds a.place (end_of a cut_end v))

  pub is_gone : (a : Attempt) → is_own a ≡ true → is_over a v ≡ not (j == a.row.number)
  is_gone a own =
      ap (λ (n : ℕ). holds (λ (c : Call). is_over_in c a v) (numbered v.calls n)) (eqb-true a.row.call number own)
      ∙ ap (holds (λ (c : Call). is_over_in c a v)) done.there
      ∙ ap (λ (e : Option CallEnd). is_some e || holds (λ (q : Attempt). not (q.row.number == a.row.number)) (commitment done.call v)) done.going
      ∙ ap (holds (λ (q : Attempt). not (q.row.number == a.row.number))) done.is

  cut_is : (a : Attempt) → is_own a ≡ true → cut v a ≡ (if goes_else j a then ends a else None)
  cut_is a own = ap (λ (b : Bool). if is_outstanding a && b then ends a else None) (is_gone a own)

  ended_is_not : (a : Attempt) (e : RowEnd) → test (with_end e a) ≡ false
  ended_is_not a e = never (is_own a) (is_some a.row.placed) (not (j == a.row.number))
    where
      never : (b c d : Bool) → (b && ((c && false) && d)) ≡ false
      never true true d = refl
      never true false d = refl
      never false c d = refl

  -- an attempt before that is not cut
  skip : (x : Attempt) (xs : List Attempt) (act : Action) → test x ≡ false → IsFirst number j v xs act → IsFirst number j v (x ∷ xs) act
  skip x xs act out f = record {
    attempt = f.attempt;
    index = suc f.index;
    there = f.there;
    own = f.own;
    goes = f.goes;
    act_is = f.act_is;
    left = λ e.
        ap (λ (b : Bool). cond b (x ∷ filter test xs) (filter test xs)) out ∙ f.left e
        ∙ sym (ap (λ (b : Bool). f.attempt ∷ cond b (x ∷ filter test (slice_set xs f.index (with_end e f.attempt))) (filter test (slice_set xs f.index (with_end e f.attempt)))) out);
  }

  found : (x : Attempt) (xs : List Attempt) (act : Action) → is_own x ≡ true → goes_else j x ≡ true → ends x ≡ Some act → IsFirst number j v (x ∷ xs) act
  found x xs act own goes is = record {
    attempt = x;
    index = 0;
    there = refl;
    own = own;
    goes = goes;
    act_is = (let same : act ≡ action.AttemptEnds x.place (end_of x cut_end v) = (cc) in same);
    left = λ e.
        ap (λ (b : Bool). cond b (x ∷ filter test xs) (filter test xs)) (ap (λ (b : Bool). b && goes_else j x) own ∙ goes)
        ∙ sym (ap (λ (b : Bool). x ∷ cond b (with_end e x ∷ filter test xs) (filter test xs)) (ended_is_not x e));
  }

  own_by : (x : Attempt) (xs : List Attempt) (act : Action) (c : Bool) → is_own x ≡ true → goes_else j x ≡ c
      → (first_of (cut v) (filter is_own xs) ≡ Some act → IsFirst number j v xs act)
      → option_or (if c then ends x else None) (first_of (cut v) (filter is_own xs)) ≡ Some act → IsFirst number j v (x ∷ xs) act
  own_by x xs act true own goes rest is = found x xs act own goes is
  own_by x xs act false own goes rest is = skip x xs act (ap (λ (b : Bool). is_own x && b) goes ∙ and_no (is_own x)) (rest is)
    where
      and_no : (b : Bool) → (b && false) ≡ false
      and_no true = refl
      and_no false = refl

  first_by : (x : Attempt) (xs : List Attempt) (act : Action) (b : Bool) → is_own x ≡ b
      → (first_of (cut v) (filter is_own xs) ≡ Some act → IsFirst number j v xs act)
      → first_of (cut v) (cond b (x ∷ filter is_own xs) (filter is_own xs)) ≡ Some act → IsFirst number j v (x ∷ xs) act
  first_by x xs act true own rest is =
      own_by x xs act (goes_else j x) own refl rest (ap (λ (o : Option Action). option_or o (first_of (cut v) (filter is_own xs))) (sym (cut_is x own)) ∙ is)
  first_by x xs act false own rest is = skip x xs act (ap (λ (b : Bool). b && goes_else j x) own) (rest is)

  pub is_first : (xs : List Attempt) (act : Action) → first_of (cut v) (filter is_own xs) ≡ Some act → IsFirst number j v xs act
  is_first [] act is = absurd (cc)
  is_first (x ∷ xs) act is = first_by x xs act (is_own x) refl (is_first xs act) is

  -- where none gives anything, none goes on
  none_own : (x : Attempt) (xs : List Attempt) (c : Bool) → is_own x ≡ true → goes_else j x ≡ c
      → (first_of (cut v) (filter is_own xs) ≡ None → filter test xs ≡ [])
      → option_or (if c then ends x else None) (first_of (cut v) (filter is_own xs)) ≡ None → filter test (x ∷ xs) ≡ []
  none_own x xs true own goes rest is = absurd (cc)
  none_own x xs false own goes rest is =
      ap (λ (b : Bool). cond (b && goes_else j x) (x ∷ filter test xs) (filter test xs)) own
      ∙ ap (λ (b : Bool). cond b (x ∷ filter test xs) (filter test xs)) goes ∙ rest is

  none_by : (x : Attempt) (xs : List Attempt) (b : Bool) → is_own x ≡ b → (first_of (cut v) (filter is_own xs) ≡ None → filter test xs ≡ [])
      → first_of (cut v) (cond b (x ∷ filter is_own xs) (filter is_own xs)) ≡ None → filter test (x ∷ xs) ≡ []
  none_by x xs true own rest is =
      none_own x xs (goes_else j x) own refl rest (ap (λ (o : Option Action). option_or o (first_of (cut v) (filter is_own xs))) (sym (cut_is x own)) ∙ is)
  none_by x xs false own rest is = ap (λ (b : Bool). cond (b && goes_else j x) (x ∷ filter test xs) (filter test xs)) own ∙ rest is

  pub none_out : (xs : List Attempt) → first_of (cut v) (filter is_own xs) ≡ None → filter test xs ≡ []
  none_out [] is = refl
  none_out (x ∷ xs) is = none_by x xs (is_own x) refl (none_out xs) is

-- what one cut changes
pub record IsOneCut (number own_number : ℕ) (v : Seen) (act : Action) (o : OpenEntry) : Type 0 where
  pub attempt : Attempt
  pub out : IsOut v attempt
  pub own : (attempt.row.call == number) ≡ true
  pub other : not (own_number == attempt.row.number) ≡ true
  pub act_is : act ≡ action.AttemptEnds attempt.place (end_of attempt cut_end v)
  pub end : RowEnd
  pub after_is : cut_off attempt v ≡ record v {
    attempts = changed (with_end end) attempt.place v.attempts;
    calls = changed (marked_also (ended_mark (now v) attempt)) attempt.row.call v.calls;
    current = Some o;
  }
  pub does : after act v ≡ cut_off attempt v
  pub end_is : end ≡ end_of attempt cut_end v
  pub left : filter (is_other_out number own_number) v.attempts ≡ attempt ∷ filter (is_other_out number own_number) (cut_off attempt v).attempts

undrawn_is : (o : OpenEntry) → undrawn o ≡ o
undrawn_is o = ap (λ (k : ℕ). record o { drawn = k }) (let e : o.drawn + 0 ≡ o.drawn = omega arith in e)

pub one_cut : (number : ℕ) (k : Attempt) (v : Seen) (act : Action) (o : OpenEntry) → IsTaken number k v → AttemptsAreNumbered 1 v.attempts → v.current ≡ Some o
    → next_cut_of number v ≡ Some act → IsOneCut number k.row.number v act o
one_cut number k v act o done places current next =
    let f : IsFirst number k.row.number v v.attempts act = is_first number k v done v.attempts act next in
    let a : Attempt = f.attempt in
    let place : a.place ≡ suc f.index = place_suc f.index v.attempts a places f.there in
    let there : numbered v.attempts a.place ≡ Some a = ap (numbered v.attempts) place ∙ f.there in
    let call : call_of a v ≡ Some done.call = ap (numbered v.calls) (eqb-true a.row.call number f.own) ∙ done.there in
    let goes : (is_outstanding a ≡ true) × (not (k.row.number == a.row.number) ≡ true) = and_parts (is_outstanding a) (not (k.row.number == a.row.number)) f.goes in
    let tokens : Option ℕ = option_map (λ (run : ThrottleRun). tokens_in run v) (run_of done.call v) in
    let e : RowEnd = end_by_cut (entry v) (now v) tokens v a in
    let one : cut_off a v ≡ record v {
      attempts = changed (with_end e) a.place v.attempts;
      calls = changed (marked_also (ended_mark (now v) a)) a.row.call v.calls;
      current = option_map undrawn v.current;
    } = one_is_cut v a done.call tokens there call refl in
    let open_ : option_map undrawn v.current ≡ Some o = ap (option_map undrawn) current ∙ ap (λ (p : OpenEntry). Some p) (undrawn_is o) in
    let put : changed (with_end e) a.place v.attempts ≡ slice_set v.attempts f.index (with_end e a)
    = ap (λ (m : ℕ). changed (with_end e) m v.attempts) place ∙ ap (changed_if (with_end e) (suc f.index) v.attempts) f.there in
    record {
      attempt = a;
      out = record { there = there; outstanding = goes.0 };
      own = f.own;
      other = goes.1;
      act_is = f.act_is;
      end = e;
      after_is = one ∙ ap (λ (c : Option OpenEntry). record v {
        attempts = changed (with_end e) a.place v.attempts;
        calls = changed (marked_also (ended_mark (now v) a)) a.row.call v.calls;
        current = c;
      }) open_;
      does = ap (λ (c : Option OpenEntry). after_if c act v) current ∙ ap (λ (z : Action). after_if (Some o) z v) f.act_is;
      end_is = sym (cut_end_is v a done.call tokens there call refl);
      left = f.left e ∙ ap (λ (xs : List Attempt). a ∷ filter (is_other_out number k.row.number) xs) (sym (ap (λ (z : Seen). z.attempts) one ∙ put));
    }
