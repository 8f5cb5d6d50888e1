-- What a session keeps in order of all its calls, kind of field by kind of field: calls, attempts, configs and runs that change or join. And which tokens
-- are as before: an end that was counted is reported as before while its attempt and its call's config are the same.
use Rattle.attempt_ledger.specs.declared.row.RowEnd.{RowEnd}
use Rattle.call_actions.proofs.Ends.Tokens.{more_ends}
use Rattle.call_actions.proofs.Lists.{changed_away, changed_map}
use Rattle.call_actions.proofs.Places.{numbered_snoc}
use Rattle.call_actions.proofs.Ranks.{all_so, numbered_more}
use Rattle.call_actions.specs.Order.{AttemptsAreNumbered}
use Rattle.call_actions.proofs.CallsApart.Parts.{IsSame, more_for}
use Rattle.call_actions.proofs.CallsApart.Seen.{all_numbered}
use Rattle.call_actions.specs.CallsApart.Apart.{CallsAreNumbered, IsBook, has_config, has_run, is_counted_there, is_end_there}
use Rattle.grpc_base.specs.declared.plan.CallPlan.TheVariants as plan
use Rattle.grpc_base.specs.declared.plan.CallPlan.{CallPlan}
use Rattle.service_config.specs.Choice.{chosen_for}
use Rattle.session_actions.specs.Attempts.{with_attempt}
use Rattle.session_actions.specs.Calls.{with_call}
use Rattle.session_actions.specs.Configs.{no_choice, plan_of}
use Rattle.session_actions.specs.Tokens.{plan_of_attempt, tokens_after, tokens_by, tokens_with}
use Rattle.session_actions.specs.Words.{changed, changed_if, holds, is_number, numbered}
use Rattle.session_actions.specs.declared.attempt.Attempt.{Attempt}
use Rattle.session_actions.specs.declared.call.Call.{Call}
use Rattle.session_actions.specs.declared.config.HeldConfig.{HeldConfig}
use Rattle.session_actions.specs.declared.config.ThrottleRun.{ThrottleRun}
use Rattle.session_actions.specs.declared.seen.Seen.{Seen}
use Rattle.std.proofs.Common.{Bool, List, None, Option, Some, [], ap, arith, eqb-true, false, is_some, length, option_and_then, option_map, refl, slice_get, slice_set, subst, suc, sym, true, zero, ℕ, ◌&&◌, ◌++◌, ◌+◌, ◌==◌, ◌∙◌, ◌∷◌, ◌≡◌}
use Rattle.std.proofs.lemmas.Bool.{and_from, and_parts, eqb-false}
use Rattle.std.proofs.lemmas.List.Folds.{list_all-append}
use Rattle.std.specs.List.{list_all}
use Rattle.std.specs.Option.{option_map_or}

-- lists of which one thing changes
all_set : {X : Type 0} (p : X → Bool) (f : X → X) → ((x : X) → p x ≡ true → p (f x) ≡ true) → (xs : List X) (i : ℕ) (a : X) → slice_get xs i ≡ Some a
    → list_all p xs ≡ true → list_all p (slice_set xs i (f a)) ≡ true
all_set p f so [] i a got e = refl
all_set p f so (x ∷ xs) zero a got e =
    let one : x ≡ a = (cc) in
    let parts : (p x ≡ true) × (list_all p xs ≡ true) = and_parts (p x) (list_all p xs) e in
    and_from (p (f a)) (list_all p xs) (so a (sym (ap p one) ∙ parts.0)) parts.1
all_set p f so (x ∷ xs) (suc i) a got e =
    let parts : (p x ≡ true) × (list_all p xs ≡ true) = and_parts (p x) (list_all p xs) e in
    and_from (p x) (list_all p (slice_set xs i (f a))) parts.0 (all_set p f so xs i a got parts.1)

all_if : {X : Type 0} (p : X → Bool) (f : X → X) → ((x : X) → p x ≡ true → p (f x) ≡ true) → (xs : List X) (i : ℕ) (o : Option X) → slice_get xs i ≡ o
    → list_all p xs ≡ true → list_all p (changed_if f (suc i) xs o) ≡ true
all_if p f so xs i None got e = e
all_if p f so xs i (Some a) got e = all_set p f so xs i a got e

pub all_changed : {X : Type 0} (p : X → Bool) (f : X → X) → ((x : X) → p x ≡ true → p (f x) ≡ true) → (n : ℕ) (xs : List X) → list_all p xs ≡ true
    → list_all p (changed f n xs) ≡ true
all_changed p f so zero xs e = e
all_changed p f so (suc i) xs e = all_if p f so xs i (slice_get xs i) refl e

pub all_snoc : {X : Type 0} (p : X → Bool) (xs : List X) (y : X) → list_all p xs ≡ true → p y ≡ true → list_all p (xs ++ y ∷ []) ≡ true
all_snoc p xs y e f =
    list_all-append p xs (y ∷ []) ∙ and_from (list_all p xs) (p y && true) e (and_from (p y) true f refl)

some_at : {X : Type 0} (xs : List X) (y : X) (k : ℕ) (o : Option X) → numbered xs k ≡ o → is_some o ≡ true → is_some (numbered (xs ++ y ∷ []) k) ≡ true
some_at xs y k None got e = absurd (cc)
some_at xs y k (Some x) got e = ap (λ (z : Option _). is_some z) (numbered_more xs y x k got)

pub some_more : {X : Type 0} (xs : List X) (y : X) (o : Option ℕ) → option_map_or (λ (k : ℕ). is_some (numbered xs k)) o true ≡ true
    → option_map_or (λ (k : ℕ). is_some (numbered (xs ++ y ∷ []) k)) o true ≡ true
some_more xs y None e = refl
some_more xs y (Some k) e = some_at xs y k (numbered xs k) refl e

-- numbers
module _ (f : Call → Call) (keeps : (d : Call) → (f d).number ≡ d.number) where
  calls_set : (k : ℕ) (xs : List Call) (i : ℕ) (a : Call) → slice_get xs i ≡ Some a → CallsAreNumbered k xs → CallsAreNumbered k (slice_set xs i (f a))
  calls_set k [] i a got p = tt
  calls_set k (x ∷ xs) zero a got p = let one : x ≡ a = (cc) in (keeps a ∙ sym (ap (λ (d : Call). d.number) one) ∙ p.0, p.1)
  calls_set k (x ∷ xs) (suc i) a got p = (p.0, calls_set (suc k) xs i a got p.1)

  calls_if : (k i : ℕ) (xs : List Call) (o : Option Call) → slice_get xs i ≡ o → CallsAreNumbered k xs → CallsAreNumbered k (changed_if f (suc i) xs o)
  calls_if k i xs None got p = p
  calls_if k i xs (Some a) got p = calls_set k xs i a got p

  pub calls_changed : (n : ℕ) (xs : List Call) → CallsAreNumbered 1 xs → CallsAreNumbered 1 (changed f n xs)
  calls_changed zero xs p = p
  calls_changed (suc i) xs p = calls_if 1 i xs (slice_get xs i) refl p

pub calls_snoc : (k : ℕ) (xs : List Call) (y : Call) → CallsAreNumbered k xs → y.number ≡ k + length xs → CallsAreNumbered k (xs ++ y ∷ [])
calls_snoc k [] y p e = let at : y.number ≡ k = omega arith in (at, tt)
calls_snoc k (x ∷ xs) y p e =
    let next : y.number ≡ suc k + length xs = omega arith in (p.0, calls_snoc (suc k) xs y p.1 next)

module _ (f : Attempt → Attempt) (keeps : (a : Attempt) → (f a).place ≡ a.place) where
  places_set : (k : ℕ) (xs : List Attempt) (i : ℕ) (a : Attempt) → slice_get xs i ≡ Some a → AttemptsAreNumbered k xs → AttemptsAreNumbered k (slice_set xs i (f a))
  places_set k [] i a got p = tt
  places_set k (x ∷ xs) zero a got p = let one : x ≡ a = (cc) in (keeps a ∙ sym (ap (λ (q : Attempt). q.place) one) ∙ p.0, p.1)
  places_set k (x ∷ xs) (suc i) a got p = (p.0, places_set (suc k) xs i a got p.1)

  places_if : (k i : ℕ) (xs : List Attempt) (o : Option Attempt) → slice_get xs i ≡ o → AttemptsAreNumbered k xs → AttemptsAreNumbered k (changed_if f (suc i) xs o)
  places_if k i xs None got p = p
  places_if k i xs (Some a) got p = places_set k xs i a got p

  pub places_changed : (n : ℕ) (xs : List Attempt) → AttemptsAreNumbered 1 xs → AttemptsAreNumbered 1 (changed f n xs)
  places_changed zero xs p = p
  places_changed (suc i) xs p = places_if 1 i xs (slice_get xs i) refl p

-- what is reported of an end that was counted
abbrev pub is_there : Seen → ℕ → Bool
is_there s place = holds (is_end_there s) (numbered s.attempts place)

pub record CountsAlike (s t : Seen) : Type 0 where
  pub there : (place : ℕ) → is_there s place ≡ true → is_there t place ≡ true
  pub reported : (place : ℕ) → is_there s place ≡ true → (u : ThrottleRun) (count : ℕ)
      → tokens_by u t count (numbered t.attempts place) ≡ tokens_by u s count (numbered s.attempts place)

-- a session that is in order goes on in order, and of its runs only one of a number changes
pub record Moves (s t : Seen) (n : Option ℕ) : Type 0 where
  pub book : IsBook t
  pub alike : CountsAlike s t
  pub runs : (k : ℕ) → is_some (numbered s.runs k) ≡ true → is_number k n ≡ false → numbered t.runs k ≡ numbered s.runs k

pub moves_on : (s t u : Seen) (n : Option ℕ) → Moves s t None → Moves t u n → Moves s u n
moves_on s t u n f g = record {
  book = g.book;
  alike = record {
    there = λ place e. g.alike.there place (f.alike.there place e);
    reported = λ place e run count. g.alike.reported place (f.alike.there place e) run count ∙ f.alike.reported place e run count;
  };
  runs = λ k there off.
      (let first : numbered t.runs k ≡ numbered s.runs k = f.runs k there refl in
      g.runs k (ap (λ (o : Option ThrottleRun). is_some o) first ∙ there) off ∙ first);
}

pub widen : (s t : Seen) (n : Option ℕ) → Moves s t None → Moves s t n
widen s t n f = record { book = f.book; alike = f.alike; runs = λ k there off. f.runs k there refl }

-- the plan of an attempt's call decides what its end is reported as
pub reported_by_plan : (s t : Seen) (a : Attempt) → plan_of_attempt a t ≡ plan_of_attempt a s → (u : ThrottleRun) (count : ℕ) → tokens_by u t count (Some a) ≡ tokens_by u s count (Some a)
reported_by_plan s t a same u count = ap (λ (p : CallPlan). option_map_or (λ (e : RowEnd). tokens_after u.throttle p e.code e.pushback count) a.row.ended count) same

reported_of : (s t : Seen) → IsSame s t → (u : ThrottleRun) (count : ℕ) (o : Option Attempt) → tokens_by u t count o ≡ tokens_by u s count o
reported_of s t e u count None = refl
reported_of s t e u count (Some a) =
    reported_by_plan s t a
    (ap (λ (l : List Call). option_map_or (λ (c : Call). plan_of c t) (numbered l a.row.call) plan.None) e.calls
    ∙ ap (λ (l : List HeldConfig). option_map_or (λ (c : Call). (option_map_or (λ (h : HeldConfig). chosen_for h.config c.request.path) (option_and_then (numbered l) c.config) no_choice).plan) (numbered s.calls a.row.call) plan.None) e.configs)
    u count

pub counted_so : (s t : Seen) → ((place : ℕ) → is_there s place ≡ true → is_there t place ≡ true) → (runs : List ThrottleRun) → list_all (is_counted_there s) runs ≡ true
    → list_all (is_counted_there t) runs ≡ true
counted_so s t so runs e =
    all_so (is_counted_there s) (is_counted_there t) (λ u all. all_so (is_there s) (is_there t) so u.ends all) runs e

-- nothing of these changes
pub moves_same : (s t : Seen) → IsBook s → IsSame s t → Moves s t None
moves_same s t book e = record {
  book = record {
    calls = subst (CallsAreNumbered 1) (sym e.calls) book.calls;
    places = subst (AttemptsAreNumbered 1) (sym e.attempts) book.places;
    configs = ap (list_all (has_config t)) e.calls
        ∙ ap (λ (l : List HeldConfig). list_all (λ (c : Call). option_map_or (λ (k : ℕ). is_some (numbered l k)) c.config true) s.calls) e.configs ∙ book.configs;
    runs = ap (list_all (has_run t)) e.configs
        ∙ ap (λ (l : List ThrottleRun). list_all (λ (h : HeldConfig). option_map_or (λ (k : ℕ). is_some (numbered l k)) h.run true) s.configs) e.runs ∙ book.runs;
    counted = ap (list_all (is_counted_there t)) e.runs
        ∙ ap (λ (l : List Attempt). list_all (λ (u : ThrottleRun). list_all (λ (place : ℕ). holds (λ (a : Attempt). is_some a.row.ended && holds (λ (c : Call). is_some c.config) (numbered t.calls a.row.call)) (numbered l place)) u.ends) s.runs) e.attempts
        ∙ ap (λ (l : List Call). list_all (λ (u : ThrottleRun). list_all (λ (place : ℕ). holds (λ (a : Attempt). is_some a.row.ended && holds (λ (c : Call). is_some c.config) (numbered l a.row.call)) (numbered s.attempts place)) u.ends) s.runs) e.calls
        ∙ book.counted;
  };
  alike = record {
    there = λ place there. ap (λ (l : List Attempt). holds (λ (a : Attempt). is_some a.row.ended && holds (λ (c : Call). is_some c.config) (numbered t.calls a.row.call)) (numbered l place)) e.attempts
        ∙ ap (λ (l : List Call). holds (λ (a : Attempt). is_some a.row.ended && holds (λ (c : Call). is_some c.config) (numbered l a.row.call)) (numbered s.attempts place)) e.calls
        ∙ there;
    reported = λ place there u count. ap (λ (l : List Attempt). tokens_by u t count (numbered l place)) e.attempts ∙ reported_of s t e u count (numbered s.attempts place);
  };
  runs = λ k there off. ap (λ (l : List ThrottleRun). numbered l k) e.runs;
}

pub moves_then : (s t u : Seen) (n : Option ℕ) → Moves s t n → IsSame t u → Moves s u n
moves_then s t u n f e =
    let g : Moves t u None = moves_same t u f.book e in
    record {
      book = g.book;
      alike = record {
        there = λ place has. g.alike.there place (f.alike.there place has);
        reported = λ place has run count. g.alike.reported place (f.alike.there place has) run count ∙ f.alike.reported place has run count;
      };
      runs = λ k there off.
          (let first : numbered t.runs k ≡ numbered s.runs k = f.runs k there off in
          g.runs k (ap (λ (o : Option ThrottleRun). is_some o) first ∙ there) refl ∙ first);
    }

-- an end that is there, and its call
pub record IsEndOf (s : Seen) (o : Option Attempt) : Type 0 where
  pub attempt : Attempt
  pub here : o ≡ Some attempt
  pub ended : is_some attempt.row.ended ≡ true
  pub config : holds (λ (c : Call). is_some c.config) (numbered s.calls attempt.row.call) ≡ true

end_of_there : (s : Seen) (o : Option Attempt) → holds (is_end_there s) o ≡ true → IsEndOf s o
end_of_there s None e = absurd (cc)
end_of_there s (Some a) e =
    let parts : (is_some a.row.ended ≡ true) × (holds (λ (c : Call). is_some c.config) (numbered s.calls a.row.call) ≡ true)
    = and_parts (is_some a.row.ended) (holds (λ (c : Call). is_some c.config) (numbered s.calls a.row.call)) e in
    record { attempt = a; here = refl; ended = parts.0; config = parts.1 }

there_from : (t : Seen) (a : Attempt) → is_some a.row.ended ≡ true → holds (λ (c : Call). is_some c.config) (numbered t.calls a.row.call) ≡ true → is_end_there t a ≡ true
there_from t a ended config = and_from (is_some a.row.ended) (holds (λ (c : Call). is_some c.config) (numbered t.calls a.row.call)) ended config

-- where the attempts are the same, and each call that has a config has one still, and its plan
module _ (s t : Seen) (attempts : t.attempts ≡ s.attempts)
    (config : (n : ℕ) → holds (λ (c : Call). is_some c.config) (numbered s.calls n) ≡ true → holds (λ (c : Call). is_some c.config) (numbered t.calls n) ≡ true)
    (plans : (n : ℕ) → holds (λ (c : Call). is_some c.config) (numbered s.calls n) ≡ true
    → option_map_or (λ (c : Call). plan_of c t) (numbered t.calls n) plan.None ≡ option_map_or (λ (c : Call). plan_of c s) (numbered s.calls n) plan.None) where
  alike_there : (place : ℕ) → is_there s place ≡ true → is_there t place ≡ true
  alike_there place e =
      let k : IsEndOf s (numbered s.attempts place) = end_of_there s (numbered s.attempts place) e in
      ap (λ (l : List Attempt). holds (is_end_there t) (numbered l place)) attempts ∙ ap (holds (is_end_there t)) k.here
      ∙ there_from t k.attempt k.ended (config k.attempt.row.call k.config)

  alike_reported : (place : ℕ) → is_there s place ≡ true → (u : ThrottleRun) (count : ℕ) → tokens_by u t count (numbered t.attempts place) ≡ tokens_by u s count (numbered s.attempts place)
  alike_reported place e u count =
      let k : IsEndOf s (numbered s.attempts place) = end_of_there s (numbered s.attempts place) e in
      ap (λ (l : List Attempt). tokens_by u t count (numbered l place)) attempts ∙ ap (tokens_by u t count) k.here
      ∙ reported_by_plan s t k.attempt (plans k.attempt.row.call k.config) u count ∙ ap (tokens_by u s count) (sym k.here)

  pub calls_alike : CountsAlike s t
  calls_alike = record { there = alike_there; reported = alike_reported }

-- a call changes
module _ (f : Call → Call) (n : ℕ) (s : Seen) (book : IsBook s) (keeps : (d : Call) → (f d).number ≡ d.number)
    (keeps_config : (d : Call) → has_config s d ≡ true → has_config s (f d) ≡ true) (has_still : (d : Call) → is_some d.config ≡ true → is_some (f d).config ≡ true)
    (keeps_plan : (d : Call) → numbered s.calls n ≡ Some d → is_some d.config ≡ true → plan_of (f d) s ≡ plan_of d s) where
  config_here : (o : Option Call) → holds (λ (c : Call). is_some c.config) o ≡ true → holds (λ (c : Call). is_some c.config) (option_map f o) ≡ true
  config_here None e = absurd (cc)
  config_here (Some d) e = has_still d e

  config_by : (k : ℕ) (b : Bool) → (k == n) ≡ b → holds (λ (c : Call). is_some c.config) (numbered s.calls k) ≡ true
      → holds (λ (c : Call). is_some c.config) (numbered (changed f n s.calls) k) ≡ true
  config_by k true e has =
      let same : k ≡ n = eqb-true k n e in
      ap (λ (j : ℕ). holds (λ (c : Call). is_some c.config) (numbered (changed f n s.calls) j)) same ∙ ap (holds (λ (c : Call). is_some c.config)) (changed_map f n s.calls)
      ∙ config_here (numbered s.calls n) (ap (λ (j : ℕ). holds (λ (c : Call). is_some c.config) (numbered s.calls j)) (sym same) ∙ has)
  config_by k false e has = ap (holds (λ (c : Call). is_some c.config)) (changed_away f n k s.calls (eqb-false k n e)) ∙ has

  plan_here : (o : Option Call) → numbered s.calls n ≡ o → holds (λ (c : Call). is_some c.config) o ≡ true
      → option_map_or (λ (c : Call). plan_of c s) (option_map f o) plan.None ≡ option_map_or (λ (c : Call). plan_of c s) o plan.None
  plan_here None got e = refl
  plan_here (Some d) got e = keeps_plan d got e

  plan_by : (k : ℕ) (b : Bool) → (k == n) ≡ b → holds (λ (c : Call). is_some c.config) (numbered s.calls k) ≡ true
      → option_map_or (λ (c : Call). plan_of c s) (numbered (changed f n s.calls) k) plan.None ≡ option_map_or (λ (c : Call). plan_of c s) (numbered s.calls k) plan.None
  plan_by k true e has =
      let same : k ≡ n = eqb-true k n e in
      ap (λ (j : ℕ). option_map_or (λ (c : Call). plan_of c s) (numbered (changed f n s.calls) j) plan.None) same
      ∙ ap (λ (o : Option Call). option_map_or (λ (c : Call). plan_of c s) o plan.None) (changed_map f n s.calls)
      ∙ plan_here (numbered s.calls n) refl (ap (λ (j : ℕ). holds (λ (c : Call). is_some c.config) (numbered s.calls j)) (sym same) ∙ has)
      ∙ ap (λ (j : ℕ). option_map_or (λ (c : Call). plan_of c s) (numbered s.calls j) plan.None) (sym same)
  plan_by k false e has = ap (λ (o : Option Call). option_map_or (λ (c : Call). plan_of c s) o plan.None) (changed_away f n k s.calls (eqb-false k n e))

  call_alike : CountsAlike s (with_call f n s)
  call_alike = calls_alike s (with_call f n s) refl (λ k has. config_by k (k == n) refl has) (λ k has. plan_by k (k == n) refl has)

  pub call_moves : Moves s (with_call f n s) None
  call_moves = record {
    book = record {
      calls = calls_changed f keeps n s.calls book.calls;
      places = book.places;
      configs = all_changed (has_config s) f keeps_config n s.calls book.configs;
      runs = book.runs;
      counted = counted_so s (with_call f n s) call_alike.there s.runs book.counted;
    };
    alike = call_alike;
    runs = λ k there off. refl;
  }

-- a call begins
module _ (y : Call) (s : Seen) (book : IsBook s) (number : y.number ≡ length s.calls + 1) (none : y.config ≡ None) where
  abbrev begun_seen : Seen
  begun_seen = record s { calls = s.calls ++ y ∷ [] }

  call_there : (k : ℕ) (o : Option Call) → numbered s.calls k ≡ o → holds (λ (c : Call). is_some c.config) o ≡ true → numbered (s.calls ++ y ∷ []) k ≡ numbered s.calls k
  call_there k None got e = absurd (cc)
  call_there k (Some d) got e = numbered_more s.calls y d k got ∙ sym got

  begun_alike : CountsAlike s begun_seen
  begun_alike =
      calls_alike s begun_seen refl (λ k has. ap (holds (λ (c : Call). is_some c.config)) (call_there k (numbered s.calls k) refl has) ∙ has)
      (λ k has. ap (λ (o : Option Call). option_map_or (λ (c : Call). plan_of c s) o plan.None) (call_there k (numbered s.calls k) refl has))

  pub begun_moves : Moves s begun_seen None
  begun_moves =
      let at : y.number ≡ 1 + length s.calls = (let e : y.number ≡ length s.calls + 1 = number in omega (arith, e)) in
      record {
        book = record {
          calls = calls_snoc 1 s.calls y book.calls at;
          places = book.places;
          configs = all_snoc (has_config s) s.calls y book.configs (ap (λ (o : Option ℕ). option_map_or (λ (k : ℕ). is_some (numbered s.configs k)) o true) none);
          runs = book.runs;
          counted = counted_so s begun_seen begun_alike.there s.runs book.counted;
        };
        alike = begun_alike;
        runs = λ k there off. refl;
      }

-- an attempt changes: its end, if it has one, is the same
module _ (f : Attempt → Attempt) (n : ℕ) (s : Seen) (book : IsBook s) (keeps : (a : Attempt) → (f a).place ≡ a.place) (keeps_call : (a : Attempt) → (f a).row.call ≡ a.row.call)
    (keeps_end : (a : Attempt) → numbered s.attempts n ≡ Some a → is_some a.row.ended ≡ true → (f a).row.ended ≡ a.row.ended) where
  row_here : (o : Option Attempt) → numbered s.attempts n ≡ o → holds (is_end_there s) o ≡ true → holds (is_end_there s) (option_map f o) ≡ true
  row_here None got e = absurd (cc)
  row_here (Some a) got e =
      let parts : (is_some a.row.ended ≡ true) × (holds (λ (c : Call). is_some c.config) (numbered s.calls a.row.call) ≡ true)
      = and_parts (is_some a.row.ended) (holds (λ (c : Call). is_some c.config) (numbered s.calls a.row.call)) e in
      and_from (is_some (f a).row.ended) (holds (λ (c : Call). is_some c.config) (numbered s.calls (f a).row.call))
      (ap (λ (o : Option RowEnd). is_some o) (keeps_end a got parts.0) ∙ parts.0)
      (ap (λ (k : ℕ). holds (λ (c : Call). is_some c.config) (numbered s.calls k)) (keeps_call a) ∙ parts.1)

  row_by : (place : ℕ) (b : Bool) → (place == n) ≡ b → is_there s place ≡ true → holds (is_end_there s) (numbered (changed f n s.attempts) place) ≡ true
  row_by place true e has =
      let same : place ≡ n = eqb-true place n e in
      ap (λ (j : ℕ). holds (is_end_there s) (numbered (changed f n s.attempts) j)) same ∙ ap (holds (is_end_there s)) (changed_map f n s.attempts)
      ∙ row_here (numbered s.attempts n) refl (ap (λ (j : ℕ). holds (is_end_there s) (numbered s.attempts j)) (sym same) ∙ has)
  row_by place false e has = ap (holds (is_end_there s)) (changed_away f n place s.attempts (eqb-false place n e)) ∙ has

  reported_here : (u : ThrottleRun) (count : ℕ) (o : Option Attempt) → numbered s.attempts n ≡ o → holds (is_end_there s) o ≡ true → tokens_by u s count (option_map f o) ≡ tokens_by u s count o
  reported_here u count None got e = refl
  reported_here u count (Some a) got e =
      let parts : (is_some a.row.ended ≡ true) × (holds (λ (c : Call). is_some c.config) (numbered s.calls a.row.call) ≡ true)
      = and_parts (is_some a.row.ended) (holds (λ (c : Call). is_some c.config) (numbered s.calls a.row.call)) e in
      ap (λ (k : ℕ). option_map_or (λ (e : RowEnd). tokens_after u.throttle (option_map_or (λ (c : Call). plan_of c s) (numbered s.calls k) plan.None) e.code e.pushback count) (f a).row.ended count) (keeps_call a)
      ∙ ap (λ (o : Option RowEnd). option_map_or (tokens_with u s count a) o count) (keeps_end a got parts.0)

  reported_by : (u : ThrottleRun) (count place : ℕ) (b : Bool) → (place == n) ≡ b → is_there s place ≡ true
      → tokens_by u s count (numbered (changed f n s.attempts) place) ≡ tokens_by u s count (numbered s.attempts place)
  reported_by u count place true e has =
      let same : place ≡ n = eqb-true place n e in
      ap (λ (j : ℕ). tokens_by u s count (numbered (changed f n s.attempts) j)) same ∙ ap (tokens_by u s count) (changed_map f n s.attempts)
      ∙ reported_here u count (numbered s.attempts n) refl (ap (λ (j : ℕ). holds (is_end_there s) (numbered s.attempts j)) (sym same) ∙ has)
      ∙ ap (λ (j : ℕ). tokens_by u s count (numbered s.attempts j)) (sym same)
  reported_by u count place false e has = ap (tokens_by u s count) (changed_away f n place s.attempts (eqb-false place n e))

  attempt_alike : CountsAlike s (with_attempt f n s)
  attempt_alike = record {
    there = λ place has. row_by place (place == n) refl has;
    reported = λ place has u count. reported_by u count place (place == n) refl has;
  }

  pub attempt_moves : Moves s (with_attempt f n s) None
  attempt_moves = record {
    book = record {
      calls = book.calls;
      places = places_changed f keeps n s.attempts book.places;
      configs = book.configs;
      runs = book.runs;
      counted = counted_so s (with_attempt f n s) attempt_alike.there s.runs book.counted;
    };
    alike = attempt_alike;
    runs = λ k there off. refl;
  }

-- one attempt more
module _ (y : Attempt) (s : Seen) (book : IsBook s) (place : y.place ≡ length s.attempts + 1) where
  abbrev made_seen : Seen
  made_seen = record s { attempts = s.attempts ++ y ∷ [] }

  row_there : (n : ℕ) (o : Option Attempt) → numbered s.attempts n ≡ o → holds (is_end_there s) o ≡ true → numbered (s.attempts ++ y ∷ []) n ≡ numbered s.attempts n
  row_there n None got e = absurd (cc)
  row_there n (Some a) got e = numbered_more s.attempts y a n got ∙ sym got

  made_alike : CountsAlike s made_seen
  made_alike = record {
    there = λ n has. ap (holds (is_end_there s)) (row_there n (numbered s.attempts n) refl has) ∙ has;
    reported = λ n has u count. ap (tokens_by u s count) (row_there n (numbered s.attempts n) refl has);
  }

  pub made_moves : Moves s made_seen None
  made_moves =
      let at : y.place ≡ 1 + length s.attempts = (let e : y.place ≡ length s.attempts + 1 = place in omega (arith, e)) in
      record {
        book = record {
          calls = book.calls;
          places = numbered_snoc 1 s.attempts y book.places at;
          configs = book.configs;
          runs = book.runs;
          counted = counted_so s made_seen made_alike.there s.runs book.counted;
        };
        alike = made_alike;
        runs = λ k there off. refl;
      }

-- one config more
module _ (h : HeldConfig) (s : Seen) (book : IsBook s) (run : has_run s h ≡ true) where
  abbrev read_seen : Seen
  read_seen = record s { configs = s.configs ++ h ∷ [] }

  has_more : (c : Call) → has_config s c ≡ true → has_config read_seen c ≡ true
  has_more c has = some_more s.configs h c.config has

  plan_of_one : (n : ℕ) (o : Option Call) → numbered s.calls n ≡ o
      → option_map_or (λ (c : Call). plan_of c read_seen) o plan.None ≡ option_map_or (λ (c : Call). plan_of c s) o plan.None
  plan_of_one n None got = refl
  plan_of_one n (Some c) got =
      ap (λ (z : Option HeldConfig). (option_map_or (λ (g : HeldConfig). chosen_for g.config c.request.path) z no_choice).plan)
      (more_for c s.configs h c.config (all_numbered (has_config s) s.calls n c book.configs got))

  read_alike : CountsAlike s read_seen
  read_alike = calls_alike s read_seen refl (λ k has. has) (λ k has. plan_of_one k (numbered s.calls k) refl)

  pub read_moves : Moves s read_seen None
  read_moves = record {
    book = record {
      calls = book.calls;
      places = book.places;
      configs = all_so (has_config s) (has_config read_seen) has_more s.calls book.configs;
      runs = all_snoc (has_run s) s.configs h book.runs run;
      counted = counted_so s read_seen read_alike.there s.runs book.counted;
    };
    alike = read_alike;
    runs = λ k there off. refl;
  }

-- one run more
module _ (u : ThrottleRun) (s : Seen) (book : IsBook s) (none : u.ends ≡ []) where
  abbrev run_seen : Seen
  run_seen = record s { runs = s.runs ++ u ∷ [] }

  run_there : (k : ℕ) (o : Option ThrottleRun) → numbered s.runs k ≡ o → is_some o ≡ true → numbered (s.runs ++ u ∷ []) k ≡ numbered s.runs k
  run_there k None got e = absurd (cc)
  run_there k (Some x) got e = numbered_more s.runs u x k got ∙ sym got

  pub run_moves : Moves s run_seen None
  run_moves = record {
    book = record {
      calls = book.calls;
      places = book.places;
      configs = book.configs;
      runs = all_so (has_run s) (has_run run_seen) (λ h has. some_more s.runs u h.run has) s.configs book.runs;
      counted = all_snoc (is_counted_there s) s.runs u book.counted (ap (list_all (is_there s)) none);
    };
    alike = record { there = λ place e. e; reported = λ place e v count. refl };
    runs = λ k there off. run_there k (numbered s.runs k) refl there;
  }

-- an end joins a run
module _ (place run : ℕ) (s : Seen) (book : IsBook s) (there : is_there s place ≡ true) where
  abbrev counted_seen : Seen
  counted_seen = record s { runs = changed (more_ends place) run s.runs }

  some_map : (o : Option ThrottleRun) → is_some (option_map (more_ends place) o) ≡ is_some o
  some_map None = refl
  some_map (Some u) = refl

  some_by : (k : ℕ) (b : Bool) → (k == run) ≡ b → is_some (numbered (changed (more_ends place) run s.runs) k) ≡ is_some (numbered s.runs k)
  some_by k true e =
      let same : k ≡ run = eqb-true k run e in
      ap (λ (j : ℕ). is_some (numbered (changed (more_ends place) run s.runs) j)) same ∙ ap (λ (o : Option ThrottleRun). is_some o) (changed_map (more_ends place) run s.runs)
      ∙ some_map (numbered s.runs run) ∙ ap (λ (j : ℕ). is_some (numbered s.runs j)) (sym same)
  some_by k false e = ap (λ (o : Option ThrottleRun). is_some o) (changed_away (more_ends place) run k s.runs (eqb-false k run e))

  run_by : (o : Option ℕ) → option_map_or (λ (k : ℕ). is_some (numbered s.runs k)) o true ≡ true
      → option_map_or (λ (k : ℕ). is_some (numbered (changed (more_ends place) run s.runs) k)) o true ≡ true
  run_by None e = refl
  run_by (Some k) e = some_by k (k == run) refl ∙ e

  pub counted_moves : Moves s counted_seen (Some run)
  counted_moves = record {
    book = record {
      calls = book.calls;
      places = book.places;
      configs = book.configs;
      runs = all_so (has_run s) (has_run counted_seen) (λ h has. run_by h.run has) s.configs book.runs;
      counted = all_changed (is_counted_there s) (more_ends place) (λ u all. all_snoc (is_there s) u.ends place all there) run s.runs book.counted;
    };
    alike = record { there = λ at e. e; reported = λ at e v count. refl };
    runs = λ k is off. changed_away (more_ends place) run k s.runs (λ e. eqb-false run k off (sym e));
  }
