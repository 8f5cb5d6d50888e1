-- Words on lists, in the steps in which the plain programs compute them.
use Rattle.std.proofs.Common.{◌≡◌, refl, sym, subst, ℕ, false, Some, None, List, [], ◌∷◌}
use Rattle.std.specs.List.{cons_option}
use Rattle.std.specs.Prelude.{Option, filter_map}
use Rattle.std.specs.Option.{option_or}
use Rattle.grpc_base.specs.declared.code.Code.{Code}
use Rattle.grpc_base.specs.declared.code.Code.TheVariants as code
use Rattle.attempt_ledger.specs.Throttling.{is_success}
use Rattle.session_actions.specs.DueAttempts.{counted_row}
use Rattle.session_actions.specs.Words.{last_of}
use Rattle.session_actions.specs.declared.call.Mark.{Mark}
use Rattle.session_actions.specs.declared.seen.Seen.{Seen}

-- the last one of a list that is not empty
kept : {X : Type 0} (a b : Option X) (x y : X) → b ≡ option_or a (Some y) → b ≡ option_or b (Some x)
kept {X} (Some v) b x y e = subst (λ (c : Option X). c ≡ option_or c (Some x)) (sym e) refl
kept {X} None b x y e = subst (λ (c : Option X). c ≡ option_or c (Some x)) (sym e) refl

last_of_more : {X : Type 0} (x : X) (xs : List X) → last_of (x ∷ xs) ≡ option_or (last_of xs) (Some x)
last_of_more x [] = refl
last_of_more x (y ∷ xs) = kept (last_of xs) (last_of (y ∷ xs)) x y (last_of_more y xs)

-- the last counted end among marks, from the first mark and the others
pub last_counted_more : (s : Seen) (m : Mark) (ms : List Mark) → last_of (filter_map (λ n. counted_row s n.what) (m ∷ ms)) ≡ option_or (last_of (filter_map (λ n. counted_row s n.what) ms)) (counted_row s m.what)
last_counted_more s m ms = with_first (counted_row s m.what) (filter_map (λ n. counted_row s n.what) ms)
  where
    ends : (a : Option ℕ) → a ≡ option_or a None
    ends None = refl
    ends (Some n) = refl

    with_first : (o : Option ℕ) (rows : List ℕ) → last_of (cons_option o rows) ≡ option_or (last_of rows) o
    with_first None rows = ends (last_of rows)
    with_first (Some n) rows = last_of_more n rows

-- every code but OK
pub not_success : (c : Code) → (c ≡ code.Ok → ⊥) → is_success c ≡ false
not_success code.Ok h = absurd (h refl)
not_success code.Cancelled h = refl
not_success code.Unknown h = refl
not_success code.InvalidArgument h = refl
not_success code.DeadlineExceeded h = refl
not_success code.NotFound h = refl
not_success code.AlreadyExists h = refl
not_success code.PermissionDenied h = refl
not_success code.ResourceExhausted h = refl
not_success code.FailedPrecondition h = refl
not_success code.Aborted h = refl
not_success code.OutOfRange h = refl
not_success code.Unimplemented h = refl
not_success code.Internal h = refl
not_success code.Unavailable h = refl
not_success code.DataLoss h = refl
not_success code.Unauthenticated h = refl
