-- The definitions in the steps in which the plain programs compute them.
use Rattle.std.proofs.Common.{◌≡◌, ◌<◌, ◌≤◌, refl, subst, ℕ, zero, suc, ◌+◌, ◌-◌, ◌*◌, List, [], ◌∷◌, length, false, arith}
use Rattle.std.specs.Char.{digit_value}
use Rattle.std.specs.Option.{option_map_or}
use Rattle.std.proofs.lemmas.Bool.Decides.{nat_tests}
use Rattle.attempt_ledger.specs.Throttling.{is_success}
use Rattle.grpc_base.specs.Numbers.{number_of}
use Rattle.grpc_base.specs.declared.code.Code.{Code}
use Rattle.grpc_base.specs.declared.code.Code.TheVariants as code
use Rattle.grpc_frame.specs.Messages.{messages_by, messages_within, next_of}
use Rattle.session_actions.specs.Words.{last_of}
use Rattle.session_actions.specs.declared.link.ReadFrame.{ReadFrame}

-- there is a last one, whatever stands for none
is_last : (r : ReadFrame) (rs : List ReadFrame) (end other : ℕ) → option_map_or (λ (x : ReadFrame). x.end) (last_of (r ∷ rs)) end ≡ option_map_or (λ (x : ReadFrame). x.end) (last_of (r ∷ rs)) other
is_last r [] end other = refl
is_last r (x ∷ rs) end other = is_last x rs end other

-- the end of the last frame is that of the last one after the first
pub last_end_after : (r : ReadFrame) (rs : List ReadFrame) (end : ℕ) → option_map_or (λ (x : ReadFrame). x.end) (last_of (r ∷ rs)) end ≡ option_map_or (λ (x : ReadFrame). x.end) (last_of rs) r.end
last_end_after r [] end = refl
last_end_after r (x ∷ rs) end = is_last x rs end r.end

-- one message more, where there may be one
pub messages_by_one : (limit most : ℕ) (text : List ℕ) → 0 < most → messages_within limit most text ≡ messages_by (next_of limit text) text (messages_within limit (most - 1))
messages_by_one limit zero text more = absurd (omega arith)
messages_by_one limit (suc most) text more =
    let same : most ≡ suc most - 1 = omega arith in
    subst (λ (n : ℕ). messages_within limit (suc most) text ≡ messages_by (next_of limit text) text (messages_within limit n)) same refl

-- every code but OK
pub no_success : (c : Code) → (c ≡ code.Ok → ⊥) → is_success c ≡ false
no_success code.Ok h = absurd (h refl)
no_success code.Cancelled h = refl
no_success code.Unknown h = refl
no_success code.InvalidArgument h = refl
no_success code.DeadlineExceeded h = refl
no_success code.NotFound h = refl
no_success code.AlreadyExists h = refl
no_success code.PermissionDenied h = refl
no_success code.ResourceExhausted h = refl
no_success code.FailedPrecondition h = refl
no_success code.Aborted h = refl
no_success code.OutOfRange h = refl
no_success code.Unimplemented h = refl
no_success code.Internal h = refl
no_success code.Unavailable h = refl
no_success code.DataLoss h = refl
no_success code.Unauthenticated h = refl

-- what three bytes write is small
digit_small : (b : ℕ) → digit_value b ≤ 36
digit_small b = grind (arith, nat_tests)

pub three_small : (value : List ℕ) → length value ≡ 3 → number_of value < 4000
three_small [] three = absurd (omega arith)
three_small (a ∷ []) three = absurd (omega arith)
three_small (a ∷ b ∷ []) three = absurd (omega arith)
three_small (a ∷ b ∷ c ∷ []) three =
    let x : digit_value a ≤ 36 = digit_small a in
    let y : digit_value b ≤ 36 = digit_small b in
    let z : digit_value c ≤ 36 = digit_small c in
    small (digit_value a) (digit_value b) (digit_value c) x y z
  where
    small : (x y z : ℕ) → x ≤ 36 → y ≤ 36 → z ≤ 36 → ((0 * 10 + x) * 10 + y) * 10 + z < 4000
    small x y z p q r = omega arith
three_small (a ∷ b ∷ c ∷ d ∷ value) three = absurd (omega arith)
