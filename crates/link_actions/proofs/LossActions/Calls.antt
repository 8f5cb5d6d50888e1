-- A call of which something is noted keeps its limits.
use Rattle.std.proofs.Common.{◌≡◌, ◌==◌, ap, refl, subst, ◌∙◌, Bool, true, false, List, Option, None, Some, ℕ, if◌then◌else◌, option_map}
use Rattle.std.specs.Option.{option_map_or}
use Rattle.std.proofs.lemmas.Bool.{eqb-true}
use Rattle.grpc_base.specs.Limits.{message_limit}
use Rattle.link_actions.proofs.Ended.{changed_one, changed_other}
use Rattle.session_actions.specs.Configs.{chosen_of}
use Rattle.session_actions.specs.Words.{changed, changed_if, numbered}
use Rattle.session_actions.specs.declared.call.Call.{Call}
use Rattle.session_actions.specs.declared.seen.Seen.{Seen}

-- the thing of a number, in a list of which one thing is changed
none_changed : {X : Type 0} (f : X → X) (n k : ℕ) (xs : List X) (b : Bool) → (k == n) ≡ b → numbered xs k ≡ None → numbered (changed f n xs) k ≡ None
none_changed f n k xs true is e =
    let same : k ≡ n = eqb-true k n is in
    let here : numbered xs n ≡ None = subst (λ (m : ℕ). numbered xs m ≡ None) same e in
    ap (λ (o : Option _). numbered (changed_if f n xs o) k) here ∙ e
none_changed f n k xs false is e = changed_other f n k xs is ∙ e

by_thing : {X : Type 0} (f : X → X) (n k : ℕ) (xs : List X) (o : Option X) → numbered xs k ≡ o → numbered (changed f n xs) k ≡ option_map (λ x. if k == n then f x else x) o
by_thing f n k xs None e = none_changed f n k xs (k == n) refl e
by_thing f n k xs (Some x) e = changed_one f n k xs x (k == n) refl e

pub changed_any : {X : Type 0} (f : X → X) (n k : ℕ) (xs : List X) → numbered (changed f n xs) k ≡ option_map (λ x. if k == n then f x else x) (numbered xs k)
changed_any f n k xs = by_thing f n k xs (numbered xs k) refl

-- limits
abbrev pub limit_in : Seen → Option Call → ℕ
limit_in s o = option_map_or (λ c. (chosen_of c s).response) o message_limit

pub limit_kept : (s : Seen) (f : Call → Call) (b : Bool) (o : Option Call) → ((c : Call) → (chosen_of (f c) s).response ≡ (chosen_of c s).response)
    → limit_in s (option_map (λ x. if b then f x else x) o) ≡ limit_in s o
limit_kept s f b None keeps = refl
limit_kept s f true (Some c) keeps = keeps c
limit_kept s f false (Some c) keeps = refl
