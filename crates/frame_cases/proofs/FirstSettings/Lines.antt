-- One subchannel of a list has something new of its link, and the line of links gives what is to be done with it.
use Rattle.std.proofs.Common.{◌≡◌, ◌||◌, ◌∷◌, ap, refl, ◌∙◌, Bool, true, false, List, [], Option, None, Some, ℕ, zero, suc, if◌then◌else◌, slice_get}
use Rattle.std.specs.List.{list_any}
use Rattle.std.specs.Option.{option_or}
use Rattle.session_actions.specs.Subchannels.{is_to_be_ready, is_to_go_down, link_action}
use Rattle.session_actions.specs.Words.{first_of, numbered}
use Rattle.session_actions.specs.declared.action.Action.{Action}
use Rattle.session_actions.specs.declared.action.Action.TheVariants as action
use Rattle.session_actions.specs.declared.seen.Seen.{Seen}
use Rattle.session_actions.specs.declared.subchannel.Subchannel.{Subchannel}
use Rattle.session_order.specs.Quiescent.{is_link_new}

-- none passes where each does not
one_or : (a b : Bool) → a ≡ false → b ≡ false → (a || b) ≡ false
one_or true b e f = e
one_or false b e f = f

none_at : {X : Type 0} (p : X → Bool) (xs : List X) → ((i : ℕ) (x : X) → slice_get xs i ≡ Some x → p x ≡ false) → list_any p xs ≡ false
none_at p [] each = refl
none_at p (x ∷ xs) each = one_or (p x) (list_any p xs) (each 0 x refl) (none_at p xs (λ i y got. each (suc i) y got))

pub none_in : {X : Type 0} (p : X → Bool) (xs : List X) → ((n : ℕ) (x : X) → numbered xs n ≡ Some x → p x ≡ false) → list_any p xs ≡ false
none_in p xs each = none_at p xs (λ i x got. each (suc i) x got)

-- the first of which something is given
given_first : (x y : Option Action) (a : Action) → x ≡ Some a → option_or x y ≡ Some a
given_first x y a e = ap (λ (o : Option Action). option_or o y) e

given_next : (x y : Option Action) → x ≡ None → option_or x y ≡ y
given_next x y e = ap (λ (o : Option Action). option_or o y) e

only_at : (g : Subchannel → Option Action) (xs : List Subchannel) (i : ℕ) (x : Subchannel) (a : Action) → slice_get xs i ≡ Some x → g x ≡ Some a
    → ((j : ℕ) (y : Subchannel) → slice_get xs j ≡ Some y → (j ≡ i → ⊥) → g y ≡ None) → first_of g xs ≡ Some a
only_at g [] i x a got is others = absurd (cc)
only_at g (y ∷ xs) zero x a got is others =
    let same : y ≡ x = (cc) in
    given_first (g y) (first_of g xs) a (ap g same ∙ is)
only_at g (y ∷ xs) (suc i) x a got is others =
    given_next (g y) (first_of g xs) (others 0 y refl (λ e. absurd (cc)))
    ∙ only_at g xs i x a got is (λ j z there away. others (suc j) z there (λ e. away (let same : j ≡ i = (cc) in same)))

-- what it gives
ready_given : (s : Seen) (b : Subchannel) → is_to_be_ready s b ≡ true → link_action s b ≡ Some (action.SettingsArrive b.number)
ready_given s b e =
    ap (λ (x : Bool). if x then Some (action.SettingsArrive b.number) else if is_to_go_down s b then Some (action.LinkDown b.number) else None) e

two_none : (a b : Bool) (x y : Action) → (a || b) ≡ false → (if a then Some x else if b then Some y else None) ≡ None
two_none true b x y e = absurd (cc)
two_none false true x y e = absurd (cc)
two_none false false x y e = refl

pub settings_given : (s : Seen) (sub : ℕ) (b : Subchannel) → numbered s.subs sub ≡ Some b → b.number ≡ sub → is_to_be_ready s b ≡ true
    → ((k : ℕ) (c : Subchannel) → numbered s.subs k ≡ Some c → (k ≡ sub → ⊥) → is_link_new s c ≡ false) → first_of (link_action s) s.subs ≡ Some (action.SettingsArrive sub)
settings_given s zero b got number ready others = absurd (cc)
settings_given s (suc i) b got number ready others =
    only_at (link_action s) s.subs i b (action.SettingsArrive (suc i)) got (ready_given s b ready ∙ ap (λ (n : ℕ). Some (action.SettingsArrive n)) number)
    (λ j c there away. two_none (is_to_be_ready s c) (is_to_go_down s c) (action.SettingsArrive c.number) (action.LinkDown c.number)
    (others (suc j) c there (λ e. away (let same : j ≡ i = (cc) in same))))
