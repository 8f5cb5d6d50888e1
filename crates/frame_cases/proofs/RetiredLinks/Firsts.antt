-- The first of a list that gives something, and plain tests that the first of the ends leans on.
use Rattle.std.proofs.Common.{◌≡◌, ◌&&◌, ◌||◌, ◌+◌, ◌==◌, ◌∷◌, ap, arith, refl, sym, ◌∙◌, Bool, true, false, List, [], None, Option, Some, ℕ, zero, suc, if◌then◌else◌, is_none, is_some, length, nat_lt, slice_get}
use Rattle.std.proofs.lemmas.Bool.Decides.{nat_tests}
use Rattle.std.specs.List.{list_any}
use Rattle.std.specs.Option.{option_or}
use Rattle.attempt_ledger.specs.Ends.{is_cut}
use Rattle.attempt_ledger.specs.TransparentRows.{is_unsent}
use Rattle.end_cases.specs.AttemptEnds.Ends.{is_of_ends}
use Rattle.link_actions.specs.ResponseActions.Laws.{left_out_end}
use Rattle.session_actions.specs.AttemptEnds.{unsent_end}
use Rattle.session_actions.specs.Entries.{entry}
use Rattle.session_actions.specs.Words.{first_of, numbered}
use Rattle.session_actions.specs.declared.action.Action.{Action}
use Rattle.session_actions.specs.declared.call.Call.{Call}
use Rattle.session_actions.specs.declared.entry.OpenEntry.{OpenEntry}
use Rattle.session_actions.specs.declared.link.LinkOver.{LinkOver}
use Rattle.session_actions.specs.declared.seen.Seen.{Seen}
use Rattle.session_order.specs.Lines.{is_line}
use Rattle.session_order.specs.declared.line.Line.{Line}
use Rattle.session_order.specs.declared.line.Line.TheVariants as line

-- the first of a list that gives something
one_down : (i n : ℕ) → nat_lt (suc i) (suc n) ≡ nat_lt i n
one_down i n = grind (arith, nat_tests)

some_first : (n : ℕ) → nat_lt 0 (suc n) ≡ true
some_first n = grind (arith, nat_tests)

first_at : {X Y : Type 0} (f : X → Option Y) (xs : List X) (i : ℕ) (x : X) (y : Y) → slice_get xs i ≡ Some x → f x ≡ Some y
    → ((j : ℕ) (z : X) → slice_get xs j ≡ Some z → nat_lt j i ≡ true → f z ≡ None) → first_of f xs ≡ Some y
first_at f [] i x y at is none = absurd (cc)
first_at f (z ∷ xs) zero x y at is none =
    let same : z ≡ x = (cc) in ap (λ (o : Option _). option_or o (first_of f xs)) (ap f same ∙ is)
first_at f (z ∷ xs) (suc i) x y at is none =
    ap (λ (o : Option _). option_or o (first_of f xs)) (none 0 z refl (some_first i))
    ∙ first_at f xs i x y at is (λ j q here low. none (suc j) q here (one_down j i ∙ low))

pub first_gives : {X Y : Type 0} (f : X → Option Y) (xs : List X) (n : ℕ) (x : X) (y : Y) → numbered xs n ≡ Some x → f x ≡ Some y
    → ((j : ℕ) (z : X) → numbered xs j ≡ Some z → nat_lt j n ≡ true → f z ≡ None) → first_of f xs ≡ Some y
first_gives f xs zero x y at is none = absurd (cc)
first_gives f xs (suc i) x y at is none = first_at f xs i x y at is (λ j z here low. none (suc j) z here (one_down j i ∙ low))

any_at : {X : Type 0} (p : X → Bool) (xs : List X) (i : ℕ) (x : X) → slice_get xs i ≡ Some x → p x ≡ true → list_any p xs ≡ true
any_at p [] i x at e = absurd (cc)
any_at p (y ∷ xs) zero x at e = let same : y ≡ x = (cc) in ap (λ (b : Bool). b || list_any p xs) (ap p same ∙ e)
any_at p (y ∷ xs) (suc i) x at e = ap (λ (b : Bool). p y || b) (any_at p xs i x at e) ∙ or_true (p y)
  where
    or_true : (b : Bool) → (b || true) ≡ true
    or_true true = refl
    or_true false = refl

pub any_there : {X : Type 0} (p : X → Bool) (xs : List X) (n : ℕ) (x : X) → numbered xs n ≡ Some x → p x ≡ true → list_any p xs ≡ true
any_there p xs zero x at e = absurd (cc)
any_there p xs (suc i) x at e = any_at p xs i x at e

pub second : (a b : Bool) → a ≡ true → (a && b) ≡ false → b ≡ false
second true b e f = f
second false b e f = absurd (cc)

pub off_last : (p : Bool) → (p && false) ≡ false
off_last true = refl
off_last false = refl

pub none_by : {X : Type 0} (o : Option X) → is_some o ≡ false → o ≡ None
none_by None e = refl
none_by (Some x) e = absurd (cc)

pub none_of : (o : Option LinkOver) → o ≡ None → is_none o ≡ true
none_of o e = ap (λ (q : Option LinkOver). is_none q) e

pub over_by : (o : Option LinkOver) (b : Bool) → is_some o ≡ b → b ≡ false → o ≡ None
over_by None b e f = refl
over_by (Some why) b e f = absurd (let bad : true ≡ false = e ∙ f in (cc))

pub no_action : (q : Option Action) → q ≡ None → (b : Bool) → (if b then q else None) ≡ None
no_action q none true = none
no_action q none false = refl

pub low_self : (j n : ℕ) → nat_lt j n ≡ true → (n == j) ≡ false
low_self j n e = grind (arith, nat_tests, e)

pub either : (a b : Bool) → a ≡ false → b ≡ false → (a || b) ≡ false
either true b e f = absurd (cc)
either false b e f = f

pub some_call : (o : Option Call) → is_some o ≡ true → (c : Call) × (o ≡ Some c)
some_call None e = absurd (cc)
some_call (Some c) e = (c, refl)

-- such an end is no cut, and one that was never sent has no stream
pub uncut_by : (o : Option ℕ) → is_cut (if is_some o then left_out_end else unsent_end).cause ≡ false
uncut_by None = refl
uncut_by (Some n) = refl

pub unsent_by : (o : Option ℕ) → is_unsent (if is_some o then left_out_end else unsent_end).cause ≡ true → o ≡ None
unsent_by None e = refl
unsent_by (Some n) e = absurd (cc)

-- the lines of ends are two
pub not_end : (k : Line) → is_of_ends k ≡ false → is_line k line.WireEnd ≡ false
not_end line.Cut e = refl
not_end line.Transparent e = refl
not_end line.Inherited e = refl
not_end line.Row e = refl
not_end line.Final e = refl
not_end line.Cancelled e = refl
not_end line.Request e = refl
not_end line.Overflow e = refl
not_end line.Head e = refl
not_end line.Response e = refl
not_end line.Pick e = absurd (cc)
not_end line.Link e = refl
not_end line.WireEnd e = absurd (cc)
not_end line.Reset e = refl
not_end line.Shut e = refl
not_end line.Retire e = refl
not_end line.Begin e = refl
not_end line.Give e = refl
not_end line.Drop e = refl
not_end line.Add e = refl

-- an entry that goes on
pub entry_goes : (s t : Seen) (o p : OpenEntry) → s.current ≡ Some o → t.current ≡ Some p → t.entries ≡ s.entries → entry t ≡ entry s
entry_goes s t o p current then_ same =
    ap (λ (es : List _). length es + (if is_some t.current then 1 else 0)) same
    ∙ ap (λ (c : Option OpenEntry). length s.entries + (if is_some c then 1 else 0)) then_
    ∙ sym (ap (λ (c : Option OpenEntry). length s.entries + (if is_some c then 1 else 0)) current)
