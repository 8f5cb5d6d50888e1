-- A frame ends the attempt of its stream: channel and session after it, the end of the attempt next, and of no other.
use Rattle.std.proofs.Common.{◌≡◌, ◌&&◌, ◌||◌, ◌∷◌, ap, arith, refl, ◌∙◌, Bool, true, false, List, [], Option, None, Some, ℕ, zero, suc, if◌then◌else◌, inl, inr, is_some, slice_get}
use Rattle.std.specs.List.{AllByRecursion, list_any}
use Rattle.std.specs.Option.{option_or}
use Rattle.call_actions.specs.TakeActions.Serves.{came}
use Rattle.channel_actions.proofs.Calls.Going.Arms.{kept_same}
use Rattle.channel_actions.specs.GoingCalls.Going.{GoesOn}
use Rattle.end_cases.specs.AttemptEnds.Ends.{is_of_ends}
use Rattle.channel_core.specs.declared.state.slots.CallSlot.{CallSlot}
use Rattle.frame_cases.proofs.MessageFrames.Report.{with_more}
use Rattle.frame_cases.specs.QuietFrames.Laws.{HasNothingNew}
use Rattle.grpc_base.specs.declared.fields.Field.{Field}
use Rattle.session_actions.specs.Deliveries.{response_items}
use Rattle.session_actions.specs.Words.{first_of, numbered}
use Rattle.session_actions.specs.declared.action.Action.{Action}
use Rattle.session_actions.specs.declared.link.Link.{Link}
use Rattle.session_actions.specs.declared.response.Response.{Response}
use Rattle.session_order.specs.Lines.{is_line}
use Rattle.session_order.specs.declared.line.Line.{Line}
use Rattle.session_order.specs.declared.line.Line.TheVariants as line

-- nothing came for an application
pub items_same : (p q : Response) → HasNothingNew p q → response_items q ≡ response_items p
items_same p q is =
    ap (λ (h : Option (List Field)). response_items (record q { head = h })) is.head ∙ ap (λ (ms : List (List ℕ)). response_items (record q { head = p.head; messages = ms })) is.messages

one_first : {X Y : Type 0} (f : X → Option Y) (xs : List X) (i : ℕ) (x : X) (y : Y) → slice_get xs i ≡ Some x → f x ≡ Some y
    → ((j : ℕ) (z : X) → slice_get xs j ≡ Some z → (j ≡ i → ⊥) → f z ≡ None) → first_of f xs ≡ Some y
one_first f [] i x y at is none = absurd (cc)
one_first f (z ∷ xs) zero x y at is none =
    let same : z ≡ x = (cc) in ap (λ (o : Option _). option_or o (first_of f xs)) (ap f same ∙ is)
one_first f (z ∷ xs) (suc i) x y at is none =
    ap (λ (o : Option _). option_or o (first_of f xs)) (none 0 z refl (λ e. let no : ⊥ = omega (arith, e) in no))
    ∙ one_first f xs i x y at is (λ j q here other. none (suc j) q here (λ e. other (let same : j ≡ i = omega (arith, e) in same)))

pub only_first : {X Y : Type 0} (f : X → Option Y) (xs : List X) (n : ℕ) (x : X) (y : Y) → numbered xs n ≡ Some x → f x ≡ Some y
    → ((j : ℕ) (z : X) → numbered xs j ≡ Some z → (j ≡ n → ⊥) → f z ≡ None) → first_of f xs ≡ Some y
only_first f xs zero x y at is none = absurd (cc)
only_first f xs (suc i) x y at is none =
    one_first f xs i x y at is (λ j z here other. none (suc j) z here (λ e. other (let same : j ≡ i = omega (arith, e) in same)))

pub second : (a b : Bool) → a ≡ true → (a && b) ≡ false → b ≡ false
second true b e f = f
second false b e f = absurd (cc)

pub first_off : (a b : Bool) → (a || b) ≡ false → a ≡ false
first_off true b e = absurd (cc)
first_off false b e = refl

pub none_by : {X : Type 0} (o : Option X) → is_some o ≡ false → o ≡ None
none_by None e = refl
none_by (Some x) e = absurd (cc)

pub no_action : (q : Option Action) → q ≡ None → (b : Bool) → (if b then q else None) ≡ None
no_action q none true = none
no_action q none false = refl

any_at : {X : Type 0} (p : X → Bool) (xs : List X) (i : ℕ) (x : X) → slice_get xs i ≡ Some x → p x ≡ true → list_any p xs ≡ true
any_at p [] i x at e = absurd (cc)
any_at p (y ∷ xs) zero x at e = let same : y ≡ x = (cc) in ap (λ (b : Bool). b || list_any p xs) (ap p same ∙ e)
any_at p (y ∷ xs) (suc i) x at e = ap (λ (b : Bool). p y || b) (any_at p xs i x at e) ∙ or_true (p y)
  where
    or_true : (b : Bool) → (b || true) ≡ true
    or_true true = refl
    or_true false = refl

pub any_there : {X : Type 0} (p : X → Bool) (xs : List X) (n : ℕ) (x : X) → numbered xs n ≡ Some x → p x ≡ true → list_any p xs ≡ true
any_there p xs zero x at e = absurd (cc)
any_there p xs (suc i) x at e = any_at p xs i x at e

-- calls go on, whatever stands in their inboxes
pub more_goes : (more : List (List ℕ)) (slot : CallSlot) → GoesOn slot.call → GoesOn (with_more more slot.call)
more_goes more slot k = record {
  kept = kept_same slot.call (with_more more slot.call) (record { number = refl; begun = refl; chosen = refl; live = refl; attempts = refl; ended = refl }) k.kept;
  going = record {
    next = λ r. k.going.next (record { ended = r.ended; configured = r.configured });
    alone = λ e.
        elim (k.going.alone e) [
          | inl none ↦ inl none
          | inr one ↦ inr (one.0, record { live = one.1.live; number = one.1.number; forced = one.1.forced })
        ];
    most = k.going.most;
    fresh = k.going.fresh;
    goes = λ e r. k.going.goes e (record { ended = r.ended; configured = r.configured });
    last = λ r. k.going.last (record { ended = r.ended; configured = r.configured });
    none = k.going.none;
  };
}

pub all_go : (xs : List CallSlot) → ((i : ℕ) (slot : CallSlot) → slice_get xs i ≡ Some slot → GoesOn slot.call) → AllByRecursion (λ (slot : CallSlot). GoesOn slot.call) xs
all_go [] each = tt
all_go (x ∷ xs) each = (each 0 x refl, all_go xs (λ i slot at. each (suc i) slot at))

-- the lines of ends are two
pub no_wire_end : (k : Line) → is_of_ends k ≡ false → is_line k line.WireEnd ≡ false
no_wire_end line.Cut e = refl
no_wire_end line.Transparent e = refl
no_wire_end line.Inherited e = refl
no_wire_end line.Row e = refl
no_wire_end line.Final e = refl
no_wire_end line.Cancelled e = refl
no_wire_end line.Request e = refl
no_wire_end line.Overflow e = refl
no_wire_end line.Head e = refl
no_wire_end line.Response e = refl
no_wire_end line.Pick e = absurd (cc)
no_wire_end line.Link e = refl
no_wire_end line.WireEnd e = absurd (cc)
no_wire_end line.Reset e = refl
no_wire_end line.Shut e = refl
no_wire_end line.Retire e = refl
no_wire_end line.Begin e = refl
no_wire_end line.Give e = refl
no_wire_end line.Drop e = refl
no_wire_end line.Add e = refl
