-- What the channel does is to keep the message, and then to commit the call.
use Rattle.call_core.specs.Steps.{Stepped, lent}
use Rattle.call_core.specs.declared.state.CallState.{CallState}
use Rattle.call_cases.proofs.CallPosts.Agreeing.{IsPut}
use Rattle.channel_core.specs.Books.{bucket_at, placed_in_book, slot_at}
use Rattle.channel_core.specs.States.{StateSeen}
use Rattle.channel_core.specs.Steps.{call_asked, with_book}
use Rattle.channel_core.specs.Tables.{Acted, acted, acted_as, acted_at, acted_on, numbered, tokens_in, with_call}
use Rattle.channel_core.specs.declared.state.slots.CallSlot.{CallSlot}
use Rattle.ledger_stamps.specs.Steps.{index_at}
use Rattle.std.proofs.Common.{Bool, List, None, Option, Some, [], ap, arith, false, if◌then◌else◌, length, refl, slice_get, slice_set, suc, sym, zero, ℕ, ◌<◌, ◌==◌, ◌∙◌, ◌∷◌, ◌≡◌}
use Rattle.std.proofs.lemmas.Bool.{eqb-false, lt-ltb}

within : {X : Type 0} (xs : List X) (i : ℕ) (x : X) → slice_get xs i ≡ Some x → i < length xs
within [] i x e = absurd (cc)
within (z ∷ xs) zero x e = omega arith
within (z ∷ xs) (suc i) x e = let next : i < length xs = within xs i x e in omega arith

index_is : {X : Type 0} (xs : List X) (i : ℕ) (x : X) → slice_get xs i ≡ Some x → index_at (suc i) (length xs) ≡ Some i
index_is xs i x e = ap (λ (b : Bool). if b then Some i else None) (lt-ltb i (length xs) (within xs i x e))

set_here : {X : Type 0} (xs : List X) (i : ℕ) (x z : X) → slice_get xs i ≡ Some x → slice_get (slice_set xs i z) i ≡ Some z
set_here [] i x z e = absurd (cc)
set_here (y ∷ xs) zero x z e = refl
set_here (y ∷ xs) (suc i) x z e = set_here xs i x z e

set_away : {X : Type 0} (xs : List X) (i j : ℕ) (z : X) → (j ≡ i → ⊥) → slice_get (slice_set xs i z) j ≡ slice_get xs j
set_away [] i j z away = refl
set_away (y ∷ xs) zero zero z away = absurd (away refl)
set_away (y ∷ xs) zero (suc j) z away = refl
set_away (y ∷ xs) (suc i) zero z away = refl
set_away (y ∷ xs) (suc i) (suc j) z away = set_away xs i j z (λ e. away (ap suc e))

set_long : {X : Type 0} (xs : List X) (i : ℕ) (z : X) → length (slice_set xs i z) ≡ length xs
set_long [] i z = refl
set_long (y ∷ xs) zero z = refl
set_long (y ∷ xs) (suc i) z = ap suc (set_long xs i z)

set_twice : {X : Type 0} (xs : List X) (i : ℕ) (y z : X) → slice_set (slice_set xs i y) i z ≡ slice_set xs i z
set_twice [] i y z = refl
set_twice (x ∷ xs) zero y z = refl
set_twice (x ∷ xs) (suc i) y z = ap (λ (l : List _). x ∷ l) (set_twice xs i y z)

others_by : (calls : List CallSlot) (i k : ℕ) (z : CallSlot) → (k == suc i) ≡ false → numbered (slice_set calls i z) k ≡ numbered calls k
others_by calls i zero z off = refl
others_by calls i (suc j) z off = set_away calls i j z (λ e. eqb-false (suc j) (suc i) off (ap suc e))

-- a step is one to a state between, and then another one
pub record IsTwoSteps (first_then : Stepped → Stepped) (second : Stepped → Stepped) (x : StateSeen) (n : ℕ) (slot : CallSlot) (k : CallState) : Type 0 where
  pub calls : List CallSlot
  pub put : IsPut n k slot x.book.calls calls
  pub same : call_asked first_then n x ≡ call_asked second n (record x { book = record x.book { calls = calls } })

acted_by : (step : Stepped → Stepped) (x : StateSeen) (i : ℕ) (slot : CallSlot) → slice_get x.book.calls i ≡ Some slot
    → acted step x.book.calls (suc i) x.book.ledger (tokens_in x.book.buckets (bucket_at (slot_at x.book (suc i))))
    ≡ acted_as x.book.calls i slot (step (lent slot.call x.book.ledger (tokens_in x.book.buckets slot.bucket) []))
acted_by step x i slot e =
    ap (λ (o : Option CallSlot). acted step x.book.calls (suc i) x.book.ledger (tokens_in x.book.buckets (bucket_at o))) e
    ∙ ap (acted_on step x.book.calls x.book.ledger (tokens_in x.book.buckets slot.bucket)) (index_is x.book.calls i slot e)
    ∙ ap (acted_at step x.book.calls i x.book.ledger (tokens_in x.book.buckets slot.bucket)) e

abbrev as_acted : Stepped → List CallSlot → Acted
as_acted out l = record { calls = l; ledger = out.ledger; tokens = out.tokens; acts = out.acts }

twice_at : (f g : Stepped → Stepped) (x : StateSeen) (i : ℕ) (slot : CallSlot) (k : CallState) → slice_get x.book.calls i ≡ Some slot
    → f (lent slot.call x.book.ledger (tokens_in x.book.buckets slot.bucket) []) ≡ g (lent k x.book.ledger (tokens_in x.book.buckets slot.bucket) [])
    → IsTwoSteps f g x (suc i) slot k
twice_at f g x i slot k e same =
    let calls : List CallSlot = slice_set x.book.calls i (with_call k slot) in
    let between : StateSeen = record x { book = record x.book { calls = calls } } in
    let there : slice_get calls i ≡ Some (with_call k slot) = set_here x.book.calls i slot (with_call k slot) e in
    let out : Stepped = g (lent k x.book.ledger (tokens_in x.book.buckets slot.bucket) []) in
    let once : acted f x.book.calls (suc i) x.book.ledger (tokens_in x.book.buckets (bucket_at (slot_at x.book (suc i)))) ≡ acted_as x.book.calls i slot out
    = acted_by f x i slot e ∙ ap (acted_as x.book.calls i slot) same in
    let again : acted g calls (suc i) x.book.ledger (tokens_in x.book.buckets (bucket_at (slot_at between.book (suc i)))) ≡ acted_as calls i (with_call k slot) out
    = acted_by g between i (with_call k slot) there in
    let sets : acted_as calls i (with_call k slot) out ≡ acted_as x.book.calls i slot out
    = ap (as_acted out) (set_twice x.book.calls i (with_call k slot) (with_call out.call slot)) in
    record {
      calls = calls;
      put = record { long = set_long x.book.calls i (with_call k slot); mine = there; others = λ j off. others_by x.book.calls i j (with_call k slot) off };
      same = ap (λ (a : Acted). with_book (placed_in_book a x.book) (suc i) x) once ∙ sym (ap (λ (a : Acted). with_book (placed_in_book a x.book) (suc i) x) (again ∙ sets));
    }

pub twice : (f g : Stepped → Stepped) (x : StateSeen) (n : ℕ) (slot : CallSlot) (k : CallState) → slot_at x.book n ≡ Some slot
    → f (lent slot.call x.book.ledger (tokens_in x.book.buckets slot.bucket) []) ≡ g (lent k x.book.ledger (tokens_in x.book.buckets slot.bucket) [])
    → IsTwoSteps f g x n slot k
twice f g x zero slot k e same = absurd (cc)
twice f g x (suc i) slot k e same = twice_at f g x i slot k e same
