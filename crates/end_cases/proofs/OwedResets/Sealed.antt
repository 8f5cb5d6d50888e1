-- What the channel queued on links is closed: each link has what it had, and whatever is queued from then on comes after it.
use Rattle.std.proofs.Common.{◌≡◌, ◌||◌, ◌==◌, ◌++◌, ◌∷◌, ap, refl, sym, ◌∙◌, Bool, true, false, List, [], Option, None, Some, ℕ, if◌then◌else◌, length}
use Rattle.std.proofs.lemmas.Bool.{eqb-false, eqb-true}
use Rattle.std.specs.Option.{option_map}
use Rattle.end_cases.specs.AttemptEnds.Laws.{all_sealed}
use Rattle.channel_core.proofs.BookLaws.{number_changed, number_other}
use Rattle.channel_core.proofs.Resting.{changed_length}
use Rattle.channel_core.specs.States.{StateSeen}
use Rattle.channel_core.specs.Steps.{links_sealed, sealed_one}
use Rattle.channel_core.specs.Tables.{numbered, sealed_in, sealed_link, with_link}
use Rattle.channel_core.specs.declared.state.links.LinkSlot.{LinkSlot}
use Rattle.h2_link.specs.Feeds.{Line}
use Rattle.lb_policy.specs.Table.{is_one_of}
use Rattle.link_actions.proofs.ResetActions.Cuts.{seals_keep}
use Rattle.link_actions.specs.ResetActions.Ahead.{SeesAhead}
use Rattle.session_actions.specs.declared.link.Link.{Link}
use Rattle.session_actions.specs.declared.seen.Seen.{Seen}

abbrev pub seal_all : List ℕ → List LinkSlot → List LinkSlot
seal_all [] links = links
seal_all (k ∷ ks) links = seal_all ks (sealed_in k links)

sealed_links : (ks : List ℕ) (x : StateSeen) → links_sealed ks x ≡ record x { links = seal_all ks x.links }
sealed_links [] x = refl
sealed_links (k ∷ ks) x = sealed_links ks (sealed_one k x)

-- the channel once all of it is closed
pub all_sealed_is : (also : List ℕ) (x : StateSeen) → all_sealed also x ≡ record x { links = seal_all (also ++ x.resets) x.links; resets = [] }
all_sealed_is [] x = sealed_links x.resets (record x { resets = [] })
all_sealed_is (k ∷ also) x = all_sealed_is also (sealed_one k x)

-- one link of it
abbrev pub seal_slot : ℕ → List ℕ → LinkSlot → LinkSlot
seal_slot n [] slot = slot
seal_slot n (k ∷ ks) slot = seal_slot n ks (if k == n then with_link sealed_link slot else slot)

same_some : {X : Type 0} (o : Option X) → o ≡ option_map (λ (x : X). x) o
same_some None = refl
same_some (Some x) = refl

map_twice : {X : Type 0} (f g : X → X) (o : Option X) → option_map g (option_map f o) ≡ option_map (λ (x : X). g (f x)) o
map_twice f g None = refl
map_twice f g (Some x) = refl

one_by : (k n : ℕ) (links : List LinkSlot) (b : Bool) → (k == n) ≡ b
    → numbered (sealed_in k links) n ≡ option_map (λ (slot : LinkSlot). if b then with_link sealed_link slot else slot) (numbered links n)
one_by k n links true e = ap (λ (m : ℕ). numbered (sealed_in m links) n) (eqb-true k n e) ∙ number_changed (with_link sealed_link) links n
one_by k n links false e = number_other (with_link sealed_link) links k n (λ same. eqb-false k n e (sym same)) ∙ same_some (numbered links n)

pub seal_at : (n : ℕ) (ks : List ℕ) (links : List LinkSlot) → numbered (seal_all ks links) n ≡ option_map (seal_slot n ks) (numbered links n)
seal_at n [] links = same_some (numbered links n)
seal_at n (k ∷ ks) links =
    seal_at n ks (sealed_in k links) ∙ ap (option_map (seal_slot n ks)) (one_by k n links (k == n) refl)
    ∙ map_twice (λ (slot : LinkSlot). if k == n then with_link sealed_link slot else slot) (seal_slot n ks) (numbered links n)

pub seal_length : (ks : List ℕ) (links : List LinkSlot) → length (seal_all ks links) ≡ length links
seal_length [] links = refl
seal_length (k ∷ ks) links = seal_length ks (sealed_in k links) ∙ changed_length (with_link sealed_link) links k

-- what it keeps
pub record IsSealed (slot after : LinkSlot) : Type 0 where
  pub dead : after.dead ≡ slot.dead
  pub retiring : after.retiring ≡ slot.retiring
  pub rest : after.link.link.rest ≡ slot.link.link.rest
  pub readers : after.link.readers ≡ slot.link.readers

sealed_on : (a b c : LinkSlot) → IsSealed a b → IsSealed b c → IsSealed a c
sealed_on a b c one two =
    record { dead = two.dead ∙ one.dead; retiring = two.retiring ∙ one.retiring; rest = two.rest ∙ one.rest; readers = two.readers ∙ one.readers }

sealed_if : (b : Bool) (slot : LinkSlot) → IsSealed slot (if b then with_link sealed_link slot else slot)
sealed_if true slot = record { dead = refl; retiring = refl; rest = refl; readers = refl }
sealed_if false slot = record { dead = refl; retiring = refl; rest = refl; readers = refl }

pub slot_sealed : (n : ℕ) (ks : List ℕ) (slot : LinkSlot) → IsSealed slot (seal_slot n ks slot)
slot_sealed n [] slot = record { dead = refl; retiring = refl; rest = refl; readers = refl }
slot_sealed n (k ∷ ks) slot =
    let one : LinkSlot = if k == n then with_link sealed_link slot else slot in
    sealed_on slot one (seal_slot n ks one) (sealed_if (k == n) slot) (slot_sealed n ks one)

module _ (resets : List (ℕ × ℕ)) (l : Link) (s : Seen) (g : ℕ → Line) where
  ahead_if : (b : Bool) (slot : LinkSlot) → SeesAhead resets l s slot.link.link.wire g → SeesAhead resets l s (if b then with_link sealed_link slot else slot).link.link.wire g
  ahead_if true slot is = seals_keep resets l s slot.link.link.wire g is
  ahead_if false slot is = is

  pub slot_ahead : (n : ℕ) (ks : List ℕ) (slot : LinkSlot) → SeesAhead resets l s slot.link.link.wire g → SeesAhead resets l s (seal_slot n ks slot).link.link.wire g
  slot_ahead n [] slot is = is
  slot_ahead n (k ∷ ks) slot is = slot_ahead n ks (if k == n then with_link sealed_link slot else slot) (ahead_if (k == n) slot is)

-- nothing that is queued later stands among what was closed; and what was not closed had nothing
abbrev fresh_of : LinkSlot → ℕ
fresh_of slot = slot.link.link.wire.queue.fresh

fresh_if : (b : Bool) (slot : LinkSlot) → fresh_of slot ≡ 0 → fresh_of (if b then with_link sealed_link slot else slot) ≡ 0
fresh_if true slot e = refl
fresh_if false slot e = e

pub fresh_stays : (n : ℕ) (ks : List ℕ) (slot : LinkSlot) → fresh_of slot ≡ 0 → fresh_of (seal_slot n ks slot) ≡ 0
fresh_stays n [] slot e = e
fresh_stays n (k ∷ ks) slot e = fresh_stays n ks (if k == n then with_link sealed_link slot else slot) (fresh_if (k == n) slot e)

some_by : (n k : ℕ) (ks : List ℕ) (slot : LinkSlot) (b : Bool) → (k == n) ≡ b → (b || is_one_of ks n) ≡ true
    → (is_one_of ks n ≡ true → fresh_of (seal_slot n ks (if k == n then with_link sealed_link slot else slot)) ≡ 0)
    → fresh_of (seal_slot n ks (if k == n then with_link sealed_link slot else slot)) ≡ 0
some_by n k ks slot true e some rest =
    fresh_stays n ks (if k == n then with_link sealed_link slot else slot) (ap (λ (b : Bool). fresh_of (if b then with_link sealed_link slot else slot)) e)
some_by n k ks slot false e some rest = rest some

some_sealed : (n : ℕ) (ks : List ℕ) (slot : LinkSlot) → is_one_of ks n ≡ true → fresh_of (seal_slot n ks slot) ≡ 0
some_sealed n [] slot e = absurd (cc)
some_sealed n (k ∷ ks) slot e =
    some_by n k ks slot (k == n) refl e (some_sealed n ks (if k == n then with_link sealed_link slot else slot))

fresh_by : (n : ℕ) (ks : List ℕ) (slot : LinkSlot) (b : Bool) → is_one_of ks n ≡ b → (b ≡ false → fresh_of slot ≡ 0) → fresh_of (seal_slot n ks slot) ≡ 0
fresh_by n ks slot true e none = some_sealed n ks slot e
fresh_by n ks slot false e none = fresh_stays n ks slot (none refl)

pub all_closed : (n : ℕ) (ks : List ℕ) (slot : LinkSlot) → (is_one_of ks n ≡ false → fresh_of slot ≡ 0) → fresh_of (seal_slot n ks slot) ≡ 0
all_closed n ks slot none = fresh_by n ks slot (is_one_of ks n) refl none
