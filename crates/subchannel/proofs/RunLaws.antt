-- One subchannel of a board over whole runs.
use Rattle.std.proofs.Common.{◌≡◌, ◌⊎◌, inl, inr, ℕ, zero, suc, Bool, true, false, ◌&&◌, ◌||◌, not, if◌then◌else◌, is_some, Option, Some, None, IsSomeAnd, List, [], ◌∷◌, ◌++◌, map, slice_get, refl, ap, sym, subst, ◌∙◌}
use Rattle.grpc_base.specs.declared.address.Address.{Address}
use Rattle.grpc_base.specs.declared.event.Conn.{Conn}
use Rattle.grpc_base.specs.declared.event.Conn.TheVariants as conn
use Rattle.grpc_base.specs.Addresses.{has_address}
use Rattle.subchannel.specs.Records.{SubRecord, is_live, is_connecting, is_ready, is_failure, is_idle, is_dialable, is_dialing, awaits_preface, is_due, wished, dialed, linked_up, failed, prefaced, lost, clocked, backing_off, shut_down, next_dials, again_after, until_after}
use Rattle.subchannel.specs.Boards.{numbered, changed, changed_at, clocked_at, first_number, kept_or_shut}
use Rattle.subchannel.specs.Runs.{BoardCall, Keep, Wished, Dial, Up, Failed, Ready, Lost, Clock, after_call, after_calls, IsLater, MayEndFailure}
use Rattle.subchannel.proofs.KeepLaws.{is_live-kept}
use Rattle.subchannel.proofs.StepLaws.{keeps_live-wished, keeps_live-dialed, keeps_live-linked_up, keeps_live-failed, keeps_live-prefaced, keeps_live-lost, keeps_live-clocked}

-- what a call does to one subchannel, if it does anything
abbrev pub step_of : BoardCall → SubRecord → SubRecord
step_of (Keep current pending) = kept_or_shut current pending
step_of (Wished number) = wished
step_of (Dial number moment word) = dialed moment word
step_of (Up number) = linked_up
step_of (Failed number) = failed
step_of (Ready number) = prefaced
step_of (Lost number) = lost
step_of (Clock moment) = clocked moment

-- one element of a list that changed at a place
get-changed : (f : SubRecord → SubRecord) (subs : List SubRecord) (place i : ℕ) (s : SubRecord) → slice_get subs i ≡ Some s → (slice_get (changed f subs place) i ≡ Some s) ⊎ (slice_get (changed f subs place) i ≡ Some (f s))
get-changed f [] place i s e = let no : ⊥ = (cc) in absurd no
get-changed f (x ∷ subs) zero zero s e = let same : x ≡ s = (cc) in inr (ap (λ (y : SubRecord). Some (f y)) same)
get-changed f (x ∷ subs) zero (suc i) s e = inl e
get-changed f (x ∷ subs) (suc place) zero s e = inl e
get-changed f (x ∷ subs) (suc place) (suc i) s e = get-changed f subs place i s e

numbered-changed : (f : SubRecord → SubRecord) (subs : List SubRecord) (place number : ℕ) (s : SubRecord) → numbered subs number ≡ Some s → (numbered (changed f subs place) number ≡ Some s) ⊎ (numbered (changed f subs place) number ≡ Some (f s))
numbered-changed f subs place zero s e = let no : ⊥ = (cc) in absurd no
numbered-changed f subs place (suc i) s e = get-changed f subs place i s e

numbered-changed_at : (f : SubRecord → SubRecord) (subs : List SubRecord) (n number : ℕ) (s : SubRecord) → numbered subs number ≡ Some s → (numbered (changed_at f subs n) number ≡ Some s) ⊎ (numbered (changed_at f subs n) number ≡ Some (f s))
numbered-changed_at f subs zero number s e = inl e
numbered-changed_at f subs (suc place) number s e = numbered-changed f subs place number s e

get-mapped : (f : SubRecord → SubRecord) (subs more : List SubRecord) (i : ℕ) (s : SubRecord) → slice_get subs i ≡ Some s → slice_get (map f subs ++ more) i ≡ Some (f s)
get-mapped f [] more i s e = let no : ⊥ = (cc) in absurd no
get-mapped f (x ∷ subs) more zero s e = let same : x ≡ s = (cc) in ap (λ (y : SubRecord). Some (f y)) same
get-mapped f (x ∷ subs) more (suc i) s e = get-mapped f subs more i s e

numbered-mapped : (f : SubRecord → SubRecord) (subs more : List SubRecord) (number : ℕ) (s : SubRecord) → numbered subs number ≡ Some s → numbered (map f subs ++ more) number ≡ Some (f s)
numbered-mapped f subs more zero s e = let no : ⊥ = (cc) in absurd no
numbered-mapped f subs more (suc i) s e = get-mapped f subs more i s e

clocked-step : (moment : ℕ) (subs : List SubRecord) (o : Option ℕ) (number : ℕ) (s : SubRecord) → numbered subs number ≡ Some s → (numbered (clocked_at moment subs o) number ≡ Some s) ⊎ (numbered (clocked_at moment subs o) number ≡ Some (clocked moment s))
clocked-step moment subs None number s e = inl e
clocked-step moment subs (Some n) number s e = numbered-changed_at (clocked moment) subs n number s e

-- a call leaves a subchannel or does its one step
step-at : (call : BoardCall) (subs : List SubRecord) (number : ℕ) (s : SubRecord) → numbered subs number ≡ Some s → (numbered (after_call call subs) number ≡ Some s) ⊎ (numbered (after_call call subs) number ≡ Some (step_of call s))
step-at (Keep current pending) subs number s e = inr (numbered-mapped (kept_or_shut current pending) subs _ number s e)
step-at (Wished n) subs number s e = numbered-changed_at wished subs n number s e
step-at (Dial n moment word) subs number s e = numbered-changed_at (dialed moment word) subs n number s e
step-at (Up n) subs number s e = numbered-changed_at linked_up subs n number s e
step-at (Failed n) subs number s e = numbered-changed_at failed subs n number s e
step-at (Ready n) subs number s e = numbered-changed_at prefaced subs n number s e
step-at (Lost n) subs number s e = numbered-changed_at lost subs n number s e
step-at (Clock moment) subs number s e = clocked-step moment subs (first_number (is_due moment) subs) number s e

-- a choice between two records
state-if : (b : Bool) (x y : SubRecord) (c : Conn) → b ≡ false → y.state ≡ c → (if b then x else y).state ≡ c
state-if true x y c is e = let f : ⊥ = (cc) in absurd f
state-if false x y c is e = e

address-if : (b : Bool) (x y : SubRecord) (a : Address) → x.address ≡ a → y.address ≡ a → (if b then x else y).address ≡ a
address-if true x y a p q = p
address-if false x y a p q = q

-- TRANSIENT_FAILURE after each call
clock-failure : (moment : ℕ) (s : SubRecord) (b : Bool) → is_due moment s ≡ b → s.state ≡ conn.Failure → ((clocked moment s).state ≡ conn.Failure) ⊎ MayEndFailure (Clock moment) s
clock-failure moment s true due e = inr due
clock-failure moment s false due e =
    inl (state-if (is_due moment s) (if is_failure s.state then record s { state = conn.Idle; again = None } else backing_off s) s conn.Failure due e)

keep-failure : (current pending : List Address) (s : SubRecord) (w : Bool) → (has_address current s.address || has_address pending s.address) ≡ w → s.state ≡ conn.Failure → ((kept_or_shut current pending s).state ≡ conn.Failure) ⊎ MayEndFailure (Keep current pending) s
keep-failure current pending s false wanted e = inr wanted
keep-failure current pending s true wanted e =
    inl (state-if (is_live s && not (has_address current s.address || has_address pending s.address)) (shut_down s) s conn.Failure (ap (λ (v : Bool). is_live s && not v) wanted ∙ and_false (is_live s)) e)
  where
    and_false : (b : Bool) → (b && false) ≡ false
    and_false true = refl
    and_false false = refl

failure-step : (call : BoardCall) (s : SubRecord) → s.state ≡ conn.Failure → ((step_of call s).state ≡ conn.Failure) ⊎ MayEndFailure call s
failure-step (Keep current pending) s e = keep-failure current pending s (has_address current s.address || has_address pending s.address) refl e
failure-step (Wished n) s e = inl (state-if (is_idle s.state) (record s { state = conn.Connecting }) s conn.Failure (ap is_idle e) e)
failure-step (Dial n moment word) s e =
    inl (state-if (is_dialable s) (record s { dials = next_dials s; again = Some (again_after s moment word); until = Some (until_after s moment word) }) s conn.Failure (ap (λ (c : Conn). is_connecting c && not (is_some s.until)) e) e)
failure-step (Up n) s e = inl (state-if (is_dialing s) (record s { linked = true }) s conn.Failure (ap (λ (c : Conn). is_connecting c && is_some s.until && not s.linked) e) e)
failure-step (Failed n) s e = inl (state-if (is_dialing s) (backing_off s) s conn.Failure (ap (λ (c : Conn). is_connecting c && is_some s.until && not s.linked) e) e)
failure-step (Ready n) s e =
    inl (state-if (awaits_preface s) (record s { state = conn.Ready; dials = 0; again = None; until = None }) s conn.Failure (ap (λ (c : Conn). is_connecting c && is_some s.until && s.linked) e) e)
failure-step (Lost n) s e =
    inl (state-if (awaits_preface s) (backing_off s) (if is_ready s.state then record s { state = conn.Idle; linked = false } else s) conn.Failure (ap (λ (c : Conn). is_connecting c && is_some s.until && s.linked) e) (state-if (is_ready s.state) (record s { state = conn.Idle; linked = false }) s conn.Failure (ap is_ready e) e))
failure-step (Clock moment) s e = clock-failure moment s (is_due moment s) refl e

pub failure-stays : (call : BoardCall) (subs : List SubRecord) (number : ℕ) (s : SubRecord) → numbered subs number ≡ Some s → s.state ≡ conn.Failure → IsSomeAnd (numbered (after_call call subs) number) (λ t. (t.state ≡ conn.Failure) ⊎ MayEndFailure call s)
failure-stays call subs number s at e =
    let P : Option SubRecord → Type 0 = λ (o : Option SubRecord). IsSomeAnd o (λ t. (t.state ≡ conn.Failure) ⊎ MayEndFailure call s) in
    elim (step-at call subs number s at) [ inl same ↦ subst P (sym same) (inl e) | inr step ↦ subst P (sym step) (failure-step call s e) ]

-- a subchannel one call later
pub address-step : (call : BoardCall) (s : SubRecord) → (step_of call s).address ≡ s.address
address-step (Keep current pending) s = address-if (is_live s && not (has_address current s.address || has_address pending s.address)) (shut_down s) s s.address refl refl
address-step (Wished n) s = address-if (is_idle s.state) (record s { state = conn.Connecting }) s s.address refl refl
address-step (Dial n moment word) s =
    address-if (is_dialable s) (record s { dials = next_dials s; again = Some (again_after s moment word); until = Some (until_after s moment word) }) s s.address refl refl
address-step (Up n) s = address-if (is_dialing s) (record s { linked = true }) s s.address refl refl
address-step (Failed n) s = address-if (is_dialing s) (backing_off s) s s.address refl refl
address-step (Ready n) s =
    address-if (awaits_preface s) (record s { state = conn.Ready; dials = 0; again = None; until = None }) s s.address refl refl
address-step (Lost n) s =
    address-if (awaits_preface s) (backing_off s) (if is_ready s.state then record s { state = conn.Idle; linked = false } else s) s.address refl (address-if (is_ready s.state) (record s { state = conn.Idle; linked = false }) s s.address refl refl)
address-step (Clock moment) s =
    address-if (is_due moment s) (if is_failure s.state then record s { state = conn.Idle; again = None } else backing_off s) s s.address (address-if (is_failure s.state) (record s { state = conn.Idle; again = None }) (backing_off s) s.address refl refl) refl

shut-step : (call : BoardCall) (s : SubRecord) → is_live s ≡ false → is_live (step_of call s) ≡ false
shut-step (Keep current pending) s e =
    is_live-kept current pending s ∙ ap (λ (b : Bool). b && (has_address current s.address || has_address pending s.address)) e
shut-step (Wished n) s e = keeps_live-wished s ∙ e
shut-step (Dial n moment word) s e = keeps_live-dialed moment word s ∙ e
shut-step (Up n) s e = keeps_live-linked_up s ∙ e
shut-step (Failed n) s e = keeps_live-failed s ∙ e
shut-step (Ready n) s e = keeps_live-prefaced s ∙ e
shut-step (Lost n) s e = keeps_live-lost s ∙ e
shut-step (Clock moment) s e = keeps_live-clocked moment s ∙ e

later-more : (s t u : SubRecord) → t.address ≡ s.address → (is_live s ≡ false → is_live t ≡ false) → IsLater t u → IsLater s u
later-more s t u a shut later = record { same_address = later.same_address ∙ a; stays_shut = λ e. later.stays_shut (shut e) }

some_and-map : (o : Option SubRecord) (P Q : SubRecord → Type 0) → ((t : SubRecord) → P t → Q t) → IsSomeAnd o P → IsSomeAnd o Q
some_and-map None P Q f h = h
some_and-map (Some t) P Q f h = f t h

pub numbers-stay : (calls : List BoardCall) (subs : List SubRecord) (number : ℕ) (s : SubRecord) → numbered subs number ≡ Some s → IsSomeAnd (numbered (after_calls calls subs) number) (λ t. IsLater s t)
numbers-stay [] subs number s e =
    let P : Option SubRecord → Type 0 = λ (o : Option SubRecord). IsSomeAnd o (λ t. IsLater s t) in
    subst P (sym e) (record { same_address = refl; stays_shut = λ h. h })
numbers-stay (call ∷ calls) subs number s e =
    elim (step-at call subs number s e) [ inl same ↦ numbers-stay calls (after_call call subs) number s same | inr step ↦ some_and-map (numbered (after_calls calls (after_call call subs)) number) (λ t. IsLater (step_of call s) t) (λ t. IsLater s t) (λ t. later-more s (step_of call s) t (address-step call s) (shut-step call s)) (numbers-stay calls (after_call call subs) number (step_of call s) step) ]
