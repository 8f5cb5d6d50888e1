-- A board over whole runs.
use Rattle.std.specs.Prelude.{◌≡◌, ◌≤◌, ◌⊎◌, ℕ, ◌+◌, true, false, if◌then◌else◌, ◌||◌, Some, IsSomeAnd, List, [], ◌∷◌, ◌++◌}
use Rattle.grpc_base.specs.declared.address.Address.{Address}
use Rattle.grpc_base.specs.declared.event.Conn.TheVariants as conn
use Rattle.grpc_base.specs.Addresses.{IsWithoutRepeats, has_address}
use Rattle.subchannel.specs.Records.{SubRecord, is_live, is_due, wished, dialed, linked_up, failed, prefaced, lost}
use Rattle.subchannel.specs.Boards.{numbered, changed_at, first_clocked, is_live_at, kept}

-- a call that may change a board
pub data BoardCall : Type 0 where
  Keep : List Address → List Address → BoardCall
  Wished : ℕ → BoardCall
  Dial : ℕ → ℕ → ℕ → BoardCall
  Up : ℕ → BoardCall
  Failed : ℕ → BoardCall
  Ready : ℕ → BoardCall
  Lost : ℕ → BoardCall
  Clock : ℕ → BoardCall

-- the list after one call, and after several
abbrev pub after_call : BoardCall → List SubRecord → List SubRecord
after_call (Keep current pending) subs = kept current pending subs
after_call (Wished number) subs = changed_at wished subs number
after_call (Dial number moment word) subs = changed_at (dialed moment word) subs number
after_call (Up number) subs = changed_at linked_up subs number
after_call (Failed number) subs = changed_at failed subs number
after_call (Ready number) subs = changed_at prefaced subs number
after_call (Lost number) subs = changed_at lost subs number
after_call (Clock moment) subs = first_clocked moment subs

abbrev pub after_calls : List BoardCall → List SubRecord → List SubRecord
after_calls [] subs = subs
after_calls (call ∷ calls) subs = after_calls calls (after_call call subs)

-- each list that is to be kept has no address twice, as every list of addresses
abbrev pub ListsAreDistinct : BoardCall → Type 0
ListsAreDistinct (Keep current pending) = IsWithoutRepeats current × IsWithoutRepeats pending
ListsAreDistinct _ = Unit {0}

abbrev pub AllAreLists : List BoardCall → Type 0
AllAreLists [] = Unit {0}
AllAreLists (call ∷ calls) = ListsAreDistinct call × AllAreLists calls

-- how many live subchannels an address has
abbrev pub live_count : Address → List SubRecord → ℕ
live_count a [] = 0
live_count a (s ∷ subs) = (if is_live_at a s then 1 else 0) + live_count a subs

-- one subchannel some calls later: its address stays, and once SHUTDOWN it stays so
pub record IsLater (s t : SubRecord) : Type 0 where
  pub same_address : t.address ≡ s.address
  pub stays_shut : is_live s ≡ false → is_live t ≡ false

-- the calls that may end a TRANSIENT_FAILURE: the clock once the backoff is over, and lists without its address
abbrev pub MayEndFailure : BoardCall → SubRecord → Type 0
MayEndFailure (Clock moment) s = is_due moment s ≡ true
MayEndFailure (Keep current pending) s = (has_address current s.address || has_address pending s.address) ≡ false
MayEndFailure _ s = ⊥

-- each address has at most one live subchannel, and each address of two lists that are kept has one
abbrev pub LiveOnce : Type 0
LiveOnce = (calls : List BoardCall) → AllAreLists calls → (a : Address) → live_count a (after_calls calls []) ≤ 1

abbrev pub LiveWhereKept : Type 0
LiveWhereKept =
    (calls : List BoardCall) (current pending : List Address) → AllAreLists calls → ListsAreDistinct (Keep current pending) → (a : Address) → live_count a (after_calls (calls ++ Keep current pending ∷ []) []) ≡ (if has_address current a || has_address pending a then 1 else 0)

-- a number is that of one subchannel for good
abbrev pub NumbersStay : Type 0
NumbersStay =
    (calls : List BoardCall) (subs : List SubRecord) (number : ℕ) (s : SubRecord) → numbered subs number ≡ Some s → IsSomeAnd (numbered (after_calls calls subs) number) (λ t. IsLater s t)

-- a TRANSIENT_FAILURE ends by the clock or a shutdown
abbrev pub FailureStays : Type 0
FailureStays =
    (call : BoardCall) (subs : List SubRecord) (number : ℕ) (s : SubRecord) → numbered subs number ≡ Some s → s.state ≡ conn.Failure → IsSomeAnd (numbered (after_call call subs) number) (λ t. (t.state ≡ conn.Failure) ⊎ MayEndFailure call s)
