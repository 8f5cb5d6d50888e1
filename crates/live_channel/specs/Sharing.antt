-- Whose the entries of a journal are: those of the applications, each of one of them, and the Shutdown after them.
use Rattle.std.specs.Prelude.{◌≡◌, ◌≤◌, ℕ, ◌+◌, Bool, true, false, List, [], ◌∷◌, ◌++◌, Some, slice_get, length}
use Rattle.grpc_base.specs.declared.event.Entry.{Entry}
use Rattle.grpc_base.specs.declared.event.Event.{Event}
use Rattle.grpc_base.specs.declared.event.Event.TheVariants as event
use Rattle.session_text.specs.declared.ran.Ran.{Ran}
use Rattle.session_text.specs.declared.ran.Ran.TheVariants as ran
use Rattle.turn_lock.specs.History.{times}

-- an event of an application: one that calls are made of
abbrev pub is_of_call : Event → Bool
is_of_call (event.Begin request) = true
is_of_call (event.Send call message) = true
is_of_call (event.Finish call) = true
is_of_call (event.Take call) = true
is_of_call (event.Cancel call) = true
is_of_call _ = false

abbrev pub IsOfCall : Event → Type 0
IsOfCall e = is_of_call e ≡ true

-- how often the place x stands in these lists
abbrev pub times_in : {E : Type 0} → ℕ → List (List (ℕ × E)) → ℕ
times_in x [] = 0
times_in x (own ∷ owns) = times x own + times_in x owns

-- a Shutdown is the first of these
abbrev pub IsShutFirst : List Entry → Type 0
IsShutFirst entries = (first : Entry) × (rest : List Entry) × (first.event ≡ event.Shutdown) × (entries ≡ first ∷ rest)

-- Each of these lists is of a prefix of the journal: no entry is of two of them, and each entry of an application is of one of them. Where
-- all went well a Shutdown stands next after that prefix, and in any case nowhere else
pub record SharesOut (r : Ran) (owns : List (List (ℕ × Entry))) (prefix rest entries : List Entry) : Type 0 where
  pub parts : entries ≡ prefix ++ rest
  pub once : (x : ℕ) → times_in x owns ≤ 1
  pub only : (x : ℕ) (e : Entry) → slice_get entries x ≡ Some e → is_of_call e.event ≡ true → times_in x owns ≡ 1
  pub shut : r ≡ ran.Whole → IsShutFirst rest
  pub alone : (x : ℕ) (e : Entry) → slice_get entries x ≡ Some e → e.event ≡ event.Shutdown → x ≡ length prefix
