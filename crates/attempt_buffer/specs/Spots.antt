-- Where a cursor stands among messages, as the code keeps it: by the message and the byte in it, so that nothing is searched.
-- No contract of a public call cites this file.
use Rattle.std.specs.Prelude.{◌≡◌, ◌<◌, ◌≤◌, ℕ, ◌+◌, List, [], ◌∷◌, length, take, drop}
use Rattle.std.specs.List.{concat}

-- no message is empty, and none is longer than a message may be
abbrev pub MessagesAreSized : List (List ℕ) → Type 0
MessagesAreSized [] = Unit {0}
MessagesAreSized (m ∷ ms) = (0 < length m) × (length m ≤ 4194309) × MessagesAreSized ms

-- so many bytes are less than the first message has; none at the end
abbrev pub IsInFirst : ℕ → List (List ℕ) → Type 0
IsInFirst offset [] = offset ≡ 0
IsInFirst offset (m ∷ ms) = offset < length m

-- after so many bytes of the messages stands this byte of this message
pub record IsSpot (messages : List (List ℕ)) (message offset taken : ℕ) : Type 0 where
  pub within : message ≤ length messages
  pub sum : taken ≡ length (concat (take message messages)) + offset
  pub first : IsInFirst offset (drop message messages)
