-- What a call on a lock promises of the handle.
use Rattle.std.specs.Prelude.{◌≡◌, ℕ, ◌<◌, List, [], ◌∷◌, ◌++◌, length}
use Rattle.turn_lock.specs.History.{SeatSeen, StartsWith, places, Owns}

module _ {E : Type 0} where
  -- a claim found this holder; nothing else changed
  abbrev pub FoundHolder : SeatSeen E → ℕ → SeatSeen E → Type 0
  FoundHolder before holder after = (0 < holder) × (after ≡ record before { found = before.found ++ holder ∷ [] })

  -- the handle sees this much of the history, which begins with what it had seen
  pub record Sees (before after : SeatSeen E) : Type 0 where
    pub later : StartsWith after.seen before.seen
    pub owns : Owns after.parts after.own after.seen

-- One turn: the job ran on the state of the handle's lock, whose list begins with all that the handle had seen. It only appended, and
-- what it appended is the end of the history that is then seen, and the handle's own.
pub record TakesTurn {S E A J : Type 0} (entries : S → List E) (origin : S → List ℕ) (runs : J → S → A → J → S → Type 0) (job : J) (before : SeatSeen E) (answer : A) (job_after : J) (after : SeatSeen E) : Type 0 where
  pub start : S
  pub end : S
  pub sees : StartsWith (entries start) before.seen
  pub owns : Owns before.parts before.own (entries start)
  pub from : origin start ≡ before.lock.origin
  pub ran : runs job start answer job_after end
  pub kept : origin end ≡ origin start
  pub made : List E
  pub appends : entries end ≡ entries start ++ made
  pub seat : after ≡ record before { seen = entries end; own = before.own ++ places (length (entries start)) made }
