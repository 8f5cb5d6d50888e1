-- What every session keeps in order: the things of a session have the numbers of their places. So it is of a new session, and stays so after every
-- action, whether or not it was the next one.
-- Example: the third call that began has the number 3, and stands third in the list, for good.
use Rattle.std.specs.Prelude.{List, Some, ℕ, ◌≡◌}
use Rattle.session_actions.specs.Actions.{after}
use Rattle.session_actions.specs.Sessions.{Does, new_session}
use Rattle.session_actions.specs.Words.{numbered}
use Rattle.session_actions.specs.declared.action.Action.{Action}
use Rattle.session_actions.specs.declared.seen.Seen.{Seen}
use Rattle.session_actions.specs.declared.seen.Setup.{Setup}

-- each thing of a list has the number of its place
abbrev pub HasPlaces : {X : Type 0} → (X → ℕ) → List X → Type 0
HasPlaces {X = X} number xs = (k : ℕ) (x : X) → numbered xs k ≡ Some x → number x ≡ k

pub record IsInPlace (s : Seen) : Type 0 where
  pub calls : HasPlaces (λ c. c.number) s.calls
  pub attempts : HasPlaces (λ a. a.place) s.attempts
  pub policies : HasPlaces (λ g. g.number) s.policies
  pub subs : HasPlaces (λ b. b.number) s.subs
  pub links : HasPlaces (λ l. l.number) s.links

abbrev pub ActionsKeepPlaces : Type 0
ActionsKeepPlaces = (a : Action) (s : Seen) → IsInPlace s → IsInPlace (after a s)

abbrev pub SessionsAreInPlace : Type 0
SessionsAreInPlace = (setup : Setup) (actions : List Action) (s : Seen) → Does actions (new_session setup) s → IsInPlace s
