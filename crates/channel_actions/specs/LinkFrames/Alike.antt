-- What a session did since, in which some links see no difference: on each of them the same passed, the same bytes came, and it owes the same. The attempts that are
-- outstanding on it are the same, with the same streams; and of their calls no message was taken back, and the longest message that a response may have is the same.
-- Example: link 1 has attempt 1, and link 2 has attempt 2, which is cut off, and its stream is reset. Link 1 sees no difference: attempt 1 is as before.
use Rattle.std.specs.List.{AllByRecursion}
use Rattle.std.specs.Prelude.{Bool, List, Some, [], false, true, ℕ, ◌&&◌, ◌==◌, ◌∷◌, ◌≡◌, ◌≤◌}
use Rattle.session_actions.specs.Attempts.{call_of, is_outstanding}
use Rattle.session_actions.specs.Configs.{chosen_of}
use Rattle.session_actions.specs.Words.{holds, numbered}
use Rattle.session_actions.specs.Writing.{accepted_bytes}
use Rattle.session_actions.specs.declared.attempt.Attempt.{Attempt}
use Rattle.session_actions.specs.declared.call.Call.{Call}
use Rattle.session_actions.specs.declared.link.Link.{Link}
use Rattle.session_actions.specs.declared.seen.Seen.{Seen}
use Rattle.link_actions.specs.SteadyLinks.Same.{IsSameLink}

-- some links, by their numbers
abbrev pub Numbers : Type 0
Numbers = ℕ → Bool

-- outstanding on the link of a number
abbrev pub is_on : ℕ → Attempt → Bool
is_on link a = is_outstanding a && holds (λ at. at.link == link) a.row.placed

-- a link, before and after: over only if it was; and the same came, and passed, on it. (It may be stamped as gone.)
pub record IsLinkStill (l m : Link) : Type 0 where
  pub same : IsSameLink l m
  pub over : m.over ≡ l.over
  pub received : m.received ≡ l.received

-- the call of an attempt, before and after
pub record IsCallStill (s t : Seen) (c : Call) (b : Attempt) : Type 0 where
  pub call : Call
  pub is : call_of b t ≡ Some call
  pub limit : (chosen_of call t).response ≡ (chosen_of c s).response
  pub more : accepted_bytes c ≤ accepted_bytes call

-- an attempt of one of those links, before and after
pub record IsAttemptStill (s t : Seen) (a b : Attempt) : Type 0 where
  pub stream : b.row.stream ≡ a.row.stream
  pub calls : (c : Call) → call_of a s ≡ Some c → IsCallStill s t c b

-- any attempt: it is on those of the others on which it was
pub record IsAlike (touched : Numbers) (s t : Seen) (a b : Attempt) : Type 0 where
  pub place : b.place ≡ a.place
  pub on : (link : ℕ) → touched link ≡ false → is_on link b ≡ is_on link a
  pub still : (link : ℕ) → touched link ≡ false → is_on link a ≡ true → IsAttemptStill s t a b

-- all attempts; those that came since are on none of the others
abbrev pub IsElsewhere : Numbers → Attempt → Type 0
IsElsewhere touched b = (link : ℕ) → touched link ≡ false → is_on link b ≡ false

abbrev pub AttemptsAreAlike : Numbers → Seen → Seen → List Attempt → List Attempt → Type 0
AttemptsAreAlike touched s t [] bs = AllByRecursion (IsElsewhere touched) bs
AttemptsAreAlike touched s t (a ∷ as_) (b ∷ bs) = IsAlike touched s t a b × AttemptsAreAlike touched s t as_ bs
AttemptsAreAlike touched s t (a ∷ as_) [] = ⊥

-- each link but those that are named was there, and sees no difference
pub record SeesNoDifference (touched : Numbers) (s t : Seen) : Type 0 where
  pub links : (link : ℕ) (m : Link) → touched link ≡ false → numbered t.links link ≡ Some m → (l : Link) × (numbered s.links link ≡ Some l) × IsLinkStill l m
  pub attempts : AttemptsAreAlike touched s t s.attempts t.attempts
