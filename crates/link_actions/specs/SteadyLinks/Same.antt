-- When a link cannot distinguish two sessions: what passed on it and what it owes is the same. Its attempts have the same places and streams, the same limits
-- for their responses, and are fed right; and the attempts that came since are on no link.
-- Example: a call is committed to its attempt 1, which has stream 1 of link 1. The attempt is noted to be committed, and its call has one mark more. Link 1
-- looks at neither.
use Rattle.std.specs.List.{AllByRecursion}
use Rattle.std.specs.Prelude.{List, None, [], true, ℕ, ◌∷◌, ◌≡◌}
use Rattle.h2_link.specs.Feeds.{Line}
use Rattle.link_actions.specs.Sees.{IsFed}
use Rattle.session_actions.specs.Reading.{is_outstanding_on}
use Rattle.session_actions.specs.Responses.{limit_of_attempt}
use Rattle.session_actions.specs.declared.attempt.Attempt.{Attempt}
use Rattle.session_actions.specs.declared.link.Link.{Link}
use Rattle.session_actions.specs.declared.seen.Seen.{Seen}

-- what passed on a link, and what it owes. (Bytes that were not read may have come; and it may be over, or gone.)
pub record IsSameLink (l m : Link) : Type 0 where
  pub number : m.number ≡ l.number
  pub traffic_ : m.traffic ≡ l.traffic
  pub owed : m.owed ≡ l.owed

-- an attempt, before and after
pub record IsSameOn (l m : Link) (s t : Seen) (h : ℕ → Line) (a b : Attempt) : Type 0 where
  pub place : b.place ≡ a.place
  pub placed : b.row.placed ≡ a.row.placed
  pub stream : b.row.stream ≡ a.row.stream
  pub ended : b.row.ended ≡ a.row.ended
  pub limit : is_outstanding_on l a ≡ true → limit_of_attempt b t ≡ limit_of_attempt a s
  pub fed : is_outstanding_on l a ≡ true → IsFed m t b (h b.place)

abbrev pub LinesAreSameOn : Link → Link → Seen → Seen → (ℕ → Line) → List Attempt → List Attempt → Type 0
LinesAreSameOn l m s t h [] bs = AllByRecursion (λ b. b.row.placed ≡ None) bs
LinesAreSameOn l m s t h (a ∷ as_) (b ∷ bs) = IsSameOn l m s t h a b × LinesAreSameOn l m s t h as_ bs
LinesAreSameOn l m s t h (a ∷ as_) [] = ⊥
