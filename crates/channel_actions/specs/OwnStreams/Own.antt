-- No two attempts of a link have one stream (RFC 9113, section 5.1.1): the stream of each was opened on its link, and a new one gets the next odd number.
-- Example: attempts 1 and 2 are on link 1 and have the streams 1 and 3; the next stream of link 1 is 5. Attempt 3 is on link 2, and has stream 1 there.
use Rattle.std.specs.List.{list_all}
use Rattle.std.specs.Option.{option_map_or}
use Rattle.std.specs.Prelude.{Bool, List, Some, nat_lt, true, ℕ, ◌≡◌}
use Rattle.attempt_ledger.specs.declared.row.Placed.{Placed}
use Rattle.session_actions.specs.Words.{holds, numbered}
use Rattle.session_actions.specs.Writing.{next_stream}
use Rattle.session_actions.specs.declared.attempt.Attempt.{Attempt}
use Rattle.session_actions.specs.declared.link.Link.{Link}
use Rattle.session_actions.specs.declared.seen.Seen.{Seen}

-- a stream was opened on a link; an attempt has none, or one that was opened on the link on which it is
abbrev pub is_below_next : List Link → ℕ → ℕ → Bool
is_below_next links n link = holds (λ l. nat_lt n (next_stream l)) (numbered links link)

abbrev pub is_opened : List Link → Attempt → Bool
is_opened links a = option_map_or (λ n. holds (λ at. is_below_next links n at.link) a.row.placed) a.row.stream true

-- two attempts that have one stream of one link are the same
abbrev pub StreamsAreApart : List Attempt → Type 0
StreamsAreApart attempts =
    (i j n : ℕ) (a b : Attempt) (at to : Placed) → numbered attempts i ≡ Some a → numbered attempts j ≡ Some b → a.row.placed ≡ Some at → b.row.placed ≡ Some to
    → at.link ≡ to.link → a.row.stream ≡ Some n → b.row.stream ≡ Some n → i ≡ j

pub record StreamsAreOwn (s : Seen) : Type 0 where
  pub opened : list_all (is_opened s.links) s.attempts ≡ true
  pub apart : StreamsAreApart s.attempts
