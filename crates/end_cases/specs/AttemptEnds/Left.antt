-- Attempts whose ends a session still owes. One frame may end several attempts of a link: GOAWAY ends those whose streams it leaves out, and those that wait for a
-- stream. The link drops all of them at once; in the session they end one after the other, the lowest place first, each with what follows from it. So between two of
-- these ends the link is as far as the session will be once the others have ended too (RFC 9113, section 6.8).
-- Example: the attempts 1, 2 and 3 are on the streams 1, 3 and 5 of link 1, and GOAWAY with the last stream 1 comes. Once attempt 2 has ended, the end of attempt 3 is
-- left: link 1 has the stream 1 and a reader of attempt 1 alone, and the resets of the streams 3 and 5 are queued.
use Rattle.std.specs.List.{list_all}
use Rattle.std.specs.Prelude.{List, [], length, nat_le, true, ℕ, ◌∷◌, ◌≡◌}
use Rattle.attempt_ledger.specs.declared.row.RowEnd.{RowEnd}
use Rattle.session_actions.specs.AttemptEnds.{with_end}
use Rattle.session_actions.specs.Words.{changed}
use Rattle.session_actions.specs.declared.attempt.Attempt.{Attempt}
use Rattle.session_actions.specs.declared.seen.Seen.{Seen}

-- the attempts, once those at these places have ended so
abbrev pub rows_ended : List (ℕ × RowEnd) → List Attempt → List Attempt
rows_ended [] xs = xs
rows_ended (x ∷ left) xs = rows_ended left (changed (with_end x.1) x.0 xs)

-- and the session, as far as its links go by it. (Of what is left, tokens, marks and random words bear on no link.)
abbrev pub all_left : List (ℕ × RowEnd) → Seen → Seen
all_left left s = record s { attempts = rows_ended left s.attempts }

-- they are there
abbrev pub AttemptsAreThere : List (ℕ × RowEnd) → Seen → Type 0
AttemptsAreThere left s = list_all (λ x. nat_le x.0 (length s.attempts)) left ≡ true
