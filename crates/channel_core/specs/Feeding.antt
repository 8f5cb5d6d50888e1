-- Nobody has to believe these steps: what links take of the bytes that calls have to send.
use Rattle.std.specs.Prelude.{ℕ, List, [], ◌∷◌, ◌++◌, ◌≡◌}
use Rattle.std.proofs.Common.{refl, ap, sym, ◌∙◌}
use Rattle.channel_core.specs.declared.state.book.Book.{Book}
use Rattle.channel_core.specs.Books.{call_of, row_at}
use Rattle.channel_core.specs.Tables.{changed_call, fed_call}

-- some bytes of a row are taken
abbrev pub book_fed : ℕ → ℕ → Book → Book
book_fed tag len b = record b { calls = changed_call (fed_call tag len) b.calls (call_of (row_at b tag)) }

abbrev pub all_fed : List (ℕ × ℕ) → Book → Book
all_fed [] b = b
all_fed (f ∷ feeds) b = all_fed feeds (book_fed f.0 f.1 b)

-- a book after feeds, each a row and how many of its bytes
abbrev pub IsFed : Book → Book → Type 0
IsFed b fed = (feeds : List (ℕ × ℕ)) × (fed ≡ all_fed feeds b)

-- after none, and after feeds and more
pub fed_self : (b : Book) → IsFed b b
fed_self b = ([], refl)

fed_more : (feeds more : List (ℕ × ℕ)) (b : Book) → all_fed (feeds ++ more) b ≡ all_fed more (all_fed feeds b)
fed_more [] more b = refl
fed_more (f ∷ feeds) more b = fed_more feeds more (book_fed f.0 f.1 b)

pub fed_on : (f g h : Book) → IsFed f g → IsFed g h → IsFed f h
fed_on f g h p q = (p.0 ++ q.0, q.1 ∙ ap (all_fed q.0) p.1 ∙ sym (fed_more p.0 q.0 f))
