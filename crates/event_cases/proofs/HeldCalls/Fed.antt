-- The buffer of a call in a book after feeds: it was fed with those of its rows, one after the other.
use Rattle.call_core.specs.Parts.{fed_buffer}
use Rattle.channel_actions.specs.DrainCalls.Laws.{fed_some}
use Rattle.channel_core.proofs.BookLaws.{called, number_changed, number_other, put_call}
use Rattle.channel_core.specs.Books.{call_of, row_at, slot_at}
use Rattle.channel_core.specs.Feeding.{all_fed, book_fed}
use Rattle.channel_core.specs.Tables as table
use Rattle.channel_core.specs.Tables.{fed_call}
use Rattle.channel_core.specs.declared.state.book.Book.{Book}
use Rattle.channel_core.specs.declared.state.slots.CallSlot.{CallSlot}
use Rattle.ledger_stamps.specs.Steps.{changed_at}
use Rattle.std.proofs.Common.{Bool, List, None, Option, Some, [], ap, eqb-true, false, if◌then◌else◌, option_map, refl, sym, true, ℕ, ◌==◌, ◌∙◌, ◌∷◌, ◌≡◌}
use Rattle.std.proofs.lemmas.Bool.{eqb-false}

fed_calls : (tag len : ℕ) (b : Book) → (book_fed tag len b).calls ≡ changed_at (called (fed_call tag len)) b.calls (call_of (row_at b tag))
fed_calls tag len b = put_call (fed_call tag len) b.calls (call_of (row_at b tag))

-- whose row it is
abbrev pub is_row_of : Book → ℕ → ℕ → Bool
is_row_of b number tag = number == call_of (row_at b tag)

one_there : (tag len : ℕ) (b : Book) (number : ℕ) (slot : CallSlot) (c : Bool) → is_row_of b number tag ≡ c → slot_at b number ≡ Some slot
    → slot_at (book_fed tag len b) number ≡ Some (if c then called (fed_call tag len) slot else slot)
one_there tag len b number slot true same there =
    let n : ℕ = call_of (row_at b tag) in
    let e : number ≡ n = eqb-true number n same in
    ap (λ (ls : List CallSlot). table.numbered ls number) (fed_calls tag len b)
    ∙ ap (λ (k : ℕ). table.numbered (changed_at (called (fed_call tag len)) b.calls n) k) e
    ∙ number_changed (called (fed_call tag len)) b.calls n
    ∙ ap (λ (k : ℕ). option_map (called (fed_call tag len)) (table.numbered b.calls k)) (sym e)
    ∙ ap (option_map (called (fed_call tag len))) there
one_there tag len b number slot false other there =
    ap (λ (ls : List CallSlot). table.numbered ls number) (fed_calls tag len b)
    ∙ number_other (called (fed_call tag len)) b.calls (call_of (row_at b tag)) number (eqb-false number (call_of (row_at b tag)) other) ∙ there

one_buffer : (tag len : ℕ) (slot : CallSlot) (c : Bool)
    → (if c then called (fed_call tag len) slot else slot).call.buffer ≡ (if c then fed_buffer tag len slot.call.buffer else slot.call.buffer)
one_buffer tag len slot true = refl
one_buffer tag len slot false = refl

one_of : {X : Type 0} (o : Option X) (x y : X) → o ≡ Some x → o ≡ Some y → x ≡ y
one_of None x y e f = absurd (cc)
one_of (Some z) x y e f = (cc)

pub buffer_after : (feeds : List (ℕ × ℕ)) (b : Book) (number : ℕ) (old new : CallSlot) → slot_at b number ≡ Some old → slot_at (all_fed feeds b) number ≡ Some new
    → new.call.buffer ≡ fed_some (is_row_of b number) feeds old.call.buffer
buffer_after [] b number old new was is = ap (λ (z : CallSlot). z.call.buffer) (one_of (slot_at b number) new old is was)
buffer_after (f ∷ feeds) b number old new was is =
    let c : Bool = is_row_of b number f.0 in
    let mid : CallSlot = if c then called (fed_call f.0 f.1) old else old in
    buffer_after feeds (book_fed f.0 f.1 b) number mid new (one_there f.0 f.1 b number old c refl was) is
    ∙ ap (fed_some (is_row_of b number) feeds) (one_buffer f.0 f.1 old c)
