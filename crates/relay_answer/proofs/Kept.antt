-- What is sent and what is left is what was given.
use Rattle.std.proofs.Common.{◌≡◌, ℕ, Bool, true, false, List, [], ◌∷◌, ◌++◌, length, take, drop, refl, sym, ◌∙◌, ap, ap₂, append_assoc, append-nil, arith}
use Rattle.std.specs.Prelude.{◌==◌, if◌then◌else◌, map}
use Rattle.std.proofs.lemmas.List.{map-append, take-append-drop}
use Rattle.h2_server.specs.Sends.{share_of}
use Rattle.h2_server.specs.Wire.{Wire}
use Rattle.relay_response.specs.Blocks.{end_block, head_block}
use Rattle.relay_answer.specs.declared.parts.Part.{Part}
use Rattle.relay_answer.specs.Answering.{Answering, fresh, message_text, taken, with_block}
use Rattle.relay_answer.specs.Moves.{block_moved, moved, text_moved}
use Rattle.relay_answer.specs.Laws.{Item, Head, Message, End, Moment, Given, Sent, Piece, Byte, Block, after, down, given_in, item_given, left_of, parts_left, sent_by, sent_in}

-- a part more
parts_more : (parts : List Part) (p : Part) → parts_left (parts ++ p ∷ []) ≡ parts_left parts ++ (map Byte p.text ++ (Block p.block p.ends ∷ []))
parts_more [] p = refl
parts_more (q ∷ parts) p =
    ap (λ (l : List Piece). map Byte q.text ++ (Block q.block q.ends ∷ l)) (parts_more parts p)
    ∙ sym (append_assoc (map Byte q.text) (Block q.block q.ends ∷ parts_left parts) (map Byte p.text ++ (Block p.block p.ends ∷ [])))

block_left : (a : Answering) (block : List ℕ) (ends : Bool) → left_of (with_block a block ends) ≡ left_of a ++ (Block block ends ∷ [])
block_left a block ends =
    append-nil (parts_left (with_block a block ends).parts)
    ∙ (parts_more a.parts (record { text = a.text; block = block; ends = ends })
    ∙ sym (append_assoc (parts_left a.parts) (map Byte a.text) (Block block ends ∷ [])))

text_left : (a : Answering) (t : List ℕ) → left_of (record a { text = a.text ++ t }) ≡ left_of a ++ map Byte t
text_left a t =
    ap (λ (l : List Piece). parts_left a.parts ++ l) (map-append Byte a.text t)
    ∙ sym (append_assoc (parts_left a.parts) (map Byte a.text) (map Byte t))

-- bytes are parted
parted : (k : ℕ) (t : List ℕ) → map Byte t ≡ map Byte (take k t) ++ map Byte (drop k t)
parted k t = ap (map Byte) (sym (take-append-drop k t)) ∙ map-append Byte (take k t) (drop k t)

none_left : (t : List ℕ) → (length t == 0) ≡ true → t ≡ []
none_left [] e = refl
none_left (b ∷ t) e = absurd (grind arith)

-- the next frame takes what it has off the prefix
part_moves : (w : Wire) (stream : ℕ) (headed : Bool) (text : List ℕ) (p : Part) (parts : List Part) (b : Bool) → (length p.text == 0) ≡ b
    → left_of (record { headed = headed; parts = p ∷ parts; text = text })
    ≡ (if b then Block p.block p.ends ∷ [] else map Byte (take (taken (share_of w stream (length p.text) false)) p.text))
    ++ left_of (if b then block_moved w stream (record { headed = headed; parts = p ∷ parts; text = text }) p parts else text_moved w stream (record { headed = headed; parts = p ∷ parts; text = text }) p parts).answer
part_moves w stream headed text p parts true e =
    ap (λ (t : List ℕ). map Byte t ++ (Block p.block p.ends ∷ parts_left parts) ++ map Byte text) (none_left p.text e)
part_moves w stream headed text p parts false e =
    let k = taken (share_of w stream (length p.text) false) in
    let rest = Block p.block p.ends ∷ parts_left parts in
    ap (λ (l : List Piece). l ++ rest ++ map Byte text) (parted k p.text)
    ∙ (ap (λ (l : List Piece). l ++ map Byte text) (append_assoc (map Byte (take k p.text)) (map Byte (drop k p.text)) rest)
    ∙ append_assoc (map Byte (take k p.text)) (map Byte (drop k p.text) ++ rest) (map Byte text))

moves_by : (w : Wire) (stream : ℕ) (headed : Bool) (text : List ℕ) (parts : List Part)
    → left_of (record { headed = headed; parts = parts; text = text }) ≡ sent_by w stream (record { headed = headed; parts = parts; text = text }) parts ++ left_of (moved w stream (record { headed = headed; parts = parts; text = text })).answer
moves_by w stream headed text [] = parted (taken (share_of w stream (length text) false)) text
moves_by w stream headed text (p ∷ parts) = part_moves w stream headed text p parts (length p.text == 0) refl

pub moves : (w : Wire) (stream : ℕ) (a : Answering) → left_of a ≡ sent_by w stream a a.parts ++ left_of (moved w stream a).answer
moves w stream a = moves_by w stream a.headed a.text a.parts

headed_part : (w : Wire) (stream : ℕ) (headed : Bool) (text : List ℕ) (p : Part) (parts : List Part) (b : Bool)
    → (if b then block_moved w stream (record { headed = headed; parts = p ∷ parts; text = text }) p parts else text_moved w stream (record { headed = headed; parts = p ∷ parts; text = text }) p parts).answer.headed ≡ headed
headed_part w stream headed text p parts true = refl
headed_part w stream headed text p parts false = refl

headed_by : (w : Wire) (stream : ℕ) (headed : Bool) (text : List ℕ) (parts : List Part) → (moved w stream (record { headed = headed; parts = parts; text = text })).answer.headed ≡ headed
headed_by w stream headed text [] = refl
headed_by w stream headed text (p ∷ parts) = headed_part w stream headed text p parts (length p.text == 0)

-- an item goes after all that is left
given_left : (stream : ℕ) (a : Answering) (item : Item) (items : List Item) → left_of (item_given a item) ++ down (item_given a item).headed items ≡ left_of a ++ down a.headed (item ∷ items)
given_left stream a (Head meta) items =
    ap (λ (l : List Piece). l ++ down true items) (block_left (record a { headed = true }) (head_block meta) false)
    ∙ append_assoc (left_of a) (Block (head_block meta) false ∷ []) (down true items)
given_left stream a (Message message) items =
    ap (λ (l : List Piece). l ++ down a.headed items) (text_left a (message_text message))
    ∙ append_assoc (left_of a) (map Byte (message_text message)) (down a.headed items)
given_left stream a (End code text meta) items =
    ap (λ (l : List Piece). l ++ down a.headed items) (block_left a (end_block a.headed code text meta) true)
    ∙ append_assoc (left_of a) (Block (end_block a.headed code text meta) true ∷ []) (down a.headed items)

all_kept : (stream : ℕ) (a : Answering) (ms : List Moment) → sent_in stream a ms ++ left_of (after stream a ms) ≡ left_of a ++ down a.headed (given_in ms)
all_kept stream a [] = sym (append-nil (left_of a))
all_kept stream a (Given item ∷ ms) = all_kept stream (item_given a item) ms ∙ given_left stream a item (given_in ms)
all_kept stream a (Sent w ∷ ms) =
    let b = (moved w stream a).answer in
    let sent = sent_by w stream a a.parts in
    append_assoc sent (sent_in stream b ms) (left_of (after stream b ms))
    ∙ (ap (λ (l : List Piece). sent ++ l) (all_kept stream b ms)
    ∙ (sym (append_assoc sent (left_of b) (down b.headed (given_in ms)))
    ∙ ap₂ (λ (l : List Piece) (h : Bool). l ++ down h (given_in ms)) (sym (moves w stream a)) (headed_by w stream a.headed a.text a.parts)))

pub kept : (stream : ℕ) (ms : List Moment) → sent_in stream fresh ms ++ left_of (after stream fresh ms) ≡ down false (given_in ms)
kept stream ms = all_kept stream fresh ms
