-- The room of the next frame of a stream, and how much is left over it.
use Rattle.std.proofs.Common.{◌≡◌, ℕ, ◌<◌, ◌≤◌, ◌+◌, Bool, true, false, List, [], ◌∷◌, length, drop, refl, ap, Some, None, arith}
use Rattle.std.specs.Prelude.{Option, max, nat_lt, ◌==◌, ◌||◌, if◌then◌else◌}
use Rattle.std.proofs.lemmas.List.{length-drop, length-take}
use Rattle.h2_frame.specs.Frames.{written}
use Rattle.h2_server.specs.declared.live.LiveStream.{LiveStream}
use Rattle.h2_server.specs.declared.share.Share.{Share}
use Rattle.h2_server.specs.Frames.{response_headers}
use Rattle.h2_server.specs.Sends.{block_bytes, block_sent_at, data_sent, data_sent_at, least_of, share_at, share_of}
use Rattle.h2_server.specs.Steps.{found_from, is_answering}
use Rattle.h2_server.specs.Wire.{Wire}
use Rattle.relay_answer.specs.declared.parts.Part.{Part}
use Rattle.relay_answer.specs.Answering.{Answering, block_room, room_by, room_of, taken, text_room}
use Rattle.relay_answer.specs.Moves.{Move, block_moved, moved, moved_by, text_moved}

-- how much an answer has left
abbrev pub parts_weight : List Part → ℕ
parts_weight [] = 0
parts_weight (p ∷ parts) = 1 + length p.text + parts_weight parts

abbrev pub answer_weight : Answering → ℕ
answer_weight a = length a.text + parts_weight a.parts

-- a share has a byte, and no more than are left
record IsShare (left : ℕ) (x : Share) : Type 0 where
  some : 0 < x.len
  there : x.len ≤ left

share_by : (len left : ℕ) (x : Share) (b : Bool) → nat_lt 0 len ≡ b → len ≤ left → (if b || false then Some (record { len = len; ends = false }) else None) ≡ Some x → IsShare left x
share_by len left x true t h e =
    let same : len ≡ x.len = cc in
    let some : 0 < len = grind arith in
    record { some = omega (arith, same, some); there = omega (arith, same, h) }
share_by len left x false t h e = absurd (cc)

share_found : (w : Wire) (left : ℕ) (x : Share) (o : Option (ℕ × LiveStream)) → share_at w left false o ≡ Some x → IsShare left x
share_found w left x None e = absurd (cc)
share_found w left x (Some s) e =
    let len = least_of w.window w.initial s.1 left in
    share_by len left x (nat_lt 0 len) refl (omega arith) e

is_share : (w : Wire) (stream left : ℕ) (x : Share) → share_of w stream left false ≡ Some x → IsShare left x
is_share w stream left x e = share_found w left x (found_from (is_answering stream) 0 w.live) e

block_queue : (w : Wire) (block : List ℕ) (ends : Bool) (o : Option (ℕ × LiveStream)) → (block_sent_at w block ends o).wire.queue ≡ w.queue
block_queue w block ends None = refl
block_queue w block ends (Some x) = refl

data_queue : (w : Wire) (left : List ℕ) (o : Option (ℕ × LiveStream)) (s : Option Share) → (data_sent_at w left o s).wire.queue ≡ w.queue
data_queue w left None s = refl
data_queue w left (Some x) None = refl
data_queue w left (Some x) (Some share) = refl

-- how many bytes a frame has
written_size : (stream : ℕ) (block : List ℕ) (ends b : Bool) → length (written (response_headers stream (block_bytes b block) ends)) ≤ 10 + length block
written_size stream block ends true = omega arith
written_size stream block ends false = omega arith

block_size : (w : Wire) (block : List ℕ) (ends : Bool) (o : Option (ℕ × LiveStream)) → length (block_sent_at w block ends o).octets ≤ 10 + length block
block_size w block ends None = omega arith
block_size w block ends (Some x) = written_size x.1.number block ends w.resizes

data_size : (w : Wire) (t : List ℕ) (o : Option (ℕ × LiveStream)) (s : Option Share) → length (data_sent_at w t o s).octets ≤ 9 + taken s
data_size w t None s = omega arith
data_size w t (Some x) None = omega arith
data_size w t (Some x) (Some share) = let size = length-take share.len t in omega (arith, size)

text_size : (w : Wire) (stream : ℕ) (t : List ℕ) (n : ℕ) (o : Option Share) → share_of w stream (length t) false ≡ o → text_room o ≡ Some n → length (data_sent w stream t false).octets ≤ n
text_size w stream t n None h e = absurd (cc)
text_size w stream t n (Some x) h e =
    let size = data_size w t (found_from (is_answering stream) 0 w.live) (share_of w stream (length t) false) in
    let same : max (9 + x.len) 17 ≡ n = cc in
    let len : taken (share_of w stream (length t) false) ≡ x.len = ap taken h in
    omega (arith, size, same, len)

-- bytes that may be sent get less
text_less : (w : Wire) (stream : ℕ) (t : List ℕ) (n : ℕ) (o : Option Share) → share_of w stream (length t) false ≡ o → text_room o ≡ Some n → length (drop (taken (share_of w stream (length t) false)) t) < length t
text_less w stream t n None h e = absurd (cc)
text_less w stream t n (Some x) h e =
    let share = is_share w stream (length t) x h in
    let some = share.some in
    let there = share.there in
    let same : taken (share_of w stream (length t) false) ≡ x.len = ap taken h in
    let size = length-drop (taken (share_of w stream (length t) false)) t in
    omega (arith, some, there, same, size)

-- the next frame makes an answer lighter, leaves the queue, and has no more bytes than the room for which it is tested
pub record IsLighter (w : Wire) (a : Answering) (n : ℕ) (m : Move) : Type 0 where
  pub less : answer_weight m.answer < answer_weight a
  pub queue : m.wire.queue ≡ w.queue
  pub size : length m.octets ≤ n

part_lighter : (w : Wire) (stream n : ℕ) (headed : Bool) (text : List ℕ) (p : Part) (parts : List Part) (b : Bool) → (if b then Some (block_room p.block) else text_room (share_of w stream (length p.text) false)) ≡ Some n
    → IsLighter w (record { headed = headed; parts = p ∷ parts; text = text }) n (if b then block_moved w stream (record { headed = headed; parts = p ∷ parts; text = text }) p parts else text_moved w stream (record { headed = headed; parts = p ∷ parts; text = text }) p parts)
part_lighter w stream n headed text p parts true e =
    let size = block_size w p.block p.ends (found_from (is_answering stream) 0 w.live) in
    let same : max (10 + length p.block) 17 ≡ n = cc in record {
      less = omega arith;
      queue = block_queue w p.block p.ends (found_from (is_answering stream) 0 w.live);
      size = omega (arith, size, same);
    }
part_lighter w stream n headed text p parts false e =
    let less = text_less w stream p.text n (share_of w stream (length p.text) false) refl e in record {
      less = omega (arith, less);
      queue = data_queue w p.text (found_from (is_answering stream) 0 w.live) (share_of w stream (length p.text) false);
      size = text_size w stream p.text n (share_of w stream (length p.text) false) refl e;
    }

lighter_by : (w : Wire) (stream n : ℕ) (headed : Bool) (text : List ℕ) (parts : List Part) → room_by w stream text parts ≡ Some n → IsLighter w (record { headed = headed; parts = parts; text = text }) n (moved_by w stream (record { headed = headed; parts = parts; text = text }) parts)
lighter_by w stream n headed text [] e =
    let less = text_less w stream text n (share_of w stream (length text) false) refl e in record {
      less = omega (arith, less);
      queue = data_queue w text (found_from (is_answering stream) 0 w.live) (share_of w stream (length text) false);
      size = text_size w stream text n (share_of w stream (length text) false) refl e;
    }
lighter_by w stream n headed text (p ∷ parts) e =
    part_lighter w stream n headed text p parts (length p.text == 0) e

pub lighter : (w : Wire) (stream : ℕ) (a : Answering) (n : ℕ) → room_of w stream a ≡ Some n → IsLighter w a n (moved w stream a)
lighter w stream a n e = lighter_by w stream n a.headed a.text a.parts e
