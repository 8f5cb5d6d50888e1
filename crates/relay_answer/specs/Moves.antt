-- What one stream of a relay sends next.
use Rattle.std.specs.Prelude.{ℕ, ◌==◌, false, if◌then◌else◌, List, [], ◌∷◌, length, drop}
use Rattle.h2_server.specs.Sends.{block_sent, data_sent, share_of}
use Rattle.h2_server.specs.Wire.{Wire}
use Rattle.relay_answer.specs.Answering.{Answering, first_sent, taken}
use Rattle.relay_answer.specs.declared.parts.Part.{Part}

-- the link and the answer after a frame, and its bytes
pub record Move : Type 0 where
  pub wire : Wire
  pub answer : Answering
  pub octets : List ℕ

-- as many bytes after all blocks as one frame may have
abbrev pub tail_moved : Wire → ℕ → Answering → Move
tail_moved w stream a =
    let s = data_sent w stream a.text false in record {
      wire = s.wire;
      answer = record a { text = drop (taken (share_of w stream (length a.text) false)) a.text };
      octets = s.octets;
    }

-- as many bytes before the first block
abbrev pub text_moved : Wire → ℕ → Answering → Part → List Part → Move
text_moved w stream a p parts =
    let s = data_sent w stream p.text false in record {
      wire = s.wire;
      answer = record a { parts = first_sent (taken (share_of w stream (length p.text) false)) (p ∷ parts) };
      octets = s.octets;
    }

-- the first block, once no byte is before it
abbrev pub block_moved : Wire → ℕ → Answering → Part → List Part → Move
block_moved w stream a p parts =
    let s = block_sent w stream p.block p.ends in record {
      wire = s.wire;
      answer = record a { parts = parts };
      octets = s.octets;
    }

abbrev pub moved_by : Wire → ℕ → Answering → List Part → Move
moved_by w stream a [] = tail_moved w stream a
moved_by w stream a (p ∷ parts) =
    if length p.text == 0 then block_moved w stream a p parts else text_moved w stream a p parts

-- the next frame of a stream; where nothing may be sent, all stays
abbrev pub moved : Wire → ℕ → Answering → Move
moved w stream a = moved_by w stream a a.parts
