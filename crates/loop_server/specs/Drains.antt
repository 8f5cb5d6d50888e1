-- What a link of the server sends, in which order.
use Rattle.std.specs.Prelude.{◌≡◌, ℕ, zero, suc, ◌+◌, ◌==◌, Bool, true, false, nat_le, nat_lt, ◌&&◌, if◌then◌else◌, min, Option, Some, None, List, [], ◌∷◌, ◌++◌, length, take, drop, slice_get, slice_set}
use Rattle.std.specs.List.{remove}
use Rattle.grpc_base.specs.Counts.{one_more}
use Rattle.grpc_base.specs.Limits.{message_limit}
use Rattle.grpc_base.specs.declared.script.AnswerLine.{AnswerLine}
use Rattle.grpc_base.specs.declared.script.AnswerPart.{AnswerPart}
use Rattle.grpc_base.specs.declared.script.AnswerPart.TheVariants as part
use Rattle.grpc_base.specs.ErrorCodes.{no_error}
use Rattle.grpc_frame.specs.Messages.{framed}
use Rattle.h2_hpack.specs.Encoding.{block_bytes}
use Rattle.h2_server.specs.declared.share.Share.{Share}
use Rattle.h2_server.specs.Sends.{Sent, block_sent, data_sent, goaway_bytes, next_control, nothing, reset_sent, share_of}
use Rattle.h2_server.specs.Wire.{Seen, Wire}
use Rattle.loop_server.specs.declared.turn.Turn.{Turn}
use Rattle.loop_server.specs.Blocks.{head_fields, status_fields}
use Rattle.loop_server.specs.Script.{parts_at}
use Rattle.loop_server.specs.Server.{Core, Served}
use Rattle.loop_server.specs.Steps.{place_of_link, with_link}

-- what a part sends on its stream, after the parts before it. A message is begun: it goes out as DATA as the windows
-- allow. A pushback goes into the block of the status, and a hold sends nothing
abbrev pub part_sent : Wire → ℕ → List AnswerPart → AnswerPart → Sent
part_sent w stream before part.Head = block_sent w stream (block_bytes head_fields) false
part_sent w stream before (part.Message message) = nothing w
part_sent w stream before (part.Status code) = block_sent w stream (block_bytes (status_fields before code)) true
part_sent w stream before (part.Pushback text) = nothing w
part_sent w stream before (part.Reset code) = reset_sent w stream code
part_sent w stream before part.Goaway = record { wire = w; octets = goaway_bytes w no_error }
part_sent w stream before (part.Hold count) = nothing w

-- the framed bytes of a message that a part begins
abbrev pub message_text : List ℕ → List ℕ
message_text message = if nat_lt message_limit (length message) then [] else framed message

abbrev pub text_of : AnswerPart → List ℕ
text_of (part.Message message) = message_text message
text_of p = []

-- a hold waits until so many requests were answered
abbrev pub may_begin : ℕ → AnswerPart → Bool
may_begin answered (part.Hold count) = nat_le count answered
may_begin answered p = true

-- what is given next of an answer
pub record Move : Type 0 where
  pub wire : Wire
  pub turn : Turn
  pub octets : List ℕ

-- the next part
abbrev pub part_moved : Wire → Turn → List AnswerPart → AnswerPart → Move
part_moved w t before p =
    let s = part_sent w t.stream before p in record {
      wire = s.wire;
      turn = record t { part = t.part + 1; text = text_of p };
      octets = s.octets;
    }

abbrev pub part_move : Wire → ℕ → Turn → List AnswerPart → Option AnswerPart → Option Move
part_move w answered t before None = None
part_move w answered t before (Some p) = if may_begin answered p then Some (part_moved w t before p) else None

-- or as much of a message that was begun as one frame may have
abbrev pub text_moved : Wire → Turn → Share → Move
text_moved w t share =
    let s = data_sent w t.stream t.text false in record {
      wire = s.wire;
      turn = record t { text = drop share.len t.text };
      octets = s.octets;
    }

abbrev pub text_move : Wire → Turn → Option Share → Option Move
text_move w t None = None
text_move w t (Some share) = Some (text_moved w t share)

abbrev pub move_of : List AnswerLine → ℕ → Wire → Turn → Option Move
move_of lines answered w t =
    if length t.text == 0
    then part_move w answered t (take t.part (parts_at lines t.line)) (slice_get (parts_at lines t.line) t.part)
    else text_move w t (share_of w t.stream (length t.text) false)

-- an answer is given when all its parts are
abbrev pub is_given : List AnswerLine → Turn → Bool
is_given lines t = (length t.text == 0) && nat_le (length (parts_at lines t.line)) t.part

-- the first of the answers, in the order in which their requests ended, that may give something now
abbrev pub first_from : Option Move → ℕ → Option (ℕ × Move) → Option (ℕ × Move)
first_from (Some m) place other = Some (place, m)
first_from None place other = other

abbrev pub first_move : List AnswerLine → ℕ → Wire → ℕ → List Turn → Option (ℕ × Move)
first_move lines answered w place [] = None
first_move lines answered w place (t ∷ turns) =
    first_from (move_of lines answered w t) place (first_move lines answered w (place + 1) turns)

-- a link, how many requests were answered, and what was sent
pub record Giving : Type 0 where
  pub session : Served
  pub answered : ℕ
  pub octets : List ℕ

abbrev pub turn_given : Giving → ℕ → Move → Bool → Giving
turn_given g place m true = record {
  session = record g.session { link = record g.session.link { wire = m.wire }; turns = remove g.session.turns place };
  answered = one_more g.answered;
  octets = g.octets ++ m.octets;
}
turn_given g place m false = record {
  session = record g.session { link = record g.session.link { wire = m.wire }; turns = slice_set g.session.turns place m.turn };
  answered = g.answered;
  octets = g.octets ++ m.octets;
}

abbrev pub next_answer : List AnswerLine → Giving → Option (ℕ × Move) → Option Giving
next_answer lines g None = None
next_answer lines g (Some x) = Some (turn_given g x.0 x.1 (is_given lines x.1.turn))

-- what stands next: the first queued frame of the link, or else what the first answer that may give something gives
abbrev pub next_by : List AnswerLine → Giving → Option Sent → Option Giving
next_by lines g (Some s) = Some (record g {
  session = record g.session { link = record g.session.link { wire = s.wire } };
  octets = g.octets ++ s.octets;
})
next_by lines g None =
    next_answer lines g (first_move lines g.answered g.session.link.wire 0 g.session.turns)

abbrev pub next : List AnswerLine → Giving → Option Giving
next lines g = next_by lines g (next_control g.session.link.wire)

-- one thing after the other
abbrev pub given_more : Giving → Option Giving → Giving
given_more g None = g
given_more g (Some more) = more

abbrev pub given : List AnswerLine → ℕ → Giving → Giving
given lines zero g = g
given lines (suc n) g = given_more (given lines n g) (next lines (given lines n g))

-- a drain: so many, until nothing stands next
pub record Drains (lines : List AnswerLine) (session : Served) (answered : ℕ) (end : Giving) : Type 0 where
  pub count : ℕ
  pub given_is : given lines count (record { session = session; answered = answered; octets = [] }) ≡ end
  pub stops : next lines end ≡ None

-- the same of the server, on a link, which is made where it is not known
pub record CoreDrains (c : Core) (link : ℕ) (d : Core) (octets : List ℕ) : Type 0 where
  pub session : Served
  pub found : slice_get (with_link c.sessions link) (place_of_link c.sessions link) ≡ Some session
  pub end : Giving
  pub drains : Drains c.book.lines session c.answered end
  pub sent : octets ≡ end.octets
  pub after : d ≡ record c {
    answered = end.answered;
    sessions = slice_set (with_link c.sessions link) (place_of_link c.sessions link) end.session;
  }
