-- How much a link has still to give: each thing that it gives makes that less.
use Rattle.std.proofs.Common.{◌≡◌, ℕ, zero, suc, ◌<◌, ◌≤◌, ◌+◌, ◌-◌, Bool, true, false, List, [], ◌∷◌, ◌++◌, length, drop, take, get_or, refl, sym, ◌∙◌, ap, subst, Some, None, arith, inl, inr, add-one}
use Rattle.std.specs.Prelude.{Option, slice_get, slice_set, nat_lt, nat_le, ◌==◌, ◌&&◌, ◌||◌, option_map, if◌then◌else◌}
use Rattle.std.specs.List.{remove}
use Rattle.std.proofs.Math.Seq.{drop-cons}
use Rattle.std.proofs.lemmas.Option.{slice_get_within, get_or_from_slice_get}
use Rattle.std.proofs.lemmas.List.{length-drop}
use Rattle.grpc_base.specs.declared.script.AnswerLine.{AnswerLine}
use Rattle.grpc_base.specs.declared.script.AnswerPart.{AnswerPart}
use Rattle.grpc_base.specs.declared.script.AnswerPart.TheVariants as part
use Rattle.h2_server.specs.declared.control.Control.{Control}
use Rattle.h2_server.specs.declared.live.LiveStream.{LiveStream}
use Rattle.h2_server.specs.declared.share.Share.{Share}
use Rattle.h2_server.specs.Sends.{Sent, block_sent, block_sent_at, data_sent, data_sent_at, control_sent, least_of, next_control, reset_sent, reset_sent_at, share_as, share_at, share_of}
use Rattle.h2_server.specs.Steps.{found_from, is_answering, is_numbered}
use Rattle.h2_server.specs.Wire.{Wire}
use Rattle.loop_server.specs.declared.turn.Turn.{Turn}
use Rattle.loop_server.specs.Drains.{Giving, Move, first_from, first_move, is_given, may_begin, move_of, next, next_answer, next_by, part_move, part_moved, part_sent, text_move, text_moved, text_of, turn_given}
use Rattle.loop_server.specs.Script.{parts_at}

abbrev part_weight : AnswerPart → ℕ
part_weight p = 1 + length (text_of p)

abbrev parts_weight : List AnswerPart → ℕ
parts_weight [] = 0
parts_weight (p ∷ ps) = part_weight p + parts_weight ps

abbrev turn_weight : List AnswerLine → Turn → ℕ
turn_weight lines t = length t.text + parts_weight (drop t.part (parts_at lines t.line))

abbrev turns_weight : List AnswerLine → List Turn → ℕ
turns_weight lines [] = 0
turns_weight lines (t ∷ ts) = turn_weight lines t + turns_weight lines ts

abbrev pub weight : List AnswerLine → Giving → ℕ
weight lines g = length g.session.link.wire.queue + turns_weight lines g.session.turns

-- what is sent leaves the queue
block_queue : (w : Wire) (block : List ℕ) (ends : Bool) (o : Option (ℕ × LiveStream)) → (block_sent_at w block ends o).wire.queue ≡ w.queue
block_queue w block ends None = refl
block_queue w block ends (Some x) = refl

reset_queue : (w : Wire) (code : ℕ) (o : Option (ℕ × LiveStream)) → (reset_sent_at w code o).wire.queue ≡ w.queue
reset_queue w code None = refl
reset_queue w code (Some x) = refl

data_queue : (w : Wire) (left : List ℕ) (o : Option (ℕ × LiveStream)) (s : Option Share) → (data_sent_at w left o s).wire.queue ≡ w.queue
data_queue w left None s = refl
data_queue w left (Some x) None = refl
data_queue w left (Some x) (Some share) = refl

part_queue : (w : Wire) (stream : ℕ) (before : List AnswerPart) (p : AnswerPart) → (part_sent w stream before p).wire.queue ≡ w.queue
part_queue w stream before part.Head = block_queue w _ false (found_from (is_answering stream) 0 w.live)
part_queue w stream before (part.Message message) = refl
part_queue w stream before (part.Status code) = block_queue w _ true (found_from (is_answering stream) 0 w.live)
part_queue w stream before (part.Pushback text) = refl
part_queue w stream before (part.Reset code) = reset_queue w code (found_from (is_numbered stream) 0 w.live)
part_queue w stream before part.Goaway = refl
part_queue w stream before (part.Hold count) = refl

-- a share has a byte, and no more than are left
pub record IsShare (left : ℕ) (x : Share) : Type 0 where
  pub some : 0 < x.len
  pub there : x.len ≤ left

share_by : (len left : ℕ) (x : Share) (b : Bool) → nat_lt 0 len ≡ b → len ≤ left → (if b || false then Some (record { len = len; ends = false }) else None) ≡ Some x → IsShare left x
share_by len left x true t h e =
    let same : len ≡ x.len = cc in
    let some : 0 < len = grind arith in
    record { some = omega (arith, same, some); there = omega (arith, same, h) }
share_by len left x false t h e = absurd (cc)

share_found : (w : Wire) (left : ℕ) (x : Share) (o : Option (ℕ × LiveStream)) → share_at w left false o ≡ Some x → IsShare left x
share_found w left x None e = absurd (cc)
share_found w left x (Some s) e =
    let len = least_of w.window w.initial s.1 left in
    share_by len left x (nat_lt 0 len) refl (omega arith) e

pub is_share : (w : Wire) (stream left : ℕ) (x : Share) → share_of w stream left false ≡ Some x → IsShare left x
is_share w stream left x e = share_found w left x (found_from (is_answering stream) 0 w.live) e

-- a move of one answer makes it lighter, and leaves the queue
pub record IsLighter (lines : List AnswerLine) (w : Wire) (t : Turn) (m : Move) : Type 0 where
  pub less : turn_weight lines m.turn < turn_weight lines t
  pub queue : m.wire.queue ≡ w.queue

part_there : (parts : List AnswerPart) (i : ℕ) (p : AnswerPart) → slice_get parts i ≡ Some p → parts_weight (drop i parts) ≡ part_weight p + parts_weight (drop (i + 1) parts)
part_there parts i p e =
    let lt = slice_get_within parts i p e in
    let at : get_or parts i p ≡ p = get_or_from_slice_get parts i p p e in
    let cut : drop i parts ≡ p ∷ drop (suc i) parts = drop-cons parts i p lt ∙ ap (λ (x : AnswerPart). x ∷ drop (suc i) parts) at in
    rw add-one (ap parts_weight cut)

part_lighter_by : (lines : List AnswerLine) (w : Wire) (t : Turn) (m : Move) (p : AnswerPart) (b : Bool) → length t.text ≡ 0 → slice_get (parts_at lines t.line) t.part ≡ Some p → (if b then Some (part_moved w t (take t.part (parts_at lines t.line)) p) else None) ≡ Some m → IsLighter lines w t m
part_lighter_by lines w t m p false z h e = absurd (cc)
part_lighter_by lines w t m p true z h e =
    let same : part_moved w t (take t.part (parts_at lines t.line)) p ≡ m = cc in
    let P : Move → Type 0 = λ v. IsLighter lines w t v in
    let cut = part_there (parts_at lines t.line) t.part p h in
    subst P same (record {
      less = omega (arith, cut, z);
      queue = part_queue w t.stream (take t.part (parts_at lines t.line)) p;
    })

part_lighter : (lines : List AnswerLine) (answered : ℕ) (w : Wire) (t : Turn) (m : Move) (o : Option AnswerPart) → length t.text ≡ 0 → slice_get (parts_at lines t.line) t.part ≡ o → part_move w answered t (take t.part (parts_at lines t.line)) o ≡ Some m → IsLighter lines w t m
part_lighter lines answered w t m None z h e = absurd (cc)
part_lighter lines answered w t m (Some p) z h e = part_lighter_by lines w t m p (may_begin answered p) z h e

text_lighter : (lines : List AnswerLine) (w : Wire) (t : Turn) (m : Move) (o : Option Share) → share_of w t.stream (length t.text) false ≡ o → text_move w t o ≡ Some m → IsLighter lines w t m
text_lighter lines w t m None h e = absurd (cc)
text_lighter lines w t m (Some x) h e =
    let same : text_moved w t x ≡ m = cc in
    let P : Move → Type 0 = λ v. IsLighter lines w t v in
    let share = is_share w t.stream (length t.text) x h in
    subst P same (record {
      less = omega (arith, length-drop x.len t.text, share.some, share.there);
      queue = data_queue w t.text (found_from (is_answering t.stream) 0 w.live) (share_of w t.stream (length t.text) false);
    })

lighter_by : (lines : List AnswerLine) (answered : ℕ) (w : Wire) (t : Turn) (m : Move) (b : Bool) → (length t.text == 0) ≡ b → (if b then part_move w answered t (take t.part (parts_at lines t.line)) (slice_get (parts_at lines t.line) t.part) else text_move w t (share_of w t.stream (length t.text) false)) ≡ Some m → IsLighter lines w t m
lighter_by lines answered w t m true z e =
    part_lighter lines answered w t m (slice_get (parts_at lines t.line) t.part) (grind arith) refl e
lighter_by lines answered w t m false z e = text_lighter lines w t m (share_of w t.stream (length t.text) false) refl e

pub lighter : (lines : List AnswerLine) (answered : ℕ) (w : Wire) (t : Turn) (m : Move) → move_of lines answered w t ≡ Some m → IsLighter lines w t m
lighter lines answered w t m e = lighter_by lines answered w t m (length t.text == 0) refl e

-- the first move is that of the answer at its place
pub record IsFirst (lines : List AnswerLine) (answered : ℕ) (w : Wire) (start : ℕ) (turns : List Turn) (x : ℕ × Move) : Type 0 where
  pub from : start ≤ x.0
  pub turn : Turn
  pub there : slice_get turns (x.0 - start) ≡ Some turn
  pub move : move_of lines answered w turn ≡ Some x.1

first_by : (lines : List AnswerLine) (answered : ℕ) (w : Wire) (start : ℕ) (t : Turn) (turns : List Turn) (x : ℕ × Move) (o : Option Move) (other : Option (ℕ × Move)) → move_of lines answered w t ≡ o → (other ≡ Some x → IsFirst lines answered w (start + 1) turns x) → first_from o start other ≡ Some x → IsFirst lines answered w start (t ∷ turns) x
first_by lines answered w start t turns x (Some m) other h afterwards e =
    let place : start ≡ x.0 = cc in
    let move : m ≡ x.1 = cc in
    let zero_is : x.0 - start ≡ 0 = omega (arith, place) in
    record {
      from = omega (arith, place);
      turn = t;
      there = ap (slice_get (t ∷ turns)) zero_is;
      move = h ∙ ap (λ (v : Move). Some v) move;
    }
first_by lines answered w start t turns x None other h afterwards e =
    let b = afterwards e in
    let from = b.from in
    let next_is : x.0 - start ≡ suc (x.0 - (start + 1)) = omega (arith, from) in
    record {
      from = omega (arith, from);
      turn = b.turn;
      there = ap (slice_get (t ∷ turns)) next_is ∙ b.there;
      move = b.move;
    }

pub is_first : (lines : List AnswerLine) (answered : ℕ) (w : Wire) (start : ℕ) (turns : List Turn) (x : ℕ × Move) → first_move lines answered w start turns ≡ Some x → IsFirst lines answered w start turns x
is_first lines answered w start [] x e = absurd (cc)
is_first lines answered w start (t ∷ turns) x e =
    first_by lines answered w start t turns x (move_of lines answered w t) (first_move lines answered w (start + 1) turns) refl (λ k. is_first lines answered w (start + 1) turns x k) e

-- the turns with one lighter, or without it
set_weight : (lines : List AnswerLine) (turns : List Turn) (i : ℕ) (t u : Turn) → slice_get turns i ≡ Some t → turns_weight lines (slice_set turns i u) + turn_weight lines t ≡ turns_weight lines turns + turn_weight lines u
set_weight lines [] i t u e = absurd (cc)
set_weight lines (x ∷ turns) zero t u e =
    let same : x ≡ t = cc in
    let w : turn_weight lines x ≡ turn_weight lines t = ap (turn_weight lines) same in omega (arith, w)
set_weight lines (x ∷ turns) (suc i) t u e =
    let h = set_weight lines turns i t u e in omega (arith, h)

remove_weight : (lines : List AnswerLine) (turns : List Turn) (i : ℕ) (t : Turn) → slice_get turns i ≡ Some t → turns_weight lines (remove turns i) + turn_weight lines t ≡ turns_weight lines turns
remove_weight lines [] i t e = absurd (cc)
remove_weight lines (x ∷ turns) zero t e =
    let same : x ≡ t = cc in
    let w : turn_weight lines x ≡ turn_weight lines t = ap (turn_weight lines) same in omega (arith, w)
remove_weight lines (x ∷ turns) (suc i) t e =
    let h = remove_weight lines turns i t e in omega (arith, h)

given_weight : (lines : List AnswerLine) (g : Giving) (place : ℕ) (t : Turn) (m : Move) (b : Bool) → slice_get g.session.turns place ≡ Some t → IsLighter lines g.session.link.wire t m → weight lines (turn_given g place m b) < weight lines g
given_weight lines g place t m true e l =
    let less = l.less in
    let queue = ap length l.queue in
    let h = remove_weight lines g.session.turns place t e in omega (arith, less, queue, h)
given_weight lines g place t m false e l =
    let less = l.less in
    let queue = ap length l.queue in
    let h = set_weight lines g.session.turns place t m.turn e in omega (arith, less, queue, h)

answer_weight : (lines : List AnswerLine) (g h : Giving) (o : Option (ℕ × Move)) → first_move lines g.answered g.session.link.wire 0 g.session.turns ≡ o → next_answer lines g o ≡ Some h → weight lines h < weight lines g
answer_weight lines g h None f e = absurd (cc)
answer_weight lines g h (Some x) f e =
    let first = is_first lines g.answered g.session.link.wire 0 g.session.turns x f in
    let same : turn_given g x.0 x.1 (is_given lines x.1.turn) ≡ h = cc in
    let light = lighter lines g.answered g.session.link.wire first.turn x.1 first.move in
    let place : x.0 - 0 ≡ x.0 = omega arith in
    let there : slice_get g.session.turns x.0 ≡ Some first.turn = sym (ap (slice_get g.session.turns) place) ∙ first.there in
    subst (λ (v : Giving). weight lines v < weight lines g) same (given_weight lines g x.0 first.turn x.1 (is_given lines x.1.turn) there light)

control_less_by : (w : Wire) (s : Sent) (q : List Control) → w.queue ≡ q → option_map (control_sent w) (slice_get q 0) ≡ Some s → length s.wire.queue < length w.queue
control_less_by w s [] e h = absurd (cc)
control_less_by w s (c ∷ q) e h =
    let same : control_sent w c ≡ s = cc in
    let rest : drop 1 w.queue ≡ q = ap (drop 1) e in
    let size : length w.queue ≡ suc (length q) = ap length e in
    let made : length (drop 1 w.queue) < length w.queue = omega (arith, ap length rest, size) in
    subst (λ (v : Sent). length v.wire.queue < length w.queue) same made

-- a queued frame is sent once, and is short
control_less : (w : Wire) (s : Sent) → next_control w ≡ Some s → length s.wire.queue < length w.queue
control_less w s h = control_less_by w s w.queue refl h

next_weight_by : (lines : List AnswerLine) (g h : Giving) (o : Option Sent) → next_control g.session.link.wire ≡ o → next_by lines g o ≡ Some h → weight lines h < weight lines g
next_weight_by lines g h None c e = answer_weight lines g h (first_move lines g.answered g.session.link.wire 0 g.session.turns) refl e
next_weight_by lines g h (Some s) c e =
    let same : record g { session = record g.session { link = record g.session.link { wire = s.wire } }; octets = g.octets ++ s.octets } ≡ h = cc in
    let less = control_less g.session.link.wire s c in
    subst (λ (v : Giving). weight lines v < weight lines g) same (omega (arith, less))

pub next_weight : (lines : List AnswerLine) (g h : Giving) → next lines g ≡ Some h → weight lines h < weight lines g
next_weight lines g h e = next_weight_by lines g h (next_control g.session.link.wire) refl e
