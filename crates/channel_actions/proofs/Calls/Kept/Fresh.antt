-- The frame that a link shows next ends after all that the ends of attempts saw of the link.
use Rattle.attempt_ledger.specs.declared.row.Placed.{Placed}
use Rattle.attempt_ledger.specs.declared.row.RowEnd.{RowEnd}
use Rattle.grpc_base.specs.ErrorCodes.{enhance_your_calm}
use Rattle.grpc_base.specs.declared.fields.Field.{Field}
use Rattle.h2_frame.proofs.FrameLaws.{whole_is_frame}
use Rattle.h2_frame.specs.Frames.{FrameSeen}
use Rattle.h2_frame.specs.Readings.{Fault, Partial, Reading, Whole, reading_of}
use Rattle.h2_hpack.specs.declared.fault.HpackFault.{HpackFault}
use Rattle.channel_actions.specs.KeptCalls.Early.{saw_less}
use Rattle.channel_actions.specs.KeptCalls.Laws.{FramesAreFresh}
use Rattle.channel_actions.proofs.KeptSessions.Lists.{all_at, counted_places}
use Rattle.session_actions.specs.Links.{link_of, read_bytes}
use Rattle.session_actions.specs.Reading.{block_read, block_with, frame_read_by, is_last_of_block, is_long_block, is_of_block, link_error, next_fields, next_read, next_read_by, open_block, part_read, plain_read}
use Rattle.session_actions.specs.Words.{numbered}
use Rattle.session_actions.specs.Writing.{next_frame_read, read_action, read_next}
use Rattle.session_actions.specs.declared.action.Action.TheVariants as action
use Rattle.session_actions.specs.declared.link.Link.{Link}
use Rattle.session_actions.specs.declared.link.NextRead.TheVariants as nextread
use Rattle.session_actions.specs.declared.link.NextRead.{NextRead}
use Rattle.session_actions.specs.declared.link.OpenBlock.{OpenBlock}
use Rattle.session_actions.specs.declared.link.ReadFrame.{ReadFrame}
use Rattle.session_actions.specs.declared.seen.Seen.{Seen}
use Rattle.std.proofs.Common.{Bool, Err, List, None, Ok, Option, Result, Some, [], ap, arith, drop, false, if◌then◌else◌, is_none, nat_le, option_and_then, refl, subst, suc, sym, true, zero, ℕ, ◌+◌, ◌∙◌, ◌∷◌, ◌≡◌, ◌≤◌}
use Rattle.std.proofs.lemmas.Bool.{leb-true}
use Rattle.std.specs.Option.{option_map_or}

-- a frame has bytes
not_empty : (t : List ℕ) (f : FrameSeen) → reading_of t ≡ Whole f 0 → ⊥
not_empty [] f e = absurd (cc)
not_empty (x ∷ t) f e = (whole_is_frame (x ∷ t) f 0 e).1.spells

has_size : (t : List ℕ) (f : FrameSeen) (n : ℕ) → reading_of t ≡ Whole f n → 1 ≤ n
has_size t f zero e = absurd (not_empty t f e)
has_size t f (suc n) e = omega arith

-- so it ends no earlier than one byte further
abbrev EndsFrom : ℕ → NextRead → Type 0
EndsFrom m (nextread.Frame r) = m ≤ r.end
EndsFrom m _ = Unit {0}

from_if : (m : ℕ) (b : Bool) (code : ℕ) (n : NextRead) → EndsFrom m n → EndsFrom m (if b then nextread.Broken code else n)
from_if m true code n h = tt
from_if m false code n h = h

from_block : (m end : ℕ) (f : FrameSeen) (b : OpenBlock) (x : Result (List Field) HpackFault) → m ≤ end → EndsFrom m (block_read f end b x)
from_block m end f b (Err fault) h = tt
from_block m end f b (Ok fields) h =
    from_if m (is_long_block b) enhance_your_calm (nextread.Frame (record { frame = f; end = end; block = Some (record { fields = fields; ends = b.ends }) })) h

from_part : (m end : ℕ) (l : Link) (f : FrameSeen) (b : OpenBlock) (last : Bool) → m ≤ end
    → EndsFrom m (if last then block_read f end b (next_fields l b.bytes) else if is_long_block b then nextread.Broken enhance_your_calm else plain_read f end)
from_part m end l f b true h = from_block m end f b (next_fields l b.bytes) h
from_part m end l f b false h = from_if m (is_long_block b) enhance_your_calm (plain_read f end) h

from_whole : (m end : ℕ) (l : Link) (f : FrameSeen) (b : Bool) → m ≤ end → EndsFrom m (if b then part_read l f end (block_with (open_block l) f) else plain_read f end)
from_whole m end l f true h = from_part m end l f (block_with (open_block l) f) (is_last_of_block f) h
from_whole m end l f false h = h

from_frame : (m end : ℕ) (o : Option ℕ) (l : Link) (f : FrameSeen) → m ≤ end → EndsFrom m (frame_read_by o l f end)
from_frame m end (Some code) l f h = tt
from_frame m end None l f h = from_whole m end l f (is_of_block f) h

from_reading : (l : Link) (s : Seen) (x : Reading) → reading_of (drop (read_bytes l) l.received) ≡ x → EndsFrom (read_bytes l + 1) (next_read_by x l s)
from_reading l s Partial e = tt
from_reading l s (Fault code) e = tt
from_reading l s (Whole f size) e =
    let some : 1 ≤ size = has_size (drop (read_bytes l) l.received) f size e in
    let more : read_bytes l + 1 ≤ read_bytes l + size = omega (arith, some) in
    from_frame (read_bytes l + 1) (read_bytes l + size) (link_error l f s) l f more

given : (m link : ℕ) (r : ReadFrame) (n : NextRead) → EndsFrom m n → read_action link n ≡ Some (action.FrameRead link r) → m ≤ r.end
given m link r nextread.Nothing h e = absurd (cc)
given m link r (nextread.Frame q) h e = let same : q ≡ r = (cc) in subst (λ (z : ReadFrame). m ≤ z.end) same h
given m link r (nextread.Broken code) h e = absurd (cc)

given_if : (m link : ℕ) (r : ReadFrame) (n : NextRead) (b : Bool) → EndsFrom m n → (if b then read_action link n else None) ≡ Some (action.FrameRead link r) → m ≤ r.end
given_if m link r n true h e = given m link r n h e
given_if m link r n false h e = absurd (cc)

pub ends_later : (s : Seen) (link : ℕ) (l : Link) (r : ReadFrame) → numbered s.links link ≡ Some l → next_frame_read link s ≡ Some (action.FrameRead link r) → read_bytes l + 1 ≤ r.end
ends_later s link l r got e =
    given_if (read_bytes l + 1) link r (next_read l s) (is_none l.over) (from_reading l s (reading_of (drop (read_bytes l) l.received)) refl)
    (sym (ap (option_and_then (read_next link s)) got) ∙ e)

pub frames_are_fresh : FramesAreFresh
frames_are_fresh s link r kept early next l got k a e at there ended placed on =
    let own : l.number ≡ link = counted_places (λ (q : Link). q.number) s.links kept.links link l got in
    let seen : nat_le e.seen (option_map_or read_bytes (link_of a s) 0) ≡ true
    = sym (ap (λ (o : Option RowEnd). option_map_or (λ (z : RowEnd). nat_le z.seen (option_map_or read_bytes (link_of a s) 0)) o true) ended)
    ∙ all_at (saw_less s) s.attempts k a early.saw there in
    let one : link_of a s ≡ Some l = ap (λ (o : Option Placed). option_and_then (λ (p : Placed). numbered s.links p.link) o) placed ∙ ap (numbered s.links) (on ∙ own) ∙ got in
    let less : e.seen ≤ read_bytes l = leb-true e.seen (read_bytes l) (sym (ap (λ (o : Option Link). nat_le e.seen (option_map_or read_bytes o 0)) one) ∙ seen) in
    let later : read_bytes l + 1 ≤ r.end = ends_later s link l r got next in omega (arith, less, later)
