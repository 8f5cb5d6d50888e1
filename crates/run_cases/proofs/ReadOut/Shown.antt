-- What the bytes of a link show next: a frame, which is whole; nothing, where they are a part of one.
use Rattle.frame_cases.proofs.QuietFrames.Read.{IsReading, listed_more, reads_so}
use Rattle.run_cases.proofs.ReadOut.ReportsThat.{arrives_on}
use Rattle.frame_cases.specs.PieceWalks.Points.{IsReadFairly}
use Rattle.grpc_base.specs.ErrorCodes.{enhance_your_calm}
use Rattle.grpc_base.specs.declared.event.Event.TheVariants as event
use Rattle.grpc_base.specs.declared.event.Event.{Event}
use Rattle.grpc_base.specs.declared.fields.Field.{Field}
use Rattle.h2_frame.proofs.FrameLaws.{whole_is_frame}
use Rattle.h2_frame.specs.Frames.{FrameSeen}
use Rattle.h2_frame.specs.Readings.{Fault, Partial, Reading, Whole}
use Rattle.h2_hpack.specs.declared.fault.HpackFault.{HpackFault}
use Rattle.link_actions.proofs.History.{bytes_more}
use Rattle.session_actions.specs.Events.{frame_of_event}
use Rattle.session_actions.specs.Links.{read_bytes}
use Rattle.session_actions.specs.Reading.{block_read, block_with, frame_read_by, is_last_of_block, is_long_block, is_of_block, link_error, next_fields, next_read, next_read_by, open_block, part_read, plain_read}
use Rattle.session_actions.specs.Writing.{next_frame_read, read_action, with_frame_read}
use Rattle.session_actions.specs.declared.action.Action.TheVariants as action
use Rattle.session_actions.specs.declared.entry.OpenEntry.{OpenEntry}
use Rattle.session_actions.specs.declared.link.Link.{Link}
use Rattle.session_actions.specs.declared.link.NextRead.TheVariants as nextread
use Rattle.session_actions.specs.declared.link.NextRead.{NextRead}
use Rattle.session_actions.specs.declared.link.OpenBlock.{OpenBlock}
use Rattle.session_actions.specs.declared.link.ReadFrame.{ReadFrame}
use Rattle.session_actions.specs.declared.seen.Seen.{Seen}
use Rattle.std.proofs.Common.{Bool, Err, List, None, Ok, Option, Result, Some, ap, arith, drop, false, if◌then◌else◌, length, refl, subst, sym, true, ℕ, ◌+◌, ◌-◌, ◌∙◌, ◌≡◌, ◌≤◌}
use Rattle.std.proofs.lemmas.Bool.{eqb-true}
use Rattle.std.proofs.lemmas.List.{length-drop}

pub shows_by : (link : ℕ) (r : ReadFrame) (l : Link) (s : Seen) (b : Bool) (n : NextRead) → (if b then read_action link n else None) ≡ Some (action.FrameRead link r) → n ≡ nextread.Frame r
shows_by link r l s true nextread.Nothing e = absurd (let no : None ≡ Some (action.FrameRead link r) = e in (cc))
shows_by link r l s true (nextread.Frame q) e = let one : q ≡ r = (cc) in ap nextread.Frame one
shows_by link r l s true (nextread.Broken number) e = absurd (let no : Some (action.LinkBreaks link number) ≡ Some (action.FrameRead link r) = e in (cc))
shows_by link r l s false n e = absurd (let no : None ≡ Some (action.FrameRead link r) = e in (cc))

pub read_fair : (l : Link) (r : ReadFrame) (frames : List FrameSeen) (s : Seen) → next_read l s ≡ nextread.Frame r → IsReadFairly l → IsReadFairly (with_frame_read r frames l)
read_fair l r frames s shows fair =
    let reading : IsReading l s r (drop (read_bytes l) l.received) = reads_so l s r (drop (read_bytes l) l.received) refl shows in
    let size : reading.size ≤ length (drop (read_bytes l) l.received) = (whole_is_frame (drop (read_bytes l) l.received) r.frame reading.size reading.is).0 in
    let rest : length (drop (read_bytes l) l.received) ≡ length l.received - read_bytes l = length-drop (read_bytes l) l.received in
    record {
      within = within_on (read_bytes (with_frame_read r frames l)) r.end (read_bytes l) reading.size (length (drop (read_bytes l) l.received)) (length l.received) (bytes_more l r frames) reading.end size rest fair.within;
      listed = listed_more l r frames fair.listed reading.next;
    }
  where
    within_on : (i e b z d n : ℕ) → i ≡ e → e ≡ b + z → z ≤ d → d ≡ n - b → b ≤ n → i ≤ n
    within_on i e b z d n f g h j p = omega (arith, f, g, h, j, p)

pub event_link : (n : ℕ) (e : Event) (o : OpenEntry) (s : Seen) → arrives_on n e ≡ true → frame_of_event e o s ≡ None → next_frame_read n s ≡ None
event_link n (event.Arrived link piece) o s arrives none = let same : link ≡ n = eqb-true link n arrives in ap (λ (j : ℕ). next_frame_read j s) (sym same) ∙ none
event_link n e o s arrives none = absurd (let no : false ≡ true = arrives in (cc))

pub nothing_by : (n : ℕ) (x : NextRead) → read_action n x ≡ None → x ≡ nextread.Nothing
nothing_by n nextread.Nothing e = refl
nothing_by n (nextread.Frame r) e = absurd (let no : Some (action.FrameRead n r) ≡ None = e in (cc))
nothing_by n (nextread.Broken number) e = absurd (let no : Some (action.LinkBreaks n number) ≡ None = e in (cc))

Shown : NextRead → Type 0
Shown nextread.Nothing = ⊥
Shown n = Unit {0}

shown_if : (code : ℕ) (b : Bool) (n : NextRead) → Shown n → Shown (if b then nextread.Broken code else n)
unfolding Shown
shown_if code true n h = tt
shown_if code false n h = h

shown_block : (f : FrameSeen) (end : ℕ) (b : OpenBlock) (x : Result (List Field) HpackFault) → Shown (block_read f end b x)
unfolding Shown
shown_block f end b (Err fault) = tt
shown_block f end b (Ok fields) =
    shown_if enhance_your_calm (is_long_block b) (nextread.Frame (record { frame = f; end = end; block = Some (record { fields = fields; ends = b.ends }) })) tt

shown_part : (f : FrameSeen) (end : ℕ) (l : Link) (b : OpenBlock) (last : Bool)
    → Shown (if last then block_read f end b (next_fields l b.bytes) else if is_long_block b then nextread.Broken enhance_your_calm else plain_read f end)
unfolding Shown
shown_part f end l b true = shown_block f end b (next_fields l b.bytes)
shown_part f end l b false = shown_if enhance_your_calm (is_long_block b) (plain_read f end) tt

shown_frame : (f : FrameSeen) (end : ℕ) (l : Link) (b : Bool) → Shown (if b then part_read l f end (block_with (open_block l) f) else plain_read f end)
unfolding Shown
shown_frame f end l true = shown_part f end l (block_with (open_block l) f) (is_last_of_block f)
shown_frame f end l false = tt

error_shows : (o : Option ℕ) (l : Link) (f : FrameSeen) (end : ℕ) → frame_read_by o l f end ≡ nextread.Nothing → ⊥
unfolding Shown
error_shows (Some code) l f end e = (let no : nextread.Broken code ≡ nextread.Nothing = e in (cc))
error_shows None l f end e = subst Shown e (shown_frame f end l (is_of_block f))

pub partial_by : (x : Reading) (l : Link) (s : Seen) → next_read_by x l s ≡ nextread.Nothing → x ≡ Partial
partial_by Partial l s e = refl
partial_by (Fault code) l s e = absurd (let no : nextread.Broken code ≡ nextread.Nothing = e in (cc))
partial_by (Whole f size) l s e = absurd (error_shows (link_error l f s) l f (read_bytes l + size) e)
