-- A frame of a header block: what the link reports of it is what the session reads.
use Rattle.std.proofs.Common.{◌≡◌, ◌++◌, ◌||◌, ◌&&◌, ◌==◌, not, ap, refl, subst, sym, ◌∙◌, Bool, true, false, List, [], Option, None, Some, Ok, Err, Result, ℕ, ◌+◌, if◌then◌else◌, length}
use Rattle.std.specs.List.{list_any}
use Rattle.std.proofs.lemmas.Bool.{eqb-true}
use Rattle.grpc_base.specs.ErrorCodes.{enhance_your_calm}
use Rattle.grpc_base.specs.declared.fields.Field.{Field}
use Rattle.h2_frame.specs.Frames.{FrameSeen, has_flag}
use Rattle.h2_frame.specs.Numbers.{continuation_type, end_headers_flag, end_stream_flag, headers_type}
use Rattle.h2_frame.specs.Payloads.{content_of}
use Rattle.h2_frame.specs.declared.payload.Setting.{Setting}
use Rattle.h2_hpack.specs.Blocks as hpack
use Rattle.h2_hpack.specs.Blocks.{decoded, fields_in, table_in}
use Rattle.h2_hpack.specs.declared.fault.HpackFault.{HpackFault}
use Rattle.h2_link.specs.LinkErrors as link
use Rattle.h2_link.specs.LinkErrors.{is_long, overflows_link, overflows_streams}
use Rattle.h2_link.specs.Queues.{sealed}
use Rattle.h2_link.specs.Steps as step
use Rattle.h2_link.specs.Steps.{applied, block_held, continuation_reported, found_from, headers_reported, is_numbered, judged, list_read, listed, opened_by, outcome, plain_reported, read_after, reported}
use Rattle.h2_link.specs.Wire.{Block, Report, Wire}
use Rattle.h2_link.specs.declared.live.LiveStream.{LiveStream}
use Rattle.link_actions.proofs.Receiving.{Received}
use Rattle.link_actions.proofs.History.{table_of}
use Rattle.link_actions.proofs.Judged.{settings_same}
use Rattle.link_actions.proofs.Lists.{if_false, if_true}
use Rattle.link_actions.proofs.QuietKept.{received_of}
use Rattle.link_actions.proofs.Blocks.{SameAs}
use Rattle.link_actions.proofs.Reading.{NoError, applied_same, unsealed}
use Rattle.link_actions.specs.Sees.{IsBlock, SeesRead}
use Rattle.session_actions.specs.Reading.{block_read, block_with, frame_read_by, is_last_of_block, is_long_block, is_of_block, next_fields, open_block, part_read, plain_read}
use Rattle.session_actions.specs.declared.link.Link.{Link}
use Rattle.session_actions.specs.declared.link.NextRead.TheVariants as nextread
use Rattle.session_actions.specs.declared.link.OpenBlock.{OpenBlock}
use Rattle.session_actions.specs.declared.link.ReadFrame.{ReadFrame}
use Rattle.link_actions.proofs.StreamActions.StreamGoes.{fair_rules}
use Rattle.link_actions.specs.StreamActions.Laws.{Comes}

-- what the session reads: the last frame of a block, with its header list, or another frame of it
pub record IsLast (l : Link) (o : OpenBlock) (r : ReadFrame) : Type 0 where
  pub fields : List Field
  pub decoded_ : next_fields l o.bytes ≡ Ok fields
  pub short : is_long_block o ≡ false
  pub block : r.block ≡ Some (record { fields = fields; ends = o.ends })

frame_is : (x y : ReadFrame) → nextread.Frame x ≡ nextread.Frame y → x ≡ y
frame_is x y e = (cc)

long_by : (l : Link) (f : FrameSeen) (end : ℕ) (o : OpenBlock) (r : ReadFrame) (fields : List Field) (b : Bool) → is_long_block o ≡ b → next_fields l o.bytes ≡ Ok fields
    → (if b then nextread.Broken enhance_your_calm else nextread.Frame (record { frame = f; end = end; block = Some (record { fields = fields; ends = o.ends }) })) ≡ nextread.Frame r
    → IsLast l o r
long_by l f end o r fields true e is next = absurd (cc)
long_by l f end o r fields false e is next =
    let x : ReadFrame = record { frame = f; end = end; block = Some (record { fields = fields; ends = o.ends }) } in
    record { fields = fields; decoded_ = is; short = e; block = ap (λ (y : ReadFrame). y.block) (sym (frame_is x r next)) }

last_by : (l : Link) (f : FrameSeen) (end : ℕ) (o : OpenBlock) (r : ReadFrame) (x : Result (List Field) HpackFault) → next_fields l o.bytes ≡ x
    → block_read f end o x ≡ nextread.Frame r → IsLast l o r
last_by l f end o r (Err fault) is next = absurd (cc)
last_by l f end o r (Ok fields) is next = long_by l f end o r fields (is_long_block o) refl is next

pub last_is : (l : Link) (r : ReadFrame) → is_of_block r.frame ≡ true → is_last_of_block r.frame ≡ true → frame_read_by None l r.frame r.end ≡ nextread.Frame r
    → IsLast l (block_with (open_block l) r.frame) r
last_is l r of_b last next =
    let f : FrameSeen = r.frame in
    let o : OpenBlock = block_with (open_block l) f in
    last_by l f r.end o r (next_fields l o.bytes) refl
    (sym (if_true (is_last_of_block f) (block_read f r.end o (next_fields l o.bytes)) (if is_long_block o then nextread.Broken enhance_your_calm else plain_read f r.end) last)
    ∙ sym (if_true (is_of_block f) (part_read l f r.end o) (plain_read f r.end) of_b) ∙ next)

more_by : (f : FrameSeen) (end : ℕ) (o : OpenBlock) (r : ReadFrame) (b : Bool) → is_long_block o ≡ b
    → (if b then nextread.Broken enhance_your_calm else plain_read f end) ≡ nextread.Frame r → (is_long_block o ≡ false) × (r.block ≡ None)
more_by f end o r true e next = absurd (cc)
more_by f end o r false e next =
    let x : ReadFrame = record { frame = f; end = end; block = None } in
    (e, ap (λ (y : ReadFrame). y.block) (sym (frame_is x r next)))

pub more_is : (l : Link) (r : ReadFrame) → is_of_block r.frame ≡ true → is_last_of_block r.frame ≡ false → frame_read_by None l r.frame r.end ≡ nextread.Frame r
    → (is_long_block (block_with (open_block l) r.frame) ≡ false) × (r.block ≡ None)
more_is l r of_b last next =
    let f : FrameSeen = r.frame in
    let o : OpenBlock = block_with (open_block l) f in
    more_by f r.end o r (is_long_block o) refl
    (sym (if_false (is_last_of_block f) (block_read f r.end o (next_fields l o.bytes)) (if is_long_block o then nextread.Broken enhance_your_calm else plain_read f r.end) last)
    ∙ sym (if_true (is_of_block f) (part_read l f r.end o) (plain_read f r.end) of_b) ∙ next)

-- the block that the frame belongs to, in the link
pub record IsOf (w : Wire) (f : FrameSeen) (o : OpenBlock) (seen : ℕ) : Type 0 where
  pub block : Block
  pub kept : Option Block
  pub number : block.number ≡ f.stream
  pub ends : block.ends ≡ o.ends
  pub bytes : block.bytes ≡ o.bytes
  pub applied_is : applied (record w { queue = sealed w.queue }) f seen
      ≡ (if has_flag f.flags end_headers_flag then step.block_read (record w { queue = sealed w.queue; block = kept }) block seen
      else block_held (record w { queue = sealed w.queue; block = kept }) block)

placed_if : (a b : Bool) → a ≡ true → not (a && b) ≡ false → b ≡ true
placed_if true true e h = refl
placed_if true false e h = absurd (cc)
placed_if false b e h = absurd (cc)

both_ways : (b : Bool) → b ≡ true → b ≡ false → ⊥
both_ways true e h = (cc)
both_ways false e h = (cc)

continued : (w : Wire) (f : FrameSeen) (seen : ℕ) (k : Option Block) (open_ : Option OpenBlock) → w.block ≡ k → IsBlock k open_ → link.is_misplaced k f ≡ false
    → (f.kind == continuation_type) ≡ true → (f.kind == headers_type) ≡ false → IsOf w f (block_with open_ f) seen
continued w f seen None None e is placed kind no_headers = absurd (both_ways (f.kind == continuation_type) kind placed)
continued w f seen None (Some o) e is placed kind no_headers = absurd is
continued w f seen (Some b) None e is placed kind no_headers = absurd is
continued w f seen (Some b) (Some o) e is placed kind no_headers =
    let v : Wire = record w { queue = sealed w.queue } in
    let number : f.stream ≡ b.number = eqb-true f.stream b.number (placed_if (f.kind == continuation_type) (f.stream == b.number) kind placed) in
    let fresh_ : OpenBlock = record { stream = f.stream; ends = has_flag f.flags end_stream_flag; bytes = content_of f } in
    let more : OpenBlock = record o { bytes = o.bytes ++ f.payload } in
    let with_ : block_with (Some o) f ≡ more = if_false (f.kind == headers_type) fresh_ more no_headers in
    record {
      block = record b { bytes = b.bytes ++ f.payload };
      kept = None;
      number = sym number;
      ends = is.1 ∙ ap (λ (x : OpenBlock). x.ends) (sym with_);
      bytes = ap (λ (bs : List ℕ). bs ++ f.payload) is.2 ∙ ap (λ (x : OpenBlock). x.bytes) (sym with_);
      applied_is = if_false (f.kind == headers_type) (headers_reported v f seen) (if f.kind == continuation_type then continuation_reported v f seen w.block else Ok (plain_reported v f seen)) no_headers
          ∙ if_true (f.kind == continuation_type) (continuation_reported v f seen w.block) (Ok (plain_reported v f seen)) kind
          ∙ ap (λ (x : Option Block). continuation_reported v f seen x) e;
    }

begun_by : (w : Wire) (f : FrameSeen) (seen : ℕ) (open_ : Option OpenBlock) → (f.kind == headers_type) ≡ true → IsOf w f (block_with open_ f) seen
begun_by w f seen open_ kind =
    let v : Wire = record w { queue = sealed w.queue } in
    let fresh_ : OpenBlock = record { stream = f.stream; ends = has_flag f.flags end_stream_flag; bytes = content_of f } in
    let with_ : block_with open_ f ≡ fresh_ = if_true (f.kind == headers_type) fresh_ _ kind in
    record {
      block = opened_by f;
      kept = w.block;
      number = refl;
      ends = ap (λ (x : OpenBlock). x.ends) (sym with_);
      bytes = ap (λ (x : OpenBlock). x.bytes) (sym with_);
      applied_is = if_true (f.kind == headers_type) (headers_reported v f seen) (if f.kind == continuation_type then continuation_reported v f seen w.block else Ok (plain_reported v f seen)) kind;
    }

of_by : (w : Wire) (f : FrameSeen) (seen : ℕ) (open_ : Option OpenBlock) (b : Bool) → (f.kind == headers_type) ≡ b → (b || (f.kind == continuation_type)) ≡ true → IsBlock w.block open_
    → link.is_misplaced w.block f ≡ false → IsOf w f (block_with open_ f) seen
of_by w f seen open_ true kind of_b is placed = begun_by w f seen open_ kind
of_by w f seen open_ false kind of_b is placed = continued w f seen w.block open_ refl is placed of_b kind

pub is_of : (l : Link) (w : Wire) (f : FrameSeen) (seen : ℕ) → SeesRead l w → is_of_block f ≡ true → link.is_misplaced w.block f ≡ false → IsOf w f (block_with (open_block l) f) seen
is_of l w f seen reads of_b placed = of_by w f seen (open_block l) (f.kind == headers_type) refl of_b reads.block placed

-- what the link reports of a whole block
pub record IsListed (w : Wire) (f : FrameSeen) (fields : List Field) (ends : Bool) (seen : ℕ) : Type 0 where
  pub kept : Option Block
  pub table : hpack.State
  pub applied_is : applied (record w { queue = sealed w.queue }) f seen
      ≡ Ok (listed (record w { queue = sealed w.queue; block = kept; table = table }) fields ends seen (found_from (is_numbered f.stream) 0 w.live))

pub is_listed : (l : Link) (w : Wire) (r : ReadFrame) (seen : ℕ) → SeesRead l w → is_last_of_block r.frame ≡ true → IsOf w r.frame (block_with (open_block l) r.frame) seen
    → (x : IsLast l (block_with (open_block l) r.frame) r) → IsListed w r.frame x.fields (block_with (open_block l) r.frame).ends seen
is_listed l w r seen reads last of x =
    let f : FrameSeen = r.frame in
    let o : OpenBlock = block_with (open_block l) f in
    let k : Block = of.block in
    let v : Wire = record w { queue = sealed w.queue; block = of.kept } in
    let t : hpack.State = table_in (decoded w.table k.bytes) in
    let u : Wire = record w { queue = sealed w.queue; block = of.kept; table = t } in
    let at : Option (ℕ × LiveStream) = found_from (is_numbered f.stream) 0 w.live in
    let fields_are : fields_in (decoded w.table k.bytes) ≡ Ok x.fields
    = ap (λ (y : hpack.State). fields_in (decoded y k.bytes)) reads.table ∙ ap (λ (bs : List ℕ). fields_in (decoded (table_of l) bs)) of.bytes ∙ x.decoded_ in
    let short : is_long k.bytes ≡ false = ap is_long of.bytes ∙ x.short in
    let handled : Result Report ℕ = Ok (listed u x.fields k.ends seen (found_from (is_numbered k.number) 0 w.live)) in
    let quiescent : Result Report ℕ = Err enhance_your_calm in
    record {
      kept = of.kept;
      table = t;
      applied_is = of.applied_is ∙ if_true (has_flag f.flags end_headers_flag) (step.block_read v k seen) (block_held v k) last
          ∙ ap (list_read v k seen t) fields_are ∙ if_false (is_long k.bytes) quiescent handled short
          ∙ ap (λ (n : ℕ). Ok (listed u x.fields k.ends seen (found_from (is_numbered n) 0 w.live))) of.number
          ∙ ap (λ (b : Bool). Ok (listed u x.fields b seen at)) of.ends;
    }

-- and of another frame of it
pub record IsHeld (w : Wire) (f : FrameSeen) (seen : ℕ) : Type 0 where
  pub block : Block
  pub applied_is : applied (record w { queue = sealed w.queue }) f seen ≡ Ok (record { wire = record w { queue = sealed w.queue; block = Some block }; news = [] })

pub is_held : (w : Wire) (f : FrameSeen) (o : OpenBlock) (seen : ℕ) → is_last_of_block f ≡ false → IsOf w f o seen → is_long_block o ≡ false → IsHeld w f seen
is_held w f o seen last of short =
    let k : Block = of.block in
    let v : Wire = record w { queue = sealed w.queue; block = of.kept } in
    let quiescent : Result Report ℕ = Err enhance_your_calm in
    let held : Result Report ℕ = Ok (record { wire = record w { queue = sealed w.queue; block = Some k }; news = [] }) in
    record {
      block = k;
      applied_is = of.applied_is ∙ if_false (has_flag f.flags end_headers_flag) (step.block_read v k seen) (block_held v k) last
          ∙ if_false (is_long k.bytes) quiescent held (ap is_long of.bytes ∙ short);
    }

-- so they agree in what was read
pub received_by : (l : Link) (w : Wire) (r : ReadFrame) (t : Report) → SeesRead l w → Comes l w r
    → applied (record w { queue = sealed w.queue }) r.frame (read_after w.read (9 + length r.frame.payload)) ≡ Ok t → Received r.frame (open_block l) w t.wire
received_by l w r t reads comes e =
    let f : FrameSeen = r.frame in
    let v : Wire = record w { queue = sealed w.queue } in
    let none = fair_rules w f comes.fair in
    let N : List Setting → Type 0 = λ ss. NoError (link.is_misplaced w.block f) (overflows_link w.window f) (list_any (overflows_streams w.live) ss) in
    let S : Result Report ℕ → Type 0 = λ x. SameAs r.end f (open_block l) v (frame_read_by None l f r.end) x in
    let same : S (Ok t) = subst S e (applied_same l v f r.end (read_after w.read (9 + length f.payload)) reads.block reads.table (subst N (sym (settings_same f comes.allowed)) none)) in
    unsealed f (open_block l) w t.wire (received_of r.end f (open_block l) v (frame_read_by None l f r.end) t same)

-- what the link reports
pub reported_by : (w : Wire) (f : FrameSeen) (t : Report) → link.link_error w f ≡ None
    → applied (record w { queue = sealed w.queue }) f (read_after w.read (9 + length f.payload)) ≡ Ok t → reported w f ≡ outcome w (read_after w.read (9 + length f.payload)) (Ok t)
reported_by w f t fair e = ap (judged w f) fair ∙ ap (outcome w (read_after w.read (9 + length f.payload))) e
