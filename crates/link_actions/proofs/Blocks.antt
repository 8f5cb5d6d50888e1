-- A frame of a header block is read in both, with the same header list, or breaks the link in both.
use Rattle.std.proofs.Common.{◌≡◌, ◌∷◌, ◌++◌, ◌||◌, ◌&&◌, ◌==◌, not, ap, arith, refl, subst, sym, ◌∙◌, Bool, true, false, List, [], Option, None, Some, Ok, Err, Result, ℕ, if◌then◌else◌}
use Rattle.std.specs.Option.{option_or, unwrap_or}
use Rattle.std.proofs.lemmas.Bool.{eqb-true}
use Rattle.grpc_base.specs.ErrorCodes.{enhance_your_calm}
use Rattle.grpc_base.specs.declared.fields.Field.{Field}
use Rattle.h2_frame.specs.Frames.{FrameSeen, has_flag}
use Rattle.h2_frame.specs.Numbers.{continuation_type, end_headers_flag, end_stream_flag, goaway_type, headers_type, settings_type, window_update_type}
use Rattle.h2_frame.specs.Payloads.{content_of, increment}
use Rattle.h2_hpack.specs.Blocks as hpack
use Rattle.h2_hpack.specs.Blocks.{decoded, fields_in, state_after, table_in}
use Rattle.h2_hpack.specs.declared.fault.HpackFault.{HpackFault}
use Rattle.h2_hpack.specs.declared.fault.HpackFault.TheVariants as fault
use Rattle.h2_link.specs.LinkErrors as link
use Rattle.h2_link.specs.Steps.{block_held, continuation_reported, found_from, headers_reported, is_numbered, list_read, listed, opened_by}
use Rattle.h2_link.specs.Steps as step
use Rattle.h2_link.specs.Wire.{Block, Report, Wire}
use Rattle.h2_link.specs.declared.live.LiveStream.{LiveStream}
use Rattle.link_actions.proofs.Receiving.{Received, no_raise, no_settings, not_kind, of_settings}
use Rattle.link_actions.proofs.History.{completed, given, table_of}
use Rattle.link_actions.proofs.Lists.{both_if, if_false, if_true, or_none}
use Rattle.link_actions.specs.Sees.{IsBlock}
use Rattle.session_actions.specs.Links.{is_settings}
use Rattle.session_actions.specs.Reading as reading
use Rattle.session_actions.specs.Reading.{block_after, block_read, block_with, is_last_of_block, is_long_block, is_of_block, next_fields, part_read, plain_read, raise_by}
use Rattle.session_actions.specs.declared.link.Link.{Link}
use Rattle.session_actions.specs.declared.link.NextRead.{NextRead}
use Rattle.session_actions.specs.declared.link.OpenBlock.{OpenBlock}
use Rattle.session_actions.specs.declared.link.NextRead.TheVariants as nextread

-- what is read in both: the same frame, or an error of the same code
abbrev pub SameAs : ℕ → FrameSeen → Option OpenBlock → Wire → NextRead → Result Report ℕ → Type 0
SameAs end f open_ w (nextread.Broken code) (Err e) = code ≡ e
SameAs end f open_ w (nextread.Frame r) (Ok t) = (r.frame ≡ f) × (r.end ≡ end) × Received f open_ w t.wire
SameAs end f open_ w _ _ = ⊥

-- a frame of a header block says nothing else
pub record IsPart (f : FrameSeen) : Type 0 where
  pub settings : is_settings f ≡ false
  pub goaway : (f.kind == goaway_type) ≡ false
  pub block : is_of_block f ≡ true
  pub raises : raise_by 0 f ≡ 0

part_of : (f : FrameSeen) (n : ℕ) → f.kind ≡ n → (n == settings_type) ≡ false → (n == goaway_type) ≡ false → (n == window_update_type) ≡ false
    → ((n == headers_type) || (n == continuation_type)) ≡ true → IsPart f
part_of f n e settings goaway update block = record {
  settings = of_settings f.kind f.flags (not_kind f.kind n settings_type false e settings);
  goaway = not_kind f.kind n goaway_type false e goaway;
  block = ap (λ (k : ℕ). (k == headers_type) || (k == continuation_type)) e ∙ block;
  raises = no_raise (f.kind == window_update_type) (f.stream == 0) (increment f.payload) (not_kind f.kind n window_update_type false e update);
}

-- all but the block and the table stays
pub record KeepsRest (w v : Wire) : Type 0 where
  pub whole : v.broken ≡ w.broken
  pub ready : v.ready ≡ w.ready
  pub retiring : v.retiring ≡ w.retiring
  pub limit : v.limit ≡ w.limit
  pub initial : v.initial ≡ w.initial
  pub window : v.window ≡ w.window
  pub opened : v.opened ≡ w.opened

part_received : (f : FrameSeen) (open_ : Option OpenBlock) (w v : Wire) → IsPart f → KeepsRest w v → IsBlock v.block (block_after open_ f)
    → v.table ≡ state_after w.table (completed open_ f) → Received f open_ w v
part_received f open_ w v part kept block table =
    let raise : raise_by 0 f ≡ 0 = part.raises in
    let same : v.window ≡ w.window = kept.window in
    record {
      whole = kept.whole;
      ready = kept.ready ∙ sym (or_none w.ready) ∙ ap (λ (b : Bool). w.ready || b) (sym part.settings);
      retiring = kept.retiring ∙ sym (or_none w.retiring) ∙ ap (λ (b : Bool). w.retiring || b) (sym part.goaway);
      limit = kept.limit ∙ ap (λ ss. option_or (given 3 ss) w.limit) (sym (no_settings f part.settings));
      initial = kept.initial ∙ ap (λ ss. unwrap_or (given 4 ss) w.initial) (sym (no_settings f part.settings));
      window = omega (arith, raise, same);
      opened = kept.opened;
      block = block;
      table = table;
    }

-- the last frame of a block
after_last : (open_ : Option OpenBlock) (f : FrameSeen) → is_of_block f ≡ true → is_last_of_block f ≡ true → block_after open_ f ≡ None
after_last open_ f of_b last =
    if_false (not (is_of_block f)) open_ _ (ap not of_b) ∙ if_true (is_last_of_block f) None _ last

completes : (open_ : Option OpenBlock) (f : FrameSeen) → is_of_block f ≡ true → is_last_of_block f ≡ true → completed open_ f ≡ (block_with open_ f).bytes ∷ []
completes open_ f of_b last =
    if_true (is_of_block f && is_last_of_block f) ((block_with open_ f).bytes ∷ []) [] (ap (λ (b : Bool). b && is_last_of_block f) of_b ∙ last)

-- another frame of it
after_more : (open_ : Option OpenBlock) (f : FrameSeen) → is_of_block f ≡ true → is_last_of_block f ≡ false → block_after open_ f ≡ Some (block_with open_ f)
after_more open_ f of_b last =
    if_false (not (is_of_block f)) open_ _ (ap not of_b) ∙ if_false (is_last_of_block f) None (Some (block_with open_ f)) last

completes_none : (open_ : Option OpenBlock) (f : FrameSeen) → is_of_block f ≡ true → is_last_of_block f ≡ false → completed open_ f ≡ []
completes_none open_ f of_b last =
    if_false (is_of_block f && is_last_of_block f) ((block_with open_ f).bytes ∷ []) [] (ap (λ (b : Bool). b && is_last_of_block f) of_b ∙ last)

-- the code of a header block that cannot be decoded
same_code : (e : HpackFault) → reading.hpack_error e ≡ link.hpack_error e
same_code fault.TooLong = refl
same_code _ = refl

abbrev block_of_open : OpenBlock → Block
block_of_open b = record { number = b.stream; ends = b.ends; bytes = b.bytes }

keeps_listed : (w v : Wire) (fields : List Field) (end : Bool) (seen : ℕ) (o : Option (ℕ × LiveStream)) → KeepsRest w v → KeepsRest w (listed v fields end seen o).wire
keeps_listed w v fields end seen None kept = kept
keeps_listed w v fields end seen (Some x) kept = record {
  whole = kept.whole;
  ready = kept.ready;
  retiring = kept.retiring;
  limit = kept.limit;
  initial = kept.initial;
  window = kept.window;
  opened = kept.opened;
}

listed_block : (v : Wire) (fields : List Field) (end : Bool) (seen : ℕ) (o : Option (ℕ × LiveStream)) → (listed v fields end seen o).wire.block ≡ v.block
listed_block v fields end seen None = refl
listed_block v fields end seen (Some x) = refl

listed_table : (v : Wire) (fields : List Field) (end : Bool) (seen : ℕ) (o : Option (ℕ × LiveStream)) → (listed v fields end seen o).wire.table ≡ v.table
listed_table v fields end seen None = refl
listed_table v fields end seen (Some x) = refl

-- a whole block
list_same : (f : FrameSeen) (end seen : ℕ) (open_ : Option OpenBlock) (w v : Wire) (b : OpenBlock) (r : Result (List Field) HpackFault)
    → IsPart f → is_last_of_block f ≡ true → block_with open_ f ≡ b → v.block ≡ None → KeepsRest w v
    → SameAs end f open_ w (block_read f end b r) (list_read v (block_of_open b) seen (table_in (decoded w.table b.bytes)) r)
list_same f end seen open_ w v b (Err e) part last is no_block kept = same_code e
list_same f end seen open_ w v b (Ok fields) part last is no_block kept =
    let t : hpack.State = table_in (decoded w.table b.bytes) in
    let at : Option (ℕ × LiveStream) = found_from (is_numbered b.stream) 0 v.live in
    let u : Wire = record v { table = t } in
    let N : Option OpenBlock → Type 0 = λ o. IsBlock (listed u fields b.ends seen at).wire.block o in
    let B : Option Block → Type 0 = λ k. IsBlock k None in
    both_if (SameAs end f open_ w) (is_long_block b) (nextread.Broken enhance_your_calm) _ (Err enhance_your_calm) _
    (λ e. refl)
    (λ e. (
      refl,
      refl,
      part_received f open_ w (listed u fields b.ends seen at).wire part
          (keeps_listed w u fields b.ends seen at (record { whole = kept.whole; ready = kept.ready; retiring = kept.retiring; limit = kept.limit; initial = kept.initial; window = kept.window; opened = kept.opened }))
          (subst N (sym (after_last open_ f part.block last)) (subst B (sym (listed_block u fields b.ends seen at ∙ no_block)) tt))
          (listed_table u fields b.ends seen at
          ∙ ap (λ (k : OpenBlock). table_in (decoded w.table k.bytes)) (sym is)
          ∙ ap (state_after w.table) (sym (completes open_ f part.block last))),
    ))

-- a block that goes on
held_same : (f : FrameSeen) (end : ℕ) (open_ : Option OpenBlock) (w v : Wire) (b : OpenBlock)
    → IsPart f → is_last_of_block f ≡ false → block_with open_ f ≡ b → KeepsRest w v → v.table ≡ w.table
    → SameAs end f open_ w (if is_long_block b then nextread.Broken enhance_your_calm else plain_read f end) (block_held v (block_of_open b))
held_same f end open_ w v b part last is kept table =
    let N : Option OpenBlock → Type 0 = λ o. IsBlock (Some (block_of_open b)) o in
    both_if (SameAs end f open_ w) (is_long_block b) (nextread.Broken enhance_your_calm) (plain_read f end) (Err enhance_your_calm) _
    (λ e. refl)
    (λ e. (
      refl,
      refl,
      part_received f open_ w (record v { block = Some (block_of_open b) }) part
          (record { whole = kept.whole; ready = kept.ready; retiring = kept.retiring; limit = kept.limit; initial = kept.initial; window = kept.window; opened = kept.opened })
          (subst N (sym (after_more open_ f part.block last ∙ ap (λ (k : OpenBlock). Some k) is)) (refl, refl, refl))
          (table ∙ ap (state_after w.table) (sym (completes_none open_ f part.block last))),
    ))

part_same : (l : Link) (f : FrameSeen) (end seen : ℕ) (open_ : Option OpenBlock) (w v : Wire) (b : OpenBlock)
    → IsPart f → block_with open_ f ≡ b → v.block ≡ None → KeepsRest w v → v.table ≡ w.table → w.table ≡ table_of l
    → SameAs end f open_ w (part_read l f end b)
    (if has_flag f.flags end_headers_flag then step.block_read v (block_of_open b) seen else block_held v (block_of_open b))
part_same l f end seen open_ w v b part is no_block kept same table =
    let S : hpack.State → hpack.State → Type 0
    = λ t u. SameAs end f open_ w (block_read f end b (fields_in (decoded t b.bytes))) (list_read v (block_of_open b) seen (table_in (decoded u b.bytes)) (fields_in (decoded u b.bytes))) in
    both_if (SameAs end f open_ w) (is_last_of_block f) (block_read f end b (next_fields l b.bytes)) _ (step.block_read v (block_of_open b) seen) (block_held v (block_of_open b))
    (λ last. subst (λ t. S t v.table) table (subst (λ t. S w.table t) (sym same) (list_same f end seen open_ w v b (fields_in (decoded w.table b.bytes)) part last is no_block kept)))
    (λ last. held_same f end open_ w v b part last is kept same)

-- HEADERS
pub headers_same : (l : Link) (w : Wire) (f : FrameSeen) (end seen : ℕ) (open_ : Option OpenBlock) → (f.kind == headers_type) ≡ true → w.block ≡ None
    → w.table ≡ table_of l → SameAs end f open_ w (part_read l f end (block_with open_ f)) (headers_reported w f seen)
headers_same l w f end seen open_ is no_block table =
    let b : OpenBlock = record { stream = f.stream; ends = has_flag f.flags end_stream_flag; bytes = content_of f } in
    let made : block_with open_ f ≡ b = if_true (f.kind == headers_type) b _ is in
    let S : OpenBlock → Type 0 = λ k. SameAs end f open_ w (part_read l f end k) (headers_reported w f seen) in
    subst S (sym made)
    (part_same l f end seen open_ w w b (part_of f headers_type (eqb-true f.kind headers_type is) refl refl refl refl) made no_block
    (record { whole = refl; ready = refl; retiring = refl; limit = refl; initial = refl; window = refl; opened = refl }) refl table)

-- CONTINUATION
begun_is : (n : ℕ) (ends : Bool) (bytes : List ℕ) (o : OpenBlock) → n ≡ o.stream → ends ≡ o.ends → bytes ≡ o.bytes → (more : List ℕ)
    → record { number = n; ends = ends; bytes = bytes ++ more } ≡ block_of_open (record o { bytes = o.bytes ++ more })
begun_is n ends bytes o is_n is_ends is_bytes more =
    ap (λ (m : ℕ). record { number = m; ends = ends; bytes = bytes ++ more }) is_n
    ∙ ap (λ (x : Bool). record { number = o.stream; ends = x; bytes = bytes ++ more }) is_ends
    ∙ ap (λ (xs : List ℕ). record { number = o.stream; ends = o.ends; bytes = xs ++ more }) is_bytes

pub continuation_same : (l : Link) (w : Wire) (f : FrameSeen) (end seen : ℕ) (k : Option Block) (open_ : Option OpenBlock) → (f.kind == continuation_type) ≡ true
    → IsBlock k open_ → link.is_misplaced k f ≡ false → w.table ≡ table_of l
    → SameAs end f open_ w (part_read l f end (block_with open_ f)) (continuation_reported w f seen k)
continuation_same l w f end seen None None is block placed table = absurd (cc)
continuation_same l w f end seen None (Some o) is block placed table = absurd block
continuation_same l w f end seen (Some k) None is block placed table = absurd block
continuation_same l w f end seen (Some k) (Some o) is block placed table =
    let e : f.kind ≡ continuation_type = eqb-true f.kind continuation_type is in
    let b : OpenBlock = record o { bytes = o.bytes ++ f.payload } in
    let made : block_with (Some o) f ≡ b = if_false (f.kind == headers_type) _ b (not_kind f.kind continuation_type headers_type false e refl) in
    let v : Wire = record w { block = None } in
    let S : OpenBlock → Block → Type 0
    = λ j i. SameAs end f (Some o) w (part_read l f end j) (if has_flag f.flags end_headers_flag then step.block_read v i seen else block_held v i) in
    subst (λ j. S j (record k { bytes = k.bytes ++ f.payload })) (sym made)
    (subst (λ i. S b i) (sym (begun_is k.number k.ends k.bytes o block.0 block.1 block.2 f.payload))
    (part_same l f end seen (Some o) w v b (part_of f continuation_type e refl refl refl refl) made refl
    (record { whole = refl; ready = refl; retiring = refl; limit = refl; initial = refl; window = refl; opened = refl }) refl table))
