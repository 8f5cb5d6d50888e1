-- What the next bytes of a link show is the same in both.
use Rattle.std.proofs.Common.{◌≡◌, ◌≤◌, ◌∷◌, ◌||◌, ◌&&◌, ◌==◌, not, ap, arith, refl, subst, sym, ◌∙◌, Bool, true, false, List, [], Option, None, Some, Ok, Err, Result, ℕ, ◌+◌, length, min, take}
use Rattle.std.specs.List.{list_any}
use Rattle.std.specs.Option.{option_or, unwrap_or}
use Rattle.std.proofs.lemmas.Bool.{eqb-true, or_right}
use Rattle.std.proofs.lemmas.List.{length-take-le}
use Rattle.h2_frame.specs.declared.payload.Setting.{Setting}
use Rattle.h2_frame.specs.Numbers.{goaway_type}
use Rattle.h2_frame.proofs.FrameLaws.{whole_is_frame}
use Rattle.h2_frame.specs.Frames.{FrameSeen, IsFrame, Spells, is_allowed}
use Rattle.h2_frame.specs.Numbers.{continuation_type, headers_type, push_promise_type}
use Rattle.h2_frame.specs.Readings.{Fault, Partial, Reading, Whole, reading_of}
use Rattle.h2_hpack.specs.Blocks.{state_after}
use Rattle.h2_link.specs.Received.{prefix_as}
use Rattle.h2_link.specs.LinkErrors as link
use Rattle.h2_link.specs.LinkErrors.{is_bad_setting, overflows_link, overflows_streams}
use Rattle.h2_link.specs.Queues.{sealed}
use Rattle.h2_link.specs.Steps.{applied, broke, continuation_reported, headers_reported, judged, outcome, plain_reported, read_after, reported}
use Rattle.h2_link.specs.Wire.{Block, Report, Wire}
use Rattle.link_actions.proofs.Blocks.{SameAs, continuation_same, headers_same}
use Rattle.link_actions.proofs.Receiving.{Received, not_kind, plain_received}
use Rattle.link_actions.proofs.History.{block_more, bytes_more, completed, given, opened_same, raised_more, retiring_more, setting_more, settings_more, table_more, table_of, used_same}
use Rattle.link_actions.proofs.Judged.{first_error, frames_are_judged, settings_same}
use Rattle.link_actions.proofs.Lists.{if_false, if_true, on_if}
use Rattle.link_actions.proofs.Settings.{given_first}
use Rattle.link_actions.specs.Laws.{IsSameRead, NewOnesAgree, ReadsAreSame}
use Rattle.link_actions.specs.Sees.{IsBlock, Sees, SeesRead, odds}
use Rattle.session_actions.specs.Links.{is_settings, read_bytes, settings_of}
use Rattle.session_actions.specs.Reading.{block_with, frame_read_by, is_of_block, next_read_by, open_block, part_read, plain_read, raise_by, raised, setting, used}
use Rattle.session_actions.specs.Writing.{owed_for, with_frame_read}
use Rattle.session_actions.specs.declared.link.Link.{Link}
use Rattle.session_actions.specs.declared.link.NextRead.{NextRead}
use Rattle.session_actions.specs.declared.link.OpenBlock.{OpenBlock}
use Rattle.session_actions.specs.declared.link.ReadFrame.{ReadFrame}
use Rattle.session_actions.specs.declared.seen.Seen.{Seen}
use Rattle.session_actions.specs.declared.link.NextRead.TheVariants as nextread

pub new_ones_agree : NewOnesAgree
new_ones_agree number sub s = record {
  whole = refl;
  read = refl;
  ready = refl;
  retiring = refl;
  limit = refl;
  initial = refl;
  window = refl;
  opened = refl;
  block = tt;
  table = refl;
}

-- no rule that is broken
pub record NoError (misplaced lifts wide : Bool) : Type 0 where
  pub placed : misplaced ≡ false
  pub fits : lifts ≡ false
  pub restricted : wide ≡ false

pub no_error : (early push bad misplaced unopened lifts wide : Bool) → first_error early push bad misplaced unopened lifts wide ≡ None → NoError misplaced lifts wide
no_error false false false false false false false e = record { placed = refl; fits = refl; restricted = refl }
no_error true push bad misplaced unopened lifts wide e = absurd (cc)
no_error false true bad misplaced unopened lifts wide e = absurd (cc)
no_error false false true misplaced unopened lifts wide e = absurd (cc)
no_error false false false true unopened lifts wide e = absurd (cc)
no_error false false false false true lifts wide e = absurd (cc)
no_error false false false false false true wide e = absurd (cc)
no_error false false false false false false true e = absurd (cc)

-- HEADERS stand in no block
misplaced_by : (a b : Bool) → a ≡ false → not (a && b) ≡ false → ⊥
misplaced_by false b e h = (cc)
misplaced_by true b e h = (cc)

out_of_block : (k : Option Block) (f : FrameSeen) → link.is_misplaced k f ≡ false → (f.kind == continuation_type) ≡ false → k ≡ None
out_of_block None f placed no_continuation = refl
out_of_block (Some b) f placed no_continuation = absurd (misplaced_by (f.kind == continuation_type) (f.stream == b.number) no_continuation placed)

pub applied_same : (l : Link) (w : Wire) (f : FrameSeen) (end seen : ℕ) → IsBlock w.block (open_block l) → w.table ≡ table_of l
    → NoError (link.is_misplaced w.block f) (overflows_link w.window f) (list_any (overflows_streams w.live) (settings_of f))
    → SameAs end f (open_block l) w (frame_read_by None l f end) (applied w f seen)
applied_same l w f end seen block table none =
    let o : Option OpenBlock = open_block l in
    let P : Result Report ℕ → Type 0 = λ r. SameAs end f o w (frame_read_by None l f end) r in
    on_if P (f.kind == headers_type) _ _
    (λ is.
    let of_b : is_of_block f ≡ true = ap (λ (b : Bool). b || (f.kind == continuation_type)) is in
    let S : NextRead → Type 0 = λ n. SameAs end f o w n (headers_reported w f seen) in
    let e : f.kind ≡ headers_type = eqb-true f.kind headers_type is in
    subst S (sym (if_true (is_of_block f) (part_read l f end (block_with o f)) (plain_read f end) of_b))
    (headers_same l w f end seen o is (out_of_block w.block f none.placed (not_kind f.kind headers_type continuation_type false e refl)) table))
    (λ no_headers.
    on_if P (f.kind == continuation_type) _ _
    (λ is.
    let of_b : is_of_block f ≡ true = ap (λ (b : Bool). (f.kind == headers_type) || b) is ∙ or_right (f.kind == headers_type) true refl in
    let S : NextRead → Type 0 = λ n. SameAs end f o w n (continuation_reported w f seen w.block) in
    subst S (sym (if_true (is_of_block f) (part_read l f end (block_with o f)) (plain_read f end) of_b))
    (continuation_same l w f end seen w.block o is block none.placed table))
    (λ no_continuation.
    let of_b : is_of_block f ≡ false = ap (λ (b : Bool). b || (f.kind == continuation_type)) no_headers ∙ no_continuation in
    let S : NextRead → Type 0 = λ n. SameAs end f o w n (Ok (plain_reported w f seen)) in
    subst S (sym (if_false (is_of_block f) (part_read l f end (block_with o f)) (plain_read f end) of_b))
    (refl, refl, plain_received w f o seen no_headers no_continuation block none.fits none.restricted)))

-- the effects of the frame before are complete, which leaves what was read
pub unsealed : (f : FrameSeen) (o : Option OpenBlock) (w x : Wire) → Received f o (record w { queue = sealed w.queue }) x → Received f o w x
unsealed f o w x h = record {
  whole = h.whole;
  ready = h.ready;
  retiring = h.retiring;
  limit = h.limit;
  initial = h.initial;
  window = h.window;
  opened = h.opened;
  block = h.block;
  table = h.table;
}

same_unsealed : (end : ℕ) (f : FrameSeen) (o : Option OpenBlock) (w : Wire) (n : NextRead) (r : Result Report ℕ)
    → SameAs end f o (record w { queue = sealed w.queue }) n r → SameAs end f o w n r
same_unsealed end f o w (nextread.Broken code) (Err e) same = same
same_unsealed end f o w (nextread.Frame r) (Ok t) same = (same.0, same.1, unsealed f o w t.wire same.2)
same_unsealed end f o w nextread.Nothing r same = absurd same
same_unsealed end f o w (nextread.Broken code) (Ok t) same = absurd same
same_unsealed end f o w (nextread.Frame r) (Err e) same = absurd same

-- how many bytes a frame takes
spelled : (xs : List ℕ) (f : FrameSeen) → Spells xs f → length xs ≡ 9 + length f.payload
spelled (a ∷ b ∷ c ∷ kind ∷ flags ∷ p ∷ q ∷ r ∷ s ∷ payload) f said =
    let same : length payload ≡ length f.payload = ap (λ (g : FrameSeen). length g.payload) (sym said.1) in omega (arith, same)
spelled [] f said = absurd said
spelled (a ∷ []) f said = absurd said
spelled (a ∷ b ∷ []) f said = absurd said
spelled (a ∷ b ∷ c ∷ []) f said = absurd said
spelled (a ∷ b ∷ c ∷ kind ∷ []) f said = absurd said
spelled (a ∷ b ∷ c ∷ kind ∷ flags ∷ []) f said = absurd said
spelled (a ∷ b ∷ c ∷ kind ∷ flags ∷ p ∷ []) f said = absurd said
spelled (a ∷ b ∷ c ∷ kind ∷ flags ∷ p ∷ q ∷ []) f said = absurd said
spelled (a ∷ b ∷ c ∷ kind ∷ flags ∷ p ∷ q ∷ r ∷ []) f said = absurd said

size_of : (bytes : List ℕ) (f : FrameSeen) (len : ℕ) → len ≤ length bytes → Spells (take len bytes) f → len ≡ 9 + length f.payload
size_of bytes f len within said = sym (length-take-le len bytes within) ∙ spelled (take len bytes) f said

-- with one more frame, a link is what the session has read
counted : (m n r : ℕ) → r ≡ min m 18446744073709551615 → min (r + n) 18446744073709551615 ≡ min (m + n) 18446744073709551615
counted m n r e = omega (arith, e)

pub after_frame : (l : Link) (w v : Wire) (r : ReadFrame) (frames : List FrameSeen) → SeesRead l w → Received r.frame (open_block l) w v
    → r.end ≡ read_bytes l + (9 + length r.frame.payload)
    → SeesRead (with_frame_read r frames l) (record v { read = read_after w.read (9 + length r.frame.payload) })
after_frame l w v r frames sees handled end =
    let m : Link = with_frame_read r frames l in
    let f : FrameSeen = r.frame in
    let raise : v.window ≡ w.window + raise_by 0 f = handled.window in
    let was : w.window + used 0 l ≡ 65535 + raised 0 l = sees.window in
    let sent : used 0 m ≡ used 0 l = used_same 0 l r frames in
    let more : raised 0 m ≡ raised 0 l + raise_by 0 f = raised_more 0 l r frames in
    let B : Option OpenBlock → Type 0 = λ o. IsBlock v.block o in
    record {
      whole = handled.whole ∙ sees.whole;
      read = counted (read_bytes l) (9 + length f.payload) w.read sees.read ∙ ap (λ (n : ℕ). min n 18446744073709551615) (sym end ∙ sym (bytes_more l r frames));
      ready = handled.ready ∙ ap (λ (b : Bool). b || is_settings f) sees.ready ∙ sym (settings_more l r frames);
      retiring = handled.retiring ∙ ap (λ (b : Bool). b || (f.kind == goaway_type)) sees.retiring ∙ sym (retiring_more l r frames);
      limit = handled.limit ∙ ap (λ (o : Option ℕ). option_or (given 3 (settings_of f)) o) sees.limit ∙ sym (setting_more 3 l r frames);
      initial = handled.initial ∙ ap (λ (n : ℕ). unwrap_or (given 4 (settings_of f)) n) sees.initial
          ∙ given_first (given 4 (settings_of f)) (setting 4 l) 65535 ∙ ap (λ (o : Option ℕ). unwrap_or o 65535) (sym (setting_more 4 l r frames));
      window = omega (arith, raise, was, sent, more);
      opened = opened_same l r frames ∙ sees.opened ∙ ap odds (sym handled.opened);
      block = subst B (sym (block_more l r frames)) handled.block;
      table = handled.table ∙ ap (λ t. state_after t (completed (open_block l) f)) sees.table ∙ sym (table_more l r frames);
    }

-- a frame that was read, or broke the link
read_as : (l : Link) (s : Seen) (w : Wire) (f : FrameSeen) (len : ℕ) (n : NextRead) (r : Result Report ℕ) → SeesRead l w → len ≡ 9 + length f.payload
    → SameAs (read_bytes l + len) f (open_block l) w n r
    → IsSameRead l s w n (Some (len, outcome w (read_after w.read (9 + length f.payload)) r))
read_as l s w f len (nextread.Broken code) (Err e) sees size same = ap (broke w) (sym same)
read_as l s w f len (nextread.Frame r) (Ok t) sees size same =
    let H : FrameSeen → Type 0 = λ g. Received g (open_block l) w t.wire in
    let F : FrameSeen → Type 0 = λ g. SeesRead (with_frame_read r (owed_for r.frame l s) l) (record t.wire { read = read_after w.read (9 + length g.payload) }) in
    let end : r.end ≡ read_bytes l + (9 + length r.frame.payload)
    = same.1 ∙ ap (λ (n : ℕ). read_bytes l + n) (size ∙ ap (λ (g : FrameSeen). 9 + length g.payload) (sym same.0)) in
    (same.1, subst F same.0 (after_frame l w t.wire r (owed_for r.frame l s) sees (subst H (sym same.0) same.2) end))
read_as l s w f len nextread.Nothing r sees size same = absurd same
read_as l s w f len (nextread.Broken code) (Ok t) sees size same = absurd same
read_as l s w f len (nextread.Frame r) (Err e) sees size same = absurd same

by_error : (l : Link) (s : Seen) (w : Wire) (f : FrameSeen) (len : ℕ) (o : Option ℕ) → Sees l s w → len ≡ 9 + length f.payload → is_allowed f ≡ true
    → link.link_error w f ≡ o → IsSameRead l s w (frame_read_by o l f (read_bytes l + len)) (Some (len, judged w f o))
by_error l s w f len (Some code) sees size allowed e = refl
by_error l s w f len None sees size allowed e =
    let none : NoError (link.is_misplaced w.block f) (overflows_link w.window f) (list_any (overflows_streams w.live) (link.settings_of f))
    = no_error (not w.ready && not (link.is_preface f)) (f.kind == push_promise_type) (list_any is_bad_setting (link.settings_of f)) (link.is_misplaced w.block f)
    (link.is_unopened w.opened f) (overflows_link w.window f) (list_any (overflows_streams w.live) (link.settings_of f)) e in
    let v : Wire = record w { queue = sealed w.queue } in
    let N : List Setting → Type 0 = λ ss. NoError (link.is_misplaced w.block f) (overflows_link w.window f) (list_any (overflows_streams w.live) ss) in
    read_as l s w f len (frame_read_by None l f (read_bytes l + len)) (applied v f (read_after w.read (9 + length f.payload))) sees.reads size
    (same_unsealed (read_bytes l + len) f (open_block l) w (frame_read_by None l f (read_bytes l + len)) (applied v f (read_after w.read (9 + length f.payload)))
    (applied_same l v f (read_bytes l + len) (read_after w.read (9 + length f.payload)) sees.reads.block sees.reads.table (subst N (sym (settings_same f allowed)) none)))

by_reading : (l : Link) (s : Seen) (w : Wire) (bytes : List ℕ) (x : Reading) → Sees l s w → reading_of bytes ≡ x
    → IsSameRead l s w (next_read_by x l s) (prefix_as w bytes x)
by_reading l s w bytes Partial sees e = tt
by_reading l s w bytes (Fault code) sees e = refl
by_reading l s w bytes (Whole f len) sees e =
    let whole : (len ≤ length bytes) × IsFrame (take len bytes) f = whole_is_frame bytes f len e in
    let allowed : is_allowed f ≡ true = whole.1.allowed in
    let size : len ≡ 9 + length f.payload = size_of bytes f len whole.0 whole.1.spells in
    let J : Option ℕ → Type 0 = λ o. IsSameRead l s w (frame_read_by o l f (read_bytes l + len)) (Some (len, reported w f)) in
    subst J (sym (frames_are_judged l s w f sees allowed)) (by_error l s w f len (link.link_error w f) sees size allowed refl)

pub reads_are_same : ReadsAreSame
reads_are_same l s w bytes sees e =
    let R : List ℕ → Type 0 = λ xs. IsSameRead l s w (next_read_by (reading_of xs) l s) (prefix_as w bytes (reading_of bytes)) in
    subst R (sym e) (by_reading l s w bytes (reading_of bytes) sees refl)
