-- What a session computes of a link, once one more frame was read.
use Rattle.std.proofs.Common.{◌≡◌, ◌∷◌, ◌++◌, ◌||◌, ◌&&◌, ◌==◌, ap, refl, ◌∙◌, Bool, true, false, List, [], Option, None, Some, ℕ, ◌+◌, if◌then◌else◌, append-nil, filter, flat_map, fold, length, map, sum_by, Ok}
use Rattle.std.specs.List.{list_any}
use Rattle.std.specs.Option.{option_map, option_map_or, option_or}
use Rattle.std.proofs.lemmas.Grind.{flat_map-append}
use Rattle.std.proofs.lemmas.List.Elements.{filter_map-append}
use Rattle.std.proofs.lemmas.List.Folds.{list_any-append}
use Rattle.std.proofs.lemmas.List.Sums.{fold-append, sum_by_push}
use Rattle.h2_frame.specs.Frames.{FrameSeen}
use Rattle.h2_frame.specs.Numbers.{goaway_type, headers_type}
use Rattle.h2_frame.specs.declared.payload.Setting.{Setting}
use Rattle.h2_hpack.specs.Blocks.{State, decoded, state_after, table_in}
use Rattle.h2_hpack.specs.Tables.{new_table}
use Rattle.link_actions.proofs.Lists.{find_last-append, last_is, or_none}
use Rattle.session_actions.specs.Links.{frames_read, frames_written, has_settings, is_retiring, is_settings, read_bytes, read_in, settings_of, written_in}
use Rattle.session_actions.specs.Reading.{block_after, block_with, blocks_from, is_data_on, is_last_of_block, is_of_block, is_setting, open_block, opened_streams, raise_by, raised, setting, used}
use Rattle.session_actions.specs.Words.{find_last, last_of}
use Rattle.session_actions.specs.Writing.{with_frame_read}
use Rattle.session_actions.specs.declared.link.Link.{Link}
use Rattle.session_actions.specs.declared.link.OpenBlock.{OpenBlock}
use Rattle.session_actions.specs.declared.link.ReadFrame.{ReadFrame}
use Rattle.session_actions.specs.declared.link.Traffic.TheVariants as traffic

-- the same of lists of frames
abbrev pub used_of : ℕ → List FrameSeen → ℕ
used_of stream fs = sum_by (λ f. if is_data_on stream f then length f.payload else 0) fs

abbrev pub opened_of : List FrameSeen → List ℕ
opened_of fs = map (λ f. f.stream) (filter (λ f. f.kind == headers_type) fs)

abbrev raised_of : ℕ → List ReadFrame → ℕ
raised_of stream rs = sum_by (λ r. raise_by stream r.frame) rs

abbrev pub block_step : Option OpenBlock → ReadFrame → Option OpenBlock
block_step open_ r = block_after open_ r.frame

pub reads_more : (l : Link) (r : ReadFrame) (frames : List FrameSeen) → frames_read (with_frame_read r frames l) ≡ frames_read l ++ r ∷ []
reads_more l r frames = filter_map-append read_in l.traffic (traffic.Read r ∷ [])

pub writes_same : (l : Link) (r : ReadFrame) (frames : List FrameSeen) → frames_written (with_frame_read r frames l) ≡ frames_written l
writes_same l r frames = filter_map-append written_in l.traffic (traffic.Read r ∷ []) ∙ append-nil (frames_written l)

pub used_same : (stream : ℕ) (l : Link) (r : ReadFrame) (frames : List FrameSeen) → used stream (with_frame_read r frames l) ≡ used stream l
used_same stream l r frames = ap (λ (fs : List FrameSeen). used_of stream fs) (writes_same l r frames)

pub opened_same : (l : Link) (r : ReadFrame) (frames : List FrameSeen) → opened_streams (with_frame_read r frames l) ≡ opened_streams l
opened_same l r frames = ap opened_of (writes_same l r frames)

pub bytes_more : (l : Link) (r : ReadFrame) (frames : List FrameSeen) → read_bytes (with_frame_read r frames l) ≡ r.end
bytes_more l r frames =
    ap (λ (rs : List ReadFrame). option_map_or (λ (x : ReadFrame). x.end) (last_of rs) 0) (reads_more l r frames)
    ∙ ap (λ (o : Option ReadFrame). option_map_or (λ (x : ReadFrame). x.end) o 0) (last_is (frames_read l) r)

any_read : (p : ReadFrame → Bool) (l : Link) (r : ReadFrame) (frames : List FrameSeen)
    → list_any p (frames_read (with_frame_read r frames l)) ≡ (list_any p (frames_read l) || p r)
any_read p l r frames =
    ap (list_any p) (reads_more l r frames) ∙ list_any-append p (frames_read l) (r ∷ [])
    ∙ ap (λ (b : Bool). list_any p (frames_read l) || b) (or_none (p r))

pub settings_more : (l : Link) (r : ReadFrame) (frames : List FrameSeen)
    → has_settings (with_frame_read r frames l) ≡ (has_settings l || is_settings r.frame)
settings_more l r frames = any_read (λ (x : ReadFrame). is_settings x.frame) l r frames

pub retiring_more : (l : Link) (r : ReadFrame) (frames : List FrameSeen)
    → is_retiring (with_frame_read r frames l) ≡ (is_retiring l || (r.frame.kind == goaway_type))
retiring_more l r frames = any_read (λ (x : ReadFrame). x.frame.kind == goaway_type) l r frames

-- the settings that were given, in turn
abbrev all_settings : List ReadFrame → List Setting
all_settings rs = flat_map (λ (x : ReadFrame). settings_of x.frame) rs

given_more : (rs : List ReadFrame) (r : ReadFrame) → all_settings (rs ++ r ∷ []) ≡ all_settings rs ++ settings_of r.frame
given_more rs r =
    flat_map-append (λ (x : ReadFrame). settings_of x.frame) rs (r ∷ [])
    ∙ ap (λ (ss : List Setting). all_settings rs ++ ss) (append-nil (settings_of r.frame))

value_or : (o p : Option Setting) → option_map (λ (x : Setting). x.value) (option_or o p)
    ≡ option_or (option_map (λ (x : Setting). x.value) o) (option_map (λ (x : Setting). x.value) p)
value_or None p = refl
value_or (Some x) p = refl

-- the value that a frame gives a setting
abbrev pub given : ℕ → List Setting → Option ℕ
given name ss = option_map (λ (x : Setting). x.value) (find_last (is_setting name) ss)

pub setting_more : (name : ℕ) (l : Link) (r : ReadFrame) (frames : List FrameSeen)
    → setting name (with_frame_read r frames l) ≡ option_or (given name (settings_of r.frame)) (setting name l)
setting_more name l r frames =
    ap (λ (rs : List ReadFrame). given name (all_settings rs)) (reads_more l r frames) ∙ ap (given name) (given_more (frames_read l) r)
    ∙ ap (option_map (λ (x : Setting). x.value)) (find_last-append (is_setting name) (all_settings (frames_read l)) (settings_of r.frame))
    ∙ value_or (find_last (is_setting name) (settings_of r.frame)) (find_last (is_setting name) (all_settings (frames_read l)))

pub raised_more : (stream : ℕ) (l : Link) (r : ReadFrame) (frames : List FrameSeen)
    → raised stream (with_frame_read r frames l) ≡ raised stream l + raise_by stream r.frame
raised_more stream l r frames =
    ap (λ (rs : List ReadFrame). raised_of stream rs) (reads_more l r frames) ∙ sum_by_push (λ (x : ReadFrame). raise_by stream x.frame) (frames_read l) r

pub block_more : (l : Link) (r : ReadFrame) (frames : List FrameSeen) → open_block (with_frame_read r frames l) ≡ block_after (open_block l) r.frame
block_more l r frames =
    ap (fold block_step None) (reads_more l r frames) ∙ fold-append block_step None (frames_read l) (r ∷ [])

-- the blocks that one more frame completes
abbrev pub completed : Option OpenBlock → FrameSeen → List (List ℕ)
completed open_ f = if is_of_block f && is_last_of_block f then (block_with open_ f).bytes ∷ [] else []

one_first : (b : Bool) (x : List ℕ) (rest more : List (List ℕ)) → (if b then x ∷ rest ++ more else rest ++ more) ≡ (if b then x ∷ rest else rest) ++ more
one_first true x rest more = refl
one_first false x rest more = refl

pub blocks_from_more : (open_ : Option OpenBlock) (rs : List ReadFrame) (r : ReadFrame)
    → blocks_from open_ (rs ++ r ∷ []) ≡ blocks_from open_ rs ++ completed (fold block_step open_ rs) r.frame
blocks_from_more open_ [] r = refl
blocks_from_more open_ (x ∷ rs) r =
    let next : Option OpenBlock = block_after open_ x.frame in
    ap (λ (bs : List (List ℕ)). if is_of_block x.frame && is_last_of_block x.frame then (block_with open_ x.frame).bytes ∷ bs else bs) (blocks_from_more next rs r)
    ∙ one_first (is_of_block x.frame && is_last_of_block x.frame) (block_with open_ x.frame).bytes (blocks_from next rs) (completed (fold block_step next rs) r.frame)

-- the decoder's table after blocks
state_of_more : (t : State) (xs ys : List (List ℕ)) → state_after t (xs ++ ys) ≡ state_after (state_after t xs) ys
state_of_more t [] ys = refl
state_of_more t (x ∷ xs) ys = state_of_more (table_in (decoded t x)) xs ys

abbrev pub table_of : Link → State
table_of l = state_after (Ok new_table) (blocks_from None (frames_read l))

pub table_more : (l : Link) (r : ReadFrame) (frames : List FrameSeen)
    → table_of (with_frame_read r frames l) ≡ state_after (table_of l) (completed (open_block l) r.frame)
table_more l r frames =
    ap (λ (rs : List ReadFrame). state_after (Ok new_table) (blocks_from None rs)) (reads_more l r frames)
    ∙ ap (state_after (Ok new_table)) (blocks_from_more None (frames_read l) r)
    ∙ state_of_more (Ok new_table) (blocks_from None (frames_read l)) (completed (open_block l) r.frame)
