-- A frame of no attempt's stream, and no GOAWAY: what is reported, and the readers.
use Rattle.std.proofs.Common.{◌≡◌, ◌∷◌, ◌++◌, ◌&&◌, ◌==◌, not, ap, arith, refl, subst, sym, ◌∙◌, Bool, true, false, List, [], Option, None, Some, Result, Ok, Err, ℕ, ◌+◌, if◌then◌else◌, length}
use Rattle.std.specs.List.{list_any}
use Rattle.std.specs.Prelude.{IfOk}
use Rattle.std.proofs.lemmas.Bool.{eqb-true}
use Rattle.std.proofs.lemmas.Bool.Decides.{nat_tests}
use Rattle.attempt_ledger.specs.declared.news.News.{News}
use Rattle.attempt_ledger.specs.declared.news.News.TheVariants as news
use Rattle.grpc_base.specs.declared.fields.Field.{Field}
use Rattle.grpc_link.specs.Links.{reader_in, reported_all}
use Rattle.grpc_link.specs.Links.{Report as Reported}
use Rattle.grpc_link.specs.declared.readers.TagReader.{TagReader}
use Rattle.h2_frame.specs.Frames.{FrameSeen, has_flag}
use Rattle.h2_frame.specs.Numbers.{ack_flag, continuation_type, data_type, end_headers_flag, goaway_type, headers_type, ping_type, rst_stream_type, settings_type, window_update_type}
use Rattle.h2_frame.specs.Payloads.{increment, last_stream, reset_code}
use Rattle.h2_hpack.specs.Blocks as hpack
use Rattle.h2_hpack.specs.Blocks.{decoded, fields_in, table_in}
use Rattle.h2_hpack.specs.declared.fault.HpackFault.{HpackFault}
use Rattle.h2_link.specs.Feeds.{Line}
use Rattle.h2_link.specs.LinkErrors as link
use Rattle.h2_link.specs.LinkErrors.{is_long}
use Rattle.h2_link.specs.Queues.{sealed}
use Rattle.h2_link.specs.Steps.{applied, block_held, block_read, continuation_reported, data_reported, found_from, goaway_reported, headers_reported, is_numbered, judged, list_read, listed, opened_by, outcome, ping_reported, plain_reported, read_after, reset_reported, settings_reported, reported, update_reported, window_reported}
use Rattle.h2_link.specs.Wire.{Block, Report, Wire}
use Rattle.h2_link.specs.declared.live.LiveStream.{LiveStream}
use Rattle.h2_link.specs.declared.news.LinkNews.{LinkNews}
use Rattle.h2_link.specs.declared.news.LinkNews.TheVariants as report
use Rattle.link_actions.proofs.Receiving.{not_kind, of_settings}
use Rattle.link_actions.proofs.Lists.{if_false, on_if}
use Rattle.link_actions.proofs.Quiet.{none_found}
use Rattle.link_actions.proofs.Without.{place_is}
use Rattle.link_actions.specs.Laws.{IsApart}
use Rattle.link_actions.proofs.ResponseActions.Frames.{start}
use Rattle.link_actions.proofs.ResponseActions.Kept.{IsThere, moved, never_there, other_reader}
use Rattle.link_actions.specs.ResponseActions.Laws.{QuietIsReported, frame_reported}
use Rattle.link_actions.specs.ResponseActions.Readers.{SeesReaders}
use Rattle.session_actions.specs.Links.{has_settings, is_settings}
use Rattle.session_actions.specs.Words.{numbered}
use Rattle.session_actions.specs.Writing.{frame_read_on}
use Rattle.session_actions.specs.declared.attempt.Attempt.{Attempt}
use Rattle.session_actions.specs.declared.link.Link.{Link}
use Rattle.session_actions.specs.declared.seen.Seen.{Seen}
use Rattle.link_actions.proofs.StreamActions.QuietStreams.{quiet_frames_keep_streams}
use Rattle.link_actions.proofs.StreamActions.StreamGoes.{Stands, fair_rules, stands}
use Rattle.link_actions.proofs.StreamActions.StreamRead.{read_is}
use Rattle.link_actions.specs.StreamActions.Laws.{IsOn, read_link}
use Rattle.link_actions.specs.StreamActions.Sees.{SeesStreams}

-- that the first SETTINGS came
abbrev ready_list : Bool → Bool → List LinkNews
ready_list settings ready = if settings && not ready then report.Ready ∷ [] else []

abbrev Says : FrameSeen → Wire → Result Report ℕ → Type 0
Says f w r = IfOk r (λ t. t.news ≡ ready_list (is_settings f) w.ready)

silent : (f : FrameSeen) (w : Wire) → is_settings f ≡ false → [] ≡ ready_list (is_settings f) w.ready
silent f w e = (let none : List LinkNews = [] in sym (if_false (is_settings f && not w.ready) (report.Ready ∷ []) none (ap (λ (b : Bool). b && not w.ready) e)))

no_settings_of : (f : FrameSeen) (n : ℕ) → (f.kind == n) ≡ true → (n == settings_type) ≡ false → is_settings f ≡ false
no_settings_of f n is apart = of_settings f.kind f.flags (not_kind f.kind n settings_type false (eqb-true f.kind n is) apart)

-- header blocks
list_says : (f : FrameSeen) (w v : Wire) (block : Block) (seen : ℕ) (table : hpack.State) (r : Result (List Field) HpackFault) → is_settings f ≡ false
    → found_from (is_numbered block.number) 0 v.live ≡ None → Says f w (list_read v block seen table r)
list_says f w v block seen table (Err e) none found = tt
list_says f w v block seen table (Ok fields) none found =
    on_if (Says f w) (is_long block.bytes) (Err _) (Ok (listed (record v { table = table }) fields block.ends seen (found_from (is_numbered block.number) 0 v.live))) (λ e. tt)
    (λ e.
    subst (λ (o : Option (ℕ × LiveStream)). (listed (record v { table = table }) fields block.ends seen o).news ≡ ready_list (is_settings f) w.ready) (sym found) (silent f w none))

part_says : (f : FrameSeen) (w v : Wire) (block : Block) (seen : ℕ) → is_settings f ≡ false → found_from (is_numbered block.number) 0 v.live ≡ None
    → Says f w (if has_flag f.flags end_headers_flag then block_read v block seen else block_held v block)
part_says f w v block seen none found =
    on_if (Says f w) (has_flag f.flags end_headers_flag) (block_read v block seen) (block_held v block)
    (λ e. list_says f w v block seen (table_in (decoded v.table block.bytes)) (fields_in (decoded v.table block.bytes)) none found)
    (λ e. on_if (Says f w) (is_long block.bytes) (Err _) (Ok (record { wire = record v { block = Some block }; news = [] })) (λ h. tt) (λ h. silent f w none))

placed_if : (a b : Bool) → a ≡ true → not (a && b) ≡ false → b ≡ true
placed_if true true e h = refl
placed_if true false e h = absurd (cc)
placed_if false b e h = absurd (cc)

continuation_says : (f : FrameSeen) (w : Wire) (seen : ℕ) (o : Option Block) → (f.kind == continuation_type) ≡ true → link.is_misplaced o f ≡ false
    → found_from (is_numbered f.stream) 0 w.live ≡ None → Says f w (continuation_reported w f seen o)
continuation_says f w seen None is placed found = silent f w (no_settings_of f continuation_type is refl)
continuation_says f w seen (Some b) is placed found =
    let same : f.stream ≡ b.number = eqb-true f.stream b.number (placed_if (f.kind == continuation_type) (f.stream == b.number) is placed) in
    part_says f w (record w { block = None }) (record b { bytes = b.bytes ++ f.payload }) seen (no_settings_of f continuation_type is refl)
    (ap (λ (n : ℕ). found_from (is_numbered n) 0 w.live) (sym same) ∙ found)

-- the other frames
settings_by : (f : FrameSeen) (w : Wire) (k ack ready : Bool) (t : Report) (v : Wire) → k ≡ true → t ≡ (if ack then record { wire = w; news = [] } else record { wire = v; news = if ready then [] else report.Ready ∷ [] })
    → t.news ≡ ready_list (k && not ack) ready
settings_by f w true true true t v e is = ap (λ (x : Report). x.news) is
settings_by f w true true false t v e is = ap (λ (x : Report). x.news) is
settings_by f w true false true t v e is = ap (λ (x : Report). x.news) is
settings_by f w true false false t v e is = ap (λ (x : Report). x.news) is
settings_by f w false ack ready t v e is = absurd (let no : ⊥ = (cc) in no)

plain_says : (f : FrameSeen) (w : Wire) (seen : ℕ) → (f.kind == goaway_type) ≡ false → found_from (is_numbered f.stream) 0 w.live ≡ None
    → (plain_reported w f seen).news ≡ ready_list (is_settings f) w.ready
plain_says f w seen no_goaway found =
    let at : Option (ℕ × LiveStream) = found_from (is_numbered f.stream) 0 w.live in
    let P : Report → Type 0 = λ t. t.news ≡ ready_list (is_settings f) w.ready in
    on_if P (f.kind == data_type) (data_reported w f seen at) _
    (λ e. subst (λ (o : Option (ℕ × LiveStream)). P (data_reported w f seen o)) (sym found) (silent f w (no_settings_of f data_type e refl)))
    (λ no_data.
    on_if P (f.kind == rst_stream_type) (reset_reported w (reset_code f.payload) seen at) _
    (λ e. subst (λ (o : Option (ℕ × LiveStream)). P (reset_reported w (reset_code f.payload) seen o)) (sym found) (silent f w (no_settings_of f rst_stream_type e refl)))
    (λ no_reset.
    on_if P (f.kind == settings_type) (settings_reported w f) _ (λ e. settings_by f w (f.kind == settings_type) (has_flag f.flags ack_flag) w.ready (settings_reported w f) _ e refl)
    (λ no_set.
    on_if P (f.kind == ping_type) (ping_reported w f) _
    (λ e. on_if P (has_flag f.flags ack_flag) (record { wire = w; news = [] }) _ (λ h. silent f w (of_settings f.kind f.flags no_set)) (λ h. silent f w (of_settings f.kind f.flags no_set)))
    (λ no_ping.
    on_if P (f.kind == goaway_type) (goaway_reported w (last_stream f.payload) seen) _ (λ e. absurd (let no : true ≡ false = sym e ∙ no_goaway in let never : ⊥ = (cc) in never))
    (λ none_.
    on_if P (f.kind == window_update_type) (update_reported w f seen) (record { wire = w; news = [] })
    (λ e. on_if P (f.stream == 0) _ (window_reported w (increment f.payload) seen at) (λ h. silent f w (of_settings f.kind f.flags no_set))
    (λ h. subst (λ (o : Option (ℕ × LiveStream)). P (window_reported w (increment f.payload) seen o)) (sym found) (silent f w (of_settings f.kind f.flags no_set))))
    (λ no_update. silent f w (of_settings f.kind f.flags no_set)))))))

applied_says : (f : FrameSeen) (w : Wire) (seen : ℕ) → (f.kind == goaway_type) ≡ false → list_any (λ (x : LiveStream). x.number == f.stream) w.live ≡ false
    → link.is_misplaced w.block f ≡ false → Says f w (applied w f seen)
applied_says f w seen no_goaway apart placed =
    let found : found_from (is_numbered f.stream) 0 w.live ≡ None = none_found f.stream 0 w.live apart in
    on_if (Says f w) (f.kind == headers_type) (headers_reported w f seen) _ (λ e. part_says f w w (opened_by f) seen (no_settings_of f headers_type e refl) found)
    (λ no_headers.
    on_if (Says f w) (f.kind == continuation_type) (continuation_reported w f seen w.block) (Ok (plain_reported w f seen))
    (λ e. continuation_says f w seen w.block e placed found) (λ no_continuation. plain_says f w seen no_goaway found))

-- a frame that does not break the link
outcome_says : (f : FrameSeen) (w : Wire) (seen : ℕ) (r : Result Report ℕ) → (outcome w seen r).wire.broken ≡ None → Says f w r → (outcome w seen r).news ≡ ready_list (is_settings f) w.ready
outcome_says f w seen (Ok t) whole says = says
outcome_says f w seen (Err number) whole says = absurd (let no : Some number ≡ None = whole in let never : ⊥ = (cc) in never)

quiet_list : (w : Wire) (f : FrameSeen) → link.link_error w f ≡ None → link.is_misplaced w.block f ≡ false → IsApart f w → (reported w f).wire.broken ≡ None
    → (reported w f).news ≡ ready_list (is_settings f) w.ready
quiet_list w f fair placed apart whole =
    let seen : ℕ = read_after w.read (9 + length f.payload) in
    let v : Wire = record w { queue = sealed w.queue } in
    let same : reported w f ≡ outcome w seen (applied v f seen) = ap (judged w f) fair in
    ap (λ (t : Report). t.news) same ∙ outcome_says f w seen (applied v f seen) (sym (ap (λ (t : Report). t.wire.broken) same) ∙ whole) (applied_says f v seen apart.0 apart.1 placed)

-- and the readers
abbrev ready_news : Bool → Bool → List News
ready_news settings ready = if settings && not ready then news.Ready ∷ [] else []

record IsPassed (v : Wire) (readers : List TagReader) (t : Reported) (ns : List News) : Type 0 where
  news_are : t.news ≡ ns
  wire : t.link.link.wire ≡ v
  same : t.link.readers ≡ readers

passed_by : (v : Wire) (readers : List TagReader) (settings ready : Bool) → IsPassed v readers (reported_all (start v readers) (ready_list settings ready)) (ready_news settings ready)
passed_by v readers true true = record { news_are = refl; wire = refl; same = refl }
passed_by v readers true false = record { news_are = refl; wire = refl; same = refl }
passed_by v readers false ready = record { news_are = refl; wire = refl; same = refl }

turned : (k t : ℕ) → (k == t) ≡ false → (t == k) ≡ false
turned k t e = grind (arith, nat_tests, e)

apart_of : (l : Link) (s : Seen) (w : Wire) (g : ℕ → Line) (f : FrameSeen) (k j : ℕ) (b : Attempt) → SeesStreams l s w g → list_any (λ (x : LiveStream). x.number == f.stream) w.live ≡ false
    → IsThere l s k b → b.row.stream ≡ Some j → (f.stream == j) ≡ false
apart_of l s w g f k j b is none there stream =
    let place : b.place ≡ k = place_is k s.attempts b is.sees.places there.there in
    let on : IsOn l s j b = record { there = ap (numbered s.attempts) place ∙ there.there; out = there.out; stream = stream } in
    let st : Stands l s w j b = stands l s w g j b is on in
    let off : (st.stream.number == f.stream) ≡ false = never_there (λ (x : LiveStream). x.number == f.stream) st.index w.live st.stream none st.there in
    turned j f.stream (ap (λ (n : ℕ). n == f.stream) (sym st.number) ∙ off)

pub quiet_is_reported : QuietIsReported
quiet_is_reported l s w g readers r is reads comes apart =
    let f : FrameSeen = r.frame in
    let m : Link = read_link r l s in
    let u : Seen = frame_read_on r s l in
    let whole : (reported w f).wire.broken ≡ None = (quiet_frames_keep_streams l s w g r is comes apart).sees.sees.reads.whole in
    let list : (reported w f).news ≡ ready_list (is_settings f) w.ready = quiet_list w f comes.fair (fair_rules w f comes.fair).placed apart whole in
    let ready : w.ready ≡ has_settings l = is.sees.sees.reads.ready in
    let v : Wire = (reported w f).wire in
    let passed : IsPassed v readers (frame_reported w readers f) (ready_news (is_settings f) (has_settings l))
    = subst (λ (b : Bool). IsPassed v readers (frame_reported w readers f) (ready_news (is_settings f) b)) ready
    (subst (λ (ns : List LinkNews). IsPassed v readers (reported_all (start v readers) ns) (ready_news (is_settings f) w.ready)) (sym list) (passed_by v readers (is_settings f) w.ready)) in
    let sees : SeesReaders m u readers = record {
      each = λ k. moved l m s u k (reader_in k readers) (reader_in k readers) refl refl (λ b y there i. other_reader l s w g r k b y is apart.0 there (λ j stream. apart_of l s w g f k j b is apart.1 there stream) i) (reads.each k);
      distinct = reads.distinct;
    } in
    record {
      news = passed.news_are;
      wire = passed.wire;
      same = passed.same;
      sees = subst (λ (z : Seen). SeesReaders m z readers) (sym (read_is l s r is.sees.at)) sees;
    }
