-- DATA of an attempt's stream.
use Rattle.std.proofs.Common.{◌≡◌, ◌∷◌, ◌++◌, ◌||◌, ◌&&◌, ◌==◌, not, ap, arith, refl, subst, sym, ◌∙◌, Bool, true, false, List, [], Option, None, Some, Ok, ℕ, ◌+◌, append-nil, filter_map, if◌then◌else◌, is_none, is_some, length, map, slice_set}
use Rattle.std.specs.List.{list_any, remove}
use Rattle.std.proofs.lemmas.Bool.{eqb-true}
use Rattle.std.proofs.lemmas.Bool.Decides.{nat_tests}
use Rattle.grpc_base.specs.ErrorCodes.{protocol_error}
use Rattle.grpc_frame.specs.Messages.{Messages, messages_of}
use Rattle.grpc_frame.specs.declared.next.MessageFault.{MessageFault}
use Rattle.grpc_frame.specs.declared.next.MessageFault.TheVariants as flaw
use Rattle.h2_frame.specs.Frames.{FrameSeen, has_flag}
use Rattle.h2_frame.specs.Numbers.{ack_flag, continuation_type, data_type, end_stream_flag, goaway_type, headers_type, ping_type, settings_type, window_update_type}
use Rattle.h2_frame.specs.Payloads.{content_of, ping_word}
use Rattle.h2_frame.specs.Sent.{ping_ack, settings_ack, window_update_frame}
use Rattle.h2_link.specs.Drains.{AFrame, outgoing}
use Rattle.h2_link.specs.Feeds.{Line}
use Rattle.h2_link.specs.LinkErrors as link
use Rattle.h2_link.specs.Queues.{Queue, queued, sealed}
use Rattle.h2_link.specs.Steps.{applied, continuation_reported, data_effect, data_reported, found_from, headers_reported, is_numbered, judged, link_updated, live_after, outcome, plain_reported, queue_after, read_after, reset_after, reset_owed, stream_updated, reported}
use Rattle.h2_link.specs.Wire.{Report, Wire}
use Rattle.h2_link.specs.declared.control.Control.{Control}
use Rattle.h2_link.specs.declared.control.Control.TheVariants as control
use Rattle.h2_link.specs.declared.live.LiveStream.{LiveStream}
use Rattle.link_actions.proofs.StreamActions.Found.{set_itself}
use Rattle.link_actions.proofs.StreamActions.Going.{going}
use Rattle.link_actions.proofs.Receiving.{block_kept, received_quiet, not_kind, of_settings, quiet_kind}
use Rattle.link_actions.proofs.Lists.{if_false, if_true, on_if}
use Rattle.link_actions.proofs.QuietKept.{joined, owed_read}
use Rattle.link_actions.proofs.StreamActions.Responses.{response_own}
use Rattle.link_actions.proofs.StreamActions.StreamEnds.{ends_follow}
use Rattle.link_actions.proofs.StreamActions.StreamGoes.{Stands, fair_opened, read_but, read_on, stands}
use Rattle.link_actions.proofs.StreamActions.StreamRead.{live_read, read_is, read_keeps}
use Rattle.link_actions.proofs.StreamActions.Unreceived.{no_list}
use Rattle.link_actions.specs.StreamActions.Laws.{Comes, DataIsRead, Ends, Follows, IsOn, closed_code, data_then, read_link}
use Rattle.link_actions.specs.Sees.{IsBlock, SeesLink, by_stream, named_in}
use Rattle.link_actions.specs.StreamActions.Sees.{SeesBut, SeesStreams, response_of}
use Rattle.session_actions.specs.Links.{has_written_end, is_settings, settings_of}
use Rattle.session_actions.specs.Reading.{is_of_block, is_setting, open_block, outstanding_on}
use Rattle.session_actions.specs.Responses.{ended, limit_of_attempt, response_in, with_data, with_fault, with_messages, with_stream_frame}
use Rattle.session_actions.specs.Writing.{frame_read, frame_read_on, is_going_on, owed_for, streaming_on, updates_for}
use Rattle.session_actions.specs.declared.attempt.Attempt.{Attempt}
use Rattle.session_actions.specs.declared.link.Block.{Block as Whole}
use Rattle.session_actions.specs.declared.link.Link.{Link}
use Rattle.session_actions.specs.declared.link.OpenBlock.{OpenBlock}
use Rattle.session_actions.specs.declared.link.ReadFrame.{ReadFrame}
use Rattle.session_actions.specs.declared.response.Response.{Response}
use Rattle.session_actions.specs.declared.seen.Seen.{Seen}

-- what it makes owed: leave to send as much again, on the link and on the stream
abbrev stream_queue : Queue → Control → Control → Bool → Bool → Bool → Queue
stream_queue q c d e h z = if e || not h || z then (if z then q else queued q c) else queued (if z then q else queued q c) d

abbrev updates : Control → Control → Bool → Bool → Bool → List Control
updates c d e h z = if z then [] else c ∷ (if e || not h then [] else d ∷ [])

update_items : (q : Queue) (c d : Control) (e h z : Bool) → (stream_queue q c d e h z).items ≡ q.items ++ updates c d e h z
update_items q c d true true true = sym (append-nil q.items)
update_items q c d true false true = sym (append-nil q.items)
update_items q c d false true true = sym (append-nil q.items)
update_items q c d false false true = sym (append-nil q.items)
update_items q c d true true false = refl
update_items q c d true false false = refl
update_items q c d false false false = refl
update_items q c d false true false = joined q.items (c ∷ []) (d ∷ [])

update_fresh : (q : Queue) (c d : Control) (e h z : Bool) → q.fresh ≡ 0 → (stream_queue q c d e h z).fresh ≡ 0
update_fresh q c d true true true none = none
update_fresh q c d true false true none = none
update_fresh q c d false true true none = none
update_fresh q c d false false true none = none
update_fresh q c d true true false none = refl
update_fresh q c d true false false none = refl
update_fresh q c d false false false none = refl
update_fresh q c d false true false none = refl

none_named : (n by : ℕ) (e h z : Bool) → filter_map named_in (updates (control.LinkUpdate by) (control.StreamUpdate n by) e h z) ≡ []
none_named n by e h true = refl
none_named n by true true false = refl
none_named n by true false false = refl
none_named n by false false false = refl
none_named n by false true false = refl

same_updates : (n by : ℕ) (e h z : Bool) → map outgoing (updates (control.LinkUpdate by) (control.StreamUpdate n by) e h z)
    ≡ map (λ f. AFrame f) (if z then [] else window_update_frame 0 by ∷ (if h && not e then window_update_frame n by ∷ [] else []))
same_updates n by e h true = refl
same_updates n by true true false = refl
same_updates n by true false false = refl
same_updates n by false false false = refl
same_updates n by false true false = refl

owed_data : (f : FrameSeen) (l : Link) (s : Seen) → f.kind ≡ data_type → owed_for f l s ≡ updates_for f l s
owed_data f l s e =
    if_false (is_settings f) (settings_ack ∷ []) _ (of_settings f.kind f.flags (not_kind f.kind data_type settings_type false e refl))
    ∙ if_false ((f.kind == ping_type) && not (has_flag f.flags ack_flag)) (ping_ack (ping_word f.payload) ∷ []) _
    (ap (λ (b : Bool). b && not (has_flag f.flags ack_flag)) (not_kind f.kind data_type ping_type false e refl))
    ∙ if_true (f.kind == data_type) (updates_for f l s) [] (not_kind f.kind data_type data_type true e refl)

data_owed : (l : Link) (s : Seen) (w : Wire) (g : ℕ → Line) (r : ReadFrame) (a : Attempt) → SeesStreams l s w g → (st : Stands l s w r.frame.stream a) → r.frame.kind ≡ data_type
    → map outgoing (updates (control.LinkUpdate (length r.frame.payload)) (control.StreamUpdate st.stream.number (length r.frame.payload)) (has_flag r.frame.flags end_stream_flag) st.stream.head (length r.frame.payload == 0))
    ≡ map (λ f. AFrame f) (owed_for r.frame l s)
data_owed l s w g r a is st kind =
    let f : FrameSeen = r.frame in
    let by : ℕ = length f.payload in
    let z : Bool = by == 0 in
    let e : Bool = has_flag f.flags end_stream_flag in
    let h : list_any (is_going_on f.stream s) (outstanding_on l s) ≡ st.stream.head = going l s w g f.stream st.index st.stream is st.there st.number in
    same_updates st.stream.number by e st.stream.head z
    ∙ ap (λ (n : ℕ). map (λ k. AFrame k) (if z then [] else window_update_frame 0 by ∷ (if st.stream.head && not e then window_update_frame n by ∷ [] else []))) st.number
    ∙ ap (λ (b : Bool). map (λ k. AFrame k) (if z then [] else window_update_frame 0 by ∷ (if b && not e then window_update_frame f.stream by ∷ [] else []))) (sym h)
    ∙ ap (map (λ k. AFrame k)) (sym (owed_data f l s kind))

-- what the link reports
data_is_reported : (w : Wire) (f : FrameSeen) (i : ℕ) (y : LiveStream) → link.link_error w f ≡ None → f.kind ≡ data_type → found_from (is_numbered f.stream) 0 w.live ≡ Some (i, y)
    → reported w f ≡ outcome w (read_after w.read (9 + length f.payload)) (Ok (data_reported (record w { queue = sealed w.queue }) f (read_after w.read (9 + length f.payload)) (Some (i, y))))
data_is_reported w f i y fair kind found =
    let seen : ℕ = read_after w.read (9 + length f.payload) in
    let v : Wire = record w { queue = sealed w.queue } in
    let at : Option (ℕ × LiveStream) = found_from (is_numbered f.stream) 0 w.live in
    let applied_is : applied v f seen ≡ Ok (plain_reported v f seen)
    = if_false (f.kind == headers_type) (headers_reported v f seen) _ (not_kind f.kind data_type headers_type false kind refl)
    ∙ if_false (f.kind == continuation_type) (continuation_reported v f seen w.block) (Ok (plain_reported v f seen)) (not_kind f.kind data_type continuation_type false kind refl) in
    let plain_is : plain_reported v f seen ≡ data_reported v f seen at
    = if_true (f.kind == data_type) (data_reported v f seen at) _ (not_kind f.kind data_type data_type true kind refl) in
    ap (judged w f) fair ∙ ap (outcome w seen) applied_is ∙ ap (λ (t : Report). outcome w seen (Ok t)) plain_is
    ∙ ap (λ (o : Option (ℕ × LiveStream)). outcome w seen (Ok (data_reported v f seen o))) found

-- a head stays
fault_head : (o : Option MessageFault) (p : Response) → (with_fault o p).head ≡ p.head
fault_head (Some (flaw.TooLarge len)) p = refl
fault_head (Some flaw.BadFlag) p = refl
fault_head None p = on_if (λ (q : Response). q.head ≡ p.head) p.closes (ended _ p) p (λ e. refl) (λ e. refl)

data_head : (limit : ℕ) (p : Response) (f : FrameSeen) → (with_data limit p f).head ≡ p.head
data_head limit p f =
    let m : Messages = messages_of limit (p.rest ++ content_of f) in
    on_if (λ (q : Response). q.head ≡ p.head) (is_none p.head) (ended _ p) (with_fault m.fault (with_messages p m (has_flag f.flags end_stream_flag)))
    (λ e. refl) (λ e. fault_head m.fault (with_messages p m (has_flag f.flags end_stream_flag)))

pub own_data : (limit : ℕ) (p : Response) (f : FrameSeen) (o : Option Whole) → o ≡ None → f.kind ≡ data_type → with_stream_frame limit p f o ≡ with_data limit p f
own_data limit p f o none kind =
    ap (with_stream_frame limit p f) none ∙ if_true (f.kind == data_type) (with_data limit p f) _ (not_kind f.kind data_type data_type true kind refl)

-- before its end is acted on
data_base : (l : Link) (s : Seen) (w : Wire) (g : ℕ → Line) (r : ReadFrame) (a : Attempt) (q : Queue) → SeesStreams l s w g → Comes l w r → (st : Stands l s w r.frame.stream a) → r.frame.kind ≡ data_type
    → q.items ≡ w.queue.items ++ updates (control.LinkUpdate (length r.frame.payload)) (control.StreamUpdate st.stream.number (length r.frame.payload)) (has_flag r.frame.flags end_stream_flag) st.stream.head (length r.frame.payload == 0)
    → SeesLink (read_link r l s) (frame_read_on r s l) (record w { queue = q; read = read_after w.read (9 + length r.frame.payload) }) g
data_base l s w g r a q is comes st kind items =
    let f : FrameSeen = r.frame in
    let by : ℕ = length f.payload in
    let v : Wire = record w { queue = q } in
    let cs : List Control = updates (control.LinkUpdate by) (control.StreamUpdate st.stream.number by) (has_flag f.flags end_stream_flag) st.stream.head (by == 0) in
    let data_ : (f.kind == data_type) ≡ true = not_kind f.kind data_type data_type true kind refl in
    let no_settings_ : is_settings f ≡ false = of_settings f.kind f.flags (not_kind f.kind data_type settings_type false kind refl) in
    read_keeps l s w v g r is.sees
    (received_quiet f (open_block l) w v (quiet_kind f data_type data_ refl refl refl refl refl) is.sees.sees.reads.block
    (record { whole = refl; ready = refl; retiring = refl; limit = refl; initial = refl; window = refl; opened = refl; block = refl; table = refl }))
    comes.end (fair_opened w f comes.fair) refl refl is.sees.opened refl
    (live_read l r (owed_for f l s) w.live (by_stream (streaming_on l s)) (not_kind f.kind data_type window_update_type false kind refl) is.sees.sees.live)
    (owed_read l s w (record v { read = read_after w.read (9 + by) }) r cs is.sees.owes (data_owed l s w g r a is st kind)
    (none_named st.stream.number by (has_flag f.flags end_stream_flag) st.stream.head (by == 0)
    ∙ sym (if_false (is_settings f) (list_any (is_setting 1) (settings_of f) ∷ []) [] no_settings_))
    refl items)

-- what becomes of the attempt
data_but : (l : Link) (s : Seen) (w : Wire) (g : ℕ → Line) (r : ReadFrame) (a : Attempt) (q : Queue) → SeesStreams l s w g → Comes l w r → (st : Stands l s w r.frame.stream a) → r.frame.kind ≡ data_type
    → SeesLink (read_link r l s) (frame_read_on r s l) (record w { queue = q; read = read_after w.read (9 + length r.frame.payload) }) g
    → SeesBut a.place (read_link r l s) (frame_read_on r s l) (record w { queue = q; read = read_after w.read (9 + length r.frame.payload) }) g
data_but l s w g r a q is comes st kind base =
    let f : FrameSeen = r.frame in
    let off : is_of_block f ≡ false
    = ap (λ (c : Bool). c || (f.kind == continuation_type)) (not_kind f.kind data_type headers_type false kind refl) ∙ not_kind f.kind data_type continuation_type false kind refl in
    let B : Option OpenBlock → Type 0 = λ o. IsBlock w.block o in
    read_but l s w (record w { queue = q; read = read_after w.read (9 + length f.payload) }) g r a st.stream is comes st (not_kind f.kind data_type goaway_type false kind refl) st.live.tag
    (sym (set_itself st.index w.live st.stream st.there)) refl (subst B (sym (block_kept (open_block l) f off)) is.sees.sees.reads.block) base

-- by whether a head came, and whether it has END_STREAM
data_by : (l : Link) (s : Seen) (w : Wire) (g : ℕ → Line) (r : ReadFrame) (a : Attempt) (q : Queue) (h b : Bool) → SeesStreams l s w g → Comes l w r → IsOn l s r.frame.stream a
    → (st : Stands l s w r.frame.stream a) → r.frame.kind ≡ data_type → st.stream.head ≡ h → q.fresh ≡ 0
    → SeesLink (read_link r l s) (frame_read_on r s l) (record w { queue = q; read = read_after w.read (9 + length r.frame.payload) }) g
    → Follows (read_link r l s) (frame_read_on r s l) a r.frame.stream (data_then h (has_written_end r.frame.stream l) b)
    (record w {
      live = live_after st.index (data_effect (record st.stream { head = h }) b) w.live;
      queue = queue_after r.frame.stream (data_effect (record st.stream { head = h }) b) q;
      read = read_after w.read (9 + length r.frame.payload);
    }) g
data_by l s w g r a q false b is comes on st kind known none base =
    ends_follow (read_link r l s) (frame_read_on r s l) (record w { queue = q; read = read_after w.read (9 + length r.frame.payload) }) g r.frame.stream st.index a st.stream (Some protocol_error)
    (data_but l s w g r a q is comes st kind base) (record { there = on.there; out = on.out; stream = on.stream }) none st.there st.live.tag
data_by l s w g r a q true true is comes on st kind known none base =
    let v : Wire = record w { queue = q; read = read_after w.read (9 + length r.frame.payload) } in
    let code : reset_owed st.stream ≡ closed_code (has_written_end r.frame.stream l)
    = ap closed_code (st.live.finished ∙ ap (λ (n : ℕ). has_written_end n l) st.number) in
    subst (λ (c : Option ℕ). Follows (read_link r l s) (frame_read_on r s l) a r.frame.stream (Ends c) (record v { live = remove w.live st.index; queue = reset_after r.frame.stream (reset_owed st.stream) q }) g) code
    (ends_follow (read_link r l s) (frame_read_on r s l) v g r.frame.stream st.index a st.stream (reset_owed st.stream)
    (data_but l s w g r a q is comes st kind base) (record { there = on.there; out = on.out; stream = on.stream }) none st.there st.live.tag)
data_by l s w g r a q true false is comes on st kind known none base =
    let f : FrameSeen = r.frame in
    let m : Link = read_link r l s in
    let u : Seen = frame_read_on r s l in
    let n : ℕ = f.stream in
    let limit : ℕ = limit_of_attempt a s in
    let x : LiveStream = record st.stream { head = true } in
    let v : Wire = record w { queue = q; live = slice_set w.live st.index x; read = read_after w.read (9 + length f.payload) } in
    let no_goaway : (f.kind == goaway_type) ≡ false = not_kind f.kind data_type goaway_type false kind refl in
    let off : is_of_block f ≡ false
    = ap (λ (c : Bool). c || (f.kind == continuation_type)) (not_kind f.kind data_type headers_type false kind refl) ∙ not_kind f.kind data_type continuation_type false kind refl in
    let p : Response = response_in limit n l.traffic in
    let goes : p.end ≡ None = ap (λ (k : ℕ). (response_of l s k a).end) (sym st.number) ∙ st.handled.goes in
    let small : p.large ≡ false = ap (λ (k : ℕ). (response_of l s k a).large) (sym st.number) ∙ st.handled.small in
    let own : (n == n) ≡ true = grind (arith, nat_tests) in
    let after : response_of m u n a ≡ with_data limit p f
    = response_own limit n l r (owed_for f l s) goes small (of_settings f.kind f.flags (not_kind f.kind data_type settings_type false kind refl)) no_goaway own
    ∙ own_data limit p f r.block (no_list l r off comes.next) kind in
    let same : x ≡ st.stream = ap (λ (c : Bool). record st.stream { head = c }) (sym known) in
    let set : slice_set w.live st.index x ≡ w.live = ap (λ (z : LiveStream). slice_set w.live st.index z) same ∙ set_itself st.index w.live st.stream st.there in
    let B : Option OpenBlock → Type 0 = λ o. IsBlock w.block o in
    read_on l s w v g r a x is comes st no_goaway st.live.tag st.number refl refl
    (subst B (sym (block_kept (open_block l) f off)) is.sees.sees.reads.block)
    (subst (λ (xs : List LiveStream). SeesLink m u (record w { queue = q; live = xs; read = read_after w.read (9 + length f.payload) }) g) (sym set) base)
    (λ ends. sym known ∙ st.handled.head ∙ ap (λ (k : ℕ). is_some (response_of l s k a).head) st.number ∙ ap (λ o. is_some o) (sym (data_head limit p f)) ∙ ap (λ (z : Response). is_some z.head) (sym after))

pub data_is_read : DataIsRead
data_is_read l s w g r a is comes on data_ =
    let f : FrameSeen = r.frame in
    let n : ℕ = f.stream in
    let kind : f.kind ≡ data_type = eqb-true f.kind data_type data_ in
    let st : Stands l s w n a = stands l s w g n a is on in
    let y : LiveStream = st.stream in
    let by : ℕ = length f.payload in
    let e : Bool = has_flag f.flags end_stream_flag in
    let seen : ℕ = read_after w.read (9 + by) in
    let q : Queue = stream_updated y by e (link_updated by (sealed w.queue)) in
    let items : q.items ≡ w.queue.items ++ updates (control.LinkUpdate by) (control.StreamUpdate y.number by) e y.head (by == 0)
    = update_items (sealed w.queue) (control.LinkUpdate by) (control.StreamUpdate y.number by) e y.head (by == 0) in
    let none : q.fresh ≡ 0 = update_fresh (sealed w.queue) (control.LinkUpdate by) (control.StreamUpdate y.number by) e y.head (by == 0) refl in
    let base = data_base l s w g r a q is comes st kind items in
    let head : y.head ≡ is_some (response_of l s n a).head = st.handled.head ∙ ap (λ (k : ℕ). is_some (response_of l s k a).head) st.number in
    let T : Wire → Type 0 = λ x. Follows (read_link r l s) (frame_read l.number r s) a n (data_then (is_some (response_of l s n a).head) (has_written_end n l) e) x g in
    let W : Seen → Type 0 = λ z. Follows (read_link r l s) z a n (data_then (is_some (response_of l s n a).head) (has_written_end n l) e) (outcome w seen (Ok (data_reported (record w { queue = sealed w.queue }) f seen (Some (st.index, y))))).wire g in
    let H : Bool → Type 0 = λ h. Follows (read_link r l s) (frame_read_on r s l) a n (data_then h (has_written_end n l) e)
    (record w {
      live = live_after st.index (data_effect y e) w.live;
      queue = queue_after y.number (data_effect y e) q;
      read = seen;
    }) g in
    let N : ℕ → Type 0 = λ k. Follows (read_link r l s) (frame_read_on r s l) a n (data_then y.head (has_written_end n l) e)
    (record w {
      live = live_after st.index (data_effect y e) w.live;
      queue = queue_after k (data_effect y e) q;
      read = seen;
    }) g in
    subst T (sym (ap (λ (t : Report). t.wire) (data_is_reported w f st.index y comes.fair kind st.found)))
    (subst W (sym (read_is l s r is.sees.at))
    (subst H head
    (subst N (sym st.number) (data_by l s w g r a q y.head e is comes on st kind refl none base))))
