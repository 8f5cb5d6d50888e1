-- Header blocks on an attempt's stream.
use Rattle.std.proofs.Common.{◌≡◌, ◌∷◌, ◌||◌, ◌&&◌, ◌==◌, not, ap, arith, refl, subst, sym, ◌∙◌, Bool, true, false, List, [], Option, None, Some, Ok, ℕ, ◌+◌, ◌*◌, zero, suc, append-nil, if◌then◌else◌, is_none, is_some, length, map, slice_get, slice_set}
use Rattle.std.specs.List.{list_any, remove}
use Rattle.std.proofs.lemmas.Bool.{eqb-true}
use Rattle.std.proofs.lemmas.Bool.Decides.{nat_tests}
use Rattle.attempt_ledger.specs.declared.row.RowCause.TheVariants as cause
use Rattle.grpc_base.specs.ErrorCodes.{cancel, protocol_error}
use Rattle.grpc_meta.specs.ResponseFields.{shown_of}
use Rattle.h2_frame.specs.Frames.{FrameSeen}
use Rattle.h2_frame.specs.Numbers.{continuation_type, data_type, goaway_type, headers_type, ping_type, rst_stream_type, settings_type, window_update_type}
use Rattle.h2_frame.specs.Payloads.{increment, reset_code}
use Rattle.h2_hpack.specs.Blocks as hpack
use Rattle.h2_link.specs.Drains.{AFrame}
use Rattle.h2_link.specs.Feeds.{Line}
use Rattle.h2_link.specs.Queues.{sealed}
use Rattle.h2_link.specs.Status as link
use Rattle.h2_link.specs.Steps.{applied, headers_effect, listed, live_after, queue_after, read_after, reset_after, reset_owed, unless}
use Rattle.h2_link.specs.Wire.{Block, Report, Wire}
use Rattle.h2_link.specs.declared.control.Control.{Control}
use Rattle.h2_link.specs.declared.live.LiveStream.{LiveStream}
use Rattle.link_actions.proofs.DataSent.{same_opened, same_tags}
use Rattle.link_actions.proofs.Receiving.{Received, not_kind, of_settings}
use Rattle.link_actions.proofs.Lists.{if_false, if_true}
use Rattle.link_actions.proofs.QuietKept.{owed_read}
use Rattle.link_actions.specs.Sees.{StreamsAreLive, StreamsAreOpened, IsLive, SeesLink, by_stream}
use Rattle.session_actions.specs.Links.{has_written_end, is_settings, settings_of}
use Rattle.session_actions.specs.Reading.{block_with, is_last_of_block, is_of_block, is_setting, open_block}
use Rattle.session_actions.specs.Responses.{block_end, ended, http_code, http_status, is_head, is_interim, limit_of_attempt, ended_by_block, with_block, with_data, with_head, with_own_frame, with_reset, with_stream_frame, with_trailers, with_update}
use Rattle.session_actions.specs.Writing.{frame_read, frame_read_on, owed_for, streaming_on}
use Rattle.session_actions.specs.declared.attempt.Attempt.{Attempt}
use Rattle.session_actions.specs.declared.link.Block.{Block as Whole}
use Rattle.session_actions.specs.declared.link.Link.{Link}
use Rattle.session_actions.specs.declared.link.OpenBlock.{OpenBlock}
use Rattle.session_actions.specs.declared.link.ReadFrame.{ReadFrame}
use Rattle.session_actions.specs.declared.response.Outcome.{Outcome}
use Rattle.session_actions.specs.declared.response.Response.{Response}
use Rattle.session_actions.specs.declared.seen.Seen.{Seen}
use Rattle.link_actions.proofs.StreamActions.BlockReported.{IsHeld, IsLast, IsListed, received_by, is_held, is_listed, is_of, last_is, more_is, reported_by}
use Rattle.link_actions.proofs.StreamActions.Found.{set_itself}
use Rattle.link_actions.proofs.StreamActions.PlainRead.{Doing, none_owed, on_after}
use Rattle.link_actions.proofs.StreamActions.Responses.{response_own}
use Rattle.link_actions.proofs.StreamActions.StatusSame.{interim_same, status_same}
use Rattle.link_actions.proofs.StreamActions.StreamEnds.{ends_follow}
use Rattle.link_actions.proofs.StreamActions.StreamGoes.{Stands, fair_opened, fair_rules, read_but, read_on, stands}
use Rattle.link_actions.proofs.StreamActions.StreamRead.{live_read, read_is, read_keeps}
use Rattle.link_actions.proofs.StreamActions.Unreceived.{no_list}
use Rattle.link_actions.specs.StreamActions.Laws.{BlocksAreRead, Comes, Ends, Follows, GoesOn, IsOn, PartsAreRead, Then, block_then, closed_code, read_link}
use Rattle.link_actions.specs.StreamActions.Sees.{SeesBut, SeesStreams, response_of}

-- a frame of a block is of no other type
pub record IsPart (f : FrameSeen) : Type 0 where
  pub no_data : (f.kind == data_type) ≡ false
  pub no_settings : (f.kind == settings_type) ≡ false
  pub no_ping : (f.kind == ping_type) ≡ false
  pub no_goaway : (f.kind == goaway_type) ≡ false
  pub no_update : (f.kind == window_update_type) ≡ false
  pub no_reset : (f.kind == rst_stream_type) ≡ false

part_of : (f : FrameSeen) (n : ℕ) → f.kind ≡ n → (n == data_type) ≡ false → (n == settings_type) ≡ false → (n == ping_type) ≡ false → (n == goaway_type) ≡ false
    → (n == window_update_type) ≡ false → (n == rst_stream_type) ≡ false → IsPart f
part_of f n e no_data no_settings_ no_ping no_goaway no_update no_reset = record {
  no_data = not_kind f.kind n data_type false e no_data;
  no_settings = not_kind f.kind n settings_type false e no_settings_;
  no_ping = not_kind f.kind n ping_type false e no_ping;
  no_goaway = not_kind f.kind n goaway_type false e no_goaway;
  no_update = not_kind f.kind n window_update_type false e no_update;
  no_reset = not_kind f.kind n rst_stream_type false e no_reset;
}

part_by : (f : FrameSeen) (b : Bool) → (f.kind == headers_type) ≡ b → (b || (f.kind == continuation_type)) ≡ true → IsPart f
part_by f true e of_b = part_of f headers_type (eqb-true f.kind headers_type e) refl refl refl refl refl refl
part_by f false e of_b = part_of f continuation_type (eqb-true f.kind continuation_type of_b) refl refl refl refl refl refl

pub is_part : (f : FrameSeen) → is_of_block f ≡ true → IsPart f
is_part f of_b = part_by f (f.kind == headers_type) refl of_b

-- the stream, changed
live_set : (m : Link) (i : ℕ) (xs : List LiveStream) (others : List Attempt) (y x : LiveStream) → slice_get xs i ≡ Some y → ((a : Attempt) → IsLive m y a → IsLive m x a)
    → StreamsAreLive m xs others → StreamsAreLive m (slice_set xs i x) others
live_set m i [] [] y x e own are = absurd (cc)
live_set m zero (z ∷ xs) (a ∷ others) y x e own are =
    let same : z ≡ y = (cc) in (own a (subst (λ (k : LiveStream). IsLive m k a) same are.0), are.1)
live_set m (suc i) (z ∷ xs) (a ∷ others) y x e own are = (are.0, live_set m i xs others y x e own are.1)
live_set m i [] (a ∷ others) y x e own are = absurd are
live_set m i (z ∷ xs) [] y x e own are = absurd are

-- link and session before any end is acted on: the stream may know of a head more
abbrev with_head_known : Bool → LiveStream → LiveStream
with_head_known b y = record y { head = b }

part_base : (l : Link) (s : Seen) (w v : Wire) (g : ℕ → Line) (r : ReadFrame) (a : Attempt) (b : Bool) → SeesStreams l s w g → Comes l w r → (st : Stands l s w r.frame.stream a)
    → IsPart r.frame → Received r.frame (open_block l) w v → v.queue.items ≡ w.queue.items → v.waiting ≡ w.waiting → v.resizes ≡ w.resizes
    → v.live ≡ slice_set w.live st.index (with_head_known b st.stream)
    → SeesLink (read_link r l s) (frame_read_on r s l) (record v { read = read_after w.read (9 + length r.frame.payload) }) g
part_base l s w v g r a b is comes st part handled items waiting resizes live =
    let f : FrameSeen = r.frame in
    let m : Link = read_link r l s in
    let bs : List Attempt = by_stream (streaming_on l s) in
    let x : LiveStream = with_head_known b st.stream in
    let none : List Control = [] in
    let no_settings_ : is_settings f ≡ false = of_settings f.kind f.flags part.no_settings in
    read_keeps l s w v g r is.sees handled comes.end (fair_opened w f comes.fair) waiting handled.opened
    (subst (λ (xs : List LiveStream). StreamsAreOpened 1 (2 * w.opened + 1) xs) (sym live) (same_opened 1 (2 * w.opened + 1) st.index w.live st.stream x refl st.there is.sees.opened))
    (ap (map (λ (z : LiveStream). z.tag)) live ∙ same_tags st.index w.live st.stream x refl st.there)
    (subst (λ (xs : List LiveStream). StreamsAreLive m xs bs) (sym live)
    (live_set m st.index w.live bs st.stream x st.there (λ c is_. record { stream = is_.stream; some = is_.some; tag = is_.tag; finished = is_.finished; credit = is_.credit })
    (live_read l r (owed_for f l s) w.live bs part.no_update is.sees.sees.live)))
    (owed_read l s w (record v { read = read_after w.read (9 + length f.payload) }) r none is.sees.owes
    (ap (map (λ k. AFrame k)) (sym (none_owed f l s part.no_data part.no_settings part.no_ping)))
    (sym (if_false (is_settings f) (list_any (is_setting 1) (settings_of f) ∷ []) [] no_settings_))
    resizes (items ∙ sym (append-nil w.queue.items)))

-- the response after it
pub own_response : (l : Link) (s : Seen) (w : Wire) (r : ReadFrame) (a : Attempt) → (st : Stands l s w r.frame.stream a) → IsPart r.frame
    → response_of (read_link r l s) (frame_read_on r s l) r.frame.stream a ≡ with_stream_frame (limit_of_attempt a s) (response_of l s r.frame.stream a) r.frame r.block
own_response l s w r a st part =
    let f : FrameSeen = r.frame in
    let n : ℕ = f.stream in
    let goes = ap (λ (k : ℕ). (response_of l s k a).end) (sym st.number) ∙ st.handled.goes in
    let small = ap (λ (k : ℕ). (response_of l s k a).large) (sym st.number) ∙ st.handled.small in
    let own : (n == n) ≡ true = grind (arith, nat_tests) in
    response_own (limit_of_attempt a s) n l r (owed_for f l s) goes small (of_settings f.kind f.flags part.no_settings) part.no_goaway own

-- a frame that is not the last of its block
some_none : (x : Whole) → Some x ≡ None → ⊥
some_none x e = (cc)

held_by : (l : Link) (s : Seen) (w : Wire) (g : ℕ → Line) (r : ReadFrame) (b : Bool) → is_last_of_block r.frame ≡ b → SeesStreams l s w g → Comes l w r → is_of_block r.frame ≡ true
    → r.block ≡ None → IsHeld w r.frame (read_after w.read (9 + length r.frame.payload))
held_by l s w g r true last is comes of_b none =
    let x : IsLast l (block_with (open_block l) r.frame) r = last_is l r of_b last comes.next in
    absurd (some_none (record { fields = x.fields; ends = (block_with (open_block l) r.frame).ends }) (sym x.block ∙ none))
held_by l s w g r false last is comes of_b none =
    let seen : ℕ = read_after w.read (9 + length r.frame.payload) in
    let short = more_is l r of_b last comes.next in
    is_held w r.frame (block_with (open_block l) r.frame) seen last
    (is_of l w r.frame seen is.sees.sees.reads of_b (fair_rules w r.frame comes.fair).placed) short.0

pub parts_are_read : PartsAreRead
parts_are_read l s w g r a is comes on of_b none =
    let f : FrameSeen = r.frame in
    let n : ℕ = f.stream in
    let part : IsPart f = is_part f of_b in
    let st : Stands l s w n a = stands l s w g n a is on in
    let seen : ℕ = read_after w.read (9 + length f.payload) in
    let m : Link = read_link r l s in
    let p : Response = response_of l s n a in
    let limit : ℕ = limit_of_attempt a s in
    let held : IsHeld w f seen = held_by l s w g r (is_last_of_block f) refl is comes of_b none in
    let v0 : Wire = record w { queue = sealed w.queue; block = Some held.block } in
    let t : Report = record { wire = v0; news = [] } in
    let handled : Received f (open_block l) w v0 = received_by l w r t is.sees.sees.reads comes held.applied_is in
    let v : Wire = record v0 { read = seen } in
    let itself_ : slice_set w.live st.index (with_head_known st.stream.head st.stream) ≡ w.live = set_itself st.index w.live st.stream st.there in
    let base = part_base l s w v0 g r a st.stream.head is comes st part handled refl refl refl (sym itself_) in
    let own : with_own_frame limit p f ≡ p
    = if_false (f.kind == data_type) (with_data limit p f) _ part.no_data ∙ if_false (f.kind == rst_stream_type) (with_reset p (reset_code f.payload)) _ part.no_reset
    ∙ if_false (f.kind == window_update_type) (with_update p (increment f.payload)) p part.no_update in
    let same : response_of m (frame_read_on r s l) n a ≡ p
    = own_response l s w r a st part ∙ ap (λ (o : Option Whole). with_stream_frame limit p f o) none ∙ own in
    let done = read_on l s w v g r a st.stream is comes st part.no_goaway st.live.tag st.number (sym itself_) refl handled.block base
    (λ ends. st.handled.head ∙ ap (λ (k : ℕ). is_some (response_of l s k a).head) st.number ∙ ap (λ (z : Response). is_some z.head) (sym same)) in
    let T : Wire → Type 0 = λ x. Follows m (frame_read l.number r s) a n GoesOn x g in
    let W : Seen → Type 0 = λ z. Follows m z a n GoesOn v g in
    subst T (sym (ap (λ (x : Report). x.wire) (reported_by w f t comes.fair held.applied_is))) (subst W (sym (read_is l s r is.sees.at)) done)

-- a whole block: what becomes of its attempt, by what it says
abbrev pub then_of : Bool → Bool → Bool → Bool → Bool → Then
then_of h im ends none written_end =
    if not h && im then (if ends then Ends (Some protocol_error) else GoesOn)
    else if ends then Ends (closed_code written_end)
    else if h || none then Ends (Some protocol_error)
    else GoesOn

-- the head that the link knows is that of the response, where it goes on
pub none_of_some : {X : Type 0} (o : Option X) (b : Bool) → is_some o ≡ b → is_none o ≡ not b
none_of_some None true e = absurd (cc)
none_of_some None false e = refl
none_of_some (Some x) true e = refl
none_of_some (Some x) false e = absurd (cc)

interim_passes : (p : Response) (b : Whole) → is_some p.head ≡ false → is_interim (http_status b.fields) ≡ true → b.ends ≡ false → with_block p b ≡ p
interim_passes p b no_head im open_ =
    if_true (is_none p.head && is_interim (http_status b.fields)) (if b.ends then ended_by_block b p else p) _
    (ap (λ (c : Bool). c && is_interim (http_status b.fields)) (none_of_some p.head false no_head) ∙ im)
    ∙ if_false b.ends (ended_by_block b p) p open_

head_comes : (p : Response) (b : Whole) → is_some p.head ≡ false → is_interim (http_status b.fields) ≡ false → b.ends ≡ false → is_none (http_status b.fields) ≡ false
    → with_block p b ≡ with_head p b
head_comes p b no_head im open_ some =
    if_false (is_none p.head && is_interim (http_status b.fields)) (if b.ends then ended_by_block b p else p) _
    (ap (λ (c : Bool). c && is_interim (http_status b.fields)) (none_of_some p.head false no_head) ∙ im)
    ∙ if_false b.ends (with_trailers p b) _ open_
    ∙ if_false (is_some p.head || is_none (http_status b.fields)) (ended_by_block b p) (with_head p b) (ap (λ (c : Bool). c || is_none (http_status b.fields)) no_head ∙ some)

some_end : (x : Outcome) → Some x ≡ None → ⊥
some_end x e = (cc)

head_by : (p : Response) (b : Whole) (h : Bool) → is_head b.fields ≡ h → (with_head p b).end ≡ None → is_some (with_head p b).head ≡ true
head_by p b true e goes = ap (λ (q : Response). is_some q.head) (if_true (is_head b.fields) (record p { head = Some (shown_of b.fields) }) _ e)
head_by p b false e goes =
    let x : Outcome = block_end (http_code b.fields) cause.Http cancel b in
    let not_ : with_head p b ≡ ended x p = if_false (is_head b.fields) (record p { head = Some (shown_of b.fields) }) (ended x p) e in
    absurd (some_end x (sym (ap (λ (q : Response). q.end) not_) ∙ goes))

-- it ends the attempt
block_ends : (l : Link) (s : Seen) (w : Wire) (g : ℕ → Line) (r : ReadFrame) (a : Attempt) (kept : Option Block) (table : hpack.State) (number : Option ℕ)
    → SeesStreams l s w g → Comes l w r → IsOn l s r.frame.stream a → (st : Stands l s w r.frame.stream a) → IsPart r.frame
    → Received r.frame (open_block l) w (record w { queue = sealed w.queue; block = kept; table = table })
    → Follows (read_link r l s) (frame_read_on r s l) a r.frame.stream (Ends number)
    (record w { live = remove w.live st.index; queue = reset_after r.frame.stream number (sealed w.queue); block = kept; table = table; read = read_after w.read (9 + length r.frame.payload) }) g
block_ends l s w g r a kept table number is comes on st part handled =
    let f : FrameSeen = r.frame in
    let m : Link = read_link r l s in
    let u : Wire = record w { queue = sealed w.queue; block = kept; table = table } in
    let v : Wire = record u { read = read_after w.read (9 + length f.payload) } in
    let itself_ : w.live ≡ slice_set w.live st.index st.stream = sym (set_itself st.index w.live st.stream st.there) in
    let base = part_base l s w u g r a st.stream.head is comes st part handled refl refl refl itself_ in
    let but : SeesBut a.place m (frame_read_on r s l) v g = read_but l s w v g r a st.stream is comes st part.no_goaway st.live.tag itself_ refl handled.block base in
    ends_follow m (frame_read_on r s l) v g f.stream st.index a st.stream number but (on_after l s r f.stream a on) refl st.there st.live.tag

-- with END_STREAM
block_closes : (l : Link) (s : Seen) (w : Wire) (g : ℕ → Line) (r : ReadFrame) (a : Attempt) (kept : Option Block) (table : hpack.State)
    → SeesStreams l s w g → Comes l w r → IsOn l s r.frame.stream a → (st : Stands l s w r.frame.stream a) → IsPart r.frame
    → Received r.frame (open_block l) w (record w { queue = sealed w.queue; block = kept; table = table })
    → Follows (read_link r l s) (frame_read_on r s l) a r.frame.stream (Ends (closed_code (has_written_end r.frame.stream l)))
    (record w { live = remove w.live st.index; queue = reset_after r.frame.stream (reset_owed st.stream) (sealed w.queue); block = kept; table = table; read = read_after w.read (9 + length r.frame.payload) }) g
block_closes l s w g r a kept table is comes on st part handled =
    let n : ℕ = r.frame.stream in
    let code : reset_owed st.stream ≡ closed_code (has_written_end n l) = ap closed_code (st.live.finished ∙ ap (λ (k : ℕ). has_written_end k l) st.number) in
    subst (λ (c : Option ℕ). Follows (read_link r l s) (frame_read_on r s l) a n (Ends c)
    (record w { live = remove w.live st.index; queue = reset_after n (reset_owed st.stream) (sealed w.queue); block = kept; table = table; read = read_after w.read (9 + length r.frame.payload) }) g) code
    (block_ends l s w g r a kept table (reset_owed st.stream) is comes on st part handled)

-- it goes on
block_goes : (l : Link) (s : Seen) (w : Wire) (g : ℕ → Line) (r : ReadFrame) (a : Attempt) (b : Whole) (kept : Option Block) (table : hpack.State) (h : Bool)
    → SeesStreams l s w g → Comes l w r → (st : Stands l s w r.frame.stream a) → IsPart r.frame → r.block ≡ Some b
    → Received r.frame (open_block l) w (record w { queue = sealed w.queue; block = kept; table = table })
    → ((with_block (response_of l s r.frame.stream a) b).end ≡ None → h ≡ is_some (with_block (response_of l s r.frame.stream a) b).head)
    → Follows (read_link r l s) (frame_read_on r s l) a r.frame.stream GoesOn
    (record w { live = slice_set w.live st.index (record st.stream { head = h }); queue = sealed w.queue; block = kept; table = table; read = read_after w.read (9 + length r.frame.payload) }) g
block_goes l s w g r a b kept table h is comes st part block handled head =
    let f : FrameSeen = r.frame in
    let n : ℕ = f.stream in
    let p : Response = response_of l s n a in
    let limit : ℕ = limit_of_attempt a s in
    let u : Wire = record w { queue = sealed w.queue; block = kept; table = table; live = slice_set w.live st.index (record st.stream { head = h }) } in
    let v : Wire = record u { read = read_after w.read (9 + length f.payload) } in
    let said : Received f (open_block l) w u = record {
      whole = handled.whole;
      ready = handled.ready;
      retiring = handled.retiring;
      limit = handled.limit;
      initial = handled.initial;
      window = handled.window;
      opened = handled.opened;
      block = handled.block;
      table = handled.table;
    } in
    let base = part_base l s w u g r a h is comes st part said refl refl refl refl in
    let same : response_of (read_link r l s) (frame_read_on r s l) n a ≡ with_block p b
    = own_response l s w r a st part ∙ ap (λ (o : Option Whole). with_stream_frame limit p f o) block in
    read_on l s w v g r a (record st.stream { head = h }) is comes st part.no_goaway st.live.tag st.number refl refl handled.block base
    (λ ends. head (sym (ap (λ (z : Response). z.end) same) ∙ ends) ∙ ap (λ (z : Response). is_some z.head) (sym same))

-- the wire after it
abbrev wire_of : Wire → ℕ → ℕ → Option Block → hpack.State → ℕ → Doing → Wire
wire_of w i n kept table seen e = record w { live = live_after i e w.live; queue = queue_after n e (sealed w.queue); block = kept; table = table; read = seen }

-- with END_STREAM, and without
closes_by : (l : Link) (s : Seen) (w : Wire) (g : ℕ → Line) (r : ReadFrame) (a : Attempt) (kept : Option Block) (table : hpack.State) (e : Doing) (q : Bool)
    → SeesStreams l s w g → Comes l w r → IsOn l s r.frame.stream a → (st : Stands l s w r.frame.stream a) → IsPart r.frame
    → Received r.frame (open_block l) w (record w { queue = sealed w.queue; block = kept; table = table })
    → Follows (read_link r l s) (frame_read_on r s l) a r.frame.stream (Ends (closed_code (has_written_end r.frame.stream l)))
    (wire_of w st.index r.frame.stream kept table (read_after w.read (9 + length r.frame.payload)) e) g
    → Follows (read_link r l s) (frame_read_on r s l) a r.frame.stream (if q then Ends (Some protocol_error) else Ends (closed_code (has_written_end r.frame.stream l)))
    (wire_of w st.index r.frame.stream kept table (read_after w.read (9 + length r.frame.payload)) (unless (if q then Some protocol_error else None) e)) g
closes_by l s w g r a kept table e true is comes on st part handled closes = block_ends l s w g r a kept table (Some protocol_error) is comes on st part handled
closes_by l s w g r a kept table e false is comes on st part handled closes = closes

goes_by : (l : Link) (s : Seen) (w : Wire) (g : ℕ → Line) (r : ReadFrame) (a : Attempt) (kept : Option Block) (table : hpack.State) (e : Doing) (q k : Bool)
    → SeesStreams l s w g → Comes l w r → IsOn l s r.frame.stream a → (st : Stands l s w r.frame.stream a) → IsPart r.frame
    → Received r.frame (open_block l) w (record w { queue = sealed w.queue; block = kept; table = table })
    → (q ≡ true → Follows (read_link r l s) (frame_read_on r s l) a r.frame.stream GoesOn (wire_of w st.index r.frame.stream kept table (read_after w.read (9 + length r.frame.payload)) e) g)
    → (q ≡ false → k ≡ false → Follows (read_link r l s) (frame_read_on r s l) a r.frame.stream GoesOn (wire_of w st.index r.frame.stream kept table (read_after w.read (9 + length r.frame.payload)) e) g)
    → Follows (read_link r l s) (frame_read_on r s l) a r.frame.stream (if q then GoesOn else if k then Ends (Some protocol_error) else GoesOn)
    (wire_of w st.index r.frame.stream kept table (read_after w.read (9 + length r.frame.payload)) (unless (if q then None else if k then Some protocol_error else None) e)) g
goes_by l s w g r a kept table e true k is comes on st part handled passes comes_ = passes refl
goes_by l s w g r a kept table e false true is comes on st part handled passes comes_ = block_ends l s w g r a kept table (Some protocol_error) is comes on st part handled
goes_by l s w g r a kept table e false false is comes on st part handled passes comes_ = comes_ refl refl

-- tests
both_of : (h im : Bool) → (not h && im) ≡ true → (h ≡ false) × (im ≡ true)
both_of false true e = (refl, refl)
both_of false false e = absurd (cc)
both_of true im e = absurd (cc)

first_off : (h im none : Bool) → (not h && im) ≡ false → (h || none) ≡ false → (h ≡ false) × (im ≡ false) × (none ≡ false)
first_off false false false e i = (refl, refl, refl)
first_off false true none e i = absurd (cc)
first_off false false true e i = absurd (cc)
first_off true im none e i = absurd (cc)

-- by END_STREAM
block_by : (l : Link) (s : Seen) (w : Wire) (g : ℕ → Line) (r : ReadFrame) (a : Attempt) (b : Whole) (kept : Option Block) (table : hpack.State) (ends : Bool)
    → SeesStreams l s w g → Comes l w r → IsOn l s r.frame.stream a → (st : Stands l s w r.frame.stream a) → IsPart r.frame → r.block ≡ Some b
    → Received r.frame (open_block l) w (record w { queue = sealed w.queue; block = kept; table = table })
    → is_some (response_of l s r.frame.stream a).head ≡ st.stream.head → b.ends ≡ ends
    → Follows (read_link r l s) (frame_read_on r s l) a r.frame.stream
    (then_of st.stream.head (link.is_interim (link.http_status b.fields)) ends (is_none (link.http_status b.fields)) (has_written_end r.frame.stream l))
    (wire_of w st.index r.frame.stream kept table (read_after w.read (9 + length r.frame.payload)) (headers_effect st.stream (link.http_status b.fields) ends)) g
block_by l s w g r a b kept table true is comes on st part block handled known ends_ =
    closes_by l s w g r a kept table _ (not st.stream.head && link.is_interim (link.http_status b.fields)) is comes on st part handled (block_closes l s w g r a kept table is comes on st part handled)
block_by l s w g r a b kept table false is comes on st part block handled known ends_ =
    let o : Option ℕ = link.http_status b.fields in
    let p : Response = response_of l s r.frame.stream a in
    let h : Bool = st.stream.head || not (link.is_interim o) in
    let interim_is : is_interim (http_status b.fields) ≡ link.is_interim o = interim_same (http_status b.fields) ∙ ap link.is_interim (status_same b.fields) in
    let none_is : is_none (http_status b.fields) ≡ is_none o = ap (λ (x : Option ℕ). is_none x) (status_same b.fields) in
    goes_by l s w g r a kept table _ (not st.stream.head && link.is_interim o) (st.stream.head || is_none o) is comes on st part handled
    (λ q.
    let parts = both_of st.stream.head (link.is_interim o) q in
    let off : h ≡ false = ap (λ (c : Bool). c || not (link.is_interim o)) parts.0 ∙ ap not parts.1 in
    let no_head : is_some p.head ≡ false = known ∙ parts.0 in
    block_goes l s w g r a b kept table h is comes st part block handled
    (λ goes. off ∙ sym (ap (λ (x : Response). is_some x.head) (interim_passes p b no_head (interim_is ∙ parts.1) ends_) ∙ no_head)))
    (λ q k.
    let parts = first_off st.stream.head (link.is_interim o) (is_none o) q k in
    let on_ : h ≡ true = ap (λ (c : Bool). c || not (link.is_interim o)) parts.0 ∙ ap not parts.1 in
    let no_head : is_some p.head ≡ false = known ∙ parts.0 in
    let first : with_block p b ≡ with_head p b = head_comes p b no_head (interim_is ∙ parts.1) ends_ (none_is ∙ parts.2) in
    block_goes l s w g r a b kept table h is comes st part block handled
    (λ goes. on_ ∙ sym (ap (λ (x : Response). is_some x.head) first ∙ head_by p b (is_head b.fields) refl (sym (ap (λ (x : Response). x.end) first) ∙ goes))))

-- the header list that the frame completes is the one that the link reports
pub record IsGot (l : Link) (w : Wire) (r : ReadFrame) (b : Whole) : Type 0 where
  pub of_b : is_of_block r.frame ≡ true
  pub listed : IsListed w r.frame b.fields b.ends (read_after w.read (9 + length r.frame.payload))

whole_is : (x y : Whole) → Some x ≡ Some y → x ≡ y
whole_is x y e = (cc)

none_some : (x : Whole) → None ≡ Some x → ⊥
none_some x e = (cc)

pub got_by : (l : Link) (s : Seen) (w : Wire) (g : ℕ → Line) (r : ReadFrame) (b : Whole) (of_b last : Bool) → is_of_block r.frame ≡ of_b → is_last_of_block r.frame ≡ last
    → SeesStreams l s w g → Comes l w r → r.block ≡ Some b → IsGot l w r b
got_by l s w g r b false last is_of_ is_last_ is comes block = absurd (none_some b (sym (no_list l r is_of_ comes.next) ∙ block))
got_by l s w g r b true false is_of_ is_last_ is comes block = absurd (none_some b (sym (more_is l r is_of_ is_last_ comes.next).1 ∙ block))
got_by l s w g r b true true is_of_ is_last_ is comes block =
    let f : FrameSeen = r.frame in
    let seen : ℕ = read_after w.read (9 + length f.payload) in
    let o : OpenBlock = block_with (open_block l) f in
    let x : IsLast l o r = last_is l r is_of_ is_last_ comes.next in
    let c : Whole = record { fields = x.fields; ends = o.ends } in
    let same : c ≡ b = whole_is c b (sym x.block ∙ block) in
    record {
      of_b = is_of_;
      listed = subst (λ (z : Whole). IsListed w f z.fields z.ends seen) same
          (is_listed l w r seen is.sees.sees.reads is_last_ (is_of l w f seen is.sees.sees.reads is_of_ (fair_rules w f comes.fair).placed) x);
    }

-- what was read is the same whatever becomes of the stream
list_received : (l : Link) (w : Wire) (r : ReadFrame) (b : Whole) (kept : Option Block) (table : hpack.State) (i : ℕ) (y : LiveStream) (seen : ℕ)
    → Received r.frame (open_block l) w (listed (record w { queue = sealed w.queue; block = kept; table = table }) b.fields b.ends seen (Some (i, y))).wire
    → Received r.frame (open_block l) w (record w { queue = sealed w.queue; block = kept; table = table })
list_received l w r b kept table i y seen is = record {
  whole = is.whole;
  ready = is.ready;
  retiring = is.retiring;
  limit = is.limit;
  initial = is.initial;
  window = is.window;
  opened = is.opened;
  block = is.block;
  table = is.table;
}

pub blocks_are_read : BlocksAreRead
blocks_are_read l s w g r a b is comes on block =
    let f : FrameSeen = r.frame in
    let n : ℕ = f.stream in
    let st : Stands l s w n a = stands l s w g n a is on in
    let y : LiveStream = st.stream in
    let seen : ℕ = read_after w.read (9 + length f.payload) in
    let m : Link = read_link r l s in
    let got : IsGot l w r b = got_by l s w g r b (is_of_block f) (is_last_of_block f) refl refl is comes block in
    let li : IsListed w f b.fields b.ends seen = got.listed in
    let part : IsPart f = is_part f got.of_b in
    let u : Wire = record w { queue = sealed w.queue; block = li.kept; table = li.table } in
    let t : Report = listed u b.fields b.ends seen (Some (st.index, y)) in
    let applied_is : applied (record w { queue = sealed w.queue }) f seen ≡ Ok t
    = li.applied_is ∙ ap (λ (o : Option (ℕ × LiveStream)). Ok (listed u b.fields b.ends seen o)) st.found in
    let reported_ : Received f (open_block l) w t.wire = received_by l w r t is.sees.sees.reads comes applied_is in
    let handled : Received f (open_block l) w u = list_received l w r b li.kept li.table st.index y seen reported_ in
    let o : Option ℕ = link.http_status b.fields in
    let we : Bool = has_written_end n l in
    let known : is_some (response_of l s n a).head ≡ y.head = sym (st.handled.head ∙ ap (λ (k : ℕ). is_some (response_of l s k a).head) st.number) in
    let interim_is : is_interim (http_status b.fields) ≡ link.is_interim o = interim_same (http_status b.fields) ∙ ap link.is_interim (status_same b.fields) in
    let none_is : is_none (http_status b.fields) ≡ is_none o = ap (λ (x : Option ℕ). is_none x) (status_same b.fields) in
    let next : Then = block_then (is_some (response_of l s n a).head) (http_status b.fields) b.ends we in
    let next_is : then_of y.head (link.is_interim o) b.ends (is_none o) we ≡ next
    = ap (λ (c : Bool). then_of c (link.is_interim o) b.ends (is_none o) we) (sym known)
    ∙ ap (λ (c : Bool). then_of (is_some (response_of l s n a).head) c b.ends (is_none o) we) (sym interim_is)
    ∙ ap (λ (c : Bool). then_of (is_some (response_of l s n a).head) (is_interim (http_status b.fields)) b.ends c we) (sym none_is) in
    let T : Wire → Type 0 = λ x. Follows m (frame_read l.number r s) a n next x g in
    let W : Seen → Type 0 = λ z. Follows m z a n next (wire_of w st.index y.number li.kept li.table seen (headers_effect y o b.ends)) g in
    let N : ℕ → Type 0 = λ k. Follows m (frame_read_on r s l) a n next (wire_of w st.index k li.kept li.table seen (headers_effect y o b.ends)) g in
    let H : Then → Type 0 = λ k. Follows m (frame_read_on r s l) a n k (wire_of w st.index n li.kept li.table seen (headers_effect y o b.ends)) g in
    subst T (sym (ap (λ (x : Report). x.wire) (reported_by w f t comes.fair applied_is)))
    (subst W (sym (read_is l s r is.sees.at))
    (subst N (sym st.number)
    (subst H next_is (block_by l s w g r a b li.kept li.table b.ends is comes on st part block handled known refl))))
