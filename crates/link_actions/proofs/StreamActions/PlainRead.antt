-- RST_STREAM, WINDOW_UPDATE, and frames that are passed over, on an attempt's stream.
use Rattle.std.proofs.Common.{◌≡◌, ◌<◌, ◌≤◌, ◌∷◌, ◌||◌, ◌&&◌, ◌==◌, not, ap, arith, refl, subst, sym, ◌∙◌, Bool, true, false, List, [], Option, None, Some, Ok, ℕ, ℤ, pos, ◌+ℤ◌, ◌+◌, ◌*◌, zero, suc, append-nil, if◌then◌else◌, int_lt, is_some, length, map, min, nat_lt, slice_get, slice_set}
use Rattle.std.specs.List.{list_any, remove}
use Rattle.std.proofs.lemmas.Bool.{eqb-true}
use Rattle.std.proofs.lemmas.Bool.Decides.{nat_tests}
use Rattle.std.proofs.lemmas.Int.{ints}
use Rattle.attempt_ledger.specs.declared.row.RowCause.TheVariants as cause
use Rattle.grpc_base.specs.ErrorCodes.{flow_control_error, protocol_error}
use Rattle.grpc_base.specs.declared.code.Code.TheVariants as code
use Rattle.h2_frame.specs.Frames.{FrameSeen, has_flag}
use Rattle.h2_frame.specs.Numbers.{ack_flag, continuation_type, data_type, goaway_type, headers_type, ping_type, rst_stream_type, settings_type, window_update_type}
use Rattle.h2_frame.specs.Payloads.{increment, last_stream, ping_word, reset_code}
use Rattle.h2_frame.specs.Sent.{ping_ack, settings_ack}
use Rattle.h2_link.specs.Drains.{AFrame}
use Rattle.h2_link.specs.Feeds.{Line}
use Rattle.h2_link.specs.LinkErrors as link
use Rattle.h2_link.specs.LinkErrors.{send_window}
use Rattle.h2_link.specs.Queues.{sealed}
use Rattle.h2_link.specs.Steps.{applied, continuation_reported, data_reported, found_from, goaway_reported, headers_reported, is_numbered, judged, live_after, outcome, ping_reported, plain_reported, queue_after, read_after, reset_after, reset_reported, settings_reported, reported, unless, update_reported, window_effect, window_reported}
use Rattle.h2_link.specs.Wire.{Report, Wire}
use Rattle.h2_link.specs.declared.control.Control.{Control}
use Rattle.h2_link.specs.declared.live.LiveStream.{LiveStream}
use Rattle.link_actions.proofs.DataSent.{same_opened, same_tags}
use Rattle.link_actions.proofs.Receiving.{block_kept, received_quiet, no_raise, not_kind, of_settings, raises_none}
use Rattle.link_actions.proofs.History.{raised_more, used_same}
use Rattle.link_actions.proofs.Lists.{if_false, if_true, on_if}
use Rattle.link_actions.proofs.QuietKept.{ends_still, owed_read, raise_none}
use Rattle.link_actions.specs.Sees.{StreamsAreLive, StreamsAreOpened, IsBlock, IsLive, SeesLink, by_stream}
use Rattle.session_actions.specs.Links.{is_settings, settings_of}
use Rattle.session_actions.specs.Reading.{block_after, initial_window, is_of_block, is_setting, largest_window, open_block, raise_by, raised, used}
use Rattle.session_actions.specs.Responses.{ended, limit_of_attempt, plain_end, with_data, with_own_frame, with_reset, with_stream_frame, with_update}
use Rattle.session_actions.specs.Writing.{frame_read, frame_read_on, owed_for, streaming_on, updates_for, with_frame_read}
use Rattle.session_actions.specs.declared.attempt.Attempt.{Attempt}
use Rattle.session_actions.specs.declared.link.Block.{Block as Whole}
use Rattle.session_actions.specs.declared.link.Link.{Link}
use Rattle.session_actions.specs.declared.link.OpenBlock.{OpenBlock}
use Rattle.session_actions.specs.declared.link.ReadFrame.{ReadFrame}
use Rattle.session_actions.specs.declared.response.Response.{Response}
use Rattle.session_actions.specs.declared.seen.Seen.{Seen}
use Rattle.link_actions.proofs.StreamActions.Found.{number_from, set_itself}
use Rattle.link_actions.proofs.StreamActions.Responses.{response_own}
use Rattle.link_actions.proofs.StreamActions.StreamEnds.{ends_follow}
use Rattle.link_actions.proofs.StreamActions.StreamGoes.{Stands, fair_opened, read_but, read_on, stands}
use Rattle.link_actions.proofs.StreamActions.StreamRead.{live_read, read_is, read_keeps}
use Rattle.link_actions.proofs.StreamActions.Unreceived.{no_list}
use Rattle.link_actions.specs.StreamActions.Laws.{Comes, Ends, Follows, GoesOn, IsOn, OthersAreRead, ResetsAreRead, UpdatesAreRead, is_too_wide, read_link, update_then}
use Rattle.link_actions.specs.StreamActions.Sees.{SeesBut, SeesStreams, response_of}

-- a frame that makes nothing owed, and says nothing of the link
pub record IsStill (f : FrameSeen) : Type 0 where
  pub no_data : (f.kind == data_type) ≡ false
  pub no_settings : (f.kind == settings_type) ≡ false
  pub no_ping : (f.kind == ping_type) ≡ false
  pub no_goaway : (f.kind == goaway_type) ≡ false
  pub no_headers : (f.kind == headers_type) ≡ false
  pub no_continuation : (f.kind == continuation_type) ≡ false

pub none_owed : (f : FrameSeen) (l : Link) (s : Seen) → (f.kind == data_type) ≡ false → (f.kind == settings_type) ≡ false → (f.kind == ping_type) ≡ false → owed_for f l s ≡ []
none_owed f l s no_data no_settings_ no_ping =
    if_false (is_settings f) (settings_ack ∷ []) _ (of_settings f.kind f.flags no_settings_)
    ∙ if_false ((f.kind == ping_type) && not (has_flag f.flags ack_flag)) (ping_ack (ping_word f.payload) ∷ []) _ (ap (λ (b : Bool). b && not (has_flag f.flags ack_flag)) no_ping)
    ∙ if_false (f.kind == data_type) (updates_for f l s) [] no_data

-- what the link reports of it
still_reported : (w : Wire) (f : FrameSeen) → link.link_error w f ≡ None → IsStill f
    → reported w f ≡ outcome w (read_after w.read (9 + length f.payload))
    (Ok (if f.kind == rst_stream_type then reset_reported (record w { queue = sealed w.queue }) (reset_code f.payload) (read_after w.read (9 + length f.payload)) (found_from (is_numbered f.stream) 0 w.live)
    else if f.kind == window_update_type then update_reported (record w { queue = sealed w.queue }) f (read_after w.read (9 + length f.payload))
    else record { wire = record w { queue = sealed w.queue }; news = [] }))
still_reported w f fair is =
    let seen : ℕ = read_after w.read (9 + length f.payload) in
    let v : Wire = record w { queue = sealed w.queue } in
    let at : Option (ℕ × LiveStream) = found_from (is_numbered f.stream) 0 w.live in
    let rest : Report = if f.kind == window_update_type then update_reported v f seen else record { wire = v; news = [] } in
    let applied_is : applied v f seen ≡ Ok (plain_reported v f seen)
    = if_false (f.kind == headers_type) (headers_reported v f seen) _ is.no_headers
    ∙ if_false (f.kind == continuation_type) (continuation_reported v f seen w.block) (Ok (plain_reported v f seen)) is.no_continuation in
    let afterwards : Report = if f.kind == settings_type then settings_reported v f
    else if f.kind == ping_type then ping_reported v f else if f.kind == goaway_type then goaway_reported v (last_stream f.payload) seen else rest in
    let after_is : afterwards ≡ rest
    = if_false (f.kind == settings_type) (settings_reported v f) _ is.no_settings ∙ if_false (f.kind == ping_type) (ping_reported v f) _ is.no_ping
    ∙ if_false (f.kind == goaway_type) (goaway_reported v (last_stream f.payload) seen) rest is.no_goaway in
    let plain_is : plain_reported v f seen ≡ (if f.kind == rst_stream_type then reset_reported v (reset_code f.payload) seen at else afterwards)
    = if_false (f.kind == data_type) (data_reported v f seen at) (if f.kind == rst_stream_type then reset_reported v (reset_code f.payload) seen at else afterwards) is.no_data in
    ap (judged w f) fair ∙ ap (outcome w seen) applied_is ∙ ap (λ (t : Report). outcome w seen (Ok t)) plain_is
    ∙ ap (λ (t : Report). outcome w seen (Ok (if f.kind == rst_stream_type then reset_reported v (reset_code f.payload) seen at else t))) after_is

off_block : (f : FrameSeen) → IsStill f → is_of_block f ≡ false
off_block f is = ap (λ (b : Bool). b || (f.kind == continuation_type)) is.no_headers ∙ is.no_continuation

-- link and session before any end is acted on, with the streams as they are then
still_base : (l : Link) (s : Seen) (w : Wire) (g : ℕ → Line) (r : ReadFrame) (a : Attempt) (x : LiveStream) → SeesStreams l s w g → Comes l w r → (st : Stands l s w r.frame.stream a)
    → IsStill r.frame → raise_by 0 r.frame ≡ 0 → x.number ≡ st.stream.number → x.tag ≡ st.stream.tag
    → StreamsAreLive (read_link r l s) (slice_set w.live st.index x) (by_stream (streaming_on l s))
    → SeesLink (read_link r l s) (frame_read_on r s l) (record w { queue = sealed w.queue; live = slice_set w.live st.index x; read = read_after w.read (9 + length r.frame.payload) }) g
still_base l s w g r a x is comes st still raises number tag live =
    let f : FrameSeen = r.frame in
    let v : Wire = record w { queue = sealed w.queue; live = slice_set w.live st.index x } in
    let no_settings_ : is_settings f ≡ false = of_settings f.kind f.flags still.no_settings in
    let none : List Control = [] in
    read_keeps l s w v g r is.sees
    (received_quiet f (open_block l) w v (record { settings = no_settings_; goaway = still.no_goaway; block = off_block f still; raises = raises }) is.sees.sees.reads.block
    (record { whole = refl; ready = refl; retiring = refl; limit = refl; initial = refl; window = refl; opened = refl; block = refl; table = refl }))
    comes.end (fair_opened w f comes.fair) refl refl
    (same_opened 1 (2 * w.opened + 1) st.index w.live st.stream x number st.there is.sees.opened)
    (same_tags st.index w.live st.stream x tag st.there)
    live
    (owed_read l s w (record v { read = read_after w.read (9 + length f.payload) }) r none is.sees.owes
    (ap (map (λ k. AFrame k)) (sym (none_owed f l s still.no_data still.no_settings still.no_ping)))
    (sym (if_false (is_settings f) (list_any (is_setting 1) (settings_of f) ∷ []) [] no_settings_))
    refl (sym (append-nil w.queue.items)))

still_block : (l : Link) (s : Seen) (w : Wire) (g : ℕ → Line) (f : FrameSeen) → SeesStreams l s w g → IsStill f → IsBlock w.block (block_after (open_block l) f)
still_block l s w g f is still =
    subst (λ (o : Option OpenBlock). IsBlock w.block o) (sym (block_kept (open_block l) f (off_block f still))) is.sees.sees.reads.block

-- the response after it
pub still_response : (l : Link) (s : Seen) (w : Wire) (r : ReadFrame) (a : Attempt) → Comes l w r → (st : Stands l s w r.frame.stream a) → IsStill r.frame
    → response_of (read_link r l s) (frame_read_on r s l) r.frame.stream a ≡ with_own_frame (limit_of_attempt a s) (response_of l s r.frame.stream a) r.frame
still_response l s w r a comes st still =
    let f : FrameSeen = r.frame in
    let n : ℕ = f.stream in
    let limit : ℕ = limit_of_attempt a s in
    let goes = ap (λ (k : ℕ). (response_of l s k a).end) (sym st.number) ∙ st.handled.goes in
    let small = ap (λ (k : ℕ). (response_of l s k a).large) (sym st.number) ∙ st.handled.small in
    let own : (n == n) ≡ true = grind (arith, nat_tests) in
    response_own limit n l r (owed_for f l s) goes small (of_settings f.kind f.flags still.no_settings) still.no_goaway own
    ∙ ap (λ (o : Option Whole). with_stream_frame limit (response_of l s n a) f o) (no_list l r (off_block f still) comes.next)

-- RST_STREAM
pub of_kind : (f : FrameSeen) (n : ℕ) → f.kind ≡ n → (n == data_type) ≡ false → (n == settings_type) ≡ false → (n == ping_type) ≡ false → (n == goaway_type) ≡ false
    → (n == headers_type) ≡ false → (n == continuation_type) ≡ false → IsStill f
of_kind f n e no_data no_settings_ no_ping no_goaway no_headers no_continuation = record {
  no_data = not_kind f.kind n data_type false e no_data;
  no_settings = not_kind f.kind n settings_type false e no_settings_;
  no_ping = not_kind f.kind n ping_type false e no_ping;
  no_goaway = not_kind f.kind n goaway_type false e no_goaway;
  no_headers = not_kind f.kind n headers_type false e no_headers;
  no_continuation = not_kind f.kind n continuation_type false e no_continuation;
}

pub on_after : (l : Link) (s : Seen) (r : ReadFrame) (n : ℕ) (a : Attempt) → IsOn l s n a → IsOn (read_link r l s) (frame_read_on r s l) n a
on_after l s r n a on = record { there = on.there; out = on.out; stream = on.stream }

-- with the stream as it was
still_same : (l : Link) (s : Seen) (w : Wire) (g : ℕ → Line) (r : ReadFrame) (a : Attempt) → SeesStreams l s w g → Comes l w r → (st : Stands l s w r.frame.stream a)
    → IsStill r.frame → (r.frame.kind == window_update_type) ≡ false
    → SeesLink (read_link r l s) (frame_read_on r s l) (record w { queue = sealed w.queue; read = read_after w.read (9 + length r.frame.payload) }) g
still_same l s w g r a is comes st still no_update =
    let f : FrameSeen = r.frame in
    let bs : List Attempt = by_stream (streaming_on l s) in
    let set : slice_set w.live st.index st.stream ≡ w.live = set_itself st.index w.live st.stream st.there in
    let B : List LiveStream → Type 0
    = λ xs. SeesLink (read_link r l s) (frame_read_on r s l) (record w { queue = sealed w.queue; live = xs; read = read_after w.read (9 + length f.payload) }) g in
    subst B set
    (still_base l s w g r a st.stream is comes st still (no_raise (f.kind == window_update_type) (f.stream == 0) (increment f.payload) no_update) refl refl
    (subst (λ (xs : List LiveStream). StreamsAreLive (read_link r l s) xs bs) (sym set) (live_read l r (owed_for f l s) w.live bs no_update is.sees.sees.live)))

pub resets_are_read : ResetsAreRead
resets_are_read l s w g r a is comes on kind =
    let f : FrameSeen = r.frame in
    let n : ℕ = f.stream in
    let e : f.kind ≡ rst_stream_type = eqb-true f.kind rst_stream_type kind in
    let still : IsStill f = of_kind f rst_stream_type e refl refl refl refl refl refl in
    let st : Stands l s w n a = stands l s w g n a is on in
    let seen : ℕ = read_after w.read (9 + length f.payload) in
    let v : Wire = record w { queue = sealed w.queue; read = seen } in
    let m : Link = read_link r l s in
    let no_update : (f.kind == window_update_type) ≡ false = not_kind f.kind rst_stream_type window_update_type false e refl in
    let base = still_same l s w g r a is comes st still no_update in
    let but : SeesBut a.place m (frame_read_on r s l) v g
    = read_but l s w v g r a st.stream is comes st still.no_goaway st.live.tag (sym (set_itself st.index w.live st.stream st.there)) refl (still_block l s w g f is still) base in
    let done = ends_follow m (frame_read_on r s l) v g n st.index a st.stream None but (on_after l s r n a on) refl st.there st.live.tag in
    let rest : Report = if f.kind == window_update_type then update_reported (record w { queue = sealed w.queue }) f seen else record { wire = record w { queue = sealed w.queue }; news = [] } in
    let found : Report = reset_reported (record w { queue = sealed w.queue }) (reset_code f.payload) seen (found_from (is_numbered n) 0 w.live) in
    let reset_is : (if f.kind == rst_stream_type then found else rest) ≡ found = if_true (f.kind == rst_stream_type) found rest kind in
    let reported_is : reported w f ≡ outcome w seen (Ok (reset_reported (record w { queue = sealed w.queue }) (reset_code f.payload) seen (Some (st.index, st.stream))))
    = still_reported w f comes.fair still ∙ ap (λ (t : Report). outcome w seen (Ok t)) reset_is
    ∙ ap (λ (o : Option (ℕ × LiveStream)). outcome w seen (Ok (reset_reported (record w { queue = sealed w.queue }) (reset_code f.payload) seen o))) st.found in
    let T : Wire → Type 0 = λ x. Follows m (frame_read l.number r s) a n (Ends None) x g in
    let W : Seen → Type 0 = λ z. Follows m z a n (Ends None) (record w { queue = sealed w.queue; live = remove w.live st.index; read = seen }) g in
    subst T (sym (ap (λ (t : Report). t.wire) reported_is)) (subst W (sym (read_is l s r is.sees.at)) done)

-- frames that are passed over
pub record AreNot (a b c d e f g h : Bool) : Type 0 where
  pub one : a ≡ false
  pub two : b ≡ false
  pub three : c ≡ false
  pub four : d ≡ false
  pub five : e ≡ false
  pub six : f ≡ false
  pub seven : g ≡ false
  pub eight : h ≡ false

are_not : (a b c d e f g h : Bool) → not (a || b || c || d || e || f || g || h) ≡ true → AreNot a b c d e f g h
are_not false false false false false false false false e_ = record { one = refl; two = refl; three = refl; four = refl; five = refl; six = refl; seven = refl; eight = refl }
are_not true b c d e f g h e_ = absurd (cc)
are_not false true c d e f g h e_ = absurd (cc)
are_not false false true d e f g h e_ = absurd (cc)
are_not false false false true e f g h e_ = absurd (cc)
are_not false false false false true f g h e_ = absurd (cc)
are_not false false false false false true g h e_ = absurd (cc)
are_not false false false false false false true h e_ = absurd (cc)
are_not false false false false false false false true e_ = absurd (cc)

pub others_are_read : OthersAreRead
others_are_read l s w g r a is comes on passed =
    let f : FrameSeen = r.frame in
    let n : ℕ = f.stream in
    let none = are_not (f.kind == data_type) (f.kind == headers_type) (f.kind == rst_stream_type) (f.kind == settings_type) (f.kind == ping_type) (f.kind == goaway_type) (f.kind == window_update_type) (f.kind == continuation_type) passed in
    let still : IsStill f = record {
      no_data = none.one;
      no_settings = none.four;
      no_ping = none.five;
      no_goaway = none.six;
      no_headers = none.two;
      no_continuation = none.eight;
    } in
    let st : Stands l s w n a = stands l s w g n a is on in
    let seen : ℕ = read_after w.read (9 + length f.payload) in
    let v : Wire = record w { queue = sealed w.queue; read = seen } in
    let m : Link = read_link r l s in
    let limit : ℕ = limit_of_attempt a s in
    let p : Response = response_of l s n a in
    let base = still_same l s w g r a is comes st still none.seven in
    let same : response_of m (frame_read_on r s l) n a ≡ p
    = still_response l s w r a comes st still ∙ if_false (f.kind == data_type) (with_data limit p f) _ none.one
    ∙ if_false (f.kind == rst_stream_type) (with_reset p (reset_code f.payload)) _ none.three ∙ if_false (f.kind == window_update_type) (with_update p (increment f.payload)) p none.seven in
    let done = read_on l s w v g r a st.stream is comes st still.no_goaway st.live.tag st.number (sym (set_itself st.index w.live st.stream st.there)) refl (still_block l s w g f is still) base
    (λ ends. st.handled.head ∙ ap (λ (k : ℕ). is_some (response_of l s k a).head) st.number ∙ ap (λ (z : Response). is_some z.head) (sym same)) in
    let plain : Report = record { wire = record w { queue = sealed w.queue }; news = [] } in
    let update : Report = update_reported (record w { queue = sealed w.queue }) f seen in
    let reset_ : Report = reset_reported (record w { queue = sealed w.queue }) (reset_code f.payload) seen (found_from (is_numbered n) 0 w.live) in
    let plain_is : (if f.kind == rst_stream_type then reset_ else if f.kind == window_update_type then update else plain) ≡ plain
    = if_false (f.kind == rst_stream_type) reset_ (if f.kind == window_update_type then update else plain) none.three ∙ if_false (f.kind == window_update_type) update plain none.seven in
    let reported_is : reported w f ≡ outcome w seen (Ok plain)
    = still_reported w f comes.fair still ∙ ap (λ (t : Report). outcome w seen (Ok t)) plain_is in
    let T : Wire → Type 0 = λ x. Follows m (frame_read l.number r s) a n GoesOn x g in
    let W : Seen → Type 0 = λ z. Follows m z a n GoesOn v g in
    subst T (sym (ap (λ (t : Report). t.wire) reported_is)) (subst W (sym (read_is l s r is.sees.at)) done)

-- WINDOW_UPDATE: what the stream may send is what the session says
raised_one : (c : ℤ) (by used_ was more : ℕ) → c +ℤ pos used_ ≡ pos was → more ≡ was + by → (c +ℤ pos by) +ℤ pos used_ ≡ pos more
raised_one c by used_ was more e h = omega (arith, ints)

raise_by_own : (f : FrameSeen) (n : ℕ) → (f.kind == window_update_type) ≡ true → (f.stream == n) ≡ true → raise_by n f ≡ increment f.payload
raise_by_own f n kind own =
    let o : ℕ = 0 in
    if_true ((f.kind == window_update_type) && (f.stream == n)) (increment f.payload) o (ap (λ (b : Bool). b && (f.stream == n)) kind ∙ own)

live_same : (l : Link) (r : ReadFrame) (frames : List FrameSeen) (x : LiveStream) (a : Attempt) → (r.frame.stream == x.number) ≡ false → IsLive l x a → IsLive (with_frame_read r frames l) x a
live_same l r frames x a apart is =
    let m : Link = with_frame_read r frames l in
    let none : raise_by x.number r.frame ≡ 0 = raise_none r.frame x.number apart in
    let more : raised x.number m ≡ raised x.number l + raise_by x.number r.frame = raised_more x.number l r frames in
    let same : raised x.number m ≡ raised x.number l = omega (arith, none, more) in
    record {
      stream = is.stream;
      some = is.some;
      tag = is.tag;
      finished = is.finished ∙ sym (ends_still l r frames x.number);
      credit = ap (λ (n : ℕ). x.credit +ℤ pos n) (used_same x.number l r frames) ∙ is.credit ∙ ap (λ (n : ℕ). pos n) (sym same);
    }

high_apart : (m n : ℕ) → n < m → (n == m) ≡ false
high_apart m n h = grind (arith, nat_tests, h)

low_apart : (m n : ℕ) → m < n → (n == m) ≡ false
low_apart m n h = grind (arith, nat_tests, h)

live_above : (l : Link) (r : ReadFrame) (frames : List FrameSeen) (first bound : ℕ) (xs : List LiveStream) (others : List Attempt) → r.frame.stream < first → StreamsAreOpened first bound xs
    → StreamsAreLive l xs others → StreamsAreLive (with_frame_read r frames l) xs others
live_above l r frames first bound [] [] low opened are = tt
live_above l r frames first bound (x ∷ xs) (a ∷ others) low opened are =
    let from_ : first ≤ x.number = opened.0 in
    let high : r.frame.stream < x.number = omega (arith, low, from_) in
    let next : r.frame.stream < x.number + 1 = omega (arith, high) in
    (live_same l r frames x a (high_apart x.number r.frame.stream high) are.0, live_above l r frames (x.number + 1) bound xs others next opened.2 are.1)
live_above l r frames first bound [] (a ∷ others) low opened are = absurd are
live_above l r frames first bound (x ∷ xs) [] low opened are = absurd are

live_raised : (l : Link) (r : ReadFrame) (frames : List FrameSeen) (first bound i : ℕ) (xs : List LiveStream) (others : List Attempt) (y : LiveStream) → (r.frame.kind == window_update_type) ≡ true
    → r.frame.stream ≡ y.number → StreamsAreOpened first bound xs → slice_get xs i ≡ Some y → StreamsAreLive l xs others
    → StreamsAreLive (with_frame_read r frames l) (slice_set xs i (record y { credit = y.credit +ℤ pos (increment r.frame.payload) })) others
live_raised l r frames first bound i [] [] y kind at opened e are = absurd (cc)
live_raised l r frames first bound zero (x ∷ xs) (a ∷ others) y kind at opened e are =
    let same : x ≡ y = (cc) in
    let number : x.number ≡ y.number = ap (λ (z : LiveStream). z.number) same in
    let next : r.frame.stream < x.number + 1 = omega (arith, at, number) in
    let m : Link = with_frame_read r frames l in
    let is : IsLive l y a = subst (λ (z : LiveStream). IsLive l z a) same are.0 in
    let own : (r.frame.stream == y.number) ≡ true = grind (arith, nat_tests, at) in
    let raise : raise_by y.number r.frame ≡ increment r.frame.payload = raise_by_own r.frame y.number kind own in
    let more : raised y.number m ≡ raised y.number l + raise_by y.number r.frame = raised_more y.number l r frames in
    let all : raised y.number m ≡ raised y.number l + increment r.frame.payload = omega (arith, raise, more) in (
      record {
        stream = is.stream;
        some = is.some;
        tag = is.tag;
        finished = is.finished ∙ sym (ends_still l r frames y.number);
        credit = ap (λ (n : ℕ). (y.credit +ℤ pos (increment r.frame.payload)) +ℤ pos n) (used_same y.number l r frames)
            ∙ raised_one y.credit (increment r.frame.payload) (used y.number l) (raised y.number l) (raised y.number m) is.credit all;
      },
      live_above l r frames (x.number + 1) bound xs others next opened.2 are.1,
    )
live_raised l r frames first bound (suc i) (x ∷ xs) (a ∷ others) y kind at opened e are =
    let next : x.number + 1 ≤ y.number = number_from (x.number + 1) bound i xs y opened.2 e in
    let low : x.number < r.frame.stream = omega (arith, next, at) in
    (live_same l r frames x a (low_apart x.number r.frame.stream low) are.0, live_raised l r frames (x.number + 1) bound i xs others y kind at opened.2 e are.1)
live_raised l r frames first bound i [] (a ∷ others) y kind at opened e are = absurd are
live_raised l r frames first bound i (x ∷ xs) [] y kind at opened e are = absurd are

-- whether it is too wide
wide_by : (c : ℤ) (initial by used_ raised_ : ℕ) → c +ℤ pos used_ ≡ pos raised_
    → int_lt (pos 2147483647) ((pos initial +ℤ c) +ℤ pos by) ≡ nat_lt (2147483647 + used_) (initial + raised_ + by)
wide_by c initial by used_ raised_ e = grind (arith, ints, nat_tests, e)

wide_same : (l : Link) (s : Seen) (w : Wire) (n by : ℕ) (a : Attempt) (st : Stands l s w n a) → w.initial ≡ initial_window l
    → int_lt (pos largest_window) (send_window w.initial st.stream +ℤ pos by) ≡ is_too_wide l n by
wide_same l s w n by a st initial =
    wide_by st.stream.credit w.initial by (used st.stream.number l) (raised st.stream.number l) st.live.credit
    ∙ ap (λ (k : ℕ). nat_lt (largest_window + used st.stream.number l) (k + raised st.stream.number l + by)) initial
    ∙ ap (λ (k : ℕ). nat_lt (largest_window + used k l) (initial_window l + raised k l + by)) st.number

-- without it, as it was or as it is
pub dropped : (i : ℕ) (xs : List LiveStream) (x : LiveStream) → remove (slice_set xs i x) i ≡ remove xs i
dropped i [] x = refl
dropped zero (y ∷ xs) x = refl
dropped (suc i) (y ∷ xs) x = ap (λ (ys : List LiveStream). y ∷ ys) (dropped i xs x)

pub there_set : (i : ℕ) (xs : List LiveStream) (y x : LiveStream) → slice_get xs i ≡ Some y → slice_get (slice_set xs i x) i ≡ Some x
there_set i [] y x e = absurd (cc)
there_set zero (z ∷ xs) y x e = refl
there_set (suc i) (z ∷ xs) y x e = there_set i xs y x e

update_head : (p : Response) (by : ℕ) → (with_update p by).head ≡ p.head
update_head p by =
    let H : Response → Type 0 = λ q. q.head ≡ p.head in
    on_if H (by == 0) (ended (plain_end code.Internal cause.Framing false (Some protocol_error)) p) _ (λ e. refl)
    (λ e. on_if H (nat_lt (largest_window + p.used) (p.initial + p.raised + by)) (ended (plain_end code.Internal cause.Framing false (Some flow_control_error)) p) (record p { raised = p.raised + by }) (λ h. refl) (λ h. refl))

update_ends : (l : Link) (s : Seen) (w : Wire) (g : ℕ → Line) (r : ReadFrame) (a : Attempt) (number : ℕ) → SeesStreams l s w g → Comes l w r → IsOn l s r.frame.stream a
    → (st : Stands l s w r.frame.stream a) → IsStill r.frame
    → SeesLink (read_link r l s) (frame_read_on r s l)
    (record w { queue = sealed w.queue; live = slice_set w.live st.index (record st.stream { credit = st.stream.credit +ℤ pos (increment r.frame.payload) }); read = read_after w.read (9 + length r.frame.payload) }) g
    → Follows (read_link r l s) (frame_read_on r s l) a r.frame.stream (Ends (Some number))
    (record w { live = remove w.live st.index; queue = reset_after r.frame.stream (Some number) (sealed w.queue); read = read_after w.read (9 + length r.frame.payload) }) g
update_ends l s w g r a number is comes on st still base =
    let f : FrameSeen = r.frame in
    let n : ℕ = f.stream in
    let x : LiveStream = record st.stream { credit = st.stream.credit +ℤ pos (increment f.payload) } in
    let v : Wire = record w { queue = sealed w.queue; live = slice_set w.live st.index x; read = read_after w.read (9 + length f.payload) } in
    let m : Link = read_link r l s in
    let but : SeesBut a.place m (frame_read_on r s l) v g = read_but l s w v g r a x is comes st still.no_goaway st.live.tag refl refl (still_block l s w g f is still) base in
    let W : List LiveStream → Type 0
    = λ xs. Follows m (frame_read_on r s l) a n (Ends (Some number)) (record w { live = xs; queue = reset_after n (Some number) (sealed w.queue); read = read_after w.read (9 + length f.payload) }) g in
    subst W (dropped st.index w.live x)
    (ends_follow m (frame_read_on r s l) v g n st.index a x (Some number) but (on_after l s r n a on) refl (there_set st.index w.live st.stream x st.there) st.live.tag)

-- what something does to a stream, which is named by a value of its type
abbrev pub TypeOf : (X : Type 0) → X → Type 0
TypeOf X x = X

abbrev pub Doing : Type 0
Doing = TypeOf _ (window_effect 0 (record { number = 0; tag = 0; head = false; finished = false; credit = pos 0 }) 0)

update_by : (l : Link) (s : Seen) (w : Wire) (g : ℕ → Line) (r : ReadFrame) (a : Attempt) (e : Doing) (z b : Bool) → SeesStreams l s w g → Comes l w r → IsOn l s r.frame.stream a
    → (st : Stands l s w r.frame.stream a) → IsStill r.frame
    → SeesLink (read_link r l s) (frame_read_on r s l)
    (record w { queue = sealed w.queue; live = slice_set w.live st.index (record st.stream { credit = st.stream.credit +ℤ pos (increment r.frame.payload) }); read = read_after w.read (9 + length r.frame.payload) }) g
    → Follows (read_link r l s) (frame_read_on r s l) a r.frame.stream GoesOn
    (record w { live = live_after st.index e w.live; queue = queue_after r.frame.stream e (sealed w.queue); read = read_after w.read (9 + length r.frame.payload) }) g
    → Follows (read_link r l s) (frame_read_on r s l) a r.frame.stream (if z then Ends (Some protocol_error) else if b then Ends (Some flow_control_error) else GoesOn)
    (record w {
      live = live_after st.index (unless (if z then Some protocol_error else if b then Some flow_control_error else None) e) w.live;
      queue = queue_after r.frame.stream (unless (if z then Some protocol_error else if b then Some flow_control_error else None) e) (sealed w.queue);
      read = read_after w.read (9 + length r.frame.payload);
    }) g
update_by l s w g r a e true b is comes on st still base goes = update_ends l s w g r a protocol_error is comes on st still base
update_by l s w g r a e false true is comes on st still base goes = update_ends l s w g r a flow_control_error is comes on st still base
update_by l s w g r a e false false is comes on st still base goes = goes

update_goes : (l : Link) (s : Seen) (w : Wire) (g : ℕ → Line) (r : ReadFrame) (a : Attempt) → SeesStreams l s w g → Comes l w r
    → (st : Stands l s w r.frame.stream a) → IsStill r.frame → (r.frame.kind == window_update_type) ≡ true
    → SeesLink (read_link r l s) (frame_read_on r s l)
    (record w { queue = sealed w.queue; live = slice_set w.live st.index (record st.stream { credit = st.stream.credit +ℤ pos (increment r.frame.payload) }); read = read_after w.read (9 + length r.frame.payload) }) g
    → Follows (read_link r l s) (frame_read_on r s l) a r.frame.stream GoesOn
    (record w { queue = sealed w.queue; live = slice_set w.live st.index (record st.stream { credit = st.stream.credit +ℤ pos (increment r.frame.payload) }); read = read_after w.read (9 + length r.frame.payload) }) g
update_goes l s w g r a is comes st still kind base =
    let f : FrameSeen = r.frame in
    let n : ℕ = f.stream in
    let x : LiveStream = record st.stream { credit = st.stream.credit +ℤ pos (increment f.payload) } in
    let v : Wire = record w { queue = sealed w.queue; live = slice_set w.live st.index x; read = read_after w.read (9 + length f.payload) } in
    let p : Response = response_of l s n a in
    let limit : ℕ = limit_of_attempt a s in
    let no_reset : (f.kind == rst_stream_type) ≡ false = not_kind f.kind window_update_type rst_stream_type false (eqb-true f.kind window_update_type kind) refl in
    let own : with_own_frame limit p f ≡ with_update p (increment f.payload)
    = if_false (f.kind == data_type) (with_data limit p f) _ still.no_data
    ∙ if_false (f.kind == rst_stream_type) (with_reset p (reset_code f.payload)) _ no_reset
    ∙ if_true (f.kind == window_update_type) (with_update p (increment f.payload)) p kind in
    let same = still_response l s w r a comes st still ∙ own in
    read_on l s w v g r a x is comes st still.no_goaway st.live.tag st.number refl refl (still_block l s w g f is still) base
    (λ ends. st.handled.head ∙ ap (λ (k : ℕ). is_some (response_of l s k a).head) st.number ∙ ap (λ o. is_some o) (sym (update_head p (increment f.payload)))
    ∙ ap (λ (z : Response). is_some z.head) (sym same))

pub updates_are_read : UpdatesAreRead
updates_are_read l s w g r a is comes on kind =
    let f : FrameSeen = r.frame in
    let n : ℕ = f.stream in
    let by : ℕ = increment f.payload in
    let e : f.kind ≡ window_update_type = eqb-true f.kind window_update_type kind in
    let still : IsStill f = of_kind f window_update_type e refl refl refl refl refl refl in
    let st : Stands l s w n a = stands l s w g n a is on in
    let y : LiveStream = st.stream in
    let x : LiveStream = record y { credit = y.credit +ℤ pos by } in
    let seen : ℕ = read_after w.read (9 + length f.payload) in
    let v0 : Wire = record w { queue = sealed w.queue } in
    let m : Link = read_link r l s in
    let some : (n == 0) ≡ false = subst (λ (k : ℕ). (k == 0) ≡ false) st.number st.live.some in
    let base = still_base l s w g r a x is comes st still (raises_none (f.kind == window_update_type) (n == 0) by some) refl refl
    (live_raised l r (owed_for f l s) 1 (2 * w.opened + 1) st.index w.live (by_stream (streaming_on l s)) y kind (sym st.number) is.sees.opened st.there is.sees.sees.live) in
    let wide : int_lt (pos largest_window) (send_window w.initial y +ℤ pos by) ≡ is_too_wide l n by = wide_same l s w n by a st is.sees.sees.reads.initial in
    let plain : Report = record { wire = v0; news = [] } in
    let reset_ : Report = reset_reported v0 (reset_code f.payload) seen (found_from (is_numbered n) 0 w.live) in
    let no_reset : (f.kind == rst_stream_type) ≡ false = not_kind f.kind window_update_type rst_stream_type false e refl in
    let on_link_ : Report = record { wire = record v0 { window = min (w.window + by) 4294967295 }; news = [] } in
    let update_is : (if f.kind == rst_stream_type then reset_ else if f.kind == window_update_type then update_reported v0 f seen else plain) ≡ window_reported v0 by seen (Some (st.index, y))
    = if_false (f.kind == rst_stream_type) reset_ (if f.kind == window_update_type then update_reported v0 f seen else plain) no_reset
    ∙ if_true (f.kind == window_update_type) (update_reported v0 f seen) plain kind
    ∙ if_false (n == 0) on_link_ (window_reported v0 by seen (found_from (is_numbered n) 0 w.live)) some
    ∙ ap (λ (o : Option (ℕ × LiveStream)). window_reported v0 by seen o) st.found in
    let reported_is : reported w f ≡ outcome w seen (Ok (window_reported v0 by seen (Some (st.index, y))))
    = still_reported w f comes.fair still ∙ ap (λ (t : Report). outcome w seen (Ok t)) update_is in
    let T : Wire → Type 0 = λ k. Follows m (frame_read l.number r s) a n (update_then by (is_too_wide l n by)) k g in
    let W : Seen → Type 0 = λ z. Follows m z a n (update_then by (is_too_wide l n by)) (outcome w seen (Ok (window_reported v0 by seen (Some (st.index, y))))).wire g in
    let B : Bool → Type 0 = λ b. Follows m (frame_read_on r s l) a n (update_then by b)
    (record w { live = live_after st.index (window_effect w.initial y by) w.live; queue = queue_after y.number (window_effect w.initial y by) (sealed w.queue); read = seen }) g in
    let N : ℕ → Type 0 = λ k. Follows m (frame_read_on r s l) a n (update_then by (int_lt (pos largest_window) (send_window w.initial y +ℤ pos by)))
    (record w { live = live_after st.index (window_effect w.initial y by) w.live; queue = queue_after k (window_effect w.initial y by) (sealed w.queue); read = seen }) g in
    subst T (sym (ap (λ (t : Report). t.wire) reported_is))
    (subst W (sym (read_is l s r is.sees.at))
    (subst B wide (subst N (sym st.number)
    (update_by l s w g r a _ (by == 0) (int_lt (pos largest_window) (send_window w.initial y +ℤ pos by)) is comes on st still base (update_goes l s w g r a is comes st still kind base)))))
