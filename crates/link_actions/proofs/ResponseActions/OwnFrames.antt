-- The frames of an attempt's stream, one kind after the other.
use Rattle.std.proofs.Common.{◌≡◌, ◌∷◌, ◌||◌, ◌==◌, not, ap, arith, refl, subst, sym, ◌∙◌, Bool, true, false, List, [], Option, None, Some, ℕ, ◌+◌, is_none, is_some, length}
use Rattle.std.proofs.lemmas.Bool.{eqb-true}
use Rattle.std.proofs.lemmas.Bool.Decides.{nat_tests}
use Rattle.attempt_ledger.specs.declared.row.RowCause.TheVariants as cause
use Rattle.grpc_base.specs.ErrorCodes.{protocol_error}
use Rattle.grpc_base.specs.declared.code.Code.TheVariants as code
use Rattle.grpc_link.specs.Links.{reader_in, reported_all}
use Rattle.grpc_link.specs.Readers.{ReaderSeen, Stepped, stepped}
use Rattle.grpc_link.specs.declared.readers.TagReader.{TagReader}
use Rattle.h2_frame.specs.Frames.{FrameSeen, has_flag}
use Rattle.h2_frame.specs.Numbers.{continuation_type, data_type, end_stream_flag, goaway_type, headers_type, ping_type, rst_stream_type, settings_type, window_update_type}
use Rattle.h2_frame.specs.Payloads.{content_of, increment, reset_code}
use Rattle.h2_link.specs.Feeds.{Line}
use Rattle.h2_link.specs.Steps.{read_after, reported}
use Rattle.h2_link.specs.Wire.{Wire}
use Rattle.h2_link.specs.declared.news.LinkNews.{LinkNews}
use Rattle.h2_link.specs.declared.news.LinkNews.TheVariants as report
use Rattle.link_actions.proofs.Receiving.{not_kind, of_settings}
use Rattle.link_actions.proofs.Lists.{if_false, if_true}
use Rattle.link_actions.specs.Sees.{NumbersAreDistinct}
use Rattle.link_actions.proofs.ResponseActions.Codes.{HasCode, code_for, data_code, data_done, made_code}
use Rattle.link_actions.proofs.ResponseActions.Found.{IsReported, tags}
use Rattle.link_actions.proofs.ResponseActions.Frames.{HasReader, has_reader, is_frame_reported, none_reported, one_reported, seen_same, start}
use Rattle.link_actions.proofs.ResponseActions.Steps.{GoesOn, IsStep, data_reported, fault_reported, nothing_gained, reset_reported, the_reader}
use Rattle.link_actions.proofs.ResponseActions.Report.{ReportsThat, data_list, data_reports, is_end, other_reports, part_reports, reset_reports}
use Rattle.link_actions.specs.ResponseActions.Gained.{is_done}
use Rattle.link_actions.specs.ResponseActions.Laws.{DataIsReported, IsFrameReported, OthersAreReported, PartsAreReported, ResetsAreReported, frame_reported, seen_at}
use Rattle.link_actions.specs.ResponseActions.Readers.{SeesReaders}
use Rattle.session_actions.specs.Links.{has_written_end}
use Rattle.session_actions.specs.Reading.{block_with, is_last_of_block, is_of_block, open_block}
use Rattle.session_actions.specs.Responses.{ended, limit_of_attempt, plain_end, with_data, with_own_frame, with_reset, with_stream_frame, with_update}
use Rattle.session_actions.specs.Writing.{frame_read, frame_read_on, owed_for}
use Rattle.session_actions.specs.declared.attempt.Attempt.{Attempt}
use Rattle.session_actions.specs.declared.link.Block.{Block}
use Rattle.session_actions.specs.declared.link.Link.{Link}
use Rattle.session_actions.specs.declared.link.ReadFrame.{ReadFrame}
use Rattle.session_actions.specs.declared.response.Outcome.{Outcome}
use Rattle.session_actions.specs.declared.response.Response.{Response}
use Rattle.session_actions.specs.declared.seen.Seen.{Seen}
use Rattle.link_actions.proofs.StreamActions.BlockReported.{IsHeld, IsLast, is_held, is_of, last_is, more_is}
use Rattle.link_actions.proofs.StreamActions.Closes.{goes_open}
use Rattle.link_actions.proofs.StreamActions.DataRead.{data_is_read, own_data}
use Rattle.link_actions.proofs.StreamActions.HeadersRead.{IsPart, is_part, none_of_some, own_response, parts_are_read}
use Rattle.link_actions.proofs.StreamActions.PlainRead.{AreNot, IsStill, of_kind, others_are_read, resets_are_read, still_response}
use Rattle.link_actions.proofs.StreamActions.Responses.{response_own}
use Rattle.link_actions.proofs.StreamActions.StreamGoes.{Stands, fair_rules, stands}
use Rattle.link_actions.proofs.StreamActions.StreamRead.{read_is}
use Rattle.link_actions.proofs.StreamActions.Unreceived.{no_list}
use Rattle.link_actions.specs.StreamActions.Laws.{Comes, Ends, EndsAlike, EndsAs, Follows, IsOn, Then, block_then, closed_code, data_then, is_passed_over, read_link}
use Rattle.link_actions.specs.StreamActions.Laws as stream
use Rattle.link_actions.specs.StreamActions.Sees.{SeesStreams, response_of}

-- the response before it
pub goes_of : (l : Link) (s : Seen) (w : Wire) (n : ℕ) (a : Attempt) → (st : Stands l s w n a) → GoesOn (response_of l s n a)
goes_of l s w n a st = record {
  goes = ap (λ (k : ℕ). (response_of l s k a).end) (sym st.number) ∙ st.handled.goes;
  small = ap (λ (k : ℕ). (response_of l s k a).large) (sym st.number) ∙ st.handled.small;
}

pub open_of : (l : Link) (s : Seen) (n : ℕ) (a : Attempt) → GoesOn (response_of l s n a) → (response_of l s n a).closes ≡ false
open_of l s n a is = goes_open (limit_of_attempt a s) n l.traffic is.goes is.small

-- in the session's own words of the frame that is read
pub in_session : (l : Link) (s : Seen) (w : Wire) (g : ℕ → Line) (readers : List TagReader) (r : ReadFrame) (a : Attempt) → SeesStreams l s w g
    → IsFrameReported l s (read_link r l s) (frame_read_on r s l) (frame_reported w readers r.frame) g r.frame.stream (seen_at r) a
    → IsFrameReported l s (read_link r l s) (frame_read l.number r s) (frame_reported w readers r.frame) g r.frame.stream (seen_at r) a
in_session l s w g readers r a is done =
    subst (λ (u : Seen). IsFrameReported l s (read_link r l s) u (frame_reported w readers r.frame) g r.frame.stream (seen_at r) a) (sym (read_is l s r is.sees.at)) done

pub follows_on : (l : Link) (s : Seen) (w : Wire) (g : ℕ → Line) (r : ReadFrame) (a : Attempt) (th : Then) → SeesStreams l s w g
    → Follows (read_link r l s) (frame_read l.number r s) a r.frame.stream th (reported w r.frame).wire g → Follows (read_link r l s) (frame_read_on r s l) a r.frame.stream th (reported w r.frame).wire g
follows_on l s w g r a th is done = subst (λ (u : Seen). Follows (read_link r l s) u a r.frame.stream th (reported w r.frame).wire g) (read_is l s r is.sees.at) done

-- no frame of the stream itself is
pub quiescent_step : (limit tag seen : ℕ) (p : Response) → GoesOn p → IsStep limit tag seen true (record { reader = the_reader true limit p; news = [] }) p p
quiescent_step limit tag seen p is = record {
  news = sym (nothing_gained tag seen p p is refl refl);
  over = sym (ap (λ (o : Option Outcome). is_some o || p.large) is.goes ∙ is.small);
  opened_is = refl;
  reads = λ goes. record { head = refl; over = refl; limit_is = refl; rest = refl; whole = refl };
}

pub not_done : (p : Response) → GoesOn p → is_done p ≡ true → ⊥
not_done p is e = (let no : false ≡ true = sym (ap (λ (o : Option Outcome). is_some o || p.large) is.goes ∙ is.small) ∙ e in let out : ⊥ = (cc) in out)

pub quiescent_reported : (l : Link) (s : Seen) (w : Wire) (g : ℕ → Line) (readers : List TagReader) (r : ReadFrame) (a : Attempt) → SeesStreams l s w g → SeesReaders l s readers
    → IsOn l s r.frame.stream a → l.over ≡ None → (st : Stands l s w r.frame.stream a) → (r.frame.kind == goaway_type) ≡ false
    → response_of (read_link r l s) (frame_read_on r s l) r.frame.stream a ≡ response_of l s r.frame.stream a
    → Follows (read_link r l s) (frame_read_on r s l) a r.frame.stream stream.GoesOn (reported w r.frame).wire g → ReportsThat w st.index (reported w r.frame) [] false
    → IsFrameReported l s (read_link r l s) (frame_read_on r s l) (frame_reported w readers r.frame) g r.frame.stream (seen_at r) a
quiescent_reported l s w g readers r a is reads on over st plain after follows reports_that =
    let n : ℕ = r.frame.stream in
    let p : Response = response_of l s n a in
    let limit : ℕ = limit_of_attempt a s in
    let going : GoesOn p = goes_of l s w n a st in
    let has : HasReader l s readers n a = has_reader l s readers n a reads is.sees.at on in
    let x : ReaderSeen = the_reader true limit p in
    let t : Stepped = record { reader = x; news = [] } in
    let none : List LinkNews = [] in
    is_frame_reported l s w g readers r a stream.GoesOn t p none (is_done p) refl (record {
      sees = is;
      reads = reads;
      on = on;
      stands = st;
      plain = plain;
      open_ = over;
      after = after;
      step = quiescent_step limit a.place (seen_at r) p going;
      reported_ = none_reported (reported w r.frame).wire readers a.place x (reported w r.frame).news refl reads.distinct (has.there ∙ ap (λ (y : ReaderSeen). Some y) has.is) reports_that.news_are;
      follows = follows;
      reports_that = reports_that;
      ends = λ never. absurd (let no : ⊥ = (cc) in no);
      code = λ done. absurd (not_done p going done);
    })

-- DATA
pub record DataReported (w : Wire) (readers : List TagReader) (f : FrameSeen) (tag limit seen : ℕ) (p : Response) (ns : List LinkNews) (v : Wire) : Type 0 where
  pub step_ : Stepped
  pub is_step : IsStep limit tag seen true step_ p (with_data limit p f)
  pub is_reported : IsReported (start v readers) tag step_ (reported_all (start v readers) ns)

data_reported_by : (w : Wire) (readers : List TagReader) (f : FrameSeen) (tag limit seen : ℕ) (p : Response) (x : ReaderSeen) (h : Bool) (ns : List LinkNews) (v : Wire)
    → GoesOn p → is_some p.head ≡ h → x ≡ the_reader true limit p → NumbersAreDistinct (tags readers) → reader_in tag readers ≡ Some x → ns ≡ data_list h f tag seen
    → DataReported w readers f tag limit seen p ns v
data_reported_by w readers f tag limit seen p x false ns v is head same all there e =
    let t : Stepped = stepped (the_reader true limit p) tag (report.Fault tag protocol_error seen) in
    let o : Outcome = plain_end code.Internal cause.Framing false (Some protocol_error) in
    let opened : Bool = true in
    record {
      step_ = t;
      is_step = subst (IsStep limit tag seen opened t p) (sym (if_true (is_none p.head) (ended o p) _ (none_of_some p.head false head)))
          (fault_reported limit tag tag seen protocol_error opened p (Some protocol_error) is);
      is_reported = one_reported v readers tag (the_reader true limit p) (report.Fault tag protocol_error seen) ns (λ g. refl) all (there ∙ ap (λ (y : ReaderSeen). Some y) same) e;
    }
data_reported_by w readers f tag limit seen p x true ns v is head same all there e =
    let n : LinkNews = report.Data tag (content_of f) (has_flag f.flags end_stream_flag) seen in
    let opened : Bool = true in
    record {
      step_ = stepped (the_reader true limit p) tag n;
      is_step = data_reported limit tag tag seen opened p f is head;
      is_reported = one_reported v readers tag (the_reader true limit p) n ns (λ g. refl) all (there ∙ ap (λ (y : ReaderSeen). Some y) same) e;
    }

pub data_is_reported : DataIsReported
data_is_reported l s w g readers r a is reads comes on over data_ =
    let f : FrameSeen = r.frame in
    let n : ℕ = f.stream in
    let kind : f.kind ≡ data_type = eqb-true f.kind data_type data_ in
    let st : Stands l s w n a = stands l s w g n a is on in
    let p : Response = response_of l s n a in
    let limit : ℕ = limit_of_attempt a s in
    let going : GoesOn p = goes_of l s w n a st in
    let h : Bool = is_some p.head in
    let b : Bool = has_flag f.flags end_stream_flag in
    let we : Bool = has_written_end n l in
    let th : Then = data_then h we b in
    let plain : (f.kind == goaway_type) ≡ false = not_kind f.kind data_type goaway_type false kind refl in
    let off : is_of_block f ≡ false
    = ap (λ (c : Bool). c || (f.kind == continuation_type)) (not_kind f.kind data_type headers_type false kind refl) ∙ not_kind f.kind data_type continuation_type false kind refl in
    let own : (n == n) ≡ true = grind (arith, nat_tests) in
    let after : response_of (read_link r l s) (frame_read_on r s l) n a ≡ with_data limit p f
    = response_own limit n l r (owed_for f l s) going.goes going.small (of_settings f.kind f.flags (not_kind f.kind data_type settings_type false kind refl)) plain own
    ∙ own_data limit p f r.block (no_list l r off comes.next) kind in
    let known : st.stream.head ≡ h = st.handled.head ∙ ap (λ (k : ℕ). is_some (response_of l s k a).head) st.number in
    let seen : read_after w.read (9 + length f.payload) ≡ seen_at r = seen_same l w r is.sees.sees.reads.read comes.end in
    let reports_that : ReportsThat w st.index (reported w f) (data_list h f a.place (seen_at r)) (is_end th)
    = subst (λ (k : ℕ). ReportsThat w st.index (reported w f) (data_list h f a.place k) (is_end th)) seen
    (subst (λ (k : ℕ). ReportsThat w st.index (reported w f) (data_list h f k (read_after w.read (9 + length f.payload))) (is_end th)) st.live.tag
    (data_reports w f st.index st.stream we h comes.fair kind st.found known)) in
    let has : HasReader l s readers n a = has_reader l s readers n a reads is.sees.at on in
    let t : DataReported w readers f a.place limit (seen_at r) p (reported w f).news (reported w f).wire
    = data_reported_by w readers f a.place limit (seen_at r) p has.reader h (reported w f).news (reported w f).wire going refl has.is reads.distinct has.there reports_that.news_are in
    in_session l s w g readers r a is
    (is_frame_reported l s w g readers r a th t.step_ (with_data limit p f) (data_list h f a.place (seen_at r)) (is_done (with_data limit p f)) refl (record {
      sees = is;
      reads = reads;
      on = on;
      stands = st;
      plain = plain;
      open_ = over;
      after = after;
      step = t.is_step;
      reported_ = t.is_reported;
      follows = follows_on l s w g r a th is (data_is_read l s w g r a is comes on data_);
      reports_that = reports_that;
      ends = λ e. data_done limit p f we h b going.goes refl refl e;
      code = λ done. data_code limit p f we h going.goes going.small (open_of l s n a going) refl done;
    }))

pub resets_are_reported : ResetsAreReported
resets_are_reported l s w g readers r a is reads comes on over kind_ =
    let f : FrameSeen = r.frame in
    let n : ℕ = f.stream in
    let kind : f.kind ≡ rst_stream_type = eqb-true f.kind rst_stream_type kind_ in
    let st : Stands l s w n a = stands l s w g n a is on in
    let p : Response = response_of l s n a in
    let limit : ℕ = limit_of_attempt a s in
    let going : GoesOn p = goes_of l s w n a st in
    let we : Bool = has_written_end n l in
    let none : Option ℕ = None in
    let th : Then = Ends none in
    let still : IsStill f = of_kind f rst_stream_type kind refl refl refl refl refl refl in
    let own : with_own_frame limit p f ≡ with_reset p (reset_code f.payload)
    = if_false (f.kind == data_type) (with_data limit p f) _ still.no_data ∙ if_true (f.kind == rst_stream_type) (with_reset p (reset_code f.payload)) _ kind_ in
    let seen : read_after w.read (9 + length f.payload) ≡ seen_at r = seen_same l w r is.sees.sees.reads.read comes.end in
    let ns : List LinkNews = report.Reset a.place (reset_code f.payload) (seen_at r) ∷ [] in
    let reports_that : ReportsThat w st.index (reported w f) ns true
    = subst (λ (k : ℕ). ReportsThat w st.index (reported w f) (report.Reset a.place (reset_code f.payload) k ∷ []) true) seen
    (subst (λ (k : ℕ). ReportsThat w st.index (reported w f) (report.Reset k (reset_code f.payload) (read_after w.read (9 + length f.payload)) ∷ []) true) st.live.tag
    (reset_reports w f st.index st.stream comes.fair kind st.found)) in
    let has : HasReader l s readers n a = has_reader l s readers n a reads is.sees.at on in
    let x : ReaderSeen = the_reader true limit p in
    let opened : Bool = true in
    let report_ : LinkNews = report.Reset a.place (reset_code f.payload) (seen_at r) in
    in_session l s w g readers r a is
    (is_frame_reported l s w g readers r a th (stepped x a.place report_) (with_reset p (reset_code f.payload)) ns true refl (record {
      sees = is;
      reads = reads;
      on = on;
      stands = st;
      plain = still.no_goaway;
      open_ = over;
      after = still_response l s w r a comes st still ∙ own;
      step = reset_reported limit a.place a.place (seen_at r) (reset_code f.payload) opened p going;
      reported_ = one_reported (reported w f).wire readers a.place x report_ (reported w f).news (λ g. refl) reads.distinct (has.there ∙ ap (λ (y : ReaderSeen). Some y) has.is) reports_that.news_are;
      follows = follows_on l s w g r a th is (resets_are_read l s w g r a is comes on kind_);
      reports_that = reports_that;
      ends = λ e. refl;
      code = λ done. made_code we _ p none refl;
    }))

-- frames that are passed over
are_not : (a b c d e f g h : Bool) → not (a || b || c || d || e || f || g || h) ≡ true → AreNot a b c d e f g h
are_not false false false false false false false false e_ = record { one = refl; two = refl; three = refl; four = refl; five = refl; six = refl; seven = refl; eight = refl }
are_not true b c d e f g h e_ = absurd (cc)
are_not false true c d e f g h e_ = absurd (cc)
are_not false false true d e f g h e_ = absurd (cc)
are_not false false false true e f g h e_ = absurd (cc)
are_not false false false false true f g h e_ = absurd (cc)
are_not false false false false false true g h e_ = absurd (cc)
are_not false false false false false false true h e_ = absurd (cc)
are_not false false false false false false false true e_ = absurd (cc)

pub others_are_reported : OthersAreReported
others_are_reported l s w g readers r a is reads comes on over passed =
    let f : FrameSeen = r.frame in
    let n : ℕ = f.stream in
    let no = are_not (f.kind == data_type) (f.kind == headers_type) (f.kind == rst_stream_type) (f.kind == settings_type) (f.kind == ping_type) (f.kind == goaway_type) (f.kind == window_update_type) (f.kind == continuation_type) passed in
    let still : IsStill f = record {
      no_data = no.one;
      no_settings = no.four;
      no_ping = no.five;
      no_goaway = no.six;
      no_headers = no.two;
      no_continuation = no.eight;
    } in
    let st : Stands l s w n a = stands l s w g n a is on in
    let p : Response = response_of l s n a in
    let limit : ℕ = limit_of_attempt a s in
    let same : response_of (read_link r l s) (frame_read_on r s l) n a ≡ p
    = still_response l s w r a comes st still ∙ if_false (f.kind == data_type) (with_data limit p f) _ no.one
    ∙ if_false (f.kind == rst_stream_type) (with_reset p (reset_code f.payload)) _ no.three ∙ if_false (f.kind == window_update_type) (with_update p (increment f.payload)) p no.seven in
    in_session l s w g readers r a is
    (quiescent_reported l s w g readers r a is reads on over st still.no_goaway same (follows_on l s w g r a stream.GoesOn is (others_are_read l s w g r a is comes on passed))
    (other_reports w f st.index comes.fair still no.three no.seven))

-- a part of a header block
some_none : (x : Block) → Some x ≡ None → ⊥
some_none x e = (cc)

held_by : (l : Link) (s : Seen) (w : Wire) (g : ℕ → Line) (r : ReadFrame) (b : Bool) → is_last_of_block r.frame ≡ b → SeesStreams l s w g → Comes l w r → is_of_block r.frame ≡ true
    → r.block ≡ None → IsHeld w r.frame (read_after w.read (9 + length r.frame.payload))
held_by l s w g r true last is comes of_b none =
    let x : IsLast l (block_with (open_block l) r.frame) r = last_is l r of_b last comes.next in
    absurd (some_none (record { fields = x.fields; ends = (block_with (open_block l) r.frame).ends }) (sym x.block ∙ none))
held_by l s w g r false last is comes of_b none =
    let seen : ℕ = read_after w.read (9 + length r.frame.payload) in
    let short = more_is l r of_b last comes.next in
    is_held w r.frame (block_with (open_block l) r.frame) seen last
    (is_of l w r.frame seen is.sees.sees.reads of_b (fair_rules w r.frame comes.fair).placed) short.0

pub parts_are_reported : PartsAreReported
parts_are_reported l s w g readers r a is reads comes on over part_ =
    let f : FrameSeen = r.frame in
    let n : ℕ = f.stream in
    let part : IsPart f = is_part f part_.0 in
    let st : Stands l s w n a = stands l s w g n a is on in
    let p : Response = response_of l s n a in
    let limit : ℕ = limit_of_attempt a s in
    let own : with_own_frame limit p f ≡ p
    = if_false (f.kind == data_type) (with_data limit p f) _ part.no_data ∙ if_false (f.kind == rst_stream_type) (with_reset p (reset_code f.payload)) _ part.no_reset
    ∙ if_false (f.kind == window_update_type) (with_update p (increment f.payload)) p part.no_update in
    let same : response_of (read_link r l s) (frame_read_on r s l) n a ≡ p
    = own_response l s w r a st part ∙ ap (λ (o : Option Block). with_stream_frame limit p f o) part_.1 ∙ own in
    in_session l s w g readers r a is
    (quiescent_reported l s w g readers r a is reads on over st part.no_goaway same (follows_on l s w g r a stream.GoesOn is (parts_are_read l s w g r a is comes on part_.0 part_.1))
    (part_reports w f st.index comes.fair (held_by l s w g r (is_last_of_block f) refl is comes part_.0 part_.1)))
