-- WINDOW_UPDATE of an attempt's stream: what is reported, and the code where it breaks a rule.
use Rattle.std.proofs.Common.{◌≡◌, ◌||◌, ◌==◌, ap, arith, refl, subst, sym, ◌∙◌, Bool, true, false, List, [], Option, Some, ℕ, ℤ, pos, ◌+ℤ◌, ◌+◌, if◌then◌else◌, int_lt, is_some, length, nat_lt}
use Rattle.std.proofs.lemmas.Bool.{eqb-true}
use Rattle.std.proofs.lemmas.Bool.Decides.{nat_tests}
use Rattle.std.proofs.lemmas.Int.{ints}
use Rattle.attempt_ledger.specs.declared.row.RowCause.TheVariants as cause
use Rattle.grpc_base.specs.ErrorCodes.{flow_control_error, protocol_error}
use Rattle.grpc_base.specs.declared.code.Code.TheVariants as code
use Rattle.grpc_link.specs.Links.{reader_in, reported_all}
use Rattle.grpc_link.specs.Readers.{ReaderSeen, Stepped, stepped}
use Rattle.grpc_link.specs.declared.readers.TagReader.{TagReader}
use Rattle.h2_frame.specs.Frames.{FrameSeen}
use Rattle.h2_frame.specs.Numbers.{data_type, rst_stream_type, window_update_type}
use Rattle.h2_frame.specs.Payloads.{increment, reset_code}
use Rattle.h2_link.specs.LinkErrors.{send_window}
use Rattle.h2_link.specs.Steps.{read_after, reported}
use Rattle.h2_link.specs.Wire.{Wire}
use Rattle.h2_link.specs.declared.news.LinkNews.{LinkNews}
use Rattle.h2_link.specs.declared.news.LinkNews.TheVariants as report
use Rattle.link_actions.proofs.Receiving.{not_kind}
use Rattle.link_actions.proofs.Lists.{if_false, if_true}
use Rattle.link_actions.specs.Sees.{NumbersAreDistinct}
use Rattle.link_actions.proofs.ResponseActions.Codes.{HasCode, code_of, framing_code}
use Rattle.link_actions.proofs.ResponseActions.Found.{IsReported, tags}
use Rattle.link_actions.proofs.ResponseActions.Frames.{HasReader, has_reader, is_frame_reported, none_reported, one_reported, seen_same, start}
use Rattle.link_actions.proofs.ResponseActions.OwnFrames.{follows_on, goes_of, in_session, not_done, open_of}
use Rattle.link_actions.proofs.ResponseActions.Steps.{GoesOn, IsStep, fault_reported, nothing_gained, the_reader}
use Rattle.link_actions.proofs.ResponseActions.Report.{ReportsThat, is_end, update_list, update_reports}
use Rattle.link_actions.proofs.ResponseActions.Windows.{AreWindows, windows_are}
use Rattle.link_actions.specs.ResponseActions.Gained.{is_done}
use Rattle.link_actions.specs.ResponseActions.Laws.{UpdatesAreReported, seen_at}
use Rattle.session_actions.specs.Links.{has_written_end}
use Rattle.session_actions.specs.Reading.{initial_window, largest_window, raised, used}
use Rattle.session_actions.specs.Responses.{ended, limit_of_attempt, plain_end, with_data, with_own_frame, with_reset, with_update}
use Rattle.session_actions.specs.declared.attempt.Attempt.{Attempt}
use Rattle.session_actions.specs.declared.link.Link.{Link}
use Rattle.session_actions.specs.declared.response.Outcome.{Outcome}
use Rattle.session_actions.specs.declared.response.Response.{Response}
use Rattle.session_actions.specs.declared.seen.Seen.{Seen}
use Rattle.link_actions.proofs.StreamActions.PlainRead.{IsStill, of_kind, still_response, updates_are_read}
use Rattle.link_actions.proofs.StreamActions.StreamGoes.{Stands, stands}
use Rattle.link_actions.specs.StreamActions.Laws.{Ends, GoesOn as Continues, Then, is_too_wide, update_then}
use Rattle.link_actions.specs.StreamActions.Sees.{response_of}

-- whether it is too wide
wide_by : (c : ℤ) (initial by used_ raised_ : ℕ) → c +ℤ pos used_ ≡ pos raised_
    → int_lt (pos 2147483647) ((pos initial +ℤ c) +ℤ pos by) ≡ nat_lt (2147483647 + used_) (initial + raised_ + by)
wide_by c initial by used_ raised_ e = grind (arith, ints, nat_tests, e)

wide_same : (l : Link) (s : Seen) (w : Wire) (n by : ℕ) (a : Attempt) (st : Stands l s w n a) → w.initial ≡ initial_window l
    → int_lt (pos largest_window) (send_window w.initial st.stream +ℤ pos by) ≡ is_too_wide l n by
wide_same l s w n by a st initial =
    wide_by st.stream.credit w.initial by (used st.stream.number l) (raised st.stream.number l) st.live.credit
    ∙ ap (λ (k : ℕ). nat_lt (largest_window + used st.stream.number l) (k + raised st.stream.number l + by)) initial
    ∙ ap (λ (k : ℕ). nat_lt (largest_window + used k l) (initial_window l + raised k l + by)) st.number

wide_is : (k : ℕ) (l : Link) (p : Response) (by : ℕ) → AreWindows k l p → nat_lt (largest_window + p.used) (p.initial + p.raised + by) ≡ is_too_wide l k by
wide_is k l p by is =
    ap (λ (n : ℕ). nat_lt (largest_window + n) (p.initial + p.raised + by)) is.used_
    ∙ ap (λ (n : ℕ). nat_lt (largest_window + used k l) (n + p.raised + by)) is.initial
    ∙ ap (λ (n : ℕ). nat_lt (largest_window + used k l) (initial_window l + n + by)) is.raised_

-- the response after it
abbrev updated : Response → ℕ → Bool → Bool → Response
updated p by z b =
    if z then ended (plain_end code.Internal cause.Framing false (Some protocol_error)) p
    else if b then ended (plain_end code.Internal cause.Framing false (Some flow_control_error)) p
    else record p { raised = p.raised + by }

update_done : (p : Response) (by : ℕ) (z b : Bool) → is_end (if z then Ends (Some protocol_error) else if b then Ends (Some flow_control_error) else Continues) ≡ true → is_done (updated p by z b) ≡ true
update_done p by true b e = refl
update_done p by false true e = refl
update_done p by false false e = absurd (let no : ⊥ = (cc) in no)

update_code : (we : Bool) (p : Response) (by : ℕ) (z b : Bool) → GoesOn p → p.closes ≡ false → is_done (updated p by z b) ≡ true
    → HasCode we (updated p by z b) (code_of (if z then Ends (Some protocol_error) else if b then Ends (Some flow_control_error) else Continues))
update_code we p by true b going open_ done = framing_code we (plain_end code.Internal cause.Framing false (Some protocol_error)) p refl open_
update_code we p by false true going open_ done = framing_code we (plain_end code.Internal cause.Framing false (Some flow_control_error)) p refl open_
update_code we p by false false going open_ done = absurd (not_done p going done)

-- what is reported
pub record UpdateReported (v : Wire) (readers : List TagReader) (tag limit seen : ℕ) (p q : Response) (ns : List LinkNews) : Type 0 where
  pub step_ : Stepped
  pub is_step : IsStep limit tag seen true step_ p q
  pub is_reported : IsReported (start v readers) tag step_ (reported_all (start v readers) ns)

reported_by : (v : Wire) (readers : List TagReader) (tag limit seen by : ℕ) (p : Response) (ns : List LinkNews) (z b : Bool) → GoesOn p → NumbersAreDistinct (tags readers)
    → reader_in tag readers ≡ Some (the_reader true limit p) → ns ≡ update_list z b tag seen → UpdateReported v readers tag limit seen p (updated p by z b) ns
reported_by v readers tag limit seen by p ns true b is all there e =
    let n : LinkNews = report.Fault tag protocol_error seen in
    let opened : Bool = true in
    record {
      step_ = stepped (the_reader true limit p) tag n;
      is_step = fault_reported limit tag tag seen protocol_error opened p (Some protocol_error) is;
      is_reported = one_reported v readers tag (the_reader true limit p) n ns (λ g. refl) all there e;
    }
reported_by v readers tag limit seen by p ns false true is all there e =
    let n : LinkNews = report.Fault tag flow_control_error seen in
    let opened : Bool = true in
    record {
      step_ = stepped (the_reader true limit p) tag n;
      is_step = fault_reported limit tag tag seen flow_control_error opened p (Some flow_control_error) is;
      is_reported = one_reported v readers tag (the_reader true limit p) n ns (λ g. refl) all there e;
    }
reported_by v readers tag limit seen by p ns false false is all there e =
    let q : Response = record p { raised = p.raised + by } in
    record {
      step_ = record { reader = the_reader true limit p; news = [] };
      is_step = record {
        news = sym (nothing_gained tag seen p q (record { goes = is.goes; small = is.small }) refl refl);
        over = sym (ap (λ (o : Option Outcome). is_some o || p.large) is.goes ∙ is.small);
        opened_is = refl;
        reads = λ goes. record { head = refl; over = refl; limit_is = refl; rest = refl; whole = refl };
      };
      is_reported = none_reported v readers tag (the_reader true limit p) ns refl all there e;
    }

pub updates_are_reported : UpdatesAreReported
updates_are_reported l s w g readers r a is reads comes on over case =
    let f : FrameSeen = r.frame in
    let n : ℕ = f.stream in
    let kind_ : (f.kind == window_update_type) ≡ true = case.0 in
    let kind : f.kind ≡ window_update_type = eqb-true f.kind window_update_type kind_ in
    let by : ℕ = increment f.payload in
    let st : Stands l s w n a = stands l s w g n a is on in
    let p : Response = response_of l s n a in
    let limit : ℕ = limit_of_attempt a s in
    let going : GoesOn p = goes_of l s w n a st in
    let some : (n == 0) ≡ false = subst (λ (k : ℕ). (k == 0) ≡ false) st.number st.live.some in
    let windows : AreWindows n l p = windows_are limit n l some case.1 going.goes going.small in
    let wide : Bool = is_too_wide l n by in
    let th : Then = update_then by wide in
    let we : Bool = has_written_end n l in
    let still : IsStill f = of_kind f window_update_type kind refl refl refl refl refl refl in
    let no_reset : (f.kind == rst_stream_type) ≡ false = not_kind f.kind window_update_type rst_stream_type false kind refl in
    let q : Response = updated p by (by == 0) wide in
    let own : with_own_frame limit p f ≡ q
    = if_false (f.kind == data_type) (with_data limit p f) _ still.no_data
    ∙ if_false (f.kind == rst_stream_type) (with_reset p (reset_code f.payload)) _ no_reset
    ∙ if_true (f.kind == window_update_type) (with_update p by) p kind_
    ∙ ap (λ (b : Bool). updated p by (by == 0) b) (wide_is n l p by windows) in
    let seen : read_after w.read (9 + length f.payload) ≡ seen_at r = seen_same l w r is.sees.sees.reads.read comes.end in
    let ns : List LinkNews = update_list (by == 0) wide a.place (seen_at r) in
    let reports_that : ReportsThat w st.index (reported w f) ns (is_end th)
    = subst (λ (k : ℕ). ReportsThat w st.index (reported w f) (update_list (by == 0) wide a.place k) (is_end th)) seen
    (subst (λ (k : ℕ). ReportsThat w st.index (reported w f) (update_list (by == 0) wide k (read_after w.read (9 + length f.payload))) (is_end th)) st.live.tag
    (update_reports w f st.index st.stream wide comes.fair kind some st.found (wide_same l s w n by a st is.sees.sees.reads.initial))) in
    let has : HasReader l s readers n a = has_reader l s readers n a reads is.sees.at on in
    let t : UpdateReported (reported w f).wire readers a.place limit (seen_at r) p q (reported w f).news
    = reported_by (reported w f).wire readers a.place limit (seen_at r) by p (reported w f).news (by == 0) wide going reads.distinct (has.there ∙ ap (λ (y : ReaderSeen). Some y) has.is) reports_that.news_are in
    in_session l s w g readers r a is
    (is_frame_reported l s w g readers r a th t.step_ q ns (is_done q) refl (record {
      sees = is;
      reads = reads;
      on = on;
      stands = st;
      plain = still.no_goaway;
      open_ = over;
      after = still_response l s w r a comes st still ∙ own;
      step = t.is_step;
      reported_ = t.is_reported;
      follows = follows_on l s w g r a th is (updates_are_read l s w g r a is comes on kind_);
      reports_that = reports_that;
      ends = λ e. update_done p by (by == 0) wide e;
      code = λ done. update_code we p by (by == 0) wide going (open_of l s n a going) done;
    }))
