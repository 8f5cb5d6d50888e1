-- A whole header block on an attempt's stream: what is reported.
use Rattle.std.proofs.Common.{◌≡◌, ◌∷◌, ◌||◌, ◌&&◌, not, ap, refl, subst, sym, ◌∙◌, Bool, true, false, List, [], Option, None, Some, ℕ, ◌+◌, if◌then◌else◌, is_none, is_some, length}
use Rattle.attempt_ledger.specs.declared.row.RowCause.TheVariants as cause
use Rattle.attempt_ledger.specs.declared.row.RowEnd.{RowEnd}
use Rattle.grpc_base.specs.ErrorCodes.{cancel}
use Rattle.grpc_link.specs.Links.{reader_in, reported_all}
use Rattle.grpc_link.specs.Readers.{ReaderSeen, stepped}
use Rattle.grpc_link.specs.declared.readers.TagReader.{TagReader}
use Rattle.grpc_meta.specs.ResponseFields.{shown_of}
use Rattle.h2_frame.specs.Frames.{FrameSeen}
use Rattle.h2_link.specs.Status as h2
use Rattle.h2_link.specs.Steps.{read_after, reported}
use Rattle.h2_link.specs.Wire.{Wire}
use Rattle.h2_link.specs.declared.news.LinkNews.{LinkNews}
use Rattle.h2_link.specs.declared.news.LinkNews.TheVariants as report
use Rattle.link_actions.proofs.Lists.{if_false, if_true}
use Rattle.link_actions.specs.Sees.{NumbersAreDistinct}
use Rattle.link_actions.proofs.ResponseActions.Codes.{HasCode, code_for, code_is, code_of, http_code_, of_law}
use Rattle.link_actions.proofs.ResponseActions.Found.{IsReported, tags}
use Rattle.link_actions.proofs.ResponseActions.Frames.{HasReader, IsOf, has_reader, is_frame_reported, one_reported, seen_same, start, two_reported}
use Rattle.link_actions.proofs.ResponseActions.Headless.{headless}
use Rattle.link_actions.proofs.ResponseActions.Kept.{link_here}
use Rattle.link_actions.proofs.ResponseActions.OwnFrames.{follows_on, goes_of, in_session, not_done, open_of}
use Rattle.link_actions.proofs.ResponseActions.Steps.{GoesOn, IsStep, block_reported, the_reader}
use Rattle.link_actions.proofs.ResponseActions.Report.{IsExtra, ReportsThat, ReportsBlock, block_reports, is_end}
use Rattle.link_actions.specs.ResponseActions.Gained.{is_done}
use Rattle.link_actions.specs.ResponseActions.Laws.{BlocksAreReported, seen_at}
use Rattle.session_actions.specs.AttemptEnds.{end_of}
use Rattle.session_actions.specs.Links.{has_written_end}
use Rattle.session_actions.specs.Reading.{is_last_of_block, is_of_block}
use Rattle.session_actions.specs.Responses.{block_end, ended, ended_by_block, http_code, http_status, is_head, is_interim, limit_of_attempt, with_block, with_head, with_stream_frame, with_trailers}
use Rattle.session_actions.specs.Words.{numbered}
use Rattle.session_actions.specs.Writing.{frame_read_on, owed_for}
use Rattle.session_actions.specs.declared.attempt.Attempt.{Attempt}
use Rattle.session_actions.specs.declared.link.Block.{Block}
use Rattle.session_actions.specs.declared.link.Link.{Link}
use Rattle.session_actions.specs.declared.link.ReadFrame.{ReadFrame}
use Rattle.session_actions.specs.declared.response.Outcome.{Outcome}
use Rattle.session_actions.specs.declared.response.Response.{Response}
use Rattle.session_actions.specs.declared.seen.Seen.{Seen}
use Rattle.link_actions.proofs.QuietKept.{ends_still}
use Rattle.link_actions.proofs.StreamActions.EndCodes.{blocks_end_alike}
use Rattle.link_actions.proofs.StreamActions.HeadersRead.{IsGot, IsPart, blocks_are_read, got_by, is_part, none_of_some, own_response, then_of}
use Rattle.link_actions.proofs.StreamActions.PlainRead.{on_after}
use Rattle.link_actions.proofs.StreamActions.StatusSame.{interim_same, status_same}
use Rattle.link_actions.proofs.StreamActions.StreamGoes.{Stands, stands}
use Rattle.link_actions.proofs.StreamActions.StreamRead.{read_is}
use Rattle.link_actions.specs.StreamActions.Laws.{Comes, Ends, EndsAlike, EndsAs, Follows, IsOn, Then, block_then, read_link}
use Rattle.link_actions.specs.StreamActions.Laws as stream
use Rattle.link_actions.specs.StreamActions.Sees.{response_of}

-- an end that is the session's has its code
pub law_code : (l : Link) (s : Seen) (r : ReadFrame) (a : Attempt) (n : ℕ) (q : Response) (number : Option ℕ) → numbered s.links l.number ≡ Some l → IsOn l s n a → l.over ≡ None
    → response_of (read_link r l s) (frame_read_on r s l) n a ≡ q → EndsAs (read_link r l s) (frame_read_on r s l) a n number → HasCode (has_written_end n l) q number
law_code l s r a n q number here on over same is =
    let m : Link = read_link r l s in
    let u : Seen = frame_read_on r s l in
    let end : q.end ≡ Some is.outcome = sym (ap (λ (x : Response). x.end) same) ∙ is.end in
    record {
      by_end = λ o e. (
          let one : Some is.outcome ≡ Some o = sym end ∙ e in
          let same_ : is.outcome ≡ o = (cc) in
          let row : RowEnd = end_of a o s in
          ap (λ (b : Bool). code_for o.cause b q) (sym (ends_still l r (owed_for r.frame l s) n))
          ∙ sym (code_is m u n a row q (link_here l s r here) (on_after l s r n a on) over same)
          ∙ is.resets row (ap (λ (x : Outcome). x.cause) (sym same_)));
      by_cut = λ none. absurd (let no : None ≡ Some is.outcome = sym none ∙ end in let out : ⊥ = (cc) in out);
    }

-- a head that is none, where the stream goes on
head_code : (we : Bool) (p : Response) (b : Block) (h : Bool) → is_head b.fields ≡ h → GoesOn p → p.closes ≡ false → is_done (with_head p b) ≡ true → HasCode we (with_head p b) (Some cancel)
head_code we p b true is going open_ done =
    let x : Outcome = block_end (http_code b.fields) cause.Http cancel b in
    let q : Response = record p { head = Some (shown_of b.fields) } in
    let same : with_head p b ≡ q = if_true (is_head b.fields) q (ended x p) is in
    absurd (not_done p going (sym (ap is_done same) ∙ done))
head_code we p b false is going open_ done =
    let x : Outcome = block_end (http_code b.fields) cause.Http cancel b in
    let q : Response = record p { head = Some (shown_of b.fields) } in
    let number : Option ℕ = Some cancel in
    let same : with_head p b ≡ ended x p = if_false (is_head b.fields) q (ended x p) is in
    subst (λ (z : Response). HasCode we z number) (sym same) (http_code_ we x p refl open_)

goes_by : (we : Bool) (p : Response) (b : Block) (hd im ends none : Bool) → GoesOn p → p.closes ≡ false
    → is_end (then_of hd im ends none we) ≡ false
    → is_done (if not hd && im then (if ends then ended_by_block b p else p) else if ends then with_trailers p b else if hd || none then ended_by_block b p else with_head p b) ≡ true
    → HasCode we (if not hd && im then (if ends then ended_by_block b p else p) else if ends then with_trailers p b else if hd || none then ended_by_block b p else with_head p b) (Some cancel)
goes_by we p b false true true none going open_ goes done = absurd (let no : ⊥ = (cc) in no)
goes_by we p b false true false none going open_ goes done = absurd (not_done p going done)
goes_by we p b false false true none going open_ goes done = absurd (let no : ⊥ = (cc) in no)
goes_by we p b true im true none going open_ goes done = absurd (let no : ⊥ = (cc) in no)
goes_by we p b true im false none going open_ goes done = absurd (let no : ⊥ = (cc) in no)
goes_by we p b false false false true going open_ goes done = absurd (let no : ⊥ = (cc) in no)
goes_by we p b false false false false going open_ goes done = head_code we p b (is_head b.fields) refl going open_ done

goes_code : (we : Bool) (p : Response) (b : Block) → GoesOn p → p.closes ≡ false → is_end (block_then (is_some p.head) (http_status b.fields) b.ends we) ≡ false
    → is_done (with_block p b) ≡ true → HasCode we (with_block p b) (Some cancel)
goes_code we p b going open_ goes done =
    let im : Bool = is_interim (http_status b.fields) in
    let none : Bool = is_none (http_status b.fields) in
    let number : Option ℕ = Some cancel in
    let same : with_block p b ≡ (if not (is_some p.head) && im then (if b.ends then ended_by_block b p else p) else if b.ends then with_trailers p b else if is_some p.head || none then ended_by_block b p else with_head p b)
    = ap (λ (c : Bool). if c && im then (if b.ends then ended_by_block b p else p)
    else if b.ends then with_trailers p b else if is_some p.head || none then ended_by_block b p else with_head p b) (none_of_some p.head (is_some p.head) refl) in
    subst (λ (q : Response). HasCode we q number) (sym same)
    (goes_by we p b (is_some p.head) im b.ends none going open_ goes (sym (ap is_done same) ∙ done))

block_code : (l : Link) (s : Seen) (r : ReadFrame) (a : Attempt) (n : ℕ) (p q : Response) (b : Block) (th : Then) → block_then (is_some p.head) (http_status b.fields) b.ends (has_written_end n l) ≡ th
    → numbered s.links l.number ≡ Some l → IsOn l s n a → l.over ≡ None → GoesOn p → p.closes ≡ false → q ≡ with_block p b
    → response_of (read_link r l s) (frame_read_on r s l) n a ≡ q → EndsAlike (read_link r l s) (frame_read_on r s l) a n th → is_done q ≡ true → HasCode (has_written_end n l) q (code_of th)
block_code l s r a n p q b (Ends number) is here on over going open_ q_is same law done = law_code l s r a n q number here on over same law
block_code l s r a n p q b stream.GoesOn is here on over going open_ q_is same law done =
    let number : Option ℕ = Some cancel in
    subst (λ (x : Response). HasCode (has_written_end n l) x number) (sym q_is)
    (goes_code (has_written_end n l) p b going open_ (ap is_end is) (sym (ap is_done q_is) ∙ done))

block_done : (l : Link) (s : Seen) (a : Attempt) (n : ℕ) (q : Response) (th : Then) → response_of l s n a ≡ q → EndsAlike l s a n th → is_end th ≡ true → is_done q ≡ true
block_done l s a n q (Ends number) same law e = ap is_done (sym same) ∙ of_law l s a n number law
block_done l s a n q stream.GoesOn same law e = absurd (let no : ⊥ = (cc) in no)

-- what is reported of it
reported_extra : (v : Wire) (readers : List TagReader) (tag : ℕ) (x : ReaderSeen) (n : LinkNews) (ns extra : List LinkNews) (ends : Bool) → IsOf tag n → NumbersAreDistinct (tags readers)
    → reader_in tag readers ≡ Some x → IsExtra ends tag extra → (ends ≡ true → (stepped x tag n).reader.over ≡ true) → ns ≡ n ∷ extra
    → IsReported (start v readers) tag (stepped x tag n) (reported_all (start v readers) ns)
reported_extra v readers tag x n ns [] ends of all there is over e = one_reported v readers tag x n ns of all there e
reported_extra v readers tag x n ns (report.Fault t c seen ∷ []) ends of all there is over e =
    let same : ns ≡ n ∷ report.Fault tag c seen ∷ [] = e ∙ ap (λ (k : ℕ). n ∷ report.Fault k c seen ∷ []) is.0 in
    two_reported v readers tag x n (report.Fault tag c seen) ns of (λ g. refl) all there (over is.1) same
reported_extra v readers tag x n ns (report.Fault t c seen ∷ k ∷ ks) ends of all there is over e = absurd is
reported_extra v readers tag x n ns (report.Ready ∷ ks) ends of all there is over e = absurd is
reported_extra v readers tag x n ns (report.Retiring ∷ ks) ends of all there is over e = absurd is
reported_extra v readers tag x n ns (report.Broken c ∷ ks) ends of all there is over e = absurd is
reported_extra v readers tag x n ns (report.Fields t fs c seen ∷ ks) ends of all there is over e = absurd is
reported_extra v readers tag x n ns (report.Data t bs c seen ∷ ks) ends of all there is over e = absurd is
reported_extra v readers tag x n ns (report.Reset t c seen ∷ ks) ends of all there is over e = absurd is
reported_extra v readers tag x n ns (report.Unseen t seen ∷ ks) ends of all there is over e = absurd is

pub blocks_are_reported : BlocksAreReported
blocks_are_reported b l s w g readers r a is reads comes on over block =
    let f : FrameSeen = r.frame in
    let n : ℕ = f.stream in
    let st : Stands l s w n a = stands l s w g n a is on in
    let p : Response = response_of l s n a in
    let limit : ℕ = limit_of_attempt a s in
    let going : GoesOn p = goes_of l s w n a st in
    let we : Bool = has_written_end n l in
    let m : Link = read_link r l s in
    let u : Seen = frame_read_on r s l in
    let q : Response = with_block p b in
    let got : IsGot l w r b = got_by l s w g r b (is_of_block f) (is_last_of_block f) refl refl is comes block in
    let part : IsPart f = is_part f got.of_b in
    let after : response_of m u n a ≡ q = own_response l s w r a st part ∙ ap (λ (o : Option Block). with_stream_frame limit p f o) block in
    let th : Then = block_then (is_some p.head) (http_status b.fields) b.ends we in
    let o : Option ℕ = h2.http_status b.fields in
    let known : is_some p.head ≡ st.stream.head = sym (st.handled.head ∙ ap (λ (k : ℕ). is_some (response_of l s k a).head) st.number) in
    let interim_is : is_interim (http_status b.fields) ≡ h2.is_interim o = interim_same (http_status b.fields) ∙ ap h2.is_interim (status_same b.fields) in
    let none_is : is_none (http_status b.fields) ≡ is_none o = ap (λ (x : Option ℕ). is_none x) (status_same b.fields) in
    let next_is : then_of st.stream.head (h2.is_interim o) b.ends (is_none o) we ≡ th
    = ap (λ (c : Bool). then_of c (h2.is_interim o) b.ends (is_none o) we) (sym known)
    ∙ ap (λ (c : Bool). then_of (is_some p.head) c b.ends (is_none o) we) (sym interim_is)
    ∙ ap (λ (c : Bool). then_of (is_some p.head) (is_interim (http_status b.fields)) b.ends c we) (sym none_is) in
    let seen : read_after w.read (9 + length f.payload) ≡ seen_at r = seen_same l w r is.sees.sees.reads.read comes.end in
    let first = block_reports w f st.index st.stream b we comes.fair got.listed st.found in
    let reports_ : ReportsBlock w st.index (reported w f) st.stream b.fields b.ends (seen_at r) (is_end th)
    = subst (λ (k : ℕ). ReportsBlock w st.index (reported w f) st.stream b.fields b.ends k (is_end th)) seen
    (subst (λ (k : Then). ReportsBlock w st.index (reported w f) st.stream b.fields b.ends (read_after w.read (9 + length f.payload)) (is_end k)) next_is first) in
    let tag : st.stream.tag ≡ a.place = st.live.tag in
    let ns : List LinkNews = report.Fields a.place b.fields b.ends (seen_at r) ∷ reports_.extra in
    let reports_that : ReportsThat w st.index (reported w f) ns (is_end th)
    = subst (λ (k : ℕ). ReportsThat w st.index (reported w f) (report.Fields k b.fields b.ends (seen_at r) ∷ reports_.extra) (is_end th)) tag reports_.reports_that in
    let extra : IsExtra (is_end th) a.place reports_.extra = subst (λ (k : ℕ). IsExtra (is_end th) k reports_.extra) tag reports_.is_extra in
    let law : EndsAlike m u a n th = subst (λ (z : Seen). EndsAlike m z a n th) (read_is l s r is.sees.at) (blocks_end_alike l s w g r a b is comes on over block) in
    let has : HasReader l s readers n a = has_reader l s readers n a reads is.sees.at on in
    let x : ReaderSeen = the_reader true limit p in
    let opened : Bool = true in
    let report_ : LinkNews = report.Fields a.place b.fields b.ends (seen_at r) in
    let step : IsStep limit a.place (seen_at r) true (stepped x a.place report_) p q = block_reported limit a.place a.place (seen_at r) opened p b going (headless limit n l.traffic) in
    let ends : is_end th ≡ true → is_done q ≡ true = λ e. block_done m u a n q th after law e in
    in_session l s w g readers r a is
    (is_frame_reported l s w g readers r a th (stepped x a.place report_) q ns (is_done q) refl (record {
      sees = is;
      reads = reads;
      on = on;
      stands = st;
      plain = part.no_goaway;
      open_ = over;
      after = after;
      step = step;
      reported_ = reported_extra (reported w f).wire readers a.place x report_ (reported w f).news reports_.extra (is_end th) (λ g. refl) reads.distinct (has.there ∙ ap (λ (y : ReaderSeen). Some y) has.is) extra
          (λ e. step.over ∙ ends e) reports_that.news_are;
      follows = follows_on l s w g r a th is (blocks_are_read l s w g r a b is comes on block);
      reports_that = reports_that;
      ends = ends;
      code = λ done. block_code l s r a n p q b th refl is.sees.at on over going (open_of l s n a going) refl after law done;
    }))
