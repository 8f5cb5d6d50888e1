-- The end that the link acts on is the session's own, and its stream is reset with the same code.
use Rattle.std.proofs.Common.{◌≡◌, ◌∷◌, ◌++◌, ◌||◌, ◌&&◌, ◌==◌, not, ap, arith, refl, subst, sym, ◌∙◌, Bool, true, false, List, [], Option, None, Some, ℕ, if◌then◌else◌, is_none, is_some, length, nat_lt, option_and_then}
use Rattle.std.specs.Prelude.{codes}
use Rattle.std.proofs.lemmas.Bool.{eqb-true}
use Rattle.std.proofs.lemmas.Bool.Decides.{nat_tests}
use Rattle.attempt_ledger.specs.Throttling.{is_success}
use Rattle.attempt_ledger.specs.declared.row.RowCause.{RowCause}
use Rattle.attempt_ledger.specs.declared.row.RowCause.TheVariants as cause
use Rattle.attempt_ledger.specs.declared.row.RowEnd.{RowEnd}
use Rattle.grpc_base.specs.ErrorCodes.{cancel, protocol_error, refused_stream}
use Rattle.grpc_base.specs.declared.code.Code.TheVariants as code
use Rattle.grpc_frame.specs.Messages.{Messages, messages_of}
use Rattle.grpc_frame.specs.declared.next.MessageFault.{MessageFault}
use Rattle.grpc_frame.specs.declared.next.MessageFault.TheVariants as flaw
use Rattle.grpc_meta.specs.ResponseFields.{values_of}
use Rattle.grpc_status.specs.StatusMaps.{looked_up, reset_codes}
use Rattle.h2_frame.specs.Frames.{FrameSeen, has_flag}
use Rattle.h2_frame.specs.Numbers.{continuation_type, data_type, end_stream_flag, goaway_type, headers_type, rst_stream_type, settings_type}
use Rattle.h2_frame.specs.Payloads.{content_of, last_stream, reset_code}
use Rattle.h2_link.specs.Feeds.{Line}
use Rattle.h2_link.specs.Wire.{Wire}
use Rattle.link_actions.proofs.Receiving.{not_kind, of_settings}
use Rattle.link_actions.proofs.Lists.{if_false, if_true, on_if}
use Rattle.link_actions.proofs.QuietKept.{ends_still}
use Rattle.link_actions.proofs.Written.{changed_here}
use Rattle.session_actions.specs.AttemptEnds.{code_to_reset, is_framing, is_reset}
use Rattle.session_actions.specs.Links.{has_written_end, is_settings}
use Rattle.session_actions.specs.Reading.{is_last_of_block, is_of_block}
use Rattle.session_actions.specs.Responses.{block_end, ended, ended_by_block, http_status, initial_after, is_interim, limit_of_attempt, plain_end, response, status_end, trailers_end, with_block, with_data, with_fault, with_head, with_messages, with_own_frame, with_reset, with_stream_frame, with_trailers}
use Rattle.session_actions.specs.Words.{numbered}
use Rattle.session_actions.specs.Writing.{frame_read_on, owed_for, with_frame_read}
use Rattle.session_actions.specs.declared.attempt.Attempt.{Attempt}
use Rattle.session_actions.specs.declared.link.Block.{Block}
use Rattle.session_actions.specs.declared.link.Link.{Link}
use Rattle.session_actions.specs.declared.link.LinkOver.{LinkOver}
use Rattle.session_actions.specs.declared.link.ReadFrame.{ReadFrame}
use Rattle.session_actions.specs.declared.response.Outcome.{Outcome}
use Rattle.session_actions.specs.declared.response.Response.{Response}
use Rattle.session_actions.specs.declared.seen.Seen.{Seen}
use Rattle.link_actions.proofs.StreamActions.Closes.{goes_open}
use Rattle.link_actions.proofs.StreamActions.DataRead.{own_data}
use Rattle.link_actions.proofs.StreamActions.Going.{response_is}
use Rattle.link_actions.proofs.StreamActions.HeadersRead.{IsGot, IsPart, got_by, is_part, none_of_some, own_response, then_of}
use Rattle.link_actions.proofs.StreamActions.PlainRead.{on_after, still_response, of_kind, IsStill}
use Rattle.link_actions.proofs.StreamActions.Responses.{goes_on, response_own, response_read}
use Rattle.link_actions.proofs.StreamActions.StreamGoes.{Stands, stands}
use Rattle.link_actions.proofs.StreamActions.StreamRead.{read_is}
use Rattle.link_actions.proofs.StreamActions.Unreceived.{no_list}
use Rattle.link_actions.specs.StreamActions.Laws.{BlocksEndAlike, DataEndsAlike, EndsAlike, EndsAs, GoawaysEndAlike, IsOn, ResetsEndAlike, block_then, closed_code, data_then, read_link}
use Rattle.session_actions.specs.declared.link.Traffic.TheVariants as traffic
use Rattle.link_actions.specs.StreamActions.Sees.{SeesStreams, response_of}

-- the code of a reset, by cause, by whether both sides closed the stream, and by what the outcome says
abbrev code_by : RowCause → Bool → Option ℕ → Option ℕ
code_by c both reset = if is_reset c || both then None else if is_framing c then reset else Some cancel

or_false : (a b : Bool) → (a || false || b) ≡ (a || b)
or_false true b = refl
or_false false b = refl

code_is : (l : Link) (s : Seen) (n : ℕ) (a : Attempt) (e : RowEnd) (p : Response) (o : Outcome) → numbered s.links l.number ≡ Some l → IsOn l s n a → l.over ≡ None
    → response_of l s n a ≡ p → p.end ≡ Some o → e.cause ≡ o.cause → code_to_reset a e n s l ≡ code_by o.cause (has_written_end n l && p.closes) o.reset
code_is l s n a e p o here on over same end is =
    let q : response a s ≡ p = response_is l s n a here on.out on.stream ∙ same in
    ap (λ (c : RowCause). if is_reset c || is_some l.over || (has_written_end n l && (response a s).closes) then None else if is_framing c then option_and_then (λ t. t.reset) (response a s).end else Some cancel) is
    ∙ ap (λ (x : Option LinkOver). if is_reset o.cause || is_some x || (has_written_end n l && (response a s).closes) then None else if is_framing o.cause then option_and_then (λ t. t.reset) (response a s).end else Some cancel) over
    ∙ ap (λ (b : Bool). if b then None else if is_framing o.cause then option_and_then (λ t. t.reset) (response a s).end else Some cancel) (or_false (is_reset o.cause) (has_written_end n l && (response a s).closes))
    ∙ ap (λ (z : Response). if is_reset o.cause || (has_written_end n l && z.closes) then None else if is_framing o.cause then option_and_then (λ t. t.reset) z.end else Some cancel) q
    ∙ ap (λ (x : Option Outcome). if is_reset o.cause || (has_written_end n l && p.closes) then None else if is_framing o.cause then option_and_then (λ t. t.reset) x else Some cancel) end

-- an end of the response after a frame
ends_as : (l : Link) (s : Seen) (w : Wire) (g : ℕ → Line) (r : ReadFrame) (a : Attempt) (n : ℕ) (p : Response) (o : Outcome) (number : Option ℕ) → SeesStreams l s w g
    → IsOn l s n a → l.over ≡ None → response_of (read_link r l s) (frame_read_on r s l) n a ≡ p → p.end ≡ Some o
    → code_by o.cause (has_written_end n l && p.closes) o.reset ≡ number
    → EndsAs (read_link r l s) (frame_read_on r s l) a n number
ends_as l s w g r a n p o number is on over same end number_is =
    let m : Link = read_link r l s in
    let here : numbered (frame_read_on r s l).links m.number ≡ Some m = changed_here (with_frame_read r (owed_for r.frame l s)) l.number s.links l is.sees.at in
    record {
      outcome = o;
      end = ap (λ (q : Response). q.end) same ∙ end;
      resets = λ e cause_. code_is m (frame_read_on r s l) n a e p o here (on_after l s r n a on) over same end cause_
          ∙ ap (λ (b : Bool). code_by o.cause (b && p.closes) o.reset) (ends_still l r (owed_for r.frame l s) n) ∙ number_is;
    }

goes_of : (l : Link) (s : Seen) (w : Wire) (a : Attempt) (n : ℕ) → (st : Stands l s w n a) → (response_of l s n a).end ≡ None
goes_of l s w a n st = ap (λ (k : ℕ). (response_of l s k a).end) (sym st.number) ∙ st.handled.goes

small_of : (l : Link) (s : Seen) (w : Wire) (a : Attempt) (n : ℕ) → (st : Stands l s w n a) → (response_of l s n a).large ≡ false
small_of l s w a n st = ap (λ (k : ℕ). (response_of l s k a).large) (sym st.number) ∙ st.handled.small

-- where its stream is not closed, and where it is
never_both : (a b : Bool) → b ≡ false → (a && b) ≡ false
never_both true b e = e
never_both false b e = refl

framing_code : (we closes : Bool) (reset : Option ℕ) → closes ≡ false → code_by cause.Framing (we && closes) reset ≡ reset
framing_code we closes reset e = ap (λ (b : Bool). code_by cause.Framing b reset) (never_both we closes e)

closed_by : (we : Bool) → code_by cause.Framing (we && true) (Some cancel) ≡ closed_code we
closed_by true = refl
closed_by false = refl

closed_http : (we : Bool) (reset : Option ℕ) → code_by cause.Http (we && true) reset ≡ closed_code we
closed_http true reset = refl
closed_http false reset = refl

closed_status : (we : Bool) (reset : Option ℕ) → code_by cause.Status (we && true) reset ≡ closed_code we
closed_status true reset = refl
closed_status false reset = refl

-- RST_STREAM
pub resets_end_alike : ResetsEndAlike
resets_end_alike l s w g r a is comes on over kind =
    let f : FrameSeen = r.frame in
    let n : ℕ = f.stream in
    let e : f.kind ≡ rst_stream_type = eqb-true f.kind rst_stream_type kind in
    let still : IsStill f = of_kind f rst_stream_type e refl refl refl refl refl refl in
    let st : Stands l s w n a = stands l s w g n a is on in
    let p : Response = response_of l s n a in
    let number : ℕ = reset_code f.payload in
    let o : Outcome = plain_end (looked_up reset_codes number) cause.Reset ((number == refused_stream) && is_none p.head) None in
    let limit : ℕ = limit_of_attempt a s in
    let no_data : (f.kind == data_type) ≡ false = not_kind f.kind rst_stream_type data_type false e refl in
    let own : with_own_frame limit p f ≡ ended o p
    = if_false (f.kind == data_type) (with_data limit p f) _ no_data ∙ if_true (f.kind == rst_stream_type) (with_reset p number) _ kind in
    let none : Option ℕ = None in
    subst (λ (z : Seen). EndsAs (read_link r l s) z a n none) (sym (read_is l s r is.sees.at))
    (ends_as l s w g r a r.frame.stream (ended o p) o none is on over (still_response l s w r a comes st still ∙ own) refl refl)

-- DATA
fault_ends : (l : Link) (s : Seen) (w : Wire) (g : ℕ → Line) (r : ReadFrame) (a : Attempt) (q : Response) (x : Option MessageFault) → SeesStreams l s w g
    → IsOn l s r.frame.stream a → l.over ≡ None → response_of (read_link r l s) (frame_read_on r s l) r.frame.stream a ≡ with_fault x q → q.closes ≡ true
    → (with_fault x q).large ≡ false → EndsAs (read_link r l s) (frame_read_on r s l) a r.frame.stream (closed_code (has_written_end r.frame.stream l))
fault_ends l s w g r a q (Some (flaw.TooLarge len)) is on over same closes small = absurd (let never : ⊥ = (cc) in never)
fault_ends l s w g r a q (Some flaw.BadFlag) is on over same closes small =
    let o : Outcome = plain_end code.Internal cause.Framing false (Some cancel) in
    ends_as l s w g r a r.frame.stream (ended o q) o (closed_code (has_written_end r.frame.stream l)) is on over same refl
    (ap (λ (b : Bool). code_by cause.Framing (has_written_end r.frame.stream l && b) (Some cancel)) closes ∙ closed_by (has_written_end r.frame.stream l))
fault_ends l s w g r a q None is on over same closes small =
    let o : Outcome = plain_end code.Unknown cause.Http false (Some cancel) in
    ends_as l s w g r a r.frame.stream (ended o q) o (closed_code (has_written_end r.frame.stream l)) is on over (same ∙ if_true q.closes (ended o q) q closes) refl
    (ap (λ (b : Bool). code_by cause.Http (has_written_end r.frame.stream l && b) (Some cancel)) closes ∙ closed_http (has_written_end r.frame.stream l) (Some cancel))

data_ends : (l : Link) (s : Seen) (w : Wire) (g : ℕ → Line) (r : ReadFrame) (a : Attempt) (h b : Bool) → SeesStreams l s w g → IsOn l s r.frame.stream a → l.over ≡ None
    → (st : Stands l s w r.frame.stream a) → is_some (response_of l s r.frame.stream a).head ≡ h → has_flag r.frame.flags end_stream_flag ≡ b
    → response_of (read_link r l s) (frame_read_on r s l) r.frame.stream a ≡ with_data (limit_of_attempt a s) (response_of l s r.frame.stream a) r.frame
    → (with_data (limit_of_attempt a s) (response_of l s r.frame.stream a) r.frame).large ≡ false
    → EndsAlike (read_link r l s) (frame_read_on r s l) a r.frame.stream (data_then h (has_written_end r.frame.stream l) b)
data_ends l s w g r a false b is on over st head flag same small =
    let n : ℕ = r.frame.stream in
    let p : Response = response_of l s n a in
    let o : Outcome = plain_end code.Internal cause.Framing false (Some protocol_error) in
    let m : Messages = messages_of (limit_of_attempt a s) (p.rest ++ content_of r.frame) in
    let open_ : p.closes ≡ false = goes_open (limit_of_attempt a s) n l.traffic (goes_of l s w a n st) (small_of l s w a n st) in
    ends_as l s w g r a r.frame.stream (ended o p) o (Some protocol_error) is on over
    (same ∙ if_true (is_none p.head) (ended o p) (with_fault m.fault (with_messages p m (has_flag r.frame.flags end_stream_flag))) (none_of_some p.head false head)) refl
    (framing_code (has_written_end n l) p.closes (Some protocol_error) open_)
data_ends l s w g r a true true is on over st head flag same small =
    let n : ℕ = r.frame.stream in
    let p : Response = response_of l s n a in
    let o : Outcome = plain_end code.Internal cause.Framing false (Some protocol_error) in
    let m : Messages = messages_of (limit_of_attempt a s) (p.rest ++ content_of r.frame) in
    let q : Response = with_messages p m (has_flag r.frame.flags end_stream_flag) in
    let afterwards : with_data (limit_of_attempt a s) p r.frame ≡ with_fault m.fault q = if_false (is_none p.head) (ended o p) (with_fault m.fault q) (none_of_some p.head true head) in
    fault_ends l s w g r a q m.fault is on over (same ∙ afterwards) flag (sym (ap (λ (z : Response). z.large) afterwards) ∙ small)
data_ends l s w g r a true false is on over st head flag same small = tt

pub data_ends_alike : DataEndsAlike
data_ends_alike l s w g r a is comes on over data_ small =
    let f : FrameSeen = r.frame in
    let n : ℕ = f.stream in
    let kind : f.kind ≡ data_type = eqb-true f.kind data_type data_ in
    let st : Stands l s w n a = stands l s w g n a is on in
    let p : Response = response_of l s n a in
    let limit : ℕ = limit_of_attempt a s in
    let no_goaway : (f.kind == goaway_type) ≡ false = not_kind f.kind data_type goaway_type false kind refl in
    let off : is_of_block f ≡ false
    = ap (λ (c : Bool). c || (f.kind == continuation_type)) (not_kind f.kind data_type headers_type false kind refl) ∙ not_kind f.kind data_type continuation_type false kind refl in
    let own : (n == n) ≡ true = grind (arith, nat_tests) in
    let after : response_of (read_link r l s) (frame_read_on r s l) n a ≡ with_data limit p f
    = response_own limit n l r (owed_for f l s) (goes_of l s w a n st) (small_of l s w a n st) (of_settings f.kind f.flags (not_kind f.kind data_type settings_type false kind refl)) no_goaway own
    ∙ own_data limit p f r.block (no_list l r off comes.next) kind in
    let few : (response_of (read_link r l s) (frame_read_on r s l) n a).large ≡ false
    = subst (λ (z : Seen). (response_of (read_link r l s) z n a).large ≡ false) (read_is l s r is.sees.at) small in
    subst (λ (z : Seen). EndsAlike (read_link r l s) z a n (data_then (is_some p.head) (has_written_end n l) (has_flag f.flags end_stream_flag))) (sym (read_is l s r is.sees.at))
    (data_ends l s w g r a (is_some p.head) (has_flag f.flags end_stream_flag) is on over st refl refl after (sym (ap (λ (z : Response). z.large) after) ∙ few))

-- header blocks
broken_ends : (l : Link) (s : Seen) (w : Wire) (g : ℕ → Line) (r : ReadFrame) (a : Attempt) (b : Block) → SeesStreams l s w g → IsOn l s r.frame.stream a → l.over ≡ None
    → (st : Stands l s w r.frame.stream a) → response_of (read_link r l s) (frame_read_on r s l) r.frame.stream a ≡ ended_by_block b (response_of l s r.frame.stream a)
    → EndsAs (read_link r l s) (frame_read_on r s l) a r.frame.stream (Some protocol_error)
broken_ends l s w g r a b is on over st same =
    let n : ℕ = r.frame.stream in
    let p : Response = response_of l s n a in
    let o : Outcome = block_end code.Internal cause.Framing protocol_error b in
    let open_ : p.closes ≡ false = goes_open (limit_of_attempt a s) n l.traffic (goes_of l s w a n st) (small_of l s w a n st) in
    ends_as l s w g r a r.frame.stream (ended o p) o (Some protocol_error) is on over same refl (framing_code (has_written_end n l) p.closes (Some protocol_error) open_)

status_code : (we : Bool) (vs : List (List ℕ)) (b : Block) → code_by (status_end vs b).cause (we && true) (status_end vs b).reset ≡ closed_code we
status_code we [] b = closed_http we (Some cancel)
status_code we (v ∷ []) b = closed_status we (Some cancel)
status_code we (v ∷ u ∷ vs) b = closed_status we (Some cancel)

trailers_code : (we : Bool) (p : Response) (b : Block) (o : Outcome) → code_by o.cause (we && true) o.reset ≡ closed_code we
    → code_by (trailers_end p b o).cause (we && true) (trailers_end p b o).reset ≡ closed_code we
trailers_code we p b o e =
    on_if (λ (x : Outcome). code_by x.cause (we && true) x.reset ≡ closed_code we) (is_success o.code && nat_lt 0 (length p.rest)) (block_end code.Internal cause.Framing cancel b) o
    (λ h. closed_by we) (λ h. e)

trailers_end_as : (l : Link) (s : Seen) (w : Wire) (g : ℕ → Line) (r : ReadFrame) (a : Attempt) (b : Block) → SeesStreams l s w g → IsOn l s r.frame.stream a → l.over ≡ None
    → response_of (read_link r l s) (frame_read_on r s l) r.frame.stream a ≡ with_trailers (response_of l s r.frame.stream a) b
    → EndsAs (read_link r l s) (frame_read_on r s l) a r.frame.stream (closed_code (has_written_end r.frame.stream l))
trailers_end_as l s w g r a b is on over same =
    let n : ℕ = r.frame.stream in
    let p : Response = response_of l s n a in
    let vs : List (List ℕ) = values_of (codes "grpc-status") b.fields in
    ends_as l s w g r a r.frame.stream (with_trailers p b) (trailers_end p b (status_end vs b)) (closed_code (has_written_end n l)) is on over same refl
    (trailers_code (has_written_end n l) p b (status_end vs b) (status_code (has_written_end n l) vs b))

block_ends_by : (l : Link) (s : Seen) (w : Wire) (g : ℕ → Line) (r : ReadFrame) (a : Attempt) (b : Block) (h im ends none : Bool) → SeesStreams l s w g → IsOn l s r.frame.stream a → l.over ≡ None
    → (st : Stands l s w r.frame.stream a) → is_some (response_of l s r.frame.stream a).head ≡ h → is_interim (http_status b.fields) ≡ im → b.ends ≡ ends
    → is_none (http_status b.fields) ≡ none
    → response_of (read_link r l s) (frame_read_on r s l) r.frame.stream a ≡ (if not h && im then (if ends then ended_by_block b (response_of l s r.frame.stream a) else response_of l s r.frame.stream a)
    else if ends then with_trailers (response_of l s r.frame.stream a) b
    else if h || none then ended_by_block b (response_of l s r.frame.stream a)
    else with_head (response_of l s r.frame.stream a) b)
    → EndsAlike (read_link r l s) (frame_read_on r s l) a r.frame.stream (then_of h im ends none (has_written_end r.frame.stream l))
block_ends_by l s w g r a b false true true none is on over st head im_ ends_ none_ same = broken_ends l s w g r a b is on over st same
block_ends_by l s w g r a b false true false none is on over st head im_ ends_ none_ same = tt
block_ends_by l s w g r a b false false true none is on over st head im_ ends_ none_ same = trailers_end_as l s w g r a b is on over same
block_ends_by l s w g r a b true im true none is on over st head im_ ends_ none_ same = trailers_end_as l s w g r a b is on over same
block_ends_by l s w g r a b true im false none is on over st head im_ ends_ none_ same = broken_ends l s w g r a b is on over st same
block_ends_by l s w g r a b false false false true is on over st head im_ ends_ none_ same = broken_ends l s w g r a b is on over st same
block_ends_by l s w g r a b false false false false is on over st head im_ ends_ none_ same = tt

pub blocks_end_alike : BlocksEndAlike
blocks_end_alike l s w g r a b is comes on over block =
    let f : FrameSeen = r.frame in
    let n : ℕ = f.stream in
    let st : Stands l s w n a = stands l s w g n a is on in
    let p : Response = response_of l s n a in
    let got : IsGot l w r b = got_by l s w g r b (is_of_block f) (is_last_of_block f) refl refl is comes block in
    let part : IsPart f = is_part f got.of_b in
    let im : Bool = is_interim (http_status b.fields) in
    let none : Bool = is_none (http_status b.fields) in
    let same : response_of (read_link r l s) (frame_read_on r s l) n a ≡ with_block p b
    = own_response l s w r a st part ∙ ap (λ (o : Option Block). with_stream_frame (limit_of_attempt a s) p f o) block in
    let by : with_block p b ≡ (if not (is_some p.head) && im then (if b.ends then ended_by_block b p else p)
    else if b.ends then with_trailers p b else if is_some p.head || none then ended_by_block b p else with_head p b)
    = ap (λ (c : Bool). if c && im then (if b.ends then ended_by_block b p else p)
    else if b.ends then with_trailers p b else if is_some p.head || none then ended_by_block b p else with_head p b) (none_of_some p.head (is_some p.head) refl) in
    subst (λ (z : Seen). EndsAlike (read_link r l s) z a n (block_then (is_some p.head) (http_status b.fields) b.ends (has_written_end n l))) (sym (read_is l s r is.sees.at))
    (block_ends_by l s w g r a b (is_some p.head) im b.ends none is on over st refl refl refl refl (same ∙ by))

-- GOAWAY
pub goaway_ended : (l : Link) (s : Seen) (w : Wire) (g : ℕ → Line) (r : ReadFrame) (a : Attempt) (n : ℕ) → SeesStreams l s w g → IsOn l s n a → (r.frame.kind == goaway_type) ≡ true
    → nat_lt (last_stream r.frame.payload) n ≡ true → response_of (read_link r l s) (frame_read_on r s l) n a ≡ ended (plain_end code.Unavailable cause.Goaway true (Some cancel)) (response_of l s n a)
goaway_ended l s w g r a n is on goes low =
    let f : FrameSeen = r.frame in
    let kind : f.kind ≡ goaway_type = eqb-true f.kind goaway_type goes in
    let st : Stands l s w n a = stands l s w g n a is on in
    let p : Response = response_of l s n a in
    let limit : ℕ = limit_of_attempt a s in
    let o : Outcome = plain_end code.Unavailable cause.Goaway true (Some cancel) in
    let no_settings_ : is_settings f ≡ false = of_settings f.kind f.flags (not_kind f.kind goaway_type settings_type false kind refl) in
    response_read limit n l r (owed_for f l s) ∙ goes_on limit n p (traffic.Read r) (goes_of l s w a n st) (small_of l s w a n st)
    ∙ if_false (is_settings f) (record p { initial = initial_after p.initial f }) _ no_settings_
    ∙ if_true ((f.kind == goaway_type) && nat_lt (last_stream f.payload) n) (ended o p) _ (ap (λ (b : Bool). b && nat_lt (last_stream f.payload) n) goes ∙ low)

pub goaways_end_alike : GoawaysEndAlike
goaways_end_alike l s w g r a n is comes on over goes low =
    let st : Stands l s w n a = stands l s w g n a is on in
    let p : Response = response_of l s n a in
    let limit : ℕ = limit_of_attempt a s in
    let o : Outcome = plain_end code.Unavailable cause.Goaway true (Some cancel) in
    let number : Option ℕ = Some cancel in
    let open_ : p.closes ≡ false = goes_open limit n l.traffic (goes_of l s w a n st) (small_of l s w a n st) in
    let after : response_of (read_link r l s) (frame_read_on r s l) n a ≡ ended o p = goaway_ended l s w g r a n is on goes low in
    subst (λ (z : Seen). EndsAs (read_link r l s) z a n number) (sym (read_is l s r is.sees.at))
    (ends_as l s w g r a n (ended o p) o number is on over after refl (ap (λ (b : Bool). code_by cause.Goaway b number) (never_both (has_written_end n l) p.closes open_)))
