-- The code with which the stream of an attempt is reset, by what its response says once a frame was read.
use Rattle.std.proofs.Common.{◌≡◌, ◌++◌, ◌||◌, ◌&&◌, ap, refl, subst, sym, ◌∙◌, Bool, true, false, List, Option, None, Some, ℕ, if◌then◌else◌, is_none, is_some, option_and_then}
use Rattle.attempt_ledger.specs.Ends.{is_cut}
use Rattle.attempt_ledger.specs.declared.row.RowCause.{RowCause}
use Rattle.attempt_ledger.specs.declared.row.RowCause.TheVariants as cause
use Rattle.attempt_ledger.specs.declared.row.RowEnd.{RowEnd}
use Rattle.grpc_base.specs.ErrorCodes.{cancel, protocol_error}
use Rattle.grpc_base.specs.declared.code.Code.TheVariants as code
use Rattle.grpc_frame.specs.Messages.{Messages, messages_of}
use Rattle.grpc_frame.specs.declared.next.MessageFault.{MessageFault}
use Rattle.grpc_frame.specs.declared.next.MessageFault.TheVariants as flaw
use Rattle.h2_frame.specs.Frames.{FrameSeen, has_flag}
use Rattle.h2_frame.specs.Numbers.{end_stream_flag}
use Rattle.h2_frame.specs.Payloads.{content_of}
use Rattle.link_actions.proofs.Lists.{if_false, if_true}
use Rattle.link_actions.proofs.ResponseActions.Report.{is_end}
use Rattle.link_actions.specs.ResponseActions.Gained.{is_done}
use Rattle.session_actions.specs.AttemptEnds.{code_to_reset, is_framing, is_reset}
use Rattle.session_actions.specs.Links.{has_written_end}
use Rattle.session_actions.specs.Responses.{ended, plain_end, response, with_data, with_fault, with_messages}
use Rattle.session_actions.specs.Words.{numbered}
use Rattle.session_actions.specs.declared.attempt.Attempt.{Attempt}
use Rattle.session_actions.specs.declared.link.Link.{Link}
use Rattle.session_actions.specs.declared.link.LinkOver.{LinkOver}
use Rattle.session_actions.specs.declared.response.Outcome.{Outcome}
use Rattle.session_actions.specs.declared.response.Response.{Response}
use Rattle.session_actions.specs.declared.seen.Seen.{Seen}
use Rattle.link_actions.proofs.StreamActions.Going.{response_is}
use Rattle.link_actions.proofs.StreamActions.HeadersRead.{none_of_some}
use Rattle.link_actions.specs.StreamActions.Laws.{Ends, EndsAs, GoesOn, IsOn, Then, data_then}
use Rattle.link_actions.specs.StreamActions.Sees.{response_of}

-- by the cause of the end, whether the client ended the stream, and the response
abbrev pub code_for : RowCause → Bool → Response → Option ℕ
code_for c we q = if is_reset c || (we && q.closes) then None else if is_framing c then option_and_then (λ t. t.reset) q.end else Some cancel

or_false : (a b : Bool) → (a || false || b) ≡ (a || b)
or_false true b = refl
or_false false b = refl

pub code_is : (l : Link) (s : Seen) (n : ℕ) (a : Attempt) (e : RowEnd) (q : Response) → numbered s.links l.number ≡ Some l → IsOn l s n a → l.over ≡ None → response_of l s n a ≡ q
    → code_to_reset a e n s l ≡ code_for e.cause (has_written_end n l) q
code_is l s n a e q here on over same =
    let is : response a s ≡ q = response_is l s n a here on.out on.stream ∙ same in
    ap (λ (x : Option LinkOver). if is_reset e.cause || is_some x || (has_written_end n l && (response a s).closes) then None else if is_framing e.cause then option_and_then (λ t. t.reset) (response a s).end else Some cancel) over
    ∙ ap (λ (b : Bool). if b then None else if is_framing e.cause then option_and_then (λ t. t.reset) (response a s).end else Some cancel) (or_false (is_reset e.cause) (has_written_end n l && (response a s).closes))
    ∙ ap (code_for e.cause (has_written_end n l)) is

-- what is asked of a code: it is the one of the end of the response, and, where a message is too long, that of a cut
pub record HasCode (we : Bool) (q : Response) (number : Option ℕ) : Type 0 where
  pub by_end : (o : Outcome) → q.end ≡ Some o → code_for o.cause we q ≡ number
  pub by_cut : q.end ≡ None → code_for cause.Cut we q ≡ number

abbrev pub code_of : Then → Option ℕ
code_of GoesOn = Some cancel
code_of (Ends number) = number

pub cut_is : (c : RowCause) → is_cut c ≡ true → c ≡ cause.Cut
cut_is cause.Cut e = refl
cut_is cause.Status e = absurd (let no : ⊥ = (cc) in no)
cut_is cause.Http e = absurd (let no : ⊥ = (cc) in no)
cut_is cause.Reset e = absurd (let no : ⊥ = (cc) in no)
cut_is cause.Framing e = absurd (let no : ⊥ = (cc) in no)
cut_is cause.Lost e = absurd (let no : ⊥ = (cc) in no)
cut_is cause.Goaway e = absurd (let no : ⊥ = (cc) in no)
cut_is cause.Unsent e = absurd (let no : ⊥ = (cc) in no)
cut_is cause.Pick e = absurd (let no : ⊥ = (cc) in no)

-- an end that was made
pub one_outcome : (x o : Outcome) → Some x ≡ Some o → x ≡ o
one_outcome x o e = (cc)

pub made_code : (we : Bool) (x : Outcome) (r : Response) (number : Option ℕ) → code_for x.cause we (ended x r) ≡ number → HasCode we (ended x r) number
made_code we x r number e = record {
  by_end = λ o is. ap (λ (k : Outcome). code_for k.cause we (ended x r)) (sym (one_outcome x o is)) ∙ e;
  by_cut = λ none. absurd (let no : ⊥ = (cc) in no);
}

pub never_both : (a b : Bool) → b ≡ false → (a && b) ≡ false
never_both true b e = e
never_both false b e = refl

-- of an end by a broken rule, on a stream that the peer has not closed
pub framing_code : (we : Bool) (x : Outcome) (r : Response) → x.cause ≡ cause.Framing → r.closes ≡ false → HasCode we (ended x r) x.reset
framing_code we x r why open_ =
    let none : Option ℕ = None in
    made_code we x r x.reset
    (ap (λ (c : RowCause). code_for c we (ended x r)) why
    ∙ if_false (we && r.closes) none x.reset (never_both we r.closes open_))

pub http_code_ : (we : Bool) (x : Outcome) (r : Response) → x.cause ≡ cause.Http → r.closes ≡ false → HasCode we (ended x r) (Some cancel)
http_code_ we x r why open_ =
    let none : Option ℕ = None in
    made_code we x r (Some cancel)
    (ap (λ (c : RowCause). code_for c we (ended x r)) why
    ∙ if_false (we && r.closes) none (Some cancel) (never_both we r.closes open_))

-- DATA after a head
closed_if : (we b : Bool) → (if we && b then None else Some cancel) ≡ code_of (data_then true we b)
closed_if true true = refl
closed_if true false = refl
closed_if false true = refl
closed_if false false = refl

fault_code : (p : Response) (whole : List (List ℕ)) (rest : List ℕ) (we b : Bool) (x : Option MessageFault) → p.end ≡ None → p.large ≡ false
    → is_done (with_fault x (with_messages p (record { whole = whole; rest = rest; fault = x }) b)) ≡ true
    → HasCode we (with_fault x (with_messages p (record { whole = whole; rest = rest; fault = x }) b)) (code_of (data_then true we b))
fault_code p whole rest we b (Some (flaw.TooLarge len)) goes small done = record {
  by_end = λ o is. absurd (let never : None ≡ Some o = sym goes ∙ is in let no : ⊥ = (cc) in no);
  by_cut = λ none. closed_if we b;
}
fault_code p whole rest we b (Some flaw.BadFlag) goes small done =
    let x : Outcome = plain_end code.Internal cause.Framing false (Some cancel) in
    let q : Response = with_messages p (record { whole = whole; rest = rest; fault = Some flaw.BadFlag }) b in
    made_code we x q (code_of (data_then true we b)) (closed_if we b)
fault_code p whole rest we true None goes small done =
    let x : Outcome = plain_end code.Unknown cause.Http false (Some cancel) in
    let q : Response = with_messages p (record { whole = whole; rest = rest; fault = None }) true in
    made_code we x q (code_of (data_then true we true)) (closed_if we true)
fault_code p whole rest we false None goes small done =
    let never : false ≡ true = sym (ap (λ (o : Option Outcome). is_some o || p.large) goes ∙ small) ∙ done in
    absurd (let no : ⊥ = (cc) in no)

pub data_code : (limit : ℕ) (p : Response) (f : FrameSeen) (we h : Bool) → p.end ≡ None → p.large ≡ false → p.closes ≡ false → is_some p.head ≡ h
    → is_done (with_data limit p f) ≡ true → HasCode we (with_data limit p f) (code_of (data_then h we (has_flag f.flags end_stream_flag)))
data_code limit p f we false goes small open_ head done =
    let m : Messages = messages_of limit (p.rest ++ content_of f) in
    let x : Outcome = plain_end code.Internal cause.Framing false (Some protocol_error) in
    let number : Option ℕ = Some protocol_error in
    let same : with_data limit p f ≡ ended x p
    = if_true (is_none p.head) (ended x p) (with_fault m.fault (with_messages p m (has_flag f.flags end_stream_flag))) (none_of_some p.head false head) in
    subst (λ (q : Response). HasCode we q number) (sym same) (framing_code we x p refl open_)
data_code limit p f we true goes small open_ head done =
    let m : Messages = messages_of limit (p.rest ++ content_of f) in
    let b : Bool = has_flag f.flags end_stream_flag in
    let x : Outcome = plain_end code.Internal cause.Framing false (Some protocol_error) in
    let same : with_data limit p f ≡ with_fault m.fault (with_messages p m b)
    = if_false (is_none p.head) (ended x p) (with_fault m.fault (with_messages p m b)) (none_of_some p.head true head) in
    subst (λ (q : Response). HasCode we q (code_of (data_then true we b))) (sym same)
    (fault_code p m.whole m.rest we b m.fault goes small (sym (ap is_done same) ∙ done))

-- whether DATA with END_STREAM, or without a head, is an end
fault_done : (p : Response) (whole : List (List ℕ)) (rest : List ℕ) (x : Option MessageFault) → p.end ≡ None → is_done (with_fault x (with_messages p (record { whole = whole; rest = rest; fault = x }) true)) ≡ true
fault_done p whole rest (Some (flaw.TooLarge len)) goes = ap (λ (o : Option Outcome). is_some o || true) goes
fault_done p whole rest (Some flaw.BadFlag) goes = refl
fault_done p whole rest None goes = refl

pub data_done : (limit : ℕ) (p : Response) (f : FrameSeen) (we h b : Bool) → p.end ≡ None → is_some p.head ≡ h → has_flag f.flags end_stream_flag ≡ b → is_end (data_then h we b) ≡ true
    → is_done (with_data limit p f) ≡ true
data_done limit p f we false b goes head flag ends =
    let m : Messages = messages_of limit (p.rest ++ content_of f) in
    let x : Outcome = plain_end code.Internal cause.Framing false (Some protocol_error) in
    ap is_done (if_true (is_none p.head) (ended x p) (with_fault m.fault (with_messages p m (has_flag f.flags end_stream_flag))) (none_of_some p.head false head))
data_done limit p f we true true goes head flag ends =
    let m : Messages = messages_of limit (p.rest ++ content_of f) in
    let x : Outcome = plain_end code.Internal cause.Framing false (Some protocol_error) in
    ap is_done (if_false (is_none p.head) (ended x p) (with_fault m.fault (with_messages p m (has_flag f.flags end_stream_flag))) (none_of_some p.head true head))
    ∙ ap (λ (c : Bool). is_done (with_fault m.fault (with_messages p m c))) flag ∙ fault_done p m.whole m.rest m.fault goes
data_done limit p f we true false goes head flag ends = absurd (let no : ⊥ = (cc) in no)

-- of an end that is the session's
pub of_law : (l : Link) (s : Seen) (a : Attempt) (n : ℕ) (number : Option ℕ) → EndsAs l s a n number → is_done (response_of l s n a) ≡ true
of_law l s a n number is = ap (λ (o : Option Outcome). is_some o || (response_of l s n a).large) is.end
