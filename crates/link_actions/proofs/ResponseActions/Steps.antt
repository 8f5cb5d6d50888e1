-- What one of the link's reports makes of the reader of a response is what the session's frame makes of the response: the same head, messages and end.
use Rattle.std.proofs.Common.{◌≡◌, ◌∷◌, ◌++◌, ◌||◌, ◌&&◌, ◌==◌, not, ap, arith, refl, subst, sym, ◌∙◌, Bool, true, false, List, [], Option, None, Some, ℕ, suc, append-nil, drop, if◌then◌else◌, is_none, is_some, length, map, nat_lt, option_map, slice_get}
use Rattle.std.proofs.lemmas.Bool.Decides.{nat_tests}
use Rattle.std.proofs.Math.Seq.{drop-append_seam, drop-length}
use Rattle.std.specs.Option.{option_map_or}
use Rattle.std.specs.Prelude.{codes}
use Rattle.attempt_ledger.specs.Throttling.{is_success}
use Rattle.attempt_ledger.specs.declared.news.EndNews.{EndNews}
use Rattle.attempt_ledger.specs.declared.news.News.{News}
use Rattle.attempt_ledger.specs.declared.news.News.TheVariants as news
use Rattle.attempt_ledger.specs.declared.row.RowCause.{RowCause}
use Rattle.attempt_ledger.specs.declared.row.RowCause.TheVariants as cause
use Rattle.grpc_base.specs.ErrorCodes.{cancel, protocol_error, refused_stream}
use Rattle.grpc_base.specs.declared.code.Code.{Code}
use Rattle.grpc_base.specs.declared.code.Code.TheVariants as code
use Rattle.grpc_base.specs.declared.fields.Field.{Field}
use Rattle.grpc_base.specs.declared.plan.Pushback.{Pushback}
use Rattle.grpc_base.specs.declared.plan.Pushback.TheVariants as pushback
use Rattle.grpc_frame.specs.Messages.{Messages, messages_of}
use Rattle.grpc_frame.specs.Reader.{reader_after}
use Rattle.grpc_frame.specs.declared.next.MessageFault.{MessageFault}
use Rattle.grpc_frame.specs.declared.next.MessageFault.TheVariants as flaw
use Rattle.grpc_link.specs.Ends as link
use Rattle.grpc_link.specs.Ends.{asked, framing_end, is_ok, status_end_by}
use Rattle.grpc_link.specs.Readers.{ReaderSeen, Stepped, headers_by, stepped}
use Rattle.grpc_link.specs.Response as reader
use Rattle.grpc_link.specs.Response.{comes_head, data_end, data_large, end_gained, head_gained, headers_end, message_news}
use Rattle.grpc_meta.specs.ResponseFields.{pushback_of, shown_of, values_of}
use Rattle.grpc_status.specs.StatusMaps.{code_of_text, http_codes, looked_up, reset_codes}
use Rattle.h2_frame.specs.Frames.{FrameSeen, has_flag}
use Rattle.h2_frame.specs.Numbers.{end_stream_flag}
use Rattle.h2_frame.specs.Payloads.{content_of}
use Rattle.h2_link.specs.Status as h2
use Rattle.h2_link.specs.declared.news.LinkNews.TheVariants as report
use Rattle.link_actions.proofs.Lists.{if_false, if_true}
use Rattle.link_actions.specs.LossActions.Sees.{end_news}
use Rattle.link_actions.specs.ResponseActions.Gained.{gained, is_done, large_gained}
use Rattle.session_actions.specs.Responses.{block_end, ended, ended_by_block, http_code, http_status, is_grpc, is_head, is_interim, plain_end, status_end, trailers_end, with_block, with_data, with_fault, with_head, with_messages, with_reset, with_trailers}
use Rattle.session_actions.specs.Words.{holds, is_number}
use Rattle.session_actions.specs.declared.link.Block.{Block}
use Rattle.session_actions.specs.declared.response.Outcome.{Outcome}
use Rattle.session_actions.specs.declared.response.Response.{Response}
use Rattle.link_actions.proofs.StreamActions.HeadersRead.{none_of_some}
use Rattle.link_actions.proofs.StreamActions.StatusSame.{interim_same, status_same}

-- a response that goes on, and its reader
pub record GoesOn (p : Response) : Type 0 where
  pub goes : p.end ≡ None
  pub small : p.large ≡ false

pub record Reads (limit : ℕ) (x : ReaderSeen) (p : Response) : Type 0 where
  pub head : is_some p.head ≡ x.head
  pub over : x.over ≡ false
  pub limit_is : limit ≡ x.messages.limit
  pub rest : p.rest ≡ x.messages.rest
  pub whole : x.messages.fault ≡ None

abbrev pub the_reader : Bool → ℕ → Response → ReaderSeen
the_reader opened limit p = record {
  opened = opened;
  head = is_some p.head;
  over = false;
  messages = record { limit = limit; rest = p.rest; fault = None };
}

pub is_the_reader : (limit : ℕ) (x : ReaderSeen) (p : Response) → Reads limit x p → x ≡ the_reader x.opened limit p
is_the_reader limit x p is =
    ap (λ (h : Bool). record x { head = h }) (sym is.head)
    ∙ ap (λ (o : Bool). record x { head = is_some p.head; over = o }) is.over
    ∙ ap (λ (n : ℕ). record x { head = is_some p.head; over = false; messages = record { limit = n; rest = x.messages.rest; fault = x.messages.fault } }) (sym is.limit_is)
    ∙ ap (λ (bs : List ℕ). record x { head = is_some p.head; over = false; messages = record { limit = limit; rest = bs; fault = x.messages.fault } }) (sym is.rest)
    ∙ ap (λ (f : Option MessageFault). record x { head = is_some p.head; over = false; messages = record { limit = limit; rest = p.rest; fault = f } }) is.whole

-- what a reader makes of a report is what the response makes of a frame
pub record IsStep (limit tag seen : ℕ) (opened : Bool) (t : Stepped) (p q : Response) : Type 0 where
  pub news : t.news ≡ gained tag seen p q
  pub over : t.reader.over ≡ is_done q
  pub opened_is : t.reader.opened ≡ opened
  pub reads : is_done q ≡ false → Reads limit t.reader q

-- what is gained
no_head : (tag seen : ℕ) (head : Option (List Field)) → head_gained tag seen head head ≡ []
no_head tag seen None = refl
no_head tag seen (Some meta) = refl

gained_by : (tag seen : ℕ) (p q : Response) (more : List (List ℕ)) → q.head ≡ p.head → q.messages ≡ p.messages ++ more
    → gained tag seen p q ≡ map (message_news tag seen) more ++ large_gained tag seen q.large ++ end_gained tag (option_map (λ o. end_news o seen) q.end)
gained_by tag seen p q more head messages =
    let rest : List News → List News → List News
    = λ hs ms. hs ++ ms ++ large_gained tag seen q.large ++ end_gained tag (option_map (λ o. end_news o seen) q.end) in
    ap (λ (h : Option (List Field)). rest (head_gained tag seen p.head h) (map (message_news tag seen) (drop (length p.messages) q.messages))) head
    ∙ ap (λ (hs : List News). rest hs (map (message_news tag seen) (drop (length p.messages) q.messages))) (no_head tag seen p.head)
    ∙ ap (λ (ms : List (List ℕ)). rest [] (map (message_news tag seen) (drop (length p.messages) ms))) messages
    ∙ ap (λ (ms : List (List ℕ)). rest [] (map (message_news tag seen) ms)) (drop-append_seam p.messages more)

-- nothing is gained
pub nothing_gained : (tag seen : ℕ) (p q : Response) → GoesOn q → q.head ≡ p.head → q.messages ≡ p.messages → gained tag seen p q ≡ []
nothing_gained tag seen p q goes head messages =
    gained_by tag seen p q [] head (messages ∙ sym (append-nil p.messages))
    ∙ ap (λ (b : Bool). large_gained tag seen b ++ end_gained tag (option_map (λ o. end_news o seen) q.end)) goes.small
    ∙ ap (λ (o : Option Outcome). end_gained tag (option_map (λ o. end_news o seen) o)) goes.goes

-- it ends. (Trailers note that the peer closed the stream, which is not reported.)
pub ends_step : (limit tag seen : ℕ) (opened : Bool) (x : ReaderSeen) (p r : Response) (o : Outcome) (e : EndNews) → r.large ≡ false → r.head ≡ p.head → r.messages ≡ p.messages
    → x.opened ≡ opened → e ≡ end_news o seen → IsStep limit tag seen opened (record { reader = record x { over = true }; news = news.Ended tag e ∷ [] }) p (ended o r)
ends_step limit tag seen opened x p r o e small head messages is same = record {
  news = ap (λ (k : EndNews). news.Ended tag k ∷ []) same
      ∙ sym (gained_by tag seen p (ended o r) [] head (messages ∙ sym (append-nil p.messages))
      ∙ ap (λ (b : Bool). large_gained tag seen b ++ news.Ended tag (end_news o seen) ∷ []) small);
  over = refl;
  opened_is = is;
  reads = λ never. absurd (let no : ⊥ = (cc) in no);
}

-- DATA
data_step : (limit tag seen : ℕ) (opened : Bool) (p : Response) (whole : List (List ℕ)) (rest : List ℕ) (fault : Option MessageFault) (ends : Bool) → GoesOn p
    → IsStep limit tag seen opened
    (record {
      reader = record (the_reader opened limit p) {
        over = is_some (data_end fault ends seen) || is_some (data_large fault seen);
        messages = reader_after limit (record { whole = whole; rest = rest; fault = fault });
      };
      news = map (message_news tag seen) whole ++ reader.large_gained tag (data_large fault seen) ++ end_gained tag (data_end fault ends seen);
    })
    p (with_fault fault (with_messages p (record { whole = whole; rest = rest; fault = fault }) ends))
data_step limit tag seen opened p whole rest (Some (flaw.TooLarge len)) ends is =
    let q : Response = record (with_messages p (record { whole = whole; rest = rest; fault = Some (flaw.TooLarge len) }) ends) { large = true } in
    record {
      news = sym (gained_by tag seen p q whole refl refl
          ∙ ap (λ (o : Option Outcome). map (message_news tag seen) whole ++ news.TooLarge tag seen ∷ [] ++ end_gained tag (option_map (λ o. end_news o seen) o)) is.goes);
      over = sym (ap (λ (o : Option Outcome). is_some o || true) is.goes);
      opened_is = refl;
      reads = λ never. absurd (let no : false ≡ true = sym never ∙ ap (λ (o : Option Outcome). is_some o || true) is.goes in let out : ⊥ = (cc) in out);
    }
data_step limit tag seen opened p whole rest (Some flaw.BadFlag) ends is =
    let o : Outcome = plain_end code.Internal cause.Framing false (Some cancel) in
    let q : Response = ended o (with_messages p (record { whole = whole; rest = rest; fault = Some flaw.BadFlag }) ends) in
    record {
      news = sym (gained_by tag seen p q whole refl refl
          ∙ ap (λ (b : Bool). map (message_news tag seen) whole ++ large_gained tag seen b ++ news.Ended tag (end_news o seen) ∷ []) is.small);
      over = refl;
      opened_is = refl;
      reads = λ never. absurd (let no : ⊥ = (cc) in no);
    }
data_step limit tag seen opened p whole rest None true is =
    let o : Outcome = plain_end code.Unknown cause.Http false (Some cancel) in
    let q : Response = ended o (with_messages p (record { whole = whole; rest = rest; fault = None }) true) in
    record {
      news = sym (gained_by tag seen p q whole refl refl
          ∙ ap (λ (b : Bool). map (message_news tag seen) whole ++ large_gained tag seen b ++ news.Ended tag (end_news o seen) ∷ []) is.small);
      over = refl;
      opened_is = refl;
      reads = λ never. absurd (let no : ⊥ = (cc) in no);
    }
data_step limit tag seen opened p whole rest None false is =
    let q : Response = with_messages p (record { whole = whole; rest = rest; fault = None }) false in
    record {
      news = sym (gained_by tag seen p q whole refl refl
          ∙ ap (λ (b : Bool). map (message_news tag seen) whole ++ large_gained tag seen b ++ end_gained tag (option_map (λ o. end_news o seen) p.end)) is.small
          ∙ ap (λ (o : Option Outcome). map (message_news tag seen) whole ++ [] ++ end_gained tag (option_map (λ o. end_news o seen) o)) is.goes);
      over = sym (ap (λ (o : Option Outcome). is_some o || p.large) is.goes ∙ is.small);
      opened_is = refl;
      reads = λ goes. record { head = refl; over = refl; limit_is = refl; rest = refl; whole = refl };
    }

pub data_reported : (limit tag t seen : ℕ) (opened : Bool) (p : Response) (f : FrameSeen) → GoesOn p → is_some p.head ≡ true
    → IsStep limit tag seen opened (stepped (the_reader opened limit p) tag (report.Data t (content_of f) (has_flag f.flags end_stream_flag) seen)) p (with_data limit p f)
data_reported limit tag t seen opened p f is head =
    let m : Messages = messages_of limit (p.rest ++ content_of f) in
    let ends : Bool = has_flag f.flags end_stream_flag in
    let some : with_data limit p f ≡ with_fault m.fault (with_messages p m ends)
    = if_false (is_none p.head) (ended (plain_end code.Internal cause.Framing false (Some protocol_error)) p) (with_fault m.fault (with_messages p m ends)) (none_of_some p.head true head) in
    subst (IsStep limit tag seen opened (stepped (the_reader opened limit p) tag (report.Data t (content_of f) ends seen)) p) (sym some)
    (data_step limit tag seen opened p m.whole m.rest m.fault ends is)

-- a rule of the stream is broken; the stream is reset; a GOAWAY leaves it out
pub fault_reported : (limit tag t seen number : ℕ) (opened : Bool) (p : Response) (reset : Option ℕ) → GoesOn p
    → IsStep limit tag seen opened (stepped (the_reader opened limit p) tag (report.Fault t number seen)) p (ended (plain_end code.Internal cause.Framing false reset) p)
fault_reported limit tag t seen number opened p reset is =
    ends_step limit tag seen opened (the_reader opened limit p) p p (plain_end code.Internal cause.Framing false reset)
    (link.end_without_block code.Internal cause.Framing false seen) is.small refl refl refl refl

none_is : {X : Type 0} (o : Option X) → (if is_some o then false else true) ≡ is_none o
none_is None = refl
none_is (Some x) = refl

pub reset_reported : (limit tag t seen number : ℕ) (opened : Bool) (p : Response) → GoesOn p
    → IsStep limit tag seen opened (stepped (the_reader opened limit p) tag (report.Reset t number seen)) p (with_reset p number)
reset_reported limit tag t seen number opened p is =
    ends_step limit tag seen opened (the_reader opened limit p) p p
    (plain_end (looked_up reset_codes number) cause.Reset ((number == refused_stream) && is_none p.head) None) (link.reset_end (is_some p.head) number seen) is.small refl refl refl
    (ap (λ (b : Bool). link.end_without_block (looked_up reset_codes number) cause.Reset ((number == refused_stream) && b) seen) (none_is p.head))

-- header blocks: the same HTTP status, codes and ends
pub code_same : (fields : List Field) → link.http_code fields ≡ http_code fields
code_same fields = ap (λ (o : Option ℕ). option_map_or (λ s. looked_up http_codes s) o code.Unknown) (sym (status_same fields))

ok_same : (c : Code) → is_ok c ≡ is_success c
ok_same code.Ok = refl
ok_same c = refl

two_hundred : (o : Option ℕ) → option_map_or (λ s. s == 200) o false ≡ is_number 200 o
two_hundred None = refl
two_hundred (Some n) = refl

grpc_same : (o : Option (List ℕ)) → link.is_grpc o ≡ holds is_grpc o
grpc_same None = refl
grpc_same (Some v) = refl

abbrev content_type : List Field → Option (List ℕ)
content_type fields = slice_get (values_of (codes "content-type") fields) 0

pub head_same : (fields : List Field) → link.is_head fields ≡ is_head fields
head_same fields =
    ap (λ (o : Option ℕ). option_map_or (λ s. s == 200) o false && link.is_grpc (content_type fields)) (sym (status_same fields))
    ∙ ap (λ (b : Bool). b && link.is_grpc (content_type fields)) (two_hundred (http_status fields))
    ∙ ap (λ (b : Bool). is_number 200 (http_status fields) && b) (grpc_same (content_type fields))

-- the end that a header list makes, by what it says
abbrev end_by : Bool → Bool → Bool → Bool → Bool → Bool → Bool → List Field → ℕ → Option EndNews
end_by hd im ends none h whole closes fields seen =
    if hd then Some (if ends then reader.trailers_end whole fields seen else framing_end closes fields seen)
    else if im then (if ends then Some (framing_end closes fields seen) else None)
    else if ends then Some (link.status_end fields seen)
    else if h then None
    else if none then Some (framing_end closes fields seen)
    else Some (link.http_end fields seen)

abbrev response_by_ : Bool → Bool → Bool → Bool → Bool → Response → Block → Response
response_by_ hd im ends none h p b =
    if not hd && im then (if ends then ended_by_block b p else p)
    else if ends then with_trailers p b
    else if hd || none then ended_by_block b p
    else if h then record p { head = Some (shown_of b.fields) }
    else ended (block_end (http_code b.fields) cause.Http cancel b) p

-- trailers
asked_same : (b : Block) → b.ends ≡ true → asked true b.fields ≡ (if b.ends then pushback_of (values_of (codes "grpc-retry-pushback-ms") b.fields) else pushback.None)
asked_same b e =
    let none : Pushback = pushback.None in sym (if_true b.ends (pushback_of (values_of (codes "grpc-retry-pushback-ms") b.fields)) none e)

trailer_same : (c : Code) (why : RowCause) (reset : ℕ) (b : Block) (seen : ℕ) → b.ends ≡ true
    → link.end_with c why (asked true b.fields) b.fields seen ≡ end_news (block_end c why reset b) seen
trailer_same c why reset b seen e = ap (λ (k : Pushback). link.end_with c why k b.fields seen) (asked_same b e)

status_news : (vs : List (List ℕ)) (b : Block) (seen : ℕ) → b.ends ≡ true → status_end_by vs b.fields seen ≡ end_news (status_end vs b) seen
status_news [] b seen e =
    ap (λ (c : Code). link.end_with c cause.Http (asked true b.fields) b.fields seen) (code_same b.fields) ∙ trailer_same (http_code b.fields) cause.Http cancel b seen e
status_news (v ∷ []) b seen e = trailer_same (code_of_text v) cause.Status cancel b seen e
status_news (v ∷ u ∷ vs) b seen e = trailer_same code.Unknown cause.Status cancel b seen e

if_same : (c d : Bool) (x y : EndNews) (u v : Outcome) (seen : ℕ) → c ≡ d → x ≡ end_news u seen → y ≡ end_news v seen → (if c then x else y) ≡ end_news (if d then u else v) seen
if_same true true x y u v seen e f g = f
if_same false false x y u v seen e f g = g
if_same true false x y u v seen e f g = absurd (cc)
if_same false true x y u v seen e f g = absurd (cc)

cut_off : (rest : List ℕ) → not (length rest == 0) ≡ nat_lt 0 (length rest)
cut_off [] = refl
cut_off (b ∷ rest) = (let n : ℕ = length rest in some_more n)
  where
    some_more : (n : ℕ) → not (suc n == 0) ≡ nat_lt 0 (suc n)
    some_more n = grind (arith, nat_tests)

trailers_same : (p : Response) (b : Block) (seen : ℕ) → b.ends ≡ true
    → reader.trailers_end (length p.rest == 0) b.fields seen ≡ end_news (trailers_end p b (status_end (values_of (codes "grpc-status") b.fields) b)) seen
trailers_same p b seen e =
    let vs : List (List ℕ) = values_of (codes "grpc-status") b.fields in
    let o : Outcome = status_end vs b in
    let status : link.status_end b.fields seen ≡ end_news o seen = status_news vs b seen e in
    let okay : is_ok (link.status_end b.fields seen).code ≡ is_success o.code = ap (λ (n : EndNews). is_ok n.code) status ∙ ok_same o.code in
    if_same (is_ok (link.status_end b.fields seen).code && not (length p.rest == 0)) (is_success o.code && nat_lt 0 (length p.rest))
    (framing_end true b.fields seen) (link.status_end b.fields seen) (block_end code.Internal cause.Framing cancel b) o seen
    (ap (λ (c : Bool). c && not (length p.rest == 0)) okay ∙ ap (λ (c : Bool). is_success o.code && c) (cut_off p.rest))
    (trailer_same code.Internal cause.Framing cancel b seen e) status

and_false : (a : Bool) → (a && false) ≡ false
and_false true = refl
and_false false = refl

alone_same : (p : Response) (b : Block) (seen : ℕ) → b.ends ≡ true → p.rest ≡ []
    → link.status_end b.fields seen ≡ end_news (trailers_end p b (status_end (values_of (codes "grpc-status") b.fields) b)) seen
alone_same p b seen e none =
    let vs : List (List ℕ) = values_of (codes "grpc-status") b.fields in
    let o : Outcome = status_end vs b in
    status_news vs b seen e
    ∙ ap (λ (k : Outcome). end_news k seen)
    (sym (if_false (is_success o.code && nat_lt 0 (length p.rest)) (block_end code.Internal cause.Framing cancel b) o
    (ap (λ (bs : List ℕ). is_success o.code && nat_lt 0 (length bs)) none ∙ and_false (is_success o.code))))

never_head : (fields : List Field) → is_head fields ≡ true → is_none (http_status fields) ≡ true → ⊥
never_head fields h none = by_status (http_status fields) none h
  where
    by_status : (o : Option ℕ) → is_none o ≡ true → (is_number 200 o && holds is_grpc (slice_get (values_of (codes "content-type") fields) 0)) ≡ true → ⊥
    by_status None e f = (cc)
    by_status (Some n) e f = (cc)

-- what a reader makes of a header list
block_step : (limit tag seen : ℕ) (opened : Bool) (p : Response) (b : Block) (hd im ends none h : Bool) → GoesOn p → (is_some p.head ≡ false → p.rest ≡ [])
    → is_some p.head ≡ hd → is_interim (http_status b.fields) ≡ im → b.ends ≡ ends → is_none (http_status b.fields) ≡ none → is_head b.fields ≡ h
    → IsStep limit tag seen opened (headers_by (the_reader opened limit p) tag b.fields seen (end_by hd im ends none h (length p.rest == 0) b.ends b.fields seen)) p
    (response_by_ hd im ends none h p b)
block_step limit tag seen opened p b true im true none h is empty hd_ im_ ends_ none_ h_ =
    ends_step limit tag seen opened (the_reader opened limit p) p (record p { closes = true }) (trailers_end p b (status_end (values_of (codes "grpc-status") b.fields) b))
    (reader.trailers_end (length p.rest == 0) b.fields seen) is.small refl refl refl (trailers_same p b seen ends_)
block_step limit tag seen opened p b true im false none h is empty hd_ im_ ends_ none_ h_ =
    ends_step limit tag seen opened (the_reader opened limit p) p p (block_end code.Internal cause.Framing protocol_error b) (framing_end b.ends b.fields seen) is.small refl refl refl refl
block_step limit tag seen opened p b false true true none h is empty hd_ im_ ends_ none_ h_ =
    ends_step limit tag seen opened (the_reader opened limit p) p p (block_end code.Internal cause.Framing protocol_error b) (framing_end b.ends b.fields seen) is.small refl refl refl refl
block_step limit tag seen opened p b false true false none h is empty hd_ im_ ends_ none_ h_ =
    let R : ReaderSeen = the_reader opened limit p in
    let quiet : comes_head b.fields ≡ false = ap (λ (o : Option ℕ). not (h2.is_interim o)) (sym (status_same b.fields)) ∙ ap not (sym (interim_same (http_status b.fields)) ∙ im_) in
    subst (λ (t : Stepped). IsStep limit tag seen opened t p p)
    (sym (if_false (comes_head b.fields) (record { reader = record R { head = true }; news = news.Head tag (shown_of b.fields) seen ∷ [] }) (record { reader = R; news = [] }) quiet))
    (record {
      news = sym (nothing_gained tag seen p p is refl refl);
      over = sym (ap (λ (o : Option Outcome). is_some o || p.large) is.goes ∙ is.small);
      opened_is = refl;
      reads = λ goes. record { head = refl; over = refl; limit_is = refl; rest = refl; whole = refl };
    })
block_step limit tag seen opened p b false false true none h is empty hd_ im_ ends_ none_ h_ =
    ends_step limit tag seen opened (the_reader opened limit p) p (record p { closes = true }) (trailers_end p b (status_end (values_of (codes "grpc-status") b.fields) b))
    (link.status_end b.fields seen) is.small refl refl refl (alone_same p b seen ends_ (empty hd_))
block_step limit tag seen opened p b false false false true true is empty hd_ im_ ends_ none_ h_ = absurd (never_head b.fields h_ none_)
block_step limit tag seen opened p b false false false false true is empty hd_ im_ ends_ none_ h_ =
    let R : ReaderSeen = the_reader opened limit p in
    let q : Response = record p { head = Some (shown_of b.fields) } in
    let none : p.head ≡ None = no_value p.head hd_ in
    let comes : comes_head b.fields ≡ true = ap (λ (o : Option ℕ). not (h2.is_interim o)) (sym (status_same b.fields)) ∙ ap not (sym (interim_same (http_status b.fields)) ∙ im_) in
    subst (λ (t : Stepped). IsStep limit tag seen opened t p q)
    (sym (if_true (comes_head b.fields) (record { reader = record R { head = true }; news = news.Head tag (shown_of b.fields) seen ∷ [] }) (record { reader = R; news = [] }) comes))
    (record {
      news = sym (ap (λ (o : Option (List Field)). head_gained tag seen o (Some (shown_of b.fields)) ++ map (message_news tag seen) (drop (length p.messages) p.messages)
          ++ large_gained tag seen p.large ++ end_gained tag (option_map (λ o. end_news o seen) p.end)) none
          ∙ ap (λ (ms : List (List ℕ)). news.Head tag (shown_of b.fields) seen ∷ [] ++ map (message_news tag seen) ms
          ++ large_gained tag seen p.large ++ end_gained tag (option_map (λ o. end_news o seen) p.end)) (drop-length p.messages)
          ∙ ap (λ (l : Bool). news.Head tag (shown_of b.fields) seen ∷ [] ++ [] ++ large_gained tag seen l ++ end_gained tag (option_map (λ o. end_news o seen) p.end)) is.small
          ∙ ap (λ (o : Option Outcome). news.Head tag (shown_of b.fields) seen ∷ [] ++ [] ++ [] ++ end_gained tag (option_map (λ o. end_news o seen) o)) is.goes);
      over = sym (ap (λ (o : Option Outcome). is_some o || p.large) is.goes ∙ is.small);
      opened_is = refl;
      reads = λ goes. record { head = refl; over = refl; limit_is = refl; rest = refl; whole = refl };
    })
  where
    no_value : (o : Option (List Field)) → is_some o ≡ false → o ≡ None
    no_value None e = refl
    no_value (Some x) e = absurd (let no : ⊥ = (cc) in no)
block_step limit tag seen opened p b false false false true false is empty hd_ im_ ends_ none_ h_ =
    ends_step limit tag seen opened (the_reader opened limit p) p p (block_end code.Internal cause.Framing protocol_error b) (framing_end b.ends b.fields seen) is.small refl refl refl refl
block_step limit tag seen opened p b false false false false false is empty hd_ im_ ends_ none_ h_ =
    let no_pushback : Pushback = pushback.None in
    ends_step limit tag seen opened (the_reader opened limit p) p p (block_end (http_code b.fields) cause.Http cancel b) (link.http_end b.fields seen) is.small refl refl refl
    (ap (λ (c : Code). link.end_with c cause.Http pushback.None b.fields seen) (code_same b.fields)
    ∙ ap (λ (k : Pushback). link.end_with (http_code b.fields) cause.Http k b.fields seen)
    (sym (if_false b.ends (pushback_of (values_of (codes "grpc-retry-pushback-ms") b.fields)) no_pushback ends_)))

-- in the words of both
end_is : (whole : Bool) (p : Response) (b : Block) (seen : ℕ)
    → headers_end (is_some p.head) whole b.fields b.ends seen
    ≡ end_by (is_some p.head) (is_interim (http_status b.fields)) b.ends (is_none (http_status b.fields)) (is_head b.fields) whole b.ends b.fields seen
end_is whole p b seen =
    let e : Bool → Bool → Bool → Option EndNews
    = λ im none h. end_by (is_some p.head) im b.ends none h whole b.ends b.fields seen in
    ap (λ (o : Option ℕ). e (h2.is_interim o) (is_none o) (link.is_head b.fields)) (sym (status_same b.fields))
    ∙ ap (λ (c : Bool). e c (is_none (http_status b.fields)) (link.is_head b.fields)) (sym (interim_same (http_status b.fields)))
    ∙ ap (λ (c : Bool). e (is_interim (http_status b.fields)) (is_none (http_status b.fields)) c) (head_same b.fields)

response_is_ : (p : Response) (b : Block) → with_block p b ≡ response_by_ (is_some p.head) (is_interim (http_status b.fields)) b.ends (is_none (http_status b.fields)) (is_head b.fields) p b
response_is_ p b =
    let im : Bool = is_interim (http_status b.fields) in
    let none : Bool = is_none (http_status b.fields) in
    ap (λ (c : Bool). if c && im then (if b.ends then ended_by_block b p else p)
    else if b.ends then with_trailers p b else if is_some p.head || none then ended_by_block b p else with_head p b) (none_of_some p.head (is_some p.head) refl)

pub block_reported : (limit tag t seen : ℕ) (opened : Bool) (p : Response) (b : Block) → GoesOn p → (is_some p.head ≡ false → p.rest ≡ [])
    → IsStep limit tag seen opened (stepped (the_reader opened limit p) tag (report.Fields t b.fields b.ends seen)) p (with_block p b)
block_reported limit tag t seen opened p b is empty =
    let im : Bool = is_interim (http_status b.fields) in
    let none : Bool = is_none (http_status b.fields) in
    let R : ReaderSeen = the_reader opened limit p in
    subst (IsStep limit tag seen opened (headers_by R tag b.fields seen (headers_end (is_some p.head) (length p.rest == 0) b.fields b.ends seen)) p) (sym (response_is_ p b))
    (subst (λ (o : Option EndNews). IsStep limit tag seen opened (headers_by R tag b.fields seen o) p (response_by_ (is_some p.head) im b.ends none (is_head b.fields) p b))
    (sym (end_is (length p.rest == 0) p b seen))
    (block_step limit tag seen opened p b (is_some p.head) im b.ends none (is_head b.fields) is empty refl refl refl refl refl))
