-- A frame of an attempt's stream: what is reported, and what is left of link and readers.
use Rattle.std.proofs.Common.{◌≡◌, ◌∷◌, ◌++◌, ◌||◌, ◌==◌, ap, arith, refl, subst, sym, ◌∙◌, Bool, true, false, List, [], Option, None, Some, ℕ, ◌+◌, append-nil, is_some, length, min}
use Rattle.std.proofs.lemmas.Bool.Decides.{nat_tests}
use Rattle.attempt_ledger.specs.declared.row.RowCause.{RowCause}
use Rattle.attempt_ledger.specs.declared.row.RowEnd.{RowEnd}
use Rattle.grpc_base.specs.ErrorCodes.{cancel}
use Rattle.grpc_link.specs.Links.{GrpcSeen, found, reader_in, reported_all, reported_of}
use Rattle.grpc_link.specs.Links.{Report as Reported}
use Rattle.grpc_link.specs.Links as grpc
use Rattle.grpc_link.specs.Readers.{ReaderSeen, Stepped, stepped}
use Rattle.grpc_link.specs.declared.readers.TagReader.{TagReader}
use Rattle.h2_frame.specs.Numbers.{goaway_type}
use Rattle.h2_link.specs.Feeds.{Line}
use Rattle.h2_link.specs.Steps.{cut, read_after, reported}
use Rattle.h2_link.specs.Wire.{Wire}
use Rattle.h2_link.specs.declared.news.LinkNews.{LinkNews}
use Rattle.link_actions.proofs.Lists.{if_false, if_true}
use Rattle.link_actions.proofs.QuietKept.{ends_still}
use Rattle.link_actions.specs.Sees.{NumbersAreDistinct}
use Rattle.link_actions.proofs.ResponseActions.Codes.{HasCode, code_for, code_is, code_of, cut_is}
use Rattle.link_actions.proofs.ResponseActions.Found.{IsReported, find_none, tags, reported_one}
use Rattle.link_actions.proofs.ResponseActions.Gone.{cut_gone}
use Rattle.link_actions.proofs.ResponseActions.Kept.{but_own, link_here, on_is}
use Rattle.link_actions.proofs.ResponseActions.Lists.{no_value}
use Rattle.link_actions.proofs.ResponseActions.Steps.{IsStep, Reads, is_the_reader, the_reader}
use Rattle.link_actions.proofs.ResponseActions.Report.{ReportsThat, is_end}
use Rattle.link_actions.specs.ResponseActions.Gained.{gained, is_done}
use Rattle.link_actions.specs.ResponseActions.Laws.{IsEnded, IsFrameReported, frame_reported, seen_at}
use Rattle.link_actions.specs.ResponseActions.Readers.{IsReader, IsReaderOf, SeesReaders, attempt_on}
use Rattle.session_actions.specs.AttemptEnds.{code_to_reset}
use Rattle.session_actions.specs.Links.{has_written_end, read_bytes}
use Rattle.session_actions.specs.Responses.{limit_of_attempt, response}
use Rattle.session_actions.specs.Words.{numbered}
use Rattle.session_actions.specs.Writing.{frame_read_on, owed_for}
use Rattle.session_actions.specs.declared.attempt.Attempt.{Attempt}
use Rattle.session_actions.specs.declared.link.Link.{Link}
use Rattle.session_actions.specs.declared.link.ReadFrame.{ReadFrame}
use Rattle.session_actions.specs.declared.response.Response.{Response}
use Rattle.session_actions.specs.declared.seen.Seen.{Seen}
use Rattle.link_actions.proofs.StreamActions.Going.{response_is}
use Rattle.link_actions.proofs.StreamActions.PlainRead.{on_after}
use Rattle.link_actions.proofs.StreamActions.StreamEnds.{cuts_keep}
use Rattle.link_actions.proofs.StreamActions.StreamGoes.{Stands}
use Rattle.link_actions.specs.StreamActions.Laws.{Comes, Ends, Follows, IsOn, Then, read_link}
use Rattle.link_actions.specs.StreamActions.Laws as stream
use Rattle.link_actions.specs.StreamActions.Sees.{SeesStreams, response_of}

-- how far the link was read
least : (a b n : ℕ) → min (min a 18446744073709551615 + b) 18446744073709551615 ≡ min (a + b) 18446744073709551615
least a b n = omega arith

pub seen_same : (l : Link) (w : Wire) (r : ReadFrame) → w.read ≡ min (read_bytes l) 18446744073709551615 → r.end ≡ read_bytes l + (9 + length r.frame.payload)
    → read_after w.read (9 + length r.frame.payload) ≡ seen_at r
seen_same l w r read end =
    let n : ℕ = 0 in
    ap (λ (k : ℕ). min (k + (9 + length r.frame.payload)) 18446744073709551615) read
    ∙ least (read_bytes l) (9 + length r.frame.payload) n ∙ ap (λ (k : ℕ). min k 18446744073709551615) (sym end)

-- reports of a tag
abbrev pub start : Wire → List TagReader → GrpcSeen
start v readers = record { link = record { wire = v; rest = [] }; readers = readers }

abbrev pub IsOf : ℕ → LinkNews → Type 0
IsOf tag n = (g : GrpcSeen) → grpc.reported g n ≡ reported_of g tag n (found tag g.readers)

pub none_reported : (v : Wire) (readers : List TagReader) (tag : ℕ) (x : ReaderSeen) (ns : List LinkNews) → x.over ≡ false → NumbersAreDistinct (tags readers) → reader_in tag readers ≡ Some x → ns ≡ []
    → IsReported (start v readers) tag (record { reader = x; news = [] }) (reported_all (start v readers) ns)
none_reported v readers tag x ns going all there e =
    let none : Option ReaderSeen = None in
    subst (λ (ms : List LinkNews). IsReported (start v readers) tag (record { reader = x; news = [] }) (reported_all (start v readers) ms)) (sym e) (record {
      news = refl;
      wire = sym (if_false x.over (cut v tag cancel) v going);
      rest = refl;
      own = there ∙ sym (if_false x.over none (Some x) going);
      others = λ k apart. refl;
      distinct = all;
    })

abbrev with_no_more : Reported → Reported
with_no_more t = record { link = t.link; news = t.news ++ [] }

no_more : (g : GrpcSeen) (tag : ℕ) (t : Stepped) (r : Reported) → IsReported g tag t r → IsReported g tag t (with_no_more r)
no_more g tag t r is = record {
  news = append-nil r.news ∙ is.news;
  wire = is.wire;
  rest = is.rest;
  own = is.own;
  others = is.others;
  distinct = is.distinct;
}

pub one_reported : (v : Wire) (readers : List TagReader) (tag : ℕ) (x : ReaderSeen) (n : LinkNews) (ns : List LinkNews) → IsOf tag n → NumbersAreDistinct (tags readers) → reader_in tag readers ≡ Some x → ns ≡ n ∷ []
    → IsReported (start v readers) tag (stepped x tag n) (reported_all (start v readers) ns)
one_reported v readers tag x n ns of all there e =
    let g : GrpcSeen = start v readers in
    subst (λ (ms : List LinkNews). IsReported g tag (stepped x tag n) (reported_all g ms)) (sym e)
    (no_more g tag (stepped x tag n) (grpc.reported g n)
    (subst (λ (r : Reported). IsReported g tag (stepped x tag n) r) (sym (of g)) (reported_one g tag n x all there)))

-- a second one of a response that is over
abbrev joined : Reported → Reported → Reported
joined t u = record { link = u.link; news = t.news ++ (u.news ++ []) }

second_reported : (g : GrpcSeen) (tag : ℕ) (t : Stepped) (r : Reported) (n : LinkNews) → IsOf tag n → t.reader.over ≡ true → IsReported g tag t r → IsReported g tag t (joined r (grpc.reported r.link n))
second_reported g tag t r n of over is =
    let none : Option ReaderSeen = None in
    let own : reader_in tag r.link.readers ≡ None = is.own ∙ if_true t.reader.over none (Some t.reader) over in
    let passed : grpc.reported r.link n ≡ record { link = r.link; news = [] } = of r.link ∙ ap (reported_of r.link tag n) (find_none tag 0 r.link.readers own) in
    subst (λ (u : Reported). IsReported g tag t (joined r u)) (sym passed) (record {
      news = append-nil r.news ∙ is.news;
      wire = is.wire;
      rest = is.rest;
      own = is.own;
      others = is.others;
      distinct = is.distinct;
    })

pub two_reported : (v : Wire) (readers : List TagReader) (tag : ℕ) (x : ReaderSeen) (n k : LinkNews) (ns : List LinkNews) → IsOf tag n → IsOf tag k → NumbersAreDistinct (tags readers) → reader_in tag readers ≡ Some x
    → (stepped x tag n).reader.over ≡ true → ns ≡ n ∷ k ∷ [] → IsReported (start v readers) tag (stepped x tag n) (reported_all (start v readers) ns)
two_reported v readers tag x n k ns of also all there over e =
    let g : GrpcSeen = start v readers in
    let first : IsReported g tag (stepped x tag n) (grpc.reported g n) = subst (λ (r : Reported). IsReported g tag (stepped x tag n) r) (sym (of g)) (reported_one g tag n x all there) in
    subst (λ (ms : List LinkNews). IsReported g tag (stepped x tag n) (reported_all g ms)) (sym e) (second_reported g tag (stepped x tag n) (grpc.reported g n) k also over first)

-- the reader of an attempt before the frame
pub record HasReader (l : Link) (s : Seen) (readers : List TagReader) (n : ℕ) (a : Attempt) : Type 0 where
  pub reader : ReaderSeen
  pub there : reader_in a.place readers ≡ Some reader
  pub is : reader ≡ the_reader true (limit_of_attempt a s) (response_of l s n a)

reader_by : (l : Link) (s : Seen) (readers : List TagReader) (n : ℕ) (a : Attempt) (o : Option ReaderSeen) → reader_in a.place readers ≡ o → numbered s.links l.number ≡ Some l → IsOn l s n a
    → IsReaderOf s (Some a) o → HasReader l s readers n a
reader_by l s readers n a None at here on is = absurd is
reader_by l s readers n a (Some x) at here on is =
    let limit : ℕ = limit_of_attempt a s in
    let same : response a s ≡ response_of l s n a = response_is l s n a here on.out on.stream in
    let reads : Reads limit x (response_of l s n a) = record {
      head = ap (λ (p : Response). is_some p.head) (sym same) ∙ is.head;
      over = is.over;
      limit_is = is.limit;
      rest = ap (λ (p : Response). p.rest) (sym same) ∙ is.rest;
      whole = is.whole;
    } in
    let opened : x.opened ≡ true = sym is.opened ∙ ap (λ (o : Option ℕ). is_some o) on.stream in
    record { reader = x; there = at; is = is_the_reader limit x (response_of l s n a) reads ∙ ap (λ (b : Bool). the_reader b limit (response_of l s n a)) opened }

pub has_reader : (l : Link) (s : Seen) (readers : List TagReader) (n : ℕ) (a : Attempt) → SeesReaders l s readers → numbered s.links l.number ≡ Some l → IsOn l s n a → HasReader l s readers n a
has_reader l s readers n a is here on =
    reader_by l s readers n a (reader_in a.place readers) refl here on
    (subst (λ (o : Option Attempt). IsReaderOf s o (reader_in a.place readers)) (on_is l s a.place a on.there on.out) (is.each a.place))

-- and after it
own_reader : (l : Link) (s : Seen) (n : ℕ) (a : Attempt) (x : ReaderSeen) (q : Response) → numbered s.links l.number ≡ Some l → IsOn l s n a → response_of l s n a ≡ q → x.opened ≡ true
    → Reads (limit_of_attempt a s) x q → IsReader s a x
own_reader l s n a x q here on after opened reads =
    let same : response a s ≡ q = response_is l s n a here on.out on.stream ∙ after in
    record {
      opened = ap (λ (o : Option ℕ). is_some o) on.stream ∙ sym opened;
      head = ap (λ (p : Response). is_some p.head) same ∙ reads.head;
      over = reads.over;
      limit = reads.limit_is;
      rest = ap (λ (p : Response). p.rest) same ∙ reads.rest;
      whole = reads.whole;
    }

same_row : (k t : ℕ) → (k == t) ≡ true → k ≡ t
same_row k t e = grind (arith, nat_tests, e)

all_readers : (s : Seen) (l : Link) (readers : List TagReader) (a : Attempt) (k : ℕ) (b : Bool) → (k == a.place) ≡ b → ((k == a.place) ≡ false → IsReaderOf s (attempt_on l s k) (reader_in k readers))
    → IsReaderOf s (attempt_on l s a.place) (reader_in a.place readers) → IsReaderOf s (attempt_on l s k) (reader_in k readers)
all_readers s l readers a k true e others own = subst (λ (j : ℕ). IsReaderOf s (attempt_on l s j) (reader_in j readers)) (sym (same_row k a.place e)) own
all_readers s l readers a k false e others own = others e

-- what is known of the frame
pub record Known (l : Link) (s : Seen) (w : Wire) (g : ℕ → Line) (readers : List TagReader) (r : ReadFrame) (a : Attempt) (th : Then) (t : Stepped) (q : Response) (ns : List LinkNews) : Type 0 where
  pub sees : SeesStreams l s w g
  pub reads : SeesReaders l s readers
  pub on : IsOn l s r.frame.stream a
  pub stands : Stands l s w r.frame.stream a
  pub plain : (r.frame.kind == goaway_type) ≡ false
  pub open_ : l.over ≡ None
  pub after : response_of (read_link r l s) (frame_read_on r s l) r.frame.stream a ≡ q
  pub step : IsStep (limit_of_attempt a s) a.place (seen_at r) true t (response_of l s r.frame.stream a) q
  pub reported_ : IsReported (start (reported w r.frame).wire readers) a.place t (frame_reported w readers r.frame)
  pub follows : Follows (read_link r l s) (frame_read_on r s l) a r.frame.stream th (reported w r.frame).wire g
  pub reports_that : ReportsThat w stands.index (reported w r.frame) ns (is_end th)
  pub ends : is_end th ≡ true → is_done q ≡ true
  pub code : is_done q ≡ true → HasCode (has_written_end r.frame.stream l) q (code_of th)

codes : (l : Link) (s : Seen) (w : Wire) (g : ℕ → Line) (readers : List TagReader) (r : ReadFrame) (a : Attempt) (th : Then) (t : Stepped) (q : Response) (ns : List LinkNews) (e : RowEnd)
    → Known l s w g readers r a th t q ns
    → code_to_reset a e r.frame.stream (frame_read_on r s l) (read_link r l s) ≡ code_for e.cause (has_written_end r.frame.stream l) q
codes l s w g readers r a th t q ns e is =
    let m : Link = read_link r l s in
    code_is m (frame_read_on r s l) r.frame.stream a e q (link_here l s r is.sees.sees.at) (on_after l s r r.frame.stream a is.on) is.open_ is.after
    ∙ ap (λ (b : Bool). code_for e.cause b q) (ends_still l r (owed_for r.frame l s) r.frame.stream)

ends_with : (l : Link) (s : Seen) (w v : Wire) (g : ℕ → Line) (readers : List TagReader) (r : ReadFrame) (a : Attempt) (th : Then) (t : Stepped) (q : Response) (ns : List LinkNews)
    → Known l s w g readers r a th t q ns → is_done q ≡ true → (frame_reported w readers r.frame).link.link.wire ≡ v
    → Follows (read_link r l s) (frame_read_on r s l) a r.frame.stream (Ends (code_of th)) v g
    → IsEnded (read_link r l s) (frame_read_on r s l) (frame_reported w readers r.frame).link.link.wire g (frame_reported w readers r.frame).link.readers r.frame.stream a
ends_with l s w v g readers r a th t q ns is done wire follows =
    let rep : Reported = frame_reported w readers r.frame in
    let m : Link = read_link r l s in
    let u : Seen = frame_read_on r s l in
    let n : ℕ = r.frame.stream in
    let over : t.reader.over ≡ true = is.step.over ∙ done in
    let none : Option ReaderSeen = None in
    let has : HasCode (has_written_end n l) q (code_of th) = is.code done in
    record {
      code = code_of th;
      follows = subst (λ (x : Wire). Follows m u a n (Ends (code_of th)) x g) (sym wire) follows;
      by_end = λ o e end why. codes l s w g readers r a th t q ns e is ∙ ap (λ (c : RowCause). code_for c (has_written_end n l) q) why
          ∙ has.by_end o (sym (ap (λ (x : Response). x.end) is.after) ∙ end);
      by_cut = λ e end why. codes l s w g readers r a th t q ns e is ∙ ap (λ (c : RowCause). code_for c (has_written_end n l) q) (cut_is e.cause why)
          ∙ has.by_cut (sym (ap (λ (x : Response). x.end) is.after) ∙ end);
      readers_are = record {
        each = but_own l s w g readers rep.link.readers r a is.sees is.reads is.on is.plain is.reported_.others;
        own = is.reported_.own ∙ if_true t.reader.over none (Some t.reader) over;
        distinct = is.reported_.distinct;
      };
    }

goes_with : (l : Link) (s : Seen) (w : Wire) (g : ℕ → Line) (readers : List TagReader) (r : ReadFrame) (a : Attempt) (th : Then) (t : Stepped) (q : Response) (ns : List LinkNews)
    → Known l s w g readers r a th t q ns → is_done q ≡ false → SeesReaders (read_link r l s) (frame_read_on r s l) (frame_reported w readers r.frame).link.readers
goes_with l s w g readers r a th t q ns is going =
    let rep : Reported = frame_reported w readers r.frame in
    let m : Link = read_link r l s in
    let u : Seen = frame_read_on r s l in
    let n : ℕ = r.frame.stream in
    let none : Option ReaderSeen = None in
    let on : IsOn m u n a = on_after l s r n a is.on in
    let own : reader_in a.place rep.link.readers ≡ Some t.reader = is.reported_.own ∙ if_false t.reader.over none (Some t.reader) (is.step.over ∙ going) in
    let reader : IsReader u a t.reader = own_reader m u n a t.reader q (link_here l s r is.sees.sees.at) on is.after is.step.opened_is (is.step.reads going) in
    let here : IsReaderOf u (attempt_on m u a.place) (reader_in a.place rep.link.readers)
    = subst (λ (o : Option Attempt). IsReaderOf u o (reader_in a.place rep.link.readers)) (sym (on_is m u a.place a on.there on.out))
    (subst (λ (o : Option ReaderSeen). IsReaderOf u (Some a) o) (sym own) reader) in
    record {
      each = λ k. all_readers u m rep.link.readers a k (k == a.place) refl (but_own l s w g readers rep.link.readers r a is.sees is.reads is.on is.plain is.reported_.others k) here;
      distinct = is.reported_.distinct;
    }

-- by what becomes of the attempt
pub is_frame_reported : (l : Link) (s : Seen) (w : Wire) (g : ℕ → Line) (readers : List TagReader) (r : ReadFrame) (a : Attempt) (th : Then) (t : Stepped) (q : Response) (ns : List LinkNews) (d : Bool)
    → is_done q ≡ d → Known l s w g readers r a th t q ns
    → IsFrameReported l s (read_link r l s) (frame_read_on r s l) (frame_reported w readers r.frame) g r.frame.stream (seen_at r) a
is_frame_reported l s w g readers r a (Ends number) t q ns true done is =
    let p : Response = response_of l s r.frame.stream a in
    let v : Wire = (reported w r.frame).wire in
    let over : t.reader.over ≡ true = is.step.over ∙ done in
    let tag : is.stands.stream.tag ≡ a.place = is.stands.live.tag in
    let gone : cut v a.place cancel ≡ v
    = ap (λ (k : ℕ). cut v k cancel) (sym tag) ∙ cut_gone w v is.stands.index cancel is.stands.stream is.stands.there is.sees.sees.tags (is.reports_that.live refl) is.reports_that.waiting in
    let wire : (frame_reported w readers r.frame).link.link.wire ≡ v = is.reported_.wire ∙ if_true t.reader.over (cut v a.place cancel) v over ∙ gone in
    record {
      news = is.reported_.news ∙ is.step.news ∙ ap (gained a.place (seen_at r) p) (sym is.after);
      goes = λ never. absurd (let no : false ≡ true = sym never ∙ ap is_done is.after ∙ done in let out : ⊥ = (cc) in out);
      unreset = λ never. absurd (let no : false ≡ true = sym never ∙ ap is_done is.after ∙ done in let out : ⊥ = (cc) in out);
      ends = λ e. ends_with l s w v g readers r a (Ends number) t q ns is done wire is.follows;
    }
is_frame_reported l s w g readers r a stream.GoesOn t q ns true done is =
    let p : Response = response_of l s r.frame.stream a in
    let m : Link = read_link r l s in
    let u : Seen = frame_read_on r s l in
    let v : Wire = (reported w r.frame).wire in
    let over : t.reader.over ≡ true = is.step.over ∙ done in
    let wire : (frame_reported w readers r.frame).link.link.wire ≡ cut v a.place cancel = is.reported_.wire ∙ if_true t.reader.over (cut v a.place cancel) v over in
    record {
      news = is.reported_.news ∙ is.step.news ∙ ap (gained a.place (seen_at r) p) (sym is.after);
      goes = λ never. absurd (let no : false ≡ true = sym never ∙ ap is_done is.after ∙ done in let out : ⊥ = (cc) in out);
      unreset = λ never. absurd (let no : false ≡ true = sym never ∙ ap is_done is.after ∙ done in let out : ⊥ = (cc) in out);
      ends = λ e. ends_with l s w (cut v a.place cancel) g readers r a stream.GoesOn t q ns is done wire
          (cuts_keep m u v g r.frame.stream cancel a is.follows.0 (on_after l s r r.frame.stream a is.on) (is.reports_that.fresh refl));
    }
is_frame_reported l s w g readers r a (Ends number) t q ns false done is =
    absurd (let no : false ≡ true = sym done ∙ is.ends refl in let out : ⊥ = (cc) in out)
is_frame_reported l s w g readers r a stream.GoesOn t q ns false going is =
    let p : Response = response_of l s r.frame.stream a in
    let m : Link = read_link r l s in
    let u : Seen = frame_read_on r s l in
    let v : Wire = (reported w r.frame).wire in
    let over : t.reader.over ≡ false = is.step.over ∙ going in
    let wire : (frame_reported w readers r.frame).link.link.wire ≡ v = is.reported_.wire ∙ if_false t.reader.over (cut v a.place cancel) v over in
    let parts = neither (is_some q.end) q.large going in
    let sees : SeesStreams m u v g
    = is.follows.1 (ap (λ (x : Response). x.end) is.after ∙ no_value q.end parts.0) (ap (λ (x : Response). x.large) is.after ∙ parts.1) in
    record {
      news = is.reported_.news ∙ is.step.news ∙ ap (gained a.place (seen_at r) p) (sym is.after);
      goes = λ e. (subst (λ (x : Wire). SeesStreams m u x g) (sym wire) sees, goes_with l s w g readers r a stream.GoesOn t q ns is going);
      unreset = λ e. ap (λ (x : Wire). x.queue.fresh) wire ∙ is.reports_that.fresh refl;
      ends = λ never. absurd (let no : true ≡ false = sym never ∙ ap is_done is.after ∙ going in let out : ⊥ = (cc) in out);
    }
  where
    neither : (a b : Bool) → (a || b) ≡ false → (a ≡ false) × (b ≡ false)
    neither false b e = (refl, e)
    neither true b e = absurd (let no : ⊥ = (cc) in no)
