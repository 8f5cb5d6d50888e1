-- What is written leaves the readers; HEADERS open the stream of one.
use Rattle.std.proofs.Common.{◌≡◌, ◌<◌, ◌∷◌, ◌++◌, ◌&&◌, ◌==◌, not, ap, arith, refl, subst, sym, ◌∙◌, Bool, true, false, List, [], Option, None, Some, ℕ, ◌+◌, ◌*◌, zero, suc, cond, drop, filter, take, if◌then◌else◌, is_none, is_some, length, map, option_and_then, option_map, slice_get, slice_set}
use Rattle.std.specs.List.{AllByRecursion}
use Rattle.std.specs.Option.{option_map_or}
use Rattle.std.proofs.Math.Seq.{drop-append_seam, drop-length}
use Rattle.std.proofs.lemmas.Bool.{eqb-true}
use Rattle.grpc_link.specs.Links.{opened_all, opened_one, reader_in}
use Rattle.grpc_link.specs.Readers.{ReaderSeen}
use Rattle.grpc_link.specs.declared.readers.TagReader.{TagReader}
use Rattle.h2_frame.specs.Frames.{FrameSeen}
use Rattle.h2_frame.specs.Numbers.{data_type}
use Rattle.h2_frame.specs.Sent.{data_frame, headers_frame}
use Rattle.h2_link.specs.Drains.{head_block, may_open, named, next, next_control, next_head, opened_between, opens, sender, sent_control, sent_head, stream_opened}
use Rattle.h2_link.specs.Drains.{Sent as Sending}
use Rattle.h2_link.specs.Feeds.{Line}
use Rattle.h2_link.specs.Wire.{Wire}
use Rattle.h2_link.specs.declared.control.Control.{Control}
use Rattle.h2_link.specs.declared.live.LiveStream.{LiveStream}
use Rattle.link_actions.proofs.DataSent.{IsShare, share_found}
use Rattle.link_actions.proofs.Keeping.{IsOpening, opening}
use Rattle.link_actions.proofs.Kept.{IsPlain, frame_of_by, is_plain}
use Rattle.link_actions.proofs.Lists.{on_if}
use Rattle.link_actions.proofs.Opened.{IsFirst, first_is, waits}
use Rattle.link_actions.proofs.Without.{all_filter}
use Rattle.link_actions.proofs.Written.{changed_here, is_noted, noted}
use Rattle.link_actions.specs.Laws.{with_written}
use Rattle.link_actions.proofs.LossActions.Calls.{changed_any}
use Rattle.link_actions.proofs.LossActions.Over.{all_go}
use Rattle.link_actions.specs.LossActions.Sees.{IsGoing}
use Rattle.link_actions.proofs.ReaderActions.Placed.{pick}
use Rattle.link_actions.proofs.ReaderActions.Put.{IsPut, open_one}
use Rattle.link_actions.specs.ReaderActions.Laws.{WritesKeepReaders}
use Rattle.link_actions.proofs.ResponseActions.Headless.{headless}
use Rattle.link_actions.proofs.ResponseActions.Kept.{IsThere, moved, on_is, same_reader}
use Rattle.link_actions.specs.ResponseActions.Readers.{IsReader, IsReaderOf, SeesReaders, attempt_on}
use Rattle.session_actions.specs.Attempts.{with_attempt}
use Rattle.session_actions.specs.Links.{is_retiring}
use Rattle.session_actions.specs.Reading.{is_outstanding_on, outstanding_on}
use Rattle.session_actions.specs.Responses.{limit_of_attempt, response, response_by, response_in, with_traffic}
use Rattle.session_actions.specs.Words.{numbered}
use Rattle.session_actions.specs.Writing.{frame_written, stream_opened_by, waiting_on, with_stream}
use Rattle.session_actions.specs.declared.attempt.Attempt.{Attempt}
use Rattle.session_actions.specs.declared.link.Link.{Link}
use Rattle.session_actions.specs.declared.link.Sent.{Sent}
use Rattle.session_actions.specs.declared.link.Sent.TheVariants as sent
use Rattle.session_actions.specs.declared.link.Traffic.TheVariants as traffic
use Rattle.session_actions.specs.declared.response.Response.{Response}
use Rattle.session_actions.specs.declared.seen.Seen.{Seen}
use Rattle.link_actions.proofs.StreamActions.Going.{response_is}
use Rattle.link_actions.proofs.StreamActions.Responses.{IsLike, goes_on, like_written, response_wrote}
use Rattle.link_actions.specs.StreamActions.Laws.{IsOn, IsWrittenOn}
use Rattle.link_actions.specs.StreamActions.Sees.{IsUnreceived, SeesStreams, response_of}
use Rattle.link_actions.proofs.Without.{place_is}

-- what is written leaves the bytes of a message that is not whole
write_rest : (limit k : ℕ) (p : Response) (z : Sent) → (with_traffic limit k p (traffic.Written z)).rest ≡ p.rest
write_rest limit k p sent.Preface = refl
write_rest limit k p (sent.Frame f) =
    on_if (λ (q : Response). q.rest ≡ p.rest) ((f.kind == data_type) && (f.stream == k)) (record p { used = p.used + length f.payload }) p (λ e. refl) (λ e. refl)

rest_wrote : (limit k : ℕ) (l : Link) (z : Sent) → (response_in limit k l.traffic).end ≡ None → (response_in limit k l.traffic).large ≡ false
    → (response_in limit k (with_written z l).traffic).rest ≡ (response_in limit k l.traffic).rest
rest_wrote limit k l z goes small =
    let p : Response = response_in limit k l.traffic in
    ap (λ (q : Response). q.rest) (response_wrote limit k l z ∙ goes_on limit k p (traffic.Written z) goes small) ∙ write_rest limit k p z

link_noted : (l : Link) (s : Seen) (z : Sent) → numbered s.links l.number ≡ Some l → numbered (noted z l s).links l.number ≡ Some (with_written z l)
link_noted l s z at = changed_here (with_written z) l.number s.links l at

noted_by : (l : Link) (s : Seen) (w : Wire) (g : ℕ → Line) (z : Sent) (k : ℕ) (b : Attempt) (y : ReaderSeen) (o : Option ℕ) → b.row.stream ≡ o → SeesStreams l s w g → IsThere l s k b
    → IsReader s b y → IsReader (noted z l s) b y
noted_by l s w g z k b y None stream is there reads =
    let u : Seen = noted z l s in
    let same : response b u ≡ response b s = ap (response_by b u) stream ∙ sym (ap (response_by b s) stream) in
    same_reader s u b y (ap (λ (p : Response). is_some p.head) same) (ap (λ (p : Response). p.rest) same) refl reads
noted_by l s w g z k b y (Some j) stream is there reads =
    let u : Seen = noted z l s in
    let m : Link = with_written z l in
    let limit : ℕ = limit_of_attempt b s in
    let place : b.place ≡ k = place_is k s.attempts b is.sees.places there.there in
    let on : IsOn l s j b = record { there = ap (numbered s.attempts) place ∙ there.there; out = there.out; stream = stream } in
    let going : IsGoing (response_of l s j b) = all_go l s w g j b is on in
    let before : response b s ≡ response_of l s j b = response_is l s j b is.sees.at there.out stream in
    let after : response b u ≡ response_of m u j b = response_is m u j b (link_noted l s z is.sees.at) there.out stream in
    let like : IsLike (response_in limit j l.traffic) (response_in limit j m.traffic) = like_written limit j l z going.goes going.small in
    same_reader s u b y
    (ap (λ (p : Response). is_some p.head) after ∙ ap (λ x. is_some x) like.head ∙ sym (ap (λ (p : Response). is_some p.head) before))
    (ap (λ (p : Response). p.rest) after ∙ rest_wrote limit j l z going.goes going.small ∙ sym (ap (λ (p : Response). p.rest) before)) refl reads

all_noted : (l : Link) (s : Seen) (w : Wire) (g : ℕ → Line) (z : Sent) (readers : List TagReader) → SeesStreams l s w g → SeesReaders l s readers → SeesReaders (with_written z l) (noted z l s) readers
all_noted l s w g z readers is sees = record {
  each = λ k. moved l (with_written z l) s (noted z l s) k (reader_in k readers) (reader_in k readers) refl refl
      (λ b y there i. noted_by l s w g z k b y b.row.stream refl is there i) (sees.each k);
  distinct = sees.distinct;
}

-- a control frame
none_opened : (w v : Wire) (readers : List TagReader) → v.live ≡ w.live → opened_all (opened_between w v) readers ≡ readers
none_opened w v readers same =
    ap (λ (xs : List LiveStream). opened_all (map named (drop (length w.live) xs)) readers) same
    ∙ ap (λ (xs : List LiveStream). opened_all (map named xs) readers) (drop-length w.live)

control_keeps : (l : Link) (s : Seen) (w : Wire) (g : ℕ → Line) (c : Control) (readers : List TagReader) → SeesStreams l s w g → SeesReaders l s readers → (k : IsWrittenOn l s (sent_control w g c))
    → SeesReaders (with_written k.sent l) (frame_written l.number k.sent s) (opened_all (opened_between w (sent_control w g c).wire) readers)
control_keeps l s w g c readers is sees k =
    let z : Sent = k.sent in
    let m : Link = with_written z l in
    let plain : IsPlain z l = is_plain z l c k.same in
    let u_is : frame_written l.number z s ≡ noted z l s = is_noted l s z is.sees.at ∙ ap (noted z l) (plain.stays s) in
    let u : Seen = frame_written l.number z s in
    subst (SeesReaders m u) (sym (none_opened w (sent_control w g c).wire readers refl))
    (subst (λ (v : Seen). SeesReaders m v readers) (sym u_is) (all_noted l s w g z readers is sees))

-- DATA
drop_set : (xs : List LiveStream) (i : ℕ) (v : LiveStream) → drop (length xs) (slice_set xs i v) ≡ []
drop_set [] i v = refl
drop_set (x ∷ xs) zero v = drop-length xs
drop_set (x ∷ xs) (suc i) v = drop_set xs i v

data_keeps : (l : Link) (s : Seen) (w : Wire) (g : ℕ → Line) (x : Sending) (readers : List TagReader) → SeesStreams l s w g → SeesReaders l s readers → IsShare w g 0 w.live x
    → (k : IsWrittenOn l s x) → SeesReaders (with_written k.sent l) (frame_written l.number k.sent s) (opened_all (opened_between w x.wire) readers)
data_keeps l s w g x readers is sees share k =
    let y : LiveStream = share.stream in
    let q : ℕ × Bool = share.share in
    let f : FrameSeen = data_frame y.number (take q.0 (g y.tag).left) q.1 in
    let sent_is : k.sent ≡ sent.Frame f = frame_of_by k.sent f (k.same ∙ share.frame) in
    let opened_ : opened_all (opened_between w x.wire) readers ≡ readers
    = ap (λ (v : Wire). opened_all (map named (drop (length w.live) v.live)) readers) share.wire
    ∙ ap (λ (xs : List LiveStream). opened_all (map named xs) readers) (drop_set w.live share.at _) in
    let F : Sent → Type 0 = λ z. SeesReaders (with_written z l) (frame_written l.number z s) readers in
    subst (SeesReaders (with_written k.sent l) (frame_written l.number k.sent s)) (sym opened_)
    (subst F (sym sent_is)
    (subst (λ (v : Seen). SeesReaders (with_written (sent.Frame f) l) v readers) (sym (is_noted l s (sent.Frame f) is.sees.at)) (all_noted l s w g (sent.Frame f) readers is sees)))

-- HEADERS: the attempt whose stream they open
kept_pass : (l : Link) (xs : List Attempt) → AllByRecursion (λ a. is_outstanding_on l a ≡ true) (filter (is_outstanding_on l) xs)
kept_pass l [] = tt
kept_pass l (x ∷ xs) = pass_by l x (filter (is_outstanding_on l) xs) (is_outstanding_on l x) refl (kept_pass l xs)
  where
    pass_by : (l : Link) (x : Attempt) (ys : List Attempt) (b : Bool) → is_outstanding_on l x ≡ b → AllByRecursion (λ a. is_outstanding_on l a ≡ true) ys
        → AllByRecursion (λ a. is_outstanding_on l a ≡ true) (cond b (x ∷ ys) ys)
    pass_by l x ys true e all = (e, all)
    pass_by l x ys false e all = all

first_has : (P : Attempt → Type 0) (xs : List Attempt) (a : Attempt) → AllByRecursion P xs → slice_get xs 0 ≡ Some a → P a
first_has P [] a all e = absurd (let no : ⊥ = (cc) in no)
first_has P (x ∷ xs) a all e = (let same : x ≡ a = (cc) in subst P same all.0)

not_retiring : (a b c : Bool) → (not a && b && c) ≡ true → a ≡ false
not_retiring false b c e = refl
not_retiring true b c e = absurd (let no : ⊥ = (cc) in no)

opens_open : (b : Bool) (o : Option ℕ) (tag : ℕ) → (if b then o else None) ≡ Some tag → b ≡ true
opens_open true o tag e = refl
opens_open false o tag e = absurd (let no : ⊥ = (cc) in no)

-- the attempt that waits, and its reader
pub record IsWaiting (l : Link) (s : Seen) (a : Attempt) (readers : List TagReader) : Type 0 where
  pub there : numbered s.attempts a.place ≡ Some a
  pub out : is_outstanding_on l a ≡ true
  pub streamless : a.row.stream ≡ None
  pub reader : ReaderSeen
  pub own : reader_in a.place readers ≡ Some reader
  pub reads : IsReader s a reader

reader_of_it : (s : Seen) (a : Attempt) (x : Option ReaderSeen) → IsReaderOf s (Some a) x → (y : ReaderSeen) × (x ≡ Some y) × IsReader s a y
reader_of_it s a None is = absurd is
reader_of_it s a (Some y) is = (y, refl, is)

waiting : (l : Link) (s : Seen) (a : Attempt) (n : ℕ) (readers : List TagReader) → SeesReaders l s readers → IsFirst l n 1 s.attempts a → slice_get (waiting_on l s) 0 ≡ Some a
    → IsWaiting l s a readers
waiting l s a n readers sees first at =
    let place : a.place ≡ 1 + first.index = first.place in
    let index : a.place ≡ suc first.index = omega (arith, place) in
    let there : numbered s.attempts a.place ≡ Some a = ap (numbered s.attempts) index ∙ first.there in
    let P : Attempt → Type 0 = λ b. is_outstanding_on l b ≡ true in
    let out : is_outstanding_on l a ≡ true = first_has P (waiting_on l s) a (all_filter P waits (outstanding_on l s) (kept_pass l s.attempts)) at in
    let r = reader_of_it s a (reader_in a.place readers) (subst (λ (o : Option Attempt). IsReaderOf s o (reader_in a.place readers)) (on_is l s a.place a there out) (sees.each a.place)) in
    record { there = there; out = out; streamless = first.waits_; reader = r.0; own = r.1; reads = r.2 }

own_opened : (l : Link) (s u : Seen) (m : Link) (a : Attempt) (n : ℕ) (x : ReaderSeen) → numbered u.links m.number ≡ Some m → is_outstanding_on m (with_stream n a) ≡ true
    → limit_of_attempt (with_stream n a) u ≡ limit_of_attempt a s → a.row.stream ≡ None → IsUnreceived (response_in (limit_of_attempt a s) n m.traffic) → IsReader s a x
    → IsReader u (with_stream n a) (record x { opened = true })
own_opened l s u m a n x at out limit streamless un reads =
    let k : ℕ = limit_of_attempt a s in
    let p : Response = response_in k n m.traffic in
    let after : response (with_stream n a) u ≡ p = response_is m u n (with_stream n a) at out refl ∙ ap (λ (i : ℕ). response_in i n m.traffic) limit in
    let before : response a s ≡ response_by a s None = ap (response_by a s) streamless in
    let none : is_some p.head ≡ false = ap (λ o. is_some o) un.head in
    record {
      opened = refl;
      head = ap (λ (q : Response). is_some q.head) after ∙ none ∙ sym (ap (λ (q : Response). is_some q.head) before) ∙ reads.head;
      over = reads.over;
      limit = limit ∙ reads.limit;
      rest = ap (λ (q : Response). q.rest) after ∙ headless k n m.traffic none ∙ sym (ap (λ (q : Response). q.rest) before) ∙ reads.rest;
      whole = reads.whole;
    }

attempt_kept : (l : Link) (n t k : ℕ) (o : Option Attempt) → (k == t) ≡ false → option_and_then (pick l) (option_map (λ x. if k == t then with_stream n x else x) o) ≡ option_and_then (pick l) o
attempt_kept l n t k None off = refl
attempt_kept l n t k (Some x) off = ap (λ (c : Bool). pick l (if c then with_stream n x else x)) off

opened_by : (l : Link) (s : Seen) (w : Wire) (g : ℕ → Line) (z : Sent) (a : Attempt) (n k : ℕ) (readers after : List TagReader) (b : Bool) → (k == a.place) ≡ b → SeesStreams l s w g
    → SeesReaders l s readers → (at : IsWaiting l s a readers) → IsUnreceived (response_in (limit_of_attempt a s) n (with_written z l).traffic)
    → IsPut a.place (record at.reader { opened = true }) readers after
    → IsReaderOf (noted z l (with_attempt (with_stream n) a.place s)) (attempt_on (with_written z l) (noted z l (with_attempt (with_stream n) a.place s)) k) (reader_in k after)
opened_by l s w g z a n k readers after true same is sees at un put =
    let m : Link = with_written z l in
    let u : Seen = noted z l (with_attempt (with_stream n) a.place s) in
    let e : k ≡ a.place = eqb-true k a.place same in
    let here : attempt_on m u a.place ≡ Some (with_stream n a)
    = ap (λ (o : Option Attempt). option_and_then (pick l) o) (changed_here (with_stream n) a.place s.attempts a at.there)
    ∙ ap (λ (c : Bool). if c then Some (with_stream n a) else None) at.out in
    subst (λ (j : ℕ). IsReaderOf u (attempt_on m u j) (reader_in j after)) (sym e)
    (subst (λ (o : Option Attempt). IsReaderOf u o (reader_in a.place after)) (sym here)
    (subst (λ (y : Option ReaderSeen). IsReaderOf u (Some (with_stream n a)) y) (sym put.own)
    (own_opened l s u m a n at.reader (link_noted l s z is.sees.at) at.out refl at.streamless un at.reads)))
opened_by l s w g z a n k readers after false other is sees at un put =
    let m : Link = with_written z l in
    let u : Seen = noted z l (with_attempt (with_stream n) a.place s) in
    let same : attempt_on m u k ≡ attempt_on l s k
    = ap (λ (o : Option Attempt). option_and_then (pick l) o) (changed_any (with_stream n) a.place k s.attempts) ∙ attempt_kept l n a.place k (numbered s.attempts k) other in
    moved l m s u k (reader_in k readers) (reader_in k after) same (put.others k other)
    (λ b y there i. again s u b y (noted_by l s w g z k b y b.row.stream refl is there i)) (sees.each k)
  where
    again : (s u : Seen) (b : Attempt) (y : ReaderSeen) → IsReader (noted z l s) b y → IsReader (noted z l (with_attempt (with_stream n) a.place s)) b y
    again s u b y i = record { opened = i.opened; head = i.head; over = i.over; limit = i.limit; rest = i.rest; whole = i.whole }

head_keeps : (l : Link) (s : Seen) (w : Wire) (g : ℕ → Line) (tag : ℕ) (readers : List TagReader) → SeesStreams l s w g → SeesReaders l s readers → opens w ≡ Some tag
    → (k : IsWrittenOn l s (sent_head w g tag)) → SeesReaders (with_written k.sent l) (frame_written l.number k.sent s) (opened_all (opened_between w (sent_head w g tag).wire) readers)
head_keeps l s w g tag readers is sees e k =
    let at : IsOpening l s tag = opening l s w g tag is.sees e in
    let a : Attempt = at.attempt in
    let n : ℕ = 2 * w.opened + 1 in
    let f : FrameSeen = headers_frame n (head_block w.resizes (g tag).fields) in
    let z : Sent = sent.Frame f in
    let sent_is : k.sent ≡ z = frame_of_by k.sent f k.same in
    let m : Link = with_written z l in
    let first : IsFirst l n 1 s.attempts a = first_is l n 1 s.attempts a is.sees.places at.first in
    let wait : IsWaiting l s a readers = waiting l s a n readers sees first at.first in
    let u : Seen = noted z l (with_attempt (with_stream n) a.place s) in
    let opened_ : stream_opened_by z l s ≡ with_attempt (with_stream n) a.place s
    = ap (λ (o : Option Attempt). option_map_or (λ b. with_attempt (with_stream n) b.place s) o s) at.first in
    let u_is : frame_written l.number z s ≡ u = is_noted l s z is.sees.at ∙ ap (noted z l) opened_ in
    let going : is_retiring l ≡ false = sym is.sees.sees.reads.retiring ∙ not_retiring w.retiring _ _ (opens_open (may_open w) (slice_get w.waiting 0) tag e) in
    let above : 2 * w.opened < n = omega arith in
    let limit : ℕ = limit_of_attempt a s in
    let un : IsUnreceived (response_in limit n l.traffic) = is.unreceived limit n above going in
    let like : IsLike (response_in limit n l.traffic) (response_in limit n m.traffic) = like_written limit n l z un.goes un.small in
    let un_ : IsUnreceived (response_in limit n m.traffic) = record { head = like.head ∙ un.head; goes = like.end ∙ un.goes; small = like.large ∙ un.small } in
    let after : List TagReader = opened_one a.place readers in
    let put : IsPut a.place (record wait.reader { opened = true }) readers after = open_one a.place wait.reader readers wait.own sees.distinct in
    let list : opened_all (opened_between w (sent_head w g tag).wire) readers ≡ after
    = ap (λ (xs : List LiveStream). opened_all (map named xs) readers) (drop-append_seam w.live (stream_opened w tag ∷ []))
    ∙ ap (λ (t : ℕ). opened_one t readers) (sym at.place) in
    let F : Sent → Type 0 = λ q. SeesReaders (with_written q l) (frame_written l.number q s) after in
    subst (SeesReaders (with_written k.sent l) (frame_written l.number k.sent s)) (sym list)
    (subst F (sym sent_is)
    (subst (λ (v : Seen). SeesReaders m v after) (sym u_is)
    (record { each = λ j. opened_by l s w g z a n j readers after (j == a.place) refl is sees wait un_ put; distinct = put.distinct })))

-- whichever it is
abbrev Keeps : Link → Seen → Wire → List TagReader → Sending → Type 0
Keeps l s w readers x = (k : IsWrittenOn l s x) → SeesReaders (with_written k.sent l) (frame_written l.number k.sent s) (opened_all (opened_between w x.wire) readers)

by_opens : (l : Link) (s : Seen) (w : Wire) (g : ℕ → Line) (x : Sending) (readers : List TagReader) (o : Option ℕ) → opens w ≡ o → SeesStreams l s w g → SeesReaders l s readers
    → next_head w g o ≡ Some x → Keeps l s w readers x
by_opens l s w g x readers (Some tag) e is sees found =
    let same : sent_head w g tag ≡ x = (cc) in
    subst (Keeps l s w readers) same (λ k. head_keeps l s w g tag readers is sees e k)
by_opens l s w g x readers None e is sees found = λ k. data_keeps l s w g x readers is sees (share_found w g 0 w.live x found) k

by_queue : (l : Link) (s : Seen) (w : Wire) (g : ℕ → Line) (x : Sending) (readers : List TagReader) (o : Option Control) → slice_get w.queue.items 0 ≡ o → SeesStreams l s w g
    → SeesReaders l s readers → next_control w g o ≡ Some x → Keeps l s w readers x
by_queue l s w g x readers (Some c) e is sees found =
    let same : sent_control w g c ≡ x = (cc) in
    subst (Keeps l s w readers) same (λ k. control_keeps l s w g c readers is sees k)
by_queue l s w g x readers None e is sees found = by_opens l s w g x readers (opens w) refl is sees found

pub writes_keep_readers : WritesKeepReaders
writes_keep_readers l s w g x readers is sees found k = by_queue l s w g x readers (slice_get w.queue.items 0) refl is sees found k
