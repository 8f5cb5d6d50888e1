-- GOAWAY: what is reported, and the readers that are left.
use Rattle.std.proofs.Common.{◌≡◌, ◌∷◌, ◌++◌, ◌||◌, ◌==◌, not, ap, arith, refl, subst, sym, ◌∙◌, Bool, true, false, List, [], Option, None, Some, Ok, ℕ, ◌+◌, append_assoc, cond, filter, if◌then◌else◌, is_none, is_some, length, map, nat_lt, unwrap_or}
use Rattle.std.specs.List.{AllByRecursion}
use Rattle.std.proofs.lemmas.Bool.{eqb-true}
use Rattle.std.proofs.lemmas.Bool.Decides.{nat_tests}
use Rattle.attempt_ledger.specs.declared.news.News.{News}
use Rattle.attempt_ledger.specs.declared.news.News.TheVariants as news
use Rattle.grpc_base.specs.ErrorCodes.{cancel}
use Rattle.grpc_link.specs.Ends.{unseen_end}
use Rattle.grpc_link.specs.Links.{GrpcSeen, found, reader_in, reported_all, reported_of}
use Rattle.grpc_link.specs.Links as grpc
use Rattle.grpc_link.specs.Links.{Report as Reported}
use Rattle.grpc_link.specs.Readers.{ReaderSeen, Stepped, ended, read_on, stepped}
use Rattle.grpc_link.specs.declared.readers.TagReader.{TagReader}
use Rattle.h2_frame.specs.Frames.{FrameSeen}
use Rattle.h2_frame.specs.Numbers.{continuation_type, data_type, goaway_type, headers_type, ping_type, rst_stream_type, settings_type}
use Rattle.h2_frame.specs.Payloads.{last_stream, reset_code}
use Rattle.h2_link.specs.LinkErrors as link
use Rattle.h2_link.specs.Queues.{sealed}
use Rattle.h2_link.specs.Steps.{applied, continuation_reported, data_reported, found_from, goaway_reported, headers_reported, is_above, is_numbered, is_tagged, is_within, judged, outcome, ping_reported, plain_reported, read_after, reset_reported, settings_reported, reported, unseen, unseen_stream}
use Rattle.h2_link.specs.Wire.{Seen as HalfSeen, Report, Wire}
use Rattle.h2_link.specs.declared.live.LiveStream.{LiveStream}
use Rattle.h2_link.specs.declared.news.LinkNews.{LinkNews}
use Rattle.h2_link.specs.declared.news.LinkNews.TheVariants as report
use Rattle.lb_policy.specs.Table.{is_one_of}
use Rattle.link_actions.proofs.Receiving.{not_kind}
use Rattle.link_actions.proofs.Lists.{both_if, if_false, if_true, none_of, on_if}
use Rattle.link_actions.proofs.Opened.{put_all}
use Rattle.link_actions.proofs.Without.{all_filter}
use Rattle.link_actions.specs.Sees.{NumbersAreDistinct, StreamsAreLive, AttemptsStandInPlace, by_stream}
use Rattle.link_actions.proofs.LossActions.Losses.{all_there}
use Rattle.link_actions.specs.LossActions.Sees.{end_news}
use Rattle.link_actions.proofs.ResponseActions.Found.{IsReported, tags, reported_one}
use Rattle.link_actions.proofs.ResponseActions.Frames.{HasReader, has_reader, seen_same, start}
use Rattle.link_actions.proofs.ResponseActions.Gone.{cut_free}
use Rattle.link_actions.proofs.ResponseActions.Kept.{on_is}
use Rattle.link_actions.specs.ResponseActions.Laws.{GoawaysAreReported, ended_as, left_out_end, frame_reported, seen_at}
use Rattle.link_actions.specs.ResponseActions.Readers.{IsReaderOf, SeesReaders}
use Rattle.session_actions.specs.AttemptEnds.{unsent_end}
use Rattle.session_actions.specs.Reading.{is_outstanding_on, outstanding_on}
use Rattle.session_actions.specs.Words.{numbered}
use Rattle.session_actions.specs.Writing.{streaming_on, waiting_on}
use Rattle.session_actions.specs.declared.attempt.Attempt.{Attempt}
use Rattle.session_actions.specs.declared.link.Link.{Link}
use Rattle.session_actions.specs.declared.response.Outcome.{Outcome}
use Rattle.session_actions.specs.declared.seen.Seen.{Seen}
use Rattle.link_actions.specs.StreamActions.Laws.{IsOn, is_left_out, left_out}

-- a reader of a tag that goes on, and whether its stream was opened
pub record Continues (opened : Bool) (g : GrpcSeen) (t : ℕ) : Type 0 where
  pub reader : ReaderSeen
  pub there : reader_in t g.readers ≡ Some reader
  pub over : reader.over ≡ false
  pub opened_is : reader.opened ≡ opened

-- a tag that the link itself has no more
pub record IsFree (w : Wire) (t : ℕ) : Type 0 where
  pub streams : found_from (is_tagged t) 0 w.live ≡ None
  pub waits : is_one_of w.waiting t ≡ false

abbrev ended_news : Bool → ℕ → ℕ → News
ended_news opened seen t = news.Ended t (unseen_end opened seen)

-- all of these tags are unseen
pub record AreUnseen (g : GrpcSeen) (ts : List ℕ) (ns : List News) (r : Reported) : Type 0 where
  pub news_are : r.news ≡ ns
  pub same : r.link.link ≡ g.link
  pub gone : (t : ℕ) → is_one_of ts t ≡ true → reader_in t r.link.readers ≡ None
  pub kept : (t : ℕ) → is_one_of ts t ≡ false → reader_in t r.link.readers ≡ reader_in t g.readers
  pub distinct : NumbersAreDistinct (tags r.link.readers)

turned : (k t : ℕ) → (k == t) ≡ false → (t == k) ≡ false
turned k t e = grind (arith, nat_tests, e)

-- a property of each but one
others_have : (P Q : ℕ → Type 0) (t : ℕ) (ts : List ℕ) → is_one_of ts t ≡ false → ((k : ℕ) → (k == t) ≡ false → P k → Q k) → AllByRecursion P ts → AllByRecursion Q ts
others_have P Q t [] none keeps all = tt
others_have P Q t (k ∷ ts) none keeps all =
    let parts = none_of (k == t) (is_one_of ts t) none in (keeps k parts.0 all.0, others_have P Q t ts parts.1 keeps all.1)

same_half : (x y : HalfSeen) → x.wire ≡ y.wire → x.rest ≡ y.rest → x ≡ y
same_half x y e h = ap (λ (w : Wire). record x { wire = w }) e ∙ ap (λ (bs : List ℕ). record y { rest = bs }) h

one_unseen : (g : GrpcSeen) (t seen : ℕ) (opened : Bool) (x : ReaderSeen) → x.over ≡ false → x.opened ≡ opened → stepped x t (report.Unseen t seen) ≡ ended x t (unseen_end opened seen)
one_unseen g t seen opened x going is =
    if_false x.over (record { reader = x; news = [] }) (read_on x t (report.Unseen t seen)) going ∙ ap (λ (b : Bool). ended x t (unseen_end b seen)) is

gone_by : (a b : Bool) (X : Type 0) → (a || b) ≡ true → (b ≡ true → X) → (b ≡ false → a ≡ true → X) → X
gone_by a true X e f h = f refl
gone_by true false X e f h = h refl refl
gone_by false false X e f h = absurd (let no : ⊥ = (cc) in no)

pub all_unseen : (g : GrpcSeen) (ts : List ℕ) (seen : ℕ) (opened : Bool) → NumbersAreDistinct (tags g.readers) → NumbersAreDistinct ts → AllByRecursion (Continues opened g) ts → AllByRecursion (IsFree g.link.wire) ts
    → AreUnseen g ts (map (ended_news opened seen) ts) (reported_all g (map (unseen seen) ts))
all_unseen g [] seen opened all ones goes free = record {
  news_are = refl;
  same = refl;
  gone = λ t e. absurd (let no : ⊥ = (cc) in no);
  kept = λ t e. refl;
  distinct = all;
}
all_unseen g (t ∷ ts) seen opened all ones goes free =
    let x : ReaderSeen = goes.0.reader in
    let n : LinkNews = report.Unseen t seen in
    let r : Reported = grpc.reported g n in
    let none : Option ReaderSeen = None in
    let step : stepped x t n ≡ ended x t (unseen_end opened seen) = one_unseen g t seen opened x goes.0.over goes.0.opened_is in
    let is : IsReported g t (ended x t (unseen_end opened seen)) r = subst (λ (k : Stepped). IsReported g t k r) step (reported_one g t n x all goes.0.there) in
    let wire : r.link.link.wire ≡ g.link.wire = is.wire ∙ cut_free g.link.wire t cancel free.0.streams free.0.waits in
    let same : r.link.link ≡ g.link = same_half r.link.link g.link wire is.rest in
    let off : is_one_of ts t ≡ false = ones.0 in
    let next : AllByRecursion (Continues opened r.link) ts
    = others_have (Continues opened g) (Continues opened r.link) t ts off
    (λ k apart y. record { reader = y.reader; there = is.others k apart ∙ y.there; over = y.over; opened_is = y.opened_is }) goes.1 in
    let still : AllByRecursion (IsFree r.link.link.wire) ts = subst (λ (w : Wire). AllByRecursion (IsFree w) ts) (sym wire) free.1 in
    let rest : AreUnseen r.link ts (map (ended_news opened seen) ts) (reported_all r.link (map (unseen seen) ts)) = all_unseen r.link ts seen opened is.distinct ones.1 next still in
    record {
      news_are = ap (λ (ns : List News). ns ++ (reported_all r.link (map (unseen seen) ts)).news) is.news ∙ ap (λ (ns : List News). ended_news opened seen t ∷ ns) rest.news_are;
      same = rest.same ∙ same;
      gone = λ k e. gone_by (t == k) (is_one_of ts k) (reader_in k (reported_all r.link (map (unseen seen) ts)).link.readers ≡ None) e (λ h. rest.gone k h)
          (λ h own. (let at : t ≡ k = eqb-true t k own in rest.kept k h ∙ ap (λ (j : ℕ). reader_in j r.link.readers) (sym at) ∙ is.own));
      kept = λ k e. (let parts = none_of (t == k) (is_one_of ts k) e in rest.kept k parts.1 ∙ is.others k (turned t k parts.0));
      distinct = rest.distinct;
    }

-- reports one after the other
pub reported_more : (g : GrpcSeen) (xs ys : List LinkNews)
    → reported_all g (xs ++ ys) ≡ record { link = (reported_all (reported_all g xs).link ys).link; news = (reported_all g xs).news ++ (reported_all (reported_all g xs).link ys).news }
reported_more g [] ys = refl
reported_more g (n ∷ xs) ys =
    let r : Reported = grpc.reported g n in
    ap (λ (t : Reported). let out : Reported = record { link = t.link; news = r.news ++ t.news } in out) (reported_more r.link xs ys)
    ∙ ap (λ (ns : List News). let out : Reported = record { link = (reported_all (reported_all r.link xs).link ys).link; news = ns } in out)
    (sym (append_assoc r.news (reported_all r.link xs).news (reported_all (reported_all r.link xs).link ys).news))

-- the streams that it leaves out
map_unseen : (seen : ℕ) (xs : List LiveStream) → map (unseen_stream seen) xs ≡ map (unseen seen) (map (λ (x : LiveStream). x.tag) xs)
map_unseen seen [] = refl
map_unseen seen (x ∷ xs) = ap (λ (ns : List LinkNews). report.Unseen x.tag seen ∷ ns) (map_unseen seen xs)

never_kept : (p : LiveStream → Bool) (k : ℕ) (xs : List LiveStream) → is_one_of (map (λ (x : LiveStream). x.tag) xs) k ≡ false → is_one_of (map (λ (x : LiveStream). x.tag) (filter p xs)) k ≡ false
never_kept p k [] none = refl
never_kept p k (x ∷ xs) none =
    let parts = none_of (x.tag == k) (is_one_of (map (λ (y : LiveStream). y.tag) xs) k) none in
    let rest : is_one_of (map (λ (y : LiveStream). y.tag) (filter p xs)) k ≡ false = never_kept p k xs parts.1 in
    on_if (λ (ys : List LiveStream). is_one_of (map (λ (y : LiveStream). y.tag) ys) k ≡ false) (p x) (x ∷ filter p xs) (filter p xs)
    (λ e. ap (λ (b : Bool). b || is_one_of (map (λ (y : LiveStream). y.tag) (filter p xs)) k) parts.0 ∙ rest) (λ e. rest)

distinct_kept : (p : LiveStream → Bool) (xs : List LiveStream) → NumbersAreDistinct (map (λ (x : LiveStream). x.tag) xs) → NumbersAreDistinct (map (λ (x : LiveStream). x.tag) (filter p xs))
distinct_kept p [] all = tt
distinct_kept p (x ∷ xs) all =
    on_if (λ (ys : List LiveStream). NumbersAreDistinct (map (λ (y : LiveStream). y.tag) ys)) (p x) (x ∷ filter p xs) (filter p xs)
    (λ e. (never_kept p x.tag xs all.0, distinct_kept p xs all.1)) (λ e. distinct_kept p xs all.1)

no_tag : (t place : ℕ) (xs : List LiveStream) → is_one_of (map (λ (x : LiveStream). x.tag) xs) t ≡ false → found_from (is_tagged t) place xs ≡ None
no_tag t place [] none = refl
no_tag t place (x ∷ xs) none =
    let parts = none_of (x.tag == t) (is_one_of (map (λ (y : LiveStream). y.tag) xs) t) none in
    if_false (x.tag == t) (Some (place, x)) (found_from (is_tagged t) (place + 1) xs) parts.0 ∙ no_tag t (place + 1) xs parts.1

-- they are apart from those that stay
abbrev Apart : List LiveStream → ℕ → Type 0
Apart ys t = is_one_of (map (λ (y : LiveStream). y.tag) ys) t ≡ false

apart_by : (last : ℕ) (x : LiveStream) (xs : List LiveStream) (c : Bool) → is_above last x ≡ c → is_one_of (map (λ (y : LiveStream). y.tag) xs) x.tag ≡ false
    → AllByRecursion (Apart (filter (is_within last) xs)) (map (λ (y : LiveStream). y.tag) (filter (is_above last) xs))
    → AllByRecursion (Apart (cond (not c) (x ∷ filter (is_within last) xs) (filter (is_within last) xs))) (map (λ (y : LiveStream). y.tag) (cond c (x ∷ filter (is_above last) xs) (filter (is_above last) xs)))
apart_by last x xs true e none all = (never_kept (is_within last) x.tag xs none, all)
apart_by last x xs false e none all =
    others_have (Apart (filter (is_within last) xs)) (Apart (x ∷ filter (is_within last) xs)) x.tag (map (λ (y : LiveStream). y.tag) (filter (is_above last) xs))
    (never_kept (is_above last) x.tag xs none)
    (λ k apart h. ap (λ (b : Bool). b || is_one_of (map (λ (y : LiveStream). y.tag) (filter (is_within last) xs)) k) (turned k x.tag apart) ∙ h) all

above_apart : (last : ℕ) (xs : List LiveStream) → NumbersAreDistinct (map (λ (x : LiveStream). x.tag) xs)
    → AllByRecursion (Apart (filter (is_within last) xs)) (map (λ (x : LiveStream). x.tag) (filter (is_above last) xs))
above_apart last [] all = tt
above_apart last (x ∷ xs) all = apart_by last x xs (is_above last x) refl all.0 (above_apart last xs all.1)

-- two lists of which no number is twice
prefix_distinct : (xs ys : List ℕ) → NumbersAreDistinct (xs ++ ys) → NumbersAreDistinct xs
prefix_distinct [] ys all = tt
prefix_distinct (x ∷ xs) ys all = (prefix_none x xs ys all.0, prefix_distinct xs ys all.1)
  where
    prefix_none : (k : ℕ) (us vs : List ℕ) → is_one_of (us ++ vs) k ≡ false → is_one_of us k ≡ false
    prefix_none k [] vs none = refl
    prefix_none k (u ∷ us) vs none = (let parts = none_of (u == k) (is_one_of (us ++ vs) k) none in ap (λ (b : Bool). b || is_one_of us k) parts.0 ∙ prefix_none k us vs parts.1)

back_distinct : (xs ys : List ℕ) → NumbersAreDistinct (xs ++ ys) → NumbersAreDistinct ys
back_distinct [] ys all = all
back_distinct (x ∷ xs) ys all = back_distinct xs ys all.1

back_none : (k : ℕ) (us vs : List ℕ) → is_one_of (us ++ vs) k ≡ false → is_one_of vs k ≡ false
back_none k [] vs none = none
back_none k (u ∷ us) vs none = (let parts = none_of (u == k) (is_one_of (us ++ vs) k) none in back_none k us vs parts.1)

abbrev NotIn : List ℕ → ℕ → Type 0
NotIn xs t = is_one_of xs t ≡ false

all_none : (ys : List ℕ) → AllByRecursion (NotIn []) ys
all_none [] = tt
all_none (y ∷ ys) = (refl, all_none ys)

back_apart : (xs ys : List ℕ) → NumbersAreDistinct (xs ++ ys) → AllByRecursion (NotIn xs) ys
back_apart [] ys all = all_none ys
back_apart (x ∷ xs) ys all =
    others_have (NotIn xs) (NotIn (x ∷ xs)) x ys (back_none x xs ys all.0) (λ k apart h. ap (λ (b : Bool). b || is_one_of xs k) (turned k x apart) ∙ h) (back_apart xs ys all.1)

all_map : (P Q : ℕ → Type 0) (ts : List ℕ) → ((k : ℕ) → P k → Q k) → AllByRecursion P ts → AllByRecursion Q ts
all_map P Q [] f all = tt
all_map P Q (t ∷ ts) f all = (f t all.0, all_map P Q ts f all.1)

all_both : (P Q R : ℕ → Type 0) (ts : List ℕ) → ((k : ℕ) → P k → Q k → R k) → AllByRecursion P ts → AllByRecursion Q ts → AllByRecursion R ts
all_both P Q R [] f all too = tt
all_both P Q R (t ∷ ts) f all too = (f t all.0 too.0, all_both P Q R ts f all.1 too.1)

-- what the link makes of GOAWAY
goaway_is_reported : (w : Wire) (f : FrameSeen) → link.link_error w f ≡ None → f.kind ≡ goaway_type
    → reported w f ≡ outcome w (read_after w.read (9 + length f.payload)) (Ok (goaway_reported (record w { queue = sealed w.queue }) (last_stream f.payload) (read_after w.read (9 + length f.payload))))
goaway_is_reported w f fair kind =
    let seen : ℕ = read_after w.read (9 + length f.payload) in
    let v : Wire = record w { queue = sealed w.queue } in
    let at : Option (ℕ × LiveStream) = found_from (is_numbered f.stream) 0 w.live in
    let applied_is : applied v f seen ≡ Ok (plain_reported v f seen)
    = if_false (f.kind == headers_type) (headers_reported v f seen) _ (not_kind f.kind goaway_type headers_type false kind refl)
    ∙ if_false (f.kind == continuation_type) (continuation_reported v f seen w.block) (Ok (plain_reported v f seen)) (not_kind f.kind goaway_type continuation_type false kind refl) in
    let plain_is : plain_reported v f seen ≡ goaway_reported v (last_stream f.payload) seen
    = if_false (f.kind == data_type) (data_reported v f seen at) _ (not_kind f.kind goaway_type data_type false kind refl)
    ∙ if_false (f.kind == rst_stream_type) (reset_reported v (reset_code f.payload) seen at) _ (not_kind f.kind goaway_type rst_stream_type false kind refl)
    ∙ if_false (f.kind == settings_type) (settings_reported v f) _ (not_kind f.kind goaway_type settings_type false kind refl)
    ∙ if_false (f.kind == ping_type) (ping_reported v f) _ (not_kind f.kind goaway_type ping_type false kind refl)
    ∙ if_true (f.kind == goaway_type) (goaway_reported v (last_stream f.payload) seen) _ (not_kind f.kind goaway_type goaway_type true kind refl) in
    ap (judged w f) fair ∙ ap (outcome w seen) applied_is ∙ ap (λ (t : Report). outcome w seen (Ok t)) plain_is

-- the attempts on the link
pub record IsHere (l : Link) (s : Seen) (a : Attempt) : Type 0 where
  pub there : numbered s.attempts a.place ≡ Some a
  pub out : is_outstanding_on l a ≡ true

here_filter : (l : Link) (s : Seen) (xs : List Attempt) → AllByRecursion (λ a. numbered s.attempts a.place ≡ Some a) xs → AllByRecursion (IsHere l s) (filter (is_outstanding_on l) xs)
here_filter l s [] all = tt
here_filter l s (x ∷ xs) all =
    let rest : AllByRecursion (IsHere l s) (filter (is_outstanding_on l) xs) = here_filter l s xs all.1 in
    on_if (AllByRecursion (IsHere l s)) (is_outstanding_on l x) (x ∷ filter (is_outstanding_on l) xs) (filter (is_outstanding_on l) xs)
    (λ e. (record { there = all.0; out = e }, rest)) (λ e. rest)

pub all_here : (l : Link) (s : Seen) → AttemptsStandInPlace 1 s.attempts → AllByRecursion (IsHere l s) (outstanding_on l s)
all_here l s places = here_filter l s s.attempts (all_there s places)

all_sorted : (P : Attempt → Type 0) (xs : List Attempt) → AllByRecursion P xs → AllByRecursion P (by_stream xs)
all_sorted P [] all = tt
all_sorted P (a ∷ xs) all = put_all P a (by_stream xs) all.0 (all_sorted P xs all.1)

-- a stream's reader goes on
stream_goes : (l : Link) (s : Seen) (v : Wire) (readers : List TagReader) (n : ℕ) (a : Attempt) → SeesReaders l s readers → numbered s.links l.number ≡ Some l → IsOn l s n a
    → Continues true (start v readers) a.place
stream_goes l s v readers n a reads here on =
    let has : HasReader l s readers n a = has_reader l s readers n a reads here on in
    record {
      reader = has.reader;
      there = has.there;
      over = ap (λ (x : ReaderSeen). x.over) has.is;
      opened_is = ap (λ (x : ReaderSeen). x.opened) has.is;
    }

zip_goes : (l : Link) (s : Seen) (v : Wire) (readers : List TagReader) (xs : List LiveStream) (as_ : List Attempt) → SeesReaders l s readers → numbered s.links l.number ≡ Some l
    → StreamsAreLive l xs as_ → AllByRecursion (IsHere l s) as_ → AllByRecursion (Continues true (start v readers)) (map (λ (x : LiveStream). x.tag) xs)
zip_goes l s v readers [] [] reads here live all = tt
zip_goes l s v readers (x ∷ xs) (a ∷ as_) reads here live all =
    let on : IsOn l s x.number a = record { there = all.0.there; out = all.0.out; stream = live.0.stream } in
    (subst (Continues true (start v readers)) (sym live.0.tag) (stream_goes l s v readers x.number a reads here on), zip_goes l s v readers xs as_ reads here live.1 all.1)
zip_goes l s v readers [] (a ∷ as_) reads here live all = absurd live
zip_goes l s v readers (x ∷ xs) [] reads here live all = absurd live

tags_filter : (P : ℕ → Type 0) (p : LiveStream → Bool) (xs : List LiveStream) → AllByRecursion P (map (λ (x : LiveStream). x.tag) xs)
    → AllByRecursion P (map (λ (x : LiveStream). x.tag) (filter p xs))
tags_filter P p [] all = tt
tags_filter P p (x ∷ xs) all =
    let rest : AllByRecursion P (map (λ (y : LiveStream). y.tag) (filter p xs)) = tags_filter P p xs all.1 in
    on_if (λ (ys : List LiveStream). AllByRecursion P (map (λ (y : LiveStream). y.tag) ys)) (p x) (x ∷ filter p xs) (filter p xs) (λ e. (all.0, rest)) (λ e. rest)

zip_left : (l : Link) (last : ℕ) (xs : List LiveStream) (as_ : List Attempt) → StreamsAreLive l xs as_
    → map (λ (x : LiveStream). x.tag) (filter (is_above last) xs) ≡ map (λ (a : Attempt). a.place) (filter (is_left_out last) as_)
zip_left l last [] [] live = refl
zip_left l last (x ∷ xs) (a ∷ as_) live =
    let fx : List LiveStream = filter (is_above last) xs in
    let fa : List Attempt = filter (is_left_out last) as_ in
    let rest : map (λ (y : LiveStream). y.tag) fx ≡ map (λ (b : Attempt). b.place) fa = zip_left l last xs as_ live.1 in
    let same : is_left_out last a ≡ is_above last x = ap (λ (o : Option ℕ). nat_lt last (unwrap_or o 0)) live.0.stream in
    subst (λ (c : Bool). map (λ (y : LiveStream). y.tag) (cond (is_above last x) (x ∷ fx) fx) ≡ map (λ (b : Attempt). b.place) (cond c (a ∷ fa) fa)) (sym same)
    (both_if (λ (ys : List LiveStream) (bs : List Attempt). map (λ (y : LiveStream). y.tag) ys ≡ map (λ (b : Attempt). b.place) bs) (is_above last x) (x ∷ fx) fx (a ∷ fa) fa
    (λ e. ap (λ (n : ℕ). n ∷ map (λ (y : LiveStream). y.tag) fx) live.0.tag ∙ ap (λ (ns : List ℕ). a.place ∷ ns) rest) (λ e. rest))
zip_left l last [] (a ∷ as_) live = absurd live
zip_left l last (x ∷ xs) [] live = absurd live

-- and so does that of an attempt that waits
waits_by : (s : Seen) (v : Wire) (readers : List TagReader) (a : Attempt) (o : Option ReaderSeen) → reader_in a.place readers ≡ o → a.row.stream ≡ None → IsReaderOf s (Some a) o
    → Continues false (start v readers) a.place
waits_by s v readers a None at none is = absurd is
waits_by s v readers a (Some x) at none is = record {
  reader = x;
  there = at;
  over = is.over;
  opened_is = sym is.opened ∙ ap (λ (o : Option ℕ). is_some o) none;
}

no_stream : (o : Option ℕ) → is_none o ≡ true → o ≡ None
no_stream None e = refl
no_stream (Some n) e = absurd (cc)

waits_go : (l : Link) (s : Seen) (v : Wire) (readers : List TagReader) (xs : List Attempt) → SeesReaders l s readers → AllByRecursion (IsHere l s) xs
    → AllByRecursion (Continues false (start v readers)) (map (λ (a : Attempt). a.place) (filter (λ a. is_none a.row.stream) xs))
waits_go l s v readers [] reads all = tt
waits_go l s v readers (a ∷ xs) reads all =
    let rest = waits_go l s v readers xs reads all.1 in
    let F : List Attempt → Type 0 = λ bs. AllByRecursion (Continues false (start v readers)) (map (λ (b : Attempt). b.place) bs) in
    on_if F (is_none a.row.stream) (a ∷ filter (λ (b : Attempt). is_none b.row.stream) xs) (filter (λ (b : Attempt). is_none b.row.stream) xs)
    (λ e. (
      waits_by s v readers a (reader_in a.place readers) refl (no_stream a.row.stream e)
          (subst (λ (o : Option Attempt). IsReaderOf s o (reader_in a.place readers)) (on_is l s a.place a all.0.there all.0.out) (reads.each a.place)),
      rest,
    ))
    (λ e. rest)

-- that the link retires
abbrev retires : Bool → List LinkNews
retires b = if b then [] else report.Retiring ∷ []

abbrev retired_news : Bool → List News
retired_news b = if b then [] else news.Retiring ∷ []

retire_reported : (g : GrpcSeen) (b : Bool) → reported_all g (retires b) ≡ record { link = g; news = retired_news b }
retire_reported g true = refl
retire_reported g false = refl

abbrev last_reported : Reported → Bool → Reported
last_reported r b = record { link = (reported_all r.link (retires b)).link; news = r.news ++ (reported_all r.link (retires b)).news }

all_reported : (g : GrpcSeen) (xs ys : List LinkNews) (b : Bool)
    → reported_all g (xs ++ ys ++ retires b)
    ≡ record { link = (reported_all (reported_all g xs).link ys).link; news = (reported_all g xs).news ++ (reported_all (reported_all g xs).link ys).news ++ retired_news b }
all_reported g xs ys b =
    let r : Reported = reported_all g xs in
    let q : Reported = reported_all r.link ys in
    reported_more g (xs ++ ys) (retires b) ∙ ap (λ (t : Reported). last_reported t b) (reported_more g xs ys)
    ∙ ap (λ (t : Reported). let out : Reported = record { link = t.link; news = (r.news ++ q.news) ++ t.news } in out) (retire_reported q.link b)

in_either : (xs ys : List ℕ) (t : ℕ) → is_one_of (xs ++ ys) t ≡ (is_one_of xs t || is_one_of ys t)
in_either [] ys t = refl
in_either (x ∷ xs) ys t = ap (λ (b : Bool). (x == t) || b) (in_either xs ys t) ∙ or_assoc (x == t) (is_one_of xs t) (is_one_of ys t)
  where
    or_assoc : (a b c : Bool) → (a || (b || c)) ≡ ((a || b) || c)
    or_assoc true b c = refl
    or_assoc false b c = refl

ended_map : (o : Outcome) (seen : ℕ) (as_ : List Attempt) → map (λ (t : ℕ). news.Ended t (end_news o seen)) (map (λ (a : Attempt). a.place) as_) ≡ map (ended_as o seen) as_
ended_map o seen [] = refl
ended_map o seen (a ∷ as_) = ap (λ (ns : List News). ended_as o seen a ∷ ns) (ended_map o seen as_)

pub goaways_are_reported : GoawaysAreReported
goaways_are_reported l s w g readers r is reads comes kind_ =
    let f : FrameSeen = r.frame in
    let kind : f.kind ≡ goaway_type = eqb-true f.kind goaway_type kind_ in
    let last : ℕ = last_stream f.payload in
    let at : ℕ = read_after w.read (9 + length f.payload) in
    let seen : at ≡ seen_at r = seen_same l w r is.sees.sees.reads.read comes.end in
    let v0 : Wire = record w { queue = sealed w.queue } in
    let t : Report = goaway_reported v0 last at in
    let reported_is : reported w f ≡ outcome w at (Ok t) = goaway_is_reported w f comes.fair kind in
    let v : Wire = (reported w f).wire in
    let g0 : GrpcSeen = start v readers in
    let live : v.live ≡ filter (is_within last) w.live = ap (λ (x : Report). x.wire.live) reported_is in
    let waits_none : v.waiting ≡ [] = ap (λ (x : Report). x.wire.waiting) reported_is in
    let one : List ℕ = map (λ (x : LiveStream). x.tag) (filter (is_above last) w.live) in
    let all : List ℕ = map (λ (x : LiveStream). x.tag) w.live in
    let bs : List Attempt = by_stream (streaming_on l s) in
    let here : AllByRecursion (IsHere l s) (outstanding_on l s) = all_here l s is.sees.places in
    let tags_ : NumbersAreDistinct (all ++ w.waiting) = is.sees.tags in
    let prefix : NumbersAreDistinct all = prefix_distinct all w.waiting tags_ in
    let goes1 : AllByRecursion (Continues true g0) one
    = tags_filter (Continues true g0) (is_above last) w.live
    (zip_goes l s v readers w.live bs reads is.sees.at is.sees.sees.live (all_sorted (IsHere l s) (streaming_on l s) (all_filter (IsHere l s) (λ a. is_some a.row.stream) (outstanding_on l s) here))) in
    let goes2 : AllByRecursion (Continues false g0) w.waiting
    = subst (AllByRecursion (Continues false g0)) (sym is.sees.waits) (waits_go l s v readers (outstanding_on l s) reads here) in
    let apart1 : AllByRecursion (Apart v.live) one = subst (λ (xs : List LiveStream). AllByRecursion (Apart xs) one) (sym live) (above_apart last w.live prefix) in
    let off : (k : ℕ) → is_one_of v.waiting k ≡ false = λ k. ap (λ (ns : List ℕ). is_one_of ns k) waits_none in
    let free1 : AllByRecursion (IsFree v) one = all_map (Apart v.live) (IsFree v) one (λ k h. record { streams = no_tag k 0 v.live h; waits = off k }) apart1 in
    let apart2 : AllByRecursion (NotIn all) w.waiting = back_apart all w.waiting tags_ in
    let free2 : AllByRecursion (IsFree v) w.waiting
    = all_map (NotIn all) (IsFree v) w.waiting
    (λ k h. record { streams = no_tag k 0 v.live (ap (λ (xs : List LiveStream). is_one_of (map (λ (x : LiveStream). x.tag) xs) k) live ∙ never_kept (is_within last) k w.live h); waits = off k }) apart2 in
    let r1 : Reported = reported_all g0 (map (unseen at) one) in
    let first : AreUnseen g0 one (map (ended_news true at) one) r1 = all_unseen g0 one at true reads.distinct (distinct_kept (is_above last) w.live prefix) goes1 free1 in
    let not_one : AllByRecursion (NotIn one) w.waiting = all_map (NotIn all) (NotIn one) w.waiting (λ k h. never_kept (is_above last) k w.live h) apart2 in
    let goes3 : AllByRecursion (Continues false r1.link) w.waiting
    = all_both (Continues false g0) (NotIn one) (Continues false r1.link) w.waiting
    (λ k y h. record { reader = y.reader; there = first.kept k h ∙ y.there; over = y.over; opened_is = y.opened_is }) goes2 not_one in
    let free3 : AllByRecursion (IsFree r1.link.link.wire) w.waiting = subst (λ (x : HalfSeen). AllByRecursion (IsFree x.wire) w.waiting) (sym first.same) free2 in
    let r2 : Reported = reported_all r1.link (map (unseen at) w.waiting) in
    let next : AreUnseen r1.link w.waiting (map (ended_news false at) w.waiting) r2
    = all_unseen r1.link w.waiting at false first.distinct (back_distinct all w.waiting tags_) goes3 free3 in
    let list : (reported w f).news ≡ map (unseen at) one ++ map (unseen at) w.waiting ++ retires w.retiring
    = ap (λ (x : Report). x.news) reported_is
    ∙ ap (λ (ns : List LinkNews). ns ++ map (unseen at) w.waiting ++ retires w.retiring) (map_unseen at (filter (is_above last) w.live)) in
    let whole : frame_reported w readers f ≡ record { link = r2.link; news = r1.news ++ r2.news ++ retired_news w.retiring }
    = ap (reported_all g0) list ∙ all_reported g0 (map (unseen at) one) (map (unseen at) w.waiting) w.retiring in
    let left : one ≡ map (λ (a : Attempt). a.place) (left_out l s last) = zip_left l last w.live bs is.sees.sees.live in
    let news1 : map (ended_news true at) one ≡ map (ended_as left_out_end (seen_at r)) (left_out l s last)
    = ap (map (ended_news true at)) left ∙ ap (λ (k : ℕ). map (ended_news true k) (map (λ (a : Attempt). a.place) (left_out l s last))) seen ∙ ended_map left_out_end (seen_at r) (left_out l s last) in
    let news2 : map (ended_news false at) w.waiting ≡ map (ended_as unsent_end (seen_at r)) (waiting_on l s)
    = ap (map (ended_news false at)) is.sees.waits ∙ ap (λ (k : ℕ). map (ended_news false k) (map (λ (a : Attempt). a.place) (waiting_on l s))) seen ∙ ended_map unsent_end (seen_at r) (waiting_on l s) in
    let both : one ++ w.waiting ≡ map (λ (a : Attempt). a.place) (left_out l s last) ++ map (λ (a : Attempt). a.place) (waiting_on l s)
    = ap (λ (ns : List ℕ). ns ++ w.waiting) left ∙ ap (λ (ns : List ℕ). map (λ (a : Attempt). a.place) (left_out l s last) ++ ns) is.sees.waits in
    let readers_are : (frame_reported w readers f).link.readers ≡ r2.link.readers = ap (λ (x : Reported). x.link.readers) whole in
    record {
      news = ap (λ (x : Reported). x.news) whole
          ∙ ap (λ (ns : List News). ns ++ r2.news ++ retired_news w.retiring) (first.news_are ∙ news1)
          ∙ ap (λ (ns : List News). map (ended_as left_out_end (seen_at r)) (left_out l s last) ++ ns ++ retired_news w.retiring) (next.news_are ∙ news2)
          ∙ ap (λ (b : Bool). map (ended_as left_out_end (seen_at r)) (left_out l s last) ++ map (ended_as unsent_end (seen_at r)) (waiting_on l s) ++ retired_news b) is.sees.sees.reads.retiring;
      wire = ap (λ (x : Reported). x.link.link.wire) whole ∙ ap (λ (x : HalfSeen). x.wire) (next.same ∙ first.same);
      gone = λ k e. ap (reader_in k) readers_are
          ∙ gone_by (is_one_of one k) (is_one_of w.waiting k) (reader_in k r2.link.readers ≡ None) (sym (in_either one w.waiting k) ∙ ap (λ (ns : List ℕ). is_one_of ns k) both ∙ e)
          (λ h. next.gone k h) (λ h own. next.kept k h ∙ first.gone k own);
      kept = λ k e. (let parts = none_of (is_one_of one k) (is_one_of w.waiting k) (sym (in_either one w.waiting k) ∙ ap (λ (ns : List ℕ). is_one_of ns k) both ∙ e) in
          ap (reader_in k) readers_are ∙ next.kept k parts.1 ∙ first.kept k parts.0);
      distinct = subst (λ (ts : List TagReader). NumbersAreDistinct (tags ts)) (sym readers_are) next.distinct;
    }
