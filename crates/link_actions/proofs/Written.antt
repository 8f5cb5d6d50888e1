-- After what is written next a link and its session still agree.
use Rattle.std.proofs.Common.{◌≡◌, ◌≤◌, ◌∷◌, ◌++◌, ◌||◌, ◌&&◌, ◌==◌, ap, arith, refl, subst, sym, ◌∙◌, Bool, false, List, [], Option, None, Some, ℕ, pos, ◌+ℤ◌, ◌+◌, ◌-◌, ◌*◌, zero, suc, drop, if◌then◌else◌, length, map, option_map, slice_get, slice_set, sum_by}
use Rattle.std.specs.List.{list_any}
use Rattle.std.specs.Option.{option_map_or}
use Rattle.std.proofs.lemmas.List.Folds.{list_any-append}
use Rattle.std.proofs.lemmas.List.Sums.{sum_by_push}
use Rattle.grpc_frame.specs.Messages.{framed_all}
use Rattle.grpc_meta.specs.RequestFields.{fields_of_request}
use Rattle.h2_frame.specs.Frames.{FrameSeen, has_flag}
use Rattle.h2_frame.specs.Numbers.{data_type, end_stream_flag}
use Rattle.h2_link.specs.Feeds.{Line}
use Rattle.h2_link.specs.Wire.{Wire}
use Rattle.h2_link.specs.declared.live.LiveStream.{LiveStream}
use Rattle.link_actions.proofs.Lists.{if_false, or_none}
use Rattle.link_actions.proofs.Owed.{frames_more, frames_same, read_same}
use Rattle.link_actions.specs.Laws.{with_written}
use Rattle.link_actions.specs.Sees.{NumbersAreDistinct, StreamsAreFed, StreamsAreFresh, StreamsAreLive, StreamsAreOpened, IsFed, SeesLink, SeesOwed, SeesRead, WaitFed, by_stream, written_for}
use Rattle.session_actions.specs.Configs.{deadline}
use Rattle.session_actions.specs.Entries.{now, with_entry}
use Rattle.session_actions.specs.Links.{frames_written, has_written_end, with_link}
use Rattle.session_actions.specs.Reading.{is_data_on, raise_by, raised, used}
use Rattle.session_actions.specs.Words.{changed, changed_if, numbered}
use Rattle.session_actions.specs.Writing.{accepted_bytes, frame_written, frame_written_on, stream_opened_by, streaming_on, waiting_on, with_written_bytes}
use Rattle.session_actions.specs.declared.attempt.Attempt.{Attempt}
use Rattle.session_actions.specs.declared.entry.OpenEntry.{OpenEntry}
use Rattle.session_actions.specs.declared.link.Link.{Link}
use Rattle.session_actions.specs.declared.link.ReadFrame.{ReadFrame}
use Rattle.session_actions.specs.declared.link.Sent.{Sent}
use Rattle.session_actions.specs.declared.link.Sent.TheVariants as sent
use Rattle.session_actions.specs.declared.seen.Seen.{Seen}

-- the session in which something was written on a link, attempts apart
abbrev pub noted : Sent → Link → Seen → Seen
noted x l s = with_entry (with_written_bytes x) (with_link (with_written x) l.number s)

pub is_noted : (l : Link) (s : Seen) (x : Sent) → numbered s.links l.number ≡ Some l → frame_written l.number x s ≡ noted x l (stream_opened_by x l s)
is_noted l s x at = ap (λ (o : Option Link). option_map_or (frame_written_on x s) o s) at

moment_by : (x : Sent) (o : Option OpenEntry) (last : ℕ) → option_map_or (λ (e : OpenEntry). e.moment) (option_map (with_written_bytes x) o) last ≡ option_map_or (λ (e : OpenEntry). e.moment) o last
moment_by x None last = refl
moment_by x (Some e) last = refl

now_same : (x : Sent) (l : Link) (s : Seen) → now (noted x l s) ≡ now s
now_same x l s = moment_by x s.current _

fed_noted : (x : Sent) (l m : Link) (s : Seen) (a : Attempt) (line : Line) → IsFed m s a line → IsFed m (noted x l s) a line
fed_noted x l m s a line is = record {
  call = is.call;
  call_is = is.call_is;
  fields = is.fields ∙ ap (λ (t : ℕ). fields_of_request is.call.request s.setup.authority (option_map (λ moment. moment - t) (deadline is.call s)) a.row.number) (sym (now_same x l s));
  written = is.written;
  left = is.left;
  finished = is.finished;
}

pub all_noted : (x : Sent) (l m : Link) (s : Seen) (g : ℕ → Line) (xs : List LiveStream) (others : List Attempt) → StreamsAreFed m s g xs others → StreamsAreFed m (noted x l s) g xs others
all_noted x l m s g [] [] are = tt
all_noted x l m s g (y ∷ xs) (a ∷ others) are = (fed_noted x l m s a (g y.tag) are.0, all_noted x l m s g xs others are.1)
all_noted x l m s g [] (a ∷ others) are = absurd are
all_noted x l m s g (y ∷ xs) [] are = absurd are

pub waits_noted : (x : Sent) (l m : Link) (s : Seen) (g : ℕ → Line) (xs : List Attempt) → WaitFed m s g xs → WaitFed m (noted x l s) g xs
waits_noted x l m s g [] are = tt
waits_noted x l m s g (a ∷ xs) are = (fed_noted x l m s a (g a.place) are.0, waits_noted x l m s g xs are.1)

-- the link itself
set_here : {X : Type 0} (xs : List X) (i : ℕ) (x v : X) → slice_get xs i ≡ Some x → slice_get (slice_set xs i v) i ≡ Some v
set_here [] i x v e = absurd (cc)
set_here (y ∷ xs) zero x v e = refl
set_here (y ∷ xs) (suc i) x v e = set_here xs i x v e

pub changed_here : {X : Type 0} (f : X → X) (n : ℕ) (xs : List X) (x : X) → numbered xs n ≡ Some x → numbered (changed f n xs) n ≡ Some (f x)
changed_here f zero xs x e = absurd (cc)
changed_here f (suc i) xs x e =
    ap (λ (o : Option _). slice_get (changed_if f (suc i) xs o) i) e ∙ set_here xs i x (f x) e

-- where no DATA was written, what was is the same
pub record IsUnwritten (l m : Link) : Type 0 where
  pub used_is : (n : ℕ) → used n m ≡ used n l
  pub ends : (n : ℕ) → has_written_end n m ≡ has_written_end n l
  pub raised_is : (n : ℕ) → raised n m ≡ raised n l

pub raised_still : (l : Link) (x : Sent) (n : ℕ) → raised n (with_written x l) ≡ raised n l
raised_still l x n = ap (λ (rs : List ReadFrame). sum_by (λ r. raise_by n r.frame) rs) (read_same l x)

abbrev ends_in : ℕ → List FrameSeen → Bool
ends_in n fs = list_any (λ f. (f.kind == data_type) && (f.stream == n) && has_flag f.flags end_stream_flag) fs

abbrev used_in : ℕ → List FrameSeen → ℕ
used_in n fs = sum_by (λ f. if is_data_on n f then length f.payload else 0) fs

pub preface_unwritten : (l : Link) → IsUnwritten l (with_written sent.Preface l)
preface_unwritten l = record {
  used_is = λ n. ap (used_in n) (frames_same l);
  ends = λ n. ap (ends_in n) (frames_same l);
  raised_is = raised_still l sent.Preface;
}

pub used_more : (l : Link) (f : FrameSeen) (n : ℕ) → used n (with_written (sent.Frame f) l) ≡ used n l + (if is_data_on n f then length f.payload else 0)
used_more l f n = ap (used_in n) (frames_more l f) ∙ sum_by_push (λ (h : FrameSeen). if is_data_on n h then length h.payload else 0) (frames_written l) f

pub ends_more : (l : Link) (f : FrameSeen) (n : ℕ) → has_written_end n (with_written (sent.Frame f) l)
    ≡ (has_written_end n l || ((f.kind == data_type) && (f.stream == n) && has_flag f.flags end_stream_flag))
ends_more l f n =
    ap (ends_in n) (frames_more l f) ∙ list_any-append (λ (h : FrameSeen). (h.kind == data_type) && (h.stream == n) && has_flag h.flags end_stream_flag) (frames_written l) (f ∷ [])
    ∙ ap (λ (b : Bool). has_written_end n l || b) (or_none _)

pub frame_unwritten : (l : Link) (f : FrameSeen) → (f.kind == data_type) ≡ false → IsUnwritten l (with_written (sent.Frame f) l)
frame_unwritten l f e = record {
  used_is = λ n.
      let o : ℕ = 0 in
      let none : (if is_data_on n f then length f.payload else 0) ≡ 0 = if_false (is_data_on n f) (length f.payload) o (ap (λ (b : Bool). b && ((n == 0) || (f.stream == n))) e) in
      let more : used n (with_written (sent.Frame f) l) ≡ used n l + (if is_data_on n f then length f.payload else 0) = used_more l f n in
      (omega (arith, more, none));
  ends = λ n. ends_more l f n ∙ ap (λ (b : Bool). has_written_end n l || (b && (f.stream == n) && has_flag f.flags end_stream_flag)) e ∙ or_none (has_written_end n l);
  raised_is = raised_still l (sent.Frame f);
}

pub live_still : (l m : Link) (xs : List LiveStream) (others : List Attempt) → IsUnwritten l m → StreamsAreLive l xs others → StreamsAreLive m xs others
live_still l m [] [] same are = tt
live_still l m (x ∷ xs) (a ∷ others) same are = (
  record {
    stream = are.0.stream;
    some = are.0.some;
    tag = are.0.tag;
    finished = are.0.finished ∙ sym (same.ends x.number);
    credit = ap (λ (n : ℕ). x.credit +ℤ pos n) (same.used_is x.number) ∙ are.0.credit ∙ ap (λ (n : ℕ). pos n) (sym (same.raised_is x.number));
  },
  live_still l m xs others same are.1,
)
live_still l m [] (a ∷ others) same are = absurd are
live_still l m (x ∷ xs) [] same are = absurd are

for_still : (l m : Link) (o : Option ℕ) → IsUnwritten l m → option_map_or (λ n. used n m) o 0 ≡ option_map_or (λ n. used n l) o 0
for_still l m None same = refl
for_still l m (Some n) same = same.used_is n

pub fed_still : (l m : Link) (s : Seen) (a : Attempt) (line : Line) → written_for m a ≡ written_for l a → IsFed l s a line → IsFed m s a line
fed_still l m s a line same is = record {
  call = is.call;
  call_is = is.call_is;
  fields = is.fields;
  written = subst (λ (n : ℕ). n ≤ accepted_bytes is.call) (sym same) is.written;
  left = is.left ∙ ap (λ (n : ℕ). drop n (framed_all is.call.messages)) (sym same);
  finished = is.finished;
}

pub all_still : (l m : Link) (s : Seen) (g : ℕ → Line) (xs : List LiveStream) (others : List Attempt) → IsUnwritten l m → StreamsAreFed l s g xs others → StreamsAreFed m s g xs others
all_still l m s g [] [] same are = tt
all_still l m s g (y ∷ xs) (a ∷ others) same are =
    (fed_still l m s a (g y.tag) (for_still l m a.row.stream same) are.0, all_still l m s g xs others same are.1)
all_still l m s g [] (a ∷ others) same are = absurd are
all_still l m s g (y ∷ xs) [] same are = absurd are

pub waits_still : (l m : Link) (s : Seen) (g : ℕ → Line) (xs : List Attempt) → IsUnwritten l m → WaitFed l s g xs → WaitFed m s g xs
waits_still l m s g [] same are = tt
waits_still l m s g (a ∷ xs) same are = (fed_still l m s a (g a.place) (for_still l m a.row.stream same) are.0, waits_still l m s g xs same are.1)

pub still_fresh : (l m : Link) (opened : ℕ) → IsUnwritten l m → StreamsAreFresh l opened → StreamsAreFresh m opened
still_fresh l m opened same fresh k above =
    let was = fresh k above in (same.used_is k ∙ was.0, same.ends k ∙ was.1, same.raised_is k ∙ was.2)

-- what is written, but HEADERS
pub keeps : (x : Sent) (l : Link) (s : Seen) (w v : Wire) (g h : ℕ → Line) → SeesLink l s w g → SeesRead (with_written x l) v → SeesOwed (with_written x l) v
    → StreamsAreLive (with_written x l) v.live (by_stream (streaming_on l s)) → StreamsAreFed (with_written x l) s h v.live (by_stream (streaming_on l s))
    → WaitFed (with_written x l) s h (waiting_on l s) → v.waiting ≡ w.waiting → StreamsAreOpened 1 (2 * v.opened + 1) v.live
    → StreamsAreFresh (with_written x l) v.opened → NumbersAreDistinct (map (λ (y : LiveStream). y.tag) v.live ++ v.waiting) → SeesLink (with_written x l) (noted x l s) v h
keeps x l s w v g h is reads owes live fed_ wait waiting opened fresh tags = record {
  at = changed_here (with_written x) l.number s.links l is.at;
  sees = record { reads = reads; live = live };
  owes = owes;
  waits = waiting ∙ is.waits;
  fed = all_noted x l (with_written x l) s h v.live (by_stream (streaming_on l s)) fed_;
  wait_fed = waits_noted x l (with_written x l) s h (waiting_on l s) wait;
  opened = opened;
  fresh = fresh;
  tags = tags;
  places = is.places;
}
