-- Control frames that are queued beside what is read: RST_STREAM for a stream whose attempt ended, and PING of the environment.
use Rattle.std.proofs.Common.{◌≡◌, ◌≤◌, ◌∷◌, ◌++◌, ◌&&◌, ◌==◌, ap, arith, refl, subst, sym, ◌∙◌, Bool, false, List, [], Option, None, Some, ℕ, ◌+◌, ◌-◌, zero, suc, append-nil, drop, filter, filter_map, if◌then◌else◌, is_none, is_some, length, length-append, map, option_map}
use Rattle.std.specs.Option.{option_map_or, unwrap_or}
use Rattle.std.proofs.lemmas.List.{map-append}
use Rattle.std.proofs.lemmas.List.Edits.{insert_end}
use Rattle.std.proofs.lemmas.List.Elements.{filter_map-append}
use Rattle.std.specs.List.{insert}
use Rattle.attempt_ledger.specs.declared.row.RowEnd.{RowEnd}
use Rattle.grpc_base.specs.declared.event.Reply.TheVariants as reply
use Rattle.grpc_meta.specs.RequestFields.{fields_of_request}
use Rattle.h2_frame.specs.Frames.{FrameSeen}
use Rattle.h2_frame.specs.Sent.{ping_frame, rst_stream_frame}
use Rattle.h2_link.specs.Drains.{AFrame, Opening, Outgoing, outgoing}
use Rattle.h2_link.specs.Feeds.{Line}
use Rattle.h2_link.specs.Queues.{Queue, first_place, comes_after, queued, reset_place, reset_queued}
use Rattle.h2_link.specs.Wire.{Wire}
use Rattle.h2_link.specs.declared.control.Control.{Control}
use Rattle.h2_link.specs.declared.control.Control.TheVariants as control
use Rattle.h2_link.specs.declared.live.LiveStream.{LiveStream}
use Rattle.link_actions.proofs.Ended.{never_out}
use Rattle.link_actions.proofs.Opened.{streams, waits}
use Rattle.link_actions.proofs.QuietKept.{drop_more, joined}
use Rattle.link_actions.proofs.Without.{changed_at, place_is, places_at, same_kept}
use Rattle.link_actions.proofs.Written.{IsUnwritten, all_still, changed_here, live_still, waits_still}
use Rattle.link_actions.specs.Laws.{PingsKeep, ResetsKeep, with_owed}
use Rattle.link_actions.specs.Sees.{StreamsAreFed, StreamsAreLive, AttemptsStandInPlace, IsFed, SeesLink, SeesOwed, SeesRead, WaitFed, acknowledged, by_stream, named_in}
use Rattle.session_actions.specs.AttemptEnds.{stream_reset, stream_reset_of, with_reset_queued}
use Rattle.session_actions.specs.Attempts.{with_attempt}
use Rattle.session_actions.specs.Configs.{deadline}
use Rattle.session_actions.specs.Entries.{now, replied}
use Rattle.session_actions.specs.Links.{link_number, owed}
use Rattle.session_actions.specs.Reading.{is_outstanding_on, outstanding_on}
use Rattle.session_actions.specs.Words.{changed, changed_if, holds, numbered}
use Rattle.session_actions.specs.Writing.{controls_written, has_begun, streaming_on, table_sizes_named, waiting_on}
use Rattle.session_actions.specs.declared.attempt.Attempt.{Attempt}
use Rattle.session_actions.specs.declared.entry.OpenEntry.{OpenEntry}
use Rattle.session_actions.specs.declared.entry.Stage.TheVariants as stage
use Rattle.session_actions.specs.declared.link.Link.{Link}
use Rattle.session_actions.specs.declared.seen.Seen.{Seen}

-- frames that are owed more, after the others
pub owes_queued : (l : Link) (w v : Wire) (frames : List FrameSeen) (cs : List Control) → SeesOwed l w → map outgoing cs ≡ map (λ h. AFrame h) frames
    → filter_map named_in cs ≡ [] → v.resizes ≡ w.resizes → v.queue.items ≡ w.queue.items ++ cs → SeesOwed (with_owed frames l) v
owes_queued l w v frames cs owes controls none resizes items =
    let left : List FrameSeen = drop (controls_written l) l.owed in
    let prefix : List Outgoing = if has_begun l then [] else Opening ∷ [] in
    let low : controls_written l ≤ length l.owed = owes.written in
    let long_ : length (l.owed ++ frames) ≡ length l.owed + length frames = length-append l.owed frames in
    let names : List Bool = drop (acknowledged l) (table_sizes_named l) in
    record {
      queue = ap (map outgoing) items ∙ map-append outgoing w.queue.items cs ∙ ap (λ (os : List Outgoing). os ++ map outgoing cs) owes.queue
          ∙ ap (λ (os : List Outgoing). (prefix ++ map (λ h. AFrame h) left) ++ os) controls
          ∙ joined prefix (map (λ h. AFrame h) left) (map (λ h. AFrame h) frames)
          ∙ ap (λ (os : List Outgoing). prefix ++ os) (sym (map-append (λ h. AFrame h) left frames))
          ∙ ap (λ (hs : List FrameSeen). prefix ++ map (λ h. AFrame h) hs) (sym (drop_more (controls_written l) l.owed frames low));
      names = ap (filter_map named_in) items ∙ filter_map-append named_in w.queue.items cs ∙ ap (λ (bs : List Bool). bs ++ filter_map named_in cs) owes.names
          ∙ ap (λ (bs : List Bool). names ++ bs) none ∙ append-nil names;
      resizes = resizes ∙ owes.resizes;
      written = (omega (arith, low, long_));
      answered = owes.answered;
    }

-- nothing else of the link changes
pub read_owed : (l : Link) (w : Wire) (q : Queue) (frames : List FrameSeen) → SeesRead l w → SeesRead (with_owed frames l) (record w { queue = q })
read_owed l w q frames is = record {
  whole = is.whole;
  read = is.read;
  ready = is.ready;
  retiring = is.retiring;
  limit = is.limit;
  initial = is.initial;
  window = is.window;
  opened = is.opened;
  block = is.block;
  table = is.table;
}

pub unwritten_owed : (l : Link) (frames : List FrameSeen) → IsUnwritten l (with_owed frames l)
unwritten_owed l frames = record { used_is = λ n. refl; ends = λ n. refl; raised_is = λ n. refl }

-- RST_STREAM: the attempt is not outstanding
pub changed_out : (l : Link) (f : Attempt → Attempt) (t : ℕ) (xs : List Attempt) (a : Attempt) → numbered xs t ≡ Some a → is_outstanding_on l a ≡ false
    → is_outstanding_on l (f a) ≡ false → filter (is_outstanding_on l) (changed f t xs) ≡ filter (is_outstanding_on l) xs
changed_out l f zero xs a e off is = absurd (cc)
changed_out l f (suc i) xs a e off is =
    ap (λ (o : Option Attempt). filter (is_outstanding_on l) (changed_if f (suc i) xs o)) e ∙ same_kept (is_outstanding_on l) xs i a (f a) e off is

abbrev pub reset_seen : List FrameSeen → ℕ → ℕ → Seen → Seen
reset_seen frames link t s = owed frames link (with_attempt with_reset_queued t s)

fed_reset : (m : Link) (s : Seen) (frames : List FrameSeen) (link t : ℕ) (b : Attempt) (line : Line) → IsFed m s b line → IsFed m (reset_seen frames link t s) b line
fed_reset m s frames link t b line is = record { call = is.call; call_is = is.call_is; fields = is.fields; written = is.written; left = is.left; finished = is.finished }

all_reset_ : (m : Link) (s : Seen) (g : ℕ → Line) (frames : List FrameSeen) (link t : ℕ) (xs : List LiveStream) (others : List Attempt) → StreamsAreFed m s g xs others
    → StreamsAreFed m (reset_seen frames link t s) g xs others
all_reset_ m s g frames link t [] [] are = tt
all_reset_ m s g frames link t (x ∷ xs) (a ∷ others) are = (fed_reset m s frames link t a (g x.tag) are.0, all_reset_ m s g frames link t xs others are.1)
all_reset_ m s g frames link t [] (a ∷ others) are = absurd are
all_reset_ m s g frames link t (x ∷ xs) [] are = absurd are

waits_reset : (m : Link) (s : Seen) (g : ℕ → Line) (frames : List FrameSeen) (link t : ℕ) (xs : List Attempt) → WaitFed m s g xs → WaitFed m (reset_seen frames link t s) g xs
waits_reset m s g frames link t [] are = tt
waits_reset m s g frames link t (a ∷ xs) are = (fed_reset m s frames link t a (g a.place) are.0, waits_reset m s g frames link t xs are.1)

pub is_reset_seen : (s : Seen) (t n code link : ℕ) (a : Attempt) → AttemptsStandInPlace 1 s.attempts → numbered s.attempts t ≡ Some a → a.row.stream ≡ Some n → link_number a ≡ link
    → stream_reset t code s ≡ reset_seen (rst_stream_frame n code ∷ []) link t s
is_reset_seen s t n code link a places there stream on =
    ap (λ (o : Option Attempt). option_map_or (stream_reset_of code s) o s) there
    ∙ ap (λ (o : Option ℕ). reset_seen (rst_stream_frame (unwrap_or o 0) code ∷ []) (link_number a) a.place s) stream
    ∙ ap (λ (k : ℕ). reset_seen (rst_stream_frame n code ∷ []) k a.place s) on
    ∙ ap (λ (k : ℕ). reset_seen (rst_stream_frame n code ∷ []) link k s) (place_is t s.attempts a places there)

pub reset_keeps_ : (l : Link) (s : Seen) (w : Wire) (g : ℕ → Line) (t n code : ℕ) (a : Attempt) (e : RowEnd) (q : Queue) → SeesLink l s w g → numbered s.attempts t ≡ Some a
    → a.row.ended ≡ Some e → a.row.stream ≡ Some n → link_number a ≡ l.number → q.items ≡ w.queue.items ++ control.Reset n code ∷ []
    → SeesLink (with_owed (rst_stream_frame n code ∷ []) l) (stream_reset t code s) (record w { queue = q }) g
reset_keeps_ l s w g t n code a e q is there ended stream on items =
    let frames : List FrameSeen = rst_stream_frame n code ∷ [] in
    let m : Link = with_owed frames l in
    let u : Seen = reset_seen frames l.number t s in
    let same : IsUnwritten l m = unwritten_owed l frames in
    let off : is_outstanding_on l a ≡ false
    = ap (λ (o : Option RowEnd). (is_some a.row.placed && is_none o) && holds (λ at. at.link == l.number) a.row.placed) ended
    ∙ never_out (is_some a.row.placed) (holds (λ at. at.link == l.number) a.row.placed) in
    let out : outstanding_on l u ≡ outstanding_on l s = changed_out l with_reset_queued t s.attempts a there off off in
    let bs : by_stream (streaming_on l u) ≡ by_stream (streaming_on l s) = ap by_stream (ap (filter streams) out) in
    let ws : waiting_on l u ≡ waiting_on l s = ap (filter waits) out in
    let S : Seen → Type 0 = λ v. SeesLink m v (record w { queue = q }) g in
    subst S (sym (is_reset_seen s t n code l.number a is.places there stream on)) (record {
      at = changed_here (with_owed frames) l.number s.links l is.at;
      sees = record {
        reads = read_owed l w q frames is.sees.reads;
        live = subst (StreamsAreLive m w.live) (sym bs) (live_still l m w.live (by_stream (streaming_on l s)) same is.sees.live);
      };
      owes = owes_queued l w (record w { queue = q }) frames (control.Reset n code ∷ []) is.owes refl refl refl items;
      waits = is.waits ∙ ap (map (λ (b : Attempt). b.place)) (sym ws);
      fed = subst (StreamsAreFed m u g w.live) (sym bs)
          (all_reset_ m s g frames l.number t w.live (by_stream (streaming_on l s)) (all_still l m s g w.live (by_stream (streaming_on l s)) same is.fed));
      wait_fed = subst (WaitFed m u g) (sym ws)
          (waits_reset m s g frames l.number t (waiting_on l s) (waits_still l m s g (waiting_on l s) same is.wait_fed));
      opened = is.opened;
      fresh = is.fresh;
      tags = is.tags;
      places = subst (AttemptsStandInPlace 1) (sym (changed_at with_reset_queued t s.attempts a is.places there))
          (places_at with_reset_queued (λ b. refl) t 1 s.attempts is.places);
    })

-- where no other reset of the same frame is queued, one stands last
nothing_after : {X : Type 0} (xs : List X) → drop (length xs) xs ≡ []
nothing_after [] = refl
nothing_after (x ∷ xs) = nothing_after xs

none_fresh : (m n : ℕ) → n ≡ 0 → m - n ≡ m
none_fresh m n e = omega (arith, e)

no_more : (m : ℕ) → m + 0 ≡ m
no_more m = omega arith

pub place_last : (n : ℕ) (q : Queue) → q.fresh ≡ 0 → reset_place n q ≡ length q.items
place_last n q e =
    ap (λ (k : ℕ). k + first_place (comes_after n) (drop k q.items)) (none_fresh (length q.items) q.fresh e)
    ∙ ap (λ (cs : List Control). length q.items + first_place (comes_after n) cs) (nothing_after q.items) ∙ no_more (length q.items)

pub reset_last : (n code : ℕ) (q : Queue) → q.fresh ≡ 0 → (reset_queued n code q).items ≡ q.items ++ control.Reset n code ∷ []
reset_last n code q e =
    ap (λ (k : ℕ). insert q.items k (control.Reset n code)) (place_last n q e) ∙ insert_end q.items (control.Reset n code)

pub resets_keep : ResetsKeep
resets_keep l s w g t n code a e is there ended stream on none =
    reset_keeps_ l s w g t n code a e (reset_queued n code w.queue) is there ended stream on (reset_last n code w.queue none)

-- PING
moment_by : (o : Option OpenEntry) (last : ℕ)
    → option_map_or (λ (x : OpenEntry). x.moment) (option_map (λ (x : OpenEntry). record x { stage = stage.Replied; reply = Some reply.Done }) o) last ≡ option_map_or (λ (x : OpenEntry). x.moment) o last
moment_by None last = refl
moment_by (Some x) last = refl

abbrev pinged_seen : List FrameSeen → ℕ → Seen → Seen
pinged_seen frames link s = replied reply.Done (owed frames link s)

ping_now : (frames : List FrameSeen) (link : ℕ) (s : Seen) → now (pinged_seen frames link s) ≡ now s
ping_now frames link s = moment_by s.current _

fed_pinged : (m : Link) (s : Seen) (frames : List FrameSeen) (link : ℕ) (b : Attempt) (line : Line) → IsFed m s b line → IsFed m (pinged_seen frames link s) b line
fed_pinged m s frames link b line is = record {
  call = is.call;
  call_is = is.call_is;
  fields = is.fields
      ∙ ap (λ (n : ℕ). fields_of_request is.call.request s.setup.authority (option_map (λ moment. moment - n) (deadline is.call s)) b.row.number) (sym (ping_now frames link s));
  written = is.written;
  left = is.left;
  finished = is.finished;
}

all_pinged : (m : Link) (s : Seen) (g : ℕ → Line) (frames : List FrameSeen) (link : ℕ) (xs : List LiveStream) (others : List Attempt) → StreamsAreFed m s g xs others
    → StreamsAreFed m (pinged_seen frames link s) g xs others
all_pinged m s g frames link [] [] are = tt
all_pinged m s g frames link (x ∷ xs) (a ∷ others) are = (fed_pinged m s frames link a (g x.tag) are.0, all_pinged m s g frames link xs others are.1)
all_pinged m s g frames link [] (a ∷ others) are = absurd are
all_pinged m s g frames link (x ∷ xs) [] are = absurd are

waits_pinged : (m : Link) (s : Seen) (g : ℕ → Line) (frames : List FrameSeen) (link : ℕ) (xs : List Attempt) → WaitFed m s g xs → WaitFed m (pinged_seen frames link s) g xs
waits_pinged m s g frames link [] are = tt
waits_pinged m s g frames link (a ∷ xs) are = (fed_pinged m s frames link a (g a.place) are.0, waits_pinged m s g frames link xs are.1)

pub pings_keep : PingsKeep
pings_keep l s w g word is =
    let frames : List FrameSeen = ping_frame word ∷ [] in
    let m : Link = with_owed frames l in
    let q : Queue = queued w.queue (control.Ping word) in
    let same : IsUnwritten l m = unwritten_owed l frames in
    let bs : List Attempt = by_stream (streaming_on l s) in
    let W : Option ℕ → Type 0 = λ o. SeesLink m (pinged_seen frames l.number s) (record w { queue = if is_some o then w.queue else q }) g in
    subst W (sym is.sees.reads.whole) (record {
      at = changed_here (with_owed frames) l.number s.links l is.at;
      sees = record { reads = read_owed l w q frames is.sees.reads; live = live_still l m w.live bs same is.sees.live };
      owes = owes_queued l w (record w { queue = q }) frames (control.Ping word ∷ []) is.owes refl refl refl refl;
      waits = is.waits;
      fed = all_pinged m s g frames l.number w.live bs (all_still l m s g w.live bs same is.fed);
      wait_fed = waits_pinged m s g frames l.number (waiting_on l s) (waits_still l m s g (waiting_on l s) same is.wait_fed);
      opened = is.opened;
      fresh = is.fresh;
      tags = is.tags;
      places = is.places;
    })
