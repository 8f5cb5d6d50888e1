-- A drain, frame after frame.
use Rattle.std.proofs.Common.{◌≡◌, ◌+◌, ◌*◌, ◌++◌, ◌<◌, ◌≤◌, ◌^◌, ◌∷◌, ◌&&◌, ◌==◌, ap, append-nil, append_assoc, arith, length-append, refl, subst, sym, ◌∙◌, Bool, true, List, [], Option, None, Some, ℕ, zero, suc, drop, if◌then◌else◌, flat_map, length, map, min, nat_le, not, slice_get, slice_set}
use Rattle.std.proofs.lemmas.Bool.{le-leb, lt-leb}
use Rattle.std.specs.Option.{option_and_then, option_map, option_map_or}
use Rattle.call_actions.proofs.Lists.{changed_twice}
use Rattle.call_actions.specs.Order.{AttemptsAreNumbered}
use Rattle.channel_actions.proofs.Drains.Writes.Counts.{sends_opened}
use Rattle.channel_actions.proofs.Drains.Writes.Forms.{IsForm, rows_join, rows_self, sent_on, written_form}
use Rattle.channel_actions.proofs.Drains.Writes.Fresh.{IsFreshHead, fresh_head}
use Rattle.channel_actions.proofs.Drains.Writes.Given.{AreGiven, frame_given, given_between, given_on, none_given}
use Rattle.channel_actions.specs.DrainWrites.Laws.{RowsAgree, DrainsAreActions, IsDraining, with_all_sent, writing}
use Rattle.grpc_base.specs.declared.event.Event.{Event}
use Rattle.grpc_base.specs.declared.event.Reply.{Reply}
use Rattle.grpc_base.specs.declared.event.Reply.TheVariants as reply
use Rattle.grpc_link.specs.Links.{opened_all}
use Rattle.grpc_link.specs.declared.readers.TagReader.{TagReader}
use Rattle.h2_frame.specs.Frames.{FrameSeen}
use Rattle.h2_frame.specs.Numbers.{headers_type}
use Rattle.h2_link.specs.Drains.{AFrame, Outgoing, Sends, named, next, octets_of, opened_between}
use Rattle.h2_link.specs.Drains.{Sent as Sending}
use Rattle.h2_link.specs.Feeds.{Line}
use Rattle.h2_link.specs.Wire.{Wire}
use Rattle.h2_link.specs.declared.live.LiveStream.{LiveStream}
use Rattle.link_actions.proofs.Next.{writes_are_same}
use Rattle.link_actions.specs.Laws.{with_written}
use Rattle.link_actions.specs.Sees.{AttemptsStandInPlace, outgoing_of}
use Rattle.link_actions.proofs.ReaderActions.Openings.{openings_add_up}
use Rattle.link_actions.proofs.ReaderActions.Written.{writes_keep_readers}
use Rattle.link_actions.specs.ResponseActions.Readers.{SeesReaders}
use Rattle.session_actions.specs.Actions.{after, after_if, first_action, following, of_stage}
use Rattle.session_actions.specs.CallEnds.{is_after_event, is_refusal, is_replied}
use Rattle.session_actions.specs.Events.{frame_action, frame_of_event}
use Rattle.session_actions.specs.Responses.{limit_of_attempt, response_in}
use Rattle.session_actions.specs.Sessions.{Does}
use Rattle.session_actions.specs.Words.{changed, changed_if, holds, numbered}
use Rattle.session_actions.specs.Writing.{bytes_given, bytes_of, fits_drain, frame_to_write, frame_written, frame_written_on, sendable, stream_opened_by, with_written_bytes}
use Rattle.session_actions.specs.declared.action.Action.{Action}
use Rattle.session_actions.specs.declared.action.Action.TheVariants as action
use Rattle.session_actions.specs.declared.attempt.Attempt.{Attempt}
use Rattle.session_actions.specs.declared.entry.OpenEntry.{OpenEntry}
use Rattle.session_actions.specs.declared.entry.Stage.{Stage}
use Rattle.session_actions.specs.declared.link.Link.{Link}
use Rattle.session_actions.specs.declared.link.Sent.{Sent}
use Rattle.session_actions.specs.declared.link.Sent.TheVariants as sent
use Rattle.session_actions.specs.declared.seen.Seen.{Seen}
use Rattle.session_order.proofs.Quiescence.{quiescence_leaves_stage}
use Rattle.link_actions.proofs.StreamActions.WriteStreams.{writes_keep_streams}
use Rattle.link_actions.specs.StreamActions.Laws.{IsWrittenOn}
use Rattle.link_actions.specs.StreamActions.Sees.{SeesStreams}
use Rattle.channel_actions.proofs.Streams.Opened.Written.{writes_stir_nothing}
use Rattle.channel_actions.specs.StreamsOpened.Laws.{CanWrite, IsBlank}

-- the bytes of what is written
same_bytes : (x : Sent) → bytes_of x ≡ octets_of (outgoing_of x)
same_bytes sent.Preface = refl
same_bytes (sent.Frame f) = refl

frame_of : (x : Sent) (f : FrameSeen) → x ≡ sent.Frame f → outgoing_of x ≡ AFrame f
frame_of x f e = ap outgoing_of e

numbers_of : (n : ℕ) (xs : List Attempt) → AttemptsStandInPlace n xs → AttemptsAreNumbered n xs
numbers_of n [] h = tt
numbers_of n (a ∷ xs) h = (h.0, subst (λ (k : ℕ). AttemptsAreNumbered k xs) (let e : n + 1 ≡ suc n = omega arith in e) (numbers_of (n + 1) xs h.1))

-- the frame that comes next, where it fits
abbrev room : ℕ → ℕ
room most = min most 1048576

module _ (o : OpenEntry) (s : Seen) (l : Link) (most : ℕ) (given : List ℕ) (is : IsDraining o s l.number most given) (at : numbered s.links l.number ≡ Some l) where
  after_event : is_after_event o ≡ true
  after_event =
      ap (λ (q : Stage). is_replied q && holds (λ (r : Reply). not (is_refusal r)) o.reply) is.stage_is
      ∙ ap (λ (r : Option Reply). holds (λ (r : Reply). not (is_refusal r)) r) is.reply_is

  frame_is : frame_action o s ≡ option_and_then (frame_to_write l.number most o s) (sendable l s)
  frame_is =
      ap (λ (b : Bool). if b then frame_of_event o.event o s else None) after_event ∙ ap (λ (e : Event). frame_of_event e o s) is.event_is
      ∙ ap (option_and_then (λ (k : Link). option_and_then (frame_to_write l.number most o s) (sendable k s))) at

  fits_is : (x : Sent) → fits_drain most o x ≡ nat_le (length given + length (bytes_of x)) (room most)
  fits_is x = ap (λ (r : Option Reply). nat_le (length (bytes_given r) + length (bytes_of x)) (room most)) is.reply_is

  gives : (x : Sent) → sendable l s ≡ Some x → frame_action o s ≡ (if nat_le (length given + length (bytes_of x)) (room most) then Some (action.FrameWritten l.number x) else None)
  gives x e =
      frame_is ∙ ap (option_and_then (frame_to_write l.number most o s)) e
      ∙ ap (λ (b : Bool). if b then Some (action.FrameWritten l.number x) else None) (fits_is x)

  next_is : (x : Sent) → sendable l s ≡ Some x → length given + length (bytes_of x) ≤ room most → following s ≡ Some (action.FrameWritten l.number x)
  next_is x e fits =
      quiescence_leaves_stage o s is.current is.quiescent ∙ ap (of_stage o s) is.stage_is
      ∙ ap (λ (a : Option Action). first_action (a ∷ Some action.SettlingBegins ∷ []))
      (gives x e ∙ ap (λ (b : Bool). if b then Some (action.FrameWritten l.number x) else None) (le-leb (length given + length (bytes_of x)) (room most) fits))

  after_is : (x : Sent) → after (action.FrameWritten l.number x) s ≡ frame_written l.number x s
  after_is x = ap (λ (c : Option OpenEntry). after_if c (action.FrameWritten l.number x) s) is.current

  -- where none fits any more
  none_by : (z : Option Sent) → sendable l s ≡ z → ((x : Sent) → sendable l s ≡ Some x → room most < length given + length (bytes_of x)) → frame_action o s ≡ None
  none_by None e stops = frame_is ∙ ap (option_and_then (frame_to_write l.number most o s)) e
  none_by (Some x) e stops =
      gives x e ∙ ap (λ (b : Bool). if b then Some (action.FrameWritten l.number x) else None) (lt-leb (length given + length (bytes_of x)) (room most) (stops x e))

  pub none_left : ((x : Sent) → sendable l s ≡ Some x → room most < length given + length (bytes_of x)) → frame_action o s ≡ None
  none_left stops = none_by (sendable l s) refl stops

-- what is written is fresh where it opens a stream
blank_of : (l : Link) (s : Seen) (w : Wire) (g : ℕ → Line) (y : Sending) (x : Sent) → SeesStreams l s w g → next w g ≡ Some y → outgoing_of x ≡ y.frame → (f : FrameSeen) (a : Attempt)
    → x ≡ sent.Frame f → (f.kind == headers_type) ≡ true → IsBlank (response_in (limit_of_attempt a s) f.stream l.traffic)
blank_of l s w g y x is found same f a frame kind =
    let fresh : IsFreshHead w f = fresh_head w g y f found (sym same ∙ frame_of x f frame) kind in
    let high : 2 * w.opened < f.stream = (let number : f.stream ≡ 2 * w.opened + 1 = fresh.stream in omega (arith, number)) in
    let none = is.unreceived (limit_of_attempt a s) f.stream high (sym is.sees.sees.reads.retiring ∙ fresh.takes) in
    record { head = none.head; end = none.goes; large = none.small }

can_write : (l : Link) (s : Seen) (w : Wire) (g : ℕ → Line) (y : Sending) (x : Sent) → SeesStreams l s w g → next w g ≡ Some y → outgoing_of x ≡ y.frame → CanWrite l x s
can_write l s w g y x is found same = record {
  places = numbers_of 1 s.attempts is.sees.places;
  at = is.sees.at;
  blank = λ f a frame kind got. blank_of l s w g y x is found same f a frame kind;
}

-- the entry goes on
draining_on : (o : OpenEntry) (s : Seen) (l : Link) (most : ℕ) (given : List ℕ) (x : Sent) → IsDraining o s l.number most given → CanWrite l x s
    → IsForm x l s o (frame_written l.number x s) → IsDraining (with_written_bytes x o) (frame_written l.number x s) l.number most (given ++ bytes_of x)
draining_on o s l most given x is can form =
    let there : (frame_written l.number x s).current ≡ Some (with_written_bytes x o) = ap (λ (z : Seen). z.current) form.is in
    record {
      current = there;
      event_is = is.event_is;
      stage_is = is.stage_is;
      reply_is = ap (λ (r : Option Reply). Some (reply.Octets (bytes_given r ++ bytes_of x))) is.reply_is;
      quiescent = λ m. writes_stir_nothing l.number most l x o (with_written_bytes x o) s m is.current is.event_is can there (is.quiescent m);
    }

-- from any point of it
pub record IsRest (l : Link) (s : Seen) (o : OpenEntry) (given octets : List ℕ) (w w2 : Wire) (g2 : ℕ → Line) (readers : List TagReader) (most : ℕ) : Type 0 where
  pub sent : List Sent
  pub seen : Seen
  pub does : Does (map (writing l.number) sent) s seen
  pub entry : OpenEntry
  pub entry_is : entry ≡ record o { reply = Some (reply.Octets (given ++ octets)) }
  pub is : seen ≡ record s { attempts = seen.attempts; links = changed (with_all_sent sent) l.number s.links; current = Some entry }
  pub rows : RowsAgree s.attempts seen.attempts
  pub gives : AreGiven w w2 s.attempts seen.attempts
  pub streams : SeesStreams (with_all_sent sent l) seen w2 g2
  pub readers_are : SeesReaders (with_all_sent sent l) seen readers
  pub draining : IsDraining entry seen l.number most (given ++ octets)

-- nothing more is written
set_same : (xs : List Link) (i : ℕ) (x : Link) → slice_get xs i ≡ Some x → slice_set xs i x ≡ xs
set_same [] i x e = refl
set_same (y ∷ xs) zero x e = let one : x ≡ y = (cc) in ap (λ (z : Link). z ∷ xs) one
set_same (y ∷ xs) (suc i) x e = ap (λ (l : List Link). y ∷ l) (set_same xs i x e)

same_if : (i : ℕ) (xs : List Link) (o : Option Link) → slice_get xs i ≡ o → changed_if (with_all_sent []) (suc i) xs o ≡ xs
same_if i xs None e = refl
same_if i xs (Some x) e = set_same xs i x e

none_changed : (n : ℕ) (xs : List Link) → changed (with_all_sent []) n xs ≡ xs
none_changed zero xs = refl
none_changed (suc i) xs = same_if i xs (slice_get xs i) refl

drop_all : (xs : List LiveStream) → drop (length xs) xs ≡ []
drop_all [] = refl
drop_all (x ∷ xs) = drop_all xs

none_opened : (w : Wire) (readers : List TagReader) → opened_all (opened_between w w) readers ≡ readers
none_opened w readers = ap (λ (xs : List LiveStream). opened_all (map named xs) readers) (drop_all w.live)

rest_none : (l : Link) (s : Seen) (o : OpenEntry) (given : List ℕ) (w : Wire) (g : ℕ → Line) (readers : List TagReader) (most : ℕ) → SeesStreams l s w g → SeesReaders l s readers
    → IsDraining o s l.number most given → IsRest l s o given [] w w g (opened_all (opened_between w w) readers) most
rest_none l s o given w g readers most is reads draining = record {
  sent = [];
  seen = s;
  does = refl;
  entry = o;
  entry_is = ap (λ (r : Option Reply). record o { reply = r }) (draining.reply_is ∙ ap (λ (bs : List ℕ). Some (reply.Octets bs)) (sym (append-nil given)));
  is = ap (λ (c : Option OpenEntry). record s { current = c }) draining.current
      ∙ ap (λ (ls : List Link). record s { links = ls; current = Some o }) (sym (none_changed l.number s.links));
  rows = rows_self s.attempts;
  gives = none_given w s.attempts;
  streams = is;
  readers_are = subst (SeesReaders l s) (sym (none_opened w readers)) reads;
  draining = subst (IsDraining o s l.number most) (sym (append-nil given)) draining;
}

-- one frame, and then the rest
module _ (l : Link) (s : Seen) (o : OpenEntry) (given : List ℕ) (w : Wire) (g : ℕ → Line) (f : Outgoing) (more : List ℕ) (y : Sending) (readers : List TagReader) (most : ℕ)
    (is : SeesStreams l s w g) (reads : SeesReaders l s readers) (draining : IsDraining o s l.number most given) (found : next w g ≡ Some y) (framed : f ≡ y.frame)
    (fits : length given + length (octets_of f ++ more) ≤ room most) (one : IsWrittenOn l s y) where
  abbrev x : Sent
  x = one.sent

  abbrev s1 : Seen
  s1 = frame_written l.number x s

  abbrev o1 : OpenEntry
  o1 = with_written_bytes x o

  bytes_are : bytes_of x ≡ octets_of f
  bytes_are = same_bytes x ∙ ap octets_of (one.same ∙ sym framed)

  can : CanWrite l x s
  can = can_write l s w g y x is found one.same

  form : IsForm x l s o s1
  form = written_form x l s o is.sees.at draining.current

  pub then_draining : IsDraining o1 s1 l.number most (given ++ bytes_of x)
  then_draining = draining_on o s l most given x draining can form

  fits_one : length given + length (bytes_of x) ≤ room most
  fits_one =
      let whole : length (octets_of f ++ more) ≡ length (octets_of f) + length more = length-append (octets_of f) more in
      let own : length (bytes_of x) ≡ length (octets_of f) = ap (λ (bs : List ℕ). length bs) bytes_are in
      omega (arith, fits, whole, own)

  pub fits_rest : length (given ++ bytes_of x) + length more ≤ room most
  fits_rest =
      let whole : length (octets_of f ++ more) ≡ length (octets_of f) + length more = length-append (octets_of f) more in
      let own : length (bytes_of x) ≡ length (octets_of f) = ap (λ (bs : List ℕ). length bs) bytes_are in
      let prefix : length (given ++ bytes_of x) ≡ length given + length (bytes_of x) = length-append given (bytes_of x) in
      omega (arith, fits, whole, own, prefix)

  opened_now : s1.attempts ≡ (stream_opened_by x l s).attempts
  opened_now = ap (λ (q : Option Link). (option_map_or (frame_written_on x s) q s).attempts) is.sees.at

  bytes_join : (given ++ bytes_of x) ++ more ≡ given ++ (octets_of f ++ more)
  bytes_join = append_assoc given (bytes_of x) more ∙ ap (λ (bs : List ℕ). given ++ (bs ++ more)) bytes_are

  pub joined : (w2 : Wire) (g2 : ℕ → Line) (after_ : List TagReader) → IsRest (with_written x l) s1 o1 (given ++ bytes_of x) more y.wire w2 g2 after_ most
      → IsRest l s o given (octets_of f ++ more) w w2 g2 after_ most
  joined w2 g2 after_ rest = record {
    sent = x ∷ rest.sent;
    seen = rest.seen;
    does = (
      next_is o s l most given draining is.sees.at x one.next fits_one,
      subst (λ (z : Seen). Does (map (writing l.number) rest.sent) z rest.seen) (sym (after_is o s l most given draining is.sees.at x)) rest.does,
    );
    entry = rest.entry;
    entry_is = rest.entry_is ∙ ap (λ (bs : List ℕ). record o { reply = Some (reply.Octets bs) }) bytes_join;
    is = rest.is
        ∙ ap (λ (z : Seen). record z { attempts = rest.seen.attempts; links = changed (with_all_sent rest.sent) l.number z.links; current = Some rest.entry }) form.is
        ∙ ap (λ (ls : List Link). record s { attempts = rest.seen.attempts; links = ls; current = Some rest.entry }) (changed_twice (sent_on x) (with_all_sent rest.sent) l.number s.links);
    rows = rows_join s.attempts s1.attempts rest.seen.attempts form.rows rest.rows;
    gives = given_on l s x w y.wire w2 rest.seen.attempts (frame_given l s w g y x (numbers_of 1 s.attempts is.sees.places) is.sees.waits found one.same)
        (subst (λ (as_ : List Attempt). AreGiven y.wire w2 as_ rest.seen.attempts) opened_now rest.gives);
    streams = rest.streams;
    readers_are = rest.readers_are;
    draining = subst (IsDraining rest.entry rest.seen l.number most) bytes_join rest.draining;
  }

rest_of : (l : Link) (s : Seen) (o : OpenEntry) (given : List ℕ) (w : Wire) (g : ℕ → Line) (fs : List Outgoing) (w2 : Wire) (g2 : ℕ → Line) (readers : List TagReader) (most : ℕ)
    → SeesStreams l s w g → SeesReaders l s readers → IsDraining o s l.number most given → w2.opened < 2 ^ 30 → Sends w g fs w2 g2
    → length given + length (flat_map octets_of fs) ≤ room most → IsRest l s o given (flat_map octets_of fs) w w2 g2 (opened_all (opened_between w w2) readers) most
rest_of l s o given w g [] w2 g2 readers most is reads draining few h fits =
    subst (λ (v : Wire). IsRest l s o given [] w v g2 (opened_all (opened_between w v) readers) most) (sym h.0)
    (subst (λ (k : ℕ → Line). IsRest l s o given [] w w k (opened_all (opened_between w w) readers) most) (sym h.1) (rest_none l s o given w g readers most is reads draining))
rest_of l s o given w g (f ∷ fs) w2 g2 readers most is reads draining few h fits =
    let y : Sending = h.0 in
    let now : w.opened < 2 ^ 30 = (let grows : w.opened ≤ w2.opened = sends_opened w g (f ∷ fs) w2 g2 h in omega (arith, grows, few)) in
    let one : IsWrittenOn l s y = writes_keep_streams l s w g y is now h.1 in
    let x : Sent = one.sent in
    let after_ : List TagReader = opened_all (opened_between y.wire w2) (opened_all (opened_between w y.wire) readers) in
    let rest : IsRest (with_written x l) (frame_written l.number x s) (with_written_bytes x o) (given ++ bytes_of x) (flat_map octets_of fs) y.wire w2 g2 after_ most
    = rest_of (with_written x l) (frame_written l.number x s) (with_written_bytes x o) (given ++ bytes_of x) y.wire y.lines fs w2 g2 (opened_all (opened_between w y.wire) readers) most
    one.sees (writes_keep_readers l s w g y readers is reads h.1 one)
    (then_draining l s o given w g f (flat_map octets_of fs) y readers most is reads draining h.1 h.2 fits one) few h.3
    (fits_rest l s o given w g f (flat_map octets_of fs) y readers most is reads draining h.1 h.2 fits one) in
    subst (λ (rs : List TagReader). IsRest l s o given (octets_of f ++ flat_map octets_of fs) w w2 g2 rs most) (sym (openings_add_up w w2 g g2 y fs readers h.1 h.3))
    (joined l s o given w g f (flat_map octets_of fs) y readers most is reads draining h.1 h.2 fits one w2 g2 after_ rest)

-- and where it stops
next_by : (l : Link) (s : Seen) (o : Option Sending) (x : Sent) → sendable l s ≡ Some x → option_map outgoing_of (sendable l s) ≡ option_map (λ (y : Sending). y.frame) o
    → (room_ more : ℕ) → ((y : Sending) → o ≡ Some y → room_ < more + length (octets_of y.frame)) → room_ < more + length (bytes_of x)
next_by l s None x e same room_ more stops = absurd (let never : Some (outgoing_of x) ≡ None = sym (ap (option_map outgoing_of) e) ∙ same in (let no_ : ⊥ = (cc) in no_))
next_by l s (Some y) x e same room_ more stops =
    let both : Some (outgoing_of x) ≡ Some y.frame = sym (ap (option_map outgoing_of) e) ∙ same in
    let frame : outgoing_of x ≡ y.frame = (cc) in
    subst (λ (bs : List ℕ). room_ < more + length bs) (sym (same_bytes x ∙ ap octets_of frame)) (stops y refl)

number_all : (sent : List Sent) (l : Link) → (with_all_sent sent l).number ≡ l.number
number_all [] l = refl
number_all (x ∷ sent) l = number_all sent (sent_on x l)

pub drains_are_actions : DrainsAreActions
drains_are_actions l s o w w2 g g2 readers most octets is reads few drains draining =
    let here_ : length (flat_map octets_of drains.frames) ≤ room most = subst (λ (bs : List ℕ). length bs ≤ room most) drains.whole drains.fits in
    let fits : 0 + length (flat_map octets_of drains.frames) ≤ room most = omega (arith, here_) in
    let rest : IsRest l s o [] (flat_map octets_of drains.frames) w w2 g2 (opened_all (opened_between w w2) readers) most
    = rest_of l s o [] w g drains.frames w2 g2 readers most is reads draining few drains.sends fits in
    let m : Link = with_all_sent rest.sent l in
    let streams = given_between w w2 s.attempts rest.seen.attempts rest.gives in
    let here : IsDraining rest.entry rest.seen m.number most octets
    = subst (λ (n : ℕ). IsDraining rest.entry rest.seen n most octets) (sym (number_all rest.sent l))
    (subst (IsDraining rest.entry rest.seen l.number most) (sym drains.whole) rest.draining) in
    record {
      sent = rest.sent;
      seen = rest.seen;
      does = rest.does;
      entry = rest.entry;
      entry_is = rest.entry_is ∙ ap (λ (bs : List ℕ). record o { reply = Some (reply.Octets bs) }) (sym drains.whole);
      is = rest.is;
      rows = rest.rows;
      given = streams.0;
      fresh = streams.1;
      streams = rest.streams;
      readers_are = rest.readers_are;
      quiescent = rest.draining.quiescent;
      none = none_left rest.entry rest.seen m most octets here rest.streams.sees.at
          (λ x e. next_by m rest.seen (next w2 g2) x e (writes_are_same m rest.seen w2 g2 rest.streams.sees few) (room most) (length octets) drains.stops);
    }
