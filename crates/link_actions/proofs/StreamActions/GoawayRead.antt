-- After GOAWAY, the ends that it brings, and the resets of their streams, link and session agree again.
use Rattle.std.proofs.Common.{◌≡◌, ◌∷◌, ◌++◌, ◌||◌, ◌&&◌, ◌==◌, not, ap, arith, refl, subst, sym, ◌∙◌, Bool, true, false, List, [], Option, None, Some, Ok, ℕ, ◌+◌, ◌*◌, suc, append-nil, cond, filter, filter_map, if◌then◌else◌, is_none, is_some, length, map, nat_lt, slice_get}
use Rattle.std.specs.List.{AllByRecursion, list_any}
use Rattle.std.specs.Option.{unwrap_or}
use Rattle.std.proofs.lemmas.Bool.{eqb-true}
use Rattle.std.proofs.lemmas.Bool.Decides.{nat_tests}
use Rattle.attempt_ledger.specs.declared.row.RowEnd.{RowEnd}
use Rattle.grpc_base.specs.ErrorCodes.{cancel}
use Rattle.h2_frame.specs.Frames.{FrameSeen, is_allowed, is_overpadded, is_zero_update, keeps_sizes, kind_allows_stream}
use Rattle.h2_frame.specs.Numbers.{continuation_type, data_type, goaway_type, headers_type, ping_type, rst_stream_type, settings_type, window_update_type}
use Rattle.h2_frame.specs.Payloads.{last_stream, reset_code}
use Rattle.h2_frame.specs.Sent.{rst_stream_frame}
use Rattle.h2_link.specs.Drains.{AFrame, outgoing}
use Rattle.h2_link.specs.Feeds.{Line}
use Rattle.h2_link.specs.LinkErrors as link
use Rattle.h2_link.specs.Queues.{Queue, sealed}
use Rattle.h2_link.specs.Steps.{all_reset, applied, continuation_reported, data_reported, found_from, goaway_reported, headers_reported, is_above, is_numbered, is_within, judged, outcome, ping_reported, plain_reported, read_after, reset_reported, settings_reported, reported}
use Rattle.h2_link.specs.Wire.{Report, Wire}
use Rattle.h2_link.specs.declared.control.Control.{Control}
use Rattle.h2_link.specs.declared.control.Control.TheVariants as control
use Rattle.h2_link.specs.declared.live.LiveStream.{LiveStream}
use Rattle.lb_policy.specs.Table.{is_one_of}
use Rattle.link_actions.proofs.Ended.{changed_one}
use Rattle.link_actions.proofs.Receiving.{Received, goaway_received, not_kind, of_settings}
use Rattle.link_actions.proofs.History.{retiring_more}
use Rattle.link_actions.proofs.Lists.{both_if, if_false, if_true}
use Rattle.link_actions.proofs.Opened.{put_all}
use Rattle.link_actions.proofs.QuietKept.{joined, owed_read}
use Rattle.link_actions.proofs.Queued.{is_reset_seen}
use Rattle.link_actions.proofs.Without.{all_filter, opened_without}
use Rattle.link_actions.specs.Laws.{with_owed}
use Rattle.link_actions.specs.Sees.{StreamsAreLive, AttemptsStandInPlace, SeesLink, SeesRead, by_stream, named_in}
use Rattle.session_actions.specs.AttemptEnds.{stream_reset, with_reset_queued}
use Rattle.session_actions.specs.Links.{is_retiring, is_settings, link_number, settings_of, stream_number, with_link}
use Rattle.session_actions.specs.Reading.{is_outstanding_on, is_setting, open_block, outstanding_on}
use Rattle.session_actions.specs.Responses.{ended, initial_after, limit_of_attempt, response_in, with_read, with_stream_frame}
use Rattle.session_actions.specs.Words.{numbered}
use Rattle.session_actions.specs.Writing.{frame_read, frame_read_on, owed_for, streaming_on, waiting_on, with_frame_read}
use Rattle.session_actions.specs.declared.attempt.Attempt.{Attempt}
use Rattle.session_actions.specs.declared.link.Link.{Link}
use Rattle.session_actions.specs.declared.link.ReadFrame.{ReadFrame}
use Rattle.session_actions.specs.declared.link.Traffic.TheVariants as traffic
use Rattle.session_actions.specs.declared.response.Response.{Response}
use Rattle.session_actions.specs.declared.seen.Seen.{Seen}
use Rattle.link_actions.proofs.StreamActions.Goaway.{AreReceivedTo, HasEnded, SeesTo, all_end, all_have_ended, is_none_of, places_of, without_all}
use Rattle.link_actions.proofs.StreamActions.PlainRead.{none_owed}
use Rattle.link_actions.proofs.StreamActions.Resets.{all_are_queued, resets_of}
use Rattle.link_actions.proofs.StreamActions.Responses.{IsLike, goes_on, received_like, like_itself, response_read}
use Rattle.link_actions.proofs.StreamActions.StreamEnds.{not_so, on_link, reset_received}
use Rattle.link_actions.proofs.StreamActions.StreamGoes.{fair_opened}
use Rattle.link_actions.proofs.StreamActions.StreamRead.{live_read, read_is, read_keeps}
use Rattle.link_actions.specs.StreamActions.Laws.{AreAllOf, Comes, GoawaysAreRead, IsSomewhere, ended_all, is_left_out, left_out, left_resets, read_link, reset_all}
use Rattle.link_actions.specs.StreamActions.Sees.{ResponsesAreReceived, SeesStreams, response_of}

-- of a stream that it does not leave out it says nothing
first_of_all : (a b c d : Bool) → ((a && b && c) && d) ≡ true → a ≡ true
first_of_all true b c d e = refl
first_of_all false b c d e = absurd (cc)

on_no_stream : (f : FrameSeen) → is_allowed f ≡ true → f.kind ≡ goaway_type → f.stream ≡ 0
on_no_stream f allowed kind =
    let first : kind_allows_stream f.kind f.stream ≡ true
    = first_of_all (kind_allows_stream f.kind f.stream) (not (is_overpadded f.kind f.flags (length f.payload) f.payload)) (not (is_zero_update f.kind f.stream f.payload)) (keeps_sizes f) allowed in
    eqb-true f.stream 0 (sym (ap (λ (k : ℕ). kind_allows_stream k f.stream) kind) ∙ first)

last_false : (a b : Bool) → b ≡ false → (a && b) ≡ false
last_false true b e = e
last_false false b e = refl

both_ways : (b : Bool) → b ≡ true → b ≡ false → ⊥
both_ways true e h = (cc)
both_ways false e h = (cc)

or_last : (a : Bool) → (a || true) ≡ true
or_last true = refl
or_last false = refl

zero_apart : (k : ℕ) → (k == 0) ≡ false → (0 == k) ≡ false
zero_apart k h = grind (arith, nat_tests, h)

goaway_passes : (limit k : ℕ) (p : Response) (r : ReadFrame) → is_settings r.frame ≡ false → nat_lt (last_stream r.frame.payload) k ≡ false → (r.frame.stream == k) ≡ false
    → with_read limit k p r ≡ p
goaway_passes limit k p r no_settings_ low other =
    let f : FrameSeen = r.frame in
    if_false (is_settings f) (record p { initial = initial_after p.initial f }) _ no_settings_
    ∙ if_false ((f.kind == goaway_type) && nat_lt (last_stream f.payload) k) _ _ (last_false (f.kind == goaway_type) (nat_lt (last_stream f.payload) k) low)
    ∙ if_false (f.stream == k) (with_stream_frame limit p f r.block) p other

received_to : (l : Link) (s : Seen) (r : ReadFrame) (frames : List FrameSeen) (h : Link → Link) (xs : List LiveStream) (others : List Attempt) → is_settings r.frame ≡ false → r.frame.stream ≡ 0
    → StreamsAreLive l xs others → ResponsesAreReceived l s xs others → AreReceivedTo (last_stream r.frame.payload) (with_frame_read r frames l) (with_link h l.number s) xs others
received_to l s r frames h [] [] no_settings_ at are handled = tt
received_to l s r frames h (x ∷ xs) (a ∷ others) no_settings_ at are handled = (
  λ low.
      let limit : ℕ = limit_of_attempt a s in
      let p : Response = response_of l s x.number a in
      let apart : (r.frame.stream == x.number) ≡ false = ap (λ (n : ℕ). n == x.number) at ∙ zero_apart x.number are.0.some in
      let same : response_in limit x.number (with_frame_read r frames l).traffic ≡ p
      = response_read limit x.number l r frames ∙ goes_on limit x.number p (traffic.Read r) handled.0.goes handled.0.small ∙ goaway_passes limit x.number p r no_settings_ low apart in
      received_like l (with_frame_read r frames l) s (with_link h l.number s) x x a refl (subst (IsLike p) (sym same) (like_itself p)) handled.0,
  received_to l s r frames h xs others no_settings_ at are.1 handled.1,
)
received_to l s r frames h [] (a ∷ others) no_settings_ at are handled = absurd are
received_to l s r frames h (x ∷ xs) [] no_settings_ at are handled = absurd are

-- what is left
live_agree : (l : Link) (ts : List ℕ) (last : ℕ) (xs : List LiveStream) (others : List Attempt) → StreamsAreLive l xs others
    → AllByRecursion (λ a. is_one_of ts a.place ≡ is_left_out last a) others → filter (λ x. is_none_of ts x.tag) xs ≡ filter (is_within last) xs
live_agree l ts last [] [] are all = refl
live_agree l ts last (x ∷ xs) (a ∷ others) are all =
    let number : stream_number a ≡ x.number = ap (λ (o : Option ℕ). unwrap_or o 0) are.0.stream in
    let same : is_none_of ts x.tag ≡ is_within last x
    = ap not (ap (is_one_of ts) are.0.tag ∙ all.0 ∙ ap (nat_lt last) number) in
    ap (λ (c : Bool). cond c (x ∷ filter (λ y. is_none_of ts y.tag) xs) (filter (λ y. is_none_of ts y.tag) xs)) same
    ∙ ap (λ (ys : List LiveStream). cond (is_within last x) (x ∷ ys) ys) (live_agree l ts last xs others are.1 all.1)
live_agree l ts last [] (a ∷ others) are all = absurd are
live_agree l ts last (x ∷ xs) [] are all = absurd are

none_wait : (ts : List ℕ) (ws : List Attempt) → AllByRecursion (λ a. is_one_of ts a.place ≡ true) ws → filter (is_none_of ts) (map (λ (a : Attempt). a.place) ws) ≡ []
none_wait ts [] all = refl
none_wait ts (a ∷ ws) all =
    let rest : List ℕ = filter (is_none_of ts) (map (λ (b : Attempt). b.place) ws) in
    if_false (is_none_of ts a.place) (a.place ∷ rest) rest (ap not all.0) ∙ none_wait ts ws all.1

pass_by : {X : Type 0} (p : X → Bool) (x : X) (ys : List X) (b : Bool) → p x ≡ b → AllByRecursion (λ y. p y ≡ true) ys → AllByRecursion (λ y. p y ≡ true) (cond b (x ∷ ys) ys)
pass_by p x ys true e all = (e, all)
pass_by p x ys false e all = all

kept_pass : {X : Type 0} (p : X → Bool) (xs : List X) → AllByRecursion (λ x. p x ≡ true) (filter p xs)
kept_pass p [] = tt
kept_pass p (x ∷ xs) = pass_by p x (filter p xs) (p x) refl (kept_pass p xs)

within_received : (last : ℕ) (l : Link) (s : Seen) (xs : List LiveStream) (others : List Attempt) → AllByRecursion (λ x. is_within last x ≡ true) xs → AreReceivedTo last l s xs others → ResponsesAreReceived l s xs others
within_received last l s [] [] all handled = tt
within_received last l s (x ∷ xs) (a ∷ others) all handled = (handled.0 (not_so (is_above last x) all.0), within_received last l s xs others all.1 handled.1)
within_received last l s [] (a ∷ others) all handled = absurd handled
within_received last l s (x ∷ xs) [] all handled = absurd handled

-- the attempts on the link, each at its place
sorted_all : (P : Attempt → Type 0) (xs : List Attempt) → AllByRecursion P xs → AllByRecursion P (by_stream xs)
sorted_all P [] all = tt
sorted_all P (a ∷ xs) all = put_all P a (by_stream xs) all.0 (sorted_all P xs all.1)

there_from : (whole : List Attempt) (i : ℕ) (xs : List Attempt) → ((j : ℕ) → slice_get whole (i + j) ≡ slice_get xs j) → AttemptsStandInPlace (i + 1) xs
    → AllByRecursion (λ a. numbered whole a.place ≡ Some a) xs
there_from whole i [] same places = tt
there_from whole i (x ∷ xs) same places =
    let place : x.place ≡ suc i = (let at : x.place ≡ i + 1 = places.0 in omega (arith, at)) in
    let here : slice_get whole i ≡ Some x = ap (slice_get whole) (let none : i ≡ i + 0 = omega arith in none) ∙ same 0 in (
      ap (numbered whole) place ∙ here,
      there_from whole (i + 1) xs (λ j. ap (slice_get whole) (let next : i + 1 + j ≡ i + suc j = omega arith in next) ∙ same (suc j)) places.1,
    )

all_there : (xs : List Attempt) → AttemptsStandInPlace 1 xs → AllByRecursion (λ a. numbered xs a.place ≡ Some a) xs
all_there xs places =
    let o : ℕ = 0 in
    let one : o + 1 ≡ 1 = refl in
    there_from xs o xs (λ j. ap (slice_get xs) (let none : o + j ≡ j = omega arith in none)) (subst (λ (n : ℕ). AttemptsStandInPlace n xs) (sym one) places)

-- the resets
abbrev AreReset : Seen → ℕ → List Attempt → List LiveStream → Type 0
AreReset s link [] [] = Unit {0}
AreReset s link (a ∷ xs) (y ∷ ys) = (stream_number a ≡ y.number) × HasEnded s a.place y.number link × AreReset s link xs ys
AreReset s link _ _ = ⊥

row_by : (s : Seen) (t k n code link : ℕ) (a b : Attempt) (e : RowEnd) (x : Bool) → numbered (stream_reset t code s).attempts k ≡ Some (if x then with_reset_queued b else b)
    → b.row.ended ≡ Some e → b.row.stream ≡ Some n → link_number b ≡ link → HasEnded (stream_reset t code s) k n link
row_by s t k n code link a b e true there ended stream on = record { attempt = with_reset_queued b; there = there; end = e; ended = ended; stream = stream; on = on }
row_by s t k n code link a b e false there ended stream on = record { attempt = b; there = there; end = e; ended = ended; stream = stream; on = on }

ended_after : (s : Seen) (t m k n code link : ℕ) → AttemptsStandInPlace 1 s.attempts → HasEnded s t m link → HasEnded s k n link → HasEnded (stream_reset t code s) k n link
ended_after s t m k n code link places first h =
    row_by s t k n code link first.attempt h.attempt h.end (k == t)
    (ap (λ (u : Seen). numbered u.attempts k) (is_reset_seen s t m code link first.attempt places first.there first.stream first.on)
    ∙ changed_one with_reset_queued t k s.attempts h.attempt (k == t) refl h.there)
    h.ended h.stream h.on

all_after : (s : Seen) (t m code link : ℕ) (xs : List Attempt) (ys : List LiveStream) → AttemptsStandInPlace 1 s.attempts → HasEnded s t m link → AreReset s link xs ys → AreReset (stream_reset t code s) link xs ys
all_after s t m code link [] [] places first are = tt
all_after s t m code link (a ∷ xs) (y ∷ ys) places first are =
    (are.0, ended_after s t m a.place y.number code link places first are.1, all_after s t m code link xs ys places first are.2)
all_after s t m code link [] (y ∷ ys) places first are = absurd are
all_after s t m code link (a ∷ xs) [] places first are = absurd are

requeued : (l : Link) (s : Seen) (w : Wire) (g : ℕ → Line) (q q2 : Queue) → q2.items ≡ q.items → SeesStreams l s (record w { queue = q }) g → SeesStreams l s (record w { queue = q2 }) g
requeued l s w g q q2 e is =
    let k : SeesLink l s (record w { queue = q }) g = is.sees in
    let rd : SeesRead l (record w { queue = q }) = k.sees.reads in
    record {
      sees = record {
        at = k.at;
        sees = record {
          reads = record {
            whole = rd.whole;
            read = rd.read;
            ready = rd.ready;
            retiring = rd.retiring;
            limit = rd.limit;
            initial = rd.initial;
            window = rd.window;
            opened = rd.opened;
            block = rd.block;
            table = rd.table;
          };
          live = k.sees.live;
        };
        owes = record {
          queue = ap (map outgoing) e ∙ k.owes.queue;
          names = ap (filter_map named_in) e ∙ k.owes.names;
          resizes = k.owes.resizes;
          written = k.owes.written;
          answered = k.owes.answered;
        };
        waits = k.waits;
        fed = k.fed;
        wait_fed = k.wait_fed;
        opened = k.opened;
        fresh = k.fresh;
        tags = k.tags;
        places = k.places;
      };
      handled = is.handled;
      unreceived = is.unreceived;
      begun = is.begun;
    }

resets_fold : (l : Link) (s : Seen) (w : Wire) (g : ℕ → Line) (q q2 : Queue) (xs : List Attempt) (ys : List LiveStream) → SeesStreams l s (record w { queue = q }) g → AreReset s l.number xs ys
    → q2.items ≡ q.items ++ resets_of ys → SeesStreams (with_owed (left_resets xs) l) (reset_all xs s) (record w { queue = q2 }) g
resets_fold l s w g q q2 [] [] is are items =
    subst (λ (hs : List FrameSeen). SeesStreams (record l { owed = hs }) s (record w { queue = q2 }) g) (sym (append-nil l.owed)) (requeued l s w g q q2 (items ∙ append-nil q.items) is)
resets_fold l s w g q q2 (a ∷ xs) (y ∷ ys) is are items =
    let h : HasEnded s a.place y.number l.number = are.1 in
    let c : Control = control.Reset y.number cancel in
    let q1 : Queue = record { items = q.items ++ c ∷ []; fresh = 0 } in
    let f : FrameSeen = rst_stream_frame y.number cancel in
    let m : Link = with_owed (f ∷ []) l in
    let u : Seen = stream_reset a.place cancel s in
    let one : SeesStreams m u (record w { queue = q1 }) g
    = reset_received l s (record w { queue = q }) g a.place y.number cancel h.attempt h.end q1 is h.there h.ended h.stream h.on refl in
    let rest : SeesStreams (with_owed (left_resets xs) m) (reset_all xs u) (record w { queue = q2 }) g
    = resets_fold m u w g q1 q2 xs ys one (all_after s a.place y.number cancel l.number xs ys is.sees.places h are.2) (items ∙ sym (joined q.items (c ∷ []) (resets_of ys))) in
    subst (λ (n : ℕ). SeesStreams (record l { owed = l.owed ++ rst_stream_frame n cancel ∷ left_resets xs }) (reset_all xs u) (record w { queue = q2 }) g) (sym are.0)
    (subst (λ (hs : List FrameSeen). SeesStreams (record l { owed = hs }) (reset_all xs u) (record w { queue = q2 }) g) (joined l.owed (f ∷ []) (left_resets xs)) rest)
resets_fold l s w g q q2 [] (y ∷ ys) is are items = absurd are
resets_fold l s w g q q2 (a ∷ xs) [] is are items = absurd are

-- those that it leaves out are those that have ended
gone_zip : (l : Link) (z : Seen) (s : Seen) (ts : List ℕ) (last : ℕ) (xs : List LiveStream) (others : List Attempt) → StreamsAreLive l xs others
    → AllByRecursion (λ a. is_one_of ts a.place ≡ is_left_out last a) others → AllByRecursion (λ a. numbered s.attempts a.place ≡ Some a) others
    → AllByRecursion (λ a. is_outstanding_on l a ≡ true) others
    → ((a : Attempt) (n : ℕ) → numbered s.attempts a.place ≡ Some a → a.row.stream ≡ Some n → link_number a ≡ l.number → is_one_of ts a.place ≡ true → HasEnded z a.place n l.number)
    → AreReset z l.number (filter (is_left_out last) others) (filter (is_above last) xs)
gone_zip l z s ts last [] [] are all there out ends = tt
gone_zip l z s ts last (x ∷ xs) (a ∷ others) are all there out ends =
    let fx : List LiveStream = filter (is_above last) xs in
    let fa : List Attempt = filter (is_left_out last) others in
    let number : stream_number a ≡ x.number = ap (λ (o : Option ℕ). unwrap_or o 0) are.0.stream in
    let same : is_left_out last a ≡ is_above last x = ap (nat_lt last) number in
    let rest : AreReset z l.number fa fx = gone_zip l z s ts last xs others are.1 all.1 there.1 out.1 ends in
    let linked : link_number a ≡ l.number = on_link l.number a.row.placed (is_some a.row.placed && is_none a.row.ended) out.0 in
    subst (λ (c : Bool). AreReset z l.number (cond (is_left_out last a) (a ∷ fa) fa) (cond c (x ∷ fx) fx)) same
    (both_if (AreReset z l.number) (is_left_out last a) (a ∷ fa) fa (x ∷ fx) fx
    (λ h. (number, ends a x.number there.0 are.0.stream linked (all.0 ∙ h), rest)) (λ h. rest))
gone_zip l z s ts last [] (a ∷ others) are all there out ends = absurd are
gone_zip l z s ts last (x ∷ xs) [] are all there out ends = absurd are

-- what the link reports
pub goaway_is_reported : (w : Wire) (f : FrameSeen) → link.link_error w f ≡ None → f.kind ≡ goaway_type
    → reported w f ≡ outcome w (read_after w.read (9 + length f.payload)) (Ok (goaway_reported (record w { queue = sealed w.queue }) (last_stream f.payload) (read_after w.read (9 + length f.payload))))
goaway_is_reported w f fair kind =
    let seen : ℕ = read_after w.read (9 + length f.payload) in
    let v : Wire = record w { queue = sealed w.queue } in
    let at : Option (ℕ × LiveStream) = found_from (is_numbered f.stream) 0 w.live in
    let no : (n : ℕ) → (goaway_type == n) ≡ false → (f.kind == n) ≡ false = λ n e. not_kind f.kind goaway_type n false kind e in
    let applied_is : applied v f seen ≡ Ok (plain_reported v f seen)
    = if_false (f.kind == headers_type) (headers_reported v f seen) _ (no headers_type refl)
    ∙ if_false (f.kind == continuation_type) (continuation_reported v f seen w.block) (Ok (plain_reported v f seen)) (no continuation_type refl) in
    let plain_is : plain_reported v f seen ≡ goaway_reported v (last_stream f.payload) seen
    = if_false (f.kind == data_type) (data_reported v f seen at) _ (no data_type refl)
    ∙ if_false (f.kind == rst_stream_type) (reset_reported v (reset_code f.payload) seen at) _ (no rst_stream_type refl)
    ∙ if_false (f.kind == settings_type) (settings_reported v f) _ (no settings_type refl)
    ∙ if_false (f.kind == ping_type) (ping_reported v f) _ (no ping_type refl)
    ∙ if_true (f.kind == goaway_type) (goaway_reported v (last_stream f.payload) seen) _ (not_kind f.kind goaway_type goaway_type true kind refl) in
    ap (judged w f) fair ∙ ap (outcome w seen) applied_is ∙ ap (λ (t : Report). outcome w seen (Ok t)) plain_is

-- before any end
pub goaway_base : (l : Link) (s : Seen) (w : Wire) (g : ℕ → Line) (r : ReadFrame) → SeesStreams l s w g → Comes l w r → r.frame.kind ≡ goaway_type
    → SeesTo (last_stream r.frame.payload) (read_link r l s) (frame_read_on r s l) (record w { retiring = true; queue = sealed w.queue; read = read_after w.read (9 + length r.frame.payload) }) g
goaway_base l s w g r is comes kind =
    let f : FrameSeen = r.frame in
    let seen : ℕ = read_after w.read (9 + length f.payload) in
    let last : ℕ = last_stream f.payload in
    let frames : List FrameSeen = owed_for f l s in
    let bs : List Attempt = by_stream (streaming_on l s) in
    let v : Wire = record w { retiring = true; queue = sealed w.queue } in
    let none : List Control = [] in
    let no_settings_ : is_settings f ≡ false = of_settings f.kind f.flags (not_kind f.kind goaway_type settings_type false kind refl) in
    let said : Received f (open_block l) w (goaway_reported w last seen).wire
    = goaway_received w f (open_block l) seen (not_kind f.kind goaway_type goaway_type true kind refl) is.sees.sees.reads.block in
    let handled : Received f (open_block l) w v = record {
      whole = said.whole;
      ready = said.ready;
      retiring = said.retiring;
      limit = said.limit;
      initial = said.initial;
      window = said.window;
      opened = said.opened;
      block = said.block;
      table = said.table;
    } in
    record {
      sees = read_keeps l s w v g r is.sees handled comes.end (fair_opened w f comes.fair) refl refl is.sees.opened refl
          (live_read l r frames w.live bs (not_kind f.kind goaway_type window_update_type false kind refl) is.sees.sees.live)
          (owed_read l s w (record v { read = seen }) r none is.sees.owes
          (ap (map (λ k. AFrame k)) (sym (none_owed f l s (not_kind f.kind goaway_type data_type false kind refl) (not_kind f.kind goaway_type settings_type false kind refl) (not_kind f.kind goaway_type ping_type false kind refl))))
          (sym (if_false (is_settings f) (list_any (is_setting 1) (settings_of f) ∷ []) [] no_settings_))
          refl (sym (append-nil w.queue.items)));
      handled = received_to l s r frames (with_frame_read r frames) w.live bs no_settings_ (on_no_stream f comes.allowed kind) is.sees.sees.live is.handled;
    }

all_there_still : (s u : Seen) (ends : List (ℕ × RowEnd)) → u.attempts ≡ s.attempts → AllByRecursion (λ (x : ℕ × RowEnd). IsSomewhere s x.0) ends
    → AllByRecursion (λ (x : ℕ × RowEnd). IsSomewhere u x.0) ends
all_there_still s u [] same all = tt
all_there_still s u (x ∷ ends) same all =
    (record { attempt = all.0.attempt; there = ap (λ (xs : List Attempt). numbered xs x.0) same ∙ all.0.there }, all_there_still s u ends same all.1)

-- the link then: once the frame is read, and without the streams that it leaves out and those that wait for one
abbrev pub wire_read : Wire → FrameSeen → Wire
wire_read w f = record w { retiring = true; queue = sealed w.queue; read = read_after w.read (9 + length f.payload) }

abbrev pub wire_left : Wire → FrameSeen → Wire
wire_left w f = record (wire_read w f) { live = filter (is_within (last_stream f.payload)) w.live; waiting = [] }

-- once all have ended that it ends, whatever else came of that, they agree but for the resets
pub once_ended : (l : Link) (s : Seen) (w : Wire) (g : ℕ → Line) (r : ReadFrame) (ends : List (ℕ × RowEnd)) (z : Seen) → SeesStreams l s w g → (r.frame.kind == goaway_type) ≡ true
    → AreAllOf l s (last_stream r.frame.payload) ends → SeesTo (last_stream r.frame.payload) (read_link r l s) z (without_all (places_of ends) (wire_read w r.frame)) g
    → SeesStreams (read_link r l s) z (wire_left w r.frame) g
once_ended l s w g r ends z is goes all after =
    let f : FrameSeen = r.frame in
    let last : ℕ = last_stream f.payload in
    let m : Link = read_link r l s in
    let ts : List ℕ = places_of ends in
    let v : Wire = wire_read w f in
    let live_is : filter (λ x. is_none_of ts x.tag) w.live ≡ filter (is_within last) w.live = live_agree l ts last w.live (by_stream (streaming_on l s)) is.sees.sees.live all.streams in
    let wait_is : filter (is_none_of ts) w.waiting ≡ [] = ap (filter (is_none_of ts)) is.sees.waits ∙ none_wait ts (waiting_on l s) all.waits in
    let to : SeesTo last m z (wire_left w f) g
    = subst (λ (xs : List LiveStream). SeesTo last m z (record v { live = xs; waiting = [] }) g) live_is
    (subst (λ (ns : List ℕ). SeesTo last m z (record v { live = filter (λ x. is_none_of ts x.tag) w.live; waiting = ns }) g) wait_is after) in
    record {
      sees = to.sees;
      handled = within_received last m z (filter (is_within last) w.live) (by_stream (streaming_on m z)) (kept_pass (is_within last) w.live) to.handled;
      unreceived = λ limit j above going. absurd (both_ways (is_retiring m) (retiring_more l r (owed_for f l s) ∙ ap (λ (b : Bool). is_retiring l || b) goes ∙ or_last (is_retiring l)) going);
      begun = is.begun;
    }

pub goaways_are_read : GoawaysAreRead
goaways_are_read l s w g r ends is comes goes all =
    let f : FrameSeen = r.frame in
    let last : ℕ = last_stream f.payload in
    let kind : f.kind ≡ goaway_type = eqb-true f.kind goaway_type goes in
    let m : Link = read_link r l s in
    let u : Seen = frame_read_on r s l in
    let ts : List ℕ = places_of ends in
    let bs : List Attempt = by_stream (streaming_on l s) in
    let gone : List Attempt = left_out l s last in
    let out_ : List LiveStream = filter (is_above last) w.live in
    let v : Wire = wire_read w f in
    let base : SeesTo last m u v g = goaway_base l s w g r is comes kind in
    let z : Seen = ended_all ends u in
    let somewhere : AllByRecursion (λ (x : ℕ × RowEnd). IsSomewhere u x.0) ends = all_there_still s u ends refl all.somewhere in
    let after : SeesTo last m z (without_all ts v) g = all_end last m u v g ends base somewhere in
    let k : Wire = wire_left w f in
    let ended_ : SeesStreams m z k g = once_ended l s w g r ends z is goes all after in
    let there : AllByRecursion (λ a. numbered s.attempts a.place ≡ Some a) bs
    = sorted_all _ (streaming_on l s) (all_filter _ (λ a. is_some a.row.stream) (outstanding_on l s) (all_filter _ (is_outstanding_on l) s.attempts (all_there s.attempts is.sees.places))) in
    let out : AllByRecursion (λ a. is_outstanding_on l a ≡ true) bs
    = sorted_all _ (streaming_on l s) (all_filter _ (λ a. is_some a.row.stream) (outstanding_on l s) (kept_pass (is_outstanding_on l) s.attempts)) in
    let are : AreReset z m.number gone out_
    = gone_zip l z s ts last w.live bs is.sees.sees.live all.streams there out (λ a n here stream on among. all_have_ended last m u v g ends a.place n l.number a base somewhere here stream on among) in
    let q : Queue = all_reset out_ (sealed w.queue) in
    let items : q.items ≡ w.queue.items ++ resets_of out_
    = all_are_queued (sealed w.queue) (2 * w.opened + 1) out_ refl (opened_without (is_above last) 1 (2 * w.opened + 1) w.live is.sees.opened) in
    let done : SeesStreams (with_owed (left_resets gone) m) (reset_all gone z) (record k { queue = q }) g = resets_fold m z k g (sealed w.queue) q gone out_ ended_ are items in
    let T : Wire → Type 0 = λ x. SeesStreams (with_owed (left_resets gone) m) (reset_all gone (ended_all ends (frame_read l.number r s))) x g in
    let W : Seen → Type 0 = λ x. SeesStreams (with_owed (left_resets gone) m) (reset_all gone (ended_all ends x)) (record k { queue = q }) g in
    subst T (sym (ap (λ (x : Report). x.wire) (goaway_is_reported w f comes.fair kind))) (subst W (sym (read_is l s r is.sees.at)) done)
