-- What is written next is the same in both.
use Rattle.std.proofs.Common.{◌≡◌, ◌<◌, ◌≤◌, ◌∷◌, ◌++◌, ◌||◌, ◌&&◌, ◌==◌, ◌^◌, not, ap, arith, refl, subst, sym, ◌∙◌, Bool, true, false, List, [], Option, None, Some, ℕ, ℤ, pos, negsuc, ◌+ℤ◌, ◌+◌, ◌-◌, ◌*◌, zero, suc, cond, if◌then◌else◌, drop, filter, is_some, length, length-append, length-drop, map, min, nat_lt, option_and_then, slice_get, take}
use Rattle.std.specs.Option.{option_map, option_map_or, option_or}
use Rattle.std.proofs.lemmas.Bool.Decides.{nat_tests}
use Rattle.std.proofs.lemmas.Int.{ints}
use Rattle.std.proofs.lemmas.Bool.{eqb-true}
use Rattle.attempt_ledger.specs.declared.row.Placed.{Placed}
use Rattle.grpc_frame.specs.Messages.{framed_all}
use Rattle.grpc_meta.specs.RequestFields.{fields_of_request}
use Rattle.h2_frame.specs.Sent.{data_frame, headers_frame}
use Rattle.h2_link.specs.Drains.{AFrame, Outgoing, Sent, head_block, is_below, least_of, may_open, next_control, next_data, next_head, opens, sender, share_as, share_of, share_or}
use Rattle.h2_link.specs.Feeds.{Line}
use Rattle.h2_link.specs.LinkErrors.{send_window}
use Rattle.h2_link.specs.Wire.{Wire}
use Rattle.h2_link.specs.declared.control.Control.{Control}
use Rattle.h2_link.specs.declared.live.LiveStream.{LiveStream}
use Rattle.h2_stream.specs.Stream.{or_zero}
use Rattle.link_actions.proofs.Lists.{if_false}
use Rattle.link_actions.proofs.Order.{AreOn, filter_on, first_is_foremost}
use Rattle.link_actions.proofs.Owed.{controls_are_same, none_is_owed}
use Rattle.link_actions.proofs.Streams.{long_by_stream}
use Rattle.link_actions.specs.Laws.{IsControlSent, WritesAreSame}
use Rattle.link_actions.specs.Sees.{StreamsAreFed, StreamsAreLive, IsFed, IsLive, Sees, SeesLink, SeesOwed, WaitFed, by_stream, odds, outgoing_of, written_for}
use Rattle.session_actions.specs.Attempts.{call_of, is_outstanding}
use Rattle.session_actions.specs.Reading.{initial_window, is_outstanding_on, opened_streams, outstanding_on, raised, room, setting, used}
use Rattle.session_actions.specs.Words.{first_of, holds}
use Rattle.session_actions.specs.Writing as writing
use Rattle.session_actions.specs.Writing.{accepted_bytes, data_for, data_len, data_of, data_on, headers_for, may_open_stream, next_stream, request_block, sendable, streaming_on, time_left, waiting_on}
use Rattle.session_actions.specs.declared.attempt.Attempt.{Attempt}
use Rattle.session_actions.specs.declared.call.Call.{Call}
use Rattle.session_actions.specs.declared.link.Link.{Link}
use Rattle.session_actions.specs.declared.link.Sent.TheVariants as sent
use Rattle.session_actions.specs.declared.link.Sent as session
use Rattle.session_actions.specs.declared.seen.Seen.{Seen}

-- the bytes of a link's next
abbrev frames_in : Option Sent → Option Outgoing
frames_in o = option_map (λ x. x.frame) o

-- DATA of a stream: how many bytes
room_from : (z c : ℤ) (initial used_ raised_ : ℕ) → pos initial +ℤ c ≡ z → c +ℤ pos used_ ≡ pos raised_ → initial + raised_ - used_ ≡ or_zero z
room_from (pos m) c initial used_ raised_ e h = omega (arith, ints)
room_from (negsuc m) c initial used_ raised_ e h = omega (arith, ints)

room_by : (c : ℤ) (initial used_ raised_ : ℕ) → c +ℤ pos used_ ≡ pos raised_ → initial + raised_ - used_ ≡ or_zero (pos initial +ℤ c)
room_by c initial used_ raised_ e = room_from (pos initial +ℤ c) c initial used_ raised_ refl e

-- the end of a message
ends_by : (done len accepted left : ℕ) → done ≤ accepted → left ≡ accepted - done → (done + len == accepted) ≡ (len == left)
ends_by done len accepted left h e = grind (arith, nat_tests, h, e)

map_if : {X Y : Type 0} (f : X → Y) (b : Bool) (x : X) → (if b then Some (f x) else None) ≡ option_map f (if b then Some x else None)
map_if f true x = refl
map_if f false x = refl

none_or : {X Y : Type 0} (f : X → Y) (b : Bool) (o : Option X) → (if b then None else option_map f o) ≡ option_map f (if b then None else o)
none_or f true o = refl
none_or f false o = refl

-- of one stream: the DATA that may be sent
abbrev data_sent : ℕ → List ℕ → ℕ × Bool → session.Sent
data_sent n left x = sent.Frame (data_frame n (take x.0 left) x.1)

len_same : (l : Link) (w : Wire) (x : LiveStream) (left : ℕ) → w.window + used 0 l ≡ 65535 + raised 0 l → w.initial ≡ initial_window l
    → (x.number == 0) ≡ false → x.credit +ℤ pos (used x.number l) ≡ pos (raised x.number l)
    → data_len l x.number left ≡ least_of w.window w.initial x left
len_same l w x left window initial some credit =
    let whole : room 0 l ≡ w.window = omega (arith, window) in
    let own : room x.number l ≡ or_zero (send_window w.initial x)
    = ap (λ (n : ℕ). n + raised x.number l - used x.number l) (if_false (x.number == 0) 65535 (initial_window l) some ∙ sym initial)
    ∙ room_by x.credit w.initial (used x.number l) (raised x.number l) credit in
    ap (λ (n : ℕ). min (min 16384 n) (min (room x.number l) left)) whole ∙ ap (λ (n : ℕ). min (min 16384 w.window) (min n left)) own

share_same : (l : Link) (c : Call) (n len left_len : ℕ) (left : List ℕ) (finished : Bool) → used n l ≤ accepted_bytes c
    → left ≡ drop (used n l) (framed_all c.messages) → left_len ≡ accepted_bytes c - used n l → finished ≡ c.finished
    → data_of c l n len ≡ option_map (data_sent n left) (share_as len left_len finished)
share_same l c n len left_len left finished within left_is len_is finished_is =
    let ends : (c.finished && (used n l + len == accepted_bytes c)) ≡ (finished && (len == left_len))
    = ap (λ (b : Bool). b && (used n l + len == accepted_bytes c)) (sym finished_is)
    ∙ ap (λ (b : Bool). finished && b) (ends_by (used n l) len (accepted_bytes c) left_len within len_is) in
    ap (λ (b : Bool). if nat_lt 0 len || b then Some (sent.Frame (data_frame n (take len (drop (used n l) (framed_all c.messages))) b)) else None) ends
    ∙ ap (λ (xs : List ℕ). if nat_lt 0 len || (finished && (len == left_len)) then Some (sent.Frame (data_frame n (take len xs) (finished && (len == left_len)))) else None) (sym left_is)
    ∙ map_if (data_sent n left) (nat_lt 0 len || (finished && (len == left_len))) (len, finished && (len == left_len))

long_drop : {X : Type 0} (n : ℕ) (xs : List X) → length (drop n xs) ≡ length xs - n
long_drop n xs = length-drop n xs

one_same : (l : Link) (s : Seen) (w : Wire) (x : LiveStream) (a : Attempt) (line : Line) → w.window + used 0 l ≡ 65535 + raised 0 l → w.initial ≡ initial_window l
    → IsLive l x a → IsFed l s a line
    → data_for l s a ≡ option_map (data_sent x.number line.left) (share_of w.window w.initial x (length line.left) line.finished)
one_same l s w x a line window initial is fed =
    let c : Call = fed.call in
    let n : ℕ = x.number in
    let done : written_for l a ≡ used n l = ap (λ (o : Option ℕ). option_map_or (λ m. used m l) o 0) is.stream in
    let within : used n l ≤ accepted_bytes c = subst (λ (m : ℕ). m ≤ accepted_bytes c) done fed.written in
    let left : line.left ≡ drop (used n l) (framed_all c.messages) = fed.left ∙ ap (λ (m : ℕ). drop m (framed_all c.messages)) done in
    let size : length line.left ≡ accepted_bytes c - used n l = ap length left ∙ long_drop (used n l) (framed_all c.messages) in
    ap (λ (o : Option ℕ). option_and_then (λ m. option_and_then (data_on l m) (call_of a s)) o) is.stream
    ∙ ap (option_and_then (data_on l n)) fed.call_is
    ∙ ap (λ (b : Bool). if b then None else data_of c l n (data_len l n (accepted_bytes c - used n l))) (sym is.finished)
    ∙ ap (λ (m : ℕ). if x.finished then None else data_of c l n (data_len l n m)) (sym size)
    ∙ ap (λ (m : ℕ). if x.finished then None else data_of c l n m) (len_same l w x (length line.left) window initial is.some is.credit)
    ∙ ap (λ (o : Option session.Sent). if x.finished then None else o)
    (share_same l c n (least_of w.window w.initial x (length line.left)) (length line.left) line.left line.finished within left size fed.finished)
    ∙ none_or (data_sent n line.left) x.finished (share_as (least_of w.window w.initial x (length line.left)) (length line.left) line.finished)

-- of all streams: the first that may send
share_sent : (g : ℕ → Line) (w : Wire) (place : ℕ) (x : LiveStream) (xs : List LiveStream) (o : Option (ℕ × Bool)) (q : Option session.Sent)
    → option_map outgoing_of q ≡ frames_in (next_data w g (sender w.window w.initial g (place + 1) xs))
    → option_map outgoing_of (option_or (option_map (data_sent x.number (g x.tag).left) o) q)
    ≡ frames_in (next_data w g (share_or place x o (sender w.window w.initial g (place + 1) xs)))
share_sent g w place x xs None q e = e
share_sent g w place x xs (Some y) q e = refl

streams_same : (l : Link) (s : Seen) (w : Wire) (g : ℕ → Line) (place : ℕ) (xs : List LiveStream) (others : List Attempt)
    → w.window + used 0 l ≡ 65535 + raised 0 l → w.initial ≡ initial_window l → StreamsAreLive l xs others → StreamsAreFed l s g xs others
    → option_map outgoing_of (first_of (data_for l s) others) ≡ frames_in (next_data w g (sender w.window w.initial g place xs))
streams_same l s w g place [] [] window initial are fed = refl
streams_same l s w g place (x ∷ xs) (a ∷ others) window initial are fed =
    ap (λ (o : Option session.Sent). option_map outgoing_of (option_or o (first_of (data_for l s) others))) (one_same l s w x a (g x.tag) window initial are.0 fed.0)
    ∙ share_sent g w place x xs (share_of w.window w.initial x (length (g x.tag).left) (g x.tag).finished) (first_of (data_for l s) others)
    (streams_same l s w g (place + 1) xs others window initial are.1 fed.1)
streams_same l s w g place [] (a ∷ others) window initial are fed = absurd are
streams_same l s w g place (x ∷ xs) [] window initial are fed = absurd are

-- the attempts on the link
second_true : (a b : Bool) → (a && b) ≡ true → b ≡ true
second_true true b e = e
second_true false b e = absurd (cc)

number_by : (n : ℕ) (o : Option Placed) → holds (λ (at : Placed). at.link == n) o ≡ true → option_map_or (λ (at : Placed). at.link) o 0 ≡ n
number_by n None e = absurd (cc)
number_by n (Some at) e = eqb-true at.link n e

on_by : (l : Link) (a : Attempt) (b : Bool) (xs : List Attempt) → is_outstanding_on l a ≡ b → AreOn l.number xs → AreOn l.number (cond b (a ∷ xs) xs)
on_by l a true xs e are = (number_by l.number a.row.placed (second_true (is_outstanding a) (holds (λ (at : Placed). at.link == l.number) a.row.placed) e), are)
on_by l a false xs e are = are

outstanding_on_link : (l : Link) (xs : List Attempt) → AreOn l.number (filter (is_outstanding_on l) xs)
outstanding_on_link l [] = tt
outstanding_on_link l (a ∷ xs) = on_by l a (is_outstanding_on l a) (filter (is_outstanding_on l) xs) refl (outstanding_on_link l xs)

data_same : (l : Link) (s : Seen) (w : Wire) (g : ℕ → Line) → Sees l s w → StreamsAreFed l s g w.live (by_stream (streaming_on l s))
    → option_map outgoing_of (writing.next_data l s) ≡ frames_in (next_data w g (sender w.window w.initial g 0 w.live))
data_same l s w g sees fed =
    let on : AreOn l.number (streaming_on l s) = filter_on l.number (λ a. is_some a.row.stream) (outstanding_on l s) (outstanding_on_link l s.attempts) in
    ap (option_map outgoing_of) (first_is_foremost l.number (data_for l s) (streaming_on l s) on)
    ∙ streams_same l s w g 0 w.live (by_stream (streaming_on l s)) sees.reads.window sees.reads.initial sees.live fed

-- HEADERS
odds_many : (n : ℕ) → length (odds n) ≡ n
odds_many zero = refl
odds_many (suc n) = (let more : length (odds n ++ (2 * n + 1) ∷ []) ≡ length (odds n) + 1 = length-append (odds n) ((2 * n + 1) ∷ []) in let all : length (odds n) ≡ n = odds_many n in omega (arith, more, all))

live_many : (l : Link) (xs : List LiveStream) (others : List Attempt) → StreamsAreLive l xs others → length xs ≡ length others
live_many l [] [] are = refl
live_many l (x ∷ xs) (a ∷ others) are = ap suc (live_many l xs others are.1)
live_many l [] (a ∷ others) are = absurd are
live_many l (x ∷ xs) [] are = absurd are

below_same : (o : Option ℕ) (n : ℕ) → option_map_or (λ most. nat_lt n most) o true ≡ is_below n o
below_same None n = refl
below_same (Some most) n = refl

may_by : (a b c : Bool) → c ≡ true → (a && b) ≡ (a && b && c)
may_by true true c e = sym e
may_by true false c e = refl
may_by false b c e = refl

few : (n : ℕ) → n < 2 ^ 30 → nat_lt n (2 ^ 30) ≡ true
few n h = grind (arith, nat_tests, h)

may_same : (l : Link) (s : Seen) (w : Wire) → Sees l s w → w.opened < 2 ^ 30 → may_open_stream l s ≡ may_open w
may_same l s w sees less =
    let many : length (streaming_on l s) ≡ length w.live = sym (live_many l w.live (by_stream (streaming_on l s)) sees.live ∙ long_by_stream (streaming_on l s)) in
    ap (λ (b : Bool). not b && option_map_or (λ most. nat_lt (length (streaming_on l s)) most) (setting 3 l) true) (sym sees.reads.retiring)
    ∙ ap (λ (n : ℕ). not w.retiring && option_map_or (λ most. nat_lt n most) (setting 3 l) true) many
    ∙ ap (λ (o : Option ℕ). not w.retiring && option_map_or (λ most. nat_lt (length w.live) most) o true) (sym sees.reads.limit)
    ∙ ap (λ (b : Bool). not w.retiring && b) (below_same w.limit (length w.live))
    ∙ may_by (not w.retiring) (is_below (length w.live) w.limit) (nat_lt w.opened (2 ^ 30)) (few w.opened less)

head_frame : (l : Link) (s : Seen) (w : Wire) (a : Attempt) (line : Line) → Sees l s w → SeesOwed l w → (fed : IsFed l s a line)
    → headers_frame (next_stream l) (request_block fed.call a l s) ≡ headers_frame (2 * w.opened + 1) (head_block w.resizes line.fields)
head_frame l s w a line sees owes fed =
    let many : length (opened_streams l) ≡ w.opened = ap length sees.reads.opened ∙ odds_many w.opened in
    ap (λ (n : ℕ). headers_frame (2 * n + 1) (request_block fed.call a l s)) many
    ∙ ap (λ (b : Bool). headers_frame (2 * w.opened + 1) (head_block b (fields_of_request fed.call.request s.setup.authority (time_left fed.call s) a.row.number))) (sym owes.resizes)
    ∙ ap (λ fields. headers_frame (2 * w.opened + 1) (head_block w.resizes fields)) (sym fed.fields)

head_same : (l : Link) (s : Seen) (w : Wire) (g : ℕ → Line) (b : Bool) (xs : List Attempt) → Sees l s w → SeesOwed l w
    → StreamsAreFed l s g w.live (by_stream (streaming_on l s)) → WaitFed l s g xs
    → option_map outgoing_of (option_or (if b then option_and_then (headers_for l s) (slice_get xs 0) else None) (writing.next_data l s))
    ≡ frames_in (next_head w g (if b then slice_get (map (λ a. a.place) xs) 0 else None))
head_same l s w g false xs sees owes fed all = data_same l s w g sees fed
head_same l s w g true [] sees owes fed all = data_same l s w g sees fed
head_same l s w g true (a ∷ xs) sees owes fed all =
    ap (λ (o : Option Call). option_map outgoing_of (option_or (option_map (λ c. sent.Frame (headers_frame (next_stream l) (request_block c a l s))) o) (writing.next_data l s))) all.0.call_is
    ∙ ap (λ f. Some (AFrame f)) (head_frame l s w a (g a.place) sees owes all.0)

opens_same : (l : Link) (s : Seen) (w : Wire) (g : ℕ → Line) → SeesLink l s w g → w.opened < 2 ^ 30
    → option_map outgoing_of (option_or (writing.next_headers l s) (writing.next_data l s)) ≡ frames_in (next_head w g (opens w))
opens_same l s w g is less =
    ap (λ (b : Bool). option_map outgoing_of (option_or (if b then option_and_then (headers_for l s) (slice_get (waiting_on l s) 0) else None) (writing.next_data l s))) (may_same l s w is.sees less)
    ∙ head_same l s w g (may_open w) (waiting_on l s) is.sees is.owes is.fed is.wait_fed
    ∙ ap (λ (ns : List ℕ). frames_in (next_head w g (if may_open w then slice_get ns 0 else None))) (sym is.waits)

by_queue : (l : Link) (s : Seen) (w : Wire) (g : ℕ → Line) (o : Option Control) → slice_get w.queue.items 0 ≡ o → SeesLink l s w g
    → w.opened < 2 ^ 30 → option_map outgoing_of (sendable l s) ≡ frames_in (next_control w g o)
by_queue l s w g (Some c) e all less =
    let is : IsControlSent l s w c g = controls_are_same l s w c g all.sees.reads all.owes e in
    ap (option_map outgoing_of) is.next ∙ ap (λ (o : Outgoing). Some o) is.same
by_queue l s w g None e all less =
    let none = none_is_owed l w all.owes e in
    ap (option_map outgoing_of) (if_false (not (writing.has_begun l)) (Some sent.Preface) _ (ap not none.0))
    ∙ ap (λ (o : Option session.Sent). option_map outgoing_of (option_or o (option_or (writing.next_headers l s) (writing.next_data l s)))) none.1
    ∙ opens_same l s w g all less

pub writes_are_same : WritesAreSame
writes_are_same l s w g all less = by_queue l s w g (slice_get w.queue.items 0) refl all less
