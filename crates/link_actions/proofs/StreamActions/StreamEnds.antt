-- The attempt of a stream ends, and the link queues the reset of its stream: link and session agree again but for that.
use Rattle.std.proofs.Common.{◌≡◌, ◌∷◌, ◌++◌, ◌&&◌, ◌==◌, not, ap, arith, refl, subst, sym, ◌∙◌, Bool, true, false, List, [], Option, None, Some, ℕ, ◌+◌, zero, suc, append-nil, cond, filter, is_none, is_some, length, map, slice_get}
use Rattle.std.specs.List.{remove}
use Rattle.std.specs.Option.{option_map_or}
use Rattle.std.proofs.lemmas.Bool.{eqb-true}
use Rattle.std.proofs.lemmas.Bool.Decides.{nat_tests}
use Rattle.attempt_ledger.specs.declared.row.Placed.{Placed}
use Rattle.attempt_ledger.specs.declared.row.RowEnd.{RowEnd}
use Rattle.grpc_base.specs.Limits.{message_limit}
use Rattle.h2_frame.specs.Frames.{FrameSeen}
use Rattle.h2_frame.specs.Sent.{rst_stream_frame}
use Rattle.h2_link.specs.Feeds.{Line}
use Rattle.h2_link.specs.Queues.{Queue, reset_queued}
use Rattle.h2_link.specs.Steps.{cut_at, found_from, is_tagged, reset_after}
use Rattle.h2_link.specs.Wire.{Wire}
use Rattle.h2_link.specs.declared.control.Control.TheVariants as control
use Rattle.h2_link.specs.declared.live.LiveStream.{LiveStream}
use Rattle.lb_policy.specs.Table.{is_one_of}
use Rattle.link_actions.proofs.DataSent.{tag_apart, tag_in}
use Rattle.link_actions.proofs.Ended.{AreLeft, are_left, changed_one, ended_seen, ends_keep, is_ended, never_out, noted_call}
use Rattle.link_actions.proofs.StreamActions.Found.{IsIn, IsZipped, removed, streaming_in, waits_kept, zipped}
use Rattle.link_actions.proofs.Lists.{both_if, if_false, if_true}
use Rattle.link_actions.proofs.Opened.{streams}
use Rattle.link_actions.proofs.Queued.{changed_out, is_reset_seen, reset_keeps_, reset_last, reset_seen}
use Rattle.link_actions.proofs.Without.{is_other, is_other_attempt, is_other_stream}
use Rattle.link_actions.proofs.Written.{changed_here}
use Rattle.link_actions.specs.Laws.{with_owed, without_tag}
use Rattle.link_actions.specs.StreamActions.Laws.{CutsKeep, Ends, Follows, IsOn, reset_for}
use Rattle.link_actions.specs.ResetActions.Ahead.{SeesAhead}
use Rattle.link_actions.specs.Sees.{NumbersAreDistinct, StreamsAreFed, StreamsAreLive, IsFed, by_stream}
use Rattle.link_actions.specs.StreamActions.Sees.{ResponsesAreReceived, ResponsesAreReceivedBut, IsReceived, SeesBut, SeesStreams, response_of}
use Rattle.session_actions.specs.AttemptEnds.{attempt_ended, stream_reset, with_end, with_end_in_run, with_reset_queued}
use Rattle.session_actions.specs.Attempts.{call_of}
use Rattle.session_actions.specs.Configs.{chosen_of}
use Rattle.session_actions.specs.Entries.{now}
use Rattle.session_actions.specs.Links.{link_number}
use Rattle.session_actions.specs.Reading.{is_outstanding_on, outstanding_on}
use Rattle.session_actions.specs.Responses.{limit_of_attempt, response_in}
use Rattle.session_actions.specs.Words.{holds, numbered}
use Rattle.session_actions.specs.Writing.{streaming_on}
use Rattle.session_actions.specs.declared.attempt.Attempt.{Attempt}
use Rattle.session_actions.specs.declared.call.Call.{Call}
use Rattle.session_actions.specs.declared.call.MarkKind.TheVariants as mark
use Rattle.session_actions.specs.declared.config.ThrottleRun.{ThrottleRun}
use Rattle.session_actions.specs.declared.link.Link.{Link}
use Rattle.session_actions.specs.declared.response.Response.{Response}
use Rattle.session_actions.specs.declared.seen.Seen.{Seen}

-- the limit of an attempt's call stays
limit_by : (s : Seen) (draws : Bool) (call t : ℕ) (e : RowEnd) (runs : List ThrottleRun) (b : Attempt) (c : Call) (x : Bool) → (b.row.call == call) ≡ x → call_of b s ≡ Some c
    → limit_of_attempt b (ended_seen draws call t e runs s) ≡ limit_of_attempt b s
limit_by s draws call t e runs b c true h is =
    let u : Seen = ended_seen draws call t e runs s in
    ap (λ (o : Option Call). option_map_or (λ k. (chosen_of k u).response) o message_limit) (changed_one (noted_call (mark.Ended t) (now s)) call b.row.call s.calls c true h is)
    ∙ sym (ap (λ (o : Option Call). option_map_or (λ k. (chosen_of k s).response) o message_limit) is)
limit_by s draws call t e runs b c false h is =
    let u : Seen = ended_seen draws call t e runs s in
    ap (λ (o : Option Call). option_map_or (λ k. (chosen_of k u).response) o message_limit) (changed_one (noted_call (mark.Ended t) (now s)) call b.row.call s.calls c false h is)
    ∙ sym (ap (λ (o : Option Call). option_map_or (λ k. (chosen_of k s).response) o message_limit) is)

pub received_ended : (l : Link) (s : Seen) (draws : Bool) (call t : ℕ) (e : RowEnd) (runs : List ThrottleRun) (x : LiveStream) (b : Attempt) (line : Line)
    → IsFed l s b line → IsReceived l s x b → IsReceived l (ended_seen draws call t e runs s) x b
received_ended l s draws call t e runs x b line fed_ is =
    let u : Seen = ended_seen draws call t e runs s in
    let same : response_of l u x.number b ≡ response_of l s x.number b
    = ap (λ (n : ℕ). response_in n x.number l.traffic) (limit_by s draws call t e runs b fed_.call (b.row.call == call) refl fed_.call_is) in
    record {
      head = is.head ∙ ap (λ (p : Response). is_some p.head) (sym same);
      goes = ap (λ (p : Response). p.end) same ∙ is.goes;
      small = ap (λ (p : Response). p.large) same ∙ is.small;
    }

-- the others are handled as before
pub not_so : (b : Bool) → not b ≡ true → b ≡ false
not_so false e = refl
not_so true e = absurd (cc)

received_without : (l : Link) (s : Seen) (g : ℕ → Line) (draws : Bool) (call t : ℕ) (e : RowEnd) (runs : List ThrottleRun) (xs : List LiveStream) (others : List Attempt)
    → StreamsAreLive l xs others → StreamsAreFed l s g xs others → ResponsesAreReceivedBut t l s xs others
    → ResponsesAreReceived l (ended_seen draws call t e runs s) (filter (is_other_stream t) xs) (filter (is_other_attempt t) others)
received_without l s g draws call t e runs [] [] are fed_ handled = tt
received_without l s g draws call t e runs (x ∷ xs) (a ∷ others) are fed_ handled =
    let u : Seen = ended_seen draws call t e runs s in
    let fx : List LiveStream = filter (is_other_stream t) xs in
    let fa : List Attempt = filter (is_other_attempt t) others in
    let rest : ResponsesAreReceived l u fx fa = received_without l s g draws call t e runs xs others are.1 fed_.1 handled.1 in
    subst (λ (c : Bool). ResponsesAreReceived l u (cond (is_other_stream t x) (x ∷ fx) fx) (cond c (a ∷ fa) fa)) (ap (is_other t) are.0.tag)
    (both_if (ResponsesAreReceived l u) (is_other_stream t x) (x ∷ fx) fx (a ∷ fa) fa
    (λ h. (received_ended l s draws call t e runs x a (g x.tag) fed_.0 (handled.0 (not_so (x.tag == t) h)), rest)) (λ h. rest))
received_without l s g draws call t e runs [] (a ∷ others) are fed_ handled = absurd are
received_without l s g draws call t e runs (x ∷ xs) [] are fed_ handled = absurd are

pub ends_received : (l : Link) (s : Seen) (w : Wire) (g : ℕ → Line) (t : ℕ) (a : Attempt) (e : RowEnd) → SeesBut t l s w g → numbered s.attempts t ≡ Some a
    → SeesStreams l (attempt_ended t e s) (without_tag t w) g
ends_received l s w g t a e is there =
    let runs : List ThrottleRun = (option_map_or (with_end_in_run a e s) (call_of a s) s).runs in
    let draws : Bool = is_some e.word in
    let call : ℕ = a.row.call in
    let u : Seen = ended_seen draws call t e runs s in
    let bs : List Attempt = by_stream (streaming_on l s) in
    let xs : List LiveStream = filter (is_other_stream t) w.live in
    let left : AreLeft l s u t = are_left l s draws call t e runs a is.sees.places there in
    let handled : ResponsesAreReceived l u xs (filter (is_other_attempt t) bs) = received_without l s g draws call t e runs w.live bs is.sees.sees.live is.sees.fed is.handled in
    record {
      sees = ends_keep l s w g t a e is.sees there;
      handled = subst (λ (v : Seen). ResponsesAreReceived l v xs (by_stream (streaming_on l v))) (sym (is_ended s t e a is.sees.places there)) (subst (ResponsesAreReceived l u xs) (sym left.streaming) handled);
      unreceived = is.unreceived;
      begun = is.begun;
    }

-- RST_STREAM leaves all responses
all_received_owed : (l : Link) (s : Seen) (frames : List FrameSeen) (link t : ℕ) (xs : List LiveStream) (others : List Attempt) → ResponsesAreReceived l s xs others
    → ResponsesAreReceived (with_owed frames l) (reset_seen frames link t s) xs others
all_received_owed l s frames link t [] [] are = tt
all_received_owed l s frames link t (x ∷ xs) (a ∷ others) are =
    (record { head = are.0.head; goes = are.0.goes; small = are.0.small }, all_received_owed l s frames link t xs others are.1)
all_received_owed l s frames link t [] (a ∷ others) are = absurd are
all_received_owed l s frames link t (x ∷ xs) [] are = absurd are

pub reset_received : (l : Link) (s : Seen) (w : Wire) (g : ℕ → Line) (t n code : ℕ) (a : Attempt) (e : RowEnd) (q : Queue) → SeesStreams l s w g → numbered s.attempts t ≡ Some a
    → a.row.ended ≡ Some e → a.row.stream ≡ Some n → link_number a ≡ l.number → q.items ≡ w.queue.items ++ control.Reset n code ∷ []
    → SeesStreams (with_owed (rst_stream_frame n code ∷ []) l) (stream_reset t code s) (record w { queue = q }) g
reset_received l s w g t n code a e q is there ended stream on items =
    let frames : List FrameSeen = rst_stream_frame n code ∷ [] in
    let m : Link = with_owed frames l in
    let u : Seen = reset_seen frames l.number t s in
    let bs : List Attempt = by_stream (streaming_on l s) in
    let off : is_outstanding_on l a ≡ false
    = ap (λ (o : Option RowEnd). (is_some a.row.placed && is_none o) && holds (λ at. at.link == l.number) a.row.placed) ended
    ∙ never_out (is_some a.row.placed) (holds (λ at. at.link == l.number) a.row.placed) in
    let out : outstanding_on l u ≡ outstanding_on l s = changed_out l with_reset_queued t s.attempts a there off off in
    let same : by_stream (streaming_on l u) ≡ bs = ap by_stream (ap (filter streams) out) in
    record {
      sees = reset_keeps_ l s w g t n code a e q is.sees there ended stream on items;
      handled = subst (λ (v : Seen). ResponsesAreReceived m v w.live (by_stream (streaming_on m v))) (sym (is_reset_seen s t n code l.number a is.sees.places there stream on))
          (subst (ResponsesAreReceived m u w.live) (sym same) (all_received_owed l s frames l.number t w.live bs is.handled));
      unreceived = is.unreceived;
      begun = is.begun;
    }

-- the link has its reset queued after all else
reset_ahead : (l : Link) (u : Seen) (v : Wire) (g : ℕ → Line) (n i : ℕ) (code : Option ℕ) → v.queue.fresh ≡ 0 → SeesStreams l u (record v { live = remove v.live i }) g
    → SeesAhead (reset_for n code) l u (record v { live = remove v.live i; queue = reset_after n code v.queue }) g × ((reset_after n code v.queue).fresh ≡ length (reset_for n code))
reset_ahead l u v g n i None none sees =
    (record { wire = record v { live = remove v.live i }; sees = sees; same = refl; queue = sym (append-nil v.queue.items) }, none)
reset_ahead l u v g n i (Some code) none sees = (
  record { wire = record v { live = remove v.live i }; sees = sees; same = refl; queue = reset_last n code v.queue none },
  ap (λ (k : ℕ). k + 1) none,
)

-- both, one after the other
pub on_link : (n : ℕ) (o : Option Placed) (c : Bool) → (c && holds (λ (at : Placed). at.link == n) o) ≡ true → option_map_or (λ (at : Placed). at.link) o 0 ≡ n
on_link n (Some at) true e = eqb-true at.link n e
on_link n None true e = absurd (cc)
on_link n o false e = absurd (cc)

pub ends_follow : (l : Link) (s : Seen) (v : Wire) (g : ℕ → Line) (n i : ℕ) (a : Attempt) (y : LiveStream) (code : Option ℕ) → SeesBut a.place l s v g → IsOn l s n a
    → v.queue.fresh ≡ 0 → slice_get v.live i ≡ Some y → y.tag ≡ a.place → Follows l s a n (Ends code) (record v { live = remove v.live i; queue = reset_after n code v.queue }) g
ends_follow l s v g n i a y code is on none there tag = λ e.
    let t : ℕ = a.place in
    let u : Seen = attempt_ended t e s in
    let gone : filter (is_other_stream t) v.live ≡ remove v.live i
    = ap (λ (k : ℕ). filter (is_other_stream k) v.live) (sym tag) ∙ removed i v.live y v.waiting there is.sees.tags in
    let waits : filter (is_other t) v.waiting ≡ v.waiting
    = waits_kept t v.waiting (subst (λ (k : ℕ). is_one_of v.waiting k ≡ false) tag (tag_apart i v.live y v.waiting there is.sees.tags)) in
    let sees : SeesStreams l u (record v { live = remove v.live i; waiting = v.waiting }) g
    = subst (λ (xs : List LiveStream). SeesStreams l u (record v { live = xs; waiting = v.waiting }) g) gone
    (subst (λ (ns : List ℕ). SeesStreams l u (record v { live = filter (is_other_stream t) v.live; waiting = ns }) g) waits
    (ends_received l s v g t a e is on.there)) in
    reset_ahead l u v g n i code none sees

-- an attempt is cut off
turned : (k t : ℕ) → (k == t) ≡ false → (t == k) ≡ false
turned k t e = grind (arith, nat_tests, e)

same_tag : (m n : ℕ) → m ≡ n → (m == n) ≡ true
same_tag m n e = grind (arith, nat_tests, e)

tagged_at : (place at i : ℕ) (xs : List LiveStream) (y : LiveStream) (ns : List ℕ) → slice_get xs i ≡ Some y → NumbersAreDistinct (map (λ (z : LiveStream). z.tag) xs ++ ns)
    → at ≡ place + i → found_from (is_tagged y.tag) place xs ≡ Some (at, y)
tagged_at place at i [] y ns e tags here = absurd (cc)
tagged_at place at zero (x ∷ xs) y ns e tags here =
    let same : x ≡ y = (cc) in
    let tag : x.tag ≡ y.tag = ap (λ (z : LiveStream). z.tag) same in
    let at_ : place ≡ at = omega (arith, here) in
    if_true (x.tag == y.tag) (Some (place, x)) (found_from (is_tagged y.tag) (place + 1) xs) (same_tag x.tag y.tag tag)
    ∙ ap (λ (z : LiveStream). Some (place, z)) same ∙ ap (λ (k : ℕ). Some (k, y)) at_
tagged_at place at (suc i) (x ∷ xs) y ns e tags here =
    let at_ : at ≡ place + 1 + i = omega (arith, here) in
    if_false (x.tag == y.tag) (Some (place, x)) (found_from (is_tagged y.tag) (place + 1) xs) (turned y.tag x.tag (tag_in i xs y ns x.tag e tags.0))
    ∙ tagged_at (place + 1) at i xs y ns e tags.1 at_

pub number_is : (o : Option ℕ) (m n : ℕ) → o ≡ Some m → o ≡ Some n → m ≡ n
number_is o m n e h = (let same : Some m ≡ Some n = sym e ∙ h in (cc))

pub cuts_keep : CutsKeep
cuts_keep l s w g n code a is on none =
    let here : IsIn (by_stream (streaming_on l s)) a = streaming_in l s n a on in
    let z : IsZipped l w.live here.index a = zipped l here.index w.live (by_stream (streaming_on l s)) a is.sees.sees.live here.there in
    let y : LiveStream = z.stream in
    let i : ℕ = here.index in
    let found : found_from (is_tagged a.place) 0 w.live ≡ Some (i, y)
    = ap (λ (k : ℕ). found_from (is_tagged k) 0 w.live) (sym z.live.tag) ∙ tagged_at 0 i i w.live y w.waiting z.there is.sees.tags (omega arith) in
    let number : y.number ≡ n = number_is a.row.stream y.number n z.live.stream on.stream in
    let F : Wire → Type 0 = λ v. Follows l s a n (Ends (Some code)) v g in
    let M : ℕ → Type 0 = λ k. F (record w { live = remove w.live i; queue = reset_after k (Some code) w.queue }) in
    subst F (sym (ap (cut_at w a.place code) found)) (subst M (sym number) (ends_follow l s w g n i a y (Some code) is on none z.there z.live.tag))
