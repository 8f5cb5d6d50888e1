-- Attempts that are cut off, one after the other, and then the resets of their streams.
use Rattle.std.proofs.Common.{◌≡◌, ◌∷◌, ◌++◌, ◌==◌, ap, arith, refl, subst, sym, ◌∙◌, true, false, List, [], None, Some, ℕ, ◌+◌, zero, suc, append-nil, map, slice_get}
use Rattle.std.specs.List.{remove}
use Rattle.std.proofs.lemmas.Bool.Decides.{nat_tests}
use Rattle.h2_link.specs.Feeds.{Line}
use Rattle.h2_link.specs.Queues.{Queue, reset_queued, sealed}
use Rattle.h2_link.specs.Steps.{cut, cut_at, found_from, is_tagged}
use Rattle.h2_link.specs.Wire.{Wire}
use Rattle.h2_link.specs.declared.control.Control.{Control}
use Rattle.h2_link.specs.declared.control.Control.TheVariants as control
use Rattle.h2_link.specs.declared.live.LiveStream.{LiveStream}
use Rattle.link_actions.proofs.DataSent.{tag_in}
use Rattle.link_actions.proofs.Lists.{if_false, if_true}
use Rattle.link_actions.proofs.QuietKept.{joined}
use Rattle.link_actions.specs.Sees.{NumbersAreDistinct, SeesOwed, by_stream}
use Rattle.link_actions.proofs.ResetActions.Places.{put_length, queued_is}
use Rattle.link_actions.specs.ResetActions.Ahead.{SeesAhead, put_reset, reset_of}
use Rattle.link_actions.specs.ResetActions.Laws.{CutsGoAhead, IsCut, NoneIsAhead, NoneIsLeft, ResetsCatchUp, SealsKeep}
use Rattle.session_actions.specs.AttemptEnds.{attempt_ended}
use Rattle.session_actions.specs.Writing.{streaming_on}
use Rattle.session_actions.specs.declared.attempt.Attempt.{Attempt}
use Rattle.session_actions.specs.declared.link.Link.{Link}
use Rattle.session_actions.specs.declared.seen.Seen.{Seen}
use Rattle.link_actions.proofs.StreamActions.Found.{IsIn, IsZipped, streaming_in, zipped}
use Rattle.link_actions.proofs.StreamActions.StreamEnds.{ends_follow, number_is, reset_received}
use Rattle.link_actions.proofs.StreamActions.Unreceived.{but_all}
use Rattle.link_actions.specs.StreamActions.Sees.{SeesBut, SeesStreams}

-- of the queue only its frames are seen
pub queue_keeps : (l : Link) (s : Seen) (w : Wire) (g : ℕ → Line) (q : Queue) → SeesStreams l s w g → q.items ≡ w.queue.items → SeesStreams l s (record w { queue = q }) g
queue_keeps l s w g q is items =
    let O : List Control → Type 0 = λ cs. SeesOwed l (record w { queue = record { items = cs; fresh = q.fresh } }) in
    let owes : SeesOwed l (record w { queue = record { items = w.queue.items; fresh = q.fresh } }) = record {
      queue = is.sees.owes.queue;
      names = is.sees.owes.names;
      resizes = is.sees.owes.resizes;
      written = is.sees.owes.written;
      answered = is.sees.owes.answered;
    } in
    record {
      sees = record {
        at = is.sees.at;
        sees = record {
          reads = record {
            whole = is.sees.sees.reads.whole;
            read = is.sees.sees.reads.read;
            ready = is.sees.sees.reads.ready;
            retiring = is.sees.sees.reads.retiring;
            limit = is.sees.sees.reads.limit;
            initial = is.sees.sees.reads.initial;
            window = is.sees.sees.reads.window;
            opened = is.sees.sees.reads.opened;
            block = is.sees.sees.reads.block;
            table = is.sees.sees.reads.table;
          };
          live = is.sees.sees.live;
        };
        owes = subst O (sym items) owes;
        waits = is.sees.waits;
        fed = is.sees.fed;
        wait_fed = is.sees.wait_fed;
        opened = is.sees.opened;
        fresh = is.sees.fresh;
        tags = is.sees.tags;
        places = is.sees.places;
      };
      handled = is.handled;
      unreceived = is.unreceived;
      begun = is.begun;
    }

pub seals_keep : SealsKeep
seals_keep resets l s w g is = record { wire = is.wire; sees = is.sees; same = ap (λ (x : Wire). record x { queue = sealed w.queue }) is.same; queue = is.queue }

pub none_is_ahead : NoneIsAhead
none_is_ahead l s w g is = record { wire = w; sees = is; same = refl; queue = sym (append-nil w.queue.items) }

pub none_is_left : NoneIsLeft
none_is_left l s w g is =
    subst (λ (v : Wire). SeesStreams l s v g) (sym is.same) (queue_keeps l s is.wire g w.queue is.sees (is.queue ∙ append-nil is.wire.queue.items))

-- the stream of a tag
turned : (k t : ℕ) → (k == t) ≡ false → (t == k) ≡ false
turned k t e = grind (arith, nat_tests, e)

same_tag : (m n : ℕ) → m ≡ n → (m == n) ≡ true
same_tag m n e = grind (arith, nat_tests, e)

tagged_at : (place at i : ℕ) (xs : List LiveStream) (y : LiveStream) (ns : List ℕ) → slice_get xs i ≡ Some y → NumbersAreDistinct (map (λ (z : LiveStream). z.tag) xs ++ ns)
    → at ≡ place + i → found_from (is_tagged y.tag) place xs ≡ Some (at, y)
tagged_at place at i [] y ns e tags here = absurd (cc)
tagged_at place at zero (x ∷ xs) y ns e tags here =
    let same : x ≡ y = (cc) in
    let tag : x.tag ≡ y.tag = ap (λ (z : LiveStream). z.tag) same in
    let at_ : place ≡ at = omega (arith, here) in
    if_true (x.tag == y.tag) (Some (place, x)) (found_from (is_tagged y.tag) (place + 1) xs) (same_tag x.tag y.tag tag)
    ∙ ap (λ (z : LiveStream). Some (place, z)) same ∙ ap (λ (k : ℕ). Some (k, y)) at_
tagged_at place at (suc i) (x ∷ xs) y ns e tags here =
    let at_ : at ≡ place + 1 + i = omega (arith, here) in
    if_false (x.tag == y.tag) (Some (place, x)) (found_from (is_tagged y.tag) (place + 1) xs) (turned y.tag x.tag (tag_in i xs y ns x.tag e tags.0))
    ∙ tagged_at (place + 1) at i xs y ns e tags.1 at_

-- one more is cut off
abbrev cut_wire : Wire → ℕ → Queue → Wire
cut_wire w i q = record w { live = remove w.live i; queue = q }

pub cuts_go_ahead : CutsGoAhead
cuts_go_ahead resets l s w g n number a e cut_ on =
    let is : SeesAhead resets l s w g = cut_.ahead in
    let v : Wire = is.wire in
    let bs : List Attempt = by_stream (streaming_on l s) in
    let here : IsIn bs a = streaming_in l s n a on in
    let z : IsZipped l v.live here.index a = zipped l here.index v.live bs a is.sees.sees.sees.live here.there in
    let y : LiveStream = z.stream in
    let i : ℕ = here.index in
    let found : found_from (is_tagged a.place) 0 v.live ≡ Some (i, y)
    = ap (λ (k : ℕ). found_from (is_tagged k) 0 v.live) (sym z.live.tag) ∙ tagged_at 0 i i v.live y v.waiting z.there is.sees.sees.tags (omega arith) in
    let stream : y.number ≡ n = number_is a.row.stream y.number n z.live.stream on.stream in
    let u : Wire = record v { queue = sealed v.queue } in
    let sees : SeesStreams l s u g = queue_keeps l s v g (sealed v.queue) is.sees refl in
    let but : SeesBut a.place l s u g = record { sees = sees.sees; handled = but_all a.place l s u.live bs sees.handled; unreceived = sees.unreceived; begun = sees.begun } in
    let left : SeesStreams l (attempt_ended a.place e s) (cut_wire u i u.queue) g
    = none_is_left l (attempt_ended a.place e s) (cut_wire u i u.queue) g (ends_follow l s u g n i a y None but on refl z.there z.live.tag e).0 in
    let q : Queue = reset_queued n number w.queue in
    let live : w.live ≡ v.live = ap (λ (x : Wire). x.live) is.same in
    let cut_is : cut w a.place number ≡ cut_wire w i q
    = ap (λ (xs : List LiveStream). cut_at w a.place number (found_from (is_tagged a.place) 0 xs)) live ∙ ap (cut_at w a.place number) found
    ∙ ap (λ (k : ℕ). cut_wire w i (reset_queued k number w.queue)) stream in
    let same : cut_wire w i q ≡ record (cut_wire u i u.queue) { queue = q } = ap (λ (x : Wire). cut_wire x i q) is.same in
    subst (λ (x : Wire). IsCut (put_reset n number resets) l (attempt_ended a.place e s) x g) (sym cut_is) (record {
      ahead = record {
        wire = cut_wire u i u.queue;
        sees = left;
        same = same;
        queue = queued_is w.queue v.queue.items n number resets is.queue cut_.fresh;
      };
      fresh = ap (λ (k : ℕ). k + 1) cut_.fresh ∙ sym (put_length n number resets);
    })

-- the session queues one too
pub resets_catch_up : ResetsCatchUp
resets_catch_up resets l s w g t n number a e is there ended stream on =
    let v : Wire = is.wire in
    let c : Control = control.Reset n number in
    let q : Queue = record { items = v.queue.items ++ c ∷ []; fresh = 0 } in
    record {
      wire = record v { queue = q };
      sees = reset_received l s v g t n number a e q is.sees there ended stream on refl;
      same = is.same;
      queue = is.queue ∙ sym (joined v.queue.items (c ∷ []) (map reset_of resets));
    }
