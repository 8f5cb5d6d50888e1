-- After GOAWAY, and before any stream is reset: the link has the streams of the attempts that are left, and one reset queued for each of the others.
use Rattle.std.proofs.Common.{◌≡◌, ◌∷◌, ◌++◌, ◌==◌, not, ap, arith, refl, subst, sym, ◌∙◌, Bool, true, false, List, [], Option, ℕ, ◌+◌, ◌*◌, suc, cond, filter, is_some, length, map, nat_lt}
use Rattle.std.specs.Option.{unwrap_or}
use Rattle.std.proofs.lemmas.Bool.{eqb-true}
use Rattle.std.proofs.lemmas.List.Elements.{filter-append}
use Rattle.attempt_ledger.specs.declared.row.RowEnd.{RowEnd}
use Rattle.grpc_base.specs.ErrorCodes.{cancel}
use Rattle.h2_frame.specs.Frames.{FrameSeen}
use Rattle.h2_frame.specs.Numbers.{goaway_type}
use Rattle.h2_frame.specs.Payloads.{last_stream}
use Rattle.h2_link.specs.Feeds.{Line}
use Rattle.h2_link.specs.Queues.{Queue, reset_queued, sealed}
use Rattle.h2_link.specs.Steps.{all_reset, is_above}
use Rattle.h2_link.specs.Wire.{Report, Wire}
use Rattle.h2_link.specs.declared.control.Control.{Control}
use Rattle.h2_link.specs.declared.control.Control.TheVariants as control
use Rattle.h2_link.specs.declared.live.LiveStream.{LiveStream}
use Rattle.lb_policy.specs.Table.{is_one_of}
use Rattle.link_actions.proofs.Ended.{never_out}
use Rattle.link_actions.proofs.Lists.{both_if, if_false, if_true}
use Rattle.link_actions.proofs.Opened.{streams, waits}
use Rattle.link_actions.proofs.Without.{all_filter, by_stream_filter, distinct_filter, filter_swap, map_filter, opened_without}
use Rattle.link_actions.specs.Sees.{NumbersAreDistinct, StreamsAreFed, StreamsAreLive, AttemptsStandInPlace, IsFed, SeesOwed, SeesRead, WaitFed, by_stream}
use Rattle.link_actions.specs.ResetActions.Ahead.{reset_of}
use Rattle.link_actions.specs.ResetActions.Laws.{AttemptsAreEndedAt, GoawaysGoAhead, IsCut, IsEndedIf, cancels_of}
use Rattle.session_actions.specs.AttemptEnds.{with_end}
use Rattle.session_actions.specs.Links.{stream_number}
use Rattle.session_actions.specs.Reading.{is_outstanding_on, outstanding_on}
use Rattle.session_actions.specs.Words.{holds}
use Rattle.session_actions.specs.Writing.{frame_read, frame_read_on, streaming_on, waiting_on}
use Rattle.session_actions.specs.declared.attempt.Attempt.{Attempt}
use Rattle.session_actions.specs.declared.link.Link.{Link}
use Rattle.session_actions.specs.declared.seen.Seen.{Seen}
use Rattle.link_actions.proofs.StreamActions.Goaway.{AreReceivedTo, SeesTo, is_none_of, places_of, without_all}
use Rattle.link_actions.proofs.StreamActions.GoawayRead.{goaway_base, goaway_is_reported, once_ended, wire_left, wire_read}
use Rattle.link_actions.proofs.StreamActions.Resets.{all_are_queued, resets_of}
use Rattle.link_actions.proofs.StreamActions.StreamRead.{read_is}
use Rattle.link_actions.specs.StreamActions.Laws.{is_left_out, left_out, read_link}
use Rattle.link_actions.specs.StreamActions.Sees.{IsReceived, SeesStreams}

-- the attempts that are left, and their streams
abbrev is_left : List ℕ → Attempt → Bool
is_left ts a = is_none_of ts a.place

abbrev is_left_stream : List ℕ → LiveStream → Bool
is_left_stream ts x = is_none_of ts x.tag

-- those that ended are on no link
off_link : (l : Link) (e : RowEnd) (a b : Attempt) → b ≡ with_end e a → is_outstanding_on l b ≡ false
off_link l e a b is = ap (is_outstanding_on l) is ∙ never_out (is_some a.row.placed) (holds (λ at. at.link == l.number) a.row.placed)

one_out : (l : Link) (ts : List ℕ) (a b : Attempt) (ys zs : List Attempt) (c o : Bool) → is_one_of ts a.place ≡ c → is_outstanding_on l a ≡ o → IsEndedIf c a b
    → filter (is_outstanding_on l) ys ≡ filter (is_left ts) zs → filter (is_outstanding_on l) (b ∷ ys) ≡ filter (is_left ts) (cond o (a ∷ zs) zs)
one_out l ts a b ys zs true true is was ended h =
    if_false (is_outstanding_on l b) (b ∷ filter (is_outstanding_on l) ys) (filter (is_outstanding_on l) ys) (off_link l ended.0 a b ended.1)
    ∙ h ∙ sym (if_false (is_left ts a) (a ∷ filter (is_left ts) zs) (filter (is_left ts) zs) (ap not is))
one_out l ts a b ys zs true false is was ended h =
    if_false (is_outstanding_on l b) (b ∷ filter (is_outstanding_on l) ys) (filter (is_outstanding_on l) ys) (off_link l ended.0 a b ended.1) ∙ h
one_out l ts a b ys zs false true is was same h =
    ap (λ (x : Attempt). filter (is_outstanding_on l) (x ∷ ys)) same
    ∙ if_true (is_outstanding_on l a) (a ∷ filter (is_outstanding_on l) ys) (filter (is_outstanding_on l) ys) was
    ∙ ap (λ (us : List Attempt). a ∷ us) h
    ∙ sym (if_true (is_left ts a) (a ∷ filter (is_left ts) zs) (filter (is_left ts) zs) (ap not is))
one_out l ts a b ys zs false false is was same h =
    ap (λ (x : Attempt). filter (is_outstanding_on l) (x ∷ ys)) same
    ∙ if_false (is_outstanding_on l a) (a ∷ filter (is_outstanding_on l) ys) (filter (is_outstanding_on l) ys) was ∙ h

rows_out : (l : Link) (ts : List ℕ) (as_ bs : List Attempt) → AttemptsAreEndedAt ts as_ bs → filter (is_outstanding_on l) bs ≡ filter (is_left ts) (filter (is_outstanding_on l) as_)
rows_out l ts [] [] are = refl
rows_out l ts (a ∷ as_) (b ∷ bs) are =
    one_out l ts a b bs (filter (is_outstanding_on l) as_) (is_one_of ts a.place) (is_outstanding_on l a) refl refl are.0 (rows_out l ts as_ bs are.1)
rows_out l ts [] (b ∷ bs) are = absurd are
rows_out l ts (a ∷ as_) [] are = absurd are

place_if : (c : Bool) (a b : Attempt) → IsEndedIf c a b → b.place ≡ a.place
place_if true a b ended = ap (λ (x : Attempt). x.place) ended.1
place_if false a b same = ap (λ (x : Attempt). x.place) same

pub rows_placed : (ts : List ℕ) (n : ℕ) (as_ bs : List Attempt) → AttemptsStandInPlace n as_ → AttemptsAreEndedAt ts as_ bs → AttemptsStandInPlace n bs
rows_placed ts n [] [] places are = tt
rows_placed ts n (a ∷ as_) (b ∷ bs) places are = (place_if (is_one_of ts a.place) a b are.0 ∙ places.0, rows_placed ts (n + 1) as_ bs places.1 are.1)
rows_placed ts n [] (b ∷ bs) places are = absurd are
rows_placed ts n (a ∷ as_) [] places are = absurd are

-- what is known of an attempt that is left is known of it in the session in which the others have ended
module _ (u : Seen) (rows : List Attempt) where
  abbrev t : Seen
  t = record u { attempts = rows }

  fed_one : (l : Link) (a : Attempt) (line : Line) → IsFed l u a line → IsFed l t a line
  fed_one l a line is = record { call = is.call; call_is = is.call_is; fields = is.fields; written = is.written; left = is.left; finished = is.finished }

  received_one : (l : Link) (x : LiveStream) (a : Attempt) → IsReceived l u x a → IsReceived l t x a
  received_one l x a is = record { head = is.head; goes = is.goes; small = is.small }

  fed_left : (l : Link) (g : ℕ → Line) (ts : List ℕ) (xs : List LiveStream) (others : List Attempt) → StreamsAreLive l xs others → StreamsAreFed l u g xs others
      → StreamsAreFed l t g (filter (is_left_stream ts) xs) (filter (is_left ts) others)
  fed_left l g ts [] [] are fed_ = tt
  fed_left l g ts (x ∷ xs) (a ∷ others) are fed_ =
      let fx : List LiveStream = filter (is_left_stream ts) xs in
      let fa : List Attempt = filter (is_left ts) others in
      let rest : StreamsAreFed l t g fx fa = fed_left l g ts xs others are.1 fed_.1 in
      subst (λ (c : Bool). StreamsAreFed l t g (cond (is_left_stream ts x) (x ∷ fx) fx) (cond c (a ∷ fa) fa)) (ap (is_none_of ts) are.0.tag)
      (both_if (StreamsAreFed l t g) (is_left_stream ts x) (x ∷ fx) fx (a ∷ fa) fa (λ h. (fed_one l a (g x.tag) fed_.0, rest)) (λ h. rest))
  fed_left l g ts [] (a ∷ others) are fed_ = absurd are
  fed_left l g ts (x ∷ xs) [] are fed_ = absurd are

  received_left : (last : ℕ) (l : Link) (ts : List ℕ) (xs : List LiveStream) (others : List Attempt) → StreamsAreLive l xs others → AreReceivedTo last l u xs others
      → AreReceivedTo last l t (filter (is_left_stream ts) xs) (filter (is_left ts) others)
  received_left last l ts [] [] are handled = tt
  received_left last l ts (x ∷ xs) (a ∷ others) are handled =
      let fx : List LiveStream = filter (is_left_stream ts) xs in
      let fa : List Attempt = filter (is_left ts) others in
      let rest : AreReceivedTo last l t fx fa = received_left last l ts xs others are.1 handled.1 in
      subst (λ (c : Bool). AreReceivedTo last l t (cond (is_left_stream ts x) (x ∷ fx) fx) (cond c (a ∷ fa) fa)) (ap (is_none_of ts) are.0.tag)
      (both_if (AreReceivedTo last l t) (is_left_stream ts x) (x ∷ fx) fx (a ∷ fa) fa (λ h. (λ below. received_one l x a (handled.0 below), rest)) (λ h. rest))
  received_left last l ts [] (a ∷ others) are handled = absurd are
  received_left last l ts (x ∷ xs) [] are handled = absurd are

  waits_left : (l : Link) (g : ℕ → Line) (xs : List Attempt) → WaitFed l u g xs → WaitFed l t g xs
  waits_left l g [] are = tt
  waits_left l g (a ∷ xs) are = (fed_one l a (g a.place) are.0, waits_left l g xs are.1)

live_left : (l : Link) (ts : List ℕ) (xs : List LiveStream) (others : List Attempt) → StreamsAreLive l xs others → StreamsAreLive l (filter (is_left_stream ts) xs) (filter (is_left ts) others)
live_left l ts [] [] are = tt
live_left l ts (x ∷ xs) (a ∷ others) are =
    let fx : List LiveStream = filter (is_left_stream ts) xs in
    let fa : List Attempt = filter (is_left ts) others in
    let rest : StreamsAreLive l fx fa = live_left l ts xs others are.1 in
    subst (λ (c : Bool). StreamsAreLive l (cond (is_left_stream ts x) (x ∷ fx) fx) (cond c (a ∷ fa) fa)) (ap (is_none_of ts) are.0.tag)
    (both_if (StreamsAreLive l) (is_left_stream ts x) (x ∷ fx) fx (a ∷ fa) fa (λ h. (are.0, rest)) (λ h. rest))
live_left l ts [] (a ∷ others) are = absurd are
live_left l ts (x ∷ xs) [] are = absurd are

still_read : (l : Link) (ts : List ℕ) (w : Wire) → SeesRead l w → SeesRead l (without_all ts w)
still_read l ts w is = record {
  whole = is.whole;
  read = is.read;
  ready = is.ready;
  retiring = is.retiring;
  limit = is.limit;
  initial = is.initial;
  window = is.window;
  opened = is.opened;
  block = is.block;
  table = is.table;
}

still_owes : (l : Link) (ts : List ℕ) (w : Wire) → SeesOwed l w → SeesOwed l (without_all ts w)
still_owes l ts w is = record { queue = is.queue; names = is.names; resizes = is.resizes; written = is.written; answered = is.answered }

rows_end : (last : ℕ) (l : Link) (u : Seen) (w : Wire) (g : ℕ → Line) (ts : List ℕ) (rows : List Attempt) → SeesTo last l u w g → AttemptsAreEndedAt ts u.attempts rows
    → SeesTo last l (record u { attempts = rows }) (without_all ts w) g
rows_end last l u w g ts rows is are =
    let v : Seen = record u { attempts = rows } in
    let bs : List Attempt = by_stream (streaming_on l u) in
    let xs : List LiveStream = filter (is_left_stream ts) w.live in
    let out : outstanding_on l v ≡ filter (is_left ts) (outstanding_on l u) = rows_out l ts u.attempts rows are in
    let streaming : by_stream (streaming_on l v) ≡ filter (is_left ts) bs
    = ap by_stream (ap (filter streams) out ∙ filter_swap streams (is_left ts) (outstanding_on l u)) ∙ by_stream_filter (is_left ts) (streaming_on l u) in
    let waiting : waiting_on l v ≡ filter (is_left ts) (waiting_on l u) = ap (filter waits) out ∙ filter_swap waits (is_left ts) (outstanding_on l u) in
    record {
      sees = record {
        at = is.sees.at;
        sees = record {
          reads = still_read l ts w is.sees.sees.reads;
          live = subst (StreamsAreLive l xs) (sym streaming) (live_left l ts w.live bs is.sees.sees.live);
        };
        owes = still_owes l ts w is.sees.owes;
        waits = ap (filter (is_none_of ts)) is.sees.waits ∙ sym (map_filter (λ (b : Attempt). b.place) (is_none_of ts) (waiting_on l u))
            ∙ ap (map (λ (b : Attempt). b.place)) (sym waiting);
        fed = subst (StreamsAreFed l v g xs) (sym streaming) (fed_left u rows l g ts w.live bs is.sees.sees.live is.sees.fed);
        wait_fed = subst (WaitFed l v g) (sym waiting)
            (waits_left u rows l g (filter (is_left ts) (waiting_on l u)) (all_filter (λ b. IsFed l u b (g b.place)) (is_left ts) (waiting_on l u) is.sees.wait_fed));
        opened = opened_without (is_left_stream ts) 1 (2 * w.opened + 1) w.live is.sees.opened;
        fresh = is.sees.fresh;
        tags = subst NumbersAreDistinct
            (sym (ap (λ (ns : List ℕ). ns ++ filter (is_none_of ts) w.waiting) (map_filter (λ (x : LiveStream). x.tag) (is_none_of ts) w.live)
            ∙ sym (filter-append (is_none_of ts) (map (λ (x : LiveStream). x.tag) w.live) w.waiting)))
            (distinct_filter (is_none_of ts) (map (λ (x : LiveStream). x.tag) w.live ++ w.waiting) is.sees.tags);
        places = rows_placed ts 1 u.attempts rows is.sees.places are;
      };
      handled = subst (AreReceivedTo last l v xs) (sym streaming) (received_left u rows last l ts w.live bs is.sees.sees.live is.handled);
    }

-- the resets that the link queued
pub record AreResetsOf (xs : List LiveStream) (as_ : List Attempt) : Type 0 where
  pub same : resets_of xs ≡ map reset_of (cancels_of as_)
  pub count : length xs ≡ length (cancels_of as_)

resets_zip : (l : Link) (last : ℕ) (xs : List LiveStream) (others : List Attempt) → StreamsAreLive l xs others → AreResetsOf (filter (is_above last) xs) (filter (is_left_out last) others)
resets_zip l last [] [] are = record { same = refl; count = refl }
resets_zip l last (x ∷ xs) (a ∷ others) are =
    let fx : List LiveStream = filter (is_above last) xs in
    let fa : List Attempt = filter (is_left_out last) others in
    let number : stream_number a ≡ x.number = ap (λ (o : Option ℕ). unwrap_or o 0) are.0.stream in
    let rest : AreResetsOf fx fa = resets_zip l last xs others are.1 in
    subst (λ (c : Bool). AreResetsOf (cond (is_above last x) (x ∷ fx) fx) (cond c (a ∷ fa) fa)) (sym (ap (nat_lt last) number))
    (both_if AreResetsOf (is_above last x) (x ∷ fx) fx (a ∷ fa) fa
    (λ h. record {
      same = ap (λ (n : ℕ). control.Reset n cancel ∷ resets_of fx) (sym number) ∙ ap (λ (cs : List Control). control.Reset (stream_number a) cancel ∷ cs) rest.same;
      count = ap suc rest.count;
    })
    (λ h. rest))
resets_zip l last [] (a ∷ others) are = absurd are
resets_zip l last (x ∷ xs) [] are = absurd are

none_more : (n : ℕ) → n ≡ n + 0
none_more n = omega arith

one_later : (n k : ℕ) → n + 1 + k ≡ n + suc k
one_later n k = omega arith

fresh_of : (xs : List LiveStream) (q : Queue) → (all_reset xs q).fresh ≡ q.fresh + length xs
fresh_of [] q = none_more q.fresh
fresh_of (x ∷ xs) q = fresh_of xs (reset_queued x.number cancel q) ∙ one_later q.fresh (length xs)

none_first : (n k : ℕ) → n ≡ 0 → n + k ≡ k
none_first n k e = omega (arith, e)

pub goaways_go_ahead : GoawaysGoAhead
goaways_go_ahead l s w g r ends rows is comes goes all are =
    let f : FrameSeen = r.frame in
    let last : ℕ = last_stream f.payload in
    let kind : f.kind ≡ goaway_type = eqb-true f.kind goaway_type goes in
    let m : Link = read_link r l s in
    let u : Seen = frame_read_on r s l in
    let z : Seen = record u { attempts = rows } in
    let gone : List Attempt = left_out l s last in
    let out_ : List LiveStream = filter (is_above last) w.live in
    let k : Wire = wire_left w f in
    let after : SeesTo last m z (without_all (places_of ends) (wire_read w f)) g = rows_end last m u (wire_read w f) g (places_of ends) rows (goaway_base l s w g r is comes kind) are in
    let sees : SeesStreams m z k g = once_ended l s w g r ends z is goes all after in
    let q : Queue = all_reset out_ (sealed w.queue) in
    let resets : AreResetsOf out_ gone = resets_zip l last w.live (by_stream (streaming_on l s)) is.sees.sees.live in
    let items : q.items ≡ w.queue.items ++ resets_of out_
    = all_are_queued (sealed w.queue) (2 * w.opened + 1) out_ refl (opened_without (is_above last) 1 (2 * w.opened + 1) w.live is.sees.opened) in
    let done : IsCut (cancels_of gone) m z (record k { queue = q }) g = record {
      ahead = record { wire = k; sees = sees; same = refl; queue = items ∙ ap (λ (cs : List Control). w.queue.items ++ cs) resets.same };
      fresh = fresh_of out_ (sealed w.queue) ∙ none_first (sealed w.queue).fresh (length out_) refl ∙ resets.count;
    } in
    let T : Wire → Type 0 = λ x. IsCut (cancels_of gone) m (record (frame_read l.number r s) { attempts = rows }) x g in
    let W : Seen → Type 0 = λ x. IsCut (cancels_of gone) m (record x { attempts = rows }) (record k { queue = q }) g in
    subst T (sym (ap (λ (x : Report). x.wire) (goaway_is_reported w f comes.fair kind))) (subst W (sym (read_is l s r is.sees.at)) done)
