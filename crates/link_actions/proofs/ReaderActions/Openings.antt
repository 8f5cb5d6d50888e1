-- The streams that a drain opens are those that its frames open, one after the other.
use Rattle.std.proofs.Common.{◌≡◌, ◌∷◌, ◌++◌, append-nil, append_assoc, ap, arith, refl, subst, sym, ◌∙◌, List, [], Option, None, Some, ℕ, ◌+◌, pos, ◌-ℤ◌, zero, suc, drop, length, map, slice_get, slice_set}
use Rattle.grpc_link.specs.Links.{opened_all, opened_one}
use Rattle.grpc_link.specs.declared.readers.TagReader.{TagReader}
use Rattle.h2_link.specs.Drains.{Outgoing, Sends, named, next, next_control, next_head, opened_between, opens, sent_control, sent_head, stream_opened}
use Rattle.h2_link.specs.Drains.{Sent as Sending}
use Rattle.h2_link.specs.Feeds.{Line}
use Rattle.h2_link.specs.Wire.{Wire}
use Rattle.h2_link.specs.declared.control.Control.{Control}
use Rattle.h2_link.specs.declared.live.LiveStream.{LiveStream}
use Rattle.link_actions.proofs.DataSent.{IsShare, share_found}
use Rattle.link_actions.specs.ReaderActions.Laws.{OpeningsAddUp}

abbrev names : List LiveStream → List (ℕ × ℕ)
names xs = map named xs

-- some streams more
pub record Extends (w v : Wire) : Type 0 where
  pub more : List (ℕ × ℕ)
  pub is : names v.live ≡ names w.live ++ more

names_more : (xs : List LiveStream) (x : LiveStream) → names (xs ++ x ∷ []) ≡ names xs ++ named x ∷ []
names_more [] x = refl
names_more (y ∷ xs) x = ap (λ (ns : List (ℕ × ℕ)). named y ∷ ns) (names_more xs x)

names_set : (xs : List LiveStream) (i : ℕ) (y v : LiveStream) → slice_get xs i ≡ Some y → named v ≡ named y → names (slice_set xs i v) ≡ names xs
names_set [] i y v there same = refl
names_set (x ∷ xs) zero y v there same =
    let one : x ≡ y = (cc) in
    ap (λ (n : ℕ × ℕ). n ∷ names xs) (same ∙ ap named (sym one))
names_set (x ∷ xs) (suc i) y v there same = ap (λ (ns : List (ℕ × ℕ)). named x ∷ ns) (names_set xs i y v there same)

data_extends : (w : Wire) (g : ℕ → Line) (x : Sending) → IsShare w g 0 w.live x → Extends w x.wire
data_extends w g x share =
    let y : LiveStream = share.stream in
    let index : share.index ≡ share.at = (let at : share.at ≡ 0 + share.index = share.at_is in omega (arith, at)) in
    let there : slice_get w.live share.at ≡ Some y = ap (λ (n : ℕ). slice_get w.live n) (sym index) ∙ share.there in
    record { more = []; is = ap (λ (v : Wire). names v.live) share.wire ∙ names_set w.live share.at y (record y { finished = share.share.1; credit = y.credit -ℤ pos share.share.0 }) there refl ∙ sym (append-nil (names w.live)) }

by_opens : (w : Wire) (g : ℕ → Line) (x : Sending) (o : Option ℕ) → next_head w g o ≡ Some x → Extends w x.wire
by_opens w g x (Some tag) found =
    let same : sent_head w g tag ≡ x = (cc) in
    subst (λ (s : Sending). Extends w s.wire) same (record { more = named (stream_opened w tag) ∷ []; is = names_more w.live (stream_opened w tag) })
by_opens w g x None found = data_extends w g x (share_found w g 0 w.live x found)

by_queue : (w : Wire) (g : ℕ → Line) (x : Sending) (o : Option Control) → next_control w g o ≡ Some x → Extends w x.wire
by_queue w g x (Some c) found =
    let same : sent_control w g c ≡ x = (cc) in
    subst (λ (s : Sending). Extends w s.wire) same (record { more = []; is = sym (append-nil (names w.live)) })
by_queue w g x None found = by_opens w g x (opens w) found

one_extends : (w : Wire) (g : ℕ → Line) (x : Sending) → next w g ≡ Some x → Extends w x.wire
one_extends w g x found = by_queue w g x (slice_get w.queue.items 0) found

then_extends : (w v z : Wire) → Extends w v → Extends v z → Extends w z
then_extends w v z one rest =
    record { more = one.more ++ rest.more; is = rest.is ∙ ap (λ (ns : List (ℕ × ℕ)). ns ++ rest.more) one.is ∙ append_assoc (names w.live) one.more rest.more }

all_extend : (w : Wire) (g : ℕ → Line) (fs : List Outgoing) (z : Wire) (h : ℕ → Line) → Sends w g fs z h → Extends w z
all_extend w g [] z h is = record { more = []; is = ap (λ (v : Wire). names v.live) is.0 ∙ sym (append-nil (names w.live)) }
all_extend w g (f ∷ fs) z h is = then_extends w is.0.wire z (one_extends w g is.0 is.1) (all_extend is.0.wire is.0.lines fs z h is.3)

drop_names : (xs : List LiveStream) (more : List (ℕ × ℕ)) → drop (length xs) (names xs ++ more) ≡ more
drop_names [] more = refl
drop_names (x ∷ xs) more = drop_names xs more

names_drop : (n : ℕ) (xs : List LiveStream) → names (drop n xs) ≡ drop n (names xs)
names_drop zero xs = refl
names_drop (suc n) [] = refl
names_drop (suc n) (x ∷ xs) = names_drop n xs

between : (w z : Wire) (is : Extends w z) → opened_between w z ≡ is.more
between w z is = names_drop (length w.live) z.live ∙ ap (drop (length w.live)) is.is ∙ drop_names w.live is.more

opened_more : (xs ys : List (ℕ × ℕ)) (readers : List TagReader) → opened_all (xs ++ ys) readers ≡ opened_all ys (opened_all xs readers)
opened_more [] ys readers = refl
opened_more (x ∷ xs) ys readers = opened_more xs ys (opened_one x.0 readers)

pub openings_add_up : OpeningsAddUp
unfolding then_extends
openings_add_up w z g h x fs readers found sends =
    let one : Extends w x.wire = one_extends w g x found in
    let rest : Extends x.wire z = all_extend x.wire x.lines fs z h sends in
    ap (λ (ns : List (ℕ × ℕ)). opened_all ns readers) (between w z (then_extends w x.wire z one rest))
    ∙ opened_more one.more rest.more readers
    ∙ ap (λ (ns : List (ℕ × ℕ)). opened_all rest.more (opened_all ns readers)) (sym (between w x.wire one))
    ∙ ap (λ (ns : List (ℕ × ℕ)). opened_all ns (opened_all (opened_between w x.wire) readers)) (sym (between x.wire z rest))
