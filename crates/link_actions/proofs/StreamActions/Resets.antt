-- Several streams are reset by one frame: the resets stand in the order of the streams.
use Rattle.std.proofs.Common.{◌≡◌, ◌≤◌, ◌∷◌, ◌++◌, ap, arith, refl, sym, ◌∙◌, false, List, [], ℕ, ◌+◌, ◌-◌, suc, append-nil, drop, length, length-append, map, nat_lt}
use Rattle.std.specs.List.{AllByRecursion, insert}
use Rattle.std.proofs.lemmas.Bool.Decides.{nat_tests}
use Rattle.std.proofs.lemmas.List.Edits.{insert_end}
use Rattle.grpc_base.specs.ErrorCodes.{cancel}
use Rattle.h2_link.specs.Queues.{Queue, first_place, comes_after, reset_place, reset_queued}
use Rattle.h2_link.specs.Steps.{all_reset}
use Rattle.h2_link.specs.declared.control.Control.{Control}
use Rattle.h2_link.specs.declared.control.Control.TheVariants as control
use Rattle.h2_link.specs.declared.live.LiveStream.{LiveStream}
use Rattle.link_actions.proofs.Lists.{if_false}
use Rattle.link_actions.proofs.QuietKept.{joined}
use Rattle.link_actions.specs.Sees.{StreamsAreOpened}

-- the resets of the frame so far are of streams below a bound
abbrev AreBefore : ℕ → List Control → Type 0
AreBefore bound cs = AllByRecursion (λ c. (n : ℕ) → bound ≤ n → comes_after n c ≡ false) cs

pub record IsFresh (q : Queue) (prefix fresh_ : List Control) (bound : ℕ) : Type 0 where
  pub items : q.items ≡ prefix ++ fresh_
  pub count : q.fresh ≡ length fresh_
  pub before : AreBefore bound fresh_

last_place : (n : ℕ) (cs : List Control) → AllByRecursion (λ c. comes_after n c ≡ false) cs → first_place (comes_after n) cs ≡ length cs
last_place n [] all = refl
last_place n (c ∷ cs) all =
    let o : ℕ = 0 in
    if_false (comes_after n c) o (suc (first_place (comes_after n) cs)) all.0 ∙ ap suc (last_place n cs all.1)

at_number : (n bound : ℕ) (cs : List Control) → bound ≤ n → AreBefore bound cs → AllByRecursion (λ c. comes_after n c ≡ false) cs
at_number n bound [] low all = tt
at_number n bound (c ∷ cs) low all = (all.0 n low, at_number n bound cs low all.1)

higher : (bound more : ℕ) (cs : List Control) → bound ≤ more → AreBefore bound cs → AreBefore more cs
higher bound more [] low all = tt
higher bound more (c ∷ cs) low all = (λ n above. all.0 n (omega (arith, low, above)), higher bound more cs low all.1)

before_more : (bound : ℕ) (cs : List Control) (c : Control) → AreBefore bound cs → ((n : ℕ) → bound ≤ n → comes_after n c ≡ false) → AreBefore bound (cs ++ c ∷ [])
before_more bound [] c all is = (is, tt)
before_more bound (d ∷ cs) c all is = (all.0, before_more bound cs c all.1 is)

drop_prefix : (prefix back : List Control) → drop (length prefix) (prefix ++ back) ≡ back
drop_prefix [] back = refl
drop_prefix (c ∷ prefix) back = drop_prefix prefix back

not_below : (m n : ℕ) → n + 1 ≤ m → nat_lt m n ≡ false
not_below m n h = grind (arith, nat_tests, h)

start_by : (a b c d : ℕ) → a ≡ b + c → d ≡ c → a - d ≡ b
start_by a b c d e h = omega (arith, e, h)

place_is : (q : Queue) (prefix fresh_ : List Control) (n bound : ℕ) → IsFresh q prefix fresh_ bound → bound ≤ n → reset_place n q ≡ length q.items
place_is q prefix fresh_ n bound is low =
    let size : length q.items ≡ length prefix + length fresh_ = ap length is.items ∙ length-append prefix fresh_ in
    let start : length q.items - q.fresh ≡ length prefix = start_by (length q.items) (length prefix) (length fresh_) q.fresh size is.count in
    ap (λ (k : ℕ). k + first_place (comes_after n) (drop k q.items)) start
    ∙ ap (λ (cs : List Control). length prefix + first_place (comes_after n) (drop (length prefix) cs)) is.items
    ∙ ap (λ (cs : List Control). length prefix + first_place (comes_after n) cs) (drop_prefix prefix fresh_)
    ∙ ap (λ (k : ℕ). length prefix + k) (last_place n fresh_ (at_number n bound fresh_ low is.before))
    ∙ sym size

queued_last : (q : Queue) (prefix fresh_ : List Control) (n bound code : ℕ) → IsFresh q prefix fresh_ bound → bound ≤ n
    → IsFresh (reset_queued n code q) prefix (fresh_ ++ control.Reset n code ∷ []) (n + 1)
queued_last q prefix fresh_ n bound code is low =
    let c : Control = control.Reset n code in
    let more : length (fresh_ ++ c ∷ []) ≡ length fresh_ + 1 = length-append fresh_ (c ∷ []) in
    let count : q.fresh ≡ length fresh_ = is.count in
    let wide : bound ≤ n + 1 = omega (arith, low) in
    record {
      items = ap (λ (k : ℕ). insert q.items k c) (place_is q prefix fresh_ n bound is low) ∙ insert_end q.items c ∙ ap (λ (cs : List Control). cs ++ c ∷ []) is.items ∙ joined prefix fresh_ (c ∷ []);
      count = (omega (arith, more, count));
      before = before_more (n + 1) fresh_ c (higher bound (n + 1) fresh_ wide is.before) (λ m above. not_below m n above);
    }

abbrev pub resets_of : List LiveStream → List Control
resets_of xs = map (λ (x : LiveStream). control.Reset x.number cancel) xs

resets_queued : (q : Queue) (prefix fresh_ : List Control) (first bound : ℕ) (xs : List LiveStream) → IsFresh q prefix fresh_ first → StreamsAreOpened first bound xs
    → (all_reset xs q).items ≡ q.items ++ resets_of xs
resets_queued q prefix fresh_ first bound [] is opened = sym (append-nil q.items)
resets_queued q prefix fresh_ first bound (x ∷ xs) is opened =
    let c : Control = control.Reset x.number cancel in
    let next : IsFresh (reset_queued x.number cancel q) prefix (fresh_ ++ c ∷ []) (x.number + 1) = queued_last q prefix fresh_ x.number first cancel is opened.0 in
    resets_queued (reset_queued x.number cancel q) prefix (fresh_ ++ c ∷ []) (x.number + 1) bound xs next opened.2
    ∙ ap (λ (cs : List Control). cs ++ resets_of xs) (next.items ∙ sym (joined prefix fresh_ (c ∷ [])) ∙ ap (λ (cs : List Control). cs ++ c ∷ []) (sym is.items))
    ∙ joined q.items (c ∷ []) (resets_of xs)

pub all_are_queued : (q : Queue) (bound : ℕ) (xs : List LiveStream) → q.fresh ≡ 0 → StreamsAreOpened 1 bound xs → (all_reset xs q).items ≡ q.items ++ resets_of xs
all_are_queued q bound xs none opened =
    let empty : List Control = [] in
    resets_queued q q.items empty 1 bound xs (record { items = sym (append-nil q.items); count = none; before = tt }) opened
