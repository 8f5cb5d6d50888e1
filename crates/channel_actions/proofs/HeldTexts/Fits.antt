-- What calls hold fits what a session accepted, after each stage of an entry; and it is whole where nothing was written.
use Rattle.std.proofs.Common.{◌≡◌, ◌<◌, ◌≤◌, ◌-◌, ◌∙◌, ◌∷◌, ap, arith, length-drop, refl, subst, sym, Bool, true, false, List, [], Option, None, Some, ℕ, zero, suc, length, option_map, slice_get}
use Rattle.std.proofs.Math.Nat.{le_trans}
use Rattle.std.specs.Prelude.{drop}
use Rattle.attempt_buffer.specs.Buffers.{Buffered, text_of}
use Rattle.attempt_ledger.specs.declared.ledger.CallEnd.{CallEnd}
use Rattle.call_actions.specs.TakeActions.Serves.{Holds, IsAt, passed}
use Rattle.channel_actions.proofs.HeldTexts.Carried.{Trims, overdue_trims, settled_trims}
use Rattle.channel_actions.proofs.HeldTexts.Messages.{HasMore, keeps_along}
use Rattle.channel_actions.proofs.HeldTexts.Trims.{IsTrim, TrimmedOf}
use Rattle.channel_actions.specs.Agrees.{Agrees}
use Rattle.channel_actions.specs.Calls.{HasSlot}
use Rattle.channel_actions.specs.HeldTexts.Fits.{FitsText, TextsFit}
use Rattle.channel_actions.specs.HeldTexts.Laws.{DeadlinesKeepTexts, NewTextsFit, SettlingsKeepTexts, UnwrittenTextsAreWhole}
use Rattle.channel_core.specs.Books.{slot_at}
use Rattle.channel_core.specs.States.{StateSeen}
use Rattle.channel_core.specs.declared.state.slots.CallSlot.{CallSlot}
use Rattle.grpc_frame.specs.Messages.{framed_all}
use Rattle.session_actions.specs.Sessions.{Does}
use Rattle.session_actions.specs.Words.{numbered}
use Rattle.session_actions.specs.Writing.{accepted_bytes}
use Rattle.session_actions.specs.declared.action.Action.{Action}
use Rattle.session_actions.specs.declared.call.Call.{Call}
use Rattle.session_actions.specs.declared.seen.Seen.{Seen}

same_some : {X : Type 0} (a b : X) (o : Option X) → o ≡ Some a → o ≡ Some b → a ≡ b
same_some a b o e f = (cc)

no_end : (o : Option CallEnd) → option_map (λ (e : CallEnd). e.cause) o ≡ None → o ≡ None
no_end None e = refl
no_end (Some k) e = absurd (let bad : Some k.cause ≡ None = e in (cc))

pub both_ways : (b : Bool) (P : Type 0) → b ≡ true → b ≡ false → P
both_ways true P e f = absurd (let bad : true ≡ false = f in (cc))
both_ways false P e f = absurd (let bad : false ≡ true = e in (cc))

then_less : (m n k : ℕ) → m < n → n ≤ k → m < k
then_less m n k e f = omega (arith, e, f)

less_then : (m n k : ℕ) → m ≤ n → n < k → m < k
less_then m n k e f = omega (arith, e, f)

-- less is held, and as much was accepted
less_by : (c : Call) (a b : Buffered) (least : ℕ) (q : Bool) → a.is_whole ≡ q → FitsText c a → IsTrim a b → accepted_bytes c ≤ least → b.is_whole ≡ false → length (text_of b) < least
less_by c a b least true is fit trim more e = then_less (length (text_of b)) (length (text_of a)) least (trim.less is e) (le_trans fit.most more)
less_by c a b least false is fit trim more e =
    less_then (length (text_of b)) (length (text_of a)) least trim.most (then_less (length (text_of a)) (accepted_bytes c) least (fit.less is) more)

pub fits_trim : (c d : Call) (a b : Buffered) → FitsText c a → IsTrim a b → accepted_bytes c ≤ accepted_bytes d → FitsText d b
fits_trim c d a b fit trim more = record {
  most = le_trans trim.most (le_trans fit.most more);
  less = λ e. less_by c a b (accepted_bytes d) a.is_whole refl fit trim more e;
}

pub fits_blank : (d : Call) (b : Buffered) → length (text_of b) ≤ 0 → b.is_whole ≡ true → FitsText d b
fits_blank d b low whole = record {
  most = (let up : 0 ≤ accepted_bytes d = omega arith in le_trans low up);
  less = λ e. both_ways b.is_whole (length (text_of b) < accepted_bytes d) whole e;
}

-- a call of the session for each of the channel
get_there : (xs : List Call) (ys : List CallSlot) (i : ℕ) (slot : CallSlot) → length xs ≡ length ys → slice_get ys i ≡ Some slot → (c : Call) × (slice_get xs i ≡ Some c)
get_there xs [] i slot same e = absurd (let bad : None ≡ Some slot = e in (cc))
get_there [] (y ∷ ys) i slot same e = absurd (let bad : ⊥ = omega (arith, same) in bad)
get_there (x ∷ xs) (y ∷ ys) zero slot same e = (x, refl)
get_there (x ∷ xs) (y ∷ ys) (suc i) slot same e = get_there xs ys i slot (let less : length xs ≡ length ys = omega (arith, same) in less) e

pub call_there : (x : StateSeen) (s : Seen) (n : ℕ) (slot : CallSlot) → Agrees x s → slot_at x.book n ≡ Some slot → (c : Call) × (numbered s.calls n ≡ Some c)
call_there x s zero slot h e = absurd (let bad : None ≡ Some slot = e in (cc))
call_there x s (suc i) slot h e = get_there s.calls x.book.calls i slot h.calls.count e

-- a call goes on in both, or in none
pub goes_in : (x : StateSeen) (s : Seen) (n : ℕ) (c : Call) (slot : CallSlot) → Agrees x s → numbered s.calls n ≡ Some c → slot_at x.book n ≡ Some slot → c.end ≡ None → slot.call.ended ≡ None
goes_in x s n c slot h there at goes =
    let has : HasSlot x s c n = h.calls.each n c there in
    let one : has.slot ≡ slot = same_some has.slot slot (slot_at x.book n) has.there at in
    sym (ap (λ (z : CallSlot). z.call.ended) one) ∙ sym has.sees.serves.sees.ended ∙ ap (option_map (λ (e : CallEnd). e.cause)) goes

pub goes_back : (x : StateSeen) (s : Seen) (n : ℕ) (c : Call) (slot : CallSlot) → Agrees x s → numbered s.calls n ≡ Some c → slot_at x.book n ≡ Some slot → slot.call.ended ≡ None → c.end ≡ None
goes_back x s n c slot h there at goes =
    let has : HasSlot x s c n = h.calls.each n c there in
    let one : has.slot ≡ slot = same_some has.slot slot (slot_at x.book n) has.there at in
    no_end c.end (has.sees.serves.sees.ended ∙ ap (λ (z : CallSlot). z.call.ended) one ∙ goes)

module _ (x : StateSeen) (s t : Seen) (actions : List Action) (h : Agrees x s) (fits : TextsFit x s) (does : Does actions s t) where
  -- of one call, by what stood at its number before
  pub fits_by : (n : ℕ) (c : Call) (slot : CallSlot) (o : Option CallSlot) → numbered t.calls n ≡ Some c → slot_at x.book n ≡ o → TrimmedOf o slot.call → FitsText c slot.call.buffer
  fits_by n c slot None there e blank = fits_blank c slot.call.buffer blank.most blank.whole
  fits_by n c slot (Some old) there e trim =
      let was : (d : Call) × (numbered s.calls n ≡ Some d) = call_there x s n old h e in
      let fit : FitsText was.0 old.call.buffer = fits n was.0 old was.1 e (goes_back x s n was.0 old h was.1 e trim.ended) in
      let more : HasMore n (accepted_bytes was.0) t = keeps_along actions s t does n was.0 was.1 in
      let one : more.call ≡ c = same_some more.call c (numbered t.calls n) more.there there in
      fits_trim was.0 c old.call.buffer slot.call.buffer fit trim.text (subst (λ (d : Call). accepted_bytes was.0 ≤ accepted_bytes d) one more.more)

  trim_of : (y : StateSeen) (n : ℕ) (slot : CallSlot) → Trims x y → slot_at y.book n ≡ Some slot → slot.call.ended ≡ None → TrimmedOf (slot_at x.book n) slot.call
  trim_of y zero slot trims at goes = absurd (let bad : None ≡ Some slot = at in (cc))
  trim_of y (suc i) slot trims at goes = trims.each i slot at goes

  pub texts_on : (y : StateSeen) → Trims x y → Agrees y t → TextsFit y t
  texts_on y trims after n c slot there at goes =
      fits_by n c slot (slot_at x.book n) there refl (trim_of y n slot trims at (goes_in y t n c slot after there at goes))

-- the laws
pub new_texts_fit : NewTextsFit
new_texts_fit alloc authority policies setup zero c slot there at goes = absurd (let bad : None ≡ Some c = there in (cc))
new_texts_fit alloc authority policies setup (suc i) c slot there at goes = absurd (let bad : None ≡ Some c = there in (cc))

pub deadlines_keep_texts : DeadlinesKeepTexts
deadlines_keep_texts x y s t actions is h fits does after =
    texts_on x s t actions h fits does y (subst (λ (z : StateSeen). Trims x z) (sym is) (overdue_trims x)) after

pub settlings_keep_texts : SettlingsKeepTexts
settlings_keep_texts x y s t actions is h fits does after =
    texts_on x s t actions h fits does y (subst (λ (z : StateSeen). Trims x z) (sym is) (settled_trims x)) after

-- all is held where nothing was written
nothing : (taken held all : ℕ) → held - taken ≡ all → taken ≤ held → held ≤ all → taken ≡ 0
nothing taken held all same within low = omega (arith, same, within, low)

not_less : (taken held all : ℕ) (P : Type 0) → held - taken ≡ all → held < all → P
not_less taken held all P same low = absurd (let bad : ⊥ = omega (arith, same, low) in bad)

drop_none : (l : List ℕ) → drop 0 l ≡ l
drop_none [] = refl
drop_none (x ∷ l) = refl

whole_by : (b : Buffered) (c : Call) (q : Bool) → FitsText c b → length (text_of b) - passed b ≡ accepted_bytes c → b.is_whole ≡ q → q ≡ true
whole_by b c true fit same e = refl
whole_by b c false fit same e = not_less (passed b) (length (text_of b)) (accepted_bytes c) (false ≡ true) same (fit.less e)

pub unwritten_texts_are_whole : UnwrittenTextsAreWhole
unwritten_texts_are_whole x s number c slot h fits there at goes none =
    let has : HasSlot x s c number = h.calls.each number c there in
    let one : has.slot ≡ slot = same_some has.slot slot (slot_at x.book number) has.there at in
    let b : Buffered = slot.call.buffer in
    let held : Holds s c b = subst (λ (z : CallSlot). Holds s c z.call.buffer) one (has.sees.serves.holds goes) in
    let start : IsAt (passed b) (text_of b) 0 (framed_all c.messages) = subst (λ (n : ℕ). IsAt (passed b) (text_of b) n (framed_all c.messages)) none held.held in
    let left : drop (passed b) (text_of b) ≡ framed_all c.messages = start.left ∙ drop_none (framed_all c.messages) in
    let same : length (text_of b) - passed b ≡ accepted_bytes c = sym (length-drop (passed b) (text_of b)) ∙ ap length left in
    let fit : FitsText c b = fits number c slot there at goes in
    let zero_taken : passed b ≡ 0 = nothing (passed b) (length (text_of b)) (accepted_bytes c) same start.within fit.most in
    (whole_by b c b.is_whole fit same refl, sym (drop_none (text_of b)) ∙ ap (λ (n : ℕ). drop n (text_of b)) (sym zero_taken) ∙ left)
