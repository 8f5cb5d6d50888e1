-- All other attempts of the call are cut off: what the session then is, and that the end of the call is next.
use Rattle.attempt_ledger.specs.Ends.{is_cut}
use Rattle.attempt_ledger.specs.declared.ledger.CallEnd.{CallEnd}
use Rattle.attempt_ledger.specs.declared.row.RowEnd.{RowEnd}
use Rattle.call_actions.proofs.Lists.{numbered_not}
use Rattle.call_actions.proofs.Places.{place_is}
use Rattle.call_actions.specs.CallsApart.Laws.{tokens_in_run}
use Rattle.call_actions.specs.Laws.{IsCounting}
use Rattle.call_actions.specs.Order.{IsInTurn}
use Rattle.call_actions.specs.Sees.{is_live}
use Rattle.call_actions.specs.TakeActions.Cuts.{next_cut_of}
use Rattle.channel_actions.specs.Sets.{is_in_outstanding}
use Rattle.end_cases.proofs.AttemptEnds.After.{numbers}
use Rattle.end_cases.proofs.AttemptEnds.Base.{c}
use Rattle.end_cases.proofs.AttemptEnds.Closing as closing
use Rattle.end_cases.proofs.AttemptEnds.Closing.{Between, Continues}
use Rattle.end_cases.proofs.AttemptEnds.Committed.{apart_places, index_of, mine_of, over_first, unended_of}
use Rattle.call_cases.proofs.CommitsFollow.Cuts.{none_out}
use Rattle.end_cases.proofs.CutEnds.Walk.{Walked, one}
use Rattle.end_cases.specs.AttemptEnds.Ends.{EndNext}
use Rattle.end_cases.specs.AttemptEnds.Laws.{goes_on_after}
use Rattle.call_cases.specs.CommitsFollow.Laws.{is_other_out}
use Rattle.channel_core.specs.States.{StateSeen}
use Rattle.session_actions.specs.Attempts.{commitment, is_counted, is_followed, is_outstanding, is_queued, wants_follower}
use Rattle.session_actions.specs.CallEnds.{is_over_by_row}
use Rattle.session_actions.specs.Configs.{plan_of}
use Rattle.session_actions.specs.Links.{link_number}
use Rattle.session_actions.specs.Sessions.{Does}
use Rattle.session_actions.specs.Words.{holds, numbered}
use Rattle.session_actions.specs.declared.attempt.Attempt.{Attempt}
use Rattle.session_actions.specs.declared.call.Call.{Call}
use Rattle.session_actions.specs.declared.entry.OpenEntry.{OpenEntry}
use Rattle.session_actions.specs.declared.response.Outcome.{Outcome}
use Rattle.session_actions.specs.declared.seen.Seen.{Seen}
use Rattle.session_order.specs.Quiescent.{IsStill}
use Rattle.session_order.specs.declared.line.Line.TheVariants as line
use Rattle.session_order.specs.declared.line.Line.{Line}
use Rattle.std.proofs.Common.{Bool, List, None, Option, Some, [], ap, cond, eqb-true, false, filter, is_none, is_some, nat_lt, not, refl, slice_get, subst, suc, sym, true, zero, ℕ, ◌&&◌, ◌==◌, ◌||◌, ◌∙◌, ◌∷◌, ◌≡◌}
use Rattle.std.proofs.lemmas.Bool.{and_parts, and_right, both_ways}

all_of : (p q r : Bool) → p ≡ true → q ≡ true → r ≡ true → (p && (q && r)) ≡ true
all_of true true true e f g = refl
all_of false q r e f g = absurd (cc)
all_of true false r e f g = absurd (cc)
all_of true true false e f g = absurd (cc)

-- one that passes stands in what is left of a list
passes_here : (p : Attempt → Bool) (xs : List Attempt) (i : ℕ) (q : Attempt) → slice_get xs i ≡ Some q → p q ≡ true → filter p xs ≡ [] → ⊥
passes_here p [] i q at on none = absurd (cc)
passes_here p (y ∷ ys) zero q at on none =
    let same : y ≡ q = (cc) in
    let some : y ∷ filter p ys ≡ [] = sym (ap (λ (b : Bool). cond b (y ∷ filter p ys) (filter p ys)) (ap p same ∙ on)) ∙ none in
    (cc)
passes_here p (y ∷ ys) (suc i) q at on none = passes_here p ys i q at on (rest_by (p y) none)
  where
    rest_by : (b : Bool) → cond b (y ∷ filter p ys) (filter p ys) ≡ [] → filter p ys ≡ []
    rest_by true e = absurd (cc)
    rest_by false e = e

module _ (later : List (ℕ × RowEnd)) (waits : Line → Bool) (also : List ℕ) (a : Attempt) (out : Outcome) (x : StateSeen) (o : OpenEntry) (s : Seen) (is : EndNext later waits also a out x o s)
    (counting : IsCounting s (c later waits also a out x o s is) out) where
  abbrev k : Call
  k = c later waits also a out x o s is

  abbrev n : ℕ
  n = k.number

  -- two attempts of the call that go on are not of one number
  pub twin : (q : Attempt) (i : ℕ) → slice_get s.attempts i ≡ Some q → is_live s k q ≡ true → q.row.number ≡ a.row.number → (q.place == a.place) ≡ false → ⊥
  twin q i at lives number off = by_place (nat_lt q.place a.place) refl
    where
      by_place : (b : Bool) → nat_lt q.place a.place ≡ b → ⊥
      by_place true less =
          let of : (j : ℕ) × (slice_get s.attempts j ≡ Some a) = index_of later waits also a out x o s is counting.goes_on a a.place is.ending.there in
          over_first later waits also a out x o s is counting.goes_on q a (suc i) of.0 at of.1 (mine_of later waits also a out x o s is counting.goes_on q lives) is.ending.own (sym number)
          (unended_of later waits also a out x o s is counting.goes_on q lives) less
      by_place false less =
          over_first later waits also a out x o s is counting.goes_on a q a.place i is.ending.there at is.ending.own (mine_of later waits also a out x o s is counting.goes_on q lives) number
          (unended_of later waits also a out x o s is counting.goes_on a is.ending.lives) (apart_places q.place a.place off less)

  pub place_of : (q : Attempt) (i : ℕ) → slice_get s.attempts i ≡ Some q → q.place ≡ suc i
  place_of q i at = place_is (suc i) s.attempts q (numbers later waits also a out x o s is) at

  pub mine_is : (q : Attempt) → (q.row.call == n) ≡ true → is_outstanding q ≡ true → is_live s k q ≡ true
  mine_is q own on = ap (λ (b : Bool). b && (is_outstanding q || is_queued q s)) own ∙ ap (λ (b : Bool). b || is_queued q s) on

  module _ (free : commitment k s ≡ None) (final : goes_on_after (plan_of k s) s k a out ≡ false) (t : Seen) (h : Walked later waits also a out x o s is counting free final t)
      (none : next_cut_of n t ≡ None) where
    abbrev v : Seen
    v = closing.v later waits also a out x o s is counting

    abbrev p : OpenEntry
    p = closing.entry_then later waits also a out x o s is counting

    abbrev its_one : Attempt
    its_one = one later waits also a out x o s is counting free final

    abbrev pub b : Between later waits also a out x o s is counting
    b = record { actions = h.actions; calls = t.calls; attempts = t.attempts; marks = h.taken.call.marks; one = its_one }

    abbrev mid : Seen
    mid = closing.mid later waits also a out x o s is counting b

    abbrev its : Call
    its = closing.its later waits also a out x o s is counting b

    pub form : t ≡ mid
    form = h.form

    pub here : numbered t.calls n ≡ Some its
    here = h.taken.there ∙ ap (λ (g : Call). Some g) h.call_is

    -- none of the call is outstanding
    number_by : (q : Attempt) (i : ℕ) (c d : Bool) → slice_get t.attempts i ≡ Some q → (q.row.call == n) ≡ true → is_outstanding q ≡ true → (suc i == a.place) ≡ c
        → (its_one.row.number == q.row.number) ≡ d → d ≡ false
    number_by q i c false at own on e f = refl
    number_by q i true true at own on e f =
        let two : Some q ≡ Some its_one = sym at ∙ ap (numbered t.attempts) (eqb-true (suc i) a.place e) ∙ h.one_there in
        let same : q ≡ its_one = (cc) in
        absurd (both_ways (is_outstanding q) (ap is_outstanding same ∙ and_right (is_some a.row.placed) false refl) on)
    number_by q i false true at own on e f =
        let was : slice_get s.attempts i ≡ Some q = h.same i q at on in
        absurd (twin q i was (mine_is q own on) (sym (eqb-true a.row.number q.row.number f)) (ap (λ (m : ℕ). m == a.place) (place_of q i was) ∙ e))

    out_by : (i : ℕ) (q : Attempt) (g : Bool) → slice_get t.attempts i ≡ Some q → (q.row.call == n) ≡ true → is_outstanding q ≡ g → g ≡ false
    out_by i q false at own on = refl
    out_by i q true at own on =
        let other : not (its_one.row.number == q.row.number) ≡ true
        = ap not (number_by q i (suc i == a.place) (its_one.row.number == q.row.number) at own on refl refl) in
        absurd (passes_here (is_other_out n its_one.row.number) t.attempts i q at
        (all_of (q.row.call == n) (is_outstanding q) (not (its_one.row.number == q.row.number)) own on other) (none_out n its_one t h.taken t.attempts none))

    pub none_outstanding : (i : ℕ) (q : Attempt) → slice_get t.attempts i ≡ Some q → (q.row.call == n) ≡ true → is_outstanding q ≡ false
    none_outstanding i q at own = out_by i q (is_outstanding q) at own refl

    -- and none is that was not
    fewer_by : (link row : ℕ) (r : Option Attempt) → numbered t.attempts row ≡ r → holds (λ (q : Attempt). is_outstanding q && (link_number q == link)) r ≡ true
        → is_in_outstanding s link row ≡ true
    fewer_by link row None at on = absurd (cc)
    fewer_by link zero (Some q) at on = absurd (cc)
    fewer_by link (suc i) (Some q) at on =
        ap (holds (λ (q : Attempt). is_outstanding q && (link_number q == link))) (h.same i q at (and_parts (is_outstanding q) (link_number q == link) on).0) ∙ on

    pub fewer : (link row : ℕ) → is_in_outstanding t link row ≡ true → is_in_outstanding s link row ≡ true
    fewer link row on = fewer_by link row (numbered t.attempts row) refl on

    -- the call ends by its attempt
    counted : is_counted its_one t ≡ true
    counted =
        ap (λ (g : Bool). (not (is_cut out.cause) && not (is_followed its_one t)) && not g)
        (numbered_not (λ (q : Attempt). wants_follower q t) t.attempts a.place its_one (h.still line.Transparent refl refl) h.one_there)
        ∙ ap (λ (g : Bool). (not (is_cut out.cause) && not g) && true) h.unfollowed
        ∙ ap (λ (g : Bool). (not g && true) && true) is.ending.uncut

    pub has_call : commitment its t ≡ Some its_one
    has_call = subst (λ (g : Call). commitment g t ≡ Some its_one) h.call_is h.taken.is

    over : is_over_by_row t its ≡ true
    over =
        ap (λ (q : Option CallEnd). is_none q && holds (λ (g : Attempt). is_counted g t) (commitment its t)) counting.goes_on
        ∙ ap (holds (λ (g : Attempt). is_counted g t)) has_call ∙ counted

    -- of the session in the form of the frame
    there_too : (P : Seen → Type 0) → P t → P mid
    there_too P holds_ = subst P form holds_

    pub goes : Continues later waits also a out x o s is counting b
    goes = record {
      does = there_too (λ (z : Seen). Does h.actions v z) h.does;
      apart = h.apart;
      posts = h.posts;
      netless = h.netless;
      here = here;
      count = h.count;
      one_there = h.one_there;
      one_ended = refl;
      tokens = λ i there. there_too (λ (z : Seen). tokens_in_run z (Some i) ≡ tokens_in_run v (Some i)) (h.tokens i there);
      unreset = h.unreset;
      none_out = none_outstanding;
      fewer = λ link row on. fewer link row on;
      over = there_too (λ (z : Seen). is_over_by_row z its ≡ true) over;
      still = λ l off may. there_too (λ (z : Seen). IsStill l p z) (h.still l off may);
      late = λ l late off. there_too (λ (z : Seen). IsStill l p z) (h.late l late off);
      wire = λ g. there_too (λ (z : Seen). IsStill line.WireEnd p z) (h.wire g);
    }

    -- the call is in turn then
    same_steady : h.steady.call ≡ its
    same_steady =
        let two : Some h.steady.call ≡ Some its = sym h.steady.own ∙ here in
        (cc)

    turn_mid : IsInTurn mid its
    turn_mid = there_too (λ (z : Seen). IsInTurn z its) (subst (λ (g : Call). IsInTurn t g) same_steady h.steady.steady.turn)

    pub turn_closed : IsInTurn (closing.closed later waits also a out x o s is counting b) (closing.ended later waits also a out x o s is counting b)
    turn_closed = record { unfollowed = turn_mid.unfollowed; latest = turn_mid.latest; numbers = turn_mid.numbers; counted = turn_mid.counted }

    pub has_call_then : commitment (closing.ended later waits also a out x o s is counting b) (closing.closed later waits also a out x o s is counting b) ≡ Some its_one
    has_call_then = has_call
