-- The attempt to which its call is committed ends: it is the one that has the call, and no other attempt of the call goes on.
use Rattle.std.proofs.Common.{◌≡◌, ◌&&◌, ◌||◌, ◌==◌, ◌≤◌, ◌++◌, ◌∷◌, not, ap, arith, refl, sym, ◌∙◌, Bool, true, false, List, [], Option, None, Some, ℕ, zero, suc, if◌then◌else◌, is_none, is_some, nat_lt, slice_get}
use Rattle.std.proofs.lemmas.Bool.{and_parts, eq-eqb, eqb-true}
use Rattle.std.proofs.lemmas.Bool.Decides.{nat_tests}
use Rattle.std.specs.List.{list_any}
use Rattle.std.specs.Option.{option_or}
use Rattle.attempt_ledger.specs.declared.ledger.CallEnd.{CallEnd}
use Rattle.attempt_ledger.specs.declared.row.RowEnd.{RowEnd}
use Rattle.call_actions.proofs.CallsInTurn.Changes.{some_last}
use Rattle.call_actions.proofs.Ends.Rows as rows
use Rattle.call_actions.proofs.Ending as ending
use Rattle.call_actions.proofs.Frames as frames
use Rattle.call_actions.proofs.Lists.{numbered_not}
use Rattle.call_actions.proofs.TakeActions.Lists.{found_at}
use Rattle.call_actions.specs.Laws.{IsCounting}
use Rattle.call_actions.specs.Order.{AttemptsAreNumbered, IsInOrder, IsInTurn, goes_on_followed}
use Rattle.call_actions.specs.Sees.{Sees, is_live}
use Rattle.call_core.specs.Steps.{Stepped}
use Rattle.call_cases.proofs.EndsFollow.Apart.{last_passes}
use Rattle.channel_actions.proofs.Outstanding.{any_of}
use Rattle.end_cases.proofs.AttemptEnds.After.{t_is, u}
use Rattle.end_cases.proofs.AttemptEnds.Agreeing.{early_by}
use Rattle.end_cases.proofs.AttemptEnds.Base.{c, e, has, here, sees, x2}
use Rattle.end_cases.proofs.AttemptEnds.Others.{none_at}
use Rattle.end_cases.specs.AttemptEnds.Ends.{EndNext, may_wait}
use Rattle.channel_core.specs.States.{StateSeen}
use Rattle.session_actions.specs.AttemptEnds.{with_end}
use Rattle.session_actions.specs.Attempts.{commitment, counts_by, is_commitment, is_counted, is_followed, is_later_of, is_of, is_outstanding, is_over, is_over_in, is_queued}
use Rattle.session_actions.specs.Commitments.{is_inherited, is_inherited_by, is_inherited_in}
use Rattle.session_actions.specs.Words.{find_last, holds, numbered}
use Rattle.session_actions.specs.declared.attempt.Attempt.{Attempt}
use Rattle.session_actions.specs.declared.call.Call.{Call}
use Rattle.session_actions.specs.declared.entry.OpenEntry.{OpenEntry}
use Rattle.session_actions.specs.declared.response.Outcome.{Outcome}
use Rattle.session_actions.specs.declared.seen.Seen.{Seen}
use Rattle.session_order.specs.Quiescent.{is_to_cut}
use Rattle.session_order.specs.declared.line.Line.{Line}
use Rattle.session_order.specs.declared.line.Line.TheVariants as line

-- an attempt that goes on is not over where none is to be cut; and it has not ended
over_by : (mine out_ un en over : Bool) → (mine && (out_ || ((un && en) && not over))) ≡ true → (out_ && over) ≡ false → over ≡ false
over_by mine out_ un en false lives cut = refl
over_by true true un en true lives cut = absurd (cc)
over_by true false true true true lives cut = absurd (cc)
over_by true false true false true lives cut = absurd (cc)
over_by true false false en true lives cut = absurd (cc)
over_by false out_ un en true lives cut = absurd (cc)

pub unended_by : (mine some un en over : Bool) → (mine && ((some && en) || ((un && en) && not over))) ≡ true → en ≡ true
unended_by mine some un true over lives = refl
unended_by true true true false over lives = absurd (cc)
unended_by true true false false over lives = absurd (cc)
unended_by true false true false over lives = absurd (cc)
unended_by true false false false over lives = absurd (cc)
unended_by false some un false over lives = absurd (cc)

pub apart_places : (m n : ℕ) → (m == n) ≡ false → nat_lt m n ≡ false → nat_lt n m ≡ true
apart_places m n off e = grind (arith, nat_tests, off, e)

same_places : (m n : ℕ) → nat_lt m n ≡ false → nat_lt n m ≡ false → m ≡ n
same_places m n e f = grind (arith, nat_tests, e, f)

-- the last one that passes a test is at no lower place than another one
low_by : (p : Attempt → Bool) (n : ℕ) (x y : Attempt) (o : Option Attempt) → x.place ≡ n → (o ≡ Some y → suc n ≤ y.place) → option_or o (if p x then Some x else None) ≡ Some y → n ≤ y.place
low_by p n x y (Some z) place rest e =
    let same : z ≡ y = (cc) in
    let more : suc n ≤ y.place = rest (ap (λ (q : Attempt). Some q) same) in
    omega (arith, more)
low_by p n x y None place rest e = here_by (p x) e
  where
    here_by : (b : Bool) → (if b then Some x else None) ≡ Some y → n ≤ y.place
    here_by true e =
        let same : x ≡ y = (cc) in
        let at : y.place ≡ n = ap (λ (q : Attempt). q.place) (sym same) ∙ place in
        omega (arith, at)
    here_by false e = absurd (cc)

low : (p : Attempt → Bool) (n : ℕ) (xs : List Attempt) (y : Attempt) → AttemptsAreNumbered n xs → find_last p xs ≡ Some y → n ≤ y.place
low p n [] y places e = absurd (cc)
low p n (x ∷ xs) y places e = low_by p n x y (find_last p xs) places.0 (λ last. low p (suc n) xs y places.1 last) e

below : (m k j : ℕ) → m ≡ j → suc j ≤ k → nat_lt k m ≡ false
below m k j e f = grind (arith, nat_tests, e, f)

self : (m k : ℕ) → m ≡ k → nat_lt m k ≡ false
self m k e = grind (arith, nat_tests, e)

lower_by : (p : Attempt → Bool) (n : ℕ) (z : Attempt) (zs : List Attempt) (x y : Attempt) (o : Option Attempt) → find_last p zs ≡ o → z.place ≡ n → p x ≡ true
    → (find_last p zs ≡ Some y → suc n ≤ y.place) → ((j : ℕ) → find_last p zs ≡ Some y → slice_get zs j ≡ Some x → nat_lt y.place x.place ≡ false)
    → option_or o (if p z then Some z else None) ≡ Some y → (i : ℕ) → slice_get (z ∷ zs) i ≡ Some x → nat_lt y.place x.place ≡ false
lower_by p n z zs x y (Some k) last place pass high rest e zero at =
    let same : k ≡ y = (cc) in
    let one : z ≡ x = (cc) in
    below x.place y.place n (ap (λ (q : Attempt). q.place) (sym one) ∙ place) (high (last ∙ ap (λ (q : Attempt). Some q) same))
lower_by p n z zs x y (Some k) last place pass high rest e (suc j) at =
    let same : k ≡ y = (cc) in rest j (last ∙ ap (λ (q : Attempt). Some q) same) at
lower_by p n z zs x y None last place pass high rest e (suc j) at =
    let both : false ≡ true = sym (ap (λ (q : Option Attempt). is_some q) last) ∙ some_last p zs ∙ any_of p zs j x at pass in
    absurd (cc)
lower_by p n z zs x y None last place pass high rest e zero at =
    let one : z ≡ x = (cc) in
    let got : (if p z then Some z else None) ≡ Some z = ap (λ (b : Bool). if b then Some z else None) (ap p one ∙ pass) in
    let two : Some z ≡ Some y = sym got ∙ e in
    let same : z ≡ y = (cc) in
    self y.place x.place (ap (λ (q : Attempt). q.place) (sym same ∙ one))

no_lower : (p : Attempt → Bool) (n : ℕ) (xs : List Attempt) (y : Attempt) (i : ℕ) (x : Attempt) → AttemptsAreNumbered n xs → find_last p xs ≡ Some y → slice_get xs i ≡ Some x → p x ≡ true
    → nat_lt y.place x.place ≡ false
no_lower p n [] y i x places e at pass = absurd (cc)
no_lower p n (z ∷ zs) y i x places e at pass =
    lower_by p n z zs x y (find_last p zs) refl places.0 pass (λ last. low p (suc n) zs y places.1 last) (λ j last there. no_lower p (suc n) zs y j x places.1 last there pass) e i at

-- a call that is committed
record HasOne (c : Call) (s : Seen) : Type 0 where
  one : Attempt
  is : commitment c s ≡ Some one

one_by : (c : Call) (s : Seen) (o : Option Attempt) → commitment c s ≡ o → is_some o ≡ true → HasOne c s
one_by c s None at e = absurd (cc)
one_by c s (Some k) at e = record { one = k; is = at }

module _ (later : List (ℕ × RowEnd)) (waits : Line → Bool) (also : List ℕ) (a : Attempt) (out : Outcome) (x : StateSeen) (o : OpenEntry) (s : Seen) (is : EndNext later waits also a out x o s)
    (going : (c later waits also a out x o s is).end ≡ None) where
  abbrev k : Call
  k = c later waits also a out x o s is

  abbrev order : IsInOrder s k
  order = (has later waits also a out x o s is).sees.order

  abbrev turn : IsInTurn s k
  turn = (has later waits also a out x o s is).sees.turn

  was_still : (l : Line) → may_wait l ≡ false → waits l ≡ false
  was_still l may = early_by (waits l) (may_wait l) (is.late l) may

  -- attempts of the call that go on have its number
  pub going_over : (q : Attempt) (m : ℕ) → numbered s.attempts m ≡ Some q → is_live s k q ≡ true → is_over q s ≡ false
  going_over q m there lives =
      over_by (is_of k q) (is_outstanding q) (is_none q.row.placed) (is_none q.row.ended) (is_over q s) lives
      (numbered_not (is_to_cut s) s.attempts m q (is.still line.Cut refl (was_still line.Cut refl)) there)

  pub unended_of : (q : Attempt) → is_live s k q ≡ true → is_none q.row.ended ≡ true
  unended_of q lives = unended_by (is_of k q) (is_some q.row.placed) (is_none q.row.placed) (is_none q.row.ended) (is_over q s) lives

  pub mine_of : (q : Attempt) → is_live s k q ≡ true → is_of k q ≡ true
  mine_of q lives = (and_parts (is_of k q) (is_outstanding q || is_queued q s) lives).0

  -- two that go on with one number are one
  pub over_first : (p q : Attempt) (m i : ℕ) → numbered s.attempts m ≡ Some p → slice_get s.attempts i ≡ Some q → is_of k p ≡ true → is_of k q ≡ true → q.row.number ≡ p.row.number
      → is_none p.row.ended ≡ true → nat_lt p.place q.place ≡ true → ⊥
  over_first p q m i there at mine yours number going less =
      let calls : q.row.call ≡ p.row.call = eqb-true q.row.call k.number yours ∙ sym (eqb-true p.row.call k.number mine) in
      let is_later : is_later_of p q ≡ true
      = ap (λ (b : Bool). (b && (q.row.number == p.row.number)) && nat_lt p.place q.place) (eq-eqb q.row.call p.row.call calls)
      ∙ ap (λ (b : Bool). b && nat_lt p.place q.place) (eq-eqb q.row.number p.row.number number) ∙ less in
      let followed : is_followed p s ≡ true = any_of (is_later_of p) s.attempts i q at is_later in
      let on : goes_on_followed s k p ≡ true
      = ap (λ (b : Bool). (b && is_none p.row.ended) && is_followed p s) mine ∙ ap (λ (b : Bool). b && is_followed p s) going ∙ followed in
      let both : true ≡ false = sym on ∙ numbered_not (goes_on_followed s k) s.attempts m p turn.unfollowed there in
      (cc)

  pub index_of : (q : Attempt) (m : ℕ) → numbered s.attempts m ≡ Some q → (i : ℕ) × (slice_get s.attempts i ≡ Some q)
  index_of q zero there = absurd (cc)
  index_of q (suc i) there = (i, there)

  module _ (committed : is_some (commitment k s) ≡ true) where
    abbrev its : HasOne k s
    its = one_by k s (commitment k s) refl committed

    number_of : (q : Attempt) (m : ℕ) → numbered s.attempts m ≡ Some q → is_live s k q ≡ true → its.one.row.number ≡ q.row.number
    number_of q m there lives =
        let over : not (its.one.row.number == q.row.number) ≡ false
        = sym (ap (holds (λ (g : Call). is_over_in g q s)) (ap (numbered s.calls) (eqb-true q.row.call k.number (mine_of q lives)) ∙ here later waits also a out x o s is)
        ∙ ap (λ (z : Option CallEnd). is_some z || holds (λ (p : Attempt). not (p.row.number == q.row.number)) (commitment k s)) going
        ∙ ap (holds (λ (p : Attempt). not (p.row.number == q.row.number))) its.is)
        ∙ going_over q m there lives in
        eqb-true its.one.row.number q.row.number (not_not (its.one.row.number == q.row.number) over)
      where
        not_not : (b : Bool) → not b ≡ false → b ≡ true
        not_not true e = refl
        not_not false e = absurd (cc)

    -- no other one goes on
    twin : (q : Attempt) (i : ℕ) → slice_get s.attempts i ≡ Some q → is_live s k q ≡ true → (q.place == a.place) ≡ false → ⊥
    twin q i at lives off = by_place (nat_lt q.place a.place) refl
      where
        same_number : a.row.number ≡ q.row.number
        same_number = sym (number_of a a.place is.ending.there is.ending.lives) ∙ number_of q (suc i) at lives

        by_place : (b : Bool) → nat_lt q.place a.place ≡ b → ⊥
        by_place true less =
            let of : (j : ℕ) × (slice_get s.attempts j ≡ Some a) = index_of a a.place is.ending.there in
            over_first q a (suc i) of.0 at of.1 (mine_of q lives) is.ending.own same_number (unended_of q lives) less
        by_place false less =
            over_first a q a.place i is.ending.there at is.ending.own (mine_of q lives) (sym same_number) (unended_of a is.ending.lives) (apart_places q.place a.place off less)

    alone_by : (q : Attempt) (i : ℕ) (b g : Bool) → slice_get s.attempts i ≡ Some q → is_live s k q ≡ b → (q.place == a.place) ≡ g → (is_live s k q && not (q.place == a.place)) ≡ false
    alone_by q i b true at lives off = ap (λ (g : Bool). is_live s k q && not g) off ∙ and_no (is_live s k q)
      where
        and_no : (b : Bool) → (b && false) ≡ false
        and_no true = refl
        and_no false = refl
    alone_by q i false false at lives off = ap (λ (g : Bool). g && not (q.place == a.place)) lives
    alone_by q i true false at lives off = absurd (twin q i at lives off)

    pub alone : list_any (λ (q : Attempt). is_live s k q && not (q.place == a.place)) s.attempts ≡ false
    alone = none_at (λ (q : Attempt). is_live s k q && not (q.place == a.place)) s.attempts (λ i q at. alone_by q i (is_live s k q) (q.place == a.place) at refl refl)

    -- it has the call
    one_there : numbered s.attempts its.one.place ≡ Some its.one
    one_there = found_at s.attempts (has later waits also a out x o s is).sees.serves.places (is_commitment k) its.one its.is

    one_passes : is_commitment k its.one ≡ true
    one_passes = last_passes (is_commitment k) s.attempts its.one its.is

    one_mine : is_of k its.one ≡ true
    one_mine = (and_parts (is_of k its.one) (is_some its.one.row.committed) one_passes).0

    one_number : its.one.row.number ≡ a.row.number
    one_number = number_of a a.place is.ending.there is.ending.lives

    not_above : nat_lt a.place its.one.place ≡ false
    not_above = by_less (nat_lt a.place its.one.place) refl
      where
        by_less : (b : Bool) → nat_lt a.place its.one.place ≡ b → b ≡ false
        by_less false e = refl
        by_less true e =
            let of : (j : ℕ) × (slice_get s.attempts j ≡ Some its.one) = index_of its.one its.one.place one_there in
            absurd (over_first a its.one a.place of.0 is.ending.there of.1 is.ending.own one_mine one_number (unended_of a is.ending.lives) e)

    not_below : nat_lt its.one.place a.place ≡ false
    not_below = by_stamp a.row.committed refl
      where
        by_stamp : (w : Option ℕ) → a.row.committed ≡ w → nat_lt its.one.place a.place ≡ false
        by_stamp (Some stamp) e =
            let of : (j : ℕ) × (slice_get s.attempts j ≡ Some a) = index_of a a.place is.ending.there in
            no_lower (is_commitment k) 1 s.attempts its.one of.0 a order.places its.is of.1
            (ap (λ (b : Bool). b && is_some a.row.committed) is.ending.own ∙ ap (λ (w : Option ℕ). is_some w) e)
        by_stamp None e =
            sym (ap (λ (w : Option ℕ). is_none w && (holds (λ (g : Call). is_inherited_in a s g) (numbered s.calls a.row.call))) e
            ∙ ap (holds (λ (g : Call). is_inherited_in a s g)) is.there
            ∙ ap (λ (z : Option CallEnd). is_none z && holds (is_inherited_by a) (commitment k s)) going
            ∙ ap (holds (is_inherited_by a)) its.is ∙ ap (λ (b : Bool). b && nat_lt its.one.place a.place) (eq-eqb its.one.row.number a.row.number one_number))
            ∙ numbered_not (is_inherited s) s.attempts a.place a (is.still line.Inherited refl (was_still line.Inherited refl)) is.ending.there

    pub one_is : commitment k s ≡ Some a
    one_is =
        let place : its.one.place ≡ a.place = same_places its.one.place a.place not_below not_above in
        its.is ∙ sym one_there ∙ ap (numbered s.attempts) place ∙ is.ending.there

-- and its end counts
module _ (later : List (ℕ × RowEnd)) (waits : Line → Bool) (also : List ℕ) (a : Attempt) (out : Outcome) (x : StateSeen) (o : OpenEntry) (s : Seen) (is : EndNext later waits also a out x o s)
    (counting : IsCounting s (c later waits also a out x o s is) out) where
  abbrev mine : Call
  mine = c later waits also a out x o s is

  abbrev given : Stepped
  given = x2 later waits also a out x o s is

  abbrev viewed : Sees s mine given
  viewed = sees later waits also a out x o s is

  abbrev ordered : IsInOrder s mine
  ordered = (has later waits also a out x o s is).sees.order

  abbrev turned : IsInTurn s mine
  turned = (has later waits also a out x o s is).sees.turn

  abbrev v : Seen
  v = u later waits also a out x o s is

  abbrev end_ : RowEnd
  end_ = e later waits also a out x o s is

  abbrev t2 : Seen
  t2 = ending.t s mine given a.place a out viewed ordered turned is.ending counting

  pub same_then : v ≡ t2
  same_then = sym (t_is later waits also a out x o s is) ∙ ending.is_ended s mine given a.place a out viewed ordered turned is.ending counting

  counts_then : counts_by (with_end end_ a) v end_ ≡ true
  counts_then =
      ap (λ (w : Seen). counts_by (with_end end_ a) w end_) same_then
      ∙ frames.counts_same (ending.base s mine given a.place a out viewed ordered turned is.ending counting) mine.number (λ g. g.messages) (λ g. g.finished) (λ g. g.taken) (λ g. g.end_taken)
      (λ g. g.marks ++ rows.w s mine given a.place a end_ (ending.runs s mine given a.place a out viewed ordered turned is.ending counting) viewed ordered (ending.ends s mine given a.place a out viewed ordered turned is.ending counting) is.ending.own ∷ [])
      (λ g. g.end)
      (rows.now_open s mine given a.place a end_ (ending.runs s mine given a.place a out viewed ordered turned is.ending counting) viewed ordered (ending.ends s mine given a.place a out viewed ordered turned is.ending counting) is.ending.own)
      (with_end end_ a) end_
      ∙ ap (λ (w : Attempt). counts_by w (ending.base s mine given a.place a out viewed ordered turned is.ending counting) end_)
      (sym (ap (λ (b : Bool). record a { row = record a.row { placed = a.row.placed; ended = (if b then Some end_ else a.row.ended) } }) (eq-eqb a.place a.place refl)))
      ∙ ending.counts_now s mine given a.place a out viewed ordered turned is.ending counting

  pub counted_then : is_counted (with_end end_ a) v ≡ true
  counted_then = counts_then
