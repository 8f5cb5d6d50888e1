-- The sets of the channel from which an attempt is taken off that ends: what they then are.
use Rattle.std.proofs.Common.{◌≡◌, ◌&&◌, ◌==◌, not, ap, arith, refl, subst, sym, ◌∙◌, Bool, true, false, List, Option, None, Some, ℕ, is_none, is_some}
use Rattle.std.proofs.lemmas.Bool.{and_right, eq-eqb, eqb-true}
use Rattle.std.proofs.lemmas.Bool.Decides.{nat_tests}
use Rattle.std.specs.Option.{option_map_or}
use Rattle.std.specs.Set.{remove_key}
use Rattle.attempt_ledger.specs.declared.row.Placed.{Placed}
use Rattle.attempt_ledger.specs.declared.row.RowEnd.{RowEnd}
use Rattle.channel_actions.proofs.Links.Settings.Pairs.{exactly_by, exactly_remove}
use Rattle.channel_actions.specs.Sets.{PairsAreExactly, is_in_outstanding}
use Rattle.end_cases.proofs.AttemptEnds.Base.{books, c, call_is, out_off, queue_off}
use Rattle.end_cases.specs.AttemptEnds.Ends.{EndNext}
use Rattle.channel_core.specs.States.{StateSeen}
use Rattle.picker_gate.specs.Pairs.{is_same}
use Rattle.session_actions.specs.Attempts.{is_outstanding}
use Rattle.session_actions.specs.Links.{link_number}
use Rattle.session_actions.specs.Words.{holds}
use Rattle.session_actions.specs.declared.attempt.Attempt.{Attempt}
use Rattle.session_actions.specs.declared.entry.OpenEntry.{OpenEntry}
use Rattle.session_actions.specs.declared.response.Outcome.{Outcome}
use Rattle.session_actions.specs.declared.seen.Seen.{Seen}
use Rattle.session_order.specs.declared.line.Line.{Line}

-- pairs
pub own_pair : (n row other : ℕ) → is_same (n, row) (n, other) ≡ (other == row)
own_pair n row other = grind (arith, nat_tests)

pub away_pair : (n row k other : ℕ) → (k == n) ≡ false → is_same (n, row) (k, other) ≡ false
away_pair n row k other e = grind (arith, nat_tests, e)

pub other_pair : (link row k other : ℕ) → (other == row) ≡ false → is_same (link, row) (k, other) ≡ false
other_pair link row k other e = grind (arith, nat_tests, e)

pub here_pair : (link row k : ℕ) → is_same (link, row) (k, row) ≡ (link == k)
here_pair link row k = grind (arith, nat_tests)

pub and_on : (b : Bool) → (b && true) ≡ b
and_on true = refl
and_on false = refl

and_keep : (p q : Bool) → (p ≡ true → q ≡ false) → (p && not q) ≡ p
and_keep true q turn = ap not (turn refl)
and_keep false q turn = refl

module _ (later : List (ℕ × RowEnd)) (waits : Line → Bool) (also : List ℕ) (a : Attempt) (out : Outcome) (x : StateSeen) (o : OpenEntry) (s : Seen) (is : EndNext later waits also a out x o s) where
  abbrev n : ℕ
  n = (c later waits also a out x o s is).number

  -- the queue of those that wait for ready, or the other one, by a test of the call
  module _ (test other : ℕ → ℕ → Bool) (own : (row : ℕ) → other n row ≡ (test n row && not (row == a.place))) (away : (k row : ℕ) → (k == n) ≡ false → other k row ≡ test k row)
      (waits_ : is_some a.row.placed ≡ true → (row : ℕ) → test n row ≡ true → (row == a.place) ≡ false) where
    off_by : (k row : ℕ) (b : Bool) → (k == n) ≡ b → (test k row && not (is_same (n, a.place) (k, row))) ≡ other k row
    off_by k row true e =
        subst (λ (m : ℕ). (test m row && not (is_same (n, a.place) (m, row))) ≡ other m row) (sym (eqb-true k n e))
        (ap (λ (b : Bool). test n row && not b) (own_pair n a.place row) ∙ sym (own row))
    off_by k row false e = ap (λ (b : Bool). test k row && not b) (away_pair n a.place k row e) ∙ and_on (test k row) ∙ sym (away k row e)

    same_by : is_some a.row.placed ≡ true → (k row : ℕ) (b : Bool) → (k == n) ≡ b → test k row ≡ other k row
    same_by some k row true e =
        subst (λ (m : ℕ). test m row ≡ other m row) (sym (eqb-true k n e)) (sym (own row ∙ and_keep (test n row) (row == a.place) (waits_ some row)))
    same_by some k row false e = sym (away k row e)

    left_by : (p : Option Placed) → a.row.placed ≡ p → (pairs : List (ℕ × ℕ)) → PairsAreExactly pairs test → PairsAreExactly (queue_off n a.place p pairs) other
    left_by None e pairs h = exactly_by (remove_key (is_same (n, a.place)) pairs) (λ k row. test k row && not (is_same (n, a.place) (k, row))) other (exactly_remove pairs test (n, a.place) h) (λ k row. off_by k row (k == n) refl)
    left_by (Some at) e pairs h = exactly_by pairs test other h (λ k row. same_by (ap (λ (z : Option Placed). is_some z) e) k row (k == n) refl)

    pub queue_left : (pairs : List (ℕ × ℕ)) → PairsAreExactly pairs test → PairsAreExactly (queue_off a.row.call a.place a.row.placed pairs) other
    queue_left pairs h =
        subst (λ (m : ℕ). PairsAreExactly (queue_off m a.place a.row.placed pairs) other) (sym (call_is later waits also a out x o s is)) (left_by a.row.placed refl pairs h)

  -- the outstanding ones
  module _ (then_ : Seen) (out_same : (link row : ℕ) → is_in_outstanding then_ link row ≡ (is_in_outstanding s link row && not (row == a.place))) where
    out_here : (link : ℕ) → is_in_outstanding s link a.place ≡ (is_outstanding a && (link_number a == link))
    out_here link = ap (holds (λ (q : Attempt). is_outstanding q && (link_number q == link))) is.ending.there

    out_by : (at : Placed) → a.row.placed ≡ Some at → (link row : ℕ) (b : Bool) → (row == a.place) ≡ b
        → (is_in_outstanding s link row && not (is_same (at.link, a.place) (link, row))) ≡ is_in_outstanding then_ link row
    out_by at e link row false f =
        ap (λ (b : Bool). is_in_outstanding s link row && not b) (other_pair at.link a.place link row f) ∙ ap (λ (b : Bool). is_in_outstanding s link row && not b) (sym f) ∙ sym (out_same link row)
    out_by at e link row true f =
        let same : row ≡ a.place = eqb-true row a.place f in
        subst (λ (m : ℕ). (is_in_outstanding s link m && not (is_same (at.link, a.place) (link, m))) ≡ is_in_outstanding then_ link m) (sym same)
        (ap (λ (b : Bool). is_in_outstanding s link a.place && not b) (here_pair at.link a.place link)
        ∙ ap (λ (b : Bool). b && not (at.link == link)) (out_here link ∙ ap (λ (z : Option Placed). is_outstanding a && (option_map_or (λ (p : Placed). p.link) z 0 == link)) e)
        ∙ gone (is_outstanding a) (at.link == link)
        ∙ sym (out_same link a.place ∙ ap (λ (b : Bool). is_in_outstanding s link a.place && not b) (eq-eqb a.place a.place refl) ∙ and_right (is_in_outstanding s link a.place) false refl))
      where
        gone : (p q : Bool) → ((p && q) && not q) ≡ false
        gone true true = refl
        gone true false = refl
        gone false q = refl

    none_by : a.row.placed ≡ None → (link row : ℕ) (b : Bool) → (row == a.place) ≡ b → is_in_outstanding s link row ≡ is_in_outstanding then_ link row
    none_by e link row false f = sym (out_same link row ∙ ap (λ (b : Bool). is_in_outstanding s link row && not b) f ∙ and_on (is_in_outstanding s link row))
    none_by e link row true f =
        let same : row ≡ a.place = eqb-true row a.place f in
        let none : is_in_outstanding s link a.place ≡ false = out_here link ∙ ap (λ (z : Option Placed). (is_some z && is_none a.row.ended) && (link_number a == link)) e in
        subst (λ (m : ℕ). is_in_outstanding s link m ≡ is_in_outstanding then_ link m) (sym same)
        (none ∙ sym (out_same link a.place ∙ ap (λ (b : Bool). b && not (a.place == a.place)) none))

    out_left_by : (p : Option Placed) → a.row.placed ≡ p → PairsAreExactly (out_off a.place p x.outstanding) (is_in_outstanding then_)
    out_left_by None e = exactly_by x.outstanding (is_in_outstanding s) (is_in_outstanding then_) (books later waits also a out x o s is).sets.outstanding (λ link row. none_by e link row (row == a.place) refl)
    out_left_by (Some at) e =
        exactly_by (remove_key (is_same (at.link, a.place)) x.outstanding) (λ link row. is_in_outstanding s link row && not (is_same (at.link, a.place) (link, row))) (is_in_outstanding then_)
        (exactly_remove x.outstanding (is_in_outstanding s) (at.link, a.place) (books later waits also a out x o s is).sets.outstanding) (λ link row. out_by at e link row (row == a.place) refl)

    pub out_left : PairsAreExactly (out_off a.place a.row.placed x.outstanding) (is_in_outstanding then_)
    out_left = out_left_by a.row.placed refl
