-- A call has just been committed: what the session is then, and what is left of its other calls.
use Rattle.std.proofs.Common.{◌≡◌, ◌&&◌, ◌==◌, ◌∷◌, ap, refl, subst, sym, ◌∙◌, Bool, true, false, List, [], Option, None, Some, ℕ, zero, suc, is_none, is_some, option_map, arith}
use Rattle.std.proofs.lemmas.Bool.{and_parts, both_ways, eq-eqb, eqb-false, eqb-true}
use Rattle.std.proofs.lemmas.Bool.Decides.{nat_tests}
use Rattle.std.specs.List.{list_all}
use Rattle.std.specs.Option.{option_map_or}
use Rattle.attempt_ledger.specs.declared.row.Placed.{Placed}
use Rattle.attempt_ledger.specs.declared.row.RowEnd.{RowEnd}
use Rattle.call_actions.proofs.CallsApart.Books.{books_stay}
use Rattle.call_actions.specs.CallsApart.Apart.{IsBook}
use Rattle.call_actions.proofs.CallsApart.Acts.{others_stay}
use Rattle.call_actions.proofs.TakeActions.CutOne.{marked_also}
use Rattle.call_actions.specs.CallsApart.Apart.{IsApart}
use Rattle.call_actions.specs.Order.{is_own_mark}
use Rattle.call_cases.proofs.EndsFollow.Steps.{call_number}
use Rattle.call_cases.proofs.CommitsFollow.Newest.{new_last}
use Rattle.call_cases.proofs.CommitsFollow.Cuts.{IsTaken}
use Rattle.session_actions.specs.Actions.{after, after_if}
use Rattle.session_actions.specs.Attempts.{call_of, is_commitment, is_of, with_attempt}
use Rattle.session_actions.specs.Calls.{marked}
use Rattle.session_actions.specs.Commitments.{call_committed, with_commitment}
use Rattle.session_actions.specs.Entries.{entry, now}
use Rattle.session_actions.specs.Words.{changed, holds, is_number, numbered}
use Rattle.session_actions.specs.declared.action.Action.TheVariants as action
use Rattle.session_actions.specs.declared.action.CommitCause.{CommitCause}
use Rattle.session_actions.specs.declared.action.CommitCause.TheVariants as commit
use Rattle.call_actions.specs.Order.{IsInOrder}
use Rattle.session_actions.specs.declared.attempt.Attempt.{Attempt}
use Rattle.session_actions.specs.declared.call.Call.{Call}
use Rattle.session_actions.specs.declared.call.Mark.{Mark}
use Rattle.session_actions.specs.declared.call.MarkKind.{MarkKind}
use Rattle.session_actions.specs.declared.call.MarkKind.TheVariants as mark
use Rattle.session_actions.specs.declared.entry.OpenEntry.{OpenEntry}
use Rattle.session_actions.specs.declared.seen.Seen.{Seen}
use Rattle.session_order.proofs.Changed.{changed_away, changed_here, lookup}
use Rattle.call_actions.specs.TakeActions.Cuts.{CanCommit}

-- a call may be committed to an attempt, while an entry is being made
pub record IsToCommit (n : ℕ) (o : OpenEntry) (s : Seen) : Type 0 where
  pub current : s.current ≡ Some o
  pub call : Call
  pub there : numbered s.calls n ≡ Some call
  pub attempt : Attempt
  pub can : CanCommit s call attempt
  pub book : IsBook s
  pub owned : list_all (λ (a : Attempt). is_some (call_of a s)) s.attempts ≡ true
  pub orders : (d : Call) → numbered s.calls d.number ≡ Some d → IsInOrder s d

module _ (n : ℕ) (o : OpenEntry) (s : Seen) (is : IsToCommit n o s) where
  abbrev pub a : Attempt
  a = is.attempt

  abbrev pub c : Call
  c = is.call

  abbrev pub put : Attempt → Attempt
  put q = with_commitment (entry s) q

  abbrev pub k : Attempt
  k = put a

  abbrev pub first : Mark
  first = record { what = mark.Committed; moment = now s }

  abbrev pub b : Seen
  b = record s { attempts = changed put a.place s.attempts; calls = changed (marked_also first) n s.calls }

  pub own_number : c.number ≡ n
  own_number = call_number n s.calls c is.book.calls is.there

  pub of_it : a.row.call ≡ n
  of_it = eqb-true a.row.call c.number is.can.mine ∙ own_number

  pub goes : k.row.ended ≡ None
  goes = unended a.row.placed a.row.ended is.can.outstanding
    where
      unended : (p : Option Placed) (e : Option RowEnd) → (is_some p && is_none e) ≡ true → e ≡ None
      unended p None h = refl
      unended None (Some x) h = absurd (cc)
      unended (Some p) (Some x) h = absurd (cc)

  pub committed_is : call_committed a.place s ≡ b
  committed_is =
      ap (λ (q : Option Attempt). option_map_or (λ (x : Attempt). marked mark.Committed x.row.call (with_attempt put a.place s)) q (with_attempt put a.place s))
      (changed_here put a.place s.attempts a is.can.at)
      ∙ ap (λ (m : ℕ). record s { attempts = changed put a.place s.attempts; calls = changed (marked_also first) m s.calls }) of_it

  pub after_commit : (why : CommitCause) → after (action.CallCommitted a.place why) s ≡ b
  after_commit why = ap (λ (x : Option OpenEntry). after_if x (action.CallCommitted a.place why) s) is.current ∙ committed_is

  pub book_b : IsBook b
  book_b = subst IsBook (after_commit commit.Head) (books_stay s (action.CallCommitted a.place commit.Head) is.book tt)

  pub same_call : (m : ℕ) → (m == n) ≡ false → numbered b.calls m ≡ numbered s.calls m
  same_call m off = changed_away (marked_also first) n m s.calls (eqb-false m n off)

  pub some_call : (m : ℕ) → is_some (numbered b.calls m) ≡ is_some (numbered s.calls m)
  some_call m = lookup (λ (x : Option Call). is_some x) (marked_also first) (λ x. refl) n s.calls m

  pub all_at : {X : Type 0} (p : X → Bool) (xs : List X) (m : ℕ) (x : X) → list_all p xs ≡ true → numbered xs m ≡ Some x → p x ≡ true
  all_at p xs zero x e at = absurd (cc)
  all_at p [] (suc i) x e at = absurd (cc)
  all_at p (y ∷ xs) (suc zero) x e at = let same : x ≡ y = (cc) in ap p same ∙ (and_parts (p y) (list_all p xs) e).0
  all_at p (y ∷ xs) (suc (suc i)) x e at = all_at p xs (suc i) x (and_parts (p y) (list_all p xs) e).1 at

  -- another call
  pub other_apart : (d : Call) → numbered s.calls d.number ≡ Some d → (d.number == n) ≡ false → IsApart s b d
  other_apart d own off =
      subst (λ (z : Seen). IsApart s z d) (after_commit commit.Head)
      (others_stay s d (action.CallCommitted a.place commit.Head) is.book own
      (ap (λ (x : Option Attempt). is_number d.number (option_map (λ (y : Attempt). y.row.call) x)) is.can.at ∙ other_call a.row.call n d.number of_it off))
    where
      other_call : (m n d : ℕ) → m ≡ n → (d == n) ≡ false → (m == d) ≡ false
      other_call m n d e f = grind (arith, nat_tests, e, f)

  -- an attempt that is there now was there, of the same call
  before_by : (p : ℕ) (x : Attempt) (q : Bool) → (p == a.place) ≡ q → numbered b.attempts p ≡ Some x → (x.row.call == n) ≡ false → numbered s.attempts p ≡ Some x
  before_by p x true e at off =
      let two : Some x ≡ Some k = sym at ∙ ap (numbered b.attempts) (eqb-true p a.place e) ∙ changed_here put a.place s.attempts a is.can.at in
      let same : x ≡ k = (cc) in
      absurd (both_ways (a.row.call == n) (sym (ap (λ (y : Attempt). y.row.call == n) same) ∙ off) (eq-eqb a.row.call n of_it))
  before_by p x false e at off = sym (changed_away put a.place p s.attempts (eqb-false p a.place e)) ∙ at

  pub before : (p : ℕ) (x : Attempt) → numbered b.attempts p ≡ Some x → (x.row.call == n) ≡ false → numbered s.attempts p ≡ Some x
  before p x at off = before_by p x (p == a.place) refl at off

  pub call_of_row : (p : ℕ) (x : Attempt) (q : Bool) → (p == a.place) ≡ q → numbered b.attempts p ≡ Some x → is_some (numbered s.calls x.row.call) ≡ true
  call_of_row p x true e at =
      let two : Some x ≡ Some k = sym at ∙ ap (numbered b.attempts) (eqb-true p a.place e) ∙ changed_here put a.place s.attempts a is.can.at in
      let same : x ≡ k = (cc) in
      ap (λ (y : Attempt). is_some (numbered s.calls y.row.call)) same ∙ ap (λ (m : ℕ). is_some (numbered s.calls m)) of_it ∙ ap (λ (o : Option Call). is_some o) is.there
  call_of_row p x false e at =
      all_at (λ (y : Attempt). is_some (call_of y s)) s.attempts p x is.owned (sym (changed_away put a.place p s.attempts (eqb-false p a.place e)) ∙ at)

  mark_same : (d : Call) (w : MarkKind) → is_own_mark b d w ≡ is_own_mark s d w
  mark_same d mark.Configured = refl
  mark_same d (mark.Made row) = lookup (holds (is_of d)) put (λ x. refl) a.place s.attempts row
  mark_same d (mark.Placed row) = refl
  mark_same d (mark.Ended row) = lookup (holds (λ (x : Attempt). is_of d x && is_some x.row.ended)) put (λ x. refl) a.place s.attempts row
  mark_same d mark.Withheld = refl
  mark_same d mark.Committed = refl
  mark_same d mark.Closed = refl

  pub marks_same : (d : Call) (ms : List Mark) → list_all (λ (m : Mark). is_own_mark b d m.what) ms ≡ list_all (λ (m : Mark). is_own_mark s d m.what) ms
  marks_same d [] = refl
  marks_same d (m ∷ ms) =
      ap (λ (q : Bool). q && list_all (λ (i : Mark). is_own_mark b d i.what) ms) (mark_same d m.what) ∙ ap (λ (q : Bool). is_own_mark s d m.what && q) (marks_same d ms)

  -- the commitment is there
  mine : is_commitment c k ≡ true
  mine = ap (λ (q : Bool). q && true) is.can.mine

  pub taken : IsTaken n k b
  taken = record {
    call = marked_also first c;
    there = changed_here (marked_also first) n s.calls c is.there;
    going = is.can.open_now;
    is = new_last (λ (x : Attempt). is_commitment c x) put a.place s.attempts a is.can.at is.can.free mine;
  }
