-- Where nothing changed of a call, session and channel agree of it as before, and what a session keeps in order of it is so still.
use Rattle.call_actions.proofs.Ranks.{all_so}
use Rattle.call_actions.specs.Order.{goes_on_followed, goes_on_older, has_ended, is_beyond, is_retried}
use Rattle.call_actions.specs.Sees.{AttemptsAgree, DuesAgree, KeepsDelay}
use Rattle.call_actions.proofs.CallsApart.Kept.{commitment_same, delayed_same, due_same, followed_same, last_same, live_same, made_same, marks_same, own_then, plan_same, retried_same, seen_same}
use Rattle.call_actions.proofs.CallsApart.Through.{any_apart, holds_left}
use Rattle.call_actions.specs.CallsApart.Apart.{is_counted_there, is_end_there, run_number}
use Rattle.call_actions.specs.CallsApart.Laws.{LedgersAreShared, OthersAreInOrder, OthersAreInTurn, OthersAreSeen}
use Rattle.grpc_base.specs.declared.plan.CallPlan.{CallPlan}
use Rattle.service_config.specs.Choice.{chosen_for}
use Rattle.session_actions.specs.Attempts.{is_followed, is_of}
use Rattle.session_actions.specs.Configs.{plan_of}
use Rattle.session_actions.specs.DueAttempts.{attempts_made, due_state}
use Rattle.session_actions.specs.Words.{holds, numbered}
use Rattle.session_actions.specs.declared.attempt.Attempt.{Attempt}
use Rattle.session_actions.specs.declared.call.Call.{Call}
use Rattle.session_actions.specs.declared.config.HeldConfig.{HeldConfig}
use Rattle.session_actions.specs.declared.config.ThrottleRun.{ThrottleRun}
use Rattle.session_actions.specs.declared.due.DueState.{DueState}
use Rattle.session_actions.specs.declared.seen.Seen.{Seen}
use Rattle.std.proofs.Common.{Bool, List, None, Option, Some, [], ap, false, is_none, is_some, nat_lt, not, option_and_then, option_map, refl, slice_get, subst, suc, sym, true, zero, ℕ, ◌&&◌, ◌==◌, ◌||◌, ◌∙◌, ◌∷◌, ◌≡◌}
use Rattle.std.proofs.lemmas.Bool.{and_parts}
use Rattle.std.specs.List.{list_all}
use Rattle.std.specs.Option.{option_map_or}

-- session and channel agree
pub others_are_seen : OthersAreSeen
others_are_seen s t c x ledger acts k h order recorded =
    let a : AttemptsAgree s c x.call.attempts = h.attempts in
    let due : due_state c t ≡ due_state c s = due_same s t c k h.own order.marks in
    let attempts : AttemptsAgree t c x.call.attempts = record {
      sent = made_same s t c k h.own ∙ a.sent;
      due = subst (λ (z : DueState). DuesAgree z x.call.attempts) (sym due) a.due;
      unplaced = a.unplaced;
      delayed = λ keeps free. delayed_same s t c k h.own x.call.attempts.sent
          ∙ a.delayed (subst (λ (p : CallPlan). KeepsDelay c.config p) (plan_same s t c k h.own) keeps) free;
      last = λ free. last_same s t c k h.own order.marks ∙ a.last free;
      refused = retried_same s t c k h.own ∙ a.refused;
      committed = ap (option_map (λ (q : Attempt). q.place)) (commitment_same s t c k h.own) ∙ a.committed;
    } in
    record {
      own = own_then s t c k h.own;
      number_is = h.number_is;
      request = h.request;
      begun = h.begun;
      chosen = ap (option_map (λ (g : HeldConfig). chosen_for g.config c.request.path)) k.config ∙ h.chosen;
      finished = h.finished;
      longest_is = h.longest_is;
      ended = h.ended;
      attempts = attempts;
      live = live_same s t c k h.own ∙ h.live;
      tokens = refl;
      entry_is = recorded.entry_is;
      rows = recorded.rows;
      call_is = recorded.call_is;
    }

-- with the ledger of another call's step
pub ledgers_are_shared : LedgersAreShared
ledgers_are_shared s t c d x y k h g same = record {
  entry_is = g.entry_is;
  rows = g.rows;
  call_is = same ∙ h.call_is ∙ ap (λ (z : _). Some z) (sym (seen_same s t c k h.own));
}

-- in order
beyond_restricted : (z : Seen) (c : Call) (q : Attempt) → is_of c q ≡ false → is_beyond z c q ≡ false
beyond_restricted z c q e = ap (λ (b : Bool). b && nat_lt (attempts_made c z) q.row.number) e

pub others_are_in_order : OthersAreInOrder
others_are_in_order s t c k book own order =
    let made : attempts_made c t ≡ attempts_made c s = made_same s t c k own in
    let due : due_state c t ≡ due_state c s = due_same s t c k own order.marks in
    record {
      places = book.places;
      marks = marks_same s t c k own order.marks;
      numbers = any_apart (is_of c) (is_beyond t c) (is_beyond s c) (beyond_restricted t c) (beyond_restricted s c)
          (λ q mine. ap (λ (n : ℕ). is_of c q && nat_lt n q.row.number) made) s.attempts t.attempts k.attempts ∙ order.numbers;
      first = λ none. ap (λ (d : DueState). d.newest) due ∙ order.first (sym made ∙ none);
      stops = λ over. ap (λ (d : DueState). d.stopped) due
          ∙ order.stops (sym (ap (λ (o : Option Attempt). is_some c.end || is_some o) (commitment_same s t c k own)) ∙ over);
    }

-- in turn
on_followed_restricted : (z : Seen) (c : Call) (q : Attempt) → is_of c q ≡ false → goes_on_followed z c q ≡ false
on_followed_restricted z c q e = ap (λ (b : Bool). (b && is_none q.row.ended) && is_followed q z) e

on_older_restricted : (z : Seen) (c : Call) (q : Attempt) → is_of c q ≡ false → goes_on_older z c q ≡ false
on_older_restricted z c q e =
    ap (λ (b : Bool). ((b && is_none q.row.ended) && is_retried (plan_of c z)) && not (q.row.number == attempts_made c z)) e

all_there : (t : Seen) (places : List ℕ) → list_all (λ (place : ℕ). holds (is_end_there t) (numbered t.attempts place)) places ≡ true → list_all (has_ended t) places ≡ true
all_there t places e =
    all_so (λ (place : ℕ). holds (is_end_there t) (numbered t.attempts place)) (has_ended t)
    (λ place there. holds_left (λ (a : Attempt). is_some a.row.ended) (is_end_there t) (numbered t.attempts place)
    (λ a both. (and_parts (is_some a.row.ended) (holds (λ (d : Call). is_some d.config) (numbered t.calls a.row.call)) both).0) there) places e

all_at : {X : Type 0} (p : X → Bool) (xs : List X) (i : ℕ) (x : X) → list_all p xs ≡ true → slice_get xs i ≡ Some x → p x ≡ true
all_at p [] i x e got = absurd (cc)
all_at p (y ∷ xs) zero x e got =
    let one : y ≡ x = (cc) in sym (ap p one) ∙ (and_parts (p y) (list_all p xs) e).0
all_at p (y ∷ xs) (suc i) x e got = all_at p xs i x (and_parts (p y) (list_all p xs) e).1 got

pub all_numbered : {X : Type 0} (p : X → Bool) (xs : List X) (n : ℕ) (x : X) → list_all p xs ≡ true → numbered xs n ≡ Some x → p x ≡ true
all_numbered p xs zero x e got = absurd (cc)
all_numbered p xs (suc i) x e got = all_at p xs i x e got

counted_of : (t : Seen) → list_all (is_counted_there t) t.runs ≡ true → (n : ℕ) (o : Option ThrottleRun) → numbered t.runs n ≡ o
    → option_map_or (λ (run : ThrottleRun). list_all (has_ended t) run.ends) o true ≡ true
counted_of t e n None got = refl
counted_of t e n (Some run) got = all_there t run.ends (all_numbered (is_counted_there t) t.runs n run e got)

pub counted_by : (t : Seen) → list_all (is_counted_there t) t.runs ≡ true → (n : Option ℕ)
    → option_map_or (λ (run : ThrottleRun). list_all (has_ended t) run.ends) (option_and_then (numbered t.runs) n) true ≡ true
counted_by t e None = refl
counted_by t e (Some n) = counted_of t e n (numbered t.runs n) refl

pub others_are_in_turn : OthersAreInTurn
others_are_in_turn s t c k book own order turn =
    let made : attempts_made c t ≡ attempts_made c s = made_same s t c k own in
    record {
      unfollowed = any_apart (is_of c) (goes_on_followed t c) (goes_on_followed s c) (on_followed_restricted t c) (on_followed_restricted s c)
          (λ q mine. ap (λ (b : Bool). (is_of c q && is_none q.row.ended) && b) (followed_same s t c k own q mine)) s.attempts t.attempts k.attempts ∙ turn.unfollowed;
      latest = any_apart (is_of c) (goes_on_older t c) (goes_on_older s c) (on_older_restricted t c) (on_older_restricted s c)
          (λ q mine. ap (λ (p : CallPlan). ((is_of c q && is_none q.row.ended) && is_retried p) && not (q.row.number == attempts_made c t)) (plan_same s t c k own)
          ∙ ap (λ (n : ℕ). ((is_of c q && is_none q.row.ended) && is_retried (plan_of c s)) && not (q.row.number == n)) made) s.attempts t.attempts k.attempts ∙ turn.latest;
      numbers = any_apart (is_of c) (λ (a : Attempt). is_of c a && (a.row.number == 0)) (λ (a : Attempt). is_of c a && (a.row.number == 0))
          (λ q e. ap (λ (b : Bool). b && (q.row.number == 0)) e) (λ q e. ap (λ (b : Bool). b && (q.row.number == 0)) e) (λ q mine. refl) s.attempts t.attempts k.attempts
          ∙ turn.numbers;
      counted = counted_by t book.counted (run_number c t);
    }
