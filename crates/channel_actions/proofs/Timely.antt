-- Where no deadline has come by the session, none has in the channel.
use Rattle.std.proofs.Common.{◌≡◌, ◌&&◌, ◌∷◌, ap, refl, subst, sym, ◌∙◌, Bool, true, false, List, [], Option, None, Some, ℕ, if◌then◌else◌, filter}
use Rattle.std.specs.Option.{option_map}
use Rattle.std.specs.Prelude.{nat_le}
use Rattle.channel_actions.proofs.Idleness.Calls.{equal_moment, filter_none_at}
use Rattle.channel_actions.proofs.Outstanding.{any_of, same_self}
use Rattle.channel_actions.specs.Agrees.{Agrees}
use Rattle.channel_actions.specs.Calls.{deadline_of}
use Rattle.channel_actions.specs.Sets.{PairsAreExactly, is_in_deadlines}
use Rattle.channel_actions.specs.Stages.{DeadlinesOf}
use Rattle.channel_actions.specs.Cases.{IsInTime}
use Rattle.channel_core.proofs.Idling.{none_overdue}
use Rattle.channel_core.specs.States.{StateSeen}
use Rattle.channel_core.specs.Steps.{overdue_ended}
use Rattle.picker_gate.specs.Pairs.{first_due, is_same}
use Rattle.session_actions.specs.CallEnds.{ending_call, is_due_before, is_past_deadline, next_deadline}
use Rattle.session_actions.specs.Calls.{is_open_call}
use Rattle.session_actions.specs.Configs.{deadline}
use Rattle.session_actions.specs.Entries.{now}
use Rattle.session_actions.specs.Words.{foremost, holds, is_number, numbered}
use Rattle.session_actions.specs.declared.call.Call.{Call}
use Rattle.session_actions.specs.declared.seen.Seen.{Seen}
use Rattle.grpc_base.specs.declared.event.EndCause.TheVariants as ending

none_filtered : {X Y : Type 0} (f : X → Y) (before : X → X → Bool) (xs : List X) → option_map f (foremost before xs) ≡ None → xs ≡ []
none_filtered f before [] e = refl
none_filtered f before (y ∷ xs) e = absurd (cc)

module _ (x : StateSeen) (s : Seen) (h : Agrees x s) (timely : next_deadline s ≡ None) where
  none_past : filter (is_past_deadline s) s.calls ≡ []
  none_past = none_filtered (ending_call ending.Deadline) (is_due_before s) (filter (is_past_deadline s) s.calls) timely

  past_not : (c : Call) (m : ℕ) (o : Option ℕ) → is_number m o ≡ true → holds (λ (t : ℕ). nat_le t (now s)) o ≡ false → nat_le m (now s) ≡ false
  past_not c m None is e = absurd (cc)
  past_not c m (Some t) is e = ap (λ (k : ℕ). nat_le k (now s)) (sym (equal_moment t m is)) ∙ e

  by_open : (c : Call) (m : ℕ) (b : Bool) → is_open_call c ≡ b → is_number m (if b then deadline c s else None) ≡ true
      → (b && holds (λ (t : ℕ). nat_le t (now s)) (deadline c s)) ≡ false → nat_le m (now s) ≡ false
  by_open c m true e is none = past_not c m (deadline c s) is none
  by_open c m false e is none = absurd (cc)

  deadline_not : (m n : ℕ) (o : Option Call) → numbered s.calls n ≡ o → holds (λ (c : Call). is_number m (deadline_of s c)) o ≡ true → nat_le m (now s) ≡ false
  deadline_not m n None e is = absurd (cc)
  deadline_not m n (Some c) e is = by_open c m (is_open_call c) refl is (filter_none_at (is_past_deadline s) s.calls n c none_past e)

  first_not : (deadlines : List (ℕ × ℕ)) → PairsAreExactly deadlines (is_in_deadlines s) → None ≡ first_due deadlines x.book.moment
  first_not [] exact = refl
  first_not (t ∷ ts) exact =
      let in_set : is_in_deadlines s t.0 t.1 ≡ true = sym (exact.exact t.0 t.1) ∙ any_of (is_same t) (t ∷ ts) 0 t refl (same_self t) in
      let late : nat_le t.0 x.book.moment ≡ false = ap (nat_le t.0) (sym h.clock.moment) ∙ deadline_not t.0 t.1 (numbered s.calls t.1) refl in_set in
      sym (ap (λ (b : Bool). if b then Some t else None) late)

  pub none_ended : overdue_ended x ≡ x
  none_ended = none_overdue x (first_not x.deadlines h.sets.deadlines)

pub in_time : DeadlinesOf IsInTime
in_time x o s h at timely = record {
  reaches = record {
    actions = [];
    seen = s;
    entry = o;
    does = refl;
    posts = refl;
    same = record { moment = refl; word = refl; event = refl; entries = refl; setup = refl };
    at = at;
    agrees = subst (λ (z : StateSeen). Agrees z s) (sym (none_ended x s h timely)) h;
  };
  fresh = refl;
  none = timely;
}
