-- Calls whose deadline has come end one after the other, the earliest first.
use Rattle.std.proofs.Common.{◌≡◌, ◌≤◌, ◌++◌, ◌||◌, ◌∷◌, ap, arith, refl, subst, sym, ◌∙◌, Bool, true, false, cond, List, [], Option, None, Some, ℕ, if◌then◌else◌, length, min, nat_le}
use Rattle.std.proofs.lemmas.Bool.{and_parts, or_parts}
use Rattle.std.specs.List.{list_all}
use Rattle.std.specs.Option.{option_map, option_map_or}
use Rattle.std.specs.Set.{remove_key}
use Rattle.attempt_ledger.specs.declared.ledger.CallEnd.{CallEnd}
use Rattle.call_actions.proofs.Places.{places_below}
use Rattle.call_actions.proofs.TakeActions.Deadlines.{deadline_is, none_by}
use Rattle.call_core.specs.Steps as call
use Rattle.channel_actions.proofs.Does.{does_on, none_on}
use Rattle.channel_actions.proofs.Links.Settings.Keys.{head_out}
use Rattle.channel_actions.proofs.Links.Settings.Pairs.{none_afterwards, self_same}
use Rattle.channel_actions.proofs.Stamps.{counted_at}
use Rattle.channel_actions.specs.Agrees.{Agrees}
use Rattle.channel_actions.specs.Calls.{HasSlot, lent_to}
use Rattle.channel_actions.specs.Quiescent.{IsAt}
use Rattle.call_cases.specs.EndsFollow.Cuts.{NoStreamIsToReset}
use Rattle.channel_actions.specs.Points.{Reaches}
use Rattle.channel_actions.specs.Stages.{IsTimely}
use Rattle.call_cases.proofs.CallPosts.Answered.{of_order}
use Rattle.call_cases.proofs.OneCallEnds.Whole.{one_call_ends}
use Rattle.call_cases.proofs.OverdueCalls.Apart.{at, closed_at, deadlines_are, timed_out_is}
use Rattle.call_cases.proofs.OverdueCalls.Next.{IsTimedCall, all_late, found, is_timed, next_is, none_next}
use Rattle.call_cases.specs.CallEnds.Ends.{EndsNext, HasEnded}
use Rattle.call_cases.specs.EndedCalls.Laws.{DeadlinesAreMet, IsTimed}
use Rattle.channel_core.specs.States.{StateSeen}
use Rattle.channel_core.specs.Steps.{all_timed_out, closed, overdue_ended, timed_out}
use Rattle.channel_core.specs.Timing.{due_keys, later, timer_moved}
use Rattle.grpc_base.specs.declared.event.EndCause.{EndCause}
use Rattle.grpc_base.specs.declared.event.EndCause.TheVariants as ending
use Rattle.picker_gate.specs.Pairs.{has, comes_after, is_same}
use Rattle.session_actions.specs.Actions.{first_action, following, of_stage}
use Rattle.session_actions.specs.CallEnds.{next_deadline}
use Rattle.session_actions.specs.Configs.{deadline}
use Rattle.session_actions.specs.Entries.{last_moment, now}
use Rattle.session_actions.specs.Events.{event_action}
use Rattle.session_actions.specs.declared.action.Action.{Action}
use Rattle.session_actions.specs.declared.action.Action.TheVariants as action
use Rattle.session_actions.specs.declared.call.Call.{Call}
use Rattle.session_actions.specs.declared.entry.OpenEntry.{OpenEntry}
use Rattle.session_actions.specs.declared.entry.Stage.TheVariants as stage
use Rattle.session_actions.specs.declared.seen.Seen.{Seen}
use Rattle.session_order.proofs.Quiescence.{quiescence_is_exact, quiescence_leaves_stage}
use Rattle.session_order.proofs.Ended.{ended_leaves}
use Rattle.session_order.specs.Quiescent as order
use Rattle.session_order.specs.Quiescent.{IsStill}
use Rattle.session_order.specs.declared.line.Line.{Line}
use Rattle.session_order.specs.declared.line.Line.TheVariants as line

-- pairs that are later
kept_later : (test : ℕ × ℕ → Bool) (m : ℕ) (q : ℕ × ℕ) (rest : List (ℕ × ℕ)) (b : Bool) → list_all test (q ∷ rest) ≡ true → list_all test (later m rest) ≡ true
    → list_all test (if b then later m rest else q ∷ rest) ≡ true
kept_later test m q rest true all more = more
kept_later test m q rest false all more = all

all_later : (test : ℕ × ℕ → Bool) (m : ℕ) (pairs : List (ℕ × ℕ)) → list_all test pairs ≡ true → list_all test (later m pairs) ≡ true
all_later test m [] all = refl
all_later test m (q ∷ rest) all =
    kept_later test m q rest (nat_le q.0 m) all (all_later test m rest (and_parts (test q) (list_all test rest) all).1)

kept_by : (p q : ℕ × ℕ) (rest : List (ℕ × ℕ)) (b : Bool) → is_same p q ≡ b → b ≡ false → remove_key (is_same p) rest ≡ rest → cond b rest (q ∷ remove_key (is_same p) rest) ≡ q ∷ rest
kept_by p q rest true e f more = absurd (cc)
kept_by p q rest false e f more = ap (λ (l : List (ℕ × ℕ)). q ∷ l) more

remove_none : (p : ℕ × ℕ) (pairs : List (ℕ × ℕ)) → has pairs p ≡ false → remove_key (is_same p) pairs ≡ pairs
remove_none p [] e = refl
remove_none p (q ∷ rest) e =
    let parts = or_parts (is_same p q) (has rest p) e in kept_by p q rest (is_same p q) refl parts.0 (remove_none p rest parts.1)

none_cause : (q : Option CallEnd) (p : Option EndCause) → option_map (λ (e : CallEnd). e.cause) q ≡ p → q ≡ None → p ≡ None
none_cause q p e h = sym e ∙ ap (option_map (λ (k : CallEnd). k.cause)) h

or_true : (b : Bool) → (b || true) ≡ true
or_true true = refl
or_true false = refl

within_word : (n : ℕ) → n ≤ 4294967295 → min n 4294967295 ≡ n
within_word n e = omega arith

-- where the loop stands: these deadlines are left
pub record Waits (m : ℕ) (d : List (ℕ × ℕ)) (z : StateSeen) (o : OpenEntry) (s : Seen) : Type 0 where
  pub agrees : Agrees (at d z) s
  pub left : z.deadlines ≡ later m d
  pub moment : z.book.moment ≡ m
  pub at_event : IsAt stage.Event o s
  pub unreset : NoStreamIsToReset s
  pub few : (q : ℕ × ℕ) → has d q ≡ true → q.1 ≤ 4294967295

pub record Ends (y : StateSeen) (o : OpenEntry) (s : Seen) : Type 0 where
  pub reaches : Reaches stage.Event y o s
  pub fresh : reaches.entry.turn ≡ o.turn
  pub none : next_deadline reaches.seen ≡ None

-- no further one has come
stop : (m : ℕ) (d : List (ℕ × ℕ)) (z : StateSeen) (o : OpenEntry) (s : Seen) → Waits m d z o s → later m d ≡ d → ((q : ℕ × ℕ) → has d q ≡ true → nat_le q.0 m ≡ false) → Ends z o s
stop m d z o s w kept late = record {
  reaches = record {
    actions = [];
    seen = s;
    entry = o;
    does = refl;
    posts = refl;
    same = record { moment = refl; word = refl; event = refl; entries = refl; setup = refl };
    at = w.at_event;
    agrees = subst (λ (l : List (ℕ × ℕ)). Agrees (at l z) s) (sym (w.left ∙ kept)) w.agrees;
  };
  fresh = refl;
  none = none_next z s d w.agrees (λ q h. ap (nat_le q.0) w.moment ∙ late q h);
}

-- the first of them
module _ (m : ℕ) (p : ℕ × ℕ) (rest : List (ℕ × ℕ)) (z : StateSeen) (o : OpenEntry) (s : Seen) (w : Waits m (p ∷ rest) z o s) (come : nat_le p.0 m ≡ true) where
  abbrev y : StateSeen
  y = at (p ∷ rest) z

  abbrev n : ℕ
  n = p.1

  abbrev first : IsTimedCall s p
  first = found z s p rest w.agrees

  come_now : nat_le p.0 z.book.moment ≡ true
  come_now = ap (nat_le p.0) w.moment ∙ come

  quiescent : order.IsQuiescent o s
  quiescent = (quiescence_is_exact o s).0 (w.at_event.quiescent.calls, w.at_event.quiescent.links, w.at_event.quiescent.policies)

  follows : following s ≡ Some (action.CallEnds n ending.Deadline)
  follows =
      quiescence_leaves_stage o s w.at_event.current quiescent ∙ ap (of_stage o s) w.at_event.stage_is
      ∙ ap (λ (a : Option Action). first_action (a ∷ event_action o.event s ∷ [])) (next_is z s p rest w.agrees come_now)

  open_now : first.call.end ≡ None
  open_now = none_by first.call.end first.goes

  ends_next : EndsNext (λ (l : Line). false) n ending.Deadline y o s
  ends_next = record {
    late = λ l never. absurd (cc);
    current = w.at_event.current;
    agrees = w.agrees;
    unreset = w.unreset;
    call = first.call;
    there = first.there;
    going = open_now;
    next = follows;
    uncut = quiescent line.Cut;
    unfollowed = quiescent line.Transparent;
    still = λ l uncut f. ended_leaves n ending.Deadline o s w.at_event.current (λ k c there. counted_at (λ (d : Call). d.number) s.calls k c w.agrees.kept.calls there) l o
        w.at_event.current (ap (λ (b : Bool). b || false) uncut) (quiescent l);
  }

  pub ended : HasEnded (λ (l : Line). false) n ending.Deadline y o s
  ended = one_call_ends (λ (l : Line). false) n ending.Deadline y o s ends_next

  -- the channel
  own : HasSlot y s first.call n
  own = w.agrees.calls.each n first.call first.there

  going : own.slot.call.ended ≡ None
  going = none_cause first.call.end own.slot.call.ended own.sees.serves.sees.ended open_now

  timer : own.slot.deadline ≡ Some p.0
  timer = sym own.sees.deadline_is ∙ ap (λ (b : Bool). if b then deadline first.call s else None) first.goes ∙ first.deadline_is

  due : call.deadline_at own.slot.call ≡ Some p.0
  due = sym (deadline_is s first.call (lent_to y s own.slot) own.sees.serves) ∙ first.deadline_is

  abbrev z2 : StateSeen
  z2 = timed_out n z

  out_is : z2 ≡ closed ending.Deadline n z
  out_is = timed_out_is n z own.slot own.there p.0 due come_now

  closed_is : closed ending.Deadline n y ≡ at rest z2
  closed_is =
      closed_at ending.Deadline n z own.slot own.there going (p ∷ rest)
      ∙ ap (λ (t : Option ℕ). at (timer_moved n t None (p ∷ rest)) (closed ending.Deadline n z)) timer
      ∙ ap (λ (l : List (ℕ × ℕ)). at l (closed ending.Deadline n z)) (head_out p rest)
      ∙ ap (at rest) (sym out_is)

  left_now : z2.deadlines ≡ later m rest
  left_now =
      ap (λ (x : StateSeen). x.deadlines) out_is ∙ deadlines_are ending.Deadline n z own.slot own.there going
      ∙ ap (λ (t : Option ℕ). timer_moved n t None z.deadlines) timer
      ∙ ap (remove_key (is_same p)) (w.left ∙ ap (λ (b : Bool). if b then later m rest else p ∷ rest) come)
      ∙ remove_none p (later m rest) (none_afterwards p (later m rest) (all_later (comes_after p) m rest w.agrees.sets.deadlines.rising.0))

  agrees_now : Agrees (at rest z2) ended.seen
  agrees_now = subst (λ (x : StateSeen). Agrees x ended.seen) closed_is ended.agrees

  moment_of : (t : Seen) → t.current ≡ Some o → now t ≡ o.moment
  moment_of t e = ap (λ (q : Option OpenEntry). option_map_or (λ (k : OpenEntry). k.moment) q (last_moment t)) e

  pub waits_now : Waits m rest z2 o ended.seen
  waits_now = record {
    agrees = agrees_now;
    left = left_now;
    moment = sym agrees_now.clock.moment ∙ moment_of ended.seen ended.current ∙ sym (moment_of s w.at_event.current) ∙ w.agrees.clock.moment ∙ w.moment;
    at_event = record { current = ended.current; stage_is = w.at_event.stage_is; quiescent = of_order o ended.seen (λ l. ended.still l refl) };
    unreset = ended.unreset;
    few = λ q h. w.few q (ap (λ (b : Bool). is_same q p || b) h ∙ or_true (is_same q p));
  }

  pub keys_are : n ≤ 4294967295 → all_timed_out (due_keys m (p ∷ rest)) z ≡ all_timed_out (due_keys m rest) z2
  keys_are few =
      ap (λ (b : Bool). all_timed_out (if b then n ∷ due_keys m rest else []) z) come
      ∙ ap (λ (k : ℕ). all_timed_out (due_keys m rest) (timed_out k z)) (within_word n few)

  pub then_on : Ends (all_timed_out (due_keys m rest) z2) o ended.seen → Ends (all_timed_out (due_keys m rest) z2) o s
  then_on more = record {
    reaches = record {
      actions = (action.CallEnds n ending.Deadline ∷ ended.actions) ++ more.reaches.actions;
      seen = more.reaches.seen;
      entry = more.reaches.entry;
      does = does_on (action.CallEnds n ending.Deadline ∷ ended.actions) more.reaches.actions s ended.seen more.reaches.seen ended.does more.reaches.does;
      posts = none_on (action.CallEnds n ending.Deadline ∷ ended.actions) more.reaches.actions ended.posts more.reaches.posts;
      same = record {
        moment = more.reaches.same.moment;
        word = more.reaches.same.word;
        event = more.reaches.same.event;
        entries = more.reaches.same.entries ∙ ended.entries;
        setup = more.reaches.same.setup ∙ ended.setup;
      };
      at = more.reaches.at;
      agrees = more.reaches.agrees;
    };
    fresh = more.fresh;
    none = more.none;
  }

-- all of them
out_by : (m : ℕ) (p : ℕ × ℕ) (rest : List (ℕ × ℕ)) (z : StateSeen) (o : OpenEntry) (s : Seen) (b : Bool) → nat_le p.0 m ≡ b → Waits m (p ∷ rest) z o s
    → ((t : Seen) → Waits m rest (timed_out p.1 z) o t → Ends (all_timed_out (due_keys m rest) (timed_out p.1 z)) o t) → Ends (all_timed_out (due_keys m (p ∷ rest)) z) o s
out_by m p rest z o s true e w more =
    subst (λ (x : StateSeen). Ends x o s)
    (sym (keys_are m p rest z o s w e (w.few p (ap (λ (b : Bool). b || has rest p) (self_same p)))))
    (then_on m p rest z o s w e (more (ended m p rest z o s w e).seen (waits_now m p rest z o s w e)))
out_by m p rest z o s false e w more =
    subst (λ (b : Bool). Ends (all_timed_out (if b then p.1 ∷ due_keys m rest else []) z) o s) (sym e)
    (stop m (p ∷ rest) z o s w (ap (λ (b : Bool). if b then later m rest else p ∷ rest) e) (all_late p rest m w.agrees.sets.deadlines.rising.0 e))

all_out : (m : ℕ) (d : List (ℕ × ℕ)) (z : StateSeen) (o : OpenEntry) (s : Seen) → Waits m d z o s → Ends (all_timed_out (due_keys m d) z) o s
all_out m [] z o s w = stop m [] z o s w refl (λ q h. absurd (cc))
all_out m (p ∷ rest) z o s w = out_by m p rest z o s (nat_le p.0 m) refl w (λ t v. all_out m rest (timed_out p.1 z) o t v)

below_all : (n m : ℕ) → n ≤ m → m ≤ 4294967295 → n ≤ 4294967295
below_all n m e f = omega (arith, e, f)

module _ (x : StateSeen) (o : OpenEntry) (s : Seen) (h : Agrees x s) (at_event : IsAt stage.Event o s) (case : IsTimed x s) where
  few : (q : ℕ × ℕ) → has x.deadlines q ≡ true → q.1 ≤ 4294967295
  few q in_set =
      let timed : IsTimedCall s q = is_timed s q (sym (h.sets.deadlines.exact q.0 q.1) ∙ in_set) in
      below_all q.1 (length s.calls) (places_below s.calls q.1 timed.call timed.there) case.few

  whole : Ends (all_timed_out (due_keys x.book.moment x.deadlines) (at (later x.book.moment x.deadlines) x)) o s
  whole =
      all_out x.book.moment x.deadlines (at (later x.book.moment x.deadlines) x) o s
      (record { agrees = h; left = refl; moment = refl; at_event = at_event; unreset = case.unreset; few = few })

  overdue_is : overdue_ended x ≡ all_timed_out (due_keys x.book.moment x.deadlines) (at (later x.book.moment x.deadlines) x)
  unfolding overdue_ended
  overdue_is = refl

  as_timely : (y : StateSeen) → overdue_ended x ≡ y → Ends y o s → IsTimely x o s
  as_timely y e k = record {
    reaches = record {
      actions = k.reaches.actions;
      seen = k.reaches.seen;
      entry = k.reaches.entry;
      does = k.reaches.does;
      posts = k.reaches.posts;
      same = k.reaches.same;
      at = k.reaches.at;
      agrees = subst (λ (z : StateSeen). Agrees z k.reaches.seen) (sym e) k.reaches.agrees;
    };
    fresh = k.fresh;
    none = k.none;
  }

  pub met : IsTimely x o s
  met = as_timely (all_timed_out (due_keys x.book.moment x.deadlines) (at (later x.book.moment x.deadlines) x)) overdue_is whole

pub deadlines_are_met : DeadlinesAreMet
deadlines_are_met x o s h at_event case = met x o s h at_event case
