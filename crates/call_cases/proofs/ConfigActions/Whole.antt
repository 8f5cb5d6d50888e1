-- A whole settling where no config is held: after the net's part and the ends of calls nothing is due, and no attempt waits, since there is none.
use Rattle.std.proofs.Common.{◌≡◌, ◌&&◌, ◌||◌, ◌==◌, ◌∷◌, ap, arith, refl, subst, sym, ◌∙◌, Bool, true, false, List, [], Option, None, Some, ℕ, zero, suc, cond, filter, if◌then◌else◌, is_none, is_some, not, slice_get}
use Rattle.std.proofs.lemmas.Bool.Decides.{nat_tests}
use Rattle.std.specs.Prelude.{option_and_then}
use Rattle.attempt_ledger.specs.declared.ledger.CallEnd.{CallEnd}
use Rattle.call_actions.proofs.Unconfigured.{due_of_marks}
use Rattle.call_actions.proofs.Lists.{numbered_not}
use Rattle.call_actions.specs.Laws.{IsUnconfigured}
use Rattle.channel_actions.proofs.Gone.{all_numbered}
use Rattle.channel_actions.proofs.Idleness.Calls.{rounds_idle}
use Rattle.channel_actions.proofs.Stamps.{counted_at}
use Rattle.channel_actions.specs.Agrees.{Agrees}
use Rattle.channel_actions.specs.Quiescent.{IsAt}
use Rattle.channel_actions.specs.Cases.{IsIdle}
use Rattle.channel_actions.specs.Stages.{IsSettled}
use Rattle.channel_core.proofs.Resting.{IsQuietActionInvariant, close, gone_all, gone_one}
use Rattle.channel_core.specs.Settling.{prepared, settled}
use Rattle.channel_core.specs.States.{StateSeen}
use Rattle.channel_core.specs.Steps.{all_configured, all_unconfigured, unconfigured_served, clocked, limit_passed, limits_passed, net_settled}
use Rattle.channel_core.specs.Timing.{due_keys, later, number_of}
use Rattle.channel_net.specs.Steps as net
use Rattle.channel_net.specs.Steps.{NetLeft}
use Rattle.call_cases.proofs.ConfigActions.Unserved.{calls_unconfigured, none_of, unserved_end}
use Rattle.call_cases.specs.ConfigActions.Ends.{CallsWithoutAttemptsEnd}
use Rattle.call_cases.specs.ConfigActions.Laws.{IsUnserved, UnservedSettlings}
use Rattle.grpc_base.specs.declared.event.EndCause.TheVariants as ending
use Rattle.channel_actions.specs.KeptCalls.Early.{IsEarlyKept}
use Rattle.channel_actions.specs.KeptCalls.Laws.{UnconfiguredHaveNoAttempts, EarlyAlong}
use Rattle.net_actions.specs.Laws.{ClockChanges, ClockRests, NoneConnects, StatesAreSame, TakeOversAreSame, WishesConnect}
use Rattle.service_config.specs.declared.config.Config.{Config}
use Rattle.session_actions.specs.Attempts.{call_of, commitment, is_of, is_over, is_over_in}
use Rattle.session_actions.specs.Calls.{is_open_call}
use Rattle.session_actions.specs.Configs.{plan_of}
use Rattle.session_actions.specs.DueAttempts.{attempts_made, due_by, next_due}
use Rattle.session_actions.specs.Making.{due_action, due_if_past, next_due_attempt}
use Rattle.session_actions.specs.Policies.{asking, current_policy, is_queued_before, is_served, is_served_by, next_of_queue, policy_state}
use Rattle.session_actions.specs.Words.{foremost, holds, numbered}
use Rattle.session_actions.specs.declared.attempt.Attempt.{Attempt}
use Rattle.session_actions.specs.declared.call.Call.{Call}
use Rattle.session_actions.specs.declared.entry.OpenEntry.{OpenEntry}
use Rattle.session_actions.specs.declared.entry.Stage.TheVariants as stage
use Rattle.session_actions.specs.declared.policy.PolicyUse.{PolicyUse}
use Rattle.session_actions.specs.declared.seen.Seen.{Seen}
use Rattle.session_order.specs.Laws.{QuiescenceIsExact}
use Rattle.channel_actions.proofs.Links.Settings.Firsts.{none_numbered}
use Rattle.call_cases.proofs.SettlingActions.Composed.{closes_by, leads_on}
use Rattle.call_cases.specs.SettlingActions.Sound.{IsSound, SoundStays}
use Rattle.call_cases.specs.SettlingActions.Steps.{ClockSteps, IsClocked, IsDone, IsJoined, IsTended, Leads, NetSteps}

-- what config is held stays, whatever a settling does
abbrev HoldsSame : StateSeen → StateSeen → Type 0
HoldsSame s t = t.held ≡ s.held

holds_same : IsQuietActionInvariant HoldsSame
holds_same = record {
  joined = λ s t u a b. b ∙ a;
  beside = λ s t book held links shut. held;
  timed_out = λ n s. refl;
  closed = λ why n s by. refl;
  made = λ n s. refl;
  failed = λ row n s. refl;
  placed = λ row at n s e m. refl;
  taken = λ n s. refl;
  timers = λ due deadline n s. refl;
  forgotten = λ n s. refl;
  asked = λ a s e. refl;
  gone = λ link s. refl;
  added = λ kind s. refl;
  activated = λ n s. refl;
  retired = λ n s. refl;
}

limits_held : (links : List ℕ) (s : StateSeen) → (limits_passed links s).held ≡ s.held
limits_held [] s = refl
limits_held (link ∷ links) s = limits_held links (limit_passed link s) ∙ gone_one HoldsSame holds_same link _

clocked_held : (s : StateSeen) → (clocked s).held ≡ s.held
unfolding clocked
clocked_held s = limits_held (net.net_clocked s.book.moment s.net).gone (record s { net = (net.net_clocked s.book.moment s.net).net })

settled_held : (s : StateSeen) → (net_settled s).held ≡ s.held
unfolding net_settled
settled_held s = gone_all HoldsSame holds_same (net.net_settled s.net).gone _

ends_held : (calls : List ℕ) (s : StateSeen) → (all_unconfigured calls s).held ≡ s.held
ends_held [] s = refl
ends_held (key ∷ calls) s = ends_held calls _ ∙ close HoldsSame holds_same ending.NoConfig (number_of key) s refl

unconfigured_by : (s : StateSeen) (b : Bool) → (if b then all_unconfigured (due_keys 0 s.fail_fast) (record s { fail_fast = later 0 s.fail_fast }) else s).held ≡ s.held
unconfigured_by s true = ends_held (due_keys 0 s.fail_fast) (record s { fail_fast = later 0 s.fail_fast })
unconfigured_by s false = refl

unconfigured_held : (s : StateSeen) → s.held ≡ None → (unconfigured_served s).held ≡ None
unfolding unconfigured_served
unconfigured_held s none =
    ap (λ (c : Option Config). (if is_some c then all_configured (due_keys 0 s.awaiting_config) (record s { awaiting_config = later 0 s.awaiting_config; fail_fast = [] })
    else if s.unconfigured then all_unconfigured (due_keys 0 s.fail_fast) (record s { fail_fast = later 0 s.fail_fast })
    else s).held) none
    ∙ unconfigured_by s s.unconfigured ∙ none

-- no call has an attempt then, and none is due
same_number : (n : ℕ) → (n == n) ≡ true
same_number n = grind (arith, nat_tests)

not_served : (placed ended over by : Bool) → over ≡ true → (((placed && ended) && not over) && by) ≡ false
not_served true true true by e = refl
not_served true true false by e = absurd (cc)
not_served true false over by e = refl
not_served false ended over by e = refl

filter_at : {X : Type 0} (p : X → Bool) (xs : List X) → ((i : ℕ) (x : X) → slice_get xs i ≡ Some x → p x ≡ false) → filter p xs ≡ []
filter_at p [] none = refl
filter_at p (x ∷ xs) none =
    ap (λ (b : Bool). cond b (x ∷ filter p xs) (filter p xs)) (none zero x refl) ∙ filter_at p xs (λ i y e. none (suc i) y e)

numbers_same : (n m : ℕ) → n ≡ m → (n == m) ≡ true
numbers_same n m e = subst (λ (k : ℕ). (n == k) ≡ true) e (same_number n)

module _ (awaiting_configs : UnconfiguredHaveNoAttempts) (y : StateSeen) (t : Seen) (h : Agrees y t) (early : IsEarlyKept t) (unheld : y.held ≡ None) where
  unconfigured_at : (m : ℕ) (d : Call) → numbered t.calls m ≡ Some d → d.end ≡ None → IsUnconfigured t d
  unconfigured_at m d there going = awaiting_configs t m d h.kept early there going (none_of d.config (calls_unconfigured y t h unheld m d there))

  due_none : (d : Call) → IsUnconfigured t d → next_due d t ≡ None
  due_none d awaiting_config = ap (due_by (plan_of d t) (attempts_made d t)) (due_of_marks t d [] awaiting_config.marks)

  due_by_end : (m : ℕ) (d : Call) (b : Bool) → numbered t.calls m ≡ Some d → is_open_call d ≡ b → (if b then option_and_then (due_if_past d t) (next_due d t) else None) ≡ None
  due_by_end m d true there e = ap (option_and_then (due_if_past d t)) (due_none d (unconfigured_at m d there (none_of d.end e)))
  due_by_end m d false there e = refl

  pub none_due : next_due_attempt t ≡ None
  none_due = none_numbered (due_action t) t.calls (λ m d there. due_by_end m d (is_open_call d) there refl)

  -- an attempt is of a call that has ended
  ended_by : (n : ℕ) (a : Attempt) (c : Call) → numbered t.attempts n ≡ Some a → numbered t.calls a.row.call ≡ Some c → (end : Option CallEnd) → c.end ≡ end → is_over_in c a t ≡ true
  ended_by n a c there e None f =
      absurd (let mine : is_of c a ≡ true = numbers_same a.row.call c.number (sym (counted_at (λ (k : Call). k.number) t.calls a.row.call c h.kept.calls e)) in
      let bad : false ≡ true = sym (numbered_not (is_of c) t.attempts n a (unconfigured_at a.row.call c e f).none there) ∙ mine in (cc))
  ended_by n a c there e (Some z) f =
      ap (λ (q : Option CallEnd). is_some q || holds (λ (k : Attempt). not (k.row.number == a.row.number)) (commitment c t)) f

  over_by : (n : ℕ) (a : Attempt) → numbered t.attempts n ≡ Some a → (o : Option Call) → call_of a t ≡ o → is_some o ≡ true → is_over a t ≡ true
  over_by n a there None e some = absurd (cc)
  over_by n a there (Some c) e some = ap (holds (λ (k : Call). is_over_in k a t)) e ∙ ended_by n a c there e c.end refl

  unqueued : (n : ℕ) (a : Attempt) → numbered t.attempts n ≡ Some a → is_served t a ≡ false
  unqueued n a there =
      let over : is_over a t ≡ true = over_by n a there (call_of a t) refl (all_numbered (λ (q : Attempt). is_some (call_of q t)) t.attempts n a there h.kept.owned) in
      not_served (is_none a.row.placed) (is_none a.row.ended) (is_over a t) (holds (λ (g : PolicyUse). is_served_by (policy_state g t) a t) (current_policy t)) over

  pub none_queued : next_of_queue t ≡ None
  none_queued = ap (λ (l : List Attempt). option_and_then (asking t) (foremost is_queued_before l)) (filter_at (λ (a : Attempt). is_served t a && true) t.attempts (λ i a there. ap (λ (b : Bool). b && true) (unqueued (suc i) a there)))

-- put together
module _ (exact : QuiescenceIsExact) (clock_changes : ClockChanges) (rests : ClockRests) (overs : TakeOversAreSame) (wishes : WishesConnect) (nones : NoneConnects) (states : StatesAreSame)
    (along : EarlyAlong) (awaiting_configs : UnconfiguredHaveNoAttempts) (ends : CallsWithoutAttemptsEnd) (keeps_clock : SoundStays clocked) (keeps_net : SoundStays net_settled) (clocks : ClockSteps) (nets : NetSteps)
    (x : StateSeen) (o : OpenEntry) (s : Seen) (h : Agrees x s) (at : IsAt stage.Settling o s) (fresh : o.turn ≡ None) (case : IsUnserved x s) where
  one : Leads (clocked x) o s IsClocked
  one = clocks x o s h case.sound at (record { turn = fresh })

  one_sound : IsSound (clocked x) one.reaches.seen
  one_sound = keeps_clock x s one.reaches.seen one.reaches.actions h case.sound one.reaches.does one.reaches.agrees

  two : Leads (net_settled (clocked x)) one.reaches.entry one.reaches.seen IsJoined
  two = nets (clocked x) one.reaches.entry one.reaches.seen one.reaches.agrees one_sound one.reaches.at one.point

  two_sound : IsSound (net_settled (clocked x)) two.reaches.seen
  two_sound = keeps_net (clocked x) one.reaches.seen two.reaches.seen two.reaches.actions one.reaches.agrees one_sound two.reaches.does two.reaches.agrees

  two_unheld : (net_settled (clocked x)).held ≡ None
  two_unheld = settled_held (clocked x) ∙ clocked_held x ∙ case.unheld

  three : Leads (prepared x) two.reaches.entry two.reaches.seen IsTended
  three =
      unserved_end exact clock_changes rests overs wishes nones ends along awaiting_configs (net_settled (clocked x)) two.reaches.entry two.reaches.seen two.reaches.agrees two_sound two.reaches.at
      two.point two_unheld

  three_early : IsEarlyKept three.reaches.seen
  three_early = along three.reaches.actions two.reaches.seen three.reaches.seen two.reaches.agrees.kept two_sound.early three.reaches.does

  three_unheld : (prepared x).held ≡ None
  three_unheld = unconfigured_held (net_settled (clocked x)) two_unheld

  idle : IsIdle (prepared x) three.reaches.seen
  idle = record {
    clock = three.point.clock;
    take_over = three.point.take_over;
    connected = three.point.connected;
    configs = three.point.configs;
    due = none_due awaiting_configs (prepared x) three.reaches.seen three.reaches.agrees three_early three_unheld;
    queue = none_queued awaiting_configs (prepared x) three.reaches.seen three.reaches.agrees three_early three_unheld;
  }

  still : settled x ≡ prepared x
  still = rounds_idle (prepared x) three.reaches.seen three.reaches.agrees idle states

  done : Leads (prepared x) two.reaches.entry two.reaches.seen IsDone
  done = record { reaches = three.reaches; reply = three.reply; point = record { made = record { tended = three.point; due = idle.due }; queue = idle.queue } }

  further : Leads (prepared x) one.reaches.entry one.reaches.seen IsDone
  further = leads_on (net_settled (clocked x)) (prepared x) one.reaches.entry one.reaches.seen IsJoined IsDone two done

  whole : Leads (prepared x) o s IsDone
  whole = leads_on (clocked x) (prepared x) o s IsClocked IsDone one further

  last : Leads (settled x) o s IsDone
  last = subst (λ (z : StateSeen). Leads z o s IsDone) (sym still) whole

  pub unserved_settles : IsSettled x o s
  unserved_settles = record { reaches = last.reaches; reply = last.reply; closes = closes_by last.reaches.entry last.reaches.seen last.reaches.at last.point }

pub unserved_settlings : QuiescenceIsExact → ClockChanges → ClockRests → TakeOversAreSame → WishesConnect → NoneConnects → StatesAreSame → EarlyAlong → UnconfiguredHaveNoAttempts → UnservedSettlings
unserved_settlings exact changes rests overs wishes nones states along awaiting_configs ends keeps_clock keeps_net clocks nets x o s h at fresh case =
    unserved_settles exact changes rests overs wishes nones states along awaiting_configs ends keeps_clock keeps_net clocks nets x o s h at fresh case
