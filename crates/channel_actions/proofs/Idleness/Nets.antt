-- Where nothing is due of subchannels and policies, the net stays as it is.
use Rattle.std.proofs.Common.{◌≡◌, ◌⊎◌, inl, inr, ap, refl, sym, ◌∙◌, Bool, true, false, List, [], Option, None, Some, ℕ, zero, suc, if◌then◌else◌}
use Rattle.std.specs.Option.{option_map}
use Rattle.attempt_ledger.specs.declared.ledger.Generation.{Generation}
use Rattle.channel_actions.specs.Agrees.{Agrees}
use Rattle.channel_actions.specs.Cases.{IsIdle}
use Rattle.channel_core.specs.States.{StateSeen}
use Rattle.channel_core.specs.Steps as channel
use Rattle.channel_core.specs.Steps.{clocked, clocked_to, links_left, with_generations}
use Rattle.channel_net.specs.Stamps.{activated_live, retired_live}
use Rattle.channel_net.specs.Steps as net
use Rattle.channel_net.specs.Steps.{NetLeft, NetSeen, clock_round, clock_rounds, clocked_at, clocks_left, connect_rounds, connected_at, first_wished, idle_count, left_of, net_clocked, settle_round, taken_over_stamps}
use Rattle.net_actions.specs.Laws.{ClockChanges, TakeOversAreSame, WishesConnect, TimesOut, EndsBackoff}
use Rattle.policy_rack.specs.Steps.{live_of, may_follow, may_take_over, state_in}
use Rattle.policy_rack.specs.declared.live.Live.{Live}
use Rattle.session_actions.specs.Entries.{now}
use Rattle.session_actions.specs.Policies.{next_take_over}
use Rattle.session_actions.specs.Subchannels.{next_connected, next_of_clock}
use Rattle.session_actions.specs.declared.action.Action.TheVariants as action
use Rattle.session_actions.specs.declared.seen.Seen.{Seen}
use Rattle.subchannel.specs.Boards.{first_number}
use Rattle.subchannel.specs.Records.{is_due}

-- rounds that find nothing
no_clock : (moment : ℕ) (k : ℕ) (l : NetLeft) → first_number (is_due moment) l.net.board ≡ None → clock_rounds moment k l ≡ l
no_clock moment zero l e = refl
no_clock moment (suc k) l e = ap (λ (z : Option ℕ). clock_rounds moment k (clocked_at moment z l)) e ∙ no_clock moment k l e

no_connect : (k : ℕ) (n : NetSeen) → first_wished n ≡ None → connect_rounds k n ≡ n
no_connect zero n e = refl
no_connect (suc k) n e = ap (λ (z : Option ℕ). connect_rounds k (connected_at z n)) e ∙ no_connect k n e

some_not_none : {X : Type 0} (o : Option X) (x : X) → o ≡ Some x → o ≡ None → ⊥
some_not_none o x e f = absurd (cc)

module _ (clocks : ClockChanges) (overs : TakeOversAreSame) (wishes : WishesConnect) (x : StateSeen) (s : Seen) (h : Agrees x s) (idle : IsIdle x s) where
  no_time : (sub : ℕ) → TimesOut sub s x.net ⊎ EndsBackoff sub s x.net → ⊥
  no_time sub (inl out) = some_not_none (next_of_clock s) (action.ConnectTimesOut sub) out.0 idle.clock
  no_time sub (inr ends) = some_not_none (next_of_clock s) (action.BackoffEnds sub) ends.0 idle.clock

  none_due_by : (o : Option ℕ) → first_number (is_due (now s)) x.net.board ≡ o → o ≡ None
  none_due_by None e = refl
  none_due_by (Some sub) e = absurd (no_time sub (clocks sub s x.net h.net e))

  none_due : first_number (is_due x.book.moment) x.net.board ≡ None
  none_due =
      ap (λ (m : ℕ). first_number (is_due m) x.net.board) (sym h.clock.moment)
      ∙ none_due_by (first_number (is_due (now s)) x.net.board) refl

  pub clocked_idle : clocked x ≡ x
  unfolding clocked
  clocked_idle = ap (λ (l : NetLeft). clocked_to l x) (no_clock x.book.moment (clocks_left x.net.board) (left_of x.net) none_due)

  -- no policy takes over
  none_by : (p : Option Live) → x.net.asker.rack.pending ≡ p → may_take_over x.net.asker.rack ≡ true → true ≡ false
  none_by None e may = sym may ∙ ap (λ (z : Option Live). may_follow (state_in x.net.asker.rack x.net.asker.rack.current) (state_in x.net.asker.rack z)) e
  none_by (Some live) e may =
      absurd (some_not_none (next_take_over s) (action.PolicyTakesOver live.generation)
      (overs s x.net h.net
      ∙ ap (λ (b : Bool). if b then option_map (λ (l : Live). action.PolicyTakesOver l.generation) x.net.asker.rack.pending else None) may
      ∙ ap (option_map (λ (l : Live). action.PolicyTakesOver l.generation)) e) idle.take_over)

  may_by : (b : Bool) → may_take_over x.net.asker.rack ≡ b → b ≡ false
  may_by false e = refl
  may_by true e = none_by x.net.asker.rack.pending refl e

  may_not : may_take_over x.net.asker.rack ≡ false
  may_not = may_by (may_take_over x.net.asker.rack) refl

  -- none is to connect
  none_wished_by : (o : Option ℕ) → first_wished x.net ≡ o → o ≡ None
  none_wished_by None e = refl
  none_wished_by (Some sub) e = absurd (some_not_none (next_connected s) (action.SubchannelConnects sub) (wishes sub s x.net h.net e).0 idle.connected)

  none_wished : first_wished x.net ≡ None
  none_wished = none_wished_by (first_wished x.net) refl

  over_not : net.net_taken_over (left_of x.net) ≡ left_of x.net
  over_not = ap (λ (b : Bool). if b then record { net = net.net_kept (net.moved_over x.net); gone = net.kept_shut (net.moved_over x.net) } else left_of x.net) may_not

  round_not : settle_round (left_of x.net) ≡ left_of x.net
  round_not =
      ap (λ (l : NetLeft). record { net = net.net_connected l.net; gone = l.gone }) over_not
      ∙ ap (λ (n : NetSeen). record { net = n; gone = [] }) (no_connect (idle_count x.net.board) x.net none_wished)

  settled_not : net.net_settled x.net ≡ left_of x.net
  settled_not =
      ap net.settled_further round_not ∙ ap (λ (b : Bool). if b then settle_round (left_of x.net) else left_of x.net) may_not

  stamps_not : (generations : List Generation) → taken_over_stamps x.book.ledger.entry x.net generations ≡ generations
  stamps_not generations =
      ap (λ (b : Bool). if b then activated_live x.book.ledger.entry (live_of x.net.asker.rack.policies x.net.asker.rack.pending)
      (retired_live x.book.ledger.entry (live_of x.net.asker.rack.policies x.net.asker.rack.current) generations) else generations) may_not

  all_stamps_not : net.settled_stamps x.book.ledger.entry x.net x.book.ledger.generations ≡ x.book.ledger.generations
  all_stamps_not =
      ap (λ (l : NetLeft). taken_over_stamps x.book.ledger.entry l.net (taken_over_stamps x.book.ledger.entry x.net x.book.ledger.generations)) round_not
      ∙ ap (taken_over_stamps x.book.ledger.entry x.net) (stamps_not x.book.ledger.generations) ∙ stamps_not x.book.ledger.generations

  pub net_settled_idle : channel.net_settled x ≡ x
  unfolding channel.net_settled
  net_settled_idle =
      ap (λ (l : NetLeft). links_left l (with_generations (net.settled_stamps x.book.ledger.entry x.net x.book.ledger.generations) x)) settled_not
      ∙ ap (λ (g : List Generation). links_left (left_of x.net) (with_generations g x)) all_stamps_not
