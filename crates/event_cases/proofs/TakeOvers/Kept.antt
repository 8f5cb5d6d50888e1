-- What actions of policies leave while they come and go: no dial is given up by them and no backoff ends; and a subchannel that becomes CONNECTING is no more shut
-- down than it was.
use Rattle.std.proofs.Common.{◌≡◌, ◌⊎◌, ◌++◌, ◌∷◌, inl, inr, ap, refl, subst, sym, ◌∙◌, Bool, true, false, List, [], None, Option, Some, ℕ, suc, zero, find, if◌then◌else◌, is_none, slice_get}
use Rattle.std.specs.List.{list_any}
use Rattle.std.specs.Option.{option_map, option_map_or, option_or}
use Rattle.std.specs.Prelude.{option_and_then, slice_set}
use Rattle.channel_core.specs.Steps.{is_shut_state}
use Rattle.channel_net.specs.Lists.{state_at}
use Rattle.channel_net.specs.Steps.{NetSeen, connect_round, connect_rounds, connected_at, first_wished}
use Rattle.grpc_base.specs.declared.address.Address.{Address}
use Rattle.grpc_base.specs.declared.event.Conn.TheVariants as conn
use Rattle.grpc_base.specs.declared.event.Conn.{Conn}
use Rattle.grpc_base.specs.declared.event.EndCause.TheVariants as ending
use Rattle.grpc_base.specs.declared.kind.Kind.{Kind}
use Rattle.net_actions.specs.Runs.{DoesAll}
use Rattle.session_actions.specs.Actions.{after_in, of_policies}
use Rattle.session_actions.specs.CallEnds.{ending_call, is_shut_down, next_ended}
use Rattle.session_actions.specs.Policies.{addresses_in, begin_if, given_addresses, is_same_kind, is_to_retire, listed, live_policies, live_sub, next_begun, next_given, next_retired, wanted_kind, wants_addresses, with_policy}
use Rattle.session_actions.specs.Subchannels.{clock_action, is_unlisted, new_sub, next_added, next_of_clock, next_shut, noted_by_policies, without_link}
use Rattle.session_actions.specs.Words.{changed, changed_if, first_of, numbered}
use Rattle.session_actions.specs.declared.action.Action.TheVariants as action
use Rattle.session_actions.specs.declared.action.Action.{Action}
use Rattle.session_actions.specs.declared.call.Call.{Call}
use Rattle.session_actions.specs.declared.entry.OpenEntry.{OpenEntry}
use Rattle.session_actions.specs.declared.policy.PolicyUse.{PolicyUse}
use Rattle.session_actions.specs.declared.seen.Seen.{Seen}
use Rattle.session_actions.specs.declared.subchannel.Subchannel.{Subchannel}
use Rattle.subchannel.specs.Boards as boards
use Rattle.subchannel.specs.Records.{SubRecord, is_idle, wished}

-- lists of which none gives anything
parts : (o p : Option Action) → option_or o p ≡ None → (o ≡ None) × (p ≡ None)
parts None p h = (refl, h)
parts (Some a) p h = absurd (cc)

none_both : (o p : Option Action) → o ≡ None → p ≡ None → option_or o p ≡ None
none_both o p e f = ap (λ (z : Option Action). option_or z p) e ∙ f

none_put : (g : Subchannel → Option Action) (xs : List Subchannel) (i : ℕ) (b : Subchannel) → first_of g xs ≡ None → g b ≡ None → first_of g (slice_set xs i b) ≡ None
none_put g [] i b none h = refl
none_put g (c ∷ xs) zero b none h = none_both (g b) (first_of g xs) h (parts (g c) (first_of g xs) none).1
none_put g (c ∷ xs) (suc i) b none h =
    let two = parts (g c) (first_of g xs) none in
    none_both (g c) (first_of g (slice_set xs i b)) two.0 (none_put g xs i b two.1 h)

none_changed_if : (g : Subchannel → Option Action) (f : Subchannel → Subchannel) → ((b : Subchannel) → g (f b) ≡ None) → (n : ℕ) (xs : List Subchannel) (o : Option Subchannel)
    → first_of g xs ≡ None → first_of g (changed_if f n xs o) ≡ None
none_changed_if g f never n xs None none = none
none_changed_if g f never n xs (Some b) none = none_put g xs _ (f b) none (never b)

none_more : (g : Subchannel → Option Action) (xs : List Subchannel) (b : Subchannel) → first_of g xs ≡ None → g b ≡ None → first_of g (xs ++ b ∷ []) ≡ None
none_more g [] b none h = none_both (g b) None h refl
none_more g (c ∷ xs) b none h =
    let two = parts (g c) (first_of g xs) none in
    none_both (g c) (first_of g (xs ++ b ∷ [])) two.0 (none_more g xs b two.1 h)

-- the clock of subchannels
module _ (o : OpenEntry) (s : Seen) (clock : next_of_clock s ≡ None) where
  abbrev AtRest : Action → Type 0
  AtRest a = next_of_clock (after_in o a s) ≡ None

  abbrev AllRest : Option Action → Type 0
  AllRest q = (a : Action) → q ≡ Some a → AtRest a

  either : (p q : Option Action) → AllRest p → AllRest q → AllRest (option_or p q)
  either None q f g = g
  either (Some b) q f g = f

  none : AllRest None
  none a e = absurd (cc)

  by_map : {X : Type 0} (f : X → Action) → ((x : X) → AtRest (f x)) → (q : Option X) → AllRest (option_map f q)
  by_map f each None a e = absurd (cc)
  by_map f each (Some x) a e = let one : f x ≡ a = (cc) in subst AtRest one (each x)

  given_by : (n : ℕ) (q : Option (List Address)) → next_of_clock (option_map_or (λ (l : List Address). with_policy (given_addresses l s) n s) q s) ≡ None
  given_by n None = clock
  given_by n (Some l) = clock

  shut_by : (subs : List Subchannel) (q : Option Subchannel) → first_of (clock_action s) subs ≡ None
      → next_of_clock (option_map_or (λ (b : Subchannel). noted_by_policies b (record s { subs = subs })) q (record s { subs = subs })) ≡ None
  shut_by subs None e = e
  shut_by subs (Some b) e = e

  shut_now : (b : Subchannel) → AtRest (action.SubchannelShut b.number)
  shut_now b =
      let subs : List Subchannel = changed (without_link conn.Shutdown) b.number s.subs in
      shut_by subs (numbered subs b.number)
      (none_changed_if (clock_action s) (without_link conn.Shutdown) (λ c. refl) b.number s.subs (numbered s.subs b.number) clock)

  begin_by : (k : Kind) (b : Bool) → AllRest (if b then None else Some (action.PolicyBegins k))
  begin_by k true a e = absurd (cc)
  begin_by k false a e = let one : action.PolicyBegins k ≡ a = (cc) in subst AtRest one clock

  begun_by : (q : Option Kind) → AllRest (option_and_then (begin_if s) q)
  begun_by None a e = absurd (cc)
  begun_by (Some k) a e = begin_by k (list_any (λ (g : PolicyUse). is_same_kind g.generation.kind k) (live_policies s)) a e

  pub lines_rest : AllRest (of_policies o s)
  lines_rest =
      either (next_ended ending.Shut (is_shut_down s) s) _ (by_map (ending_call ending.Shut) (λ c. clock) (find (is_shut_down s) s.calls))
      (either (next_retired o s) _ (by_map (λ (g : PolicyUse). action.PolicyRetired g.number) (λ g. clock) (find (is_to_retire o s) s.policies))
      (either (next_begun o s) _ (begun_by (wanted_kind o s))
      (either (next_given o s) _
      (by_map (λ (g : PolicyUse). action.AddressesGiven g.number) (λ g. given_by g.number (addresses_in o.event)) (find (wants_addresses o s) s.policies))
      (either (next_shut s) _ (by_map (λ (b : Subchannel). action.SubchannelShut b.number) shut_now (find (is_unlisted s) s.subs))
      (either (next_added s) None
      (by_map (λ (a : Address). action.SubchannelAdded a) (λ a. none_more (clock_action s) s.subs _ clock refl) (find (λ (a : Address). is_none (live_sub s a)) (listed s))) none)))))

pub clock_along : (actions : List Action) (o : OpenEntry) (s t : Seen) → next_of_clock s ≡ None → DoesAll actions o s t → next_of_clock t ≡ None
clock_along [] o s t clock d = ap next_of_clock d.1 ∙ clock
clock_along (a ∷ actions) o s t clock d = clock_along actions o (after_in o a s) t (lines_rest o s clock a d.0) d.1

-- one that is wished
shut_wished_by : (r : SubRecord) (b : Bool) → is_idle r.state ≡ b → is_shut_state (Some (if b then record r { state = conn.Connecting } else r).state) ≡ is_shut_state (Some r.state)
shut_wished_by r true e = by r.state e
  where
    by : (c : Conn) → is_idle c ≡ true → is_shut_state (Some conn.Connecting) ≡ is_shut_state (Some c)
    by conn.Idle e = refl
    by conn.Connecting e = refl
    by conn.Ready e = refl
    by conn.Failure e = refl
    by conn.Shutdown e = absurd (cc)
shut_wished_by r false e = refl

shut_wished : (r : SubRecord) → is_shut_state (Some (wished r).state) ≡ is_shut_state (Some r.state)
shut_wished r = shut_wished_by r (is_idle r.state) refl

abbrev shut_of : Option SubRecord → Bool
shut_of o = is_shut_state (option_map (λ (r : SubRecord). r.state) o)

shut_changed : (board : List SubRecord) (i j : ℕ) → shut_of (slice_get (boards.changed wished board i) j) ≡ shut_of (slice_get board j)
shut_changed [] i j = refl
shut_changed (r ∷ board) zero zero = shut_wished r
shut_changed (r ∷ board) zero (suc j) = refl
shut_changed (r ∷ board) (suc i) zero = refl
shut_changed (r ∷ board) (suc i) (suc j) = shut_changed board i j

shut_at : (board : List SubRecord) (sub k : ℕ) → is_shut_state (state_at (boards.changed_at wished board sub) k) ≡ is_shut_state (state_at board k)
shut_at board zero k = refl
shut_at board (suc i) zero = refl
shut_at board (suc i) (suc j) = shut_changed board i j

shut_round : (n : NetSeen) (o : Option ℕ) (k : ℕ) → is_shut_state (state_at (connected_at o n).board k) ≡ is_shut_state (state_at n.board k)
shut_round n None k = refl
shut_round n (Some sub) k = shut_at n.board sub k

pub shut_rounds : (count : ℕ) (n : NetSeen) (k : ℕ) → is_shut_state (state_at (connect_rounds count n).board k) ≡ is_shut_state (state_at n.board k)
shut_rounds zero n k = refl
shut_rounds (suc count) n k = shut_rounds count (connect_round n) k ∙ shut_round n (first_wished n) k
