-- Where a config is held, and no message that was accepted is too long for it, each call without a config gets it.
use Rattle.std.proofs.Common.{◌≡◌, ◌≤◌, ◌&&◌, ◌||◌, ◌==◌, ◌∷◌, ap, arith, refl, sym, ◌∙◌, Bool, true, false, List, [], Option, None, Some, ℕ, if◌then◌else◌, is_none, is_some, length, max, not}
use Rattle.std.proofs.lemmas.Bool.{and_parts, both_ways}
use Rattle.std.proofs.lemmas.Bool.Decides.{nat_tests}
use Rattle.std.specs.List.{list_any}
use Rattle.std.specs.Option.{option_map}
use Rattle.std.specs.Prelude.{fold, nat_lt}
use Rattle.std.specs.Set.{remove_key}
use Rattle.call_actions.specs.Laws.{IsUnconfigured}
use Rattle.channel_actions.proofs.Stamps.{counted_at}
use Rattle.channel_actions.specs.Agrees.{Agrees}
use Rattle.channel_actions.specs.Quiescent.{IsAt}
use Rattle.channel_actions.specs.Sets.{PairsAreExactly, is_awaiting_config}
use Rattle.channel_core.specs.States.{StateSeen}
use Rattle.channel_core.specs.Steps.{configured_call}
use Rattle.call_cases.proofs.ConfigActions.Unserved.{none_of}
use Rattle.grpc_base.specs.declared.event.EndCause.TheVariants as ending
use Rattle.channel_actions.specs.KeptCalls.Early.{IsEarlyKept}
use Rattle.channel_actions.specs.KeptCalls.Laws.{UnconfiguredHaveNoAttempts}
use Rattle.picker_gate.specs.Pairs.{has, is_same}
use Rattle.service_config.specs.declared.config.Config.{Config}
use Rattle.session_actions.specs.Actions.{config_action}
use Rattle.session_actions.specs.CallEnds.{lacks_config}
use Rattle.session_actions.specs.Calls.{is_open_call}
use Rattle.session_actions.specs.Configs.{held_config, waits_for_ready}
use Rattle.session_actions.specs.Entries.{entry}
use Rattle.session_actions.specs.Words.{holds, numbered}
use Rattle.session_actions.specs.declared.action.Action.TheVariants as action
use Rattle.session_actions.specs.declared.call.Call.{Call}
use Rattle.session_actions.specs.declared.config.HeldConfig.{HeldConfig}
use Rattle.session_actions.specs.declared.entry.OpenEntry.{OpenEntry}
use Rattle.session_actions.specs.declared.entry.Stage.TheVariants as stage
use Rattle.session_actions.specs.declared.seen.Seen.{Seen}
use Rattle.channel_actions.proofs.Links.Settings.Keys.{head_passes}
use Rattle.call_cases.specs.SettlingActions.Steps.{IsJoined, Leads}

-- no message is longer than the longest
below_left : (r a b : ℕ) → nat_lt r (max a b) ≡ false → nat_lt r a ≡ false
below_left r a b e = grind (arith, nat_tests)

below_right : (r a b : ℕ) → nat_lt r (max a b) ≡ false → nat_lt r b ≡ false
below_right r a b e = grind (arith, nat_tests)

pub short_from : (r : ℕ) (ms : List (List ℕ)) (k : ℕ) → nat_lt r (fold (λ (n : ℕ) (m : List ℕ). max n (length m)) k ms) ≡ false
    → (nat_lt r k ≡ false) × (list_any (λ (m : List ℕ). nat_lt r (length m)) ms ≡ false)
short_from r [] k e = (e, refl)
short_from r (m ∷ ms) k e =
    let rest = short_from r ms (max k (length m)) e in
    (below_left r k (length m) rest.0, ap (λ (b : Bool). b || list_any (λ (m : List ℕ). nat_lt r (length m)) ms) (below_right r k (length m) rest.0) ∙ rest.1)

not_more : (r a b : ℕ) → nat_lt r a ≡ false → nat_lt r b ≡ false → nat_lt r (max a b) ≡ false
not_more r a b e f = grind (arith, nat_tests)

long_by : (r : ℕ) (ms : List (List ℕ)) (b : Bool) → (b ≡ false → list_any (λ (m : List ℕ). nat_lt r (length m)) ms ≡ true) → (b || list_any (λ (m : List ℕ). nat_lt r (length m)) ms) ≡ true
long_by r ms true more = refl
long_by r ms false more = more refl

pub long_from : (r : ℕ) (ms : List (List ℕ)) (k : ℕ) → nat_lt r (fold (λ (n : ℕ) (m : List ℕ). max n (length m)) k ms) ≡ true → nat_lt r k ≡ false
    → list_any (λ (m : List ℕ). nat_lt r (length m)) ms ≡ true
long_from r [] k e f = absurd (both_ways (nat_lt r k) f e)
long_from r (m ∷ ms) k e f = long_by r ms (nat_lt r (length m)) (λ g. long_from r ms (max k (length m)) e (not_more r k (length m) f g))

pub none_below : (r : ℕ) → nat_lt r 0 ≡ false
none_below r = grind (arith, nat_tests)

configures_by : (a b c : Bool) → (a && b) ≡ true → c ≡ true → (a && b && c) ≡ true
configures_by true true true e f = refl
configures_by true true false e f = absurd (cc)
configures_by true false c e f = absurd (cc)
configures_by false b c e f = absurd (cc)

configures_not : (a b c : Bool) → (a && b) ≡ false → (a && b && c) ≡ false
configures_not true true c e = absurd (cc)
configures_not true false c e = refl
configures_not false b c e = refl

lacks_none : (a b c d : Bool) → b ≡ false → (a && (c && b) && d) ≡ false
lacks_none true b true d e = ap (λ (x : Bool). x && d) e
lacks_none true b false d e = refl
lacks_none false b c d e = refl

pub quiet_request : (a b c : Bool) → b ≡ false → c ≡ false → (a && (b || c)) ≡ false
quiet_request true b c e f = ap (λ (x : Bool). x || c) e ∙ f
quiet_request false b c e f = refl

pub empty_by : (pairs : List (ℕ × ℕ)) (test : ℕ → ℕ → Bool) → PairsAreExactly pairs test → ((a b : ℕ) → test a b ≡ true → ⊥) → pairs ≡ []
empty_by [] test exact never = refl
empty_by (p ∷ pairs) test exact never = absurd (never p.0 p.1 (head_passes p pairs test exact))

-- where the loop stands: these are left
pub record Gets (config : Config) (pairs others : List (ℕ × ℕ)) (z : StateSeen) (o : OpenEntry) (s : Seen) : Type 0 where
  pub agrees : Agrees (record z { awaiting_config = pairs; fail_fast = others }) s
  pub no_unconfigured : z.awaiting_config ≡ []
  pub no_others : z.fail_fast ≡ []
  pub at : IsAt stage.Settling o s
  pub joined : IsJoined o s
  pub held : z.held ≡ Some config
  pub early : IsEarlyKept s
  pub few : (n : ℕ) → has pairs (0, n) ≡ true → n ≤ 4294967295

-- the first of them was served, and these are left
pub record OneServed (config : Config) (n : ℕ) (rest others : List (ℕ × ℕ)) (z : StateSeen) (o : OpenEntry) (s : Seen) : Type 0 where
  pub leads : Leads (record (configured_call n z) { awaiting_config = rest; fail_fast = remove_key (is_same (0, n)) others }) o s (λ p u. Unit {0})
  pub gets : Gets config rest (remove_key (is_same (0, n)) others) (configured_call n z) leads.reaches.entry leads.reaches.seen

-- a session that agrees with a channel that holds a config holds it too
pub record HasConfig (config : Config) (s : Seen) : Type 0 where
  pub held : HeldConfig
  pub is : held_config s ≡ Some held
  pub same : held.config ≡ config

module _ (y : StateSeen) (s : Seen) (h : Agrees y s) (config : Config) (held : y.held ≡ Some config) where
  config_by : (o : Option HeldConfig) → held_config s ≡ o → HasConfig config s
  config_by None e = absurd (let bad : None ≡ Some config = sym (ap (option_map (λ (z : HeldConfig). z.config)) e) ∙ h.configs.held ∙ held in (cc))
  config_by (Some k) e =
      let both : Some k.config ≡ Some config = sym (ap (option_map (λ (z : HeldConfig). z.config)) e) ∙ h.configs.held ∙ held in
      record { held = k; is = e; same = (let one : k.config ≡ config = (cc) in one) }

  pub has_config : HasConfig config s
  has_config = config_by (held_config s) refl

  module _ (m : ℕ) (d : Call) (there : numbered s.calls m ≡ Some d) where
    unconfigured_is : is_awaiting_config s 0 m ≡ (is_open_call d && is_none d.config)
    unconfigured_is = ap (λ (q : Option Call). (0 == 0) && holds (λ (k : Call). is_open_call k && is_none k.config) q) there

    pub gives_config : is_awaiting_config s 0 m ≡ true → config_action s d ≡ Some (action.CallConfigured m (length s.configs))
    gives_config in_set =
        ap (λ (b : Bool). if b then Some (action.CallConfigured d.number (length s.configs)) else if lacks_config s d then Some (action.CallEnds d.number ending.NoConfig) else None)
        (configures_by (is_none d.end) (is_none d.config) (is_some (held_config s)) (sym unconfigured_is ∙ in_set) (ap (λ (q : Option HeldConfig). is_some q) has_config.is))
        ∙ ap (λ (n : ℕ). Some (action.CallConfigured n (length s.configs))) (counted_at (λ (c : Call). c.number) s.calls m d h.kept.calls there)

    pub gives_nothing : is_awaiting_config s 0 m ≡ false → config_action s d ≡ None
    gives_nothing out =
        ap (λ (b : Bool). if b then Some (action.CallConfigured d.number (length s.configs)) else if lacks_config s d then Some (action.CallEnds d.number ending.NoConfig) else None)
        (configures_not (is_none d.end) (is_none d.config) (is_some (held_config s)) (sym unconfigured_is ∙ out))
        ∙ ap (λ (b : Bool). if b then Some (action.CallEnds d.number ending.NoConfig) else None)
        (lacks_none (is_open_call d) (is_none (held_config s)) s.answered (not (waits_for_ready d s)) (ap (λ (q : Option HeldConfig). is_none q) has_config.is))

    pub is_unconfigured_call : UnconfiguredHaveNoAttempts → IsEarlyKept s → is_awaiting_config s 0 m ≡ true → IsUnconfigured s d
    is_unconfigured_call awaiting_configs early in_set =
        let both = and_parts (is_open_call d) (is_none d.config) (sym unconfigured_is ∙ in_set) in
        awaiting_configs s m d h.kept early there (none_of d.end both.0) (none_of d.config both.1)

pub unconfigured_there : (s : Seen) (m : ℕ) (q : Option Call) → numbered s.calls m ≡ q → is_awaiting_config s 0 m ≡ true → (d : Call) × (numbered s.calls m ≡ Some d)
unconfigured_there s m None e in_set =
    absurd (let bad : false ≡ true = sym (ap (λ (q : Option Call). (0 == 0) && holds (λ (k : Call). is_open_call k && is_none k.config) q) e) ∙ in_set in (cc))
unconfigured_there s m (Some d) e in_set = (d, e)

pub unconfigured_first : (s : Seen) (a b : ℕ) → is_awaiting_config s a b ≡ true → (a == 0) ≡ true
unconfigured_first s a b e = (and_parts (a == 0) _ e).0
