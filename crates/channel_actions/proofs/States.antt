-- The state of a channel that agrees with a session is the session's.
use Rattle.std.proofs.Common.{◌≡◌, ◌&&◌, ap, refl, sym, ◌∙◌, Bool, true, false, Option, None, Some, if◌then◌else◌, is_none, is_some}
use Rattle.std.specs.Option.{option_map, option_map_or}
use Rattle.channel_actions.specs.Agrees.{Agrees}
use Rattle.channel_core.specs.Applying.{conn_of, conn_without}
use Rattle.channel_core.specs.States.{StateSeen}
use Rattle.channel_net.specs.Steps.{net_state}
use Rattle.grpc_base.specs.declared.event.Conn.{Conn}
use Rattle.grpc_base.specs.declared.event.Conn.TheVariants as conn
use Rattle.net_actions.specs.Laws.{StatesAreSame}
use Rattle.service_config.specs.declared.config.Config.{Config}
use Rattle.session_actions.specs.Configs.{held_config, is_unconfigured}
use Rattle.session_actions.specs.Policies.{channel_state, current_policy, policy_state}
use Rattle.session_actions.specs.declared.config.HeldConfig.{HeldConfig}
use Rattle.session_actions.specs.declared.policy.PolicyUse.{PolicyUse}
use Rattle.session_actions.specs.declared.seen.Seen.{Seen}

module _ (x : StateSeen) (s : Seen) (h : Agrees x s) where
  -- no policy is current: then no config is held
  unheld : (o : Option Config) → x.held ≡ o → s.shut ≡ false → current_policy s ≡ None → (x.held ≡ None)
  unheld None e unshut none = e
  unheld (Some config) e unshut none =
      absurd (let bad : false ≡ true = sym (ap (λ (o : Option PolicyUse). is_some o) none) ∙ h.configs.policy (ap (λ (o : Option Config). is_some o) e) unshut in (cc))

  none_held : (o : Option HeldConfig) → held_config s ≡ o → x.held ≡ None → is_none (held_config s) ≡ true
  none_held None e none = ap (λ (o : Option HeldConfig). is_none o) e
  none_held (Some k) e none =
      absurd (let bad : Some k.config ≡ None = sym (ap (option_map (λ (z : HeldConfig). z.config)) e) ∙ h.configs.held ∙ none in (cc))

  and_yes : (a b : Bool) → b ≡ true → (a && b) ≡ a
  and_yes true b e = e
  and_yes false b e = refl

  pub unconfigured : x.held ≡ None → is_unconfigured s ≡ x.unconfigured
  unconfigured none = and_yes s.answered (is_none (held_config s)) (none_held (held_config s) refl none) ∙ h.configs.unconfigured none

  module _ (states : StatesAreSame) where
    by_policy : (o : Option PolicyUse) → current_policy s ≡ o → s.shut ≡ false
        → option_map_or (λ (g : PolicyUse). policy_state g s) (current_policy s) (if is_unconfigured s then conn.Failure else conn.Idle) ≡ conn_without x.unconfigured (net_state x.net)
    by_policy None e unshut =
        let held : x.held ≡ None = unheld x.held refl unshut e in
        let same : net_state x.net ≡ None = sym (states s x.net h.net) ∙ ap (option_map (λ (g : PolicyUse). policy_state g s)) e in
        ap (λ (o : Option PolicyUse). option_map_or (λ (g : PolicyUse). policy_state g s) o (if is_unconfigured s then conn.Failure else conn.Idle)) e
        ∙ ap (λ (b : Bool). if b then conn.Failure else conn.Idle) (unconfigured held) ∙ sym (ap (conn_without x.unconfigured) same)
    by_policy (Some g) e unshut =
        let same : net_state x.net ≡ Some (policy_state g s) = sym (states s x.net h.net) ∙ ap (option_map (λ (g : PolicyUse). policy_state g s)) e in
        ap (λ (o : Option PolicyUse). option_map_or (λ (g : PolicyUse). policy_state g s) o (if is_unconfigured s then conn.Failure else conn.Idle)) e
        ∙ sym (ap (conn_without x.unconfigured) same)

    by_shut : (b : Bool) → s.shut ≡ b → channel_state s ≡ conn_of x
    by_shut true e =
        ap (λ (b : Bool). if b then conn.Shutdown else option_map_or (λ (g : PolicyUse). policy_state g s) (current_policy s) (if is_unconfigured s then conn.Failure else conn.Idle)) e
        ∙ sym (ap (λ (b : Bool). if b then conn.Shutdown else conn_without x.unconfigured (net_state x.net)) (sym h.configs.shut ∙ e))
    by_shut false e =
        ap (λ (b : Bool). if b then conn.Shutdown else option_map_or (λ (g : PolicyUse). policy_state g s) (current_policy s) (if is_unconfigured s then conn.Failure else conn.Idle)) e
        ∙ by_policy (current_policy s) refl e
        ∙ sym (ap (λ (b : Bool). if b then conn.Shutdown else conn_without x.unconfigured (net_state x.net)) (sym h.configs.shut ∙ e))

    pub states_agree : channel_state s ≡ conn_of x
    states_agree = by_shut s.shut refl
