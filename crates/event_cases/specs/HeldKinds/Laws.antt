-- Each config that was held is of a kind that the channel was made with (gRPC, "Service Config in gRPC": loadBalancingConfig), and has a run of throttle settings
-- exactly where it has such settings. So it is in every session.
-- Example: a channel was made with pick_first and round_robin. A result whose config names a policy that it does not know, and then round_robin, is of round_robin.
use Rattle.std.specs.Prelude.{List, Some, true, ℕ, ◌≡◌}
use Rattle.channel_actions.specs.TransparentRetries.Laws.{PlansAreShort}
use Rattle.event_cases.specs.ConfigReads.Throttled.{BucketsFollowConfigs}
use Rattle.grpc_base.specs.Kinds.{has_kind}
use Rattle.grpc_base.specs.declared.kind.Kind.TheVariants as kind
use Rattle.session_actions.specs.Configs.{kinds_in}
use Rattle.session_actions.specs.Sessions.{Does, new_session}
use Rattle.session_actions.specs.Words.{numbered}
use Rattle.session_actions.specs.declared.action.Action.{Action}
use Rattle.session_actions.specs.declared.config.HeldConfig.{HeldConfig}
use Rattle.session_actions.specs.declared.seen.Seen.{Seen}
use Rattle.session_actions.specs.declared.seen.Setup.{Setup}

abbrev pub KindsAreThere : Seen → Type 0
KindsAreThere s = (k : ℕ) (h : HeldConfig) → numbered s.configs k ≡ Some h → has_kind (kinds_in s.setup.policies) h.config.kind ≡ true

abbrev pub HeldKindsAreThere : Type 0
HeldKindsAreThere =
    (setup : Setup) (actions : List Action) (s : Seen) → has_kind (kinds_in setup.policies) kind.PickFirst ≡ true → Does actions (new_session setup) s → KindsAreThere s

abbrev pub ConfigsAreThrottled : Type 0
ConfigsAreThrottled = (setup : Setup) (actions : List Action) (s : Seen) → Does actions (new_session setup) s → BucketsFollowConfigs s

-- a plan allows 5 attempts at most (gRFC A6, "Maximum Number of Retries")
abbrev pub HeldPlansAreShort : Type 0
HeldPlansAreShort = (setup : Setup) (actions : List Action) (s : Seen) → Does actions (new_session setup) s → PlansAreShort s
