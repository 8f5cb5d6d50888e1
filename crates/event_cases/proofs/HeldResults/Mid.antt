-- Channel and session agree but that there may be no current policy though a config is held: so it is between a config that is read and the policy that begins
-- by it.
use Rattle.std.proofs.Common.{◌≡◌, None}
use Rattle.std.specs.Option.{option_map}
use Rattle.channel_actions.specs.Agrees.{Agrees}
use Rattle.channel_actions.specs.Calls.{SeesCalls}
use Rattle.channel_actions.specs.Clock.{SeesClock}
use Rattle.channel_actions.specs.Columns.{SeesColumns}
use Rattle.channel_actions.specs.Configs.{SeesBuckets}
use Rattle.channel_actions.specs.KeptSessions.Kept.{IsKept}
use Rattle.channel_actions.specs.Links.{SeesLinks}
use Rattle.channel_actions.specs.Sets.{SeesSets}
use Rattle.channel_core.specs.States.{StateSeen}
use Rattle.net_actions.specs.Runs.{IsOfCalls}
use Rattle.net_actions.specs.Sees.{Sees}
use Rattle.session_actions.specs.Configs.{held_config}
use Rattle.session_actions.specs.declared.config.HeldConfig.{HeldConfig}
use Rattle.session_actions.specs.declared.seen.Seen.{Seen}

pub record IsMid (x : StateSeen) (s : Seen) : Type 0 where
  pub clock : SeesClock x s
  pub columns : SeesColumns x.book.ledger s
  pub authority : s.setup.authority ≡ x.book.authority
  pub shut : s.shut ≡ x.shut
  pub held : option_map (λ (h : HeldConfig). h.config) (held_config s) ≡ x.held
  pub unconfigured : x.held ≡ None → s.answered ≡ x.unconfigured
  pub buckets : SeesBuckets x.book.buckets s
  pub calls : SeesCalls x s
  pub links : SeesLinks x s
  pub net : Sees s x.net
  pub orderly : IsOfCalls x.net
  pub sets : SeesSets x s
  pub kept : IsKept s

pub mid_of : (x : StateSeen) (s : Seen) → Agrees x s → IsMid x s
mid_of x s h = record {
  clock = h.clock;
  columns = h.columns;
  authority = h.configs.authority;
  shut = h.configs.shut;
  held = h.configs.held;
  unconfigured = h.configs.unconfigured;
  buckets = h.buckets;
  calls = h.calls;
  links = h.links;
  net = h.net;
  orderly = h.orderly;
  sets = h.sets;
  kept = h.kept;
}
