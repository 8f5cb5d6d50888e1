-- A step of the net: the channel changes its net, links, draws and the stamps of policies and links, and nothing else; the session does actions of
-- subchannels and policies; and of these both have the same after it.
-- Example: subchannel 1 was in TRANSIENT_FAILURE until 5 s, and it is 6 s. The net makes it IDLE; the session does BackoffEnds.
use Rattle.std.specs.Prelude.{List, is_some, false, map, true, ℕ, Bool, ◌≡◌}
use Rattle.attempt_ledger.specs.declared.ledger.Generation.{Generation}
use Rattle.attempt_ledger.specs.declared.ledger.LinkSeen.{LinkSeen}
use Rattle.channel_actions.specs.Clock.{SeesClock}
use Rattle.channel_actions.specs.Columns.{links_noted}
use Rattle.channel_actions.specs.Links.{SeesLinks}
use Rattle.channel_core.specs.States.{StateSeen}
use Rattle.channel_core.specs.declared.state.links.LinkSlot.{LinkSlot}
use Rattle.channel_net.specs.Steps.{NetSeen}
use Rattle.net_actions.specs.Runs.{IsOfCalls}
use Rattle.net_actions.specs.Sees.{Sees}
use Rattle.channel_actions.specs.BoardActions.Boards.{ActionsAreOfBoard}
use Rattle.session_actions.specs.Policies.{current_policy}
use Rattle.session_actions.specs.Sessions.{Does}
use Rattle.session_actions.specs.declared.action.Action.{Action}
use Rattle.session_actions.specs.declared.seen.Seen.{Seen}

-- the channel with another net, and what goes with it
abbrev pub netted : NetSeen → ℕ → Bool → List LinkSlot → List Generation → List LinkSeen → StateSeen → StateSeen
netted n drawn resolver slots generations links x = record x {
  drawn = drawn;
  resolver = resolver;
  net = n;
  links = slots;
  book = record x.book { ledger = record x.book.ledger { generations = generations; links = links } };
}

pub record IsNetStep (x y : StateSeen) (s t : Seen) : Type 0 where
  pub channel : y ≡ netted y.net y.drawn y.resolver y.links y.book.ledger.generations y.book.ledger.links x
  pub actions : List Action
  pub does : Does actions s t
  pub board : ActionsAreOfBoard actions
  -- what both have after it
  pub clock : SeesClock y t
  pub generations : map (λ g. g.generation) t.policies ≡ y.book.ledger.generations
  pub noted : links_noted t ≡ y.book.ledger.links
  -- a channel with a config has a current policy still
  pub policy : is_some x.held ≡ true → s.shut ≡ false → is_some (current_policy t) ≡ true
  pub links : SeesLinks y t
  pub net : Sees t y.net
  pub orderly : IsOfCalls y.net
