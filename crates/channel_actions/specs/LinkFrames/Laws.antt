-- The frame of links: what is done elsewhere leaves a link of the channel and that of the session in agreement, with its streams, its readers and the lines
-- that it is fed with.
-- Example: a call with attempts on the links 1 and 2 is cancelled. The slots of link 3 are the same, and link 3 agrees with the session as before: whoever shows
-- that the links 1 and 2 agree again has all of `SeesLinks`.
-- The laws, in the order of this file:
-- 1. Links that are not touched agree as before.
-- 2. What makes no difference joins; and an action makes no difference to the links on which it does not bear; nor does a list of actions.
use Rattle.std.specs.Prelude.{List, Some, [], false, length, true, ℕ, ◌∷◌, ◌≡◌}
use Rattle.channel_actions.specs.Links.{HasLink, SeesLinks}
use Rattle.channel_core.specs.States.{StateSeen}
use Rattle.channel_actions.specs.KeptSessions.Kept.{IsKept}
use Rattle.channel_actions.specs.LinkFrames.Alike.{SeesNoDifference, Numbers}
use Rattle.channel_actions.specs.LinkFrames.Bears.{ActionsAreOrderly, IsOrderly, bear_on, bears_on}
use Rattle.session_actions.specs.Actions.{after}
use Rattle.session_actions.specs.Sessions.{Does}
use Rattle.session_actions.specs.Words.{numbered}
use Rattle.session_actions.specs.declared.action.Action.{Action}
use Rattle.session_actions.specs.declared.link.Link.{Link}
use Rattle.session_actions.specs.declared.seen.Seen.{Seen}

-- the slots of all links but these are the same
abbrev pub SlotsStay : Numbers → StateSeen → StateSeen → Type 0
SlotsStay touched x y = (link : ℕ) → touched link ≡ false → numbered y.links link ≡ numbered x.links link

-- the others agree as before, whatever else the channel did
abbrev pub OthersAgree : Type 0
OthersAgree =
    (touched : Numbers) (x y : StateSeen) (s t : Seen) (link : ℕ) (l : Link) → SeesLinks x s → IsKept s → IsKept t → SlotsStay touched x y → SeesNoDifference touched s t
    → touched link ≡ false → numbered t.links link ≡ Some l → HasLink y t l link

-- so all links agree again, where those that are touched do
abbrev pub LinksStay : Type 0
LinksStay =
    (touched : Numbers) (x y : StateSeen) (s t : Seen) → SeesLinks x s → IsKept s → IsKept t → SlotsStay touched x y → SeesNoDifference touched s t
    → length t.links ≡ length y.links → ((link : ℕ) (l : Link) → touched link ≡ true → numbered t.links link ≡ Some l → HasLink y t l link) → SeesLinks y t

-- nothing happened; one thing after another
abbrev pub NothingMakesADifference : Type 0
NothingMakesADifference = (touched : Numbers) (s : Seen) → SeesNoDifference touched s s

abbrev pub DifferencesJoin : Type 0
DifferencesJoin = (touched : Numbers) (s t u : Seen) → SeesNoDifference touched s t → SeesNoDifference touched t u → SeesNoDifference touched s u

-- what makes no difference to more links than these
abbrev pub FewerSeeNone : Type 0
FewerSeeNone = (touched more : Numbers) (s t : Seen) → ((link : ℕ) → more link ≡ false → touched link ≡ false) → SeesNoDifference touched s t → SeesNoDifference more s t

-- an action makes no difference to the links on which it does not bear
abbrev pub ActionsMakeNoDifference : Type 0
ActionsMakeNoDifference = (a : Action) (s : Seen) → IsKept s → IsOrderly a s → SeesNoDifference (bears_on a s) s (after a s)

-- nor can a list of actions, through which the session is kept in order
abbrev pub SessionsAreKept : List Action → Seen → Type 0
SessionsAreKept [] s = IsKept s
SessionsAreKept (a ∷ actions) s = IsKept s × SessionsAreKept actions (after a s)

abbrev pub ListsMakeNoDifference : Type 0
ListsMakeNoDifference =
    (actions : List Action) (s t : Seen) → SessionsAreKept actions s → ActionsAreOrderly actions s → Does actions s t → SeesNoDifference (bear_on actions s) s t
