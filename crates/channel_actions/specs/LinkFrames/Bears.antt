-- Which links an action bears on: that of the attempt which ends, is placed, or has its stream reset, and those on which something passes, is queued, or which
-- come up or are over. On the others, attempts go on as before, and so does all that passed.
-- Example: call 1 has an attempt on link 1, and one on link 2, which ends, cut off. That bears on link 2 alone. A commitment bears on none.
use Rattle.std.specs.List.{list_any}
use Rattle.std.specs.Prelude.{Bool, List, None, Some, [], false, length, option_and_then, ℕ, ◌&&◌, ◌+◌, ◌==◌, ◌||◌, ◌∷◌, ◌≡◌}
use Rattle.channel_actions.specs.LinkFrames.Alike.{Numbers}
use Rattle.session_actions.specs.Actions.{after}
use Rattle.session_actions.specs.Attempts.{is_outstanding}
use Rattle.session_actions.specs.Words.{holds, is_number, numbered}
use Rattle.session_actions.specs.declared.action.Action.{Action}
use Rattle.session_actions.specs.declared.action.Action.TheVariants as action
use Rattle.session_actions.specs.declared.attempt.Attempt.{Attempt}
use Rattle.session_actions.specs.declared.seen.Seen.{Seen}

abbrev pub is_placed_on : ℕ → Attempt → Bool
is_placed_on link a = holds (λ at. at.link == link) a.row.placed

abbrev pub bears_on : Action → Seen → Numbers
bears_on (action.AttemptPlaced row at) s link = at.link == link
bears_on (action.AttemptEnds row end) s link = holds (is_placed_on link) (numbered s.attempts row)
bears_on (action.StreamReset row number) s link = holds (is_placed_on link) (numbered s.attempts row)
bears_on (action.LinkUp sub) s link = length s.links + 1 == link
bears_on (action.ConnectTimesOut sub) s link = is_number link (option_and_then (λ b. b.link) (numbered s.subs sub))
bears_on (action.BytesArrive n) s link = n == link
bears_on (action.FrameRead n r) s link = n == link
bears_on (action.LinkBreaks n code) s link = n == link
bears_on (action.LinkLost n) s link = n == link
bears_on (action.PingQueued n) s link = n == link
bears_on (action.FrameWritten n x) s link = n == link
bears_on _ s link = false

-- what the line of an action says of it: an attempt that is placed was on no link, and of a call that gets its config no attempt is on one
abbrev pub IsOrderly : Action → Seen → Type 0
IsOrderly (action.AttemptPlaced row at) s = (a : Attempt) → numbered s.attempts row ≡ Some a → a.row.placed ≡ None
IsOrderly (action.CallConfigured call config) s = list_any (λ a. is_outstanding a && (a.row.call == call)) s.attempts ≡ false
IsOrderly _ s = Unit {0}

-- those of a list of actions
abbrev pub bear_on : List Action → Seen → Numbers
bear_on [] s link = false
bear_on (a ∷ actions) s link = bears_on a s link || bear_on actions (after a s) link

abbrev pub ActionsAreOrderly : List Action → Seen → Type 0
ActionsAreOrderly [] s = Unit {0}
ActionsAreOrderly (a ∷ actions) s = IsOrderly a s × ActionsAreOrderly actions (after a s)
