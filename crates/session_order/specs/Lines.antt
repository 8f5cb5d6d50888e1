-- The lines of the session's definition that come before anything else, by name, and their order.
-- Example: where the environment lost a link, the streams of one ended attempt are reset before the next attempt ends; after a frame that was read all
-- attempts end that it ends, and then their streams are reset.
use Rattle.std.specs.Prelude.{Bool, Option, false, true, if◌then◌else◌, nat_lt, ℕ, ◌==◌}
use Rattle.grpc_base.specs.declared.event.Event.{Event}
use Rattle.session_actions.specs.AttemptEnds.{next_cut, next_reset, next_wire_end}
use Rattle.session_actions.specs.CallEnds.{has_long_request, has_long_response, is_cancelled, is_over_by_row, is_shut_down, next_ended}
use Rattle.session_actions.specs.Commitments.{next_final, next_headed, next_inherited, next_overflow}
use Rattle.session_actions.specs.Events.{is_loss}
use Rattle.session_actions.specs.Making.{next_transparent}
use Rattle.session_actions.specs.Policies.{next_begun, next_given, next_of_pick, next_retired}
use Rattle.session_actions.specs.Subchannels.{next_added, next_of_links, next_shut}
use Rattle.session_actions.specs.declared.action.Action.{Action}
use Rattle.session_actions.specs.declared.entry.OpenEntry.{OpenEntry}
use Rattle.session_actions.specs.declared.seen.Seen.{Seen}
use Rattle.session_order.specs.declared.line.Line.{Line}
use Rattle.grpc_base.specs.declared.event.EndCause.TheVariants as ending
use Rattle.session_order.specs.declared.line.Line.TheVariants as line

-- the action that a line gives, if any
abbrev pub gives : Line → OpenEntry → Seen → Option Action
gives line.Cut o s = next_cut s
gives line.Transparent o s = next_transparent s
gives line.Inherited o s = next_inherited s
gives line.Row o s = next_ended ending.Row (is_over_by_row s) s
gives line.Final o s = next_final s
gives line.Cancelled o s = next_ended ending.Cancelled (is_cancelled o) s
gives line.Request o s = next_ended ending.Request (has_long_request o s) s
gives line.Overflow o s = next_overflow s
gives line.Head o s = next_headed s
gives line.Response o s = next_ended ending.Response (has_long_response s) s
gives line.Pick o s = next_of_pick s
gives line.Link o s = next_of_links s
gives line.WireEnd o s = next_wire_end s
gives line.Reset o s = next_reset s
gives line.Shut o s = next_ended ending.Shut (is_shut_down s) s
gives line.Retire o s = next_retired o s
gives line.Begin o s = next_begun o s
gives line.Give o s = next_given o s
gives line.Drop o s = next_shut s
gives line.Add o s = next_added s

-- their order; where the environment lost a link, a reset comes before the next end
abbrev pub rank : Bool → Line → ℕ
rank loses line.Cut = 1
rank loses line.Transparent = 2
rank loses line.Inherited = 3
rank loses line.Row = 4
rank loses line.Final = 5
rank loses line.Cancelled = 6
rank loses line.Request = 7
rank loses line.Overflow = 8
rank loses line.Head = 9
rank loses line.Response = 10
rank loses line.Pick = 11
rank loses line.Link = 12
rank loses line.WireEnd = if loses then 15 else 13
rank loses line.Reset = 14
rank loses line.Shut = 16
rank loses line.Retire = 17
rank loses line.Begin = 18
rank loses line.Give = 19
rank loses line.Drop = 20
rank loses line.Add = 21

-- one comes before another in an entry of this event; and two are one
abbrev pub is_before : Event → Line → Line → Bool
is_before e l m = nat_lt (rank (is_loss e) l) (rank (is_loss e) m)

abbrev pub is_line : Line → Line → Bool
is_line l m = rank false l == rank false m

-- the lines by which policies and their subchannels come and go
abbrev pub is_of_policies : Line → Bool
is_of_policies line.Retire = true
is_of_policies line.Begin = true
is_of_policies line.Give = true
is_of_policies line.Drop = true
is_of_policies line.Add = true
is_of_policies _ = false
