-- Parts of the definitions, as the programs of this crate read them. Nobody has to believe them.
use Rattle.std.specs.Prelude.{Bool, List, None, Option, [], false, filter, if◌then◌else◌, map, true, ℕ, ◌∷◌}
use Rattle.session_actions.specs.Actions.{config_action, first_action}
use Rattle.session_actions.specs.AttemptEnds.{next_cut, next_wire_end}
use Rattle.session_actions.specs.Attempts.{is_of}
use Rattle.session_actions.specs.CallEnds.{has_long_request, has_long_response, is_cancelled, is_over_by_row, next_ended}
use Rattle.session_actions.specs.Commitments.{next_final, next_headed, next_inherited, next_overflow}
use Rattle.session_actions.specs.Events.{is_loss}
use Rattle.session_actions.specs.Making.{next_transparent}
use Rattle.session_actions.specs.Policies.{next_take_over}
use Rattle.session_actions.specs.Subchannels.{next_connected, next_of_clock}
use Rattle.session_actions.specs.Words.{first_of}
use Rattle.session_actions.specs.declared.action.Action.{Action}
use Rattle.session_actions.specs.declared.attempt.Attempt.{Attempt}
use Rattle.session_actions.specs.declared.call.Call.{Call}
use Rattle.session_actions.specs.declared.entry.OpenEntry.{OpenEntry}
use Rattle.session_actions.specs.declared.seen.Seen.{Seen}
use Rattle.session_actions.specs.declared.action.Action.TheVariants as action
use Rattle.grpc_base.specs.declared.event.EndCause.TheVariants as ending

-- the lines of an order, in parts
abbrev pub of_ends : Seen → Option Action
of_ends s = first_action (next_cut s ∷ next_transparent s ∷ next_inherited s ∷ next_ended ending.Row (is_over_by_row s) s ∷ next_final s ∷ [])

abbrev pub of_commitments : OpenEntry → Seen → Option Action
of_commitments o s = first_action (
    next_ended ending.Cancelled (is_cancelled o) s ∷ next_ended ending.Request (has_long_request o s) s
    ∷ next_overflow s ∷ next_headed s ∷ next_ended ending.Response (has_long_response s) s ∷ [])

abbrev pub early_end : OpenEntry → Seen → Option Action
early_end o s = if is_loss o.event then None else next_wire_end s

abbrev pub of_clock : Seen → Option Action
of_clock s = first_action (next_of_clock s ∷ next_take_over s ∷ next_connected s ∷ first_of (config_action s) s.calls ∷ [])

-- an action opens an entry
abbrev pub is_opening : Action → Bool
is_opening (action.EntryOpens posted word event) = true
is_opening _ = false

-- the entries in which the attempts of a call were made
abbrev pub made_for : Call → List Attempt → List ℕ
made_for c attempts = map (λ a. a.made) (filter (is_of c) attempts)
