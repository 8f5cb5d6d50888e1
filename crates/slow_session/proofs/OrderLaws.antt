-- The lines of an order, in parts.
use Rattle.std.proofs.Common.{◌≡◌, ◌∙◌, Option, None, Some, List, [], ◌∷◌, ◌++◌, ap, refl, sym}
use Rattle.std.specs.Option.{option_or}
use Rattle.session_actions.specs.Actions.{config_action, first_action, of_calls, of_settling}
use Rattle.session_actions.specs.AttemptEnds.{next_cut}
use Rattle.session_actions.specs.CallEnds.{has_long_request, has_long_response, is_cancelled, is_over_by_row, next_ended}
use Rattle.session_actions.specs.Commitments.{next_final, next_headed, next_inherited, next_overflow}
use Rattle.session_actions.specs.Making.{next_due_attempt, next_transparent}
use Rattle.session_actions.specs.Policies.{next_of_pass, next_of_queue, next_take_over}
use Rattle.session_actions.specs.Subchannels.{next_connected, next_of_clock}
use Rattle.session_actions.specs.Words.{first_of}
use Rattle.session_actions.specs.declared.action.Action.{Action}
use Rattle.session_actions.specs.declared.entry.OpenEntry.{OpenEntry}
use Rattle.session_actions.specs.declared.seen.Seen.{Seen}
use Rattle.session_actions.specs.declared.action.Action.TheVariants as action
use Rattle.grpc_base.specs.declared.event.EndCause.TheVariants as ending
use Rattle.slow_session.specs.Parts.{of_clock, of_commitments, of_ends}

-- the first of some, and else the first of others
or_first : (x y z : Option Action) → option_or x (option_or y z) ≡ option_or (option_or x y) z
or_first None y z = refl
or_first (Some a) y z = refl

first_of_two : (xs ys : List (Option Action)) → first_action (xs ++ ys) ≡ option_or (first_action xs) (first_action ys)
first_of_two [] ys = refl
first_of_two (x ∷ xs) ys = ap (option_or x) (first_of_two xs ys) ∙ or_first x (first_action xs) (first_action ys)

pub calls_in_two : (o : OpenEntry) (s : Seen) → option_or (of_ends s) (of_commitments o s) ≡ of_calls o s
calls_in_two o s = sym (first_of_two
    (next_cut s ∷ next_transparent s ∷ next_inherited s ∷ next_ended ending.Row (is_over_by_row s) s ∷ next_final s ∷ [])
    (next_ended ending.Cancelled (is_cancelled o) s ∷ next_ended ending.Request (has_long_request o s) s
    ∷ next_overflow s ∷ next_headed s ∷ next_ended ending.Response (has_long_response s) s ∷ []))

pub settling_in_two : (o : OpenEntry) (s : Seen) → option_or (of_clock s) (first_action (next_of_pass o s ∷ next_due_attempt s ∷ next_of_queue s ∷ Some action.EntryCloses ∷ [])) ≡ of_settling o s
settling_in_two o s = sym (first_of_two
    (next_of_clock s ∷ next_take_over s ∷ next_connected s ∷ first_of (config_action s) s.calls ∷ [])
    (next_of_pass o s ∷ next_due_attempt s ∷ next_of_queue s ∷ Some action.EntryCloses ∷ []))
