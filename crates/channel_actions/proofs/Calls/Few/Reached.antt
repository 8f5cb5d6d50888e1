-- A session that began new goes on.
use Rattle.std.proofs.Common.{◌++◌, List}
use Rattle.channel_actions.proofs.Does.{does_on}
use Rattle.channel_actions.specs.FewCalls.Reached.{IsReached}
use Rattle.session_actions.specs.Sessions.{Does, new_session}
use Rattle.session_actions.specs.declared.action.Action.{Action}
use Rattle.session_actions.specs.declared.seen.Seen.{Seen}

abbrev pub reached_on : (s t : Seen) (actions : List Action) → IsReached s → Does actions s t → IsReached t
reached_on s t actions k does = record {
  setup = k.setup;
  actions = k.actions ++ actions;
  does = does_on k.actions actions (new_session k.setup) s t k.does does;
}
