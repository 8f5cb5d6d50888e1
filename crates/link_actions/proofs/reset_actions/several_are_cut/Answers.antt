use Rattle.link_actions.proofs.ResetActions.Cuts.{cuts_go_ahead, none_is_ahead, none_is_left, resets_catch_up, seals_keep}
use Rattle.link_actions.proofs.ResetActions.Waits.{waits_are_cut}
use Rattle.link_actions.proofs.reset_actions.several_are_cut.Goals as goal

pub returns-clause-seals : goal.returns-clause-seals
returns-clause-seals c = seals_keep

pub returns-clause-begins : goal.returns-clause-begins
returns-clause-begins c = none_is_ahead

pub returns-clause-ends : goal.returns-clause-ends
returns-clause-ends c = none_is_left

pub returns-clause-cuts : goal.returns-clause-cuts
returns-clause-cuts c = cuts_go_ahead

pub returns-clause-resets : goal.returns-clause-resets
returns-clause-resets c = resets_catch_up

pub returns-clause-waits : goal.returns-clause-waits
returns-clause-waits c = waits_are_cut
