use Rattle.net_actions.proofs.Clocks.{clock_changes, none_due}
use Rattle.net_actions.proofs.Dialling.{dials_fail, links_go, settings_come}
use Rattle.net_actions.proofs.Dials.{dials_are_links, dials_are_taken, none_to_dial}
use Rattle.net_actions.proofs.Wishes.{none_connects, wishes_connect}
use Rattle.net_actions.proofs.laws.subchannel_steps_are_actions.Goals as goal

pub returns-clause-failed : goal.returns-clause-failed
returns-clause-failed c = dials_fail

pub returns-clause-settings : goal.returns-clause-settings
returns-clause-settings c = settings_come

pub returns-clause-link : goal.returns-clause-link
returns-clause-link c = links_go

pub returns-clause-clock : goal.returns-clause-clock
returns-clause-clock c = clock_changes

pub returns-clause-rest : goal.returns-clause-rest
returns-clause-rest c = none_due

pub returns-clause-up : goal.returns-clause-up
returns-clause-up c = dials_are_links

pub returns-clause-taken : goal.returns-clause-taken
returns-clause-taken c = dials_are_taken

pub returns-clause-none : goal.returns-clause-none
returns-clause-none c = none_to_dial

pub returns-clause-wish : goal.returns-clause-wish
returns-clause-wish c = wishes_connect

pub returns-clause-no_wish : goal.returns-clause-no_wish
returns-clause-no_wish c = none_connects
