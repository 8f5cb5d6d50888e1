use Rattle.h2_stream.proofs.Accounts.{receive_window, received_within_grants}
use Rattle.h2_stream.proofs.laws.receives_within_grants.Goals as goal

pub returns-clause-window : goal.returns-clause-window
returns-clause-window c = receive_window

pub returns-clause-received : goal.returns-clause-received
returns-clause-received c = received_within_grants
