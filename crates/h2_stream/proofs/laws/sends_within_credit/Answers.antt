use Rattle.h2_stream.proofs.Accounts.{send_window, sent_within_credit}
use Rattle.h2_stream.proofs.laws.sends_within_credit.Goals as goal

pub returns-clause-window : goal.returns-clause-window
returns-clause-window c = send_window

pub returns-clause-sent : goal.returns-clause-sent
returns-clause-sent c = sent_within_credit
