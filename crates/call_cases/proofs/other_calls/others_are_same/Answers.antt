use Rattle.call_cases.proofs.OtherCalls.Rows.{columns_stay, others_are_same, rows_stay}
use Rattle.call_cases.proofs.other_calls.others_are_same.Goals as goal

pub returns-clause-calls : goal.returns-clause-calls
returns-clause-calls c = others_are_same

pub returns-clause-columns : goal.returns-clause-columns
returns-clause-columns c = columns_stay

pub returns-clause-rows : goal.returns-clause-rows
returns-clause-rows c = rows_stay
