use Rattle.h2_frame.proofs.TextLaws.{whole_is, partial_is, fault_is}
use Rattle.h2_frame.proofs.laws.table_is_grammar.Goals as goal

pub returns : goal.returns
returns c = record { whole = whole_is; partial = partial_is; fault = fault_is }
