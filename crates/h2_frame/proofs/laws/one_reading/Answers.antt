use Rattle.h2_frame.proofs.TextLaws.{has_reading, no_two_readings}
use Rattle.h2_frame.proofs.laws.one_reading.Goals as goal

pub returns : goal.returns
returns c = record { exists = has_reading; one = no_two_readings }
