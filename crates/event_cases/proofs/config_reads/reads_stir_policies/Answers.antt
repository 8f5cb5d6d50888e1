use Rattle.event_cases.proofs.ConfigReads.Stirred.{reads_stir_policies}
use Rattle.event_cases.proofs.config_reads.reads_stir_policies.Goals as goal

pub returns : goal.returns
returns c = reads_stir_policies
