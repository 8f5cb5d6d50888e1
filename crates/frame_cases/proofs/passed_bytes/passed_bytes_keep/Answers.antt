use Rattle.frame_cases.proofs.PassedBytes.Agreeing as agreeing
use Rattle.frame_cases.proofs.passed_bytes.passed_bytes_keep.Goals as goal

pub returns : goal.returns
returns c = agreeing.passed_bytes_keep
