use Rattle.grpc_meta.proofs.BinaryLaws.{read_is_spelled, spelled_is_read}
use Rattle.grpc_meta.proofs.laws.base64_is_read_exactly.Goals as goal

pub returns-clause-read : goal.returns-clause-read
returns-clause-read c = spelled_is_read

pub returns-clause-only : goal.returns-clause-only
returns-clause-only c = read_is_spelled
