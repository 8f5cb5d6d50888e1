use Rattle.std.proofs.Common.{refl, sym}
use Rattle.base64.specs.GeneralPurpose.{decoded_of}
use Rattle.grpc_meta.proofs.BinaryLaws.{decoded_of-refused}
use Rattle.grpc_meta.proofs.binary.decoded.Goals as goal

pub returns-in-Ok : goal.returns-in-Ok
unfolding decoded_of
returns-in-Ok c = rw c.in-Ok.ensures.ok refl

pub returns-in-Err-DecodeError : goal.returns-in-Err-DecodeError
returns-in-Err-DecodeError c = sym (decoded_of-refused _ _ _ _ c.in-Err-DecodeError.ensures.err c.in-Err-DecodeError.field-0-is)
