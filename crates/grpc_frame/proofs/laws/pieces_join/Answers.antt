use Rattle.grpc_frame.proofs.MessageLaws.{pieces_fault, pieces_messages, pieces_reader}
use Rattle.grpc_frame.proofs.laws.pieces_join.Goals as goal

pub returns : goal.returns
returns c = record { messages = pieces_messages; fault = pieces_fault; reader = pieces_reader }
