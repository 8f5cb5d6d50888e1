use Rattle.grpc_frame.proofs.MessageLaws.{one_way, texts_are_messages}
use Rattle.grpc_frame.proofs.laws.texts_are_messages.Goals as goal

pub returns : goal.returns
returns c = record { exists = texts_are_messages; one = one_way }
