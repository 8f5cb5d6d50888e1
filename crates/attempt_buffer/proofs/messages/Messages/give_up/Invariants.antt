use Rattle.std.proofs.Common.{◌≡◌, length, drop}
use Rattle.std.specs.List.{concat}
use Rattle.attempt_buffer.specs.Spots.{MessagesAreSized}
use Rattle.attempt_buffer.proofs.messages.Messages.give_up.Given as goal

abbrev pub invariant-loop-message : goal.invariant-loop-message
invariant-loop-message l = record {
  rest : l.self-inside.list.items ≡ drop l._message l.fn.self;
  bytes : l.self-inside.bytes ≡ length (concat l.self-inside.list.items);
  sized : MessagesAreSized l.self-inside.list.items;
}
