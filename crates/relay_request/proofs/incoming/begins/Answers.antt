use Rattle.std.proofs.Common.{List, ℕ, Err, ◌∙◌, ap, arith}
use Rattle.relay_request.proofs.incoming.begins.Goals as goal

pub unreachable-requires : goal.unreachable-requires
unreachable-requires c = c.new.ensures.bad_path.0 (c.in-Err-BadPath.is ∙ ap Err c.in-Err-BadPath.field-0-is) c.requires.path
