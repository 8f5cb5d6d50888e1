use Rattle.std.proofs.Common.{length}
use Rattle.std.specs.Option.{option_copied}
use Rattle.script_lines.specs.Lines.{fields_after}
use Rattle.script_lines.proofs.call.+append_messages.Given as goal

abbrev pub decreases-append_messages : goal.decreases-append_messages
decreases-append_messages l = length (fields_after (option_copied l.rest))
