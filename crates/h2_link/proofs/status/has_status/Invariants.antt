use Rattle.std.proofs.Common.{◌≡◌, drop}
use Rattle.std.specs.List.{list_any}
use Rattle.h2_link.specs.Status.{is_status}
use Rattle.h2_link.proofs.status.has_status.Given as goal

abbrev pub invariant-loop-field : goal.invariant-loop-field
invariant-loop-field l = list_any is_status (drop l.field-index l.fields) ≡ list_any is_status l.fn.fields
