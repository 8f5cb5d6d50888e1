use Rattle.std.proofs.Common.{◌≡◌, drop}
use Rattle.std.specs.List.{list_any}
use Rattle.relay_request.specs.Heads.{is_post}
use Rattle.relay_request.proofs.head.has_post.Given as goal

abbrev pub invariant-loop-field : goal.invariant-loop-field
invariant-loop-field l = list_any is_post (drop l.field-index l.fields) ≡ list_any is_post l.fn.fields
