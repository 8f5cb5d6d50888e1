use Rattle.std.proofs.Common.{◌≡◌, drop}
use Rattle.grpc_link.specs.Links.{opened_all}
use Rattle.grpc_link.proofs.readers.Readers.open_all.Given as goal

abbrev pub invariant-loop-tag : goal.invariant-loop-tag
invariant-loop-tag l = opened_all (drop l.tag-index l.opened) l.self ≡ opened_all l.opened l.fn.self
