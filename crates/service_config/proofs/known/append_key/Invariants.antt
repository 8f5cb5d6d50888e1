use Rattle.std.proofs.Common.{◌≡◌, ◌++◌, drop}
use Rattle.service_config.specs.Entries.{key_from}
use Rattle.service_config.proofs.known.append_key.Given as goal

abbrev pub invariant-loop-byte : goal.invariant-loop-byte
invariant-loop-byte l = l.key.items ++ key_from (drop l.byte-index l.service) l.method ≡ l.fn.key.items ++ key_from l.service l.method
