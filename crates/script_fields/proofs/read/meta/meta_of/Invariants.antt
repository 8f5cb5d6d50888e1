use Rattle.std.specs.Prelude.{option_map}
use Rattle.script_fields.proofs.MetaLaws.{IsReadMeta}
use Rattle.script_fields.proofs.PartLaws.{size_left}
use Rattle.script_fields.proofs.read.meta.meta_of.Given as goal

abbrev pub invariant-loop-rest : goal.invariant-loop-rest
invariant-loop-rest l = IsReadMeta l.fn.text l.meta (option_map (λ r. r.now) l.rest)

abbrev pub decreases-loop-rest : goal.decreases-loop-rest
decreases-loop-rest l = size_left (option_map (λ r. r.now) l.rest)
