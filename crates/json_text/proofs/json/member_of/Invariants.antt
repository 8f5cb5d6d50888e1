use Rattle.std.proofs.Common.{◌≡◌, map, length}
use Rattle.json_text.specs.Parts.{member_of, member_seen}
use Rattle.json_text.proofs.json.member_of.Given as goal

abbrev pub invariant-loop-rest : goal.invariant-loop-rest
invariant-loop-rest l = member_of l.name (map member_seen l.rest) ≡ member_of l.name (map member_seen l.members)

abbrev pub decreases-loop-rest : goal.decreases-loop-rest
decreases-loop-rest l = length l.rest
