use Rattle.h2_hpack.specs.Encoding.{same_name, same_pair}
use Rattle.h2_hpack.proofs.LookupLemmas.{IsSought, IsNameSought}
use Rattle.h2_hpack.proofs.lookup.static_match.Given as goal

abbrev pub invariant-loop-place : goal.invariant-loop-place
invariant-loop-place l = IsSought (same_pair l.name l.value) l.place × IsNameSought (same_name l.name) l.place l.named
