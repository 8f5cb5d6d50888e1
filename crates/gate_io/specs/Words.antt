-- The words of a PCG generator.
use Rattle.std.specs.Prelude.{ℕ}
use Rattle.rand_pcg.specs.Lcg.{Lcg, advance}
use Rattle.rand_pcg.specs.Pcg.{multiplier_128, pcg64}

-- the word that comes after k others
abbrev pub word_at : Lcg → ℕ → ℕ
word_at generator k = (pcg64 (advance 128 multiplier_128 k generator)).0
