-- The words of a generator, one step later.
use Rattle.std.proofs.Common.{◌≡◌, ℕ, ◌+◌, suc, refl, ap, sym, ◌∙◌, arith}
use Rattle.rand_pcg.specs.Lcg.{Lcg, next, state_after}
use Rattle.rand_pcg.specs.Pcg.{multiplier_128, pcg64}
use Rattle.gate_io.specs.Words.{word_at}

-- the words after one step are those after the first
word_after : (g : Lcg) (k : ℕ) → word_at (next 128 multiplier_128 g) k ≡ word_at g (suc k)
unfolding state_after
word_after g k = refl

pub word_first : (g : Lcg) → word_at g 0 ≡ (pcg64 g).0
unfolding state_after
word_first g = refl

-- a word and the generator that one step gives; what contracts see of the generator before is `g`
pub first_of_step : (g inside after : Lcg) (word : ℕ) → inside ≡ g → ◌≡◌ {A = ℕ × Lcg} (word, after) (pcg64 inside) → word ≡ word_at g 0
first_of_step g inside after word is step = ap (λ (p : ℕ × Lcg). p.0) step ∙ sym (word_first inside) ∙ ap (λ (h : Lcg). word_at h 0) is

pub rest_of_step : (g inside after : Lcg) (word k : ℕ) → inside ≡ g → ◌≡◌ {A = ℕ × Lcg} (word, after) (pcg64 inside) → word_at after k ≡ word_at g (k + 1)
rest_of_step g inside after word k is step =
    let stepped : after ≡ next 128 multiplier_128 inside = ap (λ (p : ℕ × Lcg). p.1) step in
    let more : suc k ≡ k + 1 = omega arith in
    ap (λ (h : Lcg). word_at h k) stepped ∙ word_after inside k ∙ ap (λ (n : ℕ). word_at inside n) more ∙ ap (λ (h : Lcg). word_at h (k + 1)) is
