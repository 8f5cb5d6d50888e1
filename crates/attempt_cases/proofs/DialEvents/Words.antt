-- The random words of an entry: the channel counts draws in 64 bits, and the session without end.
use Rattle.std.proofs.Common.{◌≡◌, ◌%◌, ◌*◌, ◌+◌, ◌^◌, ◌==◌, ap, arith, refl, sym, ◌∙◌, Bool, true, false, Option, Some, ℕ, if◌then◌else◌, nat_lt, not}
use Rattle.std.proofs.Math.Nat.{add-mod-mod, mod-add-mod}
use Rattle.std.proofs.lemmas.Bool.Decides.{nat_tests}
use Rattle.std.proofs.lemmas.Nat.{mul-mod_first}
use Rattle.std.specs.Option.{option_map_or}
use Rattle.channel_actions.specs.Clock.{DrawsAlike}
use Rattle.channel_core.specs.States.{StateSeen}
use Rattle.channel_core.specs.Steps as channel
use Rattle.grpc_base.specs.Backoff.{nth_word}
use Rattle.session_actions.specs.Entries.{next_word}
use Rattle.session_actions.specs.declared.entry.OpenEntry.{OpenEntry}
use Rattle.session_actions.specs.declared.seen.Seen.{Seen}

word_by : (w d m k : ℕ) → (w + ((d % m) * k) % m) % m ≡ (w + d * k) % m
word_by w d m k = ap (λ (n : ℕ). (w + n) % m) (mul-mod_first d k m) ∙ add-mod-mod w (d * k) m

pub word_same : (x : StateSeen) (s : Seen) (o : OpenEntry) → s.current ≡ Some o → DrawsAlike (Some o) x → next_word s ≡ channel.next_word x
word_same x s o at draws =
    ap (λ (c : Option OpenEntry). option_map_or (λ (p : OpenEntry). nth_word p.word p.drawn) c 0) at
    ∙ sym (word_by o.word o.drawn (2 ^ 64) 11400714819323198485)
    ∙ ap (λ (n : ℕ). (n + ((o.drawn % 2 ^ 64) * 11400714819323198485) % 2 ^ 64) % 2 ^ 64) draws.0
    ∙ ap (λ (n : ℕ). (x.word + (n * 11400714819323198485) % 2 ^ 64) % 2 ^ 64) (sym draws.1)

-- one draw more, or none
pub draw_by : (b : Bool) (d e : ℕ) → d ≡ e % 2 ^ 64 → (if b then (d + 1) % 2 ^ 64 else d) ≡ (e + (if b then 1 else 0)) % 2 ^ 64
draw_by true d e h = ap (λ (n : ℕ). (n + 1) % 2 ^ 64) h ∙ mod-add-mod e (2 ^ 64) 1
draw_by false d e h = h ∙ ap (λ (n : ℕ). n % 2 ^ 64) (let none : e ≡ e + 0 = omega arith in none)

drew_if : (n : ℕ) (b : Bool) → nat_lt 0 n ≡ b → not (n == 0) ≡ b
drew_if n true e = grind (arith, nat_tests)
drew_if n false e = grind (arith, nat_tests)

pub drew_by : (n : ℕ) → not (n == 0) ≡ nat_lt 0 n
drew_by n = drew_if n (nat_lt 0 n) refl
