-- What one read of a link gives.
use Rattle.std.proofs.Common.{◌≡◌, ◌≤◌, ◌<◌, ℕ, List, [], ◌∷◌, length, take, inl, inr, refl, subst, ◌∙◌, arith}
use Rattle.std.proofs.lemmas.List.{length-take-le}
use Rattle.grpc_base.specs.Counts.{one_more}
use Rattle.gate_io.specs.Outside.{IsAtEnd, Takes}
use Rattle.live_pump.specs.Pumps.{InSeen, IsOver}
use Rattle.relay_front.specs.Rounds.{Reads}

-- a link before a read, once it was given how long to wait
pub record Report (before reported : InSeen) : Type 0 where
  pub left : reported.left ≡ before.left
  pub faults : reported.faults ≡ before.faults
  pub quiet : reported.quiet ≡ before.quiet

pub reads_got : (before reported after : InSeen) (count : ℕ) (buffer : List ℕ) → Report before reported → 0 < count → count ≤ length buffer → length buffer ≤ 16384
    → Takes reported.left after.left (take count buffer) → after.faults ≡ reported.faults → after.quiet ≡ reported.quiet → Reads before after (take count buffer)
reads_got before reported after count buffer since some within most takes faults quiet =
    let many : length (take count buffer) ≡ count = length-take-le count buffer within in
    inr (record {
      some = omega (arith, many, some);
      within = omega (arith, many, within, most);
      left = subst (λ l. Takes l after.left (take count buffer)) since.left takes;
      faults = faults ∙ since.faults;
      quiet = quiet ∙ since.quiet;
    })

none_taken : (buffer : List ℕ) → take 0 buffer ≡ []
none_taken [] = refl
none_taken (byte ∷ buffer) = refl

pub reads_quiet : (before reported after : InSeen) (buffer : List ℕ) → Report before reported → after.left ≡ reported.left → after.faults ≡ reported.faults → after.quiet ≡ one_more reported.quiet → Reads before after (take 0 buffer)
reads_quiet before reported after buffer since left faults quiet =
    inl (record { left = left ∙ since.left; faults = faults ∙ since.faults; quiet = subst (λ (n : ℕ). after.quiet ≡ one_more n) since.quiet quiet }, none_taken buffer)
