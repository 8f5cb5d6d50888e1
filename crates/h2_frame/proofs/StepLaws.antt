-- What a step reported, from the table to the grammar.
use Rattle.std.proofs.Common.{◌≡◌, ℕ, ◌≤◌, List, length, take, refl, ap, sym, ◌∙◌}
use Rattle.std.specs.Prelude.{◌↔◌}
use Rattle.h2_frame.specs.declared.frame.FrameStep.{FrameStep}
use Rattle.h2_frame.specs.declared.frame.FrameStep.TheVariants as step
use Rattle.h2_frame.specs.Frames.{IsFrame}
use Rattle.h2_frame.specs.Readings.{Partial, Fault, IsProperPrefix, IsFault, reading_of}
use Rattle.h2_frame.specs.Steps.{IfGot, seen, reported}
use Rattle.h2_frame.proofs.FrameLaws.{whole_is_frame}
use Rattle.h2_frame.proofs.PrefixLaws.{partial_is_prefix}
use Rattle.h2_frame.proofs.PlaceLaws.{prefix_is_partial, fault_is_reported, reported_fault}

pub got_is : (r : FrameStep) (bytes : List ℕ) → reported r ≡ reading_of bytes → IfGot r (λ frame len. (len ≤ length bytes) × IsFrame (take len bytes) (seen frame))
got_is (step.Got frame len) bytes h = whole_is_frame bytes (seen frame) len (sym h)
got_is step.More bytes h = tt
got_is (step.Bad code) bytes h = tt

more_from : (r : FrameStep) → reported r ≡ Partial → r ≡ step.More
more_from (step.Got frame len) h = (cc)
more_from step.More h = refl
more_from (step.Bad code) h = (cc)

pub more_is : (r : FrameStep) (bytes : List ℕ) → reported r ≡ reading_of bytes → (r ≡ step.More) ↔ IsProperPrefix bytes
more_is r bytes h =
    ((λ e. partial_is_prefix bytes (sym h ∙ ap reported e)), (λ prefix. more_from r (h ∙ prefix_is_partial bytes prefix)))

bad_from : (r : FrameStep) (code : ℕ) → reported r ≡ Fault code → r ≡ step.Bad code
bad_from (step.Got frame len) code h = (cc)
bad_from step.More code h = (cc)
bad_from (step.Bad other) code h = (cc)

pub bad_is : (r : FrameStep) (bytes : List ℕ) → reported r ≡ reading_of bytes → (code : ℕ) → (r ≡ step.Bad code) ↔ IsFault bytes code
bad_is r bytes h code =
    ((λ e. fault_is_reported bytes code (sym h ∙ ap reported e)), (λ fault. bad_from r code (h ∙ reported_fault bytes code fault)))
