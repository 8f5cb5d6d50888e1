-- Steps are choices between outcomes: what both outcomes leave alike, the choice leaves too.
use Rattle.std.proofs.Common.{◌≡◌, Bool, true, false, refl, if◌then◌else◌}
use Rattle.std.specs.Prelude.{Result}
use Rattle.std.specs.Result.{result_unwrap_or}
use Rattle.h2_stream.specs.declared.fault.StreamFault.{StreamFault}
use Rattle.h2_stream.specs.Stream.{StreamView}

pub if_kept : {A : Type 0} (f : StreamView → A) (z : A) (s : StreamView) (c : Bool) (a b : Result StreamView StreamFault) → f (result_unwrap_or a s) ≡ z → f (result_unwrap_or b s) ≡ z → f (result_unwrap_or (if c then a else b) s) ≡ z
if_kept f z s true a b p q = p
if_kept f z s false a b p q = q

pub if_same : {A : Type 0} (x : A) (c : Bool) → (if c then x else x) ≡ x
if_same x true = refl
if_same x false = refl
