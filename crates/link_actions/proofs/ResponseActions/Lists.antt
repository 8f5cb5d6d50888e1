-- Tests and options.
use Rattle.std.proofs.Common.{◌≡◌, false, Option, None, Some, is_some, refl}

pub no_value : {X : Type 0} (o : Option X) → is_some o ≡ false → o ≡ None
no_value None e = refl
no_value (Some x) e = absurd (cc)
