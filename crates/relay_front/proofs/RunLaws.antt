-- Steps of a link's job.
use Rattle.std.proofs.Common.{None, List, [], ◌∷◌, ◌++◌, refl, subst}
use Rattle.relay_front.specs.Rounds.{LinkEyes, RoundOf, RoundsOn, Stand}

-- a round more
pub rounds_more : {P I O : Type 0} (eyes : LinkEyes P I O) (start : Stand P I O) (rounds : List (Stand P I O)) (last next : Stand P I O)
    → RoundsOn eyes start rounds last → RoundOf eyes last next None → RoundsOn eyes start (rounds ++ next ∷ []) next
rounds_more {P} {I} {O} eyes start [] last next on more = (subst (λ (s : Stand P I O). RoundOf eyes s next None) on more, refl)
rounds_more eyes start (first ∷ later) last next on more = (on.0, rounds_more eyes first later last next on.1 more)
