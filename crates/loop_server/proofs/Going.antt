-- A drain and a piece, one thing after the other.
use Rattle.std.proofs.Common.{◌≡◌, ℕ, suc, ◌<◌, Bool, true, false, List, ◌++◌, refl, sym, ◌∙◌, ap, ap₂, subst, Some, None}
use Rattle.std.specs.Prelude.{Option, drop, is_some, length}
use Rattle.grpc_base.specs.declared.script.AnswerLine.{AnswerLine}
use Rattle.h2_server.specs.Received.{handled}
use Rattle.loop_server.specs.Drains.{Giving, given, given_more, next}
use Rattle.loop_server.specs.Outcomes.{WentAs}
use Rattle.loop_server.specs.Steps.{Arriving, after_steps, is_done, stepped, reported_of}
use Rattle.loop_server.proofs.Pieces.{not_done}
use Rattle.loop_server.proofs.Weights.{next_weight, weight}

went_is : (lines : List AnswerLine) (g h : Giving) (o : Option Giving) → next lines g ≡ o → WentAs true o g h → next lines g ≡ Some h
went_is lines g h None e w = absurd w
went_is lines g h (Some more) e w = e ∙ ap (λ (v : Giving). Some v) (sym w)

-- something went
pub record GoesOn (lines : List AnswerLine) (start g h : Giving) (n : ℕ) : Type 0 where
  pub given_is : given lines (suc n) start ≡ h
  pub lighter : weight lines h < weight lines g

pub goes_on : (lines : List AnswerLine) (start g h : Giving) (n : ℕ) → given lines n start ≡ g → WentAs true (next lines g) g h → GoesOn lines start g h n
goes_on lines start g h n e w =
    let one : next lines g ≡ Some h = went_is lines g h (next lines g) refl w in
    record {
      given_is = ap (λ (v : Giving). given_more v (next lines v)) e ∙ ap (given_more g) one;
      lighter = next_weight lines g h one;
    }

-- one frame of a piece
pub one_step : (start a b : Arriving) (n : ℕ) → after_steps n start ≡ a → is_done a ≡ false → b.state ≡ reported_of a.state (handled a.state.session.link a.rest) → b.rest ≡ drop (handled a.state.session.link a.rest).taken a.rest → after_steps (suc n) start ≡ b
one_step start a b n e d s r =
    let made : stepped a ≡ record { state = reported_of a.state (handled a.state.session.link a.rest); rest = drop (handled a.state.session.link a.rest).taken a.rest } = rw d refl in
    ap stepped e ∙ (made ∙ sym (ap₂ (λ x t. record { state = x; rest = t }) s r))

pub open_as : (a : Arriving) → a.state.session.link.wire.broken ≡ None → 0 < length a.rest → is_done a ≡ false
open_as a b s = not_done a (record { whole = ap is_some b; some = s })
