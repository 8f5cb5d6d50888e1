-- After a pick request nothing follows but what its answer says, and the pass stands after the attempt that asked.
use Rattle.std.proofs.Common.{◌≡◌, ◌||◌, ap, refl, subst, sym, ◌∙◌, Bool, false, Option, Some, ℕ}
use Rattle.std.specs.Option.{option_map}
use Rattle.channel_actions.proofs.Settles.{is_with_open, with_open}
use Rattle.channel_actions.specs.Quiescent.{IsAt}
use Rattle.attempt_cases.specs.PassActions.Serves.{IsPassing, turn_of}
use Rattle.attempt_cases.specs.ServeSteps.Follows.{AsksStand, IsAsked, passed_by, request_made}
use Rattle.attempt_cases.specs.ServeSteps.Laws.{AskNext, answer_for}
use Rattle.session_actions.specs.Policies.{turn_at}
use Rattle.session_actions.specs.declared.action.Action.{Action}
use Rattle.session_actions.specs.declared.action.Action.TheVariants as action
use Rattle.session_actions.specs.declared.attempt.Attempt.{Attempt}
use Rattle.session_actions.specs.declared.entry.OpenEntry.{OpenEntry}
use Rattle.session_actions.specs.declared.entry.Stage.TheVariants as stage
use Rattle.session_actions.specs.declared.entry.Turn.{Turn}
use Rattle.session_actions.specs.declared.seen.Seen.{Seen}
use Rattle.session_order.specs.Quiescent as order
use Rattle.session_order.specs.Quiescent.{IsStill}
use Rattle.session_order.specs.Laws.{QuiescenceIsExact, QueuesStir}
use Rattle.session_order.specs.Lines.{is_line}
use Rattle.session_order.specs.declared.line.Line.{Line}
use Rattle.session_order.specs.declared.line.Line.TheVariants as line

module _ (exact : QuiescenceIsExact) (stir : QueuesStir) (last p : ℕ × ℕ) (o : OpenEntry) (s0 : Seen) where
  abbrev s : Seen
  s = with_open o s0

  module _ (at : IsAt stage.Settling o s) (passing : IsPassing last o s) (k : AskNext p s) where
    abbrev t : Seen
    t = request_made p k.policy s

    turn_is : turn_at p.1 s ≡ Some (turn_of p)
    turn_is =
        ap (option_map (λ (a : Attempt). record { call = a.row.call; row = p.1 })) k.there ∙ ap (λ (n : ℕ). Some (record { call = n; row = p.1 })) k.call

    current : t.current ≡ Some (passed_by p o)
    current = ap (λ (q : Option Turn). Some (record o { turn = q })) turn_is

    quiescent : order.IsQuiescent o s
    quiescent = (exact o s).0 (at.quiescent.calls, at.quiescent.links, at.quiescent.policies)

    still : (l : Line) → is_line l line.Pick ≡ false → IsStill l (passed_by p o) t
    still l off =
        stir.asked p.1 k.policy.number (answer_for k.policy s) o s refl tt l (passed_by p o) current (ap (λ (b : Bool). b || false) off) (quiescent l)

    pub stands : IsAsked p (passed_by p o) t
    stands = record {
      current = current;
      stage_is = at.stage_is;
      turn = refl;
      quiescent = still;
      clock = passing.clock;
      take_over = passing.take_over;
      connected = passing.connected;
      configs = passing.configs;
    }

pub asks_stand : QuiescenceIsExact → QueuesStir → AsksStand
asks_stand exact stir last p o s at passing k =
    let P : Seen → Type 0 = λ u. IsAt stage.Settling o u → IsPassing last o u → (k : AskNext p u) → IsAsked p (passed_by p o) (request_made p k.policy u) in
    let whole : P (with_open o s) = λ at_u passing_u next. stands exact stir last p o s at_u passing_u next in
    subst P (sym (is_with_open o s at.current)) whole at passing k
