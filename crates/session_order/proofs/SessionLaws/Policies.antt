-- Which load balancing policy is asked for a pick.
use Rattle.std.proofs.Common.{◌≡◌, true, is_none, is_some}
use Rattle.std.proofs.lemmas.Bool.{and_parts}
use Rattle.session_actions.specs.Policies.{is_current}
use Rattle.session_order.proofs.SessionLaws.Found.{found_passes, none_of}
use Rattle.session_order.proofs.SessionLaws.Lines.{IsAsked, next_asks}
use Rattle.session_order.specs.SessionLaws.Policies.{CurrentOnesAreAsked}
use Rattle.session_actions.specs.declared.action.Action.TheVariants as action

pub current_ones_are_asked : CurrentOnesAreAsked
current_ones_are_asked s row generation answer next =
    let t : IsAsked generation answer s = next_asks s (action.PickRequested row generation answer) next in
    let current : is_current t.here ≡ true = found_passes is_current s.policies t.here t.current in
    let lives : is_none t.here.generation.retired ≡ true =
    (and_parts (is_none t.here.generation.retired) (is_some t.here.generation.activated) current).0 in
    (t.here, t.current, t.is, none_of t.here.generation.retired lives, t.gives)
