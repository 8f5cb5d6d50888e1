-- Nothing passes on a stream of a call by actions of subchannels and policies: no attempt is on a link that comes up only now.
use Rattle.std.proofs.Common.{◌≡◌, ◌&&◌, ◌+◌, ◌==◌, ◌||◌, ◌∷◌, ap, arith, eqb-true, refl, sym, ◌∙◌, Bool, true, false, List, [], Option, None, Some, ℕ, suc, is_some, length, slice_get}
use Rattle.std.specs.List.{list_all, list_any}
use Rattle.std.specs.Option.{option_map_or}
use Rattle.attempt_ledger.specs.declared.row.Placed.{Placed}
use Rattle.channel_actions.specs.KeptSessions.Kept.{IsKept, came_up, is_on_link}
use Rattle.channel_actions.specs.BoardActions.Boards.{is_of_board}
use Rattle.session_actions.specs.Attempts.{is_of}
use Rattle.session_actions.specs.Words.{holds, numbered}
use Rattle.session_actions.specs.declared.action.Action.{Action}
use Rattle.session_actions.specs.declared.action.Action.TheVariants as action
use Rattle.session_actions.specs.declared.attempt.Attempt.{Attempt}
use Rattle.session_actions.specs.declared.call.Call.{Call}
use Rattle.session_actions.specs.declared.link.Link.{Link}
use Rattle.session_actions.specs.declared.seen.Seen.{Seen}
use Rattle.call_actions.specs.TakesApart.Received.{is_on, passes_on}

beyond : {X : Type 0} (xs : List X) → slice_get xs (length xs) ≡ None
beyond [] = refl
beyond (x ∷ xs) = beyond xs

pub none_next : {X : Type 0} (xs : List X) → numbered xs (length xs + 1) ≡ None
none_next xs =
    let n : length xs + 1 ≡ suc (length xs) = omega arith in
    ap (numbered xs) n ∙ beyond xs

both : (a b : Bool) → (a && b) ≡ true → (a ≡ true) × (b ≡ true)
both true b e = (refl, e)
both false b e = absurd (cc)

off_by : (s : Seen) (at : Placed) (b : Bool) → (at.link == length s.links + 1) ≡ b → came_up s at.link ≡ true → b ≡ false
off_by s at false e up = refl
off_by s at true e up =
    let bad : true ≡ false = sym up ∙ ap (λ (n : ℕ). is_some (numbered s.links n)) (eqb-true at.link (length s.links + 1) e) ∙ ap (λ (o : Option Link). is_some o) (none_next s.links) in
    absurd (cc)

pub off_placed : (s : Seen) (o : Option Placed) → option_map_or (λ (at : Placed). came_up s at.link) o true ≡ true
    → holds (λ (at : Placed). at.link == length s.links + 1) o ≡ false
off_placed s None up = refl
off_placed s (Some at) up = off_by s at (at.link == length s.links + 1) refl up

and_off : (a b : Bool) → b ≡ false → (a && b) ≡ false
and_off true b e = e
and_off false b e = refl

or_off : (a b : Bool) → a ≡ false → b ≡ false → (a || b) ≡ false
or_off a b e f = ap (λ (z : Bool). z || b) e ∙ f

pub none_on_next : (s : Seen) (c : Call) (xs : List Attempt) → list_all (is_on_link s) xs ≡ true
    → list_any (λ (a : Attempt). is_of c a && is_on (length s.links + 1) a) xs ≡ false
none_on_next s c [] up = refl
none_on_next s c (a ∷ xs) up =
    let two = both (is_on_link s a) (list_all (is_on_link s) xs) up in
    or_off (is_of c a && is_on (length s.links + 1) a) (list_any (λ (a : Attempt). is_of c a && is_on (length s.links + 1) a) xs)
    (and_off (is_of c a) (is_on (length s.links + 1) a) (off_placed s a.row.placed two.0)) (none_on_next s c xs two.1)

pub passes_none : (s : Seen) (a : Action) (c : Call) → IsKept s → is_of_board a ≡ true → passes_on a s c ≡ false
passes_none s (action.LinkUp sub) c kept is = none_on_next s c s.attempts kept.placed
passes_none s (action.PolicyBegins k) c kept is = refl
passes_none s (action.AddressesGiven g) c kept is = refl
passes_none s (action.PolicyTakesOver g) c kept is = refl
passes_none s (action.PolicyRetired g) c kept is = refl
passes_none s (action.SubchannelAdded address) c kept is = refl
passes_none s (action.SubchannelShut sub) c kept is = refl
passes_none s (action.SubchannelConnects sub) c kept is = refl
passes_none s (action.DialTaken sub again until) c kept is = refl
passes_none s (action.DialFails sub) c kept is = refl
passes_none s (action.ConnectTimesOut sub) c kept is = refl
passes_none s (action.BackoffEnds sub) c kept is = refl
passes_none s (action.SettingsArrive sub) c kept is = refl
passes_none s (action.LinkDown sub) c kept is = refl
passes_none s _ c kept is = absurd (cc)
