-- Lists of actions, one after the other.
use Rattle.std.proofs.Common.{◌≡◌, ◌++◌, ◌∷◌, ap, append_assoc, refl, subst, sym, ◌∙◌, List, []}
use Rattle.std.specs.Prelude.{option_to_list}
use Rattle.session_actions.specs.Actions.{after}
use Rattle.session_actions.specs.Laws.{posted_by, posted_in}
use Rattle.session_actions.specs.Sessions.{Does}
use Rattle.session_actions.specs.declared.action.Action.{Action}
use Rattle.session_actions.specs.declared.seen.Seen.{Seen}
use Rattle.grpc_base.specs.declared.event.Stamped.{Stamped}

pub does_on : (these those : List Action) (s t u : Seen) → Does these s t → Does those t u → Does (these ++ those) s u
does_on [] those s t u d e = subst (λ (v : Seen). Does those v u) d e
does_on (a ∷ these) those s t u d e = (d.0, does_on these those (after a s) t u d.1 e)

pub posted_on : (these those : List Action) → posted_in (these ++ those) ≡ posted_in these ++ posted_in those
posted_on [] those = refl
posted_on (a ∷ these) those =
    ap (λ (l : List Stamped). option_to_list (posted_by a) ++ l) (posted_on these those)
    ∙ sym (append_assoc (option_to_list (posted_by a)) (posted_in these) (posted_in those))

-- nothing is posted by two lists of which neither posts anything
pub none_on : (these those : List Action) → posted_in these ≡ [] → posted_in those ≡ [] → posted_in (these ++ those) ≡ []
none_on these those a b = posted_on these those ∙ ap (λ (l : List Stamped). l ++ posted_in those) a ∙ b
