-- Actions of policies and subchannels, one after another until none is left; and lists of which none passes a test.
use Rattle.std.proofs.Common.{◌≡◌, ◌∷◌, ◌++◌, ◌||◌, ap, refl, ◌∙◌, Bool, true, false, List, [], Option, None, Some, cond}
use Rattle.std.proofs.lemmas.Bool.{or_parts}
use Rattle.std.proofs.lemmas.List.Folds.{find-append, list_any-append}
use Rattle.std.specs.List.{list_any}
use Rattle.std.specs.Option.{option_or}
use Rattle.std.specs.Prelude.{find}
use Rattle.net_actions.proofs.Noting.{with_subs}
use Rattle.net_actions.specs.Runs.{NoneIsToEnd, RunsTo}
use Rattle.session_actions.specs.Actions.{after_in, first_action, of_policies}
use Rattle.session_actions.specs.Policies.{next_begun, next_given, next_retired}
use Rattle.session_actions.specs.Subchannels.{next_added, next_shut}
use Rattle.session_actions.specs.declared.action.Action.{Action}
use Rattle.session_actions.specs.declared.entry.OpenEntry.{OpenEntry}
use Rattle.session_actions.specs.declared.seen.Seen.{Seen}
use Rattle.session_actions.specs.declared.subchannel.Subchannel.{Subchannel}

pub one_more : (o : OpenEntry) (a : Action) (s t : Seen) → of_policies o s ≡ Some a → RunsTo o (after_in o a s) t → RunsTo o s t
one_more o a s t e run = record { actions = a ∷ run.actions; does = (e, run.does) }

pub no_more : (o : OpenEntry) (s : Seen) → of_policies o s ≡ None → RunsTo o s s
no_more o s e = record { actions = []; does = (e, refl) }

-- nothing is to be done to the policies
pub record IsQuiet (o : OpenEntry) (s : Seen) : Type 0 where
  pub ended : NoneIsToEnd s
  pub retired : next_retired o s ≡ None
  pub begun : next_begun o s ≡ None
  pub given : next_given o s ≡ None

pub quiet_with : (o : OpenEntry) (s : Seen) (subs : List Subchannel) → IsQuiet o s → IsQuiet o (with_subs subs s)
quiet_with o s subs q = record { ended = q.ended; retired = q.retired; begun = q.begun; given = q.given }

-- then what follows is what the subchannels do
pub quiet_next : (o : OpenEntry) (s : Seen) → IsQuiet o s → of_policies o s ≡ option_or (next_shut s) (option_or (next_added s) None)
quiet_next o s q =
    ap (λ (x : Option Action). first_action (x ∷ next_retired o s ∷ next_begun o s ∷ next_given o s ∷ next_shut s ∷ next_added s ∷ [])) q.ended
    ∙ ap (λ (x : Option Action). first_action (None ∷ x ∷ next_begun o s ∷ next_given o s ∷ next_shut s ∷ next_added s ∷ [])) q.retired
    ∙ ap (λ (x : Option Action). first_action (None ∷ None ∷ x ∷ next_given o s ∷ next_shut s ∷ next_added s ∷ [])) q.begun
    ∙ ap (λ (x : Option Action). first_action (None ∷ None ∷ None ∷ x ∷ next_shut s ∷ next_added s ∷ [])) q.given

-- where none passes, none is found; and after a prefix of which none passes, the first one that does
find_none_by : {X : Type 0} (x : X) (t : Bool) (o : Option X) → t ≡ false → o ≡ None → cond t (Some x) o ≡ None
find_none_by x true o e f = absurd (cc)
find_none_by x false o e f = f

pub find_none : {X : Type 0} (test : X → Bool) (xs : List X) → list_any test xs ≡ false → find test xs ≡ None
find_none test [] e = refl
find_none test (x ∷ xs) e =
    let parts : (test x ≡ false) × (list_any test xs ≡ false) = or_parts (test x) (list_any test xs) e in
    find_none_by x (test x) (find test xs) parts.0 (find_none test xs parts.1)

pub find_after : {X : Type 0} (test : X → Bool) (prefix rest : List X) (x : X) → list_any test prefix ≡ false → test x ≡ true
    → find test (prefix ++ x ∷ rest) ≡ Some x
find_after test prefix rest x none here =
    find-append test prefix (x ∷ rest) ∙ ap (λ (o : Option _). option_or o (find test (x ∷ rest))) (find_none test prefix none)
    ∙ ap (λ (t : Bool). cond t (Some x) (find test rest)) here

pub both_false : (x y : Bool) → x ≡ false → y ≡ false → (x || y) ≡ false
both_false true y e f = absurd (cc)
both_false false y e f = f

no_or : (x : Bool) → x ≡ false → (x || false) ≡ false
no_or true e = absurd (cc)
no_or false e = refl

pub none_afterwards : {X : Type 0} (test : X → Bool) (prefix : List X) (x : X) → list_any test prefix ≡ false → test x ≡ false
    → list_any test (prefix ++ x ∷ []) ≡ false
none_afterwards test prefix x none here =
    list_any-append test prefix (x ∷ []) ∙ both_false (list_any test prefix) (test x || false) none (no_or (test x) here)
