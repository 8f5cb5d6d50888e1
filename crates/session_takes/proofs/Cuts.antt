-- While a frame is read or written no attempt goes on that is over.
use Rattle.attempt_ledger.specs.declared.row.RowEnd.{RowEnd}
use Rattle.session_actions.specs.Actions.{first_action, following, following_in, of_links, of_policies, of_stage}
use Rattle.session_actions.specs.AttemptEnds.{cut, cut_end, end_of, next_cut}
use Rattle.session_actions.specs.Attempts.{call_of, commitment, is_outstanding, is_over, is_over_in}
use Rattle.session_actions.specs.CallEnds.{has_long_request, has_long_response, is_cancelled, is_over_by_row, next_ended}
use Rattle.session_actions.specs.Commitments.{next_final, next_headed, next_inherited, next_overflow}
use Rattle.session_actions.specs.Making.{next_transparent}
use Rattle.session_actions.specs.Words.{first_of, holds}
use Rattle.session_actions.specs.declared.action.Action.{Action}
use Rattle.session_actions.specs.declared.attempt.Attempt.{Attempt}
use Rattle.session_actions.specs.declared.call.Call.{Call}
use Rattle.session_actions.specs.declared.entry.OpenEntry.{OpenEntry}
use Rattle.session_actions.specs.declared.seen.Seen.{Seen}
use Rattle.session_order.proofs.SessionLaws.Found.{AtFirst, first_at}
use Rattle.std.proofs.Common.{Bool, List, None, Option, Some, [], ap, false, if◌then◌else◌, is_some, not, refl, slice_get, suc, sym, true, zero, ℕ, ◌&&◌, ◌==◌, ◌||◌, ◌∙◌, ◌∷◌, ◌≡◌}
use Rattle.std.specs.Option.{option_or}
use Rattle.std.specs.Prelude.{option_and_then}
use Rattle.session_actions.specs.declared.action.Action.TheVariants as action
use Rattle.grpc_base.specs.declared.event.EndCause.TheVariants as ending

abbrev is_end_of_one : Action → Bool
is_end_of_one (action.AttemptEnds row e) = true
is_end_of_one _ = false

first_or : (o p q : Option Action) (a x : Action) → option_or (option_or o p) q ≡ Some a → o ≡ Some x → x ≡ a
first_or o p q a x e f =
    let both : ◌≡◌ {A = Option Action} (Some x) (Some a) = sym (ap (λ (z : Option Action). option_or (option_or z p) q) f) ∙ e in (cc)

cut_by : (b : Bool) (row : ℕ) (e : RowEnd) (x : Action) → (if b then Some (action.AttemptEnds row e) else None) ≡ Some x → is_end_of_one x ≡ true
cut_by true row e x is = let one : action.AttemptEnds row e ≡ x = (cc) in ap is_end_of_one (sym one)
cut_by false row e x is = absurd (let bad : ◌≡◌ {A = Option Action} None (Some x) = is in (cc))

cuts_end : (s : Seen) (x : Action) → next_cut s ≡ Some x → is_end_of_one x ≡ true
cuts_end s x e =
    let f : AtFirst (cut s) s.attempts x = first_at (cut s) s.attempts x e in
    cut_by (is_outstanding f.item && is_over f.item s) f.item.place (end_of f.item cut_end s) x f.gives

none_first_by : {X Y : Type 0} (f : X → Option Y) (z x : X) (xs : List X) → option_or (f z) (first_of f xs) ≡ None → (o : Option Y) → f z ≡ o
    → (first_of f xs ≡ None → (j : ℕ) → slice_get xs j ≡ Some x → f x ≡ None) → (i : ℕ) → slice_get (z ∷ xs) i ≡ Some x → f x ≡ None
none_first_by {Y = Y} f z x xs e (Some y) is rest i got =
    absurd (let bad : ◌≡◌ {A = Option Y} (Some y) None = sym (ap (λ (p : Option Y). option_or p (first_of f xs)) is) ∙ e in (cc))
none_first_by f z x xs e None is rest zero got = let one : z ≡ x = (cc) in ap f (sym one) ∙ is
none_first_by {Y = Y} f z x xs e None is rest (suc j) got = rest (sym (ap (λ (p : Option Y). option_or p (first_of f xs)) is) ∙ e) j got

none_first : {X Y : Type 0} (f : X → Option Y) (xs : List X) → first_of f xs ≡ None → (i : ℕ) (x : X) → slice_get xs i ≡ Some x → f x ≡ None
none_first {X = X} f [] e i x got = absurd (let bad : ◌≡◌ {A = Option X} None (Some x) = got in (cc))
none_first f (z ∷ xs) e i x got = none_first_by f z x xs e (f z) refl (λ g j at. none_first f xs g j x at) i got

not_given : (b : Bool) (x : Action) → (if b then Some x else None) ≡ None → b ≡ false
not_given true x e = absurd (let bad : ◌≡◌ {A = Option Action} (Some x) None = e in (cc))
not_given false x e = refl

module _ (s : Seen) (a : Action) (o : OpenEntry) (current : s.current ≡ Some o) (next : following s ≡ Some a) (other : is_end_of_one a ≡ false) where
  given : following_in s o ≡ Some a
  given = sym (ap (option_and_then (following_in s)) current) ∙ next

  none_by : (p : Option Action) → next_cut s ≡ p → p ≡ None
  none_by None e = refl
  none_by (Some x) e =
      let same : x ≡ a
      = first_or (next_cut s)
      (first_action (next_transparent s ∷ next_inherited s ∷ next_ended ending.Row (is_over_by_row s) s ∷ next_final s ∷ next_ended ending.Cancelled (is_cancelled o) s
      ∷ next_ended ending.Request (has_long_request o s) s ∷ next_overflow s ∷ next_headed s ∷ next_ended ending.Response (has_long_response s) s ∷ []))
      (first_action (of_links o s ∷ of_policies o s ∷ of_stage o s o.stage ∷ [])) a x given e in
      absurd (let bad : true ≡ false = sym (cuts_end s x e) ∙ (ap is_end_of_one same ∙ other) in (cc))

  pub none_over : (i : ℕ) (b : Attempt) → slice_get s.attempts i ≡ Some b → (is_outstanding b && is_over b s) ≡ false
  none_over i b got =
      not_given (is_outstanding b && is_over b s) (action.AttemptEnds b.place (end_of b cut_end s))
      (none_first (cut s) s.attempts (none_by (next_cut s) refl) i b got)

  -- so none of a call that ended is outstanding
  over_now : (c : Call) (b : Attempt) → call_of b s ≡ Some c → is_some c.end ≡ true → is_over b s ≡ true
  over_now c b its closed =
      ap (holds (λ (d : Call). is_over_in d b s)) its
      ∙ ap (λ (x : Bool). x || holds (λ (k : Attempt). not (k.row.number == b.row.number)) (commitment c s)) closed

  pub never_outstanding : (c : Call) (i : ℕ) (b : Attempt) → slice_get s.attempts i ≡ Some b → call_of b s ≡ Some c → is_some c.end ≡ true → is_outstanding b ≡ true → ⊥
  never_outstanding c i b got its closed goes =
      let bad : true ≡ false = sym (ap (λ (x : Bool). x && is_over b s) goes ∙ over_now c b its closed) ∙ none_over i b got in (cc)
