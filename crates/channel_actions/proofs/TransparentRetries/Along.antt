-- It is so in every session; and what follows for readers.
use Rattle.call_actions.proofs.CallsApart.Fair.{lines_are_fair}
use Rattle.call_actions.specs.CallsApart.Apart.{IsBook, IsFair}
use Rattle.channel_actions.proofs.Calls.Few.Reached.{reached_on}
use Rattle.channel_actions.proofs.KeptSessions.Along.{kept_begins, kept_stays}
use Rattle.channel_actions.proofs.KeptSessions.Lists.{counted_places}
use Rattle.channel_actions.proofs.TransparentRetries.Fits.{AreTaking, FitsRetried}
use Rattle.channel_actions.proofs.TransparentRetries.Lines.{next_fits}
use Rattle.channel_actions.proofs.TransparentRetries.Makes.{which}
use Rattle.channel_actions.proofs.TransparentRetries.Picks.{taking_after}
use Rattle.channel_actions.proofs.TransparentRetries.Rows.{HasLater, Retried}
use Rattle.channel_actions.proofs.TransparentRetries.Steps.{retried_after}
use Rattle.channel_actions.specs.FewCalls.Reached.{IsReached}
use Rattle.channel_actions.specs.KeptSessions.Kept.{IsKept}
use Rattle.channel_actions.specs.TransparentRetries.Laws.{RefusedOnce, UnsentOncePerLink}
use Rattle.session_actions.specs.Actions.{after}
use Rattle.session_actions.specs.Attempts.{is_followed, is_later_of}
use Rattle.session_actions.specs.Sessions.{Does, IsNext, new_session}
use Rattle.session_actions.specs.declared.action.Action.TheVariants as action
use Rattle.session_actions.specs.declared.action.Action.{Action}
use Rattle.session_actions.specs.declared.attempt.Attempt.{Attempt}
use Rattle.session_actions.specs.declared.seen.Seen.{Seen}
use Rattle.session_actions.specs.declared.seen.Setup.{Setup}
use Rattle.session_order.proofs.SessionLaws.Numbers.{attempts_are_numbered}
use Rattle.session_order.specs.SessionLaws.Attempts.{IsCounted, RetriesRepeat}
use Rattle.std.proofs.Common.{ap, arith, inl, inr, subst, sym}
use Rattle.std.proofs.lemmas.Bool.{and_parts, eqb-true, ltb-true}
use Rattle.std.specs.List.{list_any}
use Rattle.std.specs.Prelude.{Bool, List, None, Some, [], false, nat_lt, refl, slice_get, suc, true, zero, ℕ, ◌&&◌, ◌<◌, ◌==◌, ◌||◌, ◌∷◌, ◌≡◌, ◌⊎◌}

-- what is carried along
record Carried (s : Seen) : Type 0 where
  kept : IsKept s
  reached : IsReached s
  taking : AreTaking s
  retried : Retried s

fair : (s : Seen) (a : Action) → IsBook s → IsNext a s → IsFair a s
fair s (action.AttemptEnds row end) book next = lines_are_fair s (action.AttemptEnds row end) book next
fair s (action.CallConfigured call config) book next = lines_are_fair s (action.CallConfigured call config) book next
fair s _ book next = tt

step : (s : Seen) (a : Action) → Carried s → IsNext a s → Carried (after a s)
step s a c next =
    let fits : FitsRetried a s = next_fits s a c.kept c.taking next in
    let numbers : IsCounted s × RetriesRepeat s = attempts_are_numbered c.reached.setup c.reached.actions s c.reached.does in
    record {
      kept = kept_stays s a c.kept next;
      reached = reached_on s (after a s) (a ∷ []) c.reached (next, refl);
      taking = taking_after s a c.kept next fits c.taking;
      retried = retried_after s a c.kept numbers.0 numbers.1 (fair s a c.kept.book next) fits c.retried;
    }

along : (actions : List Action) (s t : Seen) → Carried s → Does actions s t → Carried t
along [] s t c does = subst Carried (sym does) c
along (a ∷ actions) s t c does = along actions (after a s) t (step s a c does.0) does.1

begins : (setup : Setup) → Carried (new_session setup)
begins setup = record {
  kept = kept_begins setup;
  reached = record { setup = setup; actions = []; does = refl };
  taking = λ ask last placing. absurd (let no : None ≡ Some ask = last in (cc));
  retried = record {
    ended = λ i a got l. absurd (let no : None ≡ Some a = got in (cc));
    refused = λ i j a b first second call l m e f. absurd (let no : None ≡ Some a = first in (cc));
    unsent = λ i a got e. absurd (let no : None ≡ Some a = got in (cc));
    apart = λ i j a b at to first second less same unsent on off link. (let no : None ≡ Some a = first in (cc));
  };
}

carried : (setup : Setup) (actions : List Action) (s : Seen) → Does actions (new_session setup) s → Carried s
carried setup actions s does = along actions (new_session setup) s (begins setup) does

pub are_retried : (setup : Setup) (actions : List Action) (s : Seen) → Does actions (new_session setup) s → IsKept s × Retried s
are_retried setup actions s does = let c : Carried s = carried setup actions s does in (c.kept, c.retried)

-- as it is said to readers: an attempt that is followed has a later one
abbrev HasOne : (Attempt → Bool) → List Attempt → Type 0
HasOne p xs = (i : ℕ) × ((x : Attempt) × (slice_get xs i ≡ Some x) × (p x ≡ true))

find_by : (p : Attempt → Bool) (x : Attempt) (xs : List Attempt) (b : Bool) → p x ≡ b → (b || list_any p xs) ≡ true → (list_any p xs ≡ true → HasOne p xs) → HasOne p (x ∷ xs)
find_by p x xs true is e rest = (0, (x, refl, is))
find_by p x xs false is e rest = let r : HasOne p xs = rest e in (suc r.0, r.1)

find_any : (p : Attempt → Bool) (xs : List Attempt) → list_any p xs ≡ true → HasOne p xs
find_any p [] e = absurd (cc)
find_any p (x ∷ xs) e = find_by p x xs (p x) refl e (find_any p xs)

less_of : (n m : ℕ) → nat_lt n m ≡ true → n < m
less_of n m e = ltb-true n m e

pub later_of : (s : Seen) (i : ℕ) (a : Attempt) → IsKept s → slice_get s.attempts i ≡ Some a → is_followed a s ≡ true → HasLater s.attempts i a
later_of s i a kept got e =
    let r : HasOne (is_later_of a) s.attempts = find_any (is_later_of a) s.attempts e in
    let b : Attempt = r.1.0 in
    let parts : (((b.row.call == a.row.call) && (b.row.number == a.row.number)) ≡ true) × (nat_lt a.place b.place ≡ true)
    = and_parts ((b.row.call == a.row.call) && (b.row.number == a.row.number)) (nat_lt a.place b.place) r.1.2 in
    let both : ((b.row.call == a.row.call) ≡ true) × ((b.row.number == a.row.number) ≡ true) = and_parts (b.row.call == a.row.call) (b.row.number == a.row.number) parts.0 in
    let p : a.place ≡ suc i = counted_places (λ (z : Attempt). z.place) s.attempts kept.attempts (suc i) a got in
    let q : b.place ≡ suc r.0 = counted_places (λ (z : Attempt). z.place) s.attempts kept.attempts (suc r.0) b r.1.1 in
    record {
      index = r.0;
      later = b;
      here = r.1.1;
      afterwards = before i r.0 a.place b.place p q (less_of a.place b.place parts.1);
      same = (sym (eqb-true b.row.call a.row.call both.0), sym (eqb-true b.row.number a.row.number both.1));
    }
  where
    before : (i j n m : ℕ) → n ≡ suc i → m ≡ suc j → n < m → i < j
    before i j n m e f g = omega (arith, e, f, g)

pub refused_once : RefusedOnce
refused_once setup actions s does zero j a b first second call e f g h = absurd (cc)
refused_once setup actions s does (suc i) zero a b first second call e f g h = absurd (cc)
refused_once setup actions s does (suc i) (suc j) a b first second call e f g h =
    let c : IsKept s × Retried s = are_retried setup actions s does in
    let same : i ≡ j = c.1.refused i j a b first second call (later_of s i a c.0 first f) (later_of s j b c.0 second h) e g in ap (λ (n : ℕ). suc n) same

pub unsent_once : UnsentOncePerLink
unsent_once setup actions s does zero j a b at to first second call number e f on off link = absurd (cc)
unsent_once setup actions s does (suc i) zero a b at to first second call number e f on off link = absurd (cc)
unsent_once setup actions s does (suc i) (suc j) a b at to first second call number e f on off link =
    elim (which i j) [
      | inl less ↦ absurd (c.1.apart i j a b at to first second less (call, number) e on off link)
      | inr rest ↦ by_rest rest
    ]
  where
    c : IsKept s × Retried s
    c = are_retried setup actions s does

    by_rest : (i ≡ j) ⊎ (j < i) → suc i ≡ suc j
    by_rest (inl same) = ap (λ (n : ℕ). suc n) same
    by_rest (inr less) = absurd (c.1.apart j i b a to at second first less (sym call, sym number) f off on (sym link))
