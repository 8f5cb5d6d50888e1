-- Along a list of actions of one call or of no call, of every other call nothing changes, nothing comes and nothing is written.
use Rattle.call_actions.proofs.CallsApart.Acts.{others_stay}
use Rattle.call_actions.proofs.CallsApart.Fair.{books_along, others_along}
use Rattle.call_actions.specs.CallsApart.Apart.{IsApart, IsBook, acts_on}
use Rattle.call_actions.specs.CallsApart.Laws.{ActionsAreOfOthers}
use Rattle.call_cases.proofs.OtherCalls.Grows.{GrowsBut, but_begun, but_grown, but_on, grows_by, grows_same}
use Rattle.channel_actions.specs.KeptSessions.Kept.{IsKept}
use Rattle.call_cases.specs.OtherCalls.Others.{ActionsAreOfCall, GoesApart, IsBooked}
use Rattle.session_actions.specs.Actions.{after}
use Rattle.session_actions.specs.Attempts.{is_of}
use Rattle.session_actions.specs.Sessions.{Does}
use Rattle.session_actions.specs.Words.{holds, is_number, numbered}
use Rattle.session_actions.specs.declared.action.Action.TheVariants as action
use Rattle.session_actions.specs.declared.action.Action.{Action}
use Rattle.session_actions.specs.declared.call.Call.{Call}
use Rattle.session_actions.specs.declared.seen.Seen.{Seen}
use Rattle.std.proofs.Common.{Bool, List, None, Option, Some, [], ap, eqb-true, false, refl, subst, sym, true, ℕ, ◌==◌, ◌∙◌, ◌∷◌, ◌≡◌}
use Rattle.std.specs.Option.{option_map_or}
use Rattle.call_actions.proofs.TakesApart.Received.{others_are_received}
use Rattle.call_actions.specs.TakesApart.Received.{IsReceivedAlike}

other_by : (m number n : ℕ) (b : Bool) → (m == n) ≡ b → (m == number) ≡ true → (n == number) ≡ false → b ≡ false
other_by m number n false e same off = refl
other_by m number n true e same off =
    let one : m ≡ n = eqb-true m n e in
    let both : true ≡ false = sym same ∙ ap (λ (k : ℕ). k == number) one ∙ off in absurd (cc)

other_number : (number : ℕ) (c : Call) (o : Option ℕ) → option_map_or (λ (k : ℕ). k == number) o true ≡ true → (c.number == number) ≡ false → is_number c.number o ≡ false
other_number number c None e off = refl
other_number number c (Some m) e off = other_by m number c.number (m == c.number) refl e off

module _ (number : ℕ) (c : Call) (off : (c.number == number) ≡ false) where
  others_of : (actions : List Action) (s : Seen) → ActionsAreOfCall number actions s → ActionsAreOfOthers c actions s
  others_of [] s h = tt
  others_of (a ∷ actions) s h = (other_number number c (acts_on a s) h.0.acts off, others_of actions (after a s) h.1)

  received_on : (s t u : Seen) → IsApart s t c → IsReceivedAlike s t c → IsReceivedAlike t u c → IsReceivedAlike s u c
  received_on s t u k f g = record {
    came = λ place a got mine. g.came place a (k.rows place (ap (holds (is_of c)) got ∙ mine) ∙ got) mine ∙ f.came place a got mine;
    written = λ place a got mine. g.written place a (k.rows place (ap (holds (is_of c)) got ∙ mine) ∙ got) mine ∙ f.written place a got mine;
  }

  received_none : (s : Seen) → IsReceivedAlike s s c
  received_none s = record { came = λ place a got mine. refl; written = λ place a got mine. refl }

  received_along : (actions : List Action) (s t : Seen) → IsBook s → numbered s.calls c.number ≡ Some c → Does actions s t → ActionsAreOfCall number actions s → IsReceivedAlike s t c
  received_along [] s t book own does h = subst (λ (z : Seen). IsReceivedAlike s z c) (sym does) (received_none s)
  received_along (a ∷ actions) s t book own does h =
      let acts : is_number c.number (acts_on a s) ≡ false = other_number number c (acts_on a s) h.0.acts off in
      let first : IsApart s (after a s) c = others_stay s c a book own acts in
      received_on s (after a s) t first (others_are_received s c a book own acts (h.0.passes c own off))
      (received_along actions (after a s) t (books_along (a ∷ []) s (after a s) book (does.0, refl)) (first.call ∙ own) does.1 h.1)

  pub goes_apart : (s t : Seen) → GoesApart number s t → numbered s.calls c.number ≡ Some c → IsApart s t c
  goes_apart s t g own = others_along c g.actions s t g.earlier.book own g.does (others_of g.actions s g.apart)

  pub goes_received : (s t : Seen) → GoesApart number s t → numbered s.calls c.number ≡ Some c → IsReceivedAlike s t c
  goes_received s t g own = received_along g.actions s t g.earlier.book own g.does g.apart

-- and the session grows
step : (number : ℕ) (a : Action) (s : Seen) → option_map_or (λ (k : ℕ). k == number) (acts_on a s) true ≡ true → GrowsBut number s (after a s)
step number action.CallBegins s acts = but_begun number s acts
step number a s acts = but_grown number s (after a s) (grows_by a s refl)

grows_along : (number : ℕ) (actions : List Action) (s t : Seen) → Does actions s t → ActionsAreOfCall number actions s → GrowsBut number s t
grows_along number [] s t does h =
    subst (λ (z : Seen). GrowsBut number s z) (sym does)
    (but_grown number s s (grows_same s s (record { calls = refl; attempts = refl; configs = refl; runs = refl })))
grows_along number (a ∷ actions) s t does h =
    but_on number s (after a s) t (step number a s h.0.acts) (grows_along number actions (after a s) t does.1 h.1)

pub goes_on : (number : ℕ) (s t : Seen) → GoesApart number s t → GrowsBut number s t
goes_on number s t g = grows_along number g.actions s t g.does g.apart

-- what a session keeps has it all
pub booked : (s : Seen) → IsKept s → IsBooked s
booked s k = record { book = k.book; owned = k.owned; reads = k.reads }
