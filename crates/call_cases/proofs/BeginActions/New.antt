-- The session after a call began, and that nothing was there of its number before.
use Rattle.call_cases.proofs.BeginActions.Table.{there}
use Rattle.channel_actions.proofs.Answering.{replied_entry}
use Rattle.channel_actions.proofs.Settles.{with_open}
use Rattle.grpc_base.specs.Requests.{RequestSeen}
use Rattle.grpc_base.specs.declared.event.Event.TheVariants as event
use Rattle.grpc_base.specs.declared.event.Event.{Event}
use Rattle.grpc_base.specs.declared.event.Reply.TheVariants as reply
use Rattle.channel_actions.proofs.KeptSessions.Lists.{all_at}
use Rattle.channel_actions.specs.KeptSessions.Kept.{IsKept}
use Rattle.session_actions.specs.Actions.{after}
use Rattle.session_actions.specs.Attempts.{call_of, is_of}
use Rattle.session_actions.specs.Deliveries.{begun_call, call_begun_by}
use Rattle.session_actions.specs.Entries.{entry, now}
use Rattle.session_actions.specs.Words.{holds, numbered}
use Rattle.session_actions.specs.declared.action.Action.TheVariants as action
use Rattle.session_actions.specs.declared.attempt.Attempt.{Attempt}
use Rattle.session_actions.specs.declared.call.Call.{Call}
use Rattle.session_actions.specs.declared.entry.OpenEntry.{OpenEntry}
use Rattle.session_actions.specs.declared.seen.Seen.{Seen}
use Rattle.session_order.specs.Stirs.{HaveCalls}
use Rattle.std.proofs.Common.{Bool, List, Some, [], ap, arith, cond, eqb-true, false, filter, is_some, length, refl, slice_get, suc, sym, true, zero, ℕ, ◌++◌, ◌+◌, ◌<◌, ◌==◌, ◌∙◌, ◌∷◌, ◌≡◌, ◌≤◌}
use Rattle.std.proofs.lemmas.Bool.{and_parts, or_from, or_parts}
use Rattle.std.specs.List.{list_all, list_any}

-- nothing is after the end of a list
none_afterwards : {X : Type 0} (xs : List X) → is_some (slice_get xs (length xs)) ≡ false
none_afterwards [] = refl
none_afterwards (x ∷ xs) = none_afterwards xs

pub beyond : {X : Type 0} (xs : List X) → is_some (numbered xs (length xs + 1)) ≡ false
beyond xs = let one : length xs + 1 ≡ suc (length xs) = omega arith in ap (λ (k : ℕ). is_some (numbered xs k)) one ∙ none_afterwards xs

pub last_is : {X : Type 0} (xs : List X) (y : X) → numbered (xs ++ y ∷ []) (length xs + 1) ≡ Some y
last_is xs y = let one : length xs + 1 ≡ suc (length xs) = omega arith in ap (numbered (xs ++ y ∷ [])) one ∙ there xs y

-- no attempt is of a call that is not there
off_by : (calls : List Call) (k n : ℕ) (b : Bool) → (k == n) ≡ b → is_some (numbered calls k) ≡ true → is_some (numbered calls n) ≡ false → (k == n) ≡ false
off_by calls k n false e has none = e
off_by calls k n true e has none =
    let both : true ≡ false = sym has ∙ ap (λ (j : ℕ). is_some (numbered calls j)) (eqb-true k n e) ∙ none in absurd (cc)

none_of : (calls : List Call) (n : ℕ) (attempts : List Attempt) → list_all (λ (a : Attempt). is_some (numbered calls a.row.call)) attempts ≡ true
    → is_some (numbered calls n) ≡ false → list_any (λ (a : Attempt). a.row.call == n) attempts ≡ false
none_of calls n [] owned none = refl
none_of calls n (a ∷ attempts) owned none =
    let both : (is_some (numbered calls a.row.call) ≡ true) × (list_all (λ (q : Attempt). is_some (numbered calls q.row.call)) attempts ≡ true)
    = and_parts (is_some (numbered calls a.row.call)) (list_all (λ (q : Attempt). is_some (numbered calls q.row.call)) attempts) owned in
    or_from (a.row.call == n) (list_any (λ (q : Attempt). q.row.call == n) attempts) (off_by calls a.row.call n (a.row.call == n) refl both.0 none)
    (none_of calls n attempts both.1 none)

filter_by : (p : Attempt → Bool) (a : Attempt) (attempts : List Attempt) (b : Bool) → p a ≡ b → b ≡ false → filter p attempts ≡ []
    → cond (p a) (a ∷ filter p attempts) (filter p attempts) ≡ []
filter_by p a attempts b e f rest = ap (λ (c : Bool). cond c (a ∷ filter p attempts) (filter p attempts)) (e ∙ f) ∙ rest

pub filter_none : (p : Attempt → Bool) (attempts : List Attempt) → list_any p attempts ≡ false → filter p attempts ≡ []
filter_none p [] none = refl
filter_none p (a ∷ attempts) none =
    let both : (p a ≡ false) × (list_any p attempts ≡ false) = or_parts (p a) (list_any p attempts) none in
    filter_by p a attempts (p a) refl both.0 (filter_none p attempts both.1)

-- which a pair of sets shows
pub none_at : (p : Attempt → Bool) (attempts : List Attempt) (k : ℕ) → list_any p attempts ≡ false → holds p (numbered attempts k) ≡ false
none_at p attempts zero none = refl
none_at p [] (suc i) none = refl
none_at p (a ∷ attempts) (suc zero) none = (or_parts (p a) (list_any p attempts) none).0
none_at p (a ∷ attempts) (suc (suc i)) none = none_at p attempts (suc i) (or_parts (p a) (list_any p attempts) none).1

module _ (o : OpenEntry) (z : Seen) (request : RequestSeen) where
  abbrev pub before : Seen
  before = with_open o z

  abbrev pub number : ℕ
  number = length z.calls + 1

  abbrev pub new_call : Call
  new_call = begun_call number (entry before) (now before) request

  abbrev pub answered : OpenEntry
  answered = replied_entry (reply.Call number) o

  abbrev pub later : Seen
  later = with_open answered (record z { calls = z.calls ++ new_call ∷ [] })

  pub does_so : o.event ≡ event.Begin request → after action.CallBegins before ≡ later
  does_so is = ap (λ (e : Event). call_begun_by e before) is

  pub none_yet : list_all (λ (a : Attempt). is_some (call_of a before)) z.attempts ≡ true → list_any (is_of new_call) z.attempts ≡ false
  none_yet owned = none_of z.calls number z.attempts owned (beyond z.calls)

-- attempts are of calls that began
within : {X : Type 0} (xs : List X) (i : ℕ) → is_some (slice_get xs i) ≡ true → i < length xs
within [] i e = absurd (cc)
within (x ∷ xs) zero e = omega arith
within (x ∷ xs) (suc i) e = let next : i < length xs = within xs i e in omega (arith, next)

up_to : {X : Type 0} (xs : List X) (k : ℕ) → is_some (numbered xs k) ≡ true → k ≤ length xs
up_to xs zero e = absurd (cc)
up_to xs (suc i) e = let below : i < length xs = within xs i e in omega (arith, below)

pub have_calls : (s : Seen) → IsKept s → HaveCalls s
have_calls s kept k a got = up_to s.calls a.row.call (all_at (λ (q : Attempt). is_some (call_of q s)) s.attempts k a kept.owned got)
