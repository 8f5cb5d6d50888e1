-- An attempt that goes on where nothing follows at once: its call is open, and where it is committed, it is to this attempt; so it is where a head came.
use Rattle.std.proofs.Common.{◌≡◌, ◌&&◌, ◌||◌, ◌==◌, ◌∷◌, ap, refl, subst, sym, ◌∙◌, Bool, true, false, List, [], Option, None, Some, ℕ, zero, suc, cond, filter, is_none, is_some, map, slice_get}
use Rattle.std.proofs.lemmas.Bool.{eq-eqb}
use Rattle.std.specs.Option.{option_map}
use Rattle.std.specs.Prelude.{find}
use Rattle.call_actions.proofs.Lists.{numbered_not}
use Rattle.call_actions.proofs.TakeActions.Lists.{found_at}
use Rattle.call_actions.specs.Sees.{Sees, is_live, live_row}
use Rattle.call_core.specs.Laws.{AllAt, IsCommittedTo}
use Rattle.call_core.specs.Parts.{find_live, is_row, names}
use Rattle.call_core.specs.Steps.{is_committed_live}
use Rattle.call_core.specs.declared.live.LiveRow.{LiveRow}
use Rattle.channel_actions.proofs.Gone as gone
use Rattle.channel_actions.proofs.Calls.Going.Slots.{all_numbered}
use Rattle.channel_actions.proofs.Stamps.{counted_at}
use Rattle.channel_actions.specs.Agrees.{Agrees}
use Rattle.channel_actions.specs.Calls.{HasSlot, lent_to}
use Rattle.channel_actions.specs.GoingCalls.Going.{CallsGoOn}
use Rattle.channel_core.specs.States.{StateSeen}
use Rattle.channel_core.specs.declared.state.slots.CallSlot.{CallSlot}
use Rattle.session_actions.specs.Attempts.{call_of, commitment, is_commitment, is_of, is_outstanding, is_over, is_over_in, is_queued}
use Rattle.session_actions.specs.Commitments.{has_head_in, is_free_call, is_headed}
use Rattle.session_actions.specs.Responses.{response}
use Rattle.session_actions.specs.Words.{holds, numbered}
use Rattle.session_actions.specs.declared.attempt.Attempt.{Attempt}
use Rattle.session_actions.specs.declared.call.Call.{Call}
use Rattle.session_actions.specs.declared.entry.OpenEntry.{OpenEntry}
use Rattle.session_actions.specs.declared.seen.Seen.{Seen}
use Rattle.session_order.proofs.Lists.{none_is}
use Rattle.session_order.specs.Quiescent.{IsQuiescent, is_to_cut}
use Rattle.session_order.specs.declared.line.Line.TheVariants as line

-- rows that are all at one place
pub record IsAmong (place : ℕ) (a : Attempt) (rows : List LiveRow) : Type 0 where
  pub same : a.place ≡ place
  pub found : is_some (find_live place rows) ≡ true

found_first : (place : ℕ) (x : Attempt) (rows : List LiveRow) → x.place ≡ place → is_some (find_live place (live_row x ∷ rows)) ≡ true
found_first place x rows e = ap (λ (b : Bool). is_some (cond b (Some (live_row x)) (find (is_row place) rows))) (eq-eqb x.place place e)

among : (place : ℕ) (p : Attempt → Bool) (xs : List Attempt) (i : ℕ) (a : Attempt) → slice_get xs i ≡ Some a → p a ≡ true → AllAt place (map live_row (filter p xs))
    → IsAmong place a (map live_row (filter p xs))
among place p [] i a at e all = absurd (let bad : None ≡ Some a = at in (cc))
among place p (x ∷ xs) zero a at e all =
    let same : x ≡ a = (cc) in first (p x) (ap p same ∙ e) same all
  where
    first : (b : Bool) → b ≡ true → x ≡ a → AllAt place (map live_row (cond b (x ∷ filter p xs) (filter p xs))) → IsAmong place a (map live_row (cond b (x ∷ filter p xs) (filter p xs)))
    first true e same all = record { same = ap (λ (z : Attempt). z.place) (sym same) ∙ all.0; found = found_first place x (map live_row (filter p xs)) all.0 }
    first false e same all = absurd (let bad : false ≡ true = e in (cc))
among place p (x ∷ xs) (suc i) a at e all = further (p x) (λ rest. among place p xs i a at e rest) all
  where
    further : (b : Bool) → (AllAt place (map live_row (filter p xs)) → IsAmong place a (map live_row (filter p xs)))
        → AllAt place (map live_row (cond b (x ∷ filter p xs) (filter p xs))) → IsAmong place a (map live_row (cond b (x ∷ filter p xs) (filter p xs)))
    further true rest all = record { same = (rest all.1).same; found = found_first place x (map live_row (filter p xs)) all.0 }
    further false rest all = rest all

among_at : (place : ℕ) (p : Attempt → Bool) (xs : List Attempt) (n : ℕ) (a : Attempt) → numbered xs n ≡ Some a → p a ≡ true → AllAt place (map live_row (filter p xs))
    → IsAmong place a (map live_row (filter p xs))
among_at place p xs zero a at e all = absurd (let bad : None ≡ Some a = at in (cc))
among_at place p xs (suc i) a at e all = among place p xs i a at e all

-- a row that is there is found
found_or : (place : ℕ) (x : Attempt) (rows : List LiveRow) (b : Bool) → (x.place == place) ≡ b → is_some (find_live place rows) ≡ true → is_some (find_live place (live_row x ∷ rows)) ≡ true
found_or place x rows true e more = ap (λ (b : Bool). is_some (cond b (Some (live_row x)) (find (is_row place) rows))) e
found_or place x rows false e more = ap (λ (b : Bool). is_some (cond b (Some (live_row x)) (find (is_row place) rows))) e ∙ more

live_in : (p : Attempt → Bool) (xs : List Attempt) (i : ℕ) (a : Attempt) → slice_get xs i ≡ Some a → p a ≡ true → is_some (find_live a.place (map live_row (filter p xs))) ≡ true
live_in p [] i a at e = absurd (let bad : None ≡ Some a = at in (cc))
live_in p (x ∷ xs) zero a at e =
    let same : x ≡ a = (cc) in
    ap (λ (b : Bool). is_some (find_live a.place (map live_row (cond b (x ∷ filter p xs) (filter p xs))))) (ap p same ∙ e)
    ∙ found_first a.place x (map live_row (filter p xs)) (ap (λ (z : Attempt). z.place) same)
live_in p (x ∷ xs) (suc i) a at e = further (p x) (live_in p xs i a at e)
  where
    further : (b : Bool) → is_some (find_live a.place (map live_row (filter p xs))) ≡ true → is_some (find_live a.place (map live_row (cond b (x ∷ filter p xs) (filter p xs)))) ≡ true
    further true rest = found_or a.place x (map live_row (filter p xs)) (x.place == a.place) refl rest
    further false rest = rest

live_found : (p : Attempt → Bool) (xs : List Attempt) (n : ℕ) (a : Attempt) → numbered xs n ≡ Some a → p a ≡ true → is_some (find_live a.place (map live_row (filter p xs))) ≡ true
live_found p xs zero a at e = absurd (let bad : None ≡ Some a = at in (cc))
live_found p xs (suc i) a at e = live_in p xs i a at e

-- tests
and_off : (a b : Bool) → a ≡ true → (a && b) ≡ false → b ≡ false
and_off true b e f = f
and_off false b e f = absurd (cc)

first_off : (a b : Bool) → b ≡ true → (a && b) ≡ false → a ≡ false
first_off false b e f = refl
first_off true b e f = absurd (let bad : true ≡ false = sym e ∙ f in (cc))

neither_first : (a b : Bool) → (a || b) ≡ false → a ≡ false
neither_first false b e = refl
neither_first true b e = absurd (cc)

both_on : (a b : Bool) → a ≡ true → b ≡ true → (a && b) ≡ true
both_on true b e f = f
both_on false b e f = absurd (cc)

first_on : (a b : Bool) → a ≡ true → (a || b) ≡ true
first_on true b e = refl
first_on false b e = absurd (cc)

pub there_is : {X : Type 0} (o : Option X) → is_some o ≡ true → (x : X) × (o ≡ Some x)
there_is None e = absurd (cc)
there_is (Some x) e = (x, refl)

not_none : {X : Type 0} (o : Option X) → is_none o ≡ false → is_some o ≡ true
not_none None e = absurd (cc)
not_none (Some x) e = refl

module _ (x : StateSeen) (o : OpenEntry) (s : Seen) (h : Agrees x s) (going : CallsGoOn x) (quiescent : IsQuiescent o s) (a : Attempt) (there : numbered s.attempts a.place ≡ Some a)
    (out : is_outstanding a ≡ true) where
  pub its_call : (c : Call) × (numbered s.calls a.row.call ≡ Some c)
  its_call = there_is (numbered s.calls a.row.call) (gone.all_numbered (λ (q : Attempt). is_some (call_of q s)) s.attempts a.place a there h.kept.owned)

  abbrev pub c : Call
  c = its_call.0

  pub at : numbered s.calls a.row.call ≡ Some c
  at = its_call.1

  pub number_is : c.number ≡ a.row.call
  number_is = counted_at (λ (d : Call). d.number) s.calls a.row.call c h.kept.calls at

  pub mine : is_of c a ≡ true
  mine = eq-eqb a.row.call c.number (sym number_is)

  abbrev pub has : HasSlot x s c a.row.call
  has = h.calls.each a.row.call c at

  abbrev pub slot : CallSlot
  slot = has.slot

  abbrev sees : Sees s c (lent_to x s slot)
  sees = has.sees.serves.sees

  pub live : is_live s c a ≡ true
  live = both_on (is_of c a) (is_outstanding a || is_queued a s) mine (first_on (is_outstanding a) (is_queued a s) out)

  pub row_live : is_some (find_live a.place slot.call.live) ≡ true
  row_live = ap (λ (rows : List LiveRow). is_some (find_live a.place rows)) (sym sees.live) ∙ live_found (is_live s c) s.attempts a.place a there live

  -- it is not over, so its call is open
  over_not : is_over_in c a s ≡ false
  over_not =
      sym (ap (holds (λ (d : Call). is_over_in d a s)) at)
      ∙ and_off (is_outstanding a) (is_over a s) out (numbered_not (is_to_cut s) s.attempts a.place a (quiescent line.Cut) there)

  pub open_now : c.end ≡ None
  open_now = none_is c.end (neither_first (is_some c.end) _ over_not)

  -- where the call is committed, it is to this attempt
  module _ (k : Attempt) (is : commitment c s ≡ Some k) where
    pub committed_is : slot.call.attempts.committed ≡ Some k.place
    committed_is = sym sees.attempts.committed ∙ ap (option_map (λ (q : Attempt). q.place)) is

    to_it : IsCommittedTo slot.call k.place
    to_it = (all_numbered x.book.calls a.row.call slot going.calls has.there).kept.committed k.place committed_is

    pub its_row : IsAmong k.place a (map live_row (filter (is_live s c) s.attempts))
    its_row = among_at k.place (is_live s c) s.attempts a.place a there live (subst (AllAt k.place) (sym sees.live) to_it.live)

    pub itself : k ≡ a
    itself =
        let k_at : numbered s.attempts k.place ≡ Some k = found_at s.attempts has.sees.serves.places (is_commitment c) k is in
        let both : Some k ≡ Some a = sym k_at ∙ ap (numbered s.attempts) (sym its_row.same) ∙ there in
        (cc)

    pub named : is_committed_live a.place slot.call ≡ true
    named =
        both_on (names a.place slot.call.attempts.committed) (is_some (find_live a.place slot.call.live))
        (ap (names a.place) committed_is ∙ eq-eqb k.place a.place (sym its_row.same))
        (ap (λ (n : ℕ). is_some (find_live n slot.call.live)) its_row.same ∙ ap (λ (rows : List LiveRow). is_some (find_live k.place rows)) (sym sees.live) ∙ its_row.found)

  -- and so it is where a head came
  module _ (headed : is_some (response a s).head ≡ true) where
    free_not : is_free_call s c ≡ false
    free_not =
        let none : has_head_in a s c ≡ false
        = sym (ap (holds (has_head_in a s)) at) ∙ and_off (is_outstanding a) (holds (has_head_in a s) (numbered s.calls a.row.call)) out
        (numbered_not (is_headed s) s.attempts a.place a (quiescent line.Head) there) in
        first_off (is_free_call s c) (is_some (response a s).head) headed none

    has_commitment : is_some (commitment c s) ≡ true
    has_commitment =
        not_none (commitment c s)
        (and_off (is_none c.end) (is_none (commitment c s)) (ap (λ (q : _). is_none q) open_now) free_not)

    abbrev one : (k : Attempt) × (commitment c s ≡ Some k)
    one = there_is (commitment c s) has_commitment

    pub committed : commitment c s ≡ Some a
    committed = one.1 ∙ ap (λ (q : Attempt). Some q) (itself one.0 one.1)

    pub committed_live : is_committed_live a.place slot.call ≡ true
    committed_live = named one.0 one.1
