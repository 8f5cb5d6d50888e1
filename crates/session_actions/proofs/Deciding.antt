-- What is posted decides a list of actions: two lists go the same way, action by action.
use Rattle.std.proofs.Common.{◌≡◌, ◌++◌, ◌∷◌, ap, refl, subst, sym, ◌∙◌, Bool, true, List, [], Option, None, Some, ◌&&◌, is_none}
use Rattle.std.specs.Prelude.{option_and_then, option_to_list}
use Rattle.attempt_ledger.specs.declared.ledger.Ledger.{Ledger}
use Rattle.grpc_base.specs.declared.event.Entry.{Entry}
use Rattle.grpc_base.specs.declared.event.Stamped.{Stamped}
use Rattle.session_actions.specs.Actions.{after, following, following_in}
use Rattle.session_actions.specs.Entries.{has_room}
use Rattle.session_actions.specs.Laws.{posted_by, posted_in}
use Rattle.session_actions.specs.Sessions.{Does, IsConsistent, IsNext, ledger_of}
use Rattle.session_actions.specs.declared.action.Action.{Action}
use Rattle.session_actions.specs.declared.entry.OpenEntry.{OpenEntry}
use Rattle.session_actions.specs.declared.seen.Seen.{Seen}
use Rattle.session_actions.specs.declared.seen.Setup.{Setup}
use Rattle.session_actions.specs.declared.action.Action.TheVariants as action

-- while no entry is being made, nothing follows of itself
nothing_follows : (s : Seen) → s.current ≡ None → following s ≡ None
nothing_follows s none = ap (λ (o : Option OpenEntry). option_and_then (following_in s) o) none

is_none_of : (o : Option OpenEntry) (b : Bool) → (is_none o && b) ≡ true → o ≡ None
is_none_of None b h = refl
is_none_of (Some o) b h = absurd (cc)

-- an action that nobody posts follows; one that is posted comes where no entry is being made
follows : (a : Action) (s : Seen) → posted_by a ≡ None → IsNext a s → following s ≡ Some a
follows (action.EntryOpens posted word e) s none_posted h = absurd (cc)
follows a s none_posted h = h

abbrev opens : Stamped → Action
opens p = action.EntryOpens p.moment p.word p.event

is_opening : (a : Action) (p : Stamped) → posted_by a ≡ Some p → a ≡ opens p
is_opening (action.EntryOpens posted word e) p is =
    let same : record { moment = posted; word = word; event = e } ≡ p = (cc) in
    ap opens same
is_opening a p is = absurd (cc)

between : (a : Action) (p : Stamped) (s : Seen) → posted_by a ≡ Some p → IsNext a s → s.current ≡ None
between (action.EntryOpens posted word e) p s is h = is_none_of s.current (has_room e s) h
between a p s is h = absurd (cc)

-- where no entry is being made, the next action is posted
none_else : (a : Action) (s : Seen) → posted_by a ≡ None → IsNext a s → s.current ≡ None → ⊥
none_else a s none_posted h none =
    let here : following s ≡ Some a = follows a s none_posted h in
    let nothing : following s ≡ None = nothing_follows s none in
    (cc)

-- so a list that brings nothing has no action there
no_more : (b : Action) (ys : List Action) (s : Seen) (o : Option Stamped) → posted_by b ≡ o → IsNext b s → s.current ≡ None
    → [] ≡ posted_in (b ∷ ys) → ⊥
no_more b ys s None is h none e = none_else b s is h none
no_more b ys s (Some p) is h none e =
    let bad : [] ≡ p ∷ posted_in ys = subst (λ (o : Option Stamped). [] ≡ option_to_list o ++ posted_in ys) is e in
    (cc)

-- the first actions of two lists are the same, and what the rests bring
same_first : (a b : Action) (xs ys : List Action) (s : Seen) (o q : Option Stamped) → posted_by a ≡ o → posted_by b ≡ q
    → IsNext a s → IsNext b s → posted_in (a ∷ xs) ≡ posted_in (b ∷ ys) → (a ≡ b) × (posted_in xs ≡ posted_in ys)
same_first a b xs ys s None None x y h k e =
    let one : following s ≡ Some a = follows a s x h in
    let two : following s ≡ Some b = follows b s y k in
    let left : posted_in xs ≡ option_to_list (posted_by b) ++ posted_in ys
    = subst (λ (o : Option Stamped). option_to_list o ++ posted_in xs ≡ option_to_list (posted_by b) ++ posted_in ys) x e in
    let both : posted_in xs ≡ posted_in ys = subst (λ (o : Option Stamped). posted_in xs ≡ option_to_list o ++ posted_in ys) y left in
    let same : a ≡ b = (cc) in
    (same, both)
same_first a b xs ys s None (Some q) x y h k e = absurd (none_else a s x h (between b q s y k))
same_first a b xs ys s (Some p) None x y h k e = absurd (none_else b s y k (between a p s x h))
same_first a b xs ys s (Some p) (Some q) x y h k e =
    let left : p ∷ posted_in xs ≡ option_to_list (posted_by b) ++ posted_in ys
    = subst (λ (o : Option Stamped). option_to_list o ++ posted_in xs ≡ option_to_list (posted_by b) ++ posted_in ys) x e in
    let both : p ∷ posted_in xs ≡ q ∷ posted_in ys
    = subst (λ (o : Option Stamped). p ∷ posted_in xs ≡ option_to_list o ++ posted_in ys) y left in
    let same : p ≡ q = (cc) in
    let rest : posted_in xs ≡ posted_in ys = (cc) in
    (is_opening a p x ∙ ap opens same ∙ sym (is_opening b q y), rest)

pub decided : (xs ys : List Action) (s t u : Seen) → Does xs s t → Does ys s u → t.current ≡ None → u.current ≡ None
    → posted_in xs ≡ posted_in ys → (xs ≡ ys) × (t ≡ u)
decided [] [] s t u x y tn un e = (refl, x ∙ sym y)
decided [] (b ∷ ys) s t u x y tn un e =
    absurd (no_more b ys s (posted_by b) refl y.0 (ap (λ (v : Seen). v.current) (sym x) ∙ tn) e)
decided (a ∷ xs) [] s t u x y tn un e =
    absurd (no_more a xs s (posted_by a) refl x.0 (ap (λ (v : Seen). v.current) (sym y) ∙ un) (sym e))
decided (a ∷ xs) (b ∷ ys) s t u x y tn un e =
    let first : (a ≡ b) × (posted_in xs ≡ posted_in ys) = same_first a b xs ys s (posted_by a) (posted_by b) refl refl x.0 y.0 e in
    let onward : Does ys (after a s) u = subst (λ (c : Action). Does ys (after c s) u) (sym first.0) y.1 in
    let rest : (xs ≡ ys) × (t ≡ u) = decided xs ys (after a s) t u x.1 onward tn un first.1 in
    (ap (λ (c : Action). c ∷ xs) first.0 ∙ ap (λ (l : List Action). b ∷ l) rest.0, rest.1)

pub session_decided : (setup : Setup) (entries others : List Entry) (ledger other : Ledger)
    (this : IsConsistent setup entries ledger) (that : IsConsistent setup others other)
    → posted_in this.actions ≡ posted_in that.actions → (entries ≡ others) × (ledger ≡ other)
session_decided setup entries others ledger other this that e =
    let same = decided this.actions that.actions _ this.end that.end this.does that.does this.between that.between e in (
      sym this.journal ∙ ap (λ (v : Seen). v.entries) same.1 ∙ that.journal,
      sym this.recorded ∙ ap ledger_of same.1 ∙ that.recorded,
    )
