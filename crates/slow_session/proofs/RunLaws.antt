-- Actions one after the other.
use Rattle.std.proofs.Common.{◌≡◌, ◌∙◌, false, true, Option, None, Some, List, [], ◌∷◌, ◌++◌, ap, append_assoc, refl, subst, sym}
use Rattle.std.specs.Prelude.{option_to_list}
use Rattle.attempt_ledger.specs.declared.ledger.Ledger.{Ledger}
use Rattle.grpc_base.specs.declared.event.Entry.{Entry}
use Rattle.grpc_base.specs.declared.event.Stamped.{Stamped}
use Rattle.session_actions.specs.Actions.{after, following}
use Rattle.session_actions.specs.Entries.{may_open}
use Rattle.session_actions.specs.Laws.{posted_by, posted_in}
use Rattle.session_actions.specs.Sessions.{Does, IsNext, ledger_of, new_session}
use Rattle.session_actions.specs.declared.action.Action.{Action}
use Rattle.session_actions.specs.declared.seen.Seen.{Seen}
use Rattle.session_actions.specs.declared.seen.Setup.{Setup}
use Rattle.session_actions.specs.declared.action.Action.TheVariants as action
use Rattle.slow_session.specs.Parts.{is_opening}
use Rattle.slow_session.specs.Plays.{IsSessionOf, Makes, Plays, Settles}

-- an action that follows and opens no entry is the next one
pub is_next : (a : Action) (s : Seen) → is_opening a ≡ false → following s ≡ Some a → IsNext a s
is_next (action.EntryOpens posted word event) s opening next = cc
is_next a s opening next = next

-- and brings nothing from outside
unposted : (a : Action) → is_opening a ≡ false → posted_by a ≡ None
unposted (action.EntryOpens posted word event) opening = absurd (cc)
unposted a opening = refl

-- one action more before
pub one_more : (a : Action) (s u t : Seen) → is_opening a ≡ false → IsNext a s → u ≡ after a s → Settles u t → Settles s t
one_more a s u t opening next made h = record {
  actions = a ∷ h.actions;
  does = (next, subst (λ (v : Seen). Does h.actions v t) made h.does);
  unposted = ap (λ (o : Option Stamped). option_to_list o ++ posted_in h.actions) (unposted a opening) ∙ h.unposted;
  between = h.between;
}

pub none_more : (s : Seen) → s.current ≡ None → Settles s s
none_more s h = record { actions = []; does = refl; unposted = refl; between = h }

-- actions after others
does_more : (first more : List Action) (s t u : Seen) → Does first s t → Does more t u → Does (first ++ more) s u
does_more [] more s t u h k = subst (λ (v : Seen). Does more v u) h k
does_more (a ∷ first) more s t u h k = (h.0, does_more first more (after a s) t u h.1 k)

-- and what both bring from outside
posted_more : (first more : List Action) → posted_in (first ++ more) ≡ posted_in first ++ posted_in more
posted_more [] more = refl
posted_more (a ∷ first) more =
    ap (λ (ps : List Stamped). option_to_list (posted_by a) ++ ps) (posted_more first more)
    ∙ sym (append_assoc (option_to_list (posted_by a)) (posted_in first) (posted_in more))

-- what a run of events does is a list of actions, in which they are posted
record PlayedActions (xs : List Stamped) (s t : Seen) : Type 0 where
  actions : List Action
  does : Does actions s t
  posted : posted_in actions ≡ xs
  between : t.current ≡ None

posted_first : (x : Stamped) (xs : List Stamped) (made more : List Action) → posted_in made ≡ [] → posted_in more ≡ xs
    → posted_in (action.EntryOpens x.moment x.word x.event ∷ made ++ more) ≡ x ∷ xs
posted_first x xs made more none rest =
    ap (λ (ps : List Stamped). x ∷ ps) (posted_more made more ∙ ap (λ (ps : List Stamped). ps ++ posted_in more) none ∙ rest)

played_from : (xs : List Stamped) (s t : Seen) → s.current ≡ None → Plays xs s t → PlayedActions xs s t
played_from [] s t h p = record { actions = []; does = p; posted = refl; between = subst (λ (v : Seen). v.current ≡ None) (sym p) h }
played_from (x ∷ xs) s t h p =
    let made : Settles (after (action.EntryOpens x.moment x.word x.event) s) p.0 = p.1.1 in
    let more : PlayedActions xs p.0 t = played_from xs p.0 t made.between p.2 in
    record {
      actions = action.EntryOpens x.moment x.word x.event ∷ made.actions ++ more.actions;
      does = (p.1.0, does_more made.actions more.actions (after (action.EntryOpens x.moment x.word x.event) s) p.0 t made.does more.does);
      posted = posted_first x xs made.actions more.actions made.unposted more.posted;
      between = more.between;
    }

-- journal and ledger of what these events did are those of their session
pub session_is : (setup : Setup) (xs : List Stamped) (t : Seen) (entries : List Entry) (ledger : Ledger) → Plays xs (new_session setup) t
    → entries ≡ t.entries → ledger ≡ ledger_of t → IsSessionOf setup xs entries ledger
session_is setup xs t entries ledger p journal recorded =
    let all : PlayedActions xs (new_session setup) t = played_from xs (new_session setup) t refl p in (
      record { actions = all.actions; end = t; does = all.does; between = all.between; journal = sym journal; recorded = sym recorded },
      all.posted,
    )
