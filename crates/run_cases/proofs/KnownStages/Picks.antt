-- The last pick request, where it was answered with a subchannel, was answered with one that was made: a policy gives only those that are there, and none goes.
use Rattle.attempt_ledger.specs.declared.ledger.Ask.{Ask}
use Rattle.channel_actions.proofs.KeptSessions.Along.{kept_begins, kept_stays}
use Rattle.channel_actions.proofs.KeptSessions.Lines.{next_sound}
use Rattle.channel_actions.proofs.KeptSessions.Lists.{last_more}
use Rattle.channel_actions.specs.KeptSessions.Kept.{IsKept, has_link_for}
use Rattle.channel_actions.proofs.Calls.Few.Walk.{Passes, none_left, passes_in}
use Rattle.attempt_cases.specs.NetChains.Chains.{IsPickThere}
use Rattle.grpc_base.specs.declared.event.Event.TheVariants as event
use Rattle.grpc_base.specs.declared.event.Event.{Event}
use Rattle.grpc_base.specs.declared.kind.Pick.TheVariants as pick
use Rattle.grpc_base.specs.declared.kind.Pick.{Pick}
use Rattle.session_actions.specs.Actions.{after, after_if, after_in}
use Rattle.session_actions.specs.Deliveries.{call_begun_by}
use Rattle.session_actions.specs.Entries.{entry}
use Rattle.session_actions.specs.Sessions.{Does, IsNext, new_session}
use Rattle.session_actions.specs.Words.{holds, last_of, numbered}
use Rattle.session_actions.specs.declared.action.Action.TheVariants as action
use Rattle.session_actions.specs.declared.action.Action.{Action}
use Rattle.session_actions.specs.declared.entry.OpenEntry.{OpenEntry}
use Rattle.session_actions.specs.declared.seen.Seen.{Seen}
use Rattle.session_actions.specs.declared.seen.Setup.{Setup}
use Rattle.session_actions.specs.declared.subchannel.Subchannel.{Subchannel}
use Rattle.std.proofs.Common.{Bool, List, None, Option, Some, [], ap, arith, is_some, length, refl, slice_get, subst, suc, sym, true, zero, ℕ, ◌++◌, ◌∙◌, ◌∷◌, ◌≡◌, ◌≤◌}

-- the last pick request, if it was answered with a subchannel, was with one that was made
picks_after : (s t : Seen) → Passes s t → IsPickThere s → IsPickThere t
picks_after s t p h ask sub last is =
    let a : sub ≤ length s.subs = h ask sub (sym (ap last_of p.asks) ∙ last) is in
    let b : length s.subs ≤ length t.subs = p.subs in omega (arith, a, b)

picks_begun : (e : Event) (s : Seen) → IsPickThere s → IsPickThere (call_begun_by e s)
picks_begun (event.Begin request) s h = h
picks_begun _ s h = h

below_long : {X : Type 0} (xs : List X) (i : ℕ) → is_some (slice_get xs i) ≡ true → suc i ≤ length xs
below_long [] i e = absurd (cc)
below_long (x ∷ xs) zero e = omega arith
below_long (x ∷ xs) (suc i) e = (let h : suc i ≤ length xs = below_long xs i e in omega (arith, h))

some_held : {X : Type 0} (test : X → Bool) (o : Option X) → holds test o ≡ true → is_some o ≡ true
some_held test None e = e
some_held test (Some x) e = refl

there_at : {X : Type 0} (xs : List X) (n : ℕ) → is_some (numbered xs n) ≡ true → n ≤ length xs
there_at xs zero e = none_left (length xs)
there_at xs (suc i) e = below_long xs i e

place_there : (subs : List Subchannel) (p : Pick) (sub : ℕ) → has_link_for subs p ≡ true → p ≡ pick.Place sub → sub ≤ length subs
place_there subs p sub has is =
    there_at subs sub (some_held (λ (b : Subchannel). is_some b.link) (numbered subs sub) (ap (has_link_for subs) (sym is) ∙ has))

was_last : {X : Type 0} (x y : X) (xs : List X) → last_of (xs ++ x ∷ []) ≡ Some y → y ≡ x
was_last x y xs e = (let one : Some x ≡ Some y = sym (last_more xs x) ∙ e in (cc))

picks_in : (o : OpenEntry) (a : Action) (s : Seen) → IsKept s → IsNext a s → IsPickThere s → IsPickThere (after_in o a s)
picks_in o action.EntryCloses s kept next h = h
picks_in o action.CallBegins s kept next h = picks_begun o.event s h
picks_in o (action.PickRequested row generation answer) s kept next h = λ ask sub last is.
    (let new : Ask = record { entry = entry s; generation = generation; row = row; answer = answer } in
    let same : ask ≡ new = was_last new ask s.asks last in
    place_there s.subs answer sub (next_sound s (action.PickRequested row generation answer) kept next).1 (sym (ap (λ (k : Ask). k.answer) same) ∙ is))
picks_in o a s kept next h = picks_after s (after_in o a s) (passes_in o a s refl) h

picks_if : (o : Option OpenEntry) (a : Action) (s : Seen) → IsKept s → IsNext a s → IsPickThere s → IsPickThere (after_if o a s)
picks_if (Some o) a s kept next h = picks_in o a s kept next h
picks_if None (action.EntryOpens posted word e) s kept next h = h
picks_if None a s kept next h = h

picks_along : (actions : List Action) (s t : Seen) → IsKept s → IsPickThere s → Does actions s t → IsPickThere t
picks_along [] s t kept h does = subst IsPickThere (sym does) h
picks_along (a ∷ actions) s t kept h does =
    picks_along actions (after a s) t (kept_stays s a kept does.0) (picks_if s.current a s kept does.0 h) does.1

pub picks_are_there : (setup : Setup) (actions : List Action) (s : Seen) → Does actions (new_session setup) s → IsPickThere s
picks_are_there setup actions s does =
    picks_along actions (new_session setup) s (kept_begins setup) (λ ask sub last is. (let no : None ≡ Some ask = last in absurd (cc))) does
