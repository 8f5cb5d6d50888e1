-- No attempt but a transparent retry is made of a call that is committed. A call has ended, where an entry ends, whose attempt has an end that counts.
-- every call that is committed was so since it got its config
use Rattle.attempt_ledger.specs.Numbering.{is_transparent}
use Rattle.attempt_ledger.specs.declared.ledger.CallEnd.{CallEnd}
use Rattle.attempt_ledger.specs.declared.row.RowKind.{RowKind}
use Rattle.channel_actions.proofs.Calls.Few.Reached.{reached_on}
use Rattle.channel_actions.proofs.KeptSessions.Along.{places_of}
use Rattle.channel_actions.specs.FewCalls.Reached.{IsReached}
use Rattle.session_actions.specs.Actions.{after}
use Rattle.session_actions.specs.Attempts.{commitment, is_counted}
use Rattle.session_actions.specs.CallEnds.{is_over_by_row}
use Rattle.session_actions.specs.DueAttempts.{next_due}
use Rattle.session_actions.specs.Sessions.{Does, IsNext, new_session}
use Rattle.session_actions.specs.Words.{holds, numbered}
use Rattle.session_actions.specs.declared.action.Action.{Action}
use Rattle.session_actions.specs.declared.attempt.Attempt.{Attempt}
use Rattle.session_actions.specs.declared.call.Call.{Call}
use Rattle.session_actions.specs.declared.entry.OpenEntry.{OpenEntry}
use Rattle.session_actions.specs.declared.seen.Seen.{Seen}
use Rattle.session_actions.specs.declared.seen.Setup.{Setup}
use Rattle.session_order.proofs.Changed.{passes_not}
use Rattle.session_order.proofs.SessionLaws.Found.{same_of}
use Rattle.session_order.proofs.SessionLaws.Lines.{IsDueBy, IsRetried, next_asks}
use Rattle.session_order.proofs.Waits.{ends_where_nothing_waits}
use Rattle.session_order.specs.Quiescent.{NoneIs}
use Rattle.session_order.specs.Waits.{NothingDueWaits}
use Rattle.session_takes.proofs.Acts.{goes}
use Rattle.session_takes.proofs.Continues.{Continues, none_yet}
use Rattle.session_takes.proofs.CommitmentPassesAlong.{entry_of, kept_of}
use Rattle.session_takes.proofs.Settled.{Settles, never_due}
use Rattle.session_takes.proofs.Taken.{FreshIf, IsFresh, fresh_if}
use Rattle.session_takes.specs.Commits.{FreeCallsAttempt}
use Rattle.session_takes.specs.Takes.{taken_by}
use Rattle.std.proofs.Common.{Bool, List, None, Option, Some, [], ap, false, inl, inr, is_none, is_some, length, refl, subst, suc, sym, true, zero, ℕ, ◌&&◌, ◌∙◌, ◌∷◌, ◌≡◌, ◌⊎◌}
use Rattle.session_actions.specs.declared.action.Action.TheVariants as action
use Rattle.session_order.specs.declared.line.Line.TheVariants as line
use Rattle.session_actions.specs.declared.entry.Stage.TheVariants as stage

abbrev AllSettle : Seen → Type 0
AllSettle s = (n : ℕ) (c : Call) → numbered s.calls n ≡ Some c → Settles s c

settles_new : (t : Seen) (n : ℕ) (d : Call) → IsReached t → numbered t.calls n ≡ Some d → IsFresh d → Settles t d
settles_new t n d reached there f =
    let number : d.number ≡ n = (places_of t (kept_of t reached)).calls n d there in
    let own : numbered t.calls d.number ≡ Some d = ap (numbered t.calls) number ∙ there in
    let none : commitment d t ≡ None = none_yet t reached d own f.open_now f.unconfigured (commitment d t) refl in
    λ e. absurd (let bad : false ≡ true = sym (ap (λ (p : Option Attempt). is_some p) none) ∙ e in (cc))

settles_by_call : (s : Seen) (a : Action) (n : ℕ) (d : Call) → IsReached s → IsReached (after a s) → IsNext a s → AllSettle s → (o : Option Call) → numbered s.calls n ≡ o
    → numbered (after a s).calls n ≡ Some d → Settles (after a s) d
settles_by_call s a n d reached later next h None none there =
    settles_new (after a s) n d later there (subst FreshIf there (fresh_if s.current a s n none))
settles_by_call s a n d reached later next h (Some c) was there =
    let number : c.number ≡ n = (places_of s (kept_of s reached)).calls n c was in
    let own : numbered s.calls c.number ≡ Some c = ap (numbered s.calls) number ∙ was in
    let g : Continues s (after a s) c (length (taken_by c.number a)) = goes s reached c own a next in
    let one : g.call ≡ d = same_of (numbered (after a s).calls n) g.call d (ap (numbered (after a s).calls) (sym number) ∙ g.there) there in
    subst (Settles (after a s)) one (g.settles (h n c was))

settles_after : (s : Seen) (a : Action) → IsReached s → IsReached (after a s) → IsNext a s → AllSettle s → AllSettle (after a s)
settles_after s a reached later next h n d there = settles_by_call s a n d reached later next h (numbered s.calls n) refl there

settles_along : (actions : List Action) (s t : Seen) → IsReached s → AllSettle s → Does actions s t → AllSettle t
settles_along [] s t reached h does = subst AllSettle (sym does) h
settles_along (a ∷ actions) s t reached h does =
    let later : IsReached (after a s) = reached_on s (after a s) (a ∷ []) reached (does.0, refl) in
    settles_along actions (after a s) t later (settles_after s a reached later does.0 h) does.1

settles_first : (setup : Setup) → AllSettle (new_session setup)
settles_first setup zero c there = absurd (let bad : ◌≡◌ {A = Option Call} None (Some c) = there in (cc))
settles_first setup (suc i) c there = absurd (let bad : ◌≡◌ {A = Option Call} None (Some c) = there in (cc))

all_settle : (s : Seen) → IsReached s → AllSettle s
all_settle s r = settles_along r.actions (new_session r.setup) s (record { setup = r.setup; actions = []; does = refl }) (settles_first r.setup) r.does

free_by : (s : Seen) (c : Call) (due : ℕ) → Settles s c → next_due c s ≡ Some due → (o : Option Attempt) → commitment c s ≡ o → o ≡ None
free_by s c due h is None e = refl
free_by s c due h is (Some k) e = absurd (never_due c s due (h (ap (λ (p : Option Attempt). is_some p) e)) is)

free_if : (s : Seen) (call number due : ℕ) (kind : RowKind) (c : Call) → IsReached s → IsRetried call number kind s ⊎ IsDueBy call number kind due s → is_transparent kind ≡ false
    → numbered s.calls call ≡ Some c → commitment c s ≡ None
free_if s call number due kind c reached (inl r) further there =
    absurd (let bad : true ≡ false = sym (ap is_transparent r.kind) ∙ further in (cc))
free_if s call number due kind c reached (inr d) further there =
    let at : d.here.number ≡ suc d.index = (places_of s (kept_of s reached)).calls (suc d.index) d.here d.there in
    let one : d.here ≡ c = same_of (numbered s.calls call) d.here c (ap (numbered s.calls) (sym d.is ∙ at) ∙ d.there) there in
    let due_of : next_due c s ≡ Some due = ap (λ (z : Call). next_due z s) (sym one) ∙ d.due in
    free_by s c due (all_settle s reached call c there) due_of (commitment c s) refl

pub free_calls_attempt : FreeCallsAttempt
free_calls_attempt setup actions s does call number due kind next further c there =
    free_if s call number due kind c (record { setup = setup; actions = actions; does = does }) (next_asks s (action.AttemptMade call number kind due) next) further there

-- where an entry ends, nothing is left of the line by which calls end by their attempts
not_open : (o : Option CallEnd) (counts : Bool) → counts ≡ true → (is_none o && counts) ≡ false → is_some o ≡ true
not_open None counts e is = absurd (let bad : true ≡ false = sym e ∙ is in (cc))
not_open (Some x) counts e is = refl

pub ends_come : (s : Seen) → IsNext action.EntryCloses s → (k : ℕ) (c : Call) → numbered s.calls k ≡ Some c → holds (λ (a : Attempt). is_counted a s) (commitment c s) ≡ true
    → is_some c.end ≡ true
ends_come s next k c there counts =
    let o : (o : OpenEntry) × (s.current ≡ Some o) = entry_of s action.EntryCloses next in
    let waits : (o.0.stage ≡ stage.Settling) × NothingDueWaits o.0 s = (ends_where_nothing_waits o.0 s o.1).0 next in
    let none : NoneIs (is_over_by_row s) s.calls = waits.1.quiescent line.Row in
    not_open c.end (holds (λ (a : Attempt). is_counted a s) (commitment c s)) counts (passes_not (is_over_by_row s) s.calls k c none there)
