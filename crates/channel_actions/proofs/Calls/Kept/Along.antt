-- It holds of a new session, after each action that is next, and so after every list of actions.
use Rattle.attempt_ledger.specs.declared.ledger.CallEnd.{CallEnd}
use Rattle.channel_actions.proofs.Calls.Kept.Lines.{next_fits}
use Rattle.channel_actions.proofs.Calls.Kept.Parts.{Early}
use Rattle.channel_actions.proofs.Calls.Kept.Steps.{early_after}
use Rattle.channel_actions.specs.KeptCalls.Early.{IsEarlyKept, has_none, is_early, is_past}
use Rattle.channel_actions.specs.KeptCalls.Laws.{UnconfiguredHaveNoAttempts, EarlyAlong, EarlyBegins, EarlyStays}
use Rattle.channel_actions.proofs.KeptSessions.Along.{kept_stays}
use Rattle.channel_actions.proofs.KeptSessions.Lines.{next_sound}
use Rattle.channel_actions.proofs.KeptSessions.Lists.{all_at, counted_places}
use Rattle.channel_actions.specs.KeptSessions.Kept.{IsKept}
use Rattle.call_actions.specs.ReadsInOrder.Laws.{ReadsOn}
use Rattle.session_actions.specs.Actions.{after}
use Rattle.session_actions.specs.Sessions.{IsNext}
use Rattle.session_actions.specs.Words.{holds, numbered}
use Rattle.session_actions.specs.declared.action.Action.TheVariants as action
use Rattle.session_actions.specs.declared.action.Action.{Action}
use Rattle.session_actions.specs.declared.attempt.Attempt.{Attempt}
use Rattle.session_actions.specs.declared.call.Call.{Call}
use Rattle.session_actions.specs.declared.call.Mark.{Mark}
use Rattle.session_actions.specs.declared.seen.Seen.{Seen}
use Rattle.std.proofs.Common.{Bool, List, None, Option, Some, [], ap, eqb-true, false, is_none, is_some, refl, subst, sym, true, ℕ, ◌==◌, ◌||◌, ◌∙◌, ◌∷◌, ◌≡◌}
use Rattle.std.proofs.lemmas.Bool.{and_parts, or_from}
use Rattle.std.specs.List.{list_all, list_any}

pub early_begins : EarlyBegins
early_begins setup = record { resets = refl; saw = refl; made = refl; awaiting_config = refl; boards = refl }

reads_so : (s : Seen) (a : Action) → IsKept s → IsNext a s → ReadsOn a s
reads_so s (action.FrameRead link r) kept next = next_sound s (action.FrameRead link r) kept next
reads_so s _ kept next = tt

pub early_stays : EarlyStays
early_stays s a kept early next =
    let h : Early (after a s)
    = early_after s a (next_fits s a kept early next) (reads_so s a kept next)
    (record { resets = early.resets; saw = early.saw; made = early.made; awaiting_config = early.awaiting_config; boards = early.boards }) in
    record { resets = h.resets; saw = h.saw; made = h.made; awaiting_config = h.awaiting_config; boards = h.boards }

pub early_along : EarlyAlong
early_along [] s t kept early does = subst IsEarlyKept (sym does) early
early_along (a ∷ actions) s t kept early does = early_along actions (after a s) t (kept_stays s a kept does.0) (early_stays s a kept early does.0) does.1

-- an open call without a config
no_marks : (marks : List Mark) → has_none marks ≡ true → marks ≡ []
no_marks [] e = refl
no_marks (m ∷ marks) e = absurd (cc)

nothing : {X : Type 0} (o : Option X) → is_none o ≡ true → o ≡ None
nothing None e = refl
nothing (Some x) e = absurd (cc)

not_past : (c : Call) → c.end ≡ None → c.config ≡ None → is_past c ≡ false
not_past c end config = ap (λ (o : Option CallEnd). is_some o || is_some c.config) end ∙ ap (λ (o : Option ℕ). is_some o) config

not_own : (s : Seen) (c : Call) (k : ℕ) (a : Attempt) (b : Bool) → numbered s.calls k ≡ Some c → (a.row.call == k) ≡ b → is_past c ≡ false
    → holds is_past (numbered s.calls a.row.call) ≡ true → (a.row.call == k) ≡ false
not_own s c k a false own e early past = e
not_own s c k a true own e early past =
    let both : true ≡ false = sym past ∙ ap (λ (j : ℕ). holds is_past (numbered s.calls j)) (eqb-true a.row.call k e) ∙ ap (holds is_past) own ∙ early in absurd (cc)

none_of : (s : Seen) (c : Call) (k : ℕ) (attempts : List Attempt) → numbered s.calls k ≡ Some c → is_past c ≡ false
    → list_all (λ (a : Attempt). holds is_past (numbered s.calls a.row.call)) attempts ≡ true → list_any (λ (a : Attempt). a.row.call == k) attempts ≡ false
none_of s c k [] own early made = refl
none_of s c k (a ∷ attempts) own early made =
    let both : (holds is_past (numbered s.calls a.row.call) ≡ true) × (list_all (λ (q : Attempt). holds is_past (numbered s.calls q.row.call)) attempts ≡ true)
    = and_parts (holds is_past (numbered s.calls a.row.call)) (list_all (λ (q : Attempt). holds is_past (numbered s.calls q.row.call)) attempts) made in
    or_from (a.row.call == k) (list_any (λ (q : Attempt). q.row.call == k) attempts) (not_own s c k a (a.row.call == k) own refl early both.0)
    (none_of s c k attempts own early both.1)

pub unconfigured_have_no_attempts : UnconfiguredHaveNoAttempts
unconfigured_have_no_attempts s number c kept early own end config =
    let past : is_past c ≡ false = not_past c end config in
    let sound : (is_past c || is_early c) ≡ true = all_at (λ (d : Call). is_past d || is_early d) s.calls number c early.awaiting_config own in
    let first : is_early c ≡ true = sym (ap (λ (b : Bool). b || is_early c) past) ∙ sound in
    let both : (is_none c.configured ≡ true) × (has_none c.marks ≡ true) = and_parts (is_none c.configured) (has_none c.marks) first in
    let here : c.number ≡ number = counted_places (λ (d : Call). d.number) s.calls kept.calls number c own in
    record {
      config = config;
      configured = nothing c.configured both.0;
      end = end;
      marks = no_marks c.marks both.1;
      none = none_of s c c.number s.attempts (ap (numbered s.calls) here ∙ own) past early.made;
    }
