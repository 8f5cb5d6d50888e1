-- Between two entries a call has ended that is committed to an attempt with an end that counts; and what journal and ledger show of Takes.
use Rattle.attempt_ledger.specs.Journals.{taken as reported}
use Rattle.attempt_ledger.specs.declared.ledger.CallEnd.{CallEnd}
use Rattle.attempt_ledger.specs.declared.ledger.Ledger.{Ledger}
use Rattle.channel_actions.proofs.Calls.Few.Reached.{reached_on}
use Rattle.channel_actions.specs.FewCalls.Reached.{IsReached}
use Rattle.grpc_base.specs.declared.event.Entry.{Entry}
use Rattle.grpc_base.specs.declared.event.Event.{Event}
use Rattle.grpc_base.specs.declared.event.Reply.{Reply}
use Rattle.session_actions.specs.Actions.{after, after_if, after_in, following, following_in}
use Rattle.session_actions.specs.Attempts.{commitment, is_counted}
use Rattle.session_actions.specs.Deliveries.{available, is_end}
use Rattle.session_actions.specs.Entries.{has_room, may_open, opened_entry}
use Rattle.session_actions.specs.Sessions.{Does, IsConsistent, IsNext, new_session}
use Rattle.session_actions.specs.Words.{holds, numbered}
use Rattle.session_actions.specs.declared.action.Action.{Action}
use Rattle.session_actions.specs.declared.attempt.Attempt.{Attempt}
use Rattle.session_actions.specs.declared.call.Call.{Call}
use Rattle.session_actions.specs.declared.entry.OpenEntry.{OpenEntry}
use Rattle.session_actions.specs.declared.seen.Seen.{Seen}
use Rattle.session_actions.specs.declared.seen.Setup.{Setup}
use Rattle.session_order.proofs.SessionLaws.Found.{none_of}
use Rattle.session_takes.proofs.Free.{ends_come}
use Rattle.session_takes.proofs.CommitmentPassesAlong.{after_then}
use Rattle.session_takes.proofs.Journals.{closing_is, journals_report}
use Rattle.session_takes.proofs.Pending.{event_of, is_unanswered}
use Rattle.session_takes.proofs.Taken.{takes_are_first}
use Rattle.session_takes.proofs.Report.{ReportsThat, act, is_closing}
use Rattle.session_takes.proofs.Whole.{ended_whole, takes_are_whole}
use Rattle.session_takes.specs.Journals.{JournalsReportFirst, JournalsReportWhole}
use Rattle.session_takes.specs.Takes.{EndsByAttempt, EndsComeAtOnce, taken_in, whole_response}
use Rattle.std.proofs.Common.{Bool, List, None, Option, Some, [], ap, false, is_none, is_some, length, refl, subst, suc, sym, take, true, zero, ℕ, ◌∙◌, ◌∷◌, ◌≡◌}
use Rattle.std.proofs.lemmas.Bool.{and_parts}
use Rattle.std.specs.List.{list_any}
use Rattle.std.specs.Prelude.{option_and_then}
use Rattle.session_actions.specs.declared.action.Action.TheVariants as action

abbrev EndsAreThere : Seen → Type 0
EndsAreThere s =
    s.current ≡ None → (k : ℕ) (c : Call) → numbered s.calls k ≡ Some c → holds (λ (a : Attempt). is_counted a s) (commitment c s) ≡ true → is_some c.end ≡ true

-- an entry that is being made goes on, unless it closes
still_made : (s t : Seen) (o : OpenEntry) → s.current ≡ Some o → event_of t.current ≡ event_of s.current → t.current ≡ None → ⊥
still_made s t o current same none =
    let bad : ◌≡◌ {A = Option Event} None (Some o.event) = sym (ap event_of none) ∙ same ∙ ap event_of current in (cc)

closed_there : (s : Seen) (o : OpenEntry) → s.current ≡ Some o → IsNext action.EntryCloses s → EndsAreThere (after_in o action.EntryCloses s)
closed_there s o current next between k c there counts = ends_come s next k c there counts

-- (whether the entry was answered before its event is carried along)
record Carried (s : Seen) : Type 0 where
  ends : EndsAreThere s
  fresh : is_unanswered s.current ≡ true

moves : (s : Seen) (reached : IsReached s) (o : OpenEntry) (current : s.current ≡ Some o) (a : Action) → following s ≡ Some a → (b : Bool) → is_closing a ≡ b → is_unanswered s.current ≡ true
    → Carried (after_in o a s)
moves s reached o current a next true is fresh =
    let closes : a ≡ action.EntryCloses = closing_is a is in
    let then_next : following s ≡ Some action.EntryCloses = next ∙ ap (λ (x : Action). Some x) closes in
    subst (λ (x : Action). Carried (after_in o x s)) (sym closes) (record { ends = closed_there s o current then_next; fresh = refl })
moves s reached o current a next false is fresh =
    let g : ReportsThat 0 s reached o current fresh a (after_in o a s) = act 0 s reached o current fresh a next is in
    record { ends = λ none k c there counts. absurd (still_made s (after_in o a s) o current g.event none); fresh = g.later }

opens : (s : Seen) (posted word : ℕ) (x : Event) → s.current ≡ None → Carried (after (action.EntryOpens posted word x) s)
opens s posted word x none =
    subst Carried (sym (ap (λ (c : Option OpenEntry). after_if c (action.EntryOpens posted word x) s) none))
    (record {
      ends = λ between k c there counts. absurd (let bad : ◌≡◌ {A = Option OpenEntry} (Some (opened_entry posted word x s)) None = between in (cc));
      fresh = refl;
    })

goes_on : (s : Seen) (a : Action) → IsReached s → following s ≡ Some a → (c : Option OpenEntry) → s.current ≡ c → Carried s → Carried (after a s)
goes_on s a reached next None e h = absurd (let bad : ◌≡◌ {A = Option Action} None (Some a) = sym (ap (option_and_then (following_in s)) e) ∙ next in (cc))
goes_on s a reached next (Some o) e h = subst Carried (sym (after_then s a o e)) (moves s reached o e a next (is_closing a) refl h.fresh)

opens_on : (s : Seen) (posted word : ℕ) (x : Event) → may_open x s ≡ true → Carried (after (action.EntryOpens posted word x) s)
opens_on s posted word x may = opens s posted word x (none_of s.current (and_parts (is_none s.current) (has_room x s) may).0)

step : (s : Seen) (a : Action) → IsReached s → IsNext a s → Carried s → Carried (after a s)
step s (action.EntryOpens posted word x) reached next h = opens_on s posted word x next
step s a reached next h = goes_on s a reached next s.current refl h

along : (actions : List Action) (s t : Seen) → IsReached s → Carried s → Does actions s t → Carried t
along [] s t reached h does = subst Carried (sym does) h
along (a ∷ actions) s t reached h does = along actions (after a s) t (reached_on s (after a s) (a ∷ []) reached (does.0, refl)) (step s a reached does.0 h) does.1

no_calls : (setup : Setup) → EndsAreThere (new_session setup)
no_calls setup between zero c there counts = absurd (let bad : ◌≡◌ {A = Option Call} None (Some c) = there in (cc))
no_calls setup between (suc i) c there counts = absurd (let bad : ◌≡◌ {A = Option Call} None (Some c) = there in (cc))

carried : (setup : Setup) (actions : List Action) (s : Seen) → Does actions (new_session setup) s → Carried s
carried setup actions s does =
    along actions (new_session setup) s (record { setup = setup; actions = []; does = refl }) (record { ends = no_calls setup; fresh = refl }) does

-- so all of the response is there
whole_there : (s : Seen) (c : Call) (b : EndsByAttempt s c) → (o : Option CallEnd) → c.end ≡ o → is_some c.end ≡ true → available c s ≡ whole_response b.attempt b.end s
whole_there s c b None e some = absurd (let bad : false ≡ true = sym (ap (λ (p : Option CallEnd). is_some p) e) ∙ some in (cc))
whole_there s c b (Some y) e some = ended_whole s c b y e

pub ends_come_at_once : EndsComeAtOnce
ends_come_at_once setup actions s does between k c there b =
    let counts : holds (λ (a : Attempt). is_counted a s) (commitment c s) ≡ true = ap (holds (λ (a : Attempt). is_counted a s)) b.committed ∙ b.counts in
    whole_there s c b c.end refl ((carried setup actions s does).ends between k c there counts)

-- of journal and ledger
reported_so : (setup : Setup) (entries : List Entry) (ledger : Ledger) (x : IsConsistent setup entries ledger) (k : ℕ) → reported k entries ≡ taken_in k x.actions
reported_so setup entries ledger x k = ap (reported k) (sym x.journal) ∙ journals_report setup x.actions x.end x.does x.between k

pub journals_report_first : JournalsReportFirst
journals_report_first setup entries ledger x k c there =
    let h : (length (taken_in k x.actions) ≡ c.taken) × (taken_in k x.actions ≡ take c.taken (available c x.end)) = takes_are_first setup x.actions x.end x.does k c there in
    (ap (λ (l : List Reply). length l) (reported_so setup entries ledger x k) ∙ h.0, reported_so setup entries ledger x k ∙ h.1)

pub journals_report_whole : JournalsReportWhole
journals_report_whole setup entries ledger x k c there b =
    let same : reported k entries ≡ taken_in k x.actions = reported_so setup entries ledger x k in
    let h : (taken_in k x.actions ≡ take c.taken (whole_response b.attempt b.end x.end)) × (list_any is_end (taken_in k x.actions) ≡ true → taken_in k x.actions ≡ whole_response b.attempt b.end x.end)
    = takes_are_whole setup x.actions x.end x.does k c there b in
    (ends_come_at_once setup x.actions x.end x.does x.between k c there b, same ∙ h.0, λ e. same ∙ h.1 (sym (ap (list_any is_end) same) ∙ e))
