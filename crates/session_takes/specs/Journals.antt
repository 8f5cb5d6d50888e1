-- What the journal of a session shows of a call, for whoever knows the journal and the ledger alone: they are those of a list of actions (`IsConsistent`).
-- Example: the Takes of call 1 in the journal reported a head, the message `ab` and the end OK. In its list of actions call 1 is committed to an attempt whose
-- response is this head and `ab`, and which ended with OK.
use Rattle.std.specs.List.{list_any}
use Rattle.std.specs.Prelude.{List, Some, length, take, true, ℕ, ◌≡◌}
use Rattle.attempt_ledger.specs.Journals.{taken}
use Rattle.attempt_ledger.specs.declared.ledger.Ledger.{Ledger}
use Rattle.grpc_base.specs.declared.event.Entry.{Entry}
use Rattle.session_actions.specs.Deliveries.{available, is_end}
use Rattle.session_actions.specs.Sessions.{IsConsistent}
use Rattle.session_actions.specs.Words.{numbered}
use Rattle.session_actions.specs.declared.call.Call.{Call}
use Rattle.session_actions.specs.declared.seen.Setup.{Setup}
use Rattle.session_takes.specs.Takes.{EndsByAttempt, whole_response}

-- its Takes of a call reported the first items of what the call has at last
abbrev pub JournalsReportFirst : Type 0
JournalsReportFirst =
    (setup : Setup) (entries : List Entry) (ledger : Ledger) (x : IsConsistent setup entries ledger) (k : ℕ) (c : Call) → numbered x.end.calls k ≡ Some c
    → (length (taken k entries) ≡ c.taken) × (taken k entries ≡ take c.taken (available c x.end))

-- and where its attempt ended by itself, head, messages and end of the response, all of them once an end was reported
abbrev pub JournalsReportWhole : Type 0
JournalsReportWhole =
    (setup : Setup) (entries : List Entry) (ledger : Ledger) (x : IsConsistent setup entries ledger) (k : ℕ) (c : Call) → numbered x.end.calls k ≡ Some c
    → (b : EndsByAttempt x.end c)
    → (available c x.end ≡ whole_response b.attempt b.end x.end) × (taken k entries ≡ take c.taken (whole_response b.attempt b.end x.end))
    × (list_any is_end (taken k entries) ≡ true → taken k entries ≡ whole_response b.attempt b.end x.end)
