-- A call begins; and its application finishes its request before its configuration comes.
use Rattle.std.proofs.Common.{◌≡◌, ◌+◌, ap, refl, sym, ◌∙◌, false, List, [], None, Some, ℕ, filter, length, map}
use Rattle.std.specs.List.{list_any}
use Rattle.attempt_ledger.specs.declared.ledger.CallSeen.{CallSeen}
use Rattle.call_actions.proofs.Unconfigured.{unconfigured_attempts, entry_replied, none_live}
use Rattle.call_actions.proofs.Lists.{filter_none, numbered_last}
use Rattle.call_actions.specs.Laws.{CallsBegin, begun_ledger}
use Rattle.call_core.specs.Parts.{no_attempts}
use Rattle.grpc_base.specs.declared.event.Event.TheVariants as event
use Rattle.grpc_base.specs.declared.event.Reply.TheVariants as reply
use Rattle.ledger_stamps.specs.Steps as stamps
use Rattle.session_actions.specs.Attempts.{is_of}
use Rattle.session_actions.specs.Deliveries.{begun_call, call_begun_by}
use Rattle.session_actions.specs.Entries.{entry, now}
use Rattle.session_actions.specs.Sessions.{call_seen}
use Rattle.session_actions.specs.Words.{numbered}
use Rattle.session_actions.specs.declared.attempt.Attempt.{Attempt}
use Rattle.session_actions.specs.declared.call.Call.{Call}
use Rattle.session_actions.specs.declared.seen.Seen.{Seen}

abbrev seen_by : ℕ → List ℕ → CallSeen
seen_by begun made = record { begun = begun; configured = None; made = made; end = None }

-- no row of it was made
none_noted : (s : Seen) (c : Call) → list_any (is_of c) s.attempts ≡ false → map (λ (a : Attempt). a.made) (filter (is_of c) s.attempts) ≡ []
none_noted s c none = ap (map (λ (a : Attempt). a.made)) (filter_none (is_of c) (is_of c) (λ a e. e) s.attempts none)

pub calls_begin : CallsBegin
calls_begin s request ledger acts here rows same none =
    let number : ℕ = length s.calls + 1 in
    let c : Call = begun_call number (entry s) (now s) request in
    let t : Seen = call_begun_by (event.Begin request) s in
    let entry_now : entry t ≡ ledger.entry = entry_replied s (reply.Call number) ∙ here in
    let noted : call_seen t c ≡ stamps.begun_call ledger.entry
    = ap (λ (l : List ℕ). seen_by (entry s) l) (none_noted t c none) ∙ ap (λ (e : ℕ). seen_by e []) here in
    let last : numbered (begun_ledger ledger).calls number ≡ Some (call_seen t c)
    = ap (λ (k : ℕ). numbered (begun_ledger ledger).calls (k + 1)) same ∙ numbered_last ledger.calls (stamps.begun_call ledger.entry)
    ∙ ap (λ (k : CallSeen). Some k) (sym noted) in
    record {
      call = c;
      sees = record {
        own = numbered_last s.calls c;
        number_is = refl;
        request = refl;
        begun = refl;
        chosen = refl;
        finished = refl;
        longest_is = refl;
        ended = refl;
        attempts = unconfigured_attempts t c none no_attempts (record { newest = refl; placed = refl; stopped = refl; forced = λ e. refl }) refl refl refl refl refl refl refl;
        live = none_live t c none;
        tokens = refl;
        entry_is = entry_now;
        rows = rows;
        call_is = last;
      };
      awaiting_config = record { config = refl; configured = refl; end = refl; marks = refl; none = none };
    }
