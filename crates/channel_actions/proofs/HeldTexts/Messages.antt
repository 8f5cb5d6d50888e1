-- What a session accepted of the messages of a call is never taken back: no action makes it less.
use Rattle.std.proofs.Common.{◌≡◌, ◌≤◌, ◌+◌, ◌&&◌, ◌++◌, ◌==◌, ◌∷◌, ◌∙◌, not, ap, arith, eqb-true, length-append, refl, sym, Bool, true, false, Err, List, [], Ok, Option, None, Result, Some, ℕ, if◌then◌else◌, length, option_and_then, slice_get}
use Rattle.std.proofs.Math.Nat.{le_refl, le_trans}
use Rattle.std.proofs.lemmas.Bool.{eqb-false}
use Rattle.std.specs.Option.{option_map_or}
use Rattle.attempt_ledger.specs.Ends.{is_cut}
use Rattle.attempt_ledger.specs.Numbering.{is_transparent}
use Rattle.attempt_ledger.specs.declared.row.RowEnd.{RowEnd}
use Rattle.attempt_ledger.specs.declared.row.RowKind.{RowKind}
use Rattle.call_actions.proofs.CallsApart.Plain.{still, turned}
use Rattle.call_actions.proofs.Ends.Tokens.{more_ends}
use Rattle.call_actions.proofs.Lists.{changed_away, changed_here}
use Rattle.call_actions.proofs.Ranks.{numbered_more}
use Rattle.call_actions.proofs.TakeActions.Room.{framed_more}
use Rattle.grpc_base.specs.declared.event.ConfigFault.{ConfigFault}
use Rattle.grpc_base.specs.declared.event.EndCause.{EndCause}
use Rattle.grpc_base.specs.declared.event.Event.TheVariants as event
use Rattle.grpc_base.specs.declared.event.Event.{Event}
use Rattle.grpc_base.specs.declared.event.Reply.TheVariants as reply
use Rattle.grpc_base.specs.declared.plan.Throttle.{Throttle}
use Rattle.grpc_frame.specs.Messages.{framed, framed_all}
use Rattle.h2_frame.specs.Frames.{FrameSeen}
use Rattle.h2_frame.specs.Numbers.{headers_type}
use Rattle.service_config.specs.declared.config.Config.{Config}
use Rattle.session_actions.specs.Actions.{after, after_if, after_in}
use Rattle.session_actions.specs.AttemptEnds.{attempt_ended_as, stream_reset_of, with_end, with_end_in_run}
use Rattle.session_actions.specs.Attempts.{call_of, is_to_follow, marked_row, with_attempt}
use Rattle.session_actions.specs.CallEnds.{call_ended}
use Rattle.session_actions.specs.Calls.{marked, with_call}
use Rattle.session_actions.specs.Commitments.{with_commitment}
use Rattle.session_actions.specs.Configs.{call_configured, config_of_call, config_read, resolver_answered, run_to_join, with_held, with_throttled}
use Rattle.session_actions.specs.Deliveries.{begun_call, call_begun_by, is_end, with_message}
use Rattle.session_actions.specs.Entries.{entry, now, opened, replied}
use Rattle.session_actions.specs.Making.{attempt_made, hedge_withheld, new_row, with_row}
use Rattle.session_actions.specs.Policies.{with_placing}
use Rattle.session_actions.specs.Sessions.{Does}
use Rattle.session_actions.specs.Words.{changed, numbered}
use Rattle.session_actions.specs.Writing.{accepted_bytes, frame_written_on, stream_opened, stream_opened_by, waiting_on, with_stream}
use Rattle.session_actions.specs.declared.action.Action.TheVariants as action
use Rattle.session_actions.specs.declared.action.Action.{Action}
use Rattle.session_actions.specs.declared.attempt.Attempt.{Attempt}
use Rattle.session_actions.specs.declared.call.Call.{Call}
use Rattle.session_actions.specs.declared.call.MarkKind.TheVariants as mark
use Rattle.session_actions.specs.declared.call.MarkKind.{MarkKind}
use Rattle.session_actions.specs.declared.config.HeldConfig.{HeldConfig}
use Rattle.session_actions.specs.declared.entry.OpenEntry.{OpenEntry}
use Rattle.session_actions.specs.declared.link.Link.{Link}
use Rattle.session_actions.specs.declared.link.Sent.TheVariants as sent
use Rattle.session_actions.specs.declared.link.Sent.{Sent}
use Rattle.session_actions.specs.declared.seen.Seen.{Seen}

-- each call is there still, and as much was accepted of it, or more
pub record HasMore (n : ℕ) (least : ℕ) (t : Seen) : Type 0 where
  pub call : Call
  pub there : numbered t.calls n ≡ Some call
  pub more : least ≤ accepted_bytes call

abbrev pub Keeps : Seen → Seen → Type 0
Keeps s t = (n : ℕ) (c : Call) → numbered s.calls n ≡ Some c → HasMore n (accepted_bytes c) t

pub keeps_same : (s t : Seen) → t.calls ≡ s.calls → Keeps s t
keeps_same s t e n c there = record { call = c; there = ap (λ (l : List Call). numbered l n) e ∙ there; more = le_refl (accepted_bytes c) }

pub then_more : (s t u : Seen) → Keeps t u → (n least : ℕ) → HasMore n least t → HasMore n least u
then_more s t u g n least h =
    let k : HasMore n (accepted_bytes h.call) u = g n h.call h.there in record { call = k.call; there = k.there; more = le_trans h.more k.more }

pub keeps_on : (s t u : Seen) → Keeps s t → Keeps t u → Keeps s u
keeps_on s t u f g n c there = then_more s t u g n (accepted_bytes c) (f n c there)

unchanged : (s : Seen) → Keeps s s
unchanged s = keeps_same s s refl

-- one call changes
changed_by : (f : Call → Call) → ((c : Call) → accepted_bytes c ≤ accepted_bytes (f c)) → (k : ℕ) (s : Seen) (n : ℕ) (c : Call) (q : Bool) → (n == k) ≡ q → numbered s.calls n ≡ Some c
    → HasMore n (accepted_bytes c) (with_call f k s)
changed_by f grows k s n c true e there =
    let same : n ≡ k = eqb-true n k e in
    record {
      call = f c;
      there = ap (numbered (changed f k s.calls)) same ∙ changed_here f k s.calls c (ap (numbered s.calls) (sym same) ∙ there);
      more = grows c;
    }
changed_by f grows k s n c false e there =
    record { call = c; there = changed_away f k n s.calls (eqb-false n k e) ∙ there; more = le_refl (accepted_bytes c) }

call_keeps : (f : Call → Call) → ((c : Call) → accepted_bytes c ≤ accepted_bytes (f c)) → (k : ℕ) (s : Seen) → Keeps s (with_call f k s)
call_keeps f grows k s n c there = changed_by f grows k s n c (n == k) refl there

marks : (what : MarkKind) (n : ℕ) (s : Seen) → Keeps s (marked what n s)
marks what n s = call_keeps (λ (d : Call). record d { marks = d.marks ++ record { what = what; moment = now s } ∷ [] }) (λ d. le_refl (accepted_bytes d)) n s

row_marks : (what : MarkKind) (s : Seen) (o : Option Attempt) → Keeps s (option_map_or (λ (a : Attempt). marked what a.row.call s) o s)
row_marks what s None = unchanged s
row_marks what s (Some a) = marks what a.row.call s

attempt_keeps : (f : Attempt → Attempt) (n : ℕ) (s : Seen) → Keeps s (with_attempt f n s)
attempt_keeps f n s = keeps_same s (with_attempt f n s) refl

row_changed : (f : Attempt → Attempt) (what : MarkKind) (place : ℕ) (s : Seen) → Keeps s (marked_row what place (with_attempt f place s))
row_changed f what place s =
    keeps_on s (with_attempt f place s) (marked_row what place (with_attempt f place s)) (attempt_keeps f place s)
    (row_marks what (with_attempt f place s) (numbered (with_attempt f place s).attempts place))

then_same : (s t u : Seen) → Keeps s t → u.calls ≡ t.calls → Keeps s u
then_same s t u f e = keeps_on s t u f (keeps_same t u e)

-- a message is accepted
pub longer : (c : Call) (m : List ℕ) → length (framed_all (c.messages ++ m ∷ [])) ≡ accepted_bytes c + length (framed m)
longer c m = ap (λ (l : List ℕ). length l) (framed_more c.messages m) ∙ length-append (framed_all c.messages) (framed m)

message_more : (e : Event) (c : Call) → accepted_bytes c ≤ accepted_bytes (with_message e c)
message_more (event.Send call message) c =
    let long : length (framed_all (c.messages ++ message ∷ [])) ≡ accepted_bytes c + length (framed message) = longer c message in omega (arith, long)
message_more _ c = le_refl (accepted_bytes c)

-- calls
ended : (n : ℕ) (why : EndCause) (s : Seen) → Keeps s (call_ended n why s)
ended n why s =
    keeps_on s (marked mark.Closed n s) (call_ended n why s) (marks mark.Closed n s)
    (call_keeps (λ (d : Call). record d { end = Some (record { entry = entry s; moment = now s; cause = why }) }) (λ d. le_refl (accepted_bytes d)) n (marked mark.Closed n s))

configured : (n config : ℕ) (s : Seen) → Keeps s (call_configured n config s)
configured n config s =
    keeps_on s (marked mark.Configured n s) (call_configured n config s) (marks mark.Configured n s)
    (call_keeps (λ (d : Call). record d { config = Some config; configured = Some (entry s) }) (λ d. le_refl (accepted_bytes d)) n (marked mark.Configured n s))

made : (n number : ℕ) (k : RowKind) (due : ℕ) (s : Seen) → Keeps s (attempt_made n number k due s)
made n number k due s =
    let u : Seen = with_row (new_row n number k due) s in
    let v : Seen = marked (mark.Made (length s.attempts + 1)) n u in
    then_same s v (attempt_made n number k due s) (keeps_on s u v (keeps_same s u refl) (marks (mark.Made (length s.attempts + 1)) n u)) (turned (is_transparent k) v).calls

withheld : (n : ℕ) (s : Seen) → Keeps s (hedge_withheld n s)
withheld n s = then_same s (marked mark.Withheld n s) (hedge_withheld n s) (marks mark.Withheld n s) refl

reset_by : (number : ℕ) (s : Seen) (o : Option Attempt) → Keeps s (option_map_or (stream_reset_of number s) o s)
reset_by number s None = unchanged s
reset_by number s (Some a) = keeps_same s (stream_reset_of number s a) refl

-- an end: its run, its row and its mark
run_step : (place : ℕ) (s : Seen) (b : Bool) (o : Option ℕ)
    → Keeps s (if b then option_map_or (λ (run : ℕ). record s { runs = changed (more_ends place) run s.runs }) o s else s)
run_step place s false o = unchanged s
run_step place s true None = unchanged s
run_step place s true (Some run) = keeps_same s (record s { runs = changed (more_ends place) run s.runs }) refl

run_of_end : (a : Attempt) (e : RowEnd) (s : Seen) (o : Option Call) → Keeps s (option_map_or (with_end_in_run a e s) o s)
run_of_end a e s None = unchanged s
run_of_end a e s (Some d) =
    run_step a.place s (not (is_cut e.cause) && not (is_to_follow d e.cause e.unseen s)) (option_and_then (λ (h : HeldConfig). h.run) (config_of_call d s))

end_by : (e : RowEnd) (s : Seen) (o : Option Attempt) → Keeps s (option_map_or (attempt_ended_as e s) o s)
end_by e s None = unchanged s
end_by e s (Some a) =
    let z : Seen = option_map_or (with_end_in_run a e s) (call_of a s) s in
    let y : Seen = with_attempt (with_end e) a.place z in
    let w : Seen = marked (mark.Ended a.place) a.row.call y in
    then_same s w (attempt_ended_as e s a)
    (keeps_on s z w (run_of_end a e s (call_of a s)) (keeps_on z y w (attempt_keeps (with_end e) a.place z) (marks (mark.Ended a.place) a.row.call y))) refl

-- HEADERS open a stream
stream_of : (f : FrameSeen) (s : Seen) (o : Option Attempt) → Keeps s (option_map_or (λ (a : Attempt). with_attempt (with_stream f.stream) a.place s) o s)
stream_of f s None = unchanged s
stream_of f s (Some a) = attempt_keeps (with_stream f.stream) a.place s

open_if : (f : FrameSeen) (l : Link) (s : Seen) (b : Bool) → Keeps s (if b then stream_opened f l s else s)
open_if f l s true = stream_of f s (slice_get (waiting_on l s) 0)
open_if f l s false = unchanged s

opens : (x : Sent) (l : Link) (s : Seen) → Keeps s (stream_opened_by x l s)
opens sent.Preface l s = unchanged s
opens (sent.Frame f) l s = open_if f l s (f.kind == headers_type)

written : (x : Sent) (s : Seen) (o : Option Link) → Keeps s (option_map_or (frame_written_on x s) o s)
written x s None = unchanged s
written x s (Some l) = then_same s (stream_opened_by x l s) (frame_written_on x s l) (opens x l s) refl

-- configs
throttled : (config : Config) (t : Throttle) (o : Option ℕ) (s : Seen) → Keeps s (with_throttled config t o s)
throttled config t (Some run) s = keeps_same s (with_throttled config t (Some run) s) refl
throttled config t None s = keeps_same s (with_throttled config t None s) refl

held : (config : Config) (o : Option Throttle) (s : Seen) → Keeps s (with_held config o s)
held config None s = keeps_same s (with_held config None s) refl
held config (Some t) s = throttled config t (run_to_join t s) s

read : (x : Result Config ConfigFault) (s : Seen) → Keeps s (config_read x s)
read (Ok config) s =
    let z : Seen = replied reply.Done (resolver_answered s) in
    keeps_on s z (config_read (Ok config) s) (keeps_same s z refl) (held config config.throttle z)
read (Err fault) s = keeps_same s (config_read (Err fault) s) refl

-- a call begins
begins : (e : Event) (s : Seen) → Keeps s (call_begun_by e s)
begins (event.Begin request) s n c there = record {
  call = c;
  there = numbered_more s.calls (begun_call (length s.calls + 1) (entry s) (now s) request) c n there;
  more = le_refl (accepted_bytes c);
}
begins _ s n c there = record { call = c; there = there; more = le_refl (accepted_bytes c) }

act : (o : OpenEntry) (a : Action) (s : Seen) → Keeps s (after_in o a s)
act o action.CallBegins s = begins o.event s
act o (action.MessageAccepted n) s =
    then_same s (with_call (with_message o.event) n s) (after_in o (action.MessageAccepted n) s) (call_keeps (with_message o.event) (message_more o.event) n s) refl
act o (action.RequestFinished n) s =
    then_same s (with_call (λ (d : Call). record d { finished = true }) n s) (after_in o (action.RequestFinished n) s)
    (call_keeps (λ (d : Call). record d { finished = true }) (λ d. le_refl (accepted_bytes d)) n s) refl
act o (action.ItemTaken n item) s =
    then_same s (with_call (λ (d : Call). record d { taken = d.taken + 1; end_taken = is_end item }) n s) (after_in o (action.ItemTaken n item) s)
    (call_keeps (λ (d : Call). record d { taken = d.taken + 1; end_taken = is_end item }) (λ d. le_refl (accepted_bytes d)) n s) refl
act o (action.CallEnds n why) s = ended n why s
act o (action.ConfigRead x) s = read x s
act o (action.CallConfigured n config) s = configured n config s
act o (action.AttemptMade n number k due) s = made n number k due s
act o (action.HedgeWithheld n) s = withheld n s
act o (action.AttemptPlaced place at) s = row_changed (with_placing at) (mark.Placed place) place s
act o (action.AttemptEnds place e) s = end_by e s (numbered s.attempts place)
act o (action.CallCommitted place why) s = row_changed (with_commitment (entry s)) mark.Committed place s
act o (action.StreamReset place number) s = reset_by number s (numbered s.attempts place)
act o (action.FrameWritten link x) s = written x s (numbered s.links link)
act o a s = keeps_same s (after_in o a s) (still o a s refl).calls

act_if : (o : Option OpenEntry) (a : Action) (s : Seen) → Keeps s (after_if o a s)
act_if (Some o) a s = act o a s
act_if None (action.EntryOpens posted word e) s = keeps_same s (opened posted word e s) refl
act_if None _ s = unchanged s

pub keeps_by : (a : Action) (s : Seen) → Keeps s (after a s)
keeps_by a s = act_if s.current a s

pub keeps_along : (actions : List Action) (s t : Seen) → Does actions s t → Keeps s t
keeps_along [] s t does = keeps_same s t (ap (λ (u : Seen). u.calls) does)
keeps_along (a ∷ actions) s t does = keeps_on s (after a s) t (keeps_by a s) (keeps_along actions (after a s) t does.1)
