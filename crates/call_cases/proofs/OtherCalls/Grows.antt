-- A session only grows: no action takes a config or an attempt away, and no call begins but by CallBegins.
use Rattle.attempt_ledger.specs.Ends.{is_cut}
use Rattle.attempt_ledger.specs.Numbering.{is_transparent}
use Rattle.attempt_ledger.specs.declared.row.RowEnd.{RowEnd}
use Rattle.attempt_ledger.specs.declared.row.RowKind.{RowKind}
use Rattle.call_actions.proofs.Ends.Tokens.{more_ends}
use Rattle.call_actions.proofs.Lists.{changed_away, changed_map}
use Rattle.call_actions.proofs.Ranks.{numbered_more}
use Rattle.call_actions.proofs.CallsApart.Parts.{IsSame}
use Rattle.call_actions.proofs.CallsApart.Plain.{still, turned}
use Rattle.grpc_base.specs.declared.event.ConfigFault.{ConfigFault}
use Rattle.grpc_base.specs.declared.event.EndCause.{EndCause}
use Rattle.grpc_base.specs.declared.event.Event.TheVariants as event
use Rattle.grpc_base.specs.declared.event.Event.{Event}
use Rattle.grpc_base.specs.declared.event.Reply.TheVariants as reply
use Rattle.grpc_base.specs.declared.plan.Throttle.{Throttle}
use Rattle.h2_frame.specs.Frames.{FrameSeen}
use Rattle.h2_frame.specs.Numbers.{headers_type}
use Rattle.service_config.specs.declared.config.Config.{Config}
use Rattle.session_actions.specs.Actions.{after, after_if, after_in}
use Rattle.session_actions.specs.AttemptEnds.{attempt_ended_as, stream_reset_of, with_end, with_end_in_run, with_reset_queued}
use Rattle.session_actions.specs.Attempts.{call_of, is_to_follow, marked_row, with_attempt}
use Rattle.session_actions.specs.CallEnds.{call_ended}
use Rattle.session_actions.specs.Calls.{marked, with_call}
use Rattle.session_actions.specs.Commitments.{with_commitment}
use Rattle.session_actions.specs.Configs.{call_configured, config_of_call, config_read, resolver_answered, run_to_join, with_held, with_run, with_throttled}
use Rattle.session_actions.specs.Deliveries.{begun_call, call_begun_by, is_end, with_message}
use Rattle.session_actions.specs.Entries.{entry, now, opened, replied}
use Rattle.session_actions.specs.Making.{attempt_made, hedge_withheld, new_row, with_row}
use Rattle.session_actions.specs.Policies.{with_placing}
use Rattle.session_actions.specs.Words.{changed, numbered}
use Rattle.session_actions.specs.Writing.{frame_written_on, stream_opened, stream_opened_by, waiting_on, with_stream}
use Rattle.session_actions.specs.declared.action.Action.TheVariants as action
use Rattle.session_actions.specs.declared.action.Action.{Action}
use Rattle.session_actions.specs.declared.attempt.Attempt.{Attempt}
use Rattle.session_actions.specs.declared.call.Call.{Call}
use Rattle.session_actions.specs.declared.call.MarkKind.TheVariants as mark
use Rattle.session_actions.specs.declared.call.MarkKind.{MarkKind}
use Rattle.session_actions.specs.declared.config.HeldConfig.{HeldConfig}
use Rattle.session_actions.specs.declared.entry.OpenEntry.{OpenEntry}
use Rattle.session_actions.specs.declared.link.Link.{Link}
use Rattle.session_actions.specs.declared.link.Sent.TheVariants as sent
use Rattle.session_actions.specs.declared.link.Sent.{Sent}
use Rattle.session_actions.specs.declared.seen.Seen.{Seen}
use Rattle.std.proofs.Common.{Bool, Err, List, None, Ok, Option, Result, Some, [], ap, append-nil, append_assoc, arith, eqb-true, false, if◌then◌else◌, length, not, option_and_then, option_map, refl, slice_get, suc, sym, true, zero, ℕ, ◌&&◌, ◌++◌, ◌+◌, ◌==◌, ◌∙◌, ◌∷◌, ◌≡◌}
use Rattle.std.proofs.lemmas.Bool.{eqb-false}
use Rattle.std.specs.Option.{option_map_or}

pub record IsMore {X : Type 0} (xs ys : List X) : Type 0 where
  pub more : List X
  pub joined : ys ≡ xs ++ more

pub no_more : {X : Type 0} (xs ys : List X) → ys ≡ xs → IsMore xs ys
no_more xs ys e = record { more = []; joined = e ∙ sym (append-nil xs) }

more_on : {X : Type 0} (xs ys zs : List X) → IsMore xs ys → IsMore ys zs → IsMore xs zs
more_on xs ys zs p q = record { more = p.more ++ q.more; joined = q.joined ∙ ap (λ (l : List _). l ++ q.more) p.joined ∙ append_assoc xs p.more q.more }

pub record Grows (s t : Seen) : Type 0 where
  pub configs : IsMore s.configs t.configs
  pub calls : (k : ℕ) → numbered s.calls k ≡ None → numbered t.calls k ≡ None
  pub rows : (k : ℕ) → numbered t.attempts k ≡ None → numbered s.attempts k ≡ None

-- one of a list changes
map_none : {X : Type 0} (f : X → X) (o : Option X) → option_map f o ≡ None → o ≡ None
map_none f None e = refl
map_none f (Some x) e = absurd (cc)

none_map : {X : Type 0} (f : X → X) (o : Option X) → o ≡ None → option_map f o ≡ None
none_map f o e = ap (option_map f) e

none_changed_by : {X : Type 0} (f : X → X) (n k : ℕ) (xs : List X) (b : Bool) → (k == n) ≡ b → numbered xs k ≡ None → numbered (changed f n xs) k ≡ None
none_changed_by f n k xs true e none =
    let same : k ≡ n = eqb-true k n e in
    ap (numbered (changed f n xs)) same ∙ changed_map f n xs ∙ none_map f (numbered xs n) (ap (numbered xs) (sym same) ∙ none)
none_changed_by f n k xs false e none = changed_away f n k xs (eqb-false k n e) ∙ none

none_changed : {X : Type 0} (f : X → X) (n k : ℕ) (xs : List X) → numbered xs k ≡ None → numbered (changed f n xs) k ≡ None
none_changed f n k xs none = none_changed_by f n k xs (k == n) refl none

was_none_by : {X : Type 0} (f : X → X) (n k : ℕ) (xs : List X) (b : Bool) → (k == n) ≡ b → numbered (changed f n xs) k ≡ None → numbered xs k ≡ None
was_none_by f n k xs true e none =
    let same : k ≡ n = eqb-true k n e in
    ap (numbered xs) same ∙ map_none f (numbered xs n) (sym (changed_map f n xs) ∙ ap (numbered (changed f n xs)) (sym same) ∙ none)
was_none_by f n k xs false e none = sym (changed_away f n k xs (eqb-false k n e)) ∙ none

was_none : {X : Type 0} (f : X → X) (n k : ℕ) (xs : List X) → numbered (changed f n xs) k ≡ None → numbered xs k ≡ None
was_none f n k xs none = was_none_by f n k xs (k == n) refl none

-- one more
more_none_by : {X : Type 0} (xs : List X) (y : X) (k : ℕ) (o : Option X) → numbered xs k ≡ o → numbered (xs ++ y ∷ []) k ≡ None → o ≡ None
more_none_by xs y k None e none = refl
more_none_by xs y k (Some x) e none =
    let there : numbered (xs ++ y ∷ []) k ≡ Some x = numbered_more xs y x k e in absurd (cc)

more_none : {X : Type 0} (xs : List X) (y : X) (k : ℕ) → numbered (xs ++ y ∷ []) k ≡ None → numbered xs k ≡ None
more_none xs y k none = more_none_by xs y k (numbered xs k) refl none

past_none : {X : Type 0} (xs : List X) (y : X) (i : ℕ) → (i ≡ length xs → ⊥) → slice_get xs i ≡ None → slice_get (xs ++ y ∷ []) i ≡ None
past_none [] y zero off none = absurd (off refl)
past_none [] y (suc i) off none = refl
past_none (x ∷ xs) y zero off none = absurd (cc)
past_none (x ∷ xs) y (suc i) off none = past_none xs y i (λ e. off (ap suc e)) none

pub none_more : {X : Type 0} (xs : List X) (y : X) (k : ℕ) → (k ≡ suc (length xs) → ⊥) → numbered xs k ≡ None → numbered (xs ++ y ∷ []) k ≡ None
none_more xs y zero off none = refl
none_more xs y (suc i) off none = past_none xs y i (λ e. off (ap suc e)) none

-- one step after another
pub grows_on : (s t u : Seen) → Grows s t → Grows t u → Grows s u
grows_on s t u f g = record {
  configs = more_on s.configs t.configs u.configs f.configs g.configs;
  calls = λ k none. g.calls k (f.calls k none);
  rows = λ k none. f.rows k (g.rows k none);
}

pub grows_same : (s t : Seen) → IsSame s t → Grows s t
grows_same s t e = record {
  configs = no_more s.configs t.configs e.configs;
  calls = λ k none. ap (λ (l : List Call). numbered l k) e.calls ∙ none;
  rows = λ k none. ap (λ (l : List Attempt). numbered l k) (sym e.attempts) ∙ none;
}

then_same : (s t u : Seen) → Grows s t → IsSame t u → Grows s u
then_same s t u f g = grows_on s t u f (grows_same t u g)

unchanged : (s : Seen) → Grows s s
unchanged s = grows_same s s (record { calls = refl; attempts = refl; configs = refl; runs = refl })

call_grows : (f : Call → Call) (n : ℕ) (s : Seen) → Grows s (with_call f n s)
call_grows f n s = record {
  configs = no_more s.configs s.configs refl;
  calls = λ k none. none_changed f n k s.calls none;
  rows = λ k none. none;
}

attempt_grows : (f : Attempt → Attempt) (n : ℕ) (s : Seen) → Grows s (with_attempt f n s)
attempt_grows f n s = record {
  configs = no_more s.configs s.configs refl;
  calls = λ k none. none;
  rows = λ k none. was_none f n k s.attempts none;
}

marks : (what : MarkKind) (n : ℕ) (s : Seen) → Grows s (marked what n s)
marks what n s = call_grows (λ (d : Call). record d { marks = d.marks ++ record { what = what; moment = now s } ∷ [] }) n s

row_marks : (what : MarkKind) (s : Seen) (o : Option Attempt) → Grows s (option_map_or (λ (a : Attempt). marked what a.row.call s) o s)
row_marks what s None = unchanged s
row_marks what s (Some a) = marks what a.row.call s

row_changed : (f : Attempt → Attempt) (what : MarkKind) (place : ℕ) (s : Seen) → Grows s (marked_row what place (with_attempt f place s))
row_changed f what place s =
    grows_on s (with_attempt f place s) (marked_row what place (with_attempt f place s)) (attempt_grows f place s)
    (row_marks what (with_attempt f place s) (numbered (with_attempt f place s).attempts place))

-- calls
ended : (n : ℕ) (why : EndCause) (s : Seen) → Grows s (call_ended n why s)
ended n why s =
    grows_on s (marked mark.Closed n s) (call_ended n why s) (marks mark.Closed n s)
    (call_grows (λ (d : Call). record d { end = Some (record { entry = entry s; moment = now s; cause = why }) }) n (marked mark.Closed n s))

configured : (n config : ℕ) (s : Seen) → Grows s (call_configured n config s)
configured n config s =
    grows_on s (marked mark.Configured n s) (call_configured n config s) (marks mark.Configured n s)
    (call_grows (λ (d : Call). record d { config = Some config; configured = Some (entry s) }) n (marked mark.Configured n s))

made : (n number : ℕ) (k : RowKind) (due : ℕ) (s : Seen) → Grows s (attempt_made n number k due s)
made n number k due s =
    let y : Attempt = record { place = length s.attempts + 1; row = new_row n number k due; made = entry s; reset = false } in
    let u : Seen = with_row (new_row n number k due) s in
    let v : Seen = marked (mark.Made (length s.attempts + 1)) n u in
    let one : Grows s u = record { configs = no_more s.configs s.configs refl; calls = λ j none. none; rows = λ j none. more_none s.attempts y j none } in
    then_same s v (attempt_made n number k due s) (grows_on s u v one (marks (mark.Made (length s.attempts + 1)) n u)) (turned (is_transparent k) v)

withheld : (n : ℕ) (s : Seen) → Grows s (hedge_withheld n s)
withheld n s =
    then_same s (marked mark.Withheld n s) (hedge_withheld n s) (marks mark.Withheld n s) (record { calls = refl; attempts = refl; configs = refl; runs = refl })

reset_by : (number : ℕ) (s : Seen) (o : Option Attempt) → Grows s (option_map_or (stream_reset_of number s) o s)
reset_by number s None = unchanged s
reset_by number s (Some a) =
    then_same s (with_attempt with_reset_queued a.place s) (stream_reset_of number s a) (attempt_grows with_reset_queued a.place s)
    (record { calls = refl; attempts = refl; configs = refl; runs = refl })

-- an end: its run, its row and its mark
run_step : (place : ℕ) (s : Seen) (b : Bool) (o : Option ℕ)
    → Grows s (if b then option_map_or (λ (run : ℕ). record s { runs = changed (more_ends place) run s.runs }) o s else s)
run_step place s false o = unchanged s
run_step place s true None = unchanged s
run_step place s true (Some run) = record { configs = no_more s.configs s.configs refl; calls = λ k none. none; rows = λ k none. none }

run_of_end : (a : Attempt) (e : RowEnd) (s : Seen) (o : Option Call) → Grows s (option_map_or (with_end_in_run a e s) o s)
run_of_end a e s None = unchanged s
run_of_end a e s (Some d) =
    run_step a.place s (not (is_cut e.cause) && not (is_to_follow d e.cause e.unseen s)) (option_and_then (λ (h : HeldConfig). h.run) (config_of_call d s))

end_by : (e : RowEnd) (s : Seen) (o : Option Attempt) → Grows s (option_map_or (attempt_ended_as e s) o s)
end_by e s None = unchanged s
end_by e s (Some a) =
    let z : Seen = option_map_or (with_end_in_run a e s) (call_of a s) s in
    let y : Seen = with_attempt (with_end e) a.place z in
    let w : Seen = marked (mark.Ended a.place) a.row.call y in
    then_same s w (attempt_ended_as e s a)
    (grows_on s z w (run_of_end a e s (call_of a s)) (grows_on z y w (attempt_grows (with_end e) a.place z) (marks (mark.Ended a.place) a.row.call y)))
    (record { calls = refl; attempts = refl; configs = refl; runs = refl })

-- HEADERS open a stream
stream_of : (f : FrameSeen) (s : Seen) (o : Option Attempt) → Grows s (option_map_or (λ (a : Attempt). with_attempt (with_stream f.stream) a.place s) o s)
stream_of f s None = unchanged s
stream_of f s (Some a) = attempt_grows (with_stream f.stream) a.place s

open_if : (f : FrameSeen) (l : Link) (s : Seen) (b : Bool) → Grows s (if b then stream_opened f l s else s)
open_if f l s true = stream_of f s (slice_get (waiting_on l s) 0)
open_if f l s false = unchanged s

opens : (x : Sent) (l : Link) (s : Seen) → Grows s (stream_opened_by x l s)
opens sent.Preface l s = unchanged s
opens (sent.Frame f) l s = open_if f l s (f.kind == headers_type)

written : (x : Sent) (s : Seen) (o : Option Link) → Grows s (option_map_or (frame_written_on x s) o s)
written x s None = unchanged s
written x s (Some l) =
    then_same s (stream_opened_by x l s) (frame_written_on x s l) (opens x l s) (record { calls = refl; attempts = refl; configs = refl; runs = refl })

-- configs
config_grows : (s : Seen) (h : HeldConfig) → Grows s (record s { configs = s.configs ++ h ∷ [] })
config_grows s h = record { configs = record { more = h ∷ []; joined = refl }; calls = λ k none. none; rows = λ k none. none }

throttled : (config : Config) (t : Throttle) (o : Option ℕ) (s : Seen) → Grows s (with_throttled config t o s)
throttled config t (Some run) s = config_grows s (record { config = config; run = Some run })
throttled config t None s =
    grows_on s (with_run t s) (with_throttled config t None s) (record { configs = no_more s.configs s.configs refl; calls = λ k none. none; rows = λ k none. none })
    (config_grows (with_run t s) (record { config = config; run = Some (length s.runs + 1) }))

held : (config : Config) (o : Option Throttle) (s : Seen) → Grows s (with_held config o s)
held config None s = config_grows s (record { config = config; run = None })
held config (Some t) s = throttled config t (run_to_join t s) s

read : (x : Result Config ConfigFault) (s : Seen) → Grows s (config_read x s)
read (Ok config) s =
    let z : Seen = replied reply.Done (resolver_answered s) in
    grows_on s z (config_read (Ok config) s) (grows_same s z (record { calls = refl; attempts = refl; configs = refl; runs = refl })) (held config config.throttle z)
read (Err fault) s = grows_same s (config_read (Err fault) s) (record { calls = refl; attempts = refl; configs = refl; runs = refl })

-- an action that begins no call
abbrev pub begins : Action → Bool
begins action.CallBegins = true
begins _ = false

act : (o : OpenEntry) (a : Action) (s : Seen) → begins a ≡ false → Grows s (after_in o a s)
act o action.CallBegins s off = absurd (cc)
act o (action.MessageAccepted n) s off =
    then_same s (with_call (with_message o.event) n s) (after_in o (action.MessageAccepted n) s) (call_grows (with_message o.event) n s)
    (record { calls = refl; attempts = refl; configs = refl; runs = refl })
act o (action.RequestFinished n) s off =
    then_same s (with_call (λ (d : Call). record d { finished = true }) n s) (after_in o (action.RequestFinished n) s)
    (call_grows (λ (d : Call). record d { finished = true }) n s) (record { calls = refl; attempts = refl; configs = refl; runs = refl })
act o (action.ItemTaken n item) s off =
    then_same s (with_call (λ (d : Call). record d { taken = d.taken + 1; end_taken = is_end item }) n s) (after_in o (action.ItemTaken n item) s)
    (call_grows (λ (d : Call). record d { taken = d.taken + 1; end_taken = is_end item }) n s)
    (record { calls = refl; attempts = refl; configs = refl; runs = refl })
act o (action.CallEnds n why) s off = ended n why s
act o (action.ConfigRead x) s off = read x s
act o (action.CallConfigured n config) s off = configured n config s
act o (action.AttemptMade n number k due) s off = made n number k due s
act o (action.HedgeWithheld n) s off = withheld n s
act o (action.AttemptPlaced place at) s off = row_changed (with_placing at) (mark.Placed place) place s
act o (action.AttemptEnds place e) s off = end_by e s (numbered s.attempts place)
act o (action.CallCommitted place why) s off = row_changed (with_commitment (entry s)) mark.Committed place s
act o (action.StreamReset place number) s off = reset_by number s (numbered s.attempts place)
act o (action.FrameWritten link x) s off = written x s (numbered s.links link)
act o a s off = grows_same s (after_in o a s) (still o a s refl)

act_if : (o : Option OpenEntry) (a : Action) (s : Seen) → begins a ≡ false → Grows s (after_if o a s)
act_if (Some o) a s off = act o a s off
act_if None (action.EntryOpens posted word e) s off = grows_same s (opened posted word e s) (record { calls = refl; attempts = refl; configs = refl; runs = refl })
act_if None _ s off = unchanged s

pub grows_by : (a : Action) (s : Seen) → begins a ≡ false → Grows s (after a s)
grows_by a s off = act_if s.current a s off

-- a call begins: it has the next number
begun_event : (e : Event) (s : Seen) (k : ℕ) → (k == length s.calls + 1) ≡ false → numbered s.calls k ≡ None → numbered (call_begun_by e s).calls k ≡ None
begun_event (event.Begin request) s k off none =
    none_more s.calls (begun_call (length s.calls + 1) (entry s) (now s) request) k
    (λ e. eqb-false k (length s.calls + 1) off (let q : k ≡ length s.calls + 1 = omega (arith, e) in q)) none
begun_event _ s k off none = none

begun_if : (o : Option OpenEntry) (s : Seen) (k : ℕ) → (k == length s.calls + 1) ≡ false → numbered s.calls k ≡ None → numbered (after_if o action.CallBegins s).calls k ≡ None
begun_if None s k off none = none
begun_if (Some o) s k off none = begun_event o.event s k off none

begun_rows : (e : Event) (s : Seen) → ((call_begun_by e s).configs ≡ s.configs) × ((call_begun_by e s).attempts ≡ s.attempts)
begun_rows (event.Begin request) s = (refl, refl)
begun_rows _ s = (refl, refl)

begun_rows_if : (o : Option OpenEntry) (s : Seen) → ((after_if o action.CallBegins s).configs ≡ s.configs) × ((after_if o action.CallBegins s).attempts ≡ s.attempts)
begun_rows_if None s = (refl, refl)
begun_rows_if (Some o) s = begun_rows o.event s

-- so of any action: configs and attempts grow, and of no other number a call begins
pub record GrowsBut (number : ℕ) (s t : Seen) : Type 0 where
  pub configs : IsMore s.configs t.configs
  pub calls : (k : ℕ) → (k == number) ≡ false → numbered s.calls k ≡ None → numbered t.calls k ≡ None
  pub rows : (k : ℕ) → numbered t.attempts k ≡ None → numbered s.attempts k ≡ None

pub but_on : (number : ℕ) (s t u : Seen) → GrowsBut number s t → GrowsBut number t u → GrowsBut number s u
but_on number s t u f g = record {
  configs = more_on s.configs t.configs u.configs f.configs g.configs;
  calls = λ k off none. g.calls k off (f.calls k off none);
  rows = λ k none. f.rows k (g.rows k none);
}

pub but_begun : (number : ℕ) (s : Seen) → (length s.calls + 1 == number) ≡ true → GrowsBut number s (after action.CallBegins s)
but_begun number s is =
    let two : ((after action.CallBegins s).configs ≡ s.configs) × ((after action.CallBegins s).attempts ≡ s.attempts) = begun_rows_if s.current s in
    let same : length s.calls + 1 ≡ number = eqb-true (length s.calls + 1) number is in
    record {
      configs = no_more s.configs (after action.CallBegins s).configs two.0;
      calls = λ k off none. begun_if s.current s k (ap (λ (n : ℕ). k == n) same ∙ off) none;
      rows = λ k none. ap (λ (l : List Attempt). numbered l k) (sym two.1) ∙ none;
    }

pub but_grown : (number : ℕ) (s t : Seen) → Grows s t → GrowsBut number s t
but_grown number s t g = record { configs = g.configs; calls = λ k off none. g.calls k none; rows = g.rows }
