-- An action that is not of a call changes nothing of it.
use Rattle.attempt_ledger.specs.Ends.{is_cut}
use Rattle.attempt_ledger.specs.Numbering.{is_transparent}
use Rattle.attempt_ledger.specs.declared.row.RowEnd.{RowEnd}
use Rattle.attempt_ledger.specs.declared.row.RowKind.{RowKind}
use Rattle.call_actions.proofs.Ends.Tokens.{more_ends}
use Rattle.call_actions.proofs.Places.{place_is}
use Rattle.call_actions.proofs.Ranks.{numbered_more}
use Rattle.call_actions.specs.Order.{AttemptsAreNumbered}
use Rattle.call_actions.proofs.CallsApart.Parts.{IsSame, attempt_apart, call_apart, config_apart, joins, marked_apart, more_apart, run_apart, runs_apart, same_apart, still_other, then_same}
use Rattle.call_actions.proofs.CallsApart.Plain.{still, turned}
use Rattle.call_actions.proofs.CallsApart.Seen.{all_numbered}
use Rattle.call_actions.specs.CallsApart.Apart.{IsApart, IsBook, acts_on, call_opened, has_config, has_run, run_number}
use Rattle.call_actions.specs.CallsApart.Laws.{ApartJoins, OthersStay}
use Rattle.grpc_base.specs.declared.event.ConfigFault.{ConfigFault}
use Rattle.grpc_base.specs.declared.event.EndCause.{EndCause}
use Rattle.grpc_base.specs.declared.event.Event.TheVariants as event
use Rattle.grpc_base.specs.declared.event.Event.{Event}
use Rattle.grpc_base.specs.declared.event.Reply.TheVariants as reply
use Rattle.grpc_base.specs.declared.plan.Throttle.{Throttle}
use Rattle.h2_frame.specs.Frames.{FrameSeen}
use Rattle.h2_frame.specs.Numbers.{headers_type}
use Rattle.service_config.specs.declared.config.Config.{Config}
use Rattle.session_actions.specs.Actions.{after_if, after_in}
use Rattle.session_actions.specs.AttemptEnds.{attempt_ended_as, stream_reset_of, with_end, with_end_in_run, with_reset_queued}
use Rattle.session_actions.specs.Attempts.{call_of, is_of, is_to_follow, marked_row, with_attempt}
use Rattle.session_actions.specs.CallEnds.{call_ended}
use Rattle.session_actions.specs.Calls.{marked, with_call}
use Rattle.session_actions.specs.Commitments.{with_commitment}
use Rattle.session_actions.specs.Configs.{call_configured, config_of_call, config_read, resolver_answered, run_to_join, with_held, with_run, with_throttled}
use Rattle.session_actions.specs.Deliveries.{begun_call, call_begun_by, is_end, with_message}
use Rattle.session_actions.specs.Entries.{entry, now, opened, replied}
use Rattle.session_actions.specs.Making.{attempt_made, hedge_withheld, new_row, with_row}
use Rattle.session_actions.specs.Policies.{with_placing}
use Rattle.session_actions.specs.Reading.{is_outstanding_on, outstanding_on}
use Rattle.session_actions.specs.Words.{changed, holds, is_number, numbered}
use Rattle.session_actions.specs.Writing.{frame_written_on, stream_opened, stream_opened_by, waiting_on, with_stream}
use Rattle.session_actions.specs.declared.action.Action.TheVariants as action
use Rattle.session_actions.specs.declared.action.Action.{Action}
use Rattle.session_actions.specs.declared.attempt.Attempt.{Attempt}
use Rattle.session_actions.specs.declared.call.Call.{Call}
use Rattle.session_actions.specs.declared.call.MarkKind.TheVariants as mark
use Rattle.session_actions.specs.declared.call.MarkKind.{MarkKind}
use Rattle.session_actions.specs.declared.config.HeldConfig.{HeldConfig}
use Rattle.session_actions.specs.declared.config.ThrottleRun.{ThrottleRun}
use Rattle.session_actions.specs.declared.entry.OpenEntry.{OpenEntry}
use Rattle.session_actions.specs.declared.link.Link.{Link}
use Rattle.session_actions.specs.declared.link.Sent.TheVariants as sent
use Rattle.session_actions.specs.declared.link.Sent.{Sent}
use Rattle.session_actions.specs.declared.seen.Seen.{Seen}
use Rattle.std.proofs.Common.{Bool, Err, List, None, Ok, Option, Result, Some, [], ap, cond, false, filter, if◌then◌else◌, is_none, is_some, length, not, option_and_then, option_map, refl, slice_get, suc, sym, true, zero, ℕ, ◌&&◌, ◌++◌, ◌+◌, ◌==◌, ◌∙◌, ◌∷◌, ◌≡◌}
use Rattle.std.specs.Option.{option_map_or}

-- one of a list that passes a test is one of the list
pub record IsIn {X : Type 0} (xs : List X) (a : X) : Type 0 where
  pub index : ℕ
  pub here : slice_get xs index ≡ Some a

in_more : {X : Type 0} (x : X) (xs : List X) (a : X) → IsIn xs a → IsIn (x ∷ xs) a
in_more x xs a i = record { index = suc i.index; here = i.here }

in_by : {X : Type 0} (p : X → Bool) (x : X) (xs : List X) (b : Bool) (a : X) (j : ℕ) → slice_get (cond b (x ∷ filter p xs) (filter p xs)) j ≡ Some a
    → ((i : ℕ) → slice_get (filter p xs) i ≡ Some a → IsIn xs a) → IsIn (x ∷ xs) a
in_by p x xs true a zero got rest = record { index = zero; here = got }
in_by p x xs true a (suc j) got rest = in_more x xs a (rest j got)
in_by p x xs false a j got rest = in_more x xs a (rest j got)

pub in_filter : {X : Type 0} (p : X → Bool) (xs : List X) (j : ℕ) (a : X) → slice_get (filter p xs) j ≡ Some a → IsIn xs a
in_filter p [] j a got = absurd (cc)
in_filter p (x ∷ xs) j a got = in_by p x xs (p x) a j got (λ i e. in_filter p xs i a e)

-- an attempt stands at its place
pub at_place : (xs : List Attempt) (a : Attempt) → AttemptsAreNumbered 1 xs → IsIn xs a → numbered xs a.place ≡ Some a
at_place xs a places i =
    let there : a.place ≡ suc i.index = place_is (suc i.index) xs a places i.here in ap (numbered xs) there ∙ i.here

in_two : (l : Link) (s : Seen) (a : Attempt) → slice_get (waiting_on l s) 0 ≡ Some a → IsIn s.attempts a
in_two l s a got =
    let one : IsIn (outstanding_on l s) a = in_filter (λ (q : Attempt). is_none q.row.stream) (outstanding_on l s) 0 a got in
    in_filter (is_outstanding_on l) s.attempts one.index a one.here

module _ (s : Seen) (c : Call) (book : IsBook s) (own : numbered s.calls c.number ≡ Some c) where
  unchanged : IsApart s s c
  unchanged = same_apart c s s (record { calls = refl; attempts = refl; configs = refl; runs = refl })

  -- the attempt at a place is not of the call
  other_by : (o : Option Attempt) → is_number c.number (option_map (λ (a : Attempt). a.row.call) o) ≡ false → holds (is_of c) o ≡ false
  other_by None off = refl
  other_by (Some a) off = off

  -- calls
  begun : (e : Event) → IsApart s (call_begun_by e s) c
  begun (event.Begin request) = record {
    call = numbered_more s.calls (begun_call (length s.calls + 1) (entry s) (now s) request) c c.number own ∙ sym own;
    config = refl;
    attempts = refl;
    rows = λ place mine. refl;
    throttle = refl;
  }
  begun _ = unchanged

  ended : (n : ℕ) (why : EndCause) → (n == c.number) ≡ false → IsApart s (call_ended n why s) c
  ended n why off =
      joins c s (marked mark.Closed n s) (call_ended n why s)
      (call_apart c (λ (d : Call). record d { marks = d.marks ++ record { what = mark.Closed; moment = now s } ∷ [] }) n s off)
      (call_apart c (λ (d : Call). record d { end = Some (record { entry = entry s; moment = now s; cause = why }) }) n (marked mark.Closed n s) off)

  configured : (n config : ℕ) → (n == c.number) ≡ false → IsApart s (call_configured n config s) c
  configured n config off =
      joins c s (marked mark.Configured n s) (call_configured n config s)
      (call_apart c (λ (d : Call). record d { marks = d.marks ++ record { what = mark.Configured; moment = now s } ∷ [] }) n s off)
      (call_apart c (λ (d : Call). record d { config = Some config; configured = Some (entry s) }) n (marked mark.Configured n s) off)

  made : (n number : ℕ) (k : RowKind) (due : ℕ) → (n == c.number) ≡ false → IsApart s (attempt_made n number k due s) c
  made n number k due off =
      let y : Attempt = record { place = length s.attempts + 1; row = new_row n number k due; made = entry s; reset = false } in
      let u : Seen = with_row (new_row n number k due) s in
      let v : Seen = marked (mark.Made (length s.attempts + 1)) n u in
      then_same c s v (attempt_made n number k due s)
      (joins c s u v (more_apart c y s off)
      (call_apart c (λ (d : Call). record d { marks = d.marks ++ record { what = mark.Made (length s.attempts + 1); moment = now u } ∷ [] }) n u off))
      (turned (is_transparent k) v)

  withheld : (n : ℕ) → (n == c.number) ≡ false → IsApart s (hedge_withheld n s) c
  withheld n off =
      then_same c s (marked mark.Withheld n s) (hedge_withheld n s)
      (call_apart c (λ (d : Call). record d { marks = d.marks ++ record { what = mark.Withheld; moment = now s } ∷ [] }) n s off)
      (record { calls = refl; attempts = refl; configs = refl; runs = refl })

  -- a row
  row_changed : (f : Attempt → Attempt) → ((a : Attempt) → (f a).row.call ≡ a.row.call) → (what : MarkKind) (place : ℕ) → holds (is_of c) (numbered s.attempts place) ≡ false
      → IsApart s (marked_row what place (with_attempt f place s)) c
  row_changed f keeps what place off =
      joins c s (with_attempt f place s) (marked_row what place (with_attempt f place s)) (attempt_apart c f keeps place s off)
      (marked_apart c what place (with_attempt f place s) (still_other c f keeps place s off))

  reset_by : (place number : ℕ) (o : Option Attempt) → numbered s.attempts place ≡ o → holds (is_of c) o ≡ false → IsApart s (option_map_or (stream_reset_of number s) o s) c
  reset_by place number None got off = unchanged
  reset_by place number (Some a) got off =
      let here : numbered s.attempts a.place ≡ Some a = ap (numbered s.attempts) (place_is place s.attempts a book.places got) ∙ got in
      then_same c s (with_attempt with_reset_queued a.place s) (stream_reset_of number s a)
      (attempt_apart c with_reset_queued (λ q. refl) a.place s (ap (holds (is_of c)) here ∙ off))
      (record { calls = refl; attempts = refl; configs = refl; runs = refl })

  -- an end: its run, its row and its mark
  run_step : (place : ℕ) (b : Bool) (o : Option ℕ)
      → IsApart s (if b then option_map_or (λ (run : ℕ). record s { runs = changed (more_ends place) run s.runs }) o s else s) c
  run_step place false o = unchanged
  run_step place true None = unchanged
  run_step place true (Some run) = run_apart c (more_ends place) (λ u. refl) run s

  run_of_end : (a : Attempt) (e : RowEnd) (o : Option Call) → IsApart s (option_map_or (with_end_in_run a e s) o s) c
  run_of_end a e None = unchanged
  run_of_end a e (Some d) =
      run_step a.place (not (is_cut e.cause) && not (is_to_follow d e.cause e.unseen s)) (option_and_then (λ (h : HeldConfig). h.run) (config_of_call d s))

  rows_if : (place : ℕ) (b : Bool) (o : Option ℕ)
      → (if b then option_map_or (λ (run : ℕ). record s { runs = changed (more_ends place) run s.runs }) o s else s).attempts ≡ s.attempts
  rows_if place false o = refl
  rows_if place true None = refl
  rows_if place true (Some run) = refl

  rows_of_end : (a : Attempt) (e : RowEnd) (o : Option Call) → (option_map_or (with_end_in_run a e s) o s).attempts ≡ s.attempts
  rows_of_end a e None = refl
  rows_of_end a e (Some d) =
      rows_if a.place (not (is_cut e.cause) && not (is_to_follow d e.cause e.unseen s)) (option_and_then (λ (h : HeldConfig). h.run) (config_of_call d s))

  end_by : (place : ℕ) (e : RowEnd) (o : Option Attempt) → numbered s.attempts place ≡ o → holds (is_of c) o ≡ false → IsApart s (option_map_or (attempt_ended_as e s) o s) c
  end_by place e None got off = unchanged
  end_by place e (Some a) got off =
      let here : numbered s.attempts a.place ≡ Some a = ap (numbered s.attempts) (place_is place s.attempts a book.places got) ∙ got in
      let z : Seen = option_map_or (with_end_in_run a e s) (call_of a s) s in
      let y : Seen = with_attempt (with_end e) a.place z in
      let w : Seen = marked (mark.Ended a.place) a.row.call y in
      let other : holds (is_of c) (numbered z.attempts a.place) ≡ false
      = ap (λ (l : List Attempt). holds (is_of c) (numbered l a.place)) (rows_of_end a e (call_of a s)) ∙ ap (holds (is_of c)) here ∙ off in
      then_same c s w (attempt_ended_as e s a)
      (joins c s z w (run_of_end a e (call_of a s))
      (joins c z y w (attempt_apart c (with_end e) (λ q. refl) a.place z other)
      (call_apart c (λ (d : Call). record d { marks = d.marks ++ record { what = mark.Ended a.place; moment = now y } ∷ [] }) a.row.call y off)))
      (record { calls = refl; attempts = refl; configs = refl; runs = refl })

  -- HEADERS open a stream
  stream_of : (f : FrameSeen) (l : Link) (o : Option Attempt) → slice_get (waiting_on l s) 0 ≡ o → is_number c.number (option_map (λ (a : Attempt). a.row.call) o) ≡ false
      → IsApart s (option_map_or (λ (a : Attempt). with_attempt (with_stream f.stream) a.place s) o s) c
  stream_of f l None got off = unchanged
  stream_of f l (Some a) got off =
      attempt_apart c (with_stream f.stream) (λ q. refl) a.place s (ap (holds (is_of c)) (at_place s.attempts a book.places (in_two l s a got)) ∙ off)

  open_if : (f : FrameSeen) (l : Link) (b : Bool)
      → is_number c.number (if b then option_map (λ (a : Attempt). a.row.call) (slice_get (waiting_on l s) 0) else None) ≡ false
      → IsApart s (if b then stream_opened f l s else s) c
  open_if f l true off = stream_of f l (slice_get (waiting_on l s) 0) refl off
  open_if f l false off = unchanged

  opens : (x : Sent) (l : Link) → is_number c.number (call_opened x s l) ≡ false → IsApart s (stream_opened_by x l s) c
  opens sent.Preface l off = unchanged
  opens (sent.Frame f) l off = open_if f l (f.kind == headers_type) off

  written : (x : Sent) (o : Option Link) → is_number c.number (option_and_then (call_opened x s) o) ≡ false → IsApart s (option_map_or (frame_written_on x s) o s) c
  written x None off = unchanged
  written x (Some l) off =
      then_same c s (stream_opened_by x l s) (frame_written_on x s l) (opens x l off) (record { calls = refl; attempts = refl; configs = refl; runs = refl })

  -- configs
  there : has_config s c ≡ true
  there = all_numbered (has_config s) s.calls c.number c book.configs own

  run_there_of : (o : Option HeldConfig) (n : ℕ) → numbered s.configs n ≡ o
      → option_map_or (λ (k : ℕ). is_some (numbered s.runs k)) (option_and_then (λ (h : HeldConfig). h.run) o) true ≡ true
  run_there_of None n got = refl
  run_there_of (Some h) n got = all_numbered (has_run s) s.configs n h book.runs got

  run_there_by : (o : Option ℕ)
      → option_map_or (λ (k : ℕ). is_some (numbered s.runs k)) (option_and_then (λ (h : HeldConfig). h.run) (option_and_then (numbered s.configs) o)) true ≡ true
  run_there_by None = refl
  run_there_by (Some n) = run_there_of (numbered s.configs n) n refl

  throttled : (z : Seen) → IsSame s z → (config : Config) (t : Throttle) (o : Option ℕ) → IsApart z (with_throttled config t o z) c
  throttled z e config t (Some run) = config_apart c (record { config = config; run = Some run }) z (ap (λ (l : List HeldConfig). option_map_or (λ (k : ℕ). is_some (numbered l k)) c.config true) e.configs ∙ there)
  throttled z e config t None =
      let run_is : option_map_or (λ (k : ℕ). is_some (numbered z.runs k)) (run_number c z) true ≡ true
      = ap (λ (l : List HeldConfig). option_map_or (λ (k : ℕ). is_some (numbered z.runs k)) (option_and_then (λ (h : HeldConfig). h.run) (option_and_then (numbered l) c.config)) true) e.configs
      ∙ ap (λ (l : List ThrottleRun). option_map_or (λ (k : ℕ). is_some (numbered l k)) (run_number c s) true) e.runs ∙ run_there_by c.config in
      joins c z (with_run t z) (with_throttled config t None z) (runs_apart c (record { throttle = t; ends = [] }) z run_is)
      (config_apart c (record { config = config; run = Some (length z.runs + 1) }) (with_run t z)
      (ap (λ (l : List HeldConfig). option_map_or (λ (k : ℕ). is_some (numbered l k)) c.config true) e.configs ∙ there))

  held : (z : Seen) → IsSame s z → (config : Config) (o : Option Throttle) → IsApart z (with_held config o z) c
  held z e config None = config_apart c (record { config = config; run = None }) z (ap (λ (l : List HeldConfig). option_map_or (λ (k : ℕ). is_some (numbered l k)) c.config true) e.configs ∙ there)
  held z e config (Some t) = throttled z e config t (run_to_join t z)

  read : (x : Result Config ConfigFault) → IsApart s (config_read x s) c
  read (Ok config) =
      let z : Seen = replied reply.Done (resolver_answered s) in
      let e : IsSame s z = record { calls = refl; attempts = refl; configs = refl; runs = refl } in
      joins c s z (config_read (Ok config) s) (same_apart c s z e) (held z e config config.throttle)
  read (Err fault) = same_apart c s (config_read (Err fault) s) (record { calls = refl; attempts = refl; configs = refl; runs = refl })

  act : (o : OpenEntry) (a : Action) → is_number c.number (acts_on a s) ≡ false → IsApart s (after_in o a s) c
  act o action.CallBegins off = begun o.event
  act o (action.MessageAccepted n) off =
      then_same c s (with_call (with_message o.event) n s) (after_in o (action.MessageAccepted n) s) (call_apart c (with_message o.event) n s off)
      (record { calls = refl; attempts = refl; configs = refl; runs = refl })
  act o (action.RequestFinished n) off =
      then_same c s (with_call (λ (d : Call). record d { finished = true }) n s) (after_in o (action.RequestFinished n) s)
      (call_apart c (λ (d : Call). record d { finished = true }) n s off) (record { calls = refl; attempts = refl; configs = refl; runs = refl })
  act o (action.ItemTaken n item) off =
      then_same c s (with_call (λ (d : Call). record d { taken = d.taken + 1; end_taken = is_end item }) n s) (after_in o (action.ItemTaken n item) s)
      (call_apart c (λ (d : Call). record d { taken = d.taken + 1; end_taken = is_end item }) n s off)
      (record { calls = refl; attempts = refl; configs = refl; runs = refl })
  act o (action.CallEnds n why) off = ended n why off
  act o (action.ConfigRead x) off = read x
  act o (action.CallConfigured n config) off = configured n config off
  act o (action.AttemptMade n number k due) off = made n number k due off
  act o (action.HedgeWithheld n) off = withheld n off
  act o (action.AttemptPlaced place at) off = row_changed (with_placing at) (λ q. refl) (mark.Placed place) place (other_by (numbered s.attempts place) off)
  act o (action.AttemptEnds place e) off = end_by place e (numbered s.attempts place) refl (other_by (numbered s.attempts place) off)
  act o (action.CallCommitted place why) off =
      row_changed (with_commitment (entry s)) (λ q. refl) mark.Committed place (other_by (numbered s.attempts place) off)
  act o (action.StreamReset place number) off = reset_by place number (numbered s.attempts place) refl (other_by (numbered s.attempts place) off)
  act o (action.FrameWritten link x) off = written x (numbered s.links link) off
  act o a off = same_apart c s (after_in o a s) (still o a s refl)

  act_if : (o : Option OpenEntry) (a : Action) → is_number c.number (acts_on a s) ≡ false → IsApart s (after_if o a s) c
  act_if (Some o) a off = act o a off
  act_if None (action.EntryOpens posted word e) off = same_apart c s (opened posted word e s) (record { calls = refl; attempts = refl; configs = refl; runs = refl })
  act_if None _ off = unchanged

pub others_stay : OthersStay
others_stay s c a book own off = act_if s c book own s.current a off

pub apart_joins : ApartJoins
apart_joins s t u c f g = joins c s t u f g
