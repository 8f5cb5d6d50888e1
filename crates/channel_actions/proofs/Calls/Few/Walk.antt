-- No action but the begin of a call makes calls more, and only the close of an entry makes entries more; a call begins where its entry is at its event, and is not at it
-- any more then. So calls are no more than entries.
use Rattle.attempt_ledger.specs.Ends.{is_cut}
use Rattle.attempt_ledger.specs.Numbering.{is_transparent}
use Rattle.attempt_ledger.specs.declared.row.RowEnd.{RowEnd}
use Rattle.channel_actions.proofs.Links.Settings.Slots.{set_length}
use Rattle.channel_actions.proofs.Calls.Few.Begins.{begins_at_event, is_at_event}
use Rattle.grpc_base.specs.declared.address.Address.{Address}
use Rattle.grpc_base.specs.declared.event.ConfigFault.{ConfigFault}
use Rattle.grpc_base.specs.declared.event.Conn.TheVariants as conn
use Rattle.grpc_base.specs.declared.event.Event.TheVariants as event
use Rattle.grpc_base.specs.declared.event.Event.{Event}
use Rattle.grpc_base.specs.declared.event.Reply.TheVariants as reply
use Rattle.grpc_base.specs.declared.event.Reply.{Reply}
use Rattle.grpc_base.specs.declared.plan.Throttle.{Throttle}
use Rattle.h2_frame.specs.Frames.{FrameSeen}
use Rattle.h2_frame.specs.Numbers.{headers_type}
use Rattle.service_config.specs.declared.config.Config.{Config}
use Rattle.session_actions.specs.Actions.{after, after_if, after_in}
use Rattle.session_actions.specs.AttemptEnds.{attempt_ended_as, stream_reset_of, with_end, with_end_in_run}
use Rattle.session_actions.specs.Attempts.{call_of, is_to_follow, with_attempt}
use Rattle.session_actions.specs.Calls.{marked, with_call}
use Rattle.session_actions.specs.Closing.{entry_made, made_entry}
use Rattle.session_actions.specs.Commitments.{with_commitment}
use Rattle.session_actions.specs.Configs.{config_of_call, config_read, resolver_answered, run_to_join, with_config, with_held, with_run, with_throttled}
use Rattle.session_actions.specs.Deliveries.{begun_call, call_begun_by, is_end, with_message}
use Rattle.session_actions.specs.Entries.{entry, now, opened, replied}
use Rattle.session_actions.specs.Links.{wants_resolution, with_link}
use Rattle.session_actions.specs.Making.{new_row, with_row, without_turn_unless}
use Rattle.session_actions.specs.Policies.{activated_in, addresses_in, current_policy, given_addresses, pick_requested, policy_begun, policy_retired, policy_took_over, turn_at, with_placing, with_policy}
use Rattle.session_actions.specs.Sessions.{Does, IsNext, new_session}
use Rattle.session_actions.specs.Subchannels.{dial_taken_of, gone_down, in_state, link_timed_out, new_link, new_sub, noted_by_policies, with_dial, with_sub, without_link}
use Rattle.session_actions.specs.Words.{changed, changed_if, numbered}
use Rattle.session_actions.specs.Writing.{frame_read_on, frame_written_on, ping_of, stream_opened, stream_opened_by, waiting_on, with_piece, with_stream, with_written_bytes}
use Rattle.session_actions.specs.declared.action.Action.TheVariants as action
use Rattle.session_actions.specs.declared.action.Action.{Action}
use Rattle.session_actions.specs.declared.attempt.Attempt.{Attempt}
use Rattle.session_actions.specs.declared.call.Call.{Call}
use Rattle.session_actions.specs.declared.call.MarkKind.TheVariants as mark
use Rattle.session_actions.specs.declared.call.MarkKind.{MarkKind}
use Rattle.session_actions.specs.declared.config.HeldConfig.{HeldConfig}
use Rattle.session_actions.specs.declared.config.ThrottleRun.{ThrottleRun}
use Rattle.session_actions.specs.declared.entry.OpenEntry.{OpenEntry}
use Rattle.session_actions.specs.declared.entry.Stage.TheVariants as stage
use Rattle.session_actions.specs.declared.entry.Turn.{Turn}
use Rattle.session_actions.specs.declared.link.Link.{Link}
use Rattle.session_actions.specs.declared.link.LinkOver.TheVariants as over
use Rattle.session_actions.specs.declared.link.ReadFrame.{ReadFrame}
use Rattle.session_actions.specs.declared.link.Sent.TheVariants as sent
use Rattle.session_actions.specs.declared.link.Sent.{Sent}
use Rattle.session_actions.specs.declared.link.Traffic.TheVariants as traffic
use Rattle.session_actions.specs.declared.policy.PolicyUse.{PolicyUse}
use Rattle.session_actions.specs.declared.seen.Seen.{Seen}
use Rattle.session_actions.specs.declared.seen.Setup.{Setup}
use Rattle.session_actions.specs.declared.subchannel.Subchannel.{Subchannel}
use Rattle.std.proofs.Common.{Bool, Err, List, None, Ok, Option, Result, Some, [], ap, arith, false, if◌then◌else◌, is_some, length, not, option_and_then, option_map, pred, refl, slice_get, subst, sym, true, ℕ, ◌&&◌, ◌++◌, ◌+◌, ◌==◌, ◌∙◌, ◌∷◌, ◌≡◌, ◌≤◌}
use Rattle.std.specs.Option.{option_map_or}

-- an entry that is at its event may yet begin a call
abbrev spare : Option OpenEntry → ℕ
spare None = 0
spare (Some o) = if is_at_event o.stage then 1 else 0

abbrev AreFew : Seen → Type 0
AreFew s = length s.calls + spare s.current ≤ entry s

-- from one session to the next
pub record Passes (s t : Seen) : Type 0 where
  pub calls : length t.calls ≡ length s.calls
  pub entries : entry t ≡ entry s
  pub spares : spare t.current ≤ spare s.current
  pub asks : t.asks ≡ s.asks
  pub subs : length s.subs ≤ length t.subs

few_after : (s t : Seen) → Passes s t → AreFew s → AreFew t
few_after s t p h =
    let a : length t.calls ≡ length s.calls = p.calls in
    let b : entry t ≡ entry s = p.entries in
    let c : spare t.current ≤ spare s.current = p.spares in
    let d : length s.calls + spare s.current ≤ entry s = h in omega (arith, a, b, c, d)

along : (s t u : Seen) → Passes s t → Passes t u → Passes s u
along s t u p q = record {
  calls = q.calls ∙ p.calls;
  entries = q.entries ∙ p.entries;
  spares = (let a : spare t.current ≤ spare s.current = p.spares in let b : spare u.current ≤ spare t.current = q.spares in omega (arith, a, b));
  asks = q.asks ∙ p.asks;
  subs = (let a : length s.subs ≤ length t.subs = p.subs in let b : length t.subs ≤ length u.subs = q.subs in omega (arith, a, b));
}

no_more : (n : ℕ) → n ≤ n
no_more n = omega arith

plain : (s t : Seen) → t.calls ≡ s.calls → t.entries ≡ s.entries → t.current ≡ s.current → t.asks ≡ s.asks → length t.subs ≡ length s.subs → Passes s t
plain s t a b c d f = record {
  calls = ap length a;
  entries = ap (λ (o : Option OpenEntry). length t.entries + (if is_some o then 1 else 0)) c ∙ ap (λ (n : ℕ). n + (if is_some s.current then 1 else 0)) (ap length b);
  spares = (let e : spare t.current ≡ spare s.current = ap spare c in omega (arith, e));
  asks = d;
  subs = (let e : length t.subs ≡ length s.subs = f in omega (arith, e));
}

-- the open entry, changed
spare_by : (f : OpenEntry → OpenEntry) → ((o : OpenEntry) → spare (Some (f o)) ≤ spare (Some o)) → (o : Option OpenEntry) → spare (option_map f o) ≤ spare o
spare_by f less None = no_more 0
spare_by f less (Some o) = less o

some_by : (f : OpenEntry → OpenEntry) (o : Option OpenEntry) → is_some (option_map f o) ≡ is_some o
some_by f None = refl
some_by f (Some o) = refl

entered : (f : OpenEntry → OpenEntry) → ((o : OpenEntry) → spare (Some (f o)) ≤ spare (Some o)) → (s : Seen) → Passes s (record s { current = option_map f s.current })
entered f less s = record {
  calls = refl;
  entries = ap (λ (b : Bool). length s.entries + (if b then 1 else 0)) (some_by f s.current);
  spares = spare_by f less s.current;
  asks = refl;
  subs = no_more (length s.subs);
}

pub none_left : (n : ℕ) → 0 ≤ n
none_left n = omega arith

answered : (r : Reply) (s : Seen) → Passes s (replied r s)
answered r s = entered (λ (o : OpenEntry). record o { stage = stage.Replied; reply = Some r }) (λ o. none_left (spare (Some o))) s

then_answered : (r : Reply) (s t : Seen) → Passes s t → Passes s (replied r t)
then_answered r s t p = along s t (replied r t) p (answered r t)

-- one call, changed
changed_by : {X : Type 0} (f : X → X) (n : ℕ) (xs : List X) (o : Option X) → length (changed_if f n xs o) ≡ length xs
changed_by f n xs None = refl
changed_by f n xs (Some x) = set_length xs (pred n) (f x)

changed_long : {X : Type 0} (f : X → X) (n : ℕ) (xs : List X) → length (changed f n xs) ≡ length xs
changed_long f n xs = changed_by f n xs (numbered xs n)

call_now : (f : Call → Call) (n : ℕ) (s : Seen) → Passes s (with_call f n s)
call_now f n s = record { calls = changed_long f n s.calls; entries = refl; spares = no_more (spare s.current); asks = refl; subs = no_more (length s.subs) }

marked_now : (what : MarkKind) (n : ℕ) (s : Seen) → Passes s (marked what n s)
marked_now what n s = call_now (λ (c : Call). record c { marks = c.marks ++ record { what = what; moment = now s } ∷ [] }) n s

row_marked : (what : MarkKind) (s : Seen) (o : Option Attempt) → Passes s (option_map_or (λ (a : Attempt). marked what a.row.call s) o s)
row_marked what s None = plain s s refl refl refl refl refl
row_marked what s (Some a) = marked_now what a.row.call s

-- attempts, links, policies
attempt_now : (f : Attempt → Attempt) (n : ℕ) (s : Seen) → Passes s (with_attempt f n s)
attempt_now f n s = plain s (with_attempt f n s) refl refl refl refl refl

link_now : (f : Link → Link) (n : ℕ) (s : Seen) → Passes s (with_link f n s)
link_now f n s = plain s (with_link f n s) refl refl refl refl refl

policy_now : (f : PolicyUse → PolicyUse) (n : ℕ) (s : Seen) → Passes s (with_policy f n s)
policy_now f n s = plain s (with_policy f n s) refl refl refl refl refl

-- subchannels, with what policies note of them
noted_if : (s u : Seen) (o : Option Subchannel) → Passes s u → Passes s (option_map_or (λ (b : Subchannel). noted_by_policies b u) o u)
noted_if s u None p = p
noted_if s u (Some b) p = along s u (noted_by_policies b u) p (plain u (noted_by_policies b u) refl refl refl refl refl)

sub_now : (f : Subchannel → Subchannel) (n : ℕ) (s : Seen) → Passes s (with_sub f n s)
sub_now f n s =
    let u : Seen = record s { subs = changed f n s.subs } in noted_if s u (numbered u.subs n) (plain s u refl refl refl refl (changed_long f n s.subs))

then_sub : (f : Subchannel → Subchannel) (n : ℕ) (s t : Seen) → Passes s t → Passes s (with_sub f n t)
then_sub f n s t p = along s t (with_sub f n t) p (sub_now f n t)

dialled_now : (again until : ℕ) (s : Seen) (o : Option Subchannel) → Passes s (option_map_or (dial_taken_of again until s) o s)
dialled_now again until s None = plain s s refl refl refl refl refl
dialled_now again until s (Some b) =
    let u : Seen = with_sub (with_dial again until) b.number s in
    let draw : OpenEntry → OpenEntry = λ (o : OpenEntry). record o { drawn = o.drawn + (if not (b.dials == 0) then 1 else 0) } in
    let v : Seen = record u { current = option_map draw u.current } in
    then_answered (reply.Dial b.number b.address until) s v
    (along s u v (sub_now (with_dial again until) b.number s) (entered draw (λ o. no_more (spare (Some o))) u))

timed_by : (s : Seen) (o : Option ℕ) → Passes s (option_map_or (λ (link : ℕ). with_link (λ (l : Link). record l { over = Some over.TimedOut }) link s) o s)
timed_by s None = plain s s refl refl refl refl refl
timed_by s (Some link) = link_now (λ (l : Link). record l { over = Some over.TimedOut }) link s

timed_now : (s : Seen) (o : Option Subchannel) → Passes s (option_map_or (λ (b : Subchannel). link_timed_out b s) o s)
timed_now s None = plain s s refl refl refl refl refl
timed_now s (Some b) = timed_by s b.link

-- configs
throttled_now : (config : Config) (t : Throttle) (run : Option ℕ) (s : Seen) → Passes s (with_throttled config t run s)
throttled_now config t (Some run) s = plain s (with_config config (Some run) s) refl refl refl refl refl
throttled_now config t None s = plain s (with_config config (Some (length s.runs + 1)) (with_run t s)) refl refl refl refl refl

held_now : (config : Config) (t : Option Throttle) (s : Seen) → Passes s (with_held config t s)
held_now config None s = plain s (with_config config None s) refl refl refl refl refl
held_now config (Some t) s = throttled_now config t (run_to_join t s) s

resolved : (r : Reply) (s : Seen) → Passes s (replied r (resolver_answered s))
resolved r s = then_answered r s (resolver_answered s) (plain s (resolver_answered s) refl refl refl refl refl)

read_now : (config : Result Config ConfigFault) (s : Seen) → Passes s (config_read config s)
read_now (Ok config) s =
    let u : Seen = replied reply.Done (resolver_answered s) in along s u (with_held config config.throttle u) (resolved reply.Done s) (held_now config config.throttle u)
read_now (Err fault) s = resolved (reply.BadConfig fault) s

-- attempts that end
run_by : (s : Seen) (a : Attempt) (b : Bool) (run : Option ℕ)
    → Passes s (if b then option_map_or (λ (k : ℕ). record s { runs = changed (λ (u : ThrottleRun). record u { ends = u.ends ++ a.place ∷ [] }) k s.runs }) run s else s)
run_by s a true None = plain s s refl refl refl refl refl
run_by s a true (Some k) = plain s (record s { runs = changed (λ (u : ThrottleRun). record u { ends = u.ends ++ a.place ∷ [] }) k s.runs }) refl refl refl refl refl
run_by s a false run = plain s s refl refl refl refl refl

counted_in : (s : Seen) (a : Attempt) (e : RowEnd) (c : Option Call) → Passes s (option_map_or (with_end_in_run a e s) c s)
counted_in s a e None = plain s s refl refl refl refl refl
counted_in s a e (Some c) =
    run_by s a (not (is_cut e.cause) && not (is_to_follow c e.cause e.unseen s)) (option_and_then (λ (x : HeldConfig). x.run) (config_of_call c s))

ended_now : (e : RowEnd) (s : Seen) (o : Option Attempt) → Passes s (option_map_or (attempt_ended_as e s) o s)
ended_now e s None = plain s s refl refl refl refl refl
ended_now e s (Some a) =
    let u : Seen = option_map_or (with_end_in_run a e s) (call_of a s) s in
    let v : Seen = with_attempt (with_end e) a.place u in
    let w : Seen = marked (mark.Ended a.place) a.row.call v in
    let draw : OpenEntry → OpenEntry = λ (x : OpenEntry). record x { drawn = x.drawn + (if is_some e.word then 1 else 0) } in
    along s w (record w { current = option_map draw w.current })
    (along s v w (along s u v (counted_in s a e (call_of a s)) (attempt_now (with_end e) a.place u)) (marked_now (mark.Ended a.place) a.row.call v))
    (entered draw (λ x. no_more (spare (Some x))) w)

reset_now : (number : ℕ) (s : Seen) (o : Option Attempt) → Passes s (option_map_or (stream_reset_of number s) o s)
reset_now number s None = plain s s refl refl refl refl refl
reset_now number s (Some a) = plain s (stream_reset_of number s a) refl refl refl refl refl

-- policies
given_now : (s : Seen) (g : ℕ) (o : Option (List Address)) → Passes s (option_map_or (λ (x : List Address). with_policy (given_addresses x s) g s) o s)
given_now s g None = plain s s refl refl refl refl refl
given_now s g (Some x) = policy_now (given_addresses x s) g s

over_now : (s : Seen) (o : Option PolicyUse) → Passes s (option_map_or (λ (g : PolicyUse). policy_retired g.number s) o s)
over_now s None = plain s s refl refl refl refl refl
over_now s (Some g) = plain s (policy_retired g.number s) refl refl refl refl refl

turned_now : (t : Option Turn) (s : Seen) → Passes s (record s { current = option_map (λ (o : OpenEntry). record o { turn = t }) s.current })
turned_now t s = entered (λ (o : OpenEntry). record o { turn = t }) (λ o. no_more (spare (Some o))) s

kept_turn : (b : Bool) (s : Seen) → Passes s (without_turn_unless b s)
kept_turn true s = plain s s refl refl refl refl refl
kept_turn false s = turned_now None s

-- frames
frame_now : (r : ReadFrame) (s : Seen) (o : Option Link) → Passes s (option_map_or (frame_read_on r s) o s)
frame_now r s None = plain s s refl refl refl refl refl
frame_now r s (Some l) = plain s (frame_read_on r s l) refl refl refl refl refl

stream_now : (f : FrameSeen) (s : Seen) (o : Option Attempt) → Passes s (option_map_or (λ (a : Attempt). with_attempt (with_stream f.stream) a.place s) o s)
stream_now f s None = plain s s refl refl refl refl refl
stream_now f s (Some a) = attempt_now (with_stream f.stream) a.place s

opened_if : (b : Bool) (f : FrameSeen) (l : Link) (s : Seen) → Passes s (if b then stream_opened f l s else s)
opened_if true f l s = stream_now f s (slice_get (waiting_on l s) 0)
opened_if false f l s = plain s s refl refl refl refl refl

opened_now : (x : Sent) (l : Link) (s : Seen) → Passes s (stream_opened_by x l s)
opened_now sent.Preface l s = plain s s refl refl refl refl refl
opened_now (sent.Frame f) l s = opened_if (f.kind == headers_type) f l s

written_now : (x : Sent) (s : Seen) (o : Option Link) → Passes s (option_map_or (frame_written_on x s) o s)
written_now x s None = plain s s refl refl refl refl refl
written_now x s (Some l) =
    let u : Seen = stream_opened_by x l s in
    let v : Seen = with_link (λ (k : Link). record k { traffic = k.traffic ++ traffic.Written x ∷ [] }) l.number u in
    along s v (record v { current = option_map (with_written_bytes x) v.current })
    (along s u v (opened_now x l s) (link_now (λ (k : Link). record k { traffic = k.traffic ++ traffic.Written x ∷ [] }) l.number u))
    (entered (with_written_bytes x) (λ o. no_more (spare (Some o))) v)

-- one more
grown : {X : Type 0} (y x : X) (ys : List X) → length (ys ++ x ∷ []) ≡ length ys + 1 → length (y ∷ (ys ++ x ∷ [])) ≡ length (y ∷ ys) + 1
grown y x ys e = omega (arith, e)

more_long : {X : Type 0} (x : X) (xs : List X) → length (xs ++ x ∷ []) ≡ length xs + 1
more_long x [] = refl
more_long x (y ∷ ys) = grown y x ys (more_long x ys)

more_than : {X : Type 0} (x : X) (xs : List X) → length xs ≤ length (xs ++ x ∷ [])
more_than x xs = (let e : length (xs ++ x ∷ []) ≡ length xs + 1 = more_long x xs in omega (arith, e))

-- a call begins
begun_now : (e : Event) (o : OpenEntry) (s : Seen) → s.current ≡ Some o → is_at_event o.stage ≡ true → AreFew s → AreFew (call_begun_by e s)
begun_now (event.Begin request) o s at first h =
    let c : Call = begun_call (length s.calls + 1) (entry s) (now s) request in
    let t : Seen = call_begun_by (event.Begin request) s in
    let a : length t.calls ≡ length s.calls + 1 = more_long c s.calls in
    let p : Passes s (replied (reply.Call (length s.calls + 1)) s) = answered (reply.Call (length s.calls + 1)) s in
    let b : entry t ≡ entry s = p.entries in
    let d : spare t.current ≡ 0 = ap (λ (x : Option OpenEntry). spare (option_map (λ (q : OpenEntry). record q { stage = stage.Replied; reply = Some (reply.Call (length s.calls + 1)) }) x)) at in
    let f : spare s.current ≡ 1 = ap spare at ∙ ap (λ (x : Bool). if x then 1 else 0) first in
    let g : length s.calls + spare s.current ≤ entry s = h in omega (arith, a, b, d, f, g)
begun_now _ o s at first h = h

-- an entry opens, and closes
opens_now : (posted word : ℕ) (e : Event) (s : Seen) → s.current ≡ None → AreFew s → AreFew (opened posted word e s)
opens_now posted word e s none h =
    let t : Seen = opened posted word e s in
    let a : length s.calls + spare s.current ≤ entry s = h in
    let b : entry s ≡ length s.entries + 0 = ap (λ (o : Option OpenEntry). length s.entries + (if is_some o then 1 else 0)) none in
    let c : spare s.current ≡ 0 = ap spare none in
    let d : entry t ≡ length s.entries + 1 = refl in
    let f : spare t.current ≡ 1 = refl in omega (arith, a, b, c, d, f)

closes_now : (o : OpenEntry) (s : Seen) → s.current ≡ Some o → AreFew s → AreFew (entry_made o s)
closes_now o s at h =
    let t : Seen = entry_made o s in
    let a : length s.calls + spare s.current ≤ entry s = h in
    let b : entry s ≡ length s.entries + 1 = ap (λ (x : Option OpenEntry). length s.entries + (if is_some x then 1 else 0)) at in
    let c : length t.entries ≡ length s.entries + 1 = more_long (made_entry o s) s.entries in
    let d : entry t ≡ length t.entries + 0 = refl in
    let f : spare t.current ≡ 0 = refl in
    let g : length t.calls ≡ length s.calls = refl in omega (arith, a, b, c, d, f, g)

-- each action but those
abbrev pub is_plain : Action → Bool
is_plain action.EntryCloses = false
is_plain action.CallBegins = false
is_plain (action.PickRequested row generation answer) = false
is_plain _ = true

pub passes_in : (o : OpenEntry) (a : Action) (s : Seen) → is_plain a ≡ true → Passes s (after_in o a s)
passes_in o (action.EntryOpens posted word e) s is = plain s s refl refl refl refl refl
passes_in o (action.EventRefused why) s is = (answered (reply.Refused why) s)
passes_in o (action.EventAnswered r) s is = (answered r s)
passes_in o action.SettlingBegins s is =
    (entered (λ (x : OpenEntry). record x { stage = stage.Settling }) (λ x. none_left (spare (Some x))) s)
passes_in o action.EntryCloses s is = absurd (cc)
passes_in o action.CallBegins s is = absurd (cc)
passes_in o (action.MessageAccepted call) s is =
    (then_answered reply.Done s (with_call (with_message o.event) call s) (call_now (with_message o.event) call s))
passes_in o (action.RequestFinished call) s is =
    (then_answered reply.Done s (with_call (λ (c : Call). record c { finished = true }) call s) (call_now (λ (c : Call). record c { finished = true }) call s))
passes_in o (action.ItemTaken call item) s is =
    (then_answered item s (with_call (λ (c : Call). record c { taken = c.taken + 1; end_taken = is_end item }) call s)
    (call_now (λ (c : Call). record c { taken = c.taken + 1; end_taken = is_end item }) call s))
passes_in o (action.CallEnds call why) s is =
    let u : Seen = marked mark.Closed call s in
    (along s u (after_in o (action.CallEnds call why) s) (marked_now mark.Closed call s)
    (call_now (λ (c : Call). record c { end = Some (record { entry = entry s; moment = now s; cause = why }) }) call u))
passes_in o (action.ConfigRead config) s is = (read_now config s)
passes_in o action.ResolutionFailed s is = (resolved reply.Done s)
passes_in o (action.CallConfigured call config) s is =
    let u : Seen = marked mark.Configured call s in
    (along s u (after_in o (action.CallConfigured call config) s) (marked_now mark.Configured call s)
    (call_now (λ (c : Call). record c { config = Some config; configured = Some (entry s) }) call u))
passes_in o (action.AttemptMade call number k due) s is =
    let u : Seen = with_row (new_row call number k due) s in
    let v : Seen = marked (mark.Made (length s.attempts + 1)) call u in
    (along s v (without_turn_unless (is_transparent k) v)
    (along s u v (plain s u refl refl refl refl refl) (marked_now (mark.Made (length s.attempts + 1)) call u)) (kept_turn (is_transparent k) v))
passes_in o (action.HedgeWithheld call) s is =
    let u : Seen = marked mark.Withheld call s in
    (along s u (after_in o (action.HedgeWithheld call) s) (marked_now mark.Withheld call s) (turned_now None u))
passes_in o (action.PickRequested row generation answer) s is = absurd (cc)
passes_in o (action.AttemptPlaced row at_link) s is =
    let u : Seen = with_attempt (with_placing at_link) row s in
    (along s u (after_in o (action.AttemptPlaced row at_link) s) (attempt_now (with_placing at_link) row s) (row_marked (mark.Placed row) u (numbered u.attempts row)))
passes_in o (action.AttemptEnds row end) s is = (ended_now end s (numbered s.attempts row))
passes_in o (action.CallCommitted row why) s is =
    let u : Seen = with_attempt (with_commitment (entry s)) row s in
    (along s u (after_in o (action.CallCommitted row why) s) (attempt_now (with_commitment (entry s)) row s) (row_marked mark.Committed u (numbered u.attempts row)))
passes_in o (action.StreamReset row number) s is = (reset_now number s (numbered s.attempts row))
passes_in o (action.PolicyBegins k) s is = (plain s (policy_begun k s) refl refl refl refl refl)
passes_in o (action.AddressesGiven generation) s is =
    (given_now s generation (addresses_in o.event))
passes_in o (action.PolicyTakesOver generation) s is =
    let u : Seen = option_map_or (λ (g : PolicyUse). policy_retired g.number s) (current_policy s) s in
    (along s u (policy_took_over generation s) (over_now s (current_policy s)) (policy_now (activated_in (entry s)) generation u))
passes_in o (action.PolicyRetired generation) s is = (plain s (policy_retired generation s) refl refl refl refl refl)
passes_in o (action.SubchannelAdded address) s is =
    (record { calls = refl; entries = refl; spares = no_more (spare s.current); asks = refl; subs = more_than (new_sub address (length s.subs + 1)) s.subs })
passes_in o (action.SubchannelShut sub) s is = (sub_now (without_link conn.Shutdown) sub s)
passes_in o (action.SubchannelConnects sub) s is = (sub_now (in_state conn.Connecting) sub s)
passes_in o (action.DialTaken sub again until) s is =
    (dialled_now again until s (numbered s.subs sub))
passes_in o (action.DialFails sub) s is =
    let u : Seen = wants_resolution s in
    (then_answered reply.Done s (with_sub (without_link conn.Failure) sub u) (then_sub (without_link conn.Failure) sub s u (plain s u refl refl refl refl refl)))
passes_in o (action.ConnectTimesOut sub) s is =
    let u : Seen = option_map_or (λ (b : Subchannel). link_timed_out b s) (numbered s.subs sub) s in
    let v : Seen = wants_resolution u in
    (then_sub (without_link conn.Failure) sub s v (along s u v (timed_now s (numbered s.subs sub)) (plain u v refl refl refl refl refl)))
passes_in o (action.BackoffEnds sub) s is = (sub_now (in_state conn.Idle) sub s)
passes_in o (action.LinkUp sub) s is =
    let n : ℕ = length s.links + 1 in
    let u : Seen = record s { links = s.links ++ new_link n sub s ∷ [] } in
    (then_answered (reply.Link n) s (with_sub (λ (b : Subchannel). record b { link = Some n }) sub u)
    (then_sub (λ (b : Subchannel). record b { link = Some n }) sub s u (plain s u refl refl refl refl refl)))
passes_in o (action.SettingsArrive sub) s is =
    (sub_now (λ (b : Subchannel). record b { state = conn.Ready; dials = 0; until = None }) sub s)
passes_in o (action.LinkDown sub) s is = (sub_now gone_down sub s)
passes_in o (action.BytesArrive link) s is =
    (then_answered reply.Done s (with_link (with_piece o.event) link s) (link_now (with_piece o.event) link s))
passes_in o (action.FrameRead link r) s is = (frame_now r s (numbered s.links link))
passes_in o (action.LinkBreaks link number) s is =
    (plain s (after_in o (action.LinkBreaks link number) s) refl refl refl refl refl)
passes_in o (action.LinkLost link) s is =
    let u : Seen = wants_resolution (with_link (λ (l : Link). record l { over = Some over.Lost }) link s) in
    (then_answered reply.Done s u (plain s u refl refl refl refl refl))
passes_in o (action.PingQueued link) s is =
    let u : Seen = with_link (λ (l : Link). record l { owed = l.owed ++ ping_of o.event }) link s in
    (then_answered reply.Done s u (plain s u refl refl refl refl refl))
passes_in o (action.FrameWritten link x) s is = (written_now x s (numbered s.links link))
passes_in o action.ChannelShuts s is =
    (then_answered reply.Done s (record s { shut = true }) (plain s (record s { shut = true }) refl refl refl refl refl))

few_in : (o : OpenEntry) (a : Action) (s : Seen) → s.current ≡ Some o → IsNext a s → AreFew s → AreFew (after_in o a s)
few_in o action.EntryCloses s at next h = closes_now o s at h
few_in o action.CallBegins s at next h = begun_now o.event o s at (begins_at_event s o action.CallBegins refl refl at next) h
few_in o (action.PickRequested row generation answer) s at next h =
    let t : Seen = pick_requested row generation answer s in
    let u : Seen = record s { asks = t.asks } in few_after u t (turned_now (turn_at row s) u) h
few_in o a s at next h = few_after s (after_in o a s) (passes_in o a s refl) h

few_if : (o : Option OpenEntry) (a : Action) (s : Seen) → s.current ≡ o → IsNext a s → AreFew s → AreFew (after_if o a s)
few_if (Some o) a s at next h = few_in o a s at next h
few_if None (action.EntryOpens posted word e) s at next h = opens_now posted word e s at h
few_if None a s at next h = h

few_along : (actions : List Action) (s t : Seen) → AreFew s → Does actions s t → AreFew t
few_along [] s t h does = subst AreFew (sym does) h
few_along (a ∷ actions) s t h does = few_along actions (after a s) t (few_if s.current a s refl does.0 h) does.1

pub calls_are_few : (setup : Setup) (actions : List Action) (s : Seen) → Does actions (new_session setup) s → length s.calls ≤ entry s
calls_are_few setup actions s does =
    let new : AreFew (new_session setup) = no_more 0 in
    let h : length s.calls + spare s.current ≤ entry s = few_along actions (new_session setup) s new does in omega (arith, h)
