-- What the entry that is being made shows of a call, and what an action does to it.
-- what it shows so far; and before its event it was not answered
use Rattle.attempt_ledger.specs.Journals.{taken_by as reported_by}
use Rattle.attempt_ledger.specs.Ends.{is_cut}
use Rattle.attempt_ledger.specs.Numbering.{is_transparent}
use Rattle.attempt_ledger.specs.declared.row.RowEnd.{RowEnd}
use Rattle.grpc_base.specs.declared.address.Address.{Address}
use Rattle.grpc_base.specs.declared.event.Event.{Event}
use Rattle.grpc_base.specs.declared.event.Reply.{Reply}
use Rattle.session_actions.specs.Actions.{after_in}
use Rattle.session_actions.specs.AttemptEnds.{attempt_ended_as, stream_reset_of, with_end, with_end_in_run}
use Rattle.session_actions.specs.Attempts.{call_of, is_to_follow, with_attempt}
use Rattle.session_actions.specs.Calls.{marked}
use Rattle.session_actions.specs.Commitments.{with_commitment}
use Rattle.session_actions.specs.Configs.{config_of_call}
use Rattle.session_actions.specs.Entries.{entry, replied, settling, with_entry, with_turn}
use Rattle.session_actions.specs.Links.{link_over, wants_resolution}
use Rattle.session_actions.specs.Making.{new_row, with_row, without_turn_unless}
use Rattle.session_actions.specs.Policies.{activated_in, addresses_in, current_policy, given_addresses, policy_retired, turn_at, with_placing, with_policy}
use Rattle.session_actions.specs.Subchannels.{gone_down, in_state, link_timed_out, noted_by_policies, with_sub, without_link}
use Rattle.session_actions.specs.Words.{changed, numbered}
use Rattle.session_actions.specs.Writing.{frame_read_on}
use Rattle.session_actions.specs.declared.action.Action.{Action}
use Rattle.session_actions.specs.declared.attempt.Attempt.{Attempt}
use Rattle.session_actions.specs.declared.call.Call.{Call}
use Rattle.session_actions.specs.declared.call.MarkKind.{MarkKind}
use Rattle.session_actions.specs.declared.config.HeldConfig.{HeldConfig}
use Rattle.session_actions.specs.declared.config.ThrottleRun.{ThrottleRun}
use Rattle.session_actions.specs.declared.entry.OpenEntry.{OpenEntry}
use Rattle.session_actions.specs.declared.entry.Stage.{Stage}
use Rattle.session_actions.specs.declared.entry.Turn.{Turn}
use Rattle.session_actions.specs.declared.link.Link.{Link}
use Rattle.session_actions.specs.declared.link.ReadFrame.{ReadFrame}
use Rattle.session_actions.specs.declared.policy.PolicyUse.{PolicyUse}
use Rattle.session_actions.specs.declared.seen.Seen.{Seen}
use Rattle.session_actions.specs.declared.subchannel.Subchannel.{Subchannel}
use Rattle.std.proofs.Common.{Bool, List, None, Option, Some, [], ap, false, if◌then◌else◌, is_none, is_some, length, not, refl, sym, true, ℕ, ◌&&◌, ◌++◌, ◌+◌, ◌||◌, ◌∙◌, ◌∷◌, ◌≡◌}
use Rattle.std.specs.Option.{option_map, option_map_or}
use Rattle.std.specs.Prelude.{option_and_then}
use Rattle.session_actions.specs.declared.action.Action.TheVariants as action
use Rattle.grpc_base.specs.declared.event.Conn.TheVariants as conn
use Rattle.session_actions.specs.declared.call.MarkKind.TheVariants as mark
use Rattle.session_actions.specs.declared.link.LinkOver.TheVariants as over
use Rattle.session_actions.specs.declared.entry.Stage.TheVariants as stage

abbrev pub pending : ℕ → Option OpenEntry → List Reply
pending k None = []
pending k (Some o) = option_map_or (λ r. reported_by k o.event r) o.reply []

abbrev pub is_at_event : Stage → Bool
is_at_event stage.Event = true
is_at_event _ = false

abbrev pub is_unanswered : Option OpenEntry → Bool
is_unanswered None = true
is_unanswered (Some o) = not (is_at_event o.stage) || is_none o.reply

abbrev pub event_of : Option OpenEntry → Option Event
event_of c = option_map (λ (o : OpenEntry). o.event) c

-- most actions leave it and the journal as they are
pub record Watched (k : ℕ) (s t : Seen) : Type 0 where
  pub entries : t.entries ≡ s.entries
  pub event : event_of t.current ≡ event_of s.current
  pub pends : pending k t.current ≡ pending k s.current
  pub fresh : is_unanswered s.current ≡ true → is_unanswered t.current ≡ true

-- others answer it
pub record Answered (s t : Seen) : Type 0 where
  pub entries : t.entries ≡ s.entries
  pub event : event_of t.current ≡ event_of s.current
  pub fresh : is_unanswered t.current ≡ true

-- neither is touched
pub record Aside (s t : Seen) : Type 0 where
  pub entries : t.entries ≡ s.entries
  pub current : t.current ≡ s.current

pub aside : (s : Seen) → Aside s s
aside s = record { entries = refl; current = refl }

pub watched : (k : ℕ) (s t : Seen) → Aside s t → Watched k s t
watched k s t h = record {
  entries = h.entries;
  event = ap event_of h.current;
  pends = ap (pending k) h.current;
  fresh = λ e. ap is_unanswered h.current ∙ e;
}

turned : (k : ℕ) (turn : Option Turn) (s : Seen) (c : Option OpenEntry) → s.current ≡ c → Watched k s (with_turn turn s)
turned k turn s None e = record {
  entries = refl;
  event = ap (λ (c : Option OpenEntry). event_of (option_map (λ (o : OpenEntry). record o { turn = turn }) c)) e ∙ sym (ap event_of e);
  pends = ap (λ (c : Option OpenEntry). pending k (option_map (λ (o : OpenEntry). record o { turn = turn }) c)) e ∙ sym (ap (pending k) e);
  fresh = λ is. ap (λ (c : Option OpenEntry). is_unanswered (option_map (λ (o : OpenEntry). record o { turn = turn }) c)) e;
}
turned k turn s (Some o) e = record {
  entries = refl;
  event = ap (λ (c : Option OpenEntry). event_of (option_map (λ (o : OpenEntry). record o { turn = turn }) c)) e ∙ sym (ap event_of e);
  pends = ap (λ (c : Option OpenEntry). pending k (option_map (λ (o : OpenEntry). record o { turn = turn }) c)) e ∙ sym (ap (pending k) e);
  fresh = λ is. ap (λ (c : Option OpenEntry). is_unanswered (option_map (λ (o : OpenEntry). record o { turn = turn }) c)) e ∙ (sym (ap is_unanswered e) ∙ is);
}

pub drawn_by : (k n : ℕ) (s : Seen) (c : Option OpenEntry) → s.current ≡ c → Watched k s (with_entry (λ o. record o { drawn = o.drawn + n }) s)
drawn_by k n s None e = record {
  entries = refl;
  event = ap (λ (c : Option OpenEntry). event_of (option_map (λ (o : OpenEntry). record o { drawn = o.drawn + n }) c)) e ∙ sym (ap event_of e);
  pends = ap (λ (c : Option OpenEntry). pending k (option_map (λ (o : OpenEntry). record o { drawn = o.drawn + n }) c)) e ∙ sym (ap (pending k) e);
  fresh = λ is. ap (λ (c : Option OpenEntry). is_unanswered (option_map (λ (o : OpenEntry). record o { drawn = o.drawn + n }) c)) e;
}
drawn_by k n s (Some o) e = record {
  entries = refl;
  event = ap (λ (c : Option OpenEntry). event_of (option_map (λ (o : OpenEntry). record o { drawn = o.drawn + n }) c)) e ∙ sym (ap event_of e);
  pends = ap (λ (c : Option OpenEntry). pending k (option_map (λ (o : OpenEntry). record o { drawn = o.drawn + n }) c)) e ∙ sym (ap (pending k) e);
  fresh = λ is. ap (λ (c : Option OpenEntry). is_unanswered (option_map (λ (o : OpenEntry). record o { drawn = o.drawn + n }) c)) e ∙ (sym (ap is_unanswered e) ∙ is);
}

settled_now : (k : ℕ) (s : Seen) (c : Option OpenEntry) → s.current ≡ c → Watched k s (settling s)
settled_now k s None e = record {
  entries = refl;
  event = ap (λ (c : Option OpenEntry). event_of (option_map (λ (o : OpenEntry). record o { stage = stage.Settling }) c)) e ∙ sym (ap event_of e);
  pends = ap (λ (c : Option OpenEntry). pending k (option_map (λ (o : OpenEntry). record o { stage = stage.Settling }) c)) e ∙ sym (ap (pending k) e);
  fresh = λ is. ap (λ (c : Option OpenEntry). is_unanswered (option_map (λ (o : OpenEntry). record o { stage = stage.Settling }) c)) e;
}
settled_now k s (Some o) e = record {
  entries = refl;
  event = ap (λ (c : Option OpenEntry). event_of (option_map (λ (o : OpenEntry). record o { stage = stage.Settling }) c)) e ∙ sym (ap event_of e);
  pends = ap (λ (c : Option OpenEntry). pending k (option_map (λ (o : OpenEntry). record o { stage = stage.Settling }) c)) e ∙ sym (ap (pending k) e);
  fresh = λ is. ap (λ (c : Option OpenEntry). is_unanswered (option_map (λ (o : OpenEntry). record o { stage = stage.Settling }) c)) e;
}

pub after_aside : (k : ℕ) (s t u : Seen) → Aside s t → Watched k t u → Watched k s u
after_aside k s t u h w = record {
  entries = w.entries ∙ h.entries;
  event = w.event ∙ ap event_of h.current;
  pends = w.pends ∙ ap (pending k) h.current;
  fresh = λ e. w.fresh (ap is_unanswered h.current ∙ e);
}

event_kept : (r : Reply) (c : Option OpenEntry) → event_of (option_map (λ (o : OpenEntry). record o { stage = stage.Replied; reply = Some r }) c) ≡ event_of c
event_kept r None = refl
event_kept r (Some o) = refl

answers : (r : Reply) (c : Option OpenEntry) → is_unanswered (option_map (λ (o : OpenEntry). record o { stage = stage.Replied; reply = Some r }) c) ≡ true
answers r None = refl
answers r (Some o) = refl

pub replied_so : (r : Reply) (s t : Seen) → Aside s t → Answered s (replied r t)
replied_so r s t h = record { entries = h.entries; event = event_kept r t.current ∙ ap event_of h.current; fresh = answers r t.current }

pub replied_watched : (k : ℕ) (r : Reply) (s t : Seen) → Watched k s t → Answered s (replied r t)
replied_watched k r s t w = record { entries = w.entries; event = event_kept r t.current ∙ w.event; fresh = answers r t.current }

-- what changes calls, attempts, links and the like leaves both
marked_by : (what : MarkKind) (s : Seen) (o : Option Attempt) → Aside s (option_map_or (λ (a : Attempt). marked what a.row.call s) o s)
marked_by what s None = aside s
marked_by what s (Some a) = record { entries = refl; current = refl }

run_by : (s : Seen) (a : Attempt) (b : Bool) (run : Option ℕ)
    → Aside s (if b then option_map_or (λ (k : ℕ). record s { runs = changed (λ (u : ThrottleRun). record u { ends = u.ends ++ a.place ∷ [] }) k s.runs }) run s else s)
run_by s a true None = aside s
run_by s a true (Some k) = record { entries = refl; current = refl }
run_by s a false run = aside s

counted_by : (s : Seen) (a : Attempt) (e : RowEnd) (o : Option Call) → Aside s (option_map_or (with_end_in_run a e s) o s)
counted_by s a e None = aside s
counted_by s a e (Some c) =
    run_by s a (not (is_cut e.cause) && not (is_to_follow c e.cause e.unseen s)) (option_and_then (λ (h : HeldConfig). h.run) (config_of_call c s))

ended_by : (k : ℕ) (s : Seen) (e : RowEnd) (o : Option Attempt) → Watched k s (option_map_or (attempt_ended_as e s) o s)
ended_by k s e None = watched k s s (aside s)
ended_by k s e (Some a) =
    let u : Seen = option_map_or (with_end_in_run a e s) (call_of a s) s in
    let h : Aside s u = counted_by s a e (call_of a s) in
    let v : Seen = marked (mark.Ended a.place) a.row.call (with_attempt (with_end e) a.place u) in
    let n : ℕ = if is_some e.word then 1 else 0 in
    after_aside k s v (with_entry (λ (o : OpenEntry). record o { drawn = o.drawn + n }) v) (record { entries = h.entries; current = h.current }) (drawn_by k n v v.current refl)

reset_by : (s : Seen) (number : ℕ) (o : Option Attempt) → Aside s (option_map_or (stream_reset_of number s) o s)
reset_by s number None = aside s
reset_by s number (Some a) = record { entries = refl; current = refl }

given_by : (g : ℕ) (s : Seen) (o : Option (List Address)) → Aside s (option_map_or (λ (x : List Address). with_policy (given_addresses x s) g s) o s)
given_by g s None = aside s
given_by g s (Some x) = record { entries = refl; current = refl }

over_by : (g : ℕ) (s : Seen) (o : Option PolicyUse) → Aside s (with_policy (activated_in (entry s)) g (option_map_or (λ (p : PolicyUse). policy_retired p.number s) o s))
over_by g s None = record { entries = refl; current = refl }
over_by g s (Some p) = record { entries = refl; current = refl }

noted_by : (s : Seen) (o : Option Subchannel) → Aside s (option_map_or (λ (b : Subchannel). noted_by_policies b s) o s)
noted_by s None = aside s
noted_by s (Some b) = record { entries = refl; current = refl }

pub sub_by : (f : Subchannel → Subchannel) (n : ℕ) (s : Seen) → Aside s (with_sub f n s)
sub_by f n s =
    let h : Aside (record s { subs = changed f n s.subs }) (with_sub f n s) = noted_by (record s { subs = changed f n s.subs }) (numbered (changed f n s.subs) n) in
    record { entries = h.entries; current = h.current }

late_by : (s : Seen) (o : Option ℕ) → Aside s (option_map_or (λ (link : ℕ). link_over over.TimedOut link s) o s)
late_by s None = aside s
late_by s (Some link) = record { entries = refl; current = refl }

late_so : (s : Seen) (o : Option Subchannel) → Aside s (option_map_or (λ (b : Subchannel). link_timed_out b s) o s)
late_so s None = aside s
late_so s (Some b) = late_by s b.link

frame_by : (r : ReadFrame) (s : Seen) (o : Option Link) → Aside s (option_map_or (frame_read_on r s) o s)
frame_by r s None = aside s
frame_by r s (Some l) = record { entries = refl; current = refl }

made_by : (k : ℕ) (keeps : Bool) (s t : Seen) → Aside s t → Watched k s (without_turn_unless keeps t)
made_by k true s t h = watched k s t h
made_by k false s t h = after_aside k s t (with_turn None t) h (turned k None t t.current refl)

-- actions that leave the answer
abbrev pub is_silent : Action → Bool
is_silent (action.EntryOpens posted word e) = false
is_silent (action.EventRefused why) = false
is_silent (action.EventAnswered r) = false
is_silent action.EntryCloses = false
is_silent action.CallBegins = false
is_silent (action.MessageAccepted call) = false
is_silent (action.RequestFinished call) = false
is_silent (action.ItemTaken call item) = false
is_silent (action.ConfigRead config) = false
is_silent action.ResolutionFailed = false
is_silent (action.DialTaken sub again until) = false
is_silent (action.DialFails sub) = false
is_silent (action.LinkUp sub) = false
is_silent (action.BytesArrive link) = false
is_silent (action.LinkLost link) = false
is_silent (action.PingQueued link) = false
is_silent (action.FrameWritten link x) = false
is_silent action.ChannelShuts = false
is_silent _ = true

pub silent : (k : ℕ) (o : OpenEntry) (a : Action) (s : Seen) → is_silent a ≡ true → Watched k s (after_in o a s)
silent k o action.SettlingBegins s e = settled_now k s s.current refl
silent k o (action.CallEnds call why) s e = watched k s (after_in o (action.CallEnds call why) s) (record { entries = refl; current = refl })
silent k o (action.CallConfigured call config) s e = watched k s (after_in o (action.CallConfigured call config) s) (record { entries = refl; current = refl })
silent k o (action.AttemptMade call number x due) s e =
    made_by k (is_transparent x) s (marked (mark.Made (length s.attempts + 1)) call (with_row (new_row call number x due) s)) (record { entries = refl; current = refl })
silent k o (action.HedgeWithheld call) s e = made_by k false s (marked mark.Withheld call s) (record { entries = refl; current = refl })
silent k o (action.PickRequested row generation answer) s e =
    let u : Seen = record s { asks = s.asks ++ record { entry = entry s; generation = generation; row = row; answer = answer } ∷ [] } in
    after_aside k s u (with_turn (turn_at row s) u) (record { entries = refl; current = refl }) (turned k (turn_at row s) u u.current refl)
silent k o (action.AttemptPlaced row where_to) s e =
    let u : Seen = with_attempt (with_placing where_to) row s in
    let h : Aside u (after_in o (action.AttemptPlaced row where_to) s) = marked_by (mark.Placed row) u (numbered u.attempts row) in
    watched k s (after_in o (action.AttemptPlaced row where_to) s) (record { entries = h.entries; current = h.current })
silent k o (action.AttemptEnds row x) s e = ended_by k s x (numbered s.attempts row)
silent k o (action.CallCommitted row why) s e =
    let u : Seen = with_attempt (with_commitment (entry s)) row s in
    let h : Aside u (after_in o (action.CallCommitted row why) s) = marked_by mark.Committed u (numbered u.attempts row) in
    watched k s (after_in o (action.CallCommitted row why) s) (record { entries = h.entries; current = h.current })
silent k o (action.StreamReset row number) s e = watched k s (after_in o (action.StreamReset row number) s) (reset_by s number (numbered s.attempts row))
silent k o (action.PolicyBegins x) s e = watched k s (after_in o (action.PolicyBegins x) s) (record { entries = refl; current = refl })
silent k o (action.AddressesGiven g) s e = watched k s (after_in o (action.AddressesGiven g) s) (given_by g s (addresses_in o.event))
silent k o (action.PolicyTakesOver g) s e = watched k s (after_in o (action.PolicyTakesOver g) s) (over_by g s (current_policy s))
silent k o (action.PolicyRetired g) s e = watched k s (after_in o (action.PolicyRetired g) s) (record { entries = refl; current = refl })
silent k o (action.SubchannelAdded address) s e = watched k s (after_in o (action.SubchannelAdded address) s) (record { entries = refl; current = refl })
silent k o (action.SubchannelShut sub) s e = watched k s (after_in o (action.SubchannelShut sub) s) (sub_by (without_link conn.Shutdown) sub s)
silent k o (action.SubchannelConnects sub) s e = watched k s (after_in o (action.SubchannelConnects sub) s) (sub_by (in_state conn.Connecting) sub s)
silent k o (action.ConnectTimesOut sub) s e =
    let u : Seen = option_map_or (λ (b : Subchannel). link_timed_out b s) (numbered s.subs sub) s in
    let h : Aside s u = late_so s (numbered s.subs sub) in
    let g : Aside (wants_resolution u) (with_sub (without_link conn.Failure) sub (wants_resolution u)) = sub_by (without_link conn.Failure) sub (wants_resolution u) in
    watched k s (after_in o (action.ConnectTimesOut sub) s) (record { entries = g.entries ∙ h.entries; current = g.current ∙ h.current })
silent k o (action.BackoffEnds sub) s e = watched k s (after_in o (action.BackoffEnds sub) s) (sub_by (in_state conn.Idle) sub s)
silent k o (action.SettingsArrive sub) s e =
    watched k s (after_in o (action.SettingsArrive sub) s) (sub_by (λ (b : Subchannel). record b { state = conn.Ready; dials = 0; until = None }) sub s)
silent k o (action.LinkDown sub) s e = watched k s (after_in o (action.LinkDown sub) s) (sub_by gone_down sub s)
silent k o (action.FrameRead link r) s e = watched k s (after_in o (action.FrameRead link r) s) (frame_by r s (numbered s.links link))
silent k o (action.LinkBreaks link number) s e = watched k s (after_in o (action.LinkBreaks link number) s) (record { entries = refl; current = refl })
silent k o _ s e = absurd (cc)
