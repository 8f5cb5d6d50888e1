-- Kind by kind: an action that may follow at once leaves what passed on links; and none but those of an event, and the begin of the settling, change the stage of an entry.
use Rattle.std.proofs.Common.{◌≡◌, ◌&&◌, ◌++◌, ◌+◌, ◌==◌, ◌∷◌, not, ap, refl, subst, sym, ◌∙◌, Bool, true, false, List, [], None, Option, Some, ℕ, if◌then◌else◌, is_some, length, map}
use Rattle.std.specs.Option.{option_map, option_map_or}
use Rattle.std.specs.Prelude.{option_and_then}
use Rattle.attempt_ledger.specs.Ends.{is_cut}
use Rattle.attempt_ledger.specs.Numbering.{is_transparent}
use Rattle.attempt_ledger.specs.declared.row.RowEnd.{RowEnd}
use Rattle.attempt_ledger.specs.declared.row.RowKind.{RowKind}
use Rattle.call_actions.proofs.Ranks.{numbered_more}
use Rattle.call_cases.proofs.CallPosts.Report.{map_changed}
use Rattle.event_cases.proofs.PassedAtOnce.Lines.{is_of_settling}
use Rattle.event_cases.specs.PassedAtOnce.Laws.{ActionsLeavePassed}
use Rattle.event_cases.specs.PassedAtOnce.Passed.{HasStream, IsPassedStill, Served, is_at_once, served, unqueued}
use Rattle.grpc_base.specs.declared.address.Address.{Address}
use Rattle.grpc_base.specs.declared.event.Conn.TheVariants as conn
use Rattle.grpc_base.specs.declared.event.Event.{Event}
use Rattle.link_actions.proofs.LossActions.Calls.{changed_any}
use Rattle.session_actions.specs.Actions.{after, after_if, after_in}
use Rattle.session_actions.specs.AttemptEnds.{attempt_ended_as, stream_reset_of, with_end, with_end_in_run, with_reset_queued}
use Rattle.session_actions.specs.Attempts.{call_of, is_to_follow, marked_row, with_attempt}
use Rattle.session_actions.specs.Calls.{marked, with_call}
use Rattle.session_actions.specs.Commitments.{with_commitment}
use Rattle.session_actions.specs.Configs.{config_of_call}
use Rattle.session_actions.specs.Entries.{entry, now}
use Rattle.session_actions.specs.Links.{link_number, link_over, wants_resolution, with_link}
use Rattle.session_actions.specs.Making.{attempt_made, new_row, with_row, without_turn_unless}
use Rattle.session_actions.specs.Policies.{addresses_in, current_policy, given_addresses, policy_retired, turn_at, with_placing, with_policy}
use Rattle.session_actions.specs.Subchannels.{gone_down, in_state, link_timed_out, noted_by_policies, with_sub, without_link}
use Rattle.session_actions.specs.Words.{changed, numbered}
use Rattle.session_actions.specs.declared.action.Action.{Action}
use Rattle.session_actions.specs.declared.action.Action.TheVariants as action
use Rattle.session_actions.specs.declared.attempt.Attempt.{Attempt}
use Rattle.session_actions.specs.declared.call.Call.{Call}
use Rattle.session_actions.specs.declared.call.MarkKind.{MarkKind}
use Rattle.session_actions.specs.declared.call.MarkKind.TheVariants as mark
use Rattle.session_actions.specs.declared.config.ThrottleRun.{ThrottleRun}
use Rattle.session_actions.specs.declared.entry.OpenEntry.{OpenEntry}
use Rattle.session_actions.specs.declared.entry.Stage.{Stage}
use Rattle.session_actions.specs.declared.link.Link.{Link}
use Rattle.session_actions.specs.declared.link.LinkOver.TheVariants as over
use Rattle.session_actions.specs.declared.policy.PolicyUse.{PolicyUse}
use Rattle.session_actions.specs.declared.seen.Seen.{Seen}
use Rattle.session_actions.specs.declared.subchannel.Subchannel.{Subchannel}
use Rattle.session_order.proofs.Boards.{with_sub_current}
use Rattle.session_order.proofs.Changed.{lookup}

-- stage and event of the entry that is open
pub record Staged : Type 0 where
  pub stage_ : Stage
  pub event_ : Event

abbrev pub staged : OpenEntry → Staged
staged o = record { stage_ = o.stage; event_ = o.event }

abbrev pub IsSameStage : Seen → Seen → Type 0
IsSameStage s t = option_map staged t.current ≡ option_map staged s.current

entered : (f : OpenEntry → OpenEntry) → ((o : OpenEntry) → staged (f o) ≡ staged o) → (q : Option OpenEntry) → option_map staged (option_map f q) ≡ option_map staged q
entered f same None = refl
entered f same (Some o) = ap (λ (z : Staged). Some z) (same o)

-- what is left as it was
pub passed_self : (s : Seen) → IsPassedStill s s
passed_self s = record {
  links = refl;
  attempts = λ row a at. record { now = a; there = at; call = refl; stream = refl; over = λ e. e };
  calls = λ k. refl;
  configs = refl;
}

passed_same : (s t : Seen) → t.links ≡ s.links → t.attempts ≡ s.attempts → t.calls ≡ s.calls → t.configs ≡ s.configs → IsPassedStill s t
passed_same s t links attempts calls configs = record {
  links = ap (map unqueued) links;
  attempts = λ row a at. record { now = a; there = ap (λ (xs : List Attempt). numbered xs row) attempts ∙ at; call = refl; stream = refl; over = λ e. e };
  calls = λ k. ap (λ (cs : List Call). option_map served (numbered cs k)) calls;
  configs = configs;
}

pub passed_then : (s t u : Seen) → IsPassedStill s t → IsPassedStill t u → IsPassedStill s u
passed_then s t u one two = record {
  links = two.links ∙ one.links;
  attempts = λ row a at.
      let b : HasStream a (numbered t.attempts row) = one.attempts row a at in
      let c : HasStream b.now (numbered u.attempts row) = two.attempts row b.now b.there in
      record { now = c.now; there = c.there; call = c.call ∙ b.call; stream = c.stream ∙ b.stream; over = λ e. c.over (b.over e) };
  calls = λ k. two.calls k ∙ one.calls k;
  configs = two.configs ∙ one.configs;
}

passed_or : {X : Type 0} (s : Seen) (f : X → Seen) → ((x : X) → IsPassedStill s (f x)) → (o : Option X) → IsPassedStill s (option_map_or f o s)
passed_or s f each None = passed_self s
passed_or s f each (Some x) = each x

-- a call, an attempt or a link changes
call_changed : (f : Call → Call) → ((c : Call) → served (f c) ≡ served c) → (n : ℕ) (s : Seen) → IsPassedStill s (with_call f n s)
call_changed f same n s = record {
  links = refl;
  attempts = λ row a at. record { now = a; there = at; call = refl; stream = refl; over = λ e. e };
  calls = λ k. lookup (option_map served) f (λ c. ap (λ (z : Served). Some z) (same c)) n s.calls k;
  configs = refl;
}

call_marked : (what : MarkKind) (n : ℕ) (s : Seen) → IsPassedStill s (marked what n s)
call_marked what n s = call_changed (λ (c : Call). record c { marks = c.marks ++ record { what = what; moment = now s } ∷ [] }) (λ c. refl) n s

-- what a change of an attempt leaves of it
record Leaves (f : Attempt → Attempt) : Type 0 where
  pub call : (a : Attempt) → (f a).row.call ≡ a.row.call
  pub stream : (a : Attempt) → (f a).row.stream ≡ a.row.stream
  pub over : (a : Attempt) → is_some a.row.ended ≡ true → is_some (f a).row.ended ≡ true

has_stream : (f : Attempt → Attempt) → Leaves f → (a : Attempt) (b : Bool) (o : Option Attempt)
    → o ≡ Some (if b then f a else a) → HasStream a o
has_stream f leaves a true o e = record { now = f a; there = e; call = leaves.call a; stream = leaves.stream a; over = leaves.over a }
has_stream f leaves a false o e = record { now = a; there = e; call = refl; stream = refl; over = λ e. e }

attempt_changed : (f : Attempt → Attempt) → Leaves f → (n : ℕ) (s : Seen)
    → IsPassedStill s (with_attempt f n s)
attempt_changed f leaves n s = record {
  links = refl;
  attempts = λ row a at.
      has_stream f leaves a (row == n) (numbered (changed f n s.attempts) row)
      (changed_any f n row s.attempts ∙ ap (option_map (λ (x : Attempt). if row == n then f x else x)) at);
  calls = λ k. refl;
  configs = refl;
}

link_changed : (f : Link → Link) → ((l : Link) → unqueued (f l) ≡ unqueued l) → (n : ℕ) (s : Seen) → IsPassedStill s (with_link f n s)
link_changed f same n s = record {
  links = map_changed unqueued f same n s.links;
  attempts = λ row a at. record { now = a; there = at; call = refl; stream = refl; over = λ e. e };
  calls = λ k. refl;
  configs = refl;
}

pub sub_changed : (f : Subchannel → Subchannel) (n : ℕ) (s : Seen) → IsPassedStill s (with_sub f n s)
sub_changed f n s =
    let t : Seen = record s { subs = changed f n s.subs } in
    passed_then s t (with_sub f n s) (passed_same s t refl refl refl refl)
    (passed_or t (λ (b : Subchannel). noted_by_policies b t) (λ b. passed_same t (noted_by_policies b t) refl refl refl refl) (numbered t.subs n))

row_marked : (f : Attempt → Attempt) → Leaves f → (what : MarkKind) (place : ℕ) (s : Seen)
    → IsPassedStill s (marked_row what place (with_attempt f place s))
row_marked f leaves what place s =
    let t : Seen = with_attempt f place s in
    passed_then s t (marked_row what place t) (attempt_changed f leaves place s)
    (passed_or t (λ (a : Attempt). marked what a.row.call t) (λ a. call_marked what a.row.call t) (numbered t.attempts place))

-- an attempt is made
turned : (b : Bool) (s : Seen) → IsPassedStill s (without_turn_unless b s)
turned true s = passed_self s
turned false s = passed_same s (without_turn_unless false s) refl refl refl refl

joins : (s : Seen) (b : Attempt) → IsPassedStill s (record s { attempts = s.attempts ++ b ∷ [] })
joins s b = record {
  links = refl;
  attempts = λ row a at. record { now = a; there = numbered_more s.attempts b a row at; call = refl; stream = refl; over = λ e. e };
  calls = λ k. refl;
  configs = refl;
}

made : (s : Seen) (n number : ℕ) (k : RowKind) (due : ℕ) → IsPassedStill s (attempt_made n number k due s)
made s n number k due =
    let t : Seen = with_row (new_row n number k due) s in
    let u : Seen = marked (mark.Made (length s.attempts + 1)) n t in
    passed_then s u (attempt_made n number k due s)
    (passed_then s t u (joins s (record { place = length s.attempts + 1; row = new_row n number k due; made = entry s; reset = false })) (call_marked (mark.Made (length s.attempts + 1)) n t))
    (turned (is_transparent k) u)

-- one ends
counted_if : (s : Seen) (place : ℕ) (b : Bool) (o : Option ℕ)
    → IsPassedStill s (if b then option_map_or (λ (run : ℕ). record s { runs = changed (λ (u : ThrottleRun). record u { ends = u.ends ++ place ∷ [] }) run s.runs }) o s else s)
counted_if s place true o =
    passed_or s (λ (run : ℕ). record s { runs = changed (λ (u : ThrottleRun). record u { ends = u.ends ++ place ∷ [] }) run s.runs }) (λ run. passed_same s _ refl refl refl refl) o
counted_if s place false o = passed_self s

ended : (s : Seen) (e : RowEnd) (a : Attempt) → IsPassedStill s (attempt_ended_as e s a)
ended s e a =
    let z : Seen = option_map_or (with_end_in_run a e s) (call_of a s) s in
    let y : Seen = with_attempt (with_end e) a.place z in
    let v : Seen = marked (mark.Ended a.place) a.row.call y in
    passed_then s z (attempt_ended_as e s a)
    (passed_or s (with_end_in_run a e s)
    (λ c. counted_if s a.place (not (is_cut e.cause) && not (is_to_follow c e.cause e.unseen s)) (option_and_then (λ h. h.run) (config_of_call c s))) (call_of a s))
    (passed_then z y (attempt_ended_as e s a) (attempt_changed (with_end e) (record { call = λ b. refl; stream = λ b. refl; over = λ b h. refl }) a.place z)
    (passed_then y v (attempt_ended_as e s a) (call_marked (mark.Ended a.place) a.row.call y) (passed_same v (attempt_ended_as e s a) refl refl refl refl)))

reset : (s : Seen) (number : ℕ) (a : Attempt) → IsPassedStill s (stream_reset_of number s a)
reset s number a =
    let t : Seen = with_attempt with_reset_queued a.place s in
    passed_then s t (stream_reset_of number s a) (attempt_changed with_reset_queued (record { call = λ b. refl; stream = λ b. refl; over = λ b e. e }) a.place s) (link_changed _ (λ l. refl) (link_number a) t)

closes : (s : Seen) (n : ℕ) (f : Call → Call) → ((c : Call) → served (f c) ≡ served c) → IsPassedStill s (with_call f n (marked mark.Closed n s))
closes s n f same =
    let t : Seen = marked mark.Closed n s in passed_then s t (with_call f n t) (call_marked mark.Closed n s) (call_changed f same n t)

acts : (o : OpenEntry) (a : Action) (s : Seen) → is_at_once a ≡ true → IsPassedStill s (after_in o a s)
acts o (action.CallEnds call why) s e = closes s call (λ (c : Call). record c { end = Some (record { entry = entry s; moment = now s; cause = why }) }) (λ c. refl)
acts o (action.AttemptMade call number k due) s e = made s call number k due
acts o (action.AttemptPlaced row at) s e = row_marked (with_placing at) (record { call = λ b. refl; stream = λ b. refl; over = λ b e. e }) (mark.Placed row) row s
acts o (action.AttemptEnds row end) s e = passed_or s (attempt_ended_as end s) (ended s end) (numbered s.attempts row)
acts o (action.CallCommitted row why) s e = row_marked (with_commitment (entry s)) (record { call = λ b. refl; stream = λ b. refl; over = λ b e. e }) mark.Committed row s
acts o (action.StreamReset row number) s e = passed_or s (stream_reset_of number s) (reset s number) (numbered s.attempts row)
acts o (action.PolicyBegins k) s e = passed_same s _ refl refl refl refl
acts o (action.AddressesGiven generation) s e =
    passed_or s (λ (addresses : List Address). with_policy (given_addresses addresses s) generation s) (λ addresses. passed_same s _ refl refl refl refl) (addresses_in o.event)
acts o (action.PolicyRetired generation) s e = passed_same s _ refl refl refl refl
acts o (action.SubchannelAdded address) s e = passed_same s _ refl refl refl refl
acts o (action.SubchannelShut sub) s e = sub_changed (without_link conn.Shutdown) sub s
acts o (action.SettingsArrive sub) s e = sub_changed (λ b. record b { state = conn.Ready; dials = 0; until = None }) sub s
acts o (action.LinkDown sub) s e = sub_changed gone_down sub s
acts o _ s e = absurd (cc)

pub actions_leave_passed : ActionsLeavePassed
actions_leave_passed a o s current once = subst (IsPassedStill s) (sym (ap (λ (q : Option OpenEntry). after_if q a s) current)) (acts o a s once)

-- the stage of the entry
stage_or : {X : Type 0} (s t : Seen) (f : X → Seen) → IsSameStage s t → ((x : X) → IsSameStage s (f x)) → (o : Option X) → IsSameStage s (option_map_or f o t)
stage_or s t f none each None = none
stage_or s t f none each (Some x) = each x

turn_stage : (b : Bool) (s : Seen) → IsSameStage s (without_turn_unless b s)
turn_stage true s = refl
turn_stage false s = entered (λ (o : OpenEntry). record o { turn = None }) (λ o. refl) s.current

sub_stage : (f : Subchannel → Subchannel) (n : ℕ) (s : Seen) → IsSameStage s (with_sub f n s)
sub_stage f n s = ap (option_map staged) (with_sub_current s n f)

run_stage : (s : Seen) (place : ℕ) (b : Bool) (o : Option ℕ)
    → IsSameStage s (if b then option_map_or (λ (run : ℕ). record s { runs = changed (λ (u : ThrottleRun). record u { ends = u.ends ++ place ∷ [] }) run s.runs }) o s else s)
run_stage s place true o = stage_or s s (λ (run : ℕ). record s { runs = changed (λ (u : ThrottleRun). record u { ends = u.ends ++ place ∷ [] }) run s.runs }) refl (λ run. refl) o
run_stage s place false o = refl

end_stage : (s : Seen) (e : RowEnd) (a : Attempt) → IsSameStage s (attempt_ended_as e s a)
end_stage s e a =
    let z : Seen = option_map_or (with_end_in_run a e s) (call_of a s) s in
    entered (λ (o : OpenEntry). record o { drawn = o.drawn + (if is_some e.word then 1 else 0) }) (λ o. refl) z.current
    ∙ stage_or s s (with_end_in_run a e s) refl
    (λ c. run_stage s a.place (not (is_cut e.cause) && not (is_to_follow c e.cause e.unseen s)) (option_and_then (λ h. h.run) (config_of_call c s))) (call_of a s)

timed_stage : (s : Seen) (o : Option Subchannel) → IsSameStage s (option_map_or (λ (b : Subchannel). link_timed_out b s) o s)
timed_stage s o = stage_or s s (λ (b : Subchannel). link_timed_out b s) refl (λ b. stage_or s s (λ (link : ℕ). link_over over.TimedOut link s) refl (λ link. refl) b.link) o

marks_stage : (what : MarkKind) (place : ℕ) (t : Seen) → IsSameStage t (marked_row what place t)
marks_stage what place t = stage_or t t (λ (a : Attempt). marked what a.row.call t) refl (λ a. refl) (numbered t.attempts place)

-- (an entry that closes has none any more)
abbrev pub is_closing : Action → Bool
is_closing action.EntryCloses = true
is_closing _ = false

stays : (o : OpenEntry) (a : Action) (s : Seen) → is_of_settling a ≡ true → is_closing a ≡ false → IsSameStage s (after_in o a s)
stays o (action.ConnectTimesOut sub) s e going =
    let z : Seen = option_map_or (λ (b : Subchannel). link_timed_out b s) (numbered s.subs sub) s in
    sub_stage (without_link conn.Failure) sub (wants_resolution z) ∙ timed_stage s (numbered s.subs sub)
stays o (action.BackoffEnds sub) s e going = sub_stage (in_state conn.Idle) sub s
stays o (action.PolicyTakesOver generation) s e going = stage_or s s (λ (g : PolicyUse). policy_retired g.number s) refl (λ g. refl) (current_policy s)
stays o (action.SubchannelConnects sub) s e going = sub_stage (in_state conn.Connecting) sub s
stays o (action.CallConfigured call config) s e going = refl
stays o (action.HedgeWithheld call) s e going = entered (λ (p : OpenEntry). record p { turn = None }) (λ p. refl) s.current
stays o (action.PickRequested row generation answer) s e going = entered (λ (p : OpenEntry). record p { turn = turn_at row s }) (λ p. refl) s.current
stays o (action.CallEnds call why) s e going = refl
stays o (action.AttemptMade call number k due) s e going = turn_stage (is_transparent k) (marked (mark.Made (length s.attempts + 1)) call (with_row (new_row call number k due) s))
stays o (action.AttemptPlaced row at) s e going = marks_stage (mark.Placed row) row (with_attempt (with_placing at) row s)
stays o (action.AttemptEnds row end) s e going = stage_or s s (attempt_ended_as end s) refl (end_stage s end) (numbered s.attempts row)
stays o (action.CallCommitted row why) s e going = marks_stage mark.Committed row (with_attempt (with_commitment (entry s)) row s)
stays o (action.StreamReset row number) s e going = stage_or s s (stream_reset_of number s) refl (λ a. refl) (numbered s.attempts row)
stays o (action.PolicyBegins k) s e going = refl
stays o (action.AddressesGiven generation) s e going =
    stage_or s s (λ (addresses : List Address). with_policy (given_addresses addresses s) generation s) refl (λ addresses. refl) (addresses_in o.event)
stays o (action.PolicyRetired generation) s e going = refl
stays o (action.SubchannelAdded address) s e going = refl
stays o (action.SubchannelShut sub) s e going = sub_stage (without_link conn.Shutdown) sub s
stays o (action.SettingsArrive sub) s e going = sub_stage (λ b. record b { state = conn.Ready; dials = 0; until = None }) sub s
stays o (action.LinkDown sub) s e going = sub_stage gone_down sub s
stays o _ s e going = absurd (cc)

pub stage_stays : (o : OpenEntry) (a : Action) (s : Seen) → s.current ≡ Some o → is_of_settling a ≡ true → is_closing a ≡ false → IsSameStage s (after a s)
stage_stays o a s current e going = subst (IsSameStage s) (sym (ap (λ (q : Option OpenEntry). after_if q a s) current)) (stays o a s e going)
