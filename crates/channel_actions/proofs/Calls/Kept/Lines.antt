-- The lines of a session give only actions of which they say that: an attempt is made of a call that has its config, and a stream is reset of an attempt that ended.
use Rattle.attempt_ledger.specs.Hedging.{is_hedge}
use Rattle.attempt_ledger.specs.Numbering.{most_attempts}
use Rattle.attempt_ledger.specs.declared.ledger.Ask.{Ask}
use Rattle.grpc_base.specs.declared.address.Address.{Address}
use Rattle.grpc_base.specs.declared.event.EndCause.TheVariants as ending
use Rattle.grpc_base.specs.declared.event.EndCause.{EndCause}
use Rattle.grpc_base.specs.declared.event.Event.TheVariants as event
use Rattle.grpc_base.specs.declared.event.Event.{Event}
use Rattle.grpc_base.specs.declared.event.Refusal.TheVariants as refusal
use Rattle.grpc_base.specs.declared.event.Refusal.{Refusal}
use Rattle.grpc_base.specs.declared.event.Reply.TheVariants as reply
use Rattle.grpc_base.specs.declared.event.Reply.{Reply}
use Rattle.grpc_base.specs.declared.kind.Kind.{Kind}
use Rattle.grpc_base.specs.declared.kind.Pick.TheVariants as pick
use Rattle.grpc_base.specs.declared.kind.Pick.{Pick}
use Rattle.grpc_base.specs.declared.plan.CallPlan.{CallPlan}
use Rattle.channel_actions.proofs.Calls.Kept.Fits.{FitsEarly}
use Rattle.channel_actions.specs.KeptCalls.Early.{IsEarlyKept, has_none, is_early, is_past}
use Rattle.channel_actions.proofs.KeptSessions.Lists.{all_at, all_found, counted_places, own_number}
use Rattle.channel_actions.specs.KeptSessions.Kept.{IsKept}
use Rattle.lb_policy.specs.Table.{pick_of}
use Rattle.session_actions.specs.Actions.{config_action, first_action, following, following_in, of_calls, of_links, of_policies, of_settling, of_stage}
use Rattle.session_actions.specs.AttemptEnds.{code_at_end, cut, cut_end, end_of, next_cut, next_reset, next_wire_end, outcome_of, pick_end, reset_code_of, reset_of, wire_end}
use Rattle.session_actions.specs.Attempts.{call_of, is_outstanding, is_over, wants_follower}
use Rattle.session_actions.specs.CallEnds.{ending_call, has_long_request, has_long_response, is_after_event, is_cancelled, is_due_before, is_over_by_row, is_past_deadline, is_shut_down, lacks_config, next_deadline, next_ended}
use Rattle.session_actions.specs.Calls.{is_open_call}
use Rattle.session_actions.specs.Commitments.{committing, is_final_end, is_headed, is_inherited, next_final, next_headed, next_inherited, next_overflow, overflow_row}
use Rattle.session_actions.specs.Configs.{is_to_configure, is_too_long, plan_of}
use Rattle.session_actions.specs.Deliveries.{held_bytes, is_accepted, next_item, send_action, take_action}
use Rattle.session_actions.specs.DueAttempts.{attempts_made, due_after_mark, due_by, due_state, hedge_due, kind_of_next, next_due, no_due}
use Rattle.session_actions.specs.Entries.{entry, now}
use Rattle.session_actions.specs.Events.{event_action, event_action_by, event_applied, frame_action, frame_of_event, is_loss}
use Rattle.session_actions.specs.Links.{is_stream_before, link_of, read_bytes}
use Rattle.session_actions.specs.Making.{due_action, due_attempt, due_if_past, next_due_attempt, next_transparent, transparent_retry}
use Rattle.session_actions.specs.Policies.{asking, begin_if, current_policy, follow_ask, follow_pick, is_after, is_failure, is_queued_before, is_same_kind, is_served, is_to_retire, is_unfollowed, listed, live_policies, live_sub, may_take_over, next_asked, next_begun, next_given, next_of_pass, next_of_pick, next_of_queue, next_retired, next_take_over, pending_policy, placed_on, policy_of, wanted_kind, wants_addresses}
use Rattle.session_actions.specs.Reading.{next_read}
use Rattle.session_actions.specs.Refusals.{dial_refusal, refusal_of}
use Rattle.session_actions.specs.Sessions.{IsNext}
use Rattle.session_actions.specs.Subchannels.{clock_action, dial_action, is_connecting, is_dialable, is_dialling, is_idle, is_rested, is_to_be_ready, is_to_go_down, is_too_late, is_unlisted, is_wished, link_action, next_added, next_connected, next_of_clock, next_of_links, next_shut}
use Rattle.session_actions.specs.Tokens.{has_tokens}
use Rattle.session_actions.specs.Words.{earlier, first_of, foremost, holds, last_of, numbered}
use Rattle.session_actions.specs.Writing.{fits_drain, frame_to_write, read_action, read_next, sendable}
use Rattle.session_actions.specs.declared.action.Action.TheVariants as action
use Rattle.session_actions.specs.declared.action.Action.{Action}
use Rattle.session_actions.specs.declared.action.CommitCause.TheVariants as commit
use Rattle.session_actions.specs.declared.attempt.Attempt.{Attempt}
use Rattle.session_actions.specs.declared.call.Call.{Call}
use Rattle.session_actions.specs.declared.call.Mark.{Mark}
use Rattle.session_actions.specs.declared.due.DueState.{DueState}
use Rattle.session_actions.specs.declared.entry.OpenEntry.{OpenEntry}
use Rattle.session_actions.specs.declared.entry.Stage.TheVariants as stage
use Rattle.session_actions.specs.declared.entry.Stage.{Stage}
use Rattle.session_actions.specs.declared.entry.Turn.{Turn}
use Rattle.session_actions.specs.declared.link.Link.{Link}
use Rattle.session_actions.specs.declared.link.NextRead.TheVariants as nextread
use Rattle.session_actions.specs.declared.link.NextRead.{NextRead}
use Rattle.session_actions.specs.declared.policy.PolicyUse.{PolicyUse}
use Rattle.session_actions.specs.declared.response.Outcome.{Outcome}
use Rattle.session_actions.specs.declared.seen.Seen.{Seen}
use Rattle.session_actions.specs.declared.subchannel.Subchannel.{Subchannel}
use Rattle.std.proofs.Common.{Bool, List, None, Option, Some, [], ap, arith, cond, false, filter, find, fold, if◌then◌else◌, is_none, is_some, length, nat_le, not, option_and_then, option_map, refl, slice_get, subst, suc, sym, true, zero, ℕ, ◌&&◌, ◌+◌, ◌==◌, ◌||◌, ◌∙◌, ◌∷◌, ◌≡◌}
use Rattle.std.proofs.lemmas.Bool.Decides.{nat_tests}
use Rattle.std.proofs.lemmas.Bool.{and_parts}
use Rattle.std.specs.List.{list_any}
use Rattle.std.specs.Option.{option_map_or, option_or}

-- what a line gives, if it gives anything
abbrev FitsIf : Seen → Option Action → Type 0
FitsIf s None = Unit {0}
FitsIf s (Some a) = FitsEarly a s

sound_or : (s : Seen) (o p : Option Action) → FitsIf s o → FitsIf s p → FitsIf s (option_or o p)
sound_or s None p f g = g
sound_or s (Some a) p f g = f

sound_map : {X : Type 0} (s : Seen) (f : X → Action) → ((x : X) → FitsEarly (f x) s) → (o : Option X) → FitsIf s (option_map f o)
sound_map s f each None = tt
sound_map s f each (Some x) = each x

sound_of : {X : Type 0} (s : Seen) (q : X → Bool) (f : X → Action) → ((x : X) → q x ≡ true → FitsEarly (f x) s) → (o : Option X) → option_map_or q o true ≡ true
    → FitsIf s (option_map f o)
sound_of s q f each None e = tt
sound_of s q f each (Some x) e = each x e

sound_then : {X : Type 0} (s : Seen) (f : X → Option Action) → ((x : X) → FitsIf s (f x)) → (o : Option X) → FitsIf s (option_and_then f o)
sound_then s f each None = tt
sound_then s f each (Some x) = each x

sound_first : {X : Type 0} (s : Seen) (f : X → Option Action) (xs : List X) → ((i : ℕ) (x : X) → slice_get xs i ≡ Some x → FitsIf s (f x)) → FitsIf s (first_of f xs)
sound_first s f [] each = tt
sound_first s f (x ∷ xs) each = sound_or s (f x) (first_of f xs) (each 0 x refl) (sound_first s f xs (λ i y got. each (suc i) y got))

sound_if : (s : Seen) (b : Bool) (o p : Option Action) → FitsIf s o → FitsIf s p → FitsIf s (if b then o else p)
sound_if s true o p f g = f
sound_if s false o p f g = g

plain_or : (s : Seen) (o : Option Action) (rest : List (Option Action)) → FitsIf s o → FitsIf s (first_action rest) → FitsIf s (first_action (o ∷ rest))
plain_or s o rest f g = sound_or s o (first_action rest) f g

-- an attempt that waits for its pick, and the like
then_there : {X Y : Type 0} (f : X → Option Y) (o : Option X) → is_some (option_and_then f o) ≡ true → is_some o ≡ true
then_there f None e = absurd (cc)
then_there f (Some x) e = refl

itself : (n : ℕ) → nat_le n n ≡ true
itself n = grind (arith, nat_tests)

one_of : {X : Type 0} (o : Option X) (x y : X) → o ≡ Some x → o ≡ Some y → x ≡ y
one_of None x y e f = absurd (cc)
one_of (Some z) x y e f = (cc)

dialling_by : (b : Subchannel) (d : Bool) → is_dialling b ≡ d → (if not d then Some refusal.NotDialing else None) ≡ None → is_connecting b.state ≡ true
dialling_by b false e open_ = absurd (cc)
dialling_by b true e open_ =
    (and_parts (is_connecting b.state) (is_some b.until) (and_parts (is_connecting b.state && is_some b.until) (is_none b.link) e).0).0

dialling : (b : Bool) (o : Option Subchannel) → (if b then Some refusal.Shut else dial_refusal o) ≡ None → holds (λ (q : Subchannel). is_connecting q.state) o ≡ true
dialling true o e = absurd (cc)
dialling false None e = absurd (cc)
dialling false (Some b) e = dialling_by b (is_dialling b) refl e

-- of each thing of a list, and of the foremost of those that pass a test
abbrev Each : {X : Type 0} → (X → Type 0) → List X → Type 0
Each P [] = Unit {0}
Each P (x ∷ xs) = P x × Each P xs

abbrev HasIf : {X : Type 0} → (X → Type 0) → Option X → Type 0
HasIf P None = Unit {0}
HasIf P (Some x) = P x

each_from : {X : Type 0} (P : X → Type 0) (xs : List X) → ((i : ℕ) (x : X) → slice_get xs i ≡ Some x → P x) → Each P xs
each_from P [] each = tt
each_from P (x ∷ xs) each = (each zero x refl, each_from P xs (λ i y got. each (suc i) y got))

filter_by : {X : Type 0} (P : X → Type 0) (b : Bool) (x : X) (ys : List X) → P x → Each P ys → Each P (cond b (x ∷ ys) ys)
filter_by P true x ys p e = (p, e)
filter_by P false x ys p e = e

each_filter : {X : Type 0} (P : X → Type 0) (test : X → Bool) (xs : List X) → Each P xs → Each P (filter test xs)
each_filter P test [] e = tt
each_filter P test (x ∷ xs) e = filter_by P (test x) x (filter test xs) e.0 (each_filter P test xs e.1)

either_has : {X : Type 0} (P : X → Type 0) (b : Bool) (x y : X) → P x → P y → P (if b then y else x)
either_has P true x y p q = q
either_has P false x y p q = p

earlier_has : {X : Type 0} (P : X → Type 0) (before : X → X → Bool) (x : X) (o : Option X) → P x → HasIf P o → P (earlier before x o)
earlier_has P before x None p e = p
earlier_has P before x (Some y) p e = either_has P (before y x) x y p e

foremost_has : {X : Type 0} (P : X → Type 0) (before : X → X → Bool) (xs : List X) → Each P xs → HasIf P (foremost before xs)
foremost_has P before [] e = tt
foremost_has P before (x ∷ xs) e = earlier_has P before x (foremost before xs) e.0 (foremost_has P before xs e.1)

-- an open call without a config has nothing due
unmarked : (c : Call) (s : Seen) (marks : List Mark) → has_none marks ≡ true → (fold (λ d m. due_after_mark c s m.what m.moment d) no_due marks).stopped ≡ true
unmarked c s [] e = refl
unmarked c s (m ∷ marks) e = absurd (cc)

undue : (p : CallPlan) (made : ℕ) (d : DueState) → d.stopped ≡ true → due_by p made d ≡ None
undue p made d e = ap (λ (b : Bool). if b || nat_le (most_attempts p) made then None else option_or d.forced (hedge_due p d)) e

module _ (s : Seen) (kept : IsKept s) (early : IsEarlyKept s) where
  abbrev IsOwn : Attempt → Type 0
  IsOwn a = numbered s.attempts a.place ≡ Some a

  own_at : (i : ℕ) (a : Attempt) → slice_get s.attempts i ≡ Some a → IsOwn a
  own_at i a got = own_number (λ (z : Attempt). z.place) s.attempts i a kept.attempts got

  same_one : (a b q : Attempt) → IsOwn a → numbered s.attempts a.place ≡ Some b → numbered s.attempts b.place ≡ Some q → a ≡ q
  same_one a b q own first second =
      let one : a ≡ b = one_of (numbered s.attempts a.place) a b own first in
      one_of (numbered s.attempts a.place) a q own (ap (λ (z : Attempt). numbered s.attempts z.place) one ∙ second)

  -- an end has seen what was read of its link
  end_sound : (a : Attempt) (t : Outcome) → IsOwn a → FitsEarly (action.AttemptEnds a.place (end_of a t s)) s
  end_sound a t own b q first second =
      let same : a ≡ q = same_one a b q own first second in
      ap (λ (z : Attempt). nat_le (option_map_or read_bytes (link_of a s) 0) (option_map_or read_bytes (link_of z s) 0)) (sym same)
      ∙ itself (option_map_or read_bytes (link_of a s) 0)

  cut_sound : (a : Attempt) → IsOwn a → FitsIf s (cut s a)
  cut_sound a own = sound_if s (is_outstanding a && is_over a s) (Some (action.AttemptEnds a.place (end_of a cut_end s))) None (end_sound a cut_end own) tt

  wire_sound : (a : Attempt) → IsOwn a → FitsIf s (wire_end s a)
  wire_sound a own =
      sound_if s (is_outstanding a && not (is_over a s)) (option_map (λ (t : Outcome). action.AttemptEnds a.place (end_of a t s)) (outcome_of a s)) None
      (sound_map s (λ (t : Outcome). action.AttemptEnds a.place (end_of a t s)) (λ t. end_sound a t own) (outcome_of a s)) tt

  wires_sound : FitsIf s (next_wire_end s)
  wires_sound = sound_first s (wire_end s) s.attempts (λ i a got. wire_sound a (own_at i a got))

  -- the answer of a pick request
  pick_sound : (ask : Ask) (a : Attempt) (p : Pick) → IsOwn a → is_none a.row.ended ≡ true → FitsIf s (follow_pick ask s a p)
  pick_sound ask a (pick.Place sub) own unended =
      sound_map s (λ (b : Subchannel). action.AttemptPlaced a.place (placed_on ask s b)) (λ b. ap (holds (λ (z : Attempt). is_none z.row.ended)) own ∙ unended) (numbered s.subs sub)
  pick_sound ask a pick.Fail own unended = end_sound a pick_end own
  pick_sound ask a pick.Wait own unended = tt

  pick_if : (ask : Ask) (a : Attempt) (u b : Bool) → IsOwn a → is_unfollowed a ≡ u → FitsIf s (if u && b then follow_pick ask s a ask.answer else None)
  pick_if ask a false b own e = tt
  pick_if ask a true false own e = tt
  pick_if ask a true true own e = pick_sound ask a ask.answer own (and_parts (is_none a.row.placed) (is_none a.row.ended) e).1

  pick_of_row : (ask : Ask) (o : Option Attempt) → numbered s.attempts ask.row ≡ o
      → FitsIf s (option_and_then (λ (a : Attempt). if is_unfollowed a && (ask.entry == entry s) then follow_pick ask s a ask.answer else None) o)
  pick_of_row ask None got = tt
  pick_of_row ask (Some a) got =
      let at : a.place ≡ ask.row = counted_places (λ (z : Attempt). z.place) s.attempts kept.attempts ask.row a got in
      pick_if ask a (is_unfollowed a) (ask.entry == entry s) (ap (numbered s.attempts) at ∙ got) refl

  ask_sound : (ask : Ask) → FitsIf s (follow_ask s ask)
  ask_sound ask = pick_of_row ask (numbered s.attempts ask.row) refl

  -- calls
  ended_sound : (why : EndCause) (test : Call → Bool) → FitsIf s (next_ended why test s)
  ended_sound why test = sound_map s (ending_call why) (λ c. tt) (find test s.calls)

  abbrev after_cuts : OpenEntry → List (Option Action)
  after_cuts o = next_inherited s ∷ next_ended ending.Row (is_over_by_row s) s ∷ next_final s ∷ next_ended ending.Cancelled (is_cancelled o) s
      ∷ next_ended ending.Request (has_long_request o s) s ∷ next_overflow s ∷ next_headed s ∷ next_ended ending.Response (has_long_response s) s ∷ []

  calls_sound : (o : OpenEntry) → FitsIf s (of_calls o s)
  calls_sound o =
      plain_or s (next_cut s) (next_transparent s ∷ after_cuts o) (sound_first s (cut s) s.attempts (λ i a got. cut_sound a (own_at i a got)))
      (plain_or s (next_transparent s) (after_cuts o)
      (sound_of s (λ (a : Attempt). holds is_past (call_of a s)) (transparent_retry s) (λ a e. e) (find (λ (a : Attempt). wants_follower a s) s.attempts)
      (all_found (λ (a : Attempt). holds is_past (call_of a s)) (λ (a : Attempt). wants_follower a s) s.attempts early.made))
      (plain_or s (next_inherited s) (next_ended ending.Row (is_over_by_row s) s ∷ next_final s ∷ next_ended ending.Cancelled (is_cancelled o) s
      ∷ next_ended ending.Request (has_long_request o s) s ∷ next_overflow s ∷ next_headed s ∷ next_ended ending.Response (has_long_response s) s ∷ [])
      (sound_map s (committing commit.Inherited) (λ a. tt) (find (is_inherited s) s.attempts))
      (plain_or s (next_ended ending.Row (is_over_by_row s) s) (next_final s ∷ next_ended ending.Cancelled (is_cancelled o) s
      ∷ next_ended ending.Request (has_long_request o s) s ∷ next_overflow s ∷ next_headed s ∷ next_ended ending.Response (has_long_response s) s ∷ [])
      (ended_sound ending.Row (is_over_by_row s))
      (plain_or s (next_final s) (next_ended ending.Cancelled (is_cancelled o) s
      ∷ next_ended ending.Request (has_long_request o s) s ∷ next_overflow s ∷ next_headed s ∷ next_ended ending.Response (has_long_response s) s ∷ [])
      (sound_map s (committing commit.Final) (λ a. tt) (find (is_final_end s) s.attempts))
      (plain_or s (next_ended ending.Cancelled (is_cancelled o) s) (next_ended ending.Request (has_long_request o s) s ∷ next_overflow s ∷ next_headed s
      ∷ next_ended ending.Response (has_long_response s) s ∷ []) (ended_sound ending.Cancelled (is_cancelled o))
      (plain_or s (next_ended ending.Request (has_long_request o s) s) (next_overflow s ∷ next_headed s ∷ next_ended ending.Response (has_long_response s) s ∷ [])
      (ended_sound ending.Request (has_long_request o s))
      (plain_or s (next_overflow s) (next_headed s ∷ next_ended ending.Response (has_long_response s) s ∷ [])
      (sound_map s (committing commit.Overflow) (λ a. tt) (first_of (overflow_row s) s.calls))
      (plain_or s (next_headed s) (next_ended ending.Response (has_long_response s) s ∷ [])
      (sound_map s (committing commit.Head) (λ a. tt) (find (is_headed s) s.attempts))
      (plain_or s (next_ended ending.Response (has_long_response s) s) [] (ended_sound ending.Response (has_long_response s)) tt)))))))))

  -- a stream that is reset: its attempt ended
  reset_at : (a : Attempt) → IsOwn a → is_some (reset_code_of s a) ≡ true → (b q : Attempt) → numbered s.attempts a.place ≡ Some b → numbered s.attempts b.place ≡ Some q
      → is_some q.row.ended ≡ true
  reset_at a own given b q first second =
      ap (λ (z : Attempt). is_some z.row.ended) (sym (same_one a b q own first second)) ∙ then_there (code_at_end a s) a.row.ended given

  reset_by : (a : Attempt) (o : Option ℕ) → reset_code_of s a ≡ o → IsOwn a → FitsIf s (option_map (λ (number : ℕ). action.StreamReset a.place number) o)
  reset_by a None got own = tt
  reset_by a (Some number) got own = reset_at a own (ap is_some got)

  reset_if : (o : Option Attempt) → HasIf IsOwn o → FitsIf s (option_and_then (reset_of s) o)
  reset_if None own = tt
  reset_if (Some a) own = reset_by a (reset_code_of s a) refl own

  resets_sound : FitsIf s (next_reset s)
  resets_sound =
      let test : Attempt → Bool = λ (a : Attempt). is_some (reset_code_of s a) in
      reset_if (foremost is_stream_before (filter test s.attempts))
      (foremost_has IsOwn is_stream_before (filter test s.attempts)
      (each_filter IsOwn test s.attempts (each_from IsOwn s.attempts own_at)))

  link_sound : (b : Subchannel) → FitsIf s (link_action s b)
  link_sound b =
      sound_if s (is_to_be_ready s b) (Some (action.SettingsArrive b.number)) (if is_to_go_down s b then Some (action.LinkDown b.number) else None) tt
      (sound_if s (is_to_go_down s b) (Some (action.LinkDown b.number)) None tt tt)

  loss_sound : (b : Bool) → FitsIf s (if b then None else next_wire_end s)
  loss_sound true = tt
  loss_sound false = wires_sound

  links_sound : (o : OpenEntry) → FitsIf s (of_links o s)
  links_sound o =
      plain_or s (next_of_pick s) (next_of_links s ∷ (if is_loss o.event then None else next_wire_end s) ∷ next_reset s ∷ next_wire_end s ∷ [])
      (sound_then s (follow_ask s) ask_sound (last_of s.asks))
      (plain_or s (next_of_links s) ((if is_loss o.event then None else next_wire_end s) ∷ next_reset s ∷ next_wire_end s ∷ [])
      (sound_first s (link_action s) s.subs (λ i b got. link_sound b))
      (plain_or s (if is_loss o.event then None else next_wire_end s) (next_reset s ∷ next_wire_end s ∷ []) (loss_sound (is_loss o.event))
      (plain_or s (next_reset s) (next_wire_end s ∷ []) resets_sound (plain_or s (next_wire_end s) [] wires_sound tt))))

  begun_sound : (k : Kind) → FitsIf s (begin_if s k)
  begun_sound k = sound_if s (list_any (λ (g : PolicyUse). is_same_kind g.generation.kind k) (live_policies s)) None (Some (action.PolicyBegins k)) tt tt

  policies_sound : (o : OpenEntry) → FitsIf s (of_policies o s)
  policies_sound o =
      plain_or s (next_ended ending.Shut (is_shut_down s) s) (next_retired o s ∷ next_begun o s ∷ next_given o s ∷ next_shut s ∷ next_added s ∷ []) (ended_sound ending.Shut (is_shut_down s))
      (plain_or s (next_retired o s) (next_begun o s ∷ next_given o s ∷ next_shut s ∷ next_added s ∷ [])
      (sound_map s (λ (g : PolicyUse). action.PolicyRetired g.number) (λ g. tt) (find (is_to_retire o s) s.policies))
      (plain_or s (next_begun o s) (next_given o s ∷ next_shut s ∷ next_added s ∷ []) (sound_then s (begin_if s) begun_sound (wanted_kind o s))
      (plain_or s (next_given o s) (next_shut s ∷ next_added s ∷ [])
      (sound_map s (λ (g : PolicyUse). action.AddressesGiven g.number) (λ g. tt) (find (wants_addresses o s) s.policies))
      (plain_or s (next_shut s) (next_added s ∷ []) (sound_map s (λ (b : Subchannel). action.SubchannelShut b.number) (λ b. tt) (find (is_unlisted s) s.subs))
      (plain_or s (next_added s) []
      (sound_map s (λ (address : Address). action.SubchannelAdded address) (λ address. tt) (find (λ (address : Address). is_none (live_sub s address)) (listed s))) tt)))))

  -- what is due
  rest_if : (i : ℕ) (b : Subchannel) (r : Bool) → slice_get s.subs i ≡ Some b → is_rested s b ≡ r → FitsIf s (if r then Some (action.BackoffEnds b.number) else None)
  rest_if i b true got e =
      ap (holds (λ (q : Subchannel). is_failure q.state)) (own_number (λ (q : Subchannel). q.number) s.subs i b kept.subs got)
      ∙ (and_parts (is_failure b.state) (holds (λ (t : ℕ). nat_le t (now s)) b.again) e).0
  rest_if i b false got e = tt

  clock_sound : (i : ℕ) (b : Subchannel) → slice_get s.subs i ≡ Some b → FitsIf s (clock_action s b)
  clock_sound i b got =
      sound_if s (is_too_late s b) (Some (action.ConnectTimesOut b.number)) (if is_rested s b then Some (action.BackoffEnds b.number) else None) tt
      (rest_if i b (is_rested s b) got refl)

  config_sound : (c : Call) → FitsIf s (config_action s c)
  config_sound c =
      sound_if s (is_to_configure s c) (Some (action.CallConfigured c.number (length s.configs))) (if lacks_config s c then Some (action.CallEnds c.number ending.NoConfig) else None) tt
      (sound_if s (lacks_config s c) (Some (action.CallEnds c.number ending.NoConfig)) None tt tt)

  made_by : (c : Call) (d : ℕ) (b : Bool) → holds is_past (numbered s.calls c.number) ≡ true
      → FitsEarly (if b then action.HedgeWithheld c.number else action.AttemptMade c.number (attempts_made c s + 1) (kind_of_next c s) d) s
  made_by c d true past = past
  made_by c d false past = past

  due_sound : (c : Call) → holds is_past (numbered s.calls c.number) ≡ true → FitsIf s (due_action s c)
  due_sound c past =
      sound_if s (is_open_call c) (option_and_then (due_if_past c s) (next_due c s)) None
      (sound_then s (due_if_past c s)
      (λ d. sound_if s (nat_le d (now s)) (Some (due_attempt c s d)) None (made_by c d (is_hedge (kind_of_next c s) && not (has_tokens c s)) past) tt) (next_due c s)) tt

  -- an early call has none
  due_if : (i : ℕ) (c : Call) (past : Bool) → slice_get s.calls i ≡ Some c → is_past c ≡ past → FitsIf s (due_action s c)
  due_if i c true got e = due_sound c (ap (holds is_past) (own_number (λ (d : Call). d.number) s.calls i c kept.calls got) ∙ e)
  due_if i c false got e =
      let sound : (is_past c || is_early c) ≡ true = all_at (λ (d : Call). is_past d || is_early d) s.calls (suc i) c early.awaiting_config got in
      let first : is_early c ≡ true = sym (ap (λ (b : Bool). b || is_early c) e) ∙ sound in
      let none : next_due c s ≡ None
      = undue (plan_of c s) (attempts_made c s) (due_state c s) (unmarked c s c.marks (and_parts (is_none c.configured) (has_none c.marks) first).1) in
      subst (λ (o : Option ℕ). FitsIf s (if is_open_call c then option_and_then (due_if_past c s) o else None)) (sym none)
      (sound_if s (is_open_call c) None None tt tt)

  asked_sound : (test : Attempt → Bool) → FitsIf s (next_asked test s)
  asked_sound test =
      sound_then s (asking s) (λ a. sound_map s (λ (g : PolicyUse). action.PickRequested a.place g.number (pick_of (policy_of g s))) (λ g. tt) (current_policy s))
      (foremost is_queued_before (filter (λ (a : Attempt). is_served s a && test a) s.attempts))

  settling_sound : (o : OpenEntry) → FitsIf s (of_settling o s)
  settling_sound o =
      plain_or s (next_of_clock s) (next_take_over s ∷ next_connected s ∷ first_of (config_action s) s.calls ∷ next_of_pass o s ∷ next_due_attempt s ∷ next_of_queue s ∷ Some action.EntryCloses ∷ [])
      (sound_first s (clock_action s) s.subs clock_sound)
      (plain_or s (next_take_over s) (next_connected s ∷ first_of (config_action s) s.calls ∷ next_of_pass o s ∷ next_due_attempt s ∷ next_of_queue s ∷ Some action.EntryCloses ∷ [])
      (sound_then s (λ (g : PolicyUse). if may_take_over s g then Some (action.PolicyTakesOver g.number) else None)
      (λ g. sound_if s (may_take_over s g) (Some (action.PolicyTakesOver g.number)) None tt tt) (pending_policy s))
      (plain_or s (next_connected s) (first_of (config_action s) s.calls ∷ next_of_pass o s ∷ next_due_attempt s ∷ next_of_queue s ∷ Some action.EntryCloses ∷ [])
      (sound_map s (λ (b : Subchannel). action.SubchannelConnects b.number) (λ b. tt) (find (λ (b : Subchannel). is_idle b.state && is_wished s b) s.subs))
      (plain_or s (first_of (config_action s) s.calls) (next_of_pass o s ∷ next_due_attempt s ∷ next_of_queue s ∷ Some action.EntryCloses ∷ [])
      (sound_first s (config_action s) s.calls (λ i c got. config_sound c))
      (plain_or s (next_of_pass o s) (next_due_attempt s ∷ next_of_queue s ∷ Some action.EntryCloses ∷ [])
      (sound_then s (λ (t : Turn). next_asked (is_after t) s) (λ t. asked_sound (is_after t)) o.turn)
      (plain_or s (next_due_attempt s) (next_of_queue s ∷ Some action.EntryCloses ∷ [])
      (sound_first s (due_action s) s.calls (λ i c got. due_if i c (is_past c) got refl))
      (plain_or s (next_of_queue s) (Some action.EntryCloses ∷ []) (asked_sound (λ (a : Attempt). true)) tt))))))

  -- the event
  send_sound : (call : ℕ) (long accepted : Bool) (held : ℕ)
      → FitsEarly (if long then action.EventAnswered reply.Done else if accepted then action.MessageAccepted call else action.EventAnswered (reply.Full held)) s
  send_sound call true accepted held = tt
  send_sound call false true held = tt
  send_sound call false false held = tt

  take_sound : (call : ℕ) (o : Option Reply) → FitsEarly (take_action call o) s
  take_sound call None = tt
  take_sound call (Some item) = tt

  dial_sound : (o : Option Subchannel) → FitsEarly (option_map_or (dial_action s) o (action.EventAnswered reply.NotYet)) s
  dial_sound None = tt
  dial_sound (Some b) = tt

  event_sound : (e : Event) → refusal_of e s ≡ None → FitsIf s (event_applied e s)
  event_sound (event.Send call message) open_ =
      sound_map s (send_action call message s) (λ c. send_sound call (is_too_long message c s) (is_accepted c message s) (held_bytes c s)) (numbered s.calls call)
  event_sound (event.Take call) open_ = sound_map s (λ (c : Call). take_action call (next_item c s)) (λ c. take_sound call (next_item c s)) (numbered s.calls call)
  event_sound event.TakeDial open_ = dial_sound (find is_dialable s.subs)
  event_sound (event.LinkUp sub) open_ = dialling s.shut (numbered s.subs sub) open_
  event_sound _ open_ = tt

  event_by : (o : Option Refusal) (e : Event) → refusal_of e s ≡ o → FitsIf s (event_action_by o e s)
  event_by None e got = event_sound e got
  event_by (Some why) e got = tt

  -- frames
  read_sound : (link : ℕ) (n : NextRead) → FitsIf s (read_action link n)
  read_sound link nextread.Nothing = tt
  read_sound link (nextread.Frame r) = tt
  read_sound link (nextread.Broken number) = tt

  frame_sound : (o : OpenEntry) (e : Event) → FitsIf s (frame_of_event e o s)
  frame_sound o (event.Arrived link piece) =
      sound_then s (read_next link s) (λ l. sound_if s (is_none l.over) (read_action link (next_read l s)) None (read_sound link (next_read l s)) tt) (numbered s.links link)
  frame_sound o (event.Drain link most) =
      sound_then s (λ (l : Link). option_and_then (frame_to_write link most o s) (sendable l s))
      (λ l. sound_then s (frame_to_write link most o s) (λ x. sound_if s (fits_drain most o x) (Some (action.FrameWritten link x)) None tt tt) (sendable l s)) (numbered s.links link)
  frame_sound o _ = tt

  stage_sound : (o : OpenEntry) (g : Stage) → FitsIf s (of_stage o s g)
  stage_sound o stage.Event =
      plain_or s (next_deadline s) (event_action o.event s ∷ [])
      (sound_map s (ending_call ending.Deadline) (λ c. tt) (foremost (is_due_before s) (filter (is_past_deadline s) s.calls)))
      (plain_or s (event_action o.event s) [] (event_by (refusal_of o.event s) o.event refl) tt)
  stage_sound o stage.Replied =
      plain_or s (frame_action o s) (Some action.SettlingBegins ∷ []) (sound_if s (is_after_event o) (frame_of_event o.event o s) None (frame_sound o o.event) tt) tt
  stage_sound o stage.Settling = settling_sound o

  in_sound : (o : OpenEntry) → FitsIf s (following_in s o)
  in_sound o =
      plain_or s (of_calls o s) (of_links o s ∷ of_policies o s ∷ of_stage o s o.stage ∷ []) (calls_sound o)
      (plain_or s (of_links o s) (of_policies o s ∷ of_stage o s o.stage ∷ []) (links_sound o)
      (plain_or s (of_policies o s) (of_stage o s o.stage ∷ []) (policies_sound o) (plain_or s (of_stage o s o.stage) [] (stage_sound o o.stage) tt)))

  pub following_sound : FitsIf s (following s)
  following_sound = sound_then s (following_in s) in_sound s.current

lines_sound : (s : Seen) (a : Action) → IsKept s → IsEarlyKept s → following s ≡ Some a → FitsEarly a s
lines_sound s a kept early e = subst (FitsIf s) e (following_sound s kept early)

pub next_fits : (s : Seen) (a : Action) → IsKept s → IsEarlyKept s → IsNext a s → FitsEarly a s
next_fits s (action.AttemptMade call number k due) kept early next = lines_sound s (action.AttemptMade call number k due) kept early next
next_fits s (action.HedgeWithheld call) kept early next = lines_sound s (action.HedgeWithheld call) kept early next
next_fits s (action.StreamReset row number) kept early next = lines_sound s (action.StreamReset row number) kept early next
next_fits s (action.AttemptPlaced row at) kept early next = lines_sound s (action.AttemptPlaced row at) kept early next
next_fits s (action.AttemptEnds row end) kept early next = lines_sound s (action.AttemptEnds row end) kept early next
next_fits s (action.BackoffEnds sub) kept early next = lines_sound s (action.BackoffEnds sub) kept early next
next_fits s (action.LinkUp sub) kept early next = lines_sound s (action.LinkUp sub) kept early next
next_fits s _ kept early next = tt
