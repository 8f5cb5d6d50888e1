-- What the lines of a session ask for: an attempt is made for one that is to be followed, or of a call whose next attempt is due; a call that gets a config has
-- none.
use Rattle.attempt_ledger.specs.Hedging.{is_hedge}
use Rattle.attempt_ledger.specs.declared.ledger.Ask.{Ask}
use Rattle.grpc_base.specs.declared.address.Address.{Address}
use Rattle.grpc_base.specs.declared.event.EndCause.TheVariants as ending
use Rattle.grpc_base.specs.declared.event.EndCause.{EndCause}
use Rattle.grpc_base.specs.declared.event.Event.TheVariants as event
use Rattle.grpc_base.specs.declared.event.Event.{Event}
use Rattle.grpc_base.specs.declared.event.Refusal.{Refusal}
use Rattle.grpc_base.specs.declared.event.Refusal.TheVariants as refusal
use Rattle.grpc_base.specs.declared.event.Reply.TheVariants as reply
use Rattle.grpc_base.specs.declared.event.Reply.{Reply}
use Rattle.grpc_base.specs.declared.kind.Kind.{Kind}
use Rattle.grpc_base.specs.declared.kind.Pick.TheVariants as pick
use Rattle.grpc_base.specs.declared.kind.Pick.{Pick}
use Rattle.lb_policy.specs.Table.{pick_of}
use Rattle.attempt_ledger.specs.declared.row.RowKind.{RowKind}
use Rattle.attempt_ledger.specs.declared.row.RowKind.TheVariants as kind
use Rattle.session_actions.specs.Actions.{config_action, first_action, following, following_in, of_calls, of_links, of_policies, of_settling, of_stage}
use Rattle.session_actions.specs.AttemptEnds.{cut, cut_end, end_of, next_cut, next_reset, next_wire_end, outcome_of, reset_code_of, reset_of, wire_end}
use Rattle.session_actions.specs.Attempts.{is_outstanding, is_over, wants_follower, call_of, commitment, is_counted, is_of, of_its_call}
use Rattle.session_actions.specs.CallEnds.{ending_call, has_long_request, has_long_response, is_after_event, is_cancelled, is_due_before, is_over_by_row, is_past_deadline, is_shut_down, lacks_config, next_deadline, next_ended}
use Rattle.session_actions.specs.Calls.{is_open_call}
use Rattle.session_actions.specs.Commitments.{committing, is_final_end, is_headed, is_inherited, next_final, next_headed, next_inherited, next_overflow, overflow_row, furthest, has_head_in, is_final_in, is_free_call, is_further, is_inherited_by, is_inherited_in}
use Rattle.session_actions.specs.Configs.{held_config, is_to_configure, is_too_long}
use Rattle.session_actions.specs.Deliveries.{held_bytes, is_accepted, next_item, send_action, take_action}
use Rattle.session_actions.specs.DueAttempts.{attempts_made, kind_of_next, next_due, is_final}
use Rattle.session_actions.specs.Entries.{entry, now}
use Rattle.session_actions.specs.Events.{event_action, event_action_by, event_applied, frame_action, frame_of_event, is_loss}
use Rattle.session_actions.specs.Links.{is_stream_before}
use Rattle.session_actions.specs.Making.{due_action, due_attempt, due_if_past, next_due_attempt, next_transparent, transparent_retry}
use Rattle.session_actions.specs.Policies.{asking, begin_if, current_policy, follow_ask, follow_pick, is_after, is_queued_before, is_same_kind, is_served, is_to_retire, is_unfollowed, listed, live_policies, live_sub, may_take_over, next_asked, next_begun, next_given, next_of_pass, next_of_pick, next_of_queue, next_retired, next_take_over, pending_policy, placed_on, policy_of, wanted_kind, wants_addresses}
use Rattle.session_actions.specs.Reading.{next_read}
use Rattle.session_actions.specs.Refusals.{refusal_of, refused_if, take_refusal}
use Rattle.session_actions.specs.Sessions.{IsNext}
use Rattle.session_actions.specs.Subchannels.{clock_action, dial_action, is_dialable, is_idle, is_rested, is_to_be_ready, is_to_go_down, is_too_late, is_unlisted, is_wished, link_action, next_added, next_connected, next_of_clock, next_of_links, next_shut}
use Rattle.session_actions.specs.Tokens.{has_tokens}
use Rattle.session_order.proofs.SessionLaws.Found.{AtFiltered, AtFirst, AtSome, filter_at, find_at, first_at, foremost_at, found_passes, none_of, same_of}
use Rattle.session_order.specs.Order.{IsInPlace}
use Rattle.session_actions.specs.Responses.{response}
use Rattle.session_actions.specs.Words.{first_of, foremost, last_of, numbered, holds}
use Rattle.session_actions.specs.Writing.{fits_drain, frame_to_write, read_action, read_next, sendable, accepted_bytes}
use Rattle.session_actions.specs.declared.action.Action.TheVariants as action
use Rattle.session_actions.specs.declared.action.Action.{Action}
use Rattle.session_actions.specs.declared.action.CommitCause.TheVariants as commit
use Rattle.session_actions.specs.declared.attempt.Attempt.{Attempt}
use Rattle.session_actions.specs.declared.call.Call.{Call}
use Rattle.session_actions.specs.declared.entry.OpenEntry.{OpenEntry}
use Rattle.session_actions.specs.declared.entry.Stage.TheVariants as stage
use Rattle.session_actions.specs.declared.entry.Stage.{Stage}
use Rattle.session_actions.specs.declared.entry.Turn.{Turn}
use Rattle.session_actions.specs.declared.link.Link.{Link}
use Rattle.session_actions.specs.declared.link.NextRead.TheVariants as nextread
use Rattle.session_actions.specs.declared.link.NextRead.{NextRead}
use Rattle.session_actions.specs.declared.policy.PolicyUse.{PolicyUse}
use Rattle.session_actions.specs.declared.response.Outcome.{Outcome}
use Rattle.session_actions.specs.declared.seen.Seen.{Seen}
use Rattle.session_actions.specs.declared.subchannel.Subchannel.{Subchannel}
use Rattle.std.proofs.Common.{◌⊎◌, inl, inr, Bool, List, None, Option, Some, [], false, filter, find, if◌then◌else◌, is_none, is_some, length, nat_le, not, option_and_then, option_map, refl, slice_get, subst, suc, true, ℕ, ◌&&◌, ◌+◌, ◌==◌, ◌∷◌, ◌≡◌, nat_lt, ap, sym, ◌∙◌}
use Rattle.std.proofs.lemmas.Bool.{and_parts, eqb-true}
use Rattle.std.specs.List.{list_any}
use Rattle.std.specs.Option.{option_map_or, option_or}

-- an attempt that is to be followed transparently; a call whose next attempt is due; a call that is to get the config that is held
pub record IsRetried (its_call its_number : ℕ) (sort : RowKind) (s : Seen) : Type 0 where
  pub index : ℕ
  pub here : Attempt
  pub there : slice_get s.attempts index ≡ Some here
  pub call : here.row.call ≡ its_call
  pub number : here.row.number ≡ its_number
  pub kind : sort ≡ kind.Transparent

pub record IsDueBy (its_call its_number : ℕ) (sort : RowKind) (moment : ℕ) (s : Seen) : Type 0 where
  pub index : ℕ
  pub here : Call
  pub there : slice_get s.calls index ≡ Some here
  pub is : here.number ≡ its_call
  pub number : its_number ≡ attempts_made here s + 1
  pub kind : sort ≡ kind_of_next here s
  pub due : next_due here s ≡ Some moment
  pub goes : is_open_call here ≡ true

pub record IsConfigurable (call config : ℕ) (s : Seen) : Type 0 where
  pub index : ℕ
  pub here : Call
  pub there : slice_get s.calls index ≡ Some here
  pub is : here.number ≡ call
  pub none : here.config ≡ None
  pub held : is_some (held_config s) ≡ true
  pub last : config ≡ length s.configs

-- an item that is next for an application
pub record IsTakeable (its_call : ℕ) (item : Reply) (s : Seen) : Type 0 where
  pub here : Call
  pub there : numbered s.calls its_call ≡ Some here
  pub next : next_item here s ≡ Some item
  pub more : here.end_taken ≡ false

-- a pick request, of the current policy
pub record IsAsked (generation : ℕ) (answer : Pick) (s : Seen) : Type 0 where
  pub here : PolicyUse
  pub current : current_policy s ≡ Some here
  pub is : here.number ≡ generation
  pub gives : answer ≡ pick_of (policy_of here s)

-- an attempt to which its call may be committed: the call is not committed yet, or to an attempt of its number
pub record IsChained (row : ℕ) (s : Seen) : Type 0 where
  pub here : Attempt
  pub there : numbered s.attempts row ≡ Some here
  pub joins : (c : Call) → numbered s.calls here.row.call ≡ Some c → (k : Attempt) → commitment c s ≡ Some k → k.row.number ≡ here.row.number

abbrev pub Asks : Action → Seen → Type 0
Asks action.CallBegins s = s.shut ≡ false
Asks (action.ItemTaken call item) s = IsTakeable call item s
Asks (action.CallCommitted row why) s = IsInPlace s → IsChained row s
Asks (action.PickRequested row generation answer) s = IsAsked generation answer s
Asks (action.AttemptMade call number k due) s = IsRetried call number k s ⊎ IsDueBy call number k due s
Asks (action.CallConfigured call config) s = IsConfigurable call config s
Asks _ s = Unit {0}

-- what a line gives, if it gives anything
abbrev AsksIf : Seen → Option Action → Type 0
AsksIf s None = Unit {0}
AsksIf s (Some a) = Asks a s

asked_or : (s : Seen) (o p : Option Action) → AsksIf s o → AsksIf s p → AsksIf s (option_or o p)
asked_or s None p f g = g
asked_or s (Some a) p f g = f

asked_map : {X : Type 0} (s : Seen) (f : X → Action) → ((x : X) → Asks (f x) s) → (o : Option X) → AsksIf s (option_map f o)
asked_map s f each None = tt
asked_map s f each (Some x) = each x

asked_then : {X : Type 0} (s : Seen) (f : X → Option Action) → ((x : X) → AsksIf s (f x)) → (o : Option X) → AsksIf s (option_and_then f o)
asked_then s f each None = tt
asked_then s f each (Some x) = each x

asked_first : {X : Type 0} (s : Seen) (f : X → Option Action) (xs : List X) → ((i : ℕ) (x : X) → slice_get xs i ≡ Some x → AsksIf s (f x)) → AsksIf s (first_of f xs)
asked_first s f [] each = tt
asked_first s f (x ∷ xs) each = asked_or s (f x) (first_of f xs) (each 0 x refl) (asked_first s f xs (λ i y got. each (suc i) y got))

asked_if : (s : Seen) (b : Bool) (o p : Option Action) → AsksIf s o → AsksIf s p → AsksIf s (if b then o else p)
asked_if s true o p f g = f
asked_if s false o p f g = g

module _ (s : Seen) where
  cut_if : (a : Attempt) (b : Bool) → AsksIf s (if b then Some (action.AttemptEnds a.place (end_of a cut_end s)) else None)
  cut_if a true = tt
  cut_if a false = tt

  asked_cut : (i : ℕ) (a : Attempt) → slice_get s.attempts i ≡ Some a → AsksIf s (cut s a)
  asked_cut i a got = cut_if a (is_outstanding a && is_over a s)

  wire_if : (a : Attempt) (b : Bool) → AsksIf s (if b then option_map (λ (t : Outcome). action.AttemptEnds a.place (end_of a t s)) (outcome_of a s) else None)
  wire_if a false = tt
  wire_if a true = asked_map s (λ (t : Outcome). action.AttemptEnds a.place (end_of a t s)) (λ t. tt) (outcome_of a s)

  asked_wire : (i : ℕ) (a : Attempt) → slice_get s.attempts i ≡ Some a → AsksIf s (wire_end s a)
  asked_wire i a got = wire_if a (is_outstanding a && not (is_over a s))

  -- a pick
  asked_pick : (a : Attempt) (ask : Ask) (p : Pick) → AsksIf s (follow_pick ask s a p)
  asked_pick a ask (pick.Place sub) = asked_map s (λ (b : Subchannel). action.AttemptPlaced a.place (placed_on ask s b)) (λ b. tt) (numbered s.subs sub)
  asked_pick a ask pick.Fail = tt
  asked_pick a ask pick.Wait = tt

  asked_ask : (ask : Ask) → AsksIf s (follow_ask s ask)
  asked_ask ask =
      asked_then s (λ (a : Attempt). if is_unfollowed a && (ask.entry == entry s) then follow_pick ask s a ask.answer else None)
      (λ a. asked_if s (is_unfollowed a && (ask.entry == entry s)) (follow_pick ask s a ask.answer) None (asked_pick a ask ask.answer) tt)
      (numbered s.attempts ask.row)

  -- a transparent retry
  asked_transparent : (o : Option Attempt) → find (λ (a : Attempt). wants_follower a s) s.attempts ≡ o → AsksIf s (option_map (transparent_retry s) o)
  asked_transparent None e = tt
  asked_transparent (Some a) e =
      let found : AtSome s.attempts a = find_at (λ (x : Attempt). wants_follower x s) s.attempts a e in
      inl (record { index = found.index; here = a; there = found.here; call = refl; number = refl; kind = refl })

  -- a config
  config_asked : (i : ℕ) (c : Call) → slice_get s.calls i ≡ Some c → is_to_configure s c ≡ true → Asks (action.CallConfigured c.number (length s.configs)) s
  config_asked i c got e =
      let one : ((is_none c.end && is_none c.config) ≡ true) × (is_some (held_config s) ≡ true) = and_parts (is_none c.end && is_none c.config) (is_some (held_config s)) e in
      let two : (is_none c.end ≡ true) × (is_none c.config ≡ true) = and_parts (is_none c.end) (is_none c.config) one.0 in
      record { index = i; here = c; there = got; is = refl; none = none_of c.config two.1; held = one.1; last = refl }

  config_if : (i : ℕ) (c : Call) (b l : Bool) → slice_get s.calls i ≡ Some c → is_to_configure s c ≡ b
      → AsksIf s (if b then Some (action.CallConfigured c.number (length s.configs)) else if l then Some (action.CallEnds c.number ending.NoConfig) else None)
  config_if i c true l got e = config_asked i c got e
  config_if i c false true got e = tt
  config_if i c false false got e = tt

  asked_config : (i : ℕ) (c : Call) → slice_get s.calls i ≡ Some c → AsksIf s (config_action s c)
  asked_config i c got = config_if i c (is_to_configure s c) (lacks_config s c) got refl

  -- an attempt that is due
  due_made : (i : ℕ) (c : Call) (d : ℕ) → slice_get s.calls i ≡ Some c → next_due c s ≡ Some d → is_open_call c ≡ true
      → Asks (action.AttemptMade c.number (attempts_made c s + 1) (kind_of_next c s) d) s
  due_made i c d got due goes = inr (record { index = i; here = c; there = got; is = refl; number = refl; kind = refl; due = due; goes = goes })

  due_asked : (i : ℕ) (c : Call) (d : ℕ) (b : Bool) → slice_get s.calls i ≡ Some c → next_due c s ≡ Some d → is_open_call c ≡ true
      → Asks (if b then action.HedgeWithheld c.number else action.AttemptMade c.number (attempts_made c s + 1) (kind_of_next c s) d) s
  due_asked i c d true got due goes = tt
  due_asked i c d false got due goes = due_made i c d got due goes

  due_by_now : (i : ℕ) (c : Call) (o : Option ℕ) → slice_get s.calls i ≡ Some c → next_due c s ≡ o → is_open_call c ≡ true
      → AsksIf s (option_and_then (due_if_past c s) o)
  due_by_now i c None got due goes = tt
  due_by_now i c (Some d) got due goes =
      asked_if s (nat_le d (now s)) (Some (due_attempt c s d)) None (due_asked i c d (is_hedge (kind_of_next c s) && not (has_tokens c s)) got due goes) tt

  due_if : (i : ℕ) (c : Call) (b : Bool) → slice_get s.calls i ≡ Some c → is_open_call c ≡ b
      → AsksIf s (if b then option_and_then (due_if_past c s) (next_due c s) else None)
  due_if i c false got goes = tt
  due_if i c true got goes = due_by_now i c (next_due c s) got refl goes

  asked_due : (i : ℕ) (c : Call) → slice_get s.calls i ≡ Some c → AsksIf s (due_action s c)
  asked_due i c got = due_if i c (is_open_call c) got refl

  asked_current : (a : Attempt) (o : Option PolicyUse) → current_policy s ≡ o
      → AsksIf s (option_map (λ (g : PolicyUse). action.PickRequested a.place g.number (pick_of (policy_of g s))) o)
  asked_current a None e = tt
  asked_current a (Some g) e = record { here = g; current = e; is = refl; gives = refl }

  asked_asked : (test : Attempt → Bool) → AsksIf s (next_asked test s)
  asked_asked test =
      asked_then s (asking s)
      (λ a. asked_current a (current_policy s) refl)
      (foremost is_queued_before (filter (λ (a : Attempt). is_served s a && test a) s.attempts))

  -- the event
  send_asked : (call : ℕ) (c : Call) (long accepted : Bool) (held : ℕ)
      → Asks (if long then action.EventAnswered reply.Done else if accepted then action.MessageAccepted call else action.EventAnswered (reply.Full held)) s
  send_asked call c true accepted held = tt
  send_asked call c false true held = tt
  send_asked call c false false held = tt

  take_asked : (call : ℕ) (c : Call) (o : Option Reply) → numbered s.calls call ≡ Some c → next_item c s ≡ o → c.end_taken ≡ false → Asks (take_action call o) s
  take_asked call c None here next more = tt
  take_asked call c (Some item) here next more = record { here = c; there = here; next = next; more = more }

  untaken : (b : Bool) (why : Refusal) → refused_if b why None ≡ None → b ≡ false
  untaken true why e = absurd (cc)
  untaken false why e = refl

  taken_by : (call : ℕ) (o : Option Call) → numbered s.calls call ≡ o → take_refusal o ≡ None
      → AsksIf s (option_map (λ (c : Call). take_action call (next_item c s)) o)
  taken_by call None here e = tt
  taken_by call (Some c) here e = take_asked call c (next_item c s) here refl (untaken c.end_taken refusal.CallEnded e)

  dial_asked : (o : Option Subchannel) → Asks (option_map_or (dial_action s) o (action.EventAnswered reply.NotYet)) s
  dial_asked None = tt
  dial_asked (Some b) = tt

  asked_event : (e : Event) → refusal_of e s ≡ None → AsksIf s (event_applied e s)
  asked_event (event.Begin request) goes = untaken s.shut refusal.Shut goes
  asked_event (event.Send call message) goes =
      asked_map s (send_action call message s) (λ c. send_asked call c (is_too_long message c s) (is_accepted c message s) (held_bytes c s)) (numbered s.calls call)
  asked_event (event.Take call) goes = taken_by call (numbered s.calls call) refl goes
  asked_event event.TakeDial goes = dial_asked (find is_dialable s.subs)
  asked_event _ goes = tt

  asked_event_by : (o : Option Refusal) (e : Event) → refusal_of e s ≡ o → AsksIf s (event_action_by o e s)
  asked_event_by None e goes = asked_event e goes
  asked_event_by (Some why) e goes = tt

  -- frames
  asked_read : (link : ℕ) (n : NextRead) → AsksIf s (read_action link n)
  asked_read link nextread.Nothing = tt
  asked_read link (nextread.Frame r) = tt
  asked_read link (nextread.Broken number) = tt

  asked_frame : (o : OpenEntry) (e : Event) → AsksIf s (frame_of_event e o s)
  asked_frame o (event.Arrived link piece) =
      asked_then s (read_next link s) (λ l. asked_if s (is_none l.over) (read_action link (next_read l s)) None (asked_read link (next_read l s)) tt) (numbered s.links link)
  asked_frame o (event.Drain link most) =
      asked_then s (λ (l : Link). option_and_then (frame_to_write link most o s) (sendable l s))
      (λ l. asked_then s (frame_to_write link most o s) (λ x. asked_if s (fits_drain most o x) (Some (action.FrameWritten link x)) None tt tt) (sendable l s)) (numbered s.links link)
  asked_frame o _ = tt

  asked_clock : (b : Subchannel) → AsksIf s (clock_action s b)
  asked_clock b =
      asked_if s (is_too_late s b) (Some (action.ConnectTimesOut b.number)) (if is_rested s b then Some (action.BackoffEnds b.number) else None) tt
      (asked_if s (is_rested s b) (Some (action.BackoffEnds b.number)) None tt tt)

  asked_link : (b : Subchannel) → AsksIf s (link_action s b)
  asked_link b =
      asked_if s (is_to_be_ready s b) (Some (action.SettingsArrive b.number)) (if is_to_go_down s b then Some (action.LinkDown b.number) else None) tt
      (asked_if s (is_to_go_down s b) (Some (action.LinkDown b.number)) None tt tt)

  -- a commitment
  at_place : (a : Attempt) → AtSome s.attempts a → IsInPlace s → numbered s.attempts a.place ≡ Some a
  at_place a f place = ap (numbered s.attempts) (place.attempts (suc f.index) a f.here) ∙ f.here

  some_free : (c : Call) (k : Attempt) (n : ℕ) → is_free_call s c ≡ true → commitment c s ≡ Some k → k.row.number ≡ n
  some_free c k n free is =
      let none : is_none (commitment c s) ≡ true = (and_parts (is_none c.end) (is_none (commitment c s)) free).1 in
      let some : is_none (commitment c s) ≡ false = ap is_none is in absurd (cc)

  joined : (a : Attempt) (test : Call → Bool) → AtSome s.attempts a → holds test (call_of a s) ≡ true
      → ((c : Call) (k : Attempt) → test c ≡ true → commitment c s ≡ Some k → k.row.number ≡ a.row.number) → IsInPlace s → IsChained a.place s
  joined a test f held each place =
      record { here = a; there = at_place a f place; joins = λ c is k commits. each c k (sym (ap (holds test) is) ∙ held) commits }

  inherits : (a : Attempt) (c : Call) (k : Attempt) → is_inherited_in a s c ≡ true → commitment c s ≡ Some k → k.row.number ≡ a.row.number
  inherits a c k t is =
      let one : holds (is_inherited_by a) (commitment c s) ≡ true = (and_parts (is_none c.end) (holds (is_inherited_by a) (commitment c s)) t).1 in
      let two : is_inherited_by a k ≡ true = sym (ap (holds (is_inherited_by a)) is) ∙ one in
      eqb-true k.row.number a.row.number (and_parts (k.row.number == a.row.number) (nat_lt k.place a.place) two).0

  asked_inherited : (o : Option Attempt) → find (is_inherited s) s.attempts ≡ o → AsksIf s (option_map (committing commit.Inherited) o)
  asked_inherited None e = tt
  asked_inherited (Some a) e =
      joined a (is_inherited_in a s) (find_at (is_inherited s) s.attempts a e)
      (and_parts (is_none a.row.committed) (of_its_call (is_inherited_in a s) a s) (found_passes (is_inherited s) s.attempts a e)).1 (inherits a)

  asked_final : (o : Option Attempt) → find (is_final_end s) s.attempts ≡ o → AsksIf s (option_map (committing commit.Final) o)
  asked_final None e = tt
  asked_final (Some a) e =
      joined a (is_final_in a s) (find_at (is_final_end s) s.attempts a e) (found_passes (is_final_end s) s.attempts a e)
      (λ c k t is. some_free c k a.row.number
      (and_parts (is_free_call s c) (is_counted a s) (and_parts (is_free_call s c && is_counted a s) (is_final c a s) t).0).0 is)

  asked_headed : (o : Option Attempt) → find (is_headed s) s.attempts ≡ o → AsksIf s (option_map (committing commit.Head) o)
  asked_headed None e = tt
  asked_headed (Some a) e =
      joined a (has_head_in a s) (find_at (is_headed s) s.attempts a e)
      (and_parts (is_outstanding a) (of_its_call (has_head_in a s) a s) (found_passes (is_headed s) s.attempts a e)).1
      (λ c k t is. some_free c k a.row.number (and_parts (is_free_call s c) (is_some (response a s).head) t).0 is)

  overflows : (a : Attempt) (d : Call) (j i : ℕ) → slice_get s.calls j ≡ Some d → is_free_call s d ≡ true
      → slice_get (filter (λ (x : Attempt). is_of d x && is_outstanding x) s.attempts) i ≡ Some a → IsInPlace s → IsChained a.place s
  overflows a d j i at free got place =
      let f : AtFiltered (λ (x : Attempt). is_of d x && is_outstanding x) s.attempts a = filter_at (λ (x : Attempt). is_of d x && is_outstanding x) s.attempts i a got in
      let its : a.row.call ≡ d.number = eqb-true a.row.call d.number (and_parts (is_of d a) (is_outstanding a) f.passes).0 in
      let own : numbered s.calls a.row.call ≡ Some d = ap (numbered s.calls) (its ∙ place.calls (suc j) d at) ∙ at in
      record {
        here = a;
        there = at_place a f.at place;
        joins = λ c is k commits.
            (let one : c ≡ d = same_of (numbered s.calls a.row.call) c d is own in
            some_free d k a.row.number free (ap (λ (x : Call). commitment x s) (sym one) ∙ commits));
      }

  overflow_if : (a : Attempt) (d : Call) (j : ℕ) (b l : Bool) → slice_get s.calls j ≡ Some d → is_free_call s d ≡ b
      → (if b && l then furthest d s else None) ≡ Some a → IsInPlace s → IsChained a.place s
  overflow_if a d j false l at free e place = absurd (cc)
  overflow_if a d j true false at free e place = absurd (cc)
  overflow_if a d j true true at free e place =
      let f : AtSome (filter (λ (x : Attempt). is_of d x && is_outstanding x) s.attempts) a =
      foremost_at (is_further s) (filter (λ (x : Attempt). is_of d x && is_outstanding x) s.attempts) a e in
      overflows a d j f.index at free f.here place

  asked_overflow : (o : Option Attempt) → first_of (overflow_row s) s.calls ≡ o → AsksIf s (option_map (committing commit.Overflow) o)
  asked_overflow None e = tt
  asked_overflow (Some a) e =
      let f : AtFirst (overflow_row s) s.calls a = first_at (overflow_row s) s.calls a e in
      λ place. overflow_if a f.item f.index (is_free_call s f.item) (nat_lt 262144 (accepted_bytes f.item)) f.here refl f.gives place

  -- line by line
  plain_or : (o : Option Action) (rest : List (Option Action)) → AsksIf s o → AsksIf s (first_action rest) → AsksIf s (first_action (o ∷ rest))
  plain_or o rest f g = asked_or s o (first_action rest) f g

  asked_ended : (why : EndCause) (test : Call → Bool) → AsksIf s (next_ended why test s)
  asked_ended why test = asked_map s (ending_call why) (λ c. tt) (find test s.calls)

  asked_calls : (o : OpenEntry) → AsksIf s (of_calls o s)
  asked_calls o =
      asked_or s (next_cut s) (first_action (next_transparent s ∷ next_inherited s ∷ next_ended ending.Row (is_over_by_row s) s ∷ next_final s
      ∷ next_ended ending.Cancelled (is_cancelled o) s ∷ next_ended ending.Request (has_long_request o s) s ∷ next_overflow s ∷ next_headed s ∷ next_ended ending.Response (has_long_response s) s ∷ []))
      (asked_first s (cut s) s.attempts asked_cut)
      (plain_or (next_transparent s) (next_inherited s ∷ next_ended ending.Row (is_over_by_row s) s ∷ next_final s
      ∷ next_ended ending.Cancelled (is_cancelled o) s ∷ next_ended ending.Request (has_long_request o s) s ∷ next_overflow s ∷ next_headed s ∷ next_ended ending.Response (has_long_response s) s ∷ [])
      (asked_transparent (find (λ (a : Attempt). wants_follower a s) s.attempts) refl)
      (plain_or (next_inherited s) (next_ended ending.Row (is_over_by_row s) s ∷ next_final s
      ∷ next_ended ending.Cancelled (is_cancelled o) s ∷ next_ended ending.Request (has_long_request o s) s ∷ next_overflow s ∷ next_headed s ∷ next_ended ending.Response (has_long_response s) s ∷ [])
      (asked_inherited (find (is_inherited s) s.attempts) refl)
      (plain_or (next_ended ending.Row (is_over_by_row s) s) (next_final s
      ∷ next_ended ending.Cancelled (is_cancelled o) s ∷ next_ended ending.Request (has_long_request o s) s ∷ next_overflow s ∷ next_headed s ∷ next_ended ending.Response (has_long_response s) s ∷ [])
      (asked_ended ending.Row (is_over_by_row s))
      (plain_or (next_final s) (next_ended ending.Cancelled (is_cancelled o) s ∷ next_ended ending.Request (has_long_request o s) s ∷ next_overflow s ∷ next_headed s
      ∷ next_ended ending.Response (has_long_response s) s ∷ [])
      (asked_final (find (is_final_end s) s.attempts) refl)
      (plain_or (next_ended ending.Cancelled (is_cancelled o) s) (next_ended ending.Request (has_long_request o s) s ∷ next_overflow s ∷ next_headed s
      ∷ next_ended ending.Response (has_long_response s) s ∷ [])
      (asked_ended ending.Cancelled (is_cancelled o))
      (plain_or (next_ended ending.Request (has_long_request o s) s) (next_overflow s ∷ next_headed s ∷ next_ended ending.Response (has_long_response s) s ∷ [])
      (asked_ended ending.Request (has_long_request o s))
      (plain_or (next_overflow s) (next_headed s ∷ next_ended ending.Response (has_long_response s) s ∷ [])
      (asked_overflow (first_of (overflow_row s) s.calls) refl)
      (plain_or (next_headed s) (next_ended ending.Response (has_long_response s) s ∷ [])
      (asked_headed (find (is_headed s) s.attempts) refl)
      (plain_or (next_ended ending.Response (has_long_response s) s) [] (asked_ended ending.Response (has_long_response s)) tt)))))))))

  asked_loss : (b : Bool) → AsksIf s (if b then None else next_wire_end s)
  asked_loss true = tt
  asked_loss false = asked_first s (wire_end s) s.attempts asked_wire

  asked_links : (o : OpenEntry) → AsksIf s (of_links o s)
  asked_links o =
      plain_or (next_of_pick s) (next_of_links s ∷ (if is_loss o.event then None else next_wire_end s) ∷ next_reset s ∷ next_wire_end s ∷ [])
      (asked_then s (follow_ask s) asked_ask (last_of s.asks))
      (plain_or (next_of_links s) ((if is_loss o.event then None else next_wire_end s) ∷ next_reset s ∷ next_wire_end s ∷ [])
      (asked_first s (link_action s) s.subs (λ i b got. asked_link b))
      (plain_or (if is_loss o.event then None else next_wire_end s) (next_reset s ∷ next_wire_end s ∷ []) (asked_loss (is_loss o.event))
      (plain_or (next_reset s) (next_wire_end s ∷ [])
      (asked_then s (reset_of s) (λ a. asked_map s (λ (number : ℕ). action.StreamReset a.place number) (λ number. tt) (reset_code_of s a))
      (foremost is_stream_before (filter (λ (a : Attempt). is_some (reset_code_of s a)) s.attempts)))
      (plain_or (next_wire_end s) [] (asked_first s (wire_end s) s.attempts asked_wire) tt))))

  asked_begun : (k : Kind) → AsksIf s (begin_if s k)
  asked_begun k = asked_if s (list_any (λ (g : PolicyUse). is_same_kind g.generation.kind k) (live_policies s)) None (Some (action.PolicyBegins k)) tt tt

  asked_policies : (o : OpenEntry) → AsksIf s (of_policies o s)
  asked_policies o =
      plain_or (next_ended ending.Shut (is_shut_down s) s) (next_retired o s ∷ next_begun o s ∷ next_given o s ∷ next_shut s ∷ next_added s ∷ []) (asked_ended ending.Shut (is_shut_down s))
      (plain_or (next_retired o s) (next_begun o s ∷ next_given o s ∷ next_shut s ∷ next_added s ∷ [])
      (asked_map s (λ (g : PolicyUse). action.PolicyRetired g.number) (λ g. tt) (find (is_to_retire o s) s.policies))
      (plain_or (next_begun o s) (next_given o s ∷ next_shut s ∷ next_added s ∷ []) (asked_then s (begin_if s) asked_begun (wanted_kind o s))
      (plain_or (next_given o s) (next_shut s ∷ next_added s ∷ []) (asked_map s (λ (g : PolicyUse). action.AddressesGiven g.number) (λ g. tt) (find (wants_addresses o s) s.policies))
      (plain_or (next_shut s) (next_added s ∷ []) (asked_map s (λ (b : Subchannel). action.SubchannelShut b.number) (λ b. tt) (find (is_unlisted s) s.subs))
      (plain_or (next_added s) [] (asked_map s (λ (address : Address). action.SubchannelAdded address) (λ address. tt) (find (λ (address : Address). is_none (live_sub s address)) (listed s))) tt)))))

  asked_settling : (o : OpenEntry) → AsksIf s (of_settling o s)
  asked_settling o =
      plain_or (next_of_clock s) (next_take_over s ∷ next_connected s ∷ first_of (config_action s) s.calls ∷ next_of_pass o s ∷ next_due_attempt s ∷ next_of_queue s ∷ Some action.EntryCloses ∷ [])
      (asked_first s (clock_action s) s.subs (λ i b got. asked_clock b))
      (plain_or (next_take_over s) (next_connected s ∷ first_of (config_action s) s.calls ∷ next_of_pass o s ∷ next_due_attempt s ∷ next_of_queue s ∷ Some action.EntryCloses ∷ [])
      (asked_then s (λ (g : PolicyUse). if may_take_over s g then Some (action.PolicyTakesOver g.number) else None)
      (λ g. asked_if s (may_take_over s g) (Some (action.PolicyTakesOver g.number)) None tt tt) (pending_policy s))
      (plain_or (next_connected s) (first_of (config_action s) s.calls ∷ next_of_pass o s ∷ next_due_attempt s ∷ next_of_queue s ∷ Some action.EntryCloses ∷ [])
      (asked_map s (λ (b : Subchannel). action.SubchannelConnects b.number) (λ b. tt) (find (λ (b : Subchannel). is_idle b.state && is_wished s b) s.subs))
      (plain_or (first_of (config_action s) s.calls) (next_of_pass o s ∷ next_due_attempt s ∷ next_of_queue s ∷ Some action.EntryCloses ∷ []) (asked_first s (config_action s) s.calls asked_config)
      (plain_or (next_of_pass o s) (next_due_attempt s ∷ next_of_queue s ∷ Some action.EntryCloses ∷ []) (asked_then s (λ (t : Turn). next_asked (is_after t) s) (λ t. asked_asked (is_after t)) o.turn)
      (plain_or (next_due_attempt s) (next_of_queue s ∷ Some action.EntryCloses ∷ []) (asked_first s (due_action s) s.calls asked_due)
      (plain_or (next_of_queue s) (Some action.EntryCloses ∷ []) (asked_asked (λ (a : Attempt). true)) tt))))))

  asked_stage : (o : OpenEntry) (g : Stage) → AsksIf s (of_stage o s g)
  asked_stage o stage.Event =
      plain_or (next_deadline s) (event_action o.event s ∷ [])
      (asked_map s (ending_call ending.Deadline) (λ c. tt) (foremost (is_due_before s) (filter (is_past_deadline s) s.calls)))
      (plain_or (event_action o.event s) [] (asked_event_by (refusal_of o.event s) o.event refl) tt)
  asked_stage o stage.Replied =
      plain_or (frame_action o s) (Some action.SettlingBegins ∷ []) (asked_if s (is_after_event o) (frame_of_event o.event o s) None (asked_frame o o.event) tt) tt
  asked_stage o stage.Settling = asked_settling o

  asked_in : (o : OpenEntry) → AsksIf s (following_in s o)
  asked_in o =
      plain_or (of_calls o s) (of_links o s ∷ of_policies o s ∷ of_stage o s o.stage ∷ []) (asked_calls o)
      (plain_or (of_links o s) (of_policies o s ∷ of_stage o s o.stage ∷ []) (asked_links o)
      (plain_or (of_policies o s) (of_stage o s o.stage ∷ []) (asked_policies o) (plain_or (of_stage o s o.stage) [] (asked_stage o o.stage) tt)))

  pub asked_following : AsksIf s (following s)
  asked_following = asked_then s (following_in s) asked_in s.current

pub lines_ask : (s : Seen) (a : Action) → following s ≡ Some a → Asks a s
lines_ask s a e = subst (AsksIf s) e (asked_following s)

-- what is next
pub next_asks : (s : Seen) (a : Action) → IsNext a s → Asks a s
next_asks s (action.AttemptMade call number k due) next = lines_ask s (action.AttemptMade call number k due) next
next_asks s (action.CallConfigured call config) next = lines_ask s (action.CallConfigured call config) next
next_asks s action.CallBegins next = lines_ask s action.CallBegins next
next_asks s (action.ItemTaken call item) next = lines_ask s (action.ItemTaken call item) next
next_asks s (action.PickRequested row generation answer) next = lines_ask s (action.PickRequested row generation answer) next
next_asks s (action.CallCommitted row why) next = lines_ask s (action.CallCommitted row why) next
next_asks s _ next = tt
