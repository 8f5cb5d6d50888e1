-- The lines of a session give only actions of which they say that: an attempt is placed on the link of a subchannel that is READY, and one becomes READY by SETTINGS.
use Rattle.attempt_ledger.specs.Hedging.{is_hedge}
use Rattle.attempt_ledger.specs.declared.ledger.Ask.{Ask}
use Rattle.grpc_base.specs.declared.address.Address.{Address}
use Rattle.grpc_base.specs.declared.event.EndCause.TheVariants as ending
use Rattle.grpc_base.specs.declared.event.EndCause.{EndCause}
use Rattle.grpc_base.specs.declared.event.Event.TheVariants as event
use Rattle.grpc_base.specs.declared.event.Event.{Event}
use Rattle.grpc_base.specs.declared.event.Refusal.TheVariants as refusal
use Rattle.grpc_base.specs.declared.event.Refusal.{Refusal}
use Rattle.grpc_base.specs.declared.event.Reply.TheVariants as reply
use Rattle.grpc_base.specs.declared.event.Reply.{Reply}
use Rattle.grpc_base.specs.declared.kind.Kind.{Kind}
use Rattle.grpc_base.specs.declared.kind.Pick.TheVariants as pick
use Rattle.grpc_base.specs.declared.kind.Pick.{Pick}
use Rattle.channel_actions.proofs.Links.Prefaced.Fits.{FitsPrefaced}
use Rattle.channel_actions.proofs.Links.Prefaced.Picks.{pick_is_prefaced}
use Rattle.channel_actions.specs.PrefacedLinks.Prefaced.{LinksArePrefaced, has_preface, has_preface_come, is_prefaced_ask, is_ready_prefaced, names_prefaced}
use Rattle.channel_actions.proofs.KeptSessions.Lists.{all_at, all_each, counted_places, own_number}
use Rattle.channel_actions.specs.KeptSessions.Kept.{IsKept}
use Rattle.lb_policy.specs.Table.{is_ready, pick_of}
use Rattle.session_actions.specs.Actions.{config_action, first_action, following, following_in, of_calls, of_links, of_policies, of_settling, of_stage}
use Rattle.session_actions.specs.AttemptEnds.{cut, cut_end, end_of, next_cut, next_reset, next_wire_end, outcome_of, reset_code_of, reset_of, wire_end}
use Rattle.session_actions.specs.Attempts.{is_outstanding, is_over, wants_follower}
use Rattle.session_actions.specs.CallEnds.{ending_call, has_long_request, has_long_response, is_after_event, is_cancelled, is_due_before, is_over_by_row, is_past_deadline, is_shut_down, lacks_config, next_deadline, next_ended}
use Rattle.session_actions.specs.Calls.{is_open_call}
use Rattle.session_actions.specs.Commitments.{committing, is_final_end, is_headed, is_inherited, next_final, next_headed, next_inherited, next_overflow, overflow_row}
use Rattle.session_actions.specs.Configs.{is_to_configure, is_too_long}
use Rattle.session_actions.specs.Deliveries.{held_bytes, is_accepted, next_item, send_action, take_action}
use Rattle.session_actions.specs.DueAttempts.{attempts_made, kind_of_next, next_due}
use Rattle.session_actions.specs.Entries.{entry, now}
use Rattle.session_actions.specs.Events.{event_action, event_action_by, event_applied, frame_action, frame_of_event, is_loss}
use Rattle.session_actions.specs.Links.{has_settings, is_stream_before}
use Rattle.session_actions.specs.Making.{due_action, due_attempt, due_if_past, next_due_attempt, next_transparent, transparent_retry}
use Rattle.session_actions.specs.Policies.{asking, begin_if, current_policy, follow_ask, follow_pick, is_after, is_queued_before, is_same_kind, is_served, is_to_retire, is_unfollowed, listed, live_policies, live_sub, may_take_over, next_asked, next_begun, next_given, next_of_pass, next_of_pick, next_of_queue, next_retired, next_take_over, pending_policy, placed_on, policy_of, wanted_kind, wants_addresses}
use Rattle.session_actions.specs.Reading.{next_read}
use Rattle.session_actions.specs.Refusals.{dial_refusal, refusal_of}
use Rattle.session_actions.specs.Sessions.{IsNext}
use Rattle.session_actions.specs.Subchannels.{clock_action, dial_action, is_connecting, is_dialable, is_dialling, is_idle, is_rested, is_to_be_ready, is_to_go_down, is_too_late, is_unlisted, is_wished, link_action, link_of_sub, next_added, next_connected, next_of_clock, next_of_links, next_shut}
use Rattle.session_actions.specs.Tokens.{has_tokens}
use Rattle.session_actions.specs.Words.{first_of, foremost, holds, last_of, numbered}
use Rattle.session_actions.specs.Writing.{fits_drain, frame_to_write, read_action, read_next, sendable}
use Rattle.session_actions.specs.declared.action.Action.TheVariants as action
use Rattle.session_actions.specs.declared.action.Action.{Action}
use Rattle.session_actions.specs.declared.action.CommitCause.TheVariants as commit
use Rattle.session_actions.specs.declared.attempt.Attempt.{Attempt}
use Rattle.session_actions.specs.declared.call.Call.{Call}
use Rattle.session_actions.specs.declared.entry.OpenEntry.{OpenEntry}
use Rattle.session_actions.specs.declared.entry.Stage.TheVariants as stage
use Rattle.session_actions.specs.declared.entry.Stage.{Stage}
use Rattle.session_actions.specs.declared.entry.Turn.{Turn}
use Rattle.session_actions.specs.declared.link.Link.{Link}
use Rattle.session_actions.specs.declared.link.Sent.{Sent}
use Rattle.session_actions.specs.declared.link.NextRead.TheVariants as nextread
use Rattle.session_actions.specs.declared.link.NextRead.{NextRead}
use Rattle.session_actions.specs.declared.policy.PolicyUse.{PolicyUse}
use Rattle.session_actions.specs.declared.response.Outcome.{Outcome}
use Rattle.session_actions.specs.declared.seen.Seen.{Seen}
use Rattle.session_actions.specs.declared.subchannel.Subchannel.{Subchannel}
use Rattle.std.proofs.Common.{Bool, List, None, Option, Some, [], ap, false, filter, find, if◌then◌else◌, is_none, is_some, length, nat_le, not, option_and_then, option_map, refl, slice_get, subst, suc, true, unwrap_or, ℕ, ◌&&◌, ◌+◌, ◌==◌, ◌||◌, ◌∙◌, ◌∷◌, ◌≡◌}
use Rattle.std.proofs.lemmas.Bool.{and_parts}
use Rattle.std.specs.List.{list_all, list_any}
use Rattle.std.specs.Option.{option_map_or, option_or}

-- what a line gives, if it gives anything
abbrev FitsIf : Seen → Option Action → Type 0
FitsIf s None = Unit {0}
FitsIf s (Some a) = FitsPrefaced a s

sound_or : (s : Seen) (o p : Option Action) → FitsIf s o → FitsIf s p → FitsIf s (option_or o p)
sound_or s None p f g = g
sound_or s (Some a) p f g = f

sound_map : {X : Type 0} (s : Seen) (f : X → Action) → ((x : X) → FitsPrefaced (f x) s) → (o : Option X) → FitsIf s (option_map f o)
sound_map s f each None = tt
sound_map s f each (Some x) = each x

sound_then : {X : Type 0} (s : Seen) (f : X → Option Action) → ((x : X) → FitsIf s (f x)) → (o : Option X) → FitsIf s (option_and_then f o)
sound_then s f each None = tt
sound_then s f each (Some x) = each x

sound_first : {X : Type 0} (s : Seen) (f : X → Option Action) (xs : List X) → ((i : ℕ) (x : X) → slice_get xs i ≡ Some x → FitsIf s (f x)) → FitsIf s (first_of f xs)
sound_first s f [] each = tt
sound_first s f (x ∷ xs) each = sound_or s (f x) (first_of f xs) (each 0 x refl) (sound_first s f xs (λ i y got. each (suc i) y got))

sound_if : (s : Seen) (b : Bool) (o p : Option Action) → FitsIf s o → FitsIf s p → FitsIf s (if b then o else p)
sound_if s true o p f g = f
sound_if s false o p f g = g

plain_or : (s : Seen) (o : Option Action) (rest : List (Option Action)) → FitsIf s o → FitsIf s (first_action rest) → FitsIf s (first_action (o ∷ rest))
plain_or s o rest f g = sound_or s o (first_action rest) f g

dialling_by : (b : Subchannel) (d : Bool) → is_dialling b ≡ d → (if not d then Some refusal.NotDialing else None) ≡ None → is_none b.link ≡ true
dialling_by b false e open_ = absurd (cc)
dialling_by b true e open_ = (and_parts (is_connecting b.state && is_some b.until) (is_none b.link) e).1

dialling : (b : Bool) (o : Option Subchannel) → (if b then Some refusal.Shut else dial_refusal o) ≡ None → holds (λ (q : Subchannel). is_none q.link) o ≡ true
dialling true o e = absurd (cc)
dialling false None e = absurd (cc)
dialling false (Some b) e = dialling_by b (is_dialling b) refl e

nothing : {X : Type 0} (o : Option X) → is_none o ≡ true → o ≡ None
nothing None e = refl
nothing (Some x) e = absurd (cc)

one_of : {X : Type 0} (o : Option X) (x y : X) → o ≡ Some x → o ≡ Some y → x ≡ y
one_of None x y e f = absurd (cc)
one_of (Some z) x y e f = (cc)

prefaced_then : (links : List Link) (o : Option ℕ) → holds has_settings (option_and_then (numbered links) o) ≡ true → holds (has_preface_come links) o ≡ true
prefaced_then links None e = absurd (cc)
prefaced_then links (Some k) e = e

on_prefaced : (links : List Link) (o : Option ℕ) → holds (has_preface_come links) o ≡ true → has_preface_come links (unwrap_or o 0) ≡ true
on_prefaced links None e = absurd (cc)
on_prefaced links (Some k) e = e

module _ (s : Seen) (kept : IsKept s) (prefaced : LinksArePrefaced s) where
  cut_sound : (a : Attempt) → FitsIf s (cut s a)
  cut_sound a = sound_if s (is_outstanding a && is_over a s) (Some (action.AttemptEnds a.place (end_of a cut_end s))) None tt tt

  wire_sound : (a : Attempt) → FitsIf s (wire_end s a)
  wire_sound a =
      sound_if s (is_outstanding a && not (is_over a s)) (option_map (λ (t : Outcome). action.AttemptEnds a.place (end_of a t s)) (outcome_of a s)) None
      (sound_map s (λ (t : Outcome). action.AttemptEnds a.place (end_of a t s)) (λ t. tt) (outcome_of a s)) tt

  wires_sound : FitsIf s (next_wire_end s)
  wires_sound = sound_first s (wire_end s) s.attempts (λ i a got. wire_sound a)

  -- the answer of a pick request
  unplaced : (row : ℕ) (a : Attempt) → numbered s.attempts row ≡ Some a → is_unfollowed a ≡ true → (b : Attempt) → numbered s.attempts a.place ≡ Some b → b.row.placed ≡ None
  unplaced row a got waits b at =
      let own : numbered s.attempts a.place ≡ Some a
      = ap (numbered s.attempts) (counted_places (λ (z : Attempt). z.place) s.attempts kept.attempts row a got) ∙ got in
      nothing b.row.placed
      (ap (λ (z : Attempt). is_none z.row.placed) (one_of (numbered s.attempts a.place) b a at own) ∙ (and_parts (is_none a.row.placed) (is_none a.row.ended) waits).0)

  place_sound : (ask : Ask) (a : Attempt) (o : Option Subchannel) → ((b : Attempt) → numbered s.attempts a.place ≡ Some b → b.row.placed ≡ None)
      → holds (has_preface s.links) o ≡ true → FitsIf s (option_map (λ (b : Subchannel). action.AttemptPlaced a.place (placed_on ask s b)) o)
  place_sound ask a None waits e = tt
  place_sound ask a (Some b) waits e = (on_prefaced s.links b.link e, waits)

  pick_sound : (ask : Ask) (a : Attempt) (p : Pick) → ((b : Attempt) → numbered s.attempts a.place ≡ Some b → b.row.placed ≡ None) → names_prefaced s.links s.subs p ≡ true
      → FitsIf s (follow_pick ask s a p)
  pick_sound ask a (pick.Place sub) waits e = place_sound ask a (numbered s.subs sub) waits e
  pick_sound ask a pick.Fail waits e = tt
  pick_sound ask a pick.Wait waits e = tt

  follow_by : (ask : Ask) (a : Attempt) (u w : Bool) → numbered s.attempts ask.row ≡ Some a → is_unfollowed a ≡ u
      → (not (u && w) || names_prefaced s.links s.subs ask.answer) ≡ true → FitsIf s (if u && w then follow_pick ask s a ask.answer else None)
  follow_by ask a true true got waits e = pick_sound ask a ask.answer (unplaced ask.row a got waits) e
  follow_by ask a true false got waits e = tt
  follow_by ask a false w got waits e = tt

  follow_of : (ask : Ask) (o : Option Attempt) → numbered s.attempts ask.row ≡ o
      → holds (λ (a : Attempt). not (is_unfollowed a && (ask.entry == entry s)) || names_prefaced s.links s.subs ask.answer) o ≡ true
      → FitsIf s (option_and_then (λ (a : Attempt). if is_unfollowed a && (ask.entry == entry s) then follow_pick ask s a ask.answer else None) o)
  follow_of ask None got e = tt
  follow_of ask (Some a) got e = follow_by ask a (is_unfollowed a) (ask.entry == entry s) got refl e

  ask_sound : (o : Option Ask) → option_map_or (is_prefaced_ask s.attempts s.subs s.links (entry s)) o true ≡ true → FitsIf s (option_and_then (follow_ask s) o)
  ask_sound None e = tt
  ask_sound (Some ask) e = follow_of ask (numbered s.attempts ask.row) refl e

  -- calls
  ended_sound : (why : EndCause) (test : Call → Bool) → FitsIf s (next_ended why test s)
  ended_sound why test = sound_map s (ending_call why) (λ c. tt) (find test s.calls)

  abbrev after_cuts : OpenEntry → List (Option Action)
  after_cuts o = next_inherited s ∷ next_ended ending.Row (is_over_by_row s) s ∷ next_final s ∷ next_ended ending.Cancelled (is_cancelled o) s
      ∷ next_ended ending.Request (has_long_request o s) s ∷ next_overflow s ∷ next_headed s ∷ next_ended ending.Response (has_long_response s) s ∷ []

  calls_sound : (o : OpenEntry) → FitsIf s (of_calls o s)
  calls_sound o =
      plain_or s (next_cut s) (next_transparent s ∷ after_cuts o) (sound_first s (cut s) s.attempts (λ i a got. cut_sound a))
      (plain_or s (next_transparent s) (after_cuts o)
      (sound_map s (transparent_retry s) (λ a. tt) (find (λ (a : Attempt). wants_follower a s) s.attempts))
      (plain_or s (next_inherited s) (next_ended ending.Row (is_over_by_row s) s ∷ next_final s ∷ next_ended ending.Cancelled (is_cancelled o) s
      ∷ next_ended ending.Request (has_long_request o s) s ∷ next_overflow s ∷ next_headed s ∷ next_ended ending.Response (has_long_response s) s ∷ [])
      (sound_map s (committing commit.Inherited) (λ a. tt) (find (is_inherited s) s.attempts))
      (plain_or s (next_ended ending.Row (is_over_by_row s) s) (next_final s ∷ next_ended ending.Cancelled (is_cancelled o) s
      ∷ next_ended ending.Request (has_long_request o s) s ∷ next_overflow s ∷ next_headed s ∷ next_ended ending.Response (has_long_response s) s ∷ [])
      (ended_sound ending.Row (is_over_by_row s))
      (plain_or s (next_final s) (next_ended ending.Cancelled (is_cancelled o) s
      ∷ next_ended ending.Request (has_long_request o s) s ∷ next_overflow s ∷ next_headed s ∷ next_ended ending.Response (has_long_response s) s ∷ [])
      (sound_map s (committing commit.Final) (λ a. tt) (find (is_final_end s) s.attempts))
      (plain_or s (next_ended ending.Cancelled (is_cancelled o) s) (next_ended ending.Request (has_long_request o s) s ∷ next_overflow s ∷ next_headed s
      ∷ next_ended ending.Response (has_long_response s) s ∷ []) (ended_sound ending.Cancelled (is_cancelled o))
      (plain_or s (next_ended ending.Request (has_long_request o s) s) (next_overflow s ∷ next_headed s ∷ next_ended ending.Response (has_long_response s) s ∷ [])
      (ended_sound ending.Request (has_long_request o s))
      (plain_or s (next_overflow s) (next_headed s ∷ next_ended ending.Response (has_long_response s) s ∷ [])
      (sound_map s (committing commit.Overflow) (λ a. tt) (first_of (overflow_row s) s.calls))
      (plain_or s (next_headed s) (next_ended ending.Response (has_long_response s) s ∷ [])
      (sound_map s (committing commit.Head) (λ a. tt) (find (is_headed s) s.attempts))
      (plain_or s (next_ended ending.Response (has_long_response s) s) [] (ended_sound ending.Response (has_long_response s)) tt)))))))))

  -- a subchannel that becomes READY has a link on which SETTINGS came
  ready_at : (i : ℕ) (b : Subchannel) → slice_get s.subs i ≡ Some b → is_to_be_ready s b ≡ true → holds (has_preface s.links) (numbered s.subs b.number) ≡ true
  ready_at i b got e =
      ap (holds (has_preface s.links)) (own_number (λ (q : Subchannel). q.number) s.subs i b kept.subs got)
      ∙ prefaced_then s.links b.link (and_parts (is_connecting b.state) (holds has_settings (link_of_sub b s)) e).1

  -- one that loses its link has one that goes down
  down_at : (i : ℕ) (b : Subchannel) → slice_get s.subs i ≡ Some b → is_to_go_down s b ≡ true → holds (is_to_go_down s) (numbered s.subs b.number) ≡ true
  down_at i b got e = ap (holds (is_to_go_down s)) (own_number (λ (q : Subchannel). q.number) s.subs i b kept.subs got) ∙ e

  link_if : (i : ℕ) (b : Subchannel) (r d : Bool) → slice_get s.subs i ≡ Some b → is_to_be_ready s b ≡ r → is_to_go_down s b ≡ d
      → FitsIf s (if r then Some (action.SettingsArrive b.number) else if d then Some (action.LinkDown b.number) else None)
  link_if i b true d got e f = ready_at i b got e
  link_if i b false true got e f = down_at i b got f
  link_if i b false false got e f = tt

  loss_sound : (b : Bool) → FitsIf s (if b then None else next_wire_end s)
  loss_sound true = tt
  loss_sound false = wires_sound

  links_sound : (o : OpenEntry) → FitsIf s (of_links o s)
  links_sound o =
      plain_or s (next_of_pick s) (next_of_links s ∷ (if is_loss o.event then None else next_wire_end s) ∷ next_reset s ∷ next_wire_end s ∷ [])
      (ask_sound (last_of s.asks) prefaced.picked)
      (plain_or s (next_of_links s) ((if is_loss o.event then None else next_wire_end s) ∷ next_reset s ∷ next_wire_end s ∷ [])
      (sound_first s (link_action s) s.subs (λ i b got. link_if i b (is_to_be_ready s b) (is_to_go_down s b) got refl refl))
      (plain_or s (if is_loss o.event then None else next_wire_end s) (next_reset s ∷ next_wire_end s ∷ []) (loss_sound (is_loss o.event))
      (plain_or s (next_reset s) (next_wire_end s ∷ [])
      (sound_then s (reset_of s) (λ a. sound_map s (λ (number : ℕ). action.StreamReset a.place number) (λ number. tt) (reset_code_of s a))
      (foremost is_stream_before (filter (λ (a : Attempt). is_some (reset_code_of s a)) s.attempts))) (plain_or s (next_wire_end s) [] wires_sound tt))))

  begun_sound : (k : Kind) → FitsIf s (begin_if s k)
  begun_sound k = sound_if s (list_any (λ (g : PolicyUse). is_same_kind g.generation.kind k) (live_policies s)) None (Some (action.PolicyBegins k)) tt tt

  policies_sound : (o : OpenEntry) → FitsIf s (of_policies o s)
  policies_sound o =
      plain_or s (next_ended ending.Shut (is_shut_down s) s) (next_retired o s ∷ next_begun o s ∷ next_given o s ∷ next_shut s ∷ next_added s ∷ []) (ended_sound ending.Shut (is_shut_down s))
      (plain_or s (next_retired o s) (next_begun o s ∷ next_given o s ∷ next_shut s ∷ next_added s ∷ [])
      (sound_map s (λ (g : PolicyUse). action.PolicyRetired g.number) (λ g. tt) (find (is_to_retire o s) s.policies))
      (plain_or s (next_begun o s) (next_given o s ∷ next_shut s ∷ next_added s ∷ []) (sound_then s (begin_if s) begun_sound (wanted_kind o s))
      (plain_or s (next_given o s) (next_shut s ∷ next_added s ∷ [])
      (sound_map s (λ (g : PolicyUse). action.AddressesGiven g.number) (λ g. tt) (find (wants_addresses o s) s.policies))
      (plain_or s (next_shut s) (next_added s ∷ []) (sound_map s (λ (b : Subchannel). action.SubchannelShut b.number) (λ b. tt) (find (is_unlisted s) s.subs))
      (plain_or s (next_added s) []
      (sound_map s (λ (address : Address). action.SubchannelAdded address) (λ address. tt) (find (λ (address : Address). is_none (live_sub s address)) (listed s))) tt)))))

  -- what is due
  late_at : (i : ℕ) (b : Subchannel) → slice_get s.subs i ≡ Some b → is_too_late s b ≡ true → holds (λ (q : Subchannel). is_connecting q.state) (numbered s.subs b.number) ≡ true
  late_at i b got e =
      ap (holds (λ (q : Subchannel). is_connecting q.state)) (own_number (λ (q : Subchannel). q.number) s.subs i b kept.subs got)
      ∙ (and_parts (is_connecting b.state) (holds (λ (t : ℕ). nat_le t (now s)) b.until) e).0

  clock_if : (i : ℕ) (b : Subchannel) (d : Bool) → slice_get s.subs i ≡ Some b → is_too_late s b ≡ d
      → FitsIf s (if d then Some (action.ConnectTimesOut b.number) else if is_rested s b then Some (action.BackoffEnds b.number) else None)
  clock_if i b true got e = late_at i b got e
  clock_if i b false got e = sound_if s (is_rested s b) (Some (action.BackoffEnds b.number)) None tt tt

  clock_sound : (i : ℕ) (b : Subchannel) → slice_get s.subs i ≡ Some b → FitsIf s (clock_action s b)
  clock_sound i b got = clock_if i b (is_too_late s b) got refl

  config_sound : (c : Call) → FitsIf s (config_action s c)
  config_sound c =
      sound_if s (is_to_configure s c) (Some (action.CallConfigured c.number (length s.configs))) (if lacks_config s c then Some (action.CallEnds c.number ending.NoConfig) else None) tt
      (sound_if s (lacks_config s c) (Some (action.CallEnds c.number ending.NoConfig)) None tt tt)

  made_by : (c : Call) (d : ℕ) (b : Bool) → FitsPrefaced (if b then action.HedgeWithheld c.number else action.AttemptMade c.number (attempts_made c s + 1) (kind_of_next c s) d) s
  made_by c d true = tt
  made_by c d false = tt

  due_sound : (c : Call) → FitsIf s (due_action s c)
  due_sound c =
      sound_if s (is_open_call c) (option_and_then (due_if_past c s) (next_due c s)) None
      (sound_then s (due_if_past c s)
      (λ d. sound_if s (nat_le d (now s)) (Some (due_attempt c s d)) None (made_by c d (is_hedge (kind_of_next c s) && not (has_tokens c s))) tt) (next_due c s)) tt

  boards_prefaced : list_all (λ (b : Subchannel). not (is_ready b.state) || holds (has_preface s.links) (numbered s.subs b.number)) s.subs ≡ true
  boards_prefaced =
      all_each (λ (b : Subchannel). not (is_ready b.state) || holds (has_preface s.links) (numbered s.subs b.number)) s.subs
      (λ i b got.
      ap (λ (o : Option Subchannel). not (is_ready b.state) || holds (has_preface s.links) o) (own_number (λ (q : Subchannel). q.number) s.subs i b kept.subs got)
      ∙ all_at (is_ready_prefaced s.links) s.subs (suc i) b prefaced.ready got)

  asked_sound : (test : Attempt → Bool) → FitsIf s (next_asked test s)
  asked_sound test =
      sound_then s (asking s) (λ a. sound_map s (λ (g : PolicyUse). action.PickRequested a.place g.number (pick_of (policy_of g s))) (λ g. pick_is_prefaced s g boards_prefaced) (current_policy s))
      (foremost is_queued_before (filter (λ (a : Attempt). is_served s a && test a) s.attempts))

  settling_sound : (o : OpenEntry) → FitsIf s (of_settling o s)
  settling_sound o =
      plain_or s (next_of_clock s) (next_take_over s ∷ next_connected s ∷ first_of (config_action s) s.calls ∷ next_of_pass o s ∷ next_due_attempt s ∷ next_of_queue s ∷ Some action.EntryCloses ∷ [])
      (sound_first s (clock_action s) s.subs (λ i b got. clock_sound i b got))
      (plain_or s (next_take_over s) (next_connected s ∷ first_of (config_action s) s.calls ∷ next_of_pass o s ∷ next_due_attempt s ∷ next_of_queue s ∷ Some action.EntryCloses ∷ [])
      (sound_then s (λ (g : PolicyUse). if may_take_over s g then Some (action.PolicyTakesOver g.number) else None)
      (λ g. sound_if s (may_take_over s g) (Some (action.PolicyTakesOver g.number)) None tt tt) (pending_policy s))
      (plain_or s (next_connected s) (first_of (config_action s) s.calls ∷ next_of_pass o s ∷ next_due_attempt s ∷ next_of_queue s ∷ Some action.EntryCloses ∷ [])
      (sound_map s (λ (b : Subchannel). action.SubchannelConnects b.number) (λ b. tt) (find (λ (b : Subchannel). is_idle b.state && is_wished s b) s.subs))
      (plain_or s (first_of (config_action s) s.calls) (next_of_pass o s ∷ next_due_attempt s ∷ next_of_queue s ∷ Some action.EntryCloses ∷ [])
      (sound_first s (config_action s) s.calls (λ i c got. config_sound c))
      (plain_or s (next_of_pass o s) (next_due_attempt s ∷ next_of_queue s ∷ Some action.EntryCloses ∷ [])
      (sound_then s (λ (t : Turn). next_asked (is_after t) s) (λ t. asked_sound (is_after t)) o.turn)
      (plain_or s (next_due_attempt s) (next_of_queue s ∷ Some action.EntryCloses ∷ [])
      (sound_first s (due_action s) s.calls (λ i c got. due_sound c))
      (plain_or s (next_of_queue s) (Some action.EntryCloses ∷ []) (asked_sound (λ (a : Attempt). true)) tt))))))

  -- the event
  send_sound : (call : ℕ) (long accepted : Bool) (held : ℕ)
      → FitsPrefaced (if long then action.EventAnswered reply.Done else if accepted then action.MessageAccepted call else action.EventAnswered (reply.Full held)) s
  send_sound call true accepted held = tt
  send_sound call false true held = tt
  send_sound call false false held = tt

  take_sound : (call : ℕ) (o : Option Reply) → FitsPrefaced (take_action call o) s
  take_sound call None = tt
  take_sound call (Some item) = tt

  dial_sound : (o : Option Subchannel) → FitsPrefaced (option_map_or (dial_action s) o (action.EventAnswered reply.NotYet)) s
  dial_sound None = tt
  dial_sound (Some b) = tt

  event_sound : (e : Event) → refusal_of e s ≡ None → FitsIf s (event_applied e s)
  event_sound (event.Send call message) open_ =
      sound_map s (send_action call message s) (λ c. send_sound call (is_too_long message c s) (is_accepted c message s) (held_bytes c s)) (numbered s.calls call)
  event_sound (event.Take call) open_ = sound_map s (λ (c : Call). take_action call (next_item c s)) (λ c. take_sound call (next_item c s)) (numbered s.calls call)
  event_sound event.TakeDial open_ = dial_sound (find is_dialable s.subs)
  event_sound (event.LinkUp sub) open_ = dialling s.shut (numbered s.subs sub) open_
  event_sound _ open_ = tt

  event_by : (o : Option Refusal) (e : Event) → refusal_of e s ≡ o → FitsIf s (event_action_by o e s)
  event_by None e got = event_sound e got
  event_by (Some why) e got = tt

  -- frames
  read_sound : (link : ℕ) (n : NextRead) → FitsIf s (read_action link n)
  read_sound link nextread.Nothing = tt
  read_sound link (nextread.Frame r) = tt
  read_sound link (nextread.Broken number) = tt

  -- what is written is what the link sends next
  written_if : (link : ℕ) (x : Sent) (b : Bool) → ((l : Link) → numbered s.links link ≡ Some l → sendable l s ≡ Some x)
      → FitsIf s (if b then Some (action.FrameWritten link x) else None)
  written_if link x true is = is
  written_if link x false is = tt

  written_by : (link most : ℕ) (o : OpenEntry) (l : Link) (q : Option Sent) → numbered s.links link ≡ Some l → sendable l s ≡ q
      → FitsIf s (option_and_then (frame_to_write link most o s) q)
  written_by link most o l None got is = tt
  written_by link most o l (Some x) got is =
      written_if link x (fits_drain most o x) (λ k at. ap (λ (z : Link). sendable z s) (one_of (numbered s.links link) k l at got) ∙ is)

  written_of : (link most : ℕ) (o : OpenEntry) (q : Option Link) → numbered s.links link ≡ q
      → FitsIf s (option_and_then (λ (l : Link). option_and_then (frame_to_write link most o s) (sendable l s)) q)
  written_of link most o None got = tt
  written_of link most o (Some l) got = written_by link most o l (sendable l s) got refl

  frame_sound : (o : OpenEntry) (e : Event) → FitsIf s (frame_of_event e o s)
  frame_sound o (event.Arrived link piece) =
      sound_then s (read_next link s) (λ l. sound_if s (is_none l.over) (read_action link (next_read l s)) None (read_sound link (next_read l s)) tt) (numbered s.links link)
  frame_sound o (event.Drain link most) = written_of link most o (numbered s.links link) refl
  frame_sound o _ = tt

  stage_sound : (o : OpenEntry) (g : Stage) → FitsIf s (of_stage o s g)
  stage_sound o stage.Event =
      plain_or s (next_deadline s) (event_action o.event s ∷ [])
      (sound_map s (ending_call ending.Deadline) (λ c. tt) (foremost (is_due_before s) (filter (is_past_deadline s) s.calls)))
      (plain_or s (event_action o.event s) [] (event_by (refusal_of o.event s) o.event refl) tt)
  stage_sound o stage.Replied =
      plain_or s (frame_action o s) (Some action.SettlingBegins ∷ []) (sound_if s (is_after_event o) (frame_of_event o.event o s) None (frame_sound o o.event) tt) tt
  stage_sound o stage.Settling = settling_sound o

  in_sound : (o : OpenEntry) → FitsIf s (following_in s o)
  in_sound o =
      plain_or s (of_calls o s) (of_links o s ∷ of_policies o s ∷ of_stage o s o.stage ∷ []) (calls_sound o)
      (plain_or s (of_links o s) (of_policies o s ∷ of_stage o s o.stage ∷ []) (links_sound o)
      (plain_or s (of_policies o s) (of_stage o s o.stage ∷ []) (policies_sound o) (plain_or s (of_stage o s o.stage) [] (stage_sound o o.stage) tt)))

  pub following_sound : FitsIf s (following s)
  following_sound = sound_then s (following_in s) in_sound s.current

lines_fit : (s : Seen) (a : Action) → IsKept s → LinksArePrefaced s → following s ≡ Some a → FitsPrefaced a s
lines_fit s a kept prefaced e = subst (FitsIf s) e (following_sound s kept prefaced)

pub next_fits : (s : Seen) (a : Action) → IsKept s → LinksArePrefaced s → IsNext a s → FitsPrefaced a s
next_fits s (action.AttemptPlaced row at) kept prefaced next = lines_fit s (action.AttemptPlaced row at) kept prefaced next
next_fits s (action.PickRequested row g answer) kept prefaced next = lines_fit s (action.PickRequested row g answer) kept prefaced next
next_fits s (action.FrameWritten link x) kept prefaced next = lines_fit s (action.FrameWritten link x) kept prefaced next
next_fits s (action.SettingsArrive sub) kept prefaced next = lines_fit s (action.SettingsArrive sub) kept prefaced next
next_fits s (action.LinkUp sub) kept prefaced next = lines_fit s (action.LinkUp sub) kept prefaced next
next_fits s (action.LinkDown sub) kept prefaced next = lines_fit s (action.LinkDown sub) kept prefaced next
next_fits s (action.ConnectTimesOut sub) kept prefaced next = lines_fit s (action.ConnectTimesOut sub) kept prefaced next
next_fits s _ kept prefaced next = tt
