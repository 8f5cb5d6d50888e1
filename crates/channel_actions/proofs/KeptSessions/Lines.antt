-- The lines of a session give only actions of which they say what its order leans on. An end is stamped with the entry that is open, an attempt is made of a
-- call that is there and placed on a link that came up. No subchannel loses its link while a pick of it is to be acted on.
use Rattle.attempt_ledger.specs.Hedging.{is_hedge}
use Rattle.attempt_ledger.specs.declared.ledger.Ask.{Ask}
use Rattle.grpc_base.specs.declared.address.Address.{Address}
use Rattle.grpc_base.specs.declared.event.EndCause.TheVariants as ending
use Rattle.grpc_base.specs.declared.event.EndCause.{EndCause}
use Rattle.grpc_base.specs.declared.event.Event.TheVariants as event
use Rattle.grpc_base.specs.declared.event.Event.{Event}
use Rattle.grpc_base.specs.declared.event.Refusal.TheVariants as refusal
use Rattle.grpc_base.specs.declared.event.Refusal.{Refusal}
use Rattle.grpc_base.specs.declared.event.Reply.TheVariants as reply
use Rattle.grpc_base.specs.declared.event.Reply.{Reply}
use Rattle.grpc_base.specs.declared.kind.Kind.{Kind}
use Rattle.grpc_base.specs.declared.kind.Pick.TheVariants as pick
use Rattle.grpc_base.specs.declared.kind.Pick.{Pick}
use Rattle.channel_actions.proofs.KeptSessions.Lists.{all_at, all_each, all_filter, all_foremost, all_found, all_own, own_number}
use Rattle.channel_actions.proofs.KeptSessions.Picks.{is_ready_linked, pick_of_sound}
use Rattle.channel_actions.proofs.KeptSessions.Sound.{IsSound, is_place, is_placing, is_placing_ask, opens_soundly}
use Rattle.channel_actions.proofs.KeptSessions.Written.{OpensIf, sendable_sound}
use Rattle.channel_actions.specs.KeptSessions.Kept.{NumbersCountUp, IsKept, came_up, has_link_for, is_sound_ask, is_sound_sub}
use Rattle.lb_policy.specs.Table.{is_ready, pick_of}
use Rattle.call_actions.proofs.ReadsInOrder.Numbers.{next_reads_on}
use Rattle.call_actions.specs.ReadsInOrder.Laws.{LinksAreNumbered}
use Rattle.session_actions.specs.Actions.{config_action, first_action, following, following_in, of_calls, of_links, of_policies, of_settling, of_stage}
use Rattle.session_actions.specs.AttemptEnds.{cut, cut_end, end_of, next_cut, next_reset, next_wire_end, outcome_of, reset_code_of, reset_of, wire_end}
use Rattle.session_actions.specs.Attempts.{call_of, is_outstanding, is_over, wants_follower}
use Rattle.session_actions.specs.CallEnds.{ending_call, has_long_request, has_long_response, is_after_event, is_cancelled, is_due_before, is_over_by_row, is_past_deadline, is_shut_down, lacks_config, next_deadline, next_ended}
use Rattle.session_actions.specs.Calls.{is_open_call}
use Rattle.session_actions.specs.Commitments.{committing, is_final_end, is_headed, is_inherited, next_final, next_headed, next_inherited, next_overflow, overflow_row}
use Rattle.session_actions.specs.Configs.{is_to_configure, is_too_long}
use Rattle.session_actions.specs.Deliveries.{held_bytes, is_accepted, next_item, send_action, take_action}
use Rattle.session_actions.specs.DueAttempts.{attempts_made, kind_of_next, next_due}
use Rattle.session_actions.specs.Entries.{entry, now}
use Rattle.session_actions.specs.Events.{event_action, event_action_by, event_applied, frame_action, frame_of_event, is_loss}
use Rattle.session_actions.specs.Links.{has_settings, is_stream_before}
use Rattle.session_actions.specs.Making.{due_action, due_attempt, due_if_past, next_due_attempt, next_transparent, transparent_retry}
use Rattle.session_actions.specs.Policies.{asking, begin_if, current_policy, follow_ask, follow_pick, is_after, is_queued_before, is_same_kind, is_served, is_to_retire, is_unfollowed, listed, live_policies, live_sub, may_take_over, next_asked, next_begun, next_given, next_of_pass, next_of_pick, next_of_queue, next_retired, next_take_over, pending_policy, placed_on, policy_of, wanted_kind, wants_addresses}
use Rattle.session_actions.specs.Reading.{next_read}
use Rattle.session_actions.specs.Refusals.{dial_refusal, refusal_of}
use Rattle.session_actions.specs.Sessions.{IsNext}
use Rattle.session_actions.specs.Subchannels.{clock_action, dial_action, is_connecting, is_dialable, is_idle, is_rested, is_to_be_ready, is_to_go_down, is_too_late, is_unlisted, is_wished, link_action, link_of_sub, next_added, next_connected, next_of_clock, next_of_links, next_shut}
use Rattle.session_actions.specs.Tokens.{has_tokens}
use Rattle.session_actions.specs.Words.{first_of, foremost, holds, last_of, numbered}
use Rattle.session_actions.specs.Writing.{fits_drain, frame_to_write, is_control, next_frame_read, read_action, read_next, sendable}
use Rattle.session_actions.specs.declared.action.Action.TheVariants as action
use Rattle.session_actions.specs.declared.action.Action.{Action}
use Rattle.session_actions.specs.declared.action.CommitCause.TheVariants as commit
use Rattle.session_actions.specs.declared.attempt.Attempt.{Attempt}
use Rattle.session_actions.specs.declared.call.Call.{Call}
use Rattle.session_actions.specs.declared.entry.OpenEntry.{OpenEntry}
use Rattle.session_actions.specs.declared.entry.Stage.TheVariants as stage
use Rattle.session_actions.specs.declared.entry.Stage.{Stage}
use Rattle.session_actions.specs.declared.entry.Turn.{Turn}
use Rattle.session_actions.specs.declared.link.Link.{Link}
use Rattle.session_actions.specs.declared.link.NextRead.TheVariants as nextread
use Rattle.session_actions.specs.declared.link.NextRead.{NextRead}
use Rattle.session_actions.specs.declared.link.Sent.{Sent}
use Rattle.session_actions.specs.declared.policy.PolicyUse.{PolicyUse}
use Rattle.session_actions.specs.declared.response.Outcome.{Outcome}
use Rattle.session_actions.specs.declared.seen.Seen.{Seen}
use Rattle.session_actions.specs.declared.subchannel.Subchannel.{Subchannel}
use Rattle.std.proofs.Common.{Bool, List, None, Option, Some, [], ap, arith, false, filter, find, if◌then◌else◌, is_none, is_some, length, map, nat_le, not, option_and_then, option_map, refl, slice_get, subst, suc, true, unwrap_or, ℕ, ◌&&◌, ◌+◌, ◌==◌, ◌||◌, ◌∙◌, ◌∷◌, ◌≡◌}
use Rattle.std.proofs.lemmas.Bool.Decides.{nat_tests}
use Rattle.std.proofs.lemmas.Bool.{and_parts}
use Rattle.std.specs.List.{list_all, list_any}
use Rattle.std.specs.Option.{option_map_or, option_or}

-- what a line gives, if it gives anything
abbrev SoundIf : Seen → Option Action → Type 0
SoundIf s None = Unit {0}
SoundIf s (Some a) = IsSound a s

sound_or : (s : Seen) (o p : Option Action) → SoundIf s o → SoundIf s p → SoundIf s (option_or o p)
sound_or s None p f g = g
sound_or s (Some a) p f g = f

sound_map : {X : Type 0} (s : Seen) (f : X → Action) → ((x : X) → IsSound (f x) s) → (o : Option X) → SoundIf s (option_map f o)
sound_map s f each None = tt
sound_map s f each (Some x) = each x

sound_of : {X : Type 0} (s : Seen) (q : X → Bool) (f : X → Action) → ((x : X) → q x ≡ true → IsSound (f x) s) → (o : Option X) → option_map_or q o true ≡ true
    → SoundIf s (option_map f o)
sound_of s q f each None e = tt
sound_of s q f each (Some x) e = each x e

sound_then : {X : Type 0} (s : Seen) (f : X → Option Action) → ((x : X) → SoundIf s (f x)) → (o : Option X) → SoundIf s (option_and_then f o)
sound_then s f each None = tt
sound_then s f each (Some x) = each x

sound_then_of : {X : Type 0} (s : Seen) (q : X → Bool) (f : X → Option Action) → ((x : X) → q x ≡ true → SoundIf s (f x)) → (o : Option X) → option_map_or q o true ≡ true
    → SoundIf s (option_and_then f o)
sound_then_of s q f each None e = tt
sound_then_of s q f each (Some x) e = each x e

sound_first : {X : Type 0} (s : Seen) (f : X → Option Action) (xs : List X) → ((i : ℕ) (x : X) → slice_get xs i ≡ Some x → SoundIf s (f x)) → SoundIf s (first_of f xs)
sound_first s f [] each = tt
sound_first s f (x ∷ xs) each = sound_or s (f x) (first_of f xs) (each 0 x refl) (sound_first s f xs (λ i y got. each (suc i) y got))

sound_if : (s : Seen) (b : Bool) (o p : Option Action) → SoundIf s o → SoundIf s p → SoundIf s (if b then o else p)
sound_if s true o p f g = f
sound_if s false o p f g = g

plain_or : (s : Seen) (o : Option Action) (rest : List (Option Action)) → SoundIf s o → SoundIf s (first_action rest) → SoundIf s (first_action (o ∷ rest))
plain_or s o rest f g = sound_or s o (first_action rest) f g

itself : (n : ℕ) → nat_le n n ≡ true
itself n = grind (arith, nat_tests)

of_number : {X : Type 0} (p : X → Bool) (xs : List X) (n : ℕ) (o : Option X) → numbered xs n ≡ o → list_all p xs ≡ true → option_map_or p o true ≡ true
of_number p xs n None got e = refl
of_number p xs n (Some x) got e = all_at p xs n x e got

then_there : {X : Type 0} (test : X → Bool) (f : ℕ → Option X) (o : Option ℕ) → holds test (option_and_then f o) ≡ true → is_some o ≡ true
then_there test f None e = absurd (cc)
then_there test f (Some n) e = refl

up_there : (b : Bool) (o : Option Subchannel) → (if b then Some refusal.Shut else dial_refusal o) ≡ None → is_some o ≡ true
up_there true o e = absurd (cc)
up_there false None e = absurd (cc)
up_there false (Some b) e = refl

no_link : {Y : Type 0} (f : Subchannel → Y) (o : Option Subchannel) → holds (λ (b : Subchannel). is_some b.link) o ≡ true → option_map f o ≡ None → ⊥
no_link f None e n = absurd (cc)
no_link f (Some b) e n = absurd (cc)

linked_up : (s : Seen) (d : Bool) (o : Option ℕ) → is_some o ≡ true → option_map_or (came_up s) o d ≡ true → came_up s (unwrap_or o 0) ≡ true
linked_up s d None there e = absurd (cc)
linked_up s d (Some n) there e = e

-- and it is written only where it is
given_if : (s : Seen) (link : ℕ) (x : Sent) (b : Bool) → opens_soundly x ≡ true → SoundIf s (if b then Some (action.FrameWritten link x) else None)
given_if s link x true e = e
given_if s link x false e = tt

write_sound : (s : Seen) (link most : ℕ) (o : OpenEntry) (x : Option Sent) → OpensIf x → SoundIf s (option_and_then (frame_to_write link most o s) x)
write_sound s link most o None e = tt
write_sound s link most o (Some x) e = given_if s link x (fits_drain most o x) e

counted_links : (n : ℕ) (links : List Link) → NumbersCountUp n (map (λ (l : Link). l.number) links) → LinksAreNumbered n links
counted_links n [] e = tt
counted_links n (l ∷ links) e = (e.0, counted_links (suc n) links e.1)

module _ (s : Seen) (kept : IsKept s) where
  -- an end is stamped with the entry that is open
  cut_sound : (a : Attempt) → SoundIf s (cut s a)
  cut_sound a = sound_if s (is_outstanding a && is_over a s) (Some (action.AttemptEnds a.place (end_of a cut_end s))) None (itself (entry s)) tt

  wire_sound : (a : Attempt) → SoundIf s (wire_end s a)
  wire_sound a =
      sound_if s (is_outstanding a && not (is_over a s)) (option_map (λ (t : Outcome). action.AttemptEnds a.place (end_of a t s)) (outcome_of a s)) None
      (sound_map s (λ (t : Outcome). action.AttemptEnds a.place (end_of a t s)) (λ t. itself (entry s)) (outcome_of a s)) tt

  wires_sound : SoundIf s (next_wire_end s)
  wires_sound = sound_first s (wire_end s) s.attempts (λ i a got. wire_sound a)

  -- the answer of a pick request
  place_sound : (ask : Ask) (a : Attempt) (o : Option Subchannel) → holds (λ (b : Subchannel). is_some b.link) o ≡ true → option_map_or (is_sound_sub s) o true ≡ true
      → SoundIf s (option_map (λ (b : Subchannel). action.AttemptPlaced a.place (placed_on ask s b)) o)
  place_sound ask a None there up = tt
  place_sound ask a (Some b) there up = linked_up s (not (is_ready b.state)) b.link there up

  pick_sound : (ask : Ask) (a : Attempt) (p : Pick) → has_link_for s.subs p ≡ true → SoundIf s (follow_pick ask s a p)
  pick_sound ask a (pick.Place sub) e = place_sound ask a (numbered s.subs sub) e (of_number (is_sound_sub s) s.subs sub (numbered s.subs sub) refl kept.boards)
  pick_sound ask a pick.Fail e = itself (entry s)
  pick_sound ask a pick.Wait e = tt

  follow_by : (ask : Ask) (a : Attempt) (b : Bool) → (not b || has_link_for s.subs ask.answer) ≡ true → SoundIf s (if b then follow_pick ask s a ask.answer else None)
  follow_by ask a true e = pick_sound ask a ask.answer e
  follow_by ask a false e = tt

  follow_of : (ask : Ask) (o : Option Attempt) → holds (λ (a : Attempt). not (is_unfollowed a && (ask.entry == entry s)) || has_link_for s.subs ask.answer) o ≡ true
      → SoundIf s (option_and_then (λ (a : Attempt). if is_unfollowed a && (ask.entry == entry s) then follow_pick ask s a ask.answer else None) o)
  follow_of ask None e = tt
  follow_of ask (Some a) e = follow_by ask a (is_unfollowed a && (ask.entry == entry s)) e

  ask_sound : (o : Option Ask) → option_map_or (is_sound_ask s) o true ≡ true → SoundIf s (option_and_then (follow_ask s) o)
  ask_sound None e = tt
  ask_sound (Some ask) e = follow_of ask (numbered s.attempts ask.row) e

  -- where nothing follows from it, it is not to be acted on with a subchannel
  quiescent_with : (ask : Ask) (a : Attempt) (b : Bool) (p : Pick) → (not b || has_link_for s.subs p) ≡ true → (if b then follow_pick ask s a p else None) ≡ None
      → (b && is_place p) ≡ false
  quiescent_with ask a false p e n = refl
  quiescent_with ask a true (pick.Place sub) e n =
      absurd (no_link (λ (b : Subchannel). action.AttemptPlaced a.place (placed_on ask s b)) (numbered s.subs sub) e n)
  quiescent_with ask a true pick.Fail e n = refl
  quiescent_with ask a true pick.Wait e n = refl

  quiescent_at : (ask : Ask) (o : Option Attempt) → holds (λ (a : Attempt). not (is_unfollowed a && (ask.entry == entry s)) || has_link_for s.subs ask.answer) o ≡ true
      → option_and_then (λ (a : Attempt). if is_unfollowed a && (ask.entry == entry s) then follow_pick ask s a ask.answer else None) o ≡ None
      → (holds (λ (a : Attempt). is_unfollowed a && (ask.entry == entry s)) o && is_place ask.answer) ≡ false
  quiescent_at ask None e n = refl
  quiescent_at ask (Some a) e n = quiescent_with ask a (is_unfollowed a && (ask.entry == entry s)) ask.answer e n

  quiescent_by : (o : Option Ask) → option_map_or (is_sound_ask s) o true ≡ true → option_and_then (follow_ask s) o ≡ None → option_map_or (is_placing_ask s) o false ≡ false
  quiescent_by None e n = refl
  quiescent_by (Some ask) e n = quiescent_at ask (numbered s.attempts ask.row) e n

  pub unplacing : next_of_pick s ≡ None → is_placing s ≡ false
  unplacing n = quiescent_by (last_of s.asks) kept.picked n

  -- calls
  ended_sound : (why : EndCause) (test : Call → Bool) → SoundIf s (next_ended why test s)
  ended_sound why test = sound_map s (ending_call why) (λ c. tt) (find test s.calls)

  abbrev after_cuts : OpenEntry → List (Option Action)
  after_cuts o = next_inherited s ∷ next_ended ending.Row (is_over_by_row s) s ∷ next_final s ∷ next_ended ending.Cancelled (is_cancelled o) s
      ∷ next_ended ending.Request (has_long_request o s) s ∷ next_overflow s ∷ next_headed s ∷ next_ended ending.Response (has_long_response s) s ∷ []

  calls_sound : (o : OpenEntry) → SoundIf s (of_calls o s)
  calls_sound o =
      plain_or s (next_cut s) (next_transparent s ∷ after_cuts o) (sound_first s (cut s) s.attempts (λ i a got. cut_sound a))
      (plain_or s (next_transparent s) (after_cuts o)
      (sound_of s (λ (a : Attempt). is_some (call_of a s)) (transparent_retry s) (λ a e. e) (find (λ (a : Attempt). wants_follower a s) s.attempts)
      (all_found (λ (a : Attempt). is_some (call_of a s)) (λ (a : Attempt). wants_follower a s) s.attempts kept.owned))
      (plain_or s (next_inherited s) (next_ended ending.Row (is_over_by_row s) s ∷ next_final s ∷ next_ended ending.Cancelled (is_cancelled o) s
      ∷ next_ended ending.Request (has_long_request o s) s ∷ next_overflow s ∷ next_headed s ∷ next_ended ending.Response (has_long_response s) s ∷ [])
      (sound_map s (committing commit.Inherited) (λ a. tt) (find (is_inherited s) s.attempts))
      (plain_or s (next_ended ending.Row (is_over_by_row s) s) (next_final s ∷ next_ended ending.Cancelled (is_cancelled o) s
      ∷ next_ended ending.Request (has_long_request o s) s ∷ next_overflow s ∷ next_headed s ∷ next_ended ending.Response (has_long_response s) s ∷ [])
      (ended_sound ending.Row (is_over_by_row s))
      (plain_or s (next_final s) (next_ended ending.Cancelled (is_cancelled o) s
      ∷ next_ended ending.Request (has_long_request o s) s ∷ next_overflow s ∷ next_headed s ∷ next_ended ending.Response (has_long_response s) s ∷ [])
      (sound_map s (committing commit.Final) (λ a. tt) (find (is_final_end s) s.attempts))
      (plain_or s (next_ended ending.Cancelled (is_cancelled o) s) (next_ended ending.Request (has_long_request o s) s ∷ next_overflow s ∷ next_headed s
      ∷ next_ended ending.Response (has_long_response s) s ∷ []) (ended_sound ending.Cancelled (is_cancelled o))
      (plain_or s (next_ended ending.Request (has_long_request o s) s) (next_overflow s ∷ next_headed s ∷ next_ended ending.Response (has_long_response s) s ∷ [])
      (ended_sound ending.Request (has_long_request o s))
      (plain_or s (next_overflow s) (next_headed s ∷ next_ended ending.Response (has_long_response s) s ∷ [])
      (sound_map s (committing commit.Overflow) (λ a. tt) (first_of (overflow_row s) s.calls))
      (plain_or s (next_headed s) (next_ended ending.Response (has_long_response s) s ∷ [])
      (sound_map s (committing commit.Head) (λ a. tt) (find (is_headed s) s.attempts))
      (plain_or s (next_ended ending.Response (has_long_response s) s) [] (ended_sound ending.Response (has_long_response s)) tt)))))))))

  -- a subchannel that becomes READY has a link
  ready_at : (i : ℕ) (b : Subchannel) → slice_get s.subs i ≡ Some b → is_to_be_ready s b ≡ true → holds (λ (q : Subchannel). is_some q.link) (numbered s.subs b.number) ≡ true
  ready_at i b got e =
      ap (holds (λ (q : Subchannel). is_some q.link)) (own_number (λ (q : Subchannel). q.number) s.subs i b kept.subs got)
      ∙ then_there has_settings (numbered s.links) b.link (and_parts (is_connecting b.state) (holds has_settings (link_of_sub b s)) e).1

  module _ (none : is_placing s ≡ false) where
    link_if : (i : ℕ) (b : Subchannel) (r d : Bool) → slice_get s.subs i ≡ Some b → is_to_be_ready s b ≡ r
        → SoundIf s (if r then Some (action.SettingsArrive b.number) else if d then Some (action.LinkDown b.number) else None)
    link_if i b true d got e = ready_at i b got e
    link_if i b false true got e = none
    link_if i b false false got e = tt

    loss_sound : (b : Bool) → SoundIf s (if b then None else next_wire_end s)
    loss_sound true = tt
    loss_sound false = wires_sound

    links_sound : (o : OpenEntry) → SoundIf s (first_action (next_of_links s ∷ (if is_loss o.event then None else next_wire_end s) ∷ next_reset s ∷ next_wire_end s ∷ []))
    links_sound o =
        plain_or s (next_of_links s) ((if is_loss o.event then None else next_wire_end s) ∷ next_reset s ∷ next_wire_end s ∷ [])
        (sound_first s (link_action s) s.subs (λ i b got. link_if i b (is_to_be_ready s b) (is_to_go_down s b) got refl))
        (plain_or s (if is_loss o.event then None else next_wire_end s) (next_reset s ∷ next_wire_end s ∷ []) (loss_sound (is_loss o.event))
        (plain_or s (next_reset s) (next_wire_end s ∷ [])
        (sound_then s (reset_of s) (λ a. sound_map s (λ (number : ℕ). action.StreamReset a.place number) (λ number. tt) (reset_code_of s a))
        (foremost is_stream_before (filter (λ (a : Attempt). is_some (reset_code_of s a)) s.attempts)))
        (plain_or s (next_wire_end s) [] wires_sound tt)))

    begun_sound : (k : Kind) → SoundIf s (begin_if s k)
    begun_sound k = sound_if s (list_any (λ (g : PolicyUse). is_same_kind g.generation.kind k) (live_policies s)) None (Some (action.PolicyBegins k)) tt tt

    policies_sound : (o : OpenEntry) → SoundIf s (of_policies o s)
    policies_sound o =
        plain_or s (next_ended ending.Shut (is_shut_down s) s) (next_retired o s ∷ next_begun o s ∷ next_given o s ∷ next_shut s ∷ next_added s ∷ []) (ended_sound ending.Shut (is_shut_down s))
        (plain_or s (next_retired o s) (next_begun o s ∷ next_given o s ∷ next_shut s ∷ next_added s ∷ [])
        (sound_map s (λ (g : PolicyUse). action.PolicyRetired g.number) (λ g. tt) (find (is_to_retire o s) s.policies))
        (plain_or s (next_begun o s) (next_given o s ∷ next_shut s ∷ next_added s ∷ []) (sound_then s (begin_if s) begun_sound (wanted_kind o s))
        (plain_or s (next_given o s) (next_shut s ∷ next_added s ∷ [])
        (sound_map s (λ (g : PolicyUse). action.AddressesGiven g.number) (λ g. tt) (find (wants_addresses o s) s.policies))
        (plain_or s (next_shut s) (next_added s ∷ []) (sound_map s (λ (b : Subchannel). action.SubchannelShut b.number) (λ b. none) (find (is_unlisted s) s.subs))
        (plain_or s (next_added s) []
        (sound_map s (λ (address : Address). action.SubchannelAdded address) (λ address. tt) (find (λ (address : Address). is_none (live_sub s address)) (listed s))) tt)))))

    -- what is due
    clock_sound : (b : Subchannel) → SoundIf s (clock_action s b)
    clock_sound b =
        sound_if s (is_too_late s b) (Some (action.ConnectTimesOut b.number)) (if is_rested s b then Some (action.BackoffEnds b.number) else None) none
        (sound_if s (is_rested s b) (Some (action.BackoffEnds b.number)) None tt tt)

    config_sound : (c : Call) → SoundIf s (config_action s c)
    config_sound c =
        sound_if s (is_to_configure s c) (Some (action.CallConfigured c.number (length s.configs))) (if lacks_config s c then Some (action.CallEnds c.number ending.NoConfig) else None) tt
        (sound_if s (lacks_config s c) (Some (action.CallEnds c.number ending.NoConfig)) None tt tt)

    due_by : (c : Call) (d : ℕ) (b : Bool) → is_some (numbered s.calls c.number) ≡ true
        → IsSound (if b then action.HedgeWithheld c.number else action.AttemptMade c.number (attempts_made c s + 1) (kind_of_next c s) d) s
    due_by c d true there = tt
    due_by c d false there = there

    due_sound : (c : Call) → is_some (numbered s.calls c.number) ≡ true → SoundIf s (due_action s c)
    due_sound c there =
        sound_if s (is_open_call c) (option_and_then (due_if_past c s) (next_due c s)) None
        (sound_then s (due_if_past c s)
        (λ d. sound_if s (nat_le d (now s)) (Some (due_attempt c s d)) None (due_by c d (is_hedge (kind_of_next c s) && not (has_tokens c s)) there) tt) (next_due c s)) tt

    linked_by : (b : Subchannel) (d : Bool) (o : Option ℕ) → b.link ≡ o → option_map_or (came_up s) o (not d) ≡ true → numbered s.subs b.number ≡ Some b
        → (not d || holds (λ (q : Subchannel). is_some q.link) (numbered s.subs b.number)) ≡ true
    linked_by b false o is up at = refl
    linked_by b true None is up at = absurd (cc)
    linked_by b true (Some n) is up at = ap (holds (λ (q : Subchannel). is_some q.link)) at ∙ ap (λ (o : Option ℕ). is_some o) is

    boards_linked : list_all (is_ready_linked s.subs) s.subs ≡ true
    boards_linked =
        all_each (is_ready_linked s.subs) s.subs
        (λ i b got.
        linked_by b (is_ready b.state) b.link refl (all_at (is_sound_sub s) s.subs (suc i) b kept.boards got) (own_number (λ (q : Subchannel). q.number) s.subs i b kept.subs got))

    asked_sound : (test : Attempt → Bool) → SoundIf s (next_asked test s)
    asked_sound test =
        let there : Attempt → Bool = λ (a : Attempt). is_some (numbered s.attempts a.place) in
        let served : Attempt → Bool = λ (a : Attempt). is_served s a && test a in
        sound_then_of s there (asking s)
        (λ a e. sound_map s (λ (g : PolicyUse). action.PickRequested a.place g.number (pick_of (policy_of g s))) (λ g. (e, pick_of_sound s g boards_linked)) (current_policy s))
        (foremost is_queued_before (filter served s.attempts))
        (all_foremost there is_queued_before (filter served s.attempts) (all_filter there served s.attempts (all_own (λ (a : Attempt). a.place) s.attempts kept.attempts)))

    settling_sound : (o : OpenEntry) → SoundIf s (of_settling o s)
    settling_sound o =
        plain_or s (next_of_clock s) (next_take_over s ∷ next_connected s ∷ first_of (config_action s) s.calls ∷ next_of_pass o s ∷ next_due_attempt s ∷ next_of_queue s ∷ Some action.EntryCloses ∷ [])
        (sound_first s (clock_action s) s.subs (λ i b got. clock_sound b))
        (plain_or s (next_take_over s) (next_connected s ∷ first_of (config_action s) s.calls ∷ next_of_pass o s ∷ next_due_attempt s ∷ next_of_queue s ∷ Some action.EntryCloses ∷ [])
        (sound_then s (λ (g : PolicyUse). if may_take_over s g then Some (action.PolicyTakesOver g.number) else None)
        (λ g. sound_if s (may_take_over s g) (Some (action.PolicyTakesOver g.number)) None tt tt) (pending_policy s))
        (plain_or s (next_connected s) (first_of (config_action s) s.calls ∷ next_of_pass o s ∷ next_due_attempt s ∷ next_of_queue s ∷ Some action.EntryCloses ∷ [])
        (sound_map s (λ (b : Subchannel). action.SubchannelConnects b.number) (λ b. tt) (find (λ (b : Subchannel). is_idle b.state && is_wished s b) s.subs))
        (plain_or s (first_of (config_action s) s.calls) (next_of_pass o s ∷ next_due_attempt s ∷ next_of_queue s ∷ Some action.EntryCloses ∷ [])
        (sound_first s (config_action s) s.calls (λ i c got. config_sound c))
        (plain_or s (next_of_pass o s) (next_due_attempt s ∷ next_of_queue s ∷ Some action.EntryCloses ∷ [])
        (sound_then s (λ (t : Turn). next_asked (is_after t) s) (λ t. asked_sound (is_after t)) o.turn)
        (plain_or s (next_due_attempt s) (next_of_queue s ∷ Some action.EntryCloses ∷ [])
        (sound_first s (due_action s) s.calls (λ i c got. due_sound c (ap is_some (own_number (λ (d : Call). d.number) s.calls i c kept.calls got))))
        (plain_or s (next_of_queue s) (Some action.EntryCloses ∷ []) (asked_sound (λ (a : Attempt). true)) tt))))))

    -- the event
    send_sound : (call : ℕ) (long accepted : Bool) (held : ℕ)
        → IsSound (if long then action.EventAnswered reply.Done else if accepted then action.MessageAccepted call else action.EventAnswered (reply.Full held)) s
    send_sound call true accepted held = tt
    send_sound call false true held = tt
    send_sound call false false held = tt

    take_sound : (call : ℕ) (o : Option Reply) → IsSound (take_action call o) s
    take_sound call None = tt
    take_sound call (Some item) = tt

    dial_sound : (o : Option Subchannel) → IsSound (option_map_or (dial_action s) o (action.EventAnswered reply.NotYet)) s
    dial_sound None = tt
    dial_sound (Some b) = tt

    event_sound : (e : Event) → refusal_of e s ≡ None → SoundIf s (event_applied e s)
    event_sound (event.Send call message) open_ =
        sound_map s (send_action call message s) (λ c. send_sound call (is_too_long message c s) (is_accepted c message s) (held_bytes c s)) (numbered s.calls call)
    event_sound (event.Take call) open_ = sound_map s (λ (c : Call). take_action call (next_item c s)) (λ c. take_sound call (next_item c s)) (numbered s.calls call)
    event_sound event.TakeDial open_ = dial_sound (find is_dialable s.subs)
    event_sound (event.LinkUp sub) open_ = up_there s.shut (numbered s.subs sub) open_
    event_sound (event.DialFailed sub) open_ = none
    event_sound _ open_ = tt

    event_by : (o : Option Refusal) (e : Event) → refusal_of e s ≡ o → SoundIf s (event_action_by o e s)
    event_by None e got = event_sound e got
    event_by (Some why) e got = tt

    -- frames
    read_by : (link : ℕ) (n : NextRead) → next_frame_read link s ≡ read_action link n → SoundIf s (read_action link n)
    read_by link nextread.Nothing e = tt
    read_by link (nextread.Frame r) e = next_reads_on s link r (counted_links 1 s.links kept.links) e
    read_by link (nextread.Broken number) e = tt

    read_if : (link : ℕ) (l : Link) (b : Bool) (n : NextRead) → next_frame_read link s ≡ (if b then read_action link n else None) → SoundIf s (if b then read_action link n else None)
    read_if link l true n e = read_by link n e
    read_if link l false n e = tt

    read_of : (link : ℕ) (o : Option Link) → numbered s.links link ≡ o → SoundIf s (option_and_then (read_next link s) o)
    read_of link None got = tt
    read_of link (Some l) got = read_if link l (is_none l.over) (next_read l s) (ap (option_and_then (read_next link s)) got)

    written_of : (link most : ℕ) (p : OpenEntry) (o : Option Link) → option_map_or (λ (l : Link). list_all is_control l.owed) o true ≡ true
        → SoundIf s (option_and_then (λ (l : Link). option_and_then (frame_to_write link most p s) (sendable l s)) o)
    written_of link most p None e = tt
    written_of link most p (Some l) e = write_sound s link most p (sendable l s) (sendable_sound l s e)

    frame_sound : (o : OpenEntry) (e : Event) → SoundIf s (frame_of_event e o s)
    frame_sound o (event.Arrived link piece) = read_of link (numbered s.links link) refl
    frame_sound o (event.Drain link most) =
        written_of link most o (numbered s.links link) (of_number (λ (l : Link). list_all is_control l.owed) s.links link (numbered s.links link) refl kept.queued)
    frame_sound o _ = tt

    stage_sound : (o : OpenEntry) (g : Stage) → SoundIf s (of_stage o s g)
    stage_sound o stage.Event =
        plain_or s (next_deadline s) (event_action o.event s ∷ [])
        (sound_map s (ending_call ending.Deadline) (λ c. tt) (foremost (is_due_before s) (filter (is_past_deadline s) s.calls)))
        (plain_or s (event_action o.event s) [] (event_by (refusal_of o.event s) o.event refl) tt)
    stage_sound o stage.Replied =
        plain_or s (frame_action o s) (Some action.SettlingBegins ∷ []) (sound_if s (is_after_event o) (frame_of_event o.event o s) None (frame_sound o o.event) tt) tt
    stage_sound o stage.Settling = settling_sound o

    rest_sound : (o : OpenEntry) → SoundIf s (first_action (of_policies o s ∷ of_stage o s o.stage ∷ []))
    rest_sound o = plain_or s (of_policies o s) (of_stage o s o.stage ∷ []) (policies_sound o) (plain_or s (of_stage o s o.stage) [] (stage_sound o o.stage) tt)

  -- first what follows at once of calls, then the pick, and then all else
  by_pick : (p later rest : Option Action) → SoundIf s p → (p ≡ None → SoundIf s later) → (p ≡ None → SoundIf s rest) → SoundIf s (option_or (option_or p later) rest)
  by_pick None later rest f g h = sound_or s later rest (g refl) (h refl)
  by_pick (Some a) later rest f g h = f

  in_sound : (o : OpenEntry) → SoundIf s (following_in s o)
  in_sound o =
      plain_or s (of_calls o s) (of_links o s ∷ of_policies o s ∷ of_stage o s o.stage ∷ []) (calls_sound o)
      (by_pick (next_of_pick s) (first_action (next_of_links s ∷ (if is_loss o.event then None else next_wire_end s) ∷ next_reset s ∷ next_wire_end s ∷ []))
      (first_action (of_policies o s ∷ of_stage o s o.stage ∷ [])) (ask_sound (last_of s.asks) kept.picked)
      (λ n. links_sound (unplacing n) o) (λ n. rest_sound (unplacing n) o))

  pub following_sound : SoundIf s (following s)
  following_sound = sound_then s (following_in s) in_sound s.current

lines_sound : (s : Seen) (a : Action) → IsKept s → following s ≡ Some a → IsSound a s
lines_sound s a kept e = subst (SoundIf s) e (following_sound s kept)

pub next_sound : (s : Seen) (a : Action) → IsKept s → IsNext a s → IsSound a s
next_sound s (action.AttemptMade call number k due) kept next = lines_sound s (action.AttemptMade call number k due) kept next
next_sound s (action.AttemptPlaced row at) kept next = lines_sound s (action.AttemptPlaced row at) kept next
next_sound s (action.AttemptEnds row end) kept next = lines_sound s (action.AttemptEnds row end) kept next
next_sound s (action.PickRequested row g answer) kept next = lines_sound s (action.PickRequested row g answer) kept next
next_sound s (action.SubchannelShut sub) kept next = lines_sound s (action.SubchannelShut sub) kept next
next_sound s (action.DialFails sub) kept next = lines_sound s (action.DialFails sub) kept next
next_sound s (action.ConnectTimesOut sub) kept next = lines_sound s (action.ConnectTimesOut sub) kept next
next_sound s (action.LinkDown sub) kept next = lines_sound s (action.LinkDown sub) kept next
next_sound s (action.LinkUp sub) kept next = lines_sound s (action.LinkUp sub) kept next
next_sound s (action.SettingsArrive sub) kept next = lines_sound s (action.SettingsArrive sub) kept next
next_sound s (action.FrameRead link r) kept next = lines_sound s (action.FrameRead link r) kept next
next_sound s (action.FrameWritten link x) kept next = lines_sound s (action.FrameWritten link x) kept next
next_sound s _ kept next = tt
