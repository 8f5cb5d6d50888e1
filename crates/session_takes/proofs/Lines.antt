-- The lines of a session give only actions of which they say that (`IsMeant`).
use Rattle.attempt_ledger.specs.Ends.{is_cut}
use Rattle.attempt_ledger.specs.Hedging.{is_hedge}
use Rattle.attempt_ledger.specs.declared.ledger.Ask.{Ask}
use Rattle.attempt_ledger.specs.declared.row.RowEnd.{RowEnd}
use Rattle.grpc_base.specs.declared.address.Address.{Address}
use Rattle.grpc_base.specs.declared.event.EndCause.{EndCause}
use Rattle.grpc_base.specs.declared.event.Event.{Event}
use Rattle.grpc_base.specs.declared.event.Refusal.{Refusal}
use Rattle.grpc_base.specs.declared.event.Reply.{Reply}
use Rattle.grpc_base.specs.declared.kind.Kind.{Kind}
use Rattle.grpc_base.specs.declared.kind.Pick.{Pick}
use Rattle.lb_policy.specs.Table.{pick_of}
use Rattle.session_actions.specs.Actions.{config_action, first_action, following, following_in, of_calls, of_links, of_policies, of_settling, of_stage}
use Rattle.session_actions.specs.AttemptEnds.{cut, cut_end, end_of, next_cut, next_reset, next_wire_end, outcome_of, pick_end, reset_code_of, reset_of, wire_end}
use Rattle.session_actions.specs.Attempts.{call_of, commitment, counts_by, is_counted, is_followed, is_of, is_outstanding, is_over, of_its_call, wants_follower, wants_follower_by}
use Rattle.session_actions.specs.CallEnds.{cancels, ending_call, has_long_request, has_long_response, is_after_event, is_cancelled, is_due_before, is_over_by_row, is_past_deadline, is_shut_down, lacks_config, next_deadline, next_ended, sends_too_long}
use Rattle.session_actions.specs.Calls.{is_open_call}
use Rattle.session_actions.specs.Commitments.{committing, furthest, has_head_in, is_final_end, is_final_in, is_free_call, is_further, is_headed, is_inherited, is_inherited_by, is_inherited_in, next_final, next_headed, next_inherited, next_overflow, overflow_row}
use Rattle.session_actions.specs.Configs.{deadline, held_config, is_to_configure, is_too_long, is_unconfigured, waits_for_ready}
use Rattle.session_actions.specs.Deliveries.{held_bytes, is_accepted, is_by_row, next_item, send_action, take_action}
use Rattle.session_actions.specs.DueAttempts.{attempts_made, is_final, kind_of_next, next_due}
use Rattle.session_actions.specs.Entries.{entry, now}
use Rattle.session_actions.specs.Events.{event_action, event_action_by, event_applied, frame_action, frame_of_event, is_loss}
use Rattle.session_actions.specs.Links.{is_stream_before}
use Rattle.session_actions.specs.Making.{due_action, due_attempt, due_if_past, next_due_attempt, next_transparent, transparent_retry}
use Rattle.session_actions.specs.Policies.{asking, begin_if, current_policy, follow_ask, follow_pick, is_after, is_queued_before, is_same_kind, is_served, is_to_retire, is_unfollowed, listed, live_policies, live_sub, may_take_over, next_asked, next_begun, next_given, next_of_pass, next_of_pick, next_of_queue, next_retired, next_take_over, pending_policy, placed_on, policy_of, wanted_kind, wants_addresses}
use Rattle.session_actions.specs.Reading.{next_read}
use Rattle.session_actions.specs.Refusals.{refusal_of}
use Rattle.session_actions.specs.Responses.{response}
use Rattle.session_actions.specs.Sessions.{IsNext}
use Rattle.session_actions.specs.Subchannels.{clock_action, dial_action, is_dialable, is_idle, is_rested, is_to_be_ready, is_to_go_down, is_too_late, is_unlisted, is_wished, link_action, next_added, next_connected, next_of_clock, next_of_links, next_shut}
use Rattle.session_actions.specs.Tokens.{has_tokens}
use Rattle.session_actions.specs.Words.{first_of, foremost, holds, last_of, numbered}
use Rattle.session_actions.specs.Writing.{accepted_bytes, fits_drain, frame_to_write, read_action, read_next, sendable}
use Rattle.session_actions.specs.declared.action.Action.{Action}
use Rattle.session_actions.specs.declared.action.CommitCause.{CommitCause}
use Rattle.session_actions.specs.declared.attempt.Attempt.{Attempt}
use Rattle.session_actions.specs.declared.call.Call.{Call}
use Rattle.session_actions.specs.declared.entry.OpenEntry.{OpenEntry}
use Rattle.session_actions.specs.declared.entry.Stage.{Stage}
use Rattle.session_actions.specs.declared.entry.Turn.{Turn}
use Rattle.session_actions.specs.declared.link.Link.{Link}
use Rattle.session_actions.specs.declared.link.NextRead.{NextRead}
use Rattle.session_actions.specs.declared.policy.PolicyUse.{PolicyUse}
use Rattle.session_actions.specs.declared.response.Outcome.{Outcome}
use Rattle.session_actions.specs.declared.seen.Seen.{Seen}
use Rattle.session_actions.specs.declared.subchannel.Subchannel.{Subchannel}
use Rattle.session_order.proofs.SessionLaws.Found.{AtFiltered, AtFirst, AtSome, filter_at, find_at, first_at, foremost_at, found_passes, none_of}
use Rattle.session_order.specs.Order.{IsInPlace}
use Rattle.session_takes.proofs.Meant.{IsMeant}
use Rattle.std.proofs.Common.{Bool, List, None, Option, Some, [], ap, false, filter, find, if◌then◌else◌, inl, inr, is_none, is_some, length, nat_le, nat_lt, not, refl, slice_get, subst, suc, sym, true, ℕ, ◌&&◌, ◌+◌, ◌==◌, ◌||◌, ◌∙◌, ◌∷◌, ◌≡◌, ◌⊎◌}
use Rattle.std.proofs.lemmas.Bool.{and_parts, eqb-true}
use Rattle.std.specs.List.{list_any}
use Rattle.std.specs.Option.{option_map, option_map_or, option_or}
use Rattle.std.specs.Prelude.{option_and_then}
use Rattle.session_actions.specs.declared.action.Action.TheVariants as action
use Rattle.session_actions.specs.declared.action.CommitCause.TheVariants as commit
use Rattle.grpc_base.specs.declared.event.EndCause.TheVariants as ending
use Rattle.grpc_base.specs.declared.event.Event.TheVariants as event
use Rattle.session_actions.specs.declared.link.NextRead.TheVariants as nextread
use Rattle.grpc_base.specs.declared.kind.Pick.TheVariants as pick
use Rattle.grpc_base.specs.declared.event.Reply.TheVariants as reply
use Rattle.session_actions.specs.declared.entry.Stage.TheVariants as stage

-- what a line gives, if it gives anything
abbrev MeantIf : Seen → Option Action → Type 0
MeantIf s None = Unit {0}
MeantIf s (Some a) = IsMeant a s

meant_or : (s : Seen) (o p : Option Action) → MeantIf s o → MeantIf s p → MeantIf s (option_or o p)
meant_or s None p f g = g
meant_or s (Some a) p f g = f

meant_map : {X : Type 0} (s : Seen) (f : X → Action) → ((x : X) → IsMeant (f x) s) → (o : Option X) → MeantIf s (option_map f o)
meant_map s f each None = tt
meant_map s f each (Some x) = each x

-- of something that was found
meant_of : {X : Type 0} (s : Seen) (f : X → Action) (o p : Option X) → p ≡ o → ((x : X) → p ≡ Some x → IsMeant (f x) s) → MeantIf s (option_map f o)
meant_of s f None p e each = tt
meant_of s f (Some x) p e each = each x e

meant_then : {X : Type 0} (s : Seen) (f : X → Option Action) → ((x : X) → MeantIf s (f x)) → (o : Option X) → MeantIf s (option_and_then f o)
meant_then s f each None = tt
meant_then s f each (Some x) = each x

meant_first : {X : Type 0} (s : Seen) (f : X → Option Action) (xs : List X) → ((i : ℕ) (x : X) → slice_get xs i ≡ Some x → MeantIf s (f x)) → MeantIf s (first_of f xs)
meant_first s f [] each = tt
meant_first s f (x ∷ xs) each = meant_or s (f x) (first_of f xs) (each 0 x refl) (meant_first s f xs (λ i y got. each (suc i) y got))

meant_if : (s : Seen) (b : Bool) (o p : Option Action) → MeantIf s o → MeantIf s p → MeantIf s (if b then o else p)
meant_if s true o p f g = f
meant_if s false o p f g = g

meant_when : (s : Seen) (b : Bool) (o p : Option Action) → (b ≡ true → MeantIf s o) → MeantIf s p → MeantIf s (if b then o else p)
meant_when s true o p f g = f refl
meant_when s false o p f g = g

plain_or : (s : Seen) (o : Option Action) (rest : List (Option Action)) → MeantIf s o → MeantIf s (first_action rest) → MeantIf s (first_action (o ∷ rest))
plain_or s o rest f g = meant_or s o (first_action rest) f g

not_so : (b : Bool) → not b ≡ true → b ≡ false
not_so true e = absurd (cc)
not_so false e = refl

-- a test that holds of a thing that is there
pub holds_some : {X : Type 0} (p : X → Bool) (o : Option X) → holds p o ≡ true → (x : X) × (o ≡ Some x) × (p x ≡ true)
holds_some p None e = absurd (cc)
holds_some p (Some x) e = (x, refl, e)

module _ (s : Seen) (place : IsInPlace s) where
  own_at : (i : ℕ) (a : Attempt) → slice_get s.attempts i ≡ Some a → numbered s.attempts a.place ≡ Some a
  own_at i a got = ap (numbered s.attempts) (place.attempts (suc i) a got) ∙ got

  call_at : (i : ℕ) (c : Call) → slice_get s.calls i ≡ Some c → numbered s.calls c.number ≡ Some c
  call_at i c got = ap (numbered s.calls) (place.calls (suc i) c got) ∙ got

  -- attempts that end
  end_meant : (a : Attempt) (t : Outcome) → numbered s.attempts a.place ≡ Some a → is_none a.row.ended ≡ true → IsMeant (action.AttemptEnds a.place (end_of a t s)) s
  end_meant a t own unended = record { here = a; there = own; goes_on = none_of a.row.ended unended; outcome = t; is = refl }

  cut_meant : (i : ℕ) (a : Attempt) → slice_get s.attempts i ≡ Some a → MeantIf s (cut s a)
  cut_meant i a got =
      meant_when s (is_outstanding a && is_over a s) (Some (action.AttemptEnds a.place (end_of a cut_end s))) None
      (λ e.
      end_meant a cut_end (own_at i a got)
      (and_parts (is_some a.row.placed) (is_none a.row.ended) (and_parts (is_outstanding a) (is_over a s) e).0).1) tt

  wire_meant : (i : ℕ) (a : Attempt) → slice_get s.attempts i ≡ Some a → MeantIf s (wire_end s a)
  wire_meant i a got =
      meant_when s (is_outstanding a && not (is_over a s)) (option_map (λ (t : Outcome). action.AttemptEnds a.place (end_of a t s)) (outcome_of a s)) None
      (λ e.
      meant_map s (λ (t : Outcome). action.AttemptEnds a.place (end_of a t s))
      (λ t. end_meant a t (own_at i a got) (and_parts (is_some a.row.placed) (is_none a.row.ended) (and_parts (is_outstanding a) (not (is_over a s)) e).0).1)
      (outcome_of a s)) tt

  wires_meant : MeantIf s (next_wire_end s)
  wires_meant = meant_first s (wire_end s) s.attempts wire_meant

  -- the answer of a pick request
  pick_meant : (ask : Ask) (a : Attempt) (p : Pick) → numbered s.attempts a.place ≡ Some a → is_unfollowed a ≡ true → MeantIf s (follow_pick ask s a p)
  pick_meant ask a (pick.Place sub) own waits =
      meant_map s (λ (b : Subchannel). action.AttemptPlaced a.place (placed_on ask s b))
      (λ b. record { here = a; there = own; waits = none_of a.row.placed (and_parts (is_none a.row.placed) (is_none a.row.ended) waits).0 })
      (numbered s.subs sub)
  pick_meant ask a pick.Fail own waits = end_meant a pick_end own (and_parts (is_none a.row.placed) (is_none a.row.ended) waits).1
  pick_meant ask a pick.Wait own waits = tt

  follow_meant : (ask : Ask) (o : Option Attempt) → numbered s.attempts ask.row ≡ o
      → MeantIf s (option_and_then (λ (a : Attempt). if is_unfollowed a && (ask.entry == entry s) then follow_pick ask s a ask.answer else None) o)
  follow_meant ask None got = tt
  follow_meant ask (Some a) got =
      meant_when s (is_unfollowed a && (ask.entry == entry s)) (follow_pick ask s a ask.answer) None
      (λ e.
      pick_meant ask a ask.answer (ap (numbered s.attempts) (place.attempts ask.row a got) ∙ got)
      (and_parts (is_unfollowed a) (ask.entry == entry s) e).0) tt

  ask_meant : (ask : Ask) → MeantIf s (follow_ask s ask)
  ask_meant ask = follow_meant ask (numbered s.attempts ask.row) refl

  -- calls
  ended_at : (why : EndCause) (c : Call) → AtSome s.calls c → is_open_call c ≡ true
      → (is_by_row why ≡ true → holds (λ (k : Attempt). is_counted k s) (commitment c s) ≡ true) → IsMeant (action.CallEnds c.number why) s
  ended_at why c f goes by = record { here = c; there = call_at f.index c f.here; goes_on = none_of c.end goes; by_row = by }

  ended_meant : (why : EndCause) (test : Call → Bool) → ((c : Call) → test c ≡ true → is_open_call c ≡ true)
      → ((c : Call) → test c ≡ true → is_by_row why ≡ true → holds (λ (k : Attempt). is_counted k s) (commitment c s) ≡ true) → MeantIf s (next_ended why test s)
  ended_meant why test goes by =
      meant_of s (ending_call why) (find test s.calls) (find test s.calls) refl
      (λ c e. ended_at why c (find_at test s.calls c e) (goes c (found_passes test s.calls c e)) (by c (found_passes test s.calls c e)))

  retried_meant : (o : Option Attempt) → find (λ (a : Attempt). wants_follower a s) s.attempts ≡ o → MeantIf s (option_map (transparent_retry s) o)
  retried_meant None e = tt
  retried_meant (Some a) e =
      let found : AtSome s.attempts a = find_at (λ (x : Attempt). wants_follower x s) s.attempts a e in
      inl (record {
        index = found.index;
        here = a;
        there = found.here;
        call = refl;
        number = refl;
        wants = found_passes (λ (x : Attempt). wants_follower x s) s.attempts a e;
      })

  -- commitments
  free_parts : (c : Call) → is_free_call s c ≡ true → (c.end ≡ None) × (commitment c s ≡ None)
  free_parts c e = let both : (is_none c.end ≡ true) × (is_none (commitment c s) ≡ true) = and_parts (is_none c.end) (is_none (commitment c s)) e in
      (none_of c.end both.0, none_of (commitment c s) both.1)

  first_meant : (why : CommitCause) (a : Attempt) (c : Call) → numbered s.attempts a.place ≡ Some a → numbered s.calls a.row.call ≡ Some c → is_free_call s c ≡ true
      → (a.row.ended ≡ None) ⊎ (is_followed a s ≡ false) → IsMeant (action.CallCommitted a.place why) s
  first_meant why a c own its free last =
      let both : (c.end ≡ None) × (commitment c s ≡ None) = free_parts c free in
      record { here = a; there = own; call = c; its = its; goes_on = both.0; joins = inl (record { free = both.1; last = last }) }

  inherited_meant : (a : Attempt) → find (is_inherited s) s.attempts ≡ Some a → IsMeant (action.CallCommitted a.place commit.Inherited) s
  inherited_meant a e =
      let f : AtSome s.attempts a = find_at (is_inherited s) s.attempts a e in
      let both : (is_none a.row.committed ≡ true) × (of_its_call (is_inherited_in a s) a s ≡ true)
      = and_parts (is_none a.row.committed) (of_its_call (is_inherited_in a s) a s) (found_passes (is_inherited s) s.attempts a e) in
      let c : (c : Call) × (call_of a s ≡ Some c) × (is_inherited_in a s c ≡ true) = holds_some (is_inherited_in a s) (call_of a s) both.1 in
      let p : (is_none c.0.end ≡ true) × (holds (is_inherited_by a) (commitment c.0 s) ≡ true) = and_parts (is_none c.0.end) (holds (is_inherited_by a) (commitment c.0 s)) c.2 in
      let k : (k : Attempt) × (commitment c.0 s ≡ Some k) × (is_inherited_by a k ≡ true) = holds_some (is_inherited_by a) (commitment c.0 s) p.1 in
      record {
        here = a;
        there = own_at f.index a f.here;
        call = c.0;
        its = c.1;
        goes_on = none_of c.0.end p.0;
        joins = inr (record { before = k.0; committed = k.1; follows = k.2 });
      }

  counted_last : (a : Attempt) → is_counted a s ≡ true → is_followed a s ≡ false
  counted_last a e =
      let h : (x : RowEnd) × (a.row.ended ≡ Some x) × (counts_by a s x ≡ true) = holds_some (counts_by a s) a.row.ended e in
      not_so (is_followed a s)
      (and_parts (not (is_cut h.0.cause)) (not (is_followed a s))
      (and_parts (not (is_cut h.0.cause) && not (is_followed a s)) (not (wants_follower_by a s h.0)) h.2).0).1

  final_meant : (a : Attempt) → find (is_final_end s) s.attempts ≡ Some a → IsMeant (action.CallCommitted a.place commit.Final) s
  final_meant a e =
      let f : AtSome s.attempts a = find_at (is_final_end s) s.attempts a e in
      let c : (c : Call) × (call_of a s ≡ Some c) × (is_final_in a s c ≡ true) = holds_some (λ (d : Call). is_final_in a s d) (call_of a s) (found_passes (is_final_end s) s.attempts a e) in
      let p : ((is_free_call s c.0 && is_counted a s) ≡ true) × (is_final c.0 a s ≡ true) = and_parts (is_free_call s c.0 && is_counted a s) (is_final c.0 a s) c.2 in
      let q : (is_free_call s c.0 ≡ true) × (is_counted a s ≡ true) = and_parts (is_free_call s c.0) (is_counted a s) p.0 in
      first_meant commit.Final a c.0 (own_at f.index a f.here) c.1 q.0 (inr (counted_last a q.1))

  headed_meant : (a : Attempt) → find (is_headed s) s.attempts ≡ Some a → IsMeant (action.CallCommitted a.place commit.Head) s
  headed_meant a e =
      let f : AtSome s.attempts a = find_at (is_headed s) s.attempts a e in
      let both : (is_outstanding a ≡ true) × (of_its_call (has_head_in a s) a s ≡ true)
      = and_parts (is_outstanding a) (of_its_call (has_head_in a s) a s) (found_passes (is_headed s) s.attempts a e) in
      let c : (c : Call) × (call_of a s ≡ Some c) × (has_head_in a s c ≡ true) = holds_some (has_head_in a s) (call_of a s) both.1 in
      let p : (is_free_call s c.0 ≡ true) × (is_some (response a s).head ≡ true) = and_parts (is_free_call s c.0) (is_some (response a s).head) c.2 in
      first_meant commit.Head a c.0 (own_at f.index a f.here) c.1 p.0 (inl (none_of a.row.ended (and_parts (is_some a.row.placed) (is_none a.row.ended) both.0).1))

  overflow_by : (i : ℕ) (c : Call) (a : Attempt) (b : Bool) → slice_get s.calls i ≡ Some c → (is_free_call s c && nat_lt 262144 (accepted_bytes c)) ≡ b
      → (if b then furthest c s else None) ≡ Some a → IsMeant (action.CallCommitted a.place commit.Overflow) s
  overflow_by i c a false got is e = absurd (let bad : None ≡ Some a = e in (cc))
  overflow_by i c a true got is e =
      let test : Attempt → Bool = λ (x : Attempt). is_of c x && is_outstanding x in
      let f : AtSome (filter test s.attempts) a = foremost_at (is_further s) (filter test s.attempts) a e in
      let h : AtFiltered test s.attempts a = filter_at test s.attempts f.index a f.here in
      let both : (is_of c a ≡ true) × (is_outstanding a ≡ true) = and_parts (is_of c a) (is_outstanding a) h.passes in
      let free : is_free_call s c ≡ true = (and_parts (is_free_call s c) (nat_lt 262144 (accepted_bytes c)) is).0 in
      first_meant commit.Overflow a c (own_at h.at.index a h.at.here) (ap (numbered s.calls) (eqb-true a.row.call c.number both.0) ∙ call_at i c got) free
      (inl (none_of a.row.ended (and_parts (is_some a.row.placed) (is_none a.row.ended) both.1).1))

  overflowed_meant : (a : Attempt) → first_of (overflow_row s) s.calls ≡ Some a → IsMeant (action.CallCommitted a.place commit.Overflow) s
  overflowed_meant a e =
      let f : AtFirst (overflow_row s) s.calls a = first_at (overflow_row s) s.calls a e in
      overflow_by f.index f.item a (is_free_call s f.item && nat_lt 262144 (accepted_bytes f.item)) f.here refl f.gives

  never : (why : EndCause) (c : Call) → is_by_row why ≡ false → is_by_row why ≡ true → holds (λ (k : Attempt). is_counted k s) (commitment c s) ≡ true
  never why c other is = absurd (let bad : false ≡ true = sym other ∙ is in (cc))

  abbrev after_cuts : OpenEntry → List (Option Action)
  after_cuts o = next_inherited s ∷ next_ended ending.Row (is_over_by_row s) s ∷ next_final s ∷ next_ended ending.Cancelled (is_cancelled o) s
      ∷ next_ended ending.Request (has_long_request o s) s ∷ next_overflow s ∷ next_headed s ∷ next_ended ending.Response (has_long_response s) s ∷ []

  cancelled_open : (o : OpenEntry) (c : Call) → is_cancelled o c ≡ true → is_open_call c ≡ true
  cancelled_open o c e = (and_parts (is_open_call c) (is_after_event o) (and_parts (is_open_call c && is_after_event o) (cancels o.event c.number) e).0).0

  calls_meant : (o : OpenEntry) → MeantIf s (of_calls o s)
  calls_meant o =
      plain_or s (next_cut s) (next_transparent s ∷ after_cuts o) (meant_first s (cut s) s.attempts cut_meant)
      (plain_or s (next_transparent s) (after_cuts o) (retried_meant (find (λ (a : Attempt). wants_follower a s) s.attempts) refl)
      (plain_or s (next_inherited s) (next_ended ending.Row (is_over_by_row s) s ∷ next_final s ∷ next_ended ending.Cancelled (is_cancelled o) s
      ∷ next_ended ending.Request (has_long_request o s) s ∷ next_overflow s ∷ next_headed s ∷ next_ended ending.Response (has_long_response s) s ∷ [])
      (meant_of s (committing commit.Inherited) (find (is_inherited s) s.attempts) (find (is_inherited s) s.attempts) refl inherited_meant)
      (plain_or s (next_ended ending.Row (is_over_by_row s) s) (next_final s ∷ next_ended ending.Cancelled (is_cancelled o) s
      ∷ next_ended ending.Request (has_long_request o s) s ∷ next_overflow s ∷ next_headed s ∷ next_ended ending.Response (has_long_response s) s ∷ [])
      (ended_meant ending.Row (is_over_by_row s)
      (λ c e. (and_parts (is_open_call c) (holds (λ (k : Attempt). is_counted k s) (commitment c s)) e).0)
      (λ c e is. (and_parts (is_open_call c) (holds (λ (k : Attempt). is_counted k s) (commitment c s)) e).1))
      (plain_or s (next_final s) (next_ended ending.Cancelled (is_cancelled o) s
      ∷ next_ended ending.Request (has_long_request o s) s ∷ next_overflow s ∷ next_headed s ∷ next_ended ending.Response (has_long_response s) s ∷ [])
      (meant_of s (committing commit.Final) (find (is_final_end s) s.attempts) (find (is_final_end s) s.attempts) refl final_meant)
      (plain_or s (next_ended ending.Cancelled (is_cancelled o) s) (next_ended ending.Request (has_long_request o s) s ∷ next_overflow s ∷ next_headed s
      ∷ next_ended ending.Response (has_long_response s) s ∷ [])
      (ended_meant ending.Cancelled (is_cancelled o) (cancelled_open o) (λ c e is. never ending.Cancelled c refl is))
      (plain_or s (next_ended ending.Request (has_long_request o s) s) (next_overflow s ∷ next_headed s ∷ next_ended ending.Response (has_long_response s) s ∷ [])
      (ended_meant ending.Request (has_long_request o s)
      (λ c e. (and_parts (is_open_call c) (list_any (λ (m : List ℕ). is_too_long m c s) c.messages || (is_after_event o && sends_too_long o.event c s)) e).0)
      (λ c e is. never ending.Request c refl is))
      (plain_or s (next_overflow s) (next_headed s ∷ next_ended ending.Response (has_long_response s) s ∷ [])
      (meant_of s (committing commit.Overflow) (first_of (overflow_row s) s.calls) (first_of (overflow_row s) s.calls) refl overflowed_meant)
      (plain_or s (next_headed s) (next_ended ending.Response (has_long_response s) s ∷ [])
      (meant_of s (committing commit.Head) (find (is_headed s) s.attempts) (find (is_headed s) s.attempts) refl headed_meant)
      (plain_or s (next_ended ending.Response (has_long_response s) s) []
      (ended_meant ending.Response (has_long_response s)
      (λ c e. (and_parts (is_open_call c) (holds (λ (k : Attempt). is_outstanding k && (response k s).large) (commitment c s)) e).0)
      (λ c e is. never ending.Response c refl is)) tt)))))))))

  link_meant : (b : Subchannel) → MeantIf s (link_action s b)
  link_meant b =
      meant_if s (is_to_be_ready s b) (Some (action.SettingsArrive b.number)) (if is_to_go_down s b then Some (action.LinkDown b.number) else None) tt
      (meant_if s (is_to_go_down s b) (Some (action.LinkDown b.number)) None tt tt)

  loss_meant : (b : Bool) → MeantIf s (if b then None else next_wire_end s)
  loss_meant true = tt
  loss_meant false = wires_meant

  links_meant : (o : OpenEntry) → MeantIf s (of_links o s)
  links_meant o =
      plain_or s (next_of_pick s) (next_of_links s ∷ (if is_loss o.event then None else next_wire_end s) ∷ next_reset s ∷ next_wire_end s ∷ [])
      (meant_then s (follow_ask s) ask_meant (last_of s.asks))
      (plain_or s (next_of_links s) ((if is_loss o.event then None else next_wire_end s) ∷ next_reset s ∷ next_wire_end s ∷ [])
      (meant_first s (link_action s) s.subs (λ i b got. link_meant b))
      (plain_or s (if is_loss o.event then None else next_wire_end s) (next_reset s ∷ next_wire_end s ∷ []) (loss_meant (is_loss o.event))
      (plain_or s (next_reset s) (next_wire_end s ∷ [])
      (meant_then s (reset_of s) (λ a. meant_map s (λ (number : ℕ). action.StreamReset a.place number) (λ number. tt) (reset_code_of s a))
      (foremost is_stream_before (filter (λ (a : Attempt). is_some (reset_code_of s a)) s.attempts)))
      (plain_or s (next_wire_end s) [] wires_meant tt))))

  begun_meant : (k : Kind) → MeantIf s (begin_if s k)
  begun_meant k = meant_if s (list_any (λ (g : PolicyUse). is_same_kind g.generation.kind k) (live_policies s)) None (Some (action.PolicyBegins k)) tt tt

  policies_meant : (o : OpenEntry) → MeantIf s (of_policies o s)
  policies_meant o =
      plain_or s (next_ended ending.Shut (is_shut_down s) s) (next_retired o s ∷ next_begun o s ∷ next_given o s ∷ next_shut s ∷ next_added s ∷ [])
      (ended_meant ending.Shut (is_shut_down s) (λ c e. (and_parts (is_open_call c) s.shut e).0) (λ c e is. never ending.Shut c refl is))
      (plain_or s (next_retired o s) (next_begun o s ∷ next_given o s ∷ next_shut s ∷ next_added s ∷ [])
      (meant_map s (λ (g : PolicyUse). action.PolicyRetired g.number) (λ g. tt) (find (is_to_retire o s) s.policies))
      (plain_or s (next_begun o s) (next_given o s ∷ next_shut s ∷ next_added s ∷ []) (meant_then s (begin_if s) begun_meant (wanted_kind o s))
      (plain_or s (next_given o s) (next_shut s ∷ next_added s ∷ [])
      (meant_map s (λ (g : PolicyUse). action.AddressesGiven g.number) (λ g. tt) (find (wants_addresses o s) s.policies))
      (plain_or s (next_shut s) (next_added s ∷ []) (meant_map s (λ (b : Subchannel). action.SubchannelShut b.number) (λ b. tt) (find (is_unlisted s) s.subs))
      (plain_or s (next_added s) []
      (meant_map s (λ (address : Address). action.SubchannelAdded address) (λ address. tt) (find (λ (address : Address). is_none (live_sub s address)) (listed s))) tt)))))

  -- what is due
  clock_meant : (b : Subchannel) → MeantIf s (clock_action s b)
  clock_meant b =
      meant_if s (is_too_late s b) (Some (action.ConnectTimesOut b.number)) (if is_rested s b then Some (action.BackoffEnds b.number) else None) tt
      (meant_if s (is_rested s b) (Some (action.BackoffEnds b.number)) None tt tt)

  config_meant : (i : ℕ) (c : Call) → slice_get s.calls i ≡ Some c → MeantIf s (config_action s c)
  config_meant i c got =
      meant_when s (is_to_configure s c) (Some (action.CallConfigured c.number (length s.configs))) (if lacks_config s c then Some (action.CallEnds c.number ending.NoConfig) else None)
      (λ e.
      (let p : ((is_none c.end && is_none c.config) ≡ true) × (is_some (held_config s) ≡ true) = and_parts (is_none c.end && is_none c.config) (is_some (held_config s)) e in
      let q : (is_none c.end ≡ true) × (is_none c.config ≡ true) = and_parts (is_none c.end) (is_none c.config) p.0 in
      record { here = c; there = call_at i c got; goes_on = none_of c.end q.0; none = none_of c.config q.1 }))
      (meant_when s (lacks_config s c) (Some (action.CallEnds c.number ending.NoConfig)) None
      (λ e.
      (let p : ((is_open_call c && is_unconfigured s) ≡ true) × (not (waits_for_ready c s) ≡ true) = and_parts (is_open_call c && is_unconfigured s) (not (waits_for_ready c s)) e in
      ended_at ending.NoConfig c (record { index = i; here = got }) (and_parts (is_open_call c) (is_unconfigured s) p.0).0 (λ is. never ending.NoConfig c refl is))) tt)

  due_by : (i : ℕ) (c : Call) (d : ℕ) (b : Bool) → slice_get s.calls i ≡ Some c
      → IsMeant (if b then action.HedgeWithheld c.number else action.AttemptMade c.number (attempts_made c s + 1) (kind_of_next c s) d) s
  due_by i c d true got = tt
  due_by i c d false got = inr (record { index = i; here = c; there = got; is = refl; number = refl })

  due_meant : (i : ℕ) (c : Call) → slice_get s.calls i ≡ Some c → MeantIf s (due_action s c)
  due_meant i c got =
      meant_if s (is_open_call c) (option_and_then (due_if_past c s) (next_due c s)) None
      (meant_then s (due_if_past c s)
      (λ d. meant_if s (nat_le d (now s)) (Some (due_attempt c s d)) None (due_by i c d (is_hedge (kind_of_next c s) && not (has_tokens c s)) got) tt) (next_due c s)) tt

  asked_meant : (test : Attempt → Bool) → MeantIf s (next_asked test s)
  asked_meant test =
      meant_then s (asking s) (λ a. meant_map s (λ (g : PolicyUse). action.PickRequested a.place g.number (pick_of (policy_of g s))) (λ g. tt) (current_policy s))
      (foremost is_queued_before (filter (λ (a : Attempt). is_served s a && test a) s.attempts))

  settling_meant : (o : OpenEntry) → MeantIf s (of_settling o s)
  settling_meant o =
      plain_or s (next_of_clock s) (next_take_over s ∷ next_connected s ∷ first_of (config_action s) s.calls ∷ next_of_pass o s ∷ next_due_attempt s ∷ next_of_queue s ∷ Some action.EntryCloses ∷ [])
      (meant_first s (clock_action s) s.subs (λ i b got. clock_meant b))
      (plain_or s (next_take_over s) (next_connected s ∷ first_of (config_action s) s.calls ∷ next_of_pass o s ∷ next_due_attempt s ∷ next_of_queue s ∷ Some action.EntryCloses ∷ [])
      (meant_then s (λ (g : PolicyUse). if may_take_over s g then Some (action.PolicyTakesOver g.number) else None)
      (λ g. meant_if s (may_take_over s g) (Some (action.PolicyTakesOver g.number)) None tt tt) (pending_policy s))
      (plain_or s (next_connected s) (first_of (config_action s) s.calls ∷ next_of_pass o s ∷ next_due_attempt s ∷ next_of_queue s ∷ Some action.EntryCloses ∷ [])
      (meant_map s (λ (b : Subchannel). action.SubchannelConnects b.number) (λ b. tt) (find (λ (b : Subchannel). is_idle b.state && is_wished s b) s.subs))
      (plain_or s (first_of (config_action s) s.calls) (next_of_pass o s ∷ next_due_attempt s ∷ next_of_queue s ∷ Some action.EntryCloses ∷ [])
      (meant_first s (config_action s) s.calls config_meant)
      (plain_or s (next_of_pass o s) (next_due_attempt s ∷ next_of_queue s ∷ Some action.EntryCloses ∷ [])
      (meant_then s (λ (t : Turn). next_asked (is_after t) s) (λ t. asked_meant (is_after t)) o.turn)
      (plain_or s (next_due_attempt s) (next_of_queue s ∷ Some action.EntryCloses ∷ [])
      (meant_first s (due_action s) s.calls due_meant)
      (plain_or s (next_of_queue s) (Some action.EntryCloses ∷ []) (asked_meant (λ (a : Attempt). true)) tt))))))

  -- the event
  send_meant : (call : ℕ) (long accepted : Bool) (held : ℕ)
      → IsMeant (if long then action.EventAnswered reply.Done else if accepted then action.MessageAccepted call else action.EventAnswered (reply.Full held)) s
  send_meant call true accepted held = tt
  send_meant call false true held = tt
  send_meant call false false held = tt

  take_meant : (call : ℕ) (o : Option Reply) → IsMeant (take_action call o) s
  take_meant call None = tt
  take_meant call (Some item) = tt

  dial_meant : (o : Option Subchannel) → IsMeant (option_map_or (dial_action s) o (action.EventAnswered reply.NotYet)) s
  dial_meant None = tt
  dial_meant (Some b) = tt

  event_meant : (e : Event) → MeantIf s (event_applied e s)
  event_meant (event.Send call message) =
      meant_map s (send_action call message s) (λ c. send_meant call (is_too_long message c s) (is_accepted c message s) (held_bytes c s)) (numbered s.calls call)
  event_meant (event.Take call) = meant_map s (λ (c : Call). take_action call (next_item c s)) (λ c. take_meant call (next_item c s)) (numbered s.calls call)
  event_meant event.TakeDial = dial_meant (find is_dialable s.subs)
  event_meant _ = tt

  event_by : (o : Option Refusal) (e : Event) → MeantIf s (event_action_by o e s)
  event_by None e = event_meant e
  event_by (Some why) e = tt

  -- frames
  read_meant : (link : ℕ) (n : NextRead) → MeantIf s (read_action link n)
  read_meant link nextread.Nothing = tt
  read_meant link (nextread.Frame r) = tt
  read_meant link (nextread.Broken number) = tt

  frame_meant : (o : OpenEntry) (e : Event) → MeantIf s (frame_of_event e o s)
  frame_meant o (event.Arrived link piece) =
      meant_then s (read_next link s) (λ l. meant_if s (is_none l.over) (read_action link (next_read l s)) None (read_meant link (next_read l s)) tt) (numbered s.links link)
  frame_meant o (event.Drain link most) =
      meant_then s (λ (l : Link). option_and_then (frame_to_write link most o s) (sendable l s))
      (λ l. meant_then s (frame_to_write link most o s) (λ x. meant_if s (fits_drain most o x) (Some (action.FrameWritten link x)) None tt tt) (sendable l s)) (numbered s.links link)
  frame_meant o _ = tt

  past_meant : (c : Call) → foremost (is_due_before s) (filter (is_past_deadline s) s.calls) ≡ Some c → IsMeant (action.CallEnds c.number ending.Deadline) s
  past_meant c e =
      let f : AtSome (filter (is_past_deadline s) s.calls) c = foremost_at (is_due_before s) (filter (is_past_deadline s) s.calls) c e in
      let h : AtFiltered (is_past_deadline s) s.calls c = filter_at (is_past_deadline s) s.calls f.index c f.here in
      ended_at ending.Deadline c h.at (and_parts (is_open_call c) (holds (λ (t : ℕ). nat_le t (now s)) (deadline c s)) h.passes).0 (λ is. never ending.Deadline c refl is)

  stage_meant : (o : OpenEntry) (g : Stage) → MeantIf s (of_stage o s g)
  stage_meant o stage.Event =
      plain_or s (next_deadline s) (event_action o.event s ∷ [])
      (meant_of s (ending_call ending.Deadline) (foremost (is_due_before s) (filter (is_past_deadline s) s.calls)) (foremost (is_due_before s) (filter (is_past_deadline s) s.calls)) refl past_meant)
      (plain_or s (event_action o.event s) [] (event_by (refusal_of o.event s) o.event) tt)
  stage_meant o stage.Replied =
      plain_or s (frame_action o s) (Some action.SettlingBegins ∷ []) (meant_if s (is_after_event o) (frame_of_event o.event o s) None (frame_meant o o.event) tt) tt
  stage_meant o stage.Settling = settling_meant o

  in_meant : (o : OpenEntry) → MeantIf s (following_in s o)
  in_meant o =
      plain_or s (of_calls o s) (of_links o s ∷ of_policies o s ∷ of_stage o s o.stage ∷ []) (calls_meant o)
      (plain_or s (of_links o s) (of_policies o s ∷ of_stage o s o.stage ∷ []) (links_meant o)
      (plain_or s (of_policies o s) (of_stage o s o.stage ∷ []) (policies_meant o) (plain_or s (of_stage o s o.stage) [] (stage_meant o o.stage) tt)))

  pub following_meant : MeantIf s (following s)
  following_meant = meant_then s (following_in s) in_meant s.current

lines_mean : (s : Seen) (a : Action) → IsInPlace s → following s ≡ Some a → IsMeant a s
lines_mean s a place e = subst (MeantIf s) e (following_meant s place)

pub next_meant : (s : Seen) (a : Action) → IsInPlace s → IsNext a s → IsMeant a s
next_meant s (action.AttemptMade call number k due) place next = lines_mean s (action.AttemptMade call number k due) place next
next_meant s (action.AttemptEnds row e) place next = lines_mean s (action.AttemptEnds row e) place next
next_meant s (action.AttemptPlaced row at) place next = lines_mean s (action.AttemptPlaced row at) place next
next_meant s (action.CallCommitted row why) place next = lines_mean s (action.CallCommitted row why) place next
next_meant s (action.CallEnds call why) place next = lines_mean s (action.CallEnds call why) place next
next_meant s (action.CallConfigured call config) place next = lines_mean s (action.CallConfigured call config) place next
next_meant s _ place next = tt
