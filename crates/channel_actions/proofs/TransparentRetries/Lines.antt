-- The lines of a session give only actions of which they say that: an attempt is retried transparently where it wants that, and is placed on a link that takes streams.
use Rattle.channel_actions.proofs.KeptSessions.Lines.{unplacing}
use Rattle.attempt_ledger.specs.Hedging.{is_hedge}
use Rattle.attempt_ledger.specs.TransparentRows.{is_unsent}
use Rattle.attempt_ledger.specs.declared.ledger.Ask.{Ask}
use Rattle.attempt_ledger.specs.declared.row.Placed.{Placed}
use Rattle.attempt_ledger.specs.declared.row.Row.{Row}
use Rattle.channel_actions.proofs.KeptSessions.Lists.{counted_places, own_number}
use Rattle.channel_actions.proofs.KeptSessions.Sound.{is_place, is_placing}
use Rattle.channel_actions.proofs.TransparentRetries.Fits.{AreTaking, FitsRetried, IsUnsentOn, is_closed, is_taking, names_taking}
use Rattle.channel_actions.proofs.TransparentRetries.Responses.{ends_sent}
use Rattle.channel_actions.specs.KeptSessions.Kept.{IsKept}
use Rattle.grpc_base.specs.declared.address.Address.{Address}
use Rattle.grpc_base.specs.declared.event.EndCause.TheVariants as ending
use Rattle.grpc_base.specs.declared.event.EndCause.{EndCause}
use Rattle.grpc_base.specs.declared.event.Event.TheVariants as event
use Rattle.grpc_base.specs.declared.event.Event.{Event}
use Rattle.grpc_base.specs.declared.event.Refusal.{Refusal}
use Rattle.grpc_base.specs.declared.event.Reply.TheVariants as reply
use Rattle.grpc_base.specs.declared.event.Reply.{Reply}
use Rattle.grpc_base.specs.declared.kind.Kind.{Kind}
use Rattle.grpc_base.specs.declared.kind.Pick.TheVariants as pick
use Rattle.grpc_base.specs.declared.kind.Pick.{Pick}
use Rattle.lb_policy.specs.Table.{pick_of}
use Rattle.link_actions.proofs.ReaderActions.Placed.{pick}
use Rattle.session_actions.specs.Actions.{config_action, first_action, following, following_in, of_calls, of_links, of_policies, of_settling, of_stage}
use Rattle.session_actions.specs.AttemptEnds.{cut, cut_end, end_of, lost_end, next_cut, next_reset, next_wire_end, outcome_of, outcome_on, reset_code_of, reset_of, unsent_end, wire_end}
use Rattle.session_actions.specs.Attempts.{is_outstanding, is_over, wants_follower}
use Rattle.session_actions.specs.CallEnds.{ending_call, has_long_request, has_long_response, is_after_event, is_cancelled, is_due_before, is_over_by_row, is_past_deadline, is_shut_down, lacks_config, next_deadline, next_ended}
use Rattle.session_actions.specs.Calls.{is_open_call}
use Rattle.session_actions.specs.Commitments.{committing, is_final_end, is_headed, is_inherited, next_final, next_headed, next_inherited, next_overflow, overflow_row}
use Rattle.session_actions.specs.Configs.{is_to_configure, is_too_long}
use Rattle.session_actions.specs.Deliveries.{held_bytes, is_accepted, next_item, send_action, take_action}
use Rattle.session_actions.specs.DueAttempts.{attempts_made, kind_of_next, next_due}
use Rattle.session_actions.specs.Entries.{entry, now}
use Rattle.session_actions.specs.Events.{event_action, event_action_by, event_applied, frame_action, frame_of_event, is_loss}
use Rattle.session_actions.specs.Links.{is_stream_before}
use Rattle.session_actions.specs.Making.{due_action, due_attempt, due_if_past, next_due_attempt, next_transparent, transparent_retry}
use Rattle.session_actions.specs.Policies.{asking, begin_if, current_policy, follow_ask, follow_pick, is_after, is_queued_before, is_same_kind, is_served, is_to_retire, is_unfollowed, listed, live_policies, live_sub, may_take_over, next_asked, next_begun, next_given, next_of_pass, next_of_pick, next_of_queue, next_retired, next_take_over, pending_policy, placed_on, policy_of, wanted_kind, wants_addresses}
use Rattle.session_actions.specs.Reading.{next_read}
use Rattle.session_actions.specs.Refusals.{refusal_of}
use Rattle.session_actions.specs.Responses.{response}
use Rattle.session_actions.specs.Sessions.{IsNext}
use Rattle.session_actions.specs.Subchannels.{clock_action, dial_action, is_dialable, is_going_down, is_idle, is_rested, is_to_be_ready, is_to_go_down, is_too_late, is_unlisted, is_wished, link_action, next_added, next_connected, next_of_clock, next_of_links, next_shut}
use Rattle.session_actions.specs.Tokens.{has_tokens}
use Rattle.session_actions.specs.Words.{first_of, foremost, holds, last_of, numbered}
use Rattle.session_actions.specs.Writing.{fits_drain, frame_to_write, read_action, read_next, sendable}
use Rattle.session_actions.specs.declared.action.Action.TheVariants as action
use Rattle.session_actions.specs.declared.action.Action.{Action}
use Rattle.session_actions.specs.declared.action.CommitCause.TheVariants as commit
use Rattle.session_actions.specs.declared.attempt.Attempt.{Attempt}
use Rattle.session_actions.specs.declared.call.Call.{Call}
use Rattle.session_actions.specs.declared.entry.OpenEntry.{OpenEntry}
use Rattle.session_actions.specs.declared.entry.Stage.TheVariants as stage
use Rattle.session_actions.specs.declared.entry.Stage.{Stage}
use Rattle.session_actions.specs.declared.entry.Turn.{Turn}
use Rattle.session_actions.specs.declared.link.Link.{Link}
use Rattle.session_actions.specs.declared.link.NextRead.TheVariants as nextread
use Rattle.session_actions.specs.declared.link.NextRead.{NextRead}
use Rattle.session_actions.specs.declared.policy.PolicyUse.{PolicyUse}
use Rattle.session_actions.specs.declared.response.Outcome.{Outcome}
use Rattle.session_actions.specs.declared.response.Response.{Response}
use Rattle.session_actions.specs.declared.seen.Seen.{Seen}
use Rattle.session_actions.specs.declared.subchannel.Subchannel.{Subchannel}
use Rattle.session_order.proofs.SessionLaws.Found.{AtSome, find_at, found_passes}
use Rattle.std.proofs.Common.{ap, inl, inr, subst, sym, ◌∙◌}
use Rattle.std.proofs.lemmas.Bool.{and_from}
use Rattle.std.specs.List.{list_any}
use Rattle.std.specs.Option.{option_map_or, option_or}
use Rattle.std.specs.Prelude.{Bool, List, None, Option, Some, [], false, filter, find, if◌then◌else◌, is_none, is_some, length, nat_le, not, option_and_then, option_map, refl, slice_get, suc, true, unwrap_or, ℕ, ◌&&◌, ◌+◌, ◌==◌, ◌∷◌, ◌≡◌}

-- what a line gives, if it gives anything
abbrev FitsIf : Seen → Option Action → Type 0
FitsIf s None = Unit {0}
FitsIf s (Some a) = FitsRetried a s

fit_or : (s : Seen) (o p : Option Action) → FitsIf s o → FitsIf s p → FitsIf s (option_or o p)
fit_or s None p f g = g
fit_or s (Some a) p f g = f

fit_map : {X : Type 0} (s : Seen) (f : X → Action) → ((x : X) → FitsRetried (f x) s) → (o : Option X) → FitsIf s (option_map f o)
fit_map s f each None = tt
fit_map s f each (Some x) = each x

fit_then : {X : Type 0} (s : Seen) (f : X → Option Action) → ((x : X) → FitsIf s (f x)) → (o : Option X) → FitsIf s (option_and_then f o)
fit_then s f each None = tt
fit_then s f each (Some x) = each x

fit_first : {X : Type 0} (s : Seen) (f : X → Option Action) (xs : List X) → ((i : ℕ) (x : X) → slice_get xs i ≡ Some x → FitsIf s (f x)) → FitsIf s (first_of f xs)
fit_first s f [] each = tt
fit_first s f (x ∷ xs) each = fit_or s (f x) (first_of f xs) (each 0 x refl) (fit_first s f xs (λ i y got. each (suc i) y got))

fit_if : (s : Seen) (b : Bool) (o p : Option Action) → FitsIf s o → FitsIf s p → FitsIf s (if b then o else p)
fit_if s true o p f g = f
fit_if s false o p f g = g

plain_or : (s : Seen) (o : Option Action) (rest : List (Option Action)) → FitsIf s o → FitsIf s (first_action rest) → FitsIf s (first_action (o ∷ rest))
plain_or s o rest f g = fit_or s o (first_action rest) f g

one_of : {X : Type 0} (o : Option X) (x y : X) → o ≡ Some x → o ≡ Some y → x ≡ y
one_of None x y e f = absurd (cc)
one_of (Some z) x y e f = (cc)

one_end : (x y : Outcome) → Some x ≡ Some y → x ≡ y
one_end x y e = (cc)

-- an attempt that the wire ends, and that never left the client
never_sent : (a : Attempt) (s : Seen) (l : Link) (t : Outcome) (b : Bool) → is_going_down l ≡ b → (if b then Some unsent_end else None) ≡ Some t → is_going_down l ≡ true
never_sent a s l t true e f = e
never_sent a s l t false e f = absurd (cc)

sent_by : (o : Option Outcome) (b : Bool) (t : Outcome) → holds (λ (x : Outcome). is_unsent x.cause) o ≡ false → option_or o (if b then Some lost_end else None) ≡ Some t → is_unsent t.cause ≡ true → ⊥
sent_by (Some x) b t none e unsent =
    let one : x ≡ t = one_end x t e in
    let no : false ≡ true = sym none ∙ (ap (λ (y : Outcome). is_unsent y.cause) one ∙ unsent) in (cc)
sent_by None true t none e unsent =
    let one : lost_end ≡ t = one_end lost_end t e in
    let no : false ≡ true = ap (λ (y : Outcome). is_unsent y.cause) one ∙ unsent in (cc)
sent_by None false t none e unsent = (cc)

unsent_on : (a : Attempt) (s : Seen) (l : Link) (q : Option ℕ) (t : Outcome) → outcome_on a s q l ≡ Some t → is_unsent t.cause ≡ true → (q ≡ None) × (is_going_down l ≡ true)
unsent_on a s l None t e unsent = (refl, never_sent a s l t (is_going_down l) refl e)
unsent_on a s l (Some n) t e unsent = absurd (sent_by (response a s).end (is_some l.over) t (ends_sent a s) e unsent)

unsent_at : (a : Attempt) (s : Seen) (at : Placed) (q : Option ℕ) (t : Outcome) (o : Option Link) → numbered s.links at.link ≡ o → option_and_then (outcome_on a s q) o ≡ Some t
    → is_unsent t.cause ≡ true → (q ≡ None) × (is_closed s.links at.link ≡ true)
unsent_at a s at q t None got e unsent = absurd (cc)
unsent_at a s at q t (Some l) got e unsent =
    let both : (q ≡ None) × (is_going_down l ≡ true) = unsent_on a s l q t e unsent in (both.0, ap (holds is_going_down) got ∙ both.1)

unsent_of : (a : Attempt) (s : Seen) (p : Option Placed) (q : Option ℕ) (t : Outcome)
    → option_and_then (outcome_on a s q) (option_and_then (λ (at : Placed). numbered s.links at.link) p) ≡ Some t → is_unsent t.cause ≡ true → IsUnsentOn s.links q p
unsent_of a s None q t e unsent = absurd (cc)
unsent_of a s (Some at) q t e unsent = unsent_at a s at q t (numbered s.links at.link) refl e unsent

-- the link of a subchannel that was picked
on_taking : (links : List Link) (o : Option ℕ) → holds (is_taking links) o ≡ true → is_taking links (unwrap_or o 0) ≡ true
on_taking links None e = absurd (cc)
on_taking links (Some k) e = e

module _ (s : Seen) (kept : IsKept s) (taking : AreTaking s) where
  own_at : (i : ℕ) (a : Attempt) → slice_get s.attempts i ≡ Some a → numbered s.attempts a.place ≡ Some a
  own_at i a got = own_number (λ (z : Attempt). z.place) s.attempts i a kept.attempts got

  cut_fits : (a : Attempt) → FitsIf s (cut s a)
  cut_fits a =
      fit_if s (is_outstanding a && is_over a s) (Some (action.AttemptEnds a.place (end_of a cut_end s))) None
      (λ b here unsent. absurd (let no : false ≡ true = unsent in (cc))) tt

  wire_by : (a : Attempt) (o : Option Outcome) → numbered s.attempts a.place ≡ Some a → outcome_of a s ≡ o
      → FitsIf s (option_map (λ (t : Outcome). action.AttemptEnds a.place (end_of a t s)) o)
  wire_by a None own e = tt
  wire_by a (Some t) own e = λ b here unsent.
      (let same : a ≡ b = one_of (numbered s.attempts a.place) a b own here in
      subst (λ (z : Attempt). IsUnsentOn s.links z.row.stream z.row.placed) same (unsent_of a s a.row.placed a.row.stream t e unsent))

  wire_fits : (i : ℕ) (a : Attempt) → slice_get s.attempts i ≡ Some a → FitsIf s (wire_end s a)
  wire_fits i a got =
      fit_if s (is_outstanding a && not (is_over a s)) (option_map (λ (t : Outcome). action.AttemptEnds a.place (end_of a t s)) (outcome_of a s)) None
      (wire_by a (outcome_of a s) (own_at i a got) refl) tt

  wires_fit : FitsIf s (next_wire_end s)
  wires_fit = fit_first s (wire_end s) s.attempts wire_fits

  -- the answer of a pick request
  place_fits : (ask : Ask) (a : Attempt) (o : Option Subchannel) → numbered s.attempts a.place ≡ Some a → is_unfollowed a ≡ true
      → holds (λ (b : Subchannel). holds (is_taking s.links) b.link) o ≡ true → FitsIf s (option_map (λ (b : Subchannel). action.AttemptPlaced a.place (placed_on ask s b)) o)
  place_fits ask a None own waits e = tt
  place_fits ask a (Some b) own waits e = (
    on_taking s.links b.link e,
    λ q here. ap (λ (z : Attempt). is_unfollowed z) (one_of (numbered s.attempts a.place) q a here own) ∙ waits,
  )

  pick_fits : (ask : Ask) (a : Attempt) (p : Pick) → numbered s.attempts a.place ≡ Some a → is_unfollowed a ≡ true
      → (is_place p ≡ true → names_taking s.links s.subs p ≡ true) → FitsIf s (follow_pick ask s a p)
  pick_fits ask a (pick.Place sub) own waits e = place_fits ask a (numbered s.subs sub) own waits (e refl)
  pick_fits ask a pick.Fail own waits e = λ b here unsent. absurd (let no : false ≡ true = unsent in (cc))
  pick_fits ask a pick.Wait own waits e = tt

  follow_by : (ask : Ask) (a : Attempt) (u w : Bool) → numbered s.attempts a.place ≡ Some a → is_unfollowed a ≡ u
      → ((u && w) ≡ true → is_place ask.answer ≡ true → names_taking s.links s.subs ask.answer ≡ true) → FitsIf s (if u && w then follow_pick ask s a ask.answer else None)
  follow_by ask a true true own waits e = pick_fits ask a ask.answer own waits (e refl)
  follow_by ask a true false own waits e = tt
  follow_by ask a false w own waits e = tt

  follow_of : (ask : Ask) (o : Option Attempt) → last_of s.asks ≡ Some ask → numbered s.attempts ask.row ≡ o
      → FitsIf s (option_and_then (λ (a : Attempt). if is_unfollowed a && (ask.entry == entry s) then follow_pick ask s a ask.answer else None) o)
  follow_of ask None last got = tt
  follow_of ask (Some a) last got =
      let here : a.place ≡ ask.row = counted_places (λ (z : Attempt). z.place) s.attempts kept.attempts ask.row a got in
      follow_by ask a (is_unfollowed a) (ask.entry == entry s) (ap (numbered s.attempts) here ∙ got) refl
      (λ waits place.
      taking ask last
      (and_from (holds (λ (z : Attempt). is_unfollowed z && (ask.entry == entry s)) (numbered s.attempts ask.row)) (is_place ask.answer)
      (ap (holds (λ (z : Attempt). is_unfollowed z && (ask.entry == entry s))) got ∙ waits) place))

  ask_fits : (o : Option Ask) → last_of s.asks ≡ o → FitsIf s (option_and_then (follow_ask s) o)
  ask_fits None last = tt
  ask_fits (Some ask) last = follow_of ask (numbered s.attempts ask.row) last refl

  -- calls
  ended_fits : (why : EndCause) (test : Call → Bool) → FitsIf s (next_ended why test s)
  ended_fits why test = fit_map s (ending_call why) (λ c. tt) (find test s.calls)

  retried_fits : (o : Option Attempt) → find (λ (a : Attempt). wants_follower a s) s.attempts ≡ o → FitsIf s (option_map (transparent_retry s) o)
  retried_fits None e = tt
  retried_fits (Some a) e =
      let found : AtSome s.attempts a = find_at (λ (x : Attempt). wants_follower x s) s.attempts a e in
      inl (record {
        index = found.index;
        here = a;
        there = found.here;
        call = refl;
        number = refl;
        wants = found_passes (λ (x : Attempt). wants_follower x s) s.attempts a e;
      })

  abbrev after_cuts : OpenEntry → List (Option Action)
  after_cuts o = next_inherited s ∷ next_ended ending.Row (is_over_by_row s) s ∷ next_final s ∷ next_ended ending.Cancelled (is_cancelled o) s
      ∷ next_ended ending.Request (has_long_request o s) s ∷ next_overflow s ∷ next_headed s ∷ next_ended ending.Response (has_long_response s) s ∷ []

  calls_fit : (o : OpenEntry) → FitsIf s (of_calls o s)
  calls_fit o =
      plain_or s (next_cut s) (next_transparent s ∷ after_cuts o) (fit_first s (cut s) s.attempts (λ i a got. cut_fits a))
      (plain_or s (next_transparent s) (after_cuts o) (retried_fits (find (λ (a : Attempt). wants_follower a s) s.attempts) refl)
      (plain_or s (next_inherited s) (next_ended ending.Row (is_over_by_row s) s ∷ next_final s ∷ next_ended ending.Cancelled (is_cancelled o) s
      ∷ next_ended ending.Request (has_long_request o s) s ∷ next_overflow s ∷ next_headed s ∷ next_ended ending.Response (has_long_response s) s ∷ [])
      (fit_map s (committing commit.Inherited) (λ a. tt) (find (is_inherited s) s.attempts))
      (plain_or s (next_ended ending.Row (is_over_by_row s) s) (next_final s ∷ next_ended ending.Cancelled (is_cancelled o) s
      ∷ next_ended ending.Request (has_long_request o s) s ∷ next_overflow s ∷ next_headed s ∷ next_ended ending.Response (has_long_response s) s ∷ [])
      (ended_fits ending.Row (is_over_by_row s))
      (plain_or s (next_final s) (next_ended ending.Cancelled (is_cancelled o) s
      ∷ next_ended ending.Request (has_long_request o s) s ∷ next_overflow s ∷ next_headed s ∷ next_ended ending.Response (has_long_response s) s ∷ [])
      (fit_map s (committing commit.Final) (λ a. tt) (find (is_final_end s) s.attempts))
      (plain_or s (next_ended ending.Cancelled (is_cancelled o) s) (next_ended ending.Request (has_long_request o s) s ∷ next_overflow s ∷ next_headed s
      ∷ next_ended ending.Response (has_long_response s) s ∷ []) (ended_fits ending.Cancelled (is_cancelled o))
      (plain_or s (next_ended ending.Request (has_long_request o s) s) (next_overflow s ∷ next_headed s ∷ next_ended ending.Response (has_long_response s) s ∷ [])
      (ended_fits ending.Request (has_long_request o s))
      (plain_or s (next_overflow s) (next_headed s ∷ next_ended ending.Response (has_long_response s) s ∷ [])
      (fit_map s (committing commit.Overflow) (λ a. tt) (first_of (overflow_row s) s.calls))
      (plain_or s (next_headed s) (next_ended ending.Response (has_long_response s) s ∷ [])
      (fit_map s (committing commit.Head) (λ a. tt) (find (is_headed s) s.attempts))
      (plain_or s (next_ended ending.Response (has_long_response s) s) [] (ended_fits ending.Response (has_long_response s)) tt)))))))))

  -- all else only where no answer is to be acted on
  module _ (none : is_placing s ≡ false) where
    link_fits : (b : Subchannel) → FitsIf s (link_action s b)
    link_fits b =
        fit_if s (is_to_be_ready s b) (Some (action.SettingsArrive b.number)) (if is_to_go_down s b then Some (action.LinkDown b.number) else None) none
        (fit_if s (is_to_go_down s b) (Some (action.LinkDown b.number)) None none tt)

    loss_fits : (b : Bool) → FitsIf s (if b then None else next_wire_end s)
    loss_fits true = tt
    loss_fits false = wires_fit

    links_fit : (o : OpenEntry) → FitsIf s (first_action (next_of_links s ∷ (if is_loss o.event then None else next_wire_end s) ∷ next_reset s ∷ next_wire_end s ∷ []))
    links_fit o =
        plain_or s (next_of_links s) ((if is_loss o.event then None else next_wire_end s) ∷ next_reset s ∷ next_wire_end s ∷ [])
        (fit_first s (link_action s) s.subs (λ i b got. link_fits b))
        (plain_or s (if is_loss o.event then None else next_wire_end s) (next_reset s ∷ next_wire_end s ∷ []) (loss_fits (is_loss o.event))
        (plain_or s (next_reset s) (next_wire_end s ∷ [])
        (fit_then s (reset_of s) (λ a. fit_map s (λ (number : ℕ). action.StreamReset a.place number) (λ number. none) (reset_code_of s a))
        (foremost is_stream_before (filter (λ (a : Attempt). is_some (reset_code_of s a)) s.attempts)))
        (plain_or s (next_wire_end s) [] wires_fit tt)))

    begun_fits : (k : Kind) → FitsIf s (begin_if s k)
    begun_fits k = fit_if s (list_any (λ (g : PolicyUse). is_same_kind g.generation.kind k) (live_policies s)) None (Some (action.PolicyBegins k)) tt none

    policies_fit : (o : OpenEntry) → FitsIf s (of_policies o s)
    policies_fit o =
        plain_or s (next_ended ending.Shut (is_shut_down s) s) (next_retired o s ∷ next_begun o s ∷ next_given o s ∷ next_shut s ∷ next_added s ∷ []) (ended_fits ending.Shut (is_shut_down s))
        (plain_or s (next_retired o s) (next_begun o s ∷ next_given o s ∷ next_shut s ∷ next_added s ∷ [])
        (fit_map s (λ (g : PolicyUse). action.PolicyRetired g.number) (λ g. none) (find (is_to_retire o s) s.policies))
        (plain_or s (next_begun o s) (next_given o s ∷ next_shut s ∷ next_added s ∷ []) (fit_then s (begin_if s) begun_fits (wanted_kind o s))
        (plain_or s (next_given o s) (next_shut s ∷ next_added s ∷ [])
        (fit_map s (λ (g : PolicyUse). action.AddressesGiven g.number) (λ g. none) (find (wants_addresses o s) s.policies))
        (plain_or s (next_shut s) (next_added s ∷ []) (fit_map s (λ (b : Subchannel). action.SubchannelShut b.number) (λ b. none) (find (is_unlisted s) s.subs))
        (plain_or s (next_added s) []
        (fit_map s (λ (address : Address). action.SubchannelAdded address) (λ address. none) (find (λ (address : Address). is_none (live_sub s address)) (listed s))) tt)))))

    -- what is due
    clock_fits : (b : Subchannel) → FitsIf s (clock_action s b)
    clock_fits b =
        fit_if s (is_too_late s b) (Some (action.ConnectTimesOut b.number)) (if is_rested s b then Some (action.BackoffEnds b.number) else None) none
        (fit_if s (is_rested s b) (Some (action.BackoffEnds b.number)) None none tt)

    config_fits : (c : Call) → FitsIf s (config_action s c)
    config_fits c =
        fit_if s (is_to_configure s c) (Some (action.CallConfigured c.number (length s.configs))) (if lacks_config s c then Some (action.CallEnds c.number ending.NoConfig) else None) none
        (fit_if s (lacks_config s c) (Some (action.CallEnds c.number ending.NoConfig)) None tt tt)

    due_by : (i : ℕ) (c : Call) (d : ℕ) (b : Bool) → slice_get s.calls i ≡ Some c
        → FitsRetried (if b then action.HedgeWithheld c.number else action.AttemptMade c.number (attempts_made c s + 1) (kind_of_next c s) d) s
    due_by i c d true got = none
    due_by i c d false got = inr (record { index = i; here = c; there = got; is = refl; number = refl })

    due_fits : (i : ℕ) (c : Call) → slice_get s.calls i ≡ Some c → FitsIf s (due_action s c)
    due_fits i c got =
        fit_if s (is_open_call c) (option_and_then (due_if_past c s) (next_due c s)) None
        (fit_then s (due_if_past c s)
        (λ d. fit_if s (nat_le d (now s)) (Some (due_attempt c s d)) None (due_by i c d (is_hedge (kind_of_next c s) && not (has_tokens c s)) got) tt) (next_due c s)) tt

    asked_fits : (test : Attempt → Bool) → FitsIf s (next_asked test s)
    asked_fits test =
        fit_then s (asking s) (λ a. fit_map s (λ (g : PolicyUse). action.PickRequested a.place g.number (pick_of (policy_of g s))) (λ g. none) (current_policy s))
        (foremost is_queued_before (filter (λ (a : Attempt). is_served s a && test a) s.attempts))

    settling_fits : (o : OpenEntry) → FitsIf s (of_settling o s)
    settling_fits o =
        plain_or s (next_of_clock s) (next_take_over s ∷ next_connected s ∷ first_of (config_action s) s.calls ∷ next_of_pass o s ∷ next_due_attempt s ∷ next_of_queue s ∷ Some action.EntryCloses ∷ [])
        (fit_first s (clock_action s) s.subs (λ i b got. clock_fits b))
        (plain_or s (next_take_over s) (next_connected s ∷ first_of (config_action s) s.calls ∷ next_of_pass o s ∷ next_due_attempt s ∷ next_of_queue s ∷ Some action.EntryCloses ∷ [])
        (fit_then s (λ (g : PolicyUse). if may_take_over s g then Some (action.PolicyTakesOver g.number) else None)
        (λ g. fit_if s (may_take_over s g) (Some (action.PolicyTakesOver g.number)) None none tt) (pending_policy s))
        (plain_or s (next_connected s) (first_of (config_action s) s.calls ∷ next_of_pass o s ∷ next_due_attempt s ∷ next_of_queue s ∷ Some action.EntryCloses ∷ [])
        (fit_map s (λ (b : Subchannel). action.SubchannelConnects b.number) (λ b. none) (find (λ (b : Subchannel). is_idle b.state && is_wished s b) s.subs))
        (plain_or s (first_of (config_action s) s.calls) (next_of_pass o s ∷ next_due_attempt s ∷ next_of_queue s ∷ Some action.EntryCloses ∷ [])
        (fit_first s (config_action s) s.calls (λ i c got. config_fits c))
        (plain_or s (next_of_pass o s) (next_due_attempt s ∷ next_of_queue s ∷ Some action.EntryCloses ∷ [])
        (fit_then s (λ (t : Turn). next_asked (is_after t) s) (λ t. asked_fits (is_after t)) o.turn)
        (plain_or s (next_due_attempt s) (next_of_queue s ∷ Some action.EntryCloses ∷ []) (fit_first s (due_action s) s.calls due_fits)
        (plain_or s (next_of_queue s) (Some action.EntryCloses ∷ []) (asked_fits (λ (a : Attempt). true)) none))))))

    -- the event
    send_fits : (call : ℕ) (long accepted : Bool) (held : ℕ)
        → FitsRetried (if long then action.EventAnswered reply.Done else if accepted then action.MessageAccepted call else action.EventAnswered (reply.Full held)) s
    send_fits call true accepted held = none
    send_fits call false true held = none
    send_fits call false false held = none

    take_fits : (call : ℕ) (o : Option Reply) → FitsRetried (take_action call o) s
    take_fits call None = none
    take_fits call (Some item) = none

    dial_fits : (o : Option Subchannel) → FitsRetried (option_map_or (dial_action s) o (action.EventAnswered reply.NotYet)) s
    dial_fits None = none
    dial_fits (Some b) = none

    event_fits : (e : Event) → FitsIf s (event_applied e s)
    event_fits (event.Send call message) =
        fit_map s (send_action call message s) (λ c. send_fits call (is_too_long message c s) (is_accepted c message s) (held_bytes c s)) (numbered s.calls call)
    event_fits (event.Take call) = fit_map s (λ (c : Call). take_action call (next_item c s)) (λ c. take_fits call (next_item c s)) (numbered s.calls call)
    event_fits event.TakeDial = dial_fits (find is_dialable s.subs)
    event_fits _ = none

    event_by : (o : Option Refusal) (e : Event) → FitsIf s (event_action_by o e s)
    event_by None e = event_fits e
    event_by (Some why) e = none

    -- frames
    read_fits : (link : ℕ) (n : NextRead) → FitsIf s (read_action link n)
    read_fits link nextread.Nothing = tt
    read_fits link (nextread.Frame r) = none
    read_fits link (nextread.Broken number) = none

    frame_fits : (o : OpenEntry) (e : Event) → FitsIf s (frame_of_event e o s)
    frame_fits o (event.Arrived link piece) =
        fit_then s (read_next link s) (λ l. fit_if s (is_none l.over) (read_action link (next_read l s)) None (read_fits link (next_read l s)) tt) (numbered s.links link)
    frame_fits o (event.Drain link most) =
        fit_then s (λ (l : Link). option_and_then (frame_to_write link most o s) (sendable l s))
        (λ l. fit_then s (frame_to_write link most o s) (λ x. fit_if s (fits_drain most o x) (Some (action.FrameWritten link x)) None none tt) (sendable l s)) (numbered s.links link)
    frame_fits o _ = tt

    stage_fits : (o : OpenEntry) (g : Stage) → FitsIf s (of_stage o s g)
    stage_fits o stage.Event =
        plain_or s (next_deadline s) (event_action o.event s ∷ [])
        (fit_map s (ending_call ending.Deadline) (λ c. tt) (foremost (is_due_before s) (filter (is_past_deadline s) s.calls)))
        (plain_or s (event_action o.event s) [] (event_by (refusal_of o.event s) o.event) tt)
    stage_fits o stage.Replied =
        plain_or s (frame_action o s) (Some action.SettlingBegins ∷ []) (fit_if s (is_after_event o) (frame_of_event o.event o s) None (frame_fits o o.event) tt) none
    stage_fits o stage.Settling = settling_fits o

    rest_fits : (o : OpenEntry) → FitsIf s (first_action (of_policies o s ∷ of_stage o s o.stage ∷ []))
    rest_fits o = plain_or s (of_policies o s) (of_stage o s o.stage ∷ []) (policies_fit o) (plain_or s (of_stage o s o.stage) [] (stage_fits o o.stage) tt)

  -- first what follows at once of calls, then the pick, and then all else
  by_pick : (p later rest : Option Action) → FitsIf s p → (p ≡ None → FitsIf s later) → (p ≡ None → FitsIf s rest) → FitsIf s (option_or (option_or p later) rest)
  by_pick None later rest f g h = fit_or s later rest (g refl) (h refl)
  by_pick (Some a) later rest f g h = f

  in_fits : (o : OpenEntry) → FitsIf s (following_in s o)
  in_fits o =
      plain_or s (of_calls o s) (of_links o s ∷ of_policies o s ∷ of_stage o s o.stage ∷ []) (calls_fit o)
      (by_pick (next_of_pick s) (first_action (next_of_links s ∷ (if is_loss o.event then None else next_wire_end s) ∷ next_reset s ∷ next_wire_end s ∷ []))
      (first_action (of_policies o s ∷ of_stage o s o.stage ∷ [])) (ask_fits (last_of s.asks) refl)
      (λ n. links_fit (unplacing s kept n) o) (λ n. rest_fits (unplacing s kept n) o))

  pub following_fits : FitsIf s (following s)
  following_fits = fit_then s (following_in s) in_fits s.current

lines_fit : (s : Seen) (a : Action) → IsKept s → AreTaking s → following s ≡ Some a → FitsRetried a s
lines_fit s a kept taking e = subst (FitsIf s) e (following_fits s kept taking)

pub next_fits : (s : Seen) (a : Action) → IsKept s → AreTaking s → IsNext a s → FitsRetried a s
next_fits s (action.EntryOpens posted word e) kept taking next = tt
next_fits s a kept taking next = lines_fit s a kept taking next
