-- The lines of a session give only what is fair: an attempt that ends has not ended, and a call that gets a config has none.
use Rattle.attempt_ledger.specs.Hedging.{is_hedge}
use Rattle.attempt_ledger.specs.declared.ledger.Ask.{Ask}
use Rattle.attempt_ledger.specs.declared.row.RowEnd.{RowEnd}
use Rattle.call_actions.proofs.CallsApart.Acts.{at_place, others_stay}
use Rattle.call_actions.proofs.CallsApart.Books.{books_stay}
use Rattle.call_actions.proofs.CallsApart.Parts.{joins, same_apart}
use Rattle.call_actions.specs.CallsApart.Apart.{CallsAreNumbered, IsApart, IsBook, IsFair}
use Rattle.call_actions.specs.CallsApart.Laws.{ActionsAreOfOthers, BooksAlong, LinesAreFair, OthersAlong}
use Rattle.grpc_base.specs.declared.address.Address.{Address}
use Rattle.grpc_base.specs.declared.event.EndCause.TheVariants as ending
use Rattle.grpc_base.specs.declared.event.EndCause.{EndCause}
use Rattle.grpc_base.specs.declared.event.Event.TheVariants as event
use Rattle.grpc_base.specs.declared.event.Event.{Event}
use Rattle.grpc_base.specs.declared.event.Refusal.{Refusal}
use Rattle.grpc_base.specs.declared.event.Reply.TheVariants as reply
use Rattle.grpc_base.specs.declared.event.Reply.{Reply}
use Rattle.grpc_base.specs.declared.kind.Kind.{Kind}
use Rattle.grpc_base.specs.declared.kind.Pick.TheVariants as pick
use Rattle.grpc_base.specs.declared.kind.Pick.{Pick}
use Rattle.lb_policy.specs.Table.{pick_of}
use Rattle.session_actions.specs.Actions.{after, config_action, first_action, following, following_in, of_calls, of_links, of_policies, of_settling, of_stage}
use Rattle.session_actions.specs.AttemptEnds.{cut, cut_end, end_of, next_cut, next_reset, next_wire_end, outcome_of, pick_end, reset_code_of, reset_of, wire_end}
use Rattle.session_actions.specs.Attempts.{is_outstanding, is_over, wants_follower}
use Rattle.session_actions.specs.CallEnds.{ending_call, has_long_request, has_long_response, is_after_event, is_cancelled, is_due_before, is_over_by_row, is_past_deadline, is_shut_down, lacks_config, next_deadline, next_ended}
use Rattle.session_actions.specs.Calls.{is_open_call}
use Rattle.session_actions.specs.Commitments.{committing, is_final_end, is_headed, is_inherited, next_final, next_headed, next_inherited, next_overflow, overflow_row}
use Rattle.session_actions.specs.Configs.{held_config, is_to_configure, is_too_long}
use Rattle.session_actions.specs.Deliveries.{held_bytes, is_accepted, next_item, send_action, take_action}
use Rattle.session_actions.specs.DueAttempts.{attempts_made, kind_of_next, next_due}
use Rattle.session_actions.specs.Entries.{entry, now}
use Rattle.session_actions.specs.Events.{event_action, event_action_by, event_applied, frame_action, frame_of_event, is_loss}
use Rattle.session_actions.specs.Links.{is_stream_before}
use Rattle.session_actions.specs.Making.{due_action, due_attempt, due_if_past, next_due_attempt, next_transparent, transparent_retry}
use Rattle.session_actions.specs.Policies.{asking, begin_if, current_policy, follow_ask, follow_pick, is_after, is_queued_before, is_same_kind, is_served, is_to_retire, is_unfollowed, listed, live_policies, live_sub, may_take_over, next_asked, next_begun, next_given, next_of_pass, next_of_pick, next_of_queue, next_retired, next_take_over, pending_policy, placed_on, policy_of, wanted_kind, wants_addresses}
use Rattle.session_actions.specs.Reading.{next_read}
use Rattle.session_actions.specs.Refusals.{refusal_of}
use Rattle.session_actions.specs.Sessions.{Does, IsNext}
use Rattle.session_actions.specs.Subchannels.{clock_action, dial_action, is_dialable, is_idle, is_rested, is_to_be_ready, is_to_go_down, is_too_late, is_unlisted, is_wished, link_action, next_added, next_connected, next_of_clock, next_of_links, next_shut}
use Rattle.session_actions.specs.Tokens.{has_tokens}
use Rattle.session_actions.specs.Words.{first_of, foremost, last_of, numbered}
use Rattle.session_actions.specs.Writing.{fits_drain, frame_to_write, read_action, read_next, sendable}
use Rattle.session_actions.specs.declared.action.Action.TheVariants as action
use Rattle.session_actions.specs.declared.action.Action.{Action}
use Rattle.session_actions.specs.declared.action.CommitCause.TheVariants as commit
use Rattle.session_actions.specs.declared.attempt.Attempt.{Attempt}
use Rattle.session_actions.specs.declared.call.Call.{Call}
use Rattle.session_actions.specs.declared.entry.OpenEntry.{OpenEntry}
use Rattle.session_actions.specs.declared.entry.Stage.TheVariants as stage
use Rattle.session_actions.specs.declared.entry.Stage.{Stage}
use Rattle.session_actions.specs.declared.entry.Turn.{Turn}
use Rattle.session_actions.specs.declared.link.Link.{Link}
use Rattle.session_actions.specs.declared.link.NextRead.TheVariants as nextread
use Rattle.session_actions.specs.declared.link.NextRead.{NextRead}
use Rattle.session_actions.specs.declared.policy.PolicyUse.{PolicyUse}
use Rattle.session_actions.specs.declared.response.Outcome.{Outcome}
use Rattle.session_actions.specs.declared.seen.Seen.{Seen}
use Rattle.session_actions.specs.declared.subchannel.Subchannel.{Subchannel}
use Rattle.std.proofs.Common.{Bool, List, None, Option, Some, [], ap, arith, false, filter, find, if◌then◌else◌, is_none, is_some, length, nat_le, not, option_and_then, option_map, refl, slice_get, subst, suc, sym, true, zero, ℕ, ◌&&◌, ◌+◌, ◌==◌, ◌∙◌, ◌∷◌, ◌≡◌}
use Rattle.std.proofs.lemmas.Bool.{and_parts}
use Rattle.std.specs.List.{list_any}
use Rattle.std.specs.Option.{option_map_or, option_or}

-- what a line gives, if it gives anything
abbrev FairIf : Seen → Option Action → Type 0
FairIf s None = Unit {0}
FairIf s (Some a) = IsFair a s

fair_or : (s : Seen) (o p : Option Action) → FairIf s o → FairIf s p → FairIf s (option_or o p)
fair_or s None p f g = g
fair_or s (Some a) p f g = f

fair_map : {X : Type 0} (s : Seen) (f : X → Action) → ((x : X) → IsFair (f x) s) → (o : Option X) → FairIf s (option_map f o)
fair_map s f each None = tt
fair_map s f each (Some x) = each x

fair_then : {X : Type 0} (s : Seen) (f : X → Option Action) → ((x : X) → FairIf s (f x)) → (o : Option X) → FairIf s (option_and_then f o)
fair_then s f each None = tt
fair_then s f each (Some x) = each x

fair_first : {X : Type 0} (s : Seen) (f : X → Option Action) (xs : List X) → ((i : ℕ) (x : X) → slice_get xs i ≡ Some x → FairIf s (f x)) → FairIf s (first_of f xs)
fair_first s f [] each = tt
fair_first s f (x ∷ xs) each = fair_or s (f x) (first_of f xs) (each 0 x refl) (fair_first s f xs (λ i y got. each (suc i) y got))

fair_if : (s : Seen) (b : Bool) (o p : Option Action) → FairIf s o → FairIf s p → FairIf s (if b then o else p)
fair_if s true o p f g = f
fair_if s false o p f g = g

-- the one at its number
call_at_from : (k : ℕ) (xs : List Call) (i : ℕ) (c : Call) → CallsAreNumbered k xs → slice_get xs i ≡ Some c → c.number ≡ k + i
call_at_from k [] i c p got = absurd (cc)
call_at_from k (x ∷ xs) zero c p got =
    let one : x ≡ c = (cc) in
    let at : x.number ≡ k = p.0 in
    let same : c.number ≡ x.number = ap (λ (d : Call). d.number) (sym one) in omega arith
call_at_from k (x ∷ xs) (suc i) c p got = let next : c.number ≡ suc k + i = call_at_from (suc k) xs i c p.1 got in omega arith

pub call_at_number : (xs : List Call) (i : ℕ) (c : Call) → CallsAreNumbered 1 xs → slice_get xs i ≡ Some c → numbered xs c.number ≡ Some c
call_at_number xs i c p got =
    let at : c.number ≡ 1 + i = call_at_from 1 xs i c p got in
    let number : c.number ≡ suc i = omega (arith, at) in ap (numbered xs) number ∙ got

some_of : {X : Type 0} (o : Option X) (x y : X) → o ≡ Some x → o ≡ Some y → y ≡ x
some_of None x y e f = absurd (cc)
some_of (Some z) x y e f = (cc)

module _ (s : Seen) (book : IsBook s) where
  -- an attempt at its place that has not ended
  fair_end : (i : ℕ) (a : Attempt) (e : RowEnd) → slice_get s.attempts i ≡ Some a → is_none a.row.ended ≡ true → IsFair (action.AttemptEnds a.place e) s
  fair_end i a e got unended =
      λ q here. ap (λ (z : Attempt). is_none z.row.ended)
      (some_of (numbered s.attempts a.place) a q (at_place s.attempts a book.places (record { index = i; here = got })) here) ∙ unended

  cut_if : (i : ℕ) (a : Attempt) (e : RowEnd) (o over : Bool) → slice_get s.attempts i ≡ Some a → is_outstanding a ≡ o → FairIf s (if o && over then Some (action.AttemptEnds a.place e) else None)
  cut_if i a e false over got lives = tt
  cut_if i a e true false got lives = tt
  cut_if i a e true true got lives = fair_end i a e got (and_parts (is_some a.row.placed) (is_none a.row.ended) lives).1

  fair_cut : (i : ℕ) (a : Attempt) → slice_get s.attempts i ≡ Some a → FairIf s (cut s a)
  fair_cut i a got = cut_if i a (end_of a cut_end s) (is_outstanding a) (is_over a s) got refl

  wire_if : (i : ℕ) (a : Attempt) (o over : Bool) → slice_get s.attempts i ≡ Some a → is_outstanding a ≡ o
      → FairIf s (if o && not over then option_map (λ (t : Outcome). action.AttemptEnds a.place (end_of a t s)) (outcome_of a s) else None)
  wire_if i a false over got lives = tt
  wire_if i a true true got lives = tt
  wire_if i a true false got lives =
      fair_map s (λ (t : Outcome). action.AttemptEnds a.place (end_of a t s))
      (λ t. fair_end i a (end_of a t s) got (and_parts (is_some a.row.placed) (is_none a.row.ended) lives).1) (outcome_of a s)

  fair_wire : (i : ℕ) (a : Attempt) → slice_get s.attempts i ≡ Some a → FairIf s (wire_end s a)
  fair_wire i a got = wire_if i a (is_outstanding a) (is_over a s) got refl

  -- a pick
  pick_end_fair : (n : ℕ) (a : Attempt) (e : RowEnd) → numbered s.attempts n ≡ Some a → is_none a.row.ended ≡ true → IsFair (action.AttemptEnds a.place e) s
  pick_end_fair zero a e got unended = absurd (cc)
  pick_end_fair (suc i) a e got unended = fair_end i a e got unended

  fair_pick : (n : ℕ) (a : Attempt) (ask : Ask) (p : Pick) → numbered s.attempts n ≡ Some a → is_none a.row.ended ≡ true → FairIf s (follow_pick ask s a p)
  fair_pick n a ask (pick.Place sub) got unended = fair_map s (λ (b : Subchannel). action.AttemptPlaced a.place (placed_on ask s b)) (λ b. tt) (numbered s.subs sub)
  fair_pick n a ask pick.Fail got unended = pick_end_fair n a (end_of a pick_end s) got unended
  fair_pick n a ask pick.Wait got unended = tt

  fair_ask_if : (n : ℕ) (a : Attempt) (ask : Ask) (u b : Bool) → numbered s.attempts n ≡ Some a → is_unfollowed a ≡ u
      → FairIf s (if u && b then follow_pick ask s a ask.answer else None)
  fair_ask_if n a ask false b got e = tt
  fair_ask_if n a ask true false got e = tt
  fair_ask_if n a ask true true got e = fair_pick n a ask ask.answer got (and_parts (is_none a.row.placed) (is_none a.row.ended) e).1

  fair_ask_of : (ask : Ask) (o : Option Attempt) → numbered s.attempts ask.row ≡ o
      → FairIf s (option_and_then (λ (a : Attempt). if is_unfollowed a && (ask.entry == entry s) then follow_pick ask s a ask.answer else None) o)
  fair_ask_of ask None got = tt
  fair_ask_of ask (Some a) got = fair_ask_if ask.row a ask (is_unfollowed a) (ask.entry == entry s) got refl

  fair_ask : (ask : Ask) → FairIf s (follow_ask s ask)
  fair_ask ask = fair_ask_of ask (numbered s.attempts ask.row) refl

  -- a config
  config_fair : (i : ℕ) (c : Call) → slice_get s.calls i ≡ Some c → is_to_configure s c ≡ true → IsFair (action.CallConfigured c.number (length s.configs)) s
  config_fair i c got e =
      let one : ((is_none c.end && is_none c.config) ≡ true) × (is_some (held_config s) ≡ true) = and_parts (is_none c.end && is_none c.config) (is_some (held_config s)) e in
      let two : (is_none c.end ≡ true) × (is_none c.config ≡ true) = and_parts (is_none c.end) (is_none c.config) one.0 in
      (one.1, λ d here. ap (λ (z : Call). is_none z.config) (some_of (numbered s.calls c.number) c d (call_at_number s.calls i c book.calls got) here) ∙ two.1)

  config_if : (i : ℕ) (c : Call) (b l : Bool) → slice_get s.calls i ≡ Some c → is_to_configure s c ≡ b
      → FairIf s (if b then Some (action.CallConfigured c.number (length s.configs)) else if l then Some (action.CallEnds c.number ending.NoConfig) else None)
  config_if i c true l got e = config_fair i c got e
  config_if i c false true got e = tt
  config_if i c false false got e = tt

  fair_config : (i : ℕ) (c : Call) → slice_get s.calls i ≡ Some c → FairIf s (config_action s c)
  fair_config i c got = config_if i c (is_to_configure s c) (lacks_config s c) got refl

  -- an attempt that is due
  due_fair : (c : Call) (d : ℕ) (b : Bool)
      → IsFair (if b then action.HedgeWithheld c.number else action.AttemptMade c.number (attempts_made c s + 1) (kind_of_next c s) d) s
  due_fair c d true = tt
  due_fair c d false = tt

  fair_due : (c : Call) → FairIf s (due_action s c)
  fair_due c =
      fair_if s (is_open_call c) (option_and_then (due_if_past c s) (next_due c s)) None
      (fair_then s (due_if_past c s) (λ d. fair_if s (nat_le d (now s)) (Some (due_attempt c s d)) None (due_fair c d (is_hedge (kind_of_next c s) && not (has_tokens c s))) tt) (next_due c s)) tt

  fair_asked : (test : Attempt → Bool) → FairIf s (next_asked test s)
  fair_asked test =
      fair_then s (asking s)
      (λ a. fair_map s (λ (g : PolicyUse). action.PickRequested a.place g.number (pick_of (policy_of g s))) (λ g. tt) (current_policy s))
      (foremost is_queued_before (filter (λ (a : Attempt). is_served s a && test a) s.attempts))

  -- the event
  send_fair : (call : ℕ) (c : Call) (long accepted : Bool) (held : ℕ)
      → IsFair (if long then action.EventAnswered reply.Done else if accepted then action.MessageAccepted call else action.EventAnswered (reply.Full held)) s
  send_fair call c true accepted held = tt
  send_fair call c false true held = tt
  send_fair call c false false held = tt

  take_fair : (call : ℕ) (o : Option Reply) → IsFair (take_action call o) s
  take_fair call None = tt
  take_fair call (Some item) = tt

  dial_fair : (o : Option Subchannel) → IsFair (option_map_or (dial_action s) o (action.EventAnswered reply.NotYet)) s
  dial_fair None = tt
  dial_fair (Some b) = tt

  fair_event : (e : Event) → FairIf s (event_applied e s)
  fair_event (event.Send call message) =
      fair_map s (send_action call message s) (λ c. send_fair call c (is_too_long message c s) (is_accepted c message s) (held_bytes c s)) (numbered s.calls call)
  fair_event (event.Take call) = fair_map s (λ (c : Call). take_action call (next_item c s)) (λ c. take_fair call (next_item c s)) (numbered s.calls call)
  fair_event event.TakeDial = dial_fair (find is_dialable s.subs)
  fair_event _ = tt

  fair_event_by : (o : Option Refusal) (e : Event) → FairIf s (event_action_by o e s)
  fair_event_by None e = fair_event e
  fair_event_by (Some why) e = tt

  -- frames
  fair_read : (link : ℕ) (n : NextRead) → FairIf s (read_action link n)
  fair_read link nextread.Nothing = tt
  fair_read link (nextread.Frame r) = tt
  fair_read link (nextread.Broken number) = tt

  fair_frame : (o : OpenEntry) (e : Event) → FairIf s (frame_of_event e o s)
  fair_frame o (event.Arrived link piece) =
      fair_then s (read_next link s) (λ l. fair_if s (is_none l.over) (read_action link (next_read l s)) None (fair_read link (next_read l s)) tt) (numbered s.links link)
  fair_frame o (event.Drain link most) =
      fair_then s (λ (l : Link). option_and_then (frame_to_write link most o s) (sendable l s))
      (λ l. fair_then s (frame_to_write link most o s) (λ x. fair_if s (fits_drain most o x) (Some (action.FrameWritten link x)) None tt tt) (sendable l s)) (numbered s.links link)
  fair_frame o _ = tt

  fair_clock : (b : Subchannel) → FairIf s (clock_action s b)
  fair_clock b =
      fair_if s (is_too_late s b) (Some (action.ConnectTimesOut b.number)) (if is_rested s b then Some (action.BackoffEnds b.number) else None) tt
      (fair_if s (is_rested s b) (Some (action.BackoffEnds b.number)) None tt tt)

  fair_link : (b : Subchannel) → FairIf s (link_action s b)
  fair_link b =
      fair_if s (is_to_be_ready s b) (Some (action.SettingsArrive b.number)) (if is_to_go_down s b then Some (action.LinkDown b.number) else None) tt
      (fair_if s (is_to_go_down s b) (Some (action.LinkDown b.number)) None tt tt)

  -- line by line
  plain_or : (o : Option Action) (rest : List (Option Action)) → FairIf s o → FairIf s (first_action rest) → FairIf s (first_action (o ∷ rest))
  plain_or o rest f g = fair_or s o (first_action rest) f g

  fair_ended : (why : EndCause) (test : Call → Bool) → FairIf s (next_ended why test s)
  fair_ended why test = fair_map s (ending_call why) (λ c. tt) (find test s.calls)

  fair_calls : (o : OpenEntry) → FairIf s (of_calls o s)
  fair_calls o =
      fair_or s (next_cut s) (first_action (next_transparent s ∷ next_inherited s ∷ next_ended ending.Row (is_over_by_row s) s ∷ next_final s
      ∷ next_ended ending.Cancelled (is_cancelled o) s ∷ next_ended ending.Request (has_long_request o s) s ∷ next_overflow s ∷ next_headed s ∷ next_ended ending.Response (has_long_response s) s ∷ []))
      (fair_first s (cut s) s.attempts fair_cut)
      (plain_or (next_transparent s) (next_inherited s ∷ next_ended ending.Row (is_over_by_row s) s ∷ next_final s
      ∷ next_ended ending.Cancelled (is_cancelled o) s ∷ next_ended ending.Request (has_long_request o s) s ∷ next_overflow s ∷ next_headed s ∷ next_ended ending.Response (has_long_response s) s ∷ [])
      (fair_map s (transparent_retry s) (λ a. tt) (find (λ (a : Attempt). wants_follower a s) s.attempts))
      (plain_or (next_inherited s) (next_ended ending.Row (is_over_by_row s) s ∷ next_final s
      ∷ next_ended ending.Cancelled (is_cancelled o) s ∷ next_ended ending.Request (has_long_request o s) s ∷ next_overflow s ∷ next_headed s ∷ next_ended ending.Response (has_long_response s) s ∷ [])
      (fair_map s (committing commit.Inherited) (λ a. tt) (find (is_inherited s) s.attempts))
      (plain_or (next_ended ending.Row (is_over_by_row s) s) (next_final s
      ∷ next_ended ending.Cancelled (is_cancelled o) s ∷ next_ended ending.Request (has_long_request o s) s ∷ next_overflow s ∷ next_headed s ∷ next_ended ending.Response (has_long_response s) s ∷ [])
      (fair_ended ending.Row (is_over_by_row s))
      (plain_or (next_final s) (next_ended ending.Cancelled (is_cancelled o) s ∷ next_ended ending.Request (has_long_request o s) s ∷ next_overflow s ∷ next_headed s
      ∷ next_ended ending.Response (has_long_response s) s ∷ [])
      (fair_map s (committing commit.Final) (λ a. tt) (find (is_final_end s) s.attempts))
      (plain_or (next_ended ending.Cancelled (is_cancelled o) s) (next_ended ending.Request (has_long_request o s) s ∷ next_overflow s ∷ next_headed s
      ∷ next_ended ending.Response (has_long_response s) s ∷ [])
      (fair_ended ending.Cancelled (is_cancelled o))
      (plain_or (next_ended ending.Request (has_long_request o s) s) (next_overflow s ∷ next_headed s ∷ next_ended ending.Response (has_long_response s) s ∷ [])
      (fair_ended ending.Request (has_long_request o s))
      (plain_or (next_overflow s) (next_headed s ∷ next_ended ending.Response (has_long_response s) s ∷ [])
      (fair_map s (committing commit.Overflow) (λ a. tt) (first_of (overflow_row s) s.calls))
      (plain_or (next_headed s) (next_ended ending.Response (has_long_response s) s ∷ [])
      (fair_map s (committing commit.Head) (λ a. tt) (find (is_headed s) s.attempts))
      (plain_or (next_ended ending.Response (has_long_response s) s) [] (fair_ended ending.Response (has_long_response s)) tt)))))))))

  fair_loss : (b : Bool) → FairIf s (if b then None else next_wire_end s)
  fair_loss true = tt
  fair_loss false = fair_first s (wire_end s) s.attempts fair_wire

  fair_links : (o : OpenEntry) → FairIf s (of_links o s)
  fair_links o =
      plain_or (next_of_pick s) (next_of_links s ∷ (if is_loss o.event then None else next_wire_end s) ∷ next_reset s ∷ next_wire_end s ∷ [])
      (fair_then s (follow_ask s) fair_ask (last_of s.asks))
      (plain_or (next_of_links s) ((if is_loss o.event then None else next_wire_end s) ∷ next_reset s ∷ next_wire_end s ∷ [])
      (fair_first s (link_action s) s.subs (λ i b got. fair_link b))
      (plain_or (if is_loss o.event then None else next_wire_end s) (next_reset s ∷ next_wire_end s ∷ []) (fair_loss (is_loss o.event))
      (plain_or (next_reset s) (next_wire_end s ∷ [])
      (fair_then s (reset_of s) (λ a. fair_map s (λ (number : ℕ). action.StreamReset a.place number) (λ number. tt) (reset_code_of s a))
      (foremost is_stream_before (filter (λ (a : Attempt). is_some (reset_code_of s a)) s.attempts)))
      (plain_or (next_wire_end s) [] (fair_first s (wire_end s) s.attempts fair_wire) tt))))

  fair_begun : (k : Kind) → FairIf s (begin_if s k)
  fair_begun k = fair_if s (list_any (λ (g : PolicyUse). is_same_kind g.generation.kind k) (live_policies s)) None (Some (action.PolicyBegins k)) tt tt

  fair_policies : (o : OpenEntry) → FairIf s (of_policies o s)
  fair_policies o =
      plain_or (next_ended ending.Shut (is_shut_down s) s) (next_retired o s ∷ next_begun o s ∷ next_given o s ∷ next_shut s ∷ next_added s ∷ []) (fair_ended ending.Shut (is_shut_down s))
      (plain_or (next_retired o s) (next_begun o s ∷ next_given o s ∷ next_shut s ∷ next_added s ∷ [])
      (fair_map s (λ (g : PolicyUse). action.PolicyRetired g.number) (λ g. tt) (find (is_to_retire o s) s.policies))
      (plain_or (next_begun o s) (next_given o s ∷ next_shut s ∷ next_added s ∷ []) (fair_then s (begin_if s) fair_begun (wanted_kind o s))
      (plain_or (next_given o s) (next_shut s ∷ next_added s ∷ []) (fair_map s (λ (g : PolicyUse). action.AddressesGiven g.number) (λ g. tt) (find (wants_addresses o s) s.policies))
      (plain_or (next_shut s) (next_added s ∷ []) (fair_map s (λ (b : Subchannel). action.SubchannelShut b.number) (λ b. tt) (find (is_unlisted s) s.subs))
      (plain_or (next_added s) [] (fair_map s (λ (address : Address). action.SubchannelAdded address) (λ address. tt) (find (λ (address : Address). is_none (live_sub s address)) (listed s))) tt)))))

  fair_settling : (o : OpenEntry) → FairIf s (of_settling o s)
  fair_settling o =
      plain_or (next_of_clock s) (next_take_over s ∷ next_connected s ∷ first_of (config_action s) s.calls ∷ next_of_pass o s ∷ next_due_attempt s ∷ next_of_queue s ∷ Some action.EntryCloses ∷ [])
      (fair_first s (clock_action s) s.subs (λ i b got. fair_clock b))
      (plain_or (next_take_over s) (next_connected s ∷ first_of (config_action s) s.calls ∷ next_of_pass o s ∷ next_due_attempt s ∷ next_of_queue s ∷ Some action.EntryCloses ∷ [])
      (fair_then s (λ (g : PolicyUse). if may_take_over s g then Some (action.PolicyTakesOver g.number) else None)
      (λ g. fair_if s (may_take_over s g) (Some (action.PolicyTakesOver g.number)) None tt tt) (pending_policy s))
      (plain_or (next_connected s) (first_of (config_action s) s.calls ∷ next_of_pass o s ∷ next_due_attempt s ∷ next_of_queue s ∷ Some action.EntryCloses ∷ [])
      (fair_map s (λ (b : Subchannel). action.SubchannelConnects b.number) (λ b. tt) (find (λ (b : Subchannel). is_idle b.state && is_wished s b) s.subs))
      (plain_or (first_of (config_action s) s.calls) (next_of_pass o s ∷ next_due_attempt s ∷ next_of_queue s ∷ Some action.EntryCloses ∷ []) (fair_first s (config_action s) s.calls fair_config)
      (plain_or (next_of_pass o s) (next_due_attempt s ∷ next_of_queue s ∷ Some action.EntryCloses ∷ []) (fair_then s (λ (t : Turn). next_asked (is_after t) s) (λ t. fair_asked (is_after t)) o.turn)
      (plain_or (next_due_attempt s) (next_of_queue s ∷ Some action.EntryCloses ∷ []) (fair_first s (due_action s) s.calls (λ i c got. fair_due c))
      (plain_or (next_of_queue s) (Some action.EntryCloses ∷ []) (fair_asked (λ (a : Attempt). true)) tt))))))

  fair_stage : (o : OpenEntry) (g : Stage) → FairIf s (of_stage o s g)
  fair_stage o stage.Event =
      plain_or (next_deadline s) (event_action o.event s ∷ [])
      (fair_map s (ending_call ending.Deadline) (λ c. tt) (foremost (is_due_before s) (filter (is_past_deadline s) s.calls)))
      (plain_or (event_action o.event s) [] (fair_event_by (refusal_of o.event s) o.event) tt)
  fair_stage o stage.Replied =
      plain_or (frame_action o s) (Some action.SettlingBegins ∷ []) (fair_if s (is_after_event o) (frame_of_event o.event o s) None (fair_frame o o.event) tt) tt
  fair_stage o stage.Settling = fair_settling o

  fair_in : (o : OpenEntry) → FairIf s (following_in s o)
  fair_in o =
      plain_or (of_calls o s) (of_links o s ∷ of_policies o s ∷ of_stage o s o.stage ∷ []) (fair_calls o)
      (plain_or (of_links o s) (of_policies o s ∷ of_stage o s o.stage ∷ []) (fair_links o)
      (plain_or (of_policies o s) (of_stage o s o.stage ∷ []) (fair_policies o) (plain_or (of_stage o s o.stage) [] (fair_stage o o.stage) tt)))

  pub fair_following : FairIf s (following s)
  fair_following = fair_then s (following_in s) fair_in s.current

pub lines_are_fair : LinesAreFair
lines_are_fair s a book e = subst (FairIf s) e (fair_following s book)

fair_next : (s : Seen) (a : Action) → IsBook s → IsNext a s → IsFair a s
fair_next s (action.AttemptEnds row end) book next = lines_are_fair s (action.AttemptEnds row end) book next
fair_next s (action.CallConfigured call config) book next = lines_are_fair s (action.CallConfigured call config) book next
fair_next s _ book next = tt

pub books_along : BooksAlong
books_along [] s t book does = subst IsBook (sym does) book
books_along (a ∷ actions) s t book does = books_along actions (after a s) t (books_stay s a book (fair_next s a book does.0)) does.1

-- a list of actions of which none is of a call
others_by : (c : Call) (actions : List Action) (s t : Seen) → IsBook s → numbered s.calls c.number ≡ Some c → Does actions s t → ActionsAreOfOthers c actions s → IsApart s t c
others_by c [] s t book own does others = subst (λ (z : Seen). IsApart s z c) (sym does) (same_apart c s s (record { calls = refl; attempts = refl; configs = refl; runs = refl }))
others_by c (a ∷ actions) s t book own does others =
    let first : IsApart s (after a s) c = others_stay s c a book own others.0 in
    joins c s (after a s) t first
    (others_by c actions (after a s) t (books_stay s a book (fair_next s a book does.0)) (first.call ∙ own) does.1 others.1)

pub others_along : OthersAlong
others_along c actions s t book own does others = others_by c actions s t book own does others
