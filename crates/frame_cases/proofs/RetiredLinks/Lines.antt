-- The lines of a session that give the end of an attempt, or place one: an attempt that was placed ends, while it goes on, cut off or by the wire, as the session says of it.
-- What is placed was not placed before.
use Rattle.std.proofs.Common.{◌≡◌, ◌&&◌, ◌==◌, ◌∷◌, ap, refl, subst, sym, ◌∙◌, not, Bool, true, false, List, [], Option, None, Some, ℕ, filter, if◌then◌else◌, inl, inr, is_none, is_some, option_and_then, option_map, slice_get, suc, find, ◌⊎◌}
use Rattle.std.proofs.lemmas.Bool.{and_parts}
use Rattle.std.specs.List.{list_any}
use Rattle.std.specs.Option.{option_or}
use Rattle.attempt_ledger.specs.declared.ledger.Ask.{Ask}
use Rattle.attempt_ledger.specs.declared.row.RowEnd.{RowEnd}
use Rattle.channel_actions.proofs.KeptSessions.Lists.{own_number}
use Rattle.channel_actions.proofs.Stamps.{counted_at}
use Rattle.channel_actions.specs.KeptSessions.Kept.{IsKept}
use Rattle.grpc_base.specs.declared.address.Address.{Address}
use Rattle.grpc_base.specs.declared.event.EndCause.{EndCause}
use Rattle.grpc_base.specs.declared.event.EndCause.TheVariants as ending
use Rattle.grpc_base.specs.declared.event.Event.{Event}
use Rattle.grpc_base.specs.declared.event.Event.TheVariants as event
use Rattle.grpc_base.specs.declared.kind.Kind.{Kind}
use Rattle.grpc_base.specs.declared.kind.Pick.{Pick}
use Rattle.grpc_base.specs.declared.kind.Pick.TheVariants as pick
use Rattle.session_actions.specs.Actions.{first_action, following, following_in, of_calls, of_links, of_policies, of_stage}
use Rattle.session_actions.specs.AttemptEnds.{cut, cut_end, end_of, next_cut, next_reset, next_wire_end, outcome_of, reset_code_of, reset_of, wire_end}
use Rattle.session_actions.specs.Attempts.{is_outstanding, is_over, wants_follower}
use Rattle.session_actions.specs.CallEnds.{ending_call, has_long_request, has_long_response, is_after_event, is_cancelled, is_over_by_row, is_shut_down, next_ended}
use Rattle.session_actions.specs.Commitments.{committing, is_final_end, is_headed, is_inherited, next_final, next_headed, next_inherited, next_overflow, overflow_row}
use Rattle.session_actions.specs.Entries.{entry}
use Rattle.session_actions.specs.Events.{frame_action, frame_of_event, is_loss}
use Rattle.session_actions.specs.Links.{is_stream_before}
use Rattle.session_actions.specs.Making.{next_transparent, transparent_retry}
use Rattle.session_actions.specs.Policies.{begin_if, follow_ask, follow_pick, is_same_kind, is_to_retire, is_unfollowed, listed, live_policies, live_sub, next_begun, next_given, next_of_pick, next_retired, placed_on, wanted_kind, wants_addresses}
use Rattle.session_actions.specs.Reading.{next_read}
use Rattle.session_actions.specs.Subchannels.{is_to_be_ready, is_to_go_down, is_unlisted, link_action, next_added, next_of_links, next_shut}
use Rattle.session_actions.specs.Words.{first_of, foremost, last_of, numbered}
use Rattle.session_actions.specs.Writing.{fits_drain, frame_to_write, read_action, read_next, sendable}
use Rattle.session_actions.specs.declared.action.Action.{Action}
use Rattle.session_actions.specs.declared.action.Action.TheVariants as action
use Rattle.session_actions.specs.declared.action.CommitCause.TheVariants as commit
use Rattle.session_actions.specs.declared.attempt.Attempt.{Attempt}
use Rattle.session_actions.specs.declared.call.Call.{Call}
use Rattle.session_actions.specs.declared.entry.OpenEntry.{OpenEntry}
use Rattle.session_actions.specs.declared.entry.Stage.{Stage}
use Rattle.session_actions.specs.declared.entry.Stage.TheVariants as stage
use Rattle.session_actions.specs.declared.link.Link.{Link}
use Rattle.session_actions.specs.declared.link.NextRead.{NextRead}
use Rattle.session_actions.specs.declared.link.NextRead.TheVariants as nextread
use Rattle.session_actions.specs.declared.link.Sent.{Sent}
use Rattle.session_actions.specs.declared.policy.PolicyUse.{PolicyUse}
use Rattle.session_actions.specs.declared.response.Outcome.{Outcome}
use Rattle.session_actions.specs.declared.seen.Seen.{Seen}
use Rattle.session_actions.specs.declared.subchannel.Subchannel.{Subchannel}

-- an end of an attempt that was placed
pub record IsMeantEnd (s : Seen) (b : Attempt) (e : RowEnd) : Type 0 where
  pub going : is_none b.row.ended ≡ true
  pub is : (e ≡ end_of b cut_end s) ⊎ ((k : Outcome) × ((outcome_of b s ≡ Some k) × (e ≡ end_of b k s)))

abbrev pub IsMeant : Seen → Action → Type 0
IsMeant s (action.AttemptEnds row e) = (b : Attempt) → numbered s.attempts row ≡ Some b → is_some b.row.placed ≡ true → IsMeantEnd s b e
IsMeant s (action.AttemptPlaced row at) = (b : Attempt) → numbered s.attempts row ≡ Some b → is_some b.row.placed ≡ false
IsMeant s _ = Unit {0}

-- what a line gives, if it gives anything
abbrev MeantIf : Seen → Option Action → Type 0
MeantIf s None = Unit {0}
MeantIf s (Some a) = IsMeant s a

meant_or : (s : Seen) (o p : Option Action) → MeantIf s o → MeantIf s p → MeantIf s (option_or o p)
meant_or s None p f g = g
meant_or s (Some a) p f g = f

meant_map : {X : Type 0} (s : Seen) (f : X → Action) → ((x : X) → IsMeant s (f x)) → (o : Option X) → MeantIf s (option_map f o)
meant_map s f each None = tt
meant_map s f each (Some x) = each x

meant_then : {X : Type 0} (s : Seen) (f : X → Option Action) → ((x : X) → MeantIf s (f x)) → (o : Option X) → MeantIf s (option_and_then f o)
meant_then s f each None = tt
meant_then s f each (Some x) = each x

meant_first : {X : Type 0} (s : Seen) (f : X → Option Action) (xs : List X) → ((i : ℕ) (x : X) → slice_get xs i ≡ Some x → MeantIf s (f x)) → MeantIf s (first_of f xs)
meant_first s f [] each = tt
meant_first s f (x ∷ xs) each = meant_or s (f x) (first_of f xs) (each 0 x refl) (meant_first s f xs (λ i y got. each (suc i) y got))

meant_if : (s : Seen) (b : Bool) (o p : Option Action) → MeantIf s o → MeantIf s p → MeantIf s (if b then o else p)
meant_if s true o p f g = f
meant_if s false o p f g = g

plain_or : (s : Seen) (o : Option Action) (rest : List (Option Action)) → MeantIf s o → MeantIf s (first_action rest) → MeantIf s (first_action (o ∷ rest))
plain_or s o rest f g = meant_or s o (first_action rest) f g

one_of : (o : Option Attempt) (x y : Attempt) → o ≡ Some x → o ≡ Some y → x ≡ y
one_of None x y e f = absurd (cc)
one_of (Some z) x y e f = (cc)

unplaced : {X : Type 0} (o : Option X) → is_none o ≡ true → is_some o ≡ false
unplaced None e = refl
unplaced (Some x) e = absurd (cc)

never : (b : Bool) → b ≡ true → b ≡ false → ⊥
never true e h = (cc)
never false e h = (cc)

module _ (s : Seen) (kept : IsKept s) where
  abbrev IsOwn : Attempt → Type 0
  IsOwn a = numbered s.attempts a.place ≡ Some a

  own_at : (i : ℕ) (a : Attempt) → slice_get s.attempts i ≡ Some a → IsOwn a
  own_at i a got = own_number (λ (z : Attempt). z.place) s.attempts i a kept.attempts got

  goes_on : (a : Attempt) (p : Bool) → (is_outstanding a && p) ≡ true → is_none a.row.ended ≡ true
  goes_on a p e = (and_parts (is_some a.row.placed) (is_none a.row.ended) (and_parts (is_outstanding a) p e).0).1

  -- cut off, or by the wire
  cut_by : (a : Attempt) (b : Bool) → (is_outstanding a && is_over a s) ≡ b → IsOwn a → MeantIf s (if b then Some (action.AttemptEnds a.place (end_of a cut_end s)) else None)
  cut_by a true e own = λ b there placed.
      let same : a ≡ b = one_of (numbered s.attempts a.place) a b own there in
      subst (λ (z : Attempt). IsMeantEnd s z (end_of a cut_end s)) same (record { going = goes_on a (is_over a s) e; is = inl refl })
  cut_by a false e own = tt

  cut_meant : (a : Attempt) → IsOwn a → MeantIf s (cut s a)
  cut_meant a own = cut_by a (is_outstanding a && is_over a s) refl own

  outcome_by : (a : Attempt) (o : Option Outcome) → outcome_of a s ≡ o → is_none a.row.ended ≡ true → IsOwn a
      → MeantIf s (option_map (λ (k : Outcome). action.AttemptEnds a.place (end_of a k s)) o)
  outcome_by a None got going own = tt
  outcome_by a (Some k) got going own = λ b there placed.
      let same : a ≡ b = one_of (numbered s.attempts a.place) a b own there in
      subst (λ (z : Attempt). IsMeantEnd s z (end_of a k s)) same (record { going = going; is = inr (k, (got, refl)) })

  wire_by : (a : Attempt) (b : Bool) → (is_outstanding a && not (is_over a s)) ≡ b → IsOwn a
      → MeantIf s (if b then option_map (λ (k : Outcome). action.AttemptEnds a.place (end_of a k s)) (outcome_of a s) else None)
  wire_by a true e own = outcome_by a (outcome_of a s) refl (goes_on a (not (is_over a s)) e) own
  wire_by a false e own = tt

  wires_meant : MeantIf s (next_wire_end s)
  wires_meant = meant_first s (wire_end s) s.attempts (λ i a got. wire_by a (is_outstanding a && not (is_over a s)) refl (own_at i a got))

  -- the answer of a pick request is of one that was not placed
  off_by : (a b : Attempt) → IsOwn a → numbered s.attempts a.place ≡ Some b → is_none a.row.placed ≡ true → is_some b.row.placed ≡ false
  off_by a b own there off =
      ap (λ (z : Attempt). is_some z.row.placed) (one_of (numbered s.attempts a.place) b a there own) ∙ unplaced a.row.placed off

  pick_meant : (ask : Ask) (a : Attempt) (p : Pick) → IsOwn a → is_none a.row.placed ≡ true → MeantIf s (follow_pick ask s a p)
  pick_meant ask a (pick.Place sub) own off = meant_map s (λ (b : Subchannel). action.AttemptPlaced a.place (placed_on ask s b)) (λ b. λ q there. off_by a q own there off) (numbered s.subs sub)
  pick_meant ask a pick.Fail own off = λ b there placed. absurd (never (is_some b.row.placed) placed (off_by a b own there off))
  pick_meant ask a pick.Wait own off = tt

  pick_if : (ask : Ask) (a : Attempt) (u b : Bool) → IsOwn a → is_unfollowed a ≡ u → MeantIf s (if u && b then follow_pick ask s a ask.answer else None)
  pick_if ask a false b own e = tt
  pick_if ask a true false own e = tt
  pick_if ask a true true own e = pick_meant ask a ask.answer own (and_parts (is_none a.row.placed) (is_none a.row.ended) e).0

  pick_of_row : (ask : Ask) (o : Option Attempt) → numbered s.attempts ask.row ≡ o
      → MeantIf s (option_and_then (λ (a : Attempt). if is_unfollowed a && (ask.entry == entry s) then follow_pick ask s a ask.answer else None) o)
  pick_of_row ask None got = tt
  pick_of_row ask (Some a) got =
      let at : a.place ≡ ask.row = counted_at (λ (z : Attempt). z.place) s.attempts ask.row a kept.attempts got in
      pick_if ask a (is_unfollowed a) (ask.entry == entry s) (ap (numbered s.attempts) at ∙ got) refl

  ask_meant : (ask : Ask) → MeantIf s (follow_ask s ask)
  ask_meant ask = pick_of_row ask (numbered s.attempts ask.row) refl

  -- calls
  ended_meant : (why : EndCause) (test : Call → Bool) → MeantIf s (next_ended why test s)
  ended_meant why test = meant_map s (ending_call why) (λ c. tt) (find test s.calls)

  abbrev after_cuts : OpenEntry → List (Option Action)
  after_cuts o = next_inherited s ∷ next_ended ending.Row (is_over_by_row s) s ∷ next_final s ∷ next_ended ending.Cancelled (is_cancelled o) s
      ∷ next_ended ending.Request (has_long_request o s) s ∷ next_overflow s ∷ next_headed s ∷ next_ended ending.Response (has_long_response s) s ∷ []

  calls_meant : (o : OpenEntry) → MeantIf s (of_calls o s)
  calls_meant o =
      plain_or s (next_cut s) (next_transparent s ∷ after_cuts o) (meant_first s (cut s) s.attempts (λ i a got. cut_meant a (own_at i a got)))
      (plain_or s (next_transparent s) (after_cuts o) (meant_map s (transparent_retry s) (λ a. tt) (find (λ (a : Attempt). wants_follower a s) s.attempts))
      (plain_or s (next_inherited s) (next_ended ending.Row (is_over_by_row s) s ∷ next_final s ∷ next_ended ending.Cancelled (is_cancelled o) s
      ∷ next_ended ending.Request (has_long_request o s) s ∷ next_overflow s ∷ next_headed s ∷ next_ended ending.Response (has_long_response s) s ∷ [])
      (meant_map s (committing commit.Inherited) (λ a. tt) (find (is_inherited s) s.attempts))
      (plain_or s (next_ended ending.Row (is_over_by_row s) s) (next_final s ∷ next_ended ending.Cancelled (is_cancelled o) s
      ∷ next_ended ending.Request (has_long_request o s) s ∷ next_overflow s ∷ next_headed s ∷ next_ended ending.Response (has_long_response s) s ∷ [])
      (ended_meant ending.Row (is_over_by_row s))
      (plain_or s (next_final s) (next_ended ending.Cancelled (is_cancelled o) s
      ∷ next_ended ending.Request (has_long_request o s) s ∷ next_overflow s ∷ next_headed s ∷ next_ended ending.Response (has_long_response s) s ∷ [])
      (meant_map s (committing commit.Final) (λ a. tt) (find (is_final_end s) s.attempts))
      (plain_or s (next_ended ending.Cancelled (is_cancelled o) s) (next_ended ending.Request (has_long_request o s) s ∷ next_overflow s ∷ next_headed s
      ∷ next_ended ending.Response (has_long_response s) s ∷ []) (ended_meant ending.Cancelled (is_cancelled o))
      (plain_or s (next_ended ending.Request (has_long_request o s) s) (next_overflow s ∷ next_headed s ∷ next_ended ending.Response (has_long_response s) s ∷ [])
      (ended_meant ending.Request (has_long_request o s))
      (plain_or s (next_overflow s) (next_headed s ∷ next_ended ending.Response (has_long_response s) s ∷ [])
      (meant_map s (committing commit.Overflow) (λ a. tt) (first_of (overflow_row s) s.calls))
      (plain_or s (next_headed s) (next_ended ending.Response (has_long_response s) s ∷ [])
      (meant_map s (committing commit.Head) (λ a. tt) (find (is_headed s) s.attempts))
      (plain_or s (next_ended ending.Response (has_long_response s) s) [] (ended_meant ending.Response (has_long_response s)) tt)))))))))

  -- links
  link_meant : (b : Subchannel) → MeantIf s (link_action s b)
  link_meant b =
      meant_if s (is_to_be_ready s b) (Some (action.SettingsArrive b.number)) (if is_to_go_down s b then Some (action.LinkDown b.number) else None) tt
      (meant_if s (is_to_go_down s b) (Some (action.LinkDown b.number)) None tt tt)

  resets_meant : MeantIf s (next_reset s)
  resets_meant =
      meant_then s (reset_of s) (λ a. meant_map s (λ (number : ℕ). action.StreamReset a.place number) (λ number. tt) (reset_code_of s a))
      (foremost is_stream_before (filter (λ (a : Attempt). is_some (reset_code_of s a)) s.attempts))

  links_meant : (o : OpenEntry) → MeantIf s (of_links o s)
  links_meant o =
      plain_or s (next_of_pick s) (next_of_links s ∷ (if is_loss o.event then None else next_wire_end s) ∷ next_reset s ∷ next_wire_end s ∷ [])
      (meant_then s (follow_ask s) ask_meant (last_of s.asks))
      (plain_or s (next_of_links s) ((if is_loss o.event then None else next_wire_end s) ∷ next_reset s ∷ next_wire_end s ∷ [])
      (meant_first s (link_action s) s.subs (λ i b got. link_meant b))
      (plain_or s (if is_loss o.event then None else next_wire_end s) (next_reset s ∷ next_wire_end s ∷ []) (meant_if s (is_loss o.event) None (next_wire_end s) tt wires_meant)
      (plain_or s (next_reset s) (next_wire_end s ∷ []) resets_meant (plain_or s (next_wire_end s) [] wires_meant tt))))

  -- policies
  begun_meant : (k : Kind) → MeantIf s (begin_if s k)
  begun_meant k = meant_if s (list_any (λ (g : PolicyUse). is_same_kind g.generation.kind k) (live_policies s)) None (Some (action.PolicyBegins k)) tt tt

  policies_meant : (o : OpenEntry) → MeantIf s (of_policies o s)
  policies_meant o =
      plain_or s (next_ended ending.Shut (is_shut_down s) s) (next_retired o s ∷ next_begun o s ∷ next_given o s ∷ next_shut s ∷ next_added s ∷ []) (ended_meant ending.Shut (is_shut_down s))
      (plain_or s (next_retired o s) (next_begun o s ∷ next_given o s ∷ next_shut s ∷ next_added s ∷ [])
      (meant_map s (λ (g : PolicyUse). action.PolicyRetired g.number) (λ g. tt) (find (is_to_retire o s) s.policies))
      (plain_or s (next_begun o s) (next_given o s ∷ next_shut s ∷ next_added s ∷ []) (meant_then s (begin_if s) begun_meant (wanted_kind o s))
      (plain_or s (next_given o s) (next_shut s ∷ next_added s ∷ [])
      (meant_map s (λ (g : PolicyUse). action.AddressesGiven g.number) (λ g. tt) (find (wants_addresses o s) s.policies))
      (plain_or s (next_shut s) (next_added s ∷ []) (meant_map s (λ (b : Subchannel). action.SubchannelShut b.number) (λ b. tt) (find (is_unlisted s) s.subs))
      (plain_or s (next_added s) []
      (meant_map s (λ (address : Address). action.SubchannelAdded address) (λ address. tt) (find (λ (address : Address). is_none (live_sub s address)) (listed s))) tt)))))

  -- frames
  read_meant : (link : ℕ) (n : NextRead) → MeantIf s (read_action link n)
  read_meant link nextread.Nothing = tt
  read_meant link (nextread.Frame r) = tt
  read_meant link (nextread.Broken number) = tt

  next_meant : (link : ℕ) (l : Link) → MeantIf s (read_next link s l)
  next_meant link l = meant_if s (is_none l.over) (read_action link (next_read l s)) None (read_meant link (next_read l s)) tt

  write_meant : (link most : ℕ) (o : OpenEntry) (x : Sent) → MeantIf s (frame_to_write link most o s x)
  write_meant link most o x = meant_if s (fits_drain most o x) (Some (action.FrameWritten link x)) None tt tt

  frame_meant : (o : OpenEntry) (e : Event) → MeantIf s (frame_of_event e o s)
  frame_meant o (event.Arrived link piece) = meant_then s (read_next link s) (next_meant link) (numbered s.links link)
  frame_meant o (event.Drain link most) =
      meant_then s (λ (l : Link). option_and_then (frame_to_write link most o s) (sendable l s)) (λ l. meant_then s (frame_to_write link most o s) (write_meant link most o) (sendable l s)) (numbered s.links link)
  frame_meant o _ = tt

  replied_meant : (o : OpenEntry) → MeantIf s (of_stage o s stage.Replied)
  replied_meant o =
      plain_or s (frame_action o s) (Some action.SettlingBegins ∷ []) (meant_if s (is_after_event o) (frame_of_event o.event o s) None (frame_meant o o.event) tt) tt

  in_meant : (o : OpenEntry) → o.stage ≡ stage.Replied → MeantIf s (following_in s o)
  in_meant o at =
      plain_or s (of_calls o s) (of_links o s ∷ of_policies o s ∷ of_stage o s o.stage ∷ []) (calls_meant o)
      (plain_or s (of_links o s) (of_policies o s ∷ of_stage o s o.stage ∷ []) (links_meant o)
      (plain_or s (of_policies o s) (of_stage o s o.stage ∷ []) (policies_meant o)
      (plain_or s (of_stage o s o.stage) [] (subst (λ (g : Stage). MeantIf s (of_stage o s g)) (sym at) (replied_meant o)) tt)))

  -- once the event was answered
  pub next_is_meant : (o : OpenEntry) (a : Action) → s.current ≡ Some o → o.stage ≡ stage.Replied → following s ≡ Some a → IsMeant s a
  next_is_meant o a current at next =
      subst (MeantIf s) (sym (ap (option_and_then (following_in s)) current) ∙ next) (in_meant o at)
