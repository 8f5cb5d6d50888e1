-- A call begins by an event: no line gives it, and no other stage of an entry. So it is with a dial that is taken, a link
-- that comes up, bytes that come, and an answer.
use Rattle.attempt_ledger.specs.declared.ledger.Ask.{Ask}
use Rattle.grpc_base.specs.declared.address.Address.{Address}
use Rattle.grpc_base.specs.declared.event.EndCause.TheVariants as ending
use Rattle.grpc_base.specs.declared.event.EndCause.{EndCause}
use Rattle.grpc_base.specs.declared.event.Event.TheVariants as event
use Rattle.grpc_base.specs.declared.event.Event.{Event}
use Rattle.grpc_base.specs.declared.kind.Kind.{Kind}
use Rattle.grpc_base.specs.declared.kind.Pick.TheVariants as pick
use Rattle.grpc_base.specs.declared.kind.Pick.{Pick}
use Rattle.attempt_ledger.specs.Hedging.{is_hedge}
use Rattle.lb_policy.specs.Table.{pick_of}
use Rattle.session_actions.specs.Actions.{config_action, first_action, following, following_in, of_calls, of_links, of_policies, of_settling, of_stage}
use Rattle.session_actions.specs.AttemptEnds.{cut, cut_end, end_of, next_cut, next_reset, next_wire_end, outcome_of, reset_code_of, reset_of, wire_end}
use Rattle.session_actions.specs.Attempts.{is_outstanding, is_over, wants_follower}
use Rattle.session_actions.specs.CallEnds.{ending_call, has_long_request, has_long_response, is_after_event, is_cancelled, is_over_by_row, is_shut_down, lacks_config, next_ended}
use Rattle.session_actions.specs.Calls.{is_open_call}
use Rattle.session_actions.specs.Commitments.{committing, is_final_end, is_headed, is_inherited, next_final, next_headed, next_inherited, next_overflow, overflow_row}
use Rattle.session_actions.specs.Configs.{is_to_configure}
use Rattle.session_actions.specs.DueAttempts.{attempts_made, kind_of_next, next_due}
use Rattle.session_actions.specs.Entries.{entry, now}
use Rattle.session_actions.specs.Events.{frame_action, frame_of_event, is_loss}
use Rattle.session_actions.specs.Links.{is_stream_before}
use Rattle.session_actions.specs.Making.{due_action, due_attempt, due_if_past, next_due_attempt, next_transparent, transparent_retry}
use Rattle.session_actions.specs.Policies.{asking, begin_if, current_policy, follow_ask, follow_pick, is_after, is_queued_before, is_same_kind, is_served, is_to_retire, is_unfollowed, listed, live_policies, live_sub, may_take_over, next_asked, next_begun, next_given, next_of_pass, next_of_pick, next_of_queue, next_retired, next_take_over, pending_policy, placed_on, policy_of, wanted_kind, wants_addresses}
use Rattle.session_actions.specs.Reading.{next_read}
use Rattle.session_actions.specs.Subchannels.{clock_action, is_idle, is_rested, is_to_be_ready, is_to_go_down, is_too_late, is_unlisted, is_wished, link_action, next_added, next_connected, next_of_clock, next_of_links, next_shut}
use Rattle.session_actions.specs.Tokens.{has_tokens}
use Rattle.session_actions.specs.Words.{first_of, foremost, last_of, numbered}
use Rattle.session_actions.specs.Writing.{fits_drain, frame_to_write, read_action, read_next, sendable}
use Rattle.session_actions.specs.declared.action.Action.TheVariants as action
use Rattle.session_actions.specs.declared.action.Action.{Action}
use Rattle.session_actions.specs.declared.action.CommitCause.TheVariants as commit
use Rattle.session_actions.specs.declared.attempt.Attempt.{Attempt}
use Rattle.session_actions.specs.declared.call.Call.{Call}
use Rattle.session_actions.specs.declared.entry.OpenEntry.{OpenEntry}
use Rattle.session_actions.specs.declared.entry.Stage.TheVariants as stage
use Rattle.session_actions.specs.declared.entry.Stage.{Stage}
use Rattle.session_actions.specs.declared.entry.Turn.{Turn}
use Rattle.session_actions.specs.declared.link.Link.{Link}
use Rattle.session_actions.specs.declared.link.NextRead.TheVariants as nextread
use Rattle.session_actions.specs.declared.link.NextRead.{NextRead}
use Rattle.session_actions.specs.declared.policy.PolicyUse.{PolicyUse}
use Rattle.session_actions.specs.declared.response.Outcome.{Outcome}
use Rattle.session_actions.specs.declared.seen.Seen.{Seen}
use Rattle.session_actions.specs.declared.subchannel.Subchannel.{Subchannel}
use Rattle.std.proofs.Common.{Bool, List, None, Option, Some, [], ap, false, filter, find, if◌then◌else◌, is_none, is_some, length, nat_le, not, option_and_then, option_map, refl, subst, sym, true, ℕ, ◌&&◌, ◌+◌, ◌==◌, ◌∙◌, ◌∷◌, ◌≡◌}
use Rattle.std.specs.List.{list_any}
use Rattle.std.specs.Option.{option_or}

abbrev pub is_begin : Action → Bool
is_begin action.CallBegins = true
is_begin (action.DialTaken sub again until) = true
is_begin (action.LinkUp sub) = true
is_begin (action.BytesArrive link) = true
is_begin (action.EventRefused why) = true
is_begin (action.EventAnswered r) = true
is_begin (action.ItemTaken call item) = true
is_begin _ = false

-- these, and others that the stage of an entry alone gives: none of them follows at once
abbrev pub is_of_stage : Action → Bool
is_of_stage action.CallBegins = true
is_of_stage (action.DialTaken sub again until) = true
is_of_stage (action.LinkUp sub) = true
is_of_stage (action.BytesArrive link) = true
is_of_stage (action.EventRefused why) = true
is_of_stage (action.EventAnswered r) = true
is_of_stage (action.ItemTaken call item) = true
is_of_stage (action.FrameRead link r) = true
is_of_stage (action.FrameWritten link x) = true
is_of_stage action.SettlingBegins = true
is_of_stage (action.PickRequested row generation answer) = true
is_of_stage action.EntryCloses = true
is_of_stage _ = false

abbrev pub is_at_event : Stage → Bool
is_at_event stage.Event = true
is_at_event _ = false

-- what is given, if anything, is none of these
abbrev Never : Option Action → Type 0
Never None = Unit {0}
Never (Some a) = is_of_stage a ≡ false

abbrev AllNever : List (Option Action) → Type 0
AllNever [] = Unit {0}
AllNever (o ∷ os) = Never o × AllNever os

never_or : (o p : Option Action) → Never o → Never p → Never (option_or o p)
never_or None p f g = g
never_or (Some a) p f g = f

never_first : (os : List (Option Action)) → AllNever os → Never (first_action os)
never_first [] all = tt
never_first (o ∷ os) all = never_or o (first_action os) all.0 (never_first os all.1)

never_map : {X : Type 0} (f : X → Action) → ((x : X) → is_of_stage (f x) ≡ false) → (o : Option X) → Never (option_map f o)
never_map f each None = tt
never_map f each (Some x) = each x

never_then : {X : Type 0} (f : X → Option Action) → ((x : X) → Never (f x)) → (o : Option X) → Never (option_and_then f o)
never_then f each None = tt
never_then f each (Some x) = each x

never_each : {X : Type 0} (f : X → Option Action) → ((x : X) → Never (f x)) → (xs : List X) → Never (first_of f xs)
never_each f each [] = tt
never_each f each (x ∷ xs) = never_or (f x) (first_of f xs) (each x) (never_each f each xs)

never_if : (b : Bool) (o p : Option Action) → Never o → Never p → Never (if b then o else p)
never_if true o p f g = f
never_if false o p f g = g

neither : (b : Bool) (a c : Action) → is_of_stage a ≡ false → is_of_stage c ≡ false → is_of_stage (if b then a else c) ≡ false
neither true a c f g = f
neither false a c f g = g

-- what is given, if anything, begins nothing
abbrev Unbegun : Option Action → Type 0
Unbegun None = Unit {0}
Unbegun (Some a) = is_begin a ≡ false

restricted : (a : Action) → is_of_stage a ≡ false → is_begin a ≡ false
restricted action.CallBegins e = absurd (cc)
restricted (action.DialTaken sub again until) e = absurd (cc)
restricted (action.LinkUp sub) e = absurd (cc)
restricted (action.BytesArrive link) e = absurd (cc)
restricted (action.EventRefused why) e = absurd (cc)
restricted (action.EventAnswered r) e = absurd (cc)
restricted (action.ItemTaken call item) e = absurd (cc)
restricted a e = refl

unbegun_of : (o : Option Action) → Never o → Unbegun o
unbegun_of None n = tt
unbegun_of (Some a) n = restricted a n

unbegun_or : (o p : Option Action) → Unbegun o → Unbegun p → Unbegun (option_or o p)
unbegun_or None p f g = g
unbegun_or (Some a) p f g = f

unbegun_map : {X : Type 0} (f : X → Action) → ((x : X) → is_begin (f x) ≡ false) → (o : Option X) → Unbegun (option_map f o)
unbegun_map f each None = tt
unbegun_map f each (Some x) = each x

unbegun_then : {X : Type 0} (f : X → Option Action) → ((x : X) → Unbegun (f x)) → (o : Option X) → Unbegun (option_and_then f o)
unbegun_then f each None = tt
unbegun_then f each (Some x) = each x

unbegun_if : (b : Bool) (o : Option Action) → Unbegun o → Unbegun (if b then o else None)
unbegun_if true o f = f
unbegun_if false o f = tt

-- what the stage alone gives: nothing follows at once
pub record IsOfStage (s : Seen) (o : OpenEntry) (a : Action) : Type 0 where
  pub calls : of_calls o s ≡ None
  pub links : of_links o s ≡ None
  pub policies : of_policies o s ≡ None
  pub gives : of_stage o s o.stage ≡ Some a

module _ (s : Seen) where
  never_cut : (a : Attempt) → Never (cut s a)
  never_cut a = never_if (is_outstanding a && is_over a s) (Some (action.AttemptEnds a.place (end_of a cut_end s))) None refl tt

  never_wire : (a : Attempt) → Never (wire_end s a)
  never_wire a =
      never_if (is_outstanding a && not (is_over a s)) (option_map (λ (t : Outcome). action.AttemptEnds a.place (end_of a t s)) (outcome_of a s)) None
      (never_map (λ (t : Outcome). action.AttemptEnds a.place (end_of a t s)) (λ t. refl) (outcome_of a s)) tt

  never_pick : (a : Attempt) (ask : Ask) (p : Pick) → Never (follow_pick ask s a p)
  never_pick a ask (pick.Place sub) = never_map (λ (b : Subchannel). action.AttemptPlaced a.place (placed_on ask s b)) (λ b. refl) (numbered s.subs sub)
  never_pick a ask pick.Fail = refl
  never_pick a ask pick.Wait = tt

  never_ask : (ask : Ask) → Never (follow_ask s ask)
  never_ask ask =
      never_then (λ (a : Attempt). if is_unfollowed a && (ask.entry == entry s) then follow_pick ask s a ask.answer else None)
      (λ a. never_if (is_unfollowed a && (ask.entry == entry s)) (follow_pick ask s a ask.answer) None (never_pick a ask ask.answer) tt)
      (numbered s.attempts ask.row)

  never_config : (c : Call) → Never (config_action s c)
  never_config c =
      never_if (is_to_configure s c) (Some (action.CallConfigured c.number (length s.configs)))
      (if lacks_config s c then Some (action.CallEnds c.number ending.NoConfig) else None) refl
      (never_if (lacks_config s c) (Some (action.CallEnds c.number ending.NoConfig)) None refl tt)

  never_past : (c : Call) (d : ℕ) → Never (due_if_past c s d)
  never_past c d =
      never_if (nat_le d (now s)) (Some (due_attempt c s d)) None
      (neither (is_hedge (kind_of_next c s) && not (has_tokens c s)) (action.HedgeWithheld c.number) (action.AttemptMade c.number (attempts_made c s + 1) (kind_of_next c s) d) refl refl) tt

  never_due : (c : Call) → Never (due_action s c)
  never_due c = never_if (is_open_call c) (option_and_then (due_if_past c s) (next_due c s)) None (never_then (due_if_past c s) (never_past c) (next_due c s)) tt

  unbegun_asked : (test : Attempt → Bool) → Unbegun (next_asked test s)
  unbegun_asked test =
      unbegun_then (asking s)
      (λ a. unbegun_map (λ (g : PolicyUse). action.PickRequested a.place g.number (pick_of (policy_of g s))) (λ g. refl) (current_policy s))
      (foremost is_queued_before (filter (λ (a : Attempt). is_served s a && test a) s.attempts))

  unbegun_read : (link : ℕ) (n : NextRead) → Unbegun (read_action link n)
  unbegun_read link nextread.Nothing = tt
  unbegun_read link (nextread.Frame r) = refl
  unbegun_read link (nextread.Broken number) = refl

  unbegun_frame : (o : OpenEntry) (e : Event) → Unbegun (frame_of_event e o s)
  unbegun_frame o (event.Arrived link piece) =
      unbegun_then (read_next link s) (λ l. unbegun_if (is_none l.over) (read_action link (next_read l s)) (unbegun_read link (next_read l s))) (numbered s.links link)
  unbegun_frame o (event.Drain link most) =
      unbegun_then (λ (l : Link). option_and_then (frame_to_write link most o s) (sendable l s))
      (λ l. unbegun_then (frame_to_write link most o s) (λ x. unbegun_if (fits_drain most o x) (Some (action.FrameWritten link x)) refl) (sendable l s)) (numbered s.links link)
  unbegun_frame o _ = tt

  never_clock : (b : Subchannel) → Never (clock_action s b)
  never_clock b =
      never_if (is_too_late s b) (Some (action.ConnectTimesOut b.number)) (if is_rested s b then Some (action.BackoffEnds b.number) else None) refl
      (never_if (is_rested s b) (Some (action.BackoffEnds b.number)) None refl tt)

  never_link : (b : Subchannel) → Never (link_action s b)
  never_link b =
      never_if (is_to_be_ready s b) (Some (action.SettingsArrive b.number)) (if is_to_go_down s b then Some (action.LinkDown b.number) else None) refl
      (never_if (is_to_go_down s b) (Some (action.LinkDown b.number)) None refl tt)

  never_ended : (why : EndCause) (test : Call → Bool) → Never (next_ended why test s)
  never_ended why test = never_map (ending_call why) (λ c. refl) (find test s.calls)

  never_calls : (o : OpenEntry) → Never (of_calls o s)
  never_calls o =
      never_first (
      next_cut s ∷ next_transparent s ∷ next_inherited s ∷ next_ended ending.Row (is_over_by_row s) s
      ∷ next_final s ∷ next_ended ending.Cancelled (is_cancelled o) s ∷ next_ended ending.Request (has_long_request o s) s
      ∷ next_overflow s ∷ next_headed s ∷ next_ended ending.Response (has_long_response s) s ∷ []) (
        never_each (cut s) never_cut s.attempts,
        (
          never_map (transparent_retry s) (λ a. refl) (find (λ (a : Attempt). wants_follower a s) s.attempts),
          (
            never_map (committing commit.Inherited) (λ a. refl) (find (is_inherited s) s.attempts),
            (
              never_ended ending.Row (is_over_by_row s),
              (
                never_map (committing commit.Final) (λ a. refl) (find (is_final_end s) s.attempts),
                (
                  never_ended ending.Cancelled (is_cancelled o),
                  (
                    never_ended ending.Request (has_long_request o s),
                    (
                      never_map (committing commit.Overflow) (λ a. refl) (first_of (overflow_row s) s.calls),
                      (
                        never_map (committing commit.Head) (λ a. refl) (find (is_headed s) s.attempts),
                        (never_ended ending.Response (has_long_response s), tt),
                      ),
                    ),
                  ),
                ),
              ),
            ),
          ),
        ),
      )

  never_wires : Never (next_wire_end s)
  never_wires = never_each (wire_end s) never_wire s.attempts

  never_links : (o : OpenEntry) → Never (of_links o s)
  never_links o =
      never_first (
      next_of_pick s ∷ next_of_links s ∷ (if is_loss o.event then None else next_wire_end s) ∷ next_reset s ∷ next_wire_end s ∷ []) (
        never_then (follow_ask s) never_ask (last_of s.asks),
        (
          never_each (link_action s) never_link s.subs,
          (
            never_if (is_loss o.event) None (next_wire_end s) tt never_wires,
            (
              never_then (reset_of s) (λ a. never_map (λ (number : ℕ). action.StreamReset a.place number) (λ number. refl) (reset_code_of s a))
                  (foremost is_stream_before (filter (λ (a : Attempt). is_some (reset_code_of s a)) s.attempts)),
              (never_wires, tt),
            ),
          ),
        ),
      )

  never_begun : (k : Kind) → Never (begin_if s k)
  never_begun k = never_if (list_any (λ (g : PolicyUse). is_same_kind g.generation.kind k) (live_policies s)) None (Some (action.PolicyBegins k)) tt refl

  never_policies : (o : OpenEntry) → Never (of_policies o s)
  never_policies o =
      never_first (
      next_ended ending.Shut (is_shut_down s) s ∷ next_retired o s ∷ next_begun o s ∷ next_given o s ∷ next_shut s ∷ next_added s ∷ []) (
        never_ended ending.Shut (is_shut_down s),
        (
          never_map (λ (g : PolicyUse). action.PolicyRetired g.number) (λ g. refl) (find (is_to_retire o s) s.policies),
          (
            never_then (begin_if s) never_begun (wanted_kind o s),
            (
              never_map (λ (g : PolicyUse). action.AddressesGiven g.number) (λ g. refl) (find (wants_addresses o s) s.policies),
              (
                never_map (λ (b : Subchannel). action.SubchannelShut b.number) (λ b. refl) (find (is_unlisted s) s.subs),
                (never_map (λ (address : Address). action.SubchannelAdded address) (λ address. refl) (find (λ (address : Address). is_none (live_sub s address)) (listed s)), tt),
              ),
            ),
          ),
        ),
      )

  unbegun_settling : (o : OpenEntry) → Unbegun (of_settling o s)
  unbegun_settling o =
      unbegun_or (next_of_clock s) _ (unbegun_of (next_of_clock s) (never_each (clock_action s) never_clock s.subs))
      (unbegun_or (next_take_over s) _
      (unbegun_then (λ (g : PolicyUse). if may_take_over s g then Some (action.PolicyTakesOver g.number) else None)
      (λ g. unbegun_if (may_take_over s g) (Some (action.PolicyTakesOver g.number)) refl) (pending_policy s))
      (unbegun_or (next_connected s) _ (unbegun_map (λ (b : Subchannel). action.SubchannelConnects b.number) (λ b. refl) (find (λ (b : Subchannel). is_idle b.state && is_wished s b) s.subs))
      (unbegun_or (first_of (config_action s) s.calls) _ (unbegun_of (first_of (config_action s) s.calls) (never_each (config_action s) never_config s.calls))
      (unbegun_or (next_of_pass o s) _ (unbegun_then (λ (t : Turn). next_asked (is_after t) s) (λ t. unbegun_asked (is_after t)) o.turn)
      (unbegun_or (next_due_attempt s) _ (unbegun_of (next_due_attempt s) (never_each (due_action s) never_due s.calls))
      (unbegun_or (next_of_queue s) _ (unbegun_asked (λ (a : Attempt). true)) refl))))))

  unbegun_stage : (o : OpenEntry) (g : Stage) → is_at_event g ≡ false → Unbegun (of_stage o s g)
  unbegun_stage o stage.Event e = absurd (cc)
  unbegun_stage o stage.Replied e =
      unbegun_or (frame_action o s) _ (unbegun_if (is_after_event o) (frame_of_event o.event o s) (unbegun_frame o o.event)) refl
  unbegun_stage o stage.Settling e = unbegun_settling o

  -- what the stage alone gives follows only where nothing follows at once
  past_none : (p q : Option Action) (a : Action) → Never p → is_of_stage a ≡ true → option_or p q ≡ Some a → (p ≡ None) × (q ≡ Some a)
  past_none None q a n is e = (refl, e)
  past_none (Some b) q a n is e =
      absurd (let one : b ≡ a = (cc) in let bad : true ≡ false = sym is ∙ ap (λ (c : Action). is_of_stage c) (sym one) ∙ n in let no : ⊥ = (cc) in no)

  of_stage_in : (o : OpenEntry) (a : Action) → is_of_stage a ≡ true → following_in s o ≡ Some a → IsOfStage s o a
  of_stage_in o a is next =
      let one = past_none (of_calls o s) (first_action (of_links o s ∷ of_policies o s ∷ of_stage o s o.stage ∷ [])) a (never_calls o) is next in
      let two = past_none (of_links o s) (first_action (of_policies o s ∷ of_stage o s o.stage ∷ [])) a (never_links o) is one.1 in
      let three = past_none (of_policies o s) (first_action (of_stage o s o.stage ∷ [])) a (never_policies o) is two.1 in
      record { calls = one.0; links = two.0; policies = three.0; gives = last_one (of_stage o s o.stage) a three.1 }
    where
      last_one : (q : Option Action) (b : Action) → option_or q None ≡ Some b → q ≡ Some b
      last_one None b e = absurd (let no : None ≡ Some b = e in (cc))
      last_one (Some c) b e = e

  at_event : (o : OpenEntry) (a : Action) (b : Bool) → is_begin a ≡ true → is_at_event o.stage ≡ b → of_stage o s o.stage ≡ Some a → is_at_event o.stage ≡ true
  at_event o a true is e next = e
  at_event o a false is e next =
      (let none : is_begin a ≡ false = subst Unbegun next (unbegun_stage o o.stage e) in let no : true ≡ false = sym is ∙ none in absurd (cc))

pub is_stage_next : (s : Seen) (o : OpenEntry) (a : Action) → is_of_stage a ≡ true → s.current ≡ Some o → following s ≡ Some a → IsOfStage s o a
is_stage_next s o a is at next = of_stage_in s o a is (sym (ap (option_and_then (following_in s)) at) ∙ next)

pub begins_at_event : (s : Seen) (o : OpenEntry) (a : Action) → is_begin a ≡ true → is_of_stage a ≡ true → s.current ≡ Some o → following s ≡ Some a → is_at_event o.stage ≡ true
begins_at_event s o a is of_stage_is at next = at_event s o a (is_at_event o.stage) is refl (is_stage_next s o a of_stage_is at next).gives
