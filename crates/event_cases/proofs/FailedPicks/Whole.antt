-- An attempt ends by a failed pick, in a pass over the queue: the session goes on in the pass after it, where it agrees with the channel again.
use Rattle.attempt_ledger.specs.declared.ledger.LinkSeen.{LinkSeen}
use Rattle.attempt_ledger.specs.declared.news.EndNews.{EndNews}
use Rattle.attempt_ledger.specs.declared.news.News.TheVariants as news
use Rattle.attempt_ledger.specs.declared.row.Placed.{Placed}
use Rattle.attempt_ledger.specs.declared.row.Row.{Row}
use Rattle.call_actions.proofs.Ranks.{numbered_map}
use Rattle.call_actions.specs.CallsApart.Apart.{has_config}
use Rattle.call_actions.specs.Laws.{news_of}
use Rattle.call_core.specs.Parts.{pick_end as channel_end}
use Rattle.call_core.specs.Steps.{pick_failed as pick_fails}
use Rattle.call_core.specs.declared.act.CallAct.TheVariants as act
use Rattle.call_core.specs.declared.act.CallAct.{CallAct}
use Rattle.channel_actions.proofs.ActsFollowed.Acts.{acts_form, parts_of}
use Rattle.channel_actions.proofs.BoardActions.Quiescent.{of_order}
use Rattle.channel_actions.proofs.Does.{does_on, none_on}
use Rattle.channel_actions.proofs.Calls.Few.Reached.{reached_on}
use Rattle.channel_actions.proofs.Gone.{all_numbered}
use Rattle.channel_actions.proofs.Links.Settings.Firsts.{none_numbered}
use Rattle.channel_actions.proofs.Links.Settings.Pairs.{self_same}
use Rattle.channel_actions.proofs.Settles.{is_with_open, with_open}
use Rattle.channel_actions.proofs.Calls.Sound.Keeping.{goes_on}
use Rattle.channel_actions.specs.Agrees.{Agrees}
use Rattle.channel_actions.specs.Quiescent.{IsAt}
use Rattle.channel_actions.specs.FewCalls.Reached.{IsReached}
use Rattle.channel_actions.specs.GoingCalls.Going.{CallsGoOn}
use Rattle.channel_actions.specs.KeptCalls.Early.{IsEarlyKept, is_past}
use Rattle.channel_actions.specs.Points.{IsSameEntry}
use Rattle.channel_actions.specs.Sets.{PairsAreExactly, is_awaiting_config}
use Rattle.call_cases.proofs.ConfigActions.NetLines.{clock_stays, over_stays, wish_stays}
use Rattle.call_cases.proofs.ConfiguredCalls.Lists.{same_words}
use Rattle.end_cases.proofs.CutEnds.Whole.{one_attempt_ends}
use Rattle.event_cases.proofs.FailedPicks.Ends.{c, c_there, end_next, unplaced}
use Rattle.event_cases.proofs.LostLinks.Ends.{none_waits}
use Rattle.attempt_cases.proofs.MakingSteps.Step.{none_at as none_given}
use Rattle.end_cases.proofs.OwedResets.Sealed.{all_sealed_is, seal_all}
use Rattle.end_cases.proofs.OwedResets.Whole.{resets_are_made}
use Rattle.attempt_cases.proofs.ServeSteps.Answering.{answers_are_next}
use Rattle.end_cases.specs.AttemptEnds.Ends.{HasEnded, ended_in, gone_with, taken_off}
use Rattle.end_cases.specs.AttemptEnds.Laws.{HasReset, all_sealed}
use Rattle.attempt_cases.specs.PassActions.Serves.{turn_of}
use Rattle.attempt_cases.specs.ServeSteps.Follows.{FailsFollow, IsAsked, IsFailed, IsFollowed, passed_by, request_made}
use Rattle.attempt_cases.specs.ServeSteps.Laws.{AskNext, answer_for, asked_for}
use Rattle.call_cases.specs.SettlingActions.Sound.{IsSound}
use Rattle.channel_core.specs.Books.{BookActs, book_acted, call_of as call_of_row, has_drawn, link_of as link_in, row_at}
use Rattle.channel_core.specs.Settling.{moves, picked}
use Rattle.channel_core.specs.States.{StateSeen}
use Rattle.channel_core.specs.Steps.{act_done, acts_done, drawn_if, is_gone, next_word, pick_failed, reset_on, sealed, reported, reported_acts, reported_to, unqueued, with_ledger_links}
use Rattle.channel_core.specs.Tables as tables
use Rattle.grpc_base.specs.declared.event.EndCause.TheVariants as ending_cause
use Rattle.grpc_base.specs.declared.kind.Pick.TheVariants as pick
use Rattle.grpc_base.specs.declared.kind.Pick.{Pick}
use Rattle.ledger_stamps.specs.Steps.{changed_at, gone_link}
use Rattle.net_actions.proofs.Clocks.{clock_changes, none_due}
use Rattle.net_actions.proofs.TakingOver.{take_overs_are_same}
use Rattle.net_actions.proofs.Wishes.{none_connects, wishes_connect}
use Rattle.picker_gate.specs.Pairs.{has, is_same}
use Rattle.service_config.specs.declared.config.Config.{Config}
use Rattle.session_actions.specs.Actions.{config_action, following}
use Rattle.session_actions.specs.AttemptEnds.{end_of, pick_end}
use Rattle.session_actions.specs.Attempts.{call_of, commitment, is_over, is_over_in, is_queued}
use Rattle.session_actions.specs.CallEnds.{lacks_config}
use Rattle.session_actions.specs.Calls.{is_open_call}
use Rattle.session_actions.specs.Configs.{held_config, is_to_configure, waits_for_ready}
use Rattle.session_actions.specs.Entries.{last_moment}
use Rattle.session_actions.specs.Laws.{posted_in}
use Rattle.session_actions.specs.Links.{read_bytes}
use Rattle.session_actions.specs.Policies.{next_take_over}
use Rattle.session_actions.specs.Sessions.{Does}
use Rattle.session_actions.specs.Subchannels.{next_connected, next_of_clock}
use Rattle.session_actions.specs.Words.{first_of, holds, last_of, numbered}
use Rattle.session_actions.specs.declared.action.Action.TheVariants as action
use Rattle.session_actions.specs.declared.action.Action.{Action}
use Rattle.session_actions.specs.declared.attempt.Attempt.{Attempt}
use Rattle.session_actions.specs.declared.call.Call.{Call}
use Rattle.session_actions.specs.declared.config.HeldConfig.{HeldConfig}
use Rattle.session_actions.specs.declared.entry.OpenEntry.{OpenEntry}
use Rattle.session_actions.specs.declared.entry.Stage.TheVariants as stage
use Rattle.session_actions.specs.declared.policy.PolicyUse.{PolicyUse}
use Rattle.session_actions.specs.declared.seen.Seen.{Seen}
use Rattle.session_order.proofs.Quiescence.{quiescence_is_exact, first_line_gives}
use Rattle.session_order.specs.Quiescent.{IsStill}
use Rattle.session_order.specs.Lines.{is_line}
use Rattle.session_order.specs.declared.line.Line.TheVariants as line
use Rattle.session_order.specs.declared.line.Line.{Line}
use Rattle.std.proofs.Common.{Bool, List, None, Option, Some, [], ap, false, if◌then◌else◌, inr, is_none, is_some, length, map, not, option_map, refl, slice_get, subst, suc, sym, true, zero, ℕ, ◌&&◌, ◌++◌, ◌==◌, ◌||◌, ◌∙◌, ◌∷◌, ◌≡◌}
use Rattle.std.proofs.lemmas.Bool.{and_parts, and_right, both_ways}
use Rattle.std.specs.Option.{option_map_or}
use Rattle.std.specs.Prelude.{option_and_then}
use Rattle.std.specs.Set.{remove_key}

not_so : (b : Bool) → not b ≡ true → b ≡ false
not_so false e = refl
not_so true e = absurd (cc)

first_off : (p q : Bool) → (p || q) ≡ false → p ≡ false
first_off false q e = refl
first_off true q e = absurd (cc)

other_on : (p q : Bool) → p ≡ false → (p || q) ≡ true → q ≡ true
other_on false q e f = f
other_on true q e f = absurd (cc)

both_off : (p q r : Bool) → r ≡ true → (p && q && r) ≡ false → (p && q) ≡ false
both_off true true true e f = absurd (cc)
both_off true true false e f = absurd (cc)
both_off true false r e f = refl
both_off false q r e f = refl

none_first : (b c : Bool) (x y : Action) → (if b then Some x else if c then Some y else None) ≡ None → b ≡ false
none_first false c x y e = refl
none_first true c x y e = absurd (cc)

-- a list that has one thing has a last one
last_some : {X : Type 0} (x : X) (xs : List X) → is_some (slice_get (x ∷ xs) (length xs)) ≡ true
last_some x [] = refl
last_some x (y ∷ xs) = last_some y xs

some_last : {X : Type 0} (xs : List X) (i : ℕ) → is_some (numbered xs i) ≡ true → is_some (last_of xs) ≡ true
some_last [] zero e = absurd (cc)
some_last [] (suc i) e = absurd (cc)
some_last (x ∷ xs) i e = last_some x xs

-- no pair is in the set, where the test passes none
none_in : (pairs : List (ℕ × ℕ)) (test : ℕ → ℕ → Bool) → PairsAreExactly pairs test → ((i j : ℕ) → test i j ≡ false) → pairs ≡ []
none_in [] test h none = refl
none_in (p ∷ pairs) test h none =
    let here : has (p ∷ pairs) p ≡ true = ap (λ (b : Bool). b || has pairs p) (self_same p) in
    absurd (both_ways (has (p ∷ pairs) p) (h.exact p.0 p.1 ∙ none p.0 p.1) here)

-- what acts leave
unconfigured_if : (b : Bool) (ls : List LinkSeen) (z : StateSeen) → (if b then with_ledger_links ls z else z).awaiting_config ≡ z.awaiting_config
unconfigured_if true ls z = refl
unconfigured_if false ls z = refl

unconfigured_one : (n : ℕ) (a : CallAct) (z : StateSeen) → z.awaiting_config ≡ [] → (act_done n a z).awaiting_config ≡ []
unconfigured_one n (act.Cut row) z e =
    let i : ℕ = link_in (row_at z.book row) in
    let z1 : StateSeen = record (reset_on i row z) { outstanding = remove_key (is_same (i, row)) z.outstanding } in
    unconfigured_if (is_gone i z1) (changed_at (gone_link z1.book.ledger.entry) z1.book.ledger.links i) z1 ∙ e
unconfigured_one n (act.Drop row) z e = e
unconfigured_one n (act.Queue row) z e = e
unconfigured_one n (act.End why) z e = ap (remove_key (is_same (0, n))) e

unconfigured_all : (n : ℕ) (acts : List CallAct) (z : StateSeen) → z.awaiting_config ≡ [] → (acts_done n acts z).awaiting_config ≡ []
unconfigured_all n [] z e = e
unconfigured_all n (a ∷ acts) z e = unconfigured_all n acts (act_done n a z) (unconfigured_one n a z e)

-- an attempt that waits, at a point at which its end is all that follows: the channel and the session after it
module _ (a : Attempt) (y : StateSeen) (o : OpenEntry) (s : Seen) (h : Agrees y s) (current : s.current ≡ Some o) (there : numbered s.attempts a.place ≡ Some a)
    (queued : is_queued a s ≡ true) (next : following s ≡ Some (action.AttemptEnds a.place (end_of a pick_end s)))
    (quiescent : (l : Line) → is_line l line.Pick ≡ false → IsStill l o s) (reached : IsReached s) (early : IsEarlyKept s) (going : CallsGoOn y) where
  abbrev Ended : Type 0
  Ended = HasEnded [] none_waits [] a pick_end y o s

  pub he : Ended
  he = one_attempt_ends [] none_waits [] a pick_end y o s (end_next a y o s h current there queued next quiescent reached early.resets going) tt

  abbrev y1 : StateSeen
  y1 = ended_in a (news_of a pick_end s) y

  still_then : (l : Line) → is_line l line.Reset ≡ false → none_waits l ≡ false → IsStill l he.entry he.seen
  still_then line.Cut off w = he.still line.Cut refl
  still_then line.Transparent off w = he.still line.Transparent refl
  still_then line.Inherited off w = he.still line.Inherited refl
  still_then line.Row off w = he.still line.Row refl
  still_then line.Final off w = he.still line.Final refl
  still_then line.Cancelled off w = he.still line.Cancelled refl
  still_then line.Request off w = he.still line.Request refl
  still_then line.Overflow off w = he.still line.Overflow refl
  still_then line.Head off w = he.still line.Head refl
  still_then line.Response off w = he.still line.Response refl
  still_then line.Pick off w = he.still line.Pick refl
  still_then line.Link off w = he.still line.Link refl
  still_then line.WireEnd off w = he.wire (quiescent line.WireEnd refl)
  still_then line.Reset off w = absurd (cc)
  still_then line.Shut off w = he.late line.Shut refl refl
  still_then line.Retire off w = he.late line.Retire refl refl
  still_then line.Begin off w = he.late line.Begin refl refl
  still_then line.Give off w = he.late line.Give refl refl
  still_then line.Drop off w = he.late line.Drop refl refl
  still_then line.Add off w = he.late line.Add refl refl

  pub hr : HasReset none_waits [] y1 he.entry he.seen
  hr = resets_are_made none_waits [] y1 he.entry he.seen
      (record { late = λ l w. absurd (let bad : false ≡ true = w in (cc)); current = he.current; still = still_then; agrees = he.agrees })

  abbrev pub u : Seen
  u = hr.seen

  abbrev pub entry_after : OpenEntry
  entry_after = he.entry

  abbrev pub those : List Action
  those = (action.AttemptEnds a.place (end_of a pick_end s) ∷ he.actions) ++ hr.actions

  pub does : Does those s u
  does = does_on (action.AttemptEnds a.place (end_of a pick_end s) ∷ he.actions) hr.actions s he.seen u he.does hr.does

  pub posts : posted_in those ≡ []
  posts = none_on (action.AttemptEnds a.place (end_of a pick_end s) ∷ he.actions) hr.actions he.posts hr.posts

  pub same : IsSameEntry o s entry_after u
  same = record {
    moment = he.same.moment;
    word = he.same.word;
    event = he.same.event;
    entries = hr.entries ∙ he.same.entries;
    setup = hr.setup ∙ he.same.setup;
  }

  pub now_open : u.current ≡ Some entry_after
  now_open = hr.current

  pub still : (l : Line) → IsStill l entry_after u
  still l = hr.still l refl

  pub stage_after : entry_after.stage ≡ o.stage
  stage_after = he.stage

  pub reply : entry_after.reply ≡ o.reply
  reply = he.reply

  pub turn : entry_after.turn ≡ o.turn
  turn = he.turn

  -- the channel
  row_is : row_at y.book a.place ≡ Some a.row
  row_is =
      ap (λ (rows : List Row). tables.numbered rows a.place) (sym h.columns.rows) ∙ same_words (map (λ (q : Attempt). q.row) s.attempts) a.place
      ∙ numbered_map (λ (q : Attempt). q.row) s.attempts a.place ∙ ap (option_map (λ (q : Attempt). q.row)) there

  none_placed : a.row.placed ≡ None
  none_placed = unplaced a y o s h current there queued next quiescent reached early.resets going

  news_is : news_of a pick_end s ≡ channel_end
  news_is =
      ap (λ (q : Option Placed). record (news_of a pick_end s) { seen = option_map_or read_bytes (option_and_then (λ (at : Placed). numbered s.links at.link) q) 0 }) none_placed

  abbrev z : StateSeen
  z = unqueued a.row.call a.place y

  abbrev booked : BookActs
  booked = book_acted (pick_fails a.place y.book.moment (next_word y)) a.row.call y.book

  abbrev reported_one : StateSeen
  reported_one = reported_acts booked a.row.call a.place z

  y1_is : y1 ≡ reported_one
  y1_is =
      ap (λ (q : Option Placed). gone_with q (reported a.place (news.Ended a.place (news_of a pick_end s)) (taken_off a.row.call a.place q y))) none_placed
      ∙ ap (λ (q : Option Row). reported_to (call_of_row q) a.place (news.Ended a.place (news_of a pick_end s)) z) row_is
      ∙ ap (λ (n : EndNews). reported_to a.row.call a.place (news.Ended a.place n) z) news_is

  pub channel_is : all_sealed [] y1 ≡ pick_failed a.row.call a.place y
  channel_is = ap sealed y1_is

  pub agrees : Agrees (pick_failed a.row.call a.place y) u
  agrees = subst (λ (x : StateSeen). Agrees x u) channel_is hr.agrees

  -- what it leaves as it was
  abbrev begun : StateSeen
  begun = record (drawn_if (has_drawn (row_at booked.book a.place)) z) { book = booked.book }

  abbrev acted : StateSeen
  acted = acts_done a.row.call booked.acts begun

  form : acted ≡ parts_of acted begun
  form = acts_form a.row.call booked.acts begun

  failed_is : pick_failed a.row.call a.place y ≡ record reported_one { links = seal_all reported_one.resets reported_one.links; resets = [] }
  failed_is = all_sealed_is [] reported_one

  net_same : (pick_failed a.row.call a.place y).net ≡ y.net
  net_same = ap (λ (x : StateSeen). x.net) failed_is ∙ ap (λ (x : StateSeen). x.net) form

  held_same : (pick_failed a.row.call a.place y).held ≡ y.held
  held_same = ap (λ (x : StateSeen). x.held) failed_is ∙ ap (λ (x : StateSeen). x.held) form

  moment_same : (pick_failed a.row.call a.place y).book.moment ≡ y.book.moment
  moment_same =
      sym agrees.clock.moment
      ∙ ap (λ (q : Option OpenEntry). option_map_or (λ (e : OpenEntry). e.moment) q (last_moment u)) now_open ∙ same.moment
      ∙ sym (ap (λ (q : Option OpenEntry). option_map_or (λ (e : OpenEntry). e.moment) q (last_moment s)) current) ∙ h.clock.moment

  -- the lines before the rounds
  pub clocked : next_of_clock s ≡ None → next_of_clock u ≡ None
  clocked none =
      clock_stays clock_changes none_due take_overs_are_same wishes_connect none_connects y (pick_failed a.row.call a.place y) s u h agrees net_same moment_same none

  pub taken_over : next_take_over s ≡ None → next_take_over u ≡ None
  taken_over none = over_stays clock_changes none_due take_overs_are_same wishes_connect none_connects y (pick_failed a.row.call a.place y) s u h agrees net_same none

  pub connected : next_connected s ≡ None → next_connected u ≡ None
  connected none = wish_stays clock_changes none_due take_overs_are_same wishes_connect none_connects y (pick_failed a.row.call a.place y) s u h agrees net_same none

  -- the call has a config: so one is held, and no open call is without one
  abbrev k : Call
  k = c a y o s h current there queued next quiescent reached early.resets going

  k_there : numbered s.calls a.row.call ≡ Some k
  k_there = c_there a y o s h current there queued next quiescent reached early.resets going

  not_over : is_over a s ≡ false
  not_over = not_so (is_over a s) (and_parts (is_none a.row.placed && is_none a.row.ended) (not (is_over a s)) queued).1

  k_open : is_some k.end ≡ false
  k_open =
      first_off (is_some k.end) (holds (λ (q : Attempt). not (q.row.number == a.row.number)) (commitment k s))
      (sym (ap (holds (λ (g : Call). is_over_in g a s)) k_there) ∙ not_over)

  k_past : is_past k ≡ true
  k_past = sym (ap (holds is_past) k_there) ∙ all_numbered (λ (q : Attempt). holds is_past (call_of q s)) s.attempts a.place a there early.made

  held_by : (q : Option ℕ) → k.config ≡ q → is_some q ≡ true → is_some (last_of s.configs) ≡ true
  held_by None e some = absurd (cc)
  held_by (Some i) e some =
      some_last s.configs i
      (sym (ap (λ (q : Option ℕ). option_map_or (λ (j : ℕ). is_some (numbered s.configs j)) q true) e)
      ∙ all_numbered (has_config s) s.calls a.row.call k k_there h.kept.book.configs)

  pub is_held : is_some (last_of s.configs) ≡ true
  is_held = held_by k.config refl (other_on (is_some k.end) (is_some k.config) k_open k_past)

  some_map : (q : Option HeldConfig) → is_some (option_map (λ (g : HeldConfig). g.config) q) ≡ is_some q
  some_map None = refl
  some_map (Some g) = refl

  held_then : is_some (last_of u.configs) ≡ true
  held_then =
      sym (some_map (last_of u.configs)) ∙ ap (λ (q : Option Config). is_some q) (agrees.configs.held ∙ held_same ∙ sym h.configs.held)
      ∙ some_map (last_of s.configs) ∙ is_held

  module _ (configs : first_of (config_action s) s.calls ≡ None) where
    unconfigured_by : (i j : ℕ) (q : Option Call) → numbered s.calls j ≡ q → ((i == 0) && holds (λ (g : Call). is_open_call g && is_none g.config) q) ≡ false
    unconfigured_by i j None e = and_right (i == 0) false refl
    unconfigured_by i j (Some d) e =
        and_right (i == 0) (is_open_call d && is_none d.config)
        (both_off (is_none d.end) (is_none d.config) (is_some (held_config s)) is_held
        (none_first (is_to_configure s d) (lacks_config s d) (action.CallConfigured d.number (length s.configs)) (action.CallEnds d.number ending_cause.NoConfig)
        (none_given (config_action s) s.calls j d configs e)))

    none_unconfigured : y.awaiting_config ≡ []
    none_unconfigured = none_in y.awaiting_config (is_awaiting_config s) h.sets.awaiting_config (λ i j. unconfigured_by i j (numbered s.calls j) refl)

    still_unconfigured : (pick_failed a.row.call a.place y).awaiting_config ≡ []
    still_unconfigured = ap (λ (x : StateSeen). x.awaiting_config) failed_is ∙ unconfigured_all a.row.call booked.acts begun none_unconfigured

    not_unconfigured : (m : ℕ) (d : Call) → numbered u.calls m ≡ Some d → (is_none d.end && is_none d.config) ≡ false
    not_unconfigured m d e =
        sym (ap (holds (λ (g : Call). is_open_call g && is_none g.config)) e) ∙ sym (agrees.sets.awaiting_config.exact 0 m)
        ∙ ap (λ (pairs : List (ℕ × ℕ)). has pairs (0, m)) still_unconfigured

    config_by : (m : ℕ) (d : Call) → numbered u.calls m ≡ Some d → config_action u d ≡ None
    config_by m d e =
        ap (λ (b : Bool). if b && is_some (held_config u) then Some (action.CallConfigured d.number (length u.configs))
        else if lacks_config u d then Some (action.CallEnds d.number ending_cause.NoConfig) else None) (not_unconfigured m d e)
        ∙ ap (λ (b : Bool). if (is_open_call d && (u.answered && not b)) && not (waits_for_ready d u) then Some (action.CallEnds d.number ending_cause.NoConfig) else None) held_then
        ∙ ap (λ (b : Bool). if b && not (waits_for_ready d u) then Some (action.CallEnds d.number ending_cause.NoConfig) else None)
        (and_right (is_open_call d) (u.answered && false) (and_right u.answered false refl))

    pub configured : first_of (config_action u) u.calls ≡ None
    configured = none_numbered (config_action u) u.calls config_by

module _ (p : ℕ × ℕ) (x : StateSeen) (o : OpenEntry) (s0 : Seen) where
  abbrev s : Seen
  s = with_open o s0

  abbrev q : OpenEntry
  q = passed_by p o

  module _ (sound : IsSound x s) (k : AskNext p s) (is : answer_for k.policy s ≡ pick.Fail) (h : Agrees (asked_for p.1 k.policy s x) (request_made p k.policy s))
      (after : IsAsked p (passed_by p o) (request_made p k.policy s)) where
    abbrev g : PolicyUse
    g = k.policy

    abbrev t : Seen
    t = request_made p g s

    abbrev y : StateSeen
    y = asked_for p.1 g s x

    abbrev a : Attempt
    a = k.attempt

    reached : IsReached t
    reached = reached_on s t (action.PickRequested p.1 g.number (answer_for g s) ∷ []) sound.reached (k.next, refl)

    early : IsEarlyKept t
    early = record { resets = sound.early.resets; saw = sound.early.saw; made = sound.early.made; awaiting_config = sound.early.awaiting_config; boards = sound.early.boards }

    going : CallsGoOn y
    going = let on : CallsGoOn x = goes_on x sound.calls in record { calls = on.calls; allows = on.allows }

    there : numbered t.attempts a.place ≡ Some a
    there = ap (numbered t.attempts) k.place ∙ k.there

    next : following t ≡ Some (action.AttemptEnds a.place (end_of a pick_end t))
    next =
        (answers_are_next first_line_gives).fails p x o s k is h after
        ∙ ap (λ (n : ℕ). Some (action.AttemptEnds n (end_of a pick_end t))) (sym k.place)

    abbrev u1 : Seen
    u1 = u a y q t h after.current there k.queued next after.quiescent reached early going

    abbrev p1 : OpenEntry
    p1 = entry_after a y q t h after.current there k.queued next after.quiescent reached early going

    at_now : IsAt stage.Settling p1 u1
    at_now = record {
      current = now_open a y q t h after.current there k.queued next after.quiescent reached early going;
      stage_is = stage_after a y q t h after.current there k.queued next after.quiescent reached early going ∙ after.stage_is;
      quiescent = of_order quiescence_is_exact p1 u1 (still a y q t h after.current there k.queued next after.quiescent reached early going);
    }

    turn_is : p1.turn ≡ Some (turn_of p)
    turn_is = turn a y q t h after.current there k.queued next after.quiescent reached early going ∙ after.turn

    failed_here : pick_failed a.row.call a.place y ≡ pick_failed p.0 p.1 y
    failed_here = ap (λ (n : ℕ). pick_failed n a.place y) k.call ∙ ap (λ (n : ℕ). pick_failed p.0 n y) k.place

    followed : IsFollowed p (moves (pick_failed p.0 p.1 y)) q t
    followed = record {
      leads = record {
        reaches = record {
          actions = those a y q t h after.current there k.queued next after.quiescent reached early going;
          seen = u1;
          entry = p1;
          does = does a y q t h after.current there k.queued next after.quiescent reached early going;
          posts = posts a y q t h after.current there k.queued next after.quiescent reached early going;
          same = same a y q t h after.current there k.queued next after.quiescent reached early going;
          at = at_now;
          agrees = subst (λ (z : StateSeen). Agrees z u1) failed_here (agrees a y q t h after.current there k.queued next after.quiescent reached early going);
        };
        reply = reply a y q t h after.current there k.queued next after.quiescent reached early going;
        point = record {
          clock = clocked a y q t h after.current there k.queued next after.quiescent reached early going after.clock;
          take_over = taken_over a y q t h after.current there k.queued next after.quiescent reached early going after.take_over;
          connected = connected a y q t h after.current there k.queued next after.quiescent reached early going after.connected;
          configs = configured a y q t h after.current there k.queued next after.quiescent reached early going after.configs;
          begun = inr turn_is;
        };
      };
      turn = turn_is;
      moved = refl;
    }

    pub follows : IsFollowed p (picked p.0 p.1 g.number (answer_for g s) y) q t
    follows = subst (λ (w : Pick). IsFollowed p (picked p.0 p.1 g.number w y) q t) (sym is) followed

pub fails_follow : FailsFollow
fails_follow p x o s h sound at k is agrees after =
    let P : Seen → Type 0 = λ w. IsSound x w → (k : AskNext p w) → IsFailed (answer_for k.policy w) → Agrees (asked_for p.1 k.policy w x) (request_made p k.policy w)
    → IsAsked p (passed_by p o) (request_made p k.policy w)
    → IsFollowed p (picked p.0 p.1 k.policy.number (answer_for k.policy w) (asked_for p.1 k.policy w x)) (passed_by p o) (request_made p k.policy w) in
    let whole : P (with_open o s) = λ a b c d e. follows p x o s a b c d e in
    subst P (sym (is_with_open o s at.current)) whole sound k is agrees after
