-- Where a config is held, and no message that was accepted is too long for it, each call without a config gets it.
use Rattle.std.proofs.Common.{◌≡◌, ◌<◌, ◌&&◌, ◌||◌, ◌==◌, ◌++◌, ◌∷◌, ap, refl, subst, sym, ◌∙◌, Bool, true, false, List, [], Option, None, Some, ℕ, is_none, length}
use Rattle.std.proofs.lemmas.Bool.{eqb-false}
use Rattle.std.specs.List.{list_any}
use Rattle.std.specs.Option.{option_map, option_map_or}
use Rattle.std.specs.Prelude.{nat_lt, option_and_then}
use Rattle.std.specs.Set.{remove_key}
use Rattle.attempt_ledger.specs.declared.ledger.CallEnd.{CallEnd}
use Rattle.call_actions.proofs.Unconfigured.{none_live}
use Rattle.call_actions.specs.Laws.{IsUnconfigured}
use Rattle.call_core.specs.Parts.{is_too_long}
use Rattle.channel_actions.proofs.Settles.{follows_by}
use Rattle.channel_actions.proofs.Stamps.{counted_at}
use Rattle.channel_actions.specs.Agrees.{Agrees}
use Rattle.channel_actions.specs.Calls.{HasSlot, deadline_of, due_of}
use Rattle.channel_actions.specs.Quiescent.{IsAt}
use Rattle.channel_actions.specs.Sets.{is_awaiting_config}
use Rattle.channel_core.specs.Books.{slot_at}
use Rattle.channel_core.specs.States.{StateSeen}
use Rattle.call_cases.specs.CallEnds.Ends.{HasEnded}
use Rattle.channel_core.specs.Steps.{closed, configured_call}
use Rattle.call_cases.proofs.ConfigActions.Configuring.{configured_first, configured_is}
use Rattle.call_cases.proofs.ConfigActions.Ending.{long_ended}
use Rattle.call_cases.proofs.ConfigActions.Longs.{configured_ends, configured_is as long_configured, ended_shape}
use Rattle.call_cases.proofs.ConfigActions.NetLines.{clock_stays, over_stays, wish_stays}
use Rattle.call_cases.proofs.ConfigActions.Unserved.{equal_numbers, first_three, no_pass, or_true}
use Rattle.session_order.specs.ConfigStirs.Laws.{ConfigsStir}
use Rattle.call_cases.specs.ConfiguredCalls.Laws.{CallsGetConfigs, ConfigNext, Frames}
use Rattle.call_cases.specs.ConfiguredCalls.Steps.{with_config}
use Rattle.grpc_base.specs.declared.event.EndCause.TheVariants as ending
use Rattle.grpc_base.specs.Requests.{RequestSeen}
use Rattle.grpc_base.specs.declared.plan.Chosen.{Chosen}
use Rattle.channel_actions.specs.KeptCalls.Laws.{UnconfiguredHaveNoAttempts, EarlyAlong}
use Rattle.net_actions.specs.Laws.{ClockChanges, ClockRests, NoneConnects, TakeOversAreSame, WishesConnect}
use Rattle.picker_gate.specs.Pairs.{has, is_same}
use Rattle.service_config.specs.Choice.{chosen_for}
use Rattle.service_config.specs.declared.config.Config.{Config}
use Rattle.session_actions.specs.Actions.{after_if, config_action, following, following_in, of_calls, of_links, of_policies, of_stage}
use Rattle.session_actions.specs.CallEnds.{has_long_request, is_after_event, sends_too_long}
use Rattle.session_actions.specs.Calls.{is_open_call}
use Rattle.session_actions.specs.Configs as session
use Rattle.session_actions.specs.Configs.{call_configured, no_choice}
use Rattle.session_actions.specs.Entries.{entry, now}
use Rattle.session_actions.specs.Making.{next_due_attempt}
use Rattle.session_actions.specs.Policies.{next_of_pass, next_of_queue, next_take_over}
use Rattle.session_actions.specs.Sessions.{Does}
use Rattle.session_actions.specs.Subchannels.{next_connected, next_of_clock}
use Rattle.session_actions.specs.Words.{first_of, holds, is_number, numbered}
use Rattle.session_actions.specs.declared.action.Action.{Action}
use Rattle.session_actions.specs.declared.action.Action.TheVariants as action
use Rattle.session_actions.specs.declared.attempt.Attempt.{Attempt}
use Rattle.session_actions.specs.declared.call.Call.{Call}
use Rattle.session_actions.specs.declared.call.MarkKind.TheVariants as mark
use Rattle.session_actions.specs.declared.config.HeldConfig.{HeldConfig}
use Rattle.session_actions.specs.declared.entry.OpenEntry.{OpenEntry}
use Rattle.session_actions.specs.declared.entry.Stage.{Stage}
use Rattle.session_actions.specs.declared.entry.Stage.TheVariants as stage
use Rattle.session_actions.specs.declared.seen.Seen.{Seen}
use Rattle.session_order.proofs.Aside.{long_as}
use Rattle.session_order.proofs.Changed.{changed_away, changed_here, none_from, passes_not}
use Rattle.session_order.specs.Quiescent as order
use Rattle.session_order.specs.Quiescent.{IsStill}
use Rattle.session_order.specs.Laws.{QuiescenceIsExact, Leaves}
use Rattle.session_order.specs.Lines.{is_line}
use Rattle.session_order.specs.declared.line.Line.{Line}
use Rattle.session_order.specs.declared.line.Line.TheVariants as line
use Rattle.channel_actions.proofs.Links.Settings.Firsts.{first_numbered, none_numbered}
use Rattle.channel_actions.proofs.Links.Settings.Keys.{below_fails, head_passes}
use Rattle.call_cases.specs.SettlingActions.Steps.{IsTended, Leads}
use Rattle.call_cases.proofs.ConfigActions.Tended.{gives_config, gives_nothing, is_unconfigured_call, short_from, long_from, none_below, quiet_request, Gets, OneServed, HasConfig, unconfigured_there, has_config}

-- none is left
pub served_tended : (config : Config) (others : List (ℕ × ℕ)) (z : StateSeen) (o : OpenEntry) (s : Seen) → Gets config [] others z o s → IsTended o s
served_tended config others z o s w = record {
  clock = w.joined.clock;
  take_over = w.joined.take_over;
  connected = w.joined.connected;
  configs =
      none_numbered (config_action s) s.calls
      (λ m d there. gives_nothing (record z { awaiting_config = []; fail_fast = others }) s w.agrees config w.held m d there (sym (w.agrees.sets.awaiting_config.exact 0 m)));
  pass = no_pass o s w.joined.turn;
}

-- the next one gets its config
module _ (exact : QuiescenceIsExact) (stir : ConfigsStir) (clocks : ClockChanges) (rests : ClockRests) (overs : TakeOversAreSame) (wishes : WishesConnect) (nones : NoneConnects)
    (gets : CallsGetConfigs) (frames : Frames) (along : EarlyAlong) (awaiting_configs : UnconfiguredHaveNoAttempts) (config : Config) where
  module _ (n : ℕ) (rest others : List (ℕ × ℕ)) (z : StateSeen) (o : OpenEntry) (s : Seen) (w : Gets config ((0, n) ∷ rest) others z o s) where
    abbrev pub y : StateSeen
    y = record z { awaiting_config = (0, n) ∷ rest; fail_fast = others }

    pub in_set : is_awaiting_config s 0 n ≡ true
    in_set = head_passes (0, n) rest (is_awaiting_config s) w.agrees.sets.awaiting_config

    pub found : (d : Call) × (numbered s.calls n ≡ Some d)
    found = unconfigured_there s n (numbered s.calls n) refl in_set

    abbrev pub c : Call
    c = found.0

    pub g : HasConfig config s
    g = has_config y s w.agrees config w.held

    pub below : (m : ℕ) (d : Call) → m < n → numbered s.calls m ≡ Some d → config_action s d ≡ None
    below m d less there = gives_nothing y s w.agrees config w.held m d there (below_fails (0, n) rest (is_awaiting_config s) m w.agrees.sets.awaiting_config refl less)

    abbrev pub does_it : Action
    does_it = action.CallConfigured n (length s.configs)

    pub line_gives : first_of (config_action s) s.calls ≡ Some does_it
    line_gives = first_numbered (config_action s) s.calls n c does_it found.1 (gives_config y s w.agrees config w.held n c found.1 in_set) below

    pub stage_gives : of_stage o s o.stage ≡ Some does_it
    stage_gives =
        ap (of_stage o s) w.at.stage_is
        ∙ first_three (next_of_clock s) (next_take_over s) (next_connected s) (first_of (config_action s) s.calls) (next_of_pass o s) (next_due_attempt s) (next_of_queue s)
        (Some action.EntryCloses) does_it w.joined.clock w.joined.take_over w.joined.connected line_gives

    pub follows : following s ≡ Some does_it
    follows =
        ap (option_and_then (following_in s)) w.at.current
        ∙ follows_by (of_calls o s) (of_links o s) (of_policies o s) (of_stage o s o.stage) does_it w.at.quiescent.calls w.at.quiescent.links w.at.quiescent.policies stage_gives

    pub own : HasSlot y s c n
    own = w.agrees.calls.each n c found.1

    pub here : slot_at z.book n ≡ Some own.slot
    here = own.there

    pub awaiting_config : IsUnconfigured s c
    awaiting_config = is_unconfigured_call y s w.agrees config w.held n c found.1 awaiting_configs w.early in_set

    pub next_one : ConfigNext n y o s
    next_one = record { current = w.at.current; agrees = w.agrees; call = c; there = found.1; awaiting_config = awaiting_config; held = g.held; is_held = g.is; next = follows }

    abbrev pub t : Seen
    t = call_configured n (length s.configs) s

    abbrev pub mid : StateSeen
    mid = with_config (chosen_for g.held.config c.request.path) n own.slot y

    pub agrees_mid : Agrees mid t
    unfolding next_one found
    agrees_mid = gets frames n y o s next_one own

    -- the same as what the channel makes of it
    pub unended : own.slot.call.ended ≡ None
    unended = sym own.sees.serves.sees.ended ∙ ap (option_map (λ (e : CallEnd). e.cause)) awaiting_config.end

    pub unchosen : own.slot.call.chosen ≡ None
    unchosen =
        sym own.sees.serves.sees.chosen ∙ ap (λ (q : Option ℕ). option_map (λ (k : HeldConfig). chosen_for k.config c.request.path) (option_and_then (numbered s.configs) q)) awaiting_config.config

    pub chosen_same : chosen_for g.held.config c.request.path ≡ chosen_for config own.slot.call.request.path
    chosen_same = ap (λ (k : Config). chosen_for k c.request.path) g.same ∙ ap (λ (r : RequestSeen). chosen_for config r.path) own.sees.serves.sees.request

    abbrev pub after_one : StateSeen
    after_one = configured_call n z

    abbrev pub others_left : List (ℕ × ℕ)
    others_left = remove_key (is_same (0, n)) others

    -- nothing follows at once
    pub quiescent : order.IsQuiescent o s
    quiescent = (exact o s).0 (w.at.quiescent.calls, w.at.quiescent.links, w.at.quiescent.policies)

    pub numbers : (k : ℕ) (d : Call) → numbered s.calls k ≡ Some d → d.number ≡ k
    numbers k d there = counted_at (λ (e : Call). e.number) s.calls k d w.agrees.kept.calls there

    pub own_number : c.number ≡ n
    own_number = numbers n c found.1

    pub leaves : Leaves does_it o s
    leaves =
        stir n (length s.configs) o s w.at.current numbers
        (subst (λ (k : ℕ). list_any (λ (a : Attempt). a.row.call == k) s.attempts ≡ false) own_number awaiting_config.none)

    abbrev pub c1 : Call
    c1 = record c { marks = c.marks ++ record { what = mark.Configured; moment = now s } ∷ []; config = Some (length s.configs); configured = Some (entry s) }

    pub own_now : numbered t.calls n ≡ Some c1
    own_now =
        changed_here (λ (k : Call). record k { config = Some (length s.configs); configured = Some (entry s) }) n _ _
        (changed_here (λ (k : Call). record k { marks = k.marks ++ record { what = mark.Configured; moment = now s } ∷ [] }) n s.calls c found.1)

    pub other_now : (k : ℕ) → (k == n) ≡ false → numbered t.calls k ≡ numbered s.calls k
    other_now k e =
        changed_away (λ (d : Call). record d { config = Some (length s.configs); configured = Some (entry s) }) n k _ (eqb-false k n e)
        ∙ changed_away (λ (d : Call). record d { marks = d.marks ++ record { what = mark.Configured; moment = now s } ∷ [] }) n k s.calls (eqb-false k n e)

    pub not_after : is_after_event o ≡ false
    not_after = ap (λ (q : Stage). is_after_event (record o { stage = q })) w.at.stage_is

    pub does : Does (does_it ∷ []) s t
    does = (follows, sym (ap (λ (q : Option OpenEntry). after_if q does_it s) w.at.current))

    pub later_in : (m : ℕ) → has rest (0, m) ≡ true → has ((0, n) ∷ rest) (0, m) ≡ true
    later_in m e = ap (λ (b : Bool). is_same (0, m) (0, n) || b) e ∙ or_true (is_same (0, m) (0, n))

    -- where no message that it sent is too long
    module _ (small : is_too_long (Some (chosen_for config own.slot.call.request.path)) own.slot.call.longest ≡ false) where
      mid_is : mid ≡ record after_one { awaiting_config = rest; fail_fast = others_left }
      mid_is =
          ap (λ (k : Chosen). with_config k n own.slot y) chosen_same
          ∙ configured_first n config own.slot unended unchosen small z here w.held rest others

      lengths : list_any (λ (m : List ℕ). session.is_too_long m c1 t) c.messages ≡ false
      lengths =
          ap (λ (q : Option HeldConfig). list_any (λ (m : List ℕ). nat_lt (option_map_or (λ (k : HeldConfig). chosen_for k.config c.request.path) q no_choice).request (length m)) c.messages) g.is
          ∙ (short_from (chosen_for g.held.config c.request.path).request c.messages 0
          (ap (λ (k : ℕ). nat_lt (chosen_for g.held.config c.request.path).request k) own.sees.serves.sees.longest_is
          ∙ ap (λ (k : Chosen). nat_lt k.request own.slot.call.longest) chosen_same ∙ small)).1

      request_own : has_long_request o t c1 ≡ false
      request_own =
          quiet_request (is_open_call c) (list_any (λ (m : List ℕ). session.is_too_long m c1 t) c.messages) (is_after_event o && sends_too_long o.event c1 t) lengths
          (ap (λ (b : Bool). b && sends_too_long o.event c1 t) not_after)

      request_by : (k : ℕ) (d : Call) (b : Bool) → (k == n) ≡ b → numbered t.calls k ≡ Some d → has_long_request o t d ≡ false
      request_by k d true e there =
          let both : Some c1 ≡ Some d = sym own_now ∙ ap (numbered t.calls) (sym (equal_numbers k n e)) ∙ there in
          let one : c1 ≡ d = (cc) in ap (has_long_request o t) (sym one) ∙ request_own
      request_by k d false e there =
          long_as o d d t s refl refl refl (λ m. refl) ∙ passes_not (has_long_request o s) s.calls k d (quiescent line.Request) (sym (other_now k e) ∙ there)

      still : (l : Line) → IsStill l o t
      still line.Request = none_from (has_long_request o t) t.calls (λ k d there. request_by k d (k == n) refl there)
      still line.Cut = leaves line.Cut o w.at.current refl (quiescent line.Cut)
      still line.Transparent = leaves line.Transparent o w.at.current refl (quiescent line.Transparent)
      still line.Inherited = leaves line.Inherited o w.at.current refl (quiescent line.Inherited)
      still line.Row = leaves line.Row o w.at.current refl (quiescent line.Row)
      still line.Final = leaves line.Final o w.at.current refl (quiescent line.Final)
      still line.Cancelled = leaves line.Cancelled o w.at.current refl (quiescent line.Cancelled)
      still line.Overflow = leaves line.Overflow o w.at.current refl (quiescent line.Overflow)
      still line.Head = leaves line.Head o w.at.current refl (quiescent line.Head)
      still line.Response = leaves line.Response o w.at.current refl (quiescent line.Response)
      still line.Pick = leaves line.Pick o w.at.current refl (quiescent line.Pick)
      still line.Link = leaves line.Link o w.at.current refl (quiescent line.Link)
      still line.WireEnd = leaves line.WireEnd o w.at.current refl (quiescent line.WireEnd)
      still line.Reset = leaves line.Reset o w.at.current refl (quiescent line.Reset)
      still line.Shut = leaves line.Shut o w.at.current refl (quiescent line.Shut)
      still line.Retire = leaves line.Retire o w.at.current refl (quiescent line.Retire)
      still line.Begin = leaves line.Begin o w.at.current refl (quiescent line.Begin)
      still line.Give = leaves line.Give o w.at.current refl (quiescent line.Give)
      still line.Drop = leaves line.Drop o w.at.current refl (quiescent line.Drop)
      still line.Add = leaves line.Add o w.at.current refl (quiescent line.Add)

      agrees_after : Agrees (record after_one { awaiting_config = rest; fail_fast = others_left }) t
      agrees_after = subst (λ (x : StateSeen). Agrees x t) mid_is agrees_mid

      gets_after : Gets config rest others_left after_one o t
      gets_after = record {
        agrees = agrees_after;
        no_unconfigured = ap (λ (x : StateSeen). x.awaiting_config) (configured_is n config own.slot unended unchosen small z here w.held) ∙ w.no_unconfigured;
        no_others = ap (λ (x : StateSeen). x.fail_fast) (configured_is n config own.slot unended unchosen small z here w.held) ∙ w.no_others;
        at = record {
          current = w.at.current;
          stage_is = w.at.stage_is;
          quiescent = (let back = (exact o t).1 still in record { calls = back.0; links = back.1; policies = back.2 });
        };
        joined = record {
          turn = w.joined.turn;
          clock = clock_stays clocks rests overs wishes nones y mid s t w.agrees agrees_mid refl refl w.joined.clock;
          take_over = over_stays clocks rests overs wishes nones y mid s t w.agrees agrees_mid refl w.joined.take_over;
          connected = wish_stays clocks rests overs wishes nones y mid s t w.agrees agrees_mid refl w.joined.connected;
        };
        held = ap (λ (x : StateSeen). x.held) (configured_is n config own.slot unended unchosen small z here w.held) ∙ w.held;
        early = along (does_it ∷ []) s t w.agrees.kept w.early does;
        few = λ m e. w.few m (later_in m e);
      }

      one_served : Leads (record after_one { awaiting_config = rest; fail_fast = others_left }) o s (λ p u. Unit {0})
      one_served = record {
        reaches = record {
          actions = does_it ∷ [];
          seen = t;
          entry = o;
          does = does;
          posts = refl;
          same = record { moment = refl; word = refl; event = refl; entries = refl; setup = refl };
          at = gets_after.at;
          agrees = agrees_after;
        };
        reply = refl;
        point = tt;
      }

      pub short_served : OneServed config n rest others z o s
      unfolding one_served
      short_served = record { leads = one_served; gets = gets_after }

    -- where one is
    module _ (long : is_too_long (Some (chosen_for config own.slot.call.request.path)) own.slot.call.longest ≡ true) where
      long_is : list_any (λ (m : List ℕ). session.is_too_long m c1 t) c.messages ≡ true
      long_is =
          ap (λ (q : Option HeldConfig). list_any (λ (m : List ℕ). nat_lt (option_map_or (λ (k : HeldConfig). chosen_for k.config c.request.path) q no_choice).request (length m)) c.messages) g.is
          ∙ long_from (chosen_for g.held.config c.request.path).request c.messages 0
          (ap (λ (k : ℕ). nat_lt (chosen_for g.held.config c.request.path).request k) own.sees.serves.sees.longest_is
          ∙ ap (λ (k : Chosen). nat_lt k.request own.slot.call.longest) chosen_same ∙ long) (none_below (chosen_for g.held.config c.request.path).request)

      reason : has_long_request o t c1 ≡ true
      reason =
          ap (λ (b : Bool). is_open_call c && (b || (is_after_event o && sends_too_long o.event c1 t))) long_is
          ∙ ap (λ (q : Option CallEnd). is_none q && true) awaiting_config.end

      others_short : (k : ℕ) (d : Call) → (k == n) ≡ false → numbered t.calls k ≡ Some d → has_long_request o t d ≡ false
      others_short k d e there =
          long_as o d d t s refl refl refl (λ m. refl) ∙ passes_not (has_long_request o s) s.calls k d (quiescent line.Request) (sym (other_now k e) ∙ there)

      quiet : (l : Line) → is_line l line.Request ≡ false → IsStill l o t
      quiet line.Request e = absurd (cc)
      quiet l e = leaves l o w.at.current refl (quiescent l)

      pub ended : HasEnded (λ (l : Line). false) n ending.Request mid o t
      ended = long_ended o t n c1 mid agrees_mid w.at.current own_now awaiting_config.end reason others_short quiet (along (does_it ∷ []) s t w.agrees.kept w.early does).resets

      live : own.slot.call.live ≡ []
      live = sym own.sees.serves.sees.live ∙ none_live s c awaiting_config.none

      due_was : (m : ℕ) → has z.dues (m, n) ≡ is_number m own.slot.due
      due_was m = w.agrees.sets.dues.exact m n ∙ ap (holds (λ (d : Call). is_number m (due_of s d))) found.1 ∙ ap (is_number m) own.sees.due

      deadline_was : (m : ℕ) → has z.deadlines (m, n) ≡ is_number m own.slot.deadline
      deadline_was m =
          w.agrees.sets.deadlines.exact m n ∙ ap (holds (λ (d : Call). is_number m (deadline_of s d))) found.1 ∙ ap (is_number m) own.sees.deadline_is

      closed_is : closed ending.Request n mid ≡ record after_one { awaiting_config = rest; fail_fast = others_left }
      closed_is =
          ap (λ (k : Chosen). closed ending.Request n (with_config k n own.slot y)) chosen_same
          ∙ configured_ends n config own.slot unended unchosen live long z here rest others w.agrees.sets.resets w.agrees.sets.awaiting_config.rising w.agrees.sets.fail_fast.rising
          w.agrees.sets.dues.rising w.agrees.sets.deadlines.rising due_was deadline_was w.held

      agrees_end : Agrees (record after_one { awaiting_config = rest; fail_fast = others_left }) ended.seen
      agrees_end = subst (λ (x : StateSeen). Agrees x ended.seen) closed_is ended.agrees

      does_end : Does (does_it ∷ (action.CallEnds n ending.Request ∷ ended.actions)) s ended.seen
      does_end = (follows, subst (λ (v : Seen). Does (action.CallEnds n ending.Request ∷ ended.actions) v ended.seen) does.1 ended.does)

      at_end : IsAt stage.Settling o ended.seen
      at_end = record {
        current = ended.current;
        stage_is = w.at.stage_is;
        quiescent = (let back = (exact o ended.seen).1 (λ l. ended.still l refl) in record { calls = back.0; links = back.1; policies = back.2 });
      }

      configured_so : configured_call n z ≡ ended_shape n config own.slot unended unchosen live long z here (remove_key (is_same (0, n)) z.awaiting_config) (remove_key (is_same (0, n)) z.fail_fast) z.resets
      configured_so = long_configured n config own.slot unended unchosen live long z here w.held

      gets_end : Gets config rest others_left after_one o ended.seen
      gets_end = record {
        agrees = agrees_end;
        no_unconfigured = ap (λ (x : StateSeen). x.awaiting_config) configured_so ∙ ap (remove_key (is_same (0, n))) w.no_unconfigured;
        no_others = ap (λ (x : StateSeen). x.fail_fast) configured_so ∙ ap (remove_key (is_same (0, n))) w.no_others;
        at = at_end;
        joined = record {
          turn = w.joined.turn;
          clock =
              clock_stays clocks rests overs wishes nones y (record after_one { awaiting_config = rest; fail_fast = others_left }) s ended.seen w.agrees agrees_end
              (ap (λ (x : StateSeen). x.net) configured_so) (ap (λ (x : StateSeen). x.book.moment) configured_so) w.joined.clock;
          take_over =
              over_stays clocks rests overs wishes nones y (record after_one { awaiting_config = rest; fail_fast = others_left }) s ended.seen w.agrees agrees_end
              (ap (λ (x : StateSeen). x.net) configured_so) w.joined.take_over;
          connected =
              wish_stays clocks rests overs wishes nones y (record after_one { awaiting_config = rest; fail_fast = others_left }) s ended.seen w.agrees agrees_end
              (ap (λ (x : StateSeen). x.net) configured_so) w.joined.connected;
        };
        held = ap (λ (x : StateSeen). x.held) configured_so ∙ w.held;
        early = along (does_it ∷ (action.CallEnds n ending.Request ∷ ended.actions)) s ended.seen w.agrees.kept w.early does_end;
        few = λ m e. w.few m (later_in m e);
      }

      pub long_served : OneServed config n rest others z o s
      long_served = record {
        leads = record {
          reaches = record {
            actions = does_it ∷ (action.CallEnds n ending.Request ∷ ended.actions);
            seen = ended.seen;
            entry = o;
            does = does_end;
            posts = ended.posts;
            same = record { moment = refl; word = refl; event = refl; entries = ended.entries; setup = ended.setup };
            at = at_end;
            agrees = agrees_end;
          };
          reply = refl;
          point = tt;
        };
        gets = gets_end;
      }
