-- Where no config is held and the resolver has answered, the calls that do not wait for ready end one by one.
use Rattle.std.proofs.Common.{◌≡◌, ◌≤◌, ◌<◌, ◌&&◌, ◌||◌, ◌==◌, ◌∷◌, ap, arith, refl, subst, sym, ◌∙◌, Bool, true, false, List, [], Option, None, Some, ℕ, zero, suc, if◌then◌else◌, is_none, is_some, length, min, not, slice_get}
use Rattle.std.proofs.lemmas.Bool.{and_parts}
use Rattle.std.proofs.lemmas.Bool.Decides.{nat_tests}
use Rattle.std.specs.Option.{option_map, option_map_or}
use Rattle.std.specs.Prelude.{option_and_then}
use Rattle.attempt_ledger.specs.declared.ledger.CallEnd.{CallEnd}
use Rattle.call_actions.proofs.Unconfigured.{none_live}
use Rattle.call_actions.proofs.Places.{places_below}
use Rattle.call_actions.specs.Laws.{IsUnconfigured}
use Rattle.call_actions.specs.CallsApart.Apart.{has_config}
use Rattle.channel_actions.proofs.Gone.{all_numbered}
use Rattle.channel_actions.proofs.Settles.{follows_by}
use Rattle.channel_actions.proofs.Stamps.{counted_at}
use Rattle.channel_actions.proofs.States.{unconfigured}
use Rattle.channel_actions.specs.Agrees.{Agrees}
use Rattle.channel_actions.specs.Calls.{HasSlot}
use Rattle.channel_actions.specs.Quiescent.{IsAt}
use Rattle.channel_actions.specs.Sets.{is_in_fail_fast, is_ready_waiter}
use Rattle.channel_core.specs.Books.{slot_at}
use Rattle.channel_core.specs.States.{StateSeen}
use Rattle.channel_core.specs.Steps.{all_configured, all_unconfigured, unconfigured_served, closed}
use Rattle.channel_core.specs.Timing.{due_keys, later, number_of}
use Rattle.channel_core.specs.declared.state.slots.CallSlot.{CallSlot}
use Rattle.call_cases.proofs.ConfigActions.Closed.{closed_away, closed_unconfigured, closed_first, closed_held, closed_last, closed_moment, closed_net}
use Rattle.call_cases.proofs.ConfigActions.NetLines.{clock_stays, over_stays, wish_stays}
use Rattle.grpc_base.specs.declared.event.EndCause.TheVariants as ending
use Rattle.call_cases.specs.ConfigActions.Ends.{CallsWithoutAttemptsEnd, EndsWithoutAttemptsNext, HasEndedWithoutAttempts}
use Rattle.channel_actions.specs.KeptCalls.Early.{IsEarlyKept}
use Rattle.channel_actions.specs.KeptCalls.Laws.{UnconfiguredHaveNoAttempts, EarlyAlong}
use Rattle.net_actions.specs.Laws.{ClockChanges, ClockRests, NoneConnects, TakeOversAreSame, WishesConnect}
use Rattle.picker_gate.specs.Pairs.{has, is_same}
use Rattle.service_config.specs.declared.config.Config.{Config}
use Rattle.session_actions.specs.Actions.{config_action, first_action, following, following_in, of_calls, of_links, of_policies, of_stage}
use Rattle.session_actions.specs.CallEnds.{lacks_config}
use Rattle.session_actions.specs.Calls.{is_open_call}
use Rattle.session_actions.specs.Configs.{held_config, is_to_configure, is_unconfigured, waits_for_ready}
use Rattle.session_actions.specs.Making.{next_due_attempt}
use Rattle.session_actions.specs.Policies.{is_after, next_asked, next_of_pass, next_of_queue, next_take_over}
use Rattle.session_actions.specs.Subchannels.{next_connected, next_of_clock}
use Rattle.session_actions.specs.Words.{first_of, holds, last_of, numbered}
use Rattle.session_actions.specs.declared.action.Action.{Action}
use Rattle.session_actions.specs.declared.action.Action.TheVariants as action
use Rattle.session_actions.specs.declared.call.Call.{Call}
use Rattle.session_actions.specs.declared.config.HeldConfig.{HeldConfig}
use Rattle.session_actions.specs.declared.entry.OpenEntry.{OpenEntry}
use Rattle.session_actions.specs.declared.entry.Stage.TheVariants as stage
use Rattle.session_actions.specs.declared.entry.Turn.{Turn}
use Rattle.session_actions.specs.declared.seen.Seen.{Seen}
use Rattle.session_order.specs.Quiescent as order
use Rattle.session_order.specs.Laws.{QuiescenceIsExact}
use Rattle.channel_actions.proofs.Links.Settings.Firsts.{first_numbered, none_numbered}
use Rattle.channel_actions.proofs.Links.Settings.Keys.{are_plain, below_fails, head_passes, keys_next, none_later, plain_by}
use Rattle.channel_actions.proofs.Links.Settings.Pairs.{none_afterwards, self_same}
use Rattle.call_cases.proofs.SettlingActions.Composed.{leads_on, stays_at}
use Rattle.call_cases.specs.SettlingActions.Sound.{IsSound}
use Rattle.call_cases.specs.SettlingActions.Steps.{IsJoined, IsTended, Leads}

-- the last of no things
no_last : {X : Type 0} (x : X) (xs : List X) → slice_get (x ∷ xs) (length xs) ≡ None → ⊥
no_last x [] e = absurd (cc)
no_last x (y ∷ xs) e = no_last y xs e

none_last : {X : Type 0} (xs : List X) → last_of xs ≡ None → xs ≡ []
none_last [] e = refl
none_last (x ∷ xs) e = absurd (no_last x xs e)

none_there : {X : Type 0} (n : ℕ) → numbered {X = X} [] n ≡ None
none_there zero = refl
none_there (suc n) = refl

pub none_of : {X : Type 0} (o : Option X) → is_none o ≡ true → o ≡ None
none_of None e = refl
none_of (Some x) e = absurd (cc)

pub is_zero : (n : ℕ) → (n == 0) ≡ true → n ≡ 0
is_zero n e = grind (arith, nat_tests)

and_off : (a b : Bool) → (a && false && b) ≡ false
and_off true b = refl
and_off false b = refl

pub below_all : (n m : ℕ) → n ≤ m → m ≤ 1048576 → n ≤ 4294967295
below_all n m e f = omega (arith, e, f)

pub or_true : (b : Bool) → (b || true) ≡ true
or_true true = refl
or_true false = refl

pub equal_numbers : (n m : ℕ) → (n == m) ≡ true → n ≡ m
equal_numbers n m e = grind (arith, nat_tests)

pub within_word : (n : ℕ) → n ≤ 4294967295 → min n 4294967295 ≡ n
within_word n e = omega arith

no_held : (a b c : Bool) → c ≡ false → (a && b && c) ≡ false
no_held true true c e = e
no_held true false c e = refl
no_held false b c e = refl

lacks_not : (a b c d : Bool) → b ≡ true → ((a && b) && not d) ≡ false → (a && c && not d) ≡ false
lacks_not true true true d e f = f
lacks_not true true false d e f = refl
lacks_not true false c d e f = absurd (cc)
lacks_not false b c d e f = refl

lacks_is : (a b c d : Bool) → c ≡ true → ((a && b) && not d) ≡ true → (a && c && not d) ≡ true
lacks_is true true true d e f = f
lacks_is true true false d e f = absurd (cc)
lacks_is true false c d e f = absurd (cc)
lacks_is false b c d e f = absurd (cc)

pub first_three : (a b c d e f g h : Option Action) (z : Action) → a ≡ None → b ≡ None → c ≡ None → d ≡ Some z → first_action (a ∷ b ∷ c ∷ d ∷ e ∷ f ∷ g ∷ h ∷ []) ≡ Some z
first_three a b c d e f g h z p q r s =
    ap (λ (w : Option Action). first_action (w ∷ b ∷ c ∷ d ∷ e ∷ f ∷ g ∷ h ∷ [])) p
    ∙ ap (λ (w : Option Action). first_action (w ∷ c ∷ d ∷ e ∷ f ∷ g ∷ h ∷ [])) q
    ∙ ap (λ (w : Option Action). first_action (w ∷ d ∷ e ∷ f ∷ g ∷ h ∷ [])) r ∙ ap (λ (w : Option Action). first_action (w ∷ e ∷ f ∷ g ∷ h ∷ [])) s

-- a session that agrees with a channel without a config has none
module _ (y : StateSeen) (s : Seen) (h : Agrees y s) (unheld : y.held ≡ None) where
  held_by : (o : Option HeldConfig) → held_config s ≡ o → held_config s ≡ None
  held_by None e = e
  held_by (Some k) e = absurd (let bad : Some k.config ≡ None = sym (ap (option_map (λ (z : HeldConfig). z.config)) e) ∙ h.configs.held ∙ unheld in (cc))

  pub session_unheld : held_config s ≡ None
  session_unheld = held_by (held_config s) refl

  config_by : (d : Call) (o : Option ℕ) → d.config ≡ o → has_config s d ≡ true → is_none d.config ≡ true
  config_by d None e there = ap (λ (c : Option ℕ). is_none c) e
  config_by d (Some k) e there =
      absurd (let bad : false ≡ true = sym (ap (λ (l : List HeldConfig). is_some (numbered l k)) (none_last s.configs session_unheld) ∙ ap (λ (c : Option HeldConfig). is_some c) (none_there k))
      ∙ sym (ap (λ (c : Option ℕ). option_map_or (λ (j : ℕ). is_some (numbered s.configs j)) c true) e) ∙ there in (cc))

  pub calls_unconfigured : (m : ℕ) (d : Call) → numbered s.calls m ≡ Some d → is_none d.config ≡ true
  calls_unconfigured m d there = config_by d d.config refl (all_numbered (has_config s) s.calls m d there h.kept.book.configs)

  configures_not : (d : Call) → is_to_configure s d ≡ false
  configures_not d = no_held (is_none d.end) (is_none d.config) (is_some (held_config s)) (ap (λ (o : Option HeldConfig). is_some o) session_unheld)

  -- what the line of configs gives of a call: that it ends, where it is one of the fail-fast
  module _ (m : ℕ) (d : Call) (there : numbered s.calls m ≡ Some d) where
    fail_fast_is : is_in_fail_fast s 0 m ≡ ((is_open_call d && is_none d.config) && not (waits_for_ready d s))
    fail_fast_is =
        ap (λ (o : Option Call). ((0 == 0) && holds (λ (c : Call). is_open_call c && is_none c.config) o) && not (holds (λ (c : Call). waits_for_ready c s) o)) there

    gives_by : (b : Bool) → lacks_config s d ≡ b → config_action s d ≡ (if b then Some (action.CallEnds d.number ending.NoConfig) else None)
    gives_by b e =
        ap (λ (a : Bool). if a then Some (action.CallConfigured d.number (length s.configs)) else if lacks_config s d then Some (action.CallEnds d.number ending.NoConfig) else None) (configures_not d)
        ∙ ap (λ (a : Bool). if a then Some (action.CallEnds d.number ending.NoConfig) else None) e

    pub gives_none : is_in_fail_fast s 0 m ≡ false → config_action s d ≡ None
    gives_none out =
        gives_by false (lacks_not (is_open_call d) (is_none d.config) (is_unconfigured s) (waits_for_ready d s) (calls_unconfigured m d there) (sym fail_fast_is ∙ out))

    pub gives_end : y.unconfigured ≡ true → is_in_fail_fast s 0 m ≡ true → config_action s d ≡ Some (action.CallEnds m ending.NoConfig)
    gives_end awaiting_config in_set =
        gives_by true (lacks_is (is_open_call d) (is_none d.config) (is_unconfigured s) (waits_for_ready d s) (unconfigured y s h unheld ∙ awaiting_config) (sym fail_fast_is ∙ in_set))
        ∙ ap (λ (n : ℕ). Some (action.CallEnds n ending.NoConfig)) (counted_at (λ (c : Call). c.number) s.calls m d h.kept.calls there)

    pub goes_on : is_in_fail_fast s 0 m ≡ true → d.end ≡ None
    goes_on in_set =
        none_of d.end (and_parts (is_open_call d) (is_none d.config) (and_parts (is_open_call d && is_none d.config) (not (waits_for_ready d s)) (sym fail_fast_is ∙ in_set)).0).0

-- a call of the set is there
call_by : (s : Seen) (m : ℕ) (o : Option Call) → numbered s.calls m ≡ o → is_in_fail_fast s 0 m ≡ true → (d : Call) × (numbered s.calls m ≡ Some d)
call_by s m None e in_set =
    absurd (let bad : false ≡ true = sym (ap (λ (o : Option Call). ((0 == 0) && holds (λ (c : Call). is_open_call c && is_none c.config) o) && not (holds (λ (c : Call). waits_for_ready c s) o)) e) ∙ in_set in (cc))
call_by s m (Some d) e in_set = (d, e)

-- where the loop stands: these are left
pub record Waits (pairs : List (ℕ × ℕ)) (z : StateSeen) (o : OpenEntry) (s : Seen) : Type 0 where
  pub agrees : Agrees (record z { fail_fast = pairs }) s
  pub empty : z.fail_fast ≡ []
  pub at : IsAt stage.Settling o s
  pub joined : IsJoined o s
  pub early : IsEarlyKept s
  pub held : z.held ≡ None
  pub awaiting_config : z.unconfigured ≡ true
  pub few : (n : ℕ) → has pairs (0, n) ≡ true → n ≤ 4294967295
  pub idle : (n : ℕ) (slot : CallSlot) → has pairs (0, n) ≡ true → slot_at z.book n ≡ Some slot → slot.call.live ≡ []

pub no_pass : (o : OpenEntry) (s : Seen) → o.turn ≡ None → next_of_pass o s ≡ None
no_pass o s fresh = ap (option_and_then (λ (t : Turn). next_asked (is_after t) s)) fresh

zero_first : (s : Seen) (a b : ℕ) → is_in_fail_fast s a b ≡ true → (a == 0) ≡ true
zero_first s a b e = (and_parts (a == 0) _ (and_parts _ (not (is_ready_waiter s b)) e).0).0

-- none is left
tended : (z : StateSeen) (o : OpenEntry) (s : Seen) → Waits [] z o s → IsTended o s
tended z o s w = record {
  clock = w.joined.clock;
  take_over = w.joined.take_over;
  connected = w.joined.connected;
  configs =
      none_numbered (config_action s) s.calls
      (λ m d there. gives_none (record z { fail_fast = [] }) s w.agrees w.held m d there (sym (w.agrees.sets.fail_fast.exact 0 m)));
  pass = no_pass o s w.joined.turn;
}

-- the next one ends
module _ (exact : QuiescenceIsExact) (clocks : ClockChanges) (rests : ClockRests) (overs : TakeOversAreSame) (wishes : WishesConnect) (nones : NoneConnects)
    (ends : CallsWithoutAttemptsEnd) (along : EarlyAlong) (awaiting_configs : UnconfiguredHaveNoAttempts) where
  module _ (n : ℕ) (rest : List (ℕ × ℕ)) (z : StateSeen) (o : OpenEntry) (s : Seen) (w : Waits ((0, n) ∷ rest) z o s) where
    abbrev y : StateSeen
    y = record z { fail_fast = (0, n) ∷ rest }

    in_set : is_in_fail_fast s 0 n ≡ true
    in_set = head_passes (0, n) rest (is_in_fail_fast s) w.agrees.sets.fail_fast

    found : (d : Call) × (numbered s.calls n ≡ Some d)
    found = call_by s n (numbered s.calls n) refl in_set

    below : (m : ℕ) (d : Call) → m < n → numbered s.calls m ≡ Some d → config_action s d ≡ None
    below m d less there =
        gives_none y s w.agrees w.held m d there (below_fails (0, n) rest (is_in_fail_fast s) m w.agrees.sets.fail_fast refl less)

    line_gives : first_of (config_action s) s.calls ≡ Some (action.CallEnds n ending.NoConfig)
    line_gives =
        first_numbered (config_action s) s.calls n found.0 (action.CallEnds n ending.NoConfig) found.1
        (gives_end y s w.agrees w.held n found.0 found.1 w.awaiting_config in_set) below

    stage_gives : of_stage o s o.stage ≡ Some (action.CallEnds n ending.NoConfig)
    stage_gives =
        ap (of_stage o s) w.at.stage_is
        ∙ first_three (next_of_clock s) (next_take_over s) (next_connected s) (first_of (config_action s) s.calls) (next_of_pass o s) (next_due_attempt s) (next_of_queue s)
        (Some action.EntryCloses) (action.CallEnds n ending.NoConfig) w.joined.clock w.joined.take_over w.joined.connected line_gives

    follows : following s ≡ Some (action.CallEnds n ending.NoConfig)
    follows =
        ap (option_and_then (following_in s)) w.at.current
        ∙ follows_by (of_calls o s) (of_links o s) (of_policies o s) (of_stage o s o.stage) (action.CallEnds n ending.NoConfig) w.at.quiescent.calls w.at.quiescent.links w.at.quiescent.policies stage_gives

    quiescent : order.IsQuiescent o s
    quiescent = (exact o s).0 (w.at.quiescent.calls, w.at.quiescent.links, w.at.quiescent.policies)

    unconfigured_found : IsUnconfigured s found.0
    unconfigured_found =
        awaiting_configs s n found.0 w.agrees.kept w.early found.1 (goes_on y s w.agrees w.held n found.0 found.1 in_set)
        (none_of found.0.config (calls_unconfigured y s w.agrees w.held n found.0 found.1))

    ends_next : EndsWithoutAttemptsNext n ending.NoConfig y o s
    ends_next = record {
      current = w.at.current;
      agrees = w.agrees;
      early = w.early;
      call = found.0;
      there = found.1;
      awaiting_config = unconfigured_found;
      quiescent = quiescent;
      next = follows;
    }

    pub ended : HasEndedWithoutAttempts n ending.NoConfig y o s
    ended = ends n ending.NoConfig y o s ends_next

    -- its slot
    own : HasSlot y s found.0 n
    own = w.agrees.calls.each n found.0 found.1

    here : slot_at z.book n ≡ Some own.slot
    here = own.there

    live : own.slot.call.live ≡ []
    live = w.idle n own.slot (ap (λ (b : Bool). b || has rest (0, n)) (self_same (0, n))) here

    unended : own.slot.call.ended ≡ None
    unended = sym own.sees.serves.sees.ended ∙ ap (option_map (λ (e : CallEnd). e.cause)) unconfigured_found.end

    quiet : z.resets ≡ []
    quiet = w.agrees.sets.resets

    abbrev pub after : StateSeen
    after = closed ending.NoConfig n z

    same : closed ending.NoConfig n y ≡ record after { fail_fast = rest }
    same = closed_first ending.NoConfig n own.slot live unended z rest here quiet

    agrees_after : Agrees (record after { fail_fast = rest }) ended.seen
    agrees_after = subst (λ (x : StateSeen). Agrees x ended.seen) same ended.agrees

    later_in : (m : ℕ) → has rest (0, m) ≡ true → has ((0, n) ∷ rest) (0, m) ≡ true
    later_in m e = ap (λ (b : Bool). is_same (0, m) (0, n) || b) e ∙ or_true (is_same (0, m) (0, n))

    apart_by : (m : ℕ) (b : Bool) → (m == n) ≡ b → has rest (0, m) ≡ true → b ≡ false
    apart_by m false f e = refl
    apart_by m true f e =
        absurd (let bad : false ≡ true = sym (none_afterwards (0, n) rest w.agrees.sets.fail_fast.rising.0) ∙ ap (λ (k : ℕ). has rest (0, k)) (sym (equal_numbers m n f)) ∙ e in (cc))

    apart : (m : ℕ) → has rest (0, m) ≡ true → (m == n) ≡ false
    apart m e = apart_by m (m == n) refl e

    pub waits_after : Waits rest after o ended.seen
    waits_after = record {
      agrees = agrees_after;
      empty = closed_last ending.NoConfig n own.slot live unended z here quiet w.empty;
      at = record {
        current = ended.current;
        stage_is = w.at.stage_is;
        quiescent = (let back = (exact o ended.seen).1 ended.quiescent in record { calls = back.0; links = back.1; policies = back.2 });
      };
      joined = record {
        turn = w.joined.turn;
        clock =
            clock_stays clocks rests overs wishes nones y (record after { fail_fast = rest }) s ended.seen w.agrees agrees_after
            (closed_net ending.NoConfig n own.slot live unended z here quiet) (closed_moment ending.NoConfig n own.slot live unended z here quiet) w.joined.clock;
        take_over =
            over_stays clocks rests overs wishes nones y (record after { fail_fast = rest }) s ended.seen w.agrees agrees_after
            (closed_net ending.NoConfig n own.slot live unended z here quiet) w.joined.take_over;
        connected =
            wish_stays clocks rests overs wishes nones y (record after { fail_fast = rest }) s ended.seen w.agrees agrees_after
            (closed_net ending.NoConfig n own.slot live unended z here quiet) w.joined.connected;
      };
      early = along (action.CallEnds n ending.NoConfig ∷ ended.actions) s ended.seen w.agrees.kept w.early ended.does;
      held = closed_held ending.NoConfig n own.slot live unended z here quiet ∙ w.held;
      awaiting_config = closed_unconfigured ending.NoConfig n own.slot live unended z here quiet ∙ w.awaiting_config;
      few = λ m e. w.few m (later_in m e);
      idle = λ m slot e there. w.idle m slot (later_in m e) (sym (closed_away ending.NoConfig n own.slot live unended z m here quiet (apart m e)) ∙ there);
    }

    pub one_ended : Leads (record after { fail_fast = rest }) o s (λ p t. Unit {0})
    one_ended = record {
      reaches = record {
        actions = action.CallEnds n ending.NoConfig ∷ ended.actions;
        seen = ended.seen;
        entry = o;
        does = ended.does;
        posts = ended.posts;
        same = record { moment = refl; word = refl; event = refl; entries = ended.entries; setup = ended.setup };
        at = waits_after.at;
        agrees = agrees_after;
      };
      reply = refl;
      point = tt;
    }

  -- all of them, one after the other
  all_ended : (pairs : List (ℕ × ℕ)) (z : StateSeen) (o : OpenEntry) (s : Seen) → are_plain pairs ≡ true → Waits pairs z o s → Leads (all_unconfigured (due_keys 0 pairs) z) o s IsTended
  unfolding one_ended ended
  all_ended [] z o s plain w =
      subst (λ (x : StateSeen). Leads x o s IsTended) (ap (λ (l : List (ℕ × ℕ)). record z { fail_fast = l }) (sym w.empty))
      (stays_at (record z { fail_fast = [] }) o s IsTended w.agrees w.at (tended z o s w))
  all_ended (p ∷ rest) z o s plain w =
      let both = and_parts (p.0 == 0) (are_plain rest) plain in
      let head : p ≡ (0, p.1) = ap (λ (m : ℕ). (m, p.1)) (is_zero p.0 both.0) in
      let v : Waits ((0, p.1) ∷ rest) z o s = subst (λ (q : ℕ × ℕ). Waits (q ∷ rest) z o s) head w in
      let one = one_ended p.1 rest z o s v in
      let more : Leads (all_unconfigured (due_keys 0 rest) (closed ending.NoConfig p.1 z)) o one.reaches.seen IsTended
      = all_ended rest (closed ending.NoConfig p.1 z) o one.reaches.seen both.1 (waits_after p.1 rest z o s v) in
      let small : number_of p.1 ≡ p.1 = within_word p.1 (v.few p.1 (ap (λ (b : Bool). b || has rest (0, p.1)) (self_same (0, p.1)))) in
      let keys : all_unconfigured (due_keys 0 (p ∷ rest)) z ≡ all_unconfigured (due_keys 0 rest) (closed ending.NoConfig p.1 z)
      = ap (λ (l : List ℕ). all_unconfigured l z) (keys_next p rest plain) ∙ ap (λ (m : ℕ). all_unconfigured (due_keys 0 rest) (closed ending.NoConfig m z)) small in
      subst (λ (x : StateSeen). Leads x o s IsTended) (sym keys)
      (leads_on (record (closed ending.NoConfig p.1 z) { fail_fast = rest }) (all_unconfigured (due_keys 0 rest) (closed ending.NoConfig p.1 z)) o s (λ q t. Unit {0}) IsTended one more)

  -- the whole step
  module _ (x : StateSeen) (o : OpenEntry) (s : Seen) (h : Agrees x s) (sound : IsSound x s) (at : IsAt stage.Settling o s) (joined : IsJoined o s) (unheld : x.held ≡ None) where
    plain : are_plain x.fail_fast ≡ true
    plain = plain_by x.fail_fast (is_in_fail_fast s) h.sets.fail_fast (zero_first s)

    same_slot : (n : ℕ) (a b : CallSlot) → slot_at x.book n ≡ Some a → slot_at x.book n ≡ Some b → a ≡ b
    same_slot n a b e f = let both : Some a ≡ Some b = sym e ∙ f in (cc)

    waits_first : x.unconfigured ≡ true → Waits x.fail_fast (record x { fail_fast = later 0 x.fail_fast }) o s
    waits_first awaiting_config = record {
      agrees = h;
      empty = none_later x.fail_fast plain;
      at = at;
      joined = joined;
      early = sound.early;
      held = unheld;
      awaiting_config = awaiting_config;
      few =
          λ n e. let in_set = sym (h.sets.fail_fast.exact 0 n) ∙ e in
          let d = call_by s n (numbered s.calls n) refl in_set in
          below_all n (length s.calls) (places_below s.calls n d.0 d.1) sound.few;
      idle =
          λ n slot e there. let in_set = sym (h.sets.fail_fast.exact 0 n) ∙ e in
          let d = call_by s n (numbered s.calls n) refl in_set in
          let own = h.calls.each n d.0 d.1 in
          let none = (awaiting_configs s n d.0 h.kept sound.early d.1 (goes_on x s h unheld n d.0 d.1 in_set) (none_of d.0.config (calls_unconfigured x s h unheld n d.0 d.1))).none in
          ap (λ (k : CallSlot). k.call.live) (same_slot n slot own.slot there own.there) ∙ sym own.sees.serves.sees.live ∙ none_live s d.0 none;
    }

    -- where the resolver has not answered yet, they wait
    lacks_none : x.unconfigured ≡ false → (m : ℕ) (d : Call) → numbered s.calls m ≡ Some d → config_action s d ≡ None
    lacks_none off m d there =
        gives_by x s h unheld m d there false
        (ap (λ (b : Bool). is_open_call d && b && not (waits_for_ready d s)) (unconfigured x s h unheld ∙ off) ∙ and_off (is_open_call d) (not (waits_for_ready d s)))

    by_answer : (b : Bool) → x.unconfigured ≡ b
        → Leads (if b then all_unconfigured (due_keys 0 x.fail_fast) (record x { fail_fast = later 0 x.fail_fast }) else x) o s IsTended
    by_answer true e = all_ended x.fail_fast (record x { fail_fast = later 0 x.fail_fast }) o s plain (waits_first e)
    by_answer false e =
        stays_at x o s IsTended h at
        (record {
          clock = joined.clock;
          take_over = joined.take_over;
          connected = joined.connected;
          configs = none_numbered (config_action s) s.calls (lacks_none e);
          pass = no_pass o s joined.turn;
        })

    served_is : unconfigured_served x ≡ (if x.unconfigured then all_unconfigured (due_keys 0 x.fail_fast) (record x { fail_fast = later 0 x.fail_fast }) else x)
    unfolding unconfigured_served
    served_is =
        ap (λ (c : Option Config). if is_some c then all_configured (due_keys 0 x.awaiting_config) (record x { awaiting_config = later 0 x.awaiting_config; fail_fast = [] })
        else if x.unconfigured then all_unconfigured (due_keys 0 x.fail_fast) (record x { fail_fast = later 0 x.fail_fast })
        else x) unheld

    pub unserved_end : Leads (unconfigured_served x) o s IsTended
    unserved_end = subst (λ (y : StateSeen). Leads y o s IsTended) (sym served_is) (by_answer x.unconfigured refl)
