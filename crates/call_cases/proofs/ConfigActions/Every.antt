-- Where a config is held, each call without a config gets it, or ends by it.
use Rattle.std.proofs.Common.{◌≡◌, ◌||◌, ◌==◌, ◌∷◌, ap, refl, subst, sym, ◌∙◌, Bool, true, false, List, [], Option, Some, ℕ, if◌then◌else◌, is_some, length, not}
use Rattle.std.proofs.lemmas.Bool.{and_parts}
use Rattle.std.specs.Set.{remove_key}
use Rattle.call_actions.proofs.Places.{places_below}
use Rattle.call_core.specs.Parts.{is_too_long}
use Rattle.channel_actions.specs.Agrees.{Agrees}
use Rattle.channel_actions.specs.Quiescent.{IsAt}
use Rattle.channel_actions.specs.Sets.{is_awaiting_config, is_in_fail_fast, is_ready_waiter}
use Rattle.channel_core.specs.States.{StateSeen}
use Rattle.channel_core.specs.Steps.{all_configured, all_unconfigured, unconfigured_served, configured_call}
use Rattle.channel_core.specs.Timing.{due_keys, later, number_of}
use Rattle.call_cases.proofs.ConfigActions.Unserved.{below_all, is_zero, within_word}
use Rattle.session_order.specs.ConfigStirs.Laws.{ConfigsStir}
use Rattle.call_cases.specs.ConfiguredCalls.Laws.{CallsGetConfigs, Frames}
use Rattle.channel_actions.specs.KeptCalls.Laws.{UnconfiguredHaveNoAttempts, EarlyAlong}
use Rattle.net_actions.specs.Laws.{ClockChanges, ClockRests, NoneConnects, TakeOversAreSame, WishesConnect}
use Rattle.picker_gate.specs.Pairs.{has, is_same}
use Rattle.service_config.specs.Choice.{chosen_for}
use Rattle.service_config.specs.declared.config.Config.{Config}
use Rattle.session_actions.specs.Words.{numbered}
use Rattle.session_actions.specs.declared.entry.OpenEntry.{OpenEntry}
use Rattle.session_actions.specs.declared.entry.Stage.TheVariants as stage
use Rattle.session_actions.specs.declared.seen.Seen.{Seen}
use Rattle.session_order.specs.Laws.{QuiescenceIsExact}
use Rattle.channel_actions.proofs.Links.Settings.Keys.{are_plain, keys_next, none_later, plain_by}
use Rattle.channel_actions.proofs.Links.Settings.Pairs.{self_same}
use Rattle.call_cases.proofs.SettlingActions.Composed.{leads_on, stays_at}
use Rattle.call_cases.specs.SettlingActions.Sound.{IsSound}
use Rattle.call_cases.specs.SettlingActions.Steps.{IsJoined, IsTended, Leads}
use Rattle.call_cases.proofs.ConfigActions.Tended.{Gets, OneServed, unconfigured_first, unconfigured_there, empty_by}
use Rattle.call_cases.proofs.ConfigActions.Served.{long_served, own, served_tended, short_served}

module _ (exact : QuiescenceIsExact) (stir : ConfigsStir) (clocks : ClockChanges) (rests : ClockRests) (overs : TakeOversAreSame) (wishes : WishesConnect) (nones : NoneConnects)
    (gets : CallsGetConfigs) (frames : Frames) (along : EarlyAlong) (awaiting_configs : UnconfiguredHaveNoAttempts) (config : Config) where
  no_others_left : (s : Seen) (others : List (ℕ × ℕ)) (y : StateSeen) → Agrees y s → y.awaiting_config ≡ [] → y.fail_fast ≡ []
  no_others_left s others y h none =
      empty_by y.fail_fast (is_in_fail_fast s) h.sets.fail_fast
      (λ a b e. absurd (let bad : false ≡ true = ap (λ (l : List (ℕ × ℕ)). has l (a, b)) (sym none) ∙ h.sets.awaiting_config.exact a b ∙ (and_parts (is_awaiting_config s a b) (not (is_ready_waiter s b)) e).0 in (cc)))

  -- whether a message that it sent is too long or not
  step_by : (n : ℕ) (rest others : List (ℕ × ℕ)) (z : StateSeen) (o : OpenEntry) (s : Seen) (w : Gets config ((0, n) ∷ rest) others z o s) (b : Bool)
      → is_too_long (Some (chosen_for config (own exact stir clocks rests overs wishes nones gets frames along awaiting_configs config n rest others z o s w).slot.call.request.path))
      (own exact stir clocks rests overs wishes nones gets frames along awaiting_configs config n rest others z o s w).slot.call.longest ≡ b
      → OneServed config n rest others z o s
  step_by n rest others z o s w true e = long_served exact stir clocks rests overs wishes nones gets frames along awaiting_configs config n rest others z o s w e
  step_by n rest others z o s w false e = short_served exact stir clocks rests overs wishes nones gets frames along awaiting_configs config n rest others z o s w e

  step : (n : ℕ) (rest others : List (ℕ × ℕ)) (z : StateSeen) (o : OpenEntry) (s : Seen) → Gets config ((0, n) ∷ rest) others z o s → OneServed config n rest others z o s
  step n rest others z o s w = step_by n rest others z o s w _ refl

  -- all of them, one after the other
  all_served : (pairs others : List (ℕ × ℕ)) (z : StateSeen) (o : OpenEntry) (s : Seen) → are_plain pairs ≡ true → Gets config pairs others z o s
      → Leads (all_configured (due_keys 0 pairs) z) o s IsTended
  all_served [] others z o s plain w =
      let none : others ≡ [] = no_others_left s others (record z { awaiting_config = []; fail_fast = others }) w.agrees refl in
      let same : record z { awaiting_config = []; fail_fast = others } ≡ z
      = ap (λ (l : List (ℕ × ℕ)). record z { awaiting_config = []; fail_fast = l }) (none ∙ sym w.no_others) ∙ ap (λ (l : List (ℕ × ℕ)). record z { awaiting_config = l }) (sym w.no_unconfigured) in
      subst (λ (x : StateSeen). Leads x o s IsTended) same
      (stays_at (record z { awaiting_config = []; fail_fast = others }) o s IsTended w.agrees w.at (served_tended config others z o s w))
  all_served (p ∷ rest) others z o s plain w =
      let both = and_parts (p.0 == 0) (are_plain rest) plain in
      let head : p ≡ (0, p.1) = ap (λ (m : ℕ). (m, p.1)) (is_zero p.0 both.0) in
      let v : Gets config ((0, p.1) ∷ rest) others z o s = subst (λ (q : ℕ × ℕ). Gets config (q ∷ rest) others z o s) head w in
      let one : OneServed config p.1 rest others z o s = step p.1 rest others z o s v in
      let left : List (ℕ × ℕ) = remove_key (is_same (0, p.1)) others in
      let more : Leads (all_configured (due_keys 0 rest) (configured_call p.1 z)) one.leads.reaches.entry one.leads.reaches.seen IsTended
      = all_served rest left (configured_call p.1 z) one.leads.reaches.entry one.leads.reaches.seen both.1 one.gets in
      let small : number_of p.1 ≡ p.1 = within_word p.1 (v.few p.1 (ap (λ (b : Bool). b || has rest (0, p.1)) (self_same (0, p.1)))) in
      let keys : all_configured (due_keys 0 (p ∷ rest)) z ≡ all_configured (due_keys 0 rest) (configured_call p.1 z)
      = ap (λ (l : List ℕ). all_configured l z) (keys_next p rest plain) ∙ ap (λ (m : ℕ). all_configured (due_keys 0 rest) (configured_call m z)) small in
      subst (λ (x : StateSeen). Leads x o s IsTended) (sym keys)
      (leads_on (record (configured_call p.1 z) { awaiting_config = rest; fail_fast = left }) (all_configured (due_keys 0 rest) (configured_call p.1 z)) o s (λ q u. Unit {0}) IsTended one.leads more)

  -- the whole step
  module _ (x : StateSeen) (o : OpenEntry) (s : Seen) (h : Agrees x s) (sound : IsSound x s) (at : IsAt stage.Settling o s) (joined : IsJoined o s)
      (held : x.held ≡ Some config) where
    plain_unconfigured : are_plain x.awaiting_config ≡ true
    plain_unconfigured = plain_by x.awaiting_config (is_awaiting_config s) h.sets.awaiting_config (unconfigured_first s)

    gets_first : Gets config x.awaiting_config x.fail_fast (record x { awaiting_config = later 0 x.awaiting_config; fail_fast = [] }) o s
    gets_first = record {
      agrees = h;
      no_unconfigured = none_later x.awaiting_config plain_unconfigured;
      no_others = refl;
      at = at;
      joined = joined;
      held = held;
      early = sound.early;
      few =
          λ n e. let d = unconfigured_there s n (numbered s.calls n) refl (sym (h.sets.awaiting_config.exact 0 n) ∙ e) in
          below_all n (length s.calls) (places_below s.calls n d.0 d.1) sound.few;
    }

    served_is : unconfigured_served x ≡ all_configured (due_keys 0 x.awaiting_config) (record x { awaiting_config = later 0 x.awaiting_config; fail_fast = [] })
    unfolding unconfigured_served
    served_is =
        ap (λ (c : Option Config). if is_some c then all_configured (due_keys 0 x.awaiting_config) (record x { awaiting_config = later 0 x.awaiting_config; fail_fast = [] })
        else if x.unconfigured then all_unconfigured (due_keys 0 x.fail_fast) (record x { fail_fast = later 0 x.fail_fast })
        else x) held

    pub served_get : Leads (unconfigured_served x) o s IsTended
    served_get =
        subst (λ (y : StateSeen). Leads y o s IsTended) (sym served_is)
        (all_served x.awaiting_config x.fail_fast (record x { awaiting_config = later 0 x.awaiting_config; fail_fast = [] }) o s plain_unconfigured gets_first)
