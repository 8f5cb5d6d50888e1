-- What holds of every config that was held holds of each that is read, and no other action holds one.
use Rattle.std.proofs.Common.{◌≡◌, ◌++◌, ◌+◌, ◌∷◌, ap, refl, subst, sym, ◌∙◌, Bool, true, Err, List, [], None, Ok, Option, Result, Some, ℕ, suc, zero, is_some, length, slice_get}
use Rattle.channel_actions.proofs.BoardActions.Boards.{one_boarded}
use Rattle.event_cases.proofs.HeldKinds.Events.{config_is_of_event}
use Rattle.event_cases.proofs.HeldKinds.Reads.{text_has}
use Rattle.event_cases.specs.ConfigReads.Throttled.{BucketsFollowConfigs}
use Rattle.event_cases.specs.HeldKinds.Laws.{ConfigsAreThrottled, HeldKindsAreThere, KindsAreThere}
use Rattle.grpc_base.specs.Kinds.{KindsSeen, has_kind}
use Rattle.grpc_base.specs.declared.event.ConfigFault.{ConfigFault}
use Rattle.grpc_base.specs.declared.event.Event.TheVariants as event
use Rattle.grpc_base.specs.declared.event.Event.{Event}
use Rattle.grpc_base.specs.declared.event.Reply.TheVariants as reply
use Rattle.grpc_base.specs.declared.kind.Kind.TheVariants as kind
use Rattle.grpc_base.specs.declared.kind.Pick.{Pick}
use Rattle.grpc_base.specs.declared.plan.Throttle.{Throttle}
use Rattle.net_actions.proofs.NetFrames.Left.{one_left}
use Rattle.service_config.specs.Choice.{empty_config}
use Rattle.service_config.specs.declared.config.Config.{Config}
use Rattle.session_actions.specs.Actions.{after, after_if, after_in, following}
use Rattle.session_actions.specs.Configs.{config_read, kinds_in, read_config, resolver_answered, run_to_join, with_held, with_throttled}
use Rattle.session_actions.specs.Deliveries.{call_begun_by}
use Rattle.session_actions.specs.Entries.{replied}
use Rattle.session_actions.specs.Making.{attempt_made}
use Rattle.session_actions.specs.Sessions.{Does, IsNext, new_session}
use Rattle.session_actions.specs.Words.{numbered}
use Rattle.session_actions.specs.declared.action.Action.TheVariants as action
use Rattle.session_actions.specs.declared.action.Action.{Action}
use Rattle.session_actions.specs.declared.config.HeldConfig.{HeldConfig}
use Rattle.session_actions.specs.declared.entry.OpenEntry.{OpenEntry}
use Rattle.session_actions.specs.declared.seen.PolicyKind.{PolicyKind}
use Rattle.session_actions.specs.declared.seen.Seen.{Seen}
use Rattle.session_actions.specs.declared.seen.Setup.{Setup}
use Rattle.session_order.proofs.SessionLaws.Same.{is_quiet, made_keeps, same_if, same_self}

-- of each config
abbrev pub Each : (HeldConfig → Type 0) → List HeldConfig → Type 0
Each P configs = (k : ℕ) (h : HeldConfig) → numbered configs k ≡ Some h → P h

each_at : (P : HeldConfig → Type 0) (configs : List HeldConfig) (g : HeldConfig) → ((i : ℕ) (h : HeldConfig) → slice_get configs i ≡ Some h → P h) → P g
    → (i : ℕ) (h : HeldConfig) → slice_get (configs ++ g ∷ []) i ≡ Some h → P h
each_at P [] g all own zero h e = let one : g ≡ h = (cc) in subst P one own
each_at P [] g all own (suc i) h e = absurd (cc)
each_at P (c ∷ configs) g all own zero h e = all zero h e
each_at P (c ∷ configs) g all own (suc i) h e = each_at P configs g (λ j k f. all (suc j) k f) own i h e

each_more : (P : HeldConfig → Type 0) (configs : List HeldConfig) (g : HeldConfig) → Each P configs → P g → Each P (configs ++ g ∷ [])
each_more P configs g all own zero h e = absurd (cc)
each_more P configs g all own (suc i) h e = each_at P configs g (λ j k f. all (suc j) k f) own i h e

module _ (P : HeldConfig → Type 0) where
  throttled_by : (config : Config) (t : Throttle) (o : Option ℕ) (s : Seen) → ((run : ℕ) → P (record { config = config; run = Some run })) → Each P s.configs
      → Each P (with_throttled config t o s).configs
  throttled_by config t (Some run) s own all = each_more P s.configs (record { config = config; run = Some run }) all (own run)
  throttled_by config t None s own all = each_more P s.configs (record { config = config; run = Some (length s.runs + 1) }) all (own (length s.runs + 1))

  held_by : (config : Config) (o : Option Throttle) (s : Seen) → config.throttle ≡ o → ((run : Option ℕ) → is_some run ≡ is_some config.throttle → P (record { config = config; run = run }))
      → Each P s.configs → Each P (with_held config o s).configs
  held_by config None s is own all = each_more P s.configs (record { config = config; run = None }) all (own None (sym (ap (λ (t : Option Throttle). is_some t) is)))
  held_by config (Some t) s is own all =
      throttled_by config t (run_to_join t s) s (λ run. own (Some run) (sym (ap (λ (u : Option Throttle). is_some u) is))) all

  read_by : (r : Result Config ConfigFault) (s : Seen)
      → ((config : Config) → r ≡ Ok config → (run : Option ℕ) → is_some run ≡ is_some config.throttle → P (record { config = config; run = run }))
      → Each P s.configs → Each P (config_read r s).configs
  read_by (Ok config) s own all = held_by config config.throttle (replied reply.Done (resolver_answered s)) refl (own config refl) all
  read_by (Err fault) s own all = all

  begun_by : (e : Event) (s : Seen) → Each P s.configs → Each P (call_begun_by e s).configs
  begun_by (event.Begin request) s all = all
  begun_by e s all = all

  pub same_by : (s t : Seen) → t.configs ≡ s.configs → Each P s.configs → Each P t.configs
  same_by s t e all = subst (Each P) (sym e) all

  quiet_by : (o : OpenEntry) (a : Action) (s : Seen) → is_quiet a ≡ true → Each P s.configs → Each P (after_in o a s).configs
  quiet_by o a s quiet all = same_by s (after_in o a s) (same_if (Some o) a s (same_self s) quiet).configs all

  -- a config that is read has what it says of those that may be read
  abbrev pub Reads : Action → Type 0
  Reads (action.ConfigRead r) = (config : Config) → r ≡ Ok config → (run : Option ℕ) → is_some run ≡ is_some config.throttle → P (record { config = config; run = run })
  Reads _ = Unit {0}

  in_by : (o : OpenEntry) (a : Action) (s : Seen) → Reads a → Each P s.configs → Each P (after_in o a s).configs
  in_by o action.CallBegins s reads all = begun_by o.event s all
  in_by o (action.ConfigRead r) s reads all = read_by r s reads all
  in_by o (action.CallConfigured call config) s reads all = all
  in_by o (action.AttemptMade call number k due) s reads all = same_by s (attempt_made call number k due s) (made_keeps call number k due s).configs all
  in_by o a s reads all = quiet_by o a s refl all

  pub each_if : (o : Option OpenEntry) (a : Action) (s : Seen) → Reads a → Each P s.configs → Each P (after_if o a s).configs
  each_if (Some o) a s reads all = in_by o a s reads all
  each_if None (action.EntryOpens posted word e) s reads all = all
  each_if None a s reads all = all

-- runs and throttle settings
abbrev HasRun : HeldConfig → Type 0
HasRun h = is_some h.run ≡ is_some h.config.throttle

runs_read : (a : Action) → Reads HasRun a
runs_read (action.ConfigRead r) = λ config is run e. e
runs_read a = tt

throttled_along : (actions : List Action) (s t : Seen) → Each HasRun s.configs → Does actions s t → Each HasRun t.configs
throttled_along [] s t all does = same_by HasRun s t (ap (λ (v : Seen). v.configs) does) all
throttled_along (a ∷ actions) s t all does = throttled_along actions (after a s) t (each_if HasRun s.current a s (runs_read a) all) does.1

pub none_held : (P : HeldConfig → Type 0) → Each P []
none_held P zero h e = absurd (cc)
none_held P (suc i) h e = absurd (cc)

pub configs_are_throttled : ConfigsAreThrottled
configs_are_throttled setup actions s does k h there = throttled_along actions (new_session setup) s (none_held HasRun) does k h there

-- kinds: the setup stays
asked_setup : (o : Option OpenEntry) (s : Seen) (row g : ℕ) (w : Pick) → (after_if o (action.PickRequested row g w) s).setup ≡ s.setup
asked_setup None s row g w = refl
asked_setup (Some o) s row g w = refl

pub setup_stays : (s : Seen) (a : Action) → (after a s).setup ≡ s.setup
setup_stays s (action.PickRequested row g w) = asked_setup s.current s row g w
setup_stays s (action.PolicyBegins k) = ap (λ (v : Seen). v.setup) (one_boarded s (action.PolicyBegins k) refl)
setup_stays s (action.AddressesGiven g) = ap (λ (v : Seen). v.setup) (one_boarded s (action.AddressesGiven g) refl)
setup_stays s (action.PolicyTakesOver g) = ap (λ (v : Seen). v.setup) (one_boarded s (action.PolicyTakesOver g) refl)
setup_stays s (action.PolicyRetired g) = ap (λ (v : Seen). v.setup) (one_boarded s (action.PolicyRetired g) refl)
setup_stays s (action.SubchannelAdded address) = ap (λ (v : Seen). v.setup) (one_boarded s (action.SubchannelAdded address) refl)
setup_stays s (action.SubchannelShut sub) = ap (λ (v : Seen). v.setup) (one_boarded s (action.SubchannelShut sub) refl)
setup_stays s (action.SubchannelConnects sub) = ap (λ (v : Seen). v.setup) (one_boarded s (action.SubchannelConnects sub) refl)
setup_stays s (action.DialTaken sub again until) = ap (λ (v : Seen). v.setup) (one_boarded s (action.DialTaken sub again until) refl)
setup_stays s (action.DialFails sub) = ap (λ (v : Seen). v.setup) (one_boarded s (action.DialFails sub) refl)
setup_stays s (action.ConnectTimesOut sub) = ap (λ (v : Seen). v.setup) (one_boarded s (action.ConnectTimesOut sub) refl)
setup_stays s (action.BackoffEnds sub) = ap (λ (v : Seen). v.setup) (one_boarded s (action.BackoffEnds sub) refl)
setup_stays s (action.LinkUp sub) = ap (λ (v : Seen). v.setup) (one_boarded s (action.LinkUp sub) refl)
setup_stays s (action.SettingsArrive sub) = ap (λ (v : Seen). v.setup) (one_boarded s (action.SettingsArrive sub) refl)
setup_stays s (action.LinkDown sub) = ap (λ (v : Seen). v.setup) (one_boarded s (action.LinkDown sub) refl)
setup_stays s a = (one_left s a refl).setup

abbrev IsOf : KindsSeen → HeldConfig → Type 0
IsOf kinds h = has_kind kinds h.config.kind ≡ true

pub read_of : (text : Option (List ℕ)) (s : Seen) (config : Config) → has_kind (kinds_in s.setup.policies) kind.PickFirst ≡ true → read_config text s ≡ Ok config
    → has_kind (kinds_in s.setup.policies) config.kind ≡ true
read_of None s config first e = first_kind e
  where
    first_kind : read_config None s ≡ Ok config → has_kind (kinds_in s.setup.policies) config.kind ≡ true
    first_kind f =
        let one : empty_config ≡ config = (cc) in
        ap (λ (c : Config). has_kind (kinds_in s.setup.policies) c.kind) (sym one) ∙ first
read_of (Some text) s config first e = text_has (kinds_in s.setup.policies) text config e

kinds_read : (s : Seen) (a : Action) → has_kind (kinds_in s.setup.policies) kind.PickFirst ≡ true → IsNext a s → Reads (IsOf (kinds_in s.setup.policies)) a
kinds_read s (action.ConfigRead r) first next =
    λ config is run e.
    (let of_event = config_is_of_event s r next in
    read_of of_event.0 s config first (sym of_event.1 ∙ is))
kinds_read s a first next = tt

kinds_along : (actions : List Action) (s t : Seen) → has_kind (kinds_in s.setup.policies) kind.PickFirst ≡ true → Each (IsOf (kinds_in s.setup.policies)) s.configs → Does actions s t
    → KindsAreThere t
kinds_along [] s t first all does =
    subst KindsAreThere (sym does) all
kinds_along (a ∷ actions) s t first all does =
    let kinds : kinds_in (after a s).setup.policies ≡ kinds_in s.setup.policies = ap (λ (u : Setup). kinds_in u.policies) (setup_stays s a) in
    kinds_along actions (after a s) t (ap (λ (ks : KindsSeen). has_kind ks kind.PickFirst) kinds ∙ first)
    (subst (λ (ks : KindsSeen). Each (IsOf ks) (after a s).configs) (sym kinds) (each_if (IsOf (kinds_in s.setup.policies)) s.current a s (kinds_read s a first does.0) all)) does.1

pub held_kinds_are_there : HeldKindsAreThere
held_kinds_are_there setup actions s first does = kinds_along actions (new_session setup) s first (none_held (IsOf (kinds_in setup.policies))) does
