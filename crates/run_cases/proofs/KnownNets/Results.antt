-- A result after which a config is held, in a session that is known to keep what runs keep: the config is of a kind that the channel was made with.
use Rattle.channel_actions.specs.Agrees.{Agrees}
use Rattle.channel_actions.specs.FewCalls.Reached.{IsReached}
use Rattle.event_cases.proofs.HeldKinds.Along.{read_of, setup_stays}
use Rattle.channel_actions.proofs.Posted.{kinds_same}
use Rattle.event_cases.proofs.ResultEvents.BadConfigs.{read_by}
use Rattle.event_cases.specs.HeldKinds.Laws.{ConfigsAreThrottled, HeldKindsAreThere}
use Rattle.event_cases.specs.HeldResults.Cases.{IsHeldResult, held_after}
use Rattle.event_cases.specs.HeldResults.Laws.{HeldResultsAreAnswered}
use Rattle.run_cases.specs.KnownNets.Laws.{IsKnownResult, KnownResultsAreAnswered}
use Rattle.run_cases.specs.KnownStages.Laws.{PicksAreThere}
use Rattle.event_cases.specs.LeftLinks.Laws.{LeftLinksAreStamped}
use Rattle.channel_core.specs.Applying.{config_read}
use Rattle.channel_core.specs.States.{StateSeen}
use Rattle.grpc_base.specs.Kinds.{KindsSeen, has_kind}
use Rattle.grpc_base.specs.declared.event.ConfigFault.{ConfigFault}
use Rattle.grpc_base.specs.declared.event.Event.{Event}
use Rattle.grpc_base.specs.declared.kind.Kind.TheVariants as kind
use Rattle.policy_rack.specs.Kinds.{kinds_of}
use Rattle.service_config.specs.declared.config.Config.{Config}
use Rattle.session_actions.specs.Actions.{after}
use Rattle.session_actions.specs.Configs.{held_config, kinds_in}
use Rattle.session_actions.specs.Sessions.{Does, new_session}
use Rattle.session_actions.specs.declared.action.Action.{Action}
use Rattle.session_actions.specs.declared.config.HeldConfig.{HeldConfig}
use Rattle.session_actions.specs.declared.seen.Seen.{Seen}
use Rattle.session_actions.specs.declared.seen.Setup.{Setup}
use Rattle.std.proofs.Common.{Err, List, None, Ok, Option, Result, Some, [], ap, false, is_some, length, refl, sym, true, ℕ, ◌||◌, ◌∙◌, ◌∷◌, ◌≡◌}
use Rattle.std.specs.Option.{option_map}
use Rattle.std.specs.Prelude.{is_ok}

pub setup_along : (actions : List Action) (s t : Seen) → Does actions s t → t.setup ≡ s.setup
setup_along [] s t does = ap (λ (v : Seen). v.setup) does
setup_along (a ∷ actions) s t does = setup_along actions (after a s) t does.1 ∙ setup_stays s a

config_under : (o : Option HeldConfig) (c : Config) → option_map (λ (h : HeldConfig). h.config) o ≡ Some c → (h : HeldConfig) × (o ≡ Some h) × (h.config ≡ c)
config_under (Some h) c e = (h, refl, (let one : Some h.config ≡ Some c = e in (cc)))
config_under None c e = absurd (let no : None ≡ Some c = e in (cc))

record Held (x : StateSeen) (config : Option (List ℕ)) : Type 0 where
  held : Config
  held_is : held_after (config_read (kinds_of x.net.asker.rack.policies) config) x.held ≡ Some held
  has : has_kind (kinds_of x.net.asker.rack.policies) held.kind ≡ true

module _ (kinds : HeldKindsAreThere) (x : StateSeen) (s : Seen) (h : Agrees x s) (r : IsReached s) (first : has_kind (kinds_of x.net.asker.rack.policies) kind.PickFirst ≡ true)
    (config : Option (List ℕ)) where
  same : kinds_in s.setup.policies ≡ kinds_of x.net.asker.rack.policies
  same = kinds_same s.setup.policies x.net.asker.rack.policies h.net.kinds_are

  here : has_kind (kinds_in s.setup.policies) kind.PickFirst ≡ true
  here = ap (λ (ks : KindsSeen). has_kind ks kind.PickFirst) same ∙ first

  began : has_kind (kinds_in r.setup.policies) kind.PickFirst ≡ true
  began = ap (λ (u : Setup). has_kind (kinds_in u.policies) kind.PickFirst) (sym (setup_along r.actions (new_session r.setup) s r.does)) ∙ here

  of_session : (c : Config) → has_kind (kinds_in s.setup.policies) c.kind ≡ true → has_kind (kinds_of x.net.asker.rack.policies) c.kind ≡ true
  of_session c there = ap (λ (ks : KindsSeen). has_kind ks c.kind) (sym same) ∙ there

  -- the config that is held is one of those that were read
  held_before : (c : Config) → x.held ≡ Some c → has_kind (kinds_in s.setup.policies) c.kind ≡ true
  held_before c e =
      let u = config_under (held_config s) c (h.configs.held ∙ e) in
      ap (λ (d : Config). has_kind (kinds_in s.setup.policies) d.kind) (sym u.2) ∙ kinds r.setup r.actions s began r.does (length s.configs) u.0 u.1

  held_by : (read : Result Config ConfigFault) → config_read (kinds_of x.net.asker.rack.policies) config ≡ read → (q : Option Config) → x.held ≡ q → (is_some q || is_ok read) ≡ true
      → Held x config
  held_by (Ok good) e q is counts = record {
    held = good;
    held_is = ap (λ (d : Result Config ConfigFault). held_after d x.held) e;
    has = of_session good (read_of config s good here (read_by config s (kinds_of x.net.asker.rack.policies) same ∙ e));
  }
  held_by (Err fault) e (Some c) is counts = record {
    held = c;
    held_is = ap (λ (d : Result Config ConfigFault). held_after d x.held) e ∙ is;
    has = of_session c (held_before c is);
  }
  held_by (Err fault) e None is counts = absurd (let bad : false ≡ true = counts in (cc))

module _ (kinds : HeldKindsAreThere) (runs : ConfigsAreThrottled) (picks : PicksAreThere) where
  held_result : (e : Event) (x : StateSeen) (s : Seen) → Agrees x s → IsKnownResult e x s → IsHeldResult e x s
  held_result e x s h c =
      let r = c.known.reached in
      let held = held_by kinds x s h r c.first c.config (config_read (kinds_of x.net.asker.rack.policies) c.config) refl x.held refl c.counts in
      record {
        addresses = c.addresses;
        config = c.config;
        event_is = c.event_is;
        kept = c.kept;
        held = held.held;
        held_is = held.held_is;
        kind = held.has;
        list = c.list;
        throttled = runs r.setup r.actions s r.does;
        picks = picks r.setup r.actions s r.does;
        theirs = c.known.theirs;
      }

  pub known_results : LeftLinksAreStamped → HeldResultsAreAnswered → KnownResultsAreAnswered
  known_results left results x y r o s h at fresh timely c answers = results left x y r o s h at fresh timely (held_result o.event x s h c) answers
