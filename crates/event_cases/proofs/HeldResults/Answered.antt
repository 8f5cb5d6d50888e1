-- A result is answered: its config is read, or is not valid while one is held, and then its addresses are given.
use Rattle.std.proofs.Common.{◌≡◌, ◌&&◌, ◌∷◌, ap, refl, subst, sym, ◌∙◌, Bool, true, false, Err, List, [], None, Ok, Option, Result, Some, ℕ, if◌then◌else◌, is_none, is_some, not}
use Rattle.std.specs.Option.{option_map}
use Rattle.channel_actions.proofs.Answering.{event_next}
use Rattle.channel_actions.proofs.Dialling.{applied_next, open_in, unshut_by}
use Rattle.channel_actions.proofs.KeptSessions.Beside.{kept_moved}
use Rattle.channel_actions.proofs.Moved.{agrees_moved}
use Rattle.channel_actions.proofs.Settles.{is_with_open, with_open}
use Rattle.channel_actions.specs.Agrees.{Agrees}
use Rattle.channel_actions.specs.Quiescent.{IsAt}
use Rattle.channel_actions.specs.Stages.{IsAnswered}
use Rattle.call_cases.proofs.CallPosts.Answered.{to_order}
use Rattle.event_cases.proofs.ConfigReads.After.{last_more}
use Rattle.event_cases.proofs.ConfigReads.Read.{read_by, read_is, read_mid, read_now}
use Rattle.event_cases.proofs.ConfigReads.Stirred.{reads_stir_policies}
use Rattle.event_cases.proofs.HeldResults.Given.{IsRead, given}
use Rattle.event_cases.proofs.HeldResults.Mid.{IsMid, mid_of}
use Rattle.channel_actions.proofs.Posted.{kinds_same}
use Rattle.event_cases.proofs.ResultEvents.BadConfigs as bad
use Rattle.event_cases.specs.ConfigReads.Throttled.{BucketsFollowConfigs}
use Rattle.event_cases.specs.HeldResults.Cases.{IsHeldResult, held_after}
use Rattle.event_cases.specs.HeldResults.Laws.{HeldResultsAreAnswered}
use Rattle.event_cases.specs.LeftLinks.Laws.{LeftLinksAreStamped}
use Rattle.attempt_cases.specs.NetChains.Chains.{IsApartQuiescent}
use Rattle.attempt_cases.specs.NetChains.Laws.{ChainsAreNext}
use Rattle.channel_core.specs.Applying as channel
use Rattle.channel_core.specs.Applying.{AnswersBy, answered_question, config_read, config_taken, misconfigured, readdressed_by, readdressed_to, resolved, then_readdressed}
use Rattle.channel_core.specs.States.{Answered, StateSeen}
use Rattle.channel_core.specs.Steps.{configured_by}
use Rattle.channel_net.specs.Laws.{GenerationsAreKept}
use Rattle.grpc_base.specs.declared.address.Address.{Address}
use Rattle.grpc_base.specs.declared.event.ConfigFault.{ConfigFault}
use Rattle.grpc_base.specs.declared.event.Event.TheVariants as event
use Rattle.grpc_base.specs.declared.event.Event.{Event}
use Rattle.grpc_base.specs.declared.event.Refusal.{Refusal}
use Rattle.grpc_base.specs.declared.event.Reply.TheVariants as reply
use Rattle.grpc_base.specs.declared.event.Reply.{Reply}
use Rattle.grpc_base.specs.declared.kind.Kind.{Kind}
use Rattle.policy_rack.specs.Kinds.{kinds_of}
use Rattle.service_config.specs.declared.config.Config.{Config}
use Rattle.session_actions.specs.Actions.{after, after_if, following}
use Rattle.session_actions.specs.CallEnds.{is_after_event, next_deadline}
use Rattle.session_actions.specs.Configs.{held_config, read_config}
use Rattle.session_actions.specs.Configs as session
use Rattle.session_actions.specs.Events.{event_action, frame_action, frame_of_event}
use Rattle.session_actions.specs.Policies.{addresses_in, result_of, wanted_kind}
use Rattle.session_actions.specs.declared.action.Action.TheVariants as action
use Rattle.session_actions.specs.declared.action.Action.{Action}
use Rattle.session_actions.specs.declared.config.HeldConfig.{HeldConfig}
use Rattle.session_actions.specs.declared.entry.OpenEntry.{OpenEntry}
use Rattle.session_actions.specs.declared.entry.Stage.TheVariants as stage
use Rattle.session_actions.specs.declared.seen.Seen.{Seen}
use Rattle.session_order.proofs.Posts.{answered_with}

module _ (x : StateSeen) (o : OpenEntry) (s : Seen) (h : Agrees x (with_open o s)) (at : IsAt stage.Event o (with_open o s)) (timely : next_deadline (with_open o s) ≡ None)
    (case : IsHeldResult o.event x (with_open o s)) where
  abbrev v : Seen
  v = with_open o s

  brings : o.event ≡ event.Resolved case.addresses case.config
  brings = case.event_is

  open_now : s.shut ≡ false
  open_now = h.configs.shut ∙ (unshut_by x.shut None (subst (λ (e : Event). channel.refusal_of e x ≡ None) brings case.kept)).0

  reads : (res : Result Config ConfigFault) → config_read (kinds_of x.net.asker.rack.policies) case.config ≡ res → read_config case.config v ≡ res
  reads res e = bad.read_by case.config v (kinds_of x.net.asker.rack.policies) (kinds_same s.setup.policies x.net.asker.rack.policies h.net.kinds_are) ∙ e

  follows : (res : Result Config ConfigFault) → config_read (kinds_of x.net.asker.rack.policies) case.config ≡ res → following v ≡ Some (action.ConfigRead res)
  follows res e =
      event_next o v at timely (action.ConfigRead res)
      (ap (λ (d : Event). event_action d v) brings
      ∙ applied_next (event.Resolved case.addresses case.config) v (Some (action.ConfigRead (read_config case.config v))) (open_in v None open_now) refl
      ∙ ap (λ (c : Result Config ConfigFault). Some (action.ConfigRead c)) (reads res e))

  result_by : (r : Reply) → is_after_event (answered_with r o) ≡ true → result_of (answered_with r o) ≡ Some case.addresses
  result_by r e = ap (λ (b : Bool). if b then addresses_in o.event else None) e ∙ ap addresses_in brings

  no_frame_by : (r : Reply) (w : Seen) (b : Bool) → (if b then frame_of_event (event.Resolved case.addresses case.config) (answered_with r o) w else None) ≡ None
  no_frame_by r w true = refl
  no_frame_by r w false = refl

  no_frame : (r : Reply) (w : Seen) → frame_action (answered_with r o) w ≡ None
  no_frame r w =
      ap (λ (e : Event). if is_after_event (answered_with r o) then frame_of_event e (answered_with r o) w else None) brings
      ∙ no_frame_by r w (is_after_event (answered_with r o))

  wanted_by : (r : Reply) (t : Seen) → result_of (answered_with r o) ≡ Some case.addresses → option_map (λ (g : HeldConfig). g.config) (held_config t) ≡ Some case.held
      → wanted_kind (answered_with r o) t ≡ Some case.held.kind
  wanted_by r t result held =
      ap (λ (q : Option (List Address)). if is_some q then option_map (λ (g : HeldConfig). g.config.kind) (held_config t) else None) result
      ∙ kinds (held_config t) held
    where
      kinds : (g : Option HeldConfig) → option_map (λ (c : HeldConfig). c.config) g ≡ Some case.held → option_map (λ (c : HeldConfig). c.config.kind) g ≡ Some case.held.kind
      kinds None e = absurd (cc)
      kinds (Some c) e = let one : c.config ≡ case.held = (cc) in ap (λ (d : Config). Some d.kind) one

  -- a valid config
  module _ (is : config_read (kinds_of x.net.asker.rack.policies) case.config ≡ Ok case.held) where
    abbrev y : StateSeen
    y = configured_by case.held (answered_question x)

    abbrev t : Seen
    t = read_now x o s h case.throttled case.held (follows (Ok case.held) is)

    same : after (action.ConfigRead (Ok case.held)) v ≡ t
    same = read_is x o s h case.throttled case.held (follows (Ok case.held) is)

    valid : IsRead x y reply.Done o v t case.held.kind case.addresses
    valid = record {
      first = action.ConfigRead (Ok case.held);
      does = (follows (Ok case.held) is, sym same);
      posts = refl;
      mid = read_mid x o s h case.throttled case.held (follows (Ok case.held) is);
      held = Some case.held;
      resolver = false;
      unconfigured = x.unconfigured;
      buckets = y.book.buckets;
      is = refl;
      current = refl;
      quiescent = subst (λ (w : Seen). IsApartQuiescent (answered_with reply.Done o) w) same
          (reads_stir_policies (Ok case.held) o (answered_with reply.Done o) v case.addresses case.config refl brings h.kept.book (to_order o v at.quiescent)
          (ap (λ (w : Seen). w.current) same));
      entry_is = refl;
      entries = refl;
      setup = refl;
      asks = refl;
      subs = refl;
      links = refl;
      attempts = refl;
      is_open = open_now;
      wanted = wanted_by reply.Done t (result_by reply.Done refl)
          (ap (option_map (λ (g : HeldConfig). g.config)) (last_more s.configs (read_by x o s h case.throttled case.held (follows (Ok case.held) is)).held)
          ∙ ap (λ (c : Config). Some c) (read_by x o s h case.throttled case.held (follows (Ok case.held) is)).config_is);
      result = result_by reply.Done refl;
      no_frame = no_frame reply.Done;
    }

    state_valid : (resolved case.addresses case.config x).state ≡ readdressed_to case.held.kind case.addresses y
    state_valid = ap (λ (c : Result Config ConfigFault). (then_readdressed case.addresses (config_taken c (answered_question x))).state) is

    reply_valid : (resolved case.addresses case.config x).reply ≡ reply.Done
    reply_valid = ap (λ (c : Result Config ConfigFault). (then_readdressed case.addresses (config_taken c (answered_question x))).reply) is

  -- an invalid one, while one is held
  module _ (fault : ConfigFault) (is : config_read (kinds_of x.net.asker.rack.policies) case.config ≡ Err fault) (holds_one : x.held ≡ Some case.held) where
    abbrev m : StateSeen
    m = misconfigured (answered_question x)

    abbrev u : Seen
    u = record s { current = Some (answered_with (reply.BadConfig fault) o); answered = true; wants = false }

    agrees_bad : Agrees m u
    agrees_bad =
        agrees_moved v s.entries (Some (answered_with (reply.BadConfig fault) o)) true false x h x.book.ledger.entry x.book.moment x.word x.drawn false (is_none x.held)
        h.clock.entry_is (record { entry_is = h.clock.entry_is; moment = h.clock.moment; draws = h.clock.draws })
        (λ e. sym (ap (λ (c : Option Config). is_none c) e)) h.columns.links
        (kept_moved v s.entries (Some (answered_with (reply.BadConfig fault) o)) true false refl h.kept)

    invalid : IsRead x m (reply.BadConfig fault) o v u case.held.kind case.addresses
    invalid = record {
      first = action.ConfigRead (Err fault);
      does = (follows (Err fault) is, refl);
      posts = refl;
      mid = mid_of m u agrees_bad;
      held = x.held;
      resolver = false;
      unconfigured = is_none x.held;
      buckets = x.book.buckets;
      is = refl;
      current = refl;
      quiescent = reads_stir_policies (Err fault) o (answered_with (reply.BadConfig fault) o) v case.addresses case.config refl brings h.kept.book (to_order o v at.quiescent) refl;
      entry_is = refl;
      entries = refl;
      setup = refl;
      asks = refl;
      subs = refl;
      links = refl;
      attempts = refl;
      is_open = open_now;
      wanted = wanted_by (reply.BadConfig fault) u (result_by (reply.BadConfig fault) refl) (h.configs.held ∙ holds_one);
      result = result_by (reply.BadConfig fault) refl;
      no_frame = no_frame (reply.BadConfig fault);
    }

    state_bad : (resolved case.addresses case.config x).state ≡ readdressed_to case.held.kind case.addresses m
    state_bad =
        ap (λ (c : Result Config ConfigFault). (then_readdressed case.addresses (config_taken c (answered_question x))).state) is
        ∙ ap (λ (c : Option Config). readdressed_by (option_map (λ (d : Config). d.kind) c) case.addresses m) holds_one

    reply_bad : (resolved case.addresses case.config x).reply ≡ reply.BadConfig fault
    reply_bad = ap (λ (c : Result Config ConfigFault). (then_readdressed case.addresses (config_taken c (answered_question x))).reply) is

  module _ (chains : ChainsAreNext) (keeps : GenerationsAreKept) (left_stamped : LeftLinksAreStamped) (fresh : o.turn ≡ None) where
    by : (res : Result Config ConfigFault) → config_read (kinds_of x.net.asker.rack.policies) case.config ≡ res → held_after res x.held ≡ Some case.held
        → IsAnswered (resolved case.addresses case.config x).state (resolved case.addresses case.config x).reply o v
    by (Ok config) is e =
        let one : config ≡ case.held = (cc) in
        let ok : config_read (kinds_of x.net.asker.rack.policies) case.config ≡ Ok case.held = is ∙ ap (λ (c : Config). Ok c) one in
        subst (λ (z : StateSeen). IsAnswered z (resolved case.addresses case.config x).reply o v) (sym (state_valid ok))
        (subst (λ (r : Reply). IsAnswered (readdressed_to case.held.kind case.addresses (y ok)) r o v) (sym (reply_valid ok))
        (given chains keeps left_stamped x (y ok) reply.Done o v (t ok) case.held.kind case.addresses h (valid ok) case.list case.kind case.picks case.theirs fresh))
    by (Err fault) is e =
        subst (λ (z : StateSeen). IsAnswered z (resolved case.addresses case.config x).reply o v) (sym (state_bad fault is e))
        (subst (λ (r : Reply). IsAnswered (readdressed_to case.held.kind case.addresses (m fault is e)) r o v) (sym (reply_bad fault is e))
        (given chains keeps left_stamped x (m fault is e) (reply.BadConfig fault) o v (u fault is e) case.held.kind case.addresses h (invalid fault is e) case.list case.kind case.picks
        case.theirs fresh))

    pub answered : IsAnswered (resolved case.addresses case.config x).state (resolved case.addresses case.config x).reply o v
    answered = by (config_read (kinds_of x.net.asker.rack.policies) case.config) refl case.held_is

pub held_results : ChainsAreNext → GenerationsAreKept → HeldResultsAreAnswered
held_results chains keeps left_stamped x y r o s h at fresh timely case answers =
    let e = is_with_open o s at.current in
    let now : IsHeldResult o.event x (with_open o s) = subst (IsHeldResult o.event x) e case in
    let gives : AnswersBy None (event.Resolved now.addresses now.config) x y r
    = subst (λ (d : Event). AnswersBy None d x y r) now.event_is (subst (λ (z : Option Refusal). AnswersBy z o.event x y r) now.kept answers) in
    let one : IsAnswered (resolved now.addresses now.config x).state (resolved now.addresses now.config x).reply o (with_open o s)
    = answered x o s (subst (Agrees x) e h) (subst (IsAt stage.Event o) e at) (subst (λ (w : Seen). next_deadline w ≡ None) e timely) now chains keeps left_stamped fresh in
    subst (IsAnswered y r o) (sym e)
    (subst (λ (z : StateSeen). IsAnswered z r o (with_open o s)) (sym gives.0)
    (subst (λ (q : Reply). IsAnswered (resolved now.addresses now.config x).state q o (with_open o s)) (sym gives.1) one))
