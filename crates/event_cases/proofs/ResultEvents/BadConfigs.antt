-- An invalid config, where none was ever held: the resolver has answered, and that is all.
use Rattle.std.proofs.Common.{◌≡◌, ◌&&◌, ◌==◌, ◌||◌, ◌∷◌, ap, refl, subst, sym, ◌∙◌, Bool, true, false, Err, List, [], None, Option, Result, Some, ℕ, if◌then◌else◌, is_none, is_some}
use Rattle.std.specs.List.{list_any}
use Rattle.std.specs.Option.{option_map}
use Rattle.std.specs.Prelude.{slice_set}
use Rattle.channel_actions.proofs.Answering.{event_next}
use Rattle.channel_actions.proofs.Dialling.{applied_next, open_in, unshut_by}
use Rattle.channel_actions.proofs.Moved.{agrees_moved}
use Rattle.channel_actions.proofs.Posted.{kinds_same}
use Rattle.channel_actions.proofs.Settles.{is_with_open, with_open}
use Rattle.channel_actions.specs.Agrees.{Agrees}
use Rattle.channel_actions.specs.Quiescent.{IsAt}
use Rattle.channel_actions.specs.Stages.{IsAnswered}
use Rattle.channel_core.specs.Applying as channel
use Rattle.channel_core.specs.Applying.{AnswersBy, answered_question, config_read, config_taken, misconfigured, readdressed_by, resolved, then_readdressed}
use Rattle.channel_core.specs.States.{StateSeen}
use Rattle.grpc_base.specs.Kinds.{KindsSeen, kind_number, with_kind}
use Rattle.grpc_base.specs.declared.address.Address.{Address}
use Rattle.grpc_base.specs.declared.event.ConfigFault.{ConfigFault}
use Rattle.grpc_base.specs.declared.event.Event.{Event}
use Rattle.grpc_base.specs.declared.event.Event.TheVariants as event
use Rattle.grpc_base.specs.declared.event.Refusal.{Refusal}
use Rattle.grpc_base.specs.declared.event.Reply.{Reply}
use Rattle.grpc_base.specs.declared.event.Reply.TheVariants as reply
use Rattle.grpc_base.specs.declared.kind.Kind.{Kind}
use Rattle.grpc_base.specs.declared.kind.Kind.TheVariants as kind
use Rattle.channel_actions.proofs.KeptSessions.Beside.{kept_moved}
use Rattle.lb_policy.specs.Table.{PolicySeen}
use Rattle.net_actions.specs.Sees.{KindsAgree}
use Rattle.channel_actions.proofs.BoardActions.Quiescent.{of_order, to_order}
use Rattle.policy_rack.specs.Kinds.{has_policy, kinds_of}
use Rattle.event_cases.specs.ResultEvents.Laws.{FirstBadConfigsAreAnswered}
use Rattle.service_config.specs.declared.config.Config.{Config}
use Rattle.session_actions.specs.Actions.{after, after_if}
use Rattle.session_actions.specs.CallEnds.{cancels, is_after_event, next_deadline, sends_too_long}
use Rattle.session_actions.specs.Configs.{held_config, kinds_in, read_config, resolver_answered}
use Rattle.session_actions.specs.Events.{event_action, frame_of_event}
use Rattle.session_actions.specs.Policies.{is_live_policy, is_other_kind, is_pending, is_same_kind, is_to_retire, result_of, wanted_kind, wants_addresses}
use Rattle.session_actions.specs.Words.{holds}
use Rattle.session_actions.specs.declared.action.Action.{Action}
use Rattle.session_actions.specs.declared.action.Action.TheVariants as action
use Rattle.session_actions.specs.declared.call.Call.{Call}
use Rattle.session_actions.specs.declared.config.HeldConfig.{HeldConfig}
use Rattle.session_actions.specs.declared.entry.OpenEntry.{OpenEntry}
use Rattle.session_actions.specs.declared.entry.Stage.TheVariants as stage
use Rattle.session_actions.specs.declared.seen.PolicyKind.{PolicyKind}
use Rattle.session_actions.specs.declared.seen.Seen.{Seen}
use Rattle.session_order.proofs.Entered.{IsQuietFor, moved_on}
use Rattle.session_order.proofs.Posts.{answered_still, answered_with}
use Rattle.session_order.specs.Quiescent as order
use Rattle.session_order.specs.Quiescent.{IsStill, lacks_kind}
use Rattle.session_order.specs.Laws.{QuiescenceIsExact}
use Rattle.session_order.specs.declared.line.Line.{Line}
use Rattle.session_order.specs.declared.line.Line.TheVariants as line

pub read_by : (text : Option (List ℕ)) (s : Seen) (kinds : KindsSeen) → kinds_in s.setup.policies ≡ kinds → read_config text s ≡ config_read kinds text
read_by None s kinds e = refl
read_by (Some text) s kinds e = ap (λ (ks : KindsSeen). config_read ks (Some text)) e

none_held : (o : Option HeldConfig) (x : Option Config) → option_map (λ (h : HeldConfig). h.config) o ≡ x → x ≡ None → o ≡ None
none_held None x e f = refl
none_held (Some h) x e f = absurd (cc)

none_each : {X : Type 0} (test : X → Bool) → ((x : X) → test x ≡ false) → (xs : List X) → list_any test xs ≡ false
none_each test never [] = refl
none_each test never (x ∷ xs) = ap (λ (b : Bool). b || list_any test xs) (never x) ∙ none_each test never xs

off_by : (live shut pending now : Bool) → shut ≡ false → now ≡ false → (live && (shut || (pending && now))) ≡ false
off_by true false true false e f = refl
off_by true false false now e f = refl
off_by false shut pending now e f = refl
off_by true true pending now e f = absurd (cc)
off_by true false true true e f = absurd (cc)

off_two : (a b c : Bool) → b ≡ false → (a && b && c) ≡ false
off_two true false c e = refl
off_two false b c e = refl
off_two true true c e = absurd (cc)

module _ (exact : QuiescenceIsExact) (x : StateSeen) (o : OpenEntry) (s : Seen) (h : Agrees x s) (at : IsAt stage.Event o s) (fresh : o.turn ≡ None) (timely : next_deadline s ≡ None)
    (addresses : List Address) (config : Option (List ℕ)) (fault : ConfigFault) (brings : o.event ≡ event.Resolved addresses config)
    (kept : channel.refusal_of o.event x ≡ None) (awaiting_config : x.held ≡ None) (bad : config_read (kinds_of x.net.asker.rack.policies) config ≡ Err fault) where
  abbrev r : Reply
  r = reply.BadConfig fault

  abbrev p : OpenEntry
  p = answered_with r o

  abbrev z : Seen
  z = resolver_answered s

  abbrev t : Seen
  t = with_open p z

  abbrev a : Action
  a = action.ConfigRead (Err fault)

  open_now : s.shut ≡ false
  open_now = h.configs.shut ∙ (unshut_by x.shut None (subst (λ (e : Event). channel.refusal_of e x ≡ None) brings kept)).0

  reads : read_config config s ≡ Err fault
  reads = read_by config s (kinds_of x.net.asker.rack.policies) (kinds_same s.setup.policies x.net.asker.rack.policies h.net.kinds_are) ∙ bad

  next : event_action (event.Resolved addresses config) s ≡ Some a
  next =
      applied_next (event.Resolved addresses config) s (Some (action.ConfigRead (read_config config s))) (open_in s None open_now) refl
      ∙ ap (λ (c : Result Config ConfigFault). Some (action.ConfigRead c)) reads

  does : after a s ≡ t
  does =
      ap (λ (c : Option OpenEntry). after_if c a s) at.current
      ∙ ap (λ (c : Option OpenEntry). record z { current = option_map (answered_with r) c }) at.current

  none_is : held_config s ≡ None
  none_is = none_held (held_config s) x.held h.configs.held awaiting_config

  if_either : (b : Bool) → (if b then option_map (λ (c : HeldConfig). c.config.kind) (held_config s) else None) ≡ None
  if_either true = ap (option_map (λ (c : HeldConfig). c.config.kind)) none_is
  if_either false = refl

  unwanted : wanted_kind p t ≡ None
  unwanted = if_either (is_some (result_of p))

  -- lines that the event does not bear on
  other : (l : Line) → IsQuietFor l p z → IsStill l p t
  other l quiet =
      subst (IsStill l p) (ap (λ (c : Option OpenEntry). record z { current = option_map (answered_with r) c }) at.current)
      (moved_on (answered_with r) o z at.current l quiet (answered_still s l o (to_order exact o s at.quiescent l)) p (ap (option_map (answered_with r)) at.current))

  not_cancelled : (c : Call) → (is_after_event p && cancels p.event c.number) ≡ false
  not_cancelled c = ap (λ (e : Event). is_after_event p && cancels e c.number) brings

  not_sent : (c : Call) → (is_after_event p && sends_too_long p.event c z) ≡ false
  not_sent c = ap (λ (e : Event). is_after_event p && sends_too_long e c z) brings

  quiescent : order.IsQuiescent p t
  quiescent line.Cancelled = other line.Cancelled not_cancelled
  quiescent line.Request = other line.Request not_sent
  quiescent line.Retire =
      none_each (is_to_retire p t)
      (λ g. off_by (is_live_policy g) s.shut (is_pending g) (holds (λ (k : Kind). is_other_kind k g) (wanted_kind p t)) open_now (ap (holds (λ (k : Kind). is_other_kind k g)) unwanted)) s.policies
  quiescent line.Begin = ap (holds (lacks_kind t)) unwanted
  quiescent line.Give =
      none_each (wants_addresses p t)
      (λ g. off_two (is_live_policy g) (holds (λ (k : Kind). is_same_kind g.generation.kind k) (wanted_kind p t)) _ (ap (holds (λ (k : Kind). is_same_kind g.generation.kind k)) unwanted)) s.policies
  quiescent line.Cut = other line.Cut tt
  quiescent line.Transparent = other line.Transparent tt
  quiescent line.Inherited = other line.Inherited tt
  quiescent line.Row = other line.Row tt
  quiescent line.Final = other line.Final tt
  quiescent line.Overflow = other line.Overflow tt
  quiescent line.Head = other line.Head tt
  quiescent line.Response = other line.Response tt
  quiescent line.Pick = other line.Pick tt
  quiescent line.Link = other line.Link tt
  quiescent line.WireEnd = other line.WireEnd tt
  quiescent line.Reset = other line.Reset tt
  quiescent line.Shut = other line.Shut tt
  quiescent line.Drop = other line.Drop tt
  quiescent line.Add = other line.Add tt

  abbrev y : StateSeen
  y = misconfigured (answered_question x)

  open_agrees : Agrees x (with_open o s)
  open_agrees = subst (Agrees x) (is_with_open o s at.current) h

  agrees : Agrees y t
  agrees =
      agrees_moved (with_open o s) s.entries (Some p) true false x open_agrees x.book.ledger.entry x.book.moment x.word x.drawn false (is_none x.held)
      open_agrees.clock.entry_is (record { entry_is = open_agrees.clock.entry_is; moment = open_agrees.clock.moment; draws = open_agrees.clock.draws })
      (λ e. sym (ap (λ (c : Option Config). is_none c) e)) open_agrees.columns.links (kept_moved (with_open o s) s.entries (Some p) true false refl open_agrees.kept)

  pub state_is : (resolved addresses config x).state ≡ y
  state_is =
      ap (λ (c : Result Config ConfigFault). (then_readdressed addresses (config_taken c (answered_question x))).state) bad
      ∙ ap (λ (c : Option Config). readdressed_by (option_map (λ (d : Config). d.kind) c) addresses y) awaiting_config

  pub reply_is : (resolved addresses config x).reply ≡ r
  reply_is = ap (λ (c : Result Config ConfigFault). (then_readdressed addresses (config_taken c (answered_question x))).reply) bad

  pub bad_answered : IsAnswered y r o s
  bad_answered = record {
    reaches = record {
      actions = a ∷ [];
      seen = t;
      entry = p;
      does = (event_next o s at timely a (ap (λ (e : Event). event_action e s) brings ∙ next), sym does);
      posts = refl;
      same = record { moment = refl; word = refl; event = refl; entries = refl; setup = refl };
      at = record { current = refl; stage_is = refl; quiescent = of_order exact p t quiescent };
      agrees = agrees;
    };
    reply = refl;
    fresh = fresh;
    none = ap (λ (e : Event). if is_after_event p then frame_of_event e p t else None) brings;
  }

pub first_bad_configs : QuiescenceIsExact → FirstBadConfigsAreAnswered
first_bad_configs exact x y r o s h at fresh timely case answers =
    let given : AnswersBy None (event.Resolved case.addresses case.config) x y r
    = subst (λ (e : Event). AnswersBy None e x y r) case.event_is (subst (λ (z : Option Refusal). AnswersBy z o.event x y r) case.kept answers) in
    subst (λ (z : StateSeen). IsAnswered z r o s)
    (sym (given.0 ∙ state_is exact x o s h at fresh timely case.addresses case.config case.fault case.event_is case.kept case.none_held case.bad))
    (subst (λ (z : Reply). IsAnswered (misconfigured (answered_question x)) z o s)
    (sym (given.1 ∙ reply_is exact x o s h at fresh timely case.addresses case.config case.fault case.event_is case.kept case.none_held case.bad))
    (bad_answered exact x o s h at fresh timely case.addresses case.config case.fault case.event_is case.kept case.none_held case.bad))
