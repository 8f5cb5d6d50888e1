-- SettlingBegins: an entry whose event was answered goes on to its settling, where nothing follows at once either.
use Rattle.std.proofs.Common.{◌≡◌, ◌&&◌, ◌||◌, ◌∷◌, ◌%◌, ◌^◌, ap, refl, subst, sym, ◌∙◌, Bool, true, false, List, [], Option, None, Some, if◌then◌else◌, ℕ, is_some}
use Rattle.std.specs.List.{list_any}
use Rattle.std.specs.Option.{option_map, option_or}
use Rattle.std.specs.Prelude.{option_and_then}
use Rattle.channel_actions.proofs.Dues.{next_final_same}
use Rattle.channel_actions.proofs.Moved.{agrees_moved}
use Rattle.channel_actions.proofs.Quiet.{mapped_restricted, never, or_both_none, or_parts_none}
use Rattle.channel_actions.specs.Agrees.{Agrees}
use Rattle.channel_actions.specs.Quiescent.{IsAt, IsQuiescent}
use Rattle.channel_actions.specs.Points.{Reaches}
use Rattle.channel_core.specs.States.{StateSeen}
use Rattle.grpc_base.specs.declared.address.Address.{Address}
use Rattle.grpc_base.specs.declared.event.EndCause.TheVariants as ending
use Rattle.grpc_base.specs.declared.event.Event.{Event}
use Rattle.grpc_base.specs.declared.event.Event.TheVariants as event
use Rattle.grpc_base.specs.declared.event.Reply.{Reply}
use Rattle.grpc_base.specs.declared.kind.Kind.{Kind}
use Rattle.channel_actions.proofs.KeptSessions.Beside.{kept_moved}
use Rattle.session_actions.specs.Actions.{after, after_if, first_action, following, following_in, of_calls, of_links, of_policies, of_stage}
use Rattle.session_actions.specs.CallEnds.{cancels, has_long_request, has_long_response, is_after_event, is_cancelled, is_over_by_row, is_shut_down, next_ended, sends_too_long}
use Rattle.session_actions.specs.Calls.{is_open_call}
use Rattle.session_actions.specs.Configs.{held_config, is_too_long}
use Rattle.session_actions.specs.Commitments.{next_final, next_headed, next_inherited, next_overflow}
use Rattle.session_actions.specs.AttemptEnds.{next_cut}
use Rattle.session_actions.specs.Entries.{settling}
use Rattle.session_actions.specs.Events.{frame_action}
use Rattle.session_actions.specs.Making.{next_transparent}
use Rattle.session_actions.specs.Policies.{begin_if, is_live_policy, is_other_kind, is_same_kind, is_pending, is_to_retire, next_begun, next_given, next_retired, result_of, wanted_kind, wants_addresses}
use Rattle.session_actions.specs.Subchannels.{next_added, next_shut}
use Rattle.session_actions.specs.Words.{holds}
use Rattle.session_actions.specs.declared.action.Action.{Action}
use Rattle.session_actions.specs.declared.action.Action.TheVariants as action
use Rattle.session_actions.specs.declared.call.Call.{Call}
use Rattle.session_actions.specs.declared.config.HeldConfig.{HeldConfig}
use Rattle.session_actions.specs.declared.entry.OpenEntry.{OpenEntry}
use Rattle.session_actions.specs.declared.entry.Stage.{Stage}
use Rattle.session_actions.specs.declared.entry.Stage.TheVariants as stage
use Rattle.session_actions.specs.declared.policy.PolicyUse.{PolicyUse}
use Rattle.session_actions.specs.declared.seen.Seen.{Seen}

-- the first of several is nothing: each is
abbrev AllNone : List (Option Action) → Type 0
AllNone [] = Unit {0}
AllNone (a ∷ as_) = (a ≡ None) × AllNone as_

all_none : (as_ : List (Option Action)) → first_action as_ ≡ None → AllNone as_
all_none [] h = tt
all_none (a ∷ as_) h = let both = or_parts_none a (first_action as_) h in (both.0, all_none as_ both.1)

none_all : (as_ : List (Option Action)) → AllNone as_ → first_action as_ ≡ None
none_all [] h = refl
none_all (a ∷ as_) h = or_both_none a (first_action as_) h.0 (none_all as_ h.1)

abbrev lines_of_calls : OpenEntry → Seen → List (Option Action)
lines_of_calls o s =
    next_cut s ∷ next_transparent s ∷ next_inherited s ∷ next_ended ending.Row (is_over_by_row s) s ∷ next_final s
    ∷ next_ended ending.Cancelled (is_cancelled o) s ∷ next_ended ending.Request (has_long_request o s) s ∷ next_overflow s ∷ next_headed s
    ∷ next_ended ending.Response (has_long_response s) s ∷ []

abbrev lines_of_policies : OpenEntry → Seen → List (Option Action)
lines_of_policies o s =
    next_ended ending.Shut (is_shut_down s) s ∷ next_retired o s ∷ next_begun o s ∷ next_given o s ∷ next_shut s ∷ next_added s ∷ []

-- an open entry at another stage, with another reply
abbrev pub restaged : Stage → Option Reply → OpenEntry → OpenEntry
restaged st r o = record o { stage = st; reply = r }

abbrev pub in_settling : OpenEntry → OpenEntry
in_settling o = record o { stage = stage.Settling }

-- nothing follows by the event of an entry itself: no call is cancelled by it or was sent too long a message, and it brought no result
pub record IsQuiet (o : OpenEntry) : Type 0 where
  pub cancelled : (number : ℕ) → (is_after_event o && cancels o.event number) ≡ false
  pub sent : (c : Call) (s : Seen) → (is_after_event o && sends_too_long o.event c s) ≡ false
  pub result : result_of o ≡ None

-- the session with this open entry
abbrev pub with_open : OpenEntry → Seen → Seen
with_open o s = record s { current = Some o }

pub is_with_open : (o : OpenEntry) (s : Seen) → s.current ≡ Some o → s ≡ with_open o s
is_with_open o s e = ap (λ (c : Option OpenEntry). record s { current = c }) e

no_and : (a b c : Bool) → (b && c) ≡ false → (a && b && c) ≡ true → ⊥
no_and true true true e h = absurd (cc)
no_and true true false e h = absurd (cc)
no_and true false c e h = absurd (cc)
no_and false b c e h = absurd (cc)

no_both : (a b c : Bool) → b ≡ false → (a && b && c) ≡ true → ⊥
no_both true true c e h = absurd (cc)
no_both true false c e h = absurd (cc)
no_both false b c e h = absurd (cc)

request_restricted : (a l b m p : Bool) → p ≡ false → (a && (l || p)) ≡ true → (a && (l || (b && m))) ≡ true
request_restricted a l b m true e h = absurd (cc)
request_restricted true true b m false e h = refl
request_restricted true false b m false e h = absurd (cc)
request_restricted false l b m false e h = absurd (cc)

retire_restricted : (a b p v w : Bool) → v ≡ false → (a && (b || (p && v))) ≡ true → (a && (b || (p && w))) ≡ true
retire_restricted a b p true w e h = absurd (cc)
retire_restricted true true p false w e h = refl
retire_restricted true false true false w e h = absurd (cc)
retire_restricted true false false false w e h = absurd (cc)
retire_restricted false b p false w e h = absurd (cc)

-- what stays of each line
module _ (st : Stage) (r : Option Reply) (o : OpenEntry) (s : Seen) (quiet : IsQuiet (restaged st r o)) where
  abbrev p : OpenEntry
  p = restaged st r o

  calls_stay : of_calls o (with_open o s) ≡ None → of_calls p (with_open p s) ≡ None
  calls_stay h =
      let n = all_none (lines_of_calls o (with_open o s)) h in
      let final : next_final (with_open p s) ≡ None = next_final_same (with_open o s) s.entries (Some p) s.answered s.wants s.links ∙ n.1.1.1.1.0 in
      let cancelled : next_ended ending.Cancelled (is_cancelled p) (with_open p s) ≡ None
      = ap (option_map (λ (c : Call). action.CallEnds c.number ending.Cancelled))
      (never (is_cancelled p) s.calls (λ c e. no_and (is_open_call c) (is_after_event p) (cancels o.event c.number) (quiet.cancelled c.number) e)) in
      let request : next_ended ending.Request (has_long_request p (with_open p s)) (with_open p s) ≡ None
      = mapped_restricted (λ (c : Call). action.CallEnds c.number ending.Request) (λ (c : Call). action.CallEnds c.number ending.Request)
      (has_long_request p (with_open p s)) (has_long_request o (with_open o s)) s.calls
      (λ c e. request_restricted (is_open_call c) (list_any (λ m. is_too_long m c s) c.messages) (is_after_event o) (sends_too_long o.event c (with_open o s))
      (is_after_event p && sends_too_long o.event c (with_open p s)) (quiet.sent c (with_open p s)) e) n.1.1.1.1.1.1.0 in
      let after = n.1.1.1.1.1.1.1 in
      none_all (lines_of_calls p (with_open p s)) (n.0, (n.1.0, (n.1.1.0, (n.1.1.1.0, (final, (cancelled, (request, after)))))))

  unwanted : wanted_kind p (with_open p s) ≡ None
  unwanted = ap (λ (x : Option (List Address)). if is_some x then option_map (λ (h : HeldConfig). h.config.kind) (held_config s) else None) quiet.result

  policies_stay : of_policies o (with_open o s) ≡ None → of_policies p (with_open p s) ≡ None
  policies_stay h =
      let n = all_none (lines_of_policies o (with_open o s)) h in
      let retired : next_retired p (with_open p s) ≡ None
      = mapped_restricted (λ (g : PolicyUse). action.PolicyRetired g.number) (λ (g : PolicyUse). action.PolicyRetired g.number)
      (is_to_retire p (with_open p s)) (is_to_retire o (with_open o s)) s.policies
      (λ g e. retire_restricted (is_live_policy g) s.shut (is_pending g) (holds (λ (k : Kind). is_other_kind k g) (wanted_kind p (with_open p s)))
      (holds (λ (k : Kind). is_other_kind k g) (wanted_kind o (with_open o s))) (ap (holds (λ (k : Kind). is_other_kind k g)) unwanted) e) n.1.0 in
      let begun : next_begun p (with_open p s) ≡ None = ap (option_and_then (begin_if (with_open p s))) unwanted in
      let given : next_given p (with_open p s) ≡ None
      = ap (option_map (λ (g : PolicyUse). action.AddressesGiven g.number))
      (never (wants_addresses p (with_open p s)) s.policies
      (λ g e. no_both (is_live_policy g) (holds (λ (k : Kind). is_same_kind g.generation.kind k) (wanted_kind p (with_open p s))) _
      (ap (holds (λ (k : Kind). is_same_kind g.generation.kind k)) unwanted) e)) in
      let after = n.1.1.1.1 in
      none_all (lines_of_policies p (with_open p s)) (n.0, (retired, (begun, (given, after))))

  pub quiescent_stays : IsQuiescent o (with_open o s) → IsQuiescent p (with_open p s)
  quiescent_stays c = record { calls = calls_stay c.calls; links = c.links; policies = policies_stay c.policies }

-- what the resolver answered bears on no line
sends_same : (o : OpenEntry) (s : Seen) (answered wants : Bool) (c : Call) (e : Event)
    → sends_too_long e c (with_open o (record s { answered = answered; wants = wants })) ≡ sends_too_long e c (with_open o s)
sends_same o s answered wants c (event.Send call message) = refl
sends_same o s answered wants c _ = refl

pub quiescent_answered : (o : OpenEntry) (s : Seen) (answered wants : Bool) → IsQuiescent o (with_open o s)
    → IsQuiescent o (with_open o (record s { answered = answered; wants = wants }))
quiescent_answered o s answered wants c =
    let n = all_none (lines_of_calls o (with_open o s)) c.calls in
    let final : next_final (with_open o (record s { answered = answered; wants = wants })) ≡ None
    = next_final_same (with_open o s) s.entries (Some o) answered wants s.links ∙ n.1.1.1.1.0 in
    let request : next_ended ending.Request (has_long_request o (with_open o (record s { answered = answered; wants = wants })))
    (with_open o (record s { answered = answered; wants = wants })) ≡ None
    = mapped_restricted (λ (c : Call). action.CallEnds c.number ending.Request) (λ (c : Call). action.CallEnds c.number ending.Request)
    (has_long_request o (with_open o (record s { answered = answered; wants = wants }))) (has_long_request o (with_open o s)) s.calls
    (λ k e. sym (ap (λ (b : Bool). is_open_call k && (list_any (λ m. is_too_long m k s) k.messages || (is_after_event o && b))) (sends_same o s answered wants k o.event)) ∙ e)
    n.1.1.1.1.1.1.0 in
    let after = n.1.1.1.1.1.1.1 in
    record {
      calls =
          none_all (lines_of_calls o (with_open o (record s { answered = answered; wants = wants })))
          (n.0, (n.1.0, (n.1.1.0, (n.1.1.1.0, (final, (n.1.1.1.1.1.0, (request, after)))))));
      links = c.links;
      policies = c.policies;
    }

pub follows_by : (a b c d : Option Action) (z : Action) → a ≡ None → b ≡ None → c ≡ None → d ≡ Some z → first_action (a ∷ b ∷ c ∷ d ∷ []) ≡ Some z
follows_by a b c d z p q r e =
    ap (λ (w : Option Action). first_action (w ∷ b ∷ c ∷ d ∷ [])) p ∙ ap (λ (w : Option Action). first_action (w ∷ c ∷ d ∷ [])) q
    ∙ ap (λ (w : Option Action). first_action (w ∷ d ∷ [])) r ∙ ap (λ (w : Option Action). first_action (w ∷ [])) e

-- the agreement looks at the moment and the words of the open entry alone
pub reopened : (x : StateSeen) (o p : OpenEntry) (s : Seen) → p.moment ≡ o.moment → p.word ≡ o.word → p.drawn ≡ o.drawn → Agrees x (with_open o s) → Agrees x (with_open p s)
reopened x o p s moment word drawn h =
    agrees_moved (with_open o s) s.entries (Some p) s.answered s.wants x h x.book.ledger.entry x.book.moment x.word x.drawn x.resolver x.unconfigured
    h.clock.entry_is
    (record { entry_is = h.clock.entry_is; moment = moment ∙ h.clock.moment; draws = (word ∙ h.clock.draws.0, h.clock.draws.1 ∙ ap (λ (d : ℕ). d % 2 ^ 64) (sym drawn)) })
    h.configs.unconfigured h.columns.links (kept_moved (with_open o s) s.entries (Some p) s.answered s.wants refl h.kept)

-- so SettlingBegins follows, and leads to a point of the settling
pub record Settles (x : StateSeen) (o : OpenEntry) (s : Seen) : Type 0 where
  pub reaches : Reaches stage.Settling x o s
  pub reply : reaches.entry.reply ≡ o.reply
  pub turn : reaches.entry.turn ≡ o.turn

module _ (x : StateSeen) (o : OpenEntry) (s : Seen) (h : Agrees x s) (at : IsAt stage.Replied o s) (rest : frame_action o s ≡ None) where
  settling_is : settling s ≡ with_open (in_settling o) s
  settling_is = ap (λ (c : Option OpenEntry). record s { current = option_map (λ (p : OpenEntry). record p { stage = stage.Settling }) c }) at.current

  pub after_is : after action.SettlingBegins s ≡ with_open (in_settling o) s
  after_is = ap (λ (c : Option OpenEntry). after_if c action.SettlingBegins s) at.current ∙ settling_is

  quiescent_open : IsQuiescent o (with_open o s)
  quiescent_open = subst (IsQuiescent o) (is_with_open o s at.current) at.quiescent

  stage_gives : of_stage o s o.stage ≡ Some action.SettlingBegins
  stage_gives = ap (of_stage o s) at.stage_is ∙ ap (λ (f : Option Action). option_or f (Some action.SettlingBegins)) rest

  in_gives : following_in s o ≡ Some action.SettlingBegins
  in_gives = follows_by (of_calls o s) (of_links o s) (of_policies o s) (of_stage o s o.stage) action.SettlingBegins at.quiescent.calls at.quiescent.links at.quiescent.policies stage_gives

  pub follows : following s ≡ Some action.SettlingBegins
  follows = ap (option_and_then (following_in s)) at.current ∙ in_gives

  pub quiescent_after : IsQuiescent (in_settling o) (with_open (in_settling o) s)
  quiescent_after = quiescent_stays stage.Settling o.reply o s (record { cancelled = λ n. refl; sent = λ c z. refl; result = refl }) quiescent_open

  agrees_open : Agrees x (with_open o s)
  agrees_open = subst (Agrees x) (is_with_open o s at.current) h

  pub begins : Settles x o s
  begins = record {
    reaches = record {
      actions = action.SettlingBegins ∷ [];
      seen = with_open (in_settling o) s;
      entry = in_settling o;
      does = (follows, sym after_is);
      posts = refl;
      same = record { moment = refl; word = refl; event = refl; entries = refl; setup = refl };
      at = record { current = refl; stage_is = refl; quiescent = quiescent_after };
      agrees = reopened x o (in_settling o) s refl refl refl agrees_open;
    };
    reply = refl;
    turn = refl;
  }
