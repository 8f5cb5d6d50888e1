-- A dial that is under way fails.
use Rattle.std.proofs.Common.{◌≡◌, ◌&&◌, ◌∷◌, ap, refl, subst, sym, ◌∙◌, Bool, true, false, [], None, Option, Some, ℕ, if◌then◌else◌, is_none, is_some, map, not}
use Rattle.std.specs.Option.{option_map}
use Rattle.channel_actions.proofs.Answering.{event_next}
use Rattle.channel_actions.proofs.Dialling.{applied_next, dial_same, open_in, unshut_by}
use Rattle.channel_actions.proofs.BoardActions.Quiescent.{to_order}
use Rattle.channel_actions.specs.Agrees.{Agrees}
use Rattle.channel_actions.specs.Quiescent.{IsAt}
use Rattle.channel_actions.specs.Clock.{DrawsAlike}
use Rattle.channel_actions.specs.Columns.{links_noted}
use Rattle.channel_actions.specs.Stages.{IsAnswered}
use Rattle.channel_core.specs.Applying as channel
use Rattle.channel_core.specs.Applying.{AnswersBy}
use Rattle.channel_core.specs.Arrivals.{dial_failed_for, undialed}
use Rattle.channel_core.specs.States.{StateSeen}
use Rattle.channel_net.specs.Runs.{DialFailed}
use Rattle.channel_net.specs.Steps as net
use Rattle.attempt_cases.proofs.DialEvents.Answered.{answered_at, answered_by_one}
use Rattle.attempt_cases.proofs.DialEvents.Nets.{of_calls_is, one_call_more, unrefused}
use Rattle.attempt_cases.specs.DialEvents.Laws.{FailedDialsAreAnswered}
use Rattle.grpc_base.specs.declared.event.Conn.TheVariants as conn
use Rattle.grpc_base.specs.declared.event.Event.{Event}
use Rattle.grpc_base.specs.declared.event.Event.TheVariants as event
use Rattle.grpc_base.specs.declared.event.Refusal.{Refusal}
use Rattle.grpc_base.specs.declared.event.Refusal.TheVariants as refusal
use Rattle.grpc_base.specs.declared.event.Reply.{Reply}
use Rattle.grpc_base.specs.declared.event.Reply.TheVariants as reply
use Rattle.channel_actions.specs.KeptSessions.Laws.{KeptAlong}
use Rattle.channel_actions.specs.LinkFrames.Laws.{LinksStay}
use Rattle.net_actions.specs.Laws.{DialsFail}
use Rattle.attempt_cases.proofs.NetSteps.Alike.{links_without_difference_agree}
use Rattle.channel_actions.proofs.BoardActions.Boards.{one_boarded}
use Rattle.attempt_cases.proofs.NetSteps.Clocks.{clock_goes_on, entry_goes_on}
use Rattle.attempt_cases.proofs.NetSteps.Stepped.{net_steps_keep}
use Rattle.attempt_cases.proofs.NetSteps.Subbed.{current_stays, noted_same, subbed_generations, subbed_links, subbed_shut}
use Rattle.channel_actions.specs.BoardActions.Boards.{IsBoarded}
use Rattle.call_cases.specs.OtherCalls.Laws.{AllCallsStay, SetsStay}
use Rattle.session_actions.specs.Actions.{after, after_if}
use Rattle.session_actions.specs.CallEnds.{next_deadline}
use Rattle.session_actions.specs.Events.{event_action}
use Rattle.session_actions.specs.Links.{wants_resolution}
use Rattle.session_actions.specs.Policies.{is_shutdown}
use Rattle.session_actions.specs.Refusals.{dial_refusal, refused_if}
use Rattle.session_actions.specs.Subchannels.{dial_failed, is_connecting, is_dialling, without_link}
use Rattle.session_actions.specs.Words.{numbered}
use Rattle.session_actions.specs.declared.action.Action.TheVariants as action
use Rattle.session_actions.specs.declared.entry.OpenEntry.{OpenEntry}
use Rattle.session_actions.specs.declared.entry.Stage.TheVariants as stage
use Rattle.session_actions.specs.declared.policy.PolicyUse.{PolicyUse}
use Rattle.session_actions.specs.declared.seen.Seen.{Seen}
use Rattle.session_actions.specs.declared.subchannel.Subchannel.{Subchannel}
use Rattle.session_order.proofs.Boards.{connecting_live, with_sub_current}
use Rattle.session_order.specs.Laws.{BoardsStir, QuiescenceIsExact}
use Rattle.subchannel.specs.Boards as boards

-- one whose dial is under way
pub record IsUnderWay (s : Seen) (sub : ℕ) : Type 0 where
  pub one : Subchannel
  pub there : numbered s.subs sub ≡ Some one
  pub dials : is_dialling one ≡ true

way_if : (s : Seen) (sub : ℕ) (b : Subchannel) (d : Bool) → is_dialling b ≡ d → numbered s.subs sub ≡ Some b → refused_if (not d) refusal.NotDialing None ≡ None → IsUnderWay s sub
way_if s sub b true e at none = record { one = b; there = at; dials = e }
way_if s sub b false e at none = absurd (cc)

way_by : (s : Seen) (sub : ℕ) (o : Option Subchannel) → numbered s.subs sub ≡ o → dial_refusal o ≡ None → IsUnderWay s sub
way_by s sub None at none = absurd (cc)
way_by s sub (Some b) at none = way_if s sub b (is_dialling b) refl at none

pub under_way : (x : StateSeen) (s : Seen) (sub : ℕ) → Agrees x s → net.dial_refusal (boards.numbered x.net.board sub) ≡ None → IsUnderWay s sub
under_way x s sub h none = way_by s sub (numbered s.subs sub) refl (sym (dial_same sub s.subs x.net.board x.net.links h.net.subs_are) ∙ none)

first_two : (a b c : Bool) → ((a && b) && c) ≡ true → a ≡ true
first_two true b c e = refl
first_two false b c e = absurd (cc)

pub live_dial : (b : Subchannel) → is_dialling b ≡ true → is_shutdown b.state ≡ false
live_dial b e = connecting_live b.state (first_two (is_connecting b.state) (is_some b.until) (is_none b.link) e)

-- an open channel, and the session's refusal
pub open_kept : (x : StateSeen) (s : Seen) (e v : Event) → Agrees x s → (channel.refusal_of v x ≡ channel.refusal_unless_shut v x) → e ≡ v → channel.refusal_of e x ≡ None → s.shut ≡ false
open_kept x s e v h is same kept =
    h.configs.shut ∙ (unshut_by x.shut (channel.open_refusal v x) (sym is ∙ subst (λ (w : Event). channel.refusal_of w x ≡ None) same kept)).0

module _ (exact : QuiescenceIsExact) (stir : BoardsStir) (fail : DialsFail) (calls_stay : AllCallsStay) (sets_stay : SetsStay) (kept_along : KeptAlong) (links_stay : LinksStay)
    (x : StateSeen) (o : OpenEntry) (s : Seen) (h : Agrees x s) (at : IsAt stage.Event o s) (fresh : o.turn ≡ None) (timely : next_deadline s ≡ None)
    (sub : ℕ) (brings : o.event ≡ event.DialFailed sub) (kept : channel.refusal_of o.event x ≡ None) (dial : net.dial_refusal (boards.numbered x.net.board sub) ≡ None) where
  abbrev t : Seen
  t = dial_failed sub s

  abbrev y : StateSeen
  y = undialed sub x

  abbrev p : OpenEntry
  p = answered_at reply.Done o.drawn o

  way : IsUnderWay s sub
  way = under_way x s sub h dial

  open_now : s.shut ≡ false
  open_now = open_kept x s o.event (event.DialFailed sub) h refl brings kept

  next : event_action (event.DialFailed sub) s ≡ Some (action.DialFails sub)
  next =
      applied_next (event.DialFailed sub) s (Some (action.DialFails sub))
      (open_in s (dial_refusal (numbered s.subs sub)) open_now ∙ sym (dial_same sub s.subs x.net.board x.net.links h.net.subs_are) ∙ dial) refl

  does : after (action.DialFails sub) s ≡ t
  does = ap (λ (c : Option OpenEntry). after_if c (action.DialFails sub) s) at.current

  boarded : IsBoarded s t
  boarded = subst (IsBoarded s) does (one_boarded s (action.DialFails sub) refl)

  on : t.current ≡ Some p
  on =
      ap (option_map (λ (q : OpenEntry). record q { stage = stage.Replied; reply = Some reply.Done }))
      (with_sub_current (wants_resolution s) sub (without_link conn.Failure) ∙ at.current)

  generations : map (λ (g : PolicyUse). g.generation) t.policies ≡ map (λ (g : PolicyUse). g.generation) s.policies
  generations = subbed_generations (without_link conn.Failure) sub (wants_resolution s)

  noted : links_noted t ≡ links_noted s
  noted =
      noted_same s t boarded (entry_goes_on s t o p boarded at.current on)
      (subbed_shut (without_link conn.Failure) sub (wants_resolution s) way.one way.there (sym (live_dial way.one way.dials)))
      (subbed_links (without_link conn.Failure) sub (wants_resolution s))

  agrees : Agrees y t
  agrees = net_steps_keep calls_stay sets_stay kept_along x y s t h (record {
    channel = refl;
    actions = action.DialFails sub ∷ [];
    does = (event_next o s at timely (action.DialFails sub) (ap (λ (e : Event). event_action e s) brings ∙ next), sym does);
    board = (refl, tt);
    clock = clock_goes_on s t o p boarded at.current on x y h.clock refl refl refl refl refl (subst (λ (c : Option OpenEntry). DrawsAlike c x) at.current h.clock.draws).1;
    generations = generations ∙ h.columns.generations;
    noted = noted ∙ h.columns.links;
    policy = λ held unshut. current_stays s t generations ∙ h.configs.policy held unshut;
    links = links_without_difference_agree links_stay x y s t h.kept (kept_along (action.DialFails sub ∷ []) s t h.kept (event_next o s at timely (action.DialFails sub) (ap (λ (e : Event). event_action e s) brings ∙ next), sym does))
        boarded (subbed_links (without_link conn.Failure) sub (wants_resolution s)) refl h.links;
    net = fail sub s x.net way.one h.net way.there way.dials;
    orderly = of_calls_is (net.net_dial_failed sub x.net) _ (unrefused x.net (net.net_dial_failed sub x.net) sub dial) (one_call_more (DialFailed sub) x.net h.orderly);
  })

  pub failed_answered : IsAnswered y reply.Done o s
  failed_answered =
      answered_by_one exact y reply.Done o s at fresh timely (action.DialFails sub) t o.drawn (event.DialFailed sub)
      (record { cancels_none = λ n. refl; sends_none = λ c z. refl; no_result = refl; no_frame = λ q z. refl }) brings next (λ e. e) refl does boarded on
      (λ l. stir.failed sub o s at.current (brings, way.one, way.there, way.dials) l p on refl (to_order exact o s at.quiescent l)) agrees

pub failed_dials_are_answered : QuiescenceIsExact → BoardsStir → DialsFail → AllCallsStay → SetsStay → KeptAlong → LinksStay → FailedDialsAreAnswered
failed_dials_are_answered exact stir fail calls_stay sets_stay kept_along links_stay x y r o s h at fresh timely case answers =
    let given : AnswersBy None (event.DialFailed case.sub) x y r
    = subst (λ (e : Event). AnswersBy None e x y r) case.event_is (subst (λ (z : Option Refusal). AnswersBy z o.event x y r) case.kept answers) in
    subst (λ (z : StateSeen). IsAnswered z r o s) (sym (given.0 ∙ ap (λ (z : Option Refusal). (dial_failed_for z case.sub x).state) case.dial))
    (subst (λ (z : Reply). IsAnswered (undialed case.sub x) z o s) (sym (given.1 ∙ ap (λ (z : Option Refusal). (dial_failed_for z case.sub x).reply) case.dial))
    (failed_answered exact stir fail calls_stay sets_stay kept_along links_stay x o s h at fresh timely case.sub case.event_is case.kept case.dial))
