-- Events of dialers and of the resolver that leave the net: a resolution that failed, a dial where there is none to make, and dials that are refused.
use Rattle.std.proofs.Common.{◌≡◌, ◌+◌, ◌||◌, ◌∷◌, inl, inr, ap, refl, subst, sym, ◌∙◌, Bool, true, false, List, [], Option, None, Some, ℕ, zero, suc, if◌then◌else◌, not, is_none, is_some, slice_get}
use Rattle.channel_actions.proofs.Answering.{IsPlain, answered_so, event_next, plain_frame, plain_quiet, refused_so, replied_entry, replied_is}
use Rattle.channel_actions.proofs.Moved.{agrees_moved}
use Rattle.channel_actions.proofs.Settles.{quiescent_answered, quiescent_stays, is_with_open, with_open}
use Rattle.channel_actions.specs.Agrees.{Agrees}
use Rattle.channel_actions.specs.Quiescent.{IsAt, IsQuiescent}
use Rattle.channel_actions.specs.Cases.{IsNoDial, IsRefusedDial, IsUnresolved}
use Rattle.channel_actions.specs.Stages.{EventsAnswered, IsAnswered}
use Rattle.channel_core.specs.Applying as channel
use Rattle.channel_core.specs.Applying.{Applies, AnswersBy}
use Rattle.channel_core.specs.Arrivals.{dial_asked, dial_failed_for, dial_reply, linked_for}
use Rattle.channel_core.specs.States.{StateSeen}
use Rattle.channel_core.specs.Steps as channel_steps
use Rattle.channel_core.specs.Steps.{dial_draw, unresolved}
use Rattle.channel_net.specs.Lists.{link_of}
use Rattle.channel_net.specs.Steps as net
use Rattle.channel_net.specs.declared.links.OwnLink.{OwnLink}
use Rattle.grpc_base.specs.declared.event.Event.{Event}
use Rattle.grpc_base.specs.declared.event.Event.TheVariants as event
use Rattle.grpc_base.specs.declared.event.Refusal.{Refusal}
use Rattle.grpc_base.specs.declared.event.Refusal.TheVariants as refusal
use Rattle.grpc_base.specs.declared.event.Reply.{Reply}
use Rattle.grpc_base.specs.declared.event.Reply.TheVariants as reply
use Rattle.channel_actions.proofs.KeptSessions.Beside.{kept_moved}
use Rattle.net_actions.proofs.Dialling.{dialling_same}
use Rattle.net_actions.specs.Laws.{NoneToDial}
use Rattle.net_actions.specs.Sees.{SubchannelsAgree}
use Rattle.service_config.specs.declared.config.Config.{Config}
use Rattle.session_actions.specs.Actions.{after, after_if}
use Rattle.session_actions.specs.CallEnds.{next_deadline}
use Rattle.session_actions.specs.Configs.{resolver_answered}
use Rattle.session_actions.specs.Events.{event_action, event_action_by, event_applied}
use Rattle.session_actions.specs.Refusals.{dial_refusal, refusal_of, refused_if}
use Rattle.session_actions.specs.Subchannels.{is_dialling}
use Rattle.session_actions.specs.Words.{numbered}
use Rattle.session_actions.specs.declared.action.Action.{Action}
use Rattle.session_actions.specs.declared.action.Action.TheVariants as action
use Rattle.session_actions.specs.declared.entry.OpenEntry.{OpenEntry}
use Rattle.session_actions.specs.declared.entry.Stage.TheVariants as stage
use Rattle.session_actions.specs.declared.seen.Seen.{Seen}
use Rattle.session_actions.specs.declared.subchannel.Subchannel.{Subchannel}
use Rattle.subchannel.specs.Boards as boards
use Rattle.subchannel.specs.Boards.{first_number}
use Rattle.subchannel.specs.Records.{SubRecord, is_dialable, is_dialing}

or_true : (b : Bool) → (b || true) ≡ true
or_true true = refl
or_true false = refl

dial_by : (b c : Bool) → c ≡ b → (if b then None else Some refusal.NotDialing) ≡ refused_if (not c) refusal.NotDialing None
dial_by true c e = sym (ap (λ (z : Bool). refused_if (not z) refusal.NotDialing None) e)
dial_by false c e = sym (ap (λ (z : Bool). refused_if (not z) refusal.NotDialing None) e)

-- a channel that does not refuse is open
pub unshut_by : (b : Bool) (z : Option Refusal) → (if b then Some refusal.Shut else z) ≡ None → (b ≡ false) × (z ≡ None)
unshut_by true z e = absurd (cc)
unshut_by false z e = (refl, e)

-- the session's refusal of an open channel
pub open_in : (s : Seen) (z : Option Refusal) → s.shut ≡ false → refused_if s.shut refusal.Shut z ≡ z
open_in s z e = ap (λ (b : Bool). refused_if b refusal.Shut z) e

-- what the event applies, where neither refuses
pub applied_next : (e : Event) (s : Seen) (a : Option Action) → refusal_of e s ≡ None → event_applied e s ≡ a → event_action e s ≡ a
applied_next e s a none is = ap (λ (z : Option Refusal). event_action_by z e s) none ∙ is

-- no dial is to be made
no_dial_by : (x y : StateSeen) (r : Reply) → first_number is_dialable x.net.board ≡ None → (y ≡ (dial_asked x).state) × (r ≡ (dial_asked x).reply) → (y ≡ x) × (r ≡ reply.NotYet)
no_dial_by x y r none given = (
  given.0 ∙ ap (λ (z : Option ℕ). dial_draw (net.dialing_at x.book.moment (channel_steps.next_word x) x.net.board z)
      (record x { net = record x.net { board = net.board_dialed x.book.moment (channel_steps.next_word x) z x.net.board } })) none,
  given.1 ∙ ap (λ (z : Option ℕ). dial_reply (net.dialing_at x.book.moment (channel_steps.next_word x) x.net.board z)) none,
)

pub no_dials : NoneToDial → EventsAnswered IsNoDial
no_dials none_to_dial x y r o s h at fresh timely case answers =
    let kept : (if x.shut then Some refusal.Shut else None) ≡ None = subst (λ (e : Event). channel.refusal_of e x ≡ None) case.event_is case.kept in
    let unshut : s.shut ≡ false = h.configs.shut ∙ (unshut_by x.shut None kept).0 in
    let here : AnswersBy (channel.refusal_of event.TakeDial x) event.TakeDial x y r = subst (λ (e : Event). AnswersBy (channel.refusal_of e x) e x y r) case.event_is answers in
    let given : AnswersBy None event.TakeDial x y r = subst (λ (z : Option Refusal). AnswersBy z event.TakeDial x y r) kept here in
    let plain = no_dial_by x y r case.none given in
    answered_so x y r reply.NotYet o s event.TakeDial h at fresh timely case.event_is
    (record { cancels_none = λ n. refl; sends_none = λ c z. refl; no_result = refl; no_frame = λ p z. refl })
    (applied_next event.TakeDial s (Some (action.EventAnswered reply.NotYet)) (open_in s None unshut)
    (ap (λ (a : Action). Some a) (none_to_dial s x.net h.net case.none))) plain.0 plain.1

-- a dial that is not under way is refused for the same reason
dial_from : (n i : ℕ) (subs : List Subchannel) (board : List SubRecord) (links : List OwnLink) → SubchannelsAgree n subs board links
    → net.dial_refusal (slice_get board i) ≡ dial_refusal (slice_get subs i)
dial_from n i [] [] links h = refl
dial_from n zero (b ∷ subs) (r ∷ board) links h = dial_by (is_dialing r) (is_dialling b) (dialling_same b r n (link_of links n) h.0)
dial_from n (suc i) (b ∷ subs) (r ∷ board) links h = dial_from (n + 1) i subs board links h.1
dial_from n i [] (r ∷ board) links h = absurd h
dial_from n i (b ∷ subs) [] links h = absurd h

pub dial_same : (number : ℕ) (subs : List Subchannel) (board : List SubRecord) (links : List OwnLink) → SubchannelsAgree 1 subs board links
    → net.dial_refusal (boards.numbered board number) ≡ dial_refusal (numbered subs number)
dial_same zero subs board links h = refl
dial_same (suc i) subs board links h = dial_from 1 i subs board links h

module _ (x y : StateSeen) (r : Reply) (o : OpenEntry) (s : Seen) (h : Agrees x s) (at : IsAt stage.Event o s) (fresh : o.turn ≡ None) (timely : next_deadline s ≡ None)
    (sub : ℕ) (why : Refusal) (is : net.dial_refusal (boards.numbered x.net.board sub) ≡ Some why) where
  refuses : dial_refusal (numbered s.subs sub) ≡ Some why
  refuses = sym (dial_same sub s.subs x.net.board x.net.links h.net.subs_are) ∙ is

  next_refused : (e : Event) → o.event ≡ e → refusal_of e s ≡ Some why → event_action o.event s ≡ Some (action.EventRefused why)
  next_refused e same none = ap (λ (v : Event). event_action v s) same ∙ ap (λ (z : Option Refusal). event_action_by z e s) none

  up_refused : o.event ≡ event.LinkUp sub → channel.refusal_of o.event x ≡ None → AnswersBy (channel.refusal_of o.event x) o.event x y r → IsAnswered y r o s
  up_refused same kept answers =
      let unshut : s.shut ≡ false = h.configs.shut ∙ (unshut_by x.shut None (subst (λ (e : Event). channel.refusal_of e x ≡ None) same kept)).0 in
      let given : AnswersBy None (event.LinkUp sub) x y r
      = subst (λ (e : Event). AnswersBy None e x y r) same (subst (λ (z : Option Refusal). AnswersBy z o.event x y r) kept answers) in
      refused_so x y r why o s h at fresh timely (next_refused (event.LinkUp sub) same (open_in s (dial_refusal (numbered s.subs sub)) unshut ∙ refuses))
      (given.0 ∙ ap (λ (z : Option Refusal). (linked_for z sub x).state) is) (given.1 ∙ ap (λ (z : Option Refusal). (linked_for z sub x).reply) is)

  fail_refused : o.event ≡ event.DialFailed sub → channel.refusal_of o.event x ≡ None → AnswersBy (channel.refusal_of o.event x) o.event x y r → IsAnswered y r o s
  fail_refused same kept answers =
      let unshut : s.shut ≡ false = h.configs.shut ∙ (unshut_by x.shut None (subst (λ (e : Event). channel.refusal_of e x ≡ None) same kept)).0 in
      let given : AnswersBy None (event.DialFailed sub) x y r
      = subst (λ (e : Event). AnswersBy None e x y r) same (subst (λ (z : Option Refusal). AnswersBy z o.event x y r) kept answers) in
      refused_so x y r why o s h at fresh timely (next_refused (event.DialFailed sub) same (open_in s (dial_refusal (numbered s.subs sub)) unshut ∙ refuses))
      (given.0 ∙ ap (λ (z : Option Refusal). (dial_failed_for z sub x).state) is) (given.1 ∙ ap (λ (z : Option Refusal). (dial_failed_for z sub x).reply) is)

dials_by : (x y : StateSeen) (r : Reply) (o : OpenEntry) (s : Seen) (h : Agrees x s) (at : IsAt stage.Event o s) (fresh : o.turn ≡ None) (timely : next_deadline s ≡ None)
    (case : IsRefusedDial o.event x s) (z : Option Refusal) → net.dial_refusal (boards.numbered x.net.board case.sub) ≡ z
    → AnswersBy (channel.refusal_of o.event x) o.event x y r → IsAnswered y r o s
dials_by x y r o s h at fresh timely case None e answers =
    absurd (let bad : false ≡ true = sym (ap (λ (z : Option Refusal). is_some z) e) ∙ case.refused in (cc))
dials_by x y r o s h at fresh timely case (Some why) e answers =
    elim case.event_is [
      | inl up ↦ up_refused x y r o s h at fresh timely case.sub why e up case.kept answers
      | inr fails ↦ fail_refused x y r o s h at fresh timely case.sub why e fails case.kept answers
    ]

pub refused_dials : EventsAnswered IsRefusedDial
refused_dials x y r o s h at fresh timely case answers =
    dials_by x y r o s h at fresh timely case (net.dial_refusal (boards.numbered x.net.board case.sub)) refl answers

-- the resolver failed: nothing but its answer is noted
module _ (x y : StateSeen) (r : Reply) (o : OpenEntry) (s : Seen) (h : Agrees x s) (at : IsAt stage.Event o s) (fresh : o.turn ≡ None) (timely : next_deadline s ≡ None)
    (case : IsUnresolved o.event x s) where
  abbrev p : OpenEntry
  p = replied_entry reply.Done o

  abbrev t : Seen
  t = resolver_answered s

  open_now : s.shut ≡ false
  open_now = h.configs.shut ∙ (unshut_by x.shut None (subst (λ (e : Event). channel.refusal_of e x ≡ None) case.event_is case.kept)).0

  next : event_action o.event s ≡ Some action.ResolutionFailed
  next = ap (λ (e : Event). event_action e s) case.event_is ∙ applied_next event.ResolveFailed s (Some action.ResolutionFailed) (open_in s None open_now) refl

  does_so : after action.ResolutionFailed s ≡ with_open p t
  does_so = ap (λ (c : Option OpenEntry). after_if c action.ResolutionFailed s) at.current ∙ replied_is reply.Done o t at.current

  quiescent_open : IsQuiescent o (with_open o s)
  quiescent_open = subst (IsQuiescent o) (is_with_open o s at.current) at.quiescent

  agrees_open : Agrees x (with_open o s)
  agrees_open = subst (Agrees x) (is_with_open o s at.current) h

  is_plain : IsPlain event.ResolveFailed
  is_plain = record { cancels_none = λ n. refl; sends_none = λ c z. refl; no_result = refl; no_frame = λ q z. refl }

  or_none : (z : Option Config) (b : Bool) → z ≡ None → true ≡ (b || is_none z)
  or_none z b e = sym (ap (λ (w : Option Config). b || is_none w) e ∙ or_true b)

  agrees_now : Agrees (unresolved x) (with_open p t)
  agrees_now =
      agrees_moved (with_open o s) s.entries (Some p) true false x agrees_open x.book.ledger.entry x.book.moment x.word x.drawn false (x.unconfigured || is_none x.held)
      agrees_open.clock.entry_is (record { entry_is = agrees_open.clock.entry_is; moment = agrees_open.clock.moment; draws = agrees_open.clock.draws })
      (or_none x.held x.unconfigured) agrees_open.columns.links (kept_moved (with_open o s) s.entries (Some p) true false refl agrees_open.kept)

  failed : IsAnswered (unresolved x) reply.Done o s
  failed = record {
    reaches = record {
      actions = action.ResolutionFailed ∷ [];
      seen = with_open p t;
      entry = p;
      does = (event_next o s at timely action.ResolutionFailed next, sym does_so);
      posts = refl;
      same = record { moment = refl; word = refl; event = refl; entries = refl; setup = refl };
      at = record {
        current = refl;
        stage_is = refl;
        quiescent = quiescent_stays stage.Replied (Some reply.Done) o t (plain_quiet reply.Done o event.ResolveFailed case.event_is is_plain)
            (quiescent_answered o s true false quiescent_open);
      };
      agrees = agrees_now;
    };
    reply = refl;
    fresh = fresh;
    none = plain_frame reply.Done o (with_open p t) event.ResolveFailed case.event_is is_plain;
  }

  pub unresolved_so : AnswersBy (channel.refusal_of o.event x) o.event x y r → IsAnswered y r o s
  unresolved_so answers =
      let given : AnswersBy None event.ResolveFailed x y r
      = subst (λ (e : Event). AnswersBy None e x y r) case.event_is (subst (λ (z : Option Refusal). AnswersBy z o.event x y r) case.kept answers) in
      subst (λ (z : StateSeen). IsAnswered z r o s) (sym given.0) (subst (λ (z : Reply). IsAnswered (unresolved x) z o s) (sym given.1) failed)

pub unresolved_events : EventsAnswered IsUnresolved
unresolved_events x y r o s h at fresh timely case answers = unresolved_so x y r o s h at fresh timely case answers
