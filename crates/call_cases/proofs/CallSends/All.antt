-- Every Send is one that ends its call, one that commits it, or one that does neither.
use Rattle.call_core.specs.Parts.{furthest, is_too_long, pushed_over}
use Rattle.call_core.specs.Steps.{send_refusal}
use Rattle.call_cases.proofs.CallPosts.Sending.{sends}
use Rattle.call_cases.specs.CallSends.Laws.{CallsCommitAlike, CommitsAlike, IsSend, SendsAreAllAnswered}
use Rattle.channel_actions.proofs.Dialling.{unshut_by}
use Rattle.channel_actions.proofs.Does.{does_on}
use Rattle.channel_actions.specs.Agrees.{Agrees}
use Rattle.channel_actions.specs.Quiescent.{IsAt}
use Rattle.channel_actions.specs.Stages.{IsAnswered}
use Rattle.channel_core.specs.Applying as channel
use Rattle.channel_core.specs.Applying.{AnswersBy}
use Rattle.channel_core.specs.Books.{lacks_call, slot_at}
use Rattle.channel_core.specs.States.{StateSeen}
use Rattle.channel_core.specs.declared.state.slots.CallSlot.{CallSlot}
use Rattle.call_cases.proofs.FullSends.Leading.{full_sends_lead}
use Rattle.call_cases.specs.FullSends.Laws.{IsFullSend, LeadsToCommit}
use Rattle.grpc_base.specs.declared.event.Event.{Event}
use Rattle.grpc_base.specs.declared.event.Refusal.{Refusal}
use Rattle.grpc_base.specs.declared.event.Reply.{Reply}
use Rattle.grpc_frame.specs.Messages.{framed}
use Rattle.channel_actions.proofs.KeptSessions.Along.{kept_along}
use Rattle.call_cases.proofs.LongSends.Joined.{long_sends_are_answered}
use Rattle.call_cases.specs.LongSends.Laws.{CallsEndAlike}
use Rattle.session_actions.specs.CallEnds.{next_deadline}
use Rattle.session_actions.specs.declared.action.Action.TheVariants as action
use Rattle.session_actions.specs.declared.action.CommitCause.{CommitCause}
use Rattle.session_actions.specs.declared.action.CommitCause.TheVariants as commit
use Rattle.session_actions.specs.declared.entry.OpenEntry.{OpenEntry}
use Rattle.session_actions.specs.declared.entry.Stage.TheVariants as stage
use Rattle.session_actions.specs.declared.seen.Seen.{Seen}
use Rattle.std.proofs.Common.{Bool, List, None, Option, Some, [], false, length, refl, subst, sym, true, ℕ, ◌∙◌, ◌∷◌, ◌≡◌}

-- the commitment follows
module _ (number : ℕ) (why : CommitCause) (x y : StateSeen) (r : Reply) (o : OpenEntry) (s : Seen) (h : LeadsToCommit number why x y r o s)
    (e : CommitsAlike number h.attempt.place why h.between h.entry h.seen) where
  pub committed_so : IsAnswered y r o s
  committed_so = record {
    reaches = record {
      actions = action.MessageAccepted number ∷ (action.CallCommitted h.attempt.place why ∷ e.actions);
      seen = e.seen;
      entry = h.entry;
      does = does_on (action.MessageAccepted number ∷ []) (action.CallCommitted h.attempt.place why ∷ e.actions) s h.seen e.seen h.does e.does;
      posts = e.posts;
      same = record { moment = h.same.moment; word = h.same.word; event = h.same.event; entries = e.entries ∙ h.same.entries; setup = e.setup ∙ h.same.setup };
      at = record { current = e.current; stage_is = h.stage_is; quiescent = e.quiescent };
      agrees = subst (λ (z : StateSeen). Agrees z e.seen) (sym h.commits_so) e.agrees;
    };
    reply = h.reply;
    fresh = h.fresh;
    none = h.frameless e.seen;
  }

some_not : (a : Refusal) (o : Option Refusal) → o ≡ Some a → o ≡ None → ⊥
some_not a o e f = absurd (cc)

module _ (ends : CallsEndAlike) (commits_alike : CallsCommitAlike) (x y : StateSeen) (r : Reply) (o : OpenEntry) (s : Seen) (h : Agrees x s) (at : IsAt stage.Event o s)
    (fresh : o.turn ≡ None) (timely : next_deadline s ≡ None) (case : IsSend o.event x s) (answers : AnswersBy (channel.refusal_of o.event x) o.event x y r)
    (slot : CallSlot) (there : slot_at x.book case.call ≡ Some slot) where
  abbrev m : List ℕ
  m = case.message

  abbrev long : Bool
  long = is_too_long slot.call.chosen (length m)

  abbrev over : Bool
  over = pushed_over slot.call.buffer (framed m) (furthest slot.call.buffer slot.call.live)

  plainly : (send_refusal slot.call ≡ None → long ≡ false) → (send_refusal slot.call ≡ None → over ≡ false) → IsAnswered y r o s
  plainly short room =
      sends kept_along x y r o s h at fresh timely
      (record { call = case.call; message = m; event_is = case.event_is; kept = case.kept; slot = slot; there = there; short = short; room = room }) answers

  by_room : send_refusal slot.call ≡ None → long ≡ false → (b : Bool) → over ≡ b → IsAnswered y r o s
  by_room free short false e = plainly (λ f. short) (λ f. e)
  by_room free short true e =
      let full : IsFullSend o.event x s
      = record { call = case.call; message = m; event_is = case.event_is; kept = case.kept; slot = slot; there = there; free = free; short = short; over = e } in
      let led : LeadsToCommit case.call commit.Overflow x y r o s = full_sends_lead x y r o s h at fresh timely full answers in
      committed_so case.call commit.Overflow x y r o s led (commits_alike case.call commit.Overflow x y r o s case.unreset led)

  by_length : send_refusal slot.call ≡ None → (b : Bool) → long ≡ b → IsAnswered y r o s
  by_length free true e =
      long_sends_are_answered ends x y r o s h at fresh timely
      (record {
        send = record { call = case.call; message = m; event_is = case.event_is; kept = case.kept; slot = slot; there = there; free = free; long = e };
        unreset = case.unreset;
      }) answers
  by_length free false e = by_room free e over refl

  by_refusal : (z : Option Refusal) → send_refusal slot.call ≡ z → IsAnswered y r o s
  by_refusal None e = by_length e long refl
  by_refusal (Some why) e =
      plainly (λ f. absurd (some_not why (send_refusal slot.call) e f)) (λ f. absurd (some_not why (send_refusal slot.call) e f))

  pub sent_so : IsAnswered y r o s
  sent_so = by_refusal (send_refusal slot.call) refl

slot_by : (x : StateSeen) (n : ℕ) (o : Option CallSlot) → slot_at x.book n ≡ o → lacks_call o ≡ None → (slot : CallSlot) × (slot_at x.book n ≡ Some slot)
slot_by x n None e has = absurd (cc)
slot_by x n (Some slot) e has = (slot, e)

pub sends_are_all_answered : SendsAreAllAnswered
sends_are_all_answered ends commits_alike x y r o s h at fresh timely case answers =
    let kept : (x.shut ≡ false) × (lacks_call (slot_at x.book case.call) ≡ None)
    = unshut_by x.shut (lacks_call (slot_at x.book case.call)) (subst (λ (v : Event). channel.refusal_of v x ≡ None) case.event_is case.kept) in
    let slot : (slot : CallSlot) × (slot_at x.book case.call ≡ Some slot) = slot_by x case.call (slot_at x.book case.call) refl kept.1 in
    sent_so ends commits_alike x y r o s h at fresh timely case answers slot.0 slot.1
