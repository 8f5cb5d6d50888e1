-- What is done to calls by events is what the steps of a channel say.
use Rattle.std.proofs.Common.{◌≡◌, ◌∙◌, ℕ, List, [], ◌∷◌, refl, sym, ap, Option, Some, None, Result, Ok, Err, IfOk, OnOk}
use Rattle.grpc_base.specs.declared.code.Code.TheVariants as code
use Rattle.grpc_base.specs.declared.event.EndCause.TheVariants as ends
use Rattle.grpc_base.specs.declared.event.Reply.{Reply}
use Rattle.grpc_base.specs.declared.event.Reply.TheVariants as reply
use Rattle.attempt_ledger.specs.declared.news.News.TheVariants as news
use Rattle.attempt_ledger.specs.declared.row.RowCause.TheVariants as cause
use Rattle.call_core.specs.Turns.{own_end}
use Rattle.channel_core.specs.Applying.{Gives}
use Rattle.channel_core.specs.Arrivals.{sent_to}
use Rattle.channel_core.specs.Books.{slot_at}
use Rattle.channel_core.specs.CallEvents.{acted_by, all_acted_by, asks, reply_by}
use Rattle.channel_core.specs.States.{StateSeen}
use Rattle.channel_core.specs.Steps.{all_made, all_timed_out, all_unconfigured, closed, made_one, pick_failed, sealed, timed_out, reported_to, unqueued}
use Rattle.channel_core.specs.Tables.{cancel_reply_of, send_reply_of}
use Rattle.channel_core.specs.Timing.{number_of}
use Rattle.channel_core.specs.declared.state.call_event.CallEvent.{CallEvent}
use Rattle.channel_core.specs.declared.state.call_event.CallEvent.TheVariants as event
use Rattle.channel_core.specs.declared.state.slots.CallSlot.{CallSlot}

pub all_timed_out_by : (calls : List ℕ) (s : StateSeen) → all_acted_by event.Deadline calls s ≡ all_timed_out calls s
all_timed_out_by [] s = refl
all_timed_out_by (key ∷ calls) s = all_timed_out_by calls (timed_out (number_of key) s)

pub all_unconfigured_by : (calls : List ℕ) (s : StateSeen) → all_acted_by (event.Close ends.NoConfig) calls s ≡ all_unconfigured calls s
all_unconfigured_by [] s = refl
all_unconfigured_by (key ∷ calls) s = all_unconfigured_by calls (closed ends.NoConfig (number_of key) s)

pub all_made_by : (calls : List ℕ) (s : StateSeen) → all_acted_by event.Due calls s ≡ all_made calls s
all_made_by [] s = refl
all_made_by (key ∷ calls) s = all_made_by calls (made_one (number_of key) s)

-- a failed pick is the end of an attempt that found no link
pub pick_reported : (number row : ℕ) (s : StateSeen) → sealed (reported_to number row (news.Ended row (own_end code.Unavailable cause.Pick 0)) (unqueued number row s)) ≡ pick_failed number row s
pick_reported number row s = refl

-- what is answered where there is no such call, and where there is one
pub asked_none : (e : CallEvent) (o : Option CallSlot) → o ≡ None → reply.Done ≡ reply_by e o
asked_none (event.Send message) o is = sym (ap (send_reply_of message) is)
asked_none event.Cancel o is = sym (ap cancel_reply_of is)
asked_none (event.Close why) o is = refl
asked_none event.Deadline o is = refl
asked_none event.Due o is = refl

asked_some : (e : CallEvent) (o : Option CallSlot) (x : CallSlot) → o ≡ Some x → asks e x.call ≡ reply_by e o
asked_some (event.Send message) o x is = sym (ap (send_reply_of message) is)
asked_some event.Cancel o x is = sym (ap cancel_reply_of is)
asked_some (event.Close why) o x is = refl
asked_some event.Deadline o x is = refl
asked_some event.Due o x is = refl

pub asked_reply : {T E : Type 0} (read : T → Reply) (e : CallEvent) (o : Option CallSlot) (x : CallSlot) (r : Result T E) → o ≡ Some x → IfOk r (λ v. read v ≡ asks e x.call) → IfOk r (λ v. read v ≡ reply_by e o)
asked_reply read e o x (Ok v) is reported = reported ∙ asked_some e o x is
asked_reply read e o x (Err f) is reported = reported

-- a message that an application sends is shared and not copied
pub send_applied : {E : Type 0} (r : Result Reply E) (shared message : List ℕ) (number : ℕ) (s t : StateSeen) → shared ≡ message → OnOk r (t ≡ acted_by (event.Send shared) number s)
    → IfOk r (λ v. v ≡ reply_by (event.Send shared) (slot_at s.book number)) → IfOk r (λ v. Gives (sent_to number message s) t v)
send_applied (Ok v) shared message number s t same state reply =
    (state ∙ ap (λ (m : List ℕ). (sent_to number m s).state) same, reply ∙ ap (λ (m : List ℕ). send_reply_of m (slot_at s.book number)) same)
send_applied (Err e) shared message number s t same state reply = reply
