-- What a Take or a Send is answered that is made where the channel had said that it need not wait.
use Rattle.std.proofs.Common.{◌≡◌, ◌<◌, ◌∙◌, ℕ, Bool, true, false, Result, Ok, Err, IfOk, OnOk, List, length, refl, sym, subst, inl, inr, arith}
use Rattle.std.proofs.lemmas.Bool.{cases_Bool}
use Rattle.grpc_base.specs.Posts.{HasNoRoom, is_full, is_not_yet}
use Rattle.grpc_base.specs.declared.event.Event.TheVariants as event
use Rattle.grpc_base.specs.declared.event.Reply.{Reply}
use Rattle.grpc_base.specs.declared.event.Reply.TheVariants as reply
use Rattle.grpc_base.specs.declared.post.PostError.{PostError}
use Rattle.channel_core.specs.Core.{CoreSeen, WouldReply, moment_of, next_entry}
use Rattle.channel_core.specs.Applying.{Stepped}
use Rattle.shared_channel.specs.Turns.{CanSend, CanTake, StepGives}
use Rattle.shared_channel.proofs.WaitLaws.{send_law, take_law}

clash : true ≡ false → ⊥
clash e = (cc)

is_waiting : (r : Reply) → is_not_yet r ≡ true → r ≡ reply.NotYet
is_waiting reply.NotYet so = refl
is_waiting (reply.Call call) so = absurd (clash (sym so))
is_waiting reply.Done so = absurd (clash (sym so))
is_waiting (reply.Full held) so = absurd (clash (sym so))
is_waiting (reply.Head meta) so = absurd (clash (sym so))
is_waiting (reply.Message octets) so = absurd (clash (sym so))
is_waiting (reply.End code text meta cause) so = absurd (clash (sym so))
is_waiting (reply.BadConfig fault) so = absurd (clash (sym so))
is_waiting (reply.Dial sub address until) so = absurd (clash (sym so))
is_waiting (reply.Link link) so = absurd (clash (sym so))
is_waiting (reply.Octets octets) so = absurd (clash (sym so))
is_waiting (reply.Refused why) so = absurd (clash (sym so))

is_filled : (r : Reply) → is_full r ≡ true → (held : ℕ) × (r ≡ reply.Full held)
is_filled (reply.Full held) so = (held, refl)
is_filled reply.NotYet so = absurd (clash (sym so))
is_filled (reply.Call call) so = absurd (clash (sym so))
is_filled reply.Done so = absurd (clash (sym so))
is_filled (reply.Head meta) so = absurd (clash (sym so))
is_filled (reply.Message octets) so = absurd (clash (sym so))
is_filled (reply.End code text meta cause) so = absurd (clash (sym so))
is_filled (reply.BadConfig fault) so = absurd (clash (sym so))
is_filled (reply.Dial sub address until) so = absurd (clash (sym so))
is_filled (reply.Link link) so = absurd (clash (sym so))
is_filled (reply.Octets octets) so = absurd (clash (sym so))
is_filled (reply.Refused why) so = absurd (clash (sym so))

come_by : (moment word call : ℕ) (old new : CoreSeen) (r : Reply) → (WouldReply old (event.Take call) reply.NotYet → ⊥)
    → Stepped (next_entry old.journal.entries) (moment_of old.journal.entries (record { moment = moment; word = word; event = event.Take call })) word (event.Take call) old.state new.state r
    → is_not_yet r ≡ false
come_by moment word call old new r can stepped =
    elim (cases_Bool (is_not_yet r)) [
      | inl so ↦ absurd (can (take_law _ _ _ call old.state new.state
          (subst (λ (x : Reply). Stepped (next_entry old.journal.entries) (moment_of old.journal.entries (record { moment = moment; word = word; event = event.Take call })) word (event.Take call) old.state new.state x) (is_waiting r so) stepped)))
      | inr not_so ↦ not_so
    ]

pub take_comes : (moment word call : ℕ) (old new : CoreSeen) (b : Bool) (result : Result Reply PostError) → CanTake call b old → b ≡ true
    → StepGives (record { moment = moment; word = word; event = event.Take call }) old result new → IfOk result (λ r. is_not_yet r ≡ false)
take_comes moment word call old new b (Ok r) reported can did = come_by moment word call old new r (λ waits. clash (sym can ∙ reported.1 waits)) did.0.by
take_comes moment word call old new b (Err error) reported can did = tt

room_by : (moment word call : ℕ) (message : List ℕ) (old new : CoreSeen) (r : Reply) → (((held : ℕ) × WouldReply old (event.Send call message) (reply.Full held)) → ⊥)
    → Stepped (next_entry old.journal.entries) (moment_of old.journal.entries (record { moment = moment; word = word; event = event.Send call message })) word (event.Send call message) old.state new.state r
    → is_full r ≡ false
room_by moment word call message old new r can stepped =
    elim (cases_Bool (is_full r)) [
      | inl so ↦ (let full = is_filled r so in absurd (can (send_law _ _ _ call full.0 message old.state new.state
          (subst (λ (x : Reply). Stepped (next_entry old.journal.entries) (moment_of old.journal.entries (record { moment = moment; word = word; event = event.Send call message })) word (event.Send call message) old.state new.state x) full.1 stepped))))
      | inr not_so ↦ not_so
    ]

pub send_fits : (moment word call len : ℕ) (message : List ℕ) (old new : CoreSeen) (b : Bool) (result : Result Reply PostError) → CanSend call len b old → length message ≡ len → b ≡ true
    → StepGives (record { moment = moment; word = word; event = event.Send call message }) old result new → IfOk result (λ r. is_full r ≡ false)
send_fits moment word call len message old new b (Ok r) reported long can did = room_by moment word call message old new r (λ full. clash (sym can ∙ (reported message long).1 full)) did.0.by
send_fits moment word call len message old new b (Err error) reported long can did = tt

-- a message for which no journal has room makes no entry
pub send_huge : (call : ℕ) (message : List ℕ) (n bytes : ℕ) (result : Result Reply PostError) → 4294967295 < length message
    → OnOk result (HasNoRoom n bytes (event.Send call message) → ⊥) → IfOk result (λ r. is_full r ≡ false)
send_huge call message n bytes (Ok r) long room = absurd (room (inr (omega (arith, long))))
send_huge call message n bytes (Err error) long room = tt
