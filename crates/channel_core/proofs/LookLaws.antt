-- Whether a take or a send would wait, by what the channel would reply.
use Rattle.std.proofs.Common.{◌≡◌, ◌∙◌, ◌↔◌, ℕ, Bool, true, false, not, nat_lt, ◌&&◌, ◌||◌, if◌then◌else◌, Option, Some, None, is_some, List, [], ◌∷◌, length, refl, sym, ap, subst}
use Rattle.std.specs.Option.{is_none}
use Rattle.std.proofs.Math.Dec.{eqb-suc-zero}
use Rattle.grpc_base.specs.Limits.{message_limit}
use Rattle.grpc_base.specs.declared.event.EndCause.{EndCause}
use Rattle.grpc_base.specs.declared.event.Event.TheVariants as event
use Rattle.grpc_base.specs.declared.event.Refusal.{Refusal}
use Rattle.grpc_base.specs.declared.event.Refusal.TheVariants as refusal
use Rattle.grpc_base.specs.declared.event.Reply.TheVariants as reply
use Rattle.grpc_base.specs.declared.fields.Field.{Field}
use Rattle.attempt_ledger.specs.declared.ledger.Ledger.{Ledger}
use Rattle.attempt_ledger.specs.declared.row.RowEnd.{RowEnd}
use Rattle.call_core.specs.declared.state.CallState.{CallState}
use Rattle.call_core.specs.Parts.{channel_end, end_at, is_by_row, is_too_long, row_end_reply}
use Rattle.call_core.specs.Steps.{can_take, full_reply, full_with, send_refusal, send_reply, send_reply_if, take_reply}
use Rattle.channel_core.specs.declared.state.slots.CallSlot.{CallSlot}
use Rattle.channel_core.specs.Applying.{Answers, AnswersBy, can_drain_in, can_send_in, link_refusal, or_room}
use Rattle.channel_core.specs.Arrivals.{sent_to, taken_by, too_long_end, within_limit}
use Rattle.channel_core.specs.Books.{can_send_at, can_take_at, lacks_call, lines_of, slot_at}
use Rattle.channel_core.specs.States.{StateSeen}
use Rattle.channel_core.specs.Tables.{can_drain_at, numbered, send_reply_of, take_reply_of}
use Rattle.channel_core.proofs.DrainLaws.{gives_nothing}

-- replies of different kinds
clash : true ≡ false → ⊥
clash e = (cc)

refused_waits : (why : Refusal) → reply.NotYet ≡ reply.Refused why → ⊥
refused_waits why e = (cc)

head_waits : (meta : List Field) → reply.NotYet ≡ reply.Head meta → ⊥
head_waits meta e = (cc)

message_waits : (long : Bool) (octets : List ℕ) → reply.NotYet ≡ (if long then too_long_end else reply.Message octets) → ⊥
message_waits true octets e = (cc)
message_waits false octets e = (cc)

done_full : (held : ℕ) → reply.Full held ≡ reply.Done → ⊥
done_full held e = (cc)

refused_full : (held : ℕ) (why : Refusal) → reply.Full held ≡ reply.Refused why → ⊥
refused_full held why e = (cc)

-- an end is no NotYet
end_waits : (by_row : Bool) (why : EndCause) (end : Option RowEnd) → reply.NotYet ≡ within_limit (if by_row then row_end_reply end else channel_end why) → ⊥
end_waits true why None e = (cc)
end_waits true why (Some end) e = (cc)
end_waits false why end e = (cc)

-- a call with these parts
abbrev with : CallState → Bool → Option (List Field) → List (List ℕ) → Option EndCause → CallState
with c taken head messages ended = record c { inbox = record { head = head; messages = messages; is_end_taken = taken }; ended = ended }

waits_parts : (ledger : Ledger) (c : CallState) (taken : Bool) (head : Option (List Field)) (messages : List (List ℕ)) (ended : Option EndCause)
    → (can_take (with c taken head messages ended) ≡ false) ↔ (reply.NotYet ≡ within_limit (take_reply ledger (with c taken head messages ended)))
waits_parts ledger c true head messages ended = ((λ e. absurd (clash e)), (λ e. absurd (refused_waits refusal.CallEnded e)))
waits_parts ledger c false (Some meta) messages ended = ((λ e. absurd (clash e)), (λ e. absurd (head_waits meta e)))
waits_parts ledger c false None (m ∷ messages) ended = (
  (λ e. absurd (clash (subst (λ (b : Bool). (not b || is_some ended) ≡ false) (eqb-suc-zero (length messages)) e))),
  (λ e. absurd (message_waits (nat_lt message_limit (length m)) m e)),
)
waits_parts ledger c false None [] (Some why) = (
  (λ e. absurd (clash e)),
  (λ e. absurd (end_waits (is_by_row why) why (end_at ledger.rows c.attempts.committed) e)),
)
waits_parts ledger c false None [] None = ((λ e. refl), (λ e. refl))

waits_is : (ledger : Ledger) (call : CallState) → (can_take call ≡ false) ↔ (reply.NotYet ≡ within_limit (take_reply ledger call))
waits_is ledger call = waits_parts ledger call call.inbox.is_end_taken call.inbox.head call.inbox.messages call.ended

take_by : (number : ℕ) (s : StateSeen) (o : Option CallSlot) → slot_at s.book number ≡ o
    → (can_take_at o ≡ false) ↔ ((t : StateSeen) × AnswersBy (lacks_call o) (event.Take number) s t reply.NotYet)
take_by number s None is = (
  (λ e. absurd (clash e)),
  (λ (t : (t : StateSeen) × AnswersBy (lacks_call None) (event.Take number) s t reply.NotYet). absurd (refused_waits refusal.NoSuchCall t.1.1)),
)
take_by number s (Some slot) is =
    let reported : within_limit (take_reply_of s.book.ledger (slot_at s.book number)) ≡ within_limit (take_reply s.book.ledger slot.call) = ap (λ (o : Option CallSlot). within_limit (take_reply_of s.book.ledger o)) is in (
      (λ e. ((taken_by number s).state, (refl, (waits_is s.book.ledger slot.call).0 e ∙ sym reported))),
      (λ (t : (t : StateSeen) × AnswersBy (lacks_call (Some slot)) (event.Take number) s t reply.NotYet). (waits_is s.book.ledger slot.call).1 (t.1.1 ∙ reported)),
    )

-- a take of a call would be answered with other than NotYet
pub take_waits : (number : ℕ) (s : StateSeen) → (can_take_at (slot_at s.book number) ≡ false) ↔ ((t : StateSeen) × Answers (event.Take number) s t reply.NotYet)
take_waits number s = take_by number s (slot_at s.book number) refl

-- a send
full_by : (b : Bool) (o : Option ℕ) → ((b || not (is_some o)) ≡ false) ↔ ((held : ℕ) × (reply.Full held ≡ (if b then reply.Done else full_reply o)))
full_by true o = ((λ e. absurd (clash e)), (λ (f : (held : ℕ) × (reply.Full held ≡ reply.Done)). absurd (done_full f.0 f.1)))
full_by false None = ((λ e. absurd (clash e)), (λ (f : (held : ℕ) × (reply.Full held ≡ reply.Done)). absurd (done_full f.0 f.1)))
full_by false (Some held) = ((λ e. (held, refl)), (λ f. refl))

sent_by : (message : List ℕ) (call : CallState) (r : Option Refusal)
    → ((is_some r || is_too_long call.chosen (length message) || not (is_some (full_with (length message) call))) ≡ false) ↔ ((held : ℕ) × (reply.Full held ≡ send_reply_if r message call))
sent_by message call (Some why) = ((λ e. absurd (clash e)), (λ (f : (held : ℕ) × (reply.Full held ≡ reply.Refused why)). absurd (refused_full f.0 why f.1)))
sent_by message call None = full_by (is_too_long call.chosen (length message)) (full_with (length message) call)

send_by : (number : ℕ) (message : List ℕ) (s : StateSeen) (o : Option CallSlot) → slot_at s.book number ≡ o
    → (can_send_at (length message) o ≡ false) ↔ ((held : ℕ) × ((t : StateSeen) × AnswersBy (lacks_call o) (event.Send number message) s t (reply.Full held)))
send_by number message s None is = (
  (λ e. absurd (clash e)),
  (λ (f : (held : ℕ) × ((t : StateSeen) × AnswersBy (lacks_call None) (event.Send number message) s t (reply.Full held))). absurd (refused_full f.0 refusal.NoSuchCall f.1.1.1)),
)
send_by number message s (Some slot) is =
    let reported : send_reply_of message (slot_at s.book number) ≡ send_reply message slot.call = ap (send_reply_of message) is in
    let full = sent_by message slot.call (send_refusal slot.call) in (
      (λ e. ((full.0 e).0, ((sent_to number message s).state, (refl, (full.0 e).1 ∙ sym reported)))),
      (λ (f : (held : ℕ) × ((t : StateSeen) × AnswersBy (lacks_call (Some slot)) (event.Send number message) s t (reply.Full held))). full.1 (f.0, f.1.1.1 ∙ reported)),
    )

shut_by : (shut : Bool) (number : ℕ) (message : List ℕ) (s : StateSeen)
    → ((shut || can_send_at (length message) (slot_at s.book number)) ≡ false)
    ↔ ((held : ℕ) × ((t : StateSeen) × AnswersBy (if shut then Some refusal.Shut else lacks_call (slot_at s.book number)) (event.Send number message) s t (reply.Full held)))
shut_by true number message s = (
  (λ e. absurd (clash e)),
  (λ (f : (held : ℕ) × ((t : StateSeen) × AnswersBy (Some refusal.Shut) (event.Send number message) s t (reply.Full held))). absurd (refused_full f.0 refusal.Shut f.1.1.1)),
)
shut_by false number message s = send_by number message s (slot_at s.book number) refl

-- a send of so many bytes would be answered with other than Full
pub send_waits : (number : ℕ) (message : List ℕ) (s : StateSeen) → (can_send_in (length message) number s ≡ false) ↔ ((held : ℕ) × ((t : StateSeen) × Answers (event.Send number message) s t (reply.Full held)))
send_waits number message s = shut_by s.shut number message s

-- what the channel answers when it is looked at
pub take_reported : (b : Bool) (number : ℕ) (s : StateSeen) → b ≡ can_take_at (slot_at s.book number) → (b ≡ false) ↔ ((t : StateSeen) × Answers (event.Take number) s t reply.NotYet)
take_reported b number s is =
    let P : Bool → Type 0 = λ x. (x ≡ false) ↔ ((t : StateSeen) × Answers (event.Take number) s t reply.NotYet) in
    subst P (sym is) (take_waits number s)

pub send_reported : (b : Bool) (len number : ℕ) (s : StateSeen) → b ≡ can_send_in len number s → (message : List ℕ) → length message ≡ len
    → (b ≡ false) ↔ ((held : ℕ) × ((t : StateSeen) × Answers (event.Send number message) s t (reply.Full held)))
send_reported b len number s is message long =
    let P : Bool → Type 0 = λ x. (x ≡ false) ↔ ((held : ℕ) × ((t : StateSeen) × Answers (event.Send number message) s t (reply.Full held))) in
    subst P (sym (is ∙ ap (λ (n : ℕ). can_send_in n number s) (sym long))) (send_waits number message s)

-- a drain that is not refused, of a link of which a look shows that it cannot be drained, gives nothing
octets_refused : (octets : List ℕ) (why : Refusal) → reply.Octets octets ≡ reply.Refused why → ⊥
octets_refused octets why e = (cc)

same_octets : (octets : List ℕ) → reply.Octets octets ≡ reply.Octets [] → octets ≡ []
same_octets octets e = (cc)

room_by : (small : Bool) (link room : ℕ) (s t : StateSeen) (octets : List ℕ) → can_drain_at (lines_of s.book) (numbered s.links link) ≡ false
    → AnswersBy (if small then Some refusal.RoomTooSmall else None) (event.Drain link room) s t (reply.Octets octets) → octets ≡ []
room_by true link room s t octets cannot answers = absurd (octets_refused octets refusal.RoomTooSmall answers.1)
room_by false link room s t octets cannot answers = same_octets octets (gives_nothing link _ s t (reply.Octets octets) cannot answers)

drain_by : (shut : Bool) (why : Option Refusal) (link room : ℕ) (s t : StateSeen) (octets : List ℕ)
    → (not shut && is_none why && can_drain_at (lines_of s.book) (numbered s.links link)) ≡ false
    → AnswersBy (if shut then Some refusal.Shut else or_room room why) (event.Drain link room) s t (reply.Octets octets) → octets ≡ []
drain_by true why link room s t octets cannot answers = absurd (octets_refused octets refusal.Shut answers.1)
drain_by false (Some why) link room s t octets cannot answers = absurd (octets_refused octets why answers.1)
drain_by false None link room s t octets cannot answers = room_by (nat_lt room 16393) link room s t octets cannot answers

pub drain_reported : (b : Bool) (link : ℕ) (s : StateSeen) → b ≡ can_drain_in link s → b ≡ false
    → (room : ℕ) (octets : List ℕ) → ((t : StateSeen) × Answers (event.Drain link room) s t (reply.Octets octets)) → octets ≡ []
drain_reported b link s is cannot room octets would = drain_by s.shut (link_refusal link s) link room s would.0 octets (sym is ∙ cannot) would.1
