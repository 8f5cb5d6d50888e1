-- Each event that a channel answers gets a reply that it may get.
use Rattle.std.proofs.Common.{◌≡◌, ℕ, Bool, true, false, not, nat_lt, if◌then◌else◌, List, refl, sym, subst, arith, Option, Some, None, Result, Ok, Err, IfSome, Contains}
use Rattle.grpc_base.specs.Posts.{MayReply, refusals_of}
use Rattle.grpc_base.specs.declared.address.Address.{Address}
use Rattle.grpc_base.specs.declared.event.ConfigFault.{ConfigFault}
use Rattle.grpc_base.specs.declared.event.Event.{Event}
use Rattle.grpc_base.specs.declared.event.Event.TheVariants as event
use Rattle.grpc_base.specs.declared.event.Refusal.{Refusal}
use Rattle.grpc_base.specs.declared.event.Refusal.TheVariants as refusal
use Rattle.grpc_base.specs.declared.event.Reply.{Reply}
use Rattle.grpc_base.specs.declared.event.Reply.TheVariants as reply
use Rattle.policy_rack.specs.Kinds.{kinds_of}
use Rattle.service_config.specs.declared.config.Config.{Config}
use Rattle.subchannel.specs.Boards.{numbered}
use Rattle.channel_net.specs.Steps as net
use Rattle.channel_core.specs.Applying.{Answers, AnswersBy, Applies, Stepped, answered_question, begun_at, config_read, config_taken, link_refusal, open_refusal, or_room, refusal_of, then_readdressed}
use Rattle.channel_core.specs.Books.{lacks_call, slot_at}
use Rattle.channel_core.specs.States.{StateSeen}
use Rattle.channel_core.specs.Steps.{is_gone, next_word, overdue_ended}
use Rattle.channel_core.specs.Tables.{has_link}
use Rattle.channel_core.specs.declared.state.slots.CallSlot.{CallSlot}
use Rattle.channel_core.proofs.Replies.{may_cancel, may_dial, may_fail, may_finish, may_link, may_send, may_take}

-- a refusal, if any, is one that the event may get
abbrev Within : Event → Option Refusal → Type 0
Within e o = IfSome o (Contains (refusals_of e))

shut_within : (e : Event) (shut : Bool) (o : Option Refusal) → Contains (refusals_of e) refusal.Shut → Within e o → Within e (if shut then Some refusal.Shut else o)
shut_within e true o shut_off within = shut_off
shut_within e false o shut_off within = within

call_within : (e : Event) (slot : Option CallSlot) → Contains (refusals_of e) refusal.NoSuchCall → Within e (lacks_call slot)
call_within e None no_call = no_call
call_within e (Some slot) no_call = tt

link_by : (e : Event) (has gone : Bool) → Contains (refusals_of e) refusal.NoSuchLink → Contains (refusals_of e) refusal.LinkGone
    → Within e (if not has then Some refusal.NoSuchLink else if gone then Some refusal.LinkGone else None)
link_by e false gone no_link link_gone = no_link
link_by e true true no_link link_gone = link_gone
link_by e true false no_link link_gone = tt

link_within : (e : Event) (link : ℕ) (s : StateSeen) → Contains (refusals_of e) refusal.NoSuchLink → Contains (refusals_of e) refusal.LinkGone → Within e (link_refusal link s)
link_within e link s no_link link_gone = link_by e (has_link s.links link) (is_gone link s) no_link link_gone

room_by : (e : Event) (small : Bool) → Contains (refusals_of e) refusal.RoomTooSmall → Within e (if small then Some refusal.RoomTooSmall else None)
room_by e true too_small = too_small
room_by e false too_small = tt

room_within : (e : Event) (room : ℕ) (o : Option Refusal) → Contains (refusals_of e) refusal.RoomTooSmall → Within e o → Within e (or_room room o)
room_within e room None too_small within = room_by e (nat_lt room 16393) too_small
room_within e room (Some why) too_small within = within

-- an answer by an answer that the event may get
by_reply : (e : Event) (x y : Reply) → y ≡ x → MayReply e x → MayReply e y
by_reply e x y same may = let P : Reply → Type 0 = MayReply e in subst P (sym same) may

answer_by : (e : Event) (o : Option Refusal) (s t : StateSeen) (r : Reply) → Within e o → (o ≡ None → Applies e s t r → MayReply e r) → AnswersBy o e s t r → MayReply e r
answer_by e None s t r within applied answers = applied refl answers
answer_by e (Some why) s t r within applied answers = by_reply e (reply.Refused why) r answers.1 within

config_may : (addresses : List Address) (config : Option (List ℕ)) (o : Result Config ConfigFault) (s : StateSeen) → MayReply (event.Resolved addresses config) (then_readdressed addresses (config_taken o s)).reply
config_may addresses config (Ok held) s = tt
config_may addresses config (Err fault) s = tt

pub may_answer : (e : Event) (s t : StateSeen) (r : Reply) → Answers e s t r → MayReply e r
may_answer (event.Begin request) s t r answers =
    let e : Event = event.Begin request in
    answer_by e (refusal_of e s) s t r (shut_within e s.shut None (0, omega arith, refl) tt) (λ none given. by_reply e _ r given.1 tt) answers
may_answer (event.Send number message) s t r answers =
    let e : Event = event.Send number message in
    answer_by e (refusal_of e s) s t r (shut_within e s.shut (open_refusal e s) (0, omega arith, refl) (call_within e (slot_at s.book number) (1, omega arith, refl)))
    (λ none given. by_reply e _ r given.1 (may_send number message (slot_at s.book number))) answers
may_answer (event.Finish number) s t r answers =
    let e : Event = event.Finish number in
    answer_by e (refusal_of e s) s t r (shut_within e s.shut (open_refusal e s) (0, omega arith, refl) (call_within e (slot_at s.book number) (1, omega arith, refl)))
    (λ none given. by_reply e _ r given.1 (may_finish number (slot_at s.book number))) answers
may_answer (event.Take number) s t r answers =
    let e : Event = event.Take number in
    answer_by e (refusal_of e s) s t r (call_within e (slot_at s.book number) (0, omega arith, refl))
    (λ none given. by_reply e _ r given.1 (may_take number s.book.ledger (slot_at s.book number) none)) answers
may_answer (event.Cancel number) s t r answers =
    let e : Event = event.Cancel number in
    answer_by e (refusal_of e s) s t r (shut_within e s.shut (open_refusal e s) (0, omega arith, refl) (call_within e (slot_at s.book number) (1, omega arith, refl)))
    (λ none given. by_reply e _ r given.1 (may_cancel number (slot_at s.book number))) answers
may_answer (event.Resolved addresses config) s t r answers =
    let e : Event = event.Resolved addresses config in
    answer_by e (refusal_of e s) s t r (shut_within e s.shut None (0, omega arith, refl) tt)
    (λ none given. by_reply e _ r given.1 (config_may addresses config (config_read (kinds_of s.net.asker.rack.policies) config) (answered_question s))) answers
may_answer event.ResolveFailed s t r answers =
    let e : Event = event.ResolveFailed in
    answer_by e (refusal_of e s) s t r (shut_within e s.shut None (0, omega arith, refl) tt) (λ none given. by_reply e _ r given.1 tt) answers
may_answer event.TakeDial s t r answers =
    let e : Event = event.TakeDial in
    answer_by e (refusal_of e s) s t r (shut_within e s.shut None (0, omega arith, refl) tt)
    (λ none given. by_reply e _ r given.1 (may_dial (net.dial_answer s.book.moment (next_word s) s.net))) answers
may_answer (event.LinkUp sub) s t r answers =
    let e : Event = event.LinkUp sub in
    answer_by e (refusal_of e s) s t r (shut_within e s.shut None (0, omega arith, refl) tt)
    (λ none given. by_reply e _ r given.1 (may_link sub (numbered s.net.board sub) s)) answers
may_answer (event.DialFailed sub) s t r answers =
    let e : Event = event.DialFailed sub in
    answer_by e (refusal_of e s) s t r (shut_within e s.shut None (0, omega arith, refl) tt)
    (λ none given. by_reply e _ r given.1 (may_fail sub (numbered s.net.board sub) s)) answers
may_answer (event.Arrived link piece) s t r answers =
    let e : Event = event.Arrived link piece in
    answer_by e (refusal_of e s) s t r (shut_within e s.shut (open_refusal e s) (0, omega arith, refl) (link_within e link s (1, omega arith, refl) (2, omega arith, refl)))
    (λ none given. by_reply e _ r given.1 tt) answers
may_answer (event.LinkLost link) s t r answers =
    let e : Event = event.LinkLost link in
    answer_by e (refusal_of e s) s t r (shut_within e s.shut (open_refusal e s) (0, omega arith, refl) (link_within e link s (1, omega arith, refl) (2, omega arith, refl)))
    (λ none given. by_reply e _ r given.1 tt) answers
may_answer (event.Drain link room) s t r answers =
    let e : Event = event.Drain link room in
    answer_by e (refusal_of e s) s t r
    (shut_within e s.shut (open_refusal e s) (0, omega arith, refl)
    (room_within e room (link_refusal link s) (3, omega arith, refl) (link_within e link s (1, omega arith, refl) (2, omega arith, refl))))
    (λ none given. by_reply e _ r given.reply_is tt) answers
may_answer (event.Ping link word) s t r answers =
    let e : Event = event.Ping link word in
    answer_by e (refusal_of e s) s t r (shut_within e s.shut (open_refusal e s) (0, omega arith, refl) (link_within e link s (1, omega arith, refl) (2, omega arith, refl)))
    (λ none given. by_reply e _ r given.1 tt) answers
may_answer event.Tick s t r answers = by_reply event.Tick reply.Done r answers.1 tt
may_answer event.Shutdown s t r answers = by_reply event.Shutdown reply.Done r answers.1 tt

-- and so of a whole step
pub may_step : (entry moment word : ℕ) (e : Event) (old new : StateSeen) (r : Reply) → Stepped entry moment word e old new r → MayReply e r
may_step entry moment word e old new r stepped = may_answer e (overdue_ended (begun_at entry moment word old)) stepped.answered r stepped.answers
