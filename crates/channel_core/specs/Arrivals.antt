-- Nobody has to believe these steps: what comes on links, and what applications and dialers post, one definition for each function.
use Rattle.std.specs.Prelude.{ℕ, zero, suc, ◌+◌, ◌-◌, Bool, true, false, nat_lt, min, if◌then◌else◌, Option, Some, None, List, [], ◌∷◌, ◌++◌, length}
use Rattle.grpc_base.specs.Limits.{message_limit}
use Rattle.grpc_base.specs.Requests.{RequestSeen}
use Rattle.grpc_base.specs.declared.code.Code.TheVariants as code
use Rattle.grpc_base.specs.declared.event.EndCause.TheVariants as ends
use Rattle.grpc_base.specs.declared.event.Refusal.{Refusal}
use Rattle.grpc_base.specs.declared.event.Reply.{Reply}
use Rattle.grpc_base.specs.declared.event.Reply.TheVariants as reply
use Rattle.attempt_ledger.specs.declared.news.EndNews.{EndNews}
use Rattle.attempt_ledger.specs.declared.news.News.{News}
use Rattle.attempt_ledger.specs.declared.news.News.TheVariants as news
use Rattle.subchannel.specs.Boards.{numbered}
use Rattle.channel_net.specs.declared.replies.Dialing.{Dialing}
use Rattle.channel_net.specs.Steps as net
use Rattle.ledger_stamps.specs.Steps.{changed_at, new_link, read_link}
use Rattle.call_core.specs.Steps as call
use Rattle.channel_core.specs.Books.{book_finished, book_taken, has_ended, row_at, slot_at}
use Rattle.channel_core.specs.Draining.{DrainLeaves, pinged}
use Rattle.channel_core.specs.States.{Answered, StateSeen}
use Rattle.channel_core.specs.Steps.{begun, marked_dead, call_asked, dial_taken, ends_kept, prefaced, left_after, loss_of, next_on, next_word, retired, sealed, sealed_one, stamped_gone, reported, unresolved, with_ledger_links}
use Rattle.channel_core.specs.Tables.{Received, cancel_reply_of, finish_reply_of, fresh_link, received_in, new_slot, send_reply_of, take_reply_of}

-- an attempt on a link ended, unless it was cut meanwhile
abbrev pub ended_on : ℕ → ℕ → EndNews → StateSeen → StateSeen
ended_on link row end s =
    if has_ended (row_at s.book row) then s
    else stamped_gone link (reported row (news.Ended row end) (left_after link row s))

-- the ends of one frame, by the rows' places
abbrev pub all_ended_on : ℕ → List (ℕ × EndNews) → StateSeen → StateSeen
all_ended_on link [] s = s
all_ended_on link (e ∷ ends) s = all_ended_on link ends (ended_on link e.0 e.1 s)

-- a link is lost or broken, and with it each attempt on it
abbrev pub sealed_if : Bool → StateSeen → StateSeen
sealed_if each s = if each then sealed s else s

abbrev pub lost_row : ℕ → Bool → ℕ → StateSeen → StateSeen
lost_row link each row s = sealed_if each (ended_on link row (loss_of link row s) s)

-- the rows after one, in their order
abbrev pub rows_lost_on : (ℕ → StateSeen → StateSeen) → ℕ → Bool → Option ℕ → StateSeen → StateSeen
rows_lost_on further link each None s = s
rows_lost_on further link each (Some row) s = further row (lost_row link each row s)

abbrev pub rows_lost : ℕ → ℕ → Bool → ℕ → StateSeen → StateSeen
rows_lost zero link each row s = s
rows_lost (suc most) link each row s = rows_lost_on (rows_lost most link each) link each (next_on link row s) s

-- there are fewer rows than this
unfoldable pub most_rows : ℕ
most_rows = 18446744073709551615

abbrev pub lost : ℕ → Bool → StateSeen → StateSeen
lost link each s = stamped_gone link (rows_lost most_rows link each 0 (marked_dead link s))

-- the news of one frame
abbrev pub received_one : ℕ → News → StateSeen → StateSeen
received_one link news.Ready s = prefaced link s
received_one link news.Retiring s = retired link s
received_one link (news.Broken why) s = lost link false s
received_one link (news.Ended tag end) s = s
received_one link (news.Head tag meta seen) s = reported tag (news.Head tag meta seen) s
received_one link (news.Message tag octets seen) s = reported tag (news.Message tag octets seen) s
received_one link (news.TooLarge tag seen) s = reported tag (news.TooLarge tag seen) s

abbrev pub received_all : ℕ → List News → StateSeen → StateSeen
received_all link [] s = s
received_all link (n ∷ ns) s = received_all link ns (received_one link n s)

abbrev pub handled : ℕ → List News → StateSeen → StateSeen
handled link ns s = sealed (sealed_one link (all_ended_on link (ends_kept ns []) (received_all link ns s)))

-- a frame is read: the ledger says so before its news are handled
abbrev pub read_to : ℕ → ℕ → StateSeen → StateSeen
read_to link read s = with_ledger_links (changed_at (read_link read) s.book.ledger.links link) s

abbrev pub frame_received : ℕ → Received → StateSeen → StateSeen
frame_received link h s = handled link h.news (read_to link h.read (record s { links = h.links }))

abbrev pub frame_received_if : ℕ → Option Received → StateSeen → StateSeen
frame_received_if link None s = s
frame_received_if link (Some h) s = frame_received link h s

-- the frames of a piece after so many of its bytes, one by one, until the link is dead; each takes at least one byte
abbrev pub frames_from : (ℕ → StateSeen → StateSeen) → ℕ → Option Received → StateSeen → StateSeen
frames_from further link None s = s
frames_from further link (Some h) s = further (h.taken - 1) (frame_received link h s)

abbrev pub frames_after : ℕ → List ℕ → ℕ → StateSeen → StateSeen
frames_after link [] skip s = s
frames_after link (b ∷ piece) zero s = frames_from (frames_after link piece) link (received_in link (b ∷ piece) s.links) s
frames_after link (b ∷ piece) (suc skip) s = frames_after link piece skip s

abbrev pub piece_arrived : ℕ → List ℕ → StateSeen → StateSeen
piece_arrived link piece s = frames_after link piece 0 s

-- an event that is done
abbrev pub done : StateSeen → Answered
done s = record { state = s; reply = reply.Done }

-- an event that a part of the channel refuses
abbrev pub refused_for : Refusal → StateSeen → Answered
refused_for why s = record { state = s; reply = reply.Refused why }

abbrev pub arrived : ℕ → List ℕ → StateSeen → Answered
arrived link piece s = done (piece_arrived link piece s)

abbrev pub link_lost : ℕ → StateSeen → Answered
link_lost link s = done (lost link true s)

-- a dial is a link
abbrev pub next_link : StateSeen → ℕ
next_link s = min (length s.links + 1) 4294967295

abbrev pub joined : ℕ → StateSeen → StateSeen
joined sub s = with_ledger_links (s.book.ledger.links ++ new_link sub s.book.ledger.entry ∷ []) (record s { links = s.links ++ new_slot fresh_link ∷ [] })

abbrev pub linked_as : ℕ → ℕ → StateSeen → StateSeen
linked_as link sub s = joined sub (record s { net = net.net_up sub link s.net })

abbrev pub linked_for : Option Refusal → ℕ → StateSeen → Answered
linked_for None sub s = record { state = linked_as (next_link s) sub s; reply = reply.Link (next_link s) }
linked_for (Some why) sub s = refused_for why s

abbrev pub linked_up : ℕ → StateSeen → Answered
linked_up sub s = linked_for (net.dial_refusal (numbered s.net.board sub)) sub s

-- a dial failed
abbrev pub undialed : ℕ → StateSeen → StateSeen
undialed sub s = record s { net = net.net_dial_failed sub s.net; resolver = true }

abbrev pub dial_failed_for : Option Refusal → ℕ → StateSeen → Answered
dial_failed_for None sub s = done (undialed sub s)
dial_failed_for (Some why) sub s = refused_for why s

abbrev pub dial_failed_by : ℕ → StateSeen → Answered
dial_failed_by sub s = dial_failed_for (net.dial_refusal (numbered s.net.board sub)) sub s

-- a dial is asked for
abbrev pub dial_reply : Option Dialing → Reply
dial_reply None = reply.NotYet
dial_reply (Some d) = reply.Dial d.sub d.address d.until

abbrev pub dial_asked : StateSeen → Answered
dial_asked s = record { state = dial_taken s; reply = dial_reply (net.dial_answer s.book.moment (next_word s) s.net) }

-- the resolver failed
abbrev pub resolve_failed : StateSeen → Answered
resolve_failed s = done (unresolved s)

-- what applications ask
abbrev pub begun_by : RequestSeen → StateSeen → Answered
begun_by request s = record { state = begun request s; reply = reply.Call (length s.book.ledger.calls + 1) }

abbrev pub sent_to : ℕ → List ℕ → StateSeen → Answered
sent_to number message s = record {
  state = sealed (call_asked (call.sent message s.book.moment) number s);
  reply = send_reply_of message (slot_at s.book number);
}

abbrev pub cancelled : ℕ → StateSeen → Answered
cancelled number s = record {
  state = sealed (call_asked (call.cancelled s.book.moment) number s);
  reply = cancel_reply_of (slot_at s.book number);
}

abbrev pub finished_by : ℕ → StateSeen → Answered
finished_by number s = record { state = record s { book = book_finished number s.book }; reply = finish_reply_of (slot_at s.book number) }

-- a longer message than may be never comes; it would be the end that such a message brings
abbrev pub too_long_end : Reply
too_long_end = reply.End code.ResourceExhausted [] [] ends.Response

abbrev pub within_limit : Reply → Reply
within_limit (reply.Message octets) = if nat_lt message_limit (length octets) then too_long_end else reply.Message octets
within_limit r = r

abbrev pub taken_by : ℕ → StateSeen → Answered
taken_by number s = record {
  state = record s { book = book_taken number s.book };
  reply = within_limit (take_reply_of s.book.ledger (slot_at s.book number));
}

-- a ping
abbrev pub ping_sent : ℕ → ℕ → StateSeen → Answered
ping_sent link word s = done (pinged link word s)

-- what a drain leaves and gives is a relation, since what a link sends is one
abbrev pub IsDrained : ℕ → ℕ → StateSeen → Answered → Type 0
IsDrained link room s a = DrainLeaves link room s a.reply a.state
