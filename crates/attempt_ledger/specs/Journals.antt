-- What a journal shows of one link and of one call. Entries, calls, links and streams are numbered from 1.
use Rattle.std.specs.Prelude.{ℕ, Bool, false, Option, Some, None, List, [], ◌∷◌, ◌==◌, nat_le, if◌then◌else◌, flat_map}
use Rattle.std.specs.List.{list_any}
use Rattle.std.specs.Option.{option_map_or}
use Rattle.grpc_base.specs.declared.event.Entry.{Entry}
use Rattle.grpc_base.specs.declared.event.Event.{Event}
use Rattle.grpc_base.specs.declared.event.Event.TheVariants as event
use Rattle.grpc_base.specs.declared.event.Reply.{Reply}
use Rattle.grpc_base.specs.declared.event.Reply.TheVariants as reply
use Rattle.grpc_base.specs.declared.event.Stamped.{Stamped}
use Rattle.grpc_base.specs.Requests.{RequestSeen}

-- the event of an entry, with the step's moment and its random word
abbrev pub stamped_of : Entry → Stamped
stamped_of e = record { moment = e.moment; word = e.word; event = e.event }

-- an item that a take gave: the head, a message or the end
abbrev pub items_in : Reply → List Reply
items_in (reply.Head meta) = reply.Head meta ∷ []
items_in (reply.Message octets) = reply.Message octets ∷ []
items_in (reply.End code text meta cause) = reply.End code text meta cause ∷ []
items_in _ = []

-- what the application took of a call, in order
abbrev pub taken_by : ℕ → Event → Reply → List Reply
taken_by call (event.Take c) r = if c == call then items_in r else []
taken_by call _ _ = []

abbrev pub taken : ℕ → List Entry → List Reply
taken call entries = flat_map (λ e. taken_by call e.event e.reply) entries
