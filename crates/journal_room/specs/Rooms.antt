-- Room in a journal, which may have 1,048,576 entries and 268,435,456 bytes: each entry was made where there was room for its event.
-- Example: a drain with room 65,536 is made after entries of 268,369,856 bytes, since 64 + 65,536 more fit; after one byte more it is refused, and no entry is made.
use Rattle.std.specs.Prelude.{◌≤◌, List, [], ◌∷◌, ◌++◌, length, min}
use Rattle.std.specs.List.{AllByRecursion}
use Rattle.grpc_base.specs.Posts.{HasNoRoom}
use Rattle.grpc_base.specs.declared.event.Entry.{Entry}
use Rattle.grpc_base.specs.declared.event.Event.{Event}
use Rattle.grpc_base.specs.declared.event.Event.TheVariants as event
use Rattle.grpc_base.specs.declared.event.Reply.{Reply}
use Rattle.grpc_base.specs.declared.event.Reply.TheVariants as reply
use Rattle.channel_core.specs.Sizes.{journal_bytes}

-- a journal of these entries has room for an event
abbrev pub HasRoom : List Entry → Event → Type 0
HasRoom entries e = HasNoRoom (length entries) (journal_bytes entries) e → ⊥

-- each of these entries was made where the journal, which had those before it, had room for its event
abbrev pub HadRoomAfter : List Entry → List Entry → Type 0
HadRoomAfter before [] = Unit {0}
HadRoomAfter before (e ∷ entries) = HasRoom before e.event × HadRoomAfter (before ++ e ∷ []) entries

abbrev pub HadRoom : List Entry → Type 0
HadRoom entries = HadRoomAfter [] entries

-- a drain gives no more bytes than it has room, and at most 1,048,576
abbrev pub FitsBy : Event → Reply → Type 0
FitsBy (event.Drain link room) (reply.Octets octets) = length octets ≤ min room 1048576
FitsBy _ _ = Unit {0}

abbrev pub EntriesAreWithinRoom : List Entry → Type 0
EntriesAreWithinRoom entries = AllByRecursion (λ e. FitsBy e.event e.reply) entries
