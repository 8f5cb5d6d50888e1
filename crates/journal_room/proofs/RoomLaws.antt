-- One entry more, where there was room for it.
use Rattle.std.proofs.Common.{◌≡◌, ◌↔◌, ℕ, Result, Ok, Err, List, [], ◌∷◌, ◌++◌, append-nil, append_assoc, arith, false, inl, inr, length, refl, subst, sym, ◌∙◌}
use Rattle.grpc_base.specs.Posts.{HasNoRoom}
use Rattle.grpc_base.specs.declared.event.Entry.{Entry}
use Rattle.grpc_base.specs.declared.event.Event.{Event}
use Rattle.grpc_base.specs.declared.event.Reply.{Reply}
use Rattle.channel_core.specs.Core.{CoreSeen, IsFull}
use Rattle.channel_core.specs.Sizes.{counted, journal_bytes}
use Rattle.channel_core.specs.declared.channel.CoreError.{CoreError}
use Rattle.channel_core.specs.declared.channel.CoreError.TheVariants as failed
use Rattle.journal_room.specs.Rooms.{HadRoom, HadRoomAfter, HasRoom}

pub after_more : (before entries : List Entry) (e : Entry) → HadRoomAfter before entries → HasRoom (before ++ entries) e.event → HadRoomAfter before (entries ++ e ∷ [])
after_more before [] e had room = (subst (λ (es : List Entry). HasRoom es e.event) (append-nil before) room, tt)
after_more before (x ∷ entries) e had room = (
  had.0,
  after_more (before ++ x ∷ []) entries e had.1 (subst (λ (es : List Entry). HasRoom es e.event) (sym (append_assoc before (x ∷ []) entries)) room),
)

pub room_more : (entries : List Entry) (e : Entry) → HadRoom entries → HasRoom entries e.event → HadRoom (entries ++ e ∷ [])
room_more entries e had room = after_more [] entries e had room

-- a step that was made had room, by what a step of a channel reports of a full journal
pub step_room : (core : CoreSeen) (e : Event) (result : Result Reply CoreError) (reply : Reply) → result ≡ Ok reply → core.spent ≡ false
    → ((entries bytes : ℕ) → (result ≡ Err (failed.SessionFull entries bytes)) ↔ IsFull core e entries bytes) → HasRoom core.journal.entries e
step_room core e result reply done unspent reported lacks =
    let entries : ℕ = length core.journal.entries in
    let full : IsFull core e entries (counted (journal_bytes core.journal.entries)) = (unspent, at_most lacks, refl, refl) in
    not_both (sym done ∙ (reported entries (counted (journal_bytes core.journal.entries))).1 full)
  where
    at_most : HasNoRoom (length core.journal.entries) (journal_bytes core.journal.entries) e → HasNoRoom (length core.journal.entries) (counted (journal_bytes core.journal.entries)) e
    at_most (inl many) = inl many
    at_most (inr much) = inr (omega (arith, much))

    not_both : {f : CoreError} → ◌≡◌ {A = Result Reply CoreError} (Ok reply) (Err f) → ⊥
    not_both same = (cc)
