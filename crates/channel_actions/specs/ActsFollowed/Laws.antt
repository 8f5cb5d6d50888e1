-- The end of a call is followed by the whole channel as `Followed` says.
-- Example: call 1 is cancelled. Its slot has ended and no timers; its rows are off the links, the queue and the outstanding pairs; all other calls are as before.
use Rattle.std.specs.List.{AllByRecursion}
use Rattle.std.specs.Prelude.{None, Option, Some, [], ℕ, ◌≡◌}
use Rattle.channel_actions.specs.ActsFollowed.Followed.{call_closed, followed_by_end}
use Rattle.call_core.specs.declared.live.LiveRow.{LiveRow}
use Rattle.channel_core.specs.Books.{link_of, slot_at}
use Rattle.channel_core.specs.States.{StateSeen}
use Rattle.channel_core.specs.Steps.{closed}
use Rattle.channel_core.specs.Tables.{numbered}
use Rattle.channel_core.specs.declared.state.slots.CallSlot.{CallSlot}
use Rattle.grpc_base.specs.declared.event.EndCause.{EndCause}

-- the link of a live row is that of its row in the ledger
abbrev pub LinkIs : StateSeen → EndCause → CallSlot → ℕ → Option ℕ → Type 0
LinkIs x why slot place None = Unit {0}
LinkIs x why slot place (Some link) = link_of (numbered (call_closed why x slot).ledger.rows place) ≡ link

abbrev pub IsLinked : StateSeen → EndCause → CallSlot → LiveRow → Type 0
IsLinked x why slot r = LinkIs x why slot r.place r.link

pub record CanEnd (why : EndCause) (number : ℕ) (x : StateSeen) : Type 0 where
  pub slot : CallSlot
  pub there : slot_at x.book number ≡ Some slot
  pub going : slot.call.ended ≡ None
  pub linked : AllByRecursion (IsLinked x why slot) slot.call.live
  pub resets : x.resets ≡ []

abbrev pub EndsAreFollowed : Type 0
EndsAreFollowed =
    (why : EndCause) (number : ℕ) (x : StateSeen) (can : CanEnd why number x)
    → closed why number x ≡ followed_by_end why number x can.slot (closed why number x).book.ledger
