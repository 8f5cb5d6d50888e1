-- What is asked of a call where something is done to it.
use Rattle.std.proofs.Common.{◌≡◌, ◌⊎◌, inl, inr, ap, sym, ◌∙◌, true, false, None, Some, ℕ, suc}
use Rattle.attempt_ledger.specs.Numbering.{is_transparent}
use Rattle.attempt_ledger.specs.declared.row.RowKind.{RowKind}
use Rattle.session_actions.specs.Words.{numbered}
use Rattle.session_actions.specs.declared.call.Call.{Call}
use Rattle.session_actions.specs.declared.seen.Seen.{Seen}
use Rattle.session_order.proofs.SessionLaws.Found.{none_of, same_of}
use Rattle.session_order.proofs.SessionLaws.Lines.{IsDueBy, IsRetried, IsTakeable, next_asks}
use Rattle.session_order.specs.SessionLaws.Calls.{OpenCallsAttempt, OpenChannelsBegin, TakesAreNext}
use Rattle.session_order.proofs.Places.{sessions_are_in_place}
use Rattle.session_order.specs.Order.{IsInPlace}
use Rattle.session_actions.specs.declared.action.Action.TheVariants as action

open_by : (s : Seen) (call number due : ℕ) (sort : RowKind) → IsInPlace s → IsRetried call number sort s ⊎ IsDueBy call number sort due s
    → is_transparent sort ≡ false → (c : Call) → numbered s.calls call ≡ Some c → c.end ≡ None
open_by s call number due sort place (inl r) further c here = (let again : is_transparent sort ≡ true = ap is_transparent r.kind in absurd (cc))
open_by s call number due sort place (inr d) further c here =
    let at : d.here.number ≡ suc d.index = place.calls (suc d.index) d.here d.there in
    let there : numbered s.calls call ≡ Some d.here = ap (numbered s.calls) (sym d.is ∙ at) ∙ d.there in
    let one : d.here ≡ c = same_of (numbered s.calls call) d.here c there here in
    ap (λ (x : Call). x.end) (sym one) ∙ none_of d.here.end d.goes

pub open_calls_attempt : OpenCallsAttempt
open_calls_attempt setup actions s does call number due sort next further c here =
    open_by s call number due sort (sessions_are_in_place setup actions s does) (next_asks s (action.AttemptMade call number sort due) next) further c here

pub open_channels_begin : OpenChannelsBegin
open_channels_begin s next = next_asks s action.CallBegins next

pub takes_are_next : TakesAreNext
takes_are_next s call item next =
    let t : IsTakeable call item s = next_asks s (action.ItemTaken call item) next in (t.here, t.there, t.next, t.more)
