-- What is done to other calls leaves what waits for an application.
use Rattle.std.proofs.Common.{◌≡◌, ◌≤◌, ℕ, zero, suc, Bool, true, false, nat_lt, length, if◌then◌else◌, Option, Some, None, List, [], ◌∷◌, ◌++◌, refl, sym, ap, ◌∙◌, arith, slice_get}
use Rattle.std.proofs.lemmas.Bool.{ltb-false}
use Rattle.grpc_base.specs.declared.event.EndCause.{EndCause}
use Rattle.grpc_base.specs.declared.event.EndCause.TheVariants as ends
use Rattle.grpc_base.specs.declared.event.Reply.{Reply}
use Rattle.attempt_ledger.specs.declared.ledger.Ledger.{Ledger}
use Rattle.attempt_ledger.specs.declared.row.Row.{Row}
use Rattle.attempt_ledger.specs.declared.row.RowEnd.{RowEnd}
use Rattle.ledger_stamps.specs.Steps.{index_at}
use Rattle.call_core.specs.Commitments.{EndsByRow, HasOwnEnd, IsCommittedOnce, IsSameIn, KeepsCommitments}
use Rattle.call_core.specs.Laws.{came, end_items, waiting}
use Rattle.call_core.specs.Parts.{end_at, end_of_row, end_reply, row_at, row_end_reply}
use Rattle.call_core.specs.Rows.{row_in}
use Rattle.call_core.specs.Steps.{Stepped}

-- the row at a place
out_of : (rows : List Row) (i : ℕ) → length rows ≤ i → slice_get rows i ≡ None
out_of [] i le = refl
out_of (x ∷ rows) zero le = absurd (let bad : ⊥ = omega (arith, le) in bad)
out_of (x ∷ rows) (suc i) le = out_of rows i (omega (arith, le))

index_by : (rows : List Row) (i : ℕ) (b : Bool) → nat_lt i (length rows) ≡ b → row_at rows (if b then Some i else None) ≡ slice_get rows i
index_by rows i true e = refl
index_by rows i false e = sym (out_of rows i (ltb-false i (length rows) e))

row_is : (rows : List Row) (place : ℕ) → row_at rows (index_at place (length rows)) ≡ row_in rows place
row_is rows zero = refl
row_is rows (suc i) = index_by rows i (nat_lt i (length rows)) refl

own_end : (owner : ℕ) (rows : List Row) (place : ℕ) (has : HasOwnEnd owner rows place) → end_at rows (Some place) ≡ Some has.end
own_end owner rows place has =
    ap (λ (o : Option Row). end_of_row o) (row_is rows place) ∙ ap (λ (o : Option Row). end_of_row o) has.is.there ∙ has.ended

own_now : (owner : ℕ) (rows after : List Row) (place : ℕ) → KeepsCommitments owner rows after → (has : HasOwnEnd owner rows place) → end_at after (Some place) ≡ Some has.end
own_now owner rows after place keeps has =
    let now : IsSameIn owner after place has.row = keeps.there place has.row has.is in
    ap (λ (o : Option Row). end_of_row o) (row_is after place) ∙ ap (λ (o : Option Row). end_of_row o) now.is.there ∙ now.same.ended ∙ has.ended

-- the end that waits
end_by_row : (s : Stepped) (ledger : Ledger) → KeepsCommitments s.call.number s.ledger.rows ledger.rows → EndsByRow s → end_at ledger.rows s.call.attempts.committed ≡ end_at s.ledger.rows s.call.attempts.committed
end_by_row s ledger keeps e =
    ap (λ (o : Option ℕ). end_at ledger.rows o) e.committed ∙ own_now s.call.number s.ledger.rows ledger.rows e.place keeps e.own
    ∙ sym (ap (λ (o : Option ℕ). end_at s.ledger.rows o) e.committed ∙ own_end s.call.number s.ledger.rows e.place e.own)

end_of : (s : Stepped) (ledger : Ledger) (why : EndCause) → s.call.ended ≡ Some why → KeepsCommitments s.call.number s.ledger.rows ledger.rows → IsCommittedOnce s → end_reply ledger.rows s.call.attempts.committed why ≡ end_reply s.ledger.rows s.call.attempts.committed why
end_of s ledger ends.Row e keeps once = ap (λ (o : Option RowEnd). row_end_reply o) (end_by_row s ledger keeps (once.ended e))
end_of s ledger ends.Deadline e keeps once = refl
end_of s ledger ends.Cancelled e keeps once = refl
end_of s ledger ends.Request e keeps once = refl
end_of s ledger ends.Response e keeps once = refl
end_of s ledger ends.NoConfig e keeps once = refl
end_of s ledger ends.Shut e keeps once = refl

items_of : (s : Stepped) (ledger : Ledger) (ended : Option EndCause) → s.call.ended ≡ ended → KeepsCommitments s.call.number s.ledger.rows ledger.rows → IsCommittedOnce s → end_items ended ledger.rows s.call.attempts.committed ≡ end_items ended s.ledger.rows s.call.attempts.committed
items_of s ledger None e keeps once = refl
items_of s ledger (Some why) e keeps once = ap (λ (r : Reply). r ∷ []) (end_of s ledger why e keeps once)

pub waits_elsewhere : (s : Stepped) (ledger : Ledger) → KeepsCommitments s.call.number s.ledger.rows ledger.rows → IsCommittedOnce s → waiting ledger s.call ≡ waiting s.ledger s.call
waits_elsewhere s ledger keeps once =
    ap (λ (items : List Reply). came s.call ++ (if s.call.inbox.is_end_taken then [] else items)) (items_of s ledger s.call.ended refl keeps once)
