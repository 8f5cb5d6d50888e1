-- An end that counts settles the tokens, once, and no other news does.
use Rattle.std.proofs.Common.{◌≡◌, ◌∙◌, ℕ, Bool, true, false, not, ◌&&◌, if◌then◌else◌, Option, Some, None, is_some, Result, Ok, Err, OnOk, List, refl, sym, ap}
use Rattle.grpc_base.specs.declared.event.EndCause.TheVariants as ends
use Rattle.grpc_base.specs.declared.fields.Field.{Field}
use Rattle.attempt_ledger.specs.declared.news.EndNews.{EndNews}
use Rattle.attempt_ledger.specs.declared.row.RowEnd.{RowEnd}
use Rattle.a6_numbers.specs.Throttling.{Bucket}
use Rattle.call_core.specs.declared.judge.Judged.{Judged}
use Rattle.call_core.specs.declared.live.LiveRow.{LiveRow}
use Rattle.call_core.specs.Laws.{counts_end, settled_by}
use Rattle.call_core.specs.Parts.{committed_buffer, count_of, find_live, is_followed, row_end}
use Rattle.call_core.specs.Steps as step
use Rattle.call_core.specs.Steps.{Stepped, is_committed_live, judged_of, left_live, settled, with_judged}

tokens_if : (b : Bool) (x y : Stepped) (tokens : Option Bucket) → x.tokens ≡ tokens → y.tokens ≡ tokens → (if b then x else y).tokens ≡ tokens
tokens_if true x y tokens first second = first
tokens_if false x y tokens first second = second

tokens_closed_if : (closes : Bool) (place moment : ℕ) (s : Stepped) → (step.closed_if closes place moment s).tokens ≡ s.tokens
tokens_closed_if true place moment s = refl
tokens_closed_if false place moment s = refl

tokens_counted : (row : LiveRow) (reported : EndNews) (moment word : ℕ) (s : Stepped) → (step.counted row reported moment word s).tokens ≡ s.tokens
tokens_counted row reported moment word s =
    let end : RowEnd = row_end reported s.ledger.entry moment (count_of s.tokens) in
    let after : Judged = judged_of row end word s.call s.tokens in
    tokens_if (is_some s.call.attempts.committed) (step.ended_as ends.Row moment (step.row_ended row.place end s)) (step.counted_free row end moment word s) s.tokens refl
    (tokens_closed_if after.closes row.place moment (with_judged row end after s))

tokens_live : (b : Bool) (row : LiveRow) (reported : EndNews) (moment word : ℕ) (s : Stepped) → (if b then step.followed row reported moment (left_live row.place s) else step.counted row reported moment word (settled reported (left_live row.place s))).tokens ≡ (if true && not b then settled_by reported s.call s.tokens else s.tokens)
tokens_live true row reported moment word s = refl
tokens_live false row reported moment word s = tokens_counted row reported moment word (settled reported (left_live row.place s))

tokens_found : (found : Option LiveRow) (reported : EndNews) (moment word : ℕ) (s : Stepped) → (step.ended_if_live found reported moment word s).tokens ≡ (if is_some found && not (is_followed s.call.attempts reported.cause reported.unseen) then settled_by reported s.call s.tokens else s.tokens)
tokens_found None reported moment word s = refl
tokens_found (Some row) reported moment word s = tokens_live (is_followed s.call.attempts reported.cause reported.unseen) row reported moment word s

pub tokens_ended : (row : ℕ) (reported : EndNews) (moment word : ℕ) (s : Stepped) → (step.ended_at row reported moment word s).tokens ≡ (if counts_end row reported s.call then settled_by reported s.call s.tokens else s.tokens)
tokens_ended row reported moment word s = tokens_found (find_live row s.call.live) reported moment word s

-- the tokens are those that an end leaves which no transparent retry follows
pub tokens_settle : {T E : Type 0} (r : Result T E) (found : Option LiveRow) (row : LiveRow) (reported : EndNews) (moment word : ℕ) (s : Stepped) (tokens : Option Bucket) → found ≡ Some row → is_followed s.call.attempts reported.cause reported.unseen ≡ false
    → tokens ≡ (settled reported (left_live row.place s)).tokens → OnOk r (tokens ≡ (step.ended_if_live found reported moment word s).tokens)
tokens_settle (Ok u) found row reported moment word s tokens is counts settles =
    let live : Bool → Stepped = λ b. if b then step.followed row reported moment (left_live row.place s) else step.counted row reported moment word (settled reported (left_live row.place s)) in
    settles ∙ sym (tokens_counted row reported moment word (settled reported (left_live row.place s)))
    ∙ sym (ap (λ b. (live b).tokens) counts) ∙ sym (ap (λ (o : Option LiveRow). (step.ended_if_live o reported moment word s).tokens) is)
tokens_settle (Err e) found row reported moment word s tokens is counts settles = tt

pub tokens_head : (row : ℕ) (meta : List Field) (moment : ℕ) (s : Stepped) → (step.received_head row meta moment s).tokens ≡ s.tokens
tokens_head row meta moment s =
    tokens_if (is_some (find_live row s.call.live)) (step.with_head meta (step.commit_by_head row moment s)) s s.tokens
    (tokens_if (is_some s.call.attempts.committed) s (step.committed row moment (record s { call = record s.call { buffer = committed_buffer row s.call.buffer } })) s.tokens refl refl)
    refl

tokens_end_if : (b : Bool) (moment : ℕ) (s : Stepped) → (step.ended_if b ends.Response moment s).tokens ≡ s.tokens
tokens_end_if true moment s = refl
tokens_end_if false moment s = refl

pub tokens_too_large : (row moment : ℕ) (s : Stepped) → (step.received_too_large row moment s).tokens ≡ s.tokens
tokens_too_large row moment s = tokens_end_if (is_committed_live row s.call) moment s
