-- What holds of a call whatever was done to it: a call that ended has no row left and makes none. Of a call that is committed every
-- row that is left is the committed one; and before the configuration there is no row.
use Rattle.std.specs.Prelude.{◌≡◌, ◌≤◌, ◌<◌, ℕ, ◌+◌, Bool, true, false, not, ◌&&◌, ◌||◌, nat_le, if◌then◌else◌, Option, Some, None, is_some, List, [], ◌∷◌, ◌++◌, length, map}
use Rattle.std.specs.Option.{is_none}
use Rattle.grpc_base.specs.declared.event.EndCause.{EndCause}
use Rattle.grpc_base.specs.declared.event.Reply.{Reply}
use Rattle.grpc_base.specs.declared.event.Reply.TheVariants as reply
use Rattle.grpc_base.specs.declared.fields.Field.{Field}
use Rattle.grpc_base.specs.Codes.{has_code}
use Rattle.grpc_base.specs.declared.plan.HedgePolicy.{HedgePolicy}
use Rattle.grpc_base.specs.declared.plan.RetryPolicy.{RetryPolicy}
use Rattle.attempt_ledger.specs.Ends.{delay_of}
use Rattle.attempt_ledger.specs.declared.ledger.Ledger.{Ledger}
use Rattle.attempt_ledger.specs.declared.news.EndNews.{EndNews}
use Rattle.attempt_ledger.specs.declared.row.Row.{Row}
use Rattle.attempt_ledger.specs.declared.row.RowEnd.{RowEnd}
use Rattle.a6_numbers.specs.Throttling.{Bucket}
use Rattle.hedge_core.specs.DueMoments.{forced_by, stops}
use Rattle.retry_core.specs.Retries.{is_licensed, retry_due}
use Rattle.call_core.specs.declared.act.CallAct.TheVariants as act
use Rattle.call_core.specs.declared.attempts.Attempts.{Attempts}
use Rattle.call_core.specs.declared.judge.Judged.{Judged}
use Rattle.call_core.specs.declared.live.LiveRow.{LiveRow}
use Rattle.call_core.specs.declared.state.CallState.{CallState}
use Rattle.call_core.specs.Parts.{delayed_after, end_reply, find_live, is_above, is_followed, is_in_set, is_tested, settled_tokens}
use Rattle.call_core.specs.Steps.{Stepped, call_plan, next_due}

-- every row is the one at this place
abbrev pub AllAt : ℕ → List LiveRow → Type 0
AllAt place [] = Unit {0}
AllAt place (row ∷ live) = (row.place ≡ place) × AllAt place live

-- no row is queued or outstanding, and no further one is due
pub record IsOver (call : CallState) : Type 0 where
  pub live : call.live ≡ []
  pub stopped : call.attempts.stopped ≡ true

pub record IsCommittedTo (call : CallState) (place : ℕ) : Type 0 where
  pub live : AllAt place call.live
  pub stopped : call.attempts.stopped ≡ true

pub record IsKept (call : CallState) : Type 0 where
  pub ended : is_some call.ended ≡ true → IsOver call
  pub committed : (place : ℕ) → call.attempts.committed ≡ Some place → IsCommittedTo call place
  pub unconfigured : call.chosen ≡ None → IsOver call
  pub free : call.chosen ≡ None → call.attempts.committed ≡ None

-- the items that came for the application and wait, the end after them once the call ended
abbrev pub head_items : Option (List Field) → List Reply
head_items None = []
head_items (Some meta) = reply.Head meta ∷ []

abbrev pub message_items : List (List ℕ) → List Reply
message_items messages = map (λ octets. reply.Message octets) messages

abbrev pub came : CallState → List Reply
came call = head_items call.inbox.head ++ message_items call.inbox.messages

abbrev pub end_items : Option EndCause → List Row → Option ℕ → List Reply
end_items None rows committed = []
end_items (Some why) rows committed = end_reply rows committed why ∷ []

abbrev pub waiting : Ledger → CallState → List Reply
waiting ledger call =
    came call ++ (if call.inbox.is_end_taken then [] else end_items call.ended ledger.rows call.attempts.committed)

-- no attempt is due by this moment
abbrev pub NotDue : ℕ → CallState → Type 0
NotDue moment call = (due : ℕ) → next_due call ≡ Some due → moment < due

-- an attempt was due, and the tokens forbade it: none is due any more
pub record IsForbidden (moment : ℕ) (s t : Stepped) : Type 0 where
  pub due : ℕ
  pub is_due : next_due s.call ≡ Some due
  pub passed : due ≤ moment
  pub is_tested : is_tested (call_plan s.call) s.call.attempts ≡ true
  pub tokens : is_above s.tokens ≡ false
  pub stopped : t.call.attempts.stopped ≡ true

-- an attempt was due, and was made: its row stands after all others and joins the queue
pub record IsMade (moment : ℕ) (s t : Stepped) : Type 0 where
  pub row : Row
  pub rows : t.ledger.rows ≡ s.ledger.rows ++ row ∷ []
  pub call : row.call ≡ s.call.number
  pub is_due : next_due s.call ≡ Some row.due
  pub passed : row.due ≤ moment
  pub allowed : is_tested (call_plan s.call) s.call.attempts ≡ true → is_above s.tokens ≡ true
  pub acts : t.acts ≡ s.acts ++ act.Queue (length s.ledger.rows + 1) ∷ []

-- what the end of an attempt of a call with retries means, in a call that isn't committed. Where the policy licenses a retry it is
-- due at its moment, and a random word is used unless the server asks for a delay. Where it doesn't, the call is committed to the
-- attempt and ends (gRFC A6, "Retry Policy")
abbrev pub licensed_retry : RetryPolicy → Attempts → ℕ → ℕ → RowEnd → Bool → ℕ → Judged
licensed_retry policy a number since end above word = record {
  attempts = record a {
    forced = (if is_licensed policy number end above then Some (retry_due policy since end word) else None);
    delayed = delayed_after end.pushback number a.delayed;
  };
  word = (if is_licensed policy number end above && is_none (delay_of end.pushback) then Some word else None);
  closes = not (is_licensed policy number end above);
}

-- what the end of an attempt of a hedged call means, in a call that isn't committed: a code of the policy forces the next attempt, at
-- once or after the delay that the server asks for. Hedging stops where the policy says so; the call is committed to the attempt and
-- ends where the code is none of the policy's, or where no row is left and none is due (gRFC A6, "Hedging Policy")
abbrev pub hedged_end : HedgePolicy → Attempts → Bool → RowEnd → Bool → Judged
hedged_end policy a is_alone end above = record {
  attempts = record a {
    forced = (if has_code policy.codes end.code then Some (forced_by end) else a.forced);
    stopped = a.stopped || stops policy end above;
  };
  word = None;
  closes = not (has_code policy.codes end.code) || (is_alone && (a.stopped || stops policy end above || nat_le policy.max a.sent));
}

-- what a call holds, where a framed message of so many bytes finds no room: a committed call takes messages until it holds 65,536
-- bytes. An uncommitted one takes what makes at most 262,144 bytes, and more where the call can be committed to an outstanding row
abbrev pub full_of : Bool → Bool → ℕ → ℕ → Option ℕ
full_of true has_outstanding held framed = if nat_le 65536 held then Some held else None
full_of false true held framed = None
full_of false false held framed = if nat_le (held + framed) 262144 then None else Some held

-- once a transparent retry followed a refusal by the server, it stays so (gRFC A6, "Transparent Retries")
abbrev pub KeepsRefusal : Stepped → Stepped → Type 0
KeepsRefusal s t = s.call.attempts.is_refusal_followed ≡ true → t.call.attempts.is_refusal_followed ≡ true

-- an end counts: its row is live, and no transparent retry follows
abbrev pub counts_end : ℕ → EndNews → CallState → Bool
counts_end row reported call = is_some (find_live row call.live) && not (is_followed call.attempts reported.cause reported.unseen)

-- what it does to the tokens (gRFC A6, "Throttling Retry Attempts and Hedged RPCs")
abbrev pub settled_by : EndNews → CallState → Option Bucket → Option Bucket
settled_by reported call tokens = settled_tokens reported.code reported.pushback (is_in_set (call_plan call) reported.code) tokens
