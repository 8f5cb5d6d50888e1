-- Feeding a row, finishing and taking leave a call's rows, attempts and end.
use Rattle.std.proofs.Common.{ℕ, Bool, true, false, if◌then◌else◌, Option, Some, None, List, refl, ◌∙◌}
use Rattle.grpc_base.specs.declared.event.EndCause.{EndCause}
use Rattle.grpc_base.specs.declared.event.Refusal.{Refusal}
use Rattle.grpc_base.specs.declared.fields.Field.{Field}
use Rattle.call_core.specs.declared.state.CallState.{CallState}
use Rattle.call_core.specs.Going.{IsGoing}
use Rattle.call_core.specs.Leaving.{IsSameCall}
use Rattle.call_core.specs.Parts.{first_of}
use Rattle.call_core.specs.Steps as step
use Rattle.call_core.specs.Steps.{send_refusal, with_rest, without_head}
use Rattle.call_core.proofs.Going.{going_like}

same : (call : CallState) → IsSameCall call call
same call = record { number = refl; begun = refl; chosen = refl; live = refl; attempts = refl; ended = refl }

joined : (a b c : CallState) → IsSameCall a b → IsSameCall b c → IsSameCall a c
joined a b c first second = record {
  number = second.number ∙ first.number;
  begun = second.begun ∙ first.begun;
  chosen = second.chosen ∙ first.chosen;
  live = second.live ∙ first.live;
  attempts = second.attempts ∙ first.attempts;
  ended = second.ended ∙ first.ended;
}

pub fed_leaves : (row len : ℕ) (call : CallState) → IsSameCall call (step.fed_row row len call)
fed_leaves row len call = record { number = refl; begun = refl; chosen = refl; live = refl; attempts = refl; ended = refl }

finished_by : (refusal : Option Refusal) (call : CallState) → IsSameCall call (step.finished_if refusal call)
finished_by None call = record { number = refl; begun = refl; chosen = refl; live = refl; attempts = refl; ended = refl }
finished_by (Some refusal) call = same call

pub finished_leaves : (call : CallState) → IsSameCall call (step.finished call)
finished_leaves call = finished_by (send_refusal call) call

end_leaves : (ended : Option EndCause) (call : CallState) → IsSameCall call (step.taken_end ended call)
end_leaves None call = same call
end_leaves (Some why) call = record { number = refl; begun = refl; chosen = refl; live = refl; attempts = refl; ended = refl }

rest_leaves : (call : CallState) → IsSameCall call (with_rest call)
rest_leaves call = record { number = refl; begun = refl; chosen = refl; live = refl; attempts = refl; ended = refl }

message_leaves : (message : Option (List ℕ)) (call : CallState) → IsSameCall call (step.taken_message message call)
message_leaves None call = joined call (with_rest call) (step.taken_end call.ended (with_rest call)) (rest_leaves call) (end_leaves call.ended (with_rest call))
message_leaves (Some octets) call = rest_leaves call

head_leaves : (call : CallState) → IsSameCall call (without_head call)
head_leaves call = record { number = refl; begun = refl; chosen = refl; live = refl; attempts = refl; ended = refl }

item_leaves : (head : Option (List Field)) (call : CallState) → IsSameCall call (step.taken_item head call)
item_leaves None call =
    joined call (without_head call) (step.taken_message (first_of call.inbox.messages) (without_head call)) (head_leaves call) (message_leaves (first_of call.inbox.messages) (without_head call))
item_leaves (Some meta) call = head_leaves call

taken_by : (b : Bool) (call : CallState) → IsSameCall call (if b then call else step.taken_item call.inbox.head call)
taken_by true call = same call
taken_by false call = item_leaves call.inbox.head call

pub taken_leaves : (call : CallState) → IsSameCall call (step.taken call)
taken_leaves call = taken_by call.inbox.is_end_taken call

pub left_going : (old new : CallState) → IsSameCall old new → IsGoing old → IsGoing new
left_going old new leaves going = going_like old new leaves.live leaves.ended leaves.attempts leaves.chosen going
