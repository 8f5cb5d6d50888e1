use Rattle.std.proofs.Common.{◌≡◌, ◌+◌, ◌<◌, ℕ, take, slice_index_or}
use Rattle.grpc_base.specs.declared.script.AnswerLine.{AnswerLine}
use Rattle.grpc_base.specs.Scripts.{count_of}
use Rattle.grpc_base.proofs.script.are_numbered.Given as goal

-- the answers so far are numbered
abbrev pub invariant-loop-place : goal.invariant-loop-place
invariant-loop-place l =
    (i : ℕ) (d : AnswerLine) → i < l.place → (slice_index_or l.answers i d).n ≡ count_of (slice_index_or l.answers i d).path (take i l.answers) + 1
