use Rattle.std.proofs.Common.{arith, ◌≡◌, ◌+◌, ◌∙◌, ap, sym, take}
use Rattle.grpc_base.specs.Scripts.{count_of}
use Rattle.grpc_base.proofs.ScriptLaws.{numbered_at}
use Rattle.grpc_base.proofs.script.are_numbered.Goals as goal

-- an answer with another number breaks the rule
pub returns-then-answer-before : goal.returns-then-answer-before
returns-then-answer-before c = (
  (λ t. absurd (cc)),
  (λ numbered. (
      let e : c.index-answers-place.result.n ≡ count_of c.index-answers-place.result.path (take c.loop-place.place c.args.answers.now) + 1 =
      numbered_at c.args.answers.now c.loop-place.place c.index-answers-place.result (omega arith) c.index-answers-place.is numbered in
      let counted : c.count_of-before.result ≡ count_of c.index-answers-place.result.path (take c.loop-place.place c.args.answers.now) = rw c.as_slice.ensures at c.count_of-before.ensures in
      absurd (c.if-answer-before.true (e ∙ ap (λ n. n + 1) (sym counted)))
      )),
)
