-- What a Take came to, given to its stream.
use Rattle.std.proofs.Common.{◌≡◌, ℕ, Option, Result, subst}
use Rattle.std.specs.Prelude.{IfSome, slice_get}
use Rattle.grpc_base.specs.declared.event.Reply.{Reply}
use Rattle.grpc_base.specs.declared.post.PostError.{PostError}
use Rattle.relay_calls.specs.Calls.{Calls}
use Rattle.relay_calls.specs.Posting.{Eyes}
use Rattle.relay_calls.specs.Taking.{TakesAt}
use Rattle.relay_calls.specs.declared.call.RelayCall.{RelayCall}
use Rattle.relay_calls.specs.declared.fault.CallsFault.{CallsFault}
use Rattle.relay_front.specs.Cores.{Core}
use Rattle.relay_front.specs.Turns.{Given, GivesAt}

pub gives_at : {P : Type 0} (eyes : Eyes P) (place : ℕ) (c after_core : Core) (next : Calls) (before after : P) (stream : ℕ) (came : Result (Option Reply) PostError) (result : Result Unit CallsFault)
    → IfSome (slice_get c.calls.calls place) (λ (k : RelayCall). stream ≡ k.stream) → TakesAt eyes place c.calls before next after came → Given (record c { calls = next }) stream came after_core result
    → GivesAt eyes place c before after_core after result
gives_at eyes place c after_core next before after stream came result numbered takes given =
    let same : stream ≡ takes.0.stream = subst (λ (o : Option RelayCall). IfSome o (λ (k : RelayCall). stream ≡ k.stream)) takes.2 numbered in
    (takes.0, next, came, takes.2, takes, subst (λ (s : ℕ). Given (record c { calls = next }) s came after_core result) same given)
