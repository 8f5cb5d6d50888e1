-- The path of a load is a path.
use Rattle.std.proofs.Common.{List, ℕ, Err, ◌∙◌, ap, sym, subst}
use Rattle.grpc_base.specs.Requests.{IsPath}
use Rattle.load_plan.proofs.Scripts.{load_path_is}
use Rattle.load_plan.proofs.batch.request.Goals as goal

pub unreachable-requires : goal.unreachable-requires
unreachable-requires c =
    let P : List ℕ → Type 0 = λ path. IsPath path in
    c.new-2.ensures.bad_path.0 (c.in-Err-BadPath.is ∙ ap Err c.in-Err-BadPath.field-0-is) (subst P (sym c.in_ok-load_path.ensures) load_path_is)
