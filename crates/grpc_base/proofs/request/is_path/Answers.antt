use Rattle.grpc_base.proofs.PathLaws.{path_reported}
use Rattle.grpc_base.proofs.request.is_path.Goals as goal

pub returns-clause-path : goal.returns-clause-path
returns-clause-path c = path_reported _ _ c.args.path.now _ c.is_some.ensures c.names_of_path.ensures
