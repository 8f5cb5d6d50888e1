use Rattle.std.proofs.Common.{◌≡◌, ◌≤◌, length, arith, rules}
use Rattle.grpc_base.specs.Metadata.{meta_limit, meta_size}
use Rattle.grpc_base.specs.Limits.{path_limit}
use Rattle.grpc_meta.specs.RequestFields.{fields_of_request, greatest_list, list_size}
use Rattle.grpc_meta.proofs.RequestLaws.{list_size-request}
use Rattle.grpc_meta.proofs.request.request_fields.Goals as goal

pub returns-clause-greatest : goal.returns-clause-greatest
returns-clause-greatest c =
    let list : c.push_metadata.new.fields ≡ fields_of_request c.args.request.now c.args.authority.now c.args.left c.args.number = search rules in
    let path : length c.args.request.now.path ≤ path_limit = rw c.path.ensures.path at c.path.ensures.is_path.within in
    let meta : meta_size c.args.request.now.meta ≤ meta_limit = rw c.meta.ensures.meta at c.meta.ensures.kept.within in
    rw list (list_size-request c.args.request.now c.args.authority.now c.args.left c.args.number path meta c.requires.authority.within c.ranges.number.fits)

pub returns-clause-fits : goal.returns-clause-fits
returns-clause-fits c = let most : list_size c.push_metadata.new.fields ≤ greatest_list = returns-clause-greatest c in omega arith
