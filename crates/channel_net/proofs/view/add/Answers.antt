use Rattle.std.proofs.Common.{◌≡◌, true, false, length}
use Rattle.channel_net.proofs.ListLaws.{fits, without-repeats, longer}
use Rattle.grpc_base.specs.Addresses.{with_address}
use Rattle.channel_net.proofs.view.add.Goals as goal

pub returns-clause-list : goal.returns-clause-list
returns-clause-list c = fits c.push-fits.result (length c.args.list.now) c.push-fits.ensures.ok c.push-fits.ensures.full c.requires

pub returns-clause-no_repeats : goal.returns-clause-no_repeats
returns-clause-no_repeats c =
    let list : c.push-fits.new.self ≡ with_address c.args.list.now c.args.address =
    fits c.push-fits.result (length c.args.list.now) c.push-fits.ensures.ok c.push-fits.ensures.full c.requires in
    without-repeats c.args.list.now c.push-fits.new.self c.args.address (λ h. (let no : false ≡ true = c.if-has.ensures.contains.1 h in (cc))) list

pub returns-clause-one : goal.returns-clause-one
returns-clause-one c =
    longer c.args.list.now c.push-fits.new.self c.args.address (fits c.push-fits.result (length c.args.list.now) c.push-fits.ensures.ok c.push-fits.ensures.full c.requires)
