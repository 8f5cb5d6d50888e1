use Rattle.std.proofs.Common.{◌∙◌, rules}
use Rattle.live_channel.specs.Handles.{keeper_in}
use Rattle.live_channel.proofs.GivenLaws.{name_given}
use Rattle.live_channel.proofs.SeatLaws.{few_split, first_clear, splits_empty, started_by}
use Rattle.live_channel.proofs.starting.start_named.Goals as goal

pub returns-clause-started : goal.returns-clause-started
returns-clause-started g c =
    let clear = first_clear _ _ c.requires.seat in
    let splits = c.in_ok-add_nets.ensures.splits _ (c.in_ok-add_name.ensures.splits _ (splits_empty _ _ c.args.seat (search rules))) in
    started_by _ c.args.seat c.add_nets.new.seat _ c.requires.seat.lock_is c.requires.seat.parts clear.0 clear.1 (few_split 5 _ _ _ splits (search rules) (search rules)) splits

pub returns-clause-given : goal.returns-clause-given
returns-clause-given g c =
    let splits = c.in_ok-add_nets.ensures.splits _ (c.in_ok-add_name.ensures.splits _ (splits_empty _ _ c.args.seat (search rules))) in
    name_given (λ j. keeper_in g.N.Dialer.coming j) _ _ c.new-links.result.items c.add_name.new.links.items c.add_nets.new.links.items c.add_nets.new.seat (search rules) c.in_ok-add_name.ensures.keepers c.in_ok-add_nets.ensures.keepers (splits.own ∙ c.requires.seat.own)
