use Rattle.std.proofs.Common.{◌≤◌, sym, length, arith}
use Rattle.subchannel.specs.Boards.{kept_or_shut}
use Rattle.subchannel.proofs.NumberLaws.{set-changed, changed-past}
use Rattle.subchannel.proofs.keep.shut_place.Goals as goal

pub returns-then-place-len : goal.returns-then-place-len
returns-then-place-len c =
    set-changed (kept_or_shut c.args.current.now c.args.pending.now) c.args.subs.now.items c.args.place c.index_mut-sub.result.now _ (omega arith) c.index_mut-sub.ensures.value c.shut_if_unwanted.ensures

pub returns-else-place-len : goal.returns-else-place-len
returns-else-place-len c =
    let past : length c.args.subs.now.items ≤ c.args.place = omega arith in
    sym (changed-past (kept_or_shut c.args.current.now c.args.pending.now) c.args.subs.now.items c.args.place past)
