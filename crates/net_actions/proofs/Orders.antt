-- The lists of a net and the live subchannels of their addresses: of any net that came of calls, and after each round of its settling.
use Rattle.std.proofs.Common.{sym, subst}
use Rattle.channel_net.proofs.MoveLaws.{Orderly, moves-clocked-by, moves-connected-by, moves-over}
use Rattle.channel_net.proofs.RunLaws.{of-new}
use Rattle.channel_net.specs.Steps.{NetSeen, first_wished}
use Rattle.net_actions.specs.Runs.{ClocksKeepOrder, IsOrderly, NetsAreOrderly, TakeOversKeepOrder, WishesKeepOrder}
use Rattle.subchannel.specs.Boards.{first_number}
use Rattle.subchannel.specs.Records.{is_due}

pub as_order : (n : NetSeen) → IsOrderly n → Orderly n
as_order n o = record { current = o.current; pending = o.pending; listed = o.listed }

of_order : (n : NetSeen) → Orderly n → IsOrderly n
of_order n o = record { current = o.current; pending = o.pending; listed = o.listed }

pub nets_are_orderly : NetsAreOrderly
nets_are_orderly n is = of_order n (subst Orderly (sym is.is) (of-new is.calls is.policies).orderly)

pub clocks_keep_order : ClocksKeepOrder
clocks_keep_order moment l o =
    of_order _ (moves-clocked-by moment l (first_number (is_due moment) l.net.board) (as_order l.net o)).orderly

pub take_overs_keep_order : TakeOversKeepOrder
take_overs_keep_order l o = of_order _ (moves-over l (as_order l.net o)).orderly

pub wishes_keep_order : WishesKeepOrder
wishes_keep_order n o = of_order _ (moves-connected-by n (first_wished n) (as_order n o)).orderly
