use Rattle.std.proofs.Common.{◌≡◌, All, length, take, true}
use Rattle.live_pump.specs.declared.link_turn.OpenLink.{OpenLink}
use Rattle.live_pump.proofs.link_turn.close_links.Given as goal

-- the links up to here are closed
abbrev pub invariant-loop-left : goal.invariant-loop-left
invariant-loop-left g l = record {
  closed : All (λ (k : OpenLink g.row.I.Denot g.row.O.Denot). g.O.LinkOut.closed k.output ≡ true) (take l.left-index l.left-items);
  same_many : length l.left-items ≡ length l.fn.links.items;
}
