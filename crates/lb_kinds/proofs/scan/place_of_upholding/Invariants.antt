use Rattle.std.proofs.Common.{◌≡◌, ◌||◌, not, drop}
use Rattle.std.specs.List.{position_from}
use Rattle.lb_policy.specs.Table.{is_ready}
use Rattle.lb_kinds.proofs.scan.place_of_upholding.Given as goal

-- none was found before here
abbrev pub invariant-loop-place : goal.invariant-loop-place
invariant-loop-place l =
    position_from (λ m. is_ready m.seen.state || not m.failed) l.place (drop l.place l.subs) ≡ position_from (λ m. is_ready m.seen.state || not m.failed) 0 l.fn.subs
