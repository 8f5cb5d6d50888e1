use Rattle.std.proofs.Common.{◌≡◌, drop}
use Rattle.std.specs.List.{position_from}
use Rattle.lb_policy.specs.Table.{is_ready}
use Rattle.lb_kinds.specs.Seen.{plain}
use Rattle.lb_kinds.proofs.scan.place_of_ready.Given as goal

-- none was found before here
abbrev pub invariant-loop-place : goal.invariant-loop-place
invariant-loop-place l =
    position_from (λ s. is_ready s.state) l.place (plain (drop l.place l.subs)) ≡ position_from (λ s. is_ready s.state) 0 (plain l.fn.subs)
