-- What goes out of a connection.
use Rattle.std.proofs.Common.{◌≡◌, ℕ, Bool, true, false, Option, Some, None, Result, Err, List, inl, inr, refl, sym, ap, subst, ◌∙◌}
use Rattle.live_pump.specs.Pumps.{HandleSeen, OutSeen}
use Rattle.std.specs.Prelude.{◌↔◌}
use Rattle.relay_connection.specs.declared.fault.RelayFault.{RelayFault}
use Rattle.relay_connection.specs.declared.fault.RelayFault.TheVariants as refused
use Rattle.relay_connection.specs.Draining.{Drains}
use Rattle.relay_front.specs.Cores.{Core}
use Rattle.relay_front.specs.Rounds.{GoesOn, GoesOut, ReportsEnd, Writes, end_of}
use Rattle.relay_front.specs.declared.links.LinkEnd.{LinkEnd}
use Rattle.relay_front.specs.Turns.{ReportsTurn, is_going}
use Rattle.relay_front.specs.declared.turned.RelayTurn.{RelayTurn}
use Rattle.relay_front.specs.declared.turned.RelayTurn.TheVariants as turn

-- a drain, and what becomes of it
pub drains_out : {O : Type 0} (sees : O → OutSeen) (c d : Core) (out out_after : O) (octets slice : List ℕ) (e : Option LinkEnd) → Drains 65536 c.relay (record { relay = d.relay; octets = octets }) → d.calls ≡ c.calls → slice ≡ octets
    → Writes sees slice out out_after e → GoesOut sees c out d out_after e
drains_out sees c d out out_after octets slice e drains calls same writes =
    inl (record { octets = octets; drains = drains; calls = calls; writes = subst (λ (l : List ℕ). Writes sees l out out_after e) same writes })

-- a connection that is broken
pub drains_nothing : {O T : Type 0} (sees : O → OutSeen) (r : Result T RelayFault) (code : ℕ) (c d : Core) (out : O) → r ≡ Err (refused.Broken code)
    → ((n : ℕ) → (r ≡ Err (refused.Broken n)) ↔ (c.relay.link.wire.broken ≡ Some n)) → ((n : ℕ) → r ≡ Err (refused.Broken n) → d ≡ c) → GoesOut sees c out d out None
drains_nothing sees r code c d out is breaks same = inr (inl (record { code = code; broken = (breaks code).0 is; core = same code is; output = refl; going = refl }))

-- a turn that goes on, and one that ends the rounds
pub goes_on : {O : Type 0} (sees : O → OutSeen) (going : Bool) (turned d : Core) (answer : RelayTurn) (out out_after : O) (e : Option LinkEnd) → going ≡ true → GoesOut sees turned out d out_after e → GoesOn sees going turned answer out d out_after e
goes_on sees going turned d answer out out_after e is goes = subst (λ (b : Bool). GoesOn sees b turned answer out d out_after e) (sym is) goes

pub goes_no_more : {O : Type 0} (sees : O → OutSeen) (going : Bool) (turned : Core) (answer : RelayTurn) (out : O) (e : LinkEnd) → going ≡ false → e ≡ end_of answer → GoesOn sees going turned answer out turned out (Some e)
goes_no_more sees going turned answer out e is ends =
    subst (λ (b : Bool). GoesOn sees b turned answer out turned out (Some e)) (sym is) (refl, refl, ap (λ (x : LinkEnd). Some x) ends)

-- what the end of the rounds says of posts, by the turn that ended them
pub ended_reports : (before after : HandleSeen) (t : RelayTurn) → ReportsTurn before after t → ReportsEnd before after (Some (end_of t))
ended_reports before after turn.Going h = h
ended_reports before after (turn.Broken code) h = h
ended_reports before after (turn.Gone r) h = h
ended_reports before after (turn.Failed error) h = h
ended_reports before after turn.NoMemory h = h

-- an output that was closed took nothing more
pub out_same : (a b : OutSeen) → a.taken ≡ b.taken → a.faults ≡ b.faults → a ≡ b
out_same a b taken faults =
    ap (λ (x : Option (List ℕ)). let o : OutSeen = record { taken = x; faults = a.faults } in o) taken ∙ ap (λ (n : ℕ). let o : OutSeen = record { taken = b.taken; faults = n } in o) faults

pub ended_as : (before after : HandleSeen) (t : RelayTurn) (e : LinkEnd) → e ≡ end_of t → ReportsTurn before after t → ReportsEnd before after (Some e)
ended_as before after t e is h = subst (λ (x : LinkEnd). ReportsEnd before after (Some x)) (sym is) (ended_reports before after t h)

-- after a turn that goes on no post failed
pub going_reports : (before after : HandleSeen) (t : RelayTurn) → is_going t ≡ true → ReportsTurn before after t → after.errors ≡ before.errors
going_reports before after turn.Going is h = h
going_reports before after (turn.Broken code) is h = h
going_reports before after (turn.Gone r) is h = h.0
going_reports before after (turn.Failed error) is h = absurd (let no : ⊥ = (cc) in no)
going_reports before after turn.NoMemory is h = h
