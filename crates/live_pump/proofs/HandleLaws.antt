-- A handle that shows the same.
use Rattle.std.proofs.Common.{◌≡◌, ℕ, Bool, Option, List, ap, subst, ◌∙◌}
use Rattle.grpc_base.specs.declared.event.Entry.{Entry}
use Rattle.grpc_base.specs.declared.post.PostError.{PostError}
use Rattle.live_pump.specs.Dials.{DialerSeen, DialsIf, TurnSeen}
use Rattle.live_pump.specs.Pumps.{HandleSeen, OutSeen, PumpsOut}
use Rattle.live_pump.specs.declared.pumped.Pumped.{Pumped}

pub same_handle : (m m2 : List Entry) (n n2 : ℕ) (l l2 : Option PostError) → m2 ≡ m → n2 ≡ n → l2 ≡ l → ◌≡◌ {A = HandleSeen} (record { made = m2; errors = n2; last = l2 }) (record { made = m; errors = n; last = l })
same_handle m m2 n n2 l l2 p q r =
    ap (λ (x : List Entry). let h : HandleSeen = record { made = x; errors = n2; last = l2 } in h) p
    ∙ ap (λ (x : ℕ). let h : HandleSeen = record { made = m; errors = x; last = l2 } in h) q
    ∙ ap (λ (x : Option PostError). let h : HandleSeen = record { made = m; errors = n; last = x } in h) r
