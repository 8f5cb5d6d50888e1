-- The stamps of policies once all is done that their lines give in an entry: each that is to be retired is, and one of the wanted kind begins where none is live.
-- Example: generation 1 is current, of pick_first, and generation 2 is pending, of round_robin. In entry 9 a result names priority: generation 2 is retired in
-- entry 9, and generation 3 begins, pending.
use Rattle.std.specs.List.{list_any}
use Rattle.std.specs.Prelude.{Bool, List, None, Option, Some, [], find, if◌then◌else◌, is_none, is_some, map, not, option_to_list, ℕ, ◌&&◌, ◌++◌, ◌||◌, ◌∷◌}
use Rattle.attempt_ledger.specs.declared.ledger.Generation.{Generation}
use Rattle.grpc_base.specs.declared.kind.Kind.{Kind}
use Rattle.session_actions.specs.Policies.{is_same_kind}
use Rattle.session_actions.specs.Words.{holds}

abbrev pub is_live_stamp : Generation → Bool
is_live_stamp g = is_none g.retired

abbrev pub is_current_stamp : Generation → Bool
is_current_stamp g = is_live_stamp g && is_some g.activated

abbrev pub is_pending_stamp : Generation → Bool
is_pending_stamp g = is_live_stamp g && is_none g.activated

-- of a channel that was shut down each is retired; else a pending one of another kind than is wanted
abbrev pub is_dropped : Bool → Option Kind → Generation → Bool
is_dropped shut wanted g = is_live_stamp g && (shut || (is_pending_stamp g && holds (λ k. not (is_same_kind g.kind k)) wanted))

abbrev pub dropped_in : Bool → Option Kind → ℕ → Generation → Generation
dropped_in shut wanted entry g = if is_dropped shut wanted g then record g { retired = Some entry } else g

abbrev pub dropped : Bool → Option Kind → ℕ → List Generation → List Generation
dropped shut wanted entry gs = map (dropped_in shut wanted entry) gs

-- one begins where none of the wanted kind is live: current where there is no other, else pending
abbrev pub live_stamps : List Generation → List Generation
live_stamps gs = option_to_list (find is_current_stamp gs) ++ option_to_list (find is_pending_stamp gs)

abbrev pub has_kind : Kind → List Generation → Bool
has_kind k gs = list_any (λ g. is_same_kind g.kind k) (live_stamps gs)

abbrev pub begun : ℕ → Kind → List Generation → Generation
begun entry k gs = record { kind = k; activated = if is_none (find is_current_stamp gs) then Some entry else None; retired = None }

abbrev pub with_begun : Option Kind → ℕ → List Generation → List Generation
with_begun None entry gs = gs
with_begun (Some k) entry gs = if has_kind k gs then gs else gs ++ begun entry k gs ∷ []

abbrev pub generations_after : Bool → Option Kind → ℕ → List Generation → List Generation
generations_after shut wanted entry gs = with_begun wanted entry (dropped shut wanted entry gs)
