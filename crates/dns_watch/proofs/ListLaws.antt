-- Lists of addresses that are made one by one.
use Rattle.std.proofs.Common.{◌≡◌, ◌≤◌, ℕ, Bool, true, false, if◌then◌else◌, List, [], ◌∷◌, ◌++◌, length, map, take, take_all, sym, ap, ◌∙◌, append_assoc, append-nil}
use Rattle.std.proofs.Math.Seq.{take-append_seam}
use Rattle.std.specs.List.{fold}
use Rattle.grpc_base.specs.Addresses.{has_address, with_address}
use Rattle.grpc_base.specs.declared.address.Address.{Address}
use Rattle.dns_watch.specs.Lookups.{addresses_at, at_port}

begins_by : (kept : List Address) (a : Address) (rest : List Address) (b : Bool)
    → (more : List Address) × (fold with_address kept rest ≡ kept ++ more)
    → (more : List Address) × (fold with_address (kept ++ a ∷ []) rest ≡ (kept ++ a ∷ []) ++ more)
    → (more : List Address) × (fold with_address (if b then kept else kept ++ a ∷ []) rest ≡ kept ++ more)
begins_by kept a rest true same longer = same
begins_by kept a rest false same longer = (a ∷ longer.0, longer.1 ∙ append_assoc kept (a ∷ []) longer.0)

-- what is kept stays at the start
begins : (kept rest : List Address) → (more : List Address) × (fold with_address kept rest ≡ kept ++ more)
begins kept [] = ([], sym (append-nil kept))
begins kept (a ∷ rest) = begins_by kept a rest (has_address kept a) (begins kept rest) (begins (kept ++ a ∷ []) rest)

pub whole_list : (port : ℕ) (ips : List ℕ) (kept : List Address) → fold with_address [] (map (at_port port) ips) ≡ kept → length kept ≤ 64 → kept ≡ addresses_at port ips
whole_list port ips kept is within =
    sym (ap (λ (l : List Address). take 64 l) is ∙ take_all 64 kept within)

pub full_list : (port : ℕ) (ips rest : List ℕ) (kept : List Address) → fold with_address [] (map (at_port port) ips) ≡ fold with_address kept (map (at_port port) rest) → length kept ≡ 64 → kept ≡ addresses_at port ips
full_list port ips rest kept is full =
    let more = begins kept (map (at_port port) rest) in
    sym (ap (λ (l : List Address). take 64 l) (is ∙ more.1) ∙ ap (λ (n : ℕ). take n (kept ++ more.0)) (sym full) ∙ take-append_seam kept more.0)
