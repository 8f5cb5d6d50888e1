-- The addresses of a result of the resolver, and the generations that it stamps.
use Rattle.std.proofs.Common.{◌≡◌, ◌∙◌, ℕ, List, ap}
use Rattle.grpc_base.specs.declared.address.Address.{Address}
use Rattle.grpc_base.specs.declared.kind.Kind.{Kind}
use Rattle.attempt_ledger.specs.declared.ledger.Generation.{Generation}
use Rattle.channel_net.specs.Steps.{NetSeen, net_resolved, resolved_shut, resolved_stamps}
use Rattle.channel_core.specs.Applying.{readdressed_to}
use Rattle.channel_core.specs.States.{StateSeen}
use Rattle.channel_core.specs.Steps.{all_stamped_gone, with_generations}

abbrev left_with : StateSeen → NetSeen → List Generation → List ℕ → StateSeen
left_with s n generations shut = all_stamped_gone shut (with_generations generations (record s { net = n }))

pub readdressed_is : (kind : Kind) (addresses : List Address) (s : StateSeen) (n : NetSeen) (generations : List Generation) (shut : List ℕ)
    → n ≡ net_resolved kind addresses s.net
    → generations ≡ resolved_stamps s.book.ledger.entry kind s.net n s.book.ledger.generations
    → shut ≡ resolved_shut kind addresses s.net
    → all_stamped_gone shut (with_generations generations (record s { net = n })) ≡ readdressed_to kind addresses s
readdressed_is kind addresses s n generations shut net stamps gone =
    ap (λ (l : List ℕ). left_with s n generations l) gone
    ∙ ap (λ (g : List Generation). left_with s n g (resolved_shut kind addresses s.net)) stamps
    ∙ ap (λ (m : NetSeen). left_with s m (resolved_stamps s.book.ledger.entry kind s.net m s.book.ledger.generations) (resolved_shut kind addresses s.net)) net

-- the same of a channel that is seen so
pub readdressed_at : {v s : StateSeen} → v ≡ s → (kind : Kind) (addresses : List Address) (n : NetSeen) (generations : List Generation) (shut : List ℕ) (new : StateSeen)
    → n ≡ net_resolved kind addresses v.net
    → generations ≡ resolved_stamps v.book.ledger.entry kind v.net n v.book.ledger.generations
    → shut ≡ resolved_shut kind addresses v.net
    → new ≡ all_stamped_gone shut (with_generations generations (record v { net = n }))
    → new ≡ readdressed_to kind addresses s
readdressed_at {v} {s} seen kind addresses n generations shut new net stamps gone left =
    left ∙ readdressed_is kind addresses v n generations shut net stamps gone ∙ ap (λ (t : StateSeen). readdressed_to kind addresses t) seen
