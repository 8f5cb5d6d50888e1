-- The stream at a place.
use Rattle.std.proofs.Common.{◌≡◌, ℕ, zero, suc, ◌<◌, List, [], ◌∷◌, ◌++◌, length, refl, sym, ◌∙◌, ap, subst, Some, arith}
use Rattle.std.specs.Prelude.{Option, IfSome, position, slice_get, slice_set}
use Rattle.grpc_base.specs.declared.event.Reply.{Reply}
use Rattle.relay_asks.specs.declared.ask.RelayAsk.{RelayAsk}
use Rattle.relay_connection.specs.declared.stream.RelayStream.{RelayStream}
use Rattle.relay_connection.specs.declared.stream.StreamNews.{StreamNews}
use Rattle.relay_connection.specs.Relay.{Relay, Report, given, given_at, given_by, on_stream, reported_at, reported_by}
use Rattle.relay_connection.specs.Streams.{given_to, is_numbered, put, settled, stream_reported}

pub get_set : (xs : List RelayStream) (i : ℕ) (t u : RelayStream) → slice_get xs i ≡ Some t → slice_get (slice_set xs i u) i ≡ Some u
get_set [] i t u e = absurd (cc)
get_set (x ∷ xs) zero t u e = refl
get_set (x ∷ xs) (suc i) t u e = get_set xs i t u e

pub there_is : (xs : List RelayStream) (i : ℕ) → i < length xs → (x : RelayStream) × (slice_get xs i ≡ Some x)
there_is [] i h = absurd (omega (arith, h))
there_is (x ∷ xs) zero h = (x, refl)
there_is (x ∷ xs) (suc i) h = there_is xs i (omega (arith, h))

pub as_some : (P : RelayStream → Type 0) (xs : List RelayStream) (place : ℕ) (x : RelayStream) → slice_get xs place ≡ Some x → P x → IfSome (slice_get xs place) P
as_some P xs place x e h = subst (λ (o : Option RelayStream). IfSome o P) (sym e) h

pub some_is : (P : RelayStream → Type 0) (xs : List RelayStream) (place : ℕ) (x : RelayStream) → slice_get xs place ≡ Some x → IfSome (slice_get xs place) P → P x
some_is P xs place x e h = subst (λ (o : Option RelayStream). IfSome o P) e h

-- a stream that was changed at its place, and taken off where it is over
pub put_at : (xs zs : List RelayStream) (place : ℕ) (x y u : RelayStream) → slice_get xs place ≡ Some x → y ≡ u → IfSome (slice_get (slice_set xs place y) place) (λ s. zs ≡ settled (slice_set xs place y) place s) → zs ≡ put xs place u
put_at xs zs place x y u e same h =
    some_is (λ (s : RelayStream). zs ≡ settled (slice_set xs place y) place s) (slice_set xs place y) place y (get_set xs place x y e) h
    ∙ ap (put xs place) same
