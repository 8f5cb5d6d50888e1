-- A handle that another takes in, after a look of its own.
use Rattle.std.proofs.Common.{◌≡◌, ℕ, List, ap, subst}
use Rattle.grpc_base.specs.declared.event.Entry.{Entry}
use Rattle.turn_lock.specs.History.{Ascends, SeatSeen, Stands, StartsWith}
use Rattle.turn_lock.specs.Turn.{Sees}
use Rattle.turn_lock.proofs.Places.{stands-later}

pub joined_stands : (before looked : SeatSeen Entry) (seen : List Entry) → Sees before looked → looked ≡ record before { seen = looked.seen } → StartsWith seen looked.seen → Stands seen before.own × Ascends 0 before.own
joined_stands before looked seen sees same starts =
    let own : looked.own ≡ before.own = ap (λ (s : SeatSeen Entry). s.own) same in (
      subst (λ (l : List (ℕ × Entry)). Stands seen l) own (stands-later looked.seen seen looked.own starts sees.owns.stands),
      subst (λ (l : List (ℕ × Entry)). Ascends 0 l) own sees.owns.ascends,
    )
