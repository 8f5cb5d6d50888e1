-- The frames that wait to be sent whatever the windows.
use Rattle.std.specs.Prelude.{ℕ, suc, ◌+◌, ◌-◌, Bool, false, nat_lt, if◌then◌else◌, List, [], ◌∷◌, ◌++◌, length, drop, min}
use Rattle.std.specs.List.{insert}
use Rattle.h2_link.specs.declared.control.Control.{Control}
use Rattle.h2_link.specs.declared.control.Control.TheVariants.{Reset}

-- in the order in which they are sent; so many of the last ones are the resets of the last frame's effects
pub record Queue : Type 0 where
  pub items : List Control
  pub fresh : ℕ

abbrev pub new_queue : Queue
new_queue = record { items = []; fresh = 0 }

-- with a frame after all others
abbrev pub queued : Queue → Control → Queue
queued q c = record { items = q.items ++ c ∷ []; fresh = 0 }

-- with the effects of the last frame complete
abbrev pub sealed : Queue → Queue
sealed q = record { items = q.items; fresh = 0 }

-- without its first frame
abbrev pub unqueued : Queue → Queue
unqueued q = record { items = drop 1 q.items; fresh = min q.fresh (length q.items - 1) }

-- a reset of a later stream
abbrev pub comes_after : ℕ → Control → Bool
comes_after number (Reset stream code) = nat_lt number stream
comes_after number _ = false

-- the first place of an item that passes a test, or the length
abbrev pub first_place : (Control → Bool) → List Control → ℕ
first_place p [] = 0
first_place p (c ∷ cs) = if p c then 0 else suc (first_place p cs)

-- where a reset stands: among those of the last frame's effects, by stream
abbrev pub reset_place : ℕ → Queue → ℕ
reset_place number q =
    let start = length q.items - q.fresh in
    start + first_place (comes_after number) (drop start q.items)

abbrev pub reset_queued : ℕ → ℕ → Queue → Queue
reset_queued number code q = record {
  items = insert q.items (reset_place number q) (Reset number code);
  fresh = q.fresh + 1;
}
