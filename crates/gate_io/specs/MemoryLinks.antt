-- Links in memory: what a read gives, and links that are to be opened.
use Rattle.std.specs.Prelude.{◌≡◌, ℕ, Option, Some, None, List, length, map, min}
use Rattle.gate_io.specs.declared.link.Dialed.{Dialed}
use Rattle.gate_io.specs.declared.link.Dialed.TheVariants as dialed
use Rattle.gate_io.specs.declared.link.LinkRead.{LinkRead}
use Rattle.gate_io.specs.declared.link.LinkRead.TheVariants as link
use Rattle.gate_io.specs.declared.memory_dialer.MemLink.{MemLink}
use Rattle.gate_io.specs.Memory.{LinkInSeen, LinkOutSeen, LinksSeen, SourceSeen}

-- a read of a link gives as much as its source has left, as fits and as one read gives
abbrev pub LinkGivesMost : SourceSeen → ℕ → LinkRead → Type 0
LinkGivesMost before room (link.Got n) = n ≡ min (min (length before.left) room) before.most
LinkGivesMost before room _ = Unit {0}

-- the bytes that each of these links has left
abbrev pub lefts_of : List MemLink → List (List ℕ)
lefts_of links = map (λ l. l.input.source.left) links

-- of each of these dialers in turn, the bytes that each link has left which it is to open
abbrev pub held_by : List (LinksSeen MemLink) → List (Option (List (List ℕ)))
held_by dialers = map (λ d. Some (lefts_of d.links)) dialers

-- the two ends of a link, where there is one
abbrev pub opened_of : Option MemLink → Dialed LinkInSeen LinkOutSeen
opened_of (Some l) = dialed.Open l.input l.output
opened_of None = dialed.Failed
