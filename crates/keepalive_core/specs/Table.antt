-- The keepalives of many links, by their numbers.
use Rattle.std.specs.Prelude.{ℕ, suc, ◌==◌, if◌then◌else◌, Option, Some, None, List, [], ◌∷◌, ◌++◌, slice_get, slice_set}
use Rattle.grpc_base.specs.declared.tender.Tend.{Tend}
use Rattle.grpc_base.specs.declared.tender.Tend.TheVariants as tend
use Rattle.keepalive_core.specs.declared.rule.KeepTurn.{KeepTurn}
use Rattle.keepalive_core.specs.declared.rule.KeepTurn.TheVariants as turn
use Rattle.keepalive_core.specs.declared.table.KeptLink.{KeptLink}
use Rattle.keepalive_core.specs.Keepalive.{KeepSeen, keep_turn, kind_of, stand_next}

-- the place of a link among those that were opened, from 0; their number where it was not
abbrev pub place_of : ℕ → List KeptLink → ℕ
place_of link [] = 0
place_of link (k ∷ links) = if k.link == link then 0 else suc (place_of link links)

-- what is to be done about a link by a turn of its keepalive
abbrev pub tend_of : KeepTurn → Tend
tend_of turn.Nothing = tend.Nothing
tend_of (turn.SendPing word) = tend.Ping word
tend_of (turn.Lost heard sent) = tend.Lost

-- the same of a link in a table: nothing where it was not opened
abbrev pub tend_kept : ℕ → Option KeptLink → Tend
tend_kept moment (Some k) = tend_of (keep_turn k.keep moment)
tend_kept moment None = tend.Nothing

abbrev pub tend_in : List KeptLink → ℕ → ℕ → Tend
tend_in links link moment = tend_kept moment (slice_get links (place_of link links))

-- the keepalives of a table with that of a link changed so, where it was opened
abbrev pub changed_at : ℕ → (KeepSeen → KeepSeen) → Option KeptLink → List KeptLink → List KeptLink
changed_at place change (Some k) links = slice_set links place (record k { keep = change k.keep })
changed_at place change None links = links

abbrev pub changed_in : ℕ → (KeepSeen → KeepSeen) → List KeptLink → List KeptLink
changed_in link change links = changed_at (place_of link links) change (slice_get links (place_of link links)) links

-- the same with a link that is opened: its keepalive anew, or after the others
abbrev pub opened_at : ℕ → ℕ → KeepSeen → Option KeptLink → List KeptLink → List KeptLink
opened_at link place keep (Some k) links = slice_set links place (record k { keep = keep })
opened_at link place keep None links = links ++ record { link = link; keep = keep } ∷ []

abbrev pub opened_in : ℕ → KeepSeen → List KeptLink → List KeptLink
opened_in link keep links = opened_at link (place_of link links) keep (slice_get links (place_of link links)) links

-- a keepalive after a turn
abbrev pub turned : ℕ → KeepSeen → KeepSeen
turned moment k = stand_next k (kind_of (keep_turn k moment)) moment

-- the keepalive of a link, where it was opened
abbrev pub keep_of : ℕ → List KeptLink → Option KeepSeen
keep_of link [] = None
keep_of link (k ∷ links) = if k.link == link then Some k.keep else keep_of link links

-- what is to be done by a turn of a keepalive, where there is one
abbrev pub tend_by : ℕ → Option KeepSeen → Tend
tend_by moment (Some k) = tend_of (keep_turn k moment)
tend_by moment None = tend.Nothing
