-- What came on the links of a run, by what each dialer held; and the config with which addresses come.
-- Example: a run with one dialer, which held the bytes 1 2 3 for the one link that it opens. The pieces that came on this link are, one after another, a prefix of
-- these bytes: 1 and 2 3, or 1 2 alone.
use Rattle.std.specs.Prelude.{◌≡◌, ℕ, Option, Some, List, slice_get, take}
use Rattle.std.specs.List.{AllByRecursion, AllZip, fold}
use Rattle.grpc_base.specs.declared.event.Entry.{Entry}
use Rattle.grpc_base.specs.declared.event.Event.{Event}
use Rattle.grpc_base.specs.declared.event.Event.TheVariants as event
use Rattle.live_pump.specs.Prefixes.{IsPrefix, Unopened, reported_by}
use Rattle.live_pump.specs.Kinds.{IsOfLinks}
use Rattle.shared_channel.specs.Turns.{entries_of}
use Rattle.turn_lock.specs.History.{Ascends, Stands}
use Rattle.live_channel.specs.Sharing.{times_in}

-- entries with their places, which stand there in this order: those of a worker with a dialer that held this. Of each number that one link of it had, what came is a
-- prefix of what the dialer held for that link, where the dialer says it
pub record ComesAsHeld (entries : List Entry) (held : Option (List (List ℕ))) (own : List (ℕ × Entry)) : Type 0 where
  pub stands : Stands entries own
  pub ascends : Ascends 0 own
  pub prefixes : (coming : List (List ℕ)) → held ≡ Some coming → (link : ℕ) → IsPrefix (fold (reported_by link) (record { link_history = Unopened; coming = coming }) (entries_of own)).link_history

-- addresses come with this config
abbrev pub ResolvesWith : Option (List ℕ) → Event → Type 0
ResolvesWith reported (event.Resolved addresses config) = config ≡ reported
ResolvesWith reported _ = Unit {0}

-- Of the first dialers each has a worker. Each entry of a dial, of a link or of the clock is one worker's, and what came is as its dialer held it. Addresses are reported
-- with the config alone
pub record ComeAsHeld (held : List (Option (List (List ℕ)))) (config : Option (List ℕ)) (entries : List Entry) : Type 0 where
  pub workers : ℕ
  pub owns : List (List (ℕ × Entry))
  pub each : AllZip (ComesAsHeld entries) (take workers held) owns
  pub only : (x : ℕ) (e : Entry) → slice_get entries x ≡ Some e → IsOfLinks e.event → times_in x owns ≡ 1
  pub carries : AllByRecursion (λ e. ResolvesWith config e.event) entries
