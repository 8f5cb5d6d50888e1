-- What came on the links of a run, reported by the entries that were made: of a link that was opened once, a prefix of what
-- its dialer held.
use Rattle.std.specs.Prelude.{◌≡◌, ℕ, ◌==◌, if◌then◌else◌, Option, Some, List, [], ◌∷◌, ◌++◌, drop}
use Rattle.std.specs.List.{fold}
use Rattle.grpc_base.specs.declared.event.Entry.{Entry}
use Rattle.grpc_base.specs.declared.event.Event.{Event}
use Rattle.grpc_base.specs.declared.event.Event.TheVariants as event
use Rattle.grpc_base.specs.declared.event.Reply.{Reply}
use Rattle.grpc_base.specs.declared.event.Reply.TheVariants as reply
use Rattle.live_pump.specs.Pumps.{HandleSeen}

-- what entries say of a number: no link has it; one link has it, for which the dialer held these bytes, and of which these
-- came; or more than one has it. Stray are bytes of no link, and a link that no dial opened
pub data LinkHistory : Type 0 where
  Unopened : LinkHistory
  Opened : List ℕ → List ℕ → LinkHistory
  Many : LinkHistory
  Stray : LinkHistory

-- with what the dialer still holds for the links to come
pub record Report : Type 0 where
  pub link_history : LinkHistory
  pub coming : List (List ℕ)

-- a dial opened a link of this number
abbrev pub opened : LinkHistory → List (List ℕ) → LinkHistory
opened Unopened [] = Stray
opened Unopened (held ∷ coming) = Opened held []
opened (Opened held before) coming = Many
opened Many coming = Many
opened Stray coming = Stray

-- bytes came on a link of this number
abbrev pub came : List ℕ → LinkHistory → LinkHistory
came piece Unopened = Stray
came piece (Opened held before) = Opened held (before ++ piece)
came piece Many = Many
came piece Stray = Stray

-- each dial that opened takes what the dialer held for it, whether the channel gives the link a number or not
abbrev pub reported_up : ℕ → Reply → Report → Report
reported_up link (reply.Link l) t = record { link_history = if l == link then opened t.link_history t.coming else t.link_history; coming = drop 1 t.coming }
reported_up link _ t = record { link_history = t.link_history; coming = drop 1 t.coming }

abbrev pub reported_event : ℕ → Event → Reply → Report → Report
reported_event link (event.LinkUp sub) r t = reported_up link r t
reported_event link (event.Arrived l piece) r t = record { link_history = if l == link then came piece t.link_history else t.link_history; coming = t.coming }
reported_event link _ r t = t

abbrev pub reported_by : ℕ → Report → Entry → Report
reported_by link t e = reported_event link e.event e.reply t

-- what came of a link that was opened once is a prefix of what was held, and nothing came before it was opened
abbrev pub IsPrefix : LinkHistory → Type 0
IsPrefix Unopened = Unit {0}
IsPrefix (Opened held before) = (rest : List ℕ) × (held ≡ before ++ rest)
IsPrefix Many = Unit {0}
IsPrefix Stray = ⊥

-- so it is of each number, in the entries that were made from here to there, where the dialer reports what it held
pub record ArrivesBefore (coming : Option (List (List ℕ))) (before after : HandleSeen) : Type 0 where
  pub more : List Entry
  pub made : after.made ≡ before.made ++ more
  pub prefixes : (held : List (List ℕ)) → coming ≡ Some held → (link : ℕ) → IsPrefix (fold (reported_by link) (record { link_history = Unopened; coming = held }) more).link_history
