-- The kinds of the events that the handles of a run post.
use Rattle.std.proofs.Common.{◌≡◌, ℕ, Option, List, [], refl, subst, sym}
use Rattle.std.specs.List.{AllByRecursion}
use Rattle.grpc_base.specs.declared.event.Entry.{Entry}
use Rattle.grpc_base.specs.declared.event.Event.{Event}
use Rattle.grpc_base.specs.declared.event.Event.TheVariants as event
use Rattle.live_pump.specs.Kinds.{AddsOnly, IsOfLinks}
use Rattle.live_run.specs.Sides.{IsOfNames}
use Rattle.shared_channel.specs.Turns.{entries_of}
use Rattle.live_channel.specs.Handles.{EntriesAreBesideCalls, IsBeside}
use Rattle.live_channel.specs.Sharing.{IsOfCall}
use Rattle.live_channel.proofs.OwnLaws.{each_unmap, each_weaker}

-- all that was added to nothing
all_added : (IsOfKind : Event → Type 0) (made : List Entry) → AddsOnly IsOfKind [] made → AllByRecursion (λ e. IsOfKind e.event) made
all_added IsOfKind made adds = subst (λ (l : List Entry). AllByRecursion (λ e. IsOfKind e.event) l) (sym adds.made) adds.each

-- a worker that made only entries of calls
pub calls_own : (own : List (ℕ × Entry)) → AddsOnly IsOfCall [] (entries_of own) → AllByRecursion (λ p. IsOfCall p.1.event) own
calls_own own adds = each_unmap (λ (e : Entry). IsOfCall e.event) (λ (p : ℕ × Entry). p.1) own (all_added IsOfCall (entries_of own) adds)

-- ---- beside the calls

pub links_beside : (e : Event) → IsOfLinks e → IsBeside e
links_beside (event.Begin request) is = absurd is
links_beside (event.Send call message) is = absurd is
links_beside (event.Finish call) is = absurd is
links_beside (event.Take call) is = absurd is
links_beside (event.Cancel call) is = absurd is
links_beside (event.Resolved addresses config) is = absurd is
links_beside event.ResolveFailed is = absurd is
links_beside event.TakeDial is = record { call = refl; shut = refl }
links_beside (event.LinkUp sub) is = record { call = refl; shut = refl }
links_beside (event.DialFailed sub) is = record { call = refl; shut = refl }
links_beside (event.Arrived link piece) is = record { call = refl; shut = refl }
links_beside (event.LinkLost link) is = record { call = refl; shut = refl }
links_beside (event.Drain link room) is = record { call = refl; shut = refl }
links_beside (event.Ping link word) is = record { call = refl; shut = refl }
links_beside event.Tick is = record { call = refl; shut = refl }
links_beside event.Shutdown is = absurd is

names_beside : (reported : Option (List ℕ)) (e : Event) → IsOfNames reported e → IsBeside e
names_beside reported (event.Begin request) is = absurd is
names_beside reported (event.Send call message) is = absurd is
names_beside reported (event.Finish call) is = absurd is
names_beside reported (event.Take call) is = absurd is
names_beside reported (event.Cancel call) is = absurd is
names_beside reported (event.Resolved addresses config) is = record { call = refl; shut = refl }
names_beside reported event.ResolveFailed is = record { call = refl; shut = refl }
names_beside reported event.TakeDial is = absurd is
names_beside reported (event.LinkUp sub) is = absurd is
names_beside reported (event.DialFailed sub) is = absurd is
names_beside reported (event.Arrived link piece) is = absurd is
names_beside reported (event.LinkLost link) is = absurd is
names_beside reported (event.Drain link room) is = absurd is
names_beside reported (event.Ping link word) is = absurd is
names_beside reported event.Tick is = absurd is
names_beside reported event.Shutdown is = absurd is

-- a worker that had made nothing, and posted events of a kind
pub kind_own : (IsOfKind : Event → Type 0) → (before after : List (ℕ × Entry)) → before ≡ [] → AddsOnly IsOfKind (entries_of before) (entries_of after) → AllByRecursion (λ p. IsOfKind p.1.event) after
kind_own IsOfKind before after none adds =
    each_unmap (λ (e : Entry). IsOfKind e.event) (λ (p : ℕ × Entry). p.1) after
    (all_added IsOfKind (entries_of after) (subst (λ (l : List (ℕ × Entry)). AddsOnly IsOfKind (entries_of l) (entries_of after)) none adds))

pub links_own_beside : (own : List (ℕ × Entry)) → AllByRecursion (λ p. IsOfLinks p.1.event) own → EntriesAreBesideCalls own
links_own_beside own all = each_weaker (λ (p : ℕ × Entry). IsOfLinks p.1.event) (λ (p : ℕ × Entry). IsBeside p.1.event) (λ p is. links_beside p.1.event is) own all

pub names_own_beside : (config : Option (List ℕ)) (own : List (ℕ × Entry)) → AllByRecursion (λ p. IsOfNames config p.1.event) own → EntriesAreBesideCalls own
names_own_beside config own all = each_weaker (λ (p : ℕ × Entry). IsOfNames config p.1.event) (λ (p : ℕ × Entry). IsBeside p.1.event) (λ p is. names_beside config p.1.event is) own all
