-- What came on the links of a run is as its dialers held it, and addresses come with one config: said of the whole journal, by the handle that took all others in.
use Rattle.std.proofs.Common.{◌≡◌, ◌≤◌, ℕ, suc, ◌+◌, true≢false, Option, Some, slice_get, List, [], ◌∷◌, ap, arith, length, refl, sym, subst}
use Rattle.std.specs.List.{AllByRecursion, AllZip}
use Rattle.std.specs.Option.{option_to_list}
use Rattle.std.proofs.lemmas.Option.{slice_get_within}
use Rattle.grpc_base.specs.declared.address.Address.{Address}
use Rattle.grpc_base.specs.declared.event.Entry.{Entry}
use Rattle.grpc_base.specs.declared.event.Event.{Event}
use Rattle.grpc_base.specs.declared.event.Event.TheVariants as event
use Rattle.live_pump.specs.Kinds.{IsOfLinks}
use Rattle.live_run.specs.Sides.{IsOfNames}
use Rattle.live_run.specs.declared.outcome.Outcome.{Outcome}
use Rattle.turn_lock.specs.History.{LockId, Owns, SeatSeen, StartsWith, once_below, places, times}
use Rattle.live_channel.specs.Held.{ResolvesWith, ComeAsHeld, ComesAsHeld}
use Rattle.live_channel.specs.Handles.{IsClosing, IsLeft, IsWithConfig, Keeper, KeepsAs, OfLinks, OfNames, StandInOrder, helds_of}
use Rattle.live_channel.specs.Sharing.{IsOfCall, times_in}
use Rattle.live_channel.proofs.EventLaws.{links_beside}
use Rattle.live_channel.proofs.OwnLaws.{each_weaker, found, found_in, one_of, zero_of}
use Rattle.live_channel.proofs.ShareLaws.{IsShared, below, beside_call, beside_shut, closing_is, shared_out}

-- ---- kinds of events

links_or_names : (config : Option (List ℕ)) (e : Event) → IsOfLinks e → IsOfNames config e → ⊥
links_or_names config (event.Begin request) links names = links
links_or_names config (event.Send call message) links names = links
links_or_names config (event.Finish call) links names = links
links_or_names config (event.Take call) links names = links
links_or_names config (event.Cancel call) links names = links
links_or_names config (event.Resolved addresses reported) links names = links
links_or_names config event.ResolveFailed links names = links
links_or_names config event.TakeDial links names = names
links_or_names config (event.LinkUp sub) links names = names
links_or_names config (event.DialFailed sub) links names = names
links_or_names config (event.Arrived link piece) links names = names
links_or_names config (event.LinkLost link) links names = names
links_or_names config (event.Drain link room) links names = names
links_or_names config (event.Ping link word) links names = names
links_or_names config event.Tick links names = names
links_or_names config event.Shutdown links names = links

-- where addresses alone may come otherwise
carried : (config : Option (List ℕ)) (e : Event) → ((addresses : List Address) (reported : Option (List ℕ)) → e ≡ event.Resolved addresses reported → reported ≡ config) → ResolvesWith config e
carried config (event.Begin request) as_reported = tt
carried config (event.Send call message) as_reported = tt
carried config (event.Finish call) as_reported = tt
carried config (event.Take call) as_reported = tt
carried config (event.Cancel call) as_reported = tt
carried config (event.Resolved addresses reported) as_reported = as_reported addresses reported refl
carried config event.ResolveFailed as_reported = tt
carried config event.TakeDial as_reported = tt
carried config (event.LinkUp sub) as_reported = tt
carried config (event.DialFailed sub) as_reported = tt
carried config (event.Arrived link piece) as_reported = tt
carried config (event.LinkLost link) as_reported = tt
carried config (event.Drain link room) as_reported = tt
carried config (event.Ping link word) as_reported = tt
carried config event.Tick as_reported = tt
carried config event.Shutdown as_reported = tt

links_carry : (config : Option (List ℕ)) (e : Event) → IsOfLinks e → ResolvesWith config e
links_carry config e is = carried config e (λ addresses reported same. absurd (subst IsOfLinks same is))

calls_carry : (config : Option (List ℕ)) (e : Event) → IsOfCall e → ResolvesWith config e
calls_carry config e is = carried config e (λ addresses reported same. absurd (true≢false (sym (subst IsOfCall same is))))

shut_carry : (config : Option (List ℕ)) (e : Event) → e ≡ event.Shutdown → ResolvesWith config e
shut_carry config e is = subst (ResolvesWith config) (sym is) tt

names_carry : (config : Option (List ℕ)) (e : Event) → IsOfNames config e → ResolvesWith config e
names_carry config e is = carried config e (λ addresses reported same. subst (IsOfNames config) same is)

-- ---- the workers that keep links open

-- the entries of those
abbrev nets_of : List Keeper → List (List (ℕ × Entry)) → List (List (ℕ × Entry))
nets_of [] owns = []
nets_of (OfLinks held ∷ keepers) [] = []
nets_of (OfLinks held ∷ keepers) (own ∷ owns) = own ∷ nets_of keepers owns
nets_of (OfNames config ∷ keepers) [] = []
nets_of (OfNames config ∷ keepers) (own ∷ owns) = nets_of keepers owns

each_comes : (entries : List Entry) (keepers : List Keeper) (owns : List (List (ℕ × Entry))) → AllZip KeepsAs keepers owns → AllByRecursion (StandInOrder entries) owns → AllZip (ComesAsHeld entries) (helds_of keepers) (nets_of keepers owns)
each_comes entries [] [] keeps stand = tt
each_comes entries [] (own ∷ owns) keeps stand = absurd keeps
each_comes entries (OfLinks held ∷ keepers) [] keeps stand = absurd keeps
each_comes entries (OfNames config ∷ keepers) [] keeps stand = absurd keeps
each_comes entries (OfLinks held ∷ keepers) (own ∷ owns) keeps stand = (record { stands = stand.0.stands; ascends = stand.0.ascends; prefixes = keeps.0.1 }, each_comes entries keepers owns keeps.1 stand.1)
each_comes entries (OfNames config ∷ keepers) (own ∷ owns) keeps stand = each_comes entries keepers owns keeps.1 stand.1

-- an entry of a link is of one of those, where it is of a worker beside the calls
in_nets : (entries : List Entry) (keepers : List Keeper) (owns : List (List (ℕ × Entry))) (x : ℕ) (e : Entry) → IsOfLinks e.event → slice_get entries x ≡ Some e → AllZip KeepsAs keepers owns → AllByRecursion (StandInOrder entries) owns
    → times_in x (nets_of keepers owns) ≡ times_in x owns
in_nets entries [] [] x e is at keeps stand = refl
in_nets entries [] (own ∷ owns) x e is at keeps stand = absurd keeps
in_nets entries (OfLinks held ∷ keepers) [] x e is at keeps stand = absurd keeps
in_nets entries (OfNames config ∷ keepers) [] x e is at keeps stand = absurd keeps
in_nets entries (OfLinks held ∷ keepers) (own ∷ owns) x e is at keeps stand = ap (λ (n : ℕ). times x own + n) (in_nets entries keepers owns x e is at keeps.1 stand.1)
in_nets entries (OfNames config ∷ keepers) (own ∷ owns) x e is at keeps stand =
    let none : times x own ≡ 0 = zero_of (times x own) (λ some. links_or_names config e.event is (found (λ (y : Entry). IsOfNames config y.event) entries own x e stand.0.stands keeps.0 some at)) in
    let more = in_nets entries keepers owns x e is at keeps.1 stand.1 in omega (arith, none, more)

-- ---- with one config

carry_one : (config : Option (List ℕ)) (keeper : Keeper) (own : List (ℕ × Entry)) → KeepsAs keeper own → IsWithConfig config keeper → AllByRecursion (λ p. ResolvesWith config p.1.event) own
carry_one config (OfLinks held) own keeps names = each_weaker (λ (p : ℕ × Entry). IsOfLinks p.1.event) (λ (p : ℕ × Entry). ResolvesWith config p.1.event) (λ p is. links_carry config p.1.event is) own keeps.0
carry_one config (OfNames reported) own keeps names =
    each_weaker (λ (p : ℕ × Entry). IsOfNames reported p.1.event) (λ (p : ℕ × Entry). ResolvesWith config p.1.event) (λ p is. names_carry config p.1.event (subst (λ (c : Option (List ℕ)). IsOfNames c p.1.event) names is)) own keeps

carry_all : (config : Option (List ℕ)) (keepers : List Keeper) (owns : List (List (ℕ × Entry))) → AllZip KeepsAs keepers owns → AllByRecursion (IsWithConfig config) keepers → AllByRecursion (λ own. AllByRecursion (λ p. ResolvesWith config p.1.event) own) owns
carry_all config [] [] keeps names = tt
carry_all config [] (own ∷ owns) keeps names = absurd keeps
carry_all config (keeper ∷ keepers) [] keeps names = absurd keeps
carry_all config (keeper ∷ keepers) (own ∷ owns) keeps names = (carry_one config keeper own keeps.0 names.0, carry_all config keepers owns keeps.1 names.1)

-- ---- the whole journal

each_at : {X : Type 0} (P : X → Type 0) (xs : List X) → ((x : ℕ) (e : X) → slice_get xs x ≡ Some e → P e) → AllByRecursion P xs
each_at P [] at = tt
each_at P (e ∷ es) at = (at 0 e refl, each_at P es (λ x y is. at (suc x) y is))

-- an entry of a link is of a worker that keeps links open
net_owned : (config : Option (List ℕ)) (o : Outcome) (keepers : List Keeper) (entries prefix : List Entry) (closing : Option Entry) (own : List (ℕ × Entry)) (owns others : List (List (ℕ × Entry))) → IsClosing o closing → AllZip KeepsAs keepers others
    → AllByRecursion (λ p. IsOfNames config p.1.event) own → IsShared entries prefix closing own owns others → (x : ℕ) (e : Entry) → slice_get entries x ≡ Some e → IsOfLinks e.event → times_in x (nets_of keepers others) ≡ 1
net_owned config o keepers entries prefix closing own owns others closes keeps names shared x e at is =
    let first : times x own ≡ 0 = zero_of (times x own) (λ some. links_or_names config e.event is (found (λ (y : Entry). IsOfNames config y.event) entries own x e shared.first names some at)) in
    let callers : times_in x owns ≡ 0 = zero_of (times_in x owns) (λ some. beside_call e.event (links_beside e.event is) (found_in (λ (y : Entry). IsOfCall y.event) entries owns x e shared.callers shared.of_calls some at)) in
    let last : times x (places (length prefix) (option_to_list closing)) ≡ 0 =
    zero_of (times x (places (length prefix) (option_to_list closing)))
    (λ some. beside_shut e.event (links_beside e.event is) (found (λ (y : Entry). y.event ≡ event.Shutdown) entries (places (length prefix) (option_to_list closing)) x e shared.last (closing_is o (length prefix) closing closes) some at)) in
    let nets = in_nets entries keepers others x e is at keeps shared.kept in
    let all = shared.count x in
    let one : once_below x (length entries) ≡ 1 = below x (length entries) (slice_get_within entries x e at) in
    omega (arith, first, callers, last, nets, all, one)

-- and each carries the config, whose ever it is
carry_at : (config : Option (List ℕ)) (o : Outcome) (keepers : List Keeper) (entries prefix : List Entry) (closing : Option Entry) (own : List (ℕ × Entry)) (owns others : List (List (ℕ × Entry))) → IsClosing o closing → AllZip KeepsAs keepers others → AllByRecursion (IsWithConfig config) keepers
    → AllByRecursion (λ p. IsOfNames config p.1.event) own → IsShared entries prefix closing own owns others → (x : ℕ) (e : Entry) → slice_get entries x ≡ Some e → ResolvesWith config e.event
carry_at config o keepers entries prefix closing own owns others closes keeps with_config names shared x e at =
    let last : List (ℕ × Entry) = places (length prefix) (option_to_list closing) in
    let all = shared.count x in
    let one : once_below x (length entries) ≡ 1 = below x (length entries) (slice_get_within entries x e at) in
    let some : 1 ≤ times x own + times_in x owns + times x last + times_in x others = omega (arith, all, one) in
    one_of (ResolvesWith config e.event) (times x own + times_in x owns + times x last) (times_in x others) some
    (λ more. one_of (ResolvesWith config e.event) (times x own + times_in x owns) (times x last) more
    (λ more. one_of (ResolvesWith config e.event) (times x own) (times_in x owns) more
    (λ here. names_carry config e.event (found (λ (y : Entry). IsOfNames config y.event) entries own x e shared.first names here at))
    (λ here. calls_carry config e.event (found_in (λ (y : Entry). IsOfCall y.event) entries owns x e shared.callers shared.of_calls here at)))
    (λ here. shut_carry config e.event (found (λ (y : Entry). y.event ≡ event.Shutdown) entries last x e shared.last (closing_is o (length prefix) closing closes) here at)))
    (λ here. found_in (λ (y : Entry). ResolvesWith config y.event) entries others x e shared.kept (carry_all config keepers others keeps with_config) here at)

-- all parts are together, so each entry of the journal is of one handle that was taken in
pub come_as_held : (lock : LockId) (held : List (Option (List (List ℕ)))) (config : Option (List ℕ)) (o : Outcome) (owns : List (List (ℕ × Entry))) (seat : SeatSeen Entry) (entries : List Entry)
    → IsLeft lock held config o owns seat → AllByRecursion (λ own. AllByRecursion (λ p. IsOfCall p.1.event) own) owns → Owns seat.parts seat.own entries → StartsWith entries seat.seen → ComeAsHeld held config entries
come_as_held lock held config o owns seat entries left of_calls all sees =
    let leaves = left.leaves in
    let closes = leaves.closes in
    let shared = shared_out lock held config o owns seat entries left of_calls all sees in
    record {
      workers = left.given.workers;
      owns = nets_of left.keepers leaves.others;
      each = subst (λ (l : List (Option (List (List ℕ)))). AllZip (ComesAsHeld entries) l (nets_of left.keepers leaves.others)) left.given.links (each_comes entries left.keepers leaves.others leaves.keeps shared.kept);
      only = λ x e at is. net_owned config leaves.made left.keepers entries closes.prefix closes.closing left.start.own owns leaves.others closes.is_closing leaves.keeps left.given.first shared x e at is;
      carries = each_at (λ (e : Entry). ResolvesWith config e.event) entries
          (λ x e at. carry_at config leaves.made left.keepers entries closes.prefix closes.closing left.start.own owns leaves.others closes.is_closing leaves.keeps left.given.names left.given.first shared x e at);
    }
