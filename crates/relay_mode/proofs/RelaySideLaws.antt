-- What the workers of a relay did, by their handles.
use Rattle.std.proofs.Common.{◌≡◌, ◌∙◌, ◌<◌, ◌+◌, ℕ, zero, suc, Option, List, [], ◌∷◌, ◌++◌, ap, arith, length, map, refl, slice_index_or, sym, subst}
use Rattle.std.specs.List.{AllByRecursion, AllZip}
use Rattle.std.specs.Prelude.{Result, Ok, Err, IfOk}
use Rattle.grpc_base.specs.declared.event.Entry.{Entry}
use Rattle.grpc_base.specs.declared.post.PostError.{PostError}
use Rattle.live_pump.specs.Kinds.{AddsOnly}
use Rattle.live_pump.specs.Pumps.{HandleSeen}
use Rattle.live_pump.proofs.KindLaws.{adds_none}
use Rattle.live_run.specs.Outcomes.{graver}
use Rattle.live_run.specs.Sides.{seen_by}
use Rattle.live_run.specs.declared.link_job.LinkJob.{LinkJob}
use Rattle.live_run.specs.declared.outcome.Outcome.{Outcome}
use Rattle.shared_channel.specs.Turns.{entries_of, share_of}
use Rattle.turn_lock.specs.History.{LockId, SeatSeen, StartsWith}
use Rattle.live_channel.specs.Handles.{DialersAreGiven, Closes, IsFresh, IsKept, IsOne, IsStarted, Keeper, Leaves, Shuts, Splits, TakesIn, keepers_in, owns_of, seats_in}
use Rattle.live_channel.specs.Keeping.{KeepsDone}
use Rattle.live_channel.specs.declared.linkers.Linkers.{Linkers}
use Rattle.live_channel.specs.Report.{ReportsTarget}
use Rattle.resolver_core.specs.declared.any_target.Target.{Target}
use Rattle.live_channel.proofs.SeatLaws.{left_by, reported_stays}
use Rattle.live_channel.specs.Sharing.{IsOfCall}
use Rattle.live_channel.proofs.EventLaws.{calls_own}
use Rattle.live_channel.proofs.KeepLaws.{one_still}
use Rattle.live_channel.proofs.ShareLaws.{closes_taken, graver_whole}
use Rattle.relay_mode.specs.RelaySides.{EntriesAreOfCalls, RelaySideDone, IsRelayHandle, LeavesLinks}
use Rattle.relay_mode.specs.Links.{LinkRelayed}
use Rattle.relay_mode.specs.declared.relay_side.RelaySide.{RelaySide}
use Rattle.relay_mode.specs.declared.link.RelayJob.{RelayJob}

-- ---- the workers

abbrev EachOf : {X : Type 0} → (X → X → Type 0) → List X → List X → Type 0
EachOf P olds news = (i : ℕ) (d : _) → i < length olds → P (slice_index_or olds i d) (slice_index_or news i d)

each_join : {X : Type 0} (P : X → X → Type 0) (a b a' b' : List X) → length a' ≡ length a → EachOf P a a' → EachOf P b b' → EachOf P (a ++ b) (a' ++ b')
each_join P [] b [] b' long relay_side back i d within = back i d within
each_join P [] b (x ∷ a') b' long relay_side back i d within = absurd (omega (arith, long))
each_join P (x ∷ a) b [] b' long relay_side back i d within = absurd (omega (arith, long))
each_join P (x ∷ a) b (x' ∷ a') b' long relay_side back zero d within = relay_side 0 d (omega arith)
each_join P (x ∷ a) b (x' ∷ a') b' long relay_side back (suc i) d within =
    each_join P a b a' b' (omega (arith, long)) (λ j e inside. relay_side (suc j) e (omega (arith, inside))) back i d (omega (arith, within))

each_joined : {X : Type 0} (P : X → X → Type 0) (olds news a b a' b' : List X) → olds ≡ a ++ b → news ≡ a' ++ b' → length a' ≡ length a → EachOf P a a' → EachOf P b b' → EachOf P olds news
each_joined P olds news a b a' b' was is long relay_side back =
    subst (λ l. EachOf P l news) (sym was) (subst (λ l. EachOf P (a ++ b) l) (sym is) (each_join P a b a' b' long relay_side back))

-- by place, of the workers of the serving side and of those after them
pub links_joined : {H : Type 0} (seen : H → HandleSeen) (share : H → List ℕ) (olds news a b a' b' : List (RelayJob H)) → olds ≡ a ++ b → news ≡ a' ++ b' → length a' ≡ length a
    → EachOf (LinkRelayed seen share) a a' → EachOf (LinkRelayed seen share) b b' → EachOf (LinkRelayed seen share) olds news
links_joined seen share olds news a b a' b' was is long relay_side back = each_joined (LinkRelayed seen share) olds news a b a' b' was is long relay_side back

-- a worker that did nothing
pub links_still : {H : Type 0} (seen : H → HandleSeen) (share : H → List ℕ) (jobs : List (RelayJob H)) → EachOf (LinkRelayed seen share) jobs jobs
links_still seen share jobs i d within =
    let here : HandleSeen = seen (slice_index_or jobs i d).post in
    record { posts = adds_none IsOfCall here.made here.made refl; same_share = refl }

relayed_one : {H : Type 0} (seat_of : H → SeatSeen Entry) (errors : H → ℕ) (last : H → Option PostError) (lock : LockId) (before after : RelayJob H)
    → LinkRelayed (seen_by (λ h. entries_of (seat_of h).own) errors last) (λ h. share_of (seat_of h)) before after → IsFresh lock (seat_of before.post) → IsRelayHandle lock (seat_of after.post)
relayed_one seat_of errors last lock before after done fresh = record {
  one = one_still lock (seat_of before.post) (seat_of after.post) done.same_share fresh.one;
  calls = calls_own (seat_of after.post).own (subst (λ (l : List (ℕ × Entry)). AddsOnly IsOfCall (entries_of l) (entries_of (seat_of after.post).own)) fresh.own done.posts);
}

pub relayed : {H : Type 0} (seat_of : H → SeatSeen Entry) (errors : H → ℕ) (last : H → Option PostError) (lock : LockId) (olds news : List (RelayJob H)) → length news ≡ length olds
    → ((i : ℕ) (d : RelayJob H) → i < length olds → LinkRelayed (seen_by (λ h. entries_of (seat_of h).own) errors last) (λ h. share_of (seat_of h)) (slice_index_or olds i d) (slice_index_or news i d))
    → AllByRecursion (IsFresh lock) (map (λ j. seat_of j.post) olds) → AllByRecursion (IsRelayHandle lock) (map (λ j. seat_of j.post) news)
relayed seat_of errors last lock [] [] long each fresh = tt
relayed seat_of errors last lock [] (new ∷ news) long each fresh = absurd (omega (arith, long))
relayed seat_of errors last lock (old ∷ olds) [] long each fresh = absurd (omega (arith, long))
relayed seat_of errors last lock (old ∷ olds) (new ∷ news) long each fresh = (
  relayed_one seat_of errors last lock old new (each 0 old (omega arith)) fresh.0,
  relayed seat_of errors last lock olds news (omega (arith, long)) (λ i d within. each (suc i) d (omega (arith, within))) fresh.1,
)

pub relay_ones : (lock : LockId) (seats : List (SeatSeen Entry)) → AllByRecursion (IsRelayHandle lock) seats → AllByRecursion (IsOne lock) seats
relay_ones lock [] all = tt
relay_ones lock (s ∷ seats) all = (all.0.one, relay_ones lock seats all.1)

relay_calls : (lock : LockId) (seats : List (SeatSeen Entry)) → AllByRecursion (IsRelayHandle lock) seats → AllByRecursion EntriesAreOfCalls (owns_of seats)
relay_calls lock [] all = tt
relay_calls lock (s ∷ seats) all = (all.0.calls, relay_calls lock seats all.1)

owns_long : (l : List (SeatSeen Entry)) → length (owns_of l) ≡ length l
owns_long [] = refl
owns_long (s ∷ l) = ap suc (owns_long l)

-- the Shutdown after the links
pub relay_side_done : {H : Type 0} (seat_of : H → SeatSeen Entry) (before after : RelaySide H) (made shut : Outcome) (mid : SeatSeen Entry) (seats : List (SeatSeen Entry)) → after.outcome ≡ graver made shut
    → AllByRecursion (IsRelayHandle (seat_of before.closer).lock) seats → length seats ≡ length before.jobs.items → TakesIn (seat_of before.closer) (owns_of seats) mid → Shuts shut mid (seat_of after.closer) → RelaySideDone seat_of before after
relay_side_done seat_of before after made shut mid seats is all long takes shuts = record {
  lock = shuts.lock ∙ takes.lock;
  parts = shuts.parts ∙ takes.parts ∙ ap (λ (n : ℕ). (seat_of before.closer).parts + n) (owns_long seats ∙ long);
  owns = owns_of seats;
  count = owns_long seats ∙ long;
  calls = relay_calls (seat_of before.closer).lock seats all;
  closes = closes_taken shut after.outcome (owns_of seats) (seat_of before.closer) mid (seat_of after.closer) (λ whole. (graver_whole made shut (sym is ∙ whole)).1) takes shuts;
}

-- ---- the run

-- as many handles as jobs
pub seats_length : {H N L D : Type 0} (jobs : List (LinkJob H N L D)) (seat_of : H → SeatSeen Entry) → length jobs ≡ length (seats_in seat_of jobs)
seats_length [] seat_of = refl
seats_length (job ∷ jobs) seat_of = ap suc (seats_length jobs seat_of)

pub kept_beside : {H N L D : Type 0} (seat_of : H → SeatSeen Entry) (coming : N → Option (List (List ℕ))) (links l : Linkers H N L D) (before after : RelaySide H) → KeepsDone seat_of coming links l → RelaySideDone seat_of before after
    → AllByRecursion (IsFresh (seat_of before.closer).lock) (seats_in seat_of links.jobs.items) → AllZip (IsKept (seat_of after.closer).lock) (keepers_in coming links.jobs.items) (seats_in seat_of l.jobs.items)
kept_beside seat_of coming links l before after keeps relay_side fresh =
    subst (λ (lock : LockId). AllZip (IsKept lock) (keepers_in coming links.jobs.items) (seats_in seat_of l.jobs.items)) (sym relay_side.lock) (keeps.kept (seat_of before.closer).lock fresh)

-- what a run left of a handle of which others were split off before
pub left_links : {H : Type 0} (seat_of : H → SeatSeen Entry) (lock : LockId) (held : List (Option (List (List ℕ)))) (config : Option (List ℕ)) (o : Outcome) (count beside : ℕ) (keepers : List Keeper) (before after : RelaySide H) (links others : List (SeatSeen Entry)) (seat mid out : SeatSeen Entry)
    → DialersAreGiven held config keepers seat → IsStarted lock links seat → Splits seat others mid → seat_of before.closer ≡ mid → length before.jobs.items ≡ count → length others ≡ count → beside ≡ length links → RelaySideDone seat_of before after
    → out.lock ≡ (seat_of after.closer).lock → out.parts ≡ (seat_of after.closer).parts + beside
    → ((owns : List (List (ℕ × Entry))) (seen : List Entry) (own : List (ℕ × Entry)) → Closes after.outcome owns seen own (seat_of after.closer) → Leaves o keepers owns seen own out) → LeavesLinks lock held config o count out
left_links seat_of lock held config o count beside keepers before after links others seat mid out given started splits same jobs mine all relay_side locks parts leaves = record {
  owns = relay_side.owns;
  count = relay_side.count ∙ jobs;
  calls = relay_side.calls;
  left = left_by lock held config o keepers relay_side.owns links others seat mid (seat_of before.closer) out given started splits same (locks ∙ relay_side.lock)
      (let made = relay_side.parts in omega (arith, parts, made, jobs, mine, all)) (leaves relay_side.owns (seat_of before.closer).seen (seat_of before.closer).own relay_side.closes);
}

-- the same of a run over a world, which says what its dialers hold
pub left_world : {X E : Type 0} (lock : LockId) (held reported : List (Option (List (List ℕ)))) (config : Option (List ℕ)) (links : ℕ) (keepers : List Keeper) (seat : SeatSeen Entry) (result : Result (SeatSeen Entry × Outcome × X) E) → held ≡ reported → DialersAreGiven held config keepers seat
    → IfOk result (λ r. (h : List (Option (List (List ℕ)))) (g : Option (List ℕ)) → DialersAreGiven h g keepers seat → LeavesLinks lock h g r.1 links r.0) → IfOk result (λ r. LeavesLinks lock reported config r.1 links r.0)
left_world lock held reported config links keepers seat (Ok r) same given left = subst (λ (h : List (Option (List (List ℕ)))). LeavesLinks lock h config r.1 links r.0) same (left held config given)
left_world lock held reported config links keepers seat (Err e) same given left = tt

-- and what was said stays so of a handle that has seen all that
pub relay_side_reported : {X Y E : Type 0} (t : Target) (config : Option (List ℕ)) (seat : SeatSeen Entry) (result : Result (SeatSeen Entry × X × Y) E) → ReportsTarget t config seat.seen → IfOk result (λ r. StartsWith r.0.seen seat.seen) → IfOk result (λ r. ReportsTarget t config r.0.seen)
relay_side_reported t config seat (Ok r) reported sees = reported_stays t config r.0.seen seat.seen sees reported
relay_side_reported t config seat (Err e) reported sees = tt
