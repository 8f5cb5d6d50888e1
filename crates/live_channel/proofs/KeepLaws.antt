-- What the workers beside the calls did, by their handles.
use Rattle.std.proofs.Common.{◌≡◌, ◌∙◌, ◌<◌, ℕ, suc, Option, Some, List, [], ◌∷◌, ◌++◌, ap, arith, drop, length, map, refl, slice_index_or, subst, sym, take}
use Rattle.std.proofs.Math.Seq.{take-append_seam}
use Rattle.std.proofs.lemmas.List.{drop_at}
use Rattle.std.specs.List.{AllByRecursion, AllZip, fold}
use Rattle.atomic_table.specs.Seated.{TableId}
use Rattle.grpc_base.specs.declared.event.Entry.{Entry}
use Rattle.grpc_base.specs.declared.post.Look.{Look}
use Rattle.grpc_base.specs.declared.post.PostError.{PostError}
use Rattle.live_pump.specs.Prefixes.{ArrivesBefore, IsPrefix, Unopened, reported_by}
use Rattle.live_pump.specs.Kinds.{IsOfLinks}
use Rattle.live_pump.specs.Pumps.{HandleSeen}
use Rattle.live_run.specs.Sides.{IsOfNames, LinkDone, seen_by}
use Rattle.live_run.specs.declared.link_job.LinkJob.{LinkJob}
use Rattle.live_run.specs.declared.link_job.LinkJob.TheVariants as job
use Rattle.shared_channel.specs.Turns.{entries_of, share_of}
use Rattle.turn_lock.specs.History.{LockId, SeatSeen}
use Rattle.live_channel.specs.Handles.{IsFresh, IsKept, IsOne, Keeper, handle_in, keeper_in}
use Rattle.live_channel.proofs.EventLaws.{kind_own}

-- ---- the share of a handle names its lock, and says its parts

abbrev lock_in : List ℕ → LockId
lock_in (parts ∷ (words ∷ (slots ∷ (views_name ∷ (atom ∷ (block ∷ (offset ∷ (count ∷ numbers)))))))) =
    let table : TableId = record { words = words; slots = slots; views_name = views_name; atom = atom; block = block; offset = offset; slot_names = take count numbers } in
    record { table = table; origin = drop count numbers }
lock_in _ =
    let table : TableId = record { words = 0; slots = 0; views_name = 0; atom = 0; block = 0; offset = 0; slot_names = [] } in
    record { table = table; origin = [] }

lock_back : (s : SeatSeen Entry) → lock_in (share_of s) ≡ s.lock
lock_back s =
    let t : TableId = s.lock.table in
    let names : take (length t.slot_names) (t.slot_names ++ s.lock.origin) ≡ t.slot_names = take-append_seam t.slot_names s.lock.origin in
    let origin : drop (length t.slot_names) (t.slot_names ++ s.lock.origin) ≡ s.lock.origin = drop_at t.slot_names s.lock.origin (length t.slot_names) refl in
    λ i. record {
      table = record { words = t.words; slots = t.slots; views_name = t.views_name; atom = t.atom; block = t.block; offset = t.offset; slot_names = names i };
      origin = origin i;
    }

abbrev parts_in : List ℕ → ℕ
parts_in [] = 0
parts_in (parts ∷ more) = parts

pub one_still : (lock : LockId) (before after : SeatSeen Entry) → share_of after ≡ share_of before → IsOne lock before → IsOne lock after
one_still lock before after same one = record {
  lock_is = let locks : after.lock ≡ before.lock = sym (lock_back after) ∙ ap lock_in same ∙ lock_back before in locks ∙ one.lock_is;
  parts = let parts : after.parts ≡ before.parts = ap parts_in same in parts ∙ one.parts;
}

-- ---- those beside the calls

-- what came, where the handle had made nothing before
came_as_held : (held : Option (List (List ℕ))) (before after : HandleSeen) → before.made ≡ [] → ArrivesBefore held before after
    → (coming : List (List ℕ)) → held ≡ Some coming → (link : ℕ) → IsPrefix (fold (reported_by link) (record { link_history = Unopened; coming = coming }) after.made).link_history
came_as_held held before after none arrives coming is link =
    subst (λ (l : List Entry). IsPrefix (fold (reported_by link) (record { link_history = Unopened; coming = coming }) l).link_history) (sym (arrives.made ∙ ap (λ (l : List Entry). l ++ arrives.more) none)) (arrives.prefixes coming is link)

kept_one : {H N L D : Type 0} (seat_of : H → SeatSeen Entry) (errors : H → ℕ) (last : H → Option PostError) (look : H → Option Look) (coming : N → Option (List (List ℕ))) (lock : LockId) (before after : LinkJob H N L D)
    → LinkDone (seen_by (λ h. entries_of (seat_of h).own) errors last) (λ h. share_of (seat_of h)) look coming before after → IsFresh lock (seat_of (handle_in before)) → IsKept lock (keeper_in coming before) (seat_of (handle_in after))
kept_one seat_of errors last look coming lock (job.Net before) (job.Net after) done fresh = record {
  one = one_still lock (seat_of before.post) (seat_of after.post) done.same_share fresh.one;
  keeps = (
    kind_own IsOfLinks (seat_of before.post).own (seat_of after.post).own fresh.own done.posts,
    came_as_held (coming before.dialer) (seen_by (λ h. entries_of (seat_of h).own) errors last before.post) (seen_by (λ h. entries_of (seat_of h).own) errors last after.post) (ap entries_of fresh.own) done.prefixes,
  );
}
kept_one seat_of errors last look coming lock (job.Name before) (job.Name after) done fresh = record {
  one = one_still lock (seat_of before.post) (seat_of after.post) done.same_share fresh.one;
  keeps = kind_own (IsOfNames before.config) (seat_of before.post).own (seat_of after.post).own fresh.own done.posts;
}
kept_one seat_of errors last look coming lock (job.Net before) (job.Name after) done fresh = absurd done
kept_one seat_of errors last look coming lock (job.Name before) (job.Net after) done fresh = absurd done

pub kept : {H N L D : Type 0} (seat_of : H → SeatSeen Entry) (errors : H → ℕ) (last : H → Option PostError) (look : H → Option Look) (coming : N → Option (List (List ℕ))) (lock : LockId) (olds news : List (LinkJob H N L D)) → length news ≡ length olds
    → ((i : ℕ) (d : LinkJob H N L D) → i < length olds → LinkDone (seen_by (λ h. entries_of (seat_of h).own) errors last) (λ h. share_of (seat_of h)) look coming (slice_index_or olds i d) (slice_index_or news i d))
    → AllByRecursion (IsFresh lock) (map (λ j. seat_of (handle_in j)) olds) → AllZip (IsKept lock) (map (λ j. keeper_in coming j) olds) (map (λ j. seat_of (handle_in j)) news)
kept seat_of errors last look coming lock [] [] long each fresh = tt
kept seat_of errors last look coming lock [] (new ∷ news) long each fresh = absurd (omega (arith, long))
kept seat_of errors last look coming lock (old ∷ olds) [] long each fresh = absurd (omega (arith, long))
kept seat_of errors last look coming lock (old ∷ olds) (new ∷ news) long each fresh = (
  kept_one seat_of errors last look coming lock old new (each 0 old (omega arith)) fresh.0,
  kept seat_of errors last look coming lock olds news (omega (arith, long)) (λ i d within. each (suc i) d (omega (arith, within))) fresh.1,
)

pub kept_ones : (lock : LockId) (keepers : List Keeper) (seats : List (SeatSeen Entry)) → AllZip (IsKept lock) keepers seats → AllByRecursion (IsOne lock) seats
kept_ones lock [] [] all = tt
kept_ones lock [] (s ∷ seats) all = absurd all
kept_ones lock (keeper ∷ keepers) [] all = absurd all
kept_ones lock (keeper ∷ keepers) (s ∷ seats) all = (all.0.one, kept_ones lock keepers seats all.1)
