-- What the workers of each side did, by their handles.
use Rattle.std.proofs.Common.{◌≡◌, ◌∙◌, ◌<◌, ◌+◌, ℕ, zero, suc, Option, Some, List, [], ◌∷◌, ◌++◌, ap, arith, inr, length, length-append, map, refl, slice_index_or, sym, subst}
use Rattle.std.specs.List.{AllByRecursion, AllZip}
use Rattle.std.specs.Option.{option_to_list}
use Rattle.grpc_base.specs.declared.event.Entry.{Entry}
use Rattle.grpc_base.specs.declared.post.PostError.{PostError}
use Rattle.grpc_base.specs.declared.script.CallLine.{CallLine}
use Rattle.live_pump.specs.Calls.{LinesPrefix, MakesLines}
use Rattle.live_pump.specs.Pumps.{HandleSeen}
use Rattle.live_run.specs.Outcomes.{MakesCalls, gravest}
use Rattle.live_run.specs.Sides.{CallDone, seen_by}
use Rattle.live_run.specs.declared.jobs.CallJob.{CallJob}
use Rattle.live_run.specs.declared.outcome.Outcome.{Outcome}
use Rattle.live_run.specs.declared.outcome.Outcome.TheVariants as outcome
use Rattle.shared_channel.specs.Turns.{entries_of, share_of}
use Rattle.turn_lock.specs.History.{LockId, SeatSeen}
use Rattle.live_channel.specs.Handles.{Closes, IsFresh, IsKept, IsOne, Keeper, Leaves, keepers_in, seats_in}
use Rattle.live_channel.specs.Keeping.{KeepsDone}
use Rattle.live_channel.specs.declared.linkers.Linkers.{Linkers}
use Rattle.live_channel.proofs.KeepLaws.{kept_ones, one_still}
use Rattle.live_channel.proofs.ShareLaws.{graver_whole}
use Rattle.live_mode.specs.Handles.{IsWorked, MakesUpTo}
use Rattle.live_mode.specs.Sides.{IsReady, MakesDone, RunDone, SideDone}
use Rattle.live_mode.specs.declared.sides.Callers.{Callers}
use Rattle.live_mode.specs.declared.sides.Side.{Side}
use Rattle.live_mode.specs.declared.sides.Side.TheVariants as side
use Rattle.live_mode.proofs.CarriedLaws.{all_worse, up_to_worse}

-- ---- those that make calls

made_up_to : (o : Outcome) (lines : List CallLine) (before after : HandleSeen) → before.made ≡ [] → MakesCalls lines before after o → MakesUpTo o lines after.made
made_up_to outcome.Whole lines before after none makes = subst (λ (l : List Entry). MakesLines lines l after.made) none makes.0
made_up_to outcome.Full lines before after none makes = inr (subst (λ (l : List Entry). LinesPrefix lines l after.made) none makes.0)
made_up_to outcome.NoMemory lines before after none makes = inr (subst (λ (l : List Entry). LinesPrefix lines l after.made) none makes.0)

worked_one : {H : Type 0} (seat_of : H → SeatSeen Entry) (errors : H → ℕ) (last : H → Option PostError) (lock : LockId) (o : Outcome) (before after : CallJob H)
    → CallDone (seen_by (λ h. entries_of (seat_of h).own) errors last) (λ h. share_of (seat_of h)) before after → (o ≡ outcome.Whole → after.outcome ≡ outcome.Whole) → IsFresh lock (seat_of before.post)
    → IsWorked lock o before.lines.items (seat_of after.post)
worked_one seat_of errors last lock o before after done worse fresh = record {
  one = one_still lock (seat_of before.post) (seat_of after.post) done.same_share fresh.one;
  makes = up_to_worse after.outcome o worse before.lines.items (entries_of (seat_of after.post).own)
      (made_up_to after.outcome before.lines.items (seen_by (λ h. entries_of (seat_of h).own) errors last before.post) (seen_by (λ h. entries_of (seat_of h).own) errors last after.post)
      (ap entries_of fresh.own) done.makes);
}

pub worked : {H : Type 0} (seat_of : H → SeatSeen Entry) (errors : H → ℕ) (last : H → Option PostError) (lock : LockId) (o : Outcome) (olds news : List (CallJob H)) → length news ≡ length olds
    → ((i : ℕ) (d : CallJob H) → i < length olds → CallDone (seen_by (λ h. entries_of (seat_of h).own) errors last) (λ h. share_of (seat_of h)) (slice_index_or olds i d) (slice_index_or news i d))
    → (o ≡ outcome.Whole → gravest (map (λ j. j.outcome) news) ≡ outcome.Whole) → AllByRecursion (IsFresh lock) (map (λ j. seat_of j.post) olds)
    → AllZip (IsWorked lock o) (map (λ j. j.lines.items) olds) (map (λ j. seat_of j.post) news)
worked seat_of errors last lock o [] [] long each worse fresh = tt
worked seat_of errors last lock o [] (new ∷ news) long each worse fresh = absurd (omega (arith, long))
worked seat_of errors last lock o (old ∷ olds) [] long each worse fresh = absurd (omega (arith, long))
worked seat_of errors last lock o (old ∷ olds) (new ∷ news) long each worse fresh = (
  worked_one seat_of errors last lock o old new (each 0 old (omega arith)) (λ whole. (graver_whole new.outcome (gravest (map (λ j. j.outcome) news)) (worse whole)).0) fresh.0,
  worked seat_of errors last lock o olds news (omega (arith, long)) (λ i d within. each (suc i) d (omega (arith, within)))
      (λ whole. (graver_whole new.outcome (gravest (map (λ j. j.outcome) news)) (worse whole)).1) fresh.1,
)

pub worked_ones : (lock : LockId) (o : Outcome) (groups : List (List CallLine)) (seats : List (SeatSeen Entry)) → AllZip (IsWorked lock o) groups seats → AllByRecursion (IsOne lock) seats
worked_ones lock o [] [] all = tt
worked_ones lock o [] (s ∷ seats) all = absurd all
worked_ones lock o (lines ∷ groups) [] all = absurd all
worked_ones lock o (lines ∷ groups) (s ∷ seats) all = (all.0.one, worked_ones lock o groups seats all.1)

-- ---- both sides, out of the list of the sides

of_kinds : {H N L D : Type 0} (seat_of : H → SeatSeen Entry) (coming : N → Option (List (List ℕ))) (links : Linkers H N L D) (calls : Callers H) (a b : Side H N L D) → SideDone seat_of coming (side.Links links) a → SideDone seat_of coming (side.Calls calls) b → (l : Linkers H N L D) × (c : Callers H) × (a ∷ b ∷ [] ≡ side.Links l ∷ side.Calls c ∷ [])
of_kinds seat_of coming links calls (side.Links l) (side.Calls c) kept made = (l, c, refl)
of_kinds seat_of coming links calls (side.Links l) (side.Links k) kept made = absurd made
of_kinds seat_of coming links calls (side.Calls c) b kept made = absurd kept

of_two : {H N L D : Type 0} (seat_of : H → SeatSeen Entry) (coming : N → Option (List (List ℕ))) (links : Linkers H N L D) (calls : Callers H) (new : List (Side H N L D)) → length new ≡ 2 → ((i : ℕ) (d : Side H N L D) → i < 2 → SideDone seat_of coming (slice_index_or (side.Links links ∷ side.Calls calls ∷ []) i d) (slice_index_or new i d))
    → (l : Linkers H N L D) × (c : Callers H) × (new ≡ side.Links l ∷ side.Calls c ∷ [])
of_two seat_of coming links calls [] long each = absurd (omega (arith, long))
of_two seat_of coming links calls (a ∷ []) long each = absurd (omega (arith, long))
of_two seat_of coming links calls (a ∷ (b ∷ [])) long each = of_kinds seat_of coming links calls a b (each 0 a (omega arith)) (each 1 b (omega arith))
of_two seat_of coming links calls (a ∷ (b ∷ (c ∷ more))) long each = absurd (omega (arith, long))

pub still_two : {H N L D : Type 0} (seat_of : H → SeatSeen Entry) (coming : N → Option (List (List ℕ))) (links : Linkers H N L D) (calls : Callers H) (old new : List (Side H N L D)) → old ≡ side.Links links ∷ side.Calls calls ∷ [] → length new ≡ length old
    → ((i : ℕ) (d : Side H N L D) → i < length old → SideDone seat_of coming (slice_index_or old i d) (slice_index_or new i d)) → (l : Linkers H N L D) × (c : Callers H) × (new ≡ side.Links l ∷ side.Calls c ∷ [])
still_two {H} {N} {L} {D} seat_of coming links calls old new is same each =
    of_two seat_of coming links calls new (same ∙ ap length is)
    (subst (λ (xs : List (Side H N L D)). (i : ℕ) (d : Side H N L D) → i < length xs → SideDone seat_of coming (slice_index_or xs i d) (slice_index_or new i d)) is each)

pub both_done : {H N L D : Type 0} (seat_of : H → SeatSeen Entry) (coming : N → Option (List (List ℕ))) (links l : Linkers H N L D) (calls c : Callers H) (old new : List (Side H N L D)) → old ≡ side.Links links ∷ side.Calls calls ∷ [] → new ≡ side.Links l ∷ side.Calls c ∷ []
    → ((i : ℕ) (d : Side H N L D) → i < length old → SideDone seat_of coming (slice_index_or old i d) (slice_index_or new i d)) → KeepsDone seat_of coming links l × MakesDone seat_of calls c
both_done {H} {N} {L} {D} seat_of coming links l calls c old new is now each =
    let here : (i : ℕ) (d : Side H N L D) → i < 2 → SideDone seat_of coming (slice_index_or (side.Links links ∷ side.Calls calls ∷ []) i d) (slice_index_or (side.Links l ∷ side.Calls c ∷ []) i d) =
    subst (λ (ys : List (Side H N L D)). (i : ℕ) (d : Side H N L D) → i < 2 → SideDone seat_of coming (slice_index_or (side.Links links ∷ side.Calls calls ∷ []) i d) (slice_index_or ys i d)) now
    (subst (λ (xs : List (Side H N L D)). (i : ℕ) (d : Side H N L D) → i < length xs → SideDone seat_of coming (slice_index_or xs i d) (slice_index_or new i d)) is each) in
    (here 0 (side.Links l) (omega arith), here 1 (side.Calls c) (omega arith))

pub ready_two : {H N L D : Type 0} (seat_of : H → SeatSeen Entry) (links : Linkers H N L D) (calls : Callers H) (sides : List (Side H N L D)) → sides ≡ side.Links links ∷ side.Calls calls ∷ [] → AllByRecursion (IsFresh (seat_of calls.closer).lock) (map (λ j. seat_of j.post) calls.jobs.items)
    → (i : ℕ) (d : Side H N L D) → i < length sides → IsReady seat_of (slice_index_or sides i d)
ready_two {H} {N} {L} {D} seat_of links calls sides is fresh =
    subst (λ (xs : List (Side H N L D)). (i : ℕ) (d : Side H N L D) → i < length xs → IsReady seat_of (slice_index_or xs i d)) (sym is) by_place
  where
    by_place : (i : ℕ) (d : Side H N L D) → i < 2 → IsReady seat_of (slice_index_or (side.Links links ∷ side.Calls calls ∷ []) i d)
    by_place zero d within = tt
    by_place (suc zero) d within = fresh
    by_place (suc (suc i)) d within = absurd (omega (arith, within))

pub ready_at : {H N L D : Type 0} (seat_of : H → SeatSeen Entry) (x y : Side H N L D) → x ≡ y → IsReady seat_of y → IsReady seat_of x
ready_at seat_of x y same ready = subst (IsReady seat_of) (sym same) ready

pub kept_by : {H N L D : Type 0} (seat_of : H → SeatSeen Entry) (coming : N → Option (List (List ℕ))) (links l : Linkers H N L D) (calls c : Callers H) → KeepsDone seat_of coming links l → MakesDone seat_of calls c → AllByRecursion (IsFresh (seat_of calls.closer).lock) (seats_in seat_of links.jobs.items)
    → AllZip (IsKept (seat_of c.closer).lock) (keepers_in coming links.jobs.items) (seats_in seat_of l.jobs.items)
kept_by seat_of coming links l calls c keeps makes fresh =
    subst (λ (lock : LockId). AllZip (IsKept lock) (keepers_in coming links.jobs.items) (seats_in seat_of l.jobs.items)) (sym makes.lock) (keeps.kept (seat_of calls.closer).lock fresh)

pub ones_by : {H N L D : Type 0} (seat_of : H → SeatSeen Entry) (coming : N → Option (List (List ℕ))) (links l : Linkers H N L D) (calls c : Callers H) → KeepsDone seat_of coming links l → MakesDone seat_of calls c → AllByRecursion (IsFresh (seat_of calls.closer).lock) (seats_in seat_of links.jobs.items)
    → AllByRecursion (IsOne (seat_of c.closer).lock) (seats_in seat_of l.jobs.items)
ones_by seat_of coming links l calls c keeps makes fresh = kept_ones (seat_of c.closer).lock (keepers_in coming links.jobs.items) (seats_in seat_of l.jobs.items) (kept_by seat_of coming links l calls c keeps makes fresh)

pub run_done : {H N L D : Type 0} (seat_of : H → SeatSeen Entry) (coming : N → Option (List (List ℕ))) (links l : Linkers H N L D) (calls c : Callers H) (seat : SeatSeen Entry) (o : Outcome) → KeepsDone seat_of coming links l → MakesDone seat_of calls c → AllByRecursion (IsFresh (seat_of calls.closer).lock) (seats_in seat_of links.jobs.items) → seat.lock ≡ (seat_of c.closer).lock
    → seat.parts ≡ (seat_of c.closer).parts + length l.jobs.items
    → ((keepers : List Keeper) (owns : List (List (ℕ × Entry))) (seen : List Entry) (own : List (ℕ × Entry)) → AllZip (IsKept (seat_of c.closer).lock) keepers (seats_in seat_of l.jobs.items) → Closes c.outcome owns seen own (seat_of c.closer) → Leaves o keepers owns seen own seat)
    → (o ≡ outcome.Whole → c.outcome ≡ outcome.Whole) → RunDone seat_of coming links calls seat o
run_done seat_of coming links l calls c seat o keeps makes fresh lock parts leaves worse = record {
  lock = lock ∙ makes.lock;
  parts = let made = makes.parts in let count = keeps.count in omega (arith, parts, made, count);
  owns = makes.owns;
  makes = all_worse c.outcome o (map (λ j. j.lines.items) calls.jobs.items) makes.owns worse makes.makes;
  leaves = leaves _ _ _ _ (kept_by seat_of coming links l calls c keeps makes fresh) makes.closes;
}

-- two that were popped
pub two_popped : {X : Type 0} (items mid rest : List X) (first last : Option X) (a b : X) → length items ≡ 2 → items ≡ mid ++ option_to_list last → mid ≡ rest ++ option_to_list first → last ≡ Some b → first ≡ Some a → items ≡ a ∷ b ∷ []
two_popped {X} items mid rest first last a b long split split' is is' =
    let all : items ≡ (rest ++ a ∷ []) ++ b ∷ [] = split ∙ ap (λ (o : Option X). mid ++ option_to_list o) is ∙ ap (λ (l : List X). l ++ b ∷ []) (split' ∙ ap (λ (o : Option X). rest ++ option_to_list o) is') in
    all ∙ ap (λ (l : List X). (l ++ a ∷ []) ++ b ∷ []) (none rest (let size = ap length all ∙ length-append (rest ++ a ∷ []) (b ∷ []) in let prefix = length-append rest (a ∷ []) in omega (arith, long, size, prefix)))
  where
    none : {X : Type 0} (l : List X) → length l ≡ 0 → l ≡ []
    none [] empty = refl
    none (x ∷ l) empty = absurd (cc)
