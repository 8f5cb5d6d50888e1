-- Entries with their places: those of one handle, and those of one that took others in.
use Rattle.std.proofs.Common.{◌≡◌, ◌∙◌, ◌≤◌, ◌==◌, ℕ, zero, suc, ◌+◌, Bool, true, false, if◌then◌else◌, Option, Some, slice_get, List, [], ◌∷◌, ◌++◌, ap, arith, length, map, refl, sym, subst}
use Rattle.std.specs.List.{AllByRecursion}
use Rattle.std.specs.Option.{option_to_list}
use Rattle.std.proofs.lemmas.Bool.Decides.{nat_tests}
use Rattle.std.proofs.lemmas.List.{length-append, map-append}
use Rattle.std.proofs.lemmas.Option.{same_Some}
use Rattle.grpc_base.specs.declared.event.Entry.{Entry}
use Rattle.turn_lock.specs.History.{Ascends, LockId, SeatSeen, Stands, StartsWith, merged, places, times}
use Rattle.turn_lock.specs.Turn.{Sees}
use Rattle.turn_lock.proofs.Places.{stands-later, starts_longer, starts_self, times-merged}
use Rattle.live_channel.specs.Sharing.{times_in}
use Rattle.live_channel.specs.Handles.{IsOne, StandInOrder, TakesIn, owns_of}

-- ---- lists

pub each_snoc : {X : Type 0} (P : X → Type 0) (xs : List X) (x : X) → AllByRecursion P xs → P x → AllByRecursion P (xs ++ x ∷ [])
each_snoc P [] x all here = (here, tt)
each_snoc P (y ∷ ys) x all here = (all.0, each_snoc P ys x all.1 here)

pub each_prefix : {X : Type 0} (P : X → Type 0) (xs : List X) (x : X) → AllByRecursion P (xs ++ x ∷ []) → AllByRecursion P xs × P x
each_prefix P [] x all = (tt, all.0)
each_prefix P (y ∷ ys) x all = let both = each_prefix P ys x all.1 in ((all.0, both.0), both.1)

pub each_weaker : {X : Type 0} (P Q : X → Type 0) → ((x : X) → P x → Q x) → (xs : List X) → AllByRecursion P xs → AllByRecursion Q xs
each_weaker P Q leads [] all = tt
each_weaker P Q leads (x ∷ xs) all = (leads x all.0, each_weaker P Q leads xs all.1)

pub each_unmap : {X Y : Type 0} (P : Y → Type 0) (f : X → Y) (xs : List X) → AllByRecursion P (map f xs) → AllByRecursion (λ x. P (f x)) xs
each_unmap P f [] all = tt
each_unmap P f (x ∷ xs) all = (all.0, each_unmap P f xs all.1)

times_in_snoc : (x : ℕ) (owns : List (List (ℕ × Entry))) (own : List (ℕ × Entry)) → times_in x (owns ++ own ∷ []) ≡ times_in x owns + times x own
times_in_snoc x [] own = omega arith
times_in_snoc x (first ∷ owns) own = let more = times_in_snoc x owns own in omega (arith, more)

-- ---- what a handle took in

pub stand_later : (history later : List Entry) (own : List (ℕ × Entry)) → StartsWith later history → StandInOrder history own → StandInOrder later own
stand_later history later own starts stand = record { stands = stands-later history later own starts stand.stands; ascends = stand.ascends }

pub all_stand_later : (history later : List Entry) (owns : List (List (ℕ × Entry))) → StartsWith later history → AllByRecursion (StandInOrder history) owns → AllByRecursion (StandInOrder later) owns
all_stand_later history later owns starts all = each_weaker (StandInOrder history) (StandInOrder later) (λ own stand. stand_later history later own starts stand) owns all

pub takes_none : (seat : SeatSeen Entry) → TakesIn seat [] seat
takes_none seat = record { lock = refl; parts = omega arith; sees = starts_self seat.seen; each = tt; count = λ x. omega arith }

-- another one, before these
takes_more : (before mid after other : SeatSeen Entry) (owns : List (List (ℕ × Entry))) → other.parts ≡ 1
    → mid ≡ record before { seen = mid.seen; own = merged before.own other.own; parts = before.parts + other.parts } → StartsWith mid.seen before.seen → StandInOrder mid.seen other.own
    → TakesIn mid owns after → TakesIn before (owns ++ other.own ∷ []) after
takes_more before mid after other owns one is sees stand takes =
    let own : mid.own ≡ merged before.own other.own = ap (λ (s : SeatSeen Entry). s.own) is in
    let parts : mid.parts ≡ before.parts + other.parts = ap (λ (s : SeatSeen Entry). s.parts) is in
    let long : length (owns ++ other.own ∷ []) ≡ length owns + 1 = length-append owns (other.own ∷ []) in
    record {
      lock = takes.lock ∙ ap (λ (s : SeatSeen Entry). s.lock) is;
      parts = let rest = takes.parts in omega (arith, rest, parts, one, long);
      sees = starts_longer before.seen mid.seen after.seen sees takes.sees;
      each = each_snoc (StandInOrder after.seen) owns other.own takes.each (stand_later mid.seen after.seen other.own takes.sees stand);
      count = λ x.
          let rest = takes.count x in
          let here : times x mid.own ≡ times x before.own + times x other.own = ap (times x) own ∙ times-merged x before.own other.own in
          let all = times_in_snoc x owns other.own in omega (arith, rest, here, all);
    }

owns_snoc : {X : Type 0} (seat_of : X → SeatSeen Entry) (left : List X) (job : X) → owns_of (map seat_of (left ++ job ∷ [])) ≡ owns_of (map seat_of left) ++ (seat_of job).own ∷ []
owns_snoc seat_of left job =
    ap owns_of (map-append seat_of left (job ∷ [])) ∙ map-append (λ (s : SeatSeen Entry). s.own) (map seat_of left) (seat_of job ∷ [])

-- the last of those that are left is taken in
pub takes_popped : {X : Type 0} (seat_of : X → SeatSeen Entry) (start before mid : SeatSeen Entry) (all jobs left : List X) (job : X) → jobs ≡ left ++ job ∷ [] → (seat_of job).parts ≡ 1
    → mid ≡ record before { seen = mid.seen; own = merged before.own (seat_of job).own; parts = before.parts + (seat_of job).parts } → StartsWith mid.seen before.seen → StandInOrder mid.seen (seat_of job).own
    → ((z : SeatSeen Entry) → TakesIn before (owns_of (map seat_of jobs)) z → TakesIn start (owns_of (map seat_of all)) z)
    → (z : SeatSeen Entry) → TakesIn mid (owns_of (map seat_of left)) z → TakesIn start (owns_of (map seat_of all)) z
takes_popped {X} seat_of start before mid all jobs left job split one is sees stand so_far z takes =
    so_far z (subst (λ (owns : List (List (ℕ × Entry))). TakesIn before owns z) (sym (ap (λ (l : List X). owns_of (map seat_of l)) split ∙ owns_snoc seat_of left job))
    (takes_more before mid z (seat_of job) (owns_of (map seat_of left)) one is sees stand takes))

-- the last handle of a list is popped
popped_all : {X : Type 0} (P : SeatSeen Entry → Type 0) (seat_of : X → SeatSeen Entry) (jobs left : List X) (last : Option X) (job : X) → jobs ≡ left ++ option_to_list last → last ≡ Some job → AllByRecursion P (map seat_of jobs) → AllByRecursion P (map seat_of left) × P (seat_of job)
popped_all {X} P seat_of jobs left last job split is all =
    let whole : jobs ≡ left ++ job ∷ [] = split ∙ ap (λ (o : Option X). left ++ option_to_list o) is in
    each_prefix P (map seat_of left) (seat_of job) (subst (λ (l : List (SeatSeen Entry)). AllByRecursion P l) (ap (map seat_of) whole ∙ map-append seat_of left (job ∷ [])) all)

pub popped_lock : {H X : Type 0} (seat_of : H → SeatSeen Entry) (handle : X → H) (lock : LockId) (jobs left : List X) (last : Option X) (job : X) (post : H) (seat : SeatSeen Entry) → jobs ≡ left ++ option_to_list last → last ≡ Some job → post ≡ handle job → seat ≡ seat_of post
    → AllByRecursion (IsOne lock) (map (λ j. seat_of (handle j)) jobs) → seat.lock ≡ lock
popped_lock seat_of handle lock jobs left last job post seat split is same given ones =
    ap (λ (s : SeatSeen Entry). s.lock) (given ∙ ap seat_of same) ∙ (popped_all (IsOne lock) (λ j. seat_of (handle j)) jobs left last job split is ones).1.lock_is

-- and taken in
pub popped_taken : {H X : Type 0} (seat_of : H → SeatSeen Entry) (handle : X → H) (start closer mid : SeatSeen Entry) (all jobs left : List X) (last : Option X) (job : X) (post : H) (seat : SeatSeen Entry) → jobs ≡ left ++ option_to_list last → last ≡ Some job → post ≡ handle job → seat ≡ seat_of post
    → mid ≡ record closer { seen = mid.seen; own = merged closer.own seat.own; parts = closer.parts + seat.parts } → Sees closer mid → Stands mid.seen seat.own × Ascends 0 seat.own → AllByRecursion (IsOne closer.lock) (map (λ j. seat_of (handle j)) jobs)
    → ((z : SeatSeen Entry) → TakesIn closer (owns_of (map (λ j. seat_of (handle j)) jobs)) z → TakesIn start (owns_of (map (λ j. seat_of (handle j)) all)) z)
    → AllByRecursion (IsOne mid.lock) (map (λ j. seat_of (handle j)) left) × ((z : SeatSeen Entry) → TakesIn mid (owns_of (map (λ j. seat_of (handle j)) left)) z → TakesIn start (owns_of (map (λ j. seat_of (handle j)) all)) z)
popped_taken {H} {X} seat_of handle start closer mid all jobs left last job post seat split is same given joined sees stand ones so_far =
    let whole : jobs ≡ left ++ job ∷ [] = split ∙ ap (λ (o : Option X). left ++ option_to_list o) is in
    let seats : seat ≡ seat_of (handle job) = given ∙ ap seat_of same in
    let both = popped_all (IsOne closer.lock) (λ j. seat_of (handle j)) jobs left last job split is ones in
    let lock : mid.lock ≡ closer.lock = ap (λ (s : SeatSeen Entry). s.lock) joined in (
      subst (λ (l : LockId). AllByRecursion (IsOne l) (map (λ j. seat_of (handle j)) left)) (sym lock) both.0,
      takes_popped (λ j. seat_of (handle j)) start closer mid all jobs left job whole both.1.parts
          (subst (λ (s : SeatSeen Entry). mid ≡ record closer { seen = mid.seen; own = merged closer.own s.own; parts = closer.parts + s.parts }) seats joined) sees.later
          (subst (λ (s : SeatSeen Entry). StandInOrder mid.seen s.own) seats (record { stands = stand.0; ascends = stand.1 })) so_far,
    )

-- none is left
pub taken_all : {H X : Type 0} (seat_of : H → SeatSeen Entry) (handle : X → H) (start closer : SeatSeen Entry) (all jobs : List X) → length jobs ≡ 0
    → ((z : SeatSeen Entry) → TakesIn closer (owns_of (map (λ j. seat_of (handle j)) jobs)) z → TakesIn start (owns_of (map (λ j. seat_of (handle j)) all)) z) → TakesIn start (owns_of (map (λ j. seat_of (handle j)) all)) closer
taken_all seat_of handle start closer all [] none so_far = so_far closer (takes_none closer)
taken_all seat_of handle start closer all (job ∷ jobs) none so_far = absurd (omega (arith, none))

owns_length : {X : Type 0} (seat_of : X → SeatSeen Entry) (jobs : List X) → length (owns_of (map seat_of jobs)) ≡ length jobs
owns_length seat_of [] = refl
owns_length seat_of (job ∷ jobs) = ap suc (owns_length seat_of jobs)

pub parts_taken : {H X : Type 0} (seat_of : H → SeatSeen Entry) (handle : X → H) (before after seat : SeatSeen Entry) (jobs : List X) → seat.parts ≡ after.parts → TakesIn before (owns_of (map (λ j. seat_of (handle j)) jobs)) after → seat.parts ≡ before.parts + length jobs
parts_taken seat_of handle before after seat jobs same takes = same ∙ takes.parts ∙ ap (λ (n : ℕ). before.parts + n) (owns_length (λ j. seat_of (handle j)) jobs)

-- ---- an entry at a place

pub zero_of : (n : ℕ) → (1 ≤ n → ⊥) → n ≡ 0
zero_of zero none = refl
zero_of (suc n) none = absurd (none (omega arith))

-- the entry at a place of these is one of them
found_by : (Q : Entry → Type 0) (history : List Entry) (p : ℕ × Entry) (n x : ℕ) (e : Entry) → slice_get history p.0 ≡ Some p.1 → Q p.1 → slice_get history x ≡ Some e → (1 ≤ n → Q e) → (b : Bool) → (p.0 == x) ≡ b → 1 ≤ (if b then 1 else 0) + n → Q e
found_by Q history p n x e stands here at later true is some =
    let same : p.0 ≡ x = grind (arith, nat_tests) in
    subst Q (same_Some p.1 e (sym stands ∙ ap (slice_get history) same ∙ at)) here
found_by Q history p n x e stands here at later false is some = later (omega (arith, some))

pub found : (Q : Entry → Type 0) (history : List Entry) (own : List (ℕ × Entry)) (x : ℕ) (e : Entry) → Stands history own → AllByRecursion (λ p. Q p.1) own → 1 ≤ times x own → slice_get history x ≡ Some e → Q e
found Q history [] x e stands each some at = absurd (omega (arith, some))
found Q history (p ∷ own) x e stands each some at =
    found_by Q history p (times x own) x e stands.0 each.0 at (λ more. found Q history own x e stands.1 each.1 more at) (p.0 == x) refl some

pub one_of : (Q : Type 0) (n m : ℕ) → 1 ≤ n + m → (1 ≤ n → Q) → (1 ≤ m → Q) → Q
one_of Q zero m some here later = later (omega (arith, some))
one_of Q (suc n) m some here later = here (omega arith)

pub found_in : (Q : Entry → Type 0) (history : List Entry) (owns : List (List (ℕ × Entry))) (x : ℕ) (e : Entry) → AllByRecursion (StandInOrder history) owns → AllByRecursion (λ own. AllByRecursion (λ p. Q p.1) own) owns
    → 1 ≤ times_in x owns → slice_get history x ≡ Some e → Q e
found_in Q history [] x e stand each some at = absurd (omega (arith, some))
found_in Q history (own ∷ owns) x e stand each some at =
    one_of (Q e) (times x own) (times_in x owns) some (λ here. found Q history own x e stand.0.stands each.0 here at) (λ later. found_in Q history owns x e stand.1 each.1 later at)

-- the place of one entry
pub placed : (n x : ℕ) (e : Entry) → 1 ≤ times x (places n (e ∷ [])) → x ≡ n
placed n x e some = by_place (n == x) refl some
  where
    by_place : (b : Bool) → (n == x) ≡ b → 1 ≤ (if b then 1 else 0) + 0 → x ≡ n
    by_place true is within = grind (arith, nat_tests)
    by_place false is within = absurd (omega (arith, within))
