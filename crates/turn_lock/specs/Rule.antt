-- The rule over the table of a lock, which holds between any two steps, and what each kind of step says.
-- Word 0 is the `front`, eight times the length of the published history and its mark. Word 1 is the number of the handle
-- that has the turn, or 0. Word 2 is the next number. The one slot has the state.
use Rattle.std.specs.Prelude.{◌≡◌, ◌≢◌, ◌⊎◌, ℕ, ◌+◌, ◌-◌, ◌*◌, ◌<◌, ◌==◌, true, false, if◌then◌else◌, MatchBool, List, [], ◌∷◌, ◌++◌, length, drop, slice_index, Option, Some}
use mathlib.Core.Option.{Option as Place, some}
use lib.ListN.{get_elem?}
use Rattle.atomic_table.specs.Table.{State, Me, Step}
use Rattle.turn_lock.specs.declared.rule.View.{View}
use Rattle.turn_lock.specs.History.{StartsWith, places, times, merged, Stands, Ascends, once_below, Owns}

-- f of each, added up
abbrev pub total : {V : Type 0} → (V → ℕ) → List V → ℕ
total f [] = 0
total f (v ∷ vs) = f v + total f vs

module _ {S E : Type 0} (entries : S → List E) (origin : S → List ℕ) where
  -- nobody has the turn: the slot is at home, and its state's list is the published history, and its origin is the first state's
  pub record IsFree (root : List ℕ) (word : ℕ) (homes : List (Place (Option S))) (views : List (View E)) (history : List E) : Type 0 where
    pub zero : word ≡ 0
    pub none_has : (i : ℕ) (v : View E) → get_elem? views i ≡ some v → v.turn ≡ false
    pub state : S
    pub home : get_elem? homes 0 ≡ some (some (Some state))
    pub whole : entries state ≡ history
    pub rooted : origin state ≡ root

module _ {E : Type 0} where
  -- one view has the turn; the word is its number, and it has seen the published history
  pub record IsTaken (word : ℕ) (views : List (View E)) (history : List E) : Type 0 where
    pub some_one : word ≢ 0
    pub seat : ℕ
    pub holder : View E
    pub at : get_elem? views seat ≡ some holder
    pub has : holder.turn ≡ true
    pub number : holder.number ≡ word
    pub seen : holder.seen ≡ history
    pub only : (i : ℕ) (v : View E) → get_elem? views i ≡ some v → v.turn ≡ true → i ≡ seat

pub record Kept {S E : Type 0} (entries : S → List E) (mark : List E → ℕ) (origin : S → List ℕ) (root : List ℕ) (s : State (Option S) (View E)) (history : List E) : Type 0 where
  pub wide : length s.words ≡ 3
  pub front : slice_index s.words 0 ≡ 8 * length history + mark history
  pub small : mark history < 8
  pub seen : (i : ℕ) (v : View E) → get_elem? s.views i ≡ some v → StartsWith history v.seen × StartsWith history v.reported
  -- each entry is in the own entries of one view, once
  pub own : (x : ℕ) → total (λ (v : View E). times x v.own) s.views ≡ once_below x (length history)
  pub stand : (i : ℕ) (v : View E) → get_elem? s.views i ≡ some v → Stands history v.own × Ascends 0 v.own
  pub parts : total (λ (v : View E). v.parts) s.views ≡ 4294967296
  pub idle : (i : ℕ) (v : View E) → get_elem? s.views i ≡ some v → v.parts ≡ 0 → v.own ≡ []
  -- the origin of each handle, and of the state, is that of the state that the lock was made over
  pub origins : (i : ℕ) (v : View E) → get_elem? s.views i ≡ some v → 0 < v.parts → v.origin ≡ root
  pub turn : IsFree entries origin root (slice_index s.words 1) s.homes s.views history ⊎ IsTaken (slice_index s.words 1) s.views history

abbrev pub Holds : {S E : Type 0} → (S → List E) → (List E → ℕ) → (S → List ℕ) → List ℕ → State (Option S) (View E) → Type 0
Holds {S} {E} entries mark origin root s = (history : List E) × Kept entries mark origin root s history

module _ {E : Type 0} where
  abbrev pub view_of : List ℕ → List E → List E → List (ℕ × E) → ℕ → ℕ → View E
  view_of origin seen reported own parts number = record { seen = seen; reported = reported; own = own; parts = parts; number = number; turn = false; found = []; origin = origin }

  -- the first handle has every part and all entries that the state has
  abbrev pub first_view : List ℕ → List E → View E
  first_view origin es = view_of origin es [] (places 0 es) 4294967296 0

  -- a handle gives one of its parts to a new one, which has seen as much and has no entries
  abbrev pub parted : View E → View E
  parted v = record v { parts = v.parts - 1 }

  abbrev pub newcomer : View E → View E
  newcomer v = view_of v.origin v.seen [] [] 1 0

  -- one handle takes in another, and remembers what the other had seen until its next look
  abbrev pub joined : View E → View E → View E
  joined v w = record v { reported = w.seen; own = merged v.own w.own; parts = v.parts + w.parts }

  abbrev pub spent : View E
  spent = view_of [] [] [] [] 0 0

-- a handle at the table: its view, and the slots that it holds
abbrev pub Hand : Type 0 → Type 0 → Type 0
Hand S E = Me (Option S) (View E)

module _ {S E : Type 0} where
  -- a number is drawn, and 0 is used as 1
  abbrev pub numbered : Step (Option S) → Hand S E → ℕ → Hand S E → Type 0
  numbered st m found m' = m' ≡ (record m.0 { number = if found == 0 then 1 else found }, m.1)

  -- the `front` is read: the handle has then seen all of the published history
  abbrev pub looked : (List E → ℕ) → Step (Option S) → Hand S E → ℕ → Hand S E → Type 0
  looked mark st m found m' =
      (history : List E) × StartsWith history m.0.seen × StartsWith history m.0.reported × (found ≡ 8 * length history + mark history) × (mark history < 8)
      × Owns m.0.parts m.0.own history × (m' ≡ (record m.0 { seen = history; reported = [] }, m.1))

  -- the turn is won, and with it the state, whose list is the published history, and whose origin is the handle's
  abbrev pub Won : (S → List E) → (S → List ℕ) → Hand S E → Hand S E → Type 0
  Won entries origin m m' =
      (state : S) × StartsWith (entries state) m.0.seen × Owns m.0.parts m.0.own (entries state) × (origin state ≡ m.0.origin)
      × (m' ≡ (record m.0 { seen = entries state; turn = true }, (0, Some state) ∷ m.1))

  -- the holder is found
  abbrev pub Lost : Hand S E → ℕ → Hand S E → Type 0
  Lost m found m' = (found ≢ 0) × (m' ≡ (record m.0 { found = m.0.found ++ found ∷ [] }, m.1))

  abbrev pub claimed : (S → List E) → (S → List ℕ) → Step (Option S) → Hand S E → ℕ → Hand S E → Type 0
  claimed entries origin st m found m' = MatchBool (found == 0) (Won entries origin m m') (Lost m found m')

  -- the entries that the state in hand has more are the history's, and the handle's own
  abbrev pub published : (S → List E) → Step (Option S) → Hand S E → ℕ → Hand S E → Type 0
  published entries st m found m' =
      (state : S) × (m.1 ≡ (0, Some state) ∷ [])
      × (m' ≡ (record m.0 { seen = entries state; own = m.0.own ++ places (length m.0.seen) (drop (length m.0.seen) (entries state)) }, m.1))

  abbrev pub released : Step (Option S) → Hand S E → ℕ → Hand S E → Type 0
  released st m found m' = m' ≡ (record m.0 { turn = false }, [])

-- A turn that was won ran the job on the state in hand, published what it appended, and gave the state back
pub record RunsTurn {S E A J : Type 0} (entries : S → List E) (origin : S → List ℕ) (runs : J → S → A → J → S → Type 0) (job : J) (m : Hand S E) (answer : A) (job_after : J) (m' : Hand S E) : Type 0 where
  pub start : S
  pub end : S
  pub held : m.1 ≡ (0, Some start) ∷ []
  pub sees : entries start ≡ m.0.seen
  pub from : origin start ≡ m.0.origin
  pub ran : runs job start answer job_after end
  pub kept : origin end ≡ origin start
  pub appends : StartsWith (entries end) (entries start)
  pub hand : m' ≡ (record m.0 { seen = entries end; own = m.0.own ++ places (length m.0.seen) (drop (length m.0.seen) (entries end)); turn = false }, [])
