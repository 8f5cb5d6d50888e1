-- Where a link stands after one entry more.
use Rattle.std.proofs.Common.{◌≡◌, ◌≤◌, All, ℕ, ◌+◌, Bool, true, false, ◌||◌, if◌then◌else◌, Option, Some, None, List, [], ◌∷◌, length, refl, sym, ap, subst, ◌∙◌, arith}
use Rattle.std.proofs.lemmas.Grind.{common_steps}
use Rattle.std.proofs.lemmas.List.Elements.{All-tail}
use Rattle.grpc_base.specs.Limits.{moment_limit}
use Rattle.keepalive_core.specs.Keepalive.{KeepSeen, first_fault, has_lost, is_lost, is_next, latest, lost_at, stand_after, stand_next, stand_of, stands_after, until_lost}
use Rattle.keepalive_core.specs.declared.rule.KeepEntry.{KeepEntry}
use Rattle.keepalive_core.specs.declared.rule.KeepRule.{KeepRule}

lost_there : (start : ℕ) (e : KeepEntry) (older : List KeepEntry) (c b : Bool) → is_lost e.kind ≡ c → has_lost older ≡ b → c || b ≡ true
    → (has_lost older ≡ true → (m : ℕ) × (lost_at start (until_lost older) ≡ Some m))
    → (m : ℕ) × (lost_at start (if b then until_lost older else e ∷ older) ≡ Some m)
lost_there start e older c true is has lost before = before has
lost_there start e older true false is has lost before = (latest start (e ∷ older), ap (λ (b : Bool). if b then Some (latest start (e ∷ older)) else None) is)
lost_there start e older false false is has lost before = absurd (cc)

-- once a link is given up, what counts ends with that
lost_is_there : (start : ℕ) (log : List KeepEntry) → has_lost log ≡ true → (m : ℕ) × (lost_at start (until_lost log) ≡ Some m)
lost_is_there start [] lost = absurd (cc)
lost_is_there start (e ∷ older) lost = lost_there start e older (is_lost e.kind) (has_lost older) refl refl lost (λ h. lost_is_there start older h)

none_there : (start : ℕ) (e : KeepEntry) (older : List KeepEntry) (c b : Bool) → is_lost e.kind ≡ c → has_lost older ≡ b → c || b ≡ false
    → lost_at start (e ∷ older) ≡ None
none_there start e older true b is has lost = absurd (cc)
none_there start e older false b is has lost = ap (λ (b : Bool). if b then Some (latest start (e ∷ older)) else None) is

-- before that, all counts, and the link is not lost
none_is_there : (start : ℕ) (log : List KeepEntry) → has_lost log ≡ false → lost_at start log ≡ None
none_is_there start [] lost = refl
none_is_there start (e ∷ older) lost = none_there start e older (is_lost e.kind) (has_lost older) refl refl lost

all_there : (e : KeepEntry) (older : List KeepEntry) (c b : Bool) → has_lost older ≡ b → c || b ≡ false → (if b then until_lost older else e ∷ older) ≡ e ∷ older
all_there e older c false has lost = refl
all_there e older true true has lost = absurd (cc)
all_there e older false true has lost = absurd (cc)

all_counts : (log : List KeepEntry) → has_lost log ≡ false → until_lost log ≡ log
all_counts [] lost = refl
all_counts (e ∷ older) lost = all_there e older (is_lost e.kind) (has_lost older) refl lost

lost_stays : (k : KeepSeen) (e : KeepEntry) (m : ℕ) → k.lost ≡ Some m → stand_next k e.kind e.moment ≡ k
lost_stays k e m is = ap (λ (l : Option ℕ). stands_after k e.kind e.moment l) is

goes_on : (rule : KeepRule) (start : ℕ) (e : KeepEntry) (older : List KeepEntry) → lost_at start older ≡ None
    → stand_next (stand_of rule start older) e.kind e.moment ≡ stand_of rule start (e ∷ older)
goes_on rule start e older none = ap (λ (l : Option ℕ). stands_after (stand_of rule start older) e.kind e.moment l) none

next_by : (rule : KeepRule) (start : ℕ) (e : KeepEntry) (older : List KeepEntry) (b : Bool) → has_lost older ≡ b
    → stand_next (stand_after rule start older) e.kind e.moment ≡ stand_of rule start (if b then until_lost older else e ∷ older)
next_by rule start e older true has = let there = lost_is_there start older has in lost_stays (stand_after rule start older) e there.0 there.1
next_by rule start e older false has =
    ap (λ (l : List KeepEntry). stand_next (stand_of rule start l) e.kind e.moment) (all_counts older has) ∙ goes_on rule start e older (none_is_there start older has)

-- one entry more
pub stand_one_more : (rule : KeepRule) (start : ℕ) (e : KeepEntry) (older : List KeepEntry) → stand_next (stand_after rule start older) e.kind e.moment ≡ stand_after rule start (e ∷ older)
stand_one_more rule start e older = next_by rule start e older (has_lost older) refl

-- the same of where a link stands, on whatever list brought it there
pub stand_law : (rule : KeepRule) (start : ℕ) (e : KeepEntry) (older : List KeepEntry) (k after : KeepSeen) → k ≡ stand_after rule start older → after ≡ stand_next k e.kind e.moment → after ≡ stand_after rule start (e ∷ older)
stand_law rule start e older k after before next =
    next ∙ ap (λ (s : KeepSeen). stand_next s e.kind e.moment) before ∙ stand_one_more rule start e older

-- an entry that keeps the rules leaves the fault to the later ones
pub fault_later : (rule : KeepRule) (start : ℕ) (older : List KeepEntry) (e : KeepEntry) (later : List KeepEntry) (k : KeepSeen) → k ≡ stand_after rule start older → is_next k e ≡ true
    → first_fault rule start older (e ∷ later) ≡ first_fault rule start (e ∷ older) later
fault_later rule start older e later k stand kept =
    ap (λ (b : Bool). if b then first_fault rule start (e ∷ older) later else Some (length older + 1)) (ap (λ (s : KeepSeen). is_next s e) (sym stand) ∙ kept)

-- one that does not is the fault
pub fault_here : (rule : KeepRule) (start : ℕ) (older : List KeepEntry) (e : KeepEntry) (later : List KeepEntry) (k : KeepSeen) → k ≡ stand_after rule start older → is_next k e ≡ false
    → first_fault rule start older (e ∷ later) ≡ Some (length older + 1)
fault_here rule start older e later k stand broken =
    ap (λ (b : Bool). if b then first_fault rule start (e ∷ older) later else Some (length older + 1)) (ap (λ (s : KeepSeen). is_next s e) (sym stand) ∙ broken)

-- one entry less of a list
pub count_next : (entries : List KeepEntry) (e : KeepEntry) (later : List KeepEntry) (place total : ℕ) → entries ≡ e ∷ later → place + length entries ≡ total → (place + 1) + length later ≡ total
count_next entries e later place total whole count =
    let longer : length entries ≡ length (e ∷ later) = ap (λ (l : List KeepEntry). length l) whole in
    let one : length (e ∷ later) ≡ length later + 1 = grind (arith, common_steps) in
    omega (arith, longer, one, count)

pub moments_next : (entries : List KeepEntry) (e : KeepEntry) (later : List KeepEntry) → entries ≡ e ∷ later → All (λ (x : KeepEntry). x.moment ≤ moment_limit) entries → All (λ (x : KeepEntry). x.moment ≤ moment_limit) later
moments_next entries e later whole all =
    All-tail (λ (x : KeepEntry). x.moment ≤ moment_limit) e later (subst (λ (l : List KeepEntry). All (λ (x : KeepEntry). x.moment ≤ moment_limit) l) whole all)
