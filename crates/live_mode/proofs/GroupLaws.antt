-- The calls of a script, by groups: those of each worker, and the groups that have some.
use Rattle.std.proofs.Common.{◌≡◌, ◌∙◌, ◌<◌, ◌+◌, ℕ, zero, suc, Option, Some, List, [], ◌∷◌, ◌++◌, ap, append_assoc, arith, length, map, refl, slice_index_or, sym}
use Rattle.std.specs.Option.{option_to_list}
use Rattle.grpc_base.specs.declared.script.CallLine.{CallLine}
use Rattle.live_run.specs.ByWorker.{lines_of}
use Rattle.script_input.specs.declared.live_script.WorkerLine.{WorkerLine}
use Rattle.live_mode.specs.Handles.{busy}
use Rattle.live_mode.specs.Made.{lines_from, worker_lines}

busy_first : (g : List CallLine) (groups : List (List CallLine)) → busy (g ∷ groups) ≡ busy (g ∷ []) ++ busy groups
busy_first [] groups = refl
busy_first (line ∷ lines) groups = refl

-- a group more is done
lines_more : (done next : List (List CallLine)) (g : List CallLine) (groups all : List (List CallLine)) → next ≡ done ++ busy (g ∷ []) → done ++ busy (g ∷ groups) ≡ all → next ++ busy groups ≡ all
lines_more done next g groups all is so_far =
    ap (λ (l : List (List CallLine)). l ++ busy groups) is ∙ append_assoc done (busy (g ∷ [])) (busy groups) ∙ ap (λ (l : List (List CallLine)). done ++ l) (sym (busy_first g groups)) ∙ so_far

-- the next group is taken, and done
pub lines_next : {X : Type 0} (items_of : X → List CallLine) (done next all : List (List CallLine)) (rest left : List X) (first : Option X) (x : X) → rest ≡ option_to_list first ++ left → first ≡ Some x → next ≡ done ++ busy (items_of x ∷ []) → done ++ busy (map items_of rest) ≡ all → next ++ busy (map items_of left) ≡ all
lines_next {X} items_of done next all rest left first x split is made so_far =
    let whole : rest ≡ x ∷ left = split ∙ ap (λ (o : Option X). option_to_list o ++ left) is in
    lines_more done next (items_of x) (map items_of left) all made (ap (λ (l : List X). done ++ busy (map items_of l)) (sym whole) ∙ so_far)

-- the calls that were given to each worker
groups_are : {X : Type 0} (items_of : X → List CallLine) (calls : List WorkerLine) (n more : ℕ) (groups : List X) → length groups ≡ more → ((i : ℕ) (d : X) → i < more → items_of (slice_index_or groups i d) ≡ lines_of (n + i) calls) → map items_of groups ≡ lines_from n more calls
groups_are items_of calls n zero [] long each = refl
groups_are items_of calls n zero (g ∷ groups) long each = absurd (omega (arith, long))
groups_are items_of calls n (suc more) [] long each = absurd (omega (arith, long))
groups_are items_of calls n (suc more) (g ∷ groups) long each =
    let none : n + 0 ≡ n = omega arith in
    let first : items_of g ≡ lines_of n calls = each 0 g (omega arith) ∙ ap (λ (k : ℕ). lines_of k calls) none in
    let later : map items_of groups ≡ lines_from (n + 1) more calls = groups_are items_of calls (n + 1) more groups (omega (arith, long)) (λ i d within.
    let next : n + suc i ≡ n + 1 + i = omega arith in each (suc i) d (omega (arith, within)) ∙ ap (λ (k : ℕ). lines_of k calls) next) in
    ap (λ (l : List CallLine). l ∷ map items_of groups) first ∙ ap (λ (l : List (List CallLine)). lines_of n calls ∷ l) later

pub worker_groups : {X : Type 0} (items_of : X → List CallLine) (calls : List WorkerLine) (groups : List X) → length groups ≡ 16 → ((n : ℕ) (d : X) → n < 16 → items_of (slice_index_or groups n d) ≡ lines_of (n + 1) calls) → map items_of groups ≡ worker_lines calls
worker_groups items_of calls groups long each =
    groups_are items_of calls 1 16 groups long (λ i d within. let same : i + 1 ≡ 1 + i = omega arith in each i d within ∙ ap (λ (k : ℕ). lines_of k calls) same)
