-- The rounds of the clock and of the wishes reach their end.
use Rattle.std.proofs.Common.{◌≡◌, ℕ, zero, suc, ◌+◌, ◌<◌, Bool, true, false, ◌&&◌, is_some, cond, if◌then◌else◌, Option, Some, None, List, [], ◌∷◌, find, slice_get, refl, ap, sym, ◌∙◌, arith}
use Rattle.std.proofs.lemmas.Option.{same_Some}
use Rattle.grpc_base.specs.declared.address.Address.{Address}
use Rattle.grpc_base.specs.declared.event.Conn.{Conn}
use Rattle.grpc_base.specs.declared.event.Conn.TheVariants as conn
use Rattle.subchannel.specs.Records.{SubRecord, is_due, is_idle, clocked, backing_off, wished}
use Rattle.subchannel.specs.Boards.{changed, changed_at, clocked_at, first_clocked, numbered, first_number, passes, passes_test}
use Rattle.subchannel.specs.Insides.{live_numbers}
use Rattle.channel_net.specs.Steps as steps
use Rattle.channel_net.specs.Steps.{NetSeen, NetLeft, left, clock_weight, clocks_left, clock_round, clock_rounds, is_wished, idle_and_wished, first_wished, connected_at, connect_round, connect_rounds, idle_count}
use Rattle.channel_net.proofs.BoardLaws.{FirstFound, first-found}

abbrev sub_of : Address → Conn → ℕ → Option ℕ → Option ℕ → Bool → SubRecord
sub_of a c d again until linked = record { address = a; state = c; dials = d; again = again; until = until; linked = linked }

some-of : {X : Type 0} (o : Option X) → is_some o ≡ true → (x : X) × (o ≡ Some x)
some-of None e = let no : ⊥ = (cc) in absurd no
some-of (Some x) e = (x, refl)

none-of : {X : Type 0} (o : Option X) → is_some o ≡ false → o ≡ None
none-of None e = refl
none-of (Some x) e = let no : ⊥ = (cc) in absurd no

-- a change of the clock is one less ahead
weight-by : (m : ℕ) (a : Address) (c : Conn) (d : ℕ) (again until : Option ℕ) (linked : Bool) → is_due m (sub_of a c d again until linked) ≡ true → clock_weight (sub_of a c d again until linked) ≡ suc (clock_weight (clocked m (sub_of a c d again until linked)))
weight-by m a conn.Idle d again until linked e = let no : ⊥ = (cc) in absurd no
weight-by m a conn.Connecting d again None linked e = let no : ⊥ = (cc) in absurd no
weight-by m a conn.Connecting d again (Some t) linked e =
    let s : SubRecord = sub_of a conn.Connecting d again (Some t) linked in
    ap (λ (b : Bool). suc (clock_weight (if b then backing_off s else s))) (sym e)
weight-by m a conn.Ready d again until linked e = let no : ⊥ = (cc) in absurd no
weight-by m a conn.Failure d again until linked e =
    let s : SubRecord = sub_of a conn.Failure d again until linked in
    ap (λ (b : Bool). suc (clock_weight (if b then record s { state = conn.Idle; again = None } else s))) (sym e)
weight-by m a conn.Shutdown d again until linked e = let no : ⊥ = (cc) in absurd no

weight-falls : (m : ℕ) (s : SubRecord) → is_due m s ≡ true → clock_weight s ≡ suc (clock_weight (clocked m s))
weight-falls m s e = weight-by m s.address s.state s.dials s.again s.until s.linked e

clocks-place : (m : ℕ) (subs : List SubRecord) (i : ℕ) (s : SubRecord) → slice_get subs i ≡ Some s → is_due m s ≡ true → clocks_left subs ≡ suc (clocks_left (changed (clocked m) subs i))
clocks-place m [] i s e due = let no : ⊥ = (cc) in absurd no
clocks-place m (x ∷ subs) zero s e due =
    let same : x ≡ s = same_Some x s e in
    let dx : is_due m x ≡ true = ap (is_due m) same ∙ due in
    let w : clock_weight x ≡ suc (clock_weight (clocked m x)) = weight-falls m x dx in
    omega arith
clocks-place m (x ∷ subs) (suc i) s e due =
    let next : clocks_left subs ≡ suc (clocks_left (changed (clocked m) subs i)) = clocks-place m subs i s e due in omega arith

clocks-number : (m : ℕ) (subs : List SubRecord) (k : ℕ) (s : SubRecord) → numbered subs k ≡ Some s → is_due m s ≡ true → clocks_left subs ≡ suc (clocks_left (changed_at (clocked m) subs k))
clocks-number m subs zero s e due = let no : ⊥ = (cc) in absurd no
clocks-number m subs (suc place) s e due = clocks-place m subs place s e due

clocks-first : (m : ℕ) (subs : List SubRecord) (k : ℕ) → first_number (is_due m) subs ≡ Some k → clocks_left subs ≡ suc (clocks_left (first_clocked m subs))
clocks-first m subs k e =
    let f : FirstFound (is_due m) subs k = first-found (is_due m) subs k e in
    let is : first_clocked m subs ≡ changed_at (clocked m) subs k = ap (clocked_at m subs) e in
    let left : clocks_left subs ≡ suc (clocks_left (changed_at (clocked m) subs k)) = clocks-number m subs k f.s f.at f.passes in
    left ∙ ap (λ (xs : List SubRecord). suc (clocks_left xs)) (sym is)

clocks-round : (m : ℕ) (l : NetLeft) (k : ℕ) → first_number (is_due m) l.net.board ≡ Some k → clocks_left l.net.board ≡ suc (clocks_left (clock_round m l).net.board)
clocks-round m l k e =
    let is : (clock_round m l).net.board ≡ first_clocked m l.net.board = ap (λ (o : Option ℕ). (steps.clocked_at m o l).net.board) e in
    clocks-first m l.net.board k e ∙ ap (λ (xs : List SubRecord). suc (clocks_left xs)) (sym is)

clock-still : (m : ℕ) (l : NetLeft) → first_number (is_due m) l.net.board ≡ None → (k : ℕ) → clock_rounds m k l ≡ l
clock-still m l e zero = refl
clock-still m l e (suc k) =
    let same : clock_round m l ≡ l = ap (λ (o : Option ℕ). steps.clocked_at m o l) e in
    ap (clock_rounds m k) same ∙ clock-still m l e k

-- a round that changed something, and the last one
pub clock-again : (m : ℕ) (n t : NetSeen) (dead more : List ℕ) (last : NetLeft) → left t more ≡ clock_round m (left n dead) → is_some (first_number (is_due m) n.board) ≡ true → clock_rounds m (clocks_left n.board) (left n dead) ≡ last → clock_rounds m (clocks_left t.board) (left t more) ≡ last
clock-again m n t dead more last e some rest =
    let k = some-of (first_number (is_due m) n.board) some in
    let fewer : clocks_left n.board ≡ suc (clocks_left (clock_round m (left n dead)).net.board) = clocks-round m (left n dead) k.0 k.1 in
    ap (λ (l : NetLeft). clock_rounds m (clocks_left l.net.board) l) e ∙ sym (ap (λ (j : ℕ). clock_rounds m j (left n dead)) fewer) ∙ rest

pub clock-smaller : (m : ℕ) (n t : NetSeen) (dead more : List ℕ) → left t more ≡ clock_round m (left n dead) → is_some (first_number (is_due m) n.board) ≡ true → clocks_left t.board < clocks_left n.board
clock-smaller m n t dead more e some =
    let k = some-of (first_number (is_due m) n.board) some in
    let fewer : clocks_left n.board ≡ suc (clocks_left (clock_round m (left n dead)).net.board) = clocks-round m (left n dead) k.0 k.1 in
    let same : clocks_left t.board ≡ clocks_left (clock_round m (left n dead)).net.board = ap (λ (l : NetLeft). clocks_left l.net.board) e in
    omega arith

pub clock-last : (m : ℕ) (n t : NetSeen) (dead more : List ℕ) (last : NetLeft) → left t more ≡ clock_round m (left n dead) → is_some (first_number (is_due m) n.board) ≡ false → clock_rounds m (clocks_left n.board) (left n dead) ≡ last → left t more ≡ last
clock-last m n t dead more last e none rest =
    let no : first_number (is_due m) n.board ≡ None = none-of (first_number (is_due m) n.board) none in
    let same : clock_round m (left n dead) ≡ left n dead = ap (λ (o : Option ℕ). steps.clocked_at m o (left n dead)) no in
    e ∙ same ∙ sym (clock-still m (left n dead) no (clocks_left n.board)) ∙ rest

-- what is wished and IDLE
find-step : (p : ℕ → Bool) (x k : ℕ) (b : Bool) (o : Option ℕ) → p x ≡ b → cond b (Some x) o ≡ Some k → (o ≡ Some k → p k ≡ true) → p k ≡ true
find-step p x k true o test e next = ap p (sym (same_Some x k e)) ∙ test
find-step p x k false o test e next = next e

pub find-passes : (p : ℕ → Bool) (xs : List ℕ) (k : ℕ) → find p xs ≡ Some k → p k ≡ true
find-passes p [] k e = let no : ⊥ = (cc) in absurd no
find-passes p (x ∷ xs) k e = find-step p x k (p x) (find p xs) refl e (find-passes p xs k)

pub prefix_true : (p q : Bool) → (p && q) ≡ true → p ≡ true
prefix_true true q e = refl
prefix_true false q e = e

pub passing : (p : SubRecord → Bool) (o : Option SubRecord) → passes_test p o ≡ true → (s : SubRecord) × ((o ≡ Some s) × (p s ≡ true))
passing p None e = let no : ⊥ = (cc) in absurd no
passing p (Some s) e = (s, (refl, e))

one-fewer : (a b n : ℕ) → a ≡ 1 → b ≡ 0 → a + n ≡ suc (b + n)
one-fewer a b n one none = omega arith

idle-head : (x : SubRecord) (n : ℕ) → is_idle x.state ≡ true → (if is_idle x.state then 1 else 0) + n ≡ suc ((if is_idle (wished x).state then 1 else 0) + n)
idle-head x n e =
    let one : (if is_idle x.state then 1 else 0) ≡ 1 = ap (λ (b : Bool). if b then 1 else 0) e in
    let gone : (if is_idle (wished x).state then 1 else 0) ≡ 0 =
    ap (λ (b : Bool). if is_idle (if b then record x { state = conn.Connecting } else x).state then 1 else 0) e in
    one-fewer (if is_idle x.state then 1 else 0) (if is_idle (wished x).state then 1 else 0) n one gone

idle-place : (subs : List SubRecord) (i : ℕ) (s : SubRecord) → slice_get subs i ≡ Some s → is_idle s.state ≡ true → idle_count subs ≡ suc (idle_count (changed wished subs i))
idle-place [] i s e idle = let no : ⊥ = (cc) in absurd no
idle-place (x ∷ subs) zero s e idle =
    idle-head x (idle_count subs) (ap (λ (r : SubRecord). is_idle r.state) (same_Some x s e) ∙ idle)
idle-place (x ∷ subs) (suc i) s e idle =
    let next : idle_count subs ≡ suc (idle_count (changed wished subs i)) = idle-place subs i s e idle in omega arith

idle-number : (subs : List SubRecord) (k : ℕ) (s : SubRecord) → numbered subs k ≡ Some s → is_idle s.state ≡ true → idle_count subs ≡ suc (idle_count (changed_at wished subs k))
idle-number subs zero s e idle = let no : ⊥ = (cc) in absurd no
idle-number subs (suc place) s e idle = idle-place subs place s e idle

idle-fewer : (n : NetSeen) (sub : ℕ) → first_wished n ≡ Some sub → idle_count n.board ≡ suc (idle_count (connected_at (Some sub) n).board)
idle-fewer n sub e =
    let test : (passes (λ (s : SubRecord). is_idle s.state) n.board sub && is_wished n.asker.rack sub) ≡ true = find-passes (idle_and_wished n) (live_numbers 1 n.board) sub e in
    let idle : passes (λ (s : SubRecord). is_idle s.state) n.board sub ≡ true = prefix_true (passes (λ (s : SubRecord). is_idle s.state) n.board sub) (is_wished n.asker.rack sub) test in
    let s = passing (λ (r : SubRecord). is_idle r.state) (numbered n.board sub) idle in
    idle-number n.board sub s.0 s.1.0 s.1.1

pub connect-again : (n t : NetSeen) (sub : ℕ) (last : NetSeen) → first_wished n ≡ Some sub → t ≡ connected_at (Some sub) n → connect_rounds (idle_count n.board) n ≡ last → connect_rounds (idle_count t.board) t ≡ last
connect-again n t sub last e new rest =
    let fewer : idle_count n.board ≡ suc (idle_count (connected_at (Some sub) n).board) = idle-fewer n sub e in
    let round : connected_at (Some sub) n ≡ connect_round n = ap (λ (o : Option ℕ). connected_at o n) (sym e) in
    ap (λ (m : NetSeen). connect_rounds (idle_count m.board) m) new
    ∙ ap (connect_rounds (idle_count (connected_at (Some sub) n).board)) round
    ∙ sym (ap (λ (j : ℕ). connect_rounds j n) fewer) ∙ rest

pub connect-smaller : (n t : NetSeen) (sub : ℕ) → first_wished n ≡ Some sub → t ≡ connected_at (Some sub) n → idle_count t.board < idle_count n.board
connect-smaller n t sub e new =
    let fewer : idle_count n.board ≡ suc (idle_count (connected_at (Some sub) n).board) = idle-fewer n sub e in
    let same : idle_count t.board ≡ idle_count (connected_at (Some sub) n).board = ap (λ (m : NetSeen). idle_count m.board) new in
    omega arith

connect-still : (n : NetSeen) → first_wished n ≡ None → (k : ℕ) → connect_rounds k n ≡ n
connect-still n e zero = refl
connect-still n e (suc k) =
    let same : connect_round n ≡ n = ap (λ (o : Option ℕ). connected_at o n) e in ap (connect_rounds k) same ∙ connect-still n e k

pub connect-last : (n : NetSeen) (last : NetSeen) → first_wished n ≡ None → connect_rounds (idle_count n.board) n ≡ last → n ≡ last
connect-last n last e rest = sym (connect-still n e (idle_count n.board)) ∙ rest

-- after as many rounds nothing is left
clock-ends-by : (m k : ℕ) (l : NetLeft) (o : Option ℕ) → first_number (is_due m) l.net.board ≡ o → suc k ≡ clocks_left l.net.board → (k ≡ clocks_left (clock_round m l).net.board → first_number (is_due m) (clock_rounds m k (clock_round m l)).net.board ≡ None) → first_number (is_due m) (clock_rounds m (suc k) l).net.board ≡ None
clock-ends-by m k l None e left next =
    ap (λ (t : NetLeft). first_number (is_due m) t.net.board) (clock-still m l e (suc k)) ∙ e
clock-ends-by m k l (Some j) e left next =
    let fewer : clocks_left l.net.board ≡ suc (clocks_left (clock_round m l).net.board) = clocks-round m l j e in
    next (omega arith)

clock-begins : (m : ℕ) (l : NetLeft) (o : Option ℕ) → first_number (is_due m) l.net.board ≡ o → zero ≡ clocks_left l.net.board → first_number (is_due m) l.net.board ≡ None
clock-begins m l None e left = e
clock-begins m l (Some j) e left =
    let fewer : clocks_left l.net.board ≡ suc (clocks_left (clock_round m l).net.board) = clocks-round m l j e in absurd (omega arith)

pub clock-ends : (m k : ℕ) (l : NetLeft) → k ≡ clocks_left l.net.board → first_number (is_due m) (clock_rounds m k l).net.board ≡ None
clock-ends m zero l left = clock-begins m l (first_number (is_due m) l.net.board) refl left
clock-ends m (suc k) l left =
    clock-ends-by m k l (first_number (is_due m) l.net.board) refl left (clock-ends m k (clock_round m l))

connect-ends-by : (k : ℕ) (n : NetSeen) (o : Option ℕ) → first_wished n ≡ o → suc k ≡ idle_count n.board → (k ≡ idle_count (connect_round n).board → first_wished (connect_rounds k (connect_round n)) ≡ None) → first_wished (connect_rounds (suc k) n) ≡ None
connect-ends-by k n None e left next = ap first_wished (connect-still n e (suc k)) ∙ e
connect-ends-by k n (Some sub) e left next =
    let fewer : idle_count n.board ≡ suc (idle_count (connected_at (Some sub) n).board) = idle-fewer n sub e in
    let same : idle_count (connect_round n).board ≡ idle_count (connected_at (Some sub) n).board = ap (λ (o : Option ℕ). idle_count (connected_at o n).board) e in
    next (omega arith)

connect-begins : (n : NetSeen) (o : Option ℕ) → first_wished n ≡ o → zero ≡ idle_count n.board → first_wished n ≡ None
connect-begins n None e left = e
connect-begins n (Some sub) e left =
    let fewer : idle_count n.board ≡ suc (idle_count (connected_at (Some sub) n).board) = idle-fewer n sub e in absurd (omega arith)

pub connect-ends : (k : ℕ) (n : NetSeen) → k ≡ idle_count n.board → first_wished (connect_rounds k n) ≡ None
connect-ends zero n left = connect-begins n (first_wished n) refl left
connect-ends (suc k) n left = connect-ends-by k n (first_wished n) refl left (connect-ends k (connect_round n))
