-- How many live subchannels an address has over whole runs.
use Rattle.std.proofs.Common.{◌≡◌, ◌≤◌, ℕ, zero, suc, ◌+◌, Bool, true, false, ◌&&◌, ◌||◌, ◌==◌, not, if◌then◌else◌, cond, Option, Some, None, List, [], ◌∷◌, ◌++◌, map, filter, Contains, refl, ap, sym, subst, ◌∙◌, arith}
use Rattle.std.proofs.lemmas.Bool.{eqb-true}
use Rattle.std.proofs.lemmas.List.Elements.{Contains-append_right, Contains-get_or}
use Rattle.grpc_base.specs.declared.address.Address.{Address}
use Rattle.grpc_base.specs.Addresses.{IsWithoutRepeats, has_address}
use Rattle.subchannel.specs.Records.{SubRecord, is_live, is_due, wished, dialed, linked_up, failed, prefaced, lost, clocked, new_sub, shut_down}
use Rattle.subchannel.specs.Boards.{changed, changed_at, clocked_at, first_number, kept_or_shut, lacking, kept, is_live_at, has_live}
use Rattle.subchannel.specs.Runs.{BoardCall, Keep, Wished, Dial, Up, Failed, Ready, Lost, Clock, after_call, after_calls, ListsAreDistinct, AllAreLists, live_count}
use Rattle.subchannel.proofs.NumberLaws.{only_live-at}
use Rattle.subchannel.proofs.KeepLaws.{KeepsLive}
use Rattle.subchannel.proofs.StepLaws.{keeps_live-wished, keeps_live-dialed, keeps_live-linked_up, keeps_live-failed, keeps_live-prefaced, keeps_live-lost, keeps_live-clocked}
use Rattle.subchannel.proofs.RunLaws.{address-step}

-- whether two addresses are one
abbrev same : Address → Address → Bool
same x a = (x.ip == a.ip) && (x.port == a.port)

abbrev address_by : ℕ → ℕ → Address
address_by i p = record { ip = i; port = p }

either_same : (b : Bool) (n : ℕ) → n ≡ (if b then n else n)
either_same true n = refl
either_same false n = refl

both_true : (p q : Bool) → (p && q) ≡ true → (p ≡ true) × (q ≡ true)
both_true true q e = (refl, e)
both_true false q e = let no : ⊥ = (cc) in absurd no

same-equal : (x a : Address) → same x a ≡ true → x ≡ a
same-equal x a e =
    let both : ((x.ip == a.ip) ≡ true) × ((x.port == a.port) ≡ true) = both_true (x.ip == a.ip) (x.port == a.port) e in
    let ip : x.ip ≡ a.ip = eqb-true x.ip a.ip both.0 in
    let port : x.port ≡ a.port = eqb-true x.port a.port both.1 in
    ap (λ (i : ℕ). address_by i x.port) ip ∙ ap (λ (p : ℕ). address_by a.ip p) port

-- what is in a list by the test is in it
has-step : (x : Address) (xs : List Address) (a : Address) (b h : Bool) → same x a ≡ b → (b || h) ≡ true → (h ≡ true → Contains xs a) → Contains (x ∷ xs) a
has-step x xs a true h e or rest =
    subst (λ (y : Address). Contains (x ∷ xs) y) (same-equal x a e) (Contains-get_or (x ∷ xs) 0 x (omega arith))
has-step x xs a false h e or rest = Contains-append_right (x ∷ []) xs a (rest or)

has-contains : (xs : List Address) (a : Address) → has_address xs a ≡ true → Contains xs a
has-contains [] a e = let no : ⊥ = (cc) in absurd no
has-contains (x ∷ xs) a e = has-step x xs a (same x a) (has_address xs a) refl e (has-contains xs a)

false-if : (b : Bool) → (b ≡ true → ⊥) → b ≡ false
false-if true never = absurd (never refl)
false-if false never = refl

-- how often an address stands in a list
abbrev occurrences : Address → List Address → ℕ
occurrences a [] = 0
occurrences a (x ∷ xs) = (if same x a then 1 else 0) + occurrences a xs

once-case : (b h : Bool) (n : ℕ) → n ≡ (if h then 1 else 0) → (b ≡ true → h ≡ false) → (if b then 1 else 0) + n ≡ (if b || h then 1 else 0)
once-case true true n e never = let f : true ≡ false = never refl in let g : ⊥ = (cc) in absurd g
once-case true false n e never = omega arith
once-case false true n e never = omega arith
once-case false false n e never = omega arith

occurrences-once : (a : Address) (xs : List Address) → IsWithoutRepeats xs → occurrences a xs ≡ (if has_address xs a then 1 else 0)
occurrences-once a [] kept = refl
occurrences-once a (x ∷ xs) kept =
    once-case (same x a) (has_address xs a) (occurrences a xs) (occurrences-once a xs kept.1) (λ e. false-if (has_address xs a) (λ h. kept.0 (subst (λ (y : Address). Contains xs y) (sym (same-equal x a e)) (has-contains xs a h))))

occurrences-append : (a : Address) (xs ys : List Address) → occurrences a (xs ++ ys) ≡ occurrences a xs + occurrences a ys
occurrences-append a [] ys = omega arith
occurrences-append a (x ∷ xs) ys = let next : occurrences a (xs ++ ys) ≡ occurrences a xs + occurrences a ys = occurrences-append a xs ys in omega arith

occurrences-cond : (a x : Address) (xs : List Address) (q : Bool) → occurrences a (cond q (x ∷ xs) xs) ≡ cond q ((if same x a then 1 else 0) + occurrences a xs) (occurrences a xs)
occurrences-cond a x xs true = refl
occurrences-cond a x xs false = refl

filter-case : (b q r : Bool) (n m : ℕ) → (b ≡ true → q ≡ r) → m ≡ (if r then n else 0) → cond q ((if b then 1 else 0) + m) m ≡ (if r then (if b then 1 else 0) + n else 0)
filter-case true true true n m h e = omega arith
filter-case true true false n m h e = let f : true ≡ false = h refl in let g : ⊥ = (cc) in absurd g
filter-case true false true n m h e = let f : false ≡ true = h refl in let g : ⊥ = (cc) in absurd g
filter-case true false false n m h e = e
filter-case false true true n m h e = omega arith
filter-case false true false n m h e = omega arith
filter-case false false true n m h e = omega arith
filter-case false false false n m h e = e

occurrences-filter : (p : Address → Bool) (a : Address) (xs : List Address) → occurrences a (filter p xs) ≡ (if p a then occurrences a xs else 0)
occurrences-filter p a [] = either_same (p a) 0
occurrences-filter p a (x ∷ xs) =
    occurrences-cond a x (filter p xs) (p x) ∙ filter-case (same x a) (p x) (p a) (occurrences a xs) (occurrences a (filter p xs)) (λ e. ap p (same-equal x a e)) (occurrences-filter p a xs)

-- counts of lists
count-append : (a : Address) (xs ys : List SubRecord) → live_count a (xs ++ ys) ≡ live_count a xs + live_count a ys
count-append a [] ys = omega arith
count-append a (s ∷ xs) ys = let next : live_count a (xs ++ ys) ≡ live_count a xs + live_count a ys = count-append a xs ys in omega arith

count-new : (a : Address) (xs : List Address) → live_count a (map new_sub xs) ≡ occurrences a xs
count-new a [] = refl
count-new a (x ∷ xs) = ap (λ (k : ℕ). (if same x a then 1 else 0) + k) (count-new a xs)

any-case : (b h : Bool) (n : ℕ) → (if b then 1 else 0) + n ≤ 1 → (n ≤ 1 → n ≡ (if h then 1 else 0)) → (if b then 1 else 0) + n ≡ (if b || h then 1 else 0)
any-case true h n le next = omega arith
any-case false h n le next = let small : n ≤ 1 = omega arith in let e : n ≡ (if h then 1 else 0) = next small in let z : 0 + n ≡ n = omega arith in z ∙ e

count-any : (a : Address) (subs : List SubRecord) → live_count a subs ≤ 1 → live_count a subs ≡ (if has_live subs a then 1 else 0)
count-any a [] le = refl
count-any a (s ∷ subs) le = any-case (is_live_at a s) (has_live subs a) (live_count a subs) le (count-any a subs)

-- one that is kept or shut
and_true : (b : Bool) → b ≡ (b && true)
and_true true = refl
and_true false = refl

and_false : (b : Bool) → false ≡ (b && false)
and_false true = refl
and_false false = refl

kept-at : (a : Address) (s : SubRecord) (l w : Bool) → is_live s ≡ l → is_live_at a (if l && not w then shut_down s else s) ≡ (is_live_at a s && w)
kept-at a s true true e = and_true (is_live_at a s)
kept-at a s true false e = and_false (is_live_at a s)
kept-at a s false w e = let dead : is_live_at a s ≡ false = only_live-at a s e in dead ∙ sym (ap (λ (b : Bool). b && w) dead)

three_true : (l p q : Bool) → (l && p && q) ≡ true → (p && q) ≡ true
three_true true p q e = e
three_true false p q e = let no : ⊥ = (cc) in absurd no

wanted-same : (a : Address) (s : SubRecord) (w : Address → Bool) (b : Bool) → is_live_at a s ≡ b → (b && w s.address) ≡ (b && w a)
wanted-same a s w true e =
    ap w (same-equal s.address a (three_true (is_live s) (s.address.ip == a.ip) (s.address.port == a.port) e))
wanted-same a s w false e = refl

map-case : (b w : Bool) (n m : ℕ) → m ≡ (if w then n else 0) → (if b && w then 1 else 0) + m ≡ (if w then (if b then 1 else 0) + n else 0)
map-case true true n m e = omega arith
map-case true false n m e = omega arith
map-case false true n m e = omega arith
map-case false false n m e = omega arith

module _ (current pending : List Address) (a : Address) where
  abbrev wanted : Address → Bool
  wanted x = has_address current x || has_address pending x

  count-map : (subs : List SubRecord) → live_count a (map (kept_or_shut current pending) subs) ≡ (if wanted a then live_count a subs else 0)
  count-map [] = either_same (wanted a) 0
  count-map (s ∷ subs) =
      let here : is_live_at a (kept_or_shut current pending s) ≡ (is_live_at a s && wanted a) =
      kept-at a s (is_live s) (wanted s.address) refl ∙ wanted-same a s wanted (is_live_at a s) refl in
      ap (λ (b : Bool). (if b then 1 else 0) + live_count a (map (kept_or_shut current pending) subs)) here ∙ map-case (is_live_at a s) (wanted a) (live_count a subs) (live_count a (map (kept_or_shut current pending) subs)) (count-map subs)

total-case : (h c p : Bool) (m n k : ℕ) → m ≡ (if c || p then (if h then 1 else 0) else 0) → n ≡ (if not h && true then (if c then 1 else 0) else 0) → k ≡ (if not h && not c then (if p then 1 else 0) else 0) → m + (n + k) ≡ (if c || p then 1 else 0)
total-case true true true m n k d e f = omega arith
total-case true true false m n k d e f = omega arith
total-case true false true m n k d e f = omega arith
total-case true false false m n k d e f = omega arith
total-case false true true m n k d e f = omega arith
total-case false true false m n k d e f = omega arith
total-case false false true m n k d e f = omega arith
total-case false false false m n k d e f = omega arith

if-both : (b : Bool) (x y : ℕ) → x ≡ y → (if b then x else 0) ≡ (if b then y else 0)
if-both b x y e = ap (λ (k : ℕ). if b then k else 0) e

pub count-kept : (current pending : List Address) (subs : List SubRecord) (a : Address) → IsWithoutRepeats current → IsWithoutRepeats pending → live_count a subs ≤ 1 → live_count a (kept current pending subs) ≡ (if has_address current a || has_address pending a then 1 else 0)
count-kept current pending subs a c p le =
    let first : List Address = lacking subs [] current in
    let second : List Address = lacking subs current pending in
    let old : live_count a (map (kept_or_shut current pending) subs) ≡ (if has_address current a || has_address pending a then (if has_live subs a then 1 else 0) else 0) =
    count-map current pending a subs ∙ if-both (has_address current a || has_address pending a) (live_count a subs) (if has_live subs a then 1 else 0) (count-any a subs le) in
    let one : occurrences a first ≡ (if not (has_live subs a) && true then (if has_address current a then 1 else 0) else 0) =
    occurrences-filter (λ x. not (has_live subs x) && not (has_address [] x)) a current ∙ if-both (not (has_live subs a) && true) (occurrences a current) (if has_address current a then 1 else 0) (occurrences-once a current c) in
    let two : occurrences a second ≡ (if not (has_live subs a) && not (has_address current a) then (if has_address pending a then 1 else 0) else 0) =
    occurrences-filter (λ x. not (has_live subs x) && not (has_address current x)) a pending ∙ if-both (not (has_live subs a) && not (has_address current a)) (occurrences a pending) (if has_address pending a then 1 else 0) (occurrences-once a pending p) in
    count-append a (map (kept_or_shut current pending) subs) (map new_sub (first ++ second)) ∙ ap (λ (k : ℕ). live_count a (map (kept_or_shut current pending) subs) + k) (count-new a (first ++ second) ∙ occurrences-append a first second) ∙ total-case (has_live subs a) (has_address current a) (has_address pending a) (live_count a (map (kept_or_shut current pending) subs)) (occurrences a first) (occurrences a second) old one two

-- the other calls change no count
count-changed : (f : SubRecord → SubRecord) (a : Address) (subs : List SubRecord) (place : ℕ) → KeepsLive f → ((s : SubRecord) → (f s).address ≡ s.address) → live_count a (changed f subs place) ≡ live_count a subs
count-changed f a [] place live address = refl
count-changed f a (s ∷ subs) zero live address =
    let here : is_live_at a (f s) ≡ is_live_at a s =
    ap (λ (b : Bool). b && ((f s).address.ip == a.ip) && ((f s).address.port == a.port)) (live s) ∙ ap (λ (x : Address). is_live s && (x.ip == a.ip) && (x.port == a.port)) (address s) in
    ap (λ (b : Bool). (if b then 1 else 0) + live_count a subs) here
count-changed f a (s ∷ subs) (suc place) live address = ap (λ (k : ℕ). (if is_live_at a s then 1 else 0) + k) (count-changed f a subs place live address)

count-changed_at : (f : SubRecord → SubRecord) (a : Address) (subs : List SubRecord) (n : ℕ) → KeepsLive f → ((s : SubRecord) → (f s).address ≡ s.address) → live_count a (changed_at f subs n) ≡ live_count a subs
count-changed_at f a subs zero live address = refl
count-changed_at f a subs (suc place) live address = count-changed f a subs place live address

count-clocked : (moment : ℕ) (a : Address) (subs : List SubRecord) (o : Option ℕ) → live_count a (clocked_at moment subs o) ≡ live_count a subs
count-clocked moment a subs None = refl
count-clocked moment a subs (Some n) = count-changed_at (clocked moment) a subs n (keeps_live-clocked moment) (address-step (Clock moment))

one_at_most : (b : Bool) → (if b then 1 else 0) ≤ 1
one_at_most true = omega arith
one_at_most false = omega arith

within : (m n : ℕ) → m ≡ n → n ≤ 1 → m ≤ 1
within m n e h = omega arith

once-step : (call : BoardCall) (subs : List SubRecord) → ListsAreDistinct call → ((a : Address) → live_count a subs ≤ 1) → (a : Address) → live_count a (after_call call subs) ≤ 1
once-step (Keep current pending) subs lists once a =
    within (live_count a (kept current pending subs)) (if has_address current a || has_address pending a then 1 else 0) (count-kept current pending subs a lists.0 lists.1 (once a)) (one_at_most (has_address current a || has_address pending a))
once-step (Wished n) subs lists once a = within _ (live_count a subs) (count-changed_at wished a subs n keeps_live-wished (address-step (Wished n))) (once a)
once-step (Dial n moment word) subs lists once a = within _ (live_count a subs) (count-changed_at (dialed moment word) a subs n (keeps_live-dialed moment word) (address-step (Dial n moment word))) (once a)
once-step (Up n) subs lists once a = within _ (live_count a subs) (count-changed_at linked_up a subs n keeps_live-linked_up (address-step (Up n))) (once a)
once-step (Failed n) subs lists once a = within _ (live_count a subs) (count-changed_at failed a subs n keeps_live-failed (address-step (Failed n))) (once a)
once-step (Ready n) subs lists once a = within _ (live_count a subs) (count-changed_at prefaced a subs n keeps_live-prefaced (address-step (Ready n))) (once a)
once-step (Lost n) subs lists once a = within _ (live_count a subs) (count-changed_at lost a subs n keeps_live-lost (address-step (Lost n))) (once a)
once-step (Clock moment) subs lists once a = within _ (live_count a subs) (count-clocked moment a subs (first_number (is_due moment) subs)) (once a)

once-from : (calls : List BoardCall) (subs : List SubRecord) → AllAreLists calls → ((a : Address) → live_count a subs ≤ 1) → (a : Address) → live_count a (after_calls calls subs) ≤ 1
once-from [] subs lists once a = once a
once-from (call ∷ calls) subs lists once a = once-from calls (after_call call subs) lists.1 (once-step call subs lists.0 once) a

pub live-once : (calls : List BoardCall) → AllAreLists calls → (a : Address) → live_count a (after_calls calls []) ≤ 1
live-once calls lists a = once-from calls [] lists (λ b. omega arith) a

after-append : (calls : List BoardCall) (call : BoardCall) (subs : List SubRecord) → after_calls (calls ++ call ∷ []) subs ≡ after_call call (after_calls calls subs)
after-append [] call subs = refl
after-append (c ∷ calls) call subs = after-append calls call (after_call c subs)

pub live-where-kept : (calls : List BoardCall) (current pending : List Address) → AllAreLists calls → ListsAreDistinct (Keep current pending) → (a : Address) → live_count a (after_calls (calls ++ Keep current pending ∷ []) []) ≡ (if has_address current a || has_address pending a then 1 else 0)
live-where-kept calls current pending lists both a =
    ap (live_count a) (after-append calls (Keep current pending) []) ∙ count-kept current pending (after_calls calls []) a both.0 both.1 (live-once calls lists a)
