-- A board after two lists of addresses are kept: its subchannels, those of neither shut, and then one for each address in turn that has none.
use Rattle.std.proofs.Common.{◌≡◌, ◌∷◌, ◌++◌, ◌||◌, ◌&&◌, ◌==◌, not, ap, arith, refl, subst, sym, ◌∙◌, Bool, true, false, List, [], ℕ, if◌then◌else◌, cond, map, Contains, append_assoc}
use Rattle.std.proofs.lemmas.Bool.{eq-eqb, eqb-true, or_parts}
use Rattle.std.proofs.lemmas.List.{append-nil, map-append}
use Rattle.std.proofs.lemmas.List.Elements.{Contains-append_right, Contains-get_or}
use Rattle.std.proofs.lemmas.List.Folds.{list_any-append}
use Rattle.std.proofs.lemmas.Map.Views.{any-filter_same}
use Rattle.grpc_base.specs.Addresses.{IsWithoutRepeats, has_address}
use Rattle.grpc_base.specs.declared.address.Address.{Address}
use Rattle.channel_net.proofs.ListLaws.{address-is}
use Rattle.session_actions.specs.Policies.{is_same_address}
use Rattle.subchannel.specs.Boards.{has_live, is_live_at, kept, kept_or_shut, lacking}
use Rattle.subchannel.specs.Records.{SubRecord, is_live, new_sub, shut_down}

-- a board with one for an address, and for each of some
abbrev pub grown_board_if : Bool → List SubRecord → Address → List SubRecord
grown_board_if x board a = if x then board else board ++ new_sub a ∷ []

abbrev pub grown_board : List SubRecord → Address → List SubRecord
grown_board board a = grown_board_if (has_live board a) board a

abbrev pub added_board : List SubRecord → List Address → List SubRecord
added_board board [] = board
added_board board (a ∷ rest) = added_board (grown_board board a) rest

added_append : (board : List SubRecord) (xs ys : List Address) → added_board board (xs ++ ys) ≡ added_board (added_board board xs) ys
added_append board [] ys = refl
added_append board (a ∷ xs) ys = added_append (grown_board board a) xs ys

-- two addresses that are one by the test are one
abbrev address_by : ℕ → ℕ → Address
address_by i p = record { ip = i; port = p }

both_true : (p q : Bool) → (p && q) ≡ true → (p ≡ true) × (q ≡ true)
both_true true q e = (refl, e)
both_true false q e = absurd (cc)

pub same_equal : (x a : Address) → is_same_address x a ≡ true → x ≡ a
same_equal x a e =
    let both : ((x.ip == a.ip) ≡ true) × ((x.port == a.port) ≡ true) = both_true (x.ip == a.ip) (x.port == a.port) e in
    let ip : x.ip ≡ a.ip = eqb-true x.ip a.ip both.0 in
    let port : x.port ≡ a.port = eqb-true x.port a.port both.1 in
    ap (λ (i : ℕ). address_by i x.port) ip ∙ ap (λ (p : ℕ). address_by a.ip p) port

turned_by : (m n : ℕ) (x y : Bool) → (m == n) ≡ x → (n == m) ≡ y → x ≡ y
turned_by m n true true e f = refl
turned_by m n false false e f = refl
turned_by m n true false e f = let g : (n == m) ≡ true = eq-eqb n m (sym (eqb-true m n e)) in absurd (cc)
turned_by m n false true e f = let g : (m == n) ≡ true = eq-eqb m n (sym (eqb-true n m f)) in absurd (cc)

pub turned : (m n : ℕ) → (m == n) ≡ (n == m)
turned m n = turned_by m n (m == n) (n == m) refl refl

pub same_turned : (x a : Address) → is_same_address x a ≡ is_same_address a x
same_turned x a = ap (λ (b : Bool). b && (x.port == a.port)) (turned x.ip a.ip) ∙ ap (λ (b : Bool). (a.ip == x.ip) && b) (turned x.port a.port)

-- what is in a list by the test is in it
has_step : (x : Address) (xs : List Address) (a : Address) (b h : Bool) → is_same_address x a ≡ b → (b || h) ≡ true → (h ≡ true → Contains xs a) → Contains (x ∷ xs) a
has_step x xs a true h e any rest =
    subst (λ (y : Address). Contains (x ∷ xs) y) (same_equal x a e) (Contains-get_or (x ∷ xs) 0 x (omega arith))
has_step x xs a false h e any rest = Contains-append_right (x ∷ []) xs a (rest any)

has_contains : (xs : List Address) (a : Address) → has_address xs a ≡ true → Contains xs a
has_contains [] a e = absurd (cc)
has_contains (x ∷ xs) a e = has_step x xs a (is_same_address x a) (has_address xs a) refl e (has_contains xs a)

absent_by : (b : Bool) (xs : List Address) (a : Address) → has_address xs a ≡ b → (Contains xs a → ⊥) → has_address xs a ≡ false
absent_by true xs a e never = absurd (never (has_contains xs a e))
absent_by false xs a e never = e

pub absent : (xs : List Address) (a : Address) → (Contains xs a → ⊥) → has_address xs a ≡ false
absent xs a never = absent_by (has_address xs a) xs a refl never

-- an address that has a live subchannel, or is one of a list
abbrev known : List SubRecord → List Address → Address → Bool
known base list a = has_live base a || has_address list a

has_new : (news : List Address) (a : Address) → has_live (map new_sub news) a ≡ has_address news a
has_new [] a = refl
has_new (x ∷ news) a = ap (λ (b : Bool). is_same_address x a || b) (has_new news a)

known_is : (base : List SubRecord) (news : List Address) (a : Address) → has_live (base ++ map new_sub news) a ≡ known base news a
known_is base news a =
    list_any-append (is_live_at a) base (map new_sub news) ∙ ap (λ (b : Bool). has_live base a || b) (has_new news a)

-- two lists with which the same ones are known
abbrev Agree : List SubRecord → List Address → List Address → List Address → Type 0
Agree base others news [] = Unit {0}
Agree base others news (a ∷ rest) = (known base news a ≡ known base others a) × Agree base others news rest

pub or_false : (x y : Bool) → y ≡ false → (x || (y || false)) ≡ x
or_false true y e = refl
or_false false true e = absurd (cc)
or_false false false e = refl

agree_more : (base : List SubRecord) (others news : List Address) (a : Address) (rest : List Address) → has_address rest a ≡ false
    → Agree base others news rest → Agree base others (news ++ a ∷ []) rest
agree_more base others news a [] none h = tt
agree_more base others news a (c ∷ rest) none h =
    let parts : (is_same_address c a ≡ false) × (has_address rest a ≡ false) = or_parts (is_same_address c a) (has_address rest a) none in
    let away : is_same_address a c ≡ false = same_turned a c ∙ parts.0 in
    let here : has_address (news ++ a ∷ []) c ≡ has_address news c
    = list_any-append (λ (b : Address). is_same_address b c) news (a ∷ []) ∙ or_false (has_address news c) (is_same_address a c) away in
    (ap (λ (b : Bool). has_live base c || b) here ∙ h.0, agree_more base others news a rest parts.1 h.1)

-- the test of one that lacks
abbrev lacks : List SubRecord → List Address → Address → Bool
lacks base others a = not (has_live base a) && not (has_address others a)

lacks_by : (x y : Bool) (z : Bool) → (x || y) ≡ z → (not x && not y) ≡ not z
lacks_by true y true e = refl
lacks_by true y false e = absurd (cc)
lacks_by false true true e = refl
lacks_by false true false e = absurd (cc)
lacks_by false false true e = absurd (cc)
lacks_by false false false e = refl

lacking_next : (base : List SubRecord) (others rest : List Address) (a : Address) (z : Bool) → known base others a ≡ z
    → lacking base others (a ∷ rest) ≡ cond (not z) (a ∷ lacking base others rest) (lacking base others rest)
lacking_next base others rest a z e =
    ap (λ (b : Bool). cond b (a ∷ lacking base others rest) (lacking base others rest)) (lacks_by (has_live base a) (has_address others a) z e)

more_by : (base : List SubRecord) (others news rest : List Address) (a : Address) (z : Bool) → known base others a ≡ z
    → added_board (base ++ map new_sub news) rest ≡ base ++ map new_sub (news ++ lacking base others rest)
    → added_board (base ++ map new_sub (news ++ a ∷ [])) rest ≡ base ++ map new_sub ((news ++ a ∷ []) ++ lacking base others rest)
    → added_board (grown_board_if z (base ++ map new_sub news) a) rest ≡ base ++ map new_sub (news ++ lacking base others (a ∷ rest))
more_by base others news rest a true e next further =
    next ∙ ap (λ (l : List Address). base ++ map new_sub (news ++ l)) (sym (lacking_next base others rest a true e))
more_by base others news rest a false e next further =
    ap (λ (l : List SubRecord). added_board l rest)
    (append_assoc base (map new_sub news) (new_sub a ∷ []) ∙ ap (λ (l : List SubRecord). base ++ l) (sym (map-append new_sub news (a ∷ []))))
    ∙ further ∙ ap (λ (l : List Address). base ++ map new_sub l) (append_assoc news (a ∷ []) (lacking base others rest))
    ∙ ap (λ (l : List Address). base ++ map new_sub (news ++ l)) (sym (lacking_next base others rest a false e))

boards_more : (base : List SubRecord) (others news rest : List Address) → IsWithoutRepeats rest → Agree base others news rest
    → added_board (base ++ map new_sub news) rest ≡ base ++ map new_sub (news ++ lacking base others rest)
boards_more base others news [] once h = ap (λ (l : List Address). base ++ map new_sub l) (sym (append-nil news))
boards_more base others news (a ∷ rest) once h =
    let live : has_live (base ++ map new_sub news) a ≡ known base others a = known_is base news a ∙ h.0 in
    ap (λ (b : Bool). added_board (grown_board_if b (base ++ map new_sub news) a) rest) live
    ∙ more_by base others news rest a (known base others a) refl (boards_more base others news rest once.1 h.1)
    (boards_more base others (news ++ a ∷ []) rest once.1 (agree_more base others news a rest (absent rest a once.0) h.1))

-- the first list, and then the second one
agree_same : (base : List SubRecord) (list rest : List Address) → Agree base list list rest
agree_same base list [] = tt
agree_same base list (a ∷ rest) = (refl, agree_same base list rest)

or_and : (h x : Bool) → (h || ((not h && true) && x)) ≡ (h || x)
or_and true x = refl
or_and false x = refl

agree_second : (base : List SubRecord) (current rest : List Address) → Agree base current (lacking base [] current) rest
agree_second base current [] = tt
agree_second base current (a ∷ rest) =
    let filtered : has_address (lacking base [] current) a ≡ (lacks base [] a && has_address current a)
    = any-filter_same (λ (x : Address). is_same_address x a) (lacks base []) (lacks base [] a) (λ x e. ap (lacks base []) (same_equal x a e)) current in
    (ap (λ (b : Bool). has_live base a || b) filtered ∙ or_and (has_live base a) (has_address current a), agree_second base current rest)

added_both : (base : List SubRecord) (current pending : List Address) → IsWithoutRepeats current → IsWithoutRepeats pending
    → added_board base (current ++ pending) ≡ base ++ map new_sub (lacking base [] current ++ lacking base current pending)
added_both base current pending one two =
    added_append base current pending
    ∙ ap (λ (l : List SubRecord). added_board (added_board l current) pending) (sym (append-nil base))
    ∙ ap (λ (l : List SubRecord). added_board l pending) (boards_more base [] [] current one (agree_same base [] current))
    ∙ boards_more base current (lacking base [] current) pending two (agree_second base current pending)

-- the addresses of the lists lack a live one where they did before others were shut
kept_if : (w l : Bool) (r : SubRecord) → w ≡ true → (if l && not w then shut_down r else r) ≡ r
kept_if true true r e = refl
kept_if true false r e = refl
kept_if false l r e = absurd (cc)

kept_not : (b : Bool) (a : Address) (r : SubRecord) → is_live_at a r ≡ false → is_live_at a (if b then shut_down r else r) ≡ false
kept_not true a r e = refl
kept_not false a r e = e

abbrev pub is_wanted : List Address → List Address → Address → Bool
is_wanted current pending a = has_address current a || has_address pending a

kept_test : (current pending : List Address) (a : Address) (r : SubRecord) (b : Bool) → is_wanted current pending a ≡ true → is_live_at a r ≡ b
    → is_live_at a (kept_or_shut current pending r) ≡ is_live_at a r
kept_test current pending a r true w e =
    let wanted : is_wanted current pending r.address ≡ true = ap (is_wanted current pending) (address-is a r e) ∙ w in
    ap (is_live_at a) (kept_if (is_wanted current pending r.address) (is_live r) r wanted)
kept_test current pending a r false w e = kept_not (is_live r && not (is_wanted current pending r.address)) a r e ∙ sym e

pub has_live_kept : (current pending : List Address) (a : Address) (board : List SubRecord) → is_wanted current pending a ≡ true
    → has_live (map (kept_or_shut current pending) board) a ≡ has_live board a
has_live_kept current pending a [] w = refl
has_live_kept current pending a (r ∷ board) w =
    ap (λ (b : Bool). b || has_live (map (kept_or_shut current pending) board) a) (kept_test current pending a r (is_live_at a r) w refl)
    ∙ ap (λ (b : Bool). is_live_at a r || b) (has_live_kept current pending a board w)

pub is_itself : (a : Address) → is_same_address a a ≡ true
is_itself a = ap (λ (b : Bool). b && (a.port == a.port)) (eq-eqb a.ip a.ip refl) ∙ eq-eqb a.port a.port refl

pub or_left : (x y : Bool) → x ≡ true → (x || y) ≡ true
or_left true y e = refl
or_left false y e = absurd (cc)

pub or_right : (x y : Bool) → y ≡ true → (x || y) ≡ true
or_right true y e = refl
or_right false y e = e

same_lacking : (base board : List SubRecord) (others xs : List Address) → ((a : Address) → has_address xs a ≡ true → has_live base a ≡ has_live board a)
    → lacking base others xs ≡ lacking board others xs
same_lacking base board others [] h = refl
same_lacking base board others (a ∷ xs) h =
    ap (λ (b : Bool). cond (not b && not (has_address others a)) (a ∷ lacking base others xs) (lacking base others xs))
    (h a (or_left (is_same_address a a) (has_address xs a) (is_itself a)))
    ∙ ap (λ (l : List Address). cond (lacks board others a) (a ∷ l) l)
    (same_lacking base board others xs (λ c e. h c (or_right (is_same_address a c) (has_address xs c) e)))

pub added_kept : (board : List SubRecord) (current pending : List Address) → IsWithoutRepeats current → IsWithoutRepeats pending
    → added_board (map (kept_or_shut current pending) board) (current ++ pending) ≡ kept current pending board
added_kept board current pending one two =
    let base : List SubRecord = map (kept_or_shut current pending) board in
    added_both base current pending one two
    ∙ ap (λ (l : List Address). base ++ map new_sub (l ++ lacking base current pending))
    (same_lacking base board [] current (λ a e. has_live_kept current pending a board (or_left (has_address current a) (has_address pending a) e)))
    ∙ ap (λ (l : List Address). base ++ map new_sub (lacking board [] current ++ l))
    (same_lacking base board current pending (λ a e. has_live_kept current pending a board (or_right (has_address current a) (has_address pending a) e)))
