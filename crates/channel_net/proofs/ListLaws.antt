-- Lists of addresses without repeats, and the views of their subchannels.
use Rattle.std.proofs.Common.{◌≡◌, ℕ, suc, ◌+◌, ◌≤◌, ◌<◌, ◌==◌, Bool, true, false, ◌&&◌, ◌||◌, if◌then◌else◌, Option, Some, None, Result, Ok, Err, OnOk, IfOk, IsErr, ◌↔◌, List, [], ◌∷◌, ◌++◌, length, option_to_list, refl, ap, sym, subst, ◌∙◌, arith, append_assoc, length-append}
use Rattle.std.proofs.lemmas.Bool.{eqb-true}
use Rattle.std.proofs.lemmas.List.Elements.{Contains-append_right, Contains-get_or}
use Rattle.std.proofs.lemmas.Option.{same_Some}
use Rattle.std.specs.List.{Contains, list_any}
use Rattle.std.specs.Option.{option_map, option_and_then}
use Rattle.grpc_base.specs.declared.address.Address.{Address}
use Rattle.grpc_base.specs.Addresses.{IsWithoutRepeats, has_address, with_address}
use Rattle.grpc_base.proofs.ListLaws.{IsWithoutRepeats-push}
use Rattle.lb_policy.specs.declared.seen.SubSeen.{SubSeen}
use Rattle.lb_policy.specs.Table as table
use Rattle.subchannel.specs.Records.{SubRecord, is_live}
use Rattle.subchannel.specs.Boards.{numbered, first_number, is_live_at}
use Rattle.channel_net.specs.Lists.{seen_as, seen_at, view_of}
use Rattle.channel_net.proofs.BoardLaws.{FirstFound, first-found}

-- a push that is not refused
pub fits : {T E B A : Type 0} (r : Result T E) (n : ℕ) → OnOk r A → (IsErr r ↔ (B × (n ≡ 64))) → n < 64 → A
fits (Ok v) n ok full h = ok
fits (Err e) n ok full h = let same : n ≡ 64 = (full.0 refl).1 in absurd (omega arith)

longer-by : (b : Bool) (xs : List Address) (a : Address) → length (if b then xs else xs ++ a ∷ []) ≤ length xs + 1
longer-by true xs a = omega arith
longer-by false xs a = let l : length (xs ++ a ∷ []) ≡ length xs + length (a ∷ []) = length-append xs (a ∷ []) in omega arith

pub longer : (xs ys : List Address) (a : Address) → ys ≡ with_address xs a → length ys ≤ length xs + 1
longer xs ys a e =
    let l : length (with_address xs a) ≤ length xs + 1 = longer-by (has_address xs a) xs a in
    subst (λ (zs : List Address). length zs ≤ length xs + 1) (sym e) l

without-by : (b : Bool) (xs : List Address) (a : Address) → (Contains xs a → ⊥) → IsWithoutRepeats xs → IsWithoutRepeats (if b then xs else xs ++ a ∷ [])
without-by true xs a new kept = kept
without-by false xs a new kept = IsWithoutRepeats-push xs a kept new

pub without-repeats : (xs ys : List Address) (a : Address) → (Contains xs a → ⊥) → ys ≡ with_address xs a → IsWithoutRepeats xs → IsWithoutRepeats ys
without-repeats xs ys a new e kept = subst IsWithoutRepeats (sym e) (without-by (has_address xs a) xs a new kept)

-- two addresses of one live subchannel
both_true : (p q : Bool) → (p && q) ≡ true → (p ≡ true) × (q ≡ true)
both_true true q e = (refl, e)
both_true false q e = let no : ⊥ = (cc) in absurd no

abbrev address_by : ℕ → ℕ → Address
address_by i p = record { ip = i; port = p }

pub address-is : (a : Address) (s : SubRecord) → is_live_at a s ≡ true → s.address ≡ a
address-is a s e =
    let all : ((is_live s && (s.address.ip == a.ip)) ≡ true) × ((s.address.port == a.port) ≡ true) =
    both_true (is_live s && (s.address.ip == a.ip)) (s.address.port == a.port) e in
    let prefix : (is_live s ≡ true) × ((s.address.ip == a.ip) ≡ true) = both_true (is_live s) (s.address.ip == a.ip) all.0 in
    let ip : s.address.ip ≡ a.ip = eqb-true s.address.ip a.ip prefix.1 in
    let port : s.address.port ≡ a.port = eqb-true s.address.port a.port all.1 in
    ap (λ (i : ℕ). address_by i s.address.port) ip ∙ ap (λ (p : ℕ). address_by a.ip p) port

-- the subchannel that an address is seen as has it
pub record Sees (board : List SubRecord) (a : Address) (t : SubSeen) : Type 0 where
  pub s : SubRecord
  pub at : numbered board t.sub ≡ Some s
  pub live : is_live_at a s ≡ true

sees-by : (board : List SubRecord) (a : Address) (t : SubSeen) (o : Option ℕ) → first_number (is_live_at a) board ≡ o → option_and_then (λ (sub : ℕ). option_map (seen_as sub) (numbered board sub)) o ≡ Some t → Sees board a t
sees-by board a t None f e = let no : ⊥ = (cc) in absurd no
sees-by board a t (Some k) f e =
    let found : FirstFound (is_live_at a) board k = first-found (is_live_at a) board k f in
    let same : option_map (seen_as k) (Some found.s) ≡ Some t = ap (option_map (seen_as k)) (sym found.at) ∙ e in
    let seen : seen_as k found.s ≡ t = same_Some (seen_as k found.s) t same in
    let sub : k ≡ t.sub = ap (λ (x : SubSeen). x.sub) seen in
    record { s = found.s; at = subst (λ (n : ℕ). numbered board n ≡ Some found.s) sub found.at; live = found.passes }

pub sees : (board : List SubRecord) (a : Address) (t : SubSeen) → seen_at board a ≡ Some t → Sees board a t
sees board a t e = sees-by board a t (first_number (is_live_at a) board) refl e

one-address : (board : List SubRecord) (a b : Address) (t u : SubSeen) → Sees board a t → Sees board b u → u.sub ≡ t.sub → b ≡ a
one-address board a b t u x y e =
    let there : numbered board u.sub ≡ Some x.s = subst (λ (n : ℕ). numbered board n ≡ Some x.s) (sym e) x.at in
    let same : y.s ≡ x.s = same_Some y.s x.s (sym y.at ∙ there) in
    let left : y.s.address ≡ b = address-is b y.s y.live in
    let right : x.s.address ≡ a = address-is a x.s x.live in
    sym left ∙ ap (λ (r : SubRecord). r.address) same ∙ right

prefix-has : (b : Address) (rest : List Address) (a : Address) → b ≡ a → Contains (b ∷ rest) a
prefix-has b rest a e =
    subst (λ (y : Address). Contains (b ∷ rest) y) e (Contains-get_or (b ∷ rest) 0 b (omega arith))

afterwards-has : (b : Address) (rest : List Address) (a : Address) → Contains rest a → Contains (b ∷ rest) a
afterwards-has b rest a c = Contains-append_right (b ∷ []) rest a c

-- no address after is seen as the same subchannel
is-other : (b : Bool) (m n : ℕ) → (m == n) ≡ b → (m ≡ n → ⊥) → (m == n) ≡ false
is-other true m n e never = absurd (never (eqb-true m n e))
is-other false m n e never = e

not-among-step : (board : List SubRecord) (b : Address) (rest : List Address) (a : Address) (t : SubSeen) (o : Option SubSeen) → seen_at board b ≡ o → Sees board a t → (Contains (b ∷ rest) a → ⊥) → list_any (λ (u : SubSeen). u.sub == t.sub) (view_of board rest) ≡ false → list_any (λ (u : SubSeen). u.sub == t.sub) (option_to_list o ++ view_of board rest) ≡ false
not-among-step board b rest a t None e x new next = next
not-among-step board b rest a t (Some u) e x new next =
    let y : Sees board b u = sees board b u e in
    let here : (u.sub == t.sub) ≡ false = is-other (u.sub == t.sub) u.sub t.sub refl (λ same. new (prefix-has b rest a (one-address board a b t u x y same))) in
    ap (λ (h : Bool). h || list_any (λ (v : SubSeen). v.sub == t.sub) (view_of board rest)) here ∙ next

not-among : (board : List SubRecord) (rest : List Address) (a : Address) (t : SubSeen) → Sees board a t → (Contains rest a → ⊥) → list_any (λ (u : SubSeen). u.sub == t.sub) (view_of board rest) ≡ false
not-among board [] a t x new = refl
not-among board (b ∷ rest) a t x new =
    not-among-step board b rest a t (seen_at board b) refl x new (not-among board rest a t x (λ c. new (afterwards-has b rest a c)))

view-step : (board : List SubRecord) (a : Address) (rest : List Address) (o : Option SubSeen) → seen_at board a ≡ o → (Contains rest a → ⊥) → table.IsWithoutRepeats (view_of board rest) → table.IsWithoutRepeats (option_to_list o ++ view_of board rest)
view-step board a rest None e new next = next
view-step board a rest (Some t) e new next = (not-among board rest a t (sees board a t e) new, next)

view-without : (board : List SubRecord) (addresses : List Address) → IsWithoutRepeats addresses → table.IsWithoutRepeats (view_of board addresses)
view-without board [] kept = tt
view-without board (a ∷ rest) kept = view-step board a rest (seen_at board a) refl kept.0 (view-without board rest kept.1)

short-step : (o : Option SubSeen) (view : List SubSeen) (n : ℕ) → length view ≤ n → length (option_to_list o ++ view) ≤ suc n
short-step None view n h = omega arith
short-step (Some t) view n h = omega arith

view-short : (board : List SubRecord) (addresses : List Address) → length (view_of board addresses) ≤ length addresses
view-short board [] = omega arith
view-short board (a ∷ rest) = short-step (seen_at board a) (view_of board rest) (length rest) (view-short board rest)

pub view-is : (board : List SubRecord) (addresses : List Address) (view : List SubSeen) → length addresses ≤ 64 → IsWithoutRepeats addresses → view ≡ view_of board addresses → table.IsView view
view-is board addresses view few kept e =
    let short : length (view_of board addresses) ≤ length addresses = view-short board addresses in
    let v : table.IsView (view_of board addresses) = record { within = omega arith; no_repeats = view-without board addresses kept } in
    subst table.IsView (sym e) v

-- what holds of an answer that is Ok
pub ok-map : {A E : Type 0} {P Q : A → Type 0} (r : Result A E) → ((a : A) → P a → Q a) → IfOk r P → IfOk r Q
ok-map (Ok a) f h = f a h
ok-map (Err e) f h = h
