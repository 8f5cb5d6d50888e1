-- What a change of a board does to the views of its addresses.
use Rattle.std.proofs.Common.{◌≡◌, ◌+◌, ◌==◌, ℕ, zero, suc, Bool, true, false, ◌&&◌, ◌||◌, not, cond, if◌then◌else◌, Option, Some, None, List, [], ◌∷◌, ◌++◌, map, slice_get, option_to_list, refl, ap, sym, subst, ◌∙◌, arith}
use Rattle.std.specs.List.{list_any, position_from}
use Rattle.std.specs.Option.{option_map, option_and_then}
use Rattle.std.proofs.lemmas.Option.{same_Some, none-some}
use Rattle.std.proofs.lemmas.Bool.{eqb-true, eqb-false, eq-eqb}
use Rattle.grpc_base.specs.declared.address.Address.{Address}
use Rattle.grpc_base.specs.declared.event.Conn.{Conn}
use Rattle.grpc_base.specs.Addresses.{has_address}
use Rattle.lb_policy.specs.declared.seen.SubSeen.{SubSeen}
use Rattle.lb_policy.specs.Steps.{noted_sub}
use Rattle.subchannel.specs.Records.{SubRecord, is_live, shut_down}
use Rattle.subchannel.specs.Boards.{changed, changed_at, first_number, has_live, is_live_at, kept, kept_or_shut, numbered}
use Rattle.subchannel.specs.Runs.{live_count}
use Rattle.subchannel.proofs.KeepLaws.{KeepsLive}
use Rattle.channel_net.specs.Lists.{seen_as, seen_at, view_of}
use Rattle.channel_net.proofs.BoardLaws.{FirstFound, first-found}
use Rattle.channel_net.proofs.ListLaws.{address-is}

-- a change that keeps the address, and whether it is live
abbrev pub KeepsAddress : (SubRecord → SubRecord) → Type 0
KeepsAddress f = (s : SubRecord) → (f s).address ≡ s.address

same-test : (f : SubRecord → SubRecord) → KeepsLive f → KeepsAddress f → (a : Address) (s : SubRecord) → is_live_at a (f s) ≡ is_live_at a s
same-test f live address a s =
    ap (λ (b : Bool). b && ((f s).address.ip == a.ip) && ((f s).address.port == a.port)) (live s) ∙ ap (λ (x : Address). is_live s && (x.ip == a.ip) && (x.port == a.port)) (address s)

position-same : (p : SubRecord → Bool) (f : SubRecord → SubRecord) → ((s : SubRecord) → p (f s) ≡ p s) → (subs : List SubRecord) (i n : ℕ) → position_from p n (changed f subs i) ≡ position_from p n subs
position-same p f same [] i n = refl
position-same p f same (s ∷ subs) zero n = ap (λ (b : Bool). cond b (Some n) (position_from p (n + 1) subs)) (same s)
position-same p f same (s ∷ subs) (suc i) n = ap (λ (o : Option ℕ). cond (p s) (Some n) o) (position-same p f same subs i (n + 1))

first-same : (p : SubRecord → Bool) (f : SubRecord → SubRecord) → ((s : SubRecord) → p (f s) ≡ p s) → (subs : List SubRecord) (sub : ℕ) → first_number p (changed_at f subs sub) ≡ first_number p subs
first-same p f same subs zero = refl
first-same p f same subs (suc place) = position-same p f same subs place 1

-- the subchannel of a number after a change at a number
get-here : (f : SubRecord → SubRecord) (subs : List SubRecord) (i : ℕ) → slice_get (changed f subs i) i ≡ option_map f (slice_get subs i)
get-here f [] i = refl
get-here f (s ∷ subs) zero = refl
get-here f (s ∷ subs) (suc i) = get-here f subs i

get-away : (f : SubRecord → SubRecord) (subs : List SubRecord) (i j : ℕ) → (j ≡ i → ⊥) → slice_get (changed f subs i) j ≡ slice_get subs j
get-away f [] i j away = refl
get-away f (s ∷ subs) zero zero away = absurd (away refl)
get-away f (s ∷ subs) zero (suc j) away = refl
get-away f (s ∷ subs) (suc i) zero away = refl
get-away f (s ∷ subs) (suc i) (suc j) away = get-away f subs i j (λ e. away (ap suc e))

pub numbered-here : (f : SubRecord → SubRecord) (subs : List SubRecord) (sub : ℕ) → numbered (changed_at f subs sub) sub ≡ option_map f (numbered subs sub)
numbered-here f subs zero = refl
numbered-here f subs (suc place) = get-here f subs place

numbered-away : (f : SubRecord → SubRecord) (subs : List SubRecord) (sub k : ℕ) → (k ≡ sub → ⊥) → numbered (changed_at f subs sub) k ≡ numbered subs k
numbered-away f subs zero k away = refl
numbered-away f subs (suc place) zero away = refl
numbered-away f subs (suc place) (suc j) away = get-away f subs place j (λ e. away (ap suc e))

-- what is seen of a number
noted-away : (sub k : ℕ) (c : Conn) (o : Option SubRecord) → (k == sub) ≡ false → option_map (seen_as k) o ≡ option_map (noted_sub sub c) (option_map (seen_as k) o)
noted-away sub k c None e = refl
noted-away sub k c (Some s) e =
    let x : SubSeen = seen_as k s in ap (λ (b : Bool). Some (if b then record x { state = c } else x)) (sym e)

abbrev seen-of : ℕ → Conn → SubSeen
seen-of k c = record { sub = k; state = c }

noted-here : (f : SubRecord → SubRecord) (sub : ℕ) (t : SubRecord) (o : Option SubRecord) → option_map f o ≡ Some t → option_map (seen_as sub) (option_map f o) ≡ option_map (noted_sub sub t.state) (option_map (seen_as sub) o)
noted-here f sub t None e = absurd (none-some t e)
noted-here f sub t (Some s) e =
    let x : SubSeen = seen_as sub s in
    ap (option_map (seen_as sub)) e ∙ ap (λ (b : Bool). Some (if b then record x { state = t.state } else x)) (sym (eq-eqb sub sub refl))

reported-by : (b : Bool) (f : SubRecord → SubRecord) (board : List SubRecord) (sub k : ℕ) (t : SubRecord) → (k == sub) ≡ b → numbered (changed_at f board sub) sub ≡ Some t → option_map (seen_as k) (numbered (changed_at f board sub) k) ≡ option_map (noted_sub sub t.state) (option_map (seen_as k) (numbered board k))
reported-by true f board sub k t e at =
    let same : sub ≡ k = sym (eqb-true k sub e) in
    let here : option_map (seen_as sub) (numbered (changed_at f board sub) sub) ≡ option_map (noted_sub sub t.state) (option_map (seen_as sub) (numbered board sub)) =
    ap (option_map (seen_as sub)) (numbered-here f board sub) ∙ noted-here f sub t (numbered board sub) (sym (numbered-here f board sub) ∙ at) in
    subst (λ (j : ℕ). option_map (seen_as j) (numbered (changed_at f board sub) j) ≡ option_map (noted_sub sub t.state) (option_map (seen_as j) (numbered board j))) same here
reported-by false f board sub k t e at =
    ap (option_map (seen_as k)) (numbered-away f board sub k (eqb-false k sub e)) ∙ noted-away sub k t.state (numbered board k) e

reported-first : (f : SubRecord → SubRecord) (board : List SubRecord) (sub : ℕ) (t : SubRecord) (o : Option ℕ) → numbered (changed_at f board sub) sub ≡ Some t → option_and_then (λ (k : ℕ). option_map (seen_as k) (numbered (changed_at f board sub) k)) o ≡ option_map (noted_sub sub t.state) (option_and_then (λ (k : ℕ). option_map (seen_as k) (numbered board k)) o)
reported-first f board sub t None at = refl
reported-first f board sub t (Some k) at = reported-by (k == sub) f board sub k t refl at

reported-at : (f : SubRecord → SubRecord) → KeepsLive f → KeepsAddress f → (board : List SubRecord) (sub : ℕ) (t : SubRecord) (a : Address) → numbered (changed_at f board sub) sub ≡ Some t → seen_at (changed_at f board sub) a ≡ option_map (noted_sub sub t.state) (seen_at board a)
reported-at f live address board sub t a at =
    ap (option_and_then (λ (k : ℕ). option_map (seen_as k) (numbered (changed_at f board sub) k))) (first-same (is_live_at a) f (same-test f live address a) board sub) ∙ reported-first f board sub t (first_number (is_live_at a) board) at

map-list : (g : SubSeen → SubSeen) (o : Option SubSeen) (view : List SubSeen) → option_to_list (option_map g o) ++ map g view ≡ map g (option_to_list o ++ view)
map-list g None view = refl
map-list g (Some t) view = refl

pub view-reported : (f : SubRecord → SubRecord) → KeepsLive f → KeepsAddress f → (board : List SubRecord) (sub : ℕ) (t : SubRecord) (addresses : List Address) → numbered (changed_at f board sub) sub ≡ Some t → view_of (changed_at f board sub) addresses ≡ map (noted_sub sub t.state) (view_of board addresses)
view-reported f live address board sub t [] at = refl
view-reported f live address board sub t (a ∷ rest) at =
    ap (λ (o : Option SubSeen). option_to_list o ++ view_of (changed_at f board sub) rest) (reported-at f live address board sub t a at)
    ∙ ap (λ (v : List SubSeen). option_to_list (option_map (noted_sub sub t.state) (seen_at board a)) ++ v) (view-reported f live address board sub t rest at)
    ∙ map-list (noted_sub sub t.state) (seen_at board a) (view_of board rest)

-- a change that leaves the state
seen-still : (f : SubRecord → SubRecord) → ((s : SubRecord) → (f s).state ≡ s.state) → (k : ℕ) (subs : List SubRecord) (i j : ℕ) → option_map (seen_as k) (slice_get (changed f subs i) j) ≡ option_map (seen_as k) (slice_get subs j)
seen-still f same k [] i j = refl
seen-still f same k (s ∷ subs) zero zero = ap (λ (c : Conn). Some (seen-of k c)) (same s)
seen-still f same k (s ∷ subs) zero (suc j) = refl
seen-still f same k (s ∷ subs) (suc i) zero = refl
seen-still f same k (s ∷ subs) (suc i) (suc j) = seen-still f same k subs i j

numbered-still : (f : SubRecord → SubRecord) → ((s : SubRecord) → (f s).state ≡ s.state) → (subs : List SubRecord) (sub k : ℕ) → option_map (seen_as k) (numbered (changed_at f subs sub) k) ≡ option_map (seen_as k) (numbered subs k)
numbered-still f same subs zero k = refl
numbered-still f same subs (suc place) zero = refl
numbered-still f same subs (suc place) (suc j) = seen-still f same (suc j) subs place j

first-still : (f : SubRecord → SubRecord) → ((s : SubRecord) → (f s).state ≡ s.state) → (subs : List SubRecord) (sub : ℕ) (o : Option ℕ) → option_and_then (λ (k : ℕ). option_map (seen_as k) (numbered (changed_at f subs sub) k)) o ≡ option_and_then (λ (k : ℕ). option_map (seen_as k) (numbered subs k)) o
first-still f same subs sub None = refl
first-still f same subs sub (Some k) = numbered-still f same subs sub k

pub view-still : (f : SubRecord → SubRecord) → KeepsLive f → KeepsAddress f → ((s : SubRecord) → (f s).state ≡ s.state) → (board : List SubRecord) (sub : ℕ) (addresses : List Address) → view_of (changed_at f board sub) addresses ≡ view_of board addresses
view-still f live address same board sub [] = refl
view-still f live address same board sub (a ∷ rest) =
    let here : seen_at (changed_at f board sub) a ≡ seen_at board a =
    ap (option_and_then (λ (k : ℕ). option_map (seen_as k) (numbered (changed_at f board sub) k))) (first-same (is_live_at a) f (same-test f live address a) board sub) ∙ first-still f same board sub (first_number (is_live_at a) board) in
    ap (λ (o : Option SubSeen). option_to_list o ++ view_of (changed_at f board sub) rest) here ∙ ap (λ (v : List SubSeen). option_to_list (seen_at board a) ++ v) (view-still f live address same board sub rest)

-- lists that are kept
abbrev pub wanted : List Address → List Address → Address → Bool
wanted current pending a = has_address current a || has_address pending a

kept-if : (w : Bool) (l : Bool) (s : SubRecord) → w ≡ true → (if l && not w then shut_down s else s) ≡ s
kept-if true true s e = refl
kept-if true false s e = refl
kept-if false l s e = let absurdity : ⊥ = (cc) in absurd absurdity

kept-live : (current pending : List Address) (a : Address) (s : SubRecord) → wanted current pending a ≡ true → is_live_at a s ≡ true → kept_or_shut current pending s ≡ s
kept-live current pending a s w e =
    let here : wanted current pending s.address ≡ true = ap (wanted current pending) (address-is a s e) ∙ w in
    kept-if (wanted current pending s.address) (is_live s) s here

kept-not : (b : Bool) (a : Address) (s : SubRecord) → is_live_at a s ≡ false → is_live_at a (if b then shut_down s else s) ≡ false
kept-not true a s e = refl
kept-not false a s e = e

kept-test : (current pending : List Address) (a : Address) (s : SubRecord) (b : Bool) → wanted current pending a ≡ true → is_live_at a s ≡ b → is_live_at a (kept_or_shut current pending s) ≡ is_live_at a s
kept-test current pending a s true w e = ap (is_live_at a) (kept-live current pending a s w e)
kept-test current pending a s false w e =
    kept-not (is_live s && not (wanted current pending s.address)) a s e ∙ sym e

position-step : (b : Bool) (n : ℕ) (o r : Option ℕ) (any : Bool) → (b || any) ≡ true → (any ≡ true → o ≡ r) → cond b (Some n) o ≡ cond b (Some n) r
position-step true n o r any e next = refl
position-step false n o r any e next = next e

position-map : (p : SubRecord → Bool) (f : SubRecord → SubRecord) → ((s : SubRecord) → p (f s) ≡ p s) → (xs more : List SubRecord) (n : ℕ) → list_any p xs ≡ true → position_from p n (map f xs ++ more) ≡ position_from p n xs
position-map p f same [] more n any = let absurdity : ⊥ = (cc) in absurd absurdity
position-map p f same (s ∷ xs) more n any =
    ap (λ (b : Bool). cond b (Some n) (position_from p (n + 1) (map f xs ++ more))) (same s) ∙ position-step (p s) n (position_from p (n + 1) (map f xs ++ more)) (position_from p (n + 1) xs) (list_any p xs) any (position-map p f same xs more (n + 1))

get-mapped : (f : SubRecord → SubRecord) (xs more : List SubRecord) (i : ℕ) (s : SubRecord) → slice_get xs i ≡ Some s → slice_get (map f xs ++ more) i ≡ Some (f s)
get-mapped f [] more i s e = absurd (none-some s e)
get-mapped f (x ∷ xs) more zero s e = ap (λ (y : SubRecord). Some (f y)) (same_Some x s e)
get-mapped f (x ∷ xs) more (suc i) s e = get-mapped f xs more i s e

numbered-mapped : (f : SubRecord → SubRecord) (xs more : List SubRecord) (k : ℕ) (s : SubRecord) → numbered xs k ≡ Some s → numbered (map f xs ++ more) k ≡ Some (f s)
numbered-mapped f xs more zero s e = absurd (none-some s e)
numbered-mapped f xs more (suc i) s e = get-mapped f xs more i s e

kept-first : (current pending : List Address) (board : List SubRecord) (a : Address) (o : Option ℕ) → wanted current pending a ≡ true → first_number (is_live_at a) board ≡ o → option_and_then (λ (k : ℕ). option_map (seen_as k) (numbered (kept current pending board) k)) o ≡ option_and_then (λ (k : ℕ). option_map (seen_as k) (numbered board k)) o
kept-first current pending board a None w e = refl
kept-first current pending board a (Some k) w e =
    let f : FirstFound (is_live_at a) board k = first-found (is_live_at a) board k e in
    let after : numbered (kept current pending board) k ≡ Some (kept_or_shut current pending f.s) = numbered-mapped (kept_or_shut current pending) board _ k f.s f.at in
    ap (option_map (seen_as k)) (after ∙ ap (λ (s : SubRecord). Some s) (kept-live current pending a f.s w f.passes) ∙ sym f.at)

seen-kept : (current pending : List Address) (board : List SubRecord) (a : Address) → wanted current pending a ≡ true → has_live board a ≡ true → seen_at (kept current pending board) a ≡ seen_at board a
seen-kept current pending board a w any =
    let first : first_number (is_live_at a) (kept current pending board) ≡ first_number (is_live_at a) board =
    position-map (is_live_at a) (kept_or_shut current pending) (λ s. kept-test current pending a s (is_live_at a s) w refl) board _ 1 any in
    ap (option_and_then (λ (k : ℕ). option_map (seen_as k) (numbered (kept current pending board) k))) first ∙ kept-first current pending board a (first_number (is_live_at a) board) w refl

-- each address of a list is wanted, and has a live subchannel
abbrev pub StayLive : List Address → List Address → List SubRecord → List Address → Type 0
StayLive current pending board [] = Unit {0}
StayLive current pending board (a ∷ rest) =
    (wanted current pending a ≡ true) × ((has_live board a ≡ true) × StayLive current pending board rest)

pub view-kept : (current pending : List Address) (board : List SubRecord) (addresses : List Address) → StayLive current pending board addresses → view_of (kept current pending board) addresses ≡ view_of board addresses
view-kept current pending board [] all = refl
view-kept current pending board (a ∷ rest) all =
    ap (λ (o : Option SubSeen). option_to_list o ++ view_of (kept current pending board) rest) (seen-kept current pending board a all.0 all.1.0) ∙ ap (λ (v : List SubSeen). option_to_list (seen_at board a) ++ v) (view-kept current pending board rest all.1.1)

-- so it is where the board has one live subchannel for each address of a list that is kept
count-step : (b h : Bool) (n : ℕ) → (b || h) ≡ false → (h ≡ false → n ≡ 0) → (if b then 1 else 0) + n ≡ 0
count-step true h n e next = let absurdity : ⊥ = (cc) in absurd absurdity
count-step false h n e next = let z : n ≡ 0 = next e in omega arith

count-none : (subs : List SubRecord) (a : Address) → has_live subs a ≡ false → live_count a subs ≡ 0
count-none [] a e = refl
count-none (s ∷ subs) a e = count-step (is_live_at a s) (has_live subs a) (live_count a subs) e (count-none subs a)

live-by : (b : Bool) (subs : List SubRecord) (a : Address) → has_live subs a ≡ b → live_count a subs ≡ 1 → has_live subs a ≡ true
live-by true subs a e one = e
live-by false subs a e one = let none : live_count a subs ≡ 0 = count-none subs a e in absurd (omega arith)

in-prefix : (a : Address) (rest : List Address) → has_address (a ∷ rest) a ≡ true
in-prefix a rest =
    let ip : (a.ip == a.ip) ≡ true = eq-eqb a.ip a.ip refl in
    let port : (a.port == a.port) ≡ true = eq-eqb a.port a.port refl in
    ap (λ (b : Bool). b && (a.port == a.port) || has_address rest a) ip ∙ ap (λ (b : Bool). b || has_address rest a) port

pub or-right : (b h : Bool) → h ≡ true → (b || h) ≡ true
or-right true h e = refl
or-right false h e = e

pub or-left : (b h : Bool) → b ≡ true → (b || h) ≡ true
or-left b h e = ap (λ (x : Bool). x || h) e

pub stay-live : (current pending : List Address) (board : List SubRecord) (addresses : List Address) → ((a : Address) → has_address addresses a ≡ true → (wanted current pending a ≡ true) × (live_count a board ≡ 1)) → StayLive current pending board addresses
stay-live current pending board [] all = tt
stay-live current pending board (a ∷ rest) all =
    let here : (wanted current pending a ≡ true) × (live_count a board ≡ 1) = all a (in-prefix a rest) in
    (here.0, (live-by (has_live board a) board a refl here.1, stay-live current pending board rest (λ b e. all b (or-right ((a.ip == b.ip) && (a.port == b.port)) (has_address rest b) e))))
