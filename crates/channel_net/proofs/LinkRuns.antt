-- A subchannel has a link of its own where it is READY, or its dial is a link, over whole runs.
use Rattle.std.proofs.Common.{◌≡◌, ◌==◌, ℕ, zero, suc, Bool, true, false, ◌&&◌, ◌||◌, not, cond, is_some, if◌then◌else◌, find, Option, Some, None, List, [], ◌∷◌, ◌++◌, map, slice_get, refl, ap, sym, subst, ◌∙◌}
use Rattle.std.specs.List.{filter}
use Rattle.std.specs.Option.{option_map}
use Rattle.std.proofs.lemmas.Option.{same_Some, none-some}
use Rattle.std.proofs.lemmas.Bool.{eqb-true, eq-eqb}
use Rattle.grpc_base.specs.declared.address.Address.{Address}
use Rattle.grpc_base.specs.declared.event.Conn.{Conn}
use Rattle.grpc_base.specs.declared.event.Conn.TheVariants as conn
use Rattle.grpc_base.specs.declared.event.Refusal.{Refusal}
use Rattle.grpc_base.specs.declared.event.Refusal.TheVariants as refusal
use Rattle.grpc_base.specs.declared.kind.Kind.{Kind}
use Rattle.grpc_base.specs.Addresses.{has_address}
use Rattle.grpc_base.specs.Kinds.{has_kind}
use Rattle.subchannel.specs.Records.{SubRecord, next_dials, again_after, until_after, is_live, is_ready, is_idle, is_failure, is_connecting, is_dialable, is_dialing, awaits_preface, is_due, backing_off, wished, dialed, linked_up, failed, prefaced, lost, clocked, new_sub, shut_down}
use Rattle.subchannel.specs.Boards.{changed, changed_at, clocked_at, first_clocked, first_number, kept, kept_or_shut, numbered, passes, passes_test}
use Rattle.policy_rack.specs.Kinds.{kinds_of}
use Rattle.policy_rack.specs.Steps.{may_take_over}
use Rattle.channel_net.specs.declared.links.OwnLink.{OwnLink}
use Rattle.channel_net.specs.Askers.{may_ask}
use Rattle.channel_net.specs.Lists.{live_links, without}
use Rattle.channel_net.specs.Steps as steps
use Rattle.channel_net.specs.Steps.{NetSeen, NetLeft, new_net, dial_refusal, listed, net_kept, moved_over, cleared}
use Rattle.channel_net.specs.Runs.{NetCall, Resolved, Dial, Up, DialFailed, Ready, Down, Clock, Settle, Ask, Shut, after_call, after_calls, net_of}
use Rattle.channel_net.specs.Laws as laws
use Rattle.channel_net.proofs.BoardLaws.{FirstFound, first-found}
use Rattle.channel_net.proofs.ViewLaws.{numbered-here}

-- which fields a state leaves
abbrev IsShaped : Conn → Option ℕ → Bool → Type 0
IsShaped conn.Idle until linked = (until ≡ None) × (linked ≡ false)
IsShaped conn.Connecting None linked = linked ≡ false
IsShaped conn.Connecting (Some t) linked = Unit {0}
IsShaped conn.Ready until linked = (until ≡ None) × (linked ≡ true)
IsShaped conn.Failure until linked = (until ≡ None) × (linked ≡ false)
IsShaped conn.Shutdown until linked = (until ≡ None) × (linked ≡ false)

abbrev pub Shaped : SubRecord → Type 0
Shaped s = IsShaped s.state s.until s.linked

abbrev sub_of : Address → Conn → ℕ → Option ℕ → Option ℕ → Bool → SubRecord
sub_of a c d again until linked = record { address = a; state = c; dials = d; again = again; until = until; linked = linked }

abbrev KeepsShape : (SubRecord → SubRecord) → Type 0
KeepsShape f = (s : SubRecord) → Shaped s → Shaped (f s)

wished-by : (a : Address) (c : Conn) (d : ℕ) (again until : Option ℕ) (linked : Bool) → IsShaped c until linked → Shaped (wished (sub_of a c d again until linked))
wished-by a conn.Idle d again None linked h = h.1
wished-by a conn.Idle d again (Some t) linked h = tt
wished-by a conn.Connecting d again None linked h = h
wished-by a conn.Connecting d again (Some t) linked h = tt
wished-by a conn.Ready d again until linked h = h
wished-by a conn.Failure d again until linked h = h
wished-by a conn.Shutdown d again until linked h = h

dialed-by : (moment word : ℕ) (a : Address) (c : Conn) (d : ℕ) (again until : Option ℕ) (linked : Bool) → IsShaped c until linked → Shaped (dialed moment word (sub_of a c d again until linked))
dialed-by moment word a conn.Idle d again until linked h = h
dialed-by moment word a conn.Connecting d again None linked h = tt
dialed-by moment word a conn.Connecting d again (Some t) linked h = tt
dialed-by moment word a conn.Ready d again until linked h = h
dialed-by moment word a conn.Failure d again until linked h = h
dialed-by moment word a conn.Shutdown d again until linked h = h

up-by : (a : Address) (c : Conn) (d : ℕ) (again until : Option ℕ) (linked : Bool) → IsShaped c until linked → Shaped (linked_up (sub_of a c d again until linked))
up-by a conn.Idle d again until linked h = h
up-by a conn.Connecting d again None linked h = h
up-by a conn.Connecting d again (Some t) true h = tt
up-by a conn.Connecting d again (Some t) false h = tt
up-by a conn.Ready d again until linked h = h
up-by a conn.Failure d again until linked h = h
up-by a conn.Shutdown d again until linked h = h

failed-by : (a : Address) (c : Conn) (d : ℕ) (again until : Option ℕ) (linked : Bool) → IsShaped c until linked → Shaped (failed (sub_of a c d again until linked))
failed-by a conn.Idle d again until linked h = h
failed-by a conn.Connecting d again None linked h = h
failed-by a conn.Connecting d again (Some t) true h = tt
failed-by a conn.Connecting d again (Some t) false h = (refl, refl)
failed-by a conn.Ready d again until linked h = h
failed-by a conn.Failure d again until linked h = h
failed-by a conn.Shutdown d again until linked h = h

prefaced-by : (a : Address) (c : Conn) (d : ℕ) (again until : Option ℕ) (linked : Bool) → IsShaped c until linked → Shaped (prefaced (sub_of a c d again until linked))
prefaced-by a conn.Idle d again until linked h = h
prefaced-by a conn.Connecting d again None linked h = h
prefaced-by a conn.Connecting d again (Some t) true h = (refl, refl)
prefaced-by a conn.Connecting d again (Some t) false h = tt
prefaced-by a conn.Ready d again until linked h = h
prefaced-by a conn.Failure d again until linked h = h
prefaced-by a conn.Shutdown d again until linked h = h

-- a lost link is no link
lost-by : (a : Address) (c : Conn) (d : ℕ) (again until : Option ℕ) (linked : Bool) → IsShaped c until linked → Shaped (lost (sub_of a c d again until linked)) × ((lost (sub_of a c d again until linked)).linked ≡ false)
lost-by a conn.Idle d again until linked h = (h, h.1)
lost-by a conn.Connecting d again None linked h = (h, h)
lost-by a conn.Connecting d again (Some t) true h = ((refl, refl), refl)
lost-by a conn.Connecting d again (Some t) false h = (tt, refl)
lost-by a conn.Ready d again until linked h = ((h.0, refl), refl)
lost-by a conn.Failure d again until linked h = (h, h.1)
lost-by a conn.Shutdown d again until linked h = (h, h.1)

-- what the clock makes of a subchannel that it changes
over-by : (a : Address) (c : Conn) (d : ℕ) (again until : Option ℕ) (linked : Bool) → IsShaped c until linked → Shaped (if is_failure c then record (sub_of a c d again until linked) { state = conn.Idle; again = None } else backing_off (sub_of a c d again until linked)) × ((if is_failure c then record (sub_of a c d again until linked) { state = conn.Idle; again = None } else backing_off (sub_of a c d again until linked)).linked ≡ false)
over-by a conn.Idle d again until linked h = ((refl, refl), refl)
over-by a conn.Connecting d again until linked h = ((refl, refl), refl)
over-by a conn.Ready d again until linked h = ((refl, refl), refl)
over-by a conn.Failure d again until linked h = (h, h.1)
over-by a conn.Shutdown d again until linked h = ((refl, refl), refl)

shaped-if : (b : Bool) (s t : SubRecord) → Shaped s → Shaped t → Shaped (if b then t else s)
shaped-if true s t x y = y
shaped-if false s t x y = x

keeps-wished : KeepsShape wished
keeps-wished s h = wished-by s.address s.state s.dials s.again s.until s.linked h

keeps-dialed : (moment word : ℕ) → KeepsShape (dialed moment word)
keeps-dialed moment word s h = dialed-by moment word s.address s.state s.dials s.again s.until s.linked h

keeps-up : KeepsShape linked_up
keeps-up s h = up-by s.address s.state s.dials s.again s.until s.linked h

keeps-failed : KeepsShape failed
keeps-failed s h = failed-by s.address s.state s.dials s.again s.until s.linked h

keeps-prefaced : KeepsShape prefaced
keeps-prefaced s h = prefaced-by s.address s.state s.dials s.again s.until s.linked h

keeps-lost : KeepsShape lost
keeps-lost s h = (lost-by s.address s.state s.dials s.again s.until s.linked h).0

abbrev over : SubRecord → SubRecord
over s = if is_failure s.state then record s { state = conn.Idle; again = None } else backing_off s

keeps-clocked : (moment : ℕ) → KeepsShape (clocked moment)
keeps-clocked moment s h =
    shaped-if (is_due moment s) s (over s) h (over-by s.address s.state s.dials s.again s.until s.linked h).0

keeps-kept : (current pending : List Address) → KeepsShape (kept_or_shut current pending)
keeps-kept current pending s h =
    shaped-if (is_live s && not (has_address current s.address || has_address pending s.address)) s (shut_down s) h (refl, refl)

-- each one of a list
abbrev pub AllShaped : List SubRecord → Type 0
AllShaped [] = Unit {0}
AllShaped (s ∷ subs) = Shaped s × AllShaped subs

all-changed : (f : SubRecord → SubRecord) → KeepsShape f → (subs : List SubRecord) (i : ℕ) → AllShaped subs → AllShaped (changed f subs i)
all-changed f keeps [] i h = tt
all-changed f keeps (s ∷ subs) zero h = (keeps s h.0, h.1)
all-changed f keeps (s ∷ subs) (suc i) h = (h.0, all-changed f keeps subs i h.1)

all-at : (f : SubRecord → SubRecord) → KeepsShape f → (subs : List SubRecord) (n : ℕ) → AllShaped subs → AllShaped (changed_at f subs n)
all-at f keeps subs zero h = h
all-at f keeps subs (suc place) h = all-changed f keeps subs place h

all-new : (addresses : List Address) → AllShaped (map new_sub addresses)
all-new [] = tt
all-new (a ∷ rest) = ((refl, refl), all-new rest)

all-kept : (f : SubRecord → SubRecord) → KeepsShape f → (subs : List SubRecord) (more : List Address) → AllShaped subs → AllShaped (map f subs ++ map new_sub more)
all-kept f keeps [] more h = all-new more
all-kept f keeps (s ∷ subs) more h = (keeps s h.0, all-kept f keeps subs more h.1)

all-get : (subs : List SubRecord) (i : ℕ) (s : SubRecord) → AllShaped subs → slice_get subs i ≡ Some s → Shaped s
all-get [] i s h e = absurd (none-some s e)
all-get (x ∷ subs) zero s h e = subst Shaped (same_Some x s e) h.0
all-get (x ∷ subs) (suc i) s h e = all-get subs i s h.1 e

all-numbered : (subs : List SubRecord) (k : ℕ) (s : SubRecord) → AllShaped subs → numbered subs k ≡ Some s → Shaped s
all-numbered subs zero s h e = absurd (none-some s e)
all-numbered subs (suc i) s h e = all-get subs i s h e

-- whether the subchannel of a number has a link
abbrev linked_in : Option SubRecord → Bool
linked_in None = false
linked_in (Some s) = s.linked

linked-same : (f : SubRecord → SubRecord) → ((s : SubRecord) → (f s).linked ≡ s.linked) → (subs : List SubRecord) (i j : ℕ) → linked_in (slice_get (changed f subs i) j) ≡ linked_in (slice_get subs j)
linked-same f same [] i j = refl
linked-same f same (s ∷ subs) zero zero = same s
linked-same f same (s ∷ subs) zero (suc j) = refl
linked-same f same (s ∷ subs) (suc i) zero = refl
linked-same f same (s ∷ subs) (suc i) (suc j) = linked-same f same subs i j

linked-at : (f : SubRecord → SubRecord) → ((s : SubRecord) → (f s).linked ≡ s.linked) → (subs : List SubRecord) (n k : ℕ) → linked_in (numbered (changed_at f subs n) k) ≡ linked_in (numbered subs k)
linked-at f same subs zero k = refl
linked-at f same subs (suc place) zero = refl
linked-at f same subs (suc place) (suc j) = linked-same f same subs place j

linked-away : (f : SubRecord → SubRecord) (subs : List SubRecord) (i j : ℕ) → (j ≡ i → ⊥) → linked_in (slice_get (changed f subs i) j) ≡ linked_in (slice_get subs j)
linked-away f [] i j away = refl
linked-away f (s ∷ subs) zero zero away = absurd (away refl)
linked-away f (s ∷ subs) zero (suc j) away = refl
linked-away f (s ∷ subs) (suc i) zero away = refl
linked-away f (s ∷ subs) (suc i) (suc j) away = linked-away f subs i j (λ e. away (ap suc e))

linked-other : (f : SubRecord → SubRecord) (subs : List SubRecord) (n k : ℕ) → (k ≡ n → ⊥) → linked_in (numbered (changed_at f subs n) k) ≡ linked_in (numbered subs k)
linked-other f subs zero k away = refl
linked-other f subs (suc place) zero away = refl
linked-other f subs (suc place) (suc j) away = linked-away f subs place j (λ e. away (ap suc e))

-- tests
and-none : (b : Bool) → (b && false) ≡ false
and-none true = refl
and-none false = refl

and-all : (b : Bool) → (b && true) ≡ b
and-all true = refl
and-all false = refl

or-none : (b : Bool) → (b || false) ≡ b
or-none true = refl
or-none false = refl

or-all : (b : Bool) → (b || true) ≡ true
or-all true = refl
or-all false = refl

or-assoc : (a b c : Bool) → (a || (b || c)) ≡ ((a || b) || c)
or-assoc true b c = refl
or-assoc false b c = refl

not-true : (b : Bool) → b ≡ false → b ≡ true → ⊥
not-true b e f = (cc)

clash : (b : Bool) → (b && false) ≡ true → ⊥
clash true e = (cc)
clash false e = (cc)

dialing-unlinked : (b linked : Bool) → (b && not linked) ≡ true → linked ≡ false
dialing-unlinked b true e = let absurdity : ⊥ = clash b e in absurd absurdity
dialing-unlinked b false e = refl

dialing-if : (b : Bool) → is_some {T = Refusal} (if b then None else Some refusal.NotDialing) ≡ false → b ≡ true
dialing-if true e = refl
dialing-if false e = let absurdity : ⊥ = (cc) in absurd absurdity

shut-linked : (a : Address) (c : Conn) (d : ℕ) (again until : Option ℕ) (linked : Bool) → is_live (sub_of a c d again until linked) ≡ false → IsShaped c until linked → linked ≡ false
shut-linked a conn.Idle d again until linked e h = h.1
shut-linked a conn.Connecting d again until linked e h = let absurdity : ⊥ = (cc) in absurd absurdity
shut-linked a conn.Ready d again until linked e h = let absurdity : ⊥ = (cc) in absurd absurdity
shut-linked a conn.Failure d again until linked e h = h.1
shut-linked a conn.Shutdown d again until linked e h = h.1

-- the link of a subchannel among those that pass a test of its number
find-some : (b : Bool) (x : OwnLink) (o : Option OwnLink) → is_some (cond b (Some x) o) ≡ (b || is_some o)
find-some true x o = refl
find-some false x o = refl

filter-step : (t e : Bool) (q : ℕ → Bool) (own : OwnLink) (rest : List OwnLink) (k : ℕ) → q own.sub ≡ t → (own.sub == k) ≡ e → is_some (find (λ (o : OwnLink). o.sub == k) (filter (λ (o : OwnLink). q o.sub) rest)) ≡ (is_some (find (λ (o : OwnLink). o.sub == k) rest) && q k) → is_some (find (λ (o : OwnLink). o.sub == k) (cond t (own ∷ filter (λ (o : OwnLink). q o.sub) rest) (filter (λ (o : OwnLink). q o.sub) rest))) ≡ ((e || is_some (find (λ (o : OwnLink). o.sub == k) rest)) && q k)
filter-step true true q own rest k test same next =
    let is : own.sub ≡ k = eqb-true own.sub k same in
    let pass : true ≡ q k = sym test ∙ ap q is in
    find-some (own.sub == k) own _ ∙ ap (λ (b : Bool). b || is_some (find (λ (o : OwnLink). o.sub == k) (filter (λ (o : OwnLink). q o.sub) rest))) same ∙ pass
filter-step true false q own rest k test same next =
    find-some (own.sub == k) own _ ∙ ap (λ (b : Bool). b || is_some (find (λ (o : OwnLink). o.sub == k) (filter (λ (o : OwnLink). q o.sub) rest))) same ∙ next
filter-step false true q own rest k test same next =
    let is : own.sub ≡ k = eqb-true own.sub k same in
    let fails : q k ≡ false = ap q (sym is) ∙ test in
    next ∙ ap (λ (b : Bool). is_some (find (λ (o : OwnLink). o.sub == k) rest) && b) fails ∙ and-none (is_some (find (λ (o : OwnLink). o.sub == k) rest)) ∙ sym fails
filter-step false false q own rest k test same next = next

find-filter : (q : ℕ → Bool) (links : List OwnLink) (k : ℕ) → is_some (find (λ (o : OwnLink). o.sub == k) (filter (λ (o : OwnLink). q o.sub) links)) ≡ (is_some (find (λ (o : OwnLink). o.sub == k) links) && q k)
find-filter q [] k = refl
find-filter q (own ∷ rest) k =
    filter-step (q own.sub) (own.sub == k) q own rest k refl refl (find-filter q rest k) ∙ ap (λ (b : Bool). b && q k) (sym (find-some (own.sub == k) own (find (λ (o : OwnLink). o.sub == k) rest)))

find-more : (links : List OwnLink) (own : OwnLink) (k : ℕ) → is_some (find (λ (o : OwnLink). o.sub == k) (links ++ own ∷ [])) ≡ (is_some (find (λ (o : OwnLink). o.sub == k) links) || (own.sub == k))
find-more [] own k = find-some (own.sub == k) own None ∙ or-none (own.sub == k)
find-more (x ∷ links) own k =
    find-some (x.sub == k) x _ ∙ ap (λ (b : Bool). (x.sub == k) || b) (find-more links own k) ∙ or-assoc (x.sub == k) (is_some (find (λ (o : OwnLink). o.sub == k) links)) (own.sub == k) ∙ ap (λ (b : Bool). b || (own.sub == k)) (sym (find-some (x.sub == k) x (find (λ (o : OwnLink). o.sub == k) links)))

mapped : (o : Option OwnLink) → is_some (option_map (λ (own : OwnLink). own.link) o) ≡ is_some o
mapped None = refl
mapped (Some own) = refl

-- a board with the links of its subchannels
pub record Tied (board : List SubRecord) (links : List OwnLink) : Type 0 where
  pub shaped : AllShaped board
  pub linked : (k : ℕ) → is_some (find (λ (o : OwnLink). o.sub == k) links) ≡ linked_in (numbered board k)

tied-same : (f : SubRecord → SubRecord) → KeepsShape f → ((s : SubRecord) → (f s).linked ≡ s.linked) → (board : List SubRecord) (links : List OwnLink) (n : ℕ) → Tied board links → Tied (changed_at f board n) links
tied-same f keeps same board links n x = record { shaped = all-at f keeps board n x.shaped; linked = λ k. x.linked k ∙ sym (linked-at f same board n k) }

-- a subchannel that gives its link up
gone-in : (f : SubRecord → SubRecord) (o : Option SubRecord) → ((s : SubRecord) → o ≡ Some s → (f s).linked ≡ false) → linked_in (option_map f o) ≡ false
gone-in f None gone = refl
gone-in f (Some s) gone = gone s refl

gone-by : (b : Bool) (f : SubRecord → SubRecord) (board : List SubRecord) (n k : ℕ) → (k == n) ≡ b → ((s : SubRecord) → numbered board n ≡ Some s → (f s).linked ≡ false) → linked_in (numbered (changed_at f board n) k) ≡ (linked_in (numbered board k) && not b)
gone-by true f board n k e gone =
    let is : n ≡ k = sym (eqb-true k n e) in
    let here : linked_in (numbered (changed_at f board n) n) ≡ false = ap linked_in (numbered-here f board n) ∙ gone-in f (numbered board n) gone in
    subst (λ (j : ℕ). linked_in (numbered (changed_at f board n) j) ≡ false) is here ∙ sym (and-none (linked_in (numbered board k)))
gone-by false f board n k e gone =
    linked-other f board n k (λ same. not-true (k == n) e (eq-eqb k n same)) ∙ sym (and-all (linked_in (numbered board k)))

tied-gone : (f : SubRecord → SubRecord) → KeepsShape f → (board : List SubRecord) (links : List OwnLink) (n : ℕ) → ((s : SubRecord) → numbered board n ≡ Some s → (f s).linked ≡ false) → Tied board links → Tied (changed_at f board n) (without n links)
tied-gone f keeps board links n gone x = record {
  shaped = all-at f keeps board n x.shaped;
  linked = λ k. find-filter (λ (m : ℕ). not (m == n)) links k ∙ ap (λ (b : Bool). b && not (k == n)) (x.linked k) ∙ sym (gone-by (k == n) f board n k refl gone);
}

-- lists that are kept
kept-by : (l w : Bool) (s : SubRecord) → is_live s ≡ l → Shaped s → (if l && not w then shut_down s else s).linked ≡ (s.linked && is_live (if l && not w then shut_down s else s))
kept-by true true s live h = sym (ap (λ (b : Bool). s.linked && b) live ∙ and-all s.linked)
kept-by true false s live h = sym (and-none s.linked)
kept-by false w s live h = shut-linked s.address s.state s.dials s.again s.until s.linked live h ∙ sym (ap (λ (b : Bool). s.linked && b) live ∙ and-none s.linked)

new-linked : (more : List Address) (k : ℕ) → linked_in (slice_get (map new_sub more) k) ≡ false
new-linked [] k = refl
new-linked (a ∷ more) zero = refl
new-linked (a ∷ more) (suc k) = new-linked more k

kept-linked : (current pending : List Address) (subs : List SubRecord) (more : List Address) (k : ℕ) → AllShaped subs → linked_in (slice_get (map (kept_or_shut current pending) subs ++ map new_sub more) k) ≡ (linked_in (slice_get subs k) && passes_test is_live (slice_get (map (kept_or_shut current pending) subs ++ map new_sub more) k))
kept-linked current pending [] more k h = new-linked more k
kept-linked current pending (s ∷ subs) more zero h =
    kept-by (is_live s) (has_address current s.address || has_address pending s.address) s refl h.0
kept-linked current pending (s ∷ subs) more (suc k) h = kept-linked current pending subs more k h.1

kept-numbered : (current pending : List Address) (board : List SubRecord) (k : ℕ) → AllShaped board → (linked_in (numbered board k) && passes is_live (kept current pending board) k) ≡ linked_in (numbered (kept current pending board) k)
kept-numbered current pending board zero h = refl
kept-numbered current pending board (suc i) h = sym (kept-linked current pending board _ i h)

tied-kept : (current pending : List Address) (board : List SubRecord) (links : List OwnLink) → Tied board links → Tied (kept current pending board) (live_links (kept current pending board) links)
tied-kept current pending board links x = record {
  shaped = all-kept (kept_or_shut current pending) (keeps-kept current pending) board _ x.shaped;
  linked = λ k. find-filter (passes is_live (kept current pending board)) links k ∙ ap (λ (b : Bool). b && passes is_live (kept current pending board) k) (x.linked k) ∙ kept-numbered current pending board k x.shaped;
}

-- which changes leave the link
same-by : (b : Bool) (s t : SubRecord) → t.linked ≡ s.linked → (if b then t else s).linked ≡ s.linked
same-by true s t e = e
same-by false s t e = refl

failed-link : (b : Bool) (s : SubRecord) → is_dialing s ≡ b → (if b then backing_off s else s).linked ≡ s.linked
failed-link true s e = sym (dialing-unlinked (is_connecting s.state && is_some s.until) s.linked e)
failed-link false s e = refl

wished-linked : (s : SubRecord) → (wished s).linked ≡ s.linked
wished-linked s = same-by (is_idle s.state) s (record s { state = conn.Connecting }) refl

dialed-linked : (moment word : ℕ) (s : SubRecord) → (dialed moment word s).linked ≡ s.linked
dialed-linked moment word s =
    same-by (is_dialable s) s (record s { dials = next_dials s; again = Some (again_after s moment word); until = Some (until_after s moment word) }) refl

prefaced-linked : (s : SubRecord) → (prefaced s).linked ≡ s.linked
prefaced-linked s = same-by (awaits_preface s) s (record s { state = conn.Ready; dials = 0; again = None; until = None }) refl

-- a dial that is a link
up-here : (s : SubRecord) → is_dialing s ≡ true → (linked_up s).linked ≡ true
up-here s e = ap (λ (b : Bool). (if b then record s { linked = true } else s).linked) e

dialing-there : (o : Option SubRecord) → is_some (dial_refusal o) ≡ false → (s : SubRecord) × ((o ≡ Some s) × (is_dialing s ≡ true))
dialing-there None e = let absurdity : ⊥ = (cc) in absurd absurdity
dialing-there (Some s) e = (s, (refl, dialing-if (is_dialing s) e))

up-by-number : (b : Bool) (board : List SubRecord) (n k : ℕ) → (n == k) ≡ b → is_some (dial_refusal (numbered board n)) ≡ false → linked_in (numbered (changed_at linked_up board n) k) ≡ (linked_in (numbered board k) || b)
up-by-number true board n k e may =
    let s = dialing-there (numbered board n) may in
    let is : n ≡ k = eqb-true n k e in
    let here : linked_in (numbered (changed_at linked_up board n) n) ≡ true =
    ap linked_in (numbered-here linked_up board n ∙ ap (option_map linked_up) s.1.0) ∙ up-here s.0 s.1.1 in
    subst (λ (j : ℕ). linked_in (numbered (changed_at linked_up board n) j) ≡ true) is here ∙ sym (or-all (linked_in (numbered board k)))
up-by-number false board n k e may =
    linked-other linked_up board n k (λ same. not-true (n == k) e (eq-eqb n k (sym same))) ∙ sym (or-none (linked_in (numbered board k)))

tied-up : (n link : ℕ) (board : List SubRecord) (links : List OwnLink) → is_some (dial_refusal (numbered board n)) ≡ false → Tied board links → Tied (changed_at linked_up board n) (links ++ record { sub = n; link = link } ∷ [])
tied-up n link board links may x = record {
  shaped = all-at linked_up keeps-up board n x.shaped;
  linked = λ k. find-more links (record { sub = n; link = link }) k ∙ ap (λ (b : Bool). b || (n == k)) (x.linked k) ∙ sym (up-by-number (n == k) board n k refl may);
}

-- each call
abbrev TiedNet : NetSeen → Type 0
TiedNet n = Tied n.board n.links

tied-if : (b : Bool) (n t : NetSeen) → TiedNet n → TiedNet t → TiedNet (if b then t else n)
tied-if true n t x y = y
tied-if false n t x y = x

due-linked : (moment : ℕ) (s : SubRecord) → Shaped s → is_due moment s ≡ true → (clocked moment s).linked ≡ false
due-linked moment s h e =
    ap (λ (b : Bool). (if b then over s else s).linked) e ∙ (over-by s.address s.state s.dials s.again s.until s.linked h).1

tied-clock-by : (moment : ℕ) (l : NetLeft) (o : Option ℕ) → first_number (is_due moment) l.net.board ≡ o → TiedNet l.net → TiedNet (steps.clocked_at moment o l).net
tied-clock-by moment l None e x = x
tied-clock-by moment l (Some sub) e x =
    let f : FirstFound (is_due moment) l.net.board sub = first-found (is_due moment) l.net.board sub e in
    let gone : (s : SubRecord) → numbered l.net.board sub ≡ Some s → (clocked moment s).linked ≡ false =
    λ s at. (let same : f.s ≡ s = same_Some f.s s (sym f.at ∙ at) in due-linked moment s (all-numbered l.net.board sub s x.shaped at) (subst (λ (r : SubRecord). is_due moment r ≡ true) same f.passes)) in
    let is : first_clocked moment l.net.board ≡ changed_at (clocked moment) l.net.board sub = ap (clocked_at moment l.net.board) e in
    subst (λ (b : List SubRecord). Tied b (without sub l.net.links)) (sym is) (tied-gone (clocked moment) (keeps-clocked moment) l.net.board l.net.links sub gone x)

tied-rounds : (moment k : ℕ) (l : NetLeft) → TiedNet l.net → TiedNet (steps.clock_rounds moment k l).net
tied-rounds moment zero l x = x
tied-rounds moment (suc k) l x =
    tied-rounds moment k (steps.clock_round moment l) (tied-clock-by moment l (first_number (is_due moment) l.net.board) refl x)

tied-connect-by : (n : NetSeen) (o : Option ℕ) → TiedNet n → TiedNet (steps.connected_at o n)
tied-connect-by n None x = x
tied-connect-by n (Some sub) x = tied-same wished keeps-wished wished-linked n.board n.links sub x

tied-wishes : (k : ℕ) (n : NetSeen) → TiedNet n → TiedNet (steps.connect_rounds k n)
tied-wishes zero n x = x
tied-wishes (suc k) n x = tied-wishes k (steps.connect_round n) (tied-connect-by n (steps.first_wished n) x)

tied-over : (b : Bool) (l : NetLeft) → TiedNet l.net → TiedNet (if b then record { net = net_kept (moved_over l.net); gone = steps.kept_shut (moved_over l.net) } else l).net
tied-over true l x = tied-kept l.net.pending [] l.net.board l.net.links x
tied-over false l x = x

tied-round : (l : NetLeft) → TiedNet l.net → TiedNet (steps.settle_round l).net
tied-round l x =
    let t : NetSeen = (steps.net_taken_over l).net in
    tied-wishes (steps.idle_count t.board) t (tied-over (may_take_over l.net.asker.rack) l x)

tied-further : (b : Bool) (l : NetLeft) → TiedNet l.net → TiedNet (if b then steps.settle_round l else l).net
tied-further true l x = tied-round l x
tied-further false l x = x

tied-settled : (n : NetSeen) → TiedNet n → TiedNet (steps.net_settled n).net
tied-settled n x =
    let first : NetLeft = steps.settle_round (steps.left_of n) in
    tied-further (may_take_over first.net.asker.rack) first (tied-round (steps.left_of n) x)

tied-dial : (moment word : ℕ) (n : NetSeen) (o : Option ℕ) → TiedNet n → Tied (steps.board_dialed moment word o n.board) n.links
tied-dial moment word n None x = x
tied-dial moment word n (Some sub) x =
    tied-same (dialed moment word) (keeps-dialed moment word) (dialed-linked moment word) n.board n.links sub x

tied-up-by : (b : Bool) (sub link : ℕ) (n : NetSeen) → is_some (dial_refusal (numbered n.board sub)) ≡ b → TiedNet n → TiedNet (if b then n else steps.net_up sub link n)
tied-up-by true sub link n e x = x
tied-up-by false sub link n e x = tied-up sub link n.board n.links e x

tied-failed-by : (b : Bool) (sub : ℕ) (n : NetSeen) → TiedNet n → TiedNet (if b then n else steps.net_dial_failed sub n)
tied-failed-by true sub n x = x
tied-failed-by false sub n x =
    tied-same failed keeps-failed (λ s. failed-link (is_dialing s) s refl) n.board n.links sub x

tied-lost : (sub : ℕ) (n : NetSeen) → TiedNet n → TiedNet (steps.net_lost sub n)
tied-lost sub n x =
    tied-gone lost keeps-lost n.board n.links sub (λ s at. (lost-by s.address s.state s.dials s.again s.until s.linked (all-numbered n.board sub s x.shaped at)).1) x

tied-resolved-by : (b : Bool) (k : Kind) (addresses : List Address) (n : NetSeen) → TiedNet n → TiedNet (if b then steps.net_taken k addresses n else n)
tied-resolved-by true k addresses n x = tied-kept (listed k addresses n).current (listed k addresses n).pending n.board n.links x
tied-resolved-by false k addresses n x = x

tied-asked : (b : Bool) (n : NetSeen) → TiedNet n → TiedNet (steps.net_asked n)
tied-asked b n x = record { shaped = x.shaped; linked = x.linked }

tied-call : (call : NetCall) (n : NetSeen) → TiedNet n → TiedNet (after_call call n)
tied-call (Resolved k addresses) n x = tied-resolved-by (has_kind (kinds_of n.asker.rack.policies) k) k addresses n x
tied-call (Dial moment word) n x = tied-dial moment word n (first_number is_dialable n.board) x
tied-call (Up sub link) n x = tied-up-by (is_some (dial_refusal (numbered n.board sub))) sub link n refl x
tied-call (DialFailed sub) n x = tied-failed-by (is_some (dial_refusal (numbered n.board sub))) sub n x
tied-call (Ready sub link) n x =
    tied-if (steps.owns sub link n) n (steps.board_reported prefaced sub n) x (tied-same prefaced keeps-prefaced prefaced-linked n.board n.links sub x)
tied-call (Down sub link) n x = tied-if (steps.owns sub link n) n (steps.net_lost sub n) x (tied-lost sub n x)
tied-call (Clock moment) n x = tied-rounds moment (steps.clocks_left n.board) (steps.left_of n) x
tied-call Settle n x = tied-settled n x
tied-call Ask n x = tied-asked (may_ask n.asker) n x
tied-call Shut n x = tied-kept [] [] n.board n.links x

tied-calls : (calls : List NetCall) (n : NetSeen) → TiedNet n → TiedNet (after_calls calls n)
tied-calls [] n x = x
tied-calls (call ∷ calls) n x = tied-calls calls (after_call call n) (tied-call call n x)

-- what a link says of the state
shape-link : (a : Address) (c : Conn) (d : ℕ) (again until : Option ℕ) (linked : Bool) → IsShaped c until linked → linked ≡ (is_ready c || awaits_preface (sub_of a c d again until linked))
shape-link a conn.Idle d again until linked h = h.1
shape-link a conn.Connecting d again None linked h = h
shape-link a conn.Connecting d again (Some t) linked h = refl
shape-link a conn.Ready d again until linked h = h.1
shape-link a conn.Failure d again until linked h = h.1
shape-link a conn.Shutdown d again until linked h = h.1

none-linked : (k : ℕ) → false ≡ linked_in (numbered [] k)
none-linked zero = refl
none-linked (suc i) = refl

pub links-are : laws.LinksAreOfTheBoard
links-are calls policies number s at =
    let start : TiedNet (new_net policies) = record { shaped = tt; linked = none-linked } in
    let x : TiedNet (net_of calls policies) = tied-calls calls (new_net policies) start in
    mapped (find (λ (o : OwnLink). o.sub == number) (net_of calls policies).links) ∙ x.linked number ∙ ap linked_in at ∙ shape-link s.address s.state s.dials s.again s.until s.linked (all-numbered (net_of calls policies).board number s x.shaped at)
