-- While a call is open and not committed, no head came of an attempt of it that ended. What is kept of calls, attempts and links for that, said of their lists alone, so that each
-- may change by itself.
use Rattle.attempt_ledger.specs.declared.row.Placed.{Placed}
use Rattle.attempt_ledger.specs.declared.row.RowEnd.{RowEnd}
use Rattle.call_actions.proofs.Ranks.{numbered_map}
use Rattle.channel_actions.proofs.KeptSessions.Lists.{all_changed, all_each, all_get, all_more, all_wide, get_more}
use Rattle.session_actions.specs.Calls.{marked}
use Rattle.session_actions.specs.Entries.{now}
use Rattle.session_actions.specs.Responses.{response_in, traffic_by}
use Rattle.session_actions.specs.Words.{changed, changed_if, holds, numbered}
use Rattle.session_actions.specs.declared.attempt.Attempt.{Attempt}
use Rattle.session_actions.specs.declared.call.Call.{Call}
use Rattle.session_actions.specs.declared.call.MarkKind.{MarkKind}
use Rattle.session_actions.specs.declared.link.Link.{Link}
use Rattle.session_actions.specs.declared.link.Traffic.{Traffic}
use Rattle.session_actions.specs.declared.seen.Seen.{Seen}
use Rattle.session_order.proofs.Changed.{changed_away, changed_map}
use Rattle.std.proofs.Common.{Bool, List, None, Option, Some, [], ap, eqb-true, false, is_some, map, not, option_map, refl, slice_get, slice_set, subst, suc, sym, true, zero, ℕ, ◌&&◌, ◌++◌, ◌==◌, ◌||◌, ◌∙◌, ◌∷◌, ◌≡◌}
use Rattle.std.proofs.lemmas.Bool.{and_from, eqb-false}
use Rattle.std.specs.List.{list_all, list_any}
use Rattle.std.specs.Option.{option_map_or}
use Rattle.std.specs.Prelude.{option_and_then}

abbrev pub is_ended_call : Call → Bool
is_ended_call c = is_some c.end

-- the call of a number has ended, or is committed
abbrev pub is_committed_of : ℕ → Attempt → Bool
is_committed_of n q = (q.row.call == n) && is_some q.row.committed

abbrev pub settles : List Call → List Attempt → ℕ → Bool
settles calls attempts n = holds is_ended_call (numbered calls n) || list_any (is_committed_of n) attempts

-- a head came of what was seen of a stream of a link
abbrev pub head_in : ℕ → ℕ → Link → Bool
head_in seen stream l = is_some (response_in 0 stream (traffic_by seen l.traffic)).head

abbrev pub link_at : List Link → Option Placed → Option Link
link_at links p = option_and_then (λ at. numbered links at.link) p

abbrev pub heads : List Link → Attempt → RowEnd → Bool
heads links a e = holds (λ stream. holds (head_in e.seen stream) (link_at links a.row.placed)) a.row.stream

abbrev pub is_unreceived : List Call → List Attempt → List Link → Attempt → Bool
is_unreceived calls attempts links a = option_map_or (λ e. settles calls attempts a.row.call || not (heads links a e)) a.row.ended true

abbrev pub UnreceivedOf : List Call → List Attempt → List Link → Type 0
UnreceivedOf calls attempts links = list_all (is_unreceived calls attempts links) attempts ≡ true

abbrev pub Unreceived : Seen → Type 0
Unreceived s = UnreceivedOf s.calls s.attempts s.links

pub beside : (s t : Seen) → t.calls ≡ s.calls → t.attempts ≡ s.attempts → t.links ≡ s.links → Unreceived s → Unreceived t
beside s t a b d h =
    subst (λ (z : List Call). UnreceivedOf z t.attempts t.links) (sym a)
    (subst (λ (z : List Attempt). UnreceivedOf s.calls z t.links) (sym b) (subst (λ (z : List Link). UnreceivedOf s.calls s.attempts z) (sym d) h))

-- what more is settled, and of which no more heads came
wide : (p q x y : Bool) → (p ≡ true → q ≡ true) → (y ≡ true → x ≡ true) → (p || not x) ≡ true → (q || not y) ≡ true
wide p true x y f g e = refl
wide p false x false f g e = refl
wide true false x true f g e = let bad : false ≡ true = f refl in absurd (cc)
wide false false true true f g e = absurd (cc)
wide false false false true f g e = let bad : false ≡ true = g refl in absurd (cc)

map_wide : (o : Option RowEnd) (f g : RowEnd → Bool) → ((e : RowEnd) → o ≡ Some e → f e ≡ true → g e ≡ true) → option_map_or f o true ≡ true → option_map_or g o true ≡ true
map_wide None f g each h = refl
map_wide (Some e) f g each h = each e refl h

one_wide : (calls more : List Call) (attempts others : List Attempt) (links ls : List Link) (a : Attempt)
    → ((n : ℕ) → settles calls attempts n ≡ true → settles more others n ≡ true)
    → ((e : RowEnd) → a.row.ended ≡ Some e → heads ls a e ≡ true → heads links a e ≡ true) → is_unreceived calls attempts links a ≡ true → is_unreceived more others ls a ≡ true
one_wide calls more attempts others links ls a settled handled h =
    map_wide a.row.ended (λ (e : RowEnd). settles calls attempts a.row.call || not (heads links a e)) (λ (e : RowEnd). settles more others a.row.call || not (heads ls a e))
    (λ e got k. wide (settles calls attempts a.row.call) (settles more others a.row.call) (heads links a e) (heads ls a e) (settled a.row.call) (handled e got) k) h

or_wide : (p q x y : Bool) → (p ≡ true → q ≡ true) → (x ≡ true → y ≡ true) → (p || x) ≡ true → (q || y) ≡ true
or_wide p true x y f g e = refl
or_wide true false x y f g e = let bad : false ≡ true = f refl in absurd (cc)
or_wide false false true y f g e = g refl
or_wide false false false y f g e = absurd (cc)

-- calls that have ended stay so
abbrev pub StayEnded : List Call → List Call → Type 0
StayEnded calls more = (k : ℕ) → holds is_ended_call (numbered calls k) ≡ true → holds is_ended_call (numbered more k) ≡ true

ended_by : (f : Call → Call) → ((c : Call) → is_ended_call c ≡ true → is_ended_call (f c) ≡ true) → (o : Option Call) → holds is_ended_call o ≡ true
    → holds is_ended_call (option_map f o) ≡ true
ended_by f keeps None e = absurd (cc)
ended_by f keeps (Some c) e = keeps c e

ended_at : (f : Call → Call) → ((c : Call) → is_ended_call c ≡ true → is_ended_call (f c) ≡ true) → (n k : ℕ) (calls : List Call) (b : Bool) → (k == n) ≡ b
    → holds is_ended_call (numbered calls k) ≡ true → holds is_ended_call (numbered (changed f n calls) k) ≡ true
ended_at f keeps n k calls true same e =
    let here : k ≡ n = eqb-true k n same in
    ap (λ (j : ℕ). holds is_ended_call (numbered (changed f n calls) j)) here ∙ ap (holds is_ended_call) (changed_map f n calls)
    ∙ ended_by f keeps (numbered calls n) (sym (ap (λ (j : ℕ). holds is_ended_call (numbered calls j)) here) ∙ e)
ended_at f keeps n k calls false same e = ap (holds is_ended_call) (changed_away f n k calls (eqb-false k n same)) ∙ e

more_by : (calls ys : List Call) (k : ℕ) (o : Option Call) → numbered calls k ≡ o → holds is_ended_call o ≡ true → holds is_ended_call (numbered (calls ++ ys) k) ≡ true
more_by calls ys k None got e = absurd (cc)
more_by calls ys zero (Some c) got e = absurd (cc)
more_by calls ys (suc i) (Some c) got e = ap (holds is_ended_call) (get_more calls ys i c got) ∙ e

pub ended_more : (calls ys : List Call) → StayEnded calls (calls ++ ys)
ended_more calls ys k e = more_by calls ys k (numbered calls k) refl e

pub calls_now : (s : Seen) (cs : List Call) → StayEnded s.calls cs → Unreceived s → Unreceived (record s { calls = cs })
calls_now s cs stay h =
    all_wide (is_unreceived s.calls s.attempts s.links) (is_unreceived cs s.attempts s.links)
    (λ a k. one_wide s.calls cs s.attempts s.attempts s.links s.links a
    (λ n settled. or_wide (holds is_ended_call (numbered s.calls n)) (holds is_ended_call (numbered cs n)) (list_any (is_committed_of n) s.attempts)
    (list_any (is_committed_of n) s.attempts) (stay n) (λ e. e) settled)
    (λ e got handled. handled) k)
    s.attempts h

pub call_now : (f : Call → Call) (n : ℕ) (s : Seen) → ((c : Call) → is_ended_call c ≡ true → is_ended_call (f c) ≡ true) → Unreceived s
    → Unreceived (record s { calls = changed f n s.calls })
call_now f n s keeps h = calls_now s (changed f n s.calls) (λ k e. ended_at f keeps n k s.calls (k == n) refl e) h

pub marked_now : (what : MarkKind) (n : ℕ) (s : Seen) → Unreceived s → Unreceived (marked what n s)
marked_now what n s h = call_now (λ (c : Call). record c { marks = c.marks ++ record { what = what; moment = now s } ∷ [] }) n s (λ c e. e) h

pub row_marked : (what : MarkKind) (s : Seen) (o : Option Attempt) → Unreceived s → Unreceived (option_map_or (λ (a : Attempt). marked what a.row.call s) o s)
row_marked what s None h = h
row_marked what s (Some a) h = marked_now what a.row.call s h

-- attempts
any_set : (p : Attempt → Bool) (xs : List Attempt) (i : ℕ) (x y : Attempt) → slice_get xs i ≡ Some x → (p x ≡ true → p y ≡ true) → list_any p xs ≡ true
    → list_any p (slice_set xs i y) ≡ true
any_set p [] i x y at keeps e = e
any_set p (z ∷ xs) zero x y at keeps e =
    let one : z ≡ x = (cc) in
    or_wide (p z) (p y) (list_any p xs) (list_any p xs) (λ k. keeps (ap p (sym one) ∙ k)) (λ k. k) e
any_set p (z ∷ xs) (suc i) x y at keeps e =
    or_wide (p z) (p z) (list_any p xs) (list_any p (slice_set xs i y)) (λ k. k) (any_set p xs i x y at keeps) e

any_by : (p : Attempt → Bool) (f : Attempt → Attempt) (i : ℕ) (xs : List Attempt) (o : Option Attempt) → slice_get xs i ≡ o → ((a : Attempt) → p a ≡ true → p (f a) ≡ true)
    → list_any p xs ≡ true → list_any p (changed_if f (suc i) xs o) ≡ true
any_by p f i xs None at keeps e = e
any_by p f i xs (Some x) at keeps e = any_set p xs i x (f x) at (keeps x) e

any_still : (p : Attempt → Bool) (f : Attempt → Attempt) (n : ℕ) (xs : List Attempt) → ((a : Attempt) → p a ≡ true → p (f a) ≡ true) → list_any p xs ≡ true
    → list_any p (changed f n xs) ≡ true
any_still p f zero xs keeps e = e
any_still p f (suc i) xs keeps e = any_by p f i xs (slice_get xs i) refl keeps e

any_more : (p : Attempt → Bool) (xs ys : List Attempt) → list_any p xs ≡ true → list_any p (xs ++ ys) ≡ true
any_more p [] ys e = absurd (cc)
any_more p (x ∷ xs) ys e = or_wide (p x) (p x) (list_any p xs) (list_any p (xs ++ ys)) (λ k. k) (any_more p xs ys) e

settled_too : (calls : List Call) (attempts others : List Attempt) → ((n : ℕ) → list_any (is_committed_of n) attempts ≡ true → list_any (is_committed_of n) others ≡ true)
    → (n : ℕ) → settles calls attempts n ≡ true → settles calls others n ≡ true
settled_too calls attempts others keeps n e =
    or_wide (holds is_ended_call (numbered calls n)) (holds is_ended_call (numbered calls n)) (list_any (is_committed_of n) attempts) (list_any (is_committed_of n) others) (λ k. k)
    (keeps n) e

pub attempt_now : (f : Attempt → Attempt) (place : ℕ) (s : Seen) → ((n : ℕ) (a : Attempt) → is_committed_of n a ≡ true → is_committed_of n (f a) ≡ true)
    → ((a : Attempt) → numbered s.attempts place ≡ Some a → is_unreceived s.calls s.attempts s.links a ≡ true → is_unreceived s.calls s.attempts s.links (f a) ≡ true) → Unreceived s
    → Unreceived (record s { attempts = changed f place s.attempts })
attempt_now f place s commits one h =
    all_wide (is_unreceived s.calls s.attempts s.links) (is_unreceived s.calls (changed f place s.attempts) s.links)
    (λ a k. one_wide s.calls s.calls s.attempts (changed f place s.attempts) s.links s.links a
    (settled_too s.calls s.attempts (changed f place s.attempts) (λ n e. any_still (is_committed_of n) f place s.attempts (commits n) e)) (λ e got handled. handled) k)
    (changed f place s.attempts) (all_changed (is_unreceived s.calls s.attempts s.links) f place s.attempts h one)

pub attempts_more : (a : Attempt) (s : Seen) → is_unreceived s.calls (s.attempts ++ a ∷ []) s.links a ≡ true → Unreceived s → Unreceived (record s { attempts = s.attempts ++ a ∷ [] })
attempts_more a s one h =
    all_more (is_unreceived s.calls (s.attempts ++ a ∷ []) s.links) s.attempts (a ∷ [])
    (all_wide (is_unreceived s.calls s.attempts s.links) (is_unreceived s.calls (s.attempts ++ a ∷ []) s.links)
    (λ q k. one_wide s.calls s.calls s.attempts (s.attempts ++ a ∷ []) s.links s.links q
    (settled_too s.calls s.attempts (s.attempts ++ a ∷ []) (λ n e. any_more (is_committed_of n) s.attempts (a ∷ []) e)) (λ e got handled. handled) k)
    s.attempts h)
    (and_from (is_unreceived s.calls (s.attempts ++ a ∷ []) s.links a) true one refl)

-- links: of no attempt that ended came a head that had not come
pub links_now : (s : Seen) (ls : List Link)
    → ((i : ℕ) (a : Attempt) (e : RowEnd) → slice_get s.attempts i ≡ Some a → a.row.ended ≡ Some e → heads ls a e ≡ true → heads s.links a e ≡ true) → Unreceived s
    → Unreceived (record s { links = ls })
links_now s ls less h =
    all_each (is_unreceived s.calls s.attempts ls) s.attempts
    (λ i a at. one_wide s.calls s.calls s.attempts s.attempts s.links ls a (λ n e. e) (λ e got handled. less i a e at got handled)
    (all_get (is_unreceived s.calls s.attempts s.links) s.attempts i a h at))

-- a stream of an attempt, by the link on which it is placed
by_stream : (o : Option ℕ) (f g : ℕ → Bool) → ((stream : ℕ) → f stream ≡ true → g stream ≡ true) → holds f o ≡ true → holds g o ≡ true
by_stream None f g each h = absurd (cc)
by_stream (Some stream) f g each h = each stream h

by_link : (p : Option Placed) (ls links : List Link) (f : Link → Bool)
    → ((at : Placed) → p ≡ Some at → holds f (numbered ls at.link) ≡ true → holds f (numbered links at.link) ≡ true) → holds f (link_at ls p) ≡ true → holds f (link_at links p) ≡ true
by_link None ls links f each h = absurd (cc)
by_link (Some at) ls links f each h = each at refl h

less_by : (ls links : List Link) (a : Attempt) (e : RowEnd)
    → ((at : Placed) (stream : ℕ) → a.row.placed ≡ Some at → holds (head_in e.seen stream) (numbered ls at.link) ≡ true → holds (head_in e.seen stream) (numbered links at.link) ≡ true)
    → heads ls a e ≡ true → heads links a e ≡ true
less_by ls links a e each h =
    by_stream a.row.stream (λ (stream : ℕ). holds (head_in e.seen stream) (link_at ls a.row.placed)) (λ (stream : ℕ). holds (head_in e.seen stream) (link_at links a.row.placed))
    (λ stream k. by_link a.row.placed ls links (head_in e.seen stream) (λ at is. each at stream is) k) h

-- one link changes, and of what was seen of it no head came that had not come
one_link : (f : Link → Link) (o : Option Link) (seen stream : ℕ) → ((l : Link) → o ≡ Some l → head_in seen stream (f l) ≡ true → head_in seen stream l ≡ true)
    → holds (head_in seen stream) (option_map f o) ≡ true → holds (head_in seen stream) o ≡ true
one_link f None seen stream each h = h
one_link f (Some l) seen stream each h = each l refl h

changed_by : (f : Link → Link) (n k seen stream : ℕ) (links : List Link) (b : Bool) → (k == n) ≡ b
    → (k ≡ n → (l : Link) → numbered links n ≡ Some l → head_in seen stream (f l) ≡ true → head_in seen stream l ≡ true)
    → holds (head_in seen stream) (numbered (changed f n links) k) ≡ true → holds (head_in seen stream) (numbered links k) ≡ true
changed_by f n k seen stream links true same each h =
    let here : k ≡ n = eqb-true k n same in
    ap (λ (j : ℕ). holds (head_in seen stream) (numbered links j)) here
    ∙ one_link f (numbered links n) seen stream (each here)
    (sym (ap (holds (head_in seen stream)) (changed_map f n links)) ∙ sym (ap (λ (j : ℕ). holds (head_in seen stream) (numbered (changed f n links) j)) here) ∙ h)
changed_by f n k seen stream links false same each h = sym (ap (holds (head_in seen stream)) (changed_away f n k links (eqb-false k n same))) ∙ h

pub link_now : (f : Link → Link) (n : ℕ) (s : Seen)
    → ((i : ℕ) (a : Attempt) (e : RowEnd) (at : Placed) (l : Link) (stream : ℕ) → numbered s.attempts (suc i) ≡ Some a → a.row.ended ≡ Some e → a.row.placed ≡ Some at
    → at.link ≡ n → numbered s.links n ≡ Some l → head_in e.seen stream (f l) ≡ true → head_in e.seen stream l ≡ true)
    → Unreceived s → Unreceived (record s { links = changed f n s.links })
link_now f n s each h =
    links_now s (changed f n s.links)
    (λ i a e there got k.
    less_by (changed f n s.links) s.links a e
    (λ at stream is j. changed_by f n at.link e.seen stream s.links (at.link == n) refl (λ same l on m. each i a e at l stream there got is same on m) j) k)
    h

pub link_same : (f : Link → Link) (n : ℕ) (s : Seen) → ((l : Link) → (f l).traffic ≡ l.traffic) → Unreceived s → Unreceived (record s { links = changed f n s.links })
link_same f n s same h =
    link_now f n s
    (λ i a e at l stream there got is here on m. sym (ap (λ (ts : List Traffic). is_some (response_in 0 stream (traffic_by e.seen ts)).head) (same l)) ∙ m) h

-- a link more, on which nothing passed yet
last_is : (xs : List Link) (y z : Link) (i : ℕ) → slice_get xs i ≡ None → slice_get (xs ++ y ∷ []) i ≡ Some z → y ≡ z
last_is [] y z zero none at = (cc)
last_is [] y z (suc i) none at = absurd (cc)
last_is (x ∷ xs) y z zero none at = absurd (cc)
last_is (x ∷ xs) y z (suc i) none at = last_is xs y z i none at

none_new : (links : List Link) (l : Link) (seen stream i : ℕ) (o : Option Link) → l.traffic ≡ [] → slice_get links i ≡ None → slice_get (links ++ l ∷ []) i ≡ o
    → holds (head_in seen stream) o ≡ true → ⊥
none_new links l seen stream i None blank none at h = absurd (cc)
none_new links l seen stream i (Some z) blank none at h =
    let same : l ≡ z = last_is links l z i none at in
    let nothing : false ≡ head_in seen stream z
    = sym (ap (λ (ts : List Traffic). is_some (response_in 0 stream (traffic_by seen ts)).head) (sym (ap (λ (k : Link). k.traffic) same) ∙ blank)) in
    let bad : false ≡ true = nothing ∙ h in
    absurd (cc)

more_at : (links : List Link) (l : Link) (seen stream k : ℕ) (o : Option Link) → l.traffic ≡ [] → numbered links k ≡ o
    → holds (head_in seen stream) (numbered (links ++ l ∷ []) k) ≡ true → holds (head_in seen stream) o ≡ true
more_at links l seen stream zero None blank at h = absurd (cc)
more_at links l seen stream (suc i) None blank at h = absurd (none_new links l seen stream i (slice_get (links ++ l ∷ []) i) blank at refl h)
more_at links l seen stream zero (Some x) blank at h = absurd (cc)
more_at links l seen stream (suc i) (Some x) blank at h = sym (ap (holds (head_in seen stream)) (get_more links (l ∷ []) i x at)) ∙ h

pub links_more : (l : Link) (s : Seen) → l.traffic ≡ [] → Unreceived s → Unreceived (record s { links = s.links ++ l ∷ [] })
links_more l s blank h =
    links_now s (s.links ++ l ∷ [])
    (λ i a e there got k. less_by (s.links ++ l ∷ []) s.links a e (λ at stream is j. more_at s.links l e.seen stream at.link (numbered s.links at.link) blank refl j) k) h

mapped_by : (f : Link → Link) (seen stream : ℕ) (o : Option Link) → ((l : Link) → (f l).traffic ≡ l.traffic) → holds (head_in seen stream) (option_map f o) ≡ true
    → holds (head_in seen stream) o ≡ true
mapped_by f seen stream None same h = h
mapped_by f seen stream (Some l) same h = sym (ap (λ (ts : List Traffic). is_some (response_in 0 stream (traffic_by seen ts)).head) (same l)) ∙ h

pub links_mapped : (f : Link → Link) (s : Seen) → ((l : Link) → (f l).traffic ≡ l.traffic) → Unreceived s → Unreceived (record s { links = map f s.links })
links_mapped f s same h =
    links_now s (map f s.links)
    (λ i a e there got k.
    less_by (map f s.links) s.links a e
    (λ at stream is j. mapped_by f e.seen stream (numbered s.links at.link) same (sym (ap (holds (head_in e.seen stream)) (numbered_map f s.links at.link)) ∙ j)) k)
    h
