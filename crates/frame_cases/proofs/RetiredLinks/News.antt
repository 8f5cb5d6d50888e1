-- The ends that the channel keeps of a frame, in the order of their places.
use Rattle.std.proofs.Common.{◌≡◌, ◌&&◌, ◌||◌, ◌++◌, ◌<◌, ◌==◌, ◌∷◌, ap, arith, refl, subst, sym, ◌∙◌, Bool, true, false, List, [], Ordering, ℕ, map, nat_lt}
use Rattle.std.proofs.lemmas.Bool.{and_parts}
use Rattle.std.proofs.lemmas.Bool.Decides.{nat_tests}
use Rattle.std.specs.BTreeMap.{insert_entry}
use Rattle.std.specs.Cmp.{ranks}
use Rattle.std.specs.List.{AllByRecursion, list_all}
use Rattle.std.specs.Ordering.{MatchOrdering, match_ordering, nat_cmp}
use Rattle.std.specs.declared.cmp.Ordering.TheVariants as ordering
use Rattle.attempt_ledger.specs.declared.news.EndNews.{EndNews}
use Rattle.attempt_ledger.specs.declared.news.News.{News}
use Rattle.attempt_ledger.specs.declared.news.News.TheVariants as news
use Rattle.channel_core.specs.Steps.{ends_kept}
use Rattle.lb_policy.specs.Table.{is_one_of}
use Rattle.link_actions.specs.LossActions.Sees.{end_news}
use Rattle.link_actions.specs.ResponseActions.Laws.{ended_as, places_of}
use Rattle.session_actions.specs.declared.attempt.Attempt.{Attempt}
use Rattle.session_actions.specs.declared.response.Outcome.{Outcome}

abbrev pub tags : List (ℕ × EndNews) → List ℕ
tags ends = map (λ (x : ℕ × EndNews). x.0) ends

-- places that rise
abbrev pub is_above : ℕ → ℕ × EndNews → Bool
is_above n x = nat_lt n x.0

abbrev pub AreRising : List (ℕ × EndNews) → Type 0
AreRising [] = Unit {0}
AreRising (x ∷ xs) = (list_all (is_above x.0) xs ≡ true) × AreRising xs

both : (a b : Bool) → a ≡ true → b ≡ true → (a && b) ≡ true
both true b e f = f
both false b e f = absurd (cc)

less_of : (m n : ℕ) → m < n → nat_lt m n ≡ true
less_of m n e = grind (arith, nat_tests, e)

further : (i j k : ℕ) → nat_lt i j ≡ true → nat_lt j k ≡ true → nat_lt i k ≡ true
further i j k e f = grind (arith, nat_tests, e, f)

ranked_as : (m n : ℕ) (r : Ordering) → nat_cmp m n ≡ r → MatchOrdering r (m < n) (m ≡ n) (n < m)
ranked_as m n r is = subst (λ (q : Ordering). MatchOrdering q (m < n) (m ≡ n) (n < m)) is (ranks m n)

all_further : (i j : ℕ) (es : List (ℕ × EndNews)) → nat_lt i j ≡ true → list_all (is_above j) es ≡ true → list_all (is_above i) es ≡ true
all_further i j [] e all = refl
all_further i j (x ∷ es) e all =
    let k = and_parts (is_above j x) (list_all (is_above j) es) all in both (is_above i x) (list_all (is_above i) es) (further i j x.0 e k.0) (all_further i j es e k.1)

above_by : (j : ℕ) (r : Ordering) (e : ℕ × EndNews) (es rest : List (ℕ × EndNews)) (k : ℕ) (v : EndNews) → nat_lt j k ≡ true → list_all (is_above j) (e ∷ es) ≡ true
    → list_all (is_above j) rest ≡ true → list_all (is_above j) (match_ordering r ((k, v) ∷ e ∷ es) ((e.0, v) ∷ es) (e ∷ rest)) ≡ true
above_by j ordering.Less e es rest k v one all more = both (nat_lt j k) (list_all (is_above j) (e ∷ es)) one all
above_by j ordering.Equal e es rest k v one all more = all
above_by j ordering.Greater e es rest k v one all more =
    both (is_above j e) (list_all (is_above j) rest) (and_parts (is_above j e) (list_all (is_above j) es) all).0 more

put_above : (j : ℕ) (es : List (ℕ × EndNews)) (k : ℕ) (v : EndNews) → nat_lt j k ≡ true → list_all (is_above j) es ≡ true → list_all (is_above j) (insert_entry nat_cmp es k v) ≡ true
put_above j [] k v one all = both (nat_lt j k) true one refl
put_above j (e ∷ es) k v one all =
    above_by j (nat_cmp k e.0) e es (insert_entry nat_cmp es k v) k v one all (put_above j es k v one (and_parts (is_above j e) (list_all (is_above j) es) all).1)

rising_by : (r : Ordering) (e : ℕ × EndNews) (es : List (ℕ × EndNews)) (k : ℕ) (v : EndNews) → nat_cmp k e.0 ≡ r → AreRising (e ∷ es) → AreRising (insert_entry nat_cmp es k v)
    → AreRising (match_ordering r ((k, v) ∷ e ∷ es) ((e.0, v) ∷ es) (e ∷ insert_entry nat_cmp es k v))
rising_by ordering.Less e es k v is all more =
    let low : nat_lt k e.0 ≡ true = less_of k e.0 (ranked_as k e.0 ordering.Less is) in
    (both (nat_lt k e.0) (list_all (is_above k) es) low (all_further k e.0 es low all.0), all)
rising_by ordering.Equal e es k v is all more = all
rising_by ordering.Greater e es k v is all more =
    (put_above e.0 es k v (less_of e.0 k (ranked_as k e.0 ordering.Greater is)) all.0, more)

rising_put : (es : List (ℕ × EndNews)) (k : ℕ) (v : EndNews) → AreRising es → AreRising (insert_entry nat_cmp es k v)
rising_put [] k v all = (refl, tt)
rising_put (e ∷ es) k v all = rising_by (nat_cmp k e.0) e es k v refl all (rising_put es k v all.1)

pub rising_kept : (ns : List News) (ends : List (ℕ × EndNews)) → AreRising ends → AreRising (ends_kept ns ends)
rising_kept [] ends all = all
rising_kept (news.Ended tag end ∷ ns) ends all = rising_kept ns (insert_entry nat_cmp ends tag end) (rising_put ends tag end all)
rising_kept (news.Ready ∷ ns) ends all = rising_kept ns ends all
rising_kept (news.Retiring ∷ ns) ends all = rising_kept ns ends all
rising_kept (news.Broken code ∷ ns) ends all = rising_kept ns ends all
rising_kept (news.Head tag meta seen ∷ ns) ends all = rising_kept ns ends all
rising_kept (news.Message tag octets seen ∷ ns) ends all = rising_kept ns ends all
rising_kept (news.TooLarge tag seen ∷ ns) ends all = rising_kept ns ends all

-- which places are among them
twice : (b r : Bool) → (b || r) ≡ (b || (b || r))
twice true r = refl
twice false r = refl

swapped : (a b r : Bool) → (a || (b || r)) ≡ (b || (a || r))
swapped true true r = refl
swapped true false r = refl
swapped false true r = refl
swapped false false r = refl

tag_by : (n : ℕ) (r : Ordering) (e : ℕ × EndNews) (es rest : List (ℕ × EndNews)) (k : ℕ) (v : EndNews) → nat_cmp k e.0 ≡ r
    → is_one_of (tags rest) n ≡ ((k == n) || is_one_of (tags es) n)
    → is_one_of (tags (match_ordering r ((k, v) ∷ e ∷ es) ((e.0, v) ∷ es) (e ∷ rest))) n ≡ ((k == n) || ((e.0 == n) || is_one_of (tags es) n))
tag_by n ordering.Less e es rest k v is more = refl
tag_by n ordering.Equal e es rest k v is more =
    let same : k ≡ e.0 = ranked_as k e.0 ordering.Equal is in
    twice (e.0 == n) (is_one_of (tags es) n) ∙ ap (λ (j : ℕ). (j == n) || ((e.0 == n) || is_one_of (tags es) n)) (sym same)
tag_by n ordering.Greater e es rest k v is more = ap (λ (b : Bool). (e.0 == n) || b) more ∙ swapped (e.0 == n) (k == n) (is_one_of (tags es) n)

tag_put : (n : ℕ) (es : List (ℕ × EndNews)) (k : ℕ) (v : EndNews) → is_one_of (tags (insert_entry nat_cmp es k v)) n ≡ ((k == n) || is_one_of (tags es) n)
tag_put n [] k v = refl
tag_put n (e ∷ es) k v = tag_by n (nat_cmp k e.0) e es (insert_entry nat_cmp es k v) k v refl (tag_put n es k v)

moved : (a b r : Bool) → (b || (a || r)) ≡ ((a || b) || r)
moved true true r = refl
moved true false r = refl
moved false true r = refl
moved false false r = refl

pub tags_kept : (n : ℕ) (o : Outcome) (seen : ℕ) (xs : List Attempt) (ends : List (ℕ × EndNews))
    → is_one_of (tags (ends_kept (map (ended_as o seen) xs) ends)) n ≡ (is_one_of (places_of xs) n || is_one_of (tags ends) n)
tags_kept n o seen [] ends = refl
tags_kept n o seen (a ∷ xs) ends =
    tags_kept n o seen xs (insert_entry nat_cmp ends a.place (end_news o seen))
    ∙ ap (λ (b : Bool). is_one_of (places_of xs) n || b) (tag_put n ends a.place (end_news o seen))
    ∙ moved (a.place == n) (is_one_of (places_of xs) n) (is_one_of (tags ends) n)

-- what is so of each
each_by : (P : ℕ × EndNews → Type 0) (r : Ordering) (e : ℕ × EndNews) (es rest : List (ℕ × EndNews)) (k : ℕ) (v : EndNews) → nat_cmp k e.0 ≡ r → P (k, v)
    → AllByRecursion P (e ∷ es) → AllByRecursion P rest → AllByRecursion P (match_ordering r ((k, v) ∷ e ∷ es) ((e.0, v) ∷ es) (e ∷ rest))
each_by P ordering.Less e es rest k v is one all more = (one, all)
each_by P ordering.Equal e es rest k v is one all more = (subst (λ (j : ℕ). P (j, v)) (ranked_as k e.0 ordering.Equal is) one, all.1)
each_by P ordering.Greater e es rest k v is one all more = (all.0, more)

each_put : (P : ℕ × EndNews → Type 0) (es : List (ℕ × EndNews)) (k : ℕ) (v : EndNews) → P (k, v) → AllByRecursion P es → AllByRecursion P (insert_entry nat_cmp es k v)
each_put P [] k v one all = (one, tt)
each_put P (e ∷ es) k v one all = each_by P (nat_cmp k e.0) e es (insert_entry nat_cmp es k v) k v refl one all (each_put P es k v one all.1)

pub each_kept : (P : ℕ × EndNews → Type 0) (o : Outcome) (seen : ℕ) (xs : List Attempt) (ends : List (ℕ × EndNews)) → AllByRecursion (λ (a : Attempt). P (a.place, end_news o seen)) xs
    → AllByRecursion P ends → AllByRecursion P (ends_kept (map (ended_as o seen) xs) ends)
each_kept P o seen [] ends these all = all
each_kept P o seen (a ∷ xs) ends these all =
    each_kept P o seen xs (insert_entry nat_cmp ends a.place (end_news o seen)) these.1 (each_put P ends a.place (end_news o seen) these.0 all)

pub kept_on : (ns ms : List News) (ends : List (ℕ × EndNews)) → ends_kept (ns ++ ms) ends ≡ ends_kept ms (ends_kept ns ends)
kept_on [] ms ends = refl
kept_on (news.Ended tag end ∷ ns) ms ends = kept_on ns ms (insert_entry nat_cmp ends tag end)
kept_on (news.Ready ∷ ns) ms ends = kept_on ns ms ends
kept_on (news.Retiring ∷ ns) ms ends = kept_on ns ms ends
kept_on (news.Broken code ∷ ns) ms ends = kept_on ns ms ends
kept_on (news.Head tag meta seen ∷ ns) ms ends = kept_on ns ms ends
kept_on (news.Message tag octets seen ∷ ns) ms ends = kept_on ns ms ends
kept_on (news.TooLarge tag seen ∷ ns) ms ends = kept_on ns ms ends
