-- The rows that a call gives up where it is committed: those of its live attempts but the one to which it is committed; of them the session cuts off those that are
-- outstanding.
use Rattle.std.proofs.Common.{◌≡◌, ◌∷◌, ◌++◌, ◌&&◌, ◌||◌, ◌==◌, not, append-nil, append_assoc, ap, refl, subst, sym, ◌∙◌, Bool, true, false, List, [], Option, None, Some, ℕ, suc, zero, cond, filter, if◌then◌else◌, is_none, is_some, map, slice_get}
use Rattle.std.proofs.lemmas.Bool.{and_parts, both_ways, eq-eqb, eqb-true}
use Rattle.std.specs.List.{AllByRecursion, list_any}
use Rattle.std.specs.Option.{option_map, option_map_or}
use Rattle.attempt_ledger.specs.declared.ledger.Ledger.{Ledger}
use Rattle.attempt_ledger.specs.declared.row.Placed.{Placed}
use Rattle.call_actions.specs.Sees.{is_live, live_row}
use Rattle.call_actions.specs.TakeActions.Cuts.{CanCommit, is_twin}
use Rattle.call_core.specs.Parts.{names}
use Rattle.call_core.specs.Steps.{cut_all, cut_row, given_up_act, reported_all}
use Rattle.call_core.specs.declared.act.CallAct.{CallAct}
use Rattle.call_core.specs.declared.live.LiveRow.{LiveRow}
use Rattle.channel_actions.proofs.ActsFollowed.Acts.{given}
use Rattle.call_cases.proofs.EndsFollow.Cuts.{place_suc}
use Rattle.channel_actions.specs.ActsFollowed.Followed.{all_closed, all_given_up, closed_in, given_up_in}
use Rattle.call_cases.specs.LinkEnds.Cuts.{links_closed, links_cut}
use Rattle.call_cases.specs.CommitsFollow.Laws.{is_other_out}
use Rattle.channel_core.specs.Tables.{reset_in, sealed_in}
use Rattle.channel_core.specs.declared.state.links.LinkSlot.{LinkSlot}
use Rattle.call_actions.specs.Order.{AttemptsAreNumbered}
use Rattle.session_actions.specs.Attempts.{is_of, is_outstanding, is_over, is_queued}
use Rattle.session_actions.specs.Links.{link_number}
use Rattle.session_actions.specs.Words.{numbered}
use Rattle.session_actions.specs.declared.attempt.Attempt.{Attempt}
use Rattle.session_actions.specs.declared.call.Call.{Call}
use Rattle.session_actions.specs.declared.seen.Seen.{Seen}
use Rattle.session_order.proofs.Changed.{passes_not}

-- all live rows but one
abbrev pub is_else : ℕ → LiveRow → Bool
is_else place r = not (place == r.place)

abbrev pub elses : ℕ → List LiveRow → List LiveRow
elses place live = filter (is_else place) live

reported_by : (place : ℕ) (r : LiveRow) (live : List LiveRow) (acts : List CallAct) (b : Bool)
    → ((more : List CallAct) → reported_all (Some place) live more ≡ more ++ map given (elses place live))
    → reported_all (Some place) live (if b then acts else acts ++ given_up_act r.place r.link ∷ []) ≡ acts ++ map given (cond (not b) (r ∷ elses place live) (elses place live))
reported_by place r live acts true rest = rest acts
reported_by place r live acts false rest = rest (acts ++ given r ∷ []) ∙ append_assoc acts (given r ∷ []) (map given (elses place live))

pub reported_is : (place : ℕ) (live : List LiveRow) (acts : List CallAct) → reported_all (Some place) live acts ≡ acts ++ map given (elses place live)
reported_is place [] acts = sym (append-nil acts)
reported_is place (r ∷ live) acts = reported_by place r live acts (place == r.place) (reported_is place live)

cut_by : (place moment : ℕ) (tokens : Option ℕ) (r : LiveRow) (live : List LiveRow) (ledger : Ledger) (b : Bool)
    → ((next : Ledger) → cut_all (Some place) moment tokens live next ≡ cut_all None moment tokens (elses place live) next)
    → cut_all (Some place) moment tokens live (if b then ledger else cut_row moment tokens r.place ledger r.link)
    ≡ cut_all None moment tokens (cond (not b) (r ∷ elses place live) (elses place live)) ledger
cut_by place moment tokens r live ledger true rest = rest ledger
cut_by place moment tokens r live ledger false rest = rest (cut_row moment tokens r.place ledger r.link)

pub cut_is : (place moment : ℕ) (tokens : Option ℕ) (live : List LiveRow) (ledger : Ledger)
    → cut_all (Some place) moment tokens live ledger ≡ cut_all None moment tokens (elses place live) ledger
cut_is place moment tokens [] ledger = refl
cut_is place moment tokens (r ∷ live) ledger = cut_by place moment tokens r live ledger (place == r.place) (cut_is place moment tokens live)

-- of attempts
else_by : (place : ℕ) (p : Attempt → Bool) (x : Attempt) (xs : List Attempt) (q r : Bool) → p x ≡ q → not (place == x.place) ≡ r
    → filter (is_else place) (map live_row (filter p xs)) ≡ map live_row (filter (λ (a : Attempt). p a && not (place == a.place)) xs)
    → filter (is_else place) (map live_row (cond q (x ∷ filter p xs) (filter p xs)))
    ≡ map live_row (cond (q && r) (x ∷ filter (λ (a : Attempt). p a && not (place == a.place)) xs) (filter (λ (a : Attempt). p a && not (place == a.place)) xs))
else_by place p x xs true true e f rest =
    ap (λ (b : Bool). cond b (live_row x ∷ filter (is_else place) (map live_row (filter p xs))) (filter (is_else place) (map live_row (filter p xs)))) f
    ∙ ap (λ (l : List LiveRow). live_row x ∷ l) rest
else_by place p x xs true false e f rest =
    ap (λ (b : Bool). cond b (live_row x ∷ filter (is_else place) (map live_row (filter p xs))) (filter (is_else place) (map live_row (filter p xs)))) f ∙ rest
else_by place p x xs false r e f rest = rest

pub else_is : (place : ℕ) (p : Attempt → Bool) (xs : List Attempt)
    → filter (is_else place) (map live_row (filter p xs)) ≡ map live_row (filter (λ (a : Attempt). p a && not (place == a.place)) xs)
else_is place p [] = refl
else_is place p (x ∷ xs) = else_by place p x xs (p x) (not (place == x.place)) refl refl (else_is place p xs)

-- what is so of each attempt
pub record IsPlain (p q : Attempt → Bool) (a : Attempt) : Type 0 where
  pub waits : p a ≡ true → q a ≡ false → a.row.placed ≡ None
  pub lives : q a ≡ true → p a ≡ true
  pub placed : q a ≡ true → is_some a.row.placed ≡ true

given_here : (place : ℕ) (p : Option Placed) (links : List LinkSlot) → is_some p ≡ true
    → given_up_in place (option_map (λ (at : Placed). at.link) p) links ≡ reset_in (option_map_or (λ (at : Placed). at.link) p 0) place links
given_here place None links e = absurd (cc)
given_here place (Some at) links e = refl

closed_here : (p : Option Placed) (links : List LinkSlot) → is_some p ≡ true
    → closed_in (option_map (λ (at : Placed). at.link) p) links ≡ sealed_in (option_map_or (λ (at : Placed). at.link) p 0) links
closed_here None links e = absurd (cc)
closed_here (Some at) links e = refl

module _ (p q : Attempt → Bool) where
  given_one : (a : Attempt) (xs : List Attempt) (b c : Bool) → p a ≡ b → q a ≡ c → IsPlain p q a
      → ((links : List LinkSlot) → all_given_up (map live_row (filter p xs)) links ≡ links_cut (filter q xs) links)
      → (links : List LinkSlot) → all_given_up (map live_row (cond b (a ∷ filter p xs) (filter p xs))) links ≡ links_cut (cond c (a ∷ filter q xs) (filter q xs)) links
  given_one a xs true true l r is next links =
      ap (all_given_up (map live_row (filter p xs))) (given_here a.place a.row.placed links (is.placed r)) ∙ next (reset_in (link_number a) a.place links)
  given_one a xs true false l r is next links =
      ap (λ (z : Option Placed). all_given_up (map live_row (filter p xs)) (given_up_in a.place (option_map (λ (at : Placed). at.link) z) links)) (is.waits l r) ∙ next links
  given_one a xs false true l r is next links = absurd (both_ways (p a) l (is.lives r))
  given_one a xs false false l r is next links = next links

  pub given_same : (xs : List Attempt) → AllByRecursion (IsPlain p q) xs → (links : List LinkSlot) → all_given_up (map live_row (filter p xs)) links ≡ links_cut (filter q xs) links
  given_same [] all links = refl
  given_same (a ∷ xs) all links = given_one a xs (p a) (q a) refl refl all.0 (given_same xs all.1) links

  closed_one : (a : Attempt) (xs : List Attempt) (b c : Bool) → p a ≡ b → q a ≡ c → IsPlain p q a
      → ((links : List LinkSlot) → all_closed (map live_row (filter p xs)) links ≡ links_closed (filter q xs) links)
      → (links : List LinkSlot) → all_closed (map live_row (cond b (a ∷ filter p xs) (filter p xs))) links ≡ links_closed (cond c (a ∷ filter q xs) (filter q xs)) links
  closed_one a xs true true l r is next links =
      ap (all_closed (map live_row (filter p xs))) (closed_here a.row.placed links (is.placed r)) ∙ next (sealed_in (link_number a) links)
  closed_one a xs true false l r is next links =
      ap (λ (z : Option Placed). all_closed (map live_row (filter p xs)) (closed_in (option_map (λ (at : Placed). at.link) z) links)) (is.waits l r) ∙ next links
  closed_one a xs false true l r is next links = absurd (both_ways (p a) l (is.lives r))
  closed_one a xs false false l r is next links = next links

  pub closed_same : (xs : List Attempt) → AllByRecursion (IsPlain p q) xs → (links : List LinkSlot) → all_closed (map live_row (filter p xs)) links ≡ links_closed (filter q xs) links
  closed_same [] all links = refl
  closed_same (a ∷ xs) all links = closed_one a xs (p a) (q a) refl refl all.0 (closed_same xs all.1) links

-- an attempt of the call that is not the one to which it is committed: it is queued or outstanding
unplaced_by : (p : Option Placed) (e v : Bool) → ((is_some p && e) || ((is_none p && e) && v)) ≡ true → (is_some p && e) ≡ false → p ≡ None
unplaced_by None e v l f = refl
unplaced_by (Some at) true v l f = absurd (cc)
unplaced_by (Some at) false v l f = absurd (cc)

some_first : (p : Option Placed) (e : Bool) → (is_some p && e) ≡ true → is_some p ≡ true
some_first None e h = absurd (cc)
some_first (Some at) e h = refl

both_of : (a b : Bool) → a ≡ true → b ≡ true → (a && b) ≡ true
both_of true b e f = f
both_of false b e f = absurd (cc)

off_by : (a b : Bool) → a ≡ true → (a && b) ≡ false → b ≡ false
off_by true b e f = f
off_by false b e f = absurd (cc)

first_off : (a b : Bool) → b ≡ true → (a && b) ≡ false → a ≡ false
first_off true true e f = f
first_off true false e f = absurd (cc)
first_off false b e f = refl

or_left : (a b : Bool) → a ≡ true → (a || b) ≡ true
or_left true b e = refl
or_left false b e = absurd (cc)

not_off : (a : Bool) → a ≡ false → not a ≡ true
not_off false e = refl
not_off true e = absurd (cc)

not_on : (a : Bool) → not a ≡ true → a ≡ false
not_on false e = refl
not_on true e = absurd (cc)

module _ (s : Seen) (c : Call) (k : Attempt) (n : ℕ) (own : c.number ≡ n) (can : CanCommit s c k) (places : AttemptsAreNumbered 1 s.attempts) where
  abbrev pub goes_out : Attempt → Bool
  goes_out a = is_live s c a && not (k.place == a.place)

  abbrev pub cut_out : Attempt → Bool
  cut_out a = is_other_out n k.row.number a

  mine_is : (a : Attempt) → is_of c a ≡ (a.row.call == n)
  mine_is a = ap (λ (m : ℕ). a.row.call == m) own

  -- none that goes on has its number
  other_number : (a : Attempt) (i : ℕ) → numbered s.attempts i ≡ Some a → goes_out a ≡ true → not (k.row.number == a.row.number) ≡ true
  other_number a i at e =
      let parts : (is_live s c a ≡ true) × (not (k.place == a.place) ≡ true) = and_parts (is_live s c a) (not (k.place == a.place)) e in
      let none : ((is_live s c a && (k.row.number == a.row.number)) && not (k.place == a.place)) ≡ false = passes_not (is_twin s c k) s.attempts i a can.alone at in
      not_off (k.row.number == a.row.number)
      (off_by (is_live s c a) (k.row.number == a.row.number) parts.0 (first_off (is_live s c a && (k.row.number == a.row.number)) (not (k.place == a.place)) parts.1 none))

  itself_by : (a : Attempt) (b : Bool) → (k.place == a.place) ≡ b → numbered s.attempts a.place ≡ Some a → not (k.row.number == a.row.number) ≡ true → not (k.place == a.place) ≡ true
  itself_by a false e at other = not_off (k.place == a.place) e
  itself_by a true e at other =
      let two : Some k ≡ Some a = sym can.at ∙ ap (numbered s.attempts) (eqb-true k.place a.place e) ∙ at in
      let same : k ≡ a = (cc) in
      let on : (k.row.number == a.row.number) ≡ true = ap (λ (z : Attempt). k.row.number == z.row.number) (sym same) ∙ eq-eqb k.row.number k.row.number refl in
      absurd (both_ways (k.row.number == a.row.number) (not_on (k.row.number == a.row.number) other) on)

  pub plain_at : (i : ℕ) (a : Attempt) → slice_get s.attempts i ≡ Some a → IsPlain goes_out cut_out a
  plain_at i a at =
      let place : a.place ≡ suc i = place_suc i s.attempts a places at in
      let here : numbered s.attempts a.place ≡ Some a = ap (numbered s.attempts) place ∙ at in
      record {
        waits = λ e f.
            let live : is_live s c a ≡ true = (and_parts (is_live s c a) (not (k.place == a.place)) e).0 in
            let parts : (is_of c a ≡ true) × ((is_outstanding a || is_queued a s) ≡ true) = and_parts (is_of c a) (is_outstanding a || is_queued a s) live in
            let out : (is_outstanding a && not (k.row.number == a.row.number)) ≡ false
            = off_by (a.row.call == n) (is_outstanding a && not (k.row.number == a.row.number)) (sym (mine_is a) ∙ parts.0) f in
            unplaced_by a.row.placed (is_none a.row.ended) (not (is_over a s)) parts.1
            (first_off (is_outstanding a) (not (k.row.number == a.row.number)) (other_number a a.place here e) out);
        lives = λ f.
            let one : ((a.row.call == n) ≡ true) × ((is_outstanding a && not (k.row.number == a.row.number)) ≡ true)
            = and_parts (a.row.call == n) (is_outstanding a && not (k.row.number == a.row.number)) f in
            let two : (is_outstanding a ≡ true) × (not (k.row.number == a.row.number) ≡ true) = and_parts (is_outstanding a) (not (k.row.number == a.row.number)) one.1 in
            both_of (is_live s c a) (not (k.place == a.place))
            (both_of (is_of c a) (is_outstanding a || is_queued a s) (mine_is a ∙ one.0) (or_left (is_outstanding a) (is_queued a s) two.0))
            (itself_by a (k.place == a.place) refl here two.1);
        placed = λ f.
            let one : ((a.row.call == n) ≡ true) × ((is_outstanding a && not (k.row.number == a.row.number)) ≡ true)
            = and_parts (a.row.call == n) (is_outstanding a && not (k.row.number == a.row.number)) f in
            some_first a.row.placed (is_none a.row.ended) (and_parts (is_outstanding a) (not (k.row.number == a.row.number)) one.1).0;
      }

  all_from : (P : Attempt → Type 0) (xs : List Attempt) → ((i : ℕ) (a : Attempt) → slice_get xs i ≡ Some a → P a) → AllByRecursion P xs
  all_from P [] each = tt
  all_from P (x ∷ xs) each = (each zero x refl, all_from P xs (λ i a at. each (suc i) a at))

  pub all_plain : AllByRecursion (IsPlain goes_out cut_out) s.attempts
  all_plain = all_from (IsPlain goes_out cut_out) s.attempts plain_at

  -- the rows that are given up
  pub rows_are : (live : List LiveRow) → map live_row (filter (is_live s c) s.attempts) ≡ live → elses k.place live ≡ map live_row (filter goes_out s.attempts)
  rows_are live is = ap (elses k.place) (sym is) ∙ else_is k.place (is_live s c) s.attempts
