-- What a session owes once an attempt has ended by the wire, where it owed nothing before: the reset of its stream with its code, if with any.
use Rattle.std.proofs.Common.{◌≡◌, ◌&&◌, ◌==◌, ◌∷◌, ap, arith, refl, sym, ◌∙◌, not, Bool, true, false, List, [], Option, None, Some, ℕ, zero, suc, filter, if◌then◌else◌, is_some, length, map, option_and_then, option_map, slice_get}
use Rattle.std.proofs.lemmas.Bool.{eq-eqb}
use Rattle.std.specs.Option.{option_map_or}
use Rattle.std.specs.Prelude.{unwrap_or}
use Rattle.attempt_ledger.specs.declared.row.Placed.{Placed}
use Rattle.attempt_ledger.specs.declared.row.RowEnd.{RowEnd}
use Rattle.call_cases.proofs.EndsFollow.Codes.{code_for, code_in, ended_code, entry_by}
use Rattle.end_cases.specs.AttemptEnds.Ahead.{is_owed_on, owed_reset, resets_owed}
use Rattle.link_actions.proofs.Ended.{is_ended}
use Rattle.link_actions.proofs.ResponseActions.Counted.{codes_stay}
use Rattle.link_actions.specs.Sees.{AttemptsStandInPlace, by_stream}
use Rattle.link_actions.specs.StreamActions.Laws.{IsOn, reset_for}
use Rattle.session_actions.specs.AttemptEnds.{attempt_ended, code_to_reset, end_of, reset_code_of, with_end}
use Rattle.session_actions.specs.Entries.{entry}
use Rattle.session_actions.specs.Links.{link_number, link_of, read_bytes, stream_number}
use Rattle.session_actions.specs.Responses.{is_read_by, response}
use Rattle.session_actions.specs.Words.{changed, numbered}
use Rattle.session_actions.specs.declared.attempt.Attempt.{Attempt}
use Rattle.session_actions.specs.declared.link.Link.{Link}
use Rattle.session_actions.specs.declared.response.Outcome.{Outcome}
use Rattle.session_actions.specs.declared.seen.Seen.{Seen}
use Rattle.session_order.proofs.Changed.{changed_away, changed_here, passes_not}
use Rattle.session_order.specs.Quiescent.{is_to_reset}
use Rattle.std.specs.List.{list_all, list_any}

-- one of a list passes at most
none_pass : {X : Type 0} (p : X → Bool) (xs : List X) → ((j : ℕ) (y : X) → slice_get xs j ≡ Some y → p y ≡ false) → filter p xs ≡ []
none_pass p [] off = refl
none_pass p (y ∷ ys) off =
    ap (λ (b : Bool). if b then y ∷ filter p ys else filter p ys) (off 0 y refl) ∙ none_pass p ys (λ j z at. off (suc j) z at)

one_passes : {X : Type 0} (p : X → Bool) (xs : List X) (i : ℕ) (x : X) → slice_get xs i ≡ Some x
    → ((j : ℕ) (y : X) → slice_get xs j ≡ Some y → (j ≡ i → ⊥) → p y ≡ false) → filter p xs ≡ (if p x then x ∷ [] else [])
one_passes p [] i x at off = absurd (cc)
one_passes p (y ∷ ys) zero x at off =
    let same : y ≡ x = (cc) in
    ap (λ (zs : List _). if p y then y ∷ zs else zs) (none_pass p ys (λ j z here. off (suc j) z here (λ e. let no : ⊥ = omega (arith, e) in no)))
    ∙ ap (λ (z : _). if p z then z ∷ [] else []) same
one_passes p (y ∷ ys) (suc i) x at off =
    ap (λ (b : Bool). if b then y ∷ filter p ys else filter p ys) (off 0 y refl (λ e. let no : ⊥ = omega (arith, e) in no))
    ∙ one_passes p ys i x at (λ j z here other. off (suc j) z here (λ e. other (let same : j ≡ i = omega (arith, e) in same)))

pub only_passes : {X : Type 0} (p : X → Bool) (xs : List X) (n : ℕ) (x : X) → numbered xs n ≡ Some x → ((j : ℕ) (y : X) → numbered xs j ≡ Some y → (j ≡ n → ⊥) → p y ≡ false)
    → filter p xs ≡ (if p x then x ∷ [] else [])
only_passes p xs zero x at off = absurd (cc)
only_passes p xs (suc i) x at off =
    one_passes p xs i x at (λ j y here other. off (suc j) y here (λ e. other (let same : j ≡ i = omega (arith, e) in same)))

-- a list of at most one
mapped_one : {X Y : Type 0} (f : X → Y) (x : X) (b : Bool) → map f (if b then x ∷ [] else []) ≡ (if b then f x ∷ [] else [])
mapped_one f x true = refl
mapped_one f x false = refl

sorted_one : (a : Attempt) (b : Bool) → by_stream (if b then a ∷ [] else []) ≡ (if b then a ∷ [] else [])
sorted_one a true = refl
sorted_one a false = refl

for_code : (n : ℕ) (code : Option ℕ) → (if is_some code then (n, unwrap_or code 0) ∷ [] else []) ≡ reset_for n code
for_code n None = refl
for_code n (Some c) = refl

and_true : (a b : Bool) → b ≡ true → (a && b) ≡ a
and_true true b e = e
and_true false b e = refl

and_false : (a b : Bool) → b ≡ false → (a && b) ≡ false
and_false true b e = e
and_false false b e = refl

module _ (s : Seen) (a : Attempt) (e : RowEnd) (places : AttemptsStandInPlace 1 s.attempts) (there : numbered s.attempts a.place ≡ Some a) (none : list_any (is_to_reset s) s.attempts ≡ false) where
  abbrev t : Seen
  t = attempt_ended a.place e s

  abbrev z : Attempt
  z = with_end e a

  attempts_are : t.attempts ≡ changed (with_end e) a.place s.attempts
  attempts_are = ap (λ (v : Seen). v.attempts) (is_ended s a.place e a places there)

  pub its_own : numbered t.attempts a.place ≡ Some z
  its_own = ap (λ (xs : List Attempt). numbered xs a.place) attempts_are ∙ changed_here (with_end e) a.place s.attempts a there

  pub its_others : (j : ℕ) → (j ≡ a.place → ⊥) → numbered t.attempts j ≡ numbered s.attempts j
  its_others j other = ap (λ (xs : List Attempt). numbered xs j) attempts_are ∙ changed_away (with_end e) a.place j s.attempts other

  -- what is owed of it alone
  owed : (m : Link) → resets_owed m t ≡ (if is_some (reset_code_of t z) && (link_number a == m.number) then (stream_number a, unwrap_or (reset_code_of t z) 0) ∷ [] else [])
  owed m =
      ap (λ (xs : List Attempt). map (owed_reset t) (by_stream xs))
      (only_passes (is_owed_on m t) t.attempts a.place z its_own
      (λ j b here other.
      ap (λ (q : Option ℕ). is_some q && (link_number b == m.number)) (ended_code s a.place a e places there b)
      ∙ ap (λ (c : Bool). c && (link_number b == m.number)) (passes_not (is_to_reset s) s.attempts j b none (sym (its_others j other) ∙ here))))
      ∙ ap (map (owed_reset t)) (sorted_one z (is_owed_on m t z))
      ∙ mapped_one (owed_reset t) z (is_owed_on m t z)

  pub none_elsewhere : (m : Link) → (link_number a == m.number) ≡ false → resets_owed m t ≡ []
  none_elsewhere m off =
      owed m
      ∙ ap (λ (c : Bool). if c then (stream_number a, unwrap_or (reset_code_of t z) 0) ∷ [] else []) (and_false (is_some (reset_code_of t z)) (link_number a == m.number) off)

  pub owed_there : (m : Link) (n : ℕ) (code : Option ℕ) → (link_number a == m.number) ≡ true → stream_number a ≡ n → reset_code_of t z ≡ code → resets_owed m t ≡ reset_for n code
  owed_there m n code here stream is =
      owed m
      ∙ ap (λ (c : Bool). if c then (stream_number a, unwrap_or (reset_code_of t z) 0) ∷ [] else []) (and_true (is_some (reset_code_of t z)) (link_number a == m.number) here)
      ∙ ap (λ (k : ℕ). if is_some (reset_code_of t z) then (k, unwrap_or (reset_code_of t z) 0) ∷ [] else []) stream
      ∙ ap (λ (q : Option ℕ). if is_some q then (n, unwrap_or q 0) ∷ [] else []) is
      ∙ for_code n code

-- its code
module _ (l : Link) (s : Seen) (n : ℕ) (a : Attempt) (out : Outcome) (code : Option ℕ) (at : numbered s.links l.number ≡ Some l) (on : IsOn l s n a) (link_is : link_of a s ≡ Some l)
    (places : AttemptsStandInPlace 1 s.attempts) (unreset : a.reset ≡ false) (reads : list_all (is_read_by (read_bytes l)) l.traffic ≡ true)
    (code_is : code_to_reset a (end_of a out s) n s l ≡ code) where
  abbrev end : RowEnd
  end = end_of a out s

  abbrev v : Seen
  v = attempt_ended a.place end s

  abbrev k : Attempt
  k = with_end end a

  links_same : v.links ≡ s.links
  links_same = ap (λ (x : Seen). x.links) (is_ended s a.place end a places on.there)

  entry_same : entry v ≡ entry s
  entry_same = ap entry (is_ended s a.place end a places on.there) ∙ entry_by _ (length s.entries) s.current

  seen_is : end.seen ≡ read_bytes l
  seen_is = ap (λ (o : Option Link). option_map_or read_bytes o 0) link_is

  now_is : ((end.entry == entry v) && not k.reset) ≡ true
  now_is =
      ap (λ (i : ℕ). (entry s == i) && not a.reset) entry_same ∙ ap (λ (b : Bool). (entry s == entry s) && not b) unreset
      ∙ ap (λ (b : Bool). b && true) (eq-eqb (entry s) (entry s) refl)

  pub its_code : reset_code_of v k ≡ code
  its_code =
      ap (λ (o : Option ℕ). option_and_then (code_for k (entry v) (response k v) v.links end) o) on.stream
      ∙ ap (λ (b : Bool). if b then option_and_then (code_in end n (response k v)) (option_and_then (λ (p : Placed). numbered v.links p.link) a.row.placed) else None) now_is
      ∙ ap (λ (ls : List Link). option_and_then (code_in end n (response k v)) (option_and_then (λ (p : Placed). numbered ls p.link) a.row.placed)) links_same
      ∙ ap (option_and_then (code_in end n (response k v))) link_is
      ∙ codes_stay l s n a end at on places seen_is reads ∙ code_is
