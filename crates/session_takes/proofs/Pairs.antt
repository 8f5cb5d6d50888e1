-- The attempt to which a call is committed, before and after an action: what came of it, and its end.
use Rattle.grpc_base.specs.declared.event.Reply.{Reply}
use Rattle.session_actions.specs.Attempts.{is_commitment, is_of}
use Rattle.session_actions.specs.Deliveries.{response_items}
use Rattle.session_actions.specs.Responses.{response}
use Rattle.session_actions.specs.Words.{changed, changed_if, find_last, numbered}
use Rattle.session_actions.specs.declared.attempt.Attempt.{Attempt}
use Rattle.session_actions.specs.declared.call.Call.{Call}
use Rattle.session_actions.specs.declared.seen.Seen.{Seen}
use Rattle.session_takes.proofs.Prefixes.{IsPrefix}
use Rattle.std.proofs.Common.{Bool, List, None, Option, Some, [], ap, false, if◌then◌else◌, is_some, refl, slice_get, subst, suc, true, zero, ℕ, ◌&&◌, ◌==◌, ◌∙◌, ◌∷◌, ◌≡◌}
use Rattle.std.proofs.lemmas.Bool.{and_parts}
use Rattle.std.specs.Option.{option_or}
use Rattle.std.specs.Prelude.{slice_set}

abbrev pub items : Attempt → Seen → List Reply
items a s = response_items (response a s)

-- what becomes of an attempt of a call, which has ended or not: what came stays, and nothing more comes once the call has ended; and an end stays
pub record Receives (closed : Bool) (s t : Seen) (a b : Attempt) : Type 0 where
  pub prefix : IsPrefix (items a s) (items b t)
  pub still : closed ≡ true → items b t ≡ items a s
  pub ended : is_some a.row.ended ≡ true → b.row.ended ≡ a.row.ended

pub record Moves (c : Call) (s t : Seen) (a b : Attempt) : Type 0 where
  pub call : b.row.call ≡ a.row.call
  pub committed : is_some b.row.committed ≡ is_some a.row.committed
  pub receives : is_of c a ≡ true → Receives (is_some c.end) s t a b

abbrev pub AllMove : Call → Seen → Seen → List Attempt → List Attempt → Type 0
AllMove c s t [] [] = Unit {0}
AllMove c s t (a ∷ xs) (b ∷ ys) = Moves c s t a b × AllMove c s t xs ys
AllMove c s t _ _ = ⊥

abbrev pub MovesIf : Bool → Seen → Seen → Option Attempt → Option Attempt → Type 0
MovesIf closed s t None None = Unit {0}
MovesIf closed s t (Some a) (Some b) = Receives closed s t a b
MovesIf closed s t _ _ = ⊥

module _ (c d : Call) (s t : Seen) (same : d.number ≡ c.number) where
  pub moves_self : (xs : List Attempt) → ((i : ℕ) (a : Attempt) → slice_get xs i ≡ Some a → Moves c s t a a) → AllMove c s t xs xs
  moves_self [] each = tt
  moves_self (a ∷ xs) each = (each zero a refl, moves_self xs (λ i b got. each (suc i) b got))

  moves_set : (xs : List Attempt) (n : ℕ) (x y : Attempt) → slice_get xs n ≡ Some x → ((i : ℕ) (a : Attempt) → slice_get xs i ≡ Some a → Moves c s t a a) → Moves c s t x y
      → AllMove c s t xs (slice_set xs n y)
  moves_set [] n x y got each one = tt
  moves_set (a ∷ xs) zero x y got each one =
      let first : x ≡ a = (cc) in (subst (λ (z : Attempt). Moves c s t z y) first one, moves_self xs (λ i b at. each (suc i) b at))
  moves_set (a ∷ xs) (suc n) x y got each one = (each zero a refl, moves_set xs n x y got (λ i b at. each (suc i) b at) one)

  moves_by : (f : Attempt → Attempt) (n : ℕ) (xs : List Attempt) (o : Option Attempt) → slice_get xs n ≡ o → ((i : ℕ) (a : Attempt) → slice_get xs i ≡ Some a → Moves c s t a a)
      → ((a : Attempt) → o ≡ Some a → Moves c s t a (f a)) → AllMove c s t xs (changed_if f (suc n) xs o)
  moves_by f n xs None got each one = moves_self xs each
  moves_by f n xs (Some x) got each one = moves_set xs n x (f x) got each (one x refl)

  pub moves_changed : (f : Attempt → Attempt) (n : ℕ) (xs : List Attempt) → ((i : ℕ) (a : Attempt) → slice_get xs i ≡ Some a → Moves c s t a a)
      → ((a : Attempt) → numbered xs n ≡ Some a → Moves c s t a (f a)) → AllMove c s t xs (changed f n xs)
  moves_changed f zero xs each one = moves_self xs each
  moves_changed f (suc n) xs each one = moves_by f n xs (slice_get xs n) refl each one

  -- the last one that is committed to
  commits_same : (a b : Attempt) → Moves c s t a b → is_commitment d b ≡ is_commitment c a
  commits_same a b m =
      ap (λ (n : ℕ). (b.row.call == n) && is_some b.row.committed) same
      ∙ ap (λ (n : ℕ). (n == c.number) && is_some b.row.committed) m.call
      ∙ ap (λ (x : Bool). (a.row.call == c.number) && x) m.committed

  last_by : (a b : Attempt) (o q : Option Attempt) (u v : Bool) → is_commitment c a ≡ u → v ≡ u → Moves c s t a b → MovesIf (is_some c.end) s t o q
      → MovesIf (is_some c.end) s t (option_or o (if u then Some a else None)) (option_or q (if v then Some b else None))
  last_by a b (Some x) (Some y) u v is e m h = h
  last_by a b (Some x) None u v is e m h = absurd h
  last_by a b None (Some y) u v is e m h = absurd h
  last_by a b None None true true is e m h = m.receives (and_parts (is_of c a) (is_some a.row.committed) is).0
  last_by a b None None false false is e m h = tt
  last_by a b None None true false is e m h = absurd (cc)
  last_by a b None None false true is e m h = absurd (cc)

  pub last_moves : (xs ys : List Attempt) → AllMove c s t xs ys → MovesIf (is_some c.end) s t (find_last (is_commitment c) xs) (find_last (is_commitment d) ys)
  last_moves [] [] m = tt
  last_moves (a ∷ xs) (b ∷ ys) m =
      last_by a b (find_last (is_commitment c) xs) (find_last (is_commitment d) ys) (is_commitment c a) (is_commitment d b) refl (commits_same a b m.0) m.0
      (last_moves xs ys m.1)
  last_moves [] (b ∷ ys) m = absurd m
  last_moves (a ∷ xs) [] m = absurd m
