-- One link is over: it is stamped as gone where it was not before, in the ledger as in the session.
use Rattle.std.proofs.Common.{◌≡◌, ◌&&◌, ◌∷◌, ap, arith, refl, sym, ◌∙◌, Bool, true, false, List, [], None, Option, Some, ℕ, if◌then◌else◌, is_none, length, map, nat_lt, slice_get, suc, zero}
use Rattle.std.proofs.lemmas.Bool.Decides.{nat_tests}
use Rattle.std.specs.Option.{option_map_or}
use Rattle.std.specs.Prelude.{slice_set}
use Rattle.channel_actions.proofs.Stamps.{map_same}
use Rattle.ledger_stamps.specs.Steps as stamps
use Rattle.ledger_stamps.specs.Steps.{changed_at, gone_link}
use Rattle.session_actions.specs.Sessions.{link_seen}
use Rattle.session_actions.specs.Words.{changed, changed_if}
use Rattle.session_actions.specs.declared.link.Link.{Link}
use Rattle.session_actions.specs.declared.link.LinkOver.{LinkOver}

fewer : (i n : ℕ) → nat_lt (suc i) (suc n) ≡ false → nat_lt i n ≡ false
fewer i n e = grind (arith, nat_tests)

some_first : (n : ℕ) → nat_lt 0 (suc n) ≡ false → ⊥
some_first n e = grind (arith, nat_tests)

out_of : {Y : Type 0} (g : Y → Y) (ys : List Y) (i : ℕ) → nat_lt i (length ys) ≡ false → stamps.changed g ys i ≡ ys
out_of g [] i e = refl
out_of g (y ∷ ys) zero e = absurd (some_first (length ys) e)
out_of g (y ∷ ys) (suc i) e = ap (λ (l : List _). y ∷ l) (out_of g ys i (fewer i (length ys) e))

in_range : {Y : Type 0} (g : Y → Y) (ys : List Y) (i : ℕ) (b : Bool) → nat_lt i (length ys) ≡ b
    → option_map_or (λ (index : ℕ). stamps.changed g ys index) (if b then Some i else None) ys ≡ stamps.changed g ys i
in_range g ys i true e = refl
in_range g ys i false e = sym (out_of g ys i e)

module _ {X Y : Type 0} (F G : X → Y) (f : X → X) (g : Y → Y) (same : (x : X) → F x ≡ G x) (turns : (x : X) → F (f x) ≡ g (G x)) where
  put_same : (xs : List X) (i : ℕ) (o : Option X) → slice_get xs i ≡ o → map F (changed_if f (suc i) xs o) ≡ stamps.changed g (map G xs) i
  put_same [] i None e = refl
  put_same [] i (Some x) e = absurd (cc)
  put_same (y ∷ xs) zero None e = absurd (cc)
  put_same (y ∷ xs) zero (Some x) e =
      let one : x ≡ y = (cc) in
      ap (λ (z : Y). z ∷ map F xs) (turns x ∙ ap (λ (z : X). g (G z)) one) ∙ ap (λ (l : List Y). g (G y) ∷ l) (map_same F G same xs)
  put_same (y ∷ xs) (suc i) None e =
      ap (λ (z : Y). z ∷ map F xs) (same y) ∙ ap (λ (l : List Y). G y ∷ l) (put_same xs i None e)
  put_same (y ∷ xs) (suc i) (Some x) e =
      ap (λ (z : Y). z ∷ map F (slice_set xs i (f x))) (same y) ∙ ap (λ (l : List Y). G y ∷ l) (put_same xs i (Some x) e)

  pub map_stamped : (n : ℕ) (xs : List X) → map F (changed f n xs) ≡ changed_at g (map G xs) n
  map_stamped zero xs = map_same F G same xs
  map_stamped (suc i) xs =
      put_same xs i (slice_get xs i) refl ∙ sym (in_range g (map G xs) i (nat_lt i (length (map G xs))) refl)

-- the stamp of one
stamp_by : (why : LinkOver) (l : Link) (n : ℕ) (o : Option ℕ) (b : Bool)
    → link_seen (if is_none o && true then record l { over = Some why; gone = Some n } else record l { over = Some why; gone = o })
    ≡ gone_link n (link_seen (if is_none o && b then record l { gone = Some n } else record l { gone = o }))
stamp_by why l n None true = refl
stamp_by why l n None false = refl
stamp_by why l n (Some m) true = refl
stamp_by why l n (Some m) false = refl

pub stamp_over : (why : LinkOver) (l : Link) (n : ℕ) (b : Bool)
    → link_seen (if is_none l.gone && true then record l { over = Some why; gone = Some n } else record l { over = Some why })
    ≡ gone_link n (link_seen (if is_none l.gone && b then record l { gone = Some n } else l))
stamp_over why l n b = stamp_by why l n l.gone b
