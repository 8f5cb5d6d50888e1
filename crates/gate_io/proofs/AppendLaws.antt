-- What a run of writes has taken is the pieces joined.
use Rattle.std.proofs.Common.{◌≡◌, ◌≤◌, ℕ, ◌+◌, ◌-◌, Option, Some, None, List, ◌++◌, length, take, drop, sym, ap, ◌∙◌, append_assoc, arith, subst}
use Rattle.std.proofs.Math.Seq.{take-add}
use Rattle.std.proofs.lemmas.Grind.{common_steps}
use Rattle.gate_io.specs.Outside.{Appends}

-- one piece after another
pub Appends-append : (a b c : Option (List ℕ)) (xs ys zs : List ℕ) → Appends a b xs → Appends b c ys → xs ++ ys ≡ zs → Appends a c zs
Appends-append (Some s) b c xs ys zs p q e =
    let h : Appends (Some (s ++ xs)) c ys = subst (λ (o : Option (List ℕ)). Appends o c ys) p q in
    h ∙ ap (λ (t : List ℕ). Some t) (append_assoc s xs ys ∙ ap (λ (t : List ℕ). s ++ t) e)
Appends-append None b c xs ys zs p q e = subst (λ (o : Option (List ℕ)). Appends o c ys) p q

-- a piece's next part after its prefix
pub Appends-next : (a b c : Option (List ℕ)) (piece : List ℕ) (at n : ℕ) → Appends a b (take at piece) → n ≤ length (take (length piece - at) (drop at piece)) → Appends b c (take n (take (length piece - at) (drop at piece))) → Appends a c (take (at + n) piece)
Appends-next a b c piece at n prefix within next =
    let whole : take (length piece - at) (drop at piece) ≡ drop at piece = grind (arith, common_steps) in
    Appends-append a b c (take at piece) (take n (drop at piece)) (take (at + n) piece) prefix
    (subst (λ (t : List ℕ). Appends b c (take n t)) whole next) (sym (take-add at n piece))

-- such a part lies within the piece
pub next_within : (piece : List ℕ) (at n : ℕ) → at ≤ length piece → n ≤ length (take (length piece - at) (drop at piece)) → at + n ≤ length piece
next_within piece at n prefix within = grind (arith, common_steps)
