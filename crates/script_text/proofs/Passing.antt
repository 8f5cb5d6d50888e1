-- What a sink has taken and what waits, from one text to the next.
use Rattle.std.proofs.Common.{◌≡◌, ℕ, suc, ◌+◌, ◌<◌, ◌≤◌, Option, Some, None, List, [], ◌∷◌, ◌++◌, length, get_or, take, drop, refl, sym, ap, subst, ◌∙◌, append_assoc, arith}
use Rattle.std.specs.Prelude.{map, Result, Ok, Err, OnErr}
use Rattle.std.proofs.lemmas.List.{append-nil, take-append-le, length-append}
use Rattle.gate_io.specs.Outside.{Appends, AppendsPrefix}
use Rattle.gate_io.proofs.AppendLaws.{Appends-append}
use Rattle.script_text.specs.Output.{Passes}
use Rattle.script_text.specs.Report.{lines_text}
use Rattle.script_text.proofs.Words.{lines_more, lines_parts}

-- what holds, holds at an error
pub on_err : {T E P : Type 0} (r : Result T E) → P → OnErr r P
on_err (Ok v) p = tt
on_err (Err e) p = p

pub Appends-none : (a : Option (List ℕ)) → Appends a a []
Appends-none (Some s) = ap (λ (t : List ℕ). Some t) (sym (append-nil s))
Appends-none None = refl

pub AppendsPrefix-none : (a : Option (List ℕ)) (xs : List ℕ) → AppendsPrefix a a xs
AppendsPrefix-none a xs = (0, omega arith, Appends-none a)

pub none_written : (a : Option (List ℕ)) (xs : List ℕ) → AppendsPrefix a a xs
none_written a xs = AppendsPrefix-none a xs

-- a prefix of a text is one of a longer text
pub AppendsPrefix-more : (a b : Option (List ℕ)) (xs ys : List ℕ) → AppendsPrefix a b xs → AppendsPrefix a b (xs ++ ys)
AppendsPrefix-more a b xs ys h =
    let within : h.0 ≤ length xs = h.1 in
    let size : length (xs ++ ys) ≡ length xs + length ys = length-append xs ys in
    (h.0, omega (arith, size, within), subst (λ (t : List ℕ). Appends a b t) (sym (take-append-le h.0 xs ys within)) h.2)

-- all that waited was written
pub Passes-all : (a b : Option (List ℕ)) (xs : List ℕ) → Appends a b xs → Passes a xs b [] []
Passes-all a b xs h = record { prefix = xs; joined = refl; taken = h }

-- a text that waits
pub Passes-text : (a b : Option (List ℕ)) (x y t u : List ℕ) → Passes a x b y t → Passes a x b (y ++ u) (t ++ u)
Passes-text a b x y t u p = record {
  prefix = p.prefix;
  joined = sym (append_assoc x t u) ∙ ap (λ (v : List ℕ). v ++ u) p.joined ∙ append_assoc p.prefix y u;
  taken = p.taken;
}

-- one text after another
pub Passes-then : (a b c : Option (List ℕ)) (x y z t u : List ℕ) → Passes a x b y t → Passes b y c z u → Passes a x c z (t ++ u)
Passes-then a b c x y z t u p q = record {
  prefix = p.prefix ++ q.prefix;
  joined =
      sym (append_assoc x t u) ∙ ap (λ (v : List ℕ). v ++ u) p.joined ∙ append_assoc p.prefix y u
      ∙ ap (λ (v : List ℕ). p.prefix ++ v) q.joined ∙ sym (append_assoc p.prefix q.prefix z);
  taken = Appends-append a b c p.prefix q.prefix (p.prefix ++ q.prefix) p.taken q.taken refl;
}

-- all is written in the end
pub Appends-afterwards : (a b c : Option (List ℕ)) (x y t : List ℕ) → Passes a x b y t → Appends b c y → Appends a c (x ++ t)
Appends-afterwards a b c x y t p h = Appends-append a b c p.prefix y (x ++ t) p.taken h (sym p.joined)

take-afterwards : (xs ys : List ℕ) (n : ℕ) → take (length xs + n) (xs ++ ys) ≡ xs ++ take n ys
take-afterwards [] ys n = ap (λ (k : ℕ). take k ys) (omega arith)
take-afterwards (x ∷ xs) ys n =
    let count : length (x ∷ xs) + n ≡ suc (length xs + n) = omega arith in
    rw count (ap (λ (t : List ℕ). x ∷ t) (take-afterwards xs ys n))

-- a prefix of what waits and of what comes after it
pub AppendsPrefix-afterwards : (a b c : Option (List ℕ)) (x y t u : List ℕ) → Passes a x b y t → AppendsPrefix b c (y ++ u) → AppendsPrefix a c (x ++ (t ++ u))
AppendsPrefix-afterwards a b c x y t u p h =
    let whole : x ++ (t ++ u) ≡ p.prefix ++ (y ++ u) =
    sym (append_assoc x t u) ∙ ap (λ (v : List ℕ). v ++ u) p.joined ∙ append_assoc p.prefix y u in
    let size : length (p.prefix ++ (y ++ u)) ≡ length p.prefix + length (y ++ u) = length-append p.prefix (y ++ u) in
    let within : h.0 ≤ length (y ++ u) = h.1 in
    subst (λ (v : List ℕ). AppendsPrefix a c v) (sym whole) (
      length p.prefix + h.0,
      omega (arith, size, within),
      Appends-append a b c p.prefix (take h.0 (y ++ u)) (take (length p.prefix + h.0) (p.prefix ++ (y ++ u))) p.taken h.2
          (sym (take-afterwards p.prefix (y ++ u) h.0)),
    )

-- the same where nothing more comes
pub AppendsPrefix-last : (a b c : Option (List ℕ)) (x y t : List ℕ) → Passes a x b y t → AppendsPrefix b c y → AppendsPrefix a c (x ++ t)
AppendsPrefix-last a b c x y t p h =
    subst (λ (v : List ℕ). AppendsPrefix a c (x ++ v)) (append-nil t)
    (AppendsPrefix-afterwards a b c x y t [] p (subst (λ (v : List ℕ). AppendsPrefix b c v) (sym (append-nil y)) h))

-- ---- a loop over the values of a list, a line for each

pub passed_one : {X : Type 0} (f : X → List ℕ) (xs : List X) (i : ℕ) (d : X) (a b c : Option (List ℕ)) (x y s z : List ℕ) → i < length xs → Passes a x b y (lines_text (map f (take i xs))) → s ≡ y ++ f (get_or xs i d) ++ 10 ∷ [] → Passes b s c z [] → Passes a x c z (lines_text (map f (take (i + 1) xs)))
passed_one f xs i d a b c x y s z within p e q =
    let line : List ℕ = f (get_or xs i d) ++ 10 ∷ [] in
    let prefix : List ℕ = lines_text (map f (take i xs)) in
    let same : y ++ line ≡ s = sym (append_assoc y (f (get_or xs i d)) (10 ∷ [])) ∙ sym e in
    let waits : Passes a x b s (prefix ++ line) = subst (λ (v : List ℕ). Passes a x b v (prefix ++ line)) same (Passes-text a b x y prefix line p) in
    subst (λ (v : List ℕ). Passes a x c z v) (append-nil (prefix ++ line) ∙ sym (lines_more f xs i d within))
    (Passes-then a b c x s z (prefix ++ line) [] waits q)

pub failed_before : {X : Type 0} (f : X → List ℕ) (xs : List X) (i : ℕ) (a b : Option (List ℕ)) (x y : List ℕ) → Passes a x b y (lines_text (map f (take i xs))) → AppendsPrefix a b (x ++ lines_text (map f xs))
failed_before f xs i a b x y p =
    let prefix : List ℕ = lines_text (map f (take i xs)) in
    let rest : List ℕ = lines_text (map f (drop i xs)) in
    subst (λ (v : List ℕ). AppendsPrefix a b (x ++ v)) (sym (lines_parts f xs i))
    (AppendsPrefix-afterwards a b b x y prefix rest p (AppendsPrefix-none b (y ++ rest)))

pub failed_at : {X : Type 0} (f : X → List ℕ) (xs : List X) (i : ℕ) (d : X) (a b c : Option (List ℕ)) (x y s : List ℕ) → i < length xs → Passes a x b y (lines_text (map f (take i xs))) → s ≡ y ++ f (get_or xs i d) ++ 10 ∷ [] → AppendsPrefix b c s → AppendsPrefix a c (x ++ lines_text (map f xs))
failed_at f xs i d a b c x y s within p e h =
    let line : List ℕ = f (get_or xs i d) ++ 10 ∷ [] in
    let prefix : List ℕ = lines_text (map f (take i xs)) in
    let rest : List ℕ = lines_text (map f (drop (i + 1) xs)) in
    let same : s ≡ y ++ line = e ∙ append_assoc y (f (get_or xs i d)) (10 ∷ []) in
    let here : AppendsPrefix a c (x ++ (prefix ++ line)) = AppendsPrefix-afterwards a b c x y prefix line p (subst (λ (v : List ℕ). AppendsPrefix b c v) same h) in
    let whole : (x ++ (prefix ++ line)) ++ rest ≡ x ++ lines_text (map f xs) =
    append_assoc x (prefix ++ line) rest
    ∙ ap (λ (v : List ℕ). x ++ (v ++ rest)) (sym (lines_more f xs i d within))
    ∙ ap (λ (v : List ℕ). x ++ v) (sym (lines_parts f xs (i + 1))) in
    subst (λ (v : List ℕ). AppendsPrefix a c v) whole (AppendsPrefix-more a c (x ++ (prefix ++ line)) rest here)

-- ---- a report: its channel line, the lines of its entries, those of its rows, and its end line

pub failed_entries : (a b : Option (List ℕ)) (first entries rows last whole : List ℕ) → whole ≡ first ++ ((entries ++ rows) ++ last) → AppendsPrefix a b (first ++ entries) → AppendsPrefix a b whole
failed_entries a b first entries rows last whole e h =
    let same : (first ++ entries) ++ (rows ++ last) ≡ whole =
    append_assoc first entries (rows ++ last) ∙ ap (λ (v : List ℕ). first ++ v) (sym (append_assoc entries rows last)) ∙ sym e in
    subst (λ (v : List ℕ). AppendsPrefix a b v) same (AppendsPrefix-more a b (first ++ entries) (rows ++ last) h)

pub failed_rows : (a b c : Option (List ℕ)) (first entries rows last whole y : List ℕ) → whole ≡ first ++ ((entries ++ rows) ++ last) → Passes a first b y entries → AppendsPrefix b c (y ++ rows) → AppendsPrefix a c whole
failed_rows a b c first entries rows last whole y e p h =
    let same : (first ++ (entries ++ rows)) ++ last ≡ whole = append_assoc first (entries ++ rows) last ∙ sym e in
    subst (λ (v : List ℕ). AppendsPrefix a c v) same
    (AppendsPrefix-more a c (first ++ (entries ++ rows)) last (AppendsPrefix-afterwards a b c first y entries rows p h))

pub failed_end : (a b c : Option (List ℕ)) (first entries rows last whole y z : List ℕ) → whole ≡ first ++ ((entries ++ rows) ++ last) → Passes a first b y entries → Passes b y c z rows → AppendsPrefix a c whole
failed_end a b c first entries rows last whole y z e p q =
    subst (λ (v : List ℕ). AppendsPrefix a c v) (sym e)
    (AppendsPrefix-afterwards a c c first z (entries ++ rows) last (Passes-then a b c first y z entries rows p q) (AppendsPrefix-none c (z ++ last)))

pub failed_out : (a b c d : Option (List ℕ)) (first entries rows last whole y z w : List ℕ) → whole ≡ first ++ ((entries ++ rows) ++ last) → Passes a first b y entries → Passes b y c z rows → w ≡ z ++ last → AppendsPrefix c d w → AppendsPrefix a d whole
failed_out a b c d first entries rows last whole y z w e p q l h =
    subst (λ (v : List ℕ). AppendsPrefix a d v) (sym e)
    (AppendsPrefix-afterwards a c d first z (entries ++ rows) last (Passes-then a b c first y z entries rows p q) (subst (λ (v : List ℕ). AppendsPrefix c d v) l h))

pub wrote_all : (a b c d : Option (List ℕ)) (first entries rows last whole y z w : List ℕ) → whole ≡ first ++ ((entries ++ rows) ++ last) → Passes a first b y entries → Passes b y c z rows → w ≡ z ++ last → Appends c d w → Appends a d whole
wrote_all a b c d first entries rows last whole y z w e p q l h =
    let waits : Passes a first c (z ++ last) ((entries ++ rows) ++ last) =
    Passes-text a c first z (entries ++ rows) last (Passes-then a b c first y z entries rows p q) in
    subst (λ (v : List ℕ). Appends a d v) (sym e)
    (Appends-afterwards a c d first (z ++ last) ((entries ++ rows) ++ last) waits (subst (λ (v : List ℕ). Appends c d v) l h))
