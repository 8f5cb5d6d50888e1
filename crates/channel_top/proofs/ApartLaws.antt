-- What is written of a session that was run to its end is never what is written of one whose journal got full: the bytes before the last line feed differ.
use Rattle.std.proofs.Common.{◌≡◌, ◌≤◌, ◌<◌, ◌∙◌, ℕ, zero, suc, ◌+◌, ◌==◌, ◌%◌, Bool, true, false, if◌then◌else◌, List, [], ◌∷◌, ◌++◌, map, length, append_assoc, append-nil, ap, arith, refl, subst, sym}
use Rattle.std.specs.Prelude.{◌/◌, codes, decimal}
use Rattle.std.specs.Fmt.{digit_glyph, digits, digits_onto}
use Rattle.std.specs.List.{AllByRecursion}
use Rattle.std.proofs.lemmas.Bool.{lt-ltb}
use Rattle.std.proofs.lemmas.Grind.{flat_map-append}
use Rattle.std.proofs.lemmas.Nat.{mod_below}
use Rattle.attempt_ledger.specs.declared.journal.Journal.{Journal}
use Rattle.attempt_ledger.specs.declared.ledger.Ledger.{Ledger}
use Rattle.script_fields.specs.Spelling.{words}
use Rattle.script_lines.specs.Spelling.{channel_text, lines_text}
use Rattle.script_text.specs.Report.{end_text, entry_text, report_of, row_text}
use Rattle.session_text.specs.Sessions.{session_full_text}

-- ---- the byte before the last one

abbrev before_last : ℕ → ℕ → List ℕ → ℕ
before_last p d [] = p
before_last p d (x ∷ xs) = before_last d x xs

last_two : (p d : ℕ) (xs : List ℕ) (y z : ℕ) (zs : List ℕ) → before_last p d (xs ++ y ∷ z ∷ zs) ≡ before_last y z zs
last_two p d [] y z zs = refl
last_two p d (x ∷ xs) y z zs = last_two d x xs y z zs

-- ---- digits

abbrev IsLow : ℕ → Type 0
IsLow b = b ≤ 57

low_glyph : (n : ℕ) → digit_glyph false (n % 10) ≤ 57
low_glyph n =
    let below : n % 10 < 10 = mod_below n 10 (omega arith) in
    let is : digit_glyph false (n % 10) ≡ 48 + n % 10 = ap (λ (b : Bool). if b then 48 + n % 10 else (if false then 55 + n % 10 else 87 + n % 10)) (lt-ltb (n % 10) 10 below) in
    omega (arith, below, is)

one_of : (b : Bool) (xs ys : List ℕ) → AllByRecursion IsLow xs → AllByRecursion IsLow ys → AllByRecursion IsLow (if b then xs else ys)
one_of true xs ys low all = low
one_of false xs ys low all = all

onto_low : (k n : ℕ) (acc : List ℕ) → AllByRecursion IsLow acc → AllByRecursion IsLow (digits_onto k 10 false n acc)
onto_low zero n acc low = low
onto_low (suc k) n acc low = one_of (n / 10 == 0) (digit_glyph false (n % 10) ∷ acc) (digits_onto k 10 false (n / 10) (digit_glyph false (n % 10) ∷ acc)) (low_glyph n, low) (onto_low k (n / 10) (digit_glyph false (n % 10) ∷ acc) (low_glyph n, low))

spelled_onto : (n : ℕ) → digits_onto 64 10 false n [] ≡ decimal n
unfolding digits
spelled_onto n = refl

decimal_low : (n : ℕ) → AllByRecursion IsLow (decimal n)
decimal_low n = subst (AllByRecursion IsLow) (spelled_onto n) (onto_low 64 n [] tt)

low_ended : (p d : ℕ) (ds : List ℕ) → d ≤ 57 → AllByRecursion IsLow ds → before_last p d (ds ++ 10 ∷ []) ≤ 57
low_ended p d [] low all = low
low_ended p d (e ∷ ds) low all = low_ended d e ds all.0 all.1

-- a text that ends in digits after a space, and a line feed
low_text : (prefix ds : List ℕ) → AllByRecursion IsLow ds → before_last 0 0 (prefix ++ 32 ∷ (ds ++ 10 ∷ [])) ≤ 57
low_text prefix [] all =
    let is : before_last 0 0 (prefix ++ 32 ∷ 10 ∷ []) ≡ 32 = last_two 0 0 prefix 32 10 [] in
    omega (arith, is)
low_text prefix (e ∷ ds) all =
    let is : before_last 0 0 (prefix ++ 32 ∷ e ∷ (ds ++ 10 ∷ [])) ≡ before_last 32 e (ds ++ 10 ∷ []) = last_two 0 0 prefix 32 e (ds ++ 10 ∷ []) in
    let low : before_last 32 e (ds ++ 10 ∷ []) ≤ 57 = low_ended 32 e ds all.0 all.1 in
    omega (arith, is, low)

-- ---- the last line of a report

-- a text ends in another one
abbrev EndsIn : List ℕ → List ℕ → Type 0
EndsIn tail text = (prefix : List ℕ) × (text ≡ prefix ++ tail)

ends_after : (tail text before : List ℕ) → EndsIn tail text → EndsIn tail (before ++ text)
ends_after tail text before (prefix, is) = (before ++ prefix, ap (λ (t : List ℕ). before ++ t) is ∙ sym (append_assoc before prefix tail))

five_words : (a b c d e : List ℕ) → EndsIn (32 ∷ (e ++ 10 ∷ [])) (words (a ∷ b ∷ c ∷ d ∷ e ∷ []) ++ 10 ∷ [])
five_words a b c d e =
    let line : List ℕ = 32 ∷ (e ++ 10 ∷ []) in
    let last : EndsIn line (d ++ line) = (d, refl) in
    let third : EndsIn line (c ++ 32 ∷ (d ++ line)) = ends_after line (32 ∷ (d ++ line)) c (ends_after line (d ++ line) (32 ∷ []) last) in
    let second : EndsIn line (b ++ 32 ∷ (c ++ 32 ∷ (d ++ line))) = ends_after line (32 ∷ (c ++ 32 ∷ (d ++ line))) b (ends_after line (c ++ 32 ∷ (d ++ line)) (32 ∷ []) third) in
    let first : EndsIn line (a ++ 32 ∷ (b ++ 32 ∷ (c ++ 32 ∷ (d ++ line)))) = ends_after line (32 ∷ (b ++ 32 ∷ (c ++ 32 ∷ (d ++ line)))) a (ends_after line (b ++ 32 ∷ (c ++ 32 ∷ (d ++ line))) (32 ∷ []) second) in
    (first.0, parted a b c d e (10 ∷ []) ∙ first.1)
  where
    parted : (a b c d e t : List ℕ) → (a ++ 32 ∷ (b ++ 32 ∷ (c ++ 32 ∷ (d ++ 32 ∷ e)))) ++ t ≡ a ++ 32 ∷ (b ++ 32 ∷ (c ++ 32 ∷ (d ++ 32 ∷ (e ++ t))))
    parted a b c d e t =
        append_assoc a (32 ∷ (b ++ 32 ∷ (c ++ 32 ∷ (d ++ 32 ∷ e)))) t
        ∙ ap (λ (x : List ℕ). a ++ 32 ∷ x) (append_assoc b (32 ∷ (c ++ 32 ∷ (d ++ 32 ∷ e))) t)
        ∙ ap (λ (x : List ℕ). a ++ 32 ∷ (b ++ 32 ∷ x)) (append_assoc c (32 ∷ (d ++ 32 ∷ e)) t)
        ∙ ap (λ (x : List ℕ). a ++ 32 ∷ (b ++ 32 ∷ (c ++ 32 ∷ x))) (append_assoc d (32 ∷ e) t)

last_line : (tail : List ℕ) (first line : List ℕ) (lines : List (List ℕ)) → EndsIn tail (line ++ 10 ∷ []) → EndsIn tail (lines_text (first ∷ lines ++ line ∷ []))
last_line tail first line lines ends =
    let is : lines_text (lines ++ line ∷ []) ≡ lines_text lines ++ (line ++ 10 ∷ []) =
    flat_map-append (λ (l : List ℕ). l ++ 10 ∷ []) lines (line ∷ []) ∙ ap (λ (t : List ℕ). lines_text lines ++ t) (append-nil (line ++ 10 ∷ [])) in
    let afterwards : EndsIn tail (lines_text lines ++ (line ++ 10 ∷ [])) = ends_after tail (line ++ 10 ∷ []) (lines_text lines) ends in
    ends_after tail (lines_text (lines ++ line ∷ [])) (first ++ 10 ∷ []) (subst (EndsIn tail) (sym is) afterwards)

report_low : (target : List ℕ) (journal : Journal) (ledger : Ledger) → before_last 0 0 (report_of target journal ledger) ≤ 57
report_low target journal ledger =
    let count : List ℕ = decimal (length ledger.links) in
    let line : EndsIn (32 ∷ (count ++ 10 ∷ [])) (end_text journal ledger ++ 10 ∷ []) =
    five_words (codes "end") (decimal (length journal.entries)) (decimal (length ledger.calls)) (decimal (length ledger.rows)) count in
    let ends : EndsIn (32 ∷ (count ++ 10 ∷ [])) (report_of target journal ledger) =
    last_line (32 ∷ (count ++ 10 ∷ [])) (channel_text target) (end_text journal ledger) (map entry_text journal.entries ++ map row_text ledger.rows) line in
    subst (λ (t : List ℕ). before_last 0 0 t ≤ 57) (sym ends.1) (low_text ends.0 count (decimal_low (length ledger.links)))

full_high : (text : List ℕ) → before_last 0 0 (text ++ session_full_text) ≡ 108
full_high text = ap (before_last 0 0) (sym (append_assoc text (codes "fault session ful") (108 ∷ 10 ∷ []))) ∙ last_two 0 0 (text ++ codes "fault session ful") 108 10 []

-- ---- so no text is both

pub whole_or_full : (target other : List ℕ) (journal journal' : Journal) (ledger ledger' : Ledger) (text : List ℕ) → text ≡ report_of target journal ledger → text ≡ report_of other journal' ledger' ++ session_full_text → ⊥
whole_or_full target other journal journal' ledger ledger' text whole full =
    let low : before_last 0 0 text ≤ 57 = subst (λ (t : List ℕ). before_last 0 0 t ≤ 57) (sym whole) (report_low target journal ledger) in
    let high : before_last 0 0 text ≡ 108 = ap (before_last 0 0) full ∙ full_high (report_of other journal' ledger') in
    omega (arith, low, high)

pub none_or_full : (other : List ℕ) (journal : Journal) (ledger : Ledger) (text : List ℕ) → text ≡ [] → text ≡ report_of other journal ledger ++ session_full_text → ⊥
none_or_full other journal ledger text none full =
    let low : before_last 0 0 text ≡ 0 = ap (before_last 0 0) none in
    let high : before_last 0 0 text ≡ 108 = ap (before_last 0 0) full ∙ full_high (report_of other journal ledger) in
    omega (arith, low, high)
