-- What is spelled as an answer has no fault.
use Rattle.std.proofs.Common.{◌≡◌, ℕ, ◌+◌, Bool, true, false, List, [], ◌∷◌, length, refl, ap, sym, subst, inl, inr, arith, ◌∙◌}
use Rattle.std.specs.Prelude.{◌==◌, ◌||◌, if◌then◌else◌}
use Rattle.std.specs.List.{AllByRecursion}
use Rattle.std.proofs.lemmas.List.Elements.{recursion_from_All, All-from_recursion}
use Rattle.grpc_base.specs.declared.script.AnswerLine.{AnswerLine}
use Rattle.grpc_base.specs.declared.script.AnswerPart.{AnswerPart}
use Rattle.grpc_base.specs.declared.script.AnswerPart.TheVariants as part
use Rattle.script_fields.proofs.TextLaws.{bytes_from, hex_one}
use Rattle.script_lines.specs.declared.part.PartKind.{PartKind}
use Rattle.script_lines.specs.declared.part.PartKind.TheVariants as kind
use Rattle.grpc_base.specs.Scripts.{ends_stream}
use Rattle.script_lines.specs.Answers.{Answered, AreParts, ArePartsFault, IsAnswerFault, IsAnswerFields, IsAnswerText, IsPart, IsPartFault, IsPartOf, IsPartsFault, IsPartsText, IsValue, IsValueFault, IsWithin, count_of, letter_of, part_kind}
use Rattle.script_lines.specs.Causes.{Before, bad_count, bad_number}
use Rattle.script_lines.specs.Fields.{IsNumber, number_limit, path_field}
use Rattle.script_lines.proofs.GrammarLaws.{good_field}

-- no two kinds have one letter
kind_from : ℕ → PartKind
kind_from b =
    if b == 104 then kind.Head else
    if b == 109 then kind.Message else
    if b == 115 then kind.Status else
    if b == 112 then kind.Pushback else
    if b == 114 then kind.Reset else
    if b == 103 then kind.Goaway else
    kind.Hold

kind_back : (k : PartKind) → kind_from (letter_of k) ≡ k
unfolding kind_from
kind_back kind.Head = refl
kind_back kind.Message = refl
kind_back kind.Status = refl
kind_back kind.Pushback = refl
kind_back kind.Reset = refl
kind_back kind.Goaway = refl
kind_back kind.Hold = refl

same_parts : (a b : ℕ) (r s text : List ℕ) → text ≡ a ∷ r → text ≡ b ∷ s → (a ≡ b) × (r ≡ s)
same_parts a b r s text e f = ((cc), (cc))

pub part_same : (ended : Bool) (text : List ℕ) (k j : PartKind) (r s : List ℕ) → IsPartOf ended k text r → IsPartOf ended j text s → (k ≡ j) × (r ≡ s)
part_same ended text k j r s p q =
    let both : (letter_of k ≡ letter_of j) × (r ≡ s) = same_parts (letter_of k) (letter_of j) r s text p.0 q.0 in
    (sym (kind_back k) ∙ ap kind_from both.0 ∙ kind_back j, both.1)

value_fault : (p : AnswerPart) (rest : List ℕ) (c : ℕ) → IsValue rest p → IsValueFault (part_kind p) rest c → ⊥
value_fault (part.Message message) rest c v f = f.0 message v.0 v.1
value_fault (part.Status code) rest c v f = f.0 code v
value_fault (part.Reset code) rest c v f = f.0 code v
value_fault (part.Hold count) rest c v f = f.0 count v
value_fault p rest c v f = f

good_part : (ended : Bool) (text : List ℕ) (p : AnswerPart) (c : ℕ) → IsPart ended text p → IsPartFault ended text c → ⊥
good_part ended text p c t (inl f) = f.0 (part_kind p) t.0 t.1
good_part ended text p c t (inr f) =
    let same : (part_kind p ≡ f.0) × (t.0 ≡ f.1) = part_same ended text (part_kind p) f.0 t.0 f.1 t.1 f.2 in
    value_fault p t.0 c t.2 (subst (λ j. IsValueFault j t.0 c) (sym same.0) (subst (λ r. IsValueFault f.0 r c) (sym same.1) f.3))

kind_end : PartKind → Bool
kind_end kind.Status = true
kind_end kind.Reset = true
kind_end k = false

end_kind : (p : AnswerPart) → ends_stream p ≡ kind_end (part_kind p)
unfolding kind_end
end_kind part.Head = refl
end_kind (part.Message message) = refl
end_kind (part.Status code) = refl
end_kind (part.Pushback text) = refl
end_kind (part.Reset code) = refl
end_kind part.Goaway = refl
end_kind (part.Hold count) = refl

pub same_end : (ended : Bool) (text : List ℕ) (p q : AnswerPart) → IsPart ended text p → IsPart ended text q → ends_stream p ≡ ends_stream q
same_end ended text p q s t = end_kind p ∙ ap kind_end (part_same ended text (part_kind p) (part_kind q) s.0 t.0 s.1 t.1).0 ∙ sym (end_kind q)

good_parts : (ended : Bool) (texts : List (List ℕ)) (ps : List AnswerPart) (c : ℕ) → AreParts ended texts ps → ArePartsFault ended texts c → ⊥
good_parts ended [] ps c t f = f
good_parts ended (text ∷ texts) [] c t f = t
good_parts ended (text ∷ texts) (p ∷ ps) c t (inl f) = good_part ended text p c t.0 f
good_parts ended (text ∷ texts) (p ∷ ps) c t (inr f) =
    good_parts (ended || ends_stream p) texts ps c t.1 (subst (λ b. ArePartsFault (ended || b) texts c) (sym (same_end ended text p f.0 t.0 f.1)) f.2)

-- two messages of one text are as long
part_within : (p q : AnswerPart) (rest : List ℕ) → part_kind p ≡ part_kind q → IsValue rest p → IsValue rest q → IsWithin p → IsWithin q
part_within (part.Message m) (part.Message n) rest same v w within =
    (let l : length m ≡ length n = ap length (hex_one m n (bytes_from m v.0) (bytes_from n w.0) (sym v.1 ∙ w.1)) in omega (arith, l, within))
part_within part.Head (part.Message n) rest same v w within = absurd ((cc))
part_within (part.Status a) (part.Message n) rest same v w within = absurd ((cc))
part_within (part.Pushback a) (part.Message n) rest same v w within = absurd ((cc))
part_within (part.Reset a) (part.Message n) rest same v w within = absurd ((cc))
part_within part.Goaway (part.Message n) rest same v w within = absurd ((cc))
part_within (part.Hold a) (part.Message n) rest same v w within = absurd ((cc))
part_within p q rest same v w within = tt

parts_within : (ended : Bool) (texts : List (List ℕ)) (ps qs : List AnswerPart) → AreParts ended texts ps → AreParts ended texts qs → AllByRecursion IsWithin ps → AllByRecursion IsWithin qs
parts_within ended texts ps [] s t within = tt
parts_within ended [] ps (q ∷ qs) s t within = absurd t
parts_within ended (text ∷ texts) [] (q ∷ qs) s t within = absurd s
parts_within ended (text ∷ texts) (p ∷ ps) (q ∷ qs) s t within =
    let same : (part_kind p ≡ part_kind q) × (s.0.0 ≡ t.0.0) = part_same ended text (part_kind p) (part_kind q) s.0.0 t.0.0 s.0.1 t.0.1 in
    let there : AreParts (ended || ends_stream p) texts qs = subst (λ b. AreParts (ended || b) texts qs) (sym (same_end ended text p q s.0 t.0)) t.1 in
    (part_within p q s.0.0 same.0 s.0.2 (subst (λ r. IsValue r q) (sym same.1) t.0.2) within.0, parts_within (ended || ends_stream p) texts ps qs s.1 there within.1)

good_text : (text : List ℕ) (ps : List AnswerPart) (c : ℕ) → IsPartsText text ps → IsPartsFault text c → ⊥
good_text text ps c t (inl f) = good_parts false _ ps c t.0 f
good_text text ps c t (inr f) = f.2 (All-from_recursion IsWithin f.0 (parts_within false _ ps f.0 t.0 f.1 (recursion_from_All IsWithin ps t.1)))

-- an answer has no fault
pub read_answer : (answered : Answered) (texts : List (List ℕ)) (line : AnswerLine) (c : ℕ) → IsAnswerText answered texts line → IsAnswerFault answered texts c → ⊥
read_answer answered (name ∷ (path ∷ (n ∷ (parts ∷ [])))) line c t (inl f) = f.0 t.0
read_answer answered (name ∷ (path ∷ (n ∷ (parts ∷ [])))) line c t (inr f) = counted f.1
  where
    numbered : Before (IsNumber number_limit (count_of answered path + 1) n) bad_number c (IsPartsFault parts c) → ⊥
    numbered (inl h) = h.0 (subst (λ k. IsNumber number_limit k n) t.3 t.4)
    numbered (inr h) = good_text parts line.parts c t.5 h.1

    counted : Before (length (path ∷ n ∷ parts ∷ []) ≡ 3) bad_count c (IsAnswerFields answered (path ∷ n ∷ parts ∷ []) c) → ⊥
    counted (inl h) = h.0 refl
    counted (inr (a, inl h)) = good_field path_field path c t.1 h
    counted (inr (a, inr h)) = numbered h.1
read_answer answered texts line c t f = t
