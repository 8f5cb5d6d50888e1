-- What is read is readable: no name twice in an object, no exponent, no level too many.
use Rattle.std.proofs.Common.{◌≡◌, ℕ, suc, ◌+◌, ◌<◌, ◌≤◌, List, [], ◌∷◌, ◌++◌, false, refl, ap, subst, inl, inr, Ok, Err, Result, length, arith}
use Rattle.std.specs.Prelude.{◌==◌, ◌⊎◌, nat_lt}
use Rattle.std.proofs.lemmas.Bool.Decides.{nat_tests}
use Rattle.grpc_base.specs.declared.event.JsonFault.{JsonFault}
use Rattle.grpc_base.specs.declared.event.JsonFault.TheVariants as fault
use Rattle.json_text.specs.Tree.{Tree, number, string, list, object, Items, no_items, item_after, Members, no_members, member_after, is_named}
use Rattle.json_text.specs.Numbers.{is_digit, number_byte}
use Rattle.json_text.specs.Strings.{quoted_next}
use Rattle.json_text.specs.Reading.{Parent, in_list, in_object, Stage, at_top, at_first_value, at_value, at_first_name, at_name, at_colon, after_item, after_member, in_word, in_number, in_string, in_name, at_end, State, most_levels, most_bytes, put, opened, value_byte, top_byte, first_value_byte, next_value_byte, first_name_byte, next_name_byte, colon_byte, item_byte, member_byte, end_byte, after_number, letters_left, word_byte, digit_byte, string_goes, named, name_goes, step_at, step, ◌>>=◌, run, at_start, ended, reading}
use Rattle.json_text.specs.Grammar.{is_blank, IsText}
use Rattle.json_text.specs.Readable.{IsReadable, AreReadable, HasReadable}
use Rattle.json_text.specs.declared.number.Part.{Part}
use Rattle.json_text.specs.declared.number.NumberByte.{NumberByte}
use Rattle.json_text.specs.declared.number.NumberByte.TheVariants as digit
use Rattle.json_text.specs.declared.string.QuotedNext.{QuotedNext}
use Rattle.json_text.specs.declared.string.QuotedNext.TheVariants as next
use Rattle.json_text.proofs.Tools.{by_if}
use Rattle.json_text.proofs.Digits.{IsPart, PartGoes, part_goes}
use Rattle.json_text.proofs.Places.{Holds, Kept, step_kept}
use Rattle.json_text.proofs.Reach.{IsOther, at_stage}
use Rattle.json_text.proofs.ReachTexts.{text_reach}
use Rattle.json_text.proofs.Runs.{next_place}

-- what is open round a place
abbrev Around : List Parent → Type 0
Around [] = Unit {0}
Around (in_list items ∷ ps) = (length ps < 32) × AreReadable items (suc (length ps)) × Around ps
Around (in_object ms name ∷ ps) =
    (length ps < 32) × HasReadable ms (suc (length ps)) × (is_named name ms ≡ false) × Around ps

-- a place inside so many lists and objects
abbrev At : Stage → ℕ → Type 0
At at_top n = Unit {0}
At at_first_value n = n < 32
At at_value n = Unit {0}
At at_first_name n = n < 32
At (at_name ms) n = (n < 32) × HasReadable ms (suc n)
At at_colon n = Unit {0}
At (after_item items) n = (n < 32) × AreReadable items (suc n)
At (after_member ms) n = (n < 32) × HasReadable ms (suc n)
At (in_word c cs v) n = IsReadable v n
At (in_number q start t) n = Unit {0}
At (in_string q) n = Unit {0}
At (in_name ms start q) n = (n < 32) × HasReadable ms (suc n)
At (at_end v) n = IsReadable v 0

abbrev Good : Result State JsonFault → Type 0
Good (Ok s) = At s.stage (length s.parents) × Around s.parents
Good (Err f) = Unit {0}

put_good : (v : Tree) (ps : List Parent) → IsReadable v (length ps) → Around ps → Good (Ok (put v ps))
put_good v [] h a = (h, tt)
put_good v (in_list items ∷ ps) h a = ((a.0, (a.1, h)), a.2)
put_good v (in_object ms name ∷ ps) h a = ((a.0, (a.1, a.2, h)), a.3)

opened_good : (stage : Stage) (at : ℕ) (ps : List Parent) → (length ps < 32 → At stage (length ps)) → Around ps → Good (opened stage at ps)
opened_good stage at ps h a = by_if Good (nat_lt (length ps) most_levels) _ _ (λ y. (h (grind (arith, nat_tests)), a)) (λ n. tt)

value_good : (at : ℕ) (ps : List Parent) (b : ℕ) → Around ps → Good (value_byte at ps b)
unfolding value_byte
value_good at ps b a =
    by_if Good (b == 34) _ _ (λ y. (tt, a)) (λ n₁.
    by_if Good (b == 45) _ _ (λ y. (tt, a)) (λ n₂.
    by_if Good (b == 48) _ _ (λ y. (tt, a)) (λ n₃.
    by_if Good (is_digit b) _ _ (λ y. (tt, a)) (λ n₄.
    by_if Good (b == 91) _ _ (λ y. opened_good at_first_value at ps (λ l. l) a) (λ n₅.
    by_if Good (b == 123) _ _ (λ y. opened_good at_first_name at ps (λ l. l) a) (λ n₆.
    by_if Good (b == 116) _ _ (λ y. (tt, a)) (λ n₇.
    by_if Good (b == 102) _ _ (λ y. (tt, a)) (λ n₈.
    by_if Good (b == 110) _ _ (λ y. (tt, a)) (λ n₉. tt)))))))))

top_good : (at : ℕ) (ps : List Parent) (b : ℕ) → Around ps → Good (top_byte at ps b)
unfolding top_byte
top_good at ps b a =
    by_if Good (is_blank b) _ _ (λ y. (tt, a)) (λ n.
    by_if Good (b == 123) _ _ (λ y. opened_good at_first_name at ps (λ l. l) a) (λ m. tt))

first_value_good : (at : ℕ) (ps : List Parent) (b : ℕ) → length ps < 32 → Around ps → Good (first_value_byte at ps b)
unfolding first_value_byte
first_value_good at ps b l a =
    by_if Good (is_blank b) _ _ (λ y. (l, a)) (λ n.
    by_if Good (b == 93) _ _ (λ y. put_good (list no_items) ps (l, tt) a) (λ m. value_good at (in_list no_items ∷ ps) b (l, tt, a)))

next_value_good : (at : ℕ) (ps : List Parent) (b : ℕ) → Around ps → Good (next_value_byte at ps b)
unfolding next_value_byte
next_value_good at ps b a = by_if Good (is_blank b) _ _ (λ y. (tt, a)) (λ n. value_good at ps b a)

first_name_good : (at : ℕ) (ps : List Parent) (b : ℕ) → length ps < 32 → Around ps → Good (first_name_byte at ps b)
unfolding first_name_byte
first_name_good at ps b l a =
    by_if Good (is_blank b) _ _ (λ y. (l, a)) (λ n.
    by_if Good (b == 34) _ _ (λ y. ((l, tt), a)) (λ n₂.
    by_if Good (b == 125) _ _ (λ y. put_good (object no_members) ps (l, tt) a) (λ m. tt)))

next_name_good : (at : ℕ) (ms : Members) (ps : List Parent) (b : ℕ) → At (at_name ms) (length ps) → Around ps → Good (next_name_byte at ms ps b)
unfolding next_name_byte
next_name_good at ms ps b h a =
    by_if Good (is_blank b) _ _ (λ y. (h, a)) (λ n. by_if Good (b == 34) _ _ (λ y. (h, a)) (λ m. tt))

colon_good : (at : ℕ) (ps : List Parent) (b : ℕ) → Around ps → Good (colon_byte at ps b)
unfolding colon_byte
colon_good at ps b a = by_if Good (is_blank b) _ _ (λ y. (tt, a)) (λ n. by_if Good (b == 58) _ _ (λ y. (tt, a)) (λ m. tt))

item_good : (at : ℕ) (items : Items) (ps : List Parent) (b : ℕ) → At (after_item items) (length ps) → Around ps → Good (item_byte at items ps b)
unfolding item_byte
item_good at items ps b h a =
    by_if Good (is_blank b) _ _ (λ y. (h, a)) (λ n.
    by_if Good (b == 44) _ _ (λ y. (tt, (h.0, h.1, a))) (λ n₂.
    by_if Good (b == 93) _ _ (λ y. put_good (list items) ps h a) (λ m. tt)))

member_good : (at : ℕ) (ms : Members) (ps : List Parent) (b : ℕ) → At (after_member ms) (length ps) → Around ps → Good (member_byte at ms ps b)
unfolding member_byte
member_good at ms ps b h a =
    by_if Good (is_blank b) _ _ (λ y. (h, a)) (λ n.
    by_if Good (b == 44) _ _ (λ y. (h, a)) (λ n₂.
    by_if Good (b == 125) _ _ (λ y. put_good (object ms) ps h a) (λ m. tt)))

end_good : (at : ℕ) (v : Tree) (ps : List Parent) (b : ℕ) → IsReadable v 0 → Around ps → Good (end_byte at v ps b)
unfolding end_byte
end_good at v ps b h a = by_if Good (is_blank b) _ _ (λ y. (h, a)) (λ n. tt)

after_good : (at : ℕ) (v : Tree) (ps : List Parent) (b : ℕ) → IsReadable v (length ps) → Around ps → Good (after_number at v ps b)
unfolding after_number
after_good at v [] b h a = end_good at v [] b h tt
after_good at v (in_list items ∷ ps) b h a = item_good at (item_after items v) ps b (a.0, (a.1, h)) a.2
after_good at v (in_object ms name ∷ ps) b h a = member_good at (member_after ms name v) ps b (a.0, (a.1, a.2, h)) a.3

letters_good : (cs : List ℕ) (v : Tree) (ps : List Parent) → IsReadable v (length ps) → Around ps → Good (letters_left cs v ps)
letters_good [] v ps h a = put_good v ps h a
letters_good (c ∷ cs) v ps h a = (h, a)

word_good : (at c : ℕ) (cs : List ℕ) (v : Tree) (ps : List Parent) (b : ℕ) → IsReadable v (length ps) → Around ps → Good (word_byte at c cs v ps b)
unfolding word_byte
word_good at c cs v ps b h a = by_if Good (b == c) _ _ (λ y. letters_good cs v ps h a) (λ n. tt)

digit_good : (at start : ℕ) (q : Part) (t : List ℕ) (ps : List Parent) (b : ℕ) (n : NumberByte) → number_byte q b ≡ n → IsPart q t → Around ps
    → Good (digit_byte at n start t ps b)
unfolding digit_byte
digit_good at start q t ps b (digit.Inside r) is h a = (tt, a)
digit_good at start q t ps b digit.After is h a = after_good at (number t) ps b (subst (PartGoes t b) is (part_goes q t b h)) a
digit_good at start q t ps b digit.Exponent is h a = tt
digit_good at start q t ps b digit.Wrong is h a = tt

string_good : (at : ℕ) (ps : List Parent) (n : QuotedNext) → Around ps → Good (string_goes at n ps)
unfolding string_goes
string_good at ps (next.Continues q) a = (tt, a)
string_good at ps (next.Closed s) a = put_good (string s) ps tt a
string_good at ps next.Wrong a = tt

name_good : (at start : ℕ) (ms : Members) (ps : List Parent) (n : QuotedNext) → At (at_name ms) (length ps) → Around ps → Good (name_goes at ms start n ps)
unfolding name_goes named
name_good at start ms ps (next.Continues q) h a = (h, a)
name_good at start ms ps (next.Closed s) h a = by_if Good (is_named s ms) _ _ (λ y. tt) (λ n. (tt, (h.0, h.1, n, a)))
name_good at start ms ps next.Wrong h a = tt

step_good : (at : ℕ) (stage : Stage) (ps : List Parent) (p : List ℕ) (b : ℕ) → Holds stage ps p → At stage (length ps) → Around ps → Good (step_at at stage ps b)
step_good at at_top ps p b k h a = top_good at ps b a
step_good at at_first_value ps p b k h a = first_value_good at ps b h a
step_good at at_value ps p b k h a = next_value_good at ps b a
step_good at at_first_name ps p b k h a = first_name_good at ps b h a
step_good at (at_name ms) ps p b k h a = next_name_good at ms ps b h a
step_good at at_colon ps p b k h a = colon_good at ps b a
step_good at (after_item items) ps p b k h a = item_good at items ps b h a
step_good at (after_member ms) ps p b k h a = member_good at ms ps b h a
step_good at (in_word c cs v) ps p b k h a = word_good at c cs v ps b h a
step_good at (in_number q start t) ps p b k h a = digit_good at start q t ps b (number_byte q b) refl k.3 a
step_good at (in_string q) ps p b k h a = string_good at ps (quoted_next q b) a
step_good at (in_name ms start q) ps p b k h a = name_good at start ms ps (quoted_next q b) h a
step_good at (at_end v) ps p b k h a = end_good at v ps b h a

then_good : (at : ℕ) (p bs : List ℕ) (b : ℕ) (r : Result State JsonFault) → Kept at (p ++ b ∷ []) r → Good r
    → ((t : State) → Holds t.stage t.parents (p ++ b ∷ []) → Good (Ok t) → Good (run (at + 1) t bs)) → Good (r >>= λ t. run (at + 1) t bs)
then_good at p bs b (Ok t) k g f = f t k g
then_good at p bs b (Err e) k g f = tt

run_good : (at : ℕ) (s : State) (p bs : List ℕ) → at ≡ length p → Holds s.stage s.parents p → Good (Ok s) → Good (run at s bs)
run_good at s p [] here k g = g
run_good at s p (b ∷ bs) here k g =
    then_good at p bs b (step at s b) (step_kept at s.stage s.parents p b here k) (step_good at s.stage s.parents p b k g.0 g.1)
    (λ t l m. run_good (at + 1) t (p ++ b ∷ []) bs (next_place at p b here) l m)

end_readable : (n : ℕ) (v : Tree) (r : Result State JsonFault) → Good r → (r >>= λ s. ended n s.stage) ≡ Ok v → IsReadable v 0
end_readable n v (Ok s) g e = stage_readable s.stage (length s.parents) g.0 e
  where
    stage_readable : (stage : Stage) (m : ℕ) → At stage m → ended n stage ≡ Ok v → IsReadable v 0
    stage_readable (at_end w) m h e = let f : w ≡ v = cc in subst (λ (x : Tree). IsReadable x 0) f h
    stage_readable stage m h e = let f : ⊥ = cc in absurd f
end_readable n v (Err f) g e = let h : ⊥ = cc in absurd h

-- What is read is readable.
pub read_is_readable : (bytes : List ℕ) (v : Tree) → reading bytes ≡ Ok v → IsReadable v 0
unfolding reading
read_is_readable bytes v =
    by_if (λ (r : Result Tree JsonFault). r ≡ Ok v → IsReadable v 0) (nat_lt most_bytes (length bytes)) _ _
    (λ y e. let g : ⊥ = cc in absurd g)
    (λ n e. end_readable (length bytes) v (run 0 at_start bytes) (run_good 0 at_start [] bytes refl tt (tt, tt)) e)

-- Each readable text is read.
no_other : (r : Result State JsonFault) → IsOther ⊥ r → ⊥
no_other (Ok s) o = o
no_other (Err (fault.Syntax k)) o = o
no_other (Err (fault.RepeatedKey k)) o = o
no_other (Err (fault.TooDeep k)) o = o
no_other (Err (fault.Number k)) o = o
no_other (Err fault.TooLong) o = o
no_other (Err fault.NoMemory) o = o

whole_run : (v : Tree) (n : ℕ) (r : Result State JsonFault) → (r ≡ Ok (at_stage (at_end v) [])) ⊎ IsOther ⊥ r → (r >>= λ s. ended n s.stage) ≡ Ok v
whole_run v n r (inl h) = ap (λ (x : Result State JsonFault). x >>= λ s. ended n s.stage) h
whole_run v n r (inr o) = absurd (no_other r o)

pub readable_is_read : (bytes : List ℕ) (v : Tree) → IsText v bytes → IsReadable v 0 → length bytes ≤ 65536 → reading bytes ≡ Ok v
unfolding reading
readable_is_read bytes v is h few =
    by_if (λ (r : Result Tree JsonFault). r ≡ Ok v) (nat_lt most_bytes (length bytes)) _ _
    (λ y. absurd (grind (arith, nat_tests)))
    (λ n. whole_run v (length bytes) (run 0 at_start bytes) (text_reach ⊥ v bytes is (λ r. r h)))
