-- The script of a load's server is one by which a scripted server can answer.
use Rattle.std.proofs.Common.{◌≡◌, ℕ, zero, suc, ◌+◌, ◌≤◌, ◌<◌, ◌==◌, Bool, true, false, if◌then◌else◌, List, [], ◌∷◌, ◌++◌, length, map, take, get_or, All, refl, sym, ap, ◌∙◌, lit≤, arith}
use Rattle.std.proofs.lemmas.List.Elements.{All-append, All-cons, All-from_recursion, All-map, All-nil}
use Rattle.std.proofs.lemmas.List.Sums.{AllPass-from_list_all, count_by_more_yes}
use Rattle.std.specs.List.{AllPass, after_first, range_with_len}
use Rattle.std.specs.Str.{bytes_eq}
use Rattle.grpc_base.specs.declared.script.AnswerLine.{AnswerLine}
use Rattle.grpc_base.specs.declared.script.AnswerPart.{AnswerPart}
use Rattle.grpc_base.specs.declared.script.AnswerPart.TheVariants as part
use Rattle.grpc_base.specs.Backoff.{draw, nth_word}
use Rattle.grpc_base.specs.Requests.{IsPath, names_of_path}
use Rattle.grpc_base.specs.Scripts.{AnswersAreNumbered, IsAnswer, IsAnswerPart, IsServerScript, count_of, ends_stream, is_goaway}
use Rattle.grpc_base.proofs.PathLaws.{path_reported}
use Rattle.load_plan.specs.Answers.{answer, drawn_answer, drawn_parts, good_parts, load_path, server_script}

pub load_path_is : IsPath load_path
load_path_is = (path_reported (λ n. n) (names_of_path load_path) load_path true refl refl).0 refl

-- the parts of an answer keep their rules
record AreParts (parts : List AnswerPart) : Type 0 where
  not_empty : 1 ≤ length parts
  parts_are : All IsAnswerPart parts
  ends_once : AllPass is_goaway (after_first ends_stream parts)

good_are : AreParts good_parts
good_are = record {
  not_empty = lit≤ tt;
  parts_are = All-from_recursion IsAnswerPart good_parts (tt, (lit≤ tt, (tt, tt)));
  ends_once = AllPass-from_list_all is_goaway (after_first ends_stream good_parts) refl;
}

unavailable_are : AreParts (part.Status 14 ∷ [])
unavailable_are = record {
  not_empty = lit≤ tt;
  parts_are = All-from_recursion IsAnswerPart (part.Status 14 ∷ []) (tt, tt);
  ends_once = AllPass-from_list_all is_goaway (after_first ends_stream (part.Status 14 ∷ [])) refl;
}

reset_are : AreParts (part.Reset 7 ∷ [])
reset_are = record {
  not_empty = lit≤ tt;
  parts_are = All-from_recursion IsAnswerPart (part.Reset 7 ∷ []) (tt, tt);
  ends_once = AllPass-from_list_all is_goaway (after_first ends_stream (part.Reset 7 ∷ [])) refl;
}

by_case : (p q : Bool) → AreParts (if p then part.Status 14 ∷ [] else if q then part.Reset 7 ∷ [] else good_parts)
by_case true q = unavailable_are
by_case false true = reset_are
by_case false false = good_are

drawn_are : (number : ℕ) → AreParts (drawn_parts number)
drawn_are number = by_case (number == 0) (number == 1)

answer_is : (n : ℕ) (parts : List AnswerPart) → AreParts parts → IsAnswer (answer n parts)
answer_is n parts are = record { path_is = load_path_is; not_empty = are.not_empty; parts_are = are.parts_are; ends_once = are.ends_once }

drawn_is : (seed n : ℕ) → IsAnswer (drawn_answer seed n)
drawn_is seed n = answer_is n _ (drawn_are (draw (nth_word seed n) 3))

-- answers of the load's path, with numbers from k on
abbrev Counts : ℕ → List AnswerLine → Type 0
Counts k [] = Unit {0}
Counts k (a ∷ rest) = (a.path ≡ load_path) × (a.n ≡ k) × Counts (k + 1) rest

drawn_count : (seed k n j : ℕ) → k + n ≡ j → Counts k (map (drawn_answer seed) (range_with_len k n) ++ answer j good_parts ∷ [])
drawn_count seed k zero j e =
    let last : j ≡ k = omega (arith, e) in
    (refl, last, tt)
drawn_count seed k (suc n) j e =
    let afterwards : k + 1 + n ≡ j = omega (arith, e) in
    (refl, refl, drawn_count seed (k + 1) n j afterwards)

number_at : (k i : ℕ) (xs : List AnswerLine) (d : AnswerLine) → Counts k xs → i < length xs → ((get_or xs i d).path ≡ load_path) × ((get_or xs i d).n ≡ k + i)
number_at k i [] d counts within = absurd (omega (arith, within))
number_at k zero (a ∷ rest) d counts within =
    let here : k ≡ k + 0 = omega arith in
    (counts.0, counts.1 ∙ here)
number_at k (suc i) (a ∷ rest) d counts within =
    let shorter : i < length rest = omega (arith, within) in
    let later : ((get_or rest i d).path ≡ load_path) × ((get_or rest i d).n ≡ k + 1 + i) = number_at (k + 1) i rest d counts.2 shorter in
    let place : k + 1 + i ≡ k + suc i = omega arith in
    (later.0, later.1 ∙ place)

counted_before : (i : ℕ) (xs : List AnswerLine) (d : AnswerLine) → Counts 1 xs → i ≤ length xs → count_of load_path (take i xs) ≡ i
counted_before zero xs d counts within = refl
counted_before (suc i) xs d counts within =
    let shorter : i < length xs = omega (arith, within) in
    let before : i ≤ length xs = omega (arith, within) in
    let one : suc i ≡ i + 1 = omega arith in
    let same : bytes_eq (get_or xs i d).path load_path ≡ true = ap (λ path. bytes_eq path load_path) (number_at 1 i xs d counts shorter).0 in
    ap (λ n. count_of load_path (take n xs)) one
    ∙ count_by_more_yes (λ (a : AnswerLine). bytes_eq a.path load_path) xs i d shorter same
    ∙ ap (λ n. n + 1) (counted_before i xs d counts before)
    ∙ sym one

numbered : (xs : List AnswerLine) → Counts 1 xs → AnswersAreNumbered xs
numbered xs counts i d within =
    let at : ((get_or xs i d).path ≡ load_path) × ((get_or xs i d).n ≡ 1 + i) = number_at 1 i xs d counts within in
    let before : count_of (get_or xs i d).path (take i xs) ≡ i = ap (λ path. count_of path (take i xs)) at.0 ∙ counted_before i xs d counts (let early : i ≤ length xs = omega (arith, within) in early) in
    omega (arith, at.1, before)

pub script_is : (seed calls : ℕ) → IsServerScript (server_script seed calls)
script_is seed calls = record {
  answers_are = All-append IsAnswer _ _ (All-map IsAnswer (drawn_answer seed) (range_with_len 1 calls) (λ k d h. drawn_is seed _)) (All-cons IsAnswer (answer (calls + 1) good_parts) [] (answer_is (calls + 1) good_parts good_are) (All-nil IsAnswer));
  numbered = numbered _ (let last : 1 + calls ≡ calls + 1 = omega arith in drawn_count seed 1 calls (calls + 1) last);
}
