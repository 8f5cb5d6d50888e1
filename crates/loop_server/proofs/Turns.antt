-- Which answer each request of a path gets.
use Rattle.std.proofs.Common.{◌≡◌, ◌≢◌, ℕ, zero, suc, ◌<◌, ◌≤◌, ◌+◌, ◌-◌, Bool, true, false, List, [], ◌∷◌, ◌++◌, length, drop, refl, sym, ◌∙◌, ap, ap₂, subst, Some, None, arith, add-one, length-append, append-nil}
use Rattle.std.specs.Prelude.{Option, option_map, unwrap_or, min, filter, slice_get, slice_set, if◌then◌else◌}
use Rattle.std.specs.Str.{bytes_eq}
use Rattle.std.proofs.lemmas.Slice.Eq.{bytes_eq-Decides}
use Rattle.std.proofs.lemmas.List.{drop-drop}
use Rattle.std.proofs.lemmas.List.Elements.{filter-append}
use Rattle.grpc_base.specs.declared.script.AnswerLine.{AnswerLine}
use Rattle.grpc_base.specs.declared.script.AnswerPart.{AnswerPart}
use Rattle.grpc_base.specs.declared.script.ServerScript.{ServerScript}
use Rattle.loop_server.specs.declared.answers.Cursor.{Cursor}
use Rattle.loop_server.specs.Laws.{book_after, count_of, new_book, next_parts}
use Rattle.loop_server.specs.Script.{all_lines, answer_of, is_of, parts_at, parts_of, unanswered}
use Rattle.loop_server.specs.Server.{Book}
use Rattle.loop_server.specs.Steps.{chosen, chosen_by, chosen_first, chosen_next, cursor_from, next_from}

same : (a b : List ℕ) → bytes_eq a b ≡ true → a ≡ b
same a b e = (bytes_eq-Decides a b).0 e

own : (a : List ℕ) → bytes_eq a a ≡ true
own a = (bytes_eq-Decides a a).1 refl

-- where the cursor of a path stands
abbrev look : List ℕ → List Cursor → Option ℕ
look path [] = None
look path (c ∷ cs) = if bytes_eq c.path path then Some c.place else look path cs

found_by : (path : List ℕ) (at : ℕ) (c : Cursor) (cs : List Cursor) (x : ℕ × ℕ) (b : Bool) → (cursor_from path (at + 1) cs ≡ Some x → look path cs ≡ Some x.1) → (if b then Some (at, c.place) else cursor_from path (at + 1) cs) ≡ Some x → (if b then Some c.place else look path cs) ≡ Some x.1
found_by path at c cs x true h e = cc
found_by path at c cs x false h e = h e

found : (path : List ℕ) (at : ℕ) (cs : List Cursor) (x : ℕ × ℕ) → cursor_from path at cs ≡ Some x → look path cs ≡ Some x.1
found path at [] x e = absurd (cc)
found path at (c ∷ cs) x e = found_by path at c cs x (bytes_eq c.path path) (λ k. found path (at + 1) cs x k) e

missing_by : (path : List ℕ) (at : ℕ) (c : Cursor) (cs : List Cursor) (b : Bool) → (cursor_from path (at + 1) cs ≡ None → look path cs ≡ None) → (if b then Some (at, c.place) else cursor_from path (at + 1) cs) ≡ None → (if b then Some c.place else look path cs) ≡ None
missing_by path at c cs true h e = absurd (cc)
missing_by path at c cs false h e = h e

missing : (path : List ℕ) (at : ℕ) (cs : List Cursor) → cursor_from path at cs ≡ None → look path cs ≡ None
missing path at [] e = refl
missing path at (c ∷ cs) e = missing_by path at c cs (bytes_eq c.path path) (λ k. missing path (at + 1) cs k) e

-- a cursor more
pushed_own_by : (path : List ℕ) (c d : Cursor) (cs : List Cursor) (b : Bool) → (look path cs ≡ None → look path (cs ++ d ∷ []) ≡ Some d.place) → (if b then Some c.place else look path cs) ≡ None → (if b then Some c.place else look path (cs ++ d ∷ [])) ≡ Some d.place
pushed_own_by path c d cs true h e = absurd (cc)
pushed_own_by path c d cs false h e = h e

pushed_own : (path : List ℕ) (d : Cursor) (cs : List Cursor) → d.path ≡ path → look path cs ≡ None → look path (cs ++ d ∷ []) ≡ Some d.place
pushed_own path d [] p e = let t : bytes_eq d.path path ≡ true = (bytes_eq-Decides d.path path).1 p in rw t refl
pushed_own path d (c ∷ cs) p e = pushed_own_by path c d cs (bytes_eq c.path path) (λ k. pushed_own path d cs p k) e

pushed_other_by : (path : List ℕ) (c d : Cursor) (cs : List Cursor) (b : Bool) → look path (cs ++ d ∷ []) ≡ look path cs → (if b then Some c.place else look path (cs ++ d ∷ [])) ≡ (if b then Some c.place else look path cs)
pushed_other_by path c d cs true h = refl
pushed_other_by path c d cs false h = h

pushed_other : (path : List ℕ) (d : Cursor) (cs : List Cursor) → bytes_eq d.path path ≡ false → look path (cs ++ d ∷ []) ≡ look path cs
pushed_other path d [] p = rw p refl
pushed_other path d (c ∷ cs) p = pushed_other_by path c d cs (bytes_eq c.path path) (pushed_other path d cs p)

-- a cursor that moves
set_own_by : (path : List ℕ) (start place : ℕ) (c : Cursor) (cs : List Cursor) (x : ℕ × ℕ) (b : Bool) → bytes_eq c.path path ≡ b → start ≤ x.0 → (cursor_from path (start + 1) cs ≡ Some x → (start + 1 ≤ x.0) × (look path (slice_set cs (x.0 - (start + 1)) (record { path = path; place = place })) ≡ Some place)) → (if b then Some (start, c.place) else cursor_from path (start + 1) cs) ≡ Some x → look path (slice_set (c ∷ cs) (x.0 - start) (record { path = path; place = place })) ≡ Some place
set_own_by path start place c cs x true t le h e =
    let at : start ≡ x.0 = cc in
    let none : x.0 - start ≡ 0 = omega (arith, at) in
    let o = own path in
    rw none (rw o refl)
set_own_by path start place c cs x false t le h e =
    let k = h e in
    let low = k.0 in
    let next : x.0 - start ≡ suc (x.0 - (start + 1)) = omega (arith, low) in
    rw next (rw t (k.1))

from_by : (path : List ℕ) (start : ℕ) (c : Cursor) (cs : List Cursor) (x : ℕ × ℕ) (b : Bool) → (cursor_from path (start + 1) cs ≡ Some x → start + 1 ≤ x.0) → (if b then Some (start, c.place) else cursor_from path (start + 1) cs) ≡ Some x → start ≤ x.0
from_by path start c cs x true h e = let at : start ≡ x.0 = cc in omega (arith, at)
from_by path start c cs x false h e = let low = h e in omega (arith, low)

from : (path : List ℕ) (start : ℕ) (cs : List Cursor) (x : ℕ × ℕ) → cursor_from path start cs ≡ Some x → start ≤ x.0
from path start [] x e = absurd (cc)
from path start (c ∷ cs) x e = from_by path start c cs x (bytes_eq c.path path) (λ k. from path (start + 1) cs x k) e

set_own : (path : List ℕ) (start place : ℕ) (cs : List Cursor) (x : ℕ × ℕ) → cursor_from path start cs ≡ Some x → look path (slice_set cs (x.0 - start) (record { path = path; place = place })) ≡ Some place
set_own path start place [] x e = absurd (cc)
set_own path start place (c ∷ cs) x e =
    set_own_by path start place c cs x (bytes_eq c.path path) refl (from path start (c ∷ cs) x e)
    (λ k. (from path (start + 1) cs x k, set_own path (start + 1) place cs x k)) e

set_other_by : (path other : List ℕ) (start place : ℕ) (c : Cursor) (cs : List Cursor) (x : ℕ × ℕ) (b : Bool) → bytes_eq c.path path ≡ b → bytes_eq path other ≡ false → (cursor_from path (start + 1) cs ≡ Some x → (start + 1 ≤ x.0) × (look other (slice_set cs (x.0 - (start + 1)) (record { path = path; place = place })) ≡ look other cs)) → (if b then Some (start, c.place) else cursor_from path (start + 1) cs) ≡ Some x → look other (slice_set (c ∷ cs) (x.0 - start) (record { path = path; place = place })) ≡ look other (c ∷ cs)
set_other_by path other start place c cs x true t n h e =
    let at : start ≡ x.0 = cc in
    let none : x.0 - start ≡ 0 = omega (arith, at) in
    let same_path : c.path ≡ path = same c.path path t in
    let n2 : bytes_eq c.path other ≡ false = ap (λ p. bytes_eq p other) same_path ∙ n in
    rw none (rw n (rw n2 refl))
set_other_by path other start place c cs x false t n h e =
    let k = h e in
    let low = k.0 in
    let next : x.0 - start ≡ suc (x.0 - (start + 1)) = omega (arith, low) in
    rw next (ap (λ (o : Option ℕ). if bytes_eq c.path other then Some c.place else o) k.1)

set_other : (path other : List ℕ) (start place : ℕ) (cs : List Cursor) (x : ℕ × ℕ) → bytes_eq path other ≡ false → cursor_from path start cs ≡ Some x → look other (slice_set cs (x.0 - start) (record { path = path; place = place })) ≡ look other cs
set_other path other start place [] x n e = absurd (cc)
set_other path other start place (c ∷ cs) x n e =
    set_other_by path other start place c cs x (bytes_eq c.path path) refl n
    (λ k. (from path (start + 1) cs x k, set_other path other (start + 1) place cs x n k)) e

-- where a cursor stands after one request more
abbrev or_last : ℕ → Option ℕ → ℕ
or_last old None = old
or_last old (Some place) = place

abbrev step : List AnswerLine → List ℕ → Option ℕ → Option ℕ
step lines path None = next_from path 0 lines
step lines path (Some old) = Some (or_last old (next_from path (old + 1) (drop (old + 1) lines)))

pub record IsChosenAs (b : Book) (path : List ℕ) (c : Book) (place : ℕ) (stood : Option ℕ) : Type 0 where
  pub lines : c.lines ≡ b.lines
  pub own_is : look path c.cursors ≡ step b.lines path stood
  pub place_is : place ≡ unwrap_or (step b.lines path stood) (length b.lines - 1)
  pub others : (other : List ℕ) → bytes_eq path other ≡ false → look other c.cursors ≡ look other b.cursors

first_as : (b : Book) (path : List ℕ) (o : Option ℕ) → next_from path 0 b.lines ≡ o → look path b.cursors ≡ None → IsChosenAs b path (chosen_first b path o).book (chosen_first b path o).place None
first_as b path None e n = record {
  lines = refl;
  own_is = n ∙ sym e;
  place_is = ap (λ (v : Option ℕ). unwrap_or v (length b.lines - 1)) (sym e);
  others = λ other d. refl;
}
first_as b path (Some place) e n = record {
  lines = refl;
  own_is = pushed_own path (record { path = path; place = place }) b.cursors refl n ∙ sym e;
  place_is = ap (λ (v : Option ℕ). unwrap_or v (length b.lines - 1)) (sym e);
  others = λ other d. pushed_other other (record { path = path; place = place }) b.cursors d;
}

next_as : (b : Book) (path : List ℕ) (x : ℕ × ℕ) (o : Option ℕ) → next_from path (x.1 + 1) (drop (x.1 + 1) b.lines) ≡ o → cursor_from path 0 b.cursors ≡ Some x → IsChosenAs b path (chosen_next b path x.0 x.1 o).book (chosen_next b path x.0 x.1 o).place (Some x.1)
next_as b path x None e f = record {
  lines = refl;
  own_is = found path 0 b.cursors x f ∙ ap (λ (v : Option ℕ). Some (or_last x.1 v)) (sym e);
  place_is = ap (or_last x.1) (sym e);
  others = λ other d. refl;
}
next_as b path x (Some place) e f =
    let at : x.0 - 0 ≡ x.0 = omega arith in record {
      lines = refl;
      own_is = ap (λ (i : ℕ). look path (slice_set b.cursors i (record { path = path; place = place }))) (sym at) ∙ (set_own path 0 place b.cursors x f ∙ ap (λ (v : Option ℕ). Some (or_last x.1 v)) (sym e));
      place_is = ap (or_last x.1) (sym e);
      others = λ other d. ap (λ (i : ℕ). look other (slice_set b.cursors i (record { path = path; place = place }))) (sym at) ∙ set_other path other 0 place b.cursors x d f;
    }

chosen_as : (b : Book) (path : List ℕ) (o : Option (ℕ × ℕ)) → cursor_from path 0 b.cursors ≡ o → IsChosenAs b path (chosen_by b path o).book (chosen_by b path o).place (option_map (λ (x : ℕ × ℕ). x.1) o)
chosen_as b path None e = first_as b path (next_from path 0 b.lines) refl (missing path 0 b.cursors e)
chosen_as b path (Some x) e = next_as b path x (next_from path (x.1 + 1) (drop (x.1 + 1) b.lines)) refl e

stood_as : (b : Book) (path : List ℕ) (o : Option (ℕ × ℕ)) → cursor_from path 0 b.cursors ≡ o → option_map (λ (x : ℕ × ℕ). x.1) o ≡ look path b.cursors
stood_as b path None e = sym (missing path 0 b.cursors e)
stood_as b path (Some x) e = sym (found path 0 b.cursors x e)

is_chosen : (b : Book) (path : List ℕ) → IsChosenAs b path (chosen b path).book (chosen b path).place (look path b.cursors)
is_chosen b path =
    subst (λ (o : Option ℕ). IsChosenAs b path (chosen b path).book (chosen b path).place o)
    (stood_as b path (cursor_from path 0 b.cursors) refl)
    (chosen_as b path (cursor_from path 0 b.cursors) refl)

-- after many requests
abbrev steps : List AnswerLine → List ℕ → ℕ → Option ℕ → Option ℕ
steps lines path zero o = o
steps lines path (suc n) o = steps lines path n (step lines path o)

stands_by : (b : Book) (p path : List ℕ) (paths : List (List ℕ)) (t : Bool) → bytes_eq p path ≡ t → look path (book_after (chosen b p).book paths).cursors ≡ steps b.lines path (count_of path paths) (look path (chosen b p).book.cursors) → look path (book_after (chosen b p).book paths).cursors ≡ steps b.lines path (if t then count_of path paths + 1 else count_of path paths) (look path b.cursors)
stands_by b p path paths true t h =
    let one = is_chosen b p in
    let same_path : p ≡ path = same p path t in
    let own_is : look path (chosen b p).book.cursors ≡ step b.lines path (look path b.cursors) = subst (λ (q : List ℕ). look q (chosen b p).book.cursors ≡ step b.lines q (look q b.cursors)) same_path one.own_is in
    h ∙ (ap (steps b.lines path (count_of path paths)) own_is ∙ ap (λ (n : ℕ). steps b.lines path n (look path b.cursors)) (sym (add-one (count_of path paths))))
stands_by b p path paths false t h =
    let one = is_chosen b p in h ∙ ap (steps b.lines path (count_of path paths)) (one.others path t)

pub record Stands (b : Book) (path : List ℕ) (paths : List (List ℕ)) : Type 0 where
  pub lines : (book_after b paths).lines ≡ b.lines
  pub place : look path (book_after b paths).cursors ≡ steps b.lines path (count_of path paths) (look path b.cursors)

stands : (path : List ℕ) (paths : List (List ℕ)) (b : Book) → Stands b path paths
stands path [] b = record { lines = refl; place = refl }
stands path (p ∷ paths) b =
    let one = is_chosen b p in
    let rest = stands path paths (chosen b p).book in
    let place : look path (book_after (chosen b p).book paths).cursors ≡ steps b.lines path (count_of path paths) (look path (chosen b p).book.cursors) =
    rest.place ∙ ap (λ (l : List AnswerLine). steps l path (count_of path paths) (look path (chosen b p).book.cursors)) one.lines in
    record {
      lines = rest.lines ∙ one.lines;
      place = stands_by b p path paths (bytes_eq p path) refl place;
    }

-- the answers of a path among the lines
cut_by : (path : List ℕ) (a : AnswerLine) (lines : List AnswerLine) (b : Bool) → is_of path a ≡ b → filter (is_of path) (a ∷ lines) ≡ (if b then a ∷ filter (is_of path) lines else filter (is_of path) lines)
cut_by path a lines b e = rw e refl

-- the first of them from a place on
pub record IsNext (path : List ℕ) (start : ℕ) (lines : List AnswerLine) (i : ℕ) : Type 0 where
  pub from_start : start ≤ i
  pub line : AnswerLine
  pub rest : List AnswerLine
  pub cut : drop (i - start) lines ≡ line ∷ rest
  pub kept : filter (is_of path) lines ≡ line ∷ filter (is_of path) rest

next_by : (path : List ℕ) (start : ℕ) (a : AnswerLine) (lines : List AnswerLine) (i : ℕ) (b : Bool) → is_of path a ≡ b → (next_from path (start + 1) lines ≡ Some i → IsNext path (start + 1) lines i) → (if b then Some start else next_from path (start + 1) lines) ≡ Some i → IsNext path start (a ∷ lines) i
next_by path start a lines i true t h e =
    let at : start ≡ i = cc in
    let none : i - start ≡ 0 = omega (arith, at) in record {
      from_start = omega (arith, at);
      line = a;
      rest = lines;
      cut = ap (λ (n : ℕ). drop n (a ∷ lines)) none;
      kept = cut_by path a lines true t;
    }
next_by path start a lines i false t h e =
    let n = h e in
    let low = n.from_start in
    let next : i - start ≡ suc (i - (start + 1)) = omega (arith, low) in record {
      from_start = omega (arith, low);
      line = n.line;
      rest = n.rest;
      cut = ap (λ (k : ℕ). drop k (a ∷ lines)) next ∙ n.cut;
      kept = cut_by path a lines false t ∙ n.kept;
    }

is_next : (path : List ℕ) (start : ℕ) (lines : List AnswerLine) (i : ℕ) → next_from path start lines ≡ Some i → IsNext path start lines i
is_next path start [] i e = absurd (cc)
is_next path start (a ∷ lines) i e = next_by path start a lines i (is_of path a) refl (λ k. is_next path (start + 1) lines i k) e

no_next_by : (path : List ℕ) (start : ℕ) (a : AnswerLine) (lines : List AnswerLine) (b : Bool) → is_of path a ≡ b → (next_from path (start + 1) lines ≡ None → filter (is_of path) lines ≡ []) → (if b then Some start else next_from path (start + 1) lines) ≡ None → filter (is_of path) (a ∷ lines) ≡ []
no_next_by path start a lines true t h e = absurd (cc)
no_next_by path start a lines false t h e = cut_by path a lines false t ∙ h e

no_next : (path : List ℕ) (start : ℕ) (lines : List AnswerLine) → next_from path start lines ≡ None → filter (is_of path) lines ≡ []
no_next path start [] e = refl
no_next path start (a ∷ lines) e = no_next_by path start a lines (is_of path a) refl (λ k. no_next path (start + 1) lines k) e

-- a place, and which of them stands there
pub record HasRank (path : List ℕ) (lines : List AnswerLine) (i r : ℕ) : Type 0 where
  pub line : AnswerLine
  pub rest : List AnswerLine
  pub cut : drop i lines ≡ line ∷ rest
  pub kept : drop r (filter (is_of path) lines) ≡ line ∷ filter (is_of path) rest

afterwards : {A : Type 0} (i : ℕ) (xs : List A) (x : A) (rest : List A) → drop i xs ≡ x ∷ rest → drop (i + 1) xs ≡ rest
afterwards i xs x rest e = sym (drop-drop 1 i xs) ∙ ap (drop 1) e

there : {A : Type 0} (i : ℕ) (xs : List A) (x : A) (rest : List A) → drop i xs ≡ x ∷ rest → slice_get xs i ≡ Some x
there zero (y ∷ xs) x rest e = cc
there zero [] x rest e = absurd (cc)
there (suc i) [] x rest e = absurd (cc)
there (suc i) (y ∷ xs) x rest e = there i xs x rest e

-- the first one has rank 0, and each next one the next rank
first_rank : (path : List ℕ) (lines : List AnswerLine) (i : ℕ) → next_from path 0 lines ≡ Some i → HasRank path lines i 0
first_rank path lines i e =
    let n = is_next path 0 lines i e in
    let at : i - 0 ≡ i = omega arith in
    record { line = n.line; rest = n.rest; cut = sym (ap (λ (k : ℕ). drop k lines) at) ∙ n.cut; kept = n.kept }

next_rank : (path : List ℕ) (lines : List AnswerLine) (i j r : ℕ) → HasRank path lines i r → next_from path (i + 1) (drop (i + 1) lines) ≡ Some j → HasRank path lines j (r + 1)
next_rank path lines i j r h e =
    let rest_is : drop (i + 1) lines ≡ h.rest = afterwards i lines h.line h.rest h.cut in
    let n = is_next path (i + 1) h.rest j (sym (ap (next_from path (i + 1)) rest_is) ∙ e) in
    let low = n.from_start in
    let sum : (i + 1) + (j - (i + 1)) ≡ j = omega (arith, low) in
    let kept_rest : drop (r + 1) (filter (is_of path) lines) ≡ filter (is_of path) h.rest = afterwards r (filter (is_of path) lines) h.line (filter (is_of path) h.rest) h.kept in
    record {
      line = n.line;
      rest = n.rest;
      cut = sym (ap (λ (k : ℕ). drop k lines) sum) ∙ (sym (drop-drop (j - (i + 1)) (i + 1) lines) ∙ (ap (drop (j - (i + 1))) rest_is ∙ n.cut));
      kept = kept_rest ∙ n.kept;
    }

cut_size : {A : Type 0} (r : ℕ) (xs : List A) (x : A) (rest : List A) → drop r xs ≡ x ∷ rest → length xs ≡ r + 1 + length rest
cut_size zero (y ∷ xs) x rest e = let k : length (y ∷ xs) ≡ length (x ∷ rest) = ap length e in omega (arith, k)
cut_size zero [] x rest e = absurd (cc)
cut_size (suc r) [] x rest e = absurd (cc)
cut_size (suc r) (y ∷ xs) x rest e = let k = cut_size r xs x rest e in omega (arith, k)

last_size : (path : List ℕ) (lines : List AnswerLine) (i r : ℕ) → HasRank path lines i r → next_from path (i + 1) (drop (i + 1) lines) ≡ None → length (filter (is_of path) lines) ≡ r + 1
last_size path lines i r h e =
    let rest_is : drop (i + 1) lines ≡ h.rest = afterwards i lines h.line h.rest h.cut in
    let none : filter (is_of path) h.rest ≡ [] = no_next path (i + 1) h.rest (sym (ap (next_from path (i + 1)) rest_is) ∙ e) in
    let size = cut_size r (filter (is_of path) lines) h.line (filter (is_of path) h.rest) h.kept in
    omega (arith, size, ap length none)

-- after n + 1 requests: none where the path has no answer, or the answer of rank n, or the last one
abbrev Standing : List ℕ → List AnswerLine → ℕ → Option ℕ → Type 0
Standing path lines n None = filter (is_of path) lines ≡ []
Standing path lines n (Some i) = HasRank path lines i (min n (length (filter (is_of path) lines) - 1))

steps_last : (lines : List AnswerLine) (path : List ℕ) (n : ℕ) (o : Option ℕ) → steps lines path (suc n) o ≡ step lines path (steps lines path n o)
steps_last lines path zero o = refl
steps_last lines path (suc n) o = steps_last lines path n (step lines path o)

first_standing : (path : List ℕ) (lines : List AnswerLine) (o : Option ℕ) → next_from path 0 lines ≡ o → Standing path lines 0 o
first_standing path lines None e = no_next path 0 lines e
first_standing path lines (Some i) e =
    let rank = first_rank path lines i e in
    let none : 0 ≡ min 0 (length (filter (is_of path) lines) - 1) = omega arith in
    subst (λ (r : ℕ). HasRank path lines i r) none rank

again_standing : (path : List ℕ) (lines : List AnswerLine) (n i : ℕ) (o : Option ℕ) → next_from path (i + 1) (drop (i + 1) lines) ≡ o → HasRank path lines i (min n (length (filter (is_of path) lines) - 1)) → Standing path lines (suc n) (Some (or_last i o))
again_standing path lines n i None e h =
    let size = last_size path lines i (min n (length (filter (is_of path) lines) - 1)) h e in
    let rank : min n (length (filter (is_of path) lines) - 1) ≡ min (suc n) (length (filter (is_of path) lines) - 1) = omega (arith, size) in
    subst (λ (r : ℕ). HasRank path lines i r) rank h
again_standing path lines n i (Some j) e h =
    let next = next_rank path lines i j (min n (length (filter (is_of path) lines) - 1)) h e in
    let size = cut_size (min n (length (filter (is_of path) lines) - 1) + 1) (filter (is_of path) lines) next.line (filter (is_of path) next.rest) next.kept in
    let rank : min n (length (filter (is_of path) lines) - 1) + 1 ≡ min (suc n) (length (filter (is_of path) lines) - 1) = omega (arith, size) in
    subst (λ (r : ℕ). HasRank path lines j r) rank next

none_again : (path : List ℕ) (lines : List AnswerLine) (n : ℕ) → filter (is_of path) lines ≡ [] → (o : Option ℕ) → next_from path 0 lines ≡ o → Standing path lines (suc n) o
none_again path lines n e None f = e
none_again path lines n e (Some i) f = let k = (is_next path 0 lines i f).kept in absurd (cc)

step_standing : (path : List ℕ) (lines : List AnswerLine) (n : ℕ) (o : Option ℕ) → Standing path lines n o → Standing path lines (suc n) (step lines path o)
step_standing path lines n None h = none_again path lines n h (next_from path 0 lines) refl
step_standing path lines n (Some i) h = again_standing path lines n i (next_from path (i + 1) (drop (i + 1) lines)) refl h

standing : (path : List ℕ) (lines : List AnswerLine) (n : ℕ) → Standing path lines n (steps lines path (suc n) None)
standing path lines zero = first_standing path lines (next_from path 0 lines) refl
standing path lines (suc n) =
    let o = steps lines path (suc n) None in
    subst (λ (v : Option ℕ). Standing path lines (suc n) v) (sym (steps_last lines path (suc n) None)) (step_standing path lines n o (standing path lines n))

-- the answer that stands there
last_of : (xs : List AnswerLine) (a : AnswerLine) → slice_get (xs ++ a ∷ []) (length (xs ++ a ∷ []) - 1) ≡ Some a
last_of [] a = refl
last_of (x ∷ xs) a =
    let size : length (xs ++ a ∷ []) ≡ length xs + 1 = length-append xs (a ∷ []) in
    let next : length (x ∷ (xs ++ a ∷ [])) - 1 ≡ suc (length (xs ++ a ∷ []) - 1) = omega (arith, size) in
    ap (slice_get (x ∷ (xs ++ a ∷ []))) next ∙ last_of xs a

parts_by : (path : List ℕ) (lines : List AnswerLine) (script : ServerScript) (n : ℕ) (o : Option ℕ) → lines ≡ all_lines script → filter (is_of path) lines ≡ filter (is_of path) script.answers → Standing path lines n o → parts_at lines (unwrap_or o (length lines - 1)) ≡ answer_of script path n
parts_by path lines script n None e f h =
    let none : filter (is_of path) script.answers ≡ [] = sym f ∙ h in
    let last : slice_get lines (length lines - 1) ≡ Some unanswered = ap (λ (l : List AnswerLine). slice_get l (length l - 1)) e ∙ last_of script.answers unanswered in
    ap (λ (v : Option AnswerLine). unwrap_or (option_map parts_of v) []) last
    ∙ sym (ap (λ (l : List AnswerLine). unwrap_or (option_map parts_of (slice_get l (min n (length l - 1)))) unanswered.parts) none)
parts_by path lines script n (Some i) e f h =
    let here : slice_get lines i ≡ Some h.line = there i lines h.line h.rest h.cut in
    let kept : slice_get (filter (is_of path) lines) (min n (length (filter (is_of path) lines) - 1)) ≡ Some h.line = there (min n (length (filter (is_of path) lines) - 1)) (filter (is_of path) lines) h.line (filter (is_of path) h.rest) h.kept in
    let of_script : slice_get (filter (is_of path) script.answers) (min n (length (filter (is_of path) script.answers) - 1)) ≡ Some h.line = sym (ap (λ (l : List AnswerLine). slice_get l (min n (length l - 1))) f) ∙ kept in
    ap (λ (v : Option AnswerLine). unwrap_or (option_map parts_of v) []) here
    ∙ sym (ap (λ (v : Option AnswerLine). unwrap_or (option_map parts_of v) unanswered.parts) of_script)

other_path : (path : List ℕ) (t : Bool) → bytes_eq [] path ≡ t → path ≢ [] → is_of path unanswered ≡ false
other_path path true e n = absurd (n (sym (same [] path e)))
other_path path false e n = e

kept_lines : (script : ServerScript) (path : List ℕ) → path ≢ [] → filter (is_of path) (all_lines script) ≡ filter (is_of path) script.answers
kept_lines script path n =
    let last : filter (is_of path) (unanswered ∷ []) ≡ [] = cut_by path unanswered [] false (other_path path (bytes_eq [] path) refl n) in
    filter-append (is_of path) script.answers (unanswered ∷ []) ∙ (ap (λ (l : List AnswerLine). filter (is_of path) script.answers ++ l) last ∙ append-nil (filter (is_of path) script.answers))

pub turn_is_answer : (script : ServerScript) (before : List (List ℕ)) (path : List ℕ) → path ≢ [] → next_parts (book_after (new_book script) before) path ≡ answer_of script path (count_of path before)
turn_is_answer script before path n =
    let b = new_book script in
    let c = book_after b before in
    let s = stands path before b in
    let one = is_chosen c path in
    let count = count_of path before in
    let place : (chosen c path).place ≡ unwrap_or (steps (all_lines script) path (suc count) None) (length (all_lines script) - 1) =
    one.place_is
    ∙ (ap (λ (o : Option ℕ). unwrap_or (step c.lines path o) (length c.lines - 1)) s.place
    ∙ (ap (λ (l : List AnswerLine). unwrap_or (step l path (steps (all_lines script) path count None)) (length l - 1)) s.lines
    ∙ ap (λ (o : Option ℕ). unwrap_or o (length (all_lines script) - 1)) (sym (steps_last (all_lines script) path count None)))) in
    ap (λ (l : List AnswerLine). parts_at l (chosen c path).place) s.lines
    ∙ (ap (parts_at (all_lines script)) place
    ∙ parts_by path (all_lines script) script count (steps (all_lines script) path (suc count) None) refl (kept_lines script path n) (standing path (all_lines script) count))
