-- The readers of a link: what comes of a tag is reported by its one reader.
use Rattle.std.proofs.Common.{◌≡◌, ◌∷◌, ◌++◌, ◌||◌, ◌==◌, not, ap, arith, refl, subst, sym, ◌∙◌, Bool, true, false, List, [], Option, None, Some, ℕ, ◌+◌, suc, cond, filter, if◌then◌else◌, map}
use Rattle.std.specs.List.{remove}
use Rattle.std.proofs.lemmas.Bool.{eqb-true}
use Rattle.std.proofs.lemmas.Bool.Decides.{nat_tests}
use Rattle.grpc_base.specs.ErrorCodes.{cancel}
use Rattle.grpc_link.specs.Links.{GrpcSeen, found, found_from, reader_in, reported_by, reported_of, with_reader}
use Rattle.grpc_link.specs.Links.{Report as Reported}
use Rattle.grpc_link.specs.Readers.{ReaderSeen, Stepped, stepped}
use Rattle.grpc_link.specs.declared.readers.TagReader.{TagReader}
use Rattle.h2_link.specs.Steps.{cut}
use Rattle.h2_link.specs.declared.news.LinkNews.{LinkNews}
use Rattle.lb_policy.specs.Table.{is_one_of}
use Rattle.link_actions.proofs.Lists.{if_false, if_true, none_of, on_if}
use Rattle.link_actions.proofs.Without.{distinct_filter, is_other, map_filter}
use Rattle.link_actions.specs.Sees.{NumbersAreDistinct}

abbrev pub tags : List TagReader → List ℕ
tags readers = map (λ (t : TagReader). t.tag) readers

abbrev pub is_other_reader : ℕ → TagReader → Bool
is_other_reader tag t = is_other tag t.tag

turned : (k t : ℕ) → (k == t) ≡ false → (t == k) ≡ false
turned k t e = grind (arith, nat_tests, e)

-- where none is of a tag
all_others : (tag : ℕ) (readers : List TagReader) → is_one_of (tags readers) tag ≡ false → filter (is_other_reader tag) readers ≡ readers
all_others tag [] none = refl
all_others tag (t ∷ readers) none =
    let parts = none_of (t.tag == tag) (is_one_of (tags readers) tag) none in
    if_true (is_other_reader tag t) (t ∷ filter (is_other_reader tag) readers) (filter (is_other_reader tag) readers) (ap not parts.0)
    ∙ ap (λ (ts : List TagReader). t ∷ ts) (all_others tag readers parts.1)

-- the reader of a tag is found, and without it the others are left
pub record IsFound (tag from : ℕ) (readers : List TagReader) (x : ReaderSeen) : Type 0 where
  pub place : ℕ
  pub index : ℕ
  pub found_ : found_from tag from readers ≡ Some (place, x)
  pub place_is : place ≡ from + index
  pub left : remove readers index ≡ filter (is_other_reader tag) readers

first_found : (tag from : ℕ) (t : TagReader) (readers : List TagReader) (x : ReaderSeen) (b : Bool) → (t.tag == tag) ≡ b → NumbersAreDistinct (tags (t ∷ readers))
    → (if b then Some t.reader else reader_in tag readers) ≡ Some x → (reader_in tag readers ≡ Some x → IsFound tag (from + 1) readers x) → IsFound tag from (t ∷ readers) x
first_found tag from t readers x true is all e next =
    let same : t.reader ≡ x = (cc) in
    let own : t.tag ≡ tag = eqb-true t.tag tag is in
    let none : is_one_of (tags readers) tag ≡ false = subst (λ (k : ℕ). is_one_of (tags readers) k ≡ false) own all.0 in
    record {
      place = from;
      index = 0;
      found_ = if_true (t.tag == tag) (Some (from, t.reader)) (found_from tag (from + 1) readers) is ∙ ap (λ (y : ReaderSeen). Some (from, y)) same;
      place_is = (omega arith);
      left = sym (all_others tag readers none)
          ∙ sym (if_false (is_other_reader tag t) (t ∷ filter (is_other_reader tag) readers) (filter (is_other_reader tag) readers) (ap not is));
    }
first_found tag from t readers x false is all e next =
    let rest : IsFound tag (from + 1) readers x = next e in
    let at : rest.place ≡ from + 1 + rest.index = rest.place_is in
    record {
      place = rest.place;
      index = suc rest.index;
      found_ = if_false (t.tag == tag) (Some (from, t.reader)) (found_from tag (from + 1) readers) is ∙ rest.found_;
      place_is = (omega (arith, at));
      left = ap (λ (ts : List TagReader). t ∷ ts) rest.left
          ∙ sym (if_true (is_other_reader tag t) (t ∷ filter (is_other_reader tag) readers) (filter (is_other_reader tag) readers) (ap not is));
    }

pub find_reader : (tag from : ℕ) (readers : List TagReader) (x : ReaderSeen) → NumbersAreDistinct (tags readers) → reader_in tag readers ≡ Some x → IsFound tag from readers x
find_reader tag from [] x all e = absurd (cc)
find_reader tag from (t ∷ readers) x all e =
    first_found tag from t readers x (t.tag == tag) refl all e (λ h. find_reader tag (from + 1) readers x all.1 h)

first_none : (tag from : ℕ) (t : TagReader) (readers : List TagReader) (b : Bool) → (t.tag == tag) ≡ b → (if b then Some t.reader else reader_in tag readers) ≡ None
    → (reader_in tag readers ≡ None → found_from tag (from + 1) readers ≡ None) → found_from tag from (t ∷ readers) ≡ None
first_none tag from t readers true is e next = absurd (cc)
first_none tag from t readers false is e next = if_false (t.tag == tag) (Some (from, t.reader)) (found_from tag (from + 1) readers) is ∙ next e

pub find_none : (tag from : ℕ) (readers : List TagReader) → reader_in tag readers ≡ None → found_from tag from readers ≡ None
find_none tag from [] e = refl
find_none tag from (t ∷ readers) e = first_none tag from t readers (t.tag == tag) refl e (λ h. find_none tag (from + 1) readers h)

-- the readers of other tags
other_by : (tag k : ℕ) (t : TagReader) (readers : List TagReader) (b : Bool) → (t.tag == tag) ≡ b → (k == tag) ≡ false
    → reader_in k (filter (is_other_reader tag) readers) ≡ reader_in k readers
    → reader_in k (cond (not b) (t ∷ filter (is_other_reader tag) readers) (filter (is_other_reader tag) readers)) ≡ reader_in k (t ∷ readers)
other_by tag k t readers true is apart rest =
    let own : t.tag ≡ tag = eqb-true t.tag tag is in
    let off : (t.tag == k) ≡ false = ap (λ (n : ℕ). n == k) own ∙ turned k tag apart in
    rest ∙ sym (if_false (t.tag == k) (Some t.reader) (reader_in k readers) off)
other_by tag k t readers false is apart rest = ap (λ (o : Option ReaderSeen). if t.tag == k then Some t.reader else o) rest

pub others_left : (tag k : ℕ) (readers : List TagReader) → (k == tag) ≡ false → reader_in k (filter (is_other_reader tag) readers) ≡ reader_in k readers
others_left tag k [] apart = refl
others_left tag k (t ∷ readers) apart = other_by tag k t readers (t.tag == tag) refl apart (others_left tag k readers apart)

none_by : (tag : ℕ) (t : TagReader) (readers : List TagReader) (b : Bool) → (t.tag == tag) ≡ b → reader_in tag (filter (is_other_reader tag) readers) ≡ None
    → reader_in tag (cond (not b) (t ∷ filter (is_other_reader tag) readers) (filter (is_other_reader tag) readers)) ≡ None
none_by tag t readers true is rest = rest
none_by tag t readers false is rest =
    if_false (t.tag == tag) (Some t.reader) (reader_in tag (filter (is_other_reader tag) readers)) is ∙ rest

pub none_left : (tag : ℕ) (readers : List TagReader) → reader_in tag (filter (is_other_reader tag) readers) ≡ None
none_left tag [] = refl
none_left tag (t ∷ readers) = none_by tag t readers (t.tag == tag) refl (none_left tag readers)

never_by : (tag : ℕ) (t : TagReader) (readers : List TagReader) (b : Bool) → (t.tag == tag) ≡ b → is_one_of (tags (filter (is_other_reader tag) readers)) tag ≡ false
    → is_one_of (tags (cond (not b) (t ∷ filter (is_other_reader tag) readers) (filter (is_other_reader tag) readers))) tag ≡ false
never_by tag t readers true is rest = rest
never_by tag t readers false is rest = ap (λ (c : Bool). c || is_one_of (tags (filter (is_other_reader tag) readers)) tag) is ∙ rest

pub never_left : (tag : ℕ) (readers : List TagReader) → is_one_of (tags (filter (is_other_reader tag) readers)) tag ≡ false
never_left tag [] = refl
never_left tag (t ∷ readers) = never_by tag t readers (t.tag == tag) refl (never_left tag readers)

pub distinct_left : (tag : ℕ) (readers : List TagReader) → NumbersAreDistinct (tags readers) → NumbersAreDistinct (tags (filter (is_other_reader tag) readers))
distinct_left tag readers all =
    subst NumbersAreDistinct (sym (map_filter (λ (t : TagReader). t.tag) (is_other tag) readers)) (distinct_filter (is_other tag) (tags readers) all)

-- a reader after the others
pub afterwards_by : (tag k : ℕ) (r : ReaderSeen) (readers : List TagReader) → (k == tag) ≡ false → reader_in k (with_reader tag r readers) ≡ reader_in k readers
afterwards_by tag k r [] apart = (let none : Option ReaderSeen = None in if_false (tag == k) (Some r) none (turned k tag apart))
afterwards_by tag k r (t ∷ readers) apart = ap (λ (o : Option ReaderSeen). if t.tag == k then Some t.reader else o) (afterwards_by tag k r readers apart)

pub own_after : (tag : ℕ) (r : ReaderSeen) (readers : List TagReader) → reader_in tag readers ≡ None → reader_in tag (with_reader tag r readers) ≡ Some r
own_after tag r [] none = (let no : Option ReaderSeen = None in if_true (tag == tag) (Some r) no (let same : (tag == tag) ≡ true = grind (arith, nat_tests) in same))
own_after tag r (t ∷ readers) none = own_first tag r t readers (t.tag == tag) none (λ h. own_after tag r readers h)
  where
    own_first : (tag : ℕ) (r : ReaderSeen) (t : TagReader) (readers : List TagReader) (b : Bool) → (if b then Some t.reader else reader_in tag readers) ≡ None
        → (reader_in tag readers ≡ None → reader_in tag (with_reader tag r readers) ≡ Some r) → (if b then Some t.reader else reader_in tag (with_reader tag r readers)) ≡ Some r
    own_first tag r t readers true e next = absurd (let no : ⊥ = (cc) in no)
    own_first tag r t readers false e next = next e

none_snoc : (k t : ℕ) (ns : List ℕ) → is_one_of ns k ≡ false → (t == k) ≡ false → is_one_of (ns ++ t ∷ []) k ≡ false
none_snoc k t [] none off = ap (λ (b : Bool). b || false) off
none_snoc k t (n ∷ ns) none off =
    let parts = none_of (n == k) (is_one_of ns k) none in
    ap (λ (b : Bool). b || is_one_of (ns ++ t ∷ []) k) parts.0 ∙ none_snoc k t ns parts.1 off

pub distinct_snoc : (t : ℕ) (ns : List ℕ) → NumbersAreDistinct ns → is_one_of ns t ≡ false → NumbersAreDistinct (ns ++ t ∷ [])
distinct_snoc t [] all none = (refl, tt)
distinct_snoc t (n ∷ ns) all none =
    let parts = none_of (n == t) (is_one_of ns t) none in
    (none_snoc n t ns all.0 (turned n t parts.0), distinct_snoc t ns all.1 parts.1)

pub tags_snoc : (tag : ℕ) (r : ReaderSeen) (readers : List TagReader) → tags (with_reader tag r readers) ≡ tags readers ++ tag ∷ []
tags_snoc tag r [] = refl
tags_snoc tag r (t ∷ readers) = ap (λ (ns : List ℕ). t.tag ∷ ns) (tags_snoc tag r readers)

-- a report of a tag that has a reader
pub record IsReported (g : GrpcSeen) (tag : ℕ) (t : Stepped) (r : Reported) : Type 0 where
  pub news : r.news ≡ t.news
  pub wire : r.link.link.wire ≡ (if t.reader.over then cut g.link.wire tag cancel else g.link.wire)
  pub rest : r.link.link.rest ≡ g.link.rest
  pub own : reader_in tag r.link.readers ≡ (if t.reader.over then None else Some t.reader)
  pub others : (k : ℕ) → (k == tag) ≡ false → reader_in k r.link.readers ≡ reader_in k g.readers
  pub distinct : NumbersAreDistinct (tags r.link.readers)

reported_left : (g : GrpcSeen) (tag : ℕ) (t : Stepped) → NumbersAreDistinct (tags g.readers)
    → IsReported g tag t (reported_by (record g { readers = filter (is_other_reader tag) g.readers }) tag t)
reported_left g tag t all =
    let kept : List TagReader = filter (is_other_reader tag) g.readers in
    let none : Option ReaderSeen = None in
    on_if (IsReported g tag t) t.reader.over
    (record { link = record g { link = record g.link { wire = cut g.link.wire tag cancel }; readers = kept }; news = t.news })
    (record { link = record g { readers = with_reader tag t.reader kept }; news = t.news })
    (λ e. record {
      news = refl;
      wire = sym (if_true t.reader.over (cut g.link.wire tag cancel) g.link.wire e);
      rest = refl;
      own = none_left tag g.readers ∙ sym (if_true t.reader.over none (Some t.reader) e);
      others = λ k apart. others_left tag k g.readers apart;
      distinct = distinct_left tag g.readers all;
    })
    (λ e. record {
      news = refl;
      wire = sym (if_false t.reader.over (cut g.link.wire tag cancel) g.link.wire e);
      rest = refl;
      own = own_after tag t.reader kept (none_left tag g.readers) ∙ sym (if_false t.reader.over none (Some t.reader) e);
      others = λ k apart. afterwards_by tag k t.reader kept apart ∙ others_left tag k g.readers apart;
      distinct = subst NumbersAreDistinct (sym (tags_snoc tag t.reader kept)) (distinct_snoc tag (tags kept) (distinct_left tag g.readers all) (never_left tag g.readers));
    })

pub reported_one : (g : GrpcSeen) (tag : ℕ) (n : LinkNews) (x : ReaderSeen) → NumbersAreDistinct (tags g.readers) → reader_in tag g.readers ≡ Some x
    → IsReported g tag (stepped x tag n) (reported_of g tag n (found tag g.readers))
reported_one g tag n x all e =
    let f : IsFound tag 0 g.readers x = find_reader tag 0 g.readers x all e in
    let at : f.place ≡ 0 + f.index = f.place_is in
    let here : f.place ≡ f.index = omega (arith, at) in
    let left : remove g.readers f.place ≡ filter (is_other_reader tag) g.readers = ap (remove g.readers) here ∙ f.left in
    let T : Reported → Type 0 = λ r. IsReported g tag (stepped x tag n) r in
    let R : List TagReader → Type 0 = λ ts. T (reported_by (record g { readers = ts }) tag (stepped x tag n)) in
    subst (λ (o : Option (ℕ × ReaderSeen)). T (reported_of g tag n o)) (sym f.found_) (subst R (sym left) (reported_left g tag (stepped x tag n) all))
