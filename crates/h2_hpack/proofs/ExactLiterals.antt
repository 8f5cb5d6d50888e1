-- Indexed fields and literals are read exactly as they are spelled.
use Rattle.std.proofs.Common.{◌≡◌, ◌⊎◌, ℕ, zero, suc, ◌+◌, ◌<◌, ◌≤◌, ◌^◌, nat_le, cond, List, [], ◌∷◌, ◌++◌, refl, sym, ◌∙◌, ap, subst, arith, append_assoc, Some, None, Result, Ok, Err, inl, inr, lit≤}
use Rattle.std.specs.Prelude.{ok_or}
use Rattle.std.proofs.lemmas.Bool.{cases_lt, le-leb, lt-leb}
use Rattle.grpc_base.specs.declared.fields.Field.{Field}
use Rattle.h2_hpack.specs.declared.fault.HpackFault.{HpackFault}
use Rattle.h2_hpack.specs.declared.fault.HpackFault.TheVariants.{BadIndex, BadInteger, TooLong}
use Rattle.h2_hpack.specs.declared.kind.Kind.{Kind}
use Rattle.h2_hpack.specs.declared.kind.Kind.TheVariants as kinds
use Rattle.h2_hpack.specs.Blocks.{Reading, and_then, index_at, text_at, name_by, literal_at, indexed_at, with_field}
use Rattle.h2_hpack.specs.Tables.{Table, list_size, field_at}
use Rattle.h2_hpack.specs.Representations.{Begins, NoneBegins, IsInteger, IsString, Indexing, WithIncrementalIndexing, WithoutIndexing, NeverIndexed, Name, NameIndex, NameString, Representation, Indexed, Literal, DynamicTableSizeUpdate, name_bits, name_mark, IsNameIndex, IsName, IsSpelled, IsNameOf, IsFieldOf, table_after, AddsField}
use Rattle.h2_hpack.proofs.ExactIntegers.{Exact, exact_option, exact_then, exact_as, exact_ok, is_none, AreBytes, rest_bytes, Prefix, exact_integer}
use Rattle.h2_hpack.proofs.ExactStrings.{StringFault, exact_string}

-- the kind of a representation
abbrev pub literal_kind : Indexing → Kind
literal_kind WithIncrementalIndexing = kinds.LiteralWithIncrementalIndexing
literal_kind WithoutIndexing = kinds.LiteralWithoutIndexing
literal_kind NeverIndexed = kinds.LiteralNeverIndexed

abbrev pub kind_for : Representation → Kind
kind_for (Indexed index) = kinds.Indexed
kind_for (Literal indexing name value) = literal_kind indexing
kind_for (DynamicTableSizeUpdate size) = kinds.DynamicTableSizeUpdate

-- a value under a test of a number
pub exact_test : {C : Type 0} (f : Result C HpackFault) (x : C) (e0 : HpackFault) (n limit : ℕ) → f ≡ cond (nat_le n limit) (Ok x) (Err e0) → Exact f (λ y. (x ≡ y) × (n ≤ limit)) (λ e. (e ≡ e0) × (limit < n))
exact_test {C} f x e0 n limit is =
    elim (cases_lt limit n) [
      | inl above ↦
          let none : f ≡ Err e0 = rw (lt-leb n limit above) at is in
          record {
            good = λ y h. absurd (not_ok y e0 (sym h ∙ none));
            bad = λ e h. (same_err e e0 (sym h ∙ none), above);
            good_back = λ y p. absurd (omega (arith, p.1, above));
            bad_back = λ e p. none ∙ ap Err (sym p.0);
          }
      | inr fits ↦
          let there : f ≡ Ok x = rw (le-leb n limit fits) at is in
          record {
            good = λ y h. (same_ok x y (sym there ∙ h), fits);
            bad = λ e h. absurd (not_ok x e (sym there ∙ h));
            good_back = λ y p. there ∙ ap Ok p.0;
            bad_back = λ e p. absurd (omega (arith, p.1, fits));
          }
    ]
  where
    not_ok : (y : C) (e : HpackFault) → Ok y ≡ Err e → ⊥
    not_ok y e h = cc h

    same_ok : (y z : C) → ◌≡◌ {A = Result C HpackFault} (Ok y) (Ok z) → y ≡ z
    same_ok y z h = cc h

    same_err : (d e : HpackFault) → ◌≡◌ {A = Result C HpackFault} (Err d) (Err e) → d ≡ e
    same_err d e h = cc h

pub exact_with_field : (fields : List Field) (f : Field) (t : Table) → Exact (with_field fields f t) (λ next. (record { fields = fields ++ f ∷ []; table = t } ≡ next) × (list_size (fields ++ f ∷ []) ≤ 16384)) (λ e. (e ≡ TooLong) × (16384 < list_size (fields ++ f ∷ [])))
exact_with_field fields f t = exact_test (with_field fields f t) (record { fields = fields ++ f ∷ []; table = t }) TooLong (list_size (fields ++ f ∷ [])) 16384 refl

pub exact_field : (t : Table) (index : ℕ) → Exact (ok_or (field_at t index) BadIndex) (λ f. field_at t index ≡ Some f) (λ e. (e ≡ BadIndex) × (field_at t index ≡ None))
exact_field t index =
    exact_as (ok_or (field_at t index) BadIndex) (λ f. field_at t index ≡ Some f) (λ f. field_at t index ≡ Some f)
    (λ e. (e ≡ BadIndex) × ((f : Field) → field_at t index ≡ Some f → ⊥)) (λ e. (e ≡ BadIndex) × (field_at t index ≡ None))
    (exact_option (field_at t index) BadIndex (λ f. field_at t index ≡ Some f) (λ f h. h) (λ f h. h))
    (λ f h. h) (λ f h. h)
    (λ e p. (p.0, is_none (field_at t index) p.1))
    (λ e p. (p.0, λ f h. no_field f (sym p.1 ∙ h)))
  where
    no_field : (f : Field) → None ≡ Some f → ⊥
    no_field f h = cc h

-- a field of one kind at the start of some bytes, and what follows it
abbrev pub FieldOfKind : Kind → Table → List ℕ → Field × List ℕ → Type 0
FieldOfKind k t bytes x = (rep : Representation) × (kind_for rep ≡ k) × Begins IsSpelled bytes rep x.1 × IsFieldOf t rep x.0

-- the same with its effect
abbrev pub AddedOfKind : Kind → Reading → List ℕ → Reading × List ℕ → Type 0
AddedOfKind k r bytes y = (rep : Representation) × (kind_for rep ≡ k) × Begins IsSpelled bytes rep y.1 × AddsField rep r y.0

abbrev pub TooLongOfKind : Kind → Reading → List ℕ → HpackFault → Type 0
TooLongOfKind k r bytes e = (x : Field × List ℕ) × FieldOfKind k r.table bytes x × ((e ≡ TooLong) × (16384 < list_size (r.fields ++ x.0 ∷ [])))

-- a field that was read is appended
pub exact_adding : (k : Kind) (r : Reading) (bytes : List ℕ) (after : Field → Table) (read : Result (Field × List ℕ) HpackFault) (X : HpackFault → Type 0) → ((rep : Representation) → kind_for rep ≡ k → (f : Field) → after f ≡ table_after rep r.table f) → Exact read (FieldOfKind k r.table bytes) X → Exact (and_then read (λ x. and_then (with_field r.fields x.0 (after x.0)) (λ next. Ok (next, x.1)))) (AddedOfKind k r bytes) (λ e. X e ⊎ TooLongOfKind k r bytes e)
exact_adding k r bytes after read X table is =
    exact_as (and_then read (λ x. and_then (with_field r.fields x.0 (after x.0)) (λ next. Ok (next, x.1))))
    (λ y. (x : Field × List ℕ) × FieldOfKind k r.table bytes x × Grown x y) (AddedOfKind k r bytes)
    (λ e. X e ⊎ ((x : Field × List ℕ) × FieldOfKind k r.table bytes x × Full x e)) (λ e. X e ⊎ TooLongOfKind k r bytes e)
    (exact_then read (λ x. and_then (with_field r.fields x.0 (after x.0)) (λ next. Ok (next, x.1))) (FieldOfKind k r.table bytes) X Grown Full is
    (λ x there. exact_then (with_field r.fields x.0 (after x.0)) (λ next. Ok (next, x.1))
    (λ next. (record { fields = r.fields ++ x.0 ∷ []; table = after x.0 } ≡ next) × (list_size (r.fields ++ x.0 ∷ []) ≤ 16384))
    (λ e. (e ≡ TooLong) × (16384 < list_size (r.fields ++ x.0 ∷ [])))
    (λ next y. (next, x.1) ≡ y) (λ next e. ⊥)
    (exact_with_field r.fields x.0 (after x.0)) (λ next h. exact_ok (next, x.1))))
    to back bad_to bad_back
  where
    Grown : Field × List ℕ → Reading × List ℕ → Type 0
    Grown x y = (next : Reading) × ((record { fields = r.fields ++ x.0 ∷ []; table = after x.0 } ≡ next) × (list_size (r.fields ++ x.0 ∷ []) ≤ 16384)) × ((next, x.1) ≡ y)

    Full : Field × List ℕ → HpackFault → Type 0
    Full x e = ((e ≡ TooLong) × (16384 < list_size (r.fields ++ x.0 ∷ []))) ⊎ ((next : Reading) × ((record { fields = r.fields ++ x.0 ∷ []; table = after x.0 } ≡ next) × (list_size (r.fields ++ x.0 ∷ []) ≤ 16384)) × ⊥)

    to : (y : Reading × List ℕ) → (x : Field × List ℕ) × FieldOfKind k r.table bytes x × Grown x y → AddedOfKind k r bytes y
    to y p =
        let x = p.0 in
        let rep = p.1.0 in
        let made : (record { fields = r.fields ++ x.0 ∷ []; table = after x.0 }, x.1) ≡ y = ap (λ z. (z, x.1)) p.2.1.0 ∙ p.2.2 in
        subst (AddedOfKind k r bytes) made
        (rep, p.1.1, p.1.2, record { field = x.0; is_field = p.1.3; fields = refl; table = table rep p.1.1 x.0; within = p.2.1.1 })

    back : (y : Reading × List ℕ) → AddedOfKind k r bytes y → (x : Field × List ℕ) × FieldOfKind k r.table bytes x × Grown x y
    back y p =
        let a = p.3 in
        let size : list_size (r.fields ++ a.field ∷ []) ≤ 16384 = subst (λ z. list_size z ≤ 16384) a.fields a.within in
        let state : record { fields = r.fields ++ a.field ∷ []; table = after a.field } ≡ y.0 = λ i. record { fields = sym a.fields i; table = (table p.0 p.1 a.field ∙ sym a.table) i } in
        ((a.field, y.1), (p.0, p.1, p.2, a.is_field), (y.0, (state, size), refl))

    bad_to : (e : HpackFault) → X e ⊎ ((x : Field × List ℕ) × FieldOfKind k r.table bytes x × Full x e) → X e ⊎ TooLongOfKind k r bytes e
    bad_to e (inl x) = inl x
    bad_to e (inr p) = inr (p.0, p.1, on p.2)
      where
        on : Full p.0 e → (e ≡ TooLong) × (16384 < list_size (r.fields ++ p.0.0 ∷ []))
        on (inl q) = q
        on (inr q) = absurd q.2

    bad_back : (e : HpackFault) → X e ⊎ TooLongOfKind k r bytes e → X e ⊎ ((x : Field × List ℕ) × FieldOfKind k r.table bytes x × Full x e)
    bad_back e (inl x) = inl x
    bad_back e (inr p) = inr (p.0, p.1, inl p.2)

pub indexed_bits : Prefix 7 128
indexed_bits = record { low = λ k h. let below : k < 128 = h in omega (arith, below); some = lit≤ tt; few = lit≤ tt }

-- why no field can be read by its index
abbrev pub IndexFault : Table → List ℕ → HpackFault → Type 0
IndexFault t bytes e = ((e ≡ BadInteger) × NoneBegins (IsInteger 7 128) bytes) ⊎ ((x : ℕ × List ℕ) × Begins (IsInteger 7 128) bytes x.0 x.1 × ((e ≡ BadIndex) × (field_at t x.0 ≡ None)))

pub exact_indexed_field : (t : Table) (first : ℕ) (bytes : List ℕ) → 128 ≤ first → first < 256 → AreBytes bytes → Exact (indexed_at t first bytes) (FieldOfKind kinds.Indexed t (first ∷ bytes)) (IndexFault t (first ∷ bytes))
exact_indexed_field t first bytes least most are =
    exact_as (indexed_at t first bytes) Read (FieldOfKind kinds.Indexed t (first ∷ bytes)) Bad (IndexFault t (first ∷ bytes))
    (exact_then (index_at 7 first bytes) (λ index. and_then (ok_or (field_at t index.0) BadIndex) (λ f. Ok (f, index.1))) (λ x. Begins (IsInteger 7 128) (first ∷ bytes) x.0 x.1) (λ e. (e ≡ BadInteger) × NoneBegins (IsInteger 7 128) (first ∷ bytes)) ReadOf BadOf
    (exact_integer 7 128 first bytes indexed_bits least most are)
    (λ index there. exact_then (ok_or (field_at t index.0) BadIndex) (λ f. Ok (f, index.1)) (λ f. field_at t index.0 ≡ Some f) (λ e. (e ≡ BadIndex) × (field_at t index.0 ≡ None)) (λ f y. (f, index.1) ≡ y) (λ f e. ⊥)
    (exact_field t index.0) (λ f h. exact_ok (f, index.1))))
    to back bad_to bad_back
  where
    ReadOf : ℕ × List ℕ → Field × List ℕ → Type 0
    ReadOf index y = (f : Field) × (field_at t index.0 ≡ Some f) × ((f, index.1) ≡ y)

    BadOf : ℕ × List ℕ → HpackFault → Type 0
    BadOf index e = ((e ≡ BadIndex) × (field_at t index.0 ≡ None)) ⊎ ((f : Field) × (field_at t index.0 ≡ Some f) × ⊥)

    Read : Field × List ℕ → Type 0
    Read y = (x : ℕ × List ℕ) × Begins (IsInteger 7 128) (first ∷ bytes) x.0 x.1 × ReadOf x y

    Bad : HpackFault → Type 0
    Bad e = ((e ≡ BadInteger) × NoneBegins (IsInteger 7 128) (first ∷ bytes)) ⊎ ((x : ℕ × List ℕ) × Begins (IsInteger 7 128) (first ∷ bytes) x.0 x.1 × BadOf x e)

    to : (y : Field × List ℕ) → Read y → FieldOfKind kinds.Indexed t (first ∷ bytes) y
    to y p = subst (FieldOfKind kinds.Indexed t (first ∷ bytes)) p.2.2 (Indexed p.0.0, refl, p.1, p.2.1)

    back_of : (rep : Representation) (y : Field × List ℕ) → kind_for rep ≡ kinds.Indexed → Begins IsSpelled (first ∷ bytes) rep y.1 → IsFieldOf t rep y.0 → Read y
    back_of (Indexed index) y k b found = ((index, y.1), b, (y.0, found, refl))
    back_of (Literal WithIncrementalIndexing name value) y k b found = absurd (cc k)
    back_of (Literal WithoutIndexing name value) y k b found = absurd (cc k)
    back_of (Literal NeverIndexed name value) y k b found = absurd (cc k)
    back_of (DynamicTableSizeUpdate size) y k b found = absurd (cc k)

    back : (y : Field × List ℕ) → FieldOfKind kinds.Indexed t (first ∷ bytes) y → Read y
    back y p = back_of p.0 y p.1 p.2 p.3

    bad_to : (e : HpackFault) → Bad e → IndexFault t (first ∷ bytes) e
    bad_to e (inl p) = inl p
    bad_to e (inr p) = inr (p.0, p.1, on p.2)
      where
        on : BadOf p.0 e → (e ≡ BadIndex) × (field_at t p.0.0 ≡ None)
        on (inl q) = q
        on (inr q) = absurd q.2

    bad_back : (e : HpackFault) → IndexFault t (first ∷ bytes) e → Bad e
    bad_back e (inl p) = inl p
    bad_back e (inr p) = inr (p.0, p.1, inl p.2)

-- a name after its index
abbrev pub NameAt : Table → ℕ → List ℕ → List ℕ × List ℕ → Type 0
NameAt t zero rest x = Begins IsString rest x.0 x.1
NameAt t (suc index) rest x = (f : Field) × (field_at t (suc index) ≡ Some f) × ((f.name, rest) ≡ x)

abbrev pub NameFaultAt : Table → ℕ → List ℕ → HpackFault → Type 0
NameFaultAt t zero rest e = StringFault rest e
NameFaultAt t (suc index) rest e = (e ≡ BadIndex) × (field_at t (suc index) ≡ None)

exact_name_at : (t : Table) (index : ℕ) (rest : List ℕ) → AreBytes rest → Exact (name_by t index rest) (NameAt t index rest) (NameFaultAt t index rest)
exact_name_at t zero rest are = exact_string rest are
exact_name_at t (suc index) rest are =
    exact_as (name_by t (suc index) rest) (NameAt t (suc index) rest) (NameAt t (suc index) rest) Bad (NameFaultAt t (suc index) rest)
    (exact_then (ok_or (field_at t (suc index)) BadIndex) (λ f. Ok (f.name, rest)) (λ f. field_at t (suc index) ≡ Some f) (λ e. (e ≡ BadIndex) × (field_at t (suc index) ≡ None)) (λ f x. (f.name, rest) ≡ x) (λ f e. ⊥)
    (exact_field t (suc index)) (λ f h. exact_ok (f.name, rest)))
    (λ x h. h) (λ x h. h) bad_to (λ e p. inl p)
  where
    Bad : HpackFault → Type 0
    Bad e = ((e ≡ BadIndex) × (field_at t (suc index) ≡ None)) ⊎ ((f : Field) × (field_at t (suc index) ≡ Some f) × ⊥)

    bad_to : (e : HpackFault) → Bad e → (e ≡ BadIndex) × (field_at t (suc index) ≡ None)
    bad_to e (inl p) = p
    bad_to e (inr p) = absurd p.2

-- a name at the start of some bytes
abbrev pub NameRead : Indexing → Table → List ℕ → List ℕ × List ℕ → Type 0
NameRead indexing t bytes x = (name : Name) × Begins (IsName indexing) bytes name x.1 × IsNameOf t name x.0

-- why no name can be read
abbrev pub NameFault : Indexing → Table → List ℕ → HpackFault → Type 0
NameFault indexing t bytes e = ((e ≡ BadInteger) × NoneBegins (IsNameIndex indexing) bytes) ⊎ ((x : ℕ × List ℕ) × Begins (IsNameIndex indexing) bytes x.0 x.1 × NameFaultAt t x.0 x.1 e)

pub zero_not_suc : (n : ℕ) → suc n ≡ 0 → ⊥
zero_not_suc n h = omega (arith, h)

pub name_to : (indexing : Indexing) (t : Table) (bytes : List ℕ) (index : ℕ) (rest : List ℕ) (x : List ℕ × List ℕ) → Begins (IsNameIndex indexing) bytes index rest → NameAt t index rest x → NameRead indexing t bytes x
name_to indexing t bytes zero rest x b s =
    (NameString x.0, (b.0 ++ s.0, b.1 ∙ ap (λ l. b.0 ++ l) s.1 ∙ sym (append_assoc b.0 s.0 x.1), (s.0, (b.0, refl, b.2), s.2)), refl)
name_to indexing t bytes (suc index) rest x b s =
    subst (NameRead indexing t bytes) s.2 (NameIndex (suc index), (b.0, b.1, (b.2, zero_not_suc index)), (s.0, s.1, refl))

name_back : (indexing : Indexing) (t : Table) (bytes : List ℕ) (name : Name) (x : List ℕ × List ℕ) → Begins (IsName indexing) bytes name x.1 → IsNameOf t name x.0 → (i : ℕ × List ℕ) × Begins (IsNameIndex indexing) bytes i.0 i.1 × NameAt t i.0 i.1 x
name_back indexing t bytes (NameString text) x b is =
    ((0, b.2.0 ++ x.1), (b.2.1.0, b.1 ∙ ap (λ l. l ++ x.1) b.2.1.1 ∙ append_assoc b.2.1.0 b.2.0 x.1, b.2.1.2), (b.2.0, refl, subst (IsString b.2.0) (sym is) b.2.2))
name_back indexing t bytes (NameIndex zero) x b is = absurd (b.2.1 refl)
name_back indexing t bytes (NameIndex (suc index)) x b is =
    ((suc index, x.1), (b.0, b.1, b.2.0), (is.0, is.1, ap (λ n. (n, x.1)) (sym is.2)))

exact_name : (indexing : Indexing) (t : Table) (first : ℕ) (bytes : List ℕ) → Prefix (name_bits indexing) (name_mark indexing) → name_mark indexing ≤ first → first < name_mark indexing + 2 ^ name_bits indexing → AreBytes (first ∷ bytes) → Exact (and_then (index_at (name_bits indexing) first bytes) (λ i. name_by t i.0 i.1)) (NameRead indexing t (first ∷ bytes)) (NameFault indexing t (first ∷ bytes))
exact_name indexing t first bytes p least most are =
    exact_as (and_then (index_at (name_bits indexing) first bytes) (λ i. name_by t i.0 i.1))
    (λ x. (i : ℕ × List ℕ) × Begins (IsNameIndex indexing) (first ∷ bytes) i.0 i.1 × NameAt t i.0 i.1 x) (NameRead indexing t (first ∷ bytes)) (NameFault indexing t (first ∷ bytes)) (NameFault indexing t (first ∷ bytes))
    (exact_then (index_at (name_bits indexing) first bytes) (λ i. name_by t i.0 i.1) (λ i. Begins (IsNameIndex indexing) (first ∷ bytes) i.0 i.1) (λ e. (e ≡ BadInteger) × NoneBegins (IsNameIndex indexing) (first ∷ bytes)) (λ i x. NameAt t i.0 i.1 x) (λ i e. NameFaultAt t i.0 i.1 e)
    (exact_integer (name_bits indexing) (name_mark indexing) first bytes p least most are.1)
    (λ i there. exact_name_at t i.0 i.1 (rest_bytes (IsNameIndex indexing) (first ∷ bytes) i.0 i.1 are there)))
    (λ x p. name_to indexing t (first ∷ bytes) p.0.0 p.0.1 x p.1 p.2)
    (λ x p. name_back indexing t (first ∷ bytes) p.0 x p.1 p.2)
    (λ e h. h) (λ e h. h)

then_assoc : {A B C : Type 0} (f : Result A HpackFault) (g : A → Result B HpackFault) (h : B → Result C HpackFault) → and_then f (λ x. and_then (g x) h) ≡ and_then (and_then f g) h
then_assoc (Ok x) g h = refl
then_assoc (Err e) g h = refl

same_indexing : (a b : Indexing) → literal_kind a ≡ literal_kind b → a ≡ b
same_indexing WithIncrementalIndexing WithIncrementalIndexing h = refl
same_indexing WithIncrementalIndexing WithoutIndexing h = absurd (cc h)
same_indexing WithIncrementalIndexing NeverIndexed h = absurd (cc h)
same_indexing WithoutIndexing WithIncrementalIndexing h = absurd (cc h)
same_indexing WithoutIndexing WithoutIndexing h = refl
same_indexing WithoutIndexing NeverIndexed h = absurd (cc h)
same_indexing NeverIndexed WithIncrementalIndexing h = absurd (cc h)
same_indexing NeverIndexed WithoutIndexing h = absurd (cc h)
same_indexing NeverIndexed NeverIndexed h = refl

not_indexed : (a : Indexing) → kinds.Indexed ≡ literal_kind a → ⊥
not_indexed WithIncrementalIndexing h = cc h
not_indexed WithoutIndexing h = cc h
not_indexed NeverIndexed h = cc h

not_update : (a : Indexing) → kinds.DynamicTableSizeUpdate ≡ literal_kind a → ⊥
not_update WithIncrementalIndexing h = cc h
not_update WithoutIndexing h = cc h
not_update NeverIndexed h = cc h

-- why no literal can be read, other than for its size
abbrev pub FieldFault : Indexing → Table → List ℕ → HpackFault → Type 0
FieldFault indexing t bytes e = NameFault indexing t bytes e ⊎ ((x : List ℕ × List ℕ) × NameRead indexing t bytes x × StringFault x.1 e)

pub exact_literal_field : (indexing : Indexing) (t : Table) (first : ℕ) (bytes : List ℕ) → Prefix (name_bits indexing) (name_mark indexing) → name_mark indexing ≤ first → first < name_mark indexing + 2 ^ name_bits indexing → AreBytes (first ∷ bytes) → Exact (literal_at t (name_bits indexing) first bytes) (FieldOfKind (literal_kind indexing) t (first ∷ bytes)) (FieldFault indexing t (first ∷ bytes))
exact_literal_field indexing t first bytes p least most are =
    exact_as (literal_at t (name_bits indexing) first bytes) Read (FieldOfKind (literal_kind indexing) t (first ∷ bytes)) Bad (FieldFault indexing t (first ∷ bytes))
    (subst (λ f. Exact f Read Bad) (sym (then_assoc (index_at (name_bits indexing) first bytes) (λ i. name_by t i.0 i.1) (λ name. and_then (text_at name.1) (λ value. Ok (record { name = name.0; value = value.0 }, value.1)))))
    (exact_then (and_then (index_at (name_bits indexing) first bytes) (λ i. name_by t i.0 i.1)) (λ name. and_then (text_at name.1) (λ value. Ok (record { name = name.0; value = value.0 }, value.1))) (NameRead indexing t (first ∷ bytes)) (NameFault indexing t (first ∷ bytes)) ReadOf BadOf
    (exact_name indexing t first bytes p least most are)
    (λ name there. exact_then (text_at name.1) (λ value. Ok (record { name = name.0; value = value.0 }, value.1)) (λ value. Begins IsString name.1 value.0 value.1) (StringFault name.1) (λ value y. (record { name = name.0; value = value.0 }, value.1) ≡ y) (λ value e. ⊥)
    (exact_string name.1 (rest_bytes (IsName indexing) (first ∷ bytes) there.0 name.1 are there.1))
    (λ value h. exact_ok (record { name = name.0; value = value.0 }, value.1)))))
    to back bad_to bad_back
  where
    ReadOf : List ℕ × List ℕ → Field × List ℕ → Type 0
    ReadOf name y = (value : List ℕ × List ℕ) × Begins IsString name.1 value.0 value.1 × ((record { name = name.0; value = value.0 }, value.1) ≡ y)

    BadOf : List ℕ × List ℕ → HpackFault → Type 0
    BadOf name e = StringFault name.1 e ⊎ ((value : List ℕ × List ℕ) × Begins IsString name.1 value.0 value.1 × ⊥)

    Read : Field × List ℕ → Type 0
    Read y = (name : List ℕ × List ℕ) × NameRead indexing t (first ∷ bytes) name × ReadOf name y

    Bad : HpackFault → Type 0
    Bad e = NameFault indexing t (first ∷ bytes) e ⊎ ((name : List ℕ × List ℕ) × NameRead indexing t (first ∷ bytes) name × BadOf name e)

    to : (y : Field × List ℕ) → Read y → FieldOfKind (literal_kind indexing) t (first ∷ bytes) y
    to y p =
        let name = p.1.1 in
        let value = p.2.1 in
        subst (FieldOfKind (literal_kind indexing) t (first ∷ bytes)) p.2.2
        (Literal indexing p.1.0 p.2.0.0, refl, (name.0 ++ value.0, name.1 ∙ ap (λ l. name.0 ++ l) value.1 ∙ sym (append_assoc name.0 value.0 p.2.0.1), (value.0, (name.0, refl, name.2), value.2)), (p.1.2, refl))

    back_of : (rep : Representation) (y : Field × List ℕ) → kind_for rep ≡ literal_kind indexing → Begins IsSpelled (first ∷ bytes) rep y.1 → IsFieldOf t rep y.0 → Read y
    back_of (Indexed index) y k b found = absurd (not_indexed indexing k)
    back_of (DynamicTableSizeUpdate size) y k b found = absurd (not_update indexing k)
    back_of (Literal other name value) y k b found = same (subst (λ a. Begins IsSpelled (first ∷ bytes) (Literal a name value) y.1) (same_indexing other indexing k) b)
      where
        same : Begins IsSpelled (first ∷ bytes) (Literal indexing name value) y.1 → Read y
        same c =
            let n = c.2.1 in
            ((y.0.name, c.2.0 ++ y.1), (name, (n.0, c.1 ∙ ap (λ l. l ++ y.1) n.1 ∙ append_assoc n.0 c.2.0 y.1, n.2), found.0), ((value, y.1), (c.2.0, refl, c.2.2), ap (λ v. (record { name = y.0.name; value = v }, y.1)) (sym found.1)))

    back : (y : Field × List ℕ) → FieldOfKind (literal_kind indexing) t (first ∷ bytes) y → Read y
    back y p = back_of p.0 y p.1 p.2 p.3

    bad_to : (e : HpackFault) → Bad e → FieldFault indexing t (first ∷ bytes) e
    bad_to e (inl p) = inl p
    bad_to e (inr p) = inr (p.0, p.1, on p.2)
      where
        on : BadOf p.0 e → StringFault p.0.1 e
        on (inl q) = q
        on (inr q) = absurd q.2

    bad_back : (e : HpackFault) → FieldFault indexing t (first ∷ bytes) e → Bad e
    bad_back e (inl p) = inl p
    bad_back e (inr p) = inr (p.0, p.1, inl p.2)
