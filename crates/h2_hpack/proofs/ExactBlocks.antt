-- Blocks are read exactly as they are spelled.
use Rattle.std.proofs.Common.{◌≡◌, ◌⊎◌, ℕ, zero, suc, ◌+◌, ◌<◌, ◌≤◌, ◌^◌, List, [], ◌∷◌, ◌++◌, refl, sym, ◌∙◌, ap, subst, arith, None, Ok, Err, inl, inr, lit≤}
use Rattle.std.proofs.lemmas.Bool.{cases_lt, le-leb, lt-leb}
use Rattle.grpc_base.specs.declared.fields.Field.{Field}
use Rattle.h2_hpack.specs.declared.fault.HpackFault.{HpackFault}
use Rattle.h2_hpack.specs.declared.fault.HpackFault.TheVariants.{BadIndex, BadInteger, BadHuffman, BadSize, TooLong, NoMemory}
use Rattle.h2_hpack.specs.declared.kind.Kind.{Kind}
use Rattle.h2_hpack.specs.declared.kind.Kind.TheVariants as kinds
use Rattle.h2_hpack.specs.Kinds.{kind_of}
use Rattle.h2_hpack.specs.Blocks.{Reading, index_at, within_table, size_at, resized}
use Rattle.h2_hpack.specs.Tables.{Table, field_at, table_resized}
use Rattle.h2_hpack.specs.Representations.{Begins, NoneBegins, IsInteger, Indexing, WithIncrementalIndexing, WithoutIndexing, NeverIndexed, Name, NameIndex, NameString, Representation, Indexed, Literal, DynamicTableSizeUpdate, name_bits, name_mark, IsNameIndex, IsName, IsSpelled, UpdatesSize, StartsWith, IsTooLong, IndexedFault, StringFollows, LiteralFault, SizeFault}
use Rattle.h2_hpack.proofs.ExactIntegers.{Exact, exact_then, exact_as, exact_ok, AreBytes, Prefix, exact_integer}
use Rattle.h2_hpack.proofs.ExactStrings.{StringFault, first_of_integer}
use Rattle.h2_hpack.proofs.ExactLiterals.{literal_kind, kind_for, exact_test, TooLongOfKind, IndexFault, NameFaultAt, NameFault, zero_not_suc, FieldFault}

-- the first bits of each kind
abbrev pub kind_bits : Kind → ℕ
kind_bits kinds.Indexed = 7
kind_bits kinds.LiteralWithIncrementalIndexing = 6
kind_bits kinds.DynamicTableSizeUpdate = 5
kind_bits kinds.LiteralWithoutIndexing = 4
kind_bits kinds.LiteralNeverIndexed = 4

abbrev pub kind_mark : Kind → ℕ
kind_mark kinds.Indexed = 128
kind_mark kinds.LiteralWithIncrementalIndexing = 64
kind_mark kinds.DynamicTableSizeUpdate = 32
kind_mark kinds.LiteralWithoutIndexing = 0
kind_mark kinds.LiteralNeverIndexed = 16

pub kind_from : (k : Kind) (first : ℕ) → kind_mark k ≤ first → first < kind_mark k + 2 ^ kind_bits k → kind_of first ≡ k
kind_from kinds.Indexed first least most = rw (le-leb 128 first least) refl
kind_from kinds.LiteralWithIncrementalIndexing first least most =
    let below : first < 128 = most in
    rw (lt-leb 128 first below, le-leb 64 first least) refl
kind_from kinds.DynamicTableSizeUpdate first least most =
    let below : first < 64 = most in
    rw (lt-leb 128 first (omega (arith, below)), lt-leb 64 first below, le-leb 32 first least) refl
kind_from kinds.LiteralNeverIndexed first least most =
    let below : first < 32 = most in
    rw (lt-leb 128 first (omega (arith, below)), lt-leb 64 first (omega (arith, below)), lt-leb 32 first below, le-leb 16 first least) refl
kind_from kinds.LiteralWithoutIndexing first least most =
    let below : first < 16 = most in
    rw (lt-leb 128 first (omega (arith, below)), lt-leb 64 first (omega (arith, below)), lt-leb 32 first (omega (arith, below)), lt-leb 16 first below) refl

-- the kind of a byte
pub record KindOf (first : ℕ) : Type 0 where
  pub kind : Kind
  pub least : kind_mark kind ≤ first
  pub most : first < kind_mark kind + 2 ^ kind_bits kind

pub kind_there : (first : ℕ) → first < 256 → KindOf first
kind_there first byte =
    elim (cases_lt first 128) [
      | inr high ↦ record { kind = kinds.Indexed; least = high; most = byte }
      | inl low ↦ elim (cases_lt first 64) [
        | inr high ↦ record { kind = kinds.LiteralWithIncrementalIndexing; least = high; most = low }
        | inl low ↦ elim (cases_lt first 32) [
          | inr high ↦ record { kind = kinds.DynamicTableSizeUpdate; least = high; most = low }
          | inl low ↦ elim (cases_lt first 16) [
            | inr high ↦ record { kind = kinds.LiteralNeverIndexed; least = high; most = low }
            | inl low ↦ record { kind = kinds.LiteralWithoutIndexing; least = omega arith; most = low }
          ]
        ]
      ]
    ]

-- the first byte of a name, and of a representation
name_some : (indexing : Indexing) → 1 ≤ 2 ^ name_bits indexing
name_some WithIncrementalIndexing = lit≤ tt
name_some WithoutIndexing = lit≤ tt
name_some NeverIndexed = lit≤ tt

-- bytes that begin with bytes of a kind are of that kind
starts_longer : (bits mark : ℕ) (leading rest : List ℕ) → StartsWith bits mark leading → StartsWith bits mark (leading ++ rest)
starts_longer bits mark leading rest s = record { first = s.first; rest = s.rest ++ rest; bytes_are = ap (λ l. l ++ rest) s.bytes_are; least = s.least; most = s.most }

starts_as : (bits mark : ℕ) (leading rest bytes : List ℕ) → bytes ≡ leading ++ rest → StartsWith bits mark leading → StartsWith bits mark bytes
starts_as bits mark leading rest bytes whole s = subst (StartsWith bits mark) (sym whole) (starts_longer bits mark leading rest s)

first_of_name : (indexing : Indexing) (bytes : List ℕ) (name : Name) → IsName indexing bytes name → StartsWith (name_bits indexing) (name_mark indexing) bytes
first_of_name indexing bytes (NameIndex index) is = first_of_integer (name_bits indexing) (name_mark indexing) bytes index (name_some indexing) is.0
first_of_name indexing bytes (NameString text) is =
    starts_as (name_bits indexing) (name_mark indexing) is.1.0 is.0 bytes is.1.1 (first_of_integer (name_bits indexing) (name_mark indexing) is.1.0 0 (name_some indexing) is.1.2)

abbrev pub StartsAs : Kind → List ℕ → Type 0
StartsAs k bytes = StartsWith (kind_bits k) (kind_mark k) bytes

pub literal_starts : (indexing : Indexing) (bytes : List ℕ) → StartsWith (name_bits indexing) (name_mark indexing) bytes → StartsAs (literal_kind indexing) bytes
literal_starts WithIncrementalIndexing bytes s = s
literal_starts WithoutIndexing bytes s = s
literal_starts NeverIndexed bytes s = s

pub first_of_spelled : (rep : Representation) (bytes : List ℕ) → IsSpelled bytes rep → StartsAs (kind_for rep) bytes
first_of_spelled (Indexed index) bytes is = first_of_integer 7 128 bytes index (lit≤ tt) is
first_of_spelled (Literal indexing name value) bytes is =
    literal_starts indexing bytes (starts_as (name_bits indexing) (name_mark indexing) is.1.0 is.0 bytes is.1.1 (first_of_name indexing is.1.0 name is.1.2))
first_of_spelled (DynamicTableSizeUpdate size) bytes is = first_of_integer 5 32 bytes size (lit≤ tt) is

heads : (a b : ℕ) (xs ys : List ℕ) → a ∷ xs ≡ b ∷ ys → a ≡ b
heads a b xs ys h = cc h

pub kind_started : (k : Kind) (first : ℕ) (bytes : List ℕ) → StartsAs k (first ∷ bytes) → kind_of first ≡ k
kind_started k first bytes s = ap kind_of (heads first s.first bytes s.rest s.bytes_are) ∙ kind_from k s.first s.least s.most

pub kind_spelled : (rep : Representation) (first : ℕ) (bytes rest : List ℕ) → Begins IsSpelled (first ∷ bytes) rep rest → kind_of first ≡ kind_for rep
kind_spelled rep first bytes rest b = kind_started (kind_for rep) first bytes (starts_as (kind_bits (kind_for rep)) (kind_mark (kind_for rep)) b.0 rest (first ∷ bytes) b.1 (first_of_spelled rep b.0 b.2))

-- the same fault
fault_as : (P : HpackFault → Type 0) (d e : HpackFault) → e ≡ d → P d → P e
fault_as P d e same h = subst P (sym same) h

-- a field that makes the list too long
too_long_to : (k : Kind) (r : Reading) (bytes : List ℕ) (e : HpackFault) → TooLongOfKind k r bytes e → IsTooLong r bytes
too_long_to k r bytes e p = record { representation = p.1.0; rest = p.0.1; spelled = p.1.2; field = p.0.0; is_field = p.1.3; above = p.2.1 }

too_long_back : (k : Kind) (r : Reading) (first : ℕ) (bytes : List ℕ) → kind_of first ≡ k → IsTooLong r (first ∷ bytes) → TooLongOfKind k r (first ∷ bytes) TooLong
too_long_back k r first bytes is p =
    ((p.field, p.rest), (p.representation, sym (kind_spelled p.representation first bytes p.rest p.spelled) ∙ is, p.spelled, p.is_field), (refl, p.above))

-- indexed fields
pub indexed_bad : (r : Reading) (bytes : List ℕ) (e : HpackFault) → IndexFault r.table bytes e ⊎ TooLongOfKind kinds.Indexed r bytes e → IndexedFault r bytes e
indexed_bad r bytes e (inl (inl p)) = fault_as (IndexedFault r bytes) BadInteger e p.0 p.1
indexed_bad r bytes e (inl (inr p)) = fault_as (IndexedFault r bytes) BadIndex e p.2.0 (p.0.0, p.0.1, p.1, p.2.1)
indexed_bad r bytes e (inr p) = fault_as (IndexedFault r bytes) TooLong e p.2.0 (too_long_to kinds.Indexed r bytes e p)

pub indexed_bad_back : (r : Reading) (first : ℕ) (bytes : List ℕ) → kind_of first ≡ kinds.Indexed → (e : HpackFault) → IndexedFault r (first ∷ bytes) e → IndexFault r.table (first ∷ bytes) e ⊎ TooLongOfKind kinds.Indexed r (first ∷ bytes) e
indexed_bad_back r first bytes is BadIndex h = inl (inr ((h.0, h.1), h.2, (refl, h.3)))
indexed_bad_back r first bytes is BadInteger h = inl (inl (refl, h))
indexed_bad_back r first bytes is BadHuffman h = absurd h
indexed_bad_back r first bytes is BadSize h = absurd h
indexed_bad_back r first bytes is TooLong h = inr (too_long_back kinds.Indexed r first bytes is h)
indexed_bad_back r first bytes is NoMemory h = absurd h

-- literals
follows_bad : (indexing : Indexing) (r : Reading) (bytes rest : List ℕ) (e : HpackFault) → StringFollows indexing r bytes rest → StringFault rest e → LiteralFault indexing r bytes e
follows_bad indexing r bytes rest e f (inl p) = fault_as (LiteralFault indexing r bytes) BadInteger e p.0 (inr (rest, f, p.1))
follows_bad indexing r bytes rest e f (inr p) = fault_as (LiteralFault indexing r bytes) BadHuffman e p.0 (rest, f, p.1)

name_bad : (indexing : Indexing) (r : Reading) (bytes : List ℕ) (index : ℕ) (rest : List ℕ) (e : HpackFault) → Begins (IsNameIndex indexing) bytes index rest → NameFaultAt r.table index rest e → LiteralFault indexing r bytes e
name_bad indexing r bytes zero rest e b h = follows_bad indexing r bytes rest e (inl b) h
name_bad indexing r bytes (suc index) rest e b h = fault_as (LiteralFault indexing r bytes) BadIndex e h.0 (suc index, rest, b, zero_not_suc index, h.1)

pub literal_bad : (indexing : Indexing) (r : Reading) (bytes : List ℕ) (e : HpackFault) → FieldFault indexing r.table bytes e ⊎ TooLongOfKind (literal_kind indexing) r bytes e → LiteralFault indexing r bytes e
literal_bad indexing r bytes e (inl (inl (inl p))) = fault_as (LiteralFault indexing r bytes) BadInteger e p.0 (inl p.1)
literal_bad indexing r bytes e (inl (inl (inr p))) = name_bad indexing r bytes p.0.0 p.0.1 e p.1 p.2
literal_bad indexing r bytes e (inl (inr p)) = follows_bad indexing r bytes p.0.1 e (inr (p.1.0, p.0.0, p.1.1, p.1.2)) p.2
literal_bad indexing r bytes e (inr p) = fault_as (LiteralFault indexing r bytes) TooLong e p.2.0 (too_long_to (literal_kind indexing) r bytes e p)

follows_back : (indexing : Indexing) (r : Reading) (bytes rest : List ℕ) (e : HpackFault) → StringFollows indexing r bytes rest → StringFault rest e → FieldFault indexing r.table bytes e
follows_back indexing r bytes rest e (inl b) h = inl (inr ((0, rest), b, h))
follows_back indexing r bytes rest e (inr p) h = inr ((p.1, rest), (p.0, p.2, p.3), h)

index_back : (indexing : Indexing) (r : Reading) (bytes : List ℕ) (index : ℕ) (rest : List ℕ) → Begins (IsNameIndex indexing) bytes index rest → (index ≡ 0 → ⊥) → field_at r.table index ≡ None → NameFault indexing r.table bytes BadIndex
index_back indexing r bytes zero rest b some none = absurd (some refl)
index_back indexing r bytes (suc index) rest b some none = inr ((suc index, rest), b, (refl, none))

pub literal_bad_back : (indexing : Indexing) (r : Reading) (first : ℕ) (bytes : List ℕ) → kind_of first ≡ literal_kind indexing → (e : HpackFault) → LiteralFault indexing r (first ∷ bytes) e → FieldFault indexing r.table (first ∷ bytes) e ⊎ TooLongOfKind (literal_kind indexing) r (first ∷ bytes) e
literal_bad_back indexing r first bytes is BadIndex h = inl (inl (index_back indexing r (first ∷ bytes) h.0 h.1 h.2 h.3 h.4))
literal_bad_back indexing r first bytes is BadInteger (inl none) = inl (inl (inl (refl, none)))
literal_bad_back indexing r first bytes is BadInteger (inr p) = inl (follows_back indexing r (first ∷ bytes) p.0 BadInteger p.1 (inl (refl, p.2)))
literal_bad_back indexing r first bytes is BadHuffman h = inl (follows_back indexing r (first ∷ bytes) h.0 BadHuffman h.1 (inr (refl, h.2)))
literal_bad_back indexing r first bytes is BadSize h = absurd h
literal_bad_back indexing r first bytes is TooLong h = inr (too_long_back (literal_kind indexing) r first bytes is h)
literal_bad_back indexing r first bytes is NoMemory h = absurd h

-- dynamic table size updates
update_bits : Prefix 5 32
update_bits = record { low = λ k h. let below : k < 32 = h in omega (arith, below); some = lit≤ tt; few = lit≤ tt }

-- what a size update does
abbrev pub UpdatedOfKind : Reading → List ℕ → Reading × List ℕ → Type 0
UpdatedOfKind r bytes y = (size : ℕ) × Begins (IsInteger 5 32) bytes size y.1 × UpdatesSize size r y.0

exact_first_update : (t : Table) (first : ℕ) (bytes : List ℕ) → 32 ≤ first → first < 64 → AreBytes bytes → Exact (resized (record { fields = []; table = t }) first bytes) (UpdatedOfKind (record { fields = []; table = t }) (first ∷ bytes)) (SizeFault (record { fields = []; table = t }) (first ∷ bytes))
exact_first_update t first bytes least most are =
    exact_as (resized (record { fields = []; table = t }) first bytes) Read (UpdatedOfKind (record { fields = []; table = t }) (first ∷ bytes)) Bad (SizeFault (record { fields = []; table = t }) (first ∷ bytes))
    (exact_then (size_at first bytes) (λ x. Ok (record { fields = []; table = table_resized t x.0 }, x.1)) SizeRead SizeBad (λ x y. (record { fields = []; table = table_resized t x.0 }, x.1) ≡ y) (λ x e. ⊥)
    (exact_then (index_at 5 first bytes) within_table (λ x. Begins (IsInteger 5 32) (first ∷ bytes) x.0 x.1) (λ e. (e ≡ BadInteger) × NoneBegins (IsInteger 5 32) (first ∷ bytes)) (λ x y. (x ≡ y) × (x.0 ≤ 4096)) (λ x e. (e ≡ BadSize) × (4096 < x.0))
    (exact_integer 5 32 first bytes update_bits least most are)
    (λ x there. exact_test (within_table x) x BadSize x.0 4096 refl))
    (λ x there. exact_ok (record { fields = []; table = table_resized t x.0 }, x.1)))
    to back bad_to bad_back
  where
    SizeRead : ℕ × List ℕ → Type 0
    SizeRead y = (x : ℕ × List ℕ) × Begins (IsInteger 5 32) (first ∷ bytes) x.0 x.1 × ((x ≡ y) × (x.0 ≤ 4096))

    SizeBad : HpackFault → Type 0
    SizeBad e = ((e ≡ BadInteger) × NoneBegins (IsInteger 5 32) (first ∷ bytes)) ⊎ ((x : ℕ × List ℕ) × Begins (IsInteger 5 32) (first ∷ bytes) x.0 x.1 × ((e ≡ BadSize) × (4096 < x.0)))

    Read : Reading × List ℕ → Type 0
    Read y = (x : ℕ × List ℕ) × SizeRead x × ((record { fields = []; table = table_resized t x.0 }, x.1) ≡ y)

    Bad : HpackFault → Type 0
    Bad e = SizeBad e ⊎ ((x : ℕ × List ℕ) × SizeRead x × ⊥)

    to : (y : Reading × List ℕ) → Read y → UpdatedOfKind (record { fields = []; table = t }) (first ∷ bytes) y
    to y p =
        let x = p.1.0 in
        subst (UpdatedOfKind (record { fields = []; table = t }) (first ∷ bytes)) (ap (λ (z : ℕ × List ℕ). (record { fields = []; table = table_resized t z.0 }, z.1)) p.1.2.0 ∙ p.2)
        (x.0, p.1.1, record { no_field = refl; within = p.1.2.1; fields = refl; table = refl })

    back : (y : Reading × List ℕ) → UpdatedOfKind (record { fields = []; table = t }) (first ∷ bytes) y → Read y
    back y p =
        let u = p.2 in
        let state : record { fields = []; table = table_resized t p.0 } ≡ y.0 = λ i. record { fields = sym u.fields i; table = sym u.table i } in
        ((p.0, y.1), ((p.0, y.1), p.1, (refl, u.within)), ap (λ z. (z, y.1)) state)

    bad_to : (e : HpackFault) → Bad e → SizeFault (record { fields = []; table = t }) (first ∷ bytes) e
    bad_to e (inl (inl p)) = fault_as (SizeFault (record { fields = []; table = t }) (first ∷ bytes)) BadInteger e p.0 (refl, p.1)
    bad_to e (inl (inr p)) = fault_as (SizeFault (record { fields = []; table = t }) (first ∷ bytes)) BadSize e p.2.0 (inr (p.0.0, p.0.1, p.1, p.2.1))
    bad_to e (inr p) = absurd p.2

    bad_back : (e : HpackFault) → SizeFault (record { fields = []; table = t }) (first ∷ bytes) e → Bad e
    bad_back BadIndex h = absurd h
    bad_back BadInteger h = inl (inl (refl, h.1))
    bad_back BadHuffman h = absurd h
    bad_back BadSize (inl some) = absurd (some refl)
    bad_back BadSize (inr p) = inl (inr ((p.0, p.1), p.2, (refl, p.3)))
    bad_back TooLong h = absurd h
    bad_back NoMemory h = absurd h

no_list : (f : Field) (fields : List Field) → f ∷ fields ≡ [] → ⊥
no_list f fields h = cc h

exact_late_update : (f : Field) (fields : List Field) (t : Table) (first : ℕ) (bytes : List ℕ) → Exact (resized (record { fields = f ∷ fields; table = t }) first bytes) (UpdatedOfKind (record { fields = f ∷ fields; table = t }) (first ∷ bytes)) (SizeFault (record { fields = f ∷ fields; table = t }) (first ∷ bytes))
exact_late_update f fields t first bytes = record {
  good = λ y h. absurd (cc h);
  bad = λ e h. late e (cc h);
  good_back = λ y p. absurd (no_list f fields p.2.no_field);
  bad_back = bad_back;
}
  where
    late : (e : HpackFault) → BadSize ≡ e → SizeFault (record { fields = f ∷ fields; table = t }) (first ∷ bytes) e
    late e h = subst (SizeFault (record { fields = f ∷ fields; table = t }) (first ∷ bytes)) h (inl (no_list f fields))

    bad_back : (e : HpackFault) → SizeFault (record { fields = f ∷ fields; table = t }) (first ∷ bytes) e → resized (record { fields = f ∷ fields; table = t }) first bytes ≡ Err e
    bad_back BadIndex h = absurd h
    bad_back BadInteger h = absurd (no_list f fields h.0)
    bad_back BadHuffman h = absurd h
    bad_back BadSize h = refl
    bad_back TooLong h = absurd h
    bad_back NoMemory h = absurd h

pub exact_update : (fields : List Field) (t : Table) (first : ℕ) (bytes : List ℕ) → 32 ≤ first → first < 64 → AreBytes bytes → Exact (resized (record { fields = fields; table = t }) first bytes) (UpdatedOfKind (record { fields = fields; table = t }) (first ∷ bytes)) (SizeFault (record { fields = fields; table = t }) (first ∷ bytes))
exact_update [] t first bytes least most are = exact_first_update t first bytes least most are
exact_update (f ∷ fields) t first bytes least most are = exact_late_update f fields t first bytes
