-- A block is representations in turn, and its fault is that of the first one that cannot be read.
use Rattle.std.proofs.Common.{◌≡◌, ◌⊎◌, ℕ, zero, suc, ◌+◌, ◌<◌, ◌≤◌, ◌^◌, List, [], ◌∷◌, length, refl, sym, ◌∙◌, ap, subst, arith, length-append, Result, Ok, Err, inl, inr, lit≤}
use Rattle.grpc_base.specs.declared.fields.Field.{Field}
use Rattle.h2_hpack.specs.declared.fault.HpackFault.{HpackFault}
use Rattle.h2_hpack.specs.declared.kind.Kind.{Kind}
use Rattle.h2_hpack.specs.declared.kind.Kind.TheVariants as kinds
use Rattle.h2_hpack.specs.Kinds.{kind_of}
use Rattle.h2_hpack.specs.Blocks.{Reading, and_then, block_of, literal_at, indexed_at, with_field, next_as, reading_from}
use Rattle.h2_hpack.specs.Laws.{BlocksAreRepresentations}
use Rattle.h2_hpack.specs.Representations.{Begins, Indexing, WithIncrementalIndexing, WithoutIndexing, NeverIndexed, Representation, Indexed, Literal, DynamicTableSizeUpdate, name_bits, name_mark, IsSpelled, table_after, AddsField, Effect, Reads, IsBlock, IndexedFault, LiteralFault, SizeFault, Fault, IsFaulty}
use Rattle.h2_hpack.specs.Tables.{Table, table_with}
use Rattle.h2_hpack.proofs.ExactIntegers.{Exact, exact_as, AreBytes, rest_bytes, Prefix}
use Rattle.h2_hpack.proofs.ExactLiterals.{literal_kind, kind_for, AddedOfKind, TooLongOfKind, exact_adding, IndexFault, exact_indexed_field, FieldFault, exact_literal_field}
use Rattle.h2_hpack.proofs.ExactBlocks.{StartsAs, UpdatedOfKind, exact_update, first_of_spelled, indexed_bad, indexed_bad_back, kind_bits, kind_from, kind_mark, kind_spelled, kind_started, kind_there, literal_bad, literal_bad_back, literal_starts}

-- what is read as a representation of one kind
abbrev pub ReadOfKind : Kind → Reading → List ℕ → Reading × List ℕ → Type 0
ReadOfKind k r bytes y = (rep : Representation) × (kind_for rep ≡ k) × Begins IsSpelled bytes rep y.1 × Effect rep r y.0

-- why no representation of one kind can be read
abbrev pub KindFault : Kind → Reading → List ℕ → HpackFault → Type 0
KindFault kinds.Indexed r bytes e = IndexedFault r bytes e
KindFault kinds.LiteralWithIncrementalIndexing r bytes e = LiteralFault WithIncrementalIndexing r bytes e
KindFault kinds.DynamicTableSizeUpdate r bytes e = SizeFault r bytes e
KindFault kinds.LiteralWithoutIndexing r bytes e = LiteralFault WithoutIndexing r bytes e
KindFault kinds.LiteralNeverIndexed r bytes e = LiteralFault NeverIndexed r bytes e

added_to : (rep : Representation) (r after : Reading) → AddsField rep r after → Effect rep r after
added_to (Indexed index) r after a = a
added_to (Literal indexing name value) r after a = a
added_to (DynamicTableSizeUpdate size) r after a = absurd a.is_field

added_back : (rep : Representation) (r after : Reading) → (kind_for rep ≡ kinds.DynamicTableSizeUpdate → ⊥) → Effect rep r after → AddsField rep r after
added_back (Indexed index) r after not_so a = a
added_back (Literal indexing name value) r after not_so a = a
added_back (DynamicTableSizeUpdate size) r after not_so a = absurd (not_so refl)

keeps_table : (rep : Representation) (t : Table) (f : Field) → (kind_for rep ≡ kinds.LiteralWithIncrementalIndexing → ⊥) → t ≡ table_after rep t f
keeps_table (Indexed index) t f not_so = refl
keeps_table (Literal WithIncrementalIndexing name value) t f not_so = absurd (not_so refl)
keeps_table (Literal WithoutIndexing name value) t f not_so = refl
keeps_table (Literal NeverIndexed name value) t f not_so = refl
keeps_table (DynamicTableSizeUpdate size) t f not_so = refl

adds_table : (rep : Representation) (t : Table) (f : Field) → kind_for rep ≡ kinds.LiteralWithIncrementalIndexing → table_with t f ≡ table_after rep t f
adds_table (Indexed index) t f is = absurd (cc is)
adds_table (Literal WithIncrementalIndexing name value) t f is = refl
adds_table (Literal WithoutIndexing name value) t f is = absurd (cc is)
adds_table (Literal NeverIndexed name value) t f is = absurd (cc is)
adds_table (DynamicTableSizeUpdate size) t f is = absurd (cc is)

-- a field that is read is a representation that is read
exact_added : (k : Kind) (r : Reading) (bytes : List ℕ) (f : Result (Reading × List ℕ) HpackFault) (X : HpackFault → Type 0) → (k ≡ kinds.DynamicTableSizeUpdate → ⊥) → Exact f (AddedOfKind k r bytes) X → Exact f (ReadOfKind k r bytes) X
exact_added k r bytes f X not_so is =
    exact_as f (AddedOfKind k r bytes) (ReadOfKind k r bytes) X X is
    (λ y p. (p.0, p.1, p.2, added_to p.0 r y.0 p.3))
    (λ y p. (p.0, p.1, p.2, added_back p.0 r y.0 (λ u. not_so (sym p.1 ∙ u)) p.3))
    (λ e h. h) (λ e h. h)

exact_indexed : (r : Reading) (first : ℕ) (bytes : List ℕ) → kind_of first ≡ kinds.Indexed → 128 ≤ first → first < 256 → AreBytes bytes → Exact (next_as kinds.Indexed r first bytes) (ReadOfKind kinds.Indexed r (first ∷ bytes)) (IndexedFault r (first ∷ bytes))
exact_indexed r first bytes is least most are =
    exact_as (next_as kinds.Indexed r first bytes) (ReadOfKind kinds.Indexed r (first ∷ bytes)) (ReadOfKind kinds.Indexed r (first ∷ bytes)) Bad (IndexedFault r (first ∷ bytes))
    (exact_added kinds.Indexed r (first ∷ bytes) (next_as kinds.Indexed r first bytes) Bad (λ h. cc h)
    (exact_adding kinds.Indexed r (first ∷ bytes) (λ f. r.table) (indexed_at r.table first bytes) (IndexFault r.table (first ∷ bytes)) (λ rep k f. keeps_table rep r.table f (λ h. not_both (sym k ∙ h)))
    (exact_indexed_field r.table first bytes least most are)))
    (λ y h. h) (λ y h. h) (indexed_bad r (first ∷ bytes)) (indexed_bad_back r first bytes is)
  where
    Bad : HpackFault → Type 0
    Bad e = IndexFault r.table (first ∷ bytes) e ⊎ TooLongOfKind kinds.Indexed r (first ∷ bytes) e

    not_both : kinds.Indexed ≡ kinds.LiteralWithIncrementalIndexing → ⊥
    not_both h = cc h

name_prefix : (indexing : Indexing) → Prefix (name_bits indexing) (name_mark indexing)
name_prefix WithIncrementalIndexing = record { low = λ k h. let below : k < 64 = h in omega (arith, below); some = lit≤ tt; few = lit≤ tt }
name_prefix WithoutIndexing = record { low = λ k h. let below : k < 16 = h in omega (arith, below); some = lit≤ tt; few = lit≤ tt }
name_prefix NeverIndexed = record { low = λ k h. let below : k < 16 = h in omega (arith, below); some = lit≤ tt; few = lit≤ tt }

no_update : (indexing : Indexing) → literal_kind indexing ≡ kinds.DynamicTableSizeUpdate → ⊥
no_update WithIncrementalIndexing h = cc h
no_update WithoutIndexing h = cc h
no_update NeverIndexed h = cc h

-- a literal with the table after it
abbrev pub literal_next : Indexing → (Field → Table) → Reading → ℕ → List ℕ → Result (Reading × List ℕ) HpackFault
literal_next indexing after r first bytes = and_then (literal_at r.table (name_bits indexing) first bytes) (λ x. and_then (with_field r.fields x.0 (after x.0)) (λ next. Ok (next, x.1)))

exact_literal : (indexing : Indexing) (after : Field → Table) (r : Reading) (first : ℕ) (bytes : List ℕ) → ((rep : Representation) → kind_for rep ≡ literal_kind indexing → (f : Field) → after f ≡ table_after rep r.table f) → kind_of first ≡ literal_kind indexing → name_mark indexing ≤ first → first < name_mark indexing + 2 ^ name_bits indexing → AreBytes (first ∷ bytes) → Exact (literal_next indexing after r first bytes) (ReadOfKind (literal_kind indexing) r (first ∷ bytes)) (LiteralFault indexing r (first ∷ bytes))
exact_literal indexing after r first bytes table is least most are =
    exact_as (literal_next indexing after r first bytes) (ReadOfKind (literal_kind indexing) r (first ∷ bytes)) (ReadOfKind (literal_kind indexing) r (first ∷ bytes)) Bad (LiteralFault indexing r (first ∷ bytes))
    (exact_added (literal_kind indexing) r (first ∷ bytes) (literal_next indexing after r first bytes) Bad (no_update indexing)
    (exact_adding (literal_kind indexing) r (first ∷ bytes) after (literal_at r.table (name_bits indexing) first bytes) (FieldFault indexing r.table (first ∷ bytes)) table
    (exact_literal_field indexing r.table first bytes (name_prefix indexing) least most are)))
    (λ y h. h) (λ y h. h) (literal_bad indexing r (first ∷ bytes)) (literal_bad_back indexing r first bytes is)
  where
    Bad : HpackFault → Type 0
    Bad e = FieldFault indexing r.table (first ∷ bytes) e ⊎ TooLongOfKind (literal_kind indexing) r (first ∷ bytes) e

exact_size_update : (r : Reading) (first : ℕ) (bytes : List ℕ) → 32 ≤ first → first < 64 → AreBytes bytes → Exact (next_as kinds.DynamicTableSizeUpdate r first bytes) (ReadOfKind kinds.DynamicTableSizeUpdate r (first ∷ bytes)) (SizeFault r (first ∷ bytes))
exact_size_update r first bytes least most are =
    exact_as (next_as kinds.DynamicTableSizeUpdate r first bytes) (UpdatedOfKind r (first ∷ bytes)) (ReadOfKind kinds.DynamicTableSizeUpdate r (first ∷ bytes)) (SizeFault r (first ∷ bytes)) (SizeFault r (first ∷ bytes))
    (exact_update r.fields r.table first bytes least most are)
    (λ y p. (DynamicTableSizeUpdate p.0, refl, p.1, p.2)) (λ y p. back p.0 y p.1 p.2 p.3) (λ e h. h) (λ e h. h)
  where
    back : (rep : Representation) (y : Reading × List ℕ) → kind_for rep ≡ kinds.DynamicTableSizeUpdate → Begins IsSpelled (first ∷ bytes) rep y.1 → Effect rep r y.0 → UpdatedOfKind r (first ∷ bytes) y
    back (Indexed index) y k b a = absurd (cc k)
    back (Literal indexing name value) y k b a = absurd (no_update indexing k)
    back (DynamicTableSizeUpdate size) y k b a = (size, b, a)

not_without : kinds.LiteralWithoutIndexing ≡ kinds.LiteralWithIncrementalIndexing → ⊥
not_without h = cc h

not_never : kinds.LiteralNeverIndexed ≡ kinds.LiteralWithIncrementalIndexing → ⊥
not_never h = cc h

pub exact_next : (k : Kind) (r : Reading) (first : ℕ) (bytes : List ℕ) → kind_of first ≡ k → kind_mark k ≤ first → first < kind_mark k + 2 ^ kind_bits k → AreBytes (first ∷ bytes) → Exact (next_as k r first bytes) (ReadOfKind k r (first ∷ bytes)) (KindFault k r (first ∷ bytes))
exact_next kinds.Indexed r first bytes is least most are = exact_indexed r first bytes is least are.0 are.1
exact_next kinds.LiteralWithIncrementalIndexing r first bytes is least most are =
    exact_literal WithIncrementalIndexing (table_with r.table) r first bytes (λ rep k f. adds_table rep r.table f k) is least most are
exact_next kinds.DynamicTableSizeUpdate r first bytes is least most are = exact_size_update r first bytes least most are.1
exact_next kinds.LiteralWithoutIndexing r first bytes is least most are =
    exact_literal WithoutIndexing (λ f. r.table) r first bytes (λ rep k f. keeps_table rep r.table f (λ h. not_without (sym k ∙ h))) is least most are
exact_next kinds.LiteralNeverIndexed r first bytes is least most are =
    exact_literal NeverIndexed (λ f. r.table) r first bytes (λ rep k f. keeps_table rep r.table f (λ h. not_never (sym k ∙ h))) is least most are

-- a representation with the kind of its first byte
pub exact_first : (r : Reading) (first : ℕ) (bytes : List ℕ) → AreBytes (first ∷ bytes) → Exact (next_as (kind_of first) r first bytes) (ReadOfKind (kind_of first) r (first ∷ bytes)) (KindFault (kind_of first) r (first ∷ bytes))
exact_first r first bytes are =
    let there = kind_there first are.0 in
    let is : kind_of first ≡ there.kind = kind_from there.kind first there.least there.most in
    subst (λ k. Exact (next_as k r first bytes) (ReadOfKind k r (first ∷ bytes)) (KindFault k r (first ∷ bytes))) (sym is) (exact_next there.kind r first bytes is there.least there.most are)

-- the fault of a kind is that of bytes that start so
fault_of_kind : (k : Kind) (r : Reading) (bytes : List ℕ) (e : HpackFault) → StartsAs k bytes → KindFault k r bytes e → Fault r bytes e
fault_of_kind kinds.Indexed r bytes e s h = inl (s, h)
fault_of_kind kinds.LiteralWithIncrementalIndexing r bytes e s h = inr (inl (WithIncrementalIndexing, s, h))
fault_of_kind kinds.DynamicTableSizeUpdate r bytes e s h = inr (inr (s, h))
fault_of_kind kinds.LiteralWithoutIndexing r bytes e s h = inr (inl (WithoutIndexing, s, h))
fault_of_kind kinds.LiteralNeverIndexed r bytes e s h = inr (inl (NeverIndexed, s, h))

fault_of_first : (r : Reading) (first : ℕ) (bytes : List ℕ) (e : HpackFault) → AreBytes (first ∷ bytes) → KindFault (kind_of first) r (first ∷ bytes) e → Fault r (first ∷ bytes) e
fault_of_first r first bytes e are h =
    let there = kind_there first are.0 in
    let is : kind_of first ≡ there.kind = kind_from there.kind first there.least there.most in
    fault_of_kind there.kind r (first ∷ bytes) e (record { first = first; rest = bytes; bytes_are = refl; least = there.least; most = there.most }) (subst (λ k. KindFault k r (first ∷ bytes) e) is h)

literal_fault_as : (indexing : Indexing) (r : Reading) (bytes : List ℕ) (e : HpackFault) → LiteralFault indexing r bytes e → KindFault (literal_kind indexing) r bytes e
literal_fault_as WithIncrementalIndexing r bytes e h = h
literal_fault_as WithoutIndexing r bytes e h = h
literal_fault_as NeverIndexed r bytes e h = h

kind_of_fault : (r : Reading) (first : ℕ) (bytes : List ℕ) (e : HpackFault) → Fault r (first ∷ bytes) e → KindFault (kind_of first) r (first ∷ bytes) e
kind_of_fault r first bytes e (inl p) = subst (λ k. KindFault k r (first ∷ bytes) e) (sym (kind_started kinds.Indexed first bytes p.0)) p.1
kind_of_fault r first bytes e (inr (inl p)) =
    subst (λ k. KindFault k r (first ∷ bytes) e) (sym (kind_started (literal_kind p.0) first bytes (literal_starts p.0 (first ∷ bytes) p.1))) (literal_fault_as p.0 r (first ∷ bytes) e p.2)
kind_of_fault r first bytes e (inr (inr p)) = subst (λ k. KindFault k r (first ∷ bytes) e) (sym (kind_started kinds.DynamicTableSizeUpdate first bytes p.0)) p.1

-- a representation takes at least one byte
takes_one : (rep : Representation) (bytes rest : List ℕ) → Begins IsSpelled bytes rep rest → length rest < length bytes
takes_one rep bytes rest b =
    let s = first_of_spelled rep b.0 b.2 in
    omega (arith, ap length b.1, length-append b.0 rest, ap length s.bytes_are)

-- what a block, or the rest of one, is
abbrev pub Outcome : List ℕ → Reading → Result Reading HpackFault → Type 0
Outcome bytes r (Ok after) = (xs : List Representation) × Reads xs bytes r [] after
Outcome bytes r (Err e) = (xs : List Representation) × (rest : List ℕ) × (middle : Reading) × Reads xs bytes r rest middle × Fault middle rest e

one_more : (rep : Representation) (bytes next : List ℕ) (r middle : Reading) (whole : Result Reading HpackFault) → Begins IsSpelled bytes rep next → Effect rep r middle → Outcome next middle whole → Outcome bytes r whole
one_more rep bytes next r middle (Ok after) b a more = (rep ∷ more.0, (next, middle, b, a, more.1))
one_more rep bytes next r middle (Err e) b a more = (rep ∷ more.0, more.1, more.2, (next, middle, b, a, more.3), more.4)

-- one representation, and the rest of the run
run_on : (most : ℕ) (r : Reading) (first : ℕ) (bytes : List ℕ) → length (first ∷ bytes) ≤ suc most → AreBytes (first ∷ bytes) → ((rest : List ℕ) (middle : Reading) → length rest ≤ most → AreBytes rest → Outcome rest middle (reading_from rest most middle)) → (n : Result (Reading × List ℕ) HpackFault) → next_as (kind_of first) r first bytes ≡ n → Outcome (first ∷ bytes) r (and_then n (λ x. reading_from x.1 most x.0))
run_on most r first bytes enough are more (Err e) is = ([], first ∷ bytes, r, (refl, refl), fault_of_first r first bytes e are ((exact_first r first bytes are).bad e is))
run_on most r first bytes enough are more (Ok y) is =
    let there = (exact_first r first bytes are).good y is in
    let shorter = takes_one there.0 (first ∷ bytes) y.1 there.2 in
    one_more there.0 (first ∷ bytes) y.1 r y.0 (reading_from y.1 most y.0) there.2 there.3
    (more y.1 y.0 (omega (arith, shorter, enough)) (rest_bytes IsSpelled (first ∷ bytes) there.0 y.1 are there.2))

pub run_sound : (most : ℕ) (bytes : List ℕ) (r : Reading) → length bytes ≤ most → AreBytes bytes → Outcome bytes r (reading_from bytes most r)
run_sound most [] r enough are = ([], (refl, refl))
run_sound zero (first ∷ bytes) r enough are = absurd (omega (arith, enough))
run_sound (suc most) (first ∷ bytes) r enough are =
    run_on most r first bytes enough are (λ rest middle within left. run_sound most rest middle within left) (next_as (kind_of first) r first bytes) refl

-- how the run goes on from some place
pub record GoesOn (whole : Result Reading HpackFault) (rest : List ℕ) (middle : Reading) : Type 0 where
  pub most : ℕ
  pub enough : length rest ≤ most
  pub are : AreBytes rest
  pub same : whole ≡ reading_from rest most middle

nothing_read : (rep : Representation) (rest : List ℕ) → Begins IsSpelled [] rep rest → ⊥
nothing_read rep rest b = let some = takes_one rep [] rest b in omega (arith, some)

pub run_complete : (xs : List Representation) (most : ℕ) (bytes : List ℕ) (r : Reading) (rest : List ℕ) (middle : Reading) → length bytes ≤ most → AreBytes bytes → Reads xs bytes r rest middle → GoesOn (reading_from bytes most r) rest middle
run_complete [] most bytes r rest middle enough are read =
    subst (λ m. GoesOn (reading_from bytes most r) rest m) read.1 (subst (λ l. GoesOn (reading_from bytes most r) l r) read.0 (record { most = most; enough = enough; are = are; same = refl }))
run_complete (x ∷ xs) most [] r rest middle enough are read = absurd (nothing_read x read.0 read.2)
run_complete (x ∷ xs) zero (first ∷ bytes) r rest middle enough are read = absurd (omega (arith, enough))
run_complete (x ∷ xs) (suc most) (first ∷ bytes) r rest middle enough are read =
    let kind : kind_for x ≡ kind_of first = sym (kind_spelled x first bytes read.0 read.2) in
    let one : next_as (kind_of first) r first bytes ≡ Ok (read.1, read.0) = (exact_first r first bytes are).good_back (read.1, read.0) (x, kind, read.2, read.3) in
    let shorter = takes_one x (first ∷ bytes) read.0 read.2 in
    let on = run_complete xs most read.0 read.1 rest middle (omega (arith, shorter, enough)) (rest_bytes IsSpelled (first ∷ bytes) x read.0 are read.2) read.4 in
    record { most = on.most; enough = on.enough; are = on.are; same = ap (λ n. and_then n (λ y. reading_from y.1 most y.0)) one ∙ on.same }

faulty_rest : (rest : List ℕ) (most : ℕ) (r : Reading) (e : HpackFault) → length rest ≤ most → AreBytes rest → Fault r rest e → reading_from rest most r ≡ Err e
faulty_rest [] most r e enough are (inl p) = absurd (cc p.0.bytes_are)
faulty_rest [] most r e enough are (inr (inl p)) = absurd (cc p.1.bytes_are)
faulty_rest [] most r e enough are (inr (inr p)) = absurd (cc p.0.bytes_are)
faulty_rest (first ∷ bytes) zero r e enough are h = absurd (omega (arith, enough))
faulty_rest (first ∷ bytes) (suc most) r e enough are h =
    ap (λ n. and_then n (λ y. reading_from y.1 most y.0)) ((exact_first r first bytes are).bad_back e (kind_of_fault r first bytes e h))

pub blocks_are_representations : BlocksAreRepresentations
blocks_are_representations t block are = ((λ after. (to after, back after)), (λ e. (fault_to e, fault_back e)))
  where
    start : Reading
    start = record { fields = []; table = t }

    outcome : (whole : Result Reading HpackFault) → block_of t block ≡ whole → Outcome block start whole
    outcome whole is = subst (Outcome block start) is (run_sound (length block) block start (omega arith) are)

    to : (after : Reading) → block_of t block ≡ Ok after → IsBlock t block after
    to after h = outcome (Ok after) h

    back : (after : Reading) → IsBlock t block after → block_of t block ≡ Ok after
    back after p = (run_complete p.0 (length block) block start [] after (omega arith) are p.1).same

    fault_to : (e : HpackFault) → block_of t block ≡ Err e → IsFaulty t block e
    fault_to e h = outcome (Err e) h

    fault_back : (e : HpackFault) → IsFaulty t block e → block_of t block ≡ Err e
    fault_back e p =
        let on = run_complete p.0 (length block) block start p.1 p.2 (omega arith) are p.3 in
        on.same ∙ faulty_rest p.1 on.most p.2 e on.enough on.are p.4
