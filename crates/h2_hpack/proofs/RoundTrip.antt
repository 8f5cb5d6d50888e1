-- A decoder reads what the encoder writes, whatever its table.
use Rattle.std.proofs.Common.{◌≡◌, ℕ, zero, suc, ◌+◌, ◌-◌, ◌*◌, ◌/◌, ◌%◌, ◌^◌, ◌<◌, ◌≤◌, Bool, true, false, nat_le, List, [], ◌∷◌, ◌++◌, length, refl, sym, ◌∙◌, ap, arith, append_assoc, length-append, Option, Some, None, Ok, inl, inr, lit≤}
use Rattle.std.specs.Prelude.{ok_or, bytes_eq, slice_get}
use Rattle.std.specs.List.{position_from}
use Rattle.std.proofs.Math.Nat.{pow-succ'}
use Rattle.std.proofs.lemmas.Bool.{and_parts, cases_Bool, cases_lt, lt-ltb, le-ltb, le-leb, lt-leb}
use Rattle.std.proofs.lemmas.List.{append-nil}
use Rattle.grpc_base.specs.declared.fields.Field.{Field}
use Rattle.h2_hpack.specs.declared.fault.HpackFault.TheVariants.{BadInteger, BadHuffman}
use Rattle.h2_hpack.specs.declared.kind.Kind.TheVariants.{Indexed, LiteralWithoutIndexing}
use Rattle.h2_hpack.specs.Blocks.{and_then, raw_string_at, text_of, text_at, literal_at, indexed_at, with_field, next_as, reading_from, block_of}
use Rattle.h2_hpack.specs.Encoding.{same_name, same_pair, index_where, text_bytes, name_bytes, pair_bytes, field_bytes, block_bytes}
use Rattle.h2_hpack.specs.Kinds.{kind_of}
use Rattle.h2_hpack.specs.Integers.{tail_at, integer_at, tail_bytes, integer_bytes}
use Rattle.h2_hpack.specs.StaticTable.{static_table}
use Rattle.h2_hpack.specs.Tables.{Table, field_at, field_size, list_size, list_limit}
use Rattle.h2_hpack.proofs.ExactStrings.{raw_reads}
use Rattle.h2_hpack.proofs.LookupLemmas.{static_length}
use Rattle.h2_hpack.proofs.TableLemmas.{list_size-append}
use Rattle.h2_hpack.proofs.WalkLemmas.{list_eq}

-- the rest of an integer is read as it was written
pub tail_reads : (k j n : ℕ) (rest : List ℕ) → k ≤ j → n < 128 ^ suc k → tail_at (suc k) (tail_bytes (suc j) n ++ rest) ≡ Some (n, rest)
tail_reads zero j n rest within below =
    let small : n < 128 = below in
    rw (lt-ltb n 128 small) (rw (lt-ltb n 128 small) refl)
tail_reads (suc k) zero n rest within below = absurd (omega (arith, within))
tail_reads (suc k) (suc j) n rest within below =
    elim (cases_lt n 128) [
      | inl small ↦ rw (lt-ltb n 128 small) (rw (lt-ltb n 128 small) refl)
      | inr large ↦
          let high : n / 128 < 128 ^ suc k = omega (arith, below, pow-succ' 128 (suc k)) in
          let whole : n % 128 + 128 - 128 + 128 * (n / 128) ≡ n = omega arith in
          rw (le-ltb n 128 large) (rw (le-ltb (n % 128 + 128) 128 (omega arith), tail_reads k j (n / 128) rest (omega (arith, within)) high, whole) refl)
    ]

-- how an integer is read that was written before some bytes
pub record IntegerReads (bits mark n : ℕ) (rest : List ℕ) : Type 0 where
  pub first : ℕ
  pub after : List ℕ
  pub written : integer_bytes bits mark n ++ rest ≡ first ∷ after
  pub read : integer_at bits first after ≡ Some (n, rest)
  pub least : mark ≤ first
  pub most : first < mark + 2 ^ bits
  pub shorter : length rest ≤ length after

pub integer_reads : (bits mark n : ℕ) (rest : List ℕ) → 1 ≤ 2 ^ bits → 2 ^ bits ≤ 128 → ((k : ℕ) → k < 2 ^ bits → (mark + k) % 2 ^ bits ≡ k) → n ≤ 16777216 → IntegerReads bits mark n rest
integer_reads bits mark n rest some few low within =
    elim (cases_lt n (2 ^ bits - 1)) [
      | inl small ↦ record {
        first = mark + n;
        after = rest;
        written = rw (lt-ltb n (2 ^ bits - 1) small) refl;
        read = rw (low n (omega (arith, small)), lt-ltb n (2 ^ bits - 1) small) refl;
        least = omega arith;
        most = omega (arith, small);
        shorter = omega arith;
      }
      | inr large ↦
          let full = 2 ^ bits - 1 in
          let tail : tail_at 5 (tail_bytes 10 (n - (2 ^ bits - 1)) ++ rest) ≡ Some (n - (2 ^ bits - 1), rest) = tail_reads 4 9 (n - (2 ^ bits - 1)) rest (lit≤ tt) (omega (arith, within)) in
          let whole : (2 ^ bits - 1) + (n - (2 ^ bits - 1)) ≡ n = omega (arith, large) in
          record {
            first = mark + (2 ^ bits - 1);
            after = tail_bytes 10 (n - (2 ^ bits - 1)) ++ rest;
            written = rw (le-ltb n (2 ^ bits - 1) large) refl;
            read = rw (low (2 ^ bits - 1) (omega (arith, some)), le-ltb (2 ^ bits - 1) (2 ^ bits - 1) (omega arith), tail, whole, le-leb n 4294967295 (omega (arith, within))) refl;
            least = omega arith;
            most = omega (arith, some);
            shorter = omega (arith, length-append (tail_bytes 10 (n - (2 ^ bits - 1))) rest);
          }
    ]

seven_bits : (k : ℕ) → k < 2 ^ 7 → (0 + k) % 2 ^ 7 ≡ k
seven_bits k h = let below : k < 128 = h in omega (arith, below)

seven_bits_marked : (k : ℕ) → k < 2 ^ 7 → (128 + k) % 2 ^ 7 ≡ k
seven_bits_marked k h = let below : k < 128 = h in omega (arith, below)

four_bits : (k : ℕ) → k < 2 ^ 4 → (0 + k) % 2 ^ 4 ≡ k
four_bits k h = let below : k < 16 = h in omega (arith, below)

-- a text is read as it was written
pub text_reads : (text rest : List ℕ) → length text ≤ 16384 → text_at (text_bytes text ++ rest) ≡ Ok (text, rest)
text_reads text rest within =
    let r = integer_reads 7 0 (length text) (text ++ rest) (lit≤ tt) (lit≤ tt) seven_bits (omega (arith, within)) in
    let low : nat_le 128 r.first ≡ false = lt-leb 128 r.first r.most in
    let raw : raw_string_at (r.first ∷ r.after) ≡ Some (record { huffman = false; bytes = text; rest = rest }) =
    rw (low, r.read) (raw_reads false text rest) in
    let all : text_bytes text ++ rest ≡ r.first ∷ r.after = append_assoc (integer_bytes 7 0 (length text)) text rest ∙ r.written in
    rw all (ap (λ o. and_then (ok_or o BadInteger) (λ x. and_then (ok_or (text_of x.huffman x.bytes) BadHuffman) (λ y. Ok (y, x.rest)))) raw)

-- an index that was found names an entry that passes the test
pub record FoundAt (test : Field → Bool) (index from : ℕ) (xs : List Field) : Type 0 where
  pub place : ℕ
  pub entry : Field
  pub index_is : index ≡ from + place
  pub there : slice_get xs place ≡ Some entry
  pub passed : test entry ≡ true
  pub below : place < length xs

pub found_at : (test : Field → Bool) (xs : List Field) (from index : ℕ) → position_from test from xs ≡ Some index → FoundAt test index from xs
found_at test [] from index h = absurd (cc h)
found_at test (x ∷ xs) from index h =
    elim (cases_Bool (test x)) [
      | inl hit ↦
          let here : Some from ≡ Some index = rw hit at h in
          let same : from ≡ index = cc here in
          record { place = 0; entry = x; index_is = omega (arith, same); there = refl; passed = hit; below = omega arith }
      | inr miss ↦
          let r = found_at test xs (from + 1) index (rw miss at h) in
          record { place = suc r.place; entry = r.entry; index_is = omega (arith, r.index_is); there = r.there; passed = r.passed; below = omega (arith, r.below) }
    ]

before_it : (xs ys : List Field) (i : ℕ) (x : Field) → slice_get xs i ≡ Some x → slice_get (xs ++ ys) i ≡ Some x
before_it [] ys i x h = absurd (cc h)
before_it (y ∷ xs) ys zero x h = h
before_it (y ∷ xs) ys (suc i) x h = before_it xs ys i x h

-- a static index
pub record StaticAt (test : Field → Bool) (index : ℕ) : Type 0 where
  pub entry : Field
  pub before : ℕ
  pub index_is : index ≡ suc before
  pub low : index ≤ 61
  pub passed : test entry ≡ true
  pub there : (t : Table) → field_at t (suc before) ≡ Some entry

pub static_at : (test : Field → Bool) (index : ℕ) → index_where test ≡ Some index → StaticAt test index
static_at test index h =
    let r = found_at test static_table 1 index h in
    record {
      entry = r.entry;
      before = r.place;
      index_is = omega (arith, r.index_is);
      low = omega (arith, r.index_is, r.below, static_length);
      passed = r.passed;
      there = λ t. before_it static_table t.entries r.place r.entry r.there;
    }

-- how a field is read that was written before some bytes
pub record FieldReads (t : Table) (done : List Field) (f : Field) (rest : List ℕ) : Type 0 where
  pub first : ℕ
  pub after : List ℕ
  pub written : field_bytes f ++ rest ≡ first ∷ after
  pub read : next_as (kind_of first) (record { fields = done; table = t }) first after ≡ and_then (with_field done f t) (λ next. Ok (next, rest))
  pub shorter : length rest ≤ length after

-- a field by its index
pair_reads : (t : Table) (done : List Field) (f : Field) (rest : List ℕ) (index : ℕ) → index_where (same_pair f.name f.value) ≡ Some index → FieldReads t done f rest
pair_reads t done f rest index found =
    let s = static_at (same_pair f.name f.value) index found in
    let r = integer_reads 7 128 index rest (lit≤ tt) (lit≤ tt) seven_bits_marked (omega (arith, s.low)) in
    let parts = and_parts (bytes_eq s.entry.name f.name) (bytes_eq s.entry.value f.value) s.passed in
    let same : s.entry ≡ f = same_field s.entry f (list_eq s.entry.name f.name parts.0) (list_eq s.entry.value f.value parts.1) in
    let kind : kind_of r.first ≡ Indexed = rw (le-leb 128 r.first r.least) refl in
    let read : indexed_at t r.first r.after ≡ Ok (f, rest) = rw (r.read, s.index_is, s.there t, same) refl in
    record {
      first = r.first;
      after = r.after;
      written = ap (λ o. pair_bytes f o ++ rest) found ∙ r.written;
      read = rw (kind, read) refl;
      shorter = r.shorter;
    }
  where
    same_field : (e f : Field) → e.name ≡ f.name → e.value ≡ f.value → e ≡ f
    same_field e f n v = λ i. record { name = n i; value = v i }

without_indexing : (first : ℕ) → first < 16 → kind_of first ≡ LiteralWithoutIndexing
without_indexing first low = rw (lt-leb 128 first (omega (arith, low)), lt-leb 64 first (omega (arith, low)), lt-leb 32 first (omega (arith, low)), lt-leb 16 first (omega (arith, low))) refl

-- a literal, whose name is read
literal_reads : (t : Table) (done : List Field) (f : Field) (rest : List ℕ) → length f.name ≤ 16384 → length f.value ≤ 16384 → index_where (same_pair f.name f.value) ≡ None → (o : Option ℕ) → index_where (same_name f.name) ≡ o → FieldReads t done f rest
literal_reads t done f rest name_is value_is none None named =
    let value = text_bytes f.value ++ rest in
    let after = text_bytes f.name ++ value in
    let all : field_bytes f ++ rest ≡ 0 ∷ after =
    ap (λ o. pair_bytes f o ++ rest) none ∙ ap (λ o. name_bytes f.name o ++ text_bytes f.value ++ rest) named
    ∙ ap (λ x. 0 ∷ x) (append_assoc (text_bytes f.name) (text_bytes f.value) rest) in
    let read : literal_at t 4 0 after ≡ Ok (f, rest) = rw (text_reads f.name value name_is, text_reads f.value rest value_is) refl in
    record {
      first = 0;
      after = after;
      written = all;
      read = rw read refl;
      shorter = omega (arith, length-append (text_bytes f.name) value, length-append (text_bytes f.value) rest);
    }
literal_reads t done f rest name_is value_is none (Some index) named =
    let s = static_at (same_name f.name) index named in
    let value = text_bytes f.value ++ rest in
    let r = integer_reads 4 0 index value (lit≤ tt) (lit≤ tt) four_bits (omega (arith, s.low)) in
    let all : field_bytes f ++ rest ≡ r.first ∷ r.after =
    ap (λ o. pair_bytes f o ++ rest) none ∙ ap (λ o. name_bytes f.name o ++ text_bytes f.value ++ rest) named
    ∙ append_assoc (integer_bytes 4 0 index) (text_bytes f.value) rest ∙ r.written in
    let name : s.entry.name ≡ f.name = list_eq s.entry.name f.name s.passed in
    let kind : kind_of r.first ≡ LiteralWithoutIndexing = without_indexing r.first (omega (arith, r.most)) in
    let read : literal_at t 4 r.first r.after ≡ Ok (f, rest) = rw (r.read, s.index_is, s.there t, name, text_reads f.value rest value_is) refl in
    record {
      first = r.first;
      after = r.after;
      written = all;
      read = rw (kind, read) refl;
      shorter = omega (arith, r.shorter, length-append (text_bytes f.value) rest);
    }

pub field_reads : (t : Table) (done : List Field) (f : Field) (rest : List ℕ) → field_size f ≤ list_limit → (o : Option ℕ) → index_where (same_pair f.name f.value) ≡ o → FieldReads t done f rest
field_reads t done f rest within None none = literal_reads t done f rest (omega (arith, within)) (omega (arith, within)) none (index_where (same_name f.name)) refl
field_reads t done f rest within (Some index) found = pair_reads t done f rest index found

-- the rest of a list is read after what is done
pub list_reads : (t : Table) (done fields : List Field) (most : ℕ) → list_size (done ++ fields) ≤ list_limit → length (block_bytes fields) ≤ most → reading_from (block_bytes fields) most (record { fields = done; table = t }) ≡ Ok (record { fields = done ++ fields; table = t })
list_reads t done [] most within enough = ap (λ x. Ok (record { fields = x; table = t })) (sym (append-nil done))
list_reads t done (f ∷ fields) most within enough =
    let sizes : list_size (done ++ f ∷ fields) ≡ list_size done + (field_size f + list_size fields) = list_size-append done (f ∷ fields) in
    let r = field_reads t done f (block_bytes fields) (omega (arith, within, sizes)) (index_where (same_pair f.name f.value)) refl in
    let longer : length (block_bytes (f ∷ fields)) ≡ suc (length r.after) = ap length r.written in
    let less : list_size (done ++ f ∷ []) ≤ list_limit = omega (arith, list_size-append done (f ∷ []), within, sizes) in
    let one : with_field done f t ≡ Ok (record { fields = done ++ f ∷ []; table = t }) = rw (le-leb (list_size (done ++ f ∷ [])) list_limit less) refl in
    let regroup : (done ++ f ∷ []) ++ fields ≡ done ++ f ∷ fields = append_assoc done (f ∷ []) fields in
    let rest_within : list_size ((done ++ f ∷ []) ++ fields) ≤ list_limit = rw regroup within in
    step r.first r.after most (omega (arith, enough, longer)) (r.read ∙ ap (λ x. and_then x (λ next. Ok (next, block_bytes fields))) one) r.written
    (λ k bound. list_reads t (done ++ f ∷ []) fields k rest_within (omega (arith, bound, r.shorter)) ∙ ap (λ x. Ok (record { fields = x; table = t })) regroup)
  where
    step : (first : ℕ) (after : List ℕ) (most : ℕ) → suc (length after) ≤ most → next_as (kind_of first) (record { fields = done; table = t }) first after ≡ Ok (record { fields = done ++ f ∷ []; table = t }, block_bytes fields) → block_bytes (f ∷ fields) ≡ first ∷ after → ((k : ℕ) → length after ≤ k → reading_from (block_bytes fields) k (record { fields = done ++ f ∷ []; table = t }) ≡ Ok (record { fields = done ++ f ∷ fields; table = t })) → reading_from (block_bytes (f ∷ fields)) most (record { fields = done; table = t }) ≡ Ok (record { fields = done ++ f ∷ fields; table = t })
    step first after zero bound read written more = absurd (omega (arith, bound))
    step first after (suc k) bound read written more = rw (written, read) (more k (omega (arith, bound)))

pub block_reads : (t : Table) (fields : List Field) → list_size fields ≤ list_limit → block_of t (block_bytes fields) ≡ Ok (record { fields = fields; table = t })
block_reads t fields within = list_reads t [] fields (length (block_bytes fields)) within (omega arith)
