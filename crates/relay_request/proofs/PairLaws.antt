-- The test of a pair passes just those that the metadata of a request may have.
use Rattle.std.proofs.Common.{◌≡◌, ℕ, ◌+◌, ◌<◌, ◌≤◌, Bool, true, false, Option, Some, None, List, [], ◌∷◌, ◌++◌, length, codes, bytes_eq, suc, drop, get_or, refl, sym, ap, ◌∙◌, arith, inl, inr}
use Rattle.std.specs.Prelude.{nat_eq, nat_le, not, ◌&&◌, ◌||◌, IsTrue, MatchBool, All, if◌then◌else◌}
use Rattle.std.specs.List.{AllPass, list_all, list_any, starts_with, ends_with, sum_by}
use Rattle.std.proofs.Math.Seq.{drop-cons}
use Rattle.std.proofs.lemmas.Bool.{and_parts, and_from, leb-true, le-leb, lt-leb, cases_lt, not-true, not_from_false, false_from_ne_true, true_from_ne_false}
use Rattle.std.proofs.lemmas.List.Sums.{AllPass-from_list_all, list_all-from_AllPass}
use Rattle.std.proofs.lemmas.List.Elements.{All-from_recursion}
use Rattle.std.proofs.lemmas.Slice.Eq.{bytes_eq-Decides}
use Rattle.grpc_base.specs.declared.fields.Field.{Field}
use Rattle.grpc_base.specs.Metadata.{IsMetaName, IsMetaValue, IsTextValue, IsPair, IsRequestMetadata, is_binary_name, is_meta_name_byte, is_meta_value_byte, meta_limit, meta_size, pair_size}
use Rattle.relay_request.specs.Pairs.{may_name, may_text, may_pair, used_names, with_pair, metadata_from}

both_ways : (b : Bool) → b ≡ false → b ≡ true → ⊥
both_ways true f t = cc
both_ways false f t = cc

-- a name that the protocol uses is found among those
used : (name word : List ℕ) → name ≡ word → list_any (λ n. bytes_eq word n) used_names ≡ true → list_any (λ n. bytes_eq name n) used_names ≡ true
used name word e t = ap (λ (x : List ℕ). list_any (λ n. bytes_eq x n) used_names) e ∙ t

other : (name word : List ℕ) → (name ≡ word → ⊥) → bytes_eq name word ≡ false
other name word nope = false_from_ne_true (bytes_eq name word) (λ t. nope ((bytes_eq-Decides name word).0 t))

pub named : (name : List ℕ) → may_name name ≡ true → IsMetaName name
named name t =
    let a = and_parts (nat_le 1 (length name) && nat_le (length name) 256 && list_all is_meta_name_byte name && not (starts_with nat_eq name (codes "grpc-"))) (not (list_any (λ n. bytes_eq name n) used_names)) t in
    let b = and_parts (nat_le 1 (length name) && nat_le (length name) 256 && list_all is_meta_name_byte name) (not (starts_with nat_eq name (codes "grpc-"))) a.0 in
    let d = and_parts (nat_le 1 (length name) && nat_le (length name) 256) (list_all is_meta_name_byte name) b.0 in
    let e = and_parts (nat_le 1 (length name)) (nat_le (length name) 256) d.0 in
    let free = not-true (list_any (λ n. bytes_eq name n) used_names) a.1 in
    let plain = not-true (starts_with nat_eq name (codes "grpc-")) b.1 in
    record {
      not_empty = leb-true 1 (length name) e.0;
      within = leb-true (length name) 256 e.1;
      bytes = AllPass-from_list_all is_meta_name_byte name d.1;
      not_grpc = λ s. both_ways (starts_with nat_eq name (codes "grpc-")) plain s;
      not_te = λ s. both_ways (list_any (λ n. bytes_eq name n) used_names) free (used name (codes "te") s refl);
      not_content_type = λ s. both_ways (list_any (λ n. bytes_eq name n) used_names) free (used name (codes "content-type") s refl);
      not_host = λ s. both_ways (list_any (λ n. bytes_eq name n) used_names) free (used name (codes "host") s refl);
      not_connection = λ s. both_ways (list_any (λ n. bytes_eq name n) used_names) free (used name (codes "connection") s refl);
      not_keep_alive = λ s. both_ways (list_any (λ n. bytes_eq name n) used_names) free (used name (codes "keep-alive") s refl);
      not_proxy_connection = λ s. both_ways (list_any (λ n. bytes_eq name n) used_names) free (used name (codes "proxy-connection") s refl);
      not_transfer_encoding = λ s. both_ways (list_any (λ n. bytes_eq name n) used_names) free (used name (codes "transfer-encoding") s refl);
      not_upgrade = λ s. both_ways (list_any (λ n. bytes_eq name n) used_names) free (used name (codes "upgrade") s refl);
    }

pass : (p : List ℕ → Bool) (x : List ℕ) (xs : List (List ℕ)) → p x ≡ false → list_any p xs ≡ false → list_any p (x ∷ xs) ≡ false
pass p x xs here afterwards = rw here afterwards

free : (name : List ℕ) → IsMetaName name → list_any (λ n. bytes_eq name n) used_names ≡ false
free name h =
    let p : List ℕ → Bool = λ n. bytes_eq name n in
    let t7 : List (List ℕ) = codes "upgrade" ∷ [] in
    let t6 : List (List ℕ) = codes "transfer-encoding" ∷ t7 in
    let t5 : List (List ℕ) = codes "proxy-connection" ∷ t6 in
    let t4 : List (List ℕ) = codes "keep-alive" ∷ t5 in
    let t3 : List (List ℕ) = codes "connection" ∷ t4 in
    let t2 : List (List ℕ) = codes "host" ∷ t3 in
    let t1 : List (List ℕ) = codes "content-type" ∷ t2 in
    let e7 = pass p (codes "upgrade") [] (other name (codes "upgrade") h.not_upgrade) refl in
    let e6 = pass p (codes "transfer-encoding") t7 (other name (codes "transfer-encoding") h.not_transfer_encoding) e7 in
    let e5 = pass p (codes "proxy-connection") t6 (other name (codes "proxy-connection") h.not_proxy_connection) e6 in
    let e4 = pass p (codes "keep-alive") t5 (other name (codes "keep-alive") h.not_keep_alive) e5 in
    let e3 = pass p (codes "connection") t4 (other name (codes "connection") h.not_connection) e4 in
    let e2 = pass p (codes "host") t3 (other name (codes "host") h.not_host) e3 in
    let e1 = pass p (codes "content-type") t2 (other name (codes "content-type") h.not_content_type) e2 in
    pass p (codes "te") t1 (other name (codes "te") h.not_te) e1

pub is_named : (name : List ℕ) → IsMetaName name → may_name name ≡ true
is_named name h =
    and_from _ _
    (and_from _ _
    (and_from _ _
    (and_from _ _ (le-leb 1 (length name) h.not_empty) (le-leb (length name) 256 h.within))
    (list_all-from_AllPass is_meta_name_byte name h.bytes))
    (not_from_false _ (false_from_ne_true _ h.not_grpc)))
    (not_from_false _ (free name h))

text_is : (value : List ℕ) → may_text value ≡ true → IsTextValue value
text_is value t =
    let a = and_parts (list_all is_meta_value_byte value && not (starts_with nat_eq value (codes " "))) (not (ends_with nat_eq value (codes " "))) t in
    let b = and_parts (list_all is_meta_value_byte value) (not (starts_with nat_eq value (codes " "))) a.0 in
    record {
      bytes = AllPass-from_list_all is_meta_value_byte value b.0;
      no_space_first = λ s. both_ways (starts_with nat_eq value (codes " ")) (not-true _ b.1) s;
      no_space_last = λ s. both_ways (ends_with nat_eq value (codes " ")) (not-true _ a.1) s;
    }

is_text : (value : List ℕ) → IsTextValue value → may_text value ≡ true
is_text value h =
    and_from _ _
    (and_from _ _ (list_all-from_AllPass is_meta_value_byte value h.bytes) (not_from_false _ (false_from_ne_true _ h.no_space_first)))
    (not_from_false _ (false_from_ne_true _ h.no_space_last))

valued_by : (b : Bool) (value : List ℕ) → (b || may_text value) ≡ true → MatchBool b (Unit {0}) (IsTextValue value)
valued_by true value t = tt
valued_by false value t = text_is value t

is_valued_by : (b : Bool) (value : List ℕ) → MatchBool b (Unit {0}) (IsTextValue value) → (b || may_text value) ≡ true
is_valued_by true value h = refl
is_valued_by false value h = is_text value h

pub valued : (name value : List ℕ) → (is_binary_name name || may_text value) ≡ true → IsMetaValue name value
valued name value t = valued_by (is_binary_name name) value t

pub is_valued : (name value : List ℕ) → IsMetaValue name value → (is_binary_name name || may_text value) ≡ true
is_valued name value h = is_valued_by (is_binary_name name) value h

-- what `push` answers, as the definitions have it
pub bad_name : (f : Field) → (IsMetaName f.name → ⊥) → may_pair f ≡ false
bad_name f nope = false_from_ne_true (may_pair f) (λ t. nope (named f.name (and_parts (may_name f.name) (is_binary_name f.name || may_text f.value) t).0))

pub bad_value : (f : Field) → (IsMetaValue f.name f.value → ⊥) → may_pair f ≡ false
bad_value f nope = false_from_ne_true (may_pair f) (λ t. nope (valued f.name f.value (and_parts (may_name f.name) (is_binary_name f.name || may_text f.value) t).1))

pub good_pair : (f : Field) → IsMetaName f.name → IsMetaValue f.name f.value → may_pair f ≡ true
good_pair f n v = and_from _ _ (is_named f.name n) (is_valued f.name f.value v)

-- a pair that is neither refused for its name nor for its value
pub ok_pair : (f : Field) → ((IsMetaName f.name → ⊥) → ⊥) → (IsMetaName f.name → (IsMetaValue f.name f.value → ⊥) → ⊥) → may_pair f ≡ true
ok_pair f n v =
    let name : may_name f.name ≡ true = true_from_ne_false (may_name f.name) (λ nope. n (λ is. both_ways (may_name f.name) nope (is_named f.name is))) in
    let value : (is_binary_name f.name || may_text f.value) ≡ true = true_from_ne_false (is_binary_name f.name || may_text f.value) (λ nope. v (named f.name name) (λ is. both_ways (is_binary_name f.name || may_text f.value) nope (is_valued f.name f.value is))) in
    and_from (may_name f.name) (is_binary_name f.name || may_text f.value) name value

pub room_for : (meta : List Field) (f : Field) → (meta_limit < meta_size meta + pair_size f → ⊥) → meta_size meta + pair_size f ≤ meta_limit
room_for meta f nope = elim (cases_lt meta_limit (meta_size meta + pair_size f)) [ inl past ↦ absurd (nope past) | inr fits ↦ fits ]

pub passed_over : (meta : List Field) (f : Field) → may_pair f ≡ false → with_pair (Some meta) f ≡ Some meta
passed_over meta f nope = rw nope refl

pub taken : (meta : List Field) (f : Field) → may_pair f ≡ true → meta_size meta + pair_size f ≤ meta_limit → with_pair (Some meta) f ≡ Some (meta ++ f ∷ [])
taken meta f so room = rw so (rw (le-leb (meta_size meta + pair_size f) meta_limit room) refl)

pub full : (meta : List Field) (f : Field) → may_pair f ≡ true → meta_limit < meta_size meta + pair_size f → with_pair (Some meta) f ≡ None
full meta f so past = rw so (rw (lt-leb (meta_size meta + pair_size f) meta_limit past) refl)

-- after too much metadata there is none
pub none_afterwards : (pairs : List Field) → metadata_from None pairs ≡ None
none_afterwards [] = refl
none_afterwards (f ∷ pairs) = none_afterwards pairs

-- a pair without room ends it
pub none_from : (meta pairs : List Field) (i : ℕ) (f : Field) (all : Option (List Field)) → i < length pairs → f ≡ get_or pairs i f → with_pair (Some meta) f ≡ None → metadata_from (Some meta) (drop i pairs) ≡ all → None ≡ all
none_from meta pairs i f all lt is full e =
    let prefix : drop i pairs ≡ f ∷ drop (suc i) pairs = drop-cons pairs i f lt ∙ ap (λ (x : Field). x ∷ drop (suc i) pairs) (sym is) in
    sym (none_afterwards (drop (suc i) pairs))
    ∙ (ap (λ (o : Option (List Field)). metadata_from o (drop (suc i) pairs)) (sym full)
    ∙ (ap (metadata_from (Some meta)) (sym prefix) ∙ e))

pub is_pair : (f : Field) → may_pair f ≡ true → IsMetaName f.name × IsMetaValue f.name f.value
is_pair f so =
    let parts = and_parts (may_name f.name) (is_binary_name f.name || may_text f.value) so in
    (named f.name parts.0, valued f.name f.value parts.1)
