-- The fields of a request, and how long they are.
use Rattle.std.proofs.Common.{◌≡◌, ℕ, ◌+◌, ◌-◌, ◌*◌, ◌/◌, ◌^◌, ◌<◌, ◌≤◌, Bool, true, false, cond, Option, Some, None, List, [], ◌∷◌, ◌++◌, codes, map, length, refl, arith, nat_le, find, if◌then◌else◌, lit≤, length-append}
use Rattle.std.proofs.lemmas.Bool.Decides.{nat_tests}
use Rattle.std.specs.List.{AllByRecursion}
use Rattle.std.specs.Int.{div_ceil}
use Rattle.base64.specs.Rfc4648.{encode_symbols}
use Rattle.base64.proofs.RoundTrip.{length-encode_symbols}
use Rattle.std.proofs.lemmas.Bool.{leb-true}
use Rattle.std.specs.Fmt.{decimal}
use Rattle.std.proofs.lemmas.Fmt.{length-decimal-le}
use Rattle.std.proofs.lemmas.List.Sums.{sum_by-append, sum_by-cons}
use Rattle.grpc_base.specs.declared.fields.Field.{Field}
use Rattle.grpc_base.specs.Limits.{path_limit}
use Rattle.grpc_base.specs.Metadata.{is_binary_name, meta_limit, meta_size, pair_size}
use Rattle.grpc_base.specs.Requests.{RequestSeen}
use Rattle.grpc_meta.specs.Base64.{base64_of, symbols}
use Rattle.grpc_meta.specs.RequestFields.{attempt_fields, field, field_size, fields_of_request, greatest_list, list_size, sent, timeout_fields}
use Rattle.grpc_meta.specs.Timeouts.{text_in, timeout_of, units}

-- from the second attempt on there is a field
pub attempt_fields-later : (number : ℕ) (text : List ℕ) → 1 < number → text ≡ decimal (number - 1) → field (codes "grpc-previous-rpc-attempts") text ∷ [] ≡ attempt_fields number
attempt_fields-later number text later is =
    let second : nat_le number 1 ≡ false = grind (arith, nat_tests) in
    rw (second, is) refl

-- eight digits, and an attempt
eight : (n : ℕ) → n ≤ 99999999 → length (decimal n) ≤ 8
eight n small = length-decimal-le 8 n (omega arith) (omega arith) (omega arith)

ten : (n : ℕ) → n < 2 ^ 32 → length (decimal n) ≤ 10
ten n small = length-decimal-le 10 n (omega arith) (omega arith) (omega arith)

-- the time in a unit of one letter has nine bytes at most
text_if : (t : ℕ) (u : ℕ × List ℕ) (rest : Option (ℕ × List ℕ)) (b : Bool) → nat_le (div_ceil t u.0) 99999999 ≡ b → length u.1 ≤ 1 → length (text_in t rest) ≤ 9 → length (text_in t (cond b (Some u) rest)) ≤ 9
text_if t u rest true small letter short =
    let fits : div_ceil t u.0 ≤ 99999999 = leb-true _ _ small in
    omega (arith, length-append (decimal (div_ceil t u.0)) u.1, eight (div_ceil t u.0) fits)
text_if t u rest false small letter short = short

text_short : (t : ℕ) (us : List (ℕ × List ℕ)) → AllByRecursion (λ u. length u.1 ≤ 1) us → length (text_in t (find (λ u. nat_le (div_ceil t u.0) 99999999) us)) ≤ 9
text_short t [] letters = omega arith
text_short t (u ∷ us) letters = text_if t u _ _ refl letters.0 (text_short t us letters.1)

pub length-timeout_of : (t : ℕ) → length (timeout_of t) ≤ 9
length-timeout_of t = text_short t units (lit≤ tt, (lit≤ tt, (lit≤ tt, (lit≤ tt, (lit≤ tt, (lit≤ tt, tt))))))

-- a value of bytes is as long in base64 as the rules for metadata count it
field_size-if : (f : Field) (b : Bool) → field_size (if b then field f.name (base64_of f.value) else f) ≡ length f.name + (if b then (length f.value * 4 + 2) / 3 else length f.value) + 32
field_size-if f true = let count = length-encode_symbols symbols f.value in omega (arith, length-append (encode_symbols symbols f.value) [], count)
field_size-if f false = refl

field_size-sent : (f : Field) → field_size (sent f) ≡ pair_size f
field_size-sent f = field_size-if f (is_binary_name f.name)

list_size-sent : (pairs : List Field) → list_size (map sent pairs) ≡ meta_size pairs
list_size-sent [] = refl
list_size-sent (p ∷ pairs) = omega (arith, sum_by-cons field_size (sent p) (map sent pairs), sum_by-cons pair_size p pairs, field_size-sent p, list_size-sent pairs)

timeout_size : (left : Option ℕ) → list_size (timeout_fields left) ≤ 53
timeout_size None = lit≤ tt
timeout_size (Some t) = omega (arith, length-timeout_of t)

attempt_if : (number : ℕ) (b : Bool) → number < 2 ^ 32 → list_size (if b then [] else field (codes "grpc-previous-rpc-attempts") (decimal (number - 1)) ∷ []) ≤ 68
attempt_if number true small = lit≤ tt
attempt_if number false small = omega (arith, ten (number - 1) (omega arith))

attempt_size : (number : ℕ) → number < 2 ^ 32 → list_size (attempt_fields number) ≤ 68
attempt_size number small = attempt_if number (nat_le number 1) small

-- the fields before
prefix : RequestSeen → List ℕ → List Field
prefix r a = field (codes ":method") (codes "POST") ∷ field (codes ":scheme") (codes "http") ∷ field (codes ":path") r.path ∷ field (codes ":authority") a ∷ []

kind : List Field
kind = field (codes "te") (codes "trailers") ∷ field (codes "content-type") (codes "application/grpc") ∷ []

prefix_size : (r : RequestSeen) (a : List ℕ) → length r.path ≤ path_limit → length a ≤ 259 → list_size (prefix r a) ≤ 1448
unfolding prefix
prefix_size r a path authority = omega arith

kind_size : list_size kind ≤ 102
unfolding kind
kind_size = lit≤ tt

-- five lists one after another
joined_size : (f t k n m : List Field) → list_size (f ++ t ++ k ++ n ++ m) ≡ list_size f + list_size t + list_size k + list_size n + list_size m
joined_size f t k n m = simp (sum_by-append field_size)

-- the parts together
sum_fits : (f t k n m p q : ℕ) → f ≤ 1448 → t ≤ 53 → k ≤ 102 → n ≤ 68 → m ≡ p → p ≤ meta_limit → q ≡ f + t + k + n + m → q ≤ greatest_list
sum_fits f t k n m p q hf ht hk hn hm hp hq = omega arith

-- a request that keeps its rules has a list no greater than the greatest
pub list_size-request : (r : RequestSeen) (a : List ℕ) (left : Option ℕ) (number : ℕ) → length r.path ≤ path_limit → meta_size r.meta ≤ meta_limit → length a ≤ 259 → number < 2 ^ 32 → list_size (fields_of_request r a left number) ≤ greatest_list
unfolding prefix kind
list_size-request r a left number path meta authority small =
    let whole : list_size (fields_of_request r a left number) ≡ list_size (prefix r a) + list_size (timeout_fields left) + list_size kind + list_size (attempt_fields number) + list_size (map sent r.meta) = joined_size (prefix r a) (timeout_fields left) kind (attempt_fields number) (map sent r.meta) in
    sum_fits _ _ _ _ _ _ _ (prefix_size r a path authority) (timeout_size left) kind_size (attempt_size number small) (list_size-sent r.meta) meta whole
