use Rattle.std.proofs.Common.{ℕ, ◌≤◌, length, arith, lit<, length-append}
use Rattle.std.specs.Fmt.{decimal}
use Rattle.std.proofs.lemmas.Fmt.{length-decimal-le}
use Rattle.std.proofs.lemmas.Str.{encode_ascii}
use Rattle.grpc_meta.proofs.timeout.timeout_text.Goals as goal

-- eight digits at most
eight : (n : ℕ) → n ≤ 99999999 → length (decimal n) ≤ 8
eight n small = length-decimal-le 8 n (omega arith) (omega arith) (omega arith)

pub push_str-requires : goal.push_str-requires
push_str-requires c =
    let digits : length c.format.result.now ≤ 8 = rw c.format.ensures.text (eight _ (rw c.div_ceil.ensures c.unit_for-unit.ensures.short)) in
    (lit< tt, rw c.new-text.ensures (omega arith))

pub push-requires : goal.push-requires
push-requires c =
    let digits : length c.format.result.now ≤ 8 = rw c.format.ensures.text (eight _ (rw c.div_ceil.ensures c.unit_for-unit.ensures.short)) in
    (lit< tt, rw (c.push_str.ensures.bytes, c.new-text.ensures, encode_ascii _ c.unit_for-unit.ensures.letter) (omega arith))

pub returns-clause-short : goal.returns-clause-short
returns-clause-short c =
    let digits : length c.format.result.now ≤ 8 = rw c.format.ensures.text (eight _ (rw c.div_ceil.ensures c.unit_for-unit.ensures.short)) in
    rw (c.push.ensures.bytes, c.push_str.ensures.bytes, c.new-text.ensures, encode_ascii _ c.unit_for-unit.ensures.letter, length-append) (omega arith)
