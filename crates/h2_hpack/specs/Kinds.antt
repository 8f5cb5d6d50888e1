-- The kinds of representation of RFC 7541, section 6.
use Rattle.std.specs.Prelude.{ℕ, nat_le, if◌then◌else◌}
use Rattle.h2_hpack.specs.declared.kind.Kind.{Kind}
use Rattle.h2_hpack.specs.declared.kind.Kind.TheVariants.{Indexed, LiteralWithIncrementalIndexing, DynamicTableSizeUpdate, LiteralWithoutIndexing, LiteralNeverIndexed}

-- the kind that a first byte says: 1, 01, 001, 0001 or 0000
abbrev pub kind_of : ℕ → Kind
kind_of first =
    if nat_le 128 first then Indexed
    else if nat_le 64 first then LiteralWithIncrementalIndexing
    else if nat_le 32 first then DynamicTableSizeUpdate
    else if nat_le 16 first then LiteralNeverIndexed
    else LiteralWithoutIndexing
