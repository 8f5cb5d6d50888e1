-- Status codes and sets of them (gRPC, "Status codes and their use in gRPC").
use Rattle.std.specs.Prelude.{ℕ, Bool, true, false, List, slice_set, slice_index_or, replicate}
use Rattle.grpc_base.specs.declared.code.Code.{Code}
use Rattle.grpc_base.specs.declared.code.Code.TheVariants as code

-- the number of a code
abbrev pub code_number : Code → ℕ
code_number code.Ok = 0
code_number code.Cancelled = 1
code_number code.Unknown = 2
code_number code.InvalidArgument = 3
code_number code.DeadlineExceeded = 4
code_number code.NotFound = 5
code_number code.AlreadyExists = 6
code_number code.PermissionDenied = 7
code_number code.ResourceExhausted = 8
code_number code.FailedPrecondition = 9
code_number code.Aborted = 10
code_number code.OutOfRange = 11
code_number code.Unimplemented = 12
code_number code.Internal = 13
code_number code.Unavailable = 14
code_number code.DataLoss = 15
code_number code.Unauthenticated = 16

-- a set of codes says for each number from 0 to 16 whether the code is in it
abbrev pub CodesSeen : Type 0
CodesSeen = List Bool

-- the empty set
abbrev pub no_codes : CodesSeen
no_codes = replicate 17 false

-- the set with a code added
abbrev pub with_code : CodesSeen → Code → CodesSeen
with_code codes c = slice_set codes (code_number c) true

-- whether a set has a code
abbrev pub has_code : CodesSeen → Code → Bool
has_code codes c = slice_index_or codes (code_number c) false
