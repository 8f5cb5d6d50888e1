-- Status codes in a config: numbers, or names in any case (gRFC A6; gRPC, "Status codes and their use in gRPC").
use Rattle.std.specs.Prelude.{ℕ, ◌==◌, List, [], ◌∷◌, Option, None, option_and_then, codes}
use Rattle.std.specs.List.{find}
use Rattle.std.specs.Str.{str_eq_ignore_ascii_case}
use Rattle.json_text.specs.Tree.{Tree, number, string}
use Rattle.grpc_base.specs.Codes.{code_number}
use Rattle.grpc_base.specs.declared.code.Code.{Code}
use Rattle.grpc_base.specs.declared.code.Code.TheVariants as code
use Rattle.config_values.specs.Values.{up_to, whole}

-- the name of a code
abbrev pub code_name : Code → List ℕ
code_name code.Ok = codes "OK"
code_name code.Cancelled = codes "CANCELLED"
code_name code.Unknown = codes "UNKNOWN"
code_name code.InvalidArgument = codes "INVALID_ARGUMENT"
code_name code.DeadlineExceeded = codes "DEADLINE_EXCEEDED"
code_name code.NotFound = codes "NOT_FOUND"
code_name code.AlreadyExists = codes "ALREADY_EXISTS"
code_name code.PermissionDenied = codes "PERMISSION_DENIED"
code_name code.ResourceExhausted = codes "RESOURCE_EXHAUSTED"
code_name code.FailedPrecondition = codes "FAILED_PRECONDITION"
code_name code.Aborted = codes "ABORTED"
code_name code.OutOfRange = codes "OUT_OF_RANGE"
code_name code.Unimplemented = codes "UNIMPLEMENTED"
code_name code.Internal = codes "INTERNAL"
code_name code.Unavailable = codes "UNAVAILABLE"
code_name code.DataLoss = codes "DATA_LOSS"
code_name code.Unauthenticated = codes "UNAUTHENTICATED"

-- the codes of failed calls; OK is none of them
abbrev pub failures : List Code
failures =
    code.Cancelled ∷ code.Unknown ∷ code.InvalidArgument ∷ code.DeadlineExceeded ∷ code.NotFound ∷ code.AlreadyExists
    ∷ code.PermissionDenied ∷ code.ResourceExhausted ∷ code.FailedPrecondition ∷ code.Aborted ∷ code.OutOfRange
    ∷ code.Unimplemented ∷ code.Internal ∷ code.Unavailable ∷ code.DataLoss ∷ code.Unauthenticated ∷ []

-- the first of these codes with this name, whatever the case of ASCII's letters
abbrev pub code_named : List ℕ → List Code → Option Code
code_named name cs = find (λ c. str_eq_ignore_ascii_case (code_name c) name) cs

-- the first of these codes with this number
abbrev pub code_numbered : ℕ → List Code → Option Code
code_numbered n cs = find (λ c. code_number c == n) cs

-- the failure of this number, and of this name
unfoldable pub failure_numbered : ℕ → Option Code
failure_numbered n = code_numbered n failures

unfoldable pub failure_named : List ℕ → Option Code
failure_named name = code_named name failures

-- a code of a failed call: a number from 1 to 16, or a name
abbrev pub failure_in : Tree → Option Code
failure_in (number text) = option_and_then failure_numbered (option_and_then (up_to 16) (whole text))
failure_in (string name) = failure_named name
failure_in v = None
