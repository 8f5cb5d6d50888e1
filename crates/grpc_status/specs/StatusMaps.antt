-- Which status an attempt ends with, by the tables of the gRPC documents.
use Rattle.std.specs.Prelude.{ℕ, List, [], ◌∷◌, ◌==◌, if◌then◌else◌, slice_get, unwrap_or}
use Rattle.std.specs.Str.Lossy.{utf8_lossy}
use Rattle.percent_encoding.specs.Percent.{percent_decode}
use Rattle.grpc_base.specs.declared.code.Code.{Code}
use Rattle.grpc_base.specs.declared.code.Code.TheVariants as code
use Rattle.grpc_base.specs.ErrorCodes.{no_error, protocol_error, internal_error, flow_control_error, settings_timeout, frame_size_error, refused_stream, cancel, compression_error, connect_error, enhance_your_calm, inadequate_security}
use Rattle.grpc_base.specs.Numbers.{is_number, number_of}

-- the code of a number in a table; what no row names is UNKNOWN
abbrev pub looked_up : List (ℕ × Code) → ℕ → Code
looked_up [] number = code.Unknown
looked_up (row ∷ rows) number = if row.0 == number then row.1 else looked_up rows number

-- HTTP statuses ("HTTP to gRPC Status Code Mapping")
abbrev pub http_codes : List (ℕ × Code)
http_codes =
    (400, code.Internal) ∷ (401, code.Unauthenticated) ∷ (403, code.PermissionDenied) ∷ (404, code.Unimplemented)
    ∷ (429, code.Unavailable) ∷ (502, code.Unavailable) ∷ (503, code.Unavailable) ∷ (504, code.Unavailable) ∷ []

-- error codes of RST_STREAM (gRPC over HTTP/2, "HTTP2 Transport Mapping", "Errors")
abbrev pub reset_codes : List (ℕ × Code)
reset_codes =
    (no_error, code.Internal) ∷ (protocol_error, code.Internal) ∷ (internal_error, code.Internal)
    ∷ (flow_control_error, code.Internal) ∷ (settings_timeout, code.Internal) ∷ (frame_size_error, code.Internal)
    ∷ (refused_stream, code.Unavailable) ∷ (cancel, code.Cancelled) ∷ (compression_error, code.Internal)
    ∷ (connect_error, code.Internal) ∷ (enhance_your_calm, code.ResourceExhausted)
    ∷ (inadequate_security, code.PermissionDenied) ∷ []

-- the codes in the order of their numbers, from 0 to 16 ("Status codes and their use in gRPC")
abbrev pub codes_in_order : List Code
codes_in_order =
    code.Ok ∷ code.Cancelled ∷ code.Unknown ∷ code.InvalidArgument ∷ code.DeadlineExceeded ∷ code.NotFound
    ∷ code.AlreadyExists ∷ code.PermissionDenied ∷ code.ResourceExhausted ∷ code.FailedPrecondition ∷ code.Aborted
    ∷ code.OutOfRange ∷ code.Unimplemented ∷ code.Internal ∷ code.Unavailable ∷ code.DataLoss ∷ code.Unauthenticated ∷ []

-- a `grpc-status`: one digit or more that write a number from 0 to 16, and else UNKNOWN
-- (gRPC over HTTP/2, "Status")
abbrev pub code_of_text : List ℕ → Code
code_of_text value =
    if is_number value then unwrap_or (slice_get codes_in_order (number_of value)) code.Unknown else code.Unknown

-- a `grpc-message`: percent-decoded, and each part that is not UTF-8 is U+FFFD (gRPC over HTTP/2, "Status-Message")
abbrev pub text_of_message : List ℕ → List ℕ
text_of_message value = utf8_lossy (percent_decode value)
