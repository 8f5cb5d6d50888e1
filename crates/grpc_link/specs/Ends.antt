-- The ends of attempts as their links report them (gRPC over HTTP/2, "Responses"; RFC 9113, sections 6.4, 6.8 and 8.1).
use Rattle.std.specs.Prelude.{ℕ, Bool, true, false, Option, Some, None, List, [], ◌∷◌, ◌==◌, ◌&&◌, ◌||◌, codes, nat_eq, slice_get, if◌then◌else◌}
use Rattle.std.specs.List.{starts_with}
use Rattle.std.specs.Option.{option_map_or}
use Rattle.grpc_base.specs.declared.code.Code.{Code}
use Rattle.grpc_base.specs.declared.code.Code.TheVariants as code
use Rattle.grpc_base.specs.declared.fields.Field.{Field}
use Rattle.grpc_base.specs.declared.plan.Pushback.{Pushback}
use Rattle.grpc_base.specs.declared.plan.Pushback.TheVariants as pushback
use Rattle.grpc_base.specs.ErrorCodes.{refused_stream}
use Rattle.attempt_ledger.specs.declared.news.EndNews.{EndNews}
use Rattle.attempt_ledger.specs.declared.row.RowCause.{RowCause}
use Rattle.attempt_ledger.specs.declared.row.RowCause.TheVariants as cause
use Rattle.grpc_meta.specs.ResponseFields.{pushback_of, shown_of, values_of}
use Rattle.grpc_status.specs.StatusMaps.{code_of_text, http_codes, looked_up, reset_codes, text_of_message}
use Rattle.h2_link.specs.Status.{http_status}

-- whether a content type is that of gRPC: `application/grpc`, alone or followed by `+` or `;`
abbrev pub is_grpc : Option (List ℕ) → Bool
is_grpc None = false
is_grpc (Some value) =
    starts_with nat_eq value (codes "application/grpc")
    && option_map_or (λ b. (b == 43) || (b == 59)) (slice_get value 16) true

-- whether a header list is the head of a response
abbrev pub is_head : List Field → Bool
is_head fields = option_map_or (λ s. s == 200) (http_status fields) false && is_grpc (slice_get (values_of (codes "content-type") fields) 0)

-- an end that a header block makes, of this code and cause: with its first `grpc-message` and its metadata
abbrev pub end_with : Code → RowCause → Pushback → List Field → ℕ → EndNews
end_with c why asks fields seen = record {
  code = c;
  text = option_map_or text_of_message (slice_get (values_of (codes "grpc-message") fields) 0) [];
  meta = shown_of fields;
  pushback = asks;
  unseen = false;
  seen = seen;
  cause = why;
}

-- the code of an HTTP status ("HTTP to gRPC Status Code Mapping"); UNKNOWN where there is none
abbrev pub http_code : List Field → Code
http_code fields = option_map_or (λ s. looked_up http_codes s) (http_status fields) code.Unknown

-- what a header list asks of the next attempt, where it ends the stream (gRFC A6, "Pushback")
abbrev pub asked : Bool → List Field → Pushback
asked ends fields = if ends then pushback_of (values_of (codes "grpc-retry-pushback-ms") fields) else pushback.None

-- the end by trailers, or by a response of trailers alone: by its one `grpc-status`, and by its HTTP status where it has none
abbrev pub status_end_by : List (List ℕ) → List Field → ℕ → EndNews
status_end_by [] fields seen = end_with (http_code fields) cause.Http (asked true fields) fields seen
status_end_by (value ∷ []) fields seen = end_with (code_of_text value) cause.Status (asked true fields) fields seen
status_end_by (value ∷ other ∷ more) fields seen = end_with code.Unknown cause.Status (asked true fields) fields seen

abbrev pub status_end : List Field → ℕ → EndNews
status_end fields seen = status_end_by (values_of (codes "grpc-status") fields) fields seen

-- the end by a header block that breaks a rule of the stream
abbrev pub framing_end : Bool → List Field → ℕ → EndNews
framing_end ends fields seen = end_with code.Internal cause.Framing (asked ends fields) fields seen

-- the end by a head that is no head of a response to gRPC
abbrev pub http_end : List Field → ℕ → EndNews
http_end fields seen = end_with (http_code fields) cause.Http pushback.None fields seen

-- an end that no header block makes
abbrev pub end_without_block : Code → RowCause → Bool → ℕ → EndNews
end_without_block c why unseen seen = record {
  code = c;
  text = [];
  meta = [];
  pushback = pushback.None;
  unseen = unseen;
  seen = seen;
  cause = why;
}

-- the end by RST_STREAM: a stream that is refused before its head was not acted on (RFC 9113, section 8.7)
abbrev pub reset_end : Bool → ℕ → ℕ → EndNews
reset_end has_head number seen =
    end_without_block (looked_up reset_codes number) cause.Reset ((number == refused_stream) && (if has_head then false else true)) seen

-- the end by GOAWAY: of a stream above its last one, or of an attempt that has none
abbrev pub unseen_end : Bool → ℕ → EndNews
unseen_end opened seen = end_without_block code.Unavailable (if opened then cause.Goaway else cause.Unsent) true seen

-- whether a code is OK
abbrev pub is_ok : Code → Bool
is_ok code.Ok = true
is_ok _ = false
