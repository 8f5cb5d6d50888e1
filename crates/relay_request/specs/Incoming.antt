-- What the header list of a request asks: a call, or the status with which it is refused.
use Rattle.std.specs.Prelude.{ℕ, Option, Some, None, List, [], codes}
use Rattle.grpc_base.specs.declared.code.Code.TheVariants as code
use Rattle.grpc_base.specs.declared.fields.Field.{Field}
use Rattle.grpc_meta.specs.ResponseFields.{shown_of, values_of}
use Rattle.relay_request.specs.declared.incoming.Incoming.{Incoming}
use Rattle.relay_request.specs.declared.incoming.Incoming.TheVariants.{Begins, Refused}
use Rattle.relay_request.specs.Heads.{call_path}
use Rattle.relay_request.specs.Pairs.{metadata_from}
use Rattle.relay_request.specs.Timeouts.{asked_by}

-- an unreadable timeout is refused with INTERNAL
abbrev pub by_timeout : List ℕ → List Field → Option (Option ℕ) → Incoming
by_timeout path meta None = Refused code.Internal
by_timeout path meta (Some timeout) = Begins (record { path = path; meta = meta; wait = None; timeout = timeout })

-- metadata without room with RESOURCE_EXHAUSTED
abbrev pub by_meta : List ℕ → Option (Option ℕ) → Option (List Field) → Incoming
by_meta path asked None = Refused code.ResourceExhausted
by_meta path asked (Some meta) = by_timeout path meta asked

-- and what begins no call with UNIMPLEMENTED
abbrev pub by_path : List Field → Option (List ℕ) → Incoming
by_path fields None = Refused code.Unimplemented
by_path fields (Some path) =
    by_meta path (asked_by (values_of (codes "grpc-timeout") fields)) (metadata_from (Some []) (shown_of fields))

abbrev pub incoming : List Field → Incoming
incoming fields = by_path fields (call_path fields)
