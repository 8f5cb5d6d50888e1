-- The response of a call that is answered by one message.
use Rattle.std.specs.Prelude.{◌≡◌, ◌≢◌, ℕ, List, [], ◌∷◌, length}
use Rattle.grpc_base.specs.Requests.{RequestSeen}
use Rattle.grpc_base.specs.declared.event.Entry.{Entry}
use Rattle.grpc_base.specs.declared.code.Code.TheVariants as code
use Rattle.client_calls.specs.Exchanges.{IsExchange}
use Rattle.client_calls.specs.declared.error.CallError.{CallError}
use Rattle.client_calls.specs.declared.error.CallError.TheVariants as fault
use Rattle.client_calls.specs.declared.response.Response.{Response}
use Rattle.client_calls.specs.declared.response.UnaryResponse.{UnaryResponse}

-- it ended OK, with this message alone
pub record IsUnary (response : Response) (u : UnaryResponse) : Type 0 where
  pub ok : response.status.code ≡ code.Ok
  pub message : response.messages.items ≡ u.message ∷ []
  pub head : u.head ≡ response.head
  pub trailers : u.trailers ≡ response.status.meta

-- it ended with another status, or it ended OK with none or several messages
abbrev pub IsNotUnary : Response → CallError → Type 0
IsNotUnary response (fault.Status status) = (status ≡ response.status) × (status.code ≢ code.Ok)
IsNotUnary response (fault.Cardinality count) = (response.status.code ≡ code.Ok) × (count ≡ length response.messages.items) × (count ≢ 1)
IsNotUnary response _ = ⊥

-- an error of a unary call: how its response ended, or else none of a response
abbrev pub EndsUnary : RequestSeen → List (List ℕ) → List Entry → List Entry → CallError → Type 0
EndsUnary request messages before after (fault.Status status) = (r : Response) × IsExchange request messages before after r × IsNotUnary r (fault.Status status)
EndsUnary request messages before after (fault.Cardinality count) = (r : Response) × IsExchange request messages before after r × IsNotUnary r (fault.Cardinality count)
EndsUnary request messages before after e = Unit {0}
