-- What every event is that was posted.
-- Example: a Begin with a timeout of 5 s, and a result of the resolver with two addresses. No request has a timeout of 2^60 ns, and no result one address twice: the
-- types of an event allow neither.
use Rattle.std.specs.List.{AllByRecursion}
use Rattle.std.specs.Prelude.{List}
use Rattle.grpc_base.specs.Addresses.{IsAddressList}
use Rattle.grpc_base.specs.Requests.{IsRequest}
use Rattle.grpc_base.specs.declared.event.Event.TheVariants as event
use Rattle.grpc_base.specs.declared.event.Event.{Event}
use Rattle.grpc_base.specs.declared.event.Stamped.{Stamped}

-- what every event is by its types: a request has a path and metadata that may be sent, and no timeout above the longest duration; a list of addresses has none twice
abbrev pub IsPosted : Event → Type 0
IsPosted (event.Begin request) = IsRequest request
IsPosted (event.Resolved addresses config) = IsAddressList addresses
IsPosted _ = Unit {0}

abbrev pub EventsArePosted : List Stamped → Type 0
EventsArePosted events = AllByRecursion (λ e. IsPosted e.event) events
