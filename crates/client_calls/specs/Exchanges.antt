-- A whole call in the entries of a handle, and the response that it gives.
use Rattle.std.specs.Prelude.{◌≡◌, ℕ, Option, Some, None, List, [], ◌∷◌, ◌++◌, All}
use Rattle.std.specs.Option.{option_or}
use Rattle.grpc_base.specs.Posts.{AddsEntry}
use Rattle.grpc_base.specs.Requests.{RequestSeen}
use Rattle.grpc_base.specs.declared.event.Entry.{Entry}
use Rattle.grpc_base.specs.declared.event.Event.TheVariants as event
use Rattle.grpc_base.specs.declared.event.Reply.{Reply}
use Rattle.grpc_base.specs.declared.event.Reply.TheVariants as reply
use Rattle.grpc_base.specs.declared.fields.Field.{Field}
use Rattle.client_calls.specs.Answers.{reply_of}
use Rattle.client_calls.specs.declared.calls.Received.{Received}
use Rattle.client_calls.specs.declared.calls.Received.TheVariants as received
use Rattle.client_calls.specs.declared.response.Response.{Response}
use Rattle.client_calls.specs.declared.status.Status.{Status}

-- these messages were sent, in order: one entry each, whatever its reply
abbrev pub Sends : ℕ → List (List ℕ) → List Entry → List Entry → Type 0
Sends call [] before after = after ≡ before
Sends call (message ∷ messages) before after =
    (next : List Entry) × (r : Reply) × AddsEntry before next (event.Send call message) r × Sends call messages next after

-- these were received, in order: one entry each
abbrev pub Takes : ℕ → List Received → List Entry → List Entry → Type 0
Takes call [] before after = after ≡ before
Takes call (x ∷ items) before after = (next : List Entry) × AddsEntry before next (event.Take call) (reply_of x) × Takes call items next after

-- the head, the messages and the end in what was received
abbrev pub head_of : Received → Option (List Field)
head_of (received.Head meta) = Some meta
head_of _ = None

abbrev pub messages_of : Received → List (List ℕ)
messages_of (received.Message octets) = octets ∷ []
messages_of _ = []

abbrev pub end_of : Received → Option Status
end_of (received.End status) = Some status
end_of _ = None

-- the first head of these
abbrev pub head_in : List Received → Option (List Field)
head_in [] = None
head_in (x ∷ items) = option_or (head_of x) (head_in items)

-- their messages, in order
abbrev pub messages_in : List Received → List (List ℕ)
messages_in [] = []
messages_in (x ∷ items) = messages_of x ++ messages_in items

-- no end is among these
abbrev pub AreBeforeEnd : List Received → Type 0
AreBeforeEnd items = All (λ x. end_of x ≡ None) items

-- what was received of a call up to this end, with this head and these messages
pub record GathersTo (call : ℕ) (before after : List Entry) (head : Option (List Field)) (messages : List (List ℕ)) (status : Status) : Type 0 where
  pub given : List Received
  pub before_end : AreBeforeEnd given
  pub takes : Takes call (given ++ received.End status ∷ []) before after
  pub head_is : head ≡ head_in given
  pub messages_are : messages ≡ messages_in given

-- what was received of a call up to its end, and the response that has all of it
abbrev pub IsGathered : ℕ → List Entry → List Entry → Response → Type 0
IsGathered call before after response = GathersTo call before after response.head response.messages.items response.status

-- a call that was begun: its messages were sent and it was finished, each by one entry, and then it was received to its end
pub record IsTransfer (call : ℕ) (messages : List (List ℕ)) (before after : List Entry) (response : Response) : Type 0 where
  pub sent : List Entry
  pub finished : List Entry
  pub r : Reply
  pub sends : Sends call messages before sent
  pub finishes : AddsEntry sent finished (event.Finish call) r
  pub gathers : IsGathered call finished after response

-- a whole call
pub record IsExchange (request : RequestSeen) (messages : List (List ℕ)) (before after : List Entry) (response : Response) : Type 0 where
  pub call : ℕ
  pub begun : List Entry
  pub begins : AddsEntry before begun (event.Begin request) (reply.Call call)
  pub transfers : IsTransfer call messages begun after response
