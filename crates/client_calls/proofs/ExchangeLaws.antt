-- What the entries of a call come to.
use Rattle.std.proofs.Common.{◌≡◌, ℕ, Option, Some, None, Result, Ok, Err, IfErr, IfOk, OnOk, List, [], ◌∷◌, ◌++◌, refl, sym, ap, subst, ◌∙◌, append_assoc, append-nil}
use Rattle.std.specs.Option.{option_or}
use Rattle.std.proofs.lemmas.List.Elements.{All-append, All-cons, All-nil}
use Rattle.grpc_base.specs.Posts.{AddsEntry, Posts}
use Rattle.grpc_base.specs.Requests.{RequestSeen}
use Rattle.grpc_base.specs.declared.event.Entry.{Entry}
use Rattle.grpc_base.specs.declared.event.Event.{Event}
use Rattle.grpc_base.specs.declared.event.Event.TheVariants as event
use Rattle.grpc_base.specs.declared.event.Reply.{Reply}
use Rattle.grpc_base.specs.declared.event.Reply.TheVariants as reply
use Rattle.grpc_base.specs.declared.fields.Field.{Field}
use Rattle.grpc_base.specs.declared.post.PostError.{PostError}
use Rattle.client_calls.specs.Answers.{Does, reply_of, unless_refused}
use Rattle.client_calls.specs.Exchanges.{AreBeforeEnd, GathersTo, IsExchange, Sends, Takes, end_of, head_in, head_of, messages_in, messages_of}
use Rattle.client_calls.specs.Unary.{EndsUnary, IsNotUnary, IsUnary}
use Rattle.client_calls.specs.declared.calls.Received.{Received}
use Rattle.client_calls.specs.declared.calls.Received.TheVariants as received
use Rattle.client_calls.specs.declared.error.CallError.{CallError}
use Rattle.client_calls.specs.declared.error.CallError.TheVariants as fault
use Rattle.client_calls.specs.declared.response.Response.{Response}
use Rattle.client_calls.specs.declared.response.UnaryResponse.{UnaryResponse}
use Rattle.client_calls.specs.declared.status.Status.{Status}

-- a post that got a reply made an entry
adds_reply : (before after : List Entry) (e : Event) (came : Result Reply PostError) (r : Reply) → Posts before after e came → came ≡ Ok r → AddsEntry before after e r
adds_reply before after e came r posts is = let p : Posts before after e (Ok r) = subst (λ (x : Result Reply PostError). Posts before after e x) is posts in p.0

-- a step that is done, or whose refusal is passed over, made an entry
pub passed : (before after : List Entry) (e : Event) (came : Result Reply PostError) (done done' : Result Unit CallError) → Posts before after e came → Does came done → done' ≡ unless_refused done → OnOk done' ((r : Reply) × AddsEntry before after e r)
passed before after e came (Ok x) done' posts does is = rw is (reply.Done, adds_reply before after e came reply.Done posts does)
passed before after e came (Err (fault.Refused r)) done' posts does is = rw is (reply.Refused r, adds_reply before after e came (reply.Refused r) posts does)
passed before after e came (Err (fault.Status s)) done' posts does is = rw is tt
passed before after e came (Err (fault.Cardinality n)) done' posts does is = rw is tt
passed before after e came (Err (fault.Failed x)) done' posts does is = rw is tt
passed before after e came (Err fault.NoMemory) done' posts does is = rw is tt

-- a Send more
pub sends_more : (call : ℕ) (done : List (List ℕ)) (message : List ℕ) (start here next : List Entry) (r : Reply) → Sends call done start here → AddsEntry here next (event.Send call message) r → Sends call (done ++ message ∷ []) start next
sends_more call [] message start here next r so_far adds = (next, r, subst (λ (l : List Entry). AddsEntry l next (event.Send call message) r) so_far adds, refl)
sends_more call (first ∷ done) message start here next r so_far adds = (so_far.0, so_far.1, so_far.2, sends_more call done message so_far.0 here next r so_far.3 adds)

-- what is done, the next, and what is left
pub parts_more : {X : Type 0} (all done rest later : List X) (x : X) → all ≡ done ++ rest → rest ≡ x ∷ later → all ≡ (done ++ x ∷ []) ++ later
parts_more {X} all done rest later x parts next = parts ∙ ap (λ (l : List X). done ++ l) next ∙ sym (append_assoc done (x ∷ []) later)

-- nothing is left
pub sends_done : (call : ℕ) (messages done rest : List (List ℕ)) (start here : List Entry) → messages ≡ done ++ rest → rest ≡ [] → Sends call done start here → Sends call messages start here
sends_done call messages done rest start here parts over so_far =
    subst (λ (l : List (List ℕ)). Sends call l start here) (sym (parts ∙ ap (λ (l : List (List ℕ)). done ++ l) over ∙ append-nil done)) so_far

-- something more was received
pub takes_more : (call : ℕ) (done : List Received) (x : Received) (start here next : List Entry) → Takes call done start here → AddsEntry here next (event.Take call) (reply_of x) → Takes call (done ++ x ∷ []) start next
takes_more call [] x start here next so_far adds = (next, subst (λ (l : List Entry). AddsEntry l next (event.Take call) (reply_of x)) so_far adds, refl)
takes_more call (first ∷ done) x start here next so_far adds = (so_far.0, so_far.1, takes_more call done x so_far.0 here next so_far.2 adds)

or_assoc : (a b c : Option (List Field)) → option_or a (option_or b c) ≡ option_or (option_or a b) c
or_assoc None b c = refl
or_assoc (Some x) b c = refl

or_none : (a : Option (List Field)) → option_or a None ≡ a
or_none None = refl
or_none (Some x) = refl

pub head_more : (done : List Received) (x : Received) → head_in (done ++ x ∷ []) ≡ option_or (head_in done) (head_of x)
head_more [] x = or_none (head_of x)
head_more (first ∷ done) x = ap (λ (h : Option (List Field)). option_or (head_of first) h) (head_more done x) ∙ or_assoc (head_of first) (head_in done) (head_of x)

pub messages_more : (done : List Received) (x : Received) → messages_in (done ++ x ∷ []) ≡ messages_in done ++ messages_of x
messages_more [] x = append-nil (messages_of x)
messages_more (first ∷ done) x = ap (λ (l : List (List ℕ)). messages_of first ++ l) (messages_more done x) ∙ sym (append_assoc (messages_of first) (messages_in done) (messages_of x))

-- the one with an end is that end
is_end : (x : Received) (status : Status) → Some status ≡ end_of x → x ≡ received.End status
is_end (received.End s) status is = ap received.End (cc)
is_end (received.Head meta) status is = absurd (let no : ⊥ = (cc) in no)
is_end (received.Message octets) status is = absurd (let no : ⊥ = (cc) in no)

keeps_head : (x : Received) (status : Status) → Some status ≡ end_of x → head_of x ≡ None
keeps_head (received.End s) status is = refl
keeps_head (received.Head meta) status is = absurd (let no : ⊥ = (cc) in no)
keeps_head (received.Message octets) status is = absurd (let no : ⊥ = (cc) in no)

keeps_messages : (x : Received) (status : Status) → Some status ≡ end_of x → messages_of x ≡ []
keeps_messages (received.End s) status is = refl
keeps_messages (received.Head meta) status is = absurd (let no : ⊥ = (cc) in no)
keeps_messages (received.Message octets) status is = absurd (let no : ⊥ = (cc) in no)

-- what was received so far, none of it an end
pub record Gathers (call : ℕ) (start here : List Entry) (head : Option (List Field)) (messages : List (List ℕ)) : Type 0 where
  pub given : List Received
  pub before_end : AreBeforeEnd given
  pub takes : Takes call given start here
  pub head_is : head ≡ head_in given
  pub messages_are : messages ≡ messages_in given

-- and more, which is no end
pub gathers_more : (call : ℕ) (start here next : List Entry) (head head' : Option (List Field)) (messages messages' : List (List ℕ)) (x : Received)
    → Gathers call start here head messages → AddsEntry here next (event.Take call) (reply_of x) → end_of x ≡ None
    → head' ≡ option_or head (head_of x) → messages' ≡ messages ++ messages_of x → Gathers call start next head' messages'
gathers_more call start here next head head' messages messages' x on adds goes_on heads adds_messages =
    let P : Received → Type 0 = λ y. end_of y ≡ None in
    record {
      given = on.given ++ x ∷ [];
      before_end = All-append P on.given (x ∷ []) on.before_end (All-cons P x [] goes_on (All-nil P));
      takes = takes_more call on.given x start here next on.takes adds;
      head_is = heads ∙ ap (λ (h : Option (List Field)). option_or h (head_of x)) on.head_is ∙ sym (head_more on.given x);
      messages_are = adds_messages ∙ ap (λ (l : List (List ℕ)). l ++ messages_of x) on.messages_are ∙ sym (messages_more on.given x);
    }

-- and the end
pub gathers_end : (call : ℕ) (start here next : List Entry) (head head' : Option (List Field)) (messages messages' : List (List ℕ)) (x : Received) (status : Status)
    → Gathers call start here head messages → AddsEntry here next (event.Take call) (reply_of x) → Some status ≡ end_of x
    → head' ≡ option_or head (head_of x) → messages' ≡ messages ++ messages_of x → GathersTo call start next head' messages' status
gathers_end call start here next head head' messages messages' x status on adds ends heads adds_messages =
    record {
      given = on.given;
      before_end = on.before_end;
      takes = subst (λ (y : Received). Takes call (on.given ++ y ∷ []) start next) (is_end x status ends) (takes_more call on.given x start here next on.takes adds);
      head_is = heads ∙ ap (λ (h : Option (List Field)). option_or head h) (keeps_head x status ends) ∙ or_none head ∙ on.head_is;
      messages_are = adds_messages ∙ ap (λ (l : List (List ℕ)). messages ++ l) (keeps_messages x status ends) ∙ append-nil messages ∙ on.messages_are;
    }

-- a unary call that is answered
pub unary_answered : (request : RequestSeen) (messages : List (List ℕ)) (before after : List Entry) (response : Response) (result : Result UnaryResponse CallError)
    → IsExchange request messages before after response → IfOk result (λ u. IsUnary response u) → IfOk result (λ u. (r : Response) × IsExchange request messages before after r × IsUnary r u)
unary_answered request messages before after response (Ok u) exchange is = (response, exchange, is)
unary_answered request messages before after response (Err e) exchange is = tt

-- and one that is not
pub unary_ended : (request : RequestSeen) (messages : List (List ℕ)) (before after : List Entry) (response : Response) (result : Result UnaryResponse CallError)
    → IsExchange request messages before after response → IfErr result (λ e. IsNotUnary response e) → IfErr result (λ e. EndsUnary request messages before after e)
unary_ended request messages before after response (Ok u) exchange is = tt
unary_ended request messages before after response (Err (fault.Status status)) exchange is = (response, exchange, is)
unary_ended request messages before after response (Err (fault.Cardinality count)) exchange is = (response, exchange, is)
unary_ended request messages before after response (Err (fault.Refused r)) exchange is = tt
unary_ended request messages before after response (Err (fault.Failed e)) exchange is = tt
unary_ended request messages before after response (Err fault.NoMemory) exchange is = tt
