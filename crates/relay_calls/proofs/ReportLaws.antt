-- What the answer of a post says of its errors.
use Rattle.std.proofs.Common.{◌≡◌, ℕ, Option, Result, Ok, Err, List, [], ◌∷◌, refl, sym, ap, subst, ◌∙◌}
use Rattle.std.specs.List.{Contains}
use Rattle.std.proofs.lemmas.List.Elements.{All-cons, All-contains, All-nil}
use Rattle.grpc_base.specs.Posts.{refusals_of}
use Rattle.grpc_base.specs.Counts.{one_more}
use Rattle.grpc_base.specs.Refusals.{refusal_number}
use Rattle.grpc_base.specs.declared.event.Event.{Event}
use Rattle.grpc_base.specs.declared.event.Event.TheVariants as event
use Rattle.grpc_base.specs.declared.event.Reply.{Reply}
use Rattle.grpc_base.specs.declared.event.Reply.TheVariants as reply
use Rattle.grpc_base.specs.declared.event.Refusal.{Refusal}
use Rattle.grpc_base.specs.declared.event.Refusal.TheVariants as refusal
use Rattle.grpc_base.specs.declared.post.PostError.{PostError}
use Rattle.grpc_base.specs.declared.request.Request.{Request}
use Rattle.live_pump.specs.Pumps.{HandleSeen, PostsOne}
use Rattle.relay_asks.specs.declared.ask.RelayAsk.TheVariants as ask
use Rattle.relay_calls.specs.Calls.{Calls, begun, closed, held, silenced}
use Rattle.relay_calls.specs.Posting.{Becomes, ReportsThat, came_of}
use Rattle.relay_calls.specs.Taking.{GaveUp, Gives, ReportsError}
use Rattle.relay_calls.specs.declared.call.RelayCall.{RelayCall}
use Rattle.relay_calls.specs.declared.fault.CallsFault.{CallsFault}
use Rattle.relay_calls.specs.declared.fault.CallsFault.TheVariants as fault

-- a post that was answered, and whose reply is no fault
pub reports_ok : (before after : HandleSeen) (c next after_calls : Calls) (result : Result Unit CallsFault) → after.errors ≡ before.errors → Becomes c (Ok next) after_calls result → ReportsThat before after result
reports_ok before after c next after_calls (Ok done) same h = same
reports_ok before after c next after_calls (Err f) same h = subst (λ (x : CallsFault). ReportsThat before after (Err x)) (sym h) same

-- a post that failed
pub reports_failed : (e : Event) (before after : HandleSeen) (c after_calls : Calls) (error : PostError) (result : Result Unit CallsFault)
    → PostsOne e before after (Err error) → Becomes c (Err (fault.Failed error)) after_calls result → ReportsThat before after result
reports_failed e before after c after_calls error result h b = subst (λ (x : Result Unit CallsFault). ReportsThat before after x) (sym b.1) (h.errors.0, h.errors.1)

-- a Begin is refused only where the channel was shut down
pub shut_nine : (request : Request) (x : Refusal) → Contains (refusals_of (event.Begin request)) x → refusal_number x ≡ 9
shut_nine request x among =
    All-contains (λ (y : Refusal). refusal_number y ≡ 9) (refusal.Shut ∷ []) x (All-cons (λ (y : Refusal). refusal_number y ≡ 9) refusal.Shut [] refl (All-nil (λ (y : Refusal). refusal_number y ≡ 9))) among

pub reports_begun : (request : Request) (stream : ℕ) (before after : HandleSeen) (c after_calls : Calls) (came : Result Reply PostError) (result : Result Unit CallsFault)
    → PostsOne (event.Begin request) before after came → Becomes c (came_of c (ask.Begin stream request) came) after_calls result → ReportsThat before after result
reports_begun request stream before after c after_calls (Err error) result h b = reports_failed (event.Begin request) before after c after_calls error result h b
reports_begun request stream before after c after_calls (Ok (reply.Call n)) result h b = reports_ok before after c (begun c stream n) after_calls result h.errors.0 b
reports_begun request stream before after c after_calls (Ok (reply.Refused x)) result h b =
    subst (λ (r : Result Unit CallsFault). ReportsThat before after r) (sym b.1) (h.errors.0, shut_nine request x h.made.1)
reports_begun request stream before after c after_calls (Ok reply.Done) result h b = reports_ok before after c c after_calls result h.errors.0 b
reports_begun request stream before after c after_calls (Ok (reply.Full n)) result h b = reports_ok before after c c after_calls result h.errors.0 b
reports_begun request stream before after c after_calls (Ok (reply.Head meta)) result h b = reports_ok before after c c after_calls result h.errors.0 b
reports_begun request stream before after c after_calls (Ok (reply.Message octets)) result h b = reports_ok before after c c after_calls result h.errors.0 b
reports_begun request stream before after c after_calls (Ok (reply.End code text meta cause)) result h b = reports_ok before after c c after_calls result h.errors.0 b
reports_begun request stream before after c after_calls (Ok reply.NotYet) result h b = reports_ok before after c c after_calls result h.errors.0 b
reports_begun request stream before after c after_calls (Ok (reply.BadConfig f)) result h b = reports_ok before after c c after_calls result h.errors.0 b
reports_begun request stream before after c after_calls (Ok (reply.Dial sub address until)) result h b = reports_ok before after c c after_calls result h.errors.0 b
reports_begun request stream before after c after_calls (Ok (reply.Link link)) result h b = reports_ok before after c c after_calls result h.errors.0 b
reports_begun request stream before after c after_calls (Ok (reply.Octets octets)) result h b = reports_ok before after c c after_calls result h.errors.0 b

pub reports_finished : (call stream : ℕ) (before after : HandleSeen) (c after_calls : Calls) (came : Result Reply PostError) (result : Result Unit CallsFault)
    → PostsOne (event.Finish call) before after came → Becomes c (came_of c (ask.Finish stream) came) after_calls result → ReportsThat before after result
reports_finished call stream before after c after_calls (Err error) result h b = reports_failed (event.Finish call) before after c after_calls error result h b
reports_finished call stream before after c after_calls (Ok r) result h b = reports_ok before after c (silenced c stream) after_calls result h.errors.0 b

pub reports_cancelled : (call stream : ℕ) (before after : HandleSeen) (c after_calls : Calls) (came : Result Reply PostError) (result : Result Unit CallsFault)
    → PostsOne (event.Cancel call) before after came → Becomes c (came_of c (ask.Cancel stream) came) after_calls result → ReportsThat before after result
reports_cancelled call stream before after c after_calls (Err error) result h b = reports_failed (event.Cancel call) before after c after_calls error result h b
reports_cancelled call stream before after c after_calls (Ok r) result h b = reports_ok before after c (closed c stream) after_calls result h.errors.0 b

-- where no post failed before
pub reports_from : (start before after : HandleSeen) (result : Result Unit CallsFault) → before.errors ≡ start.errors → ReportsThat before after result → ReportsThat start after result
reports_from start before after (Ok done) same h = h ∙ same
reports_from start before after (Err (fault.Gone r)) same h = (h.0 ∙ same, h.1)
reports_from start before after (Err (fault.Failed error)) same h = (h.0 ∙ ap one_more same, h.1)
reports_from start before after (Err fault.NoMemory) same h = h ∙ same

-- what an answer of a Take says, and that of the Cancel of a call that is given up
pub error_taken : (e : Event) (before after : HandleSeen) (k k' : RelayCall) (came : Result Reply PostError) (result : Result (Option Reply) PostError) → PostsOne e before after came → Gives k came k' result → ReportsError before after result
error_taken e before after k k' (Ok r) result h b = subst (λ (x : Result (Option Reply) PostError). ReportsError before after x) (sym b.1) h.errors.0
error_taken e before after k k' (Err error) result h b = subst (λ (x : Result (Option Reply) PostError). ReportsError before after x) (sym b.1) (h.errors.0, h.errors.1)
