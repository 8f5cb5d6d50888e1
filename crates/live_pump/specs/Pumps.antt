-- What the workers that move bytes between a channel and its links post, and what their answers say.
use Rattle.std.specs.Prelude.{◌≡◌, ◌≤◌, ◌<◌, ◌⊎◌, ℕ, Bool, true, false, Option, Result, Ok, Err, List, length}
use Rattle.grpc_base.specs.Counts.{one_more}
use Rattle.grpc_base.specs.Posts.{CountsErrors, Posts}
use Rattle.grpc_base.specs.Refusals.{refusal_number}
use Rattle.grpc_base.specs.declared.event.Entry.{Entry}
use Rattle.grpc_base.specs.declared.event.Event.{Event}
use Rattle.grpc_base.specs.declared.event.Event.TheVariants as event
use Rattle.grpc_base.specs.declared.event.Reply.{Reply}
use Rattle.grpc_base.specs.declared.event.Reply.TheVariants as reply
use Rattle.grpc_base.specs.declared.post.PostError.{PostError}
use Rattle.grpc_base.specs.declared.post.PostError.TheVariants as failed
use Rattle.gate_io.specs.Outside.{Appends, AppendsPrefix, IsAtEnd, Takes}
use Rattle.live_pump.specs.declared.pumped.Pumped.{Pumped}
use Rattle.live_pump.specs.declared.pumped.Pumped.TheVariants as pumped

-- what a handle at the channel has done: the entries that it made, how many of its posts failed, and the last error
pub record HandleSeen : Type 0 where
  pub made : List Entry
  pub errors : ℕ
  pub last : Option PostError

-- nothing was posted
pub record PostsNothing (before after : HandleSeen) : Type 0 where
  pub made : after.made ≡ before.made
  pub errors : after.errors ≡ before.errors
  pub last : after.last ≡ before.last

-- this event was posted, and this came of it
pub record PostsOne (e : Event) (before after : HandleSeen) (came : Result Reply PostError) : Type 0 where
  pub made : Posts before.made after.made e came
  pub errors : CountsErrors before.errors after.errors before.last after.last came

-- the answer after a post: the refusal, the error, or `done` where it was not refused
abbrev pub answer_of : Pumped → Result Reply PostError → Pumped
answer_of done (Ok (reply.Refused r)) = pumped.Gone (refusal_number r)
answer_of done (Ok r) = done
answer_of done (Err e) = pumped.Failed e

-- this event was posted, and the answer is by what came of it
abbrev pub PostsTo : Event → Pumped → HandleSeen → HandleSeen → Pumped → Type 0
PostsTo e done before after result = (came : Result Reply PostError) × PostsOne e before after came × (result ≡ answer_of done came)

-- memory was wanting for the event, and nothing was posted
abbrev pub WantsMemory : HandleSeen → HandleSeen → Pumped → Type 0
WantsMemory before after result = PostsNothing before after × (result ≡ pumped.Failed (failed.NoMemory false))

-- what a link that is read shows: the bytes that are left where they are known, how often a read failed, and how often one was quiet
pub record InSeen : Type 0 where
  pub left : Option (List ℕ)
  pub faults : ℕ
  pub quiet : ℕ

-- a read was quiet
pub record IsQuiet (before after : InSeen) : Type 0 where
  pub left : after.left ≡ before.left
  pub faults : after.faults ≡ before.faults
  pub quiet : after.quiet ≡ one_more before.quiet

-- a read gave these bytes, at most 16,384
pub record Gives (piece : List ℕ) (before after : InSeen) : Type 0 where
  pub some : 0 < length piece
  pub within : length piece ≤ 16384
  pub left : Takes before.left after.left piece
  pub faults : after.faults ≡ before.faults
  pub quiet : after.quiet ≡ before.quiet

-- a read gave the end of the link, or failed
pub record IsOver (before after : InSeen) : Type 0 where
  pub left : after.left ≡ before.left
  pub quiet : after.quiet ≡ before.quiet
  pub over : (IsAtEnd before.left × (after.faults ≡ before.faults)) ⊎ (after.faults ≡ one_more before.faults)

-- bytes that came are posted as Arrived, unless memory is wanting
abbrev pub Arrives : ℕ → List ℕ → HandleSeen → HandleSeen → Pumped → Type 0
Arrives link piece before after result = PostsTo (event.Arrived link piece) pumped.Going before after result ⊎ WantsMemory before after result

-- one read of a link: nothing is posted where it was quiet, the bytes that came as Arrived, and LinkLost exactly
-- where the link ended or the read failed
abbrev pub PumpsIn : ℕ → InSeen → InSeen → HandleSeen → HandleSeen → Pumped → Type 0
PumpsIn link in_before in_after before after result =
    (IsQuiet in_before in_after × PostsNothing before after × (result ≡ pumped.Going))
    ⊎ ((piece : List ℕ) × Gives piece in_before in_after × Arrives link piece before after result)
    ⊎ (IsOver in_before in_after × PostsTo (event.LinkLost link) pumped.Lost before after result)

-- what a link that is written shows: the bytes that were taken where they are known, and how often a write failed
pub record OutSeen : Type 0 where
  pub taken : Option (List ℕ)
  pub faults : ℕ

-- nothing was written
pub record IsLeft (before after : OutSeen) : Type 0 where
  pub taken : after.taken ≡ before.taken
  pub faults : after.faults ≡ before.faults

-- these bytes were written whole
pub record IsWritten (piece : List ℕ) (before after : OutSeen) : Type 0 where
  pub taken : Appends before.taken after.taken piece
  pub faults : after.faults ≡ before.faults

-- a write of these bytes failed; what was taken is a prefix of them
pub record IsCutOff (piece : List ℕ) (before after : OutSeen) : Type 0 where
  pub taken : AppendsPrefix before.taken after.taken piece
  pub faults : after.faults ≡ one_more before.faults

-- what was drained is written whole, or a write fails and LinkLost is posted
abbrev pub WritesOut : ℕ → List ℕ → OutSeen → OutSeen → HandleSeen → HandleSeen → Pumped → Type 0
WritesOut link piece out_before out_after before after result =
    (IsWritten piece out_before out_after × PostsNothing before after × (result ≡ pumped.Going))
    ⊎ (IsCutOff piece out_before out_after × PostsTo (event.LinkLost link) pumped.Lost before after result)

-- the bytes that a drain gave, or the answer where it gave none
abbrev pub drained_of : Result Reply PostError → Result (List ℕ) Pumped
drained_of (Ok (reply.Octets piece)) = Ok piece
drained_of came = Err (answer_of pumped.Going came)

-- what a drain gave is written; where it gave nothing, nothing is done
abbrev pub AfterDrain : ℕ → Result (List ℕ) Pumped → OutSeen → OutSeen → HandleSeen → HandleSeen → Pumped → Type 0
AfterDrain link (Ok piece) out_before out_after before after result = WritesOut link piece out_before out_after before after result
AfterDrain link (Err answer) out_before out_after before after result = IsLeft out_before out_after × PostsNothing before after × (result ≡ answer)

-- where the channel has something to send, a Drain is posted and what it gave is written; else nothing is done
abbrev pub PumpsOut : ℕ → Bool → OutSeen → OutSeen → HandleSeen → HandleSeen → Pumped → Type 0
PumpsOut link false out_before out_after before after result = IsLeft out_before out_after × PostsNothing before after × (result ≡ pumped.Going)
PumpsOut link true out_before out_after before after result =
    (drained : HandleSeen) × (came : Result Reply PostError) × PostsOne (event.Drain link 65536) before drained came × AfterDrain link (drained_of came) out_before out_after drained after result
