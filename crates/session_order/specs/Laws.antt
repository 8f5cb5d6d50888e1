-- What follows after an action, and what does not.
-- Example: a session is quiescent, and its entry is answered with EventAnswered Done, for a Cancel of call 1. No line but those by which a call ends that
-- was cancelled, or sent too long a message, may give anything then: so what follows is that call 1 ends. That stirs the line of the cuts alone.
use Rattle.std.specs.Prelude.{None, Some, false, true, ℕ, ◌≡◌, ◌↔◌}
use Rattle.attempt_ledger.specs.declared.row.Placed.{Placed}
use Rattle.attempt_ledger.specs.declared.row.RowEnd.{RowEnd}
use Rattle.attempt_ledger.specs.declared.row.RowKind.{RowKind}
use Rattle.grpc_base.specs.declared.address.Address.{Address}
use Rattle.grpc_base.specs.declared.event.EndCause.{EndCause}
use Rattle.grpc_base.specs.declared.event.Refusal.{Refusal}
use Rattle.grpc_base.specs.declared.event.Reply.{Reply}
use Rattle.grpc_base.specs.declared.kind.Kind.{Kind}
use Rattle.grpc_base.specs.declared.kind.Pick.{Pick}
use Rattle.session_actions.specs.Actions.{after_in, following, of_calls, of_links, of_policies, of_stage}
use Rattle.session_actions.specs.declared.action.Action.{Action}
use Rattle.session_actions.specs.declared.action.CommitCause.{CommitCause}
use Rattle.session_actions.specs.declared.entry.OpenEntry.{OpenEntry}
use Rattle.session_actions.specs.declared.link.ReadFrame.{ReadFrame}
use Rattle.session_actions.specs.declared.seen.Seen.{Seen}
use Rattle.session_order.specs.Quiescent.{IsQuiescent, IsStill}
use Rattle.session_order.specs.Lines.{gives, is_before, is_line, is_of_policies}
use Rattle.session_order.specs.Stirs.{Fits, stirs}
use Rattle.session_order.specs.declared.line.Line.{Line}
use Rattle.session_actions.specs.declared.action.Action.TheVariants as action
use Rattle.session_order.specs.declared.line.Line.TheVariants as line

-- a line gives nothing exactly where it is still; and a session is quiescent exactly where nothing follows at once
abbrev pub LinesAreStill : Type 0
LinesAreStill = (l : Line) (o : OpenEntry) (s : Seen) → (gives l o s ≡ None) ↔ IsStill l o s

abbrev pub QuiescenceIsExact : Type 0
QuiescenceIsExact =
    (o : OpenEntry) (s : Seen) → ((of_calls o s ≡ None) × (of_links o s ≡ None) × (of_policies o s ≡ None)) ↔ IsQuiescent o s

-- while a session is quiescent, what is next is the stage's
abbrev pub QuiescenceLeavesStage : Type 0
QuiescenceLeavesStage = (o : OpenEntry) (s : Seen) → s.current ≡ Some o → IsQuiescent o s → following s ≡ of_stage o s o.stage

-- else the first line that is not still gives it
abbrev pub FirstLineGives : Type 0
FirstLineGives =
    (l : Line) (a : Action) (o : OpenEntry) (s : Seen) → s.current ≡ Some o → ((m : Line) → is_before o.event m l ≡ true → IsStill m o s)
    → gives l o s ≡ Some a → following s ≡ Some a

-- a line that gave nothing, and that an action does not stir, gives nothing after it either
abbrev pub Leaves : Action → OpenEntry → Seen → Type 0
Leaves a o s =
    (l : Line) (p : OpenEntry) → (after_in o a s).current ≡ Some p → stirs a l ≡ false → IsStill l o s → IsStill l p (after_in o a s)

-- so it is of each action of an open entry, where it is made and where the session is in order
abbrev pub StirsOnly : Action → Type 0
StirsOnly a = (o : OpenEntry) (s : Seen) → s.current ≡ Some o → Fits a o s → Leaves a o s

-- what is posted without a call or link that it bears on: a refusal, an answer, the end of an event, a resolution that failed
pub record EntriesStir : Type 0 where
  pub refused : (why : Refusal) → StirsOnly (action.EventRefused why)
  pub answered : (r : Reply) → StirsOnly (action.EventAnswered r)
  pub settles : StirsOnly action.SettlingBegins
  pub unresolved : StirsOnly action.ResolutionFailed

-- what an application posts to a call or takes of it
pub record ApplicationsStir : Type 0 where
  pub accepted : (call : ℕ) → StirsOnly (action.MessageAccepted call)
  pub finished : (call : ℕ) → StirsOnly (action.RequestFinished call)
  pub taken : (call : ℕ) (item : Reply) → StirsOnly (action.ItemTaken call item)

-- what is queued on a link, the bytes that come, the frames that are read, and that it is over
pub record LinksStir : Type 0 where
  pub read : (link : ℕ) (r : ReadFrame) → StirsOnly (action.FrameRead link r)
  pub broken : (link number : ℕ) → StirsOnly (action.LinkBreaks link number)
  pub lost : (link : ℕ) → StirsOnly (action.LinkLost link)
  pub arrived : (link : ℕ) → StirsOnly (action.BytesArrive link)
  pub pinged : (link : ℕ) → StirsOnly (action.PingQueued link)

-- what becomes of one subchannel ("gRPC Connectivity Semantics and API"; "Connection Backoff Protocol")
pub record BoardsStir : Type 0 where
  pub dialled : (sub again until : ℕ) → StirsOnly (action.DialTaken sub again until)
  pub failed : (sub : ℕ) → StirsOnly (action.DialFails sub)
  pub connects : (sub : ℕ) → StirsOnly (action.SubchannelConnects sub)
  pub rested : (sub : ℕ) → StirsOnly (action.BackoffEnds sub)
  pub up : (sub : ℕ) → StirsOnly (action.LinkUp sub)
  pub ready : (sub : ℕ) → StirsOnly (action.SettingsArrive sub)
  pub down : (sub : ℕ) → StirsOnly (action.LinkDown sub)
  pub added : (address : Address) → StirsOnly (action.SubchannelAdded address)

-- what is done to the queue: a pick request, a hedge that is withheld
pub record QueuesStir : Type 0 where
  pub asked : (row generation : ℕ) (answer : Pick) → StirsOnly (action.PickRequested row generation answer)
  pub withheld : (call : ℕ) → StirsOnly (action.HedgeWithheld call)

-- a call begins or ends, or the channel is shut down
pub record CallsStir : Type 0 where
  pub begun : StirsOnly action.CallBegins
  pub shut : StirsOnly action.ChannelShuts
  pub ended : (call : ℕ) (why : EndCause) → StirsOnly (action.CallEnds call why)

-- the same, but for the line of final ends
abbrev pub StirsButFinal : Action → Type 0
StirsButFinal a =
    (o : OpenEntry) (s : Seen) → s.current ≡ Some o → Fits a o s → (l : Line) (p : OpenEntry) → (after_in o a s).current ≡ Some p
    → is_line l line.Final ≡ false → stirs a l ≡ false → IsStill l o s → IsStill l p (after_in o a s)

-- an attempt is made, is placed, gets its call, ends, or has its stream reset
pub record AttemptsStir : Type 0 where
  pub made : (call number : ℕ) (k : RowKind) (due : ℕ) → StirsButFinal (action.AttemptMade call number k due)
  pub placed : (row : ℕ) (at : Placed) → StirsButFinal (action.AttemptPlaced row at)
  pub reset : (row number : ℕ) → StirsButFinal (action.StreamReset row number)
  pub committed : (row : ℕ) (why : CommitCause) → StirsButFinal (action.CallCommitted row why)
  pub ended : (row : ℕ) (end : RowEnd) → StirsOnly (action.AttemptEnds row end)

-- policies that come and go, and the subchannels that are shut with them, leave the lines of calls and links still
abbrev pub LeavesApart : Action → OpenEntry → Seen → Type 0
LeavesApart a o s =
    (l : Line) (p : OpenEntry) → (after_in o a s).current ≡ Some p → is_of_policies l ≡ false → IsStill l o s → IsStill l p (after_in o a s)

pub record PoliciesStirApart : Type 0 where
  pub begins : (k : Kind) (o : OpenEntry) (s : Seen) → s.current ≡ Some o → LeavesApart (action.PolicyBegins k) o s
  pub given : (g : ℕ) (o : OpenEntry) (s : Seen) → s.current ≡ Some o → LeavesApart (action.AddressesGiven g) o s
  pub over : (g : ℕ) (o : OpenEntry) (s : Seen) → s.current ≡ Some o → LeavesApart (action.PolicyTakesOver g) o s
  pub retired : (g : ℕ) (o : OpenEntry) (s : Seen) → s.current ≡ Some o → LeavesApart (action.PolicyRetired g) o s
  pub shut : (sub : ℕ) (o : OpenEntry) (s : Seen) → s.current ≡ Some o → LeavesApart (action.SubchannelShut sub) o s
