-- Which lines an action may stir: where such a line gave nothing before it, it may give something after it. Any other line that gave nothing still
-- gives nothing.
-- Example: the trailers of a hedged attempt are read, with a code that hedgingPolicy does not name. FrameRead stirs the line by which attempts end;
-- AttemptEnds those by which the call is committed and the stream reset; CallCommitted those by which the other attempts are cut and the call ends.
use Rattle.std.specs.List.{list_any}
use Rattle.std.specs.Prelude.{Bool, List, None, Some, [], false, true, length, nat_lt, slice_get, ℕ, ◌&&◌, ◌+◌, ◌∷◌, ◌<◌, ◌≡◌, ◌≤◌}
use Rattle.attempt_ledger.specs.declared.ledger.Ask.{Ask}
use Rattle.attempt_ledger.specs.declared.row.Placed.{Placed}
use Rattle.attempt_ledger.specs.declared.row.RowEnd.{RowEnd}
use Rattle.attempt_ledger.specs.declared.row.RowKind.{RowKind}
use Rattle.grpc_base.specs.declared.address.Address.{Address}
use Rattle.grpc_base.specs.Requests.{RequestSeen}
use Rattle.session_actions.specs.Attempts.{commitment, is_followed, is_later_of, is_of, is_outstanding, is_over}
use Rattle.session_actions.specs.Commitments.{is_free_call}
use Rattle.session_actions.specs.Configs.{is_too_long}
use Rattle.session_actions.specs.Entries.{entry}
use Rattle.session_actions.specs.Making.{new_row}
use Rattle.session_actions.specs.Policies.{addresses_in, is_failure, is_same_address, is_shutdown, listed}
use Rattle.session_actions.specs.Responses.{response}
use Rattle.session_actions.specs.Subchannels.{is_connecting, is_dialling, is_going_down, is_idle}
use Rattle.session_actions.specs.Words.{last_of, numbered}
use Rattle.session_actions.specs.Writing.{accepted_bytes}
use Rattle.session_actions.specs.declared.action.Action.{Action}
use Rattle.session_actions.specs.declared.attempt.Attempt.{Attempt}
use Rattle.session_actions.specs.declared.call.Call.{Call}
use Rattle.session_actions.specs.declared.entry.OpenEntry.{OpenEntry}
use Rattle.session_actions.specs.declared.link.Link.{Link}
use Rattle.session_actions.specs.declared.link.ReadFrame.{ReadFrame}
use Rattle.session_actions.specs.declared.seen.Seen.{Seen}
use Rattle.session_actions.specs.declared.subchannel.Subchannel.{Subchannel}
use Rattle.session_order.specs.Lines.{is_line}
use Rattle.session_order.specs.declared.line.Line.{Line}
use Rattle.session_actions.specs.declared.action.Action.TheVariants as action
use Rattle.grpc_base.specs.declared.event.Event.TheVariants as event
use Rattle.session_order.specs.declared.line.Line.TheVariants as line
use Rattle.grpc_base.specs.declared.kind.Pick.TheVariants as pick

abbrev pub stirred : Action → List Line
-- a call that is cancelled, or that was sent a message longer than allowed, ends
stirred (action.EventAnswered r) = line.Cancelled ∷ line.Request ∷ []
-- more bytes are accepted than are kept
stirred (action.MessageAccepted call) = line.Overflow ∷ []
-- its config may not allow what was accepted before it came
stirred (action.CallConfigured call config) = line.Request ∷ []
-- its attempts are cut off
stirred (action.CallEnds call why) = line.Cut ∷ []
-- its other attempts are cut off; it ends where the attempt has ended
stirred (action.CallCommitted row why) = line.Cut ∷ line.Row ∷ []
-- it may take a commitment over
stirred (action.AttemptMade call number k due) = line.Inherited ∷ []
-- the last end of a hedged call may be final now
stirred (action.HedgeWithheld call) = line.Final ∷ []
stirred (action.PickRequested row generation answer) = line.Pick ∷ []
-- it is retried transparently, or commits its call, or ends it; its stream is reset
stirred (action.AttemptEnds row end) = line.Transparent ∷ line.Row ∷ line.Final ∷ line.Reset ∷ []
-- policies come and go by a result, and subchannels by their lists
stirred (action.ConfigRead config) = line.Retire ∷ line.Begin ∷ line.Give ∷ []
stirred (action.PolicyBegins k) = line.Give ∷ []
stirred (action.AddressesGiven generation) = line.Drop ∷ line.Add ∷ []
stirred (action.PolicyTakesOver generation) = line.Drop ∷ []
stirred (action.PolicyRetired generation) = line.Drop ∷ []
-- what is read, or that a link is over, bears on its subchannel and its attempts
stirred (action.FrameRead link r) = line.Link ∷ line.Head ∷ line.Response ∷ line.WireEnd ∷ []
stirred (action.LinkBreaks link number) = line.Link ∷ line.WireEnd ∷ []
stirred (action.LinkLost link) = line.Link ∷ line.WireEnd ∷ []
-- all calls end, and all policies are retired
stirred action.ChannelShuts = line.Shut ∷ line.Retire ∷ []
stirred _ = []

abbrev pub stirs : Action → Line → Bool
stirs a l = list_any (is_line l) (stirred a)

-- What an action asks of the session, as far as it bears on what follows. Most is what its own line of the definition says; the rest is what each
-- session keeps in order
abbrev pub CallsHaveTheirNumbers : Seen → Type 0
CallsHaveTheirNumbers s = (k : ℕ) (c : Call) → numbered s.calls k ≡ Some c → c.number ≡ k

-- each attempt is of a call that began
abbrev pub HaveCalls : Seen → Type 0
HaveCalls s = (k : ℕ) (a : Attempt) → numbered s.attempts k ≡ Some a → a.row.call ≤ length s.calls

-- the links of attempts and subchannels came up
pub record HaveLinks (s : Seen) : Type 0 where
  pub attempts : (k : ℕ) (a : Attempt) (at : Placed) → numbered s.attempts k ≡ Some a → a.row.placed ≡ Some at → at.link ≤ length s.links
  pub subs : (k : ℕ) (b : Subchannel) (link : ℕ) → numbered s.subs k ≡ Some b → b.link ≡ Some link → link ≤ length s.links

-- what ended on a link saw less of it than this frame
abbrev pub SawLess : ℕ → ReadFrame → Seen → Type 0
SawLess link r s =
    (k : ℕ) (a : Attempt) (e : RowEnd) (at : Placed) → numbered s.attempts k ≡ Some a → a.row.ended ≡ Some e → a.row.placed ≡ Some at → at.link ≡ link
    → e.seen < r.end

-- an attempt that may be placed: it is queued, without a stream; the link is up; and while its call is not committed, no more bytes are accepted than
-- are kept
pub record IsPlaceable (row : ℕ) (at : Placed) (s : Seen) : Type 0 where
  pub attempt : Attempt
  pub here : numbered s.attempts row ≡ Some attempt
  pub stream : attempt.row.stream ≡ None
  pub ended : attempt.row.ended ≡ None
  pub queued : is_over attempt s ≡ false
  pub link : Link
  pub there : numbered s.links at.link ≡ Some link
  pub up : is_going_down link ≡ false
  pub room : (i : ℕ) (c : Call) → slice_get s.calls i ≡ Some c → is_of c attempt ≡ true → (is_free_call s c && nat_lt 262144 (accepted_bytes c)) ≡ false

-- an attempt of a number of its own: it follows none; and the last pick request was of an attempt that was made
abbrev pub made_row : ℕ → ℕ → RowKind → ℕ → Seen → Attempt
made_row call number k due s = record { place = length s.attempts + 1; row = new_row call number k due; made = entry s; reset = false }

pub record IsMakeable (call number : ℕ) (k : RowKind) (due : ℕ) (s : Seen) : Type 0 where
  pub follows_none : (i : ℕ) (a : Attempt) → numbered s.attempts i ≡ Some a → is_later_of a (made_row call number k due s) ≡ false
  pub asks : (ask : Ask) → last_of s.asks ≡ Some ask → ask.row ≤ length s.attempts

-- an address that a live policy lists; and the last pick request was answered with a subchannel that was there
pub record IsAddable (address : Address) (s : Seen) : Type 0 where
  pub is_listed : list_any (is_same_address address) (listed s) ≡ true
  pub picks : (ask : Ask) (sub : ℕ) → last_of s.asks ≡ Some ask → ask.answer ≡ pick.Place sub → sub ≤ length s.subs

-- an attempt to which its call may be committed: the call is not committed yet, none follows the attempt, and no message of its response is longer than
-- allowed; calls have the numbers of their places
pub record IsCommittable (row : ℕ) (s : Seen) : Type 0 where
  pub attempt : Attempt
  pub here : numbered s.attempts row ≡ Some attempt
  pub free : (c : Call) → is_of c attempt ≡ true → commitment c s ≡ None
  pub follows : is_followed attempt s ≡ false
  pub small : (is_outstanding attempt && (response attempt s).large) ≡ false
  pub numbers : CallsHaveTheirNumbers s

abbrev pub Fits : Action → OpenEntry → Seen → Type 0
-- the event brings no result of the resolver
Fits (action.EventAnswered r) o s = addresses_in o.event ≡ None
Fits action.ResolutionFailed o s = o.event ≡ event.ResolveFailed
-- the message is of this event, and no longer than allowed; calls have the numbers of their places
Fits (action.MessageAccepted call) o s =
    (message : List ℕ) × (o.event ≡ event.Send call message) × CallsHaveTheirNumbers s
    × ((c : Call) → numbered s.calls call ≡ Some c → is_too_long message c s ≡ false)
Fits (action.RequestFinished call) o s = o.event ≡ event.Finish call
Fits (action.ItemTaken call item) o s = o.event ≡ event.Take call
Fits (action.BytesArrive link) o s = (piece : List ℕ) × (o.event ≡ event.Arrived link piece)
Fits (action.PingQueued link) o s = (word : ℕ) × (o.event ≡ event.Ping link word)
-- the dial was under way; the subchannel was IDLE, without a link; its backoff is over
Fits (action.DialFails sub) o s =
    (o.event ≡ event.DialFailed sub) × (b : Subchannel) × (numbered s.subs sub ≡ Some b) × (is_dialling b ≡ true)
Fits (action.SubchannelConnects sub) o s = (b : Subchannel) × (numbered s.subs sub ≡ Some b) × (is_idle b.state ≡ true) × (b.link ≡ None)
Fits (action.BackoffEnds sub) o s = (b : Subchannel) × (numbered s.subs sub ≡ Some b) × (is_failure b.state ≡ true)
Fits (action.DialTaken sub again until) o s = (o.event ≡ event.TakeDial) × (b : Subchannel) × (numbered s.subs sub ≡ Some b) × (b.number ≡ sub)
Fits (action.LinkUp sub) o s = (o.event ≡ event.LinkUp sub) × HaveLinks s
Fits (action.SubchannelAdded address) o s = IsAddable address s
Fits (action.SettingsArrive sub) o s = (b : Subchannel) × (numbered s.subs sub ≡ Some b) × (is_connecting b.state ≡ true)
Fits (action.LinkDown sub) o s = (b : Subchannel) × (numbered s.subs sub ≡ Some b) × (is_shutdown b.state ≡ false)
Fits action.ChannelShuts o s = o.event ≡ event.Shutdown
-- the channel is open, and attempts are of calls that began
Fits action.CallBegins o s = (request : RequestSeen) × (o.event ≡ event.Begin request) × (s.shut ≡ false) × HaveCalls s
-- a frame that is read comes after all that was read before; a link that is lost
Fits (action.FrameRead link r) o s = (l : Link) → numbered s.links link ≡ Some l → SawLess l.number r s
Fits (action.LinkLost link) o s = o.event ≡ event.LinkLost link
Fits (action.AttemptMade call number k due) o s = IsMakeable call number k due s
Fits (action.CallCommitted row why) o s = IsCommittable row s
Fits (action.AttemptPlaced row at) o s = IsPlaceable row at s
-- calls have the numbers of their places
Fits (action.CallEnds call why) o s = CallsHaveTheirNumbers s
Fits _ o s = Unit {0}
