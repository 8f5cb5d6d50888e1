-- The answer of a pick request is acted on at once: the attempt is placed on the link of the subchannel that was picked, or ends by the failed pick (gRPC, "Load
-- Balancing in gRPC"). So a step of the queue (`ServeSteps`) is a pick request, and what follows its answer.
-- Example: PickRequested 2 of call 2 was answered Place 1. AttemptPlaced 2 on link 1, and nothing follows; the pass goes on after it.
-- The laws, in the order of this file:
-- 1. After a pick request nothing follows but what its answer says, and the pass goes on after the attempt.
-- 2. What follows: AttemptPlaced on the link of the subchannel, or AttemptEnds.
-- 3. What is asked of either answer, Place and Fail. (A policy that is asked is READY or in TRANSIENT_FAILURE, so its answer is never Wait.)
-- 4. With that, and while the net may ask, an attempt that waits is served.
use Rattle.std.specs.Prelude.{None, Some, [], false, nat_lt, option_map, true, ℕ, ◌&&◌, ◌≡◌}
use Rattle.attempt_buffer.specs.Buffers.{Buffered, Committed, text_of}
use Rattle.attempt_ledger.specs.declared.row.Placed.{Placed}
use Rattle.channel_actions.specs.Agrees.{Agrees}
use Rattle.channel_actions.specs.Quiescent.{IsAt}
use Rattle.channel_core.specs.Books.{limit_at, slot_at}
use Rattle.channel_core.specs.Settling.{moves, offered, picked, place_at, placed, settled_in}
use Rattle.channel_core.specs.States.{StateSeen}
use Rattle.channel_core.specs.Steps.{Moved, next_served}
use Rattle.channel_core.specs.Tables.{takes_rows}
use Rattle.channel_actions.specs.FewCalls.Reached.{IsReached}
use Rattle.channel_actions.specs.HeldTexts.Fits.{TextsFit}
use Rattle.grpc_frame.specs.Messages.{framed_all}
use Rattle.grpc_base.specs.declared.kind.Pick.{Pick}
use Rattle.grpc_base.specs.declared.kind.Pick.TheVariants as pick
use Rattle.session_actions.specs.Actions.{config_action, following}
use Rattle.session_actions.specs.AttemptEnds.{end_of, pick_end}
use Rattle.session_actions.specs.Attempts.{commitment, is_queued}
use Rattle.session_actions.specs.Policies.{attempt_placed, next_take_over, pick_requested}
use Rattle.session_actions.specs.Subchannels.{is_going_down, next_connected, next_of_clock}
use Rattle.session_actions.specs.Words.{first_of, numbered}
use Rattle.session_actions.specs.declared.action.Action.TheVariants as action
use Rattle.session_actions.specs.Commitments.{is_free_call}
use Rattle.session_actions.specs.Writing.{accepted_bytes}
use Rattle.session_actions.specs.declared.attempt.Attempt.{Attempt}
use Rattle.session_actions.specs.declared.call.Call.{Call}
use Rattle.session_actions.specs.declared.subchannel.Subchannel.{Subchannel}
use Rattle.session_actions.specs.declared.entry.OpenEntry.{OpenEntry}
use Rattle.session_actions.specs.declared.entry.Stage.TheVariants as stage
use Rattle.session_actions.specs.declared.link.Link.{Link}
use Rattle.session_actions.specs.declared.policy.PolicyUse.{PolicyUse}
use Rattle.session_actions.specs.declared.seen.Seen.{Seen}
use Rattle.session_order.specs.Quiescent.{IsStill}
use Rattle.session_order.specs.Lines.{is_line}
use Rattle.session_order.specs.Stirs.{IsPlaceable}
use Rattle.session_order.specs.declared.line.Line.{Line}
use Rattle.session_order.specs.declared.line.Line.TheVariants as line
use Rattle.attempt_cases.specs.PassActions.Serves.{IsPassing, ServeSteps, turn_of}
use Rattle.attempt_cases.specs.ServeSteps.Laws.{AskNext, MayAsk, answer_for, asked_for}
use Rattle.channel_actions.specs.SoundBuffers.Held.{BuffersAreSound}
use Rattle.call_cases.specs.SettlingActions.Sound.{IsSound}
use Rattle.call_cases.specs.SettlingActions.Steps.{Leads}

-- the open entry, whose pass goes on after this attempt
abbrev pub passed_by : ℕ × ℕ → OpenEntry → OpenEntry
passed_by p o = record o { turn = Some (turn_of p) }

-- once an attempt has asked
abbrev pub request_made : ℕ × ℕ → PolicyUse → Seen → Seen
request_made p g s = pick_requested p.1 g.number (answer_for g s) s

pub record IsAsked (p : ℕ × ℕ) (o : OpenEntry) (s : Seen) : Type 0 where
  pub current : s.current ≡ Some o
  pub stage_is : o.stage ≡ stage.Settling
  pub turn : o.turn ≡ Some (turn_of p)
  pub quiescent : (l : Line) → is_line l line.Pick ≡ false → IsStill l o s
  pub clock : next_of_clock s ≡ None
  pub take_over : next_take_over s ≡ None
  pub connected : next_connected s ≡ None
  pub configs : first_of (config_action s) s.calls ≡ None

abbrev pub AsksStand : Type 0
AsksStand =
    (last p : ℕ × ℕ) (o : OpenEntry) (s : Seen) → IsAt stage.Settling o s → IsPassing last o s → (k : AskNext p s) → IsAsked p (passed_by p o) (request_made p k.policy s)

-- what follows: the attempt is placed on the link of the subchannel, which takes attempts in both
pub record PlaceNext (p : ℕ × ℕ) (g : PolicyUse) (sub : ℕ) (x : StateSeen) (s : Seen) : Type 0 where
  pub link : ℕ
  pub on : Link
  pub there : numbered s.links link ≡ Some on
  pub up : is_going_down on ≡ false
  pub picked : Subchannel
  pub is_picked : numbered s.subs sub ≡ Some picked
  pub linked : picked.link ≡ Some link
  pub takes : takes_rows link x.links ≡ true
  pub next : following s ≡ Some (action.AttemptPlaced p.1 (place_at g.number sub link x))
  pub channel : placed p.0 p.1 g.number sub x
      ≡ moves (settled_in p.0 p.1 (place_at g.number sub link x) (offered link p.1 (limit_at (slot_at x.book p.0)) x))

-- or ends
pub record AnswersAreNext : Type 0 where
  pub places : (p : ℕ × ℕ) (sub : ℕ) (x : StateSeen) (o : OpenEntry) (s : Seen) (k : AskNext p s) → answer_for k.policy s ≡ pick.Place sub
      → Agrees (asked_for p.1 k.policy s x) (request_made p k.policy s) → IsAsked p (passed_by p o) (request_made p k.policy s)
      → PlaceNext p k.policy sub (asked_for p.1 k.policy s x) (request_made p k.policy s)
  pub fails : (p : ℕ × ℕ) (x : StateSeen) (o : OpenEntry) (s : Seen) (k : AskNext p s) → answer_for k.policy s ≡ pick.Fail
      → Agrees (asked_for p.1 k.policy s x) (request_made p k.policy s) → IsAsked p (passed_by p o) (request_made p k.policy s)
      → following (request_made p k.policy s) ≡ Some (action.AttemptEnds p.1 (end_of k.attempt pick_end (request_made p k.policy s)))

-- the answer is followed: the session goes on in the pass after the attempt, where it agrees with the channel, which did the same
pub record IsFollowed (p : ℕ × ℕ) (m : Moved) (o : OpenEntry) (s : Seen) : Type 0 where
  pub leads : Leads m.state o s (IsPassing p)
  pub turn : leads.reaches.entry.turn ≡ Some (turn_of p)
  pub moved : m.moved ≡ true

-- of each answer
abbrev pub FollowsOf : (Pick → Type 0) → Type 0
FollowsOf Case =
    (p : ℕ × ℕ) (x : StateSeen) (o : OpenEntry) (s : Seen) → Agrees x s → IsSound x s → IsAt stage.Settling o s → (k : AskNext p s) → Case (answer_for k.policy s)
    → Agrees (asked_for p.1 k.policy s x) (request_made p k.policy s) → IsAsked p (passed_by p o) (request_made p k.policy s)
    → IsFollowed p (picked p.0 p.1 k.policy.number (answer_for k.policy s) (asked_for p.1 k.policy s x)) (passed_by p o) (request_made p k.policy s)

abbrev pub IsPlace : Pick → Type 0
IsPlace answer = (sub : ℕ) × (answer ≡ pick.Place sub)

abbrev pub IsFailed : Pick → Type 0
IsFailed answer = answer ≡ pick.Fail

abbrev pub PlacesFollow : Type 0
PlacesFollow = FollowsOf IsPlace

abbrev pub FailsFollow : Type 0
FailsFollow = FollowsOf IsFailed

-- so it is where the placing itself leaves them in agreement: of the call, its link, the ledger and the queue
pub record GoesOut (p : ℕ × ℕ) (at : Placed) (y : StateSeen) (o : OpenEntry) (s : Seen) : Type 0 where
  pub fits : IsPlaceable p.1 at s
  pub agrees : Agrees y (attempt_placed p.1 at s)
  pub final : IsStill line.Final o (attempt_placed p.1 at s)

-- what is asked of its call: all its messages are held for it from their first byte on; while the call is not committed, no more bytes are accepted than are kept for
-- attempts to come. What is held for one row that goes on is held for no other, to which the call is committed
pub record IsHeldWhole (s : Seen) (c : Call) (b : Buffered) : Type 0 where
  pub whole : b.is_whole ≡ true
  pub text : text_of b ≡ framed_all c.messages
  pub room : (is_free_call s c && nat_lt 262144 (accepted_bytes c)) ≡ false
  pub row : (m : Committed) → b.committed ≡ Some m → m.is_open ≡ true → option_map (λ k. k.place) (commitment c s) ≡ Some m.row
  pub alone : (m : Committed) → b.committed ≡ Some m → b.cursors ≡ []

-- (It is so of a call that is not committed. One that is, and whose attempt waits, is committed to a transparent retry, of an attempt that was never sent: nothing was
-- written of its messages, and what calls hold fits what was accepted, so all is held.)
abbrev pub PlacedOnesAgree : Type 0
PlacedOnesAgree =
    (p : ℕ × ℕ) (g : PolicyUse) (sub : ℕ) (a : Attempt) (x : StateSeen) (o : OpenEntry) (s : Seen) → Agrees x s → IsReached s → BuffersAreSound x → TextsFit x s → IsAsked p o s
    → numbered s.attempts p.1 ≡ Some a → a.row.call ≡ p.0 → is_queued a s ≡ true → (k : PlaceNext p g sub x s)
    → GoesOut p (place_at g.number sub k.link x) (placed p.0 p.1 g.number sub x).state o s

abbrev pub PlacesByAgreement : Type 0
PlacesByAgreement = PlacedOnesAgree → PlacesFollow

-- while the channel settles its net may ask
abbrev pub NetsMayAsk : Type 0
NetsMayAsk =
    (last p : ℕ × ℕ) (x : StateSeen) (o : OpenEntry) (s : Seen) → Agrees x s → IsSound x s → IsAt stage.Settling o s → IsPassing last o s → next_served last x ≡ Some p
    → MayAsk x

abbrev pub ServesByAnswers : Type 0
ServesByAnswers = NetsMayAsk → PlacesFollow → FailsFollow → ServeSteps
