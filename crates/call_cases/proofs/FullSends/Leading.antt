-- A message for which there is no room else is accepted, and the commitment of its call is next.
use Rattle.attempt_buffer.specs.Buffers.{Buffered, held}
use Rattle.attempt_buffer.specs.declared.buffer.PushFault.{PushFault}
use Rattle.attempt_buffer.specs.declared.buffer.PushFault.TheVariants as fault
use Rattle.attempt_buffer.specs.declared.buffer.Pushed.TheVariants as pushed
use Rattle.attempt_ledger.specs.declared.ledger.CallEnd.{CallEnd}
use Rattle.call_actions.proofs.Lists.{changed_away, changed_here}
use Rattle.call_core.specs.Parts as parts
use Rattle.call_core.specs.Parts.{is_over, pushed_over}
use Rattle.call_core.specs.Steps as steps
use Rattle.call_core.specs.Steps.{Stepped, accepted_if, committed_over, full_reply, full_with, lent, with_message}
use Rattle.call_core.specs.declared.state.CallState.{CallState}
use Rattle.call_cases.proofs.CallPosts.Agreeing.{reported_agrees}
use Rattle.call_cases.proofs.CallPosts.Answered.{Posted, posted, to_order}
use Rattle.call_cases.proofs.CallPosts.Report.{f, t}
use Rattle.channel_actions.proofs.Answering.{event_next, replied_entry}
use Rattle.channel_actions.proofs.Dialling.{unshut_by}
use Rattle.channel_actions.proofs.Settles.{is_with_open, with_open}
use Rattle.channel_actions.proofs.Stamps.{counted_at}
use Rattle.channel_actions.specs.Agrees.{Agrees}
use Rattle.channel_actions.specs.Calls.{SeesCall, lent_to}
use Rattle.channel_actions.specs.Quiescent.{IsAt}
use Rattle.channel_core.specs.Applying as channel
use Rattle.channel_core.specs.Applying.{AnswersBy}
use Rattle.channel_core.specs.Arrivals.{sent_to}
use Rattle.channel_core.specs.Books.{lacks_call, slot_at}
use Rattle.channel_core.specs.States.{StateSeen}
use Rattle.channel_core.specs.Steps.{sealed}
use Rattle.channel_core.specs.Tables.{send_reply_of, tokens_in}
use Rattle.channel_core.specs.declared.state.slots.CallSlot.{CallSlot}
use Rattle.call_cases.proofs.FullSends.Headless.{no_items}
use Rattle.call_cases.proofs.FullSends.Chosen.{can}
use Rattle.call_cases.proofs.FullSends.Stepping.{IsTwoSteps, twice}
use Rattle.call_cases.specs.FullSends.Laws.{FullSendsLead, LeadsToCommit, commits}
use Rattle.grpc_base.specs.declared.event.EndCause.TheVariants as ending
use Rattle.grpc_base.specs.declared.event.Event.{Event}
use Rattle.grpc_base.specs.declared.event.Event.TheVariants as event
use Rattle.grpc_base.specs.declared.event.Refusal.{Refusal}
use Rattle.grpc_base.specs.declared.event.Reply.{Reply}
use Rattle.grpc_base.specs.declared.event.Reply.TheVariants as reply
use Rattle.grpc_frame.specs.Messages.{framed, framed_all}
use Rattle.channel_actions.proofs.KeptSessions.Along.{kept_along}
use Rattle.session_actions.specs.Actions.{after, following}
use Rattle.session_actions.specs.Attempts.{commitment}
use Rattle.session_actions.specs.CallEnds.{is_after_event, next_deadline}
use Rattle.session_actions.specs.Commitments.{committing, furthest, has_head_in, is_headed, overflow_row}
use Rattle.session_actions.specs.Configs.{is_too_long}
use Rattle.session_actions.specs.Deliveries.{is_accepted, message_accepted, response_items}
use Rattle.session_actions.specs.Events.{event_action, frame_action, frame_of_event}
use Rattle.session_actions.specs.Responses.{response}
use Rattle.session_actions.specs.Words.{first_of, holds, numbered}
use Rattle.session_actions.specs.Writing.{accepted_bytes}
use Rattle.session_actions.specs.declared.action.Action.TheVariants as action
use Rattle.session_actions.specs.declared.action.CommitCause.TheVariants as commit
use Rattle.session_actions.specs.declared.attempt.Attempt.{Attempt}
use Rattle.session_actions.specs.declared.call.Call.{Call}
use Rattle.session_actions.specs.declared.entry.OpenEntry.{OpenEntry}
use Rattle.session_actions.specs.declared.entry.Stage.TheVariants as stage
use Rattle.session_actions.specs.declared.seen.Seen.{Seen}
use Rattle.session_order.proofs.Quiescence.{first_line_gives}
use Rattle.session_order.proofs.Changed.{passes_not}
use Rattle.session_order.proofs.Lines.{lines_are_still}
use Rattle.session_order.proofs.Messages.{accepted_leaves}
use Rattle.session_order.specs.Quiescent.{IsStill}
use Rattle.session_order.specs.Lines.{is_before, is_line}
use Rattle.session_order.specs.Stirs.{CallsHaveTheirNumbers, stirs}
use Rattle.session_order.specs.declared.line.Line.{Line}
use Rattle.session_order.specs.declared.line.Line.TheVariants as line
use Rattle.std.proofs.Common.{Bool, Err, List, None, Ok, Option, Some, [], ap, arith, eqb-true, false, if◌then◌else◌, is_none, is_some, length, length-append, max, nat_le, nat_lt, not, option_map, refl, slice_get, subst, suc, sym, true, zero, ℕ, ◌&&◌, ◌++◌, ◌+◌, ◌==◌, ◌∙◌, ◌∷◌, ◌≡◌, ◌≤◌}
use Rattle.std.proofs.lemmas.Bool.{eq-eqb, eqb-false}
use Rattle.std.specs.Option.{option_or}
use Rattle.call_actions.proofs.TakeActions.CutSees.{open_is}
use Rattle.call_actions.proofs.TakeActions.Overflows.{can_then, over_now, overflow_then, room, row_now}
use Rattle.call_actions.proofs.TakeActions.Posted.{channel_refusal, refusal_by}
use Rattle.call_actions.proofs.TakeActions.Room.{answer_is, framed_more, outstanding_is, over_is}
use Rattle.call_actions.proofs.TakeActions.Sends.{action_is, full_is, long_is, reply_free, serves_sent}
use Rattle.call_actions.specs.TakeActions.Cuts.{CanCommit}
use Rattle.call_actions.specs.TakeActions.Laws.{IsPosted}
use Rattle.call_actions.specs.TakeActions.Serves.{Holds}

if_none : {X : Type 0} (b : Bool) (z : Option X) → z ≡ None → (if b then z else None) ≡ None
if_none true z e = e
if_none false z e = refl

open_by : (o : Option CallEnd) (b : Bool) → refusal_by (is_some o) b ≡ None → (o ≡ None) × (b ≡ false)
open_by None false e = (refl, refl)
open_by None true e = absurd (cc)
open_by (Some k) b e = absurd (cc)

-- a message that commits its call finds it uncommitted, and an attempt of it outstanding
over_parts : (k low fits any : Bool) (full : PushFault)
    → is_over (if k then (if not low then Err full else Ok pushed.Kept) else if fits then Ok pushed.Kept else if any then Ok pushed.Overflow else Err full) ≡ true
    → (k ≡ false) × (any ≡ true)
over_parts true true fits any full e = absurd (cc)
over_parts true false fits any full e = absurd (cc)
over_parts false low true any full e = absurd (cc)
over_parts false low false true full e = (refl, refl)
over_parts false low false false full e = absurd (cc)

none_of : {X : Type 0} (o : Option X) → is_some o ≡ false → o ≡ None
none_of None e = refl
none_of (Some x) e = absurd (cc)

-- the first that gives something
module _ (g : Call → Option Attempt) where
  first_if : (d : Call) (ds : List Call) (o : Option Attempt) (k : Attempt) → g d ≡ o → ((z : Attempt) → o ≡ Some z → o ≡ Some k) → (o ≡ None → first_of g ds ≡ Some k)
      → option_or o (first_of g ds) ≡ Some k
  first_if d ds None k e only rest = rest refl
  first_if d ds (Some z) k e only rest = only z refl

  first_at : (i : ℕ) (ds : List Call) (c : Call) (k : Attempt) → slice_get ds i ≡ Some c → g c ≡ Some k
      → ((j : ℕ) (d : Call) (z : Attempt) → slice_get ds j ≡ Some d → g d ≡ Some z → g d ≡ Some k) → first_of g ds ≡ Some k
  first_at i [] c k got gives only = absurd (cc)
  first_at zero (d ∷ ds) c k got gives only =
      let one : d ≡ c = (cc) in
      let here : g d ≡ Some k = ap g one ∙ gives in
      first_if d ds (g d) k refl (λ z e. here) (λ none. let bad : None ≡ Some k = sym none ∙ here in absurd (cc))
  first_at (suc i) (d ∷ ds) c k got gives only =
      first_if d ds (g d) k refl (λ z e. only zero d z refl e) (λ none. first_at i ds c k got gives (λ j b z there is. only (suc j) b z there is))

  pub first_is : (n : ℕ) (ds : List Call) (c : Call) (k : Attempt) → numbered ds n ≡ Some c → g c ≡ Some k
      → ((j : ℕ) (d : Call) (z : Attempt) → numbered ds j ≡ Some d → g d ≡ Some z → g d ≡ Some k) → first_of g ds ≡ Some k
  first_is zero ds c k got gives only = absurd (cc)
  first_is (suc i) ds c k got gives only = first_at i ds c k got gives (λ j d z there is. only (suc j) d z there is)

-- where none gives anything, each gives nothing
both_none : {X : Type 0} (a b : Option X) → option_or a b ≡ None → (a ≡ None) × (b ≡ None)
both_none None b e = (refl, e)
both_none (Some z) b e = absurd (cc)

none_at : (g : Call → Option Attempt) (ds : List Call) (i : ℕ) (d : Call) → first_of g ds ≡ None → slice_get ds i ≡ Some d → g d ≡ None
none_at g [] i d e got = absurd (cc)
none_at g (z ∷ ds) zero d e got =
    let one : z ≡ d = (cc) in sym (ap g one) ∙ (both_none (g z) (first_of g ds) e).0
none_at g (z ∷ ds) (suc i) d e got = none_at g ds i d (both_none (g z) (first_of g ds) e).1 got

none_numbered : (g : Call → Option Attempt) (ds : List Call) (n : ℕ) (d : Call) → first_of g ds ≡ None → numbered ds n ≡ Some d → g d ≡ None
none_numbered g ds zero d e got = absurd (cc)
none_numbered g ds (suc i) d e got = none_at g ds i d e got

map_none : (o : Option Attempt) → option_map (committing commit.Overflow) o ≡ None → o ≡ None
map_none None e = refl
map_none (Some a) e = absurd (cc)

module _ (x : StateSeen) (o : OpenEntry) (s0 : Seen) (h : Agrees x (with_open o s0)) (at : IsAt stage.Event o (with_open o s0)) (fresh : o.turn ≡ None)
    (timely : next_deadline (with_open o s0) ≡ None) (c : Call) (slot : CallSlot) (own : numbered s0.calls c.number ≡ Some c) (there : slot_at x.book c.number ≡ Some slot)
    (sees : SeesCall x (with_open o s0) c slot) (m : List ℕ) (is : o.event ≡ event.Send c.number m) (unshut : s0.shut ≡ false)
    (unrefused : steps.send_refusal slot.call ≡ None) (short : parts.is_too_long slot.call.chosen (length m) ≡ false)
    (over : pushed_over slot.call.buffer (framed m) (parts.furthest slot.call.buffer slot.call.live) ≡ true) where
  abbrev u : Seen
  u = with_open o s0

  abbrev n : ℕ
  n = c.number

  abbrev st : Stepped
  st = lent_to x u slot

  abbrev b : Buffered
  b = slot.call.buffer

  abbrev row : Option ℕ
  row = parts.furthest slot.call.buffer slot.call.live

  abbrev mo : ℕ
  mo = x.book.moment

  abbrev lends : CallState → Stepped
  lends k = lent k x.book.ledger (tokens_in x.book.buckets slot.bucket) []

  abbrev q : OpenEntry
  q = replied_entry reply.Done o

  abbrev g : Call → Call
  g d = f s0 o reply.Done c (λ (z : Call). z.messages ++ m ∷ []) (λ (z : Call). z.finished) (λ (z : Call). z.taken) (λ (z : Call). z.end_taken) d

  abbrev v : Seen
  v = t s0 o reply.Done c (λ (z : Call). z.messages ++ m ∷ []) (λ (z : Call). z.finished) (λ (z : Call). z.taken) (λ (z : Call). z.end_taken)

  abbrev p0 : IsPosted (event.Send n m) u
  p0 = record { entry = o; current = refl; event_is = is }

  abbrev Lead : Type 0
  Lead = LeadsToCommit n commit.Overflow x (sent_to n m x).state reply.Done o u

  free : refusal_by (is_some c.end) c.finished ≡ None
  free = sym (channel_refusal u c st sees.serves) ∙ unrefused

  going : c.end ≡ None
  going = (open_by c.end c.finished free).0

  unfinished : c.finished ≡ false
  unfinished = (open_by c.end c.finished free).1

  has : Holds u c b
  has = sees.serves.holds going

  tests : (is_some b.committed ≡ false) × (is_some row ≡ true)
  tests =
      over_parts (is_some b.committed) (nat_lt (held b) 65536) (nat_le (held b + length (framed m)) 262144) (is_some row) (fault.Full (held b))
      (sym (ap is_over (answer_is b m row)) ∙ over)

  uncommitted : commitment c u ≡ None
  uncommitted = none_of (commitment c u) (sym has.committed ∙ tests.0)

  some_far : is_some (furthest c u) ≡ true
  some_far = sym (outstanding_is u c st sees.serves has) ∙ tests.1

  numbers : CallsHaveTheirNumbers u
  numbers k d e = counted_at (λ (z : Call). z.number) s0.calls k d h.kept.calls e

  short_now : (d : Call) → numbered u.calls n ≡ Some d → is_too_long m d u ≡ false
  short_now d e =
      let same : c ≡ d = (let one : Some c ≡ Some d = sym own ∙ e in (cc)) in
      ap (λ (z : Call). is_too_long m z u) (sym same) ∙ long_is u c st m sees.serves ∙ short

  made : after (action.MessageAccepted n) u ≡ v
  made = ap (λ (z : Event). message_accepted n z u) is

  -- nothing else follows
  still_by : (l : Line) → stirs (action.MessageAccepted n) l ≡ false → IsStill l q v
  still_by l away =
      subst (IsStill l q) made
      (accepted_leaves n o u refl (m, is, numbers, short_now) l q (ap (λ (z : Seen). z.current) made) away (to_order o u at.quiescent l))

  still : (l : Line) → is_line l line.Overflow ≡ false → IsStill l q v
  still line.Overflow e = absurd (cc)
  still l e = still_by l refl

  earlier_by : (l : Line) → is_before q.event l line.Overflow ≡ true → IsStill l q v
  earlier_by line.Overflow e = absurd (cc)
  earlier_by l e = still l refl

  more : (d : Call) → accepted_bytes (g d) ≡ accepted_bytes d + length (framed m)
  more d = ap (λ (l : List ℕ). length l) (framed_more d.messages m) ∙ length-append (framed_all d.messages) (framed m)

  grows : (d : Call) → accepted_bytes d ≤ accepted_bytes (g d)
  grows d =
      let long : accepted_bytes (g d) ≡ accepted_bytes d + length (framed m) = more d in omega (arith, long)

  no_frame : (z : Seen) → frame_action q z ≡ None
  no_frame z = if_none (is_after_event q) (frame_of_event o.event q z) (ap (λ (e : Event). frame_of_event e q z) is)

  -- what did not overflow before does not now
  none_over : first_of (overflow_row u) s0.calls ≡ None
  none_over = map_none (first_of (overflow_row u) s0.calls) ((lines_are_still line.Overflow o u).1 (to_order o u at.quiescent line.Overflow))

  abbrev longer : CallState
  longer = record slot.call { longest = max slot.call.longest (length m); buffer = record slot.call.buffer { messages = slot.call.buffer.messages ++ framed m ∷ [] } }

  module _ (k : Attempt) (far : furthest c u ≡ Some k) where
    can_now : CanCommit u c k
    can_now = can u c h.kept.book sees.turn going uncommitted k far

    its_call : numbered s0.calls k.row.call ≡ Some c
    its_call = ap (numbered s0.calls) (eqb-true k.row.call n can_now.mine) ∙ own

    headless : is_some (response k u).head ≡ false
    headless =
        sym (ap (λ (z : Bool). z && holds (has_head_in k u) (numbered s0.calls k.row.call)) can_now.outstanding ∙ ap (holds (has_head_in k u)) its_call
        ∙ ap (λ (z : Option CallEnd). (is_none z && is_none (commitment c u)) && is_some (response k u).head) going
        ∙ ap (λ (z : Option Attempt). is_none z && is_some (response k u).head) uncommitted)
        ∙ passes_not (is_headed u) s0.attempts k.place k (to_order o u at.quiescent line.Head) can_now.at

    nothing : response_items (response k u) ≡ []
    nothing = no_items k u (none_of (response k u).head headless)

    roomy : is_accepted c m u ≡ true
    roomy = room u c st k m p0 unshut sees.serves unfinished can_now far nothing short over

    gives : event_action o.event u ≡ Some (action.MessageAccepted n)
    gives = ap (λ (e : Event). event_action e u) is ∙ action_is u c st m p0 unshut sees.serves short free going true roomy

    -- what the channel does
    does_so : steps.sent m mo (lends slot.call) ≡ commits k.place mo (lends longer)
    does_so =
        ap (λ (z : Option Refusal). steps.sent_if z m mo (lends slot.call)) unrefused
        ∙ ap (λ (z : Bool). if z then steps.ended_as ending.Request mo (lends slot.call) else accepted_if (full_with (length m) slot.call) m mo (lends slot.call)) short
        ∙ ap (λ (z : Option ℕ). accepted_if z m mo (lends slot.call)) (full_is u c st m p0 unshut sees.serves short free going true roomy)
        ∙ ap (λ (z : Option ℕ). committed_over (pushed_over b (framed m) z) z mo (lends (with_message m z slot.call))) (row_now u c st k m p0 unshut sees.serves unfinished can_now far nothing short over)
        ∙ ap (λ (z : Bool). committed_over z (Some k.place) mo (lends (with_message m (Some k.place) slot.call))) (over_now u c st k m p0 unshut sees.serves unfinished can_now far nothing short over)
        ∙ ap (λ (z : Buffered). steps.committed k.place mo (lends (record slot.call { longest = max slot.call.longest (length m); buffer = z })))
        (over_is b m k.place (over_now u c st k m p0 unshut sees.serves unfinished can_now far nothing short over) (open_is u c st k sees.serves can_now (Some o) refl has))

    two : IsTwoSteps (steps.sent m mo) (commits k.place mo) x n slot longer
    two = twice (steps.sent m mo) (commits k.place mo) x n slot longer there does_so

    abbrev between : StateSeen
    between = record x { book = record x.book { calls = two.calls } }

    accepts : following u ≡ Some (action.MessageAccepted n)
    accepts = event_next o u at timely (action.MessageAccepted n) gives

    agrees : Agrees between v
    agrees =
        reported_agrees kept_along s0 o reply.Done c (λ (z : Call). z.messages ++ m ∷ []) (λ (z : Call). z.finished) (λ (z : Call). z.taken) (λ (z : Call). z.end_taken) grows
        x h slot own sees longer two.calls two.put (serves_sent u c st m p0 unshut sees.serves short free going) (action.MessageAccepted n) accepts made
        (record { acts = eq-eqb n n refl; passes = λ d mine off. refl })

    -- the commitment is next
    own_over : overflow_row v (g c) ≡ Some k
    own_over = overflow_then u c st k m p0 unshut sees.serves unfinished can_now far nothing short over

    own_now : numbered v.calls n ≡ Some (g c)
    own_now = changed_here g n s0.calls c own

    only_by : (j : ℕ) (d : Call) (z : Attempt) (same : Bool) → (j == n) ≡ same → numbered v.calls j ≡ Some d → overflow_row v d ≡ Some z → overflow_row v d ≡ Some k
    only_by j d z true e got gives_z =
        let one : Some (g c) ≡ Some d = sym own_now ∙ ap (numbered v.calls) (sym (eqb-true j n e)) ∙ got in
        let same : g c ≡ d = (cc) in ap (overflow_row v) (sym same) ∙ own_over
    only_by j d z false e got gives_z =
        let before : numbered s0.calls j ≡ Some d = sym (changed_away g n j s0.calls (eqb-false j n e)) ∙ got in
        let none : overflow_row v d ≡ None = none_numbered (overflow_row u) s0.calls j d none_over before in
        let bad : Some z ≡ None = sym gives_z ∙ none in absurd (cc)

    first : option_map (committing commit.Overflow) (first_of (overflow_row v) v.calls) ≡ Some (action.CallCommitted k.place commit.Overflow)
    first =
        ap (option_map (committing commit.Overflow)) (first_is (overflow_row v) n v.calls (g c) k own_now own_over (λ j d z got gives_z. only_by j d z (j == n) refl got gives_z))

    lead : Lead
    lead = record {
      entry = q;
      seen = v;
      does = (accepts, sym made);
      same = record { moment = refl; word = refl; event = refl; entries = refl; setup = refl };
      current = refl;
      stage_is = refl;
      reply = refl;
      fresh = fresh;
      frameless = no_frame;
      between = between;
      agrees = agrees;
      call = g c;
      there = own_now;
      attempt = k;
      can = can_then u c st k m p0 unshut sees.serves unfinished can_now far nothing short over;
      next = first_line_gives line.Overflow (action.CallCommitted k.place commit.Overflow) q v refl earlier_by first;
      still = still;
      commits_so = ap sealed two.same;
    }

    says : (sent_to n m x).reply ≡ reply.Done
    says =
        ap (send_reply_of m) there ∙ reply_free u c st m p0 unshut sees.serves short free going
        ∙ ap full_reply (full_is u c st m p0 unshut sees.serves short free going true roomy)

  lead_by : (z : Option Attempt) → furthest c u ≡ z → is_some z ≡ true → Lead × ((sent_to n m x).reply ≡ reply.Done)
  lead_by None far some = absurd (cc)
  lead_by (Some k) far some = (lead k far, says k far)

  pub leads : Lead × ((sent_to n m x).reply ≡ reply.Done)
  leads = lead_by (furthest c u) refl some_far

same_slot : (a z : CallSlot) → Some a ≡ Some z → a ≡ z
same_slot a z e = (cc)

pub full_sends_lead : FullSendsLead
full_sends_lead x y r o s h at fresh timely case answers =
    let e : s ≡ with_open o s = is_with_open o s at.current in
    let kept : (x.shut ≡ false) × (lacks_call (slot_at x.book case.call) ≡ None)
    = unshut_by x.shut (lacks_call (slot_at x.book case.call)) (subst (λ (v : Event). channel.refusal_of v x ≡ None) case.event_is case.kept) in
    let given : AnswersBy None (event.Send case.call case.message) x y r
    = subst (λ (v : Event). AnswersBy None v x y r) case.event_is (subst (λ (z : Option Refusal). AnswersBy z o.event x y r) case.kept answers) in
    let now_agrees : Agrees x (with_open o s) = subst (Agrees x) e h in
    let k : Posted x (with_open o s) case.call = posted x (with_open o s) now_agrees case.call kept.1 in
    let same : case.call ≡ k.call.number = sym k.number_is in
    let slots : case.slot ≡ k.slot = same_slot case.slot k.slot (sym case.there ∙ k.there) in
    let led : LeadsToCommit k.call.number commit.Overflow x (sent_to k.call.number case.message x).state reply.Done o (with_open o s) × ((sent_to k.call.number case.message x).reply ≡ reply.Done)
    = leads x o s now_agrees (subst (IsAt stage.Event o) e at) fresh (subst (λ (z : Seen). next_deadline z ≡ None) e timely) k.call k.slot
    (ap (numbered s.calls) k.number_is ∙ k.at) (ap (slot_at x.book) k.number_is ∙ k.there) k.sees case.message
    (case.event_is ∙ ap (λ (z : ℕ). event.Send z case.message) same) (h.configs.shut ∙ kept.0)
    (ap (λ (z : CallSlot). steps.send_refusal z.call) (sym slots) ∙ case.free)
    (ap (λ (z : CallSlot). parts.is_too_long z.call.chosen (length case.message)) (sym slots) ∙ case.short)
    (ap (λ (z : CallSlot). pushed_over z.call.buffer (framed case.message) (parts.furthest z.call.buffer z.call.live)) (sym slots) ∙ case.over) in
    let reply_is : r ≡ reply.Done = given.1 ∙ ap (λ (z : ℕ). (sent_to z case.message x).reply) same ∙ led.1 in
    let state_is : y ≡ (sent_to k.call.number case.message x).state = given.0 ∙ ap (λ (z : ℕ). (sent_to z case.message x).state) same in
    let here : LeadsToCommit k.call.number commit.Overflow x y r o (with_open o s)
    = subst (λ (z : StateSeen). LeadsToCommit k.call.number commit.Overflow x z r o (with_open o s)) (sym state_is)
    (subst (λ (z : Reply). LeadsToCommit k.call.number commit.Overflow x (sent_to k.call.number case.message x).state z o (with_open o s)) (sym reply_is) led.0) in
    subst (λ (z : Seen). LeadsToCommit case.call commit.Overflow x y r o z) (sym e)
    (subst (λ (z : ℕ). LeadsToCommit z commit.Overflow x y r o (with_open o s)) k.number_is here)
