-- Cancel of an open call stands on the end of one call: the event is answered, and the end of the call is next.
use Rattle.std.proofs.Common.{◌≡◌, ◌&&◌, ◌||◌, ◌==◌, ◌∷◌, ◌++◌, ap, arith, refl, subst, sym, ◌∙◌, Bool, true, false, List, [], Option, None, Some, ℕ, zero, suc, cond, find, if◌then◌else◌, is_none, is_some, nat_lt, slice_get}
use Rattle.std.proofs.lemmas.Bool.{eq-eqb, eqb-true}
use Rattle.std.proofs.lemmas.Bool.Decides.{nat_tests}
use Rattle.std.specs.List.{list_any}
use Rattle.std.specs.Option.{option_map}
use Rattle.attempt_ledger.specs.declared.ledger.CallEnd.{CallEnd}
use Rattle.call_cases.specs.CallEnds.Ends.{EndsNext, HasEnded}
use Rattle.call_cases.specs.CallEnds.Laws.{CancelsStand, OneCallEnds}
use Rattle.channel_actions.proofs.Answering.{event_next, replied_entry, replied_is}
use Rattle.channel_actions.proofs.Dialling.{unshut_by}
use Rattle.channel_actions.proofs.Settles.{is_with_open, reopened, with_open}
use Rattle.channel_actions.proofs.Stamps.{counted_at}
use Rattle.channel_actions.specs.Agrees.{Agrees}
use Rattle.channel_actions.specs.Calls.{HasSlot}
use Rattle.channel_actions.specs.Quiescent.{IsAt}
use Rattle.channel_actions.specs.Stages.{IsAnswered}
use Rattle.channel_core.specs.Applying as channel
use Rattle.channel_core.specs.Applying.{AnswersBy}
use Rattle.channel_core.specs.Arrivals.{cancelled}
use Rattle.channel_core.specs.States.{StateSeen}
use Rattle.channel_core.specs.Tables.{cancel_reply_of}
use Rattle.call_cases.specs.EndsFollow.Cuts.{NoStreamIsToReset}
use Rattle.grpc_base.specs.declared.event.EndCause.{EndCause}
use Rattle.grpc_base.specs.declared.event.EndCause.TheVariants as ending
use Rattle.grpc_base.specs.declared.event.Event.{Event}
use Rattle.grpc_base.specs.declared.event.Event.TheVariants as event
use Rattle.grpc_base.specs.declared.event.Refusal.{Refusal}
use Rattle.grpc_base.specs.declared.event.Refusal.TheVariants as refusal
use Rattle.grpc_base.specs.declared.event.Reply.{Reply}
use Rattle.grpc_base.specs.declared.event.Reply.TheVariants as reply
use Rattle.link_actions.proofs.LossActions.Calls.{changed_any}
use Rattle.session_actions.specs.Actions.{after, after_if, following}
use Rattle.session_actions.specs.CallEnds.{call_ended, cancels, ending_call, has_long_request, is_after_event, is_cancelled, next_deadline, sends_too_long}
use Rattle.session_actions.specs.Calls.{is_open_call}
use Rattle.session_actions.specs.Configs.{is_too_long}
use Rattle.session_actions.specs.Entries.{entry, now}
use Rattle.session_actions.specs.Events.{event_action, event_action_by, frame_of_event, is_loss}
use Rattle.session_actions.specs.Policies.{addresses_in}
use Rattle.session_actions.specs.Refusals.{cancel_refusal, refused_if}
use Rattle.session_actions.specs.Sessions.{Does}
use Rattle.session_actions.specs.Words.{changed, numbered}
use Rattle.session_actions.specs.declared.action.Action.{Action}
use Rattle.session_actions.specs.declared.action.Action.TheVariants as action
use Rattle.session_actions.specs.declared.call.Call.{Call}
use Rattle.session_actions.specs.declared.call.MarkKind.TheVariants as mark
use Rattle.session_actions.specs.declared.entry.OpenEntry.{OpenEntry}
use Rattle.session_actions.specs.declared.entry.Stage.TheVariants as stage
use Rattle.session_actions.specs.declared.seen.Seen.{Seen}
use Rattle.session_order.proofs.Quiescence.{quiescence_is_exact, first_line_gives}
use Rattle.session_order.proofs.Ended.{ended_leaves}
use Rattle.session_order.proofs.Posts.{answered_leaves}
use Rattle.session_order.specs.Quiescent.{IsStill}
use Rattle.session_order.specs.Lines.{is_line, rank}
use Rattle.session_order.specs.declared.line.Line.{Line}
use Rattle.session_order.specs.declared.line.Line.TheVariants as line

-- what comes before the line of calls that are cancelled is another line
off_line : (loses : Bool) (m : Line) → nat_lt (rank loses m) (rank loses line.Cancelled) ≡ true → is_line m line.Cancelled ≡ false
off_line loses line.Cut e = refl
off_line loses line.Transparent e = refl
off_line loses line.Inherited e = refl
off_line loses line.Row e = refl
off_line loses line.Final e = refl
off_line loses line.Cancelled e = absurd (cc)
off_line loses line.Request e = refl
off_line loses line.Overflow e = refl
off_line loses line.Head e = refl
off_line loses line.Response e = refl
off_line loses line.Pick e = refl
off_line loses line.Link e = refl
off_line loses line.WireEnd e = refl
off_line loses line.Reset e = refl
off_line loses line.Shut e = refl
off_line loses line.Retire e = refl
off_line loses line.Begin e = refl
off_line loses line.Give e = refl
off_line loses line.Drop e = refl
off_line loses line.Add e = refl

-- the first that passes a test
record IsFound (p : Call → Bool) (xs : List Call) : Type 0 where
  one : Call
  found : find p xs ≡ Some one
  passes : p one ≡ true

found_by : (p : Call → Bool) (x : Call) (xs : List Call) (b : Bool) → p x ≡ b → (b ≡ false → IsFound p xs) → IsFound p (x ∷ xs)
found_by p x xs true e rest = record { one = x; found = ap (λ (b : Bool). cond b (Some x) (find p xs)) e; passes = e }
found_by p x xs false e rest =
    let r : IsFound p xs = rest refl in
    record { one = r.one; found = ap (λ (b : Bool). cond b (Some x) (find p xs)) e ∙ r.found; passes = r.passes }

is_found : (p : Call → Bool) (xs : List Call) (i : ℕ) (c : Call) → slice_get xs i ≡ Some c → p c ≡ true → IsFound p xs
is_found p [] i c at is = absurd (cc)
is_found p (x ∷ xs) zero c at is =
    let same : x ≡ c = (cc) in record { one = x; found = ap (λ (b : Bool). cond b (Some x) (find p xs)) (ap p same ∙ is); passes = ap p same ∙ is }
is_found p (x ∷ xs) (suc i) c at is = found_by p x xs (p x) refl (λ off. is_found p xs i c at is)

found_at : (p : Call → Bool) (xs : List Call) (n : ℕ) (c : Call) → numbered xs n ≡ Some c → p c ≡ true → IsFound p xs
found_at p xs zero c at is = absurd (cc)
found_at p xs (suc i) c at is = is_found p xs i c at is

none_at : (p : Call → Bool) (xs : List Call) → ((i : ℕ) (z : Call) → slice_get xs i ≡ Some z → p z ≡ false) → list_any p xs ≡ false
none_at p [] each = refl
none_at p (x ∷ xs) each = ap (λ (b : Bool). b || list_any p xs) (each zero x refl) ∙ none_at p xs (λ i z at. each (suc i) z at)

parts_of_or : (a b : Bool) → (a || b) ≡ false → (a ≡ false) × (b ≡ false)
parts_of_or true b e = absurd (cc)
parts_of_or false b e = (refl, e)

less_by : (a b : Bool) → (a ≡ true → b ≡ true) → b ≡ false → a ≡ false
less_by true b turn e = absurd (let bad : true ≡ false = sym (turn refl) ∙ e in (cc))
less_by false b turn e = refl

none_restricted : (p q : Call → Bool) (xs : List Call) → ((c : Call) → p c ≡ true → q c ≡ true) → list_any q xs ≡ false → list_any p xs ≡ false
none_restricted p q [] turn e = refl
none_restricted p q (x ∷ xs) turn e =
    let parts : (q x ≡ false) × (list_any q xs ≡ false) = parts_of_or (q x) (list_any q xs) e in
    ap (λ (b : Bool). b || list_any p xs) (less_by (p x) (q x) (turn x) parts.0) ∙ none_restricted p q xs turn parts.1

request_restricted : (a l b m p : Bool) → p ≡ false → (a && (l || p)) ≡ true → (a && (l || (b && m))) ≡ true
request_restricted a l b m true e h = absurd (cc)
request_restricted true true b m false e h = refl
request_restricted true false b m false e h = absurd (cc)
request_restricted false l b m false e h = absurd (cc)

last_true : (a b c : Bool) → (a && b && c) ≡ true → c ≡ true
last_true true true c h = h
last_true true false c h = absurd (cc)
last_true false b c h = absurd (cc)

last_false : (a b c : Bool) → c ≡ false → (a && b && c) ≡ false
last_false true true c e = e
last_false true false c e = refl
last_false false b c e = refl

none_cause : (o : Option CallEnd) (p : Option EndCause) → option_map (λ (e : CallEnd). e.cause) o ≡ p → o ≡ None → p ≡ None
none_cause o p e h = sym e ∙ ap (option_map (λ (k : CallEnd). k.cause)) h

module _ (ends : OneCallEnds) (x : StateSeen) (o : OpenEntry) (s : Seen) (h : Agrees x s) (at : IsAt stage.Event o s) (fresh : o.turn ≡ None) (timely : next_deadline s ≡ None)
    (n : ℕ) (is : o.event ≡ event.Cancel n) (kept : channel.refusal_of (event.Cancel n) x ≡ None) (c : Call) (there : numbered s.calls n ≡ Some c) (going : c.end ≡ None)
    (unreset : NoStreamIsToReset s) where
  abbrev o1 : OpenEntry
  o1 = replied_entry reply.Done o

  abbrev s1 : Seen
  s1 = with_open o1 s

  own : (k : ℕ) (d : Call) → numbered s.calls k ≡ Some d → d.number ≡ k
  own k d e = counted_at (λ (z : Call). z.number) s.calls k d h.kept.calls e

  unshut : s.shut ≡ false
  unshut = h.configs.shut ∙ (unshut_by x.shut (channel.open_refusal (event.Cancel n) x) kept).0

  asked : event_action o.event s ≡ Some (action.EventAnswered reply.Done)
  asked =
      ap (λ (e : Event). event_action e s) is
      ∙ ap (λ (b : Bool). event_action_by (refused_if b refusal.Shut (cancel_refusal (numbered s.calls n))) (event.Cancel n) s) unshut
      ∙ ap (λ (q : Option Call). event_action_by (cancel_refusal q) (event.Cancel n) s) there
      ∙ ap (λ (q : Option CallEnd). event_action_by (refused_if (is_some q) refusal.CallEnded None) (event.Cancel n) s) going

  answered : after (action.EventAnswered reply.Done) s ≡ s1
  answered = ap (λ (q : Option OpenEntry). after_if q (action.EventAnswered reply.Done) s) at.current ∙ replied_is reply.Done o s at.current

  still0 : (l : Line) → IsStill l o s
  still0 = (quiescence_is_exact o s).0 (at.quiescent.calls, at.quiescent.links, at.quiescent.policies)

  other_lines : (l : Line) → is_line l line.Cancelled ≡ false → is_line l line.Request ≡ false → IsStill l o1 s1
  other_lines l e f =
      subst (λ (z : Seen). IsStill l o1 z) (replied_is reply.Done o s at.current)
      (answered_leaves reply.Done o s at.current (ap addresses_in is) l o1 (ap (λ (z : Seen). z.current) (replied_is reply.Done o s at.current))
      (ap (λ (b : Bool). b || (is_line l line.Request || false)) e ∙ ap (λ (b : Bool). b || false) f) (still0 l))

  request : IsStill line.Request o1 s1
  request =
      none_restricted (has_long_request o1 s1) (has_long_request o s) s.calls
      (λ d e. request_restricted (is_open_call d) (list_any (λ (m : List ℕ). is_too_long m d s) d.messages) (is_after_event o) (sends_too_long o.event d s)
      (is_after_event o1 && sends_too_long o.event d s1) (ap (λ (v : Event). sends_too_long v d s1) is) e)
      (still0 line.Request)

  at_request : (l : Line) → is_line l line.Request ≡ true → IsStill l o1 s1
  at_request line.Cut e = absurd (cc)
  at_request line.Transparent e = absurd (cc)
  at_request line.Inherited e = absurd (cc)
  at_request line.Row e = absurd (cc)
  at_request line.Final e = absurd (cc)
  at_request line.Cancelled e = absurd (cc)
  at_request line.Request e = request
  at_request line.Overflow e = absurd (cc)
  at_request line.Head e = absurd (cc)
  at_request line.Response e = absurd (cc)
  at_request line.Pick e = absurd (cc)
  at_request line.Link e = absurd (cc)
  at_request line.WireEnd e = absurd (cc)
  at_request line.Reset e = absurd (cc)
  at_request line.Shut e = absurd (cc)
  at_request line.Retire e = absurd (cc)
  at_request line.Begin e = absurd (cc)
  at_request line.Give e = absurd (cc)
  at_request line.Drop e = absurd (cc)
  at_request line.Add e = absurd (cc)

  still_by : (l : Line) (b : Bool) → is_line l line.Request ≡ b → is_line l line.Cancelled ≡ false → IsStill l o1 s1
  still_by l true e off = at_request l e
  still_by l false e off = other_lines l off e

  still1 : (l : Line) → is_line l line.Cancelled ≡ false → IsStill l o1 s1
  still1 l off = still_by l (is_line l line.Request) refl off

  -- the end of the call is next
  is_so : is_cancelled o1 c ≡ true
  is_so =
      ap (λ (q : Option CallEnd). is_none q && is_after_event o1 && cancels o.event c.number) going ∙ ap (λ (v : Event). cancels v c.number) is
      ∙ eq-eqb n c.number (sym (own n c there))

  abbrev found : IsFound (is_cancelled o1) s.calls
  found = found_at (is_cancelled o1) s.calls n c there is_so

  found_number : found.one.number ≡ n
  found_number =
      sym (eqb-true n found.one.number
      (ap (λ (v : Event). cancels v found.one.number) (sym is) ∙ last_true (is_open_call found.one) (is_after_event o1) (cancels o.event found.one.number) found.passes))

  next : following s1 ≡ Some (action.CallEnds n ending.Cancelled)
  next =
      first_line_gives line.Cancelled (action.CallEnds n ending.Cancelled) o1 s1 refl (λ m before. still1 m (off_line (is_loss o.event) m before))
      (ap (option_map (ending_call ending.Cancelled)) found.found ∙ ap (λ (k : ℕ). Some (action.CallEnds k ending.Cancelled)) found_number)

  -- no other one is cancelled
  abbrev b : Seen
  b = call_ended n ending.Cancelled s1

  abbrev mark_it : Call → Call
  mark_it d = record d { marks = d.marks ++ record { what = mark.Closed; moment = now s1 } ∷ [] }

  abbrev end_it : Call → Call
  end_it d = record d { end = Some (record { entry = entry s1; moment = now s1; cause = ending.Cancelled }) }

  off_number : (k m : ℕ) → m ≡ k → (k == n) ≡ false → (n == m) ≡ false
  off_number k m e f = grind (arith, nat_tests, e, f)

  other_by : (k : ℕ) (q : Option Call) (t : Bool) (z : Call) → numbered s.calls k ≡ q → (k == n) ≡ t
      → option_map (λ (d : Call). if t then end_it d else d) (option_map (λ (d : Call). if t then mark_it d else d) q) ≡ Some z → is_cancelled o1 z ≡ false
  other_by k None t z e f g = absurd (cc)
  other_by k (Some d) true z e f g = let same : z ≡ end_it (mark_it d) = (cc) in ap (is_cancelled o1) same
  other_by k (Some d) false z e f g =
      let same : z ≡ d = (cc) in
      ap (is_cancelled o1) same
      ∙ last_false (is_open_call d) (is_after_event o1) (cancels o.event d.number) (ap (λ (v : Event). cancels v d.number) is ∙ off_number k d.number (own k d e) f)

  other_at : (i : ℕ) (z : Call) → slice_get b.calls i ≡ Some z → is_cancelled o1 z ≡ false
  other_at i z e =
      other_by (suc i) (numbered s.calls (suc i)) (suc i == n) z refl refl
      (sym (changed_any end_it n (suc i) (changed mark_it n s.calls) ∙ ap (option_map (λ (d : Call). if suc i == n then end_it d else d)) (changed_any mark_it n (suc i) s.calls)) ∙ e)

  none_cancelled : IsStill line.Cancelled o1 b
  none_cancelled = none_at (is_cancelled o1) b.calls other_at

  at_cancelled : (l : Line) → is_line l line.Cancelled ≡ true → IsStill l o1 b
  at_cancelled line.Cut e = absurd (cc)
  at_cancelled line.Transparent e = absurd (cc)
  at_cancelled line.Inherited e = absurd (cc)
  at_cancelled line.Row e = absurd (cc)
  at_cancelled line.Final e = absurd (cc)
  at_cancelled line.Cancelled e = none_cancelled
  at_cancelled line.Request e = absurd (cc)
  at_cancelled line.Overflow e = absurd (cc)
  at_cancelled line.Head e = absurd (cc)
  at_cancelled line.Response e = absurd (cc)
  at_cancelled line.Pick e = absurd (cc)
  at_cancelled line.Link e = absurd (cc)
  at_cancelled line.WireEnd e = absurd (cc)
  at_cancelled line.Reset e = absurd (cc)
  at_cancelled line.Shut e = absurd (cc)
  at_cancelled line.Retire e = absurd (cc)
  at_cancelled line.Begin e = absurd (cc)
  at_cancelled line.Give e = absurd (cc)
  at_cancelled line.Drop e = absurd (cc)
  at_cancelled line.Add e = absurd (cc)

  after_by : (l : Line) (t : Bool) → is_line l line.Cancelled ≡ t → is_line l line.Cut ≡ false → IsStill l o1 b
  after_by l true e off = at_cancelled l e
  after_by l false e off = ended_leaves n ending.Cancelled o1 s1 refl own l o1 refl (ap (λ (t : Bool). t || false) off) (still1 l e)

  ends_next : EndsNext (λ (l : Line). false) n ending.Cancelled x o1 s1
  ends_next = record {
    late = λ l e. absurd (cc);
    current = refl;
    agrees = reopened x o o1 s refl refl refl (subst (Agrees x) (is_with_open o s at.current) h);
    unreset = unreset;
    call = c;
    there = there;
    going = going;
    next = next;
    uncut = still1 line.Cut refl;
    unfollowed = still1 line.Transparent refl;
    still = λ l off w. after_by l (is_line l line.Cancelled) refl off;
  }

  abbrev ended : HasEnded (λ (l : Line). false) n ending.Cancelled x o1 s1
  ended = ends (λ (l : Line). false) n ending.Cancelled x o1 s1 ends_next

  has : HasSlot x s c n
  has = h.calls.each n c there

  pub says : (cancelled n x).reply ≡ reply.Done
  says =
      ap cancel_reply_of has.there
      ∙ ap (λ (q : Option EndCause). if is_some q then reply.Refused refusal.CallEnded else reply.Done) (none_cause c.end has.slot.call.ended has.sees.serves.sees.ended going)

  if_none : (t : Bool) (z : Option Action) → z ≡ None → (if t then z else None) ≡ None
  if_none true z e = e
  if_none false z e = refl

  quiescent_again : (l : Line) → IsStill l o1 ended.seen
  quiescent_again l = ended.still l refl

  pub is_answered : IsAnswered (cancelled n x).state reply.Done o s
  is_answered =
      let back = (quiescence_is_exact o1 ended.seen).1 quiescent_again in
      record {
        reaches = record {
          actions = action.EventAnswered reply.Done ∷ action.CallEnds n ending.Cancelled ∷ ended.actions;
          seen = ended.seen;
          entry = o1;
          does = (event_next o s at timely (action.EventAnswered reply.Done) asked, subst (λ (z : Seen). Does (action.CallEnds n ending.Cancelled ∷ ended.actions) z ended.seen) (sym answered) ended.does);
          posts = ended.posts;
          same = record { moment = refl; word = refl; event = refl; entries = ended.entries; setup = ended.setup };
          at = record { current = ended.current; stage_is = refl; quiescent = record { calls = back.0; links = back.1; policies = back.2 } };
          agrees = ended.agrees;
        };
        reply = refl;
        fresh = fresh;
        none = if_none (is_after_event o1) (frame_of_event o.event o1 ended.seen) (ap (λ (v : Event). frame_of_event v o1 ended.seen) is);
      }

pub cancels_stand : CancelsStand
cancels_stand ends x y r o s h at fresh timely case answers =
    let n : ℕ = case.cancelled.number in
    let is : o.event ≡ event.Cancel n = case.cancelled.event_is in
    let kept : channel.refusal_of (event.Cancel n) x ≡ None = ap (λ (e : Event). channel.refusal_of e x) (sym is) ∙ case.cancelled.kept in
    let given : AnswersBy None (event.Cancel n) x y r
    = subst (λ (e : Event). AnswersBy None e x y r) is (subst (λ (z : Option Refusal). AnswersBy z o.event x y r) case.cancelled.kept answers) in
    let done : IsAnswered (cancelled n x).state reply.Done o s
    = is_answered ends x o s h at fresh timely n is kept case.cancelled.call case.cancelled.there case.going case.unreset in
    let same : r ≡ reply.Done = given.1 ∙ says ends x o s h at fresh timely n is kept case.cancelled.call case.cancelled.there case.going case.unreset in
    subst (λ (z : StateSeen). IsAnswered z r o s) (sym given.0) (subst (λ (z : Reply). IsAnswered (cancelled n x).state z o s) (sym same) done)
