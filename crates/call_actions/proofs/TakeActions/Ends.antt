-- A call ends, and its attempts are cut off: in the session one by one, in the channel at once.
use Rattle.std.proofs.Common.{◌≡◌, ◌∷◌, ◌&&◌, ◌||◌, append-nil, ap, map-id, not, refl, subst, sym, ◌∙◌, Bool, true, false, List, [], Option, None, Some, ℕ, filter, if◌then◌else◌, is_none, is_some, length, map}
use Rattle.std.proofs.lemmas.Bool.{both_ways, eq-eqb, or_right}
use Rattle.std.specs.List.{list_any}
use Rattle.std.specs.Option.{option_map}
use Rattle.attempt_ledger.specs.declared.ledger.CallEnd.{CallEnd}
use Rattle.call_actions.proofs.Unconfigured.{some_still}
use Rattle.call_actions.proofs.Ended.{end_by}
use Rattle.call_core.specs.Parts.{count_of}
use Rattle.call_core.specs.Steps as steps
use Rattle.call_core.specs.Steps.{Stepped, closed_by, ended_as}
use Rattle.grpc_base.specs.declared.event.EndCause.{EndCause}
use Rattle.grpc_base.specs.declared.event.EndCause.TheVariants as ending
use Rattle.grpc_base.specs.declared.event.Event.{Event}
use Rattle.grpc_base.specs.declared.event.Event.TheVariants as event
use Rattle.grpc_base.specs.declared.event.Refusal.{Refusal}
use Rattle.grpc_base.specs.declared.event.Refusal.TheVariants as refusal
use Rattle.grpc_base.specs.declared.event.Reply.TheVariants as reply
use Rattle.session_actions.specs.Actions.{after, after_if}
use Rattle.session_actions.specs.CallEnds.{call_ended, cancels, has_long_request, is_after_event, is_cancelled, sends_too_long}
use Rattle.session_actions.specs.Configs.{is_too_long}
use Rattle.session_actions.specs.Deliveries.{is_accepted, held_bytes, send_action}
use Rattle.session_actions.specs.Entries.{entry, last_moment, now, replied}
use Rattle.session_actions.specs.Events.{event_action, event_action_by}
use Rattle.session_actions.specs.Refusals.{cancel_refusal, refused_if}
use Rattle.session_actions.specs.Tokens.{run_of, tokens_in}
use Rattle.session_actions.specs.Words.{changed, numbered}
use Rattle.session_actions.specs.declared.action.Action.TheVariants as action
use Rattle.session_actions.specs.declared.attempt.Attempt.{Attempt}
use Rattle.session_actions.specs.declared.call.Call.{Call}
use Rattle.session_actions.specs.declared.call.Mark.{Mark}
use Rattle.session_actions.specs.declared.call.MarkKind.TheVariants as mark
use Rattle.session_actions.specs.declared.config.ThrottleRun.{ThrottleRun}
use Rattle.session_actions.specs.declared.entry.OpenEntry.{OpenEntry}
use Rattle.session_actions.specs.declared.seen.Seen.{Seen}
use Rattle.call_actions.proofs.TakeActions.CutAttempts.{becomes, ended_mark, is_cut_off}
use Rattle.call_actions.proofs.TakeActions.CutOne.{changed_twice, marked_also}
use Rattle.call_actions.proofs.TakeActions.CutSees.{tokens_are}
use Rattle.call_actions.proofs.TakeActions.CutWalk.{Walked, at_point, walked}
use Rattle.call_actions.proofs.TakeActions.EndSees.{end_call, end_seen, serves_ended}
use Rattle.call_actions.proofs.TakeActions.Overflows.{moment_by}
use Rattle.call_actions.proofs.TakeActions.Posted.{over_is, refusal_by, refused_by, session_refusal}
use Rattle.call_actions.proofs.TakeActions.Retold.{serves_still}
use Rattle.call_actions.proofs.TakeActions.Sends.{long_is}
use Rattle.call_actions.proofs.TakeActions.Takes.{answer, replied_is}
use Rattle.call_actions.specs.TakeActions.Cuts.{AttemptsAreCut}
use Rattle.call_actions.specs.TakeActions.Laws.{CancelsEnd, EndsCutAttempts, EndsNext, IsEnded, IsPosted, LongSendsEnd, reply_of}
use Rattle.call_actions.specs.TakeActions.Serves.{Serves}

module _ (s : Seen) (c : Call) (x : Stepped) (why : EndCause) (h : Serves s c x) (open_now : c.end ≡ None) where
  abbrev pub tokens_now : Option ℕ
  tokens_now = count_of x.tokens

  pub count_now : option_map (λ (run : ThrottleRun). tokens_in run s) (run_of c s) ≡ tokens_now
  count_now = tokens_are s (run_of c s) x.tokens h.sees.tokens

  abbrev pub end_now : CallEnd
  end_now = end_by (entry s) (now s) why

  abbrev pub first : Mark
  first = record { what = mark.Closed; moment = now s }

  abbrev pub all_gone : Attempt → Bool
  all_gone a = true

  abbrev pub own_stamp : Attempt → Option ℕ
  own_stamp a = a.row.committed

  abbrev pub point : List Attempt → List Attempt → Option OpenEntry → Seen
  point prefix rest current =
      at_point s c h.sees.own own_stamp all_gone (Some end_now) first (λ a. refl) (λ a b e. refl) tokens_now count_now h.counted prefix rest current

  pub ended_is : call_ended c.number why s ≡ point [] s.attempts s.current
  ended_is =
      ap (λ (l : List Call). record s { calls = l })
      (changed_twice (λ (k : Call). record k { end = Some end_now }) (marked_also first) (becomes (Some end_now) (first ∷ [])) c.number s.calls c h.sees.own refl)
      ∙ ap (λ (l : List Attempt). record s { attempts = l; calls = changed (becomes (Some end_now) (first ∷ [])) c.number s.calls }) (sym (map-id s.attempts))

  abbrev pub CutAll : Seen → Type 0
  CutAll u = Walked s c h.sees.own own_stamp all_gone (Some end_now) first (λ a. refl) (λ a b e. refl) tokens_now count_now h.counted u

  pub end_walked : (o : OpenEntry) → s.current ≡ Some o → CutAll (call_ended c.number why s)
  end_walked o opened =
      walked s c h.sees.own own_stamp all_gone (Some end_now) first (λ a. refl) (λ a b e. refl) tokens_now count_now h.counted o (call_ended c.number why s) opened h.places ended_is

  abbrev pub put : Option OpenEntry → List Attempt → Seen
  put current attempts = record s {
    attempts = attempts;
    calls = changed (becomes (Some end_now) (first ∷ map (ended_mark (now s)) (filter (is_cut_off c.number all_gone) s.attempts))) c.number s.calls;
    current = current;
  }

  pub ends_by : (o : Option OpenEntry) → s.current ≡ o → is_some s.current ≡ true → IsEnded s c why (closed_by why (now s) x)
  ends_by None opened some = absurd (let none : is_some s.current ≡ false = ap (λ (z : Option OpenEntry). is_some z) opened in both_ways (is_some s.current) none some)
  ends_by (Some o) opened some =
      let w : CutAll (call_ended c.number why s) = end_walked o opened in
      let still : is_some (Some w.entry_now) ≡ is_some s.current = sym (ap (λ (z : Option OpenEntry). is_some z) opened) in
      let last : Seen = end_seen s c x why h open_now (Some w.entry_now) still in
      let same : point s.attempts [] (Some w.entry_now) ≡ last = ap (put (Some w.entry_now)) (append-nil last.attempts) in
      record {
        cuts = w.actions;
        seen = last;
        cut = subst (AttemptsAreCut c.number w.actions (call_ended c.number why s)) same w.cuts;
        agrees = record {
          call = end_call s c x why h open_now (Some w.entry_now) still;
          number_is = refl;
          serves = serves_ended s c x why h open_now (Some w.entry_now) still;
        };
      }

pub ends_cut_attempts : EndsCutAttempts
ends_cut_attempts s c x why opened h open_now = ends_by s c x why h open_now s.current refl opened

-- an event is answered, and the call ends
abbrev pub answered_now : Seen → Seen
answered_now s = replied reply.Done s

module _ (e : Event) (s : Seen) (c : Call) (x : Stepped) (why : EndCause) (p : IsPosted e s) (h : Serves s c x) (open_now : c.end ≡ None) where
  pub after_is : after (action.EventAnswered reply.Done) s ≡ answered_now s
  after_is = ap (λ (o : Option OpenEntry). after_if o (action.EventAnswered reply.Done) s) p.current

  pub current_is : (answered_now s).current ≡ Some (answer reply.Done p.entry)
  current_is = ap (option_map (answer reply.Done)) p.current

  pub serves_answered : Serves (answered_now s) c x
  serves_answered = serves_still s c x (option_map (answer reply.Done) s.current) (some_still (answer reply.Done) s.current) h

  pub ended_answered : IsEnded (answered_now s) c why (closed_by why (now s) x)
  ended_answered =
      subst (λ (n : ℕ). IsEnded (answered_now s) c why (closed_by why n x)) (moment_by reply.Done s.current (last_moment s))
      (ends_cut_attempts (answered_now s) c x why (ap (λ (o : Option OpenEntry). is_some o) current_is) serves_answered open_now)

  pub ends_next : (test : OpenEntry → Seen → Call → Bool) → event_action e s ≡ Some (action.EventAnswered reply.Done)
      → test (answer reply.Done p.entry) (answered_now s) c ≡ true → EndsNext e s c why test (closed_by why (now s) x)
  ends_next test next reason = record {
    next = next;
    replied = ap reply_of after_is ∙ replied_is s p.entry reply.Done p.current;
    entry = answer reply.Done p.entry;
    current = ap (λ (t : Seen). t.current) after_is ∙ current_is;
    reason = ap (λ (t : Seen). test (answer reply.Done p.entry) t c) after_is ∙ reason;
    ended = subst (λ (t : Seen). IsEnded t c why (closed_by why (now s) x)) (sym after_is) ended_answered;
  }

-- by the application
pub cancels_end : CancelsEnd
cancels_end s c x p going h open_now =
    let e : Event = event.Cancel c.number in
    let reply_now : steps.cancel_reply x.call ≡ reply.Done
    = ap (λ (b : Bool). if b then reply.Refused refusal.CallEnded else reply.Done) (over_is s c x h ∙ ap (λ (o : Option CallEnd). is_some o) open_now) in
    let next : event_action e s ≡ Some (action.EventAnswered reply.Done)
    = ap (λ (b : Bool). event_action_by (refused_if b refusal.Shut (cancel_refusal (numbered s.calls c.number))) e s) going
    ∙ ap (λ (o : Option Call). event_action_by (cancel_refusal o) e s) h.sees.own
    ∙ ap (λ (o : Option CallEnd). event_action_by (refused_if (is_some o) refusal.CallEnded None) e s) open_now in
    let reason : is_cancelled (answer reply.Done p.entry) c ≡ true
    = ap (λ (o : Option CallEnd). (is_none o && is_after_event (answer reply.Done p.entry)) && cancels p.entry.event c.number) open_now
    ∙ ap (λ (z : Event). cancels z c.number) p.event_is ∙ eq-eqb c.number c.number refl in
    (reply_now, ends_next e s c x ending.Cancelled p h open_now (λ o t d. is_cancelled o d) next reason)

-- by a message that is too long
pub long_sends_end : LongSendsEnd
long_sends_end s c x m p going h open_now unfinished long =
    let e : Event = event.Send c.number m in
    let free : refusal_by (is_some c.end) c.finished ≡ None
    = ap (λ (o : Option CallEnd). refusal_by (is_some o) c.finished) open_now ∙ ap (λ (b : Bool). refusal_by false b) unfinished in
    let reply_now : steps.send_reply m x.call ≡ reply.Done
    = ap (λ (o : Option Refusal). steps.send_reply_if o m x.call) (refused_by s c x h None free)
    ∙ ap (λ (b : Bool). if b then reply.Done else steps.full_reply (steps.full_with (length m) x.call)) long in
    let too_long : is_too_long m c s ≡ true = long_is s c x m h ∙ long in
    let next : event_action e s ≡ Some (action.EventAnswered reply.Done)
    = ap (λ (o : Option Refusal). event_action_by o e s) (session_refusal s c x h going None free)
    ∙ ap (option_map (send_action c.number m s)) h.sees.own
    ∙ ap (λ (t : Bool). Some (if t then action.EventAnswered reply.Done
    else if is_accepted c m s then action.MessageAccepted c.number else action.EventAnswered (reply.Full (held_bytes c s)))) too_long in
    let asked : (is_after_event (answer reply.Done p.entry) && sends_too_long p.entry.event c (answered_now s)) ≡ true
    = ap (λ (z : Event). sends_too_long z c (answered_now s)) p.event_is ∙ ap (λ (b : Bool). b && is_too_long m c s) (eq-eqb c.number c.number refl) ∙ too_long in
    let reason : has_long_request (answer reply.Done p.entry) (answered_now s) c ≡ true
    = ap (λ (o : Option CallEnd). is_none o && (list_any (λ (k : List ℕ). is_too_long k c s) c.messages || (is_after_event (answer reply.Done p.entry) && sends_too_long p.entry.event c (answered_now s)))) open_now
    ∙ or_right (list_any (λ (k : List ℕ). is_too_long k c s) c.messages) (is_after_event (answer reply.Done p.entry) && sends_too_long p.entry.event c (answered_now s)) asked in
    let going_on : x.call.ended ≡ None = sym h.sees.ended ∙ ap (option_map (λ (z : CallEnd). z.cause)) open_now in
    let step : closed_by ending.Request (now s) x ≡ steps.sent m (now s) x
    = ap (λ (o : Option EndCause). if not (is_some o) then ended_as ending.Request (now s) x else x) going_on
    ∙ sym (ap (λ (o : Option Refusal). steps.sent_if o m (now s) x) (refused_by s c x h None free)
    ∙ ap (λ (b : Bool). if b then ended_as ending.Request (now s) x else steps.accepted_if (steps.full_with (length m) x.call) m (now s) x) long) in
    (reply_now, subst (EndsNext e s c ending.Request has_long_request) step (ends_next e s c x ending.Request p h open_now has_long_request next reason))
