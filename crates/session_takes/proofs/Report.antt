-- The journal shows just what was taken.
-- an event that is no Take shows nothing
use Rattle.attempt_ledger.specs.Journals.{items_in, taken_by as reported_by}
use Rattle.attempt_ledger.specs.declared.ledger.CallEnd.{CallEnd}
use Rattle.attempt_ledger.specs.declared.row.RowEnd.{RowEnd}
use Rattle.call_actions.specs.TakeActions.Serves.{came}
use Rattle.channel_actions.proofs.ActionsFit.Lines.{next_actions_fit}
use Rattle.channel_actions.proofs.Calls.Kept.Along.{early_along, early_begins}
use Rattle.channel_actions.proofs.KeptSessions.Along.{kept_begins}
use Rattle.channel_actions.specs.ActionsFit.Laws.{FitsNow}
use Rattle.channel_actions.specs.FewCalls.Reached.{IsReached}
use Rattle.channel_actions.specs.KeptCalls.Early.{IsEarlyKept}
use Rattle.channel_actions.specs.KeptSessions.Kept.{IsKept}
use Rattle.grpc_base.specs.Requests.{RequestSeen}
use Rattle.grpc_base.specs.declared.event.ConfigFault.{ConfigFault}
use Rattle.grpc_base.specs.declared.event.EndCause.{EndCause}
use Rattle.grpc_base.specs.declared.event.Event.{Event}
use Rattle.grpc_base.specs.declared.event.Reply.{Reply}
use Rattle.grpc_base.specs.declared.fields.Field.{Field}
use Rattle.grpc_base.specs.declared.plan.Throttle.{Throttle}
use Rattle.h2_frame.specs.Frames.{FrameSeen}
use Rattle.h2_frame.specs.Numbers.{headers_type}
use Rattle.service_config.specs.declared.config.Config.{Config}
use Rattle.session_actions.specs.Actions.{after_in, following}
use Rattle.session_actions.specs.Attempts.{commitment, with_attempt}
use Rattle.session_actions.specs.Calls.{with_call}
use Rattle.session_actions.specs.Configs.{config_read, resolution_failed, resolver_answered, run_to_join, with_held, with_throttled}
use Rattle.session_actions.specs.Deliveries.{available, begun_call, call_begun_by, end_by_channel, end_by_row, end_item, is_by_row, is_end, message_accepted, request_finished, response_items, with_message}
use Rattle.session_actions.specs.Entries.{drawn_if, entry, now, replied, with_entry}
use Rattle.session_actions.specs.Links.{link_over, owed, wants_resolution, with_link}
use Rattle.session_actions.specs.Responses.{response}
use Rattle.session_actions.specs.Sessions.{new_session}
use Rattle.session_actions.specs.Subchannels.{dial_failed, dial_taken, dial_taken_of, link_up, new_link, with_dial, with_sub, without_link}
use Rattle.session_actions.specs.Words.{numbered}
use Rattle.session_actions.specs.Writing.{bytes_given, bytes_of, frame_written_on, link_lost, ping_of, stream_opened, stream_opened_by, waiting_on, with_piece, with_stream, with_written_bytes}
use Rattle.session_actions.specs.declared.action.Action.{Action}
use Rattle.session_actions.specs.declared.attempt.Attempt.{Attempt}
use Rattle.session_actions.specs.declared.call.Call.{Call}
use Rattle.session_actions.specs.declared.entry.OpenEntry.{OpenEntry}
use Rattle.session_actions.specs.declared.entry.Stage.{Stage}
use Rattle.session_actions.specs.declared.link.Link.{Link}
use Rattle.session_actions.specs.declared.link.Sent.{Sent}
use Rattle.session_actions.specs.declared.seen.Seen.{Seen}
use Rattle.session_actions.specs.declared.subchannel.Subchannel.{Subchannel}
use Rattle.session_order.proofs.SessionLaws.Lines.{IsTakeable, next_asks}
use Rattle.session_order.proofs.SessionLaws.Lists.{past}
use Rattle.session_takes.proofs.CommitmentPassesAlong.{kept_of}
use Rattle.session_takes.proofs.Pending.{Answered, Aside, Watched, after_aside, aside, drawn_by, event_of, is_at_event, is_silent, is_unanswered, pending, replied_so, replied_watched, silent, sub_by}
use Rattle.session_takes.proofs.ReportsThat.{next_reported}
use Rattle.session_takes.specs.Takes.{taken_by}
use Rattle.std.proofs.Common.{Bool, Err, List, None, Ok, Option, Result, Some, [], ap, append-nil, arith, false, if◌then◌else◌, inl, inr, is_none, length, map, not, refl, slice_get, subst, suc, sym, true, unwrap_or, zero, ℕ, ◌++◌, ◌+◌, ◌==◌, ◌||◌, ◌∙◌, ◌∷◌, ◌≡◌}
use Rattle.std.specs.Option.{option_map, option_map_or}
use Rattle.std.specs.Prelude.{option_and_then, option_to_list}
use Rattle.session_actions.specs.declared.action.Action.TheVariants as action
use Rattle.grpc_base.specs.declared.event.Conn.TheVariants as conn
use Rattle.grpc_base.specs.declared.event.Event.TheVariants as event
use Rattle.session_actions.specs.declared.link.LinkOver.TheVariants as over
use Rattle.grpc_base.specs.declared.event.Reply.TheVariants as reply
use Rattle.session_actions.specs.declared.link.Sent.TheVariants as sent
use Rattle.session_actions.specs.declared.entry.Stage.TheVariants as stage

abbrev pub is_take : Event → Bool
is_take (event.Take call) = true
is_take _ = false

silent_event : (k : ℕ) (e : Event) (r : Reply) → is_take e ≡ false → reported_by k e r ≡ []
silent_event k (event.Take call) r no_take = absurd (let bad : true ≡ false = no_take in (cc))
silent_event k _ r no_take = refl

silent_entry : (k : ℕ) (c : Option OpenEntry) (e : Event) → event_of c ≡ Some e → is_take e ≡ false → pending k c ≡ []
silent_entry k None e is no_take = refl
silent_entry k (Some o) e is no_take = by o.reply
  where
    own : o.event ≡ e
    own = (let both : ◌≡◌ {A = Option Event} (Some o.event) (Some e) = is in (cc))

    by : (p : Option Reply) → option_map_or (λ (r : Reply). reported_by k o.event r) p [] ≡ []
    by None = refl
    by (Some r) = ap (λ (x : Event). reported_by k x r) own ∙ silent_event k e r no_take

if_none : (b : Bool) → ◌≡◌ {A = List Reply} (if b then [] else []) []
if_none true = refl
if_none false = refl

-- a reply that is no item shows nothing
no_item : (k : ℕ) (e : Event) (r : Reply) → items_in r ≡ [] → reported_by k e r ≡ []
no_item k (event.Take call) r none = ap (λ (l : List Reply). if call == k then l else []) none ∙ if_none (call == k)
no_item k _ r none = refl

-- where an entry closes
pub closes_by : (k : ℕ) (e : Event) (p : Option Reply) → reported_by k e (unwrap_or p reply.Done) ≡ option_map_or (λ (r : Reply). reported_by k e r) p []
closes_by k e None = no_item k e reply.Done refl
closes_by k e (Some r) = refl

-- an item is a head, a message or an end
heads_items : (head : Option (List Field)) (ms : List (List ℕ)) (n : ℕ) (x : Reply)
    → slice_get (option_to_list (option_map (λ (meta : List Field). reply.Head meta) head) ++ map (λ (m : List ℕ). reply.Message m) ms) n ≡ Some x → items_in x ≡ x ∷ []
heads_items None [] n x got = absurd (let bad : ◌≡◌ {A = Option Reply} None (Some x) = got in (cc))
heads_items None (m ∷ ms) zero x got = let one : reply.Message m ≡ x = (cc) in subst (λ (z : Reply). items_in z ≡ z ∷ []) one refl
heads_items None (m ∷ ms) (suc n) x got = heads_items None ms n x got
heads_items (Some meta) ms zero x got = let one : reply.Head meta ≡ x = (cc) in subst (λ (z : Reply). items_in z ≡ z ∷ []) one refl
heads_items (Some meta) ms (suc n) x got = heads_items None ms n x got

came_items : (s : Seen) (p : Option Attempt) (n : ℕ) (x : Reply) → slice_get (option_map_or (λ (k : Attempt). response_items (response k s)) p []) n ≡ Some x → items_in x ≡ x ∷ []
came_items s None n x got = absurd (let bad : ◌≡◌ {A = Option Reply} None (Some x) = got in (cc))
came_items s (Some k) n x got = heads_items (response k s).head (response k s).messages n x got

end_items : (c : Call) (s : Seen) (why : EndCause) → items_in (end_item c s why) ≡ end_item c s why ∷ []
end_items c s why = by (is_by_row why) (option_and_then (λ (k : Attempt). k.row.ended) (commitment c s))
  where
    by : (b : Bool) (p : Option RowEnd) → items_in (if b then option_map_or end_by_row p (end_by_channel why) else end_by_channel why)
        ≡ (if b then option_map_or end_by_row p (end_by_channel why) else end_by_channel why) ∷ []
    by true None = refl
    by true (Some e) = refl
    by false p = refl

all_items : (c : Call) (s : Seen) (e : Option CallEnd) (n : ℕ) (x : Reply)
    → slice_get (came c s ++ option_to_list (option_map (λ (z : CallEnd). end_item c s z.cause) e)) n ≡ Some x → items_in x ≡ x ∷ []
all_items c s None n x got = came_items s (commitment c s) n x (ap (λ (l : List Reply). slice_get l n) (sym (append-nil (came c s))) ∙ got)
all_items c s (Some y) n x got =
    elim (past (came c s) (end_item c s y.cause) x n got) [
      | inl old ↦ came_items s (commitment c s) n x old
      | inr here ↦ subst (λ (z : Reply). items_in z ≡ z ∷ []) here.1 (end_items c s y.cause)
    ]

item_reported : (s : Seen) (call : ℕ) (item : Reply) → IsTakeable call item s → items_in item ≡ item ∷ []
item_reported s call item t =
    let more : t.here.taken + 1 ≡ suc t.here.taken = omega arith in
    all_items t.here s t.here.end t.here.taken item (ap (numbered (available t.here s)) (sym more) ∙ t.next)

-- ---- each action
abbrev pub is_closing : Action → Bool
is_closing action.EntryCloses = true
is_closing _ = false

throttled_aside : (config : Config) (t : Throttle) (run : Option ℕ) (z : Seen) → Aside z (with_throttled config t run z)
throttled_aside config t (Some run) z = record { entries = refl; current = refl }
throttled_aside config t None z = record { entries = refl; current = refl }

held_aside : (config : Config) (t : Option Throttle) (z : Seen) → Aside z (with_held config t z)
held_aside config None z = record { entries = refl; current = refl }
held_aside config (Some t) z = throttled_aside config t (run_to_join t z) z

opened_aside_if : (f : FrameSeen) (z : Seen) (p : Option Attempt) → Aside z (option_map_or (λ (a : Attempt). with_attempt (with_stream f.stream) a.place z) p z)
opened_aside_if f z None = aside z
opened_aside_if f z (Some a) = record { entries = refl; current = refl }

opened_aside_by : (b : Bool) (f : FrameSeen) (l : Link) (z : Seen) → Aside z (if b then stream_opened f l z else z)
opened_aside_by true f l z = opened_aside_if f z (slice_get (waiting_on l z) 0)
opened_aside_by false f l z = aside z

opened_aside : (x : Sent) (l : Link) (z : Seen) → Aside z (stream_opened_by x l z)
opened_aside sent.Preface l z = aside z
opened_aside (sent.Frame f) l z = opened_aside_by (f.kind == headers_type) f l z

drawn_aside : (k n : ℕ) (s z : Seen) → Aside s z → Watched k s (with_entry (λ (o : OpenEntry). record o { drawn = o.drawn + n }) z)
drawn_aside k n s z h = after_aside k s z (with_entry (λ (o : OpenEntry). record o { drawn = o.drawn + n }) z) h (drawn_by k n z z.current refl)

module _ (k : ℕ) (s : Seen) (reached : IsReached s) (o : OpenEntry) (current : s.current ≡ Some o) (fresh : is_unanswered s.current ≡ true) where
  kept : IsKept s
  kept = kept_of s reached

  early : IsEarlyKept s
  early = early_along reached.actions (new_session reached.setup) s (kept_begins reached.setup) (early_begins reached.setup) reached.does

  fits : (a : Action) → following s ≡ Some a → FitsNow a o s
  fits a next = next_actions_fit o s a kept early current next

  -- what is shown after it, beside what is shown before it
  pub record ReportsThat (a : Action) (t : Seen) : Type 0 where
    pub entries : t.entries ≡ s.entries
    pub pends : pending k t.current ≡ pending k s.current ++ taken_by k a
    pub later : is_unanswered t.current ≡ true
    pub event : event_of t.current ≡ event_of s.current

  quietly : (a : Action) → is_silent a ≡ true → taken_by k a ≡ [] → ReportsThat a (after_in o a s)
  quietly a quiet none =
      let w : Watched k s (after_in o a s) = silent k o a s quiet in
      record {
        entries = w.entries;
        pends = w.pends ∙ sym (append-nil (pending k s.current)) ∙ ap (λ (l : List Reply). pending k s.current ++ l) (sym none);
        later = w.fresh fresh;
        event = w.event;
      }

  -- of another event
  elsewhere : (a : Action) (t : Seen) (e : Event) → o.event ≡ e → is_take e ≡ false → taken_by k a ≡ [] → Answered s t → ReportsThat a t
  elsewhere a t e is no_take none h =
      let own : event_of s.current ≡ Some e = ap event_of current ∙ ap (λ (x : Event). Some x) is in
      record {
        entries = h.entries;
        pends = silent_entry k t.current e (h.event ∙ own) no_take
            ∙ sym (ap (λ (l : List Reply). l ++ taken_by k a) (silent_entry k s.current e own no_take) ∙ none);
        later = h.fresh;
        event = h.event;
      }

  -- before its event an entry was not answered
  unanswered : o.stage ≡ stage.Event → pending k s.current ≡ []
  unanswered at = ap (pending k) current ∙ by o.reply refl
    where
      by : (p : Option Reply) → o.reply ≡ p → option_map_or (λ (r : Reply). reported_by k o.event r) o.reply [] ≡ []
      by None e = ap (λ (q : Option Reply). option_map_or (λ (r : Reply). reported_by k o.event r) q []) e
      by (Some r) e =
          absurd
          (let bad : false ≡ true
          = sym (ap (λ (c : Option OpenEntry). is_unanswered c) current ∙ ap (λ (g : Stage). not (is_at_event g) || is_none o.reply) at ∙ ap (λ (q : Option Reply). is_none q) e) ∙ fresh in (cc))

  -- what a reply reports
  reported_now : (r : Reply) (t : Seen) → Aside s t → pending k (replied r t).current ≡ reported_by k o.event r
  reported_now r t h = ap (λ (c : Option OpenEntry). pending k (option_map (λ (x : OpenEntry). record x { stage = stage.Replied; reply = Some r }) c)) (h.current ∙ current)

  plainly : (a : Action) (r : Reply) (t : Seen) → Aside s t → o.stage ≡ stage.Event → items_in r ≡ [] → taken_by k a ≡ [] → ReportsThat a (replied r t)
  plainly a r t h at none no_taken =
      let answered : Answered s (replied r t) = replied_so r s t h in
      record {
        entries = answered.entries;
        pends = reported_now r t h ∙ no_item k o.event r none ∙ sym (ap (λ (l : List Reply). l ++ taken_by k a) (unanswered at) ∙ no_taken);
        later = answered.fresh;
        event = answered.event;
      }

  item_reports : (call : ℕ) (item : Reply) → following s ≡ Some (action.ItemTaken call item) → ReportsThat (action.ItemTaken call item) (after_in o (action.ItemTaken call item) s)
  item_reports call item next =
      let u : Seen = with_call (λ (c : Call). record c { taken = c.taken + 1; end_taken = is_end item }) call s in
      let at : o.stage ≡ stage.Event = next_reported s (action.ItemTaken call item) o current next in
      let is : o.event ≡ event.Take call = fits (action.ItemTaken call item) next in
      let t : IsTakeable call item s = next_asks s (action.ItemTaken call item) next in
      let answered : Answered s (replied item u) = replied_so item s u (record { entries = refl; current = refl }) in
      record {
        entries = answered.entries;
        pends = reported_now item u (record { entries = refl; current = refl }) ∙ ap (λ (e : Event). reported_by k e item) is
            ∙ ap (λ (l : List Reply). if call == k then l else []) (item_reported s call item t)
            ∙ sym (ap (λ (l : List Reply). l ++ taken_by k (action.ItemTaken call item)) (unanswered at));
        later = answered.fresh;
        event = answered.event;
      }

  reports_on : (a : Action) (t u : Seen) → Aside t u → ReportsThat a t → ReportsThat a u
  reports_on a t u h g = record {
    entries = h.entries ∙ g.entries;
    pends = ap (pending k) h.current ∙ g.pends;
    later = ap (λ (c : Option OpenEntry). is_unanswered c) h.current ∙ g.later;
    event = ap event_of h.current ∙ g.event;
  }

  config_reports : (x : Result Config ConfigFault) → o.stage ≡ stage.Event → ReportsThat (action.ConfigRead x) (config_read x s)
  config_reports (Err fault) at =
      plainly (action.ConfigRead (Err fault)) (reply.BadConfig fault) (resolver_answered s) (record { entries = refl; current = refl }) at refl refl
  config_reports (Ok config) at =
      reports_on (action.ConfigRead (Ok config)) (replied reply.Done (resolver_answered s)) (with_held config config.throttle (replied reply.Done (resolver_answered s)))
      (held_aside config config.throttle (replied reply.Done (resolver_answered s)))
      (plainly (action.ConfigRead (Ok config)) reply.Done (resolver_answered s) (record { entries = refl; current = refl }) at refl refl)

  begin_reports : (request : RequestSeen) → o.event ≡ event.Begin request → ReportsThat action.CallBegins (call_begun_by o.event s)
  begin_reports request is =
      subst (λ (e : Event). ReportsThat action.CallBegins (call_begun_by e s)) (sym is)
      (elsewhere action.CallBegins (call_begun_by (event.Begin request) s) (event.Begin request) is refl refl
      (replied_so (reply.Call (length s.calls + 1)) s (record s { calls = s.calls ++ begun_call (length s.calls + 1) (entry s) (now s) request ∷ [] }) (record { entries = refl; current = refl })))

  dial_reports : (sub again until : ℕ) (b : Subchannel) → o.event ≡ event.TakeDial → numbered s.subs sub ≡ Some b → ReportsThat (action.DialTaken sub again until) (dial_taken sub again until s)
  dial_reports sub again until b is there =
      subst (ReportsThat (action.DialTaken sub again until)) (sym (ap (λ (p : Option Subchannel). option_map_or (dial_taken_of again until s) p s) there))
      (elsewhere (action.DialTaken sub again until) (dial_taken_of again until s b) event.TakeDial is refl refl
      (replied_watched k (reply.Dial b.number b.address until) s (drawn_if (not (b.dials == 0)) (with_sub (with_dial again until) b.number s))
      (drawn_aside k (if not (b.dials == 0) then 1 else 0) s (with_sub (with_dial again until) b.number s) (sub_by (with_dial again until) b.number s))))

  -- a frame that is written adds to what a Drain gave
  written_by : (x : Sent) (l : Link) (c : Option OpenEntry) → event_of (option_map (with_written_bytes x) c) ≡ event_of c
  written_by x l None = refl
  written_by x l (Some p) = refl

  late : (g : Stage) (p : Option Reply) → g ≡ stage.Replied → (not (is_at_event g) || is_none p) ≡ true
  late g p e = ap (λ (h : Stage). not (is_at_event h) || is_none p) e

  written_reports : (link : ℕ) (x : Sent) → o.stage ≡ stage.Replied → (most : ℕ) → o.event ≡ event.Drain link most → (p : Option Link) → numbered s.links link ≡ p
      → ReportsThat (action.FrameWritten link x) (option_map_or (frame_written_on x s) p s)
  written_reports link x at most is None got = record { entries = refl; pends = sym (append-nil (pending k s.current)); later = fresh; event = refl }
  written_reports link x at most is (Some l) got =
      let u : Seen = stream_opened_by x l s in
      let h : Aside s u = opened_aside x l s in
      elsewhere (action.FrameWritten link x) (frame_written_on x s l) (event.Drain link most) is refl refl
      (record {
        entries = h.entries;
        event = written_by x l u.current ∙ ap event_of h.current;
        fresh = ap (λ (c : Option OpenEntry). is_unanswered (option_map (with_written_bytes x) c)) (h.current ∙ current) ∙ late o.stage (Some (reply.Octets (bytes_given o.reply ++ bytes_of x))) at;
      })

  pub act : (a : Action) → following s ≡ Some a → is_closing a ≡ false → ReportsThat a (after_in o a s)
  act (action.EntryOpens posted word e) next other = record { entries = refl; pends = sym (append-nil (pending k s.current)); later = fresh; event = refl }
  act (action.EventRefused why) next other =
      plainly (action.EventRefused why) (reply.Refused why) s (aside s) (next_reported s (action.EventRefused why) o current next) refl refl
  act (action.EventAnswered r) next other =
      let h : (o.stage ≡ stage.Event) × (items_in r ≡ []) = next_reported s (action.EventAnswered r) o current next in plainly (action.EventAnswered r) r s (aside s) h.0 h.1 refl
  act action.EntryCloses next other = absurd (let bad : true ≡ false = other in (cc))
  act action.CallBegins next other = let h : FitsNow action.CallBegins o s = fits action.CallBegins next in begin_reports h.0 h.1
  act (action.MessageAccepted call) next other =
      let h : FitsNow (action.MessageAccepted call) o s = fits (action.MessageAccepted call) next in
      elsewhere (action.MessageAccepted call) (message_accepted call o.event s) (event.Send call h.0) h.1 refl refl
      (replied_so reply.Done s (with_call (with_message o.event) call s) (record { entries = refl; current = refl }))
  act (action.RequestFinished call) next other =
      elsewhere (action.RequestFinished call) (request_finished call s) (event.Finish call) (fits (action.RequestFinished call) next) refl refl
      (replied_so reply.Done s (with_call (λ (c : Call). record c { finished = true }) call s) (record { entries = refl; current = refl }))
  act (action.ItemTaken call item) next other = item_reports call item next
  act (action.ConfigRead x) next other = config_reports x (next_reported s (action.ConfigRead x) o current next)
  act action.ResolutionFailed next other =
      elsewhere action.ResolutionFailed (resolution_failed s) event.ResolveFailed (fits action.ResolutionFailed next) refl refl
      (replied_so reply.Done s (resolver_answered s) (record { entries = refl; current = refl }))
  act (action.DialTaken sub again until) next other =
      let h : FitsNow (action.DialTaken sub again until) o s = fits (action.DialTaken sub again until) next in dial_reports sub again until h.1 h.0 h.2
  act (action.DialFails sub) next other =
      let h : FitsNow (action.DialFails sub) o s = fits (action.DialFails sub) next in
      let g : Aside (wants_resolution s) (with_sub (without_link conn.Failure) sub (wants_resolution s)) = sub_by (without_link conn.Failure) sub (wants_resolution s) in
      elsewhere (action.DialFails sub) (dial_failed sub s) (event.DialFailed sub) h.0 refl refl
      (replied_so reply.Done s (with_sub (without_link conn.Failure) sub (wants_resolution s)) (record { entries = g.entries; current = g.current }))
  act (action.LinkUp sub) next other =
      let h : FitsNow (action.LinkUp sub) o s = fits (action.LinkUp sub) next in
      let u : Seen = record s { links = s.links ++ new_link (length s.links + 1) sub s ∷ [] } in
      let f : Subchannel → Subchannel = λ (b : Subchannel). record b { link = Some (length s.links + 1) } in
      let g : Aside u (with_sub f sub u) = sub_by f sub u in
      elsewhere (action.LinkUp sub) (link_up sub s) (event.LinkUp sub) h.0 refl refl
      (replied_so (reply.Link (length s.links + 1)) s (with_sub f sub u) (record { entries = g.entries; current = g.current }))
  act (action.BytesArrive link) next other =
      let h : FitsNow (action.BytesArrive link) o s = fits (action.BytesArrive link) next in
      elsewhere (action.BytesArrive link) (after_in o (action.BytesArrive link) s) (event.Arrived link h.0) h.1 refl refl
      (replied_so reply.Done s (with_link (with_piece o.event) link s) (record { entries = refl; current = refl }))
  act (action.LinkLost link) next other =
      elsewhere (action.LinkLost link) (link_lost link s) (event.LinkLost link) (fits (action.LinkLost link) next) refl refl
      (replied_so reply.Done s (wants_resolution (link_over over.Lost link s)) (record { entries = refl; current = refl }))
  act (action.PingQueued link) next other =
      let h : FitsNow (action.PingQueued link) o s = fits (action.PingQueued link) next in
      elsewhere (action.PingQueued link) (after_in o (action.PingQueued link) s) (event.Ping link h.0) h.1 refl refl
      (replied_so reply.Done s (owed (ping_of o.event) link s) (record { entries = refl; current = refl }))
  act (action.FrameWritten link x) next other =
      let h : (o.stage ≡ stage.Replied) × ((most : ℕ) × (o.event ≡ event.Drain link most)) = next_reported s (action.FrameWritten link x) o current next in
      written_reports link x h.0 h.1.0 h.1.1 (numbered s.links link) refl
  act action.ChannelShuts next other =
      elsewhere action.ChannelShuts (after_in o action.ChannelShuts s) event.Shutdown (fits action.ChannelShuts next) refl refl
      (replied_so reply.Done s (record s { shut = true }) (record { entries = refl; current = refl }))
  act a next other = quietly a refl refl
