-- A Send: what the channel adds to the messages that it holds, the session accepted.
use Rattle.std.proofs.Common.{◌≡◌, ◌⊎◌, ◌<◌, ◌≤◌, ◌+◌, ◌-◌, ◌==◌, ◌++◌, ◌∷◌, ◌∙◌, ap, arith, eqb-true, inl, inr, refl, subst, sym, Bool, true, false, List, [], Option, None, Some, ℕ, zero, suc, if◌then◌else◌, is_none, is_some, length, option_map, slice_set, ◌&&◌}
use Rattle.std.proofs.Math.Nat.{le_refl}
use Rattle.attempt_buffer.specs.Buffers.{Buffered, appended, held, text_of}
use Rattle.attempt_ledger.specs.declared.ledger.CallEnd.{CallEnd}
use Rattle.call_actions.proofs.Lists.{changed_here}
use Rattle.call_actions.proofs.TakeActions.Posted.{channel_refusal, refusal_by}
use Rattle.call_actions.proofs.TakeActions.Sends.{action_is, full_is}
use Rattle.call_actions.specs.TakeActions.Laws.{IsPosted}
use Rattle.call_core.specs.Parts.{is_too_long}
use Rattle.call_core.specs.Steps as call
use Rattle.call_core.specs.Steps.{Stepped, full_with, lent, send_refusal}
use Rattle.call_core.specs.declared.state.CallState.{CallState}
use Rattle.channel_actions.proofs.Answering.{event_next}
use Rattle.channel_actions.proofs.Dialling.{unshut_by}
use Rattle.channel_actions.proofs.HeldTexts.Carried.{Trims, after_trims, answered_trims}
use Rattle.channel_actions.proofs.HeldTexts.Fits.{both_ways, call_there, fits_by, fits_trim, goes_in, texts_on}
use Rattle.channel_actions.proofs.HeldTexts.Messages.{HasMore, keeps_along, longer, then_more}
use Rattle.channel_actions.proofs.HeldTexts.Steps.{IsGrown, sent_any, sent_quiet}
use Rattle.channel_actions.proofs.HeldTexts.Trims.{trimmed_same, IsTrimmed, TrimmedOf, trim_on}
use Rattle.channel_actions.proofs.Links.Settings.Slots.{asked_is, put_away}
use Rattle.channel_actions.proofs.SoundBuffers.Buffers.{more_long}
use Rattle.channel_actions.proofs.Stamps.{counted_at}
use Rattle.channel_actions.specs.Agrees.{Agrees}
use Rattle.channel_actions.specs.Calls.{HasSlot, lent_to}
use Rattle.channel_actions.specs.Quiescent.{IsAt}
use Rattle.channel_actions.specs.HeldTexts.Fits.{FitsText, TextsFit}
use Rattle.channel_actions.specs.HeldTexts.Laws.{AnswersKeepTexts}
use Rattle.channel_core.proofs.Places.{put_there}
use Rattle.channel_core.specs.Applying.{AnswersBy, refusal_of}
use Rattle.channel_core.specs.Arrivals.{sent_to}
use Rattle.channel_core.specs.Books.{BookActs, book_asked, lacks_call, slot_at}
use Rattle.channel_core.specs.States.{StateSeen}
use Rattle.channel_core.specs.Tables as tables
use Rattle.channel_core.specs.Tables.{tokens_in, with_call}
use Rattle.channel_core.specs.declared.state.slots.CallSlot.{CallSlot}
use Rattle.grpc_base.specs.declared.event.Event.TheVariants as event
use Rattle.grpc_base.specs.declared.event.Event.{Event}
use Rattle.grpc_base.specs.declared.event.Refusal.{Refusal}
use Rattle.grpc_base.specs.declared.event.Reply.{Reply}
use Rattle.grpc_frame.specs.Messages.{framed}
use Rattle.session_actions.specs.Actions.{after as after_action, after_if, following}
use Rattle.session_actions.specs.CallEnds.{next_deadline}
use Rattle.session_actions.specs.Deliveries.{is_accepted, message_accepted, with_message}
use Rattle.session_actions.specs.Entries.{has_room}
use Rattle.session_actions.specs.Events.{event_action}
use Rattle.session_actions.specs.Sessions.{Does, IsNext}
use Rattle.session_actions.specs.Words.{numbered}
use Rattle.session_actions.specs.Writing.{accepted_bytes}
use Rattle.session_actions.specs.declared.action.Action.TheVariants as action
use Rattle.session_actions.specs.declared.action.Action.{Action}
use Rattle.session_actions.specs.declared.call.Call.{Call}
use Rattle.session_actions.specs.declared.entry.OpenEntry.{OpenEntry}
use Rattle.session_actions.specs.declared.entry.Stage.TheVariants as stage
use Rattle.session_actions.specs.declared.seen.Seen.{Seen}

-- while an entry is made, an action that is next is the one that follows
next_is : (o : OpenEntry) (a : Action) (s : Seen) → s.current ≡ Some o → IsNext a s → following s ≡ Some a
next_is o (action.EntryOpens posted word e) s open_ next =
    absurd (let bad : false ≡ true = sym (ap (λ (q : Option OpenEntry). is_none q && has_room e s) open_) ∙ next in (cc))
next_is o a s open_ next = next

open_by : (o : Option CallEnd) (b : Bool) → refusal_by (is_some o) b ≡ None → o ≡ None
open_by None b e = refl
open_by (Some k) b e = absurd (cc)

-- a message more is held, and was accepted
whole_by : (f : List ℕ) (b : Buffered) (q : Bool) → (if q then b else record b { messages = b.messages ++ f ∷ [] }).is_whole ≡ b.is_whole
whole_by f b true = refl
whole_by f b false = refl

more_whole : (f : List ℕ) (b : Buffered) → (appended f b).is_whole ≡ b.is_whole
more_whole f b = whole_by f b (length f == 0)

up_to : (m n l k most : ℕ) → m ≤ n + k → n ≤ l → l + k ≤ most → m ≤ most
up_to m n l k most e f g = omega (arith, e, f, g)

below : (m n l k most : ℕ) → m ≤ n + k → n < l → l + k ≤ most → m < most
below m n l k most e f g = omega (arith, e, f, g)

fits_more : (c d : Call) (f : List ℕ) (b : Buffered) → FitsText c b → accepted_bytes c + length f ≤ accepted_bytes d → FitsText d (appended f b)
fits_more c d f b fit more = record {
  most = up_to (length (text_of (appended f b))) (length (text_of b)) (accepted_bytes c) (length f) (accepted_bytes d) (more_long f b) fit.most more;
  less = λ e. below (length (text_of (appended f b))) (length (text_of b)) (accepted_bytes c) (length f) (accepted_bytes d) (more_long f b) (fit.less (sym (more_whole f b) ∙ e)) more;
}

module _ (x : StateSeen) (o p : OpenEntry) (s t : Seen) (actions : List Action) (h : Agrees x s) (fits : TextsFit x s) (at : IsAt stage.Event o s) (timely : next_deadline s ≡ None)
    (does : Does actions s t) (replied : IsAt stage.Replied p t) (n : ℕ) (m : List ℕ) (is : o.event ≡ event.Send n m) (unshut : s.shut ≡ false) (c : Call)
    (at_call : numbered s.calls n ≡ Some c) where
  abbrev f : List ℕ
  f = framed m

  has : HasSlot x s c n
  has = h.calls.each n c at_call

  abbrev st : Stepped
  st = lent_to x s has.slot

  number_is : c.number ≡ n
  number_is = counted_at (λ (d : Call). d.number) s.calls n c h.kept.calls at_call

  sends : o.event ≡ event.Send c.number m
  sends = is ∙ ap (λ (k : ℕ). event.Send k m) (sym number_is)

  posted : IsPosted (event.Send c.number m) s
  posted = record { entry = o; current = at.current; event_is = sends }

  abbrev accepting : Action
  accepting = action.MessageAccepted c.number

  -- where the session accepts it
  module _ (free : refusal_by (is_some c.end) c.finished ≡ None) (short : is_too_long has.slot.call.chosen (length m) ≡ false) (roomy : is_accepted c m s ≡ true) where
    accepts : following s ≡ Some accepting
    accepts =
        event_next o s at timely accepting
        (ap (λ (e : Event). event_action e s) sends
        ∙ action_is s c st m posted unshut has.sees.serves short free (open_by c.end c.finished free) true roomy)

    after_is : after_action accepting s ≡ message_accepted c.number (event.Send c.number m) s
    after_is = ap (λ (q : Option OpenEntry). after_if q accepting s) at.current ∙ ap (λ (e : Event). message_accepted c.number e s) sends

    first_more : HasMore c.number (accepted_bytes c + length f) (after_action accepting s)
    first_more =
        subst (HasMore c.number (accepted_bytes c + length f)) (sym after_is)
        (record {
          call = with_message (event.Send c.number m) c;
          there = changed_here (with_message (event.Send c.number m)) c.number s.calls c has.sees.serves.sees.own;
          more = subst (λ (k : ℕ). accepted_bytes c + length f ≤ k) (sym (longer c m)) (le_refl (accepted_bytes c + length f));
        })

    more_by : (todo : List Action) → Does todo s t → HasMore c.number (accepted_bytes c + length f) t
    more_by [] done =
        let one : Some p ≡ Some o = sym replied.current ∙ ap (λ (u : Seen). u.current) done ∙ at.current in
        let same : p ≡ o = (cc) in
        absurd (let bad : stage.Replied ≡ stage.Event = sym replied.stage_is ∙ ap (λ (q : OpenEntry). q.stage) same ∙ at.stage_is in (cc))
    more_by (a ∷ rest) done =
        let both : Some a ≡ Some accepting = sym (next_is o a s at.current done.0) ∙ accepts in
        let one : a ≡ accepting = (cc) in
        let on : Does rest (after_action accepting s) t = subst (λ (b : Action). Does rest (after_action b s) t) one done.1 in
        then_more s (after_action accepting s) t (keeps_along rest (after_action accepting s) t on) c.number (accepted_bytes c + length f) first_more

  -- the call after it
  module _ (d : Call) (then_there : numbered t.calls n ≡ Some d) (new : CallState) where
    abbrev z : Stepped
    z = lent has.slot.call x.book.ledger (tokens_in x.book.buckets has.slot.bucket) []

    abbrev w : CallState
    w = (call.sent m x.book.moment z).call

    same_call : (e : Call) → numbered t.calls n ≡ Some e → e ≡ d
    same_call e there = (let both : Some e ≡ Some d = sym there ∙ then_there in (cc))

    more_on : accepted_bytes c ≤ accepted_bytes d
    more_on =
        let k : HasMore n (accepted_bytes c) t = keeps_along actions s t does n c at_call in
        subst (λ (e : Call). accepted_bytes c ≤ accepted_bytes e) (same_call k.call k.there) k.more

    fit_quiet : (c.end ≡ None) → IsTrimmed has.slot.call w → IsTrimmed w new → FitsText d new.buffer
    fit_quiet goes trim rest =
        fits_trim c d has.slot.call.buffer new.buffer (fits n c has.slot at_call has.there goes) (trim_on has.slot.call.buffer w.buffer new.buffer trim.text rest.text) more_on

    open_of : has.slot.call.ended ≡ None → c.end ≡ None
    open_of goes = no_end c.end (has.sees.serves.sees.ended ∙ goes)
      where
        no_end : (q : Option CallEnd) → option_map (λ (e : CallEnd). e.cause) q ≡ None → q ≡ None
        no_end None e = refl
        no_end (Some k) e = absurd (cc)

    quiet : (send_refusal has.slot.call ≡ None → is_too_long has.slot.call.chosen (length m) ≡ false → full_with (length m) has.slot.call ≡ None → ⊥) → IsTrimmed w new → FitsText d new.buffer
    quiet off rest =
        let trim : IsTrimmed has.slot.call w = sent_quiet m x.book.moment z off rest.ended in fit_quiet (open_of trim.ended) trim rest

    grown : accepted_bytes c + length f ≤ accepted_bytes d → IsGrown m has.slot.call w ⊎ IsTrimmed has.slot.call w → IsTrimmed w new → FitsText d new.buffer
    grown more (inr trim) rest = fit_quiet (open_of trim.ended) trim rest
    grown more (inl g) rest =
        let fit : FitsText d (appended f has.slot.call.buffer) = fits_more c d f has.slot.call.buffer (fits n c has.slot at_call has.there (open_of g.ended)) more in
        fits_trim d d (appended f has.slot.call.buffer) new.buffer fit (trim_on (appended f has.slot.call.buffer) w.buffer new.buffer g.text rest.text) (le_refl (accepted_bytes d))

    by_room : (b : Bool) → is_accepted c m s ≡ b → send_refusal has.slot.call ≡ None → is_too_long has.slot.call.chosen (length m) ≡ false → IsTrimmed w new → FitsText d new.buffer
    by_room true e unrefused short rest =
        let free : refusal_by (is_some c.end) c.finished ≡ None = sym (channel_refusal s c st has.sees.serves) ∙ unrefused in
        let k : HasMore c.number (accepted_bytes c + length f) t = more_by free short e actions does in
        let more : accepted_bytes c + length f ≤ accepted_bytes d
        = subst (λ (g : Call). accepted_bytes c + length f ≤ accepted_bytes g) (same_call k.call (ap (numbered t.calls) (sym number_is) ∙ k.there)) k.more in
        grown more (sent_any m x.book.moment z rest.ended) rest
    by_room false e unrefused short rest =
        let free : refusal_by (is_some c.end) c.finished ≡ None = sym (channel_refusal s c st has.sees.serves) ∙ unrefused in
        let full : full_with (length m) has.slot.call ≡ Some (held has.slot.call.buffer)
        = full_is s c st m posted unshut has.sees.serves short free (open_by c.end c.finished free) false e in
        quiet (λ a b none. (let bad : None ≡ Some (held has.slot.call.buffer) = sym none ∙ full in (cc))) rest

    by_length : (q : Bool) → is_too_long has.slot.call.chosen (length m) ≡ q → send_refusal has.slot.call ≡ None → IsTrimmed w new → FitsText d new.buffer
    by_length true e unrefused rest = quiet (λ a b none. both_ways (is_too_long has.slot.call.chosen (length m)) ⊥ e b) rest
    by_length false e unrefused rest = by_room (is_accepted c m s) refl unrefused e rest

    by_refusal : (q : Option Refusal) → send_refusal has.slot.call ≡ q → IsTrimmed w new → FitsText d new.buffer
    by_refusal None e rest = by_length (is_too_long has.slot.call.chosen (length m)) refl e rest
    by_refusal (Some why) e rest = quiet (λ a b none. (let bad : None ≡ Some why = sym a ∙ e in (cc))) rest

    own_fits : IsTrimmed w new → FitsText d new.buffer
    own_fits rest = by_refusal (send_refusal has.slot.call) refl rest

  -- all calls after it
  abbrev asked : BookActs
  asked = book_asked (call.sent m x.book.moment) n x.book

  abbrev between : StateSeen
  between = record x { book = asked.book }

  abbrev put : CallSlot
  put = with_call (call.sent m x.book.moment (lent has.slot.call x.book.ledger (tokens_in x.book.buckets has.slot.bucket) [])).call has.slot

  calls_are : asked.book.calls ≡ slice_set x.book.calls (n - 1) put
  calls_are = ap (λ (b : BookActs). b.book.calls) (asked_is (call.sent m x.book.moment) n x.book has.slot has.there)

  here_is : slot_at asked.book n ≡ Some put
  here_is = ap (λ (l : List CallSlot). tables.numbered l n) calls_are ∙ put_there x.book.calls n has.slot put has.there

  away_is : (k : ℕ) → (k == n) ≡ false → slot_at asked.book k ≡ slot_at x.book k
  away_is k off = ap (λ (l : List CallSlot). tables.numbered l k) calls_are ∙ put_away x.book.calls n k has.slot put has.there off

  trim_at : (k : ℕ) (slot : CallSlot) (y : StateSeen) → Trims between y → slot_at y.book k ≡ Some slot → slot.call.ended ≡ None → TrimmedOf (slot_at asked.book k) slot.call
  trim_at zero slot y trims there goes = absurd (let bad : None ≡ Some slot = there in (cc))
  trim_at (suc i) slot y trims there goes = trims.each i slot there goes

  fits_at : (k : ℕ) (q : Bool) → (k == n) ≡ q → (d : Call) (slot : CallSlot) → numbered t.calls k ≡ Some d → TrimmedOf (slot_at asked.book k) slot.call → FitsText d slot.call.buffer
  fits_at k true e d slot there trim =
      let same : k ≡ n = eqb-true k n e in
      own_fits d (ap (numbered t.calls) (sym same) ∙ there) slot.call
      (subst (λ (v : Option CallSlot). TrimmedOf v slot.call) (ap (slot_at asked.book) same ∙ here_is) trim)
  fits_at k false e d slot there trim =
      fits_by x s t actions h fits does k d slot (slot_at x.book k) there refl (subst (λ (v : Option CallSlot). TrimmedOf v slot.call) (away_is k e) trim)

  pub sent_fits : (y : StateSeen) → y ≡ (sent_to n m x).state → Agrees y t → TextsFit y t
  sent_fits y y_is after k d slot there at_slot goes =
      let trims : Trims between y = subst (λ (v : StateSeen). Trims between v) (sym y_is) (after_trims n asked.acts between) in
      fits_at k (k == n) refl d slot there (trim_at k slot y trims at_slot (goes_in y t k d slot after there at_slot goes))

-- an event is answered
some_call : (o : Option CallSlot) → lacks_call o ≡ None → (slot : CallSlot) × (o ≡ Some slot)
some_call None e = absurd (cc)
some_call (Some slot) e = (slot, refl)

module _ (x y : StateSeen) (r : Reply) (o p : OpenEntry) (s t : Seen) (actions : List Action) (h : Agrees x s) (fits : TextsFit x s) (at : IsAt stage.Event o s) (timely : next_deadline s ≡ None)
    (does : Does actions s t) (replied : IsAt stage.Replied p t) (after : Agrees y t) where
  refused_by : (n : ℕ) (m : List ℕ) (q : Option Refusal) → o.event ≡ event.Send n m → refusal_of (event.Send n m) x ≡ q → AnswersBy q (event.Send n m) x y r → TextsFit y t
  refused_by n m (Some why) is e by =
      texts_on x s t actions h fits does y (subst (λ (v : StateSeen). Trims x v) (sym by.0) (trimmed_same x.book.calls)) after
  refused_by n m None is e by =
      let kept : (x.shut ≡ false) × (lacks_call (slot_at x.book n) ≡ None) = unshut_by x.shut (lacks_call (slot_at x.book n)) e in
      let slot = some_call (slot_at x.book n) kept.1 in
      let c = call_there x s n slot.0 h slot.1 in
      sent_fits x o p s t actions h fits at timely does replied n m is (h.configs.shut ∙ kept.0) c.0 c.1 y by.0 after

  by_event : (e : Event) → o.event ≡ e → AnswersBy (refusal_of e x) e x y r → TextsFit y t
  by_event (event.Send n m) is by = refused_by n m (refusal_of (event.Send n m) x) is refl by
  by_event (event.Begin request) is by = texts_on x s t actions h fits does y (answered_trims (refusal_of (event.Begin request) x) (event.Begin request) x y r tt by) after
  by_event (event.Finish n) is by = texts_on x s t actions h fits does y (answered_trims (refusal_of (event.Finish n) x) (event.Finish n) x y r tt by) after
  by_event (event.Take n) is by = texts_on x s t actions h fits does y (answered_trims (refusal_of (event.Take n) x) (event.Take n) x y r tt by) after
  by_event (event.Cancel n) is by = texts_on x s t actions h fits does y (answered_trims (refusal_of (event.Cancel n) x) (event.Cancel n) x y r tt by) after
  by_event (event.Resolved addresses text) is by =
      texts_on x s t actions h fits does y (answered_trims (refusal_of (event.Resolved addresses text) x) (event.Resolved addresses text) x y r tt by) after
  by_event event.ResolveFailed is by = texts_on x s t actions h fits does y (answered_trims (refusal_of event.ResolveFailed x) event.ResolveFailed x y r tt by) after
  by_event event.TakeDial is by = texts_on x s t actions h fits does y (answered_trims (refusal_of event.TakeDial x) event.TakeDial x y r tt by) after
  by_event (event.LinkUp sub) is by = texts_on x s t actions h fits does y (answered_trims (refusal_of (event.LinkUp sub) x) (event.LinkUp sub) x y r tt by) after
  by_event (event.DialFailed sub) is by = texts_on x s t actions h fits does y (answered_trims (refusal_of (event.DialFailed sub) x) (event.DialFailed sub) x y r tt by) after
  by_event (event.Arrived link piece) is by =
      texts_on x s t actions h fits does y (answered_trims (refusal_of (event.Arrived link piece) x) (event.Arrived link piece) x y r tt by) after
  by_event (event.LinkLost link) is by = texts_on x s t actions h fits does y (answered_trims (refusal_of (event.LinkLost link) x) (event.LinkLost link) x y r tt by) after
  by_event (event.Drain link room) is by =
      texts_on x s t actions h fits does y (answered_trims (refusal_of (event.Drain link room) x) (event.Drain link room) x y r tt by) after
  by_event (event.Ping link word) is by = texts_on x s t actions h fits does y (answered_trims (refusal_of (event.Ping link word) x) (event.Ping link word) x y r tt by) after
  by_event event.Tick is by = texts_on x s t actions h fits does y (answered_trims (refusal_of event.Tick x) event.Tick x y r tt by) after
  by_event event.Shutdown is by = texts_on x s t actions h fits does y (answered_trims (refusal_of event.Shutdown x) event.Shutdown x y r tt by) after

pub answers_keep_texts : AnswersKeepTexts
answers_keep_texts x y r o p s t actions h fits at timely by does replied after = by_event x y r o p s t actions h fits at timely does replied after o.event refl by
