-- A piece, frame by frame.
use Rattle.event_cases.specs.FewStreams.Laws.{AttemptsAreFew}
use Rattle.std.proofs.Common.{◌≡◌, ◌+◌, ◌-◌, ◌++◌, ◌∷◌, ◌≤◌, ◌<◌, ap, arith, refl, subst, sym, ◌∙◌, true, List, [], Option, None, Some, ℕ, suc, zero, drop, is_none, is_some, length, if◌then◌else◌, ◌&&◌, not}
use Rattle.std.proofs.lemmas.List.{append-nil, length-append}
use Rattle.std.specs.Option.{option_and_then}
use Rattle.channel_actions.proofs.Does.{does_on, none_on}
use Rattle.channel_actions.specs.Agrees.{Agrees}
use Rattle.channel_actions.specs.Quiescent.{IsAt}
use Rattle.channel_actions.specs.Known.{IsKnown}
use Rattle.channel_actions.specs.Links.{HasLink, IsGoing, SeesLinkOf}
use Rattle.channel_actions.specs.Points.{IsSameEntry}
use Rattle.attempt_cases.proofs.DrainEvents.Rooms.{one_some}
use Rattle.channel_core.specs.Arrivals.{frame_received, frames_after, frames_from}
use Rattle.channel_core.specs.States.{StateSeen}
use Rattle.channel_core.specs.Tables.{Received, received_by, received_in}
use Rattle.channel_core.specs.declared.state.links.LinkSlot.{LinkSlot}
use Rattle.frame_cases.proofs.PieceWalks.Slots.{IsSlot, receives_nothing, receives_now, slot_of}
use Rattle.frame_cases.proofs.PieceWalks.Stops.{agrees_done, agrees_over, agrees_part, kept_slot, old, sees_old}
use Rattle.frame_cases.specs.PieceWalks.Laws.{BreaksAreHandled, FramesAreHandled, KnownAlongFrames}
use Rattle.frame_cases.specs.PieceWalks.Points.{HasReceived, IsReceiving, coming, with_rest}
use Rattle.grpc_base.specs.declared.event.Event.{Event}
use Rattle.grpc_base.specs.declared.event.Event.TheVariants as event
use Rattle.grpc_base.specs.declared.event.Reply.{Reply}
use Rattle.grpc_base.specs.declared.event.Reply.TheVariants as reply
use Rattle.h2_frame.specs.Readings.{Partial, Reading, reading_of}
use Rattle.h2_link.proofs.Prefixes.{afterwards}
use Rattle.h2_link.specs.Received.{prefix_of, received_with}
use Rattle.h2_link.specs.Wire.{Report, Wire}
use Rattle.link_actions.proofs.Reading.{reads_are_same}
use Rattle.link_actions.specs.Laws.{IsSameRead}
use Rattle.session_actions.specs.CallEnds.{is_refusal, is_replied}
use Rattle.session_actions.specs.Events.{frame_action, frame_of_event}
use Rattle.session_actions.specs.Laws.{posted_in}
use Rattle.session_actions.specs.Links.{read_bytes}
use Rattle.session_actions.specs.Reading.{next_read, next_read_by}
use Rattle.session_actions.specs.Sessions.{Does}
use Rattle.session_actions.specs.Words.{holds, numbered}
use Rattle.session_actions.specs.Writing.{next_frame_read, read_action, read_next}
use Rattle.session_actions.specs.declared.action.Action.{Action}
use Rattle.session_actions.specs.declared.action.Action.TheVariants as action
use Rattle.session_actions.specs.declared.entry.OpenEntry.{OpenEntry}
use Rattle.session_actions.specs.declared.entry.Stage.{Stage}
use Rattle.session_actions.specs.declared.entry.Stage.TheVariants as stage
use Rattle.session_actions.specs.declared.link.Link.{Link}
use Rattle.session_actions.specs.declared.link.LinkOver.{LinkOver}
use Rattle.session_actions.specs.declared.link.NextRead.{NextRead}
use Rattle.session_actions.specs.declared.link.NextRead.TheVariants as nextread
use Rattle.session_actions.specs.declared.link.ReadFrame.{ReadFrame}
use Rattle.session_actions.specs.declared.seen.Seen.{Seen}

drop_none : {X : Type 0} (n : ℕ) → ◌≡◌ {A = List X} (drop n []) []
drop_none zero = refl
drop_none (suc n) = refl

-- bytes of which so many were taken; at least one is taken at a time
drop_one : (n b : ℕ) (piece : List ℕ) → 1 ≤ n → drop n (b ∷ piece) ≡ drop (n - 1) piece
drop_one zero b piece some = absurd (let no : ⊥ = omega (arith, some) in no)
drop_one (suc n) b piece some = ap (λ (k : ℕ). drop k piece) (let same : n ≡ suc n - 1 = omega arith in same)

pub past : (link : ℕ) (piece : List ℕ) (n : ℕ) (x : StateSeen) → length piece ≤ n → frames_after link piece n x ≡ x
past link [] n x far = refl
past link (b ∷ piece) zero x far = absurd (let no : ⊥ = omega (arith, far) in no)
past link (b ∷ piece) (suc n) x far = past link piece n x (let less : length piece ≤ n = omega (arith, far) in less)

empty_by : (xs ys : List ℕ) → xs ++ ys ≡ ys → xs ≡ []
empty_by [] ys e = refl
empty_by (x ∷ xs) ys e =
    absurd (let long : length (x ∷ xs) + length ys ≡ length ys = sym (length-append (x ∷ xs) ys) ∙ ap (λ (zs : List ℕ). length zs) e in let no : ⊥ = omega (arith, long) in no)

-- what the session reads next
pub same_event : (o : OpenEntry) (s : Seen) (link : ℕ) (whole : List ℕ) → IsAt stage.Replied o s → o.reply ≡ Some reply.Done → o.event ≡ event.Arrived link whole
    → frame_action o s ≡ next_frame_read link s
same_event o s link whole at done is =
    ap (λ (st : Stage). if is_replied st && holds (λ (r : Reply). not (is_refusal r)) o.reply then frame_of_event o.event o s else None) at.stage_is
    ∙ ap (λ (r : Option Reply). if holds (λ (q : Reply). not (is_refusal q)) r then frame_of_event o.event o s else None) done
    ∙ ap (λ (e : Event). frame_of_event e o s) is

pub read_at : (s : Seen) (link : ℕ) (l : Link) → numbered s.links link ≡ Some l → next_frame_read link s ≡ (if is_none l.over then read_action link (next_read l s) else None)
read_at s link l here = ap (λ (k : Option Link). option_and_then (read_next link s) k) here

pub none_over : (over : Option LinkOver) (a : Option Action) → is_some over ≡ true → (if is_none over then a else None) ≡ None
none_over None a e = absurd (cc)
none_over (Some why) a e = refl

-- what the link sees of it
none_there : (l : Link) (s : Seen) (w : Wire) (f : Option (ℕ × Report)) → IsSameRead l s w nextread.Nothing f → f ≡ None
none_there l s w None same = refl
none_there l s w (Some v) same = absurd same

pub record IsShown (f : Option (ℕ × Report)) : Type 0 where
  pub shown : ℕ × Report
  pub is : f ≡ Some shown

pub frame_there : (l : Link) (s : Seen) (w : Wire) (r : ReadFrame) (f : Option (ℕ × Report)) → IsSameRead l s w (nextread.Frame r) f → IsShown f
frame_there l s w r None same = absurd same
frame_there l s w r (Some v) same = record { shown = v; is = refl }

pub fault_there : (l : Link) (s : Seen) (w : Wire) (code : ℕ) (f : Option (ℕ × Report)) → IsSameRead l s w (nextread.Broken code) f → IsShown f
fault_there l s w code None same = absurd same
fault_there l s w code (Some v) same = record { shown = v; is = refl }

-- the walk ends where nothing is shown
pub record Walked (y : StateSeen) (o : OpenEntry) (s : Seen) : Type 0 where
  pub actions : List Action
  pub seen : Seen
  pub entry : OpenEntry
  pub does : Does actions s seen
  pub posts : posted_in actions ≡ []
  pub same : IsSameEntry o s entry seen
  pub at : IsAt stage.Replied entry seen
  pub reply : entry.reply ≡ o.reply
  pub fresh : entry.turn ≡ None
  pub agrees : Agrees y seen
  pub none : frame_action entry seen ≡ None

stands : (y : StateSeen) (o : OpenEntry) (s : Seen) → IsAt stage.Replied o s → o.turn ≡ None → Agrees y s → frame_action o s ≡ None → Walked y o s
stands y o s at fresh agrees none = record {
  actions = [];
  seen = s;
  entry = o;
  does = refl;
  posts = refl;
  same = record { moment = refl; word = refl; event = refl; entries = refl; setup = refl };
  at = at;
  reply = refl;
  fresh = fresh;
  agrees = agrees;
  none = none;
}

goes_further : (link : ℕ) (piece : List ℕ) (y z : StateSeen) (o : OpenEntry) (s : Seen) → (has : HasReceived link piece y o s) → Walked z has.entry has.seen → Walked z o s
goes_further link piece y z o s has rest = record {
  actions = has.actions ++ rest.actions;
  seen = rest.seen;
  entry = rest.entry;
  does = does_on has.actions rest.actions s has.seen rest.seen has.does rest.does;
  posts = none_on has.actions rest.actions has.posts rest.posts;
  same = record {
    moment = rest.same.moment ∙ has.same.moment;
    word = rest.same.word ∙ has.same.word;
    event = rest.same.event ∙ has.same.event;
    entries = rest.same.entries ∙ has.same.entries;
    setup = rest.same.setup ∙ has.same.setup;
  };
  at = rest.at;
  reply = rest.reply ∙ has.reply;
  fresh = rest.fresh;
  agrees = rest.agrees;
  none = rest.none;
}

-- the point after a frame
after_received : (link : ℕ) (piece start : List ℕ) (x y : StateSeen) (o : OpenEntry) (s : Seen) → IsReceiving link start x o s → (has : HasReceived link piece y o s) → IsKnown y has.seen
    → IsReceiving link piece y has.entry has.seen
after_received link piece start x y o s is has known = record {
  at = has.at;
  whole = is.whole;
  event_is = has.same.event ∙ is.event_is;
  reply = has.reply ∙ is.reply;
  fresh = has.fresh;
  l = has.link_;
  here = has.here;
  fair = has.fair;
  few = has.few;
  part = λ slot there unbroken.
      let own : HasLink (coming link piece y) has.seen has.link_ link = has.agrees.links.each link has.link_ has.here in
      let kept : IsSlot link piece y own.slot = slot_of link piece y own.slot own.there in
      let going : IsGoing has.link_ has.seen own.slot = own.sees.going unbroken in
      let one : kept.old ≡ slot = one_some kept.old slot (numbered y.links link) kept.there there in
      let bytes : kept.old.link.link.rest ++ piece ≡ piece
      = sym (ap (λ (z : LinkSlot). z.link.link.rest) kept.is) ∙ sym going.rest ∙ has.left unbroken in
      ap reading_of (sym (ap (λ (z : LinkSlot). z.link.link.rest) one) ∙ empty_by kept.old.link.link.rest piece bytes);
  agrees = has.agrees;
  known = known;
}

few_by : (n : ℕ) → n < 7696581394432 → n < 18446744073709551615
few_by n e = omega (arith, e)

module _ (frames : FramesAreHandled) (breaks : BreaksAreHandled) (knows : KnownAlongFrames) (few : AttemptsAreFew) (link : ℕ) where
  -- the piece is at its end
  ends_by : (x : StateSeen) (o : OpenEntry) (s : Seen) → (is : IsReceiving link [] x o s) → (over : Option LinkOver) → is.l.over ≡ over → Walked x o s
  ends_by x o s is None e =
      let going : IsGoing is.l s (with_rest [] (old link [] x o s is.agrees is.at.current is.l is.here))
      = (sees_old link [] x o s is.agrees is.at.current is.l is.here).going e in
      let kept : IsSlot link [] x (is.agrees.links.each link is.l is.here).slot = kept_slot link [] x o s is.agrees is.at.current is.l is.here in
      let part : reading_of (drop (read_bytes is.l) is.l.received) ≡ Partial
      = ap reading_of (going.rest ∙ append-nil kept.old.link.link.rest) ∙ is.part kept.old kept.there e in
      stands x o s is.at is.fresh (agrees_done link [] x o s is.agrees is.at.current is.l is.here refl)
      (same_event o s link is.whole is.at is.reply is.event_is ∙ read_at s link is.l is.here
      ∙ ap (λ (q : Option LinkOver). if is_none q then read_action link (next_read is.l s) else None) e ∙ ap (λ (r : Reading). read_action link (next_read_by r is.l s)) part)
  ends_by x o s is (Some why) e =
      let over : is_some is.l.over ≡ true = ap (λ (q : Option LinkOver). is_some q) e in
      stands x o s is.at is.fresh (agrees_over link [] x o s is.agrees is.at.current is.l is.here over)
      (same_event o s link is.whole is.at is.reply is.event_is ∙ read_at s link is.l is.here ∙ none_over is.l.over (read_action link (next_read is.l s)) over)

  -- a piece that is not
  module _ (b : ℕ) (piece : List ℕ) (rec : (skip : ℕ) (x : StateSeen) (o : OpenEntry) (s : Seen) → IsReceiving link (drop skip piece) x o s → Walked (frames_after link piece skip x) o s)
      (x : StateSeen) (o : OpenEntry) (s : Seen) (is : IsReceiving link (b ∷ piece) x o s) where
    abbrev bytes : List ℕ
    bytes = b ∷ piece

    abbrev l : Link
    l = is.l

    abbrev kept : IsSlot link bytes x (is.agrees.links.each link l is.here).slot
    kept = kept_slot link bytes x o s is.agrees is.at.current l is.here

    abbrev slot : LinkSlot
    slot = kept.old

    sees : SeesLinkOf l s (with_rest bytes slot)
    sees = sees_old link bytes x o s is.agrees is.at.current l is.here

    abbrev goal : StateSeen
    goal = frames_from (frames_after link piece) link (received_in link bytes x.links) x

    few_here : length s.attempts < 18446744073709551615
    few_here = few_by (length s.attempts) (few x s is.known)

    read_now : frame_action o s ≡ (if is_none l.over then read_action link (next_read l s) else None)
    read_now = same_event o s link is.whole is.at is.reply is.event_is ∙ read_at s link l is.here

    -- the link is over
    deaf : is_some l.over ≡ true → Walked goal o s
    deaf over =
        let none : received_in link bytes x.links ≡ None = receives_nothing link bytes x slot kept.there (sym sees.over ∙ over) in
        subst (λ (q : Option Received). Walked (frames_from (frames_after link piece) link q x) o s) (sym none)
        (stands x o s is.at is.fresh (agrees_over link bytes x o s is.agrees is.at.current l is.here over) (read_now ∙ none_over l.over (read_action link (next_read l s)) over))

    -- it is not
    module _ (unbroken : l.over ≡ None) where
      going : IsGoing l s (with_rest bytes slot)
      going = sees.going unbroken

      abbrev w : Wire
      w = slot.link.link.wire

      abbrev h : Received
      h = received_by slot link bytes x.links

      receives : received_in link bytes x.links ≡ Some h
      receives = receives_now link bytes x slot kept.there (sym sees.over ∙ ap (λ (q : Option LinkOver). is_some q) unbroken) going.streams.sees.sees.reads.whole

      abbrev prefix : Option (ℕ × Report)
      prefix = prefix_of w (slot.link.link.rest ++ bytes)

      same_read : IsSameRead l s w (next_read l s) prefix
      same_read = reads_are_same l s w (slot.link.link.rest ++ bytes) going.streams.sees.sees going.rest

      next_now : (n : NextRead) → next_read l s ≡ n → next_frame_read link s ≡ read_action link n
      next_now n e =
          read_at s link l is.here ∙ ap (λ (q : Option LinkOver). if is_none q then read_action link (next_read l s) else None) unbroken ∙ ap (read_action link) e

      -- less than a frame is left
      stops : next_read l s ≡ nextread.Nothing → Walked goal o s
      stops e =
          let none : prefix ≡ None = none_there l s w prefix (subst (λ (n : NextRead). IsSameRead l s w n prefix) e same_read) in
          let few : read_bytes l ≤ 18446744073709551615 = (let a = is.fair.within in let c = is.few in omega (arith, a, c)) in
          let all : h.taken ≡ length bytes = ap (λ (f : Option (ℕ × Report)). (received_with slot.link.link bytes f).taken) none in
          let far : length piece ≤ h.taken - 1 = (let long : length bytes ≡ suc (length piece) = refl in omega (arith, all, long)) in
          subst (λ (q : Option Received). Walked (frames_from (frames_after link piece) link q x) o s) (sym receives)
          (subst (λ (z : StateSeen). Walked z o s) (sym (past link piece (h.taken - 1) (frame_received link h x) far))
          (stands (frame_received link h x) o s is.at is.fresh (agrees_part link bytes x o s is.agrees is.at.current l is.here unbroken few none)
          (same_event o s link is.whole is.at is.reply is.event_is ∙ next_now nextread.Nothing e)))

      -- a frame, or what breaks the link
      goes_on : (a : Action) → next_frame_read link s ≡ Some a → HasReceived link (drop h.taken bytes) (frame_received link h x) o s → IsShown prefix → Walked goal o s
      goes_on a next has shown =
          let more : length slot.link.link.rest < shown.shown.0 = afterwards w slot.link.link.rest bytes shown.shown (is.part slot kept.there unbroken) shown.is in
          let taken : h.taken ≡ shown.shown.0 - length slot.link.link.rest = ap (λ (f : Option (ℕ × Report)). (received_with slot.link.link bytes f).taken) shown.is in
          let some : 1 ≤ h.taken = omega (arith, more, taken) in
          let known : IsKnown (frame_received link h x) has.seen = knows link bytes x o s has.seen a h has.actions is next receives has.does has.posts has.same.entries in
          let point : IsReceiving link (drop h.taken bytes) (frame_received link h x) has.entry has.seen
          = after_received link (drop h.taken bytes) bytes x (frame_received link h x) o s is has known in
          let left : IsReceiving link (drop (h.taken - 1) piece) (frame_received link h x) has.entry has.seen
          = subst (λ (q : List ℕ). IsReceiving link q (frame_received link h x) has.entry has.seen) (drop_one h.taken b piece some) point in
          subst (λ (q : Option Received). Walked (frames_from (frames_after link piece) link q x) o s) (sym receives)
          (goes_further link (drop h.taken bytes) (frame_received link h x) (frames_after link piece (h.taken - 1) (frame_received link h x)) o s has
          (rec (h.taken - 1) (frame_received link h x) has.entry has.seen left))

      by_next : (n : NextRead) → next_read l s ≡ n → IsSameRead l s w n prefix → Walked goal o s
      by_next nextread.Nothing e same = stops e
      by_next (nextread.Frame r) e same =
          goes_on (action.FrameRead link r) (next_now (nextread.Frame r) e) (frames link bytes x o s (action.FrameRead link r) h is (next_now (nextread.Frame r) e) receives (r, refl))
          (frame_there l s w r prefix same)
      by_next (nextread.Broken code) e same =
          goes_on (action.LinkBreaks link code) (next_now (nextread.Broken code) e)
          (breaks link bytes x o s (action.LinkBreaks link code) h is (next_now (nextread.Broken code) e) receives (record { code = code; is = refl; few = few_here })) (fault_there l s w code prefix same)

      receiving : Walked goal o s
      receiving = by_next (next_read l s) refl same_read

    by_over : (over : Option LinkOver) → l.over ≡ over → Walked goal o s
    by_over None e = receiving e
    by_over (Some why) e = deaf (ap (λ (q : Option LinkOver). is_some q) e)

    step : Walked goal o s
    step = by_over l.over refl

  pub walk : (piece : List ℕ) (skip : ℕ) (x : StateSeen) (o : OpenEntry) (s : Seen) → IsReceiving link (drop skip piece) x o s → Walked (frames_after link piece skip x) o s
  walk [] skip x o s is =
      let at_end : IsReceiving link [] x o s = subst (λ (q : List ℕ). IsReceiving link q x o s) (drop_none skip) is in ends_by x o s at_end at_end.l.over refl
  walk (b ∷ piece) zero x o s is = step b piece (walk piece) x o s is
  walk (b ∷ piece) (suc skip) x o s is = walk piece skip x o s is
