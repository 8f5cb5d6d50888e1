-- An attempt that asked for a pick is placed: channel and session agree after it, and no end is final that was not.
use Rattle.std.proofs.Common.{◌≡◌, ◌≤◌, ◌==◌, ◌&&◌, ◌||◌, ◌∙◌, not, ap, arith, eq-eqb, eqb-true, refl, subst, sym, Bool, true, false, List, Option, None, Some, ℕ, suc, is_none, is_some, length, option_map, slice_get}
use Rattle.std.proofs.lemmas.Bool.{and_parts}
use Rattle.std.proofs.lemmas.Bool.Decides.{nat_tests}
use Rattle.std.specs.Option.{option_map_or}
use Rattle.std.specs.Prelude.{nat_lt}
use Rattle.attempt_buffer.specs.Buffers.{Committed, text_of}
use Rattle.attempt_ledger.specs.declared.ledger.CallEnd.{CallEnd}
use Rattle.attempt_ledger.specs.declared.row.Placed.{Placed}
use Rattle.call_actions.specs.TakeActions.Serves.{drained_so_far}
use Rattle.channel_actions.proofs.ActionsFit.Held.{linked_open}
use Rattle.channel_actions.proofs.Gone.{all_numbered}
use Rattle.channel_actions.proofs.Links.Prefaced.Along.{prefaced_begins}
use Rattle.channel_actions.proofs.HeldTexts.Fits.{unwritten_texts_are_whole}
use Rattle.channel_actions.proofs.Calls.Kept.Along.{early_along, early_begins}
use Rattle.channel_actions.proofs.KeptSessions.Along.{kept_along, kept_begins}
use Rattle.channel_actions.proofs.Links.Own.Owned.{own_along, own_begins}
use Rattle.channel_actions.proofs.Streams.Own.Along.{streams_along, streams_begin}
use Rattle.channel_actions.proofs.SoundBuffers.Carried.{each_holds_soundly}
use Rattle.channel_actions.proofs.Stamps.{counted_at}
use Rattle.channel_actions.specs.Agrees.{Agrees}
use Rattle.channel_actions.specs.Calls.{HasSlot}
use Rattle.channel_actions.specs.FewCalls.Reached.{IsReached}
use Rattle.channel_actions.specs.HeldTexts.Fits.{TextsFit}
use Rattle.channel_actions.specs.KeptCalls.Early.{IsEarlyKept, is_linked_up, is_past}
use Rattle.channel_actions.specs.OwnLinks.Own.{LinksAreOwn}
use Rattle.channel_actions.specs.OwnStreams.Own.{StreamsAreOwn, is_below_next, is_opened}
use Rattle.channel_actions.specs.SoundBuffers.Held.{BuffersAreSound, HoldsSoundly}
use Rattle.attempt_cases.proofs.MakingSteps.Quiescent.{two_off}
use Rattle.attempt_cases.proofs.ServeSteps.Lasts.{none_of, not_true, unsome}
use Rattle.attempt_cases.proofs.ServeSteps.OutAgrees.{agrees_now, final_now}
use Rattle.attempt_cases.proofs.ServeSteps.OutBase as base
use Rattle.attempt_cases.proofs.ServeSteps.OutBase.{OutLaws, OutNext}
use Rattle.attempt_cases.proofs.ServeSteps.OutThis.{is_this}
use Rattle.attempt_cases.specs.ServeSteps.Follows.{GoesOut, IsAsked, IsHeldWhole, PlaceNext, PlacedOnesAgree}
use Rattle.channel_core.specs.Books.{limit_at, slot_at}
use Rattle.channel_core.specs.Settling.{offered, place_at, placed, settled_in}
use Rattle.channel_core.specs.States.{StateSeen}
use Rattle.channel_core.specs.Steps.{Moved}
use Rattle.grpc_frame.specs.Messages.{framed_all}
use Rattle.lb_policy.specs.Table.{is_ready}
use Rattle.session_actions.specs.Attempts.{call_of, commitment, is_of, is_over, is_over_in, is_queued}
use Rattle.session_actions.specs.Commitments.{is_free_call}
use Rattle.session_actions.specs.Links.{link_of}
use Rattle.session_actions.specs.Policies.{attempt_placed, is_shutdown}
use Rattle.session_actions.specs.Reading.{used}
use Rattle.session_actions.specs.Refusals.{is_shutdown_sub}
use Rattle.session_actions.specs.Sessions.{new_session}
use Rattle.session_actions.specs.Subchannels.{is_connecting}
use Rattle.session_actions.specs.Words.{holds, numbered}
use Rattle.session_actions.specs.Writing.{accepted_bytes, drained}
use Rattle.session_actions.specs.declared.attempt.Attempt.{Attempt}
use Rattle.session_actions.specs.declared.call.Call.{Call}
use Rattle.session_actions.specs.declared.entry.OpenEntry.{OpenEntry}
use Rattle.session_actions.specs.declared.policy.PolicyUse.{PolicyUse}
use Rattle.session_actions.specs.declared.seen.Seen.{Seen}
use Rattle.session_actions.specs.declared.subchannel.Subchannel.{Subchannel}
use Rattle.session_order.specs.Quiescent.{IsStill}
use Rattle.session_order.specs.Stirs.{IsPlaceable}
use Rattle.session_order.specs.declared.line.Line.TheVariants as line

found : {X : Type 0} (o : Option X) → is_some o ≡ true → (x : X) × (o ≡ Some x)
found None e = absurd (let bad : false ≡ true = e in (cc))
found (Some x) e = (x, refl)

or_second : (a b : Bool) → a ≡ false → (a || b) ≡ true → b ≡ true
or_second true b e f = absurd (let bad : true ≡ false = e in (cc))
or_second false b e f = f

no_first : (a b : Bool) → ((a && false) && b) ≡ false
no_first true b = refl
no_first false b = refl

not_above : (n : ℕ) → n ≤ 262144 → nat_lt 262144 n ≡ false
not_above n e = grind (arith, nat_tests)

room_by : (b : Bool) (n : ℕ) → n ≤ 262144 → (b && nat_lt 262144 n) ≡ false
room_by true n e = not_above n e
room_by false n e = refl

-- an attempt on no link has no stream
streamless_by : (s : Seen) (placed : Option Placed) (stream : Option ℕ) → placed ≡ None
    → option_map_or (λ (n : ℕ). holds (λ (at : Placed). is_below_next s.links n at.link) placed) stream true ≡ true → stream ≡ None
streamless_by s placed None off e = refl
streamless_by s None (Some n) off e = absurd (let bad : false ≡ true = e in (cc))
streamless_by s (Some at) (Some n) off e = absurd (let bad : Some at ≡ None = off in (cc))

module _ (p : ℕ × ℕ) (g : PolicyUse) (sub : ℕ) (a : Attempt) (x : StateSeen) (o : OpenEntry) (s : Seen) (h : Agrees x s) (reached : IsReached s) (sound : BuffersAreSound x) (texts : TextsFit x s) (asked : IsAsked p o s)
    (there : numbered s.attempts p.1 ≡ Some a) (call : a.row.call ≡ p.0) (queued : is_queued a s ≡ true) (k : PlaceNext p g sub x s) where
  abbrev at : Placed
  at = place_at g.number sub k.link x

  -- what the session keeps
  early : IsEarlyKept s
  early = early_along reached.actions (new_session reached.setup) s (kept_begins reached.setup) (early_begins reached.setup) reached.does

  own_links : LinksAreOwn s
  own_links = own_along kept_along reached.actions (new_session reached.setup) s (kept_begins reached.setup) (own_begins reached.setup) reached.does

  streams : StreamsAreOwn s
  streams =
      streams_along reached.actions (new_session reached.setup) s (kept_begins reached.setup) (prefaced_begins reached.setup) (streams_begin reached.setup) reached.does

  -- its call
  pub its_call : (c : Call) × (numbered s.calls a.row.call ≡ Some c)
  its_call = found (call_of a s) (all_numbered (λ (z : Attempt). is_some (call_of z s)) s.attempts p.1 a there h.kept.owned)

  abbrev c : Call
  c = its_call.0

  at_call : numbered s.calls p.0 ≡ Some c
  at_call = ap (numbered s.calls) (sym call) ∙ its_call.1

  number_is : c.number ≡ p.0
  number_is = counted_at (λ (d : Call). d.number) s.calls p.0 c h.kept.calls at_call

  pub has : HasSlot x s c p.0
  has = h.calls.each p.0 c at_call

  own : is_of c a ≡ true
  own = eq-eqb a.row.call c.number (call ∙ sym number_is)

  parts : ((is_none a.row.placed && is_none a.row.ended) ≡ true) × (not (is_over a s) ≡ true)
  parts = and_parts (is_none a.row.placed && is_none a.row.ended) (not (is_over a s)) queued

  unplaced : a.row.placed ≡ None
  unplaced = none_of a.row.placed (and_parts (is_none a.row.placed) (is_none a.row.ended) parts.0).0

  streamless : a.row.stream ≡ None
  streamless = streamless_by s a.row.placed a.row.stream unplaced (all_numbered (is_opened s.links) s.attempts p.1 a there streams.opened)

  is_open : c.end ≡ None
  is_open =
      unsome c.end
      (two_off (is_some c.end) (holds (λ (z : Attempt). not (z.row.number == a.row.number)) (commitment c s))
      (sym (ap (holds (λ (d : Call). is_over_in d a s)) its_call.1) ∙ not_true (is_over a s) parts.1)).0

  configured : is_some c.config ≡ true
  configured =
      or_second (is_some c.end) (is_some c.config) (ap (λ (q : Option CallEnd). is_some q) is_open)
      (sym (ap (holds is_past) its_call.1) ∙ all_numbered (λ (z : Attempt). holds is_past (call_of z s)) s.attempts p.1 a there early.made)

  -- its link is of a subchannel that is not shut down
  alive : is_shutdown_sub s k.on.sub ≡ false
  alive =
      ap (is_shutdown_sub s) (own_links sub k.link k.picked k.on k.is_picked k.linked k.there)
      ∙ ap (holds (λ (b : Subchannel). is_shutdown b.state)) k.is_picked
      ∙ linked_open k.picked.state
      (sym (ap (λ (q : Option ℕ). is_none q || is_connecting k.picked.state || is_ready k.picked.state) k.linked)
      ∙ all_numbered is_linked_up s.subs sub k.picked k.is_picked early.boards)

  -- what its call holds
  own_held : HoldsSoundly has.slot.call
  own_held = each_holds_soundly x p.0 has.slot sound has.there

  row_of : (m : Committed) → has.slot.call.buffer.committed ≡ Some m → m.is_open ≡ true → option_map (λ (z : Attempt). z.place) (commitment c s) ≡ Some m.row
  row_of m is goes = has.sees.serves.sees.attempts.committed ∙ own_held.row m is goes

  -- the attempt to which it is committed is this one, of which nothing was written
  unwritten_by : (q : Option Attempt) → commitment c s ≡ q → drained_so_far c s ≡ 0
  unwritten_by None e = ap (λ (o : Option Attempt). option_map_or (λ (z : Attempt). drained z s) o 0) e
  unwritten_by (Some z) e =
      let this : z ≡ a
      = is_this s c p.1 a (ap (numbered s.calls) number_is ∙ at_call) there own queued has.sees.order.places has.sees.turn.unfollowed (asked.quiescent line.Inherited refl) z e in
      ap (λ (o : Option Attempt). option_map_or (λ (v : Attempt). drained v s) o 0) (e ∙ ap (λ (v : Attempt). Some v) this)
      ∙ ap (λ (o : Option ℕ). option_map_or (λ (stream : ℕ). option_map_or (used stream) (link_of a s) 0) o 0) streamless

  all_held : (has.slot.call.buffer.is_whole ≡ true) × (text_of has.slot.call.buffer ≡ framed_all c.messages)
  all_held = unwritten_texts_are_whole x s p.0 c has.slot h texts at_call has.there is_open (unwritten_by (commitment c s) refl)

  -- a call that is not committed holds no more than is kept for attempts to come
  roomy_by : (q : Option Attempt) → commitment c s ≡ q → (is_free_call s c && nat_lt 262144 (accepted_bytes c)) ≡ false
  roomy_by None e =
      let uncommitted : has.slot.call.attempts.committed ≡ None = sym has.sees.serves.sees.attempts.committed ∙ ap (option_map (λ (z : Attempt). z.place)) e in
      room_by (is_free_call s c) (accepted_bytes c) (subst (λ (l : List ℕ). length l ≤ 262144) all_held.1 (own_held.room uncommitted))
  roomy_by (Some z) e = ap (λ (o : Option Attempt). (is_none c.end && is_none o) && nat_lt 262144 (accepted_bytes c)) e ∙ no_first (is_none c.end) (nat_lt 262144 (accepted_bytes c))

  held_now : IsHeldWhole s c has.slot.call.buffer
  held_now = record { whole = all_held.0; text = all_held.1; room = roomy_by (commitment c s) refl; row = row_of; alone = own_held.alone }

  -- so it goes out
  module _ (laws : OutLaws) where
    here : numbered s.calls c.number ≡ Some c
    here = ap (numbered s.calls) number_is ∙ at_call

    abbrev goes : OutNext x s
    goes = record {
      agrees = h;
      entry = o;
      current = asked.current;
      call = c;
      there = here;
      slot = has.slot;
      slot_there = ap (slot_at x.book) number_is ∙ has.there;
      sees = has.sees;
      configured = configured;
      held = held_now;
      row = p.1;
      attempt = a;
      here = there;
      own = own;
      queued = queued;
      streamless = streamless;
      at = at;
      moment = sym h.clock.moment;
      link = k.on;
      link_there = k.there;
      up = k.up;
      alive = alive;
      quiescent = asked.quiescent line.Transparent refl;
      uninherited = asked.quiescent line.Inherited refl;
      next = k.next;
    }

    abbrev z : StateSeen
    z = base.y x s goes

    is_z : settled_in p.0 p.1 at (offered at.link p.1 (limit_at (slot_at x.book p.0)) x) ≡ z
    is_z = ap (λ (n : ℕ). settled_in n p.1 at (offered at.link p.1 (limit_at (slot_at x.book n)) x)) (sym number_is) ∙ base.channel_is x s goes k.takes

    room_at : (i : ℕ) (d : Call) → slice_get s.calls i ≡ Some d → is_of d a ≡ true → (is_free_call s d && nat_lt 262144 (accepted_bytes d)) ≡ false
    room_at i d got mine =
        let number : d.number ≡ suc i = counted_at (λ (e : Call). e.number) s.calls (suc i) d h.kept.calls got in
        let same : suc i ≡ c.number = sym number ∙ sym (eqb-true a.row.call d.number mine) ∙ eqb-true a.row.call c.number own in
        let one : Some d ≡ Some c = sym got ∙ ap (numbered s.calls) same ∙ here in
        let it : d ≡ c = (cc) in subst (λ (e : Call). (is_free_call s e && nat_lt 262144 (accepted_bytes e)) ≡ false) (sym it) held_now.room

    fits : IsPlaceable p.1 at s
    fits = record {
      attempt = a;
      here = there;
      stream = streamless;
      ended = base.unended x s goes;
      queued = not_true (is_over a s) parts.1;
      link = k.on;
      there = k.there;
      up = k.up;
      room = room_at;
    }

    pub goes_out : GoesOut p (place_at g.number sub k.link x) (placed p.0 p.1 g.number sub x).state o s
    goes_out = record {
      fits = fits;
      agrees =
          subst (λ (v : StateSeen). Agrees v (attempt_placed p.1 at s)) (sym (ap (λ (m : Moved). m.state) k.channel ∙ is_z))
          (subst (λ (v : Seen). Agrees z v) (sym (base.placed_is x s goes)) (agrees_now laws x s goes));
      final = subst (λ (v : Seen). IsStill line.Final o v) (sym (base.placed_is x s goes)) (final_now laws x s goes (asked.quiescent line.Final refl));
    }

pub placed_ones_agree : OutLaws → PlacedOnesAgree
placed_ones_agree laws p g sub a x o s h reached sound texts asked there call queued k = goes_out p g sub a x o s h reached sound texts asked there call queued k laws
