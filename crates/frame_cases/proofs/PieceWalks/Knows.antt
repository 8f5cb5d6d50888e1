-- What is known stays known along a frame, and after BytesArrive.
use Rattle.std.proofs.Common.{◌≡◌, ◌++◌, [], ap, refl, sym, ◌∙◌, Bool, true, false, List, Option, None, Some, ℕ, if◌then◌else◌, is_none, is_some, length, nat_lt, take}
use Rattle.channel_actions.proofs.Calls.Few.Reached.{reached_on}
use Rattle.channel_actions.proofs.Links.Prefaced.Along.{prefaced_along}
use Rattle.channel_actions.proofs.Calls.Kept.Along.{early_along}
use Rattle.channel_actions.proofs.KeptSessions.Along.{kept_along}
use Rattle.channel_actions.proofs.Links.Own.Owned.{own_along}
use Rattle.channel_actions.proofs.Streams.Own.Along.{streams_along}
use Rattle.channel_actions.proofs.Posted.{none_posted, posted_after}
use Rattle.channel_actions.proofs.Links.Theirs.Kept.{theirs_along}
use Rattle.channel_actions.specs.GoingCalls.Going.{CallsGoOn}
use Rattle.channel_actions.specs.GoingCalls.Laws.{AnswersGoOn}
use Rattle.channel_actions.specs.KeptSessions.Kept.{IsKept}
use Rattle.channel_actions.specs.Known.{IsKnown}
use Rattle.channel_actions.specs.Links.{IsGoing, SeesLinkOf}
use Rattle.channel_actions.specs.SoundBuffers.Held.{BuffersAreSound}
use Rattle.channel_actions.specs.SoundBuffers.Laws.{AnswersHoldSoundly}
use Rattle.channel_actions.specs.SoundCalls.Laws.{AnswersKeepCalls}
use Rattle.channel_actions.specs.SoundCalls.Sound.{CallsAreSound}
use Rattle.channel_core.specs.Arrivals.{frame_received, piece_arrived}
use Rattle.channel_core.specs.States.{StateSeen}
use Rattle.channel_core.specs.Tables.{Received, received_by, received_in}
use Rattle.channel_core.specs.declared.state.links.LinkSlot.{LinkSlot}
use Rattle.frame_cases.proofs.PieceWalks.Cuts as cuts
use Rattle.frame_cases.proofs.PieceWalks.Slots.{IsSlot, receives_now}
use Rattle.frame_cases.proofs.PieceWalks.Stops.{kept_slot, sees_old}
use Rattle.frame_cases.proofs.PieceWalks.Walk.{IsShown, fault_there, frame_there, read_at}
use Rattle.frame_cases.specs.PieceWalks.Laws.{KnownAlongFrames}
use Rattle.frame_cases.specs.PieceWalks.Points.{IsReceiving, with_rest}
use Rattle.grpc_base.specs.declared.event.Event.TheVariants as event
use Rattle.grpc_base.specs.declared.event.Reply.TheVariants as reply
use Rattle.h2_link.specs.Received.{prefix_of}
use Rattle.h2_link.specs.Wire.{Report, Wire}
use Rattle.attempt_cases.proofs.DrainEvents.Rooms.{one_some}
use Rattle.link_actions.proofs.Reading.{reads_are_same}
use Rattle.link_actions.specs.Laws.{IsSameRead}
use Rattle.session_actions.specs.Laws.{posted_in}
use Rattle.session_actions.specs.Reading.{next_read}
use Rattle.session_actions.specs.Sessions.{Does}
use Rattle.session_actions.specs.Writing.{next_frame_read, read_action}
use Rattle.session_actions.specs.declared.action.Action.{Action}
use Rattle.session_actions.specs.declared.entry.OpenEntry.{OpenEntry}
use Rattle.session_actions.specs.declared.link.Link.{Link}
use Rattle.session_actions.specs.declared.link.LinkOver.{LinkOver}
use Rattle.session_actions.specs.declared.link.NextRead.{NextRead}
use Rattle.session_actions.specs.declared.link.NextRead.TheVariants as nextread
use Rattle.session_actions.specs.declared.seen.Seen.{Seen}

-- of the session, along its actions, where the channel keeps what is known of it
pub known_with : (x y : StateSeen) (s t : Seen) (actions : List Action) → IsKept s → IsKnown x s → Does actions s t → posted_in actions ≡ [] → t.entries ≡ s.entries → (CallsGoOn x → CallsGoOn y)
    → (CallsAreSound x → CallsAreSound y) → (CallsGoOn x → BuffersAreSound x → BuffersAreSound y) → IsKnown y t
known_with x y s t actions kept known does posts entries going_on calls_on held_on = record {
  going = going_on known.going;
  calls = calls_on known.calls;
  buffers = held_on known.going known.buffers;
  early = early_along actions s t kept known.early does;
  own = own_along kept_along actions s t kept known.own does;
  theirs = theirs_along actions s t kept known.early known.prefaced known.theirs does;
  prefaced = prefaced_along actions s t kept known.prefaced does;
  streams = streams_along actions s t kept known.prefaced known.streams does;
  reached = reached_on s t actions known.reached does;
  few = ap (λ (es : _). nat_lt (length es) 1048576) entries ∙ known.few;
  posted = posted_after known.reached.actions actions known.posted (none_posted actions posts);
  first = known.first;
}

none_by : (b : Bool) (link : ℕ) (n : NextRead) (a : Action) → (if b then read_action link n else None) ≡ Some a → (b ≡ true) × (n ≡ nextread.Nothing → ⊥)
none_by true link n a e = (refl, λ nothing. (let bad : None ≡ Some a = sym (ap (read_action link) nothing) ∙ e in (cc)))
none_by false link n a e = absurd (let no : ⊥ = (cc) in no)

not_over : (o : Option LinkOver) → is_none o ≡ true → o ≡ None
not_over None e = refl
not_over (Some why) e = absurd (cc)

shown_by : (l : Link) (s : Seen) (w : Wire) (n : NextRead) (f : Option (ℕ × Report)) → (n ≡ nextread.Nothing → ⊥) → IsSameRead l s w n f → IsShown f
shown_by l s w nextread.Nothing f some same = absurd (some refl)
shown_by l s w (nextread.Frame r) f some same = frame_there l s w r f same
shown_by l s w (nextread.Broken code) f some same = fault_there l s w code f same

-- a frame of a piece is a piece by itself, as far as the channel receives
module _ (link : ℕ) (piece : List ℕ) (x : StateSeen) (o : OpenEntry) (s : Seen) (a : Action) (h : Received) (is : IsReceiving link piece x o s) (next : next_frame_read link s ≡ Some a)
    (receives : received_in link piece x.links ≡ Some h) where
  abbrev pub l : Link
  l = is.l

  abbrev pub kept : IsSlot link piece x (is.agrees.links.each link l is.here).slot
  kept = kept_slot link piece x o s is.agrees is.at.current l is.here

  abbrev pub slot : LinkSlot
  slot = kept.old

  sees : SeesLinkOf l s (with_rest piece slot)
  sees = sees_old link piece x o s is.agrees is.at.current l is.here

  both : (is_none l.over ≡ true) × (next_read l s ≡ nextread.Nothing → ⊥)
  both = none_by (is_none l.over) link (next_read l s) a (sym (read_at s link l is.here) ∙ next)

  unbroken : l.over ≡ None
  unbroken = not_over l.over both.0

  going_now : IsGoing l s (with_rest piece slot)
  going_now = sees.going unbroken

  receiving : (q : List ℕ) → received_in link q x.links ≡ Some (received_by slot link q x.links)
  receiving q = receives_now link q x slot kept.there (sym sees.over ∙ ap (λ (z : Option LinkOver). is_some z) unbroken) going_now.streams.sees.sees.reads.whole

  shown : IsShown (prefix_of slot.link.link.wire (slot.link.link.rest ++ piece))
  shown =
      shown_by l s slot.link.link.wire (next_read l s) (prefix_of slot.link.link.wire (slot.link.link.rest ++ piece)) both.1
      (reads_are_same l s slot.link.link.wire (slot.link.link.rest ++ piece) going_now.streams.sees.sees going_now.rest)

  h_is : h ≡ received_by slot link piece x.links
  h_is = one_some h (received_by slot link piece x.links) (received_in link piece x.links) receives (receiving piece)

  pub frame_piece : piece_arrived link (take (received_by slot link piece x.links).taken piece) x ≡ frame_received link h x
  frame_piece =
      cuts.is_piece link piece x slot kept.there (receiving piece) receiving (is.part slot kept.there unbroken) shown.shown shown.is ∙ ap (λ (q : Received). frame_received link q x) (sym h_is)

  pub goes_on_received : AnswersGoOn → CallsGoOn x → CallsGoOn (frame_received link h x)
  goes_on_received answers goes =
      answers None (event.Arrived link (take (received_by slot link piece x.links).taken piece)) x (frame_received link h x) reply.Done (sym frame_piece, refl) goes

  pub calls_received : AnswersKeepCalls → CallsAreSound x → CallsAreSound (frame_received link h x)
  calls_received answers sound =
      answers None (event.Arrived link (take (received_by slot link piece x.links).taken piece)) x (frame_received link h x) reply.Done (sym frame_piece, refl) sound

  pub buffers_received : AnswersHoldSoundly → CallsGoOn x → BuffersAreSound x → BuffersAreSound (frame_received link h x)
  buffers_received answers goes held =
      answers None (event.Arrived link (take (received_by slot link piece x.links).taken piece)) x (frame_received link h x) reply.Done (sym frame_piece, refl) goes held

pub known_along_frames : AnswersGoOn → AnswersKeepCalls → AnswersHoldSoundly → KnownAlongFrames
known_along_frames goes keeps holds link piece x o s t a h actions is next receives does posts entries =
    known_with x (frame_received link h x) s t actions is.agrees.kept is.known does posts entries (goes_on_received link piece x o s a h is next receives goes)
    (calls_received link piece x o s a h is next receives keeps) (buffers_received link piece x o s a h is next receives holds)
