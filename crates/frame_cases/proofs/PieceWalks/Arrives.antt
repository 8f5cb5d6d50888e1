-- BytesArrive: the session has the piece, and agrees with the channel as if its link kept it.
use Rattle.std.proofs.Common.{◌≡◌, ◌++◌, ◌==◌, ap, refl, subst, sym, ◌∙◌, false, List, Option, None, Some, ℕ, length, ◌≤◌}
use Rattle.std.proofs.Math.Nat.{le_refl}
use Rattle.std.proofs.lemmas.Bool.{eqb-false}
use Rattle.std.proofs.lemmas.List.{drop-append-le}
use Rattle.std.specs.Option.{option_map}
use Rattle.call_actions.proofs.Lists.{changed_here}
use Rattle.channel_actions.proofs.Answering.{event_next, replied_entry, replied_is}
use Rattle.channel_actions.proofs.Dialling.{applied_next, open_in, unshut_by}
use Rattle.channel_actions.proofs.KeptSessions.Along.{kept_stays}
use Rattle.channel_actions.proofs.Links.Frames.Readers.{readers_still}
use Rattle.channel_actions.proofs.Links.Frames.Streams.{streams_still}
use Rattle.channel_actions.proofs.Links.Frames.Differences.{all_go, selves_alike}
use Rattle.channel_actions.proofs.Links.Frames.NoDifference.{actions_make_no_difference}
use Rattle.channel_actions.proofs.Lines.{all_at_places}
use Rattle.channel_actions.proofs.Refusing.{link_same}
use Rattle.channel_actions.proofs.Settles.{is_with_open}
use Rattle.channel_actions.proofs.Stamps.{counted_at}
use Rattle.channel_actions.specs.Agrees.{Agrees}
use Rattle.channel_actions.specs.Quiescent.{IsAt}
use Rattle.channel_actions.specs.Columns.{links_noted}
use Rattle.channel_actions.specs.KeptSessions.Kept.{IsKept}
use Rattle.channel_actions.specs.LinkFrames.Alike.{SeesNoDifference, Numbers}
use Rattle.channel_actions.specs.Links.{HasLink, IsGoing, lines_in}
use Rattle.attempt_cases.proofs.DrainEvents.Rooms.{length_changed, one_some}
use Rattle.channel_core.proofs.BookLaws.{number_changed, number_other}
use Rattle.channel_core.proofs.Resting.{changed_length}
use Rattle.channel_core.specs.Applying as channel
use Rattle.channel_core.specs.States.{StateSeen}
use Rattle.channel_core.specs.declared.state.links.LinkSlot.{LinkSlot}
use Rattle.frame_cases.proofs.PassedBytes.Agreeing.{passed_bytes_keep}
use Rattle.frame_cases.proofs.PassedBytes.Noted.{noted_unread}
use Rattle.frame_cases.proofs.PassedBytes.Same.{came_through, drained_through, response_through}
use Rattle.frame_cases.specs.PassedBytes.Laws.{IsPassed}
use Rattle.frame_cases.specs.PieceWalks.Points.{coming, with_rest}
use Rattle.grpc_base.specs.declared.event.Event.{Event}
use Rattle.grpc_base.specs.declared.event.Event.TheVariants as event
use Rattle.grpc_base.specs.declared.event.Reply.TheVariants as reply
use Rattle.session_actions.specs.Actions.{after, after_if, after_in, following}
use Rattle.session_actions.specs.CallEnds.{next_deadline}
use Rattle.session_actions.specs.Deliveries.{response_items}
use Rattle.session_actions.specs.Entries.{replied}
use Rattle.session_actions.specs.Events.{event_action}
use Rattle.session_actions.specs.Links.{read_bytes, with_link}
use Rattle.session_actions.specs.Refusals.{link_refusal, refusal_of}
use Rattle.session_actions.specs.Words.{changed, numbered}
use Rattle.session_actions.specs.Writing.{accepted_bytes, with_piece}
use Rattle.session_actions.specs.declared.action.Action.TheVariants as action
use Rattle.session_actions.specs.declared.entry.OpenEntry.{OpenEntry}
use Rattle.session_actions.specs.declared.entry.Stage.TheVariants as stage
use Rattle.session_actions.specs.declared.link.Link.{Link}
use Rattle.session_actions.specs.declared.seen.Seen.{Seen}
use Rattle.session_order.proofs.Quiescence.{quiescence_is_exact}
use Rattle.session_order.proofs.Wires.{arrived_leaves}
use Rattle.session_order.specs.Quiescent as order

module _ (x : StateSeen) (o : OpenEntry) (s : Seen) (h : Agrees x s) (at : IsAt stage.Event o s) (timely : next_deadline s ≡ None) (link : ℕ) (piece : List ℕ)
    (is : o.event ≡ event.Arrived link piece) (kept : channel.refusal_of o.event x ≡ None) (l : Link) (here : numbered s.links link ≡ Some l)
    (within : read_bytes l ≤ length l.received) where
  abbrev pub p : OpenEntry
  p = replied_entry reply.Done o

  abbrev f : Link → Link
  f = with_piece (event.Arrived link piece)

  abbrev pub t : Seen
  t = record s { links = changed f link s.links; current = Some p }

  abbrev y : StateSeen
  y = coming link piece x

  both : (x.shut ≡ false) × (channel.link_refusal link x ≡ None)
  both = unshut_by x.shut (channel.link_refusal link x) (subst (λ (e : Event). channel.refusal_of e x ≡ None) is kept)

  not_refused : refusal_of (event.Arrived link piece) s ≡ None
  not_refused = open_in s (link_refusal s (numbered s.links link) None) (h.configs.shut ∙ both.0) ∙ sym (link_same x s h link) ∙ both.1

  gives : event_action o.event s ≡ Some (action.BytesArrive link)
  gives = ap (λ (e : Event). event_action e s) is ∙ applied_next (event.Arrived link piece) s (Some (action.BytesArrive link)) not_refused refl

  pub next : following s ≡ Some (action.BytesArrive link)
  next = event_next o s at timely (action.BytesArrive link) gives

  in_is : after_in o (action.BytesArrive link) s ≡ t
  in_is =
      ap (λ (e : Event). replied reply.Done (with_link (with_piece e) link s)) is
      ∙ replied_is reply.Done o (record s { links = changed f link s.links }) at.current

  pub after_is : after (action.BytesArrive link) s ≡ t
  after_is = ap (λ (c : Option OpenEntry). after_if c (action.BytesArrive link) s) at.current ∙ in_is

  -- nothing follows from it
  quiescent_so : order.IsQuiescent o s
  quiescent_so = (quiescence_is_exact o s).0 (at.quiescent.calls, at.quiescent.links, at.quiescent.policies)

  quiescent_now : order.IsQuiescent p t
  quiescent_now l =
      subst (order.IsStill l p) in_is
      (arrived_leaves link o s at.current (piece, is) l p (ap (λ (z : Seen). z.current) in_is) refl (quiescent_so l))

  pub at_now : IsAt stage.Replied p t
  at_now =
      let three = (quiescence_is_exact p t).1 quiescent_now in
      record { current = refl; stage_is = refl; quiescent = record { calls = three.0; links = three.1; policies = three.2 } }

  -- the link
  own : l.number ≡ link
  own = counted_at (λ (k : Link). k.number) s.links link l h.kept.links here

  here_own : numbered s.links l.number ≡ Some l
  here_own = ap (numbered s.links) own ∙ here

  pub there : numbered t.links link ≡ Some (f l)
  there = changed_here f link s.links l here

  there_own : numbered t.links l.number ≡ Some (f l)
  there_own = ap (numbered t.links) own ∙ there

  kept_t : IsKept t
  kept_t = subst IsKept after_is (kept_stays s (action.BytesArrive link) h.kept next)

  abbrev none : Numbers
  none k = false

  has : HasLink x s l link
  has = h.links.each link l here

  abbrev slot : LinkSlot
  slot = with_rest piece has.slot

  going_now : IsGoing l s has.slot → IsGoing (f l) t slot
  going_now g = record {
    streams = streams_still l (f l) s t none refl h.kept.owned (all_at_places t.attempts kept_t.attempts)
        (selves_alike none s t s.attempts (all_go none s t (λ a k apart on c e. record { call = c; is = e; limit = refl; more = le_refl (accepted_bytes c) }) s.attempts))
        has.slot.link.link.wire (lines_in l s) (record { number = refl; traffic_ = refl; owed = refl }) g.streams there_own g.streams.sees.places;
    readers = readers_still none l (f l) s t refl refl here_own there_own refl has.slot.link.readers h.kept.owned
        (selves_alike none s t s.attempts (all_go none s t (λ a k apart on c e. record { call = c; is = e; limit = refl; more = le_refl (accepted_bytes c) }) s.attempts)) g.readers;
    rest = drop-append-le (read_bytes l) l.received piece within ∙ ap (λ (bytes : List ℕ). bytes ++ piece) g.rest;
    closed = g.closed;
  }

  has_now : HasLink y t (f l) link
  has_now = record {
    slot = slot;
    there = number_changed (with_rest piece) x.links link ∙ ap (option_map (with_rest piece)) has.there;
    sees = record { over = has.sees.over; retiring = has.sees.retiring; going = λ goes. going_now (has.sees.going goes) };
  }

  noted_now : links_noted t ≡ x.book.ledger.links
  noted_now =
      noted_unread o p s f link l here (record { number = refl; sub = refl; up = refl; gone = refl; over = refl; retiring = refl; read = refl })
      ∙ ap links_noted (sym (is_with_open o s at.current)) ∙ h.columns.links

  passed : IsPassed link x y o p s t
  passed = record {
    state = ap (λ (rs : List ℕ). record x { links = y.links; resets = rs }) h.sets.resets;
    current = at.current;
    seen = refl;
    moment = refl;
    word = refl;
    drawn = refl;
    kept = kept_t;
    cannot = subst (SeesNoDifference (λ (k : ℕ). link == k) s) after_is (actions_make_no_difference (action.BytesArrive link) s h.kept tt);
    slots = λ k e. number_other (with_rest piece) x.links link k (λ same. eqb-false link k e (sym same));
    count = length_changed f link s.links ∙ h.links.count ∙ sym (changed_length (with_rest piece) x.links link);
    came_same = came_through s f link (Some p) (λ a. ap response_items (response_through s f link (Some p) (λ k. refl) a));
    drained_same = drained_through s f link (Some p) (λ stream k. refl);
    noted = noted_now;
    own = λ m got. subst (λ (k : Link). HasLink y t k link) (one_some (f l) m (numbered t.links link) there got) has_now;
  }

  pub agrees_now : Agrees y t
  agrees_now = passed_bytes_keep link x y o p s t h passed
