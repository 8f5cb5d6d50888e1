-- A link is lost: it is over, its subchannel goes down, and the first attempt on it is next to end. Nothing else follows at once then, and the responses of other links
-- go on.
use Rattle.channel_actions.proofs.Answering.{event_next, replied_entry}
use Rattle.channel_actions.proofs.BoardActions.Quiescent.{to_order}
use Rattle.channel_actions.proofs.Dialling.{applied_next, open_in, unshut_by}
use Rattle.channel_actions.proofs.KeptSessions.Along.{kept_stays}
use Rattle.channel_actions.proofs.Links.Prefaced.Along.{prefaced_along}
use Rattle.channel_actions.proofs.Streams.Own.Along.{streams_along}
use Rattle.channel_actions.proofs.Refusing.{link_same}
use Rattle.channel_actions.proofs.Stamps.{counted_at}
use Rattle.channel_actions.specs.Agrees.{Agrees}
use Rattle.channel_actions.specs.Quiescent.{IsAt}
use Rattle.call_cases.specs.EndsFollow.Cuts.{NoStreamIsToReset}
use Rattle.channel_actions.specs.GoingCalls.Going.{CallsGoOn}
use Rattle.channel_actions.specs.KeptCalls.Early.{IsEarlyKept}
use Rattle.channel_actions.specs.KeptSessions.Kept.{IsKept}
use Rattle.channel_actions.specs.Links.{HasLink, IsGoing, lines_in}
use Rattle.channel_actions.specs.PrefacedLinks.Prefaced.{LinksArePrefaced}
use Rattle.channel_actions.specs.OwnStreams.Own.{StreamsAreOwn}
use Rattle.channel_actions.specs.OwnLinks.Own.{LinksAreOwn}
use Rattle.event_cases.proofs.LostLinks.Over.{GoesOver}
use Rattle.event_cases.proofs.LostLinks.OverAgrees as agreeing
use Rattle.event_cases.proofs.LostLinks.OverAgrees.{same_slots}
use Rattle.event_cases.proofs.LostLinks.OverStarts as starts
use Rattle.event_cases.proofs.LostLinks.Stirred.{unstirred}
use Rattle.end_cases.specs.AttemptEnds.Ends.{AreHeld}
use Rattle.end_cases.specs.AttemptEnds.Runs.{RunsRise}
use Rattle.event_cases.specs.LostLinks.Losses.{LossGoesOn}
use Rattle.channel_core.specs.Applying as channel
use Rattle.channel_core.specs.States.{StateSeen}
use Rattle.channel_core.specs.Steps.{marked_dead, stamped_gone}
use Rattle.grpc_base.specs.declared.event.Event.TheVariants as event
use Rattle.grpc_base.specs.declared.event.Event.{Event}
use Rattle.grpc_base.specs.declared.event.Refusal.TheVariants as refusal
use Rattle.grpc_base.specs.declared.event.Reply.TheVariants as reply
use Rattle.link_actions.proofs.LossActions.Over.{losses_are_over}
use Rattle.link_actions.specs.LossActions.Laws.{with_over}
use Rattle.link_actions.specs.LossActions.Sees.{SeesOver}
use Rattle.session_actions.specs.Actions.{after, after_if, following}
use Rattle.session_actions.specs.CallEnds.{next_deadline}
use Rattle.session_actions.specs.Events.{event_action}
use Rattle.session_actions.specs.Refusals.{is_gone, link_refusal, refusal_of}
use Rattle.session_actions.specs.Sessions.{Does}
use Rattle.session_actions.specs.Words.{numbered}
use Rattle.session_actions.specs.Writing.{link_lost}
use Rattle.session_actions.specs.declared.action.Action.TheVariants as action
use Rattle.session_actions.specs.declared.action.Action.{Action}
use Rattle.session_actions.specs.declared.entry.OpenEntry.{OpenEntry}
use Rattle.session_actions.specs.declared.entry.Stage.TheVariants as stage
use Rattle.session_actions.specs.declared.link.Link.{Link}
use Rattle.session_actions.specs.declared.link.LinkOver.TheVariants as over
use Rattle.session_actions.specs.declared.link.LinkOver.{LinkOver}
use Rattle.session_actions.specs.declared.seen.Seen.{Seen}
use Rattle.session_order.proofs.Quiescence.{quiescence_is_exact}
use Rattle.session_order.proofs.Overs.{lost_leaves}
use Rattle.session_order.specs.Quiescent as order
use Rattle.session_order.specs.Quiescent.{IsStill}
use Rattle.session_order.specs.Lines.{is_line}
use Rattle.session_order.specs.declared.line.Line.TheVariants as line
use Rattle.session_order.specs.declared.line.Line.{Line}
use Rattle.std.proofs.Common.{◌≡◌, ◌||◌, ap, refl, subst, sym, ◌∙◌, Bool, true, false, List, Option, None, Some, ℕ, if◌then◌else◌, is_some}
use Rattle.std.specs.Option.{option_map}

link_there : (s : Seen) (link : ℕ) (o : Option Link) → numbered s.links link ≡ o → link_refusal s o None ≡ None → (l : Link) × ((numbered s.links link ≡ Some l) × (is_gone l s ≡ false))
link_there s link None at e = absurd (cc)
link_there s link (Some l) at e = (l, (at, not_gone (is_gone l s) e))
  where
    not_gone : (b : Bool) → (if b then Some refusal.LinkGone else None) ≡ None → b ≡ false
    not_gone true e = absurd (cc)
    not_gone false e = refl

none_over : (o : Option LinkOver) (b : Bool) → (is_some o || b) ≡ false → o ≡ None
none_over None b e = refl
none_over (Some z) b e = absurd (cc)

module _ (x : StateSeen) (o : OpenEntry) (s : Seen) (h : Agrees x s) (at : IsAt stage.Event o s) (timely : next_deadline s ≡ None) (own_links : LinksAreOwn s)
    (early : IsEarlyKept s) (link : ℕ) (is : o.event ≡ event.LinkLost link) (kept : channel.refusal_of o.event x ≡ None) where
  abbrev pub p : OpenEntry
  p = replied_entry reply.Done o

  pub both : (x.shut ≡ false) × (channel.link_refusal link x ≡ None)
  both = unshut_by x.shut (channel.link_refusal link x) (subst (λ (e : Event). channel.refusal_of e x ≡ None) is kept)

  pub same_refusal : link_refusal s (numbered s.links link) None ≡ None
  same_refusal = sym (link_same x s h link) ∙ both.1

  pub found : (l : Link) × ((numbered s.links link ≡ Some l) × (is_gone l s ≡ false))
  found = link_there s link (numbered s.links link) refl same_refusal

  abbrev pub l : Link
  l = found.0

  pub there : numbered s.links link ≡ Some l
  there = found.1.0

  pub number_is : l.number ≡ link
  number_is = counted_at (λ (k : Link). k.number) s.links link l h.kept.links there

  pub going : l.over ≡ None
  going = none_over l.over _ found.1.1

  pub not_refused : refusal_of (event.LinkLost link) s ≡ None
  not_refused = open_in s (link_refusal s (numbered s.links link) None) (h.configs.shut ∙ both.0) ∙ same_refusal

  pub gives : event_action o.event s ≡ Some (action.LinkLost link)
  gives = ap (λ (e : Event). event_action e s) is ∙ applied_next (event.LinkLost link) s (Some (action.LinkLost link)) not_refused refl

  pub next : following s ≡ Some (action.LinkLost link)
  next = event_next o s at timely (action.LinkLost link) gives

  abbrev pub v : Seen
  v = link_lost link s

  pub after_is : after (action.LinkLost link) s ≡ v
  after_is = ap (λ (q : Option OpenEntry). after_if q (action.LinkLost link) s) at.current

  pub current_v : v.current ≡ Some p
  current_v = ap (option_map (λ (q : OpenEntry). record q { stage = stage.Replied; reply = Some reply.Done })) at.current

  pub kept_v : IsKept v
  kept_v = subst IsKept after_is (kept_stays s (action.LinkLost link) h.kept next)

  pub quiescent_s : order.IsQuiescent o s
  quiescent_s = to_order quiescence_is_exact o s at.quiescent

  pub still_v : (m : Line) → is_line m line.WireEnd ≡ false → is_line m line.Link ≡ false → IsStill m p v
  still_v m e f = lost_leaves link o s at.current is m p current_v (unstirred link m e f) (quiescent_s m)

  -- the link goes on until then
  pub goes : IsGoing l s (h.links.each link l there).slot
  goes = (h.links.each link l there).sees.going going

  abbrev pub lost_over : GoesOver over.Lost (action.LinkLost link) link x o s
  lost_over = record {
    agrees = h;
    current = at.current;
    quiescent = quiescent_s;
    own = own_links;
    boards = early.boards;
    link_ = l;
    there = there;
    stage_ = stage.Replied;
    reply_ = Some reply.Done;
    now = v.current;
    now_is = current_v;
    next = next;
    then_ = after_is;
    still = still_v;
    over = subst (λ (n : ℕ). SeesOver (with_over over.Lost l) (link_lost n s)) number_is
        (losses_are_over l s (h.links.each link l there).slot.link.link.wire (lines_in l s) goes.streams);
    kept = kept_v;
    of = record { acts = refl; passes = λ c here other. refl };
  }

  abbrev pub lost : Link
  lost = starts.lost over.Lost (action.LinkLost link) link x o s lost_over

  abbrev pub q : OpenEntry
  q = starts.q over.Lost (action.LinkLost link) link x o s lost_over

  abbrev pub after_ : Seen
  after_ = starts.after_ over.Lost (action.LinkLost link) link x o s lost_over

  pub own : lost.number ≡ link
  own = starts.own over.Lost (action.LinkLost link) link x o s lost_over

  module _ (prefaced : LinksArePrefaced s) (streams : StreamsAreOwn s) (rising : RunsRise s) (go : CallsGoOn x) (held : AreHeld x) where
    pub loss_goes_on : LossGoesOn lost (marked_dead link x) q after_
    loss_goes_on =
        let dn = agreeing.dn over.Lost (action.LinkLost link) link x o s lost_over in
        let those : List Action = agreeing.actions over.Lost (action.LinkLost link) link x o s lost_over in
        let does : Does those s after_ = agreeing.does over.Lost (action.LinkLost link) link x o s lost_over in
        record {
          current = dn.current;
          event_is = is ∙ ap (λ (n : ℕ). event.LinkLost n) (sym own);
          stage_is = refl;
          still = dn.still;
          over = starts.over_after over.Lost (action.LinkLost link) link x o s lost_over;
          quiet = starts.quiet_after over.Lost (action.LinkLost link) link x o s lost_over;
          agrees = subst (λ (n : ℕ). Agrees (stamped_gone n (marked_dead link x)) after_) (sym own)
              (agreeing.agrees over.Lost (action.LinkLost link) link x o s lost_over x.links (same_slots link x));
          unreset = subst NoStreamIsToReset (sym dn.boarded) early.resets;
          prefaced = prefaced_along those s after_ h.kept prefaced does;
          streams = streams_along those s after_ h.kept prefaced streams does;
          rising = subst RunsRise (sym dn.boarded) rising;
          going = record { calls = go.calls; allows = go.allows };
          held = held;
        }
