-- A frame of which the link reports nothing is handled.
use Rattle.std.proofs.Common.{◌≡◌, ◌==◌, ◌∷◌, ap, refl, subst, sym, ◌∙◌, Bool, true, false, List, [], Option, Some, ℕ, drop}
use Rattle.std.specs.Option.{option_map_or}
use Rattle.channel_actions.proofs.Calls.Kept.Fresh.{frames_are_fresh}
use Rattle.channel_actions.specs.Agrees.{Agrees}
use Rattle.channel_actions.specs.Quiescent.{IsAt}
use Rattle.channel_actions.specs.Links.{lines_in}
use Rattle.attempt_cases.proofs.DrainEvents.Links.{read_so}
use Rattle.channel_core.specs.Arrivals.{frame_received}
use Rattle.channel_core.specs.States.{StateSeen}
use Rattle.channel_core.specs.Tables.{Received, received_in}
use Rattle.channel_core.specs.declared.state.links.LinkSlot.{LinkSlot}
use Rattle.frame_cases.proofs.QuietFrames.Lines as lines
use Rattle.frame_cases.proofs.QuietFrames.ReadStill as read
use Rattle.frame_cases.proofs.QuietFrames.Responses.{quiet_frames_leave_responses}
use Rattle.frame_cases.specs.PieceWalks.Points.{HasReceived, IsReceiving, coming}
use Rattle.frame_cases.specs.QuietFrames.Laws.{IsReadQuietly, QuietFramesAreHandled}
use Rattle.grpc_link.specs.Links.{Report as Reported}
use Rattle.h2_frame.specs.Frames.{FrameSeen}
use Rattle.h2_frame.specs.Numbers.{goaway_type}
use Rattle.session_actions.specs.Actions.{after}
use Rattle.session_actions.specs.Words.{numbered}
use Rattle.session_actions.specs.Writing.{frame_read, frame_read_on, next_frame_read, owed_for, with_frame_read}
use Rattle.session_actions.specs.declared.action.Action.{Action}
use Rattle.session_actions.specs.declared.action.Action.TheVariants as action
use Rattle.session_actions.specs.declared.entry.OpenEntry.{OpenEntry}
use Rattle.session_actions.specs.declared.entry.Stage.TheVariants as stage
use Rattle.session_actions.specs.declared.link.Link.{Link}
use Rattle.session_actions.specs.declared.link.ReadFrame.{ReadFrame}
use Rattle.session_actions.specs.declared.seen.Seen.{Seen}
use Rattle.session_order.proofs.Quiescence.{quiescence_is_exact}
use Rattle.session_order.proofs.FramesRead.{read_leaves}
use Rattle.session_order.specs.Quiescent as order
use Rattle.session_order.specs.Stirs.{SawLess, stirs}
use Rattle.session_order.specs.declared.line.Line.{Line}

-- links whose attempts stand at their places
stirred_or_not : (a : Action) (k : Line) (P : Type 0) → (stirs a k ≡ true → P) → (stirs a k ≡ false → P) → P
stirred_or_not a k P yes_ no_ = by (stirs a k) refl
  where
    by : (b : Bool) → stirs a k ≡ b → P
    by true e = yes_ e
    by false e = no_ e

module _ (link : ℕ) (piece : List ℕ) (x : StateSeen) (o : OpenEntry) (s : Seen) (is : IsReceiving link piece x o s) (h : Received) (r : ReadFrame)
    (next : next_frame_read link s ≡ Some (action.FrameRead link r)) (receives : received_in link piece x.links ≡ Some h) where
  abbrev l : Link
  l = is.l

  abbrev frames : List FrameSeen
  frames = owed_for r.frame l s

  abbrev t : Seen
  t = read.t link piece x o s is h r next receives

  abbrev m : Link
  m = with_frame_read r frames l

  after_is : after (action.FrameRead link r) s ≡ t
  after_is = read.after_is link piece x o s is h r next receives

  pub quiescent_s : order.IsQuiescent o s
  quiescent_s = (quiescence_is_exact o s).0 (is.at.quiescent.calls, is.at.quiescent.links, is.at.quiescent.policies)

  in_is : frame_read link r s ≡ t
  in_is = ap (λ (q : Option Link). option_map_or (frame_read_on r s) q s) is.here ∙ read.on_is link piece x o s is h r next receives

  fits : (k : Link) → numbered s.links link ≡ Some k → SawLess k.number r s
  fits k got = frames_are_fresh s link r is.agrees.kept is.known.early next k got

  -- of the lines that a frame may stir, and the others
  pub unstirred : (k : Line) → stirs (action.FrameRead link r) k ≡ false → order.IsStill k o t
  unstirred k no_ = subst (order.IsStill k o) in_is (read_leaves link r o s is.at.current fits k o (ap (λ (z : Seen). z.current) in_is) no_ (quiescent_s k))

  -- nothing is reported
  module _ (no_goaway : (r.frame.kind == goaway_type) ≡ false) (none : h.news ≡ []) where
    none_out : (read.out link piece x o s is h r next receives).news ≡ []
    none_out =
        ap (λ (k : Reported). k.news) (sym (read.reported_is link piece x o s is h r next receives))
        ∙ ap (λ (k : Received). k.news) (sym (read.h_is link piece x o s is h r next receives)) ∙ none

    abbrev slot : LinkSlot
    slot = read.slot link piece x o s is h r next receives

    quiet : IsReadQuietly l m s (frame_read l.number r s) (read.out link piece x o s is h r next receives).link.link.wire (lines_in l s) (read.out link piece x o s is h r next receives).link.readers
    quiet =
        quiet_frames_leave_responses l s slot.link.link.wire (lines_in l s) slot.link.readers r (read.going link piece x o s is h r next receives).streams
        (read_so l s slot.link.readers (read.going link piece x o s is h r next receives).readers) (read.come link piece x o s is h r next receives).comes
        (read.shown link piece x o s is h r next receives).unbroken is.fair.listed no_goaway none_out

    quiescent_t : order.IsQuiescent o t
    quiescent_t k =
        stirred_or_not (action.FrameRead link r) k (order.IsStill k o t)
        (λ yes_.
        lines.stirred_still s link l is.here (read.own link piece x o s is h r next receives) r frames (Some o) (read.places link piece x o s is h r next receives)
        (read.less link piece x o s is h r next receives) (read.new link piece x o s is h r next receives quiet.still) quiet.still.retiring quiet.settings k o yes_ (quiescent_s k))
        (unstirred k)

    at_t : IsAt stage.Replied o t
    at_t =
        let three = (quiescence_is_exact o t).1 quiescent_t in
        record { current = refl; stage_is = is.at.stage_is; quiescent = record { calls = three.0; links = three.1; policies = three.2 } }

    pub received_quietly : HasReceived link (drop h.taken piece) (frame_received link h x) o s
    received_quietly = record {
      actions = action.FrameRead link r ∷ [];
      seen = t;
      entry = o;
      does = (read.follows link piece x o s is h r next receives, sym after_is);
      posts = refl;
      same = record { moment = refl; word = refl; event = refl; entries = refl; setup = refl };
      at = at_t;
      reply = refl;
      fresh = is.fresh;
      link_ = m;
      here = read.there link piece x o s is h r next receives;
      fair = read.fair_now link piece x o s is h r next receives;
      few = is.few;
      left = λ e. read.left_is link piece x o s is h r next receives;
      agrees = subst (λ (v : StateSeen). Agrees (coming link (drop h.taken piece) v) t) (sym (read.unreported_is link piece x o s is h r next receives none))
          (read.agrees_read link piece x o s is h r next receives quiet.still);
    }

pub quiet_frames_are_handled : QuietFramesAreHandled
quiet_frames_are_handled link piece x o s a h is next receives case =
    received_quietly link piece x o s is h case.frame (next ∙ ap (λ (b : Action). Some b) case.is) receives case.stays case.none
