-- Frames that end an attempt are handled.
use Rattle.std.proofs.Common.{◌≡◌, ◌++◌, ◌==◌, ◌∷◌, ◌≤◌, ap, subst, sym, ◌∙◌, true, false, List, Some, ℕ, drop, length}
use Rattle.std.specs.List.{list_all}
use Rattle.channel_actions.proofs.BoardActions.Quiescent.{of_order}
use Rattle.channel_actions.specs.Agrees.{Agrees}
use Rattle.channel_actions.specs.SoundBuffers.Laws.{EachHoldsSoundly}
use Rattle.end_cases.specs.AttemptEnds.Laws.{OneAttemptEnds}
use Rattle.end_cases.specs.AttemptEnds.Runs.{RunsOfSessions}
use Rattle.event_cases.specs.PassedAtOnce.Passed.{unqueued}
use Rattle.channel_core.specs.Arrivals.{frame_received}
use Rattle.channel_core.specs.States.{StateSeen}
use Rattle.channel_core.specs.Tables.{Received, received_in}
use Rattle.frame_cases.proofs.BrokenLinks.Deaf.{still_there}
use Rattle.frame_cases.proofs.BrokenLinks.Received.{held_known}
use Rattle.frame_cases.proofs.EndedFrames.OneEnd.{HasEndedAlone, ended_alone}
use Rattle.frame_cases.proofs.EndedFrames.Starts as starts
use Rattle.frame_cases.proofs.QuietFrames.ReadStill as read
use Rattle.frame_cases.specs.EndedFrames.Laws.{EndedFramesAreHandled}
use Rattle.frame_cases.specs.FrameKinds.Laws.{Ends, kind_of}
use Rattle.frame_cases.specs.PieceWalks.Points.{HasReceived, IsReceiving, IsReadFairly}
use Rattle.h2_frame.specs.Numbers.{goaway_type}
use Rattle.link_actions.specs.ResponseActions.Gained.{is_listed_fairly}
use Rattle.session_actions.specs.Links.{read_bytes}
use Rattle.session_actions.specs.Sessions.{Does}
use Rattle.session_actions.specs.Words.{numbered}
use Rattle.session_actions.specs.Writing.{next_frame_read}
use Rattle.session_actions.specs.declared.action.Action.{Action}
use Rattle.session_actions.specs.declared.action.Action.TheVariants as action
use Rattle.session_actions.specs.declared.attempt.Attempt.{Attempt}
use Rattle.session_actions.specs.declared.entry.OpenEntry.{OpenEntry}
use Rattle.session_actions.specs.declared.link.Link.{Link}
use Rattle.session_actions.specs.declared.link.ReadFrame.{ReadFrame}
use Rattle.session_actions.specs.declared.response.Outcome.{Outcome}
use Rattle.session_actions.specs.declared.seen.Seen.{Seen}
use Rattle.session_order.proofs.Quiescence.{quiescence_is_exact}

module _ (each : EachHoldsSoundly) (runs : RunsOfSessions) (ends : OneAttemptEnds) (link : ℕ) (piece : List ℕ) (x : StateSeen) (o : OpenEntry) (s : Seen) (is : IsReceiving link piece x o s)
    (h : Received) (r : ReadFrame) (next : next_frame_read link s ≡ Some (action.FrameRead link r)) (receives : received_in link piece x.links ≡ Some h)
    (no_goaway : (r.frame.kind == goaway_type) ≡ false) (kind : kind_of h.news ≡ Ends) where
  abbrev its : Attempt
  its = starts.a link piece x o s is h r next receives no_goaway kind

  abbrev outcome : Outcome
  outcome = starts.out link piece x o s is h r next receives no_goaway kind

  abbrev then_ : Seen
  then_ = read.t link piece x o s is h r next receives

  abbrev l : Link
  l = read.m link piece x o s is h r next receives

  abbrev y : StateSeen
  y = starts.z link piece x o s is h r next receives no_goaway kind

  alone : HasEndedAlone link its outcome y o then_
  alone =
      ended_alone ends link is.whole l its outcome y o then_
      (starts.about_to_end link piece x o s is h r next receives no_goaway kind (runs is.known.reached.setup is.known.reached.actions s is.known.reached.does)
      (held_known each x is.known.calls is.known.buffers))

  there : numbered then_.links link ≡ Some l
  there = starts.there_m link piece x o s is h r next receives no_goaway kind

  found : (k : Link) × ((numbered alone.seen.links link ≡ Some k) × (unqueued k ≡ unqueued l))
  found = still_there then_ alone.seen link l alone.passed there

  abbrev k : Link
  k = found.0

  fair_l : IsReadFairly l
  fair_l = read.fair_now link piece x o s is h r next receives

  pub received_end : HasReceived link (drop h.taken piece) (frame_received link h x) o s
  received_end = record {
    actions = action.FrameRead link r ∷ alone.actions;
    seen = alone.seen;
    entry = alone.entry;
    does = (read.follows link piece x o s is h r next receives, subst (λ (v : Seen). Does alone.actions v alone.seen) (sym (read.after_is link piece x o s is h r next receives)) alone.does);
    posts = alone.posts;
    same = record {
      moment = alone.same.moment;
      word = alone.same.word;
      event = alone.same.event;
      entries = alone.same.entries;
      setup = alone.same.setup;
    };
    at = record { current = alone.current; stage_is = alone.stage_is; quiescent = of_order quiescence_is_exact alone.entry alone.seen alone.quiescent };
    reply = alone.reply;
    fresh = alone.turn ∙ is.fresh;
    link_ = k;
    here = found.1.0;
    fair = record {
      within = subst (λ (q : Link). read_bytes q ≤ length q.received) (sym found.1.1) fair_l.within;
      listed = ap (λ (q : Link). list_all is_listed_fairly q.traffic) found.1.1 ∙ fair_l.listed;
    };
    few = subst (λ (q : Link). length q.received ≤ 18446744073709551615) (sym found.1.1) is.few;
    left = λ e. ap (λ (q : Link). drop (read_bytes q) q.received) found.1.1 ∙ read.left_is link piece x o s is h r next receives;
    agrees = subst (λ (v : StateSeen). Agrees v alone.seen) (starts.received_is link piece x o s is h r next receives no_goaway kind) alone.agrees;
  }

pub ended_frames_are_handled : EachHoldsSoundly → RunsOfSessions → EndedFramesAreHandled
ended_frames_are_handled each runs ends link piece x o s a h is next receives case =
    received_end each runs ends link piece x o s is h case.frame (next ∙ ap (λ (b : Action). Some b) case.is) receives case.stays case.kind_is
