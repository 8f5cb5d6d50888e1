-- Bytes that break a link are handled.
use Rattle.std.proofs.Common.{◌≡◌, ◌++◌, ◌∷◌, ◌<◌, ◌≤◌, ap, subst, sym, ◌∙◌, true, false, List, [], Option, None, Some, ℕ, drop, is_some, length}
use Rattle.std.specs.List.{list_all}
use Rattle.channel_actions.proofs.BoardActions.Quiescent.{of_order}
use Rattle.channel_actions.proofs.Does.{does_on, none_on}
use Rattle.channel_actions.specs.Agrees.{Agrees}
use Rattle.channel_actions.specs.GoingCalls.Laws.{LossesGoOn}
use Rattle.channel_actions.specs.SoundBuffers.Held.{BuffersAreSound}
use Rattle.channel_actions.specs.SoundBuffers.Laws.{EachHoldsSoundly}
use Rattle.channel_actions.specs.SoundCalls.Sound.{CallsAreSound}
use Rattle.event_cases.proofs.LostLinks.OverAgrees as agreeing
use Rattle.event_cases.proofs.LostLinks.OverStarts as starts
use Rattle.end_cases.specs.AttemptEnds.Ends.{AreHeld}
use Rattle.end_cases.specs.AttemptEnds.Laws.{EndsStayHeld, OneAttemptEnds}
use Rattle.end_cases.specs.AttemptEnds.Runs.{RunsOfSessions}
use Rattle.event_cases.specs.PassedAtOnce.Passed.{unqueued}
use Rattle.channel_core.specs.Arrivals.{frame_received}
use Rattle.channel_core.specs.States.{StateSeen}
use Rattle.channel_core.specs.Steps.{marked_dead}
use Rattle.channel_core.specs.Tables.{Received, received_in}
use Rattle.frame_cases.proofs.BrokenLinks.Deaf.{still_there}
use Rattle.frame_cases.proofs.BrokenLinks.Starts.{act, break_goes_on, broken_over, received_is, received_x, lost_l, number_is, t}
use Rattle.frame_cases.proofs.BrokenLinks.Unheeded.{agrees_unheeded}
use Rattle.frame_cases.proofs.BrokenLinks.Walk.{HasBroken, breaks_end_in_turn}
use Rattle.frame_cases.specs.BrokenLinks.Laws.{BrokenLinksAreHandled}
use Rattle.frame_cases.specs.PieceWalks.Points.{HasReceived, IsReceiving, coming}
use Rattle.link_actions.specs.ResponseActions.Gained.{is_listed_fairly}
use Rattle.session_actions.specs.Links.{read_bytes}
use Rattle.session_actions.specs.Words.{numbered}
use Rattle.session_actions.specs.Writing.{next_frame_read}
use Rattle.session_actions.specs.declared.action.Action.{Action}
use Rattle.session_actions.specs.declared.action.Action.TheVariants as action
use Rattle.session_actions.specs.declared.attempt.Attempt.{Attempt}
use Rattle.session_actions.specs.declared.entry.OpenEntry.{OpenEntry}
use Rattle.session_actions.specs.declared.link.Link.{Link}
use Rattle.session_actions.specs.declared.link.LinkOver.TheVariants as over
use Rattle.session_actions.specs.declared.seen.Seen.{Seen}
use Rattle.session_order.proofs.Quiescence.{quiescence_is_exact}

-- what buffers hold is for rows that are there
pub held_known : EachHoldsSoundly → (x : StateSeen) → CallsAreSound x → BuffersAreSound x → AreHeld x
held_known each x calls buffers number slot at = record { rows_are = (calls.slots number slot at).held; alone = (each x number slot buffers at).alone }

module _ (each : EachHoldsSoundly) (runs : RunsOfSessions) (stays : EndsStayHeld) (losses : LossesGoOn) (ends : OneAttemptEnds) (link : ℕ) (piece : List ℕ) (x : StateSeen) (o : OpenEntry)
    (s : Seen) (is : IsReceiving link piece x o s) (h : Received) (code : ℕ) (next : next_frame_read link s ≡ Some (action.LinkBreaks link code))
    (receives : received_in link piece x.links ≡ Some h) (few : length s.attempts < 18446744073709551615) where
  abbrev gone : Link
  gone = lost_l link piece x o s is h code next receives

  abbrev then_ : Seen
  then_ = t link piece x o s is h code next receives

  abbrev y : StateSeen
  y = marked_dead link (received_x link piece x o s is h code next receives)

  rows_same : then_.attempts ≡ s.attempts
  rows_same = starts.attempts_same over.Broken (action.LinkBreaks link code) link (coming link piece x) o s (broken_over link piece x o s is h code next receives)

  ended : HasBroken (link ∷ []) link y o then_
  ended =
      subst (λ (n : ℕ). HasBroken (link ∷ []) n y o then_) (number_is link piece x o s is h code next receives)
      (breaks_end_in_turn is.whole (link ∷ []) ends stays losses gone y o then_
      (break_goes_on link piece x o s is h code next receives (runs is.known.reached.setup is.known.reached.actions s is.known.reached.does)
      (held_known each x is.known.calls is.known.buffers))
      (subst (λ (xs : List Attempt). length xs < 18446744073709551615) (sym rows_same) few))

  abbrev those : List Action
  those = agreeing.actions over.Broken (action.LinkBreaks link code) link (coming link piece x) o s (broken_over link piece x o s is h code next receives)

  gone_there : numbered then_.links link ≡ Some gone
  gone_there = agreeing.there_t over.Broken (action.LinkBreaks link code) link (coming link piece x) o s (broken_over link piece x o s is h code next receives)

  found : (m : Link) × ((numbered ended.seen.links link ≡ Some m) × (unqueued m ≡ unqueued gone))
  found = still_there then_ ended.seen link gone ended.passed gone_there

  abbrev m : Link
  m = found.0

  over_m : is_some m.over ≡ true
  over_m = ap (λ (k : Link). is_some k.over) found.1.1

  pub received_break : HasReceived link (drop h.taken piece) (frame_received link h x) o s
  received_break = record {
    actions = those ++ ended.actions;
    seen = ended.seen;
    entry = ended.entry;
    does = does_on those ended.actions s then_ ended.seen
        (agreeing.does over.Broken (action.LinkBreaks link code) link (coming link piece x) o s (broken_over link piece x o s is h code next receives)) ended.does;
    posts = none_on those ended.actions
        (agreeing.dn over.Broken (action.LinkBreaks link code) link (coming link piece x) o s (broken_over link piece x o s is h code next receives)).posts ended.posts;
    same = record {
      moment = ended.same.moment;
      word = ended.same.word;
      event = ended.same.event;
      entries = ended.same.entries
          ∙ ap (λ (z : Seen). z.entries) (agreeing.dn over.Broken (action.LinkBreaks link code) link (coming link piece x) o s (broken_over link piece x o s is h code next receives)).boarded;
      setup = ended.same.setup
          ∙ ap (λ (z : Seen). z.setup) (agreeing.dn over.Broken (action.LinkBreaks link code) link (coming link piece x) o s (broken_over link piece x o s is h code next receives)).boarded;
    };
    at = record { current = ended.current; stage_is = ended.stage_is; quiescent = of_order quiescence_is_exact ended.entry ended.seen ended.quiescent };
    reply = ended.reply;
    fresh = ended.turn ∙ is.fresh;
    link_ = m;
    here = found.1.0;
    fair = record {
      within = subst (λ (k : Link). read_bytes k ≤ length k.received) (sym found.1.1) is.fair.within;
      listed = ap (λ (k : Link). list_all is_listed_fairly k.traffic) found.1.1 ∙ is.fair.listed;
    };
    few = subst (λ (k : Link). length k.received ≤ 18446744073709551615) (sym found.1.1) is.few;
    left = λ none. absurd (let no : true ≡ false = sym over_m ∙ ap (λ (q : Option _). is_some q) none in (cc));
    agrees = subst (λ (v : StateSeen). Agrees (coming link (drop h.taken piece) v) ended.seen) (sym (received_is link piece x o s is h code next receives))
        (agrees_unheeded link (drop h.taken piece) _ ended.entry ended.seen ended.agrees ended.current m found.1.0 over_m);
  }

pub broken_links_are_handled : EachHoldsSoundly → RunsOfSessions → EndsStayHeld → LossesGoOn → BrokenLinksAreHandled
broken_links_are_handled each runs stays losses ends link piece x o s a h is next receives case =
    received_break each runs stays losses ends link piece x o s is h case.code (next ∙ ap (λ (b : Action). Some b) case.is) receives case.few
