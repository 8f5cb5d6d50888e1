-- A call without an attempt ends as any call does.
use Rattle.std.proofs.Common.{◌||◌, ap, refl, false, Bool, ℕ}
use Rattle.call_cases.specs.EndsWithoutAttempts.Laws.{EndsWithoutAttemptsFollow}
use Rattle.call_cases.specs.CallEnds.Ends.{EndsNext, HasEnded}
use Rattle.call_cases.specs.CallEnds.Laws.{OneCallEnds}
use Rattle.channel_actions.proofs.Stamps.{counted_at}
use Rattle.channel_core.specs.States.{StateSeen}
use Rattle.call_cases.specs.ConfigActions.Ends.{EndsWithoutAttemptsNext, HasEndedWithoutAttempts}
use Rattle.grpc_base.specs.declared.event.EndCause.{EndCause}
use Rattle.session_actions.specs.declared.call.Call.{Call}
use Rattle.session_actions.specs.declared.entry.OpenEntry.{OpenEntry}
use Rattle.session_actions.specs.declared.seen.Seen.{Seen}
use Rattle.session_order.specs.Laws.{CallsStir}
use Rattle.session_order.specs.declared.line.Line.TheVariants as line

module _ (stir : CallsStir) (ends : OneCallEnds) (number : ℕ) (why : EndCause) (x : StateSeen) (o : OpenEntry) (s : Seen) (k : EndsWithoutAttemptsNext number why x o s) where
  next : EndsNext (λ l. false) number why x o s
  next = record {
    late = λ l e. absurd (cc);
    current = k.current;
    agrees = k.agrees;
    unreset = k.early.resets;
    call = k.call;
    there = k.there;
    going = k.awaiting_config.end;
    next = k.next;
    uncut = k.quiescent line.Cut;
    unfollowed = k.quiescent line.Transparent;
    still =
        λ l uncut f. stir.ended number why o s k.current (λ n c there. counted_at (λ (d : Call). d.number) s.calls n c k.agrees.kept.calls there) l o k.current
        (ap (λ (b : Bool). b || false) uncut) (k.quiescent l);
  }

  ended : HasEnded (λ l. false) number why x o s
  ended = ends (λ l. false) number why x o s next

  pub unconfigured_ended : HasEndedWithoutAttempts number why x o s
  unconfigured_ended = record {
    actions = ended.actions;
    seen = ended.seen;
    does = ended.does;
    posts = ended.posts;
    entries = ended.entries;
    setup = ended.setup;
    current = ended.current;
    quiescent = λ l. ended.still l refl;
    agrees = ended.agrees;
  }

pub ends_without_attempts_follow : CallsStir → EndsWithoutAttemptsFollow
ends_without_attempts_follow stir ends number why x o s k = unconfigured_ended stir ends number why x o s k
