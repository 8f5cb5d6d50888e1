-- A hedge is withheld where no attempt of its call goes on: the session leads to a point of the same settling, where none of its call is due any more.
use Rattle.call_cases.proofs.OtherCalls.Rows.{others_are_same}
use Rattle.channel_actions.proofs.Links.Settings.Firsts.{none_numbered}
use Rattle.channel_actions.proofs.Settles.{follows_by, is_with_open, with_open}
use Rattle.channel_actions.proofs.Stamps.{counted_at}
use Rattle.channel_actions.specs.Agrees.{Agrees}
use Rattle.channel_actions.specs.Quiescent.{IsAt}
use Rattle.call_cases.proofs.ConfigActions.NetLines.{clock_stays, over_stays, wish_stays}
use Rattle.end_cases.proofs.LastHedges.Agree as agree
use Rattle.end_cases.proofs.LastHedges.Lines.{next_three, next_two, still}
use Rattle.end_cases.proofs.LastHedges.Step as step
use Rattle.end_cases.proofs.LastHedges.Step.{LastHedge}
use Rattle.attempt_cases.proofs.MakingSteps.Step.{first_six, none_at as none_given}
use Rattle.attempt_cases.specs.MakingSteps.Laws.{DueNext, IsDueDone, LastIsWithheld}
use Rattle.call_cases.specs.SettlingActions.Sound.{IsSound}
use Rattle.call_cases.specs.SettlingActions.Steps.{IsTended, Leads}
use Rattle.channel_core.specs.States.{StateSeen}
use Rattle.channel_core.specs.Steps.{made_one}
use Rattle.net_actions.proofs.Clocks.{clock_changes, none_due}
use Rattle.net_actions.proofs.TakingOver.{take_overs_are_same}
use Rattle.net_actions.proofs.Wishes.{none_connects, wishes_connect}
use Rattle.session_actions.specs.Actions.{config_action, following, of_calls, of_links, of_policies, of_stage}
use Rattle.session_actions.specs.DueAttempts.{has_going}
use Rattle.session_actions.specs.Making.{due_action, next_due_attempt}
use Rattle.session_actions.specs.Policies.{next_of_pass, next_of_queue, next_take_over}
use Rattle.session_actions.specs.Subchannels.{next_connected, next_of_clock}
use Rattle.session_actions.specs.Words.{first_of, numbered}
use Rattle.session_actions.specs.declared.action.Action.TheVariants as action
use Rattle.session_actions.specs.declared.action.Action.{Action}
use Rattle.session_actions.specs.declared.call.Call.{Call}
use Rattle.session_actions.specs.declared.entry.OpenEntry.{OpenEntry}
use Rattle.session_actions.specs.declared.entry.Stage.TheVariants as stage
use Rattle.session_actions.specs.declared.seen.Seen.{Seen}
use Rattle.session_order.proofs.Quiescence.{quiescence_is_exact}
use Rattle.session_order.specs.Quiescent.{IsStill}
use Rattle.session_order.specs.declared.line.Line.{Line}
use Rattle.std.proofs.Common.{Bool, None, Some, ap, eqb-true, false, refl, subst, sym, true, ℕ, ◌==◌, ◌∙◌, ◌≡◌}

at_still : (o : OpenEntry) (s : Seen) → IsAt stage.Settling o s → (l : Line) → IsStill l o s
at_still o s at = (quiescence_is_exact o s).0 (at.quiescent.calls, at.quiescent.links, at.quiescent.policies)

module _ (x : StateSeen) (o : OpenEntry) (s0 : Seen) (k : LastHedge x o (with_open o s0)) (at : IsAt stage.Settling o (with_open o s0)) (tended : IsTended o (with_open o s0)) where
  abbrev s : Seen
  s = step.s x o s0 k

  abbrev n : ℕ
  n = k.call.number

  abbrev p : OpenEntry
  p = step.p x o s0 k

  abbrev t : Seen
  t = step.t x o s0 k

  abbrev c3 : Call
  c3 = step.c3 x o s0 k

  abbrev y : StateSeen
  y = agree.y x o s0 k

  abbrev agrees : Agrees y t
  agrees = agree.agrees_then x o s0 k (next_two x o s0 k) (next_three x o s0 k)

  at_now : IsAt stage.Settling p t
  at_now = record {
    current = refl;
    stage_is = at.stage_is;
    quiescent = (let back = (quiescence_is_exact p t).1 (still x o s0 k) in record { calls = back.0; links = back.1; policies = back.2 });
  }

  same_one : (d : Call) → numbered t.calls n ≡ Some d → c3 ≡ d
  same_one d there = let both : Some c3 ≡ Some d = sym (step.here3 x o s0 k) ∙ there in (cc)

  config_by : (m : ℕ) (d : Call) (b : Bool) → (m == n) ≡ b → numbered t.calls m ≡ Some d → config_action t d ≡ None
  config_by m d true e there = sym (ap (config_action t) (same_one d (ap (numbered t.calls) (sym (eqb-true m n e)) ∙ there)))
  config_by m d false e there =
      none_given (config_action s) s.calls m d tended.configs (sym (others_are_same n s t (agree.apart x o s0 k (next_two x o s0 k) (next_three x o s0 k)) m e) ∙ there)

  tended_now : IsTended p t
  tended_now = record {
    clock = clock_stays clock_changes none_due take_overs_are_same wishes_connect none_connects x y s t k.agrees agrees refl refl tended.clock;
    take_over = over_stays clock_changes none_due take_overs_are_same wishes_connect none_connects x y s t k.agrees agrees refl tended.take_over;
    connected = wish_stays clock_changes none_due take_overs_are_same wishes_connect none_connects x y s t k.agrees agrees refl tended.connected;
    configs = none_numbered (config_action t) t.calls (λ m d there. config_by m d (m == n) refl there);
    pass = refl;
  }

  none_now : (d : Call) → numbered t.calls n ≡ Some d → due_action t d ≡ None
  none_now d there = sym (ap (due_action t) (same_one d there))

  pub leads_last : Leads (made_one n x) o s (IsDueDone n)
  leads_last =
      subst (λ (z : StateSeen). Leads z o s (IsDueDone n)) (sym (agree.channel_is x o s0 k))
      (record {
        reaches = record {
          actions = agree.all x o s0 k (next_two x o s0 k) (next_three x o s0 k);
          seen = t;
          entry = p;
          does = agree.does x o s0 k (next_two x o s0 k) (next_three x o s0 k);
          posts = refl;
          same = record { moment = refl; word = refl; event = refl; entries = refl; setup = refl };
          at = at_now;
          agrees = agrees;
        };
        reply = refl;
        point = record { tended = tended_now; none = none_now };
      })

module _ (x : StateSeen) (o : OpenEntry) (s0 : Seen) where
  abbrev v : Seen
  v = with_open o s0

  follows_due : IsAt stage.Settling o v → IsTended o v → (a : Action) → next_due_attempt v ≡ Some a → following v ≡ Some a
  follows_due at tended a first =
      follows_by (of_calls o v) (of_links o v) (of_policies o v) (of_stage o v o.stage) a at.quiescent.calls at.quiescent.links at.quiescent.policies
      (ap (of_stage o v) at.stage_is
      ∙ first_six (next_of_clock v) (next_take_over v) (next_connected v) (first_of (config_action v) v.calls) (next_of_pass o v) (next_due_attempt v) (next_of_queue v)
      (Some action.EntryCloses) a tended.clock tended.take_over tended.connected tended.configs tended.pass first)

  by_number : (number : ℕ) → Agrees x v → IsSound x v → IsAt stage.Settling o v → IsTended o v → (d : DueNext number v) → d.does ≡ action.HedgeWithheld number
      → has_going d.call v ≡ false → Leads (made_one number x) o v (IsDueDone number)
  by_number number h sound at tended d is goes =
      let own : d.call.number ≡ number = counted_at (λ (g : Call). g.number) v.calls number d.call h.kept.calls d.there in
      let given : Some d.does ≡ Some (action.HedgeWithheld d.call.number) = ap (λ (a : Action). Some a) is ∙ ap (λ (m : ℕ). Some (action.HedgeWithheld m)) (sym own) in
      subst (λ (m : ℕ). Leads (made_one m x) o v (IsDueDone m)) own
      (leads_last x o s0
      (record {
        agrees = h;
        sound = sound;
        call = d.call;
        there = ap (numbered v.calls) own ∙ d.there;
        none_goes = goes;
        due_is = d.gives ∙ given;
        next = follows_due at tended (action.HedgeWithheld d.call.number) (d.first ∙ given);
        quiescent = at_still o v at;
      })
      at tended)

pub last_is_withheld : LastIsWithheld
last_is_withheld number x o s h sound at tended d is goes =
    let P : Seen → Type 0 = λ u. Agrees x u → IsSound x u → IsAt stage.Settling o u → IsTended o u → (d : DueNext number u) → d.does ≡ action.HedgeWithheld number
    → has_going d.call u ≡ false → Leads (made_one number x) o u (IsDueDone number) in
    let whole : P (with_open o s) = by_number x o s number in
    subst P (sym (is_with_open o s at.current)) whole h sound at tended d is goes
