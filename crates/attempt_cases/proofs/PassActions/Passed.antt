-- A pass over the queue, attempt by attempt.
use Rattle.std.proofs.Common.{◌≡◌, ◌||◌, inl, refl, sym, ◌∙◌, Bool, true, false, Option, None, Some, ℕ, zero, suc}
use Rattle.channel_actions.specs.Agrees.{Agrees}
use Rattle.channel_actions.specs.Quiescent.{IsAt}
use Rattle.channel_core.specs.Settling.{also, most, passed, passed_on, served, stays}
use Rattle.channel_core.specs.States.{StateSeen}
use Rattle.channel_core.specs.Steps.{Moved, next_served}
use Rattle.attempt_cases.specs.PassActions.Laws.{PassesAreServes}
use Rattle.attempt_cases.specs.PassActions.Serves.{IsBeginning, IsOver, IsPassing, IsServed, PassesEnd, PassesStop, ServeSteps, is_passed, is_passed_by}
use Rattle.session_actions.specs.declared.entry.OpenEntry.{OpenEntry}
use Rattle.session_actions.specs.declared.entry.Stage.TheVariants as stage
use Rattle.session_actions.specs.declared.seen.Seen.{Seen}
use Rattle.call_cases.proofs.SettlingActions.Composed.{leads_on, stays_at}
use Rattle.call_cases.specs.SettlingActions.Sound.{IsSound}
use Rattle.call_cases.specs.SettlingActions.Steps.{IsMade, IsPassed, Leads}

or_true : (b c : Bool) → c ≡ true → (b || c) ≡ true
or_true true c e = refl
or_true false c e = e

-- where the pass stands: nothing moved only at its begin
pub record Stands (last : ℕ × ℕ) (m : Moved) (o : OpenEntry) (s : Seen) : Type 0 where
  pub agrees : Agrees m.state s
  pub sound : IsSound m.state s
  pub at : IsAt stage.Settling o s
  pub passing : IsPassing last o s
  pub still : m.moved ≡ false → IsBeginning last o s

module _ (serves : ServeSteps) (stops : PassesStop) where
  over_point : (last : ℕ × ℕ) (m : Moved) (o : OpenEntry) (s : Seen) → Stands last m o s → IsOver o s last → IsPassed m.moved o s
  over_point last m o s w over = record {
    tended = record { clock = w.passing.clock; take_over = w.passing.take_over; connected = w.passing.connected; configs = w.passing.configs; pass = over.pass };
    done = λ e. record { made = (w.still e).made; queue = over.queue (w.still e) };
  }

  stands_after : (last p : ℕ × ℕ) (m : Moved) (o : OpenEntry) (s : Seen) (w : Stands last m o s) (one : IsServed p m.state o s)
      → Stands p (also m.moved (served p.0 p.1 m.state)) one.leads.reaches.entry one.leads.reaches.seen
  stands_after last p m o s w one = record {
    agrees = one.leads.reaches.agrees;
    sound = one.sound;
    at = one.leads.reaches.at;
    passing = one.leads.point;
    still = λ e. absurd (let bad : true ≡ false = sym (or_true m.moved (served p.0 p.1 m.state).moved one.moved) ∙ e in (cc));
  }

  pass_by : (left : ℕ) (last : ℕ × ℕ) (m : Moved) (o : OpenEntry) (s : Seen) (w : Stands last m o s) (next : Option (ℕ × ℕ)) → next_served last m.state ≡ next
      → ((p : ℕ × ℕ) (n : Moved) (q : OpenEntry) (t : Seen) → Stands p n q t → is_passed left p n ≡ true → Leads (passed left p n).state q t (IsPassed (passed left p n).moved))
      → is_passed_by (is_passed left) next m ≡ true → Leads (passed_on (passed left) next m).state o s (IsPassed (passed_on (passed left) next m).moved)
  pass_by left last m o s w None e further over =
      stays_at m.state o s (IsPassed m.moved) w.agrees w.at (over_point last m o s w (stops last m.state o s w.agrees w.sound w.at w.passing e))
  pass_by left last m o s w (Some p) e further over =
      let one : IsServed p m.state o s = serves last p m.state o s w.agrees w.sound w.at w.passing e in
      let n : Moved = also m.moved (served p.0 p.1 m.state) in
      leads_on (served p.0 p.1 m.state).state (passed left p n).state o s (IsPassing p) (IsPassed (passed left p n).moved) one.leads
      (further p n one.leads.reaches.entry one.leads.reaches.seen (stands_after last p m o s w one) over)

  all_passed : (left : ℕ) (last : ℕ × ℕ) (m : Moved) (o : OpenEntry) (s : Seen) → Stands last m o s → is_passed left last m ≡ true
      → Leads (passed left last m).state o s (IsPassed (passed left last m).moved)
  unfolding passed is_passed
  all_passed zero last m o s w over = absurd (cc)
  all_passed (suc left) last m o s w over =
      pass_by left last m o s w (next_served last m.state) refl (λ p n q t v f. all_passed left p n q t v f) over

  pub passes : PassesEnd → (x : StateSeen) (o : OpenEntry) (s : Seen) → Agrees x s → IsSound x s → IsAt stage.Settling o s → IsMade o s
      → Leads (passed most (0, 0) (stays x)).state o s (IsPassed (passed most (0, 0) (stays x)).moved)
  passes ends x o s h sound at made =
      all_passed most (0, 0) (stays x) o s
      (record {
        agrees = h;
        sound = sound;
        at = at;
        passing = record {
          clock = made.tended.clock;
          take_over = made.tended.take_over;
          connected = made.tended.connected;
          configs = made.tended.configs;
          begun = inl (record { none = refl; made = made });
        };
        still = λ e. record { none = refl; made = made };
      }) (ends x o s h sound at made)

pub passes_are_serves : PassesAreServes
passes_are_serves serves stops ends x o s h sound at made = passes serves stops ends x o s h sound at made
