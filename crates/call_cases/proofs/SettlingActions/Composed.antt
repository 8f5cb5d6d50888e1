-- A settling is its steps: one after the other, then rounds until one does nothing.
use Rattle.std.proofs.Common.{◌≡◌, ◌||◌, ◌++◌, ◌∷◌, ap, refl, ◌∙◌, Bool, true, false, [], Option, None, Some, ℕ, zero, suc, if◌then◌else◌}
use Rattle.std.specs.Prelude.{option_and_then}
use Rattle.channel_actions.proofs.Does.{does_on, none_on}
use Rattle.channel_actions.proofs.Settles.{follows_by}
use Rattle.channel_actions.specs.Agrees.{Agrees}
use Rattle.channel_actions.specs.Quiescent.{IsAt}
use Rattle.channel_actions.specs.Stages.{IsSettled}
use Rattle.channel_core.specs.Settling.{most, prepared, queue_served, round, rounds, settled}
use Rattle.channel_core.specs.States.{StateSeen}
use Rattle.channel_core.specs.Steps.{clocked, net_settled, round_made}
use Rattle.session_actions.specs.Actions.{config_action, first_action, following, following_in, of_calls, of_links, of_policies, of_stage}
use Rattle.session_actions.specs.Making.{next_due_attempt}
use Rattle.session_actions.specs.Policies.{next_of_pass, next_of_queue, next_take_over}
use Rattle.session_actions.specs.Subchannels.{next_connected, next_of_clock}
use Rattle.session_actions.specs.Words.{first_of}
use Rattle.session_actions.specs.declared.action.Action.{Action}
use Rattle.session_actions.specs.declared.action.Action.TheVariants as action
use Rattle.session_actions.specs.declared.entry.OpenEntry.{OpenEntry}
use Rattle.session_actions.specs.declared.entry.Stage.TheVariants as stage
use Rattle.session_actions.specs.declared.seen.Seen.{Seen}
use Rattle.call_cases.specs.SettlingActions.Laws.{RoundsAreSteps, SettlingKeeps, SettlingsAreSteps}
use Rattle.call_cases.specs.SettlingActions.Sound.{IsSound}
use Rattle.call_cases.specs.SettlingActions.Steps.{ClockSteps, ConfigSteps, IsClocked, IsDone, IsJoined, IsMade, IsPassed, IsRound, IsTended, Leads, MakingSteps, NetSteps, QueueSteps, RoundSteps, RoundsEnd, are_over, round_made_state}

-- from one point to the next, and from that one further
pub leads_on : (y z : StateSeen) (o : OpenEntry) (s : Seen) (Mid After : OpenEntry → Seen → Type 0) (l : Leads y o s Mid)
    → Leads z l.reaches.entry l.reaches.seen After → Leads z o s After
leads_on y z o s Mid After l m = record {
  reaches = record {
    actions = l.reaches.actions ++ m.reaches.actions;
    seen = m.reaches.seen;
    entry = m.reaches.entry;
    does = does_on l.reaches.actions m.reaches.actions s l.reaches.seen m.reaches.seen l.reaches.does m.reaches.does;
    posts = none_on l.reaches.actions m.reaches.actions l.reaches.posts m.reaches.posts;
    same = record {
      moment = m.reaches.same.moment ∙ l.reaches.same.moment;
      word = m.reaches.same.word ∙ l.reaches.same.word;
      event = m.reaches.same.event ∙ l.reaches.same.event;
      entries = m.reaches.same.entries ∙ l.reaches.same.entries;
      setup = m.reaches.same.setup ∙ l.reaches.same.setup;
    };
    at = m.reaches.at;
    agrees = m.reaches.agrees;
  };
  reply = m.reply ∙ l.reply;
  point = m.point;
}

-- a point of another kind, which follows from the first
pub leads_to : (y : StateSeen) (o : OpenEntry) (s : Seen) (These Those : OpenEntry → Seen → Type 0)
    → ((p : OpenEntry) (t : Seen) → These p t → Those p t) → Leads y o s These → Leads y o s Those
leads_to y o s These Those weaker l = record { reaches = l.reaches; reply = l.reply; point = weaker l.reaches.entry l.reaches.seen l.point }

-- nothing is done
pub stays_at : (y : StateSeen) (o : OpenEntry) (s : Seen) (Point : OpenEntry → Seen → Type 0) → Agrees y s → IsAt stage.Settling o s → Point o s → Leads y o s Point
stays_at y o s Point h at point = record {
  reaches = record {
    actions = [];
    seen = s;
    entry = o;
    does = refl;
    posts = refl;
    same = record { moment = refl; word = refl; event = refl; entries = refl; setup = refl };
    at = at;
    agrees = h;
  };
  reply = refl;
  point = point;
}

-- a round: what is due is made, and the queue is served
neither : (a b : Bool) → (a || b) ≡ false → (a ≡ false) × (b ≡ false)
neither true b e = absurd (cc)
neither false b e = (refl, e)

module _ (keeps : SettlingKeeps) (makes : MakingSteps) (serves : QueueSteps) (x : StateSeen) (o : OpenEntry) (s : Seen) (h : Agrees x s) (sound : IsSound x s)
    (at : IsAt stage.Settling o s) (tended : IsTended o s) where
  abbrev y : StateSeen
  y = round_made_state x

  module _ (made : Leads y o s IsMade) (steady : IsSound y made.reaches.seen)
      (served : Leads (queue_served y).state made.reaches.entry made.reaches.seen (IsPassed (queue_served y).moved)) where
    end_sound : IsSound (round x).state served.reaches.seen
    end_sound =
        keeps.queue y made.reaches.seen served.reaches.seen served.reaches.actions made.reaches.agrees steady served.reaches.does served.reaches.agrees

    passed : IsPassed (round x).moved served.reaches.entry served.reaches.seen
    passed = record {
      tended = served.point.tended;
      done = λ still. served.point.done (neither (round_made x).moved (queue_served y).moved still).1;
    }

    both : Leads (round x).state o s (IsRound (round x).state (round x).moved)
    both =
        leads_on y (round x).state o s IsMade (IsRound (round x).state (round x).moved) made
        (record { reaches = served.reaches; reply = served.reply; point = record { passed = passed; sound = end_sound } })

  pub one_round : Leads (round x).state o s (IsRound (round x).state (round x).moved)
  one_round =
      let made = makes x o s h sound at tended in
      let steady = keeps.making x s made.reaches.seen made.reaches.actions h sound made.reaches.does made.reaches.agrees in
      both made steady (serves y made.reaches.entry made.reaches.seen made.reaches.agrees steady made.reaches.at made.point)

pub rounds_are_steps : RoundsAreSteps
rounds_are_steps keeps makes serves x o s h sound at tended = one_round keeps makes serves x o s h sound at tended

-- rounds, until one does nothing
module _ (steps : RoundSteps) where
  rounds_by : (left : ℕ) (x : StateSeen) (o : OpenEntry) (s : Seen) (moved : Bool) → (round x).moved ≡ moved
      → ((y : StateSeen) (p : OpenEntry) (t : Seen) → Agrees y t → IsSound y t → IsAt stage.Settling p t → IsTended p t → are_over left y ≡ true → Leads (rounds left y) p t IsDone)
      → (if moved then are_over left (round x).state else true) ≡ true
      → Leads (round x).state o s (IsRound (round x).state (round x).moved)
      → Leads (if moved then rounds left (round x).state else (round x).state) o s IsDone
  rounds_by left x o s true e further over l =
      leads_on (round x).state (rounds left (round x).state) o s (IsRound (round x).state (round x).moved) IsDone l
      (further (round x).state l.reaches.entry l.reaches.seen l.reaches.agrees l.point.sound l.reaches.at l.point.passed.tended over)
  rounds_by left x o s false e further over l =
      leads_to (round x).state o s (IsRound (round x).state (round x).moved) IsDone (λ p t f. f.passed.done e) l

  pub all_rounds : (left : ℕ) (x : StateSeen) (o : OpenEntry) (s : Seen) → Agrees x s → IsSound x s → IsAt stage.Settling o s → IsTended o s
      → are_over left x ≡ true → Leads (rounds left x) o s IsDone
  unfolding rounds are_over
  all_rounds zero x o s h sound at tended over = absurd (cc)
  all_rounds (suc left) x o s h sound at tended over =
      rounds_by left x o s (round x).moved refl (λ y p t. all_rounds left y p t) over (steps x o s h sound at tended)

-- where no line gives anything, the entry closes
last_by : (a b c d e f g : Option Action) (z : Action) → a ≡ None → b ≡ None → c ≡ None → d ≡ None → e ≡ None → f ≡ None → g ≡ None
    → first_action (a ∷ b ∷ c ∷ d ∷ e ∷ f ∷ g ∷ Some z ∷ []) ≡ Some z
last_by a b c d e f g z p q r s t u v =
    ap (λ (w : Option Action). first_action (w ∷ b ∷ c ∷ d ∷ e ∷ f ∷ g ∷ Some z ∷ [])) p
    ∙ ap (λ (w : Option Action). first_action (w ∷ c ∷ d ∷ e ∷ f ∷ g ∷ Some z ∷ [])) q
    ∙ ap (λ (w : Option Action). first_action (w ∷ d ∷ e ∷ f ∷ g ∷ Some z ∷ [])) r ∙ ap (λ (w : Option Action). first_action (w ∷ e ∷ f ∷ g ∷ Some z ∷ [])) s
    ∙ ap (λ (w : Option Action). first_action (w ∷ f ∷ g ∷ Some z ∷ [])) t ∙ ap (λ (w : Option Action). first_action (w ∷ g ∷ Some z ∷ [])) u
    ∙ ap (λ (w : Option Action). first_action (w ∷ Some z ∷ [])) v

pub closes_by : (o : OpenEntry) (s : Seen) → IsAt stage.Settling o s → IsDone o s → following s ≡ Some action.EntryCloses
closes_by o s at done =
    let tended = done.made.tended in
    let stage_gives : of_stage o s o.stage ≡ Some action.EntryCloses
    = ap (of_stage o s) at.stage_is
    ∙ last_by (next_of_clock s) (next_take_over s) (next_connected s) (first_of (config_action s) s.calls) (next_of_pass o s) (next_due_attempt s) (next_of_queue s)
    action.EntryCloses tended.clock tended.take_over tended.connected tended.configs tended.pass done.made.due done.queue in
    ap (option_and_then (following_in s)) at.current
    ∙ follows_by (of_calls o s) (of_links o s) (of_policies o s) (of_stage o s o.stage) action.EntryCloses at.quiescent.calls at.quiescent.links at.quiescent.policies stage_gives

module _ (keeps : SettlingKeeps) (clocks : ClockSteps) (nets : NetSteps) (configs : ConfigSteps) (steps : RoundSteps) (ends : RoundsEnd) (x : StateSeen) (o : OpenEntry)
    (s : Seen) (h : Agrees x s) (sound : IsSound x s) (at : IsAt stage.Settling o s) (fresh : o.turn ≡ None) where
  one : Leads (clocked x) o s IsClocked
  one = clocks x o s h sound at (record { turn = fresh })

  one_sound : IsSound (clocked x) one.reaches.seen
  one_sound = keeps.clocks x s one.reaches.seen one.reaches.actions h sound one.reaches.does one.reaches.agrees

  two : Leads (net_settled (clocked x)) one.reaches.entry one.reaches.seen IsJoined
  two = nets (clocked x) one.reaches.entry one.reaches.seen one.reaches.agrees one_sound one.reaches.at one.point

  two_sound : IsSound (net_settled (clocked x)) two.reaches.seen
  two_sound = keeps.nets (clocked x) one.reaches.seen two.reaches.seen two.reaches.actions one.reaches.agrees one_sound two.reaches.does two.reaches.agrees

  three : Leads (prepared x) two.reaches.entry two.reaches.seen IsTended
  three = configs (net_settled (clocked x)) two.reaches.entry two.reaches.seen two.reaches.agrees two_sound two.reaches.at two.point

  three_sound : IsSound (prepared x) three.reaches.seen
  three_sound =
      keeps.configs (net_settled (clocked x)) two.reaches.seen three.reaches.seen three.reaches.actions two.reaches.agrees two_sound three.reaches.does three.reaches.agrees

  over : are_over most (prepared x) ≡ true
  over = ends (prepared x) three.reaches.entry three.reaches.seen three.reaches.agrees three_sound three.reaches.at three.point

  four : Leads (settled x) three.reaches.entry three.reaches.seen IsDone
  four = all_rounds steps most (prepared x) three.reaches.entry three.reaches.seen three.reaches.agrees three_sound three.reaches.at three.point over

  last : Leads (settled x) two.reaches.entry two.reaches.seen IsDone
  last = leads_on (prepared x) (settled x) two.reaches.entry two.reaches.seen IsTended IsDone three four

  further : Leads (settled x) one.reaches.entry one.reaches.seen IsDone
  further = leads_on (net_settled (clocked x)) (settled x) one.reaches.entry one.reaches.seen IsJoined IsDone two last

  whole : Leads (settled x) o s IsDone
  whole = leads_on (clocked x) (settled x) o s IsClocked IsDone one further

  pub whole_settles : IsSettled x o s
  whole_settles = record { reaches = whole.reaches; reply = whole.reply; closes = closes_by whole.reaches.entry whole.reaches.seen whole.reaches.at whole.point }

pub settlings_are_steps : SettlingsAreSteps
settlings_are_steps keeps clocks nets configs makes serves ends x o s h at fresh sound =
    whole_settles keeps clocks nets configs (rounds_are_steps keeps makes serves) ends x o s h sound at fresh
