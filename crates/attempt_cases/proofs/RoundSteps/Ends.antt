-- The rounds of a settling come to an end.
use Rattle.std.proofs.Common.{◌≡◌, ◌<◌, ◌≤◌, ◌+◌, ◌-◌, ◌||◌, ◌∷◌, ℕ, zero, suc, Bool, true, false, List, [], Option, None, Some, inl, refl, arith, length, if◌then◌else◌}
use Rattle.attempt_ledger.specs.declared.row.Row.{Row}
use Rattle.call_actions.specs.Laws.{AttemptsAreDue}
use Rattle.channel_actions.proofs.Calls.Going.Arms.{CallLaws}
use Rattle.channel_actions.specs.Agrees.{Agrees}
use Rattle.channel_actions.specs.Quiescent.{IsAt}
use Rattle.attempt_cases.proofs.PassActions.Queue.{next_waits}
use Rattle.attempt_cases.proofs.RoundSteps.Falls.{Falling, Falls, falling, load, may_all}
use Rattle.attempt_cases.proofs.RoundSteps.Loads.{may}
use Rattle.attempt_cases.proofs.RoundSteps.Strict.{made_low, served_low, waits_so}
use Rattle.call_cases.proofs.SettlingActions.Composed.{rounds_are_steps}
use Rattle.channel_actions.proofs.Calls.Sound.Carried.{AreSound}
use Rattle.channel_actions.proofs.Calls.Sound.Keeping.{sound_of}
use Rattle.channel_actions.proofs.Calls.Sound.Steps.{one_if, waiting, waits_in}
use Rattle.attempt_cases.specs.PassActions.Serves.{IsPassing, IsServed, ServeSteps}
use Rattle.attempt_cases.specs.RoundSteps.Laws.{RoundsAreShort}
use Rattle.call_cases.specs.SettlingActions.Laws.{SettlingKeeps}
use Rattle.channel_actions.specs.SoundCalls.Sound.{to_come}
use Rattle.call_cases.specs.SettlingActions.Sound.{IsSound}
use Rattle.call_cases.specs.SettlingActions.Steps.{IsMade, IsRound, IsTended, Leads, MakingSteps, QueueSteps, RoundSteps, RoundsEnd, are_over, round_made_state}
use Rattle.channel_core.proofs.RestingSteps.{make_round, pass, serve}
use Rattle.channel_core.specs.Settling.{also, most, passed, passed_on, queue_served, round, served, stays}
use Rattle.channel_core.specs.States.{StateSeen}
use Rattle.channel_core.specs.Steps.{Moved, next_served, round_made}
use Rattle.channel_core.specs.declared.state.slots.CallSlot.{CallSlot}
use Rattle.session_actions.specs.declared.entry.OpenEntry.{OpenEntry}
use Rattle.session_actions.specs.declared.entry.Stage.TheVariants as stage
use Rattle.session_actions.specs.declared.seen.Seen.{Seen}

-- there is no more to be done than attempts that are there and those that are to come
one_most : (b : Bool) → one_if b ≤ 1
one_most true = omega arith
one_most false = omega arith

waiting_most : (rows : List Row) → waiting rows ≤ length rows
waiting_most [] = omega arith
waiting_most (r ∷ rows) =
    let rest : waiting rows ≤ length rows = waiting_most rows in
    let one : one_if (waits_in r) ≤ 1 = one_most (waits_in r) in
    let first : waiting (r ∷ rows) ≡ one_if (waits_in r) + waiting rows = refl in
    let second : length (r ∷ rows) ≡ suc (length rows) = refl in
    omega (arith, rest, one, first, second)

may_if : (b : Bool) (n : ℕ) → (if b then 0 else 5 - n) ≤ 5 - n
may_if true n = omega arith
may_if false n = omega arith

may_most : (calls : List CallSlot) → may_all calls ≤ to_come calls
may_most [] = omega arith
may_most (slot ∷ calls) =
    let rest : may_all calls ≤ to_come calls = may_most calls in
    let one : may slot.call ≤ 5 - slot.call.attempts.sent = may_if slot.call.attempts.stopped slot.call.attempts.sent in
    let first : may_all (slot ∷ calls) ≡ may slot.call + may_all calls = refl in
    let second : to_come (slot ∷ calls) ≡ (5 - slot.call.attempts.sent) + to_come calls = refl in
    omega (arith, rest, one, first, second)

load_most : (x : StateSeen) (s : Seen) → IsSound x s → load x + 1 ≤ 18446744073709551615
load_most x s sound =
    let rows : waiting x.book.ledger.rows ≤ length x.book.ledger.rows = waiting_most x.book.ledger.rows in
    let left : may_all x.book.calls ≤ to_come x.book.calls = may_most x.book.calls in
    let room : length x.book.ledger.rows + to_come x.book.calls < 8796093022208 = sound.room in
    omega (arith, rows, left, room)

more_one : (a b c : ℕ) → a + 1 ≤ b → b ≤ c → a + 1 ≤ c
more_one a b c e f = omega (arith, e, f)

one_more : (a b c : ℕ) → a ≤ b → b + 1 ≤ c → a + 1 ≤ c
one_more a b c e f = omega (arith, e, f)

module _ (laws : CallLaws) (dues : AttemptsAreDue) (keeps : SettlingKeeps) (makes : MakingSteps) (queues : QueueSteps) (serves : ServeSteps) where
  -- a pass that served some
  module _ (y : StateSeen) (o : OpenEntry) (s : Seen) (h : Agrees y s) (sound : IsSound y s) (at : IsAt stage.Settling o s) (passing : IsPassing (0, 0) o s) where
    pass_by : (left : ℕ) (next : Option (ℕ × ℕ)) → next_served (0, 0) y ≡ next → (passed_on (passed left) next (stays y)).moved ≡ true
        → load (passed_on (passed left) next (stays y)).state + 1 ≤ load y
    pass_by left None e moved = absurd (let bad : false ≡ true = moved in (cc))
    pass_by left (Some p) e moved =
        let one : IsServed p y o s = serves (0, 0) p y o s h sound at passing e in
        let low : load (served p.0 p.1 y).state + 1 ≤ load y = served_low laws y (sound_of y sound.calls) p.0 p.1 (waits_so y s h p (next_waits y s h (0, 0) p e).1) one.moved in
        let after : AreSound (served p.0 p.1 y).state = (serve Falls (falling laws) p.0 p.1 y (sound_of y sound.calls)).settled.kept.sound in
        let m : Moved = also false (served p.0 p.1 y) in
        let more : Falling (served p.0 p.1 y).state (passed left p m).state = pass Falls (falling laws) left p m after in
        one_more (load (passed left p m).state) (load (served p.0 p.1 y).state) (load y) more.less low

    pub pass_low : (left : ℕ) → (passed left (0, 0) (stays y)).moved ≡ true → load (passed left (0, 0) (stays y)).state + 1 ≤ load y
    unfolding passed
    pass_low zero moved = absurd (let bad : false ≡ true = moved in (cc))
    pass_low (suc left) moved = pass_by left (next_served (0, 0) y) refl moved

  -- a round in which something moved
  module _ (x : StateSeen) (o : OpenEntry) (s : Seen) (h : Agrees x s) (sound : IsSound x s) (at : IsAt stage.Settling o s) (tended : IsTended o s) where
    abbrev y : StateSeen
    y = round_made_state x

    made : Leads y o s IsMade
    made = makes x o s h sound at tended

    steady : IsSound y made.reaches.seen
    steady = keeps.making x s made.reaches.seen made.reaches.actions h sound made.reaches.does made.reaches.agrees

    passing : IsPassing (0, 0) made.reaches.entry made.reaches.seen
    passing = record {
      clock = made.point.tended.clock;
      take_over = made.point.tended.take_over;
      connected = made.point.tended.connected;
      configs = made.point.tended.configs;
      begun = inl (record { none = refl; made = made.point });
    }

    making : Falling x y
    making = make_round Falls (falling laws) x (sound_of x sound.calls)

    queue : Falling y (queue_served y).state
    queue = pass Falls (falling laws) most (0, 0) (stays y) (sound_of y steady.calls)

    low_by : (b : Bool) → (round_made x).moved ≡ b → (b || (queue_served y).moved) ≡ true → load (queue_served y).state + 1 ≤ load x
    low_by true e moved =
        one_more (load (queue_served y).state) (load y) (load x) queue.less (made_low laws dues x s h sound e)
    low_by false e moved =
        more_one (load (queue_served y).state) (load y) (load x)
        (pass_low y made.reaches.entry made.reaches.seen made.reaches.agrees steady made.reaches.at passing most moved) making.less

    pub round_low : (round x).moved ≡ true → load (round x).state + 1 ≤ load x
    round_low moved = low_by (round_made x).moved refl moved

  -- rounds
  steps : RoundSteps
  steps = rounds_are_steps keeps makes queues

  less_left : (a b left : ℕ) → a + 1 ≤ b → b + 1 ≤ suc left → a + 1 ≤ left
  less_left a b left e f = omega (arith, e, f)

  over_by : (left : ℕ) (x : StateSeen) (o : OpenEntry) (s : Seen) (moved : Bool) → (round x).moved ≡ moved → Agrees x s → IsSound x s → IsAt stage.Settling o s → IsTended o s
      → load x + 1 ≤ suc left
      → ((z : StateSeen) (p : OpenEntry) (t : Seen) → Agrees z t → IsSound z t → IsAt stage.Settling p t → IsTended p t → load z + 1 ≤ left → are_over left z ≡ true)
      → (if moved then are_over left (round x).state else true) ≡ true
  over_by left x o s true e h sound at tended room further =
      let one : Leads (round x).state o s (IsRound (round x).state (round x).moved) = steps x o s h sound at tended in
      further (round x).state one.reaches.entry one.reaches.seen one.reaches.agrees one.point.sound one.reaches.at one.point.passed.tended
      (less_left (load (round x).state) (load x) left (round_low x o s h sound at tended e) room)
  over_by left x o s false e h sound at tended room further = refl

  all_over : (left : ℕ) (x : StateSeen) (o : OpenEntry) (s : Seen) → Agrees x s → IsSound x s → IsAt stage.Settling o s → IsTended o s → load x + 1 ≤ left
      → are_over left x ≡ true
  unfolding are_over
  all_over zero x o s h sound at tended room = absurd (none (load x) room)
    where
      none : (n : ℕ) → n + 1 ≤ 0 → ⊥
      none n e = omega (arith, e)
  all_over (suc left) x o s h sound at tended room =
      over_by left x o s (round x).moved refl h sound at tended room (λ z p t. all_over left z p t)

  pub rounds_end : RoundsEnd
  rounds_end x o s h sound at tended = all_over most x o s h sound at tended (load_most x s sound)

pub rounds_are_short : CallLaws → AttemptsAreDue → RoundsAreShort
rounds_are_short laws dues keeps makes queues serves x o s h sound at tended = rounds_end laws dues keeps makes queues serves x o s h sound at tended
