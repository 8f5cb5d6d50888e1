-- Where the channel serves none, a pass is over; and a pass comes to its end, since each attempt that it serves stands after the one before.
use Rattle.std.proofs.Common.{◌≡◌, ◌<◌, ◌≤◌, ◌+◌, ◌*◌, ◌&&◌, ◌||◌, ◌==◌, ◌∙◌, ap, arith, refl, sym, Bool, true, false, None, Option, Some, ℕ, zero, suc, inl, inr, is_some, length, nat_lt, ◌⊎◌}
use Rattle.std.proofs.lemmas.Bool.Decides.{nat_tests}
use Rattle.std.proofs.lemmas.List.{length-map}
use Rattle.std.specs.Prelude.{option_and_then}
use Rattle.call_actions.proofs.Places.{places_below}
use Rattle.channel_actions.proofs.Gone.{all_numbered}
use Rattle.channel_actions.specs.Agrees.{Agrees}
use Rattle.channel_actions.specs.Quiescent.{IsAt}
use Rattle.attempt_cases.proofs.PassActions.Queue.{Waits, next_waits, none_asks}
use Rattle.attempt_cases.specs.PassActions.Serves.{IsBeginning, IsPassing, IsServed, PassesEnd, PassesStop, ServeSteps, is_passed, is_passed_by, turn_of}
use Rattle.channel_actions.specs.SoundCalls.Sound.{to_come}
use Rattle.call_cases.specs.SettlingActions.Sound.{IsSound}
use Rattle.channel_core.specs.Settling.{also, most, served, stays}
use Rattle.channel_core.specs.States.{StateSeen}
use Rattle.channel_core.specs.Steps.{Moved, next_served}
use Rattle.net_actions.specs.Laws.{StatesAreSame}
use Rattle.picker_gate.specs.Pairs.{comes_after}
use Rattle.session_actions.specs.Attempts.{call_of}
use Rattle.session_actions.specs.Policies.{is_after, next_asked, next_of_pass, next_of_queue}
use Rattle.session_actions.specs.declared.attempt.Attempt.{Attempt}
use Rattle.session_actions.specs.declared.call.Call.{Call}
use Rattle.session_actions.specs.declared.entry.OpenEntry.{OpenEntry}
use Rattle.session_actions.specs.declared.entry.Stage.TheVariants as stage
use Rattle.session_actions.specs.declared.entry.Turn.{Turn}
use Rattle.session_actions.specs.declared.seen.Seen.{Seen}

-- the begin of a pass stands before all
first_after : (c i : ℕ) → comes_after (0, 0) (c, suc i) ≡ true
first_after c i = grind (arith, nat_tests)

after_afterwards : (p q : ℕ × ℕ) → (nat_lt p.0 q.0 || ((p.0 == q.0) && nat_lt p.1 q.1)) ≡ true → comes_after p q ≡ true
after_afterwards p q e = grind (arith, nat_tests)

module _ (state : StatesAreSame) (last : ℕ × ℕ) (x : StateSeen) (o : OpenEntry) (s : Seen) (h : Agrees x s) (none : next_served last x ≡ None) where
  after_the_first : last ≡ (0, 0) → (a : Attempt) (i : ℕ) → a.place ≡ suc i → true ≡ true → comes_after last (a.row.call, a.place) ≡ true
  after_the_first zero_ a i at e =
      ap (λ (p : ℕ × ℕ). comes_after p (a.row.call, a.place)) zero_ ∙ ap (λ (n : ℕ). comes_after (0, 0) (a.row.call, n)) at ∙ first_after a.row.call i

  no_queue : IsBeginning last o s → next_of_queue s ≡ None
  no_queue begin = none_asks state x s h last (λ (a : Attempt). true) (after_the_first begin.none) none

  no_further : next_asked (is_after (turn_of last)) s ≡ None
  no_further =
      none_asks state x s h last (is_after (turn_of last)) (λ a i at e. after_afterwards last (a.row.call, a.place) e) none

  no_pass : IsPassing last o s → next_of_pass o s ≡ None
  no_pass passing =
      elim passing.begun [
        | inl begin ↦ begin.made.tended.pass
        | inr turn ↦ ap (option_and_then (λ (t : Turn). next_asked (is_after t) s)) turn ∙ no_further
      ]

pub passes_stop : StatesAreSame → PassesStop
passes_stop state last x o s h sound at passing none =
    record { pass = no_pass state last x o s h none passing; queue = no_queue state last x o s h none }

-- by how much a pair is after the first one
abbrev weight : ℕ × ℕ → ℕ
weight p = 8796093022208 * p.0 + p.1

pub record IsLow (p : ℕ × ℕ) : Type 0 where
  pub call : p.0 ≤ 1048576
  pub row : p.1 < 8796093022208

after_parts : (p q : ℕ × ℕ) → comes_after p q ≡ true → ((p.0 + 1 ≤ q.0) ⊎ ((p.0 ≡ q.0) × (p.1 + 1 ≤ q.1)))
after_parts p q e = by_less (nat_lt p.0 q.0) refl
  where
    by_less : (b : Bool) → nat_lt p.0 q.0 ≡ b → ((p.0 + 1 ≤ q.0) ⊎ ((p.0 ≡ q.0) × (p.1 + 1 ≤ q.1)))
    by_less true l = inl (less p.0 q.0 l)
      where
        less : (a b : ℕ) → nat_lt a b ≡ true → a + 1 ≤ b
        less a b l = grind (arith, nat_tests)
    by_less false l = inr (same p q e l, further p q e l)
      where
        same : (p q : ℕ × ℕ) → comes_after p q ≡ true → nat_lt p.0 q.0 ≡ false → p.0 ≡ q.0
        same p q e l = grind (arith, nat_tests)

        further : (p q : ℕ × ℕ) → comes_after p q ≡ true → nat_lt p.0 q.0 ≡ false → p.1 + 1 ≤ q.1
        further p q e l = grind (arith, nat_tests)

heavier : (p q : ℕ × ℕ) → IsLow p → comes_after p q ≡ true → weight p + 1 ≤ weight q
heavier p q low e =
    let row : p.1 < 8796093022208 = low.row in
    elim (after_parts p q e) [
      | inl more ↦ omega (arith, more, row)
      | inr both ↦ (let same : p.0 ≡ q.0 = both.0 in let more : p.1 + 1 ≤ q.1 = both.1 in omega (arith, same, more))
    ]

lightest : (p : ℕ × ℕ) → IsLow p → weight p < 9223380832947798016
lightest p low =
    let call : p.0 ≤ 1048576 = low.call in
    let row : p.1 < 8796093022208 = low.row in
    omega (arith, call, row)

-- what waits has the number of a call and the place of an attempt
call_by : (s : Seen) (a : Attempt) (o : Option Call) → call_of a s ≡ o → is_some o ≡ true → a.row.call ≤ length s.calls
call_by s a None e there = absurd (let bad : false ≡ true = there in (cc))
call_by s a (Some c) e there = places_below s.calls a.row.call c e

low_by : (x : StateSeen) (s : Seen) → Agrees x s → IsSound x s → (p : ℕ × ℕ) → Waits p s → IsLow p
low_by x s h sound p w =
    let rows : length s.attempts ≡ length x.book.ledger.rows
    = sym (length-map s.attempts (λ (a : Attempt). a.row)) ∙ ap length h.columns.rows in
    let place : p.1 ≤ length s.attempts = places_below s.attempts p.1 w.attempt w.there in
    let owned = all_numbered (λ (a : Attempt). is_some (call_of a s)) s.attempts p.1 w.attempt w.there h.kept.owned in
    let call : w.attempt.row.call ≤ length s.calls = call_by s w.attempt (call_of w.attempt s) refl owned in
    let is : w.attempt.row.call ≡ p.0 = w.call in
    let few : length s.calls ≤ 1048576 = sound.few in
    let room : length x.book.ledger.rows + to_come x.book.calls < 8796093022208 = sound.room in
    record { call = omega (arith, call, is, few); row = omega (arith, rows, place, room) }

module _ (serves : ServeSteps) where
  ends_by : (left : ℕ) (last : ℕ × ℕ) (m : Moved) (o : OpenEntry) (s : Seen) (next : Option (ℕ × ℕ)) → Agrees m.state s → IsSound m.state s → IsAt stage.Settling o s
      → IsPassing last o s → IsLow last → 9223380832947798016 ≤ suc left + weight last → next_served last m.state ≡ next
      → ((p : ℕ × ℕ) (n : Moved) (q : OpenEntry) (t : Seen) → Agrees n.state t → IsSound n.state t → IsAt stage.Settling q t → IsPassing p q t → IsLow p
      → 9223380832947798016 ≤ left + weight p → is_passed left p n ≡ true)
      → is_passed_by (is_passed left) next m ≡ true
  ends_by left last m o s None h sound at passing low room e further = refl
  ends_by left last m o s (Some p) h sound at passing low room e further =
      let w = next_waits m.state s h last p e in
      let one : IsServed p m.state o s = serves last p m.state o s h sound at passing e in
      let more : weight last + 1 ≤ weight p = heavier last p low w.0 in
      further p (also m.moved (served p.0 p.1 m.state)) one.leads.reaches.entry one.leads.reaches.seen one.leads.reaches.agrees one.sound one.leads.reaches.at one.leads.point
      (low_by m.state s h sound p w.1) (room_on left (weight last) (weight p) room more)
    where
      room_on : (n a b : ℕ) → 9223380832947798016 ≤ suc n + a → a + 1 ≤ b → 9223380832947798016 ≤ n + b
      room_on n a b e f = omega (arith, e, f)

  all_end : (left : ℕ) (last : ℕ × ℕ) (m : Moved) (o : OpenEntry) (s : Seen) → Agrees m.state s → IsSound m.state s → IsAt stage.Settling o s → IsPassing last o s
      → IsLow last → 9223380832947798016 ≤ left + weight last → is_passed left last m ≡ true
  unfolding is_passed
  all_end zero last m o s h sound at passing low room = absurd (over (weight last) (lightest last low) room)
    where
      over : (n : ℕ) → n < 9223380832947798016 → 9223380832947798016 ≤ 0 + n → ⊥
      over n e f = omega (arith, e, f)
  all_end (suc left) last m o s h sound at passing low room =
      ends_by left last m o s (next_served last m.state) h sound at passing low room refl (λ p n q t. all_end left p n q t)

  pub passes_end : PassesEnd
  passes_end x o s h sound at made =
      all_end most (0, 0) (stays x) o s h sound at
      (record {
        clock = made.tended.clock;
        take_over = made.tended.take_over;
        connected = made.tended.connected;
        configs = made.tended.configs;
        begun = inl (record { none = refl; made = made });
      }) (record { call = omega arith; row = omega arith }) (omega arith)
