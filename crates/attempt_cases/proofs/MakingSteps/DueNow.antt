-- The attempts of a round are those that are due, call by call.
use Rattle.std.proofs.Common.{◌≡◌, ◌≤◌, ◌<◌, ◌∙◌, ◌==◌, ◌&&◌, ◌||◌, ◌-◌, ◌∷◌, ap, arith, refl, sym, subst, Bool, true, false, not, List, [], Option, None, Some, ℕ, if◌then◌else◌, length, nat_le, slice_set}
use Rattle.std.proofs.lemmas.Bool.{and_from, and_parts}
use Rattle.std.proofs.lemmas.Bool.Decides.{nat_tests}
use Rattle.std.specs.Option.{option_map}
use Rattle.std.specs.Prelude.{option_and_then}
use Rattle.call_actions.proofs.Places.{places_below}
use Rattle.channel_actions.proofs.Calls.Going.Arms.{CallLaws}
use Rattle.channel_actions.proofs.Links.Settings.Firsts.{first_numbered, none_numbered}
use Rattle.channel_actions.proofs.Links.Settings.Slots.{put_away}
use Rattle.channel_actions.proofs.Links.Settings.Timers.{timers_exactly}
use Rattle.channel_actions.specs.Agrees.{Agrees}
use Rattle.channel_actions.specs.Calls.{HasSlot, due_of}
use Rattle.channel_actions.specs.Quiescent.{IsAt}
use Rattle.channel_actions.specs.Clock.{DrawsAlike}
use Rattle.channel_actions.specs.KeptCalls.Laws.{EarlyAlong}
use Rattle.channel_actions.specs.Sets.{PairsAreExactly, is_in_dues}
use Rattle.call_cases.proofs.ConfiguredCalls.Lists.{equal_numbers, same_numbered, same_words}
use Rattle.attempt_cases.proofs.MakingSteps.Keys.{AreAscending, is_key, self_equal}
use Rattle.attempt_cases.proofs.MakingSteps.Strips.{made_calls, made_dues, made_moment, made_too, slot_after, with_dues}
use Rattle.call_cases.proofs.SettlingActions.Composed.{stays_at}
use Rattle.channel_actions.proofs.HeldTexts.Carried.{Trims, rests_trim}
use Rattle.channel_actions.proofs.SoundBuffers.Carried.{Stay, stay_rests}
use Rattle.channel_actions.proofs.Calls.Sound.Carried.{Settles, rests}
use Rattle.attempt_cases.proofs.SettlingKeeps.Keeping.{stays_by}
use Rattle.attempt_cases.specs.MakingSteps.Laws.{DueNext, IsDueDone, OneMakes}
use Rattle.call_cases.specs.SettlingActions.Sound.{IsSound}
use Rattle.call_cases.specs.SettlingActions.Steps.{IsMade, IsTended, Leads}
use Rattle.channel_core.proofs.Places.{put_there}
use Rattle.channel_core.proofs.RestingSteps.{make_all}
use Rattle.channel_core.specs.States.{StateSeen}
use Rattle.channel_core.specs.Steps.{made_one}
use Rattle.channel_core.specs.Tables.{numbered, without_due}
use Rattle.channel_core.specs.Timing.{number_of, timer_moved}
use Rattle.channel_core.specs.declared.state.slots.CallSlot.{CallSlot}
use Rattle.picker_gate.specs.Pairs.{has}
use Rattle.session_actions.specs.Calls.{is_open_call}
use Rattle.session_actions.specs.DueAttempts.{next_due}
use Rattle.session_actions.specs.Entries.{now}
use Rattle.session_actions.specs.Making.{due_action, due_attempt, due_if_past}
use Rattle.session_actions.specs.Words as words
use Rattle.session_actions.specs.Words.{holds, is_number}
use Rattle.session_actions.specs.declared.action.Action.{Action}
use Rattle.session_actions.specs.declared.call.Call.{Call}
use Rattle.session_actions.specs.declared.entry.OpenEntry.{OpenEntry}
use Rattle.session_actions.specs.declared.entry.Stage.TheVariants as stage
use Rattle.session_actions.specs.declared.seen.Seen.{Seen}

-- a call is due by a moment
pub record IsDueBy (s : Seen) (moment key : ℕ) : Type 0 where
  pub at : ℕ
  pub in_dues : is_in_dues s at key ≡ true
  pub past : nat_le at moment ≡ true

-- the call of a pair of the dues
pub record DueCall (s : Seen) (at key : ℕ) : Type 0 where
  pub call : Call
  pub there : words.numbered s.calls key ≡ Some call
  pub is_open : is_open_call call ≡ true
  pub next : next_due call s ≡ Some at

due_if : (s : Seen) (at key : ℕ) (c : Call) (b : Bool) → is_open_call c ≡ b → words.numbered s.calls key ≡ Some c → (q : Option ℕ) → next_due c s ≡ q
    → is_number at (if b then q else None) ≡ true → DueCall s at key
due_if s at key c true open_now there None e is = absurd (let bad : false ≡ true = is in (cc))
due_if s at key c true open_now there (Some m) e is =
    record { call = c; there = there; is_open = open_now; next = e ∙ ap (λ (n : ℕ). Some n) (equal_numbers m at is) }
due_if s at key c false open_now there q e is = absurd (let bad : false ≡ true = is in (cc))

call_by : (s : Seen) (at key : ℕ) (o : Option Call) → words.numbered s.calls key ≡ o → holds (λ (c : Call). is_number at (due_of s c)) o ≡ true → DueCall s at key
call_by s at key None e is = absurd (let bad : false ≡ true = is in (cc))
call_by s at key (Some c) e is = due_if s at key c (is_open_call c) refl e (next_due c s) refl is

pub due_call : (s : Seen) (at key : ℕ) → is_in_dues s at key ≡ true → DueCall s at key
due_call s at key e = call_by s at key (words.numbered s.calls key) refl e

-- and back
pub in_dues_by : (s : Seen) (at key : ℕ) (c : Call) → words.numbered s.calls key ≡ Some c → is_open_call c ≡ true → next_due c s ≡ Some at → is_in_dues s at key ≡ true
in_dues_by s at key c there is_open next =
    ap (holds (λ (d : Call). is_number at (due_of s d))) there
    ∙ ap (λ (b : Bool). is_number at (if b then next_due c s else None)) is_open ∙ ap (is_number at) next ∙ self_equal at

-- a call of which none is due
none_past : (s : Seen) (c : Call) (m : ℕ) (b : Bool) → nat_le m (now s) ≡ b → b ≡ false → (if b then Some (due_attempt c s m) else None) ≡ None
none_past s c m true e off = absurd (let bad : true ≡ false = off in (cc))
none_past s c m false e off = refl

none_next : (s : Seen) (c : Call) (q : Option ℕ) → next_due c s ≡ q → ((m : ℕ) → q ≡ Some m → nat_le m (now s) ≡ false) → option_and_then (due_if_past c s) q ≡ None
none_next s c None e late = refl
none_next s c (Some m) e late = none_past s c m (nat_le m (now s)) refl (late m refl)

none_open : (s : Seen) (c : Call) (b : Bool) → is_open_call c ≡ b → (is_open_call c ≡ true → (m : ℕ) → next_due c s ≡ Some m → nat_le m (now s) ≡ false)
    → (if b then option_and_then (due_if_past c s) (next_due c s) else None) ≡ None
none_open s c true e late = none_next s c (next_due c s) refl (late e)
none_open s c false e late = refl

pub none_due : (s : Seen) (c : Call) → (is_open_call c ≡ true → (m : ℕ) → next_due c s ≡ Some m → nat_le m (now s) ≡ false) → due_action s c ≡ None
none_due s c late = none_open s c (is_open_call c) refl late

-- and one of which none is given
late_test : (s : Seen) (c : Call) (m : ℕ) (b : Bool) → nat_le m (now s) ≡ b → (if b then Some (due_attempt c s m) else None) ≡ None → b ≡ false
late_test s c m true e off = absurd (let bad : Some (due_attempt c s m) ≡ None = off in (cc))
late_test s c m false e off = refl

pub late_after : (s : Seen) (c : Call) (m : ℕ) → is_open_call c ≡ true → next_due c s ≡ Some m → due_action s c ≡ None → nat_le m (now s) ≡ false
late_after s c m is_open next off =
    late_test s c m (nat_le m (now s)) refl
    (sym (ap (λ (b : Bool). if b then option_and_then (due_if_past c s) (next_due c s) else None) is_open ∙ ap (option_and_then (due_if_past c s)) next) ∙ off)

-- a slot whose timer was taken out, or not
abbrev pub stripped : Bool → CallSlot → CallSlot
stripped b slot = if b then without_due slot else slot

pub not_of : (b : Bool) → not b ≡ true → b ≡ false
not_of true e = absurd (let bad : false ≡ true = e in (cc))
not_of false e = refl

and_none : (a : Bool) → (a && false) ≡ false
and_none true = refl
and_none false = refl

and_all : (a : Bool) → (a && true) ≡ a
and_all true = refl
and_all false = refl

less_not : (n k : ℕ) → n < k → (k == n) ≡ false
less_not n k e = grind (arith, nat_tests)

pub not_back : (n k : ℕ) → (k == n) ≡ false → (n == k) ≡ false
not_back n k e = grind (arith, nat_tests)

less_all : (n k : ℕ) → n < k → k < n → ⊥
less_all n k e f = omega (arith, e, f)

less_self : (n : ℕ) → n < n → ⊥
less_self n e = omega (arith, e)

-- where the loop stands: these are left to be made, and their timers are taken out of the channel
pub record Loop (keys : List ℕ) (dues : List (ℕ × ℕ)) (calls : List CallSlot) (y : StateSeen) (o : OpenEntry) (s : Seen) : Type 0 where
  pub agrees : Agrees y s
  pub sound : IsSound y s
  pub at : IsAt stage.Settling o s
  pub tended : IsTended o s
  pub ascending : AreAscending keys
  pub slots : (k : ℕ) → numbered calls k ≡ option_map (stripped (is_key keys k)) (numbered y.book.calls k)
  pub timers : PairsAreExactly dues (λ m k. is_in_dues s m k && not (is_key keys k))
  pub late : (m k : ℕ) → has dues (m, k) ≡ true → nat_le m y.book.moment ≡ false
  pub due : (k : ℕ) → is_key keys k ≡ true → IsDueBy s y.book.moment k

-- none is left: the channel is as it is said to be
module _ (dues : List (ℕ × ℕ)) (calls : List CallSlot) (y : StateSeen) (o : OpenEntry) (s : Seen) (l : Loop [] dues calls y o s) where
  same_slot : (q : Option CallSlot) → option_map (stripped false) q ≡ q
  same_slot None = refl
  same_slot (Some slot) = refl

  calls_same : calls ≡ y.book.calls
  calls_same =
      same_numbered calls y.book.calls (λ k. sym (same_words calls k) ∙ l.slots k ∙ same_slot (numbered y.book.calls k) ∙ same_words y.book.calls k)

  timers_same : PairsAreExactly dues (is_in_dues s)
  timers_same = record { rising = l.timers.rising; exact = λ m k. l.timers.exact m k ∙ and_all (is_in_dues s m k) }

  agrees_so : Agrees (record y { dues = dues }) s
  agrees_so =
      let h : Agrees y s = l.agrees in
      record {
        clock = record { entry_is = h.clock.entry_is; moment = h.clock.moment; draws = draws s.current h.clock.draws };
        columns = h.columns;
        configs = record { authority = h.configs.authority; shut = h.configs.shut; held = h.configs.held; unconfigured = h.configs.unconfigured; policy = h.configs.policy };
        buckets = h.buckets;
        calls = record {
          count = h.calls.count;
          each = λ n c there. let k : HasSlot y s c n = h.calls.each n c there in record {
            slot = k.slot;
            there = k.there;
            sees = record { bucket = k.sees.bucket; serves = k.sees.serves; order = k.sees.order; turn = k.sees.turn; due = k.sees.due; deadline_is = k.sees.deadline_is };
          };
        };
        links = record { count = h.links.count; each = λ n d there. let k = h.links.each n d there in record { slot = k.slot; there = k.there; sees = k.sees } };
        net = h.net;
        orderly = h.orderly;
        sets = record {
          queue = h.sets.queue;
          ready_waiters = h.sets.ready_waiters;
          dues = timers_same;
          deadlines = h.sets.deadlines;
          awaiting_config = h.sets.awaiting_config;
          fail_fast = h.sets.fail_fast;
          outstanding = h.sets.outstanding;
          resets = h.sets.resets;
        };
        kept = h.kept;
      }
    where
      draws : (c : Option OpenEntry) → DrawsAlike c y → DrawsAlike c (record y { dues = dues })
      draws None d = tt
      draws (Some p) d = (d.0, d.1)

  agrees_now : Agrees (with_dues dues calls y) s
  agrees_now = subst (λ (c : List CallSlot). Agrees (with_dues dues c y) s) (sym calls_same) agrees_so

  none_left : (m : ℕ) (d : Call) → words.numbered s.calls m ≡ Some d → due_action s d ≡ None
  none_left m d there =
      none_due s d (λ is_open at next.
      ap (nat_le at) l.agrees.clock.moment ∙ l.late at m (l.timers.exact at m ∙ and_all (is_in_dues s at m) ∙ in_dues_by s at m d there is_open next))

  pub loop_ends : Leads (with_dues dues calls y) o s IsMade
  loop_ends =
      stays_at (with_dues dues calls y) o s IsMade agrees_now l.at
      (record { tended = l.tended; due = none_numbered (due_action s) s.calls none_left })

-- the next one is made
module _ (one : OneMakes) (laws : CallLaws) (along : EarlyAlong) (n : ℕ) (rest : List ℕ) (dues : List (ℕ × ℕ)) (calls : List CallSlot) (y : StateSeen) (o : OpenEntry)
    (s : Seen) (l : Loop (n ∷ rest) dues calls y o s) where
  is_first : is_key (n ∷ rest) n ≡ true
  is_first = ap (λ (b : Bool). b || is_key rest n) (self_equal n)

  pub b : IsDueBy s y.book.moment n
  b = l.due n is_first

  pub d : DueCall s b.at n
  d = due_call s b.at n b.in_dues

  pub own : HasSlot y s d.call n
  own = l.agrees.calls.each n d.call d.there

  not_rest : is_key rest n ≡ false
  not_rest = by_bool (is_key rest n) refl
    where
      by_bool : (b : Bool) → is_key rest n ≡ b → b ≡ false
      by_bool true e = absurd (less_self n (l.ascending.0 n e))
      by_bool false e = refl

  -- none of a call below is due
  below_late : (j : ℕ) (c : Call) → j < n → words.numbered s.calls j ≡ Some c → due_action s c ≡ None
  below_late j c below there =
      none_due s c (λ is_open at next.
      let in_dues : is_in_dues s at j ≡ true = in_dues_by s at j c there is_open next in
      let away : is_key (n ∷ rest) j ≡ false = not_key j below in
      let there_is : has dues (at, j) ≡ true = l.timers.exact at j ∙ and_from (is_in_dues s at j) (not (is_key (n ∷ rest) j)) in_dues (ap not away) in
      ap (nat_le at) l.agrees.clock.moment ∙ l.late at j there_is)
    where
      in_rest : (j : ℕ) → j < n → (b : Bool) → is_key rest j ≡ b → b ≡ false
      in_rest j below true e = absurd (less_all n j (l.ascending.0 j e) below)
      in_rest j below false e = refl

      not_key : (j : ℕ) → j < n → is_key (n ∷ rest) j ≡ false
      not_key j below = ap (λ (b : Bool). b || is_key rest j) (less_not j n below) ∙ in_rest j below (is_key rest j) refl

  does_it : Action
  does_it = due_attempt d.call s b.at

  gives : due_action s d.call ≡ Some does_it
  unfolding does_it
  gives =
      ap (λ (z : Bool). if z then option_and_then (due_if_past d.call s) (next_due d.call s) else None) d.is_open ∙ ap (option_and_then (due_if_past d.call s)) d.next
      ∙ ap (λ (z : Bool). if z then Some (due_attempt d.call s b.at) else None) (ap (nat_le b.at) l.agrees.clock.moment ∙ b.past)

  due_next : DueNext n s
  due_next = record {
    call = d.call;
    there = d.there;
    does = does_it;
    gives = gives;
    first = first_numbered (due_action s) s.calls n d.call does_it d.there gives below_late;
  }

  pub lead : Leads (made_one n y) o s (IsDueDone n)
  lead = one n y o s l.agrees l.sound l.at l.tended due_next

  abbrev pub y1 : StateSeen
  y1 = made_one n y

  abbrev pub s1 : Seen
  s1 = lead.reaches.seen

  abbrev pub after : CallSlot
  after = slot_after n own.slot y own.there

  abbrev pub dues1 : List (ℕ × ℕ)
  dues1 = timer_moved n None after.due dues

  abbrev pub calls1 : List CallSlot
  calls1 = slice_set calls (n - 1) after

  there_too : numbered calls n ≡ Some (without_due own.slot)
  there_too =
      l.slots n ∙ ap (option_map (stripped (is_key (n ∷ rest) n))) own.there ∙ ap (λ (z : Bool). Some (stripped z own.slot)) is_first

  pub made_so : made_one n (with_dues dues calls y) ≡ with_dues dues1 calls1 y1
  made_so = made_too n own.slot y own.there dues calls there_too

  -- what the session has of timers after it
  abbrev test1 : ℕ → ℕ → Bool
  test1 m k = if k == n then is_number m after.due else is_in_dues s m k

  was_own : (m : ℕ) → is_in_dues s m n ≡ is_number m own.slot.due
  was_own m = ap (holds (λ (c : Call). is_number m (due_of s c))) d.there ∙ ap (is_number m) own.sees.due

  timers_y1 : PairsAreExactly (made_one n y).dues test1
  timers_y1 =
      subst (λ (t : List (ℕ × ℕ)). PairsAreExactly t test1) (sym (made_dues n own.slot y own.there))
      (timers_exactly n y.dues (is_in_dues s) own.slot.due after.due l.agrees.sets.dues was_own test1
      (λ m k e. ap (λ (z : Bool). if z then is_number m after.due else is_in_dues s m k) e)
      (λ m. ap (λ (z : Bool). if z then is_number m after.due else is_in_dues s m n) (self_equal n)))

  in_test : (m k : ℕ) → is_in_dues s1 m k ≡ test1 m k
  in_test m k = sym (lead.reaches.agrees.sets.dues.exact m k) ∙ timers_y1.exact m k

  in_away : (m k : ℕ) → (k == n) ≡ false → is_in_dues s1 m k ≡ is_in_dues s m k
  in_away m k e = in_test m k ∙ ap (λ (z : Bool). if z then is_number m after.due else is_in_dues s m k) e

  in_own : (m : ℕ) → is_in_dues s1 m n ≡ is_number m after.due
  in_own m = in_test m n ∙ ap (λ (z : Bool). if z then is_number m after.due else is_in_dues s m n) (self_equal n)

  abbrev test2 : ℕ → ℕ → Bool
  test2 m k = is_in_dues s1 m k && not (is_key rest k)

  timers_now : PairsAreExactly dues1 test2
  timers_now =
      timers_exactly n dues (λ m k. is_in_dues s m k && not (is_key (n ∷ rest) k)) None after.due l.timers
      (λ m. ap (λ (z : Bool). is_in_dues s m n && not z) is_first ∙ and_none (is_in_dues s m n)) test2
      (λ m k e. ap (λ (z : Bool). z && not (is_key rest k)) (in_away m k e) ∙ ap (λ (z : Bool). is_in_dues s m k && not (z || is_key rest k)) (sym (not_back n k e)))
      (λ m. ap (λ (z : Bool). is_in_dues s1 m n && not z) not_rest ∙ and_all (is_in_dues s1 m n) ∙ in_own m)

  -- none that was made is due
  moment_same : y1.book.moment ≡ y.book.moment
  moment_same = made_moment n own.slot y own.there

  late_by : (m k : ℕ) (z : Bool) → (k == n) ≡ z → is_in_dues s1 m k ≡ true → is_key rest k ≡ false → nat_le m y1.book.moment ≡ false
  late_by m k true e in_dues off =
      let here : k ≡ n = equal_numbers k n e in
      let c : DueCall s1 m n = due_call s1 m n (ap (is_in_dues s1 m) (sym here) ∙ in_dues) in
      ap (nat_le m) (sym lead.reaches.agrees.clock.moment) ∙ late_after s1 c.call m c.is_open c.next (lead.point.none c.call c.there)
  late_by m k false e in_dues off =
      let was : is_in_dues s m k ≡ true = sym (in_away m k e) ∙ in_dues in
      let away : is_key (n ∷ rest) k ≡ false = ap (λ (z : Bool). z || is_key rest k) (not_back n k e) ∙ off in
      ap (nat_le m) moment_same ∙ l.late m k (l.timers.exact m k ∙ and_from (is_in_dues s m k) (not (is_key (n ∷ rest) k)) was (ap not away))

  late_now : (m k : ℕ) → has dues1 (m, k) ≡ true → nat_le m y1.book.moment ≡ false
  late_now m k e =
      let both = and_parts (is_in_dues s1 m k) (not (is_key rest k)) (sym (timers_now.exact m k) ∙ e) in
      late_by m k (k == n) refl both.0 (not_of (is_key rest k) both.1)

  due_now : (k : ℕ) → is_key rest k ≡ true → IsDueBy s1 y1.book.moment k
  due_now k e =
      let was : IsDueBy s y.book.moment k = l.due k (ap (λ (z : Bool). (n == k) || z) e ∙ or_true (n == k)) in
      record {
        at = was.at;
        in_dues = in_away was.at k (less_not n k (l.ascending.0 k e)) ∙ was.in_dues;
        past = ap (nat_le was.at) moment_same ∙ was.past;
      }
    where
      or_true : (z : Bool) → (z || true) ≡ true
      or_true true = refl
      or_true false = refl

  -- the slots
  slot_by : (k : ℕ) (z : Bool) → (k == n) ≡ z → numbered calls1 k ≡ option_map (stripped (is_key rest k)) (numbered y1.book.calls k)
  slot_by k true e =
      subst (λ (j : ℕ). numbered calls1 j ≡ option_map (stripped (is_key rest j)) (numbered y1.book.calls j)) (sym (equal_numbers k n e))
      (put_there calls n (without_due own.slot) after there_too
      ∙ sym (ap (λ (c : List CallSlot). option_map (stripped (is_key rest n)) (numbered c n)) (made_calls n own.slot y own.there)
      ∙ ap (option_map (stripped (is_key rest n))) (put_there y.book.calls n own.slot after own.there) ∙ ap (λ (z : Bool). Some (stripped z after)) not_rest))
  slot_by k false e =
      put_away calls n k (without_due own.slot) after there_too e ∙ l.slots k
      ∙ ap (λ (z : Bool). option_map (stripped (z || is_key rest k)) (numbered y.book.calls k)) (not_back n k e)
      ∙ sym (ap (λ (c : List CallSlot). option_map (stripped (is_key rest k)) (numbered c k)) (made_calls n own.slot y own.there)
      ∙ ap (option_map (stripped (is_key rest k))) (put_away y.book.calls n k own.slot after own.there e))

  -- what it keeps
  pub low : number_of n ≡ n
  low =
      let below : n ≤ length s.calls = places_below s.calls n d.call d.there in
      let few : length s.calls ≤ 1048576 = l.sound.few in
      omega (arith, below, few)

  one_settles : (z : StateSeen) → Settles z (made_one n z)
  one_settles z = subst (λ (m : ℕ). Settles z (made_one m z)) low (make_all Settles (rests laws) (n ∷ []) z)

  one_stays : (z : StateSeen) → Stay z (made_one n z)
  one_stays z = subst (λ (m : ℕ). Stay z (made_one m z)) low (make_all Stay (stay_rests laws) (n ∷ []) z)

  one_trims : (z : StateSeen) → Trims z (made_one n z)
  one_trims z = subst (λ (m : ℕ). Trims z (made_one m z)) low (make_all Trims rests_trim (n ∷ []) z)

  sound_now : IsSound y1 s1
  sound_now =
      stays_by (made_one n) one_settles one_stays one_trims along y s s1 lead.reaches.actions l.agrees l.sound lead.reaches.does lead.reaches.agrees

  pub loop_on : Loop rest dues1 calls1 y1 lead.reaches.entry s1
  loop_on = record {
    agrees = lead.reaches.agrees;
    sound = sound_now;
    at = lead.reaches.at;
    tended = lead.point.tended;
    ascending = l.ascending.1;
    slots = λ k. slot_by k (k == n) refl;
    timers = timers_now;
    late = late_now;
    due = due_now;
  }
