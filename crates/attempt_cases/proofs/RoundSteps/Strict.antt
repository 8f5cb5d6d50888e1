-- A round in which something moved lowers what a channel may still do: an attempt that was due is made or withheld, and one that waits is placed or ends.
use Rattle.std.proofs.Common.{◌≡◌, ◌≤◌, ◌+◌, ◌∙◌, ◌∷◌, ◌==◌, ◌&&◌, ◌||◌, ℕ, zero, suc, Bool, true, false, List, [], Option, None, Some, ◌⊎◌, inl, inr, refl, ap, sym, subst, arith, length, map, nat_le, nat_lt, not, if◌then◌else◌, is_none, is_some, slice_get, slice_set}
use Rattle.std.proofs.lemmas.Bool.{and_from}
use Rattle.std.proofs.lemmas.Bool.Decides.{nat_tests}
use Rattle.std.specs.BTreeSet.{insert_key}
use Rattle.std.specs.List.{list_any}
use Rattle.std.specs.Option.{option_map}
use Rattle.attempt_ledger.specs.declared.row.Placed.{Placed}
use Rattle.attempt_ledger.specs.declared.row.Row.{Row}
use Rattle.call_actions.proofs.Places.{found_live, place_is, places_below}
use Rattle.call_actions.proofs.Ranks.{numbered_map}
use Rattle.call_actions.specs.Laws.{AttemptsAreDue}
use Rattle.call_actions.specs.Sees.{is_live, live_row}
use Rattle.call_core.specs.Parts.{find_live}
use Rattle.call_core.specs.Rows.{row_in}
use Rattle.call_core.specs.Steps as call
use Rattle.call_core.specs.Steps.{Stepped, lent}
use Rattle.call_core.specs.declared.live.LiveRow.{LiveRow}
use Rattle.call_core.specs.declared.state.CallState.{CallState}
use Rattle.channel_actions.proofs.Gone.{all_numbered}
use Rattle.channel_actions.proofs.Calls.Going.Arms.{CallLaws}
use Rattle.channel_actions.proofs.Links.Settings.Pairs.{has_insert, same_is, self_same}
use Rattle.channel_actions.proofs.Stamps.{counted_at}
use Rattle.channel_actions.specs.Agrees.{Agrees}
use Rattle.channel_actions.specs.Calls.{HasSlot, due_of, lent_to}
use Rattle.channel_actions.specs.Sets.{is_in_dues}
use Rattle.call_cases.proofs.ConfiguredCalls.Lists.{same_words}
use Rattle.attempt_cases.proofs.PassActions.Queue.{Waits}
use Rattle.attempt_cases.proofs.RoundSteps.Falls.{Falling, Falls, acted_strict, falling, load, load_of}
use Rattle.attempt_cases.proofs.RoundSteps.Loads.{lowers_due, lowers_failed, lowers_placed}
use Rattle.channel_actions.proofs.Calls.Sound.Carried.{AreSound, Settled, rests}
use Rattle.channel_actions.proofs.Calls.Sound.Keeping.{sound_of}
use Rattle.channel_actions.proofs.Calls.Sound.Steps.{less_on, waits_in}
use Rattle.channel_actions.proofs.Calls.Sound.Tables.{AllSound, sound_numbered}
use Rattle.channel_actions.specs.SoundCalls.Sound.{AllowsPlans}
use Rattle.call_cases.specs.SettlingActions.Sound.{IsSound}
use Rattle.channel_core.proofs.Resting.{follow, seal}
use Rattle.channel_core.proofs.RestingSteps.{forget_all, make_all}
use Rattle.channel_core.specs.Books.{BookActs, book_acted, book_asked, book_placed, bucket_at, has_drawn, limit_at, row_at, slot_at}
use Rattle.channel_core.specs.Settling as settling
use Rattle.channel_core.specs.Settling.{asked, served, served_by}
use Rattle.channel_core.specs.States.{StateSeen}
use Rattle.channel_core.specs.Steps as step
use Rattle.channel_core.specs.Steps.{dues_forgotten, dues_taken, made_one, next_word, round_made}
use Rattle.channel_core.specs.Tables.{changed_slot_at, changed_slot_on, numbered, takes_rows, tokens_in, without_due}
use Rattle.channel_core.specs.Timing.{due_keys, later, number_of, sorted_into}
use Rattle.channel_core.specs.declared.state.slots.CallSlot.{CallSlot}
use Rattle.channel_net.specs.Lists as net_lists
use Rattle.channel_net.specs.Steps as net
use Rattle.channel_net.specs.declared.replies.Asked.{Asked}
use Rattle.grpc_base.specs.declared.kind.Pick.{Pick}
use Rattle.grpc_base.specs.declared.kind.Pick.TheVariants as pick
use Rattle.ledger_stamps.specs.Steps.{index_at}
use Rattle.picker_gate.specs.Pairs.{has, is_same, pair_cmp}
use Rattle.session_actions.specs.Attempts.{call_of, is_outstanding, is_over, is_queued}
use Rattle.session_actions.specs.Calls.{is_open_call}
use Rattle.session_actions.specs.DueAttempts as session
use Rattle.session_actions.specs.Words as words
use Rattle.session_actions.specs.Words.{holds, is_number}
use Rattle.session_actions.specs.declared.attempt.Attempt.{Attempt}
use Rattle.session_actions.specs.declared.call.Call.{Call}
use Rattle.session_actions.specs.declared.seen.Seen.{Seen}

-- the first call that is due is one of the timers that are
pub record DuePair (moment : ℕ) (pairs : List (ℕ × ℕ)) (key : ℕ) : Type 0 where
  pub at : ℕ
  pub there : has pairs (at, key) ≡ true
  pub past : nat_le at moment ≡ true

abbrev is_key : List ℕ → ℕ → Bool
is_key keys key = list_any (λ (j : ℕ). j == key) keys

equal_numbers : (n m : ℕ) → (n == m) ≡ true → n ≡ m
equal_numbers n m e = grind (arith, nat_tests)

or_right : (a : Bool) → (a || true) ≡ true
or_right true = refl
or_right false = refl

further : (moment : ℕ) (t : ℕ × ℕ) (ts : List (ℕ × ℕ)) (key : ℕ) → DuePair moment ts key → DuePair moment (t ∷ ts) key
further moment t ts key d = record { at = d.at; there = ap (λ (b : Bool). is_same (d.at, key) t || b) d.there ∙ or_right (is_same (d.at, key) t); past = d.past }

due_head : (moment : ℕ) (t : ℕ × ℕ) (ts : List (ℕ × ℕ)) (key : ℕ) (c : Bool) → (t.1 == key) ≡ c → nat_le t.0 moment ≡ true
    → (is_key (due_keys moment ts) key ≡ true → DuePair moment ts key) → (c || is_key (due_keys moment ts) key) ≡ true → DuePair moment (t ∷ ts) key
due_head moment t ts key true e past rest is =
    let same : t.1 ≡ key = equal_numbers t.1 key e in
    record {
      at = t.0;
      there = ap (λ (z : ℕ). is_same (t.0, z) t || has ts (t.0, z)) (sym same) ∙ ap (λ (b : Bool). b || has ts (t.0, t.1)) (self_same t);
      past = past;
    }
due_head moment t ts key false e past rest is = further moment t ts key (rest is)

due_by : (moment : ℕ) (t : ℕ × ℕ) (ts : List (ℕ × ℕ)) (key : ℕ) (b : Bool) → nat_le t.0 moment ≡ b → (is_key (due_keys moment ts) key ≡ true → DuePair moment ts key)
    → is_key (if b then t.1 ∷ due_keys moment ts else []) key ≡ true → DuePair moment (t ∷ ts) key
due_by moment t ts key true past rest is = due_head moment t ts key (t.1 == key) refl past rest is
due_by moment t ts key false past rest is = absurd (let bad : false ≡ true = is in (cc))

pub due_from : (moment : ℕ) (pairs : List (ℕ × ℕ)) (key : ℕ) → is_key (due_keys moment pairs) key ≡ true → DuePair moment pairs key
due_from moment [] key is = absurd (let bad : false ≡ true = is in (cc))
due_from moment (t ∷ ts) key is = due_by moment t ts key (nat_le t.0 moment) refl (due_from moment ts key) is

inserted : (sorted : List (ℕ × ℕ)) (n : ℕ) (p : ℕ × ℕ) (b : Bool) → is_same p (0, n) ≡ b → (b || has sorted p) ≡ true → (has sorted p ≡ true) ⊎ ((n == p.1) ≡ true)
inserted sorted n p true e is = inr (let same : p.1 ≡ n = ap (λ (z : ℕ × ℕ). z.1) (same_is p (0, n) e) in ap (λ (z : ℕ). n == z) same ∙ self n)
  where
    self : (n : ℕ) → (n == n) ≡ true
    self n = grind (arith, nat_tests)
inserted sorted n p false e is = inl is

sorted_from : (sorted : List (ℕ × ℕ)) (calls : List ℕ) (p : ℕ × ℕ) → has (sorted_into sorted calls) p ≡ true → (has sorted p ≡ true) ⊎ (is_key calls p.1 ≡ true)
sorted_from sorted [] p is = inl is
sorted_from sorted (n ∷ calls) p is =
    elim (sorted_from (insert_key pair_cmp sorted (0, n)) calls p is) [
      | inl there ↦
          elim (inserted sorted n p (is_same p (0, n)) refl (sym (has_insert sorted (0, n) p) ∙ there)) [
            | inl old ↦ inl old
            | inr new ↦ inr (ap (λ (b : Bool). b || is_key calls p.1) new)
          ]
      | inr more ↦ inr (ap (λ (b : Bool). (n == p.1) || b) more ∙ or_right (n == p.1))
    ]

none_has : (p : ℕ × ℕ) → has [] p ≡ true → ⊥
none_has p e = (let bad : false ≡ true = e in (cc))

first_due : (moment : ℕ) (dues : List (ℕ × ℕ)) (key : ℕ) (rest : List ℕ) → due_keys 0 (sorted_into [] (due_keys moment dues)) ≡ key ∷ rest → DuePair moment dues key
first_due moment dues key rest e =
    let head : is_key (due_keys 0 (sorted_into [] (due_keys moment dues))) key ≡ true
    = ap (λ (l : List ℕ). is_key l key) e ∙ ap (λ (b : Bool). b || is_key rest key) (self key) in
    let d : DuePair 0 (sorted_into [] (due_keys moment dues)) key = due_from 0 (sorted_into [] (due_keys moment dues)) key head in
    elim (sorted_from [] (due_keys moment dues) (d.at, key) d.there) [
      | inl none ↦ absurd (none_has (d.at, key) none)
      | inr is ↦ due_from moment dues key is
    ]
  where
    self : (n : ℕ) → (n == n) ≡ true
    self n = grind (arith, nat_tests)

-- the call of such a timer: its next attempt is due
pub record DueSlot (x : StateSeen) (key : ℕ) : Type 0 where
  pub slot : CallSlot
  pub there : slot_at x.book key ≡ Some slot
  pub due : ℕ
  pub next : call.next_due slot.call ≡ Some due
  pub past : nat_lt x.book.moment due ≡ false
  pub low : key ≤ 4294967295

not_ahead : (due moment : ℕ) → nat_le due moment ≡ true → nat_lt moment due ≡ false
not_ahead due moment e = grind (arith, nat_tests)

module _ (dues : AttemptsAreDue) (x : StateSeen) (s : Seen) (h : Agrees x s) (sound : IsSound x s) (key : ℕ) (d : DuePair x.book.moment x.dues key) where
  test : is_in_dues s d.at key ≡ true
  test = sym (h.sets.dues.exact d.at key) ∙ d.there

  slot_by : (c : Call) → words.numbered s.calls key ≡ Some c → session.next_due c s ≡ Some d.at → DueSlot x key
  slot_by c there next =
      let own : HasSlot x s c key = h.calls.each key c there in
      let below : key ≤ length s.calls = places_below s.calls key c there in
      let few : length s.calls ≤ 1048576 = sound.few in
      record {
        slot = own.slot;
        there = own.there;
        due = d.at;
        next = sym (dues s c (lent_to x s own.slot) own.sees.serves.sees) ∙ next;
        past = not_ahead d.at x.book.moment d.past;
        low = omega (arith, below, few);
      }

  due_if : (c : Call) (b : Bool) → is_open_call c ≡ b → words.numbered s.calls key ≡ Some c → (q : Option ℕ) → session.next_due c s ≡ q
      → is_number d.at (if b then q else None) ≡ true → DueSlot x key
  due_if c true open_now there None e is = absurd (let bad : false ≡ true = is in (cc))
  due_if c true open_now there (Some m) e is = slot_by c there (e ∙ ap (λ (n : ℕ). Some n) (equal_numbers m d.at is))
  due_if c false open_now there q e is = absurd (let bad : false ≡ true = is in (cc))

  call_by : (o : Option Call) → words.numbered s.calls key ≡ o → holds (λ (c : Call). is_number d.at (due_of s c)) o ≡ true → DueSlot x key
  call_by None e is = absurd (let bad : false ≡ true = is in (cc))
  call_by (Some c) e is = due_if c (is_open_call c) refl e (session.next_due c s) refl is

  pub due_slot : DueSlot x key
  due_slot = call_by (words.numbered s.calls key) refl test

-- the timers that were taken leave what a call is
map_set : (calls : List CallSlot) (i : ℕ) (old new : CallSlot) → slice_get calls i ≡ Some old → new.call ≡ old.call
    → map (λ (k : CallSlot). k.call) (slice_set calls i new) ≡ map (λ (k : CallSlot). k.call) calls
map_set [] i old new e same = refl
map_set (k ∷ calls) zero old new e same =
    let one : k ≡ old = (cc) in
    ap (λ (c : CallState). c ∷ map (λ (z : CallSlot). z.call) calls) (same ∙ sym (ap (λ (z : CallSlot). z.call) one))
map_set (k ∷ calls) (suc i) old new e same = ap (λ (l : List CallState). k.call ∷ l) (map_set calls i old new e same)

map_by : (calls : List CallSlot) (i : ℕ) (o : Option CallSlot) → slice_get calls i ≡ o
    → map (λ (k : CallSlot). k.call) (changed_slot_at without_due calls i o) ≡ map (λ (k : CallSlot). k.call) calls
map_by calls i None e = refl
map_by calls i (Some slot) e = map_set calls i slot (without_due slot) e refl

map_on : (calls : List CallSlot) (o : Option ℕ) → map (λ (k : CallSlot). k.call) (changed_slot_on without_due calls o) ≡ map (λ (k : CallSlot). k.call) calls
map_on calls None = refl
map_on calls (Some i) = map_by calls i (slice_get calls i) refl

forgot_calls : (keys : List ℕ) (z : StateSeen) → map (λ (k : CallSlot). k.call) (dues_forgotten keys z).book.calls ≡ map (λ (k : CallSlot). k.call) z.book.calls
forgot_calls [] z = refl
forgot_calls (key ∷ keys) z = forgot_calls keys (step.due_gone (number_of key) z) ∙ map_on z.book.calls (index_at (number_of key) (length z.book.calls))

forgot_moment : (keys : List ℕ) (z : StateSeen) → (dues_forgotten keys z).book.moment ≡ z.book.moment
forgot_moment [] z = refl
forgot_moment (key ∷ keys) z = forgot_moment keys (step.due_gone (number_of key) z)

pub record SameCall (calls : List CallSlot) (n : ℕ) (c : CallState) : Type 0 where
  pub slot : CallSlot
  pub there : numbered calls n ≡ Some slot
  pub same : slot.call ≡ c

get_by : (calls : List CallSlot) (n : ℕ) (c : CallState) (o : Option CallSlot) → numbered calls n ≡ o → option_map (λ (k : CallSlot). k.call) o ≡ Some c → SameCall calls n c
get_by calls n c None e is = absurd (let bad : None ≡ Some c = is in (cc))
get_by calls n c (Some slot) e is = record { slot = slot; there = e; same = (let one : slot.call ≡ c = (cc) in one) }

mapped_at : (calls : List CallSlot) (n : ℕ) → numbered (map (λ (k : CallSlot). k.call) calls) n ≡ option_map (λ (k : CallSlot). k.call) (numbered calls n)
mapped_at calls n =
    same_words (map (λ (k : CallSlot). k.call) calls) n ∙ numbered_map (λ (k : CallSlot). k.call) calls n
    ∙ sym (ap (option_map (λ (k : CallSlot). k.call)) (same_words calls n))

same_call : (calls others : List CallSlot) (n : ℕ) (slot : CallSlot) → map (λ (k : CallSlot). k.call) calls ≡ map (λ (k : CallSlot). k.call) others → numbered others n ≡ Some slot
    → SameCall calls n slot.call
same_call calls others n slot maps there =
    get_by calls n slot.call (numbered calls n) refl
    (sym (mapped_at calls n) ∙ ap (λ (l : List CallState). numbered l n) maps ∙ mapped_at others n ∙ ap (option_map (λ (k : CallSlot). k.call)) there)

one_more : (a b c : ℕ) → a ≤ b → b + 1 ≤ c → a + 1 ≤ c
one_more a b c e f = omega (arith, e, f)

more_one : (a b c : ℕ) → a + 1 ≤ b → b ≤ c → a + 1 ≤ c
more_one a b c e f = omega (arith, e, f)

module _ (laws : CallLaws) where
  -- one attempt that is due
  module _ (u : StateSeen) (sound : AreSound u) (n due : ℕ) (slot : CallSlot) (there : slot_at u.book n ≡ Some slot) (next : call.next_due slot.call ≡ Some due)
      (past : nat_lt u.book.moment due ≡ false) where
    abbrev b : BookActs
    b = book_asked (call.made_due u.book.moment) n u.book

    abbrev v : StateSeen
    v = record u { book = b.book }

    booked_low : load v + 1 ≤ load u
    booked_low =
        acted_strict (call.made_due u.book.moment) u.book.ledger (tokens_in u.book.buckets (bucket_at (slot_at u.book n))) u.book.calls n slot there
        (lowers_due u.book.moment due (lent slot.call u.book.ledger (tokens_in u.book.buckets (bucket_at (slot_at u.book n))) []) next past
        (sound_numbered (length u.book.ledger.rows) u.book.calls n slot sound.calls there).sized)

    booked : Settled u v
    booked = (rests laws).made n u sound

    then_on : Falling v (step.followed n b.acts v)
    then_on = follow Falls (falling laws) n b.acts v booked.kept.sound

    then_sealed : Falling (step.followed n b.acts v) (made_one n u)
    then_sealed = seal Falls (falling laws) (step.followed n b.acts v) then_on.settled.kept.sound

    pub one_low : load (made_one n u) + 1 ≤ load u
    one_low = one_more (load (made_one n u)) (load v) (load u) (less_on (load (made_one n u)) (load (step.followed n b.acts v)) (load v) then_sealed.less then_on.less) booked_low

    pub one_sound : AreSound (made_one n u)
    one_sound = then_sealed.settled.kept.sound

  -- all that are due
  module _ (dues : AttemptsAreDue) (x : StateSeen) (s : Seen) (h : Agrees x s) (sound : IsSound x s) where
    abbrev keys : List ℕ
    keys = due_keys x.book.moment x.dues

    abbrev x1 : StateSeen
    x1 = record x { dues = later x.book.moment x.dues }

    abbrev u : StateSeen
    u = dues_taken x

    taken : Falling x u
    taken =
        (falling laws).joined x x1 u ((falling laws).beside x x1 refl refl refl (λ e. e)) (forget_all Falls (falling laws) keys x1) (sound_of x sound.calls)

    all_by : (l : List ℕ) → due_keys 0 (sorted_into [] keys) ≡ l → nat_lt 0 (length l) ≡ true → load (step.all_made l u) + 1 ≤ load x
    all_by [] e moved = absurd (let bad : false ≡ true = moved in (cc))
    all_by (key ∷ rest) e moved =
        let d : DueSlot x key = due_slot dues x s h sound key (first_due x.book.moment x.dues key rest e) in
        let low : number_of key ≡ key = (let below : key ≤ 4294967295 = d.low in omega (arith, below)) in
        let k : SameCall u.book.calls key d.slot.call = same_call u.book.calls x.book.calls key d.slot (forgot_calls keys x1) d.there in
        let there : slot_at u.book (number_of key) ≡ Some k.slot = ap (slot_at u.book) low ∙ k.there in
        let next : call.next_due k.slot.call ≡ Some d.due = ap call.next_due k.same ∙ d.next in
        let past : nat_lt u.book.moment d.due ≡ false = ap (λ (m : ℕ). nat_lt m d.due) (forgot_moment keys x1) ∙ d.past in
        let one : load (made_one (number_of key) u) + 1 ≤ load u = one_low u taken.settled.kept.sound (number_of key) d.due k.slot there next past in
        let others : Falling (made_one (number_of key) u) (step.all_made rest (made_one (number_of key) u))
        = make_all Falls (falling laws) rest (made_one (number_of key) u) (one_sound u taken.settled.kept.sound (number_of key) d.due k.slot there next past) in
        more_one (load (step.all_made rest (made_one (number_of key) u))) (load u) (load x)
        (one_more (load (step.all_made rest (made_one (number_of key) u))) (load (made_one (number_of key) u)) (load u) others.less one) taken.less

    pub made_low : (round_made x).moved ≡ true → load (round_made x).state + 1 ≤ load x
    made_low moved = all_by (due_keys 0 (sorted_into [] keys)) refl moved

-- an attempt that waits, in the channel's books
pub record WaitsSo (y : StateSeen) (n row : ℕ) : Type 0 where
  pub slot : CallSlot
  pub there : slot_at y.book n ≡ Some slot
  pub live : LiveRow
  pub found : find_live row slot.call.live ≡ Some live
  pub unlinked : live.link ≡ None
  pub in_ledger : Row
  pub at : row_in y.book.ledger.rows live.place ≡ Some in_ledger
  pub waits : waits_in in_ledger ≡ true

row_words : (rows : List Row) (n : ℕ) → row_in rows n ≡ words.numbered rows n
row_words rows zero = refl
row_words rows (suc n) = refl

equal_is : (n m : ℕ) → n ≡ m → (n == m) ≡ true
equal_is n m e = grind (arith, nat_tests)

no_link : (o : Option Placed) → is_none o ≡ true → option_map (λ (at : Placed). at.link) o ≡ None
no_link None e = refl
no_link (Some at) e = absurd (let bad : false ≡ true = e in (cc))

both_of : (a b c : Bool) → (a && b && c) ≡ true → (a ≡ true) × ((a && b) ≡ true)
both_of true true c e = (refl, refl)
both_of true false c e = absurd (let bad : false ≡ true = e in (cc))
both_of false b c e = absurd (let bad : false ≡ true = e in (cc))

module _ (y : StateSeen) (s : Seen) (h : Agrees y s) (p : ℕ × ℕ) (w : Waits p s) where
  abbrev a : Attempt
  a = w.attempt

  waits_by : (c : Call) → words.numbered s.calls p.0 ≡ Some c → WaitsSo y p.0 p.1
  waits_by c there =
      let own : HasSlot y s c p.0 = h.calls.each p.0 c there in
      let number : c.number ≡ p.0 = counted_at (λ (d : Call). d.number) s.calls p.0 c h.kept.calls there in
      let queued = both_of (is_none a.row.placed) (is_none a.row.ended) (not (is_over a s)) w.queued in
      let mine : (a.row.call == c.number) ≡ true = equal_is a.row.call c.number (w.call ∙ sym number) in
      let lives : is_live s c a ≡ true
      = and_from (a.row.call == c.number) (is_outstanding a || is_queued a s) mine (ap (λ (b : Bool). is_outstanding a || b) w.queued ∙ or_right (is_outstanding a)) in
      let found : find_live p.1 own.slot.call.live ≡ Some (live_row a)
      = ap (find_live p.1) (sym own.sees.serves.sees.live) ∙ found_live (is_live s c) p.1 a lives s.attempts own.sees.order.places w.there in
      let place : a.place ≡ p.1 = place_is p.1 s.attempts a own.sees.order.places w.there in
      let at : row_in y.book.ledger.rows a.place ≡ Some a.row
      = row_words y.book.ledger.rows a.place ∙ ap (λ (l : List Row). words.numbered l a.place) (sym h.columns.rows) ∙ numbered_map (λ (k : Attempt). k.row) s.attempts a.place
      ∙ ap (λ (n : ℕ). option_map (λ (k : Attempt). k.row) (words.numbered s.attempts n)) place ∙ ap (option_map (λ (k : Attempt). k.row)) w.there in
      record {
        slot = own.slot;
        there = own.there;
        live = live_row a;
        found = found;
        unlinked = no_link a.row.placed queued.0;
        in_ledger = a.row;
        at = at;
        waits = queued.1;
      }

  by_call : (o : Option Call) → call_of a s ≡ o → is_some o ≡ true → WaitsSo y p.0 p.1
  by_call None e there = absurd (let bad : false ≡ true = there in (cc))
  by_call (Some c) e there = waits_by c (ap (words.numbered s.calls) (sym w.call) ∙ e)

  pub waits_so : WaitsSo y p.0 p.1
  waits_so = by_call (call_of a s) refl (all_numbered (λ (k : Attempt). is_some (call_of k s)) s.attempts p.1 a w.there h.kept.owned)

-- it is placed or ends
module _ (laws : CallLaws) (y : StateSeen) (sound : AreSound y) (n row : ℕ) (w : WaitsSo y n row) where
  module _ (z : StateSeen) (calls : z.book.calls ≡ y.book.calls) (rows : z.book.ledger.rows ≡ y.book.ledger.rows) (held : z.held ≡ y.held) where
    sound_z : AreSound z
    sound_z = record {
      calls = subst (λ (l : List CallSlot). AllSound (length z.book.ledger.rows) l) (sym calls)
          (subst (λ (r : List Row). AllSound (length r) y.book.calls) (sym rows) sound.calls);
      plans = subst AllowsPlans (sym held) sound.plans;
    }

    there_z : slot_at z.book n ≡ Some w.slot
    there_z = ap (λ (l : List CallSlot). numbered l n) calls ∙ w.there

    at_z : row_in z.book.ledger.rows w.live.place ≡ Some w.in_ledger
    at_z = ap (λ (r : List Row). row_in r w.live.place) rows ∙ w.at

    same_load : load z ≡ load y
    same_load = ap (λ (l : List CallSlot). load_of z.book.ledger.rows l) calls ∙ ap (λ (r : List Row). load_of r y.book.calls) rows

    -- a pick that failed
    abbrev bf : BookActs
    bf = book_acted (call.pick_failed row z.book.moment (next_word z)) n z.book

    fail_booked : load_of bf.book.ledger.rows bf.book.calls + 1 ≤ load z
    fail_booked =
        acted_strict (call.pick_failed row z.book.moment (next_word z)) z.book.ledger (tokens_in z.book.buckets (bucket_at (slot_at z.book n))) z.book.calls n w.slot there_z
        (lowers_failed row z.book.moment (next_word z) (lent w.slot.call z.book.ledger (tokens_in z.book.buckets (bucket_at (slot_at z.book n))) []) w.live w.in_ledger w.found at_z w.waits)

    abbrev vf : StateSeen
    vf = record (step.drawn_if (has_drawn (row_at bf.book row)) (step.unqueued n row z)) { book = bf.book }

    sound_vf : AreSound vf
    sound_vf = (let k : AreSound (record z { book = bf.book }) = ((rests laws).failed row n z sound_z).kept.sound in record { calls = k.calls; plans = k.plans })

    fail_on : Falling vf (step.followed n bf.acts vf)
    fail_on = follow Falls (falling laws) n bf.acts vf sound_vf

    fail_sealed : Falling (step.followed n bf.acts vf) (step.pick_failed n row z)
    fail_sealed = seal Falls (falling laws) (step.followed n bf.acts vf) fail_on.settled.kept.sound

    pub fail_low : load (step.pick_failed n row z) + 1 ≤ load y
    fail_low =
        let low : load (step.pick_failed n row z) + 1 ≤ load z
        = one_more (load (step.pick_failed n row z)) (load vf) (load z)
        (less_on (load (step.pick_failed n row z)) (load (step.followed n bf.acts vf)) (load vf) fail_sealed.less fail_on.less) fail_booked in
        let same : load z ≡ load y = same_load in
        subst (λ (m : ℕ). load (step.pick_failed n row z) + 1 ≤ m) same low

    -- a placing
    module _ (at : Placed) (entry : at.entry ≡ z.book.ledger.entry) (moment : at.moment ≡ z.book.moment) where
      abbrev bp : BookActs
      bp = book_placed row at n z.book

      place_booked : load_of bp.book.ledger.rows bp.book.calls + 1 ≤ load z
      place_booked =
          acted_strict (call.placed_at row at) z.book.ledger None z.book.calls n w.slot there_z
          (lowers_placed row at (lent w.slot.call z.book.ledger None []) w.live w.in_ledger w.found w.unlinked at_z w.waits)

      abbrev vp : StateSeen
      vp = record (settling.outstanding_on at.link row (step.unqueued n row z)) { book = bp.book }

      sound_vp : AreSound vp
      sound_vp = (let k : AreSound (record z { book = bp.book }) = ((rests laws).placed row at n z entry moment sound_z).kept.sound in record { calls = k.calls; plans = k.plans })

      place_on : Falling vp (step.followed n bp.acts vp)
      place_on = follow Falls (falling laws) n bp.acts vp sound_vp

      pub place_low : load (settling.settled_in n row at z) + 1 ≤ load y
      place_low =
          let low : load (settling.settled_in n row at z) + 1 ≤ load z = one_more (load (settling.settled_in n row at z)) (load vp) (load z) place_on.less place_booked in
          subst (λ (m : ℕ). load (settling.settled_in n row at z) + 1 ≤ m) same_load low

  placed_by : (b : Bool) (generation sub link : ℕ) (z : StateSeen) → z.book.calls ≡ y.book.calls → z.book.ledger.rows ≡ y.book.ledger.rows → z.held ≡ y.held
      → (settling.placed_if b n row (settling.place_at generation sub link z) (settling.offered link row (limit_at (slot_at z.book n)) z)).moved ≡ true
      → load (settling.placed_if b n row (settling.place_at generation sub link z) (settling.offered link row (limit_at (slot_at z.book n)) z)).state + 1 ≤ load y
  placed_by true generation sub link z calls rows held moved =
      place_low (settling.offered link row (limit_at (slot_at z.book n)) z) calls rows held (settling.place_at generation sub link z) refl refl
  placed_by false generation sub link z calls rows held moved = absurd (let bad : false ≡ true = moved in (cc))

  linked_by : (o : Option ℕ) (generation sub : ℕ) (z : StateSeen) → z.book.calls ≡ y.book.calls → z.book.ledger.rows ≡ y.book.ledger.rows → z.held ≡ y.held
      → (settling.placed_on n row generation sub o z).moved ≡ true → load (settling.placed_on n row generation sub o z).state + 1 ≤ load y
  linked_by None generation sub z calls rows held moved = absurd (let bad : false ≡ true = moved in (cc))
  linked_by (Some link) generation sub z calls rows held moved = placed_by (takes_rows link z.links) generation sub link z calls rows held moved

  picked_by : (k : Pick) (generation : ℕ) (z : StateSeen) → z.book.calls ≡ y.book.calls → z.book.ledger.rows ≡ y.book.ledger.rows → z.held ≡ y.held
      → (settling.picked n row generation k z).moved ≡ true → load (settling.picked n row generation k z).state + 1 ≤ load y
  picked_by (pick.Place sub) generation z calls rows held moved = linked_by (net_lists.link_of z.net.links sub) generation sub z calls rows held moved
  picked_by pick.Wait generation z calls rows held moved = absurd (let bad : false ≡ true = moved in (cc))
  picked_by pick.Fail generation z calls rows held moved = fail_low z calls rows held

  answered_by : (o : Option Asked) → (served_by n row o (asked y)).moved ≡ true → load (served_by n row o (asked y)).state + 1 ≤ load y
  answered_by None moved = absurd (let bad : false ≡ true = moved in (cc))
  answered_by (Some g) moved = picked_by g.pick g.generation (step.asked_by row g (asked y)) refl refl refl moved

  pub served_low : (served n row y).moved ≡ true → load (served n row y).state + 1 ≤ load y
  served_low moved = answered_by (net.net_answer y.net) moved
