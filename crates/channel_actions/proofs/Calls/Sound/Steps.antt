-- What is done to a call leaves its attempts, and what it holds for them, among the rows that are there; and it makes no more attempts than its plan allows.
use Rattle.std.proofs.Common.{◌≡◌, ◌≤◌, ◌+◌, ◌∙◌, ◌∷◌, ℕ, Bool, true, false, List, [], Option, None, Some, refl, ap, sym, arith, length, nat_le, not, ◌&&◌, ◌||◌, ◌==◌, if◌then◌else◌, is_none, is_some, suc, zero}
use Rattle.std.proofs.lemmas.Bool.Decides.{nat_tests}
use Rattle.std.specs.List.{filter, list_all}
use Rattle.std.specs.Option.{option_map, option_map_or}
use Rattle.attempt_buffer.specs.Buffers.{Buffered, Cursor, can_open, committed_to, is_committed_row, opened}
use Rattle.attempt_buffer.specs.Buffers as buffers
use Rattle.attempt_ledger.specs.Numbering.{most_attempts}
use Rattle.attempt_ledger.specs.declared.ledger.Ledger.{Ledger}
use Rattle.attempt_ledger.specs.declared.news.EndNews.{EndNews}
use Rattle.attempt_ledger.specs.declared.row.Placed.{Placed}
use Rattle.attempt_ledger.specs.declared.row.Row.{Row}
use Rattle.attempt_ledger.specs.declared.row.RowEnd.{RowEnd}
use Rattle.call_core.specs.Parts as parts
use Rattle.call_core.specs.Parts.{begun_row, committed_buffer, count_of, cut_end, find_live, has_none, is_above, is_followed, is_row, is_tested, is_too_long, judged, kept_alone, linked, names, pick_end, read_of, without}
use Rattle.call_core.specs.Steps as step
use Rattle.call_core.specs.Steps.{Stepped, call_plan, cut_all, cut_row, cut_unless, next_place}
use Rattle.call_core.specs.declared.attempts.Attempts.{Attempts}
use Rattle.call_core.specs.declared.live.LiveRow.{LiveRow}
use Rattle.call_core.specs.declared.state.CallState.{CallState}
use Rattle.channel_actions.proofs.KeptSessions.Lists.{all_filter, all_found, all_mapped, all_more, all_wide}
use Rattle.channel_core.proofs.Resting.{changed_length}
use Rattle.grpc_base.specs.declared.event.EndCause.{EndCause}
use Rattle.grpc_base.specs.declared.event.EndCause.TheVariants as ends
use Rattle.grpc_base.specs.declared.plan.CallPlan.{CallPlan}
use Rattle.grpc_base.specs.declared.plan.CallPlan.TheVariants as plans
use Rattle.hedge_core.specs.DueMoments.{stops}
use Rattle.ledger_stamps.specs.Steps.{changed, changed_at, committed_row, ended_row, index_at, placed_row, stamped}

-- the rows of its attempts, and of what it holds for attempts, are no later than this one
abbrev pub is_there : ℕ → LiveRow → Bool
is_there n r = nat_le r.place n

abbrev pub is_held : ℕ → Cursor → Bool
is_held n c = nat_le c.row n

pub record Within (n : ℕ) (call : CallState) : Type 0 where
  pub live : list_all (is_there n) call.live ≡ true
  pub held : list_all (is_held n) call.buffer.cursors ≡ true

le_on : (a n m : ℕ) → n ≤ m → nat_le a n ≡ true → nat_le a m ≡ true
le_on a n m e h = grind (arith, nat_tests)

pub within_more : (n m : ℕ) (call : CallState) → n ≤ m → Within n call → Within m call
within_more n m call e w = record {
  live = all_wide (is_there n) (is_there m) (λ r h. le_on r.place n m e h) call.live w.live;
  held = all_wide (is_held n) (is_held m) (λ c h. le_on c.row n m e h) call.buffer.cursors w.held;
}

-- how many attempts its plan allows, and were made
pub record Sized (call : CallState) : Type 0 where
  pub range : most_attempts (call_plan call) ≤ 5
  pub sent : call.attempts.sent ≤ most_attempts (call_plan call)

-- the rows that wait for a pick: neither placed nor ended
abbrev pub waits_in : Row → Bool
waits_in r = is_none r.placed && is_none r.ended

abbrev pub one_if : Bool → ℕ
one_if b = if b then 1 else 0

abbrev pub waiting : List Row → ℕ
waiting [] = 0
waiting (r ∷ rows) = one_if (waits_in r) + waiting rows

pub less_self : (n : ℕ) → n ≤ n
less_self n = omega arith

pub less_on : (a b c : ℕ) → a ≤ b → b ≤ c → a ≤ c
less_on a b c e f = omega (arith, e, f)

one_less : (b c : Bool) → (b ≡ true → c ≡ true) → one_if b ≤ one_if c
one_less true true e = less_self 1
one_less true false e = absurd (let bad : false ≡ true = e refl in (cc))
one_less false c e = omega arith

module _ (f : Row → Row) (less : (r : Row) → waits_in (f r) ≡ true → waits_in r ≡ true) where
  waiting_changed : (rows : List Row) (i : ℕ) → waiting (changed f rows i) ≤ waiting rows
  waiting_changed [] i = less_self 0
  waiting_changed (r ∷ rows) zero =
      let one : one_if (waits_in (f r)) ≤ one_if (waits_in r) = one_less (waits_in (f r)) (waits_in r) (less r) in
      let first : waiting (f r ∷ rows) ≡ one_if (waits_in (f r)) + waiting rows = refl in
      let second : waiting (r ∷ rows) ≡ one_if (waits_in r) + waiting rows = refl in
      omega (arith, one, first, second)
  waiting_changed (r ∷ rows) (suc i) =
      let more : waiting (changed f rows i) ≤ waiting rows = waiting_changed rows i in
      let first : waiting (r ∷ changed f rows i) ≡ one_if (waits_in r) + waiting (changed f rows i) = refl in
      let second : waiting (r ∷ rows) ≡ one_if (waits_in r) + waiting rows = refl in
      omega (arith, more, first, second)

  waiting_by : (rows : List Row) (o : Option ℕ) → waiting (option_map_or (λ i. changed f rows i) o rows) ≤ waiting rows
  waiting_by rows None = less_self (waiting rows)
  waiting_by rows (Some i) = waiting_changed rows i

  pub waiting_at : (rows : List Row) (place : ℕ) → waiting (changed_at f rows place) ≤ waiting rows
  waiting_at rows place = waiting_by rows (index_at place (length rows))

-- one that ended, or was placed, waits no more
ended_off : (e : RowEnd) (o : Option RowEnd) → is_none (stamped e o) ≡ false
ended_off e None = refl
ended_off e (Some w) = refl

placed_off : (at : Placed) (o : Option Placed) → is_none (stamped at o) ≡ false
placed_off at None = refl
placed_off at (Some w) = refl

and_off : (a b : Bool) → b ≡ false → (a && b) ≡ true → ⊥
and_off true b e f = (let bad : false ≡ true = sym e ∙ f in (cc))
and_off false b e f = (let bad : false ≡ true = f in (cc))

off_and : (a b : Bool) → a ≡ false → (a && b) ≡ true → ⊥
off_and true b e f = (let bad : true ≡ false = e in (cc))
off_and false b e f = (let bad : false ≡ true = f in (cc))

pub ended_not : (e : RowEnd) (r : Row) → waits_in (ended_row e r) ≡ true → ⊥
ended_not e r f = and_off (is_none r.placed) (is_none (stamped e r.ended)) (ended_off e r.ended) f

pub placed_not : (at : Placed) (r : Row) → waits_in (placed_row at r) ≡ true → ⊥
placed_not at r f = off_and (is_none (stamped at r.placed)) (is_none r.ended) (placed_off at r.placed) f

pub ended_less : (e : RowEnd) (rows : List Row) (place : ℕ) → waiting (changed_at (ended_row e) rows place) ≤ waiting rows
ended_less e rows place = waiting_at (ended_row e) (λ r f. absurd (ended_not e r f)) rows place

pub placed_less : (at : Placed) (rows : List Row) (place : ℕ) → waiting (changed_at (placed_row at) rows place) ≤ waiting rows
placed_less at rows place = waiting_at (placed_row at) (λ r f. absurd (placed_not at r f)) rows place

committed_less : (entry : ℕ) (rows : List Row) (place : ℕ) → waiting (changed_at (committed_row entry) rows place) ≤ waiting rows
committed_less entry rows place = waiting_at (committed_row entry) (λ r f. f) rows place

-- a step that makes no attempt, and brings no config
pub record Leaves (s t : Stepped) : Type 0 where
  pub rows : length t.ledger.rows ≡ length s.ledger.rows
  pub within : (n : ℕ) → Within n s.call → Within n t.call
  pub chosen : t.call.chosen ≡ s.call.chosen
  pub sent : t.call.attempts.sent ≡ s.call.attempts.sent
  -- no row waits that did not, and where no further attempt was to be made none is
  pub waiting : waiting t.ledger.rows ≤ waiting s.ledger.rows
  pub stopped : s.call.attempts.stopped ≡ true → t.call.attempts.stopped ≡ true

pub leaves_on : (s t u : Stepped) → Leaves s t → Leaves t u → Leaves s u
leaves_on s t u a b = record {
  rows = b.rows ∙ a.rows;
  within = λ n w. b.within n (a.within n w);
  chosen = b.chosen ∙ a.chosen;
  sent = b.sent ∙ a.sent;
  waiting = less_on (waiting u.ledger.rows) (waiting t.ledger.rows) (waiting s.ledger.rows) b.waiting a.waiting;
  stopped = λ e. b.stopped (a.stopped e);
}

pub leaves_same : (s : Stepped) → Leaves s s
leaves_same s = record { rows = refl; within = λ n w. w; chosen = refl; sent = refl; waiting = less_self (waiting s.ledger.rows); stopped = λ e. e }

pub leaves_if : (b : Bool) (s t u : Stepped) → Leaves s t → Leaves s u → Leaves s (if b then t else u)
leaves_if true s t u a b = a
leaves_if false s t u a b = b

-- rows that are given up
cut_rows : (moment : ℕ) (tokens : Option ℕ) (place : ℕ) (ledger : Ledger) (link : Option ℕ) → length (cut_row moment tokens place ledger link).rows ≡ length ledger.rows
cut_rows moment tokens place ledger None = refl
cut_rows moment tokens place ledger (Some link) = changed_length (ended_row (cut_end ledger.entry moment (read_of ledger.links link) tokens)) ledger.rows place

unless_rows : (b : Bool) (moment : ℕ) (tokens : Option ℕ) (row : LiveRow) (ledger : Ledger)
    → length (if b then ledger else cut_row moment tokens row.place ledger row.link).rows ≡ length ledger.rows
unless_rows true moment tokens row ledger = refl
unless_rows false moment tokens row ledger = cut_rows moment tokens row.place ledger row.link

all_rows : (kept : Option ℕ) (moment : ℕ) (tokens : Option ℕ) (live : List LiveRow) (ledger : Ledger) → length (cut_all kept moment tokens live ledger).rows ≡ length ledger.rows
all_rows kept moment tokens [] ledger = refl
all_rows kept moment tokens (row ∷ live) ledger =
    all_rows kept moment tokens live (cut_unless kept moment tokens row ledger) ∙ unless_rows (names row.place kept) moment tokens row ledger

cut_less : (moment : ℕ) (tokens : Option ℕ) (place : ℕ) (ledger : Ledger) (link : Option ℕ) → waiting (cut_row moment tokens place ledger link).rows ≤ waiting ledger.rows
cut_less moment tokens place ledger None = less_self (waiting ledger.rows)
cut_less moment tokens place ledger (Some link) = ended_less (cut_end ledger.entry moment (read_of ledger.links link) tokens) ledger.rows place

unless_less : (b : Bool) (moment : ℕ) (tokens : Option ℕ) (row : LiveRow) (ledger : Ledger)
    → waiting (if b then ledger else cut_row moment tokens row.place ledger row.link).rows ≤ waiting ledger.rows
unless_less true moment tokens row ledger = less_self (waiting ledger.rows)
unless_less false moment tokens row ledger = cut_less moment tokens row.place ledger row.link

all_less : (kept : Option ℕ) (moment : ℕ) (tokens : Option ℕ) (live : List LiveRow) (ledger : Ledger) → waiting (cut_all kept moment tokens live ledger).rows ≤ waiting ledger.rows
all_less kept moment tokens [] ledger = less_self (waiting ledger.rows)
all_less kept moment tokens (row ∷ live) ledger =
    less_on (waiting (cut_all kept moment tokens live (cut_unless kept moment tokens row ledger)).rows) (waiting (cut_unless kept moment tokens row ledger).rows) (waiting ledger.rows)
    (all_less kept moment tokens live (cut_unless kept moment tokens row ledger)) (unless_less (names row.place kept) moment tokens row ledger)

-- a commitment, and the end of the call
pub leaves_committed : (place moment : ℕ) (s : Stepped) → Leaves s (step.committed place moment s)
leaves_committed place moment s = record {
  rows = all_rows (Some place) moment (count_of s.tokens) s.call.live (step.commit_stamped place s.ledger) ∙ changed_length (committed_row s.ledger.entry) s.ledger.rows place;
  within = λ n w. record { live = all_filter (is_there n) (is_row place) s.call.live w.live; held = w.held };
  chosen = refl;
  sent = refl;
  waiting =
      less_on (waiting (cut_all (Some place) moment (count_of s.tokens) s.call.live (step.commit_stamped place s.ledger)).rows) (waiting (step.commit_stamped place s.ledger).rows)
      (waiting s.ledger.rows) (all_less (Some place) moment (count_of s.tokens) s.call.live (step.commit_stamped place s.ledger))
      (committed_less s.ledger.entry s.ledger.rows place);
  stopped = λ e. refl;
}

pub leaves_ended : (why : EndCause) (moment : ℕ) (s : Stepped) → Leaves s (step.ended_as why moment s)
leaves_ended why moment s = record {
  rows = all_rows None moment (count_of s.tokens) s.call.live s.ledger;
  within = λ n w. record { live = refl; held = refl };
  chosen = refl;
  sent = refl;
  waiting = all_less None moment (count_of s.tokens) s.call.live s.ledger;
  stopped = λ e. refl;
}

ended_if : (b : Bool) (why : EndCause) (moment : ℕ) (s : Stepped) → Leaves s (step.ended_if b why moment s)
ended_if b why moment s = leaves_if b s (step.ended_as why moment s) s (leaves_ended why moment s) (leaves_same s)

pub by_row : (place moment : ℕ) (s : Stepped) → Leaves s (step.ended_by_row place moment s)
by_row place moment s =
    let t : Stepped = step.committed place moment s in
    leaves_on s t (step.ended_as ends.Row moment t) (leaves_committed place moment s) (leaves_ended ends.Row moment t)

pub closed_if : (b : Bool) (place moment : ℕ) (s : Stepped) → Leaves s (step.closed_if b place moment s)
closed_if b place moment s = leaves_if b s (step.ended_by_row place moment s) s (by_row place moment s) (leaves_same s)

-- a row ended
pub row_ended : (place : ℕ) (end : RowEnd) (s : Stepped) → Leaves s (step.row_ended place end s)
row_ended place end s = record {
  rows = changed_length (ended_row end) s.ledger.rows place;
  within = λ n w. w;
  chosen = refl;
  sent = refl;
  waiting = ended_less end s.ledger.rows place;
  stopped = λ e. e;
}

pub with_attempts : (a : Attempts) (s : Stepped) → a.sent ≡ s.call.attempts.sent → (s.call.attempts.stopped ≡ true → a.stopped ≡ true) → Leaves s (step.with_attempts a s)
with_attempts a s e stops = record {
  rows = refl;
  within = λ n w. record { live = w.live; held = w.held };
  chosen = refl;
  sent = e;
  waiting = less_self (waiting s.ledger.rows);
  stopped = stops;
}

shut_held : (b : Bool) (place n : ℕ) (c : Buffered) → list_all (is_held n) c.cursors ≡ true
    → list_all (is_held n) (if b then record c { committed = option_map buffers.shut c.committed }
    else record c { cursors = filter (λ (k : Cursor). not (k.row == place)) c.cursors }).cursors ≡ true
shut_held true place n c e = e
shut_held false place n c e = all_filter (is_held n) (λ (k : Cursor). not (k.row == place)) c.cursors e

pub left_live : (place : ℕ) (s : Stepped) → Leaves s (step.left_live place s)
left_live place s = record {
  rows = refl;
  within = λ n w. record {
    live = all_filter (is_there n) (λ (r : LiveRow). not (is_row place r)) s.call.live w.live;
    held = shut_held (is_committed_row place s.call.buffer.committed) place n s.call.buffer w.held;
  };
  chosen = refl;
  sent = refl;
  waiting = less_self (waiting s.ledger.rows);
  stopped = λ e. e;
}

pub judged_sent : (plan : CallPlan) (a : Attempts) (number : ℕ) (alone : Bool) (end : RowEnd) (above : Bool) (word : ℕ) → (judged plan a number alone end above word).attempts.sent ≡ a.sent
judged_sent plans.None a number alone end above word = refl
judged_sent (plans.Retry policy) a number alone end above word = refl
judged_sent (plans.Hedge policy) a number alone end above word = refl

or_true : (a b : Bool) → a ≡ true → (a || b) ≡ true
or_true true b e = refl
or_true false b e = absurd (let bad : false ≡ true = e in (cc))

pub judged_stopped : (plan : CallPlan) (a : Attempts) (number : ℕ) (alone : Bool) (end : RowEnd) (above : Bool) (word : ℕ) → a.stopped ≡ true
    → (judged plan a number alone end above word).attempts.stopped ≡ true
judged_stopped plans.None a number alone end above word e = e
judged_stopped (plans.Retry policy) a number alone end above word e = e
judged_stopped (plans.Hedge policy) a number alone end above word e = or_true a.stopped (stops policy end above) e

pub free : (row : LiveRow) (end : RowEnd) (moment word : ℕ) (s : Stepped) → Leaves s (step.counted_free row end moment word s)
free row end moment word s =
    let after = step.judged_of row end word s.call s.tokens in
    let t : Stepped = step.row_ended row.place (record end { word = after.word }) s in
    let u : Stepped = step.with_judged row end after s in
    let same : after.attempts.sent ≡ s.call.attempts.sent = judged_sent (call_plan s.call) s.call.attempts row.number (has_none s.call.live) end (is_above s.tokens) word in
    leaves_on s u (step.closed_if after.closes row.place moment u)
    (leaves_on s t u (row_ended row.place (record end { word = after.word }) s) (with_attempts (parts.lasted_attempts row.place after.attempts) t same
    (judged_stopped (call_plan s.call) s.call.attempts row.number (has_none s.call.live) end (is_above s.tokens) word)))
    (closed_if after.closes row.place moment u)

pub counted : (row : LiveRow) (reported : EndNews) (moment word : ℕ) (s : Stepped) → Leaves s (step.counted row reported moment word s)
counted row reported moment word s =
    let end : RowEnd = parts.row_end reported s.ledger.entry moment (count_of s.tokens) in
    let t : Stepped = step.row_ended row.place end s in
    leaves_if (is_some s.call.attempts.committed) s (step.ended_as ends.Row moment t) (step.counted_free row end moment word s)
    (leaves_on s t (step.ended_as ends.Row moment t) (row_ended row.place end s) (leaves_ended ends.Row moment t)) (free row end moment word s)

pub settled : (reported : EndNews) (s : Stepped) → Leaves s (step.settled reported s)
settled reported s = record { rows = refl; within = λ n w. w; chosen = refl; sent = refl; waiting = less_self (waiting s.ledger.rows); stopped = λ e. e }

pub counts : (row : LiveRow) (reported : EndNews) (moment word : ℕ) (s : Stepped) → Leaves s (step.counted row reported moment word (step.settled reported (step.left_live row.place s)))
counts row reported moment word s =
    let t : Stepped = step.left_live row.place s in
    let u : Stepped = step.settled reported t in
    leaves_on s t (step.counted row reported moment word u) (left_live row.place s)
    (leaves_on t u (step.counted row reported moment word u) (settled reported t) (counted row reported moment word u))

-- a pick that failed is followed by no transparent retry
failed_if : (o : Option LiveRow) (moment word : ℕ) (s : Stepped) → Leaves s (step.ended_if_live o pick_end moment word s)
failed_if None moment word s = leaves_same s
failed_if (Some row) moment word s = counts row pick_end moment word s

pub leaves_failed : (row moment word : ℕ) (s : Stepped) → Leaves s (step.pick_failed row moment word s)
leaves_failed row moment word s = failed_if (find_live row s.call.live) moment word s

-- the channel ends the call
pub leaves_closed : (why : EndCause) (moment : ℕ) (s : Stepped) → Leaves s (step.closed_by why moment s)
leaves_closed why moment s = ended_if (not (is_some s.call.ended)) why moment s

timed_if : (o : Option ℕ) (moment : ℕ) (s : Stepped) → Leaves s (step.timed_out_if o moment s)
timed_if None moment s = leaves_same s
timed_if (Some deadline) moment s =
    leaves_if (nat_le deadline moment) s (step.closed_by ends.Deadline moment s) s (leaves_closed ends.Deadline moment s) (leaves_same s)

pub leaves_timed : (moment : ℕ) (s : Stepped) → Leaves s (step.timed_out moment s)
leaves_timed moment s = timed_if (step.deadline_at s.call) moment s

-- a placing
linked_there : (n place link : ℕ) (b : Bool) (r : LiveRow) → is_there n r ≡ true → is_there n (if b then record r { link = Some link } else r) ≡ true
linked_there n place link true r e = e
linked_there n place link false r e = e

opened_by : (b : Bool) (n row : ℕ) (c : Buffered) → nat_le row n ≡ true → list_all (is_held n) c.cursors ≡ true → list_all (is_held n) (if b then opened row c else c).cursors ≡ true
opened_by true n row c low e =
    all_more (is_held n) c.cursors (record { row = row; taken = 0 } ∷ []) e (ap (λ (b : Bool). b && true) low)
opened_by false n row c low e = e

pub to_held : (n row : ℕ) (c : Buffered) (o : Option ℕ) → list_all (is_held n) c.cursors ≡ true
    → list_all (is_held n) (option_map_or (λ taken. buffers.committed_at row taken c) o c).cursors ≡ true
to_held n row c None e = e
to_held n row c (Some taken) e = refl

pub committed_if : (b : Bool) (n row : ℕ) (c : Buffered) → list_all (is_held n) c.cursors ≡ true → list_all (is_held n) (if b then committed_to row c else c).cursors ≡ true
committed_if true n row c e = to_held n row c (buffers.taken_by row c) e
committed_if false n row c e = e

begun_held : (n row : ℕ) (is_committed : Bool) (c : Buffered) → nat_le row n ≡ true → list_all (is_held n) c.cursors ≡ true
    → list_all (is_held n) (begun_row row is_committed c).cursors ≡ true
begun_held n row is_committed c low e = by_bool is_committed
  where
    by_bool : (b : Bool) → list_all (is_held n) (begun_row row b c).cursors ≡ true
    by_bool true = committed_if (buffers.is_open row (parts.opened_row row c)) n row (parts.opened_row row c) (opened_by (can_open row c) n row c low e)
    by_bool false = opened_by (can_open row c) n row c low e

module _ (s : Stepped) (row : LiveRow) (found : (n : ℕ) → list_all (is_there n) s.call.live ≡ true → is_there n row ≡ true) where
  placed_row_live : (at : Placed) → Leaves s (step.placed_row_live row at s)
  placed_row_live at = record {
    rows = changed_length (placed_row at) s.ledger.rows row.place;
    within = λ n w. record {
      live = all_mapped (is_there n) (linked row.place at.link) (λ r e. linked_there n row.place at.link (is_row row.place r) r e) s.call.live w.live;
      held = begun_held n row.place (names row.place s.call.attempts.committed) s.call.buffer (found n w.live) w.held;
    };
    chosen = refl;
    sent = refl;
    waiting = placed_less at s.ledger.rows row.place;
    stopped = λ e. e;
  }

placed_if : (o : Option LiveRow) (row : ℕ) (at : Placed) (s : Stepped) → find_live row s.call.live ≡ o → Leaves s (step.placed_if_live o at s)
placed_if None row at s e = leaves_same s
placed_if (Some r) row at s e =
    let found : (n : ℕ) → list_all (is_there n) s.call.live ≡ true → is_there n r ≡ true
    = λ n all. sym (ap (λ (o : Option LiveRow). option_map_or (is_there n) o true) e) ∙ all_found (is_there n) (is_row row) s.call.live all in
    leaves_if (is_some r.link) s s (step.placed_row_live r at s) (leaves_same s) (placed_row_live s r found at)

pub leaves_placed : (row : ℕ) (at : Placed) (s : Stepped) → Leaves s (step.placed_at row at s)
leaves_placed row at s = placed_if (find_live row s.call.live) row at s refl

-- a hedge that is withheld
last_if : (b : Bool) (last moment : ℕ) (s : Stepped) → Leaves s (if b then step.ended_by_row last moment s else s)
last_if b last moment s = leaves_if b s (step.ended_by_row last moment s) s (by_row last moment s) (leaves_same s)

pub by_last : (o : Option ℕ) (moment : ℕ) (s : Stepped) → Leaves s (step.ended_by_last o moment s)
by_last None moment s = leaves_same s
by_last (Some last) moment s = last_if (has_none s.call.live) last moment s

pub leaves_refused : (moment : ℕ) (s : Stepped) → Leaves s (step.refused_due moment s)
leaves_refused moment s =
    let t : Stepped = step.with_attempts (parts.stopped_attempts s.call.attempts) s in
    leaves_on s t (step.refused_due moment s) (with_attempts (parts.stopped_attempts s.call.attempts) s refl (λ e. refl)) (by_last s.call.attempts.last moment t)
