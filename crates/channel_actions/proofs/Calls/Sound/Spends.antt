-- What is done to a call in a settling takes no more attempts than were to come; and what else is done to it leaves its attempts, and what it holds for them,
-- among the rows that are there.
use Rattle.std.proofs.Common.{◌≡◌, ◌≤◌, ◌+◌, ◌-◌, ◌∷◌, ◌++◌, ℕ, Bool, true, false, List, [], Option, None, Some, Result, Ok, Err, refl, ap, sym, subst, arith, length, min, nat_le, nat_lt, not, ◌&&◌, ◌||◌, ◌==◌, if◌then◌else◌, is_some}
use Rattle.std.proofs.lemmas.Bool.Decides.{nat_tests}
use Rattle.std.proofs.lemmas.List.{length-append}
use Rattle.std.specs.List.{list_all}
use Rattle.std.specs.Option.{option_map_or}
use Rattle.attempt_buffer.specs.Buffers.{Buffered, Cursor, is_committed_row, moved_one}
use Rattle.attempt_buffer.specs.Buffers as buffers
use Rattle.attempt_buffer.specs.declared.buffer.Pushed.{Pushed}
use Rattle.attempt_buffer.specs.declared.buffer.Pushed.TheVariants as pushed
use Rattle.attempt_buffer.specs.declared.buffer.PushFault.{PushFault}
use Rattle.attempt_ledger.specs.Numbering.{most_attempts}
use Rattle.attempt_ledger.specs.declared.news.EndNews.{EndNews}
use Rattle.attempt_ledger.specs.declared.news.News.{News}
use Rattle.attempt_ledger.specs.declared.news.News.TheVariants as news
use Rattle.attempt_ledger.specs.declared.row.RowKind.{RowKind}
use Rattle.attempt_ledger.specs.declared.row.RowKind.TheVariants as kind
use Rattle.call_core.specs.Parts as parts
use Rattle.call_core.specs.Parts.{find_live, is_followed}
use Rattle.call_core.specs.Steps as step
use Rattle.call_core.specs.Steps.{Stepped, call_plan}
use Rattle.call_core.specs.declared.attempts.Attempts.{Attempts}
use Rattle.call_core.specs.declared.live.LiveRow.{LiveRow}
use Rattle.call_core.specs.declared.state.CallState.{CallState}
use Rattle.channel_actions.proofs.KeptSessions.Lists.{all_mapped, all_more}
use Rattle.grpc_base.specs.declared.event.EndCause.{EndCause}
use Rattle.grpc_base.specs.declared.event.EndCause.TheVariants as ends
use Rattle.grpc_base.specs.declared.event.Refusal.{Refusal}
use Rattle.grpc_base.specs.declared.fields.Field.{Field}
use Rattle.grpc_base.specs.declared.plan.CallPlan.{CallPlan}
use Rattle.grpc_base.specs.declared.plan.CallPlan.TheVariants as plans
use Rattle.grpc_base.specs.declared.plan.Chosen.{Chosen}
use Rattle.grpc_base.specs.declared.plan.HedgePolicy.{HedgePolicy}
use Rattle.grpc_frame.specs.Messages.{framed}
use Rattle.hedge_core.specs.DueMoments as hedging
use Rattle.channel_actions.proofs.Calls.Sound.Steps.{Leaves, Sized, Within, committed_if, counts, is_held, is_there, leaves_committed, leaves_ended, leaves_if, leaves_on, leaves_refused, leaves_same, left_live, less_self, row_ended, to_held, waiting, within_more}

-- a step that may make an attempt
pub record Continues (s t : Stepped) : Type 0 where
  pub rows : length s.ledger.rows ≤ length t.ledger.rows
  pub within : Within (length s.ledger.rows) s.call → Within (length t.ledger.rows) t.call
  pub sized : Sized s.call → Sized t.call

-- which is one of those to come
pub record Spends (s t : Stepped) : Type 0 where
  pub goes : Continues s t
  pub all : Sized s.call → length t.ledger.rows + (5 - t.call.attempts.sent) ≤ length s.ledger.rows + (5 - s.call.attempts.sent)

same_or_more : (n m : ℕ) → m ≡ n → n ≤ m
same_or_more n m e = omega (arith, e)

pub goes_by : (s t : Stepped) → Leaves s t → Continues s t
goes_by s t l = record {
  rows = same_or_more (length s.ledger.rows) (length t.ledger.rows) l.rows;
  within = λ w. within_more (length s.ledger.rows) (length t.ledger.rows) t.call (same_or_more (length s.ledger.rows) (length t.ledger.rows) l.rows) (l.within (length s.ledger.rows) w);
  sized = λ k.
      let plan : most_attempts (call_plan t.call) ≡ most_attempts (call_plan s.call) = ap (λ (c : Option Chosen). most_attempts (parts.plan_of c)) l.chosen in
      let count : t.call.attempts.sent ≡ s.call.attempts.sent = l.sent in
      let range : most_attempts (call_plan s.call) ≤ 5 = k.range in
      let sent : s.call.attempts.sent ≤ most_attempts (call_plan s.call) = k.sent in
      record { range = omega (arith, plan, range); sent = omega (arith, plan, count, sent) };
}

pub spends_by : (s t : Stepped) → Leaves s t → Spends s t
spends_by s t l = record {
  goes = goes_by s t l;
  all = λ k. (let rows : length t.ledger.rows ≡ length s.ledger.rows = l.rows in
      let count : t.call.attempts.sent ≡ s.call.attempts.sent = l.sent in
      omega (arith, rows, count));
}

goes_if : (b : Bool) (s t u : Stepped) → Continues s t → Continues s u → Continues s (if b then t else u)
goes_if true s t u a b = a
goes_if false s t u a b = b

goes_on : (s t u : Stepped) → Continues s t → Continues t u → Continues s u
goes_on s t u a b = record {
  rows = (let first : length s.ledger.rows ≤ length t.ledger.rows = a.rows in
      let second : length t.ledger.rows ≤ length u.ledger.rows = b.rows in
      omega (arith, first, second));
  within = λ w. b.within (a.within w);
  sized = λ k. b.sized (a.sized k);
}

-- a row is added
low_place : (n : ℕ) → nat_le (n + 1) (n + 1) ≡ true
low_place n = grind (arith, nat_tests)

module _ (number : ℕ) (why : RowKind) (due : ℕ) (committed : Option ℕ) (s : Stepped) where
  abbrev added : Stepped
  added = step.row_added number why due committed s

  added_rows : length added.ledger.rows ≡ length s.ledger.rows + 1
  added_rows = length-append s.ledger.rows (step.new_row s.call.number number why due committed ∷ [])

  added_within : Within (length s.ledger.rows) s.call → Within (length added.ledger.rows) added.call
  added_within w =
      let more : length s.ledger.rows ≤ length s.ledger.rows + 1 = omega arith in
      let v : Within (length s.ledger.rows + 1) s.call = within_more (length s.ledger.rows) (length s.ledger.rows + 1) s.call more w in
      let new : LiveRow = record { place = step.next_place s.ledger; number = number; link = None } in
      let u : Within (length s.ledger.rows + 1) added.call = record {
        live = all_more (is_there (length s.ledger.rows + 1)) s.call.live (new ∷ []) v.live (ap (λ (b : Bool). b && true) (low_place (length s.ledger.rows)));
        held = v.held;
      } in
      subst (λ (n : ℕ). Within n added.call) (sym added_rows) u

-- an attempt is due only where the plan allows one more
off : (s b : Bool) (f : Option ℕ) (due : ℕ) → (if s || b then None else f) ≡ Some due → b ≡ false
off true b f due e = absurd (cc)
off false true f due e = absurd (cc)
off false false f due e = refl

off_over : (s z b : Bool) (f : Option ℕ) (due : ℕ) → (if s || z || b then None else f) ≡ Some due → b ≡ false
off_over true z b f due e = absurd (cc)
off_over false true b f due e = absurd (cc)
off_over false false true f due e = absurd (cc)
off_over false false false f due e = refl

le_less : (m n : ℕ) → nat_le m n ≡ false → n + 1 ≤ m
le_less m n e = grind (arith, nat_tests)

hedge_less : (p : HedgePolicy) (a : Attempts) (due : ℕ) (b : Bool)
    → (if b then parts.next_forced p.max a else hedging.next_due p (parts.hedge_of a)) ≡ Some due → a.sent + 1 ≤ p.max
hedge_less p a due true e = le_less p.max a.sent (off a.stopped (nat_le p.max a.sent) a.forced due e)
hedge_less p a due false e =
    le_less p.max a.sent
    (off_over a.stopped (a.sent == 0) (nat_le p.max a.sent)
    (option_map_or (λ forced. Some forced) a.forced (hedging.delayed_due p (parts.hedge_of a))) due e)

plan_less : (plan : CallPlan) (a : Attempts) (due : ℕ) → parts.next_of_plan plan a ≡ Some due → a.sent + 1 ≤ most_attempts plan
plan_less plans.None a due e = le_less 1 a.sent (off a.stopped (nat_le 1 a.sent) a.forced due e)
plan_less (plans.Retry p) a due e = le_less p.max a.sent (off a.stopped (nat_le p.max a.sent) a.forced due e)
plan_less (plans.Hedge p) a due e = hedge_less p a due (a.sent == 0) e

pub next_less : (call : CallState) (due : ℕ) → step.next_due call ≡ Some due → call.attempts.sent + 1 ≤ most_attempts (call_plan call)
next_less call due e = plan_less (call_plan call) call.attempts due e

-- it is made
made : (due : ℕ) (s : Stepped) → s.call.attempts.sent + 1 ≤ most_attempts (call_plan s.call) → Spends s (step.made due s)
made due s less =
    let number : ℕ = min (s.call.attempts.sent + 1) 4294967295 in
    let why : RowKind = parts.kind_of_next (call_plan s.call) s.call.attempts in
    let rows : length (added number why due None s).ledger.rows ≡ length s.ledger.rows + 1 = added_rows number why due None s in
    record {
      goes = record {
        rows = omega (arith, rows);
        within = λ w. (let v : Within (length (added number why due None s).ledger.rows) (added number why due None s).call = added_within number why due None s w in
            record { live = v.live; held = v.held });
        sized = λ k. (let range : most_attempts (call_plan s.call) ≤ 5 = k.range in record { range = range; sent = omega (arith, less) });
      };
      all = λ k. (let range : most_attempts (call_plan s.call) ≤ 5 = k.range in omega (arith, rows, less, range));
    }

due_if : (b : Bool) (moment due : ℕ) (s : Stepped) → s.call.attempts.sent + 1 ≤ most_attempts (call_plan s.call) → Spends s (if b then step.refused_due moment s else step.made due s)
due_if true moment due s less = spends_by s (step.refused_due moment s) (leaves_refused moment s)
due_if false moment due s less = made due s less

past_if : (b : Bool) (moment due : ℕ) (s : Stepped) → s.call.attempts.sent + 1 ≤ most_attempts (call_plan s.call) → Spends s (if b then s else step.due_at moment due s)
past_if true moment due s less = spends_by s s (leaves_same s)
past_if false moment due s less = due_if (parts.is_tested (call_plan s.call) s.call.attempts && not (parts.is_above s.tokens)) moment due s less

made_by : (o : Option ℕ) (moment : ℕ) (s : Stepped) → step.next_due s.call ≡ o → Spends s (step.made_if o moment s)
made_by None moment s e = spends_by s s (leaves_same s)
made_by (Some due) moment s e = past_if (nat_lt moment due) moment due s (next_less s.call due e)

pub spends_made : (moment : ℕ) (s : Stepped) → Spends s (step.made_due moment s)
spends_made moment s = made_by (step.next_due s.call) moment s refl

-- it gets its configuration, before any attempt of it is made
neither : (a b : Bool) → (a || b) ≡ false → b ≡ false
neither true b e = absurd (cc)
neither false b e = e

none_of : {X : Type 0} (o : Option X) → is_some o ≡ false → o ≡ None
none_of None e = refl
none_of (Some x) e = absurd (cc)

long_if : (b : Bool) (s t : Stepped) (moment : ℕ) → Spends s t → Spends s (step.ended_if b ends.Request moment t)
long_if true s t moment a =
    let b : Leaves t (step.ended_as ends.Request moment t) = leaves_ended ends.Request moment t in
    let c : Spends t (step.ended_as ends.Request moment t) = spends_by t (step.ended_as ends.Request moment t) b in
    record {
      goes = goes_on s t (step.ended_as ends.Request moment t) a.goes c.goes;
      all = λ k. (let first : length t.ledger.rows + (5 - t.call.attempts.sent) ≤ length s.ledger.rows + (5 - s.call.attempts.sent) = a.all k in
          let rows : length (step.ended_as ends.Request moment t).ledger.rows ≡ length t.ledger.rows = b.rows in
          let count : (step.ended_as ends.Request moment t).call.attempts.sent ≡ t.call.attempts.sent = b.sent in
          omega (arith, first, rows, count));
    }
long_if false s t moment a = a

configured_if : (b : Bool) (chosen : Chosen) (moment : ℕ) (s : Stepped) → most_attempts chosen.plan ≤ 5 → (b ≡ false → s.call.attempts.sent ≡ 0)
    → Spends s (if b then s else step.ended_if (parts.is_too_long (Some chosen) s.call.longest) ends.Request moment (step.with_chosen chosen moment s))
configured_if true chosen moment s few fresh = spends_by s s (leaves_same s)
configured_if false chosen moment s few fresh =
    let none : s.call.attempts.sent ≡ 0 = fresh refl in
    let t : Stepped = step.with_chosen chosen moment s in
    let rows : length t.ledger.rows ≡ length s.ledger.rows = refl in
    let count : t.call.attempts.sent ≡ s.call.attempts.sent = refl in
    let first : Spends s t = record {
      goes = record {
        rows = omega arith;
        within = λ w. record { live = w.live; held = w.held };
        sized = λ k. record { range = few; sent = omega (arith, none) };
      };
      all = λ k. omega arith;
    } in
    long_if (parts.is_too_long (Some chosen) s.call.longest) s t moment first

pub spends_configured : (chosen : Chosen) (moment : ℕ) (s : Stepped) → most_attempts chosen.plan ≤ 5 → (s.call.chosen ≡ None → s.call.attempts.sent ≡ 0)
    → Spends s (step.configured chosen moment s)
spends_configured chosen moment s few fresh =
    configured_if (is_some s.call.ended || is_some s.call.chosen) chosen moment s few
    (λ e. fresh (none_of s.call.chosen (neither (is_some s.call.ended) (is_some s.call.chosen) e)))

-- an end that a transparent retry follows takes none of those to come
followed : (row : LiveRow) (reported : EndNews) (moment : ℕ) (s : Stepped) → Continues s (step.followed row reported moment s)
followed row reported moment s =
    let end = parts.row_end reported s.ledger.entry moment (parts.count_of s.tokens) in
    let t : Stepped = step.row_ended row.place end s in
    let committed : Option ℕ = step.stamp_if (parts.names row.place s.call.attempts.committed) s.ledger.entry in
    let first : Continues s t = goes_by s t (row_ended row.place end s) in
    let rows : length (added row.number kind.Transparent moment committed t).ledger.rows ≡ length t.ledger.rows + 1 = added_rows row.number kind.Transparent moment committed t in
    let second : Continues t (step.followed row reported moment s) = record {
      rows = omega (arith, rows);
      within = λ w. (let v : Within (length (added row.number kind.Transparent moment committed t).ledger.rows) (added row.number kind.Transparent moment committed t).call
          = added_within row.number kind.Transparent moment committed t w in
          record { live = v.live; held = v.held });
      sized = λ k. record { range = k.range; sent = k.sent };
    } in
    goes_on s t (step.followed row reported moment s) first second

ended_if_live : (o : Option LiveRow) (reported : EndNews) (moment word : ℕ) (s : Stepped) → Continues s (step.ended_if_live o reported moment word s)
ended_if_live None reported moment word s = goes_by s s (leaves_same s)
ended_if_live (Some row) reported moment word s =
    let t : Stepped = step.left_live row.place s in
    goes_if (is_followed s.call.attempts reported.cause reported.unseen) s (step.followed row reported moment t) (step.counted row reported moment word (step.settled reported t))
    (goes_on s t (step.followed row reported moment t) (goes_by s t (left_live row.place s)) (followed row reported moment t))
    (goes_by s (step.counted row reported moment word (step.settled reported t)) (counts row reported moment word s))

-- what a call receives
head_commits : (b : Bool) (row moment : ℕ) (s : Stepped)
    → Leaves s (if b then s else step.committed row moment (record s { call = record s.call { buffer = parts.committed_buffer row s.call.buffer } }))
head_commits true row moment s = leaves_same s
head_commits false row moment s =
    let t : Stepped = record s { call = record s.call { buffer = parts.committed_buffer row s.call.buffer } } in
    leaves_on s t (step.committed row moment t)
    (record {
      rows = refl;
      within = λ n w. record { live = w.live; held = committed_if (buffers.is_open row s.call.buffer) n row s.call.buffer w.held };
      chosen = refl;
      sent = refl;
      waiting = less_self (waiting s.ledger.rows);
      stopped = λ e. e;
    }) (leaves_committed row moment t)

with_head : (meta : List Field) (s t : Stepped) → Leaves s t → Leaves s (step.with_head meta t)
with_head meta s t l = record {
  rows = l.rows;
  within = λ n w. (let v : Within n t.call = l.within n w in record { live = v.live; held = v.held });
  chosen = l.chosen;
  sent = l.sent;
  waiting = l.waiting;
  stopped = l.stopped;
}

received_head : (row : ℕ) (meta : List Field) (moment : ℕ) (s : Stepped) → Leaves s (step.received_head row meta moment s)
received_head row meta moment s =
    let t : Stepped = step.commit_by_head row moment s in
    leaves_if (is_some (find_live row s.call.live)) s (step.with_head meta t) s
    (with_head meta s t (head_commits (is_some s.call.attempts.committed) row moment s)) (leaves_same s)

message_if : (b : Bool) (octets : List ℕ) (s : Stepped)
    → Leaves s (record s { call = if b then record s.call { inbox = record s.call.inbox { messages = s.call.inbox.messages ++ octets ∷ [] } } else s.call })
message_if true octets s = record {
  rows = refl;
  within = λ n w. record { live = w.live; held = w.held };
  chosen = refl;
  sent = refl;
  waiting = less_self (waiting s.ledger.rows);
  stopped = λ e. e;
}
message_if false octets s = leaves_same s

large_if : (b : Bool) (moment : ℕ) (s : Stepped) → Leaves s (step.ended_if b ends.Response moment s)
large_if b moment s = leaves_if b s (step.ended_as ends.Response moment s) s (leaves_ended ends.Response moment s) (leaves_same s)

pub goes_received : (row : ℕ) (reported : News) (moment word : ℕ) (s : Stepped) → Continues s (step.received_news row reported moment word s)
goes_received row (news.Head tag meta seen) moment word s = goes_by s (step.received_head row meta moment s) (received_head row meta moment s)
goes_received row (news.Message tag octets seen) moment word s =
    goes_by s (record s { call = step.received_message row octets s.call }) (message_if (step.is_committed_live row s.call) octets s)
goes_received row (news.TooLarge tag seen) moment word s =
    goes_by s (step.received_too_large row moment s) (large_if (step.is_committed_live row s.call) moment s)
goes_received row (news.Ended tag end) moment word s = ended_if_live (find_live row s.call.live) end moment word s
goes_received row news.Ready moment word s = goes_by s s (leaves_same s)
goes_received row news.Retiring moment word s = goes_by s s (leaves_same s)
goes_received row (news.Broken code) moment word s = goes_by s s (leaves_same s)

-- what its application sends
appended_held : (b : Bool) (n : ℕ) (text : List ℕ) (c : Buffered) → list_all (is_held n) c.cursors ≡ true
    → list_all (is_held n) (if b then c else record c { messages = c.messages ++ text ∷ [] }).cursors ≡ true
appended_held true n text c e = e
appended_held false n text c e = e

pushed_held : (n : ℕ) (text : List ℕ) (c : Buffered) (row : Option ℕ) (answer : Pushed) → list_all (is_held n) c.cursors ≡ true
    → list_all (is_held n) (buffers.pushed_to c text answer row).cursors ≡ true
pushed_held n text c None pushed.Kept e = appended_held (length text == 0) n text c e
pushed_held n text c None pushed.Overflow e = appended_held (length text == 0) n text c e
pushed_held n text c (Some row) pushed.Kept e = appended_held (length text == 0) n text c e
pushed_held n text c (Some row) pushed.Overflow e =
    to_held n row (buffers.appended text c) (buffers.taken_by row (buffers.appended text c)) (appended_held (length text == 0) n text c e)

pushed_by : (n : ℕ) (text : List ℕ) (c : Buffered) (row : Option ℕ) (answer : Result Pushed PushFault) → list_all (is_held n) c.cursors ≡ true
    → list_all (is_held n) (parts.pushed_by c text row answer).cursors ≡ true
pushed_by n text c row (Ok answer) e = pushed_held n text c row answer e
pushed_by n text c row (Err fault) e = e

over_if : (b : Bool) (row moment : ℕ) (s : Stepped) → Leaves s (if b then step.committed row moment s else s)
over_if b row moment s = leaves_if b s (step.committed row moment s) s (leaves_committed row moment s) (leaves_same s)

committed_over : (over : Bool) (o : Option ℕ) (moment : ℕ) (s : Stepped) → Leaves s (step.committed_over over o moment s)
committed_over over None moment s = leaves_same s
committed_over over (Some row) moment s = over_if over row moment s

accepted_by : (o : Option ℕ) (message : List ℕ) (moment : ℕ) (s : Stepped) → Leaves s (step.accepted_if o message moment s)
accepted_by (Some held) message moment s = leaves_same s
accepted_by None message moment s =
    let text : List ℕ = framed message in
    let row : Option ℕ = parts.furthest s.call.buffer s.call.live in
    let t : Stepped = record s { call = step.with_message message row s.call } in
    let over : Bool = parts.pushed_over s.call.buffer text row in
    leaves_on s t (step.committed_over over row moment t)
    (record {
      rows = refl;
      within = λ n w. record { live = w.live; held = pushed_by n text s.call.buffer row (buffers.push_answer s.call.buffer (length text) row) w.held };
      chosen = refl;
      sent = refl;
      waiting = less_self (waiting s.ledger.rows);
      stopped = λ e. e;
    }) (committed_over over row moment t)

sent_by : (o : Option Refusal) (message : List ℕ) (moment : ℕ) (s : Stepped) → Leaves s (step.sent_if o message moment s)
sent_by (Some why) message moment s = leaves_same s
sent_by None message moment s =
    leaves_if (parts.is_too_long s.call.chosen (length message)) s (step.ended_as ends.Request moment s) (step.accepted_if (step.full_with (length message) s.call) message moment s)
    (leaves_ended ends.Request moment s) (accepted_by (step.full_with (length message) s.call) message moment s)

pub goes_sent : (message : List ℕ) (moment : ℕ) (s : Stepped) → Continues s (step.sent message moment s)
goes_sent message moment s = goes_by s (step.sent message moment s) (sent_by (step.send_refusal s.call) message moment s)

-- what is written for an attempt, and what its application takes, of what a call holds for its attempts
pub record Same (c d : CallState) : Type 0 where
  pub live : d.live ≡ c.live
  pub held : (n : ℕ) → list_all (is_held n) c.buffer.cursors ≡ true → list_all (is_held n) d.buffer.cursors ≡ true
  pub chosen : d.chosen ≡ c.chosen
  pub attempts : d.attempts ≡ c.attempts

moved_held : (n row taken : ℕ) (b : Bool) (k : Cursor) → is_held n k ≡ true → is_held n (if b then record k { taken = taken } else k) ≡ true
moved_held n row taken true k e = e
moved_held n row taken false k e = e

taken_held : (b : Bool) (n row taken : ℕ) (c : Buffered) → list_all (is_held n) c.cursors ≡ true
    → list_all (is_held n) (if b then buffers.committed_at row taken c else record c { cursors = buffers.moved row taken c.cursors }).cursors ≡ true
taken_held true n row taken c e = refl
taken_held false n row taken c e = all_mapped (is_held n) (moved_one row taken) (λ k h. moved_held n row taken (k.row == row) k h) c.cursors e

after_held : (o : Option ℕ) (n row len : ℕ) (c : Buffered) → list_all (is_held n) c.cursors ≡ true
    → list_all (is_held n) (option_map_or (λ taken. buffers.taken_to row (taken + len) c) o c).cursors ≡ true
after_held None n row len c e = e
after_held (Some taken) n row len c e = taken_held (is_committed_row row c.committed) n row (taken + len) c e

fed_if : (b : Bool) (n row len : ℕ) (c : Buffered) → list_all (is_held n) c.cursors ≡ true
    → list_all (is_held n) (if b then buffers.after_taking row len c else c).cursors ≡ true
fed_if true n row len c e = after_held (buffers.taken_by row c) n row len c e
fed_if false n row len c e = e

pub fed_same : (row len : ℕ) (c : CallState) → Same c (step.fed_row row len c)
fed_same row len c = record {
  live = refl;
  held = λ n e. fed_if (parts.can_feed row len c.buffer) n row len c.buffer e;
  chosen = refl;
  attempts = refl;
}

finished_by : (o : Option Refusal) (c : CallState) → Same c (step.finished_if o c)
finished_by None c = record { live = refl; held = λ n e. e; chosen = refl; attempts = refl }
finished_by (Some why) c = record { live = refl; held = λ n e. e; chosen = refl; attempts = refl }

pub finished_same : (c : CallState) → Same c (step.finished c)
finished_same c = finished_by (step.send_refusal c) c

taken_end : (o : Option EndCause) (c d : CallState) → Same c d → Same c (step.taken_end o d)
taken_end None c d k = k
taken_end (Some why) c d k = record { live = k.live; held = k.held; chosen = k.chosen; attempts = k.attempts }

taken_message : (o : Option (List ℕ)) (c d : CallState) → Same c d → Same c (step.taken_message o d)
taken_message None c d k =
    taken_end d.ended c (step.with_rest d) (record { live = k.live; held = k.held; chosen = k.chosen; attempts = k.attempts })
taken_message (Some octets) c d k = record { live = k.live; held = k.held; chosen = k.chosen; attempts = k.attempts }

taken_item : (o : Option (List Field)) (c : CallState) → Same c (step.taken_item o c)
taken_item None c =
    taken_message (parts.first_of c.inbox.messages) c (step.without_head c) (record { live = refl; held = λ n e. e; chosen = refl; attempts = refl })
taken_item (Some meta) c = record { live = refl; held = λ n e. e; chosen = refl; attempts = refl }

taken_if : (b : Bool) (c : CallState) → Same c (if b then c else step.taken_item c.inbox.head c)
taken_if true c = record { live = refl; held = λ n e. e; chosen = refl; attempts = refl }
taken_if false c = taken_item c.inbox.head c

pub taken_same : (c : CallState) → Same c (step.taken c)
taken_same c = taken_if c.inbox.is_end_taken c
