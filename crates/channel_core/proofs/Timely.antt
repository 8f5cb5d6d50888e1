-- What is done to a call at a moment writes that moment into each stamp, and begins no call.
use Rattle.std.proofs.Common.{◌≡◌, ℕ, zero, suc, ◌+◌, Bool, true, false, not, ◌&&◌, ◌||◌, nat_le, nat_lt, length, if◌then◌else◌, min, Option, Some, None, is_some, List, [], ◌∷◌, ◌++◌, map, refl, ap, subst, ◌∙◌}
use Rattle.std.specs.Option.{option_map_or}
use Rattle.grpc_base.specs.declared.event.EndCause.{EndCause}
use Rattle.grpc_base.specs.declared.event.EndCause.TheVariants as ends
use Rattle.grpc_base.specs.declared.event.Refusal.{Refusal}
use Rattle.grpc_base.specs.declared.fields.Field.{Field}
use Rattle.grpc_base.specs.declared.plan.Chosen.{Chosen}
use Rattle.attempt_ledger.specs.declared.ledger.CallEnd.{CallEnd}
use Rattle.attempt_ledger.specs.declared.ledger.CallSeen.{CallSeen}
use Rattle.attempt_ledger.specs.declared.ledger.Ledger.{Ledger}
use Rattle.attempt_ledger.specs.declared.news.EndNews.{EndNews}
use Rattle.attempt_ledger.specs.declared.news.News.{News}
use Rattle.attempt_ledger.specs.declared.news.News.TheVariants as news
use Rattle.attempt_ledger.specs.declared.row.Placed.{Placed}
use Rattle.attempt_ledger.specs.declared.row.Row.{Row}
use Rattle.attempt_ledger.specs.declared.row.RowEnd.{RowEnd}
use Rattle.attempt_ledger.specs.declared.row.RowKind.{RowKind}
use Rattle.attempt_ledger.specs.declared.row.RowKind.TheVariants as kind
use Rattle.grpc_frame.specs.Messages.{framed}
use Rattle.ledger_stamps.specs.Later.{Grown, Later, LaterCalls, LaterRows, NewRow, Written, blank_row}
use Rattle.ledger_stamps.specs.Steps.{begun_call, changed, changed_at, committed_row, configured_call, ended_call, ended_row, index_at, noted_call, placed_row, streamed_row}
use Rattle.ledger_stamps.proofs.Growth.{grown_at, grown_more, grown_same, grown_then, written_same, written_stamped, written_then}
use Rattle.ledger_stamps.proofs.LaterLaws.{call_configured, call_ended, call_noted, later_same, later_then, row_added, row_committed, row_ended, row_placed, row_streamed}
use Rattle.call_core.specs.declared.judge.Judged.{Judged}
use Rattle.call_core.specs.declared.live.LiveRow.{LiveRow}
use Rattle.call_core.specs.Parts.{committed_buffer, count_of, cut_end, find_live, furthest, has_none, is_above, is_followed, is_tested, is_too_long, kind_of_next, names, pushed_over, read_of, row_end, stopped_attempts}
use Rattle.call_core.specs.Steps as step
use Rattle.call_core.specs.Steps.{Stepped, call_plan, cut_all, cut_row, cut_unless, deadline_at, full_with, is_committed_live, judged_of, left_live, new_row, next_due, send_refusal, settled, stamp_if, with_chosen, with_judged, with_message}

-- the stamps of a row and of a call that have moments
pub record TimelyRow (m : ℕ) (old new : Row) : Type 0 where
  pub placed : Written (λ p. p.moment) m old.placed new.placed
  pub ended : Written (λ e. e.moment) m old.ended new.ended

abbrev pub NewTimelyRow : ℕ → Row → Type 0
NewTimelyRow m row = TimelyRow m (blank_row row) row

abbrev pub TimelyCall : ℕ → CallSeen → CallSeen → Type 0
TimelyCall m old new = Written (λ (e : CallEnd). e.moment) m old.end new.end

abbrev pub NewTimelyCall : ℕ → CallSeen → Type 0
NewTimelyCall m call = Written (λ (e : CallEnd). e.moment) m None call.end

-- a ledger after writes at this moment
pub record Timely (m : ℕ) (old new : Ledger) : Type 0 where
  pub rows : Grown (TimelyRow m) (NewTimelyRow m) old.rows new.rows
  pub calls : Grown (TimelyCall m) (NewTimelyCall m) old.calls new.calls

row_same : (m : ℕ) (r : Row) → TimelyRow m r r
row_same m r = record { placed = written_same (λ p. p.moment) m r.placed; ended = written_same (λ e. e.moment) m r.ended }

row_then : (m : ℕ) (a b c : Row) → TimelyRow m a b → TimelyRow m b c → TimelyRow m a c
row_then m a b c first second = record {
  placed = written_then (λ p. p.moment) m a.placed b.placed c.placed first.placed second.placed;
  ended = written_then (λ e. e.moment) m a.ended b.ended c.ended first.ended second.ended;
}

row_new : (m : ℕ) (a b : Row) → NewTimelyRow m a → TimelyRow m a b → NewTimelyRow m b
row_new m a b first second = record {
  placed = written_then (λ p. p.moment) m None a.placed b.placed first.placed second.placed;
  ended = written_then (λ e. e.moment) m None a.ended b.ended first.ended second.ended;
}

call_same : (m : ℕ) (c : CallSeen) → TimelyCall m c c
call_same m c = written_same (λ e. e.moment) m c.end

call_then : (m : ℕ) (a b c : CallSeen) → TimelyCall m a b → TimelyCall m b c → TimelyCall m a c
call_then m a b c first second = written_then (λ e. e.moment) m a.end b.end c.end first second

call_new : (m : ℕ) (a b : CallSeen) → NewTimelyCall m a → TimelyCall m a b → NewTimelyCall m b
call_new m a b first second = written_then (λ e. e.moment) m None a.end b.end first second

rows_same : (m : ℕ) (rows : List Row) → Grown (TimelyRow m) (NewTimelyRow m) rows rows
rows_same m rows = grown_same (TimelyRow m) (NewTimelyRow m) rows (row_same m)

calls_same : (m : ℕ) (calls : List CallSeen) → Grown (TimelyCall m) (NewTimelyCall m) calls calls
calls_same m calls = grown_same (TimelyCall m) (NewTimelyCall m) calls (call_same m)

pub timely_same : (m : ℕ) (l : Ledger) → Timely m l l
timely_same m l = record { rows = rows_same m l.rows; calls = calls_same m l.calls }

pub timely_then : (m : ℕ) (a b c : Ledger) → Timely m a b → Timely m b c → Timely m a c
timely_then m a b c first second = record {
  rows = grown_then (TimelyRow m) (NewTimelyRow m) a.rows b.rows c.rows (row_then m) (row_new m) first.rows second.rows;
  calls = grown_then (TimelyCall m) (NewTimelyCall m) a.calls b.calls c.calls (call_then m) (call_new m) first.calls second.calls;
}

-- a ledger after writes of its entry at this moment into its rows and calls alone, where no call is added
pub record Quiet (m : ℕ) (old new : Ledger) : Type 0 where
  pub entry : new.entry ≡ old.entry
  pub later : Later old.entry old new
  pub timely : Timely m old new
  pub begun : map (λ c. c.begun) new.calls ≡ map (λ c. c.begun) old.calls
  pub links : new.links ≡ old.links

pub quiet_same : (m : ℕ) (l : Ledger) → Quiet m l l
quiet_same m l = record { entry = refl; later = later_same l.entry l; timely = timely_same m l; begun = refl; links = refl }

quiet_then : (m : ℕ) (a b c : Ledger) → Quiet m a b → Quiet m b c → Quiet m a c
quiet_then m a b c first second = record {
  entry = second.entry ∙ first.entry;
  later = later_then a.entry a b c first.later (subst (λ (n : ℕ). Later n b c) first.entry second.later);
  timely = timely_then m a b c first.timely second.timely;
  begun = second.begun ∙ first.begun;
  links = second.links ∙ first.links;
}

-- an element that changes but for a part
map_changed : {X : Type 0} (g : X → ℕ) (f : X → X) (xs : List X) (index : ℕ) → ((x : X) → g (f x) ≡ g x) → map g (changed f xs index) ≡ map g xs
map_changed g f [] index h = refl
map_changed g f (x ∷ xs) zero h = ap (λ n. n ∷ map g xs) (h x)
map_changed g f (x ∷ xs) (suc index) h = ap (λ ns. g x ∷ ns) (map_changed g f xs index h)

map_index : {X : Type 0} (g : X → ℕ) (f : X → X) (xs : List X) (index : Option ℕ) → ((x : X) → g (f x) ≡ g x) → map g (option_map_or (λ i. changed f xs i) index xs) ≡ map g xs
map_index g f xs None h = refl
map_index g f xs (Some index) h = map_changed g f xs index h

pub map_changed_at : {X : Type 0} (g : X → ℕ) (f : X → X) (xs : List X) (place : ℕ) → ((x : X) → g (f x) ≡ g x) → map g (changed_at f xs place) ≡ map g xs
map_changed_at g f xs place h = map_index g f xs (index_at place (length xs)) h

of_rows : (m : ℕ) (l : Ledger) (rows : List Row) → LaterRows l.entry l.rows rows → Grown (TimelyRow m) (NewTimelyRow m) l.rows rows → Quiet m l (record l { rows = rows })
of_rows m l rows g h =
    let same : Later l.entry l l = later_same l.entry l in
    record {
      entry = refl;
      later = record { rows = g; calls = same.calls; asks = same.asks; generations = same.generations; links = same.links };
      timely = record { rows = h; calls = calls_same m l.calls };
      begun = refl;
      links = refl;
    }

-- each write
row_at : (m : ℕ) (l : Ledger) (f : Row → Row) (place : ℕ) → LaterRows l.entry l.rows (changed_at f l.rows place) → ((r : Row) → TimelyRow m r (f r)) → Quiet m l (record l { rows = changed_at f l.rows place })
row_at m l f place g h = of_rows m l _ g (grown_at (TimelyRow m) (NewTimelyRow m) f l.rows place (row_same m) h)

call_at : (m : ℕ) (l : Ledger) (f : CallSeen → CallSeen) (number : ℕ) → LaterCalls l.entry l.calls (changed_at f l.calls number) → ((c : CallSeen) → TimelyCall m c (f c)) → ((c : CallSeen) → (f c).begun ≡ c.begun) → Quiet m l (record l { calls = changed_at f l.calls number })
call_at m l f number g h begun =
    let same : Later l.entry l l = later_same l.entry l in
    record {
      entry = refl;
      later = record { rows = same.rows; calls = g; asks = same.asks; generations = same.generations; links = same.links };
      timely = record { rows = rows_same m l.rows; calls = grown_at (TimelyCall m) (NewTimelyCall m) f l.calls number (call_same m) h };
      begun = map_changed_at (λ c. c.begun) f l.calls number begun;
      links = refl;
    }

end_write : (m : ℕ) (end : RowEnd) → end.moment ≡ m → (r : Row) → TimelyRow m r (ended_row end r)
end_write m end e r = record { placed = written_same (λ p. p.moment) m r.placed; ended = written_stamped (λ x. x.moment) m end r.ended e }

place_write : (m : ℕ) (at : Placed) → at.moment ≡ m → (r : Row) → TimelyRow m r (placed_row at r)
place_write m at e r = record { placed = written_stamped (λ p. p.moment) m at r.placed e; ended = written_same (λ x. x.moment) m r.ended }

commit_write : (m entry : ℕ) (r : Row) → TimelyRow m r (committed_row entry r)
commit_write m entry r = record { placed = written_same (λ p. p.moment) m r.placed; ended = written_same (λ x. x.moment) m r.ended }

stream_write : (m stream : ℕ) (r : Row) → TimelyRow m r (streamed_row stream r)
stream_write m stream r = record { placed = written_same (λ p. p.moment) m r.placed; ended = written_same (λ x. x.moment) m r.ended }

pub quiet_streamed : (m : ℕ) (l : Ledger) (place stream : ℕ) → Quiet m l (record l { rows = changed_at (streamed_row stream) l.rows place })
quiet_streamed m l place stream = row_at m l (streamed_row stream) place (row_streamed l.entry l.rows place stream) (stream_write m stream)

pub timely_begun : (m : ℕ) (l : Ledger) → Timely m l (record l { calls = l.calls ++ begun_call l.entry ∷ [] })
timely_begun m l = record { rows = rows_same m l.rows; calls = grown_more (TimelyCall m) (NewTimelyCall m) l.calls (begun_call l.entry) (call_same m) tt }

either : (m : ℕ) (l : Ledger) (b : Bool) (x y : Stepped) → Quiet m l x.ledger → Quiet m l y.ledger → Quiet m l (if b then x else y).ledger
either m l true x y first second = first
either m l false x y first second = second

-- cuts
cut_one : (m : ℕ) (tokens : Option ℕ) (place : ℕ) (l : Ledger) (link : Option ℕ) → Quiet m l (cut_row m tokens place l link)
cut_one m tokens place l None = quiet_same m l
cut_one m tokens place l (Some link) =
    let end : RowEnd = cut_end l.entry m (read_of l.links link) tokens in row_at m l (ended_row end) place (row_ended l.entry l.rows place end refl) (end_write m end refl)

cut_if : (m : ℕ) (kept : Bool) (l x : Ledger) → Quiet m l x → Quiet m l (if kept then l else x)
cut_if m true l x h = quiet_same m l
cut_if m false l x h = h

cuts : (kept : Option ℕ) (m : ℕ) (tokens : Option ℕ) (live : List LiveRow) (l : Ledger) → Quiet m l (cut_all kept m tokens live l)
cuts kept m tokens [] l = quiet_same m l
cuts kept m tokens (row ∷ live) l =
    let x : Ledger = cut_unless kept m tokens row l in
    quiet_then m l x _ (cut_if m (names row.place kept) l (cut_row m tokens row.place l row.link) (cut_one m tokens row.place l row.link)) (cuts kept m tokens live x)

-- a commitment, and the end of a call
commit : (place m : ℕ) (s : Stepped) → Quiet m s.ledger (step.committed place m s).ledger
commit place m s =
    let x : Ledger = step.commit_stamped place s.ledger in
    quiet_then m s.ledger x _ (row_at m s.ledger (committed_row s.ledger.entry) place (row_committed s.ledger.entry s.ledger.rows place) (commit_write m s.ledger.entry)) (cuts (Some place) m (count_of s.tokens) s.call.live x)

end_call : (why : EndCause) (m : ℕ) (s : Stepped) → Quiet m s.ledger (step.ended_as why m s).ledger
end_call why m s =
    let x : Ledger = cut_all None m (count_of s.tokens) s.call.live s.ledger in
    let end : CallEnd = record { entry = x.entry; moment = m; cause = why } in
    quiet_then m s.ledger x _ (cuts None m (count_of s.tokens) s.call.live s.ledger) (call_at m x (ended_call end) s.call.number (call_ended x.entry x.calls s.call.number end refl) (λ c. written_stamped (λ e. e.moment) m end c.end refl) (λ c. refl))

end_if : (ends : Bool) (why : EndCause) (m : ℕ) (s : Stepped) → Quiet m s.ledger (step.ended_if ends why m s).ledger
end_if true why m s = end_call why m s
end_if false why m s = quiet_same m s.ledger

end_by_row : (place m : ℕ) (s : Stepped) → Quiet m s.ledger (step.ended_by_row place m s).ledger
end_by_row place m s =
    let x : Stepped = step.committed place m s in quiet_then m s.ledger x.ledger _ (commit place m s) (end_call ends.Row m x)

-- a row is made
add_row : (m number : ℕ) (why : RowKind) (due : ℕ) (committed : Option ℕ) (s : Stepped) → Written (λ e. e) s.ledger.entry None committed → Quiet m s.ledger (step.row_added number why due committed s).ledger
add_row m number why due committed s h =
    let n : ℕ = s.ledger.entry in
    let row : Row = new_row s.call.number number why due committed in
    let x : Ledger = record s.ledger { rows = s.ledger.rows ++ row ∷ [] } in
    let fresh : NewRow n row = record { call = refl; number = refl; kind = refl; due = refl; stamps = record { placed = tt; stream = tt; ended = tt; committed = h } } in
    quiet_then m s.ledger x _ (of_rows m s.ledger _ (row_added n s.ledger.rows row fresh) (grown_more (TimelyRow m) (NewTimelyRow m) s.ledger.rows row (row_same m) (record { placed = tt; ended = tt })))
    (call_at m x (noted_call n) s.call.number (call_noted n x.calls s.call.number) (λ c. call_same m c) (λ c. refl))

stamp_now : (b : Bool) (n : ℕ) → Written (λ e. e) n None (stamp_if b n)
stamp_now true n = refl
stamp_now false n = tt

-- the end of a row
end_row : (m place : ℕ) (end : RowEnd) (s : Stepped) → end.entry ≡ s.ledger.entry → end.moment ≡ m → Quiet m s.ledger (step.row_ended place end s).ledger
end_row m place end s n e = row_at m s.ledger (ended_row end) place (row_ended s.ledger.entry s.ledger.rows place end n) (end_write m end e)

follow : (row : LiveRow) (reported : EndNews) (m : ℕ) (s : Stepped) → Quiet m s.ledger (step.followed row reported m s).ledger
follow row reported m s =
    let end : RowEnd = row_end reported s.ledger.entry m (count_of s.tokens) in
    let x : Stepped = step.row_ended row.place end s in
    quiet_then m s.ledger x.ledger _ (end_row m row.place end s refl refl)
    (add_row m row.number kind.Transparent m (stamp_if (names row.place s.call.attempts.committed) s.ledger.entry) x (stamp_now (names row.place s.call.attempts.committed) s.ledger.entry))

close_if : (closes : Bool) (place m : ℕ) (s : Stepped) → Quiet m s.ledger (step.closed_if closes place m s).ledger
close_if true place m s = end_by_row place m s
close_if false place m s = quiet_same m s.ledger

judge : (row : LiveRow) (end : RowEnd) (after : Judged) (m : ℕ) (s : Stepped) → end.entry ≡ s.ledger.entry → end.moment ≡ m → Quiet m s.ledger (step.closed_if after.closes row.place m (with_judged row end after s)).ledger
judge row end after m s n e =
    let x : Stepped = with_judged row end after s in
    quiet_then m s.ledger x.ledger _ (end_row m row.place (record end { word = after.word }) s n e) (close_if after.closes row.place m x)

count : (row : LiveRow) (reported : EndNews) (m word : ℕ) (s : Stepped) → Quiet m s.ledger (step.counted row reported m word s).ledger
count row reported m word s =
    let end : RowEnd = row_end reported s.ledger.entry m (count_of s.tokens) in
    let x : Stepped = step.row_ended row.place end s in
    either m s.ledger (is_some s.call.attempts.committed) (step.ended_as ends.Row m x) (step.counted_free row end m word s)
    (quiet_then m s.ledger x.ledger _ (end_row m row.place end s refl refl) (end_call ends.Row m x))
    (judge row end (judged_of row end word s.call s.tokens) m s refl refl)

end_found : (found : Option LiveRow) (reported : EndNews) (m word : ℕ) (s : Stepped) → Quiet m s.ledger (step.ended_if_live found reported m word s).ledger
end_found None reported m word s = quiet_same m s.ledger
end_found (Some row) reported m word s =
    either m s.ledger (is_followed s.call.attempts reported.cause reported.unseen) (step.followed row reported m (left_live row.place s)) (step.counted row reported m word (settled reported (left_live row.place s)))
    (follow row reported m (left_live row.place s)) (count row reported m word (settled reported (left_live row.place s)))

pub quiet_ended_at : (row : ℕ) (reported : EndNews) (m word : ℕ) (s : Stepped) → Quiet m s.ledger (step.ended_at row reported m word s).ledger
quiet_ended_at row reported m word s = end_found (find_live row s.call.live) reported m word s

-- news
head : (row : ℕ) (meta : List Field) (m : ℕ) (s : Stepped) → Quiet m s.ledger (step.received_head row meta m s).ledger
head row meta m s =
    let c : Stepped = record s { call = record s.call { buffer = committed_buffer row s.call.buffer } } in
    either m s.ledger (is_some (find_live row s.call.live)) (step.with_head meta (step.commit_by_head row m s)) s
    (either m s.ledger (is_some s.call.attempts.committed) s (step.committed row m c) (quiet_same m s.ledger) (commit row m c)) (quiet_same m s.ledger)

pub quiet_news : (row : ℕ) (reported : News) (m word : ℕ) (s : Stepped) → Quiet m s.ledger (step.received_news row reported m word s).ledger
quiet_news row (news.Head tag meta seen) m word s = head row meta m s
quiet_news row (news.Message tag octets seen) m word s = quiet_same m s.ledger
quiet_news row (news.TooLarge tag seen) m word s = end_if (is_committed_live row s.call) ends.Response m s
quiet_news row (news.Ended tag end) m word s = quiet_ended_at row end m word s
quiet_news row news.Ready m word s = quiet_same m s.ledger
quiet_news row news.Retiring m word s = quiet_same m s.ledger
quiet_news row (news.Broken code) m word s = quiet_same m s.ledger

-- the configuration
pub quiet_configured : (chosen : Chosen) (m : ℕ) (s : Stepped) → Quiet m s.ledger (step.configured chosen m s).ledger
quiet_configured chosen m s =
    let x : Stepped = with_chosen chosen m s in
    either m s.ledger (is_some s.call.ended || is_some s.call.chosen) s (step.ended_if (is_too_long (Some chosen) s.call.longest) ends.Request m x) (quiet_same m s.ledger)
    (quiet_then m s.ledger x.ledger _ (call_at m s.ledger (configured_call s.ledger.entry) s.call.number (call_configured s.ledger.entry s.ledger.calls s.call.number) (λ c. call_same m c) (λ c. refl)) (end_if (is_too_long (Some chosen) s.call.longest) ends.Request m x))

-- a placing
place_found : (found : Option LiveRow) (at : Placed) (m : ℕ) (s : Stepped) → at.entry ≡ s.ledger.entry → at.moment ≡ m → Quiet m s.ledger (step.placed_if_live found at s).ledger
place_found None at m s n e = quiet_same m s.ledger
place_found (Some row) at m s n e =
    either m s.ledger (is_some row.link) s (step.placed_row_live row at s) (quiet_same m s.ledger) (row_at m s.ledger (placed_row at) row.place (row_placed s.ledger.entry s.ledger.rows row.place at n) (place_write m at e))

pub quiet_placed : (row : ℕ) (at : Placed) (m : ℕ) (s : Stepped) → at.entry ≡ s.ledger.entry → at.moment ≡ m → Quiet m s.ledger (step.placed_at row at s).ledger
quiet_placed row at m s n e = place_found (find_live row s.call.live) at m s n e

-- the next attempt
made_row : (m due : ℕ) (s : Stepped) → Quiet m s.ledger (step.made due s).ledger
made_row m due s = add_row m (min (s.call.attempts.sent + 1) 4294967295) (kind_of_next (call_plan s.call) s.call.attempts) due None s tt

end_by_last : (last : Option ℕ) (m : ℕ) (s : Stepped) → Quiet m s.ledger (step.ended_by_last last m s).ledger
end_by_last None m s = quiet_same m s.ledger
end_by_last (Some last) m s = either m s.ledger (has_none s.call.live) (step.ended_by_row last m s) s (end_by_row last m s) (quiet_same m s.ledger)

due_at : (m due : ℕ) (s : Stepped) → Quiet m s.ledger (step.due_at m due s).ledger
due_at m due s =
    either m s.ledger (is_tested (call_plan s.call) s.call.attempts && not (is_above s.tokens)) (step.refused_due m s) (step.made due s)
    (end_by_last s.call.attempts.last m (step.with_attempts (stopped_attempts s.call.attempts) s)) (made_row m due s)

made_if : (due : Option ℕ) (m : ℕ) (s : Stepped) → Quiet m s.ledger (step.made_if due m s).ledger
made_if None m s = quiet_same m s.ledger
made_if (Some due) m s = either m s.ledger (nat_lt m due) s (step.due_at m due s) (quiet_same m s.ledger) (due_at m due s)

pub quiet_due : (m : ℕ) (s : Stepped) → Quiet m s.ledger (step.made_due m s).ledger
quiet_due m s = made_if (next_due s.call) m s

-- what the application does, and the ends by the channel
over : (is_over : Bool) (row : Option ℕ) (m : ℕ) (s : Stepped) → Quiet m s.ledger (step.committed_over is_over row m s).ledger
over is_over None m s = quiet_same m s.ledger
over is_over (Some row) m s = either m s.ledger is_over (step.committed row m s) s (commit row m s) (quiet_same m s.ledger)

accept_if : (full : Option ℕ) (message : List ℕ) (m : ℕ) (s : Stepped) → Quiet m s.ledger (step.accepted_if full message m s).ledger
accept_if None message m s =
    let row : Option ℕ = furthest s.call.buffer s.call.live in
    over (pushed_over s.call.buffer (framed message) row) row m (record s { call = with_message message row s.call })
accept_if (Some held) message m s = quiet_same m s.ledger

send_if : (refusal : Option Refusal) (message : List ℕ) (m : ℕ) (s : Stepped) → Quiet m s.ledger (step.sent_if refusal message m s).ledger
send_if None message m s =
    either m s.ledger (is_too_long s.call.chosen (length message)) (step.ended_as ends.Request m s) (step.accepted_if (full_with (length message) s.call) message m s)
    (end_call ends.Request m s) (accept_if (full_with (length message) s.call) message m s)
send_if (Some refusal) message m s = quiet_same m s.ledger

pub quiet_sent : (message : List ℕ) (m : ℕ) (s : Stepped) → Quiet m s.ledger (step.sent message m s).ledger
quiet_sent message m s = send_if (send_refusal s.call) message m s

pub quiet_closed_by : (why : EndCause) (m : ℕ) (s : Stepped) → Quiet m s.ledger (step.closed_by why m s).ledger
quiet_closed_by why m s = end_if (not (is_some s.call.ended)) why m s

time_out : (deadline : Option ℕ) (m : ℕ) (s : Stepped) → Quiet m s.ledger (step.timed_out_if deadline m s).ledger
time_out None m s = quiet_same m s.ledger
time_out (Some deadline) m s = either m s.ledger (nat_le deadline m) (step.closed_by ends.Deadline m s) s (quiet_closed_by ends.Deadline m s) (quiet_same m s.ledger)

pub quiet_timed_out : (m : ℕ) (s : Stepped) → Quiet m s.ledger (step.timed_out m s).ledger
quiet_timed_out m s = time_out (deadline_at s.call) m s
