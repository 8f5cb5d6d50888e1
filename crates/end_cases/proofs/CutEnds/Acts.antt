-- A call of the channel is notified that one of its attempts ended, and ends by it, and the rows that go on are given up. The book, the timers, links, sets of rows and
-- stamps change, and the call waits for no config.
use Rattle.attempt_ledger.specs.declared.news.EndNews.{EndNews}
use Rattle.attempt_ledger.specs.declared.news.News.TheVariants as news_of_link
use Rattle.attempt_ledger.specs.declared.row.Placed.{Placed}
use Rattle.attempt_ledger.specs.declared.row.Row.{Row}
use Rattle.call_actions.proofs.Ranks.{numbered_map}
use Rattle.call_actions.specs.Laws.{IsCounting, is_last_end}
use Rattle.call_core.specs.Steps.{Stepped}
use Rattle.call_core.specs.declared.act.CallAct.TheVariants as act
use Rattle.call_core.specs.declared.act.CallAct.{CallAct}
use Rattle.call_core.specs.declared.live.LiveRow.{LiveRow}
use Rattle.channel_actions.proofs.ActsFollowed.Acts.{IsDone, LinkIn, acts_form, all_done, done_append, given, parts_of}
use Rattle.channel_actions.proofs.Links.Settings.Slots.{changed_slot_is, set_twice}
use Rattle.end_cases.proofs.AttemptEnds.Base.{c, call_is, news, row_is, slot_there, z}
use Rattle.end_cases.proofs.AttemptEnds.Closing as closing
use Rattle.end_cases.proofs.AttemptEnds.Closing.{Parts}
use Rattle.end_cases.proofs.AttemptEnds.Report.{book_with, slot_after, step_of, reported_form}
use Rattle.end_cases.proofs.AttemptEnds.ReportedEnd.{acted_so, b, slot_is}
use Rattle.attempt_cases.proofs.CallCommits.Linked.{all_passing}
use Rattle.attempt_ledger.specs.declared.row.RowEnd.{RowEnd}
use Rattle.call_cases.proofs.ConfiguredCalls.Lists.{same_words}
use Rattle.end_cases.proofs.CutEnds.Ahead.{key_of}
use Rattle.end_cases.proofs.CutEnds.Call.{done, given_rows, goes_else, made, steps_so, whole}
use Rattle.end_cases.proofs.CutEnds.Ends.{place_of}
use Rattle.end_cases.proofs.CutEnds.Walk.{Walked}
use Rattle.end_cases.specs.AttemptEnds.Ends.{EndNext}
use Rattle.end_cases.specs.AttemptEnds.Laws.{goes_on_after}
use Rattle.channel_core.specs.Books.{BookActs, call_of, deadline_of, due_at, has_drawn, link_of, link_of_placed, row_at, slot_at}
use Rattle.channel_core.specs.States.{StateSeen}
use Rattle.channel_core.specs.Steps.{acts_done, given_config, drawn_if, timers_moved, timers_moved_to, reported, reported_acts, reported_to}
use Rattle.channel_core.specs.Tables as tables
use Rattle.channel_core.specs.Tables.{with_call, with_timers}
use Rattle.channel_core.specs.declared.state.slots.CallSlot.{CallSlot}
use Rattle.grpc_base.specs.declared.event.EndCause.TheVariants as ending_cause
use Rattle.grpc_base.specs.declared.event.EndCause.{EndCause}
use Rattle.picker_gate.specs.Pairs.{is_same}
use Rattle.session_actions.specs.Attempts.{commitment}
use Rattle.session_actions.specs.Configs.{plan_of}
use Rattle.session_actions.specs.Words.{numbered}
use Rattle.session_actions.specs.declared.attempt.Attempt.{Attempt}
use Rattle.session_actions.specs.declared.entry.OpenEntry.{OpenEntry}
use Rattle.session_actions.specs.declared.response.Outcome.{Outcome}
use Rattle.session_actions.specs.declared.seen.Seen.{Seen}
use Rattle.session_order.specs.declared.line.Line.{Line}
use Rattle.std.proofs.Common.{Bool, List, None, Option, Some, [], ap, false, map, option_map, slice_get, slice_set, sym, true, ℕ, ◌++◌, ◌-◌, ◌∙◌, ◌∷◌, ◌≡◌}
use Rattle.std.specs.List.{AllByRecursion}
use Rattle.std.specs.Set.{remove_key}

module _ (place : ℕ) (end : EndNews) (n : ℕ) (z : StateSeen) (held : CallSlot) (row : Row) (row_is : row_at z.book place ≡ Some row) (call_is : row.call ≡ n)
    (there : slot_at z.book n ≡ Some held) (why : EndCause) (rows : List LiveRow) where
  -- where the acts begin and where they end, by what the call has become
  abbrev pub begun : Stepped → StateSeen
  begun r = record (drawn_if (has_drawn (row_at (book_with n r held (with_call r.call held) z.book) place)) z) { book = book_with n r held (with_call r.call held) z.book }

  abbrev pub acted : Stepped → StateSeen
  acted r = acts_done n (map given rows) (begun r)

  abbrev pub closed_rows : Stepped → StateSeen
  closed_rows r = record (reported_form place n r held z) {
    links = (acted r).links;
    resets = (acted r).resets;
    outstanding = (acted r).outstanding;
    queue = (acted r).queue;
    ready_waiters = (acted r).ready_waiters;
    awaiting_config = remove_key (is_same (0, n)) (acted r).awaiting_config;
    fail_fast = remove_key (is_same (0, n)) (acted r).fail_fast;
    book = record (book_with n r held (slot_after r held) z.book) { ledger = record r.ledger { links = (acted r).book.ledger.links } };
  }

  abbrev r0 : Stepped
  r0 = step_of place end z held

  abbrev v0 : CallSlot
  v0 = with_call r0.call held

  abbrev last0 : StateSeen
  last0 = acted r0

  form : last0 ≡ parts_of last0 (begun r0)
  form = acts_form n (map given rows) (begun r0)

  slot_last : slot_at (given_config n last0).book n ≡ Some v0
  slot_last = ap (λ (q : StateSeen). slot_at q.book n) form ∙ slot_is place end n z held row row_is call_is there why

  timed : timers_moved_to n (Some v0) (given_config n (parts_of last0 (begun r0))) ≡ closed_rows r0
  timed =
      ap (λ (calls : List CallSlot). record (closed_rows r0) { book = record (closed_rows r0).book { calls = calls } })
      (changed_slot_is (with_timers (due_at (Some v0)) (deadline_of (Some v0))) (slice_set z.book.calls (n - 1) v0) n v0 (slot_is place end n z held row row_is call_is there why)
      ∙ set_twice z.book.calls (n - 1) v0 (slot_after r0 held))

  pub reported_rows : r0.acts ≡ map given rows ++ act.End why ∷ [] → reported place (news_of_link.Ended place end) z ≡ closed_rows r0
  reported_rows acts =
      ap (λ (q : Option Row). reported_to (call_of q) place (news_of_link.Ended place end) z) row_is
      ∙ ap (λ (i : ℕ). reported_to i place (news_of_link.Ended place end) z) call_is
      ∙ ap (λ (q : BookActs). reported_acts q n place z)
      (acted_so place end n z held row row_is call_is there why ∙ ap (λ (those : List CallAct). record { book = b place end n z held row row_is call_is there why; acts = those }) acts)
      ∙ ap (timers_moved n) (done_append n (map given rows) (act.End why ∷ []) (begun r0))
      ∙ ap (λ (q : Option CallSlot). timers_moved_to n q (given_config n last0)) slot_last
      ∙ ap (λ (q : StateSeen). timers_moved_to n (Some v0) (given_config n q)) form
      ∙ timed

module _ (later : List (ℕ × RowEnd)) (waits : Line → Bool) (also : List ℕ) (a : Attempt) (out : Outcome) (x : StateSeen) (o : OpenEntry) (s : Seen) (is : EndNext later waits also a out x o s)
    (counting : IsCounting s (c later waits also a out x o s is) out) (free : commitment (c later waits also a out x o s is) s ≡ None)
    (final : goes_on_after (plan_of (c later waits also a out x o s is) s) s (c later waits also a out x o s is) a out ≡ false)
    (last_end : is_last_end (plan_of (c later waits also a out x o s is) s) (c later waits also a out x o s is) a out s ≡ true) where
  abbrev n : ℕ
  n = (c later waits also a out x o s is).number

  abbrev z1 : StateSeen
  z1 = z later waits also a out x o s is

  abbrev was : CallSlot
  was = closing.was later waits also a out x o s is counting

  abbrev rows1 : List LiveRow
  rows1 = given_rows later waits also a out x o s is counting free final last_end

  abbrev stepped1 : Stepped
  stepped1 = closing.stepped later waits also a out x o s is counting (made later waits also a out x o s is counting free final last_end)

  abbrev t : Seen
  t = (whole later waits also a out x o s is counting free final last_end).seen

  abbrev walked : Walked later waits also a out x o s is counting free final t
  walked = (done later waits also a out x o s is counting free final last_end).walked

  -- the channel, where the acts of the call begin, and where they end
  abbrev pub first : StateSeen
  first = begun a.place (news later waits also a out x o s is) n z1 was a.row (row_is later waits also a out x o s is) (call_is later waits also a out x o s is) (slot_there later waits also a out x o s is) ending_cause.Row rows1 stepped1

  abbrev pub last : StateSeen
  last = acts_done n (map given rows1) first

  -- each row that is given up is on its link in the ledger
  link_by : (q : Attempt) (r : Option Attempt) → option_map key_of r ≡ Some (key_of q) → link_of (option_map (λ (g : Attempt). g.row) r) ≡ link_of_placed q.row.placed
  link_by q None e = absurd (cc)
  link_by q (Some y) e = let same : key_of y ≡ key_of q = (cc) in ap (λ (k : Option Placed × Option ℕ). link_of_placed k.0) same

  row_link : (i : ℕ) (q : Attempt) → slice_get s.attempts i ≡ Some q → link_of (tables.numbered stepped1.ledger.rows q.place) ≡ link_of_placed q.row.placed
  row_link i q at =
      let rows_same : stepped1.ledger.rows ≡ map (λ (g : Attempt). g.row) t.attempts
      = sym (steps_so later waits also a out x o s is counting free final last_end).sees.rows in
      let here : numbered s.attempts q.place ≡ Some q = ap (numbered s.attempts) (place_of later waits also a out x o s is counting q i at) ∙ at in
      ap link_of (same_words stepped1.ledger.rows q.place)
      ∙ ap (λ (rs : List Row). link_of (numbered rs q.place)) rows_same
      ∙ ap link_of (numbered_map (λ (g : Attempt). g.row) t.attempts q.place)
      ∙ link_by q (numbered t.attempts q.place)
      (sym (numbered_map key_of t.attempts q.place) ∙ ap (λ (ks : List (Option Placed × Option ℕ)). numbered ks q.place) walked.keys ∙ numbered_map key_of s.attempts q.place
      ∙ ap (option_map key_of) here)

  linked_by : (place : ℕ) (p : Option Placed) → link_of (tables.numbered stepped1.ledger.rows place) ≡ link_of_placed p → LinkIn stepped1.ledger.rows place (option_map (λ (at : Placed). at.link) p)
  linked_by place None e = tt
  linked_by place (Some at) e = e

  pub linked : AllByRecursion (λ (r : LiveRow). LinkIn first.book.ledger.rows r.place r.link) rows1
  linked =
      all_passing (λ (r : LiveRow). LinkIn first.book.ledger.rows r.place r.link) (goes_else later waits also a out x o s is counting free final last_end) s.attempts
      (λ i q at. linked_by q.place q.row.placed (row_link i q at))

  pub is_done : IsDone n rows1 first last
  is_done = all_done n rows1 first linked

  -- what the channel then is
  abbrev pub parts : Parts later waits also a out x o s is counting
  parts = record {
    links = last.links;
    resets = last.resets;
    outs = last.outstanding;
    queue = last.queue;
    ready_waiters = last.ready_waiters;
    stamps = last.book.ledger.links;
  }

  abbrev pub then_ : StateSeen
  then_ = closing.reported_with later waits also a out x o s is counting (made later waits also a out x o s is counting free final last_end) parts

  pub reported_is : reported a.place (news_of_link.Ended a.place (news later waits also a out x o s is)) z1 ≡ then_
  reported_is =
      reported_rows a.place (news later waits also a out x o s is) n z1 was a.row (row_is later waits also a out x o s is) (call_is later waits also a out x o s is) (slot_there later waits also a out x o s is)
      ending_cause.Row rows1 (ap (λ (q : Stepped). q.acts) (steps_so later waits also a out x o s is counting free final last_end).step_is)
      ∙ ap (λ (q : Stepped). closed_rows a.place (news later waits also a out x o s is) n z1 was a.row (row_is later waits also a out x o s is) (call_is later waits also a out x o s is)
      (slot_there later waits also a out x o s is) ending_cause.Row rows1 q) (steps_so later waits also a out x o s is counting free final last_end).step_is
      ∙ ap (λ (pairs : List (ℕ × ℕ)). record then_ { awaiting_config = remove_key (is_same (0, n)) pairs; fail_fast = remove_key (is_same (0, n)) last.fail_fast }) is_done.awaiting_config
      ∙ ap (λ (pairs : List (ℕ × ℕ)). record then_ { fail_fast = remove_key (is_same (0, n)) pairs }) is_done.fail_fast
