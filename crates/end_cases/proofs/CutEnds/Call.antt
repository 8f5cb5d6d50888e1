-- What the channel's call is once an attempt of it ended by a last end while others of it went on: it is committed, its other rows are given up, and it has ended.
-- The laws of calls say that the session's cuts are these, with the links of the session in the ledger; a call hangs of them on how far they were read alone.
use Rattle.attempt_ledger.specs.declared.ledger.CallEnd.{CallEnd}
use Rattle.attempt_ledger.specs.declared.ledger.Ledger.{Ledger}
use Rattle.attempt_ledger.specs.declared.ledger.LinkSeen.{LinkSeen}
use Rattle.attempt_ledger.specs.declared.row.Placed.{Placed}
use Rattle.call_actions.proofs.Ending as ending
use Rattle.call_actions.proofs.LastEnds.FinalCuts.{final_ends_cut_others}
use Rattle.call_actions.specs.LastEnds.Laws.{ClosesWithCuts}
use Rattle.call_actions.specs.Laws.{IsCounting, is_last_end}
use Rattle.call_actions.specs.Order.{IsInOrder, IsInTurn, Keeps}
use Rattle.call_actions.specs.Sees.{Sees, is_live, live_row}
use Rattle.call_actions.specs.TakeActions.Cuts.{AttemptsAreCut}
use Rattle.call_actions.specs.TakeActions.Serves.{IsLeft, came}
use Rattle.call_core.specs.Laws as channel_laws
use Rattle.call_core.specs.Parts.{committed_attempts, count_of, is_row, kept_alone, read_in, read_of, stopped_attempts, without}
use Rattle.call_core.specs.Steps.{Stepped, closed_if, commit_stamped, cut_all, end_stamped, ended_at, ended_by_row, fresh_buffer, reported_all}
use Rattle.call_core.specs.declared.act.CallAct.TheVariants as act_of
use Rattle.call_core.specs.declared.act.CallAct.{CallAct}
use Rattle.call_core.specs.declared.live.LiveRow.{LiveRow}
use Rattle.channel_actions.proofs.ActsFollowed.Acts.{given}
use Rattle.call_cases.proofs.LinkEnds.Cutting.{filter_same}
use Rattle.channel_actions.proofs.Stamps.{stamp_keeps}
use Rattle.channel_actions.specs.Calls.{lent_to}
use Rattle.channel_actions.specs.Columns.{links_noted}
use Rattle.end_cases.proofs.AttemptEnds.After.{t_is}
use Rattle.end_cases.proofs.AttemptEnds.Base.{books, c, has, news, sees, slot, step_is, x1, x2}
use Rattle.end_cases.proofs.AttemptEnds.Closing as closing
use Rattle.end_cases.proofs.AttemptEnds.Closing.{Between, Continues, Made, Steps}
use Rattle.end_cases.proofs.AttemptEnds.LastCommits as last
use Rattle.attempt_cases.proofs.CallCommits.Given.{cut_is, else_is, elses, reported_is}
use Rattle.attempt_ledger.specs.declared.row.RowEnd.{RowEnd}
use Rattle.call_cases.proofs.ConfiguredCalls.Lists.{same_words}
use Rattle.end_cases.proofs.CutEnds.Ends as ending_cuts
use Rattle.end_cases.proofs.CutEnds.Ends.{b as between}
use Rattle.end_cases.proofs.CutEnds.Walk.{Done, f, start, walk}
use Rattle.call_cases.proofs.OneCallEnds.Relent.{AreReadAlike, all_relent, all_rest, read_alike, relent, with_links}
use Rattle.end_cases.specs.AttemptEnds.Ends.{EndNext, gone_with}
use Rattle.end_cases.specs.AttemptEnds.Laws.{goes_on_after}
use Rattle.channel_core.proofs.BookLaws.{number_changed, number_other}
use Rattle.channel_core.proofs.Resting.{changed_length}
use Rattle.channel_core.specs.States.{StateSeen}
use Rattle.channel_core.specs.Steps.{is_gone, with_ledger_links}
use Rattle.channel_core.specs.Tables as tables
use Rattle.grpc_base.specs.declared.event.EndCause.TheVariants as ending_cause
use Rattle.grpc_base.specs.declared.event.Reply.{Reply}
use Rattle.ledger_stamps.specs.Steps.{changed_at, gone_link, index_at}
use Rattle.session_actions.specs.AttemptEnds.{end_of}
use Rattle.session_actions.specs.Attempts.{commitment}
use Rattle.session_actions.specs.CallEnds.{call_ended}
use Rattle.session_actions.specs.Closing.{noted_gone}
use Rattle.session_actions.specs.Commitments.{call_committed}
use Rattle.session_actions.specs.Configs.{plan_of}
use Rattle.session_actions.specs.Deliveries.{response_items}
use Rattle.session_actions.specs.Entries.{entry, next_word, now}
use Rattle.session_actions.specs.Links.{read_bytes}
use Rattle.session_actions.specs.Refusals.{is_gone as is_gone_in}
use Rattle.session_actions.specs.Responses.{response}
use Rattle.session_actions.specs.Sessions.{link_seen}
use Rattle.session_actions.specs.Words.{numbered}
use Rattle.session_actions.specs.declared.attempt.Attempt.{Attempt}
use Rattle.session_actions.specs.declared.call.Call.{Call}
use Rattle.session_actions.specs.declared.entry.OpenEntry.{OpenEntry}
use Rattle.session_actions.specs.declared.link.Link.{Link}
use Rattle.session_actions.specs.declared.response.Outcome.{Outcome}
use Rattle.session_actions.specs.declared.seen.Seen.{Seen}
use Rattle.session_order.specs.declared.line.Line.{Line}
use Rattle.std.proofs.Common.{Bool, List, None, Option, Some, [], ap, arith, cond, eqb-true, false, filter, if◌then◌else◌, is_some, length, map, not, option_map, refl, subst, suc, sym, true, ℕ, ◌&&◌, ◌++◌, ◌==◌, ◌∙◌, ◌∷◌, ◌≡◌}
use Rattle.std.proofs.lemmas.Bool.Decides.{nat_tests}
use Rattle.std.proofs.lemmas.Bool.{eqb-false}
use Rattle.std.specs.Option.{option_map_or}

twice : (b : Bool) (i j : ℕ) → ((b && not (i == j)) && not (j == i)) ≡ (b && not (i == j))
twice b i j = by_test (i == j) (j == i) b (swapped i j)
  where
    swapped : (i j : ℕ) → (i == j) ≡ (j == i)
    swapped i j = grind (arith, nat_tests)

    by_test : (p q b : Bool) → p ≡ q → ((b && not p) && not q) ≡ (b && not p)
    by_test true true true e = refl
    by_test true true false e = refl
    by_test false false true e = refl
    by_test false false false e = refl
    by_test true false b e = absurd (cc)
    by_test false true b e = absurd (cc)

kept_by : (place : ℕ) (r : LiveRow) (rest : List LiveRow) (b : Bool) → is_row place r ≡ b → filter (is_row place) rest ≡ [] → filter (is_row place) (cond (not b) (r ∷ rest) rest) ≡ []
kept_by place r rest true e none = none
kept_by place r rest false e none =
    ap (λ (b : Bool). cond b (r ∷ filter (is_row place) rest) (filter (is_row place) rest)) e ∙ none

none_kept : (place : ℕ) (live : List LiveRow) → kept_alone place (without place live) ≡ []
none_kept place [] = refl
none_kept place (r ∷ live) = kept_by place r (without place live) (is_row place r) refl (none_kept place live)

-- a stamp leaves how far a link was read
stamp_reads : (stamp : ℕ) (q : Option LinkSeen) → option_map_or (λ (l : LinkSeen). l.read) (option_map (gone_link stamp) q) 0 ≡ option_map_or (λ (l : LinkSeen). l.read) q 0
stamp_reads stamp None = refl
stamp_reads stamp (Some l) = refl

module _ (stamp m : ℕ) (ls : List LinkSeen) where
  abbrev stamped_one : List LinkSeen
  stamped_one = changed_at (gone_link stamp) ls m

  read_here : (k : ℕ) (b : Bool) → (k == m) ≡ b → option_map_or (λ (l : LinkSeen). l.read) (tables.numbered stamped_one k) 0 ≡ option_map_or (λ (l : LinkSeen). l.read) (tables.numbered ls k) 0
  read_here k true e =
      subst (λ (j : ℕ). option_map_or (λ (l : LinkSeen). l.read) (tables.numbered stamped_one j) 0 ≡ option_map_or (λ (l : LinkSeen). l.read) (tables.numbered ls j) 0) (sym (eqb-true k m e))
      (ap (λ (q : Option LinkSeen). option_map_or (λ (l : LinkSeen). l.read) q 0) (number_changed (gone_link stamp) ls m) ∙ stamp_reads stamp (tables.numbered ls m))
  read_here k false e =
      ap (λ (q : Option LinkSeen). option_map_or (λ (l : LinkSeen). l.read) q 0) (number_other (gone_link stamp) ls m k (eqb-false k m e))

  read_at : (q : Option ℕ) → read_in stamped_one q ≡ read_in ls q
  read_at None = refl
  read_at (Some i) =
      ap (λ (q : Option LinkSeen). option_map_or (λ (l : LinkSeen). l.read) q 0) (sym (same_words stamped_one (suc i)))
      ∙ read_here (suc i) (suc i == m) refl
      ∙ ap (λ (q : Option LinkSeen). option_map_or (λ (l : LinkSeen). l.read) q 0) (same_words ls (suc i))

  stamped_reads : AreReadAlike stamped_one ls
  stamped_reads = record {
    each = λ k. ap (λ (n : ℕ). read_in stamped_one (index_at k n)) (changed_length (gone_link stamp) ls m) ∙ read_at (index_at k (length ls));
  }

gone_by_test : (stamp m : ℕ) (z : StateSeen) (b : Bool)
    → AreReadAlike (if b then with_ledger_links (changed_at (gone_link stamp) z.book.ledger.links m) z else z).book.ledger.links z.book.ledger.links
gone_by_test stamp m z true = stamped_reads stamp m z.book.ledger.links
gone_by_test stamp m z false = record { each = λ k. refl }

gone_reads : (p : Option Placed) (z : StateSeen) → AreReadAlike (gone_with p z).book.ledger.links z.book.ledger.links
gone_reads None z = record { each = λ k. refl }
gone_reads (Some at) z = gone_by_test z.book.ledger.entry at.link z (is_gone at.link z)

module _ (later : List (ℕ × RowEnd)) (waits : Line → Bool) (also : List ℕ) (a : Attempt) (out : Outcome) (x : StateSeen) (o : OpenEntry) (s : Seen) (is : EndNext later waits also a out x o s)
    (counting : IsCounting s (c later waits also a out x o s is) out) (free : commitment (c later waits also a out x o s is) s ≡ None)
    (final : goes_on_after (plan_of (c later waits also a out x o s is) s) s (c later waits also a out x o s is) a out ≡ false)
    (last_end : is_last_end (plan_of (c later waits also a out x o s is) s) (c later waits also a out x o s is) a out s ≡ true) where
  abbrev k : Call
  k = c later waits also a out x o s is

  abbrev n : ℕ
  n = k.number

  abbrev v : Seen
  v = closing.v later waits also a out x o s is counting

  abbrev order : IsInOrder s k
  order = closing.order later waits also a out x o s is counting

  abbrev turn : IsInTurn s k
  turn = closing.turn later waits also a out x o s is counting

  -- with the links of the session in the ledger
  abbrev links_seen : List LinkSeen
  links_seen = map link_seen s.links

  abbrev lent_s : Stepped
  lent_s = lent_to (x1 later waits also a out x o s is) s (slot later waits also a out x o s is)

  abbrev seen_s : Sees s k lent_s
  seen_s = (has later waits also a out x o s is).sees.serves.sees

  abbrev step_of : Stepped → Stepped
  step_of z = ended_at a.place (news later waits also a out x o s is) (now s) (next_word s) z

  pub whole : ClosesWithCuts s k a.place (end_of a out s) (step_of lent_s)
  whole =
      final_ends_cut_others s k lent_s a.place a out (ap (λ (q : Option OpenEntry). is_some q) is.current) seen_s order turn refl is.ending counting free last_end

  are : AttemptsAreCut n whole.cuts (f later waits also a out x o s is counting free final) whole.seen
  are =
      subst (λ (z : Seen). AttemptsAreCut n whole.cuts z whole.seen) (last.f_is later waits also a out x o s is counting)
      (subst (λ (z : Seen). AttemptsAreCut n whole.cuts (call_committed a.place z) whole.seen) (t_is later waits also a out x o s is) whole.cut)

  pub done : Done later waits also a out x o s is counting free final (f later waits also a out x o s is counting free final) whole.seen
  done = walk later waits also a out x o s is counting free final whole.cuts (f later waits also a out x o s is counting free final) whole.seen (start later waits also a out x o s is counting free final) are

  abbrev pub b : Between later waits also a out x o s is counting
  b = between later waits also a out x o s is counting free final whole.seen done.walked done.none

  abbrev pub w : Seen
  w = closing.closed later waits also a out x o s is counting b

  abbrev pub ek : Call
  ek = closing.ended later waits also a out x o s is counting b

  pub goes : Continues later waits also a out x o s is counting b
  goes = ending_cuts.goes later waits also a out x o s is counting free final whole.seen done.walked done.none

  keeps : Keeps w n (step_of lent_s)
  keeps =
      subst (λ (z : Seen). Keeps (call_ended n ending_cause.Row z) n (step_of lent_s)) (ending_cuts.form later waits also a out x o s is counting free final whole.seen done.walked done.none)
      whole.closes

  same_call : keeps.call ≡ ek
  same_call =
      let two : Some keeps.call ≡ Some ek
      = sym keeps.sees.own ∙ ap (numbered w.calls) keeps.number_is ∙ closing.closed_at later waits also a out x o s is counting b goes.here in
      (cc)

  sees_step : Sees w ek (step_of lent_s)
  sees_step = subst (λ (g : Call). Sees w g (step_of lent_s)) same_call keeps.sees

  order_then : IsInOrder w ek
  order_then = subst (λ (g : Call). IsInOrder w g) same_call keeps.order

  -- the call once the attempt has ended
  abbrev before_s : Stepped
  before_s = ending.after s k lent_s a.place a out seen_s order turn is.ending counting

  abbrev lent : Stepped
  lent = x2 later waits also a out x o s is

  abbrev seen : Sees s k lent
  seen = sees later waits also a out x o s is

  abbrev before : Stepped
  before = ending.after s k lent a.place a out seen order turn is.ending counting

  was_open : before_s.call.ended ≡ None
  was_open = sym seen_s.ended ∙ ap (option_map (λ (q : CallEnd). q.cause)) counting.goes_on

  closes_by : (g : Bool) → step_of lent_s ≡ closed_if g a.place (now s) before_s → g ≡ true
  closes_by true h = refl
  closes_by false h =
      let both : Some ending_cause.Row ≡ None = sees_step.ended ∙ ap (λ (q : Stepped). q.call.ended) h ∙ was_open in absurd (cc)

  closes_now : (ending.judges s k lent_s a.place a out seen_s order turn is.ending counting).closes ≡ true
  closes_now =
      closes_by (ending.judges s k lent_s a.place a out seen_s order turn is.ending counting).closes
      (ending.channel_is s k lent_s a.place a out seen_s order turn is.ending counting free)

  closed_s : step_of lent_s ≡ ended_by_row a.place (now s) before_s
  closed_s =
      ending.channel_is s k lent_s a.place a out seen_s order turn is.ending counting free ∙ ap (λ (g : Bool). closed_if g a.place (now s) before_s) closes_now

  closed_ : step_of lent ≡ ended_by_row a.place (now s) before
  closed_ =
      ending.channel_is s k lent a.place a out seen order turn is.ending counting free ∙ ap (λ (g : Bool). closed_if g a.place (now s) before) closes_now

  -- the rows that are given up
  abbrev pub goes_else : Attempt → Bool
  goes_else q = is_live s k q && not (q.place == a.place)

  abbrev pub given_rows : List LiveRow
  given_rows = map live_row (filter goes_else s.attempts)

  abbrev live : List LiveRow
  live = without a.place (slot later waits also a out x o s is).call.live

  rows_are : given_rows ≡ live
  rows_are = ending.rest_is s k lent a.place a out seen order turn is.ending counting

  else_rows : elses a.place live ≡ given_rows
  else_rows =
      ap (elses a.place) (sym rows_are) ∙ else_is a.place goes_else s.attempts
      ∙ ap (map live_row)
      (filter_same (λ (q : Attempt). goes_else q && not (a.place == q.place)) goes_else (λ q. twice (is_live s k q) q.place a.place) s.attempts)

  abbrev tokens : Option ℕ
  tokens = count_of before.tokens

  abbrev pub stamped : Ledger
  stamped = commit_stamped a.place before.ledger

  abbrev pub made : Made later waits also a out x o s is counting
  made = record {
    attempts = stopped_attempts (committed_attempts a.place before.call.attempts);
    rows = (cut_all None (now s) tokens given_rows stamped).rows;
    tokens = before.tokens;
    acts = map given given_rows ++ act_of.End ending_cause.Row ∷ [];
  }

  -- with any rows that are kept, any ledger and any acts
  abbrev shape : List LiveRow → Ledger → List CallAct → Stepped
  shape kept_ ledger acts = record {
    call = record before.call { live = []; buffer = fresh_buffer; attempts = stopped_attempts (committed_attempts a.place before.call.attempts); ended = Some ending_cause.Row };
    ledger = end_stamped before.call.number ending_cause.Row (now s) (cut_all None (now s) tokens kept_ ledger);
    tokens = before.tokens;
    acts = reported_all None kept_ acts ++ act_of.End ending_cause.Row ∷ [];
  }

  acts_are : reported_all (Some a.place) live [] ≡ map given given_rows
  acts_are = reported_is a.place live [] ∙ ap (map given) else_rows

  cut_rows : (ledger : Ledger) → cut_all (Some a.place) (now s) tokens live ledger ≡ cut_all None (now s) tokens given_rows ledger
  cut_rows ledger = cut_is a.place (now s) tokens live ledger ∙ ap (λ (rs : List LiveRow). cut_all None (now s) tokens rs ledger) else_rows

  shaped : (ledger : Ledger) → shape (kept_alone a.place live) (cut_all (Some a.place) (now s) tokens live ledger) (reported_all (Some a.place) live [])
      ≡ shape [] (cut_all None (now s) tokens given_rows ledger) (map given given_rows)
  shaped ledger =
      ap (λ (rs : List LiveRow). shape rs (cut_all (Some a.place) (now s) tokens live ledger) (reported_all (Some a.place) live [])) (none_kept a.place (slot later waits also a out x o s is).call.live)
      ∙ ap (λ (l : Ledger). shape [] l (reported_all (Some a.place) live [])) (cut_rows ledger)
      ∙ ap (λ (acts : List CallAct). shape [] (cut_all None (now s) tokens given_rows ledger) acts) acts_are

  step_form : step_of lent ≡ closing.stepped later waits also a out x o s is counting made
  step_form =
      closed_ ∙ shaped stamped
      ∙ ap (λ (l : Ledger). shape [] l (map given given_rows)) (all_rest (now s) tokens given_rows stamped)

  reads_alike : AreReadAlike links_seen x.book.ledger.links
  reads_alike =
      let noted : AreReadAlike links_seen (links_noted s)
      = read_alike link_seen (λ (l : Link). link_seen (noted_gone s l))
      (λ l. sym (stamp_keeps (λ (g : Link). is_gone_in g s) (λ g z. refl) read_bytes (λ g z. refl) (entry s) l)) s.links in
      record {
        each = λ i.
            noted.each i ∙ ap (λ (ls : List LinkSeen). read_of ls i) (books later waits also a out x o s is).columns.links ∙ (gone_reads a.row.placed x).each i;
      }

  form_s : step_of lent_s ≡ relent links_seen (closing.stepped later waits also a out x o s is counting made)
  form_s =
      closed_s ∙ shaped (with_links links_seen stamped)
      ∙ ap (λ (l : Ledger). shape [] l (map given given_rows))
      (all_relent links_seen (now s) tokens given_rows stamped reads_alike ∙ ap (with_links links_seen) (all_rest (now s) tokens given_rows stamped))

  -- so session and call see each other
  sees_with : (z : Stepped) → Sees w ek (relent links_seen z) → Sees w ek z
  sees_with z h = record {
    own = h.own;
    number_is = h.number_is;
    request = h.request;
    begun = h.begun;
    chosen = h.chosen;
    finished = h.finished;
    longest_is = h.longest_is;
    ended = h.ended;
    attempts = h.attempts;
    live = h.live;
    tokens = h.tokens;
    entry_is = h.entry_is;
    rows = h.rows;
    call_is = h.call_is;
  }

  came_same : came ek w ≡ came k s
  came_same =
      ap (λ (q : Option Attempt). option_map_or (λ (g : Attempt). response_items (response g w)) q [])
      (ending_cuts.has_call_then later waits also a out x o s is counting free final whole.seen done.walked done.none)
      ∙ ap response_items (closing.response_same later waits also a out x o s is counting b goes.here (Some (entry v)))
      ∙ last.nothing_came later waits also a out x o s is counting free
      ∙ sym (ap (λ (q : Option Attempt). option_map_or (λ (g : Attempt). response_items (response g s)) q []) free)

  pub steps_so : Steps later waits also a out x o s is counting b made
  steps_so = record {
    step_is = sym (step_is later waits also a out x o s is) ∙ step_form;
    sees = sees_with (closing.stepped later waits also a out x o s is counting made) (subst (λ (z : Stepped). Sees w ek z) form_s sees_step);
    order = order_then;
    turn = ending_cuts.turn_closed later waits also a out x o s is counting free final whole.seen done.walked done.none;
    left = λ h. subst (λ (all : List Reply). IsLeft all k.taken (channel_laws.came (closing.was later waits also a out x o s is counting).call)) (sym came_same) h;
  }
