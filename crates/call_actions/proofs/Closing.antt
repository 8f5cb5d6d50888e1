-- A call ends: those of its attempts that wait for a pick are given up, and no further one is made.
use Rattle.std.proofs.Common.{◌≡◌, ◌∷◌, ◌++◌, ◌||◌, ◌&&◌, not, ap, refl, subst, sym, ◌∙◌, Bool, true, false, List, [], Option, None, Some, ℕ, filter, is_none, is_some, map, option_map}
use Rattle.std.proofs.lemmas.Bool.{and_right, eqb-true}
use Rattle.std.proofs.lemmas.List.{append-nil}
use Rattle.std.proofs.lemmas.List.Elements.{filter_map-append}
use Rattle.std.proofs.lemmas.List.Folds.{list_all-append}
use Rattle.std.specs.List.{list_all}
use Rattle.std.specs.Prelude.{filter_map}
use Rattle.attempt_ledger.specs.declared.ledger.CallEnd.{CallEnd}
use Rattle.attempt_ledger.specs.declared.ledger.CallSeen.{CallSeen}
use Rattle.attempt_ledger.specs.declared.row.Placed.{Placed}
use Rattle.call_actions.proofs.Ended.{closed_is, end_by, end_is, none_due}
use Rattle.call_actions.proofs.Frames as frames
use Rattle.call_actions.proofs.Frames.{filter_same}
use Rattle.call_actions.proofs.Lists.{changed_here, changed_twice, stamped_here}
use Rattle.call_actions.proofs.Ranks.{all_so, filter_both}
use Rattle.call_actions.proofs.Report.{fold_last}
use Rattle.call_actions.specs.Laws.{CallsClose, QuietCallsEnd, call_closed}
use Rattle.call_actions.specs.Order.{IsInOrder, Keeps, is_own_mark}
use Rattle.call_actions.specs.Sees.{AttemptsAgree, DuesAgree, Sees, is_live, live_row, live_rows}
use Rattle.call_core.specs.Parts.{stopped_attempts}
use Rattle.call_core.specs.Steps as steps
use Rattle.call_core.specs.Steps.{Stepped}
use Rattle.call_core.specs.declared.act.CallAct.TheVariants as act
use Rattle.call_core.specs.declared.live.LiveRow.{LiveRow}
use Rattle.grpc_base.specs.declared.event.EndCause.{EndCause}
use Rattle.ledger_stamps.specs.Steps as stamps
use Rattle.session_actions.specs.Attempts.{is_of, is_over, is_over_in}
use Rattle.session_actions.specs.CallEnds.{call_ended}
use Rattle.session_actions.specs.DueAttempts.{counted_row, due_after_mark, due_state, last_counted, no_due}
use Rattle.session_actions.specs.Entries.{entry, now}
use Rattle.session_actions.specs.Sessions.{call_seen}
use Rattle.session_actions.specs.Tokens.{run_of}
use Rattle.session_actions.specs.Words.{changed, holds, last_of, numbered}
use Rattle.session_actions.specs.declared.attempt.Attempt.{Attempt}
use Rattle.session_actions.specs.declared.call.Call.{Call}
use Rattle.session_actions.specs.declared.call.Mark.{Mark}
use Rattle.session_actions.specs.declared.call.MarkKind.{MarkKind}
use Rattle.session_actions.specs.declared.call.MarkKind.TheVariants as mark
use Rattle.session_actions.specs.declared.due.DueState.{DueState}
use Rattle.session_actions.specs.declared.seen.Seen.{Seen}

abbrev is_linked : LiveRow → Bool
is_linked r = is_some r.link

link_of_placed : (o : Option Placed) → is_some (option_map (λ (p : Placed). p.link) o) ≡ is_some o
link_of_placed None = refl
link_of_placed (Some p) = refl

-- of an ended call an attempt goes on only while it is outstanding
closed_by : (mine : Bool) (p : Option Placed) (e over then_over : Bool) → (mine ≡ true → then_over ≡ true)
    → (mine && ((is_some p && e) || ((is_none p && e) && not then_over))) ≡ ((mine && ((is_some p && e) || ((is_none p && e) && not over))) && is_some p)
closed_by false p e over then_over so = refl
closed_by true (Some p) true over then_over so = refl
closed_by true (Some p) false over then_over so = refl
closed_by true None false over then_over so = refl
closed_by true None true over then_over so = ap (λ (b : Bool). not b) (so refl) ∙ sym (and_right (not over) false refl)

-- what the channel makes of it, by its live rows
abbrev closed_with : EndCause → ℕ → List LiveRow → Stepped → Stepped
closed_with why moment live x = record {
  call = record x.call { live = filter is_linked live; buffer = steps.fresh_buffer; attempts = stopped_attempts x.call.attempts; ended = Some why };
  ledger = steps.end_stamped x.call.number why moment x.ledger;
  tokens = x.tokens;
  acts = x.acts ++ act.End why ∷ [];
}

module _ (s : Seen) (c : Call) (x : Stepped) (why : EndCause) (h : Sees s c x) (o : IsInOrder s c) (is_open : c.end ≡ None) where
  abbrev w : Mark
  w = record { what = mark.Closed; moment = now s }

  abbrev the_end : CallEnd
  the_end = end_by (entry s) (now s) why

  abbrev both : Call → Call
  both k = record k { marks = k.marks ++ w ∷ []; end = Some the_end }

  abbrev d : Call
  d = both c

  abbrev t : Seen
  t = record s { calls = changed both c.number s.calls }

  is_closed : call_ended c.number why s ≡ t
  is_closed =
      ap (λ (l : List Call). record s { calls = l })
      (changed_twice (λ (k : Call). record k { marks = k.marks ++ w ∷ [] }) (λ (k : Call). record k { end = Some the_end }) c.number s.calls)

  own_now : numbered t.calls c.number ≡ Some d
  own_now = changed_here both c.number s.calls c h.own

  due_now : due_state d t ≡ record (due_state c s) { stopped = true }
  due_now =
      fold_last (λ (z : DueState) (m : Mark). due_after_mark d t m.what m.moment z) no_due c.marks w
      ∙ ap (λ (z : DueState). record z { stopped = true })
      (frames.due_same s c.number (λ k. k.messages) (λ k. k.finished) (λ k. k.taken) (λ k. k.end_taken) (λ k. k.marks ++ w ∷ []) (λ k. Some the_end) s.current c no_due c.marks)

  rows_now : last_counted d t ≡ last_counted c s
  rows_now =
      ap last_of
      (filter_map-append (λ (m : Mark). counted_row t m.what) c.marks (w ∷ []) ∙ append-nil (filter_map (λ (m : Mark). counted_row t m.what) c.marks)
      ∙ frames.counted_rows_same s c.number (λ k. k.messages) (λ k. k.finished) (λ k. k.taken) (λ k. k.end_taken) (λ k. k.marks ++ w ∷ []) (λ k. Some the_end) s.current c.marks)

  attempts_now : AttemptsAgree t d (stopped_attempts x.call.attempts)
  attempts_now =
      let k : AttemptsAgree s c x.call.attempts = h.attempts in
      record {
        sent = k.sent;
        due = subst (λ (z : DueState). DuesAgree z (stopped_attempts x.call.attempts)) (sym due_now) (none_due (due_state c s) x.call.attempts k.due.newest k.due.placed);
        unplaced = k.unplaced;
        delayed = λ keeps free.
            frames.delayed_same s c.number (λ k. k.messages) (λ k. k.finished) (λ k. k.taken) (λ k. k.end_taken) (λ k. k.marks ++ w ∷ []) (λ k. Some the_end) s.current c x.call.attempts.sent
            ∙ k.delayed keeps free;
        last = λ free. rows_now ∙ k.last free;
        refused = k.refused;
        committed = k.committed;
      }

  over_now : (a : Attempt) → is_of c a ≡ true → is_over a t ≡ true
  over_now a mine = ap (λ (n : ℕ). holds (λ (k : Call). is_over_in k a t) (numbered t.calls n)) (eqb-true a.row.call c.number mine) ∙ ap (holds (λ (k : Call). is_over_in k a t)) own_now

  live_one : (a : Attempt) → is_live t d a ≡ (is_live s c a && is_linked (live_row a))
  live_one a =
      closed_by (is_of c a) a.row.placed (is_none a.row.ended) (is_over a s) (is_over a t) (over_now a)
      ∙ ap (λ (b : Bool). is_live s c a && b) (sym (link_of_placed a.row.placed))

  live_now : live_rows t d ≡ filter is_linked x.call.live
  live_now =
      ap (map live_row) (filter_same (is_live t d) (λ (a : Attempt). is_live s c a && is_linked (live_row a)) live_one s.attempts)
      ∙ sym (filter_both is_linked live_row (is_live s c) s.attempts) ∙ ap (filter is_linked) h.live

  call_now : numbered (call_closed why (now s) x).ledger.calls c.number ≡ Some (call_seen t d)
  call_now =
      ap (λ (n : ℕ). numbered (stamps.changed_at (stamps.ended_call (end_by x.ledger.entry (now s) why)) x.ledger.calls n) c.number) (sym h.number_is)
      ∙ stamped_here (stamps.ended_call (end_by x.ledger.entry (now s) why)) c.number x.ledger.calls (call_seen s c) h.call_is
      ∙ ap (λ (k : CallSeen). Some k) (end_is (call_seen s c) (end_by x.ledger.entry (now s) why) is_open)
      ∙ ap (λ (n : ℕ). Some (record (call_seen s c) { end = Some (end_by n (now s) why) })) (sym h.entry_is)

  sees_now : Sees t d (call_closed why (now s) x)
  sees_now = record {
    own = own_now;
    number_is = h.number_is;
    request = h.request;
    begun = h.begun;
    chosen = h.chosen;
    finished = h.finished;
    longest_is = h.longest_is;
    ended = refl;
    attempts = attempts_now;
    live = live_now;
    tokens = frames.bucket_reported s c.number (λ k. k.messages) (λ k. k.finished) (λ k. k.taken) (λ k. k.end_taken) (λ k. k.marks ++ w ∷ []) (λ k. Some the_end) s.current (run_of c s)
        ∙ h.tokens;
    entry_is = h.entry_is;
    rows = h.rows;
    call_is = call_now;
  }

  own_still : (k : MarkKind) → is_own_mark s c k ≡ true → is_own_mark t d k ≡ true
  own_still mark.Configured own = own
  own_still (mark.Made row) own = own
  own_still (mark.Placed row) own = own
  own_still (mark.Ended row) own = own
  own_still mark.Withheld own = own
  own_still mark.Committed own = own
  own_still mark.Closed own = own

  marks_now : list_all (λ (m : Mark). is_own_mark t d m.what) (c.marks ++ w ∷ []) ≡ true
  marks_now =
      list_all-append (λ (m : Mark). is_own_mark t d m.what) c.marks (w ∷ [])
      ∙ ap (λ (b : Bool). b && true)
      (all_so (λ (m : Mark). is_own_mark s c m.what) (λ (m : Mark). is_own_mark t d m.what) (λ m own. own_still m.what own) c.marks o.marks)

  pub closes_here : Keeps (call_ended c.number why s) c.number (call_closed why (now s) x)
  closes_here =
      subst (λ (z : Seen). Keeps z c.number (call_closed why (now s) x)) (sym is_closed)
      (record {
        call = d;
        number_is = refl;
        sees = sees_now;
        order = record {
          places = o.places;
          marks = marks_now;
          numbers = o.numbers;
          first = λ e. ap (λ (z : DueState). z.newest) due_now ∙ o.first e;
          stops = λ e. ap (λ (z : DueState). z.stopped) due_now;
        };
      })

pub calls_close : CallsClose
calls_close s c x why h o is_open = closes_here s c x why h o is_open

pub quiet_calls_end : QuietCallsEnd
quiet_calls_end s c x why h o is_open none =
    let open_now : x.call.ended ≡ None = sym h.ended ∙ ap (option_map (λ (e : CallEnd). e.cause)) is_open in
    let same : steps.closed_by why (now s) x ≡ call_closed why (now s) x
    = closed_is why (now s) x open_now (sym none) ∙ sym (ap (λ (l : List LiveRow). closed_with why (now s) l x) none) in
    subst (λ (y : Stepped). Keeps (call_ended c.number why s) c.number y) (sym same) (closes_here s c x why h o is_open)
