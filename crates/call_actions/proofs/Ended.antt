-- The channel ends a call before its configuration comes: no attempt of it is cut, since it has none.
use Rattle.std.proofs.Common.{◌≡◌, ◌∷◌, ◌++◌, not, ap, refl, subst, sym, ◌∙◌, true, false, List, [], Option, None, Some, ℕ, if◌then◌else◌, is_some}
use Rattle.std.specs.List.{list_any}
use Rattle.std.specs.Option.{option_map}
use Rattle.attempt_ledger.specs.declared.ledger.CallEnd.{CallEnd}
use Rattle.attempt_ledger.specs.declared.ledger.CallSeen.{CallSeen}
use Rattle.call_actions.proofs.Unconfigured.{Had, unconfigured_attempts, counted_of_marks, due_from, due_of_marks, had, no_tokens, none_live}
use Rattle.call_actions.proofs.Lists.{changed_here, stamped_here}
use Rattle.call_actions.specs.Laws.{CallsEnd}
use Rattle.call_actions.specs.Sees.{AttemptsAgree, DuesAgree, Sees, bucket_of}
use Rattle.call_core.specs.Parts.{count_of, stopped_attempts}
use Rattle.call_core.specs.Steps.{Stepped, closed_by, cut_all, end_stamped, ended_as, fresh_buffer, reported_all}
use Rattle.call_core.specs.declared.act.CallAct.TheVariants as act
use Rattle.call_core.specs.declared.attempts.Attempts.{Attempts}
use Rattle.call_core.specs.declared.live.LiveRow.{LiveRow}
use Rattle.grpc_base.specs.declared.event.EndCause.{EndCause}
use Rattle.ledger_stamps.specs.Steps as stamps
use Rattle.session_actions.specs.Attempts.{is_of}
use Rattle.session_actions.specs.CallEnds.{call_ended}
use Rattle.session_actions.specs.DueAttempts.{no_due}
use Rattle.session_actions.specs.Entries.{entry, now}
use Rattle.session_actions.specs.Sessions.{call_seen}
use Rattle.session_actions.specs.Tokens.{run_of}
use Rattle.session_actions.specs.Words.{changed, numbered}
use Rattle.session_actions.specs.declared.call.Call.{Call}
use Rattle.session_actions.specs.declared.call.Mark.{Mark}
use Rattle.session_actions.specs.declared.due.DueState.{DueState}
use Rattle.session_actions.specs.declared.seen.Seen.{Seen}
use Rattle.session_actions.specs.declared.call.MarkKind.TheVariants as mark

-- what the channel makes of it, by its live rows
abbrev pub ended_with : EndCause → ℕ → List LiveRow → Stepped → Stepped
ended_with why moment live x = record {
  call = record x.call { live = []; buffer = fresh_buffer; attempts = stopped_attempts x.call.attempts; ended = Some why };
  ledger = end_stamped x.call.number why moment (cut_all None moment (count_of x.tokens) live x.ledger);
  tokens = x.tokens;
  acts = reported_all None live x.acts ++ act.End why ∷ [];
}

pub closed_is : (why : EndCause) (moment : ℕ) (x : Stepped) → x.call.ended ≡ None → [] ≡ x.call.live → closed_by why moment x ≡ ended_with why moment [] x
closed_is why moment x is_open none =
    ap (λ (o : Option EndCause). if not (is_some o) then ended_as why moment x else x) is_open
    ∙ ap (λ (l : List LiveRow). ended_with why moment l x) (sym none)

-- the calls after something happened to one
abbrev pub marked_calls : ℕ → Mark → Seen → List Call
marked_calls number m s = changed (λ (k : Call). record k { marks = k.marks ++ m ∷ [] }) number s.calls

-- no further attempt is made then
pub none_due : (d : DueState) (a : Attempts) → d.newest ≡ a.newest → d.placed ≡ a.placed → DuesAgree (record d { stopped = true }) (stopped_attempts a)
none_due d a newest placed = record { newest = newest; placed = placed; stopped = refl; forced = λ e. absurd (cc) }

-- the stamps of an end
abbrev pub end_by : ℕ → ℕ → EndCause → CallEnd
end_by entry moment why = record { entry = entry; moment = moment; cause = why }

pub end_is : (k : CallSeen) (e : CallEnd) → k.end ≡ None → stamps.ended_call e k ≡ record k { end = Some e }
end_is k e none = ap (λ (o : Option CallEnd). record k { end = stamps.stamped e o }) none

-- the call, once it ended
abbrev pub closed_mark : Seen → Mark
closed_mark s = record { what = mark.Closed; moment = now s }

abbrev pub over : EndCause → Seen → Call → Call
over why s k = record k { end = Some (end_by (entry s) (now s) why) }

abbrev pub ended_call : EndCause → Seen → Call → Call
ended_call why s c = over why s (record c { marks = c.marks ++ closed_mark s ∷ [] })

-- so it ends, where it has no attempt
module _ (s : Seen) (c : Call) (x : Stepped) (why : EndCause) (h : Sees s c x) (none : list_any (is_of c) s.attempts ≡ false) (is_open : c.end ≡ None) where
  own_now : numbered (call_ended c.number why s).calls c.number ≡ Some (ended_call why s c)
  own_now =
      let marked_c : Call = record c { marks = c.marks ++ closed_mark s ∷ [] } in
      changed_here (over why s) c.number (marked_calls c.number (closed_mark s) s) marked_c
      (changed_here (λ (k : Call). record k { marks = k.marks ++ closed_mark s ∷ [] }) c.number s.calls c h.own)

  stamped_now : numbered (ended_with why (now s) [] x).ledger.calls c.number ≡ Some (call_seen (call_ended c.number why s) (ended_call why s c))
  stamped_now =
      let e : CallEnd = end_by x.ledger.entry (now s) why in
      ap (λ (k : ℕ). numbered (stamps.changed_at (stamps.ended_call e) x.ledger.calls k) c.number) (sym h.number_is)
      ∙ stamped_here (stamps.ended_call e) c.number x.ledger.calls (call_seen s c) h.call_is
      ∙ ap (λ (k : CallSeen). Some k) (end_is (call_seen s c) e is_open)
      ∙ ap (λ (j : ℕ). Some (record (call_seen s c) { end = Some (end_by j (now s) why) })) (sym h.entry_is)

  pub ends_now : AttemptsAgree (call_ended c.number why s) (ended_call why s c) (stopped_attempts x.call.attempts)
      → option_map (bucket_of (call_ended c.number why s)) (run_of (ended_call why s c) (call_ended c.number why s)) ≡ x.tokens
      → Sees (call_ended c.number why s) (ended_call why s c) (ended_with why (now s) [] x)
  ends_now attempts tokens = record {
    own = own_now;
    number_is = h.number_is;
    request = h.request;
    begun = h.begun;
    chosen = h.chosen;
    finished = h.finished;
    longest_is = h.longest_is;
    ended = refl;
    attempts = attempts;
    live = none_live (call_ended c.number why s) (ended_call why s c) none;
    tokens = tokens;
    entry_is = h.entry_is;
    rows = h.rows;
    call_is = stamped_now;
  }

pub calls_end : CallsEnd
calls_end s c x why h b =
    let g : Had s c x = had s c x h b in
    let d : Call = ended_call why s c in
    let t : Seen = call_ended c.number why s in
    let marks : d.marks ≡ closed_mark s ∷ [] = ap (λ (l : List Mark). l ++ closed_mark s ∷ []) b.marks in
    let attempts : AttemptsAgree t d (stopped_attempts x.call.attempts)
    = unconfigured_attempts t d b.none (stopped_attempts x.call.attempts) (due_from t d (record no_due { stopped = true }) (stopped_attempts x.call.attempts) (due_of_marks t d (closed_mark s ∷ []) marks) (none_due no_due x.call.attempts g.due.newest g.due.placed))
    (counted_of_marks t d (closed_mark s ∷ []) marks) g.sent g.delayed g.last g.refused g.committed g.due.placed in
    let sees : Sees t d (ended_with why (now s) [] x) = ends_now s c x why h b.none b.end attempts (no_tokens t d b.config ∙ g.tokens) in
    record { call = d; number_is = refl; sees = subst (Sees t d) (sym (closed_is why (now s) x g.open_now g.live)) sees }
