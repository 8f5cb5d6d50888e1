-- What its application posts, a hedge that is withheld, and the end of a call change none of its attempts: what is kept in order of them is so still.
use Rattle.attempt_ledger.specs.declared.ledger.CallEnd.{CallEnd}
use Rattle.attempt_ledger.specs.declared.row.RowEnd.{RowEnd}
use Rattle.call_actions.proofs.Frames.{then_seen, due_same, retold, wants_same}
use Rattle.call_actions.proofs.Lists.{changed_here, changed_twice}
use Rattle.call_actions.proofs.Report.{fold_last}
use Rattle.call_actions.specs.Order.{IsInOrder, IsInTurn, is_own_mark}
use Rattle.call_actions.proofs.CallsApart.Through.{any_alike}
use Rattle.call_actions.specs.CallsInTurn.Laws.{FinishesKeep, MessagesKeep, TakesKeep, WithheldKeep, EndsKeep}
use Rattle.call_actions.specs.CallsInTurn.Turns.{IsSteady, StaysInOrder, waits}
use Rattle.grpc_base.specs.declared.event.Event.TheVariants as event
use Rattle.grpc_base.specs.declared.event.Reply.TheVariants as reply
use Rattle.session_actions.specs.Attempts.{is_of, wants_follower_by}
use Rattle.session_actions.specs.Deliveries.{is_end}
use Rattle.session_actions.specs.DueAttempts.{due_after_mark, due_state, no_due}
use Rattle.session_actions.specs.Entries.{entry, now}
use Rattle.session_actions.specs.Words.{holds, numbered}
use Rattle.session_actions.specs.declared.attempt.Attempt.{Attempt}
use Rattle.session_actions.specs.declared.call.Call.{Call}
use Rattle.session_actions.specs.declared.call.Mark.{Mark}
use Rattle.session_actions.specs.declared.call.MarkKind.TheVariants as mark
use Rattle.session_actions.specs.declared.due.DueState.{DueState}
use Rattle.session_actions.specs.declared.entry.OpenEntry.{OpenEntry}
use Rattle.session_actions.specs.declared.entry.Stage.TheVariants as stage
use Rattle.session_actions.specs.declared.seen.Seen.{Seen}
use Rattle.std.proofs.Common.{Bool, List, None, Option, Some, [], ap, fold, option_map, refl, subst, sym, true, ℕ, ◌&&◌, ◌++◌, ◌+◌, ◌∙◌, ◌∷◌, ◌≡◌}
use Rattle.std.proofs.lemmas.Bool.{and_from}
use Rattle.std.proofs.lemmas.List.Folds.{list_all-append}
use Rattle.std.specs.List.{list_all}

module _ (s : Seen) (c : Call) (messages : Call → List (List ℕ)) (finished : Call → Bool) (taken : Call → ℕ) (end_taken : Call → Bool) (marks : Call → List Mark)
    (end : Call → Option CallEnd) (current : Option OpenEntry) (own : numbered s.calls c.number ≡ Some c) where
  abbrev reported : Call → Call
  reported k = retold messages finished taken end_taken marks end k

  abbrev t : Seen
  t = then_seen s c.number messages finished taken end_taken marks end current

  pub own_now : numbered t.calls c.number ≡ Some (reported c)
  own_now = changed_here reported c.number s.calls c own

  wants_one : (q : Attempt) (o : Option RowEnd) → holds (wants_follower_by q t) o ≡ holds (wants_follower_by q s) o
  wants_one q None = refl
  wants_one q (Some e) = wants_same s c.number messages finished taken end_taken marks end current q e

  pub steady_now : IsSteady s c → IsSteady t (reported c)
  steady_now k =
      let turn : IsInTurn s c = k.turn in
      record {
        turn = record { unfollowed = turn.unfollowed; latest = turn.latest; numbers = turn.numbers; counted = turn.counted };
        quiescent = any_alike (waits t (reported c)) (waits s c) (λ q. ap (λ (b : Bool). is_of c q && b) (wants_one q q.row.ended)) s.attempts ∙ k.quiescent;
      }

  -- the marks so far say of the next attempt what they did
  pub marks_now : fold (λ (z : DueState) (m : Mark). due_after_mark (reported c) t m.what m.moment z) no_due c.marks ≡ due_state c s
  marks_now = due_same s c.number messages finished taken end_taken marks end current c no_due c.marks

-- without a mark
module _ (s : Seen) (c : Call) (messages : Call → List (List ℕ)) (finished : Call → Bool) (taken : Call → ℕ) (end_taken : Call → Bool) (current : Option OpenEntry)
    (own : numbered s.calls c.number ≡ Some c) where
  abbrev plain_marks : Call → List Mark
  plain_marks k = k.marks

  abbrev plain_end : Call → Option CallEnd
  plain_end k = k.end

  abbrev u : Seen
  u = then_seen s c.number messages finished taken end_taken plain_marks plain_end current

  pub plain_keeps : IsInOrder s c → IsSteady s c → StaysInOrder u c.number
  plain_keeps o k =
      let due : due_state (retold messages finished taken end_taken plain_marks plain_end c) u ≡ due_state c s
      = marks_now s c messages finished taken end_taken plain_marks plain_end current own in
      record {
        call = retold messages finished taken end_taken plain_marks plain_end c;
        own = own_now s c messages finished taken end_taken plain_marks plain_end current own;
        order = record {
          places = o.places;
          marks = o.marks;
          numbers = o.numbers;
          first = λ none. ap (λ (d : DueState). d.newest) due ∙ o.first none;
          stops = λ over. ap (λ (d : DueState). d.stopped) due ∙ o.stops over;
        };
        steady = steady_now s c messages finished taken end_taken plain_marks plain_end current own k;
      }

-- with a mark by which no further attempt is made
module _ (s : Seen) (c : Call) (end : Call → Option CallEnd) (w : Mark) (current : Option OpenEntry) (own : numbered s.calls c.number ≡ Some c)
    (stops : (d : Call) (z : Seen) (e : DueState) → due_after_mark d z w.what w.moment e ≡ record e { stopped = true })
    (rowless : (d : Call) (z : Seen) → is_own_mark z d w.what ≡ true) where
  abbrev more_marks : Call → List Mark
  more_marks k = k.marks ++ w ∷ []

  abbrev v : Seen
  v = then_seen s c.number (λ (k : Call). k.messages) (λ (k : Call). k.finished) (λ (k : Call). k.taken) (λ (k : Call). k.end_taken) more_marks end current

  abbrev e : Call
  e = retold (λ (k : Call). k.messages) (λ (k : Call). k.finished) (λ (k : Call). k.taken) (λ (k : Call). k.end_taken) more_marks end c

  pub mark_keeps : IsInOrder s c → IsSteady s c → StaysInOrder v c.number
  mark_keeps o k =
      let due : due_state e v ≡ record (due_state c s) { stopped = true }
      = fold_last (λ (z : DueState) (m : Mark). due_after_mark e v m.what m.moment z) no_due c.marks w
      ∙ stops e v (fold (λ (z : DueState) (m : Mark). due_after_mark e v m.what m.moment z) no_due c.marks)
      ∙ ap (λ (z : DueState). record z { stopped = true })
      (marks_now s c (λ (k : Call). k.messages) (λ (k : Call). k.finished) (λ (k : Call). k.taken) (λ (k : Call). k.end_taken) more_marks end current own) in
      record {
        call = e;
        own = own_now s c (λ (k : Call). k.messages) (λ (k : Call). k.finished) (λ (k : Call). k.taken) (λ (k : Call). k.end_taken) more_marks end current own;
        order = record {
          places = o.places;
          marks = list_all-append (λ (m : Mark). is_own_mark s c m.what) c.marks (w ∷ [])
              ∙ and_from (list_all (λ (m : Mark). is_own_mark s c m.what) c.marks) (is_own_mark s c w.what && true) o.marks (and_from (is_own_mark s c w.what) true (rowless c s) refl);
          numbers = o.numbers;
          first = λ none. ap (λ (d : DueState). d.newest) due ∙ o.first none;
          stops = λ over. ap (λ (d : DueState). d.stopped) due;
        };
        steady = steady_now s c (λ (k : Call). k.messages) (λ (k : Call). k.finished) (λ (k : Call). k.taken) (λ (k : Call). k.end_taken) more_marks end current own k;
      }

pub messages_keep : MessagesKeep
messages_keep s c (event.Send call message) book own order steady =
    plain_keeps s c (λ (k : Call). k.messages ++ message ∷ []) (λ (k : Call). k.finished) (λ (k : Call). k.taken) (λ (k : Call). k.end_taken)
    (option_map (λ (o : OpenEntry). record o { stage = stage.Replied; reply = Some reply.Done }) s.current) own order steady
messages_keep s c _ book own order steady =
    plain_keeps s c (λ (k : Call). k.messages) (λ (k : Call). k.finished) (λ (k : Call). k.taken) (λ (k : Call). k.end_taken)
    (option_map (λ (o : OpenEntry). record o { stage = stage.Replied; reply = Some reply.Done }) s.current) own order steady

pub finishes_keep : FinishesKeep
finishes_keep s c book own order steady =
    plain_keeps s c (λ (k : Call). k.messages) (λ (k : Call). true) (λ (k : Call). k.taken) (λ (k : Call). k.end_taken)
    (option_map (λ (o : OpenEntry). record o { stage = stage.Replied; reply = Some reply.Done }) s.current) own order steady

pub takes_keep : TakesKeep
takes_keep s c item book own order steady =
    plain_keeps s c (λ (k : Call). k.messages) (λ (k : Call). k.finished) (λ (k : Call). k.taken + 1) (λ (k : Call). is_end item)
    (option_map (λ (o : OpenEntry). record o { stage = stage.Replied; reply = Some item }) s.current) own order steady

pub withheld_keep : WithheldKeep
withheld_keep s c book own order steady =
    mark_keeps s c (λ (k : Call). k.end) (record { what = mark.Withheld; moment = now s }) (option_map (λ (o : OpenEntry). record o { turn = None }) s.current) own
    (λ d z e. refl) (λ d z. refl) order steady

pub ends_keep : EndsKeep
ends_keep s c why book own order steady =
    let w : Mark = record { what = mark.Closed; moment = now s } in
    let f : Call → Call = λ (k : Call). record k { marks = k.marks ++ w ∷ [] } in
    let g : Call → Call = λ (k : Call). record k { end = Some (record { entry = entry s; moment = now s; cause = why }) } in
    subst (λ (l : List Call). StaysInOrder (record s { calls = l }) c.number) (sym (changed_twice f g c.number s.calls))
    (mark_keeps s c (λ (k : Call). Some (record { entry = entry s; moment = now s; cause = why })) w s.current own (λ d z e. refl) (λ d z. refl) order steady)
