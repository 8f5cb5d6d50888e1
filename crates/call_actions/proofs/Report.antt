-- The application finishes the request of a call, and a hedge is withheld: neither changes an attempt.
use Rattle.std.proofs.Common.{◌≡◌, ◌+◌, ◌∷◌, ◌++◌, ap, refl, subst, sym, ◌∙◌, Bool, true, false, List, [], Option, None, Some, ℕ, if◌then◌else◌, is_some, length}
use Rattle.std.proofs.lemmas.List.{append-nil}
use Rattle.std.proofs.lemmas.List.Elements.{filter_map-append}
use Rattle.std.specs.Option.{option_map}
use Rattle.std.specs.Prelude.{filter_map, fold}
use Rattle.attempt_ledger.specs.declared.ledger.CallEnd.{CallEnd}
use Rattle.call_actions.proofs.Unconfigured.{entry_replied, some_still}
use Rattle.call_actions.proofs.Ended.{none_due}
use Rattle.call_actions.proofs.Frames.{bucket_reported, counted_rows_same, delayed_same, due_same, live_same}
use Rattle.call_actions.proofs.Lists.{changed_here}
use Rattle.call_actions.specs.Laws.{HedgesAreWithheld, RequestsFinish}
use Rattle.call_actions.specs.Sees.{AttemptsAgree, DuesAgree, Sees}
use Rattle.call_core.specs.Parts.{has_none, stopped_attempts}
use Rattle.call_core.specs.Steps as steps
use Rattle.call_core.specs.Steps.{Stepped, ended_by_last, with_attempts}
use Rattle.call_core.specs.declared.state.CallState.{CallState}
use Rattle.grpc_base.specs.declared.event.EndCause.{EndCause}
use Rattle.grpc_base.specs.declared.event.Refusal.TheVariants as refusals
use Rattle.grpc_base.specs.declared.event.Reply.TheVariants as reply
use Rattle.session_actions.specs.Deliveries.{request_finished}
use Rattle.session_actions.specs.DueAttempts.{counted_row, due_after_mark, due_state, last_counted, no_due}
use Rattle.session_actions.specs.Entries.{now}
use Rattle.session_actions.specs.Making.{hedge_withheld}
use Rattle.session_actions.specs.Tokens.{run_of}
use Rattle.session_actions.specs.Words.{last_of}
use Rattle.session_actions.specs.declared.call.Call.{Call}
use Rattle.session_actions.specs.declared.call.Mark.{Mark}
use Rattle.session_actions.specs.declared.due.DueState.{DueState}
use Rattle.session_actions.specs.declared.entry.OpenEntry.{OpenEntry}
use Rattle.session_actions.specs.declared.seen.Seen.{Seen}
use Rattle.session_actions.specs.declared.call.MarkKind.TheVariants as mark
use Rattle.session_actions.specs.declared.entry.Stage.TheVariants as stage

-- a request is finished
abbrev done_call : CallState → CallState
done_call call = record call { is_finished = true }

finished_by : (call : CallState) (ended : Option EndCause) (finished : Bool) → ended ≡ None → finished ≡ false
    → steps.finished_if (if is_some ended then Some refusals.CallEnded else if finished then Some refusals.AfterFinish else None) call ≡ done_call call
finished_by call None false one two = refl
finished_by call None true one two = absurd (cc)
finished_by call (Some why) finished one two = absurd (cc)

pub requests_finish : RequestsFinish
requests_finish s c x h is_open unfinished =
    let f : Call → Call = λ (k : Call). record k { finished = true } in
    let d : Call = f c in
    let t : Seen = request_finished c.number s in
    let n : ℕ = c.number in
    let now_open : Option OpenEntry = option_map (λ (o : OpenEntry). record o { stage = stage.Replied; reply = Some reply.Done }) s.current in
    let y : Stepped = record x { call = done_call x.call } in
    let a : AttemptsAgree s c x.call.attempts = h.attempts in
    let same : steps.finished x.call ≡ done_call x.call
    = finished_by x.call x.call.ended x.call.is_finished (sym h.ended ∙ ap (option_map (λ (e : CallEnd). e.cause)) is_open) (sym h.finished ∙ unfinished) in
    let due : due_state d t ≡ due_state c s
    = due_same s n (λ k. k.messages) (λ k. true) (λ k. k.taken) (λ k. k.end_taken) (λ k. k.marks) (λ k. k.end) now_open c no_due c.marks in
    let attempts : AttemptsAgree t d x.call.attempts = record {
      sent = a.sent;
      due = subst (λ (z : DueState). DuesAgree z x.call.attempts) (sym due) a.due;
      unplaced = a.unplaced;
      delayed = λ keeps free. delayed_same s n (λ k. k.messages) (λ k. true) (λ k. k.taken) (λ k. k.end_taken) (λ k. k.marks) (λ k. k.end) now_open c x.call.attempts.sent ∙ a.delayed keeps free;
      last = λ free. ap last_of (counted_rows_same s n (λ k. k.messages) (λ k. true) (λ k. k.taken) (λ k. k.end_taken) (λ k. k.marks) (λ k. k.end) now_open c.marks) ∙ a.last free;
      refused = a.refused;
      committed = a.committed;
    } in
    let sees : Sees t d y = record {
      own = changed_here f c.number s.calls c h.own;
      number_is = h.number_is;
      request = h.request;
      begun = h.begun;
      chosen = h.chosen;
      finished = refl;
      longest_is = h.longest_is;
      ended = h.ended;
      attempts = attempts;
      live = live_same s n (λ k. k.messages) (λ k. true) (λ k. k.taken) (λ k. k.end_taken) (λ k. k.marks) now_open c ∙ h.live;
      tokens = bucket_reported s n (λ k. k.messages) (λ k. true) (λ k. k.taken) (λ k. k.end_taken) (λ k. k.marks) (λ k. k.end) now_open (run_of c s) ∙ h.tokens;
      entry_is = entry_replied s reply.Done ∙ h.entry_is;
      rows = h.rows;
      call_is = h.call_is;
    } in
    record { call = d; number_is = refl; sees = subst (λ (k : CallState). Sees t d (record x { call = k })) (sym same) sees }

-- one mark more
pub fold_last : (f : DueState → Mark → DueState) (d : DueState) (marks : List Mark) (m : Mark) → fold f d (marks ++ m ∷ []) ≡ f (fold f d marks) m
fold_last f d [] m = refl
fold_last f d (x ∷ marks) m = fold_last f (f d x) marks m

-- what the channel makes of it
withheld_by : (last : Option ℕ) (moment : ℕ) (y : Stepped) → has_none y.call.live ≡ false → ended_by_last last moment y ≡ y
withheld_by None moment y going = refl
withheld_by (Some row) moment y going = ap (λ (b : Bool). if b then steps.ended_by_row row moment y else y) going

pub hedges_are_withheld : HedgesAreWithheld
hedges_are_withheld s c x h going =
    let w : Mark = record { what = mark.Withheld; moment = now s } in
    let f : Call → Call = λ (k : Call). record k { marks = k.marks ++ w ∷ [] } in
    let d : Call = f c in
    let t : Seen = hedge_withheld c.number s in
    let n : ℕ = c.number in
    let now_open : Option OpenEntry = option_map (λ (o : OpenEntry). record o { turn = None }) s.current in
    let y : Stepped = with_attempts (stopped_attempts x.call.attempts) x in
    let a : AttemptsAgree s c x.call.attempts = h.attempts in
    let due : due_state d t ≡ record (due_state c s) { stopped = true }
    = fold_last (λ (z : DueState) (m : Mark). due_after_mark d t m.what m.moment z) no_due c.marks w
    ∙ ap (λ (z : DueState). record z { stopped = true })
    (due_same s n (λ k. k.messages) (λ k. k.finished) (λ k. k.taken) (λ k. k.end_taken) (λ k. k.marks ++ w ∷ []) (λ k. k.end) now_open c no_due c.marks) in
    let rows : last_counted d t ≡ last_counted c s
    = ap last_of (filter_map-append (λ (m : Mark). counted_row t m.what) c.marks (w ∷ []) ∙ append-nil (filter_map (λ (m : Mark). counted_row t m.what) c.marks)
    ∙ counted_rows_same s n (λ k. k.messages) (λ k. k.finished) (λ k. k.taken) (λ k. k.end_taken) (λ k. k.marks ++ w ∷ []) (λ k. k.end) now_open c.marks) in
    let attempts : AttemptsAgree t d (stopped_attempts x.call.attempts) = record {
      sent = a.sent;
      due = subst (λ (z : DueState). DuesAgree z (stopped_attempts x.call.attempts)) (sym due) (none_due (due_state c s) x.call.attempts a.due.newest a.due.placed);
      unplaced = a.unplaced;
      delayed = λ keeps free. delayed_same s n (λ k. k.messages) (λ k. k.finished) (λ k. k.taken) (λ k. k.end_taken) (λ k. k.marks ++ w ∷ []) (λ k. k.end) now_open c x.call.attempts.sent ∙ a.delayed keeps free;
      last = λ free. rows ∙ a.last free;
      refused = a.refused;
      committed = a.committed;
    } in
    let sees : Sees t d y = record {
      own = changed_here f c.number s.calls c h.own;
      number_is = h.number_is;
      request = h.request;
      begun = h.begun;
      chosen = h.chosen;
      finished = h.finished;
      longest_is = h.longest_is;
      ended = h.ended;
      attempts = attempts;
      live = live_same s n (λ k. k.messages) (λ k. k.finished) (λ k. k.taken) (λ k. k.end_taken) (λ k. k.marks ++ w ∷ []) now_open c ∙ h.live;
      tokens = bucket_reported s n (λ k. k.messages) (λ k. k.finished) (λ k. k.taken) (λ k. k.end_taken) (λ k. k.marks ++ w ∷ []) (λ k. k.end) now_open (run_of c s) ∙ h.tokens;
      entry_is = ap (λ (b : Bool). length s.entries + (if b then 1 else 0)) (some_still (λ (o : OpenEntry). record o { turn = None }) s.current) ∙ h.entry_is;
      rows = h.rows;
      call_is = h.call_is;
    } in
    record { call = d; number_is = refl; sees = subst (Sees t d) (sym (withheld_by x.call.attempts.last (now s) y going)) sees }
