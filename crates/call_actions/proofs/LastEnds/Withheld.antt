-- A hedge is withheld where no attempt of its call goes on: the call is committed to the attempt whose end counted last, and ends by it.
use Rattle.std.proofs.Common.{◌≡◌, ◌+◌, ◌∷◌, ◌++◌, not, ap, refl, subst, sym, ◌∙◌, Bool, true, List, [], Option, None, Some, ℕ, if◌then◌else◌, is_some, length, option_map}
use Rattle.std.proofs.lemmas.Bool.{and_from}
use Rattle.std.proofs.lemmas.List.{append-nil}
use Rattle.std.proofs.lemmas.List.Elements.{filter_map-append}
use Rattle.std.proofs.lemmas.List.Folds.{list_all-append}
use Rattle.std.specs.List.{list_all}
use Rattle.std.specs.Option.{option_map_or}
use Rattle.std.specs.Prelude.{filter_map}
use Rattle.attempt_ledger.specs.declared.ledger.CallEnd.{CallEnd}
use Rattle.call_actions.proofs.Unconfigured.{some_still}
use Rattle.call_actions.proofs.Closing.{quiet_calls_end}
use Rattle.call_actions.proofs.Committing as committing
use Rattle.call_actions.proofs.Ended.{none_due}
use Rattle.call_actions.proofs.Frames.{bucket_reported, counted_rows_same, delayed_same, due_same, live_same}
use Rattle.call_actions.proofs.Lists.{changed_here}
use Rattle.call_actions.proofs.Report.{fold_last}
use Rattle.call_actions.specs.Order.{IsInOrder, Keeps, is_own_mark}
use Rattle.call_actions.specs.Sees.{AttemptsAgree, DuesAgree, Sees}
use Rattle.call_core.specs.Parts.{stopped_attempts}
use Rattle.call_core.specs.Steps as steps
use Rattle.call_core.specs.Steps.{Stepped, ended_by_last}
use Rattle.call_core.specs.declared.live.LiveRow.{LiveRow}
use Rattle.grpc_base.specs.declared.event.EndCause.{EndCause}
use Rattle.grpc_base.specs.declared.event.EndCause.TheVariants as endcause
use Rattle.call_actions.specs.LastEnds.Laws.{WithheldHedgesClose}
use Rattle.session_actions.specs.Attempts.{commitment, is_of}
use Rattle.session_actions.specs.CallEnds.{call_ended}
use Rattle.session_actions.specs.Commitments.{call_committed}
use Rattle.session_actions.specs.DueAttempts.{counted_row, due_after_mark, due_state, last_counted, no_due}
use Rattle.session_actions.specs.Entries.{last_moment, now}
use Rattle.session_actions.specs.Making.{hedge_withheld}
use Rattle.session_actions.specs.Tokens.{run_of}
use Rattle.session_actions.specs.Words.{last_of, numbered}
use Rattle.session_actions.specs.declared.attempt.Attempt.{Attempt}
use Rattle.session_actions.specs.declared.call.Call.{Call}
use Rattle.session_actions.specs.declared.call.Mark.{Mark}
use Rattle.session_actions.specs.declared.call.MarkKind.TheVariants as mark
use Rattle.session_actions.specs.declared.due.DueState.{DueState}
use Rattle.session_actions.specs.declared.entry.OpenEntry.{OpenEntry}
use Rattle.session_actions.specs.declared.seen.Seen.{Seen}

moment_of : (o : Option OpenEntry) (last : ℕ)
    → option_map_or (λ (z : OpenEntry). z.moment) (option_map (λ (z : OpenEntry). record z { turn = None }) o) last ≡ option_map_or (λ (z : OpenEntry). z.moment) o last
moment_of None last = refl
moment_of (Some q) last = refl

none_by : {X : Type 0} (f : Attempt → X) (o : Option Attempt) (p : Option X) → o ≡ None → option_map f o ≡ p → p ≡ None
none_by f o p e same = sym same ∙ ap (option_map f) e

module _ (s : Seen) (c : Call) (x : Stepped) (place : ℕ) (a : Attempt) (h : Sees s c x) (o : IsInOrder s c) (goes_on : c.end ≡ None) (free : commitment c s ≡ None)
    (none : x.call.live ≡ []) (last : last_counted c s ≡ Some place) (got : numbered s.attempts place ≡ Some a) (own : is_of c a ≡ true) where
  abbrev w : Mark
  w = record { what = mark.Withheld; moment = now s }

  abbrev d : Call
  d = record c { marks = c.marks ++ w ∷ [] }

  abbrev t : Seen
  t = hedge_withheld c.number s

  abbrev n : ℕ
  n = c.number

  abbrev now_open : Option OpenEntry
  now_open = option_map (λ (z : OpenEntry). record z { turn = None }) s.current

  abbrev y_with : List LiveRow → Stepped
  y_with live = record x { call = record x.call { live = live; attempts = stopped_attempts x.call.attempts } }

  abbrev y : Stepped
  y = y_with []

  due_then : due_state d t ≡ record (due_state c s) { stopped = true }
  due_then =
      fold_last (λ (z : DueState) (m : Mark). due_after_mark d t m.what m.moment z) no_due c.marks w
      ∙ ap (λ (z : DueState). record z { stopped = true })
      (due_same s n (λ k. k.messages) (λ k. k.finished) (λ k. k.taken) (λ k. k.end_taken) (λ k. k.marks ++ w ∷ []) (λ k. k.end) now_open c no_due c.marks)

  rows_then : last_counted d t ≡ last_counted c s
  rows_then =
      ap last_of (filter_map-append (λ (m : Mark). counted_row t m.what) c.marks (w ∷ []) ∙ append-nil (filter_map (λ (m : Mark). counted_row t m.what) c.marks)
      ∙ counted_rows_same s n (λ k. k.messages) (λ k. k.finished) (λ k. k.taken) (λ k. k.end_taken) (λ k. k.marks ++ w ∷ []) (λ k. k.end) now_open c.marks)

  was : AttemptsAgree s c x.call.attempts
  was = h.attempts

  attempts_then : AttemptsAgree t d (stopped_attempts x.call.attempts)
  attempts_then = record {
    sent = was.sent;
    due = subst (λ (z : DueState). DuesAgree z (stopped_attempts x.call.attempts)) (sym due_then) (none_due (due_state c s) x.call.attempts was.due.newest was.due.placed);
    unplaced = was.unplaced;
    delayed = λ keeps alone. delayed_same s n (λ k. k.messages) (λ k. k.finished) (λ k. k.taken) (λ k. k.end_taken) (λ k. k.marks ++ w ∷ []) (λ k. k.end) now_open c x.call.attempts.sent
        ∙ was.delayed keeps alone;
    last = λ alone. rows_then ∙ was.last alone;
    refused = was.refused;
    committed = was.committed;
  }

  sees_then : Sees t d y
  sees_then = record {
    own = changed_here (λ (k : Call). record k { marks = k.marks ++ w ∷ [] }) c.number s.calls c h.own;
    number_is = h.number_is;
    request = h.request;
    begun = h.begun;
    chosen = h.chosen;
    finished = h.finished;
    longest_is = h.longest_is;
    ended = h.ended;
    attempts = attempts_then;
    live = live_same s n (λ k. k.messages) (λ k. k.finished) (λ k. k.taken) (λ k. k.end_taken) (λ k. k.marks ++ w ∷ []) now_open c ∙ h.live ∙ none;
    tokens = bucket_reported s n (λ k. k.messages) (λ k. k.finished) (λ k. k.taken) (λ k. k.end_taken) (λ k. k.marks ++ w ∷ []) (λ k. k.end) now_open (run_of c s) ∙ h.tokens;
    entry_is = ap (λ (b : Bool). length s.entries + (if b then 1 else 0)) (some_still (λ (z : OpenEntry). record z { turn = None }) s.current) ∙ h.entry_is;
    rows = h.rows;
    call_is = h.call_is;
  }

  order_then : IsInOrder t d
  order_then = record {
    places = o.places;
    marks = list_all-append (λ (m : Mark). is_own_mark s c m.what) c.marks (w ∷ [])
        ∙ and_from (list_all (λ (m : Mark). is_own_mark s c m.what) c.marks) true o.marks refl;
    numbers = o.numbers;
    first = λ zero_made. ap (λ (z : DueState). z.newest) due_then ∙ o.first zero_made;
    stops = λ over. ap (λ (z : DueState). z.stopped) due_then;
  }

  -- the commitment, and the end
  abbrev last_seen : Seen
  last_seen = committing.t t d y place a sees_then order_then got own goes_on free refl

  abbrev last_call : Call
  last_call = committing.d t d y place a sees_then order_then got own goes_on free refl

  abbrev z : Stepped
  z = committing.after t d y place a sees_then order_then got own goes_on free refl

  ends_there : Keeps (call_ended c.number endcause.Row last_seen) c.number (steps.closed_by endcause.Row (now last_seen) z)
  ends_there =
      quiet_calls_end last_seen last_call z endcause.Row (committing.sees_now t d y place a sees_then order_then got own goes_on free refl)
      (committing.order_now t d y place a sees_then order_then got own goes_on free refl) goes_on refl

  open_now : x.call.ended ≡ None
  open_now = sym h.ended ∙ ap (option_map (λ (q : CallEnd). q.cause)) goes_on

  -- what the channel does
  uncommitted : x.call.attempts.committed ≡ None
  uncommitted = none_by (λ (q : Attempt). q.place) (commitment c s) x.call.attempts.committed free was.committed

  last_is : x.call.attempts.last ≡ Some place
  last_is = sym (was.last uncommitted) ∙ last

  channel : steps.refused_due (now s) x ≡ steps.ended_by_row place (now s) y
  channel =
      ap (λ (k : Option ℕ). ended_by_last k (now s) (y_with x.call.live)) last_is ∙ ap (λ (live : List LiveRow). ended_by_last (Some place) (now s) (y_with live)) none

  virtual : steps.closed_by endcause.Row (now last_seen) z ≡ steps.ended_by_row place (now s) y
  virtual =
      ap (λ (m : ℕ). steps.closed_by endcause.Row m z) (moment_of s.current (last_moment s))
      ∙ ap (λ (k : Option EndCause). steps.ended_if (not (is_some k)) endcause.Row (now s) z) open_now

  pub withheld_ends : Keeps (call_ended c.number endcause.Row (call_committed place (hedge_withheld c.number s))) c.number (steps.refused_due (now s) x)
  withheld_ends =
      subst (λ (k : Seen). Keeps (call_ended c.number endcause.Row k) c.number (steps.refused_due (now s) x))
      (sym (committing.is_committed t d y place a sees_then order_then got own goes_on free refl))
      (subst (λ (k : Stepped). Keeps (call_ended c.number endcause.Row last_seen) c.number k) (virtual ∙ sym channel) ends_there)

pub withheld_hedges_close : WithheldHedgesClose
withheld_hedges_close s c x place a h o goes_on free none last got own = withheld_ends s c x place a h o goes_on free none last got own
