-- An attempt is cut off after its call ended. For its link that is as where it is cut off at once: of calls only what was noted of them is otherwise, and their ends.
use Rattle.std.proofs.Common.{◌≡◌, ◌++◌, ◌==◌, ◌∷◌, ap, refl, subst, sym, ◌∙◌, Bool, true, false, List, [], Option, None, Some, ℕ, if◌then◌else◌, is_some, option_map}
use Rattle.std.proofs.lemmas.Bool.{eqb-true}
use Rattle.std.specs.Option.{option_map_or}
use Rattle.attempt_ledger.specs.declared.row.RowEnd.{RowEnd}
use Rattle.call_cases.proofs.EndsFollow.Codes.{response_by_limit}
use Rattle.grpc_base.specs.declared.event.EndCause.{EndCause}
use Rattle.grpc_link.specs.declared.readers.TagReader.{TagReader}
use Rattle.h2_link.specs.Feeds.{Line}
use Rattle.link_actions.proofs.Ended.{ended_seen, is_ended}
use Rattle.link_actions.proofs.LossActions.Calls.{changed_any, limit_in, limit_kept}
use Rattle.link_actions.proofs.ResponseActions.Taken.{readers_are_left}
use Rattle.link_actions.proofs.SteadyLinks.Calls.{AreAllFed, IsNoting, left_by}
use Rattle.link_actions.specs.ResponseActions.Laws.{IsSameResponse, ReadsAlike}
use Rattle.link_actions.specs.ResponseActions.Readers.{SeesReaders, attempt_on}
use Rattle.link_actions.specs.Sees.{AttemptsStandInPlace, IsFed}
use Rattle.link_actions.specs.SteadyLinks.Laws.{IsLeft}
use Rattle.link_actions.specs.SteadyLinks.Same.{LinesAreSameOn}
use Rattle.session_actions.specs.AttemptEnds.{attempt_ended, with_end_in_run}
use Rattle.session_actions.specs.Attempts.{call_of}
use Rattle.session_actions.specs.CallEnds.{call_ended}
use Rattle.session_actions.specs.Configs.{chosen_of}
use Rattle.session_actions.specs.Entries.{entry, now}
use Rattle.session_actions.specs.Responses.{limit_of_attempt, response}
use Rattle.session_actions.specs.Words.{changed, numbered}
use Rattle.session_actions.specs.declared.attempt.Attempt.{Attempt}
use Rattle.session_actions.specs.declared.call.Call.{Call}
use Rattle.session_actions.specs.declared.call.MarkKind.TheVariants as mark
use Rattle.session_actions.specs.declared.config.ThrottleRun.{ThrottleRun}
use Rattle.session_actions.specs.declared.link.Link.{Link}
use Rattle.session_actions.specs.declared.response.Response.{Response}
use Rattle.session_actions.specs.declared.seen.Seen.{Seen}

-- a session of which only what was noted of calls changed, their ends, and the runs
module _ (s : Seen) (calls : List Call) (runs : List ThrottleRun) (f : ℕ → Call → Call) (at : (j : ℕ) → numbered calls j ≡ option_map (f j) (numbered s.calls j))
    (notes : (j : ℕ) → IsNoting (f j)) where
  abbrev after_ : Seen
  after_ = record s { calls = calls; runs = runs }

  limit_same : (a : Attempt) → limit_of_attempt a after_ ≡ limit_of_attempt a s
  limit_same a =
      ap (limit_in s) (at a.row.call) ∙ limit_kept s (f a.row.call) true (call_of a s) (λ c. ap (λ (d : Call). (chosen_of d s).response) (notes a.row.call c))

  fed_same : (l : Link) (a : Attempt) (line : Line) → IsFed l s a line → IsFed l after_ a line
  fed_same l a line is = record {
    call = record is.call { marks = (f a.row.call is.call).marks; end = (f a.row.call is.call).end };
    call_is = at a.row.call ∙ ap (option_map (f a.row.call)) is.call_is ∙ ap (λ (c : Call). Some c) (notes a.row.call is.call);
    fields = is.fields;
    written = is.written;
    left = is.left;
    finished = is.finished;
  }

  all_same : (l : Link) (g : ℕ → Line) (xs : List Attempt) → AreAllFed l s g xs → LinesAreSameOn l l s after_ g xs xs
  all_same l g [] fed_ = tt
  all_same l g (a ∷ xs) fed_ = (
    record {
      place = refl;
      placed = refl;
      stream = refl;
      ended = refl;
      limit = λ e. limit_same a;
      fed = λ e. fed_same l a (g a.place) (fed_.0 e);
    },
    all_same l g xs fed_.1,
  )

  pub noted_left : IsLeft s after_
  noted_left = left_by s after_ refl (λ l g fed_. all_same l g s.attempts fed_) (λ places. places)

  like : (a : Attempt) → IsSameResponse s after_ a a
  like a =
      let same : response a after_ ≡ response a s = response_by_limit s after_ a a.row.stream refl (limit_same a) in
      record { stream = refl; head = ap (λ (p : Response). is_some p.head) same; rest = ap (λ (p : Response). p.rest) same; limit = limit_same a }

  alike : (o : Option Attempt) → ReadsAlike s after_ o o
  alike None = tt
  alike (Some a) = like a

  pub readers_left : (l : Link) (readers : List TagReader) → SeesReaders l s readers → SeesReaders l after_ readers
  readers_left l readers is = readers_are_left l l s after_ readers is (λ row. alike (attempt_on l s row))

-- an attempt ends, where its call ended before or not
module _ (t : Seen) (a : Attempt) (why : EndCause) (e : RowEnd) (places : AttemptsStandInPlace 1 t.attempts) (there : numbered t.attempts a.place ≡ Some a) (c : Call)
    (at_c : numbered t.calls a.row.call ≡ Some c) where
  abbrev n : ℕ
  n = a.row.call

  abbrev v : Seen
  v = call_ended n why t

  abbrev at_once : Seen
  at_once = attempt_ended a.place e t

  abbrev later : Seen
  later = attempt_ended a.place e v

  abbrev first_ : Seen
  first_ = ended_seen (is_some e.word) n a.place e (option_map_or (with_end_in_run a e t) (call_of a t) t).runs t

  abbrev second_ : Seen
  second_ = ended_seen (is_some e.word) n a.place e (option_map_or (with_end_in_run a e v) (call_of a v) v).runs v

  first_is : at_once ≡ first_
  first_is = is_ended t a.place e a places there

  second_is : later ≡ second_
  second_is = is_ended v a.place e a places there

  abbrev mark_it : Call → Call
  mark_it d = record d { marks = d.marks ++ record { what = mark.Closed; moment = now t } ∷ [] }

  abbrev end_it : Call → Call
  end_it d = record d { end = Some (record { entry = entry t; moment = now t; cause = why }) }

  abbrev note : Call → Call
  note d = record d { marks = d.marks ++ record { what = mark.Ended a.place; moment = now t } ∷ [] }

  abbrev whole : Call
  whole = note (end_it (mark_it c))

  abbrev put_in : Call → Call
  put_in d = record d { marks = whole.marks; end = whole.end }

  abbrev f : ℕ → Call → Call
  f j d = if j == n then put_in d else d

  notes_by : (b : Bool) (d : Call) → (if b then put_in d else d) ≡ record d { marks = (if b then put_in d else d).marks; end = (if b then put_in d else d).end }
  notes_by true d = refl
  notes_by false d = refl

  at_by : (j : ℕ) (b : Bool) (q : Option Call) → (j == n) ≡ b → numbered t.calls j ≡ q
      → option_map (λ (d : Call). if b then note d else d) (option_map (λ (d : Call). if b then end_it d else d) (option_map (λ (d : Call). if b then mark_it d else d) q))
      ≡ option_map (λ (d : Call). if b then put_in d else d) (option_map (λ (d : Call). if b then note d else d) q)
  at_by j b None e1 e2 = refl
  at_by j false (Some d) e1 e2 = refl
  at_by j true (Some d) e1 e2 =
      let both : Some c ≡ Some d = sym at_c ∙ ap (numbered t.calls) (sym (eqb-true j n e1)) ∙ e2 in
      let one : c ≡ d = (cc) in
      subst (λ (q : Call). Some (note (end_it (mark_it q))) ≡ Some (put_in (note q))) one refl

  calls_at : (j : ℕ) → numbered second_.calls j ≡ option_map (f j) (numbered first_.calls j)
  calls_at j =
      changed_any note n j (changed end_it n (changed mark_it n t.calls))
      ∙ ap (option_map (λ (d : Call). if j == n then note d else d))
      (changed_any end_it n j (changed mark_it n t.calls) ∙ ap (option_map (λ (d : Call). if j == n then end_it d else d)) (changed_any mark_it n j t.calls))
      ∙ at_by j (j == n) (numbered t.calls j) refl refl
      ∙ sym (ap (option_map (f j)) (changed_any note n j t.calls))

  pub left_later : IsLeft at_once later
  left_later =
      subst (λ (q : Seen). IsLeft q later) (sym first_is)
      (subst (IsLeft first_) (sym second_is) (noted_left first_ second_.calls second_.runs f calls_at (λ j d. notes_by (j == n) d)))

  pub readers_later : (l : Link) (readers : List TagReader) → SeesReaders l at_once readers → SeesReaders l later readers
  readers_later l readers is =
      subst (λ (q : Seen). SeesReaders l q readers) (sym second_is)
      (readers_left first_ second_.calls second_.runs f calls_at (λ j d. notes_by (j == n) d) l readers (subst (λ (q : Seen). SeesReaders l q readers) first_is is))
