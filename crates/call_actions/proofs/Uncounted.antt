-- An attempt ends, and its end does not count: it is cut off, or a transparent retry is to follow it.
use Rattle.std.proofs.Common.{◌≡◌, ◌∷◌, ◌++◌, ◌&&◌, not, ap, refl, subst, sym, ◌∙◌, Bool, true, false, List, [], Option, None, Some, ℕ, if◌then◌else◌, is_none, option_map}
use Rattle.std.proofs.lemmas.Bool.{and_right}
use Rattle.std.proofs.lemmas.List.{append-nil}
use Rattle.std.proofs.lemmas.List.Elements.{filter_map-append}
use Rattle.std.specs.Option.{option_map_or}
use Rattle.std.specs.Prelude.{filter_map, option_and_then}
use Rattle.attempt_buffer.specs.Buffers.{Buffered}
use Rattle.attempt_ledger.specs.Ends.{delay_of, is_cut}
use Rattle.attempt_ledger.specs.Throttling.{codes_of}
use Rattle.attempt_ledger.specs.declared.row.RowEnd.{RowEnd}
use Rattle.call_actions.proofs.Delays.{not_counted}
use Rattle.call_actions.proofs.Ends.Frames as ending
use Rattle.call_actions.proofs.Ends.Frames.{AreLike, Ends, with_end_at}
use Rattle.call_actions.proofs.Ends.Rows as endrows
use Rattle.call_actions.proofs.Ends.Rows.{and_yes}
use Rattle.call_actions.proofs.Ends.Tokens.{bucket_stays, run_number}
use Rattle.call_actions.proofs.Frames as frames
use Rattle.call_actions.proofs.Judging.{count_is}
use Rattle.call_actions.proofs.Lists.{changed_here, numbered_not}
use Rattle.call_actions.proofs.Ranks.{numbered_map}
use Rattle.call_actions.specs.Order.{IsInOrder, IsInTurn, goes_on_followed}
use Rattle.call_actions.specs.Sees.{AttemptsAgree, DuesAgree, Sees}
use Rattle.call_core.specs.Parts as parts
use Rattle.call_core.specs.Parts.{without}
use Rattle.call_core.specs.Steps.{Stepped}
use Rattle.call_core.specs.declared.act.CallAct.{CallAct}
use Rattle.grpc_base.specs.Codes.{has_code}
use Rattle.ledger_stamps.specs.Steps as stamps
use Rattle.session_actions.specs.AttemptEnds.{attempt_ended, end_of, is_drawing, tokens_at, will_count, with_end_in_run}
use Rattle.session_actions.specs.Attempts.{call_of, commitment, counts_by, is_counted, is_followed, is_of, is_to_follow}
use Rattle.session_actions.specs.Configs.{plan_of}
use Rattle.session_actions.specs.DueAttempts.{counted_row, due_by_plan, due_state, is_licensed, last_counted}
use Rattle.session_actions.specs.Entries.{next_word}
use Rattle.session_actions.specs.Tokens.{run_of, tokens_after, tokens_in}
use Rattle.session_actions.specs.Words.{changed, holds, last_of, numbered}
use Rattle.session_actions.specs.declared.attempt.Attempt.{Attempt}
use Rattle.session_actions.specs.declared.call.Call.{Call}
use Rattle.session_actions.specs.declared.call.Mark.{Mark}
use Rattle.session_actions.specs.declared.config.ThrottleRun.{ThrottleRun}
use Rattle.session_actions.specs.declared.due.DueState.{DueState}
use Rattle.session_actions.specs.declared.response.Outcome.{Outcome}
use Rattle.session_actions.specs.declared.seen.Seen.{Seen}

-- the channel without an attempt, whose row ended so
abbrev pub gone : Buffered → List CallAct → ℕ → RowEnd → Stepped → Stepped
gone buffer acts place e x = record {
  call = record x.call { live = without place x.call.live; buffer = buffer };
  ledger = record x.ledger { rows = stamps.changed_at (stamps.ended_row e) x.ledger.rows place };
  tokens = x.tokens;
  acts = acts;
}

uncounted_by : (cut followed wants : Bool) → followed ≡ false → (not cut && not wants) ≡ false → (not cut && not followed && not (not followed && wants)) ≡ false
uncounted_by cut true wants one two = absurd (cc)
uncounted_by true false wants one two = refl
uncounted_by false false true one two = refl
uncounted_by false false false one two = absurd (cc)

module _ (s : Seen) (c : Call) (x : Stepped) (place : ℕ) (a : Attempt) (out : Outcome) (h : Sees s c x) (o : IsInOrder s c) (turn : IsInTurn s c)
    (got : numbered s.attempts place ≡ Some a) (own : is_of c a ≡ true) (unended : a.row.ended ≡ None)
    (quiet : (not (is_cut out.cause) && not (is_to_follow c out.cause out.unseen s)) ≡ false) where
  abbrev pub e : RowEnd
  e = end_of a out s

  abbrev put : Attempt → Attempt
  put q = with_end_at place e q

  pub unfollowed : is_followed a s ≡ false
  unfollowed =
      let two : (is_of c a && is_none a.row.ended && is_followed a s) ≡ is_followed a s
      = ap (λ (b : Bool). b && is_none a.row.ended && is_followed a s) own ∙ ap (λ (z : Option RowEnd). is_none z && is_followed a s) unended in
      sym two ∙ numbered_not (goes_on_followed s c) s.attempts place a turn.unfollowed got

  pub ends : Ends s c place a s.runs
  ends = record { places = o.places; got = got; unended = unended; unfollowed = unfollowed; throttle = refl }

  pub its_call : numbered s.calls a.row.call ≡ Some c
  its_call = endrows.its_call s c x place a e s.runs h o ends own

  abbrev w : Mark
  w = endrows.w s c x place a e s.runs h o ends own

  abbrev pub d : Call
  d = endrows.d s c x place a e s.runs h o ends own

  abbrev pub base : Seen
  base = endrows.base s c x place a e s.runs h o ends own

  abbrev pub t : Seen
  t = endrows.t s c x place a e s.runs h o ends own

  in_run : option_map_or (with_end_in_run a e s) (call_of a s) s ≡ s
  in_run =
      ap (λ (z : Option Call). option_map_or (with_end_in_run a e s) z s) its_call
      ∙ ap (λ (b : Bool). if b then option_map_or (λ (run : ℕ). record s { runs = changed (λ (u : ThrottleRun). record u { ends = u.ends ++ a.place ∷ [] }) run s.runs }) (run_number c s) s else s) quiet

  pub is_ended : attempt_ended place e s ≡ t
  is_ended = endrows.is_ended s c x place a e s.runs h o ends own in_run

  will_not : will_count a out s ≡ false
  will_not =
      ap (λ (z : Option Call). not (is_cut out.cause) && not (holds (λ (k : Call). is_to_follow k out.cause out.unseen s) z)) its_call ∙ quiet

  counts_before : counts_by a s e ≡ false
  counts_before =
      ap (λ (z : Option Call). not (is_cut out.cause) && not (is_followed a s) && not (not (is_followed a s) && holds (λ (k : Call). is_to_follow k out.cause out.unseen s) z)) its_call
      ∙ uncounted_by (is_cut out.cause) (is_followed a s) (is_to_follow c out.cause out.unseen s) unfollowed quiet

  pub counts_not : counts_by (put a) base e ≡ false
  counts_not = ending.counts_same s c place a e s.runs ends a e ∙ counts_before

  abbrev m : DueState
  m = endrows.marks_then s c x place a e s.runs h o ends own

  like : AreLike false m (due_state c s)
  like = endrows.like_so s c x place a e s.runs h o ends own false (λ no yes n. not_counted s c place a e s.runs ends n counts_not)

  due_is : due_state d t ≡ m
  due_is =
      endrows.due_then s c x place a e s.runs h o ends own
      ∙ ap (λ (b : Bool). if not m.stopped && b && has_code (codes_of (plan_of c s)) e.code then due_by_plan (plan_of c s) c (put a) base m e else m) counts_not
      ∙ ap (λ (b : Bool). if b && has_code (codes_of (plan_of c s)) e.code then due_by_plan (plan_of c s) c (put a) base m e else m) (and_right (not m.stopped) false refl)

  counted_not : holds (λ (q : Attempt). is_counted q t) (numbered t.attempts place) ≡ false
  counted_not =
      ap (holds (λ (q : Attempt). is_counted q t)) (numbered_map put s.attempts place ∙ ap (option_map put) got)
      ∙ ap (holds (counts_by (put a) t)) (ending.end_here s c place a e s.runs ends)
      ∙ frames.counts_same base c.number (λ k. k.messages) (λ k. k.finished) (λ k. k.taken) (λ k. k.end_taken) (λ k. k.marks ++ w ∷ []) (λ k. k.end)
      (endrows.now_open s c x place a e s.runs h o ends own) (put a) e ∙ counts_not

  rows_now : last_counted d t ≡ last_counted c s
  rows_now =
      ap last_of
      (filter_map-append (λ (k : Mark). counted_row t k.what) c.marks (w ∷ [])
      ∙ ap (λ (b : Bool). filter_map (λ (k : Mark). counted_row t k.what) c.marks ++ filter_map (λ (r : Option ℕ). r) ((if b then Some place else None) ∷ [])) counted_not
      ∙ append-nil (filter_map (λ (k : Mark). counted_row t k.what) c.marks)
      ∙ frames.counted_rows_same base c.number (λ k. k.messages) (λ k. k.finished) (λ k. k.taken) (λ k. k.end_taken) (λ k. k.marks ++ w ∷ []) (λ k. k.end)
      (endrows.now_open s c x place a e s.runs h o ends own) c.marks
      ∙ ending.counted_rows_same s c place a e s.runs ends c.marks o.marks)

  attempts_now : AttemptsAgree t d x.call.attempts
  attempts_now =
      let k : AttemptsAgree s c x.call.attempts = h.attempts in
      record {
        sent = ending.made_same s c place a e s.runs ends ∙ k.sent;
        due = subst (λ (z : DueState). DuesAgree z x.call.attempts) (sym due_is)
            (record {
              newest = like.newest ∙ k.due.newest;
              placed = like.placed ∙ k.due.placed;
              stopped = like.stopped ∙ k.due.stopped;
              forced = λ z. like.forced refl ∙ k.due.forced z;
            });
        unplaced = k.unplaced;
        delayed = λ keeps free.
            frames.delayed_same base c.number (λ k. k.messages) (λ k. k.finished) (λ k. k.taken) (λ k. k.end_taken) (λ k. k.marks ++ w ∷ []) (λ k. k.end)
            (endrows.now_open s c x place a e s.runs h o ends own) c x.call.attempts.sent
            ∙ not_counted s c place a e s.runs ends x.call.attempts.sent counts_not ∙ k.delayed keeps free;
        last = λ free. rows_now ∙ k.last free;
        refused = endrows.refused_then s c x place a e s.runs h o ends own;
        committed = endrows.committed_then s c x place a e s.runs h o ends own;
      }

  -- no word is drawn, and no token is taken
  pub word_none : e.word ≡ None
  word_none =
      ap (λ (z : Option Call). if holds (is_drawing a out s) z then Some (next_word s) else None) its_call
      ∙ ap (λ (b : Bool). if b && is_none (commitment c s) && is_none (delay_of out.pushback) && is_licensed c a.row.number out.code out.pushback (tokens_at a out s c) s then Some (next_word s) else None)
      will_not

  pub tokens_same : e.tokens ≡ parts.count_of x.tokens
  tokens_same =
      ap (option_and_then (tokens_at a out s)) its_call
      ∙ ap (λ (b : Bool). option_map (λ (u : ThrottleRun). if b then tokens_after u.throttle (plan_of c s) out.code out.pushback (tokens_in u s) else tokens_in u s) (run_of c s)) will_not
      ∙ sym (count_is (λ (u : ThrottleRun). tokens_in u s) (run_of c s)) ∙ ap parts.count_of h.tokens

  pub sees_now : (buffer : Buffered) (acts : List CallAct) → Sees t d (gone buffer acts place e x)
  sees_now buffer acts = record {
    own = changed_here (λ (k : Call). record k { marks = k.marks ++ w ∷ [] }) c.number s.calls c h.own;
    number_is = h.number_is;
    request = h.request;
    begun = h.begun;
    chosen = h.chosen;
    finished = h.finished;
    longest_is = h.longest_is;
    ended = h.ended;
    attempts = attempts_now;
    live = endrows.live_then s c x place a e s.runs h o ends own;
    tokens = frames.bucket_reported base c.number (λ k. k.messages) (λ k. k.finished) (λ k. k.taken) (λ k. k.end_taken) (λ k. k.marks ++ w ∷ []) (λ k. k.end)
        (endrows.now_open s c x place a e s.runs h o ends own) (run_of c s)
        ∙ bucket_stays s c place a e s.runs ends its_call (run_of c s) refl turn.counted ∙ h.tokens;
    entry_is = endrows.entry_then s c x place a e s.runs h o ends own;
    rows = endrows.rows_then s c x place a e s.runs h o ends own;
    call_is = endrows.call_then s c x place a e s.runs h o ends own;
  }

  pub order_now : IsInOrder t d
  order_now =
      endrows.order_then s c x place a e s.runs h o ends own (ap (λ (z : DueState). z.newest) due_is)
      (λ z. ap (λ (k : DueState). k.stopped) due_is ∙ like.stopped ∙ o.stops z)
