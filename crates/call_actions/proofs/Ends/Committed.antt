-- The committed attempt of a call ends, and by it its call.
use Rattle.std.proofs.Common.{◌≡◌, ◌+◌, ◌∷◌, ◌++◌, ◌&&◌, ◌==◌, not, ap, refl, subst, sym, ◌∙◌, Bool, true, false, [], Option, None, Some, ℕ, if◌then◌else◌, is_none, is_some, map, option_map}
use Rattle.std.proofs.lemmas.Bool.{and_left, and_right, or_right}
use Rattle.std.specs.List.{list_any}
use Rattle.std.specs.Option.{option_map_or}
use Rattle.attempt_ledger.specs.Ends.{delay_of}
use Rattle.attempt_ledger.specs.Throttling.{codes_of}
use Rattle.attempt_ledger.specs.declared.ledger.CallEnd.{CallEnd}
use Rattle.attempt_ledger.specs.declared.row.RowEnd.{RowEnd}
use Rattle.call_actions.proofs.Closing.{quiet_calls_end}
use Rattle.call_actions.proofs.Ends.Frames as ending
use Rattle.call_actions.proofs.Ends.Frames.{AreLike, with_end_at}
use Rattle.call_actions.proofs.Ends.Rows as endrows
use Rattle.call_actions.proofs.Ends.Tokens.{bucket_now, run_now}
use Rattle.call_actions.proofs.Ending.{base, counted_is, d, due_then, e, ends, is_ended, its_call, its_end, its_place, lent_then, like_then, marks_then, order_so, rest_is, runs, t, tokens_same, reported}
use Rattle.call_actions.proofs.Frames as frames
use Rattle.call_actions.proofs.Lists.{changed_here, filter_none}
use Rattle.call_actions.specs.Laws.{CommittedEndsClose, IsCounting, IsEnding, news_of}
use Rattle.call_actions.specs.Order.{IsInOrder, IsInTurn, Keeps, is_retried}
use Rattle.call_actions.specs.Sees.{AttemptsAgree, DuesAgree, Sees, bucket_of, is_live, live_row}
use Rattle.call_core.specs.Parts as parts
use Rattle.call_core.specs.Parts.{without}
use Rattle.call_core.specs.Steps as steps
use Rattle.call_core.specs.Steps.{Stepped, row_ended}
use Rattle.grpc_base.specs.Codes.{has_code}
use Rattle.grpc_base.specs.declared.event.EndCause.{EndCause}
use Rattle.grpc_base.specs.declared.event.EndCause.TheVariants as endcause
use Rattle.ledger_stamps.specs.Steps as stamps
use Rattle.session_actions.specs.AttemptEnds.{attempt_ended, is_drawing, tokens_at, will_count}
use Rattle.session_actions.specs.Attempts.{commitment}
use Rattle.session_actions.specs.CallEnds.{call_ended}
use Rattle.session_actions.specs.Configs.{plan_of}
use Rattle.session_actions.specs.DueAttempts.{due_by_plan, due_state, is_licensed}
use Rattle.session_actions.specs.Entries.{last_moment, next_word, now}
use Rattle.session_actions.specs.Tokens.{run_of}
use Rattle.session_actions.specs.Words.{holds}
use Rattle.session_actions.specs.declared.attempt.Attempt.{Attempt}
use Rattle.session_actions.specs.declared.call.Call.{Call}
use Rattle.session_actions.specs.declared.call.Mark.{Mark}
use Rattle.session_actions.specs.declared.due.DueState.{DueState}
use Rattle.session_actions.specs.declared.entry.OpenEntry.{OpenEntry}
use Rattle.session_actions.specs.declared.response.Outcome.{Outcome}
use Rattle.session_actions.specs.declared.seen.Seen.{Seen}

-- the moment is that of the entry, whatever was drawn
pub moment_by : (o : Option OpenEntry) (draws last : ℕ)
    → option_map_or (λ (q : OpenEntry). q.moment) (option_map (λ (q : OpenEntry). record q { drawn = q.drawn + draws }) o) last ≡ option_map_or (λ (q : OpenEntry). q.moment) o last
moment_by None draws last = refl
moment_by (Some q) draws last = refl

module _ (s : Seen) (c : Call) (x : Stepped) (place : ℕ) (a k : Attempt) (out : Outcome) (h : Sees s c x) (o : IsInOrder s c) (turn : IsInTurn s c)
    (g : IsEnding s c place a out) (n : IsCounting s c out) (committed : commitment c s ≡ Some k)
    (others : list_any (λ (q : Attempt). is_live s c q && not (q.place == place)) s.attempts ≡ false) where
  abbrev its : RowEnd
  its = e s c x place a out h o turn g n

  abbrev there : RowEnd
  there = its_end s c x place a out h o turn g n

  abbrev lent : Stepped
  lent = reported s c x place a out h o turn g n

  abbrev put : Attempt → Attempt
  put q = with_end_at place its q

  abbrev then_base : Seen
  then_base = base s c x place a out h o turn g n

  abbrev then_seen : Seen
  then_seen = t s c x place a out h o turn g n

  abbrev then_call : Call
  then_call = d s c x place a out h o turn g n

  stopped : (due_state c s).stopped ≡ true
  stopped = o.stops (or_right (is_some c.end) (is_some (commitment c s)) (ap (λ (z : Option Attempt). is_some z) committed))

  abbrev m : DueState
  m = marks_then s c x place a out h o turn g n

  like : AreLike (is_retried (plan_of c s)) m (due_state c s)
  like = like_then s c x place a out h o turn g n

  due_is : due_state then_call then_seen ≡ m
  due_is =
      due_then s c x place a out h o turn g n
      ∙ ap (λ (b : Bool). if not b && true && has_code (codes_of (plan_of c s)) out.code then due_by_plan (plan_of c s) c (put a) then_base m its else m) (like.stopped ∙ stopped)

  -- no word is drawn
  drawing : holds (is_drawing a out s) (Some c) ≡ false
  drawing =
      and_left (will_count a out s && is_none (commitment c s) && is_none (delay_of out.pushback)) (is_licensed c a.row.number out.code out.pushback (tokens_at a out s c) s)
      (and_left (will_count a out s && is_none (commitment c s)) (is_none (delay_of out.pushback))
      (and_right (will_count a out s) (is_none (commitment c s)) (ap (λ (z : Option Attempt). is_none z) committed)))

  word_none : its.word ≡ None
  word_none =
      ap (λ (z : Option Call). if holds (is_drawing a out s) z then Some (next_word s) else None) (its_call s c x place a out h o turn g n)
      ∙ ap (λ (b : Bool). if b then Some (next_word s) else None) drawing

  abbrev stamp : ℕ → Option ℕ → Option ℕ → RowEnd
  stamp at tokens word = record there { entry = at; tokens = tokens; word = word }

  same_end : its ≡ there
  same_end =
      ap (λ (z : ℕ). stamp z its.tokens its.word) h.entry_is
      ∙ ap (λ (z : Option ℕ). stamp x.ledger.entry z its.word) (tokens_same s c x place a out h o turn g n)
      ∙ ap (stamp x.ledger.entry (parts.count_of lent.tokens)) word_none

  -- the channel, before the call ends
  abbrev after : Stepped
  after = row_ended a.place there lent

  taken_up : x.call.attempts.committed ≡ None → ⊥
  taken_up free =
      let both : Some k.place ≡ None = ap (option_map (λ (q : Attempt). q.place)) (sym committed) ∙ h.attempts.committed ∙ free in absurd (cc)

  attempts_now : AttemptsAgree then_seen then_call x.call.attempts
  attempts_now =
      let was : AttemptsAgree s c x.call.attempts = h.attempts in
      record {
        sent = ending.made_same s c place a its (runs s c x place a out h o turn g n) (ends s c x place a out h o turn g n) ∙ was.sent;
        due = subst (λ (z : DueState). DuesAgree z x.call.attempts) (sym due_is)
            (record {
              newest = like.newest ∙ was.due.newest;
              placed = like.placed ∙ was.due.placed;
              stopped = like.stopped ∙ was.due.stopped;
              forced = λ z. (let both : true ≡ false = sym stopped ∙ was.due.stopped ∙ z in absurd (cc));
            });
        unplaced = was.unplaced;
        delayed = λ keeps free. absurd (taken_up free);
        last = λ free. absurd (taken_up free);
        refused = endrows.refused_then s c x place a its (runs s c x place a out h o turn g n) h o (ends s c x place a out h o turn g n) g.own;
        committed = endrows.committed_then s c x place a its (runs s c x place a out h o turn g n) h o (ends s c x place a out h o turn g n) g.own;
      }

  abbrev w : Mark
  w = endrows.w s c x place a its (runs s c x place a out h o turn g n) h o (ends s c x place a out h o turn g n) g.own

  sees_now : Sees then_seen then_call after
  sees_now = record {
    own = changed_here (λ (q : Call). record q { marks = q.marks ++ w ∷ [] }) c.number s.calls c h.own;
    number_is = h.number_is;
    request = h.request;
    begun = h.begun;
    chosen = h.chosen;
    finished = h.finished;
    longest_is = h.longest_is;
    ended = h.ended;
    attempts = attempts_now;
    live = endrows.live_then s c x place a its (runs s c x place a out h o turn g n) h o (ends s c x place a out h o turn g n) g.own
        ∙ ap (λ (p : ℕ). without p x.call.live) (sym (its_place s c x place a out h o turn g n));
    tokens = frames.bucket_reported then_base c.number (λ q. q.messages) (λ q. q.finished) (λ q. q.taken) (λ q. q.end_taken) (λ q. q.marks ++ w ∷ []) (λ q. q.end)
        (endrows.now_open s c x place a its (runs s c x place a out h o turn g n) h o (ends s c x place a out h o turn g n) g.own) (run_of c then_base)
        ∙ ap (option_map (bucket_of then_base)) (run_now place c s)
        ∙ bucket_now s c place a its (runs s c x place a out h o turn g n) (ends s c x place a out h o turn g n) (its_call s c x place a out h o turn g n) (run_of c s) refl turn.counted
        ∙ sym (lent_then s c x place a out h o turn g n);
    entry_is = endrows.entry_then s c x place a its (runs s c x place a out h o turn g n) h o (ends s c x place a out h o turn g n) g.own;
    rows = endrows.rows_then s c x place a its (runs s c x place a out h o turn g n) h o (ends s c x place a out h o turn g n) g.own
        ∙ ap (λ (z : RowEnd). stamps.changed_at (stamps.ended_row z) x.ledger.rows place) same_end
        ∙ ap (λ (p : ℕ). stamps.changed_at (stamps.ended_row there) x.ledger.rows p) (sym (its_place s c x place a out h o turn g n));
    call_is = endrows.call_then s c x place a its (runs s c x place a out h o turn g n) h o (ends s c x place a out h o turn g n) g.own;
  }

  order_now : IsInOrder then_seen then_call
  order_now =
      order_so s c x place a out h o turn g n (ap (λ (z : DueState). z.newest) due_is) (λ z. ap (λ (q : DueState). q.stopped) due_is ∙ like.stopped ∙ stopped)

  none_left : after.call.live ≡ []
  none_left =
      sym (rest_is s c x place a out h o turn g n)
      ∙ ap (map live_row)
      (filter_none (λ (q : Attempt). is_live s c q && not (q.place == place)) (λ (q : Attempt). is_live s c q && not (q.place == place)) (λ q z. z) s.attempts others)

  open_now : after.call.ended ≡ None
  open_now = sym h.ended ∙ ap (option_map (λ (q : CallEnd). q.cause)) n.goes_on

  now_same : now then_seen ≡ now s
  now_same = moment_by s.current (if is_some its.word then 1 else 0) (last_moment s)

  channel : steps.ended_at place (news_of a out s) (now s) (next_word s) x ≡ steps.closed_by endcause.Row (now then_seen) after
  channel =
      counted_is s c x place a out h o turn g n
      ∙ ap (λ (z : Option ℕ). if is_some z then steps.ended_as endcause.Row (now s) after else steps.counted_free (live_row a) there (now s) (next_word s) lent)
      (sym h.attempts.committed ∙ ap (option_map (λ (q : Attempt). q.place)) committed)
      ∙ ap (λ (z : ℕ). steps.ended_as endcause.Row z after) (sym now_same)
      ∙ sym (ap (λ (z : Option EndCause). steps.ended_if (not (is_some z)) endcause.Row (now then_seen) after) open_now)

  pub closes_by_row : Keeps (call_ended c.number endcause.Row (attempt_ended place its s)) c.number
      (steps.ended_at place (news_of a out s) (now s) (next_word s) x)
  closes_by_row =
      subst (λ (z : Seen). Keeps (call_ended c.number endcause.Row z) c.number (steps.ended_at place (news_of a out s) (now s) (next_word s) x))
      (sym (is_ended s c x place a out h o turn g n))
      (subst (λ (y : Stepped). Keeps (call_ended c.number endcause.Row then_seen) c.number y) (sym channel)
      (quiet_calls_end then_seen then_call after endcause.Row sees_now order_now n.goes_on none_left))

pub committed_ends_close : CommittedEndsClose
committed_ends_close s c x place a k out h o turn g n committed others = closes_by_row s c x place a k out h o turn g n committed others
