-- An attempt ends and its end counts: what session and channel make of it, but for the moment of the next attempt.
use Rattle.std.proofs.Common.{◌≡◌, ◌∷◌, ◌++◌, ◌||◌, ◌&&◌, ◌==◌, not, ap, refl, sym, ◌∙◌, Bool, true, false, List, [], Option, None, Some, ℕ, filter, if◌then◌else◌, is_none, is_some, length-append, map, option_map}
use Rattle.std.proofs.lemmas.Bool.{and_right, or_from}
use Rattle.std.proofs.lemmas.List.Elements.{filter_map-append}
use Rattle.std.specs.Option.{option_map_or}
use Rattle.std.specs.Prelude.{filter_map, option_and_then}
use Rattle.a6_numbers.specs.Throttling.{Bucket}
use Rattle.attempt_ledger.specs.Ends.{is_cut}
use Rattle.attempt_ledger.specs.Throttling.{codes_of}
use Rattle.attempt_ledger.specs.declared.ledger.CallEnd.{CallEnd}
use Rattle.attempt_ledger.specs.declared.row.RowEnd.{RowEnd}
use Rattle.call_actions.proofs.Ends.Frames as ending
use Rattle.call_actions.proofs.Ends.Frames.{AreLike, Ends, ended_by, ended_seen, with_end_at}
use Rattle.call_actions.proofs.Ends.Rows as endrows
use Rattle.call_actions.proofs.Ends.Rows.{unended_by}
use Rattle.call_actions.proofs.Ends.Tokens.{bucket_now, run_now, run_number, runs_after, runs_now, throttle_now}
use Rattle.call_actions.proofs.Frames as frames
use Rattle.call_actions.proofs.Frames.{bucket_by}
use Rattle.call_actions.proofs.Judging.{count_is, follow_is, settled_is}
use Rattle.call_actions.proofs.Lists.{changed_here, numbered_last, numbered_not}
use Rattle.call_actions.proofs.Places.{found_live}
use Rattle.call_actions.proofs.Ranks.{numbered_map}
use Rattle.call_actions.proofs.Dues.{plan_is}
use Rattle.call_actions.specs.Laws.{IsCounting, IsEnding, news_of}
use Rattle.call_actions.specs.Order.{IsInOrder, IsInTurn, goes_on_followed, is_retried}
use Rattle.call_actions.specs.Sees.{AttemptsAgree, DuesAgree, KeepsDelay, Sees, bucket_of, is_live, live_row}
use Rattle.call_core.specs.Parts as parts
use Rattle.call_core.specs.Parts.{find_live, lasted_attempts, row_end, settled_tokens, without}
use Rattle.call_core.specs.Steps as steps
use Rattle.call_core.specs.Steps.{Stepped, call_plan, closed_if, ended_if_live, judged_of, left_live, settled, with_judged}
use Rattle.call_core.specs.declared.attempts.Attempts.{Attempts}
use Rattle.call_core.specs.declared.judge.Judged.{Judged}
use Rattle.call_core.specs.declared.live.LiveRow.{LiveRow}
use Rattle.grpc_base.specs.Codes.{has_code}
use Rattle.grpc_base.specs.declared.event.EndCause.TheVariants as endcause
use Rattle.grpc_base.specs.declared.plan.CallPlan.{CallPlan}
use Rattle.ledger_stamps.specs.Steps as stamps
use Rattle.session_actions.specs.AttemptEnds.{attempt_ended, end_of, tokens_at, will_count, with_end_in_run}
use Rattle.session_actions.specs.Attempts.{call_of, commitment, counts_by, is_counted, is_followed, is_of, is_over, is_to_follow, of_its_call, wants_follower_by, was_retried_so}
use Rattle.session_actions.specs.Configs.{plan_of}
use Rattle.session_actions.specs.DueAttempts.{counted_row, due_by_plan, due_state, last_counted, last_delayed}
use Rattle.session_actions.specs.Entries.{next_word, now}
use Rattle.session_actions.specs.Tokens.{run_of, tokens_after, tokens_in}
use Rattle.session_actions.specs.Words.{changed, holds, last_of, numbered}
use Rattle.session_actions.specs.declared.attempt.Attempt.{Attempt}
use Rattle.session_actions.specs.declared.call.Call.{Call}
use Rattle.session_actions.specs.declared.call.Mark.{Mark}
use Rattle.session_actions.specs.declared.config.ThrottleRun.{ThrottleRun}
use Rattle.session_actions.specs.declared.due.DueState.{DueState}
use Rattle.session_actions.specs.declared.response.Outcome.{Outcome}
use Rattle.session_actions.specs.declared.seen.Seen.{Seen}

none_of : {X : Type 0} (o : Option X) → is_none o ≡ true → o ≡ None
none_of None e = refl
none_of (Some x) e = absurd (cc)

-- the last of a list
last_more : (xs : List ℕ) (y : ℕ) → last_of (xs ++ y ∷ []) ≡ Some y
last_more xs y = ap (numbered (xs ++ y ∷ [])) (length-append xs (y ∷ [])) ∙ numbered_last xs y

-- its run
runs_are : (place : ℕ) (o : Option ℕ) (s : Seen)
    → option_map_or (λ (run : ℕ). record s { runs = changed (λ (u : ThrottleRun). record u { ends = u.ends ++ place ∷ [] }) run s.runs }) o s
    ≡ record s { runs = runs_after place o s.runs }
runs_are place None s = refl
runs_are place (Some run) s = refl

free_is : (o : Option Attempt) → is_none o ≡ not (is_some (option_map (λ (q : Attempt). q.place) o))
free_is None = refl
free_is (Some q) = refl

-- what the channel keeps of the other attempts
pub record KeepsRest (a b : Attempts) : Type 0 where
  pub sent : a.sent ≡ b.sent
  pub newest : a.newest ≡ b.newest
  pub placed : a.placed ≡ b.placed
  pub refused : a.is_refusal_followed ≡ b.is_refusal_followed
  pub committed : a.committed ≡ b.committed

module _ (s : Seen) (c : Call) (x : Stepped) (place : ℕ) (a : Attempt) (out : Outcome) (h : Sees s c x) (o : IsInOrder s c) (turn : IsInTurn s c)
    (g : IsEnding s c place a out) (n : IsCounting s c out) where
  abbrev pub e : RowEnd
  e = end_of a out s

  abbrev pub runs : List ThrottleRun
  runs = runs_now place c s

  abbrev put : Attempt → Attempt
  put q = with_end_at place e q

  pub unended : a.row.ended ≡ None
  unended = none_of a.row.ended (unended_by (is_of c a) (is_some a.row.placed) (is_none a.row.placed) (is_none a.row.ended) (is_over a s) g.lives)

  unfollowed : is_followed a s ≡ false
  unfollowed =
      let two : (is_of c a && is_none a.row.ended && is_followed a s) ≡ is_followed a s
      = ap (λ (b : Bool). b && is_none a.row.ended && is_followed a s) g.own ∙ ap (λ (z : Option RowEnd). is_none z && is_followed a s) unended in
      sym two ∙ numbered_not (goes_on_followed s c) s.attempts place a turn.unfollowed g.there

  pub ends : Ends s c place a runs
  ends = record { places = o.places; got = g.there; unended = unended; unfollowed = unfollowed; throttle = throttle_now place c s }

  pub its_place : a.place ≡ place
  its_place = endrows.its_place s c x place a e runs h o ends g.own

  pub its_call : numbered s.calls a.row.call ≡ Some c
  its_call = endrows.its_call s c x place a e runs h o ends g.own

  -- what the session then is
  abbrev pub d : Call
  d = endrows.d s c x place a e runs h o ends g.own

  abbrev pub base : Seen
  base = endrows.base s c x place a e runs h o ends g.own

  abbrev pub t : Seen
  t = endrows.t s c x place a e runs h o ends g.own

  counts_here : (not (is_cut out.cause) && not (is_to_follow c out.cause out.unseen s)) ≡ true
  counts_here =
      ap (λ (b : Bool). not b && not (is_to_follow c out.cause out.unseen s)) g.uncut ∙ ap (λ (b : Bool). not b) n.alone

  in_run : option_map_or (with_end_in_run a e s) (call_of a s) s ≡ record s { runs = runs }
  in_run =
      ap (λ (z : Option Call). option_map_or (with_end_in_run a e s) z s) its_call
      ∙ ap (λ (b : Bool). if b then option_map_or (λ (run : ℕ). record s { runs = changed (λ (u : ThrottleRun). record u { ends = u.ends ++ a.place ∷ [] }) run s.runs }) (run_number c s) s else s)
      counts_here
      ∙ runs_are a.place (run_number c s) s ∙ ap (λ (p : ℕ). record s { runs = runs_after p (run_number c s) s.runs }) its_place

  pub is_ended : attempt_ended place e s ≡ t
  is_ended = endrows.is_ended s c x place a e runs h o ends g.own in_run

  -- its end counts
  pub will : will_count a out s ≡ true
  will =
      ap (λ (z : Option Call). not (is_cut out.cause) && not (holds (λ (k : Call). is_to_follow k out.cause out.unseen s) z)) its_call ∙ counts_here

  wants_not : wants_follower_by a s e ≡ false
  wants_not =
      and_right (not (is_followed a s)) (of_its_call (λ (k : Call). is_to_follow k out.cause out.unseen s) a s)
      (ap (holds (λ (k : Call). is_to_follow k out.cause out.unseen s)) its_call ∙ n.alone)

  pub counts_now : counts_by (put a) base e ≡ true
  counts_now =
      ending.counts_same s c place a e runs ends a e
      ∙ ap (λ (b : Bool). not (is_cut out.cause) && not (is_followed a s) && not b) wants_not
      ∙ ap (λ (b : Bool). not (is_cut out.cause) && not b && true) unfollowed ∙ ap (λ (b : Bool). not b && true && true) g.uncut

  -- the tokens
  abbrev pub count_then : ThrottleRun → ℕ
  count_then u = tokens_after u.throttle (plan_of c s) out.code out.pushback (tokens_in u s)

  pub tokens_end : e.tokens ≡ option_map count_then (run_of c s)
  tokens_end =
      ap (option_and_then (tokens_at a out s)) its_call
      ∙ ap (λ (b : Bool). option_map (λ (u : ThrottleRun). if b then count_then u else tokens_in u s) (run_of c s)) will

  settle_all : (r : Option ThrottleRun) → settled_tokens out.code out.pushback (parts.is_in_set (plan_of c s) out.code) (option_map (bucket_of s) r)
      ≡ option_map (λ (u : ThrottleRun). bucket_by u (count_then u)) r
  settle_all None = refl
  settle_all (Some u) = ap (λ (b : Bucket). Some b) (settled_is u (tokens_in u s) (plan_of c s) out.code out.pushback)

  -- what the channel makes of it
  abbrev pub reported : Stepped
  reported = settled (news_of a out s) (left_live a.place x)

  abbrev pub its_end : RowEnd
  its_end = row_end (news_of a out s) x.ledger.entry (now s) (parts.count_of reported.tokens)

  abbrev pub judges : Judged
  judges = judged_of (live_row a) its_end (next_word s) reported.call reported.tokens

  pub lent_then : reported.tokens ≡ option_map (λ (u : ThrottleRun). bucket_by u (count_then u)) (run_of c s)
  lent_then =
      ap (settled_tokens out.code out.pushback (parts.is_in_set (call_plan x.call) out.code)) (sym h.tokens)
      ∙ ap (λ (p : CallPlan). settled_tokens out.code out.pushback (parts.is_in_set p out.code) (option_map (bucket_of s) (run_of c s))) (sym (plan_is s c x h))
      ∙ settle_all (run_of c s)

  pub tokens_same : e.tokens ≡ parts.count_of reported.tokens
  tokens_same = tokens_end ∙ sym (ap parts.count_of lent_then ∙ count_is count_then (run_of c s))

  abbrev stamp : ℕ → Option ℕ → Option ℕ → RowEnd
  stamp at tokens word = record its_end { entry = at; tokens = tokens; word = word }

  not_followed : parts.is_followed x.call.attempts out.cause out.unseen ≡ false
  not_followed =
      ap (λ (b : Bool). parts.is_unsent out.cause || (parts.is_refusal out.cause && out.unseen && not (is_some x.call.attempts.committed) && not b)) (sym h.attempts.refused)
      ∙ ap (λ (z : Option ℕ). parts.is_unsent out.cause || (parts.is_refusal out.cause && out.unseen && not (is_some z) && not (was_retried_so c s))) (sym h.attempts.committed)
      ∙ ap (λ (b : Bool). parts.is_unsent out.cause || (parts.is_refusal out.cause && out.unseen && b && not (was_retried_so c s))) (sym (free_is (commitment c s)))
      ∙ sym (follow_is out.cause out.unseen (is_none (commitment c s)) (was_retried_so c s)) ∙ n.alone

  found : find_live place x.call.live ≡ Some (live_row a)
  found = ap (find_live place) (sym h.live) ∙ found_live (is_live s c) place a g.lives s.attempts o.places g.there

  pub free_then : commitment c s ≡ None → x.call.attempts.committed ≡ None
  free_then free = sym h.attempts.committed ∙ ap (option_map (λ (q : Attempt). q.place)) free

  abbrev pub after : Stepped
  after = with_judged (live_row a) its_end judges reported

  abbrev by_commitment : Option ℕ → Stepped
  by_commitment k =
      if is_some k then steps.ended_as endcause.Row (now s) (steps.row_ended a.place its_end reported)
      else steps.counted_free (live_row a) its_end (now s) (next_word s) reported

  pub counted_is : steps.ended_at place (news_of a out s) (now s) (next_word s) x ≡ by_commitment x.call.attempts.committed
  counted_is =
      ap (λ (r : Option LiveRow). ended_if_live r (news_of a out s) (now s) (next_word s) x) found
      ∙ ap (λ (b : Bool). if b then steps.followed (live_row a) (news_of a out s) (now s) (left_live a.place x) else steps.counted (live_row a) (news_of a out s) (now s) (next_word s) reported) not_followed

  pub channel_is : commitment c s ≡ None → steps.ended_at place (news_of a out s) (now s) (next_word s) x ≡ closed_if judges.closes a.place (now s) after
  channel_is free = counted_is ∙ ap by_commitment (free_then free)

  -- when the next attempt is due
  abbrev pub marks_then : DueState
  marks_then = endrows.marks_then s c x place a e runs h o ends g.own

  pub due_then : due_state d t ≡ (if not marks_then.stopped && true && has_code (codes_of (plan_of c s)) out.code then due_by_plan (plan_of c s) c (put a) base marks_then e else marks_then)
  due_then =
      endrows.due_then s c x place a e runs h o ends g.own
      ∙ ap (λ (b : Bool). if not marks_then.stopped && b && has_code (codes_of (plan_of c s)) out.code then due_by_plan (plan_of c s) c (put a) base marks_then e else marks_then) counts_now

  pub like_then : AreLike (is_retried (plan_of c s)) marks_then (due_state c s)
  like_then = endrows.like_then s c x place a e runs h o ends g.own

  abbrev w : Mark
  w = endrows.w s c x place a e runs h o ends g.own

  -- which end counted last
  counted_here : holds (λ (q : Attempt). is_counted q t) (numbered t.attempts place) ≡ true
  counted_here =
      ap (holds (λ (q : Attempt). is_counted q t)) (numbered_map put s.attempts place ∙ ap (option_map put) g.there)
      ∙ ap (holds (counts_by (put a) t)) (ending.end_here s c place a e runs ends)
      ∙ frames.counts_same base c.number (λ k. k.messages) (λ k. k.finished) (λ k. k.taken) (λ k. k.end_taken) (λ k. k.marks ++ w ∷ []) (λ k. k.end) (endrows.now_open s c x place a e runs h o ends g.own) (put a) e ∙ counts_now

  pub last_then : last_counted d t ≡ Some place
  last_then =
      ap last_of
      (filter_map-append (λ (m : Mark). counted_row t m.what) c.marks (w ∷ [])
      ∙ ap (λ (b : Bool). filter_map (λ (m : Mark). counted_row t m.what) c.marks ++ filter_map (λ (r : Option ℕ). r) ((if b then Some place else None) ∷ [])) counted_here)
      ∙ last_more (filter_map (λ (m : Mark). counted_row t m.what) c.marks) place

  pub rest_is : map live_row (filter (λ (q : Attempt). is_live s c q && not (q.place == place)) s.attempts) ≡ without a.place x.call.live
  rest_is = endrows.rest_is s c x place a e runs h o ends g.own ∙ ap (λ (p : ℕ). without p x.call.live) (sym its_place)

  pub order_so : (due_state d t).newest ≡ marks_then.newest → ((is_some c.end || is_some (commitment c s)) ≡ true → (due_state d t).stopped ≡ true) → IsInOrder t d
  order_so newest stops = endrows.order_then s c x place a e runs h o ends g.own newest stops

  pub order_then : commitment c s ≡ None → (due_state d t).newest ≡ marks_then.newest → IsInOrder t d
  order_then free newest =
      order_so newest
      (λ z. (let both : true ≡ false
      = sym z ∙ or_from (is_some c.end) (is_some (commitment c s)) (ap (λ (k : Option CallEnd). is_some k) n.goes_on) (ap (λ (k : Option Attempt). is_some k) free) in absurd (cc)))

  -- with what the channel keeps of the next attempt
  module _ (kept : KeepsRest judges.attempts x.call.attempts) (due : DuesAgree (due_state d t) judges.attempts)
      (delayed : KeepsDelay c.config (plan_of c s) → last_delayed c x.call.attempts.sent base ≡ judges.attempts.delayed) (word : e.word ≡ judges.word) where
    same_end : e ≡ record its_end { word = judges.word }
    same_end =
        ap (λ (k : ℕ). stamp k e.tokens e.word) h.entry_is ∙ ap (λ (k : Option ℕ). stamp x.ledger.entry k e.word) tokens_same
        ∙ ap (λ (k : Option ℕ). stamp x.ledger.entry (parts.count_of reported.tokens) k) word

    attempts_then : AttemptsAgree t d (lasted_attempts a.place judges.attempts)
    attempts_then = record {
      sent = ending.made_same s c place a e runs ends ∙ h.attempts.sent ∙ sym kept.sent;
      due = record { newest = due.newest; placed = due.placed; stopped = due.stopped; forced = due.forced };
      unplaced = λ z. kept.placed ∙ h.attempts.unplaced (sym kept.sent ∙ z);
      delayed = λ keeps free.
          frames.delayed_same base c.number (λ k. k.messages) (λ k. k.finished) (λ k. k.taken) (λ k. k.end_taken) (λ k. k.marks ++ w ∷ []) (λ k. k.end) (endrows.now_open s c x place a e runs h o ends g.own) c judges.attempts.sent
          ∙ ap (λ (k : ℕ). last_delayed c k base) kept.sent ∙ delayed keeps;
      last = λ free. last_then ∙ ap (λ (k : ℕ). Some k) (sym its_place);
      refused = endrows.refused_then s c x place a e runs h o ends g.own ∙ sym kept.refused;
      committed = endrows.committed_then s c x place a e runs h o ends g.own ∙ sym kept.committed;
    }

    pub sees_then : Sees t d after
    sees_then = record {
      own = changed_here (λ (k : Call). record k { marks = k.marks ++ w ∷ [] }) c.number s.calls c h.own;
      number_is = h.number_is;
      request = h.request;
      begun = h.begun;
      chosen = h.chosen;
      finished = h.finished;
      longest_is = h.longest_is;
      ended = h.ended;
      attempts = attempts_then;
      live = endrows.live_then s c x place a e runs h o ends g.own ∙ ap (λ (p : ℕ). without p x.call.live) (sym its_place);
      tokens = frames.bucket_reported base c.number (λ k. k.messages) (λ k. k.finished) (λ k. k.taken) (λ k. k.end_taken) (λ k. k.marks ++ w ∷ []) (λ k. k.end) (endrows.now_open s c x place a e runs h o ends g.own) (run_of c base)
          ∙ ap (option_map (bucket_of base)) (run_now place c s) ∙ bucket_now s c place a e runs ends its_call (run_of c s) refl turn.counted ∙ sym lent_then;
      entry_is = endrows.entry_then s c x place a e runs h o ends g.own;
      rows = endrows.rows_then s c x place a e runs h o ends g.own
          ∙ ap (λ (z : RowEnd). stamps.changed_at (stamps.ended_row z) x.ledger.rows place) same_end
          ∙ ap (λ (p : ℕ). stamps.changed_at (stamps.ended_row (record its_end { word = judges.word })) x.ledger.rows p) (sym its_place);
      call_is = endrows.call_then s c x place a e runs h o ends g.own;
    }
