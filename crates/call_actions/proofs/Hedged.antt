-- An attempt of a hedged call ends, with a code of its policy, while another attempt goes on.
use Rattle.std.proofs.Common.{◌≡◌, ◌+◌, ◌*◌, ◌^◌, ◌∷◌, ◌&&◌, ◌||◌, ◌==◌, not, ap, arith, refl, subst, sym, ◌∙◌, Bool, true, false, List, [], Option, None, Some, ℕ, cond, filter, if◌then◌else◌, is_none, length, map, option_map}
use Rattle.std.proofs.lemmas.Bool.{and_right, ne_eqb, or_left, or_right}
use Rattle.std.specs.List.{list_any}
use Rattle.std.specs.Option.{option_map_or}
use Rattle.std.specs.Prelude.{option_and_then}
use Rattle.attempt_ledger.specs.Ends as reads
use Rattle.attempt_ledger.specs.Ends.{delay_of, is_stop, millis_after}
use Rattle.attempt_ledger.specs.Throttling.{codes_of}
use Rattle.attempt_ledger.specs.declared.row.RowEnd.{RowEnd}
use Rattle.call_actions.proofs.Ends.Frames as ending
use Rattle.call_actions.proofs.Ends.Frames.{AreLike, with_end_at}
use Rattle.call_actions.proofs.Ending.{KeepsRest, after, base, channel_is, count_then, d, due_then, e, ends, is_ended, its_call, its_end, judges, lent_then, like_then, marks_then, order_then, rest_is, runs, sees_then, t, tokens_end, reported}
use Rattle.call_actions.proofs.Judging.{above_is}
use Rattle.call_actions.proofs.Dues.{plan_is}
use Rattle.call_actions.specs.Laws.{HedgesGoOn, IsCounting, IsEnding, ends_alike, news_of}
use Rattle.call_actions.specs.Order.{IsInOrder, IsInTurn, Keeps, is_retried}
use Rattle.call_actions.specs.Sees.{DuesAgree, KeepsDelay, Sees, is_live, live_row}
use Rattle.call_core.specs.Parts as parts
use Rattle.call_core.specs.Parts.{has_none, hedge_after, judged, without}
use Rattle.call_core.specs.Steps as steps
use Rattle.call_core.specs.Steps.{Stepped, call_plan, closed_if}
use Rattle.call_core.specs.declared.attempts.Attempts.{Attempts}
use Rattle.call_core.specs.declared.judge.Judged.{Judged}
use Rattle.grpc_base.specs.Codes.{has_code}
use Rattle.grpc_base.specs.declared.plan.CallPlan.{CallPlan}
use Rattle.grpc_base.specs.declared.plan.CallPlan.TheVariants as plan
use Rattle.grpc_base.specs.declared.plan.HedgePolicy.{HedgePolicy}
use Rattle.grpc_base.specs.declared.plan.Pushback.{Pushback}
use Rattle.grpc_base.specs.declared.plan.Pushback.TheVariants as pushback
use Rattle.hedge_core.specs.DueMoments as hedging
use Rattle.service_config.specs.Choice.{chosen_for}
use Rattle.session_actions.specs.AttemptEnds.{is_drawing, tokens_at, will_count}
use Rattle.session_actions.specs.Attempts.{commitment, of_its_call}
use Rattle.session_actions.specs.Configs.{no_choice, plan_of}
use Rattle.session_actions.specs.DueAttempts.{due_by_plan, due_state, hedge_forced, is_licensed, is_licensed_by}
use Rattle.session_actions.specs.Entries.{next_word, now}
use Rattle.session_actions.specs.Tokens.{allows_attempt, run_of}
use Rattle.session_actions.specs.Words.{holds, numbered}
use Rattle.session_actions.specs.declared.attempt.Attempt.{Attempt}
use Rattle.session_actions.specs.declared.call.Call.{Call}
use Rattle.session_actions.specs.declared.config.HeldConfig.{HeldConfig}
use Rattle.session_actions.specs.declared.config.ThrottleRun.{ThrottleRun}
use Rattle.session_actions.specs.declared.due.DueState.{DueState}
use Rattle.session_actions.specs.declared.response.Outcome.{Outcome}
use Rattle.session_actions.specs.declared.seen.Seen.{Seen}

-- another one goes on
some_if : (p : Attempt → Bool) (b : Bool) (x : Attempt) (xs : List Attempt) → p x ≡ b → (b || list_any p xs) ≡ true → (list_any p xs ≡ true → has_none (map live_row (filter p xs)) ≡ false)
    → has_none (map live_row (cond b (x ∷ filter p xs) (filter p xs))) ≡ false
some_if p true x xs e any rest = ne_eqb (length (map live_row (x ∷ filter p xs))) 0 (λ z. omega arith)
some_if p false x xs e any rest = rest any

some_live : (p : Attempt → Bool) (xs : List Attempt) → list_any p xs ≡ true → has_none (map live_row (filter p xs)) ≡ false
some_live p [] any = absurd (cc)
some_live p (x ∷ xs) any = some_if p (p x) x xs refl any (some_live p xs)

-- what a counted end says of the next hedge
abbrev hedged : Pushback → RowEnd → Bool → Attempts → Attempts
hedged q there allowed a = record a {
  forced = Some (option_map_or (millis_after there) (delay_of q) there.moment);
  stopped = a.stopped || (false || is_stop q || (is_none (delay_of q) && not allowed));
}

-- the same is known before
pub record AreKnown (m : DueState) (a : Attempts) : Type 0 where
  newest : m.newest ≡ a.newest
  placed : m.placed ≡ a.placed
  stopped : m.stopped ≡ a.stopped

or_none : (x y : Bool) → x ≡ false → (x || y) ≡ y
or_none true y e = absurd (cc)
or_none false y e = refl

module _ (end there : RowEnd) (same : end.moment ≡ there.moment) (m : DueState) (a : Attempts) (k : AreKnown m a) (allowed : Bool) where
  going_by : (q : Pushback) → m.stopped ≡ false → DuesAgree (hedge_forced q allowed end m) (hedged q there allowed a)
  going_by pushback.Stop going = record {
    newest = k.newest;
    placed = k.placed;
    stopped = sym (or_right a.stopped true refl);
    forced = λ z. (let both : true ≡ false = sym (or_right a.stopped true refl) ∙ z in absurd (cc));
  }
  going_by (pushback.After millis) going = record {
    newest = k.newest;
    placed = k.placed;
    stopped = going ∙ sym (or_none a.stopped false (sym k.stopped ∙ going));
    forced = λ z. ap (λ (moment : ℕ). Some (moment + millis * 10 ^ 6)) same;
  }
  going_by pushback.None going = record {
    newest = k.newest;
    placed = k.placed;
    stopped = sym (or_none a.stopped (not allowed) (sym k.stopped ∙ going));
    forced = λ z. ap (λ (moment : ℕ). Some moment) same;
  }

  hedge_by : (q : Pushback) (b : Bool) → m.stopped ≡ b → DuesAgree (if not b && true && true then hedge_forced q allowed end m else m) (hedged q there allowed a)
  hedge_by q false going = going_by q going
  hedge_by q true stopped =
      let over : (a.stopped || (false || is_stop q || (is_none (delay_of q) && not allowed))) ≡ true
      = or_left a.stopped (false || is_stop q || (is_none (delay_of q) && not allowed)) (sym k.stopped ∙ stopped) in
      record {
        newest = k.newest;
        placed = k.placed;
        stopped = stopped ∙ sym over;
        forced = λ z. (let both : true ≡ false = sym over ∙ z in absurd (cc));
      }

newest_by : (q : Pushback) (allowed : Bool) (end : RowEnd) (m : DueState) → (hedge_forced q allowed end m).newest ≡ m.newest
newest_by pushback.Stop allowed end m = refl
newest_by (pushback.After millis) allowed end m = refl
newest_by pushback.None allowed end m = refl

newest_if : (b : Bool) (q : Pushback) (allowed : Bool) (end : RowEnd) (m : DueState) → (if b then hedge_forced q allowed end m else m).newest ≡ m.newest
newest_if true q allowed end m = newest_by q allowed end m
newest_if false q allowed end m = refl

-- a call before its configuration is not hedged
no_plan : (p : HedgePolicy) → plan.None ≡ plan.Hedge p → ⊥
no_plan p e = absurd (cc)

module _ (s : Seen) (c : Call) (x : Stepped) (place : ℕ) (a : Attempt) (out : Outcome) (p : HedgePolicy) (h : Sees s c x) (o : IsInOrder s c) (turn : IsInTurn s c)
    (g : IsEnding s c place a out) (n : IsCounting s c out) (free : commitment c s ≡ None) (hp : plan_of c s ≡ plan.Hedge p) (says : has_code p.codes out.code ≡ true) where
  abbrev its : RowEnd
  its = e s c x place a out h o turn g n

  abbrev then_base : Seen
  then_base = base s c x place a out h o turn g n

  abbrev there : RowEnd
  there = its_end s c x place a out h o turn g n

  abbrev lent : Stepped
  lent = reported s c x place a out h o turn g n

  abbrev put : Attempt → Attempt
  put q = with_end_at place its q

  abbrev known : Attempts
  known = x.call.attempts

  pub above_same : allows_attempt c its.tokens s ≡ parts.is_above lent.tokens
  above_same =
      ap (reads.is_above (option_map (λ (u : ThrottleRun). u.throttle) (run_of c s))) (tokens_end s c x place a out h o turn g n)
      ∙ above_is (count_then s c x place a out h o turn g n) (run_of c s) ∙ ap parts.is_above (sym (lent_then s c x place a out h o turn g n))

  allowed_then : allows_attempt c its.tokens then_base ≡ parts.is_above lent.tokens
  allowed_then =
      ending.allows_same s c place a its (runs s c x place a out h o turn g n) (ends s c x place a out h o turn g n) its.tokens ∙ above_same

  -- no word is drawn
  drawing : of_its_call (is_drawing a out s) a s ≡ false
  drawing =
      ap (holds (is_drawing a out s)) (its_call s c x place a out h o turn g n)
      ∙ and_right (will_count a out s && is_none (commitment c s) && is_none (delay_of out.pushback)) (is_licensed c a.row.number out.code out.pushback (tokens_at a out s c) s)
      (ap (λ (q : CallPlan). is_licensed_by q a.row.number out.code out.pushback (allows_attempt c (tokens_at a out s c) s)) hp)

  word_same : its.word ≡ None
  word_same = ap (λ (b : Bool). if b then Some (next_word s) else None) drawing

  abbrev m : DueState
  m = marks_then s c x place a out h o turn g n

  like : AreLike (is_retried (plan_of c s)) m (due_state c s)
  like = like_then s c x place a out h o turn g n

  knows : AreKnown m known
  knows = record {
    newest = like.newest ∙ h.attempts.due.newest;
    placed = like.placed ∙ h.attempts.due.placed;
    stopped = like.stopped ∙ h.attempts.due.stopped;
  }

  due_is : due_state (d s c x place a out h o turn g n) (t s c x place a out h o turn g n)
      ≡ (if not m.stopped && true && true then hedge_forced out.pushback (parts.is_above lent.tokens) its m else m)
  due_is =
      due_then s c x place a out h o turn g n
      ∙ ap (λ (q : CallPlan). if not m.stopped && true && has_code (codes_of q) out.code then due_by_plan q c (put a) then_base m its else m) hp
      ∙ ap (λ (b : Bool). if not m.stopped && true && b then hedge_forced out.pushback (allows_attempt c its.tokens then_base) its m else m) says
      ∙ ap (λ (b : Bool). if not m.stopped && true && true then hedge_forced out.pushback b its m else m) allowed_then

  -- what the channel judges
  abbrev judged_on : CallPlan → Judged
  judged_on q = judged q known a.row.number (has_none lent.call.live) there (parts.is_above lent.tokens) (next_word s)

  abbrev pub by_plan : Judged
  by_plan = judged_on (plan.Hedge p)

  pub judged_is : judges s c x place a out h o turn g n ≡ by_plan
  judged_is = ap judged_on (sym (plan_is s c x h) ∙ hp)

  abbrev hedged_if : Bool → Attempts
  hedged_if b = record known {
    forced = (if b then Some (option_map_or (millis_after there) (delay_of out.pushback) there.moment) else known.forced);
    stopped = known.stopped || (not b || is_stop out.pushback || (is_none (delay_of out.pushback) && not (parts.is_above lent.tokens)));
  }

  pub attempts_are : by_plan.attempts ≡ hedged out.pushback there (parts.is_above lent.tokens) known
  attempts_are = ap hedged_if says

  pub due_now : DuesAgree (due_state (d s c x place a out h o turn g n) (t s c x place a out h o turn g n)) by_plan.attempts
  due_now =
      subst (λ (z : DueState). DuesAgree z by_plan.attempts) (sym due_is)
      (subst (λ (z : Attempts). DuesAgree (if not m.stopped && true && true then hedge_forced out.pushback (parts.is_above lent.tokens) its m else m) z) (sym attempts_are)
      (hedge_by its there refl m known knows (parts.is_above lent.tokens) out.pushback m.stopped refl))

  keeps_not : (config : Option ℕ) → c.config ≡ config → KeepsDelay config (plan_of c s) → ⊥
  keeps_not None none keeps =
      no_plan p
      (sym (ap (λ (k : Option ℕ). (option_map_or (λ (g : HeldConfig). chosen_for g.config c.request.path) (option_and_then (numbered s.configs) k) no_choice).plan) none) ∙ hp)
  keeps_not (Some config) some keeps = subst (λ (q : CallPlan). KeepsDelay (Some config) q) hp keeps

  kept : KeepsRest by_plan.attempts known
  kept = record { sent = refl; newest = refl; placed = refl; refused = refl; committed = refl }

  sees_now : Sees (t s c x place a out h o turn g n) (d s c x place a out h o turn g n) (after s c x place a out h o turn g n)
  sees_now =
      sees_then s c x place a out h o turn g n (subst (λ (j : Judged). KeepsRest j.attempts known) (sym judged_is) kept)
      (subst (λ (j : Judged). DuesAgree (due_state (d s c x place a out h o turn g n) (t s c x place a out h o turn g n)) j.attempts) (sym judged_is) due_now)
      (λ keeps. absurd (keeps_not c.config refl keeps))
      (word_same ∙ ap (λ (j : Judged). j.word) (sym judged_is))

  abbrev HasOthers : Type 0
  HasOthers = list_any (λ (q : Attempt). is_live s c q && not (q.place == place)) s.attempts ≡ true

  not_alone : HasOthers → has_none lent.call.live ≡ false
  not_alone others =
      ap has_none (sym (rest_is s c x place a out h o turn g n)) ∙ some_live (λ (q : Attempt). is_live s c q && not (q.place == place)) s.attempts others

  stays : HasOthers → steps.ended_at place (news_of a out s) (now s) (next_word s) x ≡ after s c x place a out h o turn g n
  stays others =
      channel_is s c x place a out h o turn g n free
      ∙ ap (λ (j : Judged). closed_if j.closes a.place (now s) (after s c x place a out h o turn g n)) judged_is
      ∙ ap (λ (b : Bool). closed_if (not b || (has_none lent.call.live && parts.is_final (hedging.next_of (hedging.next_due p (hedge_after p known there (parts.is_above lent.tokens)))))) a.place (now s)
      (after s c x place a out h o turn g n)) says
      ∙ ap (λ (b : Bool). closed_if (b && parts.is_final (hedging.next_of (hedging.next_due p (hedge_after p known there (parts.is_above lent.tokens))))) a.place (now s)
      (after s c x place a out h o turn g n)) (not_alone others)

  pub hedge_goes_on : HasOthers → ends_alike s c x place a out
  hedge_goes_on others =
      subst (λ (z : Seen). Keeps z c.number (steps.ended_at place (news_of a out s) (now s) (next_word s) x)) (sym (is_ended s c x place a out h o turn g n))
      (subst (λ (y : Stepped). Keeps (t s c x place a out h o turn g n) c.number y) (sym (stays others))
      (record {
        call = d s c x place a out h o turn g n;
        number_is = refl;
        sees = sees_now;
        order = order_then s c x place a out h o turn g n free
            (ap (λ (z : DueState). z.newest) due_is ∙ newest_if (not m.stopped && true && true) out.pushback (parts.is_above lent.tokens) its m);
      }))

pub hedges_go_on : HedgesGoOn
hedges_go_on s c x place a out p h o turn g n free hp says others = hedge_goes_on s c x place a out p h o turn g n free hp says others
