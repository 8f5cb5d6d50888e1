-- A call gets its configuration, with the tokens of its run; where it was sent a message that is too long for it, it ends at once.
use Rattle.std.proofs.Common.{◌≡◌, ◌∷◌, ◌++◌, ◌||◌, ◌==◌, not, ap, refl, subst, sym, ◌∙◌, Bool, true, false, List, [], Option, None, Some, ℕ, if◌then◌else◌, is_some, length}
use Rattle.std.proofs.lemmas.Bool.{eqb-false}
use Rattle.std.specs.List.{list_any}
use Rattle.std.specs.Option.{option_and_then, option_map, option_map_or}
use Rattle.std.specs.Prelude.{fold}
use Rattle.a6_numbers.specs.Throttling.{Bucket}
use Rattle.attempt_ledger.specs.declared.ledger.CallSeen.{CallSeen}
use Rattle.attempt_ledger.specs.declared.row.RowEnd.{RowEnd}
use Rattle.call_actions.proofs.Unconfigured.{Had, unconfigured_attempts, counted_of_marks, due_from, due_of_marks, had, none_live}
use Rattle.call_actions.proofs.Ended.{closed_mark, ended_call, ended_with, ends_now, marked_calls, none_due, over}
use Rattle.call_actions.proofs.Lists.{changed_away, changed_here, numbered_not, stamped_here}
use Rattle.call_actions.specs.Laws.{Agrees, ConfigsCome, IsUnconfigured, LongMessagesEnd, configured_by, tokens_of_config}
use Rattle.call_actions.specs.Sees.{AttemptsAgree, Sees, bucket_of}
use Rattle.call_core.specs.Parts.{configured_attempts, is_too_long, stopped_attempts}
use Rattle.call_core.specs.Steps.{Stepped, ended_if, with_chosen}
use Rattle.call_core.specs.declared.live.LiveRow.{LiveRow}
use Rattle.grpc_base.specs.declared.event.EndCause.{EndCause}
use Rattle.grpc_base.specs.declared.event.EndCause.TheVariants as ending
use Rattle.grpc_base.specs.declared.plan.CallPlan.TheVariants as plan
use Rattle.grpc_base.specs.declared.plan.Chosen.{Chosen}
use Rattle.ledger_stamps.specs.Steps as stamps
use Rattle.service_config.specs.Choice.{chosen_for}
use Rattle.session_actions.specs.Attempts.{is_of}
use Rattle.session_actions.specs.CallEnds.{call_ended}
use Rattle.session_actions.specs.Configs.{call_configured, held_config, plan_of}
use Rattle.session_actions.specs.DueAttempts.{no_due}
use Rattle.session_actions.specs.Entries.{entry, now}
use Rattle.session_actions.specs.Sessions.{call_seen}
use Rattle.session_actions.specs.Tokens.{run_of, tokens_after, tokens_by}
use Rattle.session_actions.specs.Words.{changed, numbered}
use Rattle.session_actions.specs.declared.attempt.Attempt.{Attempt}
use Rattle.session_actions.specs.declared.call.Call.{Call}
use Rattle.session_actions.specs.declared.call.Mark.{Mark}
use Rattle.session_actions.specs.declared.config.HeldConfig.{HeldConfig}
use Rattle.session_actions.specs.declared.config.ThrottleRun.{ThrottleRun}
use Rattle.session_actions.specs.declared.due.DueState.{DueState}
use Rattle.session_actions.specs.declared.seen.Seen.{Seen}
use Rattle.session_actions.specs.declared.call.MarkKind.TheVariants as mark

-- the tokens of a run are the same, whatever happens to a call without attempts
abbrev pub with_calls : List Call → Seen → Seen
with_calls calls s = record s { calls = calls }

module _ (s : Seen) (calls : List Call) (c : Call) (none : list_any (is_of c) s.attempts ≡ false)
    (others : (k : ℕ) → (k ≡ c.number → ⊥) → numbered calls k ≡ numbered s.calls k) (run : ThrottleRun) where
  tokens_with_same : (count place : ℕ) (o : Option Attempt) → numbered s.attempts place ≡ o
      → tokens_by run (with_calls calls s) count o ≡ tokens_by run s count o
  tokens_with_same count place None e = refl
  tokens_with_same count place (Some a) e =
      let other : (a.row.call == c.number) ≡ false = numbered_not (is_of c) s.attempts place a none e in
      ap (λ (o : Option Call). option_map_or (λ (d : RowEnd). tokens_after run.throttle (option_map_or (λ (k : Call). plan_of k s) o plan.None) d.code d.pushback count) a.row.ended count)
      (others a.row.call (eqb-false a.row.call c.number other))

  tokens_from : (count : ℕ) (places : List ℕ)
      → fold (λ (n place : ℕ). tokens_by run (with_calls calls s) n (numbered s.attempts place)) count places
      ≡ fold (λ (n place : ℕ). tokens_by run s n (numbered s.attempts place)) count places
  tokens_from count [] = refl
  tokens_from count (place ∷ places) =
      ap (λ (n : ℕ). fold (λ (m at : ℕ). tokens_by run (with_calls calls s) m (numbered s.attempts at)) n places)
      (tokens_with_same count place (numbered s.attempts place) refl)
      ∙ tokens_from (tokens_by run s count (numbered s.attempts place)) places

  bucket_same : bucket_of (with_calls calls s) run ≡ bucket_of s run
  bucket_same =
      ap (λ (n : ℕ). record { start = run.throttle.start; ratio = run.throttle.ratio; count = n }) (tokens_from run.throttle.start run.ends)

buckets_by : (s : Seen) (calls : List Call) (c : Call) → list_any (is_of c) s.attempts ≡ false
    → ((k : ℕ) → (k ≡ c.number → ⊥) → numbered calls k ≡ numbered s.calls k) → (o : Option ThrottleRun)
    → option_map (bucket_of (with_calls calls s)) o ≡ option_map (bucket_of s) o
buckets_by s calls c none others None = refl
buckets_by s calls c none others (Some run) = ap (λ (b : Bucket). Some b) (bucket_same s calls c none others run)

-- the stamp of a configuration
configured_is : (k : CallSeen) (e : ℕ) → k.configured ≡ None → stamps.configured_call e k ≡ record k { configured = Some e }
configured_is k e none = ap (λ (o : Option ℕ). record k { configured = stamps.stamped e o }) none

-- what the channel makes of it
pub steps_on : (chosen : Chosen) (moment : ℕ) (x : Stepped) (ended : Option EndCause) (had_one : Option Chosen) → ended ≡ None → had_one ≡ None
    → (if is_some ended || is_some had_one then x else ended_if (is_too_long (Some chosen) x.call.longest) ending.Request moment (with_chosen chosen moment x))
    ≡ ended_if (is_too_long (Some chosen) x.call.longest) ending.Request moment (with_chosen chosen moment x)
steps_on chosen moment x None None one two = refl
steps_on chosen moment x (Some why) had_one one two = absurd (cc)
steps_on chosen moment x None (Some other) one two = absurd (cc)

not_false : (x : Bool) → not x ≡ false → x ≡ true
not_false true e = refl
not_false false e = absurd (cc)

not_true : (x : Bool) → not x ≡ true → x ≡ false
not_true true e = absurd (cc)
not_true false e = refl

-- the call with its configuration
abbrev config_mark : Seen → Mark
config_mark s = record { what = mark.Configured; moment = now s }

abbrev put : Seen → Call → Call
put s k = record k { config = Some (length s.configs); configured = Some (entry s) }

abbrev configured_call : Seen → Call → Call
configured_call s c = put s (record c { marks = c.marks ++ config_mark s ∷ [] })

abbrev calls_now : Seen → Call → List Call
calls_now s c = changed (put s) c.number (marked_calls c.number (config_mark s) s)

module _ (s : Seen) (c : Call) (x : Stepped) (g : HeldConfig) (h : Sees s c x) (b : IsUnconfigured s c) (held : held_config s ≡ Some g) where
  abbrev chosen_now : Chosen
  chosen_now = chosen_for g.config c.request.path

  abbrev lent_now : Stepped
  lent_now = record x { tokens = tokens_of_config s g }

  abbrev after : Seen
  after = call_configured c.number (length s.configs) s

  abbrev due_now : DueState
  due_now = record no_due { forced = Some (now s); stopped = false }

  others_same : (k : ℕ) → (k ≡ c.number → ⊥) → numbered (calls_now s c) k ≡ numbered s.calls k
  others_same k away =
      changed_away (put s) c.number k (marked_calls c.number (config_mark s) s) away
      ∙ changed_away (λ (d : Call). record d { marks = d.marks ++ config_mark s ∷ [] }) c.number k s.calls away

  own_now : numbered after.calls c.number ≡ Some (configured_call s c)
  own_now =
      let marked_c : Call = record c { marks = c.marks ++ config_mark s ∷ [] } in
      changed_here (put s) c.number (marked_calls c.number (config_mark s) s) marked_c
      (changed_here (λ (d : Call). record d { marks = d.marks ++ config_mark s ∷ [] }) c.number s.calls c h.own)

  tokens_now : option_map (bucket_of after) (run_of (configured_call s c) after) ≡ tokens_of_config s g
  tokens_now =
      ap (λ (o : Option HeldConfig). option_map (bucket_of after) (option_and_then (numbered s.runs) (option_and_then (λ (z : HeldConfig). z.run) o))) held
      ∙ buckets_by s (calls_now s c) c b.none others_same (option_and_then (numbered s.runs) g.run)

  stamped_now : numbered (with_chosen chosen_now (now s) lent_now).ledger.calls c.number ≡ Some (call_seen after (configured_call s c))
  stamped_now =
      ap (λ (k : ℕ). numbered (stamps.changed_at (stamps.configured_call x.ledger.entry) x.ledger.calls k) c.number) (sym h.number_is)
      ∙ stamped_here (stamps.configured_call x.ledger.entry) c.number x.ledger.calls (call_seen s c) h.call_is
      ∙ ap (λ (k : CallSeen). Some k) (configured_is (call_seen s c) x.ledger.entry b.configured)
      ∙ ap (λ (j : ℕ). Some (record (call_seen s c) { configured = Some j })) (sym h.entry_is)

  marks_now : (configured_call s c).marks ≡ config_mark s ∷ []
  marks_now = ap (λ (l : List Mark). l ++ config_mark s ∷ []) b.marks

  pub sees_now : Sees after (configured_call s c) (with_chosen chosen_now (now s) lent_now)
  sees_now =
      let had_it : Had s c x = had s c x h b in record {
        own = own_now;
        number_is = h.number_is;
        request = h.request;
        begun = h.begun;
        chosen = ap (option_map (λ (z : HeldConfig). chosen_for z.config c.request.path)) held;
        finished = h.finished;
        longest_is = h.longest_is;
        ended = h.ended;
        attempts = unconfigured_attempts after (configured_call s c) b.none (configured_attempts (now s) x.call.attempts)
            (due_from after (configured_call s c) due_now (configured_attempts (now s) x.call.attempts) (due_of_marks after (configured_call s c) (config_mark s ∷ []) marks_now)
            (record { newest = had_it.due.newest; placed = had_it.due.placed; stopped = refl; forced = λ e. refl }))
            (counted_of_marks after (configured_call s c) (config_mark s ∷ []) marks_now) had_it.sent had_it.delayed had_it.last had_it.refused had_it.committed had_it.due.placed;
        live = none_live after (configured_call s c) b.none ∙ had_it.live;
        tokens = tokens_now;
        entry_is = h.entry_is;
        rows = h.rows;
        call_is = stamped_now;
      }

  goes_on : configured_by g c s x ≡ ended_if (is_too_long (Some chosen_now) x.call.longest) ending.Request (now s) (with_chosen chosen_now (now s) lent_now)
  goes_on =
      let had_it : Had s c x = had s c x h b in
      steps_on chosen_now (now s) lent_now x.call.ended x.call.chosen had_it.open_now had_it.chosen

  pub comes : is_too_long (Some chosen_now) x.call.longest ≡ false → Agrees after c.number (configured_by g c s x)
  comes short =
      let same : configured_by g c s x ≡ with_chosen chosen_now (now s) lent_now
      = goes_on ∙ ap (λ (z : Bool). ended_if z ending.Request (now s) (with_chosen chosen_now (now s) lent_now)) short in
      record { call = configured_call s c; number_is = refl; sees = subst (Sees after (configured_call s c)) (sym same) sees_now }

  -- where a message was too long, it ends
  abbrev then_ended : Seen
  then_ended = call_ended c.number ending.Request after

  others_then : (k : ℕ) → (k ≡ c.number → ⊥) → numbered then_ended.calls k ≡ numbered after.calls k
  others_then k away =
      changed_away (over ending.Request after) c.number k (marked_calls c.number (closed_mark after) after) away
      ∙ changed_away (λ (d : Call). record d { marks = d.marks ++ closed_mark after ∷ [] }) c.number k after.calls away

  pub ends_too : is_too_long (Some chosen_now) x.call.longest ≡ true → Agrees then_ended c.number (configured_by g c s x)
  ends_too long =
      let had_it : Had s c x = had s c x h b in
      let y : Stepped = with_chosen chosen_now (now s) lent_now in
      let d : Call = configured_call s c in
      let e : Call = ended_call ending.Request after d in
      let marks : e.marks ≡ config_mark s ∷ closed_mark after ∷ [] = ap (λ (l : List Mark). l ++ closed_mark after ∷ []) marks_now in
      let attempts : AttemptsAgree then_ended e (stopped_attempts y.call.attempts)
      = unconfigured_attempts then_ended e b.none (stopped_attempts y.call.attempts)
      (due_from then_ended e (record due_now { stopped = true }) (stopped_attempts y.call.attempts) (due_of_marks then_ended e (config_mark s ∷ closed_mark after ∷ []) marks)
      (none_due due_now y.call.attempts had_it.due.newest had_it.due.placed))
      (counted_of_marks then_ended e (config_mark s ∷ closed_mark after ∷ []) marks) had_it.sent had_it.delayed had_it.last had_it.refused had_it.committed had_it.due.placed in
      let tokens : option_map (bucket_of then_ended) (run_of e then_ended) ≡ y.tokens
      = buckets_by after then_ended.calls d b.none others_then (run_of d after) ∙ tokens_now in
      let sees : Sees then_ended e (ended_with ending.Request (now s) [] y) = ends_now after d y ending.Request sees_now b.none b.end attempts tokens in
      let same : configured_by g c s x ≡ ended_with ending.Request (now s) [] y
      = goes_on ∙ ap (λ (z : Bool). ended_if z ending.Request (now s) y) long ∙ ap (λ (l : List LiveRow). ended_with ending.Request (now s) l y) (sym had_it.live) in
      record { call = e; number_is = refl; sees = subst (Sees then_ended e) (sym same) sees }

pub configs_come : ConfigsCome
configs_come s c x g h b held allowed = comes s c x g h b held (not_true (is_too_long (Some (chosen_for g.config c.request.path)) x.call.longest) allowed)

pub long_messages_end : LongMessagesEnd
long_messages_end s c x g h b held long = ends_too s c x g h b held (not_false (is_too_long (Some (chosen_for g.config c.request.path)) x.call.longest) long)
