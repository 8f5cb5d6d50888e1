-- A call that ended, with its attempts cut off: session and channel agree.
use Rattle.std.proofs.Common.{◌≡◌, ◌+◌, ◌==◌, ◌∷◌, ◌++◌, ◌&&◌, ◌||◌, not, ap, refl, subst, sym, ◌∙◌, true≢false, Bool, true, false, List, [], Option, None, Some, ℕ, zero, suc, filter, if◌then◌else◌, is_none, is_some, length, map, slice_get}
use Rattle.std.proofs.lemmas.Bool.{and_parts, eqb-true}
use Rattle.std.specs.List.{list_all}
use Rattle.std.specs.Option.{option_and_then, option_map, option_map_or}
use Rattle.attempt_ledger.specs.declared.ledger.CallEnd.{CallEnd}
use Rattle.attempt_ledger.specs.declared.ledger.CallSeen.{CallSeen}
use Rattle.attempt_ledger.specs.declared.ledger.Ledger.{Ledger}
use Rattle.attempt_ledger.specs.declared.row.Placed.{Placed}
use Rattle.attempt_ledger.specs.declared.row.Row.{Row}
use Rattle.attempt_ledger.specs.declared.row.RowEnd.{RowEnd}
use Rattle.call_actions.proofs.Ended.{end_by, end_is}
use Rattle.call_actions.proofs.Lists.{changed_here, stamped_here}
use Rattle.call_actions.specs.Sees.{AttemptsAgree, Sees, is_live, live_row, live_rows}
use Rattle.call_core.specs.Laws as channel
use Rattle.call_core.specs.Parts.{count_of, stopped_attempts}
use Rattle.call_core.specs.Steps.{Stepped, closed_by, cut_all, end_stamped, ended_as, fresh_buffer, reported_all}
use Rattle.call_core.specs.declared.act.CallAct.TheVariants as act
use Rattle.call_core.specs.declared.live.LiveRow.{LiveRow}
use Rattle.grpc_base.specs.Limits.{message_limit}
use Rattle.grpc_base.specs.declared.event.EndCause.{EndCause}
use Rattle.grpc_base.specs.declared.event.Reply.{Reply}
use Rattle.ledger_stamps.specs.Steps as stamps
use Rattle.session_actions.specs.Attempts.{commitment, is_of, is_outstanding, is_over, is_over_in, is_queued}
use Rattle.session_actions.specs.Configs.{chosen_of}
use Rattle.session_actions.specs.Deliveries.{response_items}
use Rattle.session_actions.specs.DueAttempts.{due_state}
use Rattle.session_actions.specs.Entries.{entry, now}
use Rattle.session_actions.specs.Links.{link_of, read_bytes}
use Rattle.session_actions.specs.Responses.{is_read_by, limit_of_attempt, no_response, response, response_by, response_in, response_on, traffic_by, traffic_of}
use Rattle.session_actions.specs.Sessions.{call_seen}
use Rattle.session_actions.specs.Tokens.{run_of}
use Rattle.session_actions.specs.Words.{changed, holds, numbered}
use Rattle.session_actions.specs.declared.attempt.Attempt.{Attempt}
use Rattle.session_actions.specs.declared.call.Call.{Call}
use Rattle.session_actions.specs.declared.call.Mark.{Mark}
use Rattle.session_actions.specs.declared.call.MarkKind.TheVariants as mark
use Rattle.session_actions.specs.declared.entry.OpenEntry.{OpenEntry}
use Rattle.session_actions.specs.declared.link.Link.{Link}
use Rattle.session_actions.specs.declared.link.Traffic.{Traffic}
use Rattle.session_actions.specs.declared.seen.Seen.{Seen}
use Rattle.call_actions.proofs.TakeActions.CutAttempts.{becomes, due_stopped, end_by_cut, ended_mark, is_cut_off, made_still, none_of, out_of, retried_still}
use Rattle.call_actions.proofs.TakeActions.CutLive.{none_if}
use Rattle.call_actions.proofs.TakeActions.CutRows.{cuts_through}
use Rattle.call_actions.proofs.TakeActions.CutTokens.{bucket_cut, counted_cut}
use Rattle.call_actions.proofs.TakeActions.EndCounts.{commitment_same, delayed_same, ended_up, last_same}
use Rattle.call_actions.proofs.TakeActions.Maps.{all_from, kept_map, map_map}
use Rattle.call_actions.proofs.TakeActions.Retold.{read_same}
use Rattle.call_actions.specs.TakeActions.Serves.{AttemptsStandInPlace, IsLeft, Serves, came}

-- all that was read stays read
pub traffic_all : (seen : ℕ) (ts : List Traffic) → list_all (is_read_by seen) ts ≡ true → traffic_by seen ts ≡ ts
traffic_all seen [] e = refl
traffic_all seen (t ∷ ts) e =
    let both : (is_read_by seen t ≡ true) × (list_all (is_read_by seen) ts ≡ true) = and_parts (is_read_by seen t) (list_all (is_read_by seen) ts) e in
    ap (λ (b : Bool). if b then t ∷ traffic_by seen ts else []) both.0 ∙ ap (λ (l : List Traffic). t ∷ l) (traffic_all seen ts both.1)

pub true_get : {X : Type 0} (p : X → Bool) (xs : List X) (i : ℕ) (x : X) → list_all p xs ≡ true → slice_get xs i ≡ Some x → p x ≡ true
true_get p [] i x e got = absurd (cc)
true_get p (y ∷ xs) zero x e got =
    let one : y ≡ x = (cc) in ap p (sym one) ∙ (and_parts (p y) (list_all p xs) e).0
true_get p (y ∷ xs) (suc i) x e got = true_get p xs i x (and_parts (p y) (list_all p xs) e).1 got

pub true_at : {X : Type 0} (p : X → Bool) (xs : List X) (n : ℕ) (x : X) → list_all p xs ≡ true → numbered xs n ≡ Some x → p x ≡ true
true_at p xs zero x e got = absurd (cc)
true_at p xs (suc i) x e got = true_get p xs i x e got

-- tests: whether an attempt is of the call, placed, has not ended, is not over
pub cut_bools : (mine ps en z : Bool) → (mine && ((ps && en) && true)) ≡ ((mine && ((ps && en) || ((not ps && en) && z))) && (true && ps))
cut_bools false ps en z = refl
cut_bools true true true z = refl
cut_bools true true false z = refl
cut_bools true false true true = refl
cut_bools true false true false = refl
cut_bools true false false z = refl

pub dead_bools : (ps en : Bool) → ((ps && (if (true && ((ps && en) && true)) then false else en)) || ((not ps && (if (true && ((ps && en) && true)) then false else en)) && not true)) ≡ false
dead_bools true true = refl
dead_bools true false = refl
dead_bools false true = refl
dead_bools false false = refl

pub some_not : {X : Type 0} {y : X} → Some y ≡ None → ⊥
some_not e = (cc)

pub none_kept : {X : Type 0} (xs : List X) → filter (λ (x : X). false) xs ≡ []
none_kept [] = refl
none_kept (x ∷ xs) = none_kept xs

pub place_map : (f : Attempt → Attempt) (same : (a : Attempt) → (f a).place ≡ a.place) (o : Option Attempt)
    → option_map (λ (a : Attempt). a.place) (option_map f o) ≡ option_map (λ (a : Attempt). a.place) o
place_map f same None = refl
place_map f same (Some a) = ap (λ (n : ℕ). Some n) (same a)

module _ (s : Seen) (c : Call) (x : Stepped) (why : EndCause) (h : Serves s c x) (open_now : c.end ≡ None) (current : Option OpenEntry)
    (still : is_some current ≡ is_some s.current) where
  abbrev pub tokens_now : Option ℕ
  tokens_now = count_of x.tokens

  abbrev pub end_now : CallEnd
  end_now = end_by (entry s) (now s) why

  abbrev pub first : Mark
  first = record { what = mark.Closed; moment = now s }

  abbrev pub all_gone : Attempt → Bool
  all_gone a = true

  abbrev pub own_stamp : Attempt → Option ℕ
  own_stamp a = a.row.committed

  abbrev pub marks_now : List Mark
  marks_now = first ∷ map (ended_mark (now s)) (filter (is_cut_off c.number all_gone) s.attempts)

  abbrev pub final_at : Attempt → Attempt
  final_at a = ended_up (entry s) (now s) tokens_now s c (Some end_now) marks_now current a

  abbrev pub end_seen : Seen
  end_seen = record s { attempts = map final_at s.attempts; calls = changed (becomes (Some end_now) marks_now) c.number s.calls; current = current }

  abbrev pub end_call : Call
  end_call = becomes (Some end_now) marks_now c

  -- the ledger
  pub cuts_each : (a : Attempt) → is_cut_off c.number all_gone a ≡ (is_live s c a && (true && is_some a.row.placed))
  cuts_each a = cut_bools (is_of c a) (is_some a.row.placed) (is_none a.row.ended) (not (is_over a s))

  abbrev pub cut_rows : Ledger
  cut_rows = record x.ledger { rows = map (λ (a : Attempt). (final_at a).row) s.attempts }

  pub rows_are : cut_all None (now s) tokens_now x.call.live x.ledger ≡ cut_rows
  rows_are =
      ap (λ (rows : List Row). cut_all None (now s) tokens_now x.call.live (record x.ledger { rows = rows })) (sym h.sees.rows)
      ∙ ap (λ (live : List LiveRow). cut_all None (now s) tokens_now live (record x.ledger { rows = map (λ (a : Attempt). a.row) s.attempts })) (sym h.sees.live)
      ∙ cuts_through (entry s) (now s) tokens_now s c own_stamp all_gone None x.ledger (sym h.links) (sym h.sees.entry_is) s.attempts [] 0 refl h.places
      (all_from (λ (a : Attempt). is_cut_off c.number all_gone a ≡ (is_live s c a && (true && is_some a.row.placed))) cuts_each s.attempts)

  abbrev pub end_step : Stepped
  end_step = record {
    call = record x.call { live = []; buffer = fresh_buffer; attempts = stopped_attempts x.call.attempts; ended = Some why };
    ledger = end_stamped x.call.number why (now s) cut_rows;
    tokens = x.tokens;
    acts = reported_all None x.call.live x.acts ++ act.End why ∷ [];
  }

  pub step_is : closed_by why (now s) x ≡ end_step
  step_is =
      ap (λ (o : Option EndCause). if not (is_some o) then ended_as why (now s) x else x) (sym h.sees.ended ∙ ap (option_map (λ (e : CallEnd). e.cause)) open_now)
      ∙ ap (λ (l : Ledger). record end_step { ledger = end_stamped x.call.number why (now s) l }) rows_are

  -- none of its attempts goes on
  pub own_now : numbered end_seen.calls c.number ≡ Some end_call
  own_now = changed_here (becomes (Some end_now) marks_now) c.number s.calls c h.sees.own

  pub over_now : (a : Attempt) → is_of c a ≡ true → is_over (final_at a) end_seen ≡ true
  over_now a e =
      ap (λ (n : ℕ). holds (λ (d : Call). is_over_in d (final_at a) end_seen) (numbered end_seen.calls n)) (eqb-true a.row.call c.number e)
      ∙ ap (holds (λ (d : Call). is_over_in d (final_at a) end_seen)) own_now

  pub dead_by : (a : Attempt) (b : Bool) → is_of c a ≡ b → is_live end_seen end_call (final_at a) ≡ false
  dead_by a false e = ap (λ (b : Bool). b && (is_outstanding (final_at a) || is_queued (final_at a) end_seen)) e
  dead_by a true e =
      let ps : Bool = is_some a.row.placed in
      let en : Bool = is_none a.row.ended in
      let ended : is_none (final_at a).row.ended ≡ (if (true && ((ps && en) && true)) then false else en)
      = none_if (is_cut_off c.number all_gone a) (end_by_cut (entry s) (now s) tokens_now s a) a.row.ended
      ∙ ap (λ (b : Bool). if (b && ((ps && en) && true)) then false else en) e in
      ap (λ (b : Bool). b && (is_outstanding (final_at a) || is_queued (final_at a) end_seen)) e
      ∙ ap (λ (b : Bool). is_outstanding (final_at a) || ((is_none a.row.placed && is_none (final_at a).row.ended) && not b)) (over_now a e)
      ∙ ap (λ (b : Bool). (ps && b) || ((not ps && b) && not true)) ended ∙ dead_bools ps en

  pub live_now : live_rows end_seen end_call ≡ []
  live_now =
      kept_map (is_live end_seen end_call) (λ (a : Attempt). false) final_at live_row s.attempts
      (all_from (λ (a : Attempt). is_live end_seen end_call (final_at a) ≡ false) (λ a. dead_by a (is_of c a) refl) s.attempts)
      ∙ ap (map (λ (a : Attempt). live_row (final_at a))) (none_kept s.attempts)

  -- its attempts
  pub due_now : ((due_state end_call end_seen).newest ≡ (due_state c s).newest) × ((due_state end_call end_seen).placed ≡ (due_state c s).placed)
      × ((due_state end_call end_seen).stopped ≡ true)
  due_now =
      due_stopped s end_seen c end_call final_at (λ a. refl) (λ a. refl) refl mark.Closed (now s) (filter (is_cut_off c.number all_gone) s.attempts) (λ z. refl) refl

  pub attempts_now : AttemptsAgree end_seen end_call (stopped_attempts x.call.attempts)
  attempts_now =
      let a : AttemptsAgree s c x.call.attempts = h.sees.attempts in
      record {
        sent = made_still (entry s) (now s) tokens_now s c own_stamp all_gone ∙ a.sent;
        due = record { newest = due_now.0 ∙ a.due.newest; placed = due_now.1 ∙ a.due.placed; stopped = due_now.2; forced = λ e. absurd (true≢false e) };
        unplaced = a.unplaced;
        delayed = λ keeps free. delayed_same (entry s) (now s) tokens_now s c (Some end_now) marks_now current x.call.attempts.sent ∙ a.delayed keeps free;
        last = λ free. last_same (entry s) (now s) tokens_now s c (Some end_now) marks_now current first refl h.places end_call refl ∙ a.last free;
        refused = retried_still (entry s) (now s) tokens_now s c own_stamp all_gone c ∙ a.refused;
        committed = ap (option_map (λ (q : Attempt). q.place)) (commitment_same (entry s) (now s) tokens_now s c (Some end_now) marks_now current c)
            ∙ place_map final_at (λ q. refl) (commitment c s) ∙ a.committed;
      }

  pub stamped_now : numbered end_step.ledger.calls c.number ≡ Some (call_seen end_seen end_call)
  stamped_now =
      let e : CallEnd = end_by x.ledger.entry (now s) why in
      ap (λ (k : ℕ). numbered (stamps.changed_at (stamps.ended_call e) x.ledger.calls k) c.number) (sym h.sees.number_is)
      ∙ stamped_here (stamps.ended_call e) c.number x.ledger.calls (call_seen s c) h.sees.call_is
      ∙ ap (λ (k : CallSeen). Some k) (end_is (call_seen s c) e open_now)
      ∙ ap (λ (j : ℕ). Some (record (call_seen s c) { end = Some (end_by j (now s) why) })) (sym h.sees.entry_is)
      ∙ ap (λ (made : List ℕ). Some (record (call_seen s c) { made = made; end = Some end_now }))
      (sym (kept_map (is_of end_call) (is_of c) final_at (λ (a : Attempt). a.made) s.attempts (all_from (λ (a : Attempt). is_of end_call (final_at a) ≡ is_of c a) (λ a. refl) s.attempts)))

  pub sees_now : Sees end_seen end_call end_step
  sees_now = record {
    own = own_now;
    number_is = h.sees.number_is;
    request = h.sees.request;
    begun = h.sees.begun;
    chosen = h.sees.chosen;
    finished = h.sees.finished;
    longest_is = h.sees.longest_is;
    ended = refl;
    attempts = attempts_now;
    live = live_now;
    tokens = bucket_cut (entry s) (now s) tokens_now s c own_stamp all_gone (Some end_now) marks_now current (run_of c s) h.counted ∙ h.sees.tokens;
    entry_is = ap (λ (b : Bool). length s.entries + (if b then 1 else 0)) still ∙ h.sees.entry_is;
    rows = map_map final_at (λ (a : Attempt). a.row) s.attempts;
    call_is = stamped_now;
  }

  -- its response
  pub limit_now : (q : Attempt) → limit_of_attempt (final_at q) end_seen ≡ limit_of_attempt q s
  limit_now q = read_same (becomes (Some end_now) marks_now) c.number s.calls (λ (d : Call). (chosen_of d s).response) message_limit (λ d. refl) q.row.call

  pub all_read : (q : Attempt) (l : Link) (o : Option Placed) → q.row.placed ≡ o → link_of q s ≡ Some l → list_all (is_read_by (read_bytes l)) l.traffic ≡ true
  all_read q l None p e = absurd (some_not (sym e ∙ ap (option_and_then (λ (at : Placed). numbered s.links at.link)) p))
  all_read q l (Some at) p e =
      true_at (λ (z : Link). list_all (is_read_by (read_bytes z)) z.traffic) s.links at.link l h.reads
      (sym (ap (option_and_then (λ (z : Placed). numbered s.links z.link)) p) ∙ e)

  pub traffic_if : (q : Attempt) (l : Link) (b : Bool) → is_cut_off c.number all_gone q ≡ b → link_of q s ≡ Some l
      → option_map_or (λ (e : RowEnd). traffic_by e.seen l.traffic) (if b then Some (end_by_cut (entry s) (now s) tokens_now s q) else q.row.ended) l.traffic ≡ traffic_of q l.traffic
  traffic_if q l false off e = refl
  traffic_if q l true off e =
      ap (λ (o : Option Link). traffic_by (option_map_or read_bytes o 0) l.traffic) e ∙ traffic_all (read_bytes l) l.traffic (all_read q l q.row.placed refl e)
      ∙ sym (ap (λ (o : Option RowEnd). option_map_or (λ (e : RowEnd). traffic_by e.seen l.traffic) o l.traffic)
      (none_of q.row.placed q.row.ended (out_of (q.row.call == c.number) (is_outstanding q) true off)))

  pub on_now : (q : Attempt) (stream : ℕ) (o : Option Link) → link_of q s ≡ o
      → option_map_or (response_on (final_at q) stream end_seen) o no_response ≡ option_map_or (response_on q stream s) o no_response
  on_now q stream None e = refl
  on_now q stream (Some l) e =
      ap (λ (n : ℕ). response_in n stream (traffic_of (final_at q) l.traffic)) (limit_now q)
      ∙ ap (response_in (limit_of_attempt q s) stream) (traffic_if q l (is_cut_off c.number all_gone q) refl e)

  pub by_now : (q : Attempt) (o : Option ℕ) → response_by (final_at q) end_seen o ≡ response_by q s o
  by_now q None = refl
  by_now q (Some stream) = on_now q stream (link_of q s) refl

  pub came_by : (o : Option Attempt) → option_map_or (λ (q : Attempt). response_items (response q end_seen)) (option_map final_at o) []
      ≡ option_map_or (λ (q : Attempt). response_items (response q s)) o []
  came_by None = refl
  came_by (Some q) = ap response_items (by_now q q.row.stream)

  pub came_now : came end_call end_seen ≡ came c s
  came_now =
      ap (λ (o : Option Attempt). option_map_or (λ (q : Attempt). response_items (response q end_seen)) o [])
      (commitment_same (entry s) (now s) tokens_now s c (Some end_now) marks_now current c) ∙ came_by (commitment c s)

  pub placed_still : (xs : List Attempt) (n : ℕ) → AttemptsStandInPlace n xs → AttemptsStandInPlace n (map final_at xs)
  placed_still [] n p = tt
  placed_still (a ∷ xs) n p = (p.0, placed_still xs (suc n) p.1)

  pub serves_ended : Serves end_seen end_call (closed_by why (now s) x)
  serves_ended =
      let whole : Serves end_seen end_call end_step = record {
        sees = sees_now;
        places = placed_still s.attempts 1 h.places;
        config = h.config;
        links = h.links;
        reads = h.reads;
        counted = counted_cut (entry s) (now s) tokens_now s c own_stamp all_gone (Some end_now) marks_now current (run_of c s) h.counted;
        end_taken = h.end_taken;
        going = λ e. absurd (some_not e);
        left = λ e. subst (λ (l : List Reply). IsLeft l c.taken (channel.came x.call)) (sym came_now) (h.left e);
        holds = λ e. absurd (some_not e);
      } in
      subst (Serves end_seen end_call) (sym step_is) whole
