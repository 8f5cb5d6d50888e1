-- What an action brings to a call: all that it has stays, and more may come after it while it is open.
use Rattle.attempt_ledger.specs.Ends.{is_cut}
use Rattle.attempt_ledger.specs.Numbering.{is_transparent}
use Rattle.attempt_ledger.specs.declared.ledger.CallEnd.{CallEnd}
use Rattle.attempt_ledger.specs.declared.row.Placed.{Placed}
use Rattle.attempt_ledger.specs.declared.row.RowEnd.{RowEnd}
use Rattle.attempt_ledger.specs.declared.row.RowKind.{RowKind}
use Rattle.call_actions.proofs.CallsApart.Acts.{others_stay}
use Rattle.call_actions.proofs.CallsApart.Kept.{commitment_same}
use Rattle.call_actions.proofs.Ranks.{find_last_more}
use Rattle.call_actions.proofs.TakeActions.EndSees.{traffic_all}
use Rattle.call_actions.proofs.TakesApart.Received.{others_are_received}
use Rattle.call_actions.specs.CallsApart.Apart.{IsApart, acts_on}
use Rattle.call_actions.specs.TakesApart.Received.{IsReceivedAlike, passes_on}
use Rattle.channel_actions.proofs.Links.Prefaced.Along.{prefaced_begins}
use Rattle.channel_actions.proofs.Calls.Kept.Along.{early_along, early_begins}
use Rattle.channel_actions.proofs.KeptSessions.Along.{kept_begins, places_of}
use Rattle.channel_actions.proofs.KeptSessions.Lists.{all_at, all_get}
use Rattle.channel_actions.proofs.Streams.Own.Along.{streams_along, streams_begin}
use Rattle.channel_actions.proofs.TransparentRetries.Along.{are_retried}
use Rattle.channel_actions.proofs.TransparentRetries.Rows.{Retried}
use Rattle.channel_actions.specs.FewCalls.Reached.{IsReached}
use Rattle.channel_actions.specs.KeptCalls.Early.{IsEarlyKept, is_past}
use Rattle.channel_actions.specs.KeptSessions.Kept.{IsKept}
use Rattle.channel_actions.specs.OwnStreams.Own.{StreamsAreOwn, is_below_next, is_opened}
use Rattle.grpc_base.specs.declared.event.EndCause.{EndCause}
use Rattle.grpc_base.specs.declared.event.Event.{Event}
use Rattle.grpc_base.specs.declared.event.Reply.{Reply}
use Rattle.h2_frame.specs.Sent.{rst_stream_frame}
use Rattle.session_actions.specs.Actions.{after, after_in}
use Rattle.session_actions.specs.AttemptEnds.{attempt_ended_as, stream_reset_of, with_end, with_end_in_run, with_reset_queued}
use Rattle.session_actions.specs.Attempts.{call_of, commitment, counts_by, is_commitment, is_counted, is_of, is_to_follow, with_attempt}
use Rattle.session_actions.specs.Calls.{marked}
use Rattle.session_actions.specs.Configs.{config_of_call}
use Rattle.session_actions.specs.Deliveries.{is_by_row, is_end, response_items, with_message}
use Rattle.session_actions.specs.Entries.{entry, now}
use Rattle.session_actions.specs.Links.{link_number, link_of, read_bytes, stream_number}
use Rattle.session_actions.specs.Making.{new_row, with_row, without_turn_unless}
use Rattle.session_actions.specs.Policies.{with_placing}
use Rattle.session_actions.specs.Responses.{is_read_by, limit_of_attempt, response_in, traffic_by}
use Rattle.session_actions.specs.Sessions.{new_session}
use Rattle.session_actions.specs.Words.{changed, find_last, holds, is_number, numbered}
use Rattle.session_actions.specs.declared.action.Action.{Action}
use Rattle.session_actions.specs.declared.attempt.Attempt.{Attempt}
use Rattle.session_actions.specs.declared.call.Call.{Call}
use Rattle.session_actions.specs.declared.call.MarkKind.{MarkKind}
use Rattle.session_actions.specs.declared.config.HeldConfig.{HeldConfig}
use Rattle.session_actions.specs.declared.config.ThrottleRun.{ThrottleRun}
use Rattle.session_actions.specs.declared.entry.OpenEntry.{OpenEntry}
use Rattle.session_actions.specs.declared.link.Link.{Link}
use Rattle.session_actions.specs.declared.link.Traffic.{Traffic}
use Rattle.session_actions.specs.declared.seen.Seen.{Seen}
use Rattle.session_order.proofs.Changed.{changed_here, lookup}
use Rattle.session_order.proofs.SessionLaws.Found.{same_of}
use Rattle.session_order.proofs.SessionLaws.Same.{Same, is_quiet, made_keeps, same_if, same_self}
use Rattle.session_order.specs.Order.{IsInPlace}
use Rattle.session_takes.proofs.Came.{Step, same_moves, step_moves}
use Rattle.session_takes.proofs.Transferred.{CommitmentPasses, some_holds}
use Rattle.session_takes.proofs.CommitmentPassesAlong.{transferred_of, kept_of}
use Rattle.session_takes.proofs.Received.{KeepsLimits, alike_items, items_at, items_is, limit_same, no_stream, row_moves, traffic_kept, traffic_on}
use Rattle.session_takes.proofs.Lasts.{IsIn, last_in}
use Rattle.session_takes.proofs.Meant.{IsClosing, IsConfiguring, IsEnding, IsPlacing}
use Rattle.session_takes.proofs.Pairs.{AllMove, Moves, MovesIf, last_moves, moves_changed}
use Rattle.session_takes.proofs.Rows.{ended_rows, made_rows, placed_rows, reset_rows}
use Rattle.session_takes.proofs.Settled.{Settles, settle, settled, settled_more, settles_by}
use Rattle.session_takes.specs.Takes.{taken_by}
use Rattle.std.proofs.Common.{Bool, List, None, Option, Some, [], ap, arith, false, if◌then◌else◌, is_some, length, not, refl, slice_get, subst, suc, sym, true, ℕ, ◌&&◌, ◌++◌, ◌+◌, ◌==◌, ◌||◌, ◌∙◌, ◌∷◌, ◌≡◌}
use Rattle.std.proofs.lemmas.Bool.{and_parts, eqb-true}
use Rattle.std.specs.List.{list_all}
use Rattle.std.specs.Option.{option_map, option_map_or}
use Rattle.std.specs.Prelude.{option_and_then}
use Rattle.session_actions.specs.declared.action.Action.TheVariants as action
use Rattle.grpc_base.specs.declared.event.Event.TheVariants as event
use Rattle.session_actions.specs.declared.call.MarkKind.TheVariants as mark

pub record Continues (s t : Seen) (c : Call) (n : ℕ) : Type 0 where
  pub call : Call
  pub there : numbered t.calls c.number ≡ Some call
  pub number : call.number ≡ c.number
  pub taken : call.taken ≡ c.taken + n
  pub step : Step s t c call
  pub settles : Settles s c → Settles t call

-- what is looked at of a call beside its config: its number, its end, how many items were taken, and whether it was committed since it got its config
abbrev pub OwnKey : Type 0
OwnKey = ℕ × (Option CallEnd × (ℕ × Bool))

abbrev pub own_key : Call → OwnKey
own_key c = (c.number, (c.end, (c.taken, settled c.marks)))

record IsKeyed (o : Option Call) (q : OwnKey) : Type 0 where
  call : Call
  there : o ≡ Some call
  same : own_key call ≡ q

keyed : (o : Option Call) (q : OwnKey) → option_map own_key o ≡ Some q → IsKeyed o q
keyed None q e = absurd (let bad : ◌≡◌ {A = Option OwnKey} None (Some q) = e in (cc))
keyed (Some d) q e = record { call = d; there = refl; same = (let one : own_key d ≡ q = (cc) in one) }

pub no_more : (n : ℕ) → n ≡ n + 0
no_more n = omega arith

abbrev pub KeepsCall : Seen → Seen → Call → Type 0
KeepsCall s t c = option_map own_key (numbered t.calls c.number) ≡ option_map own_key (numbered s.calls c.number)

pub keeps_by : (f : Call → Call) → ((d : Call) → own_key (f d) ≡ own_key d) → (n : ℕ) (calls : List Call) (k : ℕ)
    → option_map own_key (numbered (changed f n calls) k) ≡ option_map own_key (numbered calls k)
keeps_by f same n calls k = lookup (option_map own_key) f (λ d. ap (λ (q : OwnKey). Some q) (same d)) n calls k

limits_of : (s t : Seen) → Same s t → KeepsLimits s t
limits_of s t h = record { calls = h.calls; configs = h.configs }

pub quiet_limits : (s : Seen) (o : OpenEntry) (a : Action) → is_quiet a ≡ true → KeepsLimits s (after_in o a s)
quiet_limits s o a quiet = limits_of s (after_in o a s) (same_if (Some o) a s (same_self s) quiet)

pub reported_key : (e : Event) (d : Call) → own_key (with_message e d) ≡ own_key d
reported_key (event.Send call message) d = refl
reported_key _ d = refl

-- a mark that is neither of a config nor of a commitment
pub reported_mark : (what : MarkKind) → ((b : Bool) → settle b what ≡ b) → (moment : ℕ) (d : Call) → own_key (record d { marks = d.marks ++ record { what = what; moment = moment } ∷ [] }) ≡ own_key d
reported_mark what plain moment d =
    ap (λ (b : Bool). (d.number, (d.end, (d.taken, b)))) (settled_more d.marks (record { what = what; moment = moment }) ∙ plain (settled d.marks))

marked_keeps : (what : MarkKind) → ((b : Bool) → settle b what ≡ b) → (s : Seen) (o : Option Attempt) (k : ℕ)
    → option_map own_key (numbered (option_map_or (λ (a : Attempt). marked what a.row.call s) o s).calls k) ≡ option_map own_key (numbered s.calls k)
marked_keeps what plain s None k = refl
marked_keeps what plain s (Some a) k =
    keeps_by (λ (d : Call). record d { marks = d.marks ++ record { what = what; moment = now s } ∷ [] }) (reported_mark what plain (now s)) a.row.call s.calls k

marked_links : (what : MarkKind) (s : Seen) (o : Option Attempt) → (option_map_or (λ (a : Attempt). marked what a.row.call s) o s).links ≡ s.links
marked_links what s None = refl
marked_links what s (Some a) = refl

turned_calls : (b : Bool) (s : Seen) → (without_turn_unless b s).calls ≡ s.calls
turned_calls true s = refl
turned_calls false s = refl

turned_links : (b : Bool) (s : Seen) → (without_turn_unless b s).links ≡ s.links
turned_links true s = refl
turned_links false s = refl

run_links : (s : Seen) (a : Attempt) (b : Bool) (run : Option ℕ)
    → (if b then option_map_or (λ (k : ℕ). record s { runs = changed (λ (u : ThrottleRun). record u { ends = u.ends ++ a.place ∷ [] }) k s.runs }) run s else s).links ≡ s.links
run_links s a true None = refl
run_links s a true (Some k) = refl
run_links s a false run = refl

counted_links : (s : Seen) (a : Attempt) (e : RowEnd) (o : Option Call) → (option_map_or (with_end_in_run a e s) o s).links ≡ s.links
counted_links s a e None = refl
counted_links s a e (Some c) =
    run_links s a (not (is_cut e.cause) && not (is_to_follow c e.cause e.unseen s)) (option_and_then (λ (h : HeldConfig). h.run) (config_of_call c s))

run_calls : (s : Seen) (a : Attempt) (b : Bool) (run : Option ℕ)
    → (if b then option_map_or (λ (k : ℕ). record s { runs = changed (λ (u : ThrottleRun). record u { ends = u.ends ++ a.place ∷ [] }) k s.runs }) run s else s).calls ≡ s.calls
run_calls s a true None = refl
run_calls s a true (Some k) = refl
run_calls s a false run = refl

counted_calls : (s : Seen) (a : Attempt) (e : RowEnd) (o : Option Call) → (option_map_or (with_end_in_run a e s) o s).calls ≡ s.calls
counted_calls s a e None = refl
counted_calls s a e (Some c) =
    run_calls s a (not (is_cut e.cause) && not (is_to_follow c e.cause e.unseen s)) (option_and_then (λ (h : HeldConfig). h.run) (config_of_call c s))

pub none_taken : (n : ℕ) (a : Action) (s : Seen) → is_number n (acts_on a s) ≡ false → taken_by n a ≡ []
none_taken n (action.ItemTaken call item) s off = ap (λ (b : Bool). if b then item ∷ [] else []) off
none_taken n _ s off = refl

counted_ended : (s : Seen) (o : Option Attempt) → holds (λ (k : Attempt). is_counted k s) o ≡ true → is_some (option_and_then (λ (k : Attempt). k.row.ended) o) ≡ true
counted_ended s None e = absurd (cc)
counted_ended s (Some k) e = some_holds (counts_by k s) k.row.ended e

no_stream_by : (links : List Link) (stream : Option ℕ) (placed : Option Placed) → placed ≡ None
    → option_map_or (λ (n : ℕ). holds (λ (at : Placed). is_below_next links n at.link) placed) stream true ≡ true → stream ≡ None
no_stream_by links None placed e ok = refl
no_stream_by links (Some n) placed e ok =
    absurd (let bad : false ≡ true = sym (ap (holds (λ (at : Placed). is_below_next links n at.link)) e) ∙ ok in (cc))

and_none : (b : Bool) → (b && false) ≡ false
and_none true = refl
and_none false = refl

module _ (s : Seen) (reached : IsReached s) (c : Call) (own : numbered s.calls c.number ≡ Some c) where
  pub kept : IsKept s
  kept = kept_of s reached

  pub early : IsEarlyKept s
  early = early_along reached.actions (new_session reached.setup) s (kept_begins reached.setup) (early_begins reached.setup) reached.does

  streams : StreamsAreOwn s
  streams =
      streams_along reached.actions (new_session reached.setup) s (kept_begins reached.setup) (prefaced_begins reached.setup) (streams_begin reached.setup) reached.does

  pub retried : Retried s
  retried = (are_retried reached.setup reached.actions s reached.does).1

  pub transferred : CommitmentPasses s.attempts
  transferred = transferred_of s reached

  pub place : IsInPlace s
  place = places_of s kept

  abbrev closed : Bool
  closed = is_some c.end

  -- where the call is as it was, but for marks and the like
  pub goes_by : (t : Seen) → KeepsCall s t c → ((d : Call) → d.number ≡ c.number → MovesIf closed s t (commitment c s) (commitment d t)) → Continues s t c 0
  goes_by t same moves =
      let d : IsKeyed (numbered t.calls c.number) (own_key c) = keyed (numbered t.calls c.number) (own_key c) (same ∙ ap (option_map own_key) own) in
      let number : d.call.number ≡ c.number = ap (λ (q : OwnKey). q.0) d.same in
      let end : d.call.end ≡ c.end = ap (λ (q : OwnKey). q.1.0) d.same in
      record {
        call = d.call;
        there = d.there;
        number = number;
        taken = ap (λ (q : OwnKey). q.1.1.0) d.same ∙ no_more c.taken;
        step = step_moves c d.call s t end (moves d.call number);
        settles = settles_by closed s t c d.call (ap (λ (q : OwnKey). q.1.1.1) d.same) (moves d.call number);
      }

  pub commits_as : (t : Seen) (d : Call) → d.number ≡ c.number → t.attempts ≡ s.attempts → commitment d t ≡ commitment c s
  commits_as t d number rows =
      ap (λ (n : ℕ). find_last (λ (a : Attempt). (a.row.call == n) && is_some a.row.committed) t.attempts) number ∙ ap (find_last (is_commitment c)) rows

  -- where attempts are as they were, and what passed on their links
  pub as_it_was : (t : Seen) → KeepsLimits s t → t.attempts ≡ s.attempts → ((a : Attempt) → traffic_on a t.links ≡ traffic_on a s.links) → (d : Call) → d.number ≡ c.number
      → MovesIf closed s t (commitment c s) (commitment d t)
  as_it_was t limits rows lines d number =
      same_moves closed s t (commitment c s) (commitment d t) (commits_as t d number rows)
      (λ k e. alike_items s t k k (record { limit = limit_same s t k k limits refl; ended = refl; traffic = lines k; stream = refl }))

  -- where one attempt changes
  pub one_changed : (t : Seen) (f : Attempt → Attempt) (n : ℕ) → t.attempts ≡ changed f n s.attempts
      → ((i : ℕ) (a : Attempt) → slice_get s.attempts i ≡ Some a → Moves c s t a a) → ((a : Attempt) → numbered s.attempts n ≡ Some a → Moves c s t a (f a)) → (d : Call)
      → d.number ≡ c.number → MovesIf closed s t (commitment c s) (commitment d t)
  one_changed t f n rows each one d number =
      last_moves c d s t number s.attempts t.attempts
      (subst (λ (l : List Attempt). AllMove c s t s.attempts l) (sym rows) (moves_changed c d s t number f n s.attempts each one))

  pub stays_as : (t : Seen) → KeepsLimits s t → ((a : Attempt) → traffic_on a t.links ≡ traffic_on a s.links) → (a : Attempt) → Moves c s t a a
  stays_as t limits lines a =
      row_moves c s t a a refl refl (λ e. refl)
      (alike_items s t a a (record { limit = limit_same s t a a limits refl; ended = refl; traffic = lines a; stream = refl }))

  -- an action that is not of the call
  pub handled : (a : Action) → is_number c.number (acts_on a s) ≡ false → passes_on a s c ≡ false → Continues s (after a s) c (length (taken_by c.number a))
  handled a off passes =
      let t : Seen = after a s in
      let apart : IsApart s t c = others_stay s c a kept.book own off in
      let alike : IsReceivedAlike s t c = others_are_received s c a kept.book own off passes in
      let none : length (taken_by c.number a) ≡ 0 = ap (λ (l : List Reply). length l) (none_taken c.number a s off) in
      record {
        call = c;
        there = apart.call ∙ own;
        number = refl;
        taken = no_more c.taken ∙ ap (λ (n : ℕ). c.taken + n) (sym none);
        step = step_moves c c s t refl
            (same_moves closed s t (commitment c s) (commitment c t) (commitment_same s t c apart own)
            (λ k e.
            (let f : IsIn (is_commitment c) s.attempts k = last_in (is_commitment c) s.attempts k e in
            alike.came (suc f.index) k f.here (and_parts (is_of c k) (is_some k.row.committed) f.passes).0)));
        settles = λ h e. h (sym (ap (λ (p : Option Attempt). is_some p) (commitment_same s t c apart own)) ∙ e);
      }

  -- what an application posts
  pub item_goes : (o : OpenEntry) (call : ℕ) (item : Reply) → (call == c.number) ≡ true → Continues s (after_in o (action.ItemTaken call item) s) c (length (taken_by c.number (action.ItemTaken call item)))
  item_goes o call item is =
      let f : Call → Call = λ (d : Call). record d { taken = d.taken + 1; end_taken = is_end item } in
      let t : Seen = after_in o (action.ItemTaken call item) s in
      let same : call ≡ c.number = eqb-true call c.number is in
      let one : length (taken_by c.number (action.ItemTaken call item)) ≡ 1 = ap (λ (b : Bool). length (if b then item ∷ [] else [])) is in
      record {
        call = f c;
        there = ap (λ (n : ℕ). numbered (changed f n s.calls) c.number) same ∙ changed_here f c.number s.calls c own;
        number = refl;
        taken = ap (λ (n : ℕ). c.taken + n) (sym one);
        step = step_moves c (f c) s t refl
            (as_it_was t (quiet_limits s o (action.ItemTaken call item) refl) refl (λ a. refl) (f c) refl);
        settles = settles_by closed s t c (f c) refl (as_it_was t (quiet_limits s o (action.ItemTaken call item) refl) refl (λ a. refl) (f c) refl);
      }

  -- a call that ends
  pub end_goes : (o : OpenEntry) (call : ℕ) (why : EndCause) → (call == c.number) ≡ true → IsClosing call why s → Continues s (after_in o (action.CallEnds call why) s) c 0
  end_goes o call why is m =
      let mark_it : Call → Call = λ (d : Call). record d { marks = d.marks ++ record { what = mark.Closed; moment = now s } ∷ [] } in
      let end_it : Call → Call = λ (d : Call). record d { end = Some (record { entry = entry s; moment = now s; cause = why }) } in
      let t : Seen = after_in o (action.CallEnds call why) s in
      let same : call ≡ c.number = eqb-true call c.number is in
      let here : m.here ≡ c = same_of (numbered s.calls call) m.here c m.there (ap (numbered s.calls) same ∙ own) in
      let goes : c.end ≡ None = ap (λ (z : Call). z.end) (sym here) ∙ m.goes_on in
      let d : Call = end_it (mark_it c) in
      let commits : commitment d t ≡ commitment c s = commits_as t d refl refl in
      let moves : MovesIf closed s t (commitment c s) (commitment d t) = as_it_was t (quiet_limits s o (action.CallEnds call why) refl) refl (λ a. refl) d refl in
      let once : Step s t c (record d { end = c.end }) = step_moves c (record d { end = c.end }) s t refl moves in
      record {
        call = d;
        there = ap (λ (n : ℕ). numbered (changed end_it n (changed mark_it n s.calls)) c.number) same
            ∙ changed_here end_it c.number (changed mark_it c.number s.calls) (mark_it c) (changed_here mark_it c.number s.calls c own);
        number = refl;
        taken = no_more c.taken;
        step = record {
          prefix = once.prefix;
          stays = λ e. absurd (let bad : false ≡ true = sym (ap (λ (p : Option CallEnd). is_some p) goes) ∙ e in (cc));
          still = once.still;
          ended = once.ended;
          by_row = λ e x there by.
              (let cause_is : why ≡ x.cause = (let both : ◌≡◌ {A = Option CallEnd} (Some (record { entry = entry s; moment = now s; cause = why })) (Some x) = there in
              let inner : ◌≡◌ {A = CallEnd} (record { entry = entry s; moment = now s; cause = why }) x = (cc) in ap (λ (z : CallEnd). z.cause) inner) in
              let counts : holds (λ (k : Attempt). is_counted k s) (commitment c s) ≡ true
              = ap (λ (z : Call). holds (λ (k : Attempt). is_counted k s) (commitment z s)) (sym here) ∙ m.by_row (ap is_by_row cause_is ∙ by) in
              ap (λ (p : Option Attempt). is_some (option_and_then (λ (k : Attempt). k.row.ended) p)) commits ∙ counted_ended s (commitment c s) counts);
        };
        settles = settles_by closed s t c d (settled_more c.marks (record { what = mark.Closed; moment = now s })) moves;
      }

  -- a call that gets its config has no attempt
  pub none_yet : c.end ≡ None → c.config ≡ None → (p : Option Attempt) → commitment c s ≡ p → p ≡ None
  none_yet end config None e = refl
  none_yet end config (Some k) e =
      let f : IsIn (is_commitment c) s.attempts k = last_in (is_commitment c) s.attempts k e in
      let mine : is_of c k ≡ true = (and_parts (is_of c k) (is_some k.row.committed) f.passes).0 in
      let past : holds is_past (numbered s.calls k.row.call) ≡ true = all_get (λ (a : Attempt). holds is_past (call_of a s)) s.attempts f.index k early.made f.here in
      let its : numbered s.calls k.row.call ≡ Some c = ap (numbered s.calls) (eqb-true k.row.call c.number mine) ∙ own in
      let was : is_past c ≡ true = sym (ap (holds is_past) its) ∙ past in
      absurd
      (let bad : false ≡ true
      = sym (ap (λ (x : Option CallEnd). is_some x || is_some c.config) end ∙ ap (λ (x : Option ℕ). is_some x) config) ∙ was in (cc))

  pub config_goes : (o : OpenEntry) (call config : ℕ) → (call == c.number) ≡ true → IsConfiguring call s → Continues s (after_in o (action.CallConfigured call config) s) c 0
  config_goes o call config is m =
      let t : Seen = after_in o (action.CallConfigured call config) s in
      let same : call ≡ c.number = eqb-true call c.number is in
      let here : m.here ≡ c = same_of (numbered s.calls call) m.here c m.there (ap (numbered s.calls) same ∙ own) in
      let none : commitment c s ≡ None
      = none_yet (ap (λ (z : Call). z.end) (sym here) ∙ m.goes_on) (ap (λ (z : Call). z.config) (sym here) ∙ m.none) (commitment c s) refl in
      let mark_it : Call → Call = λ (d : Call). record d { marks = d.marks ++ record { what = mark.Configured; moment = now s } ∷ [] } in
      let give_it : Call → Call = λ (d : Call). record d { config = Some config; configured = Some (entry s) } in
      let d : Call = give_it (mark_it c) in
      let still : commitment d t ≡ None = commits_as t d refl refl ∙ none in
      record {
        call = d;
        there = ap (λ (n : ℕ). numbered (changed give_it n (changed mark_it n s.calls)) c.number) same
            ∙ changed_here give_it c.number (changed mark_it c.number s.calls) (mark_it c) (changed_here mark_it c.number s.calls c own);
        number = refl;
        taken = no_more c.taken;
        step = step_moves c d s t refl
            (subst (λ (p : Option Attempt). MovesIf closed s t p (commitment d t)) (sym none) (subst (λ (p : Option Attempt). MovesIf closed s t None p) (sym still) tt));
        settles = λ h e. absurd (let bad : false ≡ true = sym (ap (λ (p : Option Attempt). is_some p) still) ∙ e in (cc));
      }

  -- attempts
  pub made_goes : (o : OpenEntry) (call number : ℕ) (k : RowKind) (due : ℕ) → Continues s (after_in o (action.AttemptMade call number k due) s) c 0
  made_goes o call number k due =
      let t : Seen = after_in o (action.AttemptMade call number k due) s in
      let new_one : Attempt = record { place = length s.attempts + 1; row = new_row call number k due; made = entry s; reset = false } in
      let u : Seen = with_row (new_row call number k due) s in
      let m : Seen = marked (mark.Made (length s.attempts + 1)) call u in
      let same : Same u t = made_keeps call number k due s in
      let limits : KeepsLimits s t = record { calls = same.calls; configs = same.configs } in
      goes_by t
      (ap (λ (cs : List Call). option_map own_key (numbered cs c.number)) (turned_calls (is_transparent k) m)
      ∙ keeps_by (λ (d : Call). record d { marks = d.marks ++ record { what = mark.Made (length s.attempts + 1); moment = now u } ∷ [] })
      (reported_mark (mark.Made (length s.attempts + 1)) (λ b. refl) (now u)) call s.calls c.number)
      (λ d number_.
      same_moves closed s t (commitment c s) (commitment d t)
      (ap (find_last (is_commitment d)) (made_rows o call number k due s)
      ∙ find_last_more (is_commitment d) s.attempts new_one (and_none (call == d.number))
      ∙ ap (λ (n : ℕ). find_last (λ (a : Attempt). (a.row.call == n) && is_some a.row.committed) s.attempts) number_)
      (λ q e.
      alike_items s t q q
      (record { limit = limit_same s t q q limits refl; ended = refl; traffic = ap (traffic_on q) (turned_links (is_transparent k) m); stream = refl })))

  pub placed_goes : (o : OpenEntry) (row : ℕ) (where_to : Placed) → IsPlacing row s → Continues s (after_in o (action.AttemptPlaced row where_to) s) c 0
  placed_goes o row where_to m =
      let t : Seen = after_in o (action.AttemptPlaced row where_to) s in
      let u : Seen = with_attempt (with_placing where_to) row s in
      let lines : t.links ≡ s.links = marked_links (mark.Placed row) u (numbered u.attempts row) in
      let limits : KeepsLimits s t = quiet_limits s o (action.AttemptPlaced row where_to) refl in
      goes_by t (marked_keeps (mark.Placed row) (λ b. refl) u (numbered u.attempts row) c.number)
      (one_changed t (with_placing where_to) row (placed_rows o row where_to s) (λ i a got. stays_as t limits (λ b. ap (traffic_on b) lines) a)
      (λ a got.
      (let here : m.here ≡ a = same_of (numbered s.attempts row) m.here a m.there got in
      let unplaced : a.row.placed ≡ None = ap (λ (z : Attempt). z.row.placed) (sym here) ∙ m.waits in
      let none : a.row.stream ≡ None = no_stream_by s.links a.row.stream a.row.placed unplaced (all_at (is_opened s.links) s.attempts row a streams.opened got) in
      row_moves c s t a (with_placing where_to a) refl refl (λ e. refl) (no_stream (with_placing where_to a) t none ∙ sym (no_stream a s none)))))

  -- all that passed was seen at an end
  seen_by : (a : Attempt) (e : RowEnd) (stream : Option ℕ) (p : Option Placed) → e.seen ≡ option_map_or read_bytes (option_and_then (λ (at : Placed). numbered s.links at.link) p) 0
      → items_at (limit_of_attempt a s) (Some e) (option_map (λ (l : Link). l.traffic) (option_and_then (λ (at : Placed). numbered s.links at.link) p)) stream
      ≡ items_at (limit_of_attempt a s) None (option_map (λ (l : Link). l.traffic) (option_and_then (λ (at : Placed). numbered s.links at.link) p)) stream
  seen_by a e None p seen = refl
  seen_by a e (Some stream) None seen = refl
  seen_by a e (Some stream) (Some at) seen = by (numbered s.links at.link) refl seen
    where
      by : (q : Option Link) → numbered s.links at.link ≡ q → e.seen ≡ option_map_or read_bytes q 0
          → items_at (limit_of_attempt a s) (Some e) (option_map (λ (l : Link). l.traffic) q) (Some stream) ≡ items_at (limit_of_attempt a s) None (option_map (λ (l : Link). l.traffic) q) (Some stream)
      by None got is = refl
      by (Some l) got is =
          let all : traffic_by e.seen l.traffic ≡ l.traffic
          = ap (λ (n : ℕ). traffic_by n l.traffic) is
          ∙ traffic_all (read_bytes l) l.traffic (all_at (λ (k : Link). list_all (is_read_by (read_bytes k)) k.traffic) s.links at.link l kept.reads got) in
          ap (λ (ts : List Traffic). response_items (response_in (limit_of_attempt a s) stream ts)) all

  pub ended_goes : (o : OpenEntry) (row : ℕ) (e : RowEnd) → IsEnding row e s → Continues s (after_in o (action.AttemptEnds row e) s) c 0
  ended_goes o row e m =
      let t : Seen = after_in o (action.AttemptEnds row e) s in
      let t_is : t ≡ attempt_ended_as e s m.here = ap (λ (p : Option Attempt). option_map_or (attempt_ended_as e s) p s) m.there in
      let u : Seen = option_map_or (with_end_in_run m.here e s) (call_of m.here s) s in
      let lines : t.links ≡ s.links = ap (λ (z : Seen). z.links) t_is ∙ counted_links s m.here e (call_of m.here s) in
      let limits : KeepsLimits s t = quiet_limits s o (action.AttemptEnds row e) refl in
      let at : m.here.place ≡ row = place.attempts row m.here m.there in
      goes_by t
      (ap (λ (z : Seen). option_map own_key (numbered z.calls c.number)) t_is
      ∙ keeps_by (λ (d : Call). record d { marks = d.marks ++ record { what = mark.Ended m.here.place; moment = now (with_attempt (with_end e) m.here.place u) } ∷ [] })
      (reported_mark (mark.Ended m.here.place) (λ b. refl) (now (with_attempt (with_end e) m.here.place u)))
      m.here.row.call u.calls c.number
      ∙ ap (λ (cs : List Call). option_map own_key (numbered cs c.number)) (counted_calls s m.here e (call_of m.here s)))
      (one_changed t (with_end e) m.here.place (ended_rows o row e s m.here m.there) (λ i a got. stays_as t limits (λ b. ap (traffic_on b) lines) a)
      (λ a got.
      (let here : m.here ≡ a = same_of (numbered s.attempts m.here.place) m.here a (ap (numbered s.attempts) at ∙ m.there) got in
      let none : a.row.ended ≡ None = ap (λ (z : Attempt). z.row.ended) (sym here) ∙ m.goes_on in
      let seen : e.seen ≡ option_map_or read_bytes (link_of a s) 0 = ap (λ (z : RowEnd). z.seen) m.is ∙ ap (λ (z : Attempt). option_map_or read_bytes (link_of z s) 0) here in
      row_moves c s t a (with_end e a) refl refl
      (λ is. absurd (let bad : false ≡ true = sym (ap (λ (x : Option RowEnd). is_some x) none) ∙ is in (cc)))
      (items_is (with_end e a) t
      ∙ ap (λ (n : ℕ). items_at n (Some e) (traffic_on a t.links) a.row.stream) (limit_same s t a (with_end e a) limits refl)
      ∙ ap (λ (ls : List Link). items_at (limit_of_attempt a s) (Some e) (traffic_on a ls) a.row.stream) lines
      ∙ seen_by a e a.row.stream a.row.placed seen
      ∙ ap (λ (x : Option RowEnd). items_at (limit_of_attempt a s) x (traffic_on a s.links) a.row.stream) (sym none)
      ∙ sym (items_is a s)))))

  pub reset_goes : (o : OpenEntry) (row number : ℕ) (p : Option Attempt) → numbered s.attempts row ≡ p → Continues s (after_in o (action.StreamReset row number) s) c 0
  reset_goes o row number None got =
      let t : Seen = after_in o (action.StreamReset row number) s in
      let t_is : t ≡ s = ap (λ (p : Option Attempt). option_map_or (stream_reset_of number s) p s) got in
      goes_by t (ap (λ (z : Seen). option_map own_key (numbered z.calls c.number)) t_is)
      (as_it_was t (quiet_limits s o (action.StreamReset row number) refl) (ap (λ (z : Seen). z.attempts) t_is) (λ a. ap (λ (z : Seen). traffic_on a z.links) t_is))
  reset_goes o row number (Some a) got =
      let t : Seen = after_in o (action.StreamReset row number) s in
      let t_is : t ≡ stream_reset_of number s a = ap (λ (p : Option Attempt). option_map_or (stream_reset_of number s) p s) got in
      let limits : KeepsLimits s t = quiet_limits s o (action.StreamReset row number) refl in
      let lines : (b : Attempt) → traffic_on b t.links ≡ traffic_on b s.links
      = λ b. ap (λ (z : Seen). traffic_on b z.links) t_is
      ∙ traffic_kept (λ (l : Link). record l { owed = l.owed ++ rst_stream_frame (stream_number a) number ∷ [] }) (λ l. refl) (link_number a) s.links b in
      goes_by t (ap (λ (z : Seen). option_map own_key (numbered z.calls c.number)) t_is)
      (one_changed t with_reset_queued a.place (reset_rows o row number s a got) (λ i b at. stays_as t limits lines b)
      (λ b at.
      row_moves c s t b (with_reset_queued b) refl refl (λ e. refl)
      (alike_items s t b (with_reset_queued b) (record { limit = limit_same s t b (with_reset_queued b) limits refl; ended = refl; traffic = lines b; stream = refl }))))
