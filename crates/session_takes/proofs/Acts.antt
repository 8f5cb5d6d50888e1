-- What each action brings to a call.
use Rattle.attempt_ledger.specs.declared.row.Placed.{Placed}
use Rattle.call_actions.specs.CallsApart.Apart.{acts_on, call_opened}
use Rattle.call_actions.specs.TakesApart.Received.{has_stream, is_on, passes_on, stream_of_sent}
use Rattle.channel_actions.proofs.KeptSessions.Along.{places_of}
use Rattle.channel_actions.proofs.KeptSessions.Lists.{all_at}
use Rattle.channel_actions.specs.FewCalls.Reached.{IsReached}
use Rattle.channel_actions.specs.KeptSessions.Kept.{came_up, is_on_link}
use Rattle.grpc_base.specs.declared.event.EndCause.{EndCause}
use Rattle.grpc_base.specs.declared.event.Reply.{Reply}
use Rattle.session_actions.specs.Actions.{after, after_in, following, following_in}
use Rattle.session_actions.specs.Attempts.{commitment, is_of}
use Rattle.session_actions.specs.Deliveries.{with_message}
use Rattle.session_actions.specs.Entries.{now}
use Rattle.session_actions.specs.Sessions.{IsNext}
use Rattle.session_actions.specs.Words.{changed, holds, is_number, numbered}
use Rattle.session_actions.specs.declared.action.Action.{Action}
use Rattle.session_actions.specs.declared.action.CommitCause.{CommitCause}
use Rattle.session_actions.specs.declared.attempt.Attempt.{Attempt}
use Rattle.session_actions.specs.declared.call.Call.{Call}
use Rattle.session_actions.specs.declared.entry.OpenEntry.{OpenEntry}
use Rattle.session_actions.specs.declared.link.Link.{Link}
use Rattle.session_actions.specs.declared.link.ReadFrame.{ReadFrame}
use Rattle.session_actions.specs.declared.link.Sent.{Sent}
use Rattle.session_actions.specs.declared.seen.Seen.{Seen}
use Rattle.session_order.proofs.Changed.{none_from}
use Rattle.session_order.proofs.SessionLaws.Found.{same_of}
use Rattle.session_order.proofs.SessionLaws.Same.{is_quiet}
use Rattle.session_takes.proofs.Came.{same_moves, step_moves}
use Rattle.session_takes.proofs.Frames.{read_goes, written_goes}
use Rattle.session_takes.proofs.Prefixes.{inside}
use Rattle.session_takes.proofs.Continues.{Continues, as_it_was, config_goes, end_goes, ended_goes, goes_by, handled, item_goes, keeps_by, kept, made_goes, no_more, own_key, placed_goes, quiet_limits, reset_goes, reported_key, reported_mark}
use Rattle.session_takes.proofs.CommitmentPassesAlong.{after_then, kept_of}
use Rattle.session_takes.proofs.Received.{traffic_on}
use Rattle.session_takes.proofs.Joining.{committed_goes}
use Rattle.session_takes.proofs.Lines.{next_meant}
use Rattle.session_takes.proofs.Meant.{IsClosing, IsConfiguring, IsJoined, IsMeant}
use Rattle.session_takes.specs.Takes.{taken_by}
use Rattle.std.proofs.Common.{Bool, List, None, Option, Some, [], ap, arith, false, is_some, length, refl, slice_get, subst, suc, sym, true, zero, ℕ, ◌&&◌, ◌++◌, ◌+◌, ◌==◌, ◌∙◌, ◌∷◌, ◌≡◌, ◌≤◌}
use Rattle.std.proofs.lemmas.Bool.{eqb-true}
use Rattle.std.specs.List.{list_any}
use Rattle.std.specs.Option.{option_map, option_map_or}
use Rattle.std.specs.Prelude.{option_and_then}
use Rattle.session_actions.specs.declared.action.Action.TheVariants as action
use Rattle.session_actions.specs.declared.call.MarkKind.TheVariants as mark

not_next : (n m : ℕ) → n ≤ m → (m + 1 == n) ≡ false
not_next n m e = by (m + 1 == n) refl
  where
    by : (b : Bool) → (m + 1 == n) ≡ b → b ≡ false
    by false f = refl
    by true f = let same : m + 1 ≡ n = eqb-true (m + 1) n f in absurd (omega (arith, e, same))

in_list : {X : Type 0} (xs : List X) (n : ℕ) (x : X) → numbered xs n ≡ Some x → n ≤ length xs
in_list {X = X} xs zero x e = absurd (let bad : ◌≡◌ {A = Option X} None (Some x) = e in (cc))
in_list xs (suc i) x e = inside xs i x e

none_afterwards : {X : Type 0} (xs : List X) → is_some (numbered xs (length xs + 1)) ≡ false
none_afterwards xs = ap (λ (n : ℕ). is_some (numbered xs n)) (let more : length xs + 1 ≡ suc (length xs) = omega arith in more) ∙ past_end xs
  where
    past_end : {Y : Type 0} (ys : List Y) → is_some (slice_get ys (length ys)) ≡ false
    past_end [] = refl
    past_end (y ∷ ys) = past_end ys

module _ (s : Seen) (reached : IsReached s) (c : Call) (own : numbered s.calls c.number ≡ Some c) (o : OpenEntry) (current : s.current ≡ Some o) where
  into : (a : Action) (n : ℕ) → Continues s (after_in o a s) c n → Continues s (after a s) c n
  into a n g = subst (λ (t : Seen). Continues s t c n) (sym (after_then s a o current)) g

  other : (a : Action) → is_number c.number (acts_on a s) ≡ false → passes_on a s c ≡ false → Continues s (after a s) c (length (taken_by c.number a))
  other a off passes = handled s reached c own a off passes

  -- no attempt of it is on a link that comes up only now
  up_by : (a : Attempt) (p : Option Placed) → is_of c a ≡ true → option_map_or (λ (at : Placed). came_up s at.link) p true ≡ true → holds (λ (at : Placed). at.link == length s.links + 1) p ≡ false
  up_by a None mine there = refl
  up_by a (Some at) mine there = by (at.link == length s.links + 1) refl
    where
      by : (b : Bool) → (at.link == length s.links + 1) ≡ b → b ≡ false
      by false e = refl
      by true e =
          absurd
          (let bad : true ≡ false
          = sym there ∙ ap (λ (n : ℕ). is_some (numbered s.links n)) (eqb-true at.link (length s.links + 1) e) ∙ none_afterwards s.links in (cc))

  up_at : (k : ℕ) (a : Attempt) → numbered s.attempts k ≡ Some a → (is_of c a && is_on (length s.links + 1) a) ≡ false
  up_at k a got = by (is_of c a) refl
    where
      by : (b : Bool) → is_of c a ≡ b → (b && is_on (length s.links + 1) a) ≡ false
      by false e = refl
      by true e = up_by a a.row.placed e (all_at (is_on_link s) s.attempts k a (kept s reached c own).placed got)

  up_off : list_any (λ (a : Attempt). is_of c a && is_on (length s.links + 1) a) s.attempts ≡ false
  up_off = none_from (λ (a : Attempt). is_of c a && is_on (length s.links + 1) a) s.attempts up_at

  item_by : (call : ℕ) (item : Reply) (b : Bool) → (call == c.number) ≡ b → Continues s (after (action.ItemTaken call item) s) c (length (taken_by c.number (action.ItemTaken call item)))
  item_by call item true e = into (action.ItemTaken call item) (length (taken_by c.number (action.ItemTaken call item))) (item_goes s reached c own o call item e)
  item_by call item false e = other (action.ItemTaken call item) e refl

  end_by : (call : ℕ) (why : EndCause) → IsClosing call why s → (b : Bool) → (call == c.number) ≡ b → Continues s (after (action.CallEnds call why) s) c 0
  end_by call why m true e = into (action.CallEnds call why) 0 (end_goes s reached c own o call why e m)
  end_by call why m false e = other (action.CallEnds call why) e refl

  config_by : (call config : ℕ) → IsConfiguring call s → (b : Bool) → (call == c.number) ≡ b → Continues s (after (action.CallConfigured call config) s) c 0
  config_by call config m true e = into (action.CallConfigured call config) 0 (config_goes s reached c own o call config e m)
  config_by call config m false e = other (action.CallConfigured call config) e refl

  commit_by : (row : ℕ) (why : CommitCause) (m : IsJoined row s) (b : Bool) → (m.here.row.call == c.number) ≡ b → Continues s (after (action.CallCommitted row why) s) c 0
  commit_by row why m true e =
      let same : m.here.row.call ≡ c.number = eqb-true m.here.row.call c.number e in
      into (action.CallCommitted row why) 0
      (committed_goes s reached c own row m (same_of (numbered s.calls m.here.row.call) m.call c m.its (ap (numbered s.calls) same ∙ own)) o why)
  commit_by row why m false e =
      other (action.CallCommitted row why) (ap (λ (p : Option Attempt). is_number c.number (option_map (λ (a : Attempt). a.row.call) p)) m.there ∙ e) refl

  read_by : (link : ℕ) (r : ReadFrame) → following s ≡ Some (action.FrameRead link r) → (p : Option Link) → numbered s.links link ≡ p → Continues s (after (action.FrameRead link r) s) c 0
  read_by link r next None got = other (action.FrameRead link r) refl (ap (holds (has_stream c s r.frame.stream)) got)
  read_by link r next (Some l) got = into (action.FrameRead link r) 0 (read_goes s reached c own o current link r next l got)

  written_by : (link : ℕ) (x : Sent) → following s ≡ Some (action.FrameWritten link x) → (p : Option Link) → numbered s.links link ≡ p → Continues s (after (action.FrameWritten link x) s) c 0
  written_by link x next None got =
      other (action.FrameWritten link x) (ap (λ (p : Option Link). is_number c.number (option_and_then (call_opened x s) p)) got) (ap (holds (stream_of_sent c s x)) got)
  written_by link x next (Some l) got = into (action.FrameWritten link x) 0 (written_goes s reached c own o current link x next l got)

  -- an action that only posts something to a call
  reported : (a : Action) (f : Call → Call) (call : ℕ) → ((d : Call) → own_key (f d) ≡ own_key d) → is_quiet a ≡ true → (after_in o a s).calls ≡ changed f call s.calls
      → (after_in o a s).attempts ≡ s.attempts → (after_in o a s).links ≡ s.links → Continues s (after a s) c 0
  reported a f call same quiet calls rows lines =
      let t : Seen = after_in o a s in
      into a 0
      (goes_by s reached c own t (ap (λ (cs : List Call). option_map own_key (numbered cs c.number)) calls ∙ keeps_by f same call s.calls c.number)
      (as_it_was s reached c own t (quiet_limits s o a quiet) rows (λ b. ap (traffic_on b) lines)))

  goes_in : (a : Action) → IsNext a s → IsMeant a s → Continues s (after a s) c (length (taken_by c.number a))
  goes_in action.CallBegins next m = other action.CallBegins (not_next c.number (length s.calls) (in_list s.calls c.number c own)) refl
  goes_in (action.LinkUp sub) next m = other (action.LinkUp sub) refl up_off
  goes_in (action.ItemTaken call item) next m = item_by call item (call == c.number) refl
  goes_in (action.MessageAccepted call) next m = reported (action.MessageAccepted call) (with_message o.event) call (reported_key o.event) refl refl refl refl
  goes_in (action.RequestFinished call) next m = reported (action.RequestFinished call) (λ (d : Call). record d { finished = true }) call (λ d. refl) refl refl refl refl
  goes_in (action.HedgeWithheld call) next m =
      reported (action.HedgeWithheld call) (λ (d : Call). record d { marks = d.marks ++ record { what = mark.Withheld; moment = now s } ∷ [] }) call (reported_mark mark.Withheld (λ b. refl) (now s)) refl refl refl refl
  goes_in (action.CallEnds call why) next m = end_by call why m (call == c.number) refl
  goes_in (action.CallConfigured call config) next m = config_by call config m (call == c.number) refl
  goes_in (action.AttemptMade call number k due) next m = into (action.AttemptMade call number k due) 0 (made_goes s reached c own o call number k due)
  goes_in (action.AttemptPlaced row where_to) next m = into (action.AttemptPlaced row where_to) 0 (placed_goes s reached c own o row where_to m)
  goes_in (action.AttemptEnds row e) next m = into (action.AttemptEnds row e) 0 (ended_goes s reached c own o row e m)
  goes_in (action.CallCommitted row why) next m = commit_by row why m (m.here.row.call == c.number) refl
  goes_in (action.StreamReset row number) next m = into (action.StreamReset row number) 0 (reset_goes s reached c own o row number (numbered s.attempts row) refl)
  goes_in (action.FrameRead link r) next m = read_by link r next (numbered s.links link) refl
  goes_in (action.FrameWritten link x) next m = written_by link x next (numbered s.links link) refl
  goes_in a next m = other a refl refl

-- between two entries only an entry may begin
module _ (s : Seen) (reached : IsReached s) (c : Call) (own : numbered s.calls c.number ≡ Some c) where
  never_idle : (a : Action) → s.current ≡ None → following s ≡ Some a → ⊥
  never_idle a none next = let bad : ◌≡◌ {A = Option Action} None (Some a) = sym (ap (option_and_then (following_in s)) none) ∙ next in (cc)

  idle : (a : Action) → s.current ≡ None → IsNext a s → Continues s (after a s) c (length (taken_by c.number a))
  idle (action.EntryOpens posted word e) none next = handled s reached c own (action.EntryOpens posted word e) refl refl
  idle (action.EventRefused why) none next = absurd (never_idle (action.EventRefused why) none next)
  idle (action.EventAnswered r) none next = absurd (never_idle (action.EventAnswered r) none next)
  idle a none next = absurd (never_idle a none next)

  goes_by_entry : (a : Action) → IsNext a s → (p : Option OpenEntry) → s.current ≡ p → Continues s (after a s) c (length (taken_by c.number a))
  goes_by_entry a next (Some o) e = goes_in s reached c own o e a next (next_meant s a (places_of s (kept_of s reached)) next)
  goes_by_entry a next None e = idle a e next

  pub goes : (a : Action) → IsNext a s → Continues s (after a s) c (length (taken_by c.number a))
  goes a next = goes_by_entry a next s.current refl
