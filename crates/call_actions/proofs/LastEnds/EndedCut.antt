-- A call is committed to an attempt that has ended, and its other attempts are cut off: session and channel agree, and the call is in order.
use Rattle.std.proofs.Common.{◌≡◌, ◌+◌, ◌∷◌, ◌++◌, ◌&&◌, nat_lt, ap, refl, subst, sym, ◌∙◌, Bool, true, false, List, [], Option, None, Some, ℕ, suc, filter, if◌then◌else◌, is_some, length, map, true≢false}
use Rattle.std.proofs.lemmas.List.Folds.{list_all-append}
use Rattle.std.specs.List.{AllByRecursion, list_all, list_any}
use Rattle.std.specs.Option.{option_map, option_map_or}
use Rattle.attempt_ledger.specs.declared.ledger.Ledger.{Ledger}
use Rattle.attempt_ledger.specs.declared.row.Row.{Row}
use Rattle.attempt_ledger.specs.declared.row.RowEnd.{RowEnd}
use Rattle.call_actions.proofs.Lists.{changed_here}
use Rattle.call_actions.proofs.Ranks.{all_so}
use Rattle.call_actions.specs.Order.{AttemptsAreNumbered, IsInOrder, is_beyond, is_own_mark}
use Rattle.call_actions.specs.Sees.{AttemptsAgree, Sees}
use Rattle.call_core.specs.Parts.{committed_attempts, count_of, kept_alone}
use Rattle.call_core.specs.Steps as steps
use Rattle.call_core.specs.Steps.{Stepped, commit_stamped, cut_all, reported_all}
use Rattle.call_core.specs.declared.attempts.Attempts.{Attempts}
use Rattle.call_core.specs.declared.live.LiveRow.{LiveRow}
use Rattle.call_actions.proofs.LastEnds.EndedLive.{commitment_is, cuts_are, live_cut, none_alone}
use Rattle.call_actions.specs.LastEnds.Laws.{CanClose}
use Rattle.ledger_stamps.specs.Steps.{changed_at, committed_row}
use Rattle.session_actions.specs.Attempts.{commitment, is_commitment, is_of, is_outstanding}
use Rattle.session_actions.specs.DueAttempts.{attempts_made, due_state}
use Rattle.session_actions.specs.Entries.{entry, now}
use Rattle.session_actions.specs.Sessions.{call_seen, link_seen}
use Rattle.session_actions.specs.Tokens.{run_of}
use Rattle.session_actions.specs.Words.{changed, holds, numbered}
use Rattle.session_actions.specs.declared.attempt.Attempt.{Attempt}
use Rattle.session_actions.specs.declared.call.Call.{Call}
use Rattle.session_actions.specs.declared.call.Mark.{Mark}
use Rattle.session_actions.specs.declared.call.MarkKind.{MarkKind}
use Rattle.session_actions.specs.declared.call.MarkKind.TheVariants as mark
use Rattle.session_actions.specs.declared.config.ThrottleRun.{ThrottleRun}
use Rattle.session_actions.specs.declared.entry.OpenEntry.{OpenEntry}
use Rattle.session_actions.specs.declared.seen.Seen.{Seen}
use Rattle.call_actions.proofs.TakeActions.CutAttempts.{becomes, due_stopped, end_by_cut, ended_mark, finally, gone_by, half, is_cut_off, made_still, retried_still, stamp_of}
use Rattle.call_actions.proofs.TakeActions.CutLive.{all_fail}
use Rattle.call_actions.proofs.TakeActions.CutRows.{cuts_through, rows_committed}
use Rattle.call_actions.proofs.TakeActions.CutSees.{all_at, uncommitted_by}
use Rattle.call_actions.proofs.TakeActions.CutTokens.{bucket_cut}
use Rattle.call_actions.proofs.TakeActions.EndCounts.{all_placed, kept_all}
use Rattle.call_actions.proofs.TakeActions.Maps.{all_from, any_map, kept_map, map_map, numbered_each}
use Rattle.call_actions.specs.TakeActions.Serves.{AttemptsStandInPlace, is_ended_at}

of_own : (test : Attempt → Bool) (f : Attempt → Attempt) → ((a : Attempt) → test a ≡ true → test (f a) ≡ true) → (o : Option Attempt) → holds test o ≡ true
    → holds test (option_map f o) ≡ true
of_own test f still None e = absurd (cc)
of_own test f still (Some a) e = still a e

own_end : (mine cut : Bool) (e : RowEnd) (o : Option RowEnd) → (mine && is_some o) ≡ true → (mine && is_some (if cut then Some e else o)) ≡ true
own_end true true e o h = refl
own_end true false e o h = h
own_end false cut e o h = absurd (cc)

own_of_cut : (mine rest : Bool) → (mine && rest) ≡ true → mine ≡ true
own_of_cut true rest e = refl
own_of_cut false rest e = absurd (cc)

placed_still : (f : Attempt → Attempt) → ((a : Attempt) → (f a).place ≡ a.place) → (n : ℕ) (xs : List Attempt) → AttemptsAreNumbered n xs → AttemptsAreNumbered n (map f xs)
placed_still f same n [] p = tt
placed_still f same n (a ∷ xs) p = (same a ∙ p.0, placed_still f same (suc n) xs p.1)

pub places_of : (n : ℕ) (xs : List Attempt) → AttemptsAreNumbered n xs → AttemptsStandInPlace n xs
places_of n [] p = tt
places_of n (a ∷ xs) p = (p.0, places_of (suc n) xs p.1)

-- what a channel knows of a call's attempts, where no further one is to be made
pub record KnowsAlike (a b : Attempts) : Type 0 where
  pub sent : a.sent ≡ b.sent
  pub newest : a.newest ≡ b.newest
  pub placed : a.placed ≡ b.placed
  pub refused : a.is_refusal_followed ≡ b.is_refusal_followed

module _ (s : Seen) (c : Call) (x : Stepped) (k : Attempt) (known : Attempts) (h : Sees s c x) (alike : KnowsAlike x.call.attempts known) (o : IsInOrder s c) (can : CanClose s c k) (links : map link_seen s.links ≡ x.ledger.links)
    (counted : option_map_or (λ (run : ThrottleRun). list_all (is_ended_at s) run.ends) (run_of c s) true ≡ true) (current : Option OpenEntry)
    (still : is_some current ≡ is_some s.current) where
  places : AttemptsStandInPlace 1 s.attempts
  places = places_of 1 s.attempts o.places

  abbrev pub tokens_now : Option ℕ
  tokens_now = count_of x.tokens

  abbrev pub final_at : Attempt → Attempt
  final_at a = finally (entry s) (now s) tokens_now s c k a

  abbrev pub cuts_now : List Attempt
  cuts_now = filter (is_cut_off c.number (gone_by k)) s.attempts

  abbrev pub marks_now : List Mark
  marks_now = record { what = mark.Committed; moment = now s } ∷ map (ended_mark (now s)) cuts_now

  abbrev pub cut_seen : Seen
  cut_seen = record s { attempts = map final_at s.attempts; calls = changed (becomes c.end marks_now) c.number s.calls; current = current }

  abbrev pub cut_call : Call
  cut_call = becomes c.end marks_now c

  -- the ledger
  pub free_row : k.row.committed ≡ None
  free_row =
      uncommitted_by k.row.committed (is_of c k) can.mine
      (all_at (λ (a : Attempt). is_commitment c a ≡ false) s.attempts k.place k (all_fail (is_commitment c) s.attempts can.free) can.at)

  abbrev pub cut_ledger : Ledger
  cut_ledger = record x.ledger { rows = map (λ (a : Attempt). (final_at a).row) s.attempts }

  pub stamped_is : changed_at (committed_row x.ledger.entry) x.ledger.rows k.place ≡ map (half (stamp_of (entry s) k)) s.attempts
  stamped_is =
      ap (λ (i : ℕ). changed_at (committed_row i) x.ledger.rows k.place) (sym h.entry_is)
      ∙ ap (λ (rows : List Row). changed_at (committed_row (entry s)) rows k.place) (sym h.rows)
      ∙ rows_committed (entry s) k s.attempts free_row places can.at

  pub ledger_is : cut_all (Some k.place) (now s) tokens_now x.call.live (commit_stamped k.place x.ledger) ≡ cut_ledger
  ledger_is =
      ap (λ (rows : List Row). cut_all (Some k.place) (now s) tokens_now x.call.live (record x.ledger { rows = rows })) stamped_is
      ∙ ap (λ (live : List LiveRow). cut_all (Some k.place) (now s) tokens_now live (record x.ledger { rows = map (half (stamp_of (entry s) k)) s.attempts })) (sym h.live)
      ∙ cuts_through (entry s) (now s) tokens_now s c (stamp_of (entry s) k) (gone_by k) (Some k.place) x.ledger (sym links) (sym h.entry_is) s.attempts [] 0 refl places
      (cuts_are s c k can h.own places (entry s) (now s) tokens_now marks_now current)

  -- what the channel makes of it
  abbrev pub with_known : Stepped
  with_known = record x { call = record x.call { attempts = known } }

  abbrev pub cut_step : Ledger → Stepped
  cut_step ledger = record {
    call = record x.call { live = kept_alone k.place x.call.live; attempts = committed_attempts k.place known };
    ledger = ledger;
    tokens = x.tokens;
    acts = reported_all (Some k.place) x.call.live x.acts;
  }

  pub step_is : steps.committed k.place (now s) with_known ≡ cut_step cut_ledger
  step_is = ap cut_step ledger_is

  -- its attempts
  pub commitment_now : commitment cut_call cut_seen ≡ Some (final_at k)
  commitment_now = commitment_is s c k can h.own places (entry s) (now s) tokens_now marks_now current

  pub due_now : ((due_state cut_call cut_seen).newest ≡ (due_state c s).newest) × ((due_state cut_call cut_seen).placed ≡ (due_state c s).placed)
      × ((due_state cut_call cut_seen).stopped ≡ true)
  due_now = due_stopped s cut_seen c cut_call final_at (λ a. refl) (λ a. refl) refl mark.Committed (now s) cuts_now (λ z. refl) refl

  pub attempts_now : AttemptsAgree cut_seen cut_call (committed_attempts k.place known)
  attempts_now =
      let a : AttemptsAgree s c x.call.attempts = h.attempts in
      record {
        sent = made_still (entry s) (now s) tokens_now s c (stamp_of (entry s) k) (gone_by k) ∙ a.sent ∙ alike.sent;
        due = record { newest = due_now.0 ∙ a.due.newest ∙ alike.newest; placed = due_now.1 ∙ a.due.placed ∙ alike.placed; stopped = due_now.2; forced = λ e. absurd (true≢false e) };
        unplaced = λ e. sym alike.placed ∙ a.unplaced (alike.sent ∙ e);
        delayed = λ keeps e. absurd (cc);
        last = λ e. absurd (cc);
        refused = retried_still (entry s) (now s) tokens_now s c (stamp_of (entry s) k) (gone_by k) c ∙ a.refused ∙ alike.refused;
        committed = ap (option_map (λ (q : Attempt). q.place)) commitment_now;
      }

  pub sees_then : Sees cut_seen cut_call (cut_step cut_ledger)
  sees_then = record {
    own = changed_here (becomes c.end marks_now) c.number s.calls c h.own;
    number_is = h.number_is;
    request = h.request;
    begun = h.begun;
    chosen = h.chosen;
    finished = h.finished;
    longest_is = h.longest_is;
    ended = h.ended;
    attempts = attempts_now;
    live = live_cut s c k can h.own places (entry s) (now s) tokens_now marks_now current ∙ ap (kept_alone k.place) h.live;
    tokens = bucket_cut (entry s) (now s) tokens_now s c (stamp_of (entry s) k) (gone_by k) c.end marks_now current (run_of c s) counted ∙ h.tokens;
    entry_is = ap (λ (b : Bool). length s.entries + (if b then 1 else 0)) still ∙ h.entry_is;
    rows = map_map final_at (λ (a : Attempt). a.row) s.attempts;
    call_is = h.call_is ∙ ap (λ (made : List ℕ). Some (record (call_seen s c) { made = made }))
        (sym (kept_map (is_of cut_call) (is_of c) final_at (λ (a : Attempt). a.made) s.attempts (all_from (λ (a : Attempt). is_of cut_call (final_at a) ≡ is_of c a) (λ a. refl) s.attempts)));
  }

  pub sees_now : Sees cut_seen cut_call (steps.committed k.place (now s) with_known)
  sees_now = subst (Sees cut_seen cut_call) (sym step_is) sees_then

  pub none_left : (steps.committed k.place (now s) with_known).call.live ≡ []
  none_left = sym (ap (kept_alone k.place) h.live) ∙ none_alone s c k can h.own places (entry s) (now s) tokens_now marks_now current

  -- its order
  own_still : (w : MarkKind) → is_own_mark s c w ≡ true → is_own_mark cut_seen cut_call w ≡ true
  own_still mark.Configured e = refl
  own_still (mark.Made row) e = ap (holds (is_of c)) (numbered_each final_at s.attempts row) ∙ of_own (is_of c) final_at (λ a z. z) (numbered s.attempts row) e
  own_still (mark.Placed row) e = refl
  own_still (mark.Ended row) e =
      ap (holds (λ (a : Attempt). is_of c a && is_some a.row.ended)) (numbered_each final_at s.attempts row)
      ∙ of_own (λ (a : Attempt). is_of c a && is_some a.row.ended) final_at
      (λ a z. own_end (is_of c a) (is_cut_off c.number (gone_by k) a) (end_by_cut (entry s) (now s) tokens_now s a) a.row.ended z) (numbered s.attempts row) e
  own_still mark.Withheld e = refl
  own_still mark.Committed e = refl
  own_still mark.Closed e = refl

  cut_is_own : (a : Attempt) → numbered s.attempts a.place ≡ Some a → is_cut_off c.number (gone_by k) a ≡ true → is_own_mark cut_seen cut_call (mark.Ended a.place) ≡ true
  cut_is_own a at off =
      ap (holds (λ (q : Attempt). is_of c q && is_some q.row.ended)) (numbered_each final_at s.attempts a.place ∙ ap (option_map final_at) at)
      ∙ ap (λ (b : Bool). is_of c a && is_some (if b then Some (end_by_cut (entry s) (now s) tokens_now s a) else a.row.ended)) off
      ∙ ap (λ (b : Bool). b && true) (own_of_cut (is_of c a) (is_outstanding a && gone_by k a) off)

  cuts_are_own : (cuts : List Attempt) → AllByRecursion (λ (a : Attempt). (numbered s.attempts a.place ≡ Some a) × (is_cut_off c.number (gone_by k) a ≡ true)) cuts
      → list_all (λ (m : Mark). is_own_mark cut_seen cut_call m.what) (map (ended_mark (now s)) cuts) ≡ true
  cuts_are_own [] all = refl
  cuts_are_own (a ∷ cuts) all =
      ap (λ (b : Bool). b && list_all (λ (m : Mark). is_own_mark cut_seen cut_call m.what) (map (ended_mark (now s)) cuts)) (cut_is_own a all.0.0 all.0.1)
      ∙ cuts_are_own cuts all.1

  marks_then : list_all (λ (m : Mark). is_own_mark cut_seen cut_call m.what) (c.marks ++ marks_now) ≡ true
  marks_then =
      list_all-append (λ (m : Mark). is_own_mark cut_seen cut_call m.what) c.marks marks_now
      ∙ ap (λ (b : Bool). b && list_all (λ (m : Mark). is_own_mark cut_seen cut_call m.what) marks_now)
      (all_so (λ (m : Mark). is_own_mark s c m.what) (λ (m : Mark). is_own_mark cut_seen cut_call m.what) (λ m e. own_still m.what e) c.marks o.marks)
      ∙ cuts_are_own cuts_now
      (kept_all (λ (a : Attempt). numbered s.attempts a.place ≡ Some a) (is_cut_off c.number (gone_by k)) s.attempts (all_placed [] s.attempts places))

  made_then : attempts_made cut_call cut_seen ≡ attempts_made c s
  made_then = made_still (entry s) (now s) tokens_now s c (stamp_of (entry s) k) (gone_by k)

  pub order_now : IsInOrder cut_seen cut_call
  order_now = record {
    places = placed_still final_at (λ a. refl) 1 s.attempts o.places;
    marks = marks_then;
    numbers = ap (λ (n : ℕ). list_any (λ (q : Attempt). is_of c q && nat_lt n q.row.number) (map final_at s.attempts)) made_then
        ∙ any_map (is_beyond s c) (is_beyond s c) final_at (λ q. refl) s.attempts ∙ o.numbers;
    first = λ e. due_now.0 ∙ o.first (sym made_then ∙ e);
    stops = λ e. due_now.2;
  }
