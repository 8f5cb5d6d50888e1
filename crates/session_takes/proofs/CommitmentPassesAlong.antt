-- To which attempts a call is committed: it is so in every session.
use Rattle.attempt_ledger.specs.TransparentRows.{is_by_peer, is_unsent}
use Rattle.attempt_ledger.specs.declared.row.RowEnd.{RowEnd}
use Rattle.attempt_ledger.specs.declared.row.RowKind.{RowKind}
use Rattle.channel_actions.proofs.Calls.Few.Reached.{reached_on}
use Rattle.channel_actions.proofs.KeptSessions.Along.{kept_along, kept_begins, places_of}
use Rattle.channel_actions.proofs.TransparentRetries.Along.{are_retried}
use Rattle.channel_actions.proofs.TransparentRetries.Fits.{IsNew, IsWanted}
use Rattle.channel_actions.proofs.TransparentRetries.Makes.{Which, followed_by, numbers_below, which}
use Rattle.channel_actions.proofs.TransparentRetries.Rows.{HasLater, Retried, SameNumber, is_again}
use Rattle.channel_actions.specs.FewCalls.Reached.{IsReached}
use Rattle.channel_actions.specs.KeptSessions.Kept.{IsKept}
use Rattle.channel_actions.specs.TransparentRetries.Laws.{was_unsent}
use Rattle.session_actions.specs.Actions.{after, after_if, after_in, following, following_in}
use Rattle.session_actions.specs.AttemptEnds.{with_end, with_reset_queued}
use Rattle.session_actions.specs.Attempts.{call_of, commitment, is_commitment, is_followed, is_of, is_to_follow, of_its_call, wants_follower, wants_follower_by, was_retried_so}
use Rattle.session_actions.specs.Commitments.{with_commitment}
use Rattle.session_actions.specs.DueAttempts.{attempts_made}
use Rattle.session_actions.specs.Entries.{entry}
use Rattle.session_actions.specs.Making.{new_row}
use Rattle.session_actions.specs.Policies.{with_placing}
use Rattle.session_actions.specs.Sessions.{Does, IsNext, new_session}
use Rattle.session_actions.specs.Words.{changed, holds, numbered}
use Rattle.session_actions.specs.Writing.{frame_written_on, stream_opened_by, with_stream}
use Rattle.session_actions.specs.declared.action.Action.{Action}
use Rattle.session_actions.specs.declared.attempt.Attempt.{Attempt}
use Rattle.session_actions.specs.declared.call.Call.{Call}
use Rattle.session_actions.specs.declared.entry.OpenEntry.{OpenEntry}
use Rattle.session_actions.specs.declared.link.Link.{Link}
use Rattle.session_actions.specs.declared.link.Sent.{Sent}
use Rattle.session_actions.specs.declared.seen.Seen.{Seen}
use Rattle.session_order.proofs.SessionLaws.Found.{none_of, same_of}
use Rattle.session_order.proofs.SessionLaws.Numbers.{attempts_are_numbered}
use Rattle.session_order.specs.Order.{IsInPlace}
use Rattle.session_order.specs.SessionLaws.Attempts.{IsCounted, RetriesRepeat, is_further_of}
use Rattle.session_takes.proofs.Transferred.{FollowedEnd, CommitmentPasses, KeepsRow, all_keep, committed_on, kept_on, more_on, some_holds}
use Rattle.session_takes.proofs.Lasts.{IsIn, last_in, none_last}
use Rattle.session_takes.proofs.Lines.{holds_some, next_meant}
use Rattle.session_takes.proofs.Meant.{IsEnding, IsFirst, IsHeir, IsJoined, IsMeant}
use Rattle.session_takes.proofs.Rows.{OpensOne, committed_rows, ended_rows, is_plain, made_rows, opened_rows, placed_rows, plain_rows, reset_none, reset_rows}
use Rattle.session_takes.specs.Commits.{CommitsAreOne}
use Rattle.std.proofs.Common.{Bool, List, None, Option, Some, [], ap, arith, false, inl, inr, is_none, is_some, length, nat_lt, not, refl, slice_get, subst, suc, sym, true, zero, ℕ, ◌&&◌, ◌++◌, ◌+◌, ◌<◌, ◌==◌, ◌||◌, ◌∙◌, ◌∷◌, ◌≡◌, ◌≤◌, ◌⊎◌}
use Rattle.std.proofs.lemmas.Bool.{and_parts, eq-eqb, eqb-true, ltb-true}
use Rattle.std.specs.List.{count_by}
use Rattle.std.specs.Option.{option_map_or}
use Rattle.std.specs.Prelude.{option_and_then}
use Rattle.session_actions.specs.declared.action.Action.TheVariants as action

pub kept_of : (s : Seen) → IsReached s → IsKept s
kept_of s r = kept_along r.actions (new_session r.setup) s (kept_begins r.setup) r.does

pub entry_of : (s : Seen) (a : Action) → following s ≡ Some a → (o : OpenEntry) × (s.current ≡ Some o)
entry_of s a e = by s.current e
  where
    by : (c : Option OpenEntry) → option_and_then (following_in s) c ≡ Some a → (o : OpenEntry) × (c ≡ Some o)
    by None f = absurd (let bad : ◌≡◌ {A = Option Action} None (Some a) = f in (cc))
    by (Some o) f = (o, refl)

pub after_then : (s : Seen) (a : Action) (o : OpenEntry) → s.current ≡ Some o → after a s ≡ after_in o a s
after_then s a o e = ap (λ (c : Option OpenEntry). after_if c a s) e

not_false : (b : Bool) → not b ≡ true → b ≡ false
not_false true e = absurd (cc)
not_false false e = refl

same_so : (n m : ℕ) → n ≡ m → (n == m) ≡ true
same_so n m e = eq-eqb n m e

and_so : (b c : Bool) → b ≡ true → c ≡ true → (b && c) ≡ true
and_so b c e f = ap (λ (x : Bool). x && c) e ∙ f

-- what an attempt that wants a follower says
record IsWanting (s : Seen) (q : Attempt) : Type 0 where
  end : RowEnd
  ended : q.row.ended ≡ Some end
  free : is_followed q s ≡ false
  call : Call
  its : call_of q s ≡ Some call
  may : is_to_follow call end.cause end.unseen s ≡ true

wanting : (s : Seen) (q : Attempt) → wants_follower q s ≡ true → IsWanting s q
wanting s q e =
    let h : (x : RowEnd) × (q.row.ended ≡ Some x) × (wants_follower_by q s x ≡ true) = holds_some (wants_follower_by q s) q.row.ended e in
    let both : (not (is_followed q s) ≡ true) × (of_its_call (λ (c : Call). is_to_follow c h.0.cause h.0.unseen s) q s ≡ true)
    = and_parts (not (is_followed q s)) (of_its_call (λ (c : Call). is_to_follow c h.0.cause h.0.unseen s) q s) h.2 in
    let c : (c : Call) × (call_of q s ≡ Some c) × (is_to_follow c h.0.cause h.0.unseen s ≡ true) = holds_some (λ (c : Call). is_to_follow c h.0.cause h.0.unseen s) (call_of q s) both.1 in
    record { end = h.0; ended = h.1; free = not_false (is_followed q s) both.0; call = c.0; its = c.1; may = c.2 }

-- it never left the client, or its call is not committed
may_by : (unsent unseen peer free once : Bool) → (unsent || (unseen && peer && free && once)) ≡ true → unsent ≡ false → free ≡ true
may_by true unseen peer free once e f = absurd (cc)
may_by false true true true once e f = refl
may_by false true true false once e f = absurd (cc)
may_by false true false free once e f = absurd (cc)
may_by false false peer free once e f = absurd (cc)

module _ (s : Seen) (reached : IsReached s) (h : CommitmentPasses s.attempts) where
  kept : IsKept s
  kept = kept_of s reached

  retried : Retried s
  retried = (are_retried reached.setup reached.actions s reached.does).1

  place : IsInPlace s
  place = places_of s kept

  follow : FollowedEnd s.attempts
  follow i a got l = some_holds is_again a.row.ended (retried.ended i a got l)

  -- attempts that change, but not in this
  changes : (f : Attempt → Attempt) (n : ℕ) → ((a : Attempt) → numbered s.attempts n ≡ Some a → KeepsRow a (f a)) → CommitmentPasses (changed f n s.attempts)
  changes f n each = kept_on s.attempts (changed f n s.attempts) (all_keep f n s.attempts each) follow h

  as_is : (rows : List Attempt) → rows ≡ s.attempts → CommitmentPasses rows
  as_is rows e = subst CommitmentPasses (sym e) h

  -- one that ends had no end
  ends : (row : ℕ) (e : RowEnd) (m : IsEnding row e s) (b : Attempt) → numbered s.attempts m.here.place ≡ Some b → KeepsRow b (with_end e b)
  ends row e m b got =
      let at : m.here.place ≡ row = place.attempts row m.here m.there in
      let one : m.here ≡ b = same_of (numbered s.attempts m.here.place) m.here b (ap (numbered s.attempts) at ∙ m.there) got in
      record {
        call = refl;
        number = refl;
        committed = refl;
        ended = λ is. absurd
            (let bad : false ≡ true = ap (λ (o : Option RowEnd). is_some o) (sym (ap (λ (z : Attempt). z.row.ended) (sym one) ∙ m.goes_on)) ∙ is in (cc));
      }

  resets : (o : OpenEntry) (row number : ℕ) (q : Option Attempt) → numbered s.attempts row ≡ q → CommitmentPasses (after_in o (action.StreamReset row number) s).attempts
  resets o row number None got = as_is (after_in o (action.StreamReset row number) s).attempts (reset_none o row number s got)
  resets o row number (Some a) got =
      subst CommitmentPasses (sym (reset_rows o row number s a got))
      (changes with_reset_queued a.place (λ b at. record { call = refl; number = refl; committed = refl; ended = λ e. refl }))

  writes_by : (x : Sent) (l : Link) → ((stream_opened_by x l s).attempts ≡ s.attempts) ⊎ OpensOne l s (stream_opened_by x l s).attempts → CommitmentPasses (stream_opened_by x l s).attempts
  writes_by x l (inl e) = as_is (stream_opened_by x l s).attempts e
  writes_by x l (inr k) =
      subst CommitmentPasses (sym k.is) (changes (with_stream k.number) k.waits.place (λ b at. record { call = refl; number = refl; committed = refl; ended = λ e. refl }))

  writes : (x : Sent) (q : Option Link) → CommitmentPasses (option_map_or (frame_written_on x s) q s).attempts
  writes x None = h
  writes x (Some l) = writes_by x l (opened_rows x l s)

  -- a commitment
  module _ (row : ℕ) (j : IsJoined row s) where
    own_call : j.call.number ≡ j.here.row.call
    own_call = place.calls j.here.row.call j.call j.its

    is_own : (b : Attempt) → j.here.row.call ≡ b.row.call → is_of j.call b ≡ true
    is_own b e = same_so b.row.call j.call.number (sym e ∙ sym own_call)

    -- the one to which it is committed before
    heir_in : (k : IsHeir j.here j.call s) → IsIn (is_commitment j.call) s.attempts k.before
    heir_in k = last_in (is_commitment j.call) s.attempts k.before k.committed

    heir_parts : (k : IsHeir j.here j.call s) → (k.before.row.number ≡ j.here.row.number) × (k.before.place < j.here.place)
    heir_parts k =
        let both : ((k.before.row.number == j.here.row.number) ≡ true) × (nat_lt k.before.place j.here.place ≡ true)
        = and_parts (k.before.row.number == j.here.row.number) (nat_lt k.before.place j.here.place) k.follows in
        (eqb-true k.before.row.number j.here.row.number both.0, ltb-true k.before.place j.here.place both.1)

    heir_committed : (k : IsHeir j.here j.call s) → (is_of j.call k.before ≡ true) × (is_some k.before.row.committed ≡ true)
    heir_committed k = and_parts (is_of j.call k.before) (is_some k.before.row.committed) (heir_in k).passes

    heir_call : (k : IsHeir j.here j.call s) → k.before.row.call ≡ j.here.row.call
    heir_call k = eqb-true k.before.row.call j.call.number (heir_committed k).0 ∙ own_call

    -- with a later one of its number it would have ended, and be followed
    never_followed : (i : ℕ) → slice_get s.attempts i ≡ Some j.here → HasLater s.attempts i j.here → (j.here.row.ended ≡ None) ⊎ (is_followed j.here s ≡ false) → ⊥
    never_followed i got l (inl none) = let bad : false ≡ true = ap (λ (o : Option RowEnd). is_some o) (sym none) ∙ follow i j.here got l in (cc)
    never_followed i got l (inr free) = let bad : false ≡ true = sym free ∙ followed_by s kept i j.here got l in (cc)

    later_here : (i n : ℕ) (x : Attempt) → slice_get s.attempts i ≡ Some j.here → slice_get s.attempts n ≡ Some x → suc i ≤ suc n → SameNumber j.here x → HasLater s.attempts n x
        → Which i n → HasLater s.attempts i j.here
    later_here i n x got there less same l (inl before) = record { index = n; later = x; here = there; afterwards = before; same = same }
    later_here i n x got there less same l (inr (inl here)) =
        let one : j.here ≡ x = same_of (slice_get s.attempts i) j.here x got (ap (slice_get s.attempts) here ∙ there) in
        subst (λ (z : Attempt). HasLater s.attempts i z) (sym one) (subst (λ (m : ℕ). HasLater s.attempts m x) (sym here) l)
    later_here i n x got there less same l (inr (inr afterwards)) = absurd (omega (arith, less, afterwards))

    joins_at : (i n : ℕ) (x : Attempt) → slice_get s.attempts i ≡ Some j.here → slice_get s.attempts n ≡ Some x → suc i ≤ suc n → SameNumber j.here x → HasLater s.attempts n x
        → was_unsent x ≡ false → IsFirst j.here j.call s ⊎ IsHeir j.here j.call s → ⊥
    joins_at i n x got there less same l left (inl k) = never_followed i got (later_here i n x got there less same l (which i n)) k.last
    joins_at i n x got there less same l left (inr k) =
        let f : IsIn (is_commitment j.call) s.attempts k.before = heir_in k in
        let p : (k.before.row.number ≡ j.here.row.number) × (k.before.place < j.here.place) = heir_parts k in
        let at : k.before.place ≡ suc f.index = place.attempts (suc f.index) k.before f.here in
        let own : j.here.place ≡ suc i = place.attempts (suc i) j.here got in
        let low : f.index ≤ n = omega (arith, at, own, less, p.1) in
        let none : is_some k.before.row.committed ≡ false
        = h.free f.index n k.before x f.here there low (heir_call k ∙ same.0, p.0 ∙ same.1) l left in
        let bad : false ≡ true = sym none ∙ (heir_committed k).1 in (cc)

    joins_by : (r : ℕ) → row ≡ r → numbered s.attempts r ≡ Some j.here → (n : ℕ) (x : Attempt) → slice_get s.attempts n ≡ Some x → r ≤ suc n → SameNumber j.here x → HasLater s.attempts n x
        → was_unsent x ≡ false → ⊥
    joins_by zero e got n x there less same l left = absurd (let bad : ◌≡◌ {A = Option Attempt} None (Some j.here) = got in (cc))
    joins_by (suc i) e got n x there less same l left = joins_at i n x got there less same l left j.joins

    alike_by : (n : ℕ) (b : Attempt) → slice_get s.attempts n ≡ Some b → j.here.row.call ≡ b.row.call → is_some b.row.committed ≡ true → IsFirst j.here j.call s ⊎ IsHeir j.here j.call s
        → j.here.row.number ≡ b.row.number
    alike_by n b got e c (inl k) =
        absurd (let bad : false ≡ true = sym (none_last (is_commitment j.call) s.attempts k.free n b got) ∙ and_so (is_of j.call b) (is_some b.row.committed) (is_own b e) c in (cc))
    alike_by n b got e c (inr k) =
        let f : IsIn (is_commitment j.call) s.attempts k.before = heir_in k in
        sym (heir_parts k).0 ∙ h.one f.index n k.before b f.here got (heir_call k ∙ e) (heir_committed k).1 c

    commits : (stamp : ℕ) → CommitmentPasses (changed (with_commitment stamp) row s.attempts)
    commits stamp =
        committed_on stamp row s.attempts j.here j.there (λ n x got less same l left. joins_by row refl j.there n x got less same l left)
        (λ n b got e c. alike_by n b got e c j.joins) h

  -- one more attempt
  module _ (call number due : ℕ) (k : RowKind) where
    abbrev new_one : Attempt
    new_one = record { place = length s.attempts + 1; row = new_row call number k due; made = entry s; reset = false }

    uncommitted_by : (c : Call) (i : ℕ) (y : Attempt) → slice_get s.attempts i ≡ Some y → is_of c y ≡ true → commitment c s ≡ None → (b : Bool) → is_some y.row.committed ≡ b → b ≡ false
    uncommitted_by c i y got mine none false is = refl
    uncommitted_by c i y got mine none true is =
        absurd (let bad : false ≡ true = sym (none_last (is_commitment c) s.attempts none i y got) ∙ and_so (is_of c y) (is_some y.row.committed) mine is in (cc))

    unsent_same : (w : IsWanted call number s) (q : IsWanting s w.here) → is_unsent q.end.cause ≡ true → was_unsent w.here ≡ true
    unsent_same w q e = ap (λ (o : Option RowEnd). holds (λ (z : RowEnd). is_unsent z.cause) o) q.ended ∙ e

    wanted_unsent : (w : IsWanted call number s) (q : IsWanting s w.here) (i n : ℕ) (y x : Attempt) → slice_get s.attempts i ≡ Some y → slice_get s.attempts n ≡ Some x → i ≤ n → SameNumber y x
        → SameNumber x w.here → was_unsent x ≡ false → is_unsent q.end.cause ≡ true → Which n w.index → is_some y.row.committed ≡ false
    wanted_unsent w q i n y x first second less same number_ left unsent (inl before) =
        h.free i n y x first second less same (record { index = w.index; later = w.here; here = w.there; afterwards = before; same = number_ }) left
    wanted_unsent w q i n y x first second less same number_ left unsent (inr (inl here)) =
        let one : x ≡ w.here = same_of (slice_get s.attempts n) x w.here second (ap (slice_get s.attempts) here ∙ w.there) in
        absurd (let bad : false ≡ true = sym left ∙ (ap was_unsent one ∙ unsent_same w q unsent) in (cc))
    wanted_unsent w q i n y x first second less same number_ left unsent (inr (inr afterwards)) =
        let followed : is_followed w.here s ≡ true
        = followed_by s kept w.index w.here w.there (record { index = n; later = x; here = second; afterwards = afterwards; same = (sym number_.0, sym number_.1) }) in
        absurd (let bad : false ≡ true = sym q.free ∙ followed in (cc))

    wanted_by : (w : IsWanted call number s) (q : IsWanting s w.here) (i n : ℕ) (y x : Attempt) → slice_get s.attempts i ≡ Some y → slice_get s.attempts n ≡ Some x → i ≤ n → SameNumber y x
        → SameNumber x new_one → was_unsent x ≡ false → (b : Bool) → is_unsent q.end.cause ≡ b → is_some y.row.committed ≡ false
    wanted_by w q i n y x first second less same number_ left true is =
        wanted_unsent w q i n y x first second less same (number_.0 ∙ sym w.call, number_.1 ∙ sym w.number) left is (which n w.index)
    wanted_by w q i n y x first second less same number_ left false is =
        let free : is_none (commitment q.call s) ≡ true
        = may_by (is_unsent q.end.cause) q.end.unseen (is_by_peer q.end.cause) (is_none (commitment q.call s)) (not (was_retried_so q.call s)) q.may is in
        let own : q.call.number ≡ w.here.row.call = place.calls w.here.row.call q.call q.its in
        let mine : is_of q.call y ≡ true = same_so y.row.call q.call.number (same.0 ∙ number_.0 ∙ sym w.call ∙ sym own) in
        uncommitted_by q.call i y first mine (none_of (commitment q.call s) free) (is_some y.row.committed) refl

    never_new : (w : IsNew call number s) (n : ℕ) (x : Attempt) → slice_get s.attempts n ≡ Some x → SameNumber x new_one → ⊥
    never_new w n x got same =
        let numbers : IsCounted s × RetriesRepeat s = attempts_are_numbered reached.setup reached.actions s reached.does in
        let low : x.row.number ≤ count_by (is_further_of x.row.call) s.attempts = numbers_below s numbers.0 numbers.1 n x got in
        let here : x.row.call ≡ w.here.number = same.0 ∙ sym w.is in
        let low_here : x.row.number ≤ count_by (is_further_of w.here.number) s.attempts = subst (λ (m : ℕ). x.row.number ≤ count_by (is_further_of m) s.attempts) here low in
        above x.row.number (attempts_made w.here s) low_here (same.1 ∙ w.number)
      where
        above : (n m : ℕ) → n ≤ m → n ≡ m + 1 → ⊥
        above n m e f = omega (arith, e, f)

    retries_by : IsWanted call number s ⊎ IsNew call number s → (i n : ℕ) (y x : Attempt) → slice_get s.attempts i ≡ Some y → slice_get s.attempts n ≡ Some x → i ≤ n → SameNumber y x
        → SameNumber x new_one → was_unsent x ≡ false → is_some y.row.committed ≡ false
    retries_by (inl w) i n y x first second less same number_ left =
        let q : IsWanting s w.here = wanting s w.here w.wants in
        wanted_by w q i n y x first second less same number_ left (is_unsent q.end.cause) refl
    retries_by (inr w) i n y x first second less same number_ left = absurd (never_new w n x second number_)

    makes : IsWanted call number s ⊎ IsNew call number s → CommitmentPasses (s.attempts ++ new_one ∷ [])
    makes w = more_on s.attempts new_one refl (retries_by w) h

  -- each action
  act : (o : OpenEntry) (a : Action) → IsMeant a s → CommitmentPasses (after_in o a s).attempts ⊎ (is_plain a ≡ true)
  act o (action.AttemptMade call number k due) m = inl (subst CommitmentPasses (sym (made_rows o call number k due s)) (makes call number due k m))
  act o (action.AttemptPlaced row where_to) m =
      inl (subst CommitmentPasses (sym (placed_rows o row where_to s))
      (changes (with_placing where_to) row (λ b at. record { call = refl; number = refl; committed = refl; ended = λ e. refl })))
  act o (action.AttemptEnds row e) m = inl (subst CommitmentPasses (sym (ended_rows o row e s m.here m.there)) (changes (with_end e) m.here.place (ends row e m)))
  act o (action.CallCommitted row why) m = inl (subst CommitmentPasses (sym (committed_rows o row why s)) (commits row m (entry s)))
  act o (action.StreamReset row number) m = inl (resets o row number (numbered s.attempts row) refl)
  act o (action.FrameWritten link x) m = inl (writes x (numbered s.links link))
  act o _ m = inr refl

  goes_by : (a : Action) → IsMeant a s → (c : Option OpenEntry) → s.current ≡ c → CommitmentPasses (after a s).attempts
  goes_by a m (Some o) e =
      elim (act o a m) [
        | inl f ↦ subst (λ (t : Seen). CommitmentPasses t.attempts) (sym (after_then s a o e)) f
        | inr plain ↦ as_is (after a s).attempts (plain_rows s a plain)
      ]
  goes_by a m None e = as_is (after a s).attempts (ap (λ (c : Option OpenEntry). (after_if c a s).attempts) e ∙ idle a)
    where
      idle : (a : Action) → (after_if None a s).attempts ≡ s.attempts
      idle (action.EntryOpens posted word x) = refl
      idle _ = refl

transferred_after : (s : Seen) (a : Action) → IsReached s → IsNext a s → CommitmentPasses s.attempts → CommitmentPasses (after a s).attempts
transferred_after s a reached next h = goes_by s reached h a (next_meant s a (places_of s (kept_of s reached)) next) s.current refl

transferred_from : (actions : List Action) (s t : Seen) → IsReached s → CommitmentPasses s.attempts → Does actions s t → CommitmentPasses t.attempts
transferred_from [] s t reached h does = subst (λ (u : Seen). CommitmentPasses u.attempts) (sym does) h
transferred_from (a ∷ actions) s t reached h does =
    transferred_from actions (after a s) t (reached_on s (after a s) (a ∷ []) reached (does.0, refl)) (transferred_after s a reached does.0 h) does.1

none_transferred : CommitmentPasses []
none_transferred = record {
  free = λ i j y x first. absurd (let bad : ◌≡◌ {A = Option Attempt} None (Some y) = first in (cc));
  one = λ i j a b first. absurd (let bad : ◌≡◌ {A = Option Attempt} None (Some a) = first in (cc));
}

pub transferred_of : (s : Seen) → IsReached s → CommitmentPasses s.attempts
transferred_of s r = transferred_from r.actions (new_session r.setup) s (record { setup = r.setup; actions = []; does = refl }) none_transferred r.does

-- as it is said to readers
pub commits_are_one : CommitsAreOne
commits_are_one setup actions s does zero j a b first second call c d = absurd (let bad : ◌≡◌ {A = Option Attempt} None (Some a) = first in (cc))
commits_are_one setup actions s does (suc i) zero a b first second call c d = absurd (let bad : ◌≡◌ {A = Option Attempt} None (Some b) = second in (cc))
commits_are_one setup actions s does (suc i) (suc j) a b first second call c d =
    (transferred_of s (record { setup = setup; actions = actions; does = does })).one i j a b first second call c d
