-- Which ends license a retry, through commitments, ends of calls and transparent retries.
use Rattle.std.proofs.Common.{◌≡◌, ◌≤◌, ◌<◌, ℕ, zero, suc, ◌+◌, ◌*◌, Bool, true, false, not, ◌&&◌, ◌==◌, nat_lt, length, Option, Some, None, is_some, List, [], ◌∷◌, ◌++◌, refl, sym, ap, subst, ◌∙◌, ◌⊎◌, inl, inr, arith}
use Rattle.std.proofs.lemmas.Bool.{eqb-false, eqb-true}
use Rattle.grpc_base.specs.Codes.{has_code}
use Rattle.grpc_base.specs.declared.event.EndCause.{EndCause}
use Rattle.grpc_base.specs.declared.event.EndCause.TheVariants as ends
use Rattle.grpc_base.specs.declared.plan.CallPlan.{CallPlan}
use Rattle.grpc_base.specs.declared.plan.CallPlan.TheVariants as plans
use Rattle.grpc_base.specs.declared.plan.Chosen.{Chosen}
use Rattle.grpc_base.specs.declared.plan.RetryPolicy.{RetryPolicy}
use Rattle.grpc_base.specs.declared.plan.Throttle.{Throttle}
use Rattle.attempt_ledger.specs.Ends as ledger_ends
use Rattle.attempt_ledger.specs.Ends.{delay_of, is_cut, is_stop}
use Rattle.attempt_ledger.specs.Numbering.{is_transparent}
use Rattle.attempt_ledger.specs.Retries.{has_retries, is_retry}
use Rattle.attempt_ledger.specs.declared.news.EndNews.{EndNews}
use Rattle.attempt_ledger.specs.declared.row.Row.{Row}
use Rattle.attempt_ledger.specs.declared.row.RowEnd.{RowEnd}
use Rattle.attempt_ledger.specs.declared.row.RowKind.{RowKind}
use Rattle.attempt_ledger.specs.declared.row.RowKind.TheVariants as kind
use Rattle.ledger_stamps.specs.Steps.{changed_at, committed_row, ended_row, stamped}
use Rattle.a6_numbers.specs.Throttling.{Bucket}
use Rattle.retry_core.specs.Retries.{is_licensed}
use Rattle.call_core.specs.declared.judge.Judged.{Judged}
use Rattle.call_core.specs.declared.live.LiveRow.{LiveRow}
use Rattle.call_core.specs.Commitments.{IsRowOf, IsStamped}
use Rattle.call_core.specs.Going.{hedges}
use Rattle.call_core.specs.Parts.{count_of, find_live, is_above, plan_of, row_end}
use Rattle.call_core.specs.Reasons.{IsKeptRow}
use Rattle.call_core.specs.RowFollowers.{IsEndedIn}
use Rattle.call_core.specs.RowLaws.{FitsTokens, IsCountedAt, IsFollowedAt}
use Rattle.call_core.specs.RowLicenses.{RowsAreLicensed, LicensesWait, HaveLicenses, IsAsked, IsKnownEnd, IsRetryOf, IsSound, IsStampedBy, may_retry}
use Rattle.call_core.specs.Rows.{IsApart, IsStanding, row_in}
use Rattle.call_core.specs.Steps as step
use Rattle.call_core.specs.Steps.{Stepped, call_plan, cut_all, is_committed_live, judged_of, left_live, new_call, new_row, next_due, settled, stamp_if, with_chosen, with_judged, with_message}
use Rattle.call_core.proofs.Alike.{all_changed_at}
use Rattle.call_core.proofs.Cuts.{row_below}
use Rattle.call_core.proofs.Going.{alone_found}
use Rattle.call_core.proofs.Keeping.{found_at, found_some}
use Rattle.call_core.proofs.KeptReasons.{kept_committed, kept_write}
use Rattle.call_core.proofs.RowLaws.Chains.{AreKinds, last_found}
use Rattle.call_core.proofs.RowLaws.Followers.{one_row, same_rows}
use Rattle.call_core.proofs.RowLaws.Licensed.{StaysUnfollowed, commute_at, last_more, licenses_more, more_at, retry_more}
use Rattle.call_core.proofs.RowLaws.Licenses.{IsQuietStep, IsUnlicensed, asked_still, cuts_like, cuts_asked, cuts_quiet, quiet_step, quiet_waiting, stamp_quiet, reported_ends, reported_quiet, within_like}
use Rattle.call_core.proofs.RowLaws.Made.{which}
use Rattle.call_core.proofs.Standing.{found_stands, row_changed_other, row_changed_same, row_last, row_more}

pub no_hedge : (p : CallPlan) → has_retries p ≡ true → hedges p ≡ false
no_hedge plans.None e = absurd (cc)
no_hedge (plans.Retry policy) e = refl
no_hedge (plans.Hedge policy) e = absurd (cc)

pub never_may : (p : CallPlan) (throttle : Option Throttle) (number : ℕ) (end : RowEnd) → has_retries p ≡ false → may_retry p throttle number end ≡ true → ⊥
never_may plans.None throttle number end e h = let no : false ≡ true = h in cc
never_may (plans.Retry policy) throttle number end e h = let no : true ≡ false = e in cc
never_may (plans.Hedge policy) throttle number end e h = let no : false ≡ true = h in cc

pub known_plan : (s : Stepped) (chosen : Chosen) → s.call.chosen ≡ Some chosen → call_plan s.call ≡ chosen.plan
known_plan s chosen e = ap plan_of e

-- live rows
pub live_number : (place : ℕ) (row : LiveRow) (s : Stepped) (chosen : Chosen) → s.call.chosen ≡ Some chosen → has_retries chosen.plan ≡ true → find_live place s.call.live ≡ Some row → IsSound s → row.number ≡ s.call.attempts.sent
live_number place row s chosen known has f sound =
    let plan : call_plan s.call ≡ chosen.plan = known_plan s chosen known in
    (alone_found s.call place row (sound.going.alone (ap hedges plan ∙ no_hedge chosen.plan has)) f).1.number

pub live_unlicensed : (chosen : Chosen) (place : ℕ) (row : LiveRow) (s : Stepped) → find_live place s.call.live ≡ Some row → IsApart s → IsUnlicensed chosen s.call.number s.ledger.rows row.place
live_unlicensed chosen place row s f apart = λ r is end e h.
    let one : IsStanding s.call.number s.ledger.rows row = found_stands s.call.number s.ledger.rows place s.call.live row apart.tied f in
    let same : one.row ≡ r = one_row s.call.number s.ledger.rows row.place one.row r (record { there = one.there; call = one.call }) is in
    let no : None ≡ Some end = sym one.ended ∙ ap (λ (x : Row). x.ended) same ∙ e in cc

-- commitment and end
pub licenses_commit : (chosen : Chosen) (place moment : ℕ) (s : Stepped) → ((q : ℕ) (row : Row) → IsRowOf s.call.number s.ledger.rows q row → row.number ≤ s.call.attempts.sent) → IsUnlicensed chosen s.call.number s.ledger.rows place → HaveLicenses chosen s.call.number s.ledger.rows → HaveLicenses chosen s.call.number (step.committed place moment s).ledger.rows
licenses_commit chosen place moment s within off old =
    let owner : ℕ = s.call.number in
    let sent : ℕ = s.call.attempts.sent in
    let first : IsQuietStep chosen owner s.ledger.rows (step.commit_stamped place s.ledger).rows sent = stamp_quiet chosen s.ledger.entry owner sent s.ledger.rows place off in
    quiet_step chosen owner (step.commit_stamped place s.ledger).rows (step.committed place moment s).ledger.rows sent (within_like owner s.ledger.rows (step.commit_stamped place s.ledger).rows sent first.like within)
    (cuts_quiet chosen owner sent (Some place) moment (count_of s.tokens) s.call.live (step.commit_stamped place s.ledger))
    (quiet_step chosen owner s.ledger.rows (step.commit_stamped place s.ledger).rows sent within first old)

pub licenses_end : (chosen : Chosen) (why : EndCause) (moment : ℕ) (s : Stepped) → ((q : ℕ) (row : Row) → IsRowOf s.call.number s.ledger.rows q row → row.number ≤ s.call.attempts.sent) → HaveLicenses chosen s.call.number s.ledger.rows → HaveLicenses chosen s.call.number (step.ended_as why moment s).ledger.rows
licenses_end chosen why moment s within old =
    quiet_step chosen s.call.number s.ledger.rows (step.ended_as why moment s).ledger.rows s.call.attempts.sent within
    (cuts_quiet chosen s.call.number s.call.attempts.sent None moment (count_of s.tokens) s.call.live s.ledger) old

abbrev pub AreWithin : Stepped → Type 0
AreWithin s = (q : ℕ) (row : Row) → IsRowOf s.call.number s.ledger.rows q row → row.number ≤ s.call.attempts.sent

pub committed_within : (place moment : ℕ) (s : Stepped) → AreWithin s → AreWithin (step.committed place moment s)
committed_within place moment s within =
    within_like s.call.number (step.commit_stamped place s.ledger).rows (step.committed place moment s).ledger.rows s.call.attempts.sent
    (cuts_like s.call.number (Some place) moment (count_of s.tokens) s.call.live (step.commit_stamped place s.ledger))
    (within_like s.call.number s.ledger.rows (step.commit_stamped place s.ledger).rows s.call.attempts.sent
    (same_rows s.call.number s.ledger.rows (step.commit_stamped place s.ledger).rows (all_changed_at IsKeptRow kept_write (committed_row s.ledger.entry) (kept_committed s.ledger.entry) s.ledger.rows place)) within)

pub licensed_commit : (place moment : ℕ) (s : Stepped) → AreWithin s → ((chosen : Chosen) → s.call.chosen ≡ Some chosen → IsUnlicensed chosen s.call.number s.ledger.rows place) → RowsAreLicensed s → RowsAreLicensed (step.committed place moment s)
licensed_commit place moment s within off old = record {
  ends = λ chosen e. licenses_commit chosen place moment s within (off chosen e) (old.ends chosen e);
  waiting = λ chosen e has none. absurd (let no : Some place ≡ None = none in cc);
}

pub licensed_end : (why : EndCause) (moment : ℕ) (s : Stepped) → AreWithin s → RowsAreLicensed s → RowsAreLicensed (step.ended_as why moment s)
licensed_end why moment s within old = record {
  ends = λ chosen e. licenses_end chosen why moment s within (old.ends chosen e);
  waiting = λ chosen e has none.
      quiet_waiting chosen s.call.number s.ledger.rows (step.ended_as why moment s).ledger.rows s.call.attempts.sent s.call.attempts.forced s.call.attempts.delayed
      (cuts_quiet chosen s.call.number s.call.attempts.sent None moment (count_of s.tokens) s.call.live s.ledger)
      (λ number h. cuts_asked s.call.number None moment (count_of s.tokens) s.call.live s.ledger number h) (old.waiting chosen e has none);
}

pub licensed_by_row : (place moment : ℕ) (s : Stepped) → AreWithin s → ((chosen : Chosen) → s.call.chosen ≡ Some chosen → IsUnlicensed chosen s.call.number s.ledger.rows place) → RowsAreLicensed s → RowsAreLicensed (step.ended_by_row place moment s)
licensed_by_row place moment s within off old =
    licensed_end ends.Row moment (step.committed place moment s) (committed_within place moment s within) (licensed_commit place moment s within off old)

-- a transparent retry
pub follow_stays : (owner : ℕ) (rows : List Row) (place : ℕ) (row x : Row) → IsRowOf owner rows place row → row.ended ≡ None → ((q : ℕ) (other : Row) → IsRowOf owner rows q other → other.number ≡ row.number → q ≤ place) → AreKinds owner rows → x.number ≡ row.number → StaysUnfollowed owner rows x
follow_stays owner rows place row x is free nearest kinds number = λ p r is_r end e off f. stays_case p r is_r end e off f (which owner rows x f.next f.later f.is)
  where
    below_of : (a b : ℕ) → a ≤ b → (a ≡ b → ⊥) → a < b
    below_of a b le off = omega (arith, le, off)

    near : (p : ℕ) (r : Row) (b : Bool) → (p == place) ≡ b → IsRowOf owner rows p r → (end : RowEnd) → r.ended ≡ Some end → row.number ≡ r.number → (IsFollowedAt owner rows p r.number → ⊥) → ⊥
    near p r true t is_r end e same off =
        let at : p ≡ place = eqb-true p place t in
        let equal : r ≡ row = one_row owner rows place r row (subst (λ (k : ℕ). IsRowOf owner rows k r) at is_r) is in
        let no : None ≡ Some end = sym free ∙ ap (λ (q : Row). q.ended) (sym equal) ∙ e in cc
    near p r false t is_r end e same off =
        let less : p < place = below_of p place (nearest p r is_r (sym same)) (eqb-false p place t) in
        off (record { later = place; order = less; next = row; is = is; kind = kinds p place r row is_r is less same; same = same })

    stays_case : (p : ℕ) (r : Row) → IsRowOf owner rows p r → (end : RowEnd) → r.ended ≡ Some end → (IsFollowedAt owner rows p r.number → ⊥) → (f : IsFollowedAt owner (rows ++ x ∷ []) p r.number) → IsRowOf owner rows f.later f.next ⊎ ((f.later ≡ length rows + 1) × (f.next ≡ x)) → ⊥
    stays_case p r is_r end e off f (inl there) = off (record { later = f.later; order = f.order; next = f.next; is = there; kind = f.kind; same = f.same })
    stays_case p r is_r end e off f (inr both) =
        near p r (p == place) refl is_r end e (sym number ∙ ap (λ (q : Row). q.number) (sym both.1) ∙ f.same) off

pub plain_stays : (owner : ℕ) (rows : List Row) (x : Row) → is_transparent x.kind ≡ false → StaysUnfollowed owner rows x
plain_stays owner rows x plain = λ p r is_r end e off f. stays_case p r off f (which owner rows x f.next f.later f.is)
  where
    stays_case : (p : ℕ) (r : Row) → (IsFollowedAt owner rows p r.number → ⊥) → (f : IsFollowedAt owner (rows ++ x ∷ []) p r.number) → IsRowOf owner rows f.later f.next ⊎ ((f.later ≡ length rows + 1) × (f.next ≡ x)) → ⊥
    stays_case p r off f (inl there) = off (record { later = f.later; order = f.order; next = f.next; is = there; kind = f.kind; same = f.same })
    stays_case p r off f (inr both) = let no : true ≡ false = sym f.kind ∙ ap (λ (q : Row). is_transparent q.kind) both.1 ∙ plain in cc

pub pending_more : (chosen : Chosen) (owner : ℕ) (rows : List Row) (x : Row) (sent due : ℕ) → StaysUnfollowed owner rows x → x.ended ≡ None → (sent ≡ 0) ⊎ IsRetryOf chosen owner rows (sent + 1) due → (sent ≡ 0) ⊎ IsRetryOf chosen owner (rows ++ x ∷ []) (sent + 1) due
pending_more chosen owner rows x sent due off none (inl e) = inl e
pending_more chosen owner rows x sent due off none (inr h) = inr (retry_more chosen owner rows x (sent + 1) due off none h)

pub waiting_more : (chosen : Chosen) (owner : ℕ) (rows : List Row) (x : Row) (sent : ℕ) (forced : Option ℕ) (delayed : ℕ) → StaysUnfollowed owner rows x → x.ended ≡ None → LicensesWait chosen owner rows sent forced delayed → LicensesWait chosen owner (rows ++ x ∷ []) sent forced delayed
waiting_more chosen owner rows x sent forced delayed off none old = record {
  pending = λ due e. pending_more chosen owner rows x sent due off none (old.pending due e);
  asked = last_more owner rows x (sent + 1) delayed off none old.asked;
}

pub more_within : (owner sent : ℕ) (rows : List Row) (x : Row) → x.number ≤ sent → ((q : ℕ) (row : Row) → IsRowOf owner rows q row → row.number ≤ sent) → (q : ℕ) (row : Row) → IsRowOf owner (rows ++ x ∷ []) q row → row.number ≤ sent
more_within owner sent rows x new within q row is = within_case (which owner rows x row q is)
  where
    within_case : IsRowOf owner rows q row ⊎ ((q ≡ length rows + 1) × (row ≡ x)) → row.number ≤ sent
    within_case (inl there) = within q row there
    within_case (inr both) = subst (λ (r : Row). r.number ≤ sent) (sym both.1) new

-- the row that ended is followed by the new one
pub reported_followed : (owner : ℕ) (rows : List Row) (place : ℕ) (row x : Row) (reported : RowEnd) → row_in rows place ≡ Some row → x.call ≡ owner → x.number ≡ row.number → is_transparent x.kind ≡ true → (r : Row) → IsRowOf owner (changed_at (ended_row reported) (rows ++ x ∷ []) place) place r → IsFollowedAt owner (changed_at (ended_row reported) (rows ++ x ∷ []) place) place r.number
reported_followed owner rows place row x reported there call number why r is =
    let after : List Row = changed_at (ended_row reported) (rows ++ x ∷ []) place in
    let below : place ≤ length rows = row_below rows place row there in
    let here : row_in after place ≡ Some (ended_row reported row) = row_changed_same (ended_row reported) (rows ++ x ∷ []) place row (row_more rows x place row there) in
    let both : Some (ended_row reported row) ≡ Some r = sym here ∙ is.there in
    let equal : ended_row reported row ≡ r = (cc) in
    let last : row_in after (length rows + 1) ≡ Some x =
    row_changed_other (ended_row reported) (rows ++ x ∷ []) place (length rows + 1) (apart place (length rows) below) ∙ row_last rows x in
    record {
      later = length rows + 1;
      order = (omega (arith, below));
      next = x;
      is = record { there = last; call = call };
      kind = why;
      same = number ∙ ap (λ (q : Row). q.number) equal;
    }
  where
    apart : (a n : ℕ) → a ≤ n → a ≡ n + 1 → ⊥
    apart a n le e = omega (arith, le, e)

pub licenses_followed : (chosen : Chosen) (place : ℕ) (row : LiveRow) (reported : RowEnd) (x : Row) (s : Stepped) → find_live place s.call.live ≡ Some row → reported.word ≡ None → x.call ≡ s.call.number → x.number ≡ row.number → x.kind ≡ kind.Transparent → x.ended ≡ None → IsSound s → HaveLicenses chosen s.call.number s.ledger.rows → HaveLicenses chosen s.call.number (changed_at (ended_row reported) s.ledger.rows row.place ++ x ∷ [])
licenses_followed chosen place row reported x s f word call number why none sound old =
    let owner : ℕ = s.call.number in
    let rows : List Row = s.ledger.rows in
    let one : IsStanding owner rows row = found_stands owner rows place s.call.live row sound.apart.tied f in
    let is : IsRowOf owner rows row.place one.row = record { there = one.there; call = one.call } in
    let same : x.number ≡ one.row.number = number ∙ sym one.number in
    let off : StaysUnfollowed owner rows x =
    follow_stays owner rows row.place one.row x is one.ended (λ q other is_q e. last_found owner rows place s.call.live row sound.chained.last f q other is_q (e ∙ one.number)) sound.chained.kinds same in
    let new : x.number ≤ s.call.attempts.sent = subst (λ (k : ℕ). k ≤ s.call.attempts.sent) (sym same) (sound.chained.within row.place one.row is) in
    subst (λ (l : List Row). HaveLicenses chosen owner l) (more_at (ended_row reported) rows x row.place one.row one.there (row_below rows row.place one.row one.there))
    (quiet_step chosen owner (rows ++ x ∷ []) (changed_at (ended_row reported) (rows ++ x ∷ []) row.place) s.call.attempts.sent
    (more_within owner s.call.attempts.sent rows x new sound.chained.within)
    (reported_quiet chosen owner s.call.attempts.sent (rows ++ x ∷ []) row.place reported
    (λ r is_r.
    let follows : IsFollowedAt owner (changed_at (ended_row reported) (rows ++ x ∷ []) row.place) row.place r.number =
    reported_followed owner rows row.place one.row x reported one.there call same (ap (λ (k : RowKind). is_transparent k) why) r is_r in
    (inr (record { word = word; why = inl (λ counted. counted.unfollowed follows) }), (λ has counted. absurd (counted.unfollowed follows)))))
    (licenses_more chosen owner rows x off none (λ has retry. absurd (let no : false ≡ true = ap (λ (k : RowKind). is_retry k) (sym why) ∙ retry in cc)) old))

pub waiting_followed : (chosen : Chosen) (place : ℕ) (row : LiveRow) (reported : RowEnd) (x : Row) (s : Stepped) → find_live place s.call.live ≡ Some row → x.call ≡ s.call.number → x.number ≡ row.number → x.kind ≡ kind.Transparent → x.ended ≡ None → reported.word ≡ None → IsSound s → LicensesWait chosen s.call.number s.ledger.rows s.call.attempts.sent s.call.attempts.forced s.call.attempts.delayed → LicensesWait chosen s.call.number (changed_at (ended_row reported) s.ledger.rows row.place ++ x ∷ []) s.call.attempts.sent s.call.attempts.forced s.call.attempts.delayed
waiting_followed chosen place row reported x s f call number why none word sound old =
    let owner : ℕ = s.call.number in
    let rows : List Row = s.ledger.rows in
    let after : List Row = changed_at (ended_row reported) (rows ++ x ∷ []) row.place in
    let one : IsStanding owner rows row = found_stands owner rows place s.call.live row sound.apart.tied f in
    let is : IsRowOf owner rows row.place one.row = record { there = one.there; call = one.call } in
    let same : x.number ≡ one.row.number = number ∙ sym one.number in
    let off : StaysUnfollowed owner rows x =
    follow_stays owner rows row.place one.row x is one.ended (λ q other is_q e. last_found owner rows place s.call.live row sound.chained.last f q other is_q (e ∙ one.number)) sound.chained.kinds same in
    let follows : (r : Row) → IsRowOf owner after row.place r → IsFollowedAt owner after row.place r.number =
    λ r is_r. reported_followed owner rows row.place one.row x reported one.there call same (ap (λ (k : RowKind). is_transparent k) why) r is_r in
    subst (λ (l : List Row). LicensesWait chosen owner l s.call.attempts.sent s.call.attempts.forced s.call.attempts.delayed) (more_at (ended_row reported) rows x row.place one.row one.there (row_below rows row.place one.row one.there))
    (quiet_waiting chosen owner (rows ++ x ∷ []) after s.call.attempts.sent s.call.attempts.forced s.call.attempts.delayed
    (reported_quiet chosen owner s.call.attempts.sent (rows ++ x ∷ []) row.place reported
    (λ r is_r. (inr (record { word = word; why = inl (λ counted. counted.unfollowed (follows r is_r)) }), (λ has counted. absurd (counted.unfollowed (follows r is_r))))))
    (λ n h.
    asked_still owner (rows ++ x ∷ []) after n (same_rows owner (rows ++ x ∷ []) after (all_changed_at IsKeptRow kept_write (ended_row reported) (λ r. kept_write.ended reported r) (rows ++ x ∷ []) row.place))
    (λ q r is_r end e counted. there_case q r end is_r counted follows (reported_ends owner (rows ++ x ∷ []) row.place reported q r is_r end e)) h)
    (waiting_more chosen owner rows x s.call.attempts.sent s.call.attempts.forced s.call.attempts.delayed off none old))
  where
    there_case : (q : ℕ) (r : Row) (end : RowEnd) → IsRowOf s.call.number (changed_at (ended_row reported) (s.ledger.rows ++ x ∷ []) row.place) q r → IsCountedAt s.call.number (changed_at (ended_row reported) (s.ledger.rows ++ x ∷ []) row.place) q r.number end → ((r : Row) → IsRowOf s.call.number (changed_at (ended_row reported) (s.ledger.rows ++ x ∷ []) row.place) row.place r → IsFollowedAt s.call.number (changed_at (ended_row reported) (s.ledger.rows ++ x ∷ []) row.place) row.place r.number) → IsEndedIn s.call.number (s.ledger.rows ++ x ∷ []) q end ⊎ ((q ≡ row.place) × (end ≡ reported)) → IsEndedIn s.call.number (s.ledger.rows ++ x ∷ []) q end
    there_case q r end is_r counted follows (inl has) = has
    there_case q r end is_r counted follows (inr both) =
        absurd (counted.unfollowed (subst (λ (k : ℕ). IsFollowedAt s.call.number (changed_at (ended_row reported) (s.ledger.rows ++ x ∷ []) row.place) k r.number) (sym both.0)
        (follows r (subst (λ (k : ℕ). IsRowOf s.call.number (changed_at (ended_row reported) (s.ledger.rows ++ x ∷ []) row.place) k r) both.0 is_r))))

-- the tokens of the ledger's law are those of the bucket
pub above_same : (throttle : Option Throttle) (o : Option Bucket) → FitsTokens throttle o → is_above o ≡ ledger_ends.is_above throttle (count_of o)
above_same None None fits = refl
above_same (Some t) None fits = refl
above_same None (Some b) fits = absurd fits
above_same (Some t) (Some b) fits = ap (λ (k : ℕ). nat_lt k (2 * b.count)) fits.start

pub four : (a b c d : Bool) → (a && b && c && d) ≡ (a && (b && (c && d)))
four false b c d = refl
four true false c d = refl
four true true false d = refl
four true true true d = refl

pub may_same : (policy : RetryPolicy) (throttle : Option Throttle) (o : Option Bucket) (number : ℕ) (end : RowEnd) → FitsTokens throttle o → end.tokens ≡ count_of o → is_licensed policy number end (is_above o) ≡ may_retry (plans.Retry policy) throttle number end
may_same policy throttle o number end fits e =
    four (has_code policy.codes end.code) (not (is_stop end.pushback)) (is_above o) (nat_lt number policy.max)
    ∙ ap (λ (b : Bool). has_code policy.codes end.code && (not (is_stop end.pushback) && (b && nat_lt number policy.max)))
    (above_same throttle o fits ∙ ap (λ (t : Option ℕ). ledger_ends.is_above throttle t) (sym e))

-- a stamped row's end
pub stamped_end : (chosen : Chosen) (owner : ℕ) (rows : List Row) (place : ℕ) (row : Row) (end : RowEnd) (stamp : ℕ) → end.word ≡ None → row.committed ≡ Some stamp → stamp ≤ end.entry → IsKnownEnd chosen owner rows place row end
stamped_end chosen owner rows place row end stamp word e le = inr (record { word = word; why = inr (inl (record { stamp = stamp; committed = e; order = le })) })

pub stamp_of : (o : Option ℕ) → is_some o ≡ true → (k : ℕ) × (o ≡ Some k)
stamp_of None e = absurd (cc)
stamp_of (Some k) e = (k, refl)

pub reported_row : (rows : List Row) (place : ℕ) (row r : Row) (reported : RowEnd) → row_in rows place ≡ Some row → row_in (changed_at (ended_row reported) rows place) place ≡ Some r → r ≡ ended_row reported row
reported_row rows place row r reported there e =
    let both : Some (ended_row reported row) ≡ Some r = sym (row_changed_same (ended_row reported) rows place row there) ∙ e in
    let same : r ≡ ended_row reported row = (cc) in same

-- an end in a call that is committed
pub licenses_committed : (chosen : Chosen) (place p : ℕ) (row : LiveRow) (end : RowEnd) (s : Stepped) → s.call.chosen ≡ Some chosen → s.call.attempts.committed ≡ Some p → find_live place s.call.live ≡ Some row → end.word ≡ None → end.entry ≡ s.ledger.entry → IsSound s → HaveLicenses chosen s.call.number s.ledger.rows → HaveLicenses chosen s.call.number (changed_at (ended_row end) s.ledger.rows row.place)
licenses_committed chosen place p row end s known c f word entry sound old =
    let owner : ℕ = s.call.number in
    let rows : List Row = s.ledger.rows in
    let at : row.place ≡ p = found_at p place s.call.live row (sound.kept.committed p c).live f in
    let mark : IsStamped owner rows p = sound.once.stamped p c in
    let stamp : (k : ℕ) × (mark.row.committed ≡ Some k) = stamp_of mark.row.committed mark.stamped in
    let le : stamp.0 ≤ s.ledger.entry = sound.stamped p mark.row mark.is stamp.0 stamp.1 in
    let there : row_in rows row.place ≡ Some mark.row = ap (λ (k : ℕ). row_in rows k) at ∙ mark.is.there in
    let one : IsStanding owner rows row = found_stands owner rows place s.call.live row sound.apart.tied f in
    quiet_step chosen owner rows (changed_at (ended_row end) rows row.place) s.call.attempts.sent sound.chained.within
    (reported_quiet chosen owner s.call.attempts.sent rows row.place end
    (λ r is_r.
    let same : r ≡ ended_row end mark.row = reported_row rows row.place mark.row r end there is_r.there in
    let own : r ≡ ended_row end one.row = reported_row rows row.place one.row r end one.there is_r.there in
    let number : r.number ≡ row.number = ap (λ (q : Row). q.number) own ∙ one.number in (
      stamped_end chosen owner (changed_at (ended_row end) rows row.place) row.place r end stamp.0 word (ap (λ (q : Row). q.committed) same ∙ stamp.1) (subst (λ (k : ℕ). stamp.0 ≤ k) (sym entry) le),
      (λ has counted. let sent : row.number ≡ s.call.attempts.sent = live_number place row s chosen known has f sound in omega (arith, sent, number)),
    )))
    old

pub licensed_committed : (place p : ℕ) (row : LiveRow) (reported : EndNews) (moment : ℕ) (s : Stepped) → s.call.attempts.committed ≡ Some p → find_live place s.call.live ≡ Some row → IsSound s → RowsAreLicensed s → RowsAreLicensed (step.ended_as ends.Row moment (step.row_ended row.place (row_end reported s.ledger.entry moment (count_of (settled reported (left_live row.place s)).tokens)) (settled reported (left_live row.place s))))
licensed_committed place p row reported moment s c f sound old =
    let v : Stepped = settled reported (left_live row.place s) in
    let end : RowEnd = row_end reported s.ledger.entry moment (count_of v.tokens) in
    let w : Stepped = step.row_ended row.place end v in
    licensed_end ends.Row moment w
    (within_like s.call.number s.ledger.rows w.ledger.rows s.call.attempts.sent
    (same_rows s.call.number s.ledger.rows w.ledger.rows (all_changed_at IsKeptRow kept_write (ended_row end) (λ r. kept_write.ended end r) s.ledger.rows row.place)) sound.chained.within)
    (record {
      ends = λ chosen e. licenses_committed chosen place p row end s e c f refl refl sound (old.ends chosen e);
      waiting = λ chosen e has none. absurd (let no : Some p ≡ None = sym c ∙ none in cc);
    })

-- an end after which the call is committed to its row
pub stamp_case : (n : ℕ) (r : Row) (end : RowEnd) (o : Option ℕ) → r.committed ≡ o → ((k : ℕ) → r.committed ≡ Some k → k ≤ n) → end.entry ≡ n → IsStampedBy end.entry (committed_row n r)
stamp_case n r end None h le e = record { stamp = n; committed = ap (λ (x : Option ℕ). stamped n x) h; order = (omega (arith, e)) }
stamp_case n r end (Some k) h le e = record { stamp = k; committed = ap (λ (x : Option ℕ). stamped n x) h; order = (let below : k ≤ n = le k h in omega (arith, below, e)) }

pub licenses_closed : (chosen : Chosen) (place moment : ℕ) (row : LiveRow) (reported : EndNews) (end : RowEnd) (j : Judged) (s : Stepped) → s.call.chosen ≡ Some chosen → find_live place s.call.live ≡ Some row → j.word ≡ None → end.entry ≡ s.ledger.entry → IsSound s → HaveLicenses chosen s.call.number s.ledger.rows → HaveLicenses chosen s.call.number (step.ended_by_row row.place moment (with_judged row end j (settled reported (left_live row.place s)))).ledger.rows
licenses_closed chosen place moment row reported end j s known f word at sound old =
    let owner : ℕ = s.call.number in
    let n : ℕ = s.ledger.entry in
    let rows : List Row = s.ledger.rows in
    let sent : ℕ = s.call.attempts.sent in
    let last : RowEnd = record end { word = j.word } in
    let w : Stepped = with_judged row end j (settled reported (left_live row.place s)) in
    let t : Stepped = step.committed row.place moment w in
    let stamped_rows : List Row = changed_at (committed_row n) rows row.place in
    let both : List Row = changed_at (ended_row last) stamped_rows row.place in
    let end_rows : List Row = (step.commit_stamped row.place w.ledger).rows in
    let one : IsStanding owner rows row = found_stands owner rows place s.call.live row sound.apart.tied f in
    let first : IsQuietStep chosen owner rows stamped_rows sent = stamp_quiet chosen n owner sent rows row.place (live_unlicensed chosen place row s f sound.apart) in
    let within : (q : ℕ) (r : Row) → IsRowOf owner stamped_rows q r → r.number ≤ sent = within_like owner rows stamped_rows sent first.like sound.chained.within in
    let there : row_in stamped_rows row.place ≡ Some (committed_row n one.row) = row_changed_same (committed_row n) rows row.place one.row one.there in
    let known_end : IsQuietStep chosen owner stamped_rows both sent =
    reported_quiet chosen owner sent stamped_rows row.place last
    (λ r is_r.
    let own : r ≡ ended_row last (committed_row n one.row) = reported_row stamped_rows row.place (committed_row n one.row) r last there is_r.there in
    let mark : IsStampedBy last.entry (committed_row n one.row) = stamp_case n one.row last one.row.committed refl (λ k e. sound.stamped row.place one.row (record { there = one.there; call = one.call }) k e) at in
    let num : r.number ≡ row.number = ap (λ (q : Row). q.number) own ∙ one.number in (
      stamped_end chosen owner both row.place r last mark.stamp word (ap (λ (q : Row). q.committed) own ∙ mark.committed) mark.order,
      (λ has counted. let is : row.number ≡ sent = live_number place row s chosen known has f sound in omega (arith, is, num)),
    )) in
    let same : both ≡ end_rows = commute_at (ended_row last) (committed_row n) (λ r. refl) rows row.place in
    let second : HaveLicenses chosen owner end_rows =
    subst (λ (l : List Row). HaveLicenses chosen owner l) same
    (quiet_step chosen owner stamped_rows both sent within known_end (quiet_step chosen owner rows stamped_rows sent sound.chained.within first old)) in
    let end_within : (q : ℕ) (r : Row) → IsRowOf owner end_rows q r → r.number ≤ sent =
    subst (λ (l : List Row). (q : ℕ) (r : Row) → IsRowOf owner l q r → r.number ≤ sent) same (within_like owner stamped_rows both sent known_end.like within) in
    let cuts : IsQuietStep chosen owner end_rows t.ledger.rows sent = cuts_quiet chosen owner sent (Some row.place) moment (count_of w.tokens) w.call.live (step.commit_stamped row.place w.ledger) in
    quiet_step chosen owner t.ledger.rows (step.ended_as ends.Row moment t).ledger.rows sent (within_like owner end_rows t.ledger.rows sent cuts.like end_within)
    (cuts_quiet chosen owner sent None moment (count_of t.tokens) t.call.live t.ledger)
    (quiet_step chosen owner end_rows t.ledger.rows sent end_within cuts second)

-- an end that licenses a retry
pub positive : (n : ℕ) → (n ≡ 0 → ⊥) → 1 ≤ n
positive zero never = absurd (never refl)
positive (suc n) never = omega arith

pub below_unless : (a b : ℕ) → a ≤ b → (a ≡ b → ⊥) → a < b
below_unless a b le off = omega (arith, le, off)

pub delayed_below : (chosen : Chosen) (place : ℕ) (row : LiveRow) (s : Stepped) → find_live place s.call.live ≡ Some row → row.number ≡ s.call.attempts.sent → IsSound s → (s.call.attempts.delayed ≡ 0) ⊎ ((s.call.attempts.delayed < s.call.attempts.sent + 1) × IsAsked s.call.number s.ledger.rows s.call.attempts.delayed) → s.call.attempts.delayed < row.number
delayed_below chosen place row s f same sound (inl e) =
    let some : 1 ≤ s.call.attempts.sent = positive s.call.attempts.sent (λ h. found_some place s.call.live row f (sound.going.none h)) in
    omega (arith, e, some, same)
delayed_below chosen place row s f same sound (inr both) = below_case (s.call.attempts.delayed == s.call.attempts.sent) refl
  where
    never_here : s.call.attempts.delayed ≡ s.call.attempts.sent → ⊥
    never_here e =
        let h : IsAsked s.call.number s.ledger.rows s.call.attempts.delayed = both.1 in
        let one : IsStanding s.call.number s.ledger.rows row = found_stands s.call.number s.ledger.rows place s.call.live row sound.apart.tied f in
        let is : IsRowOf s.call.number s.ledger.rows row.place one.row = record { there = one.there; call = one.call } in
        let number : h.has.row.number ≡ row.number = h.same ∙ e ∙ sym same in
        let le : h.place ≤ row.place = last_found s.call.number s.ledger.rows place s.call.live row sound.chained.last f h.place h.has.row h.has.is number in
        near h one is number le (h.place == row.place) refl
      where
        near : (h : IsAsked s.call.number s.ledger.rows s.call.attempts.delayed) (one : IsStanding s.call.number s.ledger.rows row) → IsRowOf s.call.number s.ledger.rows row.place one.row → h.has.row.number ≡ row.number → h.place ≤ row.place → (b : Bool) → (h.place == row.place) ≡ b → ⊥
        near h one is number le true t =
            let at : h.place ≡ row.place = eqb-true h.place row.place t in
            let equal : h.has.row ≡ one.row = one_row s.call.number s.ledger.rows row.place h.has.row one.row (subst (λ (k : ℕ). IsRowOf s.call.number s.ledger.rows k h.has.row) at h.has.is) is in
            let no : None ≡ Some h.end = sym one.ended ∙ ap (λ (r : Row). r.ended) (sym equal) ∙ h.has.ended in cc
        near h one is number le false t =
            let less : h.place < row.place = below_unless h.place row.place le (eqb-false h.place row.place t) in
            let same_number : one.row.number ≡ h.has.row.number = one.number ∙ sym number in
            h.counted.unfollowed (record {
              later = row.place;
              order = less;
              next = one.row;
              is = is;
              kind = sound.chained.kinds h.place row.place h.has.row one.row h.has.is is less same_number;
              same = same_number;
            })

    below_case : (b : Bool) → (s.call.attempts.delayed == s.call.attempts.sent) ≡ b → s.call.attempts.delayed < row.number
    below_case true t = absurd (never_here (eqb-true s.call.attempts.delayed s.call.attempts.sent t))
    below_case false t =
        let off : s.call.attempts.delayed ≡ s.call.attempts.sent → ⊥ = eqb-false s.call.attempts.delayed s.call.attempts.sent t in
        let le : s.call.attempts.delayed < s.call.attempts.sent + 1 = both.0 in
        subst (λ (k : ℕ). s.call.attempts.delayed < k) (sym same) (below_unless s.call.attempts.delayed s.call.attempts.sent (omega (arith, le)) off)
