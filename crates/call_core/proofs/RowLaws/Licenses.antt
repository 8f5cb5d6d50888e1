-- Which ends license a retry, through each write to the rows.
use Rattle.std.proofs.Common.{◌≡◌, ◌≤◌, ◌<◌, ℕ, ◌+◌, ◌-◌, true, false, Option, Some, None, List, refl, sym, ap, subst, ◌∙◌, ◌⊎◌, inl, inr, arith}
use Rattle.grpc_base.specs.declared.plan.Chosen.{Chosen}
use Rattle.attempt_ledger.specs.Ends.{is_cut}
use Rattle.attempt_ledger.specs.Retries.{has_retries, is_retry}
use Rattle.attempt_ledger.specs.declared.ledger.Ledger.{Ledger}
use Rattle.attempt_ledger.specs.declared.row.Placed.{Placed}
use Rattle.attempt_ledger.specs.declared.row.Row.{Row}
use Rattle.attempt_ledger.specs.declared.row.RowEnd.{RowEnd}
use Rattle.attempt_ledger.specs.declared.row.RowKind.{RowKind}
use Rattle.ledger_stamps.specs.Steps.{changed_at, committed_row, ended_row, placed_row, stamped}
use Rattle.call_core.specs.declared.live.LiveRow.{LiveRow}
use Rattle.call_core.specs.Commitments.{IsRowOf}
use Rattle.call_core.specs.Parts.{cut_end}
use Rattle.call_core.specs.Reasons.{IsKeptRow}
use Rattle.call_core.specs.RowFollowers.{IsEndedIn}
use Rattle.call_core.specs.RowLaws.{IsCountedAt, IsFollowedAt}
use Rattle.call_core.specs.RowLicenses.{LicensesWait, HaveLicenses, IsAsked, IsKnownEnd, IsLastAsked, IsLicense, IsRetryOf, IsStampedBy, due_after, may_retry}
use Rattle.call_core.specs.Steps.{cut_all}
use Rattle.call_core.proofs.Alike.{AreLike, all_changed_at, all_cut}
use Rattle.call_core.proofs.EachRow.{EachRow, TakesCuts, each_changed, each_cut}
use Rattle.call_core.proofs.KeptReasons.{kept_committed, kept_placed, kept_write}
use Rattle.call_core.proofs.NamedRows.{IsNamed, named_write}
use Rattle.call_core.proofs.RowLaws.Followers.{AreSameRows, follow_back, follow_to, one_row, row_back, row_to, same_rows}
use Rattle.call_core.proofs.RowLaws.Made.{committed_same}
use Rattle.call_core.proofs.RowLaws.Writes.{written}

-- a step that makes no row: each end after it is known, or was there; one more that counts is of the newest attempt; and the rows of ends
-- that license a retry aren't stamped
pub record IsQuietStep (chosen : Chosen) (owner : ℕ) (rows after : List Row) (sent : ℕ) : Type 0 where
  pub like : AreSameRows owner rows after
  pub ends : (place : ℕ) (row : Row) → IsRowOf owner after place row → (end : RowEnd) → row.ended ≡ Some end → IsEndedIn owner rows place end ⊎ (IsKnownEnd chosen owner after place row end × (has_retries chosen.plan ≡ true → IsCountedAt owner after place row.number end → sent ≤ row.number))
  pub stays : (place : ℕ) (old new : Row) → IsRowOf owner rows place old → IsRowOf owner after place new → (stamp : ℕ) → old.committed ≡ Some stamp → new.committed ≡ Some stamp
  pub free : (place : ℕ) (old new : Row) → IsRowOf owner rows place old → IsRowOf owner after place new → (end : RowEnd) → old.ended ≡ Some end → IsLicense chosen owner rows place old end → new.committed ≡ None

counted_to : (owner : ℕ) (rows after : List Row) (place number new : ℕ) (end : RowEnd) → AreSameRows owner rows after → new ≡ number → IsCountedAt owner rows place number end → IsCountedAt owner after place new end
counted_to owner rows after place number new end like same old = record {
  cause = old.cause;
  unfollowed = λ f. old.unfollowed (subst (λ (k : ℕ). IsFollowedAt owner rows place k) same (follow_back owner rows after place new like f));
}

counted_from : (owner : ℕ) (rows after : List Row) (place number new : ℕ) (end : RowEnd) → ((k : ℕ) → IsFollowedAt owner rows place k → IsFollowedAt owner after place k) → new ≡ number → IsCountedAt owner after place new end → IsCountedAt owner rows place number end
counted_from owner rows after place number new end to same old = record {
  cause = old.cause;
  unfollowed = λ f. old.unfollowed (subst (λ (k : ℕ). IsFollowedAt owner after place k) (sym same) (to number f));
}

stamped_to : (entry : ℕ) (old new : Row) → ((stamp : ℕ) → old.committed ≡ Some stamp → new.committed ≡ Some stamp) → IsStampedBy entry old → IsStampedBy entry new
stamped_to entry old new stays h = record { stamp = h.stamp; committed = stays h.stamp h.committed; order = h.order }

license_to : (chosen : Chosen) (owner : ℕ) (rows after : List Row) (place : ℕ) (old new : Row) (end : RowEnd) → AreSameRows owner rows after → new.number ≡ old.number → new.committed ≡ None → IsLicense chosen owner rows place old end → IsLicense chosen owner after place new end
license_to chosen owner rows after place old new end like number free h = record {
  counted = counted_to owner rows after place old.number new.number end like number h.counted;
  may = ap (λ (k : ℕ). may_retry chosen.plan chosen.throttle k end) number ∙ h.may;
  free = free;
  word = h.word;
}

follow_on : (owner : ℕ) (rows after : List Row) (place : ℕ) → AreSameRows owner rows after → (k : ℕ) → IsFollowedAt owner rows place k → IsFollowedAt owner after place k
follow_on owner rows after place like k f = follow_to owner rows after place k like f

plain_why : (chosen : Chosen) (owner : ℕ) (rows after : List Row) (place : ℕ) (old new : Row) (end : RowEnd) → AreSameRows owner rows after → new.number ≡ old.number → ((stamp : ℕ) → old.committed ≡ Some stamp → new.committed ≡ Some stamp) → (IsCountedAt owner rows place old.number end → ⊥) ⊎ (IsStampedBy end.entry old ⊎ (has_retries chosen.plan ≡ false)) → (IsCountedAt owner after place new.number end → ⊥) ⊎ (IsStampedBy end.entry new ⊎ (has_retries chosen.plan ≡ false))
plain_why chosen owner rows after place old new end like number stays (inl never) =
    inl (λ counted. never (counted_from owner rows after place old.number new.number end (follow_on owner rows after place like) number counted))
plain_why chosen owner rows after place old new end like number stays (inr (inl h)) = inr (inl (stamped_to end.entry old new stays h))
plain_why chosen owner rows after place old new end like number stays (inr (inr h)) = inr (inr h)

known_to : (chosen : Chosen) (owner : ℕ) (rows after : List Row) (place : ℕ) (old new : Row) (end : RowEnd) → AreSameRows owner rows after → new.number ≡ old.number → ((stamp : ℕ) → old.committed ≡ Some stamp → new.committed ≡ Some stamp) → (IsLicense chosen owner rows place old end → new.committed ≡ None) → IsKnownEnd chosen owner rows place old end → IsKnownEnd chosen owner after place new end
known_to chosen owner rows after place old new end like number stays free (inl h) = inl (license_to chosen owner rows after place old new end like number (free h) h)
known_to chosen owner rows after place old new end like number stays free (inr h) =
    inr (record { word = h.word; why = plain_why chosen owner rows after place old new end like number stays h.why })

known_case : (chosen : Chosen) (owner : ℕ) (rows after : List Row) (sent place : ℕ) (row : Row) (end : RowEnd) → IsQuietStep chosen owner rows after sent → HaveLicenses chosen owner rows → IsRowOf owner after place row → IsEndedIn owner rows place end ⊎ (IsKnownEnd chosen owner after place row end × (has_retries chosen.plan ≡ true → IsCountedAt owner after place row.number end → sent ≤ row.number)) → IsKnownEnd chosen owner after place row end
known_case chosen owner rows after sent place row end step old is (inl has) =
    let now : (r : Row) × (IsRowOf owner after place r × IsKeptRow has.row r) = row_to owner rows after place has.row step.like has.is in
    let same : now.0 ≡ row = one_row owner after place now.0 row now.1.0 is in
    let number : row.number ≡ has.row.number = ap (λ (r : Row). r.number) (sym same) ∙ now.1.1.number in
    known_to chosen owner rows after place has.row row end step.like number
    (λ stamp e. step.stays place has.row row has.is is stamp e) (λ h. step.free place has.row row has.is is end has.ended h)
    (old.ends place has.row has.is end has.ended)
known_case chosen owner rows after sent place row end step old is (inr both) = both.0

-- what the server asked for
pub asked_to : (owner : ℕ) (rows after : List Row) (number : ℕ) → AreSameRows owner rows after → IsAsked owner rows number → IsAsked owner after number
asked_to owner rows after number like h =
    let now : (r : Row) × (IsRowOf owner after h.place r × IsKeptRow h.has.row r) = row_to owner rows after h.place h.has.row like h.has.is in
    record {
      place = h.place;
      end = h.end;
      has = record { row = now.0; is = now.1.0; ended = now.1.1.ended h.end h.has.ended };
      counted = counted_to owner rows after h.place h.has.row.number now.0.number h.end like now.1.1.number h.counted;
      delay = h.delay;
      same = now.1.1.number ∙ h.same;
    }

asked_case : (chosen : Chosen) (owner : ℕ) (rows after : List Row) (sent number : ℕ) → has_retries chosen.plan ≡ true → IsQuietStep chosen owner rows after sent → (h : IsAsked owner after number) → IsEndedIn owner rows h.place h.end ⊎ (IsKnownEnd chosen owner after h.place h.has.row h.end × (has_retries chosen.plan ≡ true → IsCountedAt owner after h.place h.has.row.number h.end → sent ≤ h.has.row.number)) → IsAsked owner rows number ⊎ (sent ≤ number)
asked_case chosen owner rows after sent number retries step h (inl has) =
    let now : (r : Row) × (IsRowOf owner after h.place r × IsKeptRow has.row r) = row_to owner rows after h.place has.row step.like has.is in
    let same : now.0 ≡ h.has.row = one_row owner after h.place now.0 h.has.row now.1.0 h.has.is in
    let number_is : h.has.row.number ≡ has.row.number = ap (λ (r : Row). r.number) (sym same) ∙ now.1.1.number in
    inl (record {
      place = h.place;
      end = h.end;
      has = has;
      counted = counted_from owner rows after h.place has.row.number h.has.row.number h.end (follow_on owner rows after h.place step.like) number_is h.counted;
      delay = h.delay;
      same = sym number_is ∙ h.same;
    })
asked_case chosen owner rows after sent number retries step h (inr both) = inr (subst (λ (k : ℕ). sent ≤ k) h.same (both.1 retries h.counted))

asked_back : (chosen : Chosen) (owner : ℕ) (rows after : List Row) (sent number : ℕ) → has_retries chosen.plan ≡ true → IsQuietStep chosen owner rows after sent → IsAsked owner after number → IsAsked owner rows number ⊎ (sent ≤ number)
asked_back chosen owner rows after sent number retries step h =
    asked_case chosen owner rows after sent number retries step h (step.ends h.place h.has.row h.has.is h.end h.has.ended)

there_to : (owner : ℕ) (rows after : List Row) (below since : ℕ) → AreSameRows owner rows after → (since ≡ 0) ⊎ ((since < below) × IsAsked owner rows since) → (since ≡ 0) ⊎ ((since < below) × IsAsked owner after since)
there_to owner rows after below since like (inl e) = inl e
there_to owner rows after below since like (inr both) = inr (both.0, asked_to owner rows after since like both.1)

last_to : (chosen : Chosen) (owner : ℕ) (rows after : List Row) (sent below since : ℕ) → has_retries chosen.plan ≡ true → below ≤ sent → IsQuietStep chosen owner rows after sent → IsLastAsked owner rows below since → IsLastAsked owner after below since
last_to chosen owner rows after sent below since retries le step old = record {
  most = λ number h less. most_case number less (asked_back chosen owner rows after sent number retries step h);
  there = there_to owner rows after below since step.like old.there;
}
  where
    most_case : (number : ℕ) → number < below → IsAsked owner rows number ⊎ (sent ≤ number) → number ≤ since
    most_case number less (inl h) = old.most number h less
    most_case number less (inr ge) = absurd (let no : sent ≤ number = ge in omega (arith, no, less, le))

retry_like : (chosen : Chosen) (owner : ℕ) (rows after : List Row) (number due : ℕ) → AreSameRows owner rows after → ((place : ℕ) (old new : Row) → IsRowOf owner rows place old → IsRowOf owner after place new → (end : RowEnd) → old.ended ≡ Some end → IsLicense chosen owner rows place old end → new.committed ≡ None) → ((since : ℕ) → IsLastAsked owner rows number since → IsLastAsked owner after number since) → IsRetryOf chosen owner rows number due → IsRetryOf chosen owner after number due
retry_like chosen owner rows after number due like free last h =
    let now : (r : Row) × (IsRowOf owner after h.place r × IsKeptRow h.has.row r) = row_to owner rows after h.place h.has.row like h.has.is in
    record {
      place = h.place;
      end = h.end;
      has = record { row = now.0; is = now.1.0; ended = now.1.1.ended h.end h.has.ended };
      before = ap (λ (k : ℕ). k + 1) now.1.1.number ∙ h.before;
      license = license_to chosen owner rows after h.place h.has.row now.0 h.end like now.1.1.number (free h.place h.has.row now.0 h.has.is now.1.0 h.end h.has.ended h.license) h.license;
      since = h.since;
      last = last h.since h.last;
      due_is = ap (λ (k : ℕ). due_after chosen.plan (k - h.since) h.end) now.1.1.number ∙ h.due_is;
    }

pub quiet_step : (chosen : Chosen) (owner : ℕ) (rows after : List Row) (sent : ℕ) → ((place : ℕ) (row : Row) → IsRowOf owner rows place row → row.number ≤ sent) → IsQuietStep chosen owner rows after sent → HaveLicenses chosen owner rows → HaveLicenses chosen owner after
quiet_step chosen owner rows after sent within step old = record {
  ends = λ place row is end e. known_case chosen owner rows after sent place row end step old is (step.ends place row is end e);
  retries = λ has place row is kind.
      let was : (r : Row) × (IsRowOf owner rows place r × IsKeptRow r row) = row_back owner rows after place row step.like is in
      let before : IsRetryOf chosen owner rows was.0.number was.0.due = old.retries has place was.0 was.1.0 (ap (λ (k : RowKind). is_retry k) (sym was.1.1.kind) ∙ kind) in
      let le : was.0.number ≤ sent = within place was.0 was.1.0 in
      subst (λ (k : ℕ). IsRetryOf chosen owner after k row.due) (sym was.1.1.number)
      (subst (λ (k : ℕ). IsRetryOf chosen owner after was.0.number k) (sym was.1.1.due)
      (retry_like chosen owner rows after was.0.number was.0.due step.like step.free (λ since h. last_to chosen owner rows after sent was.0.number since has le step h) before));
}

-- the same of what waits, where no end is reported that counts
last_still : (chosen : Chosen) (owner : ℕ) (rows after : List Row) (sent below since : ℕ) → IsQuietStep chosen owner rows after sent → ((number : ℕ) → IsAsked owner after number → IsAsked owner rows number) → IsLastAsked owner rows below since → IsLastAsked owner after below since
last_still chosen owner rows after sent below since step back old = record {
  most = λ number h less. old.most number (back number h) less;
  there = there_to owner rows after below since step.like old.there;
}

pending_case : (chosen : Chosen) (owner : ℕ) (rows after : List Row) (sent due : ℕ) → (IsRetryOf chosen owner rows (sent + 1) due → IsRetryOf chosen owner after (sent + 1) due) → (sent ≡ 0) ⊎ IsRetryOf chosen owner rows (sent + 1) due → (sent ≡ 0) ⊎ IsRetryOf chosen owner after (sent + 1) due
pending_case chosen owner rows after sent due to (inl e) = inl e
pending_case chosen owner rows after sent due to (inr h) = inr (to h)

pub quiet_waiting : (chosen : Chosen) (owner : ℕ) (rows after : List Row) (sent : ℕ) (forced : Option ℕ) (delayed : ℕ) → IsQuietStep chosen owner rows after sent → ((number : ℕ) → IsAsked owner after number → IsAsked owner rows number) → LicensesWait chosen owner rows sent forced delayed → LicensesWait chosen owner after sent forced delayed
quiet_waiting chosen owner rows after sent forced delayed step back old = record {
  pending = λ due e.
      pending_case chosen owner rows after sent due
      (λ h. retry_like chosen owner rows after (sent + 1) due step.like step.free (λ since l. last_still chosen owner rows after sent (sent + 1) since step back l) h)
      (old.pending due e);
  asked = last_still chosen owner rows after sent (sent + 1) delayed step back old.asked;
}

-- cuts
cut_known : (chosen : Chosen) (owner : ℕ) (rows after : List Row) (sent place : ℕ) (row : Row) (end : RowEnd) → IsEndedIn owner rows place end ⊎ ((end.word ≡ None) × (is_cut end.cause ≡ true)) → IsEndedIn owner rows place end ⊎ (IsKnownEnd chosen owner after place row end × (has_retries chosen.plan ≡ true → IsCountedAt owner after place row.number end → sent ≤ row.number))
cut_known chosen owner rows after sent place row end (inl has) = inl has
cut_known chosen owner rows after sent place row end (inr both) =
    inr (
      inr (record { word = both.0; why = inl (λ counted. let no : true ≡ false = sym both.1 ∙ counted.cause in cc) }),
      (λ retries counted. absurd (let no : true ≡ false = sym both.1 ∙ counted.cause in cc)),
    )

abbrev IsCutOr : ℕ → List Row → ℕ → Row → Type 0
IsCutOr owner rows place row = (end : RowEnd) → row.ended ≡ Some end → IsEndedIn owner rows place end ⊎ ((end.word ≡ None) × (is_cut end.cause ≡ true))

cut_split : (owner : ℕ) (rows : List Row) (place : ℕ) (cut end : RowEnd) (o : Option RowEnd) → cut.word ≡ None → is_cut cut.cause ≡ true → stamped cut o ≡ Some end → (o ≡ Some end → IsEndedIn owner rows place end ⊎ ((end.word ≡ None) × (is_cut end.cause ≡ true))) → IsEndedIn owner rows place end ⊎ ((end.word ≡ None) × (is_cut end.cause ≡ true))
cut_split owner rows place cut end None w c e old = let same : cut ≡ end = (cc) in inr (ap (λ (x : RowEnd). x.word) (sym same) ∙ w, ap (λ (x : RowEnd). is_cut x.cause) (sym same) ∙ c)
cut_split owner rows place cut end (Some x) w c e old = old e

cuts_or : (owner : ℕ) (rows : List Row) (moment : ℕ) (tokens : Option ℕ) → TakesCuts (IsCutOr owner rows) moment tokens
cuts_or owner rows moment tokens = λ entry seen place row old end e.
    cut_split owner rows place (cut_end entry moment seen tokens) end row.ended refl refl e (λ h. old end h)

pub cuts_quiet : (chosen : Chosen) (owner sent : ℕ) (kept : Option ℕ) (moment : ℕ) (tokens : Option ℕ) (live : List LiveRow) (l : Ledger) → IsQuietStep chosen owner l.rows (cut_all kept moment tokens live l).rows sent
cuts_quiet chosen owner sent kept moment tokens live l =
    let after : List Row = (cut_all kept moment tokens live l).rows in
    let named : AreLike IsNamed l.rows after = all_cut IsNamed named_write kept moment tokens live l in
    let each : EachRow (IsCutOr owner l.rows) owner after =
    each_cut (IsCutOr owner l.rows) owner kept moment tokens live l (cuts_or owner l.rows moment tokens) (λ place row is end e. inl (record { row = row; is = is; ended = e })) in
    record {
      like = same_rows owner l.rows after (all_cut IsKeptRow kept_write kept moment tokens live l);
      ends = λ place row is end e. cut_known chosen owner l.rows after sent place row end (each place row is end e);
      stays = λ place old new is_old is_new stamp e. committed_same owner l.rows after place old new named is_old is_new ∙ e;
      free = λ place old new is_old is_new end e h. committed_same owner l.rows after place old new named is_old is_new ∙ h.free;
    }

pub asked_still : (owner : ℕ) (rows after : List Row) (number : ℕ) → AreSameRows owner rows after → ((place : ℕ) (row : Row) → IsRowOf owner after place row → (end : RowEnd) → row.ended ≡ Some end → IsCountedAt owner after place row.number end → IsEndedIn owner rows place end) → IsAsked owner after number → IsAsked owner rows number
asked_still owner rows after number like there h =
    let has : IsEndedIn owner rows h.place h.end = there h.place h.has.row h.has.is h.end h.has.ended h.counted in
    let now : (r : Row) × (IsRowOf owner after h.place r × IsKeptRow has.row r) = row_to owner rows after h.place has.row like has.is in
    let same : now.0 ≡ h.has.row = one_row owner after h.place now.0 h.has.row now.1.0 h.has.is in
    let number_is : h.has.row.number ≡ has.row.number = ap (λ (r : Row). r.number) (sym same) ∙ now.1.1.number in
    record {
      place = h.place;
      end = h.end;
      has = has;
      counted = counted_from owner rows after h.place has.row.number h.has.row.number h.end (follow_on owner rows after h.place like) number_is h.counted;
      delay = h.delay;
      same = sym number_is ∙ h.same;
    }

cut_there : (owner : ℕ) (rows after : List Row) (place number : ℕ) (end : RowEnd) → IsEndedIn owner rows place end ⊎ ((end.word ≡ None) × (is_cut end.cause ≡ true)) → IsCountedAt owner after place number end → IsEndedIn owner rows place end
cut_there owner rows after place number end (inl has) counted = has
cut_there owner rows after place number end (inr both) counted = absurd (let no : true ≡ false = sym both.1 ∙ counted.cause in cc)

pub cuts_asked : (owner : ℕ) (kept : Option ℕ) (moment : ℕ) (tokens : Option ℕ) (live : List LiveRow) (l : Ledger) (number : ℕ) → IsAsked owner (cut_all kept moment tokens live l).rows number → IsAsked owner l.rows number
cuts_asked owner kept moment tokens live l number h =
    let after : List Row = (cut_all kept moment tokens live l).rows in
    let each : EachRow (IsCutOr owner l.rows) owner after =
    each_cut (IsCutOr owner l.rows) owner kept moment tokens live l (cuts_or owner l.rows moment tokens) (λ place row is end e. inl (record { row = row; is = is; ended = e })) in
    asked_still owner l.rows after number (same_rows owner l.rows after (all_cut IsKeptRow kept_write kept moment tokens live l))
    (λ place row is end e counted. cut_there owner l.rows after place row.number end (each place row is end e) counted) h

-- a placing
pub placed_quiet : (chosen : Chosen) (owner sent : ℕ) (placed : Placed) (rows : List Row) (place : ℕ) → IsQuietStep chosen owner rows (changed_at (placed_row placed) rows place) sent
placed_quiet chosen owner sent placed rows place =
    let after : List Row = changed_at (placed_row placed) rows place in
    let named : AreLike IsNamed rows after = all_changed_at IsNamed named_write (placed_row placed) (λ r. record { call = refl; number = refl; kind = refl; committed = refl; stays = λ end e. e }) rows place in
    let each : EachRow (IsCutOr owner rows) owner after =
    each_changed (IsCutOr owner rows) owner place (placed_row placed) rows (λ r. record { call = refl }) (λ r is h. h) (λ q row is end e. inl (record { row = row; is = is; ended = e })) in
    record {
      like = same_rows owner rows after (all_changed_at IsKeptRow kept_write (placed_row placed) (kept_placed placed) rows place);
      ends = λ q row is end e. cut_known chosen owner rows after sent q row end (each q row is end e);
      stays = λ q old new is_old is_new stamp e. committed_same owner rows after q old new named is_old is_new ∙ e;
      free = λ q old new is_old is_new end e h. committed_same owner rows after q old new named is_old is_new ∙ h.free;
    }

pub placed_asked : (owner : ℕ) (placed : Placed) (rows : List Row) (place number : ℕ) → IsAsked owner (changed_at (placed_row placed) rows place) number → IsAsked owner rows number
placed_asked owner placed rows place number h =
    let after : List Row = changed_at (placed_row placed) rows place in
    let each : EachRow (IsCutOr owner rows) owner after =
    each_changed (IsCutOr owner rows) owner place (placed_row placed) rows (λ r. record { call = refl }) (λ r is h. h) (λ q row is end e. inl (record { row = row; is = is; ended = e })) in
    asked_still owner rows after number (same_rows owner rows after (all_changed_at IsKeptRow kept_write (placed_row placed) (kept_placed placed) rows place))
    (λ q row is end e counted. cut_there owner rows after q row.number end (each q row is end e) counted) h

-- a stamp, where the row's end licenses nothing
abbrev pub IsUnlicensed : Chosen → ℕ → List Row → ℕ → Type 0
IsUnlicensed chosen owner rows place = (row : Row) → IsRowOf owner rows place row → (end : RowEnd) → row.ended ≡ Some end → IsLicense chosen owner rows place row end → ⊥

stamp_stays : (at stamp : ℕ) (o : Option ℕ) → o ≡ Some stamp → stamped at o ≡ Some stamp
stamp_stays at stamp None e = absurd (cc)
stamp_stays at stamp (Some x) e = e

stamp_kept : (at place q : ℕ) (old new : Row) (stamp : ℕ) → ((place ≡ q) × (new ≡ committed_row at old)) ⊎ ((place ≡ q → ⊥) × (new ≡ old)) → old.committed ≡ Some stamp → new.committed ≡ Some stamp
stamp_kept at place q old new stamp (inl both) e = ap (λ (r : Row). r.committed) both.1 ∙ stamp_stays at stamp old.committed e
stamp_kept at place q old new stamp (inr both) e = ap (λ (r : Row). r.committed) both.1 ∙ e

stamp_free : (chosen : Chosen) (at owner : ℕ) (rows : List Row) (place q : ℕ) (old new : Row) (end : RowEnd) → IsUnlicensed chosen owner rows place → IsRowOf owner rows q old → old.ended ≡ Some end → IsLicense chosen owner rows q old end → ((place ≡ q) × (new ≡ committed_row at old)) ⊎ ((place ≡ q → ⊥) × (new ≡ old)) → new.committed ≡ None
stamp_free chosen at owner rows place q old new end off is e h (inl both) =
    absurd (subst (λ (k : ℕ). IsUnlicensed chosen owner rows k) both.0 off old is end e h)
stamp_free chosen at owner rows place q old new end off is e h (inr both) = ap (λ (r : Row). r.committed) both.1 ∙ h.free

pub stamp_quiet : (chosen : Chosen) (at owner sent : ℕ) (rows : List Row) (place : ℕ) → IsUnlicensed chosen owner rows place → IsQuietStep chosen owner rows (changed_at (committed_row at) rows place) sent
stamp_quiet chosen at owner sent rows place off =
    let after : List Row = changed_at (committed_row at) rows place in
    let each : EachRow (IsCutOr owner rows) owner after =
    each_changed (IsCutOr owner rows) owner place (committed_row at) rows (λ r. record { call = refl }) (λ r is h. h) (λ q row is end e. inl (record { row = row; is = is; ended = e })) in
    record {
      like = same_rows owner rows after (all_changed_at IsKeptRow kept_write (committed_row at) (kept_committed at) rows place);
      ends = λ q row is end e. cut_known chosen owner rows after sent q row end (each q row is end e);
      stays = λ q old new is_old is_new stamp e. stamp_kept at place q old new stamp (written owner (committed_row at) rows place q old new is_old is_new).is e;
      free = λ q old new is_old is_new end e h. stamp_free chosen at owner rows place q old new end off is_old e h (written owner (committed_row at) rows place q old new is_old is_new).is;
    }

-- an end that is reported
abbrev pub IsReportedOr : ℕ → List Row → ℕ → RowEnd → ℕ → Row → Type 0
IsReportedOr owner rows place reported p row = (end : RowEnd) → row.ended ≡ Some end → IsEndedIn owner rows p end ⊎ ((p ≡ place) × (end ≡ reported))

reported_split : (owner : ℕ) (rows : List Row) (place : ℕ) (reported end : RowEnd) (o : Option RowEnd) → stamped reported o ≡ Some end → (o ≡ Some end → IsEndedIn owner rows place end ⊎ ((place ≡ place) × (end ≡ reported))) → IsEndedIn owner rows place end ⊎ ((place ≡ place) × (end ≡ reported))
reported_split owner rows place reported end None e old = let same : reported ≡ end = (cc) in inr (refl, sym same)
reported_split owner rows place reported end (Some x) e old = old e

pub reported_ends : (owner : ℕ) (rows : List Row) (place : ℕ) (reported : RowEnd) → EachRow (IsReportedOr owner rows place reported) owner (changed_at (ended_row reported) rows place)
reported_ends owner rows place reported =
    each_changed (IsReportedOr owner rows place reported) owner place (ended_row reported) rows (λ r. record { call = refl })
    (λ r is old end e. reported_split owner rows place reported end r.ended e (λ h. old end h))
    (λ q row is end e. inl (record { row = row; is = is; ended = e }))

reported_known : (chosen : Chosen) (owner : ℕ) (rows after : List Row) (sent place p : ℕ) (reported end : RowEnd) (row : Row) → ((row : Row) → IsRowOf owner after place row → IsKnownEnd chosen owner after place row reported × (has_retries chosen.plan ≡ true → IsCountedAt owner after place row.number reported → sent ≤ row.number)) → IsRowOf owner after p row → IsEndedIn owner rows p end ⊎ ((p ≡ place) × (end ≡ reported)) → IsEndedIn owner rows p end ⊎ (IsKnownEnd chosen owner after p row end × (has_retries chosen.plan ≡ true → IsCountedAt owner after p row.number end → sent ≤ row.number))
reported_known chosen owner rows after sent place p reported end row known is (inl has) = inl has
reported_known chosen owner rows after sent place p reported end row known is (inr both) =
    inr (subst (λ (k : ℕ). IsKnownEnd chosen owner after k row end × (has_retries chosen.plan ≡ true → IsCountedAt owner after k row.number end → sent ≤ row.number)) (sym both.0)
    (subst (λ (x : RowEnd). IsKnownEnd chosen owner after place row x × (has_retries chosen.plan ≡ true → IsCountedAt owner after place row.number x → sent ≤ row.number)) (sym both.1)
    (known row (subst (λ (k : ℕ). IsRowOf owner after k row) both.0 is))))

pub reported_quiet : (chosen : Chosen) (owner sent : ℕ) (rows : List Row) (place : ℕ) (reported : RowEnd) → ((row : Row) → IsRowOf owner (changed_at (ended_row reported) rows place) place row → IsKnownEnd chosen owner (changed_at (ended_row reported) rows place) place row reported × (has_retries chosen.plan ≡ true → IsCountedAt owner (changed_at (ended_row reported) rows place) place row.number reported → sent ≤ row.number)) → IsQuietStep chosen owner rows (changed_at (ended_row reported) rows place) sent
reported_quiet chosen owner sent rows place reported known =
    let after : List Row = changed_at (ended_row reported) rows place in
    let named : AreLike IsNamed rows after = all_changed_at IsNamed named_write (ended_row reported) (λ r. named_write.ended reported r) rows place in
    record {
      like = same_rows owner rows after (all_changed_at IsKeptRow kept_write (ended_row reported) (λ r. kept_write.ended reported r) rows place);
      ends = λ p row is end e. reported_known chosen owner rows after sent place p reported end row known is (reported_ends owner rows place reported p row is end e);
      stays = λ q old new is_old is_new stamp e. committed_same owner rows after q old new named is_old is_new ∙ e;
      free = λ q old new is_old is_new end e h. committed_same owner rows after q old new named is_old is_new ∙ h.free;
    }

-- numbers of rows after a step
pub within_like : (owner : ℕ) (rows after : List Row) (sent : ℕ) → AreSameRows owner rows after → ((place : ℕ) (row : Row) → IsRowOf owner rows place row → row.number ≤ sent) → (place : ℕ) (row : Row) → IsRowOf owner after place row → row.number ≤ sent
within_like owner rows after sent like within place row is =
    let was : (r : Row) × (IsRowOf owner rows place r × IsKeptRow r row) = row_back owner rows after place row like is in
    subst (λ (k : ℕ). k ≤ sent) (sym was.1.1.number) (within place was.0 was.1.0)

pub cuts_like : (owner : ℕ) (kept : Option ℕ) (moment : ℕ) (tokens : Option ℕ) (live : List LiveRow) (l : Ledger) → AreSameRows owner l.rows (cut_all kept moment tokens live l).rows
cuts_like owner kept moment tokens live l = same_rows owner l.rows (cut_all kept moment tokens live l).rows (all_cut IsKeptRow kept_write kept moment tokens live l)

pub asked_one : (owner : ℕ) (rows after : List Row) (number : ℕ) → AreSameRows owner rows after → (h : IsAsked owner after number) → IsEndedIn owner rows h.place h.end → IsAsked owner rows number
asked_one owner rows after number like h has =
    let now : (r : Row) × (IsRowOf owner after h.place r × IsKeptRow has.row r) = row_to owner rows after h.place has.row like has.is in
    let same : now.0 ≡ h.has.row = one_row owner after h.place now.0 h.has.row now.1.0 h.has.is in
    let number_is : h.has.row.number ≡ has.row.number = ap (λ (r : Row). r.number) (sym same) ∙ now.1.1.number in
    record {
      place = h.place;
      end = h.end;
      has = has;
      counted = counted_from owner rows after h.place has.row.number h.has.row.number h.end (follow_on owner rows after h.place like) number_is h.counted;
      delay = h.delay;
      same = sym number_is ∙ h.same;
    }
