-- Which ends a transparent retry follows, through each write to the rows.
use Rattle.std.proofs.Common.{◌≡◌, ◌≤◌, ℕ, Bool, true, false, ◌==◌, Option, Some, None, List, refl, sym, ap, subst, ◌∙◌, ◌⊎◌, inl, inr, arith}
use Rattle.std.proofs.lemmas.Bool.{eqb-false, eqb-true}
use Rattle.attempt_ledger.specs.declared.ledger.Ledger.{Ledger}
use Rattle.attempt_ledger.specs.declared.row.Placed.{Placed}
use Rattle.attempt_ledger.specs.declared.row.Row.{Row}
use Rattle.attempt_ledger.specs.declared.row.RowEnd.{RowEnd}
use Rattle.ledger_stamps.specs.Steps.{changed_at, committed_row, ended_row, placed_row, stamped}
use Rattle.call_core.specs.declared.live.LiveRow.{LiveRow}
use Rattle.call_core.specs.Commitments.{IsRowOf}
use Rattle.call_core.specs.Parts.{cut_end}
use Rattle.call_core.specs.Reasons.{IsKeptAt, IsKeptRow}
use Rattle.call_core.specs.RowFollowers.{HaveFollowers, IsUnfollowed, KeepsFollowers, WasFollower}
use Rattle.call_core.specs.RowLaws.{IsFollowedAt}
use Rattle.call_core.specs.Rows.{row_in}
use Rattle.call_core.specs.Steps.{cut_all}
use Rattle.call_core.proofs.Alike.{AreLike, IsNowRow, all_changed_at, all_cut, like_to}
use Rattle.call_core.proofs.KeptReasons.{kept_committed, kept_placed, kept_write}
use Rattle.call_core.proofs.NamedRows.{IsNamed, named_write}
use Rattle.call_core.proofs.Standing.{row_changed_other, row_changed_same}
use Rattle.call_core.proofs.EachRow.{EachRow, EndOf, TakesCuts, each_changed, each_cut, with_end}
use Rattle.call_core.proofs.RowLaws.Followers.{AreSameRows, EndsSo, IsFairStep, IsFreshEnd, cut_fresh, follow_back, following_step, one_row, row_back, same_rows}

-- writes that keep the commitments
pub still_fair : (at owner : ℕ) (rows after : List Row) → AreLike IsKeptRow rows after → AreLike IsNamed rows after → EachRow (λ place row. EndOf (EndsSo owner rows) place row) owner after → IsFairStep at owner rows after
still_fair at owner rows after like named ends_are = record {
  like = same_rows owner rows after like;
  ends = ends_are;
  back = λ place old new is_old is_new stamp e. inl (sym (same place old new is_old is_new) ∙ e);
  stays = λ place old new is_old is_new stamp e. same place old new is_old is_new ∙ e;
  none = λ place old new is_old is_new f e. same place old new is_old is_new ∙ e;
}
  where
    same : (place : ℕ) (old new : Row) → IsRowOf owner rows place old → IsRowOf owner after place new → new.committed ≡ old.committed
    same place old new is_old is_new =
        let now : IsNowRow IsNamed old (row_in after place) = like_to IsNamed (row_in rows place) (row_in after place) old (named place) is_old.there in
        let both : Some now.row ≡ Some new = sym now.there ∙ is_new.there in
        let equal : now.row ≡ new = (cc) in
        ap (λ (r : Row). r.committed) (sym equal) ∙ now.like.committed

ends_there : (owner : ℕ) (rows : List Row) → EachRow (λ place row. EndOf (EndsSo owner rows) place row) owner rows
ends_there owner rows = λ place row is end e. inr (record { row = row; is = is; ended = e })

cuts_there : (owner : ℕ) (rows : List Row) (moment : ℕ) (tokens : Option ℕ) → TakesCuts (λ place row. EndOf (EndsSo owner rows) place row) moment tokens
cuts_there owner rows moment tokens = λ entry seen place row old.
    with_end (EndsSo owner rows) place (cut_end entry moment seen tokens) row (λ none. inl (cut_fresh owner rows place row.number (cut_end entry moment seen tokens) refl)) old

pub cuts_fair : (at owner : ℕ) (kept : Option ℕ) (moment : ℕ) (tokens : Option ℕ) (live : List LiveRow) (l : Ledger) → IsFairStep at owner l.rows (cut_all kept moment tokens live l).rows
cuts_fair at owner kept moment tokens live l =
    still_fair at owner l.rows (cut_all kept moment tokens live l).rows (all_cut IsKeptRow kept_write kept moment tokens live l) (all_cut IsNamed named_write kept moment tokens live l)
    (each_cut (λ place row. EndOf (EndsSo owner l.rows) place row) owner kept moment tokens live l (cuts_there owner l.rows moment tokens) (ends_there owner l.rows))

pub placed_fair : (at owner : ℕ) (placed : Placed) (rows : List Row) (place : ℕ) → IsFairStep at owner rows (changed_at (placed_row placed) rows place)
placed_fair at owner placed rows place =
    still_fair at owner rows (changed_at (placed_row placed) rows place) (all_changed_at IsKeptRow kept_write (placed_row placed) (kept_placed placed) rows place)
    (all_changed_at IsNamed named_write (placed_row placed) (λ r. record { call = refl; number = refl; kind = refl; committed = refl; stays = λ end e. e }) rows place)
    (each_changed (λ p row. EndOf (EndsSo owner rows) p row) owner place (placed_row placed) rows (λ r. record { call = refl }) (λ r is h. h) (ends_there owner rows))

-- a stamp
stamp_new : (at stamp : ℕ) (o : Option ℕ) → stamped at o ≡ Some stamp → (o ≡ Some stamp) ⊎ (stamp ≡ at)
stamp_new at stamp None e = inr (let same : at ≡ stamp = (cc) in sym same)
stamp_new at stamp (Some x) e = inl e

stamp_kept : (at stamp : ℕ) (o : Option ℕ) → o ≡ Some stamp → stamped at o ≡ Some stamp
stamp_kept at stamp None e = absurd (cc)
stamp_kept at stamp (Some x) e = e

-- the row at a place after a write to one, as a case of both
pub record IsWritten (f : Row → Row) (place q : ℕ) (old new : Row) : Type 0 where
  pub is : ((place ≡ q) × (new ≡ f old)) ⊎ ((place ≡ q → ⊥) × (new ≡ old))

written_one : (owner : ℕ) (f : Row → Row) (rows : List Row) (place q : ℕ) (old new : Row) (b : Bool) → (place == q) ≡ b → IsRowOf owner rows q old → IsRowOf owner (changed_at f rows place) q new → IsWritten f place q old new
written_one owner f rows place q old new true t is_old is_new =
    let same : place ≡ q = eqb-true place q t in
    let there : row_in rows place ≡ Some old = ap (λ (k : ℕ). row_in rows k) same ∙ is_old.there in
    let both : Some (f old) ≡ Some new = sym (row_changed_same f rows place old there) ∙ ap (λ (k : ℕ). row_in (changed_at f rows place) k) same ∙ is_new.there in
    let equal : new ≡ f old = (cc) in
    record { is = inl (same, equal) }
written_one owner f rows place q old new false t is_old is_new =
    let off : place ≡ q → ⊥ = eqb-false place q t in
    let both : Some old ≡ Some new = sym is_old.there ∙ sym (row_changed_other f rows place q off) ∙ is_new.there in
    let equal : new ≡ old = (cc) in
    record { is = inr (off, equal) }

pub written : (owner : ℕ) (f : Row → Row) (rows : List Row) (place q : ℕ) (old new : Row) → IsRowOf owner rows q old → IsRowOf owner (changed_at f rows place) q new → IsWritten f place q old new
written owner f rows place q old new is_old is_new = written_one owner f rows place q old new (place == q) refl is_old is_new

stamp_back : (at place q : ℕ) (old new : Row) (stamp : ℕ) → ((place ≡ q) × (new ≡ committed_row at old)) ⊎ ((place ≡ q → ⊥) × (new ≡ old)) → new.committed ≡ Some stamp → (old.committed ≡ Some stamp) ⊎ (stamp ≡ at)
stamp_back at place q old new stamp (inl both) e = stamp_new at stamp old.committed (ap (λ (r : Row). r.committed) (sym both.1) ∙ e)
stamp_back at place q old new stamp (inr both) e = inl (ap (λ (r : Row). r.committed) (sym both.1) ∙ e)

stamp_stays : (at place q : ℕ) (old new : Row) (stamp : ℕ) → ((place ≡ q) × (new ≡ committed_row at old)) ⊎ ((place ≡ q → ⊥) × (new ≡ old)) → old.committed ≡ Some stamp → new.committed ≡ Some stamp
stamp_stays at place q old new stamp (inl both) e = ap (λ (r : Row). r.committed) both.1 ∙ stamp_kept at stamp old.committed e
stamp_stays at place q old new stamp (inr both) e = ap (λ (r : Row). r.committed) both.1 ∙ e

stamp_none : (at owner : ℕ) (rows : List Row) (place q : ℕ) (old new : Row) → IsUnfollowed owner rows place → IsRowOf owner rows q old → IsFollowedAt owner rows q old.number → ((place ≡ q) × (new ≡ committed_row at old)) ⊎ ((place ≡ q → ⊥) × (new ≡ old)) → old.committed ≡ None → new.committed ≡ None
stamp_none at owner rows place q old new off is f (inl both) e =
    absurd (off old (subst (λ (k : ℕ). IsRowOf owner rows k old) (sym both.0) is) (subst (λ (k : ℕ). IsFollowedAt owner rows k old.number) (sym both.0) f))
stamp_none at owner rows place q old new off is f (inr both) e = ap (λ (r : Row). r.committed) both.1 ∙ e

pub stamp_fair : (at owner : ℕ) (rows : List Row) (place : ℕ) → IsUnfollowed owner rows place → IsFairStep at owner rows (changed_at (committed_row at) rows place)
stamp_fair at owner rows place off = record {
  like = same_rows owner rows (changed_at (committed_row at) rows place) (all_changed_at IsKeptRow kept_write (committed_row at) (kept_committed at) rows place);
  ends =
      each_changed (λ p row. EndOf (EndsSo owner rows) p row) owner place (committed_row at) rows (λ r. record { call = refl }) (λ r is h. h) (ends_there owner rows);
  back = λ q old new is_old is_new stamp e. stamp_back at place q old new stamp (written owner (committed_row at) rows place q old new is_old is_new).is e;
  stays = λ q old new is_old is_new stamp e. stamp_stays at place q old new stamp (written owner (committed_row at) rows place q old new is_old is_new).is e;
  none = λ q old new is_old is_new f e. stamp_none at owner rows place q old new off is_old f (written owner (committed_row at) rows place q old new is_old is_new).is e;
}

-- an end that counts
pub ended_fair : (at owner : ℕ) (rows : List Row) (place : ℕ) (row : Row) (end : RowEnd) → IsRowOf owner rows place row → IsFreshEnd owner rows place row.number end → IsFairStep at owner rows (changed_at (ended_row end) rows place)
ended_fair at owner rows place row end is fresh =
    still_fair at owner rows (changed_at (ended_row end) rows place) (all_changed_at IsKeptRow kept_write (ended_row end) (λ r. kept_write.ended end r) rows place)
    (all_changed_at IsNamed named_write (ended_row end) (λ r. named_write.ended end r) rows place)
    (each_changed (λ p row. EndOf (EndsSo owner rows) p row) owner place (ended_row end) rows (λ r. record { call = refl })
    (λ r is_r h.
    with_end (EndsSo owner rows) place end r
    (λ none. inl (subst (λ (k : ℕ). IsFreshEnd owner rows place k end) (ap (λ (x : Row). x.number) (one_row owner rows place row r is is_r)) fresh)) h)
    (ends_there owner rows))

pub with_newest : (at owner : ℕ) (rows : List Row) (is_spent : Bool) (newest : Option ℕ) (place : ℕ) → IsUnfollowed owner rows place → HaveFollowers at owner rows is_spent newest → HaveFollowers at owner rows is_spent (Some place)
with_newest at owner rows is_spent newest place off old = record {
  followers = old.followers;
  followed = old.followed;
  once = old.once;
  free = old.free;
  spent = old.spent;
  spent_by = old.spent_by;
  spent_at = old.spent_at;
  stamped_at = old.stamped_at;
  last = λ q e. let same : place ≡ q = (cc) in subst (λ (k : ℕ). IsUnfollowed owner rows k) same off;
}

pub unfollowed_like : (owner : ℕ) (rows after : List Row) (place : ℕ) → AreSameRows owner rows after → IsUnfollowed owner rows place → IsUnfollowed owner after place
unfollowed_like owner rows after place like off = λ row is f.
    let was : (r : Row) × (IsRowOf owner rows place r × IsKeptRow r row) = row_back owner rows after place row like is in
    off was.0 was.1.0 (subst (λ (k : ℕ). IsFollowedAt owner rows place k) was.1.1.number (follow_back owner rows after place row.number like f))

-- entries go on
pub following_later : (at now owner : ℕ) (rows : List Row) (is_spent : Bool) (newest : Option ℕ) → at ≤ now → HaveFollowers at owner rows is_spent newest → HaveFollowers now owner rows is_spent newest
following_later at now owner rows is_spent newest le old = record {
  followers = old.followers;
  followed = old.followed;
  once = old.once;
  free = old.free;
  spent = old.spent;
  spent_by = old.spent_by;
  spent_at = λ place end spent. (let before : end.entry ≤ at = old.spent_at place end spent in omega (arith, before, le));
  stamped_at = λ place row is stamp e. (let before : stamp ≤ at = old.stamped_at place row is stamp e in omega (arith, before, le));
  last = old.last;
}

-- what is done to other calls
pub following_elsewhere : (at owner : ℕ) (rows after : List Row) (is_spent : Bool) (newest : Option ℕ) → KeepsFollowers owner rows after → HaveFollowers at owner rows is_spent newest → HaveFollowers at owner after is_spent newest
following_elsewhere at owner rows after is_spent newest keeps old = following_step at owner rows after is_spent newest fair old
  where
    same_committed : (place : ℕ) (old new : Row) → IsRowOf owner rows place old → IsRowOf owner after place new → new.committed ≡ old.committed
    same_committed place old new is_old is_new =
        let was : WasFollower owner rows place new = keeps.back place new is_new in
        was.committed ∙ ap (λ (r : Row). r.committed) (one_row owner rows place was.row old was.is is_old)

    kept_to : (place : ℕ) (row : Row) → IsRowOf owner rows place row → (now : Row) × (IsRowOf owner after place now × IsKeptRow row now)
    kept_to place row is = let now : IsKeptAt owner after place row = keeps.there place row is in (now.row, (now.is, now.kept))

    kept_back : (place : ℕ) (row : Row) → IsRowOf owner after place row → (was : Row) × (IsRowOf owner rows place was × IsKeptRow was row)
    kept_back place row is =
        let was : WasFollower owner rows place row = keeps.back place row is in
        let now : IsKeptAt owner after place was.row = keeps.there place was.row was.is in
        (was.row, (was.is, subst (λ (r : Row). IsKeptRow was.row r) (one_row owner after place now.row row now.is is) now.kept))

    fair : IsFairStep at owner rows after
    fair = record {
      like = record { to = kept_to; back = kept_back };
      ends = λ place row is end e.
          let was : WasFollower owner rows place row = keeps.back place row is in inr (record { row = was.row; is = was.is; ended = sym was.ended ∙ e });
      back = λ place old new is_old is_new stamp e. inl (sym (same_committed place old new is_old is_new) ∙ e);
      stays = λ place old new is_old is_new stamp e. same_committed place old new is_old is_new ∙ e;
      none = λ place old new is_old is_new f e. same_committed place old new is_old is_new ∙ e;
    }
