-- Which ends a transparent retry follows, through a step that makes no row.
use Rattle.std.proofs.Common.{◌≡◌, ◌≤◌, ℕ, Bool, true, false, ◌&&◌, Option, Some, None, List, sym, ap, subst, ◌∙◌, ◌⊎◌, inl, inr, arith}
use Rattle.attempt_ledger.specs.Ends.{is_cut}
use Rattle.attempt_ledger.specs.Numbering.{is_transparent}
use Rattle.attempt_ledger.specs.TransparentRows.{is_by_peer, is_refused, is_unsent}
use Rattle.attempt_ledger.specs.declared.row.Row.{Row}
use Rattle.attempt_ledger.specs.declared.row.RowCause.{RowCause}
use Rattle.attempt_ledger.specs.declared.row.RowCause.TheVariants as cause
use Rattle.attempt_ledger.specs.declared.row.RowEnd.{RowEnd}
use Rattle.attempt_ledger.specs.declared.row.RowKind.{RowKind}
use Rattle.call_core.specs.Commitments.{IsRowOf}
use Rattle.call_core.specs.Reasons.{IsKeptRow}
use Rattle.call_core.specs.RowFollowers.{HasSpent, HaveFollowers, IsCommittedBy, IsEndedIn, IsFollowedDuly, IsFollowerOf, IsSpentBy, IsTakenBefore}
use Rattle.call_core.specs.RowLaws.{EndsKeep, IsFollowedAt}
use Rattle.call_core.specs.Rows.{row_in}
use Rattle.call_core.proofs.Alike.{AreLike, IsNowRow, WasRow, like_from, like_to}
use Rattle.call_core.proofs.EachRow.{EachRow, EndOf}

-- each row of the call stands on, and there is none besides
pub record AreSameRows (owner : ℕ) (rows after : List Row) : Type 0 where
  pub to : (place : ℕ) (row : Row) → IsRowOf owner rows place row → (now : Row) × (IsRowOf owner after place now × IsKeptRow row now)
  pub back : (place : ℕ) (row : Row) → IsRowOf owner after place row → (was : Row) × (IsRowOf owner rows place was × IsKeptRow was row)

pub same_rows : (owner : ℕ) (rows after : List Row) → AreLike IsKeptRow rows after → AreSameRows owner rows after
same_rows owner rows after like = record {
  to = λ place row is.
      let now : IsNowRow IsKeptRow row (row_in after place) = like_to IsKeptRow (row_in rows place) (row_in after place) row (like place) is.there in
      (now.row, (record { there = now.there; call = now.like.call ∙ is.call }, now.like));
  back = λ place row is.
      let was : WasRow IsKeptRow (row_in rows place) row = like_from IsKeptRow (row_in rows place) (row_in after place) row (like place) is.there in
      (was.row, (record { there = was.there; call = sym was.like.call ∙ is.call }, was.like));
}

-- an end that no transparent retry follows, and that none has to
pub record IsFreshEnd (owner : ℕ) (rows : List Row) (place number : ℕ) (end : RowEnd) : Type 0 where
  pub duly : IsFollowedDuly owner rows place number end
  pub unfollowed : is_by_peer end.cause ≡ true → IsFollowedAt owner rows place number → ⊥

abbrev pub EndsSo : ℕ → List Row → ℕ → ℕ → RowEnd → Type 0
EndsSo owner rows place number end = IsFreshEnd owner rows place number end ⊎ IsEndedIn owner rows place end

-- what a step that makes no row leaves: each end after it is such a one, or was there; and each stamp was there, or is of this entry,
-- but for the rows that are followed
pub record IsFairStep (at owner : ℕ) (rows after : List Row) : Type 0 where
  pub like : AreSameRows owner rows after
  pub ends : EachRow (λ place row. EndOf (EndsSo owner rows) place row) owner after
  pub back : (place : ℕ) (old new : Row) → IsRowOf owner rows place old → IsRowOf owner after place new → (stamp : ℕ) → new.committed ≡ Some stamp → (old.committed ≡ Some stamp) ⊎ (stamp ≡ at)
  pub stays : (place : ℕ) (old new : Row) → IsRowOf owner rows place old → IsRowOf owner after place new → (stamp : ℕ) → old.committed ≡ Some stamp → new.committed ≡ Some stamp
  pub none : (place : ℕ) (old new : Row) → IsRowOf owner rows place old → IsRowOf owner after place new → IsFollowedAt owner rows place old.number → old.committed ≡ None → new.committed ≡ None

-- rows go over
pub row_to : (owner : ℕ) (rows after : List Row) (place : ℕ) (row : Row) → AreSameRows owner rows after → IsRowOf owner rows place row → (now : Row) × (IsRowOf owner after place now × IsKeptRow row now)
row_to owner rows after place row like is = like.to place row is

pub row_back : (owner : ℕ) (rows after : List Row) (place : ℕ) (row : Row) → AreSameRows owner rows after → IsRowOf owner after place row → (was : Row) × (IsRowOf owner rows place was × IsKeptRow was row)
row_back owner rows after place row like is = like.back place row is

pub follow_to : (owner : ℕ) (rows after : List Row) (place number : ℕ) → AreSameRows owner rows after → IsFollowedAt owner rows place number → IsFollowedAt owner after place number
follow_to owner rows after place number like old =
    let now : (r : Row) × (IsRowOf owner after old.later r × IsKeptRow old.next r) = row_to owner rows after old.later old.next like old.is in
    record {
      later = old.later;
      order = old.order;
      next = now.0;
      is = now.1.0;
      kind = ap (λ (k : RowKind). is_transparent k) now.1.1.kind ∙ old.kind;
      same = now.1.1.number ∙ old.same;
    }

pub follow_back : (owner : ℕ) (rows after : List Row) (place number : ℕ) → AreSameRows owner rows after → IsFollowedAt owner after place number → IsFollowedAt owner rows place number
follow_back owner rows after place number like old =
    let was : (r : Row) × (IsRowOf owner rows old.later r × IsKeptRow r old.next) = row_back owner rows after old.later old.next like old.is in
    record {
      later = old.later;
      order = old.order;
      next = was.0;
      is = was.1.0;
      kind = ap (λ (k : RowKind). is_transparent k) (sym was.1.1.kind) ∙ old.kind;
      same = sym was.1.1.number ∙ old.same;
    }

-- a place has one row
pub one_row : (owner : ℕ) (rows : List Row) (place : ℕ) (a b : Row) → IsRowOf owner rows place a → IsRowOf owner rows place b → a ≡ b
one_row owner rows place a b first second = let both : Some a ≡ Some b = sym first.there ∙ second.there in cc

pub one_end : (owner : ℕ) (rows : List Row) (place : ℕ) (a b : RowEnd) → IsEndedIn owner rows place a → IsEndedIn owner rows place b → a ≡ b
one_end owner rows place a b first second =
    let same : first.row ≡ second.row = one_row owner rows place first.row second.row first.is second.is in
    let both : Some a ≡ Some b = sym first.ended ∙ ap (λ (r : Row). r.ended) same ∙ second.ended in cc

-- a cut is none of these
pub cut_unsent : (c : RowCause) → is_cut c ≡ true → is_unsent c ≡ true → ⊥
cut_unsent cause.Cut e h = let no : false ≡ true = h in cc
cut_unsent cause.Status e h = let no : false ≡ true = e in cc
cut_unsent cause.Http e h = let no : false ≡ true = e in cc
cut_unsent cause.Reset e h = let no : false ≡ true = e in cc
cut_unsent cause.Framing e h = let no : false ≡ true = e in cc
cut_unsent cause.Lost e h = let no : false ≡ true = e in cc
cut_unsent cause.Goaway e h = let no : false ≡ true = e in cc
cut_unsent cause.Unsent e h = let no : false ≡ true = e in cc
cut_unsent cause.Pick e h = let no : false ≡ true = e in cc

pub cut_by_peer : (c : RowCause) → is_cut c ≡ true → is_by_peer c ≡ true → ⊥
cut_by_peer cause.Cut e h = let no : false ≡ true = h in cc
cut_by_peer cause.Status e h = let no : false ≡ true = e in cc
cut_by_peer cause.Http e h = let no : false ≡ true = e in cc
cut_by_peer cause.Reset e h = let no : false ≡ true = e in cc
cut_by_peer cause.Framing e h = let no : false ≡ true = e in cc
cut_by_peer cause.Lost e h = let no : false ≡ true = e in cc
cut_by_peer cause.Goaway e h = let no : false ≡ true = e in cc
cut_by_peer cause.Unsent e h = let no : false ≡ true = e in cc
cut_by_peer cause.Pick e h = let no : false ≡ true = e in cc

pub and_second : (a b : Bool) → (a && b) ≡ true → b ≡ true
and_second true b e = e
and_second false b e = absurd (cc)

pub cut_refused : (end : RowEnd) → is_cut end.cause ≡ true → is_refused end ≡ true → ⊥
cut_refused end e h = cut_by_peer end.cause e (and_second end.unseen (is_by_peer end.cause) h)

-- a step that writes no stamp and is given no end
pub ended_case : (owner : ℕ) (rows : List Row) (place number : ℕ) (end : RowEnd) → is_by_peer end.cause ≡ true → IsFollowedAt owner rows place number → EndsSo owner rows place number end → IsEndedIn owner rows place end
ended_case owner rows place number end by_peer f (inl fresh) = absurd (fresh.unfollowed by_peer f)
ended_case owner rows place number end by_peer f (inr has) = has

pub spent_like : (owner : ℕ) (rows after : List Row) (place : ℕ) (end : RowEnd) → AreSameRows owner rows after → IsEndedIn owner rows place end → IsSpentBy owner after place end → IsSpentBy owner rows place end
spent_like owner rows after place end like has spent =
    let was : (r : Row) × (IsRowOf owner rows place r × IsKeptRow r spent.has.row) = row_back owner rows after place spent.has.row like spent.has.is in
    let same : has.row ≡ was.0 = one_row owner rows place has.row was.0 has.is was.1.0 in
    record {
      has = has;
      by_peer = spent.by_peer;
      followed =
          subst (λ (k : ℕ). IsFollowedAt owner rows place k) (was.1.1.number ∙ ap (λ (r : Row). r.number) (sym same))
          (follow_back owner rows after place spent.has.row.number like spent.followed);
    }

pub spent_back : (at owner : ℕ) (rows after : List Row) (place : ℕ) (end : RowEnd) → IsFairStep at owner rows after → IsSpentBy owner after place end → IsSpentBy owner rows place end
spent_back at owner rows after place end step spent =
    spent_like owner rows after place end step.like
    (ended_case owner rows place spent.has.row.number end spent.by_peer (follow_back owner rows after place spent.has.row.number step.like spent.followed)
    (step.ends place spent.has.row spent.has.is end spent.has.ended)) spent

pub spent_to : (owner : ℕ) (rows after : List Row) (place : ℕ) (end : RowEnd) → AreSameRows owner rows after → IsSpentBy owner rows place end → IsSpentBy owner after place end
spent_to owner rows after place end like spent =
    let now : (r : Row) × (IsRowOf owner after place r × IsKeptRow spent.has.row r) = row_to owner rows after place spent.has.row like spent.has.is in
    record {
      has = record { row = now.0; is = now.1.0; ended = now.1.1.ended end spent.has.ended };
      by_peer = spent.by_peer;
      followed = subst (λ (k : ℕ). IsFollowedAt owner after place k) (sym now.1.1.number) (follow_to owner rows after place spent.has.row.number like spent.followed);
    }

pub taken_to : (owner : ℕ) (rows after : List Row) (place : ℕ) (end : RowEnd) → AreSameRows owner rows after → IsTakenBefore owner rows place end → IsTakenBefore owner after place end
taken_to owner rows after place end like old =
    record { other = old.other; earlier = old.earlier; spent = spent_to owner rows after old.other old.earlier like old.spent; order = old.order }

pub committed_to : (at owner : ℕ) (rows after : List Row) (entry : ℕ) → IsFairStep at owner rows after → IsCommittedBy owner rows entry → IsCommittedBy owner after entry
committed_to at owner rows after entry step old =
    let now : (r : Row) × (IsRowOf owner after old.place r × IsKeptRow old.row r) = row_to owner rows after old.place old.row step.like old.is in
    record { place = old.place; row = now.0; is = now.1.0; stamp = old.stamp; committed = step.stays old.place old.row now.0 old.is now.1.0 old.stamp old.committed; order = old.order }

pub duly_case : (at owner : ℕ) (rows after : List Row) (place number : ℕ) (end : RowEnd) → IsFairStep at owner rows after → IsFollowedAt owner rows place number ⊎ (IsTakenBefore owner rows place end ⊎ IsCommittedBy owner rows end.entry) → IsFollowedAt owner after place number ⊎ (IsTakenBefore owner after place end ⊎ IsCommittedBy owner after end.entry)
duly_case at owner rows after place number end step (inl f) = inl (follow_to owner rows after place number step.like f)
duly_case at owner rows after place number end step (inr (inl t)) = inr (inl (taken_to owner rows after place end step.like t))
duly_case at owner rows after place number end step (inr (inr c)) = inr (inr (committed_to at owner rows after end.entry step c))

pub duly_to : (at owner : ℕ) (rows after : List Row) (place number : ℕ) (end : RowEnd) → IsFairStep at owner rows after → IsFollowedDuly owner rows place number end → IsFollowedDuly owner after place number end
duly_to at owner rows after place number end step old = record {
  unsent = λ e. follow_to owner rows after place number step.like (old.unsent e);
  refused = λ e. duly_case at owner rows after place number end step (old.refused e);
}

pub cut_duly : (owner : ℕ) (rows : List Row) (place number : ℕ) (end : RowEnd) → is_cut end.cause ≡ true → IsFollowedDuly owner rows place number end
cut_duly owner rows place number end e = record {
  unsent = λ h. absurd (cut_unsent end.cause e h);
  refused = λ h. absurd (cut_refused end e h);
}

pub cut_fresh : (owner : ℕ) (rows : List Row) (place number : ℕ) (end : RowEnd) → is_cut end.cause ≡ true → IsFreshEnd owner rows place number end
cut_fresh owner rows place number end e = record { duly = cut_duly owner rows place number end e; unfollowed = λ h. absurd (cut_by_peer end.cause e h) }

pub inherits_case : (at owner : ℕ) (rows after : List Row) (place before : ℕ) (old new was now : Row) (entry : ℕ) → IsFairStep at owner rows after → IsRowOf owner rows place old → IsRowOf owner after place new → IsRowOf owner rows before was → IsRowOf owner after before now → IsFollowedAt owner rows before was.number → (was.committed ≡ None) ⊎ (old.committed ≡ Some entry) → (now.committed ≡ None) ⊎ (new.committed ≡ Some entry)
inherits_case at owner rows after place before old new was now entry step is_old is_new is_was is_now f (inl none) = inl (step.none before was now is_was is_now f none)
inherits_case at owner rows after place before old new was now entry step is_old is_new is_was is_now f (inr some) = inr (step.stays place old new is_old is_new entry some)

pub follows_by : (owner : ℕ) (rows : List Row) (place : ℕ) (row : Row) → IsRowOf owner rows place row → is_transparent row.kind ≡ true → (f : IsFollowerOf owner rows place row) → IsFollowedAt owner rows f.before f.has.row.number
follows_by owner rows place row is kind f = record { later = place; order = f.order; next = row; is = is; kind = kind; same = sym f.number }

pub follower_to : (at owner : ℕ) (rows after : List Row) (place : ℕ) (old new : Row) → IsFairStep at owner rows after → IsRowOf owner rows place old → IsRowOf owner after place new → IsKeptRow old new → is_transparent old.kind ≡ true → IsFollowerOf owner rows place old → IsFollowerOf owner after place new
follower_to at owner rows after place old new step is_old is_new same kind f =
    let now : (r : Row) × (IsRowOf owner after f.before r × IsKeptRow f.has.row r) = row_to owner rows after f.before f.has.row step.like f.has.is in
    record {
      before = f.before;
      order = f.order;
      end = f.end;
      has = record { row = now.0; is = now.1.0; ended = now.1.1.ended f.end f.has.ended };
      number = now.1.1.number ∙ f.number ∙ sym same.number;
      nearest = λ between other is first second e.
          let was : (r : Row) × (IsRowOf owner rows between r × IsKeptRow r other) = row_back owner rows after between other step.like is in
          f.nearest between was.0 was.1.0 first second (sym was.1.1.number ∙ e ∙ same.number);
      cause = f.cause;
      due = same.due ∙ f.due;
      inherits =
          inherits_case at owner rows after place f.before old new f.has.row now.0 f.end.entry step is_old is_new f.has.is now.1.0
          (follows_by owner rows place old is_old kind f) f.inherits;
    }

pub duly_step : (at owner : ℕ) (rows after : List Row) (place number was_number : ℕ) (end : RowEnd) → IsFairStep at owner rows after → number ≡ was_number → (IsEndedIn owner rows place end → IsFollowedDuly owner rows place was_number end) → EndsSo owner rows place number end → IsFollowedDuly owner after place number end
duly_step at owner rows after place number was_number end step same old (inl fresh) = duly_to at owner rows after place number end step fresh.duly
duly_step at owner rows after place number was_number end step same old (inr has) =
    duly_to at owner rows after place number end step (subst (λ (k : ℕ). IsFollowedDuly owner rows place k end) (sym same) (old has))

pub duly_there : (owner : ℕ) (rows : List Row) (place : ℕ) (row : Row) (end : RowEnd) → EndsKeep (IsFollowedDuly owner) owner rows rows → IsRowOf owner rows place row → IsEndedIn owner rows place end → IsFollowedDuly owner rows place row.number end
duly_there owner rows place row end old is has =
    subst (λ (r : Row). IsFollowedDuly owner rows place r.number end) (one_row owner rows place has.row row has.is is) (old place has.row has.is end has.ended)

pub stamp_case : (at : ℕ) (stamp : ℕ) (old : Row) → (old.committed ≡ Some stamp) ⊎ (stamp ≡ at) → (old.committed ≡ Some stamp → stamp ≤ at) → stamp ≤ at
stamp_case at stamp old (inl e) rest = rest e
stamp_case at stamp old (inr same) rest = omega (arith, same)

pub free_case : (at entry stamp : ℕ) (old : Row) → (old.committed ≡ Some stamp) ⊎ (stamp ≡ at) → entry ≤ at → (old.committed ≡ Some stamp → entry ≤ stamp) → entry ≤ stamp
free_case at entry stamp old (inl e) le rest = rest e
free_case at entry stamp old (inr same) le rest = omega (arith, same, le)

pub following_step : (at owner : ℕ) (rows after : List Row) (is_spent : Bool) (newest : Option ℕ) → IsFairStep at owner rows after → HaveFollowers at owner rows is_spent newest → HaveFollowers at owner after is_spent newest
following_step at owner rows after is_spent newest step old = record {
  followers = λ place row is kind.
      let was : (r : Row) × (IsRowOf owner rows place r × IsKeptRow r row) = row_back owner rows after place row step.like is in
      let why : is_transparent was.0.kind ≡ true = ap (λ (k : RowKind). is_transparent k) (sym was.1.1.kind) ∙ kind in
      follower_to at owner rows after place was.0 row step was.1.0 is was.1.1 why (old.followers place was.0 was.1.0 why);
  followed = λ place row is end e.
      let was : (r : Row) × (IsRowOf owner rows place r × IsKeptRow r row) = row_back owner rows after place row step.like is in
      duly_step at owner rows after place row.number was.0.number end step was.1.1.number (λ has. duly_there owner rows place was.0 end old.followed was.1.0 has) (step.ends place row is end e);
  once = λ place other end afterwards first second. old.once place other end afterwards (spent_back at owner rows after place end step first) (spent_back at owner rows after other afterwards step second);
  free = λ place end spent other row is stamp e.
      let was : (r : Row) × (IsRowOf owner rows other r × IsKeptRow r row) = row_back owner rows after other row step.like is in
      let before : IsSpentBy owner rows place end = spent_back at owner rows after place end step spent in
      free_case at end.entry stamp was.0 (step.back other was.0 row was.1.0 is stamp e) (old.spent_at place end before) (λ h. old.free place end before other was.0 was.1.0 stamp h);
  spent = λ place end spent. old.spent place end (spent_back at owner rows after place end step spent);
  spent_by = λ e.
      let has : HasSpent owner rows = old.spent_by e in record { place = has.place; end = has.end; spent = spent_to owner rows after has.place has.end step.like has.spent };
  spent_at = λ place end spent. old.spent_at place end (spent_back at owner rows after place end step spent);
  stamped_at = λ place row is stamp e.
      let was : (r : Row) × (IsRowOf owner rows place r × IsKeptRow r row) = row_back owner rows after place row step.like is in
      stamp_case at stamp was.0 (step.back place was.0 row was.1.0 is stamp e) (λ h. old.stamped_at place was.0 was.1.0 stamp h);
  last = λ place e row is f.
      let was : (r : Row) × (IsRowOf owner rows place r × IsKeptRow r row) = row_back owner rows after place row step.like is in
      old.last place e was.0 was.1.0 (subst (λ (k : ℕ). IsFollowedAt owner rows place k) was.1.1.number (follow_back owner rows after place row.number step.like f));
}
