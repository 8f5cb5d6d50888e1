-- Which ends a transparent retry follows, through the making of a row.
use Rattle.std.proofs.Common.{◌≡◌, ◌≤◌, ◌<◌, ℕ, ◌+◌, Bool, true, false, ◌==◌, length, Option, Some, None, List, [], ◌∷◌, ◌++◌, refl, sym, ap, subst, ◌∙◌, ◌⊎◌, inl, inr, arith}
use Rattle.std.proofs.lemmas.Bool.{eqb-false, eqb-true}
use Rattle.attempt_ledger.specs.Numbering.{is_transparent}
use Rattle.attempt_ledger.specs.TransparentRows.{is_by_peer, is_refused, is_unsent}
use Rattle.attempt_ledger.specs.declared.row.Row.{Row}
use Rattle.attempt_ledger.specs.declared.row.RowEnd.{RowEnd}
use Rattle.attempt_ledger.specs.declared.row.RowKind.{RowKind}
use Rattle.ledger_stamps.specs.Steps.{changed_at, ended_row, stamped}
use Rattle.call_core.specs.Commitments.{IsRowOf}
use Rattle.call_core.specs.Reasons.{IsKeptRow}
use Rattle.call_core.specs.RowFollowers.{HasEndIn, HasSpent, HaveFollowers, IsCommittedBy, IsEndedIn, IsFollowedDuly, IsFollowerOf, IsSpentBy, IsTakenBefore}
use Rattle.call_core.specs.RowLaws.{IsFollowedAt}
use Rattle.call_core.specs.Rows.{row_in}
use Rattle.call_core.proofs.Alike.{AreLike, IsNowRow, all_changed_at, like_to, row_split}
use Rattle.call_core.proofs.KeptReasons.{kept_write}
use Rattle.call_core.proofs.NamedRows.{IsNamed, named_write}
use Rattle.call_core.proofs.Standing.{row_changed_same, row_last, row_more}
use Rattle.call_core.proofs.Cuts.{row_below}
use Rattle.call_core.proofs.RowLaws.Chains.{AreKinds}
use Rattle.call_core.proofs.EachRow.{EachRow, EndOf, each_changed, with_end}
use Rattle.call_core.proofs.RowLaws.Followers.{AreSameRows, follow_back, follow_to, one_row, row_back, row_to, same_rows, spent_to}

-- a row more that is no transparent retry
plain_back : (owner : ℕ) (rows : List Row) (x : Row) (place number : ℕ) → is_transparent x.kind ≡ false → IsFollowedAt owner (rows ++ x ∷ []) place number → IsFollowedAt owner rows place number
plain_back owner rows x place number plain f = back_case (row_split rows x f.later f.next f.is.there)
  where
    back_case : (row_in rows f.later ≡ Some f.next) ⊎ ((f.later ≡ length rows + 1) × (f.next ≡ x)) → IsFollowedAt owner rows place number
    back_case (inl there) = record { later = f.later; order = f.order; next = f.next; is = record { there = there; call = f.is.call }; kind = f.kind; same = f.same }
    back_case (inr both) = absurd (let no : true ≡ false = sym f.kind ∙ ap (λ (r : Row). is_transparent r.kind) both.1 ∙ plain in cc)

-- the rows with one more: a row of them is an old one or the new one
abbrev pub IsOldOr : ℕ → List Row → Row → ℕ → Row → Type 0
IsOldOr owner rows x place row = IsRowOf owner rows place row ⊎ ((place ≡ length rows + 1) × (row ≡ x))

old_or : (owner : ℕ) (rows : List Row) (x row : Row) (place : ℕ) → row.call ≡ owner → (row_in rows place ≡ Some row) ⊎ ((place ≡ length rows + 1) × (row ≡ x)) → IsOldOr owner rows x place row
old_or owner rows x row place call (inl there) = inl (record { there = there; call = call })
old_or owner rows x row place call (inr both) = inr both

pub which : (owner : ℕ) (rows : List Row) (x row : Row) (place : ℕ) → IsRowOf owner (rows ++ x ∷ []) place row → IsOldOr owner rows x place row
which owner rows x row place is = old_or owner rows x row place is.call (row_split rows x place row is.there)

pub more_row : (owner : ℕ) (rows : List Row) (x row : Row) (place : ℕ) → IsRowOf owner rows place row → IsRowOf owner (rows ++ x ∷ []) place row
more_row owner rows x row place is = record { there = row_more rows x place row is.there; call = is.call }

pub more_follow : (owner : ℕ) (rows : List Row) (x : Row) (place number : ℕ) → IsFollowedAt owner rows place number → IsFollowedAt owner (rows ++ x ∷ []) place number
more_follow owner rows x place number f = record { later = f.later; order = f.order; next = f.next; is = more_row owner rows x f.next f.later f.is; kind = f.kind; same = f.same }

more_spent : (owner : ℕ) (rows : List Row) (x : Row) (place : ℕ) (end : RowEnd) → IsSpentBy owner rows place end → IsSpentBy owner (rows ++ x ∷ []) place end
more_spent owner rows x place end old = record {
  has = record { row = old.has.row; is = more_row owner rows x old.has.row place old.has.is; ended = old.has.ended };
  by_peer = old.by_peer;
  followed = more_follow owner rows x place old.has.row.number old.followed;
}

more_duly_case : (owner : ℕ) (rows : List Row) (x : Row) (place number : ℕ) (end : RowEnd) → IsFollowedAt owner rows place number ⊎ (IsTakenBefore owner rows place end ⊎ IsCommittedBy owner rows end.entry) → IsFollowedAt owner (rows ++ x ∷ []) place number ⊎ (IsTakenBefore owner (rows ++ x ∷ []) place end ⊎ IsCommittedBy owner (rows ++ x ∷ []) end.entry)
more_duly_case owner rows x place number end (inl f) = inl (more_follow owner rows x place number f)
more_duly_case owner rows x place number end (inr (inl t)) =
    inr (inl (record { other = t.other; earlier = t.earlier; spent = more_spent owner rows x t.other t.earlier t.spent; order = t.order }))
more_duly_case owner rows x place number end (inr (inr c)) =
    inr (inr (record { place = c.place; row = c.row; is = more_row owner rows x c.row c.place c.is; stamp = c.stamp; committed = c.committed; order = c.order }))

more_duly : (owner : ℕ) (rows : List Row) (x : Row) (place number : ℕ) (end : RowEnd) → IsFollowedDuly owner rows place number end → IsFollowedDuly owner (rows ++ x ∷ []) place number end
more_duly owner rows x place number end old = record {
  unsent = λ e. more_follow owner rows x place number (old.unsent e);
  refused = λ e. more_duly_case owner rows x place number end (old.refused e);
}

more_nearest : (owner : ℕ) (rows : List Row) (x row other : Row) (place between : ℕ) (f : IsFollowerOf owner rows place row) → place ≤ length rows → IsOldOr owner rows x between other → f.before < between → between < place → other.number ≡ row.number → ⊥
more_nearest owner rows x row other place between f le (inl is) first second e = f.nearest between other is first second e
more_nearest owner rows x row other place between f le (inr both) first second e =
    let at : between ≡ length rows + 1 = both.0 in omega (arith, at, second, le)

more_follower : (owner : ℕ) (rows : List Row) (x row : Row) (place : ℕ) → IsRowOf owner rows place row → IsFollowerOf owner rows place row → IsFollowerOf owner (rows ++ x ∷ []) place row
more_follower owner rows x row place is f = record {
  before = f.before;
  order = f.order;
  end = f.end;
  has = record { row = f.has.row; is = more_row owner rows x f.has.row f.before f.has.is; ended = f.has.ended };
  number = f.number;
  nearest = λ between other is_other first second e.
      more_nearest owner rows x row other place between f (row_below rows place row is.there) (which owner rows x other between is_other) first second e;
  cause = f.cause;
  due = f.due;
  inherits = f.inherits;
}

-- what is known of a row that is made, and of the end that it follows, where it is a transparent retry
more_ended : (owner : ℕ) (rows : List Row) (x row : Row) (place : ℕ) (end : RowEnd) → x.ended ≡ None → IsOldOr owner rows x place row → row.ended ≡ Some end → IsEndedIn owner rows place end
more_ended owner rows x row place end none (inl is) e = record { row = row; is = is; ended = e }
more_ended owner rows x row place end none (inr both) e =
    absurd (let no : None ≡ Some end = sym none ∙ ap (λ (r : Row). r.ended) (sym both.1) ∙ e in cc)

-- the new row is none of a transparent retry
plain_spent : (owner : ℕ) (rows : List Row) (x : Row) (place : ℕ) (end : RowEnd) → x.ended ≡ None → is_transparent x.kind ≡ false → IsSpentBy owner (rows ++ x ∷ []) place end → IsSpentBy owner rows place end
plain_spent owner rows x place end none plain spent =
    let has : IsEndedIn owner rows place end = more_ended owner rows x spent.has.row place end none (which owner rows x spent.has.row place spent.has.is) spent.has.ended in
    let same : has.row ≡ spent.has.row = one_row owner (rows ++ x ∷ []) place has.row spent.has.row (more_row owner rows x has.row place has.is) spent.has.is in
    record {
      has = has;
      by_peer = spent.by_peer;
      followed =
          subst (λ (r : Row). IsFollowedAt owner rows place r.number) (sym same) (plain_back owner rows x place spent.has.row.number plain spent.followed);
    }

plain_followers : (owner : ℕ) (rows : List Row) (x row : Row) (place : ℕ) → is_transparent x.kind ≡ false → ((place : ℕ) (row : Row) → IsRowOf owner rows place row → is_transparent row.kind ≡ true → IsFollowerOf owner rows place row) → is_transparent row.kind ≡ true → IsOldOr owner rows x place row → IsFollowerOf owner (rows ++ x ∷ []) place row
plain_followers owner rows x row place plain old kind (inl is) = more_follower owner rows x row place is (old place row is kind)
plain_followers owner rows x row place plain old kind (inr both) =
    absurd (let no : true ≡ false = sym kind ∙ ap (λ (r : Row). is_transparent r.kind) both.1 ∙ plain in cc)

plain_stamp : (owner : ℕ) (rows : List Row) (x row : Row) (place stamp : ℕ) (P : Type 0) → x.committed ≡ None → row.committed ≡ Some stamp → (IsRowOf owner rows place row → P) → IsOldOr owner rows x place row → P
plain_stamp owner rows x row place stamp P none e old (inl is) = old is
plain_stamp owner rows x row place stamp P none e old (inr both) =
    absurd (let no : None ≡ Some stamp = sym none ∙ ap (λ (r : Row). r.committed) (sym both.1) ∙ e in cc)

pub plain_more : (at owner : ℕ) (rows : List Row) (x : Row) (is_spent : Bool) (newest : Option ℕ) → x.ended ≡ None → x.committed ≡ None → is_transparent x.kind ≡ false → ((place : ℕ) → newest ≡ Some place → place ≤ length rows) → HaveFollowers at owner rows is_spent newest → HaveFollowers at owner (rows ++ x ∷ []) is_spent newest
plain_more at owner rows x is_spent newest none free plain within old = record {
  followers = λ place row is kind. plain_followers owner rows x row place plain old.followers kind (which owner rows x row place is);
  followed = λ place row is end e.
      let has : IsEndedIn owner rows place end = more_ended owner rows x row place end none (which owner rows x row place is) e in
      let same : has.row ≡ row = one_row owner (rows ++ x ∷ []) place has.row row (more_row owner rows x has.row place has.is) is in
      more_duly owner rows x place row.number end
      (subst (λ (r : Row). IsFollowedDuly owner rows place r.number end) same (old.followed place has.row has.is end has.ended));
  once = λ place other end afterwards first second. old.once place other end afterwards (plain_spent owner rows x place end none plain first) (plain_spent owner rows x other afterwards none plain second);
  free = λ place end spent other row is stamp e.
      plain_stamp owner rows x row other stamp (end.entry ≤ stamp) free e
      (λ is_old. old.free place end (plain_spent owner rows x place end none plain spent) other row is_old stamp e) (which owner rows x row other is);
  spent = λ place end spent. old.spent place end (plain_spent owner rows x place end none plain spent);
  spent_by = λ e. let has : HasSpent owner rows = old.spent_by e in record { place = has.place; end = has.end; spent = more_spent owner rows x has.place has.end has.spent };
  spent_at = λ place end spent. old.spent_at place end (plain_spent owner rows x place end none plain spent);
  stamped_at = λ place row is stamp e.
      plain_stamp owner rows x row place stamp (stamp ≤ at) free e (λ is_old. old.stamped_at place row is_old stamp e) (which owner rows x row place is);
  last = λ place e row is f.
      last_case place e row (plain_back owner rows x place row.number plain f) (which owner rows x row place is);
}
  where
    last_case : (place : ℕ) → newest ≡ Some place → (row : Row) → IsFollowedAt owner rows place row.number → IsOldOr owner rows x place row → ⊥
    last_case place e row f (inl is) = old.last place e row is f
    last_case place e row f (inr both) = let at : place ≡ length rows + 1 = both.0 in let le : place ≤ length rows = within place e in omega (arith, at, le)

-- a transparent retry follows the end of a row
pub committed_same : (owner : ℕ) (rows after : List Row) (place : ℕ) (old new : Row) → AreLike IsNamed rows after → IsRowOf owner rows place old → IsRowOf owner after place new → new.committed ≡ old.committed
committed_same owner rows after place old new named is_old is_new =
    let now : IsNowRow IsNamed old (row_in after place) = like_to IsNamed (row_in rows place) (row_in after place) old (named place) is_old.there in
    let both : Some now.row ≡ Some new = sym now.there ∙ is_new.there in
    let equal : now.row ≡ new = (cc) in
    ap (λ (r : Row). r.committed) (sym equal) ∙ now.like.committed

-- what is known of it: the row that ended, its end, the retry, and whether one refusal was followed before and after
pub record IsRetry (at owner : ℕ) (rows : List Row) (place : ℕ) (row : Row) (end : RowEnd) (x : Row) (before now : Bool) (newest : Option ℕ) : Type 0 where
  pub is : IsRowOf owner rows place row
  pub free : row.ended ≡ None
  pub nearest : (q : ℕ) (other : Row) → IsRowOf owner rows q other → other.number ≡ row.number → q ≤ place
  pub kinds : AreKinds owner rows
  pub call : x.call ≡ owner
  pub number : x.number ≡ row.number
  pub kind : is_transparent x.kind ≡ true
  pub ended : x.ended ≡ None
  pub due : x.due ≡ end.moment
  pub cause : (is_unsent end.cause ≡ true) ⊎ (is_refused end ≡ true)
  pub inherits : (row.committed ≡ None) ⊎ (x.committed ≡ Some end.entry)
  pub entry : end.entry ≡ at
  pub stamp : (k : ℕ) → x.committed ≡ Some k → k ≡ at
  pub unspent : is_by_peer end.cause ≡ true → before ≡ false
  pub uncommitted : is_by_peer end.cause ≡ true → (x.committed ≡ None) × ((q : ℕ) (other : Row) → IsRowOf owner rows q other → other.committed ≡ None)
  pub spends : is_by_peer end.cause ≡ true → now ≡ true
  pub keeps : before ≡ true → now ≡ true
  pub by : now ≡ true → (before ≡ true) ⊎ (is_by_peer end.cause ≡ true)
  pub newest_ended : (q : ℕ) → newest ≡ Some q → HasEndIn owner rows q

abbrev mid_rows : List Row → ℕ → RowEnd → List Row
mid_rows rows place end = changed_at (ended_row end) rows place

mid_like : (owner : ℕ) (rows : List Row) (place : ℕ) (end : RowEnd) → AreSameRows owner rows (mid_rows rows place end)
mid_like owner rows place end = same_rows owner rows (mid_rows rows place end) (all_changed_at IsKeptRow kept_write (ended_row end) (λ r. kept_write.ended end r) rows place)

mid_named : (rows : List Row) (place : ℕ) (end : RowEnd) → AreLike IsNamed rows (mid_rows rows place end)
mid_named rows place end = all_changed_at IsNamed named_write (ended_row end) (λ r. named_write.ended end r) rows place

abbrev IsReportedOr : ℕ → List Row → ℕ → RowEnd → ℕ → ℕ → RowEnd → Type 0
IsReportedOr owner rows place reported p number end = ((p ≡ place) × (end ≡ reported)) ⊎ IsEndedIn owner rows p end

mid_ends : (owner : ℕ) (rows : List Row) (place : ℕ) (reported : RowEnd) → EachRow (λ p row. EndOf (IsReportedOr owner rows place reported) p row) owner (mid_rows rows place reported)
mid_ends owner rows place reported =
    each_changed (λ p row. EndOf (IsReportedOr owner rows place reported) p row) owner place (ended_row reported) rows (λ r. record { call = refl })
    (λ r is h. with_end (IsReportedOr owner rows place reported) place reported r (λ none. inl (refl, refl)) h)
    (λ p row is end e. inr (record { row = row; is = is; ended = e }))

retry_ended : (owner : ℕ) (rows : List Row) (place : ℕ) (reported : RowEnd) (x row : Row) (p : ℕ) (end : RowEnd) → x.ended ≡ None → IsOldOr owner (mid_rows rows place reported) x p row → row.ended ≡ Some end → IsReportedOr owner rows place reported p row.number end
retry_ended owner rows place reported x row p end none (inl is) e = mid_ends owner rows place reported p row is end e
retry_ended owner rows place reported x row p end none (inr both) e =
    absurd (let no : None ≡ Some end = sym none ∙ ap (λ (r : Row). r.ended) (sym both.1) ∙ e in cc)

retry_to : (owner : ℕ) (rows : List Row) (place : ℕ) (reported : RowEnd) (x : Row) (p : ℕ) (row : Row) → IsRowOf owner rows p row → (now : Row) × (IsRowOf owner (mid_rows rows place reported ++ x ∷ []) p now × IsKeptRow row now)
retry_to owner rows place reported x p row is =
    let now : (r : Row) × (IsRowOf owner (mid_rows rows place reported) p r × IsKeptRow row r) = row_to owner rows (mid_rows rows place reported) p row (mid_like owner rows place reported) is in
    (now.0, (more_row owner (mid_rows rows place reported) x now.0 p now.1.0, now.1.1))

retry_follow : (owner : ℕ) (rows : List Row) (place : ℕ) (reported : RowEnd) (x : Row) (p number : ℕ) → IsFollowedAt owner rows p number → IsFollowedAt owner (mid_rows rows place reported ++ x ∷ []) p number
retry_follow owner rows place reported x p number f =
    more_follow owner (mid_rows rows place reported) x p number (follow_to owner rows (mid_rows rows place reported) p number (mid_like owner rows place reported) f)

nearer : (owner : ℕ) (rows : List Row) (place p : ℕ) (row other : Row) (b : Bool) → (p == place) ≡ b → AreKinds owner rows → IsRowOf owner rows place row → IsRowOf owner rows p other → p ≤ place → row.number ≡ other.number → IsFollowedAt owner rows p other.number ⊎ (p ≡ place)
nearer owner rows place p row other true t kinds is is_other le same = inr (eqb-true p place t)
nearer owner rows place p row other false t kinds is is_other le same =
    let off : p ≡ place → ⊥ = eqb-false p place t in
    let less : p < place = below_of p place le off in
    inl (record { later = place; order = less; next = row; is = is; kind = kinds p place other row is_other is less same; same = same })
  where
    below_of : (a b : ℕ) → a ≤ b → (a ≡ b → ⊥) → a < b
    below_of a b le off = omega (arith, le, off)

retry_back_case : (at owner : ℕ) (rows : List Row) (place : ℕ) (row : Row) (reported : RowEnd) (x : Row) (before now : Bool) (newest : Option ℕ) (p : ℕ) (other : Row) → IsRetry at owner rows place row reported x before now newest → IsRowOf owner rows p other → (f : IsFollowedAt owner (mid_rows rows place reported ++ x ∷ []) p other.number) → IsOldOr owner (mid_rows rows place reported) x f.later f.next → IsFollowedAt owner rows p other.number ⊎ (p ≡ place)
retry_back_case at owner rows place row reported x before now newest p other known is f (inl there) =
    inl (follow_back owner rows (mid_rows rows place reported) p other.number (mid_like owner rows place reported)
    (record { later = f.later; order = f.order; next = f.next; is = there; kind = f.kind; same = f.same }))
retry_back_case at owner rows place row reported x before now newest p other known is f (inr both) =
    let number : row.number ≡ other.number = sym known.number ∙ ap (λ (r : Row). r.number) (sym both.1) ∙ f.same in
    nearer owner rows place p row other (p == place) refl known.kinds known.is is (known.nearest p other is (sym number)) number

retry_back : (at owner : ℕ) (rows : List Row) (place : ℕ) (row : Row) (reported : RowEnd) (x : Row) (before now : Bool) (newest : Option ℕ) (p : ℕ) (other : Row) → IsRetry at owner rows place row reported x before now newest → IsRowOf owner rows p other → IsFollowedAt owner (mid_rows rows place reported ++ x ∷ []) p other.number → IsFollowedAt owner rows p other.number ⊎ (p ≡ place)
retry_back at owner rows place row reported x before now newest p other known is f =
    retry_back_case at owner rows place row reported x before now newest p other known is f (which owner (mid_rows rows place reported) x f.next f.later f.is)

-- the refusals that are followed afterwards
abbrev IsSpentOr : ℕ → List Row → ℕ → RowEnd → ℕ → RowEnd → Type 0
IsSpentOr owner rows place reported p end = ((p ≡ place) × (end ≡ reported)) ⊎ IsSpentBy owner rows p end

spent_or_there : (owner : ℕ) (rows : List Row) (place : ℕ) (row : Row) (reported end : RowEnd) (p : ℕ) → IsRowOf owner rows place row → row.ended ≡ None → (has : IsEndedIn owner rows p end) → is_by_peer end.cause ≡ true → IsFollowedAt owner rows p has.row.number ⊎ (p ≡ place) → IsSpentOr owner rows place reported p end
spent_or_there owner rows place row reported end p is free has by_peer (inl f) = inr (record { has = has; by_peer = by_peer; followed = f })
spent_or_there owner rows place row reported end p is free has by_peer (inr same) =
    let equal : has.row ≡ row = one_row owner rows place has.row row (subst (λ (k : ℕ). IsRowOf owner rows k has.row) same has.is) is in
    absurd (let no : None ≡ Some end = sym free ∙ ap (λ (r : Row). r.ended) (sym equal) ∙ has.ended in cc)

retry_spent_case : (at owner : ℕ) (rows : List Row) (place : ℕ) (row : Row) (reported : RowEnd) (x : Row) (before now : Bool) (newest : Option ℕ) (p : ℕ) (end : RowEnd) → IsRetry at owner rows place row reported x before now newest → (spent : IsSpentBy owner (mid_rows rows place reported ++ x ∷ []) p end) → IsReportedOr owner rows place reported p spent.has.row.number end → IsSpentOr owner rows place reported p end
retry_spent_case at owner rows place row reported x before now newest p end known spent (inl both) = inl both
retry_spent_case at owner rows place row reported x before now newest p end known spent (inr has) =
    let new : (r : Row) × (IsRowOf owner (mid_rows rows place reported ++ x ∷ []) p r × IsKeptRow has.row r) = retry_to owner rows place reported x p has.row has.is in
    let same : new.0 ≡ spent.has.row = one_row owner (mid_rows rows place reported ++ x ∷ []) p new.0 spent.has.row new.1.0 spent.has.is in
    let number : spent.has.row.number ≡ has.row.number = ap (λ (r : Row). r.number) (sym same) ∙ new.1.1.number in
    spent_or_there owner rows place row reported end p known.is known.free has spent.by_peer
    (retry_back at owner rows place row reported x before now newest p has.row known has.is
    (subst (λ (k : ℕ). IsFollowedAt owner (mid_rows rows place reported ++ x ∷ []) p k) number spent.followed))

retry_spent : (at owner : ℕ) (rows : List Row) (place : ℕ) (row : Row) (reported : RowEnd) (x : Row) (before now : Bool) (newest : Option ℕ) (p : ℕ) (end : RowEnd) → IsRetry at owner rows place row reported x before now newest → IsSpentBy owner (mid_rows rows place reported ++ x ∷ []) p end → IsSpentOr owner rows place reported p end
retry_spent at owner rows place row reported x before now newest p end known spent =
    retry_spent_case at owner rows place row reported x before now newest p end known spent
    (retry_ended owner rows place reported x spent.has.row p end known.ended (which owner (mid_rows rows place reported) x spent.has.row p spent.has.is) spent.has.ended)

retry_place : (owner : ℕ) (rows : List Row) (place : ℕ) (reported : RowEnd) (x row : Row) → IsRowOf owner rows place row → row.ended ≡ None → x.call ≡ owner → x.number ≡ row.number → is_transparent x.kind ≡ true → IsFollowedAt owner (mid_rows rows place reported ++ x ∷ []) place row.number
retry_place owner rows place reported x row is free call number kind =
    let mid : List Row = mid_rows rows place reported in
    let below : place ≤ length mid = row_below mid place (ended_row reported row) (row_changed_same (ended_row reported) rows place row is.there) in
    record { later = length mid + 1; order = (omega (arith, below)); next = x; is = record { there = row_last mid x; call = call }; kind = kind; same = number }

abbrev retry_reported : (owner : ℕ) (rows : List Row) (place : ℕ) (reported : RowEnd) (x row : Row) → IsRowOf owner rows place row → row.ended ≡ None → IsEndedIn owner (mid_rows rows place reported ++ x ∷ []) place reported
retry_reported owner rows place reported x row is free = record {
  row = ended_row reported row;
  is = more_row owner (mid_rows rows place reported) x (ended_row reported row) place (record { there = row_changed_same (ended_row reported) rows place row is.there; call = is.call });
  ended = ap (λ (o : Option RowEnd). stamped reported o) free;
}

-- the fields of the law
retry_stamp : (owner : ℕ) (rows : List Row) (place : ℕ) (reported : RowEnd) (x row : Row) (p stamp : ℕ) → IsOldOr owner (mid_rows rows place reported) x p row → row.committed ≡ Some stamp → ((was : Row) × (IsRowOf owner rows p was × (was.committed ≡ Some stamp))) ⊎ (x.committed ≡ Some stamp)
retry_stamp owner rows place reported x row p stamp (inl is) e =
    let was : (r : Row) × (IsRowOf owner rows p r × IsKeptRow r row) = row_back owner rows (mid_rows rows place reported) p row (mid_like owner rows place reported) is in
    inl (was.0, (was.1.0, sym (committed_same owner rows (mid_rows rows place reported) p was.0 row (mid_named rows place reported) was.1.0 is) ∙ e))
retry_stamp owner rows place reported x row p stamp (inr both) e = inr (ap (λ (r : Row). r.committed) (sym both.1) ∙ e)

retry_free : (at owner : ℕ) (rows : List Row) (place : ℕ) (row : Row) (reported : RowEnd) (x : Row) (before now : Bool) (newest : Option ℕ) (p stamp q : ℕ) (end : RowEnd) → IsRetry at owner rows place row reported x before now newest → HaveFollowers at owner rows before newest → IsSpentOr owner rows place reported p end → is_by_peer end.cause ≡ true → ((was : Row) × (IsRowOf owner rows q was × (was.committed ≡ Some stamp))) ⊎ (x.committed ≡ Some stamp) → end.entry ≤ stamp
retry_free at owner rows place row reported x before now newest p stamp q end known old (inl both) by_peer (inl was) =
    let by : is_by_peer reported.cause ≡ true = ap (λ (e : RowEnd). is_by_peer e.cause) (sym both.1) ∙ by_peer in
    absurd (let no : None ≡ Some stamp = sym ((known.uncommitted by).1 q was.0 was.1.0) ∙ was.1.1 in cc)
retry_free at owner rows place row reported x before now newest p stamp q end known old (inl both) by_peer (inr e) =
    let by : is_by_peer reported.cause ≡ true = ap (λ (e : RowEnd). is_by_peer e.cause) (sym both.1) ∙ by_peer in
    absurd (let no : None ≡ Some stamp = sym (known.uncommitted by).0 ∙ e in cc)
retry_free at owner rows place row reported x before now newest p stamp q end known old (inr spent) by_peer (inl was) = old.free p end spent q was.0 was.1.0 stamp was.1.1
retry_free at owner rows place row reported x before now newest p stamp q end known old (inr spent) by_peer (inr e) =
    let le : end.entry ≤ at = old.spent_at p end spent in let same : stamp ≡ at = known.stamp stamp e in omega (arith, le, same)

retry_once : (at owner : ℕ) (rows : List Row) (place : ℕ) (row : Row) (reported : RowEnd) (x : Row) (before now : Bool) (newest : Option ℕ) (p q : ℕ) (first second : RowEnd) → IsRetry at owner rows place row reported x before now newest → HaveFollowers at owner rows before newest → is_by_peer first.cause ≡ true → is_by_peer second.cause ≡ true → IsSpentOr owner rows place reported p first → IsSpentOr owner rows place reported q second → p ≡ q
retry_once at owner rows place row reported x before now newest p q first second known old a b (inl one) (inl two) = one.0 ∙ sym two.0
retry_once at owner rows place row reported x before now newest p q first second known old a b (inl one) (inr two) =
    absurd (let no : true ≡ false = sym (old.spent q second two) ∙ known.unspent (ap (λ (e : RowEnd). is_by_peer e.cause) (sym one.1) ∙ a) in cc)
retry_once at owner rows place row reported x before now newest p q first second known old a b (inr one) (inl two) =
    absurd (let no : true ≡ false = sym (old.spent p first one) ∙ known.unspent (ap (λ (e : RowEnd). is_by_peer e.cause) (sym two.1) ∙ b) in cc)
retry_once at owner rows place row reported x before now newest p q first second known old a b (inr one) (inr two) = old.once p q first second one two

retry_spends : (at owner : ℕ) (rows : List Row) (place : ℕ) (row : Row) (reported : RowEnd) (x : Row) (before now : Bool) (newest : Option ℕ) (p : ℕ) (end : RowEnd) → IsRetry at owner rows place row reported x before now newest → HaveFollowers at owner rows before newest → is_by_peer end.cause ≡ true → IsSpentOr owner rows place reported p end → now ≡ true
retry_spends at owner rows place row reported x before now newest p end known old by (inl both) = known.spends (ap (λ (e : RowEnd). is_by_peer e.cause) (sym both.1) ∙ by)
retry_spends at owner rows place row reported x before now newest p end known old by (inr spent) = known.keeps (old.spent p end spent)

retry_entry : (at owner : ℕ) (rows : List Row) (place : ℕ) (row : Row) (reported : RowEnd) (x : Row) (before now : Bool) (newest : Option ℕ) (p : ℕ) (end : RowEnd) → IsRetry at owner rows place row reported x before now newest → HaveFollowers at owner rows before newest → IsSpentOr owner rows place reported p end → end.entry ≤ at
retry_entry at owner rows place row reported x before now newest p end known old (inl both) =
    let same : end.entry ≡ reported.entry = ap (λ (e : RowEnd). e.entry) both.1 in let is : reported.entry ≡ at = known.entry in omega (arith, same, is)
retry_entry at owner rows place row reported x before now newest p end known old (inr spent) = old.spent_at p end spent

retry_stamped : (at owner : ℕ) (rows : List Row) (place : ℕ) (row : Row) (reported : RowEnd) (x : Row) (before now : Bool) (newest : Option ℕ) (p stamp : ℕ) → IsRetry at owner rows place row reported x before now newest → HaveFollowers at owner rows before newest → ((was : Row) × (IsRowOf owner rows p was × (was.committed ≡ Some stamp))) ⊎ (x.committed ≡ Some stamp) → stamp ≤ at
retry_stamped at owner rows place row reported x before now newest p stamp known old (inl was) = old.stamped_at p was.0 was.1.0 stamp was.1.1
retry_stamped at owner rows place row reported x before now newest p stamp known old (inr e) = (let same : stamp ≡ at = known.stamp stamp e in omega (arith, same))

retry_spent_by : (at owner : ℕ) (rows : List Row) (place : ℕ) (row : Row) (reported : RowEnd) (x : Row) (before now : Bool) (newest : Option ℕ) → IsRetry at owner rows place row reported x before now newest → HaveFollowers at owner rows before newest → (before ≡ true) ⊎ (is_by_peer reported.cause ≡ true) → HasSpent owner (mid_rows rows place reported ++ x ∷ [])
retry_spent_by at owner rows place row reported x before now newest known old (inl e) =
    let has : HasSpent owner rows = old.spent_by e in
    record {
      place = has.place;
      end = has.end;
      spent = more_spent owner (mid_rows rows place reported) x has.place has.end (spent_to owner rows (mid_rows rows place reported) has.place has.end (mid_like owner rows place reported) has.spent);
    }
retry_spent_by at owner rows place row reported x before now newest known old (inr by) =
    let has : IsEndedIn owner (mid_rows rows place reported ++ x ∷ []) place reported = retry_reported owner rows place reported x row known.is known.free in
    record {
      place = place;
      end = reported;
      spent = record { has = has; by_peer = by; followed = retry_place owner rows place reported x row known.is known.free known.call known.number known.kind };
    }

-- ends after it
retry_duly_case : (owner : ℕ) (rows : List Row) (place : ℕ) (reported : RowEnd) (x : Row) (p number : ℕ) (end : RowEnd) → IsFollowedAt owner rows p number ⊎ (IsTakenBefore owner rows p end ⊎ IsCommittedBy owner rows end.entry) → IsFollowedAt owner (mid_rows rows place reported ++ x ∷ []) p number ⊎ (IsTakenBefore owner (mid_rows rows place reported ++ x ∷ []) p end ⊎ IsCommittedBy owner (mid_rows rows place reported ++ x ∷ []) end.entry)
retry_duly_case owner rows place reported x p number end (inl f) = inl (retry_follow owner rows place reported x p number f)
retry_duly_case owner rows place reported x p number end (inr (inl t)) =
    inr (inl (record {
      other = t.other;
      earlier = t.earlier;
      spent = more_spent owner (mid_rows rows place reported) x t.other t.earlier (spent_to owner rows (mid_rows rows place reported) t.other t.earlier (mid_like owner rows place reported) t.spent);
      order = t.order;
    }))
retry_duly_case owner rows place reported x p number end (inr (inr c)) =
    let mid : List Row = mid_rows rows place reported in
    let now : (r : Row) × (IsRowOf owner mid c.place r × IsKeptRow c.row r) = row_to owner rows mid c.place c.row (mid_like owner rows place reported) c.is in
    inr (inr (record {
      place = c.place;
      row = now.0;
      is = more_row owner mid x now.0 c.place now.1.0;
      stamp = c.stamp;
      committed = committed_same owner rows mid c.place c.row now.0 (mid_named rows place reported) c.is now.1.0 ∙ c.committed;
      order = c.order;
    }))

retry_duly : (at owner : ℕ) (rows : List Row) (place : ℕ) (row : Row) (reported : RowEnd) (x : Row) (before now : Bool) (newest : Option ℕ) (p : ℕ) (other : Row) (end : RowEnd) → IsRetry at owner rows place row reported x before now newest → HaveFollowers at owner rows before newest → IsRowOf owner (mid_rows rows place reported ++ x ∷ []) p other → IsReportedOr owner rows place reported p other.number end → IsFollowedDuly owner (mid_rows rows place reported ++ x ∷ []) p other.number end
retry_duly at owner rows place row reported x before now newest p other end known old is (inl both) =
    let after : List Row = mid_rows rows place reported ++ x ∷ [] in
    let here : IsEndedIn owner after place reported = retry_reported owner rows place reported x row known.is known.free in
    let same : here.row ≡ other = one_row owner after place here.row other here.is (subst (λ (k : ℕ). IsRowOf owner after k other) both.0 is) in
    let follows : IsFollowedAt owner after p other.number =
    subst (λ (k : ℕ). IsFollowedAt owner after k other.number) (sym both.0)
    (subst (λ (r : Row). IsFollowedAt owner after place r.number) same (retry_place owner rows place reported x row known.is known.free known.call known.number known.kind)) in
    record { unsent = λ e. follows; refused = λ e. inl follows }
retry_duly at owner rows place row reported x before now newest p other end known old is (inr has) =
    let after : List Row = mid_rows rows place reported ++ x ∷ [] in
    let new : (r : Row) × (IsRowOf owner after p r × IsKeptRow has.row r) = retry_to owner rows place reported x p has.row has.is in
    let same : new.0 ≡ other = one_row owner after p new.0 other new.1.0 is in
    let number : has.row.number ≡ other.number = sym new.1.1.number ∙ ap (λ (r : Row). r.number) same in
    let was : IsFollowedDuly owner rows p other.number end = subst (λ (k : ℕ). IsFollowedDuly owner rows p k end) number (old.followed p has.row has.is end has.ended) in
    record {
      unsent = λ e. retry_follow owner rows place reported x p other.number (was.unsent e);
      refused = λ e. retry_duly_case owner rows place reported x p other.number end (was.refused e);
    }

-- followers after it
retry_old_follower : (at owner : ℕ) (rows : List Row) (place : ℕ) (reported : RowEnd) (x other : Row) (p : ℕ) → ((place : ℕ) (row : Row) → IsRowOf owner rows place row → is_transparent row.kind ≡ true → IsFollowerOf owner rows place row) → IsRowOf owner (mid_rows rows place reported) p other → is_transparent other.kind ≡ true → IsFollowerOf owner (mid_rows rows place reported) p other
retry_old_follower at owner rows place reported x other p old is kind =
    let mid : List Row = mid_rows rows place reported in
    let was : (r : Row) × (IsRowOf owner rows p r × IsKeptRow r other) = row_back owner rows mid p other (mid_like owner rows place reported) is in
    let f : IsFollowerOf owner rows p was.0 = old p was.0 was.1.0 (ap (λ (k : RowKind). is_transparent k) (sym was.1.1.kind) ∙ kind) in
    let now : (r : Row) × (IsRowOf owner mid f.before r × IsKeptRow f.has.row r) = row_to owner rows mid f.before f.has.row (mid_like owner rows place reported) f.has.is in
    record {
      before = f.before;
      order = f.order;
      end = f.end;
      has = record { row = now.0; is = now.1.0; ended = now.1.1.ended f.end f.has.ended };
      number = now.1.1.number ∙ f.number ∙ sym was.1.1.number;
      nearest = λ between q is_q first second e.
          let next_was : (r : Row) × (IsRowOf owner rows between r × IsKeptRow r q) = row_back owner rows mid between q (mid_like owner rows place reported) is_q in
          f.nearest between next_was.0 next_was.1.0 first second (sym next_was.1.1.number ∙ e ∙ was.1.1.number);
      cause = f.cause;
      due = was.1.1.due ∙ f.due;
      inherits =
          inherits_same now.0.committed f.has.row.committed other.committed was.0.committed f.end.entry
          (committed_same owner rows mid f.before f.has.row now.0 (mid_named rows place reported) f.has.is now.1.0)
          (committed_same owner rows mid p was.0 other (mid_named rows place reported) was.1.0 is) f.inherits;
    }
  where
    inherits_same : (a b c d : Option ℕ) (entry : ℕ) → a ≡ b → c ≡ d → (b ≡ None) ⊎ (d ≡ Some entry) → (a ≡ None) ⊎ (c ≡ Some entry)
    inherits_same a b c d entry e f (inl none) = inl (e ∙ none)
    inherits_same a b c d entry e f (inr some) = inr (f ∙ some)

retry_new_nearest : (at owner : ℕ) (rows : List Row) (place : ℕ) (row : Row) (reported : RowEnd) (x : Row) (before now : Bool) (newest : Option ℕ) (between : ℕ) (other : Row) → IsRetry at owner rows place row reported x before now newest → place < between → between < length (mid_rows rows place reported) + 1 → other.number ≡ x.number → IsOldOr owner (mid_rows rows place reported) x between other → ⊥
retry_new_nearest at owner rows place row reported x before now newest between other known first second e (inl is) =
    let was : (r : Row) × (IsRowOf owner rows between r × IsKeptRow r other) = row_back owner rows (mid_rows rows place reported) between other (mid_like owner rows place reported) is in
    let le : between ≤ place = known.nearest between was.0 was.1.0 (sym was.1.1.number ∙ e ∙ known.number) in
    omega (arith, le, first)
retry_new_nearest at owner rows place row reported x before now newest between other known first second e (inr both) =
    let at_end : between ≡ length (mid_rows rows place reported) + 1 = both.0 in omega (arith, at_end, second)

retry_follower : (at owner : ℕ) (rows : List Row) (place : ℕ) (row : Row) (reported : RowEnd) (x : Row) (before now : Bool) (newest : Option ℕ) (p : ℕ) (other : Row) → IsRetry at owner rows place row reported x before now newest → HaveFollowers at owner rows before newest → is_transparent other.kind ≡ true → IsOldOr owner (mid_rows rows place reported) x p other → IsFollowerOf owner (mid_rows rows place reported ++ x ∷ []) p other
retry_follower at owner rows place row reported x before now newest p other known old kind (inl is) =
    more_follower owner (mid_rows rows place reported) x other p is (retry_old_follower at owner rows place reported x other p old.followers is kind)
retry_follower at owner rows place row reported x before now newest p other known old kind (inr both) =
    let mid : List Row = mid_rows rows place reported in
    let after : List Row = mid ++ x ∷ [] in
    let below : place ≤ length mid = row_below mid place (ended_row reported row) (row_changed_same (ended_row reported) rows place row known.is.there) in
    let new : IsFollowerOf owner after (length mid + 1) x = record {
      before = place;
      order = (omega (arith, below));
      end = reported;
      has = retry_reported owner rows place reported x row known.is known.free;
      number = sym known.number;
      nearest = λ between q is_q first second e.
          retry_new_nearest at owner rows place row reported x before now newest between q known first second e (which owner mid x q between is_q);
      cause = known.cause;
      due = known.due;
      inherits = known.inherits;
    } in
    subst (λ (k : ℕ). IsFollowerOf owner after k other) (sym both.0) (subst (λ (r : Row). IsFollowerOf owner after (length mid + 1) r) (sym both.1) new)

pub following_retry : (at owner : ℕ) (rows : List Row) (place : ℕ) (row : Row) (reported : RowEnd) (x : Row) (before now : Bool) (newest : Option ℕ) → IsRetry at owner rows place row reported x before now newest → HaveFollowers at owner rows before newest → HaveFollowers at owner (mid_rows rows place reported ++ x ∷ []) now newest
following_retry at owner rows place row reported x before now newest known old = record {
  followers = λ p other is kind. retry_follower at owner rows place row reported x before now newest p other known old kind (which owner (mid_rows rows place reported) x other p is);
  followed = λ p other is end e.
      retry_duly at owner rows place row reported x before now newest p other end known old is
      (retry_ended owner rows place reported x other p end known.ended (which owner (mid_rows rows place reported) x other p is) e);
  once = λ p q first second one two.
      retry_once at owner rows place row reported x before now newest p q first second known old one.by_peer two.by_peer
      (retry_spent at owner rows place row reported x before now newest p first known one) (retry_spent at owner rows place row reported x before now newest q second known two);
  free = λ p end spent q other is stamp e.
      retry_free at owner rows place row reported x before now newest p stamp q end known old (retry_spent at owner rows place row reported x before now newest p end known spent) spent.by_peer
      (retry_stamp owner rows place reported x other q stamp (which owner (mid_rows rows place reported) x other q is) e);
  spent = λ p end spent. retry_spends at owner rows place row reported x before now newest p end known old spent.by_peer (retry_spent at owner rows place row reported x before now newest p end known spent);
  spent_by = λ e. retry_spent_by at owner rows place row reported x before now newest known old (known.by e);
  spent_at = λ p end spent. retry_entry at owner rows place row reported x before now newest p end known old (retry_spent at owner rows place row reported x before now newest p end known spent);
  stamped_at = λ p other is stamp e.
      retry_stamped at owner rows place row reported x before now newest p stamp known old (retry_stamp owner rows place reported x other p stamp (which owner (mid_rows rows place reported) x other p is) e);
  last = λ p e other is f. last_case p e other f (which owner (mid_rows rows place reported) x other p is);
}
  where
    not_last : (p : ℕ) → newest ≡ Some p → (was other : Row) → IsRowOf owner rows p was → IsFollowedAt owner rows p was.number ⊎ (p ≡ place) → ⊥
    not_last p e was other is (inl f) = old.last p e was is f
    not_last p e was other is (inr same) =
        let has : HasEndIn owner rows p = known.newest_ended p e in
        let equal : has.row ≡ row = one_row owner rows place has.row row (subst (λ (k : ℕ). IsRowOf owner rows k has.row) same has.is) known.is in
        let no : None ≡ Some has.end = sym known.free ∙ ap (λ (r : Row). r.ended) (sym equal) ∙ has.ended in cc

    last_case : (p : ℕ) → newest ≡ Some p → (other : Row) → IsFollowedAt owner (mid_rows rows place reported ++ x ∷ []) p other.number → IsOldOr owner (mid_rows rows place reported) x p other → ⊥
    last_case p e other f (inl is) =
        let was : (r : Row) × (IsRowOf owner rows p r × IsKeptRow r other) = row_back owner rows (mid_rows rows place reported) p other (mid_like owner rows place reported) is in
        not_last p e was.0 other was.1.0
        (retry_back at owner rows place row reported x before now newest p was.0 known was.1.0
        (subst (λ (k : ℕ). IsFollowedAt owner (mid_rows rows place reported ++ x ∷ []) p k) was.1.1.number f))
    last_case p e other f (inr both) =
        let has : HasEndIn owner rows p = known.newest_ended p e in
        let mid : List Row = mid_rows rows place reported in
        let now : (r : Row) × (IsRowOf owner mid p r × IsKeptRow has.row r) = row_to owner rows mid p has.row (mid_like owner rows place reported) has.is in
        let below : p ≤ length mid = row_below mid p now.0 now.1.0.there in
        let at_end : p ≡ length mid + 1 = both.0 in
        omega (arith, below, at_end)
