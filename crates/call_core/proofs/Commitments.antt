-- A call is committed to one row, or to a chain of followed ones.
use Rattle.std.proofs.Common.{◌≡◌, ◌≤◌, ℕ, ◌+◌, Bool, true, false, ◌==◌, if◌then◌else◌, min, length, Option, Some, None, is_some, List, [], ◌∷◌, ◌++◌, refl, sym, ap, subst, ◌∙◌, ◌⊎◌, inl, inr, arith}
use Rattle.std.proofs.lemmas.Bool.{eqb-true, eqb-false}
use Rattle.grpc_base.specs.Requests.{RequestSeen}
use Rattle.grpc_base.specs.declared.event.EndCause.{EndCause}
use Rattle.grpc_base.specs.declared.event.EndCause.TheVariants as ends
use Rattle.grpc_base.specs.declared.fields.Field.{Field}
use Rattle.grpc_base.specs.declared.plan.CallPlan.{CallPlan}
use Rattle.grpc_base.specs.declared.plan.CallPlan.TheVariants as plans
use Rattle.attempt_ledger.specs.Ends.{is_cut}
use Rattle.attempt_ledger.specs.Numbering.{is_transparent}
use Rattle.attempt_ledger.specs.declared.ledger.Ledger.{Ledger}
use Rattle.attempt_ledger.specs.declared.news.EndNews.{EndNews}
use Rattle.attempt_ledger.specs.declared.row.Placed.{Placed}
use Rattle.attempt_ledger.specs.declared.row.Row.{Row}
use Rattle.attempt_ledger.specs.declared.row.RowEnd.{RowEnd}
use Rattle.attempt_ledger.specs.declared.row.RowKind.TheVariants as kind
use Rattle.ledger_stamps.specs.Steps.{changed_at, committed_row, ended_row, placed_row, stamped}
use Rattle.a6_numbers.specs.Throttling.{Bucket}
use Rattle.grpc_frame.specs.Messages.{framed}
use Rattle.call_core.specs.declared.act.CallAct.{CallAct}
use Rattle.call_core.specs.declared.attempts.Attempts.{Attempts}
use Rattle.call_core.specs.declared.judge.Judged.{Judged}
use Rattle.call_core.specs.declared.live.LiveRow.{LiveRow}
use Rattle.call_core.specs.Commitments.{EndsByRow, HasOwnEnd, IsCommittedOnce, IsInChain, IsRowOf, IsSameIn, IsStamped, KeepsCommitments}
use Rattle.call_core.specs.Laws.{IsKept}
use Rattle.call_core.specs.Parts.{committed_buffer, count_of, find_live, furthest, has_none, is_above, is_by_row, is_followed, judged, kind_of_next, names, pushed_over, row_end, stopped_attempts}
use Rattle.call_core.specs.Rows.{IsApart, IsStanding, row_in}
use Rattle.call_core.specs.Steps as step
use Rattle.call_core.specs.Steps.{Stepped, call_plan, is_committed_live, judged_of, left_live, new_call, new_row, next_due, next_place, settled, stamp_if, with_chosen, with_judged, with_message}
use Rattle.call_core.proofs.Alike.{AreLike, WasRow, all_changed_at, all_cut, all_joined, all_same, like_from, row_split}
use Rattle.call_core.proofs.Cuts.{row_below}
use Rattle.call_core.proofs.Finding.{found_place, furthest_found}
use Rattle.call_core.proofs.Keeping.{IsAlive, due_alive, found_alive, found_at, not_stopped}
use Rattle.call_core.proofs.Moves.{Moves}
use Rattle.call_core.proofs.Standing.{found_stands, kept_cut, row_changed_other, row_changed_same, row_last, row_more}
use Rattle.call_core.proofs.NamedRows.{IsNamed, IsOwned, kind_case, named_write, once_like, once_plain, own_like, own_named, owned_write}

-- a commitment to a row that is there, of a call that isn't committed to another one
commit_owned : (place moment : ℕ) (s : Stepped) → AreLike IsOwned s.ledger.rows (step.committed place moment s).ledger.rows
commit_owned place moment s =
    all_joined IsOwned owned_write s.ledger.rows (step.commit_stamped place s.ledger).rows (step.committed place moment s).ledger.rows
    (all_changed_at IsOwned owned_write (committed_row s.ledger.entry) (λ r. record { call = refl; stays = λ end e. e }) s.ledger.rows place)
    (all_cut IsOwned owned_write (Some place) moment (count_of s.tokens) s.call.live (step.commit_stamped place s.ledger))

stamped_is : (entry : ℕ) (o : Option ℕ) → is_some (stamped entry o) ≡ true
stamped_is entry None = refl
stamped_is entry (Some x) = refl

commit_there : (place moment : ℕ) (s : Stepped) (row : Row) → row_in s.ledger.rows place ≡ Some row → row_in (step.committed place moment s).ledger.rows place ≡ Some (committed_row s.ledger.entry row)
commit_there place moment s row there =
    kept_cut moment (count_of s.tokens) place s.call.live (step.commit_stamped place s.ledger) ∙ row_changed_same (committed_row s.ledger.entry) s.ledger.rows place row there

kind_moved : (place last to : ℕ) (a b : Row) → last ≡ to → b.kind ≡ a.kind → (place ≡ last) ⊎ (is_transparent a.kind ≡ true) → (place ≡ to) ⊎ (is_transparent b.kind ≡ true)
kind_moved place last to a b at same (inl e) = inl (e ∙ at)
kind_moved place last to a b at same (inr t) = inr (ap is_transparent same ∙ t)

commit_chain : (place moment q : ℕ) (s : Stepped) (first row : Row) (b : Bool) → (place == q) ≡ b → row_in s.ledger.rows place ≡ Some first → ((p : ℕ) → s.call.attempts.committed ≡ Some p → p ≡ place) → IsCommittedOnce s → IsRowOf s.call.number (step.committed place moment s).ledger.rows q row → is_some row.committed ≡ true → IsInChain (step.committed place moment s) q row
commit_chain place moment q s first row true t there free old is e =
    let same : place ≡ q = eqb-true place q t in
    let now : row_in (step.committed place moment s).ledger.rows place ≡ Some (committed_row s.ledger.entry first) = commit_there place moment s first there in
    let both : Some (committed_row s.ledger.entry first) ≡ Some row = sym now ∙ ap (λ (k : ℕ). row_in (step.committed place moment s).ledger.rows k) same ∙ is.there in
    let equal : committed_row s.ledger.entry first ≡ row = (cc) in
    record {
      last = place;
      is_last = refl;
      newest = committed_row s.ledger.entry first;
      there = now;
      number = ap (λ (r : Row). r.number) (sym equal);
      order = (omega (arith, same));
      kind = inl (sym same);
    }
commit_chain place moment q s first row false t there free old is e =
    let mid : List Row = (step.commit_stamped place s.ledger).rows in
    let was : WasRow IsNamed (row_in mid q) row =
    like_from IsNamed (row_in mid q) (row_in (step.committed place moment s).ledger.rows q) row (all_cut IsNamed named_write (Some place) moment (count_of s.tokens) s.call.live (step.commit_stamped place s.ledger) q) is.there in
    let before : row_in s.ledger.rows q ≡ Some was.row = sym (row_changed_other (committed_row s.ledger.entry) s.ledger.rows place q (eqb-false place q t)) ∙ was.there in
    let c : IsInChain s q was.row = old.chain q was.row (record { there = before; call = sym was.like.call ∙ is.call }) (ap is_some (sym was.like.committed) ∙ e) in
    let at : c.last ≡ place = free c.last c.is_last in
    let both : Some c.newest ≡ Some first = sym c.there ∙ ap (λ (k : ℕ). row_in s.ledger.rows k) at ∙ there in
    let equal : c.newest ≡ first = (cc) in
    record {
      last = place;
      is_last = refl;
      newest = committed_row s.ledger.entry first;
      there = commit_there place moment s first there;
      number = was.like.number ∙ c.number ∙ ap (λ (r : Row). r.number) equal;
      order = subst (λ (k : ℕ). q ≤ k) at c.order;
      kind = kind_moved q c.last place c.newest (committed_row s.ledger.entry first) at (ap (λ (r : Row). r.kind) (sym equal)) c.kind;
    }

once_commit : (place moment : ℕ) (s : Stepped) (first : Row) → IsRowOf s.call.number s.ledger.rows place first → ((p : ℕ) → s.call.attempts.committed ≡ Some p → p ≡ place) → (is_some s.call.ended ≡ true → ⊥) → IsCommittedOnce s → IsCommittedOnce (step.committed place moment s)
once_commit place moment s first is free live old = record {
  stamped = λ p h.
      let same : place ≡ p = (cc) in
      subst (λ (k : ℕ). IsStamped s.call.number (step.committed place moment s).ledger.rows k) same
      (record {
        row = committed_row s.ledger.entry first;
        is = record { there = commit_there place moment s first is.there; call = is.call };
        stamped = stamped_is s.ledger.entry first.committed;
      });
  chain = λ q row at e. commit_chain place moment q s first row (place == q) refl is.there free old at e;
  ended = λ h. absurd (live (ap is_some h));
  last = λ p h. own_like s.call.number s.ledger.rows (step.committed place moment s).ledger.rows p (commit_owned place moment s) (old.last p h);
}

-- the end of a call
once_end : (why : EndCause) (moment : ℕ) (s : Stepped) → (why ≡ ends.Row → EndsByRow s) → IsCommittedOnce s → IsCommittedOnce (step.ended_as why moment s)
once_end why moment s by old =
    let like : AreLike IsNamed s.ledger.rows (step.ended_as why moment s).ledger.rows = all_cut IsNamed named_write None moment (count_of s.tokens) s.call.live s.ledger in
    once_like s (step.ended_as why moment s) refl refl like
    (λ h.
    let e : EndsByRow s = by (let is : why ≡ ends.Row = (cc) in is) in
    record { place = e.place; committed = e.committed; own = own_named s.call.number s.ledger.rows (step.ended_as why moment s).ledger.rows e.place like e.own })
    (λ place h. own_named s.call.number s.ledger.rows (step.ended_as why moment s).ledger.rows place like (old.last place h))
    old

not_by_row : (why : EndCause) → is_by_row why ≡ false → why ≡ ends.Row → ⊥
not_by_row why e same = let bad : true ≡ false = ap is_by_row (sym same) ∙ e in (cc)

once_closed : (why : EndCause) (moment : ℕ) (s : Stepped) → is_by_row why ≡ false → IsCommittedOnce s → IsCommittedOnce (step.ended_as why moment s)
once_closed why moment s by old = once_end why moment s (λ h. absurd (not_by_row why by h)) old

-- a call that is committed to a row that has its end, ends by it
once_by_row : (place moment : ℕ) (s : Stepped) → HasOwnEnd s.call.number s.ledger.rows place → s.call.attempts.committed ≡ None → (is_some s.call.ended ≡ true → ⊥) → IsCommittedOnce s → IsCommittedOnce (step.ended_by_row place moment s)
once_by_row place moment s own free live old =
    let c : Stepped = step.committed place moment s in
    once_end ends.Row moment c
    (λ h. record { place = place; committed = refl; own = own_like s.call.number s.ledger.rows c.ledger.rows place (commit_owned place moment s) own })
    (once_commit place moment s own.row own.is (λ p h. absurd (let bad : None ≡ Some p = sym free ∙ h in cc)) live old)

-- the end of a live row
own_ended : (owner : ℕ) (rows : List Row) (l : LiveRow) (end : RowEnd) → IsStanding owner rows l → is_cut end.cause ≡ false → HasOwnEnd owner (changed_at (ended_row end) rows l.place) l.place
own_ended owner rows l end one cause = record {
  row = ended_row end one.row;
  is = record { there = row_changed_same (ended_row end) rows l.place one.row one.there; call = one.call };
  end = end;
  ended = ap (λ (o : Option RowEnd). stamped end o) one.ended;
  cause = cause;
}

judged_committed : (plan : CallPlan) (a : Attempts) (number : ℕ) (is_alone : Bool) (end : RowEnd) (above : Bool) (word : ℕ) → (judged plan a number is_alone end above word).attempts.committed ≡ a.committed
judged_committed plans.None a number is_alone end above word = refl
judged_committed (plans.Retry policy) a number is_alone end above word = refl
judged_committed (plans.Hedge policy) a number is_alone end above word = refl

once_closed_if : (place : ℕ) (row : LiveRow) (reported : EndNews) (end : RowEnd) (moment word : ℕ) (s : Stepped) (b : Bool) → find_live place s.call.live ≡ Some row → is_cut end.cause ≡ false → IsApart s → IsAlive s.call → s.call.attempts.committed ≡ None → IsCommittedOnce s → IsCommittedOnce (step.closed_if b row.place moment (with_judged row end (judged_of row end word (left_live row.place s).call (settled reported (left_live row.place s)).tokens) (settled reported (left_live row.place s))))
once_closed_if place row reported end moment word s b f cause apart alive free old =
    let u : Stepped = left_live row.place s in
    let v : Stepped = settled reported u in
    let after : Judged = judged_of row end word u.call v.tokens in
    let w : Stepped = with_judged row end after v in
    let last : RowEnd = record end { word = after.word } in
    let own : HasOwnEnd s.call.number w.ledger.rows row.place = own_ended s.call.number s.ledger.rows row last (found_stands s.call.number s.ledger.rows place s.call.live row apart.tied f) cause in
    let committed : w.call.attempts.committed ≡ s.call.attempts.committed =
    judged_committed (call_plan s.call) s.call.attempts row.number (has_none u.call.live) end (is_above v.tokens) word in
    let once : IsCommittedOnce w =
    once_like s w refl committed (all_changed_at IsNamed named_write (ended_row last) (λ r. named_write.ended last r) s.ledger.rows row.place)
    (λ h. absurd (alive.live (ap is_some h)))
    (λ p h. let same : row.place ≡ p = (cc) in subst (λ (k : ℕ). HasOwnEnd s.call.number w.ledger.rows k) same own)
    old in
    elim b as (λ c. IsCommittedOnce (step.closed_if c row.place moment w)) [ true ↦ once_by_row row.place moment w own (committed ∙ free) alive.live once | false ↦ once ]

once_counted : (place : ℕ) (row : LiveRow) (reported : EndNews) (moment word : ℕ) (s : Stepped) (o : Option ℕ) → s.call.attempts.committed ≡ o → find_live place s.call.live ≡ Some row → is_cut reported.cause ≡ false → IsKept s.call → IsApart s → IsAlive s.call → IsCommittedOnce s → IsCommittedOnce (if is_some o then step.ended_as ends.Row moment (step.row_ended row.place (row_end reported s.ledger.entry moment (count_of (settled reported (left_live row.place s)).tokens)) (settled reported (left_live row.place s))) else step.counted_free row (row_end reported s.ledger.entry moment (count_of (settled reported (left_live row.place s)).tokens)) moment word (settled reported (left_live row.place s)))
once_counted place row reported moment word s (Some p) c f cause kept apart alive old =
    let v : Stepped = settled reported (left_live row.place s) in
    let end : RowEnd = row_end reported s.ledger.entry moment (count_of v.tokens) in
    let w : Stepped = step.row_ended row.place end v in
    let at : row.place ≡ p = found_at p place s.call.live row (kept.committed p c).live f in
    let own : HasOwnEnd s.call.number w.ledger.rows row.place = own_ended s.call.number s.ledger.rows row end (found_stands s.call.number s.ledger.rows place s.call.live row apart.tied f) cause in
    once_end ends.Row moment w
    (λ h. record { place = p; committed = c; own = subst (λ (k : ℕ). HasOwnEnd s.call.number w.ledger.rows k) at own })
    (once_plain s w refl refl refl refl (all_changed_at IsNamed named_write (ended_row end) (λ r. named_write.ended end r) s.ledger.rows row.place) old)
once_counted place row reported moment word s None c f cause kept apart alive old =
    let v : Stepped = settled reported (left_live row.place s) in
    let end : RowEnd = row_end reported s.ledger.entry moment (count_of v.tokens) in
    once_closed_if place row reported end moment word s (judged_of row end word v.call v.tokens).closes f cause apart alive c old

-- a row more, which isn't committed
more_chain : (s t : Stepped) (x row : Row) (q : ℕ) → t.ledger.rows ≡ s.ledger.rows ++ x ∷ [] → t.call.number ≡ s.call.number → t.call.attempts.committed ≡ s.call.attempts.committed → x.committed ≡ None → IsCommittedOnce s → row.call ≡ t.call.number → is_some row.committed ≡ true → (row_in s.ledger.rows q ≡ Some row) ⊎ ((q ≡ length s.ledger.rows + 1) × (row ≡ x)) → IsInChain t q row
more_chain s t x row q rows number committed free old call e (inl there) =
    let c : IsInChain s q row = old.chain q row (record { there = there; call = call ∙ number }) e in
    record {
      last = c.last;
      is_last = committed ∙ c.is_last;
      newest = c.newest;
      there = subst (λ (l : List Row). row_in l c.last ≡ Some c.newest) (sym rows) (row_more s.ledger.rows x c.last c.newest c.there);
      number = c.number;
      order = c.order;
      kind = c.kind;
    }
more_chain s t x row q rows number committed free old call e (inr both) =
    absurd (let bad : false ≡ true = ap is_some (sym free) ∙ ap (λ (r : Row). is_some r.committed) (sym both.1) ∙ e in cc)

own_more : (owner : ℕ) (rows after : List Row) (x : Row) (place : ℕ) → after ≡ rows ++ x ∷ [] → HasOwnEnd owner rows place → HasOwnEnd owner after place
own_more owner rows after x place e has = record {
  row = has.row;
  is = record { there = subst (λ (l : List Row). row_in l place ≡ Some has.row) (sym e) (row_more rows x place has.row has.is.there); call = has.is.call };
  end = has.end;
  ended = has.ended;
  cause = has.cause;
}

once_more : (s t : Stepped) (x : Row) → t.ledger.rows ≡ s.ledger.rows ++ x ∷ [] → t.call.number ≡ s.call.number → t.call.attempts.committed ≡ s.call.attempts.committed → t.call.attempts.last ≡ s.call.attempts.last → x.committed ≡ None → (is_some t.call.ended ≡ true → ⊥) → IsCommittedOnce s → IsCommittedOnce t
once_more s t x rows number committed last free live old = record {
  stamped = λ place h.
      let one : IsStamped s.call.number s.ledger.rows place = old.stamped place (sym committed ∙ h) in
      record {
        row = one.row;
        is = record { there = subst (λ (l : List Row). row_in l place ≡ Some one.row) (sym rows) (row_more s.ledger.rows x place one.row one.is.there); call = one.is.call ∙ sym number };
        stamped = one.stamped;
      };
  chain = λ q row is e.
      more_chain s t x row q rows number committed free old is.call e
      (row_split s.ledger.rows x q row (subst (λ (l : List Row). row_in l q ≡ Some row) rows is.there));
  ended = λ h. absurd (live (ap is_some h));
  last = λ place h.
      subst (λ (k : ℕ). HasOwnEnd k t.ledger.rows place) (sym number) (own_more s.call.number s.ledger.rows t.ledger.rows x place rows (old.last place (sym last ∙ h)));
}

-- a transparent retry of the committed row: the chain grows
names_is : (place : ℕ) (o : Option ℕ) → names place o ≡ true → o ≡ Some place
names_is place None e = absurd (let bad : false ≡ true = e in cc)
names_is place (Some p) e = ap (λ (k : ℕ). Some k) (eqb-true p place e)

grown_chain : (v t : Stepped) (x newest row : Row) (place q : ℕ) → v.call.attempts.committed ≡ Some place → row_in v.ledger.rows place ≡ Some newest → newest.number ≡ x.number → is_transparent x.kind ≡ true → t.call.attempts.committed ≡ Some (length v.ledger.rows + 1) → t.ledger.rows ≡ v.ledger.rows ++ x ∷ [] → IsCommittedOnce v → row.call ≡ v.call.number → is_some row.committed ≡ true → (row_in v.ledger.rows q ≡ Some row) ⊎ ((q ≡ length v.ledger.rows + 1) × (row ≡ x)) → IsInChain t q row
grown_chain v t x newest row place q c there number transparent committed rows old call e (inl is) =
    let in_chain : IsInChain v q row = old.chain q row (record { there = is; call = call }) e in
    let both : Some in_chain.last ≡ Some place = sym in_chain.is_last ∙ c in
    let at : in_chain.last ≡ place = (cc) in
    let found : Some in_chain.newest ≡ Some newest = sym in_chain.there ∙ ap (λ (k : ℕ). row_in v.ledger.rows k) at ∙ there in
    let equal : in_chain.newest ≡ newest = (cc) in
    let below : q ≤ length v.ledger.rows = row_below v.ledger.rows q row is in
    record {
      last = length v.ledger.rows + 1;
      is_last = committed;
      newest = x;
      there = subst (λ (l : List Row). row_in l (length v.ledger.rows + 1) ≡ Some x) (sym rows) (row_last v.ledger.rows x);
      number = in_chain.number ∙ ap (λ (r : Row). r.number) equal ∙ number;
      order = (omega (arith, below));
      kind = inr transparent;
    }
grown_chain v t x newest row place q c there number transparent committed rows old call e (inr both) =
    let at : q ≡ length v.ledger.rows + 1 = both.0 in
    record {
      last = length v.ledger.rows + 1;
      is_last = committed;
      newest = x;
      there = subst (λ (l : List Row). row_in l (length v.ledger.rows + 1) ≡ Some x) (sym rows) (row_last v.ledger.rows x);
      number = ap (λ (r : Row). r.number) both.1;
      order = (omega (arith, at));
      kind = inl at;
    }

once_grown : (v t : Stepped) (x newest : Row) (place : ℕ) → v.call.attempts.committed ≡ Some place → row_in v.ledger.rows place ≡ Some newest → newest.number ≡ x.number → is_transparent x.kind ≡ true → is_some x.committed ≡ true → x.call ≡ v.call.number → t.call.number ≡ v.call.number → t.call.attempts.committed ≡ Some (length v.ledger.rows + 1) → t.call.attempts.last ≡ v.call.attempts.last → t.ledger.rows ≡ v.ledger.rows ++ x ∷ [] → (is_some t.call.ended ≡ true → ⊥) → IsCommittedOnce v → IsCommittedOnce t
once_grown v t x newest place c there number transparent stamp owner same committed last rows live old = record {
  stamped = λ p h.
      let both : Some (length v.ledger.rows + 1) ≡ Some p = sym committed ∙ h in
      let at : length v.ledger.rows + 1 ≡ p = (cc) in
      subst (λ (k : ℕ). IsStamped t.call.number t.ledger.rows k) at
      (record {
        row = x;
        is = record { there = subst (λ (l : List Row). row_in l (length v.ledger.rows + 1) ≡ Some x) (sym rows) (row_last v.ledger.rows x); call = owner ∙ sym same };
        stamped = stamp;
      });
  chain = λ q row is e.
      grown_chain v t x newest row place q c there number transparent committed rows old (is.call ∙ same) e
      (row_split v.ledger.rows x q row (subst (λ (l : List Row). row_in l q ≡ Some row) rows is.there));
  ended = λ h. absurd (live (ap is_some h));
  last = λ p h.
      subst (λ (k : ℕ). HasOwnEnd k t.ledger.rows p) (sym same) (own_more v.call.number v.ledger.rows t.ledger.rows x p rows (old.last p (sym last ∙ h)));
}

once_followed : (place : ℕ) (row : LiveRow) (reported : EndNews) (moment : ℕ) (s : Stepped) (b : Bool) → names row.place s.call.attempts.committed ≡ b → find_live place s.call.live ≡ Some row → IsApart s → IsAlive s.call → IsCommittedOnce s → IsCommittedOnce (step.followed row reported moment (left_live row.place s))
once_followed place row reported moment s true n f apart alive old =
    let u : Stepped = left_live row.place s in
    let end : RowEnd = row_end reported s.ledger.entry moment (count_of s.tokens) in
    let v : Stepped = step.row_ended row.place end u in
    let x : Row = new_row s.call.number row.number kind.Transparent moment (stamp_if (names row.place s.call.attempts.committed) s.ledger.entry) in
    let one : IsStanding s.call.number s.ledger.rows row = found_stands s.call.number s.ledger.rows place s.call.live row apart.tied f in
    once_grown v (step.followed row reported moment u) x (ended_row end one.row) row.place (names_is row.place s.call.attempts.committed n)
    (row_changed_same (ended_row end) s.ledger.rows row.place one.row one.there) one.number refl
    (ap (λ (b : Bool). is_some (stamp_if b s.ledger.entry)) n) refl refl
    (ap (λ (b : Bool). if b then Some (length v.ledger.rows + 1) else s.call.attempts.committed) n) refl refl alive.live
    (once_plain s v refl refl refl refl (all_changed_at IsNamed named_write (ended_row end) (λ r. named_write.ended end r) s.ledger.rows row.place) old)
once_followed place row reported moment s false n f apart alive old =
    let u : Stepped = left_live row.place s in
    let end : RowEnd = row_end reported s.ledger.entry moment (count_of s.tokens) in
    let v : Stepped = step.row_ended row.place end u in
    let x : Row = new_row s.call.number row.number kind.Transparent moment (stamp_if (names row.place s.call.attempts.committed) s.ledger.entry) in
    once_more v (step.followed row reported moment u) x refl refl
    (ap (λ (b : Bool). if b then Some (length v.ledger.rows + 1) else s.call.attempts.committed) n) refl
    (ap (λ (b : Bool). stamp_if b s.ledger.entry) n) alive.live
    (once_plain s v refl refl refl refl (all_changed_at IsNamed named_write (ended_row end) (λ r. named_write.ended end r) s.ledger.rows row.place) old)

once_live : (place : ℕ) (row : LiveRow) (reported : EndNews) (moment word : ℕ) (s : Stepped) (b : Bool) → find_live place s.call.live ≡ Some row → is_cut reported.cause ≡ false → IsKept s.call → IsApart s → IsAlive s.call → IsCommittedOnce s → IsCommittedOnce (if b then step.followed row reported moment (left_live row.place s) else step.counted row reported moment word (settled reported (left_live row.place s)))
once_live place row reported moment word s true f cause kept apart alive old =
    once_followed place row reported moment s (names row.place s.call.attempts.committed) refl f apart alive old
once_live place row reported moment word s false f cause kept apart alive old =
    once_counted place row reported moment word s s.call.attempts.committed refl f cause kept apart alive old

-- a head, and a message that doesn't fit
live_row : (place : ℕ) (row : LiveRow) (s : Stepped) → find_live place s.call.live ≡ Some row → IsApart s → (x : Row) × IsRowOf s.call.number s.ledger.rows place x
live_row place row s f apart =
    let one : IsStanding s.call.number s.ledger.rows row = found_stands s.call.number s.ledger.rows place s.call.live row apart.tied f in
    (one.row, record { there = ap (λ (k : ℕ). row_in s.ledger.rows k) (sym (found_place place s.call.live row f)) ∙ one.there; call = one.call })

sole_commit : (place : ℕ) (row : LiveRow) (s : Stepped) → find_live place s.call.live ≡ Some row → IsKept s.call → (p : ℕ) → s.call.attempts.committed ≡ Some p → p ≡ place
sole_commit place row s f kept p c = sym (found_at p place s.call.live row (kept.committed p c).live f) ∙ found_place place s.call.live row f

once_head : (place : ℕ) (row : LiveRow) (meta : List Field) (moment : ℕ) (s : Stepped) (b : Bool) → find_live place s.call.live ≡ Some row → IsKept s.call → IsApart s → IsCommittedOnce s → IsCommittedOnce (step.with_head meta (if b then s else step.committed place moment (record s { call = record s.call { buffer = committed_buffer place s.call.buffer } })))
once_head place row meta moment s true f kept apart old =
    once_plain s (step.with_head meta s) refl refl refl refl (all_same IsNamed named_write s.ledger.rows) old
once_head place row meta moment s false f kept apart old =
    let c : Stepped = record s { call = record s.call { buffer = committed_buffer place s.call.buffer } } in
    let t : Stepped = step.committed place moment c in
    let x : (x : Row) × IsRowOf s.call.number s.ledger.rows place x = live_row place row s f apart in
    once_plain t (step.with_head meta t) refl refl refl refl (all_same IsNamed named_write t.ledger.rows)
    (once_commit place moment c x.0 x.1 (sole_commit place row s f kept) (found_alive s.call place row kept f).live
    (once_plain s c refl refl refl refl (all_same IsNamed named_write s.ledger.rows) old))

once_message : (octets : List ℕ) (s : Stepped) (b : Bool) → IsCommittedOnce s → IsCommittedOnce (record s { call = (if b then record s.call { inbox = record s.call.inbox { messages = s.call.inbox.messages ++ octets ∷ [] } } else s.call) })
once_message octets s true old = once_plain s _ refl refl refl refl (all_same IsNamed named_write s.ledger.rows) old
once_message octets s false old = once_plain s _ refl refl refl refl (all_same IsNamed named_write s.ledger.rows) old

once_over : (over : Bool) (row : Option ℕ) (moment : ℕ) (s t : Stepped) → ((place : ℕ) → row ≡ Some place → (x : LiveRow) × (find_live place s.call.live ≡ Some x)) → t.call.live ≡ s.call.live → t.call.number ≡ s.call.number → t.call.attempts ≡ s.call.attempts → t.call.ended ≡ s.call.ended → t.ledger ≡ s.ledger → IsKept s.call → IsApart s → IsCommittedOnce t → IsCommittedOnce (step.committed_over over row moment t)
once_over over None moment s t found live number attempts ended ledger kept apart old = old
once_over false (Some place) moment s t found live number attempts ended ledger kept apart old = old
once_over true (Some place) moment s t found live number attempts ended ledger kept apart old =
    let l : (x : LiveRow) × (find_live place s.call.live ≡ Some x) = found place refl in
    let x : (x : Row) × IsRowOf s.call.number s.ledger.rows place x = live_row place l.0 s l.1 apart in
    once_commit place moment t x.0
    (record { there = ap (λ (m : Ledger). row_in m.rows place) ledger ∙ x.1.there; call = x.1.call ∙ sym number })
    (λ p c. sole_commit place l.0 s l.1 kept p (ap (λ (a : Attempts). a.committed) (sym attempts) ∙ c))
    (λ h. (found_alive s.call place l.0 kept l.1).live (ap is_some (sym ended) ∙ h)) old

-- an attempt that the tokens forbid
once_by_last : (last : Option ℕ) (moment : ℕ) (s : Stepped) → s.call.attempts.last ≡ last → s.call.attempts.committed ≡ None → (is_some s.call.ended ≡ true → ⊥) → IsCommittedOnce s → IsCommittedOnce (step.ended_by_last last moment s)
once_by_last None moment s e free live old = old
once_by_last (Some last) moment s e free live old =
    elim (has_none s.call.live) as (λ b. IsCommittedOnce (if b then step.ended_by_row last moment s else s)) [ true ↦ once_by_row last moment s (old.last last e) free live old | false ↦ old ]

free_due : (due : ℕ) (s : Stepped) (o : Option ℕ) → s.call.attempts.committed ≡ o → next_due s.call ≡ Some due → IsKept s.call → o ≡ None
free_due due s None c e kept = refl
free_due due s (Some p) c e kept =
    absurd (let bad : true ≡ false = sym (kept.committed p c).stopped ∙ not_stopped (call_plan s.call) s.call.attempts due e in cc)

once_placed : (row : LiveRow) (at : Placed) (s : Stepped) → IsCommittedOnce s → IsCommittedOnce (step.placed_row_live row at s)
once_placed row at s old =
    once_plain s (step.placed_row_live row at s) refl refl refl refl
    (all_changed_at IsNamed named_write (placed_row at) (λ r. record { call = refl; number = refl; kind = refl; committed = refl; stays = λ end e. e }) s.ledger.rows row.place) old

pub once_moves : Moves (λ chosen. Unit {0}) (λ s row reported. is_cut reported.cause ≡ false) (λ moment s t. IsKept s.call → IsApart s → IsCommittedOnce s → IsCommittedOnce t)
once_moves = record {
  same = λ moment s kept apart old. old;
  configured = λ chosen moment s known e fresh kept apart old. once_plain s (with_chosen chosen moment s) refl refl refl refl (all_same IsNamed named_write s.ledger.rows) old;
  over_limit = λ chosen moment s known e fresh kept apart old.
      once_closed ends.Request moment (with_chosen chosen moment s) refl (once_plain s (with_chosen chosen moment s) refl refl refl refl (all_same IsNamed named_write s.ledger.rows) old);
  ended = λ why moment s by e kept apart old. once_closed why moment s by old;
  too_large = λ row moment s e kept apart old. once_closed ends.Response moment s refl old;
  head = λ place row meta moment s e kept apart old. once_head place row meta moment s (is_some s.call.attempts.committed) e kept apart old;
  message = λ row octets moment s kept apart old. once_message octets s (is_committed_live row s.call) old;
  row_ended = λ place row reported moment word s e cause kept apart old.
      once_live place row reported moment word s (is_followed s.call.attempts reported.cause reported.unseen) e cause kept apart (found_alive s.call place row kept e) old;
  placed = λ place row at s entry e free kept apart old. once_placed row at s old;
  refused = λ due moment s e passed tested kept apart old.
      let v : Stepped = step.with_attempts (stopped_attempts s.call.attempts) s in
      once_by_last s.call.attempts.last moment v refl (let o : Option ℕ = s.call.attempts.committed in free_due due s o refl e kept)
      (due_alive s.call kept (not_stopped (call_plan s.call) s.call.attempts due e)).live
      (once_plain s v refl refl refl refl (all_same IsNamed named_write s.ledger.rows) old);
  made = λ due moment s e passed kept apart old.
      once_more s (step.made due s) (new_row s.call.number (min (s.call.attempts.sent + 1) 4294967295) (kind_of_next (call_plan s.call) s.call.attempts) due None) refl refl refl refl refl
      (due_alive s.call kept (not_stopped (call_plan s.call) s.call.attempts due e)).live old;
  accepted = λ message moment s e room kept apart old.
      let row : Option ℕ = furthest s.call.buffer s.call.live in
      let t : Stepped = record s { call = with_message message row s.call } in
      once_over (pushed_over s.call.buffer (framed message) row) row moment s t (λ place h. furthest_found s.call.buffer s.call.live place h) refl refl refl refl refl kept apart
      (once_plain s t refl refl refl refl (all_same IsNamed named_write s.ledger.rows) old);
}

pub once_new : (number : ℕ) (request : RequestSeen) (begun : ℕ) (ledger : Ledger) (tokens : Option Bucket) (acts : List CallAct) → ((place : ℕ) (row : Row) → row_in ledger.rows place ≡ Some row → row.call ≡ number → ⊥) → IsCommittedOnce (step.lent (new_call number request begun) ledger tokens acts)
once_new number request begun ledger tokens acts fresh = record {
  stamped = λ place h. absurd (cc);
  chain = λ place row is e. absurd (fresh place row is.there is.call);
  ended = λ h. absurd (cc);
  last = λ place h. absurd (cc);
}

-- what is done to other calls
own_kept : (owner : ℕ) (rows after : List Row) (place : ℕ) → KeepsCommitments owner rows after → HasOwnEnd owner rows place → HasOwnEnd owner after place
own_kept owner rows after place keeps has =
    let now : IsSameIn owner after place has.row = keeps.there place has.row has.is in
    record { row = now.row; is = now.is; end = has.end; ended = now.same.ended ∙ has.ended; cause = has.cause }

pub once_elsewhere : (s : Stepped) (ledger : Ledger) → KeepsCommitments s.call.number s.ledger.rows ledger.rows → IsCommittedOnce s → IsCommittedOnce (record s { ledger = ledger })
once_elsewhere s ledger keeps old = record {
  stamped = λ place h.
      let one : IsStamped s.call.number s.ledger.rows place = old.stamped place h in
      record {
        row = (keeps.there place one.row one.is).row;
        is = (keeps.there place one.row one.is).is;
        stamped = ap is_some (keeps.there place one.row one.is).same.committed ∙ one.stamped;
      };
  chain = λ place row is e.
      let was : IsSameIn s.call.number s.ledger.rows place row = keeps.back place row is in
      let c : IsInChain s place was.row = old.chain place was.row was.is (ap is_some was.same.committed ∙ e) in
      let one : IsStamped s.call.number s.ledger.rows c.last = old.stamped c.last c.is_last in
      let both : Some one.row ≡ Some c.newest = sym one.is.there ∙ c.there in
      let equal : one.row ≡ c.newest = (cc) in
      let now : IsSameIn s.call.number ledger.rows c.last one.row = keeps.there c.last one.row one.is in
      record {
        last = c.last;
        is_last = c.is_last;
        newest = now.row;
        there = now.is.there;
        number = sym was.same.number ∙ c.number ∙ ap (λ (r : Row). r.number) (sym equal) ∙ sym now.same.number;
        order = c.order;
        kind = kind_case place c.last c.newest now.row (now.same.kind ∙ ap (λ (r : Row). r.kind) equal) c.kind;
      };
  ended = λ h.
      let e : EndsByRow s = old.ended h in
      record { place = e.place; committed = e.committed; own = own_kept s.call.number s.ledger.rows ledger.rows e.place keeps e.own };
  last = λ place h. own_kept s.call.number s.ledger.rows ledger.rows place keeps (old.last place h);
}
