-- The rows of one number of a call stay a chain, whatever is done to the call.
use Rattle.std.proofs.Common.{◌≡◌, ◌≤◌, ◌<◌, ℕ, ◌+◌, Bool, true, false, not, nat_lt, if◌then◌else◌, min, length, Option, Some, None, is_some, List, [], ◌∷◌, ◌++◌, map, refl, sym, ap, subst, ◌∙◌, ◌⊎◌, inl, inr, arith}
use Rattle.std.proofs.Math.Nat.{min-eq_left}
use Rattle.std.proofs.lemmas.Bool.{leb-false, ltb-false, ltb-true}
use Rattle.grpc_base.specs.Requests.{RequestSeen}
use Rattle.grpc_base.specs.declared.event.EndCause.{EndCause}
use Rattle.grpc_base.specs.declared.event.EndCause.TheVariants as ends
use Rattle.grpc_base.specs.declared.fields.Field.{Field}
use Rattle.grpc_base.specs.declared.plan.CallPlan.{CallPlan}
use Rattle.attempt_ledger.specs.Numbering.{is_transparent, most_attempts}
use Rattle.attempt_ledger.specs.declared.ledger.Ledger.{Ledger}
use Rattle.attempt_ledger.specs.declared.news.EndNews.{EndNews}
use Rattle.attempt_ledger.specs.declared.row.Placed.{Placed}
use Rattle.attempt_ledger.specs.declared.row.Row.{Row}
use Rattle.attempt_ledger.specs.declared.row.RowEnd.{RowEnd}
use Rattle.attempt_ledger.specs.declared.row.RowKind.{RowKind}
use Rattle.attempt_ledger.specs.declared.row.RowKind.TheVariants as kind
use Rattle.ledger_stamps.specs.Steps.{changed_at, committed_row, ended_row, placed_row}
use Rattle.a6_numbers.specs.Throttling.{Bucket}
use Rattle.grpc_frame.specs.Messages.{framed}
use Rattle.call_core.specs.declared.act.CallAct.{CallAct}
use Rattle.call_core.specs.declared.judge.Judged.{Judged}
use Rattle.call_core.specs.declared.live.LiveRow.{LiveRow}
use Rattle.call_core.specs.Commitments.{IsRowOf}
use Rattle.call_core.specs.Numbering.{IsNumbered}
use Rattle.call_core.specs.Parts.{committed_buffer, count_of, find_live, furthest, has_none, is_above, is_followed, is_row, kept_alone, kind_of_next, linked, names, pushed_over, row_end, stopped_attempts, without}
use Rattle.call_core.specs.Reasons.{IsKeptRow}
use Rattle.call_core.specs.RowChains.{RowsAreChained, LiveRowsAreLast, IsLast, KeepsChains, WasChained}
use Rattle.call_core.specs.RowLaws.{IsFollowedAt}
use Rattle.call_core.specs.Rows.{LiveRowsStand, IsApart, IsOff, IsStanding, row_in}
use Rattle.call_core.specs.Steps as step
use Rattle.call_core.specs.Steps.{Stepped, call_plan, is_committed_live, judged_of, left_live, new_call, new_row, next_due, settled, stamp_if, with_chosen, with_judged, with_message}
use Rattle.call_core.proofs.Alike.{AreLike, WasRow, all_changed_at, all_cut, all_joined, all_same, like_from, row_split}
use Rattle.call_core.proofs.Chains.{left_none}
use Rattle.call_core.proofs.Cuts.{row_below}
use Rattle.call_core.proofs.KeptReasons.{kept_committed, kept_placed, kept_write}
use Rattle.call_core.proofs.Moves.{Moves}
use Rattle.call_core.proofs.Numbers.{below_most, judged_sent}
use Rattle.call_core.proofs.Standing.{found_stands, off_found}

-- lists of live rows
last_if : (owner : ℕ) (rows : List Row) (l : LiveRow) (live : List LiveRow) (b : Bool) → IsLast owner rows l → LiveRowsAreLast owner rows live → LiveRowsAreLast owner rows (if b then l ∷ live else live)
last_if owner rows l live true one rest = (one, rest)
last_if owner rows l live false one rest = rest

last_without : (owner : ℕ) (rows : List Row) (place : ℕ) (live : List LiveRow) → LiveRowsAreLast owner rows live → LiveRowsAreLast owner rows (without place live)
last_without owner rows place [] old = tt
last_without owner rows place (l ∷ live) old = last_if owner rows l (without place live) (not (is_row place l)) old.0 (last_without owner rows place live old.1)

last_alone : (owner : ℕ) (rows : List Row) (place : ℕ) (live : List LiveRow) → LiveRowsAreLast owner rows live → LiveRowsAreLast owner rows (kept_alone place live)
last_alone owner rows place [] old = tt
last_alone owner rows place (l ∷ live) old = last_if owner rows l (kept_alone place live) (is_row place l) old.0 (last_alone owner rows place live old.1)

linked_one : (owner : ℕ) (rows : List Row) (link : ℕ) (l : LiveRow) (b : Bool) → IsLast owner rows l → IsLast owner rows (if b then record l { link = Some link } else l)
linked_one owner rows link l true one = one
linked_one owner rows link l false one = one

last_linked : (owner : ℕ) (rows : List Row) (place link : ℕ) (live : List LiveRow) → LiveRowsAreLast owner rows live → LiveRowsAreLast owner rows (map (linked place link) live)
last_linked owner rows place link [] old = tt
last_linked owner rows place link (l ∷ live) old = (linked_one owner rows link l (is_row place l) old.0, last_linked owner rows place link live old.1)

last_after : (owner : ℕ) (rows : List Row) (x : LiveRow) (live : List LiveRow) → LiveRowsAreLast owner rows live → IsLast owner rows x → LiveRowsAreLast owner rows (live ++ x ∷ [])
last_after owner rows x [] old new = (new, tt)
last_after owner rows x (l ∷ live) old new = (old.0, last_after owner rows x live old.1 new)

last_found_one : (owner : ℕ) (rows : List Row) (place : ℕ) (l row : LiveRow) (live : List LiveRow) (b : Bool) → IsLast owner rows l → (find_live place live ≡ Some row → IsLast owner rows row) → (if b then Some l else find_live place live) ≡ Some row → IsLast owner rows row
last_found_one owner rows place l row live true one rest e = let is : l ≡ row = (cc) in subst (λ (x : LiveRow). IsLast owner rows x) is one
last_found_one owner rows place l row live false one rest e = rest e

pub last_found : (owner : ℕ) (rows : List Row) (place : ℕ) (live : List LiveRow) (row : LiveRow) → LiveRowsAreLast owner rows live → find_live place live ≡ Some row → IsLast owner rows row
last_found owner rows place [] row old e = absurd (cc)
last_found owner rows place (l ∷ live) row old e = last_found_one owner rows place l row live (is_row place l) old.0 (last_found owner rows place live row old.1) e

-- other rows
last_one_like : (owner : ℕ) (rows after : List Row) (l : LiveRow) → AreLike IsKeptRow rows after → IsLast owner rows l → IsLast owner after l
last_one_like owner rows after l like one = λ place row is e.
    let was : WasRow IsKeptRow (row_in rows place) row = like_from IsKeptRow (row_in rows place) (row_in after place) row (like place) is.there in
    one place was.row (record { there = was.there; call = sym was.like.call ∙ is.call }) (sym was.like.number ∙ e)

last_like : (owner : ℕ) (rows after : List Row) (live : List LiveRow) → AreLike IsKeptRow rows after → LiveRowsAreLast owner rows live → LiveRowsAreLast owner after live
last_like owner rows after [] like old = tt
last_like owner rows after (l ∷ live) like old = (last_one_like owner rows after l like old.0, last_like owner rows after live like old.1)

last_split : (owner : ℕ) (rows : List Row) (x row : Row) (l : LiveRow) (place : ℕ) → (x.number ≡ l.number → ⊥) → IsLast owner rows l → row.call ≡ owner → row.number ≡ l.number → (row_in rows place ≡ Some row) ⊎ ((place ≡ length rows + 1) × (row ≡ x)) → place ≤ l.place
last_split owner rows x row l place off one call e (inl there) = one place row (record { there = there; call = call }) e
last_split owner rows x row l place off one call e (inr both) = absurd (off (ap (λ (r : Row). r.number) (sym both.1) ∙ e))

abbrev AreOthers : ℕ → List LiveRow → Type 0
AreOthers number [] = Unit {0}
AreOthers number (l ∷ live) = (number ≡ l.number → ⊥) × AreOthers number live

last_more : (owner : ℕ) (rows : List Row) (x : Row) (live : List LiveRow) → AreOthers x.number live → LiveRowsAreLast owner rows live → LiveRowsAreLast owner (rows ++ x ∷ []) live
last_more owner rows x [] off old = tt
last_more owner rows x (l ∷ live) off old =
    (λ place row is e. last_split owner rows x row l place off.0 old.0 is.call e (row_split rows x place row is.there), last_more owner rows x live off.1 old.1)

-- the row after all others is the last of its number
last_new : (owner number : ℕ) (rows : List Row) (x : Row) → IsLast owner (rows ++ x ∷ []) (record { place = length rows + 1; number = number; link = None })
last_new owner number rows x = λ place row is e.
    let below : place ≤ length (rows ++ x ∷ []) = row_below (rows ++ x ∷ []) place row is.there in
    let len : length (rows ++ x ∷ []) ≡ length rows + 1 = length_more rows x in
    omega (arith, below, len)
  where
    length_more : (rows : List Row) (x : Row) → length (rows ++ x ∷ []) ≡ length rows + 1
    length_more [] x = refl
    length_more (y ∷ rows) x = let rest : length (rows ++ x ∷ []) ≡ length rows + 1 = length_more rows x in omega (arith, rest)

-- writes
record AreSameRows (s t : Stepped) : Type 0 where
  number : t.call.number ≡ s.call.number
  sent : t.call.attempts.sent ≡ s.call.attempts.sent
  like : AreLike IsKeptRow s.ledger.rows t.ledger.rows

chained_like : (s t : Stepped) → AreSameRows s t → LiveRowsAreLast s.call.number s.ledger.rows t.call.live → RowsAreChained s → RowsAreChained t
chained_like s t same live old =
    let owner : ℕ = s.call.number in
    let rows : List Row = s.ledger.rows in
    let after : List Row = t.ledger.rows in
    record {
      last = subst (λ (k : ℕ). LiveRowsAreLast k after t.call.live) (sym same.number) (last_like owner rows after t.call.live same.like live);
      within = λ place row is.
          let was : WasRow IsKeptRow (row_in rows place) row = like_from IsKeptRow (row_in rows place) (row_in after place) row (same.like place) is.there in
          let before : was.row.number ≤ s.call.attempts.sent = old.within place was.row (record { there = was.there; call = sym was.like.call ∙ is.call ∙ same.number }) in
          let number : row.number ≡ was.row.number = was.like.number in
          let sent : t.call.attempts.sent ≡ s.call.attempts.sent = same.sent in
          omega (arith, before, number, sent);
      kinds = λ place other row next is afterwards order e.
          let was : WasRow IsKeptRow (row_in rows place) row = like_from IsKeptRow (row_in rows place) (row_in after place) row (same.like place) is.there in
          let later : WasRow IsKeptRow (row_in rows other) next = like_from IsKeptRow (row_in rows other) (row_in after other) next (same.like other) afterwards.there in
          ap (λ (k : RowKind). is_transparent k) later.like.kind
          ∙ old.kinds place other was.row later.row (record { there = was.there; call = sym was.like.call ∙ is.call ∙ same.number })
          (record { there = later.there; call = sym later.like.call ∙ afterwards.call ∙ same.number }) order (sym later.like.number ∙ e ∙ was.like.number);
    }

chained_commit : (place moment : ℕ) (s : Stepped) → RowsAreChained s → RowsAreChained (step.committed place moment s)
chained_commit place moment s old =
    chained_like s (step.committed place moment s)
    (record {
      number = refl;
      sent = refl;
      like =
          all_joined IsKeptRow kept_write s.ledger.rows (step.commit_stamped place s.ledger).rows (step.committed place moment s).ledger.rows
          (all_changed_at IsKeptRow kept_write (committed_row s.ledger.entry) (kept_committed s.ledger.entry) s.ledger.rows place)
          (all_cut IsKeptRow kept_write (Some place) moment (count_of s.tokens) s.call.live (step.commit_stamped place s.ledger));
    })
    (last_alone s.call.number s.ledger.rows place s.call.live old.last) old

chained_end : (why : EndCause) (moment : ℕ) (s : Stepped) → RowsAreChained s → RowsAreChained (step.ended_as why moment s)
chained_end why moment s old =
    chained_like s (step.ended_as why moment s)
    (record { number = refl; sent = refl; like = all_cut IsKeptRow kept_write None moment (count_of s.tokens) s.call.live s.ledger }) tt old

chained_by_row : (place moment : ℕ) (s : Stepped) → RowsAreChained s → RowsAreChained (step.ended_by_row place moment s)
chained_by_row place moment s old = chained_end ends.Row moment (step.committed place moment s) (chained_commit place moment s old)

-- the end of a live row
ended_like : (end : RowEnd) (rows : List Row) (place : ℕ) → AreLike IsKeptRow rows (changed_at (ended_row end) rows place)
ended_like end rows place = all_changed_at IsKeptRow kept_write (ended_row end) (λ r. kept_write.ended end r) rows place

chained_closed : (row : LiveRow) (reported : EndNews) (end : RowEnd) (moment word : ℕ) (s : Stepped) (b : Bool) → RowsAreChained s → RowsAreChained (step.closed_if b row.place moment (with_judged row end (judged_of row end word (left_live row.place s).call (settled reported (left_live row.place s)).tokens) (settled reported (left_live row.place s))))
chained_closed row reported end moment word s b old =
    let v : Stepped = settled reported (left_live row.place s) in
    let after : Judged = judged_of row end word v.call v.tokens in
    let last : RowEnd = record end { word = after.word } in
    let w : Stepped = with_judged row end after v in
    let one : RowsAreChained w =
    chained_like s w (record { number = refl; sent = judged_sent (call_plan s.call) s.call.attempts row.number (has_none v.call.live) end (is_above v.tokens) word; like = ended_like last s.ledger.rows row.place })
    (last_without s.call.number s.ledger.rows row.place s.call.live old.last) old in
    elim b as (λ c. RowsAreChained (step.closed_if c row.place moment w)) [ true ↦ chained_by_row row.place moment w one | false ↦ one ]

chained_counted : (row : LiveRow) (reported : EndNews) (moment word : ℕ) (s : Stepped) (o : Option ℕ) → RowsAreChained s → RowsAreChained (if is_some o then step.ended_as ends.Row moment (step.row_ended row.place (row_end reported s.ledger.entry moment (count_of (settled reported (left_live row.place s)).tokens)) (settled reported (left_live row.place s))) else step.counted_free row (row_end reported s.ledger.entry moment (count_of (settled reported (left_live row.place s)).tokens)) moment word (settled reported (left_live row.place s)))
chained_counted row reported moment word s (Some p) old =
    let v : Stepped = settled reported (left_live row.place s) in
    let end : RowEnd = row_end reported s.ledger.entry moment (count_of v.tokens) in
    chained_end ends.Row moment (step.row_ended row.place end v)
    (chained_like s (step.row_ended row.place end v) (record { number = refl; sent = refl; like = ended_like end s.ledger.rows row.place })
    (last_without s.call.number s.ledger.rows row.place s.call.live old.last) old)
chained_counted row reported moment word s None old =
    let v : Stepped = settled reported (left_live row.place s) in
    let end : RowEnd = row_end reported s.ledger.entry moment (count_of v.tokens) in
    chained_closed row reported end moment word s (judged_of row end word v.call v.tokens).closes old

-- no other live row has the number of one
others_left : (owner : ℕ) (rows : List Row) (row : LiveRow) (r : Row) (live : List LiveRow) → IsRowOf owner rows row.place r → r.number ≡ row.number → IsLast owner rows row → IsOff row.place live → LiveRowsStand owner rows live → LiveRowsAreLast owner rows live → AreOthers row.number live
others_left owner rows row r [] is same one off standing last = tt
others_left owner rows row r (l ∷ live) is same one off standing last = (
  λ e.
      let st : IsStanding owner rows l = standing.0 in
      let before : l.place ≤ row.place = one l.place st.row (record { there = st.there; call = st.call }) (st.number ∙ sym e) in
      let after : row.place ≤ l.place = last.0 row.place r is (same ∙ e) in
      off.0 (omega (arith, before, after)),
  others_left owner rows row r live is same one off.1 standing.1 last.1,
)

standing_without_one : (owner : ℕ) (rows : List Row) (l : LiveRow) (live : List LiveRow) (b : Bool) → IsStanding owner rows l → LiveRowsStand owner rows live → LiveRowsStand owner rows (if b then l ∷ live else live)
standing_without_one owner rows l live true one rest = (one, rest)
standing_without_one owner rows l live false one rest = rest

standing_without : (owner : ℕ) (rows : List Row) (place : ℕ) (live : List LiveRow) → LiveRowsStand owner rows live → LiveRowsStand owner rows (without place live)
standing_without owner rows place [] old = tt
standing_without owner rows place (l ∷ live) old = standing_without_one owner rows l (without place live) (not (is_row place l)) old.0 (standing_without owner rows place live old.1)

more_within : (owner sent : ℕ) (rows : List Row) (x row : Row) (place : ℕ) → x.number ≤ sent → ((place : ℕ) (row : Row) → IsRowOf owner rows place row → row.number ≤ sent) → row.call ≡ owner → (row_in rows place ≡ Some row) ⊎ ((place ≡ length rows + 1) × (row ≡ x)) → row.number ≤ sent
more_within owner sent rows x row place new old call (inl there) = old place row (record { there = there; call = call })
more_within owner sent rows x row place new old call (inr both) = subst (λ (r : Row). r.number ≤ sent) (sym both.1) new

abbrev pub AreKinds : ℕ → List Row → Type 0
AreKinds owner rows = (place other : ℕ) (row next : Row) → IsRowOf owner rows place row → IsRowOf owner rows other next → place < other → next.number ≡ row.number → is_transparent next.kind ≡ true

more_kinds : (owner : ℕ) (rows : List Row) (x row next : Row) (place other : ℕ) → ((r : Row) (p : ℕ) → IsRowOf owner rows p r → x.number ≡ r.number → is_transparent x.kind ≡ true) → AreKinds owner rows → row.call ≡ owner → next.call ≡ owner → place < other → next.number ≡ row.number → (row_in rows place ≡ Some row) ⊎ ((place ≡ length rows + 1) × (row ≡ x)) → (row_in rows other ≡ Some next) ⊎ ((other ≡ length rows + 1) × (next ≡ x)) → is_transparent next.kind ≡ true
more_kinds owner rows x row next place other new old call called order e (inl there) (inl afterwards) =
    old place other row next (record { there = there; call = call }) (record { there = afterwards; call = called }) order e
more_kinds owner rows x row next place other new old call called order e (inl there) (inr both) =
    ap (λ (r : Row). is_transparent r.kind) both.1 ∙ new row place (record { there = there; call = call }) (ap (λ (r : Row). r.number) (sym both.1) ∙ e)
more_kinds owner rows x row next place other new old call called order e (inr both) (inl afterwards) =
    absurd (let below : other ≤ length rows = row_below rows other next afterwards in let at : place ≡ length rows + 1 = both.0 in omega (arith, below, at, order))
more_kinds owner rows x row next place other new old call called order e (inr both) (inr also) =
    absurd (let at : place ≡ length rows + 1 = both.0 in let later : other ≡ length rows + 1 = also.0 in omega (arith, at, later, order))

chained_more : (s t : Stepped) (rows : List Row) (x : Row) (live : List LiveRow) (link : LiveRow) → t.call.number ≡ s.call.number → t.ledger.rows ≡ rows ++ x ∷ [] → t.call.live ≡ live ++ link ∷ [] → IsLast s.call.number (rows ++ x ∷ []) link → AreOthers x.number live → LiveRowsAreLast s.call.number rows live → ((place : ℕ) (row : Row) → IsRowOf s.call.number rows place row → row.number ≤ t.call.attempts.sent) → x.number ≤ t.call.attempts.sent → ((r : Row) (p : ℕ) → IsRowOf s.call.number rows p r → x.number ≡ r.number → is_transparent x.kind ≡ true) → AreKinds s.call.number rows → RowsAreChained t
chained_more s t rows x live link number rows_are live_is new others last within new_within new_kind kinds =
    let owner : ℕ = s.call.number in
    let after : List Row = rows ++ x ∷ [] in
    let all : LiveRowsAreLast owner after (live ++ link ∷ []) = last_after owner after link live (last_more owner rows x live others last) new in
    record {
      last =
          subst (λ (k : ℕ). LiveRowsAreLast k t.ledger.rows t.call.live) (sym number)
          (subst (λ (l : List Row). LiveRowsAreLast owner l t.call.live) (sym rows_are) (subst (λ (l : List LiveRow). LiveRowsAreLast owner after l) (sym live_is) all));
      within = λ place row is.
          more_within owner t.call.attempts.sent rows x row place new_within within (is.call ∙ number)
          (row_split rows x place row (subst (λ (l : List Row). row_in l place ≡ Some row) rows_are is.there));
      kinds = λ place other row next is afterwards order e.
          more_kinds owner rows x row next place other new_kind kinds (is.call ∙ number) (afterwards.call ∙ number) order e
          (row_split rows x place row (subst (λ (l : List Row). row_in l place ≡ Some row) rows_are is.there))
          (row_split rows x other next (subst (λ (l : List Row). row_in l other ≡ Some next) rows_are afterwards.there));
    }

chained_live : (place : ℕ) (row : LiveRow) (reported : EndNews) (moment word : ℕ) (s : Stepped) (b : Bool) → find_live place s.call.live ≡ Some row → IsApart s → RowsAreChained s → RowsAreChained (if b then step.followed row reported moment (left_live row.place s) else step.counted row reported moment word (settled reported (left_live row.place s)))
chained_live place row reported moment word s true f apart old =
    let owner : ℕ = s.call.number in
    let rows : List Row = s.ledger.rows in
    let end : RowEnd = row_end reported s.ledger.entry moment (count_of s.tokens) in
    let after : List Row = changed_at (ended_row end) rows row.place in
    let new : Row = new_row owner row.number kind.Transparent moment (stamp_if (names row.place s.call.attempts.committed) s.ledger.entry) in
    let one : IsStanding owner rows row = found_stands owner rows place s.call.live row apart.tied f in
    let is_one : IsRowOf owner rows row.place one.row = record { there = one.there; call = one.call } in
    let last : IsLast owner rows row = last_found owner rows place s.call.live row old.last f in
    let left : List LiveRow = without row.place s.call.live in
    let mid : Stepped = step.row_ended row.place end (left_live row.place s) in
    let mid_chained : RowsAreChained mid =
    chained_like s mid (record { number = refl; sent = refl; like = ended_like end rows row.place }) (last_without owner rows row.place s.call.live old.last) old in
    chained_more s (step.followed row reported moment (left_live row.place s)) after new left (record { place = length after + 1; number = row.number; link = None }) refl refl refl
    (last_new owner row.number after new)
    (others_left owner rows row one.row left is_one one.number last (off_found row.place left (left_none row.place s.call.live)) (standing_without owner rows row.place s.call.live apart.tied) (last_without owner rows row.place s.call.live old.last))
    mid_chained.last mid_chained.within
    (let within : one.row.number ≤ s.call.attempts.sent = old.within row.place one.row is_one in
    let number : one.row.number ≡ row.number = one.number in omega (arith, within, number))
    (λ r p is e. refl) mid_chained.kinds
chained_live place row reported moment word s false f apart old = chained_counted row reported moment word s s.call.attempts.committed old

-- the other things that are done
plain_like : (s t : Stepped) → t.call.number ≡ s.call.number → t.call.attempts.sent ≡ s.call.attempts.sent → t.ledger.rows ≡ s.ledger.rows → t.call.live ≡ s.call.live → RowsAreChained s → RowsAreChained t
plain_like s t number sent rows live old =
    chained_like s t
    (record { number = number; sent = sent; like = subst (λ (l : List Row). AreLike IsKeptRow s.ledger.rows l) (sym rows) (all_same IsKeptRow kept_write s.ledger.rows) })
    (subst (λ (l : List LiveRow). LiveRowsAreLast s.call.number s.ledger.rows l) (sym live) old.last) old

chained_head : (place : ℕ) (meta : List Field) (moment : ℕ) (s : Stepped) (b : Bool) → RowsAreChained s → RowsAreChained (step.with_head meta (if b then s else step.committed place moment (record s { call = record s.call { buffer = committed_buffer place s.call.buffer } })))
chained_head place meta moment s true old = plain_like s (step.with_head meta s) refl refl refl refl old
chained_head place meta moment s false old =
    let c : Stepped = record s { call = record s.call { buffer = committed_buffer place s.call.buffer } } in
    let t : Stepped = step.committed place moment c in
    plain_like t (step.with_head meta t) refl refl refl refl (chained_commit place moment c (plain_like s c refl refl refl refl old))

chained_message : (octets : List ℕ) (s : Stepped) (b : Bool) → RowsAreChained s → RowsAreChained (record s { call = (if b then record s.call { inbox = record s.call.inbox { messages = s.call.inbox.messages ++ octets ∷ [] } } else s.call) })
chained_message octets s true old = plain_like s (record s { call = record s.call { inbox = record s.call.inbox { messages = s.call.inbox.messages ++ octets ∷ [] } } }) refl refl refl refl old
chained_message octets s false old = plain_like s (record s { call = s.call }) refl refl refl refl old

chained_by_last : (last : Option ℕ) (moment : ℕ) (s : Stepped) → RowsAreChained s → RowsAreChained (step.ended_by_last last moment s)
chained_by_last None moment s old = old
chained_by_last (Some last) moment s old =
    elim (has_none s.call.live) as (λ b. RowsAreChained (if b then step.ended_by_row last moment s else s)) [ true ↦ chained_by_row last moment s old | false ↦ old ]

chained_over : (over : Bool) (row : Option ℕ) (moment : ℕ) (s : Stepped) → RowsAreChained s → RowsAreChained (step.committed_over over row moment s)
chained_over over None moment s old = old
chained_over true (Some place) moment s old = chained_commit place moment s old
chained_over false (Some place) moment s old = old

chained_place : (row : LiveRow) (at : Placed) (s : Stepped) → RowsAreChained s → RowsAreChained (step.placed_row_live row at s)
chained_place row at s old =
    chained_like s (step.placed_row_live row at s)
    (record { number = refl; sent = refl; like = all_changed_at IsKeptRow kept_write (placed_row at) (kept_placed at) s.ledger.rows row.place })
    (last_linked s.call.number s.ledger.rows row.place at.link s.call.live old.last) old

others_above : (owner sent number : ℕ) (rows : List Row) (live : List LiveRow) → sent < number → ((place : ℕ) (row : Row) → IsRowOf owner rows place row → row.number ≤ sent) → LiveRowsStand owner rows live → AreOthers number live
others_above owner sent number rows [] above within standing = tt
others_above owner sent number rows (l ∷ live) above within standing = (
  λ e.
      let st : IsStanding owner rows l = standing.0 in
      let le : st.row.number ≤ sent = within l.place st.row (record { there = st.there; call = st.call }) in
      let same : st.row.number ≡ l.number = st.number in
      omega (arith, le, same, e, above),
  others_above owner sent number rows live above within standing.1,
)

chained_made : (due : ℕ) (s : Stepped) → next_due s.call ≡ Some due → IsNumbered s → IsApart s → RowsAreChained s → RowsAreChained (step.made due s)
chained_made due s e numbered apart old =
    let owner : ℕ = s.call.number in
    let rows : List Row = s.ledger.rows in
    let plan : CallPlan = call_plan s.call in
    let n : ℕ = s.call.attempts.sent in
    let below : n < most_attempts plan = leb-false (most_attempts plan) n (below_most plan s.call.attempts due e) in
    let limit : most_attempts plan ≤ 4294967295 = numbered.limit in
    let small : n + 1 ≤ 4294967295 = omega (arith, below, limit) in
    let number : min (n + 1) 4294967295 ≡ n + 1 = min-eq_left small in
    let new : Row = new_row owner (min (n + 1) 4294967295) (kind_of_next plan s.call.attempts) due None in
    let above : n < min (n + 1) 4294967295 = omega (arith, number) in
    chained_more s (step.made due s) rows new s.call.live (record { place = length rows + 1; number = min (n + 1) 4294967295; link = None }) refl refl refl
    (last_new owner (min (n + 1) 4294967295) rows new)
    (others_above owner n (min (n + 1) 4294967295) rows s.call.live above old.within apart.tied)
    old.last
    (λ place row is. let le : row.number ≤ n = old.within place row is in omega (arith, le, above))
    (omega arith)
    (λ r p is same. absurd (let le : r.number ≤ n = old.within p r is in omega (arith, le, same, above)))
    old.kinds

pub chained_moves : Moves (λ chosen. Unit {0}) (λ s row reported. Unit {0}) (λ moment s t. IsNumbered s → IsApart s → RowsAreChained s → RowsAreChained t)
chained_moves = record {
  same = λ moment s numbered apart old. old;
  configured = λ chosen moment s known e fresh numbered apart old. plain_like s (with_chosen chosen moment s) refl refl refl refl old;
  over_limit = λ chosen moment s known e fresh numbered apart old.
      chained_end ends.Request moment (with_chosen chosen moment s) (plain_like s (with_chosen chosen moment s) refl refl refl refl old);
  ended = λ why moment s by e numbered apart old. chained_end why moment s old;
  too_large = λ row moment s e numbered apart old. chained_end ends.Response moment s old;
  head = λ place row meta moment s e numbered apart old. chained_head place meta moment s (is_some s.call.attempts.committed) old;
  message = λ row octets moment s numbered apart old. chained_message octets s (is_committed_live row s.call) old;
  row_ended = λ place row reported moment word s e known numbered apart old.
      chained_live place row reported moment word s (is_followed s.call.attempts reported.cause reported.unseen) e apart old;
  placed = λ place row at s entry e free numbered apart old. chained_place row at s old;
  refused = λ due moment s e passed tested numbered apart old.
      let t : Stepped = step.with_attempts (stopped_attempts s.call.attempts) s in
      chained_by_last s.call.attempts.last moment t (plain_like s t refl refl refl refl old);
  made = λ due moment s e passed numbered apart old. chained_made due s e numbered apart old;
  accepted = λ message moment s e room numbered apart old.
      let row : Option ℕ = furthest s.call.buffer s.call.live in
      let t : Stepped = record s { call = with_message message row s.call } in
      chained_over (pushed_over s.call.buffer (framed message) row) row moment t (plain_like s t refl refl refl refl old);
}

pub chained_new : (number : ℕ) (request : RequestSeen) (begun : ℕ) (ledger : Ledger) (tokens : Option Bucket) (acts : List CallAct) → ((place : ℕ) (row : Row) → row_in ledger.rows place ≡ Some row → row.call ≡ number → ⊥) → RowsAreChained (step.lent (new_call number request begun) ledger tokens acts)
chained_new number request begun ledger tokens acts none = record {
  last = tt;
  within = λ place row is. absurd (none place row is.there is.call);
  kinds = λ place other row next is afterwards order e. absurd (none place row is.there is.call);
}

-- what is done to other calls
last_elsewhere : (owner : ℕ) (rows after : List Row) (live : List LiveRow) → KeepsChains owner rows after → LiveRowsAreLast owner rows live → LiveRowsAreLast owner after live
last_elsewhere owner rows after [] keeps old = tt
last_elsewhere owner rows after (l ∷ live) keeps old = (
  λ place row is e.
      let was : WasChained owner rows place row = keeps place row is in old.0 place was.row was.is (sym was.number ∙ e),
  last_elsewhere owner rows after live keeps old.1,
)

pub chained_elsewhere : (s : Stepped) (ledger : Ledger) → KeepsChains s.call.number s.ledger.rows ledger.rows → RowsAreChained s → RowsAreChained (record s { ledger = ledger })
chained_elsewhere s ledger keeps old = record {
  last = last_elsewhere s.call.number s.ledger.rows ledger.rows s.call.live keeps old.last;
  within = λ place row is.
      let was : WasChained s.call.number s.ledger.rows place row = keeps place row is in
      subst (λ (k : ℕ). k ≤ s.call.attempts.sent) (sym was.number) (old.within place was.row was.is);
  kinds = λ place other row next is afterwards order e.
      let was : WasChained s.call.number s.ledger.rows place row = keeps place row is in
      let later : WasChained s.call.number s.ledger.rows other next = keeps other next afterwards in
      ap (λ (k : RowKind). is_transparent k) later.kind ∙ old.kinds place other was.row later.row was.is later.is order (sym later.number ∙ e ∙ was.number);
}

-- of the rows of one number one end counts at most
counted_cases : (s : Stepped) (place other : ℕ) (row next : Row) (b c : Bool) → nat_lt place other ≡ b → nat_lt other place ≡ c → RowsAreChained s → IsRowOf s.call.number s.ledger.rows place row → IsRowOf s.call.number s.ledger.rows other next → next.number ≡ row.number → (IsFollowedAt s.call.number s.ledger.rows place row.number → ⊥) → (IsFollowedAt s.call.number s.ledger.rows other next.number → ⊥) → place ≡ other
counted_cases s place other row next true c t u old is afterwards e first second =
    absurd (first (record { later = other; order = ltb-true place other t; next = next; is = afterwards; kind = old.kinds place other row next is afterwards (ltb-true place other t) e; same = e }))
counted_cases s place other row next false true t u old is afterwards e first second =
    absurd (second (record { later = place; order = ltb-true other place u; next = row; is = is; kind = old.kinds other place next row afterwards is (ltb-true other place u) (sym e); same = sym e }))
counted_cases s place other row next false false t u old is afterwards e first second =
    let le : other ≤ place = ltb-false place other t in
    let ge : place ≤ other = ltb-false other place u in
    omega (arith, le, ge)

pub counted_once : (s : Stepped) → RowsAreChained s → (place other : ℕ) (row next : Row) → IsRowOf s.call.number s.ledger.rows place row → IsRowOf s.call.number s.ledger.rows other next → next.number ≡ row.number → (IsFollowedAt s.call.number s.ledger.rows place row.number → ⊥) → (IsFollowedAt s.call.number s.ledger.rows other next.number → ⊥) → place ≡ other
counted_once s old place other row next is afterwards e first second =
    counted_cases s place other row next (nat_lt place other) (nat_lt other place) refl refl old is afterwards e first second
