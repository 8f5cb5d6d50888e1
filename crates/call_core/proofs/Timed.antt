-- The rows of a call are due, placed and ended in this order, whatever is done to the call.
use Rattle.std.proofs.Common.{◌≡◌, ◌≤◌, ℕ, ◌+◌, Bool, true, false, ◌==◌, if◌then◌else◌, min, length, Option, Some, None, IfSome, IfNone, OnSome, is_some, List, [], ◌∷◌, ◌++◌, refl, sym, ap, subst, ◌∙◌, ◌⊎◌, inl, inr, arith}
use Rattle.std.proofs.lemmas.Bool.{eqb-true, eqb-false}
use Rattle.grpc_base.specs.Requests.{RequestSeen}
use Rattle.grpc_base.specs.declared.code.Code.TheVariants as code
use Rattle.grpc_base.specs.declared.event.EndCause.{EndCause}
use Rattle.grpc_base.specs.declared.event.EndCause.TheVariants as ends
use Rattle.grpc_base.specs.declared.fields.Field.{Field}
use Rattle.attempt_ledger.specs.declared.ledger.Ledger.{Ledger}
use Rattle.attempt_ledger.specs.declared.news.EndNews.{EndNews}
use Rattle.attempt_ledger.specs.declared.row.Placed.{Placed}
use Rattle.attempt_ledger.specs.declared.row.Row.{Row}
use Rattle.attempt_ledger.specs.declared.row.RowCause.TheVariants as cause
use Rattle.attempt_ledger.specs.declared.row.RowEnd.{RowEnd}
use Rattle.attempt_ledger.specs.declared.row.RowKind.{RowKind}
use Rattle.attempt_ledger.specs.declared.row.RowKind.TheVariants as kind
use Rattle.ledger_stamps.specs.Steps.{changed_at, committed_row, ended_row, placed_row, stamped}
use Rattle.a6_numbers.specs.Throttling.{Bucket}
use Rattle.grpc_frame.specs.Messages.{framed}
use Rattle.call_core.specs.declared.act.CallAct.{CallAct}
use Rattle.call_core.specs.declared.judge.Judged.{Judged}
use Rattle.call_core.specs.declared.live.LiveRow.{LiveRow}
use Rattle.call_core.specs.Commitments.{IsRowOf}
use Rattle.call_core.specs.Orders.{RowsAreTimed, IsFair, IsSameTimes, IsTimed, KeepsTimes, WasTimed}
use Rattle.call_core.specs.Parts.{committed_buffer, count_of, cut_end, find_live, furthest, has_none, is_followed, kind_of_next, names, pushed_over, read_of, row_end, stopped_attempts}
use Rattle.call_core.specs.Rows.{LiveRowsStand, IsApart, IsOnLink, IsStanding, row_in}
use Rattle.call_core.specs.Steps as step
use Rattle.call_core.specs.Steps.{Stepped, call_plan, cut_all, cut_row, cut_unless, is_committed_live, judged_of, left_live, new_call, new_row, settled, stamp_if, with_chosen, with_judged, with_message}
use Rattle.call_core.proofs.Alike.{AreLike, IsWrite, WasRow, all_changed_at, all_same, like_from, row_split}
use Rattle.call_core.proofs.Chains.{left_none}
use Rattle.call_core.proofs.Cuts.{apart_chain}
use Rattle.call_core.proofs.Moves.{Moves}
use Rattle.call_core.proofs.Standing.{found_stands, row_changed_other, row_changed_same}

-- all rows of a call in a list
abbrev AllTimed : ℕ → ℕ → List Row → Type 0
AllTimed owner now rows = (place : ℕ) (row : Row) → IsRowOf owner rows place row → IsTimed now row

later_placed : (now moment : ℕ) (placed : Option Placed) → now ≤ moment → IfSome placed (λ p. p.moment ≤ now) → IfSome placed (λ p. p.moment ≤ moment)
later_placed now moment None le h = tt
later_placed now moment (Some p) le h = omega (arith, le, h)

later : (now moment : ℕ) (row : Row) → now ≤ moment → IsTimed now row → IsTimed moment row
later now moment row le old = record { order = old.order; due = (let h : row.due ≤ now = old.due in omega (arith, le, h)); placed = later_placed now moment row.placed le old.placed }

all_later : (owner now moment : ℕ) (rows : List Row) → now ≤ moment → AllTimed owner now rows → AllTimed owner moment rows
all_later owner now moment rows le old = λ place row is. later now moment row le (old place row is)

-- the end of a row
ended_case : (now : ℕ) (placed : Option Placed) (ended : Option RowEnd) (end : RowEnd) → end.moment ≡ now → IfSome placed (λ p. p.moment ≤ now) → IfSome placed (λ p. IfSome ended (λ e. p.moment ≤ e.moment)) → IfSome placed (λ p. IfSome (stamped end ended) (λ e. p.moment ≤ e.moment))
ended_case now None ended end at le old = tt
ended_case now (Some p) None end at le old = subst (λ (k : ℕ). p.moment ≤ k) (sym at) le
ended_case now (Some p) (Some x) end at le old = old

abbrev IsPickFailed : RowEnd → Type 0
IsPickFailed end = (end.code ≡ code.Unavailable) × (end.cause ≡ cause.Pick)

unplaced_case : (placed : Option Placed) (ended : Option RowEnd) (end : RowEnd) → (placed ≡ None → IsPickFailed end) → IfNone placed (IfSome ended (λ e. IsPickFailed e)) → IfNone placed (IfSome (stamped end ended) (λ e. IsPickFailed e))
unplaced_case None None end known old = known refl
unplaced_case None (Some x) end known old = old
unplaced_case (Some p) ended end known old = tt

timed_ended : (now : ℕ) (end : RowEnd) (row : Row) → end.moment ≡ now → (row.placed ≡ None → IsPickFailed end) → IsTimed now row → IsTimed now (ended_row end row)
timed_ended now end row at known old = record {
  order = record {
    due = old.order.due;
    ended = ended_case now row.placed row.ended end at old.placed old.order.ended;
    stream = old.order.stream;
    unplaced = unplaced_case row.placed row.ended end known old.order.unplaced;
  };
  due = old.due;
  placed = old.placed;
}

timed_committed : (now entry : ℕ) (row : Row) → IsTimed now row → IsTimed now (committed_row entry row)
timed_committed now entry row old = record {
  order = record { due = old.order.due; ended = old.order.ended; stream = old.order.stream; unplaced = old.order.unplaced };
  due = old.due;
  placed = old.placed;
}

-- the placing of a row that hasn't ended
placed_due : (due now : ℕ) (placed : Option Placed) (at : Placed) → at.moment ≡ now → due ≤ now → IfSome placed (λ p. due ≤ p.moment) → IfSome (stamped at placed) (λ p. due ≤ p.moment)
placed_due due now None at e le old = subst (λ (k : ℕ). due ≤ k) (sym e) le
placed_due due now (Some p) at e le old = old

placed_ended : (placed : Option Placed) (ended : Option RowEnd) (at : Placed) → ended ≡ None → IfSome placed (λ p. IfSome ended (λ e. p.moment ≤ e.moment)) → IfSome (stamped at placed) (λ p. IfSome ended (λ e. p.moment ≤ e.moment))
placed_ended None None at e old = tt
placed_ended None (Some x) at e old = absurd (cc)
placed_ended (Some p) ended at e old = old

placed_some : (placed : Option Placed) (at : Placed) → is_some (stamped at placed) ≡ true
placed_some None at = refl
placed_some (Some p) at = refl

stream_case : (stream : Option ℕ) (some : Bool) → some ≡ true → OnSome stream (some ≡ true)
stream_case None some e = tt
stream_case (Some x) some e = e

placed_none : (placed : Option Placed) (at : Placed) (P : Type 0) → IfNone (stamped at placed) P
placed_none None at P = tt
placed_none (Some p) at P = tt

placed_now : (now : ℕ) (placed : Option Placed) (at : Placed) → at.moment ≡ now → IfSome placed (λ p. p.moment ≤ now) → IfSome (stamped at placed) (λ p. p.moment ≤ now)
placed_now now None at e old = (let h : at.moment ≡ now = e in omega (arith, h))
placed_now now (Some p) at e old = old

timed_placed : (now : ℕ) (at : Placed) (row : Row) → at.moment ≡ now → row.ended ≡ None → IsTimed now row → IsTimed now (placed_row at row)
timed_placed now at row e none old = record {
  order = record {
    due = placed_due row.due now row.placed at e old.due old.order.due;
    ended = placed_ended row.placed row.ended at none old.order.ended;
    stream = stream_case row.stream (is_some (stamped at row.placed)) (placed_some row.placed at);
    unplaced = placed_none row.placed at (IfSome row.ended (λ x. IsPickFailed x));
  };
  due = old.due;
  placed = placed_now now row.placed at e old.placed;
}

timed_new : (number : ℕ) (now due attempt : ℕ) (why : RowKind) (committed : Option ℕ) → due ≤ now → IsTimed now (new_row number attempt why due committed)
timed_new number now due attempt why committed le = record {
  order = record { due = tt; ended = tt; stream = tt; unplaced = tt };
  due = le;
  placed = tt;
}

-- a write to one row of a call's
pub record IsBeside (old new : Row) : Type 0 where
  pub call : new.call ≡ old.call

beside_write : IsWrite IsBeside
beside_write = record {
  same = λ r. record { call = refl };
  joined = λ a b c first second. record { call = second.call ∙ first.call };
  ended = λ end r. record { call = refl };
}

changed_one : (owner now p q : ℕ) (f : Row → Row) (rows : List Row) (new : Row) (b : Bool) → (p == q) ≡ b → ((r : Row) → IsBeside r (f r)) → ((r : Row) → IsRowOf owner rows p r → IsTimed now r → IsTimed now (f r)) → AllTimed owner now rows → IsRowOf owner (changed_at f rows p) q new → IsTimed now new
changed_one owner now p q f rows new true t beside one old is =
    let same : p ≡ q = eqb-true p q t in
    let was : WasRow IsBeside (row_in rows q) new = like_from IsBeside (row_in rows q) (row_in (changed_at f rows p) q) new (all_changed_at IsBeside beside_write f beside rows p q) is.there in
    let there : row_in rows p ≡ Some was.row = ap (λ (k : ℕ). row_in rows k) same ∙ was.there in
    let both : Some (f was.row) ≡ Some new = sym (row_changed_same f rows p was.row there) ∙ ap (λ (k : ℕ). row_in (changed_at f rows p) k) same ∙ is.there in
    let equal : f was.row ≡ new = (cc) in
    let here : IsRowOf owner rows p was.row = record { there = there; call = sym was.like.call ∙ is.call } in
    subst (λ (r : Row). IsTimed now r) equal (one was.row here (old p was.row here))
changed_one owner now p q f rows new false t beside one old is =
    old q new (record { there = sym (row_changed_other f rows p q (eqb-false p q t)) ∙ is.there; call = is.call })

all_changed : (owner now p : ℕ) (f : Row → Row) (rows : List Row) → ((r : Row) → IsBeside r (f r)) → ((r : Row) → IsRowOf owner rows p r → IsTimed now r → IsTimed now (f r)) → AllTimed owner now rows → AllTimed owner now (changed_at f rows p)
all_changed owner now p f rows beside one old = λ q new is. changed_one owner now p q f rows new (p == q) refl beside one old is

more_one : (owner now q : ℕ) (rows : List Row) (x row : Row) → IsTimed now x → AllTimed owner now rows → row.call ≡ owner → (row_in rows q ≡ Some row) ⊎ ((q ≡ length rows + 1) × (row ≡ x)) → IsTimed now row
more_one owner now q rows x row new old call (inl there) = old q row (record { there = there; call = call })
more_one owner now q rows x row new old call (inr both) = subst (λ (r : Row). IsTimed now r) (sym both.1) new

all_more : (owner now : ℕ) (rows : List Row) (x : Row) → IsTimed now x → AllTimed owner now rows → AllTimed owner now (rows ++ x ∷ [])
all_more owner now rows x new old = λ q row is. more_one owner now q rows x row new old is.call (row_split rows x q row is.there)

-- cuts: a live row with a link is placed
pub record IsPlacedLike (old new : Row) : Type 0 where
  pub placed : new.placed ≡ old.placed

placed_write : IsWrite IsPlacedLike
placed_write = record {
  same = λ r. record { placed = refl };
  joined = λ a b c first second. record { placed = second.placed ∙ first.placed };
  ended = λ end r. record { placed = refl };
}

abbrev ArePlaced : List Row → List LiveRow → Type 0
ArePlaced rows [] = Unit {0}
ArePlaced rows (l ∷ live) = ((link : ℕ) (row : Row) → l.link ≡ Some link → row_in rows l.place ≡ Some row → is_some row.placed ≡ true) × ArePlaced rows live

placed_like : (rows after : List Row) (live : List LiveRow) → AreLike IsPlacedLike rows after → ArePlaced rows live → ArePlaced after live
placed_like rows after [] like old = tt
placed_like rows after (l ∷ live) like old = (
  (λ link row e there.
      let was : WasRow IsPlacedLike (row_in rows l.place) row = like_from IsPlacedLike (row_in rows l.place) (row_in after l.place) row (like l.place) there in
      ap is_some was.like.placed ∙ old.0 link was.row e was.there),
  placed_like rows after live like old.1,
)

link_placed : (placed : Option Placed) (o : Option ℕ) (link : ℕ) → IsOnLink placed o → o ≡ Some link → is_some placed ≡ true
link_placed None None link on e = absurd (cc)
link_placed None (Some x) link on e = absurd on
link_placed (Some p) o link on e = refl

placed_standing : (owner : ℕ) (rows : List Row) (live : List LiveRow) → LiveRowsStand owner rows live → ArePlaced rows live
placed_standing owner rows [] old = tt
placed_standing owner rows (l ∷ live) old =
    let one : IsStanding owner rows l = old.0 in (
      (λ link row e there.
          let both : Some one.row ≡ Some row = sym one.there ∙ there in
          let equal : one.row ≡ row = (cc) in
          ap (λ (r : Row). is_some r.placed) (sym equal) ∙ link_placed one.row.placed l.link link one.placed e),
      placed_standing owner rows live old.1,
    )

not_placed : (placed : Option Placed) → is_some placed ≡ true → placed ≡ None → ⊥
not_placed None e none = let bad : false ≡ true = e in (cc)
not_placed (Some p) e none = (cc)

cut_like : (kept : Bool) (moment : ℕ) (tokens : Option ℕ) (row : LiveRow) (l : Ledger) (link : Option ℕ) → AreLike IsPlacedLike l.rows (if kept then l else cut_row moment tokens row.place l link).rows
cut_like true moment tokens row l link = all_same IsPlacedLike placed_write l.rows
cut_like false moment tokens row l None = all_same IsPlacedLike placed_write l.rows
cut_like false moment tokens row l (Some link) =
    let end : RowEnd = cut_end l.entry moment (read_of l.links link) tokens in
    all_changed_at IsPlacedLike placed_write (ended_row end) (λ r. record { placed = refl }) l.rows row.place

cut_timed : (owner : ℕ) (kept : Bool) (moment : ℕ) (tokens : Option ℕ) (row : LiveRow) (l : Ledger) (o : Option ℕ) → row.link ≡ o → ((link : ℕ) (x : Row) → row.link ≡ Some link → row_in l.rows row.place ≡ Some x → is_some x.placed ≡ true) → AllTimed owner moment l.rows → AllTimed owner moment (if kept then l else cut_row moment tokens row.place l o).rows
cut_timed owner true moment tokens row l o e placed old = old
cut_timed owner false moment tokens row l None e placed old = old
cut_timed owner false moment tokens row l (Some link) e placed old =
    let end : RowEnd = cut_end l.entry moment (read_of l.links link) tokens in
    all_changed owner moment row.place (ended_row end) l.rows (λ r. record { call = refl })
    (λ r is timed. timed_ended moment end r refl (λ none. absurd (not_placed r.placed (placed link r e is.there) none)) timed) old

cuts_timed : (owner : ℕ) (kept : Option ℕ) (moment : ℕ) (tokens : Option ℕ) (live : List LiveRow) (l : Ledger) → ArePlaced l.rows live → AllTimed owner moment l.rows → AllTimed owner moment (cut_all kept moment tokens live l).rows
cuts_timed owner kept moment tokens [] l placed old = old
cuts_timed owner kept moment tokens (row ∷ live) l placed old =
    let m : Ledger = cut_unless kept moment tokens row l in
    cuts_timed owner kept moment tokens live m
    (placed_like l.rows m.rows live (cut_like (names row.place kept) moment tokens row l row.link) placed.1)
    (cut_timed owner (names row.place kept) moment tokens row l row.link refl placed.0 old)

-- commitment and end
timed_commit : (place moment : ℕ) (s : Stepped) → IsApart s → RowsAreTimed moment s → RowsAreTimed moment (step.committed place moment s)
timed_commit place moment s apart old =
    let rows : List Row = changed_at (committed_row s.ledger.entry) s.ledger.rows place in
    cuts_timed s.call.number (Some place) moment (count_of s.tokens) s.call.live (step.commit_stamped place s.ledger)
    (placed_like s.ledger.rows rows s.call.live (all_changed_at IsPlacedLike placed_write (committed_row s.ledger.entry) (λ r. record { placed = refl }) s.ledger.rows place) (placed_standing s.call.number s.ledger.rows s.call.live apart.tied))
    (all_changed s.call.number moment place (committed_row s.ledger.entry) s.ledger.rows (λ r. record { call = refl }) (λ r is timed. timed_committed moment s.ledger.entry r timed) old)

timed_end : (why : EndCause) (moment : ℕ) (s : Stepped) → IsApart s → RowsAreTimed moment s → RowsAreTimed moment (step.ended_as why moment s)
timed_end why moment s apart old =
    cuts_timed s.call.number None moment (count_of s.tokens) s.call.live s.ledger (placed_standing s.call.number s.ledger.rows s.call.live apart.tied) old

timed_by_row : (place moment : ℕ) (s : Stepped) → IsApart s → RowsAreTimed moment s → RowsAreTimed moment (step.ended_by_row place moment s)
timed_by_row place moment s apart old =
    timed_end ends.Row moment (step.committed place moment s) (apart_chain.committed place moment s apart) (timed_commit place moment s apart old)

-- the end of a live row
free_link : (placed : Option Placed) (link : Option ℕ) → IsOnLink placed link → placed ≡ None → link ≡ None
free_link None None on e = refl
free_link None (Some x) on e = absurd on
free_link (Some p) link on e = absurd (cc)

timed_row : (row : LiveRow) (reported : EndNews) (end : RowEnd) (moment : ℕ) (s : Stepped) → IsStanding s.call.number s.ledger.rows row → IsFair row reported → end.moment ≡ moment → end.code ≡ reported.code → end.cause ≡ reported.cause → RowsAreTimed moment s → AllTimed s.call.number moment (changed_at (ended_row end) s.ledger.rows row.place)
timed_row row reported end moment s one fair at same_code same_cause old =
    all_changed s.call.number moment row.place (ended_row end) s.ledger.rows (λ r. record { call = refl })
    (λ r is timed.
    timed_ended moment end r at
    (λ none.
    let both : Some one.row ≡ Some r = sym one.there ∙ is.there in
    let equal : one.row ≡ r = (cc) in
    let reported_of : (reported.code ≡ code.Unavailable) × (reported.cause ≡ cause.Pick) = fair (free_link one.row.placed row.link one.placed (ap (λ (x : Row). x.placed) equal ∙ none)) in
    (same_code ∙ reported_of.0, same_cause ∙ reported_of.1))
    timed)
    old

timed_closed : (place : ℕ) (row : LiveRow) (reported : EndNews) (end : RowEnd) (moment word : ℕ) (s : Stepped) (b : Bool) → find_live place s.call.live ≡ Some row → IsFair row reported → end.entry ≡ s.ledger.entry → end.moment ≡ moment → end.code ≡ reported.code → end.cause ≡ reported.cause → s.call.attempts.committed ≡ None → IsApart s → RowsAreTimed moment s → RowsAreTimed moment (step.closed_if b row.place moment (with_judged row end (judged_of row end word (left_live row.place s).call (settled reported (left_live row.place s)).tokens) (settled reported (left_live row.place s))))
timed_closed place row reported end moment word s b f fair entry at same_code same_cause free apart old =
    let u : Stepped = left_live row.place s in
    let v : Stepped = settled reported u in
    let after : Judged = judged_of row end word u.call v.tokens in
    let w : Stepped = with_judged row end after v in
    let timed : RowsAreTimed moment w = timed_row row reported (record end { word = after.word }) moment s (found_stands s.call.number s.ledger.rows place s.call.live row apart.tied f) fair at same_code same_cause old in
    let still : IsApart w = apart_chain.judged row end word v entry (left_none row.place s.call.live) free (apart_chain.settled reported u (apart_chain.left row.place s apart)) in
    elim b as (λ c. RowsAreTimed moment (step.closed_if c row.place moment w)) [ true ↦ timed_by_row row.place moment w still timed | false ↦ timed ]

timed_counted : (place : ℕ) (row : LiveRow) (reported : EndNews) (moment word : ℕ) (s : Stepped) (o : Option ℕ) → s.call.attempts.committed ≡ o → find_live place s.call.live ≡ Some row → IsFair row reported → IsApart s → RowsAreTimed moment s → RowsAreTimed moment (if is_some o then step.ended_as ends.Row moment (step.row_ended row.place (row_end reported s.ledger.entry moment (count_of (settled reported (left_live row.place s)).tokens)) (settled reported (left_live row.place s))) else step.counted_free row (row_end reported s.ledger.entry moment (count_of (settled reported (left_live row.place s)).tokens)) moment word (settled reported (left_live row.place s)))
timed_counted place row reported moment word s (Some p) c f fair apart old =
    let v : Stepped = settled reported (left_live row.place s) in
    let end : RowEnd = row_end reported s.ledger.entry moment (count_of v.tokens) in
    timed_end ends.Row moment (step.row_ended row.place end v)
    (apart_chain.row_ended row.place end v refl (left_none row.place s.call.live) (apart_chain.settled reported (left_live row.place s) (apart_chain.left row.place s apart)))
    (timed_row row reported end moment s (found_stands s.call.number s.ledger.rows place s.call.live row apart.tied f) fair refl refl refl old)
timed_counted place row reported moment word s None c f fair apart old =
    let v : Stepped = settled reported (left_live row.place s) in
    let end : RowEnd = row_end reported s.ledger.entry moment (count_of v.tokens) in
    timed_closed place row reported end moment word s (judged_of row end word v.call v.tokens).closes f fair refl refl refl refl c apart old

timed_live : (place : ℕ) (row : LiveRow) (reported : EndNews) (moment word : ℕ) (s : Stepped) (b : Bool) → find_live place s.call.live ≡ Some row → IsFair row reported → IsApart s → RowsAreTimed moment s → RowsAreTimed moment (if b then step.followed row reported moment (left_live row.place s) else step.counted row reported moment word (settled reported (left_live row.place s)))
timed_live place row reported moment word s true f fair apart old =
    let end : RowEnd = row_end reported s.ledger.entry moment (count_of s.tokens) in
    let committed : Option ℕ = stamp_if (names row.place s.call.attempts.committed) s.ledger.entry in
    all_more s.call.number moment (changed_at (ended_row end) s.ledger.rows row.place) (new_row s.call.number row.number kind.Transparent moment committed)
    (timed_new s.call.number moment moment row.number kind.Transparent committed (omega arith))
    (timed_row row reported end moment s (found_stands s.call.number s.ledger.rows place s.call.live row apart.tied f) fair refl refl refl old)
timed_live place row reported moment word s false f fair apart old = timed_counted place row reported moment word s s.call.attempts.committed refl f fair apart old

-- the other things that are done
timed_place : (place : ℕ) (row : LiveRow) (at : Placed) (s : Stepped) → find_live place s.call.live ≡ Some row → IsApart s → RowsAreTimed at.moment s → RowsAreTimed at.moment (step.placed_row_live row at s)
timed_place place row at s f apart old =
    let one : IsStanding s.call.number s.ledger.rows row = found_stands s.call.number s.ledger.rows place s.call.live row apart.tied f in
    all_changed s.call.number at.moment row.place (placed_row at) s.ledger.rows (λ r. record { call = refl })
    (λ r is timed.
    let both : Some one.row ≡ Some r = sym one.there ∙ is.there in
    let equal : one.row ≡ r = (cc) in
    timed_placed at.moment at r refl (ap (λ (x : Row). x.ended) (sym equal) ∙ one.ended) timed)
    old

timed_by_last : (last : Option ℕ) (moment : ℕ) (s : Stepped) → IsApart s → RowsAreTimed moment s → RowsAreTimed moment (step.ended_by_last last moment s)
timed_by_last None moment s apart old = old
timed_by_last (Some last) moment s apart old =
    elim (has_none s.call.live) as (λ b. RowsAreTimed moment (if b then step.ended_by_row last moment s else s)) [ true ↦ timed_by_row last moment s apart old | false ↦ old ]

timed_head : (place : ℕ) (meta : List Field) (moment : ℕ) (s : Stepped) (b : Bool) → IsApart s → RowsAreTimed moment s → RowsAreTimed moment (step.with_head meta (if b then s else step.committed place moment (record s { call = record s.call { buffer = committed_buffer place s.call.buffer } })))
timed_head place meta moment s true apart old = old
timed_head place meta moment s false apart old =
    timed_commit place moment (record s { call = record s.call { buffer = committed_buffer place s.call.buffer } }) (record { tied = apart.tied; apart = apart.apart }) old

timed_message : (octets : List ℕ) (moment : ℕ) (s : Stepped) (b : Bool) → RowsAreTimed moment s → RowsAreTimed moment (record s { call = (if b then record s.call { inbox = record s.call.inbox { messages = s.call.inbox.messages ++ octets ∷ [] } } else s.call) })
timed_message octets moment s true old = old
timed_message octets moment s false old = old

timed_over : (over : Bool) (row : Option ℕ) (moment : ℕ) (s : Stepped) → IsApart s → RowsAreTimed moment s → RowsAreTimed moment (step.committed_over over row moment s)
timed_over over None moment s apart old = old
timed_over true (Some place) moment s apart old = timed_commit place moment s apart old
timed_over false (Some place) moment s apart old = old

timed_since : (now moment : ℕ) (s : Stepped) → now ≤ moment → RowsAreTimed now s → RowsAreTimed moment s
timed_since now moment s le old = all_later s.call.number now moment s.ledger.rows le old

pub timed_moves : Moves (λ chosen. Unit {0}) (λ s row reported. IsFair row reported) (λ moment s t. (now : ℕ) → now ≤ moment → IsApart s → RowsAreTimed now s → RowsAreTimed moment t)
timed_moves = record {
  same = λ moment s now le apart old. timed_since now moment s le old;
  configured = λ chosen moment s known e fresh now le apart old. timed_since now moment s le old;
  over_limit = λ chosen moment s known e fresh now le apart old.
      timed_end ends.Request moment (with_chosen chosen moment s) (record { tied = apart.tied; apart = apart.apart }) (timed_since now moment s le old);
  ended = λ why moment s by e now le apart old. timed_end why moment s apart (timed_since now moment s le old);
  too_large = λ row moment s e now le apart old. timed_end ends.Response moment s apart (timed_since now moment s le old);
  head = λ place row meta moment s e now le apart old. timed_head place meta moment s (is_some s.call.attempts.committed) apart (timed_since now moment s le old);
  message = λ row octets moment s now le apart old. timed_message octets moment s (is_committed_live row s.call) (timed_since now moment s le old);
  row_ended = λ place row reported moment word s e fair now le apart old.
      timed_live place row reported moment word s (is_followed s.call.attempts reported.cause reported.unseen) e fair apart (timed_since now moment s le old);
  placed = λ place row at s entry e free now le apart old. timed_place place row at s e apart (timed_since now at.moment s le old);
  refused = λ due moment s e passed tested now le apart old.
      timed_by_last s.call.attempts.last moment (step.with_attempts (stopped_attempts s.call.attempts) s) (record { tied = apart.tied; apart = apart.apart }) (timed_since now moment s le old);
  made = λ due moment s e passed now le apart old.
      let number : ℕ = min (s.call.attempts.sent + 1) 4294967295 in
      let why : RowKind = kind_of_next (call_plan s.call) s.call.attempts in
      all_more s.call.number moment s.ledger.rows (new_row s.call.number number why due None) (timed_new s.call.number moment due number why None passed) (timed_since now moment s le old);
  accepted = λ message moment s e room now le apart old.
      let row : Option ℕ = furthest s.call.buffer s.call.live in
      timed_over (pushed_over s.call.buffer (framed message) row) row moment (record s { call = with_message message row s.call }) (record { tied = apart.tied; apart = apart.apart }) (timed_since now moment s le old);
}

pub timed_begun : (number : ℕ) (request : RequestSeen) (begun : ℕ) (ledger : Ledger) (tokens : Option Bucket) (acts : List CallAct) → ((place : ℕ) (row : Row) → row_in ledger.rows place ≡ Some row → row.call ≡ number → ⊥) → RowsAreTimed begun (step.lent (new_call number request begun) ledger tokens acts)
timed_begun number request begun ledger tokens acts fresh = λ place row is. absurd (fresh place row is.there is.call)

-- what is done to other calls
same_timed : (now : ℕ) (old new : Row) → IsSameTimes old new → IsTimed now old → IsTimed now new
same_timed now old new same timed = record {
  order = record {
    due = subst (λ (o : Option Placed). IfSome o (λ p. new.due ≤ p.moment)) (sym same.placed) (subst (λ (k : ℕ). IfSome old.placed (λ p. k ≤ p.moment)) (sym same.due) timed.order.due);
    ended =
        subst (λ (o : Option Placed). IfSome o (λ p. IfSome new.ended (λ e. p.moment ≤ e.moment))) (sym same.placed)
        (subst (λ (x : Option RowEnd). IfSome old.placed (λ p. IfSome x (λ e. p.moment ≤ e.moment))) (sym same.ended) timed.order.ended);
    stream = same.stream;
    unplaced =
        subst (λ (o : Option Placed). IfNone o (IfSome new.ended (λ e. IsPickFailed e))) (sym same.placed)
        (subst (λ (x : Option RowEnd). IfNone old.placed (IfSome x (λ e. IsPickFailed e))) (sym same.ended) timed.order.unplaced);
  };
  due = subst (λ (k : ℕ). k ≤ now) (sym same.due) timed.due;
  placed = subst (λ (o : Option Placed). IfSome o (λ p. p.moment ≤ now)) (sym same.placed) timed.placed;
}

pub timed_elsewhere : (now : ℕ) (s : Stepped) (ledger : Ledger) → KeepsTimes s.call.number s.ledger.rows ledger.rows → RowsAreTimed now s → RowsAreTimed now (record s { ledger = ledger })
timed_elsewhere now s ledger keeps old = λ place row is.
    let was : WasTimed s.call.number s.ledger.rows place row = keeps place row is in same_timed now was.row row was.same (old place was.row was.is)
