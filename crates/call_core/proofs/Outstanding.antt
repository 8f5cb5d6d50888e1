-- Each outstanding row of a call is one of its live rows, whatever is done to the call.
use Rattle.std.proofs.Common.{◌≡◌, ℕ, ◌+◌, Bool, true, false, ◌==◌, if◌then◌else◌, length, Option, Some, None, is_some, List, [], ◌∷◌, ◌++◌, refl, sym, ap, subst, ◌∙◌, ◌⊎◌, inl, inr}
use Rattle.std.proofs.lemmas.Bool.{eqb-true, eqb-false}
use Rattle.grpc_base.specs.Requests.{RequestSeen}
use Rattle.grpc_base.specs.declared.event.EndCause.{EndCause}
use Rattle.grpc_base.specs.declared.event.EndCause.TheVariants as ends
use Rattle.grpc_base.specs.declared.fields.Field.{Field}
use Rattle.attempt_ledger.specs.declared.ledger.Ledger.{Ledger}
use Rattle.attempt_ledger.specs.declared.news.EndNews.{EndNews}
use Rattle.attempt_ledger.specs.declared.row.Placed.{Placed}
use Rattle.attempt_ledger.specs.declared.row.Row.{Row}
use Rattle.attempt_ledger.specs.declared.row.RowEnd.{RowEnd}
use Rattle.ledger_stamps.specs.Steps.{changed_at, committed_row, ended_row, placed_row, stamped}
use Rattle.a6_numbers.specs.Throttling.{Bucket}
use Rattle.grpc_frame.specs.Messages.{framed}
use Rattle.call_core.specs.declared.act.CallAct.{CallAct}
use Rattle.call_core.specs.declared.judge.Judged.{Judged}
use Rattle.call_core.specs.declared.live.LiveRow.{LiveRow}
use Rattle.call_core.specs.Laws.{AllAt, IsKept}
use Rattle.call_core.specs.Outstanding.{RowsAreHeld, RowsAreOverBut, IsOutstanding}
use Rattle.call_core.specs.Parts.{committed_buffer, count_of, cut_end, find_live, furthest, is_followed, is_row, kept_alone, has_none, names, pushed_over, read_of, row_end, stopped_attempts}
use Rattle.call_core.specs.Rows.{RowsAreCut, HasEnd, IsApart, IsKeptIn, IsOnLink, IsStanding, KeepsRows, row_in}
use Rattle.call_core.specs.Steps as step
use Rattle.call_core.specs.Steps.{Stepped, is_committed_live, judged_of, left_live, new_call, new_row, next_place, settled, with_chosen, with_judged, with_message}
use Rattle.attempt_ledger.specs.declared.ledger.LinkSeen.{LinkSeen}
use Rattle.call_core.proofs.Alike.{AreLike, IsWrite, WasRow, all_changed_at, all_cut, all_joined, like_from, row_split}
use Rattle.call_core.proofs.Chains.{left_none}
use Rattle.call_core.proofs.Cuts.{apart_chain, cut_by_commit, cut_by_end}
use Rattle.call_core.proofs.Finding.{find_alone, find_linked, find_more, find_without, found_place}
use Rattle.call_core.proofs.Keeping.{found_at}
use Rattle.call_core.proofs.Moves.{Moves}
use Rattle.call_core.proofs.Standing.{found_stands, row_changed_other, row_changed_same}

-- what every write but a placing leaves of a row
pub record WasOutstanding (old new : Row) : Type 0 where
  pub call : new.call ≡ old.call
  pub placed : new.placed ≡ old.placed
  pub ended : new.ended ≡ None → old.ended ≡ None

stamped_none : {X : Type 0} (x : X) (o : Option X) → stamped x o ≡ None → o ≡ None
stamped_none x None e = refl
stamped_none x (Some y) e = absurd (cc)

was_write : IsWrite WasOutstanding
was_write = record {
  same = λ r. record { call = refl; placed = refl; ended = λ e. e };
  joined = λ a b c first second. record { call = second.call ∙ first.call; placed = second.placed ∙ first.placed; ended = λ e. first.ended (second.ended e) };
  ended = λ end r. record { call = refl; placed = refl; ended = λ e. stamped_none end r.ended e };
}

was_committed : (entry : ℕ) (r : Row) → WasOutstanding r (committed_row entry r)
was_committed entry r = record { call = refl; placed = refl; ended = λ e. e }

was_out : (owner : ℕ) (old new : Row) → WasOutstanding old new → IsOutstanding owner new → IsOutstanding owner old
was_out owner old new was out = record {
  call = sym was.call ∙ out.call;
  placed = ap is_some (sym was.placed) ∙ out.placed;
  ended = was.ended out.ended;
}

-- a row that was placed has its link
on_link : (placed : Option Placed) (link : Option ℕ) → IsOnLink placed link → is_some placed ≡ true → (k : ℕ) × (link ≡ Some k)
on_link None link on e = absurd (let bad : false ≡ true = e in cc)
on_link (Some at) None on e = absurd on
on_link (Some at) (Some k) on e = (k, refl)

found_of : (o : Option LiveRow) → is_some o ≡ true → (row : LiveRow) × (o ≡ Some row)
found_of None e = absurd (let bad : false ≡ true = e in cc)
found_of (Some row) e = (row, refl)

-- the cut of a row that is found
abbrev CutsOf : Option ℕ → ℕ → ℕ → Option ℕ → List LinkSeen → List Row → LiveRow → Type 0
CutsOf kept entry moment tokens links rows l =
    names l.place kept ≡ false → (link : ℕ) → l.link ≡ Some link → HasEnd rows l.place (cut_end entry moment (read_of links link) tokens)

cut_one : (q : ℕ) (kept : Option ℕ) (entry moment : ℕ) (tokens : Option ℕ) (links : List LinkSeen) (rows : List Row) (x l : LiveRow) (live : List LiveRow) (b : Bool) → CutsOf kept entry moment tokens links rows x → (find_live q live ≡ Some l → CutsOf kept entry moment tokens links rows l) → (if b then Some x else find_live q live) ≡ Some l → CutsOf kept entry moment tokens links rows l
cut_one q kept entry moment tokens links rows x l live true one rest e =
    let is : x ≡ l = (cc) in subst (λ (y : LiveRow). CutsOf kept entry moment tokens links rows y) is one
cut_one q kept entry moment tokens links rows x l live false one rest e = rest e

cut_found : (q : ℕ) (kept : Option ℕ) (entry moment : ℕ) (tokens : Option ℕ) (links : List LinkSeen) (rows : List Row) (live : List LiveRow) (l : LiveRow) → RowsAreCut kept entry moment tokens links rows live → find_live q live ≡ Some l → CutsOf kept entry moment tokens links rows l
cut_found q kept entry moment tokens links rows [] l cuts e = absurd (cc)
cut_found q kept entry moment tokens links rows (x ∷ live) l cuts e =
    cut_one q kept entry moment tokens links rows x l live (is_row q x) cuts.0 (cut_found q kept entry moment tokens links rows live l cuts.1) e

-- an outstanding row that was cut isn't outstanding
not_cut : (rows : List Row) (place q : ℕ) (end : RowEnd) (row : Row) → place ≡ q → HasEnd rows place end → row_in rows q ≡ Some row → row.ended ≡ None → ⊥
not_cut rows place q end row same has e none =
    let both : Some has.row ≡ Some row = sym has.there ∙ ap (λ (k : ℕ). row_in rows k) same ∙ e in
    let is : has.row ≡ row = (cc) in
    let bad : Some end ≡ None = sym has.ended ∙ ap (λ (r : Row). r.ended) is ∙ none in (cc)

cut_out : (q : ℕ) (kept : Option ℕ) (entry moment : ℕ) (tokens : Option ℕ) (links : List LinkSeen) (owner : ℕ) (rows after : List Row) (live : List LiveRow) (l : LiveRow) (old new : Row) → RowsAreCut kept entry moment tokens links after live → find_live q live ≡ Some l → IsStanding owner rows l → names l.place kept ≡ false → row_in rows q ≡ Some old → is_some old.placed ≡ true → row_in after q ≡ Some new → new.ended ≡ None → ⊥
cut_out q kept entry moment tokens links owner rows after live l old new cuts e one other there placed now none =
    let at : l.place ≡ q = found_place q live l e in
    let both : Some one.row ≡ Some old = sym one.there ∙ ap (λ (k : ℕ). row_in rows k) at ∙ there in
    let is : one.row ≡ old = (cc) in
    let link : (k : ℕ) × (l.link ≡ Some k) = on_link one.row.placed l.link one.placed (ap (λ (r : Row). is_some r.placed) is ∙ placed) in
    not_cut after l.place q (cut_end entry moment (read_of links link.0) tokens) new at (cut_found q kept entry moment tokens links after live l cuts e other link.0 link.1) now none

-- a commitment
commit_like : (place moment : ℕ) (s : Stepped) → AreLike WasOutstanding s.ledger.rows (step.committed place moment s).ledger.rows
commit_like place moment s =
    all_joined WasOutstanding was_write s.ledger.rows (step.commit_stamped place s.ledger).rows (step.committed place moment s).ledger.rows
    (all_changed_at WasOutstanding was_write (committed_row s.ledger.entry) (λ r. was_committed s.ledger.entry r) s.ledger.rows place)
    (all_cut WasOutstanding was_write (Some place) moment (count_of s.tokens) s.call.live (step.commit_stamped place s.ledger))

commit_by : (place moment q : ℕ) (s : Stepped) (l : LiveRow) (old new : Row) (b : Bool) → (place == l.place) ≡ b → IsApart s → find_live q s.call.live ≡ Some l → row_in s.ledger.rows q ≡ Some old → is_some old.placed ≡ true → row_in (step.committed place moment s).ledger.rows q ≡ Some new → new.ended ≡ None → is_some (find_live q (kept_alone place s.call.live)) ≡ true
commit_by place moment q s l old new true t apart e there placed now none =
    let same : q ≡ place = sym (eqb-true place l.place t ∙ found_place q s.call.live l e) in
    ap is_some (find_alone q place s.call.live same ∙ e)
commit_by place moment q s l old new false t apart e there placed now none =
    absurd (cut_out q (Some place) s.ledger.entry moment (count_of s.tokens) s.ledger.links s.call.number s.ledger.rows (step.committed place moment s).ledger.rows s.call.live l old new (cut_by_commit place moment s apart) e (found_stands s.call.number s.ledger.rows q s.call.live l apart.tied e) t there placed now none)

held_commit : (place moment : ℕ) (s : Stepped) → IsApart s → RowsAreHeld s → RowsAreHeld (step.committed place moment s)
held_commit place moment s apart old = λ q new e out.
    let was : WasRow WasOutstanding (row_in s.ledger.rows q) new = like_from WasOutstanding (row_in s.ledger.rows q) (row_in (step.committed place moment s).ledger.rows q) new (commit_like place moment s q) e in
    let before : IsOutstanding s.call.number was.row = was_out s.call.number was.row new was.like out in
    let l : (row : LiveRow) × (find_live q s.call.live ≡ Some row) = found_of (find_live q s.call.live) (old q was.row was.there before) in
    commit_by place moment q s l.0 was.row new (place == l.0.place) refl apart l.1 was.there before.placed e out.ended

-- the end of a call
held_end : (why : EndCause) (moment : ℕ) (s : Stepped) → IsApart s → RowsAreHeld s → RowsAreHeld (step.ended_as why moment s)
held_end why moment s apart old = λ q new e out.
    let was : WasRow WasOutstanding (row_in s.ledger.rows q) new = like_from WasOutstanding (row_in s.ledger.rows q) (row_in (step.ended_as why moment s).ledger.rows q) new (all_cut WasOutstanding was_write None moment (count_of s.tokens) s.call.live s.ledger q) e in
    let before : IsOutstanding s.call.number was.row = was_out s.call.number was.row new was.like out in
    let l : (row : LiveRow) × (find_live q s.call.live ≡ Some row) = found_of (find_live q s.call.live) (old q was.row was.there before) in
    absurd (cut_out q None s.ledger.entry moment (count_of s.tokens) s.ledger.links s.call.number s.ledger.rows (step.ended_as why moment s).ledger.rows s.call.live l.0 was.row new (cut_by_end why moment s apart) l.1 (found_stands s.call.number s.ledger.rows q s.call.live l.0 apart.tied l.1) refl was.there before.placed e out.ended)

held_by_row : (place moment : ℕ) (s : Stepped) → IsApart s → RowsAreHeld s → RowsAreHeld (step.ended_by_row place moment s)
held_by_row place moment s apart old =
    held_end ends.Row moment (step.committed place moment s) (apart_chain.committed place moment s apart) (held_commit place moment s apart old)

-- a row that leaves the live ones as it ends
stamped_some : {X : Type 0} (x : X) (o : Option X) → stamped x o ≡ None → ⊥
stamped_some x None e = (cc)
stamped_some x (Some y) e = (cc)

ended_out : (rows : List Row) (l : LiveRow) (owner q : ℕ) (end : RowEnd) (new : Row) → IsStanding owner rows l → q ≡ l.place → row_in (changed_at (ended_row end) rows l.place) q ≡ Some new → new.ended ≡ None → ⊥
ended_out rows l owner q end new one same e none =
    let now : row_in (changed_at (ended_row end) rows l.place) l.place ≡ Some (ended_row end one.row) = row_changed_same (ended_row end) rows l.place one.row one.there in
    let both : Some (ended_row end one.row) ≡ Some new = sym now ∙ ap (λ (k : ℕ). row_in (changed_at (ended_row end) rows l.place) k) (sym same) ∙ e in
    let is : ended_row end one.row ≡ new = (cc) in
    stamped_some end one.row.ended (ap (λ (r : Row). r.ended) is ∙ none)

held_ended : (place : ℕ) (row : LiveRow) (end : RowEnd) (s : Stepped) → find_live place s.call.live ≡ Some row → IsApart s → RowsAreHeld s → RowsAreHeld (step.row_ended row.place end (left_live row.place s))
held_ended place row end s f apart old = λ q new e out.
    let was : WasRow WasOutstanding (row_in s.ledger.rows q) new =
    like_from WasOutstanding (row_in s.ledger.rows q) (row_in (changed_at (ended_row end) s.ledger.rows row.place) q) new (all_changed_at WasOutstanding was_write (ended_row end) (λ r. was_write.ended end r) s.ledger.rows row.place q) e in
    let found : is_some (find_live q s.call.live) ≡ true = old q was.row was.there (was_out s.call.number was.row new was.like out) in
    let off : q ≡ row.place → ⊥ = λ same. ended_out s.ledger.rows row s.call.number q end new (found_stands s.call.number s.ledger.rows place s.call.live row apart.tied f) same e out.ended in
    ap is_some (find_without q row.place s.call.live off) ∙ found

-- a row more, which isn't placed
held_by : (owner : ℕ) (live : List LiveRow) (x : LiveRow) (rows : List Row) (new row : Row) (q : ℕ) → new.placed ≡ None → IsOutstanding owner row → (row_in rows q ≡ Some row → is_some (find_live q live) ≡ true) → (row_in rows q ≡ Some row) ⊎ ((q ≡ length rows + 1) × (row ≡ new)) → is_some (find_live q (live ++ x ∷ [])) ≡ true
held_by owner live x rows new row q free out old (inl e) =
    let l : (r : LiveRow) × (find_live q live ≡ Some r) = found_of (find_live q live) (old e) in ap is_some (find_more q live x l.0 l.1)
held_by owner live x rows new row q free out old (inr both) =
    absurd (let bad : false ≡ true = sym (ap is_some free) ∙ ap (λ (r : Row). is_some r.placed) (sym both.1) ∙ out.placed in cc)

held_more : (number : ℕ) (why : _) (due : ℕ) (committed : Option ℕ) (s : Stepped) → RowsAreHeld s → RowsAreHeld (step.row_added number why due committed s)
held_more number why due committed s old = λ q row e out.
    held_by s.call.number s.call.live (record { place = next_place s.ledger; number = number; link = None }) s.ledger.rows (new_row s.call.number number why due committed) row q refl out (λ there. old q row there out)
    (row_split s.ledger.rows (new_row s.call.number number why due committed) q row e)

-- the end of a live row
held_closed : (place : ℕ) (row : LiveRow) (reported : EndNews) (end : RowEnd) (moment word : ℕ) (s : Stepped) (b : Bool) → find_live place s.call.live ≡ Some row → IsApart s → RowsAreHeld s → end.entry ≡ s.ledger.entry → s.call.attempts.committed ≡ None → RowsAreHeld (step.closed_if b row.place moment (with_judged row end (judged_of row end word (left_live row.place s).call (settled reported (left_live row.place s)).tokens) (settled reported (left_live row.place s))))
held_closed place row reported end moment word s b f apart old at free =
    let u : Stepped = left_live row.place s in
    let v : Stepped = settled reported u in
    let after : Judged = judged_of row end word u.call v.tokens in
    let w : Stepped = with_judged row end after v in
    let held : RowsAreHeld w = held_ended place row (record end { word = after.word }) s f apart old in
    let still : IsApart w = apart_chain.judged row end word v at (left_none row.place s.call.live) free (apart_chain.settled reported u (apart_chain.left row.place s apart)) in
    elim b as (λ c. RowsAreHeld (step.closed_if c row.place moment w)) [ true ↦ held_by_row row.place moment w still held | false ↦ held ]

held_counted : (place : ℕ) (row : LiveRow) (reported : EndNews) (moment word : ℕ) (s : Stepped) (o : Option ℕ) → s.call.attempts.committed ≡ o → find_live place s.call.live ≡ Some row → IsApart s → RowsAreHeld s → RowsAreHeld (if is_some o then step.ended_as ends.Row moment (step.row_ended row.place (row_end reported s.ledger.entry moment (count_of (settled reported (left_live row.place s)).tokens)) (settled reported (left_live row.place s))) else step.counted_free row (row_end reported s.ledger.entry moment (count_of (settled reported (left_live row.place s)).tokens)) moment word (settled reported (left_live row.place s)))
held_counted place row reported moment word s (Some p) c f apart old =
    let v : Stepped = settled reported (left_live row.place s) in
    let end : RowEnd = row_end reported s.ledger.entry moment (count_of v.tokens) in
    held_end ends.Row moment (step.row_ended row.place end v)
    (apart_chain.row_ended row.place end v refl (left_none row.place s.call.live) (apart_chain.settled reported (left_live row.place s) (apart_chain.left row.place s apart)))
    (held_ended place row end s f apart old)
held_counted place row reported moment word s None c f apart old =
    let v : Stepped = settled reported (left_live row.place s) in
    let end : RowEnd = row_end reported s.ledger.entry moment (count_of v.tokens) in
    held_closed place row reported end moment word s (judged_of row end word v.call v.tokens).closes f apart old refl c

held_live : (place : ℕ) (row : LiveRow) (reported : EndNews) (moment word : ℕ) (s : Stepped) (b : Bool) → find_live place s.call.live ≡ Some row → IsApart s → RowsAreHeld s → RowsAreHeld (if b then step.followed row reported moment (left_live row.place s) else step.counted row reported moment word (settled reported (left_live row.place s)))
held_live place row reported moment word s true f apart old =
    let u : Stepped = left_live row.place s in
    let end : RowEnd = row_end reported u.ledger.entry moment (count_of u.tokens) in
    held_more row.number _ moment (step.stamp_if (names row.place s.call.attempts.committed) s.ledger.entry) (step.row_ended row.place end u) (held_ended place row end s f apart old)
held_live place row reported moment word s false f apart old = held_counted place row reported moment word s s.call.attempts.committed refl f apart old

-- a placing
placed_by : (q : ℕ) (row : LiveRow) (place : ℕ) (at : Placed) (s : Stepped) (new : Row) (b : Bool) → (q == row.place) ≡ b → find_live place s.call.live ≡ Some row → RowsAreHeld s → row_in (changed_at (placed_row at) s.ledger.rows row.place) q ≡ Some new → IsOutstanding s.call.number new → is_some (find_live q s.call.live) ≡ true
placed_by q row place at s new true t f old e out =
    let here : q ≡ place = eqb-true q row.place t ∙ found_place place s.call.live row f in
    ap is_some (ap (λ (k : ℕ). find_live k s.call.live) here ∙ f)
placed_by q row place at s new false t f old e out =
    let off : row.place ≡ q → ⊥ = λ same. eqb-false q row.place t (sym same) in
    old q new (sym (row_changed_other (placed_row at) s.ledger.rows row.place q off) ∙ e) out

held_placed : (place : ℕ) (row : LiveRow) (at : Placed) (s : Stepped) → find_live place s.call.live ≡ Some row → RowsAreHeld s → RowsAreHeld (step.placed_row_live row at s)
held_placed place row at s f old = λ q new e out.
    find_linked q row.place at.link s.call.live ∙ placed_by q row place at s new (q == row.place) refl f old e out

held_by_last : (last : Option ℕ) (moment : ℕ) (s : Stepped) → IsApart s → RowsAreHeld s → RowsAreHeld (step.ended_by_last last moment s)
held_by_last None moment s apart old = old
held_by_last (Some last) moment s apart old =
    elim (has_none s.call.live) as (λ b. RowsAreHeld (if b then step.ended_by_row last moment s else s)) [ true ↦ held_by_row last moment s apart old | false ↦ old ]

held_head : (place : ℕ) (meta : List Field) (moment : ℕ) (s : Stepped) (b : Bool) → IsApart s → RowsAreHeld s → RowsAreHeld (step.with_head meta (if b then s else step.committed place moment (record s { call = record s.call { buffer = committed_buffer place s.call.buffer } })))
held_head place meta moment s true apart old = old
held_head place meta moment s false apart old =
    held_commit place moment (record s { call = record s.call { buffer = committed_buffer place s.call.buffer } }) (record { tied = apart.tied; apart = apart.apart }) old

held_message : (octets : List ℕ) (s : Stepped) (b : Bool) → RowsAreHeld s → RowsAreHeld (record s { call = (if b then record s.call { inbox = record s.call.inbox { messages = s.call.inbox.messages ++ octets ∷ [] } } else s.call) })
held_message octets s true old = old
held_message octets s false old = old

held_over : (over : Bool) (row : Option ℕ) (moment : ℕ) (s : Stepped) → IsApart s → RowsAreHeld s → RowsAreHeld (step.committed_over over row moment s)
held_over over None moment s apart old = old
held_over true (Some place) moment s apart old = held_commit place moment s apart old
held_over false (Some place) moment s apart old = old

pub held_moves : Moves (λ chosen. Unit {0}) (λ s row reported. Unit {0}) (λ moment s t. IsApart s → RowsAreHeld s → RowsAreHeld t)
held_moves = record {
  same = λ moment s apart old. old;
  configured = λ chosen moment s known e fresh apart old. old;
  over_limit = λ chosen moment s known e fresh apart old. held_end ends.Request moment (with_chosen chosen moment s) (record { tied = apart.tied; apart = apart.apart }) old;
  ended = λ why moment s by e apart old. held_end why moment s apart old;
  too_large = λ row moment s e apart old. held_end ends.Response moment s apart old;
  head = λ place row meta moment s e apart old. held_head place meta moment s (is_some s.call.attempts.committed) apart old;
  message = λ row octets moment s apart old. held_message octets s (is_committed_live row s.call) old;
  row_ended = λ place row reported moment word s e known apart old. held_live place row reported moment word s (is_followed s.call.attempts reported.cause reported.unseen) e apart old;
  placed = λ place row at s entry e free apart old. held_placed place row at s e old;
  refused = λ due moment s e passed tested apart old. held_by_last s.call.attempts.last moment (step.with_attempts (stopped_attempts s.call.attempts) s) (record { tied = apart.tied; apart = apart.apart }) old;
  made = λ due moment s e passed apart old. held_more _ _ due None s old;
  accepted = λ message moment s e room apart old.
      let row : Option ℕ = furthest s.call.buffer s.call.live in
      held_over (pushed_over s.call.buffer (framed message) row) row moment (record s { call = with_message message row s.call }) (record { tied = apart.tied; apart = apart.apart }) old;
}

pub held_new : (number : ℕ) (request : RequestSeen) (begun : ℕ) (ledger : Ledger) (tokens : Option Bucket) (acts : List CallAct) → ((place : ℕ) (row : Row) → row_in ledger.rows place ≡ Some row → row.call ≡ number → ⊥) → RowsAreHeld (step.lent (new_call number request begun) ledger tokens acts)
held_new number request begun ledger tokens acts fresh = λ place row e out. absurd (fresh place row e out.call)

-- what is done to other calls
pub held_elsewhere : (s : Stepped) (ledger : Ledger) → KeepsRows s.call.number ledger.rows s.ledger.rows → RowsAreHeld s → RowsAreHeld (record s { ledger = ledger })
held_elsewhere s ledger keeps old = λ place row e out.
    let was : IsKeptIn s.ledger.rows place row = keeps place row e out.call in
    old place was.row was.there (record { call = was.call ∙ out.call; placed = ap is_some was.placed ∙ out.placed; ended = was.ended ∙ out.ended })

-- so of a committed call every other row is over, and of one that ended every row
over_at : (q place : ℕ) (live : List LiveRow) → AllAt place live → is_some (find_live q live) ≡ true → Some place ≡ Some q
over_at q place live all found =
    let l : (row : LiveRow) × (find_live q live ≡ Some row) = found_of (find_live q live) found in
    ap (λ (k : ℕ). Some k) (sym (found_at place q live l.0 all l.1) ∙ found_place q live l.0 l.1)

pub held_committed : (place : ℕ) (s : Stepped) → IsKept s.call → RowsAreHeld s → s.call.attempts.committed ≡ Some place → RowsAreOverBut (Some place) s
held_committed place s kept held c = λ q row e out. over_at q place s.call.live (kept.committed place c).live (held q row e out)

pub held_ended_call : (s : Stepped) → IsKept s.call → RowsAreHeld s → is_some s.call.ended ≡ true → RowsAreOverBut None s
held_ended_call s kept held over = λ q row e out.
    absurd (let bad : false ≡ true = ap (λ (live : List LiveRow). is_some (find_live q live)) (sym (kept.ended over).live) ∙ held q row e out in cc)
