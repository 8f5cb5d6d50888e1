-- The law of numbering holds whatever is done to a call.
use Rattle.std.proofs.Common.{◌≡◌, ◌≤◌, ◌<◌, ℕ, zero, suc, ◌+◌, Bool, true, false, not, ◌&&◌, ◌||◌, ◌==◌, nat_le, if◌then◌else◌, min, length, Option, Some, None, List, [], ◌∷◌, ◌++◌, map, refl, sym, ap, subst, ◌∙◌, arith, eq-eqb, append-nil}
use Rattle.std.proofs.Math.Dec.{eqb-suc-zero}
use Rattle.std.proofs.Math.Nat.{min-eq_left}
use Rattle.std.proofs.lemmas.Bool.{leb-false, ne_eqb}
use Rattle.std.specs.List.{filter}
use Rattle.std.specs.Option.{option_map, option_map_or}
use Rattle.grpc_base.specs.Requests.{RequestSeen}
use Rattle.grpc_base.specs.declared.plan.CallPlan.{CallPlan}
use Rattle.grpc_base.specs.declared.plan.CallPlan.TheVariants as plans
use Rattle.grpc_base.specs.declared.plan.Chosen.{Chosen}
use Rattle.grpc_base.specs.declared.plan.HedgePolicy.{HedgePolicy}
use Rattle.attempt_ledger.specs.declared.ledger.Ledger.{Ledger}
use Rattle.attempt_ledger.specs.declared.news.EndNews.{EndNews}
use Rattle.attempt_ledger.specs.declared.row.Row.{Row}
use Rattle.attempt_ledger.specs.declared.row.RowEnd.{RowEnd}
use Rattle.attempt_ledger.specs.declared.row.RowKind.{RowKind}
use Rattle.attempt_ledger.specs.declared.row.RowKind.TheVariants as kind
use Rattle.attempt_ledger.specs.Numbering.{is_transparent, kind_by_number, most_attempts}
use Rattle.attempt_ledger.specs.Numbering as numbering
use Rattle.hedge_core.specs.DueMoments as hedging
use Rattle.ledger_stamps.specs.Steps.{changed, changed_at, committed_row, ended_row, index_at, placed_row}
use Rattle.a6_numbers.specs.Throttling.{Bucket}
use Rattle.call_core.specs.declared.act.CallAct.{CallAct}
use Rattle.call_core.specs.declared.attempts.Attempts.{Attempts}
use Rattle.call_core.specs.declared.judge.Judged.{Judged}
use Rattle.call_core.specs.declared.live.LiveRow.{LiveRow}
use Rattle.call_core.specs.Numbering.{IsFresh, IsNumbered, attempts_in, is_attempt_of, number_and_kind, numbered}
use Rattle.call_core.specs.Parts.{count_of, cut_end, has_none, hedge_of, is_above, judged, kind_of_next, later_kind, names, next_forced, next_of_plan, plan_of, read_of, row_end, stopped_attempts}
use Rattle.call_core.specs.Steps as step
use Rattle.call_core.specs.Steps.{Stepped, call_plan, cut_all, cut_row, cut_unless, is_committed_live, judged_of, left_live, new_call, new_row, next_due, settled, stamp_if, with_chosen, with_judged, with_message}
use Rattle.call_core.proofs.Chains.{Chain, with_buffer}
use Rattle.call_core.proofs.Keeping.{not_stopped}

-- what happens to a row leaves what names it
pub record NamesStay (f : Row → Row) : Type 0 where
  pub call : (r : Row) → (f r).call ≡ r.call
  pub number : (r : Row) → (f r).number ≡ r.number
  pub kind : (r : Row) → (f r).kind ≡ r.kind

prefix : (x y : Row) (xs : List Row) (b : Bool) → number_and_kind y ≡ number_and_kind x → map number_and_kind (if b then y ∷ xs else xs) ≡ map number_and_kind (if b then x ∷ xs else xs)
prefix x y xs true e = ap (λ (p : ℕ × Option RowKind). p ∷ map number_and_kind xs) e
prefix x y xs false e = refl

same_attempt : (c : ℕ) (f : Row → Row) (r : Row) → NamesStay f → is_attempt_of c (f r) ≡ is_attempt_of c r
same_attempt c f r stay =
    ap (λ (n : ℕ). (n == c) && not (is_transparent (f r).kind)) (stay.call r) ∙ ap (λ (k : RowKind). (r.call == c) && not (is_transparent k)) (stay.kind r)

same_name : (f : Row → Row) (r : Row) → NamesStay f → number_and_kind (f r) ≡ number_and_kind r
same_name f r stay =
    ap (λ (n : ℕ). let p : ℕ × Option RowKind = (n, Some (f r).kind) in p) (stay.number r) ∙ ap (λ (k : RowKind). let p : ℕ × Option RowKind = (r.number, Some k) in p) (stay.kind r)

afterwards : (x : Row) (xs ys : List Row) (b : Bool) → map number_and_kind xs ≡ map number_and_kind ys → map number_and_kind (if b then x ∷ xs else xs) ≡ map number_and_kind (if b then x ∷ ys else ys)
afterwards x xs ys true e = ap (λ (l : List (ℕ × Option RowKind)). number_and_kind x ∷ l) e
afterwards x xs ys false e = e

attempts_changed : (c : ℕ) (f : Row → Row) (rows : List Row) (index : ℕ) → NamesStay f → attempts_in c (changed f rows index) ≡ attempts_in c rows
attempts_changed c f [] index stay = refl
attempts_changed c f (r ∷ rows) zero stay =
    ap (λ (b : Bool). map number_and_kind (if b then f r ∷ filter (is_attempt_of c) rows else filter (is_attempt_of c) rows)) (same_attempt c f r stay)
    ∙ prefix r (f r) (filter (is_attempt_of c) rows) (is_attempt_of c r) (same_name f r stay)
attempts_changed c f (r ∷ rows) (suc index) stay =
    afterwards r (filter (is_attempt_of c) (changed f rows index)) (filter (is_attempt_of c) rows) (is_attempt_of c r) (attempts_changed c f rows index stay)

attempts_index : (c : ℕ) (f : Row → Row) (rows : List Row) (index : Option ℕ) → NamesStay f → attempts_in c (option_map_or (λ i. changed f rows i) index rows) ≡ attempts_in c rows
attempts_index c f rows None stay = refl
attempts_index c f rows (Some index) stay = attempts_changed c f rows index stay

pub attempts_at : (c : ℕ) (f : Row → Row) (rows : List Row) (place : ℕ) → NamesStay f → attempts_in c (changed_at f rows place) ≡ attempts_in c rows
attempts_at c f rows place stay = attempts_index c f rows (index_at place (length rows)) stay

-- a row more
more_after : (x : Row) (xs ys : List Row) (l : List (ℕ × Option RowKind)) (b : Bool) → map number_and_kind xs ≡ map number_and_kind ys ++ l → map number_and_kind (if b then x ∷ xs else xs) ≡ map number_and_kind (if b then x ∷ ys else ys) ++ l
more_after x xs ys l true e = ap (λ (p : List (ℕ × Option RowKind)). number_and_kind x ∷ p) e
more_after x xs ys l false e = e

pub attempts_more : (c : ℕ) (rows : List Row) (r : Row) → attempts_in c (rows ++ r ∷ []) ≡ attempts_in c rows ++ attempts_in c (r ∷ [])
attempts_more c [] r = refl
attempts_more c (x ∷ rows) r =
    more_after x (filter (is_attempt_of c) (rows ++ r ∷ [])) (filter (is_attempt_of c) rows) (attempts_in c (r ∷ [])) (is_attempt_of c x) (attempts_more c rows r)

no_attempt : (r : Row) (b : Bool) → b ≡ false → map number_and_kind (if b then r ∷ [] else []) ≡ []
no_attempt r true e = absurd (cc)
no_attempt r false e = refl

one_attempt : (r : Row) (b : Bool) → b ≡ true → map number_and_kind (if b then r ∷ [] else []) ≡ number_and_kind r ∷ []
one_attempt r true e = refl
one_attempt r false e = absurd (cc)

-- cuts leave what names a row
ended_stays : (end : RowEnd) → NamesStay (ended_row end)
ended_stays end = record { call = λ r. refl; number = λ r. refl; kind = λ r. refl }

attempts_cut : (c moment : ℕ) (tokens : Option ℕ) (place : ℕ) (l : Ledger) (link : Option ℕ) → attempts_in c (cut_row moment tokens place l link).rows ≡ attempts_in c l.rows
attempts_cut c moment tokens place l None = refl
attempts_cut c moment tokens place l (Some link) =
    attempts_at c (ended_row (cut_end l.entry moment (read_of l.links link) tokens)) l.rows place (ended_stays (cut_end l.entry moment (read_of l.links link) tokens))

attempts_unless : (c : ℕ) (kept : Bool) (l m : Ledger) → attempts_in c m.rows ≡ attempts_in c l.rows → attempts_in c (if kept then l else m).rows ≡ attempts_in c l.rows
attempts_unless c true l m e = refl
attempts_unless c false l m e = e

attempts_all : (c : ℕ) (kept : Option ℕ) (moment : ℕ) (tokens : Option ℕ) (live : List LiveRow) (l : Ledger) → attempts_in c (cut_all kept moment tokens live l).rows ≡ attempts_in c l.rows
attempts_all c kept moment tokens [] l = refl
attempts_all c kept moment tokens (row ∷ live) l =
    attempts_all c kept moment tokens live (cut_unless kept moment tokens row l)
    ∙ attempts_unless c (names row.place kept) l (cut_row moment tokens row.place l row.link) (attempts_cut c moment tokens row.place l row.link)

-- a change that leaves the attempts as they are
numbered_like : (s t : Stepped) → t.call.number ≡ s.call.number → attempts_in s.call.number t.ledger.rows ≡ attempts_in s.call.number s.ledger.rows → t.call.chosen ≡ s.call.chosen → t.call.attempts.sent ≡ s.call.attempts.sent → (s.call.attempts.stopped ≡ true → t.call.attempts.stopped ≡ true) → IsNumbered s → IsNumbered t
numbered_like s t number rows chosen sent stopped old = record {
  attempts =
      ap (λ (n : ℕ). attempts_in n t.ledger.rows) number ∙ rows ∙ old.attempts
      ∙ sym (ap (λ (o : Option Chosen). numbered (plan_of o) t.call.attempts.sent) chosen ∙ ap (λ (n : ℕ). numbered (call_plan s.call) n) sent);
  most =
      subst (λ (n : ℕ). n ≤ most_attempts (call_plan t.call)) (sym sent)
      (subst (λ (o : Option Chosen). s.call.attempts.sent ≤ most_attempts (plan_of o)) (sym chosen) old.most);
  limit = subst (λ (o : Option Chosen). most_attempts (plan_of o) ≤ 4294967295) (sym chosen) old.limit;
  fresh = λ h.
      let o : IsFresh s.call.attempts = old.fresh (sym chosen ∙ h) in
      record { none = sent ∙ o.none; stopped = stopped o.stopped };
}

-- what an end means for the attempts
pub judged_sent : (plan : CallPlan) (a : Attempts) (number : ℕ) (is_alone : Bool) (end : RowEnd) (above : Bool) (word : ℕ) → (judged plan a number is_alone end above word).attempts.sent ≡ a.sent
judged_sent plans.None a number is_alone end above word = refl
judged_sent (plans.Retry policy) a number is_alone end above word = refl
judged_sent (plans.Hedge policy) a number is_alone end above word = refl

pub judged_stopped : (plan : CallPlan) (a : Attempts) (number : ℕ) (is_alone : Bool) (end : RowEnd) (above : Bool) (word : ℕ) → a.stopped ≡ true → (judged plan a number is_alone end above word).attempts.stopped ≡ true
judged_stopped plans.None a number is_alone end above word e = e
judged_stopped (plans.Retry policy) a number is_alone end above word e = e
judged_stopped (plans.Hedge policy) a number is_alone end above word e = ap (λ (b : Bool). b || hedging.stops policy end above) e

-- a transparent retry is no attempt
and_false : (b : Bool) → (b && false) ≡ false
and_false true = refl
and_false false = refl

transparent_none : (c : ℕ) (row : Row) → row.kind ≡ kind.Transparent → attempts_in c (row ∷ []) ≡ []
transparent_none c row e =
    no_attempt row (is_attempt_of c row) (ap (λ (k : RowKind). (row.call == c) && not (is_transparent k)) e ∙ and_false (row.call == c))

followed_attempts_same : (row : LiveRow) (reported : EndNews) (moment : ℕ) (s : Stepped) → attempts_in s.call.number (step.followed row reported moment s).ledger.rows ≡ attempts_in s.call.number s.ledger.rows
followed_attempts_same row reported moment s =
    let c : ℕ = s.call.number in
    let end : RowEnd = row_end reported s.ledger.entry moment (count_of s.tokens) in
    let rows : List Row = changed_at (ended_row end) s.ledger.rows row.place in
    let new : Row = new_row c row.number kind.Transparent moment (stamp_if (names row.place s.call.attempts.committed) s.ledger.entry) in
    attempts_more c rows new ∙ ap (λ (l : List (ℕ × Option RowKind)). attempts_in c rows ++ l) (transparent_none c new refl)
    ∙ append-nil (attempts_in c rows) ∙ attempts_at c (ended_row end) s.ledger.rows row.place (ended_stays end)

-- an attempt more
or_true : (b : Bool) → (b || true) ≡ true
or_true true = refl
or_true false = refl

below_forced : (most sent : ℕ) (forced : Option ℕ) (due : ℕ) (stopped full b : Bool) → full ≡ b → (if stopped || full then None else forced) ≡ Some due → b ≡ false
below_forced most sent forced due stopped full false e h = refl
below_forced most sent forced due true full true e h = absurd (cc)
below_forced most sent forced due false full true e h =
    let no : None ≡ Some due = subst (λ (t : Bool). (if t then None else forced) ≡ Some due) e h in absurd (cc)

below_hedge : (policy : HedgePolicy) (a : Attempts) (due : ℕ) (b : Bool) → nat_le policy.max a.sent ≡ b → hedging.next_due policy (hedge_of a) ≡ Some due → b ≡ false
below_hedge policy a due false e h = refl
below_hedge policy a due true e h =
    let full : hedging.is_over policy (hedge_of a) ≡ true =
    ap (λ (t : Bool). a.stopped || (a.sent == 0) || t) e ∙ or_true (a.stopped || (a.sent == 0)) in
    let no : None ≡ Some due = subst (λ (t : Bool). (if t then None else option_map_or (λ forced. Some forced) a.forced (option_map (λ placed. placed + policy.delay) a.placed)) ≡ Some due) full h in absurd (cc)

below_by_sent : (policy : HedgePolicy) (a : Attempts) (due : ℕ) (b : Bool) → (if b then next_forced policy.max a else hedging.next_due policy (hedge_of a)) ≡ Some due → nat_le policy.max a.sent ≡ false
below_by_sent policy a due true h = below_forced policy.max a.sent a.forced due a.stopped (nat_le policy.max a.sent) (nat_le policy.max a.sent) refl h
below_by_sent policy a due false h = below_hedge policy a due (nat_le policy.max a.sent) refl h

pub below_most : (plan : CallPlan) (a : Attempts) (due : ℕ) → next_of_plan plan a ≡ Some due → nat_le (most_attempts plan) a.sent ≡ false
below_most plans.None a due h = below_forced 1 a.sent a.forced due a.stopped (nat_le 1 a.sent) (nat_le 1 a.sent) refl h
below_most (plans.Retry policy) a due h = below_forced policy.max a.sent a.forced due a.stopped (nat_le policy.max a.sent) (nat_le policy.max a.sent) refl h
below_most (plans.Hedge policy) a due h = below_by_sent policy a due (a.sent == 0) h

pub not_transparent : (plan : CallPlan) (b : Bool) → is_transparent (if b then kind.First else later_kind plan) ≡ false
not_transparent plan true = refl
not_transparent plans.None false = refl
not_transparent (plans.Retry policy) false = refl
not_transparent (plans.Hedge policy) false = refl

-- the second and later numbers
later_number : (n : ℕ) → (suc (suc n) == 1) ≡ false
later_number n = ne_eqb (suc (suc n)) 1 (λ e. let no : ⊥ = omega (arith, e) in no)

kind_later : (plan : CallPlan) (n : ℕ) → suc n < most_attempts plan → Some (later_kind plan) ≡ numbering.later_kind plan
kind_later plans.None n h = absurd (let no : ⊥ = omega (arith, h) in no)
kind_later (plans.Retry policy) n h = refl
kind_later (plans.Hedge policy) n h = refl

kind_at : (plan : CallPlan) (n : ℕ) → n < most_attempts plan → Some (if n == 0 then kind.First else later_kind plan) ≡ kind_by_number plan (suc n)
kind_at plan zero h = refl
kind_at plan (suc n) h =
    ap (λ (b : Bool). Some (if b then kind.First else later_kind plan)) (eqb-suc-zero n) ∙ kind_later plan n h
    ∙ sym (ap (λ (b : Bool). if b then Some kind.First else numbering.later_kind plan) (later_number n))

made_numbered : (due : ℕ) (s : Stepped) → next_due s.call ≡ Some due → IsNumbered s → IsNumbered (step.made due s)
made_numbered due s h old =
    let c : ℕ = s.call.number in
    let plan : CallPlan = call_plan s.call in
    let n : ℕ = s.call.attempts.sent in
    let below : n < most_attempts plan = leb-false (most_attempts plan) n (below_most plan s.call.attempts due h) in
    let limit : most_attempts plan ≤ 4294967295 = old.limit in
    let small : n + 1 ≤ 4294967295 = omega (arith, below, limit) in
    let up : suc n ≡ n + 1 = omega arith in
    let number : min (n + 1) 4294967295 ≡ suc n = min-eq_left small ∙ sym up in
    let why : RowKind = kind_of_next plan s.call.attempts in
    let new : Row = new_row c (min (n + 1) 4294967295) why due None in
    let is_one : is_attempt_of c new ≡ true =
    ap (λ (b : Bool). b && not (is_transparent why)) (eq-eqb c c refl) ∙ ap not (not_transparent plan (n == 0)) in
    let named : number_and_kind new ≡ (suc n, kind_by_number plan (suc n)) =
    ap (λ (k : ℕ). let p : ℕ × Option RowKind = (k, Some why) in p) number ∙ ap (λ (o : Option RowKind). let p : ℕ × Option RowKind = (suc n, o) in p) (kind_at plan n below) in
    record {
      attempts =
          attempts_more c s.ledger.rows new ∙ ap (λ (l : List (ℕ × Option RowKind)). attempts_in c s.ledger.rows ++ l) (one_attempt new (is_attempt_of c new) is_one ∙ ap (λ (p : ℕ × Option RowKind). p ∷ []) named)
          ∙ ap (λ (l : List (ℕ × Option RowKind)). l ++ (suc n, kind_by_number plan (suc n)) ∷ []) old.attempts
          ∙ ap (λ (k : ℕ). numbered plan k) (sym number);
      most = subst (λ (k : ℕ). k ≤ most_attempts plan) (sym number) (omega (arith, below));
      limit = limit;
      fresh = λ e.
          let o : IsFresh s.call.attempts = old.fresh e in
          let no : true ≡ false = sym o.stopped ∙ not_stopped plan s.call.attempts due h in absurd (cc);
    }

chosen_numbered : (chosen : Chosen) (moment : ℕ) (s : Stepped) → most_attempts chosen.plan ≤ 4294967295 → s.call.chosen ≡ None → IsNumbered s → IsNumbered (with_chosen chosen moment s)
chosen_numbered chosen moment s limit fresh old =
    let none : s.call.attempts.sent ≡ 0 = (old.fresh fresh).none in
    record {
      attempts = old.attempts ∙ ap (λ (k : ℕ). numbered (call_plan s.call) k) none ∙ sym (ap (λ (k : ℕ). numbered chosen.plan k) none);
      most = subst (λ (k : ℕ). k ≤ most_attempts chosen.plan) (sym none) (omega arith);
      limit = limit;
      fresh = λ h. absurd (cc);
    }

numbered_message : (row : ℕ) (octets : List ℕ) (s : Stepped) (b : Bool) → IsNumbered s → IsNumbered (record s { call = (if b then record s.call { inbox = record s.call.inbox { messages = s.call.inbox.messages ++ octets ∷ [] } } else s.call) })
numbered_message row octets s true old =
    numbered_like s (record s { call = record s.call { inbox = record s.call.inbox { messages = s.call.inbox.messages ++ octets ∷ [] } } }) refl refl refl refl (λ e. e) old
numbered_message row octets s false old = old

-- the parts of all steps
pub numbered_chain : Chain (λ s t. IsNumbered s → IsNumbered t)
numbered_chain = record {
  same = λ s old. old;
  joined = λ a b c first second old. second (first old);
  committed = λ place moment s old.
      numbered_like s (step.committed place moment s) refl
      (attempts_all s.call.number (Some place) moment (count_of s.tokens) s.call.live (step.commit_stamped place s.ledger)
      ∙ attempts_at s.call.number (committed_row s.ledger.entry) s.ledger.rows place (record { call = λ r. refl; number = λ r. refl; kind = λ r. refl }))
      refl refl (λ e. refl) old;
  ended = λ why moment s old.
      numbered_like s (step.ended_as why moment s) refl (attempts_all s.call.number None moment (count_of s.tokens) s.call.live s.ledger) refl refl (λ e. refl) old;
  followed = λ row reported moment s gone old. numbered_like s (step.followed row reported moment s) refl (followed_attempts_same row reported moment s) refl refl (λ e. e) old;
  row_ended = λ place end s at gone old. numbered_like s (step.row_ended place end s) refl (attempts_at s.call.number (ended_row end) s.ledger.rows place (ended_stays end)) refl refl (λ e. e) old;
  judged = λ row end word s at gone free old.
      let after : Judged = judged_of row end word s.call s.tokens in
      let last : RowEnd = record end { word = after.word } in
      numbered_like s (with_judged row end after s) refl
      (attempts_at s.call.number (ended_row last) s.ledger.rows row.place (ended_stays last))
      refl (judged_sent (call_plan s.call) s.call.attempts row.number (has_none s.call.live) end (is_above s.tokens) word)
      (judged_stopped (call_plan s.call) s.call.attempts row.number (has_none s.call.live) end (is_above s.tokens) word) old;
  left = λ place s old. numbered_like s (left_live place s) refl refl refl refl (λ e. e) old;
  settled = λ reported s old. numbered_like s (settled reported s) refl refl refl refl (λ e. e) old;
  buffered = λ b s old. numbered_like s (with_buffer b s) refl refl refl refl (λ e. e) old;
  head = λ meta s old. numbered_like s (step.with_head meta s) refl refl refl refl (λ e. e) old;
  message = λ row octets s old. numbered_message row octets s (is_committed_live row s.call) old;
  chosen = λ chosen moment s limit live fresh old. chosen_numbered chosen moment s limit fresh old;
  placed = λ place row at s e found link old.
      numbered_like s (step.placed_row_live row at s) refl
      (attempts_at s.call.number (placed_row at) s.ledger.rows row.place (record { call = λ r. refl; number = λ r. refl; kind = λ r. refl })) refl refl (λ x. x) old;
  stopped = λ s old. numbered_like s (step.with_attempts (stopped_attempts s.call.attempts) s) refl refl refl refl (λ e. refl) old;
  made = λ due s h old. made_numbered due s h old;
  sent = λ message row s old. numbered_like s (record s { call = with_message message row s.call }) refl refl refl refl (λ e. e) old;
}

pub numbered_new : (number : ℕ) (request : RequestSeen) (begun : ℕ) (ledger : Ledger) (tokens : Option Bucket) (acts : List CallAct) → attempts_in number ledger.rows ≡ [] → IsNumbered (step.lent (new_call number request begun) ledger tokens acts)
numbered_new number request begun ledger tokens acts e = record {
  attempts = e;
  most = (omega arith);
  limit = (omega arith);
  fresh = λ h. record { none = refl; stopped = refl };
}

-- what is done to other calls
pub numbered_elsewhere : (s : Stepped) (ledger : Ledger) → attempts_in s.call.number ledger.rows ≡ attempts_in s.call.number s.ledger.rows → IsNumbered s → IsNumbered (record s { ledger = ledger })
numbered_elsewhere s ledger e old = numbered_like s (record s { ledger = ledger }) refl e refl refl (λ h. h) old
