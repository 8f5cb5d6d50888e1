-- A call is committed, its other attempts are cut off, and their streams are reset: each of these is the next action.
use Rattle.std.proofs.Common.{◌≡◌, ◌||◌, ◌&&◌, ◌==◌, ◌∷◌, ◌++◌, ap, refl, subst, sym, ◌∙◌, Bool, true, false, List, [], Option, None, Some, ℕ, zero, suc, cond, filter, if◌then◌else◌, is_some, nat_lt, not, slice_get}
use Rattle.std.proofs.lemmas.Bool.{both_ways, eq-eqb, or_parts}
use Rattle.std.specs.List.{list_any}
use Rattle.std.specs.Option.{option_or}
use Rattle.std.specs.Prelude.{slice_set}
use Rattle.call_actions.specs.CallsApart.Apart.{IsBook}
use Rattle.call_actions.proofs.CallsApart.Kept.{over_same}
use Rattle.call_actions.proofs.CallsInTurn.Rows.{committing_keeps}
use Rattle.call_actions.specs.CallsInTurn.Turns.{StaysSteady, waits as waits_for}
use Rattle.call_cases.proofs.EndsFollow.Follow.{rest_on, rest_self}
use Rattle.call_cases.proofs.EndsFollow.Stays.{IsBase}
use Rattle.call_cases.proofs.EndsFollow.Steps.{call_number}
use Rattle.call_cases.proofs.CommitsFollow.Begun as begun
use Rattle.call_cases.proofs.CommitsFollow.Begun.{IsToCommit}
use Rattle.call_cases.proofs.CommitsFollow.Cuts.{IsOneCut, none_out, one_cut}
use Rattle.call_cases.proofs.CommitsFollow.Stays.{IsLeft, uncut}
use Rattle.call_cases.proofs.CommitsFollow.Steps.{IsMid, IsOneReset, IsReset, after_is, mid_cut, one_reset, reset_mid}
use Rattle.call_cases.specs.CommitsFollow.Laws.{CommitFollowsOn, CommitsFollow, IsNextToCommit, OthersAreCutOff, OthersAreOut, is_other_out}
use Rattle.call_cases.specs.EndsFollow.Cuts.{AttemptsAreCutOff, StreamsAreReset, cut_off}
use Rattle.call_cases.specs.EndsFollow.Laws.{IsSameRest, is_late}
use Rattle.session_actions.specs.Actions.{after, following}
use Rattle.session_actions.specs.AttemptEnds.{cut, cut_end, end_of, next_cut, next_reset, reset_code_of}
use Rattle.session_actions.specs.Attempts.{call_of, is_of, is_outstanding, wants_follower}
use Rattle.session_actions.specs.Commitments.{call_committed, with_commitment}
use Rattle.session_actions.specs.Entries.{entry}
use Rattle.session_actions.specs.Events.{is_loss}
use Rattle.session_actions.specs.Sessions.{Does, IsNext}
use Rattle.session_actions.specs.Words.{changed, changed_if, first_of, numbered}
use Rattle.session_actions.specs.declared.action.Action.{Action}
use Rattle.session_actions.specs.declared.action.Action.TheVariants as action
use Rattle.session_actions.specs.declared.action.CommitCause.{CommitCause}
use Rattle.session_actions.specs.declared.attempt.Attempt.{Attempt}
use Rattle.session_actions.specs.declared.call.Call.{Call}
use Rattle.session_actions.specs.declared.entry.OpenEntry.{OpenEntry}
use Rattle.session_actions.specs.declared.seen.Seen.{Seen}
use Rattle.session_order.proofs.Quiescence.{first_line_gives}
use Rattle.session_order.proofs.Changed.{passes_not}
use Rattle.session_order.proofs.Lines.{lines_are_still}
use Rattle.session_order.specs.Quiescent.{IsStill, is_to_cut, is_to_reset}
use Rattle.session_order.specs.Lines.{is_line, rank}
use Rattle.session_order.specs.declared.line.Line.{Line}
use Rattle.session_order.specs.declared.line.Line.TheVariants as line
use Rattle.call_actions.specs.TakeActions.Cuts.{AttemptsAreCut, next_cut_of}

does_on : (these those : List Action) (s t u : Seen) → Does these s t → Does those t u → Does (these ++ those) s u
does_on [] those s t u d e = subst (λ (v : Seen). Does those v u) d e
does_on (a ∷ these) those s t u d e = (d.0, does_on these those (after a s) t u d.1 e)

rest_cut : (n j : ℕ) (v : Seen) (act : Action) (o : OpenEntry) (one : IsOneCut n j v act o) → IsSameRest v (cut_off one.attempt v)
rest_cut n j v act o one =
    subst (IsSameRest v) (sym one.after_is)
    (record { entries = refl; setup = refl; asks = refl; policies = refl; subs = refl; configs = refl; runs = refl; answered = refl; shut = refl })

-- nothing comes before cuts; and nothing late before resets
pub before_cut : (loses : Bool) (m : Line) → nat_lt (rank loses m) (rank loses line.Cut) ≡ true → ⊥
before_cut loses line.Cut e = (cc)
before_cut loses line.Transparent e = (cc)
before_cut loses line.Inherited e = (cc)
before_cut loses line.Row e = (cc)
before_cut loses line.Final e = (cc)
before_cut loses line.Cancelled e = (cc)
before_cut loses line.Request e = (cc)
before_cut loses line.Overflow e = (cc)
before_cut loses line.Head e = (cc)
before_cut loses line.Response e = (cc)
before_cut loses line.Pick e = (cc)
before_cut loses line.Link e = (cc)
before_cut true line.WireEnd e = (cc)
before_cut false line.WireEnd e = (cc)
before_cut loses line.Reset e = (cc)
before_cut loses line.Shut e = (cc)
before_cut loses line.Retire e = (cc)
before_cut loses line.Begin e = (cc)
before_cut loses line.Give e = (cc)
before_cut loses line.Drop e = (cc)
before_cut loses line.Add e = (cc)

before_reset : (loses : Bool) (m : Line) → nat_lt (rank loses m) (rank loses line.Reset) ≡ true → (is_late m ≡ false) × (is_line m line.Reset ≡ false)
before_reset loses line.Cut e = (refl, refl)
before_reset loses line.Transparent e = (refl, refl)
before_reset loses line.Inherited e = (refl, refl)
before_reset loses line.Row e = (refl, refl)
before_reset loses line.Final e = (refl, refl)
before_reset loses line.Cancelled e = (refl, refl)
before_reset loses line.Request e = (refl, refl)
before_reset loses line.Overflow e = (refl, refl)
before_reset loses line.Head e = (refl, refl)
before_reset loses line.Response e = (refl, refl)
before_reset loses line.Pick e = (refl, refl)
before_reset loses line.Link e = (refl, refl)
before_reset true line.WireEnd e = absurd (cc)
before_reset false line.WireEnd e = (refl, refl)
before_reset loses line.Reset e = absurd (cc)
before_reset loses line.Shut e = absurd (cc)
before_reset loses line.Retire e = absurd (cc)
before_reset loses line.Begin e = absurd (cc)
before_reset loses line.Give e = absurd (cc)
before_reset loses line.Drop e = absurd (cc)
before_reset loses line.Add e = absurd (cc)

early_by : (w l : Bool) → (w ≡ true → l ≡ true) → l ≡ false → w ≡ false
early_by false l turn e = refl
early_by true l turn e = absurd (both_ways l e (turn refl))

-- the first of a list that gives something, where the others give nothing
first_by : (f : Attempt → Option Action) (x : Attempt) (xs : List Attempt) (own : Attempt → Bool) (b : Bool) → own x ≡ b → (b ≡ false → f x ≡ None)
    → first_of f xs ≡ first_of f (filter own xs) → option_or (f x) (first_of f xs) ≡ first_of f (cond b (x ∷ filter own xs) (filter own xs))
first_by f x xs own true e none rest = ap (option_or (f x)) rest
first_by f x xs own false e none rest = ap (λ (o : Option Action). option_or o (first_of f xs)) (none refl) ∙ rest

pub first_own : (f : Attempt → Option Action) (own : Attempt → Bool) (xs : List Attempt) → ((i : ℕ) (x : Attempt) → slice_get xs i ≡ Some x → own x ≡ false → f x ≡ None)
    → first_of f xs ≡ first_of f (filter own xs)
first_own f own [] none = refl
first_own f own (x ∷ xs) none =
    first_by f x xs own (own x) refl (λ e. none zero x refl e) (first_own f own xs (λ i y at e. none (suc i) y at e))

module _ (waits : Line → Bool) (late : (l : Line) → waits l ≡ true → is_late l ≡ true) (n : ℕ) (k : Attempt) (o : OpenEntry) (b : Seen) (base : IsBase n b)
    (goes : k.row.ended ≡ None) where
  early : (l : Line) → is_late l ≡ false → waits l ≡ false
  early l e = early_by (waits l) (is_late l) (late l) e

  -- the cuts
  cut_line : (v : Seen) → IsMid waits n k o b v → next_cut v ≡ next_cut_of n v
  cut_line v mid =
      first_own (cut v) (λ (a : Attempt). a.row.call == n) v.attempts
      (λ i x at off. ap (λ (q : Bool). if q then Some (action.AttemptEnds x.place (end_of x cut_end v)) else None) (uncut n k b v base goes mid.left (suc i) x at off))

  cut_follows : (v : Seen) (act : Action) → IsMid waits n k o b v → next_cut_of n v ≡ Some act → following v ≡ Some act
  cut_follows v act mid next =
      first_line_gives line.Cut act o v mid.current (λ m before. absurd (before_cut (is_loss o.event) m before)) (cut_line v mid ∙ next)

  pub record HasCut (v t : Seen) (cuts : List Action) : Type 0 where
    pub attempts : List Attempt
    pub all : attempts ≡ filter (is_other_out n k.row.number) v.attempts
    pub off : AttemptsAreCutOff attempts v t
    pub does : Does cuts v t
    pub reset : IsReset waits n k o b t
    pub steady : StaysSteady t n
    pub rest : IsSameRest v t

  still_after : (v : Seen) → IsMid waits n k o b v → next_cut v ≡ None → (l : Line) → is_line l line.Reset ≡ false → waits l ≡ false → IsStill l o v
  still_after v mid none l e w = by_line (is_line l line.Cut) refl
    where
      at_cut : (l : Line) → is_line l line.Cut ≡ true → IsStill l o v
      at_cut line.Cut f = (lines_are_still line.Cut o v).0 none
      at_cut line.Transparent f = absurd (cc)
      at_cut line.Inherited f = absurd (cc)
      at_cut line.Row f = absurd (cc)
      at_cut line.Final f = absurd (cc)
      at_cut line.Cancelled f = absurd (cc)
      at_cut line.Request f = absurd (cc)
      at_cut line.Overflow f = absurd (cc)
      at_cut line.Head f = absurd (cc)
      at_cut line.Response f = absurd (cc)
      at_cut line.Pick f = absurd (cc)
      at_cut line.Link f = absurd (cc)
      at_cut line.WireEnd f = absurd (cc)
      at_cut line.Reset f = absurd (cc)
      at_cut line.Shut f = absurd (cc)
      at_cut line.Retire f = absurd (cc)
      at_cut line.Begin f = absurd (cc)
      at_cut line.Give f = absurd (cc)
      at_cut line.Drop f = absurd (cc)
      at_cut line.Add f = absurd (cc)

      by_line : (q : Bool) → is_line l line.Cut ≡ q → IsStill l o v
      by_line true f = at_cut l f
      by_line false f = mid.still l f e w

  pub cut_walk : (cuts : List Action) (v t : Seen) → IsMid waits n k o b v → AttemptsAreCut n cuts v t → HasCut v t cuts
  cut_walk [] v t mid are =
      subst (λ (z : Seen). HasCut v z []) (sym are.1) (record {
        attempts = [];
        all = sym (none_out n k v mid.left.done v.attempts are.0);
        off = refl;
        does = refl;
        reset = record { current = mid.current; book = mid.book; left = mid.left; still = still_after v mid (cut_line v mid ∙ are.0) };
        steady = mid.steady;
        rest = rest_self v;
      })
  cut_walk (act ∷ cuts) v t mid are =
      let one : IsOneCut n k.row.number v act o = one_cut n k v act o mid.left.done mid.book.places mid.current are.0 in
      let u : Seen = cut_off one.attempt v in
      let rest : HasCut u t cuts
      = cut_walk cuts u t (mid_cut waits n k o b v base goes mid act one) (subst (λ (z : Seen). AttemptsAreCut n cuts z t) one.does are.1) in
      let next : IsNext act v
      = subst (λ (x : Action). IsNext x v) (sym one.act_is) (cut_follows v act mid are.0 ∙ ap (λ (x : Action). Some x) one.act_is) in
      record {
        attempts = one.attempt ∷ rest.attempts;
        all = ap (λ (xs : List Attempt). one.attempt ∷ xs) rest.all ∙ sym one.left;
        off = (one.out, rest.off);
        does = (next, subst (λ (z : Seen). Does cuts z t) (sym one.does) rest.does);
        reset = rest.reset;
        steady = rest.steady;
        rest = rest_on v u t (rest_cut n k.row.number v act o one) rest.rest;
      }

  -- the resets
  reset_follows : (v : Seen) (act : Action) → IsReset waits n k o b v → next_reset v ≡ Some act → following v ≡ Some act
  reset_follows v act mid next =
      first_line_gives line.Reset act o v mid.current
      (λ m before. let e = before_reset (is_loss o.event) m before in mid.still m e.1 (early m e.0)) next

  pub record HasReset (v u : Seen) (resets : List Action) : Type 0 where
    pub does : Does resets v u
    pub reset : IsReset waits n k o b u
    pub none : next_reset u ≡ None
    pub rest : IsSameRest v u

  pub reset_walk : (resets : List Action) (v u : Seen) → IsReset waits n k o b v → StreamsAreReset resets v u → HasReset v u resets
  reset_walk [] v u mid are =
      subst (λ (z : Seen). HasReset v z []) (sym are.1) (record { does = refl; reset = mid; none = are.0; rest = rest_self v })
  reset_walk (act ∷ resets) v u mid are =
      let one : IsOneReset n v act = one_reset waits n k o b v mid act are.0 in
      let after_one : IsReset waits n k o b (after act v)
      = subst (IsReset waits n k o b) (sym (after_is waits n k o b v base goes mid act one)) (reset_mid waits n k o b v base goes mid act one) in
      let rest : HasReset (after act v) u resets = reset_walk resets (after act v) u after_one are.1 in
      let next : IsNext act v
      = subst (λ (x : Action). IsNext x v) (sym one.act_is) (reset_follows v act mid are.0 ∙ ap (λ (x : Action). Some x) one.act_is) in
      let left : IsSameRest v (after act v)
      = subst (IsSameRest v) (sym (after_is waits n k o b v base goes mid act one))
      (record { entries = refl; setup = refl; asks = refl; policies = refl; subs = refl; configs = refl; runs = refl; answered = refl; shut = refl }) in
      record { does = (next, rest.does); reset = rest.reset; none = rest.none; rest = rest_on v (after act v) u left rest.rest }

-- where the call has just been committed
module _ (waits : Line → Bool) (n : ℕ) (why : CommitCause) (o : OpenEntry) (s : Seen) (is : IsNextToCommit waits n why o s) where
  abbrev first_ : IsToCommit n o s
  first_ = record { current = is.current; call = is.call; there = is.there; attempt = is.attempt; can = is.can; book = is.book; owned = is.owned; orders = is.orders }

  abbrev a : Attempt
  a = is.attempt

  abbrev c : Call
  c = is.call

  abbrev put : Attempt → Attempt
  put q = with_commitment (entry s) q

  abbrev pub k : Attempt
  k = begun.k n o s first_

  abbrev pub b : Seen
  b = begun.b n o s first_

  own_number : c.number ≡ n
  own_number = begun.own_number n o s first_

  pub goes : k.row.ended ≡ None
  goes = begun.goes n o s first_

  pub committed_is : call_committed a.place s ≡ b
  committed_is = begun.committed_is n o s first_

  after_commit : after (action.CallCommitted a.place why) s ≡ b
  after_commit = begun.after_commit n o s first_ why

  book_b : IsBook b
  book_b = begun.book_b n o s first_

  pub still_b : (l : Line) → is_line l line.Cut ≡ false → waits l ≡ false → IsStill l o b
  still_b l e w = subst (IsStill l o) committed_is (is.still l e w)

  quiet : (l : Line) → is_late l ≡ false → waits l ≡ false
  quiet l e = early_by (waits l) (is_late l) (is.late l) e

  over_other : (p : ℕ) (x : Attempt) → numbered b.attempts p ≡ Some x → (x.row.call == n) ≡ false → is_to_cut b x ≡ false
  over_other p x at off = over_by (numbered s.calls x.row.call) refl
    where
      there : numbered s.attempts p ≡ Some x
      there = begun.before n o s first_ p x at off

      over_by : (o : Option Call) → numbered s.calls x.row.call ≡ o → is_to_cut b x ≡ false
      over_by None e =
          absurd (both_ways (is_some (numbered s.calls x.row.call)) (ap (λ (q : Option Call). is_some q) e) (begun.all_at n o s first_ (λ (y : Attempt). is_some (call_of y s)) s.attempts p x is.owned there))
      over_by (Some d) e =
          let number : d.number ≡ x.row.call = call_number x.row.call s.calls d is.book.calls e in
          let own : numbered s.calls d.number ≡ Some d = ap (numbered s.calls) number ∙ e in
          let away : (d.number == n) ≡ false = ap (λ (m : ℕ). m == n) number ∙ off in
          ap (λ (q : Bool). is_outstanding x && q) (over_same s b d (begun.other_apart n o s first_ d own away) own x (eq-eqb x.row.call d.number (sym number)))
          ∙ passes_not (is_to_cut s) s.attempts p x is.uncut there

  pub base : IsBase n b
  base = record {
    numbers = λ m d at. call_number m b.calls d book_b.calls at;
    owned = λ p x at. begun.some_call n o s first_ x.row.call ∙ begun.call_of_row n o s first_ p x (p == a.place) refl at;
    marks = λ d at off. begun.marks_same n o s first_ d d.marks ∙ (is.orders d (sym (begun.same_call n o s first_ d.number off) ∙ at)).marks;
    row = still_b line.Row refl (quiet line.Row refl);
    final = still_b line.Final refl (quiet line.Final refl);
    followed = still_b line.Transparent refl (quiet line.Transparent refl);
    cut = over_other;
  }

  none_of : (x : Option ℕ) → is_some x ≡ false → x ≡ None
  none_of None e = refl
  none_of (Some m) e = absurd (cc)

  pub left : IsLeft n k b b
  left = record {
    done = begun.taken n o s first_;
    apart = λ d own off. record { call = refl; config = refl; attempts = refl; rows = λ p e. refl; throttle = refl };
    calls = λ m off. refl;
    rows = λ p x at off. at;
    codes = λ p x at off. none_of (reset_code_of b x) (passes_not (is_to_reset b) b.attempts p x (still_b line.Reset refl (quiet line.Reset refl)) at);
  }

  less : (p q : Bool) → q ≡ false → (p && q) ≡ false
  less true q e = e
  less false q e = refl

  quiescent_by : (xs : List Attempt) → list_any (λ (x : Attempt). wants_follower x s) xs ≡ false → list_any (waits_for s c) xs ≡ false
  quiescent_by [] e = refl
  quiescent_by (x ∷ xs) e =
      let parts : (wants_follower x s ≡ false) × (list_any (λ (y : Attempt). wants_follower y s) xs ≡ false)
      = or_parts (wants_follower x s) (list_any (λ (y : Attempt). wants_follower y s) xs) e in
      ap (λ (q : Bool). q || list_any (waits_for s c) xs) (less (is_of c x) (wants_follower x s) parts.0) ∙ quiescent_by xs parts.1

  pub steady : StaysSteady b n
  steady =
      let there : numbered s.calls c.number ≡ Some c = ap (numbered s.calls) own_number ∙ is.there in
      let book : IsBook (call_committed a.place s) = subst IsBook (sym committed_is) book_b in
      subst (StaysSteady b) own_number
      (subst (λ (z : Seen). StaysSteady z c.number) committed_is
      (committing_keeps s c a.place a book (record { own = there; there = is.can.at; mine = is.can.mine }) (record { turn = is.turn; quiescent = quiescent_by s.attempts is.unfollowed })))

  pub mid : IsMid waits n k o b b
  mid = record { current = is.current; book = book_b; left = left; steady = steady; still = λ l e f w. still_b l e w }

  rest_b : IsSameRest s b
  rest_b = record { entries = refl; setup = refl; asks = refl; policies = refl; subs = refl; configs = refl; runs = refl; answered = refl; shut = refl }

  -- the attempts that are cut off are those that were outstanding before the commitment
  out_set : (xs : List Attempt) (i : ℕ) → slice_get xs i ≡ Some a → filter (is_other_out n a.row.number) (slice_set xs i k) ≡ filter (is_other_out n a.row.number) xs
  out_set [] i at = refl
  out_set (x ∷ xs) zero at =
      let one : x ≡ a = (cc) in
      let off : is_other_out n a.row.number a ≡ false = never (a.row.call == n) (is_outstanding a) (a.row.number == a.row.number) (eq-eqb a.row.number a.row.number refl) in
      ap (λ (q : Bool). cond q (k ∷ filter (is_other_out n a.row.number) xs) (filter (is_other_out n a.row.number) xs)) off
      ∙ sym (ap (λ (q : Bool). cond q (x ∷ filter (is_other_out n a.row.number) xs) (filter (is_other_out n a.row.number) xs)) (ap (is_other_out n a.row.number) one ∙ off))
    where
      never : (p q r : Bool) → r ≡ true → (p && (q && not r)) ≡ false
      never true true true e = refl
      never true false true e = refl
      never false q true e = refl
      never p q false e = absurd (cc)
  out_set (x ∷ xs) (suc i) at =
      ap (λ (l : List Attempt). cond (is_other_out n a.row.number x) (x ∷ l) l) (out_set xs i at)

  out_by : (m : ℕ) → numbered s.attempts m ≡ Some a → filter (is_other_out n a.row.number) (changed put m s.attempts) ≡ filter (is_other_out n a.row.number) s.attempts
  out_by zero at = absurd (cc)
  out_by (suc i) at = ap (λ (o : Option Attempt). filter (is_other_out n a.row.number) (changed_if put (suc i) s.attempts o)) at ∙ out_set s.attempts i at

  pub all_out : (t : Seen) (cuts : List Action) → AttemptsAreCut n cuts (call_committed a.place s) t → OthersAreOut n a s t
  all_out t cuts are =
      let cut : HasCut waits is.late n k o b base goes b t cuts = cut_walk waits is.late n k o b base goes cuts b t mid (subst (λ (z : Seen). AttemptsAreCut n cuts z t) committed_is are) in
      record { attempts = cut.attempts; all = cut.all ∙ out_by a.place is.can.at; off = subst (λ (z : Seen). AttemptsAreCutOff cut.attempts z t) (sym committed_is) cut.off }

  module _ (t u : Seen) (cuts resets : List Action) (are : AttemptsAreCut n cuts (call_committed a.place s) t) (then_ : StreamsAreReset resets t u) where
    pub cut_all : HasCut waits is.late n k o b base goes b t cuts
    cut_all = cut_walk waits is.late n k o b base goes cuts b t mid (subst (λ (z : Seen). AttemptsAreCut n cuts z t) committed_is are)

    pub reset_all : HasReset waits is.late n k o b base goes t u resets
    reset_all = reset_walk waits is.late n k o b base goes resets t u cut_all.reset then_

    at_reset : (l : Line) → is_line l line.Reset ≡ true → IsStill l o u
    at_reset line.Reset f = (lines_are_still line.Reset o u).0 reset_all.none
    at_reset line.Cut f = absurd (cc)
    at_reset line.Transparent f = absurd (cc)
    at_reset line.Inherited f = absurd (cc)
    at_reset line.Row f = absurd (cc)
    at_reset line.Final f = absurd (cc)
    at_reset line.Cancelled f = absurd (cc)
    at_reset line.Request f = absurd (cc)
    at_reset line.Overflow f = absurd (cc)
    at_reset line.Head f = absurd (cc)
    at_reset line.Response f = absurd (cc)
    at_reset line.Pick f = absurd (cc)
    at_reset line.Link f = absurd (cc)
    at_reset line.WireEnd f = absurd (cc)
    at_reset line.Shut f = absurd (cc)
    at_reset line.Retire f = absurd (cc)
    at_reset line.Begin f = absurd (cc)
    at_reset line.Give f = absurd (cc)
    at_reset line.Drop f = absurd (cc)
    at_reset line.Add f = absurd (cc)

    still_by : (l : Line) (q : Bool) → is_line l line.Reset ≡ q → waits l ≡ false → IsStill l o u
    still_by l true e w = at_reset l e
    still_by l false e w = reset_all.reset.still l e w

    pub follows_on : CommitFollowsOn waits a.place why o s (cuts ++ resets) u
    follows_on = record {
      does = (is.next, subst (λ (z : Seen). Does (cuts ++ resets) z u) (sym after_commit) (does_on cuts resets b t u cut_all.does reset_all.does));
      current = reset_all.reset.current;
      still = λ l w. still_by l (is_line l line.Reset) refl w;
      rest = rest_on s b u rest_b (rest_on b t u cut_all.rest reset_all.rest);
    }

pub others_are_cut_off : OthersAreCutOff
others_are_cut_off waits n why o s t cuts is are = all_out waits n why o s is t cuts are

pub commits_follow : CommitsFollow
commits_follow waits n why o s t u cuts resets is are then_ = follows_on waits n why o s is t u cuts resets are then_
