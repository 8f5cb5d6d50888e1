-- A call ends, its attempts are cut off, and their streams are reset: each of these is the next action.
use Rattle.std.proofs.Common.{◌≡◌, ◌||◌, ◌&&◌, ◌==◌, ◌∷◌, ◌++◌, ap, refl, subst, sym, ◌∙◌, Bool, true, false, List, [], Option, None, Some, ℕ, zero, suc, cond, filter, if◌then◌else◌, is_some, nat_lt, option_map, slice_get}
use Rattle.std.proofs.lemmas.Bool.{and_parts, both_ways, eqb-false, or_parts}
use Rattle.std.specs.List.{list_all, list_any}
use Rattle.std.specs.Option.{option_or}
use Rattle.call_actions.proofs.CallsApart.Books.{books_stay}
use Rattle.call_actions.specs.CallsApart.Apart.{IsBook}
use Rattle.call_actions.proofs.CallsInTurn.Posts.{ends_keep}
use Rattle.call_actions.specs.CallsInTurn.Turns.{StaysInOrder, StaysSteady, waits as waits_for}
use Rattle.call_cases.proofs.EndsFollow.Cuts.{IsOneCut, none_out, one_cut}
use Rattle.call_cases.proofs.EndsFollow.Stays.{IsBase, IsLeft, uncut}
use Rattle.call_cases.proofs.EndsFollow.Steps.{IsMid, IsOneReset, IsReset, after_is, call_number, mid_cut, one_reset, reset_mid}
use Rattle.call_cases.specs.EndsFollow.Cuts.{AttemptsAreCutOff, StreamsAreReset, cut_off}
use Rattle.call_cases.specs.EndsFollow.Laws.{AreAllOut, CutsAreOut, EndsFollow, FollowsOn, IsNextToEnd, IsSameRest, is_late, is_out_of}
use Rattle.grpc_base.specs.declared.event.EndCause.{EndCause}
use Rattle.session_actions.specs.Actions.{after, after_if, following}
use Rattle.session_actions.specs.AttemptEnds.{cut, cut_end, end_of, next_cut, next_reset, reset_code_of}
use Rattle.session_actions.specs.Attempts.{call_of, is_of, is_outstanding, is_over, is_over_in, wants_follower}
use Rattle.session_actions.specs.CallEnds.{call_ended}
use Rattle.session_actions.specs.Events.{is_loss}
use Rattle.session_actions.specs.Sessions.{Does, IsNext}
use Rattle.session_actions.specs.Words.{changed, first_of, holds, numbered}
use Rattle.session_actions.specs.declared.action.Action.{Action}
use Rattle.session_actions.specs.declared.action.Action.TheVariants as action
use Rattle.session_actions.specs.declared.attempt.Attempt.{Attempt}
use Rattle.session_actions.specs.declared.call.Call.{Call}
use Rattle.session_actions.specs.declared.entry.OpenEntry.{OpenEntry}
use Rattle.session_actions.specs.declared.seen.Seen.{Seen}
use Rattle.session_order.proofs.Quiescence.{first_line_gives}
use Rattle.session_order.proofs.Changed.{changed_away, changed_map, lookup, passes_not}
use Rattle.session_order.proofs.Lines.{lines_are_still}
use Rattle.session_order.specs.Quiescent.{IsStill, is_to_cut, is_to_reset}
use Rattle.session_order.specs.Lines.{is_line, rank}
use Rattle.session_order.specs.declared.line.Line.{Line}
use Rattle.session_order.specs.declared.line.Line.TheVariants as line
use Rattle.call_actions.specs.TakeActions.Cuts.{AttemptsAreCut, next_cut_of}

-- lists of actions, one after the other
does_on : (these those : List Action) (s t u : Seen) → Does these s t → Does those t u → Does (these ++ those) s u
does_on [] those s t u d e = subst (λ (v : Seen). Does those v u) d e
does_on (a ∷ these) those s t u d e = (d.0, does_on these those (after a s) t u d.1 e)

-- what is left of the rest
pub rest_self : (s : Seen) → IsSameRest s s
rest_self s = record { entries = refl; setup = refl; asks = refl; policies = refl; subs = refl; configs = refl; runs = refl; answered = refl; shut = refl }

pub rest_on : (s t u : Seen) → IsSameRest s t → IsSameRest t u → IsSameRest s u
rest_on s t u one two = record {
  entries = two.entries ∙ one.entries;
  setup = two.setup ∙ one.setup;
  asks = two.asks ∙ one.asks;
  policies = two.policies ∙ one.policies;
  subs = two.subs ∙ one.subs;
  configs = two.configs ∙ one.configs;
  runs = two.runs ∙ one.runs;
  answered = two.answered ∙ one.answered;
  shut = two.shut ∙ one.shut;
}

rest_cut : (n : ℕ) (v : Seen) (act : Action) (o : OpenEntry) (one : IsOneCut n v act o) → IsSameRest v (cut_off one.attempt v)
rest_cut n v act o one =
    subst (IsSameRest v) (sym one.after_is)
    (record { entries = refl; setup = refl; asks = refl; policies = refl; subs = refl; configs = refl; runs = refl; answered = refl; shut = refl })

-- nothing comes before cuts; and nothing late before resets
before_cut : (loses : Bool) (m : Line) → nat_lt (rank loses m) (rank loses line.Cut) ≡ true → ⊥
before_cut loses line.Cut e = (cc)
before_cut loses line.Transparent e = (cc)
before_cut loses line.Inherited e = (cc)
before_cut loses line.Row e = (cc)
before_cut loses line.Final e = (cc)
before_cut loses line.Cancelled e = (cc)
before_cut loses line.Request e = (cc)
before_cut loses line.Overflow e = (cc)
before_cut loses line.Head e = (cc)
before_cut loses line.Response e = (cc)
before_cut loses line.Pick e = (cc)
before_cut loses line.Link e = (cc)
before_cut true line.WireEnd e = (cc)
before_cut false line.WireEnd e = (cc)
before_cut loses line.Reset e = (cc)
before_cut loses line.Shut e = (cc)
before_cut loses line.Retire e = (cc)
before_cut loses line.Begin e = (cc)
before_cut loses line.Give e = (cc)
before_cut loses line.Drop e = (cc)
before_cut loses line.Add e = (cc)

before_reset : (loses : Bool) (m : Line) → nat_lt (rank loses m) (rank loses line.Reset) ≡ true → (is_late m ≡ false) × (is_line m line.Reset ≡ false)
before_reset loses line.Cut e = (refl, refl)
before_reset loses line.Transparent e = (refl, refl)
before_reset loses line.Inherited e = (refl, refl)
before_reset loses line.Row e = (refl, refl)
before_reset loses line.Final e = (refl, refl)
before_reset loses line.Cancelled e = (refl, refl)
before_reset loses line.Request e = (refl, refl)
before_reset loses line.Overflow e = (refl, refl)
before_reset loses line.Head e = (refl, refl)
before_reset loses line.Response e = (refl, refl)
before_reset loses line.Pick e = (refl, refl)
before_reset loses line.Link e = (refl, refl)
before_reset true line.WireEnd e = absurd (cc)
before_reset false line.WireEnd e = (refl, refl)
before_reset loses line.Reset e = absurd (cc)
before_reset loses line.Shut e = absurd (cc)
before_reset loses line.Retire e = absurd (cc)
before_reset loses line.Begin e = absurd (cc)
before_reset loses line.Give e = absurd (cc)
before_reset loses line.Drop e = absurd (cc)
before_reset loses line.Add e = absurd (cc)

early_by : (w l : Bool) → (w ≡ true → l ≡ true) → l ≡ false → w ≡ false
early_by false l turn e = refl
early_by true l turn e = absurd (both_ways l e (turn refl))

-- the first of a list that gives something, where the others give nothing
first_by : (f : Attempt → Option Action) (x : Attempt) (xs : List Attempt) (own : Attempt → Bool) (b : Bool) → own x ≡ b → (b ≡ false → f x ≡ None)
    → first_of f xs ≡ first_of f (filter own xs) → option_or (f x) (first_of f xs) ≡ first_of f (cond b (x ∷ filter own xs) (filter own xs))
first_by f x xs own true e none rest = ap (option_or (f x)) rest
first_by f x xs own false e none rest = ap (λ (o : Option Action). option_or o (first_of f xs)) (none refl) ∙ rest

first_own : (f : Attempt → Option Action) (own : Attempt → Bool) (xs : List Attempt) → ((i : ℕ) (x : Attempt) → slice_get xs i ≡ Some x → own x ≡ false → f x ≡ None)
    → first_of f xs ≡ first_of f (filter own xs)
first_own f own [] none = refl
first_own f own (x ∷ xs) none =
    first_by f x xs own (own x) refl (λ e. none zero x refl e) (first_own f own xs (λ i y at e. none (suc i) y at e))

module _ (waits : Line → Bool) (late : (l : Line) → waits l ≡ true → is_late l ≡ true) (n : ℕ) (o : OpenEntry) (b : Seen) (base : IsBase n b) where
  early : (l : Line) → is_late l ≡ false → waits l ≡ false
  early l e = early_by (waits l) (is_late l) (late l) e

  -- the cuts
  cut_line : (v : Seen) → IsMid waits n o b v → next_cut v ≡ next_cut_of n v
  cut_line v mid =
      first_own (cut v) (λ (a : Attempt). a.row.call == n) v.attempts
      (λ i x at off. ap (λ (q : Bool). if q then Some (action.AttemptEnds x.place (end_of x cut_end v)) else None) (uncut n b v base mid.left (suc i) x at off))

  cut_follows : (v : Seen) (act : Action) → IsMid waits n o b v → next_cut_of n v ≡ Some act → following v ≡ Some act
  cut_follows v act mid next =
      first_line_gives line.Cut act o v mid.current (λ m before. absurd (before_cut (is_loss o.event) m before)) (cut_line v mid ∙ next)

  pub record HasCut (v t : Seen) (cuts : List Action) : Type 0 where
    pub attempts : List Attempt
    pub all : attempts ≡ filter (is_out_of n) v.attempts
    pub off : AttemptsAreCutOff attempts v t
    pub does : Does cuts v t
    pub reset : IsReset waits n o b t
    pub steady : StaysSteady t n
    pub rest : IsSameRest v t

  still_after : (v : Seen) → IsMid waits n o b v → next_cut v ≡ None → (l : Line) → is_line l line.Reset ≡ false → waits l ≡ false → IsStill l o v
  still_after v mid none l e w = by_line (is_line l line.Cut) refl
    where
      at_cut : (l : Line) → is_line l line.Cut ≡ true → IsStill l o v
      at_cut line.Cut f = (lines_are_still line.Cut o v).0 none
      at_cut line.Transparent f = absurd (cc)
      at_cut line.Inherited f = absurd (cc)
      at_cut line.Row f = absurd (cc)
      at_cut line.Final f = absurd (cc)
      at_cut line.Cancelled f = absurd (cc)
      at_cut line.Request f = absurd (cc)
      at_cut line.Overflow f = absurd (cc)
      at_cut line.Head f = absurd (cc)
      at_cut line.Response f = absurd (cc)
      at_cut line.Pick f = absurd (cc)
      at_cut line.Link f = absurd (cc)
      at_cut line.WireEnd f = absurd (cc)
      at_cut line.Reset f = absurd (cc)
      at_cut line.Shut f = absurd (cc)
      at_cut line.Retire f = absurd (cc)
      at_cut line.Begin f = absurd (cc)
      at_cut line.Give f = absurd (cc)
      at_cut line.Drop f = absurd (cc)
      at_cut line.Add f = absurd (cc)

      by_line : (q : Bool) → is_line l line.Cut ≡ q → IsStill l o v
      by_line true f = at_cut l f
      by_line false f = mid.still l f e w

  pub cut_walk : (cuts : List Action) (v t : Seen) → IsMid waits n o b v → AttemptsAreCut n cuts v t → HasCut v t cuts
  cut_walk [] v t mid are =
      subst (λ (z : Seen). HasCut v z []) (sym are.1) (record {
        attempts = [];
        all = sym (none_out n v mid.left.done v.attempts are.0);
        off = refl;
        does = refl;
        reset = record { current = mid.current; book = mid.book; left = mid.left; still = still_after v mid (cut_line v mid ∙ are.0) };
        steady = mid.steady;
        rest = rest_self v;
      })
  cut_walk (act ∷ cuts) v t mid are =
      let one : IsOneCut n v act o = one_cut n v act o mid.left.done mid.book.places mid.current are.0 in
      let u : Seen = cut_off one.attempt v in
      let rest : HasCut u t cuts
      = cut_walk cuts u t (mid_cut waits n o b v base mid act one) (subst (λ (z : Seen). AttemptsAreCut n cuts z t) one.does are.1) in
      let next : IsNext act v
      = subst (λ (x : Action). IsNext x v) (sym one.act_is) (cut_follows v act mid are.0 ∙ ap (λ (x : Action). Some x) one.act_is) in
      record {
        attempts = one.attempt ∷ rest.attempts;
        all = ap (λ (xs : List Attempt). one.attempt ∷ xs) rest.all ∙ sym one.left;
        off = (one.out, rest.off);
        does = (next, subst (λ (z : Seen). Does cuts z t) (sym one.does) rest.does);
        reset = rest.reset;
        steady = rest.steady;
        rest = rest_on v u t (rest_cut n v act o one) rest.rest;
      }

  -- the resets
  reset_follows : (v : Seen) (act : Action) → IsReset waits n o b v → next_reset v ≡ Some act → following v ≡ Some act
  reset_follows v act mid next =
      first_line_gives line.Reset act o v mid.current
      (λ m before. let e = before_reset (is_loss o.event) m before in mid.still m e.1 (early m e.0)) next

  pub record HasReset (v u : Seen) (resets : List Action) : Type 0 where
    pub does : Does resets v u
    pub reset : IsReset waits n o b u
    pub none : next_reset u ≡ None
    pub rest : IsSameRest v u

  pub reset_walk : (resets : List Action) (v u : Seen) → IsReset waits n o b v → StreamsAreReset resets v u → HasReset v u resets
  reset_walk [] v u mid are =
      subst (λ (z : Seen). HasReset v z []) (sym are.1) (record { does = refl; reset = mid; none = are.0; rest = rest_self v })
  reset_walk (act ∷ resets) v u mid are =
      let one : IsOneReset n v act = one_reset waits n o b v mid act are.0 in
      let after_one : IsReset waits n o b (after act v)
      = subst (IsReset waits n o b) (sym (after_is waits n o b v base mid act one)) (reset_mid waits n o b v base mid act one) in
      let rest : HasReset (after act v) u resets = reset_walk resets (after act v) u after_one are.1 in
      let next : IsNext act v
      = subst (λ (x : Action). IsNext x v) (sym one.act_is) (reset_follows v act mid are.0 ∙ ap (λ (x : Action). Some x) one.act_is) in
      let left : IsSameRest v (after act v)
      = subst (IsSameRest v) (sym (after_is waits n o b v base mid act one))
      (record { entries = refl; setup = refl; asks = refl; policies = refl; subs = refl; configs = refl; runs = refl; answered = refl; shut = refl }) in
      record { does = (next, rest.does); reset = rest.reset; none = rest.none; rest = rest_on v (after act v) u left rest.rest }

-- where the call has just ended
module _ (waits : Line → Bool) (n : ℕ) (why : EndCause) (o : OpenEntry) (s : Seen) (is : IsNextToEnd waits n why o s) where
  abbrev b : Seen
  b = call_ended n why s

  abbrev c : Call
  c = is.call

  own_number : c.number ≡ n
  own_number = call_number n s.calls c is.book.calls is.there

  after_end : after (action.CallEnds n why) s ≡ b
  after_end = ap (λ (x : Option OpenEntry). after_if x (action.CallEnds n why) s) is.current

  book_end : IsBook b
  book_end = subst IsBook after_end (books_stay s (action.CallEnds n why) is.book tt)

  quiet : (l : Line) → is_late l ≡ false → waits l ≡ false
  quiet l e = early_by (waits l) (is_late l) (is.late l) e

  same_call : (k : ℕ) → (k == n) ≡ false → numbered b.calls k ≡ numbered s.calls k
  same_call k off =
      changed_away _ n k (changed _ n s.calls) (eqb-false k n off) ∙ changed_away _ n k s.calls (eqb-false k n off)

  some_call : (k : ℕ) → is_some (numbered b.calls k) ≡ is_some (numbered s.calls k)
  some_call k = lookup (λ (x : Option Call). is_some x) _ (λ x. refl) n (changed _ n s.calls) k ∙ lookup (λ (x : Option Call). is_some x) _ (λ x. refl) n s.calls k

  all_at : {X : Type 0} (p : X → Bool) (xs : List X) (k : ℕ) (x : X) → list_all p xs ≡ true → numbered xs k ≡ Some x → p x ≡ true
  all_at p xs zero x e at = absurd (cc)
  all_at p [] (suc i) x e at = absurd (cc)
  all_at p (y ∷ xs) (suc zero) x e at = let same : x ≡ y = (cc) in ap p same ∙ (and_parts (p y) (list_all p xs) e).0
  all_at p (y ∷ xs) (suc (suc i)) x e at = all_at p xs (suc i) x (and_parts (p y) (list_all p xs) e).1 at

  over_other : (x : Attempt) → (x.row.call == n) ≡ false → is_over x b ≡ is_over x s
  over_other x off = ap (holds (λ (d : Call). is_over_in d x s)) (same_call x.row.call off)

  pub base : IsBase n b
  base = record {
    numbers = λ k d at. call_number k b.calls d book_end.calls at;
    owned = λ p x at. some_call x.row.call ∙ all_at (λ (y : Attempt). is_some (call_of y s)) s.attempts p x is.owned at;
    marks = λ d at off. (is.orders d (sym (same_call d.number off) ∙ at)).marks;
    row = is.still line.Row refl (quiet line.Row refl);
    final = is.still line.Final refl (quiet line.Final refl);
    followed = is.still line.Transparent refl (quiet line.Transparent refl);
    cut = λ p x at off. ap (λ (q : Bool). is_outstanding x && q) (over_other x off) ∙ passes_not (is_to_cut s) s.attempts p x is.uncut at;
  }

  none_of : (x : Option ℕ) → is_some x ≡ false → x ≡ None
  none_of None e = refl
  none_of (Some k) e = absurd (cc)

  left : IsLeft n b b
  left = record {
    done = record { call = _; there = changed_map _ n (changed _ n s.calls) ∙ ap (option_map _) (changed_map _ n s.calls ∙ ap (option_map _) is.there); ended = refl };
    apart = λ d own off. record { call = refl; config = refl; attempts = refl; rows = λ p e. refl; throttle = refl };
    calls = λ k off. refl;
    rows = λ p x at off. at;
    codes = λ p x at off. none_of (reset_code_of b x) (passes_not (is_to_reset b) b.attempts p x (is.still line.Reset refl (quiet line.Reset refl)) at);
  }

  less : (p q : Bool) → q ≡ false → (p && q) ≡ false
  less true q e = e
  less false q e = refl

  quiescent_by : (xs : List Attempt) → list_any (λ (x : Attempt). wants_follower x s) xs ≡ false → list_any (waits_for s c) xs ≡ false
  quiescent_by [] e = refl
  quiescent_by (x ∷ xs) e =
      let parts : (wants_follower x s ≡ false) × (list_any (λ (y : Attempt). wants_follower y s) xs ≡ false)
      = or_parts (wants_follower x s) (list_any (λ (y : Attempt). wants_follower y s) xs) e in
      ap (λ (q : Bool). q || list_any (waits_for s c) xs) (less (is_of c x) (wants_follower x s) parts.0) ∙ quiescent_by xs parts.1

  pub ordered : StaysInOrder b n
  ordered =
      let there : numbered s.calls c.number ≡ Some c = ap (numbered s.calls) own_number ∙ is.there in
      subst (λ (k : ℕ). StaysInOrder (call_ended k why s) k) own_number
      (ends_keep s c why (subst (λ (k : ℕ). IsBook (call_ended k why s)) (sym own_number) book_end) there (is.orders c there)
      (record { turn = is.turn; quiescent = quiescent_by s.attempts is.unfollowed }))

  pub mid : IsMid waits n o b b
  mid = record {
    current = is.current;
    book = book_end;
    left = left;
    steady = record { call = ordered.call; own = ordered.own; steady = ordered.steady };
    still = λ l e f w. is.still l e w;
  }

  rest_end : IsSameRest s b
  rest_end = record { entries = refl; setup = refl; asks = refl; policies = refl; subs = refl; configs = refl; runs = refl; answered = refl; shut = refl }

  pub all_out : (t : Seen) (cuts : List Action) → AttemptsAreCut n cuts b t → AreAllOut n why s t
  all_out t cuts are =
      let cut : HasCut waits is.late n o b base b t cuts = cut_walk waits is.late n o b base cuts b t mid are in
      record { attempts = cut.attempts; all = cut.all; off = cut.off }

  module _ (t u : Seen) (cuts resets : List Action) (are : AttemptsAreCut n cuts b t) (then_ : StreamsAreReset resets t u) where
    pub cut_all : HasCut waits is.late n o b base b t cuts
    cut_all = cut_walk waits is.late n o b base cuts b t mid are

    reset_all : HasReset waits is.late n o b base t u resets
    reset_all = reset_walk waits is.late n o b base resets t u cut_all.reset then_

    at_reset : (l : Line) → is_line l line.Reset ≡ true → IsStill l o u
    at_reset line.Reset f = (lines_are_still line.Reset o u).0 reset_all.none
    at_reset line.Cut f = absurd (cc)
    at_reset line.Transparent f = absurd (cc)
    at_reset line.Inherited f = absurd (cc)
    at_reset line.Row f = absurd (cc)
    at_reset line.Final f = absurd (cc)
    at_reset line.Cancelled f = absurd (cc)
    at_reset line.Request f = absurd (cc)
    at_reset line.Overflow f = absurd (cc)
    at_reset line.Head f = absurd (cc)
    at_reset line.Response f = absurd (cc)
    at_reset line.Pick f = absurd (cc)
    at_reset line.Link f = absurd (cc)
    at_reset line.WireEnd f = absurd (cc)
    at_reset line.Shut f = absurd (cc)
    at_reset line.Retire f = absurd (cc)
    at_reset line.Begin f = absurd (cc)
    at_reset line.Give f = absurd (cc)
    at_reset line.Drop f = absurd (cc)
    at_reset line.Add f = absurd (cc)

    still_by : (l : Line) (q : Bool) → is_line l line.Reset ≡ q → waits l ≡ false → IsStill l o u
    still_by l true e w = at_reset l e
    still_by l false e w = reset_all.reset.still l e w

    pub follows_on : FollowsOn waits n why o s (cuts ++ resets) u
    follows_on = record {
      does = (is.next, subst (λ (z : Seen). Does (cuts ++ resets) z u) (sym after_end) (does_on cuts resets b t u cut_all.does reset_all.does));
      current = reset_all.reset.current;
      still = λ l w. still_by l (is_line l line.Reset) refl w;
      rest = rest_on s b u rest_end (rest_on b t u cut_all.rest reset_all.rest);
    }

pub cuts_are_out : CutsAreOut
cuts_are_out waits n why o s t cuts is are = all_out waits n why o s is t cuts are

pub ends_follow : EndsFollow
ends_follow waits n why o s t u cuts resets is are then_ = follows_on waits n why o s is t u cuts resets are then_
