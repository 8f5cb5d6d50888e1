-- The session once the attempt has ended: its attempts, its call, and which attempts of the call are outstanding and queued.
use Rattle.std.proofs.Common.{◌≡◌, ◌&&◌, ◌==◌, ◌||◌, ◌+◌, ◌∷◌, not, ap, arith, refl, subst, sym, ◌∙◌, Bool, true, false, List, [], Option, None, Some, ℕ, suc, if◌then◌else◌, is_none, is_some, length, map, option_map}
use Rattle.std.proofs.lemmas.Bool.{and_right, eq-eqb, eqb-true}
use Rattle.std.specs.Option.{option_map_or}
use Rattle.attempt_ledger.specs.declared.ledger.CallEnd.{CallEnd}
use Rattle.attempt_ledger.specs.declared.row.Placed.{Placed}
use Rattle.attempt_ledger.specs.declared.row.RowEnd.{RowEnd}
use Rattle.call_actions.proofs.Unconfigured.{some_still}
use Rattle.call_actions.proofs.Places.{place_is}
use Rattle.call_actions.proofs.Ranks.{find_last_map, numbered_map}
use Rattle.call_actions.specs.Order.{AttemptsAreNumbered}
use Rattle.channel_actions.specs.Sets.{is_in_outstanding, is_waiting}
use Rattle.end_cases.proofs.AttemptEnds.Base.{c, call_is, e, has, here, t}
use Rattle.end_cases.specs.AttemptEnds.Ends.{EndNext}
use Rattle.channel_core.specs.States.{StateSeen}
use Rattle.link_actions.proofs.Ended.{changed_one, ended_seen, is_ended, noted_call}
use Rattle.link_actions.proofs.Without.{at_place, changed_at}
use Rattle.link_actions.specs.Sees.{AttemptsStandInPlace}
use Rattle.session_actions.specs.AttemptEnds.{with_end, with_end_in_run}
use Rattle.session_actions.specs.Attempts.{call_of, commitment, is_commitment, is_of, is_outstanding, is_over, is_over_in, is_queued}
use Rattle.session_actions.specs.Entries.{entry, now}
use Rattle.session_actions.specs.Links.{link_number}
use Rattle.session_actions.specs.Words.{find_last, holds, numbered}
use Rattle.session_actions.specs.declared.attempt.Attempt.{Attempt}
use Rattle.session_actions.specs.declared.call.Call.{Call}
use Rattle.session_actions.specs.declared.call.MarkKind.TheVariants as mark
use Rattle.session_actions.specs.declared.config.ThrottleRun.{ThrottleRun}
use Rattle.session_actions.specs.declared.entry.OpenEntry.{OpenEntry}
use Rattle.session_actions.specs.declared.response.Outcome.{Outcome}
use Rattle.session_actions.specs.declared.seen.Seen.{Seen}
use Rattle.session_order.specs.declared.line.Line.{Line}

-- places, in the words of calls and of links
pub placed_from : (n : ℕ) (xs : List Attempt) → AttemptsAreNumbered n xs → AttemptsStandInPlace n xs
placed_from n [] p = tt
placed_from n (q ∷ xs) p = (p.0, subst (λ (k : ℕ). AttemptsStandInPlace k xs) (let up : suc n ≡ n + 1 = omega arith in up) (placed_from (suc n) xs p.1))

-- tests: placed, not ended, over; whether it is the one that ends
pub out_by : (b : Bool) (z : RowEnd) (o : Option Placed) (p : Option RowEnd) → (is_some o && is_none (if b then Some z else p)) ≡ ((is_some o && is_none p) && not b)
out_by true z o p = and_right (is_some o) false refl ∙ sym (and_right (is_some o && is_none p) false refl)
out_by false z o p = sym (and_on (is_some o && is_none p))
  where
    and_on : (b : Bool) → (b && true) ≡ b
    and_on true = refl
    and_on false = refl

pub waits_by : (b : Bool) (z : RowEnd) (o : Option Placed) (p : Option RowEnd) (over : Bool)
    → ((is_none o && is_none (if b then Some z else p)) && not over) ≡ (((is_none o && is_none p) && not over) && not b)
waits_by true z o p over =
    ap (λ (c : Bool). c && not over) (and_right (is_none o) false refl) ∙ sym (and_right ((is_none o && is_none p) && not over) false refl)
waits_by false z o p over = sym (and_on ((is_none o && is_none p) && not over))
  where
    and_on : (b : Bool) → (b && true) ≡ b
    and_on true = refl
    and_on false = refl

and_swap : (p q r : Bool) → ((p && r) && q) ≡ ((p && q) && r)
and_swap true true r = cond_swap r
  where
    cond_swap : (r : Bool) → (r && true) ≡ r
    cond_swap true = refl
    cond_swap false = refl
and_swap true false r = and_right r false refl
and_swap false q r = refl

module _ (later : List (ℕ × RowEnd)) (waits : Line → Bool) (also : List ℕ) (a : Attempt) (out : Outcome) (x : StateSeen) (o : OpenEntry) (s : Seen) (is : EndNext later waits also a out x o s) where
  abbrev cc0 : Call
  cc0 = c later waits also a out x o s is

  abbrev pub end : RowEnd
  end = e later waits also a out x o s is

  abbrev pub runs : List ThrottleRun
  runs = (option_map_or (with_end_in_run a end s) (call_of a s) s).runs

  abbrev pub u : Seen
  u = ended_seen (is_some end.word) a.row.call a.place end runs s

  pub numbers : AttemptsAreNumbered 1 s.attempts
  numbers = (has later waits also a out x o s is).sees.order.places

  pub places : AttemptsStandInPlace 1 s.attempts
  places = placed_from 1 s.attempts numbers

  pub t_is : t later waits also a out x o s is ≡ u
  t_is = is_ended s a.place end a places is.ending.there

  abbrev pub put : Attempt → Attempt
  put q = at_place (with_end end) a.place q

  pub attempts_are : u.attempts ≡ map put s.attempts
  attempts_are = changed_at (with_end end) a.place s.attempts a places is.ending.there

  pub attempt_at : (n : ℕ) → numbered u.attempts n ≡ option_map put (numbered s.attempts n)
  attempt_at n = ap (λ (xs : List Attempt). numbered xs n) attempts_are ∙ numbered_map put s.attempts n

  abbrev pub d : Call
  d = noted_call (mark.Ended a.place) (now s) cc0

  pub d_here : numbered u.calls cc0.number ≡ Some d
  d_here =
      changed_one (noted_call (mark.Ended a.place) (now s)) a.row.call cc0.number s.calls cc0 true
      (eq-eqb cc0.number a.row.call (sym (call_is later waits also a out x o s is))) (here later waits also a out x o s is)

  pub entry_is : entry u ≡ entry s
  entry_is =
      ap (λ (b : Bool). length s.entries + (if b then 1 else 0)) (some_still (λ (q : OpenEntry). record q { drawn = q.drawn + (if is_some end.word then 1 else 0) }) s.current)

  -- each attempt, as it then is
  by_place : (q : Attempt) (b : Bool) → (if b then with_end end q else q).row.ended ≡ (if b then Some end else q.row.ended)
  by_place q true = refl
  by_place q false = refl

  placed_by : (q : Attempt) (b : Bool) → (if b then with_end end q else q).row.placed ≡ q.row.placed
  placed_by q true = refl
  placed_by q false = refl

  pub put_placed : (q : Attempt) → (put q).row.placed ≡ q.row.placed
  put_placed q = placed_by q (q.place == a.place)

  pub put_ended : (q : Attempt) → (put q).row.ended ≡ (if q.place == a.place then Some end else q.row.ended)
  put_ended q = by_place q (q.place == a.place)

  call_by : (q : Attempt) (b : Bool) → (if b then with_end end q else q).row.call ≡ q.row.call
  call_by q true = refl
  call_by q false = refl

  pub put_call : (q : Attempt) → (put q).row.call ≡ q.row.call
  put_call q = call_by q (q.place == a.place)

  committed_by : (q : Attempt) (b : Bool) → (if b then with_end end q else q).row.committed ≡ q.row.committed
  committed_by q true = refl
  committed_by q false = refl

  pub put_committed : (q : Attempt) → (put q).row.committed ≡ q.row.committed
  put_committed q = committed_by q (q.place == a.place)

  place_by : (q : Attempt) (b : Bool) → (if b then with_end end q else q).place ≡ q.place
  place_by q true = refl
  place_by q false = refl

  pub put_place : (q : Attempt) → (put q).place ≡ q.place
  put_place q = place_by q (q.place == a.place)

  pub commitment_is : (k : Call) → commitment k u ≡ option_map put (commitment k s)
  commitment_is k =
      ap (λ (xs : List Attempt). find_last (is_commitment k) xs) attempts_are
      ∙ find_last_map (is_commitment k) (is_commitment k) put
      (λ q. ap (λ (n : ℕ). (n == k.number) && is_some (put q).row.committed) (put_call q) ∙ ap (λ (z : Option ℕ). is_of k q && is_some z) (put_committed q)) s.attempts

  -- outstanding
  pub put_out : (q : Attempt) → is_outstanding (put q) ≡ (is_outstanding q && not (q.place == a.place))
  put_out q =
      ap (λ (z : Option Placed). is_some z && is_none (put q).row.ended) (put_placed q) ∙ ap (λ (z : Option RowEnd). is_some q.row.placed && is_none z) (put_ended q)
      ∙ out_by (q.place == a.place) end q.row.placed q.row.ended

  out_of : (link row : ℕ) (r : Option Attempt) → numbered s.attempts row ≡ r
      → holds (λ (q : Attempt). is_outstanding q && (link_number q == link)) (option_map put r)
      ≡ (holds (λ (q : Attempt). is_outstanding q && (link_number q == link)) r && not (row == a.place))
  out_of link row None there = refl
  out_of link row (Some q) there =
      ap (λ (z : Option Placed). is_outstanding (put q) && (option_map_or (λ (at : Placed). at.link) z 0 == link)) (put_placed q)
      ∙ ap (λ (b : Bool). b && (link_number q == link)) (put_out q)
      ∙ and_swap (is_outstanding q) (link_number q == link) (not (q.place == a.place))
      ∙ ap (λ (n : ℕ). (is_outstanding q && (link_number q == link)) && not (n == a.place)) (place_is row s.attempts q numbers there)

  pub in_out : (link row : ℕ) → is_in_outstanding u link row ≡ (is_in_outstanding s link row && not (row == a.place))
  in_out link row = ap (holds (λ (q : Attempt). is_outstanding q && (link_number q == link))) (attempt_at row) ∙ out_of link row (numbered s.attempts row) refl

  -- those of the call, while it is open and not committed: none is over
  module _ (open_now : cc0.end ≡ None) (free : commitment cc0 s ≡ None) where
    pub free_then : commitment d u ≡ None
    free_then = commitment_is cc0 ∙ ap (option_map put) free

    over_in : (k : Call) (v : Seen) (q : Attempt) → k.end ≡ None → commitment k v ≡ None → is_over_in k q v ≡ false
    over_in k v q op fr =
        ap (λ (z : Option CallEnd). is_some z || holds (λ (p : Attempt). not (p.row.number == q.row.number)) (commitment k v)) op
        ∙ ap (holds (λ (p : Attempt). not (p.row.number == q.row.number))) fr

    over_at : (v : Seen) (k : Call) (q : Attempt) → numbered v.calls cc0.number ≡ Some k → (q.row.call == cc0.number) ≡ true → k.end ≡ None → commitment k v ≡ None → is_over q v ≡ false
    over_at v k q at mine op fr =
        ap (λ (n : ℕ). holds (λ (g : Call). is_over_in g q v) (numbered v.calls n)) (eqb-true q.row.call cc0.number mine)
        ∙ ap (holds (λ (g : Call). is_over_in g q v)) at ∙ over_in k v q op fr

    pub over_before : (q : Attempt) → (q.row.call == cc0.number) ≡ true → is_over q s ≡ false
    over_before q mine = over_at s cc0 q (here later waits also a out x o s is) mine open_now free

    pub over_after : (q : Attempt) → (q.row.call == cc0.number) ≡ true → is_over (put q) u ≡ false
    over_after q mine = over_at u d (put q) d_here (ap (λ (n : ℕ). n == cc0.number) (put_call q) ∙ mine) open_now free_then

    pub waits_one : (q : Attempt) (b : Bool) → (q.row.call == cc0.number) ≡ b
        → ((q.row.call == cc0.number) && is_queued (put q) u) ≡ (((q.row.call == cc0.number) && is_queued q s) && not (q.place == a.place))
    waits_one q false mine = ap (λ (b : Bool). b && is_queued (put q) u) mine ∙ sym (ap (λ (b : Bool). (b && is_queued q s) && not (q.place == a.place)) mine)
    waits_one q true mine =
        ap (λ (b : Bool). b && is_queued (put q) u) mine
        ∙ ap (λ (b : Bool). (is_none (put q).row.placed && is_none (put q).row.ended) && not b) (over_after q mine)
        ∙ ap (λ (z : Option Placed). (is_none z && is_none (put q).row.ended) && true) (put_placed q)
        ∙ ap (λ (z : Option RowEnd). (is_none q.row.placed && is_none z) && true) (put_ended q)
        ∙ waits_by (q.place == a.place) end q.row.placed q.row.ended false
        ∙ ap (λ (b : Bool). ((is_none q.row.placed && is_none q.row.ended) && not b) && not (q.place == a.place)) (sym (over_before q mine))
        ∙ sym (ap (λ (b : Bool). (b && is_queued q s) && not (q.place == a.place)) mine)

    waits_of : (row : ℕ) (r : Option Attempt) → numbered s.attempts row ≡ r
        → holds (λ (q : Attempt). (q.row.call == cc0.number) && is_queued q u) (option_map put r)
        ≡ (holds (λ (q : Attempt). (q.row.call == cc0.number) && is_queued q s) r && not (row == a.place))
    waits_of row None there = refl
    waits_of row (Some q) there =
        ap (λ (n : ℕ). (n == cc0.number) && is_queued (put q) u) (put_call q) ∙ waits_one q (q.row.call == cc0.number) refl
        ∙ ap (λ (n : ℕ). ((q.row.call == cc0.number) && is_queued q s) && not (n == a.place)) (place_is row s.attempts q numbers there)

    pub in_wait : (row : ℕ) → is_waiting u cc0.number row ≡ (is_waiting s cc0.number row && not (row == a.place))
    in_wait row = ap (holds (λ (q : Attempt). (q.row.call == cc0.number) && is_queued q u)) (attempt_at row) ∙ waits_of row (numbered s.attempts row) refl
