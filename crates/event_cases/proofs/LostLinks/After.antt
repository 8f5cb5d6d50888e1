-- What followed from the end of an attempt on a link that is lost leaves the other attempts as they were: those on the link still end by the loss, and those on other
-- links go on.
use Rattle.std.proofs.Common.{◌≡◌, ◌&&◌, ◌||◌, ◌==◌, ◌∷◌, ap, refl, subst, sym, ◌∙◌, not, Bool, true, false, List, [], Option, None, Some, ℕ, suc, zero, if◌then◌else◌, is_none, is_some, option_and_then, option_map, slice_get}
use Rattle.std.proofs.lemmas.Bool.{and_parts, eq-eqb, eqb-true}
use Rattle.std.specs.List.{AllByRecursion, list_any}
use Rattle.std.specs.Option.{option_map_or, option_or}
use Rattle.attempt_ledger.specs.declared.row.Placed.{Placed}
use Rattle.attempt_ledger.specs.declared.row.RowEnd.{RowEnd}
use Rattle.call_actions.proofs.Ranks.{numbered_map}
use Rattle.channel_actions.proofs.Links.Frames.Changes.{limit_same}
use Rattle.channel_actions.proofs.Stamps.{counted_at}
use Rattle.channel_actions.specs.KeptSessions.Kept.{IsKept}
use Rattle.channel_actions.specs.Sets.{is_in_outstanding}
use Rattle.event_cases.specs.PassedAtOnce.Passed.{HasStream, IsPassedStill, Served, served, unqueued}
use Rattle.grpc_base.specs.Limits.{message_limit}
use Rattle.link_actions.proofs.LossActions.Stays.{over_stays}
use Rattle.link_actions.specs.LossActions.Laws.{IsQuiet}
use Rattle.link_actions.specs.LossActions.Sees.{SeesOver, WasOn}
use Rattle.link_actions.specs.Sees.{AttemptsStandInPlace}
use Rattle.link_actions.specs.StreamActions.Laws.{IsOn}
use Rattle.session_actions.specs.AttemptEnds.{end_of, lost_end, outcome_of, outcome_on, unsent_end, wire_end}
use Rattle.session_actions.specs.Attempts.{is_outstanding, is_over}
use Rattle.session_actions.specs.Configs.{chosen_of}
use Rattle.session_actions.specs.Links.{is_retiring, link_number, link_of}
use Rattle.session_actions.specs.Reading.{is_outstanding_on}
use Rattle.session_actions.specs.Responses.{limit_of_attempt, no_response, response_by, response_in, traffic_by, traffic_of}
use Rattle.session_actions.specs.Words.{holds, numbered}
use Rattle.session_actions.specs.declared.action.Action.{Action}
use Rattle.session_actions.specs.declared.action.Action.TheVariants as action
use Rattle.session_actions.specs.declared.attempt.Attempt.{Attempt}
use Rattle.session_actions.specs.declared.call.Call.{Call}
use Rattle.session_actions.specs.declared.link.Link.{Link}
use Rattle.session_actions.specs.declared.response.Outcome.{Outcome}
use Rattle.session_actions.specs.declared.seen.Seen.{Seen}
use Rattle.session_order.proofs.Changed.{passes_not}
use Rattle.session_order.specs.Quiescent.{is_to_cut}

-- the call of an attempt, by what its limit hangs on
pub limit_by : (s t : Seen) (o q : Option Call) → option_map served q ≡ option_map served o → t.configs ≡ s.configs
    → option_map_or (λ (c : Call). (chosen_of c t).response) q message_limit ≡ option_map_or (λ (c : Call). (chosen_of c s).response) o message_limit
limit_by s t None None e f = refl
limit_by s t (Some c) (Some d) e f =
    let same : served d ≡ served c = (cc) in
    limit_same s t c d (ap (λ (z : Served). z.config) same) (ap (λ (z : Served). z.request) same) f
limit_by s t None (Some d) e f = absurd (cc)
limit_by s t (Some c) None e f = absurd (cc)

-- links of one number, by what passed on them
pub link_by : (o q : Option Link) → option_map unqueued q ≡ option_map unqueued o → (l : Link) → o ≡ Some l → (m : Link) × ((q ≡ Some m) × (unqueued m ≡ unqueued l))
link_by None q e l at = absurd (cc)
link_by (Some k) None e l at = absurd (cc)
link_by (Some k) (Some m) e l at = (m, (refl, (let one : k ≡ l = (cc) in let two : unqueued m ≡ unqueued k = (cc) in two ∙ ap unqueued one)))

-- an attempt that is outstanding, before and after
pub record IsStillOut (s t : Seen) (row : ℕ) (a b : Attempt) : Type 0 where
  pub before : numbered s.attempts row ≡ Some a
  pub after_ : numbered t.attempts row ≡ Some b
  pub out_a : is_outstanding a ≡ true
  pub out_b : is_outstanding b ≡ true
  pub link : link_number a ≡ link_number b
  pub call : b.row.call ≡ a.row.call
  pub stream : b.row.stream ≡ a.row.stream

in_by : (o : Option Attempt) (link : ℕ) → holds (λ (a : Attempt). is_outstanding a && (link_number a == link)) o ≡ true
    → (a : Attempt) × ((o ≡ Some a) × ((is_outstanding a ≡ true) × (link_number a ≡ link)))
in_by None link e = absurd (cc)
in_by (Some a) link e =
    let k = and_parts (is_outstanding a) (link_number a == link) e in (a, (refl, (k.0, eqb-true (link_number a) link k.1)))

-- where it is
pub record IsAt (a : Attempt) : Type 0 where
  pub at : Placed
  pub placed : a.row.placed ≡ Some at
  pub link : link_number a ≡ at.link
  pub going : a.row.ended ≡ None

at_by : (p : Option Placed) (e : Option RowEnd) → (is_some p && is_none e) ≡ true → (at : Placed) × ((p ≡ Some at) × (e ≡ None))
at_by None e h = absurd (cc)
at_by (Some at) (Some end) h = absurd (cc)
at_by (Some at) None h = (at, (refl, refl))

pub is_at : (a : Attempt) → is_outstanding a ≡ true → IsAt a
is_at a out =
    let k = at_by a.row.placed a.row.ended out in
    record { at = k.0; placed = k.1.0; link = ap (λ (p : Option Placed). option_map_or (λ (at : Placed). at.link) p 0) k.1.0; going = k.1.1 }

pub link_is : (a : Attempt) (k : IsAt a) (s : Seen) → link_of a s ≡ numbered s.links k.at.link
link_is a k s = ap (option_and_then (λ (at : Placed). numbered s.links at.link)) k.placed

-- how the wire ends an attempt that goes on hangs on its stream, the limit of its response, and what passed on its link
abbrev pub outcome_in : ℕ → Option ℕ → Option Link → Option Outcome
outcome_in limit None None = None
outcome_in limit None (Some l) = if is_some l.over || is_retiring l then Some unsent_end else None
outcome_in limit (Some stream) None = None
outcome_in limit (Some stream) (Some l) = option_or (response_in limit stream l.traffic).end (if is_some l.over then Some lost_end else None)

pub same_in : (limit : ℕ) (stream : Option ℕ) (o q : Option Link) → option_map unqueued q ≡ option_map unqueued o → outcome_in limit stream q ≡ outcome_in limit stream o
same_in limit stream None None e = refl
same_in limit None (Some l) (Some m) e =
    let same : unqueued m ≡ unqueued l = (cc) in ap (λ (k : Link). if is_some k.over || is_retiring k then Some unsent_end else None) same
same_in limit (Some n) (Some l) (Some m) e =
    let same : unqueued m ≡ unqueued l = (cc) in
    ap (λ (k : Link). option_or (response_in limit n k.traffic).end (if is_some k.over then Some lost_end else None)) same
same_in limit stream None (Some m) e = absurd (cc)
same_in limit stream (Some l) None e = absurd (cc)

outcome_by : (a : Attempt) (s : Seen) (p : Option ℕ) (o : Option Link) → a.row.ended ≡ None → a.row.stream ≡ p → link_of a s ≡ o
    → option_and_then (outcome_on a s p) o ≡ outcome_in (limit_of_attempt a s) p o
outcome_by a s None None going stream link = refl
outcome_by a s None (Some l) going stream link = refl
outcome_by a s (Some n) None going stream link = refl
outcome_by a s (Some n) (Some l) going stream link =
    ap (λ (p : Option ℕ). option_or (response_by a s p).end (if is_some l.over then Some lost_end else None)) stream
    ∙ ap (λ (q : Option Link). option_or (option_map_or (λ (k : Link). response_in (limit_of_attempt a s) n (traffic_of a k.traffic)) q no_response).end (if is_some l.over then Some lost_end else None)) link
    ∙ ap (λ (e : Option RowEnd). option_or (response_in (limit_of_attempt a s) n (option_map_or (λ (z : RowEnd). traffic_by z.seen l.traffic) e l.traffic)).end (if is_some l.over then Some lost_end else None)) going

pub outcome_is : (a : Attempt) (s : Seen) → a.row.ended ≡ None → outcome_of a s ≡ outcome_in (limit_of_attempt a s) a.row.stream (link_of a s)
outcome_is a s going = outcome_by a s a.row.stream (link_of a s) going refl refl

module _ (s t : Seen) (kept_s : IsKept s) (kept_t : IsKept t) (passed : IsPassedStill s t)
    (fewer : (link row : ℕ) → is_in_outstanding t link row ≡ true → is_in_outstanding s link row ≡ true) where
  pub before : (row : ℕ) (b : Attempt) → numbered t.attempts row ≡ Some b → is_outstanding b ≡ true → (a : Attempt) × IsStillOut s t row a b
  before row b at out =
      let in_t : is_in_outstanding t (link_number b) row ≡ true
      = ap (holds (λ (q : Attempt). is_outstanding q && (link_number q == link_number b))) at ∙ both out in
      let k = in_by (numbered s.attempts row) (link_number b) (fewer (link_number b) row in_t) in
      let h : HasStream k.0 (numbered t.attempts row) = passed.attempts row k.0 k.1.0 in
      let both_b : Some h.now ≡ Some b = sym h.there ∙ at in
      let one : h.now ≡ b = (cc) in (
        k.0,
        record {
          before = k.1.0;
          after_ = at;
          out_a = k.1.1.0;
          out_b = out;
          link = k.1.1.1;
          call = sym (ap (λ (q : Attempt). q.row.call) one) ∙ h.call;
          stream = sym (ap (λ (q : Attempt). q.row.stream) one) ∙ h.stream;
        },
      )
    where
      both : is_outstanding b ≡ true → (is_outstanding b && (link_number b == link_number b)) ≡ true
      both e = ap (λ (z : Bool). z && (link_number b == link_number b)) e ∙ eq-eqb (link_number b) (link_number b) refl

  module _ (row : ℕ) (a b : Attempt) (k : IsStillOut s t row a b) where
    pub limit_is : limit_of_attempt b t ≡ limit_of_attempt a s
    limit_is =
        ap (λ (n : ℕ). option_map_or (λ (c : Call). (chosen_of c t).response) (numbered t.calls n) message_limit) k.call
        ∙ limit_by s t (numbered s.calls a.row.call) (numbered t.calls a.row.call) (passed.calls a.row.call) passed.configs

    links_at : (n : ℕ) → option_map unqueued (numbered t.links n) ≡ option_map unqueued (numbered s.links n)
    links_at n = sym (numbered_map unqueued t.links n) ∙ ap (λ (ls : List Link). numbered ls n) passed.links ∙ numbered_map unqueued s.links n

    link_same : option_map unqueued (link_of b t) ≡ option_map unqueued (link_of a s)
    link_same =
        let p : IsAt a = is_at a k.out_a in
        let q : IsAt b = is_at b k.out_b in
        ap (option_map unqueued) (link_is b q t) ∙ links_at q.at.link
        ∙ ap (λ (n : ℕ). option_map unqueued (numbered s.links n)) (sym q.link ∙ sym k.link ∙ p.link) ∙ sym (ap (option_map unqueued) (link_is a p s))

    pub outcome_same : outcome_of b t ≡ outcome_of a s
    outcome_same =
        outcome_is b t (is_at b k.out_b).going
        ∙ ap (λ (n : ℕ). outcome_in n b.row.stream (link_of b t)) limit_is
        ∙ ap (λ (p : Option ℕ). outcome_in (limit_of_attempt a s) p (link_of b t)) k.stream
        ∙ same_in (limit_of_attempt a s) a.row.stream (link_of a s) (link_of b t) link_same
        ∙ sym (outcome_is a s (is_at a k.out_a).going)

  -- nothing is cut off in either
  module _ (uncut_s : list_any (is_to_cut s) s.attempts ≡ false) (uncut_t : list_any (is_to_cut t) t.attempts ≡ false) (l m : Link) (number : m.number ≡ l.number)
      (quiet : AllByRecursion (IsQuiet l s) s.attempts) where
    not_over : (v : Seen) → list_any (is_to_cut v) v.attempts ≡ false → (row : ℕ) (a : Attempt) → numbered v.attempts row ≡ Some a → is_outstanding a ≡ true → is_over a v ≡ false
    not_over v uncut row a at out = second (is_outstanding a) (is_over a v) out (passes_not (is_to_cut v) v.attempts row a uncut at)
      where
        second : (p q : Bool) → p ≡ true → (p && q) ≡ false → q ≡ false
        second true q e f = f
        second false q e f = absurd (cc)

    quiet_at : (i : ℕ) (xs : List Attempt) (a : Attempt) → AllByRecursion (IsQuiet l s) xs → slice_get xs i ≡ Some a → IsQuiet l s a
    quiet_at i [] a all at = absurd (cc)
    quiet_at zero (x ∷ xs) a all at = let same : x ≡ a = (cc) in subst (IsQuiet l s) same all.0
    quiet_at (suc i) (x ∷ xs) a all at = quiet_at i xs a all.1 at

    quiet_row : (row : ℕ) (a : Attempt) → numbered s.attempts row ≡ Some a → IsQuiet l s a
    quiet_row zero a at = absurd (cc)
    quiet_row (suc i) a at = quiet_at i s.attempts a quiet at

    none_out : (place : ℕ) (f : Outcome → Action) (o : Option Outcome) (over : Bool) → over ≡ false → (if not over then option_map f o else None) ≡ None → o ≡ None
    none_out place f None over off e = refl
    none_out place f (Some z) true off e = absurd (cc)
    none_out place f (Some z) false off e = absurd (cc)

    goes_by : (row : ℕ) (b : Attempt) (c : Bool) → numbered t.attempts row ≡ Some b → is_outstanding b ≡ c → is_outstanding_on m b ≡ false → wire_end t b ≡ None
    goes_by row b false at out off =
        ap (λ (z : Bool). if z && not (is_over b t) then option_map (λ (z : Outcome). action.AttemptEnds b.place (end_of b z t)) (outcome_of b t) else None) out
    goes_by row b true at out off =
        let k = before row b at out in
        let a : Attempt = k.0 in
        let off_a : is_outstanding_on l a ≡ false = elsewhere a (is_at a k.1.out_a) k.1.link in
        let none_a : outcome_of a s ≡ None
        = none_out a.place (λ (z : Outcome). action.AttemptEnds a.place (end_of a z s)) (outcome_of a s) (is_over a s) (not_over s uncut_s row a k.1.before k.1.out_a)
        (ap (λ (z : Bool). if z && not (is_over a s) then option_map (λ (z : Outcome). action.AttemptEnds a.place (end_of a z s)) (outcome_of a s) else None) (sym k.1.out_a)
        ∙ (quiet_row row a k.1.before).elsewhere off_a) in
        ap (λ (o : Option Outcome). if is_outstanding b && not (is_over b t) then option_map (λ (z : Outcome). action.AttemptEnds b.place (end_of b z t)) o else None)
        (outcome_same row a b k.1 ∙ none_a) ∙ no_action None refl (is_outstanding b && not (is_over b t))
      where
        no_action : (q : Option Action) → q ≡ None → (z : Bool) → (if z then q else None) ≡ None
        no_action q none true = none
        no_action q none false = refl

        on_number : (n : ℕ) (q : Attempt) (p : IsAt q) → holds (λ (at : Placed). at.link == n) q.row.placed ≡ (link_number q == n)
        on_number n q p = ap (holds (λ (at : Placed). at.link == n)) p.placed ∙ ap (λ (k : ℕ). k == n) (sym p.link)

        second : (p q : Bool) → p ≡ true → (p && q) ≡ false → q ≡ false
        second true q e f = f
        second false q e f = absurd (cc)

        elsewhere : (a : Attempt) (p : IsAt a) → link_number a ≡ link_number b → is_outstanding_on l a ≡ false
        elsewhere a p same =
            let away : (link_number b == m.number) ≡ false
            = sym (on_number m.number b (is_at b out)) ∙ second (is_outstanding b) (holds (λ (at : Placed). at.link == m.number) b.row.placed) out off in
            ap (λ (z : Bool). is_outstanding a && z)
            (on_number l.number a p ∙ ap (λ (n : ℕ). n == l.number) same ∙ ap (λ (n : ℕ). link_number b == n) (sym number) ∙ away)
            ∙ and_false (is_outstanding a)
          where
            and_false : (z : Bool) → (z && false) ≡ false
            and_false true = refl
            and_false false = refl

    quiet_one : (row : ℕ) (b : Attempt) → numbered t.attempts row ≡ Some b → IsQuiet m t b
    quiet_one row b at = record {
      here = λ on. not_over t uncut_t row b at (and_parts (is_outstanding b) (holds (λ (at : Placed). at.link == m.number) b.row.placed) on).0;
      elsewhere = λ off. goes_by row b (is_outstanding b) at refl off;
    }

    all_quiet : (xs : List Attempt) → ((i : ℕ) (b : Attempt) → slice_get xs i ≡ Some b → IsQuiet m t b) → AllByRecursion (IsQuiet m t) xs
    all_quiet [] each = tt
    all_quiet (b ∷ xs) each = (each 0 b refl, all_quiet xs (λ i c at. each (suc i) c at))

    pub quiet_still : AllByRecursion (IsQuiet m t) t.attempts
    quiet_still = all_quiet t.attempts (λ i b at. quiet_one (suc i) b at)

  -- the link that is lost
  module _ (l m : Link) (over : SeesOver l s) (there : numbered t.links l.number ≡ Some m) (same : unqueued m ≡ unqueued l) (places : AttemptsStandInPlace 1 t.attempts) where
    number_is : m.number ≡ l.number
    number_is = ap (λ (k : Link). k.number) same

    was_on : (n : ℕ) (b : Attempt) → IsOn m t n b → WasOn l s t n b
    was_on n b on =
        let parts = and_parts (is_outstanding b) (holds (λ (at : Placed). at.link == m.number) b.row.placed) on.out in
        let k = before b.place b on.there parts.0 in
        let a : Attempt = k.0 in
        let p : IsAt a = is_at a k.1.out_a in
        let q : IsAt b = is_at b parts.0 in
        let place : a.place ≡ b.place = counted_at (λ (z : Attempt). z.place) s.attempts b.place a kept_s.attempts k.1.before in
        let here : (link_number b == m.number) ≡ true
        = ap (λ (n : ℕ). n == m.number) q.link ∙ sym (ap (holds (λ (at : Placed). at.link == m.number)) q.placed) ∙ parts.1 in
        let on_a : holds (λ (at : Placed). at.link == l.number) a.row.placed ≡ true
        = ap (holds (λ (at : Placed). at.link == l.number)) p.placed ∙ ap (λ (n : ℕ). n == l.number) (sym p.link ∙ k.1.link)
        ∙ ap (λ (n : ℕ). link_number b == n) (sym number_is) ∙ here in
        record {
          before = a;
          on = record {
            there = ap (numbered s.attempts) place ∙ k.1.before;
            out = ap (λ (z : Bool). z && holds (λ (at : Placed). at.link == l.number) a.row.placed) k.1.out_a ∙ on_a;
            stream = sym k.1.stream ∙ on.stream;
          };
          limit = limit_is b.place a b k.1;
        }

    pub over_still : SeesOver m t
    over_still =
        over_stays l m s t over (ap (numbered t.links) number_is ∙ there) (ap (λ (k : Link). is_some k.over) same ∙ over.over) (ap (λ (k : Link). k.traffic) same) places was_on
