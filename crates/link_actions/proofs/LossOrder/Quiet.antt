-- Once an attempt has ended, nothing is about to end another that was not before.
use Rattle.std.proofs.Common.{◌≡◌, ◌∷◌, ◌++◌, ◌||◌, ◌&&◌, ◌==◌, not, ap, refl, subst, sym, ◌∙◌, Bool, true, false, List, [], Option, None, Some, ℕ, if◌then◌else◌, is_none, is_some, map, option_and_then, option_map}
use Rattle.std.specs.List.{AllByRecursion}
use Rattle.std.specs.Option.{option_map_or, option_or}
use Rattle.attempt_ledger.specs.declared.row.Placed.{Placed}
use Rattle.attempt_ledger.specs.declared.row.RowEnd.{RowEnd}
use Rattle.link_actions.proofs.Ended.{ended_seen, is_ended, never_out, noted_call}
use Rattle.link_actions.proofs.Lists.{on_if}
use Rattle.link_actions.proofs.Without.{at_place, changed_at}
use Rattle.link_actions.proofs.LossActions.Calls.{changed_any}
use Rattle.link_actions.specs.LossActions.Laws.{IsQuiet}
use Rattle.link_actions.specs.LossOrder.Laws.{EndsKeepQuiet}
use Rattle.link_actions.proofs.ReaderActions.Alike.{response_alike}
use Rattle.link_actions.proofs.ReaderActions.Ended.{traffic_itself}
use Rattle.link_actions.proofs.ResponseActions.Ended.{limit_ended}
use Rattle.session_actions.specs.AttemptEnds.{end_of, lost_end, outcome_of, outcome_on, with_end, with_end_in_run, wire_end}
use Rattle.session_actions.specs.Attempts.{call_of, commitment, is_commitment, is_outstanding, is_over, is_over_in}
use Rattle.session_actions.specs.Entries.{now}
use Rattle.session_actions.specs.Reading.{is_outstanding_on}
use Rattle.session_actions.specs.Responses.{response}
use Rattle.session_actions.specs.Words.{find_last, holds, numbered}
use Rattle.session_actions.specs.declared.action.Action.{Action}
use Rattle.session_actions.specs.declared.action.Action.TheVariants as action
use Rattle.session_actions.specs.declared.attempt.Attempt.{Attempt}
use Rattle.session_actions.specs.declared.call.Call.{Call}
use Rattle.session_actions.specs.declared.call.MarkKind.TheVariants as mark
use Rattle.session_actions.specs.declared.config.ThrottleRun.{ThrottleRun}
use Rattle.session_actions.specs.declared.link.Link.{Link}
use Rattle.session_actions.specs.declared.response.Outcome.{Outcome}
use Rattle.session_actions.specs.declared.response.Response.{Response}
use Rattle.session_actions.specs.declared.seen.Seen.{Seen}

-- the commitment of a call
same_test : (e : RowEnd) (t : ℕ) (c : Call) (x : Attempt) (b : Bool) → is_commitment c (if b then with_end e x else x) ≡ is_commitment c x
same_test e t c x true = refl
same_test e t c x false = refl

last_by : (e : RowEnd) (t : ℕ) (x : Attempt) (o : Option Attempt) (b : Bool)
    → option_or (option_map (at_place (with_end e) t) o) (if b then Some (at_place (with_end e) t x) else None) ≡ option_map (at_place (with_end e) t) (option_or o (if b then Some x else None))
last_by e t x None true = refl
last_by e t x None false = refl
last_by e t x (Some y) b = refl

last_same : (e : RowEnd) (t : ℕ) (c : Call) (xs : List Attempt)
    → find_last (is_commitment c) (map (at_place (with_end e) t) xs) ≡ option_map (at_place (with_end e) t) (find_last (is_commitment c) xs)
last_same e t c [] = refl
last_same e t c (x ∷ xs) =
    let f : Attempt → Attempt = at_place (with_end e) t in
    let none : Option Attempt = None in
    ap (λ (o : Option Attempt). option_or o (if is_commitment c (f x) then Some (f x) else none)) (last_same e t c xs)
    ∙ ap (λ (b : Bool). option_or (option_map f (find_last (is_commitment c) xs)) (if b then Some (f x) else none)) (same_test e t c x (x.place == t))
    ∙ last_by e t x (find_last (is_commitment c) xs) (is_commitment c x)

other_number : (e : RowEnd) (b : Attempt) (x : Attempt) (c : Bool) → not ((if c then with_end e x else x).row.number == b.row.number) ≡ not (x.row.number == b.row.number)
other_number e b x true = refl
other_number e b x false = refl

held_same : (e : RowEnd) (t : ℕ) (b : Attempt) (o : Option Attempt)
    → holds (λ (k : Attempt). not (k.row.number == b.row.number)) (option_map (at_place (with_end e) t) o) ≡ holds (λ (k : Attempt). not (k.row.number == b.row.number)) o
held_same e t b None = refl
held_same e t b (Some x) = other_number e b x (x.place == t)

over_in : (e : RowEnd) (t : ℕ) (c : Call) (b : Attempt) (s u : Seen) → u.attempts ≡ map (at_place (with_end e) t) s.attempts → is_over_in c b u ≡ is_over_in c b s
over_in e t c b s u attempts =
    let H : Option Attempt → Bool = λ o. is_some c.end || holds (λ (k : Attempt). not (k.row.number == b.row.number)) o in
    ap (λ (xs : List Attempt). H (find_last (is_commitment c) xs)) attempts ∙ ap H (last_same e t c s.attempts)
    ∙ ap (λ (x : Bool). is_some c.end || x) (held_same e t b (commitment c s))

-- its call
over_by : (f : Call → Call) (b : Attempt) (s u : Seen) (x : Bool) (o : Option Call) → ((c : Call) → is_over_in (f c) b u ≡ is_over_in c b u) → ((c : Call) → is_over_in c b u ≡ is_over_in c b s)
    → holds (λ (c : Call). is_over_in c b u) (option_map (λ c. if x then f c else c) o) ≡ holds (λ (c : Call). is_over_in c b s) o
over_by f b s u x None noted same = refl
over_by f b s u true (Some c) noted same = noted c ∙ same c
over_by f b s u false (Some c) noted same = same c

over_same : (e : RowEnd) (t call : ℕ) (f : Call → Call) (b : Attempt) (s u : Seen) → u.attempts ≡ map (at_place (with_end e) t) s.attempts
    → call_of b u ≡ option_map (λ c. if b.row.call == call then f c else c) (call_of b s) → ((c : Call) → is_over_in (f c) b u ≡ is_over_in c b u) → is_over b u ≡ is_over b s
over_same e t call f b s u attempts calls noted =
    ap (λ (o : Option Call). holds (λ (c : Call). is_over_in c b u) o) calls
    ∙ over_by f b s u (b.row.call == call) (call_of b s) noted (λ c. over_in e t c b s u attempts)

-- its outcome
outcome_by : (b : Attempt) (s u : Seen) (o : Option ℕ) (k : Option Link) → response b u ≡ response b s → option_and_then (outcome_on b u o) k ≡ option_and_then (outcome_on b s o) k
outcome_by b s u o None same = refl
outcome_by b s u None (Some l) same = refl
outcome_by b s u (Some n) (Some l) same = ap (λ (p : Response). option_or p.end (if is_some l.over then Some lost_end else None)) same

outcome_same : (b : Attempt) (s u : Seen) → u.links ≡ s.links → response b u ≡ response b s → outcome_of b u ≡ outcome_of b s
outcome_same b s u links same =
    ap (λ (ls : List Link). option_and_then (outcome_on b u b.row.stream) (option_and_then (λ (at : Placed). numbered ls at.link) b.row.placed)) links
    ∙ outcome_by b s u b.row.stream (option_and_then (λ (at : Placed). numbered s.links at.link) b.row.placed) same

-- what is about to end it
none_map : {X Y : Type 0} (F G : X → Y) (o : Option X) → option_map F o ≡ None → option_map G o ≡ None
none_map F G None e = refl
none_map F G (Some x) e = absurd (let no : ⊥ = (cc) in no)

end_by : {X Y : Type 0} (F G : X → Y) (c : Bool) (o : Option X) → (if c then option_map F o else None) ≡ None → (if c then option_map G o else None) ≡ None
end_by F G true o e = none_map F G o e
end_by F G false o e = refl

still_none : (b : Attempt) (s u : Seen) → is_over b u ≡ is_over b s → outcome_of b u ≡ outcome_of b s → wire_end s b ≡ None → wire_end u b ≡ None
still_none b s u over outcome none =
    let F : Seen → Outcome → Action = λ v t. action.AttemptEnds b.place (end_of b t v) in
    let no : Option Action = None in
    ap (λ (x : Bool). if is_outstanding b && not x then option_map (F u) (outcome_of b u) else no) over
    ∙ ap (λ (o : Option Outcome). if is_outstanding b && not (is_over b s) then option_map (F u) o else no) outcome
    ∙ end_by (F s) (F u) (is_outstanding b && not (is_over b s)) (outcome_of b s) none

-- one of them
ended_quiet : (l : Link) (u : Seen) (e : RowEnd) (x : Attempt) → IsQuiet l u (with_end e x)
ended_quiet l u e x =
    let none : Option Action = None in
    let out : is_outstanding_on l (with_end e x) ≡ false = never_out (is_some x.row.placed) (holds (λ (at : Placed). at.link == l.number) x.row.placed) in
    record {
      here = λ on. absurd (let both : true ≡ false = sym on ∙ out in let no : ⊥ = (cc) in no);
      elsewhere = λ off. ended_none (is_some x.row.placed) (not (is_over (with_end e x) u)) (option_map (λ t. action.AttemptEnds x.place (end_of (with_end e x) t u)) (outcome_of (with_end e x) u));
    }
  where
    ended_none : (a b : Bool) (o : Option Action) → (if (a && false) && b then o else None) ≡ None
    ended_none true b o = refl
    ended_none false b o = refl

all_quiet : (l : Link) (s u : Seen) (e : RowEnd) (t : ℕ) (xs : List Attempt) → ((b : Attempt) → is_over b u ≡ is_over b s) → ((b : Attempt) → outcome_of b u ≡ outcome_of b s)
    → AllByRecursion (IsQuiet l s) xs → AllByRecursion (IsQuiet l u) (map (at_place (with_end e) t) xs)
all_quiet l s u e t [] over outcome all = tt
all_quiet l s u e t (x ∷ xs) over outcome all = (
  on_if (IsQuiet l u) (x.place == t) (with_end e x) x (λ h. ended_quiet l u e x)
      (λ h. record { here = λ on. over x ∙ all.0.here on; elsewhere = λ off. still_none x s u (over x) (outcome x) (all.0.elsewhere off) }),
  all_quiet l s u e t xs over outcome all.1,
)

pub ends_keep_quiet : EndsKeepQuiet
ends_keep_quiet l s t a e there places all =
    let runs : List ThrottleRun = (option_map_or (with_end_in_run a e s) (call_of a s) s).runs in
    let draws : Bool = is_some e.word in
    let u : Seen = ended_seen draws a.row.call t e runs s in
    let attempts : u.attempts ≡ map (at_place (with_end e) t) s.attempts = changed_at (with_end e) t s.attempts a places there in
    let F : Seen → Type 0 = λ v. AllByRecursion (IsQuiet l v) v.attempts in
    let limit : (b : Attempt) → response b u ≡ response b s
    = λ b. response_alike s u b b refl (limit_ended s draws a.row.call t e runs b) (λ j. traffic_itself (numbered s.links j)) in
    subst F (sym (is_ended s t e a places there))
    (subst (AllByRecursion (IsQuiet l u)) (sym attempts)
    (all_quiet l s u e t s.attempts
    (λ b. over_same e t a.row.call (noted_call (mark.Ended t) (now s)) b s u attempts (changed_any (noted_call (mark.Ended t) (now s)) a.row.call b.row.call s.calls) (λ c. refl))
    (λ b. outcome_same b s u refl (limit b)) all))
