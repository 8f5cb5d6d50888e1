-- The attempts on a link that is over end by that.
use Rattle.std.proofs.Common.{◌≡◌, ◌∷◌, ◌||◌, ◌&&◌, ◌==◌, not, ap, arith, refl, sym, ◌∙◌, Bool, true, false, List, [], Option, None, Some, ℕ, ◌+◌, suc, cond, filter, if◌then◌else◌, is_some, option_and_then, option_map, slice_get}
use Rattle.std.specs.List.{AllByRecursion}
use Rattle.std.specs.Option.{option_or}
use Rattle.std.proofs.lemmas.Bool.{eqb-true}
use Rattle.attempt_ledger.specs.declared.row.Placed.{Placed}
use Rattle.attempt_ledger.specs.declared.row.RowEnd.{RowEnd}
use Rattle.grpc_base.specs.ErrorCodes.{cancel}
use Rattle.link_actions.proofs.Lists.{if_true, on_if}
use Rattle.link_actions.specs.Sees.{AttemptsStandInPlace}
use Rattle.link_actions.specs.LossActions.Laws.{EndsAreLosses, IsQuiet, LossesAreReported, LossesGoInOrder, NoneIsReset, loss_action}
use Rattle.link_actions.specs.LossActions.Sees.{IsGoing, SeesOver, loss_of}
use Rattle.session_actions.specs.AttemptEnds.{code_at_end, code_for_stream, code_to_reset, end_of, is_framing, is_reset, lost_end, outcome_of, outcome_on, unsent_end, wire_end}
use Rattle.session_actions.specs.Attempts.{is_outstanding, is_over}
use Rattle.session_actions.specs.Entries.{entry}
use Rattle.session_actions.specs.Links.{has_written_end, is_retiring, link_of}
use Rattle.session_actions.specs.Reading.{is_outstanding_on}
use Rattle.session_actions.specs.Responses.{response}
use Rattle.session_actions.specs.Words.{first_of, holds, numbered}
use Rattle.session_actions.specs.declared.action.Action.{Action}
use Rattle.session_actions.specs.declared.action.Action.TheVariants as action
use Rattle.session_actions.specs.declared.attempt.Attempt.{Attempt}
use Rattle.session_actions.specs.declared.link.Link.{Link}
use Rattle.session_actions.specs.declared.response.Outcome.{Outcome}
use Rattle.session_actions.specs.declared.seen.Seen.{Seen}
use Rattle.link_actions.proofs.StreamActions.Going.{response_is}
use Rattle.link_actions.specs.StreamActions.Sees.{response_of}

-- the link of an attempt
linked : (l : Link) (s : Seen) (o : Option Placed) → numbered s.links l.number ≡ Some l → holds (λ (at : Placed). at.link == l.number) o ≡ true
    → option_and_then (λ (at : Placed). numbered s.links at.link) o ≡ Some l
linked l s None here e = absurd (cc)
linked l s (Some at) here e = ap (numbered s.links) (eqb-true at.link l.number e) ∙ here

parts : (a b : Bool) → (a && b) ≡ true → (a ≡ true) × (b ≡ true)
parts true true e = (refl, refl)
parts true false e = absurd (cc)
parts false b e = absurd (cc)

pub link_is : (l : Link) (s : Seen) (a : Attempt) → numbered s.links l.number ≡ Some l → is_outstanding_on l a ≡ true → link_of a s ≡ Some l
link_is l s a at out =
    let two = parts (is_outstanding a) (holds (λ (x : Placed). x.link == l.number) a.row.placed) out in
    linked l s a.row.placed at two.1

-- how it ends
by_stream_ : (l : Link) (s : Seen) (a : Attempt) (o : Option ℕ) → SeesOver l s → numbered s.attempts a.place ≡ Some a → is_outstanding_on l a ≡ true → a.row.stream ≡ o
    → outcome_on a s o l ≡ Some (loss_of o)
by_stream_ l s a None is there out e =
    let none : Option Outcome = None in
    if_true (is_some l.over || is_retiring l) (Some unsent_end) none (ap (λ (b : Bool). b || is_retiring l) is.over)
by_stream_ l s a (Some n) is there out e =
    let none : Option Outcome = None in
    let going : IsGoing (response_of l s n a) = is.goes n a (record { there = there; out = out; stream = e }) in
    let goes : (response a s).end ≡ None = ap (λ p. p.end) (response_is l s n a is.at out e) ∙ going.goes in
    ap (λ (o : Option Outcome). option_or o (if is_some l.over then Some lost_end else None)) goes
    ∙ if_true (is_some l.over) (Some lost_end) none is.over

pub ends_are_losses : EndsAreLosses
ends_are_losses l s a is there out =
    ap (λ (o : Option Link). option_and_then (outcome_on a s a.row.stream) o) (link_is l s a is.at out)
    ∙ by_stream_ l s a a.row.stream is there out refl

pub losses_are_reported : LossesAreReported
losses_are_reported None seen = refl
losses_are_reported (Some n) seen = refl

-- the lowest place comes first
each_there : (ys : List Attempt) (n : ℕ) (xs : List Attempt) → ((i : ℕ) → slice_get xs i ≡ slice_get ys (n + i)) → AttemptsStandInPlace (n + 1) xs → AllByRecursion (λ a. numbered ys a.place ≡ Some a) xs
each_there ys n [] at places = tt
each_there ys n (x ∷ xs) at places =
    let place : x.place ≡ n + 1 = places.0 in
    let here : x.place ≡ suc (n + 0) = omega (arith, place) in
    let more : (i : ℕ) → slice_get xs i ≡ slice_get ys (n + 1 + i)
    = λ i. at (suc i) ∙ ap (slice_get ys) (let e : n + suc i ≡ n + 1 + i = omega arith in e) in (
      ap (numbered ys) here ∙ sym (at 0),
      each_there ys (n + 1) xs more places.1,
    )

pub all_there : (s : Seen) → AttemptsStandInPlace 1 s.attempts → AllByRecursion (λ a. numbered s.attempts a.place ≡ Some a) s.attempts
all_there s places = each_there s.attempts 0 s.attempts (λ i. ap (slice_get s.attempts) (let e : i ≡ 0 + i = omega arith in e)) places

here_ends : (l : Link) (s : Seen) (a : Attempt) → SeesOver l s → numbered s.attempts a.place ≡ Some a → is_outstanding_on l a ≡ true → is_over a s ≡ false
    → wire_end s a ≡ Some (loss_action s a)
here_ends l s a is there out open_ =
    let none : Option Action = None in
    let two = parts (is_outstanding a) (holds (λ (x : Placed). x.link == l.number) a.row.placed) out in
    if_true (is_outstanding a && not (is_over a s)) (option_map (λ t. action.AttemptEnds a.place (end_of a t s)) (outcome_of a s)) none
    (ap (λ (b : Bool). b && not (is_over a s)) two.0 ∙ ap not open_)
    ∙ ap (option_map (λ t. action.AttemptEnds a.place (end_of a t s))) (ends_are_losses l s a is there out)

order_by : (l : Link) (s : Seen) (x : Attempt) (xs : List Attempt) (b : Bool) → is_outstanding_on l x ≡ b → SeesOver l s → numbered s.attempts x.place ≡ Some x → IsQuiet l s x
    → first_of (wire_end s) xs ≡ option_map (loss_action s) (slice_get (filter (is_outstanding_on l) xs) 0)
    → first_of (wire_end s) (x ∷ xs) ≡ option_map (loss_action s) (slice_get (cond b (x ∷ filter (is_outstanding_on l) xs) (filter (is_outstanding_on l) xs)) 0)
order_by l s x xs true out is there quiet rest = ap (λ (o : Option Action). option_or o (first_of (wire_end s) xs)) (here_ends l s x is there out (quiet.here out))
order_by l s x xs false out is there quiet rest = ap (λ (o : Option Action). option_or o (first_of (wire_end s) xs)) (quiet.elsewhere out) ∙ rest

in_order : (l : Link) (s : Seen) (xs : List Attempt) → SeesOver l s → AllByRecursion (λ a. numbered s.attempts a.place ≡ Some a) xs → AllByRecursion (IsQuiet l s) xs
    → first_of (wire_end s) xs ≡ option_map (loss_action s) (slice_get (filter (is_outstanding_on l) xs) 0)
in_order l s [] is there quiet = refl
in_order l s (x ∷ xs) is there quiet = order_by l s x xs (is_outstanding_on l x) refl is there.0 quiet.0 (in_order l s xs is there.1 quiet.1)

pub losses_go_in_order : LossesGoInOrder
losses_go_in_order l s is quiet = in_order l s s.attempts is (all_there s is.places) quiet

-- no stream is reset
never_or : (r o x : Bool) → o ≡ true → (r || o || x) ≡ true
never_or true o x e = refl
never_or false true x e = refl
never_or false false x e = absurd (cc)

none_by : (l : Link) (s : Seen) (a : Attempt) (e : RowEnd) (o : Option ℕ) → link_of a s ≡ Some l → is_some l.over ≡ true → option_and_then (code_for_stream a e s) o ≡ None
none_by l s a e None link is = refl
none_by l s a e (Some n) link is =
    let none : Option ℕ = None in
    let code : code_to_reset a e n s l ≡ None
    = if_true (is_reset e.cause || is_some l.over || (has_written_end n l && (response a s).closes)) none
    (if is_framing e.cause then option_and_then (λ t. t.reset) (response a s).end else Some cancel)
    (never_or (is_reset e.cause) (is_some l.over) (has_written_end n l && (response a s).closes) is) in
    on_if (λ (c : Option ℕ). c ≡ None) ((e.entry == entry s) && not a.reset) (option_and_then (code_to_reset a e n s) (link_of a s)) none
    (λ h. ap (option_and_then (code_to_reset a e n s)) link ∙ code) (λ h. refl)

ended_by : (l : Link) (s : Seen) (a : Attempt) (o : Option RowEnd) → link_of a s ≡ Some l → is_some l.over ≡ true → option_and_then (code_at_end a s) o ≡ None
ended_by l s a None link is = refl
ended_by l s a (Some e) link is = none_by l s a e a.row.stream link is

pub none_is_reset : NoneIsReset
none_is_reset l s a link is = ended_by l s a a.row.ended link is
