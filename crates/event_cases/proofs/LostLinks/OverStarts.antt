-- A link is over, lost or broken: its subchannel went down, and before the first attempt on it ends nothing else is about to end one.
use Rattle.std.proofs.Common.{◌≡◌, ◌&&◌, ◌==◌, ap, refl, sym, ◌∙◌, not, Bool, true, false, List, [], Option, None, Some, ℕ, suc, ◌∷◌, if◌then◌else◌, is_some, option_map, slice_get}
use Rattle.std.proofs.lemmas.Bool.{and_parts, eq-eqb}
use Rattle.std.specs.List.{AllByRecursion, list_any}
use Rattle.attempt_ledger.specs.declared.row.Placed.{Placed}
use Rattle.call_cases.proofs.EndsFollow.Steps.{placed_of}
use Rattle.channel_actions.proofs.Stamps.{counted_at}
use Rattle.channel_actions.specs.KeptSessions.Kept.{IsKept}
use Rattle.channel_actions.specs.Sets.{is_in_outstanding}
use Rattle.event_cases.proofs.LostLinks.After.{IsAt as IsOn, is_at, link_is, outcome_in, outcome_is, over_still, quiet_still}
use Rattle.channel_core.specs.States.{StateSeen}
use Rattle.link_actions.specs.LossActions.Laws.{IsQuiet}
use Rattle.link_actions.specs.LossActions.Sees.{SeesOver}
use Rattle.session_actions.specs.AttemptEnds.{end_of, outcome_of, wire_end}
use Rattle.session_actions.specs.Attempts.{is_outstanding, is_over}
use Rattle.session_actions.specs.Links.{link_number}
use Rattle.session_actions.specs.Reading.{is_outstanding_on}
use Rattle.session_actions.specs.Responses.{limit_of_attempt}
use Rattle.session_actions.specs.Words.{holds, numbered}
use Rattle.session_actions.specs.declared.action.Action.TheVariants as action
use Rattle.session_actions.specs.declared.action.Action.{Action}
use Rattle.session_actions.specs.declared.attempt.Attempt.{Attempt}
use Rattle.session_actions.specs.declared.entry.OpenEntry.{OpenEntry}
use Rattle.session_actions.specs.declared.link.Link.{Link}
use Rattle.session_actions.specs.declared.response.Outcome.{Outcome}
use Rattle.session_actions.specs.declared.seen.Seen.{Seen}
use Rattle.session_order.proofs.Changed.{passes_not}
use Rattle.session_order.specs.Quiescent.{is_to_cut, is_to_end}
use Rattle.session_order.specs.declared.line.Line.TheVariants as line
use Rattle.event_cases.proofs.LostLinks.Down.{IsDown}
use Rattle.event_cases.proofs.LostLinks.Over.{GoesOver, away_v, l, p, v}
use Rattle.event_cases.proofs.LostLinks.OverAgrees.{dn, kept_t, t, there_t}
use Rattle.link_actions.specs.LossActions.Laws.{with_over}
use Rattle.session_actions.specs.declared.link.LinkOver.{LinkOver}

second : (a b : Bool) → a ≡ true → (a && b) ≡ false → b ≡ false
second true b e f = f
second false b e f = absurd (cc)

none_of : {X : Type 0} (q : Option X) → is_some q ≡ false → q ≡ None
none_of None e = refl
none_of (Some z) e = absurd (cc)

no_outcome : (a : Attempt) (s : Seen) → is_outstanding a ≡ true → is_over a s ≡ false → is_to_end s a ≡ false → outcome_of a s ≡ None
no_outcome a s out over none =
    none_of (outcome_of a s)
    (second (is_outstanding a && not (is_over a s)) (is_some (outcome_of a s)) (ap (λ (b : Bool). b && not (is_over a s)) out ∙ ap not over) none)

no_action : (q : Option Action) → q ≡ None → (b : Bool) → (if b then q else None) ≡ None
no_action q none true = none
no_action q none false = refl

module _ (why : LinkOver) (act : Action) (link : ℕ) (x : StateSeen) (o : OpenEntry) (s : Seen) (g : GoesOver why act link x o s) where
  abbrev k : Link
  k = l why act link x o s g

  abbrev pub lost : Link
  lost = with_over why k

  abbrev mid : Seen
  mid = v why act link x o s g

  abbrev pub q : OpenEntry
  q = p why act link x o s g

  abbrev pub after_ : Seen
  after_ = t why act link x o s g

  abbrev down : IsDown link x q s mid
  down = dn why act link x o s g

  pub own : k.number ≡ link
  own = counted_at (λ (z : Link). z.number) s.links link k g.agrees.kept.links g.there

  kept_mid : IsKept mid
  kept_mid = g.kept

  kept_after : IsKept after_
  kept_after = kept_t why act link x o s g

  pub attempts_same : after_.attempts ≡ s.attempts
  attempts_same = ap (λ (z : Seen). z.attempts) down.boarded

  fewer : (m row : ℕ) → is_in_outstanding after_ m row ≡ true → is_in_outstanding mid m row ≡ true
  fewer m row on = ap (λ (xs : List Attempt). holds (λ (a : Attempt). is_outstanding a && (link_number a == m)) (numbered xs row)) (sym attempts_same) ∙ on

  uncut_mid : list_any (is_to_cut mid) mid.attempts ≡ false
  uncut_mid = g.still line.Cut refl refl

  -- the link
  over_mid : SeesOver lost mid
  over_mid = g.over

  lost_there : numbered after_.links lost.number ≡ Some lost
  lost_there = ap (numbered after_.links) own ∙ there_t why act link x o s g

  pub over_after : SeesOver lost after_
  over_after = over_still mid after_ kept_mid kept_after down.passed fewer lost lost over_mid lost_there refl (placed_of 1 after_.attempts kept_after.book.places)

  -- attempts elsewhere
  not_over : (row : ℕ) (a : Attempt) → numbered s.attempts row ≡ Some a → is_outstanding a ≡ true → is_over a mid ≡ false
  not_over row a here out = second (is_outstanding a) (is_over a mid) out (passes_not (is_to_cut mid) s.attempts row a uncut_mid here)

  not_over_s : (row : ℕ) (a : Attempt) → numbered s.attempts row ≡ Some a → is_outstanding a ≡ true → is_over a s ≡ false
  not_over_s row a here out = second (is_outstanding a) (is_over a s) out (passes_not (is_to_cut s) s.attempts row a (g.quiescent line.Cut) here)

  other_link : (a : Attempt) (z : IsOn a) → is_outstanding a ≡ true → is_outstanding_on lost a ≡ false → z.at.link ≡ link → ⊥
  other_link a z out off same =
      let none : holds (λ (at : Placed). at.link == lost.number) a.row.placed ≡ false = second (is_outstanding a) (holds (λ (at : Placed). at.link == lost.number) a.row.placed) out off in
      let here : (z.at.link == lost.number) ≡ false = sym (ap (holds (λ (at : Placed). at.link == lost.number)) z.placed) ∙ none in
      let bad : true ≡ false = sym (eq-eqb z.at.link lost.number (same ∙ sym own)) ∙ here in
      (cc)

  outcome_same : (a : Attempt) → is_outstanding a ≡ true → is_outstanding_on lost a ≡ false → outcome_of a mid ≡ outcome_of a s
  outcome_same a out off =
      let z : IsOn a = is_at a out in
      outcome_is a mid z.going
      ∙ ap (outcome_in (limit_of_attempt a s) a.row.stream)
      (link_is a z mid ∙ away_v why act link x o s g z.at.link (other_link a z out off) ∙ sym (link_is a z s))
      ∙ sym (outcome_is a s z.going)

  goes_by : (row : ℕ) (a : Attempt) (b : Bool) → numbered s.attempts row ≡ Some a → is_outstanding a ≡ b → is_outstanding_on lost a ≡ false → wire_end mid a ≡ None
  goes_by row a false here out off =
      ap (λ (b : Bool). if b && not (is_over a mid) then option_map (λ (z : Outcome). action.AttemptEnds a.place (end_of a z mid)) (outcome_of a mid) else None) out
  goes_by row a true here out off =
      let none : outcome_of a mid ≡ None
      = outcome_same a out off ∙ no_outcome a s out (not_over_s row a here out) (passes_not (is_to_end s) s.attempts row a (g.quiescent line.WireEnd) here) in
      ap (λ (r : Option Outcome). if is_outstanding a && not (is_over a mid) then option_map (λ (z : Outcome). action.AttemptEnds a.place (end_of a z mid)) r else None) none
      ∙ no_action None refl (is_outstanding a && not (is_over a mid))

  quiet_one : (row : ℕ) (a : Attempt) → numbered s.attempts row ≡ Some a → IsQuiet lost mid a
  quiet_one row a here = record {
    here = λ on. not_over row a here (and_parts (is_outstanding a) (holds (λ (at : Placed). at.link == lost.number) a.row.placed) on).0;
    elsewhere = λ off. goes_by row a (is_outstanding a) here refl off;
  }

  all_quiet : (xs : List Attempt) → ((i : ℕ) (a : Attempt) → slice_get xs i ≡ Some a → IsQuiet lost mid a) → AllByRecursion (IsQuiet lost mid) xs
  all_quiet [] each = tt
  all_quiet (a ∷ xs) each = (each 0 a refl, all_quiet xs (λ i b here. each (suc i) b here))

  quiet_mid : AllByRecursion (IsQuiet lost mid) mid.attempts
  quiet_mid = all_quiet s.attempts (λ i a here. quiet_one (suc i) a here)

  pub quiet_after : AllByRecursion (IsQuiet lost after_) after_.attempts
  quiet_after = quiet_still mid after_ kept_mid kept_after down.passed fewer uncut_mid (down.still line.Cut refl) lost lost refl quiet_mid
