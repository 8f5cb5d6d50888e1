-- The attempts of a call that is committed to one of them, once the others are cut off: what a session says of them.
use Rattle.std.proofs.Common.{◌≡◌, ◌==◌, ◌∷◌, ◌++◌, ◌&&◌, not, ap, refl, subst, sym, ◌∙◌, Bool, true, false, List, [], Option, None, Some, ℕ, fold, if◌then◌else◌, is_none, is_some, map}
use Rattle.std.proofs.lemmas.Grind.{fold-append}
use Rattle.std.specs.List.{list_any}
use Rattle.std.specs.Option.{option_map, option_map_or}
use Rattle.std.specs.Prelude.{count_by}
use Rattle.attempt_ledger.specs.Numbering.{is_transparent}
use Rattle.attempt_ledger.specs.Throttling.{codes_of}
use Rattle.attempt_ledger.specs.TransparentRows.{is_refused}
use Rattle.attempt_ledger.specs.declared.ledger.CallEnd.{CallEnd}
use Rattle.attempt_ledger.specs.declared.row.Row.{Row}
use Rattle.attempt_ledger.specs.declared.row.RowEnd.{RowEnd}
use Rattle.call_core.specs.Parts as parts
use Rattle.grpc_base.specs.Codes.{has_code}
use Rattle.grpc_base.specs.declared.plan.CallPlan.{CallPlan}
use Rattle.grpc_base.specs.declared.plan.CallPlan.TheVariants as plan
use Rattle.grpc_base.specs.declared.plan.Pushback.{Pushback}
use Rattle.grpc_base.specs.declared.plan.Pushback.TheVariants as pushback
use Rattle.session_actions.specs.Attempts.{counts_by, is_later_of, is_of, is_outstanding, was_refused}
use Rattle.session_actions.specs.Configs.{plan_of}
use Rattle.session_actions.specs.DueAttempts.{due_after_end, due_after_making, due_after_mark, due_by_plan, due_state, hedge_forced, no_due}
use Rattle.session_actions.specs.Links.{link_of, read_bytes}
use Rattle.session_actions.specs.Tokens.{allows_attempt}
use Rattle.session_actions.specs.Words.{holds, is_number, numbered}
use Rattle.session_actions.specs.declared.attempt.Attempt.{Attempt}
use Rattle.session_actions.specs.declared.call.Call.{Call}
use Rattle.session_actions.specs.declared.call.Mark.{Mark}
use Rattle.session_actions.specs.declared.call.MarkKind.{MarkKind}
use Rattle.session_actions.specs.declared.call.MarkKind.TheVariants as mark
use Rattle.session_actions.specs.declared.due.DueState.{DueState}
use Rattle.session_actions.specs.declared.seen.Seen.{Seen}
use Rattle.call_actions.proofs.TakeActions.Maps.{any_map, count_map, numbered_each}

-- an attempt is cut off where it is outstanding, of the call, and gone for it
abbrev pub is_cut_off : ℕ → (Attempt → Bool) → Attempt → Bool
is_cut_off n gone a = (a.row.call == n) && (is_outstanding a && gone a)

-- the whole end of it
abbrev pub end_by_cut : ℕ → ℕ → Option ℕ → Seen → Attempt → RowEnd
end_by_cut entry moment tokens s a = parts.cut_end entry moment (option_map_or read_bytes (link_of a s) 0) tokens

-- what then becomes of each attempt: it may be committed, or cut off
abbrev pub half : (Attempt → Option ℕ) → Attempt → Row
half stamp a = record a.row { committed = stamp a }

abbrev pub final : ℕ → ℕ → Option ℕ → Seen → ℕ → (Attempt → Option ℕ) → (Attempt → Bool) → Attempt → Attempt
final entry moment tokens s n stamp gone a = record a {
  row = record (half stamp a) { ended = if is_cut_off n gone a then Some (end_by_cut entry moment tokens s a) else a.row.ended };
}

-- of a call that is committed to one attempt: the others are gone
abbrev pub stamp_of : ℕ → Attempt → Attempt → Option ℕ
stamp_of entry k a = if k.place == a.place then Some entry else a.row.committed

abbrev pub gone_by : Attempt → Attempt → Bool
gone_by k a = not (k.row.number == a.row.number)

abbrev pub finally : ℕ → ℕ → Option ℕ → Seen → Call → Attempt → Attempt → Attempt
finally entry moment tokens s c k a = final entry moment tokens s c.number (stamp_of entry k) (gone_by k) a

-- the marks
abbrev pub ended_mark : ℕ → Attempt → Mark
ended_mark moment a = record { what = mark.Ended a.place; moment = moment }

-- what happened to the call, with its end
abbrev pub becomes : Option CallEnd → List Mark → Call → Call
becomes end marks c = record c { marks = c.marks ++ marks; end = end }

-- what is known of the newest attempt
abbrev pub Same : DueState → DueState → Type 0
Same d e = (d.newest ≡ e.newest) × (d.placed ≡ e.placed)

pub same_trans : (d e g : DueState) → Same d e → Same e g → Same d g
same_trans d e g one two = (one.0 ∙ two.0, one.1 ∙ two.1)

pub same_if : (b : Bool) (d e g : DueState) → Same d g → Same e g → Same (if b then d else e) g
same_if true d e g one two = one
same_if false d e g one two = two

pub hedge_keeps : (p : Pushback) (allowed : Bool) (e : RowEnd) (d : DueState) → Same (hedge_forced p allowed e d) d
hedge_keeps pushback.Stop allowed e d = (refl, refl)
hedge_keeps (pushback.After millis) allowed e d = (refl, refl)
hedge_keeps pushback.None allowed e d = (refl, refl)

pub plan_keeps : (p : CallPlan) (c : Call) (a : Attempt) (s : Seen) (d : DueState) (e : RowEnd) → Same (due_by_plan p c a s d e) d
plan_keeps plan.None c a s d e = (refl, refl)
plan_keeps (plan.Retry p) c a s d e = (refl, refl)
plan_keeps (plan.Hedge p) c a s d e = hedge_keeps e.pushback (allows_attempt c e.tokens s) e d

pub end_keeps : (c : Call) (s : Seen) (d : DueState) (a : Attempt) (e : RowEnd) → Same (due_after_end c s d a e) d
end_keeps c s d a e =
    same_if (not d.stopped && counts_by a s e && has_code (codes_of (plan_of c s)) e.code) (due_by_plan (plan_of c s) c a s d e) d d
    (plan_keeps (plan_of c s) c a s d e) (refl, refl)

pub ends_keep : (c : Call) (s : Seen) (d : DueState) (a : Attempt) (o : Option RowEnd) → Same (option_map_or (due_after_end c s d a) o d) d
ends_keep c s d a None = (refl, refl)
ends_keep c s d a (Some e) = end_keeps c s d a e

pub ended_keeps : (c : Call) (s : Seen) (d : DueState) (o : Option Attempt)
    → Same (option_map_or (λ (a : Attempt). option_map_or (due_after_end c s d a) a.row.ended d) o d) d
ended_keeps c s d None = (refl, refl)
ended_keeps c s d (Some a) = ends_keep c s d a a.row.ended

-- where no further attempt is made, none is by an end
pub end_stays : (c : Call) (s : Seen) (d : DueState) (a : Attempt) (e : RowEnd) → d.stopped ≡ true → (due_after_end c s d a e).stopped ≡ true
end_stays c s d a e h =
    ap (λ (b : Bool). (if not b && counts_by a s e && has_code (codes_of (plan_of c s)) e.code then due_by_plan (plan_of c s) c a s d e else d).stopped) h ∙ h

pub ends_stay : (c : Call) (s : Seen) (d : DueState) (a : Attempt) (o : Option RowEnd) → d.stopped ≡ true → (option_map_or (due_after_end c s d a) o d).stopped ≡ true
ends_stay c s d a None h = h
ends_stay c s d a (Some e) h = end_stays c s d a e h

pub ended_stays : (c : Call) (s : Seen) (d : DueState) (o : Option Attempt) → d.stopped ≡ true
    → (option_map_or (λ (a : Attempt). option_map_or (due_after_end c s d a) a.row.ended d) o d).stopped ≡ true
ended_stays c s d None h = h
ended_stays c s d (Some a) h = ends_stay c s d a a.row.ended h

module _ (s t : Seen) (c d : Call) (f : Attempt → Attempt) (same_place : (a : Attempt) → (f a).place ≡ a.place) (same_kind : (a : Attempt) → (f a).row.kind ≡ a.row.kind)
    (attempts : t.attempts ≡ map f s.attempts) where
  pub made_if : (a : Attempt) (b : Bool) (x y : DueState) → Same x y
      → Same (if b then x else record x { newest = Some (f a).place; placed = None; forced = None }) (if b then y else record y { newest = Some a.place; placed = None; forced = None })
  made_if a true x y h = h
  made_if a false x y h = (ap (λ (n : ℕ). Some n) (same_place a), refl)

  pub made_same : (o : Option Attempt) (x y : DueState) → Same x y → Same (option_map_or (due_after_making x) (option_map f o) x) (option_map_or (due_after_making y) o y)
  made_same None x y h = h
  made_same (Some a) x y h =
      subst (λ (b : Bool). Same (if b then x else record x { newest = Some (f a).place; placed = None; forced = None }) (due_after_making y a))
      (sym (ap is_transparent (same_kind a))) (made_if a (is_transparent a.row.kind) x y h)

  pub at_row : (row : ℕ) → numbered t.attempts row ≡ option_map f (numbered s.attempts row)
  at_row row = ap (λ (l : List Attempt). numbered l row) attempts ∙ numbered_each f s.attempts row

  pub placed_if : (b : Bool) (moment : ℕ) (x y : DueState) → Same x y → Same (if b then record x { placed = Some moment } else x) (if b then record y { placed = Some moment } else y)
  placed_if true moment x y h = (h.0, refl)
  placed_if false moment x y h = h

  pub mark_same : (w : MarkKind) (moment : ℕ) (x y : DueState) → Same x y → Same (due_after_mark d t w moment x) (due_after_mark c s w moment y)
  mark_same mark.Configured moment x y h = h
  mark_same (mark.Made row) moment x y h =
      subst (λ (o : Option Attempt). Same (option_map_or (due_after_making x) o x) (option_map_or (due_after_making y) (numbered s.attempts row) y))
      (sym (at_row row)) (made_same (numbered s.attempts row) x y h)
  mark_same (mark.Placed row) moment x y h =
      subst (λ (o : Option ℕ). Same (if is_number row o then record x { placed = Some moment } else x) (if is_number row y.newest then record y { placed = Some moment } else y))
      (sym h.0) (placed_if (is_number row y.newest) moment x y h)
  mark_same (mark.Ended row) moment x y h =
      let one : Same (due_after_mark d t (mark.Ended row) moment x) x = ended_keeps d t x (numbered t.attempts row) in
      let two : Same (due_after_mark c s (mark.Ended row) moment y) y = ended_keeps c s y (numbered s.attempts row) in
      (one.0 ∙ h.0 ∙ sym two.0, one.1 ∙ h.1 ∙ sym two.1)
  mark_same mark.Withheld moment x y h = h
  mark_same mark.Committed moment x y h = h
  mark_same mark.Closed moment x y h = h

  pub marks_same : (marks : List Mark) (x y : DueState) → Same x y
      → Same (fold (λ (z : DueState) (m : Mark). due_after_mark d t m.what m.moment z) x marks) (fold (λ (z : DueState) (m : Mark). due_after_mark c s m.what m.moment z) y marks)
  marks_same [] x y h = h
  marks_same (m ∷ marks) x y h = marks_same marks (due_after_mark d t m.what m.moment x) (due_after_mark c s m.what m.moment y) (mark_same m.what m.moment x y h)

  -- the ends of those that are cut
  pub cuts_keep : (moment : ℕ) (cuts : List Attempt) (x : DueState) → x.stopped ≡ true
      → Same (fold (λ (z : DueState) (m : Mark). due_after_mark d t m.what m.moment z) x (map (ended_mark moment) cuts)) x
      × ((fold (λ (z : DueState) (m : Mark). due_after_mark d t m.what m.moment z) x (map (ended_mark moment) cuts)).stopped ≡ true)
  cuts_keep moment [] x h = ((refl, refl), h)
  cuts_keep moment (a ∷ cuts) x h =
      let y : DueState = due_after_mark d t (mark.Ended a.place) moment x in
      let one : Same y x = ended_keeps d t x (numbered t.attempts a.place) in
      let rest : Same (fold (λ (z : DueState) (m : Mark). due_after_mark d t m.what m.moment z) y (map (ended_mark moment) cuts)) y
      × ((fold (λ (z : DueState) (m : Mark). due_after_mark d t m.what m.moment z) y (map (ended_mark moment) cuts)).stopped ≡ true)
      = cuts_keep moment cuts y (ended_stays d t x (numbered t.attempts a.place) h) in
      (same_trans (fold (λ (z : DueState) (m : Mark). due_after_mark d t m.what m.moment z) y (map (ended_mark moment) cuts)) y x rest.0 one, rest.1)

  -- a mark after which no further attempt is made, and the ends of those that are cut
  pub due_stopped : (first : MarkKind) (moment : ℕ) (cuts : List Attempt) → ((z : DueState) → due_after_mark d t first moment z ≡ record z { stopped = true })
      → d.marks ≡ c.marks ++ (record { what = first; moment = moment } ∷ map (ended_mark moment) cuts)
      → ((due_state d t).newest ≡ (due_state c s).newest) × ((due_state d t).placed ≡ (due_state c s).placed) × ((due_state d t).stopped ≡ true)
  due_stopped first moment cuts stops marks =
      let step : DueState → Mark → DueState = λ (z : DueState) (m : Mark). due_after_mark d t m.what m.moment z in
      let before : DueState = fold step no_due c.marks in
      let whole : due_state d t ≡ fold step (record before { stopped = true }) (map (ended_mark moment) cuts)
      = ap (fold step no_due) marks ∙ fold-append step no_due c.marks (record { what = first; moment = moment } ∷ map (ended_mark moment) cuts)
      ∙ ap (λ (z : DueState). fold step z (map (ended_mark moment) cuts)) (stops before) in
      let old : Same before (due_state c s) = marks_same c.marks no_due no_due (refl, refl) in
      let kept : Same (fold step (record before { stopped = true }) (map (ended_mark moment) cuts)) (record before { stopped = true })
      × ((fold step (record before { stopped = true }) (map (ended_mark moment) cuts)).stopped ≡ true)
      = cuts_keep moment cuts (record before { stopped = true }) refl in
      (ap (λ (z : DueState). z.newest) whole ∙ kept.0.0 ∙ old.0, ap (λ (z : DueState). z.placed) whole ∙ kept.0.1 ∙ old.1, ap (λ (z : DueState). z.stopped) whole ∙ kept.1)

pub out_of : (mine out gone : Bool) → (mine && (out && gone)) ≡ true → out ≡ true
out_of true true gone e = refl
out_of true false gone e = absurd (cc)
out_of false out gone e = absurd (cc)

-- an outstanding attempt has not ended
pub none_of : {X Y : Type 0} (placed : Option X) (ended : Option Y) → (is_some placed && is_none ended) ≡ true → ended ≡ None
none_of None ended e = absurd (cc)
none_of (Some x) None e = refl
none_of (Some x) (Some y) e = absurd (cc)

-- how many were made, and whether one was retried transparently
abbrev pub attempts_count : List Attempt → Call → ℕ
attempts_count attempts c = count_by (λ a. is_of c a && not (is_transparent a.row.kind)) attempts

abbrev pub retried_in : List Attempt → Call → Bool
retried_in attempts c = list_any (λ q. is_of c q && was_refused q && list_any (is_later_of q) attempts) attempts

module _ (entry moment : ℕ) (tokens : Option ℕ) (s : Seen) (c : Call) (stamp : Attempt → Option ℕ) (gone : Attempt → Bool) where
  abbrev pub ended_up : Attempt → Attempt
  ended_up a = final entry moment tokens s c.number stamp gone a

  pub made_still : attempts_count (map ended_up s.attempts) c ≡ attempts_count s.attempts c
  made_still =
      count_map (λ (a : Attempt). is_of c a && not (is_transparent a.row.kind)) (λ (a : Attempt). is_of c a && not (is_transparent a.row.kind)) ended_up (λ a. refl) s.attempts

  pub refused_by : (a : Attempt) (b : Bool) → is_cut_off c.number gone a ≡ b
      → holds is_refused (if b then Some (end_by_cut entry moment tokens s a) else a.row.ended) ≡ was_refused a
  refused_by a false e = refl
  refused_by a true e =
      sym (ap (holds is_refused) (none_of a.row.placed a.row.ended (out_of (a.row.call == c.number) (is_outstanding a) (gone a) e)))

  pub refused_still : (a : Attempt) → was_refused (ended_up a) ≡ was_refused a
  refused_still a = refused_by a (is_cut_off c.number gone a) refl

  pub followed_still : (a : Attempt) → list_any (is_later_of (ended_up a)) (map ended_up s.attempts) ≡ list_any (is_later_of a) s.attempts
  followed_still a = any_map (is_later_of (ended_up a)) (is_later_of a) ended_up (λ q. refl) s.attempts

  pub retried_one : (d : Call) (a : Attempt) → (is_of d (ended_up a) && was_refused (ended_up a) && list_any (is_later_of (ended_up a)) (map ended_up s.attempts))
      ≡ (is_of d a && was_refused a && list_any (is_later_of a) s.attempts)
  retried_one d a =
      ap (λ (b : Bool). (is_of d a && b) && list_any (is_later_of (ended_up a)) (map ended_up s.attempts)) (refused_still a)
      ∙ ap (λ (b : Bool). (is_of d a && was_refused a) && b) (followed_still a)

  pub retried_still : (d : Call) → retried_in (map ended_up s.attempts) d ≡ retried_in s.attempts d
  retried_still d =
      any_map (λ (q : Attempt). is_of d q && was_refused q && list_any (is_later_of q) (map ended_up s.attempts))
      (λ (q : Attempt). is_of d q && was_refused q && list_any (is_later_of q) s.attempts) ended_up (retried_one d) s.attempts
