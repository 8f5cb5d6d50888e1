-- From the commitment of a call to the state in which its other attempts are cut off, one by one.
use Rattle.std.proofs.Common.{◌≡◌, ◌+◌, ◌==◌, ◌∷◌, ◌++◌, ◌&&◌, ◌||◌, not, append-nil, append_assoc, ap, refl, subst, sym, ◌∙◌, Bool, true, false, List, [], Option, None, Some, ℕ, zero, suc, cond, filter, fold, if◌then◌else◌, is_none, is_some, length, map, slice_get}
use Rattle.std.proofs.lemmas.Bool.{and_parts, eqb-true}
use Rattle.std.proofs.lemmas.List.{length-map, map-append}
use Rattle.std.proofs.lemmas.List.Elements.{filter-append}
use Rattle.std.specs.List.{list_all}
use Rattle.std.specs.Option.{option_map, option_map_or, option_or}
use Rattle.attempt_ledger.specs.declared.ledger.CallEnd.{CallEnd}
use Rattle.attempt_ledger.specs.declared.row.RowEnd.{RowEnd}
use Rattle.call_actions.proofs.Lists.{changed_here}
use Rattle.grpc_base.specs.declared.plan.CallPlan.{CallPlan}
use Rattle.grpc_base.specs.declared.plan.CallPlan.TheVariants as plan
use Rattle.session_actions.specs.Actions.{after}
use Rattle.session_actions.specs.AttemptEnds.{cut, cut_end, end_of, with_end}
use Rattle.session_actions.specs.Attempts.{call_of, commitment, is_commitment, is_of, is_outstanding, is_over, is_over_in}
use Rattle.session_actions.specs.Configs.{plan_of}
use Rattle.session_actions.specs.Entries.{entry, last_moment, now}
use Rattle.session_actions.specs.Tokens.{plan_of_attempt, run_of, tokens_after, tokens_by, tokens_in}
use Rattle.session_actions.specs.Words.{changed, find_last, first_of, holds, numbered}
use Rattle.session_actions.specs.declared.action.Action.{Action}
use Rattle.session_actions.specs.declared.action.Action.TheVariants as action
use Rattle.session_actions.specs.declared.attempt.Attempt.{Attempt}
use Rattle.session_actions.specs.declared.call.Call.{Call}
use Rattle.session_actions.specs.declared.call.Mark.{Mark}
use Rattle.session_actions.specs.declared.call.MarkKind.TheVariants as mark
use Rattle.session_actions.specs.declared.config.ThrottleRun.{ThrottleRun}
use Rattle.session_actions.specs.declared.entry.OpenEntry.{OpenEntry}
use Rattle.session_actions.specs.declared.seen.Seen.{Seen}
use Rattle.call_actions.proofs.TakeActions.CutAttempts.{becomes, end_by_cut, ended_mark, final, half, is_cut_off}
use Rattle.call_actions.proofs.TakeActions.CutLive.{last_map, none_if}
use Rattle.call_actions.proofs.TakeActions.CutOne.{becomes_more, changed_there, marked_also, numbered_there, one_is_cut, undrawn}
use Rattle.call_actions.proofs.TakeActions.CutTokens.{no_cut}
use Rattle.call_actions.proofs.TakeActions.Maps.{all_from, first_append, holds_map}
use Rattle.call_actions.proofs.TakeActions.Retold.{read_same}
use Rattle.call_actions.specs.TakeActions.Cuts.{AttemptsAreCut, next_cut_of}
use Rattle.call_actions.specs.TakeActions.Serves.{AttemptsStandInPlace, is_ended_at}

-- attempts that the tokens see alike
abbrev pub Like : Attempt → Attempt → Type 0
Like x y = (y.row.call ≡ x.row.call) × (is_some x.row.ended ≡ true → y.row.ended ≡ x.row.ended)

abbrev pub Alike : List Attempt → List Attempt → Type 0
Alike [] [] = Unit {0}
Alike [] (y ∷ ys) = ⊥
Alike (x ∷ xs) [] = ⊥
Alike (x ∷ xs) (y ∷ ys) = Like x y × Alike xs ys

abbrev pub number_of : Option Attempt → Option ℕ
number_of o = option_map (λ (a : Attempt). a.row.number) o

abbrev pub half_of : (Attempt → Option ℕ) → Attempt → Attempt
half_of stamp a = record a { row = half stamp a }

-- what makes the attempts of a call over: its end, or a commitment of this number
abbrev pub is_gone : Option CallEnd → Option ℕ → Attempt → Bool
is_gone end number a = is_some end || holds (λ (n : ℕ). not (n == a.row.number)) number

module _ (s : Seen) (c : Call) (own : numbered s.calls c.number ≡ Some c) (stamp : Attempt → Option ℕ) (gone : Attempt → Bool) (end : Option CallEnd) (first : Mark)
    (over : (a : Attempt) → is_gone end (number_of (find_last (is_commitment c) (map (half_of stamp) s.attempts))) a ≡ gone a)
    (gone_same : (a b : Attempt) → a.row.number ≡ b.row.number → gone a ≡ gone b) (tokens : Option ℕ) (count : option_map (λ (run : ThrottleRun). tokens_in run s) (run_of c s) ≡ tokens)
    (counted : option_map_or (λ (run : ThrottleRun). list_all (is_ended_at s) run.ends) (run_of c s) true ≡ true) where
  abbrev pub whole_at : Attempt → Attempt
  whole_at a = final (entry s) (now s) tokens s c.number stamp gone a

  abbrev pub half_at : Attempt → Attempt
  half_at a = half_of stamp a

  abbrev pub is_off : Attempt → Bool
  is_off a = is_cut_off c.number gone a

  pub ended_if : (q : Attempt) (b : Bool) → b ≡ false → (if b then Some (end_by_cut (entry s) (now s) tokens s q) else q.row.ended) ≡ q.row.ended
  ended_if q true f = absurd (cc)
  ended_if q false f = refl

  pub ended_kept : (q : Attempt) → is_some q.row.ended ≡ true → (whole_at q).row.ended ≡ q.row.ended
  ended_kept q e = ended_if q (is_off q) (no_cut (q.row.call == c.number) (is_some q.row.placed) (is_some q.row.ended) (gone q) e)

  abbrev pub marks_for : List Attempt → List Mark
  marks_for prefix = first ∷ map (ended_mark (now s)) (filter is_off prefix)

  abbrev pub at_point : List Attempt → List Attempt → Option OpenEntry → Seen
  at_point prefix rest current = record s {
    attempts = map whole_at prefix ++ map half_at rest;
    calls = changed (becomes end (marks_for prefix)) c.number s.calls;
    current = current;
  }

  module _ (prefix rest : List Attempt) (current : Option OpenEntry) (all : s.attempts ≡ prefix ++ rest) where
    abbrev pub here : Seen
    here = at_point prefix rest current

    abbrev pub marked_call : Call
    marked_call = becomes end (marks_for prefix) c

    pub own_here : numbered here.calls c.number ≡ Some marked_call
    own_here = changed_here (becomes end (marks_for prefix)) c.number s.calls c own

    -- the commitment, by its number
    abbrev pub shade : Attempt → Attempt
    shade a = record a { row = record a.row { ended = None } }

    pub shades : (xs ys : List Attempt) → map shade (map whole_at xs ++ map half_at ys) ≡ map shade (map half_at (xs ++ ys))
    shades [] [] = refl
    shades [] (y ∷ ys) = ap (λ (l : List Attempt). shade (half_at y) ∷ l) (shades [] ys)
    shades (x ∷ xs) ys = ap (λ (l : List Attempt). shade (half_at x) ∷ l) (shades xs ys)

    pub number_shade : (o : Option Attempt) → number_of (option_map shade o) ≡ number_of o
    number_shade None = refl
    number_shade (Some a) = refl

    pub by_shade : (xs : List Attempt) → number_of (find_last (is_commitment c) (map shade xs)) ≡ number_of (find_last (is_commitment c) xs)
    by_shade xs =
        ap number_of (last_map (is_commitment c) (is_commitment c) shade xs (all_from (λ (a : Attempt). is_commitment c (shade a) ≡ is_commitment c a) (λ a. refl) xs))
        ∙ number_shade (find_last (is_commitment c) xs)

    pub number_here : number_of (commitment marked_call here) ≡ number_of (find_last (is_commitment c) (map half_at s.attempts))
    number_here =
        sym (by_shade (map whole_at prefix ++ map half_at rest))
        ∙ ap (λ (l : List Attempt). number_of (find_last (is_commitment c) l)) (shades prefix rest)
        ∙ by_shade (map half_at (prefix ++ rest))
        ∙ ap (λ (l : List Attempt). number_of (find_last (is_commitment c) (map half_at l))) (sym all)

    pub over_here : (a : Attempt) → is_of c a ≡ true → is_over a here ≡ gone a
    over_here a e =
        let call : a.row.call ≡ c.number = eqb-true a.row.call c.number e in
        ap (λ (n : ℕ). holds (λ (d : Call). is_over_in d a here) (numbered here.calls n)) call
        ∙ ap (holds (λ (d : Call). is_over_in d a here)) own_here
        ∙ ap (λ (b : Bool). is_some end || b) (holds_map (λ (n : ℕ). not (n == a.row.number)) (λ (q : Attempt). q.row.number) (commitment marked_call here))
        ∙ ap (λ (o : Option ℕ). is_gone end o a) number_here ∙ over a

    -- the tokens
    pub alike : (xs ys : List Attempt) → Alike (xs ++ ys) (map whole_at xs ++ map half_at ys)
    alike [] [] = tt
    alike [] (y ∷ ys) = ((refl, λ e. refl), alike [] ys)
    alike (x ∷ xs) ys = ((refl, λ e. ended_kept x e), alike xs ys)

    pub plan_here : (a : Attempt) → plan_of_attempt a here ≡ plan_of_attempt a s
    plan_here a = read_same (becomes end (marks_for prefix)) c.number s.calls (λ (d : Call). plan_of d s) plan.None (λ d. refl) a.row.call

    pub like_tokens : (run : ThrottleRun) (j : ℕ) (x y : Attempt) → Like x y → is_some x.row.ended ≡ true → tokens_by run here j (Some y) ≡ tokens_by run s j (Some x)
    like_tokens run j x y like e =
        ap (λ (o : Option RowEnd). option_map_or (λ (z : RowEnd). tokens_after run.throttle (plan_of_attempt y here) z.code z.pushback j) o j) (like.1 e)
        ∙ ap (λ (p : CallPlan). option_map_or (λ (z : RowEnd). tokens_after run.throttle p z.code z.pushback j) x.row.ended j)
        (plan_here y ∙ ap (λ (n : ℕ). option_map_or (λ (d : Call). plan_of d s) (numbered s.calls n) plan.None) like.0)

    pub alike_from : (run : ThrottleRun) (j i : ℕ) (xs ys : List Attempt) → Alike xs ys → holds (λ (q : Attempt). is_some q.row.ended) (slice_get xs i) ≡ true
        → tokens_by run here j (slice_get ys i) ≡ tokens_by run s j (slice_get xs i)
    alike_from run j i [] [] like e = absurd (cc)
    alike_from run j i [] (y ∷ ys) like e = absurd like
    alike_from run j i (x ∷ xs) [] like e = absurd like
    alike_from run j zero (x ∷ xs) (y ∷ ys) like e = like_tokens run j x y like.0 e
    alike_from run j (suc i) (x ∷ xs) (y ∷ ys) like e = alike_from run j i xs ys like.1 e

    pub alike_at : (run : ThrottleRun) (j place : ℕ) → is_ended_at s place ≡ true
        → tokens_by run here j (numbered here.attempts place) ≡ tokens_by run s j (numbered s.attempts place)
    alike_at run j zero e = absurd (cc)
    alike_at run j (suc i) e =
        alike_from run j i s.attempts here.attempts (subst (λ (l : List Attempt). Alike l here.attempts) (sym all) (alike prefix rest)) e

    pub tokens_here : (run : ThrottleRun) (j : ℕ) (list : List ℕ) → list_all (is_ended_at s) list ≡ true
        → fold (λ (n place : ℕ). tokens_by run here n (numbered here.attempts place)) j list
        ≡ fold (λ (n place : ℕ). tokens_by run s n (numbered s.attempts place)) j list
    tokens_here run j [] e = refl
    tokens_here run j (place ∷ list) e =
        let both : (is_ended_at s place ≡ true) × (list_all (is_ended_at s) list ≡ true) = and_parts (is_ended_at s place) (list_all (is_ended_at s) list) e in
        ap (λ (n : ℕ). fold (λ (n place : ℕ). tokens_by run here n (numbered here.attempts place)) n list) (alike_at run j place both.0)
        ∙ tokens_here run (tokens_by run s j (numbered s.attempts place)) list both.1

    pub count_by_run : (o : Option ThrottleRun) → option_map_or (λ (run : ThrottleRun). list_all (is_ended_at s) run.ends) o true ≡ true
        → option_map (λ (run : ThrottleRun). tokens_in run here) o ≡ option_map (λ (run : ThrottleRun). tokens_in run s) o
    count_by_run None e = refl
    count_by_run (Some run) e = ap (λ (n : ℕ). Some n) (tokens_here run run.throttle.start run.ends e)

    pub count_here : option_map (λ (run : ThrottleRun). tokens_in run here) (run_of marked_call here) ≡ tokens
    count_here = count_by_run (run_of c s) counted ∙ count

    -- none of the prefix is to be cut any more
    pub off_bools : (ps en gone_now : Bool) → ((ps && (if (true && ((ps && en) && gone_now)) then false else en)) && gone_now) ≡ false
    off_bools true true true = refl
    off_bools true true false = refl
    off_bools true false true = refl
    off_bools true false false = refl
    off_bools false en gone_now = refl

    pub passed_one : (x : Attempt) → is_of c x ≡ true → cut here (whole_at x) ≡ None
    passed_one x e =
        let ps : Bool = is_some x.row.placed in
        let en : Bool = is_none x.row.ended in
        let act : Action = action.AttemptEnds x.place (end_of (whole_at x) cut_end here) in
        let going : is_none (whole_at x).row.ended ≡ (if (true && ((ps && en) && gone x)) then false else en)
        = none_if (is_off x) (end_by_cut (entry s) (now s) tokens s x) x.row.ended ∙ ap (λ (b : Bool). if (b && ((ps && en) && gone x)) then false else en) e in
        ap (λ (b : Bool). if (ps && is_none (whole_at x).row.ended) && b then Some act else None) (over_here (whole_at x) e ∙ gone_same (whole_at x) x refl)
        ∙ ap (λ (b : Bool). if (ps && b) && gone x then Some act else None) going
        ∙ ap (λ (b : Bool). if b then Some act else None) (off_bools ps en (gone x))

    pub passed_if : (x : Attempt) (xs : List Attempt) (b : Bool) → is_of c x ≡ b → first_of (cut here) (filter (λ (a : Attempt). a.row.call == c.number) xs) ≡ None
        → first_of (cut here) (cond b (whole_at x ∷ filter (λ (a : Attempt). a.row.call == c.number) xs) (filter (λ (a : Attempt). a.row.call == c.number) xs)) ≡ None
    passed_if x xs true e rest =
        ap (λ (o : Option Action). option_or o (first_of (cut here) (filter (λ (a : Attempt). a.row.call == c.number) xs))) (passed_one x e) ∙ rest
    passed_if x xs false e rest = rest

    pub passed : (xs : List Attempt) → first_of (cut here) (filter (λ (a : Attempt). a.row.call == c.number) (map whole_at xs)) ≡ None
    passed [] = refl
    passed (x ∷ xs) = passed_if x (map whole_at xs) (is_of c x) refl (passed xs)

  -- where all were looked at, none is left
  pub none_left : (prefix : List Attempt) (current : Option OpenEntry) → s.attempts ≡ prefix → next_cut_of c.number (at_point prefix [] current) ≡ None
  none_left prefix current all =
      ap (λ (l : List Attempt). first_of (cut (at_point prefix [] current)) (filter (λ (a : Attempt). a.row.call == c.number) l)) (append-nil (map whole_at prefix))
      ∙ passed prefix [] current (all ∙ sym (append-nil prefix)) prefix

  -- the next one is not to be cut
  pub marks_if : (prefix : List Attempt) (a : Attempt) (b : Bool) → is_off a ≡ b → filter is_off (prefix ++ (a ∷ [])) ≡ filter is_off prefix ++ cond b (a ∷ []) []
  marks_if prefix a b e = filter-append is_off prefix (a ∷ []) ∙ ap (λ (z : Bool). filter is_off prefix ++ cond z (a ∷ []) []) e

  pub half_is_whole : (a : Attempt) → is_off a ≡ false → half_at a ≡ whole_at a
  half_is_whole a e =
      sym (ap (λ (b : Bool). record a { row = record (half_at a).row { ended = if b then Some (end_by_cut (entry s) (now s) tokens s a) else a.row.ended } }) e)

  pub list_moved : (prefix rest : List Attempt) (a x : Attempt) → x ≡ whole_at a → map whole_at prefix ++ (x ∷ map half_at rest) ≡ map whole_at (prefix ++ (a ∷ [])) ++ map half_at rest
  list_moved prefix rest a x e =
      ap (λ (z : Attempt). map whole_at prefix ++ (z ∷ map half_at rest)) e
      ∙ sym (append_assoc (map whole_at prefix) (whole_at a ∷ []) (map half_at rest))
      ∙ ap (λ (l : List Attempt). l ++ map half_at rest) (sym (map-append whole_at prefix (a ∷ [])))

  abbrev pub put_at : List Attempt → List Mark → Option OpenEntry → Seen
  put_at attempts marks current = record s { attempts = attempts; calls = changed (becomes end marks) c.number s.calls; current = current }

  pub pass_by : (prefix rest : List Attempt) (a : Attempt) (current : Option OpenEntry) → is_off a ≡ false
      → at_point prefix (a ∷ rest) current ≡ at_point (prefix ++ (a ∷ [])) rest current
  pass_by prefix rest a current e =
      ap (λ (l : List Attempt). put_at l (marks_for prefix) current) (list_moved prefix rest a (half_at a) (half_is_whole a e))
      ∙ ap (λ (l : List Attempt). put_at (map whole_at (prefix ++ (a ∷ [])) ++ map half_at rest) (first ∷ map (ended_mark (now s)) l) current)
      (sym (marks_if prefix a false e ∙ append-nil (filter is_off prefix)))

  -- the next one is cut
  pub whole_is_cut : (a : Attempt) → is_off a ≡ true → with_end (end_by_cut (entry s) (now s) tokens s a) (half_at a) ≡ whole_at a
  whole_is_cut a e =
      sym (ap (λ (b : Bool). record a { row = record (half_at a).row { ended = if b then Some (end_by_cut (entry s) (now s) tokens s a) else a.row.ended } }) e)

  pub three : (x y z : Bool) → (x && (y && z)) ≡ true → (x ≡ true) × (y ≡ true) × (z ≡ true)
  three true true true e = (refl, refl, refl)
  three true true false e = absurd (cc)
  three true false z e = absurd (cc)
  three false y z e = absurd (cc)

  module _ (prefix rest : List Attempt) (a : Attempt) (o : OpenEntry) (all : s.attempts ≡ prefix ++ (a ∷ rest)) (at : a.place ≡ suc (length prefix))
      (opened : is_some s.current ≡ true) (moment : o.moment ≡ now s) (off : is_off a ≡ true) where
    abbrev pub there : Seen
    there = at_point prefix (a ∷ rest) (Some o)

    pub parts_of : (is_of c a ≡ true) × (is_outstanding a ≡ true) × (gone a ≡ true)
    parts_of = three (is_of c a) (is_outstanding a) (gone a) off

    pub entry_there : entry there ≡ entry s
    entry_there = ap (λ (b : Bool). length s.entries + (if b then 1 else 0)) (sym opened)

    pub number_there : numbered there.attempts a.place ≡ Some (half_at a)
    number_there =
        let long : a.place ≡ suc (length (map whole_at prefix)) = at ∙ ap suc (sym (length-map prefix whole_at)) in
        numbered_there (map whole_at prefix) (half_at a) (map half_at rest) a.place long

    pub call_there : call_of (half_at a) there ≡ Some (becomes end (marks_for prefix) c)
    call_there =
        ap (numbered there.calls) (eqb-true a.row.call c.number parts_of.0) ∙ own_here prefix (a ∷ rest) (Some o) all

    abbrev pub act : Action
    act = action.AttemptEnds a.place (end_of (half_at a) cut_end there)

    pub cut_there : cut there (half_at a) ≡ Some act
    cut_there =
        ap (λ (b : Bool). if b && is_over (half_at a) there then Some act else None) parts_of.1
        ∙ ap (λ (b : Bool). if b then Some act else None) (over_here prefix (a ∷ rest) (Some o) all (half_at a) parts_of.0 ∙ gone_same (half_at a) a refl ∙ parts_of.2)

    abbrev pub is_own : Attempt → Bool
    is_own q = q.row.call == c.number

    pub next_there : next_cut_of c.number there ≡ Some act
    next_there =
        ap (first_of (cut there)) (filter-append is_own (map whole_at prefix) (half_at a ∷ map half_at rest))
        ∙ first_append (cut there) (filter is_own (map whole_at prefix)) (filter is_own (half_at a ∷ map half_at rest))
        ∙ ap (λ (z : Option Action). option_or z (first_of (cut there) (filter is_own (half_at a ∷ map half_at rest)))) (passed prefix (a ∷ rest) (Some o) all prefix)
        ∙ ap (λ (b : Bool). first_of (cut there) (cond b (half_at a ∷ filter is_own (map half_at rest)) (filter is_own (map half_at rest)))) parts_of.0
        ∙ ap (λ (z : Option Action). option_or z (first_of (cut there) (filter is_own (map half_at rest)))) cut_there

    pub end_there : end_by_cut (entry there) (now there) tokens there (half_at a) ≡ end_by_cut (entry s) (now s) tokens s a
    end_there =
        ap (λ (i : ℕ). end_by_cut i o.moment tokens s a) entry_there ∙ ap (λ (m : ℕ). end_by_cut (entry s) m tokens s a) moment

    pub left_there : after act there ≡ at_point (prefix ++ (a ∷ [])) rest (Some (undrawn o))
    left_there =
        let long : a.place ≡ suc (length (map whole_at prefix)) = at ∙ ap suc (sym (length-map prefix whole_at)) in
        let e : RowEnd = end_by_cut (entry s) (now s) tokens s a in
        one_is_cut there (half_at a) (becomes end (marks_for prefix) c) tokens number_there call_there (count_here prefix (a ∷ rest) (Some o) all)
        ∙ ap (λ (z : RowEnd). record s {
          attempts = changed (with_end z) a.place there.attempts;
          calls = changed (marked_also (ended_mark o.moment a)) a.row.call there.calls;
          current = Some (undrawn o);
        }) end_there
        ∙ ap (λ (l : List Attempt). record s { attempts = l; calls = changed (marked_also (ended_mark o.moment a)) a.row.call there.calls; current = Some (undrawn o) })
        (changed_there (with_end e) (map whole_at prefix) (half_at a) (map half_at rest) a.place long
        ∙ list_moved prefix rest a (with_end e (half_at a)) (whole_is_cut a off))
        ∙ ap (λ (m : ℕ). record s {
          attempts = map whole_at (prefix ++ (a ∷ [])) ++ map half_at rest;
          calls = changed (marked_also (record { what = mark.Ended a.place; moment = m })) a.row.call there.calls;
          current = Some (undrawn o);
        }) moment
        ∙ ap (λ (n : ℕ). record s {
          attempts = map whole_at (prefix ++ (a ∷ [])) ++ map half_at rest;
          calls = changed (marked_also (ended_mark (now s) a)) n there.calls;
          current = Some (undrawn o);
        }) (eqb-true a.row.call c.number parts_of.0)
        ∙ ap (λ (calls : List Call). record s { attempts = map whole_at (prefix ++ (a ∷ [])) ++ map half_at rest; calls = calls; current = Some (undrawn o) })
        (becomes_more end (marks_for prefix) (ended_mark (now s) a) c.number s.calls c own)
        ∙ ap (λ (l : List Mark). put_at (map whole_at (prefix ++ (a ∷ [])) ++ map half_at rest) (first ∷ l) (Some (undrawn o)))
        (sym (map-append (ended_mark (now s)) (filter is_off prefix) (a ∷ [])))
        ∙ ap (λ (l : List Attempt). put_at (map whole_at (prefix ++ (a ∷ [])) ++ map half_at rest) (first ∷ map (ended_mark (now s)) l) (Some (undrawn o)))
        (sym (marks_if prefix a true off))

  pub longer_by : (prefix : List Attempt) (a : Attempt) → length (prefix ++ (a ∷ [])) ≡ suc (length prefix)
  longer_by [] a = refl
  longer_by (x ∷ prefix) a = ap suc (longer_by prefix a)

  -- all of them
  pub record Walked (u : Seen) : Type 0 where
    pub actions : List Action
    pub entry_now : OpenEntry
    pub cuts : AttemptsAreCut c.number actions u (at_point s.attempts [] (Some entry_now))

  pub walk_by : (prefix rest : List Attempt) (a : Attempt) (o : OpenEntry) (b : Bool) → is_off a ≡ b → s.attempts ≡ prefix ++ (a ∷ rest) → a.place ≡ suc (length prefix)
      → is_some s.current ≡ true → o.moment ≡ now s
      → ((p : OpenEntry) → p.moment ≡ now s → Walked (at_point (prefix ++ (a ∷ [])) rest (Some p))) → Walked (at_point prefix (a ∷ rest) (Some o))
  walk_by prefix rest a o false off all at opened moment others = subst Walked (sym (pass_by prefix rest a (Some o) off)) (others o moment)
  walk_by prefix rest a o true off all at opened moment others =
      let w : Walked (at_point (prefix ++ (a ∷ [])) rest (Some (undrawn o))) = others (undrawn o) moment in
      record {
        actions = act prefix rest a o all at opened moment off ∷ w.actions;
        entry_now = w.entry_now;
        cuts = (
          next_there prefix rest a o all at opened moment off,
          subst (λ (u : Seen). AttemptsAreCut c.number w.actions u (at_point s.attempts [] (Some w.entry_now))) (sym (left_there prefix rest a o all at opened moment off)) w.cuts,
        );
      }

  pub walk : (rest prefix : List Attempt) (o : OpenEntry) → s.attempts ≡ prefix ++ rest → AttemptsStandInPlace (suc (length prefix)) rest → is_some s.current ≡ true → o.moment ≡ now s
      → Walked (at_point prefix rest (Some o))
  walk [] prefix o all p opened moment =
      let same : s.attempts ≡ prefix = all ∙ append-nil prefix in
      let done : Walked (at_point s.attempts [] (Some o)) = record { actions = []; entry_now = o; cuts = (none_left s.attempts (Some o) refl, refl) } in
      subst (λ (l : List Attempt). Walked (at_point l [] (Some o))) same done
  walk (a ∷ rest) prefix o all p opened moment =
      let long : suc (length prefix) ≡ length (prefix ++ (a ∷ [])) = sym (longer_by prefix a) in
      walk_by prefix rest a o (is_off a) refl all p.0 opened moment
      (λ q m. walk rest (prefix ++ (a ∷ [])) q (all ∙ sym (append_assoc prefix (a ∷ []) rest)) (subst (λ (n : ℕ). AttemptsStandInPlace (suc n) rest) long p.1) opened m)

  pub walked : (o : OpenEntry) (u : Seen) → s.current ≡ Some o → AttemptsStandInPlace 1 s.attempts → u ≡ at_point [] s.attempts s.current → Walked u
  walked o u opened places e =
      subst Walked (sym (e ∙ ap (at_point [] s.attempts) opened))
      (walk s.attempts [] o refl places (ap (λ (z : Option OpenEntry). is_some z) opened)
      (sym (ap (λ (z : Option OpenEntry). option_map_or (λ (p : OpenEntry). p.moment) z (last_moment s)) opened)))
