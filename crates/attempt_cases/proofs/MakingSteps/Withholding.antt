-- A hedge is withheld while others of its call go on: the session goes on to a point of the same settling, where none of its call is due any more.
use Rattle.std.proofs.Common.{◌≡◌, ◌∙◌, ◌==◌, ◌&&◌, ◌||◌, ◌+◌, ◌++◌, ◌∷◌, Bool, true, false, not, List, [], Option, None, Some, ℕ, ap, refl, subst, sym, if◌then◌else◌, is_none, nat_le, nat_lt, slice_set, ◌-◌, inl, inr}
use Rattle.std.proofs.lemmas.Bool.{and_parts, eqb-false}
use Rattle.std.specs.List.{list_any}
use Rattle.std.specs.Option.{option_map}
use Rattle.std.specs.Prelude.{option_and_then}
use Rattle.call_actions.proofs.Lists.{changed_away, changed_here}
use Rattle.call_actions.specs.CallsApart.Laws.{LinesAreFair, TokensStay}
use Rattle.call_actions.specs.CallsInTurn.Laws.{WithheldKeep}
use Rattle.call_actions.specs.Laws.{AttemptsAreDue, HedgesAreTested, HedgesAreWithheld}
use Rattle.call_actions.specs.Sees.{Sees, is_live}
use Rattle.call_core.specs.Parts as parts
use Rattle.call_core.specs.Parts.{is_above, is_tested, stopped_attempts}
use Rattle.call_core.specs.Steps as steps
use Rattle.call_core.specs.Steps.{Stepped, call_plan, lent}
use Rattle.call_core.specs.declared.state.CallState.{CallState}
use Rattle.channel_actions.proofs.Quiet.{or_parts_none}
use Rattle.channel_actions.proofs.Settles.{follows_by, is_with_open, with_open}
use Rattle.channel_actions.proofs.Links.Settings.Firsts.{none_numbered}
use Rattle.channel_actions.proofs.Stamps.{counted_at}
use Rattle.channel_actions.specs.Agrees.{Agrees}
use Rattle.channel_actions.specs.Calls.{HasSlot, lent_to}
use Rattle.channel_actions.specs.Quiescent.{IsAt}
use Rattle.call_cases.proofs.ConfigActions.NetLines.{clock_stays, over_stays, wish_stays}
use Rattle.attempt_cases.proofs.MakingSteps.Lists.{holds_alike, holds_changed}
use Rattle.attempt_cases.proofs.MakingSteps.Step.{first_six, none_at}
use Rattle.attempt_cases.proofs.MakingSteps.Withheld.{agrees_withheld, refused_is}
use Rattle.call_cases.specs.ConfiguredCalls.Laws.{Frames}
use Rattle.call_cases.specs.ConfiguredCalls.Steps.{timed}
use Rattle.attempt_cases.specs.MakingSteps.Laws.{DueNext, IsDueDone, LastIsWithheld, MakesByCases, OneIsMade, OneIsWithheld}
use Rattle.attempt_cases.specs.MakingSteps.Made.{with_withheld, withheld_slot}
use Rattle.call_cases.specs.SettlingActions.Sound.{IsSound}
use Rattle.call_cases.specs.SettlingActions.Steps.{IsTended, Leads}
use Rattle.channel_core.proofs.Places.{put_there}
use Rattle.channel_actions.proofs.Links.Settings.Slots.{asked_is, changed_slot_is, put_away, set_twice}
use Rattle.channel_core.specs.Books.{BookActs, deadline_of, due_at, placed_in_book, slot_at}
use Rattle.channel_core.specs.States.{StateSeen}
use Rattle.channel_core.specs.Steps.{call_asked, links_sealed, made_one, resets_taken, sealed, timers_moved, timers_moved_to, with_book}
use Rattle.channel_core.specs.Tables.{acted_as, changed_slot, tokens_in, with_timers}
use Rattle.channel_core.specs.declared.state.slots.CallSlot.{CallSlot}
use Rattle.grpc_base.specs.declared.plan.CallPlan.{CallPlan}
use Rattle.grpc_base.specs.declared.plan.CallPlan.TheVariants as plans
use Rattle.net_actions.specs.Laws.{ClockChanges, ClockRests, NoneConnects, TakeOversAreSame, WishesConnect}
use Rattle.session_actions.specs.Actions.{config_action, following, of_calls, of_links, of_policies, of_stage}
use Rattle.attempt_ledger.specs.Ends.{is_cut}
use Rattle.attempt_ledger.specs.declared.row.RowEnd.{RowEnd}
use Rattle.grpc_base.specs.Codes.{has_code}
use Rattle.session_actions.specs.Attempts.{commitment, counts_by, is_counted, is_followed, is_to_follow}
use Rattle.session_actions.specs.Commitments.{is_final_end, is_final_in, is_free_call}
use Rattle.session_actions.specs.Calls.{is_open_call}
use Rattle.session_actions.specs.Configs.{plan_of}
use Rattle.session_actions.specs.DueAttempts.{has_going, is_final, is_final_by, last_counted, next_due}
use Rattle.session_actions.specs.Entries.{now}
use Rattle.session_actions.specs.Making.{due_action, due_if_past, next_due_attempt, next_transparent}
use Rattle.session_actions.specs.Policies.{next_of_pass, next_of_queue, next_take_over}
use Rattle.session_actions.specs.Sessions.{Does}
use Rattle.session_actions.specs.Subchannels.{next_connected, next_of_clock}
use Rattle.session_actions.specs.Words.{changed, first_of, holds, is_number, numbered}
use Rattle.session_actions.specs.declared.action.Action.{Action}
use Rattle.session_actions.specs.declared.action.Action.TheVariants as action
use Rattle.session_actions.specs.declared.attempt.Attempt.{Attempt}
use Rattle.session_actions.specs.declared.call.Call.{Call}
use Rattle.session_actions.specs.declared.call.MarkKind.TheVariants as mark
use Rattle.session_actions.specs.declared.entry.OpenEntry.{OpenEntry}
use Rattle.session_actions.specs.declared.entry.Stage.TheVariants as stage
use Rattle.session_actions.specs.declared.seen.Seen.{Seen}
use Rattle.session_order.specs.Quiescent as order
use Rattle.session_order.specs.Quiescent.{IsStill}
use Rattle.session_order.specs.Laws.{QuiescenceIsExact, QueuesStir}
use Rattle.session_order.specs.Stirs.{stirs}
use Rattle.session_order.specs.declared.line.Line.{Line}
use Rattle.session_order.specs.declared.line.Line.TheVariants as line
use Rattle.attempt_cases.proofs.MakingSteps.WithheldNow.{IsWithheldNow, Either, none_of, either, made_not, some_row, any_live, has_some, stopped_plan, none_given, not_ahead, equal_numbers, same_slot, two_off, three}

three_back : (f c l : Bool) → (f && c && l) ≡ false → f ≡ true → c ≡ true → l ≡ false
three_back true true l e f g = e
three_back true false l e f g = absurd (let bad : false ≡ true = g in (cc))
three_back false c l e f g = absurd (let bad : false ≡ true = f in (cc))

both_off : (a b : Bool) → (a || b) ≡ false → (a ≡ false) × (b ≡ false)
both_off true b e = absurd (let bad : true ≡ false = e in (cc))
both_off false b e = (refl, e)

none_too : (p q : Attempt → Bool) → ((a : Attempt) → q a ≡ false → p a ≡ false) → (xs : List Attempt) → list_any q xs ≡ false → list_any p xs ≡ false
none_too p q each [] e = refl
none_too p q each (a ∷ xs) e =
    let both = both_off (q a) (list_any q xs) e in
    ap (λ (b : Bool). b || list_any p xs) (each a both.0) ∙ none_too p q each xs both.1

-- the channel's step
module _ (n due : ℕ) (slot : CallSlot) (x : StateSeen) (there : slot_at x.book n ≡ Some slot) (next : steps.next_due slot.call ≡ Some due)
    (passed : nat_lt x.book.moment due ≡ false)
    (tested : (is_tested (call_plan slot.call) slot.call.attempts && not (is_above (tokens_in x.book.buckets slot.bucket))) ≡ true)
    (live : parts.has_none slot.call.live ≡ false) (unsealed : x.resets ≡ []) where
  abbrev z : Stepped
  z = lent slot.call x.book.ledger (tokens_in x.book.buckets slot.bucket) []

  abbrev z1 : Stepped
  z1 = steps.with_attempts (stopped_attempts slot.call.attempts) z

  step_is : steps.made_due x.book.moment z ≡ z1
  step_is =
      ap (λ (q : Option ℕ). steps.made_if q x.book.moment z) next ∙ ap (λ (b : Bool). if b then z else steps.due_at x.book.moment due z) passed
      ∙ ap (λ (b : Bool). if b then steps.refused_due x.book.moment z else steps.made due z) tested ∙ refused_is x.book.moment z live

  abbrev slot1 : CallSlot
  slot1 = withheld_slot slot

  abbrev calls1 : List CallSlot
  calls1 = slice_set x.book.calls (n - 1) slot1

  abbrev booked : StateSeen
  booked = record x { book = record x.book { calls = calls1 } }

  there1 : slot_at booked.book n ≡ Some slot1
  there1 = put_there x.book.calls n slot slot1 there

  asked : call_asked (steps.made_due x.book.moment) n x ≡ timers_moved n booked
  asked =
      ap (λ (b : BookActs). with_book b n x)
      (asked_is (steps.made_due x.book.moment) n x.book slot there ∙ ap (λ (st : Stepped). placed_in_book (acted_as x.book.calls (n - 1) slot st) x.book) step_is)

  calls_are : changed_slot (with_timers (due_at (Some slot1)) (deadline_of (Some slot1))) calls1 n ≡ slice_set x.book.calls (n - 1) (timed slot1)
  calls_are =
      changed_slot_is (with_timers (due_at (Some slot1)) (deadline_of (Some slot1))) calls1 n slot1 there1 ∙ set_twice x.book.calls (n - 1) slot1 (timed slot1)

  timers_are : timers_moved n booked ≡ with_withheld n slot x
  timers_are =
      ap (λ (q : Option CallSlot). timers_moved_to n q booked) there1
      ∙ ap (λ (l : List CallSlot). record (with_withheld n slot x) { book = record (with_withheld n slot x).book { calls = l } }) calls_are

  sealed_is : sealed (with_withheld n slot x) ≡ with_withheld n slot x
  sealed_is =
      ap (λ (l : List ℕ). links_sealed l (resets_taken (with_withheld n slot x))) unsealed
      ∙ ap (λ (l : List ℕ). record (with_withheld n slot x) { resets = l }) (sym unsealed)

  pub withheld_is : made_one n x ≡ with_withheld n slot x
  withheld_is = ap sealed (asked ∙ timers_are) ∙ sealed_is

module _ (exact : QuiescenceIsExact) (stir : QueuesStir) (clocks : ClockChanges) (rests : ClockRests) (overs : TakeOversAreSame) (wishes : WishesConnect) (nones : NoneConnects)
    (frames : Frames) (tokens_stay : TokensStay) (fair : LinesAreFair) (withheld : HedgesAreWithheld) (keeps : WithheldKeep) (dues : AttemptsAreDue) (tested : HedgesAreTested)
    (x : StateSeen) (o : OpenEntry) (s0 : Seen) where
  abbrev s : Seen
  s = with_open o s0

  module _ (h : Agrees x s) (at : IsAt stage.Settling o s) (tended : IsTended o s) (c : Call) (there : numbered s.calls c.number ≡ Some c)
      (now_is : IsWithheldNow s c c.number) (first : next_due_attempt s ≡ Some (action.HedgeWithheld c.number)) (goes : has_going c s ≡ true) where
    abbrev does_it : Action
    does_it = action.HedgeWithheld c.number

    stage_gives : of_stage o s o.stage ≡ Some does_it
    stage_gives =
        ap (of_stage o s) at.stage_is
        ∙ first_six (next_of_clock s) (next_take_over s) (next_connected s) (first_of (config_action s) s.calls) (next_of_pass o s) (next_due_attempt s) (next_of_queue s)
        (Some action.EntryCloses) does_it tended.clock tended.take_over tended.connected tended.configs tended.pass first

    follows : following s ≡ Some does_it
    follows = follows_by (of_calls o s) (of_links o s) (of_policies o s) (of_stage o s o.stage) does_it at.quiescent.calls at.quiescent.links at.quiescent.policies stage_gives

    unretried : next_transparent s ≡ None
    unretried = (or_parts_none (next_transparent s) _ (or_parts_none _ _ at.quiescent.calls).1).0

    own : HasSlot x s c c.number
    own = h.calls.each c.number c there

    live : parts.has_none own.slot.call.live ≡ false
    live = has_some own.slot.call.live (ap some_row (sym own.sees.serves.sees.live) ∙ sym (any_live (is_live s c) s.attempts) ∙ goes)

    abbrev noted : Call → Call
    noted k = record k { marks = k.marks ++ record { what = mark.Withheld; moment = now s } ∷ [] }

    abbrev p : OpenEntry
    p = record o { turn = None }

    abbrev t : Seen
    t = record s { calls = changed noted c.number s.calls; current = Some p }

    abbrev y : StateSeen
    y = with_withheld c.number own.slot x

    abbrev slot2 : CallSlot
    slot2 = timed (withheld_slot own.slot)

    agrees : Agrees y t
    agrees =
        agrees_withheld frames tokens_stay fair withheld keeps dues x o s0 h c there now_is.is_open follows own.slot own.there own.sees live unretried

    own_now : numbered t.calls c.number ≡ Some (noted c)
    own_now = changed_here noted c.number s.calls c there

    after_own : HasSlot y t (noted c) c.number
    after_own = agrees.calls.each c.number (noted c) own_now

    after_slot : after_own.slot ≡ slot2
    after_slot = same_slot slot2 after_own.slot (slot_at y.book c.number) (put_there x.book.calls c.number own.slot slot2 own.there) after_own.there

    own_sees : Sees t (noted c) (lent_to y t slot2)
    own_sees = subst (λ (k : CallSlot). Sees t (noted c) (lent_to y t k)) after_slot after_own.sees.serves.sees

    -- no end is final that was not
    counts_same : (a : Attempt) (e : RowEnd) → counts_by a t e ≡ counts_by a s e
    counts_same a e =
        ap (λ (b : Bool). not (is_cut e.cause) && not (is_followed a s) && not (not (is_followed a s) && b))
        (holds_changed noted c.number s.calls (λ (k : Call). is_to_follow k e.cause e.unseen s) (λ k. refl) a.row.call)

    counted_same : (a : Attempt) → is_counted a t ≡ is_counted a s
    counted_same a = holds_alike (counts_by a t) (counts_by a s) (λ e. counts_same a e) a.row.ended

    free_of : (k : Call) → is_free_call s k ≡ true → commitment k s ≡ None
    free_of k e = none_of (commitment k s) (and_parts (is_none k.end) (is_none (commitment k s)) e).1

    final_other : (k : Call) (m n : CallSlot) → Sees s k (lent_to x s m) → Sees t k (lent_to y t n) → n.call ≡ m.call → commitment k s ≡ None → (a : Attempt) (e : RowEnd) (q : CallPlan)
        → is_final_by q k a s e ≡ false → is_final_by q k a t e ≡ false
    final_other k m n a b same none q e plans.None off = off
    final_other k m n a b same none q e (plans.Retry r) off = off
    final_other k m n a b same none q e (plans.Hedge r) off =
        let before : last_counted k s ≡ m.call.attempts.last = a.attempts.last (sym a.attempts.committed ∙ ap (option_map (λ (z : Attempt). z.place)) none) in
        let after : last_counted k t ≡ n.call.attempts.last = b.attempts.last (sym b.attempts.committed ∙ ap (option_map (λ (z : Attempt). z.place)) none) in
        let counted : last_counted k t ≡ last_counted k s = after ∙ ap (λ (z : CallState). z.attempts.last) same ∙ sym before in
        let next : next_due k t ≡ next_due k s = dues t k (lent_to y t n) b ∙ ap steps.next_due same ∙ sym (dues s k (lent_to x s m) a) in
        let going : has_going k t ≡ has_going k s
        = any_live (is_live t k) t.attempts ∙ ap some_row (b.live ∙ ap (λ (z : CallState). z.live) same ∙ sym a.live) ∙ sym (any_live (is_live s k) s.attempts) in
        ap (λ (z : Option ℕ). not (has_code r.codes e.code) || (is_number q.place z && is_none (next_due k t) && not (has_going k t))) counted
        ∙ ap (λ (z : Option ℕ). not (has_code r.codes e.code) || (is_number q.place (last_counted k s) && is_none z && not (has_going k t))) next
        ∙ ap (λ (z : Bool). not (has_code r.codes e.code) || (is_number q.place (last_counted k s) && is_none (next_due k s) && not z)) going ∙ off

    goes_on : has_going (noted c) t ≡ true
    goes_on =
        any_live (is_live t (noted c)) t.attempts ∙ ap some_row (own_sees.live ∙ sym own.sees.serves.sees.live) ∙ sym (any_live (is_live s c) s.attempts) ∙ goes

    none_third : (a b : Bool) → (a && b && false) ≡ false
    none_third true true = refl
    none_third true false = refl
    none_third false b = refl

    final_own : (q : Attempt) (e : RowEnd) (r : CallPlan) → is_final_by r c q s e ≡ false → is_final_by r (noted c) q t e ≡ false
    final_own q e plans.None off = off
    final_own q e (plans.Retry r) off = off
    final_own q e (plans.Hedge r) off =
        let code : not (has_code r.codes e.code) ≡ false = two_off (not (has_code r.codes e.code)) (is_number q.place (last_counted c s) && is_none (next_due c s) && not (has_going c s)) off in
        ap (λ (z : Bool). not (has_code r.codes e.code) || (is_number q.place (last_counted (noted c) t) && is_none (next_due (noted c) t) && not z)) goes_on
        ∙ ap (λ (z : Bool). z || (is_number q.place (last_counted (noted c) t) && is_none (next_due (noted c) t) && false)) code
        ∙ none_third (is_number q.place (last_counted (noted c) t)) (is_none (next_due (noted c) t))

    ended_off : (k l : Call) (q : Attempt) → plan_of l t ≡ plan_of k s → ((e : RowEnd) → is_final_by (plan_of k s) k q s e ≡ false → is_final_by (plan_of k s) l q t e ≡ false)
        → (r : Option RowEnd) → holds (is_final_by (plan_of k s) k q s) r ≡ false → holds (is_final_by (plan_of l t) l q t) r ≡ false
    ended_off k l q same each None off = refl
    ended_off k l q same each (Some e) off = ap (λ (z : CallPlan). is_final_by z l q t e) same ∙ each e off

    other_slot : (j : ℕ) (k : Call) → (j == c.number) ≡ false → numbered s.calls j ≡ Some k → numbered t.calls j ≡ Some k → (q : Attempt)
        → is_final_in q s k ≡ false → is_final_in q t k ≡ false
    other_slot j k away at_s at_t q off =
        let before : HasSlot x s k j = h.calls.each j k at_s in
        let after : HasSlot y t k j = agrees.calls.each j k at_t in
        let same : after.slot ≡ before.slot
        = same_slot before.slot after.slot (slot_at x.book j) before.there (sym (put_away x.book.calls c.number j own.slot slot2 own.there away) ∙ after.there) in
        three (is_free_call t k) (is_counted q t) (is_final k q t) (λ is_free counts.
        ended_off k k q refl
        (λ e. final_other k before.slot after.slot before.sees.serves.sees after.sees.serves.sees (ap (λ (z : CallSlot). z.call) same) (free_of k is_free) q e (plan_of k s)) q.row.ended
        (three_back (is_free_call s k) (is_counted q s) (is_final k q s) off is_free (sym (counted_same q) ∙ counts)))

    own_slot : (q : Attempt) → is_final_in q s c ≡ false → is_final_in q t (noted c) ≡ false
    own_slot q off =
        three (is_free_call t (noted c)) (is_counted q t) (is_final (noted c) q t) (λ is_free counts.
        ended_off c (noted c) q refl (λ e. final_own q e (plan_of c s)) q.row.ended
        (three_back (is_free_call s c) (is_counted q s) (is_final c q s) off is_free (sym (counted_same q) ∙ counts)))

    final_by : (q : Attempt) (b : Bool) → (q.row.call == c.number) ≡ b → (r : Option Call) → numbered s.calls q.row.call ≡ r
        → holds (λ (k : Call). is_final_in q s k) r ≡ false → is_final_end t q ≡ false
    final_by q true e r at_s off =
        let here : q.row.call ≡ c.number = equal_numbers q.row.call c.number e in
        let was : r ≡ Some c = sym at_s ∙ ap (numbered s.calls) here ∙ there in
        ap (λ (n : ℕ). holds (λ (k : Call). is_final_in q t k) (numbered t.calls n)) here ∙ ap (holds (λ (k : Call). is_final_in q t k)) own_now
        ∙ own_slot q (sym (ap (holds (λ (k : Call). is_final_in q s k)) was) ∙ off)
    final_by q false e None at_s off =
        ap (holds (λ (k : Call). is_final_in q t k)) (changed_away noted c.number q.row.call s.calls (eqb-false q.row.call c.number e) ∙ at_s)
    final_by q false e (Some k) at_s off =
        let at_t : numbered t.calls q.row.call ≡ Some k = changed_away noted c.number q.row.call s.calls (eqb-false q.row.call c.number e) ∙ at_s in
        ap (holds (λ (k : Call). is_final_in q t k)) at_t ∙ other_slot q.row.call k e at_s at_t q off

    final_still : list_any (is_final_end s) s.attempts ≡ false → list_any (is_final_end t) t.attempts ≡ false
    final_still none =
        none_too (is_final_end t) (is_final_end s) (λ q off. final_by q (q.row.call == c.number) refl (numbered s.calls q.row.call) refl off) s.attempts none

    -- nothing follows at once
    quiescent : order.IsQuiescent o s
    quiescent = (exact o s).0 (at.quiescent.calls, at.quiescent.links, at.quiescent.policies)

    leaves : (l : Line) → stirs does_it l ≡ false → IsStill l p t
    leaves l unstirred = stir.withheld c.number o s refl tt l p refl unstirred (quiescent l)

    still : (l : Line) → IsStill l p t
    still line.Final = final_still (quiescent line.Final)
    still line.Inherited = leaves line.Inherited refl
    still line.Cut = leaves line.Cut refl
    still line.Transparent = leaves line.Transparent refl
    still line.Row = leaves line.Row refl
    still line.Cancelled = leaves line.Cancelled refl
    still line.Request = leaves line.Request refl
    still line.Overflow = leaves line.Overflow refl
    still line.Head = leaves line.Head refl
    still line.Response = leaves line.Response refl
    still line.Pick = leaves line.Pick refl
    still line.Link = leaves line.Link refl
    still line.WireEnd = leaves line.WireEnd refl
    still line.Reset = leaves line.Reset refl
    still line.Shut = leaves line.Shut refl
    still line.Retire = leaves line.Retire refl
    still line.Begin = leaves line.Begin refl
    still line.Give = leaves line.Give refl
    still line.Drop = leaves line.Drop refl
    still line.Add = leaves line.Add refl

    at_now : IsAt stage.Settling p t
    at_now = record {
      current = refl;
      stage_is = at.stage_is;
      quiescent = (let back = (exact p t).1 still in record { calls = back.0; links = back.1; policies = back.2 });
    }

    config_by : (m : ℕ) (d : Call) (b : Bool) → (m == c.number) ≡ b → numbered t.calls m ≡ Some d → config_action t d ≡ None
    config_by m d true e there_now =
        let both : Some (noted c) ≡ Some d = sym own_now ∙ ap (numbered t.calls) (sym (equal_numbers m c.number e)) ∙ there_now in
        let one : noted c ≡ d = (cc) in
        ap (config_action t) (sym one) ∙ none_at (config_action s) s.calls c.number c tended.configs there
    config_by m d false e there_now =
        none_at (config_action s) s.calls m d tended.configs (sym (changed_away noted c.number m s.calls (eqb-false m c.number e)) ∙ there_now)

    tended_now : IsTended p t
    tended_now = record {
      clock = clock_stays clocks rests overs wishes nones x y s t h agrees refl refl tended.clock;
      take_over = over_stays clocks rests overs wishes nones x y s t h agrees refl tended.take_over;
      connected = wish_stays clocks rests overs wishes nones x y s t h agrees refl tended.connected;
      configs = none_numbered (config_action t) t.calls (λ m d there_now. config_by m d (m == c.number) refl there_now);
      pass = refl;
    }

    none_next : next_due (noted c) t ≡ None
    none_next = dues t (noted c) (lent_to y t slot2) own_sees ∙ stopped_plan (call_plan own.slot.call) own.slot.call.attempts

    none_now : (d : Call) → numbered t.calls c.number ≡ Some d → due_action t d ≡ None
    none_now d e =
        let both : Some (noted c) ≡ Some d = sym own_now ∙ e in
        let one : noted c ≡ d = (cc) in
        ap (due_action t) (sym one) ∙ ap (λ (q : Option ℕ). if is_open_call (noted c) then option_and_then (due_if_past (noted c) t) q else None) none_next
        ∙ none_given (is_open_call (noted c))

    ahead : nat_lt x.book.moment now_is.due ≡ false
    ahead = not_ahead now_is.due x.book.moment (ap (nat_le now_is.due) (sym h.clock.moment) ∙ now_is.passed)

    channel_is : made_one c.number x ≡ y
    channel_is =
        withheld_is c.number now_is.due own.slot x own.there (sym (dues s c (lent_to x s own.slot) own.sees.serves.sees) ∙ now_is.next) ahead
        (sym (tested s c (lent_to x s own.slot) own.sees.serves.sees) ∙ now_is.tested) live h.sets.resets

    does : Does (does_it ∷ []) s t
    does = (follows, refl)

    pub leads_withheld : Leads (made_one c.number x) o s (IsDueDone c.number)
    leads_withheld =
        subst (λ (z : StateSeen). Leads z o s (IsDueDone c.number)) (sym channel_is)
        (record {
          reaches = record {
            actions = does_it ∷ [];
            seen = t;
            entry = p;
            does = does;
            posts = refl;
            same = record { moment = refl; word = refl; event = refl; entries = refl; setup = refl };
            at = at_now;
            agrees = agrees;
          };
          reply = refl;
          point = record { tended = tended_now; none = none_now };
        })

  from_either : (c : Call) → Either s c (action.HedgeWithheld c.number) → IsWithheldNow s c c.number
  from_either c (inl is) = is.1
  from_either c (inr k) = absurd (made_not c.number c.number k.nth k.due k.why k.is)

  by_number : (number : ℕ) → Agrees x s → IsSound x s → IsAt stage.Settling o s → IsTended o s → (k : DueNext number s) → k.does ≡ action.HedgeWithheld number
      → has_going k.call s ≡ true → Leads (made_one number x) o s (IsDueDone number)
  by_number number h sound at tended k is goes =
      let c : Call = k.call in
      let own : c.number ≡ number = counted_at (λ (d : Call). d.number) s.calls number c h.kept.calls k.there in
      let given : Some k.does ≡ Some (action.HedgeWithheld c.number) = ap (λ (a : Action). Some a) is ∙ ap (λ (n : ℕ). Some (action.HedgeWithheld n)) (sym own) in
      subst (λ (n : ℕ). Leads (made_one n x) o s (IsDueDone n)) own
      (leads_withheld h at tended c (ap (numbered s.calls) own ∙ k.there) (from_either c (either s c (action.HedgeWithheld c.number) (k.gives ∙ given))) (k.first ∙ given) goes)

pub one_is_withheld : QuiescenceIsExact → QueuesStir → ClockChanges → ClockRests → TakeOversAreSame → WishesConnect → NoneConnects → Frames → TokensStay → LinesAreFair → HedgesAreWithheld
    → WithheldKeep → AttemptsAreDue → HedgesAreTested → OneIsWithheld
one_is_withheld exact stir clocks rests overs wishes nones frames tokens_stay fair withheld keeps dues tested number x o s h sound at tended k is goes =
    let P : Seen → Type 0 = λ u. Agrees x u → IsSound x u → IsAt stage.Settling o u → IsTended o u → (k : DueNext number u) → k.does ≡ action.HedgeWithheld number
    → has_going k.call u ≡ true → Leads (made_one number x) o u (IsDueDone number) in
    let whole : P (with_open o s)
    = by_number exact stir clocks rests overs wishes nones frames tokens_stay fair withheld keeps dues tested x o s number in
    subst P (sym (is_with_open o s at.current)) whole h sound at tended k is goes

-- these are all cases
module _ (made : OneIsMade) (withheld : OneIsWithheld) (last : LastIsWithheld) (number : ℕ) (x : StateSeen) (o : OpenEntry) (s : Seen) (h : Agrees x s) (sound : IsSound x s)
    (at : IsAt stage.Settling o s) (tended : IsTended o s) (k : DueNext number s) where
  own_is : k.call.number ≡ number
  own_is = counted_at (λ (d : Call). d.number) s.calls number k.call h.kept.calls k.there

  by_going : (b : Bool) → has_going k.call s ≡ b → k.does ≡ action.HedgeWithheld number → Leads (made_one number x) o s (IsDueDone number)
  by_going true goes is = withheld number x o s h sound at tended k is goes
  by_going false goes is = last number x o s h sound at tended k is goes

  by_case : Either s k.call k.does → Leads (made_one number x) o s (IsDueDone number)
  by_case (inl is) = by_going (has_going k.call s) refl (is.0 ∙ ap (λ (n : ℕ). action.HedgeWithheld n) own_is)
  by_case (inr m) = made number m.nth m.due m.why x o s h sound at tended k (m.is ∙ ap (λ (n : ℕ). action.AttemptMade n m.nth m.why m.due) own_is)

  pub makes : Leads (made_one number x) o s (IsDueDone number)
  makes = by_case (either s k.call k.does k.gives)

pub makes_by_cases : OneIsMade → OneIsWithheld → MakesByCases
makes_by_cases made withheld last number x o s h sound at tended k = makes made withheld last number x o s h sound at tended k
