-- One attempt that is due is made: the session goes on to a point of the same settling, where none of its call is due any more.
use Rattle.std.proofs.Common.{◌≡◌, ◌∙◌, ◌==◌, ◌||◌, ◌+◌, ◌++◌, ◌∷◌, Bool, true, false, List, [], Option, None, Some, ℕ, zero, suc, ap, arith, refl, subst, sym, if◌then◌else◌, is_some, length, nat_le, nat_lt, slice_get}
use Rattle.std.proofs.lemmas.Bool.{eqb-false}
use Rattle.std.proofs.lemmas.Bool.Decides.{nat_tests}
use Rattle.std.specs.Prelude.{option_and_then}
use Rattle.attempt_ledger.specs.declared.row.RowKind.{RowKind}
use Rattle.call_actions.proofs.Lists.{changed_away, changed_here}
use Rattle.call_actions.specs.Laws.{AttemptsAreDue, HedgesAreTested}
use Rattle.call_core.specs.Parts as parts
use Rattle.call_core.specs.Parts.{made_attempts}
use Rattle.call_core.specs.Steps as steps
use Rattle.call_core.specs.declared.attempts.Attempts.{Attempts}
use Rattle.channel_actions.proofs.Quiet.{or_parts_none}
use Rattle.channel_actions.proofs.Settles.{follows_by, is_with_open, with_open}
use Rattle.channel_actions.proofs.Links.Settings.Firsts.{none_numbered}
use Rattle.channel_actions.proofs.Stamps.{counted_at}
use Rattle.channel_actions.specs.Agrees.{Agrees}
use Rattle.channel_actions.specs.Calls.{HasSlot, lent_to}
use Rattle.channel_actions.specs.Quiescent.{IsAt}
use Rattle.call_cases.proofs.ConfigActions.NetLines.{clock_stays, over_stays, wish_stays}
use Rattle.attempt_cases.proofs.MakingSteps.Quiescent.{final_still, fits, inherited_still}
use Rattle.attempt_cases.proofs.MakingSteps.MadeKinds.{due_kind}
use Rattle.attempt_cases.proofs.MakingSteps.Making.{IsDueNow, due_now, made_is as channel_made}
use Rattle.call_cases.specs.ConfiguredCalls.Laws.{Frames}
use Rattle.call_cases.specs.ConfiguredCalls.Steps.{timed}
use Rattle.attempt_cases.specs.MakingSteps.Laws.{AttemptsGetRows, DueNext, IsDueDone, MakeNext, OneIsMade}
use Rattle.attempt_cases.specs.MakingSteps.Made.{made_slot, with_attempt}
use Rattle.call_cases.specs.SettlingActions.Sound.{IsSound}
use Rattle.call_cases.specs.SettlingActions.Steps.{IsTended, Leads}
use Rattle.channel_core.proofs.Places.{put_there}
use Rattle.channel_core.specs.Books.{slot_at}
use Rattle.channel_core.specs.States.{StateSeen}
use Rattle.channel_core.specs.Steps.{made_one}
use Rattle.channel_core.specs.declared.state.slots.CallSlot.{CallSlot}
use Rattle.grpc_base.specs.declared.plan.CallPlan.{CallPlan}
use Rattle.grpc_base.specs.declared.plan.CallPlan.TheVariants as plans
use Rattle.grpc_base.specs.declared.plan.HedgePolicy.{HedgePolicy}
use Rattle.hedge_core.specs.DueMoments as hedging
use Rattle.net_actions.specs.Laws.{ClockChanges, ClockRests, NoneConnects, TakeOversAreSame, WishesConnect}
use Rattle.session_actions.specs.Actions.{config_action, first_action, following, of_calls, of_links, of_policies, of_stage}
use Rattle.session_actions.specs.Attempts.{commitment}
use Rattle.session_actions.specs.Calls.{is_open_call, marked}
use Rattle.session_actions.specs.Configs.{plan_of}
use Rattle.session_actions.specs.DueAttempts.{attempts_made, due_state, kind_of_next, next_due}
use Rattle.session_actions.specs.Entries.{entry, now}
use Rattle.session_actions.specs.Making.{attempt_made, due_action, due_if_past, new_row, next_due_attempt, next_transparent, with_row, without_turn_unless}
use Rattle.session_actions.specs.Policies.{next_of_pass, next_of_queue, next_take_over}
use Rattle.session_actions.specs.Sessions.{Does}
use Rattle.session_actions.specs.Subchannels.{next_connected, next_of_clock}
use Rattle.session_actions.specs.Words.{changed, first_of, numbered}
use Rattle.session_actions.specs.declared.action.Action.{Action}
use Rattle.session_actions.specs.declared.action.Action.TheVariants as action
use Rattle.session_actions.specs.declared.attempt.Attempt.{Attempt}
use Rattle.session_actions.specs.declared.call.Call.{Call}
use Rattle.session_actions.specs.declared.call.MarkKind.TheVariants as mark
use Rattle.session_actions.specs.declared.entry.OpenEntry.{OpenEntry}
use Rattle.session_actions.specs.declared.entry.Stage.TheVariants as stage
use Rattle.session_actions.specs.declared.seen.Seen.{Seen}
use Rattle.session_order.specs.Quiescent as order
use Rattle.session_order.specs.Quiescent.{IsStill}
use Rattle.session_order.specs.Laws.{AttemptsStir, QuiescenceIsExact}
use Rattle.session_order.specs.Lines.{is_line}
use Rattle.session_order.specs.Stirs.{stirs}
use Rattle.session_order.specs.declared.line.Line.{Line}
use Rattle.session_order.specs.declared.line.Line.TheVariants as line

pub first_six : (a b c d e f g h : Option Action) (z : Action) → a ≡ None → b ≡ None → c ≡ None → d ≡ None → e ≡ None → f ≡ Some z
    → first_action (a ∷ b ∷ c ∷ d ∷ e ∷ f ∷ g ∷ h ∷ []) ≡ Some z
first_six a b c d e f g h z p q r s t u =
    ap (λ (w : Option Action). first_action (w ∷ b ∷ c ∷ d ∷ e ∷ f ∷ g ∷ h ∷ [])) p
    ∙ ap (λ (w : Option Action). first_action (w ∷ c ∷ d ∷ e ∷ f ∷ g ∷ h ∷ [])) q
    ∙ ap (λ (w : Option Action). first_action (w ∷ d ∷ e ∷ f ∷ g ∷ h ∷ [])) r ∙ ap (λ (w : Option Action). first_action (w ∷ e ∷ f ∷ g ∷ h ∷ [])) s
    ∙ ap (λ (w : Option Action). first_action (w ∷ f ∷ g ∷ h ∷ [])) t ∙ ap (λ (w : Option Action). first_action (w ∷ g ∷ h ∷ [])) u

-- where none is first, none gives anything
get_none : {X Y : Type 0} (f : X → Option Y) (xs : List X) (i : ℕ) (x : X) → first_of f xs ≡ None → slice_get xs i ≡ Some x → f x ≡ None
get_none f [] i x e got = absurd (let bad : None ≡ Some x = got in (cc))
get_none f (y ∷ xs) zero x e got =
    let one : y ≡ x = (cc) in ap f (sym one) ∙ (or_parts_none (f y) (first_of f xs) e).0
get_none f (y ∷ xs) (suc i) x e got = get_none f xs i x (or_parts_none (f y) (first_of f xs) e).1 got

pub none_at : {X Y : Type 0} (f : X → Option Y) (xs : List X) (n : ℕ) (x : X) → first_of f xs ≡ None → numbered xs n ≡ Some x → f x ≡ None
none_at f xs zero x e got = absurd (let bad : None ≡ Some x = got in (cc))
none_at f xs (suc i) x e got = get_none f xs i x e got

-- of a call whose next attempt was just made none is due
abbrev no_moment : Option ℕ
no_moment = None

none_forced : (b : Bool) → (if b then no_moment else no_moment) ≡ no_moment
none_forced true = refl
none_forced false = refl

abbrev no_action : Option Action
no_action = None

none_given : (b : Bool) → (if b then no_action else no_action) ≡ no_action
none_given true = refl
none_given false = refl

none_hedge : (p : HedgePolicy) (place : ℕ) (a : Attempts) (b : Bool)
    → (if b then parts.next_forced p.max (made_attempts place a) else hedging.next_due p (parts.hedge_of (made_attempts place a))) ≡ None
none_hedge p place a true = none_forced (a.stopped || nat_le p.max (made_attempts place a).sent)
none_hedge p place a false = none_forced (hedging.is_over p (parts.hedge_of (made_attempts place a)))

none_plan : (p : CallPlan) (place : ℕ) (a : Attempts) → parts.next_of_plan p (made_attempts place a) ≡ None
none_plan plans.None place a = none_forced (a.stopped || nat_le 1 (made_attempts place a).sent)
none_plan (plans.Retry p) place a = none_forced (a.stopped || nat_le p.max (made_attempts place a).sent)
none_plan (plans.Hedge p) place a = none_hedge p place a ((made_attempts place a).sent == 0)

not_ahead : (due moment : ℕ) → nat_le due moment ≡ true → nat_lt moment due ≡ false
not_ahead due moment e = grind (arith, nat_tests)

equal_numbers : (n m : ℕ) → (n == m) ≡ true → n ≡ m
equal_numbers n m e = grind (arith, nat_tests)

same_slot : (a b : CallSlot) (q : Option CallSlot) → q ≡ Some a → q ≡ Some b → b ≡ a
same_slot a b q e f = let both : Some b ≡ Some a = sym f ∙ e in (cc)

free_by : (k : Option Attempt) (b : Bool) → ((b || is_some k) ≡ true → true ≡ false) → k ≡ None
free_by None b stops = refl
free_by (Some a) true stops = absurd (let bad : true ≡ false = stops refl in (cc))
free_by (Some a) false stops = absurd (let bad : true ≡ false = stops refl in (cc))

stop_by : (b c : Bool) (f : Option ℕ) (due : ℕ) → (if b || c then None else f) ≡ Some due → b ≡ false
stop_by true c f due e = absurd (let bad : None ≡ Some due = e in (cc))
stop_by false c f due e = refl

module _ (exact : QuiescenceIsExact) (stir : AttemptsStir) (clocks : ClockChanges) (rests : ClockRests) (overs : TakeOversAreSame) (wishes : WishesConnect) (nones : NoneConnects)
    (frames : Frames) (rows : AttemptsGetRows) (dues : AttemptsAreDue) (tested : HedgesAreTested) (x : StateSeen) (o : OpenEntry) (s0 : Seen) where
  abbrev s : Seen
  s = with_open o s0

  module _ (h : Agrees x s) (sound : IsSound x s) (at : IsAt stage.Settling o s) (tended : IsTended o s) (c : Call) (there : numbered s.calls c.number ≡ Some c) (due : ℕ)
      (due_is : IsDueNow s c (attempts_made c s + 1) (kind_of_next c s) due)
      (gives : due_action s c ≡ Some (action.AttemptMade c.number (attempts_made c s + 1) (kind_of_next c s) due))
      (first : next_due_attempt s ≡ Some (action.AttemptMade c.number (attempts_made c s + 1) (kind_of_next c s) due)) where
    abbrev nth : ℕ
    nth = attempts_made c s + 1

    abbrev why : RowKind
    why = kind_of_next c s

    abbrev does_it : Action
    does_it = action.AttemptMade c.number nth why due

    stage_gives : of_stage o s o.stage ≡ Some does_it
    stage_gives =
        ap (of_stage o s) at.stage_is
        ∙ first_six (next_of_clock s) (next_take_over s) (next_connected s) (first_of (config_action s) s.calls) (next_of_pass o s) (next_due_attempt s) (next_of_queue s)
        (Some action.EntryCloses) does_it tended.clock tended.take_over tended.connected tended.configs tended.pass first

    follows : following s ≡ Some does_it
    follows = follows_by (of_calls o s) (of_links o s) (of_policies o s) (of_stage o s o.stage) does_it at.quiescent.calls at.quiescent.links at.quiescent.policies stage_gives

    unretried : next_transparent s ≡ None
    unretried = (or_parts_none (next_transparent s) _ (or_parts_none _ _ at.quiescent.calls).1).0

    make : MakeNext c.number x o s
    make = record {
      current = refl;
      agrees = h;
      sound = sound;
      quiescent = unretried;
      call = c;
      there = there;
      nth = nth;
      why = why;
      due = due;
      gives = gives;
      next = follows;
    }

    own : HasSlot x s c c.number
    own = h.calls.each c.number c there

    abbrev place : ℕ
    place = length s.attempts + 1

    abbrev new : Attempt
    new = record { place = place; row = new_row c.number nth why due; made = entry s; reset = false }

    abbrev noted : Call → Call
    noted k = record k { marks = k.marks ++ record { what = mark.Made place; moment = now s } ∷ [] }

    abbrev t : Seen
    t = record s { calls = changed noted c.number s.calls; attempts = s.attempts ++ new ∷ []; current = Some (record o { turn = None }) }

    abbrev p : OpenEntry
    p = record o { turn = None }

    made_is : attempt_made c.number nth why due s ≡ t
    made_is =
        ap (λ (b : Bool). without_turn_unless b (marked (mark.Made place) c.number (with_row (new_row c.number nth why due) s))) (due_kind (plan_of c s) (nth == 1))

    abbrev y : StateSeen
    y = with_attempt due c.number own.slot x

    agrees : Agrees y t
    unfolding make
    agrees = subst (Agrees y) made_is (rows frames c.number x o s make own)

    own_now : numbered t.calls c.number ≡ Some (noted c)
    own_now = changed_here noted c.number s.calls c there

    -- it is not committed
    unstopped : (due_state c s).stopped ≡ false
    unstopped = stop_by (due_state c s).stopped _ _ due due_is.next

    free : commitment c s ≡ None
    free = free_by (commitment c s) (is_some c.end) (λ e. sym (own.sees.order.stops e) ∙ unstopped)

    -- nothing follows at once
    quiescent : order.IsQuiescent o s
    quiescent = (exact o s).0 (at.quiescent.calls, at.quiescent.links, at.quiescent.policies)

    leaves : (l : Line) → is_line l line.Final ≡ false → stirs does_it l ≡ false → IsStill l p t
    leaves l unfinal unstirred =
        subst (λ (u : Seen). IsStill l p u) made_is
        (stir.made c.number nth why due o s refl (fits o s0 c there due own.sees.order free h.kept) l p (ap (λ (u : Seen). u.current) made_is) unfinal unstirred (quiescent l))

    still : (l : Line) → IsStill l p t
    still line.Inherited = inherited_still o s0 c there due own.sees.order free h.kept (quiescent line.Inherited)
    still line.Final = final_still o s0 c there due own.sees.order free h.kept dues x own.slot own.there h agrees (quiescent line.Final)
    still line.Cut = leaves line.Cut refl refl
    still line.Transparent = leaves line.Transparent refl refl
    still line.Row = leaves line.Row refl refl
    still line.Cancelled = leaves line.Cancelled refl refl
    still line.Request = leaves line.Request refl refl
    still line.Overflow = leaves line.Overflow refl refl
    still line.Head = leaves line.Head refl refl
    still line.Response = leaves line.Response refl refl
    still line.Pick = leaves line.Pick refl refl
    still line.Link = leaves line.Link refl refl
    still line.WireEnd = leaves line.WireEnd refl refl
    still line.Reset = leaves line.Reset refl refl
    still line.Shut = leaves line.Shut refl refl
    still line.Retire = leaves line.Retire refl refl
    still line.Begin = leaves line.Begin refl refl
    still line.Give = leaves line.Give refl refl
    still line.Drop = leaves line.Drop refl refl
    still line.Add = leaves line.Add refl refl

    at_now : IsAt stage.Settling p t
    at_now = record {
      current = refl;
      stage_is = at.stage_is;
      quiescent = (let back = (exact p t).1 still in record { calls = back.0; links = back.1; policies = back.2 });
    }

    -- no config is due
    config_by : (m : ℕ) (d : Call) (b : Bool) → (m == c.number) ≡ b → numbered t.calls m ≡ Some d → config_action t d ≡ None
    config_by m d true e there_now =
        let both : Some (noted c) ≡ Some d = sym own_now ∙ ap (numbered t.calls) (sym (equal_numbers m c.number e)) ∙ there_now in
        let one : noted c ≡ d = (cc) in
        ap (config_action t) (sym one) ∙ none_at (config_action s) s.calls c.number c tended.configs there
    config_by m d false e there_now =
        none_at (config_action s) s.calls m d tended.configs (sym (changed_away noted c.number m s.calls (eqb-false m c.number e)) ∙ there_now)

    tended_now : IsTended p t
    tended_now = record {
      clock = clock_stays clocks rests overs wishes nones x y s t h agrees refl refl tended.clock;
      take_over = over_stays clocks rests overs wishes nones x y s t h agrees refl tended.take_over;
      connected = wish_stays clocks rests overs wishes nones x y s t h agrees refl tended.connected;
      configs = none_numbered (config_action t) t.calls (λ m d there_now. config_by m d (m == c.number) refl there_now);
      pass = refl;
    }

    -- nor is any attempt of the call
    none_next : next_due (noted c) t ≡ None
    none_next =
        let after : HasSlot y t (noted c) c.number = agrees.calls.each c.number (noted c) own_now in
        let slot : CallSlot = timed (made_slot due own.slot x) in
        let same : after.slot ≡ slot = same_slot slot after.slot (slot_at y.book c.number) (put_there x.book.calls c.number own.slot slot own.there) after.there in
        dues t (noted c) (lent_to y t after.slot) after.sees.serves.sees ∙ ap (λ (z : CallSlot). steps.next_due z.call) same
        ∙ none_plan (steps.call_plan own.slot.call) (steps.next_place x.book.ledger) own.slot.call.attempts

    none_due : due_action t (noted c) ≡ None
    none_due =
        ap (λ (q : Option ℕ). if is_open_call (noted c) then option_and_then (due_if_past (noted c) t) q else None) none_next ∙ none_given (is_open_call (noted c))

    none_now : (d : Call) → numbered t.calls c.number ≡ Some d → due_action t d ≡ None
    none_now d e =
        let both : Some (noted c) ≡ Some d = sym own_now ∙ e in
        let one : noted c ≡ d = (cc) in ap (due_action t) (sym one) ∙ none_due

    -- the channel
    ahead : nat_lt x.book.moment due ≡ false
    ahead = not_ahead due x.book.moment (ap (nat_le due) (sym h.clock.moment) ∙ due_is.passed)

    channel_is : made_one c.number x ≡ y
    channel_is =
        channel_made c.number due own.slot x own.there (sym (dues s c (lent_to x s own.slot) own.sees.serves.sees) ∙ due_is.next) ahead
        (sym (tested s c (lent_to x s own.slot) own.sees.serves.sees) ∙ due_is.untested) h.sets.resets

    does : Does (does_it ∷ []) s t
    does = (follows, sym made_is)

    pub leads : Leads (made_one c.number x) o s (IsDueDone c.number)
    leads =
        subst (λ (z : StateSeen). Leads z o s (IsDueDone c.number)) (sym channel_is)
        (record {
          reaches = record {
            actions = does_it ∷ [];
            seen = t;
            entry = p;
            does = does;
            posts = refl;
            same = record { moment = refl; word = refl; event = refl; entries = refl; setup = refl };
            at = at_now;
            agrees = agrees;
          };
          reply = refl;
          point = record { tended = tended_now; none = none_now };
        })

  -- by the number of the call
  by_number : (number nth due : ℕ) (why : RowKind) → Agrees x s → IsSound x s → IsAt stage.Settling o s → IsTended o s → (k : DueNext number s)
      → k.does ≡ action.AttemptMade number nth why due → Leads (made_one number x) o s (IsDueDone number)
  by_number number nth due why h sound at tended k is =
      let c : Call = k.call in
      let own : c.number ≡ number = counted_at (λ (d : Call). d.number) s.calls number c h.kept.calls k.there in
      let now_due : IsDueNow s c nth why due = due_now s c number nth why due (k.gives ∙ ap (λ (a : Action). Some a) is) in
      let given : Some k.does ≡ Some (action.AttemptMade c.number (attempts_made c s + 1) (kind_of_next c s) due)
      = ap (λ (a : Action). Some a) is ∙ ap (λ (n : ℕ). Some (action.AttemptMade n nth why due)) (sym own)
      ∙ ap (λ (m : ℕ). Some (action.AttemptMade c.number m why due)) now_due.nth_is
      ∙ ap (λ (w : RowKind). Some (action.AttemptMade c.number (attempts_made c s + 1) w due)) now_due.why_is in
      let due_is : IsDueNow s c (attempts_made c s + 1) (kind_of_next c s) due
      = record { is_open = now_due.is_open; next = now_due.next; nth_is = refl; why_is = refl; passed = now_due.passed; untested = now_due.untested } in
      subst (λ (n : ℕ). Leads (made_one n x) o s (IsDueDone n)) own
      (leads h sound at tended c (ap (numbered s.calls) own ∙ k.there) due due_is (k.gives ∙ given) (k.first ∙ given))

pub one_is_made : QuiescenceIsExact → AttemptsStir → ClockChanges → ClockRests → TakeOversAreSame → WishesConnect → NoneConnects → Frames → AttemptsGetRows → AttemptsAreDue
    → HedgesAreTested → OneIsMade
one_is_made exact stir clocks rests overs wishes nones frames rows dues tested number nth due why x o s h sound at tended k is =
    let P : Seen → Type 0 = λ u. Agrees x u → IsSound x u → IsAt stage.Settling o u → IsTended o u → (k : DueNext number u) → k.does ≡ action.AttemptMade number nth why due
    → Leads (made_one number x) o u (IsDueDone number) in
    let whole : P (with_open o s) = by_number exact stir clocks rests overs wishes nones frames rows dues tested x o s number nth due why in
    subst P (sym (is_with_open o s at.current)) whole h sound at tended k is
