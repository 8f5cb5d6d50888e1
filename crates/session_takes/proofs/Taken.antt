-- All that was taken of a call is a prefix of what it has.
-- a call that is new has nothing taken of it
use Rattle.channel_actions.proofs.Calls.Few.Reached.{reached_on}
use Rattle.channel_actions.proofs.KeptSessions.Along.{places_of}
use Rattle.channel_actions.specs.FewCalls.Reached.{IsReached}
use Rattle.grpc_base.specs.declared.event.ConfigFault.{ConfigFault}
use Rattle.grpc_base.specs.declared.event.Event.{Event}
use Rattle.grpc_base.specs.declared.event.Reply.{Reply}
use Rattle.grpc_base.specs.declared.plan.Throttle.{Throttle}
use Rattle.service_config.specs.declared.config.Config.{Config}
use Rattle.session_actions.specs.Actions.{after, after_if, after_in}
use Rattle.session_actions.specs.Configs.{config_read, resolver_answered, run_to_join, with_held, with_throttled}
use Rattle.session_actions.specs.Deliveries.{available, begun_call, call_begun_by, next_item}
use Rattle.session_actions.specs.Entries.{entry, now, replied}
use Rattle.session_actions.specs.Making.{attempt_made, new_row, with_row}
use Rattle.session_actions.specs.Sessions.{Does, IsNext, new_session}
use Rattle.session_actions.specs.Words.{changed, numbered}
use Rattle.session_actions.specs.declared.action.Action.{Action}
use Rattle.session_actions.specs.declared.call.Call.{Call}
use Rattle.session_actions.specs.declared.entry.OpenEntry.{OpenEntry}
use Rattle.session_actions.specs.declared.seen.Seen.{Seen}
use Rattle.session_actions.specs.declared.seen.Setup.{Setup}
use Rattle.session_order.proofs.Changed.{lookup}
use Rattle.session_order.proofs.SessionLaws.Found.{same_of}
use Rattle.session_order.proofs.SessionLaws.Lines.{IsTakeable, next_asks}
use Rattle.session_order.proofs.SessionLaws.Lists.{past}
use Rattle.session_order.proofs.SessionLaws.Same.{call_key, made_keeps, same_if, same_self}
use Rattle.session_takes.proofs.Acts.{goes}
use Rattle.session_takes.proofs.Came.{RowEnded, row_open, step_prefix, step_row}
use Rattle.session_takes.proofs.Prefixes.{IsPrefix, prefix_join, prefix_next, prefix_of_none, prefix_same, prefix_taken}
use Rattle.session_takes.proofs.Continues.{Continues}
use Rattle.session_takes.proofs.CommitmentPassesAlong.{kept_of}
use Rattle.session_takes.specs.Takes.{ItemsStay, OnlyCallsAreTaken, TakesAreFirst, taken_by, taken_in}
use Rattle.std.proofs.Common.{Bool, Err, List, None, Ok, Option, Result, Some, [], ap, append-nil, append_assoc, arith, false, if◌then◌else◌, inl, inr, length, length-append, refl, slice_get, subst, suc, sym, take, true, zero, ℕ, ◌++◌, ◌+◌, ◌==◌, ◌∙◌, ◌∷◌, ◌≡◌, ◌⊎◌}
use Rattle.std.proofs.lemmas.Bool.{eqb-true}
use Rattle.std.specs.Option.{option_map}
use Rattle.session_actions.specs.declared.action.Action.TheVariants as action
use Rattle.grpc_base.specs.declared.event.Event.TheVariants as event
use Rattle.session_actions.specs.declared.call.MarkKind.TheVariants as mark
use Rattle.grpc_base.specs.declared.event.Reply.TheVariants as reply

pub record IsFresh (d : Call) : Type 0 where
  pub taken : d.taken ≡ 0
  pub open_now : d.end ≡ None
  pub unconfigured : d.config ≡ None

-- calls that are not there: they come by a begin alone

begun_calls : (e : Event) (s : Seen) → ((call_begun_by e s).calls ≡ s.calls) ⊎ ((d : Call) × IsFresh d × ((call_begun_by e s).calls ≡ s.calls ++ d ∷ []))
begun_calls (event.Begin request) s = inr (begun_call (length s.calls + 1) (entry s) (now s) request, record { taken = refl; open_now = refl; unconfigured = refl }, refl)
begun_calls _ s = inl refl

throttled_calls : (config : Config) (t : Throttle) (run : Option ℕ) (s : Seen) → (with_throttled config t run s).calls ≡ s.calls
throttled_calls config t (Some run) s = refl
throttled_calls config t None s = refl

held_calls : (config : Config) (t : Option Throttle) (s : Seen) → (with_held config t s).calls ≡ s.calls
held_calls config None s = refl
held_calls config (Some t) s = throttled_calls config t (run_to_join t s) s

read_calls : (x : Result Config ConfigFault) (s : Seen) → (config_read x s).calls ≡ s.calls
read_calls (Ok config) s = held_calls config config.throttle (replied reply.Done (resolver_answered s))
read_calls (Err fault) s = refl

none_of_map : {X Y : Type 0} (f : X → Y) (o : Option X) → option_map f o ≡ None → o ≡ None
none_of_map f None e = refl
none_of_map {Y = Y} f (Some x) e = absurd (let bad : ◌≡◌ {A = Option Y} (Some (f x)) None = e in (cc))

still_none : (s t : Seen) (n : ℕ) → option_map call_key (numbered t.calls n) ≡ option_map call_key (numbered s.calls n) → numbered s.calls n ≡ None → numbered t.calls n ≡ None
still_none s t n same none = none_of_map call_key (numbered t.calls n) (same ∙ ap (option_map call_key) none)

abbrev pub FreshIf : Option Call → Type 0
FreshIf None = Unit {0}
FreshIf (Some d) = IsFresh d

fresh_none : (o : Option Call) → o ≡ None → FreshIf o
fresh_none o e = subst FreshIf (sym e) tt

fresh_last : (xs : List Call) (x : Call) (n : ℕ) → IsFresh x → numbered xs n ≡ None → FreshIf (numbered (xs ++ x ∷ []) n)
fresh_last xs x zero f none = tt
fresh_last xs x (suc i) f none = by (slice_get (xs ++ x ∷ []) i) refl
  where
    by : (o : Option Call) → slice_get (xs ++ x ∷ []) i ≡ o → FreshIf o
    by None e = tt
    by (Some d) e =
        elim (past xs x d i e) [
          | inl old ↦ absurd (let bad : ◌≡◌ {A = Option Call} None (Some d) = sym none ∙ old in (cc))
          | inr new_one ↦ subst IsFresh new_one.1 f
        ]

fresh_begun : (s : Seen) (e : Event) (n : ℕ) → numbered s.calls n ≡ None → FreshIf (numbered (call_begun_by e s).calls n)
fresh_begun s e n none =
    elim (begun_calls e s) [
      | inl same ↦ fresh_none (numbered (call_begun_by e s).calls n) (ap (λ (cs : List Call). numbered cs n) same ∙ none)
      | inr k ↦ subst (λ (cs : List Call). FreshIf (numbered cs n)) (sym k.2) (fresh_last s.calls k.0 n k.1 none)
    ]

fresh_in : (o : OpenEntry) (a : Action) (s : Seen) (n : ℕ) → numbered s.calls n ≡ None → FreshIf (numbered (after_in o a s).calls n)
fresh_in o action.CallBegins s n none = fresh_begun s o.event n none
fresh_in o (action.ConfigRead x) s n none = fresh_none (numbered (config_read x s).calls n) (ap (λ (cs : List Call). numbered cs n) (read_calls x s) ∙ none)
fresh_in o (action.CallConfigured call config) s n none =
    fresh_none (numbered (after_in o (action.CallConfigured call config) s).calls n)
    (none_of_map (λ (d : Call). d.number) (numbered (after_in o (action.CallConfigured call config) s).calls n)
    (lookup (option_map (λ (d : Call). d.number)) (λ (d : Call). record d { config = Some config; configured = Some (entry s) }) (λ d. refl) call
    (changed (λ (d : Call). record d { marks = d.marks ++ record { what = mark.Configured; moment = now s } ∷ [] }) call s.calls) n
    ∙ lookup (option_map (λ (d : Call). d.number)) (λ (d : Call). record d { marks = d.marks ++ record { what = mark.Configured; moment = now s } ∷ [] }) (λ d. refl) call s.calls n
    ∙ ap (option_map (λ (d : Call). d.number)) none))
fresh_in o (action.AttemptMade call number k due) s n none =
    fresh_none (numbered (attempt_made call number k due s).calls n)
    (still_none (with_row (new_row call number k due) s) (attempt_made call number k due s) n ((made_keeps call number k due s).calls n) none)
fresh_in o a s n none = fresh_none (numbered (after_in o a s).calls n) (still_none s (after_in o a s) n ((same_if (Some o) a s (same_self s) refl).calls n) none)

pub fresh_if : (o : Option OpenEntry) (a : Action) (s : Seen) (n : ℕ) → numbered s.calls n ≡ None → FreshIf (numbered (after_if o a s).calls n)
fresh_if (Some o) a s n none = fresh_in o a s n none
fresh_if None (action.EntryOpens posted word e) s n none = fresh_none (numbered s.calls n) none
fresh_if None a s n none = fresh_none (numbered s.calls n) none

-- of a call that is not there nothing is taken
taken_none : (s : Seen) (n : ℕ) (a : Action) → IsNext a s → numbered s.calls n ≡ None → taken_by n a ≡ []
taken_none s n (action.ItemTaken call item) next none = by (call == n) refl
  where
    by : (b : Bool) → (call == n) ≡ b → (if b then item ∷ [] else []) ≡ []
    by false e = refl
    by true e =
        let t : IsTakeable call item s = next_asks s (action.ItemTaken call item) next in
        absurd (let bad : ◌≡◌ {A = Option Call} None (Some t.here) = sym none ∙ (ap (numbered s.calls) (sym (eqb-true call n e)) ∙ t.there) in (cc))
taken_none s n _ next none = refl

-- and of one that is there what comes next
takes_next : (s : Seen) (n : ℕ) (c : Call) (before : List Reply) (a : Action) → IsNext a s → numbered s.calls n ≡ Some c → c.taken ≡ length before → IsPrefix before (available c s)
    → IsPrefix (before ++ taken_by n a) (available c s)
takes_next s n c before (action.ItemTaken call item) next there count prefix = by (call == n) refl
  where
    by : (b : Bool) → (call == n) ≡ b → IsPrefix (before ++ (if b then item ∷ [] else [])) (available c s)
    by false e = subst (λ (l : List Reply). IsPrefix l (available c s)) (sym (append-nil before)) prefix
    by true e =
        let t : IsTakeable call item s = next_asks s (action.ItemTaken call item) next in
        let here : t.here ≡ c = same_of (numbered s.calls call) t.here c t.there (ap (numbered s.calls) (eqb-true call n e) ∙ there) in
        let item_is : numbered (available c s) (c.taken + 1) ≡ Some item = ap (λ (d : Call). next_item d s) (sym here) ∙ t.next in
        let index : c.taken + 1 ≡ suc (length before) = omega (arith, count) in
        prefix_next before (available c s) item prefix (ap (numbered (available c s)) (sym index) ∙ item_is)
takes_next s n c before _ next there count prefix = subst (λ (l : List Reply). IsPrefix l (available c s)) (sym (append-nil before)) prefix

-- what was taken so far
abbrev HasTaken : List Reply → Seen → Option Call → Type 0
HasTaken before s None = before ≡ []
HasTaken before s (Some c) = (c.taken ≡ length before) × IsPrefix before (available c s) × RowEnded s c

joined_none : (before more : List Reply) → before ≡ [] → more ≡ [] → before ++ more ≡ []
joined_none before more e f = ap (λ (l : List Reply). l ++ more) e ∙ f

taken_fresh : (before : List Reply) (t : Seen) (o : Option Call) → FreshIf o → before ≡ [] → HasTaken before t o
taken_fresh before t None f e = e
taken_fresh before t (Some d) f e =
    (f.taken ∙ ap (λ (l : List Reply). length l) (sym e), prefix_of_none before (available d t) e, row_open t d f.open_now)

step_there : (s : Seen) (a : Action) (n : ℕ) (before : List Reply) (c : Call) → IsReached s → IsNext a s → numbered s.calls n ≡ Some c → c.taken ≡ length before
    → IsPrefix before (available c s) → RowEnded s c → HasTaken (before ++ taken_by n a) (after a s) (numbered (after a s).calls n)
step_there s a n before c reached next there count prefix row =
    let number : c.number ≡ n = (places_of s (kept_of s reached)).calls n c there in
    let own : numbered s.calls c.number ≡ Some c = ap (numbered s.calls) number ∙ there in
    let g : Continues s (after a s) c (length (taken_by c.number a)) = goes s reached c own a next in
    let at : numbered (after a s).calls n ≡ Some g.call = ap (numbered (after a s).calls) (sym number) ∙ g.there in
    let taken : g.call.taken ≡ c.taken + length (taken_by n a) = g.taken ∙ ap (λ (m : ℕ). c.taken + length (taken_by m a)) number in
    let both : length (before ++ taken_by n a) ≡ length before + length (taken_by n a) = length-append before (taken_by n a) in
    let all : g.call.taken ≡ length (before ++ taken_by n a) = omega (arith, taken, both, count) in
    subst (HasTaken (before ++ taken_by n a) (after a s)) (sym at) (
      all,
      prefix_join (before ++ taken_by n a) (available c s) (available g.call (after a s)) (takes_next s n c before a next there count prefix)
          (step_prefix c g.call s (after a s) row g.step),
      step_row c g.call s (after a s) row g.step,
    )

step_if : (s : Seen) (a : Action) (n : ℕ) (before : List Reply) → IsReached s → IsNext a s → (o : Option Call) → numbered s.calls n ≡ o → HasTaken before s o
    → HasTaken (before ++ taken_by n a) (after a s) (numbered (after a s).calls n)
step_if s a n before reached next None none h =
    taken_fresh (before ++ taken_by n a) (after a s) (numbered (after a s).calls n) (fresh_if s.current a s n none)
    (joined_none before (taken_by n a) h (taken_none s n a next none))
step_if s a n before reached next (Some c) there h = step_there s a n before c reached next there h.0 h.1 h.2

step : (s : Seen) (a : Action) (n : ℕ) (before : List Reply) → IsReached s → IsNext a s → HasTaken before s (numbered s.calls n)
    → HasTaken (before ++ taken_by n a) (after a s) (numbered (after a s).calls n)
step s a n before reached next h = step_if s a n before reached next (numbered s.calls n) refl h

along : (actions : List Action) (s t : Seen) (n : ℕ) (before : List Reply) → IsReached s → HasTaken before s (numbered s.calls n) → Does actions s t
    → HasTaken (before ++ taken_in n actions) t (numbered t.calls n)
along [] s t n before reached h does =
    subst (λ (u : Seen). HasTaken (before ++ []) u (numbered u.calls n)) (sym does)
    (subst (λ (l : List Reply). HasTaken l s (numbered s.calls n)) (sym (append-nil before)) h)
along (a ∷ actions) s t n before reached h does =
    subst (λ (l : List Reply). HasTaken l t (numbered t.calls n)) (append_assoc before (taken_by n a) (taken_in n actions))
    (along actions (after a s) t n (before ++ taken_by n a) (reached_on s (after a s) (a ∷ []) reached (does.0, refl)) (step s a n before reached does.0 h) does.1)

none_taken_yet : (setup : Setup) (n : ℕ) → HasTaken [] (new_session setup) (numbered (new_session setup).calls n)
none_taken_yet setup zero = refl
none_taken_yet setup (suc i) = refl

pub has_taken : (setup : Setup) (actions : List Action) (s : Seen) → Does actions (new_session setup) s → (n : ℕ) → HasTaken (taken_in n actions) s (numbered s.calls n)
has_taken setup actions s does n =
    along actions (new_session setup) s n [] (record { setup = setup; actions = []; does = refl }) (none_taken_yet setup n) does

-- of a call that is there
pub record AllTaken (n : ℕ) (actions : List Action) (s : Seen) (c : Call) : Type 0 where
  pub count : c.taken ≡ length (taken_in n actions)
  pub prefix : IsPrefix (taken_in n actions) (available c s)
  pub row : RowEnded s c

pub all_taken : (setup : Setup) (actions : List Action) (s : Seen) → Does actions (new_session setup) s → (n : ℕ) (c : Call) → numbered s.calls n ≡ Some c → AllTaken n actions s c
all_taken setup actions s does n c there =
    let h : HasTaken (taken_in n actions) s (Some c) = subst (HasTaken (taken_in n actions) s) there (has_taken setup actions s does n) in
    record { count = h.0; prefix = h.1; row = h.2 }

pub takes_are_first : TakesAreFirst
takes_are_first setup actions s does k c there =
    let h : AllTaken k actions s c = all_taken setup actions s does k c there in
    (sym h.count, prefix_taken (taken_in k actions) (available c s) h.prefix ∙ ap (λ (n : ℕ). take n (available c s)) (sym h.count))

pub only_calls_are_taken : OnlyCallsAreTaken
only_calls_are_taken setup actions s does k none = subst (HasTaken (taken_in k actions) s) none (has_taken setup actions s does k)

-- what a call has later
grown : (more : List Action) (s t : Seen) (k : ℕ) (c d : Call) → IsReached s → numbered s.calls k ≡ Some c → RowEnded s c → Does more s t → numbered t.calls k ≡ Some d
    → IsPrefix (available c s) (available d t)
grown [] s t k c d reached there row does at =
    let one : c ≡ d = same_of (numbered s.calls k) c d there (ap (λ (u : Seen). numbered u.calls k) (sym does) ∙ at) in
    prefix_same (available c s) (available d t) (ap (λ (u : Seen). available d u) does ∙ ap (λ (z : Call). available z s) (sym one))
grown (a ∷ more) s t k c d reached there row does at =
    let number : c.number ≡ k = (places_of s (kept_of s reached)).calls k c there in
    let own : numbered s.calls c.number ≡ Some c = ap (numbered s.calls) number ∙ there in
    let g : Continues s (after a s) c (length (taken_by c.number a)) = goes s reached c own a does.0 in
    prefix_join (available c s) (available g.call (after a s)) (available d t) (step_prefix c g.call s (after a s) row g.step)
    (grown more (after a s) t k g.call d (reached_on s (after a s) (a ∷ []) reached (does.0, refl)) (ap (numbered (after a s).calls) (sym number) ∙ g.there)
    (step_row c g.call s (after a s) row g.step) does.1 at)

pub items_stay : ItemsStay
items_stay setup actions more s t does on k c d there at =
    let h : AllTaken k actions s c = all_taken setup actions s does k c there in
    prefix_taken (available c s) (available d t) (grown more s t k c d (record { setup = setup; actions = actions; does = does }) there h.row on at)
