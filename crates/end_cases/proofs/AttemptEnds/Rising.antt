-- The runs of the configs rise: a config read joins the run of the one before, or begins the next; every other action leaves configs as they are.
use Rattle.std.proofs.Common.{◌≡◌, ◌∙◌, ◌==◌, ◌∷◌, ◌++◌, ◌+◌, Bool, true, false, List, [], Option, None, Some, ℕ, zero, suc, ap, arith, refl, if◌then◌else◌, is_some, length}
use Rattle.std.proofs.lemmas.Bool.{and_from, and_parts, eqb-true}
use Rattle.std.proofs.lemmas.Bool.Decides.{nat_tests}
use Rattle.std.specs.List.{list_all}
use Rattle.std.specs.Option.{option_map_or}
use Rattle.std.specs.Prelude.{nat_lt, option_and_then, slice_get}
use Rattle.call_actions.proofs.CallsApart.Books.{books_begin}
use Rattle.call_actions.proofs.CallsApart.Fair.{books_along}
use Rattle.call_actions.specs.CallsApart.Apart.{IsBook, has_run}
use Rattle.channel_actions.specs.Configs.{is_same_run, runs_after, runs_in_turn}
use Rattle.end_cases.specs.AttemptEnds.Runs.{RunsOfSessions, RunsRise, RunsStay, rise}
use Rattle.grpc_base.specs.declared.event.ConfigFault.{ConfigFault}
use Rattle.grpc_base.specs.declared.plan.Throttle.{Throttle}
use Rattle.service_config.specs.declared.config.Config.{Config}
use Rattle.session_actions.specs.Actions.{after, after_if, after_in}
use Rattle.session_actions.specs.Configs.{config_read, is_same_throttle, resolver_answered, run_to_join, with_held, with_throttled}
use Rattle.session_actions.specs.Deliveries.{call_begun_by}
use Rattle.session_actions.specs.Entries.{replied}
use Rattle.session_actions.specs.Making.{attempt_made}
use Rattle.session_actions.specs.Sessions.{Does, new_session}
use Rattle.session_actions.specs.Words.{holds, last_of, numbered}
use Rattle.session_actions.specs.declared.action.Action.{Action}
use Rattle.session_actions.specs.declared.config.HeldConfig.{HeldConfig}
use Rattle.grpc_base.specs.declared.event.Event.{Event}
use Rattle.grpc_base.specs.declared.event.Event.TheVariants as event
use Rattle.grpc_base.specs.declared.event.Reply.TheVariants as reply
use Rattle.session_actions.specs.declared.entry.OpenEntry.{OpenEntry}
use Rattle.session_actions.specs.declared.seen.Seen.{Seen}
use Rattle.session_actions.specs.declared.action.Action.TheVariants as action
use Rattle.session_order.proofs.SessionLaws.Same.{is_quiet, made_keeps, same_if, same_self}
use Rattle.std.specs.Prelude.{Err, Ok, Result}

-- one config more: its run follows where it is not that of the last one
abbrev pub final : Option ℕ → List HeldConfig → Option ℕ
final r [] = r
final r (g ∷ configs) = final g.run configs

abbrev pub joined : Option ℕ → Option ℕ → List (Option ℕ)
joined r run = if is_same_run r run then [] else run ∷ []

same_run : (m n : Option ℕ) → is_same_run m n ≡ true → m ≡ n
same_run None None e = refl
same_run None (Some n) e = absurd (cc)
same_run (Some m) None e = absurd (cc)
same_run (Some m) (Some n) e = ap (λ (k : ℕ). Some k) (eqb-true m n e)

is_itself : (k : ℕ) → (k == k) ≡ true
is_itself k = grind (arith, nat_tests)

pub same_self_run : (m : Option ℕ) → is_same_run m m ≡ true
same_self_run None = refl
same_self_run (Some m) = is_itself m

-- the last one's run follows itself by nothing
pub more : (r : Option ℕ) (configs : List HeldConfig) (h : HeldConfig) → runs_after r (configs ++ h ∷ []) ≡ runs_after r configs ++ joined (final r configs) h.run
more r [] h = one (is_same_run r h.run)
  where
    one : (b : Bool) → (if b then [] else h.run ∷ []) ≡ [] ++ (if b then [] else h.run ∷ [])
    one true = refl
    one false = refl
more r (g ∷ configs) h = by (is_same_run r g.run) refl (more r configs h) (more g.run configs h)
  where
    by : (b : Bool) → is_same_run r g.run ≡ b → runs_after r (configs ++ h ∷ []) ≡ runs_after r configs ++ joined (final r configs) h.run
        → runs_after g.run (configs ++ h ∷ []) ≡ runs_after g.run configs ++ joined (final g.run configs) h.run
        → (if b then runs_after r (configs ++ h ∷ []) else g.run ∷ runs_after g.run (configs ++ h ∷ []))
        ≡ (if b then runs_after r configs else g.run ∷ runs_after g.run configs) ++ joined (final g.run configs) h.run
    by true e one two = one ∙ ap (λ (k : Option ℕ). runs_after r configs ++ joined (final k configs) h.run) (same_run r g.run e)
    by false e one two = ap (λ (l : List (Option ℕ)). g.run ∷ l) two

pub final_is : (configs : List HeldConfig) (g h : HeldConfig) → slice_get (g ∷ configs) (length configs) ≡ Some h → final g.run configs ≡ h.run
final_is [] g h got = let one : g ≡ h = (cc) in ap (λ (x : HeldConfig). x.run) one
final_is (k ∷ configs) g h got = final_is configs k h got

-- numbers below the next one
abbrev is_under : ℕ → Option ℕ → Bool
is_under n o = option_map_or (λ (k : ℕ). nat_lt k n) o true

under : (last : ℕ) (runs : List (Option ℕ)) (n : ℕ) → rise last runs ≡ true → list_all (is_under n) runs ≡ true → nat_lt last n ≡ true
    → rise last (runs ++ Some n ∷ []) ≡ true
under last [] n up all low = and_from (nat_lt last n) true low refl
under last (None ∷ runs) n up all low = under last runs n up all low
under last (Some k ∷ runs) n up all low =
    let both = and_parts (nat_lt last k) (rise k runs) up in
    let parts = and_parts (nat_lt k n) (list_all (is_under n) runs) all in
    and_from (nat_lt last k) (rise k (runs ++ Some n ∷ [])) both.0 (under k runs n both.1 parts.1 parts.0)

none_more : (last : ℕ) (runs : List (Option ℕ)) → rise last runs ≡ true → rise last (runs ++ None ∷ []) ≡ true
none_more last [] up = refl
none_more last (None ∷ runs) up = none_more last runs up
none_more last (Some k ∷ runs) up =
    let both = and_parts (nat_lt last k) (rise k runs) up in and_from (nat_lt last k) (rise k (runs ++ None ∷ [])) both.0 (none_more k runs both.1)

pub nothing_more : (runs : List (Option ℕ)) → runs ++ [] ≡ runs
nothing_more [] = refl
nothing_more (r ∷ runs) = ap (λ (l : List (Option ℕ)). r ∷ l) (nothing_more runs)

within : {X : Type 0} (xs : List X) (i : ℕ) → is_some (slice_get xs i) ≡ true → nat_lt i (length xs) ≡ true
within [] i e = absurd (cc)
within (x ∷ xs) zero e = grind (arith, nat_tests)
within (x ∷ xs) (suc i) e = step i (length xs) (within xs i e)
  where
    step : (i n : ℕ) → nat_lt i n ≡ true → nat_lt (suc i) (suc n) ≡ true
    step i n low = grind (arith, nat_tests, low)

pub low_number : {X : Type 0} (xs : List X) (k : ℕ) → is_some (numbered xs k) ≡ true → nat_lt k (length xs + 1) ≡ true
low_number xs zero e = absurd (cc)
low_number xs (suc i) e = step i (length xs) (within xs i e)
  where
    step : (i n : ℕ) → nat_lt i n ≡ true → nat_lt (suc i) (n + 1) ≡ true
    step i n low = grind (arith, nat_tests, low)

module _ (s : Seen) where
  abbrev new_run : ℕ
  new_run = length s.runs + 1

  low_run : (o : Option ℕ) → option_map_or (λ (k : ℕ). is_some (numbered s.runs k)) o true ≡ true → is_under new_run o ≡ true
  low_run None e = refl
  low_run (Some k) e = low_number s.runs k e

  all_low : (r : Option ℕ) (configs : List HeldConfig) → list_all (has_run s) configs ≡ true → list_all (is_under new_run) (runs_after r configs) ≡ true
  all_low r [] all = refl
  all_low r (g ∷ configs) all =
      let both = and_parts (has_run s g) (list_all (has_run s) configs) all in
      low_by r g configs (is_same_run r g.run) (low_run g.run both.0) (all_low r configs both.1) (all_low g.run configs both.1)
    where
      low_by : (r : Option ℕ) (g : HeldConfig) (configs : List HeldConfig) (b : Bool) → is_under new_run g.run ≡ true
          → list_all (is_under new_run) (runs_after r configs) ≡ true → list_all (is_under new_run) (runs_after g.run configs) ≡ true
          → list_all (is_under new_run) (if b then runs_after r configs else g.run ∷ runs_after g.run configs) ≡ true
      low_by r g configs true low one two = one
      low_by r g configs false low one two = and_from (is_under new_run g.run) (list_all (is_under new_run) (runs_after g.run configs)) low two

  all_turns_low : (configs : List HeldConfig) → list_all (has_run s) configs ≡ true → list_all (is_under new_run) (runs_in_turn configs) ≡ true
  all_turns_low [] all = refl
  all_turns_low (g ∷ configs) all =
      let both = and_parts (has_run s g) (list_all (has_run s) configs) all in
      and_from (is_under new_run g.run) (list_all (is_under new_run) (runs_after g.run configs)) (low_run g.run both.0) (all_low g.run configs both.1)

  -- the run of a config that comes: that of the last one, none, or the next
  joins : (configs : List HeldConfig) (h g : HeldConfig) → last_of configs ≡ Some g → g.run ≡ h.run → rise 0 (runs_in_turn configs) ≡ true
      → rise 0 (runs_in_turn (configs ++ h ∷ [])) ≡ true
  joins [] h g got is up = absurd (cc)
  joins (f ∷ configs) h g got is up =
      let last : final f.run configs ≡ h.run = final_is configs f g got ∙ is in
      let same : is_same_run (final f.run configs) h.run ≡ true = ap (λ (k : Option ℕ). is_same_run k h.run) last ∙ same_self_run h.run in
      let none : runs_after f.run (configs ++ h ∷ []) ≡ runs_after f.run configs =
      more f.run configs h ∙ ap (λ (b : Bool). runs_after f.run configs ++ (if b then [] else h.run ∷ [])) same ∙ nothing_more (runs_after f.run configs) in
      ap (λ (l : List (Option ℕ)). rise 0 (f.run ∷ l)) none ∙ up

  adds_by : (runs : List (Option ℕ)) (b : Bool) (run : Option ℕ) → rise 0 runs ≡ true → rise 0 (runs ++ run ∷ []) ≡ true
      → rise 0 (runs ++ (if b then [] else run ∷ [])) ≡ true
  adds_by runs true run up one = ap (rise 0) (nothing_more runs) ∙ up
  adds_by runs false run up one = one

  adds : (configs : List HeldConfig) (h : HeldConfig) → rise 0 (h.run ∷ []) ≡ true → rise 0 (runs_in_turn configs ++ h.run ∷ []) ≡ true
      → rise 0 (runs_in_turn configs) ≡ true → rise 0 (runs_in_turn (configs ++ h ∷ [])) ≡ true
  adds [] h alone one up = alone
  adds (f ∷ configs) h alone one up =
      ap (λ (l : List (Option ℕ)). rise 0 (f.run ∷ l)) (more f.run configs h)
      ∙ adds_by (f.run ∷ runs_after f.run configs) (is_same_run (final f.run configs) h.run) h.run up one

  positive : (n : ℕ) → nat_lt 0 (n + 1) ≡ true
  positive n = grind (arith, nat_tests)

  module _ (runs : list_all (has_run s) s.configs ≡ true) (up : RunsRise s) where
    unheld : (config : Config) → rise 0 (runs_in_turn (s.configs ++ record { config = config; run = None } ∷ [])) ≡ true
    unheld config = adds s.configs (record { config = config; run = None }) refl (none_more 0 (runs_in_turn s.configs) up) up

    begun : (config : Config) → rise 0 (runs_in_turn (s.configs ++ record { config = config; run = Some new_run } ∷ [])) ≡ true
    begun config =
        adds s.configs (record { config = config; run = Some new_run }) (and_from (nat_lt 0 new_run) true (positive (length s.runs)) refl)
        (under 0 (runs_in_turn s.configs) new_run up (all_turns_low s.configs runs) (positive (length s.runs))) up

    run_if : (b : Bool) (h : HeldConfig) (r : ℕ) → (if b then h.run else None) ≡ Some r → h.run ≡ Some r
    run_if true h r e = e
    run_if false h r e = absurd (cc)

    throttled : (config : Config) (t : Throttle) (r : ℕ) (o : Option HeldConfig) → last_of s.configs ≡ o
        → option_and_then (λ (h : HeldConfig). if holds (is_same_throttle t) h.config.throttle then h.run else None) o ≡ Some r
        → rise 0 (runs_in_turn (s.configs ++ record { config = config; run = Some r } ∷ [])) ≡ true
    throttled config t r None got e = absurd (cc)
    throttled config t r (Some g) got e =
        joins s.configs (record { config = config; run = Some r }) g got (run_if (holds (is_same_throttle t) g.config.throttle) g r e) up

    throttled_by : (config : Config) (t : Throttle) (o : Option ℕ) → run_to_join t s ≡ o → RunsRise (with_throttled config t o s)
    throttled_by config t (Some r) e = throttled config t r (last_of s.configs) refl e
    throttled_by config t None e = begun config

    held : (config : Config) (o : Option Throttle) → RunsRise (with_held config o s)
    held config None = unheld config
    held config (Some t) = throttled_by config t (run_to_join t s) refl

read_rises : (r : Result Config ConfigFault) (s : Seen) → IsBook s → RunsRise s → RunsRise (config_read r s)
read_rises (Ok config) s book up = held (replied reply.Done (resolver_answered s)) book.runs up config config.throttle
read_rises (Err fault) s book up = up

begun_rises : (e : Event) (s : Seen) → RunsRise s → RunsRise (call_begun_by e s)
begun_rises (event.Begin request) s up = up
begun_rises e s up = up

rises_by : (s t : Seen) → t.configs ≡ s.configs → RunsRise s → RunsRise t
rises_by s t e up = ap (λ (l : List HeldConfig). rise 0 (runs_in_turn l)) e ∙ up

quiet_rises : (o : OpenEntry) (a : Action) (s : Seen) → RunsRise s → is_quiet a ≡ true → RunsRise (after_in o a s)
quiet_rises o a s up quiet = rises_by s (after_in o a s) (same_if (Some o) a s (same_self s) quiet).configs up

rises_in : (o : OpenEntry) (a : Action) (s : Seen) → IsBook s → RunsRise s → RunsRise (after_in o a s)
rises_in o action.CallBegins s book up = begun_rises o.event s up
rises_in o (action.ConfigRead r) s book up = read_rises r s book up
rises_in o (action.CallConfigured call config) s book up = up
rises_in o (action.AttemptMade call number k due) s book up =
    rises_by s (attempt_made call number k due s) (made_keeps call number k due s).configs up
rises_in o a s book up = quiet_rises o a s up refl

rises_if : (o : Option OpenEntry) (a : Action) (s : Seen) → IsBook s → RunsRise s → RunsRise (after_if o a s)
rises_if (Some o) a s book up = rises_in o a s book up
rises_if None (action.EntryOpens posted word e) s book up = up
rises_if None a s book up = up

pub runs_stay : RunsStay
runs_stay s a book up = rises_if s.current a s book up

along : (actions : List Action) (s t : Seen) → IsBook s → RunsRise s → Does actions s t → RunsRise t
along [] s t book up does = rises_by s t (ap (λ (x : Seen). x.configs) does) up
along (a ∷ actions) s t book up does = along actions (after a s) t (books_along (a ∷ []) s (after a s) book (does.0, refl)) (runs_stay s a book up) does.1

pub runs_of_sessions : RunsOfSessions
runs_of_sessions setup actions t does = along actions (new_session setup) t (books_begin setup) refl does
