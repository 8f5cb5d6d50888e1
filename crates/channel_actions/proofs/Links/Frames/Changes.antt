-- What an action adds, kind by kind: a call, an attempt or a link that changes or joins; configs.
use Rattle.std.proofs.Common.{◌≡◌, ◌+◌, ◌++◌, ◌∷◌, ◌==◌, ◌≤◌, ap, arith, refl, subst, sym, ◌∙◌, Bool, true, false, List, [], Option, None, Some, ℕ, zero, suc, length, map, slice_get, slice_set}
use Rattle.std.proofs.Math.Nat.{le_refl}
use Rattle.std.proofs.lemmas.Bool.{eqb-false, eqb-true}
use Rattle.std.specs.List.{AllByRecursion}
use Rattle.std.specs.Option.{option_and_then, option_map, option_map_or}
use Rattle.call_actions.proofs.Lists.{changed_away, changed_map}
use Rattle.call_actions.proofs.Ranks.{numbered_map, numbered_more}
use Rattle.call_actions.proofs.CallsApart.Parts.{IsSame}
use Rattle.channel_actions.proofs.Links.Frames.Differences.{Continues, all_go, link_self, self_alike, selves_alike}
use Rattle.channel_actions.specs.LinkFrames.Alike.{AttemptsAreAlike, SeesNoDifference, IsAlike, IsCallStill, IsElsewhere, IsLinkStill, Numbers, is_on}
use Rattle.service_config.specs.Choice.{chosen_for}
use Rattle.session_actions.specs.Attempts.{call_of, with_attempt}
use Rattle.session_actions.specs.Calls.{with_call}
use Rattle.session_actions.specs.Configs.{chosen_of, no_choice}
use Rattle.session_actions.specs.Words.{changed, changed_if, numbered}
use Rattle.session_actions.specs.Writing.{accepted_bytes}
use Rattle.session_actions.specs.declared.attempt.Attempt.{Attempt}
use Rattle.session_actions.specs.declared.call.Call.{Call}
use Rattle.session_actions.specs.declared.config.HeldConfig.{HeldConfig}
use Rattle.session_actions.specs.declared.link.Link.{Link}
use Rattle.session_actions.specs.declared.seen.Seen.{Seen}

-- the longest message of a response hangs on the configs alone
pub limit_same : (s t : Seen) (c d : Call) → d.config ≡ c.config → d.request ≡ c.request → t.configs ≡ s.configs → (chosen_of d t).response ≡ (chosen_of c s).response
limit_same s t c d config request configs =
    ap (λ (q : _). (option_map_or (λ (h : HeldConfig). chosen_for h.config q.path) (option_and_then (numbered t.configs) d.config) no_choice).response) request
    ∙ ap (λ (o : Option ℕ). (option_map_or (λ (h : HeldConfig). chosen_for h.config c.request.path) (option_and_then (numbered t.configs) o) no_choice).response) config
    ∙ ap (λ (l : List HeldConfig). (option_map_or (λ (h : HeldConfig). chosen_for h.config c.request.path) (option_and_then (numbered l) c.config) no_choice).response) configs

-- calls, attempts, configs and links are the same
pub record IsSameSo (s t : Seen) : Type 0 where
  pub calls : t.calls ≡ s.calls
  pub attempts : t.attempts ≡ s.attempts
  pub configs : t.configs ≡ s.configs
  pub links : t.links ≡ s.links

pub same_so : (s t : Seen) → IsSame s t → t.links ≡ s.links → IsSameSo s t
same_so s t is links = record { calls = is.calls; attempts = is.attempts; configs = is.configs; links = links }

module _ (touched : Numbers) where
  -- links and attempts are the same, and so is what is said of calls
  same_links : (s t : Seen) → t.links ≡ s.links → (link : ℕ) (m : Link) → touched link ≡ false → numbered t.links link ≡ Some m
      → (l : Link) × (numbered s.links link ≡ Some l) × IsLinkStill l m
  same_links s t e link m apart got = (m, ap (λ (ls : List Link). numbered ls link) (sym e) ∙ got, link_self m)

  pub same_but_calls : (s t : Seen) → t.links ≡ s.links → t.attempts ≡ s.attempts → AllByRecursion (Continues touched s t) s.attempts → SeesNoDifference touched s t
  same_but_calls s t links attempts goes = record {
    links = same_links s t links;
    attempts = subst (AttemptsAreAlike touched s t s.attempts) (sym attempts) (selves_alike touched s t s.attempts goes);
  }

  goes_same : (s t : Seen) → t.calls ≡ s.calls → t.configs ≡ s.configs → (a : Attempt) → Continues touched s t a
  goes_same s t calls configs a link apart on c e = record {
    call = c;
    is = ap (λ (l : List Call). numbered l a.row.call) calls ∙ e;
    limit = limit_same s t c c refl refl configs;
    more = le_refl (accepted_bytes c);
  }

  pub all_same : (s t : Seen) → IsSameSo s t → SeesNoDifference touched s t
  all_same s t is = same_but_calls s t is.links is.attempts (all_go touched s t (goes_same s t is.calls is.configs) s.attempts)

  -- a call changes, but not in what a link sees
  pub record IsMild (f : Call → Call) : Type 0 where
    pub config : (c : Call) → (f c).config ≡ c.config
    pub request : (c : Call) → (f c).request ≡ c.request
    pub more : (c : Call) → accepted_bytes c ≤ accepted_bytes (f c)

  mild_by : (f : Call → Call) (n : ℕ) (s : Seen) → IsMild f → (a : Attempt) (c : Call) → call_of a s ≡ Some c → (b : Bool) → (a.row.call == n) ≡ b → IsCallStill s (with_call f n s) c a
  mild_by f n s mild a c e true same = record {
    call = f c;
    is = ap (numbered (changed f n s.calls)) (eqb-true a.row.call n same) ∙ changed_map f n s.calls
        ∙ ap (λ (k : ℕ). option_map f (numbered s.calls k)) (sym (eqb-true a.row.call n same)) ∙ ap (option_map f) e;
    limit = limit_same s (with_call f n s) c (f c) (mild.config c) (mild.request c) refl;
    more = mild.more c;
  }
  mild_by f n s mild a c e false other = record {
    call = c;
    is = changed_away f n a.row.call s.calls (eqb-false a.row.call n other) ∙ e;
    limit = refl;
    more = le_refl (accepted_bytes c);
  }

  pub call_changed : (f : Call → Call) (n : ℕ) (s : Seen) → IsMild f → SeesNoDifference touched s (with_call f n s)
  call_changed f n s mild =
      same_but_calls s (with_call f n s) refl refl
      (all_go touched s (with_call f n s) (λ a link apart on c e. mild_by f n s mild a c e (a.row.call == n) refl) s.attempts)

  -- a call joins; a config joins
  pub call_joins : (d : Call) (s : Seen) → SeesNoDifference touched s (record s { calls = s.calls ++ d ∷ [] })
  call_joins d s =
      let t : Seen = record s { calls = s.calls ++ d ∷ [] } in
      same_but_calls s t refl refl
      (all_go touched s t (λ a link apart on c e. record { call = c; is = numbered_more s.calls d c a.row.call e; limit = refl; more = le_refl (accepted_bytes c) }) s.attempts)

  -- an attempt changes
  set_alike : (s t : Seen) (f : Attempt → Attempt) (xs : List Attempt) (i : ℕ) (x : Attempt) → AllByRecursion (Continues touched s t) xs → slice_get xs i ≡ Some x
      → IsAlike touched s t x (f x) → AttemptsAreAlike touched s t xs (slice_set xs i (f x))
  set_alike s t f [] i x goes got is = tt
  set_alike s t f (y ∷ xs) zero x goes got is =
      let one : x ≡ y = (cc) in (subst (λ (z : Attempt). IsAlike touched s t z (f x)) one is, selves_alike touched s t xs goes.1)
  set_alike s t f (y ∷ xs) (suc i) x goes got is = (self_alike touched s t y goes.0, set_alike s t f xs i x goes.1 got is)

  if_alike : (s t : Seen) (f : Attempt → Attempt) (i : ℕ) (o : Option Attempt) → AllByRecursion (Continues touched s t) s.attempts → slice_get s.attempts i ≡ o
      → ((x : Attempt) → o ≡ Some x → IsAlike touched s t x (f x)) → AttemptsAreAlike touched s t s.attempts (changed_if f (suc i) s.attempts o)
  if_alike s t f i None goes got is = selves_alike touched s t s.attempts goes
  if_alike s t f i (Some x) goes got is = set_alike s t f s.attempts i x goes got (is x refl)

  changed_alike : (s t : Seen) (f : Attempt → Attempt) (n : ℕ) → AllByRecursion (Continues touched s t) s.attempts
      → ((x : Attempt) → numbered s.attempts n ≡ Some x → IsAlike touched s t x (f x)) → AttemptsAreAlike touched s t s.attempts (changed f n s.attempts)
  changed_alike s t f zero goes is = selves_alike touched s t s.attempts goes
  changed_alike s t f (suc i) goes is = if_alike s t f i (slice_get s.attempts i) goes refl is

  pub record IsRowAlike (a b : Attempt) : Type 0 where
    pub place : b.place ≡ a.place
    pub call : b.row.call ≡ a.row.call
    pub on : (link : ℕ) → touched link ≡ false → is_on link b ≡ is_on link a
    pub stream : (link : ℕ) → touched link ≡ false → is_on link a ≡ true → b.row.stream ≡ a.row.stream

  row_alike : (s : Seen) (f : Attempt → Attempt) (n : ℕ) (a b : Attempt) → IsRowAlike a b → IsAlike touched s (with_attempt f n s) a b
  row_alike s f n a b is = record {
    place = is.place;
    on = is.on;
    still = λ link apart on. record {
      stream = is.stream link apart on;
      calls = λ c e. record { call = c; is = ap (numbered s.calls) is.call ∙ e; limit = refl; more = le_refl (accepted_bytes c) };
    };
  }

  pub attempt_changed : (f : Attempt → Attempt) (n : ℕ) (s : Seen) → ((x : Attempt) → numbered s.attempts n ≡ Some x → IsRowAlike x (f x)) → SeesNoDifference touched s (with_attempt f n s)
  attempt_changed f n s is =
      let t : Seen = with_attempt f n s in
      record {
        links = same_links s t refl;
        attempts = changed_alike s t f n (all_go touched s t (goes_same s t refl refl) s.attempts) (λ x got. row_alike s f n x (f x) (is x got));
      }

  -- an attempt joins
  joins_alike : (s t : Seen) (xs : List Attempt) (b : Attempt) → AllByRecursion (Continues touched s t) xs → IsElsewhere touched b → AttemptsAreAlike touched s t xs (xs ++ b ∷ [])
  joins_alike s t [] b goes off = (off, tt)
  joins_alike s t (a ∷ xs) b goes off = (self_alike touched s t a goes.0, joins_alike s t xs b goes.1 off)

  pub attempt_joins : (b : Attempt) (s : Seen) → IsElsewhere touched b → SeesNoDifference touched s (record s { attempts = s.attempts ++ b ∷ [] })
  attempt_joins b s off =
      let t : Seen = record s { attempts = s.attempts ++ b ∷ [] } in
      record { links = same_links s t refl; attempts = joins_alike s t s.attempts b (all_go touched s t (goes_same s t refl refl) s.attempts) off }

  -- links: one changes that is touched, or each as a stamp does; and one joins that is touched
  attempts_stay : (s : Seen) (ls : List Link) → AttemptsAreAlike touched s (record s { links = ls }) s.attempts s.attempts
  attempts_stay s ls = selves_alike touched s (record s { links = ls }) s.attempts (all_go touched s (record s { links = ls }) (goes_same s (record s { links = ls }) refl refl) s.attempts)

  pub link_changed : (f : Link → Link) (n : ℕ) (s : Seen) → ((link : ℕ) → touched link ≡ false → link ≡ n → ⊥) → SeesNoDifference touched s (record s { links = changed f n s.links })
  link_changed f n s off = record {
    links = λ link m apart got. (m, sym (changed_away f n link s.links (off link apart)) ∙ got, link_self m);
    attempts = attempts_stay s (changed f n s.links);
  }

  mapped_by : (f : Link → Link) → ((l : Link) → IsLinkStill l (f l)) → (m : Link) (o : Option Link) → option_map f o ≡ Some m → (l : Link) × (o ≡ Some l) × IsLinkStill l m
  mapped_by f still m None e = absurd (cc)
  mapped_by f still m (Some l) e = let one : f l ≡ m = (cc) in (l, refl, subst (IsLinkStill l) one (still l))

  pub links_mapped : (f : Link → Link) (s : Seen) → ((l : Link) → IsLinkStill l (f l)) → SeesNoDifference touched s (record s { links = map f s.links })
  links_mapped f s still = record {
    links = λ link m apart got. mapped_by f still m (numbered s.links link) (sym (numbered_map f s.links link) ∙ got);
    attempts = attempts_stay s (map f s.links);
  }

  beyond : {X : Type 0} (xs : List X) (y : X) (k : ℕ) → (k ≡ length xs + 1 → ⊥) → numbered (xs ++ y ∷ []) k ≡ numbered xs k
  beyond xs y zero off = refl
  beyond [] y (suc zero) off = absurd (off refl)
  beyond [] y (suc (suc i)) off = refl
  beyond (x ∷ xs) y (suc zero) off = refl
  beyond (x ∷ xs) y (suc (suc i)) off = beyond xs y (suc i) (λ e. (let same : suc (suc i) ≡ suc (length xs) + 1 = omega (arith, e) in off same))

  pub link_joins : (l : Link) (s : Seen) → ((link : ℕ) → touched link ≡ false → link ≡ length s.links + 1 → ⊥) → SeesNoDifference touched s (record s { links = s.links ++ l ∷ [] })
  link_joins l s off = record {
    links = λ link m apart got. (m, sym (beyond s.links l link (off link apart)) ∙ got, link_self m);
    attempts = attempts_stay s (s.links ++ l ∷ []);
  }
