-- How the parts of a played action, and played actions, come together.
use Rattle.std.proofs.Common.{◌≡◌, ◌∙◌, ℕ, Bool, true, false, zero, suc, ◌+◌, List, [], ◌∷◌, ◌++◌, refl, sym, subst, ap, append_assoc, append-nil, arith}
use Rattle.std.specs.Prelude.{MatchBool, Option, flat_map}
use Rattle.std.specs.List.{range_with_len}
use Rattle.std.proofs.lemmas.Grind.{flat_map-append}
use Rattle.grpc_base.specs.declared.event.Event.{Event}
use Rattle.grpc_base.specs.declared.event.Event.TheVariants as event
use Rattle.grpc_base.specs.declared.event.Reply.{Reply}
use Rattle.channel_core.specs.Applying.{can_drain_in}
use Rattle.channel_core.specs.Core.{CoreSeen}
use Rattle.loop_server.specs.Server.{Core}
use Rattle.loop_server.specs.Drains.{CoreDrains}
use Rattle.loop_server.specs.Steps.{CoreArrives}
use Rattle.load_plan.specs.declared.action.LoadAction.{LoadAction}
use Rattle.load_plan.specs.declared.action.LoadStep.{LoadStep}
use Rattle.load_plan.specs.declared.action.LoadStep.TheVariants as does
use Rattle.load_session.specs.Playing.{ArriveAt, Does, Drained, Exchanges, Receives, Plays, Posts, Sends, Sides, Takes, TakesMore, is_more, octets_in}

-- ---- one link

pub sends_none : (moment link : ℕ) (core : CoreSeen) (server : Core) → can_drain_in link core.state ≡ false → Sends moment link (record { channel = core; server = server }) (record { channel = core; server = server })
sends_none moment link core server is_not = subst (λ (can : Bool). MatchBool can (Drained moment link (record { channel = core; server = server }) (record { channel = core; server = server })) (◌≡◌ {A = Sides} (record { channel = core; server = server }) (record { channel = core; server = server }))) (sym is_not) refl

pub sends_some : (moment link : ℕ) (old new : CoreSeen) (server after : Core) (r : Reply) → can_drain_in link old.state ≡ true → Posts moment (event.Drain link 65536) old new r → (broken : Option ℕ) × CoreArrives server link (octets_in r) after broken → Sends moment link (record { channel = old; server = server }) (record { channel = new; server = after })
sends_some moment link old new server after r is posts arrives =
    subst (λ (can : Bool). MatchBool can (Drained moment link (record { channel = old; server = server }) (record { channel = new; server = after })) (◌≡◌ {A = Sides} (record { channel = new; server = after }) (record { channel = old; server = server }))) (sym is)
    (record { reply = r; posts = posts; broken = arrives.0; arrives = arrives.1 })

pub arrive_none : (moment link : ℕ) (octets : List ℕ) (core : CoreSeen) → octets ≡ [] → ArriveAt moment link octets core core
arrive_none moment link octets core none = subst (λ (xs : List ℕ). ArriveAt moment link xs core core) (sym none) refl

pub arrive_some : (moment link : ℕ) (octets : List ℕ) (old new : CoreSeen) (r : Reply) → (octets ≡ [] → ⊥) → Posts moment (event.Arrived link octets) old new r → ArriveAt moment link octets old new
arrive_some moment link [] old new r some posts = absurd (some refl)
arrive_some moment link (x ∷ octets) old new r some posts = (r, posts)

pub receives : (moment link : ℕ) (old new : CoreSeen) (server after : Core) (octets : List ℕ) → CoreDrains server link after octets → ArriveAt moment link octets old new → Receives moment link (record { channel = old; server = server }) (record { channel = new; server = after })
receives moment link old new server after octets drains arrive = record { octets = octets; drains = drains; arrive = arrive }

-- ---- takes

-- takes so far
abbrev pub IsTaking : ℕ → ℕ → CoreSeen → CoreSeen → Type 0
IsTaking moment call old now = (replies : List Reply) × TakesMore moment call replies old now

taken_more : (moment call : ℕ) (replies : List Reply) (old now new : CoreSeen) (r : Reply) → TakesMore moment call replies old now → Posts moment (event.Take call) now new r → is_more r ≡ true → TakesMore moment call (replies ++ r ∷ []) old new
taken_more moment call [] old now new r same posts more = (new, subst (λ (x : CoreSeen). Posts moment (event.Take call) x new r) same posts, more, refl)
taken_more moment call (s ∷ replies) old now new r takes posts more =
    (takes.0, takes.1, takes.2, taken_more moment call replies takes.0 now new r takes.3 posts more)

pub IsTaking-more : (moment call : ℕ) (old now new : CoreSeen) (r : Reply) → IsTaking moment call old now → Posts moment (event.Take call) now new r → is_more r ≡ true → IsTaking moment call old new
IsTaking-more moment call old now new r taking posts more =
    (taking.0 ++ r ∷ [], taken_more moment call taking.0 old now new r taking.1 posts more)

pub IsTaking-done : (moment call : ℕ) (old now new : CoreSeen) (r : Reply) → IsTaking moment call old now → Posts moment (event.Take call) now new r → is_more r ≡ false → Takes moment call old new
IsTaking-done moment call old now new r taking posts is_not =
    record { more = taking.0; before = now; take_more = taking.1; last = r; posts = posts; stops = is_not }

-- ---- one action

pub does_post : (moment : ℕ) (step : LoadStep) (e : Event) (old new : CoreSeen) (server : Core) → step ≡ does.Post e → (r : Reply) × Posts moment e old new r → Does moment step (record { channel = old; server = server }) (record { channel = new; server = server })
does_post moment step e old new server is posts =
    subst (λ (s : LoadStep). Does moment s (record { channel = old; server = server }) (record { channel = new; server = server })) (sym is) (refl, posts.0, posts.1)

pub does_exchange : (moment : ℕ) (step : LoadStep) (a b : Sides) → step ≡ does.Exchange → Exchanges moment a b → Does moment step a b
does_exchange moment step a b is exchanges = subst (λ (s : LoadStep). Does moment s a b) (sym is) exchanges

pub does_takes : (moment : ℕ) (step : LoadStep) (call : ℕ) (old new : CoreSeen) (server : Core) → step ≡ does.Takes call → Takes moment call old new → Does moment step (record { channel = old; server = server }) (record { channel = new; server = server })
does_takes moment step call old new server is takes =
    subst (λ (s : LoadStep). Does moment s (record { channel = old; server = server }) (record { channel = new; server = server })) (sym is) (refl, takes)

-- ---- many actions

pub Plays-join : (xs ys : List LoadAction) (a b c : Sides) → Plays xs a b → Plays ys b c → Plays (xs ++ ys) a c
Plays-join [] ys a b c same more = subst (λ (x : Sides). Plays ys x c) same more
Plays-join (x ∷ xs) ys a b c plays more = (plays.0, plays.1, Plays-join xs ys plays.0 b c plays.2 more)

Plays-snoc : (xs : List LoadAction) (x : LoadAction) (a b c : Sides) → Plays xs a b → Does x.moment x.step b c → Plays (xs ++ x ∷ []) a c
Plays-snoc xs x a b c plays done = Plays-join xs (x ∷ []) a b c plays (c, done, refl)

-- the actions so far, and those that are left
pub record IsPlaying (all : List LoadAction) (a now : Sides) (left : List LoadAction) : Type 0 where
  pub prefix : List LoadAction
  pub parts : all ≡ prefix ++ left
  pub plays : Plays prefix a now

pub IsPlaying-more : (all left rest : List LoadAction) (x : LoadAction) (a now new : Sides) → IsPlaying all a now left → left ≡ x ∷ rest → Does x.moment x.step now new → IsPlaying all a new rest
IsPlaying-more all left rest x a now new playing e done = record {
  prefix = playing.prefix ++ x ∷ [];
  parts = playing.parts ∙ ap (λ (xs : List LoadAction). playing.prefix ++ xs) e ∙ sym (append_assoc playing.prefix (x ∷ []) rest);
  plays = Plays-snoc playing.prefix x a now new playing.plays done;
}

-- ---- many batches

range_more : (a n j : ℕ) → a + n ≡ j → range_with_len a (n + 1) ≡ range_with_len a n ++ j ∷ []
range_more a zero j e =
    let same : a ≡ j = omega (arith, e) in
    ap (λ (k : ℕ). k ∷ []) same
range_more a (suc n) j e =
    let count : suc n + 1 ≡ suc (n + 1) = omega arith in
    let place : a + 1 + n ≡ j = omega (arith, e) in
    ap (range_with_len a) count ∙ ap (λ (ks : List ℕ). a ∷ ks) (range_more (a + 1) n j place)

more_batches : (batch : ℕ → List LoadAction) (n : ℕ) → flat_map batch (range_with_len 0 (n + 1)) ≡ flat_map batch (range_with_len 0 n) ++ batch n
more_batches batch n =
    ap (flat_map batch) (range_more 0 n n (omega arith))
    ∙ flat_map-append batch (range_with_len 0 n) (n ∷ [])
    ∙ ap (λ (xs : List LoadAction). flat_map batch (range_with_len 0 n) ++ xs) (append-nil (batch n))

pub batches_more : (batch : ℕ → List LoadAction) (n : ℕ) (a now new : Sides) → Plays (flat_map batch (range_with_len 0 n)) a now → Plays (batch n) now new → Plays (flat_map batch (range_with_len 0 (n + 1))) a new
batches_more batch n a now new plays more =
    subst (λ (xs : List LoadAction). Plays xs a new) (sym (more_batches batch n))
    (Plays-join (flat_map batch (range_with_len 0 n)) (batch n) a now new plays more)

-- no batch was played
pub batches_none : (batch : ℕ → List LoadAction) (a : Sides) → Plays (flat_map batch (range_with_len 0 0)) a a
batches_none batch a = refl
