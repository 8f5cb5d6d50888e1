-- A pick names a READY subchannel of the policy's view, and on the link of a READY subchannel SETTINGS came.
use Rattle.grpc_base.specs.declared.kind.Kind.TheVariants as kind
use Rattle.grpc_base.specs.declared.event.Conn.TheVariants as conn
use Rattle.grpc_base.specs.declared.event.Conn.{Conn}
use Rattle.grpc_base.specs.declared.kind.Kind.{Kind}
use Rattle.grpc_base.specs.declared.kind.Pick.TheVariants as pick
use Rattle.channel_actions.proofs.KeptSessions.Lists.{all_found, all_get}
use Rattle.channel_actions.specs.PrefacedLinks.Prefaced.{has_preface, names_prefaced}
use Rattle.lb_policy.specs.Table.{choices_by, first_tier, is_ready, pick_at, pick_of, pick_without, place_by, state_of_kind, subs_in, tier, tier_is_ready}
use Rattle.lb_policy.specs.declared.seen.SubSeen.{SubSeen}
use Rattle.session_actions.specs.Policies.{is_live_sub, live_sub, policy_of, view_of, width_of}
use Rattle.session_actions.specs.Words.{holds, numbered}
use Rattle.session_actions.specs.declared.link.Link.{Link}
use Rattle.session_actions.specs.declared.policy.PolicyUse.{PolicyUse}
use Rattle.session_actions.specs.declared.seen.Seen.{Seen}
use Rattle.session_actions.specs.declared.subchannel.Subchannel.{Subchannel}
use Rattle.std.proofs.Common.{Bool, List, None, Option, Some, [], cond, drop, false, filter, filter_map, length, map, not, refl, slice_get, suc, take, true, zero, ℕ, ◌*◌, ◌||◌, ◌∷◌, ◌≡◌}
use Rattle.std.proofs.lemmas.Bool.{and_from, and_parts}
use Rattle.std.specs.List.{cons_option, list_all}
use Rattle.std.specs.Option.{option_map_or}

all_take : {X : Type 0} (p : X → Bool) (n : ℕ) (xs : List X) → list_all p xs ≡ true → list_all p (take n xs) ≡ true
all_take p zero [] e = refl
all_take p zero (x ∷ xs) e = refl
all_take p (suc n) [] e = refl
all_take p (suc n) (x ∷ xs) e =
    let both : (p x ≡ true) × (list_all p xs ≡ true) = and_parts (p x) (list_all p xs) e in
    and_from (p x) (list_all p (take n xs)) both.0 (all_take p n xs both.1)

all_drop : {X : Type 0} (p : X → Bool) (n : ℕ) (xs : List X) → list_all p xs ≡ true → list_all p (drop n xs) ≡ true
all_drop p zero [] e = refl
all_drop p zero (x ∷ xs) e = e
all_drop p (suc n) [] e = refl
all_drop p (suc n) (x ∷ xs) e = all_drop p n xs (and_parts (p x) (list_all p xs) e).1

cons_all : {X : Type 0} (p : X → Bool) (o : Option X) (xs : List X) → option_map_or p o true ≡ true → list_all p xs ≡ true → list_all p (cons_option o xs) ≡ true
cons_all p None xs e f = f
cons_all p (Some x) xs e f = and_from (p x) (list_all p xs) e f

all_of_some : {X Y : Type 0} (p : Y → Bool) (f : X → Option Y) → ((x : X) → option_map_or p (f x) true ≡ true) → (xs : List X) → list_all p (filter_map f xs) ≡ true
all_of_some p f each [] = refl
all_of_some p f each (x ∷ xs) = cons_all p (f x) (filter_map f xs) (each x) (all_of_some p f each xs)

module _ (links : List Link) (subs : List Subchannel) where
  abbrev pub is_named : ℕ → Bool
  is_named n = holds (has_preface links) (numbered subs n)

  -- of a view
  abbrev pub is_sound_view : SubSeen → Bool
  is_sound_view v = not (is_ready v.state) || is_named v.sub

  numbers_by : (v : SubSeen) (rest : List SubSeen) (b : Bool) → (not b || is_named v.sub) ≡ true → list_all is_named (map (λ (w : SubSeen). w.sub) rest) ≡ true
      → list_all is_named (map (λ (w : SubSeen). w.sub) (cond b (v ∷ rest) rest)) ≡ true
  numbers_by v rest true e f = and_from (is_named v.sub) (list_all is_named (map (λ (w : SubSeen). w.sub) rest)) e f
  numbers_by v rest false e f = f

  ready_linked : (view : List SubSeen) → list_all is_sound_view view ≡ true → list_all is_named (subs_in is_ready view) ≡ true
  ready_linked [] e = refl
  ready_linked (v ∷ view) e =
      let both : (is_sound_view v ≡ true) × (list_all is_sound_view view ≡ true) = and_parts (is_sound_view v) (list_all is_sound_view view) e in
      numbers_by v (filter (λ (w : SubSeen). is_ready w.state) view) (is_ready v.state) both.0 (ready_linked view both.1)

  tiers_linked : (width : ℕ) (view : List SubSeen) (o : Option ℕ) → list_all is_sound_view view ≡ true
      → list_all is_named (option_map_or (λ (t : ℕ). subs_in is_ready (tier width view t)) o []) ≡ true
  tiers_linked width view None e = refl
  tiers_linked width view (Some t) e =
      ready_linked (tier width view t) (all_take is_sound_view width (drop (t * width) view) (all_drop is_sound_view (t * width) view e))

  choices_linked : (k : Kind) (width : ℕ) (view : List SubSeen) → list_all is_sound_view view ≡ true → list_all is_named (choices_by k width view) ≡ true
  choices_linked kind.Priority width view e = tiers_linked width view (first_tier tier_is_ready width view) e
  choices_linked kind.PickFirst width view e = ready_linked view e
  choices_linked kind.RoundRobin width view e = ready_linked view e

  without_linked : (c : Conn) → names_prefaced links subs (pick_without c) ≡ true
  without_linked conn.Failure = refl
  without_linked conn.Idle = refl
  without_linked conn.Connecting = refl
  without_linked conn.Ready = refl
  without_linked conn.Shutdown = refl

  at_linked : (choices : List ℕ) (place : ℕ) (state : Conn) (o : Option ℕ) → slice_get choices place ≡ o → list_all is_named choices ≡ true
      → names_prefaced links subs (option_map_or pick.Place o (pick_without state)) ≡ true
  at_linked choices place state None got e = without_linked state
  at_linked choices place state (Some n) got e = all_get is_named choices place n e got

  pub pick_linked : (k : Kind) (width : ℕ) (failed : List ℕ) (view : List SubSeen) (turns : ℕ) → list_all is_sound_view view ≡ true
      → names_prefaced links subs (pick_at (choices_by k width view) (place_by k turns (length (choices_by k width view))) (state_of_kind k width failed view)) ≡ true
  pick_linked k width failed view turns e =
      let choices : List ℕ = choices_by k width view in
      let place : ℕ = place_by k turns (length choices) in
      at_linked choices place (state_of_kind k width failed view) (slice_get choices place) refl (choices_linked k width view e)

all_seen : (p : SubSeen → Bool) (bs : List Subchannel) → list_all (λ (b : Subchannel). p (record { sub = b.number; state = b.state })) bs ≡ true
    → list_all p (map (λ (b : Subchannel). record { sub = b.number; state = b.state }) bs) ≡ true
all_seen p [] e = refl
all_seen p (b ∷ bs) e =
    let both : (p (record { sub = b.number; state = b.state }) ≡ true) × (list_all (λ (c : Subchannel). p (record { sub = c.number; state = c.state })) bs ≡ true)
    = and_parts (p (record { sub = b.number; state = b.state })) (list_all (λ (c : Subchannel). p (record { sub = c.number; state = c.state })) bs) e in
    and_from (p (record { sub = b.number; state = b.state })) (list_all p (map (λ (c : Subchannel). record { sub = c.number; state = c.state }) bs)) both.0 (all_seen p bs both.1)

-- each READY subchannel of the session has one, by its number
abbrev is_ready_named : List Link → List Subchannel → Subchannel → Bool
is_ready_named links subs b = not (is_ready b.state) || is_named links subs b.number

pub pick_is_prefaced : (s : Seen) (g : PolicyUse) → list_all (is_ready_named s.links s.subs) s.subs ≡ true → names_prefaced s.links s.subs (pick_of (policy_of g s)) ≡ true
pick_is_prefaced s g e =
    pick_linked s.links s.subs g.generation.kind (width_of g.generation.kind s.setup.policies) g.failed (view_of g.addresses s) (policy_of g s).turns
    (all_seen (is_sound_view s.links s.subs) (filter_map (live_sub s) g.addresses)
    (all_of_some (is_ready_named s.links s.subs) (live_sub s) (λ address. all_found (is_ready_named s.links s.subs) (is_live_sub address) s.subs e) g.addresses))
