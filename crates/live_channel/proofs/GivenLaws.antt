-- The workers beside the calls, by what each is there for: one for each of the first dialers, and one that looks a name up.
use Rattle.std.proofs.Common.{◌≡◌, ◌∙◌, ℕ, Option, List, [], ◌∷◌, ◌++◌, ap, append_assoc, length, map, refl, sym, subst, take}
use Rattle.std.specs.List.{AllByRecursion}
use Rattle.std.proofs.lemmas.List.{map-append}
use Rattle.grpc_base.specs.declared.address.Address.{Address}
use Rattle.grpc_base.specs.declared.event.Entry.{Entry}
use Rattle.grpc_base.specs.declared.event.Event.{Event}
use Rattle.grpc_base.specs.declared.event.Event.TheVariants as event
use Rattle.live_run.specs.Sides.{IsOfNames}
use Rattle.turn_lock.specs.History.{SeatSeen}
use Rattle.live_channel.specs.Handles.{DialersAreGiven, IsWithConfig, Keeper, OfLinks, OfNames, helds_of}
use Rattle.live_channel.proofs.OwnLaws.{each_weaker}

-- ---- the first dialers

-- one more dialer was taken
pub one_taken : {N : Type 0} (all done before after : List N) (dialer : N) → all ≡ done ++ before → before ≡ dialer ∷ after → all ≡ (done ++ dialer ∷ []) ++ after
one_taken {N} all done before after dialer so_far is = so_far ∙ ap (λ (l : List N). done ++ l) is ∙ sym (append_assoc done (dialer ∷ []) after)

-- and got its worker
pub one_given : {N : Type 0} (coming : N → Option (List (List ℕ))) (start before after : List Keeper) (done : List N) (dialer : N) → before ≡ start ++ map (λ d. OfLinks (coming d)) done → after ≡ before ++ OfLinks (coming dialer) ∷ []
    → after ≡ start ++ map (λ d. OfLinks (coming d)) (done ++ dialer ∷ [])
one_given {N} coming start before after done dialer so_far is =
    is ∙ ap (λ (l : List Keeper). l ++ OfLinks (coming dialer) ∷ []) so_far ∙ append_assoc start (map (λ (d : N). OfLinks (coming d)) done) (OfLinks (coming dialer) ∷ [])
    ∙ ap (λ (l : List Keeper). start ++ l) (sym (map-append (λ (d : N). OfLinks (coming d)) done (dialer ∷ [])))

first_of : {N : Type 0} (coming : N → Option (List (List ℕ))) (done rest : List N) → map (λ held. OfLinks held) (take (length done) (map coming (done ++ rest))) ≡ map (λ d. OfLinks (coming d)) done
first_of coming [] rest = refl
first_of coming (dialer ∷ done) rest = ap (λ (l : List Keeper). OfLinks (coming dialer) ∷ l) (first_of coming done rest)

pub all_given : {N : Type 0} (coming : N → Option (List (List ℕ))) (start now : List Keeper) (all done rest : List N) → all ≡ done ++ rest → now ≡ start ++ map (λ d. OfLinks (coming d)) done
    → (workers : ℕ) × (now ≡ start ++ map (λ held. OfLinks held) (take workers (map coming all)))
all_given {N} coming start now all done rest split is =
    (length done, is ∙ ap (λ (l : List Keeper). start ++ l) (sym (ap (λ (l : List N). map (λ held. OfLinks held) (take (length done) (map coming l))) split ∙ first_of coming done rest)))

-- ---- what they held

helds_map : (helds : List (Option (List (List ℕ)))) → helds_of (map (λ held. OfLinks held) helds) ≡ helds
helds_map [] = refl
helds_map (held ∷ helds) = ap (λ (l : List (Option (List (List ℕ)))). held ∷ l) (helds_map helds)

withs_map : (config : Option (List ℕ)) (helds : List (Option (List (List ℕ)))) → AllByRecursion (IsWithConfig config) (map (λ held. OfLinks held) helds)
withs_map config [] = tt
withs_map config (held ∷ helds) = (tt, withs_map config helds)

-- workers for links alone
pub nets_given : {J : Type 0} (keeper_of : J → Keeper) (held : List (Option (List (List ℕ)))) (config : Option (List ℕ)) (none jobs : List J) (seat : SeatSeen Entry) → none ≡ []
    → (workers : ℕ) × (map keeper_of jobs ≡ map keeper_of none ++ map (λ h. OfLinks h) (take workers held)) → AllByRecursion (λ p. IsOfNames config p.1.event) seat.own → DialersAreGiven held config (map keeper_of jobs) seat
nets_given {J} keeper_of held config none jobs seat empty (workers, is) first =
    let keepers : map keeper_of jobs ≡ map (λ h. OfLinks h) (take workers held) = is ∙ ap (λ (l : List J). map keeper_of l ++ map (λ h. OfLinks h) (take workers held)) empty in
    record {
      workers = workers;
      links = ap helds_of keepers ∙ helds_map (take workers held);
      names = subst (λ (l : List Keeper). AllByRecursion (IsWithConfig config) l) (sym keepers) (withs_map config (take workers held));
      first = first;
    }

-- and one more before them, that looks a name up
pub name_given : {J : Type 0} (keeper_of : J → Keeper) (held : List (Option (List (List ℕ)))) (config : Option (List ℕ)) (none mid jobs : List J) (seat : SeatSeen Entry) → none ≡ [] → map keeper_of mid ≡ map keeper_of none ++ OfNames config ∷ []
    → (workers : ℕ) × (map keeper_of jobs ≡ map keeper_of mid ++ map (λ h. OfLinks h) (take workers held)) → seat.own ≡ [] → DialersAreGiven held config (map keeper_of jobs) seat
name_given {J} keeper_of held config none mid jobs seat empty named (workers, is) clear =
    let keepers : map keeper_of jobs ≡ OfNames config ∷ map (λ h. OfLinks h) (take workers held) =
    is ∙ ap (λ (l : List Keeper). l ++ map (λ h. OfLinks h) (take workers held)) (named ∙ ap (λ (l : List J). map keeper_of l ++ OfNames config ∷ []) empty) in
    record {
      workers = workers;
      links = ap helds_of keepers ∙ helds_map (take workers held);
      names = subst (λ (l : List Keeper). AllByRecursion (IsWithConfig config) l) (sym keepers) (refl, withs_map config (take workers held));
      first = subst (λ (own : List (ℕ × Entry)). AllByRecursion (λ p. IsOfNames config p.1.event) own) (sym clear) tt;
    }

-- the entry of addresses with this config
pub reported_given : (e : Event) (addresses : List Address) (config : Option (List ℕ)) (before after : List (ℕ × Entry)) → e ≡ event.Resolved addresses config → after ≡ before → AllByRecursion (λ p. p.1.event ≡ e) before → AllByRecursion (λ p. IsOfNames config p.1.event) after
reported_given e addresses config before after is same each =
    subst (λ (own : List (ℕ × Entry)). AllByRecursion (λ p. IsOfNames config p.1.event) own) (sym same)
    (each_weaker (λ (p : ℕ × Entry). p.1.event ≡ e) (λ (p : ℕ × Entry). IsOfNames config p.1.event) (λ p at. subst (IsOfNames config) (sym (at ∙ is)) refl) before each)
