-- The subchannels of a session and those of the net, one by one: what is found in the one is found in the other, and a change of one is a change of
-- the other.
use Rattle.std.proofs.Common.{◌≡◌, ◌+◌, ◌<◌, ◌∷◌, ap, arith, refl, subst, Bool, true, false, List, [], Option, None, Some, ℕ, zero, suc, cond, slice_get}
use Rattle.std.specs.Prelude.{slice_set}
use Rattle.subchannel.specs.Boards.{changed}
use Rattle.std.specs.List.{position_from}
use Rattle.std.specs.Option.{option_map}
use Rattle.std.specs.Prelude.{find}
use Rattle.channel_net.specs.Lists.{link_of}
use Rattle.channel_net.specs.declared.links.OwnLink.{OwnLink}
use Rattle.net_actions.specs.Sees.{SubchannelsAgree, IsSub}
use Rattle.session_actions.specs.declared.subchannel.Subchannel.{Subchannel}
use Rattle.subchannel.specs.Records.{SubRecord}

-- a test of a subchannel that says the same of the net's
abbrev pub SaysSame : (Subchannel → Bool) → (SubRecord → Bool) → Type 0
SaysSame p q = (b : Subchannel) (r : SubRecord) (number : ℕ) (link : Option ℕ) → IsSub b r number link → p b ≡ q r

find_by : (t u : Bool) (b : Subchannel) (n : ℕ) (o : Option Subchannel) (e : Option ℕ) → t ≡ u → b.number ≡ n → option_map (λ (c : Subchannel). c.number) o ≡ e
    → option_map (λ (c : Subchannel). c.number) (cond t (Some b) o) ≡ cond u (Some n) e
find_by true true b n o e same number rest = ap (λ (k : ℕ). Some k) number
find_by false false b n o e same number rest = rest
find_by true false b n o e same number rest = absurd (cc)
find_by false true b n o e same number rest = absurd (cc)

pub found_same : (p : Subchannel → Bool) (q : SubRecord → Bool) (same : SaysSame p q) (n : ℕ) (subs : List Subchannel) (board : List SubRecord)
    (links : List OwnLink) → SubchannelsAgree n subs board links → option_map (λ (b : Subchannel). b.number) (find p subs) ≡ position_from q n board
found_same p q same n [] [] links h = refl
found_same p q same n (b ∷ subs) (r ∷ board) links h =
    find_by (p b) (q r) b n (find p subs) (position_from q (n + 1) board) (same b r n (link_of links n) h.0) h.0.number_is
    (found_same p q same (n + 1) subs board links h.1)
found_same p q same n [] (r ∷ board) links h = absurd h
found_same p q same n (b ∷ subs) [] links h = absurd h

-- the subchannel of a place, in both
pub record Both (b : Subchannel) (board : List SubRecord) (place number : ℕ) (links : List OwnLink) : Type 0 where
  pub r : SubRecord
  pub at : slice_get board place ≡ Some r
  pub is : IsSub b r number (link_of links number)

pub both_at : (n : ℕ) (subs : List Subchannel) (board : List SubRecord) (links : List OwnLink) (place : ℕ) (b : Subchannel)
    → SubchannelsAgree n subs board links → slice_get subs place ≡ Some b → Both b board place (n + place) links
both_at n [] board links place b h e = absurd (cc)
both_at n (c ∷ subs) [] links place b h e = absurd h
both_at n (c ∷ subs) (r ∷ board) links zero b h e =
    let same : c ≡ b = (cc) in
    let number : n ≡ n + 0 = omega arith in
    record {
      r = r;
      at = refl;
      is = subst (λ (k : ℕ). IsSub b r k (link_of links k)) number (subst (λ (d : Subchannel). IsSub d r n (link_of links n)) same h.0);
    }
both_at n (c ∷ subs) (r ∷ board) links (suc place) b h e =
    let next : Both b board place (n + 1 + place) links = both_at (n + 1) subs board links place b h.1 e in
    let number : n + 1 + place ≡ n + suc place = omega arith in
    record { r = next.r; at = next.at; is = subst (λ (k : ℕ). IsSub b next.r k (link_of links k)) number next.is }

pub none_at : (n : ℕ) (subs : List Subchannel) (board : List SubRecord) (links : List OwnLink) (place : ℕ) → SubchannelsAgree n subs board links
    → slice_get subs place ≡ None → slice_get board place ≡ None
none_at n [] [] links place h e = refl
none_at n [] (r ∷ board) links place h e = absurd h
none_at n (c ∷ subs) [] links place h e = absurd h
none_at n (c ∷ subs) (r ∷ board) links zero h e = absurd (cc)
none_at n (c ∷ subs) (r ∷ board) links (suc place) h e = none_at (n + 1) subs board links place h.1 e

-- where the links of all other numbers stay, a change at a place is a change of both
abbrev pub SameBut : ℕ → List OwnLink → List OwnLink → Type 0
SameBut number links others = (k : ℕ) → (k ≡ number → ⊥) → link_of links k ≡ link_of others k

-- (all of them, where no number is the changed one)
pub kept_beside : (n number : ℕ) (subs : List Subchannel) (board : List SubRecord) (links others : List OwnLink) → number < n
    → SameBut number links others → SubchannelsAgree n subs board links → SubchannelsAgree n subs board others
kept_beside n number [] [] links others less same h = tt
kept_beside n number [] (r ∷ board) links others less same h = absurd h
kept_beside n number (c ∷ subs) [] links others less same h = absurd h
kept_beside n number (c ∷ subs) (r ∷ board) links others less same h =
    let here : link_of links n ≡ link_of others n = same n (λ e. omega (arith, e)) in
    let further : number < n + 1 = omega arith in
    (subst (λ (l : Option ℕ). IsSub c r n l) here h.0, kept_beside (n + 1) number subs board links others further same h.1)

pub changed_same : (n place : ℕ) (subs : List Subchannel) (board : List SubRecord) (links others : List OwnLink) (c : Subchannel) (f : SubRecord → SubRecord)
    → SameBut (n + place) links others → SubchannelsAgree n subs board links
    → ((r : SubRecord) → slice_get board place ≡ Some r → IsSub c (f r) (n + place) (link_of others (n + place)))
    → SubchannelsAgree n (slice_set subs place c) (changed f board place) others
changed_same n place [] [] links others c f same h is = tt
changed_same n place [] (r ∷ board) links others c f same h is = absurd h
changed_same n place (b ∷ subs) [] links others c f same h is = absurd h
changed_same n zero (b ∷ subs) (r ∷ board) links others c f same h is =
    let number : n + 0 ≡ n = omega arith in
    let here : IsSub c (f r) n (link_of others n) = subst (λ (k : ℕ). IsSub c (f r) k (link_of others k)) number (is r refl) in
    let but : SameBut n links others = subst (λ (k : ℕ). SameBut k links others) number same in
    (here, kept_beside (n + 1) n subs board links others (omega arith) but h.1)
changed_same n (suc place) (b ∷ subs) (r ∷ board) links others c f same h is =
    let number : n + suc place ≡ n + 1 + place = omega arith in
    let here : link_of links n ≡ link_of others n = same n (λ e. omega (arith, e)) in
    let but : SameBut (n + 1 + place) links others = subst (λ (k : ℕ). SameBut k links others) number same in
    let then : (q : SubRecord) → slice_get board place ≡ Some q → IsSub c (f q) (n + 1 + place) (link_of others (n + 1 + place))
    = λ q e. subst (λ (k : ℕ). IsSub c (f q) k (link_of others k)) number (is q e) in
    (subst (λ (l : Option ℕ). IsSub b r n l) here h.0, changed_same (n + 1) place subs board links others c f but h.1 then)
