-- The link of a subchannel, after one came up and after one was dropped.
use Rattle.std.proofs.Common.{◌≡◌, ◌++◌, ◌∷◌, ◌==◌, ap, refl, subst, ◌∙◌, Bool, true, false, not, List, [], Option, None, Some, ℕ, cond, if◌then◌else◌}
use Rattle.std.proofs.lemmas.Bool.{eqb-true}
use Rattle.std.specs.Option.{option_map}
use Rattle.std.specs.Prelude.{find}
use Rattle.channel_net.specs.Lists.{link_of, without}
use Rattle.channel_net.specs.declared.links.OwnLink.{OwnLink}

-- a further link after them
more_by : (t : Bool) (own : OwnLink) (o e : Option OwnLink) → option_map (λ (x : OwnLink). x.link) o ≡ option_map (λ (x : OwnLink). x.link) e
    → option_map (λ (x : OwnLink). x.link) (cond t (Some own) o) ≡ option_map (λ (x : OwnLink). x.link) (cond t (Some own) e)
more_by true own o e h = refl
more_by false own o e h = h

pub other_stays : (links : List OwnLink) (sub link k : ℕ) → (k == sub) ≡ false → (sub == k) ≡ false
    → link_of (links ++ record { sub = sub; link = link } ∷ []) k ≡ link_of links k
other_stays [] sub link k e f =
    ap (λ (t : Bool). option_map (λ (x : OwnLink). x.link) (cond t (Some (record { sub = sub; link = link })) None)) f
other_stays (own ∷ links) sub link k e f =
    more_by (own.sub == k) own (find (λ (x : OwnLink). x.sub == k) (links ++ record { sub = sub; link = link } ∷ []))
    (find (λ (x : OwnLink). x.sub == k) links) (other_stays links sub link k e f)

first_by : (t : Bool) (own : OwnLink) (o : Option OwnLink) (link : ℕ) (e : Option OwnLink) → option_map (λ (x : OwnLink). x.link) (cond t (Some own) e) ≡ None
    → (option_map (λ (x : OwnLink). x.link) e ≡ None → option_map (λ (x : OwnLink). x.link) o ≡ Some link)
    → option_map (λ (x : OwnLink). x.link) (cond t (Some own) o) ≡ Some link
first_by true own o link e none h = absurd (cc)
first_by false own o link e none h = h none

pub new_is : (links : List OwnLink) (sub link : ℕ) → link_of links sub ≡ None → (sub == sub) ≡ true
    → link_of (links ++ record { sub = sub; link = link } ∷ []) sub ≡ Some link
new_is [] sub link none e =
    ap (λ (t : Bool). option_map (λ (x : OwnLink). x.link) (cond t (Some (record { sub = sub; link = link })) None)) e
new_is (own ∷ links) sub link none e =
    first_by (own.sub == sub) own (find (λ (x : OwnLink). x.sub == sub) (links ++ record { sub = sub; link = link } ∷ [])) link
    (find (λ (x : OwnLink). x.sub == sub) links) none (λ n. new_is links sub link n e)

not_false : (x : Bool) → not x ≡ false → x ≡ true
not_false true e = refl
not_false false e = absurd (cc)

not_true : (x : Bool) → not x ≡ true → x ≡ false
not_true true e = absurd (cc)
not_true false e = refl

-- numbers that are not the same
unlike_by : (b : Bool) (m n : ℕ) → (m == n) ≡ b → (m ≡ n → ⊥) → (m == n) ≡ false
unlike_by true m n e never = absurd (never (eqb-true m n e))
unlike_by false m n e never = e

pub unlike : (m n : ℕ) → (m ≡ n → ⊥) → (m == n) ≡ false
unlike m n never = unlike_by (m == n) m n refl never

-- without the link of one
kept_by : (t u : Bool) (own : OwnLink) (rest : List OwnLink) (k : ℕ) (o : Option OwnLink) → (own.sub == k) ≡ t → u ≡ true
    → option_map (λ (x : OwnLink). x.link) (find (λ (x : OwnLink). x.sub == k) rest) ≡ option_map (λ (x : OwnLink). x.link) o
    → option_map (λ (x : OwnLink). x.link) (find (λ (x : OwnLink). x.sub == k) (if u then own ∷ rest else rest)) ≡ option_map (λ (x : OwnLink). x.link) (cond t (Some own) o)
kept_by true true own rest k o e f h =
    ap (λ (t : Bool). option_map (λ (x : OwnLink). x.link) (cond t (Some own) (find (λ (x : OwnLink). x.sub == k) rest))) e
kept_by false true own rest k o e f h =
    ap (λ (t : Bool). option_map (λ (x : OwnLink). x.link) (cond t (Some own) (find (λ (x : OwnLink). x.sub == k) rest))) e ∙ h
kept_by t false own rest k o e f h = absurd (cc)

left_by : (t u : Bool) (own : OwnLink) (rest : List OwnLink) (sub k : ℕ) (o : Option OwnLink) → (own.sub == k) ≡ t → not (own.sub == sub) ≡ u → (k == sub) ≡ false
    → option_map (λ (x : OwnLink). x.link) (find (λ (x : OwnLink). x.sub == k) rest) ≡ option_map (λ (x : OwnLink). x.link) o
    → option_map (λ (x : OwnLink). x.link) (find (λ (x : OwnLink). x.sub == k) (if u then own ∷ rest else rest)) ≡ option_map (λ (x : OwnLink). x.link) (cond t (Some own) o)
left_by t true own rest sub k o e f away h = kept_by t true own rest k o e refl h
left_by true false own rest sub k o e f away h =
    let here : own.sub ≡ k = eqb-true own.sub k e in
    let gone : (k == sub) ≡ true = subst (λ (j : ℕ). (j == sub) ≡ true) here (not_false (own.sub == sub) f) in
    absurd (cc)
left_by false false own rest sub k o e f away h = h

pub others_left : (links : List OwnLink) (sub k : ℕ) → (k == sub) ≡ false → link_of (without sub links) k ≡ link_of links k
others_left [] sub k away = refl
others_left (own ∷ links) sub k away =
    left_by (own.sub == k) (not (own.sub == sub)) own (without sub links) sub k (find (λ (x : OwnLink). x.sub == k) links) refl refl away
    (others_left links sub k away)

gone_by : (u : Bool) (own : OwnLink) (rest : List OwnLink) (sub : ℕ) → not (own.sub == sub) ≡ u → link_of rest sub ≡ None
    → link_of (if u then own ∷ rest else rest) sub ≡ None
gone_by true own rest sub e h =
    let away : (own.sub == sub) ≡ false = not_true (own.sub == sub) e in
    ap (λ (t : Bool). option_map (λ (x : OwnLink). x.link) (cond t (Some own) (find (λ (x : OwnLink). x.sub == sub) rest))) away ∙ h
gone_by false own rest sub e h = h

pub none_left : (links : List OwnLink) (sub : ℕ) → link_of (without sub links) sub ≡ None
none_left [] sub = refl
none_left (own ∷ links) sub = gone_by (not (own.sub == sub)) own (without sub links) sub refl (none_left links sub)
