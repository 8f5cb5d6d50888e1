-- A session in which fewer links are of subchannels than before: what links are to subchannels and attempts stays so.
use Rattle.std.proofs.Common.{◌≡◌, ◌==◌, ap, refl, sym, ◌∙◌, Bool, true, false, List, None, Option, Some, ℕ}
use Rattle.std.proofs.lemmas.Bool.{eqb-false, eqb-true}
use Rattle.std.specs.Option.{option_map}
use Rattle.attempt_cases.proofs.NetSettlings.Overdue.{gives_up}
use Rattle.channel_actions.specs.PrefacedLinks.Joined.{PrefacedLinksAreJoined}
use Rattle.session_actions.specs.Links.{has_settings}
use Rattle.session_actions.specs.Words.{changed, numbered}
use Rattle.session_actions.specs.declared.attempt.Attempt.{Attempt}
use Rattle.session_actions.specs.declared.link.Link.{Link}
use Rattle.session_actions.specs.declared.seen.Seen.{Seen}
use Rattle.session_actions.specs.declared.subchannel.Subchannel.{Subchannel}
use Rattle.session_order.proofs.Boards.{same_sub}
use Rattle.session_order.proofs.Changed.{changed_away, changed_map}

-- where the links of subchannels and attempts come from
pub joined_after : (t u : Seen) → PrefacedLinksAreJoined t
    → ((n k : ℕ) (c : Subchannel) → numbered u.subs n ≡ Some c → c.link ≡ Some k → (b : Subchannel) × ((numbered t.subs n ≡ Some b) × (b.link ≡ Some k)))
    → ((m : ℕ) (q : Link) → numbered u.links m ≡ Some q → (l : Link) × ((numbered t.links m ≡ Some l) × ((q.sub ≡ l.sub) × (has_settings q ≡ has_settings l))))
    → u.attempts ≡ t.attempts → PrefacedLinksAreJoined u
joined_after t u h subs links rows = record {
  own = λ n k c q here has there.
      let b = subs n k c here has in
      let l = links k q there in
      l.1.1.0 ∙ h.own n k b.0 l.0 b.1.0 b.1.1 l.1.0;
  prefaced = λ row a at q here placed there.
      let l = links at.link q there in
      l.1.1.1 ∙ h.prefaced row a at l.0 (ap (λ (xs : List Attempt). numbered xs row) (sym rows) ∙ here) placed l.1.0;
}

module _ (f : Subchannel → Subchannel) (restricted : (b : Subchannel) (k : ℕ) → (f b).link ≡ Some k → b.link ≡ Some k) (n : ℕ) (t : Seen) where
  one_sub : (b c : Subchannel) (k : ℕ) → numbered t.subs n ≡ Some b → numbered (changed f n t.subs) n ≡ Some c → c.link ≡ Some k
      → (d : Subchannel) × ((numbered t.subs n ≡ Some d) × (d.link ≡ Some k))
  one_sub b c k there here has =
      let same : f b ≡ c = same_sub (f b) c (numbered (changed f n t.subs) n) (changed_map f n t.subs ∙ ap (option_map f) there) here in
      (b, (there, restricted b k (ap (λ (x : Subchannel). x.link) same ∙ has)))

  sub_if : (j k : ℕ) (c : Subchannel) (b : Subchannel) (is : Bool) → (j == n) ≡ is → numbered t.subs n ≡ Some b → numbered (changed f n t.subs) j ≡ Some c → c.link ≡ Some k
      → (d : Subchannel) × ((numbered t.subs j ≡ Some d) × (d.link ≡ Some k))
  sub_if j k c b true is there here has =
      let same : j ≡ n = eqb-true j n is in
      let r = one_sub b c k there (ap (numbered (changed f n t.subs)) (sym same) ∙ here) has in
      (r.0, (ap (numbered t.subs) same ∙ r.1.0, r.1.1))
  sub_if j k c b false is there here has = (c, (sym (changed_away f n j t.subs (eqb-false j n is)) ∙ here, has))

  pub subs_after : (b : Subchannel) → numbered t.subs n ≡ Some b → (j k : ℕ) (c : Subchannel) → numbered (changed f n t.subs) j ≡ Some c → c.link ≡ Some k
      → (d : Subchannel) × ((numbered t.subs j ≡ Some d) × (d.link ≡ Some k))
  subs_after b there j k c here has = sub_if j k c b (j == n) refl there here has

pub same_links : (t : Seen) (m : ℕ) (q : Link) → numbered t.links m ≡ Some q → (l : Link) × ((numbered t.links m ≡ Some l) × ((q.sub ≡ l.sub) × (has_settings q ≡ has_settings l)))
same_links t m q there = (q, (there, (refl, refl)))

pub given_up : (o : Option Link) (q : Link) → option_map gives_up o ≡ Some q → (l : Link) × ((o ≡ Some l) × ((q.sub ≡ l.sub) × (has_settings q ≡ has_settings l)))
given_up None q e = absurd (cc)
given_up (Some l) q e = let one : q ≡ gives_up l = (cc) in (l, (refl, (ap (λ (x : Link). x.sub) one, ap has_settings one)))

pub link_if : (k : ℕ) (t : Seen) (m : ℕ) (q : Link) (is : Bool) → (m == k) ≡ is → numbered (changed gives_up k t.links) m ≡ Some q
    → (l : Link) × ((numbered t.links m ≡ Some l) × ((q.sub ≡ l.sub) × (has_settings q ≡ has_settings l)))
link_if k t m q true is there =
    let same : m ≡ k = eqb-true m k is in
    let r = given_up (numbered t.links k) q (sym (changed_map gives_up k t.links) ∙ ap (numbered (changed gives_up k t.links)) (sym same) ∙ there) in
    (r.0, (ap (numbered t.links) same ∙ r.1.0, r.1.1))
link_if k t m q false is there = (q, (sym (changed_away gives_up k m t.links (eqb-false m k is)) ∙ there, (refl, refl)))
