-- What a net leaves of its subchannels when its lists change: those that were shut down are, and the links of those that are now are left.
use Rattle.std.proofs.Common.{◌≡◌, ◌==◌, ◌||◌, ◌&&◌, ◌++◌, ◌+◌, ◌∷◌, ap, arith, eqb-true, refl, subst, sym, ◌∙◌, Bool, true, false, cond, List, [], None, Option, Some, ℕ, suc, zero, filter, find, if◌then◌else◌, map, not, slice_get}
use Rattle.std.proofs.lemmas.Bool.Decides.{nat_tests}
use Rattle.std.specs.List.{list_any}
use Rattle.std.specs.Option.{option_map}
use Rattle.channel_net.specs.Lists.{link_of, shut_links}
use Rattle.channel_net.specs.Steps.{NetSeen}
use Rattle.channel_net.specs.declared.links.OwnLink.{OwnLink}
use Rattle.grpc_base.specs.Addresses.{has_address}
use Rattle.grpc_base.specs.declared.address.Address.{Address}
use Rattle.grpc_base.specs.declared.event.Conn.TheVariants as conn
use Rattle.grpc_base.specs.declared.event.Conn.{Conn}
use Rattle.net_actions.proofs.Subs.{Both, both_at, none_at}
use Rattle.net_actions.specs.Sees.{Sees}
use Rattle.session_actions.specs.Policies.{is_shutdown}
use Rattle.session_actions.specs.Refusals.{is_shutdown_sub}
use Rattle.session_actions.specs.Words.{holds, numbered}
use Rattle.session_actions.specs.declared.seen.Seen.{Seen}
use Rattle.session_actions.specs.declared.subchannel.Subchannel.{Subchannel}
use Rattle.subchannel.specs.Boards as boards
use Rattle.subchannel.specs.Boards.{kept, kept_or_shut, passes}
use Rattle.subchannel.specs.Records.{SubRecord, is_live, is_shut, shut_down}

shut_same : (c : Conn) → is_shut c ≡ is_shutdown c
shut_same conn.Idle = refl
shut_same conn.Connecting = refl
shut_same conn.Ready = refl
shut_same conn.Failure = refl
shut_same conn.Shutdown = refl

-- the prefix of a list that was mapped
get_prefix : (f : SubRecord → SubRecord) (board more : List SubRecord) (i : ℕ) (r : SubRecord) → slice_get board i ≡ Some r → slice_get (map f board ++ more) i ≡ Some (f r)
get_prefix f [] more i r e = absurd (cc)
get_prefix f (q ∷ board) more zero r e = let one : q ≡ r = (cc) in ap (λ (x : SubRecord). Some (f x)) one
get_prefix f (q ∷ board) more (suc i) r e = get_prefix f board more i r e

-- one that was shut down is kept so
stays_shut : (current pending : List Address) (r : SubRecord) → is_shut r.state ≡ true → kept_or_shut current pending r ≡ r
stays_shut current pending r e =
    ap (λ (x : Bool). if not x && not (has_address current r.address || has_address pending r.address) then shut_down r else r) e

some_shut : (o : Option Subchannel) → holds (λ (b : Subchannel). is_shutdown b.state) o ≡ true → (b : Subchannel) × ((o ≡ Some b) × (is_shutdown b.state ≡ true))
some_shut None e = absurd (cc)
some_shut (Some b) e = (b, (refl, e))

is_itself : (n : ℕ) → (n == n) ≡ true
is_itself n = grind (arith, nat_tests)

or_after : (a b : Bool) → b ≡ true → (a || b) ≡ true
or_after true b e = refl
or_after false b e = e

module _ (P : ℕ → Bool) (sub link : ℕ) (off : P sub ≡ false) where
  abbrev gone : List OwnLink → List ℕ
  gone links = map (λ (own : OwnLink). own.link) (filter (λ (own : OwnLink). not (P own.sub)) links)

  left_by : (own : OwnLink) (links : List OwnLink) (b x : Bool) → (own.sub == sub) ≡ b → P own.sub ≡ x
      → option_map (λ (o : OwnLink). o.link) (cond b (Some own) (find (λ (o : OwnLink). o.sub == sub) links)) ≡ Some link
      → (link_of links sub ≡ Some link → list_any (λ (k : ℕ). k == link) (gone links) ≡ true)
      → list_any (λ (k : ℕ). k == link) (map (λ (o : OwnLink). o.link) (cond (not x) (own ∷ filter (λ (o : OwnLink). not (P o.sub)) links) (filter (λ (o : OwnLink). not (P o.sub)) links))) ≡ true
  left_by own links true true is p e next =
      absurd (let bad : false ≡ true = sym off ∙ ap P (sym (eqb-true own.sub sub is)) ∙ p in (cc))
  left_by own links true false is p e next =
      let one : own.link ≡ link = (cc) in
      ap (λ (k : ℕ). (k == link) || list_any (λ (j : ℕ). j == link) (gone links)) one ∙ ap (λ (b : Bool). b || list_any (λ (j : ℕ). j == link) (gone links)) (is_itself link)
  left_by own links false true is p e next = next e
  left_by own links false false is p e next = or_after (own.link == link) (list_any (λ (k : ℕ). k == link) (gone links)) (next e)

  pub left_in : (links : List OwnLink) → link_of links sub ≡ Some link → list_any (λ (k : ℕ). k == link) (gone links) ≡ true
  left_in [] e = absurd (cc)
  left_in (own ∷ links) e = left_by own links (own.sub == sub) (P own.sub) refl refl e (left_in links)

module _ (s t : Seen) (n m : NetSeen) (current pending : List Address) (before : Sees s n) (after : Sees t m) (board : m.board ≡ kept current pending n.board) where
  shut_there : (i : ℕ) (r : SubRecord) → slice_get m.board i ≡ Some r → is_shut r.state ≡ true → (o : Option Subchannel) → slice_get t.subs i ≡ o
      → holds (λ (b : Subchannel). is_shutdown b.state) o ≡ true
  shut_there i r at off None e =
      absurd (let bad : None ≡ Some r = sym (none_at 1 t.subs m.board m.links i after.subs_are e) ∙ at in (cc))
  shut_there i r at off (Some b) e =
      let both : Both b m.board i (1 + i) m.links = both_at 1 t.subs m.board m.links i b after.subs_are e in
      let two : ◌≡◌ {A = Option SubRecord} (Some both.r) (Some r) = sym both.at ∙ at in
      let same : both.r ≡ r = (cc) in
      sym (shut_same b.state) ∙ ap is_shut (both.is.state ∙ ap (λ (q : SubRecord). q.state) same) ∙ off

  shut_by : (sub : ℕ) → is_shutdown_sub s sub ≡ true → is_shutdown_sub t sub ≡ true
  shut_by zero e = absurd (cc)
  shut_by (suc i) e =
      let here = some_shut (slice_get s.subs i) e in
      let both : Both here.0 n.board i (1 + i) n.links = both_at 1 s.subs n.board n.links i here.0 before.subs_are here.1.0 in
      let off : is_shut both.r.state ≡ true = ap is_shut (sym both.is.state) ∙ shut_same here.0.state ∙ here.1.1 in
      let at : slice_get m.board i ≡ Some both.r
      = ap (λ (l : List SubRecord). slice_get l i) board ∙ get_prefix (kept_or_shut current pending) n.board _ i both.r both.at
      ∙ ap (λ (r : SubRecord). Some r) (stays_shut current pending both.r off) in
      shut_there i both.r at off (slice_get t.subs i) refl

  pub still_shut : (sub : ℕ) → is_shutdown_sub s sub ≡ true → is_shutdown_sub t sub ≡ true
  still_shut sub e = shut_by sub e

  -- the own link of one that is shut down now
  pub links_left_by : (gone : List ℕ) → gone ≡ shut_links m.board n.links → (sub link : ℕ) (b : Subchannel) → numbered s.subs sub ≡ Some b → b.link ≡ Some link
      → is_shutdown_sub t sub ≡ true → list_any (λ (k : ℕ). k == link) gone ≡ true
  links_left_by gone is zero link b there own off = absurd (cc)
  links_left_by gone is (suc i) link b there own off =
      let both : Both b n.board i (1 + i) n.links = both_at 1 s.subs n.board n.links i b before.subs_are there in
      let number : 1 + i ≡ suc i = omega arith in
      let has : link_of n.links (suc i) ≡ Some link = ap (link_of n.links) (sym number) ∙ sym both.is.link_is ∙ own in
      let here = some_shut (slice_get t.subs i) off in
      let now : Both here.0 m.board i (1 + i) m.links = both_at 1 t.subs m.board m.links i here.0 after.subs_are here.1.0 in
      let dead : passes is_live m.board (suc i) ≡ false
      = ap (boards.passes_test is_live) now.at ∙ ap (λ (x : Bool). not x) (ap is_shut (sym now.is.state) ∙ shut_same here.0.state ∙ here.1.1) in
      ap (λ (l : List ℕ). list_any (λ (k : ℕ). k == link) l) is ∙ left_in (λ (k : ℕ). passes is_live m.board k) (suc i) link dead n.links has
