-- Which links the channel stamps while the acts of a call that ends are followed: each link that is gone once all of them are.
use Rattle.std.proofs.Common.{◌≡◌, ◌||◌, ◌&&◌, ◌==◌, ◌∷◌, not, nat_lt, ap, arith, refl, subst, sym, ◌∙◌, Bool, true, false, cond, List, [], Option, None, Some, ℕ, if◌then◌else◌, map, eqb-true}
use Rattle.std.proofs.lemmas.Bool.{eqb-false}
use Rattle.std.proofs.lemmas.Bool.Decides.{nat_tests}
use Rattle.std.specs.List.{AllByRecursion, list_any}
use Rattle.std.specs.Option.{option_map}
use Rattle.std.specs.Set.{remove_key}
use Rattle.attempt_ledger.specs.declared.ledger.LinkSeen.{LinkSeen}
use Rattle.call_core.specs.Steps.{given_up_act}
use Rattle.call_core.specs.declared.live.LiveRow.{LiveRow}
use Rattle.channel_actions.proofs.ActsFollowed.Acts.{LinkIn, given}
use Rattle.channel_actions.proofs.Outstanding.{is_of_link, on_is}
use Rattle.channel_actions.proofs.Links.Settings.Pairs.{rising_remove, same_is}
use Rattle.channel_actions.specs.Sets.{PairsAreRising}
use Rattle.channel_core.proofs.BookLaws.{number_changed, number_other}
use Rattle.channel_core.specs.Books.{link_of}
use Rattle.channel_core.specs.States.{StateSeen}
use Rattle.channel_core.specs.Steps.{act_done, acts_done, cut_on, has_outstanding, is_gone, is_of_shut_sub, is_shut_state, reset_on, sub_of, with_ledger_links}
use Rattle.channel_core.specs.Tables.{is_dead, is_dead_at, is_retiring, is_retiring_at, numbered, reset_in, reset_link, with_link}
use Rattle.channel_core.specs.declared.state.links.LinkSlot.{LinkSlot}
use Rattle.channel_net.specs.Lists.{state_at}
use Rattle.channel_net.specs.Steps.{NetSeen}
use Rattle.ledger_stamps.specs.Steps.{changed_at, gone_link, stamped}
use Rattle.picker_gate.specs.Pairs.{is_same}

-- a stamp that is written where a link is gone
abbrev pub stamped_if : Bool → ℕ → LinkSeen → LinkSeen
stamped_if gone entry m = if gone then gone_link entry m else m

stamped_twice : (entry : ℕ) (o : Option ℕ) → stamped entry (stamped entry o) ≡ stamped entry o
stamped_twice entry None = refl
stamped_twice entry (Some n) = refl

again : (b : Bool) (entry : ℕ) (m : LinkSeen) → gone_link entry (stamped_if b entry m) ≡ gone_link entry m
again true entry m = ap (λ (o : Option ℕ). record m { gone = o }) (stamped_twice entry m.gone)
again false entry m = refl

pub again_in : (b : Bool) (entry : ℕ) (o : Option LinkSeen) → option_map (gone_link entry) (option_map (stamped_if b entry) o) ≡ option_map (gone_link entry) o
again_in b entry None = refl
again_in b entry (Some m) = ap (λ (z : LinkSeen). Some z) (again b entry m)

sub_stays : (b : Bool) (entry : ℕ) (o : Option LinkSeen) → sub_of (option_map (stamped_if b entry) o) ≡ sub_of o
sub_stays true entry None = refl
sub_stays true entry (Some m) = refl
sub_stays false entry None = refl
sub_stays false entry (Some m) = refl

-- a link that something happens to is dead, or retiring, as before
dead_stays : (f : LinkSlot → LinkSlot) → ((z : LinkSlot) → (f z).dead ≡ z.dead) → (o : Option LinkSlot) → is_dead_at (option_map f o) ≡ is_dead_at o
dead_stays f same None = refl
dead_stays f same (Some z) = same z

retiring_stays : (f : LinkSlot → LinkSlot) → ((z : LinkSlot) → (f z).retiring ≡ z.retiring) → (o : Option LinkSlot) → is_retiring_at (option_map f o) ≡ is_retiring_at o
retiring_stays f same None = refl
retiring_stays f same (Some z) = same z

pub dead_by : (link row k : ℕ) (links : List LinkSlot) (b : Bool) → (k == link) ≡ b → is_dead (reset_in link row links) k ≡ is_dead links k
dead_by link row k links true e =
    ap (λ (n : ℕ). is_dead (reset_in link row links) n) (eqb-true k link e) ∙ ap is_dead_at (number_changed (with_link (reset_link row)) links link)
    ∙ dead_stays (with_link (reset_link row)) (λ z. refl) (numbered links link) ∙ ap (λ (n : ℕ). is_dead links n) (sym (eqb-true k link e))
dead_by link row k links false e = ap is_dead_at (number_other (with_link (reset_link row)) links link k (eqb-false k link e))

pub retiring_by : (link row k : ℕ) (links : List LinkSlot) (b : Bool) → (k == link) ≡ b → is_retiring (reset_in link row links) k ≡ is_retiring links k
retiring_by link row k links true e =
    ap (λ (n : ℕ). is_retiring (reset_in link row links) n) (eqb-true k link e) ∙ ap is_retiring_at (number_changed (with_link (reset_link row)) links link)
    ∙ retiring_stays (with_link (reset_link row)) (λ z. refl) (numbered links link) ∙ ap (λ (n : ℕ). is_retiring links n) (sym (eqb-true k link e))
retiring_by link row k links false e = ap is_retiring_at (number_other (with_link (reset_link row)) links link k (eqb-false k link e))

-- pairs of a link, once one is taken out
fewer_by : (p q : ℕ × ℕ) (k : ℕ) (pairs : List (ℕ × ℕ)) (b : Bool) → (list_any (is_of_link k) (remove_key (is_same p) pairs) ≡ true → list_any (is_of_link k) pairs ≡ true)
    → list_any (is_of_link k) (cond b pairs (q ∷ remove_key (is_same p) pairs)) ≡ true → list_any (is_of_link k) (q ∷ pairs) ≡ true
fewer_by p q k pairs true rest e = or_true (is_of_link k q) (list_any (is_of_link k) pairs) e
  where
    or_true : (a b : Bool) → b ≡ true → (a || b) ≡ true
    or_true true b e = refl
    or_true false b e = e
fewer_by p q k pairs false rest e = or_turn (is_of_link k q) (list_any (is_of_link k) (remove_key (is_same p) pairs)) (list_any (is_of_link k) pairs) rest e
  where
    or_turn : (a b c : Bool) → (b ≡ true → c ≡ true) → (a || b) ≡ true → (a || c) ≡ true
    or_turn true b c turn e = refl
    or_turn false b c turn e = turn e

pub fewer : (p : ℕ × ℕ) (k : ℕ) (pairs : List (ℕ × ℕ)) → list_any (is_of_link k) (remove_key (is_same p) pairs) ≡ true → list_any (is_of_link k) pairs ≡ true
fewer p k [] e = e
fewer p k (q ∷ pairs) e = fewer_by p q k pairs (is_same p q) (fewer p k pairs) e

not_of : (link row k : ℕ) (q : ℕ × ℕ) → (k == link) ≡ false → is_same (link, row) q ≡ true → is_of_link k q ≡ false
not_of link row k q off e = ap (is_of_link k) (sym (same_is (link, row) q e)) ∙ ap (λ (b : Bool). b && nat_lt 0 row) (turned link k off)
  where
    turned : (m n : ℕ) → (n == m) ≡ false → (m == n) ≡ false
    turned m n e = grind (arith, nat_tests)

others_by : (link row k : ℕ) (q : ℕ × ℕ) (pairs : List (ℕ × ℕ)) (b : Bool) → is_same (link, row) q ≡ b → (k == link) ≡ false
    → list_any (is_of_link k) (remove_key (is_same (link, row)) pairs) ≡ list_any (is_of_link k) pairs
    → list_any (is_of_link k) (cond b pairs (q ∷ remove_key (is_same (link, row)) pairs)) ≡ list_any (is_of_link k) (q ∷ pairs)
others_by link row k q pairs true e off rest = sym (ap (λ (z : Bool). z || list_any (is_of_link k) pairs) (not_of link row k q off e))
others_by link row k q pairs false e off rest = ap (λ (z : Bool). is_of_link k q || z) rest

pub others : (link row k : ℕ) (pairs : List (ℕ × ℕ)) → (k == link) ≡ false
    → list_any (is_of_link k) (remove_key (is_same (link, row)) pairs) ≡ list_any (is_of_link k) pairs
others link row k [] off = refl
others link row k (q ∷ pairs) off = others_by link row k q pairs (is_same (link, row) q) refl off (others link row k pairs off)

-- a link is gone, by what was there before the acts, and whether an attempt is outstanding on it
abbrev pub gone_by : StateSeen → ℕ → Bool → Bool
gone_by x k out = is_dead x.links k || ((is_retiring x.links k || is_of_shut_sub k x) && not out)

-- what is so in mid of it
pub record IsNoted (x z : StateSeen) : Type 0 where
  pub entry : z.book.ledger.entry ≡ x.book.ledger.entry
  pub net : z.net ≡ x.net
  pub dead : (k : ℕ) → is_dead z.links k ≡ is_dead x.links k
  pub retiring : (k : ℕ) → is_retiring z.links k ≡ is_retiring x.links k
  pub rising : PairsAreRising z.outstanding
  pub fewer : (k : ℕ) → has_outstanding k z ≡ true → has_outstanding k x ≡ true
  pub noted : (k : ℕ) → numbered z.book.ledger.links k ≡ option_map (stamped_if (gone_by x k (has_outstanding k z)) x.book.ledger.entry) (numbered x.book.ledger.links k)

shut_is : (x z : StateSeen) → IsNoted x z → (k : ℕ) → is_of_shut_sub k z ≡ is_of_shut_sub k x
shut_is x z h k =
    ap (λ (n : ℕ). is_shut_state (state_at z.net.board n))
    (ap sub_of (h.noted k) ∙ sub_stays (gone_by x k (has_outstanding k z)) x.book.ledger.entry (numbered x.book.ledger.links k))
    ∙ ap (λ (n : NetSeen). is_shut_state (state_at n.board (sub_of (numbered x.book.ledger.links k)))) h.net

less_gone : (d r : Bool) (o p : Bool) → (p ≡ true → o ≡ true) → (d || (r && not p)) ≡ false → (d || (r && not o)) ≡ false
less_gone true r o p turn e = absurd (cc)
less_gone false false o p turn e = refl
less_gone false true true p turn e = refl
less_gone false true false true turn e = absurd (let bad : false ≡ true = turn refl in (cc))
less_gone false true false false turn e = absurd (cc)

-- one row of a link is given up
module _ (x z : StateSeen) (h : IsNoted x z) (link row : ℕ) where
  abbrev z1 : StateSeen
  z1 = record (reset_on link row z) { outstanding = remove_key (is_same (link, row)) z.outstanding }

  rising1 : PairsAreRising z1.outstanding
  rising1 = rising_remove z.outstanding (link, row) h.rising

  on_z : (k : ℕ) → has_outstanding k z ≡ list_any (is_of_link k) z.outstanding
  on_z k = on_is k z.outstanding h.rising

  on_z1 : (k : ℕ) → has_outstanding k z1 ≡ list_any (is_of_link k) z1.outstanding
  on_z1 k = on_is k z1.outstanding rising1

  fewer1 : (k : ℕ) → has_outstanding k z1 ≡ true → has_outstanding k z ≡ true
  fewer1 k e = on_z k ∙ fewer (link, row) k z.outstanding (sym (on_z1 k) ∙ e)

  others1 : (k : ℕ) → (k == link) ≡ false → has_outstanding k z1 ≡ has_outstanding k z
  others1 k off = on_z1 k ∙ others link row k z.outstanding off ∙ sym (on_z k)

  -- the stamp, where the link is gone or not
  abbrev stamps : Bool → List LinkSeen
  stamps q = if q then changed_at (gone_link z.book.ledger.entry) z.book.ledger.links link else z.book.ledger.links

  abbrev marked : Bool → StateSeen
  marked q = if q then with_ledger_links (changed_at (gone_link z.book.ledger.entry) z.book.ledger.links link) z1 else z1

  noted_here : (q : Bool) → gone_by x link (has_outstanding link z1) ≡ q
      → numbered (stamps q) link ≡ option_map (stamped_if (gone_by x link (has_outstanding link z1)) x.book.ledger.entry) (numbered x.book.ledger.links link)
  noted_here true e =
      number_changed (gone_link z.book.ledger.entry) z.book.ledger.links link
      ∙ ap (λ (n : ℕ). option_map (gone_link n) (numbered z.book.ledger.links link)) h.entry
      ∙ ap (option_map (gone_link x.book.ledger.entry)) (h.noted link)
      ∙ again_in (gone_by x link (has_outstanding link z)) x.book.ledger.entry (numbered x.book.ledger.links link)
      ∙ ap (λ (b : Bool). option_map (stamped_if b x.book.ledger.entry) (numbered x.book.ledger.links link)) (sym e)
  noted_here false e =
      h.noted link
      ∙ ap (λ (b : Bool). option_map (stamped_if b x.book.ledger.entry) (numbered x.book.ledger.links link))
      (less_gone (is_dead x.links link) (is_retiring x.links link || is_of_shut_sub link x) (has_outstanding link z) (has_outstanding link z1) (fewer1 link) e ∙ sym e)

  noted_away : (q : Bool) (k : ℕ) → (k == link) ≡ false
      → numbered (stamps q) k ≡ option_map (stamped_if (gone_by x k (has_outstanding k z1)) x.book.ledger.entry) (numbered x.book.ledger.links k)
  noted_away true k off =
      number_other (gone_link z.book.ledger.entry) z.book.ledger.links link k (eqb-false k link off) ∙ h.noted k
      ∙ ap (λ (b : Bool). option_map (stamped_if (gone_by x k b) x.book.ledger.entry) (numbered x.book.ledger.links k)) (sym (others1 k off))
  noted_away false k off =
      h.noted k ∙ ap (λ (b : Bool). option_map (stamped_if (gone_by x k b) x.book.ledger.entry) (numbered x.book.ledger.links k)) (sym (others1 k off))

  noted_by : (q : Bool) → gone_by x link (has_outstanding link z1) ≡ q → (k : ℕ) (b : Bool) → (k == link) ≡ b
      → numbered (stamps q) k ≡ option_map (stamped_if (gone_by x k (has_outstanding k z1)) x.book.ledger.entry) (numbered x.book.ledger.links k)
  noted_by q e k true here =
      subst (λ (n : ℕ). numbered (stamps q) n ≡ option_map (stamped_if (gone_by x n (has_outstanding n z1)) x.book.ledger.entry) (numbered x.book.ledger.links n))
      (sym (eqb-true k link here)) (noted_here q e)
  noted_by q e k false off = noted_away q k off

  -- the link is gone as it is by what was there before
  dead1 : (k : ℕ) → is_dead z1.links k ≡ is_dead x.links k
  dead1 k = dead_by link row k z.links (k == link) refl ∙ h.dead k

  retiring1 : (k : ℕ) → is_retiring z1.links k ≡ is_retiring x.links k
  retiring1 k = retiring_by link row k z.links (k == link) refl ∙ h.retiring k

  gone1 : is_gone link z1 ≡ gone_by x link (has_outstanding link z1)
  gone1 =
      ap (λ (b : Bool). b || ((is_retiring z1.links link || is_of_shut_sub link z) && not (has_outstanding link z1))) (dead1 link)
      ∙ ap (λ (b : Bool). is_dead x.links link || ((b || is_of_shut_sub link z) && not (has_outstanding link z1))) (retiring1 link)
      ∙ ap (λ (b : Bool). is_dead x.links link || ((is_retiring x.links link || b) && not (has_outstanding link z1))) (shut_is x z h link)

  marked_noted : (q : Bool) → gone_by x link (has_outstanding link z1) ≡ q → IsNoted x (marked q)
  marked_noted true e = record {
    entry = h.entry;
    net = h.net;
    dead = dead1;
    retiring = retiring1;
    rising = rising1;
    fewer = λ k f. h.fewer k (fewer1 k f);
    noted = λ k. noted_by true e k (k == link) refl;
  }
  marked_noted false e = record {
    entry = h.entry;
    net = h.net;
    dead = dead1;
    retiring = retiring1;
    rising = rising1;
    fewer = λ k f. h.fewer k (fewer1 k f);
    noted = λ k. noted_by false e k (k == link) refl;
  }

  pub cut_noted : IsNoted x (cut_on link row z)
  cut_noted = marked_noted (is_gone link z1) (sym gone1)

-- each row of a call
row_noted : (x z : StateSeen) (n row : ℕ) (o : Option ℕ) → LinkIn z.book.ledger.rows row o → IsNoted x z → IsNoted x (act_done n (given_up_act row o) z)
row_noted x z n row None e h = record { entry = h.entry; net = h.net; dead = h.dead; retiring = h.retiring; rising = h.rising; fewer = h.fewer; noted = h.noted }
row_noted x z n row (Some link) e h = subst (λ (k : ℕ). IsNoted x (cut_on k row z)) (sym e) (cut_noted x z h link row)

rows_stay : (b : Bool) (ls : List LinkSeen) (z : StateSeen) → (if b then with_ledger_links ls z else z).book.ledger.rows ≡ z.book.ledger.rows
rows_stay true ls z = refl
rows_stay false ls z = refl

row_rows : (z : StateSeen) (n row : ℕ) (o : Option ℕ) → (act_done n (given_up_act row o) z).book.ledger.rows ≡ z.book.ledger.rows
row_rows z n row None = refl
row_rows z n row (Some link) =
    let k : ℕ = link_of (numbered z.book.ledger.rows row) in
    let z2 : StateSeen = record (reset_on k row z) { outstanding = remove_key (is_same (k, row)) z.outstanding } in
    rows_stay (is_gone k z2) (changed_at (gone_link z2.book.ledger.entry) z2.book.ledger.links k) z2

pub all_noted : (x : StateSeen) (n : ℕ) (live : List LiveRow) (z : StateSeen) → AllByRecursion (λ (r : LiveRow). LinkIn z.book.ledger.rows r.place r.link) live → IsNoted x z
    → IsNoted x (acts_done n (map given live) z)
all_noted x n [] z all h = h
all_noted x n (r ∷ live) z all h =
    let next : StateSeen = act_done n (given r) z in
    all_noted x n live next
    (subst (λ (rows : List _). AllByRecursion (λ (q : LiveRow). LinkIn rows q.place q.link) live) (sym (row_rows z n r.place r.link)) all.1)
    (row_noted x z n r.place r.link all.0 h)
