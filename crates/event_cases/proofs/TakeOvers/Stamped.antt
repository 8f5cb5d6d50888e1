-- Which links are stamped as gone hangs on a net only by which subchannels are shut down.
use Rattle.std.proofs.Common.{◌≡◌, ◌&&◌, ◌||◌, ◌∷◌, ap, refl, sym, ◌∙◌, Bool, true, false, List, [], ℕ, if◌then◌else◌, not}
use Rattle.attempt_ledger.specs.declared.ledger.Generation.{Generation}
use Rattle.attempt_ledger.specs.declared.ledger.LinkSeen.{LinkSeen}
use Rattle.event_cases.proofs.HeldResults.Unread.{stamps_other}
use Rattle.channel_core.specs.Books.{link_at}
use Rattle.channel_core.specs.States.{StateSeen}
use Rattle.channel_core.specs.Steps.{all_stamped_gone, has_outstanding, is_gone, is_shut_state, sub_of, with_generations, with_ledger_links}
use Rattle.channel_core.specs.Tables.{is_dead, is_retiring}
use Rattle.channel_net.specs.Lists.{state_at}
use Rattle.channel_net.specs.Steps.{NetSeen}
use Rattle.ledger_stamps.specs.Steps.{changed_at, gone_link}

pub stamps_of_generations : (ages : List Generation) (gone : List ℕ) (z : StateSeen)
    → (all_stamped_gone gone (with_generations ages z)).book.ledger.links ≡ (all_stamped_gone gone z).book.ledger.links
stamps_of_generations ages gone z = ap (λ (y : StateSeen). y.book.ledger.links) (stamps_other z.held z.resolver z.unconfigured z.book.buckets ages gone z)

module _ (x : StateSeen) (n m : NetSeen) (same : (k : ℕ) → is_shut_state (state_at n.board k) ≡ is_shut_state (state_at m.board k)) where
  abbrev on : NetSeen → List LinkSeen → StateSeen
  on net links = with_ledger_links links (record x { net = net })

  gone_same : (link : ℕ) (ls : List LinkSeen) → is_gone link (on n ls) ≡ is_gone link (on m ls)
  gone_same link ls =
      ap (λ (b : Bool). is_dead x.links link || ((is_retiring x.links link || b) && not (has_outstanding link x))) (same (sub_of (link_at (on n ls).book link)))

  one_by : (net : NetSeen) (b : Bool) (these those : List LinkSeen) → (if b then with_ledger_links these (on net those) else on net those) ≡ on net (if b then these else those)
  one_by net true these those = refl
  one_by net false these those = refl

  stamps_by : (links : List ℕ) (ls : List LinkSeen) → (all_stamped_gone links (on n ls)).book.ledger.links ≡ (all_stamped_gone links (on m ls)).book.ledger.links
  stamps_by [] ls = refl
  stamps_by (link ∷ links) ls =
      let next : List LinkSeen = changed_at (gone_link x.book.ledger.entry) ls link in
      ap (λ (z : StateSeen). (all_stamped_gone links z).book.ledger.links) (one_by n (is_gone link (on n ls)) next ls)
      ∙ stamps_by links (if is_gone link (on n ls) then next else ls)
      ∙ ap (λ (b : Bool). (all_stamped_gone links (on m (if b then next else ls))).book.ledger.links) (gone_same link ls)
      ∙ sym (ap (λ (z : StateSeen). (all_stamped_gone links z).book.ledger.links) (one_by m (is_gone link (on m ls)) next ls))

  pub board_stamps : (links : List ℕ)
      → (all_stamped_gone links (record x { net = n })).book.ledger.links ≡ (all_stamped_gone links (record x { net = m })).book.ledger.links
  board_stamps links = stamps_by links x.book.ledger.links
