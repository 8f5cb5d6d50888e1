-- Which links are stamped as gone hangs neither on configs nor on buckets, nor on the stamps of policies.
use Rattle.std.proofs.Common.{◌≡◌, ◌∷◌, ap, refl, sym, ◌∙◌, Bool, true, false, List, [], Option, ℕ, if◌then◌else◌}
use Rattle.attempt_ledger.specs.declared.ledger.Generation.{Generation}
use Rattle.attempt_ledger.specs.declared.ledger.LinkSeen.{LinkSeen}
use Rattle.channel_core.specs.States.{StateSeen}
use Rattle.channel_core.specs.Steps.{all_stamped_gone, is_gone, stamped_gone, with_ledger_links}
use Rattle.channel_core.specs.Tables.{BucketsSeen}
use Rattle.ledger_stamps.specs.Steps.{changed_at, gone_link}
use Rattle.service_config.specs.declared.config.Config.{Config}

-- what a config that is read changes of a channel
abbrev pub reread : Option Config → Bool → Bool → BucketsSeen → StateSeen → StateSeen
reread held resolver unconfigured buckets x = record x { held = held; resolver = resolver; unconfigured = unconfigured; book = record x.book { buckets = buckets } }

-- and with it what policies that come and go do
abbrev pub restamped : Option Config → Bool → Bool → BucketsSeen → List Generation → StateSeen → StateSeen
restamped held resolver unconfigured buckets generations x = record x {
  held = held;
  resolver = resolver;
  unconfigured = unconfigured;
  book = record x.book { buckets = buckets; ledger = record x.book.ledger { generations = generations } };
}

module _ (held : Option Config) (resolver unconfigured : Bool) (buckets : BucketsSeen) (generations : List Generation) where
  abbrev other : StateSeen → StateSeen
  other x = restamped held resolver unconfigured buckets generations x

  one_by : (b : Bool) (ls : List LinkSeen) (x : StateSeen) → (if b then with_ledger_links ls (other x) else other x) ≡ other (if b then with_ledger_links ls x else x)
  one_by true ls x = refl
  one_by false ls x = refl

  pub stamps_other : (links : List ℕ) (x : StateSeen) → all_stamped_gone links (other x) ≡ other (all_stamped_gone links x)
  stamps_other [] x = refl
  stamps_other (link ∷ links) x =
      ap (all_stamped_gone links) (one_by (is_gone link x) (changed_at (gone_link x.book.ledger.entry) x.book.ledger.links link) x)
      ∙ stamps_other links (stamped_gone link x)
