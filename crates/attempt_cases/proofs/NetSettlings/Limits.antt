-- Links that are given up: what the channel does of them, whatever its net is.
use Rattle.std.proofs.Common.{◌≡◌, ◌++◌, ◌∷◌, ◌&&◌, ◌||◌, ap, refl, ◌∙◌, Bool, true, List, [], None, Option, Some, ℕ, if◌then◌else◌, not}
use Rattle.std.specs.Option.{option_map}
use Rattle.attempt_ledger.specs.declared.ledger.Generation.{Generation}
use Rattle.attempt_ledger.specs.declared.ledger.LinkSeen.{LinkSeen}
use Rattle.channel_core.proofs.BookLaws.{number_changed}
use Rattle.channel_core.specs.States.{StateSeen}
use Rattle.channel_core.specs.Steps.{has_outstanding, is_gone, is_of_shut_sub, limit_passed, limits_passed, with_ledger_links}
use Rattle.channel_core.specs.Tables.{marked_dead, marked_dead_in, is_dead, is_dead_at, is_retiring}
use Rattle.channel_core.specs.declared.state.links.LinkSlot.{LinkSlot}
use Rattle.channel_net.specs.Steps.{NetSeen}
use Rattle.ledger_stamps.specs.Steps.{changed_at, gone_link}
use Rattle.attempt_cases.specs.NetSteps.Steps.{netted}
use Rattle.session_actions.specs.Words.{numbered}

-- what they leave
abbrev pub slots_after : List ℕ → List LinkSlot → List LinkSlot
slots_after [] slots = slots
slots_after (k ∷ gone) slots = slots_after gone (marked_dead_in k slots)

abbrev pub stamps_after : ℕ → List ℕ → List LinkSeen → List LinkSeen
stamps_after entry [] links = links
stamps_after entry (k ∷ gone) links = stamps_after entry gone (changed_at (gone_link entry) links k)

abbrev pub wanting : List ℕ → Bool → Bool
wanting [] b = b
wanting (k ∷ gone) b = wanting gone true

pub slots_more : (gone : List ℕ) (k : ℕ) (slots : List LinkSlot) → slots_after (gone ++ k ∷ []) slots ≡ marked_dead_in k (slots_after gone slots)
slots_more [] k slots = refl
slots_more (j ∷ gone) k slots = slots_more gone k (marked_dead_in j slots)

pub stamps_more : (entry : ℕ) (gone : List ℕ) (k : ℕ) (links : List LinkSeen)
    → stamps_after entry (gone ++ k ∷ []) links ≡ changed_at (gone_link entry) (stamps_after entry gone links) k
stamps_more entry [] k links = refl
stamps_more entry (j ∷ gone) k links = stamps_more entry gone k (changed_at (gone_link entry) links j)

dead_by : (o : Option LinkSlot) → is_dead_at (option_map marked_dead o) ≡ true
dead_by None = refl
dead_by (Some slot) = refl

dead_now : (slots : List LinkSlot) (k : ℕ) → is_dead (marked_dead_in k slots) k ≡ true
dead_now slots k = ap is_dead_at (number_changed marked_dead slots k) ∙ dead_by (numbered slots k)

module _ (x : StateSeen) (n : NetSeen) (drawn : ℕ) (generations : List Generation) where
  one_form : (k : ℕ) (wants : Bool) (slots : List LinkSlot) (links : List LinkSeen)
      → limit_passed k (netted n drawn wants slots generations links x)
      ≡ netted n drawn true (marked_dead_in k slots) generations (changed_at (gone_link x.book.ledger.entry) links k) x
  one_form k wants slots links =
      let w : StateSeen = netted n drawn true (marked_dead_in k slots) generations links x in
      let d : is_gone k w ≡ true
      = ap (λ (b : Bool). b || ((is_retiring w.links k || is_of_shut_sub k w) && not (has_outstanding k w))) (dead_now slots k) in
      ap (λ (b : Bool). if b then with_ledger_links (changed_at (gone_link w.book.ledger.entry) w.book.ledger.links k) w else w) d

  pub limits_form : (gone : List ℕ) (wants : Bool) (slots : List LinkSlot) (links : List LinkSeen)
      → limits_passed gone (netted n drawn wants slots generations links x)
      ≡ netted n drawn (wanting gone wants) (slots_after gone slots) generations (stamps_after x.book.ledger.entry gone links) x
  limits_form [] wants slots links = refl
  limits_form (k ∷ gone) wants slots links =
      ap (limits_passed gone) (one_form k wants slots links)
      ∙ limits_form gone true (marked_dead_in k slots) (changed_at (gone_link x.book.ledger.entry) links k)
