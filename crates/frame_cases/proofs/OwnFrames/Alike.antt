-- A link on which nothing is left to seal; and one of which nothing else changed than what is queued.
use Rattle.std.proofs.Common.{◌≡◌, ap, refl, sym, ◌∙◌, List, Option, None, Some, ℕ, map}
use Rattle.std.specs.Option.{option_map}
use Rattle.call_cases.specs.CallEnds.Ends.{unowed}
use Rattle.channel_actions.proofs.Stamps.{numbered_map}
use Rattle.channel_core.specs.Tables.{sealed_link, with_link}
use Rattle.channel_core.specs.declared.state.links.LinkSlot.{LinkSlot}
use Rattle.session_actions.specs.Words.{numbered}
use Rattle.session_actions.specs.declared.link.Link.{Link}

-- a link on which nothing is left to seal
pub sealed_same : (q : LinkSlot) → q.link.link.wire.queue.fresh ≡ 0 → with_link sealed_link q ≡ q
sealed_same q e =
    ap (λ (n : ℕ). record q { link = record q.link { link = record q.link.link { wire = record q.link.link.wire { queue = record q.link.link.wire.queue { fresh = n } } } } }) (sym e)

-- a link of which nothing else changed than what is queued
pub record HasAlike (ls : List Link) (n : ℕ) (l : Link) : Type 0 where
  pub now : Link
  pub there : numbered ls n ≡ Some now
  pub alike : unowed now ≡ unowed l

alike_by : (ls : List Link) (n : ℕ) (l : Link) (q : Option Link) → numbered ls n ≡ q → option_map unowed q ≡ Some (unowed l) → HasAlike ls n l
alike_by ls n l None e same = absurd (let bad : None ≡ Some (unowed l) = same in (cc))
alike_by ls n l (Some k) e same = record { now = k; there = e; alike = (let both : Some (unowed k) ≡ Some (unowed l) = same in let one : unowed k ≡ unowed l = (cc) in one) }

pub alike_at : (ls ks : List Link) (n : ℕ) (l : Link) → map unowed ls ≡ map unowed ks → numbered ks n ≡ Some l → HasAlike ls n l
alike_at ls ks n l same there =
    alike_by ls n l (numbered ls n) refl
    (sym (numbered_map unowed ls n) ∙ ap (λ (zs : List Link). numbered zs n) same ∙ numbered_map unowed ks n ∙ ap (option_map unowed) there)
