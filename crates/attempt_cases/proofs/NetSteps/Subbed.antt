-- One subchannel is changed: links, stamps of policies and the open entry are as they were, and which subchannels are shut down.
use Rattle.std.proofs.Common.{◌≡◌, ◌&&◌, ◌+◌, ◌==◌, ◌||◌, ◌∷◌, ap, refl, sym, ◌∙◌, Bool, true, false, List, [], Option, None, Some, ℕ, cond, find, if◌then◌else◌, is_none, is_some, not}
use Rattle.std.proofs.lemmas.Bool.{eqb-false, eqb-true}
use Rattle.std.proofs.lemmas.Simd.{map-map}
use Rattle.std.specs.List.{list_any}
use Rattle.std.specs.Option.{option_map, option_map_or}
use Rattle.std.specs.Prelude.{map}
use Rattle.attempt_ledger.specs.declared.ledger.Generation.{Generation}
use Rattle.channel_actions.proofs.Stamps.{map_same}
use Rattle.channel_actions.specs.Columns.{links_noted}
use Rattle.channel_actions.specs.BoardActions.Boards.{IsBoarded}
use Rattle.session_actions.specs.Closing.{noted_gone}
use Rattle.session_actions.specs.Entries.{entry}
use Rattle.session_actions.specs.Policies.{current_policy, is_current, is_live_policy, is_shutdown}
use Rattle.session_actions.specs.Reading.{is_outstanding_on}
use Rattle.session_actions.specs.Refusals.{is_gone, is_shutdown_sub}
use Rattle.session_actions.specs.Links.{is_retiring}
use Rattle.session_actions.specs.Sessions.{link_seen}
use Rattle.session_actions.specs.Subchannels.{noted_by_policies, noted_state, with_sub}
use Rattle.session_actions.specs.Words.{changed, holds, numbered}
use Rattle.session_actions.specs.declared.link.Link.{Link}
use Rattle.session_actions.specs.declared.policy.PolicyUse.{PolicyUse}
use Rattle.session_actions.specs.declared.seen.Seen.{Seen}
use Rattle.session_actions.specs.declared.subchannel.Subchannel.{Subchannel}
use Rattle.session_order.proofs.Changed.{changed_away, changed_map}

module _ (f : Subchannel → Subchannel) (n : ℕ) (s : Seen) where
  abbrev u : Seen
  u = record s { subs = changed f n s.subs }

  links_by : (o : Option Subchannel) → (option_map_or (λ (b : Subchannel). noted_by_policies b u) o u).links ≡ s.links
  links_by None = refl
  links_by (Some b) = refl

  pub subbed_links : (with_sub f n s).links ≡ s.links
  subbed_links = links_by (numbered u.subs n)

  subs_by : (o : Option Subchannel) → (option_map_or (λ (b : Subchannel). noted_by_policies b u) o u).subs ≡ changed f n s.subs
  subs_by None = refl
  subs_by (Some b) = refl

  pub subbed_subs : (with_sub f n s).subs ≡ changed f n s.subs
  subbed_subs = subs_by (numbered u.subs n)

  noted_generation_by : (b : Subchannel) (g : PolicyUse) (live : Bool) (failed : List ℕ) → (if live then record g { failed = failed } else g).generation ≡ g.generation
  noted_generation_by b g true failed = refl
  noted_generation_by b g false failed = refl

  noted_generation : (b : Subchannel) (g : PolicyUse) → (noted_state u b g).generation ≡ g.generation
  noted_generation b g = noted_generation_by b g (is_live_policy g) _

  generations_by : (o : Option Subchannel) → map (λ (g : PolicyUse). g.generation) (option_map_or (λ (b : Subchannel). noted_by_policies b u) o u).policies ≡ map (λ (g : PolicyUse). g.generation) s.policies
  generations_by None = refl
  generations_by (Some b) =
      map-map (λ (g : PolicyUse). g.generation) (noted_state u b) s.policies
      ∙ map_same (λ (g : PolicyUse). (noted_state u b g).generation) (λ (g : PolicyUse). g.generation) (noted_generation b) s.policies

  pub subbed_generations : map (λ (g : PolicyUse). g.generation) (with_sub f n s).policies ≡ map (λ (g : PolicyUse). g.generation) s.policies
  subbed_generations = generations_by (numbered u.subs n)

  -- the same are shut down
  module _ (b : Subchannel) (at : numbered s.subs n ≡ Some b) (same : is_shutdown (f b).state ≡ is_shutdown b.state) where
    shut_here : (k : ℕ) → k ≡ n → holds (λ (c : Subchannel). is_shutdown c.state) (numbered (changed f n s.subs) k) ≡ holds (λ (c : Subchannel). is_shutdown c.state) (numbered s.subs k)
    shut_here k e =
        ap (λ (j : ℕ). holds (λ (c : Subchannel). is_shutdown c.state) (numbered (changed f n s.subs) j)) e
        ∙ ap (holds (λ (c : Subchannel). is_shutdown c.state)) (changed_map f n s.subs ∙ ap (option_map f) at) ∙ same
        ∙ sym (ap (holds (λ (c : Subchannel). is_shutdown c.state)) (ap (numbered s.subs) e ∙ at))

    shut_by : (k : ℕ) (c : Bool) → (k == n) ≡ c → holds (λ (c : Subchannel). is_shutdown c.state) (numbered (changed f n s.subs) k) ≡ holds (λ (c : Subchannel). is_shutdown c.state) (numbered s.subs k)
    shut_by k true e = shut_here k (eqb-true k n e)
    shut_by k false e = ap (holds (λ (c : Subchannel). is_shutdown c.state)) (changed_away f n k s.subs (eqb-false k n e))

    pub subbed_shut : (k : ℕ) → is_shutdown_sub (with_sub f n s) k ≡ is_shutdown_sub s k
    subbed_shut k =
        ap (λ (subs : List Subchannel). holds (λ (c : Subchannel). is_shutdown c.state) (numbered subs k)) subbed_subs ∙ shut_by k (k == n) refl

-- whether a policy is current, by the stamps
abbrev is_current_by : Generation → Bool
is_current_by g = is_none g.retired && is_some g.activated

some_by : (g : PolicyUse) (gs : List PolicyUse) (b : Bool) → is_current g ≡ b → is_some (find is_current gs) ≡ list_any is_current_by (map (λ (g : PolicyUse). g.generation) gs)
    → is_some (cond b (Some g) (find is_current gs)) ≡ (b || list_any is_current_by (map (λ (g : PolicyUse). g.generation) gs))
some_by g gs true e rest = refl
some_by g gs false e rest = rest

current_by : (gs : List PolicyUse) → is_some (find is_current gs) ≡ list_any is_current_by (map (λ (g : PolicyUse). g.generation) gs)
current_by [] = refl
current_by (g ∷ gs) = some_by g gs (is_current g) refl (current_by gs)

pub current_stays : (s t : Seen) → map (λ (g : PolicyUse). g.generation) t.policies ≡ map (λ (g : PolicyUse). g.generation) s.policies
    → is_some (current_policy t) ≡ is_some (current_policy s)
current_stays s t e = current_by t.policies ∙ ap (list_any is_current_by) e ∙ sym (current_by s.policies)

-- which links are gone, and when
module _ (s t : Seen) (e : IsBoarded s t) (at : entry t ≡ entry s) (shut : (k : ℕ) → is_shutdown_sub t k ≡ is_shutdown_sub s k) where
  gone_same : (l : Link) → is_gone l t ≡ is_gone l s
  gone_same l =
      ap (λ (b : Bool). is_some l.over || ((is_retiring l || b) && not (list_any (is_outstanding_on l) t.attempts))) (shut l.sub)
      ∙ ap (λ (v : Seen). is_some l.over || ((is_retiring l || is_shutdown_sub s l.sub) && not (list_any (is_outstanding_on l) v.attempts))) e

  pub noted_gone_same : (l : Link) → noted_gone t l ≡ noted_gone s l
  noted_gone_same l =
      ap (λ (b : Bool). if is_none l.gone && b then record l { gone = Some (entry t) } else l) (gone_same l)
      ∙ ap (λ (n : ℕ). if is_none l.gone && is_gone l s then record l { gone = Some n } else l) at

  pub noted_same : t.links ≡ s.links → links_noted t ≡ links_noted s
  noted_same same =
      ap (map (λ (l : Link). link_seen (noted_gone t l))) same
      ∙ map_same (λ (l : Link). link_seen (noted_gone t l)) (λ (l : Link). link_seen (noted_gone s l)) (λ l. ap link_seen (noted_gone_same l)) s.links
