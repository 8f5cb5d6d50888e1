-- It holds of a new session, after each action that is next, and so after every list of actions.
use Rattle.attempt_ledger.specs.declared.row.Placed.{Placed}
use Rattle.channel_actions.proofs.KeptSessions.Along.{kept_stays}
use Rattle.channel_actions.proofs.KeptSessions.Lines.{next_sound}
use Rattle.channel_actions.proofs.KeptSessions.Lists.{all_at}
use Rattle.channel_actions.proofs.Links.Prefaced.Lines.{next_fits}
use Rattle.channel_actions.proofs.Links.Prefaced.Parts.{Prefaced}
use Rattle.channel_actions.proofs.Links.Prefaced.Steps.{prefaced_after}
use Rattle.channel_actions.specs.PrefacedLinks.Prefaced.{LinksArePrefaced, has_preface_come, is_on_prefaced}
use Rattle.channel_actions.specs.PrefacedLinks.Laws.{PrefacedAlong, PrefacedBegins, PrefacedStays, LinksAreJoined}
use Rattle.session_actions.specs.Actions.{after}
use Rattle.session_actions.specs.Links.{has_settings}
use Rattle.session_actions.specs.Words.{holds}
use Rattle.std.proofs.Common.{Option, [], ap, refl, subst, sym, true, ◌∙◌, ◌∷◌}
use Rattle.std.specs.Option.{option_map_or}

pub prefaced_begins : PrefacedBegins
prefaced_begins setup = record { placed = refl; ready = refl; picked = refl }

pub prefaced_stays : PrefacedStays
prefaced_stays s a kept prefaced next =
    let h : Prefaced (after a s)
    = prefaced_after s a kept.asks (next_sound s a kept next) (next_fits s a kept prefaced next)
    (record { placed = prefaced.placed; ready = prefaced.ready; picked = prefaced.picked }) in
    record { placed = h.placed; ready = h.ready; picked = h.picked }

pub prefaced_along : PrefacedAlong
prefaced_along [] s t kept prefaced does = subst LinksArePrefaced (sym does) prefaced
prefaced_along (a ∷ actions) s t kept prefaced does =
    prefaced_along actions (after a s) t (kept_stays s a kept does.0) (prefaced_stays s a kept prefaced does.0) does.1

pub links_are_joined : LinksAreJoined
links_are_joined s own prefaced = record {
  own = own;
  prefaced = λ row a at l here placed line.
      sym (ap (holds has_settings) line)
      ∙ (sym (ap (λ (o : Option Placed). option_map_or (λ (q : Placed). has_preface_come s.links q.link) o true) placed)
      ∙ all_at (is_on_prefaced s.links) s.attempts row a prefaced.placed here);
}
