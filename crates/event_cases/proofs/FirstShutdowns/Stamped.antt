-- Where a channel is shut down, its policies and its links are stamped as in the session.
use Rattle.attempt_ledger.specs.declared.ledger.Generation.{Generation}
use Rattle.channel_actions.specs.Agrees.{Agrees}
use Rattle.channel_actions.specs.BoardActions.Boards.{IsBoarded}
use Rattle.channel_actions.specs.KeptSessions.Kept.{IsKept}
use Rattle.channel_actions.specs.TheirLinks.Theirs.{LinksAreTheirs}
use Rattle.event_cases.proofs.FirstShutdowns.Answered.{stamps_form}
use Rattle.event_cases.proofs.FirstShutdowns.Retired.{all_retired}
use Rattle.event_cases.proofs.GenerationStamps.Along.{generations_along}
use Rattle.event_cases.proofs.LeftLinks.Nets.{links_left_by, still_shut}
use Rattle.event_cases.proofs.LeftLinks.Stamped.{left_links_are_stamped, stamps_blind}
use Rattle.attempt_cases.proofs.NetSteps.Clocks.{entry_goes_on}
use Rattle.event_cases.specs.FirstShutdowns.Laws.{StampsAreKept, ShutsAreStamped}
use Rattle.event_cases.specs.GenerationStamps.Stamps.{generations_after}
use Rattle.event_cases.specs.LeftLinks.Laws.{LinksAreLeft}
use Rattle.channel_core.specs.Applying.{net_closed}
use Rattle.channel_core.specs.States.{StateSeen}
use Rattle.channel_core.specs.Steps.{with_generations}
use Rattle.channel_net.specs.Steps.{NetSeen, net_shut, shut_stamps}
use Rattle.grpc_base.specs.declared.kind.Kind.{Kind}
use Rattle.net_actions.specs.Runs.{DoesAll}
use Rattle.net_actions.specs.Sees.{Sees}
use Rattle.session_actions.specs.Entries.{entry}
use Rattle.session_actions.specs.Configs.{held_config}
use Rattle.session_actions.specs.Policies.{result_of, wanted_kind}
use Rattle.session_actions.specs.declared.config.HeldConfig.{HeldConfig}
use Rattle.grpc_base.specs.declared.address.Address.{Address}
use Rattle.session_actions.specs.declared.action.Action.{Action}
use Rattle.session_actions.specs.declared.entry.OpenEntry.{OpenEntry}
use Rattle.session_actions.specs.declared.policy.PolicyUse.{PolicyUse}
use Rattle.session_actions.specs.declared.seen.Seen.{Seen}
use Rattle.std.proofs.Common.{Bool, List, None, Option, Some, [], ap, if◌then◌else◌, is_some, map, option_map, refl, sym, true, ℕ, ◌∙◌, ◌≡◌}

module _ (x : StateSeen) (o : OpenEntry) (s t : Seen) (actions : List Action) (h : Agrees x s) (theirs : LinksAreTheirs s) (shut : s.shut ≡ true) (current : s.current ≡ Some o)
    (none : result_of o ≡ None) (does : DoesAll actions o s t) (on : t.current ≡ Some o) (boarded : IsBoarded s t) (kept : IsKept t) (links_are : t.links ≡ s.links)
    (sees : Sees t (net_shut x.net).net) where
  abbrev N : NetSeen
  N = (net_shut x.net).net

  abbrev gone : List ℕ
  gone = (net_shut x.net).gone

  abbrev gs : List Generation
  gs = map (λ (g : PolicyUse). g.generation) s.policies

  abbrev now : List Generation
  now = shut_stamps x.book.ledger.entry x.net.asker.rack x.book.ledger.generations

  wants_none : wanted_kind o s ≡ None
  wants_none = ap (λ (b : Bool). if b then option_map (λ (h : HeldConfig). h.config.kind) (held_config s) else None) (ap (λ (q : Option (List Address)). is_some q) none)

  generations : map (λ (g : PolicyUse). g.generation) t.policies ≡ now
  generations =
      generations_along actions o s t h.net.uses_are.numbers (λ e. none) does
      ∙ ap (λ (b : Bool). generations_after b (wanted_kind o s) (entry s) gs) shut
      ∙ ap (λ (k : Option Kind). generations_after true k (entry s) gs) wants_none
      ∙ all_retired s x.net h.net h.kept.policies (entry s)
      ∙ ap (λ (e : ℕ). shut_stamps e x.net.asker.rack gs) h.clock.entry_is
      ∙ ap (λ (l : List Generation). shut_stamps x.book.ledger.entry x.net.asker.rack l) h.columns.generations

  are_left : LinksAreLeft x s t N gone
  are_left = record {
    attempts = ap (λ (v : Seen). v.attempts) boarded;
    links = links_are;
    entry_is = entry_goes_on s t o o boarded current on;
    kept = kept;
    sees = sees;
    shut = still_shut s t x.net N [] [] h.net sees refl;
    left = λ sub link b there own before off. links_left_by s t x.net N [] [] h.net sees refl gone refl sub link b there own off;
  }

  pub are_stamped : StampsAreKept x t
  are_stamped = record {
    generations = generations ∙ sym (ap (λ (w : StateSeen). w.book.ledger.generations) (stamps_form gone (record (with_generations now x) { net = N })));
    links = left_links_are_stamped x s t N gone h theirs are_left ∙ stamps_blind gone now (record x { net = N });
  }

pub shuts_are_stamped : ShutsAreStamped
shuts_are_stamped x o s t actions h theirs shut current none does on boarded kept links sees =
    are_stamped x o s t actions h theirs shut current none does on boarded kept links sees
