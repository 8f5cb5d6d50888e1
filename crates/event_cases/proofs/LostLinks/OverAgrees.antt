-- A link is over, lost or broken: channel and session agree once its subchannel went down, and before the first attempt on it ends.
use Rattle.std.proofs.Common.{◌≡◌, ◌&&◌, ◌==◌, ◌∷◌, ap, refl, subst, sym, ◌∙◌, Bool, true, false, List, [], Option, None, Some, ℕ, if◌then◌else◌, is_none, length, map}
use Rattle.std.proofs.lemmas.Bool.{eqb-false, eqb-true}
use Rattle.std.specs.Option.{option_map}
use Rattle.attempt_ledger.specs.declared.ledger.LinkSeen.{LinkSeen}
use Rattle.channel_actions.proofs.KeptSessions.Along.{kept_along}
use Rattle.channel_actions.proofs.Links.Frames.Frame.{links_stay}
use Rattle.call_cases.proofs.OtherCalls.Sets.{sets_stay}
use Rattle.call_cases.proofs.OtherCalls.Slots.{all_calls_stay}
use Rattle.channel_actions.specs.Agrees.{Agrees}
use Rattle.channel_actions.specs.BoardActions.Boards.{IsBoarded}
use Rattle.channel_actions.specs.Clock.{DrawsAlike, SeesClock}
use Rattle.channel_actions.specs.Columns.{links_noted}
use Rattle.channel_actions.specs.KeptSessions.Kept.{IsKept}
use Rattle.channel_actions.specs.LinkFrames.Alike.{SeesNoDifference}
use Rattle.channel_actions.specs.Links.{HasLink, SeesLinks}
use Rattle.call_cases.specs.OtherCalls.Others.{ActionsAreOfCall, GoesApart}
use Rattle.call_cases.proofs.ConfiguredCalls.Lists.{changed_length}
use Rattle.attempt_cases.proofs.DialEvents.Nets.{one_call_more}
use Rattle.attempt_cases.proofs.NetSettlings.Limits.{limits_form}
use Rattle.attempt_cases.proofs.NetSettlings.Stamped.{map_stamped, stamp_over}
use Rattle.attempt_cases.proofs.NetSteps.Alike.{links_see_no_difference, still}
use Rattle.attempt_cases.proofs.NetSteps.Clocks.{clock_goes_on, entry_goes_on}
use Rattle.attempt_cases.proofs.NetSteps.Stepped.{IsBeside, agrees_after, booked}
use Rattle.attempt_cases.proofs.NetSteps.Subbed.{current_stays, noted_gone_same}
use Rattle.attempt_cases.specs.NetSteps.Steps.{netted}
use Rattle.channel_core.proofs.BookLaws.{number_changed, number_other}
use Rattle.channel_core.proofs.Resting as resting
use Rattle.channel_core.specs.Books.{link_at}
use Rattle.channel_core.specs.States.{StateSeen}
use Rattle.channel_core.specs.Steps.{marked_dead, stamped_gone, sub_of}
use Rattle.channel_core.specs.Tables.{marked_dead_in}
use Rattle.channel_core.specs.Tables as tables
use Rattle.channel_net.specs.Runs.{Down}
use Rattle.channel_net.specs.Steps.{NetSeen, net_down}
use Rattle.ledger_stamps.specs.Steps.{changed_at, gone_link}
use Rattle.session_actions.specs.Closing.{noted_gone}
use Rattle.session_actions.specs.Entries.{entry}
use Rattle.session_actions.specs.Refusals.{is_gone}
use Rattle.session_actions.specs.Words.{numbered}
use Rattle.session_actions.specs.declared.action.Action.{Action}
use Rattle.session_actions.specs.declared.entry.OpenEntry.{OpenEntry}
use Rattle.session_actions.specs.declared.link.Link.{Link}
use Rattle.session_actions.specs.declared.policy.PolicyUse.{PolicyUse}
use Rattle.session_actions.specs.declared.seen.Seen.{Seen}
use Rattle.event_cases.proofs.LostLinks.Down.{IsDown}
use Rattle.event_cases.proofs.LostLinks.Over.{GoesOver, away_v, down, l, p, there_v, v}
use Rattle.channel_core.specs.declared.state.links.LinkSlot.{LinkSlot}
use Rattle.link_actions.specs.LossActions.Laws.{with_over}
use Rattle.session_actions.specs.Sessions.{Does, link_seen}
use Rattle.session_actions.specs.declared.link.LinkOver.{LinkOver}

-- what the channel keeps of the link itself does not matter any more: what it received last may have changed it
pub record IsSlots (link : ℕ) (x : StateSeen) (slots : List LinkSlot) : Type 0 where
  pub count : length slots ≡ length x.links
  pub others : (n : ℕ) → (link == n) ≡ false → numbered slots n ≡ numbered x.links n
  pub own : (slot : LinkSlot) → numbered x.links link ≡ Some slot → (k : LinkSlot) × ((numbered slots link ≡ Some k) × (k.retiring ≡ slot.retiring))

pub same_slots : (link : ℕ) (x : StateSeen) → IsSlots link x x.links
same_slots link x = record { count = refl; others = λ n off. refl; own = λ slot at. (slot, (at, refl)) }

module _ (why : LinkOver) (act : Action) (link : ℕ) (x : StateSeen) (o : OpenEntry) (s : Seen) (g : GoesOver why act link x o s) where
  h : Agrees x s
  h = g.agrees

  abbrev k : Link
  k = l why act link x o s g

  abbrev mid : Seen
  mid = v why act link x o s g

  abbrev q : OpenEntry
  q = p why act link x o s g

  pub dn : IsDown link x q s mid
  dn = down why act link x o s g

  abbrev pub t : Seen
  t = dn.seen

  abbrev over_link : Link → Link
  over_link = with_over why

  abbrev pub actions : List Action
  actions = act ∷ dn.actions

  pub does : Does (act ∷ dn.actions) s t
  does = (g.next, subst (λ (z : Seen). Does dn.actions z t) (sym g.then_) dn.does)

  pub kept_t : IsKept t
  kept_t = kept_along (act ∷ dn.actions) s t h.kept does

  boarded : IsBoarded s t
  boarded = dn.boarded

  entry_same : entry t ≡ entry s
  entry_same = entry_goes_on s t o q boarded g.current dn.current

  pub there_t : numbered t.links link ≡ Some (over_link k)
  there_t = ap (λ (ls : List Link). numbered ls link) dn.links ∙ there_v why act link x o s g

  -- the channel
  module _ (slots : List LinkSlot) (these : IsSlots link x slots) where
    abbrev E : ℕ
    E = x.book.ledger.entry

    abbrev net_then : NetSeen
    net_then = net_down (sub_of (link_at x.book link)) link x.net

    abbrev w : StateSeen
    w = netted net_then x.drawn true (marked_dead_in link slots) x.book.ledger.generations (changed_at (gone_link E) x.book.ledger.links link) x

    abbrev handled : StateSeen
    handled = record x { links = slots }

    whole : stamped_gone link (marked_dead link handled) ≡ w
    whole = limits_form x net_then x.drawn x.book.ledger.generations (link ∷ []) x.resolver slots x.book.ledger.links

    entry_is : entry s ≡ E
    entry_is = h.clock.entry_is

    clock : SeesClock w t
    clock =
        clock_goes_on s t o q boarded g.current dn.current x w h.clock refl refl refl refl refl
        (subst (λ (c : Option OpenEntry). DrawsAlike c x) g.current h.clock.draws).1

    generations : map (λ (g : PolicyUse). g.generation) t.policies ≡ x.book.ledger.generations
    generations = dn.generations ∙ h.columns.generations

    -- the stamps
    goes_off : (z : Link) → link_seen (noted_gone t (over_link z)) ≡ gone_link E (link_seen (noted_gone s z))
    goes_off z =
        ap (λ (n : ℕ). link_seen (if is_none z.gone && true then record z { over = Some why; gone = Some n } else record z { over = Some why })) (entry_same ∙ entry_is)
        ∙ stamp_over why z E (is_gone z s)
        ∙ ap (λ (n : ℕ). gone_link E (link_seen (if is_none z.gone && is_gone z s then record z { gone = Some n } else z))) (sym entry_is)

    noted : links_noted t ≡ changed_at (gone_link E) x.book.ledger.links link
    noted =
        ap (map (λ (z : Link). link_seen (noted_gone t z))) dn.links
        ∙ map_stamped (λ (z : Link). link_seen (noted_gone t z)) (λ (z : Link). link_seen (noted_gone s z)) over_link (gone_link E)
        (λ z. ap link_seen (noted_gone_same s t boarded entry_same dn.shut z)) goes_off link s.links
        ∙ ap (λ (ls : List LinkSeen). changed_at (gone_link E) ls link) h.columns.links

    -- the links
    abbrev touched : ℕ → Bool
    touched n = link == n

    others : (n : ℕ) → touched n ≡ false → numbered (marked_dead_in link slots) n ≡ numbered x.links n
    others n off = number_other tables.marked_dead slots link n (λ e. eqb-false link n off (sym e)) ∙ these.others n off

    no_difference : SeesNoDifference touched s t
    no_difference =
        links_see_no_difference touched s t boarded
        (λ n z off here. (
          z,
          sym (ap (λ (ls : List Link). numbered ls n) dn.links ∙ away_v why act link x o s g n (λ e. eqb-false link n off (sym e))) ∙ here,
          still z,
        ))

    long : length t.links ≡ length (marked_dead_in link slots)
    long =
        ap (λ (ls : List Link). length ls) dn.links ∙ changed_length over_link link s.links ∙ h.links.count
        ∙ sym (resting.changed_length tables.marked_dead slots link ∙ these.count)

    has_it : (z : Link) → numbered t.links link ≡ Some z → HasLink w t z link
    has_it z here =
        let old : HasLink x s k link = h.links.each link k g.there in
        let both_links : Some z ≡ Some (over_link k) = sym here ∙ there_t in
        let one : z ≡ over_link k = (cc) in
        let now = these.own old.slot old.there in
        subst (λ (c : Link). HasLink w t c link) (sym one) (record {
          slot = tables.marked_dead now.0;
          there = number_changed tables.marked_dead slots link ∙ ap (option_map tables.marked_dead) now.1.0;
          sees = record { over = refl; retiring = old.sees.retiring ∙ sym now.1.1; going = λ goes. absurd (let bad : Some why ≡ None = goes in (cc)) };
        })

    links : SeesLinks w t
    links =
        links_stay touched x w s t h.links h.kept kept_t others no_difference long
        (λ n z on here.
        let number : link ≡ n = eqb-true link n on in subst (HasLink w t z) number (has_it z (ap (numbered t.links) number ∙ here)))

    goes : GoesApart 0 s t
    goes = record {
      actions = act ∷ dn.actions;
      does = does;
      apart = (
        g.of,
        subst (ActionsAreOfCall 0 dn.actions) (sym g.then_) dn.of,
      );
      earlier = booked s h.kept;
      later = booked t kept_t;
    }

    beside : IsBeside x w s t
    beside = record {
      channel = refl;
      boarded = boarded;
      goes = goes;
      kept = kept_t;
      clock = clock;
      generations = generations;
      noted = noted;
      policy = λ held unshut. current_stays s t dn.generations ∙ h.configs.policy held unshut;
      links = links;
      net = dn.net;
      orderly = one_call_more (Down (sub_of (link_at x.book link)) link) x.net h.orderly;
    }

    pub agrees : Agrees (stamped_gone link (marked_dead link handled)) t
    agrees = subst (λ (z : StateSeen). Agrees z t) (sym whole) (agrees_after all_calls_stay sets_stay x s t h w beside)
