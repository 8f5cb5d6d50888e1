-- Once the config of a result is read, the policy of its kind gets the addresses, and subchannels go and come: this is a step of the net, and all agrees after it.
use Rattle.std.proofs.Common.{◌≡◌, ◌≤◌, ◌++◌, ◌%◌, ◌^◌, ◌∷◌, ◌||◌, ap, refl, subst, sym, ◌∙◌, Bool, true, false, List, [], None, Option, Some, ℕ, if◌then◌else◌, is_none, is_some, length, map, not, option_to_list}
use Rattle.std.proofs.lemmas.Bool.{both_ways}
use Rattle.std.specs.List.{list_any}
use Rattle.std.specs.Option.{option_map}
use Rattle.attempt_ledger.specs.declared.ledger.Ask.{Ask}
use Rattle.attempt_ledger.specs.declared.ledger.Generation.{Generation}
use Rattle.attempt_ledger.specs.declared.ledger.LinkSeen.{LinkSeen}
use Rattle.channel_actions.proofs.BoardActions.Boards.{boards_leave_rest}
use Rattle.channel_actions.proofs.Does.{does_on, none_on}
use Rattle.channel_actions.proofs.KeptSessions.Along.{kept_along}
use Rattle.channel_actions.proofs.Links.Frames.Frame.{links_stay}
use Rattle.call_cases.proofs.OtherCalls.Sets.{sets_stay}
use Rattle.call_cases.proofs.OtherCalls.Slots.{all_calls_stay}
use Rattle.channel_actions.specs.Agrees.{Agrees}
use Rattle.channel_actions.specs.BoardActions.Boards.{IsBoarded}
use Rattle.channel_actions.specs.Clock.{DrawsAlike}
use Rattle.channel_actions.specs.Columns.{links_noted}
use Rattle.channel_actions.specs.KeptSessions.Kept.{IsKept}
use Rattle.channel_actions.specs.Stages.{IsAnswered}
use Rattle.call_cases.proofs.CallPosts.Answered.{of_order}
use Rattle.attempt_cases.proofs.DialEvents.Nets.{one_call_more}
use Rattle.event_cases.proofs.FirstShutdowns.Answered.{links_along, stamps_form}
use Rattle.event_cases.proofs.GenerationStamps.Along.{gens, generations_along}
use Rattle.event_cases.proofs.GenerationStamps.Results.{results_stamp_alike}
use Rattle.event_cases.proofs.HeldResults.LeftNets.{links_left_by, still_shut}
use Rattle.event_cases.proofs.HeldResults.Unread.{reread, restamped, stamps_other}
use Rattle.attempt_cases.proofs.NetSteps.Alike.{links_without_difference_agree}
use Rattle.attempt_cases.proofs.NetSteps.Clocks.{clock_goes_on, entry_goes_on}
use Rattle.event_cases.proofs.HeldResults.Mid.{IsMid}
use Rattle.event_cases.proofs.HeldResults.Stepped.{mid_steps_keep}
use Rattle.event_cases.specs.GenerationStamps.Stamps.{generations_after}
use Rattle.channel_actions.specs.TheirLinks.Theirs.{LinksAreTheirs}
use Rattle.event_cases.specs.LeftLinks.Laws.{LinksAreLeft, LeftLinksAreStamped}
use Rattle.attempt_cases.specs.NetChains.Chains.{IsApartQuiescent, IsChained, IsPickThere}
use Rattle.attempt_cases.specs.NetChains.Laws.{ChainsAreNext}
use Rattle.attempt_cases.specs.NetSteps.Steps.{netted}
use Rattle.channel_core.specs.Applying.{readdressed_to}
use Rattle.channel_core.specs.States.{StateSeen}
use Rattle.channel_core.specs.Steps.{all_stamped_gone, with_generations}
use Rattle.channel_core.specs.Tables.{BucketsSeen}
use Rattle.channel_net.specs.Laws.{GenerationsAreKept}
use Rattle.channel_net.specs.Lists.{shut_links}
use Rattle.channel_net.specs.Runs.{Resolved}
use Rattle.channel_net.specs.Steps.{NetSeen, kept_shut, listed, net_resolved, net_taken, resolved_shut, resolved_stamps}
use Rattle.grpc_base.specs.Addresses.{IsAddressList}
use Rattle.grpc_base.specs.Kinds.{has_kind}
use Rattle.grpc_base.specs.declared.address.Address.{Address}
use Rattle.grpc_base.specs.declared.event.Reply.{Reply}
use Rattle.grpc_base.specs.declared.kind.Kind.{Kind}
use Rattle.lb_policy.specs.Table.{PolicySeen}
use Rattle.net_actions.proofs.Resolving.{takes_result}
use Rattle.net_actions.specs.Runs.{Becomes, IsOfCalls}
use Rattle.net_actions.specs.Sees.{IsUse, Sees}
use Rattle.policy_rack.specs.Kinds.{kinds_of}
use Rattle.policy_rack.specs.Runs.{GenerationsAreLive}
use Rattle.policy_rack.specs.declared.live.Live.{Live}
use Rattle.service_config.specs.declared.config.Config.{Config}
use Rattle.session_actions.specs.Actions.{after}
use Rattle.session_actions.specs.Entries.{entry}
use Rattle.session_actions.specs.Events.{frame_action}
use Rattle.session_actions.specs.Laws.{posted_in}
use Rattle.session_actions.specs.Policies.{current_policy, is_same_kind, live_policies, pending_policy, policy_of, result_of, wanted_kind}
use Rattle.session_actions.specs.Sessions.{Does}
use Rattle.session_actions.specs.Words.{holds, last_of}
use Rattle.session_actions.specs.declared.action.Action.{Action}
use Rattle.session_actions.specs.declared.entry.OpenEntry.{OpenEntry}
use Rattle.session_actions.specs.declared.entry.Stage.TheVariants as stage
use Rattle.session_actions.specs.declared.policy.PolicyUse.{PolicyUse}
use Rattle.session_actions.specs.declared.seen.Seen.{Seen}
use Rattle.session_actions.specs.declared.subchannel.Subchannel.{Subchannel}
use Rattle.session_order.proofs.Posts.{answered_with}
use Rattle.session_order.specs.Quiescent.{lacks_kind}
use Rattle.session_order.specs.declared.line.Line.TheVariants as line
use Rattle.subchannel.specs.Boards.{kept}

-- the config was read: from `s` to `t`, and from the channel `x` to `y`
pub record IsRead (x y : StateSeen) (r : Reply) (o : OpenEntry) (s t : Seen) (kind : Kind) (addresses : List Address) : Type 0 where
  pub first : Action
  pub does : Does (first ∷ []) s t
  pub posts : posted_in (first ∷ []) ≡ []
  pub mid : IsMid y t
  pub held : Option Config
  pub resolver : Bool
  pub unconfigured : Bool
  pub buckets : BucketsSeen
  pub is : y ≡ reread held resolver unconfigured buckets x
  pub current : t.current ≡ Some (answered_with r o)
  pub quiescent : IsApartQuiescent (answered_with r o) t
  pub entry_is : entry t ≡ entry s
  pub entries : t.entries ≡ s.entries
  pub setup : t.setup ≡ s.setup
  pub asks : t.asks ≡ s.asks
  pub subs : t.subs ≡ s.subs
  pub links : t.links ≡ s.links
  pub attempts : t.attempts ≡ s.attempts
  pub is_open : t.shut ≡ false
  pub wanted : wanted_kind (answered_with r o) t ≡ Some kind
  pub result : result_of (answered_with r o) ≡ Some addresses
  pub no_frame : (w : Seen) → frame_action (answered_with r o) w ≡ None

-- one is current where one is live
some_of : (w : Seen) (k : Kind) (live pending : Option Live) (made : ℕ) (cs ps : List Address) (policies : List PolicySeen) → GenerationsAreLive live pending made
    → IsUse (current_policy w) (option_map (λ (g : PolicyUse). policy_of g w) (current_policy w)) live cs policies
    → IsUse (pending_policy w) (option_map (λ (g : PolicyUse). policy_of g w) (pending_policy w)) pending ps policies
    → lacks_kind w k ≡ false → (c : Option PolicyUse) → current_policy w ≡ c → (p : Option PolicyUse) → pending_policy w ≡ p → is_some c ≡ true
some_of w k live pending made cs ps policies lives u v has (Some c) e p d = refl
some_of w k (Some live) pending made cs ps policies lives u v has None e p d =
    absurd (subst (λ (x : Option PolicyUse). IsUse x (option_map (λ (g : PolicyUse). policy_of g w) x) (Some live) cs policies) e u)
some_of w k None (Some pending) made cs ps policies lives u v has None e p d = absurd lives
some_of w k None None made cs ps policies lives u v has None e (Some p) d =
    absurd (subst (λ (x : Option PolicyUse). IsUse x (option_map (λ (g : PolicyUse). policy_of g w) x) None ps policies) d v)
some_of w k None None made cs ps policies lives u v has None e None d =
    absurd (let bad : true ≡ false
    = sym (ap (λ (c : Option PolicyUse). not (list_any (λ (g : PolicyUse). is_same_kind g.generation.kind k) (option_to_list c ++ option_to_list (pending_policy w)))) e
    ∙ ap (λ (p : Option PolicyUse). not (list_any (λ (g : PolicyUse). is_same_kind g.generation.kind k) (option_to_list p))) d) ∙ has in (cc))

module _ (chains : ChainsAreNext) (keeps : GenerationsAreKept) (left_stamped : LeftLinksAreStamped) (x y : StateSeen) (r : Reply) (o : OpenEntry) (s t : Seen) (k : Kind)
    (addresses : List Address) (h : Agrees x s) (q : IsRead x y r o s t k addresses) (list : IsAddressList addresses)
    (has : has_kind (kinds_of x.net.asker.rack.policies) k ≡ true) (picks : IsPickThere s) (theirs : LinksAreTheirs s) (fresh : o.turn ≡ None) where
  abbrev p : OpenEntry
  p = answered_with r o

  net_is : y.net ≡ x.net
  net_is = ap (λ (z : StateSeen). z.net) q.is

  has_now : has_kind (kinds_of y.net.asker.rack.policies) k ≡ true
  has_now = ap (λ (n : NetSeen). has_kind (kinds_of n.asker.rack.policies) k) net_is ∙ has

  picks_now : IsPickThere t
  picks_now ask sub last answer =
      subst (λ (bs : List Subchannel). sub ≤ length bs) (sym q.subs) (picks ask sub (sym (ap (λ (l : List Ask). last_of l) q.asks) ∙ last) answer)

  abbrev N : NetSeen
  N = net_resolved k addresses y.net

  b : Becomes p t N
  b = takes_result keeps p t y.net k addresses q.mid.net q.mid.orderly q.is_open q.wanted q.result list has_now

  abbrev w : Seen
  w = b.end

  chain : IsChained b.runs.actions p t w
  chain = chains b.runs.actions p t w b.runs.does q.current q.quiescent picks_now

  boarded : IsBoarded t w
  boarded = boards_leave_rest b.runs.actions t w chain.board chain.does

  later : IsKept w
  later = kept_along b.runs.actions t w q.mid.kept chain.does

  abbrev E : ℕ
  E = y.book.ledger.entry

  abbrev G : List Generation
  G = resolved_stamps E k y.net N y.book.ledger.generations

  generations : gens w.policies ≡ G
  generations =
      generations_along b.runs.actions p t w q.mid.net.uses_are.numbers (λ shut. absurd (both_ways t.shut q.is_open shut)) b.runs.does
      ∙ ap (λ (x : Bool). generations_after x (wanted_kind p t) (entry t) (gens t.policies)) q.is_open
      ∙ ap (λ (z : Option Kind). generations_after false z (entry t) (gens t.policies)) q.wanted
      ∙ results_stamp_alike keeps t y.net k addresses (entry t) q.mid.net q.mid.orderly has_now
      ∙ ap (λ (e : ℕ). resolved_stamps e k y.net N (gens t.policies)) q.mid.clock.entry_is
      ∙ ap (resolved_stamps E k y.net N) q.mid.columns.generations

  links_same : w.links ≡ t.links
  links_same = links_along b.runs.actions p t w b.runs.does

  -- links of subchannels that are shut
  abbrev gone : List ℕ
  gone = resolved_shut k addresses y.net

  abbrev L : List LinkSeen
  L = (all_stamped_gone gone (with_generations G (record y { net = N }))).book.ledger.links

  board_is : N.board ≡ kept (listed k addresses y.net).current (listed k addresses y.net).pending x.net.board
  board_is =
      ap (λ (b : Bool). (if b then net_taken k addresses y.net else y.net).board) has_now
      ∙ ap (λ (n : NetSeen). kept (listed k addresses y.net).current (listed k addresses y.net).pending n.board) net_is

  gone_is : gone ≡ shut_links N.board x.net.links
  gone_is =
      ap (λ (b : Bool). if b then kept_shut (listed k addresses y.net) else []) has_now
      ∙ sym (ap (λ (b : Bool). shut_links (if b then net_taken k addresses y.net else y.net).board y.net.links) has_now)
      ∙ ap (λ (n : NetSeen). shut_links N.board n.links) net_is

  are_left : LinksAreLeft x s w N gone
  are_left = record {
    attempts = ap (λ (v : Seen). v.attempts) boarded ∙ q.attempts;
    links = links_same ∙ q.links;
    entry_is = entry_goes_on t w p p boarded q.current chain.current ∙ q.entry_is;
    kept = later;
    sees = b.sees;
    shut = still_shut s w x.net N (listed k addresses y.net).current (listed k addresses y.net).pending h.net b.sees board_is;
    left = λ sub link c there own before off.
        links_left_by s w x.net N (listed k addresses y.net).current (listed k addresses y.net).pending h.net b.sees board_is gone gone_is sub link c there own off;
  }

  stamps_are : L ≡ (all_stamped_gone gone (record x { net = N })).book.ledger.links
  stamps_are =
      ap (λ (z : StateSeen). (all_stamped_gone gone (with_generations G (record z { net = N }))).book.ledger.links) q.is
      ∙ ap (λ (z : StateSeen). z.book.ledger.links) (stamps_other q.held q.resolver q.unconfigured q.buckets G gone (record x { net = N }))

  noted : links_noted w ≡ L
  noted = left_stamped x s w N gone h theirs are_left ∙ sym stamps_are

  -- the channel
  abbrev z : StateSeen
  z = netted N y.drawn y.resolver y.links G L y

  pub given_is : readdressed_to k addresses y ≡ z
  given_is = stamps_form gone (with_generations G (record y { net = N }))

  draws : (p.word ≡ y.word) × (y.drawn ≡ p.drawn % 2 ^ 64)
  draws = subst (λ (c : Option OpenEntry). DrawsAlike c y) q.current q.mid.clock.draws

  orderly : IsOfCalls N
  orderly = one_call_more (Resolved k addresses) y.net q.mid.orderly

  lives : GenerationsAreLive N.asker.rack.current N.asker.rack.pending N.asker.rack.made
  lives = subst (λ (n : NetSeen). GenerationsAreLive n.asker.rack.current n.asker.rack.pending n.asker.rack.made) (sym orderly.is) (keeps orderly.calls orderly.policies).live

  has_kind_now : lacks_kind w k ≡ false
  has_kind_now =
      sym (ap (λ (c : Option Kind). holds (lacks_kind w) c) (ap (wanted_kind p) boarded ∙ q.wanted)) ∙ chain.quiescent line.Begin

  current_is : is_some (current_policy w) ≡ true
  current_is =
      some_of w k N.asker.rack.current N.asker.rack.pending N.asker.rack.made N.current N.pending N.asker.rack.policies lives b.sees.current_is b.sees.pending_is has_kind_now
      (current_policy w) refl (pending_policy w) refl

  agrees : Agrees z w
  agrees = mid_steps_keep all_calls_stay sets_stay kept_along y z t w q.mid (record {
    channel = refl;
    actions = b.runs.actions;
    does = chain.does;
    board = chain.board;
    clock = clock_goes_on t w p p boarded q.current chain.current y z q.mid.clock refl refl refl refl refl draws.1;
    generations = generations;
    noted = noted;
    policy = λ held unshut. current_is;
    links = links_without_difference_agree links_stay y z t w q.mid.kept later boarded links_same refl q.mid.links;
    net = b.sees;
    orderly = orderly;
  })

  pub given : IsAnswered (readdressed_to k addresses y) r o s
  given = record {
    reaches = record {
      actions = (q.first ∷ []) ++ b.runs.actions;
      seen = w;
      entry = p;
      does = does_on (q.first ∷ []) b.runs.actions s t w q.does chain.does;
      posts = none_on (q.first ∷ []) b.runs.actions q.posts chain.posts;
      same = record {
        moment = refl;
        word = refl;
        event = refl;
        entries = ap (λ (v : Seen). v.entries) boarded ∙ q.entries;
        setup = ap (λ (v : Seen). v.setup) boarded ∙ q.setup;
      };
      at = record { current = chain.current; stage_is = refl; quiescent = of_order p w chain.quiescent };
      agrees = subst (λ (v : StateSeen). Agrees v w) (sym given_is) agrees;
    };
    reply = refl;
    fresh = fresh;
    none = q.no_frame w;
  }
