-- Once its calls have ended, the policies of a channel that was shut down are retired, and its subchannels shut: this is a step of the net.
use Rattle.std.proofs.Common.{◌≡◌, ◌≤◌, ◌++◌, ◌%◌, ◌^◌, ◌∷◌, ap, refl, subst, sym, ◌∙◌, Bool, true, false, List, [], None, Option, Some, ℕ, if◌then◌else◌, find, is_none, is_some, length}
use Rattle.std.proofs.lemmas.Bool.{both_ways}
use Rattle.std.specs.Option.{option_map, option_map_or, option_or}
use Rattle.std.specs.Prelude.{option_and_then}
use Rattle.attempt_ledger.specs.declared.ledger.Ask.{Ask}
use Rattle.attempt_ledger.specs.declared.ledger.Generation.{Generation}
use Rattle.attempt_ledger.specs.declared.ledger.LinkSeen.{LinkSeen}
use Rattle.channel_actions.proofs.Answering.{IsPlain, plain_frame, plain_quiet}
use Rattle.channel_actions.proofs.BoardActions.Boards.{boards_leave_rest}
use Rattle.channel_actions.proofs.Does.{does_on, none_on}
use Rattle.channel_actions.proofs.KeptSessions.Along.{kept_along}
use Rattle.channel_actions.proofs.Links.Frames.Frame.{links_stay}
use Rattle.call_cases.proofs.OtherCalls.Sets.{sets_stay}
use Rattle.call_cases.proofs.OtherCalls.Slots.{all_calls_stay}
use Rattle.channel_actions.proofs.Settles.{IsQuiet}
use Rattle.channel_actions.specs.Agrees.{Agrees}
use Rattle.channel_actions.specs.BoardActions.Boards.{IsBoarded}
use Rattle.channel_actions.specs.Quiescent.{IsAt}
use Rattle.channel_actions.specs.Cases.{answered_done}
use Rattle.channel_actions.specs.Clock.{DrawsAlike}
use Rattle.channel_actions.specs.KeptSessions.Kept.{IsKept}
use Rattle.channel_actions.specs.Stages.{IsAnswered}
use Rattle.channel_actions.specs.TheirLinks.Laws.{TheirsAlong}
use Rattle.channel_actions.specs.TheirLinks.Theirs.{LinksAreTheirs}
use Rattle.call_cases.proofs.CallPosts.Answered.{of_order}
use Rattle.attempt_cases.proofs.DialEvents.Nets.{one_call_more}
use Rattle.event_cases.proofs.FirstShutdowns.Over.{shutdowns_end_calls}
use Rattle.attempt_cases.proofs.NetSteps.Alike.{links_without_difference_agree}
use Rattle.attempt_cases.proofs.NetSteps.Clocks.{clock_goes_on}
use Rattle.attempt_cases.proofs.NetSteps.Stepped.{net_steps_keep}
use Rattle.attempt_cases.proofs.NetSteps.Subbed.{subbed_links}
use Rattle.event_cases.specs.FirstShutdowns.Cases.{IsFirstShutdown}
use Rattle.event_cases.specs.FirstShutdowns.Laws.{StampsAreKept, CallsAreOver, FirstShutdownsAreAnswered, ShutsAreStamped, without_calls}
use Rattle.attempt_cases.specs.NetChains.Chains.{IsChained, IsPickThere}
use Rattle.attempt_cases.specs.NetChains.Laws.{ChainsAreNext}
use Rattle.channel_core.specs.Applying.{AnswersBy, net_closed, refusal_of, shut_off}
use Rattle.channel_core.specs.States.{StateSeen}
use Rattle.channel_core.specs.Steps.{all_stamped_gone, is_gone, stamped_gone, with_generations, with_ledger_links}
use Rattle.channel_net.specs.Runs.{Shut}
use Rattle.channel_net.specs.Steps.{net_shut, shut_stamps}
use Rattle.attempt_cases.specs.NetSteps.Steps.{netted}
use Rattle.grpc_base.specs.declared.event.Conn.TheVariants as conn
use Rattle.grpc_base.specs.declared.event.EndCause.TheVariants as ending
use Rattle.grpc_base.specs.declared.event.Event.TheVariants as event
use Rattle.grpc_base.specs.declared.event.Event.{Event}
use Rattle.grpc_base.specs.declared.event.Reply.TheVariants as reply
use Rattle.grpc_base.specs.declared.event.Reply.{Reply}
use Rattle.grpc_base.specs.declared.kind.Kind.{Kind}
use Rattle.ledger_stamps.specs.Steps.{changed_at, gone_link}
use Rattle.net_actions.proofs.ShuttingDown.{shuts_all}
use Rattle.net_actions.specs.Runs.{Becomes, DoesAll}
use Rattle.session_actions.specs.Actions.{after_in, of_policies}
use Rattle.session_actions.specs.CallEnds.{ending_call, is_shut_down, next_deadline, next_ended}
use Rattle.session_actions.specs.Policies.{addresses_in, begin_if, given_addresses, is_same_kind, is_to_retire, listed, live_policies, live_sub, next_begun, next_given, next_retired, wanted_kind, wants_addresses, with_policy}
use Rattle.session_actions.specs.Subchannels.{is_unlisted, next_added, next_shut, without_link}
use Rattle.session_actions.specs.Words.{last_of}
use Rattle.session_actions.specs.declared.action.Action.TheVariants as action
use Rattle.session_actions.specs.declared.action.Action.{Action}
use Rattle.session_actions.specs.declared.entry.OpenEntry.{OpenEntry}
use Rattle.session_actions.specs.declared.entry.Stage.TheVariants as stage
use Rattle.session_actions.specs.declared.call.Call.{Call}
use Rattle.session_actions.specs.declared.policy.PolicyUse.{PolicyUse}
use Rattle.session_actions.specs.declared.seen.Seen.{Seen}
use Rattle.session_actions.specs.declared.subchannel.Subchannel.{Subchannel}
use Rattle.session_order.proofs.Lists.{some_find}
use Rattle.session_order.specs.Quiescent.{IsStill}
use Rattle.session_order.specs.Lines.{is_of_policies}
use Rattle.session_order.specs.declared.line.Line.{Line}
use Rattle.session_order.specs.declared.line.Line.TheVariants as line
use Rattle.std.specs.List.{list_any}
use Rattle.grpc_base.specs.declared.address.Address.{Address}

is_plain : IsPlain event.Shutdown
is_plain = record { cancels_none = λ n. refl; sends_none = λ c z. refl; no_result = refl; no_frame = λ o s. refl }

-- the actions of policies leave links
module _ (o : OpenEntry) (s : Seen) where
  abbrev Leaves : Action → Type 0
  Leaves a = (after_in o a s).links ≡ s.links

  abbrev AllLeave : Option Action → Type 0
  AllLeave q = (a : Action) → q ≡ Some a → Leaves a

  either : (p q : Option Action) → AllLeave p → AllLeave q → AllLeave (option_or p q)
  either None q f g = g
  either (Some b) q f g = f

  none : AllLeave None
  none a e = absurd (cc)

  by_map : {X : Type 0} (f : X → Action) → ((x : X) → Leaves (f x)) → (q : Option X) → AllLeave (option_map f q)
  by_map f each None a e = absurd (cc)
  by_map f each (Some x) a e = let one : f x ≡ a = (cc) in subst Leaves one (each x)

  given_by : {X : Type 0} (f : X → Seen) → ((x : X) → (f x).links ≡ s.links) → (q : Option X) → (option_map_or f q s).links ≡ s.links
  given_by f same None = refl
  given_by f same (Some x) = same x

  begin_by : (k : Kind) (b : Bool) → AllLeave (if b then None else Some (action.PolicyBegins k))
  begin_by k true a e = absurd (cc)
  begin_by k false a e = let one : action.PolicyBegins k ≡ a = (cc) in subst Leaves one refl

  begun_by : (q : Option Kind) → AllLeave (option_and_then (begin_if s) q)
  begun_by None a e = absurd (cc)
  begun_by (Some k) a e = begin_by k (list_any (λ (g : PolicyUse). is_same_kind g.generation.kind k) (live_policies s)) a e

  pub lines_leave : AllLeave (of_policies o s)
  lines_leave =
      either (next_ended ending.Shut (is_shut_down s) s) _ (by_map (ending_call ending.Shut) (λ c. refl) (find (is_shut_down s) s.calls))
      (either (next_retired o s) _ (by_map (λ (g : PolicyUse). action.PolicyRetired g.number) (λ g. refl) (find (is_to_retire o s) s.policies))
      (either (next_begun o s) _ (begun_by (wanted_kind o s))
      (either (next_given o s) _
      (by_map (λ (g : PolicyUse). action.AddressesGiven g.number)
      (λ g. given_by (λ (l : List Address). with_policy (given_addresses l s) g.number s) (λ l. refl) (addresses_in o.event)) (find (wants_addresses o s) s.policies))
      (either (next_shut s) _ (by_map (λ (b : Subchannel). action.SubchannelShut b.number) (λ b. subbed_links (without_link conn.Shutdown) b.number s) (find (is_unlisted s) s.subs))
      (either (next_added s) None (by_map (λ (a : Address). action.SubchannelAdded a) (λ a. refl) (find (λ (a : Address). is_none (live_sub s a)) (listed s))) none)))))

pub links_along : (actions : List Action) (o : OpenEntry) (s t : Seen) → DoesAll actions o s t → t.links ≡ s.links
links_along [] o s t d = ap (λ (v : Seen). v.links) d.1
links_along (a ∷ actions) o s t d = links_along actions o (after_in o a s) t d.1 ∙ lines_leave o s a d.0

-- stamps of links alone
form_if : (b : Bool) (ls : List LinkSeen) (z : StateSeen) → (if b then with_ledger_links ls z else z) ≡ with_ledger_links (if b then with_ledger_links ls z else z).book.ledger.links z
form_if true ls z = refl
form_if false ls z = refl

pub stamps_form : (links : List ℕ) (z : StateSeen) → all_stamped_gone links z ≡ with_ledger_links (all_stamped_gone links z).book.ledger.links z
stamps_form [] z = refl
stamps_form (link ∷ links) z =
    stamps_form links (stamped_gone link z)
    ∙ ap (with_ledger_links (all_stamped_gone links (stamped_gone link z)).book.ledger.links)
    (form_if (is_gone link z) (changed_at (gone_link z.book.ledger.entry) z.book.ledger.links link) z)

none_some : (b : Bool) (q : Option Call) → b ≡ is_some q → option_map (ending_call ending.Shut) q ≡ None → b ≡ false
none_some b None e f = e
none_some b (Some d) e f = absurd (cc)

-- the rest of it
module _ (chains : ChainsAreNext) (along : TheirsAlong) (stamps : ShutsAreStamped) (x : StateSeen) (o : OpenEntry) (s : Seen) (h : Agrees x s) (at : IsAt stage.Event o s) (fresh : o.turn ≡ None)
    (timely : next_deadline s ≡ None) (case : IsFirstShutdown o.event x s) where
  c : CallsAreOver x o s
  c = shutdowns_end_calls x o s h at timely case

  abbrev z : StateSeen
  z = without_calls x

  abbrev p : OpenEntry
  p = answered_done o

  quiet : IsQuiet p
  quiet = plain_quiet reply.Done o event.Shutdown case.event_is is_plain

  quiescent_by : (l : Line) → is_of_policies l ≡ false → IsStill l p c.seen
  quiescent_by line.Shut e = none_some (list_any (is_shut_down c.seen) c.seen.calls) (find (is_shut_down c.seen) c.seen.calls) (sym (some_find (is_shut_down c.seen) c.seen.calls)) c.over
  quiescent_by l e = c.still l e

  picks : IsPickThere c.seen
  picks ask sub last answer =
      subst (λ (bs : List Subchannel). sub ≤ length bs) (sym c.subs) (case.picks ask sub (sym (ap (λ (l : List Ask). last_of l) c.asks) ∙ last) answer)

  b : Becomes p c.seen (net_shut z.net).net
  b = shuts_all p c.seen z.net c.agrees.net c.shut c.over quiet.result

  abbrev v : Seen
  v = b.end

  chain : IsChained b.runs.actions p c.seen v
  chain = chains b.runs.actions p c.seen v b.runs.does c.current quiescent_by picks

  boarded : IsBoarded c.seen v
  boarded = boards_leave_rest b.runs.actions c.seen v chain.board chain.does

  later : IsKept v
  later = kept_along b.runs.actions c.seen v c.agrees.kept chain.does

  theirs : LinksAreTheirs c.seen
  theirs = along c.actions s c.seen h.kept case.early case.prefaced case.theirs c.does

  stamped : StampsAreKept z v
  stamped =
      stamps z p c.seen v b.runs.actions c.agrees theirs c.shut c.current quiet.result b.runs.does chain.current boarded later
      (links_along b.runs.actions p c.seen v b.runs.does) b.sees

  -- the channel
  abbrev generations_now : List Generation
  generations_now = shut_stamps z.book.ledger.entry z.net.asker.rack z.book.ledger.generations

  abbrev links_now : List LinkSeen
  links_now = (net_closed z).book.ledger.links

  abbrev y : StateSeen
  y = netted (net_shut z.net).net z.drawn z.resolver z.links generations_now links_now z

  closed_is : net_closed z ≡ y
  closed_is = stamps_form (net_shut z.net).gone (record (with_generations generations_now z) { net = (net_shut z.net).net })

  draws : (p.word ≡ z.word) × (z.drawn ≡ p.drawn % 2 ^ 64)
  draws = subst (λ (q : Option OpenEntry). DrawsAlike q z) c.current c.agrees.clock.draws

  agrees : Agrees y v
  agrees = net_steps_keep all_calls_stay sets_stay kept_along z y c.seen v c.agrees (record {
    channel = refl;
    actions = b.runs.actions;
    does = chain.does;
    board = chain.board;
    clock = clock_goes_on c.seen v p p boarded c.current chain.current z y c.agrees.clock refl refl refl refl refl draws.1;
    generations = stamped.generations ∙ ap (λ (w : StateSeen). w.book.ledger.generations) closed_is;
    noted = stamped.links;
    policy = λ held unshut. absurd (both_ways c.seen.shut unshut c.shut);
    links = links_without_difference_agree links_stay z y c.seen v c.agrees.kept later boarded (links_along b.runs.actions p c.seen v b.runs.does) refl c.agrees.links;
    net = b.sees;
    orderly = one_call_more Shut z.net c.agrees.orderly;
  })

  pub shut_answered : IsAnswered (net_closed z) reply.Done o s
  shut_answered = record {
    reaches = record {
      actions = c.actions ++ b.runs.actions;
      seen = v;
      entry = p;
      does = does_on c.actions b.runs.actions s c.seen v c.does chain.does;
      posts = none_on c.actions b.runs.actions c.posts chain.posts;
      same = record {
        moment = refl;
        word = refl;
        event = refl;
        entries = ap (λ (w : Seen). w.entries) boarded ∙ c.entries;
        setup = ap (λ (w : Seen). w.setup) boarded ∙ c.setup;
      };
      at = record { current = chain.current; stage_is = refl; quiescent = of_order p v chain.quiescent };
      agrees = subst (λ (w : StateSeen). Agrees w v) (sym closed_is) agrees;
    };
    reply = refl;
    fresh = fresh;
    none = plain_frame reply.Done o v event.Shutdown case.event_is is_plain;
  }

pub first_shutdowns : ChainsAreNext → TheirsAlong → ShutsAreStamped → FirstShutdownsAreAnswered
first_shutdowns chains along stamps x y r o s h at fresh timely case answers =
    let given : AnswersBy None event.Shutdown x y r = subst (λ (e : Event). AnswersBy (refusal_of e x) e x y r) case.event_is answers in
    let same : y ≡ net_closed (without_calls x) = given.0 ∙ ap (λ (b : Bool). if b then x else shut_off x) case.going in
    subst (λ (w : StateSeen). IsAnswered w r o s) (sym same)
    (subst (λ (q : Reply). IsAnswered (net_closed (without_calls x)) q o s) (sym given.1) (shut_answered chains along stamps x o s h at fresh timely case))
