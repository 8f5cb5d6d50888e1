-- Each event is answered, by its kind.
use Rattle.channel_actions.specs.Agrees.{Agrees}
use Rattle.channel_actions.specs.Quiescent.{IsAt}
use Rattle.channel_actions.specs.Cases.{DoesSomething, does_something}
use Rattle.channel_actions.specs.Known.{IsKnown}
use Rattle.channel_actions.specs.FewCalls.Laws.{DialsAreFew, LinksAreFew}
use Rattle.channel_actions.specs.Laws.{PingsAreQueued}
use Rattle.channel_actions.specs.Posted.{IsPosted}
use Rattle.channel_actions.specs.SoundBuffers.Laws.{EachHoldsSoundly}
use Rattle.channel_actions.specs.Stages.{EventsAnswered, IsAnswered}
use Rattle.call_cases.proofs.CallPosts.Answered.{posted}
use Rattle.run_cases.proofs.WholeRuns.Counts.{dials_known, first_known, links_known}
use Rattle.run_cases.proofs.WholeRuns.Losses.{losses_known}
use Rattle.end_cases.specs.AttemptEnds.Laws.{OneAttemptEnds}
use Rattle.end_cases.specs.AttemptEnds.Runs.{RunsOfSessions}
use Rattle.call_cases.specs.BeginActions.Laws.{BeginsAreAnswered}
use Rattle.attempt_cases.specs.CallCommits.Laws.{SendsAreAnswered}
use Rattle.call_cases.specs.CallEnds.Laws.{IsCancelled, LateCancels, OpenCancels}
use Rattle.call_cases.specs.CallPosts.Laws.{FinishesAreAnswered, TakesAreAnswered}
use Rattle.attempt_cases.specs.DialEvents.Laws.{FailedDialsAreAnswered, LinksUpAreAnswered, TakenDialsAreAnswered}
use Rattle.event_cases.specs.FewStreams.Laws.{AttemptsAreFew, StreamsAreFew}
use Rattle.event_cases.specs.HeldCalls.Laws.{KnownDrainsAreAnswered}
use Rattle.run_cases.specs.KnownNets.Laws.{KnownResultsAreAnswered}
use Rattle.run_cases.specs.KnownStages.Laws.{KnownShutdownsAreAnswered}
use Rattle.event_cases.specs.LostLinks.Laws.{LostLinksAreAnswered}
use Rattle.event_cases.specs.NearDeadlines.Laws.{KnownDeadlinesAreNear}
use Rattle.event_cases.specs.ResultEvents.Laws.{FirstBadConfigsAreAnswered, SecondShutdownsAreAnswered}
use Rattle.run_cases.specs.WholeRuns.Parts.{IsArrival}
use Rattle.channel_core.specs.Applying as channel
use Rattle.channel_core.specs.Applying.{AnswersBy, Applies, config_read}
use Rattle.channel_core.specs.Books.{lacks_call, slot_at}
use Rattle.channel_core.specs.States.{StateSeen}
use Rattle.channel_net.specs.Steps.{dial_refusal}
use Rattle.grpc_base.specs.declared.address.Address.{Address}
use Rattle.grpc_base.specs.declared.event.ConfigFault.{ConfigFault}
use Rattle.grpc_base.specs.declared.event.Event.TheVariants as event
use Rattle.grpc_base.specs.declared.event.Event.{Event}
use Rattle.grpc_base.specs.declared.event.Refusal.TheVariants as refusal
use Rattle.grpc_base.specs.declared.event.Refusal.{Refusal}
use Rattle.grpc_base.specs.declared.event.Reply.{Reply}
use Rattle.attempt_ledger.specs.declared.ledger.CallEnd.{CallEnd}
use Rattle.policy_rack.specs.Kinds.{kinds_of}
use Rattle.service_config.specs.declared.config.Config.{Config}
use Rattle.session_actions.specs.CallEnds.{next_deadline}
use Rattle.session_actions.specs.declared.entry.OpenEntry.{OpenEntry}
use Rattle.session_actions.specs.declared.entry.Stage.TheVariants as stage
use Rattle.session_actions.specs.declared.seen.Seen.{Seen}
use Rattle.std.proofs.Common.{Bool, Err, List, None, Ok, Option, Result, Some, ap, false, is_none, is_some, refl, subst, sym, true, if◌then◌else◌, ℕ, ◌||◌, ◌∙◌, ◌≡◌}
use Rattle.std.specs.Prelude.{is_ok}
use Rattle.subchannel.specs.Boards.{first_number, numbered}
use Rattle.subchannel.specs.Records.{is_dialable}

-- what is proved of events
pub record EventLaws : Type 0 where
  pub begins : BeginsAreAnswered
  pub sends : SendsAreAnswered
  pub finishes : FinishesAreAnswered
  pub takes : TakesAreAnswered
  pub cancels : OpenCancels
  pub late_cancels : LateCancels
  pub bad_results : FirstBadConfigsAreAnswered
  pub results : KnownResultsAreAnswered
  pub dials : TakenDialsAreAnswered
  pub failures : FailedDialsAreAnswered
  pub links : LinksUpAreAnswered
  pub drains : KnownDrainsAreAnswered
  pub pings : PingsAreQueued
  pub shutdowns : KnownShutdownsAreAnswered
  pub second_shutdowns : SecondShutdownsAreAnswered
  pub lost : LostLinksAreAnswered
  pub ends : OneAttemptEnds
  pub rise : RunsOfSessions
  pub each : EachHoldsSoundly
  pub near : KnownDeadlinesAreNear
  pub up : LinksAreFew
  pub dialled : DialsAreFew
  pub streams : StreamsAreFew
  pub few : AttemptsAreFew

some_there : {X : Type 0} (o : Option X) → is_some o ≡ true → (x : X) × (o ≡ Some x)
some_there None e = absurd (let bad : false ≡ true = e in (cc))
some_there (Some x) e = (x, refl)

none_there : {X : Type 0} (o : Option X) → is_none o ≡ true → o ≡ None
none_there None e = refl
none_there (Some x) e = absurd (let bad : false ≡ true = e in (cc))

unshut : (b : Bool) (q : Option Refusal) → (if b then Some refusal.Shut else q) ≡ None → q ≡ None
unshut true q e = absurd (let bad : Some refusal.Shut ≡ None = e in (cc))
unshut false q e = e

module _ (laws : EventLaws) (arrivals : EventsAnswered IsArrival) (x y : StateSeen) (r : Reply) (o : OpenEntry) (s : Seen) (h : Agrees x s) (at : IsAt stage.Event o s) (fresh : o.turn ≡ None)
    (timely : next_deadline s ≡ None) (case : DoesSomething o.event x s) (allowed : IsPosted o.event) (known : IsKnown x s) (answers : AnswersBy (channel.refusal_of o.event x) o.event x y r) where
  does : (e : Event) → o.event ≡ e → does_something e x ≡ true
  does e is = ap (λ (v : Event). does_something v x) (sym is) ∙ case.does

  kept : (e : Event) → o.event ≡ e → channel.refusal_of e x ≡ None
  kept e is = ap (λ (v : Event). channel.refusal_of v x) (sym is) ∙ case.kept

  -- a Cancel, of a call that is open, or has ended
  cancelled : (number : ℕ) → o.event ≡ event.Cancel number → IsCancelled o.event x s
  cancelled number is =
      let p = posted x s h number (unshut x.shut (lacks_call (slot_at x.book number)) (kept (event.Cancel number) is)) in
      record { number = number; event_is = is; kept = case.kept; call = p.call; there = p.at }

  cancel_by : (c : IsCancelled o.event x s) (e : Option CallEnd) → c.call.end ≡ e → IsAnswered y r o s
  cancel_by c None e = laws.cancels x y r o s h at fresh timely (record { cancelled = c; going = e; unreset = known.early.resets }) answers
  cancel_by c (Some end) e = laws.late_cancels x y r o s h at fresh timely (record { cancelled = c; ended = ap (λ (q : Option CallEnd). is_some q) e }) answers

  -- a result: an invalid config where none was held, or another
  held_result : (addresses : List Address) (config : Option (List ℕ)) → o.event ≡ event.Resolved addresses config
      → (is_some x.held || is_ok (config_read (kinds_of x.net.asker.rack.policies) config)) ≡ true → IsAnswered y r o s
  held_result addresses config is counts =
      laws.results x y r o s h at fresh timely
      (record {
        addresses = addresses;
        config = config;
        event_is = is;
        kept = case.kept;
        counts = counts;
        list = subst IsPosted is allowed;
        first = first_known x s h known;
        known = known;
      })
      answers

  result_by : (addresses : List Address) (config : Option (List ℕ)) (held : Option Config) (read : Result Config ConfigFault) → o.event ≡ event.Resolved addresses config → x.held ≡ held
      → config_read (kinds_of x.net.asker.rack.policies) config ≡ read → IsAnswered y r o s
  result_by addresses config None (Err fault) is none bad =
      laws.bad_results x y r o s h at fresh timely
      (record { addresses = addresses; config = config; fault = fault; event_is = is; kept = case.kept; none_held = none; bad = bad }) answers
  result_by addresses config None (Ok good) is none read =
      held_result addresses config is
      (ap (λ (q : Option Config). is_some q || is_ok (config_read (kinds_of x.net.asker.rack.policies) config)) none ∙ ap (λ (q : Result Config ConfigFault). is_ok q) read)
  result_by addresses config (Some held) read is has e =
      held_result addresses config is (ap (λ (q : Option Config). is_some q || is_ok (config_read (kinds_of x.net.asker.rack.policies) config)) has)

  -- a drain, with room enough
  drain_few : (link room : ℕ) → o.event ≡ event.Drain link room → IsAnswered y r o s
  drain_few link room is =
      laws.drains x y r o s h at fresh timely
      (record {
        drain = record {
          link = link;
          room = room;
          event_is = is;
          kept = case.kept;
          near = laws.near x s known;
          few = λ z q slot applies there. laws.streams x z s q link room slot h known (kept (event.Drain link room) is) (subst (λ (e : Event). Applies e x z q) is applies) there;
        };
        known = known;
      })
      answers

  -- a Shutdown
  shut_by : (b : Bool) → x.shut ≡ b → o.event ≡ event.Shutdown → IsAnswered y r o s
  shut_by true e is = laws.second_shutdowns x y r o s h at fresh timely (record { event_is = is; shut = e }) answers
  shut_by false e is = laws.shutdowns x y r o s h at fresh timely (record { event_is = is; going = e; known = known }) answers

  by_kind : (e : Event) → o.event ≡ e → IsAnswered y r o s
  by_kind (event.Begin request) is = laws.begins x y r o s h at fresh timely (record { request = request; event_is = is; kept = case.kept }) answers
  by_kind (event.Send call message) is =
      laws.sends x y r o s h at fresh timely (record { call = call; message = message; event_is = is; kept = case.kept; unreset = known.early.resets }) answers
  by_kind (event.Finish call) is = laws.finishes x y r o s h at fresh timely (record { call = call; event_is = is; kept = case.kept }) answers
  by_kind (event.Take call) is = laws.takes x y r o s h at fresh timely (record { call = call; event_is = is; kept = case.kept }) answers
  by_kind (event.Cancel number) is = let c = cancelled number is in cancel_by c c.call.end refl
  by_kind (event.Resolved addresses config) is = result_by addresses config x.held (config_read (kinds_of x.net.asker.rack.policies) config) is refl refl
  by_kind event.ResolveFailed is = absurd (let bad : false ≡ true = does event.ResolveFailed is in (cc))
  by_kind event.TakeDial is =
      let d = some_there (first_number is_dialable x.net.board) (does event.TakeDial is) in
      laws.dials x y r o s h at fresh timely (record { sub = d.0; event_is = is; kept = case.kept; first = d.1; few = dials_known laws.dialled x s known }) answers
  by_kind (event.LinkUp sub) is =
      laws.links x y r o s h at fresh timely
      (record {
        sub = sub;
        event_is = is;
        kept = case.kept;
        dial = none_there (dial_refusal (numbered x.net.board sub)) (does (event.LinkUp sub) is);
        few = links_known laws.up x s known;
      })
      answers
  by_kind (event.DialFailed sub) is =
      laws.failures x y r o s h at fresh timely
      (record { sub = sub; event_is = is; kept = case.kept; dial = none_there (dial_refusal (numbered x.net.board sub)) (does (event.DialFailed sub) is) }) answers
  by_kind (event.Arrived link piece) is =
      arrivals x y r o s h at fresh timely (record { link = link; piece = piece; event_is = is; kept = case.kept; known = known }) answers
  by_kind (event.LinkLost link) is =
      losses_known laws.few laws.each laws.lost laws.rise laws.ends x y r o s h at fresh timely (record { link = link; event_is = is; kept = case.kept; known = known }) answers
  by_kind (event.Drain link room) is = drain_few link room is
  by_kind (event.Ping link word) is =
      laws.pings x y r o s h at fresh timely (record { link = link; word = word; event_is = is; kept = case.kept }) answers
  by_kind event.Tick is = absurd (let bad : false ≡ true = does event.Tick is in (cc))
  by_kind event.Shutdown is = shut_by x.shut refl is

  pub events_answered : IsAnswered y r o s
  events_answered = by_kind o.event refl
