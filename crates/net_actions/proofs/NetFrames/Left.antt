-- Kind by kind: an action that is not of the net changes neither subchannels nor policies nor pick requests.
use Rattle.std.proofs.Common.{◌≡◌, ◌&&◌, ◌==◌, ◌||◌, ◌+◌, ◌++◌, ◌∷◌, refl, subst, sym, ◌∙◌, Bool, true, false, Err, List, [], None, Ok, Option, Result, Some, ℕ, if◌then◌else◌, length, not}
use Rattle.std.specs.List.{list_any}
use Rattle.std.specs.Option.{option_map_or}
use Rattle.std.specs.Prelude.{option_and_then, slice_get}
use Rattle.attempt_ledger.specs.Ends.{is_cut}
use Rattle.attempt_ledger.specs.Numbering.{is_transparent}
use Rattle.attempt_ledger.specs.declared.ledger.Ask.{Ask}
use Rattle.attempt_ledger.specs.declared.row.RowEnd.{RowEnd}
use Rattle.attempt_ledger.specs.declared.row.RowKind.{RowKind}
use Rattle.grpc_base.specs.declared.event.ConfigFault.{ConfigFault}
use Rattle.grpc_base.specs.declared.event.Event.{Event}
use Rattle.grpc_base.specs.declared.event.Event.TheVariants as event
use Rattle.grpc_base.specs.declared.event.Reply.TheVariants as reply
use Rattle.grpc_base.specs.declared.plan.Throttle.{Throttle}
use Rattle.h2_frame.specs.Frames.{FrameSeen}
use Rattle.h2_frame.specs.Numbers.{headers_type}
use Rattle.net_actions.specs.Sees.{Sees}
use Rattle.net_actions.specs.NetFrames.Frames.{IsSameNet, is_of_net}
use Rattle.net_actions.specs.NetFrames.Laws.{NetIsLeft, NetStays, NetStaysAlong, SameNetsAgree}
use Rattle.service_config.specs.declared.config.Config.{Config}
use Rattle.session_actions.specs.Actions.{after, after_if, after_in}
use Rattle.session_actions.specs.AttemptEnds.{attempt_ended_as, stream_reset_of, with_end_in_run}
use Rattle.session_actions.specs.Attempts.{call_of, is_to_follow, marked_row, with_attempt}
use Rattle.session_actions.specs.Calls.{marked}
use Rattle.session_actions.specs.Commitments.{with_commitment}
use Rattle.session_actions.specs.Configs.{config_of_call, config_read, resolver_answered, run_to_join, with_held, with_throttled}
use Rattle.session_actions.specs.Deliveries.{call_begun_by}
use Rattle.session_actions.specs.Entries.{entry, replied}
use Rattle.session_actions.specs.Making.{attempt_made, new_row, with_row, without_turn_unless}
use Rattle.session_actions.specs.Policies.{with_placing}
use Rattle.session_actions.specs.Words.{changed, numbered}
use Rattle.session_actions.specs.Writing.{frame_read_on, frame_written_on, stream_opened, stream_opened_by, waiting_on, with_stream}
use Rattle.session_actions.specs.declared.action.Action.{Action}
use Rattle.session_actions.specs.declared.action.Action.TheVariants as action
use Rattle.session_actions.specs.declared.attempt.Attempt.{Attempt}
use Rattle.session_actions.specs.declared.call.Call.{Call}
use Rattle.session_actions.specs.declared.call.MarkKind.{MarkKind}
use Rattle.session_actions.specs.declared.call.MarkKind.TheVariants as mark
use Rattle.session_actions.specs.declared.config.ThrottleRun.{ThrottleRun}
use Rattle.session_actions.specs.declared.entry.OpenEntry.{OpenEntry}
use Rattle.session_actions.specs.declared.link.Link.{Link}
use Rattle.session_actions.specs.declared.link.Sent.{Sent}
use Rattle.session_actions.specs.declared.link.Sent.TheVariants as sent
use Rattle.session_actions.specs.declared.policy.PolicyUse.{PolicyUse}
use Rattle.session_actions.specs.declared.seen.Seen.{Seen}
use Rattle.session_actions.specs.declared.seen.Setup.{Setup}
use Rattle.session_actions.specs.declared.subchannel.Subchannel.{Subchannel}

pub same_or : {X : Type 0} (s : Seen) (f : X → Seen) → ((x : X) → IsSameNet s (f x)) → (o : Option X) → IsSameNet s (option_map_or f o s)
same_or s f each None = record { setup = refl; asks = refl; policies = refl; subs = refl }
same_or s f each (Some x) = each x

pub then_net : (s t u : Seen) → IsSameNet s t → IsSameNet t u → IsSameNet s u
then_net s t u f g = record { setup = g.setup ∙ f.setup; asks = g.asks ∙ f.asks; policies = g.policies ∙ f.policies; subs = g.subs ∙ f.subs }

module _ (s : Seen) where
  same : IsSameNet s s
  same = record { setup = refl; asks = refl; policies = refl; subs = refl }

  begun : (e : Event) → IsSameNet s (call_begun_by e s)
  begun (event.Begin request) = record { setup = refl; asks = refl; policies = refl; subs = refl }
  begun _ = same

  turned : (b : Bool) → IsSameNet s (without_turn_unless b s)
  turned true = same
  turned false = record { setup = refl; asks = refl; policies = refl; subs = refl }

  throttled : (config : Config) (t : Throttle) (o : Option ℕ) → IsSameNet s (with_throttled config t o s)
  throttled config t (Some run) = record { setup = refl; asks = refl; policies = refl; subs = refl }
  throttled config t None = record { setup = refl; asks = refl; policies = refl; subs = refl }

  held : (config : Config) (o : Option Throttle) → IsSameNet s (with_held config o s)
  held config None = record { setup = refl; asks = refl; policies = refl; subs = refl }
  held config (Some t) = throttled config t (run_to_join t s)

  run_step : (place : ℕ) (b : Bool) (o : Option ℕ)
      → IsSameNet s (if b then option_map_or (λ (run : ℕ). record s { runs = changed (λ (u : ThrottleRun). record u { ends = u.ends ++ place ∷ [] }) run s.runs }) o s else s)
  run_step place true o =
      same_or s (λ (run : ℕ). record s { runs = changed (λ (u : ThrottleRun). record u { ends = u.ends ++ place ∷ [] }) run s.runs })
      (λ run. record { setup = refl; asks = refl; policies = refl; subs = refl }) o
  run_step place false o = same

  counted : (a : Attempt) (e : RowEnd) (c : Call) → IsSameNet s (with_end_in_run a e s c)
  counted a e c = run_step a.place (not (is_cut e.cause) && not (is_to_follow c e.cause e.unseen s)) (option_and_then (λ h. h.run) (config_of_call c s))

  ended : (e : RowEnd) (a : Attempt) → IsSameNet s (attempt_ended_as e s a)
  ended e a =
      let z : Seen = option_map_or (with_end_in_run a e s) (call_of a s) s in
      then_net s z (attempt_ended_as e s a) (same_or s (with_end_in_run a e s) (counted a e) (call_of a s)) (record { setup = refl; asks = refl; policies = refl; subs = refl })

  streamed : (f : FrameSeen) (o : Option Attempt) → IsSameNet s (option_map_or (λ (a : Attempt). with_attempt (with_stream f.stream) a.place s) o s)
  streamed f o = same_or s (λ (a : Attempt). with_attempt (with_stream f.stream) a.place s) (λ a. record { setup = refl; asks = refl; policies = refl; subs = refl }) o

  open_if : (f : FrameSeen) (l : Link) (b : Bool) → IsSameNet s (if b then stream_opened f l s else s)
  open_if f l true = streamed f (slice_get (waiting_on l s) 0)
  open_if f l false = same

  opens : (x : Sent) (l : Link) → IsSameNet s (stream_opened_by x l s)
  opens sent.Preface l = same
  opens (sent.Frame f) l = open_if f l (f.kind == headers_type)

  written : (x : Sent) (l : Link) → IsSameNet s (frame_written_on x s l)
  written x l = then_net s (stream_opened_by x l s) (frame_written_on x s l) (opens x l) (record { setup = refl; asks = refl; policies = refl; subs = refl })

  row_changed : (f : Attempt → Attempt) (what : MarkKind) (place : ℕ) → IsSameNet s (marked_row what place (with_attempt f place s))
  row_changed f what place =
      then_net s (with_attempt f place s) (marked_row what place (with_attempt f place s)) (record { setup = refl; asks = refl; policies = refl; subs = refl })
      (same_or (with_attempt f place s) (λ (a : Attempt). marked what a.row.call (with_attempt f place s)) (λ a. record { setup = refl; asks = refl; policies = refl; subs = refl })
      (numbered (with_attempt f place s).attempts place))

config_is_read : (s : Seen) (x : Result Config ConfigFault) → IsSameNet s (config_read x s)
config_is_read s (Ok config) =
    let z : Seen = replied reply.Done (resolver_answered s) in
    then_net s z (config_read (Ok config) s) (record { setup = refl; asks = refl; policies = refl; subs = refl }) (held z config config.throttle)
config_is_read s (Err fault) = record { setup = refl; asks = refl; policies = refl; subs = refl }

is_made : (s : Seen) (n number : ℕ) (k : RowKind) (due : ℕ) → IsSameNet s (attempt_made n number k due s)
is_made s n number k due =
    let v : Seen = marked (mark.Made (length s.attempts + 1)) n (with_row (new_row n number k due) s) in
    then_net s v (attempt_made n number k due s) (record { setup = refl; asks = refl; policies = refl; subs = refl }) (turned v (is_transparent k))

act : (s : Seen) (o : OpenEntry) (a : Action) → is_of_net a ≡ false → IsSameNet s (after_in o a s)
act s o (action.EntryOpens posted word e) off = same s
act s o (action.EventRefused why) off = record { setup = refl; asks = refl; policies = refl; subs = refl }
act s o (action.EventAnswered r) off = record { setup = refl; asks = refl; policies = refl; subs = refl }
act s o action.SettlingBegins off = record { setup = refl; asks = refl; policies = refl; subs = refl }
act s o action.EntryCloses off = record { setup = refl; asks = refl; policies = refl; subs = refl }
act s o action.CallBegins off = begun s o.event
act s o (action.MessageAccepted n) off = record { setup = refl; asks = refl; policies = refl; subs = refl }
act s o (action.RequestFinished n) off = record { setup = refl; asks = refl; policies = refl; subs = refl }
act s o (action.ItemTaken n item) off = record { setup = refl; asks = refl; policies = refl; subs = refl }
act s o (action.CallEnds n why) off = record { setup = refl; asks = refl; policies = refl; subs = refl }
act s o (action.ConfigRead x) off = config_is_read s x
act s o action.ResolutionFailed off = record { setup = refl; asks = refl; policies = refl; subs = refl }
act s o (action.CallConfigured n config) off = record { setup = refl; asks = refl; policies = refl; subs = refl }
act s o (action.AttemptMade n number k due) off = is_made s n number k due
act s o (action.HedgeWithheld n) off = record { setup = refl; asks = refl; policies = refl; subs = refl }
act s o (action.AttemptPlaced place at) off = row_changed s (with_placing at) (mark.Placed place) place
act s o (action.AttemptEnds place e) off = same_or s (attempt_ended_as e s) (ended s e) (numbered s.attempts place)
act s o (action.CallCommitted place why) off = row_changed s (with_commitment (entry s)) mark.Committed place
act s o (action.StreamReset place number) off =
    same_or s (stream_reset_of number s) (λ a. record { setup = refl; asks = refl; policies = refl; subs = refl }) (numbered s.attempts place)
act s o (action.BytesArrive link) off = record { setup = refl; asks = refl; policies = refl; subs = refl }
act s o (action.FrameRead link r) off =
    same_or s (frame_read_on r s) (λ l. record { setup = refl; asks = refl; policies = refl; subs = refl }) (numbered s.links link)
act s o (action.LinkBreaks link number) off = record { setup = refl; asks = refl; policies = refl; subs = refl }
act s o (action.LinkLost link) off = record { setup = refl; asks = refl; policies = refl; subs = refl }
act s o (action.PingQueued link) off = record { setup = refl; asks = refl; policies = refl; subs = refl }
act s o (action.FrameWritten link x) off = same_or s (frame_written_on x s) (written s x) (numbered s.links link)
act s o action.ChannelShuts off = record { setup = refl; asks = refl; policies = refl; subs = refl }
act s o (action.PickRequested row generation answer) off = absurd (cc)
act s o (action.PolicyBegins k) off = absurd (cc)
act s o (action.AddressesGiven generation) off = absurd (cc)
act s o (action.PolicyTakesOver generation) off = absurd (cc)
act s o (action.PolicyRetired generation) off = absurd (cc)
act s o (action.SubchannelAdded address) off = absurd (cc)
act s o (action.SubchannelShut sub) off = absurd (cc)
act s o (action.SubchannelConnects sub) off = absurd (cc)
act s o (action.DialTaken sub again until) off = absurd (cc)
act s o (action.DialFails sub) off = absurd (cc)
act s o (action.ConnectTimesOut sub) off = absurd (cc)
act s o (action.BackoffEnds sub) off = absurd (cc)
act s o (action.LinkUp sub) off = absurd (cc)
act s o (action.SettingsArrive sub) off = absurd (cc)
act s o (action.LinkDown sub) off = absurd (cc)

act_if : (s : Seen) (o : Option OpenEntry) (a : Action) → is_of_net a ≡ false → IsSameNet s (after_if o a s)
act_if s (Some o) a off = act s o a off
act_if s None (action.EntryOpens posted word e) off = record { setup = refl; asks = refl; policies = refl; subs = refl }
act_if s None _ off = same s

pub one_left : (s : Seen) (a : Action) → is_of_net a ≡ false → IsSameNet s (after a s)
one_left s a off = act_if s s.current a off

neither : (a b : Bool) → (a || b) ≡ false → (a ≡ false) × (b ≡ false)
neither true b e = absurd (cc)
neither false b e = (refl, e)

pub net_is_left : NetIsLeft
net_is_left [] s t off does = subst (IsSameNet s) (sym does) (same s)
net_is_left (a ∷ actions) s t off does =
    let both = neither (is_of_net a) (list_any is_of_net actions) off in
    then_net s (after a s) t (one_left s a both.0) (net_is_left actions (after a s) t both.1 does.1)

pub same_nets_agree : SameNetsAgree
same_nets_agree s t n e h =
    subst (λ (subs : List Subchannel). Sees (record s { setup = t.setup; asks = t.asks; policies = t.policies; subs = subs }) n) (sym e.subs)
    (subst (λ (policies : List PolicyUse). Sees (record s { setup = t.setup; asks = t.asks; policies = policies }) n) (sym e.policies)
    (subst (λ (asks : List Ask). Sees (record s { setup = t.setup; asks = asks }) n) (sym e.asks)
    (subst (λ (setup : Setup). Sees (record s { setup = setup }) n) (sym e.setup) h)))

pub net_stays : NetStays
net_stays s a n off h = same_nets_agree s (after a s) n (one_left s a off) h

pub net_stays_along : NetStaysAlong
net_stays_along actions s t n off does h = same_nets_agree s t n (net_is_left actions s t off does) h
