-- Parts of the definitions, as the programs of this crate read them. Nobody has to believe them.
use Rattle.std.specs.Option.{option_map_or}
use Rattle.std.specs.Prelude.{None, Option, Some, [], if◌then◌else◌, is_some, not, option_and_then, ℕ, ◌&&◌, ◌++◌, ◌∷◌}
use Rattle.attempt_ledger.specs.Ends.{is_cut}
use Rattle.attempt_ledger.specs.declared.row.RowEnd.{RowEnd}
use Rattle.grpc_base.specs.Requests.{RequestSeen}
use Rattle.grpc_base.specs.declared.event.Event.{Event}
use Rattle.session_actions.specs.AttemptEnds.{with_end}
use Rattle.session_actions.specs.Attempts.{call_of, is_to_follow, with_attempt}
use Rattle.session_actions.specs.Calls.{marked}
use Rattle.session_actions.specs.Configs.{config_of_call}
use Rattle.session_actions.specs.Entries.{drawn_if, replied}
use Rattle.session_actions.specs.Subchannels.{gone_down, in_state, new_link, noted_by_policies, with_dial, with_sub, without_link}
use Rattle.session_actions.specs.Words.{changed}
use Rattle.session_actions.specs.declared.attempt.Attempt.{Attempt}
use Rattle.session_actions.specs.declared.call.Call.{Call}
use Rattle.session_actions.specs.declared.seen.Seen.{Seen}
use Rattle.session_actions.specs.declared.subchannel.Subchannel.{Subchannel}
use Rattle.slow_changes.specs.declared.subs.SubChange.{SubChange}
use Rattle.grpc_base.specs.declared.event.Conn.TheVariants as conn
use Rattle.grpc_base.specs.declared.event.Event.TheVariants as event
use Rattle.session_actions.specs.declared.call.MarkKind.TheVariants as mark
use Rattle.grpc_base.specs.declared.event.Reply.TheVariants as reply
use Rattle.slow_changes.specs.declared.subs.SubChange.TheVariants as change

-- how a subchannel changes
abbrev pub sub_change : SubChange → Subchannel → Subchannel
sub_change (change.State state) b = in_state state b
sub_change (change.Unlinked state) b = without_link state b
sub_change change.Ready b = record b { state = conn.Ready; dials = 0; until = None }
sub_change change.Down b = gone_down b
sub_change (change.Dial again until) b = with_dial again until b
sub_change (change.Link number) b = record b { link = Some number }

-- the policies note the state of a subchannel, if there is one
abbrev pub noted_for : Option Subchannel → Seen → Seen
noted_for None s = s
noted_for (Some b) s = noted_by_policies b s

-- the request of a call that begins
abbrev pub request_in : Event → Option RequestSeen
request_in (event.Begin request) = Some request
request_in _ = None

-- the run whose bucket an end of an attempt changes, where it counts
abbrev pub run_in_call : RowEnd → Seen → Call → Option ℕ
run_in_call e s c =
    if not (is_cut e.cause) && not (is_to_follow c e.cause e.unseen s) then option_and_then (λ h. h.run) (config_of_call c s)
    else None

abbrev pub run_of_end : Attempt → RowEnd → Seen → Option ℕ
run_of_end a e s = option_and_then (run_in_call e s) (call_of a s)

-- an end joins those of a run, if there is one
abbrev pub with_run_end : Option ℕ → ℕ → Seen → Seen
with_run_end run place s =
    record s { runs = option_map_or (λ n. changed (λ u. record u { ends = u.ends ++ place ∷ [] }) n s.runs) run s.runs }

-- an attempt at a place ends, of this call and, where its end counts, for this run
abbrev pub ended_as : ℕ → ℕ → Option ℕ → RowEnd → Seen → Seen
ended_as place call run e s =
    drawn_if (is_some e.word) (marked (mark.Ended place) call (with_attempt (with_end e) place (with_run_end run place s)))

-- the dial of a subchannel is the link of this number
abbrev pub linked : ℕ → ℕ → Seen → Seen
linked number sub s =
    replied (reply.Link number)
    (with_sub (λ b. record b { link = Some number }) sub (record s { links = s.links ++ new_link number sub s ∷ [] }))
