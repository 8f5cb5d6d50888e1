-- The definitions in the steps in which the plain programs compute them.
use Rattle.std.proofs.Common.{◌≡◌, Bool, true, false, Option, Some, None, List, [], ◌∷◌, ◌++◌, refl, ap, sym, ℕ, ◌+◌, length}
use Rattle.std.specs.Option.{option_map_or}
use Rattle.std.specs.Prelude.{if◌then◌else◌, is_some, not, option_and_then, ◌&&◌}
use Rattle.attempt_ledger.specs.Ends.{is_cut}
use Rattle.attempt_ledger.specs.declared.row.RowEnd.{RowEnd}
use Rattle.grpc_base.specs.declared.event.Event.{Event}
use Rattle.session_actions.specs.AttemptEnds.{attempt_ended_as, with_end, with_end_in_run}
use Rattle.session_actions.specs.Attempts.{call_of, is_to_follow, with_attempt}
use Rattle.session_actions.specs.Calls.{marked}
use Rattle.session_actions.specs.Configs.{config_of_call}
use Rattle.session_actions.specs.Deliveries.{call_begun_by}
use Rattle.session_actions.specs.Entries.{drawn_if}
use Rattle.session_actions.specs.Subchannels.{link_up, noted_by_policies, with_sub}
use Rattle.session_actions.specs.Words.{changed, numbered}
use Rattle.session_actions.specs.declared.attempt.Attempt.{Attempt}
use Rattle.session_actions.specs.declared.call.Call.{Call}
use Rattle.session_actions.specs.declared.seen.Seen.{Seen}
use Rattle.session_actions.specs.declared.subchannel.Subchannel.{Subchannel}
use Rattle.grpc_base.specs.declared.event.Event.TheVariants as event
use Rattle.session_actions.specs.declared.call.MarkKind.TheVariants as mark
use Rattle.slow_changes.specs.Parts.{ended_as, linked, noted_for, request_in, run_in_call, run_of_end, with_run_end}

-- the policies note the state of a subchannel, if there is one
noted_is : (o : Option Subchannel) (t : Seen) → noted_for o t ≡ option_map_or (λ b. noted_by_policies b t) o t
noted_is None t = refl
noted_is (Some b) t = refl

pub sub_noted : (f : Subchannel → Subchannel) (sub : ℕ) (s : Seen) → with_sub f sub s ≡ noted_for (numbered (changed f sub s.subs) sub) (record s { subs = changed f sub s.subs })
sub_noted f sub s = sym (noted_is (numbered (changed f sub s.subs) sub) (record s { subs = changed f sub s.subs }))

-- a call begins with the request of its event, if it has one
pub begun_is : (e : Event) (s : Seen) → call_begun_by e s ≡ option_map_or (λ q. call_begun_by (event.Begin q) s) (request_in e) s
begun_is (event.Begin request) s = refl
begun_is _ s = refl

-- an end that counts joins those of its run
by_run : (place : ℕ) (s : Seen) (o : Option ℕ) → with_run_end o place s ≡ option_map_or (λ run. record s { runs = changed (λ u. record u { ends = u.ends ++ place ∷ [] }) run s.runs }) o s
by_run place s None = refl
by_run place s (Some run) = refl

by_test : (place : ℕ) (s : Seen) (b : Bool) (o : Option ℕ) → with_run_end (if b then o else None) place s ≡ (if b then option_map_or (λ run. record s { runs = changed (λ u. record u { ends = u.ends ++ place ∷ [] }) run s.runs }) o s else s)
by_test place s true o = by_run place s o
by_test place s false o = refl

by_call : (a : Attempt) (e : RowEnd) (s : Seen) (o : Option Call) → with_run_end (option_and_then (run_in_call e s) o) a.place s ≡ option_map_or (with_end_in_run a e s) o s
by_call a e s None = refl
by_call a e s (Some c) = by_test a.place s (not (is_cut e.cause) && not (is_to_follow c e.cause e.unseen s)) (option_and_then (λ h. h.run) (config_of_call c s))

end_joins : (a : Attempt) (e : RowEnd) (s : Seen) → with_run_end (run_of_end a e s) a.place s ≡ option_map_or (with_end_in_run a e s) (call_of a s) s
end_joins a e s = by_call a e s (call_of a s)

pub ended_is : (a : Attempt) (e : RowEnd) (s : Seen) → attempt_ended_as e s a ≡ ended_as a.place a.row.call (run_of_end a e s) e s
ended_is a e s = ap (λ (t : Seen). drawn_if (is_some e.word) (marked (mark.Ended a.place) a.row.call (with_attempt (with_end e) a.place t))) (sym (end_joins a e s))

-- a link that comes up has the next number
pub linked_is : (sub : ℕ) (s : Seen) → link_up sub s ≡ linked (length s.links + 1) sub s
linked_is sub s = refl
