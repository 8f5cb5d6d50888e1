-- When nothing follows at once from what has happened: what is next is then the stage's alone (deadlines, the event, its frames, what is due).
-- Example: call 1 is committed to attempt 2, whose response goes on; attempt 1 was cut off, and its stream reset. Its subchannel is READY, and its
-- policy lists its address alone. The session is quiescent. Then trailers of attempt 2 are read: it is outstanding and its response has an end, so the
-- session is not quiescent, and attempt 2 ends.
use Rattle.std.specs.List.{list_any}
use Rattle.std.specs.Prelude.{Bool, List, false, is_none, is_some, nat_lt, not, true, ℕ, ◌&&◌, ◌==◌, ◌||◌, ◌≡◌}
use Rattle.attempt_ledger.specs.declared.ledger.Ask.{Ask}
use Rattle.grpc_base.specs.declared.kind.Kind.{Kind}
use Rattle.grpc_base.specs.declared.kind.Pick.{Pick}
use Rattle.session_actions.specs.AttemptEnds.{outcome_of, reset_code_of}
use Rattle.session_actions.specs.Attempts.{is_of, is_outstanding, is_over, wants_follower}
use Rattle.session_actions.specs.CallEnds.{has_long_request, has_long_response, is_cancelled, is_over_by_row, is_shut_down}
use Rattle.session_actions.specs.Commitments.{is_final_end, is_free_call, is_headed, is_inherited}
use Rattle.session_actions.specs.Entries.{entry}
use Rattle.session_actions.specs.Policies.{is_same_kind, is_to_retire, is_unfollowed, listed, live_policies, live_sub, wanted_kind, wants_addresses}
use Rattle.session_actions.specs.Subchannels.{is_to_be_ready, is_to_go_down, is_unlisted}
use Rattle.session_actions.specs.Words.{holds, last_of, numbered}
use Rattle.session_actions.specs.Writing.{accepted_bytes}
use Rattle.session_actions.specs.declared.attempt.Attempt.{Attempt}
use Rattle.session_actions.specs.declared.call.Call.{Call}
use Rattle.session_actions.specs.declared.entry.OpenEntry.{OpenEntry}
use Rattle.session_actions.specs.declared.seen.Seen.{Seen}
use Rattle.session_actions.specs.declared.subchannel.Subchannel.{Subchannel}
use Rattle.session_order.specs.declared.line.Line.{Line}
use Rattle.grpc_base.specs.declared.kind.Pick.TheVariants as pick
use Rattle.session_order.specs.declared.line.Line.TheVariants as line

-- none of these passes a test
abbrev pub NoneIs : {X : Type 0} → (X → Bool) → List X → Type 0
NoneIs test xs = list_any test xs ≡ false

-- an attempt goes on whose call has ended, or is committed to another one (gRFC A6, "When Retries are Valid")
abbrev pub is_to_cut : Seen → Attempt → Bool
is_to_cut s a = is_outstanding a && is_over a s

-- a call that is open and not committed has accepted more bytes than are kept for attempts to come, and an attempt goes on (gRFC A6, "Memory
-- Management (Buffering)")
abbrev pub has_outstanding : Call → Seen → Bool
has_outstanding c s = list_any (λ a. is_of c a && is_outstanding a) s.attempts

abbrev pub is_overflowing : Seen → Call → Bool
is_overflowing s c = is_free_call s c && nat_lt 262144 (accepted_bytes c) && has_outstanding c s

-- a pick request of this entry was answered, and its attempt is neither placed nor ended (gRPC, "Load Balancing in gRPC")
abbrev pub can_follow : Seen → Pick → Bool
can_follow s (pick.Place sub) = is_some (numbered s.subs sub)
can_follow s pick.Fail = true
can_follow s pick.Wait = false

abbrev pub is_unplaced : Seen → ℕ → Bool
is_unplaced s row = holds is_unfollowed (numbered s.attempts row)

abbrev pub is_to_follow_pick : Seen → Ask → Bool
is_to_follow_pick s ask = is_unplaced s ask.row && (ask.entry == entry s) && can_follow s ask.answer

-- the server's SETTINGS came on the link of a subchannel that is CONNECTING; or the link of a subchannel is over, or takes no further stream (RFC 9113,
-- sections 3.4 and 6.8; "gRPC Connectivity Semantics and API")
abbrev pub is_link_new : Seen → Subchannel → Bool
is_link_new s b = is_to_be_ready s b || is_to_go_down s b

-- an attempt goes on whose response has an end, or whose link is over, or that waits for a stream on a link that takes none (gRPC over HTTP/2,
-- "Responses" and "Errors"; RFC 9113, section 6.8)
abbrev pub is_to_end : Seen → Attempt → Bool
is_to_end s a = (is_outstanding a && not (is_over a s)) && is_some (outcome_of a s)

-- RST_STREAM is owed for the stream of an attempt that ended (RFC 9113, section 5.4.2)
abbrev pub is_to_reset : Seen → Attempt → Bool
is_to_reset s a = is_some (reset_code_of s a)

-- no live policy is of the kind that the held config names
abbrev pub lacks_kind : Seen → Kind → Bool
lacks_kind s k = not (list_any (λ g. is_same_kind g.generation.kind k) (live_policies s))

-- what it means that a line gives nothing
abbrev pub IsStill : Line → OpenEntry → Seen → Type 0
IsStill line.Cut o s = NoneIs (is_to_cut s) s.attempts
-- no attempt ended that is to be retried transparently, and was not yet (gRFC A6, "Transparent Retries")
IsStill line.Transparent o s = NoneIs (λ a. wants_follower a s) s.attempts
-- each transparent retry of the attempt to which its open call is committed has the commitment
IsStill line.Inherited o s = NoneIs (is_inherited s) s.attempts
-- no open call is committed to an attempt whose end counts
IsStill line.Row o s = NoneIs (is_over_by_row s) s.calls
-- no end that no further attempt follows is of an open call without commitment (gRFC A6, "Summary of Retry and Hedging Logic")
IsStill line.Final o s = NoneIs (is_final_end s) s.attempts
-- no open call was cancelled in this entry; none was sent a message longer than allowed; no message of a response is longer than allowed
IsStill line.Cancelled o s = NoneIs (is_cancelled o) s.calls
IsStill line.Request o s = NoneIs (has_long_request o s) s.calls
IsStill line.Response o s = NoneIs (has_long_response s) s.calls
IsStill line.Overflow o s = NoneIs (is_overflowing s) s.calls
-- no attempt goes on whose response has a head, while its call is open and not committed (gRFC A6, "When Retries are Valid")
IsStill line.Head o s = NoneIs (is_headed s) s.attempts
IsStill line.Pick o s = holds (is_to_follow_pick s) (last_of s.asks) ≡ false
IsStill line.Link o s = NoneIs (is_link_new s) s.subs
IsStill line.WireEnd o s = NoneIs (is_to_end s) s.attempts
IsStill line.Reset o s = NoneIs (is_to_reset s) s.attempts
-- no call is open once the channel was shut down
IsStill line.Shut o s = NoneIs (is_shut_down s) s.calls
-- no policy is live once the channel was shut down, nor a pending one of another kind than a result has just named; of that kind one is live, and has
-- the addresses of the result (gRPC, "Service Config in gRPC": loadBalancingConfig; "Load Balancing in gRPC")
IsStill line.Retire o s = NoneIs (is_to_retire o s) s.policies
IsStill line.Begin o s = holds (lacks_kind s) (wanted_kind o s) ≡ false
IsStill line.Give o s = NoneIs (wants_addresses o s) s.policies
-- each live subchannel is of an address that a live policy lists, and each such address has one
IsStill line.Drop o s = NoneIs (is_unlisted s) s.subs
IsStill line.Add o s = NoneIs (λ address. is_none (live_sub s address)) (listed s)

-- nothing follows at once
abbrev pub IsQuiescent : OpenEntry → Seen → Type 0
IsQuiescent o s = (l : Line) → IsStill l o s
