-- Where calls change, but not the longest message that each may get, responses stay the same, and with them the ends and resets that they bring.
use Rattle.std.proofs.Common.{◌≡◌, ◌||◌, ◌&&◌, ◌==◌, not, ap, refl, Bool, List, Option, None, Some, ℕ, if◌then◌else◌, is_some}
use Rattle.std.specs.List.{list_any}
use Rattle.std.specs.Option.{option_and_then, option_map_or, option_or}
use Rattle.attempt_ledger.specs.declared.row.RowEnd.{RowEnd}
use Rattle.grpc_base.specs.ErrorCodes.{cancel}
use Rattle.session_actions.specs.AttemptEnds.{code_at_end, code_for_stream, code_to_reset, is_framing, is_reset, lost_end, outcome_of, outcome_on, reset_code_of}
use Rattle.session_actions.specs.Attempts.{commitment, is_outstanding}
use Rattle.session_actions.specs.CallEnds.{has_long_response}
use Rattle.session_actions.specs.Calls.{is_open_call}
use Rattle.session_actions.specs.Commitments.{has_head_in, is_free_call}
use Rattle.session_actions.specs.Entries.{entry}
use Rattle.session_actions.specs.Links.{has_written_end, link_of}
use Rattle.session_actions.specs.Responses.{limit_of_attempt, no_response, response, response_by, response_in, response_on, traffic_of}
use Rattle.session_actions.specs.declared.attempt.Attempt.{Attempt}
use Rattle.session_actions.specs.declared.call.Call.{Call}
use Rattle.session_actions.specs.declared.link.Link.{Link}
use Rattle.session_actions.specs.declared.response.Response.{Response}
use Rattle.session_actions.specs.declared.seen.Seen.{Seen}
use Rattle.session_order.proofs.Lists.{any_same, holds_same}
use Rattle.session_order.specs.Quiescent.{is_to_reset}

-- two functions that agree
pub then_same : {X Y : Type 0} (g h : X → Option Y) → ((x : X) → g x ≡ h x) → (o : Option X) → option_and_then g o ≡ option_and_then h o
then_same g h same None = refl
then_same g h same (Some x) = same x

or_same : {X Y : Type 0} (g h : X → Y) (d : Y) → ((x : X) → g x ≡ h x) → (o : Option X) → option_map_or g o d ≡ option_map_or h o d
or_same g h d same None = refl
or_same g h d same (Some x) = same x

-- the code of a reset, by the response
unfoldable pub code_with : Attempt → RowEnd → ℕ → Link → Response → Option ℕ
code_with a e stream l r =
    if is_reset e.cause || is_some l.over || (has_written_end stream l && r.closes) then None
    else if is_framing e.cause then option_and_then (λ t. t.reset) r.end
    else Some cancel

module _ (s : Seen) (cs : List Call) (limits : (a : Attempt) → limit_of_attempt a (record s { calls = cs }) ≡ limit_of_attempt a s) where
  abbrev t : Seen
  t = record s { calls = cs }

  response_one : (a : Attempt) (o : Option ℕ) → response_by a t o ≡ response_by a s o
  response_one a None = refl
  response_one a (Some stream) =
      or_same (response_on a stream t) (response_on a stream s) no_response
      (λ l. ap (λ (limit : ℕ). response_in limit stream (traffic_of a l.traffic)) (limits a)) (link_of a s)

  pub response_same : (a : Attempt) → response a t ≡ response a s
  response_same a = response_one a a.row.stream

  outcome_one : (a : Attempt) (o : Option ℕ) (l : Link) → outcome_on a t o l ≡ outcome_on a s o l
  outcome_one a None l = refl
  outcome_one a (Some stream) l = ap (λ (r : Response). option_or r.end (if is_some l.over then Some lost_end else None)) (response_same a)

  pub outcome_same : (a : Attempt) → outcome_of a t ≡ outcome_of a s
  outcome_same a = then_same (outcome_on a t a.row.stream) (outcome_on a s a.row.stream) (outcome_one a a.row.stream) (link_of a s)

  code_same : (a : Attempt) (e : RowEnd) (stream : ℕ) (l : Link) → code_to_reset a e stream t l ≡ code_to_reset a e stream s l
  unfolding code_with
  code_same a e stream l = ap (code_with a e stream l) (response_same a)

  reset_same : (a : Attempt) → reset_code_of t a ≡ reset_code_of s a
  reset_same a =
      then_same (code_at_end a t) (code_at_end a s)
      (λ e. then_same (code_for_stream a e t) (code_for_stream a e s)
      (λ stream. ap (λ (x : Option ℕ). if (e.entry == entry s) && not a.reset then x else None)
      (then_same (code_to_reset a e stream t) (code_to_reset a e stream s) (code_same a e stream) (link_of a s))) a.row.stream) a.row.ended

  pub limits_reset : list_any (is_to_reset t) s.attempts ≡ list_any (is_to_reset s) s.attempts
  limits_reset = any_same (is_to_reset t) (is_to_reset s) (λ a. ap (λ (x : Option ℕ). is_some x) (reset_same a)) s.attempts

  pub headed_in : (a : Attempt) (c : Call) → has_head_in a t c ≡ has_head_in a s c
  headed_in a c = ap (λ (r : Response). is_free_call s c && is_some r.head) (response_same a)

  pub long_response : (c : Call) → has_long_response t c ≡ has_long_response s c
  long_response c =
      ap (λ (x : Bool). is_open_call c && x)
      (holds_same (λ (k : Attempt). is_outstanding k && (response k t).large) (λ (k : Attempt). is_outstanding k && (response k s).large)
      (λ k. ap (λ (r : Response). is_outstanding k && r.large) (response_same k)) (commitment c s))
