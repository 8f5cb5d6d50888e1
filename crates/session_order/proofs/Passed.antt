-- What is queued on links, the bytes that came and that were not read, and that a link is gone, stirs no line.
use Rattle.std.proofs.Common.{◌≡◌, ◌||◌, ◌&&◌, ◌==◌, not, ap, refl, ◌∙◌, Bool, List, Option, None, Some, ℕ, if◌then◌else◌, is_some}
use Rattle.std.specs.List.{list_any}
use Rattle.std.specs.Option.{option_and_then, option_map, option_map_or, option_or}
use Rattle.attempt_ledger.specs.declared.row.Placed.{Placed}
use Rattle.attempt_ledger.specs.declared.row.RowEnd.{RowEnd}
use Rattle.h2_frame.specs.Frames.{FrameSeen}
use Rattle.session_actions.specs.AttemptEnds.{code_at_end, code_for_stream, code_to_reset, lost_end, outcome_of, outcome_on, reset_code_of}
use Rattle.session_actions.specs.Attempts.{commitment, is_outstanding, is_over}
use Rattle.session_actions.specs.CallEnds.{has_long_response}
use Rattle.session_actions.specs.Calls.{is_open_call}
use Rattle.session_actions.specs.Commitments.{has_head_in, is_free_call, is_headed}
use Rattle.session_actions.specs.Entries.{entry}
use Rattle.session_actions.specs.Links.{has_settings, link_of}
use Rattle.session_actions.specs.Responses.{no_response, response, response_by, response_on}
use Rattle.session_actions.specs.Subchannels.{is_connecting, is_going_down, is_to_be_ready, is_to_go_down}
use Rattle.session_actions.specs.Words.{holds, numbered}
use Rattle.session_actions.specs.declared.attempt.Attempt.{Attempt}
use Rattle.session_actions.specs.declared.link.Link.{Link}
use Rattle.session_actions.specs.declared.response.Outcome.{Outcome}
use Rattle.session_actions.specs.declared.response.Response.{Response}
use Rattle.session_actions.specs.declared.seen.Seen.{Seen}
use Rattle.session_order.proofs.Lists.{any_same, holds_same}
use Rattle.session_order.proofs.Limits.{code_with, then_same}
use Rattle.session_order.specs.Quiescent.{is_link_new, is_to_end, is_to_reset}

-- the same links, of which the one of each number has these frames owed, these bytes received, and is gone or not
abbrev pub kept : (ℕ → Link → List FrameSeen) → (ℕ → Link → List ℕ) → (ℕ → Link → Option ℕ) → ℕ → Link → Link
kept owed received gone k l = record l { owed = owed k l; received = received k l; gone = gone k l }

module _ (s : Seen) (links : List Link) (owed : ℕ → Link → List FrameSeen) (received : ℕ → Link → List ℕ) (gone : ℕ → Link → Option ℕ)
    (same : (k : ℕ) → numbered links k ≡ option_map (kept owed received gone k) (numbered s.links k)) where
  abbrev t : Seen
  t = record s { links = links }

  over_option : {Y : Type 0} (h : Option Link → Y) (k : ℕ) → ((l : Link) → h (Some (kept owed received gone k l)) ≡ h (Some l)) → (o : Option Link)
      → h (option_map (kept owed received gone k) o) ≡ h o
  over_option h k agree None = refl
  over_option h k agree (Some l) = agree l

  look : {Y : Type 0} (h : Option Link → Y) → ((k : ℕ) (l : Link) → h (Some (kept owed received gone k l)) ≡ h (Some l)) → (k : ℕ)
      → h (numbered links k) ≡ h (numbered s.links k)
  look h agree k = ap h (same k) ∙ over_option h k (agree k) (numbered s.links k)

  look_placed : {Y : Type 0} (h : Option Link → Y) → ((k : ℕ) (l : Link) → h (Some (kept owed received gone k l)) ≡ h (Some l)) → (p : Option Placed)
      → h (option_and_then (λ (at : Placed). numbered links at.link) p) ≡ h (option_and_then (λ (at : Placed). numbered s.links at.link) p)
  look_placed h agree None = refl
  look_placed h agree (Some at) = look h agree at.link

  response_one : (a : Attempt) (o : Option ℕ) → response_by a t o ≡ response_by a s o
  response_one a None = refl
  response_one a (Some stream) = look_placed (λ (o : Option Link). option_map_or (response_on a stream s) o no_response) (λ k l. refl) a.row.placed

  response_same : (a : Attempt) → response a t ≡ response a s
  response_same a = response_one a a.row.stream

  pub passed_head : list_any (is_headed t) s.attempts ≡ list_any (is_headed s) s.attempts
  passed_head =
      any_same (is_headed t) (is_headed s)
      (λ a. ap (λ (x : Bool). is_outstanding a && x)
      (holds_same (has_head_in a t) (has_head_in a s) (λ c. ap (λ (r : Response). is_free_call s c && is_some r.head) (response_same a))
      (numbered s.calls a.row.call))) s.attempts

  pub passed_response : list_any (has_long_response t) s.calls ≡ list_any (has_long_response s) s.calls
  passed_response =
      any_same (has_long_response t) (has_long_response s)
      (λ c. ap (λ (x : Bool). is_open_call c && x)
      (holds_same (λ (k : Attempt). is_outstanding k && (response k t).large) (λ (k : Attempt). is_outstanding k && (response k s).large)
      (λ k. ap (λ (r : Response). is_outstanding k && r.large) (response_same k)) (commitment c s))) s.calls

  outcome_kept : (a : Attempt) (o : Option ℕ) (k : ℕ) (l : Link) → outcome_on a t o (kept owed received gone k l) ≡ outcome_on a t o l
  outcome_kept a None k l = refl
  outcome_kept a (Some stream) k l = refl

  outcome_one : (a : Attempt) (o : Option ℕ) (l : Link) → outcome_on a t o l ≡ outcome_on a s o l
  outcome_one a None l = refl
  outcome_one a (Some stream) l = ap (λ (r : Response). option_or r.end (if is_some l.over then Some lost_end else None)) (response_same a)

  outcome_same : (a : Attempt) → outcome_of a t ≡ outcome_of a s
  outcome_same a =
      look_placed (option_and_then (outcome_on a t a.row.stream)) (outcome_kept a a.row.stream) a.row.placed
      ∙ then_same (outcome_on a t a.row.stream) (outcome_on a s a.row.stream) (outcome_one a a.row.stream) (link_of a s)

  pub passed_end : list_any (is_to_end t) s.attempts ≡ list_any (is_to_end s) s.attempts
  passed_end =
      any_same (is_to_end t) (is_to_end s)
      (λ a. ap (λ (x : Option Outcome). (is_outstanding a && not (is_over a s)) && is_some x) (outcome_same a)) s.attempts

  code_same : (a : Attempt) (e : RowEnd) (stream : ℕ) (l : Link) → code_to_reset a e stream t l ≡ code_to_reset a e stream s l
  unfolding code_with
  code_same a e stream l = ap (code_with a e stream l) (response_same a)

  reset_same : (a : Attempt) → reset_code_of t a ≡ reset_code_of s a
  reset_same a =
      then_same (code_at_end a t) (code_at_end a s)
      (λ e. then_same (code_for_stream a e t) (code_for_stream a e s)
      (λ stream. ap (λ (x : Option ℕ). if (e.entry == entry s) && not a.reset then x else None)
      (look_placed (option_and_then (code_to_reset a e stream t)) (λ k l. refl) a.row.placed
      ∙ then_same (code_to_reset a e stream t) (code_to_reset a e stream s) (code_same a e stream) (link_of a s))) a.row.stream) a.row.ended

  pub passed_reset : list_any (is_to_reset t) s.attempts ≡ list_any (is_to_reset s) s.attempts
  passed_reset = any_same (is_to_reset t) (is_to_reset s) (λ a. ap (λ (x : Option ℕ). is_some x) (reset_same a)) s.attempts

  look_sub : (h : Option Link → Bool) → ((k : ℕ) (l : Link) → h (Some (kept owed received gone k l)) ≡ h (Some l)) → (o : Option ℕ)
      → h (option_and_then (numbered links) o) ≡ h (option_and_then (numbered s.links) o)
  look_sub h agree None = refl
  look_sub h agree (Some k) = look h agree k

  pub passed_link : list_any (is_link_new t) s.subs ≡ list_any (is_link_new s) s.subs
  passed_link =
      any_same (is_link_new t) (is_link_new s)
      (λ b. ap (λ (x : Bool). (is_connecting b.state && x) || is_to_go_down t b) (look_sub (holds has_settings) (λ k l. refl) b.link)
      ∙ ap (λ (x : Bool). is_to_be_ready s b || x) (look_sub (holds is_going_down) (λ k l. refl) b.link)) s.subs
