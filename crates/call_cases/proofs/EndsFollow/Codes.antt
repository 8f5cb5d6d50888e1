-- The codes with which streams are reset hang on what passed on links, and not on what else a cut or a reset changes.
use Rattle.std.proofs.Common.{◌≡◌, ◌+◌, ◌∷◌, ◌++◌, ◌||◌, ◌&&◌, ◌==◌, not, ap, refl, sym, ◌∙◌, Bool, true, false, List, [], Option, None, Some, ℕ, if◌then◌else◌, is_some, length}
use Rattle.std.proofs.lemmas.Bool.{and_right}
use Rattle.std.specs.Option.{option_and_then, option_map, option_map_or}
use Rattle.attempt_ledger.specs.declared.row.Placed.{Placed}
use Rattle.attempt_ledger.specs.declared.row.RowEnd.{RowEnd}
use Rattle.grpc_base.specs.ErrorCodes.{cancel}
use Rattle.h2_frame.specs.Frames.{FrameSeen}
use Rattle.h2_frame.specs.Sent.{rst_stream_frame}
use Rattle.link_actions.proofs.Ended.{ended_seen, is_ended}
use Rattle.link_actions.specs.Sees.{AttemptsStandInPlace}
use Rattle.link_actions.proofs.ResponseActions.Ended.{limit_ended}
use Rattle.session_actions.specs.AttemptEnds.{attempt_ended, cut_end, end_of, is_framing, is_reset, reset_code_of, stream_reset_of, with_end, with_end_in_run, with_reset_queued}
use Rattle.session_actions.specs.Attempts.{call_of}
use Rattle.session_actions.specs.Entries.{entry}
use Rattle.session_actions.specs.Links.{has_written_end, link_number, link_of, stream_number}
use Rattle.session_actions.specs.Responses.{limit_of_attempt, no_response, response, response_by, response_in, response_on, traffic_of}
use Rattle.session_actions.specs.Words.{numbered}
use Rattle.session_actions.specs.declared.attempt.Attempt.{Attempt}
use Rattle.session_actions.specs.declared.config.ThrottleRun.{ThrottleRun}
use Rattle.session_actions.specs.declared.entry.OpenEntry.{OpenEntry}
use Rattle.session_actions.specs.declared.link.Link.{Link}
use Rattle.session_actions.specs.declared.response.Response.{Response}
use Rattle.session_actions.specs.declared.seen.Seen.{Seen}
use Rattle.session_order.proofs.Changed.{lookup}

-- what a code hangs on
abbrev pub code_in : RowEnd → ℕ → Response → Link → Option ℕ
code_in e n r l =
    if is_reset e.cause || is_some l.over || (has_written_end n l && r.closes) then None
    else if is_framing e.cause then option_and_then (λ t. t.reset) r.end
    else Some cancel

abbrev pub code_for : Attempt → ℕ → Response → List Link → RowEnd → ℕ → Option ℕ
code_for a i r ls e n =
    if (e.entry == i) && not a.reset then option_and_then (code_in e n r) (option_and_then (λ (at : Placed). numbered ls at.link) a.row.placed) else None

abbrev code_from : Attempt → ℕ → Response → List Link → Option ℕ
code_from a i r ls = option_and_then (λ (e : RowEnd). option_and_then (code_for a i r ls e) a.row.stream) a.row.ended

is_code : (s : Seen) (a : Attempt) → reset_code_of s a ≡ code_from a (entry s) (response a s) s.links
is_code s a = refl

same_code : (s u : Seen) (a : Attempt) → entry u ≡ entry s → response a u ≡ response a s → u.links ≡ s.links → reset_code_of u a ≡ reset_code_of s a
same_code s u a now same links =
    is_code u a ∙ ap (λ (i : ℕ). code_from a i (response a u) u.links) now ∙ ap (λ (r : Response). code_from a (entry s) r u.links) same
    ∙ ap (λ (ls : List Link). code_from a (entry s) (response a s) ls) links

-- an attempt ends
pub entry_by : (f : OpenEntry → OpenEntry) (n : ℕ) (o : Option OpenEntry) → n + (if is_some (option_map f o) then 1 else 0) ≡ n + (if is_some o then 1 else 0)
entry_by f n None = refl
entry_by f n (Some o) = refl

pub response_by_limit : (s u : Seen) (a : Attempt) (o : Option ℕ) → u.links ≡ s.links → limit_of_attempt a u ≡ limit_of_attempt a s → response_by a u o ≡ response_by a s o
response_by_limit s u a None links limit = refl
response_by_limit s u a (Some n) links limit =
    ap (λ (k : ℕ). option_map_or (λ (l : Link). response_in k n (traffic_of a l.traffic)) (link_of a u) no_response) limit
    ∙ ap (λ (ls : List Link). option_map_or (response_on a n s) (option_and_then (λ (at : Placed). numbered ls at.link) a.row.placed) no_response) links

pub ended_code : (s : Seen) (t : ℕ) (a : Attempt) (e : RowEnd) → AttemptsStandInPlace 1 s.attempts → numbered s.attempts t ≡ Some a → (b : Attempt)
    → reset_code_of (attempt_ended t e s) b ≡ reset_code_of s b
ended_code s t a e places there b =
    let runs : List ThrottleRun = (option_map_or (with_end_in_run a e s) (call_of a s) s).runs in
    let u : Seen = ended_seen (is_some e.word) a.row.call t e runs s in
    ap (λ (v : Seen). reset_code_of v b) (is_ended s t e a places there)
    ∙ same_code s u b (entry_by _ (length s.entries) s.current)
    (response_by_limit s u b b.row.stream refl (limit_ended s (is_some e.word) a.row.call t e runs b)) refl

-- a stream is reset: what is owed on its link changes, and nothing that passed
module _ (s : Seen) (a : Attempt) (number : ℕ) where
  abbrev frames : List FrameSeen
  frames = rst_stream_frame (stream_number a) number ∷ []

  abbrev owing : Link → Link
  owing l = record l { owed = l.owed ++ frames }

  abbrev u : Seen
  u = stream_reset_of number s a

  response_is : (b : Attempt) (o : Option ℕ) (p : Option Placed) → (p ≡ b.row.placed) → response_by b u o ≡ response_by b s o
  response_is b None p e = refl
  response_is b (Some n) None e =
      ap (λ (q : Option Placed). option_map_or (response_on b n u) (option_and_then (λ (at : Placed). numbered u.links at.link) q) no_response) (sym e)
      ∙ ap (λ (q : Option Placed). option_map_or (response_on b n s) (option_and_then (λ (at : Placed). numbered s.links at.link) q) no_response) e
  response_is b (Some n) (Some at) e =
      ap (λ (q : Option Placed). option_map_or (response_on b n u) (option_and_then (λ (at : Placed). numbered u.links at.link) q) no_response) (sym e)
      ∙ lookup (λ (o : Option Link). option_map_or (response_on b n s) o no_response) owing (λ l. refl) (link_number a) s.links at.link
      ∙ ap (λ (q : Option Placed). option_map_or (response_on b n s) (option_and_then (λ (at : Placed). numbered s.links at.link) q) no_response) e

  pub response_reset : (b : Attempt) → response b u ≡ response b s
  response_reset b = response_is b b.row.stream b.row.placed refl

  link_still : (e : RowEnd) (n : ℕ) (r : Response) (p : Option Placed)
      → option_and_then (code_in e n r) (option_and_then (λ (at : Placed). numbered u.links at.link) p)
      ≡ option_and_then (code_in e n r) (option_and_then (λ (at : Placed). numbered s.links at.link) p)
  link_still e n r None = refl
  link_still e n r (Some at) = lookup (option_and_then (code_in e n r)) owing (λ l. refl) (link_number a) s.links at.link

  code_still : (b : Attempt) (i : ℕ) (r : Response) (e : RowEnd) (o : Option ℕ) → option_and_then (code_for b i r u.links e) o ≡ option_and_then (code_for b i r s.links e) o
  code_still b i r e None = refl
  code_still b i r e (Some n) = ap (λ (z : Option ℕ). if (e.entry == i) && not b.reset then z else None) (link_still e n r b.row.placed)

  end_still : (b : Attempt) (i : ℕ) (r : Response) (o : Option RowEnd)
      → option_and_then (λ (e : RowEnd). option_and_then (code_for b i r u.links e) b.row.stream) o
      ≡ option_and_then (λ (e : RowEnd). option_and_then (code_for b i r s.links e) b.row.stream) o
  end_still b i r None = refl
  end_still b i r (Some e) = code_still b i r e b.row.stream

  pub reset_code : (b : Attempt) → reset_code_of u b ≡ reset_code_of s b
  reset_code b =
      ap (λ (r : Response). code_from b (entry s) r u.links) (response_reset b) ∙ end_still b (entry s) (response b s) b.row.ended

-- an attempt that goes on; one whose stream was reset
pub going_code : (s : Seen) (a : Attempt) → a.row.ended ≡ None → reset_code_of s a ≡ None
going_code s a e = ap (λ (o : Option RowEnd). option_and_then (λ (e : RowEnd). option_and_then (code_for a (entry s) (response a s) s.links e) a.row.stream) o) e

once_by : (s : Seen) (a : Attempt) (r : Response) (e : RowEnd) (o : Option ℕ) → option_and_then (code_for (with_reset_queued a) (entry s) r s.links e) o ≡ None
once_by s a r e None = refl
once_by s a r e (Some n) =
    ap (λ (b : Bool). if b then option_and_then (code_in e n r) (option_and_then (λ (at : Placed). numbered s.links at.link) a.row.placed) else None)
    (and_right (e.entry == entry s) false refl)

once : (s : Seen) (a : Attempt) (r : Response) (o : Option RowEnd)
    → option_and_then (λ (e : RowEnd). option_and_then (code_for (with_reset_queued a) (entry s) r s.links e) a.row.stream) o ≡ None
once s a r None = refl
once s a r (Some e) = once_by s a r e a.row.stream

pub queued_code : (s : Seen) (a : Attempt) → reset_code_of s (with_reset_queued a) ≡ None
queued_code s a = once s a (response (with_reset_queued a) s) a.row.ended

-- one that is cut off has CANCEL or none
abbrev pub is_cancel : Option ℕ → Bool
is_cancel None = true
is_cancel (Some number) = number == cancel

cancel_by : (a b : Bool) → is_cancel (if a then (if b then None else Some cancel) else None) ≡ true
cancel_by true true = refl
cancel_by true false = refl
cancel_by false b = refl

on_no_link : (b : Bool) → is_cancel (if b then None else None) ≡ true
on_no_link true = refl
on_no_link false = refl

module _ (s : Seen) (a : Attempt) where
  abbrev e : RowEnd
  e = end_of a cut_end s

  cancel_at : (v : Seen) (b : Attempt) (n : ℕ) (o : Option Link)
      → is_cancel (if (e.entry == entry v) && not b.reset then option_and_then (code_in e n (response (with_end e b) v)) o else None) ≡ true
  cancel_at v b n None = on_no_link ((e.entry == entry v) && not b.reset)
  cancel_at v b n (Some l) =
      cancel_by ((e.entry == entry v) && not b.reset) (is_some l.over || (has_written_end n l && (response (with_end e b) v).closes))

  cancel_on : (v : Seen) (b : Attempt) (o : Option ℕ) → is_cancel (option_and_then (code_for (with_end e b) (entry v) (response (with_end e b) v) v.links e) o) ≡ true
  cancel_on v b None = refl
  cancel_on v b (Some n) = cancel_at v b n (option_and_then (λ (at : Placed). numbered v.links at.link) b.row.placed)

  pub cut_cancels : (v : Seen) (b : Attempt) → is_cancel (reset_code_of v (with_end e b)) ≡ true
  cut_cancels v b = cancel_on v b b.row.stream

  -- without a stream there is none
  pub cut_waiting : (v : Seen) → a.row.stream ≡ None → reset_code_of v (with_end e a) ≡ None
  cut_waiting v none = ap (λ (o : Option ℕ). option_and_then (code_for (with_end e a) (entry v) (response (with_end e a) v) v.links e) o) none
