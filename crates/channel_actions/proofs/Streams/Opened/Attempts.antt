-- One attempt, where something was written on a link: its response, how the wire ends it, and how its stream is reset, are as before.
use Rattle.std.proofs.Common.{◌≡◌, ◌||◌, ◌&&◌, ◌==◌, not, ap, refl, sym, ◌∙◌, Bool, true, false, List, Option, None, Some, ℕ, if◌then◌else◌, is_some}
use Rattle.std.specs.Option.{option_and_then, option_or}
use Rattle.attempt_ledger.specs.declared.row.RowEnd.{RowEnd}
use Rattle.grpc_base.specs.ErrorCodes.{cancel}
use Rattle.session_actions.specs.AttemptEnds.{code_at_end, code_for_stream, code_to_reset, is_framing, is_reset, lost_end, outcome_of, outcome_on, reset_code_of, unsent_end}
use Rattle.session_actions.specs.Attempts.{is_outstanding, is_over}
use Rattle.session_actions.specs.Entries.{entry}
use Rattle.session_actions.specs.Links.{has_written_end, is_retiring, link_of}
use Rattle.session_actions.specs.Responses.{limit_of_attempt, no_response, response, response_by}
use Rattle.session_actions.specs.Words.{changed}
use Rattle.session_actions.specs.declared.attempt.Attempt.{Attempt}
use Rattle.session_actions.specs.declared.link.Link.{Link}
use Rattle.session_actions.specs.declared.link.LinkOver.{LinkOver}
use Rattle.session_actions.specs.declared.link.Sent.{Sent}
use Rattle.session_actions.specs.declared.response.Outcome.{Outcome}
use Rattle.session_actions.specs.declared.response.Response.{Response}
use Rattle.session_actions.specs.declared.seen.Seen.{Seen}
use Rattle.session_order.specs.Quiescent.{is_to_end, is_to_reset}
use Rattle.channel_actions.proofs.Streams.Opened.Links.{IsLinkLike, came_like, came_on, placed_like}
use Rattle.channel_actions.proofs.Streams.Opened.Responses.{IsLike, like_by, like_join, with_sent}
use Rattle.channel_actions.proofs.Streams.Opened.Rows.{h, over_same, t}

-- the code of a reset stays none
none_by : (x y w z c fr : Bool) (r v : Option ℕ) → (w ≡ true → z ≡ true) → v ≡ r → (if x || y || (w && c) then None else if fr then r else Some cancel) ≡ None
    → (if x || y || (z && c) then None else if fr then v else Some cancel) ≡ None
none_by true y w z c fr r v grows same e = refl
none_by false true w z c fr r v grows same e = refl
none_by false false true true true fr r v grows same e = refl
none_by false false true false c fr r v grows same e = absurd (let bad : false ≡ true = grows refl in (cc))
none_by false false true true false true r v grows same e = same ∙ e
none_by false false true true false false r v grows same e = absurd (cc)
none_by false false false true true fr r v grows same e = refl
none_by false false false true false true r v grows same e = same ∙ e
none_by false false false true false false r v grows same e = absurd (cc)
none_by false false false false c true r v grows same e = same ∙ e
none_by false false false false c false r v grows same e = absurd (cc)

none_is : {X : Type 0} (o : Option X) → is_some o ≡ false → o ≡ None
none_is None e = refl
none_is (Some x) e = absurd (cc)

and_no : (b : Bool) → (b && false) ≡ false
and_no true = refl
and_no false = refl

not_over : (b over retiring : Bool) → (b && is_some (if over || retiring then Some unsent_end else None)) ≡ false
    → (b && is_some (if over then Some lost_end else None)) ≡ false
not_over false over retiring e = refl
not_over true true retiring e = e
not_over true false retiring e = refl

module _ (s : Seen) (g : ℕ → Option ℕ) (x : Sent) (n : ℕ) where
  abbrev ls : List Link
  ls = changed (with_sent x) n s.links

  abbrev u : Seen
  u = t s g ls s.current

  abbrev f : Attempt → Attempt
  f a = h s g ls s.current a

  links_like : (a : Attempt) → IsLinkLike (link_of a s) (link_of (f a) u)
  links_like a = placed_like x n s.links a.row.placed

  -- one whose stream is the same
  came_by : (a : Attempt) (o : Option ℕ) → IsLike (response_by a s o) (response_by (f a) u o)
  came_by a None = record { head = refl; end = refl; large = refl; closes = refl }
  came_by a (Some stream) = came_like a (limit_of_attempt a s) stream (link_of a s) (link_of (f a) u) (links_like a)

  pub response_like : (a : Attempt) → g a.place ≡ a.row.stream → IsLike (response a s) (response (f a) u)
  response_like a same =
      like_join (response a s) (response_by (f a) u a.row.stream) (response (f a) u) (came_by a a.row.stream)
      (like_by (response_by (f a) u a.row.stream) (response (f a) u) (ap (response_by (f a) u) same))

  outcome_by : (a : Attempt) (stream : Option ℕ) (o p : Option Link) → IsLinkLike o p → IsLike (response a s) (response (f a) u)
      → is_some (option_and_then (outcome_on (f a) u stream) p) ≡ is_some (option_and_then (outcome_on a s stream) o)
  outcome_by a None None None e like = refl
  outcome_by a (Some stream) None None e like = refl
  outcome_by a None (Some k) (Some m) e like =
      ap (λ (o : Option LinkOver). is_some (if is_some o || is_retiring m then Some unsent_end else None)) e.over
      ∙ ap (λ (b : Bool). is_some (if is_some k.over || b then Some unsent_end else None)) e.retiring
  outcome_by a (Some stream) (Some k) (Some m) e like =
      ap (λ (o : Option Outcome). is_some (option_or o (if is_some m.over then Some lost_end else None))) like.end
      ∙ ap (λ (o : Option LinkOver). is_some (option_or (response a s).end (if is_some o then Some lost_end else None))) e.over
  outcome_by a stream None (Some m) e like = absurd e
  outcome_by a stream (Some k) None e like = absurd e

  outcome_same : (a : Attempt) → g a.place ≡ a.row.stream → is_some (outcome_of (f a) u) ≡ is_some (outcome_of a s)
  outcome_same a same =
      ap (λ (o : Option ℕ). is_some (option_and_then (outcome_on (f a) u o) (link_of (f a) u))) same
      ∙ outcome_by a a.row.stream (link_of a s) (link_of (f a) u) (links_like a) (response_like a same)

  pub end_same : (a : Attempt) → g a.place ≡ a.row.stream → is_to_end u (f a) ≡ is_to_end s a
  end_same a same =
      ap (λ (b : Bool). (is_outstanding a && not b) && is_some (outcome_of (f a) u)) (over_same s g ls s.current a)
      ∙ ap (λ (b : Bool). (is_outstanding a && not (is_over a s)) && b) (outcome_same a same)

  -- its reset
  code_by : (a : Attempt) (e : RowEnd) (stream : ℕ) (o p : Option Link) → IsLinkLike o p → IsLike (response a s) (response (f a) u)
      → option_and_then (code_to_reset a e stream s) o ≡ None → option_and_then (code_to_reset (f a) e stream u) p ≡ None
  code_by a e stream None None is like none = refl
  code_by a e stream (Some k) (Some m) is like none =
      ap (λ (v : Option LinkOver).
      if is_reset e.cause || is_some v || (has_written_end stream m && (response (f a) u).closes) then None
      else if is_framing e.cause then option_and_then (λ (z : Outcome). z.reset) (response (f a) u).end else Some cancel) is.over
      ∙ ap (λ (b : Bool).
      if is_reset e.cause || is_some k.over || (has_written_end stream m && b) then None
      else if is_framing e.cause then option_and_then (λ (z : Outcome). z.reset) (response (f a) u).end else Some cancel) like.closes
      ∙ none_by (is_reset e.cause) (is_some k.over) (has_written_end stream k) (has_written_end stream m) (response a s).closes (is_framing e.cause)
      (option_and_then (λ (z : Outcome). z.reset) (response a s).end) (option_and_then (λ (z : Outcome). z.reset) (response (f a) u).end) (is.written stream)
      (ap (option_and_then (λ (z : Outcome). z.reset)) like.end) none
  code_by a e stream None (Some m) is like none = absurd is
  code_by a e stream (Some k) None is like none = absurd is

  if_by : (b : Bool) (r v : Option ℕ) → (r ≡ None → v ≡ None) → (if b then r else None) ≡ None → (if b then v else None) ≡ None
  if_by true r v so e = so e
  if_by false r v so e = refl

  stream_by : (a : Attempt) (e : RowEnd) (stream : ℕ) → IsLike (response a s) (response (f a) u) → code_for_stream a e s stream ≡ None → code_for_stream (f a) e u stream ≡ None
  stream_by a e stream like none =
      if_by ((e.entry == entry s) && not a.reset) (option_and_then (code_to_reset a e stream s) (link_of a s)) (option_and_then (code_to_reset (f a) e stream u) (link_of (f a) u))
      (code_by a e stream (link_of a s) (link_of (f a) u) (links_like a) like) none

  at_by : (a : Attempt) (e : RowEnd) (stream : Option ℕ) → IsLike (response a s) (response (f a) u) → option_and_then (code_for_stream a e s) stream ≡ None
      → option_and_then (code_for_stream (f a) e u) stream ≡ None
  at_by a e None like none = refl
  at_by a e (Some stream) like none = stream_by a e stream like none

  reset_by : (a : Attempt) (o : Option RowEnd) → g a.place ≡ a.row.stream → option_and_then (code_at_end a s) o ≡ None → option_and_then (code_at_end (f a) u) o ≡ None
  reset_by a None same none = refl
  reset_by a (Some e) same none =
      ap (option_and_then (code_for_stream (f a) e u)) same ∙ at_by a e a.row.stream (response_like a same) none

  pub reset_stays : (a : Attempt) → g a.place ≡ a.row.stream → is_to_reset s a ≡ false → is_to_reset u (f a) ≡ false
  reset_stays a same none = ap (λ (o : Option ℕ). is_some o) (reset_by a a.row.ended same (none_is (reset_code_of s a) none))

  -- one that waited, whose stream is opened
  module _ (a : Attempt) (stream : ℕ) (now : g a.place ≡ Some stream) (none : a.row.stream ≡ None) (goes : a.row.ended ≡ None) (l : Link)
      (there : link_of a s ≡ Some l) (blank_head : (came_on a (limit_of_attempt a s) stream (Some l)).head ≡ None)
      (blank_end : (came_on a (limit_of_attempt a s) stream (Some l)).end ≡ None) (blank_large : (came_on a (limit_of_attempt a s) stream (Some l)).large ≡ false) where
    fresh : IsLike (came_on a (limit_of_attempt a s) stream (Some l)) (response (f a) u)
    fresh =
        like_join (came_on a (limit_of_attempt a s) stream (Some l)) (came_on a (limit_of_attempt a s) stream (link_of a s)) (response (f a) u)
        (like_by (came_on a (limit_of_attempt a s) stream (Some l)) (came_on a (limit_of_attempt a s) stream (link_of a s)) (ap (came_on a (limit_of_attempt a s) stream) there))
        (like_join (came_on a (limit_of_attempt a s) stream (link_of a s)) (response_by (f a) u (Some stream)) (response (f a) u) (came_by a (Some stream))
        (like_by (response_by (f a) u (Some stream)) (response (f a) u) (ap (response_by (f a) u) now)))

    before : response a s ≡ no_response
    before = ap (response_by a s) none

    pub fresh_head : is_some (response (f a) u).head ≡ is_some (response a s).head
    fresh_head = ap (λ (o : Option _). is_some o) (fresh.head ∙ blank_head) ∙ sym (ap (λ (p : Response). is_some p.head) before)

    pub fresh_large : (response (f a) u).large ≡ (response a s).large
    fresh_large = fresh.large ∙ blank_large ∙ sym (ap (λ (p : Response). p.large) before)

    -- its link was not over, or it was not to end for another reason
    fresh_by : (b : Bool) (o p : Option Link) → IsLinkLike o p → (b && is_some (option_and_then (outcome_on a s None) o)) ≡ false
        → (b && is_some (option_and_then (outcome_on (f a) u (Some stream)) p)) ≡ false
    fresh_by b None None is e = and_no b
    fresh_by b (Some k) (Some m) is e =
        ap (λ (z : Option Outcome). b && is_some (option_or z (if is_some m.over then Some lost_end else None))) (fresh.end ∙ blank_end)
        ∙ ap (λ (v : Option LinkOver). b && is_some (if is_some v then Some lost_end else None)) is.over ∙ not_over b (is_some k.over) (is_retiring k) e
    fresh_by b None (Some m) is e = absurd is
    fresh_by b (Some k) None is e = absurd is

    pub fresh_end : is_to_end s a ≡ false → is_to_end u (f a) ≡ false
    fresh_end e =
        ap (λ (b : Bool). (is_outstanding a && not b) && is_some (outcome_of (f a) u)) (over_same s g ls s.current a)
        ∙ ap (λ (o : Option ℕ). (is_outstanding a && not (is_over a s)) && is_some (option_and_then (outcome_on (f a) u o) (link_of (f a) u))) now
        ∙ fresh_by (is_outstanding a && not (is_over a s)) (link_of a s) (link_of (f a) u) (links_like a)
        (sym (ap (λ (o : Option ℕ). (is_outstanding a && not (is_over a s)) && is_some (option_and_then (outcome_on a s o) (link_of a s))) none) ∙ e)

    pub fresh_reset : is_to_reset u (f a) ≡ false
    fresh_reset = ap (λ (o : Option RowEnd). is_some (option_and_then (code_at_end (f a) u) o)) goes
