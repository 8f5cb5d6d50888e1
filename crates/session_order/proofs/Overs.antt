-- A link that is over stirs the lines of its subchannel and of the ends of its attempts; of what ended before no stream is reset on it any more.
use Rattle.std.proofs.Common.{◌≡◌, ◌||◌, ◌&&◌, ◌==◌, not, ap, refl, ◌∙◌, Bool, true, false, Option, None, Some, ℕ, if◌then◌else◌, is_some}
use Rattle.std.proofs.lemmas.Bool.{eqb-false, eqb-true}
use Rattle.std.specs.List.{list_any}
use Rattle.std.specs.Option.{option_and_then, option_map, option_map_or}
use Rattle.attempt_ledger.specs.declared.row.Placed.{Placed}
use Rattle.attempt_ledger.specs.declared.row.RowEnd.{RowEnd}
use Rattle.grpc_base.specs.ErrorCodes.{cancel}
use Rattle.session_actions.specs.AttemptEnds.{code_at_end, code_for_stream, code_to_reset, is_framing, is_reset}
use Rattle.session_actions.specs.Attempts.{commitment, is_outstanding}
use Rattle.session_actions.specs.CallEnds.{has_long_response}
use Rattle.session_actions.specs.Calls.{is_open_call}
use Rattle.session_actions.specs.Commitments.{has_head_in, is_free_call, is_headed}
use Rattle.session_actions.specs.Entries.{entry}
use Rattle.session_actions.specs.Links.{has_written_end, link_of, wants_resolution}
use Rattle.session_actions.specs.Responses.{no_response, response, response_by, response_on}
use Rattle.session_actions.specs.Words.{changed, numbered}
use Rattle.session_actions.specs.declared.attempt.Attempt.{Attempt}
use Rattle.session_actions.specs.declared.entry.OpenEntry.{OpenEntry}
use Rattle.session_actions.specs.declared.link.Link.{Link}
use Rattle.session_actions.specs.declared.link.LinkOver.{LinkOver}
use Rattle.session_actions.specs.declared.response.Outcome.{Outcome}
use Rattle.session_actions.specs.declared.response.Response.{Response}
use Rattle.session_actions.specs.declared.seen.Seen.{Seen}
use Rattle.session_order.proofs.Aside.{aside_final, aside_request}
use Rattle.session_order.proofs.Boards.{goes_on}
use Rattle.session_order.proofs.Changed.{changed_away, changed_map, lookup}
use Rattle.session_order.proofs.Ended.{none_less}
use Rattle.session_order.proofs.Limits.{code_with}
use Rattle.session_order.proofs.Lists.{any_same, holds_same}
use Rattle.session_order.proofs.Posts.{IsPlain, plain_answered, plain_as, wanted_still}
use Rattle.session_order.specs.Quiescent.{IsStill, is_to_reset}
use Rattle.session_order.specs.Laws.{StirsOnly}
use Rattle.session_order.specs.Stirs.{stirs}
use Rattle.session_order.specs.declared.line.Line.{Line}
use Rattle.session_actions.specs.declared.action.Action.TheVariants as action
use Rattle.grpc_base.specs.declared.event.Event.TheVariants as event
use Rattle.session_order.specs.declared.line.Line.TheVariants as line
use Rattle.session_actions.specs.declared.link.LinkOver.TheVariants as over
use Rattle.grpc_base.specs.declared.event.Reply.TheVariants as reply

no_code : (b c : Bool) (y : Option ℕ) → is_some (if b || true || c then None else y) ≡ false
no_code true c y = refl
no_code false c y = refl

module _ (s : Seen) (n : ℕ) (why : LinkOver) where
  abbrev ended_link : Link → Link
  ended_link l = record l { over = Some why }

  abbrev t : Seen
  t = record s { links = changed ended_link n s.links }

  look_placed : {Y : Type 0} (h : Option Link → Y) → ((l : Link) → h (Some (ended_link l)) ≡ h (Some l)) → (p : Option Placed)
      → h (option_and_then (λ (at : Placed). numbered t.links at.link) p) ≡ h (option_and_then (λ (at : Placed). numbered s.links at.link) p)
  look_placed h same None = refl
  look_placed h same (Some at) = lookup h ended_link same n s.links at.link

  response_one : (a : Attempt) (o : Option ℕ) → response_by a t o ≡ response_by a s o
  response_one a None = refl
  response_one a (Some stream) = look_placed (λ (o : Option Link). option_map_or (response_on a stream s) o no_response) (λ l. refl) a.row.placed

  response_same : (a : Attempt) → response a t ≡ response a s
  response_same a = response_one a a.row.stream

  over_head : list_any (is_headed t) s.attempts ≡ list_any (is_headed s) s.attempts
  over_head =
      any_same (is_headed t) (is_headed s)
      (λ a. ap (λ (b : Bool). is_outstanding a && b)
      (holds_same (has_head_in a t) (has_head_in a s) (λ c. ap (λ (r : Response). is_free_call s c && is_some r.head) (response_same a))
      (numbered s.calls a.row.call))) s.attempts

  over_response : list_any (has_long_response t) s.calls ≡ list_any (has_long_response s) s.calls
  over_response =
      any_same (has_long_response t) (has_long_response s)
      (λ c. ap (λ (b : Bool). is_open_call c && b)
      (holds_same (λ (k : Attempt). is_outstanding k && (response k t).large) (λ (k : Attempt). is_outstanding k && (response k s).large)
      (λ k. ap (λ (r : Response). is_outstanding k && r.large) (response_same k)) (commitment c s))) s.calls

  -- less is reset than before
  code_same : (a : Attempt) (e : RowEnd) (stream : ℕ) (l : Link) → code_to_reset a e stream t l ≡ code_to_reset a e stream s l
  unfolding code_with
  code_same a e stream l = ap (code_with a e stream l) (response_same a)

  some_code : (a : Attempt) (e : RowEnd) (stream : ℕ) (o : Option Link)
      → is_some (option_and_then (code_to_reset a e stream t) o) ≡ is_some (option_and_then (code_to_reset a e stream s) o)
  some_code a e stream None = refl
  some_code a e stream (Some l) = ap (λ (x : Option ℕ). is_some x) (code_same a e stream l)

  code_here : (a : Attempt) (e : RowEnd) (stream : ℕ) (o : Option Link) → is_some (option_and_then (code_to_reset a e stream t) (option_map ended_link o)) ≡ false
  code_here a e stream None = refl
  code_here a e stream (Some l) =
      no_code (is_reset e.cause) (has_written_end stream l && (response a t).closes)
      (if is_framing e.cause then option_and_then (λ (x : Outcome). x.reset) (response a t).end else Some cancel)

  code_by : (a : Attempt) (e : RowEnd) (stream k : ℕ) (b : Bool) → (k == n) ≡ b
      → is_some (option_and_then (code_to_reset a e stream s) (numbered s.links k)) ≡ false
      → is_some (option_and_then (code_to_reset a e stream t) (numbered t.links k)) ≡ false
  code_by a e stream k true is none =
      ap (λ (j : ℕ). is_some (option_and_then (code_to_reset a e stream t) (numbered t.links j))) (eqb-true k n is)
      ∙ ap (λ (o : Option Link). is_some (option_and_then (code_to_reset a e stream t) o)) (changed_map ended_link n s.links)
      ∙ code_here a e stream (numbered s.links n)
  code_by a e stream k false is none =
      ap (λ (o : Option Link). is_some (option_and_then (code_to_reset a e stream t) o)) (changed_away ended_link n k s.links (eqb-false k n is))
      ∙ some_code a e stream (numbered s.links k) ∙ none

  code_placed : (a : Attempt) (e : RowEnd) (stream : ℕ) (p : Option Placed)
      → is_some (option_and_then (code_to_reset a e stream s) (option_and_then (λ (at : Placed). numbered s.links at.link) p)) ≡ false
      → is_some (option_and_then (code_to_reset a e stream t) (option_and_then (λ (at : Placed). numbered t.links at.link) p)) ≡ false
  code_placed a e stream None none = refl
  code_placed a e stream (Some at) none = code_by a e stream at.link (at.link == n) refl none

  code_if : (b : Bool) (x y : Option ℕ) → (is_some x ≡ false → is_some y ≡ false) → is_some (if b then x else None) ≡ false
      → is_some (if b then y else None) ≡ false
  code_if true x y turn e = turn e
  code_if false x y turn e = refl

  code_stream : (a : Attempt) (e : RowEnd) (o : Option ℕ) → is_some (option_and_then (code_for_stream a e s) o) ≡ false
      → is_some (option_and_then (code_for_stream a e t) o) ≡ false
  code_stream a e None none = refl
  code_stream a e (Some stream) none =
      code_if ((e.entry == entry s) && not a.reset) (option_and_then (code_to_reset a e stream s) (link_of a s))
      (option_and_then (code_to_reset a e stream t) (link_of a t)) (code_placed a e stream a.row.placed) none

  code_end : (a : Attempt) (o : Option RowEnd) → is_some (option_and_then (code_at_end a s) o) ≡ false → is_some (option_and_then (code_at_end a t) o) ≡ false
  code_end a None none = refl
  code_end a (Some e) none = code_stream a e a.row.stream none

  over_reset : list_any (is_to_reset s) s.attempts ≡ false → list_any (is_to_reset t) s.attempts ≡ false
  over_reset h = none_less (is_to_reset t) (is_to_reset s) (λ a. code_end a a.row.ended) s.attempts h

  pub over_still : (l : Line) (o : OpenEntry) → stirs (action.LinkLost n) l ≡ false → IsStill l o s → IsStill l o t
  over_still line.Cut o e h = h
  over_still line.Transparent o e h = h
  over_still line.Inherited o e h = h
  over_still line.Row o e h = h
  over_still line.Final o e h = aside_final s t ∙ h
  over_still line.Cancelled o e h = h
  over_still line.Request o e h = aside_request o s t ∙ h
  over_still line.Overflow o e h = h
  over_still line.Head o e h = over_head ∙ h
  over_still line.Response o e h = over_response ∙ h
  over_still line.Pick o e h = h
  over_still line.Link o e h = absurd (cc)
  over_still line.WireEnd o e h = absurd (cc)
  over_still line.Reset o e h = over_reset h
  over_still line.Shut o e h = h
  over_still line.Retire o e h = h
  over_still line.Begin o e h = h
  over_still line.Give o e h = h
  over_still line.Drop o e h = h
  over_still line.Add o e h = h

pub broken_leaves : (link number : ℕ) → StirsOnly (action.LinkBreaks link number)
broken_leaves link number o s e fits l p is not_stirred h =
    let u : Seen = record s { links = changed (λ (x : Link). record x { over = Some over.Broken }) link s.links } in
    goes_on o (wants_resolution u) e l (wanted_still u l o (over_still s link over.Broken l o not_stirred h)) p is

plain_lost : (link : ℕ) → IsPlain (event.LinkLost link)
plain_lost link = record { cancels = λ call. refl; sends = λ c s. refl; addresses = refl }

pub lost_leaves : (link : ℕ) → StirsOnly (action.LinkLost link)
lost_leaves link o s e fits l p is not_stirred h =
    let u : Seen = record s { links = changed (λ (x : Link). record x { over = Some over.Lost }) link s.links } in
    plain_answered reply.Done o (wants_resolution u) e (plain_as o.event (event.LinkLost link) fits (plain_lost link)) l
    (wanted_still u l o (over_still s link over.Lost l o not_stirred h)) p is
