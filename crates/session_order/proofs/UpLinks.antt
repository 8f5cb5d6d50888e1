-- A dial that is a connection now stirs no line: nothing passed on its link, and no attempt is on it.
use Rattle.std.proofs.Common.{◌≡◌, ◌+◌, ◌∷◌, ◌++◌, ◌||◌, ◌&&◌, ◌==◌, not, ap, arith, refl, ◌∙◌, Bool, true, false, List, [], Option, None, Some, ℕ, suc, if◌then◌else◌, is_some, length, slice_get}
use Rattle.std.specs.Option.{option_and_then, option_map_or, option_or}
use Rattle.attempt_ledger.specs.declared.row.Placed.{Placed}
use Rattle.attempt_ledger.specs.declared.row.RowEnd.{RowEnd}
use Rattle.session_actions.specs.AttemptEnds.{code_at_end, code_for_stream, code_to_reset, lost_end, outcome_on}
use Rattle.session_actions.specs.Attempts.{commitment, is_commitment, is_outstanding, is_over}
use Rattle.session_actions.specs.CallEnds.{has_long_response}
use Rattle.session_actions.specs.Calls.{is_open_call}
use Rattle.session_actions.specs.Commitments.{has_head_in, is_free_call, is_headed}
use Rattle.session_actions.specs.Entries.{entry}
use Rattle.session_actions.specs.Links.{has_settings, link_of}
use Rattle.session_actions.specs.Responses.{no_response, response, response_by, response_on}
use Rattle.session_actions.specs.Subchannels.{is_connecting, is_going_down, new_link, with_sub}
use Rattle.session_actions.specs.Words.{holds, numbered}
use Rattle.session_actions.specs.declared.attempt.Attempt.{Attempt}
use Rattle.session_actions.specs.declared.call.Call.{Call}
use Rattle.session_actions.specs.declared.entry.OpenEntry.{OpenEntry}
use Rattle.session_actions.specs.declared.link.Link.{Link}
use Rattle.session_actions.specs.declared.response.Outcome.{Outcome}
use Rattle.session_actions.specs.declared.response.Response.{Response}
use Rattle.session_actions.specs.declared.seen.Seen.{Seen}
use Rattle.session_actions.specs.declared.subchannel.Subchannel.{Subchannel}
use Rattle.session_order.proofs.Aside.{aside_final, aside_request}
use Rattle.session_order.proofs.Begun.{last_in, numbered_more}
use Rattle.session_order.proofs.Boards.{StaysLive, with_sub_current, with_sub_still}
use Rattle.session_order.proofs.Finals.{holds_in}
use Rattle.session_order.proofs.Limits.{code_with, then_same}
use Rattle.session_order.proofs.Lists.{any_in, any_same, holds_same}
use Rattle.session_order.proofs.Posts.{plain_answered, plain_as, plain_up}
use Rattle.session_order.specs.Quiescent.{IsStill, is_link_new, is_to_end, is_to_reset}
use Rattle.session_order.specs.Laws.{StirsOnly}
use Rattle.session_order.specs.Stirs.{HaveLinks}
use Rattle.session_order.specs.declared.line.Line.{Line}
use Rattle.session_actions.specs.declared.action.Action.TheVariants as action
use Rattle.grpc_base.specs.declared.event.Event.TheVariants as event
use Rattle.session_order.specs.declared.line.Line.TheVariants as line
use Rattle.grpc_base.specs.declared.event.Reply.TheVariants as reply

last_by : {X : Type 0} (xs : List X) (x : X) → slice_get (xs ++ x ∷ []) (length xs) ≡ Some x
last_by [] x = refl
last_by (y ∷ xs) x = last_by xs x

numbered_last : {X : Type 0} (xs : List X) (x : X) → numbered (xs ++ x ∷ []) (length xs + 1) ≡ Some x
numbered_last xs x =
    let number : length xs + 1 ≡ suc (length xs) = omega arith in
    ap (numbered (xs ++ x ∷ [])) number ∙ last_by xs x

module _ (s : Seen) (x : Link) (have : HaveLinks s) where
  abbrev t : Seen
  t = record s { links = s.links ++ x ∷ [] }

  placed_by : (k : ℕ) (a : Attempt) → numbered s.attempts k ≡ Some a → (p : Option Placed) → a.row.placed ≡ p
      → option_and_then (λ (at : Placed). numbered t.links at.link) p ≡ option_and_then (λ (at : Placed). numbered s.links at.link) p
  placed_by k a here None is = refl
  placed_by k a here (Some at) is = numbered_more s.links x at.link (have.attempts k a at here is)

  same_link : (k : ℕ) (a : Attempt) → numbered s.attempts k ≡ Some a → link_of a t ≡ link_of a s
  same_link k a here = placed_by k a here a.row.placed refl

  response_one : (k : ℕ) (a : Attempt) → numbered s.attempts k ≡ Some a → (o : Option ℕ) → response_by a t o ≡ response_by a s o
  response_one k a here None = refl
  response_one k a here (Some stream) = ap (λ (l : Option Link). option_map_or (response_on a stream s) l no_response) (same_link k a here)

  response_same : (k : ℕ) (a : Attempt) → numbered s.attempts k ≡ Some a → response a t ≡ response a s
  response_same k a here = response_one k a here a.row.stream

  head_one : (k : ℕ) (a : Attempt) → numbered s.attempts k ≡ Some a → is_headed t a ≡ is_headed s a
  head_one k a here =
      ap (λ (b : Bool). is_outstanding a && b)
      (holds_same (has_head_in a t) (has_head_in a s) (λ c. ap (λ (r : Response). is_free_call s c && is_some r.head) (response_same k a here))
      (numbered s.calls a.row.call))

  long_one : (c : Call) → has_long_response t c ≡ has_long_response s c
  long_one c =
      ap (λ (b : Bool). is_open_call c && b)
      (holds_in (λ (k : Attempt). is_outstanding k && (response k t).large) (λ (k : Attempt). is_outstanding k && (response k s).large) (commitment c s)
      (λ a e. (let there : (i : ℕ) × (slice_get s.attempts i ≡ Some a) = last_in (is_commitment c) s.attempts a e in
      ap (λ (r : Response). is_outstanding a && r.large) (response_same (suc there.0) a there.1))))

  outcome_one : (a : Attempt) → response a t ≡ response a s → (o : Option ℕ) (l : Link) → outcome_on a t o l ≡ outcome_on a s o l
  outcome_one a same None l = refl
  outcome_one a same (Some stream) l = ap (λ (r : Response). option_or r.end (if is_some l.over then Some lost_end else None)) same

  end_one : (k : ℕ) (a : Attempt) → numbered s.attempts k ≡ Some a → is_to_end t a ≡ is_to_end s a
  end_one k a here =
      ap (λ (o : Option Outcome). (is_outstanding a && not (is_over a s)) && is_some o)
      (ap (option_and_then (outcome_on a t a.row.stream)) (same_link k a here)
      ∙ then_same (outcome_on a t a.row.stream) (outcome_on a s a.row.stream) (outcome_one a (response_same k a here) a.row.stream) (link_of a s))

  code_one : (a : Attempt) → response a t ≡ response a s → (e : RowEnd) (stream : ℕ) (l : Link) → code_to_reset a e stream t l ≡ code_to_reset a e stream s l
  unfolding code_with
  code_one a same e stream l = ap (code_with a e stream l) same

  reset_one : (k : ℕ) (a : Attempt) → numbered s.attempts k ≡ Some a → is_to_reset t a ≡ is_to_reset s a
  reset_one k a here =
      ap (λ (o : Option ℕ). is_some o)
      (then_same (code_at_end a t) (code_at_end a s)
      (λ e. then_same (code_for_stream a e t) (code_for_stream a e s)
      (λ stream. ap (λ (o : Option ℕ). if (e.entry == entry s) && not a.reset then o else None)
      (ap (option_and_then (code_to_reset a e stream t)) (same_link k a here)
      ∙ then_same (code_to_reset a e stream t) (code_to_reset a e stream s) (code_one a (response_same k a here) e stream) (link_of a s))) a.row.stream) a.row.ended)

  sub_by : (k : ℕ) (b : Subchannel) → numbered s.subs k ≡ Some b → (o : Option ℕ) → b.link ≡ o
      → option_and_then (numbered t.links) o ≡ option_and_then (numbered s.links) o
  sub_by k b here None is = refl
  sub_by k b here (Some n) is = numbered_more s.links x n (have.subs k b n here is)

  link_one : (k : ℕ) (b : Subchannel) → numbered s.subs k ≡ Some b → is_link_new t b ≡ is_link_new s b
  link_one k b here =
      ap (λ (o : Option Link). (is_connecting b.state && holds has_settings o) || holds is_going_down o) (sub_by k b here b.link refl)

  pub linked_still : (l : Line) (o : OpenEntry) → IsStill l o s → IsStill l o t
  linked_still line.Cut o h = h
  linked_still line.Transparent o h = h
  linked_still line.Inherited o h = h
  linked_still line.Row o h = h
  linked_still line.Final o h = aside_final s t ∙ h
  linked_still line.Cancelled o h = h
  linked_still line.Request o h = aside_request o s t ∙ h
  linked_still line.Overflow o h = h
  linked_still line.Head o h = any_in (is_headed t) (is_headed s) s.attempts head_one ∙ h
  linked_still line.Response o h = any_same (has_long_response t) (has_long_response s) long_one s.calls ∙ h
  linked_still line.Pick o h = h
  linked_still line.Link o h = any_in (is_link_new t) (is_link_new s) s.subs link_one ∙ h
  linked_still line.WireEnd o h = any_in (is_to_end t) (is_to_end s) s.attempts end_one ∙ h
  linked_still line.Reset o h = any_in (is_to_reset t) (is_to_reset s) s.attempts reset_one ∙ h
  linked_still line.Shut o h = h
  linked_still line.Retire o h = h
  linked_still line.Begin o h = h
  linked_still line.Give o h = h
  linked_still line.Drop o h = h
  linked_still line.Add o h = h

no_news : (b : Bool) → (b && false || false) ≡ false
no_news true = refl
no_news false = refl

up_live : (s : Seen) (sub : ℕ) → StaysLive (record s { links = s.links ++ new_link (length s.links + 1) sub s ∷ [] }) sub
    (λ (b : Subchannel). record b { link = Some (length s.links + 1) })
up_live s sub = record {
  address = λ c. refl;
  shut = λ c f. refl;
  link = λ c f g.
      ap (λ (o : Option Link). (is_connecting c.state && holds has_settings o) || holds is_going_down o)
      (numbered_last s.links (new_link (length s.links + 1) sub s))
      ∙ no_news (is_connecting c.state);
}

pub up_leaves : (sub : ℕ) → StirsOnly (action.LinkUp sub)
up_leaves sub o s e fits l p is not_stirred h =
    let n : ℕ = length s.links + 1 in
    let x : Link = new_link n sub s in
    let u : Seen = record s { links = s.links ++ x ∷ [] } in
    let f : Subchannel → Subchannel = λ (b : Subchannel). record b { link = Some n } in
    plain_answered (reply.Link n) o (with_sub f sub u) (with_sub_current u sub f ∙ e) (plain_as o.event (event.LinkUp sub) fits.0 (plain_up sub)) l
    (with_sub_still u sub f (up_live s sub) l o (linked_still s x fits.1 l o h)) p is
