-- What the line of an action says of it, as far as heads of responses lean on it. An attempt ends where it is cut off, or where no call is to be committed by a head.
use Rattle.attempt_ledger.specs.declared.row.Placed.{Placed}
use Rattle.attempt_ledger.specs.declared.row.RowEnd.{RowEnd}
use Rattle.call_actions.proofs.CallsApart.Fair.{lines_are_fair}
use Rattle.call_actions.proofs.CallsInTurn.Changes.{some_last}
use Rattle.call_actions.proofs.Lists.{numbered_not}
use Rattle.channel_actions.proofs.ActionsFit.Lines.{next_actions_fit}
use Rattle.channel_actions.proofs.Calls.Kept.Lines.{next_fits}
use Rattle.channel_actions.proofs.KeptSessions.Lists.{all_at}
use Rattle.channel_actions.proofs.Quiet.{or_parts_none}
use Rattle.channel_actions.proofs.Stamps.{counted_at}
use Rattle.channel_actions.specs.KeptCalls.Early.{IsEarlyKept}
use Rattle.channel_actions.specs.KeptSessions.Kept.{IsKept}
use Rattle.end_cases.proofs.EndedHeads.Parts.{head_in, heads, is_committed_of, is_ended_call, is_unreceived, link_at, settles}
use Rattle.end_cases.proofs.EndedHeads.Responses.{any_length, seen_is_there}
use Rattle.end_cases.proofs.EndedHeads.Steps.{FitsReceived}
use Rattle.attempt_cases.proofs.MakingSteps.Withheld.{any_none, unmapped}
use Rattle.grpc_base.specs.declared.event.EndCause.TheVariants as ending
use Rattle.grpc_base.specs.declared.event.EndCause.{EndCause}
use Rattle.session_actions.specs.Actions.{following, following_in, of_calls, of_links, of_policies, of_stage}
use Rattle.session_actions.specs.AttemptEnds.{cut, cut_end, end_of, next_cut, with_end}
use Rattle.session_actions.specs.Attempts.{call_of, commitment, is_commitment, is_outstanding, is_over, is_over_in, wants_follower}
use Rattle.session_actions.specs.CallEnds.{ending_call, has_long_request, has_long_response, is_cancelled, is_over_by_row, next_ended}
use Rattle.session_actions.specs.Commitments.{committing, has_head_in, is_final_end, is_free_call, is_headed, is_inherited, next_final, next_headed, next_inherited, next_overflow, overflow_row}
use Rattle.session_actions.specs.Links.{link_of}
use Rattle.session_actions.specs.Making.{next_transparent, transparent_retry}
use Rattle.session_actions.specs.Reading.{is_outstanding_on, outstanding_on}
use Rattle.session_actions.specs.Responses.{limit_of_attempt, no_response, response, response_by, response_in, response_on, traffic_by}
use Rattle.session_actions.specs.Sessions.{IsNext}
use Rattle.session_actions.specs.Words.{first_of, holds, numbered}
use Rattle.session_actions.specs.declared.action.Action.TheVariants as action
use Rattle.session_actions.specs.declared.action.Action.{Action}
use Rattle.session_actions.specs.declared.action.CommitCause.TheVariants as commit
use Rattle.session_actions.specs.declared.action.CommitCause.{CommitCause}
use Rattle.session_actions.specs.declared.attempt.Attempt.{Attempt}
use Rattle.session_actions.specs.declared.call.Call.{Call}
use Rattle.session_actions.specs.declared.entry.OpenEntry.{OpenEntry}
use Rattle.session_actions.specs.declared.link.Link.{Link}
use Rattle.session_actions.specs.declared.link.ReadFrame.{ReadFrame}
use Rattle.session_actions.specs.declared.link.Sent.{Sent}
use Rattle.session_actions.specs.declared.seen.Seen.{Seen}
use Rattle.std.proofs.Common.{◌⊎◌, inl, inr, Bool, List, None, Option, Some, [], ap, cond, false, filter, find, if◌then◌else◌, is_none, is_some, not, option_map, refl, slice_get, suc, sym, true, zero, ℕ, ◌&&◌, ◌==◌, ◌||◌, ◌∙◌, ◌∷◌, ◌≡◌}
use Rattle.std.proofs.lemmas.Bool.{or_right}
use Rattle.std.specs.List.{list_any}
use Rattle.std.specs.Option.{option_map_or, option_or}
use Rattle.std.specs.Prelude.{option_and_then}

-- of two that may give an action, one gives it
skip : (p q : Option Action) (a : Action) → option_or p q ≡ Some a → (p ≡ Some a) ⊎ ((p ≡ None) × (q ≡ Some a))
skip None q a e = inr (refl, e)
skip (Some x) q a e = inl e

map_no : {X : Type 0} (f : X → Action) (o : Option X) (a : Action) → ((x : X) → f x ≡ a → ⊥) → option_map f o ≡ Some a → ⊥
map_no f None a each e = absurd (cc)
map_no f (Some x) a each e = let same : f x ≡ a = (cc) in each x same

-- the rest gives it, where this one cannot
past : {X : Type 0} (f : X → Action) (o : Option X) (q : Option Action) (a : Action) → ((x : X) → f x ≡ a → ⊥) → option_or (option_map f o) q ≡ Some a
    → (option_map f o ≡ None) × (q ≡ Some a)
past f None q a each e = (refl, e)
past f (Some x) q a each e = absurd (map_no f (Some x) a each e)

-- the one that gave it
record Gave (f : Attempt → Option Action) (xs : List Attempt) (y : Action) : Type 0 where
  index : ℕ
  one : Attempt
  at : slice_get xs index ≡ Some one
  gave : f one ≡ Some y

gave_by : (f : Attempt → Option Action) (x : Attempt) (xs : List Attempt) (y : Action) (o : Option Action) → f x ≡ o → (first_of f xs ≡ Some y → Gave f xs y)
    → option_or o (first_of f xs) ≡ Some y → Gave f (x ∷ xs) y
gave_by f x xs y None is rest e = let g : Gave f xs y = rest e in record { index = suc g.index; one = g.one; at = g.at; gave = g.gave }
gave_by f x xs y (Some z) is rest e = record { index = 0; one = x; at = refl; gave = is ∙ e }

gave_one : (f : Attempt → Option Action) (xs : List Attempt) (y : Action) → first_of f xs ≡ Some y → Gave f xs y
gave_one f [] y e = absurd (cc)
gave_one f (x ∷ xs) y e = gave_by f x xs y (f x) refl (gave_one f xs y) e

-- one of those that pass a test
record IsIn (p : Attempt → Bool) (xs : List Attempt) (a : Attempt) : Type 0 where
  index : ℕ
  at : slice_get xs index ≡ Some a
  pass : p a ≡ true

in_by : (p : Attempt → Bool) (x a : Attempt) (xs : List Attempt) (i : ℕ) (b : Bool) → p x ≡ b → ((j : ℕ) → slice_get (filter p xs) j ≡ Some a → IsIn p xs a)
    → slice_get (cond b (x ∷ filter p xs) (filter p xs)) i ≡ Some a → IsIn p (x ∷ xs) a
in_by p x a xs zero true is rest e = let one : x ≡ a = (cc) in record { index = 0; at = e; pass = ap p (sym one) ∙ is }
in_by p x a xs (suc i) true is rest e = let r : IsIn p xs a = rest i e in record { index = suc r.index; at = r.at; pass = r.pass }
in_by p x a xs i false is rest e = let r : IsIn p xs a = rest i e in record { index = suc r.index; at = r.at; pass = r.pass }

from_filter : (p : Attempt → Bool) (xs : List Attempt) (i : ℕ) (a : Attempt) → slice_get (filter p xs) i ≡ Some a → IsIn p xs a
from_filter p [] i a e = absurd (cc)
from_filter p (x ∷ xs) i a e = in_by p x a xs i (p x) refl (λ j. from_filter p xs j a) e

one_of : {X : Type 0} (o : Option X) (x y : X) → o ≡ Some x → o ≡ Some y → x ≡ y
one_of None x y e f = absurd (cc)
one_of (Some z) x y e f = (cc)

some_of : {X : Type 0} (test : X → Bool) (o : Option X) → holds test o ≡ true → is_some o ≡ true
some_of test None e = absurd (cc)
some_of test (Some x) e = refl

-- no other line before that of the heads gives an end
module _ (o : OpenEntry) (s : Seen) (row : ℕ) (e : RowEnd) where
  abbrev the_end : Action
  the_end = action.AttemptEnds row e

  not_ending : (why : EndCause) (c : Call) → ending_call why c ≡ the_end → ⊥
  not_ending why c k = absurd (cc)

  not_committing : (why : CommitCause) (a : Attempt) → committing why a ≡ the_end → ⊥
  not_committing why a k = absurd (cc)

  not_retrying : (a : Attempt) → transparent_retry s a ≡ the_end → ⊥
  not_retrying a k = absurd (cc)

  abbrev after_heads : Option Action
  after_heads = option_or (next_ended ending.Response (has_long_response s) s) None

  abbrev after_cuts : Option Action
  after_cuts =
      option_or (next_transparent s) (option_or (next_inherited s) (option_or (next_ended ending.Row (is_over_by_row s) s) (option_or (next_final s)
      (option_or (next_ended ending.Cancelled (is_cancelled o) s) (option_or (next_ended ending.Request (has_long_request o s) s) (option_or (next_overflow s)
      (option_or (next_headed s) after_heads)))))))

  from_rest : (next_cut s ≡ Some the_end) ⊎ ((next_cut s ≡ None) × (after_cuts ≡ Some the_end)) → (next_cut s ≡ Some the_end) ⊎ (next_headed s ≡ None)
  from_rest (inl cut) = inl cut
  from_rest (inr rest) =
      let e2 = past (transparent_retry s) (find (λ (a : Attempt). wants_follower a s) s.attempts) _ the_end not_retrying rest.1 in
      let e3 = past (committing commit.Inherited) (find (is_inherited s) s.attempts) _ the_end (not_committing commit.Inherited) e2.1 in
      let e4 = past (ending_call ending.Row) (find (is_over_by_row s) s.calls) _ the_end (not_ending ending.Row) e3.1 in
      let e5 = past (committing commit.Final) (find (is_final_end s) s.attempts) _ the_end (not_committing commit.Final) e4.1 in
      let e6 = past (ending_call ending.Cancelled) (find (is_cancelled o) s.calls) _ the_end (not_ending ending.Cancelled) e5.1 in
      let e7 = past (ending_call ending.Request) (find (has_long_request o s) s.calls) _ the_end (not_ending ending.Request) e6.1 in
      let e8 = past (committing commit.Overflow) (first_of (overflow_row s) s.calls) _ the_end (not_committing commit.Overflow) e7.1 in
      inr (past (committing commit.Head) (find (is_headed s) s.attempts) after_heads the_end (not_committing commit.Head) e8.1).0

  head_past : of_calls o s ≡ Some the_end → (next_cut s ≡ Some the_end) ⊎ (next_headed s ≡ None)
  head_past given = from_rest (skip (next_cut s) after_cuts the_end given)

none_headed : (o : OpenEntry) (s : Seen) → of_calls o s ≡ None → next_headed s ≡ None
none_headed o s e =
    let e1 = or_parts_none (next_cut s) _ e in
    let e2 = or_parts_none (next_transparent s) _ e1.1 in
    let e3 = or_parts_none (next_inherited s) _ e2.1 in
    let e4 = or_parts_none (next_ended ending.Row (is_over_by_row s) s) _ e3.1 in
    let e5 = or_parts_none (next_final s) _ e4.1 in
    let e6 = or_parts_none (next_ended ending.Cancelled (is_cancelled o) s) _ e5.1 in
    let e7 = or_parts_none (next_ended ending.Request (has_long_request o s) s) _ e6.1 in
    let e8 = or_parts_none (next_overflow s) _ e7.1 in
    (or_parts_none (next_headed s) _ e8.1).0

cut_or_quiescent : (o : OpenEntry) (s : Seen) (row : ℕ) (e : RowEnd) → following_in s o ≡ Some (action.AttemptEnds row e)
    → (next_cut s ≡ Some (action.AttemptEnds row e)) ⊎ (next_headed s ≡ None)
cut_or_quiescent o s row e next =
    by_calls (skip (of_calls o s) (option_or (of_links o s) (option_or (of_policies o s) (option_or (of_stage o s o.stage) None))) (action.AttemptEnds row e) next)
  where
    by_calls : (of_calls o s ≡ Some (action.AttemptEnds row e))
        ⊎ ((of_calls o s ≡ None) × (option_or (of_links o s) (option_or (of_policies o s) (option_or (of_stage o s o.stage) None)) ≡ Some (action.AttemptEnds row e)))
        → (next_cut s ≡ Some (action.AttemptEnds row e)) ⊎ (next_headed s ≡ None)
    by_calls (inl given) = head_past o s row e given
    by_calls (inr none) = inr (none_headed o s none.0)

-- who is over is of a call that has ended or is committed
either_of : (p q x y : Bool) → (p ≡ true → q ≡ true) → (x ≡ true → y ≡ true) → (p || x) ≡ true → (q || y) ≡ true
either_of true q x y f g e = ap (λ (b : Bool). b || y) (f refl)
either_of false true x y f g e = refl
either_of false false x y f g e = g e

not_both : (p q x y : Bool) → (not p ≡ true → x ≡ true) → (not q ≡ true → y ≡ true) → (p && q) ≡ false → (x || y) ≡ true
not_both true true x y f g e = absurd (cc)
not_both true false x y f g e = or_right x y (g refl)
not_both false q x y f g e = ap (λ (b : Bool). b || y) (f refl)

not_none : {X : Type 0} (o : Option X) → not (is_none o) ≡ true → is_some o ≡ true
not_none None e = absurd (cc)
not_none (Some x) e = refl

unless_headed : (some unended free head : Bool) → some ≡ true → unended ≡ true → head ≡ true → ((some && unended) && (free && head)) ≡ false → free ≡ false
unless_headed true true false true e f g h = refl
unless_headed true true true true e f g h = absurd (cc)
unless_headed false unended free head e f g h = absurd (cc)
unless_headed true false free head e f g h = absurd (cc)
unless_headed true true free false e f g h = absurd (cc)

module _ (s : Seen) (kept : IsKept s) where
  committed_in : (c : Call) → is_some (commitment c s) ≡ true → list_any (is_committed_of c.number) s.attempts ≡ true
  committed_in c e = sym (some_last (is_commitment c) s.attempts) ∙ e

  over_by : (q : Attempt) (o : Option Call) → numbered s.calls q.row.call ≡ o → holds (λ (c : Call). is_over_in c q s) o ≡ true
      → (holds is_ended_call o || list_any (is_committed_of q.row.call) s.attempts) ≡ true
  over_by q None at e = absurd (cc)
  over_by q (Some c) at e =
      let own : c.number ≡ q.row.call = counted_at (λ (g : Call). g.number) s.calls q.row.call c kept.calls at in
      either_of (is_some c.end) (is_ended_call c) (holds (λ (k : Attempt). not (k.row.number == q.row.number)) (commitment c s))
      (list_any (is_committed_of q.row.call) s.attempts) (λ k. k)
      (λ k. ap (λ (n : ℕ). list_any (is_committed_of n) s.attempts) (sym own) ∙ committed_in c (some_of (λ (k : Attempt). not (k.row.number == q.row.number)) (commitment c s) k)) e

  over_settles : (q : Attempt) → is_over q s ≡ true → settles s.calls s.attempts q.row.call ≡ true
  over_settles q e = over_by q (numbered s.calls q.row.call) refl e

  taken_by : (q : Attempt) (o : Option Call) → numbered s.calls q.row.call ≡ o → is_some o ≡ true → holds (is_free_call s) o ≡ false
      → (holds is_ended_call o || list_any (is_committed_of q.row.call) s.attempts) ≡ true
  taken_by q None at some e = absurd (cc)
  taken_by q (Some c) at some e =
      let own : c.number ≡ q.row.call = counted_at (λ (g : Call). g.number) s.calls q.row.call c kept.calls at in
      not_both (is_none c.end) (is_none (commitment c s)) (is_ended_call c) (list_any (is_committed_of q.row.call) s.attempts) (λ k. not_none c.end k)
      (λ k. ap (λ (n : ℕ). list_any (is_committed_of n) s.attempts) (sym own) ∙ committed_in c (not_none (commitment c s) k)) e

  -- of an attempt that goes on what an end would see is in its response
  module _ (q : Attempt) (e : RowEnd) (goes : q.row.ended ≡ None) where
    received_link : (stream : ℕ) (o : Option Link) → holds (head_in e.seen stream) o ≡ true → is_some (option_map_or (response_on q stream s) o no_response).head ≡ true
    received_link stream None h = absurd (cc)
    received_link stream (Some l) h =
        ap (λ (r : Option RowEnd). is_some (response_in (limit_of_attempt q s) stream (option_map_or (λ (z : RowEnd). traffic_by z.seen l.traffic) r l.traffic)).head) goes
        ∙ any_length 0 (limit_of_attempt q s) stream l.traffic (seen_is_there 0 stream e.seen l.traffic h)

    received_stream : (r : Option ℕ) → holds (λ (stream : ℕ). holds (head_in e.seen stream) (link_of q s)) r ≡ true → is_some (response_by q s r).head ≡ true
    received_stream None h = absurd (cc)
    received_stream (Some stream) h = received_link stream (link_of q s) h

    is_placed : (p : Option Placed) (stream : ℕ) → holds (head_in e.seen stream) (link_at s.links p) ≡ true → is_some p ≡ true
    is_placed None stream h = absurd (cc)
    is_placed (Some at) stream h = refl

    placed_by : (r : Option ℕ) → holds (λ (stream : ℕ). holds (head_in e.seen stream) (link_at s.links q.row.placed)) r ≡ true → is_some q.row.placed ≡ true
    placed_by None h = absurd (cc)
    placed_by (Some stream) h = is_placed q.row.placed stream h

    free_off : (o : Option Call) → numbered s.calls q.row.call ≡ o → is_some q.row.placed ≡ true → is_some (response q s).head ≡ true
        → ((is_some q.row.placed && is_none q.row.ended) && holds (has_head_in q s) o) ≡ false → holds (is_free_call s) o ≡ false
    free_off None at placed head none = refl
    free_off (Some c) at placed head none =
        unless_headed (is_some q.row.placed) (is_none q.row.ended) (is_free_call s c) (is_some (response q s).head) placed (ap (λ (r : Option RowEnd). is_none r) goes) head none

    -- where no call is to be committed by a head, none came, or the call has ended or is committed
    settled_by : (row : ℕ) → numbered s.attempts row ≡ Some q → list_any (is_headed s) s.attempts ≡ false → heads s.links (with_end e q) e ≡ true
        → settles s.calls s.attempts q.row.call ≡ true
    settled_by row there none h =
        taken_by q (numbered s.calls q.row.call) refl (all_at (λ (a : Attempt). is_some (call_of a s)) s.attempts row q kept.owned there)
        (free_off (numbered s.calls q.row.call) refl (placed_by q.row.stream h) (received_stream q.row.stream h)
        (numbered_not (is_headed s) s.attempts row q none there))

    unreceived_by : (b : Bool) → heads s.links (with_end e q) e ≡ b → (b ≡ true → settles s.calls s.attempts q.row.call ≡ true)
        → (settles s.calls s.attempts q.row.call || not (heads s.links (with_end e q) e)) ≡ true
    unreceived_by true is settled = ap (λ (b : Bool). b || not (heads s.links (with_end e q) e)) (settled refl)
    unreceived_by false is settled = or_right (settles s.calls s.attempts q.row.call) (not (heads s.links (with_end e q) e)) (ap not is)

  end_fits : (row : ℕ) (e : RowEnd) → following s ≡ Some (action.AttemptEnds row e) → FitsReceived (action.AttemptEnds row e) s
  end_fits row e next a q there at =
      let place : a.place ≡ row = counted_at (λ (z : Attempt). z.place) s.attempts row a kept.attempts there in
      let here : numbered s.attempts row ≡ Some q = ap (numbered s.attempts) (sym place) ∙ at in
      let goes : q.row.ended ≡ None = nothing q.row.ended (lines_are_fair s (action.AttemptEnds row e) kept.book next q here) in
      by_open s.current refl q here goes
    where
      nothing : (r : Option RowEnd) → is_none r ≡ true → r ≡ None
      nothing None e = refl
      nothing (Some z) e = absurd (cc)

      both : (p q : Bool) → (p && q) ≡ true → q ≡ true
      both true q e = e
      both false q e = absurd (cc)

      cut_by : (b : Bool) (k : Attempt) → (is_outstanding k && is_over k s) ≡ b
          → (if b then Some (action.AttemptEnds k.place (end_of k cut_end s)) else None) ≡ Some (action.AttemptEnds row e) → (k.place ≡ row) × (is_over k s ≡ true)
      cut_by true k is given = ((cc), both (is_outstanding k) (is_over k s) is)
      cut_by false k is given = absurd (cc)

      from_either : (z : Attempt) → numbered s.attempts row ≡ Some z → z.row.ended ≡ None → (next_cut s ≡ Some (action.AttemptEnds row e)) ⊎ (next_headed s ≡ None)
          → is_unreceived s.calls s.attempts s.links (with_end e z) ≡ true
      from_either z here goes (inl given) =
          let g : Gave (cut s) s.attempts (action.AttemptEnds row e) = gave_one (cut s) s.attempts (action.AttemptEnds row e) given in
          let two : (g.one.place ≡ row) × (is_over g.one s ≡ true) = cut_by (is_outstanding g.one && is_over g.one s) g.one refl g.gave in
          let place : g.one.place ≡ suc g.index = counted_at (λ (z : Attempt). z.place) s.attempts (suc g.index) g.one kept.attempts g.at in
          let same : g.one ≡ z = one_of (numbered s.attempts row) g.one z (ap (numbered s.attempts) (sym two.0 ∙ place) ∙ g.at) here in
          unreceived_by z e goes (heads s.links (with_end e z) e) refl (λ h. over_settles z (ap (λ (k : Attempt). is_over k s) (sym same) ∙ two.1))
      from_either z here goes (inr quiescent) =
          unreceived_by z e goes (heads s.links (with_end e z) e) refl
          (λ h. settled_by z e goes row here (any_none (is_headed s) s.attempts (unmapped (committing commit.Head) (find (is_headed s) s.attempts) quiescent)) h)

      by_open : (o : Option OpenEntry) → s.current ≡ o → (z : Attempt) → numbered s.attempts row ≡ Some z → z.row.ended ≡ None
          → is_unreceived s.calls s.attempts s.links (with_end e z) ≡ true
      by_open None at z here goes =
          let bad : None ≡ Some (action.AttemptEnds row e) = sym (ap (option_and_then (following_in s)) at) ∙ next in absurd (cc)
      by_open (Some o) at z here goes =
          from_either z here goes (cut_or_quiescent o s row e (sym (ap (option_and_then (following_in s)) at) ∙ next))

  -- a stream is opened for an attempt that goes on
  stream_fits : (link : ℕ) (x : Sent) → FitsReceived (action.FrameWritten link x) s
  stream_fits link x l a q on waits at =
      let two : IsIn (λ (k : Attempt). is_none k.row.stream) (outstanding_on l s) a = from_filter (λ (k : Attempt). is_none k.row.stream) (outstanding_on l s) 0 a waits in
      let one : IsIn (is_outstanding_on l) s.attempts a = from_filter (is_outstanding_on l) s.attempts two.index a two.at in
      let place : a.place ≡ suc one.index = counted_at (λ (z : Attempt). z.place) s.attempts (suc one.index) a kept.attempts one.at in
      let same : a ≡ q = one_of (numbered s.attempts a.place) a q (ap (numbered s.attempts) place ∙ one.at) at in
      ap (λ (z : Attempt). is_none z.row.ended) (sym same) ∙ goes_on (is_some a.row.placed) (is_none a.row.ended) (holds (λ (z : Placed). z.link == l.number) a.row.placed) one.pass
    where
      goes_on : (p q r : Bool) → ((p && q) && r) ≡ true → q ≡ true
      goes_on true true r e = refl
      goes_on true false r e = absurd (cc)
      goes_on false q r e = absurd (cc)

  -- nothing that is read later was seen
  read_fits : (early : IsEarlyKept s) (link : ℕ) (r : ReadFrame) → following s ≡ Some (action.FrameRead link r) → FitsReceived (action.FrameRead link r) s
  read_fits early link r next = by_open s.current refl
    where
      by_open : (o : Option OpenEntry) → s.current ≡ o → FitsReceived (action.FrameRead link r) s
      by_open None at = let bad : None ≡ Some (action.FrameRead link r) = sym (ap (option_and_then (following_in s)) at) ∙ next in absurd (cc)
      by_open (Some o) at = next_actions_fit o s (action.FrameRead link r) kept early at next

  pub received_fits : (early : IsEarlyKept s) (x : Action) → IsNext x s → FitsReceived x s
  received_fits early (action.AttemptPlaced row at) next = next_fits s (action.AttemptPlaced row at) kept early next
  received_fits early (action.AttemptEnds row e) next = end_fits row e next
  received_fits early (action.FrameRead link r) next = read_fits early link r next
  received_fits early (action.FrameWritten link x) next = stream_fits link x
  received_fits early _ next = tt
