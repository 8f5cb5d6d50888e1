-- An attempt that the server did not process, or that was never sent, ends: a transparent retry follows it at once.
use Rattle.std.proofs.Common.{◌≡◌, ◌∷◌, ◌++◌, ◌&&◌, ◌||◌, ◌==◌, not, ap, refl, subst, sym, ◌∙◌, Bool, true, false, [], Option, None, Some, ℕ, if◌then◌else◌, is_none, is_some, option_map}
use Rattle.std.proofs.lemmas.Bool.{and_left, and_right}
use Rattle.std.specs.List.{list_any}
use Rattle.attempt_buffer.specs.Buffers.{closed}
use Rattle.attempt_ledger.specs.Ends.{is_cut}
use Rattle.attempt_ledger.specs.TransparentRows as followers
use Rattle.attempt_ledger.specs.TransparentRows.{is_by_peer, is_refused}
use Rattle.attempt_ledger.specs.declared.row.RowCause.{RowCause}
use Rattle.attempt_ledger.specs.declared.row.RowCause.TheVariants as cause
use Rattle.attempt_ledger.specs.declared.row.RowEnd.{RowEnd}
use Rattle.attempt_ledger.specs.declared.row.RowKind.TheVariants as kind
use Rattle.call_actions.proofs.Columns as columns
use Rattle.call_actions.proofs.Ends.Frames as ending
use Rattle.call_actions.proofs.Ends.Frames.{ended_by, with_end_at}
use Rattle.call_actions.proofs.Ends.Rows as endrows
use Rattle.call_actions.proofs.Ends.Rows.{unended_by}
use Rattle.call_actions.proofs.Frames as frames
use Rattle.call_actions.proofs.Frames.{holds_same}
use Rattle.call_actions.proofs.Judging.{follow_is}
use Rattle.call_actions.proofs.Lists.{any_none}
use Rattle.call_actions.proofs.Places.{found_live, place_is}
use Rattle.call_actions.proofs.Ranks.{any_map_all, numbered_map}
use Rattle.call_actions.proofs.Transparent.{IsFollowed, is_made_again, made_again}
use Rattle.call_actions.proofs.Uncounted as quietly
use Rattle.call_actions.proofs.Uncounted.{gone}
use Rattle.call_actions.specs.Laws.{IsEnding, RefusedAreRetried, news_of}
use Rattle.call_actions.specs.Order.{IsInOrder, IsInTurn, Keeps}
use Rattle.call_actions.specs.Sees.{Sees, is_live, live_row}
use Rattle.call_core.specs.Parts as parts
use Rattle.call_core.specs.Parts.{find_live, names, row_end}
use Rattle.call_core.specs.Steps as steps
use Rattle.call_core.specs.Steps.{Stepped, ended_if_live, left_live, row_added, row_ended, settled, stamp_if, with_attempts}
use Rattle.call_core.specs.declared.live.LiveRow.{LiveRow}
use Rattle.session_actions.specs.AttemptEnds.{attempt_ended, end_of}
use Rattle.session_actions.specs.Attempts.{commitment, is_of, is_over, is_to_follow, wants_follower, wants_follower_by, was_refused, was_retried_so}
use Rattle.session_actions.specs.Entries.{next_word, now}
use Rattle.session_actions.specs.Making.{attempt_made}
use Rattle.session_actions.specs.Words.{holds}
use Rattle.session_actions.specs.declared.attempt.Attempt.{Attempt}
use Rattle.session_actions.specs.declared.call.Call.{Call}
use Rattle.session_actions.specs.declared.response.Outcome.{Outcome}
use Rattle.session_actions.specs.declared.seen.Seen.{Seen}

none_of : {X : Type 0} (o : Option X) → is_none o ≡ true → o ≡ None
none_of None e = refl
none_of (Some x) e = absurd (cc)

free_is : (o : Option Attempt) → is_none o ≡ not (is_some (option_map (λ (q : Attempt). q.place) o))
free_is None = refl
free_is (Some q) = refl

-- what the channel takes for a refusal is one
refusal_is : (why : RowCause) (unseen free retried : Bool) → (followers.is_unsent why || (unseen && is_by_peer why && free && not retried)) ≡ true
    → (unseen && is_by_peer why) ≡ parts.is_refusal why
refusal_is cause.Reset true free retried e = refl
refusal_is cause.Reset false free retried e = absurd (cc)
refusal_is cause.Goaway true free retried e = refl
refusal_is cause.Goaway false free retried e = absurd (cc)
refusal_is _ unseen free retried e = and_right unseen false refl

waits_if : (mine wants before : Bool) → wants ≡ before → (mine && before) ≡ false → (mine && true && wants) ≡ false
waits_if true wants before same quiescent = same ∙ quiescent
waits_if false wants before same quiescent = refl

waits_by : (b mine : Bool) (wants before : Bool) → (b ≡ false → wants ≡ before) → (mine && before) ≡ false → (mine && not b && wants) ≡ false
waits_by true mine wants before same quiescent = and_left (mine && false) wants (and_right mine false refl)
waits_by false mine wants before same quiescent = waits_if mine wants before (same refl) quiescent

module _ (s : Seen) (c : Call) (x : Stepped) (place : ℕ) (a : Attempt) (out : Outcome) (h : Sees s c x) (o : IsInOrder s c) (turn : IsInTurn s c)
    (g : IsEnding s c place a out) (goes_on : c.end ≡ None) (free : commitment c s ≡ None) (follows : is_to_follow c out.cause out.unseen s ≡ true)
    (quiescent : list_any (λ (q : Attempt). is_of c q && wants_follower q s) s.attempts ≡ false) where
  unended : a.row.ended ≡ None
  unended = none_of a.row.ended (unended_by (is_of c a) (is_some a.row.placed) (is_none a.row.placed) (is_none a.row.ended) (is_over a s) g.lives)

  quiet : (not (is_cut out.cause) && not (is_to_follow c out.cause out.unseen s)) ≡ false
  quiet = and_right (not (is_cut out.cause)) (not (is_to_follow c out.cause out.unseen s)) (ap (λ (b : Bool). not b) follows)

  abbrev e : RowEnd
  e = end_of a out s

  abbrev put : Attempt → Attempt
  put q = with_end_at place e q

  abbrev base : Seen
  base = quietly.base s c x place a out h o turn g.there g.own unended quiet

  abbrev t : Seen
  t = quietly.t s c x place a out h o turn g.there g.own unended quiet

  abbrev d : Call
  d = quietly.d s c x place a out h o turn g.there g.own unended quiet

  ends : ending.Ends s c place a s.runs
  ends = quietly.ends s c x place a out h o turn g.there g.own unended quiet

  abbrev there : Attempt → Bool
  there q = ending.was_there s c place a e s.runs ends q

  end_here : ended_by place e a ≡ Some e
  end_here = ending.end_here s c place a e s.runs ends

  -- no other attempt waits for its follower then
  wants_same : (q : Attempt) → (q.place == place) ≡ false → wants_follower (put q) t ≡ wants_follower q s
  wants_same q off =
      ap (λ (b : Bool). holds (wants_follower_by (put q) t) (if b then Some e else q.row.ended)) off
      ∙ holds_same (wants_follower_by (put q) t) (wants_follower_by q s)
      (λ z. frames.wants_same base c.number (λ k. k.messages) (λ k. k.finished) (λ k. k.taken) (λ k. k.end_taken) (λ k. k.marks ++ endrows.w s c x place a e s.runs h o ends g.own ∷ []) (λ k. k.end)
      (endrows.now_open s c x place a e s.runs h o ends g.own) (put q) z
      ∙ columns.wants_same s ending.placed_before (ended_by place e) there (ending.writes s c place a e s.runs ends) q z) q.row.ended

  quiescent_then : list_any (λ (q : Attempt). is_of d q && not (q.place == place) && wants_follower q t) t.attempts ≡ false
  quiescent_then =
      any_map_all (λ (q : Attempt). is_of d q && not (q.place == place) && wants_follower q t) (λ (q : Attempt). is_of c q && not (q.place == place) && wants_follower (put q) t) put
      (λ q. refl) s.attempts
      ∙ any_none (λ (q : Attempt). is_of c q && not (q.place == place) && wants_follower (put q) t) (λ (q : Attempt). is_of c q && wants_follower q s)
      (λ q good. waits_by (q.place == place) (is_of c q) (wants_follower (put q) t) (wants_follower q s) (wants_same q) good) s.attempts quiescent

  is_followed_then : IsFollowed t d place (put a) e
  is_followed_then = record {
    got = numbered_map put s.attempts place ∙ ap (option_map put) g.there;
    own = g.own;
    ended = end_here;
    unfollowed = columns.followed_same s ending.placed_before (ended_by place e) there (ending.writes s c place a e s.runs ends) a
        ∙ quietly.unfollowed s c x place a out h o turn g.there g.own unended quiet;
    follows = columns.follow_same s ending.placed_before (ended_by place e) there (ending.writes s c place a e s.runs ends) out.cause out.unseen c ∙ follows;
    goes_on = goes_on;
    free = columns.commitment_same s ending.placed_before (ended_by place e) there (ending.writes s c place a e s.runs ends) c ∙ ap (option_map put) free;
    quiescent = quiescent_then;
  }

  abbrev refusal : Bool
  refusal = parts.is_refusal out.cause

  same_refusal : was_refused (put a) ≡ refusal
  same_refusal = ap (holds is_refused) end_here ∙ refusal_is out.cause out.unseen (is_none (commitment c s)) (was_retried_so c s) follows

  -- what the channel makes of it
  abbrev there_end : RowEnd
  there_end = row_end (news_of a out s) x.ledger.entry (now s) (parts.count_of x.tokens)

  abbrev stamp : ℕ → Option ℕ → Option ℕ → RowEnd
  stamp at tokens word = record there_end { entry = at; tokens = tokens; word = word }

  same_end : e ≡ there_end
  same_end =
      ap (λ (k : ℕ). stamp k e.tokens e.word) h.entry_is
      ∙ ap (λ (k : Option ℕ). stamp x.ledger.entry k e.word) (quietly.tokens_same s c x place a out h o turn g.there g.own unended quiet)
      ∙ ap (stamp x.ledger.entry (parts.count_of x.tokens)) (quietly.word_none s c x place a out h o turn g.there g.own unended quiet)

  abbrev channel : ℕ → RowEnd → Stepped
  channel p z = made_again p a.row.number refusal (now s) (gone (closed p x.call.buffer) x.acts p z x)

  followed_there : parts.is_followed x.call.attempts out.cause out.unseen ≡ true
  followed_there =
      ap (λ (b : Bool). parts.is_unsent out.cause || (parts.is_refusal out.cause && out.unseen && not (is_some x.call.attempts.committed) && not b)) (sym h.attempts.refused)
      ∙ ap (λ (z : Option ℕ). parts.is_unsent out.cause || (parts.is_refusal out.cause && out.unseen && not (is_some z) && not (was_retried_so c s))) (sym h.attempts.committed)
      ∙ ap (λ (b : Bool). parts.is_unsent out.cause || (parts.is_refusal out.cause && out.unseen && b && not (was_retried_so c s))) (sym (free_is (commitment c s)))
      ∙ sym (follow_is out.cause out.unseen (is_none (commitment c s)) (was_retried_so c s)) ∙ follows

  found : find_live place x.call.live ≡ Some (live_row a)
  found = ap (find_live place) (sym h.live) ∙ found_live (is_live s c) place a g.lives s.attempts o.places g.there

  free_then : x.call.attempts.committed ≡ None
  free_then = sym h.attempts.committed ∙ ap (option_map (λ (q : Attempt). q.place)) free

  abbrev with_stamp : Option ℕ → Stepped
  with_stamp k =
      with_attempts (parts.followed_attempts a.place (steps.next_place (row_ended a.place there_end (left_live a.place x)).ledger) refusal x.call.attempts)
      (row_added a.row.number kind.Transparent (now s) (stamp_if (names a.place k) x.ledger.entry) (row_ended a.place there_end (left_live a.place x)))

  channel_is : steps.ended_at place (news_of a out s) (now s) (next_word s) x ≡ channel place e
  channel_is =
      ap (λ (r : Option LiveRow). ended_if_live r (news_of a out s) (now s) (next_word s) x) found
      ∙ ap (λ (b : Bool). if b then steps.followed (live_row a) (news_of a out s) (now s) (left_live a.place x)
      else steps.counted (live_row a) (news_of a out s) (now s) (next_word s) (settled (news_of a out s) (left_live a.place x))) followed_there
      ∙ ap with_stamp free_then
      ∙ ap (λ (p : ℕ). channel p there_end) (place_is place s.attempts a o.places g.there) ∙ ap (channel place) (sym same_end)

  pub is_retried_again : Keeps (attempt_made c.number a.row.number kind.Transparent (now s) (attempt_ended place e s)) c.number
      (steps.ended_at place (news_of a out s) (now s) (next_word s) x)
  is_retried_again =
      subst (λ (z : Seen). Keeps (attempt_made c.number a.row.number kind.Transparent (now s) z) c.number (steps.ended_at place (news_of a out s) (now s) (next_word s) x))
      (sym (quietly.is_ended s c x place a out h o turn g.there g.own unended quiet))
      (subst (λ (y : Stepped). Keeps (attempt_made c.number a.row.number kind.Transparent (now s) t) c.number y) (sym channel_is)
      (is_made_again t d (gone (closed place x.call.buffer) x.acts place e x) place (put a) e (now s) refusal
      (quietly.sees_now s c x place a out h o turn g.there g.own unended quiet (closed place x.call.buffer) x.acts)
      (quietly.order_now s c x place a out h o turn g.there g.own unended quiet) is_followed_then same_refusal))

pub refused_are_retried : RefusedAreRetried
refused_are_retried s c x place a out h o turn g goes_on free follows quiescent = is_retried_again s c x place a out h o turn g goes_on free follows quiescent
