-- The attempt to which a call is committed ends and was never sent: a transparent retry follows it at once, and takes the commitment over.
use Rattle.std.proofs.Common.{◌≡◌, ◌+◌, ◌∷◌, arith, List, suc, length, map, ◌++◌, ◌&&◌, ◌||◌, ◌==◌, not, ap, refl, subst, sym, ◌∙◌, Bool, true, false, [], Option, None, Some, ℕ, if◌then◌else◌, is_none, is_some, option_map}
use Rattle.std.proofs.lemmas.Bool.{and_left, and_right, or_right}
use Rattle.std.specs.List.{list_any}
use Rattle.attempt_buffer.specs.Buffers.{closed}
use Rattle.attempt_ledger.specs.Ends.{is_cut}
use Rattle.attempt_ledger.specs.TransparentRows as followers
use Rattle.attempt_ledger.specs.TransparentRows.{is_by_peer, is_refused}
use Rattle.attempt_ledger.specs.declared.row.RowCause.{RowCause}
use Rattle.attempt_ledger.specs.declared.row.RowCause.TheVariants as cause
use Rattle.attempt_ledger.specs.declared.row.RowEnd.{RowEnd}
use Rattle.attempt_ledger.specs.declared.row.RowKind.TheVariants as kind
use Rattle.call_actions.proofs.Columns as columns
use Rattle.call_actions.proofs.Ends.Frames as ending
use Rattle.call_actions.proofs.Ends.Frames.{ended_by, with_end_at}
use Rattle.call_actions.proofs.Ends.Rows as endrows
use Rattle.call_actions.proofs.Ends.Rows.{unended_by}
use Rattle.call_actions.proofs.Frames as frames
use Rattle.call_actions.proofs.Frames.{holds_same}
use Rattle.call_actions.proofs.Judging.{follow_is}
use Rattle.call_actions.proofs.Lists.{any_none}
use Rattle.call_actions.proofs.Places.{found_live, place_is}
use Rattle.call_actions.proofs.Ranks.{any_map_all, find_last_more, numbered_map}
use Rattle.call_actions.proofs.LastEnds.Following as following
use Rattle.call_actions.proofs.LastEnds.Following.{IsTaken}
use Rattle.call_actions.proofs.LastEnds.Inheriting as inheriting
use Rattle.call_actions.specs.LastEnds.Laws.{CommittedAreRetried}
use Rattle.call_actions.proofs.TakeActions.CutRows.{changed_prefix}
use Rattle.call_actions.proofs.Committing.{committed_at}
use Rattle.call_actions.proofs.Lists.{numbered_last}
use Rattle.ledger_stamps.specs.Steps as stamps
use Rattle.attempt_ledger.specs.declared.row.Row.{Row}
use Rattle.session_actions.specs.Commitments.{call_committed}
use Rattle.std.proofs.lemmas.Bool.{eq-eqb}
use Rattle.std.proofs.lemmas.List.{length-map, map-append}
use Rattle.std.specs.Option.{option_or}
use Rattle.session_actions.specs.Words.{find_last}
use Rattle.call_actions.proofs.Uncounted as quietly
use Rattle.call_actions.proofs.Uncounted.{gone}
use Rattle.call_actions.specs.Laws.{IsEnding, news_of}
use Rattle.call_actions.specs.Order.{IsInOrder, IsInTurn, Keeps}
use Rattle.call_actions.specs.Sees.{Sees, is_live, live_row}
use Rattle.call_core.specs.Parts as parts
use Rattle.call_core.specs.Parts.{find_live, names, row_end}
use Rattle.call_core.specs.Steps as steps
use Rattle.call_core.specs.Steps.{Stepped, ended_if_live, left_live, row_added, row_ended, settled, stamp_if, with_attempts}
use Rattle.call_core.specs.declared.live.LiveRow.{LiveRow}
use Rattle.session_actions.specs.AttemptEnds.{attempt_ended, end_of}
use Rattle.session_actions.specs.Attempts.{commitment, is_commitment, is_of, is_over, is_to_follow, wants_follower, wants_follower_by, was_refused, was_retried_so}
use Rattle.session_actions.specs.Entries.{entry, next_word, now}
use Rattle.session_actions.specs.Making.{attempt_made}
use Rattle.session_actions.specs.Words.{holds, numbered}
use Rattle.session_actions.specs.declared.attempt.Attempt.{Attempt}
use Rattle.session_actions.specs.declared.call.Call.{Call}
use Rattle.session_actions.specs.declared.response.Outcome.{Outcome}
use Rattle.session_actions.specs.declared.seen.Seen.{Seen}

last_found : (p : Attempt → Bool) (y : Attempt) (xs : List Attempt) → p y ≡ true → find_last p (xs ++ y ∷ []) ≡ Some y
last_found p y [] e = ap (λ (b : Bool). option_or None (if b then Some y else None)) e
last_found p y (x ∷ xs) e = ap (λ (o : Option Attempt). option_or o (if p x then Some x else None)) (last_found p y xs e)

none_of : {X : Type 0} (o : Option X) → is_none o ≡ true → o ≡ None
none_of None e = refl
none_of (Some x) e = absurd (cc)

free_is : (o : Option Attempt) → is_none o ≡ not (is_some (option_map (λ (q : Attempt). q.place) o))
free_is None = refl
free_is (Some q) = refl

-- what the channel takes for a refusal is one
refusal_is : (why : RowCause) (unseen free retried : Bool) → (followers.is_unsent why || (unseen && is_by_peer why && free && not retried)) ≡ true
    → (unseen && is_by_peer why) ≡ parts.is_refusal why
refusal_is cause.Reset true free retried e = refl
refusal_is cause.Reset false free retried e = absurd (cc)
refusal_is cause.Goaway true free retried e = refl
refusal_is cause.Goaway false free retried e = absurd (cc)
refusal_is _ unseen free retried e = and_right unseen false refl

waits_if : (mine wants before : Bool) → wants ≡ before → (mine && before) ≡ false → (mine && true && wants) ≡ false
waits_if true wants before same quiescent = same ∙ quiescent
waits_if false wants before same quiescent = refl

waits_by : (b mine : Bool) (wants before : Bool) → (b ≡ false → wants ≡ before) → (mine && before) ≡ false → (mine && not b && wants) ≡ false
waits_by true mine wants before same quiescent = and_left (mine && false) wants (and_right mine false refl)
waits_by false mine wants before same quiescent = waits_if mine wants before (same refl) quiescent

module _ (s : Seen) (c : Call) (x : Stepped) (place : ℕ) (a : Attempt) (out : Outcome) (h : Sees s c x) (o : IsInOrder s c) (turn : IsInTurn s c)
    (g : IsEnding s c place a out) (goes_on : c.end ≡ None) (held : commitment c s ≡ Some a) (follows : is_to_follow c out.cause out.unseen s ≡ true)
    (quiescent : list_any (λ (q : Attempt). is_of c q && wants_follower q s) s.attempts ≡ false) where
  unended : a.row.ended ≡ None
  unended = none_of a.row.ended (unended_by (is_of c a) (is_some a.row.placed) (is_none a.row.placed) (is_none a.row.ended) (is_over a s) g.lives)

  quiet : (not (is_cut out.cause) && not (is_to_follow c out.cause out.unseen s)) ≡ false
  quiet = and_right (not (is_cut out.cause)) (not (is_to_follow c out.cause out.unseen s)) (ap (λ (b : Bool). not b) follows)

  abbrev e : RowEnd
  e = end_of a out s

  abbrev put : Attempt → Attempt
  put q = with_end_at place e q

  abbrev base : Seen
  base = quietly.base s c x place a out h o turn g.there g.own unended quiet

  abbrev t : Seen
  t = quietly.t s c x place a out h o turn g.there g.own unended quiet

  abbrev d : Call
  d = quietly.d s c x place a out h o turn g.there g.own unended quiet

  ends : ending.Ends s c place a s.runs
  ends = quietly.ends s c x place a out h o turn g.there g.own unended quiet

  abbrev there : Attempt → Bool
  there q = ending.was_there s c place a e s.runs ends q

  end_here : ended_by place e a ≡ Some e
  end_here = ending.end_here s c place a e s.runs ends

  -- no other attempt waits for its follower then
  wants_same : (q : Attempt) → (q.place == place) ≡ false → wants_follower (put q) t ≡ wants_follower q s
  wants_same q off =
      ap (λ (b : Bool). holds (wants_follower_by (put q) t) (if b then Some e else q.row.ended)) off
      ∙ holds_same (wants_follower_by (put q) t) (wants_follower_by q s)
      (λ z. frames.wants_same base c.number (λ k. k.messages) (λ k. k.finished) (λ k. k.taken) (λ k. k.end_taken) (λ k. k.marks ++ endrows.w s c x place a e s.runs h o ends g.own ∷ []) (λ k. k.end)
      (endrows.now_open s c x place a e s.runs h o ends g.own) (put q) z
      ∙ columns.wants_same s ending.placed_before (ended_by place e) there (ending.writes s c place a e s.runs ends) q z) q.row.ended

  quiescent_then : list_any (λ (q : Attempt). is_of d q && not (q.place == place) && wants_follower q t) t.attempts ≡ false
  quiescent_then =
      any_map_all (λ (q : Attempt). is_of d q && not (q.place == place) && wants_follower q t) (λ (q : Attempt). is_of c q && not (q.place == place) && wants_follower (put q) t) put
      (λ q. refl) s.attempts
      ∙ any_none (λ (q : Attempt). is_of c q && not (q.place == place) && wants_follower (put q) t) (λ (q : Attempt). is_of c q && wants_follower q s)
      (λ q good. waits_by (q.place == place) (is_of c q) (wants_follower (put q) t) (wants_follower q s) (wants_same q) good) s.attempts quiescent

  is_taken_then : IsTaken t d place (put a) e
  is_taken_then = record {
    got = numbered_map put s.attempts place ∙ ap (option_map put) g.there;
    own = g.own;
    ended = end_here;
    unfollowed = columns.followed_same s ending.placed_before (ended_by place e) there (ending.writes s c place a e s.runs ends) a
        ∙ quietly.unfollowed s c x place a out h o turn g.there g.own unended quiet;
    follows = columns.follow_same s ending.placed_before (ended_by place e) there (ending.writes s c place a e s.runs ends) out.cause out.unseen c ∙ follows;
    goes_on = goes_on;
    held = columns.commitment_same s ending.placed_before (ended_by place e) there (ending.writes s c place a e s.runs ends) c ∙ ap (option_map put) held;
    quiescent = quiescent_then;
  }

  abbrev refusal : Bool
  refusal = parts.is_refusal out.cause

  same_refusal : was_refused (put a) ≡ refusal
  same_refusal = ap (holds is_refused) end_here ∙ refusal_is out.cause out.unseen (is_none (commitment c s)) (was_retried_so c s) follows

  -- what the channel makes of it
  abbrev there_end : RowEnd
  there_end = row_end (news_of a out s) x.ledger.entry (now s) (parts.count_of x.tokens)

  abbrev stamp : ℕ → Option ℕ → Option ℕ → RowEnd
  stamp at tokens word = record there_end { entry = at; tokens = tokens; word = word }

  same_end : e ≡ there_end
  same_end =
      ap (λ (k : ℕ). stamp k e.tokens e.word) h.entry_is
      ∙ ap (λ (k : Option ℕ). stamp x.ledger.entry k e.word) (quietly.tokens_same s c x place a out h o turn g.there g.own unended quiet)
      ∙ ap (stamp x.ledger.entry (parts.count_of x.tokens)) (quietly.word_none s c x place a out h o turn g.there g.own unended quiet)

  followed_there : parts.is_followed x.call.attempts out.cause out.unseen ≡ true
  followed_there =
      ap (λ (b : Bool). parts.is_unsent out.cause || (parts.is_refusal out.cause && out.unseen && not (is_some x.call.attempts.committed) && not b)) (sym h.attempts.refused)
      ∙ ap (λ (z : Option ℕ). parts.is_unsent out.cause || (parts.is_refusal out.cause && out.unseen && not (is_some z) && not (was_retried_so c s))) (sym h.attempts.committed)
      ∙ ap (λ (b : Bool). parts.is_unsent out.cause || (parts.is_refusal out.cause && out.unseen && b && not (was_retried_so c s))) (sym (free_is (commitment c s)))
      ∙ sym (follow_is out.cause out.unseen (is_none (commitment c s)) (was_retried_so c s)) ∙ follows

  found : find_live place x.call.live ≡ Some (live_row a)
  found = ap (find_live place) (sym h.live) ∙ found_live (is_live s c) place a g.lives s.attempts o.places g.there

  taken_then : x.call.attempts.committed ≡ Some a.place
  taken_then = sym h.attempts.committed ∙ ap (option_map (λ (q : Attempt). q.place)) held

  abbrev gone_at : ℕ → RowEnd → Stepped
  gone_at p z = gone (closed p x.call.buffer) x.acts p z x

  abbrev next_at : ℕ → RowEnd → ℕ
  next_at p z = steps.next_place (gone_at p z).ledger

  abbrev built : ℕ → RowEnd → Bool → Option ℕ → Option ℕ → Stepped
  built p z stopped committed stamped =
      with_attempts (record x.call.attempts { stopped = stopped; committed = committed; is_refusal_followed = x.call.attempts.is_refusal_followed || refusal })
      (row_added a.row.number kind.Transparent (now s) stamped (gone_at p z))

  stopped_then : x.call.attempts.stopped ≡ true
  stopped_then = sym h.attempts.due.stopped ∙ o.stops (ap (λ (k : Option Attempt). is_some c.end || is_some k) held ∙ or_right (is_some c.end) true refl)

  abbrev by_stamp : Option ℕ → Stepped
  by_stamp k =
      built a.place there_end x.call.attempts.stopped (if names a.place k then Some (next_at a.place there_end) else k) (stamp_if (names a.place k) x.ledger.entry)

  channel_is : steps.ended_at place (news_of a out s) (now s) (next_word s) x ≡ built place e true (Some (next_at place e)) (Some x.ledger.entry)
  channel_is =
      ap (λ (r : Option LiveRow). ended_if_live r (news_of a out s) (now s) (next_word s) x) found
      ∙ ap (λ (b : Bool). if b then steps.followed (live_row a) (news_of a out s) (now s) (left_live a.place x)
      else steps.counted (live_row a) (news_of a out s) (now s) (next_word s) (settled (news_of a out s) (left_live a.place x))) followed_there
      ∙ ap by_stamp taken_then
      ∙ ap (λ (b : Bool). built a.place there_end x.call.attempts.stopped (if b then Some (next_at a.place there_end) else Some a.place) (stamp_if b x.ledger.entry)) (eq-eqb a.place a.place refl)
      ∙ ap (λ (b : Bool). built a.place there_end b (Some (next_at a.place there_end)) (Some x.ledger.entry)) stopped_then
      ∙ ap (λ (p : ℕ). built p there_end true (Some (next_at p there_end)) (Some x.ledger.entry)) (place_is place s.attempts a o.places g.there)
      ∙ ap (λ (z : RowEnd). built place z true (Some (next_at place z)) (Some x.ledger.entry)) (sym same_end)

  -- the retry is made
  abbrev before : Stepped
  before = gone_at place e

  sees_before : Sees t d before
  sees_before = quietly.sees_now s c x place a out h o turn g.there g.own unended quiet (closed place x.call.buffer) x.acts

  order_before : IsInOrder t d
  order_before = quietly.order_now s c x place a out h o turn g.there g.own unended quiet

  abbrev new : Attempt
  new = following.new t d before place (put a) e (now s) refusal sees_before order_before is_taken_then same_refusal

  abbrev u : Seen
  u = following.t t d before place (put a) e (now s) refusal sees_before order_before is_taken_then same_refusal

  abbrev v : Call
  v = following.d t d before place (put a) e (now s) refusal sees_before order_before is_taken_then same_refusal

  abbrev y : Stepped
  y = following.after t d before place (put a) e (now s) refusal sees_before order_before is_taken_then same_refusal

  abbrev place_now : ℕ
  place_now = length t.attempts + 1

  own_now : is_of v new ≡ true
  own_now = eq-eqb c.number c.number refl

  got_now : numbered u.attempts place_now ≡ Some new
  got_now = numbered_last t.attempts new

  held_now : commitment v u ≡ Some (put a)
  held_now = find_last_more (is_commitment c) t.attempts new (and_right (is_of c new) false refl) ∙ is_taken_then.held

  -- and takes the commitment over
  abbrev stamped_at : Attempt → Attempt
  stamped_at q = committed_at place_now (entry u) q

  passes_now : is_commitment v (stamped_at new) ≡ true
  passes_now =
      ap (λ (b : Bool). is_of v new && is_some (if b then Some (entry u) else new.row.committed)) (eq-eqb place_now place_now refl) ∙ ap (λ (b : Bool). b && true) own_now

  taken_now : find_last (is_commitment v) (map stamped_at u.attempts) ≡ Some (stamped_at new)
  taken_now =
      ap (find_last (is_commitment v)) (map-append stamped_at t.attempts (new ∷ [])) ∙ last_found (is_commitment v) (stamped_at new) (map stamped_at t.attempts) passes_now

  sees_made : Sees u v y
  sees_made = following.sees_now t d before place (put a) e (now s) refusal sees_before order_before is_taken_then same_refusal

  order_made : IsInOrder u v
  order_made = following.order_now t d before place (put a) e (now s) refusal sees_before order_before is_taken_then same_refusal

  abbrev last_seen : Seen
  last_seen = inheriting.t u v y place_now new sees_made order_made got_now own_now (put a) held_now refl refl taken_now

  abbrev last_channel : Stepped
  last_channel = inheriting.after u v y place_now new sees_made order_made got_now own_now (put a) held_now refl refl taken_now

  keeps_there : Keeps last_seen c.number last_channel
  keeps_there = record {
    call = inheriting.d u v y place_now new sees_made order_made got_now own_now (put a) held_now refl refl taken_now;
    number_is = refl;
    sees = inheriting.sees_now u v y place_now new sees_made order_made got_now own_now (put a) held_now refl refl taken_now;
    order = inheriting.order_now u v y place_now new sees_made order_made got_now own_now (put a) held_now refl refl taken_now;
  }

  -- the channel's own
  abbrev new_row_with : Option ℕ → Row
  new_row_with k = steps.new_row x.call.number a.row.number kind.Transparent (now s) k

  abbrev with_rows : List Row → Stepped
  with_rows rows =
      let z : Stepped = built place e true (Some (next_at place e)) None in record z { ledger = record z.ledger { rows = rows } }

  place_same : next_at place e ≡ place_now
  place_same = following.last_place t d before place (put a) e (now s) refusal sees_before order_before is_taken_then same_refusal

  abbrev with_place : ℕ → Stepped
  with_place n =
      let z : Stepped = built place e true (Some n) None in record z { ledger = record z.ledger { rows = stamps.changed_at (stamps.committed_row x.ledger.entry) (before.ledger.rows ++ new_row_with None ∷ []) n } }

  afterwards : next_at place e ≡ suc (length before.ledger.rows)
  afterwards = omega arith

  virtual : last_channel ≡ built place e true (Some (next_at place e)) (Some x.ledger.entry)
  virtual =
      ap with_place (sym place_same)
      ∙ ap with_rows (changed_prefix (stamps.committed_row x.ledger.entry) before.ledger.rows (new_row_with None) [] (next_at place e) afterwards)

  pub is_taken_over : Keeps (call_committed (length s.attempts + 1) (attempt_made c.number a.row.number kind.Transparent (now s) (attempt_ended place e s))) c.number
      (steps.ended_at place (news_of a out s) (now s) (next_word s) x)
  is_taken_over =
      let is_ended : attempt_ended place e s ≡ t = quietly.is_ended s c x place a out h o turn g.there g.own unended quiet in
      let long : length s.attempts + 1 ≡ place_now = ap (λ (n : ℕ). n + 1) (sym (length-map s.attempts put)) in
      let whole : call_committed (length s.attempts + 1) (attempt_made c.number a.row.number kind.Transparent (now s) (attempt_ended place e s)) ≡ last_seen
      = ap (λ (z : Seen). call_committed (length s.attempts + 1) (attempt_made c.number a.row.number kind.Transparent (now s) z)) is_ended
      ∙ ap (λ (n : ℕ). call_committed n u) long
      ∙ inheriting.is_committed u v y place_now new sees_made order_made got_now own_now (put a) held_now refl refl taken_now in
      subst (λ (z : Seen). Keeps z c.number (steps.ended_at place (news_of a out s) (now s) (next_word s) x)) (sym whole)
      (subst (λ (z : Stepped). Keeps last_seen c.number z) (virtual ∙ sym channel_is) keeps_there)

pub committed_are_retried : CommittedAreRetried
committed_are_retried s c x place a out h o turn g goes_on held follows quiescent = is_taken_over s c x place a out h o turn g goes_on held follows quiescent
