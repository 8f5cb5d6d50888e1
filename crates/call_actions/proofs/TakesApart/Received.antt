-- Of the attempts of a call nothing came and nothing was written, where an action is not of it, nor what passes on a link.
use Rattle.attempt_ledger.specs.Ends.{is_cut}
use Rattle.attempt_ledger.specs.Numbering.{is_transparent}
use Rattle.attempt_ledger.specs.declared.row.Placed.{Placed}
use Rattle.attempt_ledger.specs.declared.row.RowEnd.{RowEnd}
use Rattle.call_actions.proofs.Ends.Tokens.{more_ends}
use Rattle.call_actions.proofs.Lists.{changed_away, changed_map, numbered_not}
use Rattle.call_actions.proofs.Ranks.{numbered_map}
use Rattle.call_actions.proofs.CallsApart.Acts.{others_stay}
use Rattle.call_actions.proofs.CallsApart.Kept.{call_before, call_then}
use Rattle.call_actions.specs.CallsApart.Apart.{IsApart}
use Rattle.grpc_base.specs.Limits.{message_limit}
use Rattle.grpc_base.specs.declared.address.Address.{Address}
use Rattle.grpc_base.specs.declared.event.ConfigFault.{ConfigFault}
use Rattle.grpc_base.specs.declared.event.Conn.TheVariants as conn
use Rattle.grpc_base.specs.declared.event.Event.TheVariants as event
use Rattle.grpc_base.specs.declared.event.Event.{Event}
use Rattle.grpc_base.specs.declared.event.Reply.TheVariants as reply
use Rattle.grpc_base.specs.declared.event.Reply.{Reply}
use Rattle.grpc_base.specs.declared.plan.Throttle.{Throttle}
use Rattle.h2_frame.specs.Frames.{FrameSeen}
use Rattle.h2_frame.specs.Numbers.{headers_type}
use Rattle.h2_frame.specs.Sent.{rst_stream_frame}
use Rattle.service_config.specs.Choice.{chosen_for}
use Rattle.service_config.specs.declared.config.Config.{Config}
use Rattle.session_actions.specs.Actions.{after, after_if, after_in}
use Rattle.session_actions.specs.AttemptEnds.{attempt_ended, attempt_ended_as, stream_reset_of, with_end_in_run}
use Rattle.session_actions.specs.Attempts.{call_of, is_of, is_to_follow, with_attempt}
use Rattle.session_actions.specs.Calls.{marked}
use Rattle.session_actions.specs.Closing.{noted_gone}
use Rattle.session_actions.specs.Commitments.{call_committed, with_commitment}
use Rattle.session_actions.specs.Configs.{chosen_of, config_of_call, config_read, no_choice, resolver_answered, run_to_join, with_held, with_throttled}
use Rattle.session_actions.specs.Deliveries.{call_begun_by, response_items}
use Rattle.session_actions.specs.Entries.{entry, opened, replied}
use Rattle.session_actions.specs.Links.{link_number, link_of, link_over, stream_number, wants_resolution, written_in}
use Rattle.session_actions.specs.Making.{attempt_made, new_row, with_row, without_turn_unless}
use Rattle.session_actions.specs.Policies.{addresses_given, addresses_in, attempt_placed, current_policy, given_addresses, policy_retired, policy_took_over, with_placing, with_policy}
use Rattle.session_actions.specs.Reading.{is_data_on, used}
use Rattle.session_actions.specs.Refusals.{is_gone}
use Rattle.session_actions.specs.Responses.{limit_of_attempt, no_response, response_by, response_in, response_on, traffic_of}
use Rattle.session_actions.specs.Subchannels.{dial_failed, dial_taken, dial_taken_of, gone_down, in_state, link_timed_out, new_link, noted_by_policies, settings_arrived, with_dial, with_sub, without_link}
use Rattle.session_actions.specs.Words.{changed, holds, numbered}
use Rattle.session_actions.specs.Writing.{frame_read_on, frame_written_on, owed_for, ping_of, stream_opened, stream_opened_by, waiting_on, with_frame_read, with_piece, with_stream}
use Rattle.session_actions.specs.declared.action.Action.TheVariants as action
use Rattle.session_actions.specs.declared.action.Action.{Action}
use Rattle.session_actions.specs.declared.attempt.Attempt.{Attempt}
use Rattle.session_actions.specs.declared.call.Call.{Call}
use Rattle.session_actions.specs.declared.call.MarkKind.TheVariants as mark
use Rattle.session_actions.specs.declared.call.MarkKind.{MarkKind}
use Rattle.session_actions.specs.declared.config.HeldConfig.{HeldConfig}
use Rattle.session_actions.specs.declared.entry.OpenEntry.{OpenEntry}
use Rattle.session_actions.specs.declared.link.Link.{Link}
use Rattle.session_actions.specs.declared.link.LinkOver.TheVariants as over
use Rattle.session_actions.specs.declared.link.ReadFrame.{ReadFrame}
use Rattle.session_actions.specs.declared.link.Sent.TheVariants as sent
use Rattle.session_actions.specs.declared.link.Sent.{Sent}
use Rattle.session_actions.specs.declared.link.Traffic.TheVariants as traffic
use Rattle.session_actions.specs.declared.link.Traffic.{Traffic}
use Rattle.session_actions.specs.declared.policy.PolicyUse.{PolicyUse}
use Rattle.session_actions.specs.declared.seen.Seen.{Seen}
use Rattle.session_actions.specs.declared.subchannel.Subchannel.{Subchannel}
use Rattle.std.proofs.Common.{arith, Bool, Err, List, None, Ok, Option, Result, Some, [], eq-eqb, eqb-true, false, filter_map, if◌then◌else◌, is_none, length, not, option_and_then, option_map, refl, slice_get, suc, sum_by, sym, true, zero, ℕ, ◌&&◌, ◌++◌, ◌+◌, ◌==◌, ◌||◌, ◌∙◌, ◌∷◌, ◌≡◌, ap, subst}
use Rattle.std.proofs.lemmas.Bool.{eqb-false, or_parts}
use Rattle.std.specs.List.{list_any}
use Rattle.std.specs.Option.{option_map_or}
use Rattle.call_actions.proofs.TakesApart.Passed.{IsOff, items_more, used_more}
use Rattle.call_actions.specs.TakesApart.Received.{IsReceivedAlike, has_stream, is_on, is_stream_of, passes_on, stream_of_sent}
use Rattle.call_actions.specs.TakesApart.Laws.{OthersAreReceived}

-- of a link that an attempt is on: what came on its stream, and what was written
abbrev items_on : ℕ → ℕ → Attempt → Option Link → List Reply
items_on limit stream a o = option_map_or (λ (l : Link). response_items (response_in limit stream (traffic_of a l.traffic))) o []

abbrev bytes_on : ℕ → Option Link → ℕ
bytes_on stream o = option_map_or (used stream) o 0

pub record IsLike (stream : ℕ) (a : Attempt) (o p : Option Link) : Type 0 where
  pub items : (limit : ℕ) → items_on limit stream a p ≡ items_on limit stream a o
  pub bytes : bytes_on stream p ≡ bytes_on stream o

-- the links that are there have the same traffic, or one thing more that is of another stream
same_link : (stream : ℕ) (a : Attempt) (o p : Option Link) → p ≡ o → IsLike stream a o p
same_link stream a o p e = record { items = λ limit. ap (items_on limit stream a) e; bytes = ap (bytes_on stream) e }

pub record Keeps (f : Link → Link) : Type 0 where
  pub traffic : (l : Link) → (f l).traffic ≡ l.traffic

kept_link : (stream : ℕ) (a : Attempt) (f : Link → Link) → Keeps f → (o : Option Link) → IsLike stream a o (option_map f o)
kept_link stream a f k None = record { items = λ limit. refl; bytes = refl }
kept_link stream a f k (Some l) = record {
  items = λ limit. ap (λ (ts : List Traffic). response_items (response_in limit stream (traffic_of a ts))) (k.traffic l);
  bytes = ap (λ (ts : List Traffic). sum_by (λ (f : FrameSeen). if is_data_on stream f then length f.payload else 0) (filter_map written_in ts)) (k.traffic l);
}

more_link : (stream : ℕ) (a : Attempt) (f : Link → Link) (x : Traffic) → ((l : Link) → (f l).traffic ≡ l.traffic ++ x ∷ []) → IsOff stream x → (o : Option Link)
    → IsLike stream a o (option_map f o)
more_link stream a f x adds off None = record { items = λ limit. refl; bytes = refl }
more_link stream a f x adds off (Some l) = record {
  items = λ limit. ap (λ (ts : List Traffic). response_items (response_in limit stream (traffic_of a ts))) (adds l) ∙ items_more limit stream a l.traffic x off;
  bytes = ap (λ (ts : List Traffic). sum_by (λ (f : FrameSeen). if is_data_on stream f then length f.payload else 0) (filter_map written_in ts)) (adds l)
      ∙ used_more stream l.traffic x off;
}

-- the link of a number, once one of them changed, or one more came
changed_link : (stream : ℕ) (a : Attempt) (f : Link → Link) → Keeps f → (n k : ℕ) (ls : List Link) (b : Bool) → (k == n) ≡ b
    → IsLike stream a (numbered ls k) (numbered (changed f n ls) k)
changed_link stream a f keeps n k ls true e =
    let same : k ≡ n = eqb-true k n e in
    subst (λ (j : ℕ). IsLike stream a (numbered ls j) (numbered (changed f n ls) j)) (sym same)
    (subst (IsLike stream a (numbered ls n)) (sym (changed_map f n ls)) (kept_link stream a f keeps (numbered ls n)))
changed_link stream a f keeps n k ls false e = same_link stream a (numbered ls k) (numbered (changed f n ls) k) (changed_away f n k ls (eqb-false k n e))

added_link : (stream : ℕ) (a : Attempt) (f : Link → Link) (x : Traffic) → ((l : Link) → (f l).traffic ≡ l.traffic ++ x ∷ []) → (n k : ℕ) (ls : List Link) (b : Bool) → (k == n) ≡ b
    → (b ≡ true → IsOff stream x) → IsLike stream a (numbered ls k) (numbered (changed f n ls) k)
added_link stream a f x adds n k ls true e off =
    let same : k ≡ n = eqb-true k n e in
    subst (λ (j : ℕ). IsLike stream a (numbered ls j) (numbered (changed f n ls) j)) (sym same)
    (subst (IsLike stream a (numbered ls n)) (sym (changed_map f n ls)) (more_link stream a f x adds (off refl) (numbered ls n)))
added_link stream a f x adds n k ls false e off = same_link stream a (numbered ls k) (numbered (changed f n ls) k) (changed_away f n k ls (eqb-false k n e))

beyond : {X : Type 0} (xs : List X) (y : X) (k : ℕ) → (k ≡ length xs + 1 → ⊥) → numbered (xs ++ y ∷ []) k ≡ numbered xs k
beyond xs y zero off = refl
beyond [] y (suc zero) off = absurd (off refl)
beyond [] y (suc (suc i)) off = refl
beyond (x ∷ xs) y (suc zero) off = refl
beyond (x ∷ xs) y (suc (suc i)) off =
    beyond xs y (suc i) (λ e. (let same : suc (suc i) ≡ suc (length xs) + 1 = omega (arith, e) in off same))

-- what a session says of an attempt, by its link
module _ (s t : Seen) (c : Call) (k : IsApart s t c) (own : numbered s.calls c.number ≡ Some c) (a : Attempt) (mine : is_of c a ≡ true) where
  limit_same : limit_of_attempt a t ≡ limit_of_attempt a s
  limit_same =
      ap (λ (o : Option Call). option_map_or (λ (d : Call). (chosen_of d t).response) o message_limit) (call_then s t c k own a mine)
      ∙ ap (λ (o : Option HeldConfig). (option_map_or (λ (h : HeldConfig). chosen_for h.config c.request.path) o no_choice).response) k.config
      ∙ sym (ap (λ (o : Option Call). option_map_or (λ (d : Call). (chosen_of d s).response) o message_limit) (call_before s t c k own a mine))

  items_of : (z : Seen) (stream : ℕ) (o : Option Link) → response_items (option_map_or (response_on a stream z) o no_response) ≡ items_on (limit_of_attempt a z) stream a o
  items_of z stream None = refl
  items_of z stream (Some l) = refl

  came_by : (o : Option ℕ) → ((stream : ℕ) → o ≡ Some stream → IsLike stream a (link_of a s) (link_of a t)) → response_items (response_by a t o) ≡ response_items (response_by a s o)
  came_by None like = refl
  came_by (Some stream) like =
      let both : IsLike stream a (link_of a s) (link_of a t) = like stream refl in
      items_of t stream (link_of a t) ∙ ap (λ (n : ℕ). items_on n stream a (link_of a t)) limit_same ∙ both.items (limit_of_attempt a s) ∙ sym (items_of s stream (link_of a s))

  written_by : (o : Option ℕ) → ((stream : ℕ) → o ≡ Some stream → IsLike stream a (link_of a s) (link_of a t))
      → option_map_or (λ (stream : ℕ). option_map_or (used stream) (link_of a t) 0) o 0 ≡ option_map_or (λ (stream : ℕ). option_map_or (used stream) (link_of a s) 0) o 0
  written_by None like = refl
  written_by (Some stream) like = let both : IsLike stream a (link_of a s) (link_of a t) = like stream refl in both.bytes

-- each link that an attempt of the call is on
abbrev AreLike : Seen → Seen → Call → Type 0
AreLike s t c =
    (place : ℕ) (a : Attempt) → numbered s.attempts place ≡ Some a → is_of c a ≡ true → (stream : ℕ) → a.row.stream ≡ Some stream → (at : Placed) → a.row.placed ≡ Some at
    → IsLike stream a (numbered s.links at.link) (numbered t.links at.link)

on_link : (s t : Seen) (stream : ℕ) (a : Attempt) (o : Option Placed) → ((at : Placed) → o ≡ Some at → IsLike stream a (numbered s.links at.link) (numbered t.links at.link))
    → IsLike stream a (option_and_then (λ (at : Placed). numbered s.links at.link) o) (option_and_then (λ (at : Placed). numbered t.links at.link) o)
on_link s t stream a None like = record { items = λ limit. refl; bytes = refl }
on_link s t stream a (Some at) like = like at refl

pub received_alike : (s t : Seen) (c : Call) → IsApart s t c → numbered s.calls c.number ≡ Some c → AreLike s t c → IsReceivedAlike s t c
received_alike s t c k own like = record {
  came = λ place a got mine. came_by s t c k own a mine a.row.stream (λ stream e. on_link s t stream a a.row.placed (λ at f. like place a got mine stream e at f));
  written = λ place a got mine. written_by s t c k own a mine a.row.stream (λ stream e. on_link s t stream a a.row.placed (λ at f. like place a got mine stream e at f));
}

-- what an action does to links: most leave them as they are
plain_end_run : (s : Seen) (place : ℕ) (b : Bool) (o : Option ℕ)
    → (if b then option_map_or (λ (run : ℕ). record s { runs = changed (more_ends place) run s.runs }) o s else s).links ≡ s.links
plain_end_run s place false o = refl
plain_end_run s place true None = refl
plain_end_run s place true (Some run) = refl

links_of_run : (s : Seen) (a : Attempt) (e : RowEnd) (o : Option Call) → (option_map_or (with_end_in_run a e s) o s).links ≡ s.links
links_of_run s a e None = refl
links_of_run s a e (Some d) =
    plain_end_run s a.place (not (is_cut e.cause) && not (is_to_follow d e.cause e.unseen s)) (option_and_then (λ (h : HeldConfig). h.run) (config_of_call d s))

links_of_end : (s : Seen) (e : RowEnd) (o : Option Attempt) → (option_map_or (attempt_ended_as e s) o s).links ≡ s.links
links_of_end s e None = refl
links_of_end s e (Some a) = links_of_run s a e (call_of a s)

links_of_mark : (s : Seen) (what : MarkKind) (o : Option Attempt) → (option_map_or (λ (a : Attempt). marked what a.row.call s) o s).links ≡ s.links
links_of_mark s what None = refl
links_of_mark s what (Some a) = refl

links_of_turn : (b : Bool) (z : Seen) → (without_turn_unless b z).links ≡ z.links
links_of_turn true z = refl
links_of_turn false z = refl

links_of_event : (e : Event) (s : Seen) → (call_begun_by e s).links ≡ s.links
links_of_event (event.Begin request) s = refl
links_of_event _ s = refl

links_of_throttle : (config : Config) (t : Throttle) (o : Option ℕ) (z : Seen) → (with_throttled config t o z).links ≡ z.links
links_of_throttle config t None z = refl
links_of_throttle config t (Some run) z = refl

links_of_held : (config : Config) (o : Option Throttle) (z : Seen) → (with_held config o z).links ≡ z.links
links_of_held config None z = refl
links_of_held config (Some t) z = links_of_throttle config t (run_to_join t z) z

links_of_config : (x : Result Config ConfigFault) (s : Seen) → (config_read x s).links ≡ s.links
links_of_config (Ok config) s = links_of_held config config.throttle (replied reply.Done (resolver_answered s))
links_of_config (Err fault) s = refl

links_of_note : (z : Seen) (o : Option Subchannel) → (option_map_or (λ (b : Subchannel). noted_by_policies b z) o z).links ≡ z.links
links_of_note z None = refl
links_of_note z (Some b) = refl

links_of_sub : (f : Subchannel → Subchannel) (n : ℕ) (z : Seen) → (with_sub f n z).links ≡ z.links
links_of_sub f n z =
    let t : Seen = record z { subs = changed f n z.subs } in links_of_note t (numbered t.subs n)

links_of_dial : (again until : ℕ) (s : Seen) (o : Option Subchannel) → (option_map_or (dial_taken_of again until s) o s).links ≡ s.links
links_of_dial again until s None = refl
links_of_dial again until s (Some b) = links_of_sub (with_dial again until) b.number s

links_of_addresses : (g : ℕ) (s : Seen) (o : Option (List Address)) → (option_map_or (λ (addresses : List Address). with_policy (given_addresses addresses s) g s) o s).links ≡ s.links
links_of_addresses g s None = refl
links_of_addresses g s (Some addresses) = refl

links_of_policy : (s : Seen) (o : Option PolicyUse) → (option_map_or (λ (p : PolicyUse). policy_retired p.number s) o s).links ≡ s.links
links_of_policy s None = refl
links_of_policy s (Some p) = refl

links_of_stream : (f : FrameSeen) (s : Seen) (o : Option Attempt) → (option_map_or (λ (a : Attempt). with_attempt (with_stream f.stream) a.place s) o s).links ≡ s.links
links_of_stream f s None = refl
links_of_stream f s (Some a) = refl

links_of_opening : (f : FrameSeen) (l : Link) (s : Seen) (b : Bool) → (if b then stream_opened f l s else s).links ≡ s.links
links_of_opening f l s true = links_of_stream f s (slice_get (waiting_on l s) 0)
links_of_opening f l s false = refl

links_of_opened : (x : Sent) (l : Link) (s : Seen) → (stream_opened_by x l s).links ≡ s.links
links_of_opened sent.Preface l s = refl
links_of_opened (sent.Frame f) l s = links_of_opening f l s (f.kind == headers_type)

-- links that go over, or have something queued
piece_keeps : (e : Event) → Keeps (with_piece e)
piece_keeps (event.Arrived link piece) = record { traffic = λ l. refl }
piece_keeps _ = record { traffic = λ l. refl }

gone_if : (s : Seen) (l : Link) (b : Bool) → (if b then record l { gone = Some (entry s) } else l).traffic ≡ l.traffic
gone_if s l true = refl
gone_if s l false = refl

gone_keeps : (s : Seen) → Keeps (noted_gone s)
gone_keeps s = record { traffic = λ l. gone_if s l (is_none l.gone && is_gone l s) }

module _ (s : Seen) (c : Call) (a : Attempt) (place : ℕ) (got : numbered s.attempts place ≡ Some a) (mine : is_of c a ≡ true) (stream : ℕ) (on_stream : a.row.stream ≡ Some stream)
    (at : Placed) (placed : a.row.placed ≡ Some at) where
  abbrev IsLikeThen : Seen → Type 0
  IsLikeThen t = IsLike stream a (numbered s.links at.link) (numbered t.links at.link)

  same_then : (t : Seen) → t.links ≡ s.links → IsLikeThen t
  same_then t e = same_link stream a (numbered s.links at.link) (numbered t.links at.link) (ap (λ (l : List Link). numbered l at.link) e)

  over_by : (o : Option ℕ) → IsLikeThen (option_map_or (λ (link : ℕ). link_over over.TimedOut link s) o s)
  over_by None = same_then s refl
  over_by (Some n) = changed_link stream a (λ (l : Link). record l { over = Some over.TimedOut }) (record { traffic = λ l. refl }) n at.link s.links (at.link == n) refl

  timed_out_by : (o : Option Subchannel) → IsLikeThen (option_map_or (λ (b : Subchannel). link_timed_out b s) o s)
  timed_out_by None = same_then s refl
  timed_out_by (Some b) = over_by b.link

  reset_by : (number : ℕ) (o : Option Attempt) → IsLikeThen (option_map_or (stream_reset_of number s) o s)
  reset_by number None = same_then s refl
  reset_by number (Some q) =
      changed_link stream a (λ (l : Link). record l { owed = l.owed ++ rst_stream_frame (stream_number q) number ∷ [] }) (record { traffic = λ l. refl }) (link_number q) at.link s.links
      (at.link == link_number q) refl

  -- a frame on a stream of another call
  off_by : (l : Link) (x : ℕ) → has_stream c s x l ≡ false → (at.link == l.number) ≡ true → ((stream == 0) ≡ false) × ((x == stream) ≡ false)
  off_by l x off here =
      let not_it : is_stream_of c x l a ≡ false = numbered_not (is_stream_of c x l) s.attempts place a off got in
      let some : ((stream == 0) || (x == stream)) ≡ false
      = sym (ap (λ (b : Bool). (b && is_on l.number a) && holds (λ (n : ℕ). (n == 0) || (x == n)) a.row.stream) mine
      ∙ ap (λ (o : Option Placed). (true && holds (λ (p : Placed). p.link == l.number) o) && holds (λ (n : ℕ). (n == 0) || (x == n)) a.row.stream) placed
      ∙ ap (λ (b : Bool). (true && b) && holds (λ (n : ℕ). (n == 0) || (x == n)) a.row.stream) here
      ∙ ap (holds (λ (n : ℕ). (n == 0) || (x == n))) on_stream) ∙ not_it in
      or_parts (stream == 0) (x == stream) some

  read_by : (r : ReadFrame) (o : Option Link) → holds (has_stream c s r.frame.stream) o ≡ false → IsLikeThen (option_map_or (frame_read_on r s) o s)
  read_by r None off = same_then s refl
  read_by r (Some l) off =
      added_link stream a (with_frame_read r (owed_for r.frame l s)) (traffic.Read r) (λ k. refl) l.number at.link s.links (at.link == l.number) refl
      (λ here. (off_by l r.frame.stream off here).1)

  sent_off : (x : Sent) (l : Link) → stream_of_sent c s x l ≡ false → (at.link == l.number) ≡ true → IsOff stream (traffic.Written x)
  sent_off sent.Preface l off here = tt
  sent_off (sent.Frame f) l off here = off_by l f.stream off here

  written_on : (x : Sent) (l : Link) → stream_of_sent c s x l ≡ false → IsLikeThen (frame_written_on x s l)
  written_on x l off =
      subst (λ (ls : List Link). IsLike stream a (numbered s.links at.link) (numbered (changed (λ (k : Link). record k { traffic = k.traffic ++ traffic.Written x ∷ [] }) l.number ls) at.link))
      (sym (links_of_opened x l s))
      (added_link stream a (λ (k : Link). record k { traffic = k.traffic ++ traffic.Written x ∷ [] }) (traffic.Written x) (λ k. refl) l.number at.link s.links (at.link == l.number) refl
      (λ here. sent_off x l off here))

  written_by_frame : (x : Sent) (o : Option Link) → holds (stream_of_sent c s x) o ≡ false → IsLikeThen (option_map_or (frame_written_on x s) o s)
  written_by_frame x None off = same_then s refl
  written_by_frame x (Some l) off = written_on x l off

  up_off : list_any (λ (q : Attempt). is_of c q && is_on (length s.links + 1) q) s.attempts ≡ false → at.link ≡ length s.links + 1 → ⊥
  up_off off here =
      let not_it : (is_of c a && is_on (length s.links + 1) a) ≡ false
      = numbered_not (λ (q : Attempt). is_of c q && is_on (length s.links + 1) q) s.attempts place a off got in
      let both : true ≡ false
      = sym (ap (λ (b : Bool). b && is_on (length s.links + 1) a) mine ∙ ap (holds (λ (p : Placed). p.link == length s.links + 1)) placed ∙ eq-eqb at.link (length s.links + 1) here) ∙ not_it in
      absurd (cc)

  act : (o : OpenEntry) (x : Action) → passes_on x s c ≡ false → IsLikeThen (after_in o x s)
  act o action.CallBegins off = same_then (call_begun_by o.event s) (links_of_event o.event s)
  act o (action.ConfigRead x) off = same_then (config_read x s) (links_of_config x s)
  act o (action.AttemptMade n number k due) off = same_then (attempt_made n number k due s) (links_of_turn (is_transparent k) (marked (mark.Made (length s.attempts + 1)) n (with_row (new_row n number k due) s)))
  act o (action.AttemptPlaced row where_to) off =
      same_then (attempt_placed row where_to s) (links_of_mark (with_attempt (with_placing where_to) row s) (mark.Placed row) (numbered (with_attempt (with_placing where_to) row s).attempts row))
  act o (action.AttemptEnds row e) off = same_then (attempt_ended row e s) (links_of_end s e (numbered s.attempts row))
  act o (action.CallCommitted row why) off =
      same_then (call_committed row s) (links_of_mark (with_attempt (with_commitment (entry s)) row s) mark.Committed (numbered (with_attempt (with_commitment (entry s)) row s).attempts row))
  act o (action.StreamReset row number) off = reset_by number (numbered s.attempts row)
  act o action.EntryCloses off =
      subst (IsLike stream a (numbered s.links at.link)) (sym (numbered_map (noted_gone s) s.links at.link)) (kept_link stream a (noted_gone s) (gone_keeps s) (numbered s.links at.link))
  act o (action.AddressesGiven g) off = same_then (addresses_given g o.event s) (links_of_addresses g s (addresses_in o.event))
  act o (action.PolicyTakesOver g) off = same_then (policy_took_over g s) (links_of_policy s (current_policy s))
  act o (action.SubchannelShut sub) off = same_then (after_in o (action.SubchannelShut sub) s) (links_of_sub (without_link conn.Shutdown) sub s)
  act o (action.SubchannelConnects sub) off = same_then (after_in o (action.SubchannelConnects sub) s) (links_of_sub (in_state conn.Connecting) sub s)
  act o (action.DialTaken sub again until) off = same_then (dial_taken sub again until s) (links_of_dial again until s (numbered s.subs sub))
  act o (action.DialFails sub) off = same_then (dial_failed sub s) (links_of_sub (without_link conn.Failure) sub (wants_resolution s))
  act o (action.ConnectTimesOut sub) off =
      subst (λ (ls : List Link). IsLike stream a (numbered s.links at.link) (numbered ls at.link))
      (sym (links_of_sub (without_link conn.Failure) sub (wants_resolution (option_map_or (λ (b : Subchannel). link_timed_out b s) (numbered s.subs sub) s))))
      (timed_out_by (numbered s.subs sub))
  act o (action.BackoffEnds sub) off = same_then (after_in o (action.BackoffEnds sub) s) (links_of_sub (in_state conn.Idle) sub s)
  act o (action.LinkUp sub) off =
      subst (λ (ls : List Link). IsLike stream a (numbered s.links at.link) (numbered ls at.link))
      (sym (links_of_sub (λ (b : Subchannel). record b { link = Some (length s.links + 1) }) sub (record s { links = s.links ++ new_link (length s.links + 1) sub s ∷ [] })))
      (same_link stream a (numbered s.links at.link) (numbered (s.links ++ new_link (length s.links + 1) sub s ∷ []) at.link)
      (beyond s.links (new_link (length s.links + 1) sub s) at.link (up_off off)))
  act o (action.SettingsArrive sub) off = same_then (settings_arrived sub s) (links_of_sub (λ (b : Subchannel). record b { state = conn.Ready; dials = 0; until = None }) sub s)
  act o (action.LinkDown sub) off = same_then (after_in o (action.LinkDown sub) s) (links_of_sub gone_down sub s)
  act o (action.BytesArrive link) off = changed_link stream a (with_piece o.event) (piece_keeps o.event) link at.link s.links (at.link == link) refl
  act o (action.FrameRead link r) off = read_by r (numbered s.links link) off
  act o (action.FrameWritten link x) off = written_by_frame x (numbered s.links link) off
  act o (action.LinkBreaks link number) off =
      changed_link stream a (λ (l : Link). record l { over = Some over.Broken }) (record { traffic = λ l. refl }) link at.link s.links (at.link == link) refl
  act o (action.LinkLost link) off =
      changed_link stream a (λ (l : Link). record l { over = Some over.Lost }) (record { traffic = λ l. refl }) link at.link s.links (at.link == link) refl
  act o (action.PingQueued link) off =
      changed_link stream a (λ (l : Link). record l { owed = l.owed ++ ping_of o.event }) (record { traffic = λ l. refl }) link at.link s.links (at.link == link) refl
  act o x off = same_then (after_in o x s) refl

  act_if : (o : Option OpenEntry) (x : Action) → passes_on x s c ≡ false → IsLikeThen (after_if o x s)
  act_if (Some o) x off = act o x off
  act_if None (action.EntryOpens posted word e) off = same_then (opened posted word e s) refl
  act_if None x off = same_then s refl

pub others_are_received : OthersAreReceived
others_are_received s c x book own off passes =
    received_alike s (after x s) c (others_stay s c x book own off) own
    (λ place a got mine stream on_stream at placed. act_if s c a place got mine stream on_stream at placed s.current x passes)
