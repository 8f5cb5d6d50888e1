-- So it is after each of the 41 actions.
use Rattle.attempt_ledger.specs.Numbering.{is_transparent}
use Rattle.attempt_ledger.specs.declared.ledger.Ask.{Ask}
use Rattle.grpc_base.specs.declared.address.Address.{Address}
use Rattle.grpc_base.specs.declared.event.Conn.TheVariants as conn
use Rattle.grpc_base.specs.declared.event.Conn.{Conn}
use Rattle.grpc_base.specs.declared.event.Reply.TheVariants as reply
use Rattle.grpc_base.specs.declared.kind.Pick.{Pick}
use Rattle.channel_actions.proofs.KeptSessions.Acts.{answered_now, begun_now, changes_row, ended_now, frame_now, gone_ok, line_by, made_now, marked_now, over_now, owed_now, piece_owed, piece_sub, pinged, placed_now, plain, read_now, replied_now, reset_now, row_marked, turned_now, wants_now, written_now}
use Rattle.channel_actions.proofs.KeptSessions.Lists.{all_at, all_wide, grows_not, there_last}
use Rattle.channel_actions.proofs.KeptSessions.Sound.{IsSound, is_placing}
use Rattle.channel_actions.proofs.KeptSessions.Whole.{Whole, WholeOf, ask_ok, asks_more, beside, call_now, entered, links_mapped, links_more, picks_at, rows_later, sub_linked, sub_ok, sub_unplaced, subs_more}
use Rattle.channel_actions.specs.KeptSessions.Kept.{has_link_for}
use Rattle.lb_policy.specs.Table.{is_ready}
use Rattle.session_actions.specs.Actions.{after, after_if, after_in}
use Rattle.session_actions.specs.Attempts.{with_attempt}
use Rattle.session_actions.specs.Calls.{marked}
use Rattle.session_actions.specs.Closing.{entry_made, made_entry, noted_gone}
use Rattle.session_actions.specs.Commitments.{with_commitment}
use Rattle.session_actions.specs.Deliveries.{is_end, with_message}
use Rattle.session_actions.specs.Entries.{entry, now, opened_entry, with_entry}
use Rattle.session_actions.specs.Links.{link_over, owed, wants_resolution, with_link}
use Rattle.session_actions.specs.Making.{new_row, with_row}
use Rattle.session_actions.specs.Policies.{activated_in, addresses_in, begun_policy, current_policy, given_addresses, is_unfollowed, policy_retired, turn_at, with_placing, with_policy}
use Rattle.session_actions.specs.Refusals.{is_gone}
use Rattle.session_actions.specs.Subchannels.{dial_taken_of, gone_down, in_state, link_timed_out, new_link, new_sub, noted_by_policies, with_dial, with_sub, without_link}
use Rattle.session_actions.specs.Words.{changed, holds, last_of, numbered}
use Rattle.session_actions.specs.Writing.{ping_of, with_piece}
use Rattle.session_actions.specs.declared.action.Action.TheVariants as action
use Rattle.session_actions.specs.declared.action.Action.{Action}
use Rattle.session_actions.specs.declared.attempt.Attempt.{Attempt}
use Rattle.session_actions.specs.declared.call.Call.{Call}
use Rattle.session_actions.specs.declared.call.MarkKind.TheVariants as mark
use Rattle.session_actions.specs.declared.entry.OpenEntry.{OpenEntry}
use Rattle.session_actions.specs.declared.entry.Stage.TheVariants as stage
use Rattle.session_actions.specs.declared.link.Link.{Link}
use Rattle.session_actions.specs.declared.link.LinkOver.TheVariants as over
use Rattle.session_actions.specs.declared.policy.PolicyUse.{PolicyUse}
use Rattle.session_actions.specs.declared.seen.Seen.{Seen}
use Rattle.session_actions.specs.declared.subchannel.Subchannel.{Subchannel}
use Rattle.std.proofs.Common.{Bool, List, None, Option, Some, [], ap, arith, false, if◌then◌else◌, is_none, is_some, length, length-append, map, nat_le, not, refl, subst, sym, true, ℕ, ◌&&◌, ◌++◌, ◌+◌, ◌==◌, ◌||◌, ◌∙◌, ◌∷◌, ◌≡◌, ◌≤◌}
use Rattle.std.proofs.lemmas.Bool.Decides.{nat_tests}
use Rattle.std.proofs.lemmas.Bool.{and_from, leb-true, ne_eqb, or_right}
use Rattle.std.specs.Option.{option_map_or}

-- a subchannel changes, and the policies note it
noted_now : (s : Seen) (o : Option Subchannel) → Whole s → Whole (option_map_or (λ (b : Subchannel). noted_by_policies b s) o s)
noted_now s None h = h
noted_now s (Some b) h = plain s (noted_by_policies b s) refl refl refl refl refl refl refl h

linked : (f : Subchannel → Subchannel) (n : ℕ) (s : Seen) → ((b : Subchannel) → numbered s.subs n ≡ Some b → sub_ok s.links b ≡ true → sub_ok s.links (f b) ≡ true)
    → ((b : Subchannel) → is_some b.link ≡ true → is_some (f b).link ≡ true) → Whole s → Whole (with_sub f n s)
linked f n s sound keeps h = noted_now (record s { subs = changed f n s.subs }) (numbered (changed f n s.subs) n) (sub_linked f n s sound keeps h)

unplaced : (f : Subchannel → Subchannel) (n : ℕ) (s : Seen) → ((b : Subchannel) → sub_ok s.links (f b) ≡ true) → is_placing s ≡ false → Whole s → Whole (with_sub f n s)
unplaced f n s sound none h =
    noted_now (record s { subs = changed f n s.subs }) (numbered (changed f n s.subs) n) (sub_unplaced f n s (λ b got ok. sound b) none h)

linked_as : (links : List Link) (d : Bool) (o : Option ℕ) → option_map_or (λ (k : ℕ). is_some (numbered links k)) o d ≡ true
    → option_map_or (λ (k : ℕ). is_some (numbered links k)) o true ≡ true
linked_as links d None e = refl
linked_as links d (Some k) e = e

in_state_now : (c : Conn) (n : ℕ) (s : Seen) → not (is_ready c) ≡ true → Whole s → Whole (with_sub (in_state c) n s)
in_state_now c n s unready h =
    linked (in_state c) n s
    (λ b got ok.
    ap (λ (d : Bool). option_map_or (λ (k : ℕ). is_some (numbered s.links k)) b.link d) unready ∙ linked_as s.links (not (is_ready b.state)) b.link ok)
    (λ b e. e) h

down_state : (c : Bool) → not (is_ready (if c then conn.Idle else conn.Failure)) ≡ true
down_state true = refl
down_state false = refl

ready_as : (links : List Link) (d : Bool) (o : Option ℕ) → is_some o ≡ true → option_map_or (λ (k : ℕ). is_some (numbered links k)) o d ≡ true
    → option_map_or (λ (k : ℕ). is_some (numbered links k)) o false ≡ true
ready_as links d None there e = absurd (cc)
ready_as links d (Some k) there e = e

ready_now : (n : ℕ) (s : Seen) → holds (λ (b : Subchannel). is_some b.link) (numbered s.subs n) ≡ true → Whole s
    → Whole (with_sub (λ (b : Subchannel). record b { state = conn.Ready; dials = 0; until = None }) n s)
ready_now n s sound h =
    linked (λ (b : Subchannel). record b { state = conn.Ready; dials = 0; until = None }) n s
    (λ b got ok. ready_as s.links (not (is_ready b.state)) b.link (sym (ap (holds (λ (q : Subchannel). is_some q.link)) got) ∙ sound) ok) (λ b e. e) h

dialled_now : (again until : ℕ) (s : Seen) (o : Option Subchannel) → Whole s → Whole (option_map_or (dial_taken_of again until s) o s)
dialled_now again until s None h = h
dialled_now again until s (Some b) h =
    let u : Seen = with_sub (with_dial again until) b.number s in
    let one : Whole u = linked (with_dial again until) b.number s (λ q got ok. ok) (λ q e. e) h in
    let drawn : OpenEntry → OpenEntry = λ (o : OpenEntry). record o { drawn = o.drawn + (if not (b.dials == 0) then 1 else 0) } in
    replied_now (reply.Dial b.number b.address until) (with_entry drawn u) (entered drawn u one)

failed_now : (n : ℕ) (s : Seen) → is_placing s ≡ false → Whole s → Whole (with_sub (without_link conn.Failure) n s)
failed_now n s none h = unplaced (without_link conn.Failure) n s (λ b. refl) none h

late_by : (n : ℕ) (s : Seen) (o : Option ℕ) → is_placing s ≡ false → Whole s
    → Whole (with_sub (without_link conn.Failure) n (wants_resolution (option_map_or (λ (link : ℕ). link_over over.TimedOut link s) o s)))
late_by n s None none h = failed_now n (wants_resolution s) none (wants_now s h)
late_by n s (Some link) none h =
    let u : Seen = link_over over.TimedOut link s in failed_now n (wants_resolution u) none (wants_now u (over_now over.TimedOut link s h))

late_now : (n : ℕ) (s : Seen) (o : Option Subchannel) → is_placing s ≡ false → Whole s
    → Whole (with_sub (without_link conn.Failure) n (wants_resolution (option_map_or (λ (b : Subchannel). link_timed_out b s) o s)))
late_now n s None none h = failed_now n (wants_resolution s) none (wants_now s h)
late_now n s (Some b) none h = late_by n s b.link none h

up_now : (n : ℕ) (s : Seen) → is_some (numbered s.subs n) ≡ true → Whole s
    → Whole (with_sub (λ (b : Subchannel). record b { link = Some (length s.links + 1) }) n (record s { links = s.links ++ new_link (length s.links + 1) n s ∷ [] }))
up_now n s sound h =
    let l : Link = new_link (length s.links + 1) n s in
    let u : Seen = record s { links = s.links ++ l ∷ [] } in
    linked (λ (b : Subchannel). record b { link = Some (length s.links + 1) }) n u (λ b got ok. there_last s.links l) (λ b e. refl)
    (links_more l s (and_from (is_some (numbered s.subs n)) true sound refl) h)

-- policies
given_now : (g : ℕ) (s : Seen) (o : Option (List Address)) → Whole s
    → Whole (option_map_or (λ (addresses : List Address). with_policy (given_addresses addresses s) g s) o s)
given_now g s None h = h
given_now g s (Some addresses) h = plain s (with_policy (given_addresses addresses s) g s) refl refl refl refl refl refl refl h

retired_now : (g : ℕ) (s : Seen) → Whole s → Whole (policy_retired g s)
retired_now g s h = plain s (policy_retired g s) refl refl refl refl refl refl refl h

replaced_now : (s : Seen) (o : Option PolicyUse) → Whole s → Whole (option_map_or (λ (g : PolicyUse). policy_retired g.number s) o s)
replaced_now s None h = h
replaced_now s (Some g) h = retired_now g.number s h

-- a pick is asked for
itself : (n : ℕ) → nat_le n n ≡ true
itself n = grind (arith, nat_tests)

of_there : (p : Attempt → Bool) → ((a : Attempt) → p a ≡ true) → (o : Option Attempt) → is_some o ≡ true → holds p o ≡ true
of_there p all None e = absurd (cc)
of_there p all (Some a) e = all a

asked_now : (row g : ℕ) (answer : Pick) (s : Seen) → is_some (numbered s.attempts row) ≡ true → has_link_for s.subs answer ≡ true → Whole s
    → Whole (record s { asks = s.asks ++ record { entry = entry s; generation = g; row = row; answer = answer } ∷ [] })
asked_now row g answer s there sound h =
    asks_more (record { entry = entry s; generation = g; row = row; answer = answer }) s (itself (entry s))
    (of_there (λ (a : Attempt). not (is_unfollowed a && (entry s == entry s)) || has_link_for s.subs answer)
    (λ a. or_right (not (is_unfollowed a && (entry s == entry s))) (has_link_for s.subs answer) sound) (numbered s.attempts row) there)
    h

-- an entry opens: nothing that is stamped is of it
past : (k n m : ℕ) → n ≤ m → nat_le k n ≡ true → nat_le k m ≡ true
past k n m below h = grind (arith, nat_tests, below, h)

not_of : (k n : ℕ) → nat_le k n ≡ true → (k == n + 1) ≡ false
not_of k n h = ne_eqb k (n + 1) (λ e. (let below : k ≤ n = leb-true k n h in let no : ⊥ = omega (arith, below, e) in no))

unasked : (u h : Bool) → (not (u && false) || h) ≡ true
unasked true h = refl
unasked false h = refl

fresh_ask : (subs : List Subchannel) (n m : ℕ) (ask : Ask) → (ask.entry == m) ≡ false → (o : Option Attempt)
    → holds (λ (a : Attempt). not (is_unfollowed a && (ask.entry == n)) || has_link_for subs ask.answer) o ≡ true
    → holds (λ (a : Attempt). not (is_unfollowed a && (ask.entry == m)) || has_link_for subs ask.answer) o ≡ true
fresh_ask subs n m ask off None e = absurd (cc)
fresh_ask subs n m ask off (Some a) e =
    ap (λ (w : Bool). not (is_unfollowed a && w) || has_link_for subs ask.answer) off ∙ unasked (is_unfollowed a) (has_link_for subs ask.answer)

pub opens_now : (o : OpenEntry) (s : Seen) → s.current ≡ None → Whole s → Whole (record s { current = Some o })
opens_now o s at h =
    let n : ℕ = length s.entries in
    let plus : n + 0 ≡ n = omega arith in
    let below : n ≤ n + 1 = omega arith in
    let same : entry s ≡ n = ap (λ (x : Option OpenEntry). length s.entries + (if is_some x then 1 else 0)) at ∙ plus in
    let g : WholeOf s.calls s.attempts s.asks s.subs s.links n = subst (λ (z : ℕ). WholeOf s.calls s.attempts s.asks s.subs s.links z) same h in
    record {
      rows = rows_later s.calls s.calls s.links s.links n (n + 1) (grows_not s.calls) (grows_not s.links) (λ k e. past k n (n + 1) below e) s.attempts g.rows;
      lines = g.lines;
      boards = g.boards;
      stamps = all_wide (λ (k : Ask). nat_le k.entry n) (λ (k : Ask). nat_le k.entry (n + 1)) (λ k e. past k.entry n (n + 1) below e) s.asks g.stamps;
      picked = picks_at (ask_ok s.attempts s.subs n) (ask_ok s.attempts s.subs (n + 1)) (last_of s.asks)
          (λ ask got e.
          fresh_ask s.subs n (n + 1) ask (not_of ask.entry n (all_at (λ (k : Ask). nat_le k.entry n) s.asks (length s.asks) ask g.stamps got)) (numbered s.attempts ask.row) e)
          g.picked;
    }

-- and it is made
closes_now : (o : OpenEntry) (s : Seen) → s.current ≡ Some o → Whole s → Whole (entry_made o s)
closes_now o s at h =
    let u : Seen = record s { links = map (noted_gone s) s.links } in
    let more : length (s.entries ++ made_entry o s ∷ []) ≡ length s.entries + 1 = length-append s.entries (made_entry o s ∷ []) in
    let made : length (s.entries ++ made_entry o s ∷ []) + 0 ≡ length s.entries + 1 = omega (arith, more) in
    beside u (entry_made o s) refl refl refl refl refl
    (made ∙ sym (ap (λ (x : Option OpenEntry). length s.entries + (if is_some x then 1 else 0)) at))
    (links_mapped (noted_gone s) s (λ l ok. gone_ok s (is_none l.gone && is_gone l s) l ok) h)

module _ (o : OpenEntry) (s : Seen) (at : s.current ≡ Some o) (h : Whole s) where
  act : (x : Action) → IsSound x s → Whole (after_in o x s)
  act (action.EntryOpens posted word e) sound = h
  act (action.EventRefused why) sound = replied_now (reply.Refused why) s h
  act (action.EventAnswered r) sound = replied_now r s h
  act action.SettlingBegins sound = entered (λ (p : OpenEntry). record p { stage = stage.Settling }) s h
  act action.EntryCloses sound = closes_now o s at h
  act action.CallBegins sound = begun_now o.event s h
  act (action.MessageAccepted call) sound =
      replied_now reply.Done (record s { calls = changed (with_message o.event) call s.calls }) (call_now (with_message o.event) call s h)
  act (action.RequestFinished call) sound =
      let f : Call → Call = λ (c : Call). record c { finished = true } in replied_now reply.Done (record s { calls = changed f call s.calls }) (call_now f call s h)
  act (action.ItemTaken call item) sound =
      let f : Call → Call = λ (c : Call). record c { taken = c.taken + 1; end_taken = is_end item } in
      replied_now item (record s { calls = changed f call s.calls }) (call_now f call s h)
  act (action.CallEnds call why) sound =
      call_now (λ (c : Call). record c { end = Some (record { entry = entry s; moment = now s; cause = why }) }) call (marked mark.Closed call s) (marked_now mark.Closed call s h)
  act (action.ConfigRead x) sound = read_now x s h
  act action.ResolutionFailed sound = answered_now reply.Done s h
  act (action.CallConfigured call config) sound =
      call_now (λ (c : Call). record c { config = Some config; configured = Some (entry s) }) call (marked mark.Configured call s) (marked_now mark.Configured call s h)
  act (action.AttemptMade call number k due) sound =
      let u : Seen = with_row (new_row call number k due) s in
      let m : Seen = marked (mark.Made (length s.attempts + 1)) call u in
      turned_now (is_transparent k) m (marked_now (mark.Made (length s.attempts + 1)) call u (made_now call number k due s sound h))
  act (action.HedgeWithheld call) sound = turned_now false (marked mark.Withheld call s) (marked_now mark.Withheld call s h)
  act (action.PickRequested row g answer) sound =
      entered (λ (p : OpenEntry). record p { turn = turn_at row s })
      (record s { asks = s.asks ++ record { entry = entry s; generation = g; row = row; answer = answer } ∷ [] }) (asked_now row g answer s sound.0 sound.1 h)
  act (action.AttemptPlaced row where_to) sound =
      let u : Seen = with_attempt (with_placing where_to) row s in row_marked (mark.Placed row) u (numbered u.attempts row) (placed_now where_to row s sound h)
  act (action.AttemptEnds row e) sound = ended_now e s (numbered s.attempts row) sound h
  act (action.CallCommitted row why) sound =
      let u : Seen = with_attempt (with_commitment (entry s)) row s in
      row_marked mark.Committed u (numbered u.attempts row) (changes_row s (with_commitment (entry s)) row (λ q. refl) (λ q. refl) (λ q. refl) (λ q. refl) h)
  act (action.StreamReset row number) sound = reset_now number s (numbered s.attempts row) h
  act (action.PolicyBegins k) sound = plain s (record s { policies = s.policies ++ begun_policy k s ∷ [] }) refl refl refl refl refl refl refl h
  act (action.AddressesGiven g) sound = given_now g s (addresses_in o.event) h
  act (action.PolicyTakesOver g) sound =
      let u : Seen = option_map_or (λ (p : PolicyUse). policy_retired p.number s) (current_policy s) s in
      plain u (with_policy (activated_in (entry s)) g u) refl refl refl refl refl refl refl (replaced_now s (current_policy s) h)
  act (action.PolicyRetired g) sound = retired_now g s h
  act (action.SubchannelAdded address) sound = subs_more (new_sub address (length s.subs + 1)) s refl h
  act (action.SubchannelShut sub) sound = unplaced (without_link conn.Shutdown) sub s (λ b. refl) sound h
  act (action.SubchannelConnects sub) sound = in_state_now conn.Connecting sub s refl h
  act (action.DialTaken sub again until) sound = dialled_now again until s (numbered s.subs sub) h
  act (action.DialFails sub) sound =
      replied_now reply.Done (with_sub (without_link conn.Failure) sub (wants_resolution s)) (failed_now sub (wants_resolution s) sound (wants_now s h))
  act (action.ConnectTimesOut sub) sound = late_now sub s (numbered s.subs sub) sound h
  act (action.BackoffEnds sub) sound = in_state_now conn.Idle sub s refl h
  act (action.LinkUp sub) sound =
      replied_now (reply.Link (length s.links + 1))
      (with_sub (λ (b : Subchannel). record b { link = Some (length s.links + 1) }) sub (record s { links = s.links ++ new_link (length s.links + 1) sub s ∷ [] }))
      (up_now sub s sound h)
  act (action.SettingsArrive sub) sound = ready_now sub s sound h
  act (action.LinkDown sub) sound = unplaced gone_down sub s (λ b. down_state (is_ready b.state)) sound h
  act (action.BytesArrive link) sound =
      replied_now reply.Done (with_link (with_piece o.event) link s) (line_by s (with_piece o.event) link (piece_sub o.event) (piece_owed o.event) h)
  act (action.FrameRead link r) sound = frame_now r s (numbered s.links link) h
  act (action.LinkBreaks link number) sound = wants_now (link_over over.Broken link s) (over_now over.Broken link s h)
  act (action.LinkLost link) sound =
      let u : Seen = link_over over.Lost link s in replied_now reply.Done (wants_resolution u) (wants_now u (over_now over.Lost link s h))
  act (action.PingQueued link) sound = replied_now reply.Done (owed (ping_of o.event) link s) (owed_now (ping_of o.event) link s (pinged o.event) h)
  act (action.FrameWritten link x) sound = written_now x s (numbered s.links link) sound h
  act action.ChannelShuts sound = replied_now reply.Done (record s { shut = true }) (plain s (record s { shut = true }) refl refl refl refl refl refl refl h)

act_if : (c : Option OpenEntry) (x : Action) (s : Seen) → s.current ≡ c → IsSound x s → Whole s → Whole (after_if c x s)
act_if (Some o) x s at sound h = act o s at h x sound
act_if None (action.EntryOpens posted word e) s at sound h = opens_now (opened_entry posted word e s) s at h
act_if None x s at sound h = h

pub whole_after : (s : Seen) (x : Action) → IsSound x s → Whole s → Whole (after x s)
whole_after s x sound h = act_if s.current x s refl sound h
