-- So it is after each of the 41 actions, where its line says of it what it does.
use Rattle.attempt_ledger.specs.Numbering.{is_transparent}
use Rattle.attempt_ledger.specs.declared.ledger.Ask.{Ask}
use Rattle.grpc_base.specs.declared.address.Address.{Address}
use Rattle.grpc_base.specs.declared.event.Conn.TheVariants as conn
use Rattle.grpc_base.specs.declared.event.Reply.TheVariants as reply
use Rattle.grpc_base.specs.declared.kind.Pick.{Pick}
use Rattle.channel_actions.proofs.KeptSessions.Lists.{all_at}
use Rattle.channel_actions.proofs.KeptSessions.Sound.{IsSound, is_placing}
use Rattle.channel_actions.proofs.KeptSessions.Whole.{picks_at}
use Rattle.channel_actions.proofs.Links.Prefaced.Acts.{begun_now, changes_row, ended_now, frame_now, gone_same, marked_now, over_now, owed_now, piece_now, read_now, reset_now, resolved_now, row_marked, turned_now, wants_now, written_now}
use Rattle.channel_actions.proofs.Links.Prefaced.Fits.{FitsPrefaced}
use Rattle.channel_actions.proofs.Links.Prefaced.Parts.{Prefaced, PrefacedOf, asks_more, attempt_now, attempts_more, beside, entered, links_mapped, links_more, plain, replied_now, sub_kept, sub_unplaced, subs_more}
use Rattle.channel_actions.specs.PrefacedLinks.Prefaced.{has_preface, has_preface_come, is_prefaced_ask, is_ready_prefaced, names_prefaced}
use Rattle.lb_policy.specs.Table.{is_ready}
use Rattle.session_actions.specs.Actions.{after, after_if, after_in}
use Rattle.session_actions.specs.Attempts.{with_attempt}
use Rattle.session_actions.specs.Calls.{marked}
use Rattle.session_actions.specs.Closing.{entry_made, made_entry, noted_gone}
use Rattle.session_actions.specs.Commitments.{with_commitment}
use Rattle.session_actions.specs.Deliveries.{is_end, with_message}
use Rattle.session_actions.specs.Entries.{entry, now, opened_entry, with_entry}
use Rattle.session_actions.specs.Links.{link_over, owed, wants_resolution, with_link}
use Rattle.session_actions.specs.Making.{new_row, with_row}
use Rattle.session_actions.specs.Policies.{activated_in, addresses_in, begun_policy, current_policy, given_addresses, is_unfollowed, policy_retired, turn_at, with_placing, with_policy}
use Rattle.session_actions.specs.Refusals.{is_gone}
use Rattle.session_actions.specs.Subchannels.{dial_taken_of, gone_down, in_state, link_timed_out, new_link, new_sub, noted_by_policies, with_dial, with_sub, without_link}
use Rattle.session_actions.specs.Words.{changed, holds, last_of, numbered}
use Rattle.session_actions.specs.Writing.{ping_of, with_piece}
use Rattle.session_actions.specs.declared.action.Action.TheVariants as action
use Rattle.session_actions.specs.declared.action.Action.{Action}
use Rattle.session_actions.specs.declared.attempt.Attempt.{Attempt}
use Rattle.session_actions.specs.declared.call.Call.{Call}
use Rattle.session_actions.specs.declared.call.MarkKind.TheVariants as mark
use Rattle.session_actions.specs.declared.entry.OpenEntry.{OpenEntry}
use Rattle.session_actions.specs.declared.entry.Stage.TheVariants as stage
use Rattle.session_actions.specs.declared.link.Link.{Link}
use Rattle.session_actions.specs.declared.link.LinkOver.TheVariants as over
use Rattle.session_actions.specs.declared.policy.PolicyUse.{PolicyUse}
use Rattle.session_actions.specs.declared.seen.Seen.{Seen}
use Rattle.session_actions.specs.declared.subchannel.Subchannel.{Subchannel}
use Rattle.std.proofs.Common.{Bool, List, None, Option, Some, [], ap, arith, false, if◌then◌else◌, is_none, is_some, length, length-append, map, nat_le, not, refl, subst, sym, true, ℕ, ◌&&◌, ◌++◌, ◌+◌, ◌==◌, ◌||◌, ◌∙◌, ◌∷◌, ◌≡◌, ◌≤◌}
use Rattle.std.proofs.lemmas.Bool.{leb-true, ne_eqb, or_right}
use Rattle.std.specs.List.{list_all}
use Rattle.std.specs.Option.{option_map_or}

-- a subchannel changes, and the policies note it
noted_now : (s : Seen) (o : Option Subchannel) → Prefaced s → Prefaced (option_map_or (λ (b : Subchannel). noted_by_policies b s) o s)
noted_now s None h = h
noted_now s (Some b) h = plain s (noted_by_policies b s) refl refl refl refl refl refl h

kept : (f : Subchannel → Subchannel) (n : ℕ) (s : Seen)
    → ((b : Subchannel) → numbered s.subs n ≡ Some b → is_ready_prefaced s.links b ≡ true → is_ready_prefaced s.links (f b) ≡ true)
    → ((b : Subchannel) → numbered s.subs n ≡ Some b → has_preface s.links b ≡ true → has_preface s.links (f b) ≡ true) → Prefaced s → Prefaced (with_sub f n s)
kept f n s sound keeps h = noted_now (record s { subs = changed f n s.subs }) (numbered (changed f n s.subs) n) (sub_kept f n s sound keeps h)

unplaced : (f : Subchannel → Subchannel) (n : ℕ) (s : Seen) → ((b : Subchannel) → is_ready_prefaced s.links (f b) ≡ true) → is_placing s ≡ false → Prefaced s
    → Prefaced (with_sub f n s)
unplaced f n s sound none h = noted_now (record s { subs = changed f n s.subs }) (numbered (changed f n s.subs) n) (sub_unplaced f n s sound none h)

unready : (c : Bool) → not (is_ready (if c then conn.Idle else conn.Failure)) ≡ true
unready true = refl
unready false = refl

down_ok : (links : List Link) (b : Subchannel) → is_ready_prefaced links (gone_down b) ≡ true
down_ok links b = ap (λ (d : Bool). d || has_preface links (gone_down b)) (unready (is_ready b.state))

dialled_now : (again until : ℕ) (s : Seen) (o : Option Subchannel) → Prefaced s → Prefaced (option_map_or (dial_taken_of again until s) o s)
dialled_now again until s None h = h
dialled_now again until s (Some b) h =
    let u : Seen = with_sub (with_dial again until) b.number s in
    let drawn : OpenEntry → OpenEntry = λ (o : OpenEntry). record o { drawn = o.drawn + (if not (b.dials == 0) then 1 else 0) } in
    replied_now (reply.Dial b.number b.address until) (with_entry drawn u)
    (entered drawn u (kept (with_dial again until) b.number s (λ q got ok. ok) (λ q got e. e) h))

failed_now : (n : ℕ) (s : Seen) → is_placing s ≡ false → Prefaced s → Prefaced (with_sub (without_link conn.Failure) n s)
failed_now n s none h = unplaced (without_link conn.Failure) n s (λ b. refl) none h

late_by : (n : ℕ) (s : Seen) (o : Option ℕ) → is_placing s ≡ false → Prefaced s
    → Prefaced (with_sub (without_link conn.Failure) n (wants_resolution (option_map_or (λ (link : ℕ). link_over over.TimedOut link s) o s)))
late_by n s None none h = failed_now n (wants_resolution s) none (wants_now s h)
late_by n s (Some link) none h =
    let u : Seen = link_over over.TimedOut link s in failed_now n (wants_resolution u) none (wants_now u (over_now over.TimedOut link s h))

late_now : (n : ℕ) (s : Seen) (o : Option Subchannel) → is_placing s ≡ false → Prefaced s
    → Prefaced (with_sub (without_link conn.Failure) n (wants_resolution (option_map_or (λ (b : Subchannel). link_timed_out b s) o s)))
late_now n s None none h = failed_now n (wants_resolution s) none (wants_now s h)
late_now n s (Some b) none h = late_by n s b.link none h

-- one that is dialling has no link
linkless : (links : List Link) (o : Option ℕ) (r : Bool) → is_none o ≡ true → holds (has_preface_come links) o ≡ true → r ≡ true
linkless links None r none e = absurd (cc)
linkless links (Some k) r none e = absurd (cc)

not_ready : (links : List Link) (o : Option ℕ) (x y : Bool) → is_none o ≡ true → (x || holds (has_preface_come links) o) ≡ true → (x || y) ≡ true
not_ready links o true y none e = refl
not_ready links o false y none e = linkless links o y none e

up_now : (n : ℕ) (s : Seen) → holds (λ (b : Subchannel). is_none b.link) (numbered s.subs n) ≡ true → Prefaced s
    → Prefaced (with_sub (λ (b : Subchannel). record b { link = Some (length s.links + 1) }) n (record s { links = s.links ++ new_link (length s.links + 1) n s ∷ [] }))
up_now n s fits h =
    let l : Link = new_link (length s.links + 1) n s in
    let u : Seen = record s { links = s.links ++ l ∷ [] } in
    let f : Subchannel → Subchannel = λ (b : Subchannel). record b { link = Some (length s.links + 1) } in
    kept f n u
    (λ b got ok.
    not_ready u.links b.link (not (is_ready b.state)) (has_preface u.links (f b)) (sym (ap (holds (λ (q : Subchannel). is_none q.link)) got) ∙ fits) ok)
    (λ b got e. linkless u.links b.link (has_preface u.links (f b)) (sym (ap (holds (λ (q : Subchannel). is_none q.link)) got) ∙ fits) e)
    (links_more l s h)

-- policies
given_now : (g : ℕ) (s : Seen) (o : Option (List Address)) → Prefaced s
    → Prefaced (option_map_or (λ (addresses : List Address). with_policy (given_addresses addresses s) g s) o s)
given_now g s None h = h
given_now g s (Some addresses) h = plain s (with_policy (given_addresses addresses s) g s) refl refl refl refl refl refl h

replaced_now : (s : Seen) (o : Option PolicyUse) → Prefaced s → Prefaced (option_map_or (λ (g : PolicyUse). policy_retired g.number s) o s)
replaced_now s None h = h
replaced_now s (Some g) h = plain s (policy_retired g.number s) refl refl refl refl refl refl h

-- a pick is asked for
of_there : (p : Attempt → Bool) → ((a : Attempt) → p a ≡ true) → (o : Option Attempt) → is_some o ≡ true → holds p o ≡ true
of_there p all None e = absurd (cc)
of_there p all (Some a) e = all a

asked_now : (row g : ℕ) (answer : Pick) (s : Seen) → is_some (numbered s.attempts row) ≡ true → names_prefaced s.links s.subs answer ≡ true → Prefaced s
    → Prefaced (record s { asks = s.asks ++ record { entry = entry s; generation = g; row = row; answer = answer } ∷ [] })
asked_now row g answer s there sound h =
    asks_more (record { entry = entry s; generation = g; row = row; answer = answer }) s
    (of_there (λ (a : Attempt). not (is_unfollowed a && (entry s == entry s)) || names_prefaced s.links s.subs answer)
    (λ a. or_right (not (is_unfollowed a && (entry s == entry s))) (names_prefaced s.links s.subs answer) sound) (numbered s.attempts row) there)
    h

-- an entry opens: no pick request is of it
not_of : (k n : ℕ) → nat_le k n ≡ true → (k == n + 1) ≡ false
not_of k n h = ne_eqb k (n + 1) (λ e. (let below : k ≤ n = leb-true k n h in let no : ⊥ = omega (arith, below, e) in no))

unasked : (u h : Bool) → (not (u && false) || h) ≡ true
unasked true h = refl
unasked false h = refl

fresh_ask : (h : Bool) (n m : ℕ) (ask : Ask) → (ask.entry == m) ≡ false → (o : Option Attempt)
    → holds (λ (a : Attempt). not (is_unfollowed a && (ask.entry == n)) || h) o ≡ true → holds (λ (a : Attempt). not (is_unfollowed a && (ask.entry == m)) || h) o ≡ true
fresh_ask h n m ask off None e = absurd (cc)
fresh_ask h n m ask off (Some a) e = ap (λ (w : Bool). not (is_unfollowed a && w) || h) off ∙ unasked (is_unfollowed a) h

opens_now : (o : OpenEntry) (s : Seen) → s.current ≡ None → list_all (λ (k : Ask). nat_le k.entry (entry s)) s.asks ≡ true → Prefaced s
    → Prefaced (record s { current = Some o })
opens_now o s at stamps h =
    let n : ℕ = length s.entries in
    let plus : n + 0 ≡ n = omega arith in
    let same : entry s ≡ n = ap (λ (x : Option OpenEntry). length s.entries + (if is_some x then 1 else 0)) at ∙ plus in
    let g : PrefacedOf s.attempts s.asks s.subs s.links n = subst (λ (z : ℕ). PrefacedOf s.attempts s.asks s.subs s.links z) same h in
    let ks : list_all (λ (k : Ask). nat_le k.entry n) s.asks ≡ true = subst (λ (z : ℕ). list_all (λ (k : Ask). nat_le k.entry z) s.asks ≡ true) same stamps in
    record {
      placed = g.placed;
      ready = g.ready;
      picked = picks_at (is_prefaced_ask s.attempts s.subs s.links n) (is_prefaced_ask s.attempts s.subs s.links (n + 1)) (last_of s.asks)
          (λ ask got e.
          fresh_ask (names_prefaced s.links s.subs ask.answer) n (n + 1) ask (not_of ask.entry n (all_at (λ (k : Ask). nat_le k.entry n) s.asks (length s.asks) ask ks got))
          (numbered s.attempts ask.row) e)
          g.picked;
    }

-- and it is made
closes_now : (o : OpenEntry) (s : Seen) → s.current ≡ Some o → Prefaced s → Prefaced (entry_made o s)
closes_now o s at h =
    let u : Seen = record s { links = map (noted_gone s) s.links } in
    let more : length (s.entries ++ made_entry o s ∷ []) ≡ length s.entries + 1 = length-append s.entries (made_entry o s ∷ []) in
    let made : length (s.entries ++ made_entry o s ∷ []) + 0 ≡ length s.entries + 1 = omega (arith, more) in
    beside u (entry_made o s) refl refl refl refl
    (made ∙ sym (ap (λ (x : Option OpenEntry). length s.entries + (if is_some x then 1 else 0)) at))
    (links_mapped (noted_gone s) s (λ l e. gone_same s (is_none l.gone && is_gone l s) l e) h)

module _ (o : OpenEntry) (s : Seen) (at : s.current ≡ Some o) (h : Prefaced s) where
  called : (cs : List Call) → Prefaced (record s { calls = cs })
  called cs = plain s (record s { calls = cs }) refl refl refl refl refl refl h

  act : (x : Action) → IsSound x s → FitsPrefaced x s → Prefaced (after_in o x s)
  act (action.EntryOpens posted word e) sound fits = h
  act (action.EventRefused why) sound fits = replied_now (reply.Refused why) s h
  act (action.EventAnswered r) sound fits = replied_now r s h
  act action.SettlingBegins sound fits = entered (λ (p : OpenEntry). record p { stage = stage.Settling }) s h
  act action.EntryCloses sound fits = closes_now o s at h
  act action.CallBegins sound fits = begun_now o.event s h
  act (action.MessageAccepted call) sound fits =
      let cs : List Call = changed (with_message o.event) call s.calls in replied_now reply.Done (record s { calls = cs }) (called cs)
  act (action.RequestFinished call) sound fits =
      let cs : List Call = changed (λ (c : Call). record c { finished = true }) call s.calls in replied_now reply.Done (record s { calls = cs }) (called cs)
  act (action.ItemTaken call item) sound fits =
      let cs : List Call = changed (λ (c : Call). record c { taken = c.taken + 1; end_taken = is_end item }) call s.calls in
      replied_now item (record s { calls = cs }) (called cs)
  act (action.CallEnds call why) sound fits =
      called (changed (λ (c : Call). record c { end = Some (record { entry = entry s; moment = now s; cause = why }) }) call (marked mark.Closed call s).calls)
  act (action.ConfigRead x) sound fits = read_now x s h
  act action.ResolutionFailed sound fits = resolved_now s h
  act (action.CallConfigured call config) sound fits =
      called (changed (λ (c : Call). record c { config = Some config; configured = Some (entry s) }) call (marked mark.Configured call s).calls)
  act (action.AttemptMade call number k due) sound fits =
      let a : Attempt = record { place = length s.attempts + 1; row = new_row call number k due; made = entry s; reset = false } in
      let u : Seen = with_row (new_row call number k due) s in
      let m : Seen = marked (mark.Made (length s.attempts + 1)) call u in
      turned_now (is_transparent k) m (marked_now (mark.Made (length s.attempts + 1)) call u (attempts_more a s refl h))
  act (action.HedgeWithheld call) sound fits = turned_now false (marked mark.Withheld call s) (marked_now mark.Withheld call s h)
  act (action.PickRequested row g answer) sound fits =
      entered (λ (p : OpenEntry). record p { turn = turn_at row s })
      (record s { asks = s.asks ++ record { entry = entry s; generation = g; row = row; answer = answer } ∷ [] }) (asked_now row g answer s sound.0 fits h)
  act (action.AttemptPlaced row where_to) sound fits =
      let u : Seen = with_attempt (with_placing where_to) row s in
      row_marked (mark.Placed row) u (numbered u.attempts row)
      (attempt_now (with_placing where_to) row s (λ a e. fits.0) (λ a less. (let no : false ≡ true = less in absurd (cc))) h)
  act (action.AttemptEnds row e) sound fits = ended_now e s (numbered s.attempts row) h
  act (action.CallCommitted row why) sound fits =
      let u : Seen = with_attempt (with_commitment (entry s)) row s in
      row_marked mark.Committed u (numbered u.attempts row) (changes_row s (with_commitment (entry s)) row (λ q. refl) (λ q e. e) h)
  act (action.StreamReset row number) sound fits = reset_now number s (numbered s.attempts row) h
  act (action.PolicyBegins k) sound fits = plain s (record s { policies = s.policies ++ begun_policy k s ∷ [] }) refl refl refl refl refl refl h
  act (action.AddressesGiven g) sound fits = given_now g s (addresses_in o.event) h
  act (action.PolicyTakesOver g) sound fits =
      let u : Seen = option_map_or (λ (p : PolicyUse). policy_retired p.number s) (current_policy s) s in
      plain u (with_policy (activated_in (entry s)) g u) refl refl refl refl refl refl (replaced_now s (current_policy s) h)
  act (action.PolicyRetired g) sound fits = plain s (policy_retired g s) refl refl refl refl refl refl h
  act (action.SubchannelAdded address) sound fits = subs_more (new_sub address (length s.subs + 1)) s refl h
  act (action.SubchannelShut sub) sound fits = unplaced (without_link conn.Shutdown) sub s (λ b. refl) sound h
  act (action.SubchannelConnects sub) sound fits = kept (in_state conn.Connecting) sub s (λ b got ok. refl) (λ b got e. e) h
  act (action.DialTaken sub again until) sound fits = dialled_now again until s (numbered s.subs sub) h
  act (action.DialFails sub) sound fits =
      replied_now reply.Done (with_sub (without_link conn.Failure) sub (wants_resolution s)) (failed_now sub (wants_resolution s) sound (wants_now s h))
  act (action.ConnectTimesOut sub) sound fits = late_now sub s (numbered s.subs sub) sound h
  act (action.BackoffEnds sub) sound fits = kept (in_state conn.Idle) sub s (λ b got ok. refl) (λ b got e. e) h
  act (action.LinkUp sub) sound fits =
      replied_now (reply.Link (length s.links + 1))
      (with_sub (λ (b : Subchannel). record b { link = Some (length s.links + 1) }) sub (record s { links = s.links ++ new_link (length s.links + 1) sub s ∷ [] }))
      (up_now sub s fits h)
  act (action.SettingsArrive sub) sound fits =
      kept (λ (b : Subchannel). record b { state = conn.Ready; dials = 0; until = None }) sub s
      (λ b got ok. sym (ap (holds (has_preface s.links)) got) ∙ fits) (λ b got e. e) h
  act (action.LinkDown sub) sound fits = unplaced gone_down sub s (down_ok s.links) sound h
  act (action.BytesArrive link) sound fits = replied_now reply.Done (with_link (with_piece o.event) link s) (piece_now o.event link s h)
  act (action.FrameRead link r) sound fits = frame_now r s (numbered s.links link) h
  act (action.LinkBreaks link number) sound fits = wants_now (link_over over.Broken link s) (over_now over.Broken link s h)
  act (action.LinkLost link) sound fits =
      let u : Seen = link_over over.Lost link s in replied_now reply.Done (wants_resolution u) (wants_now u (over_now over.Lost link s h))
  act (action.PingQueued link) sound fits = replied_now reply.Done (owed (ping_of o.event) link s) (owed_now (ping_of o.event) link s h)
  act (action.FrameWritten link x) sound fits = written_now x s (numbered s.links link) h
  act action.ChannelShuts sound fits = replied_now reply.Done (record s { shut = true }) (plain s (record s { shut = true }) refl refl refl refl refl refl h)

act_if : (c : Option OpenEntry) (x : Action) (s : Seen) → s.current ≡ c → list_all (λ (k : Ask). nat_le k.entry (entry s)) s.asks ≡ true → IsSound x s → FitsPrefaced x s
    → Prefaced s → Prefaced (after_if c x s)
act_if (Some o) x s at stamps sound fits h = act o s at h x sound fits
act_if None (action.EntryOpens posted word e) s at stamps sound fits h = opens_now (opened_entry posted word e s) s at stamps h
act_if None x s at stamps sound fits h = h

pub prefaced_after : (s : Seen) (x : Action) → list_all (λ (k : Ask). nat_le k.entry (entry s)) s.asks ≡ true → IsSound x s → FitsPrefaced x s → Prefaced s → Prefaced (after x s)
prefaced_after s x stamps sound fits h = act_if s.current x s refl stamps sound fits h
