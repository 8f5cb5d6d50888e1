-- Links that come up, dials that are taken, and bytes that come, along a session: each is of one event, and an entry has one event. And the bytes that came in a journal
-- are no more than it may have.
use Rattle.channel_actions.proofs.Changes.{Small, asked_in, noted_now, placed_in, read_in, small_in, sub_now, taken_in, written_in}
use Rattle.channel_actions.proofs.Calls.Few.Begins.{begins_at_event, is_at_event}
use Rattle.channel_actions.proofs.KeptSessions.Lists.{all_at, all_changed, all_mapped, all_more}
use Rattle.channel_actions.specs.FewCalls.Laws.{BytesAreFew, DialsAreFew, LinksAreFew}
use Rattle.grpc_base.specs.Posts.{event_bytes}
use Rattle.grpc_base.specs.declared.address.Address.{Address}
use Rattle.grpc_base.specs.declared.event.Entry.{Entry}
use Rattle.grpc_base.specs.declared.event.Event.TheVariants as event
use Rattle.grpc_base.specs.declared.event.Event.{Event}
use Rattle.grpc_base.specs.declared.event.Reply.TheVariants as reply
use Rattle.grpc_base.specs.declared.event.Reply.{Reply}
use Rattle.session_actions.specs.Actions.{after, after_if, after_in}
use Rattle.session_actions.specs.Attempts.{with_attempt}
use Rattle.session_actions.specs.Calls.{with_call}
use Rattle.session_actions.specs.Closing.{entry_made, made_entry, noted_gone}
use Rattle.session_actions.specs.Deliveries.{begun_call, call_begun_by, item_taken}
use Rattle.session_actions.specs.Entries.{entry, entry_bytes, has_room, journal_bytes, may_open, now, opened, replied, settling}
use Rattle.session_actions.specs.Links.{with_link}
use Rattle.session_actions.specs.Making.{new_row, with_row}
use Rattle.session_actions.specs.Policies.{with_placing}
use Rattle.session_actions.specs.Refusals.{is_gone}
use Rattle.session_actions.specs.Sessions.{Does, IsNext, new_session}
use Rattle.session_actions.specs.Subchannels.{dial_taken_of, link_up, new_link, new_sub, noted_by_policies, sub_added, with_dial, with_sub}
use Rattle.session_actions.specs.Words.{changed, numbered}
use Rattle.session_actions.specs.Writing.{with_frame_read, with_piece, with_stream}
use Rattle.session_actions.specs.declared.action.Action.TheVariants as action
use Rattle.session_actions.specs.declared.action.Action.{Action}
use Rattle.session_actions.specs.declared.call.Call.{Call}
use Rattle.session_actions.specs.declared.entry.OpenEntry.{OpenEntry}
use Rattle.session_actions.specs.declared.entry.Stage.TheVariants as stage
use Rattle.session_actions.specs.declared.entry.Stage.{Stage}
use Rattle.session_actions.specs.declared.link.Link.{Link}
use Rattle.session_actions.specs.declared.link.Traffic.TheVariants as traffic
use Rattle.session_actions.specs.declared.seen.Seen.{Seen}
use Rattle.session_actions.specs.declared.seen.Setup.{Setup}
use Rattle.session_actions.specs.declared.subchannel.Subchannel.{Subchannel}
use Rattle.std.proofs.Common.{Bool, List, None, Option, Some, [], ap, arith, false, if◌then◌else◌, is_none, is_some, length, nat_le, nat_lt, not, option_map, refl, subst, sym, true, ℕ, ◌&&◌, ◌++◌, ◌+◌, ◌==◌, ◌∙◌, ◌∷◌, ◌≡◌, ◌≤◌}
use Rattle.std.proofs.lemmas.Bool.{and_parts, le-leb, leb-true}
use Rattle.std.proofs.lemmas.List.Sums.{sum_by-cons}
use Rattle.std.proofs.lemmas.List.{length-append, length-map}
use Rattle.std.specs.List.{list_all}
use Rattle.std.specs.Option.{option_map_or}
use Rattle.channel_actions.proofs.Calls.Few.Counts.{brought, came, done, come, bringing, handled, total, whole, is_dialled, is_filled, Tallies, IsTallied, less_on, itself, same_less, plus_less, dialled_more, filled_more, kept, joined, done_by, come_by, entered, applied, beside, long_by, link_now, subs_now}

none_yet : (n : ℕ) → nat_le 0 n ≡ true
none_yet n = le-leb 0 n (omega arith)

added_now : (address : Address) (s : Seen) → Tallies s (sub_added address s)
added_now address s = record {
  links = itself (length s.links);
  dials = λ m e. all_more (is_dialled m) s.subs (new_sub address (length s.subs + 1) ∷ []) e (ap (λ (b : Bool). b && true) (none_yet m));
  received = λ m e. e;
  received_more = itself (handled s);
  total_more = itself (total s);
  whole_less = itself (whole s);
}

replies : (r : Reply) (s : Seen) → Tallies s (replied r s)
replies r s = applied (λ (o : OpenEntry). record o { stage = stage.Replied; reply = Some r }) (λ o. refl) (λ o. refl) s

small : Small Tallies
small = record {
  joined = joined;
  beside = λ s t entries current calls attempts asks subs links. beside s t entries current subs links;
  call = λ f request begun n s. beside s (with_call f n s) refl refl refl refl;
  attempt = λ f waits placed stream n s. beside s (with_attempt f n s) refl refl refl refl;
  row = λ call number kind due s. beside s (with_row (new_row call number kind due) s) refl refl refl refl;
  link = λ f same traffic over n s. link_now f same n s;
  sub = subs_now;
  added = added_now;
  entry = λ f moment event_same stage_same after_it s. entered f event_same stage_same s;
  replied = λ r e s. replies r s;
}

-- an event is answered: of an entry that was at it, one more was handled then, and its bytes came
more_received : (r : Reply) (w : Seen) (o : OpenEntry) → w.current ≡ Some o → is_at_event o.stage ≡ true → handled w + 1 ≤ handled (replied r w)
more_received r w o at first =
    let a : done w.current ≡ 0 = ap done at ∙ ap (λ (b : Bool). if b then 0 else 1) first in
    let b : done (replied r w).current ≡ 1 = ap (λ (c : Option OpenEntry). done (option_map (λ (q : OpenEntry). record q { stage = stage.Replied; reply = Some r }) c)) at in
    one_on (length w.entries) (done w.current) (done (replied r w).current) a b
  where
    one_on : (n i j : ℕ) → i ≡ 0 → j ≡ 1 → n + i + 1 ≤ n + j
    one_on n i j a b = omega (arith, a, b)

all_came : (r : Reply) (w : Seen) (o : OpenEntry) → w.current ≡ Some o → is_at_event o.stage ≡ true → total (replied r w) ≡ total w + brought o.event
all_came r w o at first =
    let a : come w.current ≡ 0 = ap come at ∙ ap (λ (b : Bool). if b then 0 else brought o.event) first in
    let b : come (replied r w).current ≡ brought o.event
    = ap (λ (c : Option OpenEntry). come (option_map (λ (q : OpenEntry). record q { stage = stage.Replied; reply = Some r }) c)) at in
    sum_on (came w.entries) (come w.current) (come (replied r w).current) (brought o.event) a b
  where
    sum_on : (n i j k : ℕ) → i ≡ 0 → j ≡ k → n + j ≡ n + i + k
    sum_on n i j k a b = omega (arith, a, b)

begun_now : (e : Event) (s : Seen) → Tallies s (call_begun_by e s)
begun_now (event.Begin request) s =
    let u : Seen = record s { calls = s.calls ++ begun_call (length s.calls + 1) (entry s) (now s) request ∷ [] } in
    joined s u (replied (reply.Call (length s.calls + 1)) u) (beside s u refl refl refl refl) (replies (reply.Call (length s.calls + 1)) u)
begun_now _ s = beside s s refl refl refl refl

-- what policies note leaves the open entry
noted_current : (u : Seen) (o : Option Subchannel) → (option_map_or (λ (b : Subchannel). noted_by_policies b u) o u).current ≡ u.current
noted_current u None = refl
noted_current u (Some b) = refl

-- a link comes up
up_now : (sub : ℕ) (o : OpenEntry) (s : Seen) → s.current ≡ Some o → is_at_event o.stage ≡ true → IsTallied s → IsTallied (link_up sub s)
up_now sub o s at first k =
    let n : ℕ = length s.links + 1 in
    let v : Seen = record s { links = s.links ++ new_link n sub s ∷ [] } in
    let f : Subchannel → Subchannel = λ (b : Subchannel). record b { link = Some n } in
    let w : Seen = with_sub f sub v in
    let t : Seen = replied (reply.Link n) w in
    let c : Tallies v w = sub_now Tallies small f (λ b. itself b.dials) sub v in
    let d : Tallies w t = replies (reply.Link n) w in
    let both : Tallies v t = joined v w t c d in
    let at_w : w.current ≡ Some o = noted_current (record v { subs = changed f sub v.subs }) (numbered (changed f sub v.subs) sub) ∙ at in
    let more : handled w + 1 ≤ handled t = more_received (reply.Link n) w o at_w first in
    let start : handled s ≤ handled w = c.received_more in
    let long : length v.links ≡ length s.links + 1 = length-append s.links (new_link n sub s ∷ []) in
    record {
      links = up_links (length t.links) (length v.links) (length s.links) (handled s) (handled w) (handled t) both.links long k.links start more;
      dials = both.dials (handled t) (dialled_more (handled s) (handled t) s.subs both.received_more k.dials);
      received = both.received (total t)
          (filled_more (total s) (total t) (s.links ++ new_link n sub s ∷ []) both.total_more
          (all_more (is_filled (total s)) s.links (new_link n sub s ∷ []) k.received (ap (λ (b : Bool). b && true) (none_yet (total s)))));
      within = less_on (whole t) (whole s) 268435456 both.whole_less k.within;
    }
  where
    up_links : (a b c d e f : ℕ) → a ≤ b → b ≡ c + 1 → c ≤ d → d ≤ e → e + 1 ≤ f → a ≤ f
    up_links a b c d e f g h i j l = omega (arith, g, h, i, j, l)

-- a dial is taken
dial_by : (again until : ℕ) (o : OpenEntry) (s : Seen) → s.current ≡ Some o → is_at_event o.stage ≡ true → IsTallied s → (q : Option Subchannel)
    → IsTallied (option_map_or (dial_taken_of again until s) q s)
dial_by again until o s at first k None = k
dial_by again until o s at first k (Some b) =
    let f : Subchannel → Subchannel = with_dial again until in
    let r : Reply = reply.Dial b.number b.address until in
    let draw : OpenEntry → OpenEntry = λ (x : OpenEntry). record x { drawn = x.drawn + (if not (b.dials == 0) then 1 else 0) } in
    let u : Seen = record s { subs = changed f b.number s.subs } in
    let v : Seen = with_sub f b.number s in
    let w : Seen = record v { current = option_map draw v.current } in
    let t : Seen = replied r w in
    let c : Tallies u v = noted_now Tallies small u (numbered u.subs b.number) in
    let d : Tallies v w = small.entry draw (λ x. refl) (λ x. refl) (λ x. refl) (λ x e. e) v in
    let g : Tallies w t = replies r w in
    let all : Tallies u t = joined u v t c (joined v w t d g) in
    let at_v : v.current ≡ Some o = noted_current u (numbered u.subs b.number) ∙ at in
    let at_w : w.current ≡ Some (draw o) = ap (option_map draw) at_v in
    let more : handled w + 1 ≤ handled t = more_received r w (draw o) at_w first in
    let start : handled s ≤ handled w = less_on (handled s) (handled v) (handled w) c.received_more d.received_more in
    let dialled : list_all (is_dialled (handled s + 1)) u.subs ≡ true
    = all_changed (is_dialled (handled s + 1)) f b.number s.subs (dialled_more (handled s) (handled s + 1) s.subs (omega arith) k.dials)
    (λ a there e. le-leb (a.dials + 1) (handled s + 1) (one_up a.dials (handled s) (leb-true a.dials (handled s) (all_at (is_dialled (handled s)) s.subs b.number a k.dials there)))) in
    record {
      links = less_on (length t.links) (length s.links) (handled t) all.links (less_on (length s.links) (handled s) (handled t) k.links all.received_more);
      dials = all.dials (handled t) (dialled_more (handled s + 1) (handled t) u.subs (up_on (handled s) (handled w) (handled t) start more) dialled);
      received = all.received (total t) (filled_more (total s) (total t) s.links all.total_more k.received);
      within = less_on (whole t) (whole s) 268435456 all.whole_less k.within;
    }
  where
    one_up : (a b : ℕ) → a ≤ b → a + 1 ≤ b + 1
    one_up a b e = omega (arith, e)

    up_on : (a b c : ℕ) → a ≤ b → b + 1 ≤ c → a + 1 ≤ c
    up_on a b c e f = omega (arith, e, f)

-- bytes come
piece_long : (e : Event) (l : Link) → length (with_piece e l).received ≤ length l.received + brought e
piece_long (event.Arrived link piece) l = same_less (length (l.received ++ piece)) (length l.received + length piece) (sym (length-append l.received piece))
piece_long e l = (let same : length l.received ≤ length l.received + 0 = omega arith in same)

come_now : (link : ℕ) (o : OpenEntry) (s : Seen) → s.current ≡ Some o → is_at_event o.stage ≡ true → IsTallied s → IsTallied (replied reply.Done (with_link (with_piece o.event) link s))
come_now link o s at first k =
    let w : Seen = with_link (with_piece o.event) link s in
    let t : Seen = replied reply.Done w in
    let d : Tallies w t = replies reply.Done w in
    let bytes : total t ≡ total s + brought o.event = all_came reply.Done w o at first in
    record {
      links =
          less_on (length t.links) (length s.links) (handled t) (same_less (length w.links) (length s.links) (sym (long_by (with_piece o.event) link s.links (numbered s.links link))))
          (less_on (length s.links) (handled s) (handled t) k.links d.received_more);
      dials = dialled_more (handled s) (handled t) s.subs d.received_more k.dials;
      received =
          all_changed (is_filled (total t)) (with_piece o.event) link s.links (filled_more (total s) (total t) s.links d.total_more k.received)
          (λ l there e. le-leb (length (with_piece o.event l).received) (total t)
          (come_on (length (with_piece o.event l).received) (length l.received) (brought o.event) (total s) (total t) (piece_long o.event l)
          (leb-true (length l.received) (total s) (all_at (is_filled (total s)) s.links link l k.received there)) bytes));
      within = less_on (whole t) (whole s) 268435456 d.whole_less k.within;
    }
  where
    come_on : (a b c d e : ℕ) → a ≤ b + c → b ≤ d → e ≡ d + c → a ≤ e
    come_on a b c d e f g h = omega (arith, f, g, h)

-- an entry closes, and opens
came_more : (xs : List Entry) (m : Entry) → came (xs ++ m ∷ []) ≡ came xs + brought m.event
came_more [] m = (let same : brought m.event + 0 ≡ 0 + brought m.event = omega arith in same)
came_more (x ∷ xs) m = more_on (brought x.event) (came (xs ++ m ∷ [])) (came xs) (brought m.event) (came_more xs m)
  where
    more_on : (a b c d : ℕ) → b ≡ c + d → a + b ≡ a + c + d
    more_on a b c d e = omega (arith, e)

noted_bytes : (s : Seen) (l : Link) (b : Bool) (n : ℕ) → (if b then record l { gone = Some n } else l).received ≡ l.received
noted_bytes s l true n = refl
noted_bytes s l false n = refl

closed_now : (o : OpenEntry) (s : Seen) → s.current ≡ Some o → IsTallied s → IsTallied (entry_made o s)
closed_now o s at k =
    let t : Seen = entry_made o s in
    let long : length t.entries ≡ length s.entries + 1 = length-append s.entries (made_entry o s ∷ []) in
    let links : length t.links ≡ length s.links = length-map s.links (noted_gone s) in
    let one : done s.current ≤ 1 = subst (λ (c : Option OpenEntry). done c ≤ 1) (sym at) (done_by (is_at_event o.stage)) in
    let bytes : came t.entries ≡ came s.entries + brought o.event = came_more s.entries (made_entry o s) in
    let some : come s.current ≤ brought o.event = subst (λ (c : Option OpenEntry). come c ≤ brought o.event) (sym at) (come_by (is_at_event o.stage) (brought o.event)) in
    let brings : bringing s.current ≡ brought o.event = ap bringing at in
    let more : handled s ≤ handled t = more_on (length s.entries) (done s.current) (length t.entries) long one in
    let all : total s ≤ total t = bytes_on (came s.entries) (come s.current) (came t.entries) (brought o.event) bytes some in
    record {
      links = up_on (length t.links) (length s.links) (handled s) (handled t) links k.links more;
      dials = dialled_more (handled s) (handled t) s.subs more k.dials;
      received =
          all_mapped (is_filled (total t)) (noted_gone s)
          (λ l e. ap (λ (bytes : List ℕ). nat_le (length bytes) (total t)) (noted_bytes s l (is_none l.gone && is_gone l s) (entry s)) ∙ e) s.links
          (filled_more (total s) (total t) s.links all k.received);
      within = within_on (came t.entries) (came s.entries) (bringing s.current) (brought o.event) bytes brings k.within;
    }
  where
    more_on : (n i m : ℕ) → m ≡ n + 1 → i ≤ 1 → n + i ≤ m + 0
    more_on n i m e f = omega (arith, e, f)

    bytes_on : (n i m b : ℕ) → m ≡ n + b → i ≤ b → n + i ≤ m + 0
    bytes_on n i m b e f = omega (arith, e, f)

    up_on : (a b c d : ℕ) → a ≡ b → b ≤ c → c ≤ d → a ≤ d
    up_on a b c d e f g = omega (arith, e, f, g)

    within_on : (m n i b : ℕ) → m ≡ n + b → i ≡ b → n + i ≤ 268435456 → m + 0 ≤ 268435456
    within_on m n i b e f g = omega (arith, e, f, g)

brings_less : (e : Event) (r : Reply) → brought e ≤ entry_bytes e r
brings_less (event.Arrived link piece) r = (let less : length piece ≤ 64 + length piece = omega arith in less)
brings_less e r = omega arith

came_less : (entries : List Entry) → came entries ≤ journal_bytes entries
came_less [] = omega arith
came_less (e ∷ entries) =
    let cons : journal_bytes (e ∷ entries) ≡ entry_bytes e.event e.reply + journal_bytes entries = sum_by-cons (λ (x : Entry). entry_bytes x.event x.reply) e entries in
    both_on (brought e.event) (entry_bytes e.event e.reply) (came entries) (journal_bytes entries) (journal_bytes (e ∷ entries)) (brings_less e.event e.reply) (came_less entries) cons
  where
    both_on : (a b c d f : ℕ) → a ≤ b → c ≤ d → f ≡ b + d → a + c ≤ f
    both_on a b c d f g h i = omega (arith, g, h, i)

event_less : (e : Event) → brought e ≤ event_bytes e
event_less (event.Arrived link piece) = (let less : length piece ≤ 64 + length piece = omega arith in less)
event_less e = omega arith

opened_now : (posted word : ℕ) (e : Event) (s : Seen) → s.current ≡ None → has_room e s ≡ true → IsTallied s → IsTallied (opened posted word e s)
opened_now posted word e s none room k =
    let t : Seen = opened posted word e s in
    let fits : journal_bytes s.entries + event_bytes e ≤ 268435456
    = leb-true (journal_bytes s.entries + event_bytes e) 268435456 (and_parts (nat_lt (length s.entries) 1048576) (nat_le (journal_bytes s.entries + event_bytes e) 268435456) room).1 in
    let same : handled s ≡ handled t = ap (λ (c : Option OpenEntry). length s.entries + done c) none in
    let bytes : total s ≡ total t = ap (λ (c : Option OpenEntry). came s.entries + come c) none in
    record {
      links = less_on (length s.links) (handled s) (handled t) k.links (same_less (handled s) (handled t) (sym same));
      dials = dialled_more (handled s) (handled t) s.subs (same_less (handled s) (handled t) (sym same)) k.dials;
      received = filled_more (total s) (total t) s.links (same_less (total s) (total t) (sym bytes)) k.received;
      within = within_on (came s.entries) (journal_bytes s.entries) (brought e) (event_bytes e) (came_less s.entries) (event_less e) fits;
    }
  where
    within_on : (a b c d : ℕ) → a ≤ b → c ≤ d → b + d ≤ 268435456 → a + c ≤ 268435456
    within_on a b c d e f g = omega (arith, e, f, g)

-- each action
tallied_in : (o : OpenEntry) (a : Action) (s : Seen) → s.current ≡ Some o → IsNext a s → IsTallied s → IsTallied (after_in o a s)
tallied_in o action.EntryCloses s at next k = closed_now o s at k
tallied_in o action.CallBegins s at next k = kept s (call_begun_by o.event s) (begun_now o.event s) k
tallied_in o (action.DialTaken sub again until) s at next k =
    dial_by again until o s at (begins_at_event s o (action.DialTaken sub again until) refl refl at next) k (numbered s.subs sub)
tallied_in o (action.LinkUp sub) s at next k = up_now sub o s at (begins_at_event s o (action.LinkUp sub) refl refl at next) k
tallied_in o (action.BytesArrive link) s at next k = come_now link o s at (begins_at_event s o (action.BytesArrive link) refl refl at next) k
tallied_in o action.SettlingBegins s at next k = kept s (settling s) (applied (λ (q : OpenEntry). record q { stage = stage.Settling }) (λ q. refl) (λ q. refl) s) k
tallied_in o (action.PickRequested row generation answer) s at next k =
    kept s (after_in o (action.PickRequested row generation answer) s)
    (asked_in Tallies small (λ ask v. beside v (record v { asks = v.asks ++ ask ∷ [] }) refl refl refl refl) row generation answer s) k
tallied_in o (action.AttemptPlaced row on_link) s at next k =
    kept s (after_in o (action.AttemptPlaced row on_link) s) (placed_in Tallies small (λ at_it n v. beside v (with_attempt (with_placing at_it) n v) refl refl refl refl) row on_link s) k
tallied_in o (action.FrameRead link r) s at next k = kept s (after_in o (action.FrameRead link r) s) (read_in Tallies small (λ q frames n v. link_now (with_frame_read q frames) (λ l. refl) n v) link r s) k
tallied_in o (action.FrameWritten link x) s at next k = kept s (after_in o (action.FrameWritten link x) s) (written_in Tallies small (λ stream n v. beside v (with_attempt (with_stream stream) n v) refl refl refl refl) (λ y n v. link_now (λ (l : Link). record l { traffic = l.traffic ++ traffic.Written y ∷ [] }) (λ l. refl) n v) link x s) k
tallied_in o (action.EventRefused why) s at next k = kept s (replied (reply.Refused why) s) (replies (reply.Refused why) s) k
tallied_in o (action.EventAnswered r) s at next k = kept s (replied r s) (replies r s) k
tallied_in o (action.ItemTaken call item) s at next k = kept s (item_taken call item s) (taken_in Tallies small replies call item s) k
tallied_in o a s at next k = kept s (after_in o a s) (small_in Tallies small o a s refl) k

room_of : (e : Event) (s : Seen) → may_open e s ≡ true → has_room e s ≡ true
room_of e s may = (and_parts (is_none s.current) (has_room e s) may).1

tallied_if : (o : Option OpenEntry) (a : Action) (s : Seen) → s.current ≡ o → IsNext a s → IsTallied s → IsTallied (after_if o a s)
tallied_if (Some o) a s at next k = tallied_in o a s at next k
tallied_if None (action.EntryOpens posted word e) s at next k = opened_now posted word e s at (room_of e s next) k
tallied_if None a s at next k = k

tallied_along : (actions : List Action) (s t : Seen) → IsTallied s → Does actions s t → IsTallied t
tallied_along [] s t k does = subst IsTallied (sym does) k
tallied_along (a ∷ actions) s t k does = tallied_along actions (after a s) t (tallied_if s.current a s refl does.0 k) does.1

tallied : (setup : Setup) (actions : List Action) (s : Seen) → Does actions (new_session setup) s → IsTallied s
tallied setup actions s does =
    tallied_along actions (new_session setup) s (record { links = itself 0; dials = refl; received = refl; within = (let none : 0 ≤ 268435456 = omega arith in none) }) does

-- what was handled is no more than the entries, with the one that is being made
done_some : (c : Option OpenEntry) → done c ≤ (if is_some c then 1 else 0)
done_some None = itself 0
done_some (Some o) = done_by (is_at_event o.stage)

received_less : (s : Seen) → handled s ≤ entry s
received_less s = plus_less (length s.entries) (done s.current) (if is_some s.current then 1 else 0) (done_some s.current)

pub links_are_few : LinksAreFew
links_are_few setup actions s does = less_on (length s.links) (handled s) (entry s) (tallied setup actions s does).links (received_less s)

pub dials_are_few : DialsAreFew
dials_are_few setup actions s does = dialled_more (handled s) (entry s) s.subs (received_less s) (tallied setup actions s does).dials

pub bytes_are_few : BytesAreFew
bytes_are_few setup actions s does o at first link piece is l there =
    let k : IsTallied s = tallied setup actions s does in
    let all : length l.received ≤ total s = leb-true (length l.received) (total s) (all_at (is_filled (total s)) s.links link l k.received there) in
    let none : come s.current ≡ 0 = ap come at ∙ ap (λ (g : Stage). if is_at_event g then 0 else brought o.event) first in
    let brings : bringing s.current ≡ length piece = ap bringing at ∙ ap brought is in
    fits_on (length l.received) (came s.entries) (come s.current) (bringing s.current) (length piece) all none brings k.within
  where
    fits_on : (a b c d e : ℕ) → a ≤ b + c → c ≡ 0 → d ≡ e → b + d ≤ 268435456 → a + e ≤ 268435456
    fits_on a b c d e f g h i = omega (arith, f, g, h, i)
