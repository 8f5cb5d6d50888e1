-- The requests of a session have timeouts that may be, where those that were posted have, and no call begins later than now.
use Rattle.channel_actions.proofs.Changes.{Small, asked_in, noted_now, placed_in, read_in, small_in, sub_now, taken_in, written_in}
use Rattle.channel_actions.proofs.KeptSessions.Lists.{all_changed, all_more, all_wide, last_more}
use Rattle.channel_actions.specs.Posted.{EventsArePosted, IsPosted}
use Rattle.grpc_base.specs.Limits.{duration_limit}
use Rattle.grpc_base.specs.Requests.{RequestSeen}
use Rattle.grpc_base.specs.declared.event.Entry.{Entry}
use Rattle.grpc_base.specs.declared.event.Event.TheVariants as event
use Rattle.grpc_base.specs.declared.event.Event.{Event}
use Rattle.grpc_base.specs.declared.event.Reply.TheVariants as reply
use Rattle.grpc_base.specs.declared.event.Reply.{Reply}
use Rattle.grpc_base.specs.declared.event.Stamped.{Stamped}
use Rattle.session_actions.specs.Actions.{after, after_if, after_in}
use Rattle.session_actions.specs.Attempts.{with_attempt}
use Rattle.session_actions.specs.Calls.{with_call}
use Rattle.session_actions.specs.Closing.{entry_made, made_entry}
use Rattle.session_actions.specs.Deliveries.{begun_call, call_begun_by, item_taken}
use Rattle.session_actions.specs.Entries.{entry, last_moment, now, opened, replied, settling}
use Rattle.session_actions.specs.Laws.{posted_by, posted_in}
use Rattle.session_actions.specs.Links.{with_link}
use Rattle.session_actions.specs.Making.{new_row, with_row}
use Rattle.session_actions.specs.Policies.{with_placing}
use Rattle.session_actions.specs.Sessions.{Does, new_session}
use Rattle.session_actions.specs.Subchannels.{dial_taken_of, link_up, new_link, sub_added, with_dial, with_sub}
use Rattle.session_actions.specs.Words.{changed, last_of, numbered}
use Rattle.session_actions.specs.Writing.{with_frame_read, with_piece, with_stream}
use Rattle.session_actions.specs.declared.action.Action.TheVariants as action
use Rattle.session_actions.specs.declared.action.Action.{Action}
use Rattle.session_actions.specs.declared.call.Call.{Call}
use Rattle.session_actions.specs.declared.entry.OpenEntry.{OpenEntry}
use Rattle.session_actions.specs.declared.entry.Stage.TheVariants as stage
use Rattle.session_actions.specs.declared.link.Link.{Link}
use Rattle.session_actions.specs.declared.link.Traffic.TheVariants as traffic
use Rattle.session_actions.specs.declared.seen.Seen.{Seen}
use Rattle.session_actions.specs.declared.seen.Setup.{Setup}
use Rattle.session_actions.specs.declared.subchannel.Subchannel.{Subchannel}
use Rattle.std.proofs.Common.{Bool, IfSome, List, None, Option, Some, [], ap, arith, if◌then◌else◌, length, nat_le, not, option_map, refl, subst, sym, true, ℕ, ◌&&◌, ◌++◌, ◌+◌, ◌==◌, ◌∙◌, ◌∷◌, ◌≡◌, ◌≤◌}
use Rattle.std.proofs.lemmas.Bool.{and_from, and_parts, le-leb, leb-true}
use Rattle.std.specs.List.{list_all}
use Rattle.std.specs.Option.{option_map_or}
use Rattle.std.specs.Prelude.{max, option_to_list}

-- a request with a timeout that may be, of a call that began no later than at this moment
abbrev is_short_request : RequestSeen → Bool
is_short_request r = option_map_or (λ t. nat_le t duration_limit) r.timeout true

abbrev pub is_timed : ℕ → Call → Bool
is_timed n c = nat_le c.begun_at n && is_short_request c.request

abbrev IsOfPosted : Option OpenEntry → Type 0
IsOfPosted None = Unit {0}
IsOfPosted (Some o) = IsPosted o.event

record Times (s t : Seen) : Type 0 where
  calls : (n : ℕ) → list_all (is_timed n) s.calls ≡ true → list_all (is_timed n) t.calls ≡ true
  later : now s ≤ now t
  of_posted : IsOfPosted s.current → IsOfPosted t.current

pub record IsTimed (s : Seen) : Type 0 where
  pub calls : list_all (is_timed (now s)) s.calls ≡ true
  pub of_posted : IsOfPosted s.current

less_on : (a b c : ℕ) → a ≤ b → b ≤ c → a ≤ c
less_on a b c e f = omega (arith, e, f)

itself : (n : ℕ) → n ≤ n
itself n = omega arith

same_less : (n m : ℕ) → m ≡ n → n ≤ m
same_less n m e = omega (arith, e)

timed_more : (n m : ℕ) (calls : List Call) → n ≤ m → list_all (is_timed n) calls ≡ true → list_all (is_timed m) calls ≡ true
timed_more n m calls less e = all_wide (is_timed n) (is_timed m) one calls e
  where
    one : (c : Call) → is_timed n c ≡ true → is_timed m c ≡ true
    one c f =
        let both : (nat_le c.begun_at n ≡ true) × (is_short_request c.request ≡ true) = and_parts (nat_le c.begun_at n) (is_short_request c.request) f in
        and_from (nat_le c.begun_at m) (is_short_request c.request) (le-leb c.begun_at m (less_on c.begun_at n m (leb-true c.begun_at n both.0) less)) both.1

kept : (s t : Seen) → Times s t → IsTimed s → IsTimed t
kept s t c k = record { calls = c.calls (now t) (timed_more (now s) (now t) s.calls c.later k.calls); of_posted = c.of_posted k.of_posted }

joined : (s t u : Seen) → Times s t → Times t u → Times s u
joined s t u c d = record {
  calls = λ n e. d.calls n (c.calls n e);
  later = less_on (now s) (now t) (now u) c.later d.later;
  of_posted = λ p. d.of_posted (c.of_posted p);
}

-- where calls and the open entry are as before
aside : (s t : Seen) → t.entries ≡ s.entries → t.current ≡ s.current → t.calls ≡ s.calls → Times s t
aside s t entries current calls = record {
  calls = λ n e. ap (list_all (is_timed n)) calls ∙ e;
  later =
      same_less (now s) (now t)
      (ap (λ (es : List Entry). option_map_or (λ (o : OpenEntry). o.moment) t.current (option_map_or (λ (e : Entry). e.moment) (last_of es) 0)) entries
      ∙ ap (λ (c : Option OpenEntry). option_map_or (λ (o : OpenEntry). o.moment) c (last_moment s)) current);
  of_posted = λ p. subst IsOfPosted (sym current) p;
}

-- the open entry, changed
moment_same : (f : OpenEntry → OpenEntry) → ((o : OpenEntry) → (f o).moment ≡ o.moment) → (c : Option OpenEntry) (n : ℕ)
    → option_map_or (λ (o : OpenEntry). o.moment) (option_map f c) n ≡ option_map_or (λ (o : OpenEntry). o.moment) c n
moment_same f same None n = refl
moment_same f same (Some o) n = same o

event_same : (f : OpenEntry → OpenEntry) → ((o : OpenEntry) → (f o).event ≡ o.event) → (c : Option OpenEntry) → IsOfPosted c → IsOfPosted (option_map f c)
event_same f same None p = p
event_same f same (Some o) p = subst IsPosted (sym (same o)) p

entered : (f : OpenEntry → OpenEntry) → ((o : OpenEntry) → (f o).moment ≡ o.moment) → ((o : OpenEntry) → (f o).event ≡ o.event) → (s : Seen)
    → Times s (record s { current = option_map f s.current })
entered f moment event_is s = record {
  calls = λ n e. e;
  later = same_less (now s) (option_map_or (λ (o : OpenEntry). o.moment) (option_map f s.current) (last_moment s)) (moment_same f moment s.current (last_moment s));
  of_posted = event_same f event_is s.current;
}

call_now : (f : Call → Call) → ((c : Call) → (f c).request ≡ c.request) → ((c : Call) → (f c).begun_at ≡ c.begun_at) → (n : ℕ) (s : Seen) → Times s (with_call f n s)
call_now f request begun n s = record {
  calls = λ m e. all_changed (is_timed m) f n s.calls e
      (λ c there g.
      ap (λ (r : RequestSeen). nat_le (f c).begun_at m && is_short_request r) (request c)
      ∙ ap (λ (b : ℕ). nat_le b m && is_short_request c.request) (begun c) ∙ g);
  later = itself (now s);
  of_posted = λ p. p;
}

replies : (r : Reply) (s : Seen) → Times s (replied r s)
replies r s = entered (λ (o : OpenEntry). record o { stage = stage.Replied; reply = Some r }) (λ o. refl) (λ o. refl) s

small : Small Times
small = record {
  joined = joined;
  beside = λ s t entries current calls attempts asks subs links. aside s t entries current calls;
  call = call_now;
  attempt = λ f waits placed stream n s. aside s (with_attempt f n s) refl refl refl;
  row = λ call number kind due s. aside s (with_row (new_row call number kind due) s) refl refl refl;
  link = λ f same traffic over n s. aside s (with_link f n s) refl refl refl;
  sub = λ f less n s. aside s (record s { subs = changed f n s.subs }) refl refl refl;
  added = λ address s. aside s (sub_added address s) refl refl refl;
  entry = λ f moment event_is stage_is after_it s. entered f moment event_is s;
  replied = λ r e s. replies r s;
}

-- what events alone do
short_by : (o : Option ℕ) → IfSome o (λ t. t ≤ duration_limit) → option_map_or (λ (t : ℕ). nat_le t duration_limit) o true ≡ true
short_by None h = refl
short_by (Some t) h = le-leb t duration_limit h

begun_now : (e : Event) (s : Seen) → IsPosted e → IsTimed s → IsTimed (call_begun_by e s)
begun_now (event.Begin request) s p k =
    let c : Call = begun_call (length s.calls + 1) (entry s) (now s) request in
    let u : Seen = record s { calls = s.calls ++ c ∷ [] } in
    let one : is_timed (now s) c ≡ true
    = and_from (nat_le (now s) (now s)) (is_short_request request) (le-leb (now s) (now s) (itself (now s))) (short_by request.timeout p.timeout_is) in
    kept u (replied (reply.Call (length s.calls + 1)) u) (replies (reply.Call (length s.calls + 1)) u)
    (record { calls = all_more (is_timed (now s)) s.calls (c ∷ []) k.calls (ap (λ (b : Bool). b && true) one); of_posted = k.of_posted })
begun_now e s p k = k

up_now : (sub : ℕ) (s : Seen) → Times s (link_up sub s)
up_now sub s =
    let n : ℕ = length s.links + 1 in
    let v : Seen = record s { links = s.links ++ new_link n sub s ∷ [] } in
    let f : Subchannel → Subchannel = λ (b : Subchannel). record b { link = Some n } in
    let w : Seen = with_sub f sub v in
    joined s v (replied (reply.Link n) w) (aside s v refl refl refl)
    (joined v w (replied (reply.Link n) w) (sub_now Times small f (λ b. itself b.dials) sub v) (replies (reply.Link n) w))

dial_by : (again until : ℕ) (s : Seen) (q : Option Subchannel) → Times s (option_map_or (dial_taken_of again until s) q s)
dial_by again until s None = aside s s refl refl refl
dial_by again until s (Some b) =
    let r : Reply = reply.Dial b.number b.address until in
    let draw : OpenEntry → OpenEntry = λ (x : OpenEntry). record x { drawn = x.drawn + (if not (b.dials == 0) then 1 else 0) } in
    let u : Seen = record s { subs = changed (with_dial again until) b.number s.subs } in
    let v : Seen = with_sub (with_dial again until) b.number s in
    let w : Seen = record v { current = option_map draw v.current } in
    joined s u (replied r w) (aside s u refl refl refl)
    (joined u v (replied r w) (noted_now Times small u (numbered u.subs b.number))
    (joined v w (replied r w) (entered draw (λ x. refl) (λ x. refl) v) (replies r w)))

come_now : (e : Event) (link : ℕ) (s : Seen) → Times s (replied reply.Done (with_link (with_piece e) link s))
come_now e link s =
    let w : Seen = with_link (with_piece e) link s in joined s w (replied reply.Done w) (aside s w refl refl refl) (replies reply.Done w)

closed_now : (o : OpenEntry) (s : Seen) → s.current ≡ Some o → Times s (entry_made o s)
closed_now o s at = record {
  calls = λ n e. e;
  later =
      same_less (now s) (now (entry_made o s))
      (ap (λ (q : Option Entry). option_map_or (λ (e : Entry). e.moment) q 0) (last_more s.entries (made_entry o s))
      ∙ sym (ap (λ (c : Option OpenEntry). option_map_or (λ (q : OpenEntry). q.moment) c (last_moment s)) at));
  of_posted = λ p. tt;
}

opened_now : (posted word : ℕ) (e : Event) (s : Seen) → s.current ≡ None → IsPosted e → IsTimed s → IsTimed (opened posted word e s)
opened_now posted word e s none p k =
    let before : now s ≡ last_moment s = ap (λ (c : Option OpenEntry). option_map_or (λ (q : OpenEntry). q.moment) c (last_moment s)) none in
    let more : now s ≤ max (last_moment s) posted = later_by (now s) (last_moment s) posted before in
    record { calls = timed_more (now s) (max (last_moment s) posted) s.calls more k.calls; of_posted = p }
  where
    later_by : (a b c : ℕ) → a ≡ b → a ≤ max b c
    later_by a b c e = omega (arith, e)

-- each action
timed_in : (o : OpenEntry) (a : Action) (s : Seen) → s.current ≡ Some o → IsTimed s → IsTimed (after_in o a s)
timed_in o action.EntryCloses s at k = kept s (entry_made o s) (closed_now o s at) k
timed_in o action.CallBegins s at k = begun_now o.event s (subst IsOfPosted at k.of_posted) k
timed_in o (action.DialTaken sub again until) s at k = kept s (after_in o (action.DialTaken sub again until) s) (dial_by again until s (numbered s.subs sub)) k
timed_in o (action.LinkUp sub) s at k = kept s (link_up sub s) (up_now sub s) k
timed_in o (action.BytesArrive link) s at k = kept s (after_in o (action.BytesArrive link) s) (come_now o.event link s) k
timed_in o action.SettlingBegins s at k = kept s (settling s) (entered (λ (q : OpenEntry). record q { stage = stage.Settling }) (λ q. refl) (λ q. refl) s) k
timed_in o (action.PickRequested row generation answer) s at k =
    kept s (after_in o (action.PickRequested row generation answer) s)
    (asked_in Times small (λ ask v. aside v (record v { asks = v.asks ++ ask ∷ [] }) refl refl refl) row generation answer s) k
timed_in o (action.AttemptPlaced row on_link) s at k =
    kept s (after_in o (action.AttemptPlaced row on_link) s) (placed_in Times small (λ at_it n v. aside v (with_attempt (with_placing at_it) n v) refl refl refl) row on_link s) k
timed_in o (action.FrameRead link r) s at k = kept s (after_in o (action.FrameRead link r) s) (read_in Times small (λ q frames n v. aside v (with_link (with_frame_read q frames) n v) refl refl refl) link r s) k
timed_in o (action.FrameWritten link x) s at k = kept s (after_in o (action.FrameWritten link x) s) (written_in Times small (λ stream n v. aside v (with_attempt (with_stream stream) n v) refl refl refl) (λ y n v. aside v (with_link (λ (l : Link). record l { traffic = l.traffic ++ traffic.Written y ∷ [] }) n v) refl refl refl) link x s) k
timed_in o (action.EventRefused why) s at k = kept s (replied (reply.Refused why) s) (replies (reply.Refused why) s) k
timed_in o (action.EventAnswered r) s at k = kept s (replied r s) (replies r s) k
timed_in o (action.ItemTaken call item) s at k = kept s (item_taken call item s) (taken_in Times small replies call item s) k
timed_in o a s at k = kept s (after_in o a s) (small_in Times small o a s refl) k

-- what an entry that opens brings was posted
abbrev Brings : Action → Type 0
Brings (action.EntryOpens posted word e) = IsPosted e
Brings _ = Unit {0}

brought : (a : Action) (rest : List Stamped) → EventsArePosted (option_to_list (posted_by a) ++ rest) → Brings a × EventsArePosted rest
brought (action.EntryOpens posted word e) rest all = (all.0, all.1)
brought a rest all = (tt, all)

timed_if : (o : Option OpenEntry) (a : Action) (s : Seen) → s.current ≡ o → Brings a → IsTimed s → IsTimed (after_if o a s)
timed_if (Some o) a s at p k = timed_in o a s at k
timed_if None (action.EntryOpens posted word e) s at p k = opened_now posted word e s at p k
timed_if None a s at p k = k

timed_along : (actions : List Action) (s t : Seen) → IsTimed s → EventsArePosted (posted_in actions) → Does actions s t → IsTimed t
timed_along [] s t k posted does = subst IsTimed (sym does) k
timed_along (a ∷ actions) s t k posted does =
    let both : Brings a × EventsArePosted (posted_in actions) = brought a (posted_in actions) posted in
    timed_along actions (after a s) t (timed_if s.current a s refl both.0 k) both.1 does.1

pub timed : (setup : Setup) (actions : List Action) (s : Seen) → Does actions (new_session setup) s → EventsArePosted (posted_in actions) → IsTimed s
timed setup actions s does posted = timed_along actions (new_session setup) s (record { calls = refl; of_posted = tt }) posted does
