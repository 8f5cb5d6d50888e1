-- The answer of a pick request that is still to be acted on names a subchannel whose link takes streams: so it is when the answer is given, and nothing comes between but what
-- is done to calls.
use Rattle.attempt_ledger.specs.Ends.{is_cut}
use Rattle.attempt_ledger.specs.Numbering.{is_transparent}
use Rattle.attempt_ledger.specs.declared.ledger.Ask.{Ask}
use Rattle.attempt_ledger.specs.declared.row.Placed.{Placed}
use Rattle.attempt_ledger.specs.declared.row.RowEnd.{RowEnd}
use Rattle.attempt_ledger.specs.declared.row.RowKind.{RowKind}
use Rattle.channel_actions.proofs.Changes.{Small, noted_now, placed_in, read_in, small_in, sub_now, taken_in, written_in}
use Rattle.channel_actions.proofs.Calls.Few.Begins.{IsOfStage, is_stage_next}
use Rattle.channel_actions.proofs.KeptSessions.Lines.{next_sound}
use Rattle.channel_actions.proofs.KeptSessions.Lists.{all_at, get_more, last_more}
use Rattle.channel_actions.proofs.KeptSessions.Sound.{IsSound, is_place, is_placing, is_placing_ask}
use Rattle.channel_actions.proofs.KeptSessions.Whole.{entry_stays}
use Rattle.channel_actions.proofs.TransparentRetries.Fits.{AreTaking, FitsRetried, is_taking, names_taking}
use Rattle.channel_actions.specs.KeptSessions.Kept.{IsKept, came_up, has_link_for, is_sound_ask, is_sound_sub}
use Rattle.grpc_base.specs.declared.event.Entry.{Entry}
use Rattle.grpc_base.specs.declared.event.Event.TheVariants as event
use Rattle.grpc_base.specs.declared.event.Event.{Event}
use Rattle.grpc_base.specs.declared.event.Reply.TheVariants as reply
use Rattle.grpc_base.specs.declared.event.Reply.{Reply}
use Rattle.grpc_base.specs.declared.kind.Pick.TheVariants as pick
use Rattle.grpc_base.specs.declared.kind.Pick.{Pick}
use Rattle.lb_policy.specs.Table.{is_ready}
use Rattle.link_actions.proofs.ReaderActions.Placed.{pick}
use Rattle.session_actions.specs.Actions.{after, after_if, after_in}
use Rattle.session_actions.specs.AttemptEnds.{attempt_ended_as, with_end_in_run}
use Rattle.session_actions.specs.Attempts.{call_of, is_to_follow, with_attempt}
use Rattle.session_actions.specs.Calls.{marked, with_call}
use Rattle.session_actions.specs.Closing.{entry_made, made_entry}
use Rattle.session_actions.specs.Commitments.{with_commitment}
use Rattle.session_actions.specs.Configs.{config_of_call}
use Rattle.session_actions.specs.Deliveries.{begun_call, call_begun_by}
use Rattle.session_actions.specs.Entries.{entry, now, opened, replied}
use Rattle.session_actions.specs.Links.{with_link}
use Rattle.session_actions.specs.Making.{new_row, with_row, without_turn_unless}
use Rattle.session_actions.specs.Policies.{is_unfollowed, next_of_pick, pick_requested, with_placing}
use Rattle.session_actions.specs.Sessions.{IsNext}
use Rattle.session_actions.specs.Subchannels.{dial_taken_of, is_going_down, is_to_be_ready, is_to_go_down, link_action, link_up, new_link, next_of_links, sub_added, with_dial, with_sub}
use Rattle.session_actions.specs.Words.{changed, first_of, holds, last_of, numbered}
use Rattle.session_actions.specs.Writing.{with_frame_read, with_piece, with_stream}
use Rattle.session_actions.specs.declared.action.Action.TheVariants as action
use Rattle.session_actions.specs.declared.action.Action.{Action}
use Rattle.session_actions.specs.declared.attempt.Attempt.{Attempt}
use Rattle.session_actions.specs.declared.call.Call.{Call}
use Rattle.session_actions.specs.declared.call.MarkKind.TheVariants as mark
use Rattle.session_actions.specs.declared.call.MarkKind.{MarkKind}
use Rattle.session_actions.specs.declared.config.HeldConfig.{HeldConfig}
use Rattle.session_actions.specs.declared.config.ThrottleRun.{ThrottleRun}
use Rattle.session_actions.specs.declared.entry.OpenEntry.{OpenEntry}
use Rattle.session_actions.specs.declared.entry.Stage.TheVariants as stage
use Rattle.session_actions.specs.declared.link.Link.{Link}
use Rattle.session_actions.specs.declared.link.Traffic.TheVariants as traffic
use Rattle.session_actions.specs.declared.seen.Seen.{Seen}
use Rattle.session_actions.specs.declared.subchannel.Subchannel.{Subchannel}
use Rattle.session_order.proofs.Changed.{changed_away, changed_map}
use Rattle.session_order.proofs.Lists.{or_none}
use Rattle.std.proofs.Common.{ap, arith, length-append, subst, sym, ◌∙◌}
use Rattle.std.proofs.lemmas.Bool.{and_from, and_parts, eqb-false, eqb-true, leb-true}
use Rattle.std.specs.Option.{option_map_or}
use Rattle.std.specs.Prelude.{Bool, List, None, Option, Some, [], false, if◌then◌else◌, is_none, is_some, length, nat_le, not, option_and_then, option_map, refl, slice_get, suc, true, zero, ℕ, ◌&&◌, ◌++◌, ◌+◌, ◌==◌, ◌||◌, ◌∷◌, ◌≡◌, ◌≤◌}

-- what a change leaves of the last pick request: its attempt is there, and waits only if it did
record Holds (s t : Seen) : Type 0 where
  asks : t.asks ≡ s.asks
  entries : entry t ≡ entry s
  waits : (row : ℕ) → is_some (numbered s.attempts row) ≡ true
      → (is_some (numbered t.attempts row) ≡ true) × (holds is_unfollowed (numbered t.attempts row) ≡ true → holds is_unfollowed (numbered s.attempts row) ≡ true)

joined : (s t u : Seen) → Holds s t → Holds t u → Holds s u
joined s t u c d = record {
  asks = d.asks ∙ c.asks;
  entries = d.entries ∙ c.entries;
  waits = λ row e.
      (let one : (is_some (numbered t.attempts row) ≡ true) × (holds is_unfollowed (numbered t.attempts row) ≡ true → holds is_unfollowed (numbered s.attempts row) ≡ true)
      = c.waits row e in
      let two : (is_some (numbered u.attempts row) ≡ true) × (holds is_unfollowed (numbered u.attempts row) ≡ true → holds is_unfollowed (numbered t.attempts row) ≡ true)
      = d.waits row one.0 in
      (two.0, λ f. one.1 (two.1 f)));
}

beside : (s t : Seen) → t.attempts ≡ s.attempts → t.asks ≡ s.asks → entry t ≡ entry s → Holds s t
beside s t attempts asks entries = record {
  asks = asks;
  entries = entries;
  waits = λ row e.
      (ap (λ (xs : List Attempt). is_some (numbered xs row)) attempts ∙ e, λ f. sym (ap (λ (xs : List Attempt). holds is_unfollowed (numbered xs row)) attempts) ∙ f);
}

aside : (s t : Seen) → t.entries ≡ s.entries → t.current ≡ s.current → t.attempts ≡ s.attempts → t.asks ≡ s.asks → Holds s t
aside s t entries current attempts asks =
    beside s t attempts asks
    (ap (λ (es : List Entry). length es + (if is_some t.current then 1 else 0)) entries ∙ ap (λ (c : Option OpenEntry). length s.entries + (if is_some c then 1 else 0)) current)

entered : (f : OpenEntry → OpenEntry) (s : Seen) → Holds s (record s { current = option_map f s.current })
entered f s = beside s (record s { current = option_map f s.current }) refl refl (entry_stays f s)

-- one attempt, changed
there_by : (f : Attempt → Attempt) → ((a : Attempt) → is_unfollowed (f a) ≡ true → is_unfollowed a ≡ true) → (o : Option Attempt) → is_some o ≡ true
    → (is_some (option_map f o) ≡ true) × (holds is_unfollowed (option_map f o) ≡ true → holds is_unfollowed o ≡ true)
there_by f less None e = absurd (cc)
there_by f less (Some a) e = (refl, less a)

module _ (f : Attempt → Attempt) (less : (a : Attempt) → is_unfollowed (f a) ≡ true → is_unfollowed a ≡ true) where
  waits_by : (n row : ℕ) (xs : List Attempt) (b : Bool) → (row == n) ≡ b → is_some (numbered xs row) ≡ true
      → (is_some (numbered (changed f n xs) row) ≡ true) × (holds is_unfollowed (numbered (changed f n xs) row) ≡ true → holds is_unfollowed (numbered xs row) ≡ true)
  waits_by n row xs true same e =
      let here : row ≡ n = eqb-true row n same in
      let now_is : numbered (changed f n xs) row ≡ option_map f (numbered xs row) = ap (numbered (changed f n xs)) here ∙ changed_map f n xs ∙ ap (λ (k : ℕ). option_map f (numbered xs k)) (sym here) in
      let both : (is_some (option_map f (numbered xs row)) ≡ true) × (holds is_unfollowed (option_map f (numbered xs row)) ≡ true → holds is_unfollowed (numbered xs row) ≡ true)
      = there_by f less (numbered xs row) e in
      (ap is_some now_is ∙ both.0, λ g. both.1 (sym (ap (holds is_unfollowed) now_is) ∙ g))
  waits_by n row xs false same e =
      let now_is : numbered (changed f n xs) row ≡ numbered xs row = changed_away f n row xs (eqb-false row n same) in
      (ap is_some now_is ∙ e, λ g. sym (ap (holds is_unfollowed) now_is) ∙ g)

  attempt_now : (n : ℕ) (s : Seen) → Holds s (with_attempt f n s)
  attempt_now n s = record { asks = refl; entries = refl; waits = λ row e. waits_by n row s.attempts (row == n) refl e }

-- a new attempt
more_by : (xs : List Attempt) (a : Attempt) (row : ℕ) (o : Option Attempt) → numbered xs row ≡ o → is_some o ≡ true → numbered (xs ++ a ∷ []) row ≡ numbered xs row
more_by xs a row None got e = absurd (cc)
more_by xs a zero (Some x) got e = absurd (cc)
more_by xs a (suc i) (Some x) got e = get_more xs (a ∷ []) i x got ∙ sym got

row_now : (call number : ℕ) (kind : RowKind) (due : ℕ) (s : Seen) → Holds s (with_row (new_row call number kind due) s)
row_now call number kind due s =
    let a : Attempt = record { place = length s.attempts + 1; row = new_row call number kind due; made = entry s; reset = false } in
    record {
      asks = refl;
      entries = refl;
      waits = λ row e.
          (let same : numbered (s.attempts ++ a ∷ []) row ≡ numbered s.attempts row = more_by s.attempts a row (numbered s.attempts row) refl e in
          (ap is_some same ∙ e, λ g. sym (ap (holds is_unfollowed) same) ∙ g));
    }

replies : (r : Reply) (s : Seen) → Holds s (replied r s)
replies r s = entered (λ (o : OpenEntry). record o { stage = stage.Replied; reply = Some r }) s

small : Small Holds
small = record {
  joined = joined;
  beside = λ s t entries current calls attempts asks subs links. aside s t entries current attempts asks;
  call = λ f request begun n s. aside s (with_call f n s) refl refl refl refl;
  attempt = λ f waits placed stream n s. attempt_now f waits n s;
  row = row_now;
  link = λ f same traffic over n s. aside s (with_link f n s) refl refl refl refl;
  sub = λ f less n s. aside s (record s { subs = changed f n s.subs }) refl refl refl refl;
  added = λ address s. aside s (sub_added address s) refl refl refl refl;
  entry = λ f moment event_is stage_is after_it s. entered f s;
  replied = λ r e s. replies r s;
}

-- what events alone do
itself : (n : ℕ) → n ≤ n
itself n = omega arith

begun_now : (e : Event) (s : Seen) → Holds s (call_begun_by e s)
begun_now (event.Begin request) s =
    let u : Seen = record s { calls = s.calls ++ begun_call (length s.calls + 1) (entry s) (now s) request ∷ [] } in
    joined s u (replied (reply.Call (length s.calls + 1)) u) (aside s u refl refl refl refl) (replies (reply.Call (length s.calls + 1)) u)
begun_now e s = aside s s refl refl refl refl

up_now : (sub : ℕ) (s : Seen) → Holds s (link_up sub s)
up_now sub s =
    let n : ℕ = length s.links + 1 in
    let v : Seen = record s { links = s.links ++ new_link n sub s ∷ [] } in
    let f : Subchannel → Subchannel = λ (b : Subchannel). record b { link = Some n } in
    let w : Seen = with_sub f sub v in
    joined s v (replied (reply.Link n) w) (aside s v refl refl refl refl)
    (joined v w (replied (reply.Link n) w) (sub_now Holds small f (λ b. itself b.dials) sub v) (replies (reply.Link n) w))

dial_by : (again until : ℕ) (s : Seen) (q : Option Subchannel) → Holds s (option_map_or (dial_taken_of again until s) q s)
dial_by again until s None = aside s s refl refl refl refl
dial_by again until s (Some b) =
    let r : Reply = reply.Dial b.number b.address until in
    let draw : OpenEntry → OpenEntry = λ (x : OpenEntry). record x { drawn = x.drawn + (if not (b.dials == 0) then 1 else 0) } in
    let u : Seen = record s { subs = changed (with_dial again until) b.number s.subs } in
    let v : Seen = with_sub (with_dial again until) b.number s in
    let w : Seen = record v { current = option_map draw v.current } in
    joined s u (replied r w) (aside s u refl refl refl refl)
    (joined u v (replied r w) (noted_now Holds small u (numbered u.subs b.number)) (joined v w (replied r w) (entered draw v) (replies r w)))

come_now : (e : Event) (link : ℕ) (s : Seen) → Holds s (replied reply.Done (with_link (with_piece e) link s))
come_now e link s =
    let w : Seen = with_link (with_piece e) link s in joined s w (replied reply.Done w) (aside s w refl refl refl refl) (replies reply.Done w)

closed_now : (o : OpenEntry) (s : Seen) → s.current ≡ Some o → Holds s (entry_made o s)
closed_now o s at =
    let more : length (s.entries ++ made_entry o s ∷ []) ≡ length s.entries + 1 = length-append s.entries (made_entry o s ∷ []) in
    let made : length (s.entries ++ made_entry o s ∷ []) + 0 ≡ length s.entries + 1 = omega (arith, more) in
    beside s (entry_made o s) refl refl (made ∙ sym (ap (λ (x : Option OpenEntry). length s.entries + (if is_some x then 1 else 0)) at))

never_waits : (b : Bool) → (false && b) ≡ true → (a : Attempt) → is_unfollowed a ≡ true
never_waits b e a = absurd (cc)

-- each action but a pick request
abbrev is_request : Action → Bool
is_request (action.PickRequested row generation answer) = true
is_request _ = false

holds_in : (o : OpenEntry) (a : Action) (s : Seen) → s.current ≡ Some o → is_request a ≡ false → Holds s (after_in o a s)
holds_in o (action.PickRequested row generation answer) s at is = absurd (cc)
holds_in o action.EntryCloses s at is = closed_now o s at
holds_in o action.CallBegins s at is = begun_now o.event s
holds_in o (action.DialTaken sub again until) s at is = dial_by again until s (numbered s.subs sub)
holds_in o (action.LinkUp sub) s at is = up_now sub s
holds_in o (action.BytesArrive link) s at is = come_now o.event link s
holds_in o action.SettlingBegins s at is = entered (λ (q : OpenEntry). record q { stage = stage.Settling }) s
holds_in o (action.AttemptPlaced row on_link) s at is =
    placed_in Holds small (λ at_it n v. attempt_now (with_placing at_it) (λ a e. never_waits (is_none a.row.ended) e a) n v) row on_link s
holds_in o (action.FrameRead link r) s at is = read_in Holds small (λ q frames n v. aside v (with_link (with_frame_read q frames) n v) refl refl refl refl) link r s
holds_in o (action.FrameWritten link x) s at is =
    written_in Holds small (λ stream n v. attempt_now (with_stream stream) (λ a e. e) n v)
    (λ y n v. aside v (with_link (λ (l : Link). record l { traffic = l.traffic ++ traffic.Written y ∷ [] }) n v) refl refl refl refl) link x s
holds_in o (action.EventRefused why) s at is = replies (reply.Refused why) s
holds_in o (action.EventAnswered r) s at is = replies r s
holds_in o (action.ItemTaken call item) s at is = taken_in Holds small replies call item s
holds_in o a s at is = small_in Holds small o a s refl

-- so what is to be acted on was so before
both_by : (w : Bool) (o : Option Attempt) → holds (λ (a : Attempt). is_unfollowed a && w) o ≡ true → (holds is_unfollowed o ≡ true) × (w ≡ true)
both_by w None e = absurd (cc)
both_by w (Some a) e = and_parts (is_unfollowed a) w e

both_from : (w : Bool) (o : Option Attempt) → holds is_unfollowed o ≡ true → w ≡ true → holds (λ (a : Attempt). is_unfollowed a && w) o ≡ true
both_from w None e f = absurd (cc)
both_from w (Some a) e f = and_from (is_unfollowed a) w e f

some_of : {X : Type 0} (p : X → Bool) (o : Option X) → holds p o ≡ true → is_some o ≡ true
some_of p None e = absurd (cc)
some_of p (Some x) e = refl

ask_there : (s : Seen) (ask : Ask) → IsKept s → last_of s.asks ≡ Some ask → is_some (numbered s.attempts ask.row) ≡ true
ask_there s ask kept last =
    some_of (λ (a : Attempt). not (is_unfollowed a && (ask.entry == entry s)) || has_link_for s.subs ask.answer) (numbered s.attempts ask.row)
    (sym (ap (λ (o : Option Ask). option_map_or (is_sound_ask s) o true) last) ∙ kept.picked)

was_placing : (s t : Seen) (ask : Ask) → IsKept s → Holds s t → last_of s.asks ≡ Some ask → is_placing_ask t ask ≡ true → is_placing_ask s ask ≡ true
was_placing s t ask kept c last e =
    let parts : (holds (λ (a : Attempt). is_unfollowed a && (ask.entry == entry t)) (numbered t.attempts ask.row) ≡ true) × (is_place ask.answer ≡ true)
    = and_parts (holds (λ (a : Attempt). is_unfollowed a && (ask.entry == entry t)) (numbered t.attempts ask.row)) (is_place ask.answer) e in
    let both : (holds is_unfollowed (numbered t.attempts ask.row) ≡ true) × ((ask.entry == entry t) ≡ true) = both_by (ask.entry == entry t) (numbered t.attempts ask.row) parts.0 in
    let waits : holds is_unfollowed (numbered s.attempts ask.row) ≡ true = (c.waits ask.row (ask_there s ask kept last)).1 both.0 in
    let same : (ask.entry == entry s) ≡ true = ap (λ (n : ℕ). ask.entry == n) (sym c.entries) ∙ both.1 in
    and_from (holds (λ (a : Attempt). is_unfollowed a && (ask.entry == entry s)) (numbered s.attempts ask.row)) (is_place ask.answer)
    (both_from (ask.entry == entry s) (numbered s.attempts ask.row) waits same) parts.1

last_was : (s t : Seen) (ask : Ask) → Holds s t → last_of t.asks ≡ Some ask → last_of s.asks ≡ Some ask
last_was s t ask c last = sym (ap (λ (xs : List Ask). last_of xs) c.asks) ∙ last

-- where links and subchannels are as before
goes_on : (s t : Seen) → IsKept s → Holds s t → t.links ≡ s.links → t.subs ≡ s.subs → AreTaking s → AreTaking t
goes_on s t kept c links subs taking ask last placing =
    let before : last_of s.asks ≡ Some ask = last_was s t ask c last in
    subst (λ (ls : List Link). names_taking ls t.subs ask.answer ≡ true) (sym links)
    (subst (λ (bs : List Subchannel). names_taking s.links bs ask.answer ≡ true) (sym subs) (taking ask before (was_placing s t ask kept c before placing)))

-- where there is none
none_goes_on : (s t : Seen) → IsKept s → Holds s t → is_placing s ≡ false → AreTaking t
none_goes_on s t kept c none ask last placing =
    let before : last_of s.asks ≡ Some ask = last_was s t ask c last in
    let was : is_placing s ≡ true = ap (λ (o : Option Ask). option_map_or (is_placing_ask s) o false) before ∙ was_placing s t ask kept c before placing in
    let no : false ≡ true = sym none ∙ was in absurd (cc)

-- an entry opens: no pick request is of it
opens_now : (posted word : ℕ) (e : Event) (s : Seen) → s.current ≡ None → IsKept s → AreTaking (opened posted word e s)
opens_now posted word e s at kept ask last placing =
    let parts : (holds (λ (a : Attempt). is_unfollowed a && (ask.entry == length s.entries + 1)) (numbered s.attempts ask.row) ≡ true) × (is_place ask.answer ≡ true)
    = and_parts (holds (λ (a : Attempt). is_unfollowed a && (ask.entry == length s.entries + 1)) (numbered s.attempts ask.row)) (is_place ask.answer) placing in
    let same : ask.entry ≡ length s.entries + 1 = eqb-true ask.entry (length s.entries + 1) (both_by (ask.entry == length s.entries + 1) (numbered s.attempts ask.row) parts.0).1 in
    let low : ask.entry ≤ entry s = leb-true ask.entry (entry s) (all_at (λ (k : Ask). nat_le k.entry (entry s)) s.asks (length s.asks) ask kept.asks last) in
    let is : entry s ≡ length s.entries + 0 = ap (λ (x : Option OpenEntry). length s.entries + (if is_some x then 1 else 0)) at in
    absurd (later ask.entry (entry s) (length s.entries) same low is)
  where
    later : (a b c : ℕ) → a ≡ c + 1 → a ≤ b → b ≡ c + 0 → ⊥
    later a b c e f g = omega (arith, e, f, g)

-- a pick is requested: where nothing follows at once the link of each subchannel takes streams
first_none : {X : Type 0} (f : X → Option Action) (xs : List X) (i : ℕ) (x : X) → first_of f xs ≡ None → slice_get xs i ≡ Some x → f x ≡ None
first_none f [] i x e got = absurd (cc)
first_none f (y ∷ xs) zero x e got =
    let one : y ≡ x = (cc) in ap f (sym one) ∙ (or_none (f y) (first_of f xs) e).0
first_none f (y ∷ xs) (suc i) x e got = first_none f xs i x (or_none (f y) (first_of f xs) e).1 got

stays_up : (r d : Bool) (a c : Action) → (if r then Some a else if d then Some c else None) ≡ None → d ≡ false
stays_up true d a c e = absurd (cc)
stays_up false true a c e = absurd (cc)
stays_up false false a c e = refl

takes_by : (links : List Link) (k : ℕ) (o : Option Link) → numbered links k ≡ o → is_some o ≡ true → holds is_going_down o ≡ false → is_taking links k ≡ true
takes_by links k None got there down = absurd (cc)
takes_by links k (Some l) got there down = ap (holds (λ (z : Link). not (is_going_down z))) got ∙ ap not down

link_takes : (s : Seen) (b : Subchannel) (o : Option ℕ) → b.link ≡ o → is_some o ≡ true → option_map_or (came_up s) o (not (is_ready b.state)) ≡ true
    → holds is_going_down (option_and_then (numbered s.links) o) ≡ false → holds (is_taking s.links) o ≡ true
link_takes s b None is there up down = absurd (cc)
link_takes s b (Some k) is there up down = takes_by s.links k (numbered s.links k) refl up down

module _ (s : Seen) (kept : IsKept s) (none : next_of_links s ≡ None) where
  sub_takes : (i : ℕ) (b : Subchannel) → slice_get s.subs i ≡ Some b → is_some b.link ≡ true → holds (is_taking s.links) b.link ≡ true
  sub_takes i b got there =
      link_takes s b b.link refl there (all_at (is_sound_sub s) s.subs (suc i) b kept.boards got)
      (stays_up (is_to_be_ready s b) (is_to_go_down s b) (action.SettingsArrive b.number) (action.LinkDown b.number) (first_none (link_action s) s.subs i b none got))

  named_by : (n : ℕ) (o : Option Subchannel) → numbered s.subs n ≡ o → holds (λ (b : Subchannel). is_some b.link) o ≡ true
      → holds (λ (b : Subchannel). holds (is_taking s.links) b.link) o ≡ true
  named_by n None got there = absurd (cc)
  named_by zero (Some b) got there = absurd (cc)
  named_by (suc i) (Some b) got there = sub_takes i b got there

  names_by : (p : Pick) → has_link_for s.subs p ≡ true → names_taking s.links s.subs p ≡ true
  names_by (pick.Place sub) e = named_by sub (numbered s.subs sub) refl e
  names_by pick.Fail e = refl
  names_by pick.Wait e = refl

asked_now : (row g : ℕ) (answer : Pick) (o : OpenEntry) (s : Seen) → IsKept s → s.current ≡ Some o → IsNext (action.PickRequested row g answer) s
    → AreTaking (pick_requested row g answer s)
asked_now row g answer o s kept at next ask last placing =
    let of_stage : IsOfStage s o (action.PickRequested row g answer) = is_stage_next s o (action.PickRequested row g answer) refl at next in
    let none : next_of_links s ≡ None = (or_none (next_of_links s) _ (or_none (next_of_pick s) _ of_stage.links).1).0 in
    let sound : IsSound (action.PickRequested row g answer) s = next_sound s (action.PickRequested row g answer) kept next in
    let new : Ask = record { entry = entry s; generation = g; row = row; answer = answer } in
    let one : Some new ≡ Some ask = sym (last_more s.asks new) ∙ last in
    let same : new ≡ ask = (cc) in
    subst (λ (k : Ask). names_taking s.links s.subs k.answer ≡ true) same (names_by s kept none answer sound.1)

-- what is done to calls leaves links and subchannels
made_left : (b : Bool) (s : Seen) → ((without_turn_unless b s).links ≡ s.links) × ((without_turn_unless b s).subs ≡ s.subs)
made_left true s = (refl, refl)
made_left false s = (refl, refl)

run_left : (s : Seen) (a : Attempt) (b : Bool) (run : Option ℕ)
    → ((if b then option_map_or (λ (k : ℕ). record s { runs = changed (λ (u : ThrottleRun). record u { ends = u.ends ++ a.place ∷ [] }) k s.runs }) run s else s).links ≡ s.links)
    × ((if b then option_map_or (λ (k : ℕ). record s { runs = changed (λ (u : ThrottleRun). record u { ends = u.ends ++ a.place ∷ [] }) k s.runs }) run s else s).subs ≡ s.subs)
run_left s a true None = (refl, refl)
run_left s a true (Some k) = (refl, refl)
run_left s a false run = (refl, refl)

counted_left : (s : Seen) (a : Attempt) (e : RowEnd) (c : Option Call) → ((option_map_or (with_end_in_run a e s) c s).links ≡ s.links) × ((option_map_or (with_end_in_run a e s) c s).subs ≡ s.subs)
counted_left s a e None = (refl, refl)
counted_left s a e (Some c) =
    run_left s a (not (is_cut e.cause) && not (is_to_follow c e.cause e.unseen s)) (option_and_then (λ (x : HeldConfig). x.run) (config_of_call c s))

ended_left : (e : RowEnd) (s : Seen) (o : Option Attempt) → ((option_map_or (attempt_ended_as e s) o s).links ≡ s.links) × ((option_map_or (attempt_ended_as e s) o s).subs ≡ s.subs)
ended_left e s None = (refl, refl)
ended_left e s (Some a) = counted_left s a e (call_of a s)

marked_left : (what : MarkKind) (s : Seen) (o : Option Attempt)
    → ((option_map_or (λ (a : Attempt). marked what a.row.call s) o s).links ≡ s.links) × ((option_map_or (λ (a : Attempt). marked what a.row.call s) o s).subs ≡ s.subs)
marked_left what s None = (refl, refl)
marked_left what s (Some a) = (refl, refl)

module _ (o : OpenEntry) (s : Seen) (kept : IsKept s) (at : s.current ≡ Some o) (taking : AreTaking s) where
  by_left : (a : Action) → is_request a ≡ false → ((after_in o a s).links ≡ s.links) × ((after_in o a s).subs ≡ s.subs) → AreTaking (after_in o a s)
  by_left a is left = goes_on s (after_in o a s) kept (holds_in o a s at is) left.0 left.1 taking

  taking_in : (a : Action) → IsNext a s → FitsRetried a s → AreTaking (after_in o a s)
  taking_in (action.EntryOpens posted word e) next fits = taking
  taking_in (action.PickRequested row g answer) next fits = asked_now row g answer o s kept at next
  taking_in (action.AttemptMade call number k due) next fits =
      by_left (action.AttemptMade call number k due) refl (made_left (is_transparent k) (marked (mark.Made (length s.attempts + 1)) call (with_row (new_row call number k due) s)))
  taking_in (action.AttemptEnds row e) next fits = by_left (action.AttemptEnds row e) refl (ended_left e s (numbered s.attempts row))
  taking_in (action.AttemptPlaced row at_link) next fits =
      let u : Seen = with_attempt (with_placing at_link) row s in by_left (action.AttemptPlaced row at_link) refl (marked_left (mark.Placed row) u (numbered u.attempts row))
  taking_in (action.CallCommitted row why) next fits =
      let u : Seen = with_attempt (with_commitment (entry s)) row s in by_left (action.CallCommitted row why) refl (marked_left mark.Committed u (numbered u.attempts row))
  taking_in (action.CallEnds call why) next fits = by_left (action.CallEnds call why) refl (refl, refl)
  taking_in a next fits = none_goes_on s (after_in o a s) kept (holds_in o a s at refl) fits

taking_if : (c : Option OpenEntry) (a : Action) (s : Seen) → s.current ≡ c → IsKept s → IsNext a s → FitsRetried a s → AreTaking s → AreTaking (after_if c a s)
taking_if (Some o) a s at kept next fits taking = taking_in o s kept at taking a next fits
taking_if None (action.EntryOpens posted word e) s at kept next fits taking = opens_now posted word e s at kept
taking_if None a s at kept next fits taking = taking

pub taking_after : (s : Seen) (a : Action) → IsKept s → IsNext a s → FitsRetried a s → AreTaking s → AreTaking (after a s)
taking_after s a kept next fits taking = taking_if s.current a s refl kept next fits taking
