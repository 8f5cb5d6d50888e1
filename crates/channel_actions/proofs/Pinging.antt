-- A PING of the environment is queued on its link, in channel and session, and that is all. (That nothing follows from it is asked of the session.)
use Rattle.std.proofs.Common.{◌≡◌, ◌&&◌, ◌++◌, ◌==◌, ◌∷◌, ap, arith, refl, subst, sym, ◌∙◌, Bool, true, false, List, [], Option, None, Some, ℕ, zero, suc, if◌then◌else◌, is_none, is_some, length, slice_get}
use Rattle.std.proofs.lemmas.Bool.Decides.{nat_tests}
use Rattle.std.proofs.lemmas.List.{length-map}
use Rattle.std.specs.List.{list_all}
use Rattle.std.specs.Option.{option_map}
use Rattle.std.specs.Prelude.{map, slice_set}
use Rattle.call_actions.proofs.Lists.{changed_away, changed_map}
use Rattle.channel_actions.proofs.Answering.{event_next, replied_entry, replied_is}
use Rattle.channel_actions.proofs.Dialling.{applied_next, open_in, unshut_by}
use Rattle.channel_actions.proofs.Refusing.{link_same}
use Rattle.channel_actions.proofs.Relinked.{agrees_relinked, reader_relinked, streams_relinked}
use Rattle.channel_actions.proofs.Settles.{is_with_open, reopened, with_open}
use Rattle.channel_actions.proofs.Stamps.{counted_at}
use Rattle.channel_actions.specs.Agrees.{Agrees}
use Rattle.channel_actions.specs.Quiescent.{IsAt}
use Rattle.channel_actions.specs.Cases.{IsPing, PingsStayQuiescent}
use Rattle.channel_actions.specs.Columns.{links_noted}
use Rattle.channel_actions.proofs.KeptSessions.Lists as lists
use Rattle.channel_actions.specs.KeptSessions.Kept.{NumbersCountUp}
use Rattle.channel_actions.specs.Links.{HasLink, IsGoing, lines_in}
use Rattle.channel_actions.specs.Readers.{attempt_on}
use Rattle.channel_actions.specs.Stages.{EventsAnswered, IsAnswered}
use Rattle.channel_core.proofs.BookLaws.{number_changed, number_other}
use Rattle.channel_core.proofs.Resting.{changed_length}
use Rattle.channel_core.specs.Applying as channel
use Rattle.channel_core.specs.Applying.{AnswersBy}
use Rattle.channel_core.specs.Draining.{pinged}
use Rattle.channel_core.specs.States.{StateSeen}
use Rattle.channel_core.specs.Tables.{pinged_in, pinged_link, with_link}
use Rattle.channel_core.specs.declared.state.links.LinkSlot.{LinkSlot}
use Rattle.grpc_base.specs.declared.event.Event.{Event}
use Rattle.grpc_base.specs.declared.event.Event.TheVariants as event
use Rattle.grpc_base.specs.declared.event.Refusal.{Refusal}
use Rattle.grpc_base.specs.declared.event.Reply.{Reply}
use Rattle.grpc_base.specs.declared.event.Reply.TheVariants as reply
use Rattle.grpc_link.specs.Links.{reader_in}
use Rattle.h2_frame.specs.Frames.{FrameSeen}
use Rattle.h2_frame.specs.Sent.{ping_frame}
use Rattle.h2_link.specs.Queues.{queued}
use Rattle.h2_link.specs.Steps as wire
use Rattle.h2_link.specs.Wire.{Wire}
use Rattle.h2_link.specs.declared.control.Control.TheVariants as control
use Rattle.link_actions.specs.Laws.{PingsKeep}
use Rattle.link_actions.specs.Sees.{SeesOwed}
use Rattle.session_actions.specs.Actions.{after, after_if}
use Rattle.session_actions.specs.CallEnds.{next_deadline}
use Rattle.session_actions.specs.Closing.{noted_gone}
use Rattle.session_actions.specs.Entries.{entry, replied}
use Rattle.session_actions.specs.Events.{event_action, frame_of_event}
use Rattle.session_actions.specs.Writing.{is_control, ping_of}
use Rattle.session_actions.specs.Links.{is_retiring, owed, read_bytes}
use Rattle.session_actions.specs.Refusals.{is_gone, link_refusal, refusal_of}
use Rattle.session_actions.specs.Responses.{is_read_by}
use Rattle.session_actions.specs.Sessions.{link_seen}
use Rattle.session_actions.specs.Words.{changed, changed_if, numbered}
use Rattle.session_actions.specs.declared.action.Action.TheVariants as action
use Rattle.session_actions.specs.declared.entry.OpenEntry.{OpenEntry}
use Rattle.session_actions.specs.declared.entry.Stage.TheVariants as stage
use Rattle.session_actions.specs.declared.link.Link.{Link}
use Rattle.session_actions.specs.declared.seen.Seen.{Seen}
use Rattle.link_actions.specs.StreamActions.Sees.{SeesStreams}

-- what a change of one thing leaves
map_put : {X Y : Type 0} (F : X → Y) (xs : List X) (i : ℕ) (x z : X) → slice_get xs i ≡ Some x → F z ≡ F x → map F (slice_set xs i z) ≡ map F xs
map_put F [] i x z e same = refl
map_put F (y ∷ xs) zero x z e same = let one : x ≡ y = (cc) in ap (λ (w : _). w ∷ map F xs) (same ∙ ap F one)
map_put F (y ∷ xs) (suc i) x z e same = ap (λ (l : List _). F y ∷ l) (map_put F xs i x z e same)

map_by : {X Y : Type 0} (F : X → Y) (f : X → X) → ((x : X) → F (f x) ≡ F x) → (i : ℕ) (xs : List X) (o : Option X) → slice_get xs i ≡ o → map F (changed_if f (suc i) xs o) ≡ map F xs
map_by F f same i xs None e = refl
map_by F f same i xs (Some x) e = map_put F xs i x (f x) e (same x)

map_changed : {X Y : Type 0} (F : X → Y) (f : X → X) → ((x : X) → F (f x) ≡ F x) → (n : ℕ) (xs : List X) → map F (changed f n xs) ≡ map F xs
map_changed F f same zero xs = refl
map_changed F f same (suc i) xs = map_by F f same i xs (slice_get xs i) refl

all_map : {X : Type 0} (p : X → Bool) (xs : List X) → list_all p xs ≡ list_all (λ (b : Bool). b) (map p xs)
all_map p [] = refl
all_map p (x ∷ xs) = ap (λ (b : Bool). p x && b) (all_map p xs)

all_changed : {X : Type 0} (p : X → Bool) (f : X → X) → ((x : X) → p (f x) ≡ p x) → (n : ℕ) (xs : List X) → list_all p (changed f n xs) ≡ list_all p xs
all_changed p f same n xs = all_map p (changed f n xs) ∙ ap (list_all (λ (b : Bool). b)) (map_changed p f same n xs) ∙ sym (all_map p xs)

equal_numbers : (n m : ℕ) → (n == m) ≡ true → n ≡ m
equal_numbers n m h = grind (arith, nat_tests)

other_numbers : (n m : ℕ) → (n == m) ≡ false → n ≡ m → ⊥
other_numbers n m h e = grind (arith, nat_tests)

seen_by : (b : Bool) (n : ℕ) (l : Link) (frames : List FrameSeen)
    → link_seen (if b then record l { owed = frames; gone = Some n } else record l { owed = frames }) ≡ link_seen (if b then record l { gone = Some n } else l)
seen_by true n l frames = refl
seen_by false n l frames = refl

same_some : {X : Type 0} (o : Option X) → o ≡ option_map (λ (z : X). z) o
same_some None = refl
same_some (Some z) = refl

same_link : (o : Option Link) → o ≡ option_map (λ (l : Link). record l { gone = l.gone; owed = l.owed }) o
same_link None = refl
same_link (Some l) = refl

module _ (pings : PingsKeep) (x : StateSeen) (s : Seen) (h : Agrees x s) (link word : ℕ) where
  abbrev frames : List FrameSeen
  frames = ping_frame word ∷ []

  abbrev f : Link → Link
  f l = record l { owed = l.owed ++ frames }

  abbrev ls : List Link
  ls = changed f link s.links

  abbrev g : ℕ → Link → Option ℕ
  g k l = l.gone

  abbrev w : ℕ → Link → List FrameSeen
  w k l = if k == link then l.owed ++ frames else l.owed

  abbrev pub t : Seen
  t = owed frames link s

  abbrev pub y : StateSeen
  y = pinged link word x

  form_by : (k : ℕ) (b : Bool) → (k == link) ≡ b → numbered ls k ≡ option_map (λ (l : Link). record l { gone = g k l; owed = if b then l.owed ++ frames else l.owed }) (numbered s.links k)
  form_by k true e =
      ap (numbered ls) (equal_numbers k link e) ∙ changed_map f link s.links ∙ ap (λ (n : ℕ). option_map f (numbered s.links n)) (sym (equal_numbers k link e))
  form_by k false e = changed_away f link k s.links (other_numbers k link e) ∙ same_link (numbered s.links k)

  is : (k : ℕ) → numbered ls k ≡ option_map (λ (l : Link). record l { gone = g k l; owed = w k l }) (numbered s.links k)
  is k = form_by k (k == link) refl

  slot_by : (k : ℕ) (b : Bool) → (k == link) ≡ b
      → numbered (pinged_in link word x.links) k ≡ option_map (λ (z : LinkSlot). if b then with_link (pinged_link word) z else z) (numbered x.links k)
  slot_by k true e =
      ap (numbered (pinged_in link word x.links)) (equal_numbers k link e) ∙ number_changed (with_link (pinged_link word)) x.links link
      ∙ ap (λ (n : ℕ). option_map (with_link (pinged_link word)) (numbered x.links n)) (sym (equal_numbers k link e))
  slot_by k false e = number_other (with_link (pinged_link word)) x.links link k (other_numbers k link e) ∙ same_some (numbered x.links k)

  -- the frames that are owed, and what else the link has
  abbrev pinged_slot : LinkSlot → LinkSlot
  pinged_slot slot = with_link (pinged_link word) slot

  owes_by : (k : ℕ) (l : Link) (v : Wire) (b : Bool) → SeesStreams l s v (lines_in l s)
      → SeesOwed (record l { gone = g k l; owed = if b then l.owed ++ frames else l.owed }) (if b then wire.pinged v word else v)
  owes_by k l v true q = (pings l s v (lines_in l s) word q.sees).owes
  owes_by k l v false q =
      record { queue = q.sees.owes.queue; names = q.sees.owes.names; resizes = q.sees.owes.resizes; written = q.sees.owes.written; answered = q.sees.owes.answered }

  owes_at : (k : ℕ) (l : Link) (v : Wire) (b : Bool) → (k == link) ≡ b → SeesStreams l s v (lines_in l s)
      → SeesOwed (record l { gone = g k l; owed = w k l }) (if b then wire.pinged v word else v)
  owes_at k l v b e q =
      subst (λ (c : Bool). SeesOwed (record l { gone = g k l; owed = if c then l.owed ++ frames else l.owed }) (if b then wire.pinged v word else v)) (sym e) (owes_by k l v b q)

  unsealed : (v : Wire) → v.broken ≡ None → (wire.pinged v word).queue.fresh ≡ 0
  unsealed v whole = ap (λ (o : Option ℕ). (if is_some o then v.queue else queued v.queue (control.Ping word)).fresh) whole

  going_by : (k : ℕ) (l : Link) (slot : LinkSlot) (b : Bool) → (k == link) ≡ b → l.number ≡ k → IsGoing l s slot
      → IsGoing (record l { gone = g k l; owed = w k l }) t (if b then pinged_slot slot else slot)
  going_by k l slot true e own q = record {
    streams = streams_relinked s ls g w is k l (wire.pinged slot.link.link.wire word).queue slot.link.link.wire (lines_in l s) own
        (owes_at k l slot.link.link.wire true e q.streams) q.streams;
    readers = record { each = λ row. reader_relinked s ls g w is (attempt_on l s row) (reader_in row slot.link.readers) (q.readers.each row); distinct = q.readers.distinct };
    rest = q.rest;
    closed = unsealed slot.link.link.wire q.streams.sees.sees.reads.whole;
  }
  going_by k l slot false e own q = record {
    streams = streams_relinked s ls g w is k l slot.link.link.wire.queue slot.link.link.wire (lines_in l s) own
        (owes_at k l slot.link.link.wire false e q.streams) q.streams;
    readers = record { each = λ row. reader_relinked s ls g w is (attempt_on l s row) (reader_in row slot.link.readers) (q.readers.each row); distinct = q.readers.distinct };
    rest = q.rest;
    closed = q.closed;
  }

  over_by : (l : Link) (slot : LinkSlot) (b : Bool) → is_some l.over ≡ slot.dead → is_some l.over ≡ (if b then pinged_slot slot else slot).dead
  over_by l slot true e = e
  over_by l slot false e = e

  retiring_by : (l : Link) (slot : LinkSlot) (b : Bool) → is_retiring l ≡ slot.retiring → is_retiring l ≡ (if b then pinged_slot slot else slot).retiring
  retiring_by l slot true e = e
  retiring_by l slot false e = e

  has_link : (k : ℕ) (l : Link) → l.number ≡ k → HasLink x s l k → HasLink y t (record l { gone = g k l; owed = w k l }) k
  has_link k l own q = record {
    slot = if k == link then pinged_slot q.slot else q.slot;
    there = slot_by k (k == link) refl ∙ ap (option_map (λ (z : LinkSlot). if k == link then pinged_slot z else z)) q.there;
    sees = record {
      over = over_by l q.slot (k == link) q.sees.over;
      retiring = retiring_by l q.slot (k == link) q.sees.retiring;
      going = λ goes. going_by k l q.slot (k == link) refl own (q.sees.going goes);
    };
  }

  link_by : (k : ℕ) (l : Link) (o : Option Link) → numbered s.links k ≡ o → option_map (λ (z : Link). record z { gone = g k z; owed = w k z }) o ≡ Some l → HasLink y t l k
  link_by k l None e r = absurd (cc)
  link_by k l (Some z) e r =
      let same : record z { gone = g k z; owed = w k z } ≡ l = (cc) in
      subst (λ (q : Link). HasLink y t q k) same (has_link k z (counted_at (λ (q : Link). q.number) s.links k z h.kept.links e) (h.links.each k z e))

  long : length ls ≡ length s.links
  long =
      sym (length-map ls (λ (l : Link). l.number)) ∙ ap (λ (ns : List ℕ). length ns) (map_changed (λ (l : Link). l.number) f (λ l. refl) link s.links)
      ∙ length-map s.links (λ (l : Link). l.number)

  reads_kept : list_all (λ (l : Link). list_all (is_read_by (read_bytes l)) l.traffic) s.links ≡ true → list_all (λ (l : Link). list_all (is_read_by (read_bytes l)) l.traffic) ls ≡ true
  reads_kept e = all_changed (λ (l : Link). list_all (is_read_by (read_bytes l)) l.traffic) f (λ l. refl) link s.links ∙ e

  noted : links_noted t ≡ x.book.ledger.links
  noted =
      map_changed (λ (l : Link). link_seen (noted_gone s l)) f (λ l. seen_by (is_none l.gone && is_gone l s) (entry s) l (l.owed ++ frames)) link s.links
      ∙ h.columns.links

  pub agrees_pinged : Agrees y t
  agrees_pinged =
      agrees_relinked s ls g w is x (pinged_in link word x.links) h reads_kept
      (record {
        count = long ∙ h.links.count ∙ sym (changed_length (with_link (pinged_link word)) x.links link);
        each = λ k l e. link_by k l (numbered s.links k) refl (sym (is k) ∙ e);
      })
      noted (subst (NumbersCountUp 1) (sym (map_changed (λ (l : Link). l.number) f (λ l. refl) link s.links)) h.kept.links)
      (all_changed (λ (l : Link). is_some (numbered s.subs l.sub)) f (λ l. refl) link s.links ∙ h.kept.dialled)
      (lists.all_changed (λ (l : Link). list_all is_control l.owed) f link s.links h.kept.queued (λ l got ok. lists.all_more is_control l.owed frames ok refl))

module _ (pings : PingsKeep) (quiescent : PingsStayQuiescent) (x : StateSeen) (r : Reply) (o : OpenEntry) (s : Seen) (h : Agrees x s) (at : IsAt stage.Event o s) (fresh : o.turn ≡ None)
    (timely : next_deadline s ≡ None) (link word : ℕ) (is : o.event ≡ event.Ping link word) (kept : channel.refusal_of o.event x ≡ None) where
  abbrev p : OpenEntry
  p = replied_entry reply.Done o

  both : (x.shut ≡ false) × (channel.link_refusal link x ≡ None)
  both = unshut_by x.shut (channel.link_refusal link x) (subst (λ (e : Event). channel.refusal_of e x ≡ None) is kept)

  not_refused : refusal_of (event.Ping link word) s ≡ None
  not_refused = open_in s (link_refusal s (numbered s.links link) None) (h.configs.shut ∙ both.0) ∙ sym (link_same x s h link) ∙ both.1

  next : event_action o.event s ≡ Some (action.PingQueued link)
  next = ap (λ (e : Event). event_action e s) is ∙ applied_next (event.Ping link word) s (Some (action.PingQueued link)) not_refused refl

  does_so : after (action.PingQueued link) s ≡ with_open p (owed (ping_frame word ∷ []) link s)
  does_so =
      ap (λ (c : Option OpenEntry). after_if c (action.PingQueued link) s) at.current
      ∙ ap (λ (e : Event). replied reply.Done (owed (ping_of e) link s)) is ∙ replied_is reply.Done o (owed (ping_frame word ∷ []) link s) at.current

  pub ping_answered : IsAnswered (pinged link word x) reply.Done o s
  ping_answered = record {
    reaches = record {
      actions = action.PingQueued link ∷ [];
      seen = with_open p (owed (ping_frame word ∷ []) link s);
      entry = p;
      does = (event_next o s at timely (action.PingQueued link) next, sym does_so);
      posts = refl;
      same = record { moment = refl; word = refl; event = refl; entries = refl; setup = refl };
      at = record { current = refl; stage_is = refl; quiescent = quiescent o s link word at is };
      agrees = reopened (pinged link word x) o p (owed (ping_frame word ∷ []) link s) refl refl refl
          (subst (Agrees (pinged link word x)) (is_with_open o (owed (ping_frame word ∷ []) link s) at.current) (agrees_pinged pings x s h link word));
    };
    reply = refl;
    fresh = fresh;
    none = ap (λ (e : Event). frame_of_event e p (with_open p (owed (ping_frame word ∷ []) link s))) is;
  }

pub pings_answered : PingsKeep → PingsStayQuiescent → EventsAnswered IsPing
pings_answered pings quiescent x y r o s h at fresh timely case answers =
    let given : AnswersBy None (event.Ping case.link case.word) x y r
    = subst (λ (e : Event). AnswersBy None e x y r) case.event_is (subst (λ (z : Option Refusal). AnswersBy z o.event x y r) case.kept answers) in
    subst (λ (z : StateSeen). IsAnswered z r o s) (sym given.0)
    (subst (λ (z : Reply). IsAnswered (pinged case.link case.word x) z o s) (sym given.1)
    (ping_answered pings quiescent x r o s h at fresh timely case.link case.word case.event_is case.kept))
