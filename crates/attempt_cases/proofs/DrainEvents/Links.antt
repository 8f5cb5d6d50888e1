-- The links after a drain: the one that was drained agrees, with its readers and the lines of the session; and the others see no difference.
use Rattle.std.proofs.Common.{◌≡◌, ◌-◌, ◌∷◌, ◌==◌, ◌||◌, ap, refl, sym, ◌∙◌, Bool, false, List, [], Option, None, Some, ℕ, drop, is_some, length, map, min, slice_get}
use Rattle.std.proofs.Math.Nat.{zero-min}
use Rattle.std.specs.Option.{option_map_or}
use Rattle.channel_actions.proofs.Lines.{all_at_places}
use Rattle.channel_actions.specs.Links.{IsGoing, SeesLinkOf, lines_in}
use Rattle.channel_actions.specs.Readers as readers
use Rattle.channel_core.specs.Tables.{with_drained}
use Rattle.channel_core.specs.declared.state.links.LinkSlot.{LinkSlot}
use Rattle.channel_actions.specs.DrainWrites.Laws.{with_all_sent, writing}
use Rattle.grpc_link.specs.Links.{reader_in}
use Rattle.grpc_link.specs.Readers.{ReaderSeen}
use Rattle.grpc_link.specs.declared.readers.TagReader.{TagReader}
use Rattle.h2_link.specs.Drains.{Outgoing, Sends, next_control, next_data, next_head, opens, sender, sent_control, sent_head}
use Rattle.h2_link.specs.Drains.{Sent as Sending}
use Rattle.h2_link.specs.Feeds.{Line}
use Rattle.h2_link.specs.Wire.{Wire}
use Rattle.h2_link.specs.declared.control.Control.{Control}
use Rattle.channel_actions.proofs.KeptSessions.Along.{kept_stays}
use Rattle.channel_actions.specs.KeptSessions.Kept.{IsKept}
use Rattle.link_actions.proofs.DataSent.{IsShare, share_found}
use Rattle.channel_actions.proofs.Links.Frames.Streams.{streams_still}
use Rattle.channel_actions.proofs.Links.Frames.Differences.{no_difference}
use Rattle.channel_actions.specs.LinkFrames.Alike.{Numbers}
use Rattle.channel_actions.specs.LinkFrames.Bears.{ActionsAreOrderly, bear_on}
use Rattle.channel_actions.specs.LinkFrames.Laws.{SessionsAreKept}
use Rattle.link_actions.specs.ResponseActions.Readers as responses
use Rattle.session_actions.specs.Actions.{after}
use Rattle.session_actions.specs.Links.{is_retiring, read_bytes}
use Rattle.session_actions.specs.Sessions.{Does}
use Rattle.session_actions.specs.Words.{last_of}
use Rattle.session_actions.specs.declared.action.Action.{Action}
use Rattle.session_actions.specs.declared.attempt.Attempt.{Attempt}
use Rattle.session_actions.specs.declared.link.Link.{Link}
use Rattle.session_actions.specs.declared.link.LinkOver.{LinkOver}
use Rattle.session_actions.specs.declared.link.ReadFrame.{ReadFrame}
use Rattle.session_actions.specs.declared.link.Sent.{Sent}
use Rattle.session_actions.specs.declared.seen.Seen.{Seen}
use Rattle.link_actions.specs.StreamActions.Sees.{SeesStreams}
use Rattle.channel_actions.proofs.Streams.Opened.Responses.{read_same, retiring_same, with_sent}

-- no reset is left open by what is written
data_fresh : (w : Wire) (g : ℕ → Line) (x : Sending) → next_data w g (sender w.window w.initial g 0 w.live) ≡ Some x → w.queue.fresh ≡ 0 → x.wire.queue.fresh ≡ 0
data_fresh w g x e none =
    let is : IsShare w g 0 w.live x = share_found w g 0 w.live x e in ap (λ (v : Wire). v.queue.fresh) is.wire ∙ none

head_fresh : (w : Wire) (g : ℕ → Line) (x : Sending) (o : Option ℕ) → next_head w g o ≡ Some x → w.queue.fresh ≡ 0 → x.wire.queue.fresh ≡ 0
head_fresh w g x None e none = data_fresh w g x e none
head_fresh w g x (Some tag) e none = let same : sent_head w g tag ≡ x = (cc) in ap (λ (y : Sending). y.wire.queue.fresh) (sym same) ∙ none

control_fresh : (w : Wire) (g : ℕ → Line) (x : Sending) (o : Option Control) → next_control w g o ≡ Some x → w.queue.fresh ≡ 0 → x.wire.queue.fresh ≡ 0
control_fresh w g x None e none = head_fresh w g x (opens w) e none
control_fresh w g x (Some c) e none =
    let same : sent_control w g c ≡ x = (cc) in
    ap (λ (y : Sending). y.wire.queue.fresh) (sym same) ∙ (ap (λ (n : ℕ). min n (length w.queue.items - 1)) none ∙ zero-min (length w.queue.items - 1))

pub sends_fresh : (w : Wire) (g : ℕ → Line) (fs : List Outgoing) (w2 : Wire) (g2 : ℕ → Line) → Sends w g fs w2 g2 → w.queue.fresh ≡ 0 → w2.queue.fresh ≡ 0
sends_fresh w g [] w2 g2 h none = ap (λ (v : Wire). v.queue.fresh) h.0 ∙ none
sends_fresh w g (f ∷ fs) w2 g2 h none = sends_fresh h.0.wire h.0.lines fs w2 g2 h.3 (control_fresh w g h.0 (slice_get w.queue.items 0) h.1 none)

-- a link on which these were written is over, takes streams, and was read as before
pub record IsAsBefore (l m : Link) : Type 0 where
  pub number : m.number ≡ l.number
  pub over : m.over ≡ l.over
  pub received : m.received ≡ l.received
  pub retiring : is_retiring m ≡ is_retiring l
  pub read : read_bytes m ≡ read_bytes l

pub all_as_before : (sent : List Sent) (l : Link) → IsAsBefore l (with_all_sent sent l)
all_as_before [] l = record { number = refl; over = refl; received = refl; retiring = refl; read = refl }
all_as_before (x ∷ sent) l =
    let rest : IsAsBefore (with_sent x l) (with_all_sent sent (with_sent x l)) = all_as_before sent (with_sent x l) in
    record {
      number = rest.number;
      over = rest.over;
      received = rest.received;
      retiring = rest.retiring ∙ retiring_same x l;
      read = rest.read ∙ ap (λ (rs : List ReadFrame). option_map_or (λ (r : ReadFrame). r.end) (last_of rs) 0) (read_same x l);
    }

-- the readers, in the words of both crates
to_responses : (s : Seen) (o : Option Attempt) (r : Option ReaderSeen) → readers.IsReaderOf s o r → responses.IsReaderOf s o r
to_responses s None None k = tt
to_responses s (Some a) (Some r) k = record { opened = k.opened; head = k.head; over = k.over; limit = k.limit; rest = k.rest; whole = k.whole }
to_responses s None (Some r) k = absurd k
to_responses s (Some a) None k = absurd k

of_responses : (s : Seen) (o : Option Attempt) (r : Option ReaderSeen) → responses.IsReaderOf s o r → readers.IsReaderOf s o r
of_responses s None None k = tt
of_responses s (Some a) (Some r) k = record { opened = k.opened; head = k.head; over = k.over; limit = k.limit; rest = k.rest; whole = k.whole }
of_responses s None (Some r) k = absurd k
of_responses s (Some a) None k = absurd k

pub read_so : (l : Link) (s : Seen) (rs : List TagReader) → readers.SeesReaders l s rs → responses.SeesReaders l s rs
read_so l s rs k = record { each = λ row. to_responses s (readers.attempt_on l s row) (reader_in row rs) (k.each row); distinct = k.distinct }

pub read_then : (l : Link) (s : Seen) (rs : List TagReader) → responses.SeesReaders l s rs → readers.SeesReaders l s rs
read_then l s rs k = record { each = λ row. of_responses s (readers.attempt_on l s row) (reader_in row rs) (k.each row); distinct = k.distinct }

-- the lines of the session
pub own_lines : (m : Link) (t : Seen) (w : Wire) (g : ℕ → Line) → IsKept t → SeesStreams m t w g → SeesStreams m t w (lines_in m t)
own_lines m t w g kept is =
    let none : Numbers = λ k. false in
    streams_still m m t t none refl kept.owned (all_at_places t.attempts kept.attempts) (no_difference none t).attempts w g (record { number = refl; traffic_ = refl; owed = refl }) is is.sees.at
    is.sees.places

-- the slot of the link
pub drained_slot : (l : Link) (s t : Seen) (before slot : LinkSlot) (sent : List Sent) (g : ℕ → Line) → IsKept t → l.over ≡ None → SeesLinkOf l s before
    → slot ≡ with_drained slot.link.link.wire slot.link.readers before → SeesStreams (with_all_sent sent l) t slot.link.link.wire g
    → responses.SeesReaders (with_all_sent sent l) t slot.link.readers → slot.link.link.wire.queue.fresh ≡ 0 → SeesLinkOf (with_all_sent sent l) t slot
drained_slot l s t before slot sent g kept goes sees is streams reads fresh =
    let m : Link = with_all_sent sent l in
    let same : IsAsBefore l m = all_as_before sent l in
    let going : IsGoing l s before = sees.going goes in
    record {
      over = ap (λ (o : Option LinkOver). is_some o) same.over ∙ sees.over ∙ sym (ap (λ (z : LinkSlot). z.dead) is);
      retiring = same.retiring ∙ sees.retiring ∙ sym (ap (λ (z : LinkSlot). z.retiring) is);
      going = λ e. record {
        streams = own_lines m t slot.link.link.wire g kept streams;
        readers = read_then m t slot.link.readers reads;
        rest = ap (λ (n : ℕ). drop n m.received) same.read ∙ ap (drop (read_bytes l)) same.received ∙ going.rest ∙ sym (ap (λ (z : LinkSlot). z.link.link.rest) is);
        closed = fresh;
      };
    }

-- and what is written makes no difference to the other links
pub all_kept : (actions : List Action) (s t : Seen) → IsKept s → Does actions s t → SessionsAreKept actions s
all_kept [] s t kept does = kept
all_kept (a ∷ actions) s t kept does = (kept, all_kept actions (after a s) t (kept_stays s a kept does.0) does.1)

pub all_orderly : (n : ℕ) (sent : List Sent) (s : Seen) → ActionsAreOrderly (map (writing n) sent) s
all_orderly n [] s = tt
all_orderly n (x ∷ sent) s = (tt, all_orderly n sent (after (writing n x) s))

pub none_borne : (n k : ℕ) (sent : List Sent) (s : Seen) → (n == k) ≡ false → bear_on (map (writing n) sent) s k ≡ false
none_borne n k [] s e = refl
none_borne n k (x ∷ sent) s e = ap (λ (b : Bool). b || bear_on (map (writing n) sent) (after (writing n x) s) k) e ∙ none_borne n k sent (after (writing n x) s) e
