-- What a link of the channel keeps of a session. A session has the frames that were read and written, in their order. A link has what the next step
-- needs of them: how far it was read, what the peer's settings were last, the windows, the header block that is begun, and the decoder's table.
-- Example: SETTINGS came with SETTINGS_INITIAL_WINDOW_SIZE of 10, and later with 20. The session has both frames; the link has 20.
use Rattle.std.specs.List.{AllByRecursion}
use Rattle.std.specs.Option.{option_map_or}
use Rattle.std.specs.Prelude.{Bool, List, None, Ok, Option, Some, [], count_by, drop, false, filter_map, if◌then◌else◌, length, map, min, nat_lt, pos, suc, zero, ◌<◌, ◌≤◌, ℕ, ◌*◌, ◌+◌, ◌++◌, ◌+ℤ◌, ◌==◌, ◌∷◌, ◌≡◌}
use Rattle.grpc_frame.specs.Messages.{framed_all}
use Rattle.grpc_meta.specs.RequestFields.{fields_of_request}
use Rattle.h2_hpack.specs.Blocks.{state_after}
use Rattle.h2_hpack.specs.Tables.{new_table}
use Rattle.h2_frame.specs.Numbers.{settings_type}
use Rattle.h2_link.specs.Drains.{AFrame, Opening, Outgoing, outgoing}
use Rattle.h2_link.specs.Feeds.{Line}
use Rattle.h2_link.specs.Wire.{Block, Wire}
use Rattle.h2_link.specs.declared.control.Control.{Control}
use Rattle.h2_link.specs.declared.live.LiveStream.{LiveStream}
use Rattle.session_actions.specs.Attempts.{call_of}
use Rattle.lb_policy.specs.Table.{is_one_of}
use Rattle.session_actions.specs.Words.{numbered}
use Rattle.session_actions.specs.Links.{frames_read, frames_written, has_settings, has_written_end, is_retiring, read_bytes, stream_number}
use Rattle.session_actions.specs.Reading.{blocks_from, initial_window, open_block, opened_streams, raised, setting, used}
use Rattle.session_actions.specs.Writing.{accepted_bytes, controls_written, has_begun, owes_update, streaming_on, table_sizes_named, time_left, waiting_on}
use Rattle.session_actions.specs.declared.attempt.Attempt.{Attempt}
use Rattle.session_actions.specs.declared.call.Call.{Call}
use Rattle.session_actions.specs.declared.link.Link.{Link}
use Rattle.session_actions.specs.declared.link.OpenBlock.{OpenBlock}
use Rattle.session_actions.specs.declared.link.Sent.{Sent}
use Rattle.session_actions.specs.declared.seen.Seen.{Seen}
use Rattle.h2_link.specs.declared.control.Control.TheVariants as control
use Rattle.session_actions.specs.declared.link.Sent.TheVariants as sent

-- the streams of a client: the odd numbers in turn (RFC 9113, section 5.1.1)
abbrev pub odds : ℕ → List ℕ
odds zero = []
odds (suc n) = odds n ++ (2 * n + 1) ∷ []

-- a header block that is begun
abbrev pub IsBlock : Option Block → Option OpenBlock → Type 0
IsBlock None None = Unit {0}
IsBlock (Some b) (Some o) = (b.number ≡ o.stream) × (b.ends ≡ o.ends) × (b.bytes ≡ o.bytes)
IsBlock _ _ = ⊥

-- what was read. (A count of 64 bits stays at its last number.)
pub record SeesRead (l : Link) (w : Wire) : Type 0 where
  pub whole : w.broken ≡ None
  pub read : w.read ≡ min (read_bytes l) 18446744073709551615
  pub ready : w.ready ≡ has_settings l
  pub retiring : w.retiring ≡ is_retiring l
  pub limit : w.limit ≡ setting 3 l
  pub initial : w.initial ≡ initial_window l
  pub window : w.window + used 0 l ≡ 65535 + raised 0 l
  pub opened : opened_streams l ≡ odds w.opened
  pub block : IsBlock w.block (open_block l)
  pub table : w.table ≡ state_after (Ok new_table) (blocks_from None (frames_read l))

-- what is to be sent whatever the windows: the preface, and the control frames that are owed and were not written
abbrev pub outgoing_of : Sent → Outgoing
outgoing_of sent.Preface = Opening
outgoing_of (sent.Frame f) = AFrame f

abbrev pub still_owed : Link → List Outgoing
still_owed l = (if has_begun l then [] else Opening ∷ []) ++ map (λ f. AFrame f) (drop (controls_written l) l.owed)

-- the acknowledgements among them: whether the SETTINGS of each name SETTINGS_HEADER_TABLE_SIZE (RFC 7541, section 4.2)
abbrev pub named_in : Control → Option Bool
named_in (control.SettingsAck resizes) = Some resizes
named_in _ = None

abbrev pub acknowledged : Link → ℕ
acknowledged l = count_by (λ f. f.kind == settings_type) (frames_written l)

pub record SeesOwed (l : Link) (w : Wire) : Type 0 where
  pub queue : map outgoing w.queue.items ≡ still_owed l
  pub names : filter_map named_in w.queue.items ≡ drop (acknowledged l) (table_sizes_named l)
  pub resizes : w.resizes ≡ owes_update l
  pub written : controls_written l ≤ length l.owed
  pub answered : acknowledged l ≤ length (table_sizes_named l)

-- a stream of the link is that of an attempt: its credit is what the peer gave it beyond the first window, less what was sent
pub record IsLive (l : Link) (x : LiveStream) (a : Attempt) : Type 0 where
  pub stream : a.row.stream ≡ Some x.number
  pub some : (x.number == 0) ≡ false
  pub tag : x.tag ≡ a.place
  pub finished : x.finished ≡ has_written_end x.number l
  pub credit : x.credit +ℤ pos (used x.number l) ≡ pos (raised x.number l)

-- the attempts on a link in the order in which their streams were opened
abbrev pub put_by_stream : Attempt → List Attempt → List Attempt
put_by_stream a [] = a ∷ []
put_by_stream a (b ∷ bs) = if nat_lt (stream_number b) (stream_number a) then b ∷ put_by_stream a bs else a ∷ b ∷ bs

abbrev pub by_stream : List Attempt → List Attempt
by_stream [] = []
by_stream (a ∷ as_) = put_by_stream a (by_stream as_)

abbrev pub StreamsAreLive : Link → List LiveStream → List Attempt → Type 0
StreamsAreLive l [] [] = Unit {0}
StreamsAreLive l (x ∷ xs) (a ∷ others) = IsLive l x a × StreamsAreLive l xs others
StreamsAreLive l _ _ = ⊥

pub record Sees (l : Link) (s : Seen) (w : Wire) : Type 0 where
  pub reads : SeesRead l w
  pub live : StreamsAreLive l w.live (by_stream (streaming_on l s))

-- the attempts that wait for a stream
abbrev pub WaitAlike : Link → Seen → Wire → Type 0
WaitAlike l s w = w.waiting ≡ map (λ a. a.place) (waiting_on l s)

-- how many bytes were written for an attempt
abbrev pub written_for : Link → Attempt → ℕ
written_for l a = option_map_or (λ n. used n l) a.row.stream 0

-- what the link is fed with for an attempt: the header list of its request, and the bytes of the accepted messages that were not written
pub record IsFed (l : Link) (s : Seen) (a : Attempt) (line : Line) : Type 0 where
  pub call : Call
  pub call_is : call_of a s ≡ Some call
  pub fields : line.fields ≡ fields_of_request call.request s.setup.authority (time_left call s) a.row.number
  pub written : written_for l a ≤ accepted_bytes call
  pub left : line.left ≡ drop (written_for l a) (framed_all call.messages)
  pub finished : line.finished ≡ call.finished

-- of the streams, with their attempts, and of the attempts that wait
abbrev pub StreamsAreFed : Link → Seen → (ℕ → Line) → List LiveStream → List Attempt → Type 0
StreamsAreFed l s g [] [] = Unit {0}
StreamsAreFed l s g (x ∷ xs) (a ∷ others) = IsFed l s a (g x.tag) × StreamsAreFed l s g xs others
StreamsAreFed l s g _ _ = ⊥

abbrev pub WaitFed : Link → Seen → (ℕ → Line) → List Attempt → Type 0
WaitFed l s g xs = AllByRecursion (λ a. IsFed l s a (g a.place)) xs

-- streams that were opened in turn: from this number on, below a bound
abbrev pub StreamsAreOpened : ℕ → ℕ → List LiveStream → Type 0
StreamsAreOpened first bound [] = Unit {0}
StreamsAreOpened first bound (x ∷ xs) = (first ≤ x.number) × (x.number < bound) × StreamsAreOpened (x.number + 1) bound xs

abbrev pub NumbersAreDistinct : List ℕ → Type 0
NumbersAreDistinct [] = Unit {0}
NumbersAreDistinct (n ∷ ns) = (is_one_of ns n ≡ false) × NumbersAreDistinct ns

-- nothing passed on streams that were not opened
abbrev pub StreamsAreFresh : Link → ℕ → Type 0
StreamsAreFresh l opened = (k : ℕ) → 2 * opened < k → (used k l ≡ 0) × (has_written_end k l ≡ false) × (raised k l ≡ 0)

-- each attempt stands at its place
abbrev pub AttemptsStandInPlace : ℕ → List Attempt → Type 0
AttemptsStandInPlace n [] = Unit {0}
AttemptsStandInPlace n (a ∷ others) = (a.place ≡ n) × AttemptsStandInPlace (n + 1) others

-- a link of a session, with what it is fed with
pub record SeesLink (l : Link) (s : Seen) (w : Wire) (g : ℕ → Line) : Type 0 where
  pub at : numbered s.links l.number ≡ Some l
  pub sees : Sees l s w
  pub owes : SeesOwed l w
  pub waits : WaitAlike l s w
  pub fed : StreamsAreFed l s g w.live (by_stream (streaming_on l s))
  pub wait_fed : WaitFed l s g (waiting_on l s)
  pub opened : StreamsAreOpened 1 (2 * w.opened + 1) w.live
  pub fresh : StreamsAreFresh l w.opened
  pub tags : NumbersAreDistinct (map (λ x. x.tag) w.live ++ w.waiting)
  pub places : AttemptsStandInPlace 1 s.attempts
