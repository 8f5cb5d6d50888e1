-- A tag that is not of a link stays so while the link sends, and nothing is taken of its line.
use Rattle.channel_actions.proofs.KeptSessions.Lists.{own_number}
use Rattle.channel_actions.specs.KeptSessions.Kept.{IsKept}
use Rattle.channel_actions.proofs.Streams.Own.Steps.{Each, each_filter, each_from}
use Rattle.event_cases.specs.DrainedLines.Laws.{DrainsLeaveLines}
use Rattle.channel_actions.specs.OwnStreams.Laws.{goes_on_at}
use Rattle.h2_link.specs.Drains.{Outgoing, Sends, Sent, may_open, next, next_control, next_data, next_head, opens, sender, share_of, share_or, stream_opened}
use Rattle.h2_link.specs.Feeds.{Line}
use Rattle.h2_link.specs.Wire.{Wire}
use Rattle.h2_link.specs.declared.control.Control.{Control}
use Rattle.h2_link.specs.declared.live.LiveStream.{LiveStream}
use Rattle.link_actions.proofs.Opened.{put_all}
use Rattle.link_actions.specs.Sees.{StreamsAreLive, Sees, WaitAlike, by_stream}
use Rattle.session_actions.specs.Reading.{is_outstanding_on, outstanding_on}
use Rattle.session_actions.specs.Words.{numbered}
use Rattle.session_actions.specs.Writing.{streaming_on, waiting_on}
use Rattle.session_actions.specs.declared.attempt.Attempt.{Attempt}
use Rattle.session_actions.specs.declared.link.Link.{Link}
use Rattle.session_actions.specs.declared.seen.Seen.{Seen}
use Rattle.std.proofs.Common.{Bool, List, None, Option, Some, [], ap, drop, eqb-true, false, if◌then◌else◌, is_none, is_some, length, map, refl, slice_get, subst, suc, sym, true, zero, ℕ, ◌+◌, ◌++◌, ◌==◌, ◌∙◌, ◌∷◌, ◌≡◌}
use Rattle.std.specs.List.{AllByRecursion}
use Rattle.std.specs.Prelude.{slice_set}

one_of : {X : Type 0} (o : Option X) (x y : X) → o ≡ Some x → o ≡ Some y → x ≡ y
one_of None x y e f = absurd (cc)
one_of (Some z) x y e f = (cc)

all_more : {X : Type 0} (P : X → Type 0) (xs : List X) (y : X) → AllByRecursion P xs → P y → AllByRecursion P (xs ++ y ∷ [])
all_more P [] y e p = (p, tt)
all_more P (x ∷ xs) y e p = (e.0, all_more P xs y e.1 p)

all_set : {X : Type 0} (P : X → Type 0) (xs : List X) (i : ℕ) (z : X) → AllByRecursion P xs → P z → AllByRecursion P (slice_set xs i z)
all_set P [] i z e p = tt
all_set P (x ∷ xs) zero z e p = (p, e.1)
all_set P (x ∷ xs) (suc i) z e p = (e.0, all_set P xs i z e.1 p)

all_drop : {X : Type 0} (P : X → Type 0) (xs : List X) → AllByRecursion P xs → AllByRecursion P (drop 1 xs)
all_drop P [] e = tt
all_drop P (x ∷ xs) e = e.1

-- of a tag and the tags of a link
module _ (tag : ℕ) where
  abbrev IsOther : ℕ → Type 0
  IsOther t = (tag == t) ≡ false

  abbrev IsOtherStream : LiveStream → Type 0
  IsOtherStream x = (tag == x.tag) ≡ false

  record IsOff (w : Wire) : Type 0 where
    live : AllByRecursion IsOtherStream w.live
    waiting : AllByRecursion IsOther w.waiting

  abbrev LeavesIf : (ℕ → Line) → Option Sent → Type 0
  LeavesIf g None = Unit {0}
  LeavesIf g (Some s) = IsOff s.wire × (s.lines tag ≡ g tag)

  -- DATA is of a stream of the link
  share_by : (w : Wire) (g : ℕ → Line) (window initial n : ℕ) (s : LiveStream) (streams : List LiveStream) (o : Option (ℕ × Bool)) → IsOff w → IsOtherStream s
      → LeavesIf g (next_data w g (sender window initial g (n + 1) streams)) → LeavesIf g (next_data w g (share_or n s o (sender window initial g (n + 1) streams)))
  share_by w g window initial n s streams None off e rest = rest
  share_by w g window initial n s streams (Some x) off e rest = (
    record { live = all_set IsOtherStream w.live n _ off.live e; waiting = off.waiting },
    ap (λ (b : Bool). if b then record (g tag) { left = drop x.0 (g tag).left } else g tag) e,
  )

  data_off : (w : Wire) (g : ℕ → Line) (window initial n : ℕ) (streams : List LiveStream) → IsOff w → AllByRecursion IsOtherStream streams
      → LeavesIf g (next_data w g (sender window initial g n streams))
  data_off w g window initial n [] off e = tt
  data_off w g window initial n (s ∷ streams) off e =
      share_by w g window initial n s streams (share_of window initial s (length (g s.tag).left) (g s.tag).finished) off e.0
      (data_off w g window initial (n + 1) streams off e.1)

  abbrev TagIf : Option ℕ → Type 0
  TagIf None = Unit {0}
  TagIf (Some t) = IsOther t

  first_off : (ts : List ℕ) → AllByRecursion IsOther ts → TagIf (slice_get ts 0)
  first_off [] e = tt
  first_off (t ∷ ts) e = e.0

  opens_by : (b : Bool) (ts : List ℕ) → AllByRecursion IsOther ts → TagIf (if b then slice_get ts 0 else None)
  opens_by true ts e = first_off ts e
  opens_by false ts e = tt

  head_off : (w : Wire) (g : ℕ → Line) (o : Option ℕ) → IsOff w → TagIf o → LeavesIf g (next_head w g o)
  head_off w g (Some t) off e =
      (record { live = all_more IsOtherStream w.live (stream_opened w t) off.live e; waiting = all_drop IsOther w.waiting off.waiting }, refl)
  head_off w g None off e = data_off w g w.window w.initial 0 w.live off off.live

  control_off : (w : Wire) (g : ℕ → Line) (o : Option Control) → IsOff w → LeavesIf g (next_control w g o)
  control_off w g (Some c) off = (record { live = off.live; waiting = off.waiting }, refl)
  control_off w g None off = head_off w g (opens w) off (opens_by (may_open w) w.waiting off.waiting)

  next_off : (w : Wire) (g : ℕ → Line) → IsOff w → LeavesIf g (next w g)
  next_off w g off = control_off w g (slice_get w.queue.items 0) off

  sends_off : (fs : List Outgoing) (w w2 : Wire) (g g2 : ℕ → Line) → IsOff w → Sends w g fs w2 g2 → g2 tag ≡ g tag
  sends_off [] w w2 g g2 off sends = ap (λ (h : ℕ → Line). h tag) sends.1
  sends_off (f ∷ fs) w w2 g g2 off sends =
      let one : IsOff sends.0.wire × (sends.0.lines tag ≡ g tag) = subst (LeavesIf g) sends.1 (next_off w g off) in
      sends_off fs sends.0.wire w2 sends.0.lines g2 one.0 sends.3 ∙ one.1

-- an attempt that does not go on on a link has no tag there
module _ (l : Link) (s : Seen) (kept : IsKept s) (row : ℕ) (a : Attempt) (got : numbered s.attempts row ≡ Some a) (off : goes_on_at l.number a ≡ false) where
  abbrev Continues : Attempt → Type 0
  Continues b = (numbered s.attempts b.place ≡ Some b) × (is_outstanding_on l b ≡ true)

  going : Each Continues (outstanding_on l s)
  going =
      each_filter (λ (b : Attempt). numbered s.attempts b.place ≡ Some b) (is_outstanding_on l) s.attempts
      (each_from (λ (b : Attempt). numbered s.attempts b.place ≡ Some b) s.attempts (λ i q at. own_number (λ (z : Attempt). z.place) s.attempts i q kept.attempts at))

  not_at : (b : Attempt) → Continues b → (c : Bool) → (row == b.place) ≡ c → c ≡ false
  not_at b goes false e = refl
  not_at b goes true e =
      let same : a ≡ b = one_of (numbered s.attempts b.place) a b (sym (ap (numbered s.attempts) (eqb-true row b.place e)) ∙ got) goes.0 in
      absurd (let no : false ≡ true = sym off ∙ (ap (goes_on_at l.number) same ∙ goes.1) in (cc))

  off_of : (b : Attempt) → Continues b → (row == b.place) ≡ false
  off_of b goes = not_at b goes (row == b.place) refl

  wait_off : (bs : List Attempt) → Each (λ b. Continues b × (is_none b.row.stream ≡ true)) bs → AllByRecursion (λ (t : ℕ). (row == t) ≡ false) (map (λ (b : Attempt). b.place) bs)
  wait_off [] e = tt
  wait_off (b ∷ bs) e = (off_of b e.0.0, wait_off bs e.1)

  abbrev IsOtherRow : Attempt → Type 0
  IsOtherRow b = (row == b.place) ≡ false

  stream_off : (bs : List Attempt) → Each (λ b. Continues b × (is_some b.row.stream ≡ true)) bs → AllByRecursion IsOtherRow (by_stream bs)
  stream_off [] e = tt
  stream_off (b ∷ bs) e = put_all IsOtherRow b (by_stream bs) (off_of b e.0.0) (stream_off bs e.1)

  live_off : (xs : List LiveStream) (bs : List Attempt) → StreamsAreLive l xs bs → AllByRecursion IsOtherRow bs → AllByRecursion (λ (x : LiveStream). (row == x.tag) ≡ false) xs
  live_off [] bs live e = tt
  live_off (x ∷ xs) (b ∷ bs) live e = (ap (λ (t : ℕ). row == t) live.0.tag ∙ e.0, live_off xs bs live.1 e.1)
  live_off (x ∷ xs) [] live e = absurd live

  is_off : (w : Wire) → Sees l s w → WaitAlike l s w → IsOff row w
  is_off w sees waits = record {
    live = live_off w.live (by_stream (streaming_on l s)) sees.live
        (stream_off (streaming_on l s) (each_filter Continues (λ (b : Attempt). is_some b.row.stream) (outstanding_on l s) going));
    waiting = subst (AllByRecursion (λ (t : ℕ). (row == t) ≡ false)) (sym waits)
        (wait_off (waiting_on l s) (each_filter Continues (λ (b : Attempt). is_none b.row.stream) (outstanding_on l s) going));
  }

pub drains_leave_lines : DrainsLeaveLines
drains_leave_lines room l s w w2 g g2 octets kept sees waits drains row a got off =
    sends_off row drains.frames w w2 g g2 (is_off l s kept row a got off w sees waits) drains.sends
