-- Frame by frame: what came for each application stays, and nothing came on streams that are still to be opened.
use Rattle.attempt_ledger.specs.declared.row.Placed.{Placed}
use Rattle.h2_frame.specs.Frames.{FrameSeen}
use Rattle.h2_frame.specs.Numbers.{headers_type}
use Rattle.call_actions.specs.TakeActions.Serves.{came}
use Rattle.channel_actions.proofs.KeptSessions.Along.{kept_stays}
use Rattle.channel_actions.proofs.KeptSessions.Lists.{all_at, counted_places, own_number}
use Rattle.channel_actions.proofs.Streams.Opened.Responses.{retiring_same}
use Rattle.channel_actions.specs.KeptSessions.Kept.{IsKept}
use Rattle.channel_actions.proofs.Links.Prefaced.Along.{prefaced_stays}
use Rattle.channel_actions.proofs.Streams.Own.Along.{frames_are_sendable}
use Rattle.channel_actions.proofs.Streams.Own.Frames.{passed_opens, sent_next}
use Rattle.channel_actions.proofs.Streams.Own.Steps.{each_filter, each_from, first_has}
use Rattle.event_cases.proofs.WrittenResponses.Items.{more_same}
use Rattle.event_cases.proofs.WrittenResponses.One.{both_changed, both_same, headers_go, items_left, items_opened, value_same}
use Rattle.event_cases.specs.WrittenResponses.Laws.{IsSilent, WritesLeaveItems}
use Rattle.session_actions.specs.Actions.{after, after_if}
use Rattle.session_actions.specs.Attempts.{is_commitment, is_outstanding, with_attempt}
use Rattle.session_actions.specs.Deliveries.{response_items}
use Rattle.session_actions.specs.Entries.{with_entry}
use Rattle.session_actions.specs.Links.{with_link}
use Rattle.session_actions.specs.Reading.{is_outstanding_on, opened_streams, outstanding_on}
use Rattle.session_actions.specs.Responses.{limit_of_attempt, response, response_in}
use Rattle.session_actions.specs.Words.{changed, holds, numbered}
use Rattle.session_actions.specs.Writing.{frame_written_on, is_control, next_stream, sendable, stream_opened, stream_opened_by, waiting_on, with_stream, with_written_bytes}
use Rattle.session_actions.specs.declared.action.Action.TheVariants as action
use Rattle.session_actions.specs.declared.action.Action.{Action}
use Rattle.session_actions.specs.declared.attempt.Attempt.{Attempt}
use Rattle.session_actions.specs.declared.call.Call.{Call}
use Rattle.session_actions.specs.declared.entry.OpenEntry.{OpenEntry}
use Rattle.session_actions.specs.declared.link.Link.{Link}
use Rattle.session_actions.specs.declared.link.Sent.TheVariants as sent
use Rattle.session_actions.specs.declared.link.Sent.{Sent}
use Rattle.session_actions.specs.declared.link.Traffic.TheVariants as traffic
use Rattle.session_actions.specs.declared.seen.Seen.{Seen}
use Rattle.session_order.proofs.Changed.{changed_here}
use Rattle.std.proofs.Common.{Bool, List, None, Option, Some, [], ap, arith, eqb-true, false, if◌then◌else◌, is_none, is_some, length, not, option_map, refl, slice_get, subst, sym, true, ℕ, ◌*◌, ◌+◌, ◌++◌, ◌==◌, ◌||◌, ◌∙◌, ◌∷◌, ◌≡◌, ◌≤◌}
use Rattle.std.proofs.lemmas.Bool.Decides.{nat_tests}
use Rattle.std.proofs.lemmas.Bool.{and_parts}
use Rattle.std.specs.List.{list_all}
use Rattle.std.specs.Option.{option_map_or}
use Rattle.std.specs.Prelude.{nat_lt}

abbrev with_sent : Sent → Link → Link
with_sent x l = record l { traffic = l.traffic ++ traffic.Written x ∷ [] }

-- nothing came on the streams that are still to be opened then
under : (c : ℕ) → nat_lt (2 * c) (2 * c + 1) ≡ true
under c = grind (arith, nat_tests)

over_it : (c n : ℕ) → nat_lt (2 * c) n ≡ true → 2 * c + 1 ≤ n
over_it c n e = grind (arith, nat_tests, e)

joined : (a b c : ℕ) → a ≤ b → b ≤ c → a ≤ c
joined a b c e f = omega (arith, e, f)

same_le : (a b : ℕ) → b ≡ a → a ≤ b
same_le a b e = omega (arith, e)

silent_after : (l : Link) (x : Sent) → IsSilent l → IsSilent (with_sent x l)
silent_after l x silent limit k far open_ =
    let c : ℕ = length (opened_streams l) in
    let more : next_stream l ≤ next_stream (with_sent x l)
    = over_it c (next_stream (with_sent x l)) (passed_opens l (with_sent x l) (traffic.Written x) refl (2 * c) (under c)) in
    more_same limit k l.traffic x ∙ silent limit k (joined (next_stream l) (next_stream (with_sent x l)) k more far) (sym (retiring_same x l) ∙ open_)

nothing : {X : Type 0} (o : Option X) → is_none o ≡ true → o ≡ None
nothing None e = refl
nothing (Some x) e = absurd (cc)

placed_by : (l : Link) (p : Option Placed) → holds (λ (at : Placed). at.link == l.number) p ≡ true → (at : Placed) × (p ≡ Some at) × (at.link ≡ l.number)
placed_by l None e = absurd (cc)
placed_by l (Some at) e = (at, refl, eqb-true at.link l.number e)

-- one frame
module _ (s : Seen) (l : Link) (c : Call) (kept : IsKept s) (line : numbered s.links l.number ≡ Some l) (silent : IsSilent l) where
  abbrev IsThere : Attempt → Type 0
  IsThere a = numbered s.attempts a.place ≡ Some a

  abbrev Continues : Attempt → Type 0
  Continues a = IsThere a × (is_outstanding_on l a ≡ true)

  first_waits : (a : Attempt) → slice_get (waiting_on l s) 0 ≡ Some a → Continues a × (is_none a.row.stream ≡ true)
  first_waits a got =
      first_has (λ (q : Attempt). Continues q × (is_none q.row.stream ≡ true)) (waiting_on l s) a got
      (each_filter Continues (λ (q : Attempt). is_none q.row.stream) (outstanding_on l s)
      (each_filter IsThere (is_outstanding_on l) s.attempts
      (each_from IsThere s.attempts (λ i q at. own_number (λ (z : Attempt). z.place) s.attempts i q kept.attempts at))))

  abbrev state : Sent → List Attempt → Option OpenEntry → Seen
  state x ys current = record s { attempts = ys; links = changed (with_sent x) l.number s.links; current = current }

  plain : (x : Sent) (current : Option OpenEntry) → came c (state x s.attempts current) ≡ came c s
  plain x current =
      value_same (is_commitment c) (λ (a : Attempt). response_items (response a s)) (λ (a : Attempt). response_items (response a (state x s.attempts current))) s.attempts s.attempts
      (both_same (is_commitment c) (λ (a : Attempt). response_items (response a s)) (λ (a : Attempt). response_items (response a (state x s.attempts current))) s.attempts
      (λ i a got. items_left s l x line s.attempts current a))

  opened_by : (f : FrameSeen) (o : Option Attempt) (h : OpenEntry → OpenEntry) → slice_get (waiting_on l s) 0 ≡ o → (f.kind == headers_type) ≡ true → f.stream ≡ next_stream l
      → sendable l s ≡ Some (sent.Frame f) → list_all is_control l.owed ≡ true
      → came c (with_entry h (with_link (with_sent (sent.Frame f)) l.number (option_map_or (λ (a : Attempt). with_attempt (with_stream f.stream) a.place s) o s))) ≡ came c s
  opened_by f None h got kind next sends e = plain (sent.Frame f) (option_map h s.current)
  opened_by f (Some a) h got kind next sends e =
      let waits : Continues a × (is_none a.row.stream ≡ true) = first_waits a got in
      let on : (at : Placed) × (a.row.placed ≡ Some at) × (at.link ≡ l.number)
      = placed_by l a.row.placed (and_parts (is_outstanding a) (holds (λ (at : Placed). at.link == l.number) a.row.placed) waits.0.1).1 in
      let goes : is_none a.row.ended ≡ true
      = (and_parts (is_some a.row.placed) (is_none a.row.ended)
      (and_parts (is_outstanding a) (holds (λ (at : Placed). at.link == l.number) a.row.placed) waits.0.1).0).1 in
      let ys : List Attempt = changed (with_stream f.stream) a.place s.attempts in
      let current : Option OpenEntry = option_map h s.current in
      let t : Seen = state (sent.Frame f) ys current in
      let blank : response_items (response_in (limit_of_attempt a s) f.stream l.traffic) ≡ []
      = silent (limit_of_attempt a s) f.stream (same_le (next_stream l) f.stream next) (headers_go l s f sends e kind) in
      value_same (is_commitment c) (λ (q : Attempt). response_items (response q s)) (λ (q : Attempt). response_items (response q t)) s.attempts ys
      (both_changed (is_commitment c) (λ (q : Attempt). response_items (response q s)) (λ (q : Attempt). response_items (response q t)) (with_stream f.stream) a.place s.attempts a
      waits.0.0 (λ i q there. items_left s l (sent.Frame f) line ys current q) refl
      (items_opened s l (sent.Frame f) line ys current a on.0 f.stream on.1 on.2 (nothing a.row.ended goes) (nothing a.row.stream waits.1) blank))

  opened_if : (f : FrameSeen) (b : Bool) (h : OpenEntry → OpenEntry) → (f.kind == headers_type) ≡ b → (not b || (f.stream == next_stream l)) ≡ true
      → sendable l s ≡ Some (sent.Frame f) → list_all is_control l.owed ≡ true
      → came c (with_entry h (with_link (with_sent (sent.Frame f)) l.number (if b then stream_opened f l s else s))) ≡ came c s
  opened_if f true h kind next sends e = opened_by f (slice_get (waiting_on l s) 0) h refl kind (eqb-true f.stream (next_stream l) next) sends e
  opened_if f false h kind next sends e = plain (sent.Frame f) (option_map h s.current)

  pub came_after : (x : Sent) → sendable l s ≡ Some x → list_all is_control l.owed ≡ true → came c (frame_written_on x s l) ≡ came c s
  came_after sent.Preface sends e = plain sent.Preface (option_map (with_written_bytes sent.Preface) s.current)
  came_after (sent.Frame f) sends e =
      opened_if f (f.kind == headers_type) (with_written_bytes (sent.Frame f)) refl (sent_next l s (sent.Frame f) e sends) sends e

-- the link after it
links_if : (s : Seen) (f : FrameSeen) (o : Option Attempt) → (option_map_or (λ (a : Attempt). with_attempt (with_stream f.stream) a.place s) o s).links ≡ s.links
links_if s f None = refl
links_if s f (Some a) = refl

links_by : (s : Seen) (l : Link) (f : FrameSeen) (b : Bool) → (if b then stream_opened f l s else s).links ≡ s.links
links_by s l f true = links_if s f (slice_get (waiting_on l s) 0)
links_by s l f false = refl

links_same : (s : Seen) (l : Link) (x : Sent) → (stream_opened_by x l s).links ≡ s.links
links_same s l sent.Preface = refl
links_same s l (sent.Frame f) = links_by s l f (f.kind == headers_type)

record Stays (link : ℕ) (s t : Seen) : Type 0 where
  items : (c : Call) → came c t ≡ came c s
  line : Link
  here : numbered t.links link ≡ Some line
  silent : IsSilent line

one_link : (s : Seen) (link : ℕ) (x : Sent) (l : Link) → IsKept s → numbered s.links link ≡ Some l → IsSilent l → sendable l s ≡ Some x → Stays link s (frame_written_on x s l)
one_link s link x l kept at silent sends =
    let same : l.number ≡ link = counted_places (λ (k : Link). k.number) s.links kept.links link l at in
    let line : numbered s.links l.number ≡ Some l = ap (numbered s.links) same ∙ at in
    record {
      items = λ c. came_after s l c kept line silent x sends (all_at (λ (k : Link). list_all is_control k.owed) s.links link l kept.queued at);
      line = with_sent x l;
      here = ap (numbered (changed (with_sent x) l.number (stream_opened_by x l s).links)) (sym same)
          ∙ (ap (λ (ls : List Link). numbered (changed (with_sent x) l.number ls) l.number) (links_same s l x) ∙ changed_here (with_sent x) l.number s.links l line);
      silent = silent_after l x silent;
    }

one_found : (s : Seen) (link : ℕ) (x : Sent) (l : Link) (o : Option Link) → IsKept s → numbered s.links link ≡ o → o ≡ Some l → IsSilent l → sendable l s ≡ Some x
    → Stays link s (option_map_or (frame_written_on x s) o s)
one_found s link x l None kept at is silent sends = absurd (cc)
one_found s link x l (Some k) kept at is silent sends =
    let same : l ≡ k = (cc) in
    one_link s link x k kept at (subst IsSilent same silent) (ap (λ (z : Link). sendable z s) (sym same) ∙ sends)

one_entry : (current : Option OpenEntry) (s : Seen) (link : ℕ) (x : Sent) (l : Link) → IsKept s → numbered s.links link ≡ Some l → IsSilent l → sendable l s ≡ Some x
    → Stays link s (after_if current (action.FrameWritten link x) s)
one_entry None s link x l kept at silent sends = record { items = λ c. refl; line = l; here = at; silent = silent }
one_entry (Some o) s link x l kept at silent sends = one_found s link x l (numbered s.links link) kept refl at silent sends

pub writes_leave_items : WritesLeaveItems
writes_leave_items [] link s t l kept prefaced at silent does c = ap (came c) does
writes_leave_items (x ∷ sent) link s t l kept prefaced at silent does c =
    let act : Action = action.FrameWritten link x in
    let one : Stays link s (after act s) = one_entry s.current s link x l kept at silent (frames_are_sendable s link x l kept prefaced does.0 at) in
    writes_leave_items sent link (after act s) t one.line (kept_stays s act kept does.0) (prefaced_stays s act kept prefaced does.0) one.here one.silent does.1 c ∙ one.items c
