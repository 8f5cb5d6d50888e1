-- A frame brought a message that is too long: the end of its call is next, and of no other call; and once it has ended, nothing else follows but that its attempt is cut off.
-- Example: DATA with the prefix of such a message came for attempt 1 of call 1. Then `CallEnds 1 Response` is next.
use Rattle.std.proofs.Common.{◌≡◌, ◌++◌, ◌&&◌, ◌||◌, ◌==◌, ◌∷◌, ap, refl, sym, ◌∙◌, Bool, true, false, List, [], Option, None, Some, ℕ, suc, if◌then◌else◌, is_none, is_some, option_map, slice_get, nat_lt}
use Rattle.std.proofs.lemmas.Bool.{and_parts, eq-eqb, eqb-true}
use Rattle.attempt_ledger.specs.declared.ledger.CallEnd.{CallEnd}
use Rattle.call_cases.proofs.EndsFollow.Apart.{last_passes}
use Rattle.call_cases.proofs.EndsFollow.Codes.{response_by_limit}
use Rattle.channel_actions.proofs.Stamps.{counted_at}
use Rattle.channel_actions.specs.Links.{lines_in}
use Rattle.channel_core.specs.States.{StateSeen}
use Rattle.channel_core.specs.Tables.{Received, received_in}
use Rattle.frame_cases.proofs.HeadFrames.Lists.{found_only}
use Rattle.frame_cases.proofs.LargeFrames.Comes.{HasFirst, IsReadWithLarge}
use Rattle.frame_cases.proofs.OwnFrames.Frame as frame
use Rattle.frame_cases.proofs.QuietFrames.Received as quiet
use Rattle.frame_cases.proofs.QuietFrames.Lines as lines
use Rattle.frame_cases.proofs.QuietFrames.ReadStill as read
use Rattle.frame_cases.specs.FrameKinds.Laws.{Large, kind_of}
use Rattle.frame_cases.specs.PieceWalks.Points.{IsReceiving}
use Rattle.frame_cases.specs.QuietFrames.Laws.{HasNothingNew}
use Rattle.grpc_base.specs.declared.event.EndCause.TheVariants as ending
use Rattle.grpc_base.specs.declared.fields.Field.{Field}
use Rattle.h2_frame.specs.Frames.{FrameSeen}
use Rattle.h2_frame.specs.Numbers.{goaway_type}
use Rattle.link_actions.proofs.LossActions.Calls.{changed_any, limit_in, limit_kept}
use Rattle.link_actions.specs.ResponseActions.Laws.{seen_at}
use Rattle.link_actions.specs.StreamActions.Laws.{IsOn}
use Rattle.session_actions.specs.Actions.{following}
use Rattle.session_actions.specs.Attempts.{call_of, commitment, is_commitment, is_of, is_outstanding}
use Rattle.session_actions.specs.CallEnds.{call_ended, ending_call, has_long_response, next_ended}
use Rattle.session_actions.specs.Calls.{is_open_call, marked}
use Rattle.session_actions.specs.Entries.{entry, now}
use Rattle.session_actions.specs.Events.{is_loss}
use Rattle.session_actions.specs.Responses.{limit_of_attempt, response}
use Rattle.session_actions.specs.Words.{changed, holds, numbered}
use Rattle.session_actions.specs.Writing.{frame_read, next_frame_read, owed_for}
use Rattle.session_actions.specs.declared.action.Action.TheVariants as action
use Rattle.session_actions.specs.declared.action.Action.{Action}
use Rattle.session_actions.specs.declared.attempt.Attempt.{Attempt}
use Rattle.session_actions.specs.declared.call.Call.{Call}
use Rattle.session_actions.specs.declared.call.MarkKind.TheVariants as mark
use Rattle.session_actions.specs.declared.entry.OpenEntry.{OpenEntry}
use Rattle.session_actions.specs.declared.link.Link.{Link}
use Rattle.session_actions.specs.declared.link.ReadFrame.{ReadFrame}
use Rattle.session_actions.specs.declared.response.Response.{Response}
use Rattle.session_actions.specs.declared.seen.Seen.{Seen}
use Rattle.session_order.proofs.Begun.{last_in}
use Rattle.session_order.proofs.Quiescence.{first_line_gives}
use Rattle.session_order.proofs.Changed.{none_from, passes_not}
use Rattle.session_order.proofs.Ended.{ended_leaves}
use Rattle.session_order.specs.Quiescent as order
use Rattle.session_order.specs.Lines.{is_line, rank}
use Rattle.session_order.specs.Stirs.{stirs}
use Rattle.session_order.specs.declared.line.Line.TheVariants as line
use Rattle.session_order.specs.declared.line.Line.{Line}
use Rattle.frame_cases.proofs.LargeFrames.Starts as starts

-- the line of responses that are too long, and the others
response_or_other : (P : Line → Type 0) → P line.Response → ((k : Line) → is_line k line.Response ≡ false → P k) → (k : Line) → P k
response_or_other P here other line.Response = here
response_or_other P here other line.Cut = other line.Cut refl
response_or_other P here other line.Transparent = other line.Transparent refl
response_or_other P here other line.Inherited = other line.Inherited refl
response_or_other P here other line.Row = other line.Row refl
response_or_other P here other line.Final = other line.Final refl
response_or_other P here other line.Cancelled = other line.Cancelled refl
response_or_other P here other line.Request = other line.Request refl
response_or_other P here other line.Overflow = other line.Overflow refl
response_or_other P here other line.Head = other line.Head refl
response_or_other P here other line.Pick = other line.Pick refl
response_or_other P here other line.Link = other line.Link refl
response_or_other P here other line.WireEnd = other line.WireEnd refl
response_or_other P here other line.Reset = other line.Reset refl
response_or_other P here other line.Shut = other line.Shut refl
response_or_other P here other line.Retire = other line.Retire refl
response_or_other P here other line.Begin = other line.Begin refl
response_or_other P here other line.Give = other line.Give refl
response_or_other P here other line.Drop = other line.Drop refl
response_or_other P here other line.Add = other line.Add refl

no_response_before : (loses : Bool) (k : Line) → nat_lt (rank loses k) (rank loses line.Response) ≡ true → is_line k line.Response ≡ false
no_response_before loses k e =
    response_or_other (λ (q : Line). nat_lt (rank loses q) (rank loses line.Response) ≡ true → is_line q line.Response ≡ false) (λ f. absurd (cc)) (λ q off f. off) k e

module _ (link : ℕ) (piece : List ℕ) (x : StateSeen) (o : OpenEntry) (s : Seen) (is : IsReceiving link piece x o s) (h : Received) (r : ReadFrame)
    (next : next_frame_read link s ≡ Some (action.FrameRead link r)) (receives : received_in link piece x.links ≡ Some h) (no_goaway : (r.frame.kind == goaway_type) ≡ false)
    (kind : kind_of h.news ≡ Large) where
  abbrev l : Link
  l = is.l

  abbrev t : Seen
  t = starts.t link piece x o s is h r next receives no_goaway kind

  abbrev frames : List FrameSeen
  frames = owed_for r.frame l s

  abbrev long : IsReadWithLarge l (read.m link piece x o s is h r next receives) s (frame_read l.number r s) r.frame.stream (seen_at r)
      (read.out link piece x o s is h r next receives).news (read.out link piece x o s is h r next receives).link.link.wire (lines_in l s)
      (read.out link piece x o s is h r next receives).link.readers
  long = starts.long link piece x o s is h r next receives no_goaway kind

  abbrev a : Attempt
  a = long.attempt

  abbrev number : ℕ
  number = a.row.call

  abbrev c : Call
  c = starts.c link piece x o s is h r next receives no_goaway kind

  own : l.number ≡ link
  own = read.own link piece x o s is h r next receives

  places : (i : ℕ) (b : Attempt) → numbered s.attempts i ≡ Some b → b.place ≡ i
  places = read.places link piece x o s is h r next receives

  quiescent_s : order.IsQuiescent o s
  quiescent_s = frame.quiescent_s link piece x o s is h r next receives

  on : IsOn l s r.frame.stream a
  on = starts.on link piece x o s is h r next receives no_goaway kind

  at_c : numbered s.calls number ≡ Some c
  at_c = starts.at_c link piece x o s is h r next receives no_goaway kind

  its : HasFirst long.more (response a s) (response a t)
  its = starts.its link piece x o s is h r next receives no_goaway kind

  others_new : (i : ℕ) (b : Attempt) → numbered s.attempts i ≡ Some b → (b.place == a.place) ≡ false → HasNothingNew (response b s) (response b t)
  others_new = frame.others_new link piece x o s is h r next receives a on long.others

  itself_not : (d : Call) → numbered s.calls d.number ≡ Some d → (d.number == number) ≡ false → (k : Attempt) → commitment d s ≡ Some k → (e : Bool) → (k.place == a.place) ≡ e
      → (k.place == a.place) ≡ false
  itself_not d got off k its_own false e = e
  itself_not d got off k its_own true e =
      let one : (i : ℕ) × (slice_get s.attempts i ≡ Some k) = last_in (is_commitment d) s.attempts k its_own in
      let passes : is_commitment d k ≡ true = last_passes (is_commitment d) s.attempts k its_own in
      let of_d : (k.row.call == d.number) ≡ true = (and_parts (is_of d k) (is_some k.row.committed) passes).0 in
      let same : d.number ≡ number
      = sym (eqb-true k.row.call d.number of_d) ∙ ap (λ (q : Attempt). q.row.call) (sym (frame.itself link piece x o s is h r next receives a on (suc one.0) k one.1 e)) in
      absurd (let bad : true ≡ false = sym (eq-eqb d.number number same) ∙ off in let no : ⊥ = (cc) in no)

  large_same : (d : Call) → numbered s.calls d.number ≡ Some d → (d.number == number) ≡ false → (q : Option Attempt) → commitment d s ≡ q
      → holds (λ (k : Attempt). is_outstanding k && (response k t).large) q ≡ holds (λ (k : Attempt). is_outstanding k && (response k s).large) q
  large_same d got off None e = refl
  large_same d got off (Some k) e =
      let one : (i : ℕ) × (slice_get s.attempts i ≡ Some k) = last_in (is_commitment d) s.attempts k e in
      ap (λ (b : Bool). is_outstanding k && b) (others_new (suc one.0) k one.1 (itself_not d got off k e (k.place == a.place) refl)).large

  numbers : (j : ℕ) (d : Call) → numbered s.calls j ≡ Some d → d.number ≡ j
  numbers j d got = counted_at (λ (q : Call). q.number) s.calls j d is.agrees.kept.calls got

  pub other_long : (j : ℕ) (d : Call) → numbered s.calls j ≡ Some d → (j == number) ≡ false → has_long_response t d ≡ false
  other_long j d got off =
      ap (λ (b : Bool). is_open_call d && b)
      (large_same d (ap (numbered s.calls) (numbers j d got) ∙ got) (ap (λ (i : ℕ). i == number) (numbers j d got) ∙ off) (commitment d s) refl)
      ∙ passes_not (has_long_response s) s.calls j d (quiescent_s line.Response) got

  own_long : has_long_response t c ≡ true
  own_long =
      ap (λ (e : Option CallEnd). is_none e && holds (λ (k : Attempt). is_outstanding k && (response k t).large) (commitment c s)) (starts.open_now link piece x o s is h r next receives no_goaway kind)
      ∙ ap (holds (λ (k : Attempt). is_outstanding k && (response k t).large)) (starts.committed link piece x o s is h r next receives no_goaway kind)
      ∙ ap (λ (b : Bool). b && (response a t).large) (frame.out link piece x o s is h r next receives a on) ∙ starts.its_large link piece x o s is h r next receives no_goaway kind

  only : (j : ℕ) (d : Call) → numbered s.calls j ≡ Some d → has_long_response t d ≡ true → d ≡ c
  only j d got e = by (j == number) refl
    where
      by : (b : Bool) → (j == number) ≡ b → d ≡ c
      by true f =
          let both : Some d ≡ Some c = sym got ∙ ap (numbered s.calls) (eqb-true j number f) ∙ at_c in
          let one : d ≡ c = (cc) in one
      by false f = absurd (let bad : true ≡ false = sym e ∙ other_long j d got f in let no : ⊥ = (cc) in no)

  -- nothing follows but that
  unstirred : (k : Line) → stirs (action.FrameRead link r) k ≡ false → order.IsStill k o t
  unstirred k e = quiet.unstirred link piece x o s is h r next receives k e

  each_so : (R : Response → Response → Type 0) → R (response a s) (response a t) → ((p q : Response) → HasNothingNew p q → R p q) → (i : ℕ) (b : Attempt) → numbered s.attempts i ≡ Some b
      → R (response b s) (response b t)
  each_so = frame.each_so link piece x o s is h r next receives a on long.others

  each_headed : (i : ℕ) (b : Attempt) → numbered s.attempts i ≡ Some b → is_some (response b t).head ≡ is_some (response b s).head
  each_headed i b got =
      each_so (λ p q. is_some q.head ≡ is_some p.head) (ap (λ (q : Option (List Field)). is_some q) its.head) (λ p q k. ap (λ (f : Option (List Field)). is_some f) k.head) i b got

  each_end : (i : ℕ) (b : Attempt) → numbered s.attempts i ≡ Some b → (response b t).end ≡ (response b s).end
  each_end i b got = each_so (λ p q. q.end ≡ p.end) its.end (λ p q k. k.end) i b got

  pub still_t : (k : Line) → is_line k line.Response ≡ false → order.IsStill k o t
  still_t line.Head e = lines.heads_stay s link l is.here own r frames (Some o) places (read.less link piece x o s is h r next receives) each_headed o (quiescent_s line.Head)
  still_t line.Response e = absurd (cc)
  still_t line.Link e =
      lines.links_stay s link l is.here own r frames (Some o) places (read.less link piece x o s is h r next receives) long.retiring long.settings o (quiescent_s line.Link)
  still_t line.WireEnd e =
      lines.ends_stay s link l is.here own r frames (Some o) places (read.less link piece x o s is h r next receives) long.retiring each_end o (quiescent_s line.WireEnd)
  still_t line.Cut e = unstirred line.Cut refl
  still_t line.Transparent e = unstirred line.Transparent refl
  still_t line.Inherited e = unstirred line.Inherited refl
  still_t line.Row e = unstirred line.Row refl
  still_t line.Final e = unstirred line.Final refl
  still_t line.Cancelled e = unstirred line.Cancelled refl
  still_t line.Request e = unstirred line.Request refl
  still_t line.Overflow e = unstirred line.Overflow refl
  still_t line.Pick e = unstirred line.Pick refl
  still_t line.Reset e = unstirred line.Reset refl
  still_t line.Shut e = unstirred line.Shut refl
  still_t line.Retire e = unstirred line.Retire refl
  still_t line.Begin e = unstirred line.Begin refl
  still_t line.Give e = unstirred line.Give refl
  still_t line.Drop e = unstirred line.Drop refl
  still_t line.Add e = unstirred line.Add refl

  abbrev pub act : Action
  act = action.CallEnds number ending.Response

  gives : next_ended ending.Response (has_long_response t) t ≡ Some act
  gives =
      ap (option_map (ending_call ending.Response)) (found_only (has_long_response t) c own_long s.calls number at_c only)
      ∙ ap (λ (k : ℕ). Some (action.CallEnds k ending.Response)) (starts.number_is link piece x o s is h r next receives no_goaway kind)

  pub next_t : following t ≡ Some act
  next_t = first_line_gives line.Response act o t refl (λ k before. still_t k (no_response_before (is_loss o.event) k before)) gives

  -- and no other call ends by it
  abbrev pub ended_t : Seen
  ended_t = call_ended number ending.Response t

  abbrev mark_it : Call → Call
  mark_it d = record d { marks = d.marks ++ record { what = mark.Closed; moment = now t } ∷ [] }

  abbrev end_it : Call → Call
  end_it d = record d { end = Some (record { entry = entry t; moment = now t; cause = ending.Response }) }

  abbrev marked_t : Seen
  marked_t = marked mark.Closed number t

  limit_marked : (k : Attempt) → limit_of_attempt k marked_t ≡ limit_of_attempt k t
  limit_marked k =
      ap (limit_in t) (changed_any mark_it number k.row.call t.calls) ∙ limit_kept t mark_it (k.row.call == number) (call_of k t) (λ d. refl)

  limit_ended : (k : Attempt) → limit_of_attempt k ended_t ≡ limit_of_attempt k marked_t
  limit_ended k =
      ap (limit_in marked_t) (changed_any end_it number k.row.call marked_t.calls) ∙ limit_kept marked_t end_it (k.row.call == number) (call_of k marked_t) (λ d. refl)

  pub response_same : (k : Attempt) → response k ended_t ≡ response k t
  response_same k = response_by_limit t ended_t k k.row.stream refl (limit_ended k ∙ limit_marked k)

  same_long : (d : Call) (q : Option Attempt)
      → holds (λ (k : Attempt). is_outstanding k && (response k ended_t).large) q ≡ holds (λ (k : Attempt). is_outstanding k && (response k t).large) q
  same_long d None = refl
  same_long d (Some k) = ap (λ (p : Response). is_outstanding k && p.large) (response_same k)

  other_by : (j : ℕ) (q : Option Call) (e : Bool) (d : Call) → numbered t.calls j ≡ q → (j == number) ≡ e
      → option_map (λ (b : Call). if e then end_it b else b) (option_map (λ (b : Call). if e then mark_it b else b) q) ≡ Some d → has_long_response ended_t d ≡ false
  other_by j None e d got f is_ = absurd (let bad : None ≡ Some d = is_ in let no : ⊥ = (cc) in no)
  other_by j (Some b) true d got f is_ = let same : d ≡ end_it (mark_it b) = (cc) in ap (has_long_response ended_t) same
  other_by j (Some b) false d got f is_ =
      let same : d ≡ b = (cc) in
      ap (has_long_response ended_t) same ∙ ap (λ (k : Bool). is_open_call b && k) (same_long b (commitment b t)) ∙ other_long j b got f

  pub none_long : order.IsStill line.Response o ended_t
  none_long =
      none_from (has_long_response ended_t) ended_t.calls
      (λ j d got.
      other_by j (numbered t.calls j) (j == number) d refl refl
      (sym (changed_any end_it number j (changed mark_it number t.calls) ∙ ap (option_map (λ (b : Call). if j == number then end_it b else b)) (changed_any mark_it number j t.calls)) ∙ got))

  pub still_ended : (k : Line) → is_line k line.Cut ≡ false → order.IsStill k o ended_t
  still_ended k off =
      response_or_other (λ (q : Line). is_line q line.Cut ≡ false → order.IsStill q o ended_t) (λ f. none_long)
      (λ q other f. ended_leaves number ending.Response o t refl (λ j d got. numbers j d got) q o refl (ap (λ (b : Bool). b || false) f) (still_t q other)) k off
