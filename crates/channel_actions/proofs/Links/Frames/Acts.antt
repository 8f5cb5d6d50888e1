-- What each kind of action does, which makes no difference to a link on which it does not bear: to calls, to attempts, to links.
use Rattle.std.proofs.Common.{◌≡◌, ◌+◌, ◌++◌, ◌∷◌, ◌&&◌, ◌==◌, ◌≤◌, ap, arith, length-append, refl, subst, sym, ◌∙◌, Bool, true, false, List, [], Option, None, Some, ℕ, if◌then◌else◌, is_none, is_some, length, map, not, option_and_then, slice_get}
use Rattle.std.proofs.Math.Nat.{le_refl}
use Rattle.std.proofs.lemmas.Bool.{eqb-false, eqb-true, or_parts}
use Rattle.std.proofs.lemmas.List.Concat.{flat_map-append}
use Rattle.std.specs.List.{AllByRecursion, list_any}
use Rattle.std.specs.Option.{option_map_or}
use Rattle.std.specs.Prelude.{Err, Ok, Result}
use Rattle.attempt_ledger.specs.Ends.{is_cut}
use Rattle.attempt_ledger.specs.Numbering.{is_transparent}
use Rattle.attempt_ledger.specs.declared.row.Placed.{Placed}
use Rattle.attempt_ledger.specs.declared.row.RowEnd.{RowEnd}
use Rattle.attempt_ledger.specs.declared.row.RowKind.{RowKind}
use Rattle.call_actions.proofs.Lists.{changed_away}
use Rattle.call_actions.proofs.CallsApart.Plain.{subbed}
use Rattle.call_actions.specs.CallsApart.Apart.{IsApart}
use Rattle.channel_actions.proofs.Stamps.{counted_at}
use Rattle.grpc_base.specs.declared.event.ConfigFault.{ConfigFault}
use Rattle.grpc_base.specs.declared.event.Conn.TheVariants as conn
use Rattle.grpc_base.specs.declared.event.EndCause.{EndCause}
use Rattle.grpc_base.specs.declared.event.Event.{Event}
use Rattle.grpc_base.specs.declared.event.Event.TheVariants as event
use Rattle.grpc_base.specs.declared.event.Reply.TheVariants as reply
use Rattle.grpc_base.specs.declared.plan.Throttle.{Throttle}
use Rattle.grpc_frame.specs.Messages.{framed, framed_all}
use Rattle.h2_frame.specs.Frames.{FrameSeen}
use Rattle.h2_frame.specs.Numbers.{headers_type}
use Rattle.h2_frame.specs.Sent.{rst_stream_frame}
use Rattle.channel_actions.specs.KeptSessions.Kept.{NumbersCountUp}
use Rattle.channel_actions.proofs.Links.Frames.Changes.{IsMild, IsRowAlike, IsSameSo, all_same, attempt_changed, attempt_joins, call_changed, call_joins, link_changed, link_joins, limit_same, same_but_calls, same_so}
use Rattle.channel_actions.proofs.Links.Frames.Differences.{Continues, all_go, joined, no_difference}
use Rattle.channel_actions.specs.LinkFrames.Alike.{SeesNoDifference, IsLinkStill, Numbers, is_on}
use Rattle.channel_actions.specs.LinkFrames.Bears.{is_placed_on}
use Rattle.call_actions.proofs.ReadsInOrder.Order.{links_of_sub}
use Rattle.service_config.specs.Choice.{chosen_for}
use Rattle.service_config.specs.declared.config.Config.{Config}
use Rattle.session_actions.specs.AttemptEnds.{attempt_ended_as, stream_reset_of, with_end, with_end_in_run, with_reset_queued}
use Rattle.session_actions.specs.Attempts.{call_of, is_outstanding, is_to_follow, marked_row, with_attempt}
use Rattle.session_actions.specs.CallEnds.{call_ended}
use Rattle.session_actions.specs.Calls.{marked, with_call}
use Rattle.session_actions.specs.Commitments.{with_commitment}
use Rattle.session_actions.specs.Configs.{call_configured, config_of_call, config_read, no_choice, resolver_answered, run_to_join, with_held, with_throttled}
use Rattle.session_actions.specs.Deliveries.{begun_call, call_begun_by, with_message}
use Rattle.session_actions.specs.Entries.{entry, now, replied}
use Rattle.session_actions.specs.Links.{link_number, link_over, stream_number, wants_resolution}
use Rattle.session_actions.specs.Making.{attempt_made, hedge_withheld, new_row, with_row, without_turn_unless}
use Rattle.session_actions.specs.Policies.{with_placing}
use Rattle.session_actions.specs.Subchannels.{connect_timed_out, link_timed_out, link_up, new_link, with_sub, without_link}
use Rattle.session_actions.specs.Words.{changed, holds, is_number, numbered}
use Rattle.session_actions.specs.Writing.{accepted_bytes, frame_read_on, frame_written_on, owed_for, stream_opened, stream_opened_by, waiting_on, with_frame_read, with_stream}
use Rattle.session_actions.specs.declared.attempt.Attempt.{Attempt}
use Rattle.session_actions.specs.declared.call.Call.{Call}
use Rattle.session_actions.specs.declared.call.MarkKind.{MarkKind}
use Rattle.session_actions.specs.declared.call.MarkKind.TheVariants as mark
use Rattle.session_actions.specs.declared.config.HeldConfig.{HeldConfig}
use Rattle.session_actions.specs.declared.config.ThrottleRun.{ThrottleRun}
use Rattle.session_actions.specs.declared.link.Link.{Link}
use Rattle.session_actions.specs.declared.link.LinkOver.TheVariants as over
use Rattle.session_actions.specs.declared.link.ReadFrame.{ReadFrame}
use Rattle.session_actions.specs.declared.link.Sent.{Sent}
use Rattle.session_actions.specs.declared.link.Sent.TheVariants as sent
use Rattle.session_actions.specs.declared.link.Traffic.TheVariants as traffic
use Rattle.session_actions.specs.declared.seen.Seen.{Seen}
use Rattle.session_actions.specs.declared.subchannel.Subchannel.{Subchannel}

-- calls that change mildly
pub mild : (touched : Numbers) (f : Call → Call) → ((c : Call) → (f c).config ≡ c.config) → ((c : Call) → (f c).request ≡ c.request) → ((c : Call) → (f c).messages ≡ c.messages) → IsMild touched f
mild touched f config request messages =
    record { config = config; request = request; more = λ c. subst (λ (ms : List (List ℕ)). accepted_bytes c ≤ length (framed_all ms)) (sym (messages c)) (le_refl (accepted_bytes c)) }

longer : (c : Call) (m : List ℕ) → accepted_bytes c ≤ length (framed_all (c.messages ++ m ∷ []))
longer c m =
    let whole : length (framed_all (c.messages ++ m ∷ [])) ≡ length (framed_all c.messages) + length (framed_all (m ∷ []))
    = ap (λ (xs : List ℕ). length xs) (flat_map-append framed c.messages (m ∷ [])) ∙ length-append (framed_all c.messages) (framed_all (m ∷ [])) in
    omega (arith, whole)

pub message_mild : (touched : Numbers) (e : Event) → IsMild touched (with_message e)
message_mild touched (event.Send call message) = record { config = λ c. refl; request = λ c. refl; more = λ c. longer c message }
message_mild touched _ = record { config = λ c. refl; request = λ c. refl; more = λ c. le_refl (accepted_bytes c) }

marks_mild : (touched : Numbers) (what : MarkKind) (moment : ℕ) → IsMild touched (λ (c : Call). record c { marks = c.marks ++ record { what = what; moment = moment } ∷ [] })
marks_mild touched what moment = mild touched (λ (c : Call). record c { marks = c.marks ++ record { what = what; moment = moment } ∷ [] }) (λ c. refl) (λ c. refl) (λ c. refl)

pub gone_if : (s : Seen) (l : Link) (b : Bool) → IsLinkStill l (if b then record l { gone = Some (entry s) } else l)
gone_if s l true = record { same = record { number = refl; traffic_ = refl; owed = refl }; over = refl; received = refl }
gone_if s l false = record { same = record { number = refl; traffic_ = refl; owed = refl }; over = refl; received = refl }

-- an attempt that is on no other link
off_by : (p q : Bool) → ((p && false) && q) ≡ false
off_by true q = refl
off_by false q = refl

and_no : (b : Bool) → (b && false) ≡ false
and_no true = refl
and_no false = refl

ended_off : (e : RowEnd) (a : Attempt) (link : ℕ) → is_on link (with_end e a) ≡ false
ended_off e a link = off_by (is_some a.row.placed) (is_placed_on link a)

pub placed_off : (a : Attempt) (link : ℕ) → is_placed_on link a ≡ false → is_on link a ≡ false
placed_off a link off = ap (λ (q : Bool). is_outstanding a && q) off ∙ and_no (is_outstanding a)

pub never_on : (a : Attempt) (link : ℕ) → a.row.placed ≡ None → is_on link a ≡ false
never_on a link e = ap (λ (o : Option Placed). (is_some o && is_none a.row.ended) && holds (λ (at : Placed). at.link == link) o) e

both_true : (a b : Bool) → (a && b) ≡ true → b ≡ true
both_true true b e = e
both_true false b e = absurd (cc)

one_link : (o : Option Placed) (link k : ℕ) → holds (λ (at : Placed). at.link == link) o ≡ true → holds (λ (at : Placed). at.link == k) o ≡ true → link ≡ k
one_link None link k e f = absurd (cc)
one_link (Some at) link k e f = sym (eqb-true at.link link e) ∙ eqb-true at.link k f

pub on_one : (a : Attempt) (link k : ℕ) → is_on link a ≡ true → is_on k a ≡ true → link ≡ k
on_one a link k e f = one_link a.row.placed link k (both_true (is_outstanding a) (is_placed_on link a) e) (both_true (is_outstanding a) (is_placed_on k a) f)

first_true : (a b : Bool) → ((a && b) ≡ true) → a ≡ true
first_true true b e = refl
first_true false b e = absurd (cc)

not_both : (a b : Bool) → a ≡ true → (a && b) ≡ false → b ≡ false
not_both true b e f = f
not_both false b e f = absurd (cc)

some_same : (x a : Attempt) → Some x ≡ Some a → x ≡ a
some_same x a e = (cc)

-- configs
attempts_of_throttle : (config : Config) (t : Throttle) (o : Option ℕ) (z : Seen) → (with_throttled config t o z).attempts ≡ z.attempts
attempts_of_throttle config t None z = refl
attempts_of_throttle config t (Some run) z = refl

attempts_of_held : (config : Config) (o : Option Throttle) (z : Seen) → (with_held config o z).attempts ≡ z.attempts
attempts_of_held config None z = refl
attempts_of_held config (Some t) z = attempts_of_throttle config t (run_to_join t z) z

pub attempts_of_config : (x : Result Config ConfigFault) (s : Seen) → (config_read x s).attempts ≡ s.attempts
attempts_of_config (Ok config) s = attempts_of_held config config.throttle (replied reply.Done (resolver_answered s))
attempts_of_config (Err fault) s = refl

-- what is done to runs when an attempt ends makes no difference to a link
more_of : (s : Seen) (place : ℕ) (b : Bool) (o : Option ℕ)
    → IsSameSo s (if b then option_map_or (λ (run : ℕ). record s { runs = changed (λ (u : ThrottleRun). record u { ends = u.ends ++ place ∷ [] }) run s.runs }) o s else s)
more_of s place false o = record { calls = refl; attempts = refl; configs = refl; links = refl }
more_of s place true None = record { calls = refl; attempts = refl; configs = refl; links = refl }
more_of s place true (Some run) = record { calls = refl; attempts = refl; configs = refl; links = refl }

run_of : (s : Seen) (a : Attempt) (e : RowEnd) (o : Option Call) → IsSameSo s (option_map_or (with_end_in_run a e s) o s)
run_of s a e None = record { calls = refl; attempts = refl; configs = refl; links = refl }
run_of s a e (Some d) =
    more_of s a.place (not (is_cut e.cause) && not (is_to_follow d e.cause e.unseen s)) (option_and_then (λ (h : HeldConfig). h.run) (config_of_call d s))

pub other_than : (n : ℕ) (touched : Numbers) → ((link : ℕ) → touched link ≡ (n == link)) → (link : ℕ) → touched link ≡ false → link ≡ n → ⊥
other_than n touched is link apart e = eqb-false n link (sym (is link) ∙ apart) (sym e)

module _ (touched : Numbers) (s : Seen) where
  -- the same, once something that none of this looks at is noted
  pub then_same : (t u : Seen) → SeesNoDifference touched s t → IsSameSo t u → SeesNoDifference touched s u
  then_same t u f is = joined touched s t u f (all_same touched t u is)

  pub marked_so : (what : MarkKind) (n : ℕ) (t : Seen) → SeesNoDifference touched s t → SeesNoDifference touched s (marked what n t)
  marked_so what n t f =
      joined touched s t (marked what n t) f
      (call_changed touched (λ (c : Call). record c { marks = c.marks ++ record { what = what; moment = now t } ∷ [] }) n t (marks_mild touched what (now t)))

  pub row_marked : (what : MarkKind) (t : Seen) → SeesNoDifference touched s t → (o : Option Attempt) → SeesNoDifference touched s (option_map_or (λ (a : Attempt). marked what a.row.call t) o t)
  row_marked what t f None = f
  row_marked what t f (Some a) = marked_so what a.row.call t f

  pub begun : (e : Event) → SeesNoDifference touched s (call_begun_by e s)
  begun (event.Begin request) =
      let d : Call = begun_call (length s.calls + 1) (entry s) (now s) request in
      let t : Seen = record s { calls = s.calls ++ d ∷ [] } in
      then_same t (call_begun_by (event.Begin request) s) (call_joins touched d s) (record { calls = refl; attempts = refl; configs = refl; links = refl })
  begun _ = no_difference touched s

  pub called : (f : Call → Call) (n : ℕ) (u : Seen) → IsMild touched f → IsSameSo (with_call f n s) u → SeesNoDifference touched s u
  called f n u k is = then_same (with_call f n s) u (call_changed touched f n s k) is

  pub ended : (n : ℕ) (why : EndCause) → SeesNoDifference touched s (call_ended n why s)
  ended n why =
      let t : Seen = marked mark.Closed n s in
      let f : Call → Call = λ (c : Call). record c { end = Some (record { entry = entry s; moment = now s; cause = why }) } in
      joined touched s t (with_call f n t) (marked_so mark.Closed n s (no_difference touched s)) (call_changed touched f n t (mild touched f (λ c. refl) (λ c. refl) (λ c. refl)))

  pub withheld : (n : ℕ) → SeesNoDifference touched s (hedge_withheld n s)
  withheld n =
      then_same (marked mark.Withheld n s) (hedge_withheld n s) (marked_so mark.Withheld n s (no_difference touched s)) (record { calls = refl; attempts = refl; configs = refl; links = refl })

  pub turned_so : (b : Bool) (u : Seen) → SeesNoDifference touched s u → SeesNoDifference touched s (without_turn_unless b u)
  turned_so true u g = g
  turned_so false u g = then_same u (without_turn_unless false u) g (record { calls = refl; attempts = refl; configs = refl; links = refl })

  pub made : (n number : ℕ) (k : RowKind) (due : ℕ) → SeesNoDifference touched s (attempt_made n number k due s)
  made n number k due =
      let t : Seen = with_row (new_row n number k due) s in
      let a : Attempt = record { place = length s.attempts + 1; row = new_row n number k due; made = entry s; reset = false } in
      turned_so (is_transparent k) (marked (mark.Made (length s.attempts + 1)) n t)
      (marked_so (mark.Made (length s.attempts + 1)) n t (attempt_joins touched a s (λ link apart. refl)))

  -- a commitment, a placing
  pub row_changed : (f : Attempt → Attempt) (what : MarkKind) (place : ℕ) → ((x : Attempt) → numbered s.attempts place ≡ Some x → IsRowAlike touched x (f x))
      → SeesNoDifference touched s (marked_row what place (with_attempt f place s))
  row_changed f what place is =
      let t : Seen = with_attempt f place s in
      row_marked what t (attempt_changed touched f place s is) (numbered t.attempts place)

  pub committed : (place : ℕ) → SeesNoDifference touched s (marked_row mark.Committed place (with_attempt (with_commitment (entry s)) place s))
  committed place =
      row_changed (with_commitment (entry s)) mark.Committed place
      (λ x got. record { place = refl; call = refl; on = λ link apart. refl; stream = λ link apart on. refl })

  pub placed : (place : ℕ) (at : Placed) → ((link : ℕ) → touched link ≡ (at.link == link)) → ((a : Attempt) → numbered s.attempts place ≡ Some a → a.row.placed ≡ None)
      → SeesNoDifference touched s (marked_row (mark.Placed place) place (with_attempt (with_placing at) place s))
  placed place at is free =
      row_changed (with_placing at) (mark.Placed place) place
      (λ x got. record {
        place = refl;
        call = refl;
        on = λ link apart. placed_off (with_placing at x) link (sym (is link) ∙ apart) ∙ sym (never_on x link (free x got));
        stream = λ link apart on. refl;
      })

  -- an end: the attempt is on none of the others, before and after
  pub end_by : (place : ℕ) (e : RowEnd) (o : Option Attempt) → ((link : ℕ) → touched link ≡ holds (is_placed_on link) o) → ((a : Attempt) → o ≡ Some a → numbered s.attempts a.place ≡ Some a)
      → SeesNoDifference touched s (option_map_or (attempt_ended_as e s) o s)
  end_by place e None is here = no_difference touched s
  end_by place e (Some a) is here =
      let z : Seen = option_map_or (with_end_in_run a e s) (call_of a s) s in
      let same : IsSameSo s z = run_of s a e (call_of a s) in
      let y : Seen = with_attempt (with_end e) a.place z in
      let w : Seen = marked (mark.Ended a.place) a.row.call y in
      let one : SeesNoDifference touched s z = all_same touched s z same in
      let two : SeesNoDifference touched z y
      = attempt_changed touched (with_end e) a.place z
      (λ x got.
      let it : x ≡ a = some_same x a (sym got ∙ ap (λ (l : List Attempt). numbered l a.place) same.attempts ∙ here a refl) in
      record {
        place = refl;
        call = refl;
        on = λ link apart. ended_off e x link ∙ sym (ap (is_on link) it ∙ placed_off a link (sym (is link) ∙ apart));
        stream = λ link apart on. refl;
      }) in
      then_same w (attempt_ended_as e s a) (marked_so (mark.Ended a.place) a.row.call y (joined touched s z y one two)) (record { calls = refl; attempts = refl; configs = refl; links = refl })

  -- a link that changes, which is touched
  pub turned_link : (f : Link → Link) (n : ℕ) (u : Seen) → ((link : ℕ) → touched link ≡ false → link ≡ n → ⊥) → IsSameSo (record s { links = changed f n s.links }) u → SeesNoDifference touched s u
  turned_link f n u off is = then_same (record s { links = changed f n s.links }) u (link_changed touched f n s off) is

  pub reset_at : (f : Link → Link) (t : Seen) (o : Option Placed) → ((link : ℕ) → touched link ≡ holds (λ (at : Placed). at.link == link) o)
      → SeesNoDifference touched t (record t { links = changed f (option_map_or (λ (at : Placed). at.link) o 0) t.links })
  reset_at f t None is = no_difference touched t
  reset_at f t (Some at) is = link_changed touched f at.link t (other_than at.link touched is)

  pub reset_by : (number : ℕ) (o : Option Attempt) → ((link : ℕ) → touched link ≡ holds (is_placed_on link) o) → SeesNoDifference touched s (option_map_or (stream_reset_of number s) o s)
  reset_by number None is = no_difference touched s
  reset_by number (Some a) is =
      let t : Seen = with_attempt with_reset_queued a.place s in
      let f : Link → Link = λ (l : Link). record l { owed = l.owed ++ rst_stream_frame (stream_number a) number ∷ [] } in
      joined touched s t (record t { links = changed f (link_number a) t.links })
      (attempt_changed touched with_reset_queued a.place s (λ x got. record { place = refl; call = refl; on = λ link apart. refl; stream = λ link apart on. refl }))
      (reset_at f t a.row.placed is)

  -- frames
  pub read_by : (r : ReadFrame) (n : ℕ) (o : Option Link) → ((link : ℕ) → touched link ≡ (n == link)) → ((l : Link) → o ≡ Some l → l.number ≡ n)
      → SeesNoDifference touched s (option_map_or (frame_read_on r s) o s)
  read_by r n None is own = no_difference touched s
  read_by r n (Some l) is own =
      link_changed touched (with_frame_read r (owed_for r.frame l s)) l.number s (λ link apart e. other_than n touched is link apart (e ∙ own l refl))

  pub opened_by : (f : FrameSeen) (l : Link) (n : ℕ) (o : Option Attempt) → ((link : ℕ) → touched link ≡ (n == link)) → l.number ≡ n
      → ((a : Attempt) → o ≡ Some a → (numbered s.attempts a.place ≡ Some a) × (is_on l.number a ≡ true))
      → SeesNoDifference touched s (option_map_or (λ (a : Attempt). with_attempt (with_stream f.stream) a.place s) o s)
  opened_by f l n None is own here = no_difference touched s
  opened_by f l n (Some a) is own here =
      attempt_changed touched (with_stream f.stream) a.place s
      (λ x got.
      let it : x ≡ a = some_same x a (sym got ∙ (here a refl).0) in
      record {
        place = refl;
        call = refl;
        on = λ link apart. refl;
        stream = λ link apart on. absurd (other_than n touched is link apart (on_one a link l.number (sym (ap (is_on link) it) ∙ on) (here a refl).1 ∙ own));
      })

  pub opened_if : (f : FrameSeen) (l : Link) (n : ℕ) (b : Bool) → ((link : ℕ) → touched link ≡ (n == link)) → l.number ≡ n
      → ((a : Attempt) → slice_get (waiting_on l s) 0 ≡ Some a → (numbered s.attempts a.place ≡ Some a) × (is_on l.number a ≡ true))
      → SeesNoDifference touched s (if b then stream_opened f l s else s)
  opened_if f l n true is own here = opened_by f l n (slice_get (waiting_on l s) 0) is own here
  opened_if f l n false is own here = no_difference touched s

  pub opens : (x : Sent) (l : Link) (n : ℕ) → ((link : ℕ) → touched link ≡ (n == link)) → l.number ≡ n
      → ((a : Attempt) → slice_get (waiting_on l s) 0 ≡ Some a → (numbered s.attempts a.place ≡ Some a) × (is_on l.number a ≡ true)) → SeesNoDifference touched s (stream_opened_by x l s)
  opens sent.Preface l n is own here = no_difference touched s
  opens (sent.Frame f) l n is own here = opened_if f l n (f.kind == headers_type) is own here

  pub written_by : (x : Sent) (n : ℕ) (o : Option Link) → ((link : ℕ) → touched link ≡ (n == link)) → ((l : Link) → o ≡ Some l → l.number ≡ n)
      → ((l : Link) (a : Attempt) → slice_get (waiting_on l s) 0 ≡ Some a → (numbered s.attempts a.place ≡ Some a) × (is_on l.number a ≡ true))
      → SeesNoDifference touched s (option_map_or (frame_written_on x s) o s)
  written_by x n None is own here = no_difference touched s
  written_by x n (Some l) is own here =
      let t : Seen = stream_opened_by x l s in
      let f : Link → Link = λ (k : Link). record k { traffic = k.traffic ++ traffic.Written x ∷ [] } in
      let u : Seen = record t { links = changed f l.number t.links } in
      then_same u (frame_written_on x s l)
      (joined touched s t u (opens x l n is (own l refl) (here l)) (link_changed touched f l.number t (λ link apart e. other_than n touched is link apart (e ∙ own l refl))))
      (record { calls = refl; attempts = refl; configs = refl; links = refl })

  -- a link that is given up
  pub over_by : (o : Option ℕ) → ((link : ℕ) → touched link ≡ is_number link o) → SeesNoDifference touched s (option_map_or (λ (link : ℕ). link_over over.TimedOut link s) o s)
  over_by None is = no_difference touched s
  over_by (Some n) is = link_changed touched (λ (l : Link). record l { over = Some over.TimedOut }) n s (other_than n touched is)

  pub timed_by : (o : Option Subchannel) → ((link : ℕ) → touched link ≡ is_number link (option_and_then (λ (b : Subchannel). b.link) o))
      → SeesNoDifference touched s (option_map_or (λ (b : Subchannel). link_timed_out b s) o s)
  timed_by None is = no_difference touched s
  timed_by (Some b) is = over_by b.link is

  pub timed_out : (sub : ℕ) → ((link : ℕ) → touched link ≡ is_number link (option_and_then (λ (b : Subchannel). b.link) (numbered s.subs sub))) → SeesNoDifference touched s (connect_timed_out sub s)
  timed_out sub is =
      let z : Seen = option_map_or (λ (b : Subchannel). link_timed_out b s) (numbered s.subs sub) s in
      let y : Seen = wants_resolution z in
      then_same y (connect_timed_out sub s) (then_same z y (timed_by (numbered s.subs sub) is) (record { calls = refl; attempts = refl; configs = refl; links = refl }))
      (same_so y (connect_timed_out sub s) (subbed (without_link conn.Failure) sub y) (links_of_sub (without_link conn.Failure) sub y))

  -- a link that comes up
  pub up_so : (sub : ℕ) → ((link : ℕ) → touched link ≡ (length s.links + 1 == link)) → SeesNoDifference touched s (link_up sub s)
  up_so sub is =
      let n : ℕ = length s.links + 1 in
      let z : Seen = record s { links = s.links ++ new_link n sub s ∷ [] } in
      let f : Subchannel → Subchannel = λ (b : Subchannel). record b { link = Some n } in
      let y : Seen = with_sub f sub z in
      then_same y (link_up sub s)
      (then_same z y (link_joins touched (new_link n sub s) s (other_than n touched is)) (same_so z y (subbed f sub z) (links_of_sub f sub z)))
      (record { calls = refl; attempts = refl; configs = refl; links = refl })

  -- a call gets its config: none of its attempts is on a link
  pub given_config : (n : ℕ) (xs : List Attempt) (u : Seen) → ((k : ℕ) → (k ≡ n → ⊥) → numbered u.calls k ≡ numbered s.calls k) → u.configs ≡ s.configs
      → list_any (λ (a : Attempt). is_outstanding a && (a.row.call == n)) xs ≡ false → AllByRecursion (Continues touched s u) xs
  given_config n [] u off configs none = tt
  given_config n (a ∷ xs) u off configs none =
      let two = or_parts (is_outstanding a && (a.row.call == n)) (list_any (λ (q : Attempt). is_outstanding q && (q.row.call == n)) xs) none in (
        λ link apart on c e. record {
          call = c;
          is = off a.row.call (eqb-false a.row.call n (not_both (is_outstanding a) (a.row.call == n) (first_true (is_outstanding a) (is_placed_on link a) on) two.0)) ∙ e;
          limit = limit_same s u c c refl refl configs;
          more = le_refl (accepted_bytes c);
        },
        given_config n xs u off configs two.1,
      )

  pub configured : (n config : ℕ) → list_any (λ (a : Attempt). is_outstanding a && (a.row.call == n)) s.attempts ≡ false → SeesNoDifference touched s (call_configured n config s)
  configured n config none =
      let u : Seen = call_configured n config s in
      let t : Seen = marked mark.Configured n s in
      same_but_calls touched s u refl refl
      (given_config n s.attempts u
      (λ k off. changed_away (λ (c : Call). record c { config = Some config; configured = Some (entry t) }) n k t.calls off
      ∙ changed_away (λ (c : Call). record c { marks = c.marks ++ record { what = mark.Configured; moment = now s } ∷ [] }) n k s.calls off) refl none)

  -- a config is read
  pub apart_goes : (u : Seen) → ((c : Call) → numbered s.calls c.number ≡ Some c → IsApart s u c) → NumbersCountUp 1 (map (λ (c : Call). c.number) s.calls) → (a : Attempt) → Continues touched s u a
  apart_goes u apart counted a link off on c e =
      let own : c.number ≡ a.row.call = counted_at (λ (d : Call). d.number) s.calls a.row.call c counted e in
      let k : IsApart s u c = apart c (ap (numbered s.calls) own ∙ e) in
      record {
        call = c;
        is = ap (numbered u.calls) (sym own) ∙ k.call ∙ ap (numbered s.calls) own ∙ e;
        limit = ap (λ (o : Option HeldConfig). (option_map_or (λ (h : HeldConfig). chosen_for h.config c.request.path) o no_choice).response) k.config;
        more = le_refl (accepted_bytes c);
      }

  pub config_got : (u : Seen) → u.attempts ≡ s.attempts → u.links ≡ s.links → ((c : Call) → numbered s.calls c.number ≡ Some c → IsApart s u c)
      → NumbersCountUp 1 (map (λ (c : Call). c.number) s.calls) → SeesNoDifference touched s u
  config_got u attempts links apart counted = same_but_calls touched s u links attempts (all_go touched s u (apart_goes u apart counted) s.attempts)
