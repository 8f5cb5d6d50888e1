-- RST_STREAM that is queued for the stream of an attempt that ended leaves all but the links in agreement: it is noted of the attempt, and queued on its link.
use Rattle.std.proofs.Common.{◌≡◌, ◌&&◌, ◌||◌, ◌∷◌, ◌++◌, ◌==◌, not, ap, refl, subst, sym, ◌∙◌, Bool, true, false, List, [], Option, None, Some, ℕ, filter, if◌then◌else◌, is_none, is_some, map}
use Rattle.std.specs.Option.{option_map_or}
use Rattle.std.specs.Prelude.{option_and_then}
use Rattle.a6_numbers.specs.Throttling.{Bucket}
use Rattle.attempt_ledger.specs.Throttling.{codes_of}
use Rattle.attempt_ledger.specs.declared.ledger.LinkSeen.{LinkSeen}
use Rattle.attempt_ledger.specs.declared.row.RowEnd.{RowEnd}
use Rattle.call_actions.specs.Sees.{bucket_of}
use Rattle.call_actions.specs.TakeActions.Serves.{Serves}
use Rattle.call_core.specs.Steps.{lent}
use Rattle.channel_actions.proofs.Calls.Reset.Alike.{alike_changed, alike_filter, alike_map, fold_same}
use Rattle.channel_actions.proofs.Calls.Reset.Counts.{next_same, over_same}
use Rattle.channel_actions.proofs.Links.Settings.Pairs.{exactly_by}
use Rattle.channel_actions.proofs.Stamps.{map_same, map_same_some}
use Rattle.channel_actions.specs.Calls.{HasSlot, SeesCall, lent_to}
use Rattle.channel_actions.specs.Columns.{links_noted}
use Rattle.channel_actions.specs.Configs.{bucket_in, runs_in_turn}
use Rattle.channel_actions.specs.KeptSessions.Kept.{IsKept}
use Rattle.channel_actions.specs.Sets.{is_awaiting_config, is_in_deadlines, is_in_dues, is_in_fail_fast, is_in_outstanding, is_in_ready_waiters, is_in_queue, is_ready_waiter, is_waiting}
use Rattle.call_cases.proofs.CallPosts.Report.{map_changed}
use Rattle.call_cases.proofs.OneCallEnds.Resets.{KeepsCall, reset_keeps}
use Rattle.end_cases.specs.AttemptEnds.Ahead.{AgreesOffLinks, SetsAgree}
use Rattle.channel_core.specs.States.{StateSeen}
use Rattle.channel_core.specs.Tables.{tokens_in}
use Rattle.channel_core.specs.declared.state.slots.CallSlot.{CallSlot}
use Rattle.grpc_base.specs.Codes.{has_code}
use Rattle.grpc_base.specs.declared.plan.CallPlan.{CallPlan}
use Rattle.grpc_base.specs.declared.plan.CallPlan.TheVariants as plan
use Rattle.h2_frame.specs.Frames.{FrameSeen}
use Rattle.h2_frame.specs.Sent.{rst_stream_frame}
use Rattle.net_actions.proofs.NetFrames.Left.{same_nets_agree}
use Rattle.session_actions.specs.AttemptEnds.{stream_reset_of, with_reset_queued}
use Rattle.session_actions.specs.Attempts.{counts_by, is_of, is_outstanding, is_queued}
use Rattle.session_actions.specs.Calls.{is_open_call}
use Rattle.session_actions.specs.Closing.{noted_gone}
use Rattle.session_actions.specs.Configs.{plan_of}
use Rattle.session_actions.specs.DueAttempts.{attempts_made, due_after_end, due_after_mark, due_by, due_by_plan, next_due, no_due}
use Rattle.session_actions.specs.Entries.{entry}
use Rattle.session_actions.specs.Links.{is_retiring, link_number, stream_number}
use Rattle.session_actions.specs.Reading.{is_outstanding_on}
use Rattle.session_actions.specs.Refusals.{is_gone, is_shutdown_sub}
use Rattle.session_actions.specs.Sessions.{call_seen, link_seen}
use Rattle.session_actions.specs.Tokens as tokens
use Rattle.session_actions.specs.Words.{changed, holds, is_number, numbered}
use Rattle.session_actions.specs.declared.attempt.Attempt.{Attempt}
use Rattle.session_actions.specs.declared.call.Call.{Call}
use Rattle.session_actions.specs.declared.call.Mark.{Mark}
use Rattle.session_actions.specs.declared.call.MarkKind.{MarkKind}
use Rattle.session_actions.specs.declared.call.MarkKind.TheVariants as mark
use Rattle.session_actions.specs.declared.config.ThrottleRun.{ThrottleRun}
use Rattle.session_actions.specs.declared.due.DueState.{DueState}
use Rattle.session_actions.specs.declared.link.Link.{Link}
use Rattle.session_actions.specs.declared.seen.Seen.{Seen}
use Rattle.session_order.proofs.Changed.{any_changed, lookup}
use Rattle.session_order.proofs.Lists.{holds_same}

or_same : {X Y : Type 0} (g h : X → Y) (d : Y) → ((x : X) → g x ≡ h x) → (o : Option X) → option_map_or g o d ≡ option_map_or h o d
or_same g h d same None = refl
or_same g h d same (Some x) = same x

-- when an attempt of a call is due does not hang on links
module _ (v : Seen) (links : List Link) where
  abbrev u : Seen
  u = record v { links = links }

  plan_linked : (c : Call) (a : Attempt) (d : DueState) (e : RowEnd) (p : CallPlan) → due_by_plan p c a u d e ≡ due_by_plan p c a v d e
  plan_linked c a d e plan.None = refl
  plan_linked c a d e (plan.Retry p) = refl
  plan_linked c a d e (plan.Hedge p) = refl

  end_linked : (c : Call) (d : DueState) (a : Attempt) (e : RowEnd) → due_after_end c u d a e ≡ due_after_end c v d a e
  end_linked c d a e =
      ap (λ (y : DueState). if (not d.stopped && counts_by a v e) && has_code (codes_of (plan_of c v)) e.code then y else d) (plan_linked c a d e (plan_of c v))

  mark_linked : (c : Call) (m : MarkKind) (moment : ℕ) (d : DueState) → due_after_mark c u m moment d ≡ due_after_mark c v m moment d
  mark_linked c mark.Configured moment d = refl
  mark_linked c (mark.Made row) moment d = refl
  mark_linked c (mark.Placed row) moment d = refl
  mark_linked c (mark.Ended row) moment d =
      or_same (λ (a : Attempt). option_map_or (due_after_end c u d a) a.row.ended d) (λ (a : Attempt). option_map_or (due_after_end c v d a) a.row.ended d) d
      (λ a. or_same (due_after_end c u d a) (due_after_end c v d a) d (end_linked c d a) a.row.ended) (numbered v.attempts row)
  mark_linked c mark.Withheld moment d = refl
  mark_linked c mark.Committed moment d = refl
  mark_linked c mark.Closed moment d = refl

  due_linked : (c : Call) → next_due c u ≡ next_due c v
  due_linked c =
      ap (due_by (plan_of c v) (attempts_made c v))
      (fold_same (λ (d : DueState) (m : Mark). due_after_mark c u m.what m.moment d) (λ (d : DueState) (m : Mark). due_after_mark c v m.what m.moment d)
      (λ d m. mark_linked c m.what m.moment d) no_due c.marks)

module _ (v : Seen) (a : Attempt) (number : ℕ) where
  abbrev n : ℕ
  n = a.place

  abbrev pub z : Seen
  z = stream_reset_of number v a

  abbrev frames : List FrameSeen
  frames = rst_stream_frame (stream_number a) number ∷ []

  abbrev owing : Link → Link
  owing l = record l { owed = l.owed ++ frames }

  abbrev xs : List Attempt
  xs = v.attempts

  abbrev ys : List Attempt
  ys = changed with_reset_queued n v.attempts

  -- the ledger
  seen_one : (c : Call) → call_seen z c ≡ call_seen v c
  seen_one c =
      ap (λ (l : List ℕ). record { begun = c.begun; configured = c.configured; made = l; end = c.end })
      (alike_map with_reset_queued (λ (b : Attempt). b.made) (λ b. refl) (filter (is_of c) xs) (filter (is_of c) ys)
      (alike_filter with_reset_queued (is_of c) (λ b. refl) xs ys (alike_changed with_reset_queued n xs)))

  gone_same : (l : Link) → is_gone l z ≡ is_gone l v
  gone_same l =
      ap (λ (b : Bool). is_some l.over || ((is_retiring l || is_shutdown_sub v l.sub) && not b))
      (any_changed (is_outstanding_on l) with_reset_queued (λ b. refl) n xs)

  noted_one : (l : Link) → link_seen (noted_gone z l) ≡ link_seen (noted_gone v l)
  noted_one l = ap (λ (b : Bool). link_seen (if is_none l.gone && b then record l { gone = Some (entry v) } else l)) (gone_same l)

  owed_if : (l : Link) (b : Bool) → link_seen (if b then record (owing l) { gone = Some (entry v) } else owing l) ≡ link_seen (if b then record l { gone = Some (entry v) } else l)
  owed_if l true = refl
  owed_if l false = refl

  owed_one : (l : Link) → link_seen (noted_gone v (owing l)) ≡ link_seen (noted_gone v l)
  owed_one l = owed_if l (is_none l.gone && is_gone l v)

  noted_same : links_noted z ≡ links_noted v
  noted_same =
      map_same (λ (l : Link). link_seen (noted_gone z l)) (λ (l : Link). link_seen (noted_gone v l)) noted_one z.links
      ∙ map_changed (λ (l : Link). link_seen (noted_gone v l)) owing owed_one (link_number a) v.links

  -- tokens
  tokens_same : (run : ThrottleRun) → tokens.tokens_in run z ≡ tokens.tokens_in run v
  tokens_same run =
      fold_same (λ (k place : ℕ). tokens.tokens_by run z k (numbered ys place)) (λ (k place : ℕ). tokens.tokens_by run v k (numbered xs place))
      (λ k place. lookup (tokens.tokens_by run v k) with_reset_queued (λ b. refl) n xs place) run.throttle.start run.ends

  bucket_one : (run : ThrottleRun) → bucket_of z run ≡ bucket_of v run
  bucket_one run = ap (λ (k : ℕ). record { start = run.throttle.start; ratio = run.throttle.ratio; count = k }) (tokens_same run)

  runs_same : map (bucket_in z) (runs_in_turn v.configs) ≡ map (bucket_in v) (runs_in_turn v.configs)
  runs_same = map_same (bucket_in z) (bucket_in v) (λ run. map_same_some (bucket_of z) (bucket_of v) bucket_one (option_and_then (numbered v.runs) run)) (runs_in_turn v.configs)

  -- which attempts are outstanding
  pub out_still : (link row : ℕ) → is_in_outstanding z link row ≡ is_in_outstanding v link row
  out_still link row = lookup (holds (λ (b : Attempt). is_outstanding b && (link_number b == link))) with_reset_queued (λ b. refl) n xs row

  -- calls
  next_still : (c : Call) → next_due c z ≡ next_due c v
  next_still c = due_linked (record v { attempts = ys }) z.links c ∙ next_same v n c

  read_same : map link_seen z.links ≡ map link_seen v.links
  read_same = map_changed link_seen owing (λ l. refl) (link_number a) v.links

  module _ (x : StateSeen) where
    sees_one : (c : Call) (slot : CallSlot) → SeesCall x v c slot → SeesCall x z c slot
    sees_one c slot k =
        let kept : KeepsCall c (lent_to x v slot) z
        = reset_keeps c (lent_to x v slot) v a number (record { serves = k.serves; order = k.order; turn = k.turn }) in
        record {
          bucket = k.bucket;
          serves = subst (λ (ls : List LinkSeen). Serves z c (lent slot.call (record x.book.ledger { links = ls }) (tokens_in x.book.buckets slot.bucket) [])) (sym read_same) kept.serves;
          order = kept.order;
          turn = kept.turn;
          due = ap (λ (o : Option ℕ). if is_open_call c then o else None) (next_still c) ∙ k.due;
          deadline_is = k.deadline_is;
        }

    has_one : (k : ℕ) (c : Call) → HasSlot x v c k → HasSlot x z c k
    has_one k c h = record { slot = h.slot; there = h.there; sees = sees_one c h.slot h.sees }

    -- the sets
    waiting_one : (call : ℕ) (b : Attempt) → ((b.row.call == call) && is_queued b z) ≡ ((b.row.call == call) && is_queued b v)
    waiting_one call b = ap (λ (q : Bool). (b.row.call == call) && ((is_none b.row.placed && is_none b.row.ended) && not q)) (over_same v n b)

    waiting_same : (call row : ℕ) → is_waiting z call row ≡ is_waiting v call row
    waiting_same call row =
        lookup (holds (λ (b : Attempt). (b.row.call == call) && is_queued b z)) with_reset_queued (λ b. refl) n xs row
        ∙ holds_same (λ (b : Attempt). (b.row.call == call) && is_queued b z) (λ (b : Attempt). (b.row.call == call) && is_queued b v) (waiting_one call) (numbered xs row)

    due_one : (moment : ℕ) (c : Call) → is_number moment (if is_open_call c then next_due c z else None) ≡ is_number moment (if is_open_call c then next_due c v else None)
    due_one moment c = ap (λ (o : Option ℕ). is_number moment (if is_open_call c then o else None)) (next_still c)

    dues_same : (moment call : ℕ) → is_in_dues z moment call ≡ is_in_dues v moment call
    dues_same moment call =
        holds_same (λ (c : Call). is_number moment (if is_open_call c then next_due c z else None)) (λ (c : Call). is_number moment (if is_open_call c then next_due c v else None))
        (due_one moment) (numbered v.calls call)

    sets_one : SetsAgree x v → SetsAgree x z
    sets_one h = record {
      queue = exactly_by x.queue (is_in_queue v) (is_in_queue z) h.queue (λ call row. ap (λ (b : Bool). b && not (is_ready_waiter v call)) (sym (waiting_same call row)));
      ready_waiters = exactly_by x.ready_waiters (is_in_ready_waiters v) (is_in_ready_waiters z) h.ready_waiters (λ call row. ap (λ (b : Bool). b && is_ready_waiter v call) (sym (waiting_same call row)));
      dues = exactly_by x.dues (is_in_dues v) (is_in_dues z) h.dues (λ moment call. sym (dues_same moment call));
      deadlines = exactly_by x.deadlines (is_in_deadlines v) (is_in_deadlines z) h.deadlines (λ moment call. refl);
      awaiting_config = exactly_by x.awaiting_config (is_awaiting_config v) (is_awaiting_config z) h.awaiting_config (λ zero_ call. refl);
      fail_fast = exactly_by x.fail_fast (is_in_fail_fast v) (is_in_fail_fast z) h.fail_fast (λ zero_ call. refl);
      outstanding = exactly_by x.outstanding (is_in_outstanding v) (is_in_outstanding z) h.outstanding (λ link row. sym (out_still link row));
    }

    pub books_stay : AgreesOffLinks x v → IsKept z → AgreesOffLinks x z
    books_stay h kept = record {
      clock = record { entry_is = h.clock.entry_is; moment = h.clock.moment; draws = h.clock.draws };
      columns = record {
        rows = map_changed (λ (b : Attempt). b.row) with_reset_queued (λ b. refl) n xs ∙ h.columns.rows;
        calls = map_same (call_seen z) (call_seen v) seen_one v.calls ∙ h.columns.calls;
        asks = h.columns.asks;
        generations = h.columns.generations;
        links = noted_same ∙ h.columns.links;
      };
      configs = record {
        authority = h.configs.authority;
        shut = h.configs.shut;
        held = h.configs.held;
        unconfigured = h.configs.unconfigured;
        policy = h.configs.policy;
      };
      buckets = record { runs = ap (λ (l : List (Option Bucket)). None ∷ l) runs_same ∙ h.buckets.runs; throttle = h.buckets.throttle };
      calls = record { count = h.calls.count; each = λ k c at. has_one k c (h.calls.each k c at) };
      net = same_nets_agree v z x.net (record { setup = refl; asks = refl; policies = refl; subs = refl }) h.net;
      orderly = h.orderly;
      sets = sets_one h.sets;
      kept = kept;
    }
