-- A frame that brings a message which is too long is handled. A head came before, so its call is committed to the attempt, and no other attempt of it goes on: the call
-- ends, the attempt is cut off, and its stream is reset.
-- Example: attempt 1 of call 1 is on stream 1, and messages of its response may have 4 bytes. DATA 00 00000005 comes on stream 1. CallEnds 1, by Response; AttemptEnds 1;
-- StreamReset 1, with CANCEL.
use Rattle.std.proofs.Common.{◌≡◌, ◌==◌, ◌∷◌, ◌≤◌, ap, refl, subst, sym, ◌∙◌, Bool, true, false, List, [], None, Some, ℕ, drop, length}
use Rattle.std.specs.List.{list_all}
use Rattle.call_cases.specs.CallEnds.Ends.{AgreesToEnd, HasEnded, HasNotedLink, IsToEnd, unowed}
use Rattle.call_cases.proofs.OneCallEnds.Whole.{one_call_ends_ahead}
use Rattle.attempt_cases.proofs.DrainEvents.Rooms.{one_some}
use Rattle.channel_actions.proofs.BoardActions.Quiescent.{of_order}
use Rattle.channel_actions.specs.Agrees.{Agrees}
use Rattle.channel_actions.specs.Links.{HasLink}
use Rattle.channel_core.specs.Arrivals.{frame_received}
use Rattle.channel_core.specs.Steps.{sealed_one}
use Rattle.channel_core.specs.Tables.{sealed_link, with_link}
use Rattle.channel_core.specs.declared.state.links.LinkSlot.{LinkSlot}
use Rattle.end_cases.specs.AttemptEnds.Ahead.{AgreesOffLinks}
use Rattle.session_order.specs.declared.line.Line.{Line}
use Rattle.frame_cases.proofs.OwnFrames.Alike.{HasAlike, alike_at, sealed_same}
use Rattle.frame_cases.proofs.LargeFrames.Links as left_links
use Rattle.frame_cases.proofs.LargeFrames.Reset.{reset_then}
use Rattle.frame_cases.proofs.PassedBytes.Noted.{unchanged_at}
use Rattle.frame_cases.proofs.PieceWalks.Coming.{coming_sealed_one}
use Rattle.frame_cases.specs.PieceWalks.Points.{HasReceived, IsReadFairly}
use Rattle.grpc_base.specs.declared.event.EndCause.TheVariants as ending
use Rattle.link_actions.specs.ResponseActions.Gained.{is_listed_fairly}
use Rattle.session_actions.specs.Links.{read_bytes}
use Rattle.session_actions.specs.Sessions.{Does}
use Rattle.session_order.proofs.Quiescence.{quiescence_is_exact}
use Rattle.session_order.specs.declared.line.Line.TheVariants as line
use Rattle.channel_core.specs.States.{StateSeen}
use Rattle.channel_core.specs.Tables.{Received, received_in}
use Rattle.frame_cases.proofs.LargeFrames.Next as next_
use Rattle.frame_cases.proofs.LargeFrames.Starts as starts
use Rattle.frame_cases.proofs.QuietFrames.ReadStill as read
use Rattle.frame_cases.specs.FrameKinds.Laws.{Large, LargeMessagesAreHandled, kind_of}
use Rattle.frame_cases.specs.PieceWalks.Points.{IsReceiving, coming}
use Rattle.h2_frame.specs.Numbers.{goaway_type}
use Rattle.session_actions.specs.Words.{numbered}
use Rattle.session_actions.specs.Writing.{next_frame_read}
use Rattle.session_actions.specs.declared.action.Action.{Action}
use Rattle.session_actions.specs.declared.action.Action.TheVariants as action
use Rattle.session_actions.specs.declared.attempt.Attempt.{Attempt}
use Rattle.session_actions.specs.declared.entry.OpenEntry.{OpenEntry}
use Rattle.session_actions.specs.declared.link.Link.{Link}
use Rattle.session_actions.specs.declared.link.ReadFrame.{ReadFrame}
use Rattle.session_actions.specs.declared.seen.Seen.{Seen}

module _ (link : ℕ) (piece : List ℕ) (x : StateSeen) (o : OpenEntry) (s : Seen) (is : IsReceiving link piece x o s) (h : Received) (r : ReadFrame)
    (next : next_frame_read link s ≡ Some (action.FrameRead link r)) (receives : received_in link piece x.links ≡ Some h) (no_goaway : (r.frame.kind == goaway_type) ≡ false)
    (kind : kind_of h.news ≡ Large) where
  abbrev t : Seen
  t = starts.t link piece x o s is h r next receives no_goaway kind

  abbrev a : Attempt
  a = starts.a link piece x o s is h r next receives no_goaway kind

  abbrev number : ℕ
  number = a.row.call

  abbrev z : StateSeen
  z = starts.z link piece x o s is h r next receives no_goaway kind

  abbrev left : List ℕ
  left = drop h.taken piece

  abbrev m : Link
  m = starts.m link piece x o s is h r next receives no_goaway kind

  abbrev none_waits : Line → Bool
  none_waits k = false

  -- each link, as far as it is noted in the ledger
  noted_one : (k : ℕ) (q : Link) → numbered t.links k ≡ Some q → HasNotedLink z t q k
  noted_one = starts.noted_links link piece x o s is h r next receives no_goaway kind

  books : AgreesOffLinks z t
  books = starts.books_t link piece x o s is h r next receives no_goaway kind

  agrees_z : AgreesToEnd z t
  agrees_z = record {
    clock = books.clock;
    columns = books.columns;
    configs = books.configs;
    buckets = books.buckets;
    calls = books.calls;
    links = record { count = starts.z_count link piece x o s is h r next receives no_goaway kind; each = noted_one };
    net = books.net;
    orderly = books.orderly;
    sets = record {
      queue = books.sets.queue;
      ready_waiters = books.sets.ready_waiters;
      dues = books.sets.dues;
      deadlines = books.sets.deadlines;
      awaiting_config = books.sets.awaiting_config;
      fail_fast = books.sets.fail_fast;
      outstanding = books.sets.outstanding;
      resets = is.agrees.sets.resets;
    };
    kept = books.kept;
  }

  to_end : IsToEnd none_waits number ending.Response z o t
  to_end = record {
    late = λ k e. absurd (let bad : false ≡ true = e in let no : ⊥ = (cc) in no);
    current = refl;
    agrees = agrees_z;
    call = starts.c link piece x o s is h r next receives no_goaway kind;
    there = starts.at_c link piece x o s is h r next receives no_goaway kind;
    going = starts.open_now link piece x o s is h r next receives no_goaway kind;
    next = next_.next_t link piece x o s is h r next receives no_goaway kind;
    uncut = next_.still_t link piece x o s is h r next receives no_goaway kind line.Cut refl;
    unfollowed = next_.still_t link piece x o s is h r next receives no_goaway kind line.Transparent refl;
    still = λ k off w. next_.still_ended link piece x o s is h r next receives no_goaway kind k off;
    reset = left_links.all_reset link piece x o s is h r next receives no_goaway kind (reset_then link piece x o s is h r next receives no_goaway kind);
  }

  done : HasEnded none_waits number ending.Response z o t
  done = one_call_ends_ahead none_waits number ending.Response z o t to_end

  abbrev u : Seen
  u = done.seen

  abbrev w : StateSeen
  w = coming link left (starts.v link piece x o s is h r next receives no_goaway kind)

  agrees_w : Agrees w u
  agrees_w = subst (λ (q : StateSeen). Agrees q u) (starts.closed_is link piece x o s is h r next receives no_goaway kind) done.agrees

  -- the link then: nothing is otherwise but what it owes
  its_link : HasAlike u.links link m
  its_link = alike_at u.links t.links link m done.links (starts.there_m link piece x o s is h r next receives no_goaway kind)

  abbrev k : Link
  k = its_link.now

  here : numbered u.links link ≡ Some k
  here = its_link.there

  same : unowed k ≡ unowed m
  same = its_link.alike

  unbroken : k.over ≡ None
  unbroken = ap (λ (q : Link). q.over) same ∙ (read.shown link piece x o s is h r next receives).unbroken

  has_link : HasLink w u k link
  has_link = agrees_w.links.each link k here

  same_w : sealed_one link w ≡ w
  same_w =
      ap (λ (ls : List LinkSlot). record w { links = ls })
      (unchanged_at (with_link sealed_link) link w.links
      (λ q got.
      sealed_same q (subst (λ (b : LinkSlot). b.link.link.wire.queue.fresh ≡ 0) (one_some has_link.slot q (numbered w.links link) has_link.there got) (has_link.sees.going unbroken).closed)))

  final : coming link left (frame_received link h x) ≡ w
  final = ap (coming link left) (starts.received_is link piece x o s is h r next receives no_goaway kind) ∙ sym (coming_sealed_one link left link (starts.v link piece x o s is h r next receives no_goaway kind)) ∙ same_w

  fair_m : IsReadFairly m
  fair_m = read.fair_now link piece x o s is h r next receives

  pub received_large : HasReceived link left (frame_received link h x) o s
  received_large = record {
    actions = action.FrameRead link r ∷ next_.act link piece x o s is h r next receives no_goaway kind ∷ done.actions;
    seen = u;
    entry = o;
    does = (read.follows link piece x o s is h r next receives, subst (λ (q : Seen). Does (next_.act link piece x o s is h r next receives no_goaway kind ∷ done.actions) q u) (sym (read.after_is link piece x o s is h r next receives)) done.does);
    posts = done.posts;
    same = record { moment = refl; word = refl; event = refl; entries = done.entries; setup = done.setup };
    at = record { current = done.current; stage_is = is.at.stage_is; quiescent = of_order quiescence_is_exact o u (λ q. done.still q refl) };
    reply = refl;
    fresh = is.fresh;
    link_ = k;
    here = here;
    fair = record {
      within = subst (λ (q : Link). read_bytes q ≤ length q.received) (sym same) fair_m.within;
      listed = ap (λ (q : Link). list_all is_listed_fairly q.traffic) same ∙ fair_m.listed;
    };
    few = subst (λ (q : Link). length q.received ≤ 18446744073709551615) (sym same) is.few;
    left = λ e. ap (λ (q : Link). drop (read_bytes q) q.received) same ∙ read.left_is link piece x o s is h r next receives;
    agrees = subst (λ (q : StateSeen). Agrees q u) (sym final) agrees_w;
  }

pub large_frames_are_handled : LargeMessagesAreHandled
large_frames_are_handled link piece x o s a h is next receives case =
    received_large link piece x o s is h case.frame (next ∙ ap (λ (b : Action). Some b) case.is) receives case.stays case.kind_is
