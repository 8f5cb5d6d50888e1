-- GOAWAY is handled.
use Rattle.std.proofs.Common.{◌≡◌, ◌&&◌, ◌++◌, ◌==◌, ◌∷◌, ◌≤◌, ap, refl, subst, sym, ◌∙◌, Bool, true, false, List, [], None, Option, Some, ℕ, drop, is_none, is_some, length, option_map}
use Rattle.std.proofs.lemmas.Bool.{and_parts, eqb-true}
use Rattle.std.specs.List.{AllByRecursion, list_all}
use Rattle.attempt_ledger.specs.declared.news.EndNews.{EndNews}
use Rattle.attempt_ledger.specs.declared.row.Placed.{Placed}
use Rattle.attempt_ledger.specs.declared.row.RowEnd.{RowEnd}
use Rattle.call_cases.specs.EndsFollow.Cuts.{NoStreamIsToReset}
use Rattle.channel_actions.proofs.BoardActions.Quiescent.{of_order}
use Rattle.channel_actions.proofs.Does.{does_on, none_on}
use Rattle.channel_actions.proofs.Links.Prefaced.Along.{prefaced_along}
use Rattle.channel_actions.proofs.Streams.Own.Along.{streams_along}
use Rattle.channel_actions.proofs.Refusing.{none_numbered}
use Rattle.channel_actions.specs.Agrees.{Agrees}
use Rattle.channel_actions.specs.BoardActions.Boards.{IsBoarded}
use Rattle.channel_actions.specs.Links.{HasLink}
use Rattle.channel_actions.specs.SoundBuffers.Laws.{EachHoldsSoundly}
use Rattle.channel_core.specs.Arrivals.{all_ended_on, frame_received}
use Rattle.channel_core.specs.States.{StateSeen}
use Rattle.channel_core.specs.Tables.{Received, received_in}
use Rattle.channel_core.specs.declared.state.links.LinkSlot.{LinkSlot}
use Rattle.end_cases.proofs.OwedResets.Sealed.{all_sealed_is, seal_at}
use Rattle.end_cases.proofs.OwedResets.Whole.{resets_are_made}
use Rattle.end_cases.specs.AttemptEnds.Ahead.{HasLinkAhead}
use Rattle.end_cases.specs.AttemptEnds.Ends.{AreHeld}
use Rattle.end_cases.specs.AttemptEnds.Laws.{EndsStayHeld, HasReset, OneAttemptEnds, ResetsNext, all_sealed}
use Rattle.end_cases.specs.AttemptEnds.Runs.{RunsOfSessions, RunsRise}
use Rattle.event_cases.proofs.LostLinks.Ends.{none_waits}
use Rattle.event_cases.proofs.PassedAtOnce.Acts.{passed_then}
use Rattle.event_cases.specs.PassedAtOnce.Passed.{IsPassedStill, unqueued}
use Rattle.frame_cases.proofs.BrokenLinks.Deaf.{still_there}
use Rattle.frame_cases.proofs.BrokenLinks.Received.{held_known}
use Rattle.frame_cases.proofs.BrokenLinks.Waits.{never_waits}
use Rattle.frame_cases.proofs.EndedFrames.OneEnd.{IsLeft, left_in, seal_keeps}
use Rattle.frame_cases.proofs.PieceWalks.Unread.{IsUnread, unread_passed, unread_stays}
use Rattle.frame_cases.proofs.QuietFrames.ReadStill as read
use Rattle.frame_cases.proofs.RetiredLinks.After.{after_goaway}
use Rattle.frame_cases.proofs.RetiredLinks.Ahead as ahead_
use Rattle.frame_cases.proofs.RetiredLinks.Ends as ends_
use Rattle.frame_cases.proofs.RetiredLinks.Ends.{IsEndOf}
use Rattle.frame_cases.proofs.RetiredLinks.Going.{ReceivedGoesOn}
use Rattle.link_actions.specs.ReaderActions.Laws.{GoawaysLeaveReaders}
use Rattle.link_actions.specs.ResetActions.Laws.{GoawaysGoAhead, GoawaysOweResets}
use Rattle.frame_cases.proofs.RetiredLinks.News.{tags}
use Rattle.frame_cases.proofs.RetiredLinks.Points.{GoawayGoesOn, HasRetired, IsToEnd}
use Rattle.frame_cases.proofs.RetiredLinks.Shapes.{AfterGoaway, out_for}
use Rattle.frame_cases.proofs.RetiredLinks.Starts as starts
use Rattle.frame_cases.proofs.RetiredLinks.Report.{frame_is}
use Rattle.frame_cases.proofs.RetiredLinks.Walk.{walk}
use Rattle.frame_cases.specs.PieceWalks.Points.{HasReceived, IsReceiving, IsReadFairly}
use Rattle.frame_cases.specs.RetiredLinks.Laws.{RetiredLinksAreHandled}
use Rattle.h2_frame.specs.Numbers.{goaway_type}
use Rattle.h2_frame.specs.Payloads.{last_stream}
use Rattle.lb_policy.specs.Table.{is_one_of}
use Rattle.link_actions.specs.LossActions.Sees.{end_news}
use Rattle.link_actions.specs.ResponseActions.Gained.{is_listed_fairly}
use Rattle.link_actions.specs.ResponseActions.Laws.{seen_at}
use Rattle.session_actions.specs.AttemptEnds.{outcome_of}
use Rattle.session_actions.specs.Entries.{entry, now}
use Rattle.session_actions.specs.Links.{read_bytes}
use Rattle.session_actions.specs.Reading.{is_outstanding_on}
use Rattle.session_actions.specs.Words.{holds, numbered}
use Rattle.session_actions.specs.Writing.{next_frame_read}
use Rattle.session_actions.specs.declared.action.Action.{Action}
use Rattle.session_actions.specs.declared.action.Action.TheVariants as action
use Rattle.session_actions.specs.declared.attempt.Attempt.{Attempt}
use Rattle.session_actions.specs.declared.entry.OpenEntry.{OpenEntry}
use Rattle.session_actions.specs.declared.link.Link.{Link}
use Rattle.session_actions.specs.declared.link.LinkOver.{LinkOver}
use Rattle.session_actions.specs.declared.link.ReadFrame.{ReadFrame}
use Rattle.session_actions.specs.declared.seen.Seen.{Seen}
use Rattle.session_order.proofs.Quiescence.{quiescence_is_exact}
use Rattle.session_order.specs.Quiescent.{is_to_end}

-- an attempt that is outstanding on a link
pub record IsOutOn (n : ℕ) (a : Attempt) : Type 0 where
  pub at : Placed
  pub placed : a.row.placed ≡ Some at
  pub here : at.link ≡ n
  pub going : a.row.ended ≡ None

out_by : (n : ℕ) (p : Option Placed) (e : Option RowEnd) → ((is_some p && is_none e) && holds (λ (at : Placed). at.link == n) p) ≡ true
    → (at : Placed) × ((p ≡ Some at) × ((at.link ≡ n) × (e ≡ None)))
out_by n None e h = absurd (cc)
out_by n (Some at) (Some end) h = absurd (cc)
out_by n (Some at) None h = (at, (refl, (eqb-true at.link n h, refl)))

out_on : (l : Link) (a : Attempt) → is_outstanding_on l a ≡ true → IsOutOn l.number a
out_on l a out = let k = out_by l.number a.row.placed a.row.ended out in record { at = k.0; placed = k.1.0; here = k.1.1.0; going = k.1.1.1 }

over_by : (o : Option LinkOver) (b : Bool) → is_some o ≡ b → b ≡ false → o ≡ None
over_by None b e f = refl
over_by (Some why) b e f = absurd (let bad : true ≡ false = e ∙ f in (cc))

none_of : (o : Option LinkOver) → o ≡ None → is_none o ≡ true
none_of o e = ap (λ (q : Option LinkOver). is_none q) e

never : {Y : Type 0} (e : RowEnd) (q : Option RowEnd) → q ≡ None → q ≡ Some e → Y
never e q none some = absurd (let bad : None ≡ Some e = sym none ∙ some in let no : ⊥ = (cc) in no)

module _ (holds_soundly : EachHoldsSoundly) (runs : RunsOfSessions) (stays : EndsStayHeld) (handled : ReceivedGoesOn) (ahead : GoawaysGoAhead) (owes : GoawaysOweResets)
    (readers : GoawaysLeaveReaders) (ends : OneAttemptEnds) (link : ℕ) (piece : List ℕ) (x : StateSeen) (o : OpenEntry) (s : Seen) (is : IsReceiving link piece x o s) (h : Received)
    (r : ReadFrame) (next : next_frame_read link s ≡ Some (action.FrameRead link r)) (receives : received_in link piece x.links ≡ Some h) (goes : (r.frame.kind == goaway_type) ≡ true) where
  abbrev l : Link
  l = is.l

  abbrev m : Link
  m = read.m link piece x o s is h r next receives

  abbrev t : Seen
  t = read.t link piece x o s is h r next receives

  abbrev last : ℕ
  last = last_stream r.frame.payload

  said : AfterGoaway l m s t last
  said = after_goaway link piece x o s is h r next receives goes

  abbrev t1 : Seen
  t1 = starts.t1 link piece x o s is h r next receives goes said

  abbrev z1 : StateSeen
  z1 = starts.z1 link piece x o s is h r next receives goes said

  abbrev these : List (ℕ × EndNews)
  these = ahead_.these link piece x o s is h r next receives goes said

  abbrev n : ℕ
  n = read_bytes m

  abbrev bs : List ℕ
  bs = m.received

  own : m.number ≡ link
  own = read.own link piece x o s is h r next receives

  fair_m : IsReadFairly m
  fair_m = read.fair_now link piece x o s is h r next receives

  dn_boarded : IsBoarded t t1
  dn_boarded = (starts.dn link piece x o s is h r next receives goes said).boarded

  attempts_same : t1.attempts ≡ s.attempts
  attempts_same = ap (λ (v : Seen). v.attempts) dn_boarded

  there_t1 : numbered t1.links link ≡ Some m
  there_t1 = ap (λ (ls : List Link). numbered ls link) (starts.dn link piece x o s is h r next receives goes said).links ∙ starts.there_m link piece x o s is h r next receives goes said

  -- the ends that are owed
  outcome_same : (a : Attempt) → outcome_of a t1 ≡ outcome_of a t
  outcome_same a =
      ap (λ (v : Seen). outcome_of a v) dn_boarded
      ∙ ap (λ (ls : List Link). outcome_of a (record t { links = ls })) (starts.dn link piece x o s is h r next receives goes said).links

  end_same : (a : Attempt) → is_to_end t1 a ≡ is_to_end t a
  end_same a =
      ap (λ (v : Seen). is_to_end v a) dn_boarded
      ∙ ap (λ (ls : List Link). is_to_end (record t { links = ls }) a) (starts.dn link piece x o s is h r next receives goes said).links

  one_end : (e : ℕ × EndNews) → IsEndOf l s last (seen_at r) e → IsToEnd link is.whole n bs (entry t) (now t) t1 e
  one_end e k =
      let out : IsOutOn l.number k.attempt = out_on l k.attempt (and_parts (is_outstanding_on l k.attempt) _ k.left).0 in
      record {
        row = record {
          attempt = k.attempt;
          there = ap (λ (xs : List Attempt). numbered xs e.0) attempts_same ∙ k.there;
          at = out.at;
          placed = out.placed;
          here = out.here ∙ own;
          goes = λ none. outcome_same k.attempt ∙ said.left e.0 k.attempt k.there k.left;
          over = λ f over. never f k.attempt.row.ended out.going over;
        };
        news_is = k.news_is ∙ ap (end_news (out_for k.attempt)) (ahead_.seen_is link piece x o s is h r next receives goes said);
      }

  all_ends : (es : List (ℕ × EndNews)) → AllByRecursion (IsEndOf l s last (seen_at r)) es → AllByRecursion (IsToEnd link is.whole n bs (entry t) (now t) t1) es
  all_ends [] all = tt
  all_ends (e ∷ es) all = (one_end e all.0, all_ends es all.1)

  others_by : (row : ℕ) (b : Attempt) → numbered t1.attempts row ≡ Some b → is_one_of (tags these) row ≡ false → is_to_end t1 b ≡ false
  others_by row b got off =
      let got_s : numbered s.attempts row ≡ Some b = ap (λ (xs : List Attempt). numbered xs row) (sym attempts_same) ∙ got in
      end_same b
      ∙ said.others row b got_s
      (sym (ends_.tags_at l s last (seen_at r) h.news (starts.places link piece x o s is h r next receives goes said) (starts.news_are link piece x o s is h r next receives goes said) row b got_s) ∙ off)

  rising_s : RunsRise s
  rising_s = runs is.known.reached.setup is.known.reached.actions s is.known.reached.does

  held_x : AreHeld x
  held_x = held_known holds_soundly x is.known.calls is.known.buffers

  unread_t1 : IsUnread link is.whole n bs o t1
  unread_t1 = record { event_is = is.event_is; m = m; here = there_t1; own = own; came = refl; read = refl }

  begins : GoawayGoesOn link is.whole n bs (entry t) (now t) these z1 o t1
  unfolding unread_t1
  begins = record {
    current = (starts.dn link piece x o s is h r next receives goes said).current;
    stage_is = is.at.stage_is;
    unread = unread_t1;
    going = starts.going_m link piece x o s is h r next receives goes said;
    entry_is = starts.entry_same link piece x o s is h r next receives goes said;
    still = λ k off waits. (starts.dn link piece x o s is h r next receives goes said).still k off;
    agrees = record {
      books = starts.books link piece x o s is h r next receives goes said;
      links = ahead_.links1 link piece x o s is h r next receives goes said ahead owes readers;
      unreset = subst NoStreamIsToReset (sym dn_boarded) is.known.early.resets;
    };
    rising = ends_.rising l s last (seen_at r) h.news (starts.places link piece x o s is h r next receives goes said) (starts.news_are link piece x o s is h r next receives goes said);
    each = all_ends these
        (ends_.each_end l s last (seen_at r) h.news (starts.places link piece x o s is h r next receives goes said) (starts.news_are link piece x o s is h r next receives goes said));
    others = others_by;
    prefaced = prefaced_along (starts.those link piece x o s is h r next receives goes said) s t1 is.agrees.kept is.known.prefaced (starts.does link piece x o s is h r next receives goes said);
    streams = streams_along (starts.those link piece x o s is h r next receives goes said) s t1 is.agrees.kept is.known.prefaced is.known.streams
        (starts.does link piece x o s is h r next receives goes said);
    runs = subst RunsRise (sym dn_boarded) rising_s;
    calls = record { calls = is.known.going.calls; allows = is.known.going.allows };
    held = λ number slot got. held_x number slot got;
  }

  walked : HasRetired link is.whole n bs (entry t) (now t) these z1 o t1
  walked = walk link is.whole n bs (entry t) (now t) fair_m.within ends stays handled these z1 o t1 begins

  -- and then the resets
  abbrev y : StateSeen
  y = all_ended_on link these z1

  resets_next : ResetsNext none_waits (link ∷ []) y walked.entry_ walked.seen
  resets_next = record { late = never_waits walked.entry_; current = walked.current; still = λ k off none. walked.still k off; agrees = walked.agrees }

  hr : HasReset none_waits (link ∷ []) y walked.entry_ walked.seen
  hr = resets_are_made none_waits (link ∷ []) y walked.entry_ walked.seen resets_next

  -- the link once all have ended
  ended_link : (k : Link) × ((numbered walked.seen.links link ≡ Some k) × (unqueued k ≡ unqueued m))
  ended_link = still_there t1 walked.seen link m walked.passed there_t1

  was : HasLinkAhead y walked.seen ended_link.0 link
  was = walked.agrees.links.each link ended_link.0 ended_link.1.0

  abbrev slot : LinkSlot
  slot = was.slot

  going_then : ended_link.0.over ≡ None
  going_then = ap (λ (k : Link). k.over) ended_link.1.1 ∙ starts.going_m link piece x o s is h r next receives goes said

  left_then : slot.link.link.rest ≡ drop n bs
  left_then = sym (was.sees.going going_then).rest ∙ ap (λ (k : Link). drop (read_bytes k) k.received) ended_link.1.1

  sealed_left : option_map left_in (numbered (all_sealed (link ∷ []) y).links link) ≡ Some (left_in slot)
  sealed_left =
      ap (λ (v : StateSeen). option_map left_in (numbered v.links link)) (all_sealed_is (link ∷ []) y) ∙ ap (option_map left_in) (seal_at link ((link ∷ []) ++ y.resets) y.links)
      ∙ seal_keeps link ((link ∷ []) ++ y.resets) (numbered y.links link) ∙ ap (option_map left_in) was.there

  found : (k : Link) × (numbered hr.seen.links link ≡ Some k)
  found = by (numbered hr.seen.links link) refl
    where
      by : (q : Option Link) → numbered hr.seen.links link ≡ q → (k : Link) × (numbered hr.seen.links link ≡ Some k)
      by (Some k) e = (k, e)
      by None e =
          let none : numbered (all_sealed (link ∷ []) y).links link ≡ None
          = none_numbered hr.seen.links (all_sealed (link ∷ []) y).links link hr.agrees.links.count e in
          absurd (let bad : None ≡ Some (left_in slot) = sym (ap (option_map left_in) none) ∙ sealed_left in (cc))

  abbrev k : Link
  k = found.0

  sees_k : HasLink (all_sealed (link ∷ []) y) hr.seen k link
  sees_k = hr.agrees.links.each link k found.1

  same_then : left_in sees_k.slot ≡ left_in slot
  same_then = let both : Some (left_in sees_k.slot) ≡ Some (left_in slot) = sym (ap (option_map left_in) sees_k.there) ∙ sealed_left in (cc)

  going_k : k.over ≡ None
  going_k =
      over_by k.over sees_k.slot.dead sees_k.sees.over
      (ap (λ (q : IsLeft). q.dead) same_then ∙ sym was.sees.over ∙ ap (λ (q : Option LinkOver). is_some q) going_then)

  left_k : drop (read_bytes k) k.received ≡ drop n bs
  left_k = (sees_k.sees.going going_k).rest ∙ ap (λ (q : IsLeft). q.rest) same_then ∙ left_then

  resets_passed : IsPassedStill walked.seen hr.seen
  resets_passed =
      unread_passed link is.whole n bs hr.actions walked.entry_ walked.entry_ walked.seen hr.seen hr.does hr.posts walked.current walked.stage_is hr.current walked.stage_is
      (unread_stays link is.whole n bs o walked.entry_ t1 walked.seen unread_t1 walked.same.event walked.passed) fair_m.within k found.1 left_k (none_of k.over going_k)

  passed : IsPassedStill t1 hr.seen
  passed = passed_then t1 walked.seen hr.seen walked.passed resets_passed

  last_link : (q : Link) × ((numbered hr.seen.links link ≡ Some q) × (unqueued q ≡ unqueued m))
  last_link = still_there t1 hr.seen link m passed there_t1

  abbrev those : List Action
  those = starts.those link piece x o s is h r next receives goes said

  pub received_goaway : HasReceived link (drop h.taken piece) (frame_received link h x) o s
  received_goaway = record {
    actions = those ++ (walked.actions ++ hr.actions);
    seen = hr.seen;
    entry = walked.entry_;
    does = does_on those (walked.actions ++ hr.actions) s t1 hr.seen (starts.does link piece x o s is h r next receives goes said)
        (does_on walked.actions hr.actions t1 walked.seen hr.seen walked.does hr.does);
    posts = none_on those (walked.actions ++ hr.actions) (starts.dn link piece x o s is h r next receives goes said).posts (none_on walked.actions hr.actions walked.posts hr.posts);
    same = record {
      moment = walked.same.moment;
      word = walked.same.word;
      event = walked.same.event;
      entries = hr.entries ∙ walked.same.entries ∙ ap (λ (v : Seen). v.entries) dn_boarded;
      setup = hr.setup ∙ walked.same.setup ∙ ap (λ (v : Seen). v.setup) dn_boarded;
    };
    at = record { current = hr.current; stage_is = walked.stage_is; quiescent = of_order quiescence_is_exact walked.entry_ hr.seen (λ q. hr.still q refl) };
    reply = walked.reply;
    fresh = walked.turn ∙ is.fresh;
    link_ = last_link.0;
    here = last_link.1.0;
    fair = record {
      within = subst (λ (q : Link). read_bytes q ≤ length q.received) (sym last_link.1.1) fair_m.within;
      listed = ap (λ (q : Link). list_all is_listed_fairly q.traffic) last_link.1.1 ∙ fair_m.listed;
    };
    few = subst (λ (q : Link). length q.received ≤ 18446744073709551615) (sym last_link.1.1) is.few;
    left = λ e. ap (λ (q : Link). drop (read_bytes q) q.received) last_link.1.1 ∙ read.left_is link piece x o s is h r next receives;
    agrees = subst (λ (v : StateSeen). Agrees v hr.seen) (sym (frame_is link piece x o s is h r next receives goes said)) hr.agrees;
  }

pub retired_links_are_handled : EachHoldsSoundly → RunsOfSessions → EndsStayHeld → ReceivedGoesOn → GoawaysGoAhead → GoawaysOweResets → GoawaysLeaveReaders → RetiredLinksAreHandled
retired_links_are_handled holds_soundly runs stays handled ahead owes readers ends link piece x o s a h is next receives case =
    received_goaway holds_soundly runs stays handled ahead owes readers ends link piece x o s is h case.frame (next ∙ ap (λ (b : Action). Some b) case.is) receives case.goes
