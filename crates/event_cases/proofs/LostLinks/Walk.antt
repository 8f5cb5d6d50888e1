-- The attempts of a link that is lost end one after the other, each with its resets before the next one.
use Rattle.std.proofs.Common.{◌≡◌, ◌&&◌, ◌++◌, ◌+◌, ◌<◌, ◌==◌, ◌∷◌, ap, arith, refl, subst, sym, ◌∙◌, Bool, true, false, List, [], Option, None, Some, ℕ, zero, suc, is_none, is_some, length, nat_le, nat_lt, option_map, slice_get}
use Rattle.std.proofs.lemmas.Bool.{both_ways}
use Rattle.std.proofs.lemmas.Bool.Decides.{nat_tests}
use Rattle.attempt_ledger.specs.declared.row.RowEnd.{RowEnd}
use Rattle.call_actions.proofs.Ranks.{numbered_map}
use Rattle.call_actions.specs.Laws.{news_of}
use Rattle.channel_actions.proofs.Does.{does_on, none_on}
use Rattle.call_cases.proofs.EndsFollow.Steps.{placed_of}
use Rattle.channel_actions.proofs.Links.Prefaced.Along.{prefaced_along}
use Rattle.channel_actions.proofs.KeptSessions.Along.{kept_stays}
use Rattle.channel_actions.proofs.Streams.Own.Along.{streams_along}
use Rattle.channel_actions.specs.Agrees.{Agrees}
use Rattle.channel_actions.specs.GoingCalls.Going.{CallsGoOn}
use Rattle.channel_actions.specs.GoingCalls.Laws.{LossesGoOn}
use Rattle.channel_actions.specs.KeptSessions.Kept.{IsKept}
use Rattle.channel_actions.specs.Points.{IsSameEntry}
use Rattle.channel_actions.specs.Sets.{PairsAreExactly, is_in_outstanding}
use Rattle.end_cases.proofs.AttemptEnds.Rising.{runs_stay}
use Rattle.event_cases.proofs.LostLinks.After.{link_by, over_still, quiet_still}
use Rattle.event_cases.proofs.LostLinks.Ends.{OverGoesOn, e, end_next, head, lost_goes_on, none_waits, out, there}
use Rattle.event_cases.proofs.LostLinks.First.{IsHead, IsIn, first_next, head_is, in_set, none_next, of_set}
use Rattle.event_cases.proofs.LostLinks.News.{lost_is}
use Rattle.event_cases.proofs.LostLinks.Stamped.{stamped_again, stamped_form}
use Rattle.end_cases.proofs.OwedResets.Sealed.{all_sealed_is, seal_all}
use Rattle.end_cases.proofs.OwedResets.Whole.{resets_are_made}
use Rattle.event_cases.proofs.PassedAtOnce.Acts.{Staged, actions_leave_passed, passed_then}
use Rattle.event_cases.proofs.PassedAtOnce.Along.{IsOpenAs, goes_on, losses_leave_passed}
use Rattle.end_cases.specs.AttemptEnds.Ends.{AreHeld, HasEnded, ended_in}
use Rattle.end_cases.specs.AttemptEnds.Laws.{EndsStayHeld, HasReset, OneAttemptEnds, ResetsNext, may_wait_for_resets}
use Rattle.end_cases.specs.AttemptEnds.Runs.{RunsRise}
use Rattle.event_cases.specs.LostLinks.Losses.{HasLost, LossGoesOn}
use Rattle.event_cases.specs.LostLinks.Laws.{LossesEndInTurn}
use Rattle.event_cases.specs.PassedAtOnce.Passed.{HasStream, IsPassedStill, unqueued}
use Rattle.channel_core.specs.Arrivals.{lost_row, most_rows, rows_lost, rows_lost_on}
use Rattle.channel_core.specs.States.{StateSeen}
use Rattle.channel_core.specs.Steps.{next_on, sealed, stamped_gone}
use Rattle.grpc_base.specs.declared.event.Event.TheVariants as event
use Rattle.link_actions.proofs.Ended.{is_ended}
use Rattle.link_actions.proofs.LossActions.Losses.{losses_go_in_order}
use Rattle.link_actions.proofs.Without as lists
use Rattle.link_actions.specs.LossActions.Laws.{loss_action}
use Rattle.link_actions.specs.Sees.{AttemptsStandInPlace}
use Rattle.session_actions.specs.Actions.{after, after_if}
use Rattle.session_actions.specs.AttemptEnds.{with_end}
use Rattle.session_actions.specs.Attempts.{is_outstanding}
use Rattle.session_actions.specs.Events.{is_loss}
use Rattle.session_actions.specs.Laws.{posted_in}
use Rattle.session_actions.specs.Links.{link_number}
use Rattle.session_actions.specs.Reading.{is_outstanding_on, outstanding_on}
use Rattle.session_actions.specs.Sessions.{Does}
use Rattle.session_actions.specs.Words.{holds, numbered}
use Rattle.session_actions.specs.declared.action.Action.{Action}
use Rattle.session_actions.specs.declared.action.Action.TheVariants as action
use Rattle.session_actions.specs.declared.attempt.Attempt.{Attempt}
use Rattle.session_actions.specs.declared.entry.OpenEntry.{OpenEntry}
use Rattle.session_actions.specs.declared.entry.Stage.TheVariants as stage
use Rattle.session_actions.specs.declared.link.Link.{Link}
use Rattle.session_actions.specs.declared.seen.Seen.{Seen}
use Rattle.session_order.proofs.Changed.{changed_here}
use Rattle.session_order.proofs.Lines.{lines_are_still}
use Rattle.session_order.specs.Quiescent.{IsStill}
use Rattle.session_order.specs.Lines.{is_line}
use Rattle.session_order.specs.declared.line.Line.{Line}
use Rattle.session_order.specs.declared.line.Line.TheVariants as line

-- what may wait for the resets of one end: the next end
abbrev pub end_waits : Line → Bool
end_waits l = is_line l line.WireEnd

ends_wait : (o : OpenEntry) (link : ℕ) → o.event ≡ event.LinkLost link → (l : Line) → end_waits l ≡ true → may_wait_for_resets o l ≡ true
ends_wait o link is line.WireEnd e = ap is_loss is
ends_wait o link is line.Cut e = absurd (cc)
ends_wait o link is line.Transparent e = absurd (cc)
ends_wait o link is line.Inherited e = absurd (cc)
ends_wait o link is line.Row e = absurd (cc)
ends_wait o link is line.Final e = absurd (cc)
ends_wait o link is line.Cancelled e = absurd (cc)
ends_wait o link is line.Request e = absurd (cc)
ends_wait o link is line.Overflow e = absurd (cc)
ends_wait o link is line.Head e = absurd (cc)
ends_wait o link is line.Response e = absurd (cc)
ends_wait o link is line.Pick e = absurd (cc)
ends_wait o link is line.Link e = absurd (cc)
ends_wait o link is line.Reset e = absurd (cc)
ends_wait o link is line.Shut e = absurd (cc)
ends_wait o link is line.Retire e = absurd (cc)
ends_wait o link is line.Begin e = absurd (cc)
ends_wait o link is line.Give e = absurd (cc)
ends_wait o link is line.Drop e = absurd (cc)
ends_wait o link is line.Add e = absurd (cc)

-- the runs of configs rise along
pub rises : (actions : List Action) (s t : Seen) → IsKept s → RunsRise s → Does actions s t → RunsRise t
rises [] s t kept up does = subst RunsRise (sym does) up
rises (a ∷ actions) s t kept up does = rises actions (after a s) t (kept_stays s a kept does.0) (runs_stay s a kept.book up) does.1

-- numbers
pub not_past : (row k n : ℕ) → nat_lt row k ≡ true → nat_le k n ≡ true → nat_le n (row + 0) ≡ true → ⊥
not_past row k n e f h = grind (arith, nat_tests, e, f, h)

pub one_more : (n row most k : ℕ) → nat_le n (row + suc most) ≡ true → nat_lt row k ≡ true → nat_le n (k + most) ≡ true
one_more n row most k e f = grind (arith, nat_tests, e, f)

pub beyond : (row k m : ℕ) → nat_lt row k ≡ false → nat_lt k row ≡ false → k ≡ row
beyond row k m e f = grind (arith, nat_tests, e, f)

-- the rows that may still end: beyond one, and up to the last that was made at the begin
pub record ArePast (link row n : ℕ) (s : Seen) : Type 0 where
  pub above : (k : ℕ) → is_in_outstanding s link k ≡ true → nat_lt row k ≡ true
  pub within : (k : ℕ) → is_in_outstanding s link k ≡ true → nat_le k n ≡ true

-- from one point to the end
pub record HasDone (most row link : ℕ) (x : StateSeen) (o : OpenEntry) (s : Seen) : Type 0 where
  pub actions : List Action
  pub seen : Seen
  pub entry : OpenEntry
  pub does : Does actions s seen
  pub posts : posted_in actions ≡ []
  pub same : IsSameEntry o s entry seen
  pub stage_is : entry.stage ≡ stage.Replied
  pub reply : entry.reply ≡ o.reply
  pub turn : entry.turn ≡ o.turn
  pub current : seen.current ≡ Some entry
  pub quiescent : (m : Line) → IsStill m entry seen
  pub agrees : Agrees (stamped_gone link (rows_lost most link true row x)) seen

module _ (ends : OneAttemptEnds) (stays : EndsStayHeld) (going : LossesGoOn) where
  module _ (l : Link) (x : StateSeen) (o : OpenEntry) (s : Seen) (is : LossGoesOn l x o s) (a : Attempt) (first : slice_get (outstanding_on l s) 0 ≡ Some a) where
    abbrev over_ : OverGoesOn none_waits [] l x o s
    over_ = lost_goes_on l x o s is

    abbrev act : Action
    act = action.AttemptEnds a.place (e none_waits [] l x o s over_ a first)

    pub he : HasEnded [] none_waits [] a (out none_waits [] l x o s over_ a first) x o s
    he = ends [] none_waits [] a (out none_waits [] l x o s over_ a first) x o s (end_next none_waits [] l x o s over_ a first) tt

    abbrev y : StateSeen
    y = ended_in a (news_of a (out none_waits [] l x o s over_ a first) s) x

    pub event_then : he.entry.event ≡ event.LinkLost l.number
    event_then = he.same.event ∙ is.event_is

    still_then : (k : Line) → is_line k line.Reset ≡ false → end_waits k ≡ false → IsStill k he.entry he.seen
    still_then line.Cut off w = he.still line.Cut refl
    still_then line.Transparent off w = he.still line.Transparent refl
    still_then line.Inherited off w = he.still line.Inherited refl
    still_then line.Row off w = he.still line.Row refl
    still_then line.Final off w = he.still line.Final refl
    still_then line.Cancelled off w = he.still line.Cancelled refl
    still_then line.Request off w = he.still line.Request refl
    still_then line.Overflow off w = he.still line.Overflow refl
    still_then line.Head off w = he.still line.Head refl
    still_then line.Response off w = he.still line.Response refl
    still_then line.Pick off w = he.still line.Pick refl
    still_then line.Link off w = he.still line.Link refl
    still_then line.WireEnd off w = absurd (cc)
    still_then line.Reset off w = absurd (cc)
    still_then line.Shut off w = he.late line.Shut refl refl
    still_then line.Retire off w = he.late line.Retire refl refl
    still_then line.Begin off w = he.late line.Begin refl refl
    still_then line.Give off w = he.late line.Give refl refl
    still_then line.Drop off w = he.late line.Drop refl refl
    still_then line.Add off w = he.late line.Add refl refl

    resets_next : ResetsNext end_waits [] y he.entry he.seen
    resets_next = record {
      late = ends_wait he.entry l.number event_then;
      current = he.current;
      still = still_then;
      agrees = he.agrees;
    }

    pub hr : HasReset end_waits [] y he.entry he.seen
    hr = resets_are_made end_waits [] y he.entry he.seen resets_next

    abbrev pub t : Seen
    t = hr.seen

    abbrev pub p : OpenEntry
    p = he.entry

    -- all of these actions
    abbrev these : List Action
    these = (act ∷ he.actions) ++ hr.actions

    does : Does these s t
    does = does_on (act ∷ he.actions) hr.actions s he.seen t he.does hr.does

    posts : posted_in these ≡ []
    posts = none_on (act ∷ he.actions) hr.actions he.posts hr.posts

    stage_then : he.entry.stage ≡ stage.Replied
    stage_then = he.stage ∙ is.stage_is

    -- what passed is as before
    abbrev s1 : Seen
    s1 = after act s

    opened : IsOpenAs (record { stage_ = o.stage; event_ = o.event }) s1
    opened = goes_on act o s is.current refl refl

    rest_passed : IsPassedStill s1 t
    rest_passed =
        passed_then s1 he.seen t
        (losses_leave_passed he.actions l.number opened.entry he.entry s1 he.seen he.does.1 opened.current he.current
        (ap (λ (z : Staged). z.event_) opened.stage_is ∙ is.event_is) (ap (λ (z : Staged). z.stage_) opened.stage_is ∙ is.stage_is) stage_then he.posts)
        (losses_leave_passed hr.actions l.number he.entry he.entry he.seen t hr.does he.current hr.current event_then stage_then stage_then hr.posts)

    passed : IsPassedStill s t
    passed = passed_then s s1 t (actions_leave_passed act o s is.current refl) rest_passed

    fewer : (link row : ℕ) → is_in_outstanding t link row ≡ true → is_in_outstanding s link row ≡ true
    fewer link row on = he.fewer link row (hr.fewer link row on)

    -- the attempt has ended
    ended_there : numbered s1.attempts a.place ≡ Some (with_end (e none_waits [] l x o s over_ a first) a)
    ended_there =
        ap (λ (q : Option OpenEntry). numbered (after_if q act s).attempts a.place) is.current
        ∙ ap (λ (v : Seen). numbered v.attempts a.place) (is_ended s a.place (e none_waits [] l x o s over_ a first) a is.over.places (there none_waits [] l x o s over_ a first))
        ∙ changed_here (with_end (e none_waits [] l x o s over_ a first)) a.place s.attempts a (there none_waits [] l x o s over_ a first)

    ended_out : (b : Attempt) → is_some b.row.ended ≡ true → is_outstanding b ≡ false
    ended_out b done = out_by (is_some b.row.placed) b.row.ended done
      where
        out_by : (z : Bool) (q : Option RowEnd) → is_some q ≡ true → (z && is_none q) ≡ false
        out_by true None done = absurd (cc)
        out_by true (Some k) done = refl
        out_by false q done = refl

    pub gone : (link : ℕ) → is_in_outstanding t link a.place ≡ false
    gone link =
        let h : HasStream (with_end (e none_waits [] l x o s over_ a first) a) (numbered t.attempts a.place) = rest_passed.attempts a.place (with_end (e none_waits [] l x o s over_ a first) a) ended_there in
        ap (holds (λ (b : Attempt). is_outstanding b && (link_number b == link))) h.there
        ∙ ap (λ (z : Bool). z && (link_number h.now == link)) (ended_out h.now (h.over refl))

    kept_t : IsKept t
    kept_t = hr.agrees.kept

    -- the link then
    pub found : (m : Link) × ((numbered t.links l.number ≡ Some m) × (unqueued m ≡ unqueued l))
    found =
        link_by (numbered s.links l.number) (numbered t.links l.number)
        (sym (numbered_map unqueued t.links l.number) ∙ ap (λ (ls : List Link). numbered ls l.number) passed.links ∙ numbered_map unqueued s.links l.number) l is.over.at

    abbrev pub m : Link
    m = found.0

    pub number_is : m.number ≡ l.number
    number_is = ap (λ (k : Link). k.number) found.1.1

    places_t : AttemptsStandInPlace 1 t.attempts
    places_t = placed_of 1 t.attempts kept_t.book.places

    pub lost_then : lost_row l.number true a.place x ≡ sealed y
    lost_then =
        lost_is l x s is.agrees.columns is.over.at a (there none_waits [] l x o s over_ a first) (head none_waits [] l x o s over_ a first).passes

    again : stamped_gone m.number (sealed y) ≡ sealed y
    again =
        stamped_again m (sealed y) t m.number hr.agrees.columns.links (ap (numbered t.links) number_is ∙ found.1.0)
        (ap (λ (k : Link). is_some k.over) found.1.1 ∙ is.over.over)

    held_y : AreHeld y → AreHeld (record y { links = seal_all y.resets y.links; resets = [] })
    held_y k = k

    pub on : LossGoesOn m (lost_row l.number true a.place x) p t
    on =
        subst (λ (z : StateSeen). LossGoesOn m z p t) (sym lost_then)
        (record {
          current = hr.current;
          event_is = event_then ∙ ap (λ (n : ℕ). event.LinkLost n) (sym number_is);
          stage_is = stage_then;
          still = λ k off. hr.still k off;
          over = over_still s t is.agrees.kept kept_t passed fewer l m is.over found.1.0 found.1.1 places_t;
          quiet = quiet_still s t is.agrees.kept kept_t passed fewer (is.still line.Cut refl) (hr.still line.Cut refl) l m number_is is.quiet;
          agrees = subst (λ (z : StateSeen). Agrees z t) (sym again) hr.agrees;
          unreset = hr.unreset;
          prefaced = prefaced_along these s t is.agrees.kept is.prefaced does;
          streams = streams_along these s t is.agrees.kept is.prefaced is.streams does;
          rising = rises these s t is.agrees.kept is.rising does;
          going = subst CallsGoOn lost_then (going l.number a.place true x is.going);
          held = subst AreHeld (sym (all_sealed_is [] y)) (held_y (stays a (news_of a (out none_waits [] l x o s over_ a first) s) x is.held));
        })

    -- the rows beyond
    pub past : (row n : ℕ) → ArePast l.number row n s → ArePast m.number a.place n t
    past row n before = record {
      above = λ k on. above_by k (nat_lt a.place k) refl (in_s k on) (ap (λ (z : ℕ). is_in_outstanding t z k) (sym number_is) ∙ on);
      within = λ k on. before.within k (in_s k on);
    }
      where
        in_s : (k : ℕ) → is_in_outstanding t m.number k ≡ true → is_in_outstanding s l.number k ≡ true
        in_s k on = fewer l.number k (ap (λ (z : ℕ). is_in_outstanding t z k) (sym number_is) ∙ on)

        up : (i n : ℕ) → nat_lt (suc i) (suc n) ≡ true → nat_lt i n ≡ true
        up i n e = grind (arith, nat_tests, e)

        not_first : (k : ℕ) (b : Attempt) → numbered s.attempts k ≡ Some b → is_outstanding_on l b ≡ true → (c : Bool) → nat_lt k a.place ≡ c → c ≡ false
        not_first k b at on false e = refl
        not_first zero b at on true e = absurd (cc)
        not_first (suc i) b at on true e =
            let h : IsHead (is_outstanding_on l) s.attempts a = head none_waits [] l x o s over_ a first in
            let place : a.place ≡ suc h.index = lists.place_is (suc h.index) s.attempts a is.over.places h.there in
            absurd (both_ways (is_outstanding_on l b) (h.none i b at (up i h.index (ap (nat_lt (suc i)) (sym place) ∙ e))) on)

        above_by : (k : ℕ) (c : Bool) → nat_lt a.place k ≡ c → is_in_outstanding s l.number k ≡ true → is_in_outstanding t l.number k ≡ true → c ≡ true
        above_by k true e on_s on_t = refl
        above_by k false e on_s on_t =
            let i : IsIn l s k = of_set l s k on_s in
            let same : k ≡ a.place = beyond a.place k 0 e (not_first k i.attempt i.there i.out (nat_lt k a.place) refl) in
            absurd (both_ways (is_in_outstanding t l.number k) (ap (is_in_outstanding t l.number) same ∙ gone l.number) on_t)

    pub joined : (most : ℕ) (row : ℕ) → rows_lost (suc most) l.number true row x ≡ rows_lost most l.number true a.place (lost_row l.number true a.place x)
        → HasDone most a.place m.number (lost_row l.number true a.place x) p t → HasDone (suc most) row l.number x o s
    joined most row turns k = record {
      actions = these ++ k.actions;
      seen = k.seen;
      entry = k.entry;
      does = does_on these k.actions s t k.seen does k.does;
      posts = none_on these k.actions posts k.posts;
      same = record {
        moment = k.same.moment ∙ he.same.moment;
        word = k.same.word ∙ he.same.word;
        event = k.same.event ∙ he.same.event;
        entries = k.same.entries ∙ hr.entries ∙ he.same.entries;
        setup = k.same.setup ∙ hr.setup ∙ he.same.setup;
      };
      stage_is = k.stage_is;
      reply = k.reply ∙ he.reply;
      turn = k.turn ∙ he.turn;
      current = k.current;
      quiescent = k.quiescent;
      agrees = subst (λ (z : StateSeen). Agrees (stamped_gone l.number z) k.seen) (sym turns)
          (subst (λ (n : ℕ). Agrees (stamped_gone n (rows_lost most n true a.place (lost_row l.number true a.place x))) k.seen) number_is k.agrees);
    }

  -- none is left
  module _ (l : Link) (x : StateSeen) (o : OpenEntry) (s : Seen) (is : LossGoesOn l x o s) (none : slice_get (outstanding_on l s) 0 ≡ None) where
    end_still : IsStill line.WireEnd o s
    end_still = (lines_are_still line.WireEnd o s).0 (losses_go_in_order l s is.over is.quiet ∙ ap (option_map (loss_action s)) none)

    at_end : (k : Line) → is_line k line.WireEnd ≡ true → IsStill k o s
    at_end line.WireEnd e = end_still
    at_end line.Cut e = absurd (cc)
    at_end line.Transparent e = absurd (cc)
    at_end line.Inherited e = absurd (cc)
    at_end line.Row e = absurd (cc)
    at_end line.Final e = absurd (cc)
    at_end line.Cancelled e = absurd (cc)
    at_end line.Request e = absurd (cc)
    at_end line.Overflow e = absurd (cc)
    at_end line.Head e = absurd (cc)
    at_end line.Response e = absurd (cc)
    at_end line.Pick e = absurd (cc)
    at_end line.Link e = absurd (cc)
    at_end line.Reset e = absurd (cc)
    at_end line.Shut e = absurd (cc)
    at_end line.Retire e = absurd (cc)
    at_end line.Begin e = absurd (cc)
    at_end line.Give e = absurd (cc)
    at_end line.Drop e = absurd (cc)
    at_end line.Add e = absurd (cc)

    quiescent_by : (k : Line) (b : Bool) → is_line k line.WireEnd ≡ b → IsStill k o s
    quiescent_by k true e = at_end k e
    quiescent_by k false e = is.still k e

    pub rests : (most row : ℕ) → rows_lost most l.number true row x ≡ x → HasDone most row l.number x o s
    rests most row same = record {
      actions = [];
      seen = s;
      entry = o;
      does = refl;
      posts = refl;
      same = record { moment = refl; word = refl; event = refl; entries = refl; setup = refl };
      stage_is = is.stage_is;
      reply = refl;
      turn = refl;
      current = is.current;
      quiescent = λ k. quiescent_by k (is_line k line.WireEnd) refl;
      agrees = subst (λ (z : StateSeen). Agrees (stamped_gone l.number z) s) (sym same) is.agrees;
    }

  -- which row the channel ends next
  module _ (l : Link) (x : StateSeen) (o : OpenEntry) (s : Seen) (is : LossGoesOn l x o s) (row : ℕ) (above : (k : ℕ) → is_in_outstanding s l.number k ≡ true → nat_lt row k ≡ true) where
    exact : PairsAreExactly x.outstanding (is_in_outstanding s)
    exact =
        subst (λ (pairs : List (ℕ × ℕ)). PairsAreExactly pairs (is_in_outstanding s)) (ap (λ (z : StateSeen). z.outstanding) (stamped_form l.number x)) is.agrees.sets.outstanding

    pub row_none : slice_get (outstanding_on l s) 0 ≡ None → next_on l.number row x ≡ None
    row_none none = none_next l s x.outstanding exact is.over.places row above none

    pub row_first : (a : Attempt) → slice_get (outstanding_on l s) 0 ≡ Some a → next_on l.number row x ≡ Some a.place
    row_first a first = first_next l s x.outstanding exact is.over.places row above a (head_is (is_outstanding_on l) s.attempts a first)

  rests_of : (most link row : ℕ) (x : StateSeen) → next_on link row x ≡ None → rows_lost most link true row x ≡ x
  rests_of zero link row x none = refl
  rests_of (suc most) link row x none = ap (λ (q : Option ℕ). rows_lost_on (rows_lost most link true) link true q x) none

  walk : (most row n : ℕ) (l : Link) (x : StateSeen) (o : OpenEntry) (s : Seen) (is : LossGoesOn l x o s) → ArePast l.number row n s → nat_le n (row + most) ≡ true
      → (q : Option Attempt) → slice_get (outstanding_on l s) 0 ≡ q → HasDone most row l.number x o s
  walk most row n l x o s is past_ enough None first =
      rests l x o s is first most row (rests_of most l.number row x (row_none l x o s is row past_.above first))
  walk zero row n l x o s is past_ enough (Some a) first =
      let on : is_in_outstanding s l.number a.place ≡ true = in_set l s a (there none_waits [] l x o s (lost_goes_on l x o s is) a first) (head none_waits [] l x o s (lost_goes_on l x o s is) a first).passes in
      absurd (not_past row a.place n (past_.above a.place on) (past_.within a.place on) enough)
  walk (suc most) row n l x o s is past_ enough (Some a) first =
      let on_ : is_in_outstanding s l.number a.place ≡ true = in_set l s a (there none_waits [] l x o s (lost_goes_on l x o s is) a first) (head none_waits [] l x o s (lost_goes_on l x o s is) a first).passes in
      let turns : rows_lost (suc most) l.number true row x ≡ rows_lost most l.number true a.place (lost_row l.number true a.place x)
      = ap (λ (q : Option ℕ). rows_lost_on (rows_lost most l.number true) l.number true q x) (row_first l x o s is row past_.above a first) in
      joined l x o s is a first most row turns
      (walk most a.place n (m l x o s is a first) (lost_row l.number true a.place x) (p l x o s is a first) (t l x o s is a first) (on l x o s is a first)
      (past l x o s is a first row n past_) (one_more n row most a.place enough (past_.above a.place on_))
      (slice_get (outstanding_on (m l x o s is a first) (t l x o s is a first)) 0) refl)

  -- at the begin
  within_by : (n k : ℕ) (xs : List Attempt) (f : Attempt → Bool) → holds f (numbered xs k) ≡ true → (nat_lt 0 k ≡ true) × (nat_le k (length xs) ≡ true)
  within_by n zero xs f e = absurd (cc)
  within_by n (suc i) xs f e = (positive i, long i xs e)
    where
      positive : (i : ℕ) → nat_lt 0 (suc i) ≡ true
      positive i = grind (arith, nat_tests)

      up : (i n : ℕ) → nat_le (suc i) n ≡ true → nat_le (suc (suc i)) (suc n) ≡ true
      up i n e = grind (arith, nat_tests, e)

      first : (n : ℕ) → nat_le 1 (suc n) ≡ true
      first n = grind (arith, nat_tests)

      long : (i : ℕ) (xs : List Attempt) → holds f (slice_get xs i) ≡ true → nat_le (suc i) (length xs) ≡ true
      long i [] e = absurd (cc)
      long zero (x ∷ xs) e = first (length xs)
      long (suc i) (x ∷ xs) e = up i (length xs) (long i xs e)

  enough_by : (n most : ℕ) → n < most → nat_le n (0 + most) ≡ true
  enough_by n most e = grind (arith, nat_tests, e)

  lost_by : (most : ℕ) → most_rows ≡ most → (l : Link) (x : StateSeen) (o : OpenEntry) (s : Seen) → LossGoesOn l x o s → length s.attempts < most → HasLost l.number x o s
  lost_by most is_most l x o s is few =
      let k : HasDone most 0 l.number x o s
      = walk most 0 (length s.attempts) l x o s is
      (record {
        above = λ k on. (within_by 0 k s.attempts (λ (b : Attempt). is_outstanding b && (link_number b == l.number)) on).0;
        within = λ k on. (within_by 0 k s.attempts (λ (b : Attempt). is_outstanding b && (link_number b == l.number)) on).1;
      }) (enough_by (length s.attempts) most few) (slice_get (outstanding_on l s) 0) refl in
      record {
        actions = k.actions;
        seen = k.seen;
        entry = k.entry;
        does = k.does;
        posts = k.posts;
        same = k.same;
        stage_is = k.stage_is;
        reply = k.reply;
        turn = k.turn;
        current = k.current;
        quiescent = k.quiescent;
        agrees = subst (λ (n : ℕ). Agrees (stamped_gone l.number (rows_lost n l.number true 0 x)) k.seen) (sym is_most) k.agrees;
      }

most_is : most_rows ≡ 18446744073709551615
unfolding most_rows
most_is = refl

pub losses_end_in_turn : LossesGoOn → EndsStayHeld → LossesEndInTurn
losses_end_in_turn going stays ends l x o s is few = lost_by ends stays going 18446744073709551615 most_is l x o s is few
