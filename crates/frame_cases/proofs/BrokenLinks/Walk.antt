-- The attempts of a link that breaks end one after the other; and then the streams are reset that this brings on other links.
use Rattle.std.proofs.Common.{◌≡◌, ◌&&◌, ◌++◌, ◌+◌, ◌<◌, ◌==◌, ◌∷◌, ap, arith, refl, subst, sym, ◌∙◌, Bool, true, false, List, [], Option, None, Some, ℕ, zero, suc, is_none, is_some, length, nat_le, nat_lt, option_map, slice_get}
use Rattle.std.proofs.lemmas.Bool.{both_ways}
use Rattle.std.proofs.lemmas.Bool.Decides.{nat_tests}
use Rattle.attempt_ledger.specs.declared.row.RowEnd.{RowEnd}
use Rattle.call_actions.specs.Laws.{news_of}
use Rattle.channel_actions.proofs.Does.{does_on, none_on}
use Rattle.call_cases.proofs.EndsFollow.Steps.{placed_of}
use Rattle.channel_actions.proofs.Links.Prefaced.Along.{prefaced_along}
use Rattle.channel_actions.proofs.Streams.Own.Along.{streams_along}
use Rattle.channel_actions.specs.Agrees.{Agrees}
use Rattle.channel_actions.specs.GoingCalls.Going.{CallsGoOn}
use Rattle.channel_actions.specs.GoingCalls.Laws.{LossesGoOn}
use Rattle.channel_actions.specs.KeptSessions.Kept.{IsKept}
use Rattle.channel_actions.specs.Points.{IsSameEntry}
use Rattle.channel_actions.specs.Sets.{PairsAreExactly, is_in_outstanding}
use Rattle.event_cases.proofs.LostLinks.After.{over_still, quiet_still}
use Rattle.event_cases.proofs.LostLinks.Ends.{OverGoesOn, e, end_next, head, none_waits, out, there}
use Rattle.event_cases.proofs.LostLinks.First.{IsHead, IsIn, first_next, head_is, in_set, none_next, of_set}
use Rattle.event_cases.proofs.LostLinks.News.{ended_is}
use Rattle.event_cases.proofs.LostLinks.Stamped.{stamped_again, stamped_form}
use Rattle.event_cases.proofs.LostLinks.Walk.{ArePast, beyond, not_past, one_more, rises}
use Rattle.end_cases.proofs.OwedResets.Whole.{resets_are_made}
use Rattle.event_cases.proofs.PassedAtOnce.Acts.{Staged, actions_leave_passed, passed_self, passed_then}
use Rattle.event_cases.proofs.PassedAtOnce.Along.{IsOpenAs, goes_on}
use Rattle.end_cases.specs.AttemptEnds.Ahead.{AgreesAhead}
use Rattle.end_cases.specs.AttemptEnds.Ends.{HasEnded, ended_in}
use Rattle.end_cases.specs.AttemptEnds.Laws.{EndsStayHeld, HasReset, OneAttemptEnds, ResetsNext, all_sealed}
use Rattle.event_cases.specs.PassedAtOnce.Passed.{HasStream, IsPassedStill, unqueued}
use Rattle.channel_core.specs.Arrivals.{lost_row, most_rows, rows_lost, rows_lost_on}
use Rattle.channel_core.specs.States.{StateSeen}
use Rattle.channel_core.specs.Steps.{next_on, stamped_gone}
use Rattle.frame_cases.proofs.BrokenLinks.Deaf.{IsDeaf, deaf_passed, deaf_stays, still_there}
use Rattle.frame_cases.proofs.BrokenLinks.Waits.{never_waits, only_ends, resets_wait, sooner_by, waits_late}
use Rattle.grpc_base.specs.declared.event.Event.TheVariants as event
use Rattle.link_actions.proofs.Ended.{is_ended}
use Rattle.link_actions.proofs.LossActions.Losses.{losses_go_in_order}
use Rattle.link_actions.proofs.Without as lists
use Rattle.link_actions.specs.LossActions.Laws.{loss_action}
use Rattle.link_actions.specs.Sees.{AttemptsStandInPlace}
use Rattle.session_actions.specs.Actions.{after, after_if}
use Rattle.session_actions.specs.AttemptEnds.{with_end}
use Rattle.session_actions.specs.Attempts.{is_outstanding}
use Rattle.session_actions.specs.Events.{is_loss}
use Rattle.session_actions.specs.Laws.{posted_in}
use Rattle.session_actions.specs.Links.{link_number}
use Rattle.session_actions.specs.Reading.{is_outstanding_on, outstanding_on}
use Rattle.session_actions.specs.Sessions.{Does}
use Rattle.session_actions.specs.Words.{holds, numbered}
use Rattle.session_actions.specs.declared.action.Action.{Action}
use Rattle.session_actions.specs.declared.action.Action.TheVariants as action
use Rattle.session_actions.specs.declared.attempt.Attempt.{Attempt}
use Rattle.session_actions.specs.declared.entry.OpenEntry.{OpenEntry}
use Rattle.session_actions.specs.declared.entry.Stage.TheVariants as stage
use Rattle.session_actions.specs.declared.link.Link.{Link}
use Rattle.session_actions.specs.declared.seen.Seen.{Seen}
use Rattle.session_order.proofs.Changed.{changed_here}
use Rattle.session_order.proofs.Lines.{lines_are_still}
use Rattle.session_order.specs.Quiescent.{IsStill}
use Rattle.session_order.specs.Lines.{is_line}
use Rattle.session_order.specs.declared.line.Line.{Line}
use Rattle.session_order.specs.declared.line.Line.TheVariants as line

-- a link that broke, between two ends of its attempts
pub record BreakGoesOn (piece : List ℕ) (also : List ℕ) (l : Link) (x : StateSeen) (o : OpenEntry) (s : Seen) : Type 0 where
  pub event_is : o.event ≡ event.Arrived l.number piece
  pub stage_is : o.stage ≡ stage.Replied
  pub goes : OverGoesOn resets_wait also l x o s

-- all of its attempts ended
pub record HasFallen (most row link : ℕ) (also : List ℕ) (x : StateSeen) (o : OpenEntry) (s : Seen) : Type 0 where
  pub actions : List Action
  pub seen : Seen
  pub entry : OpenEntry
  pub does : Does actions s seen
  pub posts : posted_in actions ≡ []
  pub same : IsSameEntry o s entry seen
  pub stage_is : entry.stage ≡ stage.Replied
  pub reply : entry.reply ≡ o.reply
  pub turn : entry.turn ≡ o.turn
  pub current : seen.current ≡ Some entry
  pub passed : IsPassedStill s seen
  pub still : (m : Line) → is_line m line.Reset ≡ false → IsStill m entry seen
  pub agrees : AgreesAhead [] also (stamped_gone link (rows_lost most link false row x)) seen

-- and then the resets are made
pub record HasBroken (also : List ℕ) (link : ℕ) (x : StateSeen) (o : OpenEntry) (s : Seen) : Type 0 where
  pub actions : List Action
  pub seen : Seen
  pub entry : OpenEntry
  pub does : Does actions s seen
  pub posts : posted_in actions ≡ []
  pub same : IsSameEntry o s entry seen
  pub stage_is : entry.stage ≡ stage.Replied
  pub reply : entry.reply ≡ o.reply
  pub turn : entry.turn ≡ o.turn
  pub current : seen.current ≡ Some entry
  pub passed : IsPassedStill s seen
  pub quiescent : (m : Line) → IsStill m entry seen
  pub agrees : Agrees (all_sealed also (stamped_gone link (rows_lost most_rows link false 0 x))) seen

module _ (piece : List ℕ) (also : List ℕ) (ends : OneAttemptEnds) (stays : EndsStayHeld) (going : LossesGoOn) where
  module _ (l : Link) (x : StateSeen) (o : OpenEntry) (s : Seen) (is : BreakGoesOn piece also l x o s) (a : Attempt) (first : slice_get (outstanding_on l s) 0 ≡ Some a) where
    abbrev g : OverGoesOn resets_wait also l x o s
    g = is.goes

    abbrev act : Action
    act = action.AttemptEnds a.place (e resets_wait also l x o s g a first)

    abbrev end : RowEnd
    end = e resets_wait also l x o s g a first

    its_place : numbered s.attempts a.place ≡ Some a
    its_place = there resets_wait also l x o s g a first

    its_head : IsHead (is_outstanding_on l) s.attempts a
    its_head = head resets_wait also l x o s g a first

    pub he : HasEnded [] resets_wait also a (out resets_wait also l x o s g a first) x o s
    he = ends [] resets_wait also a (out resets_wait also l x o s g a first) x o s (end_next resets_wait also l x o s g a first) tt

    abbrev y : StateSeen
    y = ended_in a (news_of a (out resets_wait also l x o s g a first) s) x

    abbrev pub t : Seen
    t = he.seen

    abbrev pub p : OpenEntry
    p = he.entry

    abbrev these : List Action
    these = act ∷ he.actions

    event_then : he.entry.event ≡ event.Arrived l.number piece
    event_then = he.same.event ∙ is.event_is

    stage_then : he.entry.stage ≡ stage.Replied
    stage_then = he.stage ∙ is.stage_is

    still_then : (k : Line) → is_line k line.WireEnd ≡ false → resets_wait k ≡ false → IsStill k he.entry he.seen
    still_then line.Cut off w = he.still line.Cut refl
    still_then line.Transparent off w = he.still line.Transparent refl
    still_then line.Inherited off w = he.still line.Inherited refl
    still_then line.Row off w = he.still line.Row refl
    still_then line.Final off w = he.still line.Final refl
    still_then line.Cancelled off w = he.still line.Cancelled refl
    still_then line.Request off w = he.still line.Request refl
    still_then line.Overflow off w = he.still line.Overflow refl
    still_then line.Head off w = he.still line.Head refl
    still_then line.Response off w = he.still line.Response refl
    still_then line.Pick off w = he.still line.Pick refl
    still_then line.Link off w = he.still line.Link refl
    still_then line.WireEnd off w = absurd (cc)
    still_then line.Reset off w = absurd (cc)
    still_then line.Shut off w = he.late line.Shut refl refl
    still_then line.Retire off w = he.late line.Retire refl refl
    still_then line.Begin off w = he.late line.Begin refl refl
    still_then line.Give off w = he.late line.Give refl refl
    still_then line.Drop off w = he.late line.Drop refl refl
    still_then line.Add off w = he.late line.Add refl refl

    -- what passed is as before
    abbrev s1 : Seen
    s1 = after act s

    opened : IsOpenAs (record { stage_ = o.stage; event_ = o.event }) s1
    opened = goes_on act o s g.current refl refl

    one_passed : IsPassedStill s s1
    one_passed = actions_leave_passed act o s g.current refl

    deaf : IsDeaf l.number piece o s
    deaf = record { event_is = is.event_is; l = l; here = g.over.at; over = g.over.over }

    rest_passed : IsPassedStill s1 t
    rest_passed =
        deaf_passed l.number piece he.actions opened.entry he.entry s1 he.seen he.does.1 he.posts opened.current
        (ap (λ (z : Staged). z.stage_) opened.stage_is ∙ is.stage_is) he.current stage_then
        (deaf_stays l.number piece o opened.entry s s1 deaf (ap (λ (z : Staged). z.event_) opened.stage_is) one_passed)

    passed : IsPassedStill s t
    passed = passed_then s s1 t one_passed rest_passed

    -- the attempt has ended
    ended_there : numbered s1.attempts a.place ≡ Some (with_end end a)
    ended_there =
        ap (λ (q : Option OpenEntry). numbered (after_if q act s).attempts a.place) g.current
        ∙ ap (λ (v : Seen). numbered v.attempts a.place) (is_ended s a.place end a g.over.places its_place)
        ∙ changed_here (with_end end) a.place s.attempts a its_place

    ended_out : (b : Attempt) → is_some b.row.ended ≡ true → is_outstanding b ≡ false
    ended_out b done = out_by (is_some b.row.placed) b.row.ended done
      where
        out_by : (z : Bool) (q : Option RowEnd) → is_some q ≡ true → (z && is_none q) ≡ false
        out_by true None done = absurd (cc)
        out_by true (Some k) done = refl
        out_by false q done = refl

    gone : (link : ℕ) → is_in_outstanding t link a.place ≡ false
    gone link =
        let h : HasStream (with_end end a) (numbered t.attempts a.place) = rest_passed.attempts a.place (with_end end a) ended_there in
        ap (holds (λ (b : Attempt). is_outstanding b && (link_number b == link))) h.there
        ∙ ap (λ (z : Bool). z && (link_number h.now == link)) (ended_out h.now (h.over refl))

    kept_s : IsKept s
    kept_s = g.agrees.books.kept

    kept_t : IsKept t
    kept_t = he.agrees.books.kept

    places_t : AttemptsStandInPlace 1 t.attempts
    places_t = placed_of 1 t.attempts kept_t.book.places

    -- the link then
    pub found : (m : Link) × ((numbered t.links l.number ≡ Some m) × (unqueued m ≡ unqueued l))
    found = still_there s t l.number l passed g.over.at

    abbrev pub m : Link
    m = found.0

    pub number_is : m.number ≡ l.number
    number_is = ap (λ (k : Link). k.number) found.1.1

    lost_then : lost_row l.number false a.place x ≡ y
    lost_then = ended_is l x s g.agrees.books.columns g.over.at a its_place its_head.passes

    again : stamped_gone m.number y ≡ y
    again =
        stamped_again m y t m.number he.agrees.books.columns.links (ap (numbered t.links) number_is ∙ found.1.0)
        (ap (λ (k : Link). is_some k.over) found.1.1 ∙ g.over.over)

    loses_not : is_loss he.entry.event ≡ false
    loses_not = ap is_loss event_then

    pub on : BreakGoesOn piece also m (lost_row l.number false a.place x) p t
    on =
        subst (λ (z : StateSeen). BreakGoesOn piece also m z p t) (sym lost_then)
        (record {
          event_is = event_then ∙ ap (λ (n : ℕ). event.Arrived n piece) (sym number_is);
          stage_is = stage_then;
          goes = record {
            current = he.current;
            late = waits_late;
            sooner = sooner_by (is_loss he.entry.event) loses_not;
            still = still_then;
            over = over_still s t kept_s kept_t passed he.fewer l m g.over found.1.0 found.1.1 places_t;
            quiet = quiet_still s t kept_s kept_t passed he.fewer (g.still line.Cut refl refl) (he.still line.Cut refl) l m number_is g.quiet;
            agrees = subst (λ (z : StateSeen). AgreesAhead [] also z t) (sym again) he.agrees;
            prefaced = prefaced_along these s t kept_s g.prefaced he.does;
            streams = streams_along these s t kept_s g.prefaced g.streams he.does;
            rising = rises these s t kept_s g.rising he.does;
            going = subst CallsGoOn lost_then (going l.number a.place false x g.going);
            held = stays a (news_of a (out resets_wait also l x o s g a first) s) x g.held;
          };
        })

    -- the rows beyond
    pub past : (row n : ℕ) → ArePast l.number row n s → ArePast m.number a.place n t
    past row n before = record {
      above = λ k on. above_by k (nat_lt a.place k) refl (in_s k on) (ap (λ (z : ℕ). is_in_outstanding t z k) (sym number_is) ∙ on);
      within = λ k on. before.within k (in_s k on);
    }
      where
        in_s : (k : ℕ) → is_in_outstanding t m.number k ≡ true → is_in_outstanding s l.number k ≡ true
        in_s k on = he.fewer l.number k (ap (λ (z : ℕ). is_in_outstanding t z k) (sym number_is) ∙ on)

        up : (i n : ℕ) → nat_lt (suc i) (suc n) ≡ true → nat_lt i n ≡ true
        up i n e = grind (arith, nat_tests, e)

        not_first : (k : ℕ) (b : Attempt) → numbered s.attempts k ≡ Some b → is_outstanding_on l b ≡ true → (c : Bool) → nat_lt k a.place ≡ c → c ≡ false
        not_first k b at on false e = refl
        not_first zero b at on true e = absurd (cc)
        not_first (suc i) b at on true e =
            let place : a.place ≡ suc its_head.index = lists.place_is (suc its_head.index) s.attempts a g.over.places its_head.there in
            absurd (both_ways (is_outstanding_on l b) (its_head.none i b at (up i its_head.index (ap (nat_lt (suc i)) (sym place) ∙ e))) on)

        above_by : (k : ℕ) (c : Bool) → nat_lt a.place k ≡ c → is_in_outstanding s l.number k ≡ true → is_in_outstanding t l.number k ≡ true → c ≡ true
        above_by k true e on_s on_t = refl
        above_by k false e on_s on_t =
            let i : IsIn l s k = of_set l s k on_s in
            let same : k ≡ a.place = beyond a.place k 0 e (not_first k i.attempt i.there i.out (nat_lt k a.place) refl) in
            absurd (both_ways (is_in_outstanding t l.number k) (ap (is_in_outstanding t l.number) same ∙ gone l.number) on_t)

    pub joined : (most : ℕ) (row : ℕ) → rows_lost (suc most) l.number false row x ≡ rows_lost most l.number false a.place (lost_row l.number false a.place x)
        → HasFallen most a.place m.number also (lost_row l.number false a.place x) p t → HasFallen (suc most) row l.number also x o s
    joined most row turns k = record {
      actions = these ++ k.actions;
      seen = k.seen;
      entry = k.entry;
      does = does_on these k.actions s t k.seen he.does k.does;
      posts = none_on these k.actions he.posts k.posts;
      same = record {
        moment = k.same.moment ∙ he.same.moment;
        word = k.same.word ∙ he.same.word;
        event = k.same.event ∙ he.same.event;
        entries = k.same.entries ∙ he.same.entries;
        setup = k.same.setup ∙ he.same.setup;
      };
      stage_is = k.stage_is;
      reply = k.reply ∙ he.reply;
      turn = k.turn ∙ he.turn;
      current = k.current;
      passed = passed_then s t k.seen passed k.passed;
      still = k.still;
      agrees = subst (λ (z : StateSeen). AgreesAhead [] also (stamped_gone l.number z) k.seen) (sym turns)
          (subst (λ (n : ℕ). AgreesAhead [] also (stamped_gone n (rows_lost most n false a.place (lost_row l.number false a.place x))) k.seen) number_is k.agrees);
    }

  -- none is left
  module _ (l : Link) (x : StateSeen) (o : OpenEntry) (s : Seen) (is : BreakGoesOn piece also l x o s) (none : slice_get (outstanding_on l s) 0 ≡ None) where
    end_still : IsStill line.WireEnd o s
    end_still = (lines_are_still line.WireEnd o s).0 (losses_go_in_order l s is.goes.over is.goes.quiet ∙ ap (option_map (loss_action s)) none)

    still_by : (k : Line) (b : Bool) → is_line k line.WireEnd ≡ b → is_line k line.Reset ≡ false → IsStill k o s
    still_by k true e off = only_ends o s end_still k e
    still_by k false e off = is.goes.still k e off

    pub rests : (most row : ℕ) → rows_lost most l.number false row x ≡ x → HasFallen most row l.number also x o s
    rests most row same = record {
      actions = [];
      seen = s;
      entry = o;
      does = refl;
      posts = refl;
      same = record { moment = refl; word = refl; event = refl; entries = refl; setup = refl };
      stage_is = is.stage_is;
      reply = refl;
      turn = refl;
      current = is.goes.current;
      passed = passed_self s;
      still = λ k off. still_by k (is_line k line.WireEnd) refl off;
      agrees = subst (λ (z : StateSeen). AgreesAhead [] also (stamped_gone l.number z) s) (sym same) is.goes.agrees;
    }

  -- which row the channel ends next
  module _ (l : Link) (x : StateSeen) (o : OpenEntry) (s : Seen) (is : BreakGoesOn piece also l x o s) (row : ℕ)
      (above : (k : ℕ) → is_in_outstanding s l.number k ≡ true → nat_lt row k ≡ true) where
    exact : PairsAreExactly x.outstanding (is_in_outstanding s)
    exact =
        subst (λ (pairs : List (ℕ × ℕ)). PairsAreExactly pairs (is_in_outstanding s)) (ap (λ (z : StateSeen). z.outstanding) (stamped_form l.number x)) is.goes.agrees.books.sets.outstanding

    pub row_none : slice_get (outstanding_on l s) 0 ≡ None → next_on l.number row x ≡ None
    row_none none = none_next l s x.outstanding exact is.goes.over.places row above none

    pub row_first : (a : Attempt) → slice_get (outstanding_on l s) 0 ≡ Some a → next_on l.number row x ≡ Some a.place
    row_first a first = first_next l s x.outstanding exact is.goes.over.places row above a (head_is (is_outstanding_on l) s.attempts a first)

  rests_of : (most link row : ℕ) (x : StateSeen) → next_on link row x ≡ None → rows_lost most link false row x ≡ x
  rests_of zero link row x none = refl
  rests_of (suc most) link row x none = ap (λ (q : Option ℕ). rows_lost_on (rows_lost most link false) link false q x) none

  walk : (most row n : ℕ) (l : Link) (x : StateSeen) (o : OpenEntry) (s : Seen) (is : BreakGoesOn piece also l x o s) → ArePast l.number row n s → nat_le n (row + most) ≡ true
      → (q : Option Attempt) → slice_get (outstanding_on l s) 0 ≡ q → HasFallen most row l.number also x o s
  walk most row n l x o s is past_ enough None first =
      rests l x o s is first most row (rests_of most l.number row x (row_none l x o s is row past_.above first))
  walk zero row n l x o s is past_ enough (Some a) first =
      let on : is_in_outstanding s l.number a.place ≡ true = in_set l s a (its_place l x o s is a first) (its_head l x o s is a first).passes in
      absurd (not_past row a.place n (past_.above a.place on) (past_.within a.place on) enough)
  walk (suc most) row n l x o s is past_ enough (Some a) first =
      let on_ : is_in_outstanding s l.number a.place ≡ true = in_set l s a (its_place l x o s is a first) (its_head l x o s is a first).passes in
      let turns : rows_lost (suc most) l.number false row x ≡ rows_lost most l.number false a.place (lost_row l.number false a.place x)
      = ap (λ (q : Option ℕ). rows_lost_on (rows_lost most l.number false) l.number false q x) (row_first l x o s is row past_.above a first) in
      joined l x o s is a first most row turns
      (walk most a.place n (m l x o s is a first) (lost_row l.number false a.place x) (p l x o s is a first) (t l x o s is a first) (on l x o s is a first)
      (past l x o s is a first row n past_) (one_more n row most a.place enough (past_.above a.place on_))
      (slice_get (outstanding_on (m l x o s is a first) (t l x o s is a first)) 0) refl)

  -- and then the resets
  module _ (l : Link) (x : StateSeen) (o : OpenEntry) (s : Seen) (is : BreakGoesOn piece also l x o s) (most : ℕ) (is_most : most_rows ≡ most) (f : HasFallen most 0 l.number also x o s) where
    abbrev y0 : StateSeen
    y0 = stamped_gone l.number (rows_lost most l.number false 0 x)

    resets_next : ResetsNext none_waits also y0 f.entry f.seen
    resets_next = record {
      late = never_waits f.entry;
      current = f.current;
      still = λ m off none. f.still m off;
      agrees = f.agrees;
    }

    hr : HasReset none_waits also y0 f.entry f.seen
    hr = resets_are_made none_waits also y0 f.entry f.seen resets_next

    deaf_then : IsDeaf l.number piece f.entry f.seen
    deaf_then =
        deaf_stays l.number piece o f.entry s f.seen (record { event_is = is.event_is; l = l; here = is.goes.over.at; over = is.goes.over.over }) f.same.event f.passed

    pub broken : HasBroken also l.number x o s
    broken = record {
      actions = f.actions ++ hr.actions;
      seen = hr.seen;
      entry = f.entry;
      does = does_on f.actions hr.actions s f.seen hr.seen f.does hr.does;
      posts = none_on f.actions hr.actions f.posts hr.posts;
      same = record {
        moment = f.same.moment;
        word = f.same.word;
        event = f.same.event;
        entries = hr.entries ∙ f.same.entries;
        setup = hr.setup ∙ f.same.setup;
      };
      stage_is = f.stage_is;
      reply = f.reply;
      turn = f.turn;
      current = hr.current;
      passed = passed_then s f.seen hr.seen f.passed
          (deaf_passed l.number piece hr.actions f.entry f.entry f.seen hr.seen hr.does hr.posts f.current f.stage_is hr.current f.stage_is deaf_then);
      quiescent = λ m. hr.still m refl;
      agrees = subst (λ (n : ℕ). Agrees (all_sealed also (stamped_gone l.number (rows_lost n l.number false 0 x))) hr.seen) (sym is_most) hr.agrees;
    }

  -- at the begin
  within_by : (n k : ℕ) (xs : List Attempt) (f : Attempt → Bool) → holds f (numbered xs k) ≡ true → (nat_lt 0 k ≡ true) × (nat_le k (length xs) ≡ true)
  within_by n zero xs f e = absurd (cc)
  within_by n (suc i) xs f e = (positive i, long i xs e)
    where
      positive : (i : ℕ) → nat_lt 0 (suc i) ≡ true
      positive i = grind (arith, nat_tests)

      up : (i n : ℕ) → nat_le (suc i) n ≡ true → nat_le (suc (suc i)) (suc n) ≡ true
      up i n e = grind (arith, nat_tests, e)

      first : (n : ℕ) → nat_le 1 (suc n) ≡ true
      first n = grind (arith, nat_tests)

      long : (i : ℕ) (xs : List Attempt) → holds f (slice_get xs i) ≡ true → nat_le (suc i) (length xs) ≡ true
      long i [] e = absurd (cc)
      long zero (x ∷ xs) e = first (length xs)
      long (suc i) (x ∷ xs) e = up i (length xs) (long i xs e)

  enough_by : (n most : ℕ) → n < most → nat_le n (0 + most) ≡ true
  enough_by n most e = grind (arith, nat_tests, e)

  broken_by : (most : ℕ) → most_rows ≡ most → (l : Link) (x : StateSeen) (o : OpenEntry) (s : Seen) → BreakGoesOn piece also l x o s → length s.attempts < most → HasBroken also l.number x o s
  broken_by most is_most l x o s is few =
      broken l x o s is most is_most
      (walk most 0 (length s.attempts) l x o s is
      (record {
        above = λ k on. (within_by 0 k s.attempts (λ (b : Attempt). is_outstanding b && (link_number b == l.number)) on).0;
        within = λ k on. (within_by 0 k s.attempts (λ (b : Attempt). is_outstanding b && (link_number b == l.number)) on).1;
      }) (enough_by (length s.attempts) most few) (slice_get (outstanding_on l s) 0) refl)

most_is : most_rows ≡ 18446744073709551615
unfolding most_rows
most_is = refl

pub breaks_end_in_turn : (piece also : List ℕ) (ends : OneAttemptEnds) (stays : EndsStayHeld) (going : LossesGoOn) (l : Link) (x : StateSeen) (o : OpenEntry) (s : Seen)
    → BreakGoesOn piece also l x o s → length s.attempts < 18446744073709551615 → HasBroken also l.number x o s
breaks_end_in_turn piece also ends stays going l x o s is few = broken_by piece also ends stays going 18446744073709551615 most_is l x o s is few
