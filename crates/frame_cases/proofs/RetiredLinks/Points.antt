-- Between two ends that one GOAWAY brings: these are still owed, and nothing else follows at once but resets. One that came already, as a cut, is passed over.
use Rattle.std.proofs.Common.{◌≡◌, ◌&&◌, ◌||◌, ◌==◌, ◌∷◌, ap, arith, refl, subst, sym, ◌∙◌, Bool, true, false, List, [], None, Option, Some, ℕ, zero, suc, if◌then◌else◌, is_none, is_some, length, nat_le, nat_lt, not, slice_get}
use Rattle.std.proofs.lemmas.Bool.{and_parts, eqb-true}
use Rattle.std.proofs.lemmas.Bool.Decides.{nat_tests}
use Rattle.std.specs.List.{AllByRecursion, list_all}
use Rattle.std.specs.Option.{option_map}
use Rattle.attempt_ledger.specs.declared.news.EndNews.{EndNews}
use Rattle.attempt_ledger.specs.declared.news.News.TheVariants as news
use Rattle.attempt_ledger.specs.declared.row.Row.{Row}
use Rattle.attempt_ledger.specs.declared.row.RowEnd.{RowEnd}
use Rattle.call_cases.proofs.EndsFollow.Steps.{placed_of}
use Rattle.channel_actions.proofs.Stamps.{counted_at, numbered_map}
use Rattle.channel_actions.specs.GoingCalls.Going.{CallsGoOn}
use Rattle.channel_actions.specs.PrefacedLinks.Prefaced.{LinksArePrefaced}
use Rattle.channel_actions.specs.KeptSessions.Kept.{IsKept}
use Rattle.channel_actions.specs.OwnStreams.Own.{StreamsAreOwn}
use Rattle.channel_actions.specs.Points.{IsSameEntry}
use Rattle.channel_core.specs.Arrivals.{all_ended_on, ended_on}
use Rattle.channel_core.specs.Books.{has_ended, row_at}
use Rattle.channel_core.specs.States.{StateSeen}
use Rattle.channel_core.specs.Steps.{left_after, stamped_gone, reported}
use Rattle.end_cases.proofs.AttemptEnds.LeftLinks.{is_among}
use Rattle.end_cases.proofs.CutEnds.Ahead.{IsReady}
use Rattle.end_cases.proofs.CutEnds.LeftCuts.{AreOwned}
use Rattle.end_cases.proofs.CutEnds.LeftNext.{first_is_over}
use Rattle.end_cases.specs.AttemptEnds.Ahead.{AgreesAhead, LinksAhead}
use Rattle.end_cases.specs.AttemptEnds.Ends.{AreHeld}
use Rattle.end_cases.specs.AttemptEnds.Left.{all_left}
use Rattle.end_cases.specs.AttemptEnds.Runs.{RunsRise}
use Rattle.event_cases.proofs.PassedAtOnce.Acts.{passed_self}
use Rattle.event_cases.specs.PassedAtOnce.Passed.{IsPassedStill}
use Rattle.frame_cases.proofs.BrokenLinks.Waits.{only_ends, resets_wait}
use Rattle.frame_cases.proofs.PieceWalks.Unread.{IsUnread}
use Rattle.frame_cases.proofs.RetiredLinks.Ahead.{plain_framing, plain_reset}
use Rattle.frame_cases.proofs.RetiredLinks.Alike.{plain_alike}
use Rattle.frame_cases.proofs.RetiredLinks.Ends.{owed_end, owed_ends, places_owed}
use Rattle.frame_cases.proofs.RetiredLinks.News.{AreRising, is_above, tags}
use Rattle.frame_cases.proofs.RetiredLinks.RowsThen.{among_same}
use Rattle.frame_cases.proofs.RetiredLinks.Shapes.{IsGoawayRow, IsPlainEnd, out_for}
use Rattle.lb_policy.specs.Table.{is_one_of}
use Rattle.link_actions.specs.LossActions.Sees.{end_news}
use Rattle.link_actions.specs.Sees.{AttemptsStandInPlace}
use Rattle.session_actions.specs.AttemptEnds.{is_framing, is_reset, outcome_of}
use Rattle.session_actions.specs.Attempts.{is_outstanding, is_over}
use Rattle.session_actions.specs.Entries.{entry}
use Rattle.session_actions.specs.Laws.{posted_in}
use Rattle.session_actions.specs.Sessions.{Does}
use Rattle.session_actions.specs.Words.{numbered}
use Rattle.session_actions.specs.declared.action.Action.{Action}
use Rattle.session_actions.specs.declared.attempt.Attempt.{Attempt}
use Rattle.session_actions.specs.declared.entry.OpenEntry.{OpenEntry}
use Rattle.session_actions.specs.declared.entry.Stage.TheVariants as stage
use Rattle.session_actions.specs.declared.seen.Seen.{Seen}
use Rattle.session_order.proofs.Changed.{none_from}
use Rattle.session_order.specs.Quiescent.{IsStill, is_to_end}
use Rattle.session_order.specs.Lines.{is_line}
use Rattle.session_order.specs.declared.line.Line.{Line}
use Rattle.session_order.specs.declared.line.Line.TheVariants as line

-- places below the first, and the first itself, are not among those after it
above_off : (j k n : ℕ) → nat_lt j n ≡ true → nat_lt n k ≡ true → (k == j) ≡ false
above_off j k n e f = grind (arith, nat_tests, e, f)

above_self : (k n : ℕ) → nat_lt n k ≡ true → (k == n) ≡ false
above_self k n e = grind (arith, nat_tests, e)

either : (a b : Bool) → a ≡ false → b ≡ false → (a || b) ≡ false
either true b e f = absurd (cc)
either false b e f = f

pub low_off : (j n : ℕ) (es : List (ℕ × EndNews)) → nat_lt j n ≡ true → list_all (is_above n) es ≡ true → is_one_of (tags es) j ≡ false
low_off j n [] low all = refl
low_off j n (x ∷ es) low all =
    let k = and_parts (is_above n x) (list_all (is_above n) es) all in
    either (x.0 == j) (is_one_of (tags es) j) (above_off j x.0 n low k.0) (low_off j n es low k.1)

pub first_off : (n : ℕ) (es : List (ℕ × EndNews)) → list_all (is_above n) es ≡ true → is_one_of (tags es) n ≡ false
first_off n [] all = refl
first_off n (x ∷ es) all =
    let k = and_parts (is_above n x) (list_all (is_above n) es) all in
    either (x.0 == n) (is_one_of (tags es) n) (above_self x.0 n k.0) (first_off n es k.1)

-- a number of a list is no longer than it
pub within_list : {X : Type 0} (n : ℕ) (xs : List X) (x : X) → numbered xs n ≡ Some x → nat_le n (length xs) ≡ true
within_list zero xs x at = absurd (cc)
within_list (suc i) xs x at = by i xs at
  where
    up : (i k : ℕ) → nat_le (suc i) k ≡ true → nat_le (suc (suc i)) (suc k) ≡ true
    up i k e = grind (arith, nat_tests, e)

    first : (k : ℕ) → nat_le 1 (suc k) ≡ true
    first k = grind (arith, nat_tests)

    by : (i : ℕ) (ys : List _) → slice_get ys i ≡ Some x → nat_le (suc i) (length ys) ≡ true
    by i [] e = absurd (cc)
    by zero (y ∷ ys) e = first (length ys)
    by (suc i) (y ∷ ys) e = up i (length ys) (by i ys e)

pub ended_out : (b : Attempt) → is_some b.row.ended ≡ true → is_outstanding b ≡ false
ended_out b done = by (is_some b.row.placed) b.row.ended done
  where
    by : (p : Bool) (q : Option RowEnd) → is_some q ≡ true → (p && is_none q) ≡ false
    by true None e = absurd (cc)
    by true (Some k) e = refl
    by false q e = refl

pub off_first : (a b c : Bool) → a ≡ false → ((a && b) && c) ≡ false
off_first true b c e = absurd (cc)
off_first false b c e = refl

module _ (link : ℕ) (whole : List ℕ) (n : ℕ) (bs : List ℕ) (at moment : ℕ) where
  -- one of the ends that are owed
  pub record IsToEnd (s : Seen) (e : ℕ × EndNews) : Type 0 where
    pub row : IsGoawayRow link n s e.0
    pub news_is : e.1 ≡ end_news (out_for row.attempt) n

  pub record GoawayGoesOn (es : List (ℕ × EndNews)) (x : StateSeen) (o : OpenEntry) (s : Seen) : Type 0 where
    pub current : s.current ≡ Some o
    pub stage_is : o.stage ≡ stage.Replied
    pub unread : IsUnread link whole n bs o s
    pub going : unread.m.over ≡ None
    pub entry_is : entry s ≡ at
    pub still : (k : Line) → is_line k line.WireEnd ≡ false → resets_wait k ≡ false → IsStill k o s
    pub agrees : AgreesAhead (owed_ends at moment es) (link ∷ []) x s
    pub rising : AreRising es
    pub each : AllByRecursion (IsToEnd s) es
    pub others : (row : ℕ) (b : Attempt) → numbered s.attempts row ≡ Some b → is_one_of (tags es) row ≡ false → is_to_end s b ≡ false
    pub prefaced : LinksArePrefaced s
    pub streams : StreamsAreOwn s
    pub runs : RunsRise s
    pub calls : CallsGoOn x
    pub held : AreHeld x

  -- all of them came
  pub record HasRetired (es : List (ℕ × EndNews)) (x : StateSeen) (o : OpenEntry) (s : Seen) : Type 0 where
    pub actions : List Action
    pub seen : Seen
    pub entry_ : OpenEntry
    pub does : Does actions s seen
    pub posts : posted_in actions ≡ []
    pub same : IsSameEntry o s entry_ seen
    pub stage_is : entry_.stage ≡ stage.Replied
    pub reply : entry_.reply ≡ o.reply
    pub turn : entry_.turn ≡ o.turn
    pub current : seen.current ≡ Some entry_
    pub passed : IsPassedStill s seen
    pub still : (k : Line) → is_line k line.Reset ≡ false → IsStill k entry_ seen
    pub agrees : AgreesAhead [] (link ∷ []) (all_ended_on link es x) seen

  -- none is left
  module _ (x : StateSeen) (o : OpenEntry) (s : Seen) (is : GoawayGoesOn [] x o s) where
    end_still : IsStill line.WireEnd o s
    end_still = none_from (is_to_end s) s.attempts (λ row b got. is.others row b got refl)

    still_by : (k : Line) (b : Bool) → is_line k line.WireEnd ≡ b → is_line k line.Reset ≡ false → IsStill k o s
    still_by k true e off = only_ends o s end_still k e
    still_by k false e off = is.still k e off

    pub retired_now : HasRetired [] x o s
    retired_now = record {
      actions = [];
      seen = s;
      entry_ = o;
      does = refl;
      posts = refl;
      same = record { moment = refl; word = refl; event = refl; entries = refl; setup = refl };
      stage_is = is.stage_is;
      reply = refl;
      turn = refl;
      current = is.current;
      passed = passed_self s;
      still = λ k off. still_by k (is_line k line.WireEnd) refl off;
      agrees = is.agrees;
    }

  -- the first of them
  module _ (e : ℕ × EndNews) (es : List (ℕ × EndNews)) (x : StateSeen) (o : OpenEntry) (s : Seen) (is : GoawayGoesOn (e ∷ es) x o s) where
    abbrev pub row : ℕ
    row = e.0

    abbrev g : IsGoawayRow link n s e.0
    g = is.each.0.row

    abbrev pub a : Attempt
    a = g.attempt

    abbrev pub later : List (ℕ × RowEnd)
    later = owed_ends at moment es

    abbrev pub d : RowEnd
    d = owed_end at moment e.1

    pub kept : IsKept s
    kept = is.agrees.books.kept

    pub places : AttemptsStandInPlace 1 s.attempts
    places = placed_of 1 s.attempts kept.book.places

    pub place : a.place ≡ row
    place = counted_at (λ (b : Attempt). b.place) s.attempts row a kept.attempts g.there

    pub there : numbered s.attempts a.place ≡ Some a
    there = ap (numbered s.attempts) place ∙ g.there

    pub apart : is_among later a.place ≡ false
    apart =
        among_same later a.place ∙ ap (λ (ks : List ℕ). is_one_of ks a.place) (places_owed at moment es) ∙ ap (is_one_of (tags es)) place
        ∙ first_off row es is.rising.0

    pub ready : IsReady s
    ready = record { places = places; unreset = is.agrees.unreset; apart = is.streams.apart; numbers = kept.links; reads = kept.reads }

    pub owned : AreOwned s
    owned = kept.owned

    pub plain_d : IsPlainEnd at n d
    plain_d = record {
      entry_is = refl;
      seen_is = ap (λ (k : EndNews). k.seen) is.each.0.news_is;
      unreset = ap (λ (k : EndNews). is_reset k.cause) is.each.0.news_is ∙ plain_reset a.row.stream;
      unbroken = ap (λ (k : EndNews). is_framing k.cause) is.each.0.news_is ∙ plain_framing a.row.stream;
    }

    pub links_s : LinksAhead (link ∷ []) x (all_left ((a.place, d) ∷ later) s)
    links_s = subst (λ (k : ℕ). LinksAhead (link ∷ []) x (all_left ((k, d) ∷ later) s)) (sym place) is.agrees.links

    pub row_x : row_at x.book row ≡ Some a.row
    row_x =
        ap (λ (rows : List Row). numbered rows row) (sym is.agrees.books.columns.rows) ∙ numbered_map (λ (q : Attempt). q.row) s.attempts row
        ∙ ap (option_map (λ (q : Attempt). q.row)) g.there

    abbrev ended_then : StateSeen
    ended_then = stamped_gone link (reported row (news.Ended row e.1) (left_after link row x))

    -- it came already
    module _ (f : RowEnd) (over : a.row.ended ≡ Some f) where
      plain_f : IsPlainEnd at n f
      plain_f = subst (λ (k : ℕ). IsPlainEnd k n f) is.entry_is (g.over f over)

      pub same_x : ended_on link row e.1 x ≡ x
      same_x = ap (λ (q : Option Row). if has_ended q then x else ended_then) row_x ∙ ap (λ (q : Option RowEnd). if is_some q then x else ended_then) over

      others_by : (r : ℕ) (b : Attempt) (c : Bool) → (row == r) ≡ c → numbered s.attempts r ≡ Some b → is_one_of (tags es) r ≡ false → is_to_end s b ≡ false
      others_by r b true same got off =
          let here : row ≡ r = eqb-true row r same in
          let both : Some a ≡ Some b = sym g.there ∙ ap (numbered s.attempts) here ∙ got in
          let one : a ≡ b = (cc) in
          let done : is_some b.row.ended ≡ true = ap (λ (z : Attempt). is_some z.row.ended) (sym one) ∙ ap (λ (q : Option RowEnd). is_some q) over in
          off_first (is_outstanding b) (not (is_over b s)) (is_some (outcome_of b s)) (ended_out b done)
      others_by r b false same got off = is.others r b got (either (row == r) (is_one_of (tags es) r) same off)

      pub over_next : GoawayGoesOn es x o s
      over_next = record {
        current = is.current;
        stage_is = is.stage_is;
        unread = is.unread;
        going = is.going;
        entry_is = is.entry_is;
        still = is.still;
        agrees = record {
          books = is.agrees.books;
          links = first_is_over d f later s a there ready owned apart (plain_alike at n d f s plain_d plain_f) over (link ∷ []) x links_s;
          unreset = is.agrees.unreset;
        };
        rising = is.rising.1;
        each = is.each.1;
        others = λ r b got off. others_by r b (row == r) refl got off;
        prefaced = is.prefaced;
        streams = is.streams;
        runs = is.runs;
        calls = is.calls;
        held = is.held;
      }
