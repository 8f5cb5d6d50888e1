-- The attempts that GOAWAY ends end one after the other, the lowest place first.
use Rattle.std.proofs.Common.{◌≡◌, ◌++◌, ◌∷◌, ◌≤◌, refl, subst, sym, ◌∙◌, List, [], None, Option, Some, ℕ, length}
use Rattle.attempt_ledger.specs.declared.news.EndNews.{EndNews}
use Rattle.attempt_ledger.specs.declared.row.RowEnd.{RowEnd}
use Rattle.channel_actions.proofs.Does.{does_on, none_on}
use Rattle.channel_core.specs.Arrivals.{all_ended_on, ended_on}
use Rattle.channel_core.specs.States.{StateSeen}
use Rattle.end_cases.specs.AttemptEnds.Ahead.{AgreesAhead}
use Rattle.end_cases.specs.AttemptEnds.Laws.{EndsStayHeld, OneAttemptEnds}
use Rattle.event_cases.proofs.PassedAtOnce.Acts.{passed_then}
use Rattle.frame_cases.proofs.RetiredLinks.Going.{ReceivedGoesOn}
use Rattle.frame_cases.proofs.RetiredLinks.Points.{GoawayGoesOn, HasRetired, a, over_next, retired_now, same_x}
use Rattle.frame_cases.proofs.RetiredLinks.Step as step
use Rattle.session_actions.specs.declared.entry.OpenEntry.{OpenEntry}
use Rattle.session_actions.specs.declared.seen.Seen.{Seen}

module _ (link : ℕ) (whole : List ℕ) (n : ℕ) (bs : List ℕ) (at moment : ℕ) (within : n ≤ length bs) (ends : OneAttemptEnds) (stays : EndsStayHeld) (handled : ReceivedGoesOn) where
  -- one came already
  passed_over : (e : ℕ × EndNews) (es : List (ℕ × EndNews)) (x : StateSeen) (o : OpenEntry) (s : Seen) → ended_on link e.0 e.1 x ≡ x → HasRetired link whole n bs at moment es x o s
      → HasRetired link whole n bs at moment (e ∷ es) x o s
  passed_over e es x o s same k = record {
    actions = k.actions;
    seen = k.seen;
    entry_ = k.entry_;
    does = k.does;
    posts = k.posts;
    same = k.same;
    stage_is = k.stage_is;
    reply = k.reply;
    turn = k.turn;
    current = k.current;
    passed = k.passed;
    still = k.still;
    agrees = subst (λ (z : StateSeen). AgreesAhead [] (link ∷ []) (all_ended_on link es z) k.seen) (sym same) k.agrees;
  }

  -- one comes
  module _ (e : ℕ × EndNews) (es : List (ℕ × EndNews)) (x : StateSeen) (o : OpenEntry) (s : Seen) (is : GoawayGoesOn link whole n bs at moment (e ∷ es) x o s)
      (going : (a link whole n bs at moment e es x o s is).row.ended ≡ None) where
    abbrev y : StateSeen
    y = step.y link whole n bs at moment within ends stays handled e es x o s is going

    abbrev p : OpenEntry
    p = step.p link whole n bs at moment within ends stays handled e es x o s is going

    abbrev t : Seen
    t = step.t link whole n bs at moment within ends stays handled e es x o s is going

    joined : HasRetired link whole n bs at moment es y p t → HasRetired link whole n bs at moment (e ∷ es) x o s
    joined k =
        let he = step.he link whole n bs at moment within ends stays handled e es x o s is going in
        let those = step.those link whole n bs at moment within ends stays handled e es x o s is going in
        record {
          actions = those ++ k.actions;
          seen = k.seen;
          entry_ = k.entry_;
          does = does_on those k.actions s t k.seen he.does k.does;
          posts = none_on those k.actions he.posts k.posts;
          same = record {
            moment = k.same.moment ∙ he.same.moment;
            word = k.same.word ∙ he.same.word;
            event = k.same.event ∙ he.same.event;
            entries = k.same.entries ∙ he.same.entries;
            setup = k.same.setup ∙ he.same.setup;
          };
          stage_is = k.stage_is;
          reply = k.reply ∙ he.reply;
          turn = k.turn ∙ he.turn;
          current = k.current;
          passed = passed_then s t k.seen (step.passed link whole n bs at moment within ends stays handled e es x o s is going) k.passed;
          still = k.still;
          agrees = subst (λ (z : StateSeen). AgreesAhead [] (link ∷ []) (all_ended_on link es z) k.seen)
              (sym (step.ended_is link whole n bs at moment within ends stays handled e es x o s is going)) k.agrees;
        }

  first_by : (e : ℕ × EndNews) (es : List (ℕ × EndNews)) (x : StateSeen) (o : OpenEntry) (s : Seen) (is : GoawayGoesOn link whole n bs at moment (e ∷ es) x o s) (q : Option RowEnd)
      → (a link whole n bs at moment e es x o s is).row.ended ≡ q
      → ((z : StateSeen) (p_ : OpenEntry) (v : Seen) → GoawayGoesOn link whole n bs at moment es z p_ v → HasRetired link whole n bs at moment es z p_ v)
      → HasRetired link whole n bs at moment (e ∷ es) x o s
  first_by e es x o s is None going rest =
      joined e es x o s is going
      (rest (y e es x o s is going) (p e es x o s is going) (t e es x o s is going) (step.goes_next link whole n bs at moment within ends stays handled e es x o s is going))
  first_by e es x o s is (Some f) over rest =
      passed_over e es x o s (same_x link whole n bs at moment e es x o s is f over) (rest x o s (over_next link whole n bs at moment e es x o s is f over))

  pub walk : (es : List (ℕ × EndNews)) (x : StateSeen) (o : OpenEntry) (s : Seen) → GoawayGoesOn link whole n bs at moment es x o s → HasRetired link whole n bs at moment es x o s
  walk [] x o s is = retired_now link whole n bs at moment x o s is
  walk (e ∷ es) x o s is = first_by e es x o s is (a link whole n bs at moment e es x o s is).row.ended refl (λ z p_ v k. walk es z p_ v k)
