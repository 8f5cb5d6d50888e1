-- What makes no difference: nothing, and one thing after another.
use Rattle.std.proofs.Common.{◌≡◌, ◌∷◌, refl, ◌∙◌, true, false, List, [], Some, ℕ}
use Rattle.std.proofs.Math.Nat.{le_refl, le_trans}
use Rattle.std.specs.List.{AllByRecursion}
use Rattle.channel_actions.specs.LinkFrames.Alike.{AttemptsAreAlike, SeesNoDifference, IsAlike, IsAttemptStill, IsCallStill, IsElsewhere, IsLinkStill, Numbers, is_on}
use Rattle.channel_actions.specs.LinkFrames.Laws.{FewerSeeNone, DifferencesJoin}
use Rattle.session_actions.specs.Attempts.{call_of}
use Rattle.session_actions.specs.Writing.{accepted_bytes}
use Rattle.session_actions.specs.declared.attempt.Attempt.{Attempt}
use Rattle.session_actions.specs.declared.call.Call.{Call}
use Rattle.session_actions.specs.declared.link.Link.{Link}
use Rattle.session_actions.specs.declared.seen.Seen.{Seen}

pub link_self : (l : Link) → IsLinkStill l l
link_self l = record { same = record { number = refl; traffic_ = refl; owed = refl }; over = refl; received = refl }

link_join : (l m n : Link) → IsLinkStill l m → IsLinkStill m n → IsLinkStill l n
link_join l m n f g = record {
  same = record { number = g.same.number ∙ f.same.number; traffic_ = g.same.traffic_ ∙ f.same.traffic_; owed = g.same.owed ∙ f.same.owed };
  over = g.over ∙ f.over;
  received = g.received ∙ f.received;
}

module _ (touched : Numbers) where
  -- the call of an attempt, while it is on one of the others
  abbrev pub Continues : Seen → Seen → Attempt → Type 0
  Continues s t a = (link : ℕ) → touched link ≡ false → is_on link a ≡ true → (c : Call) → call_of a s ≡ Some c → IsCallStill s t c a

  pub self_alike : (s t : Seen) (a : Attempt) → Continues s t a → IsAlike touched s t a a
  self_alike s t a goes = record { place = refl; on = λ link apart. refl; still = λ link apart on. record { stream = refl; calls = goes link apart on } }

  pub selves_alike : (s t : Seen) (xs : List Attempt) → AllByRecursion (Continues s t) xs → AttemptsAreAlike touched s t xs xs
  selves_alike s t [] goes = tt
  selves_alike s t (a ∷ xs) goes = (self_alike s t a goes.0, selves_alike s t xs goes.1)

  -- one after the other
  still_join : (s t u : Seen) (a b c : Attempt) → IsAttemptStill s t a b → IsAttemptStill t u b c → IsAttemptStill s u a c
  still_join s t u a b c f g = record {
    stream = g.stream ∙ f.stream;
    calls = λ d e.
        let one = f.calls d e in
        let two = g.calls one.call one.is in
        record { call = two.call; is = two.is; limit = two.limit ∙ one.limit; more = le_trans one.more two.more };
  }

  one_join : (s t u : Seen) (a b c : Attempt) → IsAlike touched s t a b → IsAlike touched t u b c → IsAlike touched s u a c
  one_join s t u a b c f g = record {
    place = g.place ∙ f.place;
    on = λ link apart. g.on link apart ∙ f.on link apart;
    still = λ link apart on. still_join s t u a b c (f.still link apart on) (g.still link apart (f.on link apart ∙ on));
  }

  elsewhere_on : (t u : Seen) (bs cs : List Attempt) → AllByRecursion (IsElsewhere touched) bs → AttemptsAreAlike touched t u bs cs → AllByRecursion (IsElsewhere touched) cs
  elsewhere_on t u [] cs all are = are
  elsewhere_on t u (b ∷ bs) (c ∷ cs) all are = (λ link apart. are.0.on link apart ∙ all.0 link apart, elsewhere_on t u bs cs all.1 are.1)
  elsewhere_on t u (b ∷ bs) [] all are = absurd are

  alike_join : (s t u : Seen) (as_ bs cs : List Attempt) → AttemptsAreAlike touched s t as_ bs → AttemptsAreAlike touched t u bs cs → AttemptsAreAlike touched s u as_ cs
  alike_join s t u [] bs cs f g = elsewhere_on t u bs cs f g
  alike_join s t u (a ∷ as_) (b ∷ bs) (c ∷ cs) f g = (one_join s t u a b c f.0 g.0, alike_join s t u as_ bs cs f.1 g.1)
  alike_join s t u (a ∷ as_) (b ∷ bs) [] f g = absurd g
  alike_join s t u (a ∷ as_) [] cs f g = absurd f

  pub joined : (s t u : Seen) → SeesNoDifference touched s t → SeesNoDifference touched t u → SeesNoDifference touched s u
  joined s t u f g = record {
    links = λ link m apart got.
        let two = g.links link m apart got in
        let one = f.links link two.0 apart two.1 in
        (one.0, one.1, link_join one.0 two.0 m one.2 two.2);
    attempts = alike_join s t u s.attempts t.attempts u.attempts f.attempts g.attempts;
  }

  pub all_go : (s t : Seen) → ((a : Attempt) → Continues s t a) → (xs : List Attempt) → AllByRecursion (Continues s t) xs
  all_go s t goes [] = tt
  all_go s t goes (a ∷ xs) = (goes a, all_go s t goes xs)

  goes_self : (s : Seen) (a : Attempt) → Continues s s a
  goes_self s a link apart on c e = record { call = c; is = e; limit = refl; more = le_refl (accepted_bytes c) }

  pub no_difference : (s : Seen) → SeesNoDifference touched s s
  no_difference s = record {
    links = λ link m apart got. (m, got, link_self m);
    attempts = selves_alike s s s.attempts (all_go s s (goes_self s) s.attempts);
  }

pub differences_join : DifferencesJoin
differences_join touched s t u f g = joined touched s t u f g

-- to fewer it makes none either
module _ (touched more : Numbers) (fewer : (link : ℕ) → more link ≡ false → touched link ≡ false) (s t : Seen) where
  fewer_alike : (as_ bs : List Attempt) → AttemptsAreAlike touched s t as_ bs → AttemptsAreAlike more s t as_ bs
  fewer_alike [] [] are = tt
  fewer_alike [] (b ∷ bs) are = (λ link apart. are.0 link (fewer link apart), fewer_alike [] bs are.1)
  fewer_alike (a ∷ as_) (b ∷ bs) are = (
    record {
      place = are.0.place;
      on = λ link apart. are.0.on link (fewer link apart);
      still = λ link apart on. are.0.still link (fewer link apart) on;
    },
    fewer_alike as_ bs are.1,
  )
  fewer_alike (a ∷ as_) [] are = absurd are

  fewer_reported : SeesNoDifference touched s t → SeesNoDifference more s t
  fewer_reported f = record { links = λ link m apart got. f.links link m (fewer link apart) got; attempts = fewer_alike s.attempts t.attempts f.attempts }

pub fewer_see_none : FewerSeeNone
fewer_see_none touched more s t fewer f = fewer_reported touched more fewer s t f
